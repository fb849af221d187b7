use Rattle.std.proofs.Common.{◌≡◌, ◌∙◌, ℕ, Vec, Global, List, replicate, slice_get, sym, ap, arith}
use Rattle.ctr_pool.specs.declared.memory.Sheet.{Sheet}
use Rattle.ctr_pool.specs.Memory.{held_on}
use Rattle.ctr_pool.proofs.MemoryLaws.{fault_counted, sheet_read, none}
use Rattle.ctr_pool.proofs.memory.MemoryBacking.load.Goals as goal

pub returns-then-not-begins-clause-faults : goal.returns-then-not-begins-clause-faults
returns-then-not-begins-clause-faults c = fault_counted c.args.self.now.faults c.begins.new.self.faults c.begins.ensures.later (c.begins.ensures.failed c.if-not-begins.true)

pub returns-then-at-len-clause-loaded : goal.returns-then-at-len-clause-loaded
returns-then-at-len-clause-loaded c told =
    let l = c.begins.new.self.sheets.items in
    let same : c.args.self.now.sheets.items ≡ l = ap (λ (v : Vec Sheet Global). v.items) (sym c.begins.ensures.sheets) in
    ap (λ (k : List Sheet). held_on (slice_get k c.args.page)) same
    ∙ sheet_read l c.args.page c.index.result.now c.index-then-at-len.result.now c.copy_from_slice.new.self (omega (arith, c.if-at-len.true, c.len.ensures)) c.index.ensures c.index-then-at-len.ensures (c.copy_from_slice.ensures.after ∙ c.as_slice.ensures.bytes)

pub returns-clause-loaded : goal.returns-clause-loaded
returns-clause-loaded c told =
    let l = c.begins.new.self.sheets.items in
    let same : c.args.self.now.sheets.items ≡ l = ap (λ (v : Vec Sheet Global). v.items) (sym c.begins.ensures.sheets) in
    ap (λ (k : List Sheet). held_on (slice_get k c.args.page)) same
    ∙ ap held_on (none l c.args.page (omega (arith, c.if-at-len.false, c.len.ensures)))
    ∙ ap (λ (b : List ℕ). record { lsn = 0; body = b }) (sym (c.clear_all.ensures.zeros ∙ ap (λ (n : ℕ). replicate n 0) c.requires))
