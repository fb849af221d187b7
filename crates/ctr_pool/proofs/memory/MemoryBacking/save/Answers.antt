use Rattle.std.proofs.Common.{◌≡◌, ◌<◌, ◌∙◌, ℕ, Vec, Global, List, length, slice_get, sym, ap, arith}
use Rattle.ctr_pool.specs.declared.memory.Sheet.{Sheet}
use Rattle.ctr_pool.specs.Memory.{held_on}
use Rattle.ctr_pool.proofs.MemoryLaws.{fault_counted, set_there, set_other}
use Rattle.ctr_pool.proofs.memory.MemoryBacking.save.Goals as goal

pub returns-then-not-begins-clause-faults : goal.returns-then-not-begins-clause-faults
returns-then-not-begins-clause-faults c = fault_counted c.args.self.now.faults c.begins.new.self.faults c.begins.ensures.later (c.begins.ensures.failed c.if-not-begins.true)

pub returns-clause-saved : goal.returns-clause-saved
returns-clause-saved c told =
    let l = c.begins.new.self.sheets.items in
    let same : c.args.self.now.sheets.items ≡ l = ap (λ (v : Vec Sheet Global). v.items) (sym c.begins.ensures.sheets) in
    let x : Sheet = record { lsn = c.args.lsn; body = c.set.new.self } in
    let t = c.requires.takes told in
    let inside : c.args.page < length l = omega (arith, t.2, ap length same) in
    record {
      there = ap held_on (set_there l c.args.page x inside) ∙ ap (λ (b : List ℕ). record { lsn = c.args.lsn; body = b }) c.set.ensures;
      others = λ q ne. ap held_on (set_other l c.args.page q x ne) ∙ ap (λ (k : List Sheet). held_on (slice_get k q)) (sym same);
      still = λ q since w ne takes. omega (arith, takes, ap (λ (v : Vec Sheet Global). v.len) c.begins.ensures.sheets);
    }
