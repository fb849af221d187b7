use Rattle.std.proofs.Common.{◌≡◌, ◌≤◌, ℕ, true, false, Bool, List, Result, Ok, Err, sym, ◌∙◌, ap, subst, arith}
use Rattle.std.specs.Prelude.{IfOk}
use Rattle.std.specs.List.{list_any}
use Rattle.std.proofs.lemmas.Bool.{false≢true}
use Rattle.ctr_rec.specs.declared.record.SlogItem.{SlogItem}
use Rattle.ctr_meta.specs.Kept.{TablesKept}
use Rattle.ctr_meta.specs.Tables.{Tables}
use Rattle.ctr_page.specs.declared.checks.Chain.{Chain}
use Rattle.ctr_disk.specs.declared.fault.StoreFault.{StoreFault}
use Rattle.ctr_walk.specs.redo_States.{State}
use Rattle.ctr_walk.specs.record_effects_States.{area_in}
use Rattle.ctr_walk.specs.record_effects_Standing.{IsDatabaseState}
use Rattle.ctr_walk.proofs.Joins.{pages_join}
use Rattle.ctr_cursor.specs.Standing.{IsInChain, IsOfChain, is_item_of}
use Rattle.ctr_cursor.proofs.Named.{chain_alone, chain_fine, chain_headed, chain_named, items_have, items_lack}
use Rattle.ctr_cursor.proofs.there.is_in_chain.Goals as goal

-- by the header of a page that is allocated, and that no item has
answers_yes : (s : State) (database : IsDatabaseState s) (chain : Chain) (p : ℕ) → 3 ≤ p → (area_in s).taken p ≡ true → list_any (is_item_of p) s.tables.items ≡ false → (r : Result Bool StoreFault)
    → IfOk r (λ is. is ≡ true → IsOfChain chain ((area_in s).header p)) → IfOk r (λ is. is ≡ true → IsInChain chain p (area_in s))
answers_yes s database chain p behind taken none (Ok x) says = λ is. chain_named s database chain p behind taken (items_lack p s.tables.items none) (says is)
answers_yes s database chain p behind taken none (Err e) says = tt

answers_no : (s : State) (database : IsDatabaseState s) (chain : Chain) (p : ℕ) → (r : Result Bool StoreFault)
    → IfOk r (λ is. is ≡ false → IsOfChain chain ((area_in s).header p) → ⊥) → IfOk r (λ is. is ≡ false → IsInChain chain p (area_in s) → ⊥)
answers_no s database chain p (Ok x) says = λ isnt on. says isnt (chain_headed s database chain p on)
answers_no s database chain p (Err e) says = tt

pub returns-then-p-lt3-clause-no : goal.returns-then-p-lt3-clause-no
returns-then-p-lt3-clause-no g c = λ told sound database is on.
    let fine = chain_fine c.args.store.now.now database c.args.chain c.args.p on in
    let low = c.if-p-lt3.true in
    omega (arith, fine.0, low)

pub returns-then-has_item-clause-no : goal.returns-then-has_item-clause-no
returns-then-has_item-clause-no g c = λ told sound database is on.
    let s = c.args.store.now.now in
    let p = c.args.p in
    let same = c.items.ensures.items ∙ ap (λ (k : TablesKept). k.tables.items) c.meta.ensures.tables ∙ ap (λ (t : Tables). t.items) (c.meta.ensures.now told sound c.requires.going) in
    chain_alone s database c.args.chain p on (items_have p s.tables.items (subst (λ (l : List SlogItem). list_any (is_item_of p) l ≡ true) same (sym c.has_item.ensures ∙ c.if-has_item.true)))

pub returns-then-not-branch-clause-no : goal.returns-then-not-branch-clause-no
returns-then-not-branch-clause-no g c = λ told sound database is on.
    let fine = chain_fine c.args.store.now.now database c.args.chain c.args.p on in
    false≢true (sym c.if-not-branch.true ∙ c.in_ok-is_allocated.ensures.tells told sound ∙ fine.2)

pub returns-clause-yes : goal.returns-clause-yes
returns-clause-yes g c = λ told sound database.
    let s = c.args.store.now.now in
    let p = c.args.p in
    let low = c.if-p-lt3.false in
    let behind : 3 ≤ p = omega (arith, low) in
    let same = (c.in_ok-is_allocated.ensures.leaves.logs told sound).now in
    let items = c.items.ensures.items ∙ ap (λ (k : TablesKept). k.tables.items) c.meta.ensures.tables ∙ ap (λ (t : Tables). t.items) (c.meta.ensures.now told sound c.requires.going) in
    answers_yes s database c.args.chain p behind (sym (c.in_ok-is_allocated.ensures.tells told sound) ∙ c.if-not-branch.false)
    (subst (λ (l : List SlogItem). list_any (is_item_of p) l ≡ false) items (sym c.has_item.ensures ∙ c.if-has_item.false)) c.is_headed.result (subst (λ (u : State). IfOk c.is_headed.result (λ is. is ≡ true → IsOfChain c.args.chain ((area_in u).header p))) same (c.is_headed.ensures.yes told sound behind))

pub returns-clause-no : goal.returns-clause-no
returns-clause-no g c = λ told sound database.
    let s = c.args.store.now.now in
    let p = c.args.p in
    let low = c.if-p-lt3.false in
    let behind : 3 ≤ p = omega (arith, low) in
    let same = (c.in_ok-is_allocated.ensures.leaves.logs told sound).now in
    answers_no s database c.args.chain p c.is_headed.result (subst (λ (u : State). IfOk c.is_headed.result (λ is. is ≡ false → IsOfChain c.args.chain ((area_in u).header p) → ⊥)) same (c.is_headed.ensures.no told sound behind))

pub returns-clause-leaves : goal.returns-clause-leaves
returns-clause-leaves g c = pages_join g.D.Disk c.args.store.now c.is_allocated.new.store c.is_headed.new.store g.O.Origin.first Bool Bool c.in_ok-is_allocated.field-0 c.is_headed.result c.in_ok-is_allocated.ensures.leaves c.is_headed.ensures.leaves
