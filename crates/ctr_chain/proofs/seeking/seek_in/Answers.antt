use Rattle.std.proofs.Common.{◌≡◌, ℕ, ◌*◌, Bool, List, Option, None, Ok, Err, Result, sym, ◌∙◌, ap, subst}
use Rattle.std.specs.Prelude.{IsTrue, IfOk}
use Rattle.std.proofs.lemmas.Result.{err_from_is_err_and}
use Rattle.ctr_pvs.specs.base_Base.{IsSoundImage}
use Rattle.ctr_types.specs.declared.value.Kind.{Kind}
use Rattle.ctr_disk.specs.declared.fault.StoreFault.{StoreFault}
use Rattle.ctr_pvs.specs.redo_States.{State}
use Rattle.ctr_page.specs.declared.walk.BadChain.{BadChain}
use Rattle.ctr_page.specs.Places.{kept_size, room_for}
use Rattle.ctr_page.specs.Columns.{kinds_width}
use Rattle.ctr_page.specs.Walking.{most_in_chain}
use Rattle.ctr_pvs.specs.area_Checked.{kinds_at}
use Rattle.ctr_pvs.specs.record_effects_States.{pages_in, area_in}
use Rattle.ctr_pvs.specs.walk_Damage.{searched, EndsOnPage}
use Rattle.ctr_pvs.proofs.walk_Joins.{answers_ok, pages_join}
use Rattle.ctr_pvs.proofs.walk_Searches.{without, passed_page, leaves_without}
use Rattle.ctr_pvs.specs.Table.{TableSaid}
use Rattle.ctr_pvs.specs.walk_TableOf.{TableOf}
use Rattle.ctr_pvs.specs.walk_Tables.{kinds_said}
use Rattle.ctr_chain.specs.declared.seeking.Found.{Found}
use Rattle.ctr_chain.specs.Looking.{LooksAtRow}
use Rattle.ctr_chain.specs.Seeing.{sought_by}
use Rattle.ctr_chain.specs.Seeking.{sought_along, FoundIn, sought_at}
use Rattle.ctr_chain.proofs.Slots.{in_slot, behind_slot, no_slot}
use Rattle.ctr_chain.proofs.seeking.seek_in.Given.{Over}
use Rattle.ctr_chain.proofs.seeking.seek_in.Goals.{After-found_in}
use Rattle.ctr_chain.proofs.seeking.seek_in.Goals as goal

-- what a search tells it tells in other words
in_words : {T : Type 0} (P Q : Result T BadChain → Type 0) (r : Result (Result T BadChain) StoreFault) → ((x : Result T BadChain) → P x → Q x) → IfOk r P → IfOk r Q
in_words P Q (Ok x) goes holds = goes x holds
in_words P Q (Err e) goes holds = tt

-- the slot was read
module _ (g : Over) (c : After-found_in g) where
  abbrev t : TableOf
  t = c.args.table.now

  abbrev s : State
  s = c.args.store.now.now

  abbrev test : ℕ → Bool
  test = sought_by c.args.store.now.meta.tables c.args.sought.now

  looked : IsTrue g.D.Disk.tells → IsSoundImage g.O.Origin.first → LooksAtRow s.counted t c.args.place.slot (pages_in s c.args.place.page) (Ok c.in_ok-look.look)
  looked told sound = subst (λ n. LooksAtRow n t c.args.place.slot (pages_in s c.args.place.page) (Ok c.in_ok-look.look)) c.counted-counted.ensures (c.in_ok-look.ensures.looks told sound)

  found : FoundIn test c.in_ok-look.look c.found_in.result
  found = subst (λ m. FoundIn (sought_by m.tables c.args.sought.now) c.in_ok-look.look c.found_in.result) (c.meta.ensures.tables ∙ c.in_ok-look.ensures.leaves.keeps.meta) c.found_in.ensures

  -- where the search along the pointers ends
  abbrev EndsBehind : Result (Option Found) BadChain → Type 0
  EndsBehind x =
      x ≡ sought_along (sought_by c.look_at_row.new.store.meta.tables c.args.sought.now) (record { counted = c.counted-counted.result; pages = pages_in c.look_at_row.new.store.now; entry = t.entry })
      (most_in_chain c.counted-counted.result * room_for (kept_size (kinds_width (kinds_said t)))) c.args.place.page c.in_ok-look.look.older

  module _ (told : IsTrue g.D.Disk.tells) (sound : IsSoundImage g.O.Origin.first) (is : TableSaid 1 s.counted (pages_in s) c.args.place.page (Ok t)) where
    kinds_after : kinds_said t ≡ kinds_at (area_in c.look_at_row.new.store.now) t.entry
    kinds_after = subst (λ (st : State). kinds_said t ≡ kinds_at (area_in st) t.entry) (sym (c.in_ok-look.ensures.leaves.logs told sound).now) is.2

    -- where the search went on behind the slot
    along : (x : Result (Option Found) BadChain) → c.found_in.result ≡ None → EndsBehind x → x ≡ sought_at test s.counted (pages_in s) c.args.place
    along x none ends =
        let at = c.args.place in
        let older = c.in_ok-look.look.older in
        let same = (c.in_ok-look.ensures.leaves.logs told sound).now in
        let most : ℕ → List Kind → ℕ = λ k ks. most_in_chain k * room_for (kept_size (kinds_width ks)) in
        let there : (ℕ → Bool) → State → ℕ → List Kind → Result (Option Found) BadChain = λ f st k ks. sought_along f (record { counted = k; pages = pages_in st; entry = t.entry }) (most k ks) at.page older in
        ends
        ∙ ap (λ m. there (sought_by m.tables c.args.sought.now) c.look_at_row.new.store.now c.counted-counted.result (kinds_said t)) c.in_ok-look.ensures.leaves.keeps.meta
        ∙ ap (λ st. there test st c.counted-counted.result (kinds_said t)) same
        ∙ ap (λ k. there test s k (kinds_said t)) c.counted-counted.ensures
        ∙ ap (there test s s.counted) is.2
        ∙ sym (behind_slot s.counted (pages_in s) at t is test c.in_ok-look.look (looked told sound) (subst (FoundIn test c.in_ok-look.look) none found))

pub returns-in_err-look-clause-ends : goal.returns-in_err-look-clause-ends
returns-in_err-look-clause-ends g c =
    let p = err_from_is_err_and c.from_residual.result c.from_residual.ensures.1 in
    let t = c.args.table.now in
    let n = c.args.store.now.now.counted in
    let pages = pages_in c.args.store.now.now in
    let at = c.args.place in
    let e = c.in_err-look.field-0.0 in
    let test = sought_by c.args.store.now.meta.tables c.args.sought.now in
    rw (p.1, p.2) (λ told sound is.
    passed_page _ _ e at.page (LooksAtRow n t at.slot (pages at.page)) (λ r. r ≡ sought_at test n pages at)
    (λ bad wrong. sym (no_slot n pages at t test bad is wrong))
    (subst (λ m. IfOk (searched (without _ e)) (EndsOnPage at.page (LooksAtRow m t at.slot (pages at.page)))) c.counted-counted.ensures (c.in_err-look.ensures.looks told sound)))

pub returns-in_err-look-clause-leaves : goal.returns-in_err-look-clause-leaves
returns-in_err-look-clause-leaves g c =
    let p = err_from_is_err_and c.from_residual.result c.from_residual.ensures.1 in
    rw (p.1, p.2) (leaves_without g.O.Origin.first g.D.Disk _ _ c.in_err-look.field-0.0 c.args.store.now c.look_at_row.new.store c.in_err-look.ensures.leaves)

pub returns-in-Some-clause-ends : goal.returns-in-Some-clause-ends
returns-in-Some-clause-ends g c = λ told sound is.
    let o = (goal.at.returns-in-Some-clause-ends g c).After-found_in in
    let s = c.args.store.now.now in
    let test = sought_by c.args.store.now.meta.tables c.args.sought.now in
    sym (in_slot s.counted (pages_in s) c.args.place c.args.table.now is test c.in_ok-look.look c.in-Some.found (looked g o told sound) (subst (FoundIn test c.in_ok-look.look) c.in-Some.is (found g o)))

pub returns-in-Some-clause-leaves : goal.returns-in-Some-clause-leaves
returns-in-Some-clause-leaves g c = answers_ok g.O.Origin.first g.D.Disk _ _ c.args.store.now c.look_at_row.new.store c.in_ok-look.ensures.leaves

pub returns-clause-ends : goal.returns-clause-ends
returns-clause-ends g c = λ told sound is.
    let o = (goal.at.returns-clause-ends g c).After-found_in in
    let s = c.args.store.now.now in
    in_words (EndsBehind g o) (λ r. r ≡ sought_at (sought_by c.args.store.now.meta.tables c.args.sought.now) s.counted (pages_in s) c.args.place) (searched c.seek_along.result)
    (λ x ends. along g o told sound is x c.in_default.is ends) (c.seek_along.ensures.ends told sound (kinds_after g o told sound is))

pub returns-clause-leaves : goal.returns-clause-leaves
returns-clause-leaves g c = pages_join g.D.Disk c.args.store.now c.look_at_row.new.store c.seek_along.new.store g.O.Origin.first _ _ _ (searched c.seek_along.result) c.in_ok-look.ensures.leaves c.seek_along.ensures.leaves
