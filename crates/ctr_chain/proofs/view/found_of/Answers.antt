use Rattle.std.proofs.Common.{◌≡◌, ℕ, ◌<◌, Bool, Option, None, Some, Ok, Err, refl, sym, ◌∙◌, ap, subst, arith}
use Rattle.std.specs.Prelude.{IsTrue, IfOk}
use Rattle.std.proofs.lemmas.Result.{err_from_is_err_and}
use Rattle.ctr_pvs.specs.base_Base.{IsSoundImage}
use Rattle.ctr_pvs.specs.redo_States.{State}
use Rattle.ctr_page.specs.declared.rows.Place.{Place}
use Rattle.ctr_pvs.specs.record_effects_States.{pages_in, area_in}
use Rattle.ctr_pvs.specs.walk_Damage.{searched, EndsOnPage}
use Rattle.ctr_pvs.proofs.walk_Joins.{pages_join}
use Rattle.ctr_pvs.proofs.walk_Searches.{passed, by_page, ok_by}
use Rattle.ctr_pvs.specs.Table.{TableSaid}
use Rattle.ctr_names.specs.meta_Seen.{xid_is_seen}
use Rattle.ctr_chain.specs.declared.seeking.Found.{Found}
use Rattle.ctr_chain.specs.Reading.{place_of_version, found_check, RowSaidAt}
use Rattle.ctr_pvs.specs.walk_TableOf.{TableOf}
use Rattle.ctr_rec.specs.declared.decoding.BadRecord.{BadRecord}
use Rattle.ctr_chain.specs.Rows.{GivesRow}
use Rattle.ctr_chain.specs.Visible.{EndsReading, visible_row}
use Rattle.ctr_chain.specs.Seeking.{sought_at}
use Rattle.ctr_chain.proofs.Chain.{row_found}
use Rattle.ctr_chain.proofs.RowsSaid.{nothing_seen}
use Rattle.ctr_chain.proofs.ReadAgain.{found_there, passes_there, never_bad, gives_seen}
use Rattle.ctr_chain.proofs.view.found_of.Given.{Over}
use Rattle.ctr_chain.proofs.view.found_of.Goals.{After-read_row}
use Rattle.ctr_chain.proofs.view.found_of.Goals as goal

-- the version was found, and its page was read again
module _ (g : Over) (c : After-read_row g) where
  abbrev s : State
  s = c.args.store.now.now

  abbrev test : ℕ → Bool
  test = xid_is_seen c.args.store.now.meta.tables c.args.snapshot.now c.args.me

  abbrev at : Place
  at = c.args.place

  abbrev from : Place
  from = place_of_version at c.in-Some.found.at

  abbrev t : TableOf
  t = c.args.table.now

  some : 0 < s.counted
  some = let least = c.counts_pages.ensures.0 in omega (arith, least)

  module _ (told : IsTrue g.D.Disk.tells) (sound : IsSoundImage g.O.Origin.first) (said : TableSaid 1 s.counted (pages_in s) at.page (Ok t)) where
    found : sought_at test s.counted (pages_in s) at ≡ Ok (Some c.in-Some.found)
    found = sym (c.in_ok-found.ensures.ends told sound said) ∙ ap (λ (o : Option Found). Ok o) c.in-Some.is

    -- what was read there, by the pages of the beginning
    read : IfOk (searched c.read_row.result) (EndsOnPage from.page (RowSaidAt s.counted t c.in-Some.found.at from.slot (pages_in s from.page)))
    read =
        let f = c.in-Some.found in
        let low = found_there test s.counted (pages_in s) at t said refl some c.counts_pages.ensures.1 c.requires.counted f found in
        let passes = passes_there test s.counted (pages_in s) at t said refl some c.counts_pages.ensures.1 c.requires.counted f found in
        let same = (c.in_ok-found.ensures.leaves.logs told sound).now in
        let Reads : ℕ → State → Type 0 = λ n st. found_check n t f.at from.slot (pages_in st from.page) ≡ Ok tt → IfOk (searched c.read_row.result) (EndsOnPage from.page (RowSaidAt n t f.at from.slot (pages_in st from.page))) in
        subst (λ n. Reads n s) c.counted-counted.ensures (subst (λ (st : State). Reads c.counted-counted.result st) same (c.read_row.ensures.said told sound low)) passes

    -- it isn't damaged, as it was checked on the way
    sound_there : (bad : BadRecord) → RowSaidAt s.counted t c.in-Some.found.at from.slot (pages_in s from.page) (Err bad) → ⊥
    sound_there bad wrong = never_bad test s.counted (pages_in s) at t said refl some c.counts_pages.ensures.1 c.requires.counted c.in-Some.found found bad wrong

    ends : IfOk (searched c.read_row.result) (EndsReading (sought_at test s.counted (pages_in s) at))
    ends =
        by_page from.page (RowSaidAt s.counted t c.in-Some.found.at from.slot (pages_in s from.page)) (EndsReading (sought_at test s.counted (pages_in s) at)) c.read_row.result
        (λ given is read. (Some c.in-Some.found, found)) (λ bad wrong. absurd (sound_there bad wrong)) read

    shows : IfOk c.read_row.result (GivesRow (visible_row test (area_in s) at))
    shows =
        ok_by from.page (RowSaidAt s.counted t c.in-Some.found.at from.slot (pages_in s from.page)) (GivesRow (visible_row test (area_in s) at)) c.read_row.result
        (λ given read. gives_seen test s.counted (pages_in s) at t said refl some c.counts_pages.ensures.1 c.requires.counted c.in-Some.found found given read) read

pub returns-in_err-found-clause-ends : goal.returns-in_err-found-clause-ends
returns-in_err-found-clause-ends g c =
    let p = err_from_is_err_and c.from_residual.result c.from_residual.ensures.1 in
    let s = c.args.store.now.now in
    let test = xid_is_seen c.args.store.now.meta.tables c.args.snapshot.now c.args.me in
    rw (p.1, p.2) (λ told sound said.
    passed _ _ c.in_err-found.field-0.0 (λ r. r ≡ sought_at test s.counted (pages_in s) c.args.place) (EndsReading (sought_at test s.counted (pages_in s) c.args.place)) (λ bad ends. sym ends)
    (c.in_err-found.ensures.ends told sound said))

pub returns-in_default-clause-ends : goal.returns-in_default-clause-ends
returns-in_default-clause-ends g c = λ told sound said. (c.in_ok-found.found, sym (c.in_ok-found.ensures.ends told sound said))

pub returns-in_default-clause-shows : goal.returns-in_default-clause-shows
returns-in_default-clause-shows g c = λ told sound said.
    let s = c.args.store.now.now in
    let at = c.args.place in
    let test = xid_is_seen c.args.store.now.meta.tables c.args.snapshot.now c.args.me in
    sym (nothing_seen test (area_in s) at (row_found test s.counted (pages_in s) at None refl c.counts_pages.ensures.1 (sym (c.in_ok-found.ensures.ends told sound said) ∙ ap (λ (o : Option Found). Ok o) c.in_default.is)))

pub returns-clause-ends : goal.returns-clause-ends
returns-clause-ends g c = λ told sound said. ends g (goal.at.returns-clause-ends g c).After-read_row told sound said

pub returns-clause-shows : goal.returns-clause-shows
returns-clause-shows g c = λ told sound said. shows g (goal.at.returns-clause-shows g c).After-read_row told sound said

pub returns-clause-leaves : goal.returns-clause-leaves
returns-clause-leaves g c =
    pages_join g.D.Disk c.args.store.now c.seek_in.new.store c.read_row.new.store g.O.Origin.first _ _ _ (searched c.read_row.result) c.in_ok-found.ensures.leaves c.read_row.ensures.leaves
