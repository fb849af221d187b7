use Rattle.std.proofs.Common.{◌≡◌, ℕ, ◌+◌, ◌/◌, ◌<◌, [], ◌∷◌, refl, sym, ap, ◌∙◌, subst, arith}
use Rattle.std.specs.Prelude.{IsTrue, OnOk, ⊤}
use Rattle.ctr_walk.specs.base_Base.{IsSoundImage}
use Rattle.ctr_rec.specs.declared.record.Overlay.{Overlay}
use Rattle.ctr_rec.specs.declared.record.Record.TheVariants.{Trim}
use Rattle.ctr_walk.specs.redo_States.{State, page_limit}
use Rattle.ctr_record_effects.specs.States.{area_in, IsWholePage}
use Rattle.ctr_record_effects.specs.Changing.{laid_in_entry}
use Rattle.ctr_alloc.specs.actions_Sites.{site_of}
use Rattle.ctr_alloc.specs.actions_Actions.{site_after}
use Rattle.ctr_walk.specs.store_Store.{Logs}
use Rattle.ctr_walk.specs.OneRecord.{LogsOne}
use Rattle.ctr_walk.proofs.Records.{both_ok}
use Rattle.ctr_walk.proofs.Limits.{catalog_in_limit}
use Rattle.ctr_dead.specs.Titles.{freed_record, freed_title, freed_area, frees}
use Rattle.ctr_dead.proofs.Three.{three_ok}
use Rattle.ctr_dead.proofs.titles.free_table.Given.{Over}
use Rattle.ctr_dead.proofs.titles.free_table.Goals.{After-log_on_page}
use Rattle.ctr_dead.proofs.titles.free_table.Goals as goal

pub log_on_page-requires-clause-there : goal.log_on_page-requires-clause-there
log_on_page-requires-clause-there g c = subst (λ (p : ℕ). p < page_limit) (sym c.catalog_page.ensures) (catalog_in_limit c.args.entry c.requires.there)

module _ (g : Over) (c : After-log_on_page g) where
  abbrev e : ℕ
  e = c.args.entry

  abbrev s : State
  s = c.args.store.now.now

  abbrev t : State
  t = c.log_on_page.new.store.now

  one : LogsOne {T = ⊤} g.O.Origin.first g.D.Disk (freed_record e) c.args.store.now c.log_on_page.new.store c.log_on_page.result
  one = subst (λ (o : Overlay). LogsOne {T = ⊤} g.O.Origin.first g.D.Disk (Trim o) c.args.store.now c.log_on_page.new.store c.log_on_page.result) c.over_entry.ensures c.log_on_page.ensures.one

  module _ (told : IsTrue g.D.Disk.tells) (sound : IsSoundImage g.O.Origin.first) where
    whole : OnOk c.log_on_page.result (IsWholePage (1 + e / 16) s)
    whole = subst (λ (p : ℕ). OnOk c.log_on_page.result (IsWholePage p s)) c.catalog_page.ensures (c.log_on_page.ensures.whole told sound)

    site : (x : ℕ) → OnOk c.log_on_page.result (site_of t ≡ site_after x (frees e (area_in s)) (site_of s))
    site x =
        both_ok c.log_on_page.result (Logs (freed_record e ∷ []) c.args.store.now c.log_on_page.new.store) (IsWholePage (1 + e / 16) s) (site_of t ≡ site_after x (frees e (area_in s)) (site_of s))
        (λ logs page.
        ap site_of logs.now
        ∙ c.a_logged_record_is_its_action.ensures.leaves x (frees e (area_in s)) s (laid_in_entry e 0 (0 ∷ [])) refl
        (c.a_trimmed_entry_changes_alone.ensures.freed s (freed_record e) e page c.requires.there refl))
        (one.logs told sound) whole

pub returns-clause-leaves : goal.returns-clause-leaves
returns-clause-leaves g c = λ x told sound. site g c told sound x

pub returns-clause-acts : goal.returns-clause-acts
returns-clause-acts g c = λ x told sound database owed.
    three_ok c.log_on_page.result
    (λ logs page is.
    c.a_record_acts.ensures x (frees (e g c) (area_in (s g c))) (freed_record (e g c)) c.args.store.now c.log_on_page.new.store logs (owed, refl, c.a_trimmed_entry_changes_alone.ensures.entry (s g c) (e g c)) is (
      c.tables_lie_as_their_actions.ensures.frees (s g c) (freed_record (e g c)) (e g c) 0 (0 ∷ []) (freed_title (area_in (s g c)) (e g c)) (freed_area (area_in (s g c)) (e g c)) refl page c.requires.there (omega arith),
      c.tables_pass_their_checks.ensures.frees (s g c) (freed_record (e g c)) (e g c) (freed_title (area_in (s g c)) (e g c)) (freed_area (area_in (s g c)) (e g c)) database page c.requires.there refl,
    ))
    ((one g c).logs told sound) (whole g c told sound) (site g c told sound x)
