use Rattle.std.proofs.Common.{◌≡◌, ◌≢◌, ℕ, ◌+◌, ◌/◌, ◌<◌, Bool, true, [], ◌∷◌, refl, sym, ap, ◌∙◌, subst}
use Rattle.std.specs.Prelude.{IsTrue, OnOk, ⊤}
use Rattle.std.proofs.lemmas.Bool.{eqb-true}
use Rattle.ctr_walk.specs.base_Base.{IsSoundImage}
use Rattle.ctr_rec.specs.declared.record.Overlay.{Overlay}
use Rattle.ctr_rec.specs.declared.record.Record.TheVariants.{Trim}
use Rattle.ctr_walk.specs.redo_States.{State, page_limit}
use Rattle.ctr_record_effects.specs.States.{area_in, IsWholePage}
use Rattle.ctr_record_effects.specs.Changing.{laid_in_entry}
use Rattle.ctr_alloc.specs.actions_Sites.{site_of}
use Rattle.ctr_alloc.specs.actions_Actions.{MakesDead, site_after}
use Rattle.ctr_area.specs.Images.{is_live}
use Rattle.ctr_walk.specs.store_Store.{Logs}
use Rattle.ctr_walk.specs.OneRecord.{LogsOne}
use Rattle.ctr_walk.proofs.Records.{both_ok}
use Rattle.ctr_walk.proofs.Limits.{catalog_in_limit}
use Rattle.ctr_dead.specs.Titles.{dying_record}
use Rattle.ctr_dead.proofs.Three.{three_ok}
use Rattle.ctr_dead.proofs.titles.make_dead.Given.{Over}
use Rattle.ctr_dead.proofs.titles.make_dead.Goals.{After-log_on_page}
use Rattle.ctr_dead.proofs.titles.make_dead.Goals as goal

pub log_on_page-requires-clause-there : goal.log_on_page-requires-clause-there
log_on_page-requires-clause-there g c = subst (λ (p : ℕ). p < page_limit) (sym c.catalog_page.ensures) (catalog_in_limit c.args.entry c.requires.there)

module _ (g : Over) (c : After-log_on_page g) where
  abbrev e : ℕ
  e = c.args.entry

  abbrev s : State
  s = c.args.store.now.now

  abbrev t : State
  t = c.log_on_page.new.store.now

  one : LogsOne {T = ⊤} g.O.Origin.first g.D.Disk (dying_record e) c.args.store.now c.log_on_page.new.store c.log_on_page.result
  one = subst (λ (o : Overlay). LogsOne {T = ⊤} g.O.Origin.first g.D.Disk (Trim o) c.args.store.now c.log_on_page.new.store c.log_on_page.result) c.over_entry.ensures c.log_on_page.ensures.one

  module _ (told : IsTrue g.D.Disk.tells) (sound : IsSoundImage g.O.Origin.first) where
    whole : OnOk c.log_on_page.result (IsWholePage (1 + e / 16) s)
    whole = subst (λ (p : ℕ). OnOk c.log_on_page.result (IsWholePage p s)) c.catalog_page.ensures (c.log_on_page.ensures.whole told sound)

    site : (x : ℕ) (passes : ℕ → Bool) → ((area_in s).title e).state ≢ 0 → OnOk c.log_on_page.result (site_of t ≡ site_after x (MakesDead passes e) (site_of s))
    site x passes used =
        both_ok c.log_on_page.result (Logs (dying_record e ∷ []) c.args.store.now c.log_on_page.new.store) (IsWholePage (1 + e / 16) s) (site_of t ≡ site_after x (MakesDead passes e) (site_of s))
        (λ logs page.
        ap site_of logs.now
        ∙ c.a_logged_record_is_its_action.ensures.leaves x (MakesDead passes e) s (laid_in_entry e 0 (2 ∷ [])) refl
        (c.a_trimmed_entry_changes_alone.ensures.dead s (dying_record e) e page c.requires.there used refl))
        (one.logs told sound) whole

-- a live entry isn't free
used_by : (s : State) (e : ℕ) → is_live ((area_in s).title e) ≡ true → ((area_in s).title e).state ≢ 0
used_by s e live none = let is = eqb-true ((area_in s).title e).state 1 live in absurd (cc (sym is ∙ none))

pub returns-clause-leaves : goal.returns-clause-leaves
returns-clause-leaves g c = λ x passes told sound used. site g c told sound x passes used

pub returns-clause-acts : goal.returns-clause-acts
returns-clause-acts g c = λ x passes told sound database owed.
    three_ok c.log_on_page.result
    (λ logs page is.
    c.a_record_acts.ensures x (MakesDead passes (e g c)) (dying_record (e g c)) c.args.store.now c.log_on_page.new.store logs owed is
    (c.owed_records_are_laid_as_their_actions.ensures.makes_dead (s g c) (dying_record (e g c)) passes (e g c) database owed page refl))
    ((one g c).logs told sound) (whole g c told sound) (site g c told sound x passes (used_by (s g c) (e g c) owed.live))
