use Rattle.std.proofs.Common.{◌≡◌, ℕ, true, Ok, refl, sym, ap, subst}
use Rattle.std.proofs.lemmas.Bool.{eq-eqb}
use Rattle.ctr_record_laws.specs.meta_Effects.{effect, one_head_less, one_head_more}
use Rattle.ctr_record_laws.specs.Owed.{loses_head}
use Rattle.ctr_record_laws.specs.meta_Items.{is_wanted}
use Rattle.ctr_record_laws.specs.meta_Needs.{needs, there, row_needs}
use Rattle.ctr_record_laws.specs.meta_Tables.{is_in}
use Rattle.ctr_record_laws.specs.meta_Wanted.{Wanted}
use Rattle.ctr_record_laws.specs.meta_Wanted.TheVariants.{Allocation, OfPage, Creation, Dropping}
use Rattle.ctr_record_effects.specs.rec_Overlay.{Overlay}
use Rattle.ctr_record_laws.specs.rec_SlogItem.TheVariants.{FreeOf, CreateOf, DropOf}
use Rattle.ctr_record_laws.proofs.Items.{any_there}
use Rattle.ctr_record_laws.specs.Bounds.{IsInBounds}
use Rattle.std.specs.List.{list_any}
use Rattle.ctr_actions.specs.Sites.{Site, IsSoundSite}
use Rattle.ctr_actions.specs.Actions.{Action, Begins, Allocates, Formats, Links, LinksOlder, Keeps, Writes, Creates, Drops, Commits, Frees, Uncreates, Undrops, Aborts, Reclaims, Reverts, Trims, Cuts, FreesOlder, MakesDead, Unlinks, UnlinksOlder, FreesEntry, Forgets, Checkpoints, Owes, site_after}
use Rattle.ctr_actions.specs.Records.{record_of}
use Rattle.ctr_actions.proofs.Latest.{last_among}
use Rattle.ctr_actions.proofs.Needed.{expected, is_there, commit_fits, abort_fits, forget_fits, revert_fits, row_fits}
use Rattle.ctr_actions.proofs.laws.an_action_meets_its_needs.Goals as goal

pub returns-clause-fits : goal.returns-clause-fits
returns-clause-fits c = each
  where
    listed_there : (w : Wanted) (s : Site) → list_any (is_wanted w) s.tables.items ≡ true → there (list_any (is_wanted w) s.tables.items) ≡ Ok tt
    listed_there w s is = is_there (list_any (is_wanted w) s.tables.items) is

    each : (x : ℕ) (a : Action) (s : Site) (o : Overlay) → IsInBounds s.area → IsSoundSite s → Owes x a s → needs (record_of x a s o) s.tables ≡ Ok tt
    each x Begins s o bounds sound owed = expected 0 s.tables.next x (sym owed.is_next)
    each x (Allocates q) s o bounds sound owed = is_there (is_in x s.tables.opens) owed.is_open
    each x (Formats q g) s o bounds sound owed = listed_there (Allocation x q) s owed
    each x (Links q f k) s o bounds sound owed = listed_there (Allocation x q) s owed.item
    each x (LinksOlder q f) s o bounds sound owed = listed_there (Allocation x q) s owed.item
    each x (Keeps f b older) s o bounds sound owed = is_there (is_in x s.tables.opens) owed.0
    each x (Writes m) s o bounds sound owed = subst (λ y. row_needs y (loses_head s.tables (s.area.slot m.at)) s.tables ≡ Ok tt) owed.0 (row_fits s bounds sound m owed.1)
    each x (Creates f name columns left) s o bounds sound owed = is_there (is_in x s.tables.opens) owed.0.is_open
    each x (Drops f) s o bounds sound owed = is_there (is_in x s.tables.opens) owed.is_open
    each x Commits s o bounds sound owed = commit_fits x s.tables owed
    each x (Frees q) s o bounds sound owed = listed_there (OfPage q) s (c.a_record_leaves_what_the_next_owes.ensures.given_back s.tables x q owed)
    each x (Uncreates f) s o bounds sound owed = listed_there (Creation f) s (any_there (Creation f) (CreateOf x f) s.tables.items (eq-eqb f f refl) (last_among x (CreateOf x f) s.tables.items owed).0)
    each x (Undrops f) s o bounds sound owed = listed_there (Dropping f) s (any_there (Dropping f) (DropOf x f) s.tables.items (eq-eqb f f refl) (last_among x (DropOf x f) s.tables.items owed).0)
    each x Aborts s o bounds sound owed = abort_fits x s.tables owed
    each x (Reclaims q) s o bounds sound owed = listed_there (OfPage q) s (any_there (OfPage q) (FreeOf q) s.tables.items (eq-eqb q q refl) owed)
    each x (Reverts f b way) s o bounds sound owed = revert_fits s bounds sound f b way owed
    each x (Trims passes f b way) s o bounds sound owed = refl
    each x (Cuts passes f b r) s o bounds sound owed = refl
    each x (FreesOlder f r) s o bounds sound owed = refl
    each x (MakesDead passes f) s o bounds sound owed = refl
    each x (Unlinks q f k) s o bounds sound owed = refl
    each x (UnlinksOlder q f) s o bounds sound owed = refl
    each x (FreesEntry f was left) s o bounds sound owed = refl
    each x (Forgets z) s o bounds sound owed = forget_fits z s.tables owed
    each x (Checkpoints lists) s o bounds sound owed = owed.1

pub returns-clause-leaves : goal.returns-clause-leaves
returns-clause-leaves c = each
  where
    each : (x : ℕ) (a : Action) (s : Site) (o : Overlay) → Owes x a s → effect (record_of x a s o) s.tables ≡ (site_after x a s).tables
    each x Begins s o owed = refl
    each x (Allocates q) s o owed = refl
    each x (Formats q g) s o owed = refl
    each x (Links q f k) s o owed = refl
    each x (LinksOlder q f) s o owed = refl
    each x (Keeps f b older) s o owed = refl
    each x (Writes m) s o owed = ap (λ y. one_head_less (loses_head s.tables (s.area.slot m.at)) (one_head_more y s.tables)) (sym owed.0)
    each x (Creates f name columns left) s o owed = refl
    each x (Drops f) s o owed = refl
    each x Commits s o owed = refl
    each x (Frees q) s o owed = refl
    each x (Uncreates f) s o owed = refl
    each x (Undrops f) s o owed = refl
    each x Aborts s o owed = refl
    each x (Reclaims q) s o owed = refl
    each x (Reverts f b way) s o owed = refl
    each x (Trims passes f b way) s o owed = refl
    each x (Cuts passes f b r) s o owed = refl
    each x (FreesOlder f r) s o owed = refl
    each x (MakesDead passes f) s o owed = refl
    each x (Unlinks q f k) s o owed = refl
    each x (UnlinksOlder q f) s o owed = refl
    each x (FreesEntry f was left) s o owed = refl
    each x (Forgets z) s o owed = refl
    each x (Checkpoints lists) s o owed = owed.0
