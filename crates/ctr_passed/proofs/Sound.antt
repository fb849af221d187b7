-- A sound state stays sound.
use Rattle.std.proofs.Common.{◌≡◌, ℕ, ◌<◌, ◌≤◌, refl, sym, subst, arith}
use Rattle.ctr_actions.specs.meta_Tables.{Tables}
use Rattle.ctr_actions.specs.meta_Effects.{one_head_more, one_head_less}
use Rattle.ctr_actions.specs.record_laws_Owed.{loses_head}
use Rattle.ctr_actions.proofs.record_laws_Xids.{both_same, more_same, less_same, aborted_less_same}
use Rattle.ctr_actions.specs.area_Chains.{pages_bound}
use Rattle.ctr_actions.specs.ctr_redo.States.{State, counting}
use Rattle.ctr_actions.specs.ctr_record_effects.States.{pages_in, area_in}
use Rattle.ctr_actions.specs.ctr_record_effects.Standing.{IsDatabaseState}
use Rattle.ctr_actions.proofs.record_laws_Grown.{grown_sound}
use Rattle.ctr_passed.proofs.Grown.{pages_more}
use Rattle.ctr_actions.specs.Sites.{Site}
use Rattle.ctr_actions.specs.Actions.{Action, Begins, Allocates, Formats, Links, LinksOlder, Keeps, Writes, Creates, Drops, Commits, Frees, Uncreates, Undrops, Aborts, Reclaims, Reverts, Trims, Cuts, FreesOlder, MakesDead, Unlinks, UnlinksOlder, FreesEntry, Forgets, Checkpoints, site_after}

module _ (x : ℕ) (site : Site) where
  pub drawn_after : (a : Action) → 0 < site.tables.next → 0 < (site_after x a site).tables.next
  drawn_after Begins some = omega (arith, some)
  drawn_after (Allocates p) some = some
  drawn_after (Formats p h) some = some
  drawn_after (Links p e b) some = some
  drawn_after (LinksOlder p e) some = some
  drawn_after (Keeps e at older) some = some
  drawn_after (Writes m) some =
      let more : Tables = one_head_more m.xid site.tables in
      subst (λ n. 0 < n) (sym (both_same site.tables more (one_head_less (loses_head site.tables (site.area.slot m.at)) more) (more_same m.xid site.tables) (less_same (loses_head site.tables (site.area.slot m.at)) more)).next) some
  drawn_after (Creates e name columns left) some = some
  drawn_after (Drops e) some = some
  drawn_after Commits some = some
  drawn_after (Frees p) some = some
  drawn_after (Uncreates e) some = some
  drawn_after (Undrops e) some = some
  drawn_after Aborts some = some
  drawn_after (Reclaims p) some = some
  drawn_after (Reverts e at way) some = subst (λ n. 0 < n) (sym (aborted_less_same (site.area.slot at).head.0 site.tables).next) some
  drawn_after (Trims passes e at way) some = some
  drawn_after (Cuts passes e at q) some = some
  drawn_after (FreesOlder e q) some = some
  drawn_after (MakesDead passes e) some = some
  drawn_after (Unlinks p e b) some = some
  drawn_after (UnlinksOlder p e) some = some
  drawn_after (FreesEntry e title left) some = some
  drawn_after (Forgets y) some = some
  drawn_after (Checkpoints lists) some = some

  pub counted_after : (a : Action) → (site_after x a site).counted ≡ site.counted
  counted_after Begins = refl
  counted_after (Allocates p) = refl
  counted_after (Formats p h) = refl
  counted_after (Links p e b) = refl
  counted_after (LinksOlder p e) = refl
  counted_after (Keeps e at older) = refl
  counted_after (Writes m) = refl
  counted_after (Creates e name columns left) = refl
  counted_after (Drops e) = refl
  counted_after Commits = refl
  counted_after (Frees p) = refl
  counted_after (Uncreates e) = refl
  counted_after (Undrops e) = refl
  counted_after Aborts = refl
  counted_after (Reclaims p) = refl
  counted_after (Reverts e at way) = refl
  counted_after (Trims passes e at way) = refl
  counted_after (Cuts passes e at q) = refl
  counted_after (FreesOlder e q) = refl
  counted_after (MakesDead passes e) = refl
  counted_after (Unlinks p e b) = refl
  counted_after (UnlinksOlder p e) = refl
  counted_after (FreesEntry e title left) = refl
  counted_after (Forgets y) = refl
  counted_after (Checkpoints lists) = refl

-- more pages are counted
pub sound_grown : (more : ℕ) (s : State) → IsDatabaseState s → s.counted ≤ more → more ≤ pages_bound → IsDatabaseState (counting more s)
sound_grown more s sound le few = record {
  passed = pages_more s.counted more le (pages_in s) sound.passed;
  sound = grown_sound s.counted more s.tables (area_in s) le sound.sound;
  few = few;
  some = sound.some;
}
