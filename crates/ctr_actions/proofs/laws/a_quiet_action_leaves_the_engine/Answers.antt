use Rattle.std.proofs.Common.{◌≡◌, ◌≤◌, ℕ, refl}
use Rattle.ctr_record_laws.specs.area_Chains.{pages_bound}
use Rattle.ctr_record_laws.specs.area_Images.{is_committed_in, versions_in}
use Rattle.ctr_record_laws.specs.Bounds.{IsInBounds}
use Rattle.ctr_actions.specs.Sites.{Site, IsSoundSite, IsSameEngine}
use Rattle.ctr_actions.specs.Actions.{Action, Begins, Allocates, Formats, Links, LinksOlder, Keeps, Writes, Creates, Drops, Commits, Frees, Uncreates, Undrops, Aborts, Reclaims, Reverts, Trims, Cuts, FreesOlder, MakesDead, Unlinks, UnlinksOlder, FreesEntry, Forgets, Checkpoints, Owes, site_after, IsQuietAction}
use Rattle.ctr_actions.proofs.laws.a_quiet_action_leaves_the_engine.Goals as goal

pub returns : goal.returns
returns c = each
  where
    shows : (x : ℕ) (a : Action) (s : Site) → IsInBounds s.area → s.counted ≤ pages_bound → IsSoundSite s → IsQuietAction a → Owes x a s → versions_in (is_committed_in s.tables) (site_after x a s).area ≡ versions_in (is_committed_in s.tables) s.area
    shows x a s bounds few sound quiet owed = (c.a_quiet_action_shows_the_same.ensures x a s bounds few sound quiet owed (is_committed_in s.tables)).0

    each : (x : ℕ) (a : Action) (s : Site) → IsInBounds s.area → s.counted ≤ pages_bound → IsSoundSite s → IsQuietAction a → Owes x a s → IsSameEngine s (site_after x a s)
    each x Begins s bounds few sound quiet owed = absurd quiet
    each x (Allocates q) s bounds few sound quiet owed = record { versions = shows x (Allocates q) s bounds few sound quiet owed; committed = refl; next = refl; opens = refl; aborted = refl }
    each x (Formats q g) s bounds few sound quiet owed = record { versions = shows x (Formats q g) s bounds few sound quiet owed; committed = refl; next = refl; opens = refl; aborted = refl }
    each x (Links q f k) s bounds few sound quiet owed = record { versions = shows x (Links q f k) s bounds few sound quiet owed; committed = refl; next = refl; opens = refl; aborted = refl }
    each x (LinksOlder q f) s bounds few sound quiet owed = record { versions = shows x (LinksOlder q f) s bounds few sound quiet owed; committed = refl; next = refl; opens = refl; aborted = refl }
    each x (Keeps f b older) s bounds few sound quiet owed = record { versions = shows x (Keeps f b older) s bounds few sound quiet owed; committed = refl; next = refl; opens = refl; aborted = refl }
    each x (Writes m) s bounds few sound quiet owed = absurd quiet
    each x (Creates f name columns left) s bounds few sound quiet owed = absurd quiet
    each x (Drops f) s bounds few sound quiet owed = absurd quiet
    each x Commits s bounds few sound quiet owed = absurd quiet
    each x (Frees q) s bounds few sound quiet owed = record { versions = shows x (Frees q) s bounds few sound quiet owed; committed = refl; next = refl; opens = refl; aborted = refl }
    each x (Uncreates f) s bounds few sound quiet owed = absurd quiet
    each x (Undrops f) s bounds few sound quiet owed = absurd quiet
    each x Aborts s bounds few sound quiet owed = absurd quiet
    each x (Reclaims q) s bounds few sound quiet owed = record { versions = shows x (Reclaims q) s bounds few sound quiet owed; committed = refl; next = refl; opens = refl; aborted = refl }
    each x (Reverts f b way) s bounds few sound quiet owed = absurd quiet
    each x (Trims passes f b way) s bounds few sound quiet owed = absurd quiet
    each x (Cuts passes f b r) s bounds few sound quiet owed = absurd quiet
    each x (FreesOlder f r) s bounds few sound quiet owed = record { versions = shows x (FreesOlder f r) s bounds few sound quiet owed; committed = refl; next = refl; opens = refl; aborted = refl }
    each x (MakesDead passes f) s bounds few sound quiet owed = absurd quiet
    each x (Unlinks q f k) s bounds few sound quiet owed = absurd quiet
    each x (UnlinksOlder q f) s bounds few sound quiet owed = record { versions = shows x (UnlinksOlder q f) s bounds few sound quiet owed; committed = refl; next = refl; opens = refl; aborted = refl }
    each x (FreesEntry f was left) s bounds few sound quiet owed = absurd quiet
    each x (Forgets z) s bounds few sound quiet owed = absurd quiet
    each x (Checkpoints lists) s bounds few sound quiet owed = record { versions = shows x (Checkpoints lists) s bounds few sound quiet owed; committed = refl; next = refl; opens = refl; aborted = refl }
