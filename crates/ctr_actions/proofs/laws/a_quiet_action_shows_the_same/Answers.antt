use Rattle.std.proofs.Common.{◌≤◌, ℕ, true, false, refl}
use Rattle.ctr_record_laws.specs.area_Chains.{pages_bound}
use Rattle.ctr_record_laws.specs.Bounds.{IsInBounds}
use Rattle.ctr_record_laws.specs.Shows.{ShowTheSame}
use Rattle.ctr_actions.specs.Sites.{Site, IsSoundSite}
use Rattle.ctr_actions.specs.Actions.{Action, Begins, Allocates, Formats, Links, LinksOlder, Keeps, Writes, Creates, Drops, Commits, Frees, Uncreates, Undrops, Aborts, Reclaims, Reverts, Trims, Cuts, FreesOlder, MakesDead, Unlinks, UnlinksOlder, FreesEntry, Forgets, Checkpoints, Owes, site_after, IsQuietAction}
use Rattle.ctr_actions.proofs.laws.a_quiet_action_shows_the_same.Goals as goal

pub returns : goal.returns
returns c = each
  where
    each : (x : ℕ) (a : Action) (s : Site) → IsInBounds s.area → s.counted ≤ pages_bound → IsSoundSite s → IsQuietAction a → Owes x a s → ShowTheSame s.area (site_after x a s).area
    each x Begins s bounds few sound quiet owed = absurd quiet
    each x (Allocates q) s bounds few sound quiet owed = c.records_on_pages_show_the_same.ensures.taken s.area q true
    each x (Formats q g) s bounds few sound quiet owed = c.records_on_pages_show_the_same.ensures.format s.counted s.tables s.area x q g bounds sound owed
    each x (Links q f k) s bounds few sound quiet owed = c.records_on_pages_show_the_same.ensures.link s.counted s.tables s.area x q f k few bounds sound owed
    each x (LinksOlder q f) s bounds few sound quiet owed = c.records_on_pages_show_the_same.ensures.versions s.area f q
    each x (Keeps f b older) s bounds few sound quiet owed = λ committed. (
      c.a_keep_shows_the_same.ensures.versions s.counted s.tables s.area f b older committed sound owed.1,
      c.a_keep_shows_the_same.ensures.rows s.counted s.tables s.area f b older committed sound owed.1,
    )
    each x (Writes m) s bounds few sound quiet owed = absurd quiet
    each x (Creates f name columns left) s bounds few sound quiet owed = absurd quiet
    each x (Drops f) s bounds few sound quiet owed = absurd quiet
    each x Commits s bounds few sound quiet owed = absurd quiet
    each x (Frees q) s bounds few sound quiet owed = c.records_on_pages_show_the_same.ensures.taken s.area q false
    each x (Uncreates f) s bounds few sound quiet owed = absurd quiet
    each x (Undrops f) s bounds few sound quiet owed = absurd quiet
    each x Aborts s bounds few sound quiet owed = absurd quiet
    each x (Reclaims q) s bounds few sound quiet owed = c.records_on_pages_show_the_same.ensures.taken s.area q false
    each x (Reverts f b way) s bounds few sound quiet owed = absurd quiet
    each x (Trims passes f b way) s bounds few sound quiet owed = absurd quiet
    each x (Cuts passes f b r) s bounds few sound quiet owed = absurd quiet
    each x (FreesOlder f r) s bounds few sound quiet owed = λ committed. (
      c.a_free_entry_shows_the_same.ensures.versions s.area r committed owed.unlinked,
      c.a_free_entry_shows_the_same.ensures.rows s.area r committed owed.unlinked,
    )
    each x (MakesDead passes f) s bounds few sound quiet owed = absurd quiet
    each x (Unlinks q f k) s bounds few sound quiet owed = absurd quiet
    each x (UnlinksOlder q f) s bounds few sound quiet owed = c.records_on_pages_show_the_same.ensures.versions s.area f (s.area.header q).next
    each x (FreesEntry f was left) s bounds few sound quiet owed = absurd quiet
    each x (Forgets z) s bounds few sound quiet owed = absurd quiet
    each x (Checkpoints lists) s bounds few sound quiet owed = λ committed. (refl, refl)
