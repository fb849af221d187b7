use Rattle.std.proofs.Common.{◌≡◌, ◌≤◌, ℕ, refl}
use Rattle.std.proofs.lemmas.Bool.{eq-eqb}
use Rattle.ctr_record_laws.specs.area_Chains.{pages_bound}
use Rattle.ctr_record_laws.specs.meta_Wanted.TheVariants.{OfPage}
use Rattle.ctr_record_laws.specs.rec_SlogItem.TheVariants.{FreeOf}
use Rattle.ctr_record_laws.proofs.Items.{any_there}
use Rattle.ctr_record_laws.specs.Bounds.{IsInBounds}
use Rattle.ctr_actions.specs.Sites.{Site, IsSoundSite}
use Rattle.ctr_actions.specs.Actions.{Action, Begins, Allocates, Formats, Links, LinksOlder, Keeps, Writes, Creates, Drops, Commits, Frees, Uncreates, Undrops, Aborts, Reclaims, Reverts, Trims, Cuts, FreesOlder, MakesDead, Unlinks, UnlinksOlder, FreesEntry, Forgets, Checkpoints, Owes, site_after}
use Rattle.ctr_actions.proofs.laws.an_action_stays_sound.Goals as goal

pub returns-clause-sound : goal.returns-clause-sound
returns-clause-sound c = each
  where
    each : (x : ℕ) (a : Action) (s : Site) → IsInBounds s.area → s.counted ≤ pages_bound → IsSoundSite s → Owes x a s → IsSoundSite (site_after x a s)
    each x Begins s bounds few sound owed = c.a_begin_stays_sound.ensures s.counted s.tables s.area x sound owed
    each x (Allocates q) s bounds few sound owed = c.an_alloc_stays_sound.ensures s.counted s.tables s.area x q sound owed
    each x (Formats q g) s bounds few sound owed = c.a_format_stays_sound.ensures s.counted s.tables s.area x q g bounds sound owed
    each x (Links q f k) s bounds few sound owed = c.a_link_stays_sound.ensures.bucket s.counted s.tables s.area x q f k few bounds sound owed
    each x (LinksOlder q f) s bounds few sound owed = c.a_link_stays_sound.ensures.versions s.counted s.tables s.area x q f few bounds sound owed
    each x (Keeps f b older) s bounds few sound owed = c.a_keep_shows_the_same.ensures.sound s.counted s.tables s.area f b older sound owed.1
    each x (Writes m) s bounds few sound owed = c.a_row_writes_its_chain.ensures.sound s.counted s.tables s.area m bounds sound owed.1
    each x (Creates f name columns left) s bounds few sound owed = c.a_create_stays_sound.ensures s.counted s.tables s.area left x f name columns bounds sound owed.0 owed.1
    each x (Drops f) s bounds few sound owed = c.a_drop_stays_sound.ensures s.counted s.tables s.area x f sound owed
    each x Commits s bounds few sound owed = c.a_commit_stays_sound.ensures s.counted s.tables s.area x sound owed
    each x (Frees q) s bounds few sound owed = c.a_free_stays_sound.ensures s.counted s.tables s.area q sound (c.a_record_leaves_what_the_next_owes.ensures.given_back s.tables x q owed)
    each x (Uncreates f) s bounds few sound owed = c.an_uncreate_stays_sound.ensures s.counted s.tables s.area x f sound owed
    each x (Undrops f) s bounds few sound owed = c.an_undrop_stays_sound.ensures s.counted s.tables s.area x f sound owed
    each x Aborts s bounds few sound owed = c.an_abort_stays_sound.ensures s.counted s.tables s.area x sound owed
    each x (Reclaims q) s bounds few sound owed = c.a_free_stays_sound.ensures s.counted s.tables s.area q sound (any_there (OfPage q) (FreeOf q) s.tables.items (eq-eqb q q refl) owed)
    each x (Reverts f b way) s bounds few sound owed = c.a_revert_takes_the_head.ensures.sound s.counted s.tables s.area f b way bounds sound owed
    each x (Trims passes f b way) s bounds few sound owed = c.a_trim_cuts_its_chain.ensures.sound passes s.counted s.tables s.area f b way bounds sound owed
    each x (Cuts passes f b r) s bounds few sound owed = c.a_cut_ends_its_chain.ensures.sound s.counted s.tables s.area r sound
    each x (FreesOlder f r) s bounds few sound owed = c.a_free_entry_shows_the_same.ensures.sound s.counted s.tables s.area r sound owed.unlinked
    each x (MakesDead passes f) s bounds few sound owed = c.a_trimmed_entry_stays_sound.ensures.dead passes s.counted s.tables s.area f sound owed
    each x (Unlinks q f k) s bounds few sound owed = c.an_unlink_stays_sound.ensures.bucket s.counted s.tables s.area q f k bounds sound owed
    each x (UnlinksOlder q f) s bounds few sound owed = c.an_unlink_stays_sound.ensures.versions s.counted s.tables s.area q f bounds sound owed
    each x (FreesEntry f was left) s bounds few sound owed = c.a_trimmed_entry_stays_sound.ensures.free s.counted s.tables s.area left f was sound owed.0 owed.1 owed.2
    each x (Forgets z) s bounds few sound owed = c.a_forget_stays_sound.ensures s.counted s.tables s.area z sound owed.gone
    each x (Checkpoints lists) s bounds few sound owed = sound

pub returns-clause-counted : goal.returns-clause-counted
returns-clause-counted c = each
  where
    each : (x : ℕ) (a : Action) (s : Site) → (site_after x a s).counted ≡ s.counted
    each x Begins s = refl
    each x (Allocates q) s = refl
    each x (Formats q g) s = refl
    each x (Links q f k) s = refl
    each x (LinksOlder q f) s = refl
    each x (Keeps f b older) s = refl
    each x (Writes m) s = refl
    each x (Creates f name columns left) s = refl
    each x (Drops f) s = refl
    each x Commits s = refl
    each x (Frees q) s = refl
    each x (Uncreates f) s = refl
    each x (Undrops f) s = refl
    each x Aborts s = refl
    each x (Reclaims q) s = refl
    each x (Reverts f b way) s = refl
    each x (Trims passes f b way) s = refl
    each x (Cuts passes f b r) s = refl
    each x (FreesOlder f r) s = refl
    each x (MakesDead passes f) s = refl
    each x (Unlinks q f k) s = refl
    each x (UnlinksOlder q f) s = refl
    each x (FreesEntry f was left) s = refl
    each x (Forgets z) s = refl
    each x (Checkpoints lists) s = refl
