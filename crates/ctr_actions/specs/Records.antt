-- Which record each action is.
use Rattle.std.specs.Prelude.{◌≡◌, ℕ}
use Rattle.ctr_record_effects.specs.rec_Overlay.{Overlay}
use Rattle.ctr_record_effects.specs.rec_Record.{Record}
use Rattle.ctr_record_effects.specs.rec_Record.TheVariants.{Checkpoint, Begin, Commit, Abort, Forget, Alloc, Format, Link, Free, Unlink, Create, Uncreate, Drop, Undrop, Row, Keep, Revert, Trim}
use Rattle.ctr_record_effects.specs.ctr_redo.States.{State}
use Rattle.ctr_record_laws.specs.Owed.{loses_head}
use Rattle.ctr_actions.specs.Sites.{Site, site_of}
use Rattle.ctr_actions.specs.Actions.{Action, Begins, Allocates, Formats, Links, LinksOlder, Keeps, Writes, Creates, Drops, Commits, Frees, Uncreates, Undrops, Aborts, Reclaims, Reverts, Trims, Cuts, FreesOlder, MakesDead, Unlinks, UnlinksOlder, FreesEntry, Forgets, Checkpoints, Owes, site_after}

-- The record, with the overlay that it lays; those that lay none have none.
abbrev pub record_of : ℕ → Action → Site → Overlay → Record
record_of x Begins s o = Begin x
record_of x (Allocates p) s o = Alloc x p o
record_of x (Formats p h) s o = Format x p o
record_of x (Links p e b) s o = Link x p o
record_of x (LinksOlder p e) s o = Link x p o
record_of x (Keeps e at older) s o = Keep x o
record_of x (Writes m) s o = Row x (loses_head s.tables (s.area.slot m.at)) o
record_of x (Creates e name columns left) s o = Create x e o
record_of x (Drops e) s o = Drop x e o
record_of x Commits s o = Commit x
record_of x (Frees p) s o = Free p o
record_of x (Uncreates e) s o = Uncreate e o
record_of x (Undrops e) s o = Undrop e o
record_of x Aborts s o = Abort x
record_of x (Reclaims p) s o = Free p o
record_of x (Reverts e at way) s o = Revert (s.area.slot at).head.0 o
record_of x (Trims passes e at way) s o = Trim o
record_of x (Cuts passes e at q) s o = Trim o
record_of x (FreesOlder e q) s o = Trim o
record_of x (MakesDead passes e) s o = Trim o
record_of x (Unlinks p e b) s o = Unlink p o
record_of x (UnlinksOlder p e) s o = Unlink p o
record_of x (FreesEntry e title left) s o = Trim o
record_of x (Forgets y) s o = Forget y
record_of x (Checkpoints lists) s o = Checkpoint s.tables.next lists

-- A state is left by an action, which owes nothing more in the one before.
pub record Does (x : ℕ) (a : Action) (s t : State) : Type 0 where
  pub owed : Owes x a (site_of s)
  pub leaves : site_of t ≡ site_after x a (site_of s)
