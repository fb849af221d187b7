-- A commit that is answered in a World, whoever flushed.
use Rattle.std.specs.Prelude.{◌≡◌, ℕ, ◌+◌, [], ◌∷◌, ◌++◌}
use Rattle.ctr_disk.specs.declared.disk.Disk.{Ghosts}
use Rattle.ctr_types.specs.declared.tape.Act.TheVariants as act
use Rattle.ctr_types.specs.declared.tape.Entry.{Entry}
use Rattle.ctr_types.specs.declared.tape.Reply.TheVariants as reply
use Rattle.ctr_model.specs.declared.tape.Point.{Point}
use Rattle.ctr_model.specs.Tape.{progress_of}
use Rattle.ctr_store.specs.Store.{View}
use Rattle.ctr_writing.specs.ctr_session_world.kept_Walk.{Mind}
use Rattle.ctr_writing.specs.ctr_session_world.kept_Turns.{Start, point_now}
use Rattle.ctr_writing.specs.ctr_session_world.txn_Asked.{Asked}
use Rattle.ctr_writing.specs.ctr_session_world.World.{SessionsHeld, InWorld}

-- a World of these transactions and locks
pub record IsWorld {D : Type 0} (g : Ghosts D) (c : Start) (opened : D) (v : View D)
    (h : SessionsHeld) : Type 0 where
  pub mind : Mind
  pub world : InWorld g c opened v h mind

-- the entry by which a session's commit is answered: it is of the session's COMMIT, the next
-- statement of those that it has finished
abbrev pub answer_by : Point → ℕ → ℕ × Asked → Entry
answer_by p moment r = record {
  session = r.0;
  statement = (progress_of p r.0).finished + 1;
  act = act.Answer;
  reply = reply.Answered r.1.k;
  moment = moment;
}

-- A session was answered: it is told so on the tape, with the number of its commit, and this is the
-- World then. What sessions count on, and undo's list, are as they were.
pub record IsAnswered {D : Type 0} {g : Ghosts D} {c : Start} {opened : D} {v : View D}
    {h : SessionsHeld} (before : IsWorld g c opened v h) (r : ℕ × Asked) (now : SessionsHeld)
    : Type 0 where
  pub mind : Mind
  pub world : InWorld g c opened v now mind
  pub tape : mind.tape ≡ before.mind.tape
      ++ answer_by (point_now c before.mind) (g.moment_of v.disk) r ∷ []
  pub facts : mind.facts ≡ before.mind.facts
  pub undo : mind.undo ≡ before.mind.undo
