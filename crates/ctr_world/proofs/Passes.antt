-- The cleaner's pass in a World, beside what others do.
use Rattle.std.proofs.Common.{◌≡◌, ⊎_elim, inl, inr, ℕ, ◌≤◌, ◌<◌, List, [], ◌++◌, refl, sym, ap, subst, arith}
use Rattle.std.specs.Prelude.{length}
use Rattle.std.proofs.lemmas.List.{append-nil}
use Rattle.ctr_types.specs.declared.statement.Line.{Line}
use Rattle.ctr_types.specs.declared.tape.Entry.{Entry}
use Rattle.ctr_model.specs.declared.tape.Point.{Point}
use Rattle.ctr_model.specs.Tape.{final}
use Rattle.ctr_redo.specs.States.{State}
use Rattle.ctr_undo.specs.Left.{UndoLeft}
use Rattle.ctr_undo.specs.kept_Turns.{start_point}
use Rattle.ctr_pass.specs.session_world_Ready.{StillOrLogs}
use Rattle.ctr_pass.specs.declared.pass.Pass.{Pass}
use Rattle.ctr_pass.specs.cursor_Position.{Position}
use Rattle.ctr_pass.specs.cursor_Position.TheVariants.{Entry as AtEntry, Slot, Kept, Aborted}
use Rattle.ctr_pass.specs.cursor_Standing.{IsCountedPosition}
use Rattle.ctr_pass.specs.Keeping.{PassedOver, KeepsPass, StaysOrLogs}
use Rattle.ctr_world.specs.declared.opening.Opening.{Ghosts as Opening}
use Rattle.ctr_world.specs.Held.{Running}
use Rattle.ctr_world.specs.World.{KeepsPassIn, passed_over, start_in}
use Rattle.ctr_world.specs.Cleaning.{LeavesPass}

-- what a position names is there, where more pages are counted
further : (p n m : ℕ) → p < n → n ≤ m → p < m
further p n m inside more = omega (arith, inside, more)

pub place_more : (n m : ℕ) → n ≤ m → (x : Position) → IsCountedPosition n x → IsCountedPosition m x
place_more n m more (AtEntry e) is = is
place_more n m more (Slot e b at) is = (is.0, further at.page n m is.1 more)
place_more n m more (Kept e at) is = (is.0, further at.page n m is.1 more)
place_more n m more (Aborted k) is = is

-- the law of others' turns
abbrev pub BesideOthers : Type 0
BesideOthers = (lines : List Line) (first : Point) (p : Pass) (v u : PassedOver) (es : List Entry) → KeepsPass p v
    → v.led ≡ (final lines first v.tape).state → u.led ≡ (final lines first u.tape).state → u.tape ≡ v.tape ++ es → StaysOrLogs v u → KeepsPass p u

module _ {D B : Type 0} (o : Opening B) (s : State) (old new : Running D) where
  -- what others leave
  stays : StillOrLogs old.store new.store → LeavesPass old new → StaysOrLogs (passed_over o s old) (passed_over o s new)
  stays goes leaves = ⊎_elim
      (λ still. ⊎_elim
      (λ same. inl (record { next = still.next; state = still.now; undos = ap (λ (u : UndoLeft). length u.items) same }))
      inr
      leaves.undo)
      inr
      goes

  -- a pass is kept beside them
  pub pass_beside : BesideOthers → StillOrLogs old.store new.store → LeavesPass old new → (es : List Entry) → new.sessions.tape.items ≡ old.sessions.tape.items ++ es → KeepsPassIn o s old → KeepsPassIn o s new
  pass_beside law goes leaves es tape keeps = subst (λ (p : Pass). KeepsPass p (passed_over o s new)) (sym leaves.pass)
      (law o.lines (start_point (start_in o s)) old.pass (passed_over o s old) (passed_over o s new) es keeps refl refl tape (stays goes leaves))

  -- so where the tape is as it was
  pub pass_still : BesideOthers → StillOrLogs old.store new.store → LeavesPass old new → new.sessions.tape.items ≡ old.sessions.tape.items → KeepsPassIn o s old → KeepsPassIn o s new
  pass_still law goes leaves same keeps = pass_beside law goes leaves [] (tape_is same) keeps
    where
      tape_is : new.sessions.tape.items ≡ old.sessions.tape.items → new.sessions.tape.items ≡ old.sessions.tape.items ++ []
      tape_is is = subst (λ (es : List Entry). new.sessions.tape.items ≡ es) (sym (append-nil old.sessions.tape.items)) is
