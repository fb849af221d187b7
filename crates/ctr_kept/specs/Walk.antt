-- What a World on pages keeps between any two turns.
use Rattle.std.specs.Prelude.{◌≡◌, ℕ, ◌+◌, ◌≤◌, ◌==◌, true, List, [], Some, if◌then◌else◌}
use Rattle.std.specs.Option.{option_map}
use Rattle.std.specs.Ordering.{nat_cmp}
use Rattle.std.specs.FinMap.Entries.{find}
use Rattle.ctr_types.specs.declared.statement.Line.{Line}
use Rattle.ctr_types.specs.declared.statement.Statement.TheVariants as st
use Rattle.ctr_types.specs.declared.tape.Entry.{Entry}
use Rattle.ctr_model.specs.declared.state.Transaction.{Transaction}
use Rattle.ctr_model.specs.declared.tape.Point.{Point}
use Rattle.ctr_model.specs.State.{transaction_of}
use Rattle.ctr_model.specs.Tape.{statement_of, progress_of, final, Legal}
use Rattle.ctr_versions.specs.Engine.{SessionHeld}
use Rattle.ctr_paged.specs.sessions_Sessions.{IsDrawnFor}
use Rattle.ctr_paged.specs.actions_Sites.{Site}
use Rattle.ctr_paged.specs.actions_Facts.{Fact}
use Rattle.ctr_paged.specs.Paged.{Run, at_open}
use Rattle.ctr_paged.specs.Shown.{Scene, IsShown}
use Rattle.ctr_kept.specs.Carried.{AreCarried}
use Rattle.ctr_kept.specs.Undo.{Undo, undo_at, IsUndoLeft, CountsTo}

-- What a World has beside its store: the sessions and who asked; the number of each snapshot; what
-- each session counts on; undo's list; the tape.
pub record Mind : Type 0 where
  pub run : Run
  pub since : List (ℕ × ℕ)
  pub facts : ℕ → List Fact
  pub undo : Undo
  pub tape : List Entry

-- the run, and the state that the tape has reached
abbrev pub scene_of : List Line → Point → Mind → Scene
scene_of lines start w = record { run = w.run; state = (final lines start w.tape).state }

-- each session has the number of its snapshot, and a number of its own from its first lock on
pub record HaveBegun (since : List (ℕ × ℕ)) (scene : Scene) : Type 0 where
  pub since_is : (s : ℕ) → find nat_cmp s since
      ≡ option_map (λ (t : Transaction). t.snapshot) (transaction_of scene.state s)
  pub drawn : (s : ℕ) (t : Transaction) (b : SessionHeld) → transaction_of scene.state s ≡ Some t
      → find nat_cmp s scene.run.sessions ≡ Some b → IsDrawnFor b t

-- What is kept of a scene: it is shown by the site, from a low number on; sessions have begun as
-- they have there, and carry facts under their locks; and of the start's undo what isn't done is
-- left.
pub record KeepsScene (size : ℕ) (site : Site) (w : Mind) (scene : Scene) : Type 0 where
  pub low : ℕ
  pub shown : IsShown low site scene
  pub begun : HaveBegun w.since scene
  pub carried : AreCarried site scene w.facts
  pub undo : IsUndoLeft site.tables scene.run.sessions w.undo × CountsTo size w.undo

-- the next statement of a session is a ROLLBACK, of which nothing is answered yet
abbrev pub IsAtRollback : List Line → Point → ℕ → Type 0
IsAtRollback lines p s =
    statement_of lines s ((progress_of p s).finished + 1) ≡ Some st.Rollback

-- Each session that is within its rollback is at a ROLLBACK.
abbrev pub AreAtRollback : List Line → Point → Run → Type 0
AreAtRollback lines p run = (s : ℕ) (b : SessionHeld) → find nat_cmp s run.sessions ≡ Some b
    → b.undoing ≡ true → IsAtRollback lines p s

-- From the start the tape is legal, and not later than now; the scene that it has reached is kept;
-- and who is within a rollback is at its ROLLBACK.
pub record Keeps (lines : List Line) (start : Point) (size now : ℕ) (site : Site) (w : Mind)
    : Type 0 where
  pub legal : Legal lines start w.tape
  pub later : (final lines start w.tape).moment ≤ now
  pub scene : KeepsScene size site w (scene_of lines start w)
  pub rolls : AreAtRollback lines (final lines start w.tape) w.run

-- as it begins: nobody is in a transaction, and all of the start's undo is left
abbrev pub mind_at : Site → Mind
mind_at site = record {
  run = at_open;
  since = [];
  facts = λ s. [];
  undo = undo_at site.tables;
  tape = [];
}

-- a session carries other facts, the others what they carried
abbrev pub with_facts : ℕ → List Fact → (ℕ → List Fact) → ℕ → List Fact
with_facts s mine facts = λ r. if r == s then mine else facts r
