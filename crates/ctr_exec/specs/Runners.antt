-- Where each session of a script stands: its lines, the statements that are finished, and what it
-- is in the middle of.
use Rattle.std.specs.Prelude.{◌≡◌, ◌==◌, ◌≤◌, ◌+◌, ◌-◌, ◌*◌, ℕ, List, [], ◌∷◌, length, Some, get_or, slice_get, if◌then◌else◌}
use Rattle.std.specs.List.{sum_by}
use Rattle.ctr_types.specs.declared.statement.Line.{Line}
use Rattle.ctr_model.specs.Tape.{statement_of}
use Rattle.ctr_exec.specs.declared.runners.Runner.{Runner}
use Rattle.ctr_exec.specs.declared.runners.Stage.{Stage}
use Rattle.ctr_exec.specs.declared.runners.Stage.TheVariants as stage

-- the places of a session's lines, in lines before which so many stand
abbrev pub places_of : ℕ → ℕ → List Line → List ℕ
places_of s n [] = []
places_of s n (l ∷ ls) =
    if l.session == s then n ∷ places_of s (n + 1) ls else places_of s (n + 1) ls

-- how many acts of its next statement a session has told
abbrev pub made_at : Stage → ℕ
made_at stage.Between = 0
made_at (stage.Row e prepared at) = 1
made_at (stage.Table write) = 1
made_at stage.Asked = 1

-- a statement is finished, where the session is in the middle of none
abbrev pub finished_with : Stage → ℕ → ℕ
finished_with stage.Between n = n + 1
finished_with (stage.Row e prepared at) n = n
finished_with (stage.Table write) n = n
finished_with stage.Asked n = n

-- the session after an act of its next statement is told
abbrev pub after_act : Stage → Runner → Runner
after_act g runner = record {
  places = runner.places;
  finished = finished_with g runner.finished;
  stage = g;
}

-- a session without a statement
abbrev pub vacant : Runner
vacant = record { places = []; finished = 0; stage = stage.Between }

-- a session's; they are numbered from 1
abbrev pub runner_at : ℕ → List Runner → Runner
runner_at s runners = get_or runners (s - 1) vacant

-- how many acts a session has left at most: two of each statement
abbrev pub acts_left : Runner → ℕ
acts_left runner = 2 * (length runner.places - runner.finished) - made_at runner.stage

-- how many all sessions of the runners have left at most
abbrev pub all_left : List Runner → ℕ
all_left runners = sum_by acts_left runners

-- A runner has the lines of its session, and is at one of them or behind the last.
pub record IsRunnerOf (lines : List Line) (s : ℕ) (runner : Runner) : Type 0 where
  pub places : runner.places ≡ places_of s 0 lines
  pub within : runner.finished + made_at runner.stage ≤ length runner.places

-- each is the one of its session, the first of them of this one
abbrev pub AreRunners : List Line → ℕ → List Runner → Type 0
AreRunners lines s [] = Unit {0}
AreRunners lines s (runner ∷ runners) = IsRunnerOf lines s runner × AreRunners lines (s + 1) runners

-- A runner has begun none of its statements.
pub record IsUnbegun (runner : Runner) : Type 0 where
  pub none : runner.finished ≡ 0
  pub between : runner.stage ≡ stage.Between

-- the line at this place is the next of its session, which finished so many statements
pub record IsNextLine (lines : List Line) (s finished place : ℕ) : Type 0 where
  pub line : Line
  pub there : slice_get lines place ≡ Some line
  pub named : statement_of lines s (finished + 1) ≡ Some line.statement
