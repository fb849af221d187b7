-- Turns: of whom they are, and which entry they make.
use Rattle.std.specs.Prelude.{◌≡◌, ◌⊎◌, ℕ, ◌+◌, ◌≤◌, true, List, [], ◌∷◌, ◌++◌, length, Some, None}
use Rattle.std.specs.List.{AllByRecursion}
use Rattle.std.specs.Ordering.{nat_cmp}
use Rattle.std.specs.FinMap.Entries.{find, put}
use Rattle.ctr_rec.specs.declared.record.SlogItem.{SlogItem}
use Rattle.ctr_types.specs.declared.statement.Line.{Line}
use Rattle.ctr_types.specs.declared.statement.Statement.{Statement}
use Rattle.ctr_types.specs.declared.tape.Act.{Act}
use Rattle.ctr_types.specs.declared.tape.Act.TheVariants as act
use Rattle.ctr_types.specs.declared.tape.Entry.{Entry}
use Rattle.ctr_types.specs.declared.tape.Reply.{Reply}
use Rattle.ctr_types.specs.declared.tape.Reply.TheVariants as reply
use Rattle.ctr_model.specs.declared.state.State.{State}
use Rattle.ctr_model.specs.declared.state.Transaction.{Transaction}
use Rattle.ctr_model.specs.declared.tape.Point.{Point}
use Rattle.ctr_model.specs.Database.{Database}
use Rattle.ctr_model.specs.Maps.{without}
use Rattle.ctr_model.specs.Reply.{with_granted}
use Rattle.ctr_model.specs.State.{transaction_of, with_transaction}
use Rattle.ctr_model.specs.Tape.{statement_of, final, Comes, at_start}
use Rattle.ctr_versions.specs.Engine.{SessionHeld}
use Rattle.ctr_paged.specs.area_Areas.{Title}
use Rattle.ctr_paged.specs.area_Sound.{IsAmong}
use Rattle.ctr_paged.specs.actions_Sites.{Site}
use Rattle.ctr_paged.specs.actions_Facts.{Fact, HasTable, HoldsFact}
use Rattle.ctr_paged.specs.Shown.{Scene}
use Rattle.ctr_paged.specs.Moving.{held_as, begun_now}
use Rattle.ctr_kept.specs.Carried.{IsUnderLock, IsOfEntry}
use Rattle.ctr_kept.specs.Walk.{Mind, with_facts, scene_of, Keeps}

-- What a run begins with: its script, the moment, the rows, the names that recovery holds, and how
-- large the undo of the start is.
pub record Start : Type 0 where
  pub lines : List Line
  pub moment : ℕ
  pub base : Database
  pub stuck : List (List ℕ)
  pub size : ℕ

-- the point at which the tape begins
abbrev pub start_point : Start → Point
start_point c = at_start c.moment c.base c.stuck

-- the point to which the tape has led
abbrev pub point_now : Start → Mind → Point
point_now c w = final c.lines (start_point c) w.tape

-- the state that the tape has reached
abbrev pub state_now : Start → Mind → State
state_now c w = (point_now c w).state

-- the scene that the tape has reached
abbrev pub scene_now : Start → Mind → Scene
scene_now c w = scene_of c.lines (start_point c) w

-- What is kept of a run, now.
abbrev pub KeepsRun : Start → ℕ → Site → Mind → Type 0
KeepsRun c now site w = Keeps c.lines (start_point c) c.size now site w

-- a session in a transaction, as it is held
pub record InTransaction (c : Start) (w : Mind) (s : ℕ) : Type 0 where
  pub session : SessionHeld
  pub t : Transaction
  pub at : find nat_cmp s w.run.sessions ≡ Some session
  pub is_t : transaction_of (state_now c w) s ≡ Some t

-- A statement of a session, of which an act is told at a moment: not before the call that tells it
-- began, which is now.
pub record Telling (c : Start) (now s : ℕ) : Type 0 where
  pub n : ℕ
  pub later : ℕ
  pub in_call : now ≤ later
  pub statement : Statement
  pub is_it : statement_of c.lines s n ≡ Some statement

-- the entry of an act with its reply
abbrev pub entry_of : {c : Start} {now : ℕ} → (s : ℕ) → Telling c now s → Act → Reply → Entry
entry_of s e a r = record { session = s; statement = e.n; act = a; reply = r; moment = e.later }

-- the entry may come next
abbrev pub MayCome : {now s : ℕ} → (c : Start) → Mind → Telling c now s → Act → Reply → Type 0
MayCome {now} {s} c w e a r = Comes c.lines (point_now c w) (entry_of s e a r)

-- the mind, once the act is told on the tape
abbrev pub telling : {c : Start} {now s : ℕ} → Telling c now s → Act → Reply → Mind → Mind → Mind
telling {c} {now} {s} e a r w v = record v { tape = w.tape ++ entry_of s e a r ∷ [] }

-- the session carries these facts from now on
abbrev pub carrying : ℕ → List Fact → Mind → Mind
carrying s mine w = record w { facts = with_facts s mine w.facts }

-- What a session carries from now on: it holds of its number and lies under a lock of its
-- transaction, each fact of a table with its title.
pub record Carries (x : ℕ) (t : Transaction) (mine : List Fact) (site : Site) : Type 0 where
  pub held : (fact : Fact) → IsAmong fact mine → HoldsFact x fact site × IsUnderLock t fact site
  pub tables : (fact : Fact) (e : ℕ) → IsAmong fact mine → IsOfEntry fact e
      → (title : Title) × IsAmong (HasTable e title) mine

-- the session is within its rollback
abbrev pub undoing_mind : ℕ → SessionHeld → List Fact → Mind → Mind
undoing_mind s b mine w =
    record (carrying s mine w) { run = held_as s (record b { undoing = true }) w.run }

-- the session has drawn this number
abbrev pub drawn_mind : ℕ → SessionHeld → ℕ → List Fact → Mind → Mind
drawn_mind s b x mine w =
    record (carrying s mine w) { run = held_as s (record b { me = x }) w.run }

-- the session and its snapshot are gone
abbrev pub gone_mind : ℕ → Mind → Mind
gone_mind s w = record (carrying s [] w) {
  run = record w.run { sessions = without nat_cmp s w.run.sessions };
  since = without nat_cmp s w.since;
}

-- the session has begun, with the number of its snapshot
abbrev pub begun_mind : ℕ → Site → ℕ → Mind → Mind
begun_mind s site answered w = record (carrying s [] w) {
  run = held_as s (begun_now site w.run) w.run;
  since = put nat_cmp s answered w.since;
}

-- the scene in which the session has drawn this number, and was granted the act of its statement
abbrev pub drawn_scene : {c : Start} {w : Mind} {s : ℕ} → InTransaction c w s → ℕ → Transaction
    → Scene
drawn_scene {c} {w} {s} seat x u = record {
  run = held_as s (record seat.session { me = x }) w.run;
  state = with_transaction s u (state_now c w);
}

-- the scene in which the session has asked for its commit
abbrev pub asked_scene : {c : Start} {w : Mind} {s : ℕ} → InTransaction c w s → Scene
asked_scene {c} {w} {s} seat = record {
  run = record w.run { commits = w.run.commits ++ seat.session.me ∷ [] };
  state = with_transaction s (record seat.t { asked = Some (length (state_now c w).asked + 1) })
      (record (state_now c w) { asked = (state_now c w).asked ++ seat.t.own ∷ [] });
}

-- what the Lock of a statement brings to a transaction
abbrev pub granted_to : {c : Start} {now s : ℕ} → Telling c now s → Transaction → Transaction
granted_to e t = with_granted act.Lock (Some e.statement) t

-- undo's list without its latest item, a turn more
abbrev pub undone_mind : List SlogItem → Mind → Mind
undone_mind front w = record w { undo = record w.undo { items = front; turns = w.undo.turns + 1 } }

-- the entry by which recovery releases a name
abbrev pub release_entry : List ℕ → ℕ → Entry
release_entry name later = record {
  session = 0;
  statement = 0;
  act = act.Release name;
  reply = reply.Released;
  moment = later;
}

-- A session is as it was, in its transaction or in none; or it has asked for its commit, and is
-- gone.
abbrev pub StaysOrGoes : Start → Mind → Mind → ℕ → Type 0
StaysOrGoes c w v s = ((transaction_of (state_now c v) s ≡ transaction_of (state_now c w) s)
    × (find nat_cmp s v.run.sessions ≡ find nat_cmp s w.run.sessions))
    ⊎ ((t : Transaction) × (k : ℕ) × (transaction_of (state_now c w) s ≡ Some t)
    × (t.asked ≡ Some k) × (transaction_of (state_now c v) s ≡ None))

-- All that wait were answered, at one moment: as many answers as were asked and not answered. What
-- sessions count on, undo's list and who asked are as before, and so is each session that didn't
-- ask.
pub record AnswersEach (c : Start) (later : ℕ) (site : Site) (w : Mind) (n : ℕ) : Type 0 where
  pub mind : Mind
  pub entries : List Entry
  pub keeps : KeepsRun c later site mind
  pub tape : mind.tape ≡ w.tape ++ entries
  pub moments : AllByRecursion (λ (e : Entry). e.moment ≡ later) entries
  pub are_answers : AllByRecursion (λ (e : Entry). e.act ≡ act.Answer) entries
  pub many : length entries ≡ n
  pub answered : (state_now c mind).answered ≡ (state_now c w).answered + n
  pub asked : (state_now c mind).asked ≡ (state_now c w).asked
  pub facts : mind.facts ≡ w.facts
  pub undo : mind.undo ≡ w.undo
  pub commits : mind.run.commits ≡ w.run.commits
  pub each : (s : ℕ) → StaysOrGoes c w mind s
