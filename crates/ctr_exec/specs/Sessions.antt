-- The sessions of a script in a World.
use Rattle.std.specs.Prelude.{◌≡◌, ◌⊎◌, ℕ, ◌+◌, ◌≤◌, ◌<◌, ◌-◌, ◌*◌, ◌^◌, true, false, List, [], ◌∷◌, ◌++◌, length, None, Some, Result, Ok, Err, vec_len, vec_capacity}
use Rattle.std.specs.List.{AllByRecursion}
use Rattle.ctr_disk.specs.declared.disk.Disk.{Ghosts}
use Rattle.ctr_disk.specs.declared.fault.StoreFault.{StoreFault}
use Rattle.ctr_disk.specs.declared.fault.StoreFault.TheVariants.{Fault}
use Rattle.ctr_types.specs.declared.statement.Line.{Line}
use Rattle.ctr_types.specs.declared.statement.Statement.{Statement}
use Rattle.ctr_types.specs.declared.statement.Statement.TheVariants as st
use Rattle.ctr_types.specs.declared.tape.Act.{Act}
use Rattle.ctr_types.specs.declared.tape.Act.TheVariants as act
use Rattle.ctr_types.specs.declared.tape.Entry.{Entry}
use Rattle.ctr_types.specs.declared.tape.Reply.{Reply}
use Rattle.ctr_types.specs.declared.tape.Reply.TheVariants as reply
use Rattle.ctr_types.specs.declared.tape.Turn.{Turn}
use Rattle.ctr_types.specs.declared.tape.Turn.TheVariants as turn
use Rattle.ctr_model.specs.Reply.{without_name}
use Rattle.ctr_model.specs.Tape.{progress_of, statement_of}
use Rattle.ctr_base.specs.declared.growing.TheConstants.{MOST_PAGES}
use Rattle.ctr_store.specs.Store.{View, HasTurnRoom, turns_for_room}
use Rattle.ctr_control.specs.kept_Turns.{Start, point_now, release_entry, state_now}
use Rattle.ctr_control.specs.kept_Walk.{Mind}
use Rattle.ctr_meta.specs.Kept.{TablesKept}
use Rattle.ctr_control.specs.txn_Held.{IsOneOfEight, IsWriting, number_drawn, txn_of}
use Rattle.ctr_control.specs.txn_Rooms.{HasItemRoom}
use Rattle.ctr_control.specs.ctr_rollback.declared.rolling.Rolled.{Rolled}
use Rattle.ctr_control.specs.ctr_rollback.declared.rolling.Rolled.TheVariants.{Undone, Back}
use Rattle.ctr_control.specs.ctr_rollback.Rolling.{RollsTo}
use Rattle.ctr_control.specs.ctr_session_world.World.{SessionsHeld, InWorld, NamesStay}
use Rattle.ctr_control.specs.ctr_session_world.Ready.{StandOver, is_asking}
use Rattle.ctr_control.specs.ctr_writing.Rows.{WentOn}
use Rattle.ctr_control.specs.ctr_writing.Tables.{HasFittingColumns}
use Rattle.ctr_exec.specs.declared.acting.Acted.{Acted}
use Rattle.ctr_exec.specs.declared.acting.Acted.TheVariants as acted
use Rattle.ctr_exec.specs.declared.runners.Runner.{Runner}
use Rattle.ctr_exec.specs.declared.runners.Stage.TheVariants as stage
use Rattle.ctr_exec.specs.declared.sessions.Sessions.{Sessions}
use Rattle.ctr_exec.specs.Acting.{IsMidway, MayAct, WantsRoom}
use Rattle.ctr_exec.specs.Runners.{made_at, after_act, runner_at, all_left, AreRunners, IsUnbegun}

-- ---- whatever the disk tells

-- Each session is at one of its lines or behind the last, and may take its next turn; who has asked
-- for a commit, and nobody else, waits for its answer, at a COMMIT. The tape has room for all acts
-- that are left, and for the release of each name that recovery holds.
pub record AreSeated (h : Sessions) (counted : ℕ) : Type 0 where
  pub eight : length h.runners.items ≡ 8
  pub few : length h.script.lines < 2 ^ 32 - 1
  pub runners : AreRunners h.script.lines 1 h.runners.items
  pub fit : AllByRecursion (λ (l : Line). HasFittingColumns l.statement) h.script.lines
  pub room : vec_len h.tape + all_left h.runners.items + length h.stuck ≤ vec_capacity h.tape
  pub asked : (s : ℕ) → IsOneOfEight s → is_asking (txn_of s h.txns) ≡ true
      → (runner_at s h.runners.items).stage ≡ stage.Asked
  pub commits : (s : ℕ) → IsOneOfEight s → (runner_at s h.runners.items).stage ≡ stage.Asked
      → statement_of h.script.lines s ((runner_at s h.runners.items).finished + 1) ≡ Some st.Commit
  pub waits : (s : ℕ) → IsOneOfEight s → (runner_at s h.runners.items).stage ≡ stage.Asked
      → is_asking (txn_of s h.txns) ≡ true
  pub may : (s : ℕ) (statement : Statement) → IsOneOfEight s
      → statement_of h.script.lines s ((runner_at s h.runners.items).finished + 1) ≡ Some statement
      → ((runner_at s h.runners.items).stage ≡ stage.Asked → ⊥)
      → MayAct (runner_at s h.runners.items).stage s statement h.txns counted

-- A turn of a session may be taken over a store: it isn't stopped, and has a number for one record
-- more.
pub record MayGo {D : Type 0} (s : ℕ) (h : Sessions) (v : View D) : Type 0 where
  pub one : IsOneOfEight s
  pub stand : StandOver h.txns v
  pub going : v.stopped ≡ false
  pub number : v.next < 2 ^ 63 - 1
  pub seats : AreSeated h v.now.counted

-- What a turn leaves: the same, but for the number; it logged one record at most, and no page is
-- counted less.
pub record LeavesSeats {D : Type 0} (now : Sessions) (a b : View D) : Type 0 where
  pub stand : StandOver now.txns b
  pub going : b.stopped ≡ false
  pub seats : AreSeated now b.now.counted
  pub counted : a.now.counted ≤ b.now.counted
  pub one : b.next ≤ a.next + 1

-- a session has an act of its own next: a statement that isn't finished, and no answer to wait for
pub record HasAct (h : Sessions) (s : ℕ) : Type 0 where
  pub more : (runner_at s h.runners.items).finished < length (runner_at s h.runners.items).places
  pub unasked : (runner_at s h.runners.items).stage ≡ stage.Asked → ⊥

-- a turn is over exactly where its session has no statement left
abbrev pub IsOverWhere : Turn → Runner → Type 0
IsOverWhere turn.Over runner = length runner.places ≤ runner.finished
IsOverWhere turn.Went runner = runner.finished < length runner.places
IsOverWhere turn.Idle runner = ⊥
IsOverWhere turn.Short runner = ⊥
IsOverWhere turn.Stopped runner = ⊥

-- A number that falls at each turn of a session that isn't over: the acts that are left; for each
-- of them the numbers that are left for records; for each of those the pages that may be counted
-- more; and for each of these the turns for room.
unfoldable pub turns_left : {D : Type 0} → Sessions → View D → ℕ
turns_left h v =
    ((all_left h.runners.items * 2 ^ 64 + (2 ^ 63 - v.next)) * 2 ^ 15 +
    (MOST_PAGES - v.now.counted))
    * 4
    + turns_for_room v

-- Nobody has begun: no session is in a transaction, none has a lock, none has told an act.
pub record AreFresh (h : Sessions) : Type 0 where
  pub nobody : (s : ℕ) → txn_of s h.txns ≡ None
  pub answered : h.txns.answered ≡ 0
  pub commits : h.txns.numbers.commits ≡ []
  pub locks : h.locks ≡ []
  pub tape : h.tape.items ≡ []
  pub unbegun : AllByRecursion IsUnbegun h.runners.items
  pub room : (k : TablesKept) → HasItemRoom h.txns k

-- ---- recovery

-- Recovery has released a name: the tape says so, at this moment, and the name is no longer held.
-- Nothing else changes.
pub record IsReleased (name : List ℕ) (moment : ℕ) (h now : Sessions) : Type 0 where
  pub same : now ≡ record h { tape = now.tape; stuck = now.stuck }
  pub tape : now.tape.items ≡ h.tape.items ++ release_entry name moment ∷ []
  pub stuck : now.stuck ≡ without_name name h.stuck

-- ---- an act that is told

-- the entry of a session's act of its next statement
abbrev pub noted_entry : ℕ → Runner → Act → Reply → ℕ → Entry
noted_entry s runner x r moment = record {
  session = s;
  statement = runner.finished + 1;
  act = x;
  reply = r;
  moment = moment;
}

-- what a turn of an act adds to the tape at a moment
abbrev pub entries_by : ℕ → Runner → ℕ → Acted → List Entry
entries_by s runner moment (acted.On at) = []
entries_by s runner moment (acted.Granted at) =
    noted_entry s runner act.Lock reply.Granted moment ∷ []
entries_by s runner moment (acted.Asked k) =
    noted_entry s runner act.Ask (reply.Asked k) moment ∷ []
entries_by s runner moment (acted.Ended x r) = noted_entry s runner x r moment ∷ []

-- How far a session is behind what its turn did.
abbrev pub runner_by : Acted → Runner → Runner
runner_by (acted.On at) runner = record runner { stage = at }
runner_by (acted.Granted at) runner = after_act at runner
runner_by (acted.Asked k) runner = after_act stage.Asked runner
runner_by (acted.Ended x r) runner = after_act stage.Between runner

-- ---- in a World

-- what the World has of them
abbrev pub sessions_held_by : Sessions → SessionsHeld
sessions_held_by h = record { txns = h.txns; locks = h.locks }

-- A session is where the tape has led it: as many statements are finished, and of the next one as
-- many acts are told; and it is in the middle of that as its stage says.
pub record IsSeatedAt (c : Start) (w : Mind) (s : ℕ) (runner : Runner) : Type 0 where
  pub progress : progress_of (point_now c w) s
      ≡ record { finished = runner.finished; made = made_at runner.stage }
  pub at : (statement : Statement) → statement_of c.lines s (runner.finished + 1) ≡ Some statement
      → IsMidway c s statement w runner.stage

-- A World on pages with these sessions: the script is that of the run, the tape is the World's, the
-- names are those that recovery holds, and each session is where the tape has led it.
pub record ShowsSessions {D : Type 0} (g : Ghosts D) (c : Start) (opened : D) (v : View D)
    (h : Sessions) (w : Mind) : Type 0 where
  pub world : InWorld g c opened v (sessions_held_by h) w
  pub lines : h.script.lines ≡ c.lines
  pub tape : h.tape.items ≡ w.tape
  pub stuck : h.stuck ≡ (state_now c w).stuck
  pub each : (s : ℕ) → IsOneOfEight s → IsSeatedAt c w s (runner_at s h.runners.items)

-- all are answers of commits
abbrev pub AreAnswers : List Entry → Type 0
AreAnswers es = AllByRecursion (λ (e : Entry). e.act ≡ act.Answer) es

-- The entries that a turn of a session adds: one of its own at most, or answers of commits.
abbrev pub AreOfTurn : ℕ → List Entry → Type 0
AreOfTurn s es = ((length es ≤ 1) × AllByRecursion (λ (e : Entry). e.session ≡ s) es)
    ⊎ AreAnswers es

-- A turn leaves a World of these sessions, whose tape goes on by such entries, each at the moment
-- at which the turn ends; undo's list, and the names of entries that were taken, are as they were.
-- An entry is refused for want of room where there is none.
pub record LeadsTo {D : Type 0} {g : Ghosts D} {c : Start} {opened : D} {a : View D} {h : Sessions}
    {w : Mind} (before : ShowsSessions g c opened a h w) (such : List Entry → Type 0) (b : View D)
    (now : Sessions) : Type 0 where
  pub mind : Mind
  pub shows : ShowsSessions g c opened b now mind
  pub entries : List Entry
  pub tape : mind.tape ≡ w.tape ++ entries
  pub are_such : such entries
  pub moments : AllByRecursion (λ (e : Entry). e.moment ≡ g.moment_of b.disk) entries
  pub causes : AllByRecursion (λ (e : Entry). WantsRoom e.act e.reply a b) entries
  pub undo : mind.undo ≡ w.undo
  pub names : NamesStay a.now b.now

-- a session is at a ROLLBACK, of a transaction that wrote
pub record IsRollingBack (s : ℕ) (h : Sessions) : Type 0 where
  pub at : statement_of h.script.lines s ((runner_at s h.runners.items).finished + 1)
      ≡ Some st.Rollback
  pub writing : IsWriting s h.txns

-- how many entries a turn of a ROLLBACK makes: it is told with the mark
abbrev pub entries_of : Rolled → ℕ
entries_of Undone = 0
entries_of Back = 1

-- A turn of a ROLLBACK takes the latest item of the transaction away; or there was none left, and
-- it makes the entry, with the mark. One record was logged.
pub record RollsTurn {D : Type 0} (s : ℕ) (h : Sessions) (a b : View D) (entries : List Entry)
    : Type 0 where
  pub rolled : Rolled
  pub rolls : RollsTo (number_drawn s h.txns) a.now b.now rolled
  pub told : length entries ≡ entries_of rolled
  pub logged : b.next ≡ a.next + 1

-- What a turn of a session did, by how the session was. Where it has an act of its own and there is
-- room, an act is told, or one goes on; of a ROLLBACK so. Where there is no room, it has come
-- nearer by a turn. Where the session waits, all that was logged is durable, and all that asked are
-- answered.
pub record DoesTurn {D : Type 0} (h now : Sessions) (s : ℕ) (a b : View D) (entries : List Entry)
    : Type 0 where
  pub acts : HasAct h s → HasTurnRoom a → (length entries ≡ 1) ⊎ WentOn a b
  pub rolls : HasAct h s → HasTurnRoom a → IsRollingBack s h → RollsTurn s h a b entries
  pub nearer : HasAct h s → (HasTurnRoom a → ⊥) → turns_for_room b ≡ turns_for_room a - 1
  pub answers : (runner_at s h.runners.items).stage ≡ stage.Asked → (b.waiting ≡ [])
      × (now.txns.answered ≡ length now.txns.numbers.commits)

-- A turn leads to a World of these sessions, and has done what a turn does by how its session was.
abbrev pub TakesTurn : {D : Type 0} {g : Ghosts D} {c : Start} {opened : D} {a : View D}
    {h : Sessions} {w : Mind} → ShowsSessions g c opened a h w → ℕ → View D → Sessions → Type 0
TakesTurn {a = a} {h = h} before s b now =
    (goes : LeadsTo before (AreOfTurn s) b now) × DoesTurn h now s a b goes.entries

-- An act is told, or one goes on; of a ROLLBACK so.
abbrev pub TakesAct : {D : Type 0} {g : Ghosts D} {c : Start} {opened : D} {a : View D}
    {h : Sessions} {w : Mind} → ShowsSessions g c opened a h w → ℕ → View D → Sessions → Type 0
TakesAct {a = a} {h = h} before s b now =
    (goes : LeadsTo before (AreOfTurn s) b now) × ((length goes.entries ≡ 1) ⊎ WentOn a b)
    × (IsRollingBack s h → RollsTurn s h a b goes.entries)

-- A statement holds, or the disk failed.
abbrev pub OrFails : {T : Type 0} → Type 0 → Result T StoreFault → Type 0
OrFails P (Ok x) = P
OrFails P (Err e) = e ≡ Fault
