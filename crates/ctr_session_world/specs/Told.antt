-- An act that a turn tells, in a World.
use Rattle.std.specs.Prelude.{◌≡◌, ℕ, ◌+◌, ◌==◌, true, false, List, [], ◌∷◌, ◌++◌, Option, Some, None}
use Rattle.ctr_disk.specs.declared.disk.Disk.{Ghosts}
use Rattle.ctr_types.specs.declared.statement.Statement.{Statement}
use Rattle.ctr_types.specs.declared.tape.Act.{Act}
use Rattle.ctr_types.specs.declared.tape.Reply.{Reply}
use Rattle.ctr_types.specs.declared.tape.Reply.TheVariants as reply
use Rattle.ctr_model.specs.declared.state.Transaction.{Transaction}
use Rattle.ctr_model.specs.State.{transaction_of}
use Rattle.ctr_model.specs.Tape.{progress_of}
use Rattle.ctr_told.specs.actions_Facts.{Fact}
use Rattle.ctr_told.specs.store_Store.{View}
use Rattle.ctr_told.specs.kept_Tables.{AreTables}
use Rattle.ctr_told.specs.kept_Walk.{Mind}
use Rattle.ctr_told.specs.kept_Turns.{Start, Telling, entry_of, point_now, state_now}
use Rattle.ctr_told.specs.Turning.{facts_idle}
use Rattle.ctr_session_world.specs.World.{SessionsHeld, InWorld, NamesStay}

-- A World in which the next statement of a session is this one, of which so many acts are told. The
-- next one is told at the moment at which a turn ends.
pub record IsNextOf {D : Type 0} (g : Ghosts D) (c : Start) (opened : D) (a b : View D)
    (h : SessionsHeld) (s : ℕ) (statement : Statement) (made : ℕ) : Type 0 where
  pub mind : Mind
  pub world : InWorld g c opened a h mind
  pub e : Telling c (g.moment_of a.disk) s
  pub is : e.statement ≡ statement
  pub number : e.n ≡ (progress_of (point_now c mind) s).finished + 1
  pub made_is : (progress_of (point_now c mind) s).made ≡ made
  pub at_end : e.later ≡ g.moment_of b.disk

-- A session counts on its transaction, on that it has no page to link, and on tables.
abbrev pub CountsOnTables : List Fact → Type 0
CountsOnTables facts = (more : List Fact) × AreTables more × (facts ≡ facts_idle ++ more)

-- Between two of its statements a session counts on that, where its transaction has taken a lock,
-- and on nothing before.
abbrev pub IsIdleBy : Option Transaction → List Fact → Type 0
IsIdleBy None facts = Unit {0}
IsIdleBy (Some t) facts =
    (t.writer ≡ true → CountsOnTables facts) × (t.writer ≡ false → facts ≡ [])

-- Between two of its statements a session counts on its transaction and on tables, where that has
-- taken a lock, and on nothing before.
abbrev pub IsIdleIn : Start → Mind → ℕ → Type 0
IsIdleIn c w s = IsIdleBy (transaction_of (state_now c w) s) (w.facts s)

-- What a session counts on behind a reply, by what it counted on before: nothing where it begins,
-- the same where rows are read or the act is refused, tables alone where it has asked for its
-- commit. Of one whose transaction has ended nothing is said.
abbrev pub CountsBehindReply : Reply → List Fact → List Fact → Type 0
CountsBehindReply (reply.Began n) was now = now ≡ []
CountsBehindReply reply.Granted was now = CountsOnTables now
CountsBehindReply (reply.Rows rows) was now = now ≡ was
CountsBehindReply reply.Done was now = CountsOnTables now
CountsBehindReply (reply.Asked k) was now = AreTables now
CountsBehindReply reply.ReadOnly was now = Unit {0}
CountsBehindReply (reply.Answered k) was now = Unit {0}
CountsBehindReply reply.RolledBack was now = Unit {0}
CountsBehindReply reply.Released was now = Unit {0}
CountsBehindReply (reply.Refused why) was now = now ≡ was

-- The act is told with its reply, and this is the World then. What the other sessions count on,
-- undo's list, and the names of entries that were taken are as they were.
pub record IsActTold {D : Type 0} {g : Ghosts D} {c : Start} {opened : D} {a b : View D}
    {h : SessionsHeld} {s : ℕ} {statement : Statement} {made : ℕ}
    (next : IsNextOf g c opened a b h s statement made) (now : SessionsHeld) (x : Act) (r : Reply)
    : Type 0 where
  pub mind : Mind
  pub world : InWorld g c opened b now mind
  pub tape : mind.tape ≡ next.mind.tape ++ entry_of s next.e x r ∷ []
  pub undo : mind.undo ≡ next.mind.undo
  pub names : NamesStay a.now b.now
  pub others : (q : ℕ) → (q == s) ≡ false → mind.facts q ≡ next.mind.facts q
  pub counts : CountsBehindReply r (next.mind.facts s) (mind.facts s)

-- Nothing is told by a turn, and the act goes on at the session's next one: this is the World then.
-- What the other sessions count on, undo's list, and the names of entries that were taken are as
-- they were.
pub record IsKeptOn {D : Type 0} {g : Ghosts D} {c : Start} {opened : D} {a b : View D}
    {h : SessionsHeld} {s : ℕ} {statement : Statement} {made : ℕ}
    (next : IsNextOf g c opened a b h s statement made) (now : SessionsHeld) : Type 0 where
  pub mind : Mind
  pub world : InWorld g c opened b now mind
  pub tape : mind.tape ≡ next.mind.tape
  pub undo : mind.undo ≡ next.mind.undo
  pub names : NamesStay a.now b.now
  pub others : (q : ℕ) → (q == s) ≡ false → mind.facts q ≡ next.mind.facts q

-- A turn of an act that takes several: it ends the act, which is told with its reply, or goes on.
abbrev pub TellsOrGoesOn : {D : Type 0} {g : Ghosts D} {c : Start} {opened : D} {a b : View D}
    {h : SessionsHeld} {s : ℕ} {statement : Statement} {made : ℕ}
    → IsNextOf g c opened a b h s statement made → SessionsHeld → Act → Option Reply → Type 0
TellsOrGoesOn next now x (Some r) = IsActTold next now x r
TellsOrGoesOn next now x None = IsKeptOn next now
