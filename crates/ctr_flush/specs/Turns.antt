-- What a turn of the flusher does to a store, by what callers see of it.
use Rattle.std.specs.Prelude.{◌≡◌, ◌≢◌, ◌⊎◌, ◌+◌, ◌^◌, ◌≤◌, Bool, true, false, IsTrue, [], Result, Ok, Err, OnOk}
use Rattle.ctr_types.specs.Faults.{HasFault}
use Rattle.ctr_disk.specs.declared.disk.Disk.{Ghosts}
use Rattle.ctr_disk.specs.Image.{Image}
use Rattle.ctr_disk.specs.declared.fault.StoreFault.{StoreFault}
use Rattle.ctr_disk.specs.declared.fault.StoreFault.TheVariants.{Fault}
use Rattle.ctr_base.specs.Base.{IsSoundImage}
use Rattle.ctr_store.specs.Store.{View, LeavesFront, Logs, KeepsFrames, WritesOldest}
use Rattle.ctr_store.specs.Generations.{IsDue, BeginsGeneration, CanEnd, ForgetsOlder}
use Rattle.ctr_flush.specs.declared.flusher.Due.{Due}
use Rattle.ctr_flush.specs.declared.flusher.Due.TheVariants as due
use Rattle.ctr_flush.specs.declared.flusher.FlushTurn.{FlushTurn}
use Rattle.ctr_flush.specs.declared.flusher.FlushTurn.TheVariants.{Wrote, Idle, Short}

-- No page or table of the fold changes: behind an Ok all is as it was, of which more may be
-- hardened, and a crash leaves that with a prefix of what waits; at each moment one leaves what was
-- hardened with a prefix of what waited. However it ends, the tables, the count of pages and room
-- aren't less, the clock didn't go back, and no call of the disk went past the last place of a
-- file, but where the log ends at 2^62 + 2^61 or further on.
pub record KeepsPages {D T : Type 0} (first : Image) (g : Ghosts D) (a b : View D)
    (result : Result T StoreFault)
    : Type 0 where
  pub any_moment : IsTrue g.tells → IsSoundImage first → LeavesFront g a b
  pub shows : IsTrue g.tells → IsSoundImage first → OnOk result (Logs [] a b × LeavesFront g b b)
  pub meta : b.meta ≡ a.meta
  pub counted : b.now.counted ≡ a.now.counted
  pub room : a.room ≤ b.room
  pub next : b.next ≤ a.next + 1
  pub going : OnOk result (b.stopped ≡ false)
  pub later : g.moment_of a.disk ≤ g.moment_of b.disk
  pub stray : (g.strays_of b.disk ≡ g.strays_of a.disk) ⊎ (2 ^ 62 + 2 ^ 61 ≤ a.gate)
  pub faults : HasFault Fault (g.faults_of a.disk) (g.faults_of b.disk) result

-- the log's generation, its numbers and its end are as they were
pub record SameLog {D : Type 0} (a b : View D) : Type 0 where
  pub next : b.next ≡ a.next
  pub file : b.file ≡ a.file
  pub start : b.start ≡ a.start
  pub older : b.older ≡ a.older
  pub gate : b.gate ≡ a.gate

-- ---- the cases, of which a turn does the first that applies

-- a new generation is due, and the log is durable: it begins
abbrev pub BeginsDue : {D : Type 0} → View D → View D → Type 0
BeginsDue a b = IsDue a × (a.waiting ≡ []) × BeginsGeneration a b

-- the older one can go: it is dropped
abbrev pub Drops : {D : Type 0} → View D → View D → Type 0
Drops a b = CanEnd a × ForgetsOlder a b

-- the log isn't durable: it is hardened
pub record Hardens {D : Type 0} (a b : View D) : Type 0 where
  pub kept : CanEnd a → ⊥
  pub some : a.waiting ≢ []
  pub none : b.waiting ≡ []
  pub frames : KeepsFrames a b
  pub log : SameLog a b

-- a page is changed that isn't home: the one that is changed the longest goes home
pub record Writes {D : Type 0} (a b : View D) : Type 0 where
  pub kept : CanEnd a → ⊥
  pub durable : a.waiting ≡ []
  pub dirty : a.dirty ≡ true
  pub oldest : WritesOldest a b
  pub log : SameLog a b

-- Nothing is to be done: no page is changed that isn't home, the log is durable, no older
-- generation is kept, and none is due.
pub record IsIdle {D : Type 0} (a : View D) : Type 0 where
  pub clean : a.dirty ≡ false
  pub durable : a.waiting ≡ []
  pub one : a.older ≡ false
  pub undue : IsDue a → ⊥

-- No page is changed that isn't home, the log is durable, no older generation is kept, and a new
-- one is due.
pub record IsShort {D : Type 0} (a : View D) : Type 0 where
  pub clean : a.dirty ≡ false
  pub durable : a.waiting ≡ []
  pub one : a.older ≡ false
  pub due : IsDue a

-- frames and log are as they were
abbrev pub Stays : {D : Type 0} → View D → View D → Type 0
Stays a b = KeepsFrames a b × SameLog a b

-- what a turn did, by its answer; Short comes where memory was refused for the generation that is
-- due
abbrev pub AnswersTurn : {D : Type 0} → View D → View D → Result FlushTurn StoreFault → Type 0
AnswersTurn a b (Ok Wrote) = BeginsDue a b ⊎ (Drops a b ⊎ (Hardens a b ⊎ Writes a b))
AnswersTurn a b (Ok Idle) = IsIdle a × Stays a b
AnswersTurn a b (Ok Short) = IsShort a × Stays a b
AnswersTurn a b (Err e) = Unit {0}

-- ---- its parts

-- a generation was begun where one was due; or memory was refused, or none was due, and nothing has
-- changed
abbrev pub AnswersDue : {D : Type 0} → View D → View D → Result Due StoreFault → Type 0
AnswersDue a b (Ok due.Begun) = BeginsDue a b
AnswersDue a b (Ok due.Refused) = IsDue a × (a.waiting ≡ []) × (b ≡ a)
AnswersDue a b (Ok due.NotYet) = ((IsDue a × (a.waiting ≡ [])) → ⊥) × (b ≡ a)
AnswersDue a b (Err e) = Unit {0}

-- one of the other cases was done, or none applies
abbrev pub AnswersRest : {D : Type 0} → View D → View D → Result Bool StoreFault → Type 0
AnswersRest a b (Ok true) = Drops a b ⊎ (Hardens a b ⊎ Writes a b)
AnswersRest a b (Ok false) = (a.dirty ≡ false) × (a.waiting ≡ []) × (a.older ≡ false) × Stays a b
AnswersRest a b (Err e) = Unit {0}

-- One of the other cases was done, and Wrote is answered; or none applies, and the given turn is
-- answered.
abbrev pub AnswersOr : {D : Type 0} → FlushTurn → View D → View D → Result FlushTurn StoreFault
    → Type 0
AnswersOr none a b (Ok t) =
    ((t ≡ Wrote) × AnswersRest a b (Ok true)) ⊎ ((t ≡ none) × AnswersRest a b (Ok false))
AnswersOr none a b (Err e) = Unit {0}
