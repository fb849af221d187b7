-- What a turn of the cleaner does in a World.
use Rattle.std.specs.Prelude.{◌≡◌, ◌⊎◌, ◌+◌, ◌<◌, ◌≤◌, ℕ, zero, suc, Ok, ⊤}
use Rattle.ctr_disk.specs.Image.{Image}
use Rattle.ctr_disk.specs.declared.disk.Disk.{Ghosts}
use Rattle.ctr_store.specs.Store.{View, HasTurnRoom, LeavesPage, turns_for_room}
use Rattle.ctr_pass.specs.cleaner_Turning.{next_cleaned}
use Rattle.ctr_pass.specs.declared.going.Went.{Went}
use Rattle.ctr_pass.specs.declared.pass.Pass.{Pass}
use Rattle.ctr_pass.specs.declared.pass.Phase.TheVariants.{Idle}
use Rattle.ctr_pass.specs.Passing.{noted, pass_behind}
use Rattle.ctr_world.specs.declared.cleaning.TheConstants.{POSITIONS, READS}
use Rattle.ctr_world.specs.Held.{Running}

-- the pass once the cleaner has looked at what happened since its last turn
abbrev pub noted_pass : {D : Type 0} → Running D → Pass
noted_pass w = noted w.pass w.store.next w.sessions.tape.items

-- A whole pass found nothing to do, and since it began no record was logged and no transaction
-- ended.
abbrev pub IsIdlePass : {D : Type 0} → Running D → Type 0
IsIdlePass w = (noted_pass w).phase ≡ Idle

-- A step was taken at the pass's position, or at its entry: a record was logged there, or the pass
-- goes on from there.
pub record CleansHere {D : Type 0} (old new : Running D) : Type 0 where
  pub went : Went
  pub pass : new.pass
      ≡ pass_behind (noted_pass old) went.from went.did old.sessions.txns.cleaner new.store.next
  pub numbers : new.store.next ≡ next_cleaned went.did old.store.next

-- A step was taken, and so many more behind it, each from where the one before it had come to. The
-- last alone may have logged a record.
abbrev pub CleansAlong : {D : Type 0} → ℕ → Running D → Running D → Type 0
CleansAlong zero old new = CleansHere old new
CleansAlong (suc n) old new = (mid : Running _) × CleansAlong n old mid
    × (mid.store.next ≡ old.store.next) × CleansHere mid new

-- Steps were taken in the pass, as many as a turn may take at most.
abbrev pub CleansOnward : {D : Type 0} → Running D → Running D → Type 0
CleansOnward old new = (n : ℕ) × (n < POSITIONS) × CleansAlong n old new

-- Pages were read for the row of the version entry that the pass is at, and that is all: the pass
-- is as it was, and no record was logged. Fewer had been read for it than are counted, so there are
-- no more turns in a row that only read, at one position, than pages.
pub record ReadsOn {D : Type 0} (old new : Running D) : Type 0 where
  pub pass : new.pass ≡ old.pass
  pub none : new.store.next ≡ old.store.next
  pub few : old.read < old.store.now.counted
  pub more : old.read < new.read
  pub most : new.read ≤ old.read + READS

-- Steps were taken in the pass, and behind them a page at most was read for where it has come to;
-- or pages were read, and no step was taken.
abbrev pub CleansOrReads : {D : Type 0} → Running D → Running D → Type 0
CleansOrReads old new = (CleansOnward old new × (new.read ≤ 1)) ⊎ ReadsOn old new

-- pages were read, and that is all
abbrev pub ReadsAlone : {D : Type 0} → Image → Ghosts D → View D → View D → Type 0
ReadsAlone first g a b = LeavesPage {T = ⊤} first g a b (Ok tt)

-- what logged no record read pages, and that is all
abbrev pub ReadsWhereNone : {D : Type 0} → Image → Ghosts D → View D → View D → Type 0
ReadsWhereNone first g a b = b.next ≡ a.next → LeavesPage {T = ⊤} first g a b (Ok tt)

-- The store came nearer to room by a turn, where it had none, and the pass is as it was; or steps
-- were taken in the pass, or pages read for the position that it is at.
abbrev pub CleansOn : {D : Type 0} → Running D → Running D → Type 0
CleansOn old new = ((HasTurnRoom old.store → ⊥)
    × (turns_for_room new.store < turns_for_room old.store) × (new.pass ≡ old.pass)
    × (new.read ≡ old.read))
    ⊎ CleansOrReads old new

-- What others leave of the cleaner's pass: it is as it was; and so is undo's list, where no record
-- was logged.
pub record LeavesPass {D : Type 0} (old new : Running D) : Type 0 where
  pub pass : new.pass ≡ old.pass
  pub read : new.read ≡ old.read
  pub undo : (new.undo ≡ old.undo) ⊎ (new.store.next ≡ old.store.next + 1)
