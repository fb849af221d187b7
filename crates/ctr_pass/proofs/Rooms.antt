-- Room for an item of the cleaner's is no session's.
use Rattle.std.proofs.Common.{◌≡◌, ℕ, ◌+◌, ◌≤◌, Bool, true, false, sym, ◌∙◌, ap, arith}
use Rattle.std.specs.Prelude.{if◌then◌else◌}
use Rattle.std.specs.List.{sum_by}
use Rattle.ctr_disk.specs.declared.disk.Disk.{Ghosts}
use Rattle.ctr_types.specs.declared.statement.Statement.{Statement}
use Rattle.ctr_walk.specs.store_Store.{View}
use Rattle.ctr_cleaner.specs.declared.done.CleanTurn.{CleanTurn}
use Rattle.ctr_cleaner.specs.declared.done.CleanTurn.TheVariants.{Cleaned, Unlinked, Reclaimed, Moved, Over, Left}
use Rattle.ctr_cleaner.specs.Turning.{IsTurnWithin, LeavesRoomBy}
use Rattle.ctr_meta.specs.Kept.{TablesKept}
use Rattle.ctr_exec.specs.ctr_control.kept_Turns.{Start}
use Rattle.ctr_exec.specs.ctr_control.kept_Walk.{Mind}
use Rattle.ctr_exec.specs.declared.runners.Stage.{Stage}
use Rattle.ctr_exec.specs.declared.runners.Stage.TheVariants as stage
use Rattle.ctr_exec.specs.declared.sessions.Sessions.{Sessions}
use Rattle.ctr_exec.specs.Acting.{MayAct}
use Rattle.ctr_exec.specs.Order.{IsTapeOrdered}
use Rattle.ctr_exec.specs.Runners.{runner_at}
use Rattle.ctr_exec.specs.Sessions.{AreSeated, ShowsSessions}
use Rattle.ctr_exec.specs.txn_Held.{TxnsHeld}
use Rattle.ctr_exec.specs.txn_Rooms.{HasItemRoom, item_kept, items_kept}
use Rattle.ctr_pass.specs.Passing.{keeps_room}
use Rattle.ctr_pass.specs.Sparing.{keeping_room, with_cleaner}

-- ---- sessions

may_act : (g : Stage) (s : ℕ) (statement : Statement) (txns : TxnsHeld) (counted : ℕ) (item : Bool) → MayAct g s statement txns counted → MayAct g s statement (with_cleaner item txns) counted
may_act stage.Between s statement txns counted item may = tt
may_act (stage.Row e prepared at) s statement txns counted item may = (may.0, may.1, (may.2.0, record { t = may.2.1.t; there = may.2.1.there; room = may.2.1.room }))
may_act (stage.Table write) s statement txns counted item may = (may.0, may.1, record { t = may.2.t; there = may.2.there; kept = may.2.kept })
may_act stage.Asked s statement txns counted item may = may

pub seated_so : (h : Sessions) (counted : ℕ) (item : Bool) → AreSeated h counted → AreSeated (keeping_room item h) counted
seated_so h counted item seats = record {
  eight = seats.eight;
  few = seats.few;
  runners = seats.runners;
  fit = seats.fit;
  room = seats.room;
  asked = seats.asked;
  commits = seats.commits;
  waits = seats.waits;
  may = λ s statement one next unasked. may_act (runner_at s h.runners.items).stage s statement h.txns counted item (seats.may s statement one next unasked);
}

pub ordered_so : (start now : ℕ) (h : Sessions) (item : Bool) → IsTapeOrdered start now h → IsTapeOrdered start now (keeping_room item h)
ordered_so start now h item order = record { order = order.order; later = order.later; each = order.each }

pub shown_so : {D : Type 0} (g : Ghosts D) (c : Start) (opened : D) (v : View D) (h : Sessions) (w : Mind) (item : Bool) → ShowsSessions g c opened v h w → ShowsSessions g c opened v (keeping_room item h) w
shown_so g c opened v h w item shows = record {
  world = record {
    keeps = shows.world.keeps;
    run_is = shows.world.run_is;
    locks = shows.world.locks;
    tables = shows.world.tables;
    in_order = shows.world.in_order;
  };
  lines = shows.lines;
  tape = shows.tape;
  stuck = shows.stuck;
  each = shows.each;
}

-- ---- behind a turn of the cleaner

-- how many items room is kept for, with the cleaner's or without
kept_with : (txns : TxnsHeld) (item b : Bool) → item ≡ b → items_kept (with_cleaner item txns) ≡ sum_by item_kept txns.sessions + (if b then 1 else 0)
kept_with txns item b is = ap (λ (c : Bool). sum_by item_kept txns.sessions + (if c then 1 else 0)) is

-- where room is kept for the cleaner's, there is room for one
pub one_there : (txns : TxnsHeld) (k : TablesKept) → HasItemRoom txns k → txns.cleaner ≡ true → 1 ≤ k.items_room
one_there txns k room has = let had = kept_with txns txns.cleaner true has in omega (arith, had, room)

pub next_behind : (did : CleanTurn) (k l : TablesKept) → LeavesRoomBy did k l → l.tables.next ≡ k.tables.next
next_behind Cleaned k l left = left.1
next_behind Unlinked k l left = left.1
next_behind Reclaimed k l left = left.0.1
next_behind (Moved y) k l left = left.1
next_behind Over k l left = left.1
next_behind (Left y) k l left = left.1

pub room_behind : (did : CleanTurn) (txns : TxnsHeld) (unlink : Bool) (counted : ℕ) (k l : TablesKept) → LeavesRoomBy did k l → IsTurnWithin unlink counted did → unlink ≡ txns.cleaner → HasItemRoom txns k
    → HasItemRoom (with_cleaner (keeps_room unlink did) txns) l
room_behind Cleaned txns unlink counted k l left within is room = let now = kept_with txns unlink txns.cleaner is in omega (arith, now, left.0.1, room)
room_behind Unlinked txns unlink counted k l left within is room =
    let had = kept_with txns txns.cleaner true (sym is ∙ within) in
    let now = kept_with txns false false (λ i. false) in omega (arith, had, now, left.0.1, room)
room_behind Reclaimed txns unlink counted k l left within is room =
    let now = kept_with txns true true (λ i. true) in omega (arith, now, left.0.0.2, left.1, room)
room_behind (Moved y) txns unlink counted k l left within is room = let now = kept_with txns unlink txns.cleaner is in omega (arith, now, left.0.1, room)
room_behind Over txns unlink counted k l left within is room = let now = kept_with txns unlink txns.cleaner is in omega (arith, now, left.0.1, room)
room_behind (Left y) txns unlink counted k l left within is room = let now = kept_with txns unlink txns.cleaner is in omega (arith, now, left.0.1, room)
