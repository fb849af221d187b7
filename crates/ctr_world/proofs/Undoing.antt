-- A turn of undo, whatever the disk tells.
use Rattle.std.proofs.Common.{◌≡◌, ℕ, ◌+◌, ◌<◌, ◌≤◌, false, List, Option, Some, None, Result, Ok, Err, sym, ◌∙◌, ap, subst, arith}
use Rattle.std.specs.Prelude.{⊤, IsTrue}
use Rattle.std.specs.List.{AllByRecursion}
use Rattle.ctr_types.specs.declared.statement.Line.{Line}
use Rattle.ctr_base.specs.Base.{IsSoundImage}
use Rattle.ctr_area.specs.Sound.{IsAmong}
use Rattle.ctr_area.proofs.Buckets.{each_of}
use Rattle.ctr_disk.specs.declared.disk.Disk.{Ghosts}
use Rattle.ctr_disk.specs.declared.fault.StoreFault.{StoreFault}
use Rattle.ctr_disk.specs.Image.{Image}
use Rattle.ctr_store.specs.Store.{LeavesFront, View}
use Rattle.ctr_pass.specs.txn_Held.{TxnsHeld}
use Rattle.ctr_pass.specs.txn_Rooms.{HasItemRoom, items_kept}
use Rattle.ctr_undo.specs.page_turns_Rooms.{AddsItems}
use Rattle.ctr_undo.specs.page_turns_Turns.{LogsAtRest}
use Rattle.ctr_undo.specs.declared.turning.UndoTurn.{UndoTurn}
use Rattle.ctr_undo.specs.declared.turning.UndoTurn.TheVariants.{Undone, Over}
use Rattle.ctr_undo.specs.Left.{UndoLeft, left_in}
use Rattle.ctr_undo.specs.Turns.{LogsNext, TakesNextItem, record_for}
use Rattle.ctr_undo.proofs.Lists.{one_less}
use Rattle.ctr_pass.specs.session_world_Ready.{LeavesDisk}
use Rattle.ctr_pass.proofs.session_world_Disks.{disk_done, disk_failed, disk_one}
use Rattle.ctr_pass.specs.exec_sessions_Sessions.{Sessions}
use Rattle.ctr_pass.specs.exec_Order.{IsTapeOrdered}
use Rattle.ctr_pass.specs.exec_Runners.{all_left}
use Rattle.ctr_pass.specs.exec_Sessions.{AreSeated}
use Rattle.ctr_pass.specs.cursor_Standing.{IsCountedPosition}
use Rattle.ctr_world.specs.declared.opening.Opening.{Ghosts as Opening}
use Rattle.ctr_world.specs.Held.{Running}
use Rattle.ctr_world.specs.Opened.{IsRunLine}
use Rattle.ctr_world.specs.World.{HoldsLeft, IsWorldReady}
use Rattle.ctr_world.specs.Turns.{AreSessionsBehind}

-- ---- the sessions behind it

pub txns_behind : (told : Option (List ℕ)) (moment : ℕ) (h now : Sessions) → AreSessionsBehind told moment h now → now.txns ≡ h.txns
txns_behind None moment h now is = ap (λ (z : Sessions). z.txns) is
txns_behind (Some name) moment h now is = ap (λ (z : Sessions). z.txns) is.same

pub left_behind : (told : Option (List ℕ)) (moment : ℕ) (h now : Sessions) → AreSessionsBehind told moment h now → all_left now.runners.items ≡ all_left h.runners.items
left_behind None moment h now is = ap (λ (z : Sessions). all_left z.runners.items) is
left_behind (Some name) moment h now is = ap (λ (z : Sessions). all_left z.runners.items) is.same

-- ---- the record

-- a turn that undoes something logs one record
pub record LogsNumber {D : Type 0} (a b : View D) : Type 0 where
  pub next : b.next ≡ a.next + 1
  pub counted : b.now.counted ≡ a.now.counted

pub number_of : {D : Type 0} (first : Image) (g : Ghosts D) (u : UndoLeft) (a b : View D) → LogsNext first g u a b (Ok Undone) → LogsNumber a b
number_of first g u a b (item, v, byte, goes, one) = record { next = one.takes.next; counted = one.takes.counted }

pub later_of : {D : Type 0} (first : Image) (g : Ghosts D) (u : UndoLeft) (a b : View D) (result : Result UndoTurn StoreFault) → LogsNext first g u a b result → g.moment_of a.disk ≤ g.moment_of b.disk
later_of first g u a b (Ok Undone) (item, v, byte, goes, one) = one.time.later
later_of first g u a b (Ok Over) same = subst (λ (v : View _). g.moment_of a.disk ≤ g.moment_of v.disk) (sym same) (at_once (g.moment_of a.disk))
  where
    at_once : (n : ℕ) → n ≤ n
    at_once n = omega arith
later_of first g u a b (Err e) (item, v, byte, goes, one) = one.time.later

-- it is one behind which a crash leaves what is hardened with some of what waits
pub at_rest : {D : Type 0} (first : Image) (g : Ghosts D) (u : UndoLeft) (a b : View D) → LogsNext first g u a b (Ok Undone) → IsTrue g.tells → IsSoundImage first → LeavesFront g b b → LogsAtRest g a b
at_rest first g u a b (item, v, byte, goes, one) tells sound rests = record { rec = record_for item byte; logs = one.logs tells sound; front = one.any_moment tells sound; rests = rests; later = one.time.later }

-- what it leaves of the disk, and what one leaves that failed
pub disk_undone : {D : Type 0} (first : Image) (g : Ghosts D) (u : UndoLeft) (a b c : View D) → LogsNext first g u a b (Ok Undone) → c ≡ b → LeavesDisk {T = ⊤} first g a c (Ok tt)
disk_undone first g u a b c (item, v, byte, goes, one) is = subst (λ (x : View _). LeavesDisk {T = ⊤} first g a x (Ok tt)) (sym is) (disk_done first g a b Undone tt (disk_one first g (record_for item byte) a b (Ok Undone) one))

pub disk_refused : {D : Type 0} (first : Image) (g : Ghosts D) (u : UndoLeft) (a b : View D) (e : StoreFault) → LogsNext first g u a b (Err e) → LeavesDisk {T = ⊤} first g a b (Err e)
disk_refused first g u a b e (item, v, byte, goes, one) = disk_failed first g a b e (disk_one first g (record_for item byte) a b (Err e) one)

-- lines are of sessions, and none is recovery's
pub own_lines : (lines : List Line) → AllByRecursion IsRunLine lines → (l : Line) → IsAmong l lines → 0 < l.session
own_lines lines all l among = from_one l.session (each_of IsRunLine l lines all among).least
  where
    from_one : (n : ℕ) → 1 ≤ n → 0 < n
    from_one n least = omega (arith, least)

pub taken_fewer : (u v : UndoLeft) → TakesNextItem u v (Ok Undone) → left_in v ≤ left_in u
taken_fewer u v (item, goes) = less (left_in u) (left_in v) (one_less item u v goes)
  where
    less : (n m : ℕ) → n ≡ m + 1 → m ≤ n
    less n m is = omega (arith, is)

-- ---- ready

room_still : (need old new : ℕ) → old ≤ new + 0 → need ≤ old → need ≤ new
room_still need old new more has_ = omega (arith, more, has_)

pub items_still : {D : Type 0} (txns now : TxnsHeld) (a b : View D) → now ≡ txns → AddsItems 0 a.meta b.meta → HasItemRoom txns a.meta → HasItemRoom now b.meta
items_still txns now a b same adds room = subst (λ (t : TxnsHeld). HasItemRoom t b.meta) (sym same) (room_still (items_kept txns) a.meta.items_room b.meta.items_room adds.0.1 room)

module _ {D B : Type 0} (o : Opening B) (g : Ghosts D) (old : Running D) (b : View D) (v : UndoLeft) (names : List (List ℕ)) (now : Sessions) where
  abbrev new : Running D
  new = record old { store = b; undo = v; names = names; sessions = now }

  pub ready_undone : (told : Option (List ℕ)) (moment : ℕ) → IsWorldReady o g old → AddsItems 0 old.store.meta b.meta → b.stopped ≡ false → b.now.counted ≡ old.store.now.counted → AreSessionsBehind told moment old.sessions now
      → ((counted : ℕ) → AreSeated old.sessions counted → AreSeated now counted) → HoldsLeft new → IsTapeOrdered o.start (g.moment_of b.disk) now → left_in v ≤ left_in old.undo → IsWorldReady o g new
  ready_undone told moment ready adds going counted behind seats held ordered less =
      let same = txns_behind told moment old.sessions now behind in
      record {
        stand = record {
          next = ap (λ (t : TxnsHeld). t.numbers.next) same ∙ ready.stand.next ∙ sym adds.1;
          items = items_still old.sessions.txns now.txns old.store b same adds ready.stand.items;
        };
        going = going;
        seats = subst (AreSeated now) (sym counted) (seats old.store.now.counted ready.seats);
        ordered = ordered;
        held = held;
        count = below (left_in v) (left_in old.undo) old.size less ready.count;
        lines = ready.lines;
        place = subst (λ n. IsCountedPosition n old.pass.at) (sym counted) ready.place;
      }
    where
      below : (n m k : ℕ) → n ≤ m → m ≤ k → n ≤ k
      below n m k less most = omega (arith, less, most)
