-- What a turn leaves of the sessions: transactions that stand over a store still, and those of the others.
use Rattle.std.proofs.Common.{◌≡◌, ◌<◌, ◌≤◌, ◌+◌, ◌-◌, ◌==◌, false, ℕ, length, Option, Some, None, Result, Ok, Err, refl, sym, ◌∙◌, ap, subst, arith}
use Rattle.std.specs.Prelude.{OnOk, get_or}
use Rattle.std.proofs.lemmas.Bool.{false≢true, eq-eqb}
use Rattle.std.proofs.lemmas.List.{get_or-set_other, get_or-set_same}
use Rattle.ctr_disk.specs.Image.{Image}
use Rattle.ctr_disk.specs.declared.disk.Disk.{Ghosts}
use Rattle.ctr_disk.specs.declared.fault.StoreFault.{StoreFault}
use Rattle.ctr_rec.specs.declared.record.Record.{Record}
use Rattle.ctr_meta.specs.Kept.{RoomLeft, TablesKept}
use Rattle.ctr_redo.specs.States.{grown}
use Rattle.ctr_told.specs.store_Store.{KeepsRoom, TakesRecord, View}
use Rattle.ctr_told.specs.txn_Held.{IsOneOfEight, TxnHeld, TxnsHeld, txn_of}
use Rattle.ctr_told.specs.txn_Numbered.{NumbersHeld}
use Rattle.ctr_told.specs.txn_Rooms.{HasItemRoom, StaysRoom}
use Rattle.ctr_told.specs.txn_Steps.{SetsTxn}
use Rattle.ctr_told.specs.page_turns_Turns.{Turns, Reads, LogsARecord, Grows}
use Rattle.ctr_session_world.specs.Ready.{LeavesOver, LeavesReady, StandOver, StaysUnasked, is_asking}

-- ---- numbers

same_is : (n m : ℕ) → n ≡ m → m ≤ n
same_is n m is = omega (arith, is)

next_is : (n m : ℕ) → n ≡ m → n ≤ m + 1
next_is n m is = omega (arith, is)

one_more_is : (n m : ℕ) → n ≡ m + 1 → n ≤ m + 1
one_more_is n m is = omega (arith, is)

-- ---- the other sessions

-- the transactions of the other sessions are as they were
abbrev pub OthersStay : ℕ → TxnsHeld → TxnsHeld → Type 0
OthersStay s old new = (q : ℕ) → 0 < q → (q == s) ≡ false → txn_of q new ≡ txn_of q old

pub others_same : (s : ℕ) (old new : TxnsHeld) → new.sessions ≡ old.sessions → OthersStay s old new
others_same s old new same q some two = ap (λ l. get_or l (q - 1) None) same

pub others_then : (s : ℕ) (old mid new : TxnsHeld) → OthersStay s old mid → OthersStay s mid new → OthersStay s old new
others_then s old mid new first then q some two = then q some two ∙ first q some two

-- one session's transaction is set
pub others_set : (s : ℕ) (t : Option TxnHeld) (old new : TxnsHeld) → IsOneOfEight s → SetsTxn s t old new → OthersStay s old new
others_set s t old new one sets q some two =
    ap (λ l. get_or l (q - 1) None) sets.sessions ∙ get_or-set_other old.sessions (s - 1) (q - 1) t None (λ same. false≢true (sym two ∙ eq-eqb q s (before q s some one.from same)))
  where
    before : (q s : ℕ) → 0 < q → 1 ≤ s → q - 1 ≡ s - 1 → q ≡ s
    before q s some from same = omega (arith, some, from, same)

-- and this is its own then
pub own_set : (s : ℕ) (t : Option TxnHeld) (old new : TxnsHeld) → IsOneOfEight s → length old.sessions ≡ 8 → SetsTxn s t old new → txn_of s new ≡ t
own_set s t old new one eight sets = ap (λ l. get_or l (s - 1) None) sets.sessions ∙ get_or-set_same old.sessions (s - 1) t None (below s (length old.sessions) one.from one.to eight)
  where
    below : (n m : ℕ) → 1 ≤ n → n ≤ 8 → m ≡ 8 → n - 1 < m
    below n m from to is = omega (arith, from, to, is)

-- ---- who hasn't asked

pub unasked_same : (s : ℕ) (old new : TxnsHeld) → new.sessions ≡ old.sessions → StaysUnasked s old new
unasked_same s old new same unasked = ap (λ l. is_asking (get_or l (s - 1) None)) same ∙ unasked

pub unasked_set : (s : ℕ) (t : Option TxnHeld) (old new : TxnsHeld) → IsOneOfEight s → length old.sessions ≡ 8 → SetsTxn s t old new → (is_asking (txn_of s old) ≡ false → is_asking t ≡ false) → StaysUnasked s old new
unasked_set s t old new one eight sets so unasked = ap is_asking (own_set s t old new one eight sets) ∙ so unasked

-- a transaction that is changed in other things
pub unasked_as : (s : ℕ) (t u : TxnHeld) (old new : TxnsHeld) → IsOneOfEight s → length old.sessions ≡ 8 → txn_of s old ≡ Some t → u.asked ≡ t.asked → SetsTxn s (Some u) old new → StaysUnasked s old new
unasked_as s t u old new one eight there same sets =
    unasked_set s (Some u) old new one eight sets (λ unasked. ap (λ o. is_asking (Some (record t { asked = o }))) same ∙ sym (ap is_asking there) ∙ unasked)

pub unasked_then : (s : ℕ) (old mid new : TxnsHeld) → StaysUnasked s old mid → StaysUnasked s mid new → StaysUnasked s old new
unasked_then s old mid new first then unasked = then (first unasked)

-- ---- transactions over a store

-- where the tables and their room are as they were
pub stands_still : {D : Type 0} (txns : TxnsHeld) (a b : View D) → b.meta ≡ a.meta → StandOver txns a → StandOver txns b
stands_still txns a b same stand = record {
  next = stand.next ∙ sym (ap (λ (k : TablesKept). k.tables.next) same);
  items = subst (HasItemRoom txns) (sym same) stand.items;
}

-- where no number was drawn and no item was added, over the same store
pub stands_with : {D : Type 0} (old new : TxnsHeld) (v : View D) → new.numbers ≡ old.numbers → StaysRoom old new → StandOver old v → StandOver new v
stands_with old new v same stays stand = record {
  next = ap (λ (n : NumbersHeld). n.next) same ∙ stand.next;
  items = stays v.meta v.meta (at_hand v.meta) stand.items;
}
  where
    as_many : (n : ℕ) → n ≤ n + 0
    as_many n = omega arith

    same_sum : (n : ℕ) → n ≤ n
    same_sum n = omega arith

    at_hand : (k : TablesKept) → RoomLeft 0 0 k k
    at_hand k = (as_many k.opens_room, as_many k.items_room, same_sum (length k.tables.items + k.items_room))

-- ---- what a turn leaves

module _ {D : Type 0} (s : ℕ) (old new : TxnsHeld) (a b : View D) where
  -- no record was logged
  pub ready_unlogged : StandOver new b → OthersStay s old new → b.stopped ≡ false → b.now.counted ≡ a.now.counted → b.next ≡ a.next → LeavesReady s old new a b
  ready_unlogged stand others going counted next = record { stand = stand; others = others; going = going; counted = same_is b.now.counted a.now.counted counted; one = next_is b.next a.next next }

  -- one was
  pub ready_logged : (r : Record) (lsn : ℕ) → StandOver new b → OthersStay s old new → b.stopped ≡ false → TakesRecord r lsn a b → LeavesReady s old new a b
  ready_logged r lsn stand others going takes = record { stand = stand; others = others; going = going; counted = same_is b.now.counted a.now.counted takes.counted; one = one_more_is b.next a.next takes.next }

-- over a store that is as it was
pub ready_here : {D : Type 0} (s : ℕ) (old new : TxnsHeld) (v : View D) → StandOver new v → OthersStay s old new → v.stopped ≡ false → LeavesReady s old new v v
ready_here s old new v stand others going = ready_unlogged s old new v v stand others going refl refl

-- and nobody's transaction has changed
pub ready_as_was : {D : Type 0} (s : ℕ) (txns : TxnsHeld) (v : View D) → StandOver txns v → v.stopped ≡ false → LeavesReady s txns txns v v
ready_as_was s txns v stand going = ready_here s txns txns v stand (λ q some two. refl) going

-- pages were read
pub ready_read : {D : Type 0} (s : ℕ) (txns : TxnsHeld) (a b : View D) → KeepsRoom a b → b.stopped ≡ false → StandOver txns a → LeavesReady s txns txns a b
ready_read s txns a b keeps going stand = ready_unlogged s txns txns a b (stands_still txns a b keeps.meta stand) (λ q some two. refl) going keeps.counted keeps.next

-- a turn behind a call that logged nothing, counted no pages, and left the other sessions as they were
pub ready_then : {D : Type 0} (s : ℕ) (old mid new : TxnsHeld) (a m b : View D) → OthersStay s old mid → m.now.counted ≡ a.now.counted → m.next ≡ a.next → LeavesReady s mid new m b → LeavesReady s old new a b
ready_then s old mid new a m b others counted next ready = record {
  stand = ready.stand;
  others = others_then s old mid new others ready.others;
  going = ready.going;
  counted = subst (λ n. n ≤ b.now.counted) counted ready.counted;
  one = subst (λ n. b.next ≤ n + 1) next ready.one;
}

-- so it is behind pages that were read
pub ready_behind : {D : Type 0} (s : ℕ) (old new : TxnsHeld) (a m b : View D) → KeepsRoom a m → LeavesReady s old new m b → LeavesReady s old new a b
ready_behind s old new a m b keeps ready = ready_then s old old new a m b (λ q some two. refl) keeps.counted keeps.next ready

pub leaves_behind : {D T : Type 0} (r : Result T StoreFault) (s : ℕ) (old new : TxnsHeld) (a m b : View D) → KeepsRoom a m → LeavesOver s old new m b r → LeavesOver s old new a b r
leaves_behind (Ok x) s old new a m b keeps leaves = (ready_behind s old new a m b keeps leaves.0, leaves.1)
leaves_behind (Err e) s old new a m b keeps leaves = tt

-- pages were read, and that is all, whatever was answered
pub leaves_read : {D T : Type 0} (r : Result T StoreFault) (s : ℕ) (txns : TxnsHeld) (a b : View D) → KeepsRoom a b → OnOk r (b.stopped ≡ false) → StandOver txns a → LeavesOver s txns txns a b r
leaves_read (Ok x) s txns a b keeps going stand = (ready_read s txns a b keeps going stand, λ unasked. unasked)
leaves_read (Err e) s txns a b keeps going stand = tt

-- what is as it was where the tables alone have more room
pub same_but : {D : Type 0} (a b : View D) → b ≡ record a { meta = b.meta } → (b.stopped ≡ a.stopped) × (b.now.counted ≡ a.now.counted) × (b.next ≡ a.next)
same_but {D} a b is = (ap (λ (v : View D). v.stopped) is, ap (λ (v : View D). v.now.counted) is, ap (λ (v : View D). v.next) is)

-- ---- a turn of a Write

-- where there may be more pages, more are counted
not_less : (n m : ℕ) → n < 30000 → m ≡ grown n → n ≤ m
not_less n m few is = omega (arith, few, is)

as_many : (n m k : ℕ) → m ≡ n → k ≡ m → k ≤ n + 1
as_many n m k first then = omega (arith, first, then)

more_still : (n m k : ℕ) → m ≡ n → m ≤ k → n ≤ k
more_still n m k first then = omega (arith, first, then)

pub turns_ready : {D T : Type 0} (first : Image) (g : Ghosts D) (s : ℕ) (old new : TxnsHeld) (a b : View D) (x : T) → Turns first g a b (Ok x) → StandOver new b → OthersStay s old new → LeavesReady s old new a b
turns_ready first g s old new a b x (Reads leaves) stand others = ready_unlogged s old new a b stand others leaves.going leaves.keeps.counted leaves.keeps.next
turns_ready first g s old new a b x (LogsARecord logs) stand others = ready_logged s old new a b logs.0 a.next stand others logs.1.going logs.1.takes
turns_ready {D} first g s old new a b x (Grows grows) stand others =
    let m = grows.between in
    let counts = grows.more.counts in
    record {
      stand = stand;
      others = others;
      going = counts.going;
      counted = more_still a.now.counted m.now.counted b.now.counted grows.read.keeps.counted (not_less m.now.counted b.now.counted grows.more.few counts.counted);
      one = as_many a.next m.next b.next grows.read.keeps.next (ap (λ (v : View D). v.next) counts.same);
    }
