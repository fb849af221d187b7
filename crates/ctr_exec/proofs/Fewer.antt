-- A turn of a session that isn't over leaves fewer turns.
use Rattle.std.proofs.Common.{◌≡◌, ◌⊎◌, ⊎_elim, ℕ, ◌+◌, ◌-◌, ◌*◌, ◌^◌, ◌≤◌, ◌<◌, Bool, true, false, cond, length, Option, Some, None, Result, Ok, Err, refl, sym, ◌∙◌, ap, subst, arith}
use Rattle.std.specs.Prelude.{OnOk, nat_lt, slice_set, is_some}
use Rattle.std.proofs.lemmas.Bool.{false≢true, ltb-false}
use Rattle.std.proofs.lemmas.Option.{slice_get_within}
use Rattle.ctr_disk.specs.declared.fault.StoreFault.{StoreFault}
use Rattle.ctr_types.specs.declared.statement.Statement.{Statement}
use Rattle.ctr_types.specs.declared.tape.Turn.TheVariants as turn
use Rattle.ctr_store.specs.Store.{View, HasTurnRoom, KeepsRoom, turns_for_room}
use Rattle.ctr_control.specs.txn_Asked.{Asked}
use Rattle.ctr_control.specs.txn_Held.{AreTxns, IsOneOfEight, TxnHeld, TxnsHeld, txn_of}
use Rattle.ctr_control.specs.ctr_session_world.Ready.{is_asking}
use Rattle.ctr_exec.specs.declared.acting.Acted.{Acted}
use Rattle.ctr_exec.specs.declared.acting.Acted.TheVariants as acted
use Rattle.ctr_exec.specs.declared.runners.Runner.{Runner}
use Rattle.ctr_exec.specs.declared.runners.Stage.TheVariants as stage
use Rattle.ctr_exec.specs.declared.sessions.Sessions.{Sessions}
use Rattle.ctr_exec.specs.Acting.{LeavesAct, WentByAct}
use Rattle.ctr_exec.specs.Runners.{acts_left, all_left, runner_at}
use Rattle.ctr_exec.specs.Sessions.{AreSeated, HasAct, runner_by, turns_left}
use Rattle.ctr_exec.proofs.Seats.{left_sum, passes}

-- ---- numbers alone: what falls first decides

pub fewer_acts : (m n x y c d r t : ℕ) → m < n → x ≤ 2 ^ 63 → c ≤ 30000 → r ≤ 3 → ((m * 2 ^ 64 + x) * 2 ^ 15 + c) * 4 + r < ((n * 2 ^ 64 + y) * 2 ^ 15 + d) * 4 + t
fewer_acts m n x y c d r t less numbers pages room = omega (arith, less, numbers, pages, room)

pub fewer_numbers : (m n x y c d r t : ℕ) → m ≡ n → x < y → c ≤ 30000 → r ≤ 3 → ((m * 2 ^ 64 + x) * 2 ^ 15 + c) * 4 + r < ((n * 2 ^ 64 + y) * 2 ^ 15 + d) * 4 + t
fewer_numbers m n x y c d r t same less pages room = omega (arith, same, less, pages, room)

pub fewer_pages : (m n x y c d r t : ℕ) → m ≡ n → x ≡ y → c < d → r ≤ 3 → ((m * 2 ^ 64 + x) * 2 ^ 15 + c) * 4 + r < ((n * 2 ^ 64 + y) * 2 ^ 15 + d) * 4 + t
fewer_pages m n x y c d r t same numbers less room = omega (arith, same, numbers, less, room)

pub fewer_rooms : (m x y c d r t : ℕ) → x ≡ y → c ≡ d → r < t → ((m * 2 ^ 64 + x) * 2 ^ 15 + c) * 4 + r < ((m * 2 ^ 64 + y) * 2 ^ 15 + d) * 4 + t
fewer_rooms m x y c d r t numbers pages less = omega (arith, numbers, pages, less)

at_most : (n m : ℕ) → m - n ≤ m
at_most n m = omega arith

-- ---- room

three : (short : Bool) (frames : ℕ) → cond short 1 0 + (2 - frames) ≤ 3
three true frames = omega arith
three false frames = omega arith

-- at most three turns for room are wanted
pub few_rooms : {D : Type 0} (v : View D) → turns_for_room v ≤ 3
few_rooms v = three (nat_lt v.room 5000) v.frames

-- what is over doesn't go on
pub over_goes : turn.Over ≡ turn.Went → ⊥
over_goes is = cc

-- ---- one turn

module _ {D : Type 0} (h now : Sessions) (a b : View D) where
  -- an act less is left
  pub acts_fall : all_left now.runners.items < all_left h.runners.items → turns_left now b < turns_left h a
  unfolding turns_left
  acts_fall less = fewer_acts (all_left now.runners.items) (all_left h.runners.items) (2 ^ 63 - b.next) (2 ^ 63 - a.next) (30000 - b.now.counted) (30000 - a.now.counted) (turns_for_room b) (turns_for_room a) less (at_most b.next (2 ^ 63)) (at_most b.now.counted 30000) (few_rooms b)

  -- a number for a record less is left
  pub numbers_fall : all_left now.runners.items ≡ all_left h.runners.items → a.next < 2 ^ 63 - 1 → b.next ≡ a.next + 1 → turns_left now b < turns_left h a
  unfolding turns_left
  numbers_fall same few one =
      fewer_numbers (all_left now.runners.items) (all_left h.runners.items) (2 ^ 63 - b.next) (2 ^ 63 - a.next) (30000 - b.now.counted) (30000 - a.now.counted) (turns_for_room b) (turns_for_room a) same (less a.next b.next few one) (at_most b.now.counted 30000) (few_rooms b)
    where
      less : (n m : ℕ) → n < 2 ^ 63 - 1 → m ≡ n + 1 → 2 ^ 63 - m < 2 ^ 63 - n
      less n m few one = omega (arith, few, one)

  -- more pages are counted
  pub pages_fall : all_left now.runners.items ≡ all_left h.runners.items → b.next ≡ a.next → a.now.counted < b.now.counted → b.now.counted ≤ 30000 → turns_left now b < turns_left h a
  unfolding turns_left
  pages_fall same numbers more most =
      fewer_pages (all_left now.runners.items) (all_left h.runners.items) (2 ^ 63 - b.next) (2 ^ 63 - a.next) (30000 - b.now.counted) (30000 - a.now.counted) (turns_for_room b) (turns_for_room a) same (ap (λ n. 2 ^ 63 - n) numbers) (less a.now.counted b.now.counted more most) (few_rooms b)
    where
      less : (n m : ℕ) → n < m → m ≤ 30000 → 30000 - m < 30000 - n
      less n m more most = omega (arith, more, most)

-- ---- a turn for room

-- where there is none a turn is wanted
wanted : (short : Bool) (frames room : ℕ) → (short ≡ false → 5000 ≤ room) → ((2 ≤ frames) × (5000 ≤ room) → ⊥) → 1 ≤ cond short 1 0 + (2 - frames)
wanted true frames room long none = omega arith
wanted false frames room long none =
    let enough = long refl in
    let short : 2 ≤ frames → ⊥ = λ two. none (two, enough) in
    omega (arith, short)

pub rooms_fall : {D T : Type 0} (h : Sessions) (a b : View D) (result : Result T StoreFault) → KeepsRoom a b → (HasTurnRoom a → ⊥) → OnOk result (turns_for_room b ≡ turns_for_room a - 1) → OnOk result (turns_left h b < turns_left h a)
unfolding turns_left
rooms_fall h a b (Ok x) keeps none nearer =
    fewer_rooms (all_left h.runners.items) (2 ^ 63 - b.next) (2 ^ 63 - a.next) (30000 - b.now.counted) (30000 - a.now.counted) (turns_for_room b) (turns_for_room a)
    (ap (λ n. 2 ^ 63 - n) keeps.next) (ap (λ n. 30000 - n) keeps.counted) (less (turns_for_room a) (turns_for_room b) (wanted (nat_lt a.room 5000) a.frames a.room (λ long. ltb-false a.room 5000 long) none) nearer)
  where
    less : (n m : ℕ) → 1 ≤ n → m ≡ n - 1 → m < n
    less n m some one = omega (arith, some, one)
rooms_fall h a b (Err e) keeps none nearer = tt

-- ---- a turn of an act

-- where as much is left of one session, as much is of all
same_left : (now was then mine : ℕ) → now + mine ≡ was + then → then ≡ mine → now ≡ was
same_left now was then mine sum same = omega (arith, sum, same)

one_less : (now was then mine : ℕ) → now + mine ≡ was + then → then + 1 ≤ mine → now < was
one_less now was then mine sum less = omega (arith, sum, less)

module _ {D : Type 0} (h now : Sessions) (a b : View D) (m : ℕ) (seats : AreSeated h m) (s : ℕ) (one : IsOneOfEight s) (has : HasAct h s) (statement : Statement) (txns : TxnsHeld) (n : ℕ) (script : now.script ≡ h.script)
    (few : a.next < 2 ^ 63 - 1) (most : b.now.counted ≤ 30000) where
  abbrev mine : Runner
  mine = runner_at s h.runners.items

  sum : (x : Runner) → now.runners.items ≡ slice_set h.runners.items (s - 1) x → all_left now.runners.items + acts_left mine ≡ all_left h.runners.items + acts_left x
  sum x runners = left_sum h now m n seats s one x script runners

  told_falls : (l : Acted) → acts_left (runner_by l mine) + 1 ≤ acts_left mine → now.runners.items ≡ slice_set h.runners.items (s - 1) (runner_by l mine) → turns_left now b < turns_left h a
  told_falls l less runners = acts_fall h now a b (one_less (all_left now.runners.items) (all_left h.runners.items) (acts_left (runner_by l mine)) (acts_left mine) (sum (runner_by l mine) runners) less)

  -- it goes on, or an act is told
  pub act_falls : (l : Acted) → LeavesAct mine.stage s statement txns n l → WentByAct a b l → now.runners.items ≡ slice_set h.runners.items (s - 1) (runner_by l mine) → turns_left now b < turns_left h a
  act_falls (acted.On at) leaves went runners =
      let same = same_left (all_left now.runners.items) (all_left h.runners.items) (acts_left (record mine { stage = at })) (acts_left mine) (sum (record mine { stage = at }) runners) (ap (λ k. 2 * (length mine.places - mine.finished) - k) leaves.0) in
      ⊎_elim (λ logged. numbers_fall h now a b same few logged) (λ grew. pages_fall h now a b same grew.0 grew.1 most) went
  act_falls (acted.Granted at) leaves went runners = told_falls (acted.Granted at) (passes (acted.Granted at) s 0 statement txns n mine has.more leaves).fewer runners
  act_falls (acted.Asked k) leaves went runners = told_falls (acted.Asked k) (passes (acted.Asked k) s 0 statement txns n mine has.more leaves).fewer runners
  act_falls (acted.Ended x r) leaves went runners = told_falls (acted.Ended x r) (passes (acted.Ended x r) s 0 statement txns n mine has.more leaves).fewer runners

-- ---- a flush

-- once one commit is answered, and maybe more are
pub fewer_then : (h mid now : Sessions) → all_left mid.runners.items < all_left h.runners.items → (now.runners.items ≡ mid.runners.items) ⊎ (all_left now.runners.items < all_left mid.runners.items) → all_left now.runners.items < all_left h.runners.items
fewer_then h mid now first rest = ⊎_elim
    (λ same. subst (λ rs. all_left rs < all_left h.runners.items) (sym same) first)
    (λ less. both (all_left now.runners.items) (all_left mid.runners.items) (all_left h.runners.items) less first)
    rest
  where
    both : (n m k : ℕ) → n < m → m < k → n < k
    both n m k less first = omega (arith, less, first)

-- where all that asked are answered nobody asks
pub nobody_asks : (txns : TxnsHeld) → AreTxns txns → txns.answered ≡ length txns.numbers.commits → (s : ℕ) → is_asking (txn_of s txns) ≡ true → ⊥
nobody_asks txns are all s is = by (txn_of s txns) refl is
  where
    both : (k done many : ℕ) → done ≡ many → done < k → k - 1 < many → ⊥
    both k done many all low high = omega (arith, all, low, high)

    asks : (t : TxnHeld) → txn_of s txns ≡ Some t → (o : Option Asked) → t.asked ≡ o → is_some o ≡ true → ⊥
    asks t there None asked is = false≢true is
    asks t there (Some q) asked is =
        let its = (are.each (s - 1) t there).asked q asked in
        both q.k txns.answered (length txns.numbers.commits) all its.0 (slice_get_within txns.numbers.commits (q.k - 1) t.session.me its.2)

    by : (o : Option TxnHeld) → txn_of s txns ≡ o → is_asking o ≡ true → ⊥
    by None there is = false≢true is
    by (Some t) there is = asks t there t.asked refl is

-- so behind the answers nobody waits, and who waited has an act less left
pub flush_falls : {D : Type 0} (h now : Sessions) (a b : View D) (n : ℕ) → AreSeated now n → AreTxns now.txns → now.txns.answered ≡ length now.txns.numbers.commits
    → (now.runners.items ≡ h.runners.items) ⊎ (all_left now.runners.items < all_left h.runners.items) → (s : ℕ) → IsOneOfEight s → (runner_at s h.runners.items).stage ≡ stage.Asked → turns_left now b < turns_left h a
flush_falls h now a b n seats are all fewer s one waits = ⊎_elim
    (λ same. absurd (nobody_asks now.txns are all s (seats.waits s one (ap (λ rs. (runner_at s rs).stage) same ∙ waits))))
    (λ less. acts_fall h now a b less)
    fewer

pub waited_falls : {D T : Type 0} (h now : Sessions) (a b : View D) (s : ℕ) (result : Result T StoreFault) → OnOk result ((runner_at s h.runners.items).stage ≡ stage.Asked → turns_left now b < turns_left h a) → (runner_at s h.runners.items).stage ≡ stage.Asked
    → OnOk result (turns_left now b < turns_left h a)
waited_falls h now a b s (Ok x) falls waits = falls waits
waited_falls h now a b s (Err e) falls waits = tt
