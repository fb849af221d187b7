-- Each session is at one of its lines, and may take its next turn, whatever the disk tells.
use Rattle.std.proofs.Common.{◌≡◌, ℕ, zero, suc, ◌+◌, ◌-◌, ◌^◌, ◌≤◌, ◌<◌, ◌==◌, true, false, List, [], ◌∷◌, length, Option, Some, None, refl, sym, ◌∙◌, ap, subst, arith, get_or}
use Rattle.std.specs.Prelude.{slice_set, is_some, vec_len, vec_capacity}
use Rattle.std.specs.List.{AllByRecursion}
use Rattle.std.proofs.lemmas.Bool.{false≢true, eqb-true, eq-eqb}
use Rattle.std.proofs.lemmas.List.{get_or-set_same, get_or-set_other, length-set}
use Rattle.std.proofs.lemmas.List.Sums.{sum_by-set}
use Rattle.ctr_types.specs.declared.statement.Line.{Line}
use Rattle.ctr_types.specs.declared.statement.Script.{Script}
use Rattle.ctr_types.specs.declared.statement.Statement.{Statement}
use Rattle.ctr_types.specs.declared.statement.Statement.TheVariants as st
use Rattle.ctr_model.specs.Tape.{statement_of}
use Rattle.ctr_versions.proofs.Keys.{known, some_is}
use Rattle.ctr_control.specs.txn_Asked.{Asked}
use Rattle.ctr_control.specs.txn_Held.{TxnHeld, TxnsHeld, IsOneOfEight, txn_of}
use Rattle.ctr_control.specs.txn_Steps.{AnswersNext}
use Rattle.ctr_control.specs.ctr_writing.ctr_looks.ctr_extend.Ways.{IsCountedWay}
use Rattle.ctr_control.specs.ctr_writing.ctr_looks.ctr_extend.declared.ways.OnWay.{OnWay}
use Rattle.ctr_control.specs.ctr_writing.ctr_looks.ctr_extend.declared.ways.OnWay.TheVariants.{Wanted, Taken, Made}
use Rattle.ctr_control.specs.ctr_writing.ctr_looks.ctr_write.declared.stages.Stage.{Stage as WriteStage}
use Rattle.ctr_control.specs.ctr_writing.ctr_looks.ctr_write.declared.stages.Stage.TheVariants.{Looking, Extending, Kept}
use Rattle.ctr_control.specs.ctr_writing.ctr_looks.ctr_write.Stages.{IsCountedStage}
use Rattle.ctr_control.specs.ctr_session_world.Ready.{is_asking}
use Rattle.ctr_control.specs.ctr_writing.Rows.{MayGoOn}
use Rattle.ctr_control.specs.ctr_writing.Tables.{HasFittingColumns}
use Rattle.ctr_exec.specs.declared.acting.Acted.{Acted}
use Rattle.ctr_exec.specs.declared.acting.Acted.TheVariants as acted
use Rattle.ctr_exec.specs.declared.runners.Runner.{Runner}
use Rattle.ctr_exec.specs.declared.runners.Stage.{Stage}
use Rattle.ctr_exec.specs.declared.runners.Stage.TheVariants as stage
use Rattle.ctr_exec.specs.declared.sessions.Sessions.{Sessions}
use Rattle.ctr_exec.specs.Acting.{MayAct, LeavesAct, LeavesAsking}
use Rattle.ctr_exec.specs.Runners.{made_at, finished_with, after_act, vacant, runner_at, acts_left, all_left, IsRunnerOf, AreRunners}
use Rattle.ctr_exec.specs.Sessions.{AreSeated, HasAct, entries_by, runner_by}
use Rattle.ctr_exec.proofs.Places.{left_at, places_most, runner_of, runners_set}

-- ---- one turn of another session

counted_way : (way : OnWay) (m n : ℕ) → m ≤ n → IsCountedWay way m → IsCountedWay way n
counted_way Wanted m n more is = is
counted_way (Taken p) m n more is = (is.0, less p is.1)
  where
    less : (p : ℕ) → p < m → p < n
    less p below = omega (arith, more, below)
counted_way (Made p next) m n more is = (is.0, less p is.1)
  where
    less : (p : ℕ) → p < m → p < n
    less p below = omega (arith, more, below)

counted_stage : (at : WriteStage) (m n : ℕ) → m ≤ n → IsCountedStage at m → IsCountedStage at n
counted_stage Looking m n more is = is
counted_stage (Extending chain way) m n more is = (is.0, counted_way way m n more is.1)
counted_stage (Kept q) m n more is = is

go_on : (q m n : ℕ) (txns now : TxnsHeld) (at : WriteStage) → txn_of q now ≡ txn_of q txns → m ≤ n → MayGoOn q txns m at → MayGoOn q now n at
go_on q m n txns now at same more is = (counted_stage at m n more is.0, record { t = is.1.t; there = same ∙ is.1.there; room = is.1.room })

-- what a session may do it may still, where its transaction is as it was and no page is counted less
pub act_still : (g : Stage) (q m n : ℕ) (statement : Statement) (txns now : TxnsHeld) → txn_of q now ≡ txn_of q txns → m ≤ n → MayAct g q statement txns m → MayAct g q statement now n
act_still stage.Between q m n statement txns now same more is = is
act_still (stage.Row e prepared at) q m n statement txns now same more is = (is.0, is.1, go_on q m n txns now at same more is.2)
act_still (stage.Table write) q m n statement txns now same more is = (is.0, is.1, record { t = is.2.t; there = same ∙ is.2.there; kept = is.2.kept })
act_still stage.Asked q m n statement txns now same more is = is

-- ---- the sessions, once one of them has another runner

above : (q : ℕ) → IsOneOfEight q → 0 < q
above q other = let low = other.from in omega (arith, low)

-- the places of two sessions
two_places : (s q : ℕ) → IsOneOfEight s → IsOneOfEight q → (q == s) ≡ false → q - 1 ≡ s - 1 → ⊥
two_places s q one other two same = false≢true (sym two ∙ eq-eqb q s (is s q one.from other.from same))
  where
    is : (s q : ℕ) → 1 ≤ s → 1 ≤ q → q - 1 ≡ s - 1 → q ≡ s
    is s q low least same = omega (arith, low, least, same)

module _ (h now : Sessions) (m n : ℕ) (seats : AreSeated h m) (s : ℕ) (one : IsOneOfEight s) (x : Runner)
    (script : now.script ≡ h.script) (runners : now.runners.items ≡ slice_set h.runners.items (s - 1) x) where
  abbrev pub mine : Runner
  mine = runner_at s h.runners.items

  pub inside : s - 1 < length h.runners.items
  inside = let low = one.from in let high = one.to in let eight = seats.eight in omega (arith, low, high, eight)

  back : 1 + (s - 1) ≡ s
  back = let low = one.from in omega (arith, low)

  -- the session's own
  pub its : runner_at s now.runners.items ≡ x
  its = ap (runner_at s) runners ∙ get_or-set_same h.runners.items (s - 1) x vacant inside

  pub theirs : (q : ℕ) → IsOneOfEight q → (q == s) ≡ false → runner_at q now.runners.items ≡ runner_at q h.runners.items
  theirs q other two = ap (runner_at q) runners ∙ get_or-set_other h.runners.items (s - 1) (q - 1) x vacant (two_places s q one other two)

  pub of_mine : IsRunnerOf h.script.lines s mine
  of_mine = subst (λ n. IsRunnerOf h.script.lines n mine) back (runner_of h.script.lines 1 h.runners.items (s - 1) seats.runners inside)

  pub left_sum : all_left now.runners.items + acts_left mine ≡ all_left h.runners.items + acts_left x
  left_sum = ap (λ rs. all_left rs + acts_left mine) runners ∙ sum_by-set acts_left h.runners.items (s - 1) x vacant inside

  module _ (of : IsRunnerOf h.script.lines s x) (k : ℕ) (fewer : acts_left x + k ≤ acts_left mine) (len : vec_len now.tape ≡ vec_len h.tape + k) (capacity : vec_capacity now.tape ≡ vec_capacity h.tape)
      (stuck : now.stuck ≡ h.stuck) (others : (q : ℕ) → 0 < q → (q == s) ≡ false → txn_of q now.txns ≡ txn_of q h.txns) (more : m ≤ n)
      (asking : is_asking (txn_of s now.txns) ≡ true → x.stage ≡ stage.Asked) (waiting : x.stage ≡ stage.Asked → is_asking (txn_of s now.txns) ≡ true)
      (commits : x.stage ≡ stage.Asked → statement_of h.script.lines s (x.finished + 1) ≡ Some st.Commit)
      (may : (statement : Statement) → statement_of h.script.lines s (x.finished + 1) ≡ Some statement → (x.stage ≡ stage.Asked → ⊥) → MayAct x.stage s statement now.txns n) where
    asked_now : (q : ℕ) → IsOneOfEight q → is_asking (txn_of q now.txns) ≡ true → (runner_at q now.runners.items).stage ≡ stage.Asked
    asked_now q other is = known (q == s)
        (λ same. let at = eqb-true q s same in subst (λ i. (runner_at i now.runners.items).stage ≡ stage.Asked) (sym at) (ap (λ (r : Runner). r.stage) its ∙ asking (subst (λ i. is_asking (txn_of i now.txns) ≡ true) at is)))
        (λ two. ap (λ (r : Runner). r.stage) (theirs q other two) ∙ seats.asked q other (ap is_asking (sym (others q (above q other) two)) ∙ is))

    commits_now : (q : ℕ) → IsOneOfEight q → (runner_at q now.runners.items).stage ≡ stage.Asked → statement_of now.script.lines q ((runner_at q now.runners.items).finished + 1) ≡ Some st.Commit
    commits_now q other is = ap (λ (sc : Script). statement_of sc.lines q ((runner_at q now.runners.items).finished + 1)) script ∙ known (q == s)
        (λ same. let at = eqb-true q s same in
        subst (λ i. statement_of h.script.lines i ((runner_at i now.runners.items).finished + 1) ≡ Some st.Commit) (sym at)
        (ap (λ (r : Runner). statement_of h.script.lines s (r.finished + 1)) its ∙ commits (ap (λ (r : Runner). r.stage) (sym its) ∙ own at)))
        (λ two. let r_is = theirs q other two in
        ap (λ (r : Runner). statement_of h.script.lines q (r.finished + 1)) r_is ∙ seats.commits q other (ap (λ (r : Runner). r.stage) (sym r_is) ∙ is))
      where
        own : q ≡ s → (runner_at s now.runners.items).stage ≡ stage.Asked
        own at = subst (λ i. (runner_at i now.runners.items).stage ≡ stage.Asked) at is

    waits_now : (q : ℕ) → IsOneOfEight q → (runner_at q now.runners.items).stage ≡ stage.Asked → is_asking (txn_of q now.txns) ≡ true
    waits_now q other is = known (q == s)
        (λ same. let at = eqb-true q s same in subst (λ i. is_asking (txn_of i now.txns) ≡ true) (sym at) (waiting (ap (λ (r : Runner). r.stage) (sym its) ∙ subst (λ i. (runner_at i now.runners.items).stage ≡ stage.Asked) at is)))
        (λ two. ap is_asking (others q (above q other) two) ∙ seats.waits q other (ap (λ (r : Runner). r.stage) (sym (theirs q other two)) ∙ is))

    may_now : (q : ℕ) (statement : Statement) → IsOneOfEight q → statement_of now.script.lines q ((runner_at q now.runners.items).finished + 1) ≡ Some statement → ((runner_at q now.runners.items).stage ≡ stage.Asked → ⊥)
        → MayAct (runner_at q now.runners.items).stage q statement now.txns n
    may_now q statement other at unasked = known (q == s)
        (λ same. let is = eqb-true q s same in
        subst (λ i. MayAct (runner_at i now.runners.items).stage i statement now.txns n) (sym is)
        (subst (λ (r : Runner). MayAct r.stage s statement now.txns n) (sym its)
        (may statement (ap (λ (sc : Script). statement_of sc.lines s (x.finished + 1)) (sym script) ∙ ap (λ (r : Runner). statement_of now.script.lines s (r.finished + 1)) (sym its) ∙ own is) (λ a. unasked (subst (λ i. (runner_at i now.runners.items).stage ≡ stage.Asked) (sym is) (ap (λ (r : Runner). r.stage) its ∙ a))))))
        (λ two. let r_is = theirs q other two in
        subst (λ (r : Runner). MayAct r.stage q statement now.txns n) (sym r_is)
        (act_still (runner_at q h.runners.items).stage q m n statement h.txns now.txns (others q (above q other) two) more
        (seats.may q statement other (ap (λ (sc : Script). statement_of sc.lines q ((runner_at q h.runners.items).finished + 1)) (sym script) ∙ ap (λ (r : Runner). statement_of now.script.lines q (r.finished + 1)) (sym r_is) ∙ at)
        (λ a. unasked (ap (λ (r : Runner). r.stage) r_is ∙ a)))))
      where
        own : q ≡ s → statement_of now.script.lines s ((runner_at s now.runners.items).finished + 1) ≡ Some statement
        own is = subst (λ i. statement_of now.script.lines i ((runner_at i now.runners.items).finished + 1) ≡ Some statement) is at

    pub seated_now : AreSeated now n
    seated_now = record {
      eight = ap length runners ∙ length-set h.runners.items (s - 1) x ∙ seats.eight;
      few = subst (λ (sc : Script). length sc.lines < 2 ^ 32 - 1) (sym script) seats.few;
      runners = subst (λ (sc : Script). AreRunners sc.lines 1 now.runners.items) (sym script)
          (subst (AreRunners h.script.lines 1) (sym runners) (runners_set h.script.lines 1 h.runners.items (s - 1) x seats.runners inside (subst (λ i. IsRunnerOf h.script.lines i x) (sym back) of)));
      fit = subst (λ (sc : Script). AllByRecursion (λ (l : Line). HasFittingColumns l.statement) sc.lines) (sym script) seats.fit;
      room = let sum = left_sum in let old = seats.room in let held = ap length stuck in omega (arith, sum, old, fewer, len, capacity, held);
      asked = asked_now;
      commits = commits_now;
      waits = waits_now;
      may = may_now;
    }

-- ---- one session's seat

module _ (h : Sessions) (m : ℕ) (seats : AreSeated h m) (s : ℕ) (one : IsOneOfEight s) where
  pub inside_here : s - 1 < length h.runners.items
  inside_here = let low = one.from in let high = one.to in let eight = seats.eight in omega (arith, low, high, eight)

  pub within_here : (1 ≤ s) × (s ≤ length h.runners.items)
  within_here = (one.from, let high = one.to in let eight = seats.eight in omega (arith, high, eight))

  pub runner_here : IsRunnerOf h.script.lines s (runner_at s h.runners.items)
  runner_here = subst (λ n. IsRunnerOf h.script.lines n (runner_at s h.runners.items)) back (runner_of h.script.lines 1 h.runners.items (s - 1) seats.runners inside_here)
    where
      back : 1 + (s - 1) ≡ s
      back = let low = one.from in omega (arith, low)

  pub small_here : (runner_at s h.runners.items).finished < length (runner_at s h.runners.items).places → (runner_at s h.runners.items).finished < 2 ^ 64 - 1
  small_here more =
      let places = ap length runner_here.places in
      let most = places_most s 0 h.script.lines in
      let few = seats.few in
      omega (arith, more, places, most, few)

  pub room_here : 1 ≤ acts_left (runner_at s h.runners.items) → vec_len h.tape < vec_capacity h.tape
  room_here some = let left = left_at h.runners.items (s - 1) inside_here in let room = seats.room in omega (arith, some, left, room)

-- a statement that isn't finished has an act left
pub some_left : (r : Runner) → r.finished < length r.places → made_at r.stage ≤ 1 → 1 ≤ acts_left r
some_left r more most = omega (arith, more, most)

-- ---- what a turn of an act came to

-- how many entries it adds, and what is left then
pub record Passes (s k : ℕ) (x mine : Runner) : Type 0 where
  pub within : x.finished + made_at x.stage ≤ length mine.places
  pub fewer : acts_left x + k ≤ acts_left mine

pub made_most : (g : Stage) → made_at g ≤ 1
made_most stage.Between = omega (arith)
made_most (stage.Row e prepared at) = omega (arith)
made_most (stage.Table write) = omega (arith)
made_most stage.Asked = omega (arith)

-- a statement goes on in the middle of an act that is told
pub goes_with : (g : Stage) (f : ℕ) → made_at g ≡ 1 → finished_with g f ≡ f
goes_with stage.Between f is = absurd (none_made stage.Between refl is)
  where
    none_made : (g : Stage) → made_at g ≡ 0 → made_at g ≡ 1 → ⊥
    none_made g none one = omega (arith, none, one)
goes_with (stage.Row e prepared at) f is = refl
goes_with (stage.Table write) f is = refl
goes_with stage.Asked f is = refl

pub passes : (l : Acted) (s moment : ℕ) (statement : Statement) (txns : TxnsHeld) (n : ℕ) (mine : Runner) → mine.finished < length mine.places → LeavesAct mine.stage s statement txns n l
    → Passes s (length (entries_by s mine moment l)) (runner_by l mine) mine
passes (acted.On at) s moment statement txns n mine more leaves = let same = leaves.0 in let most = made_most mine.stage in record {
  within = omega (arith, more, same, most);
  fewer = omega (arith, more, same);
}
passes (acted.Granted at) s moment statement txns n mine more leaves = let none = leaves.0 in let made = leaves.1 in let same = goes_with at mine.finished made in record {
  within = omega (arith, more, made, same);
  fewer = omega (arith, more, none, made, same);
}
passes (acted.Asked k) s moment statement txns n mine more leaves = let none = leaves.0 in record { within = omega (arith, more); fewer = omega (arith, more, none) }
passes (acted.Ended x r) s moment statement txns n mine more leaves = let most = made_most mine.stage in record { within = omega (arith, more); fewer = omega (arith, more, most) }

pub runner_places : (l : Acted) (r : Runner) → (runner_by l r).places ≡ r.places
runner_places (acted.On at) r = refl
runner_places (acted.Granted at) r = refl
runner_places (acted.Asked k) r = refl
runner_places (acted.Ended x y) r = refl

-- what the session may do then
pub may_then : (l : Acted) (lines : List Line) (s : ℕ) (statement : Statement) (txns : TxnsHeld) (n : ℕ) (r : Runner) → statement_of lines s (r.finished + 1) ≡ Some statement → LeavesAct r.stage s statement txns n l
    → (other : Statement) → statement_of lines s ((runner_by l r).finished + 1) ≡ Some other → ((runner_by l r).stage ≡ stage.Asked → ⊥) → MayAct (runner_by l r).stage s other txns n
may_then (acted.On at) lines s statement txns n r here leaves other is unasked = subst (λ z. MayAct at s z txns n) (some_is statement other (sym here ∙ is)) leaves.1
may_then (acted.Granted at) lines s statement txns n r here leaves other is unasked =
    subst (λ z. MayAct at s z txns n) (some_is statement other (sym here ∙ ap (λ f. statement_of lines s (f + 1)) (sym (goes_with at r.finished leaves.1)) ∙ is)) leaves.2
may_then (acted.Asked k) lines s statement txns n r here leaves other is unasked = absurd (unasked refl)
may_then (acted.Ended x y) lines s statement txns n r here leaves other is unasked = tt

-- and who has asked then waits
pub asking_then : (l : Acted) (s : ℕ) (txns now : TxnsHeld) (r : Runner) → is_asking (txn_of s txns) ≡ false → LeavesAsking s txns now l → is_asking (txn_of s now) ≡ true → (runner_by l r).stage ≡ stage.Asked
asking_then (acted.On at) s txns now r unasked stays is = absurd (false≢true (sym (stays unasked) ∙ is))
asking_then (acted.Granted at) s txns now r unasked stays is = absurd (false≢true (sym (stays unasked) ∙ is))
asking_then (acted.Asked k) s txns now r unasked stays is = refl
asking_then (acted.Ended x y) s txns now r unasked stays is = absurd (false≢true (sym (stays unasked) ∙ is))

-- between two statements nobody waits
pub between_waits : stage.Between ≡ stage.Asked → ⊥
between_waits is = cc

-- as who waits then has asked: in the middle of an act that goes on, or was granted, nobody waits
pub waiting_then : (l : Acted) (s : ℕ) (statement : Statement) (txns now : TxnsHeld) (n : ℕ) (r : Runner) → LeavesAct r.stage s statement now n l → LeavesAsking s txns now l → (runner_by l r).stage ≡ stage.Asked → is_asking (txn_of s now) ≡ true
waiting_then (acted.On at) s statement txns now n r leaves stays is = absurd (subst (λ (z : Stage). MayAct z s statement now n) is leaves.1)
waiting_then (acted.Granted at) s statement txns now n r leaves stays is = absurd (subst (λ (z : Stage). MayAct z s statement now n) is leaves.2)
waiting_then (acted.Asked k) s statement txns now n r leaves asks is = asks
waiting_then (acted.Ended x y) s statement txns now n r leaves stays is = absurd (between_waits is)

-- who has an act of its own next hasn't asked
pub unasked_before : (h : Sessions) (m s : ℕ) → AreSeated h m → IsOneOfEight s → HasAct h s → is_asking (txn_of s h.txns) ≡ false
unasked_before h m s seats one has = known (is_asking (txn_of s h.txns)) (λ yes_. absurd (has.unasked (seats.asked s one yes_))) (λ no_. no_)

-- and who waits then is at a COMMIT
pub commits_then : (l : Acted) (lines : List Line) (s : ℕ) (statement : Statement) (txns : TxnsHeld) (n : ℕ) (r : Runner) → statement_of lines s (r.finished + 1) ≡ Some statement → LeavesAct r.stage s statement txns n l
    → (runner_by l r).stage ≡ stage.Asked → statement_of lines s ((runner_by l r).finished + 1) ≡ Some st.Commit
commits_then (acted.On at) lines s statement txns n r here leaves is = absurd (subst (λ (g : Stage). MayAct g s statement txns n) is leaves.1)
commits_then (acted.Granted at) lines s statement txns n r here leaves is = absurd (subst (λ (g : Stage). MayAct g s statement txns n) is leaves.2)
commits_then (acted.Asked k) lines s statement txns n r here leaves is = here ∙ ap Some leaves.1
commits_then (acted.Ended x y) lines s statement txns n r here leaves is = absurd (cc is)

-- ---- a runner whose stage is taken out

pub set_twice : (rs : List Runner) (i : ℕ) (x y : Runner) → slice_set (slice_set rs i x) i y ≡ slice_set rs i y
set_twice [] i x y = refl
set_twice (r ∷ rs) zero x y = refl
set_twice (r ∷ rs) (suc i) x y = ap (λ l. r ∷ l) (set_twice rs i x y)

pub runner_taken : (l : Acted) (r : Runner) → runner_by l (record r { stage = stage.Between }) ≡ runner_by l r
runner_taken (acted.On at) r = refl
runner_taken (acted.Granted at) r = refl
runner_taken (acted.Asked k) r = refl
runner_taken (acted.Ended x y) r = refl

pub entries_taken : (l : Acted) (s moment : ℕ) (r : Runner) → entries_by s (record r { stage = stage.Between }) moment l ≡ entries_by s r moment l
entries_taken (acted.On at) s moment r = refl
entries_taken (acted.Granted at) s moment r = refl
entries_taken (acted.Asked k) s moment r = refl
entries_taken (acted.Ended x y) s moment r = refl

-- ---- the sessions behind a turn of an act

module _ (h now : Sessions) (m n : ℕ) (seats : AreSeated h m) (s : ℕ) (one : IsOneOfEight s) (has : HasAct h s) (statement : Statement) (here : statement_of h.script.lines s ((runner_at s h.runners.items).finished + 1) ≡ Some statement)
    (l : Acted) (moment : ℕ) (leaves : LeavesAct (runner_at s h.runners.items).stage s statement now.txns n l) (script : now.script ≡ h.script) (stuck : now.stuck ≡ h.stuck)
    (runners : now.runners.items ≡ slice_set h.runners.items (s - 1) (runner_by l (runner_at s h.runners.items)))
    (len : vec_len now.tape ≡ vec_len h.tape + length (entries_by s (runner_at s h.runners.items) moment l)) (capacity : vec_capacity now.tape ≡ vec_capacity h.tape)
    (others : (q : ℕ) → 0 < q → (q == s) ≡ false → txn_of q now.txns ≡ txn_of q h.txns) (more : m ≤ n) (asking : LeavesAsking s h.txns now.txns l) where
  abbrev me : Runner
  me = runner_at s h.runners.items

  abbrev x : Runner
  x = runner_by l me

  its_lines : IsRunnerOf h.script.lines s me
  its_lines = of_mine h now m n seats s one x script runners

  pub seats_told : AreSeated now n
  seats_told =
      let passed = passes l s moment statement now.txns n me has.more leaves in
      seated_now h now m n seats s one x script runners (record { places = runner_places l me ∙ its_lines.places; within = subst (λ k. x.finished + made_at x.stage ≤ k) (sym (ap length (runner_places l me))) passed.within })
      (length (entries_by s me moment l)) passed.fewer len capacity stuck others more
      (asking_then l s h.txns now.txns me (unasked_before h m s seats one has) asking)
      (waiting_then l s statement h.txns now.txns n me leaves asking)
      (commits_then l h.script.lines s statement now.txns n me here leaves)
      (may_then l h.script.lines s statement now.txns n me here leaves)

-- ---- a commit that is answered

module _ (h : Sessions) (m : ℕ) (seats : AreSeated h m) (s : ℕ) (asked : Asked) (after : TxnsHeld) (next : AnswersNext s asked h.txns after) where
  pub waits : (runner_at s h.runners.items).stage ≡ stage.Asked
  waits = seats.asked s next.one (ap is_asking next.there ∙ ap is_some next.is_asked)

  runner : IsRunnerOf h.script.lines s (runner_at s h.runners.items)
  runner = runner_here h m seats s next.one

  pub one_made : made_at (runner_at s h.runners.items).stage ≡ 1
  one_made = ap made_at waits

  unfinished : (runner_at s h.runners.items).finished < length (runner_at s h.runners.items).places
  unfinished = let within = runner.within in let made = one_made in omega (arith, within, made)

  pub asked_room : vec_len h.tape < vec_capacity h.tape
  asked_room = room_here h m seats s next.one (some_left (runner_at s h.runners.items) unfinished (made_most (runner_at s h.runners.items).stage))

  pub asked_small : (runner_at s h.runners.items).finished < 2 ^ 64 - 1
  asked_small = small_here h m seats s next.one unfinished

  -- the others' transactions are as they were
  still : (q : ℕ) → 0 < q → (q == s) ≡ false → txn_of q after ≡ txn_of q h.txns
  still q some two = ap (λ (t : TxnsHeld). txn_of q t) next.new_is ∙ get_or-set_other h.txns.sessions (s - 1) (q - 1) None None (λ same. false≢true (sym two ∙ eq-eqb q s (is q s some next.one.from same)))
    where
      is : (q s : ℕ) → 0 < q → 1 ≤ s → q - 1 ≡ s - 1 → q ≡ s
      is q s some low same = omega (arith, some, low, same)

  pub answered_fewer : (now : Sessions) → now.script ≡ h.script → now.runners.items ≡ slice_set h.runners.items (s - 1) (after_act stage.Between (runner_at s h.runners.items)) → all_left now.runners.items < all_left h.runners.items
  answered_fewer now script runners =
      let sum = left_sum h now m m seats s next.one (after_act stage.Between (runner_at s h.runners.items)) script runners in
      let more = unfinished in
      let made = one_made in
      less (all_left now.runners.items) (all_left h.runners.items) (acts_left (after_act stage.Between (runner_at s h.runners.items))) (acts_left (runner_at s h.runners.items)) sum (omega (arith, more, made))
    where
      less : (now was then mine : ℕ) → now + mine ≡ was + then → then < mine → now < was
      less now was then mine sum few = omega (arith, sum, few)

  pub answered_seats : (now : Sessions) → now.script ≡ h.script → now.stuck ≡ h.stuck → now.txns ≡ after → now.runners.items ≡ slice_set h.runners.items (s - 1) (after_act stage.Between (runner_at s h.runners.items))
      → vec_len now.tape ≡ vec_len h.tape + 1 → vec_capacity now.tape ≡ vec_capacity h.tape → AreSeated now m
  answered_seats now script stuck txns runners len capacity =
      let r = runner_at s h.runners.items in
      let more = unfinished in
      let made = one_made in
      let same_most = at_once m in
      seated_now h now m m seats s next.one (after_act stage.Between r) script runners
      (record { places = runner.places; within = omega (arith, more) }) 1 (omega (arith, more, made)) len capacity stuck
      (λ q some two. ap (λ (t : TxnsHeld). txn_of q t) txns ∙ still q some two) same_most
      (λ is. absurd (false≢true (sym (ap is_asking gone) ∙ ap (λ (t : TxnsHeld). is_asking (txn_of s t)) (sym txns) ∙ is)))
      (λ is. absurd (between_waits is))
      (λ is. absurd (between_waits is))
      (λ statement there unasked. tt)
    where
      at_once : (n : ℕ) → n ≤ n
      at_once n = omega arith

      none_at : (os : List (Option TxnHeld)) (i : ℕ) → get_or (slice_set os i None) i None ≡ None
      none_at [] i = refl
      none_at (o ∷ os) zero = refl
      none_at (o ∷ os) (suc i) = none_at os i

      gone : txn_of s after ≡ None
      gone = ap (λ (t : TxnsHeld). txn_of s t) next.new_is ∙ none_at h.txns.sessions (s - 1)
