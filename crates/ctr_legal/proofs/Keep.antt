-- What the model keeps: each change that a reply makes keeps it.
use Rattle.std.proofs.Common.{◌≡◌, ℕ, zero, suc, ◌+◌, ◌≤◌, ◌==◌, ℤ, Bool, true, false, cond, not, List, [], ◌∷◌, ◌++◌, map, take, drop, length, Option, Some, None, refl, sym, ◌∙◌, ap, subst, arith}
use Rattle.std.specs.Prelude.{is_some, is_none, ◌&&◌, ◌||◌, option_and_then}
use Rattle.std.specs.Option.{option_map}
use Rattle.std.specs.List.{AllByRecursion, list_any}
use Rattle.std.specs.Ordering.{nat_cmp, int_eq}
use Rattle.std.specs.Cmp.{signed_Decides}
use Rattle.std.specs.FinMap.Entries.{find, put}
use Rattle.std.proofs.lemmas.Bool.{false≢true, true≢false, or_parts, and_parts, eqb-true, eq-eqb}
use Rattle.std.proofs.lemmas.List.{length_push}
use Rattle.ctr_types.specs.declared.value.Row.{Row}
use Rattle.ctr_types.specs.declared.statement.Statement.{Statement}
use Rattle.ctr_types.specs.declared.tape.Act.{Act}
use Rattle.ctr_types.specs.declared.tape.Refusal.{Refusal}
use Rattle.ctr_types.specs.declared.tape.Refusal.TheVariants as refusal
use Rattle.ctr_model.specs.declared.database.Change.{Change}
use Rattle.ctr_model.specs.declared.state.KeyLock.{KeyLock}
use Rattle.ctr_model.specs.declared.state.State.{State}
use Rattle.ctr_model.specs.declared.state.Transaction.{Transaction}
use Rattle.ctr_model.specs.Database.{table_at}
use Rattle.ctr_model.specs.Maps.{without}
use Rattle.ctr_model.specs.State.{same_name, has_name, with_transaction, without_transaction, view, begun}
use Rattle.ctr_model.specs.Refusals.{table_of, key_locked, creates, changes_schema, others, first_session, is_lock_of, is_busy, has_lock, busy_by, locked_by, schema_changed_by, when, first_of, key_refusals, value_refusals, table_refusals, refusal_of}
use Rattle.ctr_model.proofs.Sessions.{known, find-put-other, find-put-same, find-without-other, find-without-same}
use Rattle.ctr_versions.specs.Chains.{IsUnwritten, last_write}
use Rattle.ctr_versions.specs.Keys.{schema_change, row_change, left_by, schema_writes, row_written}
use Rattle.ctr_versions.proofs.Keys.{same_text, some_is}
use Rattle.ctr_versions.proofs.Conflicts.{none_of_both, schema_changed, quiet_from}
use Rattle.ctr_versions.proofs.Written.{same_itself}
use Rattle.ctr_legal.specs.Cover.{IsCovered, ArePending}
use Rattle.ctr_legal.specs.Kept.{AreApart, IsSteady, IsFirm, IsFit, IsClear, IsKept}
use Rattle.ctr_legal.proofs.Cover.{less_any, covered_more, covered_lock, covered_hold, covered_write, covered_name, IsOfName, other_passes, not_self, pending_put, pending_without, pending_asked, pending_answered}

-- ---- what no refusal tells

pub all_none : (rs : List (Option Refusal)) → first_of rs ≡ None → AllByRecursion (λ (r : Option Refusal). r ≡ None) rs
all_none [] is = tt
all_none (None ∷ rs) is = (refl, all_none rs is)
all_none (Some why ∷ rs) is = absurd (true≢false (ap is_some is))

unmapped : {A B : Type 0} (f : A → B) (o : Option A) → option_map f o ≡ None → o ≡ None
unmapped f None is = refl
unmapped f (Some x) is = absurd (true≢false (ap is_some is))

pub clash : (b : Bool) → b ≡ false → b ≡ true → ⊥
clash b off on = false≢true (sym off ∙ on)

same_int : (a b : ℤ) → int_eq a b ≡ true → a ≡ b
same_int a b is = (signed_Decides a b).0 is

pub denied : (b : Bool) → (b ≡ true → ⊥) → b ≡ false
denied true is = absurd (is refl)
denied false is = refl

pub turned : (s r : ℕ) → (s == r) ≡ false → (r == s) ≡ false
turned s r is = known (r == s) (λ one. absurd (false≢true (sym is ∙ eq-eqb s r (sym (eqb-true r s one))))) (λ two. two)

all_behind : (rs us : List (Option Refusal)) → AllByRecursion (λ (r : Option Refusal). r ≡ None) (rs ++ us) → AllByRecursion (λ (r : Option Refusal). r ≡ None) us
all_behind [] us all = all
all_behind (r ∷ rs) us all = all_behind rs us all.1

pub record Grants (state : State) (s : ℕ) (me : Transaction) (a : Act) (statement : Statement) (name : List ℕ) : Type 0 where
  pub present : when (is_none (table_at (view state me) name) && not (creates statement)) refusal.NoTable ≡ None
  pub idle : first_session (is_busy (changes_schema statement) name) (others s state) ≡ None
  pub unchanged : schema_changed_by state me name ≡ None
  pub unstuck : has_name name state.stuck ≡ false
  pub keys : AllByRecursion (λ (r : Option Refusal). r ≡ None) (key_refusals state s me name (key_locked a statement))

pub idle_first : (stuck : Bool) (o : Option ℕ) → cond stuck (Some 0) o ≡ None → o ≡ None
idle_first true o is = absurd (true≢false (ap is_some is))
idle_first false o is = is

free_first : (stuck : Bool) (o : Option ℕ) → cond stuck (Some 0) o ≡ None → stuck ≡ false
free_first true o is = absurd (true≢false (ap is_some is))
free_first false o is = refl

pub grants : (state : State) (s : ℕ) (me : Transaction) (a : Act) (statement : Statement) (name : List ℕ) → table_of statement ≡ Some name → refusal_of state s me a statement ≡ None → Grants state s me a statement name
grants state s me a statement name is none =
    let all : first_of (table_refusals state s me a statement name) ≡ None =
    ap (option_and_then (λ n. first_of (table_refusals state s me a statement n))) (sym is) ∙ none in
    let each = all_none (table_refusals state s me a statement name) all in
    let busy : busy_by state s statement name ≡ None = unmapped (λ (n : ℕ). refusal.TableBusy n) (busy_by state s statement name) each.1.1.0 in
    record {
      present = each.0;
      idle = idle_first (has_name name state.stuck) (first_session (is_busy (changes_schema statement) name) (others s state)) busy;
      unstuck = free_first (has_name name state.stuck) (first_session (is_busy (changes_schema statement) name) (others s state)) busy;
      unchanged = unmapped (λ (n : ℕ). refusal.SchemaChanged n) (schema_changed_by state me name) each.1.1.1.0;
      keys = all_behind (value_refusals statement (table_at (view state me) name)) (key_refusals state s me name (key_locked a statement)) each.1.1.1.1;
    }

pub key_free : (state : State) (s : ℕ) (me : Transaction) (name : List ℕ) (key : ℤ) → AllByRecursion (λ (r : Option Refusal). r ≡ None) (key_refusals state s me name (Some key)) → locked_by state s name key ≡ None
key_free state s me name key all = unmapped (λ (n : ℕ). refusal.RowLocked n) (locked_by state s name key) all.0

-- ---- names that are steady

drop_all : {V : Type 0} (n : ℕ) (ws : List (Option (Option V))) → AllByRecursion IsUnwritten ws → AllByRecursion IsUnwritten (drop n ws)
drop_all zero ws all = all
drop_all (suc n) [] all = tt
drop_all (suc n) (w ∷ ws) all = drop_all n ws all.1

unsome : {V : Type 0} (w : Option V) → is_some w ≡ false → w ≡ None
unsome (Some v) is = absurd (true≢false is)
unsome None is = refl

steady_from : {V : Type 0} (n a k : ℕ) (ws : List (Option (Option V))) → last_write k (drop n (take a ws)) ≡ None → AllByRecursion IsUnwritten (drop a ws) → AllByRecursion IsUnwritten (drop n ws)
steady_from zero a k [] none quiet = tt
steady_from (suc n) a k [] none quiet = tt
steady_from zero zero k (w ∷ ws) none quiet = quiet
steady_from (suc n) zero k (w ∷ ws) none quiet = drop_all n ws quiet.1
steady_from zero (suc a) k (w ∷ ws) none quiet =
    let parts = none_of_both (last_write (k + 1) (take a ws)) (is_some w) k none in
    (unsome w parts.1, steady_from zero a (k + 1) ws parts.0 quiet)
steady_from (suc n) (suc a) k (w ∷ ws) none quiet = steady_from n a k ws none quiet

pushed_steady : {V : Type 0} (f : List Change → Option (Option V)) (n : ℕ) (ts : List (List Change)) (t : List Change) → f t ≡ None → AllByRecursion IsUnwritten (drop n (map f ts)) → AllByRecursion IsUnwritten (drop n (map f (ts ++ t ∷ [])))
pushed_steady f zero [] t is all = (is, tt)
pushed_steady f (suc zero) [] t is all = tt
pushed_steady f (suc (suc n)) [] t is all = tt
pushed_steady f zero (u ∷ ts) t is all = (all.0, pushed_steady f zero ts t is all.1)
pushed_steady f (suc n) (u ∷ ts) t is all = pushed_steady f n ts t is all

-- ---- one session of many

each_put : (P : ℕ → Transaction → Type 0) (s : ℕ) (t : Transaction) (sessions : List (ℕ × Transaction)) → P s t → ((r : ℕ) (u : Transaction) → (r == s) ≡ false → find nat_cmp r sessions ≡ Some u → P r u)
    → (r : ℕ) (u : Transaction) → find nat_cmp r (put nat_cmp s t sessions) ≡ Some u → P r u
each_put P s t sessions mine others r u at = known (r == s)
    (λ one. let same = eqb-true r s one in
    subst (λ v. P r v) (some_is t u (sym (ap (λ q. find nat_cmp q (put nat_cmp s t sessions)) same ∙ find-put-same s t sessions) ∙ at)) (subst (λ q. P q t) (sym same) mine))
    (λ two. others r u two (sym (find-put-other r s t sessions two) ∙ at))

each_without : (P : ℕ → Transaction → Type 0) (s : ℕ) (sessions : List (ℕ × Transaction)) → ((r : ℕ) (u : Transaction) → (r == s) ≡ false → find nat_cmp r sessions ≡ Some u → P r u)
    → (r : ℕ) (u : Transaction) → find nat_cmp r (without nat_cmp s sessions) ≡ Some u → P r u
each_without P s sessions others r u at = known (r == s)
    (λ one. absurd (false≢true (ap is_some (sym (ap (λ q. find nat_cmp q (without nat_cmp s sessions)) (eqb-true r s one) ∙ find-without-same s sessions) ∙ at))))
    (λ two. others r u two (sym (find-without-other r s sessions two) ∙ at))

module _ (state : State) (s : ℕ) (kept : IsKept state) (asked : List (List Change)) (answered : ℕ)
    (longer : length state.asked ≤ length asked) (within : answered ≤ length asked)
    (still : (r : ℕ) (u : Transaction) → (r == s) ≡ false → find nat_cmp r state.sessions ≡ Some u → IsFirm state.asked u → IsFirm asked u) where
  fit_later : (u : Transaction) → IsFit (length state.asked) u → IsFit (length asked) u
  fit_later u fit = record { snapshot = le_trans u.snapshot fit.snapshot; number = λ k is. le_trans k (fit.number k is) }
    where
      le_trans : (n : ℕ) → n ≤ length state.asked → n ≤ length asked
      le_trans n le = omega (arith, le, longer)

  -- the session's transaction is another, which keeps with the others
  kept_put : (t : Transaction) → IsFit (length asked) t → IsCovered t → IsClear state.stuck t → ((r : ℕ) (u : Transaction) → (r == s) ≡ false → find nat_cmp r state.sessions ≡ Some u → AreApart t u × AreApart u t) → (t.asked ≡ None → IsFirm asked t) → (t.writer ≡ false → t.own ≡ [])
      → ArePending (with_transaction s t (record state { asked = asked; answered = answered })) → IsKept (with_transaction s t (record state { asked = asked; answered = answered }))
  kept_put t fit covered clear apart firm reader pending = record {
    answered = within;
    fits = each_put (λ r u. IsFit (length asked) u) s t state.sessions fit (λ r u two at. fit_later u (kept.fits r u at));
    covered = each_put (λ r u. IsCovered u) s t state.sessions covered (λ r u two at. kept.covered r u at);
    clear = each_put (λ r u. IsClear state.stuck u) s t state.sessions clear (λ r u two at. kept.clear r u at);
    apart = λ p q a b is at_p at_q. each_put (λ p a. (q : ℕ) (b : Transaction) → (p == q) ≡ false → find nat_cmp q (put nat_cmp s t state.sessions) ≡ Some b → AreApart a b) s t state.sessions
        (λ q b is at. (apart q b (turned s q is) (sym (find-put-other q s t state.sessions (turned s q is)) ∙ at)).0)
        (λ r u two at_r q b is at. each_put (λ q b. (r == q) ≡ false → AreApart u b) s t state.sessions (λ other. (apart r u two at_r).1) (λ q b three at_q other. kept.apart r q u b other at_r at_q) q b at is)
        p a at_p q b is at_q;
    firm = each_put (λ r u. u.asked ≡ None → IsFirm asked u) s t state.sessions firm (λ r u two at none. still r u two at (kept.firm r u at none));
    readers = each_put (λ r u. u.writer ≡ false → u.own ≡ []) s t state.sessions reader (λ r u two at. kept.readers r u at);
    pending = pending;
  }

  kept_without : ArePending (without_transaction s (record state { asked = asked; answered = answered })) → IsKept (without_transaction s (record state { asked = asked; answered = answered }))
  kept_without pending = record {
    answered = within;
    fits = each_without (λ r u. IsFit (length asked) u) s state.sessions (λ r u two at. fit_later u (kept.fits r u at));
    covered = each_without (λ r u. IsCovered u) s state.sessions (λ r u two at. kept.covered r u at);
    clear = each_without (λ r u. IsClear state.stuck u) s state.sessions (λ r u two at. kept.clear r u at);
    apart = λ p q a b is at_p at_q. each_without (λ p a. (q : ℕ) (b : Transaction) → (p == q) ≡ false → find nat_cmp q (without nat_cmp s state.sessions) ≡ Some b → AreApart a b) s state.sessions
        (λ r u two at_r q b is at. each_without (λ q b. (r == q) ≡ false → AreApart u b) s state.sessions (λ q b three at_q other. kept.apart r q u b other at_r at_q) q b at is)
        p a at_p q b is at_q;
    firm = each_without (λ r u. u.asked ≡ None → IsFirm asked u) s state.sessions (λ r u two at none. still r u two at (kept.firm r u at none));
    readers = each_without (λ r u. u.writer ≡ false → u.own ≡ []) s state.sessions (λ r u two at. kept.readers r u at);
    pending = pending;
  }

-- ---- a lock, a hold, a use

pushed : {X A : Type 0} (test : X → Bool) (xs : List X) (x : X) → (list_any test xs ≡ true → A) → (test x ≡ true → A) → list_any test (xs ++ x ∷ []) ≡ true → A
pushed test [] x old new is = known (test x) (λ e. new e) (λ e. absurd (false≢true (sym (ap (λ b. b || false) e) ∙ is)))
pushed test (y ∷ ys) x old new is = known (test y)
    (λ e. old (ap (λ b. b || list_any test ys) e))
    (λ e. pushed test ys x (λ f. old (ap (λ b. b || list_any test ys) e ∙ f)) new (sym (ap (λ b. b || list_any test (ys ++ x ∷ [])) e) ∙ is))

module _ (state : State) (s : ℕ) (kept : IsKept state) (me : Transaction) (at : find nat_cmp s state.sessions ≡ Some me) (unasked : me.asked ≡ None) where
  abbrev mine : (w : Transaction) → find nat_cmp s state.sessions ≡ Some w → w.asked ≡ None
  mine w at_w = ap (λ (t : Transaction). t.asked) (some_is w me (sym at_w ∙ at)) ∙ unasked

  -- nobody who asked and isn't answered made or dropped a table whose name nobody else holds
  pub quiet_name : (schema : Bool) (name : List ℕ) → first_session (is_busy schema name) (others s state) ≡ None → AllByRecursion IsUnwritten (drop state.answered (schema_writes name state.asked))
  quiet_name schema name idle = quiet_from (left_by (schema_change name)) state.asked state.answered (λ j own le is.
      let p = kept.pending j own le is in
      let u = p.1.me in
      subst (λ (cs : List Change). left_by (schema_change name) cs ≡ None) p.1.same
      ((kept.covered p.0 u p.1.there).names name ((or_parts (has_name name u.holds) (schema && has_name name u.uses)
      (other_passes state s p.0 u (not_self state s me at unasked kept.pending kept.covered p.0 u (j + 1) p.1.there p.1.asked) p.1.there (is_busy schema name) idle)).0)))

  -- a name that is granted is steady
  pub steady_name : (schema : Bool) (name : List ℕ) → first_session (is_busy schema name) (others s state) ≡ None → schema_changed_by state me name ≡ None → IsSteady state.asked me.snapshot name
  steady_name schema name idle unchanged = steady_from me.snapshot state.answered (me.snapshot + 1) (schema_writes name state.asked) (sym (schema_changed state me name) ∙ unchanged) (quiet_name schema name idle)

  unheld : (schema : Bool) (name : List ℕ) → first_session (is_busy schema name) (others s state) ≡ None → (r : ℕ) (u : Transaction) → (r == s) ≡ false → find nat_cmp r state.sessions ≡ Some u → has_name name u.holds ≡ true → ⊥
  unheld schema name idle r u two at_r is = clash _ ((or_parts (has_name name u.holds) (schema && has_name name u.uses) (other_passes state s r u two at_r (is_busy schema name) idle)).0) is

  unused : (name : List ℕ) → first_session (is_busy true name) (others s state) ≡ None → (r : ℕ) (u : Transaction) → (r == s) ≡ false → find nat_cmp r state.sessions ≡ Some u → has_name name u.uses ≡ true → ⊥
  unused name idle r u two at_r is = clash _ ((or_parts (has_name name u.holds) (has_name name u.uses) (other_passes state s r u two at_r (is_busy true name) idle)).1) is

  abbrev before : (r : ℕ) (u : Transaction) → (r == s) ≡ false → find nat_cmp r state.sessions ≡ Some u → AreApart me u × AreApart u me
  before r u two at_r = (kept.apart s r me u (turned r s two) at at_r, kept.apart r s u me two at_r at)

  sym_same : (a b : List ℕ) → same_name a b ≡ true → same_name b a ≡ true
  sym_same a b is = subst (λ q. same_name q a ≡ true) (same_text a b is) (same_itself a)

  named : (P : List ℕ → Type 0) (n name : List ℕ) → same_name n name ≡ true → P n → P name
  named P n name same p = subst P (same_text n name same) p

  -- what uses and holds nothing more is as clear as it was
  as_clear : (t : Transaction) → t.uses ≡ me.uses → t.holds ≡ me.holds → IsClear state.stuck t
  as_clear t uses holds = let was = kept.clear s me at in record {
    uses = λ n stuck is. was.uses n stuck (ap (has_name n) (sym uses) ∙ is);
    holds = λ n stuck is. was.holds n stuck (ap (has_name n) (sym holds) ∙ is);
  }

  -- a name more that recovery doesn't hold
  clear_more : (names : List (List ℕ)) (name : List ℕ) → has_name name state.stuck ≡ false → ((n : List ℕ) → has_name n state.stuck ≡ true → has_name n names ≡ true → ⊥) → (n : List ℕ) → has_name n state.stuck ≡ true → has_name n (names ++ name ∷ []) ≡ true → ⊥
  clear_more names name free was n stuck is = pushed (λ m. same_name m n) names name (λ old. was n stuck old) (λ same. clash _ free (named (λ q. has_name q state.stuck ≡ true) n name (sym_same name n same) stuck)) is

  -- the name is used
  pub kept_use : (schema : Bool) (name : List ℕ) → first_session (is_busy schema name) (others s state) ≡ None → schema_changed_by state me name ≡ None → has_name name state.stuck ≡ false → IsKept (with_transaction s (record me { uses = me.uses ++ name ∷ [] }) state)
  kept_use schema name idle unchanged unstuck =
      let new : Transaction = record me { uses = me.uses ++ name ∷ [] } in
      kept_put state s kept state.asked state.answered (omega arith) kept.answered (λ r u two at_r firm. firm) new (let f = kept.fits s me at in record { snapshot = f.snapshot; number = f.number })
      (covered_more me new refl (λ n k none. none) (λ n none. less_any (λ m. same_name m n) me.uses name none) (λ n none. none) (kept.covered s me at))
      (record { uses = clear_more me.uses name unstuck (kept.clear s me at).uses; holds = (kept.clear s me at).holds })
      (λ r u two at_r. let b = before r u two at_r in (
        record { holds = b.0.holds; uses = b.0.uses; locks = b.0.locks },
        record { holds = b.1.holds; locks = b.1.locks; uses = λ n held is. pushed (λ m. same_name m n) me.uses name (λ old. b.1.uses n held old) (λ same. unheld schema name idle r u two at_r (named (λ q. has_name q u.holds ≡ true) n name (sym_same name n same) held)) is },
      ))
      (λ none. record {
        uses = λ n is. pushed (λ m. same_name m n) me.uses name ((kept.firm s me at unasked).uses n) (λ same. named (λ q. IsSteady state.asked me.snapshot q) name n same (steady_name schema name idle unchanged)) is;
        holds = (kept.firm s me at unasked).holds;
      })
      (kept.readers s me at)
      (pending_put state s new mine kept.pending)

  -- a key is locked, and its table used
  pub kept_lock : (schema : Bool) (name : List ℕ) (key : ℤ) → first_session (is_busy schema name) (others s state) ≡ None → schema_changed_by state me name ≡ None → has_name name state.stuck ≡ false → locked_by state s name key ≡ None
      → IsKept (with_transaction s (record me { writer = true; locks = me.locks ++ record { table = name; key = key } ∷ []; uses = me.uses ++ name ∷ [] }) state)
  kept_lock schema name key idle unchanged unstuck free =
      let lock : KeyLock = record { table = name; key = key } in
      let new : Transaction = record me { writer = true; locks = me.locks ++ lock ∷ []; uses = me.uses ++ name ∷ [] } in
      let no_other : (n : List ℕ) (k : ℤ) (r : ℕ) (u : Transaction) → (r == s) ≡ false → find nat_cmp r state.sessions ≡ Some u → is_lock_of n k lock ≡ true → has_lock n k u ≡ true → ⊥ = λ n k r u two at_r is held.
      let parts = and_parts (same_name name n) (int_eq key k) is in
      clash _ (other_passes state s r u two at_r (has_lock name key) free) ((λ i. has_lock (same_text name n parts.0 i) (same_int key k parts.1 i) u) ∙ held) in
      kept_put state s kept state.asked state.answered (omega arith) kept.answered (λ r u two at_r firm. firm) new (let f = kept.fits s me at in record { snapshot = f.snapshot; number = f.number })
      (covered_lock me lock name (kept.covered s me at))
      (record { uses = clear_more me.uses name unstuck (kept.clear s me at).uses; holds = (kept.clear s me at).holds })
      (λ r u two at_r. let b = before r u two at_r in (
        record { holds = b.0.holds; uses = b.0.uses; locks = λ n k is held. pushed (is_lock_of n k) me.locks lock (λ old. b.0.locks n k old held) (λ hit. no_other n k r u two at_r hit held) is },
        record {
          holds = b.1.holds;
          uses = λ n held is. pushed (λ m. same_name m n) me.uses name (λ old. b.1.uses n held old) (λ same. unheld schema name idle r u two at_r (named (λ q. has_name q u.holds ≡ true) n name (sym_same name n same) held)) is;
          locks = λ n k held is. pushed (is_lock_of n k) me.locks lock (λ old. b.1.locks n k held old) (λ hit. no_other n k r u two at_r hit held) is;
        },
      ))
      (λ none. record {
        uses = λ n is. pushed (λ m. same_name m n) me.uses name ((kept.firm s me at unasked).uses n) (λ same. named (λ q. IsSteady state.asked me.snapshot q) name n same (steady_name schema name idle unchanged)) is;
        holds = (kept.firm s me at unasked).holds;
      })
      (λ reader. absurd (true≢false reader))
      (pending_put state s new mine kept.pending)

  -- a name is held
  pub kept_hold : (name : List ℕ) → first_session (is_busy true name) (others s state) ≡ None → schema_changed_by state me name ≡ None → has_name name state.stuck ≡ false → IsKept (with_transaction s (record me { writer = true; holds = me.holds ++ name ∷ [] }) state)
  kept_hold name idle unchanged unstuck =
      let new : Transaction = record me { writer = true; holds = me.holds ++ name ∷ [] } in
      let back : (P : List ℕ → Type 0) (n : List ℕ) → same_name name n ≡ true → P n → P name = λ P n same p. named P n name (sym_same name n same) p in
      kept_put state s kept state.asked state.answered (omega arith) kept.answered (λ r u two at_r firm. firm) new (let f = kept.fits s me at in record { snapshot = f.snapshot; number = f.number })
      (covered_hold me name (kept.covered s me at))
      (record { uses = (kept.clear s me at).uses; holds = clear_more me.holds name unstuck (kept.clear s me at).holds })
      (λ r u two at_r. let b = before r u two at_r in (
        record {
          holds = λ n is held. pushed (λ m. same_name m n) me.holds name (λ old. b.0.holds n old held) (λ same. unheld true name idle r u two at_r (back (λ q. has_name q u.holds ≡ true) n same held)) is;
          uses = λ n is used. pushed (λ m. same_name m n) me.holds name (λ old. b.0.uses n old used) (λ same. unused name idle r u two at_r (back (λ q. has_name q u.uses ≡ true) n same used)) is;
          locks = b.0.locks;
        },
        record {
          holds = λ n held is. pushed (λ m. same_name m n) me.holds name (λ old. b.1.holds n held old) (λ same. unheld true name idle r u two at_r (back (λ q. has_name q u.holds ≡ true) n same held)) is;
          uses = b.1.uses;
          locks = b.1.locks;
        },
      ))
      (λ none. record {
        uses = (kept.firm s me at unasked).uses;
        holds = λ n is. pushed (λ m. same_name m n) me.holds name ((kept.firm s me at unasked).holds n) (λ same. named (λ q. IsSteady state.asked me.snapshot q) name n same (steady_name true name idle unchanged)) is;
      })
      (λ reader. absurd (true≢false reader))
      (pending_put state s new mine kept.pending)

  pub kept_itself : IsKept (with_transaction s me state)
  kept_itself = kept_put state s kept state.asked state.answered (omega arith) kept.answered (λ r u two at_r firm. firm) me (kept.fits s me at) (kept.covered s me at) (kept.clear s me at) before (kept.firm s me at) (kept.readers s me at) (pending_put state s me mine kept.pending)

  -- a change under a lock
  kept_change : me.writer ≡ true → (c : List Change) → IsCovered (record me { own = me.own ++ c }) → IsKept (with_transaction s (record me { own = me.own ++ c }) state)
  kept_change writer c covered =
      let new : Transaction = record me { own = me.own ++ c } in
      kept_put state s kept state.asked state.answered (omega arith) kept.answered (λ r u two at_r firm. firm) new (let f = kept.fits s me at in record { snapshot = f.snapshot; number = f.number }) covered
      (as_clear new refl refl)
      (λ r u two at_r. let b = before r u two at_r in (record { holds = b.0.holds; uses = b.0.uses; locks = b.0.locks }, record { holds = b.1.holds; uses = b.1.uses; locks = b.1.locks }))
      (λ none. record { uses = (kept.firm s me at unasked).uses; holds = (kept.firm s me at unasked).holds })
      (λ reader. absurd (clash _ reader writer))
      (pending_put state s new mine kept.pending)

  pub kept_row : me.writer ≡ true → (name : List ℕ) (key : ℤ) (v : Option Row) → has_lock name key me ≡ true → has_name name me.uses ≡ true → IsKept (with_transaction s (record me { own = me.own ++ row_written name key v ∷ [] }) state)
  kept_row writer name key v locked used = kept_change writer (row_written name key v ∷ []) (covered_write me name key v locked used (kept.covered s me at))

  pub kept_name : me.writer ≡ true → (name : List ℕ) (c : Change) → IsOfName name c → has_name name me.holds ≡ true → IsKept (with_transaction s (record me { own = me.own ++ c ∷ [] }) state)
  kept_name writer name c of_name held = kept_change writer (c ∷ []) (covered_name me name c of_name held (kept.covered s me at))

  -- who changed a name has it alone
  pub untouched : (r : ℕ) (u : Transaction) → (r == s) ≡ false → find nat_cmp r state.sessions ≡ Some u → (name : List ℕ) (key : ℤ) → is_some (left_by (schema_change name) me.own) ≡ true → left_by (row_change name key) u.own ≡ None
  untouched r u two at_r name key changed = known (has_name name me.holds)
      (λ held. let b = before r u two at_r in (kept.covered r u at_r).uses name key (denied _ (λ used. b.0.uses name held used)) (denied _ (λ theirs. b.0.holds name held theirs)))
      (λ free. absurd (clash _ (ap is_some ((kept.covered s me at).names name free)) changed))

  pub kept_asked : IsKept (with_transaction s (record me { asked = Some (length state.asked + 1) }) (record state { asked = state.asked ++ me.own ∷ [] }))
  kept_asked =
      kept_put state s kept (state.asked ++ me.own ∷ []) state.answered (le_push (length state.asked) (omega arith)) (le_push state.answered kept.answered)
      (λ r u two at_r firm. let b = before r u two at_r in record {
        uses = λ n is. pushed_steady (left_by (schema_change n)) u.snapshot state.asked me.own ((kept.covered s me at).names n (denied _ (λ held. b.0.uses n held is))) (firm.uses n is);
        holds = λ n is. pushed_steady (left_by (schema_change n)) u.snapshot state.asked me.own ((kept.covered s me at).names n (denied _ (λ held. b.0.holds n held is))) (firm.holds n is);
      })
      (record me { asked = Some (length state.asked + 1) })
      (record { snapshot = le_push me.snapshot (kept.fits s me at).snapshot; number = λ k is. at_end k is })
      (let c = kept.covered s me at in record { rows = c.rows; uses = c.uses; names = c.names })
      (as_clear (record me { asked = Some (length state.asked + 1) }) refl refl)
      (λ r u two at_r. let b = before r u two at_r in (record { holds = b.0.holds; uses = b.0.uses; locks = b.0.locks }, record { holds = b.1.holds; uses = b.1.uses; locks = b.1.locks }))
      (λ none. absurd (true≢false (ap is_some none)))
      (kept.readers s me at)
      (pending_asked state s me at unasked kept.pending)
    where
      le_push : (n : ℕ) → n ≤ length state.asked → n ≤ length (state.asked ++ me.own ∷ [])
      le_push n le = subst (λ m. n ≤ m) (sym (length_push state.asked me.own)) (omega (arith, le))

      at_end : (k : ℕ) → Some (length state.asked + 1) ≡ Some k → k ≤ length (state.asked ++ me.own ∷ [])
      at_end k is = subst (λ m. k ≤ m) (sym (length_push state.asked me.own)) (let e : length state.asked + 1 ≡ k = some_is (length state.asked + 1) k is in omega (arith, e))

  pub kept_end : IsKept (without_transaction s state)
  kept_end = kept_without state s kept state.asked state.answered (omega arith) kept.answered (λ r u two at_r firm. firm) (pending_without state s mine kept.pending)

pub kept_answered : (state : State) (s : ℕ) (me : Transaction) → IsKept state → find nat_cmp s state.sessions ≡ Some me → me.asked ≡ Some (state.answered + 1) → IsKept (without_transaction s (record state { answered = state.answered + 1 }))
kept_answered state s me kept at turn = kept_without state s kept state.asked (state.answered + 1) (omega arith) ((kept.fits s me at).number (state.answered + 1) turn) (λ r u two at_r firm. firm) (pending_answered state s me at turn kept.pending)

pub kept_begin : (state : State) (s : ℕ) → IsKept state → find nat_cmp s state.sessions ≡ None → IsKept (with_transaction s (begun state.answered) state)
kept_begin state s kept none =
    kept_put state s kept state.asked state.answered (omega arith) kept.answered (λ r u two at_r firm. firm) (begun state.answered)
    (record { snapshot = kept.answered; number = λ k is. absurd (false≢true (ap is_some is)) })
    (record { rows = λ n k free unheld. refl; uses = λ n k free unheld. refl; names = λ n unheld. refl })
    (record { uses = λ n stuck is. absurd (false≢true is); holds = λ n stuck is. absurd (false≢true is) })
    (λ r u two at_r. (
      record { holds = λ n is. absurd (false≢true is); uses = λ n is. absurd (false≢true is); locks = λ n k is. absurd (false≢true is) },
      record { holds = λ n held is. absurd (false≢true is); uses = λ n held is. absurd (false≢true is); locks = λ n k held is. absurd (false≢true is) },
    ))
    (λ unasked. record { uses = λ n is. absurd (false≢true is); holds = λ n is. absurd (false≢true is) })
    (λ reader. refl)
    (pending_put state s (begun state.answered) (λ w at. absurd (true≢false (ap is_some (sym at ∙ none)))) kept.pending)
