-- What the sessions have shows of a state of the model, after each change.
use Rattle.std.proofs.Common.{◌≡◌, ℕ, ℤ, Bool, true, false, List, [], ◌∷◌, ◌++◌, Option, Some, None, refl, sym, ◌∙◌, ap, subst}
use Rattle.std.specs.Prelude.{◌&&◌, ◌||◌, nat_eq}
use Rattle.std.specs.List.{list_any}
use Rattle.std.specs.Ordering.{nat_cmp, int_eq}
use Rattle.std.specs.Cmp.Lexicographic.{nat_list_eq_equiv, bytes_decides}
use Rattle.std.specs.FinMap.Entries.{find, put}
use Rattle.std.proofs.lemmas.Bool.{false≢true, eqb-true}
use Rattle.std.proofs.lemmas.Cmp.{nat_eq_equiv}
use Rattle.ctr_model.specs.declared.state.KeyLock.{KeyLock}
use Rattle.ctr_model.specs.declared.state.State.{State}
use Rattle.ctr_model.specs.declared.state.Transaction.{Transaction}
use Rattle.ctr_model.specs.State.{same_name, has_name, transaction_of, with_transaction, without_transaction, begun}
use Rattle.ctr_model.specs.Refusals.{is_lock_of, has_lock}
use Rattle.ctr_model.specs.Reply.{with_use, with_lock}
use Rattle.ctr_model.proofs.Sessions.{known, find-put-other, find-put-same, find-without-other, find-without-same}
use Rattle.ctr_locks.specs.Held.{LocksOfSession, holds_nothing, locks_key, uses_name, held_of_name, held_by_session, OfSession, SameHeld, LocksEntryKey, UsesName, HoldsName, FreesAll}
use Rattle.ctr_locks.specs.declared.held.NameHeld.{NameHeld}
use Rattle.ctr_locks.specs.Shows.{IsLockedIn, HasTheSame, HasNothing, IsTheSame, ShowsKeyLocks, LockLeavesLocks, UseLeavesLocks, HoldShows, RoomLeavesLocks, ReleaseLeavesLocks, BeginLeavesLocks}
use Rattle.ctr_locks.proofs.Sessions.{left, right}

-- ---- a list with one more

any_push : {X : Type 0} (f : X → Bool) (xs : List X) (x : X) → list_any f (xs ++ x ∷ []) ≡ (f x || list_any f xs)
any_push f [] x = refl
any_push f (y ∷ ys) x = ap (λ b. f y || b) (any_push f ys x) ∙ or_moved (f y) (f x) (list_any f ys)
  where
    or_moved : (a b c : Bool) → (a || (b || c)) ≡ (b || (a || c))
    or_moved true true c = refl
    or_moved true false c = refl
    or_moved false b c = refl

or_true : (a b : Bool) → b ≡ true → (a || b) ≡ true
or_true true b is = refl
or_true false b is = is

or_next : (a b : Bool) → a ≡ false → (a || b) ≡ true → b ≡ true
or_next a b off is = sym (ap (λ c. c || b) off) ∙ is

name_one : (a b : List ℕ) → same_name a b ≡ true → a ≡ b
name_one a b one = (bytes_decides a b).0 one

abbrev lock_of : List ℕ → ℤ → KeyLock
lock_of name key = record { table = name; key = key }

module _ (name_of : ℕ → List ℕ) (v w : LocksOfSession) where
  same_keys : w.keys ≡ v.keys → (e : ℕ) (k : ℤ) → locks_key e k w ≡ locks_key e k v
  same_keys keys e k = ap (λ (keys : List (ℕ × List (ℤ × Bool))). locks_key e k (record { keys = keys; names = [] })) keys

  same_names : w.names ≡ v.names → (n : List ℕ) → held_of_name n w ≡ held_of_name n v
  same_names names n = ap (λ (names : List (List ℕ × NameHeld)). held_of_name n (record { keys = []; names = names })) names

  -- the same locks
  still_locked : ((e : ℕ) (k : ℤ) → locks_key e k w ≡ locks_key e k v) → (n : List ℕ) (k : ℤ) → IsLockedIn name_of n k v → IsLockedIn name_of n k w
  still_locked same n k at = record { entry = at.entry; named = at.named; locked = same at.entry k ∙ at.locked }

  room_nothing : SameHeld v w → HasNothing v → HasNothing w
  room_nothing of none = record { uses = λ n. of.uses n ∙ none.uses n; holds = λ n. of.holds n ∙ none.holds n; locks = λ e k. of.keys e k ∙ none.locks e k }

  module _ (t : Transaction) (same : HasTheSame name_of v t) where
    room_same : SameHeld v w → HasTheSame name_of w t
    room_same of = record {
      uses = λ n. of.uses n ∙ same.uses n;
      holds = λ n. of.holds n ∙ same.holds n;
      locks = λ e k has. same.locks e k (sym (of.keys e k) ∙ has);
      locked = λ n k has. still_locked of.keys n k (same.locked n k has);
    }

    use_same : (name : List ℕ) → UsesName name v w → HasTheSame name_of w (with_use name t)
    use_same name of = record {
      uses = λ n. of.uses n ∙ ap (λ b. same_name name n || b) (same.uses n) ∙ sym (any_push (λ m. same_name m n) t.uses name);
      holds = λ n. of.holds n ∙ same.holds n;
      locks = λ e k has. same.locks e k (sym (same_keys of.keys e k) ∙ has);
      locked = λ n k has. still_locked (same_keys of.keys) n k (same.locked n k has);
    }

    hold_same : (name : List ℕ) → HoldsName name v w → HasTheSame name_of w (with_lock None name t)
    hold_same name of = record {
      uses = λ n. of.uses n ∙ same.uses n;
      holds = λ n. of.holds n ∙ ap (λ b. same_name name n || b) (same.holds n) ∙ sym (any_push (λ m. same_name m n) t.holds name);
      locks = λ e k has. same.locks e k (sym (same_keys of.keys e k) ∙ has);
      locked = λ n k has. still_locked (same_keys of.keys) n k (same.locked n k has);
    }

    lock_same : (entry : ℕ) (key : ℤ) → uses_name (name_of entry) v ≡ true → LocksEntryKey entry key v w → HasTheSame name_of w (with_lock (Some key) (name_of entry) t)
    lock_same entry key used of = record {
      uses = λ n. ap (λ (h : NameHeld). h.used) (same_names of.names n) ∙ same.uses n ∙ used_already n ∙ sym (any_push (λ m. same_name m n) t.uses (name_of entry));
      holds = λ n. ap (λ (h : NameHeld). h.held) (same_names of.names n) ∙ same.holds n;
      locks = λ e k has. any_push (is_lock_of (name_of e) k) t.locks (lock_of (name_of entry) key) ∙ known (nat_eq entry e && int_eq key k)
          (λ hit. ap (λ b. b || has_lock (name_of e) k t) (mine e k hit))
          (λ miss. or_true (is_lock_of (name_of e) k (lock_of (name_of entry) key)) (has_lock (name_of e) k t) (same.locks e k (or_next (nat_eq entry e && int_eq key k) (locks_key e k v) miss (sym (of.keys e k) ∙ has))));
      locked = λ n k has. known (is_lock_of n k (lock_of (name_of entry) key))
          (λ hit. record {
            entry = entry;
            named = name_one (name_of entry) n (left (same_name (name_of entry) n) (int_eq key k) hit);
            locked = of.keys entry k ∙ ap (λ b. (b && int_eq key k) || locks_key entry k v) (itself entry) ∙ ap (λ b. b || locks_key entry k v) (right (same_name (name_of entry) n) (int_eq key k) hit);
          })
          (λ miss. more n k (same.locked n k (or_next (is_lock_of n k (lock_of (name_of entry) key)) (has_lock n k t) miss (sym (any_push (is_lock_of n k) t.locks (lock_of (name_of entry) key)) ∙ has))));
    }
      where
        itself : (n : ℕ) → nat_eq n n ≡ true
        itself n = nat_eq_equiv.refl n

        used_already : (n : List ℕ) → has_name n t.uses ≡ (same_name (name_of entry) n || has_name n t.uses)
        used_already n = known (same_name (name_of entry) n)
            (λ one. sym (same.uses n) ∙ subst (λ m. uses_name m v ≡ true) (name_one (name_of entry) n one) used ∙ sym (ap (λ b. b || has_name n t.uses) one))
            (λ two. sym (ap (λ b. b || has_name n t.uses) two))

        mine : (e : ℕ) (k : ℤ) → (nat_eq entry e && int_eq key k) ≡ true → is_lock_of (name_of e) k (lock_of (name_of entry) key) ≡ true
        mine e k hit = subst (λ e. is_lock_of (name_of e) k (lock_of (name_of entry) key) ≡ true) (eqb-true entry e (left (nat_eq entry e) (int_eq key k) hit)) (ap (λ b. b && int_eq key k) (nat_list_eq_equiv.refl (name_of entry)) ∙ right (nat_eq entry e) (int_eq key k) hit)

        more : (n : List ℕ) (k : ℤ) → IsLockedIn name_of n k v → IsLockedIn name_of n k w
        more n k at = record { entry = at.entry; named = at.named; locked = of.keys at.entry k ∙ or_true (nat_eq entry at.entry && int_eq key k) (locks_key at.entry k v) at.locked }

-- ---- one session of many

module _ (name_of : ℕ → List ℕ) (P : LocksOfSession → LocksOfSession → Type 0) (s : ℕ) (old new : List (ℕ × LocksOfSession)) (of : OfSession s P old new) where
  shown : (state next : State) → ShowsKeyLocks name_of old state → ((r : ℕ) → nat_eq r s ≡ false → transaction_of next r ≡ transaction_of state r) → IsTheSame name_of (held_by_session s new) (transaction_of next s) → ShowsKeyLocks name_of new next
  shown state next shows same here r = known (nat_eq r s)
      (λ one. subst (λ q. IsTheSame name_of (held_by_session q new) (transaction_of next q)) (sym (eqb-true r s one)) here)
      (λ two. subst (λ h. IsTheSame name_of h (transaction_of next r)) (sym (of.others r two)) (subst (IsTheSame name_of (held_by_session r old)) (sym (same r two)) (shows r)))

  granted : (state : State) (t u : Transaction) → ShowsKeyLocks name_of old state → transaction_of state s ≡ Some t → (HasTheSame name_of (held_by_session s old) t → HasTheSame name_of (held_by_session s new) u) → ShowsKeyLocks name_of new (with_transaction s u state)
  granted state t u shows at keeps = shown state (with_transaction s u state) shows (λ r two. find-put-other r s u state.sessions two)
      (subst (IsTheSame name_of (held_by_session s new)) (sym (find-put-same s u state.sessions)) (keeps (subst (IsTheSame name_of (held_by_session s old)) at (shows s))))

pub use_shows : UseLeavesLocks
use_shows name_of s name old new state t of shows at = granted name_of (UsesName name) s old new of state t (with_use name t) shows at (λ same. use_same name_of (held_by_session s old) (held_by_session s new) t same name of.here)

pub hold_shows : HoldShows
hold_shows name_of s name old new state t of shows at = granted name_of (HoldsName name) s old new of state t (with_lock None name t) shows at (λ same. hold_same name_of (held_by_session s old) (held_by_session s new) t same name of.here)

pub lock_shows : LockLeavesLocks
lock_shows name_of s entry key old new state t used of shows at = granted name_of (LocksEntryKey entry key) s old new of state t (with_lock (Some key) (name_of entry) t) shows at (λ same. lock_same name_of (held_by_session s old) (held_by_session s new) t same entry key used of.here)

pub room_shows : RoomLeavesLocks
room_shows name_of s old new state of shows = shown name_of SameHeld s old new of state state shows (λ r two. refl) (still (transaction_of state s) (shows s))
  where
    still : (o : Option Transaction) → IsTheSame name_of (held_by_session s old) o → IsTheSame name_of (held_by_session s new) o
    still None none = room_nothing name_of (held_by_session s old) (held_by_session s new) of.here none
    still (Some t) same = room_same name_of (held_by_session s old) (held_by_session s new) t same of.here

nothing : HasNothing holds_nothing
nothing = record { uses = λ n. refl; holds = λ n. refl; locks = λ e k. refl }

pub release_shows : ReleaseLeavesLocks
release_shows name_of s old new state of shows = shown name_of FreesAll s old new of state (without_transaction s state) shows (λ r two. find-without-other r s state.sessions two)
    (subst (IsTheSame name_of (held_by_session s new)) (sym (find-without-same s state.sessions)) (subst HasNothing (sym of.here) nothing))

pub begin_shows : BeginLeavesLocks
begin_shows name_of s n sessions state out shows r = known (nat_eq r s)
    (λ one. subst (λ q. IsTheSame name_of (held_by_session q sessions) (find nat_cmp q (put nat_cmp s (begun n) state.sessions))) (sym (eqb-true r s one)) (subst (IsTheSame name_of (held_by_session s sessions)) (sym (find-put-same s (begun n) state.sessions)) (empty (subst (IsTheSame name_of (held_by_session s sessions)) out (shows s)))))
    (λ two. subst (IsTheSame name_of (held_by_session r sessions)) (sym (find-put-other r s (begun n) state.sessions two)) (shows r))
  where
    empty : HasNothing (held_by_session s sessions) → HasTheSame name_of (held_by_session s sessions) (begun n)
    empty none = record { uses = none.uses; holds = none.holds; locks = λ e k has. absurd (false≢true (sym (none.locks e k) ∙ has)); locked = λ n k has. absurd (false≢true has) }
