-- The map of sessions, after one of them was written.
use Rattle.std.proofs.Common.{◌≡◌, ℕ, ℤ, Bool, true, false, cond, T, List, [], ◌∷◌, Option, Some, None, refl, sym, ◌∙◌, ap, subst}
use Rattle.std.specs.Prelude.{unwrap_or, is_some, ◌&&◌, ◌||◌, nat_eq}
use Rattle.std.specs.Ordering.{nat_cmp, int_eq, is_eq, is_lt, eq_by_cmp}
use Rattle.std.specs.Cmp.{nat_cmp_total, unsigned_tied}
use Rattle.std.specs.declared.cmp.Ordering.{Ordering}
use Rattle.std.specs.declared.cmp.Ordering.TheVariants.{Less, Equal, Greater}
use Rattle.std.specs.BTreeMap.{BTreeMap, get_by, IsOrdered, UpdatesBy, WritesThrough}
use Rattle.std.specs.FinMap.Entries.{find, is_sorted, below_all}
use Rattle.std.proofs.lemmas.Bool.{false≢true, eqb-true}
use Rattle.std.proofs.lemmas.Cmp.{tied_itself, nat_eq_equiv}
use Rattle.ctr_model.specs.Maps.{without}
use Rattle.ctr_model.proofs.Sessions.{known, find-without-other}
use Rattle.ctr_locks.specs.Held.{LocksOfSession, holds_nothing, locks_key, held_by_session, session_locks, first_that, locked_among, OneHolder, IsHolder, HasRoomForKey, HasRoomForName, OfSession, SameHeld, LocksEntryKey, UsesName, HoldsName, FreesAll, IsSessionThere}
use Rattle.ctr_locks.proofs.Maps.{found, Written, updated, through, in_order, int_exact, nat_exact}

abbrev pub Sessions : Type 0
Sessions = List (ℕ × LocksOfSession)

apart_of : (s r : ℕ) → nat_eq r s ≡ false → is_eq (nat_cmp s r) ≡ false
apart_of s r two = unsigned_tied s r ∙ nat_eq_equiv.symm s r ∙ two

pub of_session : (P : LocksOfSession → LocksOfSession → Type 0) (old new : Sessions) (s : ℕ) (o p : Option LocksOfSession) → find nat_cmp s old ≡ o → Written nat_cmp old new s p → P (unwrap_or o holds_nothing) (unwrap_or p holds_nothing) → OfSession s P old new
of_session P old new s o p was is holds = record {
  here = subst (λ h. P h (held_by_session s new)) (sym (ap (λ o. unwrap_or o holds_nothing) was)) (subst (P (unwrap_or o holds_nothing)) (sym (ap (λ o. unwrap_or o holds_nothing) is.here)) holds);
  others = λ r two. ap (λ o. unwrap_or o holds_nothing) (is.others r (apart_of s r two));
}

pub same_held : (h : LocksOfSession) → SameHeld h h
same_held h = record { keys = λ e k. refl; uses = λ n. refl; holds = λ n. refl; key_room = λ e k room. room; name_room = λ n room. room }

-- ---- what a look-up in the map found

module _ (m : BTreeMap ℕ LocksOfSession) (view : Sessions) (view_is : m.entries ≡ view) (s : ℕ) where
  pub session_is : (o : Option LocksOfSession) → o ≡ get_by (nat_cmp s) m → find nat_cmp s view ≡ o
  session_is o is = ap (find nat_cmp s) (sym view_is) ∙ found nat_cmp m s o is

  pub by_is : (o : Option LocksOfSession) → o ≡ get_by (nat_cmp s) m → held_by_session s view ≡ unwrap_or o holds_nothing
  by_is o is = ap (λ o. unwrap_or o holds_nothing) (session_is o is)

  -- a session that has room is found
  pub no_key_room : {A : Type 0} (entry : ℕ) (key : ℤ) → None ≡ get_by (nat_cmp s) m → HasRoomForKey entry key (held_by_session s view) → A
  no_key_room entry key none room = absurd (false≢true (subst (HasRoomForKey entry key) (by_is None none) room))

  pub no_name_room : {A : Type 0} (name : List ℕ) → None ≡ get_by (nat_cmp s) m → HasRoomForName name (held_by_session s view) → A
  no_name_room name none room = absurd (false≢true (subst (HasRoomForName name) (by_is None none) room))

  pub not_there : {A : Type 0} → None ≡ get_by (nat_cmp s) m → IsSessionThere s view → A
  not_there none there = absurd (false≢true (sym (ap is_some (session_is None none)) ∙ there))

  -- a session that was found is written
  module _ (new : BTreeMap ℕ LocksOfSession) (v w : LocksOfSession) (there : Some v ≡ get_by (nat_cmp s) m) (writes : WritesThrough nat_cmp (nat_cmp s) m w new) where
    written : Written nat_cmp view new.entries s (Some w)
    written = subst (λ es. Written nat_cmp es new.entries s (Some w)) view_is (through nat_cmp m new s v w there writes)

    pub through_session : (P : LocksOfSession → LocksOfSession → Type 0) → P v w → OfSession s P view new.entries
    through_session P holds = of_session P view new.entries s (Some v) (Some w) (session_is (Some v) there) written holds

    pub through_is : held_by_session s new.entries ≡ w
    through_is = ap (λ o. unwrap_or o holds_nothing) written.here

  -- a session is put in, or taken out
  module _ (new : BTreeMap ℕ LocksOfSession) (p : Option LocksOfSession) (updates : UpdatesBy nat_cmp (nat_cmp s) m new p) where
    replaced : Written nat_cmp view new.entries s p
    replaced = subst (λ es. Written nat_cmp es new.entries s p) view_is (updated nat_cmp m new s p updates)

    pub taken : p ≡ None → OfSession s FreesAll view new.entries
    taken is = of_session FreesAll view new.entries s (find nat_cmp s view) p refl replaced (ap (λ o. unwrap_or o holds_nothing) is)

    pub put_same : None ≡ get_by (nat_cmp s) m → p ≡ Some holds_nothing → OfSession s SameHeld view new.entries
    put_same none is = of_session SameHeld view new.entries s None p (session_is None none) replaced (subst (SameHeld holds_nothing) (sym (ap (λ o. unwrap_or o holds_nothing) is)) (same_held holds_nothing))

    pub put_there : p ≡ Some holds_nothing → IsSessionThere s new.entries
    put_there is = ap is_some (replaced.here ∙ is)

-- one change behind another
pub then_same : (P Q R : LocksOfSession → LocksOfSession → Type 0) (s : ℕ) (old mid new : Sessions) → ((a b c : LocksOfSession) → P a b → Q b c → R a c) → OfSession s P old mid → OfSession s Q mid new → OfSession s R old new
then_same P Q R s old mid new both one two = record {
  here = both (held_by_session s old) (held_by_session s mid) (held_by_session s new) one.here two.here;
  others = λ r apart. two.others r apart ∙ one.others r apart;
}

-- ---- who is found

-- where none is found, no session passes the test
pub none_pass : (test : LocksOfSession → Bool) → test holds_nothing ≡ false → (es : Sessions) → first_that test es ≡ None → (s : ℕ) → test (held_by_session s es) ≡ false
none_pass test nothing [] none s = nothing
none_pass test nothing (e ∷ es) none s = known (test e.1)
    (λ yes. absurd (false≢true (ap is_some (sym none ∙ ap (λ b. cond b (Some e.0) (first_that test es)) yes))))
    (λ no. known (eq_by_cmp nat_cmp s e.0)
    (λ one. ap (λ b. test (unwrap_or (cond b (Some e.1) (find nat_cmp s es)) holds_nothing)) one ∙ no)
    (λ two. ap (λ b. test (unwrap_or (cond b (Some e.1) (find nat_cmp s es)) holds_nothing)) two ∙ none_pass test nothing es (sym (ap (λ b. cond b (Some e.0) (first_that test es)) no) ∙ none) s))

-- and no other does, where none of the others is found
pub no_other : (test : LocksOfSession → Bool) → test holds_nothing ≡ false → (es : Sessions) (s : ℕ) → first_that test (without nat_cmp s es) ≡ None → (r : ℕ) → nat_eq r s ≡ false → test (held_by_session r es) ≡ false
no_other test nothing es s none r two = ap (λ o. test (unwrap_or o holds_nothing)) (sym (find-without-other r s es two)) ∙ none_pass test nothing (without nat_cmp s es) none r

-- ---- one holder

one_is : (r s : ℕ) → nat_eq r s ≡ true → r ≡ s
one_is r s one = eqb-true r s one

-- a session that locks nothing more
pub one_stays : (P : LocksOfSession → LocksOfSession → Type 0) (s : ℕ) (old new : Sessions) → ((a b : LocksOfSession) → P a b → (e : ℕ) (k : ℤ) → locks_key e k b ≡ true → locks_key e k a ≡ true) → OfSession s P old new → OneHolder old → OneHolder new
one_stays P s old new back of one r q e k has also = one r q e k (was r has) (was q also)
  where
    was : (r : ℕ) → session_locks r e k new ≡ true → session_locks r e k old ≡ true
    was r has = known (nat_eq r s)
        (λ same. subst (λ q. session_locks q e k old ≡ true) (sym (one_is r s same)) (back (held_by_session s old) (held_by_session s new) of.here e k (subst (λ q. session_locks q e k new ≡ true) (one_is r s same) has)))
        (λ two. sym (ap (locks_key e k) (of.others r two)) ∙ has)

pub same_one : (a b : LocksOfSession) → SameHeld a b → (e : ℕ) (k : ℤ) → locks_key e k b ≡ true → locks_key e k a ≡ true
same_one a b same e k has = sym (same.keys e k) ∙ has

pub uses_one : (name : List ℕ) (a b : LocksOfSession) → UsesName name a b → (e : ℕ) (k : ℤ) → locks_key e k b ≡ true → locks_key e k a ≡ true
uses_one name a b uses e k has = sym (ap (λ (keys : List (ℕ × List (ℤ × Bool))). locks_key e k (record { keys = keys; names = [] })) uses.keys) ∙ has

pub holds_one : (name : List ℕ) (a b : LocksOfSession) → HoldsName name a b → (e : ℕ) (k : ℤ) → locks_key e k b ≡ true → locks_key e k a ≡ true
holds_one name a b holds e k has = sym (ap (λ (keys : List (ℕ × List (ℤ × Bool))). locks_key e k (record { keys = keys; names = [] })) holds.keys) ∙ has

pub frees_one : (a b : LocksOfSession) → FreesAll a b → (e : ℕ) (k : ℤ) → locks_key e k b ≡ true → locks_key e k a ≡ true
frees_one a b frees e k has = absurd (false≢true (sym (ap (locks_key e k) frees) ∙ has))

pub left : (a b : Bool) → (a && b) ≡ true → a ≡ true
left true b is = refl
left false b is = is

pub right : (a b : Bool) → (a && b) ≡ true → b ≡ true
right true b is = is
right false b is = absurd (false≢true is)

-- a session that locks a key whose lock no other has
pub one_more : (s entry : ℕ) (key : ℤ) (old new : Sessions) → locked_among s entry key old ≡ None → OfSession s (LocksEntryKey entry key) old new → OneHolder old → OneHolder new
one_more s entry key old new none of one r q e k has also = known (nat_eq r s)
    (λ r_is. known (nat_eq q s)
    (λ q_is. one_is r s r_is ∙ sym (one_is q s q_is))
    (λ q_not. sym (alone q r q_not r_is also has)))
    (λ r_not. known (nat_eq q s)
    (λ q_is. alone r q r_not q_is has also)
    (λ q_not. one r q e k (other r r_not has) (other q q_not also)))
  where
    other : (r : ℕ) → nat_eq r s ≡ false → session_locks r e k new ≡ true → session_locks r e k old ≡ true
    other r two has = sym (ap (locks_key e k) (of.others r two)) ∙ has

    -- another session and this one don't both have the lock
    alone : (r q : ℕ) → nat_eq r s ≡ false → nat_eq q s ≡ true → session_locks r e k new ≡ true → session_locks q e k new ≡ true → r ≡ q
    alone r q two same has also = known (nat_eq entry e && int_eq key k)
        (λ hit. absurd (false≢true (sym (no_other (locks_key e k) refl old s (subst (λ t. first_that t (without nat_cmp s old) ≡ None) (hit_is hit) none) r two) ∙ other r two has)))
        (λ miss. one r q e k (other r two has)
        (subst (λ q. session_locks q e k old ≡ true) (sym (one_is q s same))
        (sym (of.here.keys e k ∙ ap (λ b. b || session_locks s e k old) miss) ∙ subst (λ q. session_locks q e k new ≡ true) (one_is q s same) also)))
      where
        hit_is : (nat_eq entry e && int_eq key k) ≡ true → locks_key entry key ≡ locks_key e k
        hit_is hit = ap (λ e. locks_key e key) (eqb-true entry e (left (nat_eq entry e) (int_eq key k) hit)) ∙ ap (locks_key e) (int_exact key k (right (nat_eq entry e) (int_eq key k) hit))

-- ---- the invariant, after a session was written

module _ (m : BTreeMap ℕ LocksOfSession) (view : Sessions) (view_is : m.entries ≡ view) (s : ℕ) (one : OneHolder m.entries) (new : BTreeMap ℕ LocksOfSession) where
  pub kept_of : (P : LocksOfSession → LocksOfSession → Type 0) → ((a b : LocksOfSession) → P a b → (e : ℕ) (k : ℤ) → locks_key e k b ≡ true → locks_key e k a ≡ true) → OfSession s P view new.entries → IsOrdered nat_cmp new → IsOrdered nat_cmp new × OneHolder new.entries
  kept_of P back of ordered = (ordered, one_stays P s view new.entries back of (subst OneHolder view_is one))

  module _ (v w : LocksOfSession) (there : Some v ≡ get_by (nat_cmp s) m) (writes : WritesThrough nat_cmp (nat_cmp s) m w new) where
    pub kept_through : (P : LocksOfSession → LocksOfSession → Type 0) → ((a b : LocksOfSession) → P a b → (e : ℕ) (k : ℤ) → locks_key e k b ≡ true → locks_key e k a ≡ true) → P v w → IsOrdered nat_cmp new × OneHolder new.entries
    kept_through P back holds = kept_of P back (through_session m view view_is s new v w there writes P holds) writes.4

    pub kept_locked : (entry : ℕ) (key : ℤ) → locked_among s entry key view ≡ None → LocksEntryKey entry key v w → IsOrdered nat_cmp new × OneHolder new.entries
    kept_locked entry key none holds = (writes.4, one_more s entry key view new.entries none (through_session m view view_is s new v w there writes (LocksEntryKey entry key) holds) (subst OneHolder view_is one))

-- ---- who was found

first_is : (x : ℕ) → is_eq (nat_cmp x x) ≡ true
first_is x = ap is_eq (tied_itself nat_cmp_total x)

pub and_left : (a b : Bool) → T (a && b) → T a
and_left true b h = tt
and_left false b h = absurd h

pub and_right : (a b : Bool) → T (a && b) → T b
and_right true b h = h
and_right false b h = absurd h

pub below_none : {X : Type 0} (q : ℕ) (es : List (ℕ × X)) → T (below_all nat_cmp q es) → find nat_cmp q es ≡ None
below_none q [] h = refl
below_none q (e ∷ es) h = ap (λ b. cond b (Some e.1) (find nat_cmp q es)) (less_apart (nat_cmp q e.0) (and_left (is_lt (nat_cmp q e.0)) (below_all nat_cmp q es) h)) ∙ below_none q es (and_right (is_lt (nat_cmp q e.0)) (below_all nat_cmp q es) h)
  where
    less_apart : (o : Ordering) → T (is_lt o) → is_eq o ≡ false
    less_apart Less h = refl
    less_apart Equal h = absurd h
    less_apart Greater h = absurd h

some_first : (x y : ℕ) → Some x ≡ Some y → x ≡ y
some_first x y is = ap (λ o. unwrap_or o x) is

-- the session that is found passes the test
pub found_passes : (test : LocksOfSession → Bool) → test holds_nothing ≡ false → (es : Sessions) → T (is_sorted nat_cmp es) → (s : ℕ) → first_that test es ≡ Some s → test (held_by_session s es) ≡ true
found_passes test nothing [] sorted s is = absurd (false≢true (ap is_some is))
found_passes test nothing (e ∷ es) sorted s is = known (test e.1)
    (λ yes. subst (λ q. test (held_by_session q (e ∷ es)) ≡ true) (some_first e.0 s (sym (ap (λ b. cond b (Some e.0) (first_that test es)) yes) ∙ is))
    (ap (λ b. test (unwrap_or (cond b (Some e.1) (find nat_cmp e.0 es)) holds_nothing)) (first_is e.0) ∙ yes))
    (λ no. behind (found_passes test nothing es (and_right (below_all nat_cmp e.0 es) (is_sorted nat_cmp es) sorted) s (sym (ap (λ b. cond b (Some e.0) (first_that test es)) no) ∙ is)))
  where
    behind : test (held_by_session s es) ≡ true → test (held_by_session s (e ∷ es)) ≡ true
    behind passes = known (eq_by_cmp nat_cmp s e.0)
        (λ one. absurd (false≢true (sym nothing ∙ sym (ap (λ o. test (unwrap_or o holds_nothing)) (ap (λ q. find nat_cmp q es) (nat_exact s e.0 one) ∙ below_none e.0 es (and_left (below_all nat_cmp e.0 es) (is_sorted nat_cmp es) sorted))) ∙ passes)))
        (λ two. ap (λ b. test (unwrap_or (cond b (Some e.1) (find nat_cmp s es)) holds_nothing)) two ∙ passes)

-- who has the lock of a key
pub holder_is : (m : BTreeMap ℕ LocksOfSession) (view : Sessions) → m.entries ≡ view → IsOrdered nat_cmp m → (entry : ℕ) (key : ℤ) (o : Option ℕ) → o ≡ first_that (locks_key entry key) view → IsHolder o entry key view
holder_is m view view_is ordered entry key o first = record {
  someone = λ s some. found_passes (locks_key entry key) refl view (subst (λ es. T (is_sorted nat_cmp es)) view_is (in_order nat_cmp m.entries ordered)) s (sym first ∙ some);
  nobody = λ none s. none_pass (locks_key entry key) refl view (sym first ∙ none) s;
}
