-- One session, after a key or a name of it was written.
use Rattle.std.proofs.Common.{◌≡◌, ℕ, ℤ, Bool, true, false, List, [], Option, Some, None, refl, sym, ◌∙◌, ap, subst}
use Rattle.std.specs.Prelude.{unwrap_or, is_some, ◌&&◌, ◌||◌, nat_eq}
use Rattle.std.specs.Ordering.{nat_cmp, int_cmp, int_eq, is_eq}
use Rattle.std.specs.Cmp.{unsigned_tied}
use Rattle.std.specs.Cmp.Lexicographic.{texts_ties}
use Rattle.std.specs.FinMap.Entries.{find}
use Rattle.ctr_model.specs.Database.{name_cmp}
use Rattle.ctr_model.proofs.Sessions.{known}
use Rattle.ctr_locks.specs.declared.held.NameHeld.{NameHeld}
use Rattle.ctr_locks.specs.Held.{LocksOfSession, not_held, is_key_locked, locks_key, SameKeys, LocksOne, SameHeld, LocksEntryKey, UsesName, HoldsName}
use Rattle.ctr_locks.proofs.Maps.{Written, int_exact, nat_exact, name_exact, at_key, carried, left_alike, made_true}

-- ---- the keys of an entry

pub key_locked : (old new : List (ℤ × Bool)) (key : ℤ) → Written int_cmp old new key (Some true) → LocksOne key old new
key_locked old new key is = record {
  locked = made_true int_cmp int_exact old new key (Some true) is (λ o. unwrap_or o false) refl;
  room = carried int_cmp int_exact old new key (Some true) is (λ o. is_some o ≡ true) (λ was. refl);
}

-- room for a key that wasn't there
pub key_room : (old new : List (ℤ × Bool)) (key : ℤ) → find int_cmp key old ≡ None → Written int_cmp old new key (Some false) → SameKeys old new
key_room old new key none is = record {
  locked = left_alike int_cmp int_exact old new key (Some false) is (λ o. unwrap_or o false) (sym (ap (λ o. unwrap_or o false) none));
  room = carried int_cmp int_exact old new key (Some false) is (λ o. is_some o ≡ true) (λ was. refl);
}

-- ---- the entries of a session

module _ (h : LocksOfSession) (new : List (ℕ × List (ℤ × Bool))) (entry : ℕ) where
  -- an entry with the same keys locked
  pub entry_same : (o : Option (List (ℤ × Bool))) (w : List (ℤ × Bool)) → find nat_cmp entry h.keys ≡ o → Written nat_cmp h.keys new entry (Some w) → SameKeys (unwrap_or o []) w → SameHeld h (record h { keys = new })
  entry_same o w was is same = record {
    keys = λ e k. left_alike nat_cmp nat_exact h.keys new entry (Some w) is (λ o. is_key_locked k (unwrap_or o [])) (same.locked k ∙ ap (λ o. is_key_locked k (unwrap_or o [])) (sym was)) e;
    uses = λ n. refl;
    holds = λ n. refl;
    key_room = λ e k. carried nat_cmp nat_exact h.keys new entry (Some w) is (λ o. is_some (find int_cmp k (unwrap_or o [])) ≡ true) (λ room. same.room k (subst (λ o. is_some (find int_cmp k (unwrap_or o [])) ≡ true) was room)) e;
    name_room = λ n room. room;
  }

  -- one key more of it is locked
  pub entry_locked : (key : ℤ) (v w : List (ℤ × Bool)) → find nat_cmp entry h.keys ≡ Some v → Written nat_cmp h.keys new entry (Some w) → LocksOne key v w → LocksEntryKey entry key h (record h { keys = new })
  entry_locked key v w was is one = record {
    keys = λ e k. known (is_eq (nat_cmp entry e))
        (λ tied. ap (λ o. is_key_locked k (unwrap_or o [])) (at_key nat_cmp nat_exact h.keys new entry (Some w) is e tied) ∙ one.locked k
        ∙ ap (λ b. (b && int_eq key k) || is_key_locked k v) (sym tied ∙ unsigned_tied entry e)
        ∙ ap (λ o. (nat_eq entry e && int_eq key k) || is_key_locked k (unwrap_or o [])) (sym was ∙ ap (λ q. find nat_cmp q h.keys) (nat_exact entry e tied)))
        (λ apart. ap (λ o. is_key_locked k (unwrap_or o [])) (is.others e apart)
        ∙ ap (λ b. (b && int_eq key k) || locks_key e k h) (sym apart ∙ unsigned_tied entry e));
    room = λ e k. carried nat_cmp nat_exact h.keys new entry (Some w) is (λ o. is_some (find int_cmp k (unwrap_or o [])) ≡ true) (λ room. one.room k (subst (λ o. is_some (find int_cmp k (unwrap_or o [])) ≡ true) was room)) e;
    names = refl;
  }

-- ---- the names of a session

module _ (h : LocksOfSession) (new : List (List ℕ × NameHeld)) (name : List ℕ) where
  -- room for a name that wasn't there
  pub name_same : find name_cmp name h.names ≡ None → Written name_cmp h.names new name (Some not_held) → SameHeld h (record h { names = new })
  name_same none is = record {
    keys = λ e k. refl;
    uses = left_alike name_cmp name_exact h.names new name (Some not_held) is (λ o. (unwrap_or o not_held).used) (sym (ap (λ o. (unwrap_or o not_held).used) none));
    holds = left_alike name_cmp name_exact h.names new name (Some not_held) is (λ o. (unwrap_or o not_held).held) (sym (ap (λ o. (unwrap_or o not_held).held) none));
    key_room = λ e k room. room;
    name_room = carried name_cmp name_exact h.names new name (Some not_held) is (λ o. is_some o ≡ true) (λ was. refl);
  }

  module _ (v : NameHeld) (was : find name_cmp name h.names ≡ Some v) where
    pub name_used : Written name_cmp h.names new name (Some (record v { used = true })) → UsesName name h (record h { names = new })
    name_used is =
        let w : NameHeld = record v { used = true } in
        record {
          uses = λ n. made_true name_cmp name_exact h.names new name (Some w) is (λ o. (unwrap_or o not_held).used) refl n ∙ ap (λ b. b || (unwrap_or (find name_cmp n h.names) not_held).used) (sym (texts_ties name n));
          holds = left_alike name_cmp name_exact h.names new name (Some w) is (λ o. (unwrap_or o not_held).held) (sym (ap (λ o. (unwrap_or o not_held).held) was));
          room = carried name_cmp name_exact h.names new name (Some w) is (λ o. is_some o ≡ true) (λ was. refl);
          keys = refl;
        }

    pub name_held : Written name_cmp h.names new name (Some (record v { held = true })) → HoldsName name h (record h { names = new })
    name_held is =
        let w : NameHeld = record v { held = true } in
        record {
          uses = left_alike name_cmp name_exact h.names new name (Some w) is (λ o. (unwrap_or o not_held).used) (sym (ap (λ o. (unwrap_or o not_held).used) was));
          holds = λ n. made_true name_cmp name_exact h.names new name (Some w) is (λ o. (unwrap_or o not_held).held) refl n ∙ ap (λ b. b || (unwrap_or (find name_cmp n h.names) not_held).held) (sym (texts_ties name n));
          room = carried name_cmp name_exact h.names new name (Some w) is (λ o. is_some o ≡ true) (λ was. refl);
          keys = refl;
        }

-- one change behind another
pub same_both : (old mid new : LocksOfSession) → SameHeld old mid → SameHeld mid new → SameHeld old new
same_both old mid new one two = record {
  keys = λ e k. two.keys e k ∙ one.keys e k;
  uses = λ n. two.uses n ∙ one.uses n;
  holds = λ n. two.holds n ∙ one.holds n;
  key_room = λ e k room. two.key_room e k (one.key_room e k room);
  name_room = λ n room. two.name_room n (one.name_room n room);
}
