-- What a look-up in a session's maps found, and what a write to it leaves.
use Rattle.std.proofs.Common.{◌≡◌, ℕ, ℤ, Bool, true, false, List, [], Option, Some, None, refl, sym, ◌∙◌, ap, subst}
use Rattle.std.specs.Prelude.{unwrap_or, is_some, ◌&&◌, ◌||◌}
use Rattle.std.specs.Ordering.{nat_cmp, int_cmp}
use Rattle.std.specs.BTreeMap.{BTreeMap, get_by, UpdatesBy, WritesThrough}
use Rattle.std.specs.FinMap.Entries.{find}
use Rattle.std.proofs.lemmas.Bool.{false≢true}
use Rattle.ctr_model.specs.Database.{name_cmp}
use Rattle.ctr_locks.specs.declared.held.NameHeld.{NameHeld}
use Rattle.ctr_locks.specs.Held.{LocksOfSession, not_held, keys_of, held_of_name, SameKeys, LocksOne, SameHeld, LocksEntryKey, UsesName, HoldsName, HasEntry, HasRoomForKey, HasRoomForName}
use Rattle.ctr_locks.proofs.Maps.{found, Written, updated, through}
use Rattle.ctr_locks.proofs.One.{entry_same, entry_locked, name_same, name_used, name_held}

abbrev pub inside : BTreeMap ℕ (List (ℤ × Bool)) → BTreeMap (List ℕ) NameHeld → LocksOfSession
inside entries names = record { keys = entries.entries; names = names.entries }

module _ (entries : BTreeMap ℕ (List (ℤ × Bool))) (names : BTreeMap (List ℕ) NameHeld) (view : LocksOfSession) (view_is : inside entries names ≡ view) where
  -- ---- of an entry
  module _ (entry : ℕ) where
    pub keys_are : (o : Option (List (ℤ × Bool))) → o ≡ get_by (nat_cmp entry) entries → keys_of entry view ≡ unwrap_or o []
    keys_are o is = ap (keys_of entry) (sym view_is) ∙ ap (λ o. unwrap_or o []) (found nat_cmp entries entry o is)

    pub entry_is : (o : Option (List (ℤ × Bool))) → o ≡ get_by (nat_cmp entry) entries → is_some (find nat_cmp entry view.keys) ≡ is_some o
    entry_is o is = ap (λ (h : LocksOfSession). is_some (find nat_cmp entry h.keys)) (sym view_is) ∙ ap is_some (found nat_cmp entries entry o is)

    pub no_entry : {A : Type 0} → None ≡ get_by (nat_cmp entry) entries → HasEntry entry view → A
    no_entry none there = absurd (false≢true (sym (entry_is None none) ∙ there))

    pub no_room : {A : Type 0} (key : ℤ) → None ≡ get_by (nat_cmp entry) entries → HasRoomForKey entry key view → A
    no_room key none room = absurd (false≢true (subst (λ keys. is_some (find int_cmp key keys) ≡ true) (keys_are None none) room))

    -- keys that were found are written
    module _ (new : BTreeMap ℕ (List (ℤ × Bool))) (v w : List (ℤ × Bool)) (there : Some v ≡ get_by (nat_cmp entry) entries) (writes : WritesThrough nat_cmp (nat_cmp entry) entries w new) where
      pub through_same : SameKeys v w → SameHeld view (inside new names)
      through_same same = subst (λ h. SameHeld h (inside new names)) view_is (entry_same (inside entries names) new.entries entry (Some v) w (found nat_cmp entries entry (Some v) there) (through nat_cmp entries new entry v w there writes) same)

      pub through_room : (key : ℤ) → is_some (find int_cmp key w) ≡ true → HasRoomForKey entry key (inside new names)
      through_room key room = ap (λ o. is_some (find int_cmp key (unwrap_or o []))) (through nat_cmp entries new entry v w there writes).here ∙ room

      pub through_locked : (key : ℤ) → LocksOne key v w → LocksEntryKey entry key view (inside new names)
      through_locked key one = subst (λ h. LocksEntryKey entry key h (inside new names)) view_is (entry_locked (inside entries names) new.entries entry key v w (found nat_cmp entries entry (Some v) there) (through nat_cmp entries new entry v w there writes) one)

    -- an entry without keys is put in
    pub entry_put : (new : BTreeMap ℕ (List (ℤ × Bool))) (w : List (ℤ × Bool)) → w ≡ [] → None ≡ get_by (nat_cmp entry) entries → UpdatesBy nat_cmp (nat_cmp entry) entries new (Some w) → SameHeld view (inside new names) × HasEntry entry (inside new names)
    entry_put new w empty none updates =
        let written : Written nat_cmp entries.entries new.entries entry (Some w) = updated nat_cmp entries new entry (Some w) updates in (
          subst (λ h. SameHeld h (inside new names)) view_is (entry_same (inside entries names) new.entries entry None w (found nat_cmp entries entry None none) written
              (subst (SameKeys []) (sym empty) (record { locked = λ k. refl; room = λ k room. room }))),
          ap is_some written.here,
        )

  -- ---- of a name
  module _ (name : List ℕ) where
    pub held_is : (o : Option NameHeld) → o ≡ get_by (name_cmp name) names → held_of_name name view ≡ unwrap_or o not_held
    held_is o is = ap (held_of_name name) (sym view_is) ∙ ap (λ o. unwrap_or o not_held) (found name_cmp names name o is)

    pub name_is : (o : Option NameHeld) → o ≡ get_by (name_cmp name) names → is_some (find name_cmp name view.names) ≡ is_some o
    name_is o is = ap (λ (h : LocksOfSession). is_some (find name_cmp name h.names)) (sym view_is) ∙ ap is_some (found name_cmp names name o is)

    pub no_name : {A : Type 0} → None ≡ get_by (name_cmp name) names → HasRoomForName name view → A
    no_name none there = absurd (false≢true (sym (name_is None none) ∙ there))

    module _ (new : BTreeMap (List ℕ) NameHeld) (v : NameHeld) (there : Some v ≡ get_by (name_cmp name) names) where
      pub through_used : WritesThrough name_cmp (name_cmp name) names (record v { used = true }) new → UsesName name view (inside entries new)
      through_used writes = subst (λ h. UsesName name h (inside entries new)) view_is (name_used (inside entries names) new.entries name v (found name_cmp names name (Some v) there) (through name_cmp names new name v (record v { used = true }) there writes))

      pub through_held : WritesThrough name_cmp (name_cmp name) names (record v { held = true }) new → HoldsName name view (inside entries new)
      through_held writes = subst (λ h. HoldsName name h (inside entries new)) view_is (name_held (inside entries names) new.entries name v (found name_cmp names name (Some v) there) (through name_cmp names new name v (record v { held = true }) there writes))

    -- a name of which it has nothing is put in
    pub name_put : (new : BTreeMap (List ℕ) NameHeld) (copy : List ℕ) → copy ≡ name → None ≡ get_by (name_cmp name) names → UpdatesBy name_cmp (name_cmp copy) names new (Some not_held) → SameHeld view (inside entries new) × HasRoomForName name (inside entries new)
    name_put new copy same none updates =
        let written : Written name_cmp names.entries new.entries name (Some not_held) = updated name_cmp names new name (Some not_held) (subst (λ n. UpdatesBy name_cmp (name_cmp n) names new (Some not_held)) same updates) in (
          subst (λ h. SameHeld h (inside entries new)) view_is (name_same (inside entries names) new.entries name (found name_cmp names name None none) written),
          ap is_some written.here,
        )

-- ---- who is kept off

pub held_first : (t : NameHeld) (schema : Bool) → t.held ≡ true → t.held ≡ (t.held || (schema && t.used))
held_first t schema on = on ∙ sym (ap (λ h. h || (schema && t.used)) on)

pub used_next : (t : NameHeld) (schema : Bool) → t.held ≡ false → schema ≡ true → t.used ≡ (t.held || (schema && t.used))
used_next t schema unheld on = sym ((λ i. unheld i || (on i && t.used)))

pub off_alone : (t : NameHeld) (schema : Bool) → t.held ≡ false → schema ≡ false → schema ≡ (t.held || (schema && t.used))
off_alone t schema unheld off = off ∙ sym ((λ i. unheld i || (off i && t.used)))

pub none_kept : (schema : Bool) → false ≡ (not_held.held || (schema && not_held.used))
none_kept true = refl
none_kept false = refl
