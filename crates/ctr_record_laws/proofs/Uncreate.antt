-- An Uncreate: the entry is dead, and its item is gone.
use Rattle.std.proofs.Common.{◌≡◌, ◌⊎◌, ⊎_elim, inl, inr, ℕ, ◌+◌, ◌≤◌, Bool, true, cond, List, [], drop, refl, sym, ◌∙◌, ap, subst, arith}
use Rattle.std.proofs.lemmas.Bool.{false≢true, eq-eqb, eqb-true}
use Rattle.std.specs.List.{filter}
use Rattle.std.specs.Prelude.{◌==◌}
use Rattle.ctr_area.specs.Areas.{Title, Area}
use Rattle.ctr_area.specs.Changes.{with_title}
use Rattle.ctr_area.specs.Images.{is_committed_in, is_standing, is_live}
use Rattle.ctr_area.specs.Sound.{IsAmong, how_many, xids_in, AreNamed, IsSoundArea, IsOneOf, IsSchemaItem, all_undone, stands_for, is_creation, is_dropping}
use Rattle.ctr_area.specs.meta_Effects.{without_item}
use Rattle.ctr_area.specs.meta_Items.{is_wanted, is_item_by, left_out}
use Rattle.ctr_area.specs.meta_Tables.{Tables}
use Rattle.ctr_area.specs.meta_Wanted.TheVariants.{Creation}
use Rattle.ctr_record_laws.proofs.Members.{among_parts, bit}
use Rattle.ctr_area.specs.rec_SlogItem.{SlogItem}
use Rattle.ctr_area.specs.rec_SlogItem.TheVariants.{AllocOf, FreeOf, CreateOf, DropOf}
use Rattle.ctr_record_laws.proofs.Items.{the_one, taken_out, up_one, down_one, count_one, it_is_in, any_there, IsWithOne}
use Rattle.ctr_record_laws.proofs.Latest.{entry_of_item, create_isnt_drop, none_later, own_undone, others_same, owned_less, by_title, title_apart, titled_sound, live_below}
use Rattle.ctr_record_laws.proofs.Named.{cut_with}
use Rattle.ctr_record_laws.proofs.Undone.{undone_at, undone_dead, one_of_from, filter_among, counted_member}
use Rattle.ctr_record_laws.specs.Owed.{OwedByUncreate}
use Rattle.ctr_area.proofs.ctr_versions.Keys.{known}

module _ (counted : ℕ) (tables : Tables) (area : Area) (x e : ℕ) (sound : IsSoundArea counted tables area) (owed : OwedByUncreate tables x e) where
  abbrev items : List SlogItem
  items = tables.items

  abbrev less : List SlogItem
  less = left_out (Creation e) items

  abbrev i : SlogItem
  i = CreateOf x e

  abbrev live : List ℕ
  live = xids_in tables.opens

  abbrev committed : ℕ → Bool
  committed = is_committed_in tables

  by_x : is_item_by x i ≡ true
  by_x = eq-eqb x x refl

  in_items : IsAmong i items
  in_items = (filter_among (is_item_by x) i items (subst (IsAmong i) (sym owed.1) (the_one i owed.0 []))).0

  found : (j : SlogItem) × (is_wanted (Creation e) j ≡ true) × IsWithOne j less items
  found = taken_out (Creation e) items (any_there (Creation e) i items (eq-eqb e e refl) in_items)

  creation_is : (j : SlogItem) → is_wanted (Creation e) j ≡ true → IsAmong j items → j ≡ i
  creation_is (AllocOf y q) is in_ = absurd (false≢true is)
  creation_is (FreeOf q) is in_ = absurd (false≢true is)
  creation_is (CreateOf y f) is in_ =
      let same_f = eqb-true f e is in
      λ k. CreateOf ((sym (sound.names.creates y e (subst (λ f. IsAmong (CreateOf y f) items) same_f in_)).1 ∙ (sound.names.creates x e in_items).1) k) (same_f k)
  creation_is (DropOf y f) is in_ = absurd (false≢true is)

  one : IsWithOne i less items
  one = subst (λ j. IsWithOne j less items) (creation_is found.0 found.1 (it_is_in found.0 less items found.2)) found.2

  -- it is there once
  no_creation : (y : ℕ) → IsAmong (CreateOf y e) less → ⊥
  no_creation y in_ = twice (how_many (is_creation e) less) (how_many (is_creation e) items) (counted_member (is_creation e) (CreateOf y e) less (eq-eqb e e refl) in_)
      (count_one (is_creation e) i less items one ∙ ap (λ b. how_many (is_creation e) less + bit b) (eq-eqb e e refl)) (sound.names.once e).0
    where
      twice : (a b : ℕ) → 1 ≤ a → b ≡ a + 1 → b ≤ 1 → ⊥
      twice a b some is most = omega (arith, some, is, most)

  -- nobody has dropped it
  no_drop : (y : ℕ) → IsAmong (DropOf y e) less → ⊥
  no_drop y in_ =
      let was = up_one i less items one (DropOf y e) in_ in
      let dropper = (sound.names.drops y e was).1 in
      let by_owner = sound.names.of_one y x e e (inr was) (inl in_items) refl in
      ⊎_elim
      (λ before. sound.names.in_order one.front one.rest x y e one.more_is before)
      (λ later. none_later x i less items owed.0 one by_x (no_creation x) owed.1 (DropOf y e) later (ap (λ y. y == x) by_owner ∙ eq-eqb x x refl))
      (among_parts (DropOf y e) one.front one.rest (subst (IsAmong (DropOf y e)) one.less_is in_))

  abbrev dead : Title
  dead = record (area.title e) { state = 2 }

  abbrev after : Area
  after = with_title e dead area

  -- what is live was, and is another entry
  live_was : (f : ℕ) → is_live (after.title f) ≡ true → (f ≡ e → ⊥) × (after.title f ≡ area.title f)
  live_was f alive = known (f == e)
      (λ is. absurd (false≢true (ap (λ b. is_live (cond b dead (area.title f))) (sym is) ∙ alive)))
      (λ isnt. let apart : f ≡ e → ⊥ = λ is. false≢true (sym isnt ∙ eq-eqb f e is) in (apart, title_apart area e dead f apart))

  still_in : (z : SlogItem) → (z ≡ i → ⊥) → IsAmong z items → IsAmong z less
  still_in z isnt in_ = ⊎_elim (λ is. absurd (isnt is)) (λ there. there) (down_one i less items one z in_)

  names : AreNamed committed live less after.title
  names = record {
    creators = λ f lt alive. let was = live_was f alive in
        subst (λ (u : Title). (committed u.creator ≡ true) ⊎ (IsAmong u.creator live × IsAmong (CreateOf u.creator f) less)) (sym was.1)
        (⊎_elim (λ c. inl c) (λ open_. inr (open_.0, still_in (CreateOf (area.title f).creator f) (λ is. was.0 (ap entry_of_item is)) open_.1))
        (sound.names.creators f lt (subst (λ u. is_live u ≡ true) was.1 alive)));
    droppers = λ f lt alive. let was = live_was f alive in
        subst (λ (u : Title). (u.dropper ≡ 0) ⊎ ((committed u.dropper ≡ true) ⊎ (IsAmong u.dropper live × IsAmong (DropOf u.dropper f) less))) (sym was.1)
        (⊎_elim (λ z. inl z) (λ more. inr (⊎_elim (λ c. inl c) (λ open_. inr (open_.0, still_in (DropOf (area.title f).dropper f) (λ is. create_isnt_drop x (area.title f).dropper e f (sym is)) open_.1)) more))
        (sound.names.droppers f lt (subst (λ u. is_live u ≡ true) was.1 alive)));
    creates = λ y f in_. let apart : f ≡ e → ⊥ = λ is. no_creation y (subst (λ f. IsAmong (CreateOf y f) less) is in_) in
        subst (λ (u : Title). (is_live u ≡ true) × (u.creator ≡ y) × ((u.dropper ≡ 0) ⊎ (u.dropper ≡ y))) (sym (title_apart area e dead f apart)) (sound.names.creates y f (up_one i less items one (CreateOf y f) in_));
    drops = λ y f in_. let apart : f ≡ e → ⊥ = λ is. no_drop y (subst (λ f. IsAmong (DropOf y f) less) is in_) in
        subst (λ (u : Title). (is_live u ≡ true) × (u.dropper ≡ y)) (sym (title_apart area e dead f apart)) (sound.names.drops y f (up_one i less items one (DropOf y f) in_));
    once = λ f. let was = sound.names.once f in (
      fewer (how_many (is_creation f) less) (how_many (is_creation f) items) (bit (is_creation f i)) (count_one (is_creation f) i less items one) was.0,
      fewer (how_many (is_dropping f) less) (how_many (is_dropping f) items) (bit (is_dropping f i)) (count_one (is_dropping f) i less items one) was.1,
    );
    in_order = λ front rest y z f is in_. let cut_ = cut_with i (CreateOf y f) one.front one.rest front rest (sym one.less_is ∙ is) in
        sound.names.in_order cut_.0 cut_.1 y z f (one.more_is ∙ cut_.2) (cut_.3 (DropOf z f) in_);
    of_one = λ y z f g a b same_. sound.names.of_one y z f g (was_item y f a) (was_item z g b) (sym (same_name_at f) ∙ same_ ∙ same_name_at g);
    undoing = λ y k in_. known (x == y)
        (λ is. subst (λ y. IsOneOf (all_undone (drop k (filter (is_item_by y) less)) after.title) (stands_for committed y)) (eqb-true x y is)
        (let own = own_undone x i less items owed.0 one by_x (no_creation x) owed.1 area.title k in
        subst (λ t. IsOneOf t (stands_for committed x)) (sym own.1) (sound.names.undoing x own.0 (sound.owned.creates x e in_items))))
        (λ isnt. let same_items = others_same x i less items owed.0 one by_x (no_creation x) owed.1 y isnt in
        one_of_from (all_undone (drop k (filter (is_item_by y) items)) area.title) (all_undone (drop k (filter (is_item_by y) less)) after.title) (stands_for committed y) (stands_for committed y)
        (sound.names.undoing y k in_) (λ f lt alive counts. stood y k f same_items alive counts));
    standing = one_of_from area.title after.title (is_standing committed) (is_standing committed) sound.names.standing
        (λ f lt alive counts. let was = live_was f alive in (subst (λ u. is_live u ≡ true) was.1 alive, ap (λ (u : Title). u.name) was.1, subst (λ u. is_standing committed u ≡ true) was.1 counts));
  }
    where
      fewer : (a b c : ℕ) → b ≡ a + c → b ≤ 1 → a ≤ 1
      fewer a b c is most = omega (arith, is, most)

      was_item : (y f : ℕ) → IsSchemaItem y f less → IsSchemaItem y f items
      was_item y f (inl in_) = inl (up_one i less items one (CreateOf y f) in_)
      was_item y f (inr in_) = inr (up_one i less items one (DropOf y f) in_)

      same_name_at : (f : ℕ) → (after.title f).name ≡ (area.title f).name
      same_name_at = by_title area e dead (λ f u. u.name ≡ (area.title f).name) refl (λ f apart. refl)

      stood : (y k f : ℕ) → filter (is_item_by y) items ≡ filter (is_item_by y) less → is_live (all_undone (drop k (filter (is_item_by y) less)) after.title f) ≡ true
          → stands_for committed y (all_undone (drop k (filter (is_item_by y) less)) after.title f) ≡ true
          → (is_live (all_undone (drop k (filter (is_item_by y) items)) area.title f) ≡ true)
          × ((all_undone (drop k (filter (is_item_by y) less)) after.title f).name ≡ (all_undone (drop k (filter (is_item_by y) items)) area.title f).name)
          × (stands_for committed y (all_undone (drop k (filter (is_item_by y) items)) area.title f) ≡ true)
      stood y k f same_items alive counts =
          let D = drop k (filter (is_item_by y) less) in
          let same_list : all_undone (drop k (filter (is_item_by y) items)) area.title f ≡ all_undone D area.title f = ap (λ l. all_undone (drop k l) area.title f) same_items in
          known (f == e)
          (λ is. absurd (false≢true (sym (undone_dead D after.title f (ap (λ b. is_live (cond b dead (area.title f))) is)) ∙ alive)))
          (λ isnt. let same_at : all_undone D after.title f ≡ all_undone (drop k (filter (is_item_by y) items)) area.title f = undone_at D after.title area.title f (title_apart area e dead f (λ is. false≢true (sym isnt ∙ eq-eqb f e is))) ∙ sym same_list in
          (subst (λ u. is_live u ≡ true) same_at alive, ap (λ (u : Title). u.name) same_at, subst (λ u. stands_for committed y u ≡ true) same_at counts))

  pub uncreate_sound : IsSoundArea counted (without_item (Creation e) tables) after
  uncreate_sound = titled_sound area e dead counted tables (without_item (Creation e) tables) refl refl refl sound
      (live_below tables.next (area.title e) (sound.names.creates x e in_items).0 (sound.below.entries e))
      (owned_less counted live i less items area after one refl (λ q. refl) (λ l. refl) sound.owned) names
