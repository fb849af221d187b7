-- An Undrop: nobody has dropped the table, and the item is gone.
use Rattle.std.proofs.Common.{◌≡◌, ◌⊎◌, ⊎_elim, inl, inr, ℕ, ◌+◌, ◌<◌, ◌≤◌, Bool, true, List, [], drop, refl, sym, ◌∙◌, ap, subst, arith}
use Rattle.std.proofs.lemmas.Bool.{false≢true, eq-eqb, eqb-true, and_parts, and_from}
use Rattle.std.specs.List.{filter}
use Rattle.std.specs.Prelude.{◌==◌, ◌||◌, ◌&&◌, not}
use Rattle.ctr_area.specs.Areas.{Title, Area}
use Rattle.ctr_area.specs.Changes.{with_title}
use Rattle.ctr_area.specs.Images.{is_committed_in, is_standing, is_live}
use Rattle.ctr_area.specs.Sound.{IsAmong, how_many, xids_in, AreNamed, IsSoundArea, IsOneOf, IsSchemaItem, all_undone, stands_for, is_creation, is_dropping}
use Rattle.ctr_area.specs.meta_Effects.{without_item}
use Rattle.ctr_area.specs.meta_Items.{is_wanted, is_item_by, left_out}
use Rattle.ctr_area.specs.meta_Tables.{Tables}
use Rattle.ctr_area.specs.meta_Wanted.TheVariants.{Dropping}
use Rattle.ctr_record_laws.proofs.Members.{bit}
use Rattle.ctr_area.specs.rec_SlogItem.{SlogItem}
use Rattle.ctr_area.specs.rec_SlogItem.TheVariants.{AllocOf, FreeOf, CreateOf, DropOf}
use Rattle.ctr_record_laws.proofs.Items.{the_one, taken_out, up_one, down_one, count_one, it_is_in, any_there, IsWithOne}
use Rattle.ctr_record_laws.proofs.Latest.{entry_of_item, create_isnt_drop, own_undone, others_same, owned_less, by_title, title_here, title_apart, titled_sound, dropper_alone, others_apart, live_below, live_open, unseen_drop}
use Rattle.ctr_record_laws.proofs.Named.{cut_with}
use Rattle.ctr_record_laws.proofs.Undone.{undone_at, undone_apart, one_of_from, filter_among, drop_among, counted_member}
use Rattle.ctr_record_laws.specs.Owed.{OwedByUndrop}
use Rattle.ctr_area.proofs.ctr_versions.Keys.{known}

module _ (counted : ℕ) (tables : Tables) (area : Area) (x e : ℕ) (sound : IsSoundArea counted tables area) (owed : OwedByUndrop tables x e) where
  abbrev items : List SlogItem
  items = tables.items

  abbrev less : List SlogItem
  less = left_out (Dropping e) items

  abbrev i : SlogItem
  i = DropOf x e

  abbrev live : List ℕ
  live = xids_in tables.opens

  abbrev committed : ℕ → Bool
  committed = is_committed_in tables

  by_x : is_item_by x i ≡ true
  by_x = eq-eqb x x refl

  in_items : IsAmong i items
  in_items = (filter_among (is_item_by x) i items (subst (IsAmong i) (sym owed.1) (the_one i owed.0 []))).0

  found : (j : SlogItem) × (is_wanted (Dropping e) j ≡ true) × IsWithOne j less items
  found = taken_out (Dropping e) items (any_there (Dropping e) i items (eq-eqb e e refl) in_items)

  dropping_is : (j : SlogItem) → is_wanted (Dropping e) j ≡ true → IsAmong j items → j ≡ i
  dropping_is (AllocOf y q) is in_ = absurd (false≢true is)
  dropping_is (FreeOf q) is in_ = absurd (false≢true is)
  dropping_is (CreateOf y f) is in_ = absurd (false≢true is)
  dropping_is (DropOf y f) is in_ =
      let same_f = eqb-true f e is in
      λ k. DropOf ((sym (sound.names.drops y e (subst (λ f. IsAmong (DropOf y f) items) same_f in_)).1 ∙ (sound.names.drops x e in_items).1) k) (same_f k)

  one : IsWithOne i less items
  one = subst (λ j. IsWithOne j less items) (dropping_is found.0 found.1 (it_is_in found.0 less items found.2)) found.2

  -- it is there once
  no_drop : (y : ℕ) → IsAmong (DropOf y e) less → ⊥
  no_drop y in_ = twice (how_many (is_dropping e) less) (how_many (is_dropping e) items) (counted_member (is_dropping e) (DropOf y e) less (eq-eqb e e refl) in_)
      (count_one (is_dropping e) i less items one ∙ ap (λ b. how_many (is_dropping e) less + bit b) (eq-eqb e e refl)) (sound.names.once e).1
    where
      twice : (a b : ℕ) → 1 ≤ a → b ≡ a + 1 → b ≤ 1 → ⊥
      twice a b some is most = omega (arith, some, is, most)

  abbrev undropped : Title
  undropped = record (area.title e) { dropper = 0 }

  abbrev after : Area
  after = with_title e undropped area

  still_in : (z : SlogItem) → (z ≡ i → ⊥) → IsAmong z items → IsAmong z less
  still_in z isnt in_ = ⊎_elim (λ is. absurd (isnt is)) (λ there. there) (down_one i less items one z in_)

  was_in : (z : SlogItem) → IsAmong z less → IsAmong z items
  was_in = up_one i less items one

  x_live : IsAmong x live
  x_live = sound.owned.drops x e in_items

  dropper_is : (area.title e).dropper ≡ x
  dropper_is = (sound.names.drops x e in_items).1

  -- by whoever else looks the table isn't dropped either way
  as_before : (y : ℕ) → (x ≡ y → ⊥) → stands_for committed y undropped ≡ true → stands_for committed y (area.title e) ≡ true
  as_before y apart counts =
      and_from (committed (area.title e).creator || ((area.title e).creator == y)) (not (committed (area.title e).dropper || ((area.title e).dropper == y)))
      (and_parts (committed (area.title e).creator || ((area.title e).creator == y)) (not (committed 0 || (0 == y))) counts).0
      (ap (λ d. not (committed d || (d == y))) dropper_is ∙ unseen_drop committed y x (live_open counted tables area sound x x_live) apart)

  names : AreNamed committed live less after.title
  names = record {
    creators = λ f lt alive. subst (λ y. (committed y ≡ true) ⊎ (IsAmong y live × IsAmong (CreateOf y f) less)) (sym (dropper_alone area e 0 f).2)
        (⊎_elim (λ c. inl c) (λ open_. inr (open_.0, still_in (CreateOf (area.title f).creator f) (λ is. create_isnt_drop (area.title f).creator x f e is) open_.1))
        (sound.names.creators f lt (sym (dropper_alone area e 0 f).0 ∙ alive)));
    droppers = λ f lt alive. by_title area e undropped (λ f u. (is_live (area.title f) ≡ true) × (f < 32) → (u.dropper ≡ 0) ⊎ ((committed u.dropper ≡ true) ⊎ (IsAmong u.dropper live × IsAmong (DropOf u.dropper f) less)))
        (λ its. inl refl)
        (λ f apart its. ⊎_elim (λ z. inl z) (λ more. inr (⊎_elim (λ c. inl c) (λ open_. inr (open_.0, still_in (DropOf (area.title f).dropper f) (λ is. apart (ap entry_of_item is)) open_.1)) more))
        (sound.names.droppers f its.1 its.0)) f (sym (dropper_alone area e 0 f).0 ∙ alive, lt);
    creates = λ y f in_. by_title area e undropped (λ f u. IsAmong (CreateOf y f) items → (is_live u ≡ true) × (u.creator ≡ y) × ((u.dropper ≡ 0) ⊎ (u.dropper ≡ y)))
        (λ was. let its = sound.names.creates y e was in (its.0, its.1, inl refl)) (λ f apart was. sound.names.creates y f was) f (was_in (CreateOf y f) in_);
    drops = λ y f in_. let apart : f ≡ e → ⊥ = λ is. no_drop y (subst (λ f. IsAmong (DropOf y f) less) is in_) in
        subst (λ (u : Title). (is_live u ≡ true) × (u.dropper ≡ y)) (sym (title_apart area e undropped f apart)) (sound.names.drops y f (was_in (DropOf y f) in_));
    once = λ f. let was = sound.names.once f in (
      fewer (how_many (is_creation f) less) (how_many (is_creation f) items) (bit (is_creation f i)) (count_one (is_creation f) i less items one) was.0,
      fewer (how_many (is_dropping f) less) (how_many (is_dropping f) items) (bit (is_dropping f i)) (count_one (is_dropping f) i less items one) was.1,
    );
    in_order = λ front rest y z f is in_. let cut_ = cut_with i (CreateOf y f) one.front one.rest front rest (sym one.less_is ∙ is) in
        sound.names.in_order cut_.0 cut_.1 y z f (one.more_is ∙ cut_.2) (cut_.3 (DropOf z f) in_);
    of_one = λ y z f g a b same_. sound.names.of_one y z f g (was_item y f a) (was_item z g b) (sym (dropper_alone area e 0 f).1 ∙ same_ ∙ (dropper_alone area e 0 g).1);
    undoing = λ y k in_. known (x == y)
        (λ is. subst (λ y. IsOneOf (all_undone (drop k (filter (is_item_by y) less)) after.title) (stands_for committed y)) (eqb-true x y is)
        (let own = own_undone x i less items owed.0 one by_x (no_drop x) owed.1 area.title k in
        subst (λ t. IsOneOf t (stands_for committed x)) (sym own.1) (sound.names.undoing x own.0 x_live)))
        (λ isnt. let same_items = others_same x i less items owed.0 one by_x (no_drop x) owed.1 y isnt in
        one_of_from (all_undone (drop k (filter (is_item_by y) items)) area.title) (all_undone (drop k (filter (is_item_by y) less)) after.title) (stands_for committed y) (stands_for committed y)
        (sound.names.undoing y k in_) (λ f lt alive counts. stood y k f (λ is. false≢true (sym isnt ∙ eq-eqb x y is)) same_items alive counts));
    standing = one_of_from area.title after.title (is_standing committed) (is_standing committed) sound.names.standing
        (λ f lt alive counts. (
          sym (dropper_alone area e 0 f).0 ∙ alive,
          (dropper_alone area e 0 f).1,
          by_title area e undropped (λ f u. is_standing committed u ≡ true → is_standing committed (area.title f) ≡ true)
              (λ now. and_from (is_live (area.title e)) (committed (area.title e).creator && not (committed (area.title e).dropper)) (and_parts (is_live (area.title e)) (committed (area.title e).creator && true) now).0
              (and_from (committed (area.title e).creator) (not (committed (area.title e).dropper)) (and_parts (committed (area.title e).creator) true (and_parts (is_live (area.title e)) (committed (area.title e).creator && true) now).1).0
              (ap (λ d. not (committed d)) dropper_is ∙ ap not (live_open counted tables area sound x x_live))))
              (λ f apart now. now) f counts,
        ));
  }
    where
      fewer : (a b c : ℕ) → b ≡ a + c → b ≤ 1 → a ≤ 1
      fewer a b c is most = omega (arith, is, most)

      was_item : (y f : ℕ) → IsSchemaItem y f less → IsSchemaItem y f items
      was_item y f (inl in_) = inl (was_in (CreateOf y f) in_)
      was_item y f (inr in_) = inr (was_in (DropOf y f) in_)

      stood : (y k f : ℕ) → (x ≡ y → ⊥) → filter (is_item_by y) items ≡ filter (is_item_by y) less → is_live (all_undone (drop k (filter (is_item_by y) less)) after.title f) ≡ true
          → stands_for committed y (all_undone (drop k (filter (is_item_by y) less)) after.title f) ≡ true
          → (is_live (all_undone (drop k (filter (is_item_by y) items)) area.title f) ≡ true)
          × ((all_undone (drop k (filter (is_item_by y) less)) after.title f).name ≡ (all_undone (drop k (filter (is_item_by y) items)) area.title f).name)
          × (stands_for committed y (all_undone (drop k (filter (is_item_by y) items)) area.title f) ≡ true)
      stood y k f apart same_items alive counts =
          let D = drop k (filter (is_item_by y) less) in
          let same_list : (g : ℕ) → all_undone (drop k (filter (is_item_by y) items)) area.title g ≡ all_undone D area.title g = λ g. ap (λ l. all_undone (drop k l) area.title g) same_items in
          let none : (z : SlogItem) → IsAmong z D → ((w : ℕ) → z ≡ CreateOf w e → ⊥) × ((w : ℕ) → z ≡ DropOf w e → ⊥) =
          λ z in_. let by_y = filter_among (is_item_by y) z less (drop_among z k (filter (is_item_by y) less) in_) in others_apart x e items (λ w in_. sound.names.of_one x w e e (inr in_items) in_ refl) y apart z (was_in z by_y.0) by_y.1 in
          let here_now : all_undone D after.title e ≡ undropped = undone_apart D after.title e (λ w in_. (none (CreateOf w e) in_).0 w refl) (λ w in_. (none (DropOf w e) in_).1 w refl) ∙ title_here area e undropped in
          let here_was : all_undone D area.title e ≡ area.title e = undone_apart D area.title e (λ w in_. (none (CreateOf w e) in_).0 w refl) (λ w in_. (none (DropOf w e) in_).1 w refl) in
          known (f == e)
          (λ is. let same_f = eqb-true f e is in
          let now : all_undone D after.title f ≡ undropped = ap (all_undone D after.title) same_f ∙ here_now in
          let was : all_undone (drop k (filter (is_item_by y) items)) area.title f ≡ area.title e = same_list f ∙ ap (all_undone D area.title) same_f ∙ here_was in (
            ap is_live was ∙ sym (ap is_live now) ∙ alive,
            ap (λ (u : Title). u.name) now ∙ sym (ap (λ (u : Title). u.name) was),
            ap (stands_for committed y) was ∙ as_before y apart (sym (ap (stands_for committed y) now) ∙ counts),
          ))
          (λ isnt. let same_at : all_undone D after.title f ≡ all_undone (drop k (filter (is_item_by y) items)) area.title f = undone_at D after.title area.title f (title_apart area e undropped f (λ is. false≢true (sym isnt ∙ eq-eqb f e is))) ∙ sym (same_list f) in
          (subst (λ u. is_live u ≡ true) same_at alive, ap (λ (u : Title). u.name) same_at, subst (λ u. stands_for committed y u ≡ true) same_at counts))

  pub undrop_sound : IsSoundArea counted (without_item (Dropping e) tables) after
  undrop_sound =
      let below = live_below tables.next (area.title e) (sound.names.drops x e in_items).0 (sound.below.entries e) in
      titled_sound area e undropped counted tables (without_item (Dropping e) tables) refl refl refl sound (below.0, above below.0)
      (owned_less counted live i less items area after one refl (λ q. refl) (λ l. refl) sound.owned) names
    where
      above : (area.title e).creator < tables.next → 0 < tables.next
      above lt = omega (arith, lt)
