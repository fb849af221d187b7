-- A Drop: the transaction has dropped the table, and an item says so.
use Rattle.std.proofs.Common.{◌≡◌, ◌⊎◌, ⊎_elim, inl, inr, ℕ, ◌+◌, ◌<◌, ◌≤◌, Bool, true, false, cond, List, [], ◌∷◌, ◌++◌, drop, refl, sym, ◌∙◌, ap, subst, arith}
use Rattle.std.proofs.lemmas.Bool.{false≢true, eq-eqb, eqb-true, ne_eqb, and_parts, and_from}
use Rattle.std.proofs.lemmas.List.{append-nil}
use Rattle.std.specs.List.{filter}
use Rattle.std.specs.Prelude.{◌==◌, ◌||◌, ◌&&◌, not}
use Rattle.ctr_area.specs.Areas.{Title, Area}
use Rattle.ctr_area.specs.Changes.{with_title}
use Rattle.ctr_area.specs.Images.{is_committed_in, is_standing, is_live}
use Rattle.ctr_area.specs.Sound.{IsAmong, how_many, xids_in, AreNamed, IsSoundArea, IsOneOf, IsSchemaItem, all_undone, undone, stands_for, is_creation, is_dropping}
use Rattle.ctr_area.specs.meta_Effects.{with_item}
use Rattle.ctr_area.specs.meta_Items.{is_item_by}
use Rattle.ctr_area.specs.meta_Tables.{Tables}
use Rattle.ctr_record_laws.proofs.Heads.{listed_drawn}
use Rattle.ctr_record_laws.proofs.Members.{bit}
use Rattle.ctr_record_laws.proofs.Xids.{in_among}
use Rattle.ctr_area.specs.rec_SlogItem.{SlogItem}
use Rattle.ctr_area.specs.rec_SlogItem.TheVariants.{AllocOf, FreeOf, CreateOf, DropOf}
use Rattle.ctr_record_laws.proofs.Items.{added, up_one, down_one, count_one, it_is_in, IsWithOne}
use Rattle.ctr_record_laws.proofs.Latest.{entry_of_item, xid_of_item, create_isnt_drop, owned_and_one, by_title, title_here, title_apart, titled_sound, dropper_alone, others_apart, live_below, live_some, live_open, unseen_drop}
use Rattle.ctr_record_laws.proofs.Undone.{undone_at, undone_apart, undone_last, one_of_from, filter_apart, filter_there, filter_among, drop_among, last_dropped, cut_end, uncounted}
use Rattle.ctr_record_laws.specs.Owed.{OwedByDrop}
use Rattle.ctr_area.proofs.ctr_versions.Keys.{known}

module _ (counted : ℕ) (tables : Tables) (area : Area) (x e : ℕ) (sound : IsSoundArea counted tables area) (owed : OwedByDrop tables area x e) where
  abbrev items : List SlogItem
  items = tables.items

  abbrev i : SlogItem
  i = DropOf x e

  abbrev more : List SlogItem
  more = items ++ i ∷ []

  abbrev live : List ℕ
  live = xids_in tables.opens

  abbrev committed : ℕ → Bool
  committed = is_committed_in tables

  abbrev mine : List SlogItem
  mine = filter (is_item_by x) items

  one : IsWithOne i items more
  one = added i items

  x_live : IsAmong x live
  x_live = in_among x tables.opens owed.is_open

  x_open : committed x ≡ false
  x_open = live_open counted tables area sound x x_live

  abbrev dropped : Title
  dropped = record (area.title e) { dropper = x }

  abbrev after : Area
  after = with_title e dropped area

  -- no item says that it is dropped
  no_drop : (y : ℕ) → IsAmong (DropOf y e) items → ⊥
  no_drop y in_ = zero_ y (live_some counted tables area sound y (sound.owned.drops y e in_)) (sym (sound.names.drops y e in_).1 ∙ owed.undropped)
    where
      zero_ : (y : ℕ) → 0 < y → y ≡ 0 → ⊥
      zero_ y lt is = omega (arith, lt, is)

  grown : (z : SlogItem) → IsAmong z items → IsAmong z more
  grown = up_one i items more one

  as_before : (y : ℕ) → 0 < y → stands_for committed y dropped ≡ true → stands_for committed y (area.title e) ≡ true
  as_before y some counts =
      and_from (committed (area.title e).creator || ((area.title e).creator == y)) (not (committed (area.title e).dropper || ((area.title e).dropper == y)))
      (and_parts (committed (area.title e).creator || ((area.title e).creator == y)) (not (committed x || (x == y))) counts).0
      (ap (λ d. not (committed d || (d == y))) owed.undropped ∙ unseen_drop committed y 0 refl (λ z. zero_ some (sym z)))
    where
      zero_ : 0 < y → y ≡ 0 → ⊥
      zero_ lt is = omega (arith, lt, is)

  -- the drop undone
  back : (f : ℕ) → undone i after.title f ≡ area.title f
  back f = known (f == e)
      (λ is. ap (λ b. cond b (record (after.title e) { dropper = 0 }) (after.title f)) is ∙ ap (λ (u : Title). record u { dropper = 0 }) (title_here area e dropped)
      ∙ (λ k. record (area.title e) { dropper = sym owed.undropped k }) ∙ ap area.title (sym (eqb-true f e is)))
      (λ isnt. ap (λ b. cond b (record (after.title e) { dropper = 0 }) (after.title f)) isnt ∙ title_apart area e dropped f (λ is. false≢true (sym isnt ∙ eq-eqb f e is)))

  names : AreNamed committed live more after.title
  names = record {
    creators = λ f lt alive. subst (λ y. (committed y ≡ true) ⊎ (IsAmong y live × IsAmong (CreateOf y f) more)) (sym (dropper_alone area e x f).2)
        (⊎_elim (λ c. inl c) (λ open_. inr (open_.0, grown (CreateOf (area.title f).creator f) open_.1)) (sound.names.creators f lt (sym (dropper_alone area e x f).0 ∙ alive)));
    droppers = λ f lt alive. by_title area e dropped (λ f u. (is_live (area.title f) ≡ true) × (f < 32) → (u.dropper ≡ 0) ⊎ ((committed u.dropper ≡ true) ⊎ (IsAmong u.dropper live × IsAmong (DropOf u.dropper f) more)))
        (λ its. inr (inr (x_live, it_is_in i items more one)))
        (λ f apart its. ⊎_elim (λ z. inl z) (λ more_. inr (⊎_elim (λ c. inl c) (λ open_. inr (open_.0, grown (DropOf (area.title f).dropper f) open_.1)) more_)) (sound.names.droppers f its.1 its.0)) f (sym (dropper_alone area e x f).0 ∙ alive, lt);
    creates = λ y f in_. by_title area e dropped (λ f u. IsAmong (CreateOf y f) items → (is_live u ≡ true) × (u.creator ≡ y) × ((u.dropper ≡ 0) ⊎ (u.dropper ≡ y)))
        (λ was. let its = sound.names.creates y e was in (its.0, its.1, inr (sym (owed.alone y e (inl was) refl)))) (λ f apart was. sound.names.creates y f was) f
        (⊎_elim (λ is. absurd (create_isnt_drop y x f e is)) (λ was. was) (down_one i items more one (CreateOf y f) in_));
    drops = λ y f in_. ⊎_elim
        (λ is. subst (λ f. (is_live (after.title f) ≡ true) × ((after.title f).dropper ≡ y)) (sym (ap entry_of_item is))
        (subst (λ (u : Title). (is_live u ≡ true) × (u.dropper ≡ y)) (sym (title_here area e dropped)) (owed.live, sym (ap xid_of_item is))))
        (λ was. subst (λ (u : Title). (is_live u ≡ true) × (u.dropper ≡ y)) (sym (title_apart area e dropped f (λ is. no_drop y (subst (λ f. IsAmong (DropOf y f) items) is was)))) (sound.names.drops y f was))
        (down_one i items more one (DropOf y f) in_);
    once = λ f. let was = sound.names.once f in
        (subst (λ n. n ≤ 1) (sym (count_one (is_creation f) i items more one ∙ plain (how_many (is_creation f) items))) was.0, one_dropping f was.1);
    in_order = λ front rest y z f is in_. ⊎_elim (λ last. create_isnt_drop y x f e last.0) (λ cut_. sound.names.in_order front cut_.0 y z f cut_.1 in_) (cut_end i (CreateOf y f) items front rest is);
    of_one = λ y z f g a b same_. same_owner y z f g a b (sym (dropper_alone area e x f).1 ∙ same_ ∙ (dropper_alone area e x g).1);
    undoing = λ y k in_. known (x == y)
        (λ is. subst (λ y. IsOneOf (all_undone (drop k (filter (is_item_by y) more)) after.title) (stands_for committed y)) (eqb-true x y is) (own k))
        (λ isnt. let same_items : filter (is_item_by y) more ≡ filter (is_item_by y) items = filter_apart (is_item_by y) i items [] isnt ∙ ap (filter (is_item_by y)) (append-nil items) in
        one_of_from (all_undone (drop k (filter (is_item_by y) items)) area.title) (all_undone (drop k (filter (is_item_by y) more)) after.title) (stands_for committed y) (stands_for committed y)
        (sound.names.undoing y k in_) (λ f lt alive counts. stood y k f (λ is. false≢true (sym isnt ∙ eq-eqb x y is)) (live_some counted tables area sound y in_) same_items alive counts));
    standing = one_of_from area.title after.title (is_standing committed) (is_standing committed) sound.names.standing
        (λ f lt alive counts. (
          sym (dropper_alone area e x f).0 ∙ alive,
          (dropper_alone area e x f).1,
          by_title area e dropped (λ f u. is_standing committed u ≡ true → is_standing committed (area.title f) ≡ true)
              (λ now. let parts = and_parts (is_live (area.title e)) (committed (area.title e).creator && not (committed x)) now in
              and_from (is_live (area.title e)) (committed (area.title e).creator && not (committed (area.title e).dropper)) parts.0
              (and_from (committed (area.title e).creator) (not (committed (area.title e).dropper)) (and_parts (committed (area.title e).creator) (not (committed x)) parts.1).0 (ap (λ d. not (committed d)) owed.undropped)))
              (λ f apart now. now) f counts,
        ));
  }
    where
      plain : (n : ℕ) → n + 0 ≡ n
      plain n = omega arith

      one_dropping : (f : ℕ) → how_many (is_dropping f) items ≤ 1 → how_many (is_dropping f) more ≤ 1
      one_dropping f was = known (e == f)
          (λ is. first (how_many (is_dropping f) more) (how_many (is_dropping f) items) (count_one (is_dropping f) i items more one ∙ ap (λ b. how_many (is_dropping f) items + bit b) is)
          (uncounted (is_dropping f) items (λ z in_. none z f (eqb-true e f is) in_)))
          (λ isnt. subst (λ n. n ≤ 1) (sym (count_one (is_dropping f) i items more one ∙ ap (λ b. how_many (is_dropping f) items + bit b) isnt ∙ plain (how_many (is_dropping f) items))) was)
        where
          first : (a b : ℕ) → a ≡ b + 1 → b ≡ 0 → a ≤ 1
          first a b is zero_ = omega (arith, is, zero_)

          none : (z : SlogItem) (f : ℕ) → e ≡ f → IsAmong z items → is_dropping f z ≡ false
          none (AllocOf y q) f is in_ = refl
          none (FreeOf q) f is in_ = refl
          none (CreateOf y g) f is in_ = refl
          none (DropOf y g) f is in_ = ne_eqb g f (λ same_. no_drop y (subst (λ g. IsAmong (DropOf y g) items) (same_ ∙ sym is) in_))

      -- an item of a name is of the one that has it
      old_item : (y f : ℕ) → IsSchemaItem y f more → ((y ≡ x) × (f ≡ e)) ⊎ IsSchemaItem y f items
      old_item y f (inl in_) = ⊎_elim (λ is. absurd (create_isnt_drop y x f e is)) (λ was. inr (inl was)) (down_one i items more one (CreateOf y f) in_)
      old_item y f (inr in_) = ⊎_elim (λ is. inl (ap xid_of_item is, ap entry_of_item is)) (λ was. inr (inr was)) (down_one i items more one (DropOf y f) in_)

      same_owner : (y z f g : ℕ) → IsSchemaItem y f more → IsSchemaItem z g more → (area.title f).name ≡ (area.title g).name → y ≡ z
      same_owner y z f g a b same_ = ⊎_elim
          (λ new_a. ⊎_elim (λ new_b. new_a.0 ∙ sym new_b.0)
          (λ was_b. new_a.0 ∙ sym (owed.alone z g was_b (sym same_ ∙ ap (λ f. (area.title f).name) new_a.1))) (old_item z g b))
          (λ was_a. ⊎_elim (λ new_b. owed.alone y f was_a (same_ ∙ ap (λ g. (area.title g).name) new_b.1) ∙ sym new_b.0)
          (λ was_b. sound.names.of_one y z f g was_a was_b same_) (old_item z g b)) (old_item y f a)

      mine_more : filter (is_item_by x) more ≡ mine ++ i ∷ []
      mine_more = filter_there (is_item_by x) i items [] (eq-eqb x x refl)

      own : (k : ℕ) → IsOneOf (all_undone (drop k (filter (is_item_by x) more)) after.title) (stands_for committed x)
      own k = subst (λ l. IsOneOf (all_undone (drop k l) after.title) (stands_for committed x)) (sym mine_more) (⊎_elim
          (λ longer. subst (λ l. IsOneOf (all_undone l after.title) (stands_for committed x)) (sym longer)
          (subst (λ t. IsOneOf t (stands_for committed x)) (sym (undone_last (drop k mine) i after.title))
          (one_of_from (all_undone (drop k mine) area.title) (all_undone (drop k mine) (undone i after.title)) (stands_for committed x) (stands_for committed x) (sound.names.undoing x k x_live)
          (λ f lt alive counts. let same_at = undone_at (drop k mine) (undone i after.title) area.title f (back f) in
          (subst (λ u. is_live u ≡ true) same_at alive, ap (λ (u : Title). u.name) same_at, subst (λ u. stands_for committed x u ≡ true) same_at counts)))))
          (λ empty. subst (λ l. IsOneOf (all_undone l after.title) (stands_for committed x)) (sym empty.0)
          (one_of_from (all_undone (drop k mine) area.title) after.title (stands_for committed x) (stands_for committed x) (sound.names.undoing x k x_live)
          (λ f lt alive counts. known (f == e)
          (λ is. absurd (false≢true (sym (mine_gone f is) ∙ counts)))
          (λ isnt. let same_at : after.title f ≡ all_undone (drop k mine) area.title f = title_apart area e dropped f (λ is. false≢true (sym isnt ∙ eq-eqb f e is)) ∙ ap (λ l. all_undone l area.title f) (sym empty.1) in
          (subst (λ u. is_live u ≡ true) same_at alive, ap (λ (u : Title). u.name) same_at, subst (λ u. stands_for committed x u ≡ true) same_at counts)))))
          (last_dropped k mine i))
        where
          mine_gone : (f : ℕ) → (f == e) ≡ true → stands_for committed x (after.title f) ≡ false
          mine_gone f is = ap (λ b. stands_for committed x (cond b dropped (area.title f))) is
              ∙ ap (λ b. (committed (area.title e).creator || ((area.title e).creator == x)) && not (committed x || b)) (eq-eqb x x refl)
              ∙ gone_by (committed (area.title e).creator || ((area.title e).creator == x)) (committed x)
            where
              gone_by : (a b : Bool) → (a && not (b || true)) ≡ false
              gone_by true true = refl
              gone_by true false = refl
              gone_by false b = refl

      stood : (y k f : ℕ) → (x ≡ y → ⊥) → 0 < y → filter (is_item_by y) more ≡ filter (is_item_by y) items → is_live (all_undone (drop k (filter (is_item_by y) more)) after.title f) ≡ true
          → stands_for committed y (all_undone (drop k (filter (is_item_by y) more)) after.title f) ≡ true
          → (is_live (all_undone (drop k (filter (is_item_by y) items)) area.title f) ≡ true)
          × ((all_undone (drop k (filter (is_item_by y) more)) after.title f).name ≡ (all_undone (drop k (filter (is_item_by y) items)) area.title f).name)
          × (stands_for committed y (all_undone (drop k (filter (is_item_by y) items)) area.title f) ≡ true)
      stood y k f apart some same_items alive counts =
          let D = drop k (filter (is_item_by y) items) in
          let same_list : all_undone (drop k (filter (is_item_by y) more)) after.title f ≡ all_undone D after.title f = ap (λ l. all_undone (drop k l) after.title f) same_items in
          let none : (z : SlogItem) → IsAmong z D → ((w : ℕ) → z ≡ CreateOf w e → ⊥) × ((w : ℕ) → z ≡ DropOf w e → ⊥) =
          λ z in_. let by_y = filter_among (is_item_by y) z items (drop_among z k (filter (is_item_by y) items) in_) in others_apart x e items (λ w in_. sym (owed.alone w e in_ refl)) y apart z by_y.0 by_y.1 in
          known (f == e)
          (λ is. let same_f = eqb-true f e is in
          let now : all_undone (drop k (filter (is_item_by y) more)) after.title f ≡ dropped =
          same_list ∙ ap (all_undone D after.title) same_f ∙ undone_apart D after.title e (λ w in_. (none (CreateOf w e) in_).0 w refl) (λ w in_. (none (DropOf w e) in_).1 w refl) ∙ title_here area e dropped in
          let was : all_undone D area.title f ≡ area.title e =
          ap (all_undone D area.title) same_f ∙ undone_apart D area.title e (λ w in_. (none (CreateOf w e) in_).0 w refl) (λ w in_. (none (DropOf w e) in_).1 w refl) in (
            ap is_live was ∙ sym (ap is_live now) ∙ alive,
            ap (λ (u : Title). u.name) now ∙ sym (ap (λ (u : Title). u.name) was),
            ap (stands_for committed y) was ∙ as_before y some (sym (ap (stands_for committed y) now) ∙ counts),
          ))
          (λ isnt. let same_at : all_undone (drop k (filter (is_item_by y) more)) after.title f ≡ all_undone D area.title f = same_list ∙ undone_at D after.title area.title f (title_apart area e dropped f (λ is. false≢true (sym isnt ∙ eq-eqb f e is))) in
          (subst (λ u. is_live u ≡ true) same_at alive, ap (λ (u : Title). u.name) same_at, subst (λ u. stands_for committed y u ≡ true) same_at counts))

  pub drop_sound : IsSoundArea counted (with_item i tables) after
  drop_sound = titled_sound area e dropped counted tables (with_item i tables) refl refl refl sound
      ((live_below tables.next (area.title e) owed.live (sound.below.entries e)).0, (listed_drawn tables.next area tables sound.below x (inl owed.is_open)).1)
      (owned_and_one counted live i items more area after one refl x_live (λ q. refl) (λ l. refl) sound.owned) names
