-- A Create: a free entry has a title, and an item says so.
use Rattle.std.proofs.Common.{◌≡◌, ◌⊎◌, ⊎_elim, inl, inr, ℕ, ◌+◌, ◌<◌, ◌≤◌, Bool, true, false, cond, List, [], ◌∷◌, ◌++◌, drop, refl, sym, ◌∙◌, ap, subst, arith}
use Rattle.std.proofs.lemmas.Bool.{false≢true, eq-eqb, eqb-true, ne_eqb, cases_eq}
use Rattle.std.proofs.lemmas.List.{append-nil}
use Rattle.std.specs.List.{filter}
use Rattle.std.specs.Prelude.{◌==◌, ◌||◌, ◌&&◌, not}
use Rattle.ctr_area.specs.Areas.{Title, Area}
use Rattle.ctr_area.specs.Changes.{with_title, with_firsts, new_title, empty_chains, ChangesEntry}
use Rattle.ctr_area.specs.Images.{is_committed_in, is_standing, is_live}
use Rattle.ctr_area.specs.Sound.{IsAmong, how_many, xids_in, AreNamed, IsSoundArea, IsOneOf, IsSchemaItem, all_undone, undone, stands_for, is_creation, is_dropping}
use Rattle.ctr_area.specs.meta_Effects.{with_item}
use Rattle.ctr_area.specs.meta_Items.{is_item_by}
use Rattle.ctr_area.specs.meta_Tables.{Tables}
use Rattle.ctr_record_laws.proofs.Heads.{listed_drawn}
use Rattle.ctr_record_laws.proofs.Members.{bit}
use Rattle.ctr_record_laws.proofs.Xids.{in_among}
use Rattle.ctr_record_laws.specs.Bounds.{IsInBounds}
use Rattle.ctr_area.specs.rec_SlogItem.{SlogItem}
use Rattle.ctr_area.specs.rec_SlogItem.TheVariants.{AllocOf, FreeOf, CreateOf, DropOf}
use Rattle.ctr_record_laws.proofs.Fresh.{AreNoPages, empty_are_none, mid_sound, fresh_pages, fresh_sound}
use Rattle.ctr_record_laws.proofs.Items.{added, up_one, down_one, count_one, it_is_in, IsWithOne}
use Rattle.ctr_record_laws.proofs.Latest.{entry_of_item, xid_of_item, create_isnt_drop, owned_and_one, by_title, title_here, title_apart, live_open}
use Rattle.ctr_record_laws.proofs.Undone.{undone_at, undone_apart, undone_dead, undone_last, one_of_from, filter_apart, filter_there, filter_among, drop_among, last_dropped, cut_end, uncounted}
use Rattle.ctr_record_laws.specs.Owed.{OwedByCreate}
use Rattle.ctr_area.specs.types_Column.{Column}
use Rattle.ctr_area.proofs.ctr_versions.Keys.{known}

module _ (counted : ℕ) (tables : Tables) (area : Area) (x e : ℕ) (name : List ℕ) (columns : List Column) (sound : IsSoundArea counted tables area) (owed : OwedByCreate tables area x e name) where
  abbrev items : List SlogItem
  items = tables.items

  abbrev i : SlogItem
  i = CreateOf x e

  abbrev more : List SlogItem
  more = items ++ i ∷ []

  abbrev live : List ℕ
  live = xids_in tables.opens

  abbrev committed : ℕ → Bool
  committed = is_committed_in tables

  abbrev mine : List SlogItem
  mine = filter (is_item_by x) items

  one : IsWithOne i items more
  one = added i items

  x_live : IsAmong x live
  x_live = in_among x tables.opens owed.is_open

  x_open : committed x ≡ false
  x_open = live_open counted tables area sound x x_live

  abbrev made : Title
  made = new_title x name columns

  abbrev titled_area : Area
  titled_area = with_title e made area

  not_live : is_live (area.title e) ≡ true → ⊥
  not_live alive = false≢true (sym (ap (λ n. n == 1) owed.free) ∙ alive)

  -- no item is of the entry
  no_create : (y : ℕ) → IsAmong (CreateOf y e) items → ⊥
  no_create y in_ = not_live (sound.names.creates y e in_).0

  no_drop : (y : ℕ) → IsAmong (DropOf y e) items → ⊥
  no_drop y in_ = not_live (sound.names.drops y e in_).0

  grown : (z : SlogItem) → IsAmong z items → IsAmong z more
  grown = up_one i items more one

  old_create : (y f : ℕ) → IsAmong (CreateOf y f) more → ((y ≡ x) × (f ≡ e)) ⊎ (IsAmong (CreateOf y f) items × (f ≡ e → ⊥))
  old_create y f in_ = ⊎_elim (λ is. inl (ap xid_of_item is, ap entry_of_item is))
      (λ was. inr (was, λ is. no_create y (subst (λ f. IsAmong (CreateOf y f) items) is was))) (down_one i items more one (CreateOf y f) in_)

  old_drop : (y f : ℕ) → IsAmong (DropOf y f) more → IsAmong (DropOf y f) items × (f ≡ e → ⊥)
  old_drop y f in_ =
      let was = ⊎_elim (λ is. absurd (create_isnt_drop x y e f (sym is))) (λ was. was) (down_one i items more one (DropOf y f) in_) in
      (was, λ is. no_drop y (subst (λ f. IsAmong (DropOf y f) items) is was))

  -- an item is the new one, or of another entry
  old_item : (y f : ℕ) → IsSchemaItem y f more → ((y ≡ x) × (f ≡ e)) ⊎ (IsSchemaItem y f items × (f ≡ e → ⊥))
  old_item y f (inl in_) = ⊎_elim (λ new. inl new) (λ was. inr (inl was.0, was.1)) (old_create y f in_)
  old_item y f (inr in_) = let was = old_drop y f in_ in inr (inr was.0, was.1)

  name_here : (titled_area.title e).name ≡ name
  name_here = ap (λ (u : Title). u.name) (title_here area e made)

  name_apart : (f : ℕ) → (f ≡ e → ⊥) → (titled_area.title f).name ≡ (area.title f).name
  name_apart f apart = ap (λ (u : Title). u.name) (title_apart area e made f apart)

  same_owner : (y z f g : ℕ) → IsSchemaItem y f more → IsSchemaItem z g more → (titled_area.title f).name ≡ (titled_area.title g).name → y ≡ z
  same_owner y z f g a b same_ = ⊎_elim
      (λ new_a. let named_so : (titled_area.title g).name ≡ name = sym same_ ∙ ap (λ f. (titled_area.title f).name) new_a.1 ∙ name_here in
      ⊎_elim (λ new_b. new_a.0 ∙ sym new_b.0) (λ was_b. new_a.0 ∙ sym (owed.alone z g was_b.0 (sym (name_apart g was_b.1) ∙ named_so))) (old_item z g b))
      (λ was_a. ⊎_elim
      (λ new_b. owed.alone y f was_a.0 (sym (name_apart f was_a.1) ∙ same_ ∙ ap (λ g. (titled_area.title g).name) new_b.1 ∙ name_here) ∙ sym new_b.0)
      (λ was_b. sound.names.of_one y z f g was_a.0 was_b.0 (sym (name_apart f was_a.1) ∙ same_ ∙ name_apart g was_b.1)) (old_item z g b)) (old_item y f a)

  plain : (n : ℕ) → n + 0 ≡ n
  plain n = omega arith

  one_creation : (f : ℕ) → how_many (is_creation f) items ≤ 1 → how_many (is_creation f) more ≤ 1
  one_creation f was = known (e == f)
      (λ is. first (how_many (is_creation f) more) (how_many (is_creation f) items) (count_one (is_creation f) i items more one ∙ ap (λ b. how_many (is_creation f) items + bit b) is)
      (uncounted (is_creation f) items (λ z in_. none z f (eqb-true e f is) in_)))
      (λ isnt. subst (λ n. n ≤ 1) (sym (count_one (is_creation f) i items more one ∙ ap (λ b. how_many (is_creation f) items + bit b) isnt ∙ plain (how_many (is_creation f) items))) was)
    where
      first : (a b : ℕ) → a ≡ b + 1 → b ≡ 0 → a ≤ 1
      first a b is zero_ = omega (arith, is, zero_)

      none : (z : SlogItem) (f : ℕ) → e ≡ f → IsAmong z items → is_creation f z ≡ false
      none (AllocOf y q) f is in_ = refl
      none (FreeOf q) f is in_ = refl
      none (DropOf y g) f is in_ = refl
      none (CreateOf y g) f is in_ = ne_eqb g f (λ same_. no_create y (subst (λ g. IsAmong (CreateOf y g) items) (same_ ∙ sym is) in_))

  -- what its maker sees: no other table of the name
  own_view : IsOneOf area.title (stands_for committed x) → IsOneOf titled_area.title (stands_for committed x)
  own_view one_ a b lt_a lt_b live_a live_b same_ counts_a counts_b = ⊎_elim
      (λ is_a. ⊎_elim (λ is_b. is_a ∙ sym is_b) (λ not_b. absurd (another b not_b lt_b live_b (sym same_ ∙ ap (λ f. (titled_area.title f).name) is_a ∙ name_here) counts_b)) (cases_eq b e))
      (λ not_a. ⊎_elim (λ is_b. absurd (another a not_a lt_a live_a (same_ ∙ ap (λ f. (titled_area.title f).name) is_b ∙ name_here) counts_a))
      (λ not_b. one_ a b lt_a lt_b (as_was not_a live_a) (as_was not_b live_b) (sym (name_apart a not_a) ∙ same_ ∙ name_apart b not_b)
      (subst (λ u. stands_for committed x u ≡ true) (title_apart area e made a not_a) counts_a) (subst (λ u. stands_for committed x u ≡ true) (title_apart area e made b not_b) counts_b)) (cases_eq b e))
      (cases_eq a e)
    where
      as_was : {f : ℕ} → (f ≡ e → ⊥) → is_live (titled_area.title f) ≡ true → is_live (area.title f) ≡ true
      as_was {f = f} apart alive = subst (λ u. is_live u ≡ true) (title_apart area e made f apart) alive

      another : (f : ℕ) → (f ≡ e → ⊥) → f < 32 → is_live (titled_area.title f) ≡ true → (titled_area.title f).name ≡ name → stands_for committed x (titled_area.title f) ≡ true → ⊥
      another f apart lt alive named_so counts =
          false≢true (sym (owed.unseen f lt (as_was apart alive) (sym (name_apart f apart) ∙ named_so)) ∙ subst (λ u. stands_for committed x u ≡ true) (title_apart area e made f apart) counts)

  mine_more : filter (is_item_by x) more ≡ mine ++ i ∷ []
  mine_more = filter_there (is_item_by x) i items [] (eq-eqb x x refl)

  own : (k : ℕ) → IsOneOf (all_undone (drop k (filter (is_item_by x) more)) titled_area.title) (stands_for committed x)
  own k = subst (λ l. IsOneOf (all_undone (drop k l) titled_area.title) (stands_for committed x)) (sym mine_more) (⊎_elim
      (λ longer. subst (λ l. IsOneOf (all_undone l titled_area.title) (stands_for committed x)) (sym longer)
      (subst (λ t. IsOneOf t (stands_for committed x)) (sym (undone_last (drop k mine) i titled_area.title))
      (one_of_from (all_undone (drop k mine) area.title) (all_undone (drop k mine) (undone i titled_area.title)) (stands_for committed x) (stands_for committed x) (sound.names.undoing x k x_live)
      (λ f lt alive counts. known (f == e)
      (λ is. absurd (false≢true (sym (undone_dead (drop k mine) (undone i titled_area.title) f (ap (λ b. is_live (cond b (record (titled_area.title e) { state = 2 }) (titled_area.title f))) is)) ∙ alive)))
      (λ isnt. let same_at = undone_at (drop k mine) (undone i titled_area.title) area.title f
      (ap (λ b. cond b (record (titled_area.title e) { state = 2 }) (titled_area.title f)) isnt ∙ title_apart area e made f (λ is. false≢true (sym isnt ∙ eq-eqb f e is))) in
      (subst (λ u. is_live u ≡ true) same_at alive, ap (λ (u : Title). u.name) same_at, subst (λ u. stands_for committed x u ≡ true) same_at counts))))))
      (λ empty. subst (λ l. IsOneOf (all_undone l titled_area.title) (stands_for committed x)) (sym empty.0)
      (own_view (subst (λ l. IsOneOf (all_undone l area.title) (stands_for committed x)) empty.1 (sound.names.undoing x k x_live))))
      (last_dropped k mine i))

  -- nobody else sees it
  hidden : (y : ℕ) → (x ≡ y → ⊥) → stands_for committed y made ≡ false
  hidden y apart = λ k. (x_open k || ne_eqb x y apart k) && not (committed 0 || (0 == y))

  others : (y k : ℕ) → (x == y) ≡ false → IsAmong y live → IsOneOf (all_undone (drop k (filter (is_item_by y) more)) titled_area.title) (stands_for committed y)
  others y k isnt in_ = one_of_from (all_undone D area.title) (all_undone (drop k (filter (is_item_by y) more)) titled_area.title) (stands_for committed y) (stands_for committed y) (sound.names.undoing y k in_)
      (λ f lt alive counts. known (f == e)
      (λ is. let now : all_undone (drop k (filter (is_item_by y) more)) titled_area.title f ≡ made =
      same_list f ∙ ap (all_undone D titled_area.title) (eqb-true f e is)
      ∙ undone_apart D titled_area.title e (λ w in_D. no_create w (from_items (CreateOf w e) in_D)) (λ w in_D. no_drop w (from_items (DropOf w e) in_D)) ∙ title_here area e made in
      absurd (false≢true (sym (hidden y (λ same_. false≢true (sym isnt ∙ eq-eqb x y same_))) ∙ sym (ap (stands_for committed y) now) ∙ counts)))
      (λ apart. let same_at : all_undone (drop k (filter (is_item_by y) more)) titled_area.title f ≡ all_undone D area.title f = same_list f ∙ undone_at D titled_area.title area.title f (title_apart area e made f (λ is. false≢true (sym apart ∙ eq-eqb f e is))) in
      (subst (λ u. is_live u ≡ true) same_at alive, ap (λ (u : Title). u.name) same_at, subst (λ u. stands_for committed y u ≡ true) same_at counts)))
    where
      D : List SlogItem
      D = drop k (filter (is_item_by y) items)

      same_list : (f : ℕ) → all_undone (drop k (filter (is_item_by y) more)) titled_area.title f ≡ all_undone D titled_area.title f
      same_list f = ap (λ l. all_undone (drop k l) titled_area.title f) (filter_apart (is_item_by y) i items [] isnt ∙ ap (filter (is_item_by y)) (append-nil items))

      from_items : (z : SlogItem) → IsAmong z D → IsAmong z items
      from_items z in_D = (filter_among (is_item_by y) z items (drop_among z k (filter (is_item_by y) items) in_D)).0

  pub create_names : AreNamed committed live more titled_area.title
  create_names = record {
    creators = λ f lt alive. by_title area e made (λ f u. f < 32 → is_live u ≡ true → (committed u.creator ≡ true) ⊎ (IsAmong u.creator live × IsAmong (CreateOf u.creator f) more))
        (λ lt_e now. inr (x_live, it_is_in i items more one))
        (λ f apart lt_f now. ⊎_elim (λ c. inl c) (λ open_. inr (open_.0, grown (CreateOf (area.title f).creator f) open_.1)) (sound.names.creators f lt_f now)) f lt alive;
    droppers = λ f lt alive. by_title area e made (λ f u. f < 32 → is_live u ≡ true → (u.dropper ≡ 0) ⊎ ((committed u.dropper ≡ true) ⊎ (IsAmong u.dropper live × IsAmong (DropOf u.dropper f) more)))
        (λ lt_e now. inl refl)
        (λ f apart lt_f now. ⊎_elim (λ z. inl z) (λ more_. inr (⊎_elim (λ c. inl c) (λ open_. inr (open_.0, grown (DropOf (area.title f).dropper f) open_.1)) more_)) (sound.names.droppers f lt_f now)) f lt alive;
    creates = λ y f in_. ⊎_elim
        (λ new. subst (λ f. (is_live (titled_area.title f) ≡ true) × ((titled_area.title f).creator ≡ y) × (((titled_area.title f).dropper ≡ 0) ⊎ ((titled_area.title f).dropper ≡ y))) (sym new.1)
        (subst (λ (u : Title). (is_live u ≡ true) × (u.creator ≡ y) × ((u.dropper ≡ 0) ⊎ (u.dropper ≡ y))) (sym (title_here area e made)) (refl, sym new.0, inl refl)))
        (λ was. subst (λ (u : Title). (is_live u ≡ true) × (u.creator ≡ y) × ((u.dropper ≡ 0) ⊎ (u.dropper ≡ y))) (sym (title_apart area e made f was.1)) (sound.names.creates y f was.0))
        (old_create y f in_);
    drops = λ y f in_. let was = old_drop y f in_ in subst (λ (u : Title). (is_live u ≡ true) × (u.dropper ≡ y)) (sym (title_apart area e made f was.1)) (sound.names.drops y f was.0);
    once = λ f. let was = sound.names.once f in
        (one_creation f was.0, subst (λ n. n ≤ 1) (sym (count_one (is_dropping f) i items more one ∙ plain (how_many (is_dropping f) items))) was.1);
    in_order = λ front rest y z f is in_. ⊎_elim
        (λ last. no_drop z (subst (λ f. IsAmong (DropOf z f) items) (ap entry_of_item last.0) (subst (IsAmong (DropOf z f)) last.1 in_)))
        (λ cut_. sound.names.in_order front cut_.0 y z f cut_.1 in_) (cut_end i (CreateOf y f) items front rest is);
    of_one = λ y z f g a b same_. same_owner y z f g a b same_;
    undoing = λ y k in_. known (x == y)
        (λ is. subst (λ y. IsOneOf (all_undone (drop k (filter (is_item_by y) more)) titled_area.title) (stands_for committed y)) (eqb-true x y is) (own k))
        (λ isnt. others y k isnt in_);
    standing = one_of_from area.title titled_area.title (is_standing committed) (is_standing committed) sound.names.standing
        (λ f lt alive counts. known (f == e)
        (λ is. absurd (false≢true (sym (ap (λ b. is_standing committed (cond b made (area.title f))) is ∙ ap (λ b. b && not (committed 0)) x_open) ∙ counts)))
        (λ isnt. let same_at = title_apart area e made f (λ is. false≢true (sym isnt ∙ eq-eqb f e is)) in
        (subst (λ u. is_live u ≡ true) same_at alive, ap (λ (u : Title). u.name) same_at, subst (λ u. is_standing committed u ≡ true) same_at counts)));
  }

  module _ (bounds : IsInBounds area) (new : Area) (changes : ChangesEntry e made empty_chains area new) where
    none : AreNoPages (area.firsts e)
    none = subst AreNoPages (sym (bounds.free e owed.free)) (tt, refl)

    pub create_sound : IsSoundArea counted (with_item i tables) new
    create_sound = fresh_sound counted tables area e empty_chains sound owed.inside empty_are_none none made new changes more
        (owned_and_one counted live i items more (with_firsts e empty_chains area) new one refl x_live changes.taken (fresh_pages counted tables area e empty_chains sound owed.inside empty_are_none none made new changes)
        (mid_sound counted tables area e empty_chains sound owed.inside empty_are_none none).owned)
        create_names (inr (drawn.1, above drawn.1))
      where
        drawn : (0 < x) × (x < tables.next)
        drawn = listed_drawn tables.next area tables sound.below x (inl owed.is_open)

        above : {n : ℕ} → x < n → 0 < n
        above lt = omega (arith, lt)
