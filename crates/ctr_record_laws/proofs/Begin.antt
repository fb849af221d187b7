-- A Begin: the next transaction is open, without heads.
use Rattle.std.proofs.Common.{◌≡◌, ◌⊎◌, ⊎_elim, inl, inr, ℕ, ◌+◌, ◌<◌, ◌≤◌, zero, suc, Bool, true, false, cond, List, [], ◌∷◌, ◌++◌, drop, Option, Some, None, refl, sym, ◌∙◌, ap, subst, arith}
use Rattle.std.proofs.lemmas.Bool.{false≢true, eq-eqb, eqb-true, ne_eqb, and_from, cases_lt, lt-ltb, le-ltb}
use Rattle.std.specs.List.{flat_map, AllByRecursion, filter}
use Rattle.std.specs.Prelude.{◌==◌, ◌||◌, ◌&&◌, not, nat_lt}
use Rattle.ctr_area.proofs.Buckets.{each_of}
use Rattle.ctr_area.specs.Areas.{Title, RowVersion, Area}
use Rattle.ctr_area.specs.Chains.{slot_places}
use Rattle.ctr_area.specs.Images.{is_committed_in, entry_numbers, is_standing, is_live}
use Rattle.ctr_area.specs.Sound.{IsAmong, AreAllOnce, xids_in, AreBehind, is_headed_by, head_count, AreCounted, AreNamed, PreviousBelow, NumbersBelow, IsSoundArea, IsOneOf, all_undone, stands_for}
use Rattle.ctr_area.specs.meta_Effects.{opened_by}
use Rattle.ctr_area.specs.meta_Items.{is_item_by}
use Rattle.ctr_area.specs.meta_Tables.{Tables, is_in}
use Rattle.ctr_record_laws.proofs.Heads.{listed_open}
use Rattle.ctr_record_laws.proofs.Members.{among_front, among_rest, among_parts, among_flat, all_parts, all_both}
use Rattle.ctr_record_laws.proofs.Xids.{among_in, in_among}
use Rattle.ctr_area.specs.rec_SlogItem.{SlogItem}
use Rattle.ctr_area.specs.rec_SlogItem.TheVariants.{AllocOf, FreeOf, CreateOf, DropOf}
use Rattle.ctr_record_laws.proofs.Latest.{live_below}
use Rattle.ctr_record_laws.proofs.Links.{none_pass}
use Rattle.ctr_record_laws.proofs.Owning.{all_of}
use Rattle.ctr_record_laws.proofs.Undone.{one_of_from}
use Rattle.ctr_area.proofs.ctr_versions.Keys.{known}

-- the titles of a catalog, to who has no item
pub no_items_of : (x : ℕ) (items : List SlogItem) → ((z : SlogItem) → IsAmong z items → is_item_by x z ≡ false) → filter (is_item_by x) items ≡ []
no_items_of x [] none = refl
no_items_of x (z ∷ items) none =
    ap (λ b. cond b (z ∷ filter (is_item_by x) items) (filter (is_item_by x) items)) (none z (inl refl)) ∙ no_items_of x items (λ y in_. none y (inr in_))

pub nothing_dropped : (k : ℕ) → drop k (let none : List SlogItem = [] in none) ≡ []
nothing_dropped zero = refl
nothing_dropped (suc k) = refl

pub xids_append : (ps qs : List (ℕ × ℕ)) → xids_in (ps ++ qs) ≡ xids_in ps ++ xids_in qs
xids_append [] qs = refl
xids_append (p ∷ ps) qs = ap (λ l. p.0 ∷ l) (xids_append ps qs)

-- no head is by one that wasn't drawn
pub no_heads_above : (next : ℕ) (xids : List ℕ) (area : Area) (y : ℕ) → NumbersBelow next xids area → next ≤ y → head_count area y ≡ 0
no_heads_above next xids area y below le = none_pass (is_headed_by area.slot y) (flat_map (slot_places area) entry_numbers)
    (λ at in_. let found = among_flat (slot_places area) at entry_numbers in_ in
    known (area.slot at).used
    (λ used. ap (λ b. b && ((area.slot at).head.0 == y)) used ∙ ne_eqb (area.slot at).head.0 y (λ is. too_high (area.slot at).head.0 (below.slots found.0 at (found.2, used)).0 is))
    (λ free. ap (λ b. b && ((area.slot at).head.0 == y)) free))
  where
    too_high : (h : ℕ) → h < next → h ≡ y → ⊥
    too_high h lt is = omega (arith, lt, is, le)

module _ (counted : ℕ) (tables : Tables) (area : Area) (sound : IsSoundArea counted tables area) (some : 0 < tables.next) where
  abbrev x : ℕ
  x = tables.next

  abbrev now : Tables
  now = opened_by x tables

  abbrev live : List ℕ
  live = xids_in tables.opens

  abbrev live_now : List ℕ
  live_now = xids_in now.opens

  live_is : live_now ≡ live ++ x ∷ []
  live_is = xids_append tables.opens ((x, 0) ∷ [])

  up : (y : ℕ) → IsAmong y live → IsAmong y live_now
  up y in_ = subst (IsAmong y) (sym live_is) (among_front y live (x ∷ []) in_)

  x_there : IsAmong x live_now
  x_there = subst (IsAmong x) (sym live_is) (among_rest x live (x ∷ []) (inl refl))

  was_or_x : (y : ℕ) → IsAmong y live_now → IsAmong y live ⊎ (y ≡ x)
  was_or_x y in_ = ⊎_elim (λ was. inl was) (λ new. ⊎_elim (λ is. inr is) (λ gone. absurd gone) new) (among_parts y live (x ∷ []) (subst (IsAmong y) live_is in_))

  drawn_all : AllByRecursion (λ y. (0 < y) × (y < x)) (live ++ xids_in tables.aborted)
  drawn_all = sound.below.drawn

  live_below_next : (y : ℕ) → IsAmong y live → (0 < y) × (y < x)
  live_below_next y in_ = each_of (λ y. (0 < y) × (y < x)) y (live ++ xids_in tables.aborted) drawn_all (among_front y live (xids_in tables.aborted) in_)

  gone_below_next : (y : ℕ) → IsAmong y (xids_in tables.aborted) → (0 < y) × (y < x)
  gone_below_next y in_ = each_of (λ y. (0 < y) × (y < x)) y (live ++ xids_in tables.aborted) drawn_all (among_rest y live (xids_in tables.aborted) in_)

  -- ---- who is committed is the same

  same_open : (y : ℕ) → (y ≡ x → ⊥) → is_in y now.opens ≡ is_in y tables.opens
  same_open y apart = known (is_in y tables.opens)
      (λ is. among_in y now.opens (up y (in_among y tables.opens is)) ∙ sym is)
      (λ isnt. known (is_in y now.opens) (λ is. absurd (⊎_elim (λ was. false≢true (sym isnt ∙ among_in y tables.opens was)) apart (was_or_x y (in_among y now.opens is)))) (λ out. out ∙ sym isnt))

  committed_same : (y : ℕ) → is_committed_in now y ≡ is_committed_in tables y
  committed_same y = known (y == x)
      (λ is. let same_y = eqb-true y x is in
      listed_open now y (inl (among_in y now.opens (subst (λ y. IsAmong y live_now) (sym same_y) x_there)))
      ∙ sym (ap (λ b. nat_lt 0 y && (b && (not (is_in y tables.opens) && not (is_in y tables.aborted)))) (le-ltb y x (high y same_y)) ∙ none (nat_lt 0 y)))
      (λ isnt. let apart : y ≡ x → ⊥ = λ is. false≢true (sym isnt ∙ eq-eqb y x is) in
      λ i. nat_lt 0 y && (same_bound y apart i && (not (same_open y apart i) && not (is_in y tables.aborted))))
    where
      high : (y : ℕ) → y ≡ x → x ≤ y
      high y is = omega (arith, is)

      none : (b : Bool) → (b && false) ≡ false
      none true = refl
      none false = refl

      same_bound : (y : ℕ) → (y ≡ x → ⊥) → nat_lt y (x + 1) ≡ nat_lt y x
      same_bound y apart = ⊎_elim
          (λ lt. lt-ltb y (x + 1) (up_one_ y lt) ∙ sym (lt-ltb y x lt))
          (λ le. le-ltb y (x + 1) (above y le apart) ∙ sym (le-ltb y x le)) (cases_lt y x)
        where
          up_one_ : (y : ℕ) → y < x → y < x + 1
          up_one_ y lt = omega (arith, lt)

          above : (y : ℕ) → x ≤ y → (y ≡ x → ⊥) → x + 1 ≤ y
          above y le apart = ⊎_elim (λ lt. omega (arith, lt)) (λ ge. absurd (apart (omega (arith, le, ge)))) (cases_lt x y)

  pub begin_test : is_committed_in now ≡ is_committed_in tables
  begin_test = λ i y. committed_same y i

  -- ---- names

  too_low : (y : ℕ) → y ≡ x → y < x → ⊥
  too_low y is lt = omega (arith, is, lt)

  not_its_item : (z : SlogItem) → IsAmong z tables.items → is_item_by x z ≡ false
  not_its_item (AllocOf y p) in_ = ap (λ b. cond b true false) (ne_eqb y x (λ is. too_low y is (live_below_next y (sound.owned.allocs y p in_)).1))
  not_its_item (FreeOf p) in_ = refl
  not_its_item (CreateOf y e) in_ = ne_eqb y x (λ is. too_low y is (live_below_next y (sound.owned.creates y e in_)).1)
  not_its_item (DropOf y e) in_ = ne_eqb y x (λ is. too_low y is (live_below_next y (sound.owned.drops y e in_)).1)

  -- the new one sees what is committed
  own_view : IsOneOf area.title (stands_for (is_committed_in tables) x)
  own_view = one_of_from area.title area.title (is_standing (is_committed_in tables)) (stands_for (is_committed_in tables) x) sound.names.standing
      (λ f lt alive counts. (
        alive,
        refl,
        and_from (is_live (area.title f)) (is_committed_in tables (area.title f).creator && not (is_committed_in tables (area.title f).dropper)) alive
            (sees (area.title f) (live_below x (area.title f) alive (sound.below.entries f)) counts),
      ))
    where
      sees : (u : Title) → (u.creator < x) × (u.dropper < x) → stands_for (is_committed_in tables) x u ≡ true → (is_committed_in tables u.creator && not (is_committed_in tables u.dropper)) ≡ true
      sees u below counts =
          (λ i. (plain (is_committed_in tables u.creator) (sym (ne_eqb u.creator x (λ is. too_low u.creator is below.0))) i) && not (plain (is_committed_in tables u.dropper) (sym (ne_eqb u.dropper x (λ is. too_low u.dropper is below.1))) i)) ∙ counts
        where
          plain : {b : Bool} (a : Bool) → false ≡ b → a ≡ (a || b)
          plain true is = refl
          plain false is = is

  names : AreNamed (is_committed_in tables) live_now tables.items area.title
  names = record {
    creators = λ e lt is. ⊎_elim (λ c. inl c) (λ open_. inr (up (area.title e).creator open_.0, open_.1)) (sound.names.creators e lt is);
    droppers = λ e lt is. ⊎_elim (λ z. inl z) (λ more. inr (⊎_elim (λ c. inl c) (λ open_. inr (up (area.title e).dropper open_.0, open_.1)) more)) (sound.names.droppers e lt is);
    creates = sound.names.creates;
    drops = sound.names.drops;
    once = sound.names.once;
    in_order = sound.names.in_order;
    of_one = sound.names.of_one;
    undoing = λ y k in_. ⊎_elim (λ was. sound.names.undoing y k was)
        (λ is. subst (λ y. IsOneOf (all_undone (drop k (filter (is_item_by y) tables.items)) area.title) (stands_for (is_committed_in tables) y)) (sym is)
        (subst (λ l. IsOneOf (all_undone l area.title) (stands_for (is_committed_in tables) x)) (sym (ap (drop k) (no_items_of x tables.items not_its_item) ∙ nothing_dropped k)) own_view))
        (was_or_x y in_);
    standing = sound.names.standing;
  }

  -- ---- the rest

  counts : AreCounted now area
  counts =
      let parts = all_parts (λ (p : ℕ × ℕ). p.1 ≡ head_count area p.0) tables.opens tables.aborted sound.counts in
      all_both (λ (p : ℕ × ℕ). p.1 ≡ head_count area p.0) now.opens tables.aborted
      (all_both (λ (p : ℕ × ℕ). p.1 ≡ head_count area p.0) tables.opens ((x, 0) ∷ []) parts.0 (sym (no_heads_above x (live ++ xids_in tables.aborted) area x sound.below (omega arith)), tt))
      parts.1

  below : NumbersBelow (x + 1) (live_now ++ xids_in tables.aborted) area
  below = record {
    slots = λ e at used. let its = sound.below.slots e at used in (more its.0, previous (area.slot at).previous its.1);
    older = λ e q in_ used. more (sound.below.older e q in_ used);
    entries = λ e. ⊎_elim (λ free. inl free) (λ its. inr (more its.0, more its.1)) (sound.below.entries e);
    drawn = all_of (λ y. (0 < y) × (y < x + 1)) (live_now ++ xids_in tables.aborted)
        (λ y in_. ⊎_elim
        (λ open_. ⊎_elim (λ was. let its = live_below_next y was in (its.0, more its.1)) (λ is. (subst (λ y. 0 < y) (sym is) some, subst (λ y. y < x + 1) (sym is) (omega arith))) (was_or_x y open_))
        (λ gone. let its = gone_below_next y gone in (its.0, more its.1))
        (among_parts y live_now (xids_in tables.aborted) in_));
    once = subst (λ l. AreAllOnce (l ++ xids_in tables.aborted)) (sym live_is) (once_with live (xids_in tables.aborted) (λ in_. too_low x refl (each_of (λ y. (0 < y) × (y < x)) x (live ++ xids_in tables.aborted) drawn_all in_).1) sound.below.once);
  }
    where
      more : {n : ℕ} → n < x → n < x + 1
      more lt = omega (arith, lt)

      previous : (o : Option RowVersion) → PreviousBelow x o → PreviousBelow (x + 1) o
      previous None its = tt
      previous (Some v) its = more its

      once_with : (xs ys : List ℕ) → (IsAmong x (xs ++ ys) → ⊥) → AreAllOnce (xs ++ ys) → AreAllOnce ((xs ++ x ∷ []) ++ ys)
      once_with [] ys out once = (out, once)
      once_with (z ∷ xs) ys out once = (
        (λ in_. ⊎_elim (λ front. ⊎_elim (λ in_xs. once.0 (among_front z xs ys in_xs)) (λ last. ⊎_elim (λ is. out (inl (sym is))) (λ gone. gone) last) (among_parts z xs (x ∷ []) front)) (λ behind_. once.0 (among_rest z xs ys behind_)) (among_parts z (xs ++ x ∷ []) ys in_)),
        once_with xs ys (λ in_. out (inr in_)) once.1,
      )

  pub begin_sound : IsSoundArea counted now area
  begin_sound = record {
    readable = sound.readable;
    behind = subst (λ test. AreBehind test area) (sym begin_test) sound.behind;
    counts = counts;
    owned = record {
      once = sound.owned.once;
      inside = sound.owned.inside;
      uncounted = sound.owned.uncounted;
      allocs = λ y p in_. up y (sound.owned.allocs y p in_);
      creates = λ y e in_. up y (sound.owned.creates y e in_);
      drops = λ y e in_. up y (sound.owned.drops y e in_);
    };
    keys = sound.keys;
    pointers = sound.pointers;
    names = subst (λ test. AreNamed test live_now tables.items area.title) (sym begin_test) names;
    below = below;
  }
