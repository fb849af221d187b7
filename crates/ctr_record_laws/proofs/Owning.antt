-- Pages change their owner: one is allocated, or is free again.
use Rattle.std.proofs.Common.{◌≡◌, ◌⊎◌, ⊎_elim, inl, inr, ℕ, ◌+◌, ◌<◌, ◌≤◌, Bool, true, false, cond, List, [], ◌∷◌, ◌++◌, refl, sym, ◌∙◌, ap, subst, arith}
use Rattle.std.proofs.lemmas.Bool.{false≢true, eq-eqb, eqb-true, ne_eqb}
use Rattle.std.proofs.lemmas.List.{append-nil}
use Rattle.std.specs.List.{flat_map, AllByRecursion}
use Rattle.std.specs.Prelude.{◌==◌}
use Rattle.ctr_area.proofs.Buckets.{each_of}
use Rattle.ctr_area.specs.Areas.{Title, Area}
use Rattle.ctr_area.specs.Chains.{table_pages}
use Rattle.ctr_area.specs.Changes.{with_taken}
use Rattle.ctr_area.specs.Images.{is_committed_in, entry_numbers}
use Rattle.ctr_area.specs.Sound.{IsAmong, how_many, xids_in, page_of_item, owned_pages, AreOwned, AreNamed, IsSoundArea}
use Rattle.ctr_area.specs.meta_Effects.{with_item, without_item}
use Rattle.ctr_area.specs.meta_Items.{is_wanted, left_out}
use Rattle.ctr_area.specs.meta_Tables.{Tables}
use Rattle.ctr_area.specs.meta_Wanted.TheVariants.{OfPage}
use Rattle.ctr_record_laws.proofs.Heads.{turn}
use Rattle.ctr_record_laws.proofs.Members.{among_front, among_rest, among_parts, among_flat, count_append, count_among, bit}
use Rattle.ctr_record_laws.proofs.Xids.{in_among}
use Rattle.ctr_area.specs.rec_SlogItem.{SlogItem}
use Rattle.ctr_area.specs.rec_SlogItem.TheVariants.{AllocOf, FreeOf, CreateOf, DropOf}
use Rattle.ctr_record_laws.proofs.Items.{with_one, or_the_one, the_one, pages_with, added, taken_out, IsWithOne}
use Rattle.ctr_record_laws.proofs.Named.{alloc_of_page, free_of_page, named_same, longer_same, shorter_same, items_up, items_down, IsOfPage}
use Rattle.ctr_record_laws.specs.Owed.{OwedByAlloc, OwedByFree}
use Rattle.ctr_area.proofs.ctr_versions.Keys.{known}

pub all_of : {A : Type 0} (P : A → Type 0) (xs : List A) → ((x : A) → IsAmong x xs → P x) → AllByRecursion P xs
all_of P [] each = tt
all_of P (x ∷ xs) each = (each x (inl refl), all_of P xs (λ y in_. each y (inr in_)))

-- the page of an item is one, or there is none
pub page_wanted : (p : ℕ) (i : SlogItem) → is_wanted (OfPage p) i ≡ true → (page_of_item i ≡ p ∷ []) × IsOfPage i
page_wanted p (AllocOf y q) is = (ap (λ q. q ∷ []) (eqb-true q p is), alloc_of_page y q)
page_wanted p (FreeOf q) is = (ap (λ q. q ∷ []) (eqb-true q p is), free_of_page q)
page_wanted p (CreateOf y e) is = absurd (false≢true is)
page_wanted p (DropOf y e) is = absurd (false≢true is)

-- how often the owned pages have one, with one item more
pub owned_with : (test : ℕ → Bool) (area : Area) (i : SlogItem) (less more : List SlogItem) → IsWithOne i less more
    → how_many test (owned_pages more area) ≡ how_many test (owned_pages less area) + how_many test (page_of_item i)
owned_with test area i less more one =
    let tables = flat_map (table_pages area) entry_numbers in
    count_append test tables (flat_map page_of_item more)
    ∙ turned (how_many test tables) (how_many test (flat_map page_of_item more)) (how_many test (flat_map page_of_item less)) (how_many test (page_of_item i)) (how_many test (owned_pages less area))
    (ap (λ l. how_many test (flat_map page_of_item l)) one.more_is ∙ pages_with test i one.front one.rest ∙ ap (λ l. how_many test (flat_map page_of_item l) + how_many test (page_of_item i)) (sym one.less_is))
    (count_append test tables (flat_map page_of_item less))
  where
    turned : (a b c d e : ℕ) → b ≡ c + d → e ≡ a + c → a + b ≡ e + d
    turned a b c d e is one = omega (arith, is, one)

pub flat_among : {A B : Type 0} (f : A → List B) (x : B) (a : A) (xs : List A) → IsAmong a xs → IsAmong x (f a) → IsAmong x (flat_map f xs)
flat_among f x a [] in_ there = absurd in_
flat_among f x a (y ∷ ys) (inl is) there = among_front x (f y) (flat_map f ys) (subst (λ z. IsAmong x (f z)) is there)
flat_among f x a (y ∷ ys) (inr in_) there = among_rest x (f y) (flat_map f ys) (flat_among f x a ys in_ there)

-- an owned page is of the old list, or the item's
pub owned_either : (area : Area) (i : SlogItem) (less more : List SlogItem) → IsWithOne i less more → (q : ℕ) → IsAmong q (owned_pages more area) → IsAmong q (owned_pages less area) ⊎ IsAmong q (page_of_item i)
owned_either area i less more one q in_ = ⊎_elim
    (λ of_table. inl (among_front q (flat_map (table_pages area) entry_numbers) (flat_map page_of_item less) of_table))
    (λ of_item. let found = among_flat page_of_item q more of_item in
    ⊎_elim
    (λ is. inr (subst (λ j. IsAmong q (page_of_item j)) is found.2))
    (λ there. inl (among_rest q (flat_map (table_pages area) entry_numbers) (flat_map page_of_item less)
    (flat_among page_of_item q found.0 less (subst (IsAmong found.0) (sym one.less_is) there) found.2)))
    (or_the_one found.0 i one.front one.rest (subst (IsAmong found.0) one.more_is found.1)))
    (among_parts q (flat_map (table_pages area) entry_numbers) (flat_map page_of_item more) in_)

pub owned_more : (area : Area) (i : SlogItem) (less more : List SlogItem) → IsWithOne i less more → (q : ℕ) → IsAmong q (owned_pages less area) → IsAmong q (owned_pages more area)
owned_more area i less more one q in_ = ⊎_elim
    (λ of_table. among_front q (flat_map (table_pages area) entry_numbers) (flat_map page_of_item more) of_table)
    (λ of_item. let found = among_flat page_of_item q less of_item in
    among_rest q (flat_map (table_pages area) entry_numbers) (flat_map page_of_item more)
    (flat_among page_of_item q found.0 more (subst (IsAmong found.0) (sym one.more_is) (with_one found.0 i one.front one.rest (subst (IsAmong found.0) one.less_is found.1))) found.2))
    (among_parts q (flat_map (table_pages area) entry_numbers) (flat_map page_of_item less) in_)

-- whose item is new
abbrev by_of_item : SlogItem → ℕ
by_of_item (AllocOf x p) = x
by_of_item (FreeOf p) = 0
by_of_item (CreateOf x e) = x
by_of_item (DropOf x e) = x

-- titles, pages that are taken, and items are others
pub others_sound : (counted : ℕ) (tables : Tables) (area : Area) (title : ℕ → Title) (taken : ℕ → Bool) (items : List SlogItem) → IsSoundArea counted tables area
    → AreOwned counted (xids_in tables.opens) items (record area { title = title; taken = taken }) → AreNamed (is_committed_in tables) (xids_in tables.opens) items title
    → ((e : ℕ) → ((title e).state ≡ 0) ⊎ (((title e).creator < tables.next) × ((title e).dropper < tables.next))) → IsSoundArea counted (record tables { items = items }) (record area { title = title; taken = taken })
others_sound counted tables area title taken items sound owned names entries = record {
  readable = record { rows = sound.readable.rows; versions = sound.readable.versions };
  behind = sound.behind;
  counts = sound.counts;
  owned = owned;
  keys = record { once = sound.keys.once; bucket = sound.keys.bucket };
  pointers = record { lead = sound.pointers.lead; apart = sound.pointers.apart };
  names = names;
  below = record { slots = sound.below.slots; older = sound.below.older; entries = entries; drawn = sound.below.drawn; once = sound.below.once };
}

-- ---- an Alloc

module _ (counted : ℕ) (tables : Tables) (area : Area) (x p : ℕ) (sound : IsSoundArea counted tables area) (owed : OwedByAlloc counted tables area x p) where
  abbrev i : SlogItem
  i = AllocOf x p

  abbrev more : List SlogItem
  more = tables.items ++ i ∷ []

  one : IsWithOne i tables.items more
  one = added i tables.items

  abbrev after : Area
  after = with_taken p true area

  abbrev live : List ℕ
  live = xids_in tables.opens

  taken_here : (q : ℕ) → (q == p) ≡ true → after.taken q ≡ true
  taken_here q is = ap (λ b. cond b true (area.taken q)) is

  taken_apart : (q : ℕ) → (q == p) ≡ false → after.taken q ≡ area.taken q
  taken_apart q isnt = ap (λ b. cond b true (area.taken q)) isnt

  flip : (q : ℕ) (b : Bool) → (q == p) ≡ b → (p == q) ≡ b
  flip q b is = turn p q ∙ is

  counts : (q : ℕ) → how_many (λ r. r == q) (owned_pages more area) ≡ how_many (λ r. r == q) (owned_pages tables.items area) + (bit (p == q) + 0)
  counts q = owned_with (λ r. r == q) area i tables.items more one

  alloc_once : (q : ℕ) → 3 ≤ q → q < counted → how_many (λ r. r == q) (owned_pages more area) ≡ cond (after.taken q) 1 0
  alloc_once q behind_ inside_ = known (q == p)
      (λ is. counts q ∙ ap (λ b. how_many (λ r. r == q) (owned_pages tables.items area) + (bit b + 0)) (flip q true is)
      ∙ ap (λ n. n + (1 + 0)) (sound.owned.once q behind_ inside_ ∙ ap (λ b. cond b 1 0) (ap area.taken (eqb-true q p is) ∙ owed.free)) ∙ sym (ap (λ b. cond b 1 0) (taken_here q is)))
      (λ isnt. counts q ∙ ap (λ b. how_many (λ r. r == q) (owned_pages tables.items area) + (bit b + 0)) (flip q false isnt) ∙ plain (how_many (λ r. r == q) (owned_pages tables.items area))
      ∙ sound.owned.once q behind_ inside_ ∙ sym (ap (λ b. cond b 1 0) (taken_apart q isnt)))
    where
      plain : (n : ℕ) → n + (0 + 0) ≡ n
      plain n = omega arith

  abbrev Fine : ℕ → Type 0
  Fine q = (3 ≤ q) × (q < counted) × (after.taken q ≡ true)

  fine : (q : ℕ) → IsAmong q (owned_pages more area) → Fine q
  fine q in_ = ⊎_elim
      (λ was. let its = each_of (λ r. (3 ≤ r) × (r < counted) × (area.taken r ≡ true)) q (owned_pages tables.items area) sound.owned.inside was in
      (its.0, its.1, known (q == p) (taken_here q) (λ isnt. taken_apart q isnt ∙ its.2)))
      (λ new. ⊎_elim (λ is. (subst (λ r. 3 ≤ r) (sym is) owed.behind_catalog, subst (λ r. r < counted) (sym is) owed.inside, taken_here q (eq-eqb q p is))) (λ no. absurd no) new)
      (owned_either area i tables.items more one q in_)

  alloc_uncounted : (q : ℕ) → counted ≤ q → after.taken q ≡ false
  alloc_uncounted q le = known (q == p)
      (λ is. absurd (beyond q p counted le (eqb-true q p is) owed.inside))
      (λ isnt. taken_apart q isnt ∙ sound.owned.uncounted q le)
    where
      beyond : (q p n : ℕ) → n ≤ q → q ≡ p → p < n → ⊥
      beyond q p n le is lt = omega (arith, le, is, lt)

  its_live : (z : SlogItem) → z ≡ i → IsAmong (by_of_item z) live
  its_live z is = subst (λ y. IsAmong y live) (sym (ap by_of_item is)) (in_among x tables.opens owed.is_open)

  pub alloc_sound : IsSoundArea counted (with_item i tables) after
  alloc_sound = others_sound counted tables area area.title after.taken more sound
      (record {
        once = alloc_once;
        inside = all_of Fine (owned_pages more area) fine;
        uncounted = alloc_uncounted;
        allocs = λ y q in_. ⊎_elim (λ is. its_live (AllocOf y q) is) (λ was. sound.owned.allocs y q (subst (IsAmong (AllocOf y q)) (append-nil tables.items) was)) (or_the_one (AllocOf y q) i tables.items [] in_);
        creates = λ y e in_. sound.owned.creates y e (items_down area.title i tables.items more one (alloc_of_page x p) (CreateOf y e) ((alloc_of_page x p).no_create y e) in_);
        drops = λ y e in_. sound.owned.drops y e (items_down area.title i tables.items more one (alloc_of_page x p) (DropOf y e) ((alloc_of_page x p).no_drop y e) in_);
      })
      (named_same (is_committed_in tables) live area.title tables.items more (longer_same area.title i tables.items more one (alloc_of_page x p)) sound.names) sound.below.entries

-- ---- a Free

module _ (counted : ℕ) (tables : Tables) (area : Area) (p : ℕ) (sound : IsSoundArea counted tables area) (owed : OwedByFree tables p) where
  abbrev less : List SlogItem
  less = left_out (OfPage p) tables.items

  gone : (i : SlogItem) × (is_wanted (OfPage p) i ≡ true) × IsWithOne i less tables.items
  gone = taken_out (OfPage p) tables.items owed

  page : (page_of_item gone.0 ≡ p ∷ []) × IsOfPage gone.0
  page = page_wanted p gone.0 gone.1

  abbrev freed : Area
  freed = with_taken p false area

  fewer : (q : ℕ) → how_many (λ r. r == q) (owned_pages tables.items area) ≡ how_many (λ r. r == q) (owned_pages less area) + (bit (p == q) + 0)
  fewer q = owned_with (λ r. r == q) area gone.0 less tables.items gone.2 ∙ ap (λ l. how_many (λ r. r == q) (owned_pages less area) + how_many (λ r. r == q) l) page.0

  was_owned : IsAmong p (owned_pages tables.items area)
  was_owned = among_rest p (flat_map (table_pages area) entry_numbers) (flat_map page_of_item tables.items)
      (flat_among page_of_item p gone.0 tables.items (subst (IsAmong gone.0) (sym gone.2.more_is) (the_one gone.0 gone.2.front gone.2.rest)) (subst (IsAmong p) (sym page.0) (inl refl)))

  its_page : (3 ≤ p) × (p < counted) × (area.taken p ≡ true)
  its_page = each_of (λ r. (3 ≤ r) × (r < counted) × (area.taken r ≡ true)) p (owned_pages tables.items area) sound.owned.inside was_owned

  -- it is nowhere any more
  none_left : how_many (λ r. r == p) (owned_pages less area) ≡ 0
  none_left = nothing (how_many (λ r. r == p) (owned_pages less area)) (how_many (λ r. r == p) (owned_pages tables.items area))
      (fewer p ∙ ap (λ b. how_many (λ r. r == p) (owned_pages less area) + (bit b + 0)) (eq-eqb p p refl))
      (sound.owned.once p its_page.0 its_page.1 ∙ ap (λ b. cond b 1 0) its_page.2)
    where
      nothing : (a b : ℕ) → b ≡ a + (1 + 0) → b ≡ 1 → a ≡ 0
      nothing a b one two = omega (arith, one, two)

  pub free_once : (q : ℕ) → 3 ≤ q → q < counted → how_many (λ r. r == q) (owned_pages less area) ≡ cond (freed.taken q) 1 0
  free_once q behind_ inside_ = known (q == p)
      (λ is. subst (λ q. how_many (λ r. r == q) (owned_pages less area) ≡ 0) (sym (eqb-true q p is)) none_left ∙ sym (ap (λ b. cond (cond b false (area.taken q)) 1 0) is))
      (λ isnt. plain (how_many (λ r. r == q) (owned_pages less area)) (how_many (λ r. r == q) (owned_pages tables.items area))
      (fewer q ∙ ap (λ b. how_many (λ r. r == q) (owned_pages less area) + (bit b + 0)) (turn p q ∙ isnt))
      ∙ sound.owned.once q behind_ inside_ ∙ sym (ap (λ b. cond (cond b false (area.taken q)) 1 0) isnt))
    where
      plain : (a b : ℕ) → b ≡ a + (0 + 0) → a ≡ b
      plain a b is = omega (arith, is)

  still_fine : (q : ℕ) → IsAmong q (owned_pages less area) → (3 ≤ q) × (q < counted) × (freed.taken q ≡ true)
  still_fine q in_ =
      let its = each_of (λ r. (3 ≤ r) × (r < counted) × (area.taken r ≡ true)) q (owned_pages tables.items area) sound.owned.inside (owned_more area gone.0 less tables.items gone.2 q in_) in
      (its.0, its.1, ap (λ b. cond b false (area.taken q)) (ne_eqb q p (λ is. too_many (how_many (λ r. r == p) (owned_pages less area)) none_left (subst (λ q. 1 ≤ how_many (λ r. r == q) (owned_pages less area)) is (count_among q (owned_pages less area) in_)))) ∙ its.2)
    where
      too_many : (n : ℕ) → n ≡ 0 → 1 ≤ n → ⊥
      too_many n is le = omega (arith, is, le)

  back_in : (z : SlogItem) → IsAmong z less → IsAmong z tables.items
  back_in z in_ = items_up area.title gone.0 less tables.items gone.2 page.1 z in_

  pub free_sound : IsSoundArea counted (without_item (OfPage p) tables) freed
  free_sound = others_sound counted tables area area.title freed.taken less sound
      (record {
        once = free_once;
        inside = all_of (λ q. (3 ≤ q) × (q < counted) × (freed.taken q ≡ true)) (owned_pages less area) still_fine;
        uncounted = λ q le. known (q == p) (λ is. ap (λ b. cond b false (area.taken q)) is) (λ isnt. ap (λ b. cond b false (area.taken q)) isnt ∙ sound.owned.uncounted q le);
        allocs = λ y q in_. sound.owned.allocs y q (back_in (AllocOf y q) in_);
        creates = λ y e in_. sound.owned.creates y e (back_in (CreateOf y e) in_);
        drops = λ y e in_. sound.owned.drops y e (back_in (DropOf y e) in_);
      })
      (named_same (is_committed_in tables) (xids_in tables.opens) area.title tables.items less (shorter_same area.title gone.0 less tables.items gone.2 page.1) sound.names) sound.below.entries
