-- A page is in one item, so of one transaction; and on a page in an item stands nothing of a table.
use Rattle.std.proofs.Common.{◌≡◌, ◌≢◌, inl, inr, ℕ, ◌+◌, ◌≤◌, Bool, true, false, List, [], ◌∷◌, ◌++◌, refl, sym, ◌∙◌, ap, subst, arith}
use Rattle.std.proofs.lemmas.Bool.{false≢true}
use Rattle.std.specs.List.{flat_map, list_any}
use Rattle.std.specs.Prelude.{◌==◌}
use Rattle.ctr_record_laws.proofs.area_Buckets.{on_chain}
use Rattle.ctr_record_laws.specs.area_Chains.{pages_bound, pages_from, slot_places, older_places, table_pages}
use Rattle.ctr_record_laws.specs.area_Images.{entry_numbers}
use Rattle.ctr_record_laws.specs.area_Sound.{IsAmong, how_many, page_of_item, owned_pages}
use Rattle.ctr_record_laws.proofs.Members.{among_front, among_rest, count_append, count_among}
use Rattle.ctr_record_laws.proofs.Items.{taken_out, pages_with, it_is_in}
use Rattle.ctr_record_laws.proofs.Owned.{owned_once}
use Rattle.ctr_record_laws.specs.meta_Items.{is_wanted, left_out}
use Rattle.ctr_record_laws.specs.meta_Wanted.{Wanted}
use Rattle.ctr_record_laws.specs.Bounds.{IsInBounds}
use Rattle.ctr_record_laws.specs.page_Place.{Place}
use Rattle.ctr_record_laws.specs.rec_SlogItem.{SlogItem}
use Rattle.ctr_record_laws.specs.rec_SlogItem.TheVariants.{AllocOf, FreeOf, CreateOf, DropOf}
use Rattle.ctr_record_laws.proofs.Away.{place_on_chains}
use Rattle.ctr_record_laws.proofs.Format.{item_page, item_alone}
use Rattle.ctr_record_laws.proofs.Owning.{flat_among}
use Rattle.ctr_record_laws.specs.Owed.{OwedByFormat}
use Rattle.ctr_actions.specs.Sites.{Site, IsSoundSite}

abbrev pub allocator : SlogItem → ℕ
allocator (AllocOf x p) = x
allocator (FreeOf p) = 0
allocator (CreateOf x e) = 0
allocator (DropOf x e) = 0

abbrev pub page_named : SlogItem → ℕ
page_named (AllocOf x p) = p
page_named (FreeOf p) = p
page_named (CreateOf x e) = 0
page_named (DropOf x e) = 0

abbrev pub is_taken_by_one : SlogItem → Bool
is_taken_by_one (AllocOf x p) = true
is_taken_by_one (FreeOf p) = false
is_taken_by_one (CreateOf x e) = false
is_taken_by_one (DropOf x e) = false

-- an item of a page, before others with the page, is one page of two
two_there : (p : ℕ) (a : SlogItem) (items : List SlogItem) → IsAmong p (page_of_item a) → IsAmong p (flat_map page_of_item items) → 2 ≤ how_many (λ q. q == p) (flat_map page_of_item (a ∷ items))
two_there p a items here there =
    let rest = flat_map page_of_item items in
    let test : ℕ → Bool = λ q. q == p in
    sum (how_many test (page_of_item a)) (how_many test rest) (how_many test (page_of_item a ++ rest)) (count_among p (page_of_item a) here) (count_among p rest there) (count_append test (page_of_item a) rest)
  where
    sum : (a b c : ℕ) → 1 ≤ a → 1 ≤ b → c ≡ a + b → 2 ≤ c
    sum a b c m n is = omega (arith, m, n, is)

named : (p : ℕ) (i : SlogItem) → page_of_item i ≡ p ∷ [] → IsAmong p (page_of_item i)
named p i one = subst (IsAmong p) (sym one) (inl refl)

-- two items of a page are two pages
two_pages : (p : ℕ) (i j : SlogItem) (items : List SlogItem) → page_of_item i ≡ p ∷ [] → page_of_item j ≡ p ∷ [] → i ≢ j → IsAmong i items → IsAmong j items
    → 2 ≤ how_many (λ q. q == p) (flat_map page_of_item items)
two_pages p i j [] one two apart in_ too = absurd in_
two_pages p i j (a ∷ items) one two apart (inl is) (inl same_) = absurd (apart (is ∙ sym same_))
two_pages p i j (a ∷ items) one two apart (inl is) (inr too) =
    two_there p a items (subst (λ z. IsAmong p (page_of_item z)) is (named p i one)) (flat_among page_of_item p j items too (named p j two))
two_pages p i j (a ∷ items) one two apart (inr in_) (inl same_) =
    two_there p a items (subst (λ z. IsAmong p (page_of_item z)) same_ (named p j two)) (flat_among page_of_item p i items in_ (named p i one))
two_pages p i j (a ∷ items) one two apart (inr in_) (inr too) =
    more (how_many (λ q. q == p) (page_of_item a)) (how_many (λ q. q == p) (flat_map page_of_item items)) (how_many (λ q. q == p) (page_of_item a ++ flat_map page_of_item items))
    (two_pages p i j items one two apart in_ too) (count_append (λ q. q == p) (page_of_item a) (flat_map page_of_item items))
  where
    more : (a b c : ℕ) → 2 ≤ b → c ≡ a + b → 2 ≤ c
    more a b c m is = omega (arith, m, is)

-- a page is in one item
pub one_item : (p : ℕ) (i j : SlogItem) (s : Site) → IsInBounds s.area → IsSoundSite s → page_of_item i ≡ p ∷ [] → page_of_item j ≡ p ∷ [] → i ≢ j → IsAmong i s.tables.items → IsAmong j s.tables.items → ⊥
one_item p i j s bounds sound one two apart in_ too =
    let items = s.tables.items in
    let of_items = flat_map page_of_item items in
    let of_tables = flat_map (table_pages s.area) entry_numbers in
    twice (how_many (λ q. q == p) of_tables) (how_many (λ q. q == p) of_items) (how_many (λ q. q == p) (owned_pages items s.area))
    (two_pages p i j items one two apart in_ too)
    (count_append (λ q. q == p) of_tables of_items)
    (owned_once s.area bounds s.counted _ items sound.owned p (among_rest p of_tables of_items (flat_among page_of_item p i items in_ (named p i one))))
  where
    twice : (a b c : ℕ) → 2 ≤ b → c ≡ a + b → c ≡ 1 → ⊥
    twice a b c two is one = omega (arith, two, is, one)

-- pages of two transactions are two
pub pages_apart : (x y p q : ℕ) (s : Site) → IsInBounds s.area → IsSoundSite s → x ≢ y → OwedByFormat s.tables x p → OwedByFormat s.tables y q → p ≢ q
pages_apart x y p q s bounds sound apart mine theirs is = one_item q (AllocOf x q) (AllocOf y q) s bounds sound refl refl (λ same_. apart (ap allocator same_))
    (item_page x q s.tables.items (subst (λ r. OwedByFormat s.tables x r) is mine)).0 (item_page y q s.tables.items theirs).0

-- a page that left its chain is no transaction's
pub left_apart : (x p q : ℕ) (s : Site) → IsInBounds s.area → IsSoundSite s → OwedByFormat s.tables x p → IsAmong (FreeOf q) s.tables.items → p ≢ q
left_apart x p q s bounds sound mine left is = one_item q (AllocOf x q) (FreeOf q) s bounds sound refl refl (λ same_. false≢true (sym (ap is_taken_by_one same_)))
    (item_page x q s.tables.items (subst (λ r. OwedByFormat s.tables x r) is mine)).0 left

-- who is taken out, of a page, is its only one
pub taken_alone : (w : Wanted) (p : ℕ) (s : Site) → IsInBounds s.area → IsSoundSite s → ((i : SlogItem) → is_wanted w i ≡ true → page_of_item i ≡ p ∷ []) → list_any (is_wanted w) s.tables.items ≡ true
    → (j : SlogItem) → page_of_item j ≡ p ∷ [] → IsAmong j (left_out w s.tables.items) → ⊥
taken_alone w p s bounds sound of_page there j its in_ =
    let items = s.tables.items in
    let test : ℕ → Bool = λ q. q == p in
    let of_tables = flat_map (table_pages s.area) entry_numbers in
    let less = left_out w items in
    let found = taken_out w items there in
    let one = found.2 in
    twice (how_many test of_tables) (how_many test (flat_map page_of_item items)) (how_many test (flat_map page_of_item less)) (how_many test (page_of_item found.0)) (how_many test (owned_pages items s.area))
    (count_among p (flat_map page_of_item less) (flat_among page_of_item p j less in_ (subst (IsAmong p) (sym its) (inl refl))))
    (count_among p (page_of_item found.0) (subst (IsAmong p) (sym (of_page found.0 found.1)) (inl refl)))
    (ap (λ is. how_many test (flat_map page_of_item is)) one.more_is ∙ pages_with test found.0 one.front one.rest ∙ ap (λ is. how_many test (flat_map page_of_item is) + how_many test (page_of_item found.0)) (sym one.less_is))
    (count_append test of_tables (flat_map page_of_item items))
    (owned_once s.area bounds s.counted _ items sound.owned p (among_rest p of_tables (flat_map page_of_item items) (flat_among page_of_item p found.0 items (it_is_in found.0 less items one) (subst (IsAmong p) (sym (of_page found.0 found.1)) (inl refl)))))
  where
    twice : (a b c d e : ℕ) → 1 ≤ c → 1 ≤ d → b ≡ c + d → e ≡ a + b → e ≡ 1 → ⊥
    twice a b c d e one two sum all is = omega (arith, one, two, sum, all, is)

-- ---- what stands on a page of a table stands on no page in an item

module _ (x p : ℕ) (s : Site) (bounds : IsInBounds s.area) (sound : IsSoundSite s) (mine : OwedByFormat s.tables x p) where
  alone : (f q : ℕ) → IsAmong q (table_pages s.area f) → q ≢ p
  alone f q in_ is = item_alone s.counted s.tables s.area bounds sound.owned p (item_page x p s.tables.items mine).1 f (subst (λ r. IsAmong r (table_pages s.area f)) is in_)

  pub slot_elsewhere : (f : ℕ) (at : Place) → IsAmong at (slot_places s.area f) → at.page ≢ p
  slot_elsewhere f at in_ = alone f at.page
      (among_front at.page (flat_map (pages_from pages_bound s.area.header) (s.area.firsts f).buckets) (pages_from pages_bound s.area.header (s.area.firsts f).versions)
      (place_on_chains s.area (s.area.firsts f).buckets at in_))

  pub older_elsewhere : (f : ℕ) (at : Place) → IsAmong at (older_places s.area f) → at.page ≢ p
  older_elsewhere f at in_ = alone f at.page
      (among_rest at.page (flat_map (pages_from pages_bound s.area.header) (s.area.firsts f).buckets) (pages_from pages_bound s.area.header (s.area.firsts f).versions)
      (on_chain s.area (s.area.firsts f).versions at in_).0)
