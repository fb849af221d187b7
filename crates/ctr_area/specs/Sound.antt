-- When an area and its tables are sound: what every record keeps. The parts are read apart, each
-- from as little as it needs.
use Rattle.std.specs.Prelude.{◌≡◌, ◌⊎◌, ℕ, ◌+◌, ◌==◌, ◌<◌, ◌≤◌, ℤ, Bool, true, false, ◌&&◌, ◌||◌, not, List, [], ◌∷◌, ◌++◌, drop, length, map, Option, None, Some, if◌then◌else◌}
use Rattle.std.specs.List.{AllByRecursion, flat_map, filter}
use Rattle.ctr_page.specs.ctr_rec.declared.record.SlogItem.{SlogItem}
use Rattle.ctr_page.specs.ctr_rec.declared.record.SlogItem.TheVariants.{AllocOf, FreeOf, CreateOf, DropOf}
use Rattle.ctr_meta.specs.Tables.{Tables}
use Rattle.ctr_meta.specs.Items.{is_item_by}
use Rattle.ctr_page.specs.declared.header.Header.{Header}
use Rattle.ctr_page.specs.declared.rows.Place.{Place}
use Rattle.ctr_page.specs.Places.{bucket_of}
use Rattle.ctr_area.specs.Areas.{Title, RowVersion, Slot, Older, Area}
use Rattle.ctr_area.specs.Chains.{pages_bound, older_bound, pages_from, slot_places, older_places, table_pages, places_along, chain_of, Leads}
use Rattle.ctr_area.specs.Images.{is_committed_in, is_live, is_standing, entry_numbers}

-- ---- words

-- An element is one of a list.
abbrev pub IsAmong : {A : Type 0} → A → List A → Type 0
IsAmong x [] = ⊥
IsAmong x (y ∷ ys) = (x ≡ y) ⊎ IsAmong x ys

-- each is one of them once
abbrev pub AreAllOnce : List ℕ → Type 0
AreAllOnce [] = Unit {0}
AreAllOnce (x ∷ xs) = (IsAmong x xs → ⊥) × AreAllOnce xs

-- how many pass a test
abbrev pub how_many : {A : Type 0} → (A → Bool) → List A → ℕ
how_many test [] = 0
how_many test (x ∷ xs) = (if test x then 1 else 0) + how_many test xs

-- the transactions of these pairs
abbrev pub xids_in : List (ℕ × ℕ) → List ℕ
xids_in ps = map (λ (p : ℕ × ℕ). p.0) ps

-- the place is that of a used slot of a table
abbrev pub IsUsedSlot : Area → ℕ → Place → Type 0
IsUsedSlot area e at = IsAmong at (slot_places area e) × ((area.slot at).used ≡ true)

-- ---- the parts

-- A chain of pages ends, and all its pages are of one kind, entry and bucket.
abbrev pub EndsIn : ℕ → (ℕ → Header) → (Header → Type 0) → ℕ → Type 0
EndsIn n header Is p =
    AllByRecursion (λ q. Is (header q)) (pages_from n header p)
    × (pages_from (n + 1) header p ≡ pages_from n header p)

-- a page of rows of an entry and a bucket
abbrev pub IsOfRows : ℕ → ℕ → Header → Type 0
IsOfRows e bucket h = (h.kind ≡ 1) × (h.entry ≡ e) × (h.bucket ≡ bucket)

-- a page of versions of an entry
abbrev pub IsOfVersions : ℕ → Header → Type 0
IsOfVersions e h = (h.kind ≡ 2) × (h.entry ≡ e) × (h.bucket ≡ 0)

-- from this bucket on each has a chain of pages of its rows, which begins at its first page
abbrev pub AreBuckets : Area → ℕ → ℕ → List ℕ → Type 0
AreBuckets area e bucket [] = Unit {0}
AreBuckets area e bucket (p ∷ ps) =
    EndsIn pages_bound area.header (IsOfRows e bucket) p × AreBuckets area e (bucket + 1) ps

-- Chains of pages end, and lead to pages of theirs.
pub record AreReadable (area : Area) : Type 0 where
  pub rows : (e : ℕ) → AreBuckets area e 0 (area.firsts e).buckets
  pub versions : (e : ℕ) → EndsIn pages_bound area.header (IsOfVersions e) (area.firsts e).versions

-- Every version behind a head is committed, and a head is somebody's.
abbrev pub AreBehind : (ℕ → Bool) → Area → Type 0
AreBehind committed area = (e : ℕ) (at : Place) → IsUsedSlot area e at
    → (0 < (area.slot at).head.0)
    × AllByRecursion (λ (v : RowVersion). committed v.0 ≡ true)
    (drop 1 (chain_of area.older (area.slot at)))

-- The slot at a place is a used one, and its head is by the transaction.
abbrev pub is_headed_by : (Place → Slot) → ℕ → Place → Bool
is_headed_by slot x at = (slot at).used && ((slot at).head.0 == x)

-- how many heads a transaction has, in all tables
abbrev pub head_count : Area → ℕ → ℕ
head_count area x =
    how_many (is_headed_by area.slot x) (flat_map (slot_places area) entry_numbers)

-- Each open or aborted transaction has as many heads as the tables say.
abbrev pub AreCounted : Tables → Area → Type 0
AreCounted tables area =
    AllByRecursion (λ (p : ℕ × ℕ). p.1 ≡ head_count area p.0) (tables.opens ++ tables.aborted)

-- the page of an item of the secondary log
abbrev pub page_of_item : SlogItem → List ℕ
page_of_item (AllocOf x p) = p ∷ []
page_of_item (FreeOf p) = p ∷ []
page_of_item (CreateOf x e) = []
page_of_item (DropOf x e) = []

-- the pages that are in a chain or an item, as often as they are
abbrev pub owned_pages : List SlogItem → Area → List ℕ
owned_pages items area =
    flat_map (table_pages area) entry_numbers ++ flat_map page_of_item items

-- Each counted page from 3 on is in one chain or one item, once, exactly where it is allocated; no
-- other page is in any, and none that isn't counted is allocated; and whoever has an item is open.
pub record AreOwned (counted : ℕ) (live : List ℕ) (items : List SlogItem) (area : Area) : Type 0
  where
    pub once : (p : ℕ) → 3 ≤ p → p < counted
        → how_many (λ q. q == p) (owned_pages items area) ≡ (if area.taken p then 1 else 0)
    pub inside : AllByRecursion (λ p. (3 ≤ p) × (p < counted) × (area.taken p ≡ true))
        (owned_pages items area)
    pub uncounted : (p : ℕ) → counted ≤ p → area.taken p ≡ false
    pub allocs : (x p : ℕ) → IsAmong (AllocOf x p) items → IsAmong x live
    pub creates : (x e : ℕ) → IsAmong (CreateOf x e) items → IsAmong x live
    pub drops : (x e : ℕ) → IsAmong (DropOf x e) items → IsAmong x live

-- A key has at most one used slot of a table, and it is in the key's bucket.
pub record AreKeyed (area : Area) : Type 0 where
  pub once : (e : ℕ) (a b : Place) → IsUsedSlot area e a → IsUsedSlot area e b
      → (area.slot a).key ≡ (area.slot b).key → a ≡ b
  pub bucket : (e : ℕ) (at : Place) → IsUsedSlot area e at
      → (area.header at.page).bucket ≡ bucket_of (area.slot at).key

-- a version entry of the table that is used, and of the key
abbrev pub IsKeptFor : Area → ℕ → ℤ → Place → Older → Type 0
IsKeptFor area e key at older =
    IsAmong at (older_places area e) × (older.used ≡ true) × (older.key ≡ key)

-- the version entries of a slot's chain
abbrev pub along : Area → Place → List Place
along area at = places_along older_bound area.older (area.slot at).pointer

-- Pointers lead through used version entries of the key and the table, and none is in two chains.
pub record ArePointed (area : Area) : Type 0 where
  pub lead : (e : ℕ) (at : Place) → IsUsedSlot area e at
      → Leads older_bound area.older (IsKeptFor area e (area.slot at).key) (area.slot at).pointer
  pub apart : (e f : ℕ) (a b q : Place) → IsUsedSlot area e a → IsUsedSlot area f b
      → IsAmong q (along area a) → IsAmong q (along area b) → a ≡ b

-- ---- the catalog

-- of the live entries of one name that count there is at most one
abbrev pub IsOneOf : (ℕ → Title) → (Title → Bool) → Type 0
IsOneOf title counts = (e f : ℕ) → e < 32 → f < 32 → is_live (title e) ≡ true
    → is_live (title f) ≡ true → (title e).name ≡ (title f).name
    → counts (title e) ≡ true → counts (title f) ≡ true → e ≡ f

-- an item is undone: the table is dead, or isn't dropped
abbrev pub undone : SlogItem → (ℕ → Title) → ℕ → Title
undone (AllocOf x p) title = title
undone (FreeOf p) title = title
undone (CreateOf x e) title =
    λ f. if f == e then record (title e) { state = 2 } else title f
undone (DropOf x e) title =
    λ f. if f == e then record (title e) { dropper = 0 } else title f

-- A title when the items on it are undone, the last of them first.
abbrev pub all_undone : List SlogItem → (ℕ → Title) → ℕ → Title
all_undone [] title = title
all_undone (i ∷ is) title = undone i (all_undone is title)

-- what a transaction sees of a table beside what is committed
abbrev pub stands_for : (ℕ → Bool) → ℕ → Title → Bool
stands_for committed x title =
    (committed title.creator || (title.creator == x))
    && not (committed title.dropper || (title.dropper == x))

-- the item says that an entry was created
abbrev pub is_creation : ℕ → SlogItem → Bool
is_creation e (AllocOf x p) = false
is_creation e (FreeOf p) = false
is_creation e (CreateOf x f) = f == e
is_creation e (DropOf x f) = false

-- the item says that an entry was dropped
abbrev pub is_dropping : ℕ → SlogItem → Bool
is_dropping e (AllocOf x p) = false
is_dropping e (FreeOf p) = false
is_dropping e (CreateOf x f) = false
is_dropping e (DropOf x f) = f == e

-- an item of an entry of the catalog by a transaction
abbrev pub IsSchemaItem : ℕ → ℕ → List SlogItem → Type 0
IsSchemaItem x e items = IsAmong (CreateOf x e) items ⊎ IsAmong (DropOf x e) items

-- Who made a live entry is committed, or open with an item that says so; and so is who dropped it.
-- An item is of a live entry that says the same. An entry has at most one item of each kind, the
-- creation first, and the items of a name are of one transaction. Of each name at most one entry
-- stands, for each open transaction too, whatever of its latest items is undone.
pub record AreNamed (committed : ℕ → Bool) (live : List ℕ) (items : List SlogItem)
    (title : ℕ → Title) : Type 0 where
  pub creators : (e : ℕ) → e < 32 → is_live (title e) ≡ true
      → (committed (title e).creator ≡ true)
      ⊎ (IsAmong (title e).creator live × IsAmong (CreateOf (title e).creator e) items)
  pub droppers : (e : ℕ) → e < 32 → is_live (title e) ≡ true
      → ((title e).dropper ≡ 0) ⊎ ((committed (title e).dropper ≡ true)
      ⊎ (IsAmong (title e).dropper live × IsAmong (DropOf (title e).dropper e) items))
  pub creates : (x e : ℕ) → IsAmong (CreateOf x e) items
      → (is_live (title e) ≡ true) × ((title e).creator ≡ x)
      × (((title e).dropper ≡ 0) ⊎ ((title e).dropper ≡ x))
  pub drops : (x e : ℕ) → IsAmong (DropOf x e) items
      → (is_live (title e) ≡ true) × ((title e).dropper ≡ x)
  pub once : (e : ℕ)
      → (how_many (is_creation e) items ≤ 1) × (how_many (is_dropping e) items ≤ 1)
  pub in_order : (front rest : List SlogItem) (x y e : ℕ)
      → items ≡ front ++ CreateOf x e ∷ rest → IsAmong (DropOf y e) front → ⊥
  pub of_one : (x y e f : ℕ) → IsSchemaItem x e items → IsSchemaItem y f items
      → (title e).name ≡ (title f).name → x ≡ y
  pub undoing : (x k : ℕ) → IsAmong x live
      → IsOneOf (all_undone (drop k (filter (is_item_by x) items)) title) (stands_for committed x)
  pub standing : IsOneOf title (is_standing committed)

-- ---- numbers of transactions

-- where there is such a version, it is by one that was drawn
abbrev pub PreviousBelow : ℕ → Option RowVersion → Type 0
PreviousBelow next None = Unit {0}
PreviousBelow next (Some v) = v.0 < next

-- Every number in slots, version entries and entries of the catalog is below the next; so are those
-- of open and aborted transactions, each from 1 on, once, and in one of the two.
pub record NumbersBelow (next : ℕ) (xids : List ℕ) (area : Area) : Type 0 where
  pub slots : (e : ℕ) (at : Place) → IsUsedSlot area e at
      → ((area.slot at).head.0 < next) × PreviousBelow next (area.slot at).previous
  pub older : (e : ℕ) (at : Place) → IsAmong at (older_places area e)
      → (area.older at).used ≡ true → (area.older at).version.0 < next
  pub entries : (e : ℕ) → ((area.title e).state ≡ 0)
      ⊎ (((area.title e).creator < next) × ((area.title e).dropper < next))
  pub drawn : AllByRecursion (λ x. (0 < x) × (x < next)) xids
  pub once : AreAllOnce xids

-- ---- all of it

-- An area is sound with its tables, where so many pages are counted.
pub record IsSoundArea (counted : ℕ) (tables : Tables) (area : Area) : Type 0 where
  pub readable : AreReadable area
  pub behind : AreBehind (is_committed_in tables) area
  pub counts : AreCounted tables area
  pub owned : AreOwned counted (xids_in tables.opens) tables.items area
  pub keys : AreKeyed area
  pub pointers : ArePointed area
  pub names : AreNamed (is_committed_in tables) (xids_in tables.opens) tables.items area.title
  pub below : NumbersBelow tables.next (xids_in tables.opens ++ xids_in tables.aborted) area

-- ---- nothing is left to clean

-- Each used slot of a live table has one version, committed and no tombstone; no version entry is
-- used, no transaction is in the aborted map, and no entry of the catalog is dead.
pub record IsBare (tables : Tables) (area : Area) : Type 0 where
  pub slots : (e : ℕ) (at : Place) → is_live (area.title e) ≡ true → IsUsedSlot area e at
      → (length (chain_of area.older (area.slot at)) ≡ 1)
      × (is_committed_in tables (area.slot at).head.0 ≡ true)
      × ((area.slot at).head.1 ≡ None → ⊥)
  pub older : (e : ℕ) (at : Place) → IsAmong at (older_places area e)
      → (area.older at).used ≡ false
  pub aborted : tables.aborted ≡ []
  pub entries : (e : ℕ) → (area.title e).state ≡ 2 → ⊥
