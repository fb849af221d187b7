-- A part of a bucket's chain that was read, and what is remembered of it.
use Rattle.std.specs.Prelude.{◌≡◌, ◌≢◌, ℕ, ◌+◌, ◌*◌, ◌/◌, ◌%◌, ◌≤◌, ◌<◌, ◌==◌, ◌&&◌, nat_lt, nat_eq, ℤ, Bool, true, false, List, [], ◌∷◌, length, take, Option, None, Some, Ok, if◌then◌else◌}
use Rattle.indexmap.specs.IndexSet.{IndexSet, contains, index_set_len}
use Rattle.ctr_rec.specs.types_Kind.{Kind}
use Rattle.ctr_page.specs.declared.checks.Chain.{Chain}
use Rattle.ctr_page.specs.declared.checks.Chain.TheVariants.{Rows}
use Rattle.ctr_page.specs.declared.rows.Place.{Place}
use Rattle.ctr_page.specs.declared.table.TheConstants.{ENTRY_SIZE}
use Rattle.ctr_page.specs.Reading.{header_in}
use Rattle.ctr_page.specs.Columns.{entry_at, first_in, columns_in, kinds_of}
use Rattle.ctr_page.specs.Damage.{header_check, entry_check}
use Rattle.ctr_directory.specs.declared.remembered.Remembered.{Remembered}
use Rattle.ctr_directory.specs.declared.slots.Span.{Span}
use Rattle.ctr_directory.specs.Keys.{key_on, slots_of_kinds, AllUsed, SlotsPass, SaysSameOutside, KeysLead}

-- by which checks the pages of a chain are read: the chain, the kinds of the columns behind the
-- key, and how many pages are counted
pub record Checks : Type 0 where
  pub chain : Chain
  pub kinds : List Kind
  pub counted : ℕ

-- the header of a page passes, and each of its slots
abbrev pub RowPagePasses : Checks → List ℕ → Type 0
RowPagePasses c page =
    (header_check c.chain c.counted page ≡ Ok tt)
    × SlotsPass c.kinds c.counted (slots_of_kinds c.kinds) page

-- From a page on a chain leads along these to another page, which isn't among them; 0 is the end.
-- Each of them passes.
abbrev pub RunsAlong : (List ℕ → Type 0) → (ℕ → List ℕ) → ℕ → List ℕ → ℕ → Type 0
RunsAlong Passes pages p [] end = p ≡ end
RunsAlong Passes pages p (q ∷ qs) end =
    (q ≡ p) × (p ≢ 0) × Passes (pages p)
    × RunsAlong Passes pages (header_in (pages p)).next qs end

-- whether a page is one of these
abbrev pub is_page_of : ℕ → List ℕ → Bool
is_page_of p [] = false
is_page_of p (q ∷ qs) = if q == p then true else is_page_of p qs

-- What a page of the catalog says of a bucket, whose table's entry passes and isn't free: the kinds
-- of the columns behind the key, and the first page.
pub record BucketSaid (counted e bucket : ℕ) (page : List ℕ) (kinds : List Kind)
    (first : ℕ) : Type 0
  where
    pub checked : entry_check counted (ENTRY_SIZE * (e % 16)) page ≡ Ok tt
    pub used : (entry_at (e % 16) page).state ≢ 0
    pub kinds_are : kinds_of (columns_in (entry_at (e % 16) page).bytes) ≡ kinds
    pub first_is : first_in bucket (entry_at (e % 16) page).bytes ≡ first

-- ---- what is remembered

-- the kinds of the columns behind the key
abbrev pub kinds_kept : Remembered → List Kind
kinds_kept b = take b.count b.kinds

-- by which checks its pages are read
abbrev pub checks_of : ℕ → Remembered → Checks
checks_of counted b = record {
  chain = Rows b.entry b.bucket;
  kinds = kinds_kept b;
  counted = counted;
}

-- the keys of the pages of a set
abbrev pub keys_in : {S : Type 0} → IndexSet ℕ S → List Kind → (ℕ → List ℕ) → ℕ → ℕ → Option ℤ
keys_in set kinds pages p n =
    if contains nat_eq set p && nat_lt n (slots_of_kinds kinds) then key_on kinds n (pages p)
    else None

-- Of the pages of a set, those outside of another set have no free slot.
abbrev pub SparesTell : {S T : Type 0} → IndexSet ℕ S → IndexSet ℕ T → List Kind → (ℕ → List ℕ)
    → Type 0
SparesTell set spare kinds pages =
    (p : ℕ) → contains nat_eq set p ≡ true → contains nat_eq spare p ≡ false
    → AllUsed kinds (pages p)

-- A bucket is remembered as its pages are: what the catalog says of it; its chain from the head on
-- along the pages that were read, which are no more than a chain can have; where each of their keys
-- stands; and which of them may have a free slot.
pub record IsRememberedBucket (counted : ℕ) (pages : ℕ → List ℕ) (b : Remembered) : Type 0 where
  pub said : BucketSaid counted b.entry b.bucket (pages (1 + b.entry / 16)) (kinds_kept b) b.first
  pub chain : List ℕ
  pub runs : RunsAlong (RowPagePasses (checks_of counted b)) pages b.head chain b.rest
  pub few : length chain + 3 ≤ counted
  pub long : length chain ≡ index_set_len b.pages
  pub there : (p : ℕ) → contains nat_eq b.pages p ≡ is_page_of p chain
  pub leads : KeysLead (keys_in b.pages (kinds_kept b) pages) b.places
  pub spares : SparesTell b.pages b.spare (kinds_kept b) pages

-- what is remembered is exact
abbrev pub IsRemembered : ℕ → (ℕ → List ℕ) → Remembered → Type 0
IsRemembered counted pages b = b.known ≡ true → IsRememberedBucket counted pages b

-- ---- what it tells

-- A key is found along a chain at its place, and at no other; or it isn't there.
abbrev pub TellsKey : List Kind → (ℕ → List ℕ) → List ℕ → ℤ → Option Place → Type 0
TellsKey kinds pages chain key found =
    (at : Place) → (is_page_of at.page chain ≡ true) → at.slot < slots_of_kinds kinds
    → key_on kinds at.slot (pages at.page) ≡ Some key → found ≡ Some at

-- where a place is told, it is one of the chain's, and has the key
abbrev pub IsPlaceTold : List Kind → (ℕ → List ℕ) → List ℕ → ℤ → Option Place → Type 0
IsPlaceTold kinds pages chain key None = Unit {0}
IsPlaceTold kinds pages chain key (Some at) =
    (is_page_of at.page chain ≡ true) × (at.slot < slots_of_kinds kinds)
    × (key_on kinds at.slot (pages at.page) ≡ Some key)

-- The whole chain of a bucket passes its checks, from the first page that the catalog says on to
-- the end.
pub record KnowsChain (counted : ℕ) (pages : ℕ → List ℕ) (e bucket : ℕ) : Type 0 where
  pub kinds : List Kind
  pub first : ℕ
  pub chain : List ℕ
  pub said : BucketSaid counted e bucket (pages (1 + e / 16)) kinds first
  pub runs : RunsAlong
      (RowPagePasses (record { chain = Rows e bucket; kinds = kinds; counted = counted }))
      pages first chain 0
  pub few : length chain + 3 ≤ counted

-- A key is told of the whole chain of a bucket.
pub record Knows (counted : ℕ) (pages : ℕ → List ℕ) (e bucket : ℕ) (key : ℤ) (found : Option Place)
    : Type 0 where
  pub all : KnowsChain counted pages e bucket
  pub tells : TellsKey all.kinds pages all.chain key found
  pub told : IsPlaceTold all.kinds pages all.chain key found

-- The whole chain of a bucket has no free slot.
pub record KnowsFull (counted : ℕ) (pages : ℕ → List ℕ) (e bucket : ℕ) : Type 0 where
  pub all : KnowsChain counted pages e bucket
  pub full : (p : ℕ) → is_page_of p all.chain ≡ true → AllUsed all.kinds (pages p)

-- one page has other bytes now, from one place up to another
pub record ChangesPage (number : ℕ) (span : Span) (before after : List ℕ) (a b : ℕ → List ℕ)
    : Type 0 where
  pub was : a number ≡ before
  pub is : b number ≡ after
  pub outside : SaysSameOutside span before after
  pub others : (p : ℕ) → p ≢ number → b p ≡ a p
