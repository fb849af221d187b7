-- The table that a page is of: the page names the table's entry of the catalog, and this has its
-- columns.
use Rattle.std.specs.Prelude.{◌≡◌, ℕ, ◌+◌, ◌-◌, ◌*◌, ◌/◌, ◌%◌, ◌==◌, ◌<◌, ◌≤◌, nat_lt, List, take, ⊤, Result, Ok, Err, if◌then◌else◌}
use Rattle.ctr_bytes.specs.Fields.{field}
use Rattle.ctr_bytes.specs.Following.{◌>>=◌}
use Rattle.ctr_rec.specs.declared.decoding.BadRecord.{BadRecord}
use Rattle.ctr_rec.specs.Damage.{wrong, expect, at_most}
use Rattle.ctr_page.specs.declared.walk.BadChain.{BadChain}
use Rattle.ctr_page.specs.declared.walk.BadChain.TheVariants.{OnPage}
use Rattle.ctr_page.specs.declared.table.TheConstants.{ENTRY_SIZE, KIND_AT, OWNER_AT}
use Rattle.ctr_page.specs.Columns.{entry_at, columns_in, kinds_of}
use Rattle.ctr_page.specs.Damage.{entry_check}
use Rattle.ctr_passed.specs.area_Reading.{area_of}
use Rattle.ctr_passed.specs.area_Checked.{kinds_at}
use Rattle.ctr_walk.specs.declared.table.TableOf.{TableOf}

-- ---- checks, in the order in which they are told

-- The check of a page to which a pointer leads, whose header has this check: the page is counted,
-- the header passes, and the page is behind those of the catalog.
abbrev pub there_check : Result ⊤ BadRecord → ℕ → ℕ → Result ⊤ BadRecord
there_check header counted p = do
  there ← at_most 0 (counted - 1) p
  passes ← header
  if nat_lt p 3 then Err (wrong 0 3 p) else Ok tt

-- The check that a page is there, of the kind that is wanted, and names one of the 32 entries of
-- the catalog.
abbrev pub owner_check : ℕ → ℕ → ℕ → List ℕ → Result ⊤ BadRecord
owner_check kind counted p page =
    there_check (expect KIND_AT kind (field 1 KIND_AT page)) counted p
    >>= λ _. at_most OWNER_AT 31 (field 1 OWNER_AT page)

-- the entry of a number on a page of the catalog passes, and isn't free
abbrev pub named_check : ℕ → ℕ → List ℕ → Result ⊤ BadRecord
named_check counted n page =
    entry_check counted (ENTRY_SIZE * n) page
    >>= λ _. if (entry_at n page).state == 0 then Err (wrong (ENTRY_SIZE * n) 1 0) else Ok tt

-- The check of a table's entry by its number in the catalog.
abbrev pub catalog_check : ℕ → (ℕ → List ℕ) → ℕ → Result ⊤ BadRecord
catalog_check counted pages e = named_check counted (e % 16) (pages (1 + e / 16))

-- what is wrong on a page, with its number
abbrev pub told_of : ℕ → Result ⊤ BadRecord → Result ⊤ BadChain
told_of p (Ok x) = Ok tt
told_of p (Err bad) = Err (OnPage p bad)

-- the entry that a page names
abbrev pub owner_of : List ℕ → ℕ
owner_of page = field 1 OWNER_AT page

-- To know the table of a page, of rows (1) or of versions (2), the page and the entry that it names
-- are read.
abbrev pub table_check : ℕ → ℕ → (ℕ → List ℕ) → ℕ → Result ⊤ BadChain
table_check kind counted pages p =
    told_of p (owner_check kind counted p (pages p))
    >>= λ _. told_of (1 + owner_of (pages p) / 16)
    (catalog_check counted pages (owner_of (pages p)))

-- ---- what is found

-- an entry of the catalog passes, and its columns behind the key hold so many of these; or not
abbrev pub KindsSaid : ℕ → ℕ → List ℕ → Result TableOf BadRecord → Type 0
KindsSaid counted n page (Ok t) =
    (named_check counted n page ≡ Ok tt)
    × (take t.count t.kinds ≡ kinds_of (columns_in (entry_at n page).bytes))
KindsSaid counted n page (Err bad) = named_check counted n page ≡ Err bad

-- the page names an entry, or not
abbrev pub OwnerSaid : ℕ → ℕ → ℕ → List ℕ → Result ℕ BadRecord → Type 0
OwnerSaid kind counted p page (Ok e) =
    (owner_check kind counted p page ≡ Ok tt) × (e ≡ owner_of page)
OwnerSaid kind counted p page (Err bad) = owner_check kind counted p page ≡ Err bad

-- the table has an entry of the catalog, and at most 7 columns behind the key
abbrev pub TableFits : TableOf → Type 0
TableFits t = (t.entry < 32) × (t.count ≤ 7)

-- The table of a page: the entry that the page names, and the kinds of its columns behind the key;
-- or what is wrong on the way there.
abbrev pub TableSaid : ℕ → ℕ → (ℕ → List ℕ) → ℕ → Result TableOf BadChain → Type 0
TableSaid kind counted pages p (Ok t) =
    (table_check kind counted pages p ≡ Ok tt) × (t.entry ≡ owner_of (pages p))
    × (take t.count t.kinds ≡ kinds_at (area_of pages) t.entry)
TableSaid kind counted pages p (Err bad) = table_check kind counted pages p ≡ Err bad
