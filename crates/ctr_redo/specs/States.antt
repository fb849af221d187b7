-- The state that pages at home and the records of a log fold to.
use Rattle.std.specs.Prelude.{◌≡◌, ℕ, min, zero, suc, ◌+◌, ◌<◌, ◌==◌, if◌then◌else◌, List, [], ◌∷◌, ◌++◌, length}
use Rattle.ctr_meta.specs.rec_Record.{Record}
use Rattle.ctr_pool.specs.Pages.{PageHeld}
use Rattle.ctr_meta.specs.Tables.{Tables}
use Rattle.ctr_meta.specs.Effects.{effect, tables_of}
use Rattle.ctr_redo.specs.Overlaid.{touches, changed_by, overlaid}

-- how many pages there are at most, counted or not
unfoldable pub page_limit : ℕ
page_limit = 30000

-- What the layers above see of an image: how many pages are counted, the bytes of each page there
-- may be, the tables. A page that isn't counted is blank.
pub record State : Type 0 where
  pub counted : ℕ
  pub pages : List (List ℕ)
  pub tables : Tables

-- What folds to a state: how many pages are counted, each page as it stands at home, the LSN of the
-- log's first record, and the log's records. The log may be in two generations, whose records stand
-- one behind another.
pub record Stored : Type 0 where
  pub counted : ℕ
  pub homes : ℕ → PageHeld
  pub first : ℕ
  pub records : List Record

-- n pages from number p on, each overlaid by records, the first of which has this LSN
abbrev pub pages_of : (ℕ → PageHeld) → ℕ → List Record → ℕ → ℕ → List (List ℕ)
pages_of homes first rs p zero = []
pages_of homes first rs p (suc n) =
    (overlaid p first rs (homes p)).body ∷ pages_of homes first rs (p + 1) n

-- the state: each page overlaid by the records, and the tables that they leave
abbrev pub state_of : Stored → State
state_of i = record {
  counted = i.counted;
  pages = pages_of i.homes i.first i.records 0 page_limit;
  tables = tables_of i.records;
}

-- ---- a record as a step of the state

-- pages from number p on, with a record
abbrev pub pages_after : ℕ → Record → List (List ℕ) → List (List ℕ)
pages_after p r [] = []
pages_after p r (b ∷ bs) = (if touches r p then changed_by r b else b) ∷ pages_after (p + 1) r bs

-- the state with a record: its page is changed by it, and the tables by its effect
abbrev pub step : Record → State → State
step r s = record {
  counted = s.counted;
  pages = pages_after 0 r s.pages;
  tables = effect r s.tables;
}

-- with records, one after another
abbrev pub steps : List Record → State → State
steps [] s = s
steps (r ∷ rs) s = steps rs (step r s)

-- ---- growth

-- how many pages are counted behind a growth: 64 more, and 30,000 at most
abbrev pub grown : ℕ → ℕ
grown n = min (n + 64) 30000

-- the state where so many pages are counted
abbrev pub counting : ℕ → State → State
counting n s = record s { counted = n }

-- ---- how what is stored changes

-- What is stored, with records more behind its log.
abbrev pub with_more : List Record → Stored → Stored
with_more rs i = record i { records = i.records ++ rs }

-- a page is this at home, and the others are as they were
abbrev pub home_put : ℕ → PageHeld → (ℕ → PageHeld) → ℕ → PageHeld
home_put p v homes q = if q == p then v else homes q

-- one page is written home
abbrev pub with_home : ℕ → PageHeld → Stored → Stored
with_home p v i = record i { homes = home_put p v i.homes }

-- so many pages are counted
abbrev pub with_count : ℕ → Stored → Stored
with_count n i = record i { counted = n }

-- without the first records of the log, the other ones being these
abbrev pub without_older : List Record → List Record → Stored → Stored
without_older xs ys i = record i { first = i.first + length xs; records = ys }

-- the LSN of the next record
abbrev pub next_of : Stored → ℕ
next_of i = i.first + length i.records

-- each page's home has only records below an LSN
abbrev pub LieBelow : ℕ → (ℕ → PageHeld) → Type 0
LieBelow next homes = (p : ℕ) → (homes p).lsn < next

-- each page's home has these records, the first of which has this LSN
abbrev pub AreHome : ℕ → List Record → (ℕ → PageHeld) → Type 0
AreHome first rs homes = (p : ℕ) → overlaid p first rs (homes p) ≡ homes p

-- a page by its number
abbrev pub page_at : ℕ → List (List ℕ) → List ℕ
page_at p [] = []
page_at zero (b ∷ bs) = b
page_at (suc p) (b ∷ bs) = page_at p bs
