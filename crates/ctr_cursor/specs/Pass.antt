-- A pass over the places of a site: which position comes behind which.
use Rattle.std.specs.Prelude.{◌≡◌, ℕ, ◌+◌, ◌<◌, ◌==◌, nat_lt, List, [], ◌∷◌, drop, length, Option, None, Some, if◌then◌else◌}
use Rattle.ctr_page.specs.declared.rows.Place.{Place}
use Rattle.ctr_area.specs.meta_Tables.{Tables}
use Rattle.ctr_area.specs.Areas.{Area}
use Rattle.ctr_area.specs.Chains.{slot_places, older_places}
use Rattle.ctr_area.specs.Sound.{IsAmong}
use Rattle.ctr_actions.specs.Sites.{Site}
use Rattle.ctr_cursor.specs.declared.position.Position.{Position}
use Rattle.ctr_cursor.specs.declared.position.Position.TheVariants.{Entry, Slot, Kept, Aborted}

-- ---- in a chain of pages

-- the first place of a chain that goes on with this page; 0 is no page
abbrev pub first_on : ℕ → Option Place
first_on p = if p == 0 then None else Some (record { page = p; slot = 0 })

-- The place behind one in its chain: the next one of its page; behind the last one the first of the
-- page to which the header leads.
abbrev pub place_behind : Area → Place → Option Place
place_behind area at =
    if nat_lt (at.slot + 1) (area.room at.page) then
    Some (record { page = at.page; slot = at.slot + 1 })
    else first_on (area.header at.page).next

-- ---- positions

-- the position at a place, made so; where there is no place, this other one
abbrev pub at_or : (Place → Position) → Option Position → Option Place → Option Position
at_or make other None = other
at_or make other (Some at) = Some (make at)

-- the aborted transaction of this number in the order of abort, where there is one
abbrev pub aborted_from : ℕ → Tables → Option Position
aborted_from n tables = if nat_lt n (length tables.aborted) then Some (Aborted n) else None

-- behind all pages of an entry: the next of the 32 entries; behind the last one the aborted
-- transactions
abbrev pub behind_pages_of : ℕ → Tables → Option Position
behind_pages_of e tables = if nat_lt (e + 1) 32 then Some (Entry (e + 1)) else aborted_from 0 tables

-- the first version entry of an entry, or what is behind its pages
abbrev pub kept_of : ℕ → Site → Option Position
kept_of e s =
    at_or (λ at. Kept e at) (behind_pages_of e s.tables) (first_on (s.area.firsts e).versions)

-- The first slot of the first bucket that has a page, of buckets with these first pages, of which
-- the first has this number; behind all buckets come the version entries.
abbrev pub slots_from : ℕ → ℕ → List ℕ → Site → Option Position
slots_from e bucket [] s = kept_of e s
slots_from e bucket (p ∷ ps) s =
    at_or (λ at. Slot e bucket at) (slots_from e (bucket + 1) ps s) (first_on p)

-- the first slot of an entry's buckets from one of them on, or what is behind them
abbrev pub buckets_from : ℕ → ℕ → Site → Option Position
buckets_from e bucket s = slots_from e bucket (drop bucket (s.area.firsts e).buckets) s

-- The position behind one, if any. Behind an entry come its slots, bucket by bucket; behind a slot
-- the next one of the bucket, or the next bucket that has a page; behind all buckets the version
-- entries, behind these the next entry, and behind the last entry the aborted transactions.
abbrev pub next_position : Site → Position → Option Position
next_position s (Entry e) = buckets_from e 0 s
next_position s (Slot e bucket at) =
    at_or (λ q. Slot e bucket q) (buckets_from e (bucket + 1) s) (place_behind s.area at)
next_position s (Kept e at) =
    at_or (λ q. Kept e q) (behind_pages_of e s.tables) (place_behind s.area at)
next_position s (Aborted n) = aborted_from (n + 1) s.tables

-- ---- a pass

-- the first position of a pass: entry 0 of the catalog
abbrev pub start : Position
start = Entry 0

-- From one position on a pass goes by these, one behind another, and comes to the other; none is
-- the end.
abbrev pub GoesBy : Site → Option Position → List Position → Option Position → Type 0
GoesBy s x [] y = x ≡ y
GoesBy s x (p ∷ ps) y = (x ≡ Some p) × GoesBy s (next_position s p) ps y

-- A whole pass goes by these positions, from the start to the end.
abbrev pub IsWholePass : Site → List Position → Type 0
IsWholePass s positions = GoesBy s (Some start) positions None

-- What is said of positions holds at every entry of the catalog, at every slot and every version
-- entry of each, and at every aborted transaction.
pub record HoldsEverywhere (Holds : Position → Type 0) (s : Site) : Type 0 where
  pub entries : (e : ℕ) → e < 32 → Holds (Entry e)
  pub slots : (e : ℕ) (at : Place) → e < 32 → IsAmong at (slot_places s.area e)
      → (bucket : ℕ) × Holds (Slot e bucket at)
  pub kept : (e : ℕ) (at : Place) → e < 32 → IsAmong at (older_places s.area e)
      → Holds (Kept e at)
  pub aborted : (n : ℕ) → n < length s.tables.aborted → Holds (Aborted n)
