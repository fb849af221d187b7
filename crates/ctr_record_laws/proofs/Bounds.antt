-- Bounds of every area that is read from pages.
use Rattle.std.proofs.Common.{◌≡◌, ℕ, ◌+◌, ◌*◌, ◌/◌, ◌%◌, ◌≤◌, Bool, true, false, cond, List, [], map, ap, arith}
use Rattle.std.specs.Prelude.{◌==◌, nat_le}
use Rattle.std.proofs.lemmas.Bool.{le-ltb, eq-eqb}
use Rattle.std.proofs.Math.Nat.{div-le_of_le-mul}
use Rattle.ctr_area.specs.ctr_bytes.Fields.{field}
use Rattle.ctr_area.specs.ctr_page.Places.{slot_size, kept_size, room_for}
use Rattle.ctr_area.specs.ctr_page.Reading.{piece}
use Rattle.ctr_area.specs.ctr_page.Columns.{entry_in, first_in, versions_first_in}
use Rattle.ctr_area.specs.Areas.{Firsts, no_pages}
use Rattle.ctr_area.specs.Reading.{entry_bytes, bucket_numbers, title_of, firsts_of, header_on, width_on, size_of_kind, area_of}
use Rattle.ctr_record_laws.specs.Bounds.{no_title, IsInBounds}

none_beyond : (pages : ℕ → List ℕ) (e : ℕ) → 32 ≤ e → (area_of pages).firsts e ≡ no_pages
unfolding field
none_beyond pages e le = ap (λ b. firsts_of (entry_in (cond b (piece (256 * (e % 16)) 256 (pages (1 + e / 16))) []))) (le-ltb e 32 le)

few : (s : ℕ) → 24 ≤ s → 4080 / s ≤ 170
few s le = div-le_of_le-mul s (enough s le)
  where
    enough : (s : ℕ) → 24 ≤ s → 4080 ≤ s * 170
    enough s le = omega (arith, le)

wide_slot : (w : ℕ) → 24 ≤ slot_size w
wide_slot w = elim (nat_le w 200) as (λ b. 24 ≤ cond b (18 + w + 9 + w) (18 + w) + 6) [ true ↦ omega arith | false ↦ omega arith ]

-- a page has so little room, whatever stands on it
pub room_few : (rows : Bool) (w : ℕ) → room_for (size_of_kind rows w) ≤ 170
room_few rows w =
    let wide = wide_slot w in
    few (size_of_kind rows w) (elim rows as (λ b. 24 ≤ cond b (slot_size w) (kept_size w)) [ true ↦ wide | false ↦ omega arith ])

free_none : (pages : ℕ → List ℕ) (e : ℕ) → ((area_of pages).title e).state ≡ 0 → (area_of pages).firsts e ≡ no_pages
free_none pages e is = ap (λ b. cond b no_pages (used (entry_bytes pages e))) (eq-eqb (entry_in (entry_bytes pages e)).state 0 is)
  where
    used : List ℕ → Firsts
    used bytes = record { buckets = map (λ b. first_in b bytes) bucket_numbers; versions = versions_first_in bytes }

titles_beyond : (pages : ℕ → List ℕ) (e : ℕ) → 32 ≤ e → (area_of pages).title e ≡ no_title
unfolding field
titles_beyond pages e le = ap (λ b. title_of (entry_in (cond b (piece (256 * (e % 16)) 256 (pages (1 + e / 16))) []))) (le-ltb e 32 le)

pub pages_bounded : (pages : ℕ → List ℕ) → IsInBounds (area_of pages)
pages_bounded pages = record { titles = titles_beyond pages; entries = none_beyond pages; free = free_none pages; rooms = λ q. room_few ((header_on pages q).kind == 1) (width_on pages q) }
