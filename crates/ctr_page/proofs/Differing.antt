-- Where a check fails, what is wanted isn't what is there.
use Rattle.std.proofs.Common.{ℕ, zero, suc, ◌+◌, ◌-◌, eqb, ltb, List, [], ◌∷◌, Result, Ok, Err, arith}
use Rattle.std.specs.Prelude.{⊤}
use Rattle.std.proofs.lemmas.Bool.{ltb-true}
use Rattle.ctr_rec.specs.bytes_Fields.{field}
use Rattle.ctr_rec.specs.types_Kind.{Kind}
use Rattle.ctr_rec.specs.types_Kind.TheVariants.{Int, Chars}
use Rattle.ctr_value.specs.Payload.{field_width}
use Rattle.ctr_rec.specs.declared.decoding.BadRecord.{BadRecord}
use Rattle.ctr_rec.specs.bytes_Following.{◌>>=◌}
use Rattle.ctr_rec.specs.Damage.{wrong, expect, at_most}
use Rattle.ctr_rec.proofs.Forms.{Fair, fair_bind, fair_expect, fair_if, fair_both}
use Rattle.ctr_page.specs.declared.checks.Chain.{Chain}
use Rattle.ctr_page.specs.Places.{has_previous, previous_at, pointer_at, kept_pointer_at, kept_size, room_for}
use Rattle.ctr_page.specs.Columns.{column_kind_at, kinds_width}
use Rattle.ctr_page.specs.Damage.{chain_kind, chain_entry, chain_bucket, counted_check, header_check, place_check, pointer_check, text_check, texts_check, version_check, some_version_check, previous_check, used_slot_check, used_kept_check, slot_check, kept_check, from_1_check, firsts_check, column_check, columns_check, used_entry_check, entry_check, DamageDiffers}

-- two checks, one after the other
fair_then : (r s : Result ⊤ BadRecord) → Fair r → Fair s → Fair (r >>= λ _. s)
fair_then r s p q = fair_bind r (λ _. s) p (λ _. q)

most_fair : (at bound got : ℕ) → Fair (at_most at bound got)
unfolding at_most
most_fair at bound got = fair_if (ltb bound got) (wrong at bound got) (Ok tt) (λ t same. omega (arith, ltb-true _ _ t, same)) 0

counted_fair : (counted at : ℕ) (page : List ℕ) → Fair (counted_check counted at page)
unfolding counted_check
counted_fair counted at page = most_fair at (counted - 1) (field 4 at page)

header_fair : (chain : Chain) (counted : ℕ) (page : List ℕ) → Fair (header_check chain counted page)
unfolding header_check
header_fair chain counted page =
    fair_then (expect 0 (chain_kind chain) (field 1 0 page)) _ (fair_expect 0 (chain_kind chain) (field 1 0 page))
    (fair_then (expect 1 (chain_entry chain) (field 1 1 page)) _ (fair_expect 1 (chain_entry chain) (field 1 1 page))
    (fair_then (expect 2 (chain_bucket chain) (field 1 2 page)) _ (fair_expect 2 (chain_bucket chain) (field 1 2 page)) (counted_fair counted 4 page)))

place_fair : (counted w at : ℕ) (page : List ℕ) → Fair (place_check counted w at page)
unfolding place_check
place_fair counted w at page = fair_then (counted_check counted at page) _ (counted_fair counted at page) (most_fair (at + 4) (room_for (kept_size w) - 1) (field 2 (at + 4) page))

pointer_fair : (counted w at : ℕ) (page : List ℕ) → Fair (pointer_check counted w at page)
unfolding pointer_check
pointer_fair counted w at page = fair_both (eqb (field 4 at page) 0) (Ok tt) (place_check counted w at page) 0 (place_fair counted w at page)

text_fair : (k : Kind) (at : ℕ) (page : List ℕ) → Fair (text_check k at page)
text_fair Int at page = 0
text_fair (Chars most) at page = most_fair at most (field 1 at page)

texts_fair : (kinds : List Kind) (at : ℕ) (page : List ℕ) → Fair (texts_check kinds at page)
texts_fair [] at page = 0
texts_fair (k ∷ ks) at page = fair_then (text_check k at page) (texts_check ks (at + field_width k) page) (text_fair k at page) (texts_fair ks (at + field_width k) page)

version_fair : (kinds : List Kind) (at : ℕ) (page : List ℕ) → Fair (version_check kinds at page)
unfolding version_check
version_fair kinds at page = fair_then (at_most (at + 8) 1 (field 1 (at + 8) page)) (texts_check kinds (at + 9) page) (most_fair (at + 8) 1 (field 1 (at + 8) page)) (texts_fair kinds (at + 9) page)

some_fair : (kinds : List Kind) (at : ℕ) (page : List ℕ) → Fair (some_version_check kinds at page)
unfolding some_version_check
some_fair kinds at page = fair_both (eqb (field 8 at page) 0) (Ok tt) (version_check kinds at page) 0 (version_fair kinds at page)

previous_fair : (kinds : List Kind) (start : ℕ) (page : List ℕ) → Fair (previous_check kinds start page)
unfolding previous_check
previous_fair kinds start page =
    let at = start + previous_at (kinds_width kinds) in
    fair_both (has_previous (kinds_width kinds)) (some_version_check kinds at page) (Ok tt) (some_fair kinds at page) 0

used_slot_fair : (kinds : List Kind) (counted start : ℕ) (page : List ℕ) → Fair (used_slot_check kinds counted start page)
unfolding used_slot_check
used_slot_fair kinds counted start page =
    let at = start + pointer_at (kinds_width kinds) in
    fair_then (pointer_check counted (kinds_width kinds) at page) _ (pointer_fair counted (kinds_width kinds) at page)
    (fair_then (version_check kinds (start + 9) page) (previous_check kinds start page) (version_fair kinds (start + 9) page) (previous_fair kinds start page))

used_kept_fair : (kinds : List Kind) (counted start : ℕ) (page : List ℕ) → Fair (used_kept_check kinds counted start page)
unfolding used_kept_check
used_kept_fair kinds counted start page =
    let at = start + kept_pointer_at (kinds_width kinds) in
    fair_then (pointer_check counted (kinds_width kinds) at page) (version_check kinds (start + 9) page) (pointer_fair counted (kinds_width kinds) at page) (version_fair kinds (start + 9) page)

slot_fair : (kinds : List Kind) (counted start : ℕ) (page : List ℕ) → Fair (slot_check kinds counted start page)
unfolding slot_check
slot_fair kinds counted start page =
    fair_both (eqb (field 1 start page) 1) (used_slot_check kinds counted start page) (at_most start 1 (field 1 start page)) (used_slot_fair kinds counted start page) (most_fair start 1 (field 1 start page))

kept_fair : (kinds : List Kind) (counted start : ℕ) (page : List ℕ) → Fair (kept_check kinds counted start page)
unfolding kept_check
kept_fair kinds counted start page =
    fair_both (eqb (field 1 start page) 1) (used_kept_check kinds counted start page) (at_most start 1 (field 1 start page)) (used_kept_fair kinds counted start page) (most_fair start 1 (field 1 start page))

-- ---- entries of the catalog

from_1_fair : (most at : ℕ) (page : List ℕ) → Fair (from_1_check most at page)
unfolding from_1_check
from_1_fair most at page =
    fair_if (eqb (field 1 at page) 0) (wrong at 1 0) (at_most at most (field 1 at page)) (λ t same. omega (arith, same)) (most_fair at most (field 1 at page))

firsts_fair : (n counted at : ℕ) (page : List ℕ) → Fair (firsts_check n counted at page)
firsts_fair zero counted at page = 0
firsts_fair (suc n) counted at page = fair_then (counted_check counted at page) (firsts_check n counted (at + 4) page) (counted_fair counted at page) (firsts_fair n counted (at + 4) page)

column_fair : (most at : ℕ) (page : List ℕ) → Fair (column_check most at page)
unfolding column_check
column_fair most at page = fair_then (from_1_check 16 at page) (at_most (column_kind_at at) most (field 1 (column_kind_at at) page)) (from_1_fair 16 at page) (most_fair (column_kind_at at) most (field 1 (column_kind_at at) page))

columns_fair : (n at : ℕ) (page : List ℕ) → Fair (columns_check n at page)
columns_fair zero at page = 0
columns_fair (suc n) at page = fair_then (column_check 64 at page) (columns_check n (at + 18) page) (column_fair 64 at page) (columns_fair n (at + 18) page)

used_entry_fair : (counted start : ℕ) (page : List ℕ) → Fair (used_entry_check counted start page)
unfolding used_entry_check
used_entry_fair counted start page =
    let at = start + 34 + 1 in
    fair_then (firsts_check 9 counted (start + 179) page) _ (firsts_fair 9 counted (start + 179) page)
    (fair_then (at_most start 2 (field 1 start page)) _ (most_fair start 2 (field 1 start page))
    (fair_then (from_1_check 16 (start + 17) page) _ (from_1_fair 16 (start + 17) page)
    (fair_then (from_1_check 8 (start + 34) page) _ (from_1_fair 8 (start + 34) page)
    (fair_then (column_check 0 at page) (columns_check (field 1 (start + 34) page - 1) (at + 18) page) (column_fair 0 at page) (columns_fair (field 1 (start + 34) page - 1) (at + 18) page)))))

entry_fair : (counted start : ℕ) (page : List ℕ) → Fair (entry_check counted start page)
unfolding entry_check
entry_fair counted start page = fair_both (eqb (field 1 start page) 0) (Ok tt) (used_entry_check counted start page) 0 (used_entry_fair counted start page)

-- ---- told

differs : (r : Result ⊤ BadRecord) → Fair r → DamageDiffers r
differs (Ok x) fair = tt
differs (Err e) fair = fair

pub header_differs : (chain : Chain) (counted : ℕ) (page : List ℕ) → DamageDiffers (header_check chain counted page)
header_differs chain counted page = differs (header_check chain counted page) (header_fair chain counted page)

pub slot_differs : (kinds : List Kind) (counted start : ℕ) (page : List ℕ) → DamageDiffers (slot_check kinds counted start page)
slot_differs kinds counted start page = differs (slot_check kinds counted start page) (slot_fair kinds counted start page)

pub kept_differs : (kinds : List Kind) (counted start : ℕ) (page : List ℕ) → DamageDiffers (kept_check kinds counted start page)
kept_differs kinds counted start page = differs (kept_check kinds counted start page) (kept_fair kinds counted start page)

pub entry_differs : (counted start : ℕ) (page : List ℕ) → DamageDiffers (entry_check counted start page)
entry_differs counted start page = differs (entry_check counted start page) (entry_fair counted start page)
