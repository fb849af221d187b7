-- Where slots and version entries stand on a page, and how large they are; w is the width of a row.
use Rattle.std.specs.Prelude.{ℕ, ◌+◌, ◌*◌, ◌-◌, ◌/◌, nat_le, ◌%◌, ℤ, pos, negsuc, Bool, if◌then◌else◌}
use Rattle.ctr_page.specs.declared.table.TheConstants.{PAGE_SIZE, HEADER_SIZE, HEAD_AT, VERSION_SIZE, POINTER_SIZE, WIDEST_PAIR}

-- a slot of rows that aren't too wide has two versions
abbrev pub has_previous : ℕ → Bool
has_previous w = nat_le w WIDEST_PAIR

-- Where the previous version stands in a slot: right behind the head.
abbrev pub previous_at : ℕ → ℕ
previous_at w = HEAD_AT + VERSION_SIZE + w

-- behind the versions: 27 + 2 w, or 18 + w
abbrev pub pointer_at : ℕ → ℕ
pointer_at w =
    if has_previous w then previous_at w + VERSION_SIZE + w else previous_at w

-- 33 + 2 w, or 24 + w
abbrev pub slot_size : ℕ → ℕ
slot_size w = pointer_at w + POINTER_SIZE

-- 18 + w: a version entry has one version
abbrev pub kept_pointer_at : ℕ → ℕ
kept_pointer_at w = previous_at w

-- The size of a version entry of rows so wide: 24 bytes and the width.
abbrev pub kept_size : ℕ → ℕ
kept_size w = kept_pointer_at w + POINTER_SIZE

-- where they stand, by their number and size
abbrev pub start_of : ℕ → ℕ → ℕ
start_of size number = HEADER_SIZE + number * size

-- how many of a size fit on a page
abbrev pub room_for : ℕ → ℕ
room_for size = (PAGE_SIZE - HEADER_SIZE) / size

-- the bucket of a key: what is left of it by 8, from 0 to 7
abbrev pub bucket_of : ℤ → ℕ
bucket_of (pos n) = n % 8
bucket_of (negsuc n) = 7 - n % 8
