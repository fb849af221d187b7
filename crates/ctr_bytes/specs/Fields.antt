-- Numbers in fields of a byte list, the lowest byte first.
use Rattle.std.specs.Prelude.{ℕ, ◌+◌, List, ◌++◌, take, drop}
use Rattle.byteorder.specs.Endian.{little_number, little_bytes}

-- the n bytes of a number
unfoldable pub spelled : ℕ → ℕ → List ℕ
spelled n x = little_bytes n x

-- the number that stands in the n bytes at a place
unfoldable pub field : ℕ → ℕ → List ℕ → ℕ
field n at bytes = little_number n (drop at bytes)

-- the bytes with this number in the n bytes at a place; the others stay
abbrev pub with_field : ℕ → ℕ → ℕ → List ℕ → List ℕ
with_field n at x bytes = take at bytes ++ spelled n x ++ drop (at + n) bytes
