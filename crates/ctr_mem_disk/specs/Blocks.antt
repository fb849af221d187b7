-- A file's bytes by their place, of which blocks that are all zeros aren't kept.
use Rattle.std.specs.Prelude.{◌≡◌, zero, suc, ℕ, ◌+◌, ◌/◌, ◌%◌, ◌<◌, ◌≤◌, List, [], ◌∷◌, length, slice_index, unwrap_or, IsSome}
use Rattle.std.specs.Ordering.{nat_cmp}
use Rattle.std.specs.BTreeMap.{BTreeMap, get}

-- blocks of 4,096 bytes by their number
abbrev pub Blocks : Type 0
Blocks = BTreeMap ℕ (List ℕ)

-- the byte at a place: 0 in a block that isn't kept
abbrev pub byte_in : Blocks → ℕ → ℕ
byte_in blocks i = slice_index (unwrap_or (get nat_cmp blocks (i / 4096)) []) (i % 4096)

-- the bytes at n places, from one place on
abbrev pub bytes_from : (ℕ → ℕ) → ℕ → ℕ → List ℕ
bytes_from f at zero = []
bytes_from f at (suc n) = f at ∷ bytes_from f (at + 1) n

-- no place from one on has a byte that isn't 0
abbrev pub IsBlankFrom : ℕ → (ℕ → ℕ) → Type 0
IsBlankFrom at f = (i : ℕ) → at ≤ i → f i ≡ 0

-- each place has the byte that it had
abbrev pub StaysSame : (ℕ → ℕ) → (ℕ → ℕ) → Type 0
StaysSame old new = (i : ℕ) → new i ≡ old i

-- the bytes stand at a place, and each other place has the byte that it had
pub record Puts (at : ℕ) (bytes : List ℕ) (old new : ℕ → ℕ) : Type 0 where
  pub inside : (k : ℕ) → k < length bytes → new (at + k) ≡ slice_index bytes k
  pub below : (i : ℕ) → i < at → new i ≡ old i
  pub behind : (i : ℕ) → at + length bytes ≤ i → new i ≡ old i

-- for each of the bytes that isn't 0 its block is kept, where they are to stand at a place
abbrev pub HasBlocksFor : ℕ → List ℕ → Blocks → Type 0
HasBlocksFor at bytes blocks = (k : ℕ) → k < length bytes → (slice_index bytes k ≡ 0 → ⊥)
    → IsSome (get nat_cmp blocks ((at + k) / 4096))

-- the blocks that were kept still are
abbrev pub KeepsBlocks : Blocks → Blocks → Type 0
KeepsBlocks old new = (n : ℕ) → IsSome (get nat_cmp old n) → IsSome (get nat_cmp new n)

-- a block has no byte that isn't 0
abbrev pub IsBlockZero : Blocks → ℕ → Type 0
IsBlockZero blocks n = (i : ℕ) → slice_index (unwrap_or (get nat_cmp blocks n) []) i ≡ 0
