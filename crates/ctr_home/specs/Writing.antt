-- What the writing of a block leaves.
use Rattle.std.specs.Prelude.{◌≡◌, ◌≢◌, ◌⊎◌, ◌≤◌, ◌<◌, nat_lt, if◌then◌else◌, ℕ, List, ◌∷◌, length, slice_index, Option, Some, None}
use Rattle.ctr_disk.specs.Image.{Image, content, OtherFilesStay}
use Rattle.ctr_home.specs.declared.block.Block.{Block}
use Rattle.ctr_home.specs.declared.block.Home.{Home}
use Rattle.ctr_home.specs.declared.block.Home.TheVariants.{First, Second}
use Rattle.ctr_home.specs.Blocks.{BlockValue, file_of, block_number, home_place, home_bytes, held_at, stamp_in, value_of, behind_gate}

-- the value with this stamp and body
abbrev pub with_body : Block → ℕ → List ℕ → BlockValue
with_body b stamp body = record { number = block_number b; stamp = stamp; body = body }

-- the stamp is above the value's, where there is one
abbrev pub IsAbove : ℕ → Option BlockValue → Type 0
IsAbove stamp None = Unit {0}
IsAbove stamp (Some v) = v.stamp < stamp

-- the home to write, by the stamps that the two hold: the closed one, the first where both are
-- closed; else the one with the smaller stamp, the second where both are equal
abbrev pub home_chosen : Option ℕ → Option ℕ → Home
home_chosen None b = First
home_chosen (Some a) None = Second
home_chosen (Some a) (Some b) = if nat_lt a b then First else Second

-- the home to write in the bytes of a file
abbrev pub chosen_in : Block → List ℕ → Home
chosen_in b bytes =
    home_chosen (stamp_in (held_at b First bytes)) (stamp_in (held_at b Second bytes))

-- its gate lies in the file and isn't open
abbrev pub IsShut : Block → Home → List ℕ → Type 0
IsShut b home bytes = (home_place b home < length bytes)
    × (slice_index bytes (home_place b home) ≢ 1)

-- the home that it isn't
abbrev pub other : Home → Home
other First = Second
other Second = First

-- The other files and all other blocks are as they were, in each of their homes too, and the file
-- isn't shorter.
pub record OthersStay (b : Block) (old new : Image) : Type 0 where
  pub files : OtherFilesStay (file_of b) old new
  pub homes : (c : Block) → c ≢ b → (h : Home)
      → held_at c h (content (file_of c) new) ≡ held_at c h (content (file_of c) old)
  pub blocks : (c : Block) → c ≢ b → value_of c new ≡ value_of c old
  pub no_shorter : length (content (file_of b) old) ≤ length (content (file_of b) new)

-- all else stays; the other home holds what it held, and this one too or it is closed
pub record KeepsHome (b : Block) (home : Home) (old new : Image) : Type 0 where
  pub others : OthersStay b old new
  pub beside :
      held_at b (other home) (content (file_of b) new)
      ≡ held_at b (other home) (content (file_of b) old)
  pub here : (held_at b home (content (file_of b) new) ≡ None)
      ⊎ (held_at b home (content (file_of b) new) ≡ held_at b home (content (file_of b) old))

-- all else stays; the other home holds what it held, and this one holds the value, with zeros
-- behind its body
pub record MakesHome (b : Block) (home : Home) (value : BlockValue) (old new : Image) : Type 0 where
  pub others : OthersStay b old new
  pub beside :
      held_at b (other home) (content (file_of b) new)
      ≡ held_at b (other home) (content (file_of b) old)
  pub here : held_at b home (content (file_of b) new) ≡ Some value
  pub whole : home_bytes b home (content (file_of b) new) ≡ 1 ∷ behind_gate b value

-- while the gate is opened
abbrev pub KeepsOrMakesHome : Block → Home → BlockValue → Image → Image → Type 0
KeepsOrMakesHome b home value old new = KeepsHome b home old new ⊎ MakesHome b home value old new

-- the block has its old value or this one, and all else is as it was
abbrev pub IsOldOrNewValue : Block → BlockValue → Image → Image → Type 0
IsOldOrNewValue b value old new = OthersStay b old new
    × ((value_of b new ≡ value_of b old) ⊎ (value_of b new ≡ Some value))

-- the block has this value, which stands in one of its homes with zeros behind it, and all else is
-- as it was
abbrev pub IsNewValue : Block → BlockValue → Image → Image → Type 0
IsNewValue b value old new = OthersStay b old new × (value_of b new ≡ Some value)
    × ((home : Home) × (home_bytes b home (content (file_of b) new) ≡ 1 ∷ behind_gate b value))
