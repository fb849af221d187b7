-- What reads of a block answer.
use Rattle.std.specs.Prelude.{◌≡◌, ◌+◌, ℕ, List, [], ◌∷◌, Option, Some, None, Result, Ok, Err}
use Rattle.ctr_disk.specs.Image.{Image}
use Rattle.ctr_disk.specs.declared.fault.StoreFault.{StoreFault}
use Rattle.ctr_disk.specs.declared.fault.StoreFault.TheVariants.{Fault, Damaged}
use Rattle.ctr_home.specs.declared.block.Block.{Block}
use Rattle.ctr_home.specs.declared.block.Home.{Home}
use Rattle.ctr_home.specs.declared.checks.Check.{Check}
use Rattle.ctr_home.specs.Blocks.{BlockValue, file_of, block_number, body_len, home_place, held_at, stamp_in, value_in, value_of, value_place_in, value_place, zero_bytes}
use Rattle.ctr_home.specs.Checks.{check_of, judged}

-- the number in an open home of a block is the block's
abbrev pub number_check : Block → ℕ → BlockValue → Check
number_check b home v = check_of (home + 1) (block_number b) v.number

-- its value is in an open home that has another number, and the damage tells where
abbrev pub IsMisnumbered : Block → Image → StoreFault → Type 0
IsMisnumbered b image e = (v : BlockValue) × (value_of b image ≡ Some v)
    × (judged (file_of b) (number_check b (value_place b image) v ∷ []) ≡ Err e)

-- What a read of a block answers: its stamp and its body; zeros exactly where neither home is open;
-- and damage exactly where the home of its value has another number.
abbrev pub ReadsBlock : Block → Image → List ℕ → Result (Option ℕ) StoreFault → Type 0
ReadsBlock b image into (Ok None) = (value_of b image ≡ None) × (into ≡ zero_bytes (body_len b))
ReadsBlock b image into (Ok (Some stamp)) =
    value_of b image ≡ Some (record { number = block_number b; stamp = stamp; body = into })
ReadsBlock b image into (Err Fault) = Unit {0}
ReadsBlock b image into (Err (Damaged d)) = IsMisnumbered b image (Damaged d)

-- An error is damage of which P holds, or the disk failed.
abbrev pub IsFaultOr : (StoreFault → Type 0) → StoreFault → Type 0
IsFaultOr P Fault = Unit {0}
IsFaultOr P (Damaged d) = P (Damaged d)

-- the home that the value stands in, and its stamp; none exactly where neither is open
abbrev pub FindsHome : Block → List ℕ → Option (Home × ℕ) → Type 0
FindsHome b bytes None = value_in b bytes ≡ None
FindsHome b bytes (Some (home, stamp)) = (value_in b bytes ≡ held_at b home bytes)
    × (home_place b home ≡ value_place_in b bytes) × (stamp_in (held_at b home bytes) ≡ Some stamp)
