-- The root: its body, its checks, and what a read of it answers.
use Rattle.std.specs.Prelude.{◌≡◌, ◌≤◌, ◌+◌, ◌^◌, ℕ, List, [], ◌∷◌, ◌++◌, codes, Option, Some, None, Result, Ok, Err}
use Rattle.ctr_disk.specs.Image.{Image}
use Rattle.ctr_disk.specs.types_File.TheVariants.{Root as RootFile}
use Rattle.ctr_home.specs.declared.root.Root.{Root}
use Rattle.ctr_disk.specs.declared.fault.StoreFault.{StoreFault}
use Rattle.ctr_disk.specs.declared.fault.StoreFault.TheVariants.{Fault, Damaged}
use Rattle.ctr_bytes.specs.Fields.{spelled, field}
use Rattle.ctr_home.specs.declared.block.Block.TheVariants.{Root as RootBlock}
use Rattle.ctr_home.specs.declared.checks.Check.{Check}
use Rattle.ctr_home.specs.Blocks.{BlockValue, value_in, value_of, value_place}
use Rattle.ctr_home.specs.Checks.{bounded, check_of, judged}
use Rattle.ctr_home.specs.Reading.{number_check}

-- the body of a root
abbrev pub root_body : Root → List ℕ
root_body r =
    codes "CTRDB001" ++ spelled 4 r.format ++ spelled 1 r.file ++ spelled 8 r.first
    ++ spelled 4 r.pages

-- the value of the root block in the bytes of its file
abbrev pub root_value : List ℕ → Option BlockValue
root_value bytes = value_in RootBlock bytes

-- the value of the block that says it
abbrev pub root_block : Root → BlockValue
root_block r = record { number = 0; stamp = r.stamp; body = root_body r }

-- A root in its bounds: of format 1, with 64 to 30,000 pages.
pub record IsRoot (r : Root) : Type 0 where
  pub format : r.format ≡ 1
  pub file : r.file ≤ 1
  pub first_low : 1 ≤ r.first
  pub first_high : r.first ≤ 2 ^ 63
  pub pages_low : 64 ≤ r.pages
  pub pages_high : r.pages ≤ 30000
  pub stamp : r.stamp ≤ r.first + r.pages

-- the value says a root
abbrev pub SaysRoot : Option BlockValue → Root → Type 0
SaysRoot value r = (value ≡ Some (root_block r)) × IsRoot r

-- The checks of a root, whose home begins at a place: number, the bytes CTRDB001, format, file,
-- first LSN, counted pages, stamp.
abbrev pub root_checks : ℕ → BlockValue → List Check
root_checks home v = number_check RootBlock home v
    ∷ check_of (home + 13) 0x3130304244525443 (field 8 0 v.body)
    ∷ check_of (home + 21) 1 (field 4 8 v.body)
    ∷ check_of (home + 25) (bounded 0 1 (field 1 12 v.body)) (field 1 12 v.body)
    ∷ check_of (home + 26) (bounded 1 (2 ^ 63) (field 8 13 v.body)) (field 8 13 v.body)
    ∷ check_of (home + 34) (bounded 64 30000 (field 4 21 v.body)) (field 4 21 v.body)
    ∷ check_of (home + 5) (bounded 0 (field 8 13 v.body + field 4 21 v.body) v.stamp) v.stamp
    ∷ []

-- what a value says, whose home begins at a place; or that it says no root, and the
-- damage is the first of its checks that fails
abbrev pub SaysOrRefuses : ℕ → BlockValue → Result Root StoreFault → Type 0
SaysOrRefuses home v (Ok r) = (v ≡ root_block r) × IsRoot r
SaysOrRefuses home v (Err e) = (judged RootFile (root_checks home v) ≡ Err e)
    × ((r : Root) → v ≡ root_block r → IsRoot r → ⊥)

-- What a read of the root answers: none exactly where neither home is open, and damage exactly
-- where the value says no root.
abbrev pub ReadsRoot : Image → Result (Option Root) StoreFault → Type 0
ReadsRoot image (Ok None) = value_of RootBlock image ≡ None
ReadsRoot image (Ok (Some r)) = SaysRoot (value_of RootBlock image) r
ReadsRoot image (Err Fault) = Unit {0}
ReadsRoot image (Err (Damaged d)) = (v : BlockValue)
    × (value_of RootBlock image ≡ Some v)
    × SaysOrRefuses (value_place RootBlock image) v (Err (Damaged d))
