-- Checks of numbers that are read.
use Rattle.std.specs.Prelude.{◌≢◌, ◌==◌, if◌then◌else◌, ℕ, min, max, List, [], ◌∷◌, Result, Ok, Err, ⊤}
use Rattle.ctr_disk.specs.types_Damage.{damage_of}
use Rattle.ctr_disk.specs.types_File.{File}
use Rattle.ctr_disk.specs.declared.fault.StoreFault.{StoreFault}
use Rattle.ctr_disk.specs.declared.fault.StoreFault.TheVariants.{Fault, Damaged}
use Rattle.ctr_home.specs.declared.checks.Check.{Check}

-- the number in these bounds that is next to x: x itself where it is in them
abbrev pub bounded : ℕ → ℕ → ℕ → ℕ
bounded least most x = max least (min x most)

-- a check of the number at a place
abbrev pub check_of : ℕ → ℕ → ℕ → Check
check_of at want got = record { at = at; want = want; got = got }

-- damage by the first check that fails, where what is wanted isn't there
abbrev pub judged : File → List Check → Result ⊤ StoreFault
judged file [] = Ok tt
judged file (c ∷ cs) =
    if c.want == c.got then judged file cs else Err (Damaged (damage_of file c.at c.want c.got))

-- where it is damage, what is wanted differs from what is there
abbrev pub TellsApart : StoreFault → Type 0
TellsApart Fault = Unit {0}
TellsApart (Damaged d) = d.want ≢ d.got
