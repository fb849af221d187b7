-- Where a check failed, what it wants and what is there.
use Rattle.std.specs.Prelude.{◌≡◌, ◌≢◌}
use Rattle.ctr_types.specs.declared.file.File.{File}
use Rattle.ctr_home.specs.disk_StoreFault.{StoreFault}
use Rattle.ctr_home.specs.disk_StoreFault.TheVariants.{Fault, Damaged}
use Rattle.ctr_home.specs.Checks.{TellsApart}

-- An error is damage of a file, and what is wanted there differs from what is there.
abbrev pub IsDamageOf : File → StoreFault → Type 0
IsDamageOf file Fault = ⊥
IsDamageOf file (Damaged d) = (d.file ≡ file) × (d.want ≢ d.got)

-- where it is damage, what is wanted differs from what is there
abbrev pub Differs : StoreFault → Type 0
Differs e = TellsApart e
