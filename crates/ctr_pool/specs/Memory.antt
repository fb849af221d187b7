-- What a backing in memory holds.
use Rattle.std.specs.Prelude.{ℕ, Option, None, Some, replicate, slice_get}
use Rattle.ctr_pool.specs.declared.memory.Memory.{Memory}
use Rattle.ctr_pool.specs.declared.memory.Sheet.{Sheet}
use Rattle.ctr_pool.specs.Pages.{PageHeld}

-- what a sheet holds; zeros where there is none
abbrev pub held_on : Option Sheet → PageHeld
held_on None = record { lsn = 0; body = replicate 4096 0 }
held_on (Some s) = record { lsn = s.lsn; body = s.body }

-- what is held of a page
abbrev pub sheet_at : Memory → ℕ → PageHeld
sheet_at m p = held_on (slice_get m.sheets.items p)
