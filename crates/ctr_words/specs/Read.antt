-- What the rows of a run are where `clap` has found no fault: for the functions inside.
use Rattle.std.specs.Prelude.{◌≡◌, Bool, true, List, codes}
use Rattle.std.specs.Option.{option_map_or}
use Rattle.std.specs.Str.{bytes_eq}
use Rattle.clap.specs.Words.{Row, Text, one_of}
use Rattle.clap.specs.ValueTests.{is_unsigned_in}

-- the rows have a number of 8 to 4,096 as frames, or none
abbrev pub is_number : List Row → Bool
is_number rows = option_map_or (is_unsigned_in 8 4096) (one_of (codes "frames") rows) true

-- if it is a run that was met, so have its rows
abbrev pub IsRunRead : Text × List Row → Type 0
IsRunRead met = bytes_eq met.0 (codes "run") ≡ true → is_number met.1 ≡ true
