-- Where a stop is.
use Rattle.std.specs.Prelude.{◌<◌, ◌^◌}
use Rattle.ctr_parse.specs.declared.stop.Stop.{Stop}
use Rattle.ctr_parse.specs.declared.stop.Stop.TheVariants as stop

-- its place is one of a slice
abbrev pub IsStopNear : Stop → Type 0
IsStopNear stop.OutOfMemory = Unit {0}
IsStopNear (stop.Wrong i) = i < 2 ^ 63
IsStopNear stop.Missing = Unit {0}
