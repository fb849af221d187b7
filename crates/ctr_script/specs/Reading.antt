-- Why reading a source's bytes ended before they were read.
use Rattle.std.specs.Prelude.{◌<◌, IsTrue, length}
use Rattle.ctr_io.specs.declared.edges.Source.{Ghosts}
use Rattle.ctr_model.specs.Grammar.{most_bytes}
use Rattle.ctr_script.specs.declared.error.ScriptError.{ScriptError}
use Rattle.ctr_script.specs.declared.error.ScriptError.TheVariants as error

-- a call of the source failed, or memory ran out
abbrev pub StopsPiece : ScriptError → Type 0
StopsPiece (error.Refused line at) = ⊥
StopsPiece error.TooLong = ⊥
StopsPiece error.ReadFault = Unit {0}
StopsPiece error.OutOfMemory = Unit {0}

-- the source is too long, where it tells what it has left; or a call failed; or memory ran out
abbrev pub StopsReading : {S : Type 0} → Ghosts S → S → ScriptError → Type 0
StopsReading g source (error.Refused line at) = ⊥
StopsReading g source error.TooLong = IsTrue g.tells → most_bytes < length (g.left source)
StopsReading g source error.ReadFault = Unit {0}
StopsReading g source error.OutOfMemory = Unit {0}
