-- What the machine wants of an entry that it passes.
use Rattle.std.specs.Prelude.{◌≡◌, ◌<◌, ◌^◌, ◌-◌, List, Some}
use Rattle.ctr_types.specs.declared.statement.Statement.{Statement}
use Rattle.ctr_types.specs.declared.statement.Line.{Line}
use Rattle.ctr_types.specs.declared.tape.Entry.{Entry}
use Rattle.ctr_model.specs.declared.tape.Point.{Point}
use Rattle.ctr_model.specs.Tape.{statement_of, progress_of}

-- the statement that the session has finished next still has a number
abbrev pub HasStatementNumber : List Line → Point → Entry → Type 0
HasStatementNumber lines p e =
    (s : Statement) → statement_of lines e.session e.statement ≡ Some s
    → (progress_of p e.session).finished < 2 ^ 64 - 1
