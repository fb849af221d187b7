-- Where the statements of a script's first lines stand on a tape.
use Rattle.std.specs.Prelude.{◌≡◌, ℕ, false, List, [], length, take}
use Rattle.ctr_types.specs.declared.statement.Line.{Line}
use Rattle.ctr_types.specs.declared.tape.Entry.{Entry}
use Rattle.ctr_model.specs.Tape.{statements_of, statements_on, numbered, is_release}

-- how many statements of a session are in the first lines
abbrev pub count_in : List Line → ℕ → ℕ → ℕ
count_in lines k s = length (statements_of s (take k lines))

-- the entry is one of the statement of this number, and not recovery's
abbrev pub IsEntryOfLine : ℕ → ℕ → Entry → Type 0
IsEntryOfLine s n e = (e.session ≡ s) × (e.statement ≡ n) × (is_release e.act ≡ false)

-- the tape has the statements of the first lines, in their order, and no others
abbrev pub HasLines : List Line → ℕ → List Entry → Type 0
HasLines lines k es = statements_on es ≡ numbered [] (take k lines)
