-- Definitions at small examples, which the checker computes.
use Rattle.std.proofs.Common.{◌≡◌, ℕ, pos, List, [], ◌∷◌, Some, refl, codes}
use Rattle.ctr_types.specs.declared.statement.Statement.TheVariants as st
use Rattle.ctr_types.specs.declared.statement.Line.{Line}
use Rattle.ctr_types.specs.declared.statement.SetTo.TheVariants as to
use Rattle.ctr_types.specs.declared.value.Column.{Column}
use Rattle.ctr_types.specs.declared.value.Kind.TheVariants as kind
use Rattle.ctr_types.specs.declared.value.Value.TheVariants as value
use Rattle.ctr_types.specs.declared.tape.Act.{Act}
use Rattle.ctr_types.specs.declared.tape.Act.TheVariants as act
use Rattle.ctr_types.specs.declared.tape.Reply.TheVariants as reply
use Rattle.ctr_types.specs.declared.tape.Entry.{Entry}
use Rattle.ctr_model.specs.Tape.{statements_on, IsSerial}
use Rattle.ctr_model.specs.Refusals.{assigned}

abbrev entry : ℕ → ℕ → Act → Entry
entry s n a = record { session = s; statement = n; act = a; reply = reply.Done; moment = 0 }

abbrev lines : List Line
lines = record { session = 1; statement = st.Begin } ∷ record { session = 2; statement = st.Begin } ∷ record { session = 1; statement = st.Commit } ∷ []

-- each line's entries stand together, but for those of recovery
together : IsSerial lines (entry 1 1 act.Begin ∷ entry 0 0 (act.Release (codes "t")) ∷ entry 2 1 act.Begin ∷ entry 1 2 act.Ask ∷ entry 0 0 (act.Release (codes "u")) ∷ entry 1 2 act.Answer ∷ [])
together = ([], refl)

-- a run that was stopped after its first line
stopped : IsSerial lines (entry 1 1 act.Begin ∷ [])
stopped = ((2, 1) ∷ (1, 2) ∷ [], refl)

-- a statement whose entries don't stand together counts twice
apart : statements_on (entry 1 2 act.Ask ∷ entry 2 1 act.Begin ∷ entry 1 2 act.Answer ∷ []) ≡ (1, 2) ∷ (2, 1) ∷ (1, 2) ∷ []
apart = refl

abbrev twins : List Column
twins = record { name = codes "k"; kind = kind.Int } ∷ record { name = codes "a"; kind = kind.Int } ∷ record { name = codes "a"; kind = kind.Chars 1 } ∷ []

-- a name that two columns bear means the first of them
first_of_twins : assigned twins (value.Int (pos 1) ∷ value.Int (pos 2) ∷ value.Chars (codes "x") ∷ []) (record { column = codes "a"; to = to.Sum (codes "a") (pos 5) } ∷ []) (value.Int (pos 1) ∷ value.Int (pos 2) ∷ value.Chars (codes "x") ∷ [])
    ≡ Some (value.Int (pos 1) ∷ value.Int (pos 7) ∷ value.Chars (codes "x") ∷ [])
first_of_twins = refl
