-- The definition at a small example, which the checker computes: three sessions, five rounds, the seed 42.
use Rattle.std.proofs.Common.{◌≡◌, pos, List, [], ◌∷◌, refl}
use Rattle.ctr_types.specs.declared.statement.Line.{Line}
use Rattle.ctr_types.specs.declared.statement.Statement.TheVariants as st
use Rattle.ctr_load.specs.Statements.{create_load, insert_of, update_of, select_of}
use Rattle.ctr_load.specs.Generated.{generated}

abbrev lines : List Line
lines =
    record { session = 1; statement = st.Begin }
    ∷ record { session = 1; statement = create_load }
    ∷ record { session = 1; statement = st.Commit }
    ∷ record { session = 2; statement = st.Begin }
    ∷ record { session = 2; statement = insert_of (pos 34) (pos 1) }
    ∷ record { session = 1; statement = st.Begin }
    ∷ record { session = 1; statement = update_of (pos 82) (pos 2) }
    ∷ record { session = 3; statement = st.Begin }
    ∷ record { session = 3; statement = select_of (pos 19) }
    ∷ record { session = 3; statement = select_of (pos 15) }
    ∷ record { session = 1; statement = update_of (pos 18) (pos 5) }
    ∷ record { session = 1; statement = st.Commit }
    ∷ record { session = 2; statement = st.Commit }
    ∷ record { session = 3; statement = st.Commit } ∷ []

worked_out : generated 3 5 42 ≡ lines
worked_out = refl
