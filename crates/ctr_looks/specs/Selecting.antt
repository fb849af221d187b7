-- A SELECT, and the table that it reads.
use Rattle.ctr_types.specs.declared.statement.Statement.{Statement}
use Rattle.ctr_types.specs.declared.statement.Statement.TheVariants as st

-- the statement is a SELECT
abbrev pub IsSelect : Statement → Type 0
IsSelect (st.Select table at) = Unit {0}
IsSelect statement = ⊥
