-- What the database of a store holds, in numbers.
use Rattle.std.specs.Prelude.{ℕ, ◌+◌, min, [], ◌∷◌, length}
use Rattle.ctr_model.specs.declared.tape.Survey.{Survey}
use Rattle.ctr_model.specs.Database.{Database}
use Rattle.ctr_redo.specs.States.{State}
use Rattle.ctr_stops.specs.Fronts.{rows_of_state}

-- the rows of all tables
abbrev pub row_count : Database → ℕ
row_count [] = 0
row_count (e ∷ es) = length e.1.rows + row_count es

-- a count, of which no more than 2^64 - 1 is told
abbrev pub counted_to_end : ℕ → ℕ
counted_to_end n = min n 18446744073709551615

-- The counts of a state: its committed tables, with their rows; and what recovery would find: open
-- transactions, those in the aborted transaction map, and the items of the secondary log.
abbrev pub survey_of : State → Survey
survey_of s = record {
  tables = length (rows_of_state s);
  rows = counted_to_end (row_count (rows_of_state s));
  orphans = length s.tables.opens;
  aborted = length s.tables.aborted;
  items = length s.tables.items;
}
