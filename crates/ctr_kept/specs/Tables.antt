-- Tables that a session counts on beside what its statement asks: those in which it has locks.
use Rattle.std.specs.Prelude.{List}
use Rattle.std.specs.List.{AllByRecursion}
use Rattle.ctr_paged.specs.actions_Facts.{Fact, HasTable}

-- the fact is a table's title
abbrev pub IsTable : Fact → Type 0
IsTable (HasTable e title) = Unit {0}
IsTable fact = ⊥

-- Each of these facts is a table's title.
abbrev pub AreTables : List Fact → Type 0
AreTables facts = AllByRecursion IsTable facts
