-- A table that is made dead, and an entry of the catalog that is freed.
use Rattle.std.specs.Prelude.{ℕ, [], ◌∷◌}
use Rattle.ctr_rec.specs.declared.record.Record.{Record}
use Rattle.ctr_rec.specs.declared.record.Record.TheVariants.{Trim}
use Rattle.ctr_area.specs.Areas.{Title, Area, no_pages}
use Rattle.ctr_area.specs.Changes.{with_title, with_firsts}
use Rattle.ctr_record_effects.specs.Changing.{laid_in_entry}
use Rattle.ctr_alloc.specs.actions_Actions.{Action, FreesEntry}

-- the record by which a dropped table's entry is dead
abbrev pub dying_record : ℕ → Record
dying_record e = Trim (laid_in_entry e 0 (2 ∷ []))

-- the record by which an entry is free
abbrev pub freed_record : ℕ → Record
freed_record e = Trim (laid_in_entry e 0 (0 ∷ []))

-- the title of an entry that is freed: of it only the state is looked at
abbrev pub freed_title : Area → ℕ → Title
freed_title area e = record (area.title e) { state = 0 }

-- the area that is left: the entry has no page
abbrev pub freed_area : Area → ℕ → Area
freed_area area e = with_firsts e no_pages (with_title e (freed_title area e) area)

-- The action by which an entry of the catalog is freed.
abbrev pub frees : ℕ → Area → Action
frees e area = FreesEntry e (freed_title area e) (freed_area area e)
