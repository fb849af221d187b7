use Rattle.ctr_told.proofs.Tabled.{is_open, unseen_name, name_alone_its, owed_drop}
use Rattle.ctr_told.proofs.tables.a_table_may_be_made_or_dropped.Goals as goal

pub returns-clause-made : goal.returns-clause-made
returns-clause-made g c = λ run opened a w is none. record {
  sound = is.keeps.pages.sound;
  is_open = is_open g.D.Disk run opened a w is;
  unseen = unseen_name g.D.Disk run opened a w is none;
  alone = name_alone_its g.D.Disk run opened a w is;
}

pub returns-clause-dropped : goal.returns-clause-dropped
returns-clause-dropped g c = λ run opened a w is e found. record { sound = is.keeps.pages.sound; owed = owed_drop g.D.Disk run opened a w is e found }
