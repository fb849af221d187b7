use Rattle.ctr_area.specs.Images.{is_committed_in}
use Rattle.ctr_redo.specs.ctr_meta.Tables.{no_tables}
use Rattle.ctr_redo.specs.Images.{new_root}
use Rattle.ctr_database.proofs.Opens.{new_finds_root, new_log_passes, new_pages_pass, new_is_fresh}
use Rattle.ctr_database.proofs.Zeros.{new_has_no_rows, new_is_state}
use Rattle.ctr_database.proofs.making.a_new_database_is_empty.Goals as goal

pub returns-clause-stands : goal.returns-clause-stands
returns-clause-stands c = λ image is. record {
  stands = record { folds = is.1; sound = new_is_state (c.new_database.ensures.sound 64) };
  opens = record {
    root = new_root;
    stands = new_finds_root image is.0 is.1;
    log = new_log_passes image is.0 is.1;
    pages = new_pages_pass image is.0 is.1;
    fresh = new_is_fresh image is.0 is.1;
  };
}

pub returns-clause-rows : goal.returns-clause-rows
returns-clause-rows c = let committed = is_committed_in no_tables in new_has_no_rows committed (c.new_database.ensures.rows committed)
