-- What the fields of a visitor stand for, and what they keep.
use Rattle.std.specs.Prelude.{◌≡◌, ◌≤◌, ◌+◌, ◌^◌, Bool, IsTrue, length}
use Rattle.ctr_disk.specs.Image.{Image}
use Rattle.ctr_store.specs.declared.seen.Seen.TheInside.{Inside}
use Rattle.ctr_store.specs.Numbers.{NumbersWithin}
use Rattle.ctr_store.specs.RecordChecks.{SeenLog, AllPass, CountsPages, tables_seen}

-- What was seen of a log, by the fields of the code.
abbrev pub seen_in : {D O : Type 0} → Inside D O → SeenLog
seen_in a = record { visits = a.visits; tables = a.meta.tables; pages = a.pages }

-- Each record passed, and the tables are theirs; where the disk tells, as many pages are counted
-- as its first image says. There are 2^60 records at most, and each led the numbers that the tables
-- count with on by one at most, from those that a Checkpoint may have.
pub record IsSeen {D O : Type 0} (tells : Bool) (first : Image) (a : Inside D O) : Type 0 where
  pub passed : AllPass a.pages a.visits
  pub tables : a.meta.tables ≡ tables_seen a.visits
  pub counts : IsTrue tells → CountsPages first a.pages
  pub few : length a.visits ≤ 2 ^ 60
  pub numbers : NumbersWithin (2 ^ 63 + 2 ^ 62 + length a.visits) (2 ^ 62 + length a.visits)
      a.meta.tables
