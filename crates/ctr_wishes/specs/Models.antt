-- What a Write will do is what the model says of it.
use Rattle.std.specs.Prelude.{◌≡◌, ℕ, ℤ, ◌<◌, ◌^◌, [], ◌∷◌, List, None, Some}
use Rattle.ctr_types.specs.declared.value.Column.{Column}
use Rattle.ctr_types.specs.declared.statement.Statement.{Statement}
use Rattle.ctr_types.specs.declared.tape.Reply.{Reply}
use Rattle.ctr_types.specs.declared.tape.Reply.TheVariants as reply
use Rattle.ctr_model.specs.Database.{Database}
use Rattle.ctr_model.specs.Refusals.{table_of, key_written, write_refusal}
use Rattle.ctr_model.specs.Reply.{changes_of}
use Rattle.ctr_versions.specs.Keys.{row_written}
use Rattle.ctr_area.specs.Reading.{version_said}
use Rattle.ctr_reading.specs.heap_Ways.{IsHeadOf}
use Rattle.ctr_wishes.specs.HeadMade.{HeadMade}
use Rattle.ctr_wishes.specs.Heads.{version_by}
use Rattle.ctr_wishes.specs.declared.making.Prepared.{Prepared}
use Rattle.ctr_wishes.specs.declared.making.Prepared.TheVariants.{Refused, Lays}

-- The Write of a statement isn't refused. By each transaction the head is a version of the row of
-- its key in a table with these columns, and says the row of the one change that the Write makes.
pub record LaysChange (db : Database) (cs : List Column) (statement : Statement) (h : HeadMade)
    : Type 0 where
  pub unrefused : write_refusal db statement ≡ None
  pub is_head : (key : ℤ) (x : ℕ) → key_written statement ≡ Some key → x < 2 ^ 64
      → IsHeadOf cs key (version_by x h)
  pub changes : (name : List ℕ) (key : ℤ) (x : ℕ) → table_of statement ≡ Some name
      → key_written statement ≡ Some key
      → changes_of db statement ≡ row_written name key (version_said cs key (version_by x h)).1 ∷ []

-- What is prepared is what the model says of the Write: why it is refused, or its change.
abbrev pub IsModels : Database → List Column → Statement → Prepared → Type 0
IsModels db cs statement (Refused why) = write_refusal db statement ≡ Some why
IsModels db cs statement (Lays h) = LaysChange db cs statement h

-- the reply to a Write that is done as it was prepared
abbrev pub reply_of : Prepared → Reply
reply_of (Refused why) = reply.Refused why
reply_of (Lays h) = reply.Done
