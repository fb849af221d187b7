-- What the making of a database leaves.
use Rattle.std.specs.Prelude.{◌≡◌, ◌⊎◌, IsSome, None, Result, Ok, Err, ⊤}
use Rattle.ctr_disk.specs.Image.{Image}
use Rattle.ctr_base.specs.ctr_home.declared.block.Block.TheVariants.{Root as RootBlock}
use Rattle.ctr_base.specs.ctr_home.Blocks.{value_of}
use Rattle.ctr_base.specs.redo_Images.{FoldsTo, new_state, IsNewDatabase}
use Rattle.ctr_store.specs.declared.creating.CreateError.{CreateError}
use Rattle.ctr_store.specs.declared.creating.CreateError.TheVariants.{Exists}

-- no root home is open, or the files are those of a new database
abbrev pub IsNoneOrNew : Image → Type 0
IsNoneOrNew c = (value_of RootBlock c ≡ None) ⊎ IsNewDatabase c

-- The files are those of a new database, which is sound and folds to the state in which no page has
-- anything and no transaction was.
abbrev pub IsEmptyStore : Image → Type 0
IsEmptyStore c = IsNewDatabase c × FoldsTo c new_state

-- no root home is open, or it is the empty database
abbrev pub IsNoneOrEmptyStore : Image → Type 0
IsNoneOrEmptyStore c = (value_of RootBlock c ≡ None) ⊎ IsEmptyStore c

-- A database is made only where no root home was open, and it is said to exist only where one was.
abbrev pub AnswersCreate : {D : Type 0} → Image → Result D (CreateError × D) → Type 0
AnswersCreate first (Ok d) = value_of RootBlock first ≡ None
AnswersCreate first (Err e) = e.0 ≡ Exists → IsSome (value_of RootBlock first)

-- the disk that the making leaves
abbrev pub disk_made : {D : Type 0} → Result D (CreateError × D) → D
disk_made (Ok d) = d
disk_made (Err e) = e.1

-- the answer without the disk
abbrev pub making_told : {D : Type 0} → Result D (CreateError × D) → Result ⊤ CreateError
making_told (Ok d) = Ok tt
making_told (Err e) = Err e.0
