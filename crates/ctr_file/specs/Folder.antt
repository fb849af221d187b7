-- What a folder keeps of its files: which may hold what didn't reach the disk.
use Rattle.std.specs.Prelude.{◌≡◌, Bool, true, false, Option, None, Some}
use Rattle.ctr_types.specs.declared.file.File.{File}
use Rattle.ctr_types.specs.declared.file.File.TheVariants.{Root, LogA, LogB, Pages}
use Rattle.ctr_file.specs.declared.folder.Folder.{Folder}
use Rattle.ctr_file.specs.declared.marked.Marked.{Marked}

-- whether the next sync has to reach an open file
abbrev pub is_marked : {F : Type 0} → Marked F → Bool
is_marked opened = opened.is_unsynced

-- The open file that a marked one has.
abbrev pub file_within : {F : Type 0} → Marked F → F
file_within opened = opened.file

-- The next sync has to reach a file that is marked, and one that isn't open yet: what an earlier
-- program wrote may not have reached the disk.
abbrev pub is_unsynced : {F : Type 0} → Option (Marked F) → Bool
is_unsynced None = true
is_unsynced (Some opened) = is_marked opened

-- the next sync has to reach this file of the folder
abbrev pub IsUnsynced : {R Opened : Type 0} → File → Folder R Opened → Type 0
IsUnsynced Root f = is_unsynced f.root ≡ true
IsUnsynced LogA f = is_unsynced f.log_a ≡ true
IsUnsynced LogB f = is_unsynced f.log_b ≡ true
IsUnsynced Pages f = is_unsynced f.pages ≡ true

-- A sync that failed isn't forgotten, nor are names and bytes that may not have reached the disk.
pub record KeepsInMind {R Opened : Type 0} (old new : Folder R Opened) : Type 0 where
  pub lost : new.has_lost ≡ old.has_lost
  pub names : old.are_names_unsynced ≡ true → new.are_names_unsynced ≡ true
  pub files : (file : File) → IsUnsynced file old → IsUnsynced file new

-- No file is left for the next sync to reach, nor are names of files.
pub record IsSynced {R Opened : Type 0} (f : Folder R Opened) : Type 0 where
  pub root : is_unsynced f.root ≡ false
  pub log_a : is_unsynced f.log_a ≡ false
  pub log_b : is_unsynced f.log_b ≡ false
  pub pages : is_unsynced f.pages ≡ false
  pub names : f.are_names_unsynced ≡ false

-- The names are synced, and the files are as they were.
pub record SyncsNames {R Opened : Type 0} (old new : Folder R Opened) : Type 0 where
  pub names : new.are_names_unsynced ≡ false
  pub root : new.root ≡ old.root
  pub log_a : new.log_a ≡ old.log_a
  pub log_b : new.log_b ≡ old.log_b
  pub pages : new.pages ≡ old.pages
