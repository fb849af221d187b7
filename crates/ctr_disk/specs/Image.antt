-- What the four files hold, what a write does to it, and what a write may leave before a sync.
use Rattle.std.specs.Prelude.{◌≡◌, zero, suc, ℕ, ◌+◌, ◌≤◌, max, List, [], ◌∷◌, ◌++◌, length, take, drop, replicate, slice_index}
use Rattle.ctr_types.specs.declared.file.File.{File}
use Rattle.ctr_types.specs.declared.file.File.TheVariants.{Root, LogA, LogB, Pages}

-- what the four files hold together, each as a list of its bytes
pub record Image : Type 0 where
  pub root : List ℕ
  pub log_a : List ℕ
  pub log_b : List ℕ
  pub pages : List ℕ

-- the bytes of a file
abbrev pub content : File → Image → List ℕ
content Root i = i.root
content LogA i = i.log_a
content LogB i = i.log_b
content Pages i = i.pages

-- the image with other bytes in one file
abbrev pub with_content : File → List ℕ → Image → Image
with_content Root bytes i = record i { root = bytes }
with_content LogA bytes i = record i { log_a = bytes }
with_content LogB bytes i = record i { log_b = bytes }
with_content Pages bytes i = record i { pages = bytes }

-- what a read of n bytes at a place gives: zeros stand past the end
abbrev pub section : ℕ → ℕ → List ℕ → List ℕ
section at zero bytes = []
section at (suc n) bytes = slice_index bytes at ∷ section (at + 1) n bytes

-- what a write at a place leaves: zeros fill a gap past the end
abbrev pub written : ℕ → List ℕ → List ℕ → List ℕ
written at bytes old = take at (old ++ replicate at 0) ++ bytes ++ drop (at + length bytes) old

-- the image after a write of bytes at a place of one file
abbrev pub write_of : File → ℕ → List ℕ → Image → Image
write_of file at bytes i = with_content file (written at bytes (content file i)) i

-- the files but this one are as they were
abbrev pub OtherFilesStay : File → Image → Image → Type 0
OtherFilesStay file old new = new ≡ with_content file (content file new) old

-- the list begins with this prefix
abbrev pub BeginsWith : List ℕ → List ℕ → Type 0
BeginsWith prefix bytes = (rest : List ℕ) × (bytes ≡ prefix ++ rest)

-- What a write of n bytes at a place may leave of a file until a sync: any bytes in the range and
-- from the old end on, and an end anywhere from the old one to the new one. Other bytes stay.
pub record Torn (at n : ℕ) (old new : List ℕ) : Type 0 where
  pub before : BeginsWith (take at old) new
  pub after : drop (at + n) new ≡ drop (at + n) old
  pub no_shorter : length old ≤ length new
  pub no_longer : length new ≤ max (length old) (at + n)

-- of one file of the joint image; the other files stay
pub record TornImage (file : File) (at n : ℕ) (old new : Image) : Type 0 where
  pub torn : Torn at n (content file old) (content file new)
  pub others : OtherFilesStay file old new
