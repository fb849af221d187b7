-- A block of a file in two homes: a page, or the root.
use Rattle.std.specs.Prelude.{◌+◌, ◌-◌, ◌*◌, ◌==◌, ◌&&◌, nat_lt, if◌then◌else◌, ℕ, List, [], ◌∷◌, ◌++◌, length, take, drop, replicate, Option, Some, None}
use Rattle.ctr_disk.specs.types_File.{File}
use Rattle.ctr_disk.specs.types_File.TheVariants.{Root as RootFile, Pages}
use Rattle.ctr_disk.specs.Image.{Image, content}
use Rattle.ctr_bytes.specs.Fields.{field, spelled}
use Rattle.ctr_home.specs.declared.block.Block.{Block}
use Rattle.ctr_home.specs.declared.block.Block.TheVariants.{Page, Root}
use Rattle.ctr_home.specs.declared.block.Home.{Home}
use Rattle.ctr_home.specs.declared.block.Home.TheVariants.{First, Second}

-- the file that a block stands in
abbrev pub file_of : Block → File
file_of (Page p) = Pages
file_of Root = RootFile

-- the number that stands in each home of it
abbrev pub block_number : Block → ℕ
block_number (Page p) = p
block_number Root = 0

-- how many bytes its body has
abbrev pub body_len : Block → ℕ
body_len (Page p) = 4096
body_len Root = 25

-- how many bytes a home of it has: a gate, a number of 4 bytes, a stamp of 8, the body, zeros
abbrev pub home_len : Block → ℕ
home_len (Page p) = 4128
home_len Root = 64

-- Where the first of a block's two homes begins in its file.
abbrev pub first_place : Block → ℕ
first_place (Page p) = 8256 * p
first_place Root = 0

-- where one of its homes begins: the second stands behind the first
abbrev pub home_place : Block → Home → ℕ
home_place b First = first_place b
home_place b Second = first_place b + home_len b

-- what stands in a home behind its gate
pub record BlockValue : Type 0 where
  pub number : ℕ
  pub stamp : ℕ
  pub body : List ℕ

-- in the bytes behind a gate: number, stamp, body
abbrev pub value_behind : Block → List ℕ → BlockValue
value_behind b bytes = record {
  number = field 4 0 bytes;
  stamp = field 8 4 bytes;
  body = take (body_len b) (drop 12 bytes);
}

-- A run of so many bytes that are zero.
unfoldable pub zero_bytes : ℕ → List ℕ
zero_bytes n = replicate n 0

-- how a value stands behind a gate: number, stamp, body, and zeros to the end of the home
abbrev pub behind_gate : Block → BlockValue → List ℕ
behind_gate b v =
    spelled 4 v.number ++ spelled 8 v.stamp ++ v.body ++ zero_bytes (home_len b - (13 + body_len b))

-- the bytes of a home, as many as the file has of them
abbrev pub home_bytes : Block → Home → List ℕ → List ℕ
home_bytes b home bytes = take (home_len b) (drop (home_place b home) bytes)

-- what an open home holds: it lies whole in its file, and its gate is 1
abbrev pub opens_to : Block → List ℕ → Option BlockValue
opens_to b [] = None
opens_to b (gate ∷ rest) =
    if gate == 1 && length rest + 1 == home_len b then Some (value_behind b rest) else None

-- what a home of a file holds
abbrev pub held_at : Block → Home → List ℕ → Option BlockValue
held_at b home bytes = opens_to b (home_bytes b home bytes)

-- the one with the greater stamp, the first where both are equal
abbrev pub greater : Option BlockValue → Option BlockValue → Option BlockValue
greater None v = v
greater (Some a) None = Some a
greater (Some a) (Some b) = if nat_lt a.stamp b.stamp then Some b else Some a

-- the value of a block in the bytes of its file
abbrev pub value_in : Block → List ℕ → Option BlockValue
value_in b bytes = greater (held_at b First bytes) (held_at b Second bytes)

-- the value of a block of an image
abbrev pub value_of : Block → Image → Option BlockValue
value_of b image = value_in b (content (file_of b) image)

-- the stamp of what a home holds
abbrev pub stamp_in : Option BlockValue → Option ℕ
stamp_in None = None
stamp_in (Some v) = Some v.stamp

-- the home of the value, by the stamps that the two hold; the first where neither is open
abbrev pub value_home : Option ℕ → Option ℕ → Home
value_home None None = First
value_home None (Some b) = Second
value_home (Some a) None = First
value_home (Some a) (Some b) = if nat_lt a b then Second else First

-- where the home of the value begins in the bytes of its file
abbrev pub value_place_in : Block → List ℕ → ℕ
value_place_in b bytes =
    home_place b (value_home (stamp_in (held_at b First bytes)) (stamp_in (held_at b Second bytes)))

-- Where a block's value stands in the file of an image that has it.
abbrev pub value_place : Block → Image → ℕ
value_place b image = value_place_in b (content (file_of b) image)

-- the LSN and the bytes of a page
pub record PageValue : Type 0 where
  pub lsn : ℕ
  pub bytes : List ℕ

-- a page that nothing was written to
abbrev pub blank_page : PageValue
blank_page = record { lsn = 0; bytes = zero_bytes 4096 }

-- a page whose block has this value
abbrev pub page_with : Option BlockValue → PageValue
page_with None = blank_page
page_with (Some v) = record { lsn = v.stamp; bytes = v.body }

-- A page of an image in which so many pages are counted, as it stands at home: one without an open
-- home is blank, and so is one that isn't counted.
abbrev pub page_at_home : ℕ → ℕ → Image → PageValue
page_at_home counted p image =
    if nat_lt p counted then page_with (value_of (Page p) image) else blank_page
