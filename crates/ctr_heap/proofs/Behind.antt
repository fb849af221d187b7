-- What a store recalls of a key, and a call behind the pages that were read for it.
use Rattle.std.proofs.Common.{inl, inr, ℕ, ◌<◌, ℤ, List, Option, None, Some, Result, Ok, Err, arith}
use Rattle.std.specs.Prelude.{IfSome, ⊤, pos, negsuc}
use Rattle.ctr_disk.specs.declared.disk.Disk.{Ghosts}
use Rattle.ctr_disk.specs.Image.{Image}
use Rattle.ctr_disk.specs.declared.fault.StoreFault.{StoreFault}
use Rattle.ctr_disk.specs.declared.fault.StoreFault.TheVariants.{Fault, Damaged}
use Rattle.ctr_page.specs.declared.rows.Place.{Place}
use Rattle.ctr_page.specs.Places.{bucket_of}
use Rattle.ctr_walk.specs.Damage.{ReadsPages}
use Rattle.ctr_walk.specs.directory_Chains.{Knows}
use Rattle.ctr_walk.specs.store_Store.{View, LeavesPage}
use Rattle.ctr_walk.proofs.Joins.{answers_err, pages_join}
use Rattle.ctr_heap.specs.declared.slots.SlotSought.TheVariants.{Key}
use Rattle.ctr_heap.specs.Finding.{EndsBucket}
use Rattle.ctr_heap.proofs.Known.{known_ends}

bucket_low : (key : ℤ) → bucket_of key < 8
bucket_low (pos n) = omega arith
bucket_low (negsuc n) = omega arith

-- what is known of a key is where the search for it ends
pub known_told : (pages : ℕ → List ℕ) (counted e : ℕ) (key : ℤ) (r : Option (Option Place)) → e < 32 → IfSome r (Knows counted pages e (bucket_of key) key) → IfSome r (λ found. EndsBucket counted pages e (bucket_of key) (Key key) (Ok found))
known_told pages counted e key None few knows = tt
known_told pages counted e key (Some found) few knows = known_ends pages counted e (bucket_of key) key found few (bucket_low key) knows

module _ {D : Type 0} (first : Image) (g : Ghosts D) (a b c : View D) where
  -- pages that were read behind others
  pub reads_behind : {S T : Type 0} (x : S) (result : Result T StoreFault) → LeavesPage {T = S} first g a b (Ok x) → ReadsPages first g b c result → ReadsPages first g a c result
  reads_behind {S} {T} x (Ok y) one two = pages_join g a b c first S T x (Ok y) one two
  reads_behind {S} {T} x (Err Fault) one two = pages_join g a b c first S T x (Err Fault) one two
  reads_behind {S} {T} x (Err (Damaged d)) one (inl two) = inl (pages_join g a b c first S T x (Err (Damaged d)) one two)
  reads_behind {S} {T} x (Err (Damaged d)) one (inr two) = inr (pages_join g a b c first S ⊤ x (Ok tt) one two)

-- pages that weren't read
pub reads_err : {D S : Type 0} (T : Type 0) (first : Image) (g : Ghosts D) (a b : View D) (e : StoreFault) → LeavesPage {T = S} first g a b (Err e) → ReadsPages {T = T} first g a b (Err e)
reads_err {D} {S} T first g a b Fault leaves = answers_err first g {S = S} {T = T} Fault a b leaves
reads_err {D} {S} T first g a b (Damaged d) leaves = inl (answers_err first g {S = S} {T = T} (Damaged d) a b leaves)
