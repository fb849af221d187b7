-- Pages that are read one behind another, and searches that tell no damage.
use Rattle.std.proofs.Common.{◌≡◌, inl, inr, ℕ, ◌<◌, Option, None, Result, Ok, Err, refl, subst}
use Rattle.std.specs.Prelude.{⊤, IfErr}
use Rattle.ctr_disk.specs.declared.disk.Disk.{Ghosts}
use Rattle.ctr_disk.specs.Image.{Image}
use Rattle.ctr_disk.specs.declared.fault.StoreFault.{StoreFault}
use Rattle.ctr_disk.specs.declared.fault.StoreFault.TheVariants.{Fault, Damaged}
use Rattle.ctr_store.specs.rec_BadRecord.{BadRecord}
use Rattle.ctr_record_effects.specs.page_BadChain.{BadChain}
use Rattle.ctr_record_effects.specs.page_BadChain.TheVariants.{OnPage, TooLong}
use Rattle.ctr_store.specs.Store.{View, LeavesPage}
use Rattle.ctr_walk.specs.Damage.{EndsTold, ReadsPages}
use Rattle.ctr_walk.proofs.Joins.{answers_ok, pages_join}
use Rattle.ctr_walk.proofs.PagesRead.{HasRead}
use Rattle.ctr_walk.proofs.Damages.{reads_err, reads_behind}
use Rattle.ctr_wishes.specs.ctr_reading.undamaged_Undamaged.{MeetsNoDamage}
use Rattle.ctr_wishes.specs.ctr_reading.catalog_Finding.{EndsEntry, EndsChange}

module _ {D : Type 0} (first : Image) (g : Ghosts D) where
  -- a call that reads pages, behind one that was answered
  pub read_behind : (S T : Type 0) (x : S) (a b c : View D) (result : Result T StoreFault) → ReadsPages {T = S} first g a b (Ok x) → ReadsPages {T = T} first g b c result → ReadsPages {T = T} first g a c result
  read_behind S T x a b c (Ok y) one two = pages_join g a b c first S T x (Ok y) one two
  read_behind S T x a b c (Err e) one two = reads_behind first g T x a b c e one (reads_err first g T ⊤ e b c two)

  -- what was read doesn't depend on what is answered
  pub read_answered : (S T : Type 0) (x : S) (y : T) (a b : View D) → ReadsPages {T = S} first g a b (Ok x) → ReadsPages {T = T} first g a b (Ok y)
  read_answered S T x y a b one = answers_ok first g x y a b one

  -- nor on what is refused
  pub read_failed : (S T : Type 0) (e : StoreFault) (a b : View D) → ReadsPages {T = S} first g a b (Err e) → ReadsPages {T = T} first g a b (Err e)
  read_failed S T e a b one = reads_err first g S T e a b one

  -- behind pages that were read: where no more are
  pub unread_answered : (T : Type 0) (y : T) (a b : View D) → LeavesPage {T = ⊤} first g a b (Ok tt) → ReadsPages {T = T} first g a b (Ok y)
  unread_answered T y a b one = answers_ok first g tt y a b one

  -- a call that was answered, for another answer
  pub behind_answered : (S T : Type 0) (x : S) (y : T) (a b c : View D) → LeavesPage {T = ⊤} first g a b (Ok tt) → ReadsPages {T = S} first g b c (Ok x) → ReadsPages {T = T} first g a c (Ok y)
  behind_answered S T x y a b c one two = answers_ok first g x y a c (pages_join g a b c first ⊤ S tt (Ok x) one two)

  -- one that was refused
  pub behind_failed : (S T : Type 0) (e : StoreFault) (a b c : View D) → LeavesPage {T = ⊤} first g a b (Ok tt) → ReadsPages {T = S} first g b c (Err e) → ReadsPages {T = T} first g a c (Err e)
  behind_failed S T e a b c one two = reads_behind first g T tt a b c e one (reads_err first g S ⊤ e b c two)

  -- what was read, for a call behind it
  pub read_so_far : (S : Type 0) (x : S) (a b c : View D) → LeavesPage {T = ⊤} first g a b (Ok tt) → ReadsPages {T = S} first g b c (Ok x) → LeavesPage {T = ⊤} first g a c (Ok tt)
  read_so_far S x a b c one two = answers_ok first g x tt a c (pages_join g a b c first ⊤ S tt (Ok x) one two)

  pub read_first : (S : Type 0) (x : S) (a b : View D) → ReadsPages {T = S} first g a b (Ok x) → LeavesPage {T = ⊤} first g a b (Ok tt)
  read_first S x a b one = answers_ok first g x tt a b one

  -- behind those of a loop
  pub read_on_failed : (Untouched S T : Type 0) (e : StoreFault) (a b c : View D) → HasRead first g Untouched a b → ReadsPages {T = S} first g b c (Err e) → ReadsPages {T = T} first g a c (Err e)
  read_on_failed U S T e a b c (inl u) two = read_failed S T e a c (subst (λ (v : View D). ReadsPages {T = S} first g v c (Err e)) u.0 two)
  read_on_failed U S T e a b c (inr one) two = behind_failed S T e a b c one two

-- a search that meets no damage is refused by the disk alone
pub undamaged : {T B : Type 0} (Ends : Result T B → Type 0) (told : B → StoreFault) (result : Result T StoreFault) → MeetsNoDamage Ends → EndsTold told Ends result → IfErr result (λ e. e ≡ Fault)
undamaged Ends told (Ok x) law ends = tt
undamaged Ends told (Err Fault) law ends = refl
undamaged Ends told (Err (Damaged d)) law ends = absurd (law.told told d ends)

-- a look at several entries of the catalog ends at no damage where none at one of them does
pub looks_well : (check : ℕ → Result ⊤ BadRecord) (is : ℕ → Option ℕ) (from : ℕ) → ((who : Option ℕ) (e : ℕ) → e < 32 → MeetsNoDamage (EndsEntry (check e) who e)) → MeetsNoDamage (EndsChange check is from)
looks_well check is from law = record { ends = well; told = λ told d at. well at.0 at.1 }
  where
    well : (bad : BadChain) → EndsChange check is from (Err bad) → ⊥
    well (OnPage q bad) (e, lt, fails, on) = (law None e lt).ends (OnPage q bad) (fails.fails, on)
    well (TooLong last most) none = none
