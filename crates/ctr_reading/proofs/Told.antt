-- What readings leave, one behind another, and under another name of the answer.
use Rattle.std.proofs.Common.{◌≡◌, inl, inr, ℕ, ℤ, List, Option, Result, Ok, Err, refl, sym, ap, subst}
use Rattle.std.specs.Prelude.{IfErr, IfOk, ⊤}
use Rattle.ctr_types.specs.declared.memory.OutOfMemory.{OutOfMemory}
use Rattle.ctr_types.specs.declared.value.Row.{Row}
use Rattle.ctr_disk.specs.declared.disk.Disk.{Ghosts}
use Rattle.ctr_disk.specs.Image.{Image}
use Rattle.ctr_disk.specs.declared.fault.StoreFault.{StoreFault}
use Rattle.ctr_disk.specs.declared.fault.StoreFault.TheVariants.{Fault, Damaged}
use Rattle.ctr_walk.specs.store_Store.{View, LeavesPage}
use Rattle.ctr_walk.specs.Damage.{EndsTold, ReadsPages}
use Rattle.ctr_walk.proofs.Joins.{answers_ok, pages_join}
use Rattle.ctr_walk.proofs.Damages.{reads_err}
use Rattle.ctr_walk.proofs.PagesRead.{HasRead}
use Rattle.ctr_page.specs.declared.rows.Place.{Place}
use Rattle.ctr_page.specs.declared.walk.BadChain.{BadChain}
use Rattle.ctr_page.specs.Places.{bucket_of}
use Rattle.ctr_area.specs.Areas.{Area}
use Rattle.ctr_undamaged.specs.heap_SlotSought.{SlotSought}
use Rattle.ctr_undamaged.specs.heap_SlotSought.TheVariants.{Key}
use Rattle.ctr_undamaged.specs.heap_Finding.{EndsBucket, FindsKey}
use Rattle.ctr_views.specs.chain_Visible.{as_read}
use Rattle.ctr_views.specs.chain_ReadRefusal.{ReadRefusal}
use Rattle.ctr_views.specs.chain_ReadRefusal.TheVariants as refusal
use Rattle.ctr_undamaged.specs.Undamaged.{MeetsNoDamage}
use Rattle.ctr_reading.specs.Reading.{as_told, IsDiskOrMemory}

-- ---- errors

-- where a search meets no damage, none is told
pub undamaged : {T B : Type 0} (told : B → StoreFault) (Ends : Result T B → Type 0) → MeetsNoDamage Ends → (r : Result T StoreFault) → EndsTold told Ends r → IfErr r (λ e. e ≡ Fault)
undamaged told Ends meets (Ok x) ends = tt
undamaged told Ends meets (Err Fault) ends = refl
undamaged told Ends meets (Err (Damaged d)) ends = absurd (meets.told told d ends)

pub same_told : (r : Result (Option Row) ReadRefusal) → as_read r ≡ as_told r
same_told (Ok row) = refl
same_told (Err (refusal.Store e)) = refl
same_told (Err refusal.OutOfMemory) = refl

pub disk_or_memory : {T : Type 0} (r : Result T ReadRefusal) → IfErr (as_told r) (λ e. e ≡ Fault) → IfErr r IsDiskOrMemory
disk_or_memory (Ok x) is = tt
disk_or_memory (Err (refusal.Store e)) is = is
disk_or_memory (Err refusal.OutOfMemory) is = tt

-- ---- what they leave

module _ {D : Type 0} (first : Image) (g : Ghosts D) where
  -- behind a page that was read
  pub reads_behind : {S T : Type 0} (x : S) (r : Result T StoreFault) (a b c : View D) → LeavesPage {T = S} first g a b (Ok x) → ReadsPages {T = T} first g b c r → ReadsPages {T = T} first g a c r
  reads_behind {S} {T} x (Ok y) a b c one two = pages_join g a b c first S T x (Ok y) one two
  reads_behind {S} {T} x (Err Fault) a b c one two = pages_join g a b c first S T x (Err Fault) one two
  reads_behind {S} {T} x (Err (Damaged d)) a b c one (inl two) = inl (pages_join g a b c first S T x (Err (Damaged d)) one two)
  reads_behind {S} {T} x (Err (Damaged d)) a b c one (inr two) = inr (pages_join g a b c first S ⊤ x (Ok tt) one two)

  -- behind some, or none yet
  pub reads_further : {T : Type 0} (Untouched : Type 0) (r : Result T StoreFault) (a b c : View D) → HasRead first g Untouched a b → ReadsPages {T = T} first g b c r → ReadsPages {T = T} first g a c r
  reads_further {T} U r a b c (inl u) two = subst (λ (v : View D). ReadsPages {T = T} first g v c r) u.0 two
  reads_further U r a b c (inr one) two = reads_behind tt r a b c one two

  -- as many pages are counted
  pub same_counted : (Untouched : Type 0) (a b : View D) → HasRead first g Untouched a b → b.now.counted ≡ a.now.counted
  same_counted U a b (inl u) = ap (λ (v : View D). v.now.counted) u.0
  same_counted U a b (inr one) = one.keeps.counted

  -- behind a page that was read, and some or none yet
  pub reads_between : {S T : Type 0} (Untouched : Type 0) (x : S) (r : Result T StoreFault) (a b c d : View D) → LeavesPage {T = S} first g a b (Ok x) → HasRead first g Untouched b c → ReadsPages {T = T} first g c d r → ReadsPages {T = T} first g a d r
  reads_between U x r a b c d one some two = reads_behind x r a b d one (reads_further U r b c d some two)

  pub read_between : {S T : Type 0} (Untouched : Type 0) (x : S) (y : T) (a b c : View D) → LeavesPage {T = S} first g a b (Ok x) → HasRead first g Untouched b c → LeavesPage {T = T} first g a c (Ok y)
  read_between {S} {T} U x y a b c one (inl u) = subst (λ (v : View D). LeavesPage {T = T} first g a v (Ok y)) (sym u.0) (answers_ok first g x y a b one)
  read_between {S} {T} U x y a b c one (inr two) = answers_ok first g {S = ⊤} {T = T} tt y a c (pages_join g a b c first S ⊤ x (Ok tt) one two)

  -- a refusal under another name of the answer
  pub told_err : (S T : Type 0) (e : ReadRefusal) (a b : View D) → ReadsPages first g a b (as_told {T = S} (Err e)) → ReadsPages first g a b (as_told {T = T} (Err e))
  told_err S T (refusal.Store e) a b read = reads_err first g (Result S OutOfMemory) (Result T OutOfMemory) e a b read
  told_err S T refusal.OutOfMemory a b read = answers_ok first g _ _ a b read

  -- an answer under another name
  pub told_ok : {S T : Type 0} (x : S) (y : T) (a b : View D) → LeavesPage {T = S} first g a b (Ok x) → LeavesPage {T = T} first g a b (Ok y)
  told_ok x y a b read = answers_ok first g x y a b read

-- what follows of an answer
pub ok_so : {T E : Type 0} (P Q : T → Type 0) (r : Result T E) → ((x : T) → P x → Q x) → IfOk r P → IfOk r Q
ok_so P Q (Ok x) goes holds = goes x holds
ok_so P Q (Err e) goes holds = tt

-- ---- a key

-- the key of a call is the one that was given
pub of_key : (area : Area) (e : ℕ) (k key : ℤ) (found : Option Place) → k ≡ key → FindsKey area e k found → FindsKey area e key found
of_key area e k key found is finds = subst (λ z. FindsKey area e z found) is finds

pub bucket_undamaged : (told : BadChain → StoreFault) (counted : ℕ) (pages : ℕ → List ℕ) (e : ℕ) (k : ℤ) (r : Result (Option Place) StoreFault) → ((b : ℕ) (sought : SlotSought) → MeetsNoDamage (EndsBucket counted pages e b sought))
    → EndsTold told (EndsBucket counted pages e (bucket_of k) (Key k)) r → IfErr r (λ e. e ≡ Fault)
bucket_undamaged told counted pages e k r meets ends = undamaged told (EndsBucket counted pages e (bucket_of k) (Key k)) (meets (bucket_of k) (Key k)) r ends
