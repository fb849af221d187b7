-- What calls have found on pages, and how it is told.
use Rattle.std.proofs.Common.{◌≡◌, inl, inr, ⊎_elim, ℕ, Result, Ok, Err, sym, ◌∙◌, ap, subst}
use Rattle.std.specs.Prelude.{IfOk, OnErr, ⊤}
use Rattle.ctr_types.specs.Faults.{HasFault}
use Rattle.ctr_disk.specs.declared.disk.Disk.{Ghosts}
use Rattle.ctr_disk.specs.Image.{Image}
use Rattle.ctr_disk.specs.declared.fault.StoreFault.{StoreFault}
use Rattle.ctr_disk.specs.declared.fault.StoreFault.TheVariants.{Fault, Damaged}
use Rattle.ctr_record_effects.specs.page_BadChain.{BadChain}
use Rattle.ctr_record_effects.specs.page_BadChain.TheVariants.{OnPage, TooLong}
use Rattle.ctr_store.specs.Store.{View, LeavesPage}
use Rattle.ctr_walk.specs.declared.fault.SearchFault.{SearchFault}
use Rattle.ctr_walk.specs.declared.fault.SearchFault.TheVariants.{Store, Bad}
use Rattle.ctr_walk.specs.Damage.{damage_behind, searched, EndsTold, TellsFound, ReadsPages}
use Rattle.ctr_walk.proofs.Joins.{fails_with, answers_ok, answers_err, pages_join}

-- damage is told so
ends_bad : {B T : Type 0} (told : B → StoreFault) (Ends : Result T B → Type 0) (bad : B) (e : StoreFault) → Ends (Err bad) → told bad ≡ e → EndsTold told Ends (Err e)
ends_bad told Ends bad Fault ends is = tt
ends_bad told Ends bad (Damaged d) ends is = (bad, ends, is)

-- where it ends so, it is told so
pub told_ends : {Known T : Type 0} (told : BadChain → StoreFault) (Ends : Result T BadChain → Type 0) (found : Result T SearchFault) (result : Result T StoreFault) → TellsFound Known told found result → Known → OnErr (searched found) (searched found ≡ Err Fault)
    → IfOk (searched found) Ends → EndsTold told Ends result
told_ends told Ends (Ok x) result is known fault ends = subst (EndsTold told Ends) (sym is) ends
told_ends {T} told Ends (Err (Bad bad)) result (e, is, why) known fault ends =
    subst (EndsTold told Ends) (sym is)
    (⊎_elim (λ w. subst (λ (x : StoreFault). EndsTold told Ends (fails_with T x)) (sym w) tt) (λ w. ends_bad told Ends bad e ends (sym w)) (why known))
told_ends {T} told Ends (Err (Store e)) result is known fault ends =
    let same : e ≡ Fault = one e Fault fault in
    subst (EndsTold told Ends) (sym (is ∙ ap (fails_with T) same)) tt
  where
    one : (x y : StoreFault) → fails_with (Result T BadChain) x ≡ fails_with (Result T BadChain) y → x ≡ y
    one x y same = cc same

-- what holds of an answer that was found holds of the one that is told
pub told_ok : {T : Type 0} (Known : Type 0) (told : BadChain → StoreFault) (P : T → Type 0) (found : Result T SearchFault) (result : Result T StoreFault) → TellsFound Known told found result → IfOk found P → IfOk result P
told_ok Known told P (Ok x) result is holds = subst (λ r. IfOk r P) (sym is) holds
told_ok Known told P (Err (Bad bad)) result (e, is, why) holds = subst (λ r. IfOk r P) (sym is) tt
told_ok Known told P (Err (Store e)) result is holds = subst (λ r. IfOk r P) (sym is) tt

module _ {D : Type 0} (first : Image) (g : Ghosts D) where
  -- what a reading leaves
  pub reads : {T : Type 0} (result : Result T StoreFault) (a b : View D) → LeavesPage {T = T} first g a b result → ReadsPages {T = T} first g a b result
  reads (Ok x) a b read = read
  reads (Err Fault) a b read = read
  reads (Err (Damaged d)) a b read = inl read

  -- what damage or a fault leaves doesn't depend on what else might be answered
  pub reads_err : (S T : Type 0) (e : StoreFault) (a b : View D) → ReadsPages {T = S} first g a b (Err e) → ReadsPages {T = T} first g a b (Err e)
  reads_err S T Fault a b read = answers_err first g {S = S} {T = T} Fault a b read
  reads_err S T (Damaged d) a b (inl read) = inl (answers_err first g {S = S} {T = T} (Damaged d) a b read)
  reads_err S T (Damaged d) a b (inr read) = inr read

  -- damage that was found where the home of its page was read
  pub tells_bad : {S : Type 0} (home : ℕ) (bad : BadChain) (a b : View D) (x : S) → LeavesPage {T = S} first g a b (Ok x) → ReadsPages {T = ⊤} first g a b (Err (damage_behind home bad))
  tells_bad home (OnPage p bad) a b x read = inr (answers_ok first g x tt a b read)
  tells_bad home (TooLong last most) a b x read = inr (answers_ok first g x tt a b read)

  -- a call that reads pages, behind a page that was read
  pub reads_behind : {S : Type 0} (T : Type 0) (x : S) (a b c : View D) (e : StoreFault) → LeavesPage {T = S} first g a b (Ok x) → ReadsPages {T = ⊤} first g b c (Err e) → ReadsPages {T = T} first g a c (Err e)
  reads_behind {S} T x a b c Fault one two = reads_err ⊤ T Fault a c (pages_join g a b c first S ⊤ x (Err Fault) one two)
  reads_behind {S} T x a b c (Damaged d) one (inl two) =
      reads_err ⊤ T (Damaged d) a c (inl (pages_join g a b c first S ⊤ x (Err (Damaged d)) one two))
  reads_behind {S} T x a b c (Damaged d) one (inr two) =
      reads_err ⊤ T (Damaged d) a c (inr (pages_join g a b c first S ⊤ x (Ok tt) one two))

  -- Where reading tells that the disk failed, this is counted; damage is told behind calls that didn't fail, or by one that found it.
  pub reading_counted : {T : Type 0} (a b : View D) (result : Result T StoreFault) → ReadsPages {T = T} first g a b result → HasFault Fault (g.faults_of a.disk) (g.faults_of b.disk) result
  reading_counted a b (Ok x) read = read.faults
  reading_counted a b (Err Fault) read = read.faults
  reading_counted a b (Err (Damaged d)) (inl read) = read.faults
  reading_counted a b (Err (Damaged d)) (inr read) =
      let faults = read.faults in
      record { later = faults.later; failed = λ is. absurd cc; fine = λ isnt. faults.fine (λ is. absurd cc) }
