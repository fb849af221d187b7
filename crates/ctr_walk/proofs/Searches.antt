-- Where a search on pages ends by the searches that it is made of, and what it leaves.
use Rattle.std.proofs.Common.{◌≡◌, ℕ, List, Result, Ok, Err, refl, sym, ap, subst}
use Rattle.std.specs.Prelude.{IfOk}
use Rattle.ctr_disk.specs.declared.disk.Disk.{Ghosts}
use Rattle.ctr_disk.specs.Image.{Image}
use Rattle.ctr_store.specs.rec_BadRecord.{BadRecord}
use Rattle.ctr_record_effects.specs.page_BadChain.{BadChain}
use Rattle.ctr_record_effects.specs.page_BadChain.TheVariants.{OnPage, TooLong}
use Rattle.ctr_store.specs.Store.{View, LeavesPage}
use Rattle.ctr_walk.specs.declared.fault.SearchFault.{SearchFault}
use Rattle.ctr_walk.specs.declared.fault.SearchFault.TheVariants.{Store, Bad}
use Rattle.ctr_walk.specs.Damage.{searched, found_on, EndsOnPage}
use Rattle.ctr_walk.proofs.Joins.{answers_ok, answers_err, pages_join}

-- a search without an answer
abbrev pub without : (T : Type 0) → SearchFault → Result T SearchFault
without T e = Err e

-- what was found on a page is of this page
pub ends_on : {T : Type 0} (p : ℕ) (Ends : Result T BadRecord → Type 0) (found : Result T BadRecord) → Ends found → IfOk (searched (found_on p found)) (EndsOnPage p Ends)
ends_on p Ends (Ok x) ends = ends
ends_on p Ends (Err bad) ends = (refl, ends)

-- an answer of it was found there
pub found_ok : {T : Type 0} (p : ℕ) (x : T) (found : Result T BadRecord) → found_on p found ≡ Ok x → found ≡ Ok x
found_ok p x (Ok y) is = let same : y ≡ x = cc is in ap (λ v. Ok v) same
found_ok p x (Err bad) is = absurd cc

-- what holds of an answer on a page holds of it for a search
pub ok_on : {T : Type 0} (p : ℕ) (P : T → Type 0) (found : Result T BadRecord) → IfOk found P → IfOk (found_on p found) P
ok_on p P (Ok x) holds = holds
ok_on p P (Err bad) holds = tt

-- and a page that was read is the store's
pub ends_there : {T : Type 0} (p : ℕ) (Ends : List ℕ → Result T BadRecord → Type 0) (found : Result T BadRecord) (result : Result T SearchFault) (page there : List ℕ) → result ≡ found_on p found → page ≡ there → Ends page found
    → IfOk (searched result) (EndsOnPage p (Ends there))
ends_there p Ends found result page there is same ends =
    subst (λ r. IfOk (searched r) (EndsOnPage p (Ends there))) (sym is) (ends_on p (Ends there) found (subst (λ l. Ends l found) same ends))

-- where a part of a search ends with damage, the search does
pub passed : (S T : Type 0) (e : SearchFault) (Part : Result S BadChain → Type 0) (Whole : Result T BadChain → Type 0) → ((bad : BadChain) → Part (Err bad) → Whole (Err bad))
    → IfOk (searched (without S e)) Part → IfOk (searched (without T e)) Whole
passed S T (Bad bad) Part Whole goes ends = goes bad ends
passed S T (Store e) Part Whole goes ends = tt

-- and where the part is one page
pub passed_page : (S T : Type 0) (e : SearchFault) (p : ℕ) (Part : Result S BadRecord → Type 0) (Whole : Result T BadChain → Type 0) → ((bad : BadRecord) → Part (Err bad) → Whole (Err (OnPage p bad)))
    → IfOk (searched (without S e)) (EndsOnPage p Part) → IfOk (searched (without T e)) Whole
passed_page S T (Bad (OnPage q bad)) p Part Whole goes ends = subst (λ n. Whole (Err (OnPage n bad))) (sym ends.0) (goes bad ends.1)
passed_page S T (Bad (TooLong last most)) p Part Whole goes ends = absurd ends
passed_page S T (Store e) p Part Whole goes ends = tt

-- and where the part is one page whose answer is that of the search
pub by_page : {T : Type 0} (p : ℕ) (Part : Result T BadRecord → Type 0) (Whole : Result T BadChain → Type 0) (result : Result T SearchFault) → ((x : T) → result ≡ Ok x → Part (Ok x) → Whole (Ok x)) → ((bad : BadRecord) → Part (Err bad) → Whole (Err (OnPage p bad)))
    → IfOk (searched result) (EndsOnPage p Part) → IfOk (searched result) Whole
by_page p Part Whole (Ok x) goes damaged ends = goes x refl ends
by_page {T} p Part Whole (Err e) goes damaged ends = passed_page T T e p Part Whole damaged ends

-- what follows of an answer on a page
pub ok_by : {T : Type 0} (p : ℕ) (Part : Result T BadRecord → Type 0) (P : T → Type 0) (result : Result T SearchFault) → ((x : T) → Part (Ok x) → P x) → IfOk (searched result) (EndsOnPage p Part) → IfOk result P
ok_by p Part P (Ok x) goes ends = goes x ends
ok_by p Part P (Err e) goes ends = tt

module _ {D : Type 0} (first : Image) (g : Ghosts D) where
  -- a page was read, whatever is found on it
  pub leaves_on : {S T : Type 0} (p : ℕ) (x : S) (found : Result T BadRecord) (a b : View D) → LeavesPage {T = S} first g a b (Ok x) → LeavesPage first g a b (searched (found_on p found))
  leaves_on p x (Ok y) a b page = answers_ok first g x (Ok y) a b page
  leaves_on p x (Err bad) a b page = answers_ok first g x (Err (OnPage p bad)) a b page

  -- what a search without an answer leaves doesn't depend on what was sought
  pub leaves_without : (S T : Type 0) (e : SearchFault) (a b : View D) → LeavesPage first g a b (searched (without S e)) → LeavesPage first g a b (searched (without T e))
  leaves_without S T (Bad bad) a b one = answers_ok first g (Err bad) (Err bad) a b one
  leaves_without S T (Store e) a b one = answers_err first g e a b one

  -- nor what one leaves behind a page that was read
  pub leaves_behind : {U : Type 0} (S T : Type 0) (x : U) (e : SearchFault) (a b c : View D) → LeavesPage {T = U} first g a b (Ok x) → LeavesPage first g b c (searched (without S e)) → LeavesPage first g a c (searched (without T e))
  leaves_behind {U} S T x e a b c one two = leaves_without S T e a c (pages_join g a b c first U (Result S BadChain) x (searched (without S e)) one two)

  -- a page that is read behind another, whatever is answered of it
  pub answers_behind : {S T U : Type 0} (x : S) (y : T) (z : U) (a b c : View D) → LeavesPage {T = S} first g a b (Ok x) → LeavesPage {T = T} first g b c (Ok y) → LeavesPage {T = U} first g a c (Ok z)
  answers_behind {S} {T} {U} x y z a b c one two = answers_ok first g {S = T} {T = U} y z a c (pages_join g a b c first S T x (Ok y) one two)
