-- What each record leaves of what is counted on.
use Rattle.std.proofs.Common.{◌≡◌, ◌≢◌, ℕ, ◌+◌, Bool, Result, Ok, Err, refl, sym, ◌∙◌, ap, subst, ◌<◌, arith}
use Rattle.std.proofs.lemmas.Bool.{false≢true}
use Rattle.std.specs.Prelude.{IfOk, IfErr, is_ok, Option}
use Rattle.ctr_disk.specs.declared.fault.StoreFault.{StoreFault}
use Rattle.ctr_disk.specs.declared.fault.StoreFault.TheVariants.{Fault, Damaged}
use Rattle.ctr_page.specs.declared.walk.BadChain.{BadChain}
use Rattle.ctr_page.specs.declared.walk.BadChain.TheVariants.{OnPage, TooLong}
use Rattle.ctr_page.specs.declared.checks.Chain.TheVariants.{Rows, Versions}
use Rattle.ctr_page.specs.Damage.{chain_entry}
use Rattle.ctr_page_turns.specs.record_effects_States.{pages_in}
use Rattle.ctr_page_turns.specs.record_effects_Standing.{IsDatabaseState}
use Rattle.ctr_page_turns.specs.walk_Damage.{EndsTold}
use Rattle.ctr_page_turns.specs.walk_Tables.{IsChain, EndsFirst}
use Rattle.ctr_page.specs.declared.checks.Chain.{Chain}
use Rattle.ctr_base.specs.redo_States.{State, grown}
use Rattle.ctr_stops.specs.store_Store.{View, KeepsRoom}
use Rattle.ctr_undamaged.specs.alloc_Free.{IsNextFree}
use Rattle.ctr_undamaged.specs.alloc_NextFree.{NextFree}
use Rattle.ctr_page_turns.specs.actions_Sites.{Site}
use Rattle.ctr_stops.specs.actions_Facts.{Fact, HoldsFact}
use Rattle.ctr_extend.specs.declared.ways.OnWay.TheVariants.{Taken, Made}
use Rattle.ctr_extend.specs.declared.ways.Extended.{Extended}
use Rattle.ctr_extend.specs.declared.ways.Extended.TheVariants.{On, Linked, Grown, Full}
use Rattle.ctr_extend.specs.Ways.{IsOnWay}
use Rattle.ctr_extend.specs.Steps.{MakesEmpty, PutsInFront, ExtendsBy, MovesBy}

-- a fact holds of a site that is the one of which it holds
pub moved : (x : ℕ) (f : Fact) (s t : Site) → t ≡ s → HoldsFact x f s → HoldsFact x f t
moved x f s t is held = subst (λ z. HoldsFact x f z) (sym is) held

module _ (x : ℕ) (chain : Chain) (page next : ℕ) (s t : State) where
  -- a page that was taken is made empty
  pub made_first : (result : Result Extended StoreFault) → IfOk result (λ e. (e ≡ On (Made page next)) × MakesEmpty x chain page next s t)
      → IfOk result (ExtendsBy x chain (Taken page) s t)
  made_first (Ok e) makes = subst (ExtendsBy x chain (Taken page) s t) (sym makes.0) (refl, makes.1)
  made_first (Err e) makes = tt

  -- a page that is empty is made so once more
  pub made_again : (was : ℕ) (result : Result Extended StoreFault) → was ≢ next → IfOk result (λ e. (e ≡ On (Made page next)) × MakesEmpty x chain page next s t)
      → IfOk result (ExtendsBy x chain (Made page was) s t)
  made_again was (Ok e) other makes = subst (ExtendsBy x chain (Made page was) s t) (sym makes.0) (refl, other, makes.1)
  made_again was (Err e) other makes = tt

  -- it is put in front
  pub put_in_front : (result : Result Extended StoreFault) (Left : Extended → Type 0) → IfOk result (λ e. (e ≡ Linked) × Left e) → IfOk result (λ e. PutsInFront x chain page next s t)
      → IfOk result (ExtendsBy x chain (Made page next) s t)
  put_in_front (Ok e) Left is puts = subst (ExtendsBy x chain (Made page next) s t) (sym is.0) puts
  put_in_front (Err e) Left is puts = tt

-- a page that is empty is taken still
pub taken_still : (x : ℕ) (chain : Chain) (page next : ℕ) (s : State) → IsOnWay x chain (Made page next) s → IsOnWay x chain (Taken page) s
taken_still x chain page next s way = record { holds = (way.holds.0.0, way.holds.1); blank = tt }

-- what a search for a free page has found is what was matched
pub free_so : (counted : ℕ) (taken : ℕ → Bool) (n m : NextFree) → n ≡ m → IsNextFree counted taken n → IsNextFree counted taken m
free_so counted taken n m is free = subst (λ (k : NextFree). IsNextFree counted taken k) is free

-- a growth counts more pages
pub counts_more : (n : ℕ) → n < 30000 → n < grown n
counts_more n few = omega (arith, few)

-- a turn behind pages that were read moves on from where these were begun
pub moves_behind : {D : Type 0} (a m b : View D) (result : Result Extended StoreFault) → KeepsRoom a m → IfOk result (λ e. MovesBy e m b) → IfOk result (λ e. MovesBy e a b)
moves_behind a m b (Ok (On way)) keeps moves = moves ∙ ap (λ n. n + 1) keeps.next
moves_behind a m b (Ok Linked) keeps moves = moves ∙ ap (λ n. n + 1) keeps.next
moves_behind a m b (Ok Grown) keeps moves = (moves.0 ∙ keeps.next, subst (λ n. n < b.now.counted) keeps.counted moves.1)
moves_behind a m b (Ok Full) keeps moves = moves ∙ keeps.next
moves_behind a m b (Err e) keeps moves = tt

-- the entry of a table passes its check, so its first page is told, or the disk failed
pub first_undamaged : (told : BadChain → StoreFault) (s : State) → IsDatabaseState s → (chain : Chain) → IsChain chain → (result : Result (Option ℕ) StoreFault)
    → EndsTold told (EndsFirst s.counted (pages_in s) chain) result → IfErr result (λ e. e ≡ Fault)
first_undamaged told s sound chain is (Ok found) ends = tt
first_undamaged told s sound chain is (Err Fault) ends = refl
first_undamaged told s sound chain is (Err (Damaged d)) (OnPage q bad, ends, t) = absurd (false≢true (ap is_ok (sym ends.1 ∙ sound.passed.entries (chain_entry chain) (few chain is))))
  where
    few : (chain : Chain) → IsChain chain → chain_entry chain < 32
    few (Rows e b) is = is.0
    few (Versions e) is = is
first_undamaged told s sound chain is (Err (Damaged d)) (TooLong last most, ends, t) = absurd ends
