-- What is read of names and locks is whether a row is locked.
use Rattle.std.proofs.Common.{◌≡◌, inl, inr, ℕ, ◌+◌, ◌≤◌, ◌<◌, ◌==◌, ℤ, Bool, true, false, List, Result, Ok, Err, refl, sym, subst, arith}
use Rattle.std.specs.Prelude.{⊤, ◌↔◌, IfOk}
use Rattle.std.proofs.lemmas.Bool.{false≢true, eqb-true, eqb-false}
use Rattle.ctr_disk.specs.declared.disk.Disk.{Ghosts}
use Rattle.ctr_disk.specs.Image.{Image}
use Rattle.ctr_disk.specs.declared.fault.StoreFault.{StoreFault}
use Rattle.ctr_locks.specs.Held.{LocksOfSession, session_locks}
use Rattle.ctr_area.specs.Areas.{Area}
use Rattle.ctr_store.specs.Store.{View, LeavesPage}
use Rattle.ctr_walk.specs.Damage.{ReadsPages}
use Rattle.ctr_walk.proofs.Damages.{reads_behind, reads_err}
use Rattle.ctr_walk.proofs.PagesRead.{HasRead}
use Rattle.ctr_locking.specs.Locking.{names_of, IsNamedAs, LockSaid, LocksSaid}

module _ {D : Type 0} (first : Image) (g : Ghosts D) where
  -- a reading that fails behind one that didn't
  pub reads_on : {S : Type 0} (T : Type 0) (x : S) (e : StoreFault) (a b c : View D) → LeavesPage {T = S} first g a b (Ok x) → ReadsPages {T = T} first g b c (Err e) → ReadsPages {T = T} first g a c (Err e)
  reads_on {S} T x e a b c one two = reads_behind first g T x a b c e one (reads_err first g T ⊤ e b c two)

  pub reads_further : (U T : Type 0) (e : StoreFault) (a b c : View D) → HasRead first g U a b → ReadsPages {T = T} first g b c (Err e) → ReadsPages {T = T} first g a c (Err e)
  reads_further U T e a b c (inl u) two = subst (λ (v : View D). ReadsPages {T = T} first g v c (Err e)) u.0 two
  reads_further U T e a b c (inr one) two = reads_on T tt e a b c one two

module _ (locks : List (ℕ × LocksOfSession)) (area : Area) (e : ℕ) (key : ℤ) where
  -- where the key is locked in an entry, the name tells
  pub said_named : (f s : ℕ) → session_locks s f key locks ≡ true → (answer : Result Bool StoreFault) → IfOk answer (λ is. (is ≡ true) ↔ IsNamedAs area e f) → IfOk answer (LockSaid locks area e key f)
  said_named f s locked (Err why) tells = tt
  said_named f s locked (Ok true) tells = (tells.0 refl, (s, locked))
  said_named f s locked (Ok false) tells = λ same. absurd (false≢true (tells.1 (inl same)))

  -- ---- entry by entry

  -- of the entries before one that have the name none has the key locked
  abbrev pub AreUnlockedTo : ℕ → Type 0
  AreUnlockedTo n = (f s : ℕ) → f < n → names_of area f ≡ names_of area e → session_locks s f key locks ≡ false

  pub none_locked : AreUnlockedTo 0
  none_locked f s lt same = absurd (omega (arith, lt))

  pub one_more : (n m : ℕ) → m ≡ n + 1 → LockSaid locks area e key n false → AreUnlockedTo n → AreUnlockedTo m
  one_more n m next here before f s lt same = by (f == n) refl
    where
      by : (b : Bool) → (f == n) ≡ b → session_locks s f key locks ≡ false
      by true is = let at = eqb-true f n is in subst (λ k. session_locks s k key locks ≡ false) (sym at) (here (subst (λ k. names_of area k ≡ names_of area e) at same) s)
      by false apart = before f s (less (eqb-false f n apart)) same
        where
          less : (f ≡ n → ⊥) → f < n
          less other = omega (arith, lt, next, other)

  pub all_unlocked : (n : ℕ) → 32 ≤ n → AreUnlockedTo n → LocksSaid locks area e key false
  all_unlocked n all are f s lt same = are f s (below lt) same
    where
      below : f < 32 → f < n
      below few = omega (arith, few, all)
