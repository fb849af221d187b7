-- What a session counts on between two of its statements.
use Rattle.std.proofs.Common.{◌≡◌, inl, inr, ℕ, List, [], ◌++◌, refl, sym, subst}
use Rattle.std.specs.List.{AllByRecursion}
use Rattle.ctr_model.specs.declared.state.Transaction.{Transaction}
use Rattle.ctr_page.specs.declared.header.Header.{Header}
use Rattle.ctr_area.specs.Sound.{IsAmong}
use Rattle.ctr_area.proofs.Buckets.{each_of}
use Rattle.ctr_rollback.specs.actions_Facts.{Fact, IsOpen, HasBlank, HasNoPageBut, HoldsFact}
use Rattle.ctr_views.specs.actions_Sites.{Site}
use Rattle.ctr_rollback.specs.kept_Carried.{IsUnderLock, IsOfEntry}
use Rattle.ctr_rollback.specs.kept_Tables.{AreTables}
use Rattle.ctr_rollback.specs.kept_Turns.{Carries}
use Rattle.ctr_rollback.proofs.kept_Tables.{UsesStill, among_last, by_parts, no_blank, carries_more}
use Rattle.ctr_told.specs.Turning.{facts_idle}

pub carried_idle : (x : ℕ) (t : Transaction) (z : Site) → HoldsFact x IsOpen z → HoldsFact x (HasNoPageBut []) z → Carries x t facts_idle z
carried_idle x t z active none =
    let all : AllByRecursion (λ (f : Fact). HoldsFact x f z × IsUnderLock t f z) facts_idle = ((active, tt), ((none, tt), tt)) in
    let titled : AllByRecursion (λ (f : Fact). (n : ℕ) → IsOfEntry f n → ⊥) facts_idle = ((λ f is. is), ((λ f is. is), tt)) in
    record {
      held = λ fact there. each_of (λ (f : Fact). HoldsFact x f z × IsUnderLock t f z) fact facts_idle all there;
      tables = λ fact f there is. absurd (each_of (λ (f : Fact). (n : ℕ) → IsOfEntry f n → ⊥) fact facts_idle titled there f is);
    }

pub idle_blank : (p : ℕ) (h : Header) → IsAmong (HasBlank p h) facts_idle → ⊥
idle_blank p h (inl is) = absurd cc
idle_blank p h (inr (inl is)) = absurd cc
idle_blank p h (inr (inr none)) = absurd none

-- the two that it counts on are among them
pub idle_open : (more facts : List Fact) → facts ≡ facts_idle ++ more → IsAmong IsOpen facts
idle_open more facts are = subst (λ (l : List Fact). IsAmong IsOpen l) (sym are) (inl refl)

pub idle_none : (more facts : List Fact) → facts ≡ facts_idle ++ more → IsAmong (HasNoPageBut []) facts
idle_none more facts are = subst (λ (l : List Fact). IsAmong (HasNoPageBut []) l) (sym are) (inr (inl refl))

pub idle_more : (more facts : List Fact) → facts ≡ facts_idle ++ more → (f : Fact) → IsAmong f more → IsAmong f facts
idle_more more facts are f in_ = subst (λ (l : List Fact). IsAmong f l) (sym are) (among_last f facts_idle more in_)

pub idle_blanks : (more : List Fact) → AreTables more → (p : ℕ) (h : Header) → IsAmong (HasBlank p h) (facts_idle ++ more) → ⊥
idle_blanks more tables p h in_ = by_parts (HasBlank p h) facts_idle more in_ (idle_blank p h) (no_blank more tables p h)

-- with tables more, each of which holds
pub carried_more : (x : ℕ) (t u : Transaction) (y z : Site) (more : List Fact) → AreTables more → ((f : Fact) → IsAmong f more → IsUnderLock t f y) → UsesStill t u → ((f : Fact) → IsAmong f more → HoldsFact x f z)
    → HoldsFact x IsOpen z → HoldsFact x (HasNoPageBut []) z → Carries x u (facts_idle ++ more) z
carried_more x t u y z more tables under uses held active none = carries_more x more tables t u y z facts_idle under uses held (carried_idle x u z active none)
