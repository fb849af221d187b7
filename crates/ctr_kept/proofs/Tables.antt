-- What a session carries with tables more: an action that leaves all titles leaves these.
use Rattle.std.proofs.Common.{◌≡◌, ⊎_elim, inl, inr, ℕ, true, List, [], ◌∷◌, ◌++◌, ◌∙◌}
use Rattle.std.specs.List.{AllByRecursion}
use Rattle.ctr_model.specs.declared.state.Transaction.{Transaction}
use Rattle.ctr_model.specs.State.{has_name}
use Rattle.ctr_paged.specs.page_Header.{Header}
use Rattle.ctr_paged.specs.area_Sound.{IsAmong}
use Rattle.ctr_paged.proofs.area_Buckets.{each_of}
use Rattle.ctr_paged.specs.actions_Facts.{Fact, IsOpen, HasPage, HasNoPageBut, HasBlank, HasSlot, HasCopy, HasTable, HoldsFact}
use Rattle.ctr_paged.specs.actions_Sites.{Site}
use Rattle.ctr_kept.specs.Carried.{IsUnderLock, IsOfEntry}
use Rattle.ctr_kept.specs.Tables.{IsTable, AreTables}
use Rattle.ctr_kept.specs.Turns.{Carries}

-- one of two lists
pub among_first : {A : Type 0} (x : A) (xs ys : List A) → IsAmong x xs → IsAmong x (xs ++ ys)
among_first x [] ys in_ = absurd in_
among_first x (z ∷ xs) ys (inl is) = inl is
among_first x (z ∷ xs) ys (inr in_) = inr (among_first x xs ys in_)

pub among_last : {A : Type 0} (x : A) (xs ys : List A) → IsAmong x ys → IsAmong x (xs ++ ys)
among_last x [] ys in_ = in_
among_last x (z ∷ xs) ys in_ = inr (among_last x xs ys in_)

pub by_parts : {A B : Type 0} (x : A) (xs ys : List A) → IsAmong x (xs ++ ys) → (IsAmong x xs → B) → (IsAmong x ys → B) → B
by_parts x [] ys in_ first last = last in_
by_parts x (z ∷ xs) ys (inl is) first last = first (inl is)
by_parts x (z ∷ xs) ys (inr in_) first last = by_parts x xs ys in_ (λ there. first (inr there)) last

-- a table's title isn't of what stands in a table, nor an empty page
no_entry : (fact : Fact) → IsTable fact → (e : ℕ) → IsOfEntry fact e → ⊥
no_entry IsOpen is e of = is
no_entry (HasPage p) is e of = is
no_entry (HasNoPageBut ps) is e of = is
no_entry (HasBlank p h) is e of = is
no_entry (HasSlot f at slot) is e of = is
no_entry (HasCopy f at v q) is e of = is
no_entry (HasTable f title) is e of = of

pub no_blank : (more : List Fact) → AreTables more → (p : ℕ) (h : Header) → IsAmong (HasBlank p h) more → ⊥
no_blank more tables p h in_ = each_of IsTable (HasBlank p h) more tables in_

-- what a table's title asks of a transaction: nothing that an own change or a grant takes
pub record UsesStill (t u : Transaction) : Type 0 where
  pub still : (f : Fact) (y z : Site) → IsTable f → IsUnderLock t f y → IsUnderLock u f z

module _ (x : ℕ) (more : List Fact) (tables : AreTables more) where
  -- where all titles stay, those that are counted on do
  pub titles_held : (y z : Site) → ((f : Fact) → IsAmong f more → HoldsFact x f y) → ((e : ℕ) → z.area.title e ≡ y.area.title e) → (f : Fact) → IsAmong f more → HoldsFact x f z
  titles_held y z held titles f in_ = by f (each_of IsTable f more tables in_) (held f in_)
    where
      by : (f : Fact) → IsTable f → HoldsFact x f y → HoldsFact x f z
      by (HasTable e title) is holds = titles e ∙ holds
      by IsOpen is holds = absurd is
      by (HasPage p) is holds = absurd is
      by (HasNoPageBut ps) is holds = absurd is
      by (HasBlank p h) is holds = absurd is
      by (HasSlot e at slot) is holds = absurd is
      by (HasCopy e at v q) is holds = absurd is

  -- what is carried, with tables more
  pub carries_more : (t u : Transaction) (y z : Site) (mine : List Fact) → ((f : Fact) → IsAmong f more → IsUnderLock t f y) → UsesStill t u → ((f : Fact) → IsAmong f more → HoldsFact x f z)
      → Carries x u mine z → Carries x u (mine ++ more) z
  carries_more t u y z mine under uses held carries = record {
    held = λ fact in_. by_parts fact mine more in_ (carries.held fact) (λ there. (held fact there, uses.still fact y z (each_of IsTable fact more tables there) (under fact there)));
    tables = λ fact e in_ of. by_parts fact mine more in_
        (λ there. let its = carries.tables fact e there of in (its.0, among_first (HasTable e its.0) mine more its.1))
        (λ there. absurd (no_entry fact (each_of IsTable fact more tables there) e of));
  }

-- who uses and holds no fewer names counts on the same tables
pub uses_more : (t u : Transaction) → ((name : List ℕ) → has_name name t.uses ≡ true → has_name name u.uses ≡ true) → ((name : List ℕ) → has_name name t.holds ≡ true → has_name name u.holds ≡ true) → UsesStill t u
uses_more t u uses holds = record { still = by }
  where
    by : (f : Fact) (y z : Site) → IsTable f → IsUnderLock t f y → IsUnderLock u f z
    by (HasTable e title) y z is under = (under.0, ⊎_elim (λ used. inl (uses title.name used)) (λ held. inr (holds title.name held)) under.1, under.2)
    by IsOpen y z is under = absurd is
    by (HasPage p) y z is under = absurd is
    by (HasNoPageBut ps) y z is under = absurd is
    by (HasBlank p h) y z is under = absurd is
    by (HasSlot e at slot) y z is under = absurd is
    by (HasCopy e at v q) y z is under = absurd is
