-- The table that stands under a name, among the entries of the catalog.
use Rattle.std.proofs.Common.{◌≡◌, ℕ, zero, suc, ◌+◌, ◌<◌, ◌≤◌, Bool, true, cond, List, Option, Some, None, refl, sym, ◌∙◌, ap, subst, arith}
use Rattle.std.specs.Prelude.{◌==◌, ◌&&◌, not}
use Rattle.std.specs.FinMap.Entries.{put}
use Rattle.std.proofs.lemmas.Bool.{and_parts, false≢true, eq-eqb, eqb-true}
use Rattle.ctr_model.specs.declared.database.Table.{Table}
use Rattle.ctr_model.specs.Database.{Database, name_cmp, table_at}
use Rattle.ctr_model.specs.State.{same_name}
use Rattle.ctr_versions.proofs.Keys.{found, known, same_text}
use Rattle.ctr_versions.proofs.Written.{same_itself}
use Rattle.ctr_area.specs.Areas.{Area}
use Rattle.ctr_area.specs.Images.{entry_numbers, image_rows, is_live, is_standing, numbers, table_in, tables_standing}
use Rattle.ctr_area.specs.Sound.{IsOneOf}

module _ (test : ℕ → Bool) (area : Area) (name : List ℕ) where
  abbrev stands : ℕ → Bool
  stands e = is_standing test (area.title e)

  abbrev Is : ℕ → Type 0
  Is e = (stands e ≡ true) × ((area.title e).name ≡ name)

  abbrev tables : ℕ → ℕ → Database
  tables k n = tables_standing test area (numbers k n)

  abbrev Given : ℕ → ℕ → Bool → Option Table
  Given k n b = table_at (cond b (put name_cmp (area.title k).name (table_in test area k) (tables (k + 1) n)) (tables (k + 1) n)) name

  -- one entry, and those behind it
  step_stands : (k n : ℕ) → stands k ≡ true → table_at (tables k (suc n)) name ≡ cond (same_name (area.title k).name name) (Some (table_in test area k)) (table_at (tables (k + 1) n) name)
  step_stands k n is = ap (Given k n) is ∙ found name (area.title k).name (table_in test area k) (tables (k + 1) n)

  step_other : (k n : ℕ) → (Is k → ⊥) → table_at (tables k (suc n)) name ≡ table_at (tables (k + 1) n) name
  step_other k n isnt = known (stands k)
      (λ is. step_stands k n is ∙ known (same_name (area.title k).name name)
      (λ same. absurd (isnt (is, same_text (area.title k).name name same)))
      (λ other. ap (λ b. cond b (Some (table_in test area k)) (table_at (tables (k + 1) n) name)) other))
      (λ no_. ap (Given k n) no_)

  none_from : (k n : ℕ) → k + n ≤ 32 → ((e : ℕ) → e < 32 → Is e → ⊥) → table_at (tables k n) name ≡ None
  none_from k zero fits none = refl
  none_from k (suc n) fits none = step_other k n (none k (omega (arith, fits))) ∙ none_from (k + 1) n (omega (arith, fits)) none

  module _ (once : IsOneOf area.title (is_standing test)) where
    lives : (e : ℕ) → stands e ≡ true → is_live (area.title e) ≡ true
    lives e is = (and_parts (is_live (area.title e)) (test (area.title e).creator && not (test (area.title e).dropper)) is).0

    found_from : (k n e : ℕ) → k + n ≤ 32 → k ≤ e → e < k + n → Is e → table_at (tables k n) name ≡ Some (table_in test area e)
    found_from k zero e fits from to is = absurd (omega (arith, from, to))
    found_from k (suc n) e fits from to is = known (k == e)
        (λ same. let here = eqb-true k e same in
        subst (λ d. table_at (tables k (suc n)) name ≡ Some (table_in test area d)) here
        (let its = subst Is (sym here) is in
        step_stands k n its.0 ∙ ap (λ b. cond b (Some (table_in test area k)) (table_at (tables (k + 1) n) name)) (ap (λ m. same_name m name) its.1 ∙ same_itself name)))
        (λ apart. let other : k ≡ e → ⊥ = λ z. false≢true (sym apart ∙ eq-eqb k e z) in
        step_other k n (λ its. other (once k e (omega (arith, fits)) (omega (arith, fits, to)) (lives k its.0) (lives e is.0) (its.1 ∙ sym is.1) its.0 is.0))
        ∙ found_from (k + 1) n e (omega (arith, fits)) (past k e from other) (omega (arith, to)) is)
      where
        past : (k e : ℕ) → k ≤ e → (k ≡ e → ⊥) → k + 1 ≤ e
        past k e from other = omega (arith, from, other)

    pub table_found : (e : ℕ) → e < 32 → Is e → table_at (image_rows test area) name ≡ Some (table_in test area e)
    unfolding entry_numbers
    table_found e lt is = found_from 0 32 e (omega arith) (omega arith) (omega (arith, lt)) is

  pub no_table : ((e : ℕ) → e < 32 → Is e → ⊥) → table_at (image_rows test area) name ≡ None
  unfolding entry_numbers
  no_table none = none_from 0 32 (omega arith) none
