-- The number of the first committed version is that of the newest.
use Rattle.std.proofs.Common.{arith, ◌<◌, ap, subst, ◌≡◌, ℕ, Bool, true, false, cond, List, [], ◌∷◌, Option, Some, None, refl, sym, ◌∙◌}
use Rattle.std.specs.List.{AllByRecursion}
use Rattle.std.specs.Option.{option_and_then, option_map_or, option_map, option_or}
use Rattle.std.specs.Prelude.{is_some, unwrap_or}
use Rattle.std.proofs.lemmas.Bool.{false≢true}
use Rattle.ctr_versions.specs.Chains.{Numbers, above, newest}
use Rattle.ctr_names.specs.area_Areas.{RowVersion}
use Rattle.ctr_chain.specs.Seeing.{first_version, first_xid}

-- it has one
or_some : {A : Type 0} (o rest : Option A) → is_some o ≡ true → o ≡ option_or o rest
or_some (Some k) rest is = refl
or_some None rest is = absurd (false≢true is)

-- it has none
or_none : {A : Type 0} (o rest : Option A) → is_some o ≡ false → rest ≡ option_or o rest
or_none (Some k) rest isnt = absurd (false≢true (sym isnt))
or_none None rest isnt = refl

module _ (number : Numbers) (test : ℕ → Bool) (agree : (x : ℕ) → is_some (number x) ≡ test x) where
  pub first_newest : (chain : List RowVersion) → option_and_then number (first_xid test chain) ≡ newest number chain
  first_newest [] = refl
  first_newest (v ∷ vs) =
      elim (test v.0) as (λ b. is_some (number v.0) ≡ b → option_and_then number (option_map (λ (w : RowVersion). w.0) (cond b (Some v) (first_version test vs))) ≡ option_or (number v.0) (newest number vs)) [
        | true ↦ λ is. or_some (number v.0) (newest number vs) is
        | false ↦ λ isnt. first_newest vs ∙ or_none (number v.0) (newest number vs) isnt
      ] (agree v.0)

-- the first one is by whom all are
pub first_by : (P : ℕ → Type 0) (test : ℕ → Bool) (x : ℕ) (chain : List RowVersion) → AllByRecursion (λ (v : RowVersion). P v.0) chain → first_xid test chain ≡ Some x → P x
first_by P test x [] all is = absurd (false≢true (ap is_some is))
first_by P test x (v ∷ vs) all is =
    elim (test v.0) as (λ b. option_map (λ (w : RowVersion). w.0) (cond b (Some v) (first_version test vs)) ≡ Some x → P x) [
      | true ↦ λ here. subst P (ap (λ (o : Option ℕ). unwrap_or o 0) here) all.0
      | false ↦ λ there. first_by P test x vs all.1 there
    ] is

-- whom a test tells has a number above n, where the two say the same of the first one
pub told_above : (test : ℕ → Bool) (number : Numbers) (n : ℕ) (first : Option ℕ) → ((x : ℕ) → first ≡ Some x → test x ≡ is_some (above n (number x))) → option_map_or test first false ≡ is_some (above n (option_and_then number first))
told_above test number n None same = refl
told_above test number n (Some x) same = same x refl

-- who is above nobody isn't nobody, and one that is below another leaves that above nobody
pub above_none : (x : ℕ) → 0 < x → x ≡ 0 → ⊥
above_none x lt none = omega (arith, lt, none)

pub first_drawn : (x next : ℕ) → 0 < x → x < next → 0 < next
first_drawn x next some below = omega (arith, some, below)
