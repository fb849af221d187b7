use Rattle.std.proofs.Common.{◌≡◌, ◌<◌, ℕ, ⊎_elim, inl, inr, sym, ◌∙◌, subst, arith}
use Rattle.ctr_record_laws.specs.area_Images.{is_committed_in}
use Rattle.ctr_names.specs.Shape.{AllVersionsPass, HasOwnInFront}
use Rattle.ctr_names.proofs.Names.{names_here}
use Rattle.ctr_names.proofs.Owner.{owner, shape, settled_here, settled_committed}
use Rattle.ctr_names.proofs.owners.a_name_has_one_owner.Goals as goal

not_zero : (x : ℕ) → 0 < x → x ≡ 0 → ⊥
not_zero x lt none = omega (arith, lt, none)

pub returns-clause-owner : goal.returns-clause-owner
returns-clause-owner c = λ counted tables area name sound. ⊎_elim
    (λ found. inl (found.0, (λ y f item is. sound.names.of_one y found.0 f found.1 item found.2 (is ∙ sym found.3)), (found.1, found.2, found.3)))
    (λ none. inr none) (owner counted tables area sound name)

pub returns-clause-front : goal.returns-clause-front
returns-clause-front c = λ counted tables area name x sound open_ some alone.
    let settled = settled_committed counted tables area sound name x open_ (not_zero x some) alone in
    subst (HasOwnInFront (is_committed_in tables) x) (sym (names_here (is_committed_in tables) area name))
    (⊎_elim
    (λ quiet. inl (subst (AllVersionsPass (is_committed_in tables)) (sym quiet.0) settled))
    (λ more. inr (more.0, settled_here counted tables area sound name x open_ (not_zero x some) alone, more.1, settled))
    (shape counted tables area sound name x open_ (not_zero x some) alone))
