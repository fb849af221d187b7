-- What a pass knows once the cleaner has looked.
use Rattle.std.proofs.Common.{◌≡◌, ℕ, ◌==◌, ◌≤◌, true, false, cond, not, List, ◌++◌, drop, length, sym, ◌∙◌, ap}
use Rattle.std.proofs.lemmas.Bool.{eq-eqb, eqb-true, and_from, and_parts, not_from_false, not-true}
use Rattle.std.proofs.lemmas.List.{drop-append-le}
use Rattle.std.proofs.lemmas.List.Folds.{list_any-append}
use Rattle.ctr_types.specs.declared.tape.Entry.{Entry}
use Rattle.ctr_versions.proofs.Keys.{known}
use Rattle.ctr_pass.specs.declared.pass.Pass.{Pass}
use Rattle.ctr_pass.specs.declared.pass.Phase.{Phase}
use Rattle.ctr_pass.specs.declared.pass.Phase.TheVariants.{Disturbed}
use Rattle.ctr_pass.specs.Passing.{ends_transaction, some_end, is_calm, noted}
use Rattle.ctr_pass.proofs.Enduring.{neither}

-- Where nothing happened no record was logged, and no transaction has ended.
pub calm_says : (p : Pass) (next : ℕ) (es : List Entry) → is_calm p next es ≡ true → (p.next ≡ next) × (some_end (drop p.seen es) ≡ false)
calm_says p next es calm =
    let both = and_parts (p.next == next) (not (some_end (drop p.seen es))) calm in
    (eqb-true p.next next both.0, not-true (some_end (drop p.seen es)) both.1)

pub calm_from : (p : Pass) (next : ℕ) (es : List Entry) → p.next ≡ next → some_end (drop p.seen es) ≡ false → is_calm p next es ≡ true
calm_from p next es same none = and_from (p.next == next) (not (some_end (drop p.seen es))) (eq-eqb p.next next same) (not_from_false (some_end (drop p.seen es)) none)

-- Where nothing happened up to more entries, nothing did before them, and none of them ends a transaction.
pub calm_before : (p : Pass) (next now : ℕ) (es more all : List Entry) → p.seen ≤ length es → now ≡ next → all ≡ es ++ more → is_calm p now all ≡ true → (is_calm p next es ≡ true) × (some_end more ≡ false)
calm_before p next now es more all seen same grows calm =
    let both = calm_says p now all calm in
    let ends = ap (λ l. some_end (drop p.seen l)) grows ∙ ap some_end (drop-append-le p.seen es more seen) ∙ list_any-append (λ (e : Entry). ends_transaction e.reply) (drop p.seen es) more in
    let parts = neither (some_end (drop p.seen es)) (some_end more) (sym ends ∙ both.1) in
    (calm_from p next es (both.0 ∙ same) parts.0, parts.1)

-- a phase that isn't disturbed is that of the pass, in which nothing happened
pub undisturbed : (p : Pass) (next : ℕ) (es : List Entry) (f : Phase) → (Disturbed ≡ f → ⊥) → (noted p next es).phase ≡ f → (is_calm p next es ≡ true) × (p.phase ≡ f)
undisturbed p next es f isnt is = known (is_calm p next es)
    (λ yes. (yes, sym (ap (λ b. cond b p.phase Disturbed) yes) ∙ is))
    (λ no. absurd (isnt (sym (ap (λ b. cond b p.phase Disturbed) no) ∙ is)))
