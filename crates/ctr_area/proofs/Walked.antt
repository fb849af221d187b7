-- A chain that is read without damage is one of the area: each of its pages passes, and it ends.
use Rattle.std.proofs.Common.{◌≡◌, ℕ, zero, suc, ◌+◌, ◌-◌, ◌≤◌, true, false, cond, List, [], ◌∷◌, Result, Ok, Err, refl, sym, ◌∙◌, ap, subst, arith}
use Rattle.std.specs.Prelude.{◌==◌, nat_lt, ⊤}
use Rattle.std.specs.List.{AllByRecursion}
use Rattle.ctr_versions.proofs.Keys.{known}
use Rattle.ctr_page.specs.ctr_rec.declared.decoding.BadRecord.{BadRecord}
use Rattle.ctr_page.specs.declared.header.Header.{Header}
use Rattle.ctr_page.specs.declared.checks.Chain.{Chain}
use Rattle.ctr_page.specs.declared.walk.BadChain.{BadChain}
use Rattle.ctr_page.specs.declared.walk.BadChain.TheVariants.{TooLong}
use Rattle.ctr_page.specs.Reading.{header_in}
use Rattle.ctr_page.specs.Damage.{header_check}
use Rattle.ctr_page.specs.Walking.{most_in_chain, header_then, chain_check}
use Rattle.ctr_area.specs.Chains.{pages_bound, pages_from}
use Rattle.ctr_area.specs.Checked.{Passes, ChainPasses}
use Rattle.ctr_area.specs.Reading.{no_header, header_on}

no_more : (n : ℕ) (header : ℕ → Header) (p : ℕ) → (p == 0) ≡ true → pages_from n header p ≡ []
no_more zero header p none = refl
no_more (suc n) header p none = ap (λ b. cond b [] (p ∷ pages_from n header (header p).next)) none

one_more : (n : ℕ) (header : ℕ → Header) (p : ℕ) → (p == 0) ≡ false → pages_from (suc n) header p ≡ p ∷ pages_from n header (header p).next
one_more n header p some = ap (λ b. cond b [] (p ∷ pages_from n header (header p).next)) some

then_passes : (p : ℕ) (r : Result ⊤ BadRecord) (rest : Result ⊤ BadChain) → header_then p r rest ≡ Ok tt → (r ≡ Ok tt) × (rest ≡ Ok tt)
then_passes p (Ok x) rest e = (refl, e)
then_passes p (Err bad) rest e = absurd cc

module _ (chain : Chain) (counted : ℕ) (pages : ℕ → List ℕ) where
  abbrev header : ℕ → Header
  header = header_on pages

  abbrev Passing : ℕ → ℕ → Type 0
  Passing n p =
      AllByRecursion (λ q. Passes (header_check chain counted (pages q))) (pages_from n header p) × (pages_from (suc n) header p ≡ pages_from n header p)

  none_passing : (n p : ℕ) → (p == 0) ≡ true → Passing n p
  none_passing n p none =
      (subst (AllByRecursion (λ q. Passes (header_check chain counted (pages q)))) (sym (no_more n header p none)) tt, no_more (suc n) header p none ∙ sym (no_more n header p none))

  one_passing : (n p : ℕ) → (p == 0) ≡ false → Passes (header_check chain counted (pages p)) → Passing n (header p).next → Passing (suc n) p
  one_passing n p some first rest = (
    subst (AllByRecursion (λ q. Passes (header_check chain counted (pages q)))) (sym (one_more n header p some)) (first, rest.0),
    one_more (suc n) header p some ∙ ap (λ ps. p ∷ ps) rest.1 ∙ sym (one_more n header p some),
  )

  walked : (left n last p : ℕ) → left ≤ n → chain_check chain counted pages left last p ≡ Ok tt → Passing n p
  walked zero n last p le e = known (p == 0) (none_passing n p)
      (λ some. absurd (let f : Err (TooLong last (most_in_chain counted)) ≡ Ok tt = sym (ap (λ b. cond b (Ok tt) (Err (TooLong last (most_in_chain counted)))) some) ∙ e in cc))
  walked (suc left) zero last p le e = absurd (omega (arith, le))
  walked (suc left) (suc n) last p le e = known (p == 0) (none_passing (suc n) p)
      (λ some.
      let rest = chain_check chain counted pages left p (header_in (pages p)).next in
      let both = then_passes p (header_check chain counted (pages p)) rest (sym (ap (λ b. cond b (Ok tt) (header_then p (header_check chain counted (pages p)) rest)) some) ∙ e) in
      one_passing n p some both.0 (known (nat_lt p 3)
      (λ low. subst (λ (h : Header). Passing n h.next) (sym (ap (λ b. cond b no_header (header_in (pages p))) low)) (none_passing n 0 refl))
      (λ high. subst (λ (h : Header). Passing n h.next) (sym (ap (λ b. cond b no_header (header_in (pages p))) high)) (walked left n p (header_in (pages p)).next (omega (arith, le)) both.1))))

  pub chain_walked : (last p : ℕ) → counted ≤ pages_bound → chain_check chain counted pages (most_in_chain counted) last p ≡ Ok tt
      → ChainPasses counted pages chain p × (pages_from (pages_bound + 1) header p ≡ pages_from pages_bound header p)
  chain_walked last p few e =
      let all = walked (most_in_chain counted) pages_bound last p (at_most counted pages_bound few) e in
      (all.0, ap (λ n. pages_from n header p) (next pages_bound) ∙ all.1)
    where
      at_most : (c m : ℕ) → c ≤ m → c - 3 ≤ m
      at_most c m le = omega (arith, le)

      next : (m : ℕ) → m + 1 ≡ suc m
      next m = omega arith
