-- A chain of pages, as one is put before it or behind it, or has other bytes.
use Rattle.std.proofs.Common.{◌≡◌, ◌≢◌, ℕ, true, cond, List, [], ◌∷◌, ◌++◌, refl, sym, ◌∙◌, ap, subst}
use Rattle.std.specs.Prelude.{◌==◌}
use Rattle.std.proofs.lemmas.Bool.{false≢true, eqb-true, eq-eqb}
use Rattle.ctr_page.specs.Reading.{header_in}
use Rattle.ctr_directory.specs.Chains.{RunsAlong, is_page_of}
use Rattle.ctr_directory.proofs.Leading.{by_test}

has_more : (r q : ℕ) (qs : List ℕ) → is_page_of r qs ≡ true → is_page_of r (q ∷ qs) ≡ true
has_more r q qs in_ = by_test (q == r) (λ yes. ap (λ b. cond b true (is_page_of r qs)) yes) (λ no. ap (λ b. cond b true (is_page_of r qs)) no ∙ in_)

-- a page that is put behind the others
pub has_on : (q e : ℕ) (ps : List ℕ) → is_page_of q (ps ++ e ∷ []) ≡ cond (e == q) true (is_page_of q ps)
has_on q e [] = refl
has_on q e (r ∷ rs) =
    by_test (r == q)
    (λ yes.
    ap (λ b. cond b true (is_page_of q (rs ++ e ∷ []))) yes
    ∙ by_test (e == q)
    (λ is. sym (ap (λ b. cond b true (is_page_of q (r ∷ rs))) is))
    (λ isnt. sym (ap (λ b. cond b true (is_page_of q (r ∷ rs))) isnt ∙ ap (λ b. cond b true (is_page_of q rs)) yes)))
    (λ no. ap (λ b. cond b true (is_page_of q (rs ++ e ∷ []))) no ∙ has_on q e rs ∙ sym (ap (λ b. cond (e == q) true (cond b true (is_page_of q rs))) no))

module _ (Passes : List ℕ → Type 0) where
  -- each page passes
  pub each_passes : (a : ℕ → List ℕ) (p : ℕ) (ps : List ℕ) (end q : ℕ) → RunsAlong Passes a p ps end → is_page_of q ps ≡ true → Passes (a q)
  each_passes a p [] end q runs in_ = absurd (false≢true in_)
  each_passes a p (r ∷ rs) end q runs in_ =
      by_test (r == q)
      (λ yes. subst (λ x. Passes (a x)) (sym runs.0 ∙ eqb-true r q yes) runs.2)
      (λ no. each_passes a (header_in (a p)).next rs end q runs.3 (sym (ap (λ b. cond b true (is_page_of q rs)) no) ∙ in_))

  -- over pages that pass too, and lead on as these do
  pub runs_moved : (a b : ℕ → List ℕ) (p : ℕ) (ps : List ℕ) (end : ℕ) → ((q : ℕ) → is_page_of q ps ≡ true → Passes (a q) → Passes (b q) × ((header_in (b q)).next ≡ (header_in (a q)).next))
      → RunsAlong Passes a p ps end → RunsAlong Passes b p ps end
  runs_moved a b p [] end each runs = runs
  runs_moved a b p (q ∷ qs) end each runs =
      let moved = each p (ap (λ t. cond t true (is_page_of p qs)) (eq-eqb q p runs.0)) runs.2 in (
        runs.0,
        runs.1,
        moved.0,
        subst (λ n. RunsAlong Passes b n qs end) (sym moved.1) (runs_moved a b (header_in (a p)).next qs end (λ r in_. each r (has_more r q qs in_)) runs.3),
      )

  -- one page more behind the others
  pub runs_on : (a : ℕ → List ℕ) (p : ℕ) (ps : List ℕ) (e : ℕ) → RunsAlong Passes a p ps e → e ≢ 0 → Passes (a e) → RunsAlong Passes a p (ps ++ e ∷ []) (header_in (a e)).next
  runs_on a p [] e is some passes = (sym is, (λ none. some (sym is ∙ none)), subst (λ q. Passes (a q)) (sym is) passes, ap (λ q. (header_in (a q)).next) is)
  runs_on a p (q ∷ qs) e runs some passes = (runs.0, runs.1, runs.2, runs_on a (header_in (a p)).next qs e runs.3 some passes)
