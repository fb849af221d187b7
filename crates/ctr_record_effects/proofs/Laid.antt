-- A record that is on a page: this page alone has other bytes.
use Rattle.std.proofs.Common.{◌≡◌, ⊎_elim, ℕ, zero, suc, ◌+◌, ◌==◌, ◌<◌, ◌≤◌, cond, List, [], ◌∷◌, ◌++◌, length, take, drop, replicate, Option, Some, refl, sym, ◌∙◌, ap, subst, arith, append_assoc}
use Rattle.std.proofs.lemmas.Bool.{eqb-true, eqb-false, eq-eqb, ne_eqb, cases_lt}
use Rattle.ctr_area.proofs.ctr_versions.Keys.{known}
use Rattle.ctr_redo.specs.rec_Overlay.{Overlay}
use Rattle.ctr_redo.specs.rec_Record.{Record}
use Rattle.ctr_redo.specs.ctr_pool.Pages.{overlaid_by}
use Rattle.ctr_redo.specs.Overlaid.{lies_on, laid_over, overlay_of, touches, changed_by}
use Rattle.ctr_redo.specs.States.{State, pages_after, step, page_at}
use Rattle.ctr_area.specs.ctr_page.Reading.{put_over}
use Rattle.ctr_area.specs.Changes.{with_page}
use Rattle.ctr_record_effects.specs.States.{pages_in, IsWholePage}
use Rattle.ctr_record_effects.specs.Changing.{laid_at, laid_clear}

-- a page of the list, with a record
after_here : (k q : ℕ) (r : Record) (ps : List (List ℕ)) → q < length ps → page_at q (pages_after k r ps) ≡ cond (touches r (k + q)) (changed_by r (page_at q ps)) (page_at q ps)
after_here k q r [] lt = absurd (omega (arith, lt))
after_here k zero r (b ∷ bs) lt = let same : k ≡ k + 0 = omega arith in ap (λ n. cond (touches r n) (changed_by r b) b) same
after_here k (suc q) r (b ∷ bs) lt =
    let same : k + 1 + q ≡ k + suc q = omega arith in
    after_here (k + 1) q r bs (omega (arith, lt)) ∙ ap (λ n. cond (touches r n) (changed_by r (page_at q bs)) (page_at q bs)) same

-- the same from the first page on
from_first : (q : ℕ) (r : Record) (ps : List (List ℕ)) → q < length ps → page_at q (pages_after 0 r ps) ≡ cond (touches r q) (changed_by r (page_at q ps)) (page_at q ps)
from_first q r ps lt =
    let same : 0 + q ≡ q = omega arith in
    after_here 0 q r ps lt ∙ ap (λ n. cond (touches r n) (changed_by r (page_at q ps)) (page_at q ps)) same

-- behind the list there is none
after_gone : (k q : ℕ) (r : Record) (ps : List (List ℕ)) → length ps ≤ q → page_at q (pages_after k r ps) ≡ page_at q ps
after_gone k q r [] ge = refl
after_gone k zero r (b ∷ bs) ge = absurd (omega (arith, ge))
after_gone k (suc q) r (b ∷ bs) ge = after_gone (k + 1) q r bs (omega (arith, ge))

-- a page that has bytes is in the list
in_list : (p : ℕ) (ps : List (List ℕ)) → 0 < length (page_at p ps) → p < length ps
in_list p [] some = absurd (omega (arith, some))
in_list zero (b ∷ bs) some = omega arith
in_list (suc p) (b ∷ bs) some = let lt = in_list p bs some in omega (arith, lt)

-- an overlay puts its bytes over the page's, or over zeros
put_by : (o : Overlay) (body : List ℕ) → overlaid_by o body ≡ put_over o.offset o.bytes (cond o.clear (replicate 4096 0) body)
put_by o body = by_under (cond o.clear (replicate 4096 0) body) where
  by_under : (under : List ℕ) → take o.offset under ++ o.bytes ++ drop (o.offset + length o.bytes) under ≡ put_over o.offset o.bytes under
  by_under under = append_assoc (take o.offset under) o.bytes (drop (o.offset + length o.bytes) under)

module _ (s : State) (r : Record) (o : Overlay) (lays : overlay_of r ≡ Some o) (inside : o.page < length s.pages) where
  on_it : (q : ℕ) → touches r q ≡ (o.page == q)
  on_it q = ap (λ (x : Option Overlay). lies_on x q) lays

  changed : (body : List ℕ) → changed_by r body ≡ overlaid_by o body
  changed body = ap (λ (x : Option Overlay). laid_over x body) lays

  one_page : (q : ℕ) → pages_in (step r s) q ≡ with_page o.page (overlaid_by o (pages_in s o.page)) (pages_in s) q
  one_page q = known (q == o.page)
      (λ is. let same = eqb-true q o.page is in
      from_first q r s.pages (subst (λ n. n < length s.pages) (sym same) inside)
      ∙ ap (λ b. cond b (changed_by r (pages_in s q)) (pages_in s q)) (on_it q ∙ eq-eqb o.page q (sym same))
      ∙ changed (pages_in s q) ∙ ap (λ n. overlaid_by o (pages_in s n)) same
      ∙ sym (ap (λ b. cond b (overlaid_by o (pages_in s o.page)) (pages_in s q)) is))
      (λ isnt. apart q (eqb-false q o.page isnt) ∙ sym (ap (λ b. cond b (overlaid_by o (pages_in s o.page)) (pages_in s q)) isnt))
    where
      apart : (q : ℕ) → (q ≡ o.page → ⊥) → pages_in (step r s) q ≡ pages_in s q
      apart q isnt = ⊎_elim
          (λ lt. from_first q r s.pages lt ∙ ap (λ b. cond b (changed_by r (pages_in s q)) (pages_in s q)) (on_it q ∙ ne_eqb o.page q (λ is. isnt (sym is))))
          (λ ge. after_gone 0 q r s.pages ge)
          (cases_lt q (length s.pages))

  -- the pages with the record
  pub one_page_differs : pages_in (step r s) ≡ with_page o.page (overlaid_by o (pages_in s o.page)) (pages_in s)
  one_page_differs = λ i q. one_page q i

inside_by : (s : State) (p : ℕ) → IsWholePage p s → p < length s.pages
inside_by s p whole = in_list p s.pages (omega (arith, whole))

-- bytes over those of a page
pub bytes_laid : (s : State) (r : Record) (p at : ℕ) (bytes : List ℕ) → overlay_of r ≡ Some (laid_at p at bytes) → IsWholePage p s
    → pages_in (step r s) ≡ with_page p (put_over at bytes (pages_in s p)) (pages_in s)
bytes_laid s r p at bytes lays whole =
    one_page_differs s r (laid_at p at bytes) lays (inside_by s p whole)
    ∙ ap (λ body. with_page p body (pages_in s)) (put_by (laid_at p at bytes) (pages_in s p))

-- bytes on a page that is cleared
pub clear_laid : (s : State) (r : Record) (p : ℕ) (bytes : List ℕ) → overlay_of r ≡ Some (laid_clear p bytes) → IsWholePage p s
    → pages_in (step r s) ≡ with_page p (put_over 0 bytes (replicate 4096 0)) (pages_in s)
clear_laid s r p bytes lays whole =
    one_page_differs s r (laid_clear p bytes) lays (inside_by s p whole)
    ∙ ap (λ body. with_page p body (pages_in s)) (put_by (laid_clear p bytes) (pages_in s p))
