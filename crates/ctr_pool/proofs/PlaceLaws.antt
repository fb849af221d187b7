-- Pages with the places of their frames, in order of the pages.
use Rattle.std.proofs.Common.{◌≡◌, ⊎_elim, ℕ, zero, suc, ◌+◌, ◌<◌, ◌≤◌, eqb, cond, List, [], ◌∷◌, length, get_or, set, Option, Some, None, refl, sym, ◌∙◌, ap, subst, arith}
use Rattle.std.specs.Prelude.{insert, remove}
use Rattle.std.proofs.lemmas.List.{get_or_default}
use Rattle.ctr_pool.specs.Kept.{place_of, AllAbove, AreOrdered}
use Rattle.ctr_pool.proofs.FrameLaws.{yes, no, is, isnt, same_or}
use Rattle.ctr_pool.proofs.AgeLaws.{first, rest, age_insert}

-- ---- order

above_absent : (p q : ℕ) (es : List (ℕ × ℕ)) → AllAbove p es → q ≤ p → place_of q es ≡ None
above_absent p q [] above le = refl
above_absent p q (e ∷ es) above le = rest q e es (λ same. let lt = above.0 in omega (arith, lt, same, le)) ∙ above_absent p q es above.1 le

above_at : (p : ℕ) (es : List (ℕ × ℕ)) (k : ℕ) (d : ℕ × ℕ) → AllAbove p es → k < length es → p < (get_or es k d).0
above_at p [] k d above lt = absurd (omega (arith, lt))
above_at p (e ∷ es) zero d above lt = above.0
above_at p (e ∷ es) (suc k) d above lt = above_at p es k d above.1 (omega (arith, lt))

all_above : (p : ℕ) (es : List (ℕ × ℕ)) → ((k : ℕ) (d : ℕ × ℕ) → k < length es → p < (get_or es k d).0) → AllAbove p es
all_above p [] h = tt
all_above p (e ∷ es) h = (h 0 e (omega arith), all_above p es (λ k d lt. h (suc k) d (omega (arith, lt))))

ordered_at : (es : List (ℕ × ℕ)) (i j : ℕ) (d e : ℕ × ℕ) → AreOrdered es → i < j → j < length es → (get_or es i d).0 < (get_or es j e).0
ordered_at [] i j d e ordered lt inside = absurd (omega (arith, inside))
ordered_at (a ∷ es) i zero d e ordered lt inside = absurd (omega (arith, lt))
ordered_at (a ∷ es) zero (suc j) d e ordered lt inside = above_at a.0 es j e ordered.0 (omega (arith, inside))
ordered_at (a ∷ es) (suc i) (suc j) d e ordered lt inside = ordered_at es i j d e ordered.1 (omega (arith, lt)) (omega (arith, inside))

-- an entry has its page's place
pub entry_at : (es : List (ℕ × ℕ)) (k : ℕ) (d : ℕ × ℕ) → AreOrdered es → k < length es → place_of (get_or es k d).0 es ≡ Some (get_or es k d).1
entry_at [] k d ordered lt = absurd (omega (arith, lt))
entry_at (e ∷ es) zero d ordered lt = first e.0 e es refl
entry_at (e ∷ es) (suc k) d ordered lt =
    rest (get_or es k d).0 e es (λ same. let a = above_at e.0 es k d ordered.0 (omega (arith, lt)) in omega (arith, a, same)) ∙ entry_at es k d ordered.1 (omega (arith, lt))

-- between those below and those above there is none
between_absent : (p : ℕ) (es : List (ℕ × ℕ)) (at : ℕ) → ((k : ℕ) (d : ℕ × ℕ) → k < at → (get_or es k d).0 < p) → ((k : ℕ) (d : ℕ × ℕ) → at ≤ k → k < length es → p < (get_or es k d).0) → place_of p es ≡ None
between_absent p [] at below above = refl
between_absent p (e ∷ es) zero below above =
    rest p e es (λ same. let a = above 0 e (omega arith) (omega arith) in omega (arith, a, same)) ∙ between_absent p es zero (λ k d lt. absurd (omega (arith, lt))) (λ k d le lt. above (suc k) d (omega arith) (omega (arith, lt)))
between_absent p (e ∷ es) (suc at) below above =
    rest p e es (λ same. let b = below 0 e (omega arith) in omega (arith, b, same)) ∙ between_absent p es at (λ k d lt. below (suc k) d (omega (arith, lt))) (λ k d le lt. above (suc k) d (omega (arith, le)) (omega (arith, lt)))

-- a place is some entry's
pub place_at : (p at : ℕ) (es : List (ℕ × ℕ)) (d : ℕ × ℕ) → place_of p es ≡ Some at → (k : ℕ) × (k < length es) × ((get_or es k d).1 ≡ at)
place_at p at [] d is_at = absurd cc
place_at p at (e ∷ es) d is_at =
    ⊎_elim (λ same. let both : Some e.1 ≡ Some at = sym (first p e es same) ∙ is_at in let one : e.1 ≡ at = cc in (0, omega arith, one))
    (λ apart. let hyp = place_at p at es d (sym (rest p e es apart) ∙ is_at) in (suc hyp.0, omega (arith, hyp.1), hyp.2))
    (same_or p e.0)

-- ---- one more, one less, one at another place

above_insert : (p : ℕ) (es : List (ℕ × ℕ)) (at : ℕ) (f : ℕ × ℕ) → at ≤ length es → AllAbove p es → p < f.0 → AllAbove p (insert es at f)
above_insert p es zero f le above lt = (lt, above)
above_insert p [] (suc at) f le above lt = absurd (omega (arith, le))
above_insert p (e ∷ es) (suc at) f le above lt = (above.0, above_insert p es at f (omega (arith, le)) above.1 lt)

ordered_insert : (es : List (ℕ × ℕ)) (at : ℕ) (f : ℕ × ℕ) → AreOrdered es → at ≤ length es → ((k : ℕ) (d : ℕ × ℕ) → k < at → (get_or es k d).0 < f.0) → ((k : ℕ) (d : ℕ × ℕ) → at ≤ k → k < length es → f.0 < (get_or es k d).0) → AreOrdered (insert es at f)
ordered_insert es zero f ordered le below above = (all_above f.0 es (λ k d lt. above k d (omega arith) lt), ordered)
ordered_insert [] (suc at) f ordered le below above = absurd (omega (arith, le))
ordered_insert (e ∷ es) (suc at) f ordered le below above =
    (above_insert e.0 es at f (omega (arith, le)) ordered.0 (below 0 e (omega arith)), ordered_insert es at f ordered.1 (omega (arith, le)) (λ k d lt. below (suc k) d (omega (arith, lt))) (λ k d at_most lt. above (suc k) d (omega (arith, at_most)) (omega (arith, lt))))

place_remove : (es : List (ℕ × ℕ)) (at : ℕ) (d : ℕ × ℕ) → AreOrdered es → at < length es → (q : ℕ) → place_of q (remove es at) ≡ cond (eqb (get_or es at d).0 q) None (place_of q es)
place_remove [] at d ordered lt q = absurd (omega (arith, lt))
place_remove (e ∷ es) zero d ordered lt q =
    ⊎_elim (λ same. above_absent e.0 q es ordered.0 (omega (arith, same)) ∙ sym (yes (eqb e.0 q) None (place_of q (e ∷ es)) (is e.0 q (sym same))))
    (λ apart. sym (no (eqb e.0 q) None (place_of q (e ∷ es)) (isnt e.0 q (λ s. apart (sym s))) ∙ rest q e es apart))
    (same_or q e.0)
place_remove (e ∷ es) (suc at) d ordered lt q =
    let x = get_or es at d in
    let hyp = place_remove es at d ordered.1 (omega (arith, lt)) q in
    let a = above_at e.0 es at d ordered.0 (omega (arith, lt)) in
    ⊎_elim (λ same. first q e (remove es at) same ∙ sym (no (eqb x.0 q) None (place_of q (e ∷ es)) (isnt x.0 q (λ s. omega (arith, a, s, same))) ∙ first q e es same))
    (λ apart. rest q e (remove es at) apart ∙ hyp ∙ ap (λ (o : Option ℕ). cond (eqb x.0 q) None o) (sym (rest q e es apart)))
    (same_or q e.0)

above_remove : (p : ℕ) (es : List (ℕ × ℕ)) (at : ℕ) → at < length es → AllAbove p es → AllAbove p (remove es at)
above_remove p [] at lt above = absurd (omega (arith, lt))
above_remove p (e ∷ es) zero lt above = above.1
above_remove p (e ∷ es) (suc at) lt above = (above.0, above_remove p es at (omega (arith, lt)) above.1)

pub ordered_remove : (es : List (ℕ × ℕ)) (at : ℕ) → AreOrdered es → at < length es → AreOrdered (remove es at)
ordered_remove [] at ordered lt = absurd (omega (arith, lt))
ordered_remove (e ∷ es) zero ordered lt = ordered.1
ordered_remove (e ∷ es) (suc at) ordered lt = (above_remove e.0 es at (omega (arith, lt)) ordered.0, ordered_remove es at ordered.1 (omega (arith, lt)))

place_set : (es : List (ℕ × ℕ)) (at : ℕ) (d : ℕ × ℕ) (p s : ℕ) → AreOrdered es → at < length es → (get_or es at d).0 ≡ p → (q : ℕ) → place_of q (set es at (p, s)) ≡ cond (eqb p q) (Some s) (place_of q es)
place_set [] at d p s ordered lt page q = absurd (omega (arith, lt))
place_set (e ∷ es) zero d p s ordered lt page q =
    ⊎_elim (λ same. first q (p, s) es same ∙ sym (yes (eqb p q) (Some s) (place_of q (e ∷ es)) (is p q (sym same))))
    (λ apart. rest q (p, s) es apart ∙ sym (no (eqb p q) (Some s) (place_of q (e ∷ es)) (isnt p q (λ x. apart (sym x))) ∙ rest q e es (λ x. apart (x ∙ page))))
    (same_or q p)
place_set (e ∷ es) (suc at) d p s ordered lt page q =
    let hyp = place_set es at d p s ordered.1 (omega (arith, lt)) page q in
    let a = above_at e.0 es at d ordered.0 (omega (arith, lt)) in
    ⊎_elim (λ same. first q e (set es at (p, s)) same ∙ sym (no (eqb p q) (Some s) (place_of q (e ∷ es)) (isnt p q (λ x. omega (arith, a, x, same, page))) ∙ first q e es same))
    (λ apart. rest q e (set es at (p, s)) apart ∙ hyp ∙ ap (λ (o : Option ℕ). cond (eqb p q) (Some s) o) (sym (rest q e es apart)))
    (same_or q e.0)

above_set : (p : ℕ) (es : List (ℕ × ℕ)) (at : ℕ) (f : ℕ × ℕ) → p < f.0 → AllAbove p es → AllAbove p (set es at f)
above_set p [] at f lt above = tt
above_set p (e ∷ es) zero f lt above = (lt, above.1)
above_set p (e ∷ es) (suc at) f lt above = (above.0, above_set p es at f lt above.1)

ordered_set : (es : List (ℕ × ℕ)) (at : ℕ) (d f : ℕ × ℕ) → AreOrdered es → at < length es → (get_or es at d).0 ≡ f.0 → AreOrdered (set es at f)
ordered_set [] at d f ordered lt page = absurd (omega (arith, lt))
ordered_set (e ∷ es) zero d f ordered lt page = (subst (λ (k : ℕ). AllAbove k es) page ordered.0, ordered.1)
ordered_set (e ∷ es) (suc at) d f ordered lt page =
    let a = above_at e.0 es at d ordered.0 (omega (arith, lt)) in
    (above_set e.0 es at f (omega (arith, a, page)) ordered.0, ordered_set es at d f ordered.1 (omega (arith, lt)) page)

-- ---- what finding says

pub up_to : (es : List (ℕ × ℕ)) (m : ℕ) (d : ℕ × ℕ) (p : ℕ) → AreOrdered es → m < length es → (get_or es m d).0 < p → (k : ℕ) (e : ℕ × ℕ) → k < m + 1 → (get_or es k e).0 < p
up_to es m d p ordered inside lt k e less =
    ⊎_elim (λ same. subst (λ (n : ℕ). (get_or es n e).0 < p) (sym same) (subst (λ (f : ℕ × ℕ). f.0 < p) (get_or_default es m d e inside) lt))
    (λ apart. let o = ordered_at es k m e d ordered (omega (arith, less, apart)) inside in omega (arith, o, lt))
    (same_or k m)

pub from_on : (es : List (ℕ × ℕ)) (m : ℕ) (d : ℕ × ℕ) (p : ℕ) → AreOrdered es → m < length es → p < (get_or es m d).0 → (k : ℕ) (e : ℕ × ℕ) → m ≤ k → k < length es → p < (get_or es k e).0
from_on es m d p ordered inside lt k e le less =
    ⊎_elim (λ same. subst (λ (n : ℕ). p < (get_or es n e).0) (sym same) (subst (λ (f : ℕ × ℕ). p < f.0) (get_or_default es m d e inside) lt))
    (λ apart. let o = ordered_at es m k d e ordered (omega (arith, le, apart)) less in omega (arith, o, lt))
    (same_or k m)

-- What was found in a list that is the one that is kept, which is the one that callers see.
module _ (es gs now : List (ℕ × ℕ)) (at p : ℕ) (same : gs ≡ es) (to : es ≡ now) (ordered : AreOrdered es) where
  module _ (there : (at < length gs) × ((d : ℕ × ℕ) → (get_or gs at d).0 ≡ p)) where
    kept : (at < length es) × ((d : ℕ × ℕ) → (get_or es at d).0 ≡ p)
    kept = subst (λ (l : List (ℕ × ℕ)). (at < length l) × ((d : ℕ × ℕ) → (get_or l at d).0 ≡ p)) same there

    -- the entry has the page's place
    pub found : (d : ℕ × ℕ) → place_of p now ≡ Some (get_or es at d).1
    found d =
        let k = kept in
        ap (place_of p) (sym to) ∙ subst (λ (q : ℕ). place_of q es ≡ Some (get_or es at d).1) (k.1 d) (entry_at es at d ordered k.0)

    pub out_ordered : AreOrdered (remove es at)
    out_ordered = ordered_remove es at ordered kept.0

    pub out_places : (q : ℕ) → place_of q (remove es at) ≡ cond (eqb p q) None (place_of q now)
    out_places q =
        let k = kept in
        place_remove es at (0, 0) ordered k.0 q ∙ ap (λ (x : ℕ). cond (eqb x q) None (place_of q es)) (k.1 (0, 0)) ∙ ap (λ (l : List (ℕ × ℕ)). cond (eqb p q) None (place_of q l)) to

    pub put_ordered : (s : ℕ) → AreOrdered (set es at (p, s))
    put_ordered s = let k = kept in ordered_set es at (0, 0) (p, s) ordered k.0 (k.1 (0, 0))

    pub put_places : (s q : ℕ) → place_of q (set es at (p, s)) ≡ cond (eqb p q) (Some s) (place_of q now)
    put_places s q = let k = kept in place_set es at (0, 0) p s ordered k.0 (k.1 (0, 0)) q ∙ ap (λ (l : List (ℕ × ℕ)). cond (eqb p q) (Some s) (place_of q l)) to

  module _ (within : at ≤ length gs) (below : (k : ℕ) (d : ℕ × ℕ) → k < at → (get_or gs k d).0 < p) (above : (k : ℕ) (d : ℕ × ℕ) → at ≤ k → k < length gs → p < (get_or gs k d).0) where
    -- no entry has the page
    pub missing : place_of p now ≡ None
    missing = ap (place_of p) (sym to ∙ sym same) ∙ between_absent p gs at below above

    pub add_ordered : (s : ℕ) → AreOrdered (insert es at (p, s))
    add_ordered s =
        ordered_insert es at (p, s) ordered (subst (λ (l : List (ℕ × ℕ)). at ≤ length l) same within)
        (λ k d lt. subst (λ (l : List (ℕ × ℕ)). (get_or l k d).0 < p) same (below k d lt))
        (λ k d le lt. subst (λ (l : List (ℕ × ℕ)). k < length l → p < (get_or l k d).0) same (above k d le) lt)

    pub add_places : (s q : ℕ) → place_of q (insert es at (p, s)) ≡ cond (eqb p q) (Some s) (place_of q now)
    add_places s q =
        age_insert es at p s (ap (place_of p) to ∙ missing) (subst (λ (l : List (ℕ × ℕ)). at ≤ length l) same within) q
        ∙ ap (λ (l : List (ℕ × ℕ)). cond (eqb p q) (Some s) (place_of q l)) to
