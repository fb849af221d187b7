-- Frames that stand where their pages' places say.
use Rattle.std.proofs.Common.{◌≡◌, ◌≢◌, ⊎_elim, ℕ, ◌-◌, ◌+◌, ◌<◌, eqb, Bool, true, false, cond, List, [], ◌∷◌, ◌++◌, length, get_or, set, Option, Some, None, refl, sym, ◌∙◌, ap, subst, arith}
use Rattle.std.specs.Prelude.{IfNone}
use Rattle.std.specs.List.{swap_remove}
use Rattle.std.proofs.Math.Seq.{get_or-append_seam}
use Rattle.std.proofs.lemmas.List.{get_or_default, get_or_append_left, length-append, length-take-le, get_or-take, get_or-set_same, get_or-set_other, length-set}
use Rattle.ctr_pool.specs.declared.frame.Frame.{Frame}
use Rattle.ctr_pool.specs.Frames.{frame_of}
use Rattle.ctr_pool.specs.Kept.{place_of, ArePlaced}
use Rattle.ctr_pool.proofs.FrameLaws.{yes, no, is, isnt, same_or, AreApart, frame_at, all_absent}

module _ (es : List (ℕ × ℕ)) (fs : List Frame) (placed : ArePlaced es fs) where
  pub apart : AreApart fs
  apart i j d i_lt j_lt same =
      let both : Some i ≡ Some j = sym (placed.each i d i_lt) ∙ ap (λ (p : ℕ). place_of p es) same ∙ placed.each j d j_lt in cc

  -- a page without a place has no frame
  pub absent : (p : ℕ) → place_of p es ≡ None → frame_of p fs ≡ None
  absent p none =
      all_absent p fs (λ k d lt same. let both : None ≡ Some k = sym none ∙ ap (λ (q : ℕ). place_of q es) (sym same) ∙ placed.each k d lt in absurd cc)

  -- one that has a place has the frame there
  pub present : (p at : ℕ) (d : Frame) → place_of p es ≡ Some at → frame_of p fs ≡ Some (get_or fs at d)
  present p at d is_at =
      subst (λ (q : ℕ). frame_of q fs ≡ Some (get_or fs at d)) (placed.page p at d is_at) (frame_at fs at d apart (placed.inside p at is_at))

  -- a page that no frame has has no place
  pub unplaced : (p : ℕ) (d : Frame) → frame_of p fs ≡ None → place_of p es ≡ None
  unplaced p d none = by (place_of p es) refl
    where
      by : (o : Option ℕ) → place_of p es ≡ o → place_of p es ≡ None
      by None e = e
      by (Some at) e = let both : None ≡ Some (get_or fs at d) = sym none ∙ present p at d e in absurd cc

  -- where a page's frame stands is its place
  pub placed_here : (now : List Frame) (p at : ℕ) (d : Frame) → now ≡ fs → (at < length now) × ((e : Frame) → (get_or now at e).page ≡ p) → place_of p es ≡ Some at
  placed_here now p at d same there =
      let t : (at < length fs) × ((e : Frame) → (get_or fs at e).page ≡ p) = subst (λ (l : List Frame). (at < length l) × ((e : Frame) → (get_or l at e).page ≡ p)) same there in
      ap (λ (q : ℕ). place_of q es) (sym (t.1 d)) ∙ placed.each at d t.0

  -- where no place was found there is no frame
  pub absent_if : (now : List Frame) (p : ℕ) (o : Option ℕ) → fs ≡ now → o ≡ place_of p es → IfNone o (frame_of p now ≡ None)
  absent_if now p None same e = ap (frame_of p) (sym same) ∙ absent p (sym e)
  absent_if now p (Some at) same e = tt

  -- two pages have two places
  pub differ : (p q at k : ℕ) (d : Frame) → q ≢ p → place_of p es ≡ Some at → place_of q es ≡ Some k → k ≢ at
  differ p q at k d ne is_at is_k same = ne (sym (placed.page q k d is_k) ∙ ap (λ (i : ℕ). (get_or fs i d).page) same ∙ placed.page p at d is_at)

  -- ---- a frame more, at the end

  module _ (f : Frame) (new : List (ℕ × ℕ)) (none : frame_of f.page fs ≡ None) (adds : (q : ℕ) → place_of q new ≡ cond (eqb f.page q) (Some (length fs)) (place_of q es)) where
    here : place_of f.page new ≡ Some (length fs)
    here = adds f.page ∙ yes (eqb f.page f.page) (Some (length fs)) (place_of f.page es) (is f.page f.page refl)

    other : (q : ℕ) → f.page ≢ q → place_of q new ≡ place_of q es
    other q ne = adds q ∙ no (eqb f.page q) (Some (length fs)) (place_of q es) (isnt f.page q ne)

    last_at : (d : Frame) → get_or (fs ++ f ∷ []) (length fs) d ≡ f
    last_at d = get_or-append_seam fs f [] d

    pub placed_push : ArePlaced new (fs ++ f ∷ [])
    placed_push = record {
      each = λ at d lt. ⊎_elim (λ same. ap (λ (k : ℕ). place_of (get_or (fs ++ f ∷ []) k d).page new) same ∙ ap (λ (g : Frame). place_of g.page new) (last_at d) ∙ here ∙ ap Some (sym same))
          (λ apart. let less : at < length fs = omega (arith, apart, lt, length-append fs (f ∷ [])) in
          let known = placed.each at d less in
          let differs : f.page ≢ (get_or fs at d).page = λ e. let both : None ≡ Some at = sym (unplaced f.page f none) ∙ ap (λ (q : ℕ). place_of q es) e ∙ known in absurd cc in
          ap (λ (g : Frame). place_of g.page new) (get_or_append_left fs (f ∷ []) d at less) ∙ other (get_or fs at d).page differs ∙ known)
          (same_or at (length fs));
      inside = λ p at is_at. ⊎_elim (λ same. let both : Some (length fs) ≡ Some at = sym (subst (λ (q : ℕ). place_of q new ≡ Some (length fs)) same here) ∙ is_at in let one : length fs ≡ at = cc in omega (arith, one, length-append fs (f ∷ [])))
          (λ apart. let i = placed.inside p at (sym (other p apart) ∙ is_at) in omega (arith, i, length-append fs (f ∷ [])))
          (same_or f.page p);
      page = λ p at d is_at. ⊎_elim (λ same. let both : Some (length fs) ≡ Some at = sym (subst (λ (q : ℕ). place_of q new ≡ Some (length fs)) same here) ∙ is_at in let one : length fs ≡ at = cc in
          ap (λ (k : ℕ). (get_or (fs ++ f ∷ []) k d).page) (sym one) ∙ ap (λ (g : Frame). g.page) (last_at d) ∙ same)
          (λ apart. let old = sym (other p apart) ∙ is_at in
          ap (λ (g : Frame). g.page) (get_or_append_left fs (f ∷ []) d at (placed.inside p at old)) ∙ placed.page p at d old)
          (same_or f.page p);
    }

  -- ---- another frame of the same page

  module _ (at : ℕ) (x f : Frame) (lt : at < length fs) (page : f.page ≡ (get_or fs at x).page) where
    pages : (k : ℕ) (d : Frame) → (get_or (set fs at f) k d).page ≡ (get_or fs k d).page
    pages k d =
        ⊎_elim (λ same. ap (λ (i : ℕ). (get_or (set fs at f) i d).page) same ∙ ap (λ (g : Frame). g.page) (get_or-set_same fs at f d lt) ∙ page ∙ ap (λ (g : Frame). g.page) (get_or_default fs at x d lt) ∙ ap (λ (i : ℕ). (get_or fs i d).page) (sym same))
        (λ other. ap (λ (g : Frame). g.page) (get_or-set_other fs at k f d other))
        (same_or k at)

    pub placed_set : ArePlaced es (set fs at f)
    placed_set = record {
      each = λ k d less. ap (λ (q : ℕ). place_of q es) (pages k d) ∙ placed.each k d (omega (arith, less, length-set fs at f));
      inside = λ p k is_k. let i = placed.inside p k is_k in omega (arith, i, length-set fs at f);
      page = λ p k d is_k. pages k d ∙ placed.page p k d is_k;
    }

  -- ---- a frame less, whose place the last one takes

  module _ (p at : ℕ) (x : Frame) (is_at : place_of p es ≡ Some at) where
    -- what the places are then
    pub record HasMoved (new : List (ℕ × ℕ)) : Type 0 where
      pub gone : place_of p new ≡ None
      pub none : (q : ℕ) → place_of q es ≡ None → place_of q new ≡ None
      pub stays : (q k : ℕ) → q ≢ p → place_of q es ≡ Some k → k ≢ length fs - 1 → place_of q new ≡ Some k
      pub last : (q : ℕ) → q ≢ p → place_of q es ≡ Some (length fs - 1) → place_of q new ≡ Some at

    -- the frame was the last
    pub none_moves : (new : List (ℕ × ℕ)) → length fs - 1 ≡ at → ((q : ℕ) → place_of q new ≡ cond (eqb p q) None (place_of q es)) → HasMoved new
    none_moves new end takes = record {
      gone = takes p ∙ yes (eqb p p) None (place_of p es) (is p p refl);
      none = λ q no_q. takes q ∙ ap (cond (eqb p q) None) no_q ∙ either (eqb p q);
      stays = λ q k ne is_k not_last. takes q ∙ no (eqb p q) None (place_of q es) (isnt p q (λ e. ne (sym e))) ∙ is_k;
      last = λ q ne is_last. absurd (differ p q at (length fs - 1) x ne is_at is_last end);
    }
      where
        either : (b : Bool) → cond {A = Option ℕ} b None None ≡ None
        either true = refl
        either false = refl

    -- the last one has its place
    pub one_moves : (new : List (ℕ × ℕ)) (m : ℕ) → at < length fs - 1 → m ≡ (get_or fs (length fs - 1) x).page → ((q : ℕ) → place_of q new ≡ cond (eqb m q) (Some at) (cond (eqb p q) None (place_of q es))) → HasMoved new
    one_moves new m lt is_m takes =
        let last_of : place_of m es ≡ Some (length fs - 1) = ap (λ (q : ℕ). place_of q es) is_m ∙ placed.each (length fs - 1) x (omega (arith, lt)) in
        let m_p : m ≢ p = λ e. let both : Some (length fs - 1) ≡ Some at = sym last_of ∙ ap (λ (q : ℕ). place_of q es) e ∙ is_at in let one : length fs - 1 ≡ at = cc in omega (arith, lt, one) in
        record {
          gone = takes p ∙ no (eqb m p) (Some at) (cond (eqb p p) None (place_of p es)) (isnt m p m_p) ∙ yes (eqb p p) None (place_of p es) (is p p refl);
          none = λ q no_q. takes q ∙ no (eqb m q) (Some at) (cond (eqb p q) None (place_of q es)) (isnt m q (λ e. let both : Some (length fs - 1) ≡ None = sym last_of ∙ ap (λ (k : ℕ). place_of k es) e ∙ no_q in absurd cc))
              ∙ no (eqb p q) None (place_of q es) (isnt p q (λ e. let both : Some at ≡ None = sym is_at ∙ ap (λ (k : ℕ). place_of k es) e ∙ no_q in absurd cc)) ∙ no_q;
          stays = λ q k ne is_k not_last. takes q
              ∙ no (eqb m q) (Some at) (cond (eqb p q) None (place_of q es)) (isnt m q (λ e. let both : Some k ≡ Some (length fs - 1) = sym is_k ∙ ap (λ (i : ℕ). place_of i es) (sym e) ∙ last_of in not_last cc))
              ∙ no (eqb p q) None (place_of q es) (isnt p q (λ e. ne (sym e))) ∙ is_k;
          last = λ q ne is_last. takes q ∙ yes (eqb m q) (Some at) (cond (eqb p q) None (place_of q es)) (is m q (is_m ∙ placed.page q (length fs - 1) x is_last));
        }

    -- ---- what is left

    abbrev pub out : List Frame
    out = swap_remove fs at x

    inside : at < length fs
    inside = placed.inside p at is_at

    out_length : length out ≡ length fs - 1
    out_length = length-take-le (length fs - 1) (set fs at (get_or fs (length fs - 1) x)) (omega (arith, length-set fs at (get_or fs (length fs - 1) x)))

    out_other : (k : ℕ) (d : Frame) → k < length fs - 1 → k ≢ at → get_or out k d ≡ get_or fs k d
    out_other k d lt ne = get_or-take (length fs - 1) (set fs at (get_or fs (length fs - 1) x)) k d lt ∙ get_or-set_other fs at k (get_or fs (length fs - 1) x) d ne

    pub out_here : (d : Frame) → at < length fs - 1 → get_or out at d ≡ get_or fs (length fs - 1) d
    out_here d lt =
        get_or-take (length fs - 1) (set fs at (get_or fs (length fs - 1) x)) at d lt ∙ get_or-set_same fs at (get_or fs (length fs - 1) x) d inside ∙ get_or_default fs (length fs - 1) x d (omega (arith, lt))

    module _ (new : List (ℕ × ℕ)) (moved : HasMoved new) where
      -- where the frame of another page is now
      record IsNow (q was : ℕ) : Type 0 where
        now : ℕ
        place : place_of q new ≡ Some now
        within : now < length fs - 1
        same : (d : Frame) → get_or out now d ≡ get_or fs was d

      is_now : (q k : ℕ) → q ≢ p → place_of q es ≡ Some k → IsNow q k
      is_now q k ne is_k =
          let apart = differ p q at k x ne is_at is_k in
          let k_lt = placed.inside q k is_k in
          let at_lt = inside in
          ⊎_elim (λ same. let lt : at < length fs - 1 = omega (arith, apart, same, k_lt, at_lt) in
          record { now = at; place = moved.last q ne (is_k ∙ ap Some same); within = lt; same = λ d. out_here d lt ∙ ap (λ (i : ℕ). get_or fs i d) (sym same) })
          (λ other. let lt : k < length fs - 1 = omega (arith, other, k_lt) in
          record { now = k; place = moved.stays q k ne is_k other; within = lt; same = λ d. out_other k d lt apart })
          (same_or k (length fs - 1))

      -- a page that has a place now had one, and isn't the one that went
      was : (q k : ℕ) → place_of q new ≡ Some k → (q ≢ p) × (i : ℕ) × (place_of q es ≡ Some i)
      was q k is_k =
          let had = by (place_of q es) refl in
          ((λ e. let both : None ≡ Some k = sym moved.gone ∙ ap (λ (i : ℕ). place_of i new) (sym e) ∙ is_k in absurd cc), had.0, had.1)
        where
          by : (o : Option ℕ) → place_of q es ≡ o → (i : ℕ) × (place_of q es ≡ Some i)
          by None e = let both : None ≡ Some k = sym (moved.none q e) ∙ is_k in absurd cc
          by (Some i) e = (i, e)

      pub placed_out : ArePlaced new out
      placed_out = record {
        each = λ k d lt. each k d (omega (arith, lt, out_length));
        inside = λ q k is_k. let n = now_at q k is_k in omega (arith, n.0, out_length);
        page = λ q k d is_k. let n = now_at q k is_k in n.1 d;
      }
        where
          now_at : (q k : ℕ) → place_of q new ≡ Some k → (k < length fs - 1) × ((d : Frame) → (get_or out k d).page ≡ q)
          now_at q k is_k =
              let w = was q k is_k in
              let n = is_now q w.1 w.0 w.2 in
              let both : Some n.now ≡ Some k = sym n.place ∙ is_k in
              let one : n.now ≡ k = cc in (
                omega (arith, n.within, one),
                (λ d. ap (λ (i : ℕ). (get_or out i d).page) (sym one) ∙ ap (λ (g : Frame). g.page) (n.same d) ∙ placed.page q w.1 d w.2),
              )

          each : (k : ℕ) (d : Frame) → k < length fs - 1 → place_of (get_or out k d).page new ≡ Some k
          each k d lt =
              ⊎_elim (λ same. let at_lt : at < length fs - 1 = omega (arith, lt, same) in
              let q = (get_or fs (length fs - 1) d).page in
              let is_last : place_of q es ≡ Some (length fs - 1) = placed.each (length fs - 1) d (omega (arith, lt)) in
              let ne : q ≢ p = λ e. let both : Some (length fs - 1) ≡ Some at = sym is_last ∙ ap (λ (i : ℕ). place_of i es) e ∙ is_at in let one : length fs - 1 ≡ at = cc in omega (arith, at_lt, one) in
              ap (λ (i : ℕ). place_of (get_or out i d).page new) same ∙ ap (λ (g : Frame). place_of g.page new) (out_here d at_lt) ∙ moved.last q ne is_last ∙ ap Some (sym same))
              (λ other. let q = (get_or fs k d).page in
              let is_k : place_of q es ≡ Some k = placed.each k d (omega (arith, lt)) in
              let ne : q ≢ p = λ e. let both : Some k ≡ Some at = sym is_k ∙ ap (λ (i : ℕ). place_of i es) e ∙ is_at in other cc in
              ap (λ (g : Frame). place_of g.page new) (out_other k d lt other) ∙ moved.stays q k ne is_k (omega (arith, lt)))
              (same_or k at)

-- the frames of what is left
module _ (es new : List (ℕ × ℕ)) (fs : List Frame) (placed : ArePlaced es fs) (p at : ℕ) (x : Frame) (is_at : place_of p es ≡ Some at) (moved : HasMoved es fs placed p at x is_at new) where
  pub out_frames : (q : ℕ) → frame_of q (swap_remove fs at x) ≡ cond (eqb p q) None (frame_of q fs)
  out_frames q =
      let left = placed_out es fs placed p at x is_at new moved in
      ⊎_elim (λ same. subst (λ (i : ℕ). frame_of i (swap_remove fs at x) ≡ None) same (absent new (swap_remove fs at x) left p moved.gone) ∙ sym (yes (eqb p q) None (frame_of q fs) (is p q same)))
      (λ apart. by apart (place_of q es) refl ∙ sym (no (eqb p q) None (frame_of q fs) (isnt p q apart)))
      (same_or p q)
    where
      by : p ≢ q → (o : Option ℕ) → place_of q es ≡ o → frame_of q (swap_remove fs at x) ≡ frame_of q fs
      by ne None e = absent new (swap_remove fs at x) (placed_out es fs placed p at x is_at new moved) q (moved.none q e) ∙ sym (absent es fs placed q e)
      by ne (Some k) e =
          let n = is_now es fs placed p at x is_at new moved q k (λ s. ne (sym s)) e in
          present new (swap_remove fs at x) (placed_out es fs placed p at x is_at new moved) q n.now x n.place ∙ ap Some (n.same x) ∙ sym (present es fs placed q k x e)
