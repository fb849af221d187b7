-- Frames by their pages.
use Rattle.std.proofs.Common.{◌≡◌, ◌≢◌, ◌⊎◌, inl, inr, ⊎_elim, ℕ, zero, suc, ◌+◌, ◌<◌, ◌≤◌, eqb, Bool, true, false, cond, List, [], ◌∷◌, ◌++◌, length, get_or, set, Option, Some, None, is_some, refl, sym, ◌∙◌, ap, subst, arith}
use Rattle.std.specs.Prelude.{sum_by}
use Rattle.std.specs.List.{swap_remove}
use Rattle.std.specs.Option.{option_map}
use Rattle.std.proofs.lemmas.Bool.Decides.{eqb_tells}
use Rattle.std.proofs.lemmas.List.Sums.{sum_by-cons, sum_by-swap_remove}
use Rattle.ctr_pool.specs.declared.frame.Frame.{Frame}
use Rattle.ctr_pool.specs.Frames.{frame_of, has_page, change_of, since_in, since_then, after_save, is_dirty, dirty_count}

-- ---- the first frame, or another

pub yes : {A : Type 0} (b : Bool) (x y : A) → b ≡ true → cond b x y ≡ x
yes true x y e = refl
yes false x y e = absurd cc

pub no : {A : Type 0} (b : Bool) (x y : A) → b ≡ false → cond b x y ≡ y
no true x y e = absurd cc
no false x y e = refl

pub is : (a b : ℕ) → a ≡ b → eqb a b ≡ true
is a b e = ⊎_elim (λ w. w.0) (λ w. absurd (w.1 e)) (eqb_tells a b)

pub isnt : (a b : ℕ) → a ≢ b → eqb a b ≡ false
isnt a b ne = ⊎_elim (λ w. absurd (ne w.1)) (λ w. w.0) (eqb_tells a b)

pub same_or : (a b : ℕ) → (a ≡ b) ⊎ (a ≢ b)
same_or a b = ⊎_elim (λ w. inl w.1) (λ w. inr w.1) (eqb_tells a b)

first : (f : Frame) (fs : List Frame) (p : ℕ) → f.page ≡ p → frame_of p (f ∷ fs) ≡ Some f
first f fs p e = yes (eqb f.page p) (Some f) (frame_of p fs) (is f.page p e)

rest : (f : Frame) (fs : List Frame) (p : ℕ) → f.page ≢ p → frame_of p (f ∷ fs) ≡ frame_of p fs
rest f fs p ne = no (eqb f.page p) (Some f) (frame_of p fs) (isnt f.page p ne)

-- ---- frames of different pages

-- no two frames have one page
abbrev pub AreApart : List Frame → Type 0
AreApart fs = (i j : ℕ) (d : Frame) → i < length fs → j < length fs → (get_or fs i d).page ≡ (get_or fs j d).page → i ≡ j

apart_rest : (f : Frame) (fs : List Frame) → AreApart (f ∷ fs) → AreApart fs
apart_rest f fs apart i j d i_lt j_lt same = let e = apart (suc i) (suc j) d (omega (arith, i_lt)) (omega (arith, j_lt)) same in omega (arith, e)

-- the first frame's page isn't that of a later one
apart_first : (f : Frame) (fs : List Frame) (at : ℕ) (d : Frame) → AreApart (f ∷ fs) → at < length fs → f.page ≢ (get_or fs at d).page
apart_first f fs at d apart lt same = let e = apart 0 (suc at) d (omega arith) (omega (arith, lt)) same in omega (arith, e)

-- a frame is that of its page
pub frame_at : (fs : List Frame) (at : ℕ) (d : Frame) → AreApart fs → at < length fs → frame_of (get_or fs at d).page fs ≡ Some (get_or fs at d)
frame_at [] at d apart lt = absurd (omega (arith, lt))
frame_at (f ∷ fs) zero d apart lt = first f fs f.page refl
frame_at (f ∷ fs) (suc at) d apart lt =
    rest f fs (get_or fs at d).page (apart_first f fs at d apart (omega (arith, lt))) ∙ frame_at fs at d (apart_rest f fs apart) (omega (arith, lt))

-- a page that no frame has
pub all_absent : (p : ℕ) (fs : List Frame) → ((k : ℕ) (d : Frame) → k < length fs → (get_or fs k d).page ≢ p) → frame_of p fs ≡ None
all_absent p [] h = refl
all_absent p (f ∷ fs) h = rest f fs p (h 0 f (omega arith)) ∙ all_absent p fs (λ k d lt. h (suc k) d (omega (arith, lt)))

-- ---- a frame more

pub frame_push : (fs : List Frame) (f : Frame) → frame_of f.page fs ≡ None → (q : ℕ) → frame_of q (fs ++ f ∷ []) ≡ cond (eqb f.page q) (Some f) (frame_of q fs)
frame_push [] f none q = refl
frame_push (g ∷ fs) f none q =
    let other : g.page ≢ f.page = λ e. let there = first g fs f.page e in cc in
    let hyp = frame_push fs f (sym (rest g fs f.page other) ∙ none) q in
    ⊎_elim (λ same. first g (fs ++ f ∷ []) q same ∙ sym (no (eqb f.page q) (Some f) (frame_of q (g ∷ fs)) (isnt f.page q (λ e. other (same ∙ sym e))) ∙ first g fs q same))
    (λ apart. rest g (fs ++ f ∷ []) q apart ∙ hyp ∙ ap (λ (o : Option Frame). cond (eqb f.page q) (Some f) o) (sym (rest g fs q apart)))
    (same_or g.page q)

pub count_push : (fs : List Frame) (f : Frame) → dirty_count (fs ++ f ∷ []) ≡ dirty_count fs + cond (is_dirty f) 1 0
count_push [] f = omega arith
count_push (g ∷ fs) f = let hyp = count_push fs f in omega (arith, hyp)

-- ---- a frame less, whose place the last one takes

counts : (fs : List Frame) → dirty_count fs ≡ sum_by (λ f. cond (is_dirty f) 1 0) fs
counts [] = refl
counts (f ∷ fs) = let hyp = counts fs in omega (arith, hyp, sum_by-cons (λ (g : Frame). cond (is_dirty g) 1 0) f fs)

pub count_out : (fs : List Frame) (at : ℕ) (d : Frame) → at < length fs → dirty_count (swap_remove fs at d) + cond (is_dirty (get_or fs at d)) 1 0 ≡ dirty_count fs
count_out fs at d lt =
    let n = sum_by-swap_remove (λ f. cond (is_dirty f) 1 0) fs at d lt in
    omega (arith, n, counts fs, counts (swap_remove fs at d))

-- ---- another frame of the same page

pub frame_set : (fs : List Frame) (at : ℕ) (d f : Frame) → AreApart fs → at < length fs → f.page ≡ (get_or fs at d).page → (q : ℕ) → frame_of q (set fs at f) ≡ cond (eqb f.page q) (Some f) (frame_of q fs)
frame_set [] at d f apart lt page q = absurd (omega (arith, lt))
frame_set (g ∷ fs) zero d f apart lt page q =
    ⊎_elim (λ same. first f fs q same ∙ sym (yes (eqb f.page q) (Some f) (frame_of q (g ∷ fs)) (is f.page q same)))
    (λ other. rest f fs q other ∙ sym (no (eqb f.page q) (Some f) (frame_of q (g ∷ fs)) (isnt f.page q other) ∙ rest g fs q (λ e. other (page ∙ e))))
    (same_or f.page q)
frame_set (g ∷ fs) (suc at) d f apart lt page q =
    let hyp = frame_set fs at d f (apart_rest g fs apart) (omega (arith, lt)) page q in
    let differs = apart_first g fs at d apart (omega (arith, lt)) in
    ⊎_elim (λ same. first g (set fs at f) q same ∙ sym (no (eqb f.page q) (Some f) (frame_of q (g ∷ fs)) (isnt f.page q (λ e. differs (same ∙ sym e ∙ page))) ∙ first g fs q same))
    (λ other. rest g (set fs at f) q other ∙ hyp ∙ ap (λ (o : Option Frame). cond (eqb f.page q) (Some f) o) (sym (rest g fs q other)))
    (same_or g.page q)

pub count_set : (fs : List Frame) (at : ℕ) (d f : Frame) → at < length fs → dirty_count (set fs at f) + cond (is_dirty (get_or fs at d)) 1 0 ≡ dirty_count fs + cond (is_dirty f) 1 0
count_set [] at d f lt = absurd (omega (arith, lt))
count_set (g ∷ fs) zero d f lt = omega arith
count_set (g ∷ fs) (suc at) d f lt = let hyp = count_set fs at d f (omega (arith, lt)) in omega (arith, hyp)

-- ---- counts

pub count_most : (fs : List Frame) → dirty_count fs ≤ length fs
count_most [] = omega arith
count_most (f ∷ fs) = let hyp = count_most fs in by (is_dirty f) hyp
  where
    by : (b : Bool) → dirty_count fs ≤ length fs → cond b 1 0 + dirty_count fs ≤ suc (length fs)
    by true h = omega (arith, h)
    by false h = omega (arith, h)

-- a page without a change leaves one frame less to count
pub count_less : (p : ℕ) (fs : List Frame) → has_page p fs ≡ true → since_in p fs ≡ None → dirty_count fs < length fs
count_less p [] there clean = absurd cc
count_less p (f ∷ fs) there clean =
    ⊎_elim (λ same. clean_first f fs (ap change_of (sym (first f fs p same)) ∙ clean))
    (λ apart. let e = rest f fs p apart in
    let hyp = count_less p fs (ap is_some (sym e) ∙ there) (ap change_of (sym e) ∙ clean) in by (is_dirty f) hyp)
    (same_or f.page p)
  where
    clean_first : (f : Frame) (fs : List Frame) → f.since ≡ None → dirty_count (f ∷ fs) < suc (length fs)
    clean_first f fs c = let m = count_most fs in subst (λ (o : Option ℕ). cond (is_some o) 1 0 + dirty_count fs < suc (length fs)) (sym c) (omega (arith, m))

    by : (b : Bool) → dirty_count fs < length fs → cond b 1 0 + dirty_count fs < suc (length fs)
    by true h = omega (arith, h)
    by false h = omega (arith, h)

-- ---- what finding says

-- a page's frame is the one that was found
pub found : (fs gs : List Frame) (at p : ℕ) → gs ≡ fs → AreApart fs → (at < length gs) × ((d : Frame) → (get_or gs at d).page ≡ p) → (d : Frame) → (at < length fs) × (frame_of p fs ≡ Some (get_or fs at d)) × ((get_or fs at d).page ≡ p)
found fs gs at p is apart there d =
    let t : (at < length fs) × ((e : Frame) → (get_or fs at e).page ≡ p) = subst (λ (l : List Frame). (at < length l) × ((e : Frame) → (get_or l at e).page ≡ p)) is there in
    (t.0, subst (λ (q : ℕ). frame_of q fs ≡ Some (get_or fs at d)) (t.1 d) (frame_at fs at d apart t.0), t.1 d)

pub found_there : (fs gs : List Frame) (at p : ℕ) → gs ≡ fs → AreApart fs → (at < length gs) × ((d : Frame) → (get_or gs at d).page ≡ p) → has_page p fs ≡ true
found_there [] gs at p is apart there = absurd (let n = ap length is in let t = there.0 in omega (arith, n, t))
found_there (f ∷ fs) gs at p is apart there = ap is_some (found (f ∷ fs) gs at p is apart there f).1

-- ---- of a page that isn't there nothing changes

pub stays_none : (p q : ℕ) (fs : List Frame) → frame_of p fs ≡ None → frame_of q fs ≡ cond (eqb p q) None (frame_of q fs)
stays_none p q fs none =
    ⊎_elim (λ same. subst (λ (k : ℕ). frame_of k fs ≡ None) same none ∙ sym (yes (eqb p q) None (frame_of q fs) (is p q same)))
    (λ apart. sym (no (eqb p q) None (frame_of q fs) (isnt p q apart)))
    (same_or p q)

pub stays_mapped : (h : Frame → Frame) (p q : ℕ) (fs : List Frame) → frame_of p fs ≡ None → frame_of q fs ≡ cond (eqb p q) (option_map h (frame_of q fs)) (frame_of q fs)
stays_mapped h p q fs none =
    ⊎_elim (λ same. let here : frame_of q fs ≡ None = subst (λ (k : ℕ). frame_of k fs ≡ None) same none in here ∙ sym (yes (eqb p q) (option_map h (frame_of q fs)) (frame_of q fs) (is p q same) ∙ ap (option_map h) here))
    (λ apart. sym (no (eqb p q) (option_map h (frame_of q fs)) (frame_of q fs) (isnt p q apart)))
    (same_or p q)

-- a frame for another of its page is what it maps to
pub mapped_one : (h : Frame → Frame) (p q : ℕ) (fs : List Frame) (f : Frame) → frame_of p fs ≡ Some f → cond (eqb p q) (Some (h f)) (frame_of q fs) ≡ cond (eqb p q) (option_map h (frame_of q fs)) (frame_of q fs)
mapped_one h p q fs f there =
    ⊎_elim (λ same. yes (eqb p q) (Some (h f)) (frame_of q fs) (is p q same) ∙ sym (yes (eqb p q) (option_map h (frame_of q fs)) (frame_of q fs) (is p q same) ∙ ap (option_map h) (subst (λ (k : ℕ). frame_of k fs ≡ Some f) same there)))
    (λ apart. no (eqb p q) (Some (h f)) (frame_of q fs) (isnt p q apart) ∙ sym (no (eqb p q) (option_map h (frame_of q fs)) (frame_of q fs) (isnt p q apart)))
    (same_or p q)

-- 1 where it is so
abbrev pub one_if : Bool → ℕ
one_if b = cond b 1 0

-- ---- what each change of the frames leaves

-- where a page's frame stands
pub record Stands (fs : List Frame) (at p : ℕ) (x : Frame) : Type 0 where
  pub inside : at < length fs
  pub frame : frame_of p fs ≡ Some x
  pub here : x ≡ get_or fs at x
  pub page : x.page ≡ p

pub stands : (fs gs : List Frame) (at p : ℕ) (x : Frame) → gs ≡ fs → AreApart fs → (at < length gs) × ((d : Frame) → (get_or gs at d).page ≡ p) → x ≡ get_or fs at x → Stands fs at p x
stands fs gs at p x same apart there here =
    let t = found fs gs at p same apart there x in
    record { inside = t.0; frame = t.1 ∙ ap Some (sym here); here = here; page = ap (λ (f : Frame). f.page) here ∙ t.2 }

-- the frame that was found is the page's
pub frame_is : (fs gs : List Frame) (at p : ℕ) (x f : Frame) → gs ≡ fs → AreApart fs → (at < length gs) × ((d : Frame) → (get_or gs at d).page ≡ p) → x ≡ get_or fs at x → frame_of p fs ≡ Some f → x ≡ f
frame_is fs gs at p x f same apart there here is = let both : Some x ≡ Some f = sym (stands fs gs at p x same apart there here).frame ∙ is in cc

module _ (h : Frame → Frame) (fs now : List Frame) (at p : ℕ) (x f : Frame) (same : fs ≡ now) (apart : AreApart fs) (at_is : Stands fs at p x) (is_h : f ≡ h x) (page : f.page ≡ x.page) where
  pub pages : f.page ≡ (get_or fs at x).page
  pages = page ∙ ap (λ (g : Frame). g.page) at_is.here

  pub put_frames : (q : ℕ) → frame_of q (set fs at f) ≡ cond (eqb p q) (option_map h (frame_of q now)) (frame_of q now)
  put_frames q =
      frame_set fs at x f apart at_is.inside pages q
      ∙ ap (λ (k : ℕ). cond (eqb k q) (Some f) (frame_of q fs)) (page ∙ at_is.page)
      ∙ ap (λ (g : Frame). cond (eqb p q) (Some g) (frame_of q fs)) is_h
      ∙ mapped_one h p q fs x at_is.frame
      ∙ ap (λ (l : List Frame). cond (eqb p q) (option_map h (frame_of q l)) (frame_of q l)) same

  pub put_count : dirty_count (set fs at f) + one_if (is_some (since_in p now)) ≡ dirty_count now + one_if (is_dirty f)
  put_count =
      let n = count_set fs at x f at_is.inside in
      let was : one_if (is_some (since_in p now)) ≡ one_if (is_dirty (get_or fs at x)) =
      ap (λ (l : List Frame). one_if (is_some (since_in p l))) (sym same) ∙ ap (λ (o : Option Frame). one_if (is_some (change_of o))) at_is.frame ∙ ap (λ (g : Frame). one_if (is_dirty g)) at_is.here in
      omega (arith, n, was, ap dirty_count same)

pub since_some : (s : Option ℕ) (lsn : ℕ) → is_some (since_then s lsn) ≡ true
since_some None lsn = refl
since_some (Some s) lsn = refl

-- each has a change
pub all_dirty : (fs : List Frame) → ((k : ℕ) (d : Frame) → k < length fs → is_dirty (get_or fs k d) ≡ true) → dirty_count fs ≡ length fs
all_dirty [] h = refl
all_dirty (f ∷ fs) h =
    let one : one_if (is_dirty f) ≡ 1 = ap one_if (h 0 f (omega arith)) in
    let hyp = all_dirty fs (λ k d lt. h (suc k) d (omega (arith, lt))) in
    omega (arith, one, hyp)

-- what is saved has no change
pub since_saved : (b : Bool) (o : Option Frame) → change_of (cond b (option_map after_save o) o) ≡ cond b None (change_of o)
since_saved true None = refl
since_saved true (Some f) = refl
since_saved false o = refl

pub none_of : (o : Option ℕ) → is_some o ≡ false → o ≡ None
none_of None e = refl
none_of (Some s) e = absurd cc
