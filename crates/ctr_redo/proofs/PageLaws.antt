-- Redo: laws of overlaying records.
use Rattle.std.proofs.Common.{◌≡◌, ◌⊎◌, inl, inr, ⊎_elim, ℕ, ◌+◌, ◌<◌, ◌≤◌, Bool, true, false, nat_lt, ◌&&◌, if◌then◌else◌, List, [], ◌∷◌, ◌++◌, length, refl, sym, ◌∙◌, ap, subst, arith}
use Rattle.std.proofs.lemmas.Bool.{ltb-true, ltb-false, lt-ltb, le-ltb}
use Rattle.ctr_pool.specs.Pages.{PageHeld}
use Rattle.ctr_meta.specs.rec_Record.{Record}
use Rattle.ctr_redo.specs.Overlaid.{touches, changed_by, with_record, overlaid}

pub either : (b : Bool) → (b ≡ true) ⊎ (b ≡ false)
either true = inl refl
either false = inr refl

pub choose_first : {A : Type 0} (a b : Bool) (x y : A) → a ≡ true → b ≡ true → (if a && b then x else y) ≡ x
choose_first true true x y is_a is_b = refl
choose_first true false x y is_a is_b = absurd (cc is_b)
choose_first false b x y is_a is_b = absurd (cc is_a)

pub choose_second : {A : Type 0} (a b : Bool) (x y : A) → (a ≡ true → b ≡ false) → (if a && b then x else y) ≡ y
choose_second true true x y out = absurd (cc (out refl))
choose_second true false x y out = refl
choose_second false true x y out = refl
choose_second false false x y out = refl

-- the record goes in: it is on the page, above the stamp
pub goes_in : (p lsn : ℕ) (r : Record) (h : PageHeld) → touches r p ≡ true → h.lsn < lsn → with_record p lsn r h ≡ record { lsn = lsn; body = changed_by r h.body }
goes_in p lsn r h is_on above = choose_first (touches r p) (nat_lt h.lsn lsn) (record { lsn = lsn; body = changed_by r h.body }) h is_on (lt-ltb h.lsn lsn above)

-- or it doesn't
pub stays_out : (p lsn : ℕ) (r : Record) (h : PageHeld) → (touches r p ≡ true → lsn ≤ h.lsn) → with_record p lsn r h ≡ h
stays_out p lsn r h out = choose_second (touches r p) (nat_lt h.lsn lsn) (record { lsn = lsn; body = changed_by r h.body }) h (λ is_on. le-ltb h.lsn lsn (out is_on))

pub record GoesIn (p lsn : ℕ) (r : Record) (h : PageHeld) : Type 0 where
  pub is_on : touches r p ≡ true
  pub above : h.lsn < lsn
  pub is : with_record p lsn r h ≡ record { lsn = lsn; body = changed_by r h.body }

pub record StaysOut (p lsn : ℕ) (r : Record) (h : PageHeld) : Type 0 where
  pub out : touches r p ≡ true → lsn ≤ h.lsn
  pub is : with_record p lsn r h ≡ h

pub in_or_out : (p lsn : ℕ) (r : Record) (h : PageHeld) → GoesIn p lsn r h ⊎ StaysOut p lsn r h
in_or_out p lsn r h =
    ⊎_elim
    (λ is_on.
    ⊎_elim (λ less. let above = ltb-true h.lsn lsn less in inl (record { is_on = is_on; above = above; is = goes_in p lsn r h is_on above }))
    (λ not_less. let out : touches r p ≡ true → lsn ≤ h.lsn = λ _. ltb-false h.lsn lsn not_less in inr (record { out = out; is = stays_out p lsn r h out }))
    (either (nat_lt h.lsn lsn)))
    (λ is_off. let out : touches r p ≡ true → lsn ≤ h.lsn = λ is_on. absurd (cc (is_off, is_on)) in inr (record { out = out; is = stays_out p lsn r h out }))
    (either (touches r p))

-- a record never lowers a stamp, and leaves one that isn't below the record where it's on the page
pub no_lower_one : (p lsn : ℕ) (r : Record) (h : PageHeld) → h.lsn ≤ (with_record p lsn r h).lsn
no_lower_one p lsn r h =
    ⊎_elim (λ (i : GoesIn p lsn r h). let above = i.above in omega (arith, above, ap (λ (x : PageHeld). x.lsn) i.is)) (λ (o : StaysOut p lsn r h). omega (arith, ap (λ (x : PageHeld). x.lsn) o.is)) (in_or_out p lsn r h)

pub reaches_one : (p lsn : ℕ) (r : Record) (h : PageHeld) → touches r p ≡ true → lsn ≤ (with_record p lsn r h).lsn
reaches_one p lsn r h is_on =
    ⊎_elim (λ (i : GoesIn p lsn r h). omega (arith, ap (λ (x : PageHeld). x.lsn) i.is)) (λ (o : StaysOut p lsn r h). let out = o.out is_on in omega (arith, out, ap (λ (x : PageHeld). x.lsn) o.is)) (in_or_out p lsn r h)

pub no_lower : (p lsn : ℕ) (rs : List Record) (h : PageHeld) → h.lsn ≤ (overlaid p lsn rs h).lsn
no_lower p lsn [] h = omega arith
no_lower p lsn (r ∷ rs) h = omega (arith, no_lower_one p lsn r h, no_lower p (lsn + 1) rs (with_record p lsn r h))

-- the stamp stays below the next LSN
pub below_next : (p lsn : ℕ) (rs : List Record) (h : PageHeld) → h.lsn < lsn + length rs → (overlaid p lsn rs h).lsn < lsn + length rs
below_next p lsn [] h below = below
below_next p lsn (r ∷ rs) h below =
    let one : (with_record p lsn r h).lsn < lsn + 1 + length rs =
    ⊎_elim (λ (i : GoesIn p lsn r h). omega (arith, ap (λ (x : PageHeld). x.lsn) i.is)) (λ (o : StaysOut p lsn r h). omega (arith, below, ap (λ (x : PageHeld). x.lsn) o.is)) (in_or_out p lsn r h) in
    omega (arith, below_next p (lsn + 1) rs (with_record p lsn r h) one)

pub overlaid-append : (p lsn : ℕ) (xs ys : List Record) (h : PageHeld) → overlaid p lsn (xs ++ ys) h ≡ overlaid p (lsn + length xs) ys (overlaid p lsn xs h)
overlaid-append p lsn [] ys h = let n : lsn ≡ lsn + 0 = omega arith in ap (λ (k : ℕ). overlaid p k ys h) n
overlaid-append p lsn (x ∷ xs) ys h =
    let n : lsn + 1 + length xs ≡ lsn + length (x ∷ xs) = omega arith in
    overlaid-append p (lsn + 1) xs ys (with_record p lsn x h) ∙ ap (λ (k : ℕ). overlaid p k ys (overlaid p (lsn + 1) xs (with_record p lsn x h))) n

-- THE KEY: what has the records stays what it is when they are overlaid again.
pub again : (p lsn : ℕ) (rs : List Record) (h : PageHeld) → overlaid p lsn rs (overlaid p lsn rs h) ≡ overlaid p lsn rs h
again p lsn [] h = refl
again p lsn (r ∷ rs) h =
    let g = with_record p lsn r h in
    let end = overlaid p (lsn + 1) rs g in
    let high = no_lower p (lsn + 1) rs g in
    let out : with_record p lsn r end ≡ end = stays_out p lsn r end (λ is_on. let reached = reaches_one p lsn r h is_on in omega (arith, high, reached)) in
    ap (λ (x : PageHeld). overlaid p (lsn + 1) rs x) out ∙ again p (lsn + 1) rs g

-- records that leave the stamp below them aren't on the page, or went in before
pub none_in : (p lsn : ℕ) (rs : List Record) (h : PageHeld) → (overlaid p lsn rs h).lsn < lsn → overlaid p lsn rs h ≡ h
none_in p lsn [] h low = refl
none_in p lsn (r ∷ rs) h low =
    let g = with_record p lsn r h in
    let high = no_lower p (lsn + 1) rs g in
    let same : g ≡ h = stays_out p lsn r h (λ is_on. let reached = reaches_one p lsn r h is_on in absurd (omega (arith, low, high, reached))) in
    none_in p (lsn + 1) rs g (omega (arith, low)) ∙ same

-- Lemma A, of one page: the home may hold what it held, or the page with the records so far; whatever
-- records come behind these, the page is the same.
pub same_page : (p lsn : ℕ) (ds ms : List Record) (h : PageHeld) → overlaid p lsn (ds ++ ms) (overlaid p lsn ds h) ≡ overlaid p lsn (ds ++ ms) h
same_page p lsn ds ms h =
    overlaid-append p lsn ds ms (overlaid p lsn ds h) ∙ ap (λ (x : PageHeld). overlaid p (lsn + length ds) ms x) (again p lsn ds h) ∙ sym (overlaid-append p lsn ds ms h)

-- a page whose stamp is durable has the durable records and no others
pub durable_alone : (p lsn : ℕ) (ds ws : List Record) (h : PageHeld) → (overlaid p lsn (ds ++ ws) h).lsn < lsn + length ds → overlaid p lsn (ds ++ ws) h ≡ overlaid p lsn ds h
durable_alone p lsn ds ws h low =
    let split = overlaid-append p lsn ds ws h in
    let low_there : (overlaid p (lsn + length ds) ws (overlaid p lsn ds h)).lsn < lsn + length ds = subst (λ (x : PageHeld). x.lsn < lsn + length ds) split low in
    split ∙ none_in p (lsn + length ds) ws (overlaid p lsn ds h) low_there

-- where the stamp doesn't rise nothing goes in
pub none_new : (p lsn : ℕ) (rs : List Record) (h : PageHeld) → (overlaid p lsn rs h).lsn ≤ h.lsn → overlaid p lsn rs h ≡ h
none_new p lsn [] h low = refl
none_new p lsn (r ∷ rs) h low =
    let g = with_record p lsn r h in
    let high = no_lower p (lsn + 1) rs g in
    ⊎_elim (λ (i : GoesIn p lsn r h). let above = i.above in absurd (omega (arith, low, high, above, ap (λ (x : PageHeld). x.lsn) i.is)))
    (λ (o : StaysOut p lsn r h). none_new p (lsn + 1) rs g (omega (arith, low, ap (λ (x : PageHeld). x.lsn) o.is)) ∙ o.is)
    (in_or_out p lsn r h)
