-- Laws of states: a record more in the log, a page written home.
use Rattle.std.proofs.Common.{◌≡◌, ◌≢◌, ◌⊎◌, inl, inr, ⊎_elim, ℕ, zero, suc, ◌+◌, ◌<◌, ◌≤◌, ◌==◌, Bool, true, false, nat_lt, ◌&&◌, if◌then◌else◌, List, [], ◌∷◌, ◌++◌, length, refl, sym, ◌∙◌, ap, subst, arith, length-append, append_assoc}
use Rattle.std.proofs.lemmas.List.{append-nil}
use Rattle.std.proofs.lemmas.List.Sums.{fold-append}
use Rattle.std.proofs.lemmas.Bool.{lt-ltb, le-ltb}
use Rattle.std.proofs.lemmas.Bool.Decides.{eqb_tells}
use Rattle.ctr_pool.specs.Pages.{PageHeld}
use Rattle.ctr_meta.specs.Tables.{Tables, no_tables}
use Rattle.ctr_meta.specs.Effects.{effect, tables_of}
use Rattle.ctr_meta.specs.rec_Record.{Record}
use Rattle.ctr_redo.specs.Overlaid.{touches, changed_by, with_record, overlaid, by_home}
use Rattle.ctr_redo.specs.States.{page_limit, State, Stored, pages_of, state_of, pages_after, step, steps, with_more, home_put, with_home, next_of, LieBelow, page_at}
use Rattle.ctr_redo.proofs.PageLaws.{GoesIn, StaysOut, in_or_out, choose_first, choose_second, below_next, overlaid-append}

pub tables-push : (rs : List Record) (r : Record) → tables_of (rs ++ r ∷ []) ≡ effect r (tables_of rs)
tables-push rs r = fold-append (λ (t : Tables) (x : Record). effect x t) no_tables rs (r ∷ [])

pub steps-append : (xs ys : List Record) (s : State) → steps (xs ++ ys) s ≡ steps ys (steps xs s)
steps-append [] ys s = refl
steps-append (x ∷ xs) ys s = steps-append xs ys (step x s)

-- a record above the stamp changes the page where it is on it
body_with : (p lsn : ℕ) (r : Record) (h : PageHeld) → h.lsn < lsn → (with_record p lsn r h).body ≡ (if touches r p then changed_by r h.body else h.body)
body_with p lsn r h below = by_test (touches r p) (nat_lt h.lsn lsn) (lt-ltb h.lsn lsn below) where
  by_test : (a b : Bool) → b ≡ true → (if a && b then record { lsn = lsn; body = changed_by r h.body } else h).body ≡ (if a then changed_by r h.body else h.body)
  by_test true true is = refl
  by_test true false is = absurd (cc is)
  by_test false true is = refl
  by_test false false is = refl

-- Two images whose pages are the same one by one have the same list of pages.
pub pages_same : (home home' : ℕ → PageHeld) (first first' : ℕ) (rs rs' : List Record) → ((p : ℕ) → overlaid p first rs (home p) ≡ overlaid p first' rs' (home' p)) → (p n : ℕ) → pages_of home first rs p n ≡ pages_of home' first' rs' p n
pages_same home home' first first' rs rs' each p zero = refl
pages_same home home' first first' rs rs' each p (suc n) =
    ap (λ (h : PageHeld). h.body ∷ pages_of home first rs (p + 1) n) (each p) ∙ ap (λ (bs : List (List ℕ)). (overlaid p first' rs' (home' p)).body ∷ bs) (pages_same home home' first first' rs rs' each (p + 1) n)

pages_push : (home : ℕ → PageHeld) (first : ℕ) (xs : List Record) (r : Record) (p n : ℕ) → LieBelow (first + length xs) home → pages_of home first (xs ++ r ∷ []) p n ≡ pages_after p r (pages_of home first xs p n)
pages_push home first xs r p zero below = refl
pages_push home first xs r p (suc n) below =
    let g = overlaid p first xs (home p) in
    let head : (overlaid p first (xs ++ r ∷ []) (home p)).body ≡ (if touches r p then changed_by r g.body else g.body) =
    ap (λ (x : PageHeld). x.body) (overlaid-append p first xs (r ∷ []) (home p)) ∙ body_with p (first + length xs) r g (below_next p first xs (home p) (below p)) in
    ap (λ (b : List ℕ). b ∷ pages_of home first (xs ++ r ∷ []) (p + 1) n) head ∙ ap (λ (bs : List (List ℕ)). (if touches r p then changed_by r g.body else g.body) ∷ bs) (pages_push home first xs r (p + 1) n below)

pub below_more : (n m : ℕ) (home : ℕ → PageHeld) → n ≤ m → LieBelow n home → LieBelow m home
below_more n m home le below p = let low = below p in omega (arith, le, low)

pub state_push : (r : Record) (i : Stored) → LieBelow (next_of i) i.homes → state_of (with_more (r ∷ []) i) ≡ step r (state_of i)
state_push r i below =
    ap (λ (ps : List (List ℕ)). record { counted = i.counted; pages = ps; tables = tables_of (i.records ++ r ∷ []) }) (pages_push i.homes i.first i.records r 0 page_limit below)
    ∙ ap (λ (t : Tables). record { counted = i.counted; pages = pages_after 0 r (pages_of i.homes i.first i.records 0 page_limit); tables = t }) (tables-push i.records r)

more_more : (r : Record) (rs : List Record) (i : Stored) → with_more rs (with_more (r ∷ []) i) ≡ with_more (r ∷ rs) i
more_more r rs i = ap (λ (l : List Record). record i { records = l }) (append_assoc i.records (r ∷ []) rs)

-- Records behind the log change the state, one step after another.
pub state_more : (rs : List Record) (i : Stored) → LieBelow (next_of i) i.homes → state_of (with_more rs i) ≡ steps rs (state_of i)
state_more [] i below = ap (λ (l : List Record). state_of (record i { records = l })) (append-nil i.records)
state_more (r ∷ rs) i below =
    let next = with_more (r ∷ []) i in
    let low : LieBelow (next_of next) i.homes = below_more (next_of i) (next_of next) i.homes (omega (arith, length-append i.records (r ∷ []))) below in
    ap state_of (sym (more_more r rs i)) ∙ state_more rs next low ∙ ap (steps rs) (state_push r i below)

-- ---- pages at home

choose_true : {A : Type 0} (b : Bool) (x y : A) → b ≡ true → (if b then x else y) ≡ x
choose_true true x y is = refl
choose_true false x y is = absurd (cc is)

choose_false : {A : Type 0} (b : Bool) (x y : A) → b ≡ false → (if b then x else y) ≡ y
choose_false true x y is = absurd (cc is)
choose_false false x y is = refl

pub put_there : (p : ℕ) (v : PageHeld) (homes : ℕ → PageHeld) → home_put p v homes p ≡ v
put_there p v homes = ⊎_elim (λ w. choose_true (p == p) v (homes p) w.0) (λ w. absurd (w.1 refl)) (eqb_tells p p)

pub put_elsewhere : (p q : ℕ) (v : PageHeld) (homes : ℕ → PageHeld) → q ≢ p → home_put p v homes q ≡ homes q
put_elsewhere p q v homes other = ⊎_elim (λ w. absurd (other w.1)) (λ w. choose_false (q == p) v (homes q) w.0) (eqb_tells q p)

-- Another value of a page at home, of which the log's records make the same page. Whatever records come
-- behind the log, each page is the same.
pub page_swapped : (p first : ℕ) (rs ms : List Record) (v : PageHeld) (homes : ℕ → PageHeld) → overlaid p first rs v ≡ overlaid p first rs (homes p) → (q : ℕ)
    → overlaid q first (rs ++ ms) (home_put p v homes q) ≡ overlaid q first (rs ++ ms) (homes q)
page_swapped p first rs ms v homes same q =
    ⊎_elim
    (λ w.
    let P : ℕ → Type 0 = λ n. overlaid n first (rs ++ ms) (home_put p v homes n) ≡ overlaid n first (rs ++ ms) (homes n) in
    subst P (sym w.1)
    (
    ap (overlaid p first (rs ++ ms)) (put_there p v homes) ∙ overlaid-append p first rs ms v ∙ ap (overlaid p (first + length rs) ms) same
    ∙ sym (overlaid-append p first rs ms (homes p))
    ))
    (λ w. ap (overlaid q first (rs ++ ms)) (put_elsewhere p q v homes w.1))
    (eqb_tells q p)

pub state_swapped : (p : ℕ) (v : PageHeld) (ms : List Record) (i : Stored) → overlaid p i.first i.records v ≡ overlaid p i.first i.records (i.homes p) → state_of (with_more ms (with_home p v i)) ≡ state_of (with_more ms i)
state_swapped p v ms i same =
    ap (λ (ps : List (List ℕ)). record { counted = i.counted; pages = ps; tables = tables_of (i.records ++ ms) })
    (pages_same (home_put p v i.homes) i.homes i.first i.first (i.records ++ ms) (i.records ++ ms) (page_swapped p i.first i.records ms v i.homes same) 0 page_limit)

pub state_swapped_now : (p : ℕ) (v : PageHeld) (i : Stored) → overlaid p i.first i.records v ≡ overlaid p i.first i.records (i.homes p) → state_of (with_home p v i) ≡ state_of i
state_swapped_now p v i same =
    ap (λ (l : List Record). state_of (record i { records = l; homes = home_put p v i.homes })) (sym (append-nil i.records)) ∙ state_swapped p v [] i same
    ∙ ap (λ (l : List Record). state_of (record i { records = l })) (append-nil i.records)

-- Pages that are the same at home fold to the same state.
pub state_same : (homes homes' : ℕ → PageHeld) (counted first : ℕ) (rs : List Record) → ((p : ℕ) → homes' p ≡ homes p)
    → state_of (record { counted = counted; homes = homes'; first = first; records = rs }) ≡ state_of (record { counted = counted; homes = homes; first = first; records = rs })
state_same homes homes' counted first rs each =
    ap (λ (ps : List (List ℕ)). record { counted = counted; pages = ps; tables = tables_of rs })
    (pages_same homes' homes first first rs rs (λ p. ap (overlaid p first rs) (each p)) 0 page_limit)

-- what a page of a state is
page_from : (homes : ℕ → PageHeld) (first : ℕ) (rs : List Record) (q p n : ℕ) → p < n → page_at p (pages_of homes first rs q n) ≡ (overlaid (q + p) first rs (homes (q + p))).body
page_from homes first rs q p zero inside = absurd (omega (arith, inside))
page_from homes first rs q zero (suc n) inside = let k : q ≡ q + 0 = omega arith in ap (λ (m : ℕ). (overlaid m first rs (homes m)).body) k
page_from homes first rs q (suc p) (suc n) inside =
    let k : q + 1 + p ≡ q + suc p = omega arith in page_from homes first rs (q + 1) p n (omega (arith, inside)) ∙ ap (λ (m : ℕ). (overlaid m first rs (homes m)).body) k

pub page_is : (p : ℕ) (i : Stored) → p < page_limit → page_at p (state_of i).pages ≡ (overlaid p i.first i.records (i.homes p)).body
page_is p i inside = let k : 0 + p ≡ p = omega arith in page_from i.homes i.first i.records 0 p page_limit inside ∙ ap (λ (m : ℕ). (overlaid m i.first i.records (i.homes m)).body) k

pub length-pages : (homes : ℕ → PageHeld) (first : ℕ) (rs : List Record) (p n : ℕ) → length (pages_of homes first rs p n) ≡ n
length-pages homes first rs p zero = refl
length-pages homes first rs p (suc n) = let k = length-pages homes first rs (p + 1) n in omega (arith, k)

-- The stamp that rises with each record tells of each what the home's stamp tells.
pub by_stamp : (p s lsn : ℕ) (rs : List Record) (h : PageHeld) → s ≤ h.lsn → (s ≡ h.lsn) ⊎ (h.lsn < lsn) → (overlaid p lsn rs h).body ≡ by_home p s lsn rs h.body
by_stamp p s lsn [] h low which = refl
by_stamp p s lsn (r ∷ rs) h low which =
    ⊎_elim
    (λ (i : GoesIn p lsn r h).
    let g : PageHeld = record { lsn = lsn; body = changed_by r h.body } in
    let above = i.above in
    ap (λ (x : PageHeld). (overlaid p (lsn + 1) rs x).body) i.is ∙ by_stamp p s (lsn + 1) rs g (omega (arith, low, above)) (inr (omega arith))
    ∙ ap (by_home p s (lsn + 1) rs) (sym (choose_first (touches r p) (nat_lt s lsn) (changed_by r h.body) h.body i.is_on (lt-ltb s lsn (omega (arith, low, above))))))
    (λ (o : StaysOut p lsn r h).
    let not_above : touches r p ≡ true → nat_lt s lsn ≡ false = λ is_on. let out = o.out is_on in le-ltb s lsn (⊎_elim (λ (e : s ≡ h.lsn). omega (arith, e, out)) (λ (l : h.lsn < lsn). omega (arith, l, out)) which) in
    let next : (s ≡ h.lsn) ⊎ (h.lsn < lsn + 1) = ⊎_elim (λ (e : s ≡ h.lsn). inl e) (λ (l : h.lsn < lsn). inr (omega (arith, l))) which in
    ap (λ (x : PageHeld). (overlaid p (lsn + 1) rs x).body) o.is ∙ by_stamp p s (lsn + 1) rs h low next
    ∙ ap (by_home p s (lsn + 1) rs) (sym (choose_second (touches r p) (nat_lt s lsn) (changed_by r h.body) h.body not_above)))
    (in_or_out p lsn r h)

-- So a page of an image is its home, overlaid in order by each record with a greater LSN than the home's stamp.
pub as_said : (p first : ℕ) (rs : List Record) (h : PageHeld) → (overlaid p first rs h).body ≡ by_home p h.lsn first rs h.body
as_said p first rs h = by_stamp p h.lsn first rs h (omega arith) (inl refl)
