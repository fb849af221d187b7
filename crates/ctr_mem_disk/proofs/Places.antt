-- Bytes by their place.
use Rattle.std.proofs.Common.{◌≡◌, ◌⊎◌, inl, inr, ⊎_elim, ℕ, zero, suc, ◌+◌, ◌-◌, ◌/◌, ◌%◌, ◌<◌, ◌≤◌, max, Bool, true, false, cond, Option, None, subst, List, [], ◌∷◌, ◌++◌, length, take, drop, replicate, get_or, refl, sym, ◌∙◌, ap, arith, length-append, length-take, length-drop}
use Rattle.std.proofs.lemmas.List.{length-replicate, get_or-replicate, get_or-drop, get_or-take, get_or_past, get_or_append_left, get_or-append-add, get_or-append_right}
use Rattle.std.proofs.lemmas.Bool.Decides.{leb_tells}
use Rattle.std.proofs.Math.Dec.{leb}
use Rattle.ctr_disk.specs.Image.{section, written}
use Rattle.ctr_mem_disk.specs.Blocks.{Blocks, byte_in, bytes_from, IsBlankFrom, Puts, HasBlocksFor, KeepsBlocks}
use Rattle.std.specs.Prelude.{unwrap_or, IsSome, filter}
use Rattle.std.specs.Map.{lookup}
use Rattle.std.specs.BTreeMap.{get, is_at}
use Rattle.std.specs.Ordering.{nat_cmp, is_gt}
use Rattle.std.specs.Cmp.{nat_cmp_is, unsigned_tied}
use Rattle.std.specs.declared.cmp.Ordering.TheVariants.{Less, Equal, Greater}
use Rattle.std.proofs.lemmas.Map.Entries.{lookup-filter-keys}
use Rattle.std.proofs.lemmas.Bool.{eqb-true}
use Rattle.ctr_disk.specs.TornLaws.{length-written}

pub below_or_past : (k n : ℕ) → (k < n) ⊎ (n ≤ k)
below_or_past k n = ⊎_elim (λ (low : (leb n k ≡ true) × (n ≤ k)). inr low.1) (λ (high : (leb n k ≡ false) × (k < n)). inl high.1) (leb_tells n k)

-- a list of zeros
pub zero_places : (n i : ℕ) → get_or (replicate n zero) i zero ≡ zero
zero_places n i = ⊎_elim (λ (low : i < n). get_or-replicate n i zero zero low) (λ (past : n ≤ i). get_or_past (replicate n 0) i 0 (omega (arith, past, length-replicate {A = ℕ} n 0))) (below_or_past i n)

pub all_places : (l : List ℕ) → ((k : ℕ) → k < length l → get_or l k 0 ≡ 0) → (i : ℕ) → get_or l i 0 ≡ 0
all_places l zeros i = ⊎_elim (λ (low : i < length l). zeros i low) (λ (past : length l ≤ i). get_or_past l i 0 past) (below_or_past i (length l))

-- ---- the bytes at places

pub length-bytes_from : (f : ℕ → ℕ) (at n : ℕ) → length (bytes_from f at n) ≡ n
length-bytes_from f at zero = refl
length-bytes_from f at (suc n) = ap suc (length-bytes_from f (at + 1) n)

pub get_or-bytes_from : (f : ℕ → ℕ) (at n i : ℕ) → i < n → get_or (bytes_from f at n) i 0 ≡ f (at + i)
get_or-bytes_from f at zero i low = absurd (omega (arith, low))
get_or-bytes_from f at (suc n) zero low = let e : at ≡ at + 0 = omega arith in ap f e
get_or-bytes_from f at (suc n) (suc i) low =
    let e : (at + 1) + i ≡ at + suc i = omega arith in
    get_or-bytes_from f (at + 1) n i (omega (arith, low)) ∙ ap f e

-- the bytes from the first place on, of which none behind the end isn't 0
pub place_of : (f : ℕ → ℕ) (len i : ℕ) → IsBlankFrom len f → get_or (bytes_from f 0 len) i 0 ≡ f i
place_of f len i blank =
    ⊎_elim (λ (low : i < len). let e : 0 + i ≡ i = omega arith in get_or-bytes_from f 0 len i low ∙ ap f e)
    (λ (past : len ≤ i). get_or_past (bytes_from f 0 len) i 0 (omega (arith, past, length-bytes_from f 0 len)) ∙ sym (blank i past)) (below_or_past i len)

pub same_places : (f g : ℕ → ℕ) (at n : ℕ) → ((i : ℕ) → at ≤ i → i < at + n → f i ≡ g i) → bytes_from f at n ≡ bytes_from g at n
same_places f g at zero same = refl
same_places f g at (suc n) same =
    ap (λ (x : ℕ). x ∷ bytes_from f (at + 1) n) (same at (omega arith) (omega arith))
    ∙ ap (λ (l : List ℕ). g at ∷ l) (same_places f g (at + 1) n (λ i low high. same i (omega (arith, low)) (omega (arith, high))))

-- a list that has these bytes
pub list_at : (l : List ℕ) (f : ℕ → ℕ) (at : ℕ) → ((k : ℕ) → k < length l → get_or l k 0 ≡ f (at + k)) → l ≡ bytes_from f at (length l)
list_at [] f at has = refl
list_at (x ∷ l) f at has =
    let e : at + 0 ≡ at = omega arith in
    ap (λ (y : ℕ). y ∷ l) (has 0 (omega arith) ∙ ap f e)
    ∙ ap (λ (r : List ℕ). f at ∷ r) (list_at l f (at + 1) (λ k low. let s : at + suc k ≡ (at + 1) + k = omega arith in has (suc k) (omega (arith, low)) ∙ ap f s))

section_places : (at n : ℕ) (l : List ℕ) → section at n l ≡ bytes_from (λ i. get_or l i 0) at n
section_places at zero l = refl
section_places at (suc n) l = ap (λ (r : List ℕ). get_or l at 0 ∷ r) (section_places (at + 1) n l)

-- a read of the bytes from the first place on
pub section_of : (f : ℕ → ℕ) (len at n : ℕ) → IsBlankFrom len f → section at n (bytes_from f 0 len) ≡ bytes_from f at n
section_of f len at n blank =
    let l = bytes_from f 0 len in
    section_places at n l ∙ same_places (λ i. get_or l i 0) f at n (λ i low high. place_of f len i blank)

pub read_of : (f : ℕ → ℕ) (len at : ℕ) (into : List ℕ) → IsBlankFrom len f → ((k : ℕ) → k < length into → get_or into k 0 ≡ f (at + k)) → into ≡ section at (length into) (bytes_from f 0 len)
read_of f len at into blank has = list_at into f at has ∙ sym (section_of f len at (length into) blank)

-- ---- a write

padded_place : (o : List ℕ) (n k : ℕ) → get_or (o ++ replicate n 0) k 0 ≡ get_or o k 0
padded_place o n k =
    ⊎_elim (λ (low : k < length o). get_or_append_left o (replicate n 0) 0 k low)
    (λ (past : length o ≤ k). get_or-append_right o (replicate n 0) (length o) k 0 refl past ∙ zero_places n (k - length o) ∙ sym (get_or_past o k 0 past)) (below_or_past k (length o))

module _ (at : ℕ) (w o : List ℕ) where
  abbrev front : List ℕ
  front = take at (o ++ replicate at 0)

  length-front : length front ≡ at
  length-front = omega (arith, length-take at (o ++ replicate at 0), length-append o (replicate at 0), length-replicate {A = ℕ} at 0)

  length-put : length (front ++ w) ≡ at + length w
  length-put = omega (arith, length-front, length-append front w)

  written_inside : (k : ℕ) → k < length w → get_or (written at w o) (at + k) 0 ≡ get_or w k 0
  written_inside k low =
      let place : at + k ≡ length front + k = omega (arith, length-front) in
      get_or_append_left (front ++ w) (drop (at + length w) o) 0 (at + k) (omega (arith, low, length-put))
      ∙ ap (λ (i : ℕ). get_or (front ++ w) i 0) place ∙ get_or-append-add front w k 0

  written_below : (i : ℕ) → i < at → get_or (written at w o) i 0 ≡ get_or o i 0
  written_below i low =
      get_or_append_left (front ++ w) (drop (at + length w) o) 0 i (omega (arith, low, length-put))
      ∙ get_or_append_left front w 0 i (omega (arith, low, length-front)) ∙ get_or-take at (o ++ replicate at 0) i 0 low ∙ padded_place o at i

  written_behind : (i : ℕ) → at + length w ≤ i → get_or (written at w o) i 0 ≡ get_or o i 0
  written_behind i past =
      let e = at + length w in
      let place : e + (i - e) ≡ i = omega (arith, past) in
      get_or-append_right (front ++ w) (drop e o) e i 0 length-put past ∙ get_or-drop e o (i - e) 0 ∙ ap (λ (j : ℕ). get_or o j 0) place

  -- the byte at each place after a write, where this is so before it
  written_place : (f g : ℕ → ℕ) → Puts at w f g → ((i : ℕ) → get_or o i 0 ≡ f i) → (i : ℕ) → get_or (written at w o) i 0 ≡ g i
  written_place f g puts was i =
      ⊎_elim (λ (low : i < at). written_below i low ∙ was i ∙ sym (puts.below i low))
      (λ (from : at ≤ i). ⊎_elim
      (λ (inside : i < at + length w).
      let k = i - at in
      let place : at + k ≡ i = omega (arith, from) in
      let low : k < length w = omega (arith, inside, from) in
      ap (λ (j : ℕ). get_or (written at w o) j 0) (sym place) ∙ written_inside k low ∙ sym (puts.inside k low) ∙ ap g place)
      (λ (past : at + length w ≤ i). written_behind i past ∙ was i ∙ sym (puts.behind i past)) (below_or_past i (at + length w)))
      (below_or_past i at)

module _ (f g : ℕ → ℕ) (len at : ℕ) (w : List ℕ) (blank : IsBlankFrom len f) (puts : Puts at w f g) where
  -- what the bytes are after a write
  pub written_of : bytes_from g 0 (max len (at + length w)) ≡ written at w (bytes_from f 0 len)
  written_of =
      let o = bytes_from f 0 len in
      let l = written at w o in
      let size : length l ≡ max len (at + length w) = omega (arith, length-written at w o, length-bytes_from f 0 len) in
      ap (λ (n : ℕ). bytes_from g 0 n) (sym size) ∙ sym (list_at l g 0 (λ k low. let e : 0 + k ≡ k = omega arith in written_place at w o f g puts (λ i. place_of f len i blank) k ∙ ap g (sym e)))

  -- and behind its end there are none
  pub blank_of : IsBlankFrom (max len (at + length w)) g
  blank_of i past = puts.behind i (omega (arith, past)) ∙ blank i (omega (arith, past))

-- what the bytes are after their length was set
pub cut_of : (f g : ℕ → ℕ) (len n : ℕ) → IsBlankFrom len f → ((i : ℕ) → i < n → g i ≡ f i) → bytes_from g 0 n ≡ section 0 n (bytes_from f 0 len)
cut_of f g len n blank same = same_places g f 0 n (λ i low high. same i (omega (arith, high))) ∙ sym (section_of f len 0 n blank)

-- ---- bytes that are put piece by piece

-- of no bytes
pub put_none : (at : ℕ) (w : List ℕ) (f : ℕ → ℕ) → Puts at (take 0 w) f f
put_none at w f = record { inside = λ k low. absurd (omega (arith, low)); below = λ i low. refl; behind = λ i past. refl }

module _ (at done n : ℕ) (w p : List ℕ) (is : p ≡ take n (drop done w)) (fits : done + n ≤ length w) where
  pub length-next : length p ≡ n
  length-next = ap length is ∙ omega (arith, fits, length-take n (drop done w), length-drop done w)

  pub next_place : (k : ℕ) → k < n → get_or p k 0 ≡ get_or w (done + k) 0
  next_place k low = ap (λ (l : List ℕ). get_or l k 0) is ∙ get_or-take n (drop done w) k 0 low ∙ get_or-drop done w k 0

  pub put_more : (f g h : ℕ → ℕ) → Puts at (take done w) f g → Puts (at + done) p g h → Puts at (take (done + n) w) f h
  put_more f g h first next =
      let few = length-take done w in
      let more = length-take (done + n) w in
      record {
        inside = λ k low. ⊎_elim
            (λ (early : k < done).
            next.below (at + k) (omega (arith, early)) ∙ first.inside k (omega (arith, early, few, fits)) ∙ get_or-take done w k 0 early
            ∙ sym (get_or-take (done + n) w k 0 (omega (arith, early))))
            (λ (late : done ≤ k).
            let j = k - done in
            let place : at + k ≡ (at + done) + j = omega (arith, late) in
            let back : done + j ≡ k = omega (arith, late) in
            let inside : j < n = omega (arith, late, low, more) in
            ap h place ∙ next.inside j (omega (arith, inside, length-next)) ∙ next_place j inside ∙ ap (λ (i : ℕ). get_or w i 0) back
            ∙ sym (get_or-take (done + n) w k 0 (omega (arith, low, more))))
            (below_or_past k done);
        below = λ i low. next.below i (omega (arith, low)) ∙ first.below i low;
        behind = λ i past. next.behind i (omega (arith, past, more, length-next, fits)) ∙ first.behind i (omega (arith, past, more, few, fits));
      }

  pub room_more : (old new : Blocks) → HasBlocksFor at (take done w) old → KeepsBlocks old new → HasBlocksFor (at + done) p new → HasBlocksFor at (take (done + n) w) new
  room_more old new had keeps has k low other =
      let few = length-take done w in
      let more = length-take (done + n) w in
      let here : get_or (take (done + n) w) k 0 ≡ get_or w k 0 = get_or-take (done + n) w k 0 (omega (arith, low, more)) in
      ⊎_elim
      (λ (early : k < done). keeps ((at + k) / 4096) (had k (omega (arith, early, few, fits)) (λ none. other (here ∙ sym (get_or-take done w k 0 early) ∙ none))))
      (λ (late : done ≤ k).
      let j = k - done in
      let place : (at + done) + j ≡ at + k = omega (arith, late) in
      let back : done + j ≡ k = omega (arith, late) in
      let inside : j < n = omega (arith, late, low, more) in
      subst (λ (i : ℕ). IsSome (get nat_cmp new (i / 4096))) place
      (has j (omega (arith, inside, length-next)) (λ none. other (here ∙ ap (λ (i : ℕ). get_or w i 0) (sym back) ∙ sym (next_place j inside) ∙ none))))
      (below_or_past k done)

-- ---- blocks from a number on go

gt_below : (e q : ℕ) → q < e → is_gt (nat_cmp e q) ≡ true
gt_below e q low = ap is_gt (sym (nat_cmp_is e q Greater low))

gt_from : (e q : ℕ) → e ≤ q → is_gt (nat_cmp e q) ≡ false
gt_from e q from =
    ⊎_elim (λ (below : e < q). ap is_gt (sym (nat_cmp_is e q Less below)))
    (λ (past : q ≤ e). let same : e ≡ q = omega (arith, from, past) in ap is_gt (sym (nat_cmp_is e q Equal same))) (below_or_past e q)

found_same : (q k : ℕ) → is_at (nat_cmp q) k ≡ true → q ≡ k
found_same q k is = eqb-true q k (sym (unsigned_tied q k) ∙ is)

module _ (old new : Blocks) (e : ℕ) (is : new.entries ≡ filter (λ (x : ℕ × List ℕ). is_gt (nat_cmp e x.0)) old.entries) (i : ℕ) where
  abbrev q : ℕ
  q = i / 4096

  looked : (b : Bool) → is_gt (nat_cmp e q) ≡ b → get nat_cmp new q ≡ cond b (get nat_cmp old q) None
  looked b gt =
      ap (λ (es : List (ℕ × List ℕ)). lookup (is_at (nat_cmp q)) es) is
      ∙ lookup-filter-keys (is_at (nat_cmp q)) (λ k. is_gt (nat_cmp e k)) b (λ k found. ap (λ (j : ℕ). is_gt (nat_cmp e j)) (sym (found_same q k found)) ∙ gt) old.entries

  pub stays_below : i / 4096 < e → byte_in new i ≡ byte_in old i
  stays_below low = ap (λ (o : Option (List ℕ)). get_or (unwrap_or o []) (i % 4096) 0) (looked true (gt_below e q low))

  pub gone_from : e ≤ i / 4096 → byte_in new i ≡ 0
  gone_from from = ap (λ (o : Option (List ℕ)). get_or (unwrap_or o []) (i % 4096) 0) (looked false (gt_from e q from))
