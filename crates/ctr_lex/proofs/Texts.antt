-- Where a text ends.
use Rattle.std.proofs.Common.{◌≡◌, ◌⊎◌, ℕ, ◌≤◌, Bool, true, false, cond, not, ◌&&◌, ◌||◌, if◌then◌else◌, eqb, nat_le, ◌==◌, List, [], ◌∷◌, ◌++◌, length, drop, None, Some, refl, sym, ap, ◌∙◌, subst, inl, inr, ⊎_elim, arith, eqb-true, leb-true, le-leb, lit≤}
use Rattle.std.proofs.lemmas.Bool.{and_parts, and_from, cases_Bool}
use Rattle.std.specs.Prelude.{Option}
use Rattle.std.specs.List.{AllByRecursion, flat_map}
use Rattle.ctr_model.specs.Texts.{doubled}
use Rattle.ctr_model.specs.Grammar.{IsPrintable}

-- What stands behind a text, from within it: closed says that a quote stands before the bytes that
-- isn't the second of two, and last is what stood behind the last such quote.
abbrev pub text_rest : Bool → Option (List ℕ) → List ℕ → Option (List ℕ)
text_rest closed last [] = last
text_rest closed last (c ∷ cs) =
    if (closed && not (c == 39)) || not (nat_le 32 c && nat_le c 126) then last else
    if (c == 39) && not closed then text_rest true (Some cs) cs else
    text_rest false last cs

-- what stands behind so many bytes
abbrev pub behind : List ℕ → Option ℕ → Option (List ℕ)
behind bytes None = None
behind bytes (Some n) = Some (drop n bytes)

-- the bytes from within a text go on to its end, behind which stands rest
abbrev pub Closes : List ℕ → List ℕ → Type 0
Closes bytes rest = (inner : List ℕ) × (bytes ≡ flat_map doubled inner ++ 39 ∷ rest) × AllByRecursion IsPrintable inner

-- the same behind a quote, which the first byte doubles
abbrev Doubles : List ℕ → List ℕ → Type 0
Doubles bytes rest = (others : List ℕ) × (bytes ≡ 39 ∷ others) × Closes others rest

abbrev Goes : Bool → List ℕ → List ℕ → Type 0
Goes true bytes rest = Doubles bytes rest
Goes false bytes rest = Closes bytes rest

abbrev is_printed : ℕ → Bool
is_printed c = nat_le 32 c && nat_le c 126

printed : (c : ℕ) → is_printed c ≡ true → IsPrintable c
printed c is = let both = and_parts (nat_le 32 c) (nat_le c 126) is in (leb-true 32 c both.0, leb-true c 126 both.1)

is_printed-true : (c : ℕ) → IsPrintable c → is_printed c ≡ true
is_printed-true c is = and_from (nat_le 32 c) (nat_le c 126) (le-leb 32 c is.0) (le-leb c 126 is.1)

single : (c : ℕ) → eqb c 39 ≡ false → doubled c ≡ c ∷ []
single c is = rw is refl

-- a byte in front of a text's end
Closes-single : (c : ℕ) (cs rest : List ℕ) → eqb c 39 ≡ false → IsPrintable c → Closes cs rest → Closes (c ∷ cs) rest
Closes-single c cs rest other is (inner, e, all) =
    let one : flat_map doubled (c ∷ inner) ≡ c ∷ flat_map doubled inner = ap (λ (l : List ℕ). l ++ flat_map doubled inner) (single c other) in
    let behind : c ∷ cs ≡ c ∷ (flat_map doubled inner ++ 39 ∷ rest) = ap (λ (l : List ℕ). c ∷ l) e in
    (c ∷ inner, behind ∙ ap (λ (l : List ℕ). l ++ 39 ∷ rest) (sym one), (is, all))

-- a quote: the end, or the first of two
Closes-quote : (c : ℕ) (cs rest : List ℕ) → c ≡ 39 → (cs ≡ rest) ⊎ Doubles cs rest → Closes (c ∷ cs) rest
Closes-quote c cs rest quote found =
    elim found [
      | inl e ↦ let is : c ∷ cs ≡ 39 ∷ rest = cc in ([], is, tt)
      | inr w ↦
          let first : cs ≡ 39 ∷ w.0 = w.1 in
          let behind : w.0 ≡ flat_map doubled w.2.0 ++ 39 ∷ rest = w.2.1 in
          let is : c ∷ cs ≡ 39 ∷ (39 ∷ (flat_map doubled w.2.0 ++ 39 ∷ rest)) = cc in
          (39 ∷ w.2.0, is, ((lit≤ tt, lit≤ tt), w.2.2))
    ]

some_is : (x y : List ℕ) → Some x ≡ Some y → x ≡ y
some_is x y e = cc

open_step : (q p : Bool) (c : ℕ) (cs rest : List ℕ) (last : Option (List ℕ)) → q ≡ eqb c 39 → p ≡ is_printed c → ((closed : Bool) (before : Option (List ℕ)) → text_rest closed before cs ≡ Some rest → (before ≡ Some rest) ⊎ Goes closed cs rest) → cond ((false && not q) || not p) last (cond (q && not false) (text_rest true (Some cs) cs) (text_rest false last cs)) ≡ Some rest → (last ≡ Some rest) ⊎ Closes (c ∷ cs) rest
open_step true true c cs rest last is_q is_p goes e =
    ⊎_elim
    (λ (x : Some cs ≡ Some rest). inr (Closes-quote c cs rest (eqb-true c 39 (sym is_q)) (inl (some_is cs rest x))))
    (λ (w : Doubles cs rest). inr (Closes-quote c cs rest (eqb-true c 39 (sym is_q)) (inr w)))
    (goes true (Some cs) e)
open_step false true c cs rest last is_q is_p goes e =
    ⊎_elim (λ (x : last ≡ Some rest). inl x) (λ (w : Closes cs rest). inr (Closes-single c cs rest (sym is_q) (printed c (sym is_p)) w)) (goes false last e)
open_step q false c cs rest last is_q is_p goes e = inl e

closed_step : (q p : Bool) (c : ℕ) (cs rest : List ℕ) (last : Option (List ℕ)) → q ≡ eqb c 39 → ((closed : Bool) (before : Option (List ℕ)) → text_rest closed before cs ≡ Some rest → (before ≡ Some rest) ⊎ Goes closed cs rest) → cond ((true && not q) || not p) last (cond (q && not true) (text_rest true (Some cs) cs) (text_rest false last cs)) ≡ Some rest → (last ≡ Some rest) ⊎ Doubles (c ∷ cs) rest
closed_step true true c cs rest last is_q goes e =
    ⊎_elim (λ (x : last ≡ Some rest). inl x) (λ (w : Closes cs rest). inr (cs, ap (λ (d : ℕ). d ∷ cs) (eqb-true c 39 (sym is_q)), w)) (goes false last e)
closed_step true false c cs rest last is_q goes e = inl e
closed_step false p c cs rest last is_q goes e = inl e

text_sound : (closed : Bool) (bytes rest : List ℕ) (last : Option (List ℕ)) → text_rest closed last bytes ≡ Some rest → (last ≡ Some rest) ⊎ Goes closed bytes rest
text_sound closed [] rest last e = inl e
text_sound true (c ∷ cs) rest last e = closed_step (eqb c 39) (is_printed c) c cs rest last refl (λ closed before. text_sound closed cs rest before) e
text_sound false (c ∷ cs) rest last e = open_step (eqb c 39) (is_printed c) c cs rest last refl refl (λ closed before. text_sound closed cs rest before) e

-- what is found is a text's end
pub text_closes : (bytes rest : List ℕ) → text_rest false None bytes ≡ Some rest → Closes bytes rest
text_closes bytes rest e = ⊎_elim (λ (x : None ≡ Some rest). absurd (cc)) (λ (w : Closes bytes rest). w) (text_sound false bytes rest None e)

goes_single : (c : ℕ) (more : List ℕ) (last : Option (List ℕ)) → eqb c 39 ≡ false → IsPrintable c → text_rest false last (c ∷ more) ≡ text_rest false last more
goes_single c more last other is = rw (is_printed-true c is, other) refl

-- a text is gone over to its end
goes_on : (inner more : List ℕ) (last : Option (List ℕ)) → AllByRecursion IsPrintable inner → text_rest false last (flat_map doubled inner ++ 39 ∷ more) ≡ text_rest true (Some more) more
goes_on [] more last all = refl
goes_on (c ∷ inner) more last all =
    ⊎_elim
    (λ (quote : eqb c 39 ≡ true).
    subst
    (λ (d : ℕ). text_rest false last (flat_map doubled (d ∷ inner) ++ 39 ∷ more) ≡ text_rest true (Some more) more)
    (sym (eqb-true c 39 quote))
    (goes_on inner more (Some (39 ∷ (flat_map doubled inner ++ 39 ∷ more))) all.1))
    (λ (other : eqb c 39 ≡ false).
    ap (λ (l : List ℕ). text_rest false last ((l ++ flat_map doubled inner) ++ 39 ∷ more)) (single c other)
    ∙ goes_single c (flat_map doubled inner ++ 39 ∷ more) last other all.0
    ∙ goes_on inner more last all.1)
    (cases_Bool (eqb c 39))

choices : (a b : Bool) (x y z o : Option (List ℕ)) → cond a x (cond b y z) ≡ o → (x ≡ o) ⊎ ((y ≡ o) ⊎ (z ≡ o))
choices true b x y z o e = inl e
choices false true x y z o e = inr (inl e)
choices false false x y z o e = inr (inr e)

no_longer : (closed : Bool) (bytes rest m : List ℕ) → text_rest closed (Some m) bytes ≡ Some rest → length bytes ≤ length m → length rest ≤ length m
no_longer closed [] rest m e short = omega (arith, ap length (some_is m rest e))
no_longer closed (c ∷ cs) rest m e short =
    elim (choices ((closed && not (c == 39)) || not (is_printed c)) ((c == 39) && not closed) (Some m) (text_rest true (Some cs) cs) (text_rest false (Some m) cs) (Some rest) e) [
      | inl x ↦ omega (arith, ap length (some_is m rest x))
      | inr other ↦ elim other [
        | inl y ↦ omega (arith, no_longer true cs rest cs y (omega arith))
        | inr z ↦ no_longer false cs rest m z (omega arith)
      ]
    ]

never_none : (closed : Bool) (bytes m : List ℕ) → text_rest closed (Some m) bytes ≡ None → ⊥
never_none closed [] m e = cc
never_none closed (c ∷ cs) m e =
    elim (choices ((closed && not (c == 39)) || not (is_printed c)) ((c == 39) && not closed) (Some m) (text_rest true (Some cs) cs) (text_rest false (Some m) cs) None e) [
      | inl x ↦ cc
      | inr other ↦ elim other [ inl y ↦ never_none true cs cs y | inr z ↦ never_none false cs m z ]
    ]

-- no text goes further than to the end that is found
pub text_most : (bytes rest inner more : List ℕ) → text_rest false None bytes ≡ Some rest → bytes ≡ flat_map doubled inner ++ 39 ∷ more → AllByRecursion IsPrintable inner → length rest ≤ length more
text_most bytes rest inner more found is all =
    no_longer true more rest more (sym (goes_on inner more None all) ∙ ap (text_rest false None) (sym is) ∙ found) (omega arith)

-- where no end is found, there is no text
pub text_none : (bytes inner more : List ℕ) → text_rest false None bytes ≡ None → bytes ≡ flat_map doubled inner ++ 39 ∷ more → AllByRecursion IsPrintable inner → ⊥
text_none bytes inner more found is all = never_none true more more (sym (goes_on inner more None all) ∙ ap (text_rest false None) (sym is) ∙ found)
