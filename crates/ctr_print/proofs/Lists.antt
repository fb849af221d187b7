-- A list up to the next item.
use Rattle.std.proofs.Common.{◌≡◌, ◌<◌, ◌+◌, List, ℕ, [], ◌∷◌, ◌++◌, length, take, get_or, refl, sym, ◌∙◌, ap, append_assoc, arith, codes, cond, Bool, true, false}
use Rattle.std.proofs.lemmas.List.{append-nil, take_more}
use Rattle.std.specs.List.{flat_map, count_by}
use Rattle.std.proofs.lemmas.List.Recursion.{is_count_by}
use Rattle.ctr_model.specs.types_Value.{Value}
use Rattle.ctr_model.specs.types_Entry.{Entry}
use Rattle.ctr_model.specs.Tape.{is_answer, is_refused}
use Rattle.ctr_model.specs.Texts.{value_text, values_text, answers, refusals}
use Rattle.ctr_print.specs.Pieces.{Piece, piece_text, joined}

pub next : {A : Type 0} (xs : List A) (i : ℕ) (x : A) → x ≡ get_or xs i x → i < length xs → take i xs ++ x ∷ [] ≡ take (i + 1) xs
next {A} xs i x is below = ap (λ (y : A). take i xs ++ y ∷ []) is ∙ sym (take_more xs i x below)

pub flat_map-push : {A : Type 0} (f : A → List ℕ) (xs : List A) (x : A) → flat_map f (xs ++ x ∷ []) ≡ flat_map f xs ++ f x
flat_map-push f [] x = append-nil (f x)
flat_map-push f (y ∷ ys) x = ap (λ (l : List ℕ). f y ++ l) (flat_map-push f ys x) ∙ sym (append_assoc (f y) (flat_map f ys) (f x))

pub flat_map-next : {A : Type 0} (f : A → List ℕ) (xs : List A) (i : ℕ) (x : A) → x ≡ get_or xs i x → i < length xs → flat_map f (take i xs) ++ f x ≡ flat_map f (take (i + 1) xs)
flat_map-next f xs i x is below = sym (flat_map-push f (take i xs) x) ∙ ap (flat_map f) (next xs i x is below)

-- pieces behind a text, one after another or all at once
pub joined_is : (text : List ℕ) (xs : List Piece) → text ++ flat_map piece_text xs ≡ joined text xs
joined_is text [] = append-nil text
joined_is text (x ∷ xs) = sym (append_assoc text (piece_text x) (flat_map piece_text xs)) ∙ joined_is (text ++ piece_text x) xs

counted : (b : Bool) (n : ℕ) → cond b 1 0 + n ≡ cond b (1 + n) n
counted true n = refl
counted false n = omega arith

-- the values with a comma and a blank between are the first, and then each behind them
pub values_text-cons : (v : Value) (vs : List Value) → value_text v ++ flat_map (λ w. codes ", " ++ value_text w) vs ≡ values_text (v ∷ vs)
values_text-cons v [] = append-nil (value_text v)
values_text-cons v (w ∷ vs) = ap (λ (l : List ℕ). value_text v ++ (codes ", " ++ l)) (values_text-cons w vs) ∙ sym (append_assoc (value_text v) (codes ", ") (values_text (w ∷ vs)))

pub count_answers : (es : List Entry) → count_by (λ (e : Entry). is_answer e.reply) es ≡ answers es
count_answers es = sym (is_count_by answers (λ (e : Entry). is_answer e.reply) refl (λ e es. counted (is_answer e.reply) (answers es)) es)

pub count_refusals : (es : List Entry) → count_by (λ (e : Entry). is_refused e.reply) es ≡ refusals es
count_refusals es = sym (is_count_by refusals (λ (e : Entry). is_refused e.reply) refl (λ e es. counted (is_refused e.reply) (refusals es)) es)
