-- Bytes are a script, or they are refused.
use Rattle.std.proofs.Common.{◌≡◌, ◌⊎◌, ℕ, ◌+◌, List, [], ◌∷◌, ◌++◌, length, refl, sym, ap, ◌∙◌, subst, inl, inr, arith}
use Rattle.std.specs.List.{AllByRecursion}
use Rattle.std.proofs.lemmas.Bool.{cases_lt}
use Rattle.ctr_types.specs.declared.statement.Line.{Line}
use Rattle.ctr_model.specs.Grammar.{IsBlank}
use Rattle.ctr_model.specs.Language.{SpellsLine}
use Rattle.ctr_model.specs.Places.{Says}
use Rattle.ctr_model.specs.Lines.{lines_of, IsComment, IsPlain, IsPassedOver, IsWrongAt, in_comment, in_line, AllSay, IsWritten, IsRefusedIn}
use Rattle.ctr_script.proofs.LineLemmas.{one_front, no_blank_dash}
use Rattle.ctr_script.proofs.OneScript.{LineFacts}

-- ---- tests

same_or : (m n : ℕ) → (m ≡ n) ⊎ (m ≡ n → ⊥)
same_or m n =
    elim (cases_lt m n) [
      | inl less ↦ inr (λ (e : m ≡ n). absurd (omega arith))
      | inr least ↦ elim (cases_lt n m) [ inl more ↦ inr (λ (e : m ≡ n). absurd (omega arith)) | inr most ↦ inl (omega arith) ]
    ]

blank_or : (c : ℕ) → IsBlank c ⊎ (IsBlank c → ⊥)
blank_or c =
    elim (same_or c 32) [
      | inl e ↦ inl (inl e)
      | inr other ↦ elim (same_or c 9) [ inl e ↦ inl (inr e) | inr neither ↦ inr (λ is. elim is [ inl e ↦ other e | inr e ↦ neither e ]) ]
    ]

plain_or : (c : ℕ) → IsPlain c ⊎ (IsPlain c → ⊥)
plain_or c =
    elim (same_or c 9) [
      | inl e ↦ inl (inr e)
      | inr other ↦ elim (cases_lt c 32) [
        | inl low ↦ inr (λ is. elim is [ inl e ↦ absurd (omega (arith, e.0)) | inr e ↦ other e ])
        | inr least ↦ elim (cases_lt 126 c) [
          | inl high ↦ inr (λ is. elim is [ inl e ↦ absurd (omega (arith, e.1)) | inr e ↦ other e ])
          | inr most ↦ inl (inl (least, most))
        ]
      ]
    ]

-- a byte without the property, behind others that have it
record FirstWithout (P : ℕ → Type 0) (line : List ℕ) : Type 0 where
  front : List ℕ
  rest : List ℕ
  byte : ℕ
  split : line ≡ front ++ byte ∷ rest
  before : AllByRecursion P front
  without : P byte → ⊥

all_or_first : (P : ℕ → Type 0) → ((c : ℕ) → P c ⊎ (P c → ⊥)) → (line : List ℕ) → AllByRecursion P line ⊎ FirstWithout P line
all_or_first P test [] = inl tt
all_or_first P test (c ∷ cs) =
    elim (test c) [
      | inl has ↦ elim (all_or_first P test cs) [
        | inl all ↦ inl (has, all)
        | inr w ↦ inr (record { front = c ∷ w.front; rest = w.rest; byte = w.byte; split = ap (λ l. c ∷ l) w.split; before = (has, w.before); without = w.without })
      ]
      | inr without ↦ inr (record { front = []; rest = cs; byte = c; split = refl; before = tt; without = without })
    ]

not_all : (P : ℕ → Type 0) (front rest : List ℕ) (c : ℕ) → AllByRecursion P (front ++ c ∷ rest) → P c
not_all P [] rest c all = all.0
not_all P (x ∷ front) rest c all = not_all P front rest c all.1

dash_or : (rest : List ℕ) → ((more : List ℕ) × (rest ≡ 45 ∷ more)) ⊎ ((more : List ℕ) → rest ≡ 45 ∷ more → ⊥)
dash_or [] = inr (λ more e. cc)
dash_or (c ∷ cs) = elim (same_or c 45) [ inl e ↦ inl (cs, ap (λ x. x ∷ cs) e) | inr other ↦ inr (λ more e. let h : c ≡ 45 = cc in other h) ]

comment_from : (line : List ℕ) (w : FirstWithout IsBlank line) → IsComment line → (w.byte ≡ 45) × ((more : List ℕ) × (w.rest ≡ 45 ∷ more))
comment_from line w is =
    let same = one_front w.front is.0 w.byte 45 w.rest (45 ∷ is.1) (sym w.split ∙ is.2) w.before is.3 w.without no_blank_dash in
    (same.0, (is.1, same.1))

comment_or : (line : List ℕ) → FirstWithout IsBlank line → IsComment line ⊎ (IsComment line → ⊥)
comment_or line w =
    elim (same_or w.byte 45) [
      | inl first ↦ elim (dash_or w.rest) [
        | inl more ↦ inl (w.front, more.0, w.split ∙ ap (λ x. w.front ++ x ∷ w.rest) first ∙ ap (λ l. w.front ++ 45 ∷ l) more.1, w.before)
        | inr other ↦ inr (λ is. let c = comment_from line w is in other c.1.0 c.1.1)
      ]
      | inr other ↦ inr (λ is. other (comment_from line w is).0)
    ]

-- ---- a line

abbrev LineIs : List ℕ → Type 0
LineIs line = IsPassedOver line ⊎ (((l : Line) × Says SpellsLine line l) ⊎ ((at : ℕ) × IsWrongAt SpellsLine line at))

other_line : LineFacts → (line : List ℕ) → (AllByRecursion IsBlank line → ⊥) → (IsComment line → ⊥) → LineIs line
other_line f line no_blank no_comment =
    elim (f.one_of_both line) [ inl says ↦ inr (inl says) | inr goes ↦ inr (inr (goes.0, in_line no_blank no_comment goes.1)) ]

comment_line : (line : List ℕ) → IsComment line → LineIs line
comment_line line is =
    elim (all_or_first IsPlain plain_or line) [
      | inl plain ↦ inl (inr (is, plain))
      | inr w ↦ inr (inr (length w.front + 1, in_comment is w.front w.rest w.byte w.split w.before w.without refl))
    ]

line_is : LineFacts → (line : List ℕ) → LineIs line
line_is f line =
    elim (all_or_first IsBlank blank_or line) [
      | inl blank ↦ inl (inl blank)
      | inr w ↦ elim (comment_or line w) [
        | inl is ↦ comment_line line is
        | inr no_comment ↦ other_line f line (λ all. w.without (not_all IsBlank w.front w.rest w.byte (subst (AllByRecursion IsBlank) w.split all))) no_comment
      ]
    ]

-- ---- a script

record FirstWrong (lines : List (List ℕ)) : Type 0 where
  front : List (List ℕ)
  said : List Line
  wrong : List ℕ
  rest : List (List ℕ)
  at : ℕ
  split : lines ≡ front ++ wrong ∷ rest
  before : AllSay SpellsLine front said
  place : IsWrongAt SpellsLine wrong at

abbrev AllOrWrong : List (List ℕ) → Type 0
AllOrWrong lines = ((ls : List Line) × AllSay SpellsLine lines ls) ⊎ FirstWrong lines

behind_passed : (line : List ℕ) (lines : List (List ℕ)) → IsPassedOver line → AllOrWrong lines → AllOrWrong (line ∷ lines)
behind_passed line lines passed (inl all) = inl (all.0, inl (passed, all.1))
behind_passed line lines passed (inr w) = inr (record { front = line ∷ w.front; said = w.said; wrong = w.wrong; rest = w.rest; at = w.at; split = ap (λ l. line ∷ l) w.split; before = inl (passed, w.before); place = w.place })

behind_said : (line : List ℕ) (lines : List (List ℕ)) (l : Line) → Says SpellsLine line l → AllOrWrong lines → AllOrWrong (line ∷ lines)
behind_said line lines l says (inl all) = inl (l ∷ all.0, inr (l, all.0, refl, says, all.1))
behind_said line lines l says (inr w) =
    inr (record { front = line ∷ w.front; said = l ∷ w.said; wrong = w.wrong; rest = w.rest; at = w.at; split = ap (λ x. line ∷ x) w.split; before = inr (l, w.said, refl, says, w.before); place = w.place })

all_or_wrong : LineFacts → (lines : List (List ℕ)) → AllOrWrong lines
all_or_wrong f [] = inl ([], refl)
all_or_wrong f (line ∷ lines) =
    elim (line_is f line) [
      | inl passed ↦ behind_passed line lines passed (all_or_wrong f lines)
      | inr other ↦ elim other [
        | inl says ↦ behind_said line lines says.0 says.1 (all_or_wrong f lines)
        | inr goes ↦ inr (record { front = []; said = []; wrong = line; rest = lines; at = goes.0; split = refl; before = refl; place = goes.1 })
      ]
    ]

pub script_or_refused : LineFacts → (bytes : List ℕ) → ((ls : List Line) × IsWritten SpellsLine bytes ls) ⊎ ((line at : ℕ) × IsRefusedIn SpellsLine bytes line at)
script_or_refused f bytes =
    elim (all_or_wrong f (lines_of bytes)) [
      | inl all ↦ inl all
      | inr w ↦ inr (length w.front + 1, w.at, record { front = w.front; said = w.said; wrong = w.wrong; rest = w.rest; split = w.split; before = w.before; number = refl; place = w.place })
    ]
