-- A line is lexed in one way, and what its front is lexed as goes on.
use Rattle.std.proofs.Common.{◌≡◌, ℕ, ◌<◌, ◌≤◌, List, [], ◌∷◌, ◌++◌, length, refl, sym, ap, ◌∙◌, subst, ⊎_elim, append_assoc, append-nil, arith}
use Rattle.std.proofs.lemmas.Bool.{cases_lt}
use Rattle.std.specs.List.{AllByRecursion}
use Rattle.ctr_model.specs.Grammar.{IsBlank, IsToken, IsLongest, Lexes}
use Rattle.ctr_model.specs.Places.{NoneBegins, LexesTo}
use Rattle.ctr_lex.proofs.Lists.{split_front, All_append}
use Rattle.ctr_lex.proofs.ByFirst.{kind_of, no_empty_token, no_blank_first}

-- a byte stands first, and it is no blank
abbrev pub Begins : List ℕ → Type 0
Begins [] = ⊥
Begins (c ∷ cs) = IsBlank c → ⊥

pub token_begins : (t after : List ℕ) → IsToken t → Begins (t ++ after)
token_begins [] after is = absurd (no_empty_token is)
token_begins (c ∷ cs) after is = no_blank_first c cs (kind_of c cs is)

pub not_all_blank : (blanks after : List ℕ) → Begins after → AllByRecursion IsBlank (blanks ++ after) → ⊥
not_all_blank [] [] begins all = begins
not_all_blank [] (c ∷ after) begins all = begins all.0
not_all_blank (x ∷ blanks) after begins all = not_all_blank blanks after begins all.1

-- blanks end at the first byte that is none
pub one_front : (p q a b : List ℕ) → p ++ a ≡ q ++ b → AllByRecursion IsBlank p → AllByRecursion IsBlank q → Begins a → Begins b → a ≡ b
one_front [] [] a b e all_p all_q begins_a begins_b = e
one_front [] (y ∷ q) [] b e all_p all_q begins_a begins_b = absurd begins_a
one_front [] (y ∷ q) (c ∷ a) b e all_p all_q begins_a begins_b = let first : y ≡ c = cc in absurd (begins_a (subst IsBlank first all_q.0))
one_front (x ∷ p) [] a [] e all_p all_q begins_a begins_b = absurd begins_b
one_front (x ∷ p) [] a (c ∷ b) e all_p all_q begins_a begins_b = let first : x ≡ c = cc in absurd (begins_b (subst IsBlank first all_p.0))
one_front (x ∷ p) (y ∷ q) a b e all_p all_q begins_a begins_b = let tails : p ++ a ≡ q ++ b = cc in one_front p q a b tails all_p.1 all_q.1 begins_a begins_b

longest_at : (t u a b more : List ℕ) → u ≡ t ++ more → a ≡ more ++ b → IsToken u → IsLongest t a → (t ≡ u) × (a ≡ b)
longest_at t u a b [] longer behind is longest = (sym (longer ∙ append-nil t), behind)
longest_at t u a b (c ∷ more) longer behind is longest = absurd (longest (c ∷ more) b behind (omega arith) (subst IsToken longer is))

longest_below : (t u a b : List ℕ) → t ++ a ≡ u ++ b → length t ≤ length u → IsToken u → IsLongest t a → (t ≡ u) × (a ≡ b)
longest_below t u a b e short is longest =
    let found = split_front t u a b e short in
    longest_at t u a b found.0 found.1 found.2 is longest

one_longest : (t u a b : List ℕ) → t ++ a ≡ u ++ b → IsToken t → IsToken u → IsLongest t a → IsLongest u b → (t ≡ u) × (a ≡ b)
one_longest t u a b e is_t is_u longest_t longest_u =
    ⊎_elim
    (λ (below : length t < length u). longest_below t u a b e (omega arith) is_u longest_t)
    (λ (above : length u ≤ length t). let same = longest_below u t b a (sym e) above is_t longest_u in (sym same.0, sym same.1))
    (cases_lt (length t) (length u))

-- behind blanks, the longest token is the same one
pub first_token : (p q t u a b : List ℕ) → (p ++ t) ++ a ≡ (q ++ u) ++ b → AllByRecursion IsBlank p → AllByRecursion IsBlank q → IsToken t → IsToken u → IsLongest t a → IsLongest u b → (t ≡ u) × (a ≡ b)
first_token p q t u a b e all_p all_q is_t is_u longest_t longest_u =
    let regrouped : p ++ (t ++ a) ≡ q ++ (u ++ b) = sym (append_assoc p t a) ∙ e ∙ append_assoc q u b in
    let same = one_front p q (t ++ a) (u ++ b) regrouped all_p all_q (token_begins t a is_t) (token_begins u b is_u) in
    one_longest t u a b same is_t is_u longest_t longest_u

pub token_or_blanks : (bytes p t after : List ℕ) → bytes ≡ (p ++ t) ++ after → IsToken t → AllByRecursion IsBlank bytes → ⊥
token_or_blanks bytes p t after e is all = not_all_blank p (t ++ after) (token_begins t after is) (subst (AllByRecursion IsBlank) (e ∙ append_assoc p t after) all)

-- two lists of tokens that lex one line are equal
pub lexes_one : (bytes : List ℕ) (ts us : List (List ℕ)) → Lexes bytes ts → Lexes bytes us → ts ≡ us
lexes_one bytes [] [] a b = refl
lexes_one bytes [] (u ∷ us) a b = absurd (token_or_blanks bytes b.0 u b.1 b.2 b.4 a)
lexes_one bytes (t ∷ ts) [] a b = absurd (token_or_blanks bytes a.0 t a.1 a.2 a.4 b)
lexes_one bytes (t ∷ ts) (u ∷ us) a b =
    let same = first_token a.0 b.0 t u a.1 b.1 (sym a.2 ∙ b.2) a.3 b.3 a.4 b.4 a.5 b.5 in
    let others = lexes_one a.1 ts us a.6 (subst (λ (l : List ℕ). Lexes l us) (sym same.1) b.6) in
    let first : t ≡ u = same.0 in
    cc

-- one token more
pub LexesTo-push : (rest bytes blanks t after : List ℕ) (ts : List (List ℕ)) → LexesTo rest bytes ts → rest ≡ (blanks ++ t) ++ after → AllByRecursion IsBlank blanks → IsToken t → IsLongest t after → LexesTo after bytes (ts ++ t ∷ [])
LexesTo-push rest bytes blanks t after [] w e all is longest =
    let split : bytes ≡ w.0 ++ ((blanks ++ t) ++ after) = w.1 ∙ ap (λ (l : List ℕ). w.0 ++ l) e in
    let regrouped : w.0 ++ ((blanks ++ t) ++ after) ≡ ((w.0 ++ blanks) ++ t) ++ after = simp append_assoc in
    (w.0 ++ blanks, after, split ∙ regrouped, All_append IsBlank w.0 blanks w.2 all, is, longest, ([], refl, tt))
LexesTo-push rest bytes blanks t after (u ∷ us) w e all is longest = (w.0, w.1, w.2, w.3, w.4, w.5, LexesTo-push rest w.1 blanks t after us w.6 e all is longest)

-- blanks more
pub LexesTo-blanks : (rest bytes blanks after : List ℕ) (ts : List (List ℕ)) → LexesTo rest bytes ts → rest ≡ blanks ++ after → AllByRecursion IsBlank blanks → LexesTo after bytes ts
LexesTo-blanks rest bytes blanks after [] w e all =
    let split : bytes ≡ w.0 ++ (blanks ++ after) = w.1 ∙ ap (λ (l : List ℕ). w.0 ++ l) e in
    (w.0 ++ blanks, split ∙ sym (append_assoc w.0 blanks after), All_append IsBlank w.0 blanks w.2 all)
LexesTo-blanks rest bytes blanks after (u ∷ us) w e all = (w.0, w.1, w.2, w.3, w.4, w.5, LexesTo-blanks rest w.1 blanks after us w.6 e all)

-- where nothing is left, the line is lexed
pub LexesTo-all : (bytes : List ℕ) (ts : List (List ℕ)) → LexesTo [] bytes ts → Lexes bytes ts
LexesTo-all bytes [] w = subst (AllByRecursion IsBlank) (sym (w.1 ∙ append-nil w.0)) w.2
LexesTo-all bytes (t ∷ ts) w = (w.0, w.1, w.2, w.3, w.4, w.5, LexesTo-all w.1 ts w.6)

-- where no token begins at what is left, nothing lexes the line
pub LexesTo-none : (rest bytes : List ℕ) (ts us : List (List ℕ)) → LexesTo rest bytes ts → Begins rest → NoneBegins rest → Lexes bytes us → ⊥
LexesTo-none rest bytes [] [] w begins none l = not_all_blank w.0 rest begins (subst (AllByRecursion IsBlank) w.1 l)
LexesTo-none rest bytes [] (u ∷ us) w begins none l =
    let regrouped : w.0 ++ rest ≡ l.0 ++ (u ++ l.1) = sym w.1 ∙ l.2 ∙ append_assoc l.0 u l.1 in
    none u l.1 (one_front w.0 l.0 rest (u ++ l.1) regrouped w.2 l.3 begins (token_begins u l.1 l.4)) l.4
LexesTo-none rest bytes (t ∷ ts) [] w begins none l = token_or_blanks bytes w.0 t w.1 w.2 w.4 l
LexesTo-none rest bytes (t ∷ ts) (u ∷ us) w begins none l =
    let same = first_token w.0 l.0 t u w.1 l.1 (sym w.2 ∙ l.2) w.3 l.3 w.4 l.4 w.5 l.5 in
    LexesTo-none rest w.1 ts us w.6 begins none (subst (λ (x : List ℕ). Lexes x us) (sym same.1) l.6)

-- the tokens in front of a byte at which none begins, and the byte, are determined
pub LexesTo-one : (rest other bytes : List ℕ) (ts us : List (List ℕ)) → LexesTo rest bytes ts → LexesTo other bytes us → Begins rest → NoneBegins rest → Begins other → NoneBegins other → (ts ≡ us) × (rest ≡ other)
LexesTo-one rest other bytes [] [] w l begins none begins_other none_other = (refl, one_front w.0 l.0 rest other (sym w.1 ∙ l.1) w.2 l.2 begins begins_other)
LexesTo-one rest other bytes [] (u ∷ us) w l begins none begins_other none_other =
    let regrouped : w.0 ++ rest ≡ l.0 ++ (u ++ l.1) = sym w.1 ∙ l.2 ∙ append_assoc l.0 u l.1 in
    absurd (none u l.1 (one_front w.0 l.0 rest (u ++ l.1) regrouped w.2 l.3 begins (token_begins u l.1 l.4)) l.4)
LexesTo-one rest other bytes (t ∷ ts) [] w l begins none begins_other none_other =
    let regrouped : l.0 ++ other ≡ w.0 ++ (t ++ w.1) = sym l.1 ∙ w.2 ∙ append_assoc w.0 t w.1 in
    absurd (none_other t w.1 (one_front l.0 w.0 other (t ++ w.1) regrouped l.2 w.3 begins_other (token_begins t w.1 w.4)) w.4)
LexesTo-one rest other bytes (t ∷ ts) (u ∷ us) w l begins none begins_other none_other =
    let same = first_token w.0 l.0 t u w.1 l.1 (sym w.2 ∙ l.2) w.3 l.3 w.4 l.4 w.5 l.5 in
    let others = LexesTo-one rest other w.1 ts us w.6 (subst (λ (x : List ℕ). LexesTo other x us) (sym same.1) l.6) begins none begins_other none_other in
    let first : t ≡ u = same.0 in
    let behind : ts ≡ us = others.0 in
    let tokens : t ∷ ts ≡ u ∷ us = cc in
    (tokens, others.1)
