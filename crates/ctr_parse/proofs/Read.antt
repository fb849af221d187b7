-- What is read is in the grammar: the places of what was read stand at the tokens.
use Rattle.std.proofs.Common.{◌≡◌, ℕ, zero, suc, ◌≤◌, ℤ, Bool, true, false, List, [], ◌∷◌, ◌++◌, length, Option, Some, None, codes, refl, sym, ap, ◌∙◌, subst, inl, inr, arith, append_assoc}
use Rattle.std.specs.Prelude.{if◌then◌else◌}
use Rattle.ctr_types.specs.declared.value.Value.{Value}
use Rattle.ctr_types.specs.declared.statement.KeyIs.{KeyIs}
use Rattle.ctr_types.specs.declared.statement.Set.{Set}
use Rattle.ctr_types.specs.declared.statement.SetTo.{SetTo}
use Rattle.ctr_types.specs.declared.statement.SetTo.TheVariants as to
use Rattle.ctr_model.specs.Grammar.{Part, key, name, int, sign, comma, close_paren, literal, literals, optional_where, set_parts, sets_parts}
use Rattle.ctr_model.specs.Language.{MatchesPart, MatchParts}
use Rattle.ctr_parse.specs.declared.word.Right.{Right}
use Rattle.ctr_parse.specs.declared.word.Right.TheVariants as right
use Rattle.ctr_parse.specs.Spelled.{int_of}
use Rattle.ctr_parse.specs.Trees.{Tree, one_then, keyword_of, sign_of, name_of, literal_of, right_of, comma_or_end, comma_or_where, keyword_then, sign_then, name_then, int_then, key_is_then, optional_then, values_then, behind_right, right_then, set_then, sets_then}
use Rattle.ctr_parse.proofs.Trees.{runs, one_is, or_is}
use Rattle.ctr_parse.proofs.Spellings.{int_is}
use Rattle.ctr_parse.proofs.Meanings.{key_means, sign_means, name_means, literal_means, StandsRight, right_means, StandsComma, comma_means, StandsWhere, where_means}

-- What was read, and what was read behind it: x stands at the tokens, in places made of it, before
-- whatever stands at the rest.
pub record Was {X A : Type 0} (next : X → Tree A) (parts : X → List Part → List Part) (IsFit : X → Type 0) (ts : List (List ℕ)) (a : A) : Type 0 where
  pub item : X
  pub rest : List (List ℕ)
  pub fit : IsFit item
  pub reads : runs (next item) rest ≡ Some a
  pub stand : (ps : List Part) → MatchParts rest ps → MatchParts ts (parts item ps)

-- the same of a word or a sign, behind which stands one tree
abbrev pub Passed : {A : Type 0} → Tree A → Part → List (List ℕ) → A → Type 0
Passed next p ts a = (rest : List (List ℕ)) × (runs next rest ≡ Some a) × ((ps : List Part) → MatchParts rest ps → MatchParts ts (p ∷ ps))

-- a token stands at a place
pub stands : (p : Part) (t : List ℕ) (ts rest : List (List ℕ)) → ts ≡ t ∷ rest → MatchesPart p t → (ps : List Part) → MatchParts rest ps → MatchParts ts (p ∷ ps)
stands p t ts rest e is ps h = subst (λ us. MatchParts us (p ∷ ps)) (sym e) (is, h)

pub keyword_is : {A : Type 0} (k : List ℕ) (next : Tree A) (ts : List (List ℕ)) (a : A) → runs (keyword_then k next) ts ≡ Some a → Passed next (key k) ts a
unfolding keyword_then
keyword_is k next ts a e =
    let w = one_is (keyword_of k) (λ _. next) ts a e in
    (w.rest, w.reads, stands (key k) w.token ts w.rest w.split (key_means k w.token w.item w.means))

pub sign_is : {A : Type 0} (c : ℕ) (next : Tree A) (ts : List (List ℕ)) (a : A) → runs (sign_then c next) ts ≡ Some a → Passed next (sign c) ts a
unfolding sign_then
sign_is c next ts a e =
    let w = one_is (sign_of c) (λ _. next) ts a e in
    (w.rest, w.reads, stands (sign c) w.token ts w.rest w.split (sign_means c w.token w.item w.means))

-- nothing is asked of it
abbrev pub Any : {X : Type 0} → X → Type 0
Any x = Unit {0}

-- one place
abbrev pub one_part : {X : Type 0} → (X → Part) → X → List Part → List Part
one_part part x ps = part x ∷ ps

pub name_is : {A : Type 0} (next : List ℕ → Tree A) (ts : List (List ℕ)) (a : A) → runs (name_then next) ts ≡ Some a → Was next (one_part name) Any ts a
unfolding name_then
name_is next ts a e =
    let w = one_is name_of next ts a e in
    record { item = w.item; rest = w.rest; fit = tt; reads = w.reads; stand = stands (name w.item) w.token ts w.rest w.split (name_means w.token w.item w.means) }

pub int_was : {A : Type 0} (next : ℤ → Tree A) (ts : List (List ℕ)) (a : A) → runs (int_then next) ts ≡ Some a → Was next (one_part int) Any ts a
unfolding int_then
int_was next ts a e =
    let w = one_is int_of next ts a e in
    record { item = w.item; rest = w.rest; fit = tt; reads = w.reads; stand = stands (int w.item) w.token ts w.rest w.split (int_is w.token w.item w.means) }

-- ---- WHERE

abbrev pub key_parts : KeyIs → List Part → List Part
key_parts at ps = name at.column ∷ sign 61 ∷ int at.key ∷ ps

pub key_was : {A : Type 0} (next : KeyIs → Tree A) (ts : List (List ℕ)) (a : A) → runs (key_is_then next) ts ≡ Some a → Was next key_parts Any ts a
unfolding key_is_then
key_was next ts a e =
    let n = name_is (λ c. sign_then 61 (int_then (λ z. next (record { column = c; key = z })))) ts a e in
    let s = sign_is 61 (int_then (λ z. next (record { column = n.item; key = z }))) n.rest a n.reads in
    let i = int_was (λ z. next (record { column = n.item; key = z })) s.0 a s.1 in
    record {
      item = record { column = n.item; key = i.item };
      rest = i.rest;
      fit = tt;
      reads = i.reads;
      stand = λ ps h. n.stand (sign 61 ∷ int i.item ∷ ps) (s.2 (int i.item ∷ ps) (i.stand ps h));
    }

abbrev pub optional_parts : Option KeyIs → List Part → List Part
optional_parts at ps = optional_where at ++ ps

pub optional_was : {A : Type 0} (next : Option KeyIs → Tree A) (ts : List (List ℕ)) (a : A) → runs (optional_then next) ts ≡ Some a → Was next optional_parts Any ts a
unfolding optional_then
optional_was next ts a e =
    elim (or_is (keyword_of (codes "WHERE")) (λ _. key_is_then (λ at. next (Some at))) (next None) ts a e) [
      | inl w ↦ (let k = key_was (λ at. next (Some at)) w.rest a w.reads in
          let there = stands (key (codes "WHERE")) w.token ts w.rest w.split (key_means (codes "WHERE") w.token w.item w.means) in
          record { item = Some k.item; rest = k.rest; fit = tt; reads = k.reads; stand = λ ps h. there (key_parts k.item ps) (k.stand ps h) })
      | inr w ↦ record { item = None; rest = ts; fit = tt; reads = w; stand = λ ps h. h }
    ]

-- ---- values

abbrev pub value_list_parts : List Value → List Part → List Part
value_list_parts vs ps = literals vs ++ close_paren ∷ ps

-- so many values at most, behind those before
pub record AreValues {A : Type 0} (n : ℕ) (before : List Value) (next : List Value → Tree A) (ts : List (List ℕ)) (a : A) : Type 0 where
  pub item : List Value
  pub rest : List (List ℕ)
  pub some : 1 ≤ length item
  pub few : length item ≤ suc n
  pub reads : runs (next (before ++ item)) rest ≡ Some a
  pub stand : (ps : List Part) → MatchParts rest ps → MatchParts ts (literals item ++ close_paren ∷ ps)

last_value : {A : Type 0} (n : ℕ) (before : List Value) (next : List Value → Tree A) (ts : List (List ℕ)) (a : A) (v : Value) (t : List ℕ) (rest : List (List ℕ)) → ts ≡ t ∷ rest → MatchesPart (literal v) t
    → Passed (next (before ++ v ∷ [])) (sign 41) rest a → AreValues n before next ts a
last_value n before next ts a v t rest e is s =
    record { item = v ∷ []; rest = s.0; some = omega arith; few = omega arith; reads = s.1; stand = λ ps h. stands (literal v) t ts rest e is (close_paren ∷ ps) (s.2 ps h) }

more_values : {A : Type 0} (n : ℕ) (before : List Value) (next : List Value → Tree A) (ts : List (List ℕ)) (a : A) (v : Value) (t u : List ℕ) (behind rest : List (List ℕ)) → ts ≡ t ∷ behind → MatchesPart (literal v) t
    → behind ≡ u ∷ rest → u ≡ 44 ∷ [] → (ws : List Value) (last : List (List ℕ)) → 1 ≤ length ws → length ws ≤ suc n → runs (next ((before ++ v ∷ []) ++ ws)) last ≡ Some a
    → ((ps : List Part) → MatchParts last ps → MatchParts rest (literals ws ++ close_paren ∷ ps)) → AreValues (suc n) before next ts a
more_values n before next ts a v t u behind rest e is f c [] last some few reads stand = absurd (omega arith)
more_values n before next ts a v t u behind rest e is f c (w ∷ ws) last some few reads stand = record {
  item = v ∷ w ∷ ws;
  rest = last;
  some = omega arith;
  few = omega arith;
  reads = ap (λ vs. runs (next vs) last) (sym (append_assoc before (v ∷ []) (w ∷ ws))) ∙ reads;
  stand = λ ps h. stands (literal v) t ts behind e is (comma ∷ (literals (w ∷ ws) ++ close_paren ∷ ps))
      (stands comma u behind rest f c (literals (w ∷ ws) ++ close_paren ∷ ps) (stand ps h));
}

by_comma : {A : Type 0} (n : ℕ) (before : List Value) (next : List Value → Tree A) (ts : List (List ℕ)) (a : A) (v : Value) (t : List ℕ) (behind : List (List ℕ)) → ts ≡ t ∷ behind → MatchesPart (literal v) t
    → (u : List ℕ) (rest : List (List ℕ)) → behind ≡ u ∷ rest → (more : Bool) → StandsComma more u
    → runs (if more then values_then n (before ++ v ∷ []) next else next (before ++ v ∷ [])) rest ≡ Some a
    → ((us : List (List ℕ)) → runs (values_then n (before ++ v ∷ []) next) us ≡ Some a → AreValues n (before ++ v ∷ []) next us a) → AreValues (suc n) before next ts a
by_comma n before next ts a v t behind e is u rest f true c reads again =
    let r = again rest reads in
    more_values n before next ts a v t u behind rest e is f c r.item r.rest r.some r.few r.reads r.stand
by_comma n before next ts a v t behind e is u rest f false c reads again =
    last_value (suc n) before next ts a v t behind e is (rest, reads, stands (sign 41) u behind rest f c)

pub values_were : {A : Type 0} (n : ℕ) (before : List Value) (next : List Value → Tree A) (ts : List (List ℕ)) (a : A) → runs (values_then n before next) ts ≡ Some a → AreValues n before next ts a
unfolding values_then
values_were zero before next ts a e =
    let w = one_is literal_of (λ v. sign_then 41 (next (before ++ v ∷ []))) ts a e in
    last_value zero before next ts a w.item w.token w.rest w.split (literal_means w.token w.item w.means) (sign_is 41 (next (before ++ w.item ∷ [])) w.rest a w.reads)
values_were (suc n) before next ts a e =
    let w = one_is literal_of (λ v. one_then comma_or_end (λ more. if more then values_then n (before ++ v ∷ []) next else next (before ++ v ∷ []))) ts a e in
    let c = one_is comma_or_end (λ more. if more then values_then n (before ++ w.item ∷ []) next else next (before ++ w.item ∷ [])) w.rest a w.reads in
    by_comma n before next ts a w.item w.token w.rest w.split (literal_means w.token w.item w.means) c.token c.rest c.split c.item (comma_means c.token c.item c.means) c.reads (λ us h. values_were n (before ++ w.item ∷ []) next us a h)

-- ---- assignments

-- the right side
abbrev pub right_parts : SetTo → List Part → List Part
right_parts (to.Is v) ps = literal v ∷ ps
right_parts (to.Sum n z) ps = name n ∷ sign 43 ∷ int z ∷ ps

right_by : {A : Type 0} (next : SetTo → Tree A) (ts : List (List ℕ)) (a : A) (r : Right) (t : List ℕ) (rest : List (List ℕ)) → ts ≡ t ∷ rest → StandsRight r t → runs (behind_right next r) rest ≡ Some a → Was next right_parts Any ts a
right_by next ts a (right.Is v) t rest e is reads = record { item = to.Is v; rest = rest; fit = tt; reads = reads; stand = stands (literal v) t ts rest e is }
right_by next ts a (right.Of n) t rest e is reads =
    let s = sign_is 43 (int_then (λ z. next (to.Sum n z))) rest a reads in
    let i = int_was (λ z. next (to.Sum n z)) s.0 a s.1 in
    record {
      item = to.Sum n i.item;
      rest = i.rest;
      fit = tt;
      reads = i.reads;
      stand = λ ps h. stands (name n) t ts rest e is (sign 43 ∷ int i.item ∷ ps) (s.2 (int i.item ∷ ps) (i.stand ps h));
    }

right_was : {A : Type 0} (next : SetTo → Tree A) (ts : List (List ℕ)) (a : A) → runs (right_then next) ts ≡ Some a → Was next right_parts Any ts a
unfolding right_then
right_was next ts a e =
    let w = one_is right_of (behind_right next) ts a e in
    right_by next ts a w.item w.token w.rest w.split (right_means w.token w.item w.means) w.reads

-- an assignment
abbrev pub assigned_parts : Set → List Part → List Part
assigned_parts s ps = name s.column ∷ sign 61 ∷ right_parts s.to ps

set_was : {A : Type 0} (next : Set → Tree A) (ts : List (List ℕ)) (a : A) → runs (set_then next) ts ≡ Some a → Was next assigned_parts Any ts a
unfolding set_then
set_was next ts a e =
    let n = name_is (λ c. sign_then 61 (right_then (λ r. next (record { column = c; to = r })))) ts a e in
    let s = sign_is 61 (right_then (λ r. next (record { column = n.item; to = r }))) n.rest a n.reads in
    let r = right_was (λ r. next (record { column = n.item; to = r })) s.0 a s.1 in
    record {
      item = record { column = n.item; to = r.item };
      rest = r.rest;
      fit = tt;
      reads = r.reads;
      stand = λ ps h. n.stand (sign 61 ∷ right_parts r.item ps) (s.2 (right_parts r.item ps) (r.stand ps h));
    }

-- its places, as the grammar writes them
pub set_regroup : (c : List ℕ) (r : SetTo) (ps : List Part) → assigned_parts (record { column = c; to = r }) ps ≡ set_parts c r ++ ps
set_regroup c (to.Is v) ps = refl
set_regroup c (to.Sum n z) ps = refl

-- so many assignments at most, behind those before
pub record AreSets {A : Type 0} (n : ℕ) (before : List Set) (next : List Set → Tree A) (ts : List (List ℕ)) (a : A) : Type 0 where
  pub item : List Set
  pub rest : List (List ℕ)
  pub some : 1 ≤ length item
  pub few : length item ≤ suc n
  pub reads : runs (next (before ++ item)) rest ≡ Some a
  pub stand : (ps : List Part) → MatchParts rest ps → MatchParts ts (sets_parts item ++ key (codes "WHERE") ∷ ps)

last_set : {A : Type 0} (n : ℕ) (before : List Set) (next : List Set → Tree A) (ts : List (List ℕ)) (a : A) (s : Set) (behind : List (List ℕ)) → ((ps : List Part) → MatchParts behind ps → MatchParts ts (assigned_parts s ps))
    → Passed (next (before ++ s ∷ [])) (key (codes "WHERE")) behind a → AreSets n before next ts a
last_set n before next ts a s behind stand w = record {
  item = s ∷ [];
  rest = w.0;
  some = omega arith;
  few = omega arith;
  reads = w.1;
  stand = λ ps h. subst (MatchParts ts) (set_regroup s.column s.to (key (codes "WHERE") ∷ ps)) (stand (key (codes "WHERE") ∷ ps) (w.2 ps h));
}

more_sets : {A : Type 0} (n : ℕ) (before : List Set) (next : List Set → Tree A) (ts : List (List ℕ)) (a : A) (s : Set) (behind : List (List ℕ)) → ((ps : List Part) → MatchParts behind ps → MatchParts ts (assigned_parts s ps))
    → (u : List ℕ) (rest : List (List ℕ)) → behind ≡ u ∷ rest → u ≡ 44 ∷ [] → (ws : List Set) (last : List (List ℕ)) → 1 ≤ length ws → length ws ≤ suc n → runs (next ((before ++ s ∷ []) ++ ws)) last ≡ Some a
    → ((ps : List Part) → MatchParts last ps → MatchParts rest (sets_parts ws ++ key (codes "WHERE") ∷ ps)) → AreSets (suc n) before next ts a
more_sets n before next ts a s behind one u rest f c [] last some few reads stand = absurd (omega arith)
more_sets n before next ts a s behind one u rest f c (w ∷ ws) last some few reads stand = record {
  item = s ∷ w ∷ ws;
  rest = last;
  some = omega arith;
  few = omega arith;
  reads = ap (λ vs. runs (next vs) last) (sym (append_assoc before (s ∷ []) (w ∷ ws))) ∙ reads;
  stand = λ ps h.
      let on : List Part = comma ∷ (sets_parts (w ∷ ws) ++ key (codes "WHERE") ∷ ps) in
      let all = one on (stands comma u behind rest f c (sets_parts (w ∷ ws) ++ key (codes "WHERE") ∷ ps) (stand ps h)) in
      subst (MatchParts ts) (set_regroup s.column s.to on ∙ sym (append_assoc (set_parts s.column s.to) (comma ∷ sets_parts (w ∷ ws)) (key (codes "WHERE") ∷ ps))) all;
}

by_where : {A : Type 0} (n : ℕ) (before : List Set) (next : List Set → Tree A) (ts : List (List ℕ)) (a : A) (s : Set) (behind : List (List ℕ)) → ((ps : List Part) → MatchParts behind ps → MatchParts ts (assigned_parts s ps))
    → (u : List ℕ) (rest : List (List ℕ)) → behind ≡ u ∷ rest → (more : Bool) → StandsWhere more u
    → runs (if more then sets_then n (before ++ s ∷ []) next else next (before ++ s ∷ [])) rest ≡ Some a
    → ((us : List (List ℕ)) → runs (sets_then n (before ++ s ∷ []) next) us ≡ Some a → AreSets n (before ++ s ∷ []) next us a) → AreSets (suc n) before next ts a
by_where n before next ts a s behind stand u rest f true c reads again =
    let r = again rest reads in
    more_sets n before next ts a s behind stand u rest f c r.item r.rest r.some r.few r.reads r.stand
by_where n before next ts a s behind stand u rest f false c reads again =
    last_set (suc n) before next ts a s behind stand (rest, reads, stands (key (codes "WHERE")) u behind rest f c)

pub sets_were : {A : Type 0} (n : ℕ) (before : List Set) (next : List Set → Tree A) (ts : List (List ℕ)) (a : A) → runs (sets_then n before next) ts ≡ Some a → AreSets n before next ts a
unfolding sets_then
sets_were zero before next ts a e =
    let w = set_was (λ s. keyword_then (codes "WHERE") (next (before ++ s ∷ []))) ts a e in
    last_set zero before next ts a w.item w.rest w.stand (keyword_is (codes "WHERE") (next (before ++ w.item ∷ [])) w.rest a w.reads)
sets_were (suc n) before next ts a e =
    let w = set_was (λ s. one_then comma_or_where (λ more. if more then sets_then n (before ++ s ∷ []) next else next (before ++ s ∷ []))) ts a e in
    let c = one_is comma_or_where (λ more. if more then sets_then n (before ++ w.item ∷ []) next else next (before ++ w.item ∷ [])) w.rest a w.reads in
    by_where n before next ts a w.item w.rest w.stand c.token c.rest c.split c.item (where_means c.token c.item c.means) c.reads (λ us h. sets_were n (before ++ w.item ∷ []) next us a h)
