-- The row that an update makes is one of the table's columns, of the same key.
use Rattle.std.proofs.Common.{◌≡◌, ℕ, ◌+◌, ℤ, Bool, true, false, cond, List, [], ◌∷◌, ◌++◌, length, Option, None, Some, refl, sym, ◌∙◌, ap, subst, option_and_then}
use Rattle.std.specs.Prelude.{not, ◌||◌, ◌&&◌, is_none}
use Rattle.std.proofs.lemmas.Bool.{false≢true}
use Rattle.ctr_types.specs.declared.value.Column.{Column}
use Rattle.ctr_types.specs.declared.value.Kind.{Kind}
use Rattle.ctr_types.specs.declared.value.Kind.TheVariants as kind
use Rattle.ctr_types.specs.declared.value.Value.{Value}
use Rattle.ctr_types.specs.declared.value.Value.TheVariants as value
use Rattle.ctr_types.specs.declared.statement.KeyIs.{KeyIs}
use Rattle.ctr_types.specs.declared.statement.Set.{Set}
use Rattle.ctr_types.specs.declared.statement.SetTo.{SetTo}
use Rattle.ctr_types.specs.declared.statement.SetTo.TheVariants as to
use Rattle.ctr_types.specs.declared.statement.Statement.TheVariants as st
use Rattle.ctr_model.specs.State.{same_name}
use Rattle.ctr_model.specs.Refusals.{key_of, fits, bad_from, is_first_column, kind_of, is_int, suits, bad_right_side, is_bad_set, is_assigned, bad_set_after, bad_where, bad_value, first_of, sum_of, number_in, right_side, with_value, assigned}
use Rattle.ctr_versions.proofs.Keys.{known}

-- ---- one value in place of another

some_isnt_none : {A : Type 0} (x : A) → Some x ≡ None → ⊥
some_isnt_none x is = absurd (let e = is in cc)

-- of a choice that comes to none the other side is taken
not_taken : (b : Bool) (at : ℕ) (rest : Option ℕ) → cond b (Some at) rest ≡ None → (b ≡ false) × (rest ≡ None)
not_taken true at rest is = absurd (let e = is in cc)
not_taken false at rest is = (refl, is)

taken : (b : Bool) (at : ℕ) (rest : Option ℕ) → cond b rest (Some at) ≡ None → (b ≡ true) × (rest ≡ None)
taken true at rest is = (refl, is)
taken false at rest is = absurd (let e = is in cc)

pub put_suits : (at : ℕ) (name : List ℕ) (new : Value) (k : Kind) (cs : List Column) (vs : List Value) → bad_from at cs vs ≡ None → kind_of name cs ≡ Some k → fits k new ≡ true → bad_from at cs (with_value name new cs vs) ≡ None
put_suits at name new k [] vs suit is fit = absurd (let e = is in cc)
put_suits at name new k (c ∷ cs) [] suit is fit = absurd (let e = suit in cc)
put_suits at name new k (c ∷ cs) (v ∷ vs) suit is fit =
    let parts = taken (fits c.kind v) at (bad_from (at + 1) cs vs) suit in
    known (same_name name c.name)
    (λ same.
    let kinds : Some c.kind ≡ Some k = sym (ap (λ b. cond b (Some c.kind) (kind_of name cs)) same) ∙ is in
    let kind_is : c.kind ≡ k = cc kinds in
    ap (λ b. bad_from at (c ∷ cs) (cond b (new ∷ vs) (v ∷ with_value name new cs vs))) same
    ∙ ap (λ j. cond (fits j new) (bad_from (at + 1) cs vs) (Some at)) kind_is
    ∙ ap (λ b. cond b (bad_from (at + 1) cs vs) (Some at)) fit ∙ parts.1)
    (λ other.
    ap (λ b. bad_from at (c ∷ cs) (cond b (new ∷ vs) (v ∷ with_value name new cs vs))) other
    ∙ ap (λ b. cond b (bad_from (at + 1) cs (with_value name new cs vs)) (Some at)) parts.0
    ∙ put_suits (at + 1) name new k cs vs parts.1 (sym (ap (λ b. cond b (Some c.kind) (kind_of name cs)) other) ∙ is) fit)

-- what isn't bad on the right suits its column
it_suits : (o : Option Kind) (v : Value) → not (suits o v) ≡ false → (k : Kind) × (o ≡ Some k) × (fits k v ≡ true)
it_suits None v is = absurd (let e = is in cc)
it_suits (Some k) v is = (k, refl, isnt (fits k v) is)
  where
    isnt : (b : Bool) → not b ≡ false → b ≡ true
    isnt true is = refl
    isnt false is = absurd (let e = is in cc)

it_is_int : (o : Option Kind) → is_int o ≡ true → o ≡ Some kind.Int
it_is_int None is = absurd (false≢true is)
it_is_int (Some kind.Int) is = refl
it_is_int (Some (kind.Chars most)) is = absurd (false≢true is)

both_true : (a b : Bool) → not (a && b) ≡ false → a ≡ true
both_true true b is = refl
both_true false b is = absurd (let e = is in cc)

sum_is_int : (a b : ℤ) (new : Value) → sum_of a b ≡ Some new → (z : ℤ) × (new ≡ value.Int z)
sum_is_int a b new is = (_, by _ _ is)
  where
    by : (c : Bool) (z : ℤ) → cond c (Some (value.Int z)) None ≡ Some new → new ≡ value.Int z
    by true z is = sym (cc is)
    by false z is = absurd (let e = is in cc)

pub right_suits : (cs : List Column) (column : List ℕ) (old : List Value) (t : SetTo) (new : Value) → bad_right_side cs column t ≡ false → right_side cs old t ≡ Some new → (k : Kind) × (kind_of column cs ≡ Some k) × (fits k new ≡ true)
right_suits cs column old (to.Is v) new good is =
    let same : v ≡ new = cc is in
    let its = it_suits (kind_of column cs) v good in
    (its.0, its.1, ap (fits its.0) (sym same) ∙ its.2)
right_suits cs column old (to.Sum other n) new good is =
    let int = sum_is_int (number_in other cs old) n new is in
    (kind.Int, it_is_int (kind_of column cs) (both_true (is_int (kind_of column cs)) (is_int (kind_of other cs)) good), ap (fits kind.Int) int.1)

-- ---- all of them

none_of : (a b c d : Bool) → (a || b || c || d) ≡ false → (b ≡ false) × (d ≡ false)
none_of true b c d is = absurd (let e = is in cc)
none_of false true c d is = absurd (let e = is in cc)
none_of false false true d is = absurd (let e = is in cc)
none_of false false false d is = (refl, is)

-- the first value stays, where its column isn't the one
key_kept : (name : List ℕ) (new : Value) (cs : List Column) (vs : List Value) → is_first_column name cs ≡ false → key_of (with_value name new cs vs) ≡ key_of vs
key_kept name new [] vs other = refl
key_kept name new (c ∷ cs) [] other = refl
key_kept name new (c ∷ cs) (v ∷ vs) other = ap (λ b. key_of (cond b (new ∷ vs) (v ∷ with_value name new cs vs))) other ∙ first v
  where
    first : (v : Value) → key_of (v ∷ with_value name new cs vs) ≡ key_of (v ∷ vs)
    first (value.Int n) = refl
    first (value.Chars text) = refl

pub record Suits (cs : List Column) (vs new : List Value) : Type 0 where
  pub suit : bad_from 1 cs new ≡ None
  pub key : key_of new ≡ key_of vs

pub assigned_suits : (cs : List Column) (old : List Value) (before sets : List Set) (vs new : List Value) → bad_set_after cs before sets ≡ None → bad_from 1 cs vs ≡ None → assigned cs old sets vs ≡ Some new → Suits cs vs new
assigned_suits cs old before [] vs new good suit is = let same : vs ≡ new = cc is in subst (Suits cs vs) same (record { suit = suit; key = refl })
assigned_suits cs old before (set ∷ sets) vs new good suit is =
    let parts = not_taken (is_bad_set cs before set) (length before + 1) (bad_set_after cs (before ++ set ∷ []) sets) good in
    let fine = none_of (is_none (kind_of set.column cs)) (is_first_column set.column cs) (is_assigned set.column before) (bad_right_side cs set.column set.to) parts.0 in
    by (λ us. assigned_suits cs old (before ++ set ∷ []) sets us new parts.1) (right_side cs old set.to) refl is fine
  where
    by : ((us : List Value) → bad_from 1 cs us ≡ None → assigned cs old sets us ≡ Some new → Suits cs us new) → (o : Option Value) → right_side cs old set.to ≡ o
        → option_and_then (λ (x : Value). assigned cs old sets (with_value set.column x cs vs)) o ≡ Some new → (is_first_column set.column cs ≡ false) × (bad_right_side cs set.column set.to ≡ false) → Suits cs vs new
    by others None right is fine = absurd (let e = is in cc)
    by others (Some x) right is fine =
        let its = right_suits cs set.column old set.to x fine.1 right in
        let next = others (with_value set.column x cs vs) (put_suits 1 set.column x its.0 cs vs suit its.1 its.2) is in
        record { suit = next.suit; key = next.key ∙ key_kept set.column x cs vs fine.0 }

pub sets_good : (cs : List Column) (table : List ℕ) (sets : List Set) (at : KeyIs) → bad_value cs (st.Update table sets at) ≡ None → bad_set_after cs [] sets ≡ None
sets_good cs table sets at is = by (bad_where cs at) (bad_set_after cs [] sets) is
  where
    by : (a b : Option ℕ) → first_of (a ∷ b ∷ []) ≡ None → b ≡ None
    by (Some x) b is = absurd (let e = is in cc)
    by None None is = refl
    by None (Some y) is = absurd (let e = is in cc)
