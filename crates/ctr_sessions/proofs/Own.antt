-- Tables that a transaction made or dropped itself, in its changes and in chains.
use Rattle.std.proofs.Common.{◌≡◌, ℕ, ◌+◌, ◌==◌, Bool, true, false, cond, List, [], ◌∷◌, Option, Some, None, refl, sym, ◌∙◌, ap}
use Rattle.std.specs.Prelude.{unwrap_or, is_some, ◌||◌}
use Rattle.std.specs.Option.{option_or, option_map}
use Rattle.std.specs.List.{AllByRecursion, list_any}
use Rattle.std.proofs.lemmas.Bool.{false≢true, true≢false, or_left, eqb-true}
use Rattle.ctr_types.specs.declared.value.Schema.{Schema}
use Rattle.ctr_model.specs.declared.database.Change.{Change}
use Rattle.ctr_model.specs.declared.database.Change.TheVariants as change
use Rattle.ctr_model.specs.State.{same_name}
use Rattle.ctr_model.specs.Refusals.{is_create_of}
use Rattle.ctr_model.proofs.Sessions.{known}
use Rattle.ctr_versions.specs.Chains.{Numbers, newest, written_by, last_write, IsUnwritten}
use Rattle.ctr_versions.specs.Keys.{schema_change, left_by}
use Rattle.ctr_versions.specs.Versions.{Made, schemas, ByX}

-- ---- chains of schemas

pub newest-schemas : (number : Numbers) (chain : List (ℕ × Option Made)) → newest number (schemas chain) ≡ newest number chain
newest-schemas number [] = refl
newest-schemas number (v ∷ vs) = ap (λ o. option_or (number v.0) o) (newest-schemas number vs)

pub head-schemas : (x : ℕ) (chain : List (ℕ × Option Made)) → written_by x (schemas chain) ≡ option_map (λ (o : Option Made). option_map (λ (m : Made). m.schema) o) (written_by x chain)
head-schemas x [] = refl
head-schemas x (v ∷ vs) = elim (x == v.0) as (λ b. cond b (Some (option_map (λ (m : Made). m.schema) v.1)) None ≡ option_map (λ (o : Option Made). option_map (λ (m : Made). m.schema) o) (cond b (Some v.1) None)) [ true ↦ refl | false ↦ refl ]

-- ---- changes

neither : {X : Type 0} (a b : Option X) → option_or a b ≡ None → (a ≡ None) × (b ≡ None)
neither (Some x) b is = absurd (true≢false (ap is_some is))
neither None b is = (refl, is)

no_create : (name : List ℕ) (c : Change) → schema_change name c ≡ None → is_create_of name c ≡ false
no_create name (change.Put table k row) none = refl
no_create name (change.Remove table k) none = refl
no_create name (change.Drop table) none = refl
no_create name (change.Create table schema) none = tested (same_name table name) none
  where
    tested : (b : Bool) → cond b (Some (Some schema)) None ≡ None → b ≡ false
    tested true is = absurd (true≢false (ap is_some is))
    tested false is = refl

pub uncreated : (name : List ℕ) (own : List Change) → left_by (schema_change name) own ≡ None → list_any (is_create_of name) own ≡ false
uncreated name [] none = refl
uncreated name (c ∷ cs) none =
    let parts = neither (left_by (schema_change name) cs) (schema_change name c) none in
    (λ i. no_create name c parts.1 i || uncreated name cs parts.0 i)

created : (name : List ℕ) (schema : Schema) (c : Change) → schema_change name c ≡ Some (Some schema) → is_create_of name c ≡ true
created name schema (change.Put table k row) hit = absurd (false≢true (ap is_some hit))
created name schema (change.Remove table k) hit = absurd (false≢true (ap is_some hit))
created name schema (change.Drop table) hit = no_drop (same_name table name) hit
  where
    no_drop : {A : Type 0} (b : Bool) → cond b (Some None) None ≡ Some (Some schema) → A
    no_drop true e = absurd (false≢true (ap (λ o. is_some (unwrap_or o None)) e))
    no_drop false e = absurd (false≢true (ap is_some e))
created name schema (change.Create table other) hit = tested (same_name table name) hit
  where
    tested : (b : Bool) → cond b (Some (Some other)) None ≡ Some (Some schema) → b ≡ true
    tested true e = refl
    tested false e = absurd (false≢true (ap is_some e))

pub was_created : (name : List ℕ) (own : List Change) (schema : Schema) → left_by (schema_change name) own ≡ Some (Some schema) → list_any (is_create_of name) own ≡ true
was_created name [] schema is = absurd (false≢true (ap is_some is))
was_created name (c ∷ cs) schema is =
    elim (left_by (schema_change name) cs) as (λ o. left_by (schema_change name) cs ≡ o → option_or o (schema_change name c) ≡ Some (Some schema) → (is_create_of name c || list_any (is_create_of name) cs) ≡ true) [
      | Some w ↦ λ e. λ hit. later (is_create_of name c) (list_any (is_create_of name) cs) (was_created name cs schema (e ∙ hit))
      | None ↦ λ e. λ hit. or_left (is_create_of name c) (list_any (is_create_of name) cs) (created name schema c hit)
    ] refl is
  where
    later : (a b : Bool) → b ≡ true → (a || b) ≡ true
    later true b is = refl
    later false b is = is

-- ---- heads

pub last_none : {V : Type 0} (n : ℕ) (ws : List (Option (Option V))) → AllByRecursion IsUnwritten ws → last_write n ws ≡ None
last_none n [] all = refl
last_none n (w ∷ ws) all = ap (λ o. option_or o (cond (is_some w) (Some n) None)) (last_none (n + 1) ws all.1) ∙ ap (λ w. cond (is_some w) (Some n) None) all.0

is_head : {V : Type 0} (x z : ℕ) (u v : Option V) → cond (x == z) (Some u) None ≡ Some v → x ≡ z
is_head x z u v is = known (x == z) (λ same. eqb-true x z same) (λ apart. absurd (false≢true (ap is_some (sym (ap (λ b. cond b (Some u) None) apart) ∙ is))))

-- two heads are one
pub one_head : {V : Type 0} (x y : ℕ) (chain : List (ℕ × Option V)) (v w : Option V) → written_by x chain ≡ Some v → written_by y chain ≡ Some w → x ≡ y
one_head x y [] v w one two = absurd (false≢true (ap is_some one))
one_head x y (h ∷ rest) v w one two = is_head x h.0 h.1 v one ∙ sym (is_head y h.0 h.1 w two)

pub apart_head : {V : Type 0} (x y : ℕ) (chain : List (ℕ × Option V)) → AllByRecursion (ByX x) chain → (y ≡ x → ⊥) → written_by y chain ≡ None
apart_head x y [] all apart = refl
apart_head x y (h ∷ rest) all apart = known (y == h.0) (λ same. absurd (apart (eqb-true y h.0 same ∙ all.0))) (λ other. ap (λ b. cond b (Some h.1) None) other)
