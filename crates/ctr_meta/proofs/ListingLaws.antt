-- Reading lists, one member after another.
use Rattle.std.proofs.Common.{◌≡◌, ℕ, zero, suc, ◌+◌, ◌*◌, ◌<◌, ◌-◌, false, List, [], ◌∷◌, ◌++◌, refl, sym, ap, subst, ◌∙◌, arith}
use Rattle.std.specs.List.{AllByRecursion}
use Rattle.ctr_rec.specs.bytes_Fields.{field}
use Rattle.ctr_rec.specs.declared.record.SlogItem.{SlogItem}
use Rattle.ctr_rec.specs.Members.{pairs_from, slog_item, items_from, ItemFits}
use Rattle.ctr_meta.specs.Tables.{is_in}
use Rattle.ctr_meta.specs.Kept.{EachOnce}
use Rattle.ctr_meta.proofs.XidLaws.{once_before}

pair_there : ℕ → List ℕ → ℕ × ℕ
pair_there at bytes = (field 8 at bytes, field 8 (at + 8) bytes)

unfoldable pub item_there : ℕ → List ℕ → SlogItem
item_there at bytes = slog_item (field 1 at bytes) (field 8 (at + 1) bytes) (field 4 (at + 9) bytes)

-- the first, then one, then the rest
pairs_part : (at i k : ℕ) (bytes : List ℕ) → pairs_from at (i + suc k) bytes ≡ pairs_from at i bytes ++ pair_there (at + 16 * i) bytes ∷ pairs_from (at + 16 * i + 16) k bytes
unfolding pairs_from pair_there
pairs_part at zero k bytes =
    ap (λ (n : ℕ). pairs_from at n bytes) (let e : zero + suc k ≡ suc k = omega arith in e)
    ∙ ap (λ (n : ℕ). (field 8 n bytes, field 8 (n + 8) bytes) ∷ pairs_from (n + 16) k bytes) (let e : at ≡ at + 16 * 0 = omega arith in e)
pairs_part at (suc i) k bytes =
    ap (λ (n : ℕ). pairs_from at n bytes) (let e : suc i + suc k ≡ suc (i + suc k) = omega arith in e)
    ∙ ap (λ (l : List (ℕ × ℕ)). pair_there at bytes ∷ l) (pairs_part (at + 16) i k bytes)
    ∙ ap (λ (n : ℕ). pairs_from at (suc i) bytes ++ pair_there n bytes ∷ pairs_from (n + 16) k bytes) (let e : at + 16 + 16 * i ≡ at + 16 * suc i = omega arith in e)

-- one more
pub pairs_more : (at i : ℕ) (bytes : List ℕ) → pairs_from at i bytes ++ (field 8 (at + 16 * i) bytes, field 8 (at + 16 * i + 8) bytes) ∷ [] ≡ pairs_from at (i + 1) bytes
unfolding pairs_from pair_there
pairs_more at i bytes = sym (pairs_part at i 0 bytes)

-- it isn't among those before it
pub pair_new : (at i n : ℕ) (bytes : List ℕ) → i < n → EachOnce (pairs_from at n bytes) → is_in (field 8 (at + 16 * i) bytes) (pairs_from at i bytes) ≡ false
unfolding pair_there
pair_new at i n bytes lt once =
    let split : n ≡ i + suc (n - i - 1) = omega (arith, lt) in
    once_before (pair_there (at + 16 * i) bytes) (pairs_from at i bytes) (pairs_from (at + 16 * i + 16) (n - i - 1) bytes)
    (subst EachOnce (ap (λ (k : ℕ). pairs_from at k bytes) split ∙ pairs_part at i (n - i - 1) bytes) once)

-- the same of items
items_part : (at i k : ℕ) (bytes : List ℕ) → items_from at (i + suc k) bytes ≡ items_from at i bytes ++ item_there (at + 13 * i) bytes ∷ items_from (at + 13 * i + 13) k bytes
unfolding items_from item_there
items_part at zero k bytes =
    ap (λ (n : ℕ). items_from at n bytes) (let e : zero + suc k ≡ suc k = omega arith in e)
    ∙ ap (λ (n : ℕ). item_there n bytes ∷ items_from (n + 13) k bytes) (let e : at ≡ at + 13 * 0 = omega arith in e)
items_part at (suc i) k bytes =
    ap (λ (n : ℕ). items_from at n bytes) (let e : suc i + suc k ≡ suc (i + suc k) = omega arith in e)
    ∙ ap (λ (l : List SlogItem). item_there at bytes ∷ l) (items_part (at + 13) i k bytes)
    ∙ ap (λ (n : ℕ). items_from at (suc i) bytes ++ item_there n bytes ∷ items_from (n + 13) k bytes) (let e : at + 13 + 13 * i ≡ at + 13 * suc i = omega arith in e)

pub items_more : (at i : ℕ) (bytes : List ℕ) → items_from at i bytes ++ item_there (at + 13 * i) bytes ∷ [] ≡ items_from at (i + 1) bytes
unfolding items_from
items_more at i bytes = sym (items_part at i 0 bytes)

middle : (P : SlogItem → Type 0) (is js : List SlogItem) (j : SlogItem) → AllByRecursion P (is ++ j ∷ js) → P j
middle P [] js j all = all.0
middle P (i ∷ is) js j all = middle P is js j all.1

pub item_fits : (at i n : ℕ) (bytes : List ℕ) → i < n → AllByRecursion ItemFits (items_from at n bytes) → ItemFits (item_there (at + 13 * i) bytes)
item_fits at i n bytes lt all =
    let split : n ≡ i + suc (n - i - 1) = omega (arith, lt) in
    middle ItemFits (items_from at i bytes) (items_from (at + 13 * i + 13) (n - i - 1) bytes) (item_there (at + 13 * i) bytes)
    (subst (AllByRecursion ItemFits) (ap (λ (k : ℕ). items_from at k bytes) split ∙ items_part at i (n - i - 1) bytes) all)

pub no_pairs : (at : ℕ) (bytes : List ℕ) → pairs_from at 0 bytes ≡ []
unfolding pairs_from
no_pairs at bytes = refl

pub no_items : (at : ℕ) (bytes : List ℕ) → items_from at 0 bytes ≡ []
unfolding items_from
no_items at bytes = refl
