-- The columns of an entry of the catalog, from one on.
use Rattle.std.proofs.Common.{◌≡◌, ℕ, suc, ◌+◌, ◌-◌, ◌*◌, ◌<◌, ◌≤◌, List, [], ◌∷◌, ◌∙◌, ap, arith}
use Rattle.ctr_types.specs.declared.value.Column.{Column}
use Rattle.ctr_bytes.specs.Fields.{field}
use Rattle.ctr_page.specs.Columns.{columns_from, columns_in, name_in, kind_said, column_kind_at}
use Rattle.ctr_asking.specs.Values.{columns_behind}

-- the column of a number
abbrev pub column_at : ℕ → List ℕ → Column
column_at i bytes = record { name = name_in (35 + 18 * i) bytes; kind = kind_said (field 1 (column_kind_at (35 + 18 * i)) bytes) }

-- there is one more
pub columns_more : (i : ℕ) (bytes : List ℕ) → i < field 1 34 bytes → columns_behind i bytes ≡ column_at i bytes ∷ columns_behind (i + 1) bytes
columns_more i bytes less =
    let n = field 1 34 bytes in
    let here = 35 + 18 * i in
    ap (λ k. columns_from k here bytes) (let z : n - i ≡ suc (n - (i + 1)) = omega (arith, less) in z)
    ∙ ap (λ k. column_at i bytes ∷ columns_from (n - (i + 1)) k bytes) (let z : here + 18 ≡ 35 + 18 * (i + 1) = omega arith in z)

-- there are no more
pub columns_none : (i : ℕ) (bytes : List ℕ) → field 1 34 bytes ≤ i → columns_behind i bytes ≡ []
columns_none i bytes few = ap (λ k. columns_from k (35 + 18 * i) bytes) (let z : field 1 34 bytes - i ≡ 0 = omega (arith, few) in z)

-- those from the first on are all
pub columns_all : (bytes : List ℕ) → columns_behind 0 bytes ≡ columns_in bytes
columns_all bytes = ap (λ k. columns_from k 35 bytes) (let z : field 1 34 bytes - 0 ≡ field 1 34 bytes = omega arith in z)
