-- The columns of an entry of the catalog, as they are read.
use Rattle.std.proofs.Common.{◌≡◌, ℕ, suc, ◌+◌, ◌-◌, ◌*◌, ◌<◌, List, ◌∷◌, ◌∙◌, ap, arith}
use Rattle.ctr_bytes.specs.Fields.{field}
use Rattle.ctr_names.specs.page_Columns.{name_in, column_kind_at, kind_said, columns_from}

-- one more is read
pub columns_next : (n i : ℕ) (bytes : List ℕ) → i < n → columns_from (n - i) (35 + 18 * i) bytes
    ≡ record { name = name_in (35 + 18 * i) bytes; kind = kind_said (field 1 (column_kind_at (35 + 18 * i)) bytes) } ∷ columns_from (n - (i + 1)) (35 + 18 * (i + 1)) bytes
columns_next n i bytes less =
    let here = 35 + 18 * i in
    ap (λ k. columns_from k here bytes) (let z : n - i ≡ suc (n - (i + 1)) = omega (arith, less) in z)
    ∙ ap (λ k. record { name = name_in here bytes; kind = kind_said (field 1 (column_kind_at here) bytes) } ∷ columns_from (n - (i + 1)) k bytes) (let z : here + 18 ≡ 35 + 18 * (i + 1) = omega arith in z)
