-- A block says one root at most.
use Rattle.std.proofs.Common.{◌≡◌, ◌<◌, ◌^◌, ℕ, List, [], ◌++◌, length, sym, ◌∙◌, ap, arith, Option, Some, append_assoc, length-append}
use Rattle.std.specs.Prelude.{codes}
use Rattle.std.proofs.lemmas.List.{append-nil}
use Rattle.ctr_bytes.specs.Fields.{spelled, field}
use Rattle.ctr_bytes.proofs.FieldLaws.{field_at, length-spelled}
use Rattle.ctr_redo.specs.home_Root.{Root}
use Rattle.ctr_redo.specs.home_Blocks.{BlockValue}
use Rattle.ctr_redo.specs.home_Roots.{root_block, IsRoot, SaysRoot}

module _ (r : Root) (root : IsRoot r) where
  abbrev to_format : List ℕ
  to_format = codes "CTRDB001" ++ spelled 4 r.format

  abbrev to_first : List ℕ
  to_first = to_format ++ spelled 1 r.file ++ spelled 8 r.first

  long_format : length to_format ≡ 12
  long_format = omega (arith, length-append (codes "CTRDB001") (spelled 4 r.format), length-spelled 4 r.format)

  long_file : length (to_format ++ spelled 1 r.file) ≡ 13
  long_file = omega (arith, long_format, length-append to_format (spelled 1 r.file), length-spelled 1 r.file)

  long_first : length to_first ≡ 21
  long_first = omega (arith, long_file, length-append (to_format ++ spelled 1 r.file) (spelled 8 r.first), length-spelled 8 r.first)

  file_of : field 1 12 (root_block r).body ≡ r.file
  file_of =
      let small = root.file in
      let fits : r.file < 256 ^ 1 = omega (arith, small) in
      ap (field 1 12) (append_assoc (to_format ++ spelled 1 r.file) (spelled 8 r.first) (spelled 4 r.pages)) ∙ field_at 1 r.file 12 to_format (spelled 8 r.first ++ spelled 4 r.pages) long_format fits

  first_of : field 8 13 (root_block r).body ≡ r.first
  first_of =
      let high = root.first_high in
      let fits : r.first < 256 ^ 8 = omega (arith, high) in
      field_at 8 r.first 13 (to_format ++ spelled 1 r.file) (spelled 4 r.pages) long_file fits

  pages_of_root : field 4 21 (root_block r).body ≡ r.pages
  pages_of_root =
      let high = root.pages_high in
      let fits : r.pages < 256 ^ 4 = omega (arith, high) in
      ap (field 4 21) (sym (append-nil (to_first ++ spelled 4 r.pages))) ∙ field_at 4 r.pages 21 to_first [] long_first fits

same_blocks : (a b : Root) → IsRoot a → IsRoot b → root_block a ≡ root_block b → a ≡ b
same_blocks a b ra rb same =
    let body : (root_block a).body ≡ (root_block b).body = ap (λ (x : BlockValue). x.body) same in
    let stamp : a.stamp ≡ b.stamp = ap (λ (x : BlockValue). x.stamp) same in
    let format : a.format ≡ b.format = ra.format ∙ sym rb.format in
    let file : a.file ≡ b.file = sym (file_of a ra) ∙ ap (field 1 12) body ∙ file_of b rb in
    let first : a.first ≡ b.first = sym (first_of a ra) ∙ ap (field 8 13) body ∙ first_of b rb in
    let pages : a.pages ≡ b.pages = sym (pages_of_root a ra) ∙ ap (field 4 21) body ∙ pages_of_root b rb in
    λ i. record { stamp = stamp i; format = format i; file = file i; first = first i; pages = pages i }

pub one_root : (value : Option BlockValue) (a b : Root) → SaysRoot value a → SaysRoot value b → a ≡ b
one_root value a b sa sb =
    let blocks : Some (root_block a) ≡ Some (root_block b) = sym sa.0 ∙ sb.0 in
    let same : root_block a ≡ root_block b = cc in
    same_blocks a b sa.1 sb.1 same
