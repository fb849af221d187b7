-- The body of a root and its checks.
use Rattle.std.proofs.Common.{◌≡◌, ℕ, ◌+◌, ◌^◌, ◌≤◌, ◌<◌, List, [], ◌++◌, length, take, drop, refl, sym, ◌∙◌, ap, arith, length-append, Ok, Err}
use Rattle.std.specs.Prelude.{codes}
use Rattle.std.proofs.lemmas.List.{append-nil, take_all, drop_all}
use Rattle.ctr_disk.specs.types_File.TheVariants.{Root as RootFile}
use Rattle.ctr_home.specs.declared.root.Root.{Root}
use Rattle.ctr_disk.specs.declared.fault.StoreFault.{StoreFault}
use Rattle.ctr_bytes.specs.Fields.{spelled, field, with_field}
use Rattle.ctr_bytes.proofs.FieldLaws.{AreBytes, put_next, side, length-spelled, field_at, field-append, spelled_field}
use Rattle.ctr_home.specs.Blocks.{BlockValue}
use Rattle.ctr_home.specs.Checks.{judged}
use Rattle.ctr_home.specs.Roots.{root_body, root_block, root_checks, IsRoot, SaysOrRefuses}
use Rattle.ctr_home.proofs.CheckLemmas.{all_pass, pass_all}

magic_is : spelled 8 0x3130304244525443 ≡ codes "CTRDB001"
unfolding spelled
magic_is = refl

-- the root in the fields of a value
abbrev pub root_in : BlockValue → Root
root_in v = record { stamp = v.stamp; format = field 4 8 v.body; file = field 1 12 v.body; first = field 8 13 v.body; pages = field 4 21 v.body }

-- what its checks say where all pass
module _ (home : ℕ) (v : BlockValue) (whole : length v.body ≡ 25) (below : AreBytes v.body) where
  part : (n at : ℕ) → at + n ≤ 25 → spelled n (field n at v.body) ≡ take n (drop at v.body)
  part n at fits = spelled_field n at v.body (omega (arith, whole, fits)) below

  body_is : field 8 0 v.body ≡ 0x3130304244525443 → v.body ≡ root_body (root_in v)
  body_is magic =
      let m : take 8 (drop 0 v.body) ≡ codes "CTRDB001" = sym (part 8 0 (omega arith)) ∙ ap (spelled 8) magic ∙ magic_is in
      sym (take_all 25 v.body (omega (arith, whole)))
      ∙ sym (side 0 21 4 v.body) ∙ ap (λ (l : List ℕ). l ++ take 4 (drop 21 v.body)) (sym (side 0 13 8 v.body))
      ∙ ap (λ (l : List ℕ). l ++ take 8 (drop 13 v.body) ++ take 4 (drop 21 v.body)) (sym (side 0 12 1 v.body))
      ∙ ap (λ (l : List ℕ). l ++ take 1 (drop 12 v.body) ++ take 8 (drop 13 v.body) ++ take 4 (drop 21 v.body)) (sym (side 0 8 4 v.body))
      ∙ ap (λ (l : List ℕ). l ++ take 4 (drop 8 v.body) ++ take 1 (drop 12 v.body) ++ take 8 (drop 13 v.body) ++ take 4 (drop 21 v.body)) m
      ∙ ap (λ (l : List ℕ). codes "CTRDB001" ++ l ++ take 1 (drop 12 v.body) ++ take 8 (drop 13 v.body) ++ take 4 (drop 21 v.body)) (sym (part 4 8 (omega arith)))
      ∙ ap (λ (l : List ℕ). codes "CTRDB001" ++ spelled 4 (field 4 8 v.body) ++ l ++ take 8 (drop 13 v.body) ++ take 4 (drop 21 v.body)) (sym (part 1 12 (omega arith)))
      ∙ ap (λ (l : List ℕ). codes "CTRDB001" ++ spelled 4 (field 4 8 v.body) ++ spelled 1 (field 1 12 v.body) ++ l ++ take 4 (drop 21 v.body)) (sym (part 8 13 (omega arith)))
      ∙ ap (λ (l : List ℕ). codes "CTRDB001" ++ spelled 4 (field 4 8 v.body) ++ spelled 1 (field 1 12 v.body) ++ spelled 8 (field 8 13 v.body) ++ l) (sym (part 4 21 (omega arith)))

  pub says : judged RootFile (root_checks home v) ≡ Ok tt → SaysOrRefuses home v (Ok (root_in v))
  says is =
      let number = all_pass RootFile (root_checks home v) is in
      let magic = number.1 in
      let format = magic.1 in
      let file = format.1 in
      let first = file.1 in
      let pages = first.1 in
      let stamp = pages.1 in
      let same = body_is (sym magic.0) in (
        (λ i. record { number = sym number.0 i; stamp = v.stamp; body = same i }),
        record {
          format = sym format.0;
          file = omega (arith, file.0);
          first_low = omega (arith, first.0);
          first_high = omega (arith, first.0);
          pages_low = omega (arith, pages.0);
          pages_high = omega (arith, pages.0);
          stamp = omega (arith, stamp.0);
        },
      )

-- a root's body has its fields
module _ (r : Root) where
  abbrev to_format : List ℕ
  to_format = codes "CTRDB001" ++ spelled 4 r.format

  abbrev to_file : List ℕ
  to_file = to_format ++ spelled 1 r.file

  abbrev to_first : List ℕ
  to_first = to_file ++ spelled 8 r.first

  long_format : length to_format ≡ 12
  long_format = omega (arith, length-append (codes "CTRDB001") (spelled 4 r.format), length-spelled 4 r.format)

  long_file : length to_file ≡ 13
  long_file = omega (arith, long_format, length-append to_format (spelled 1 r.file), length-spelled 1 r.file)

  long_first : length to_first ≡ 21
  long_first = omega (arith, long_file, length-append to_file (spelled 8 r.first), length-spelled 8 r.first)

  at_end : (n x at : ℕ) (front : List ℕ) → length front ≡ at → x < 256 ^ n → field n at (front ++ spelled n x) ≡ x
  at_end n x at front is_at fits = ap (field n at) (sym (append-nil (front ++ spelled n x))) ∙ field_at n x at front [] is_at fits

  in_first : (n k : ℕ) → k + n ≤ 21 → field n k (root_body r) ≡ field n k to_first
  in_first n k fits = field-append n k to_first (spelled 4 r.pages) (omega (arith, long_first, fits))

  in_file : (n k : ℕ) → k + n ≤ 13 → field n k (root_body r) ≡ field n k to_file
  in_file n k fits = in_first n k (omega (arith, fits)) ∙ field-append n k to_file (spelled 8 r.first) (omega (arith, long_file, fits))

  in_format : (n k : ℕ) → k + n ≤ 12 → field n k (root_body r) ≡ field n k to_format
  in_format n k fits = in_file n k (omega (arith, fits)) ∙ field-append n k to_format (spelled 1 r.file) (omega (arith, long_format, fits))

  magic_field : field 8 0 (codes "CTRDB001") ≡ 0x3130304244525443
  unfolding field
  magic_field = refl

  magic : field 8 0 (root_body r) ≡ 0x3130304244525443
  magic = in_format 8 0 (omega arith) ∙ field-append 8 0 (codes "CTRDB001") (spelled 4 r.format) (omega arith) ∙ magic_field

  format : r.format < 256 ^ 4 → field 4 8 (root_body r) ≡ r.format
  format fits = in_format 4 8 (omega arith) ∙ at_end 4 r.format 8 (codes "CTRDB001") refl fits

  file : r.file < 256 ^ 1 → field 1 12 (root_body r) ≡ r.file
  file fits = in_file 1 12 (omega arith) ∙ at_end 1 r.file 12 to_format long_format fits

  first : r.first < 256 ^ 8 → field 8 13 (root_body r) ≡ r.first
  first fits = in_first 8 13 (omega arith) ∙ at_end 8 r.first 13 to_file long_file fits

  pages : r.pages < 256 ^ 4 → field 4 21 (root_body r) ≡ r.pages
  pages fits = at_end 4 r.pages 21 to_first long_first fits

-- a value that says a root passes its checks
module _ (home : ℕ) (r : Root) (root : IsRoot r) where
  small_format : r.format < 256 ^ 4
  small_format = omega (arith, root.format)

  small_pages : r.pages < 256 ^ 4
  small_pages = omega (arith, root.pages_high)

  pub passes : judged RootFile (root_checks home (root_block r)) ≡ Ok tt
  passes =
      let f = format r small_format in
      let b = file r (omega (arith, root.file)) in
      let l = first r (omega (arith, root.first_high)) in
      let p = pages r small_pages in
      pass_all RootFile (root_checks home (root_block r)) (
        refl,
        (
          sym (magic r),
          (
            sym (f ∙ root.format),
            (
              omega (arith, b, root.file),
              (
                omega (arith, l, root.first_low, root.first_high),
                (
                  omega (arith, p, root.pages_low, root.pages_high),
                  (
                    omega (arith, l, p, root.stamp),
                    tt,
                  ),
                ),
              ),
            ),
          ),
        ),
      )

-- so one that fails says none
pub refuses : (home : ℕ) (v : BlockValue) (e : StoreFault) → judged RootFile (root_checks home v) ≡ Err e → SaysOrRefuses home v (Err e)
refuses home v e is = (is, λ r same root. let passed = ap (λ (w : BlockValue). judged RootFile (root_checks home w)) same ∙ passes home r root in absurd (cc (is, passed)))

-- all fields of a root, put one behind another
module _ (r : Root) (old : List ℕ) (long : length old ≡ 25) where
  abbrev m8 : List ℕ
  m8 = spelled 8 0x3130304244525443

  pub all_put : with_field 4 21 r.pages (with_field 8 13 r.first (with_field 1 12 r.file (with_field 4 8 r.format (with_field 8 0 0x3130304244525443 old)))) ≡ root_body r
  all_put =
      let l1 = length-spelled 8 0x3130304244525443 in
      let l2 : length (m8 ++ spelled 4 r.format) ≡ 12 = omega (arith, l1, length-append m8 (spelled 4 r.format), length-spelled 4 r.format) in
      let l3 : length (m8 ++ spelled 4 r.format ++ spelled 1 r.file) ≡ 13 = omega (arith, l2, length-append (m8 ++ spelled 4 r.format) (spelled 1 r.file), length-spelled 1 r.file) in
      let l4 : length (m8 ++ spelled 4 r.format ++ spelled 1 r.file ++ spelled 8 r.first) ≡ 21 =
      omega (arith, l3, length-append (m8 ++ spelled 4 r.format ++ spelled 1 r.file) (spelled 8 r.first), length-spelled 8 r.first) in
      let all = m8 ++ spelled 4 r.format ++ spelled 1 r.file ++ spelled 8 r.first ++ spelled 4 r.pages in
      let none : drop 25 old ≡ [] = drop_all 25 old (omega (arith, long)) in
      put_next 4 r.pages 21 (m8 ++ spelled 4 r.format ++ spelled 1 r.file ++ spelled 8 r.first) old _ (sym l4)
      (put_next 8 r.first 13 (m8 ++ spelled 4 r.format ++ spelled 1 r.file) old _ (sym l3)
      (put_next 1 r.file 12 (m8 ++ spelled 4 r.format) old _ (sym l2) (put_next 4 r.format 8 m8 old _ (sym l1) (put_next 8 0x3130304244525443 0 [] old old refl refl))))
      ∙ ap (λ (l : List ℕ). all ++ l) none ∙ append-nil all
      ∙ ap (λ (l : List ℕ). l ++ spelled 4 r.format ++ spelled 1 r.file ++ spelled 8 r.first ++ spelled 4 r.pages) magic_is
