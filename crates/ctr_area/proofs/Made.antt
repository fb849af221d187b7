-- The bytes of a new entry of the catalog, as an area reads them.
use Rattle.std.proofs.Common.{◌≡◌, ℕ, ◌+◌, ◌-◌, ◌*◌, ◌/◌, ◌%◌, ◌^◌, ◌<◌, ◌≤◌, cond, List, [], ◌∷◌, ◌++◌, length, replicate, length-append, refl, sym, ◌∙◌, ap, subst, arith}
use Rattle.std.specs.Prelude.{◌==◌}
use Rattle.std.specs.List.{flat_map, AllByRecursion}
use Rattle.std.proofs.lemmas.List.{length-replicate, drop_at, append-nil}
use Rattle.ctr_page.specs.types_Column.{Column}
use Rattle.ctr_meta.specs.ctr_bytes.Fields.{spelled, field}
use Rattle.ctr_page.proofs.bytes_FieldLaws.{length-spelled, field-drop}
use Rattle.ctr_page.specs.ctr_value.Columns.{ColumnFits, ColumnsFit, column_bytes}
use Rattle.ctr_page.specs.Columns.{entry_in, text_bytes, columns_bytes, new_entry_bytes}
use Rattle.ctr_page.proofs.Back.{length-more}
use Rattle.ctr_page.proofs.Entries.{entry_back, NewEntry, as_others, length-column, kind_small}
use Rattle.ctr_area.specs.Areas.{Firsts, no_pages}
use Rattle.ctr_area.specs.Reading.{title_of, firsts_of, area_of}
use Rattle.ctr_area.specs.Changes.{new_title, empty_chains, with_entry, ChangesEntry}
use Rattle.ctr_area.proofs.Entered.{entry_made}

length-columns : (cs : List Column) → AllByRecursion (ColumnFits 64) cs → length (flat_map column_bytes cs) ≡ 18 * length cs
length-columns [] fits = refl
length-columns (c ∷ cs) fits =
    omega (
      arith,
      length-append (column_bytes c) (flat_map column_bytes cs),
      length-column c (kind_small 64 c.kind (omega arith) fits.0.1) fits.0.0.1,
      length-columns cs fits.1,
    )

module _ (creator : ℕ) (name : List ℕ) (cs : List Column) (drawn : creator < 256 ^ 8) (short : length name ≤ 16) (fits : ColumnsFit cs) where
  abbrev new : List ℕ
  new = new_entry_bytes creator name cs

  abbrev front : List ℕ
  front = spelled 1 1 ++ spelled 8 creator ++ spelled 8 0 ++ text_bytes 16 name ++ columns_bytes cs

  length-front : length front ≡ 179
  length-front =
      let others = as_others cs fits in
      let head = spelled 1 1 ++ spelled 8 creator ++ spelled 8 0 in
      let three : length head ≡ 17 = omega (arith, length-more 8 0 (spelled 1 1 ++ spelled 8 creator), length-more 8 creator (spelled 1 1), length-spelled 1 1) in
      let named : length (text_bytes 16 name) ≡ 17 = omega (arith, length-append name (replicate (16 - length name) 0), length-replicate {A = ℕ} (16 - length name) 0, short) in
      let columns : length (columns_bytes cs) ≡ 145 =
      omega (
        arith,
        length-append (spelled 1 (length cs) ++ flat_map column_bytes cs) (replicate (18 * (8 - length cs)) 0),
        length-append (spelled 1 (length cs)) (flat_map column_bytes cs),
        length-spelled 1 (length cs),
        length-columns cs others.0,
        length-replicate {A = ℕ} (18 * (8 - length cs)) 0,
        others.1,
      ) in
      omega (arith, length-append (head ++ text_bytes 16 name) (columns_bytes cs), length-append head (text_bytes 16 name), three, named, columns)

  pub length-new : length new ≡ 256
  length-new = omega (arith, length-append front (replicate 77 0), length-front, length-replicate {A = ℕ} 77 0)

  read : NewEntry creator name cs new
  read = entry_back creator name cs new drawn short fits ([], sym (append-nil new))

  title_made : title_of (entry_in new) ≡ new_title creator name cs
  title_made = λ i. record {
    state = read.state i;
    creator = read.creator_is i;
    dropper = read.dropper i;
    name = read.name_is i;
    columns = read.columns i;
  }

  -- the chains begin among the zeros
  none : (k : ℕ) → field 4 k (replicate 77 0) ≡ 0 → field 4 (179 + k) new ≡ 0
  none k zero = sym (field-drop 4 k 179 new) ∙ ap (field 4 k) (drop_at front (replicate 77 0) 179 length-front) ∙ zero

  firsts_made : firsts_of (entry_in new) ≡ empty_chains
  unfolding field
  firsts_made = ap (λ (n : ℕ). cond (n == 0) no_pages chains) read.state ∙ (λ i. record {
    buckets = none 0 refl i ∷ none 4 refl i ∷ none 8 refl i ∷ none 12 refl i ∷ none 16 refl i ∷ none 20 refl i ∷ none 24 refl i ∷ none 28 refl i ∷ [];
    versions = none 32 refl i;
  })
    where
      chains : Firsts
      chains = record {
        buckets = field 4 179 new ∷ field 4 183 new ∷ field 4 187 new ∷ field 4 191 new ∷ field 4 195 new ∷ field 4 199 new ∷ field 4 203 new ∷ field 4 207 new ∷ [];
        versions = field 4 211 new;
      }

  pub new_entry_made : (pages : ℕ → List ℕ) (e : ℕ) → e < 32 → 256 * (e % 16) + 256 ≤ length (pages (1 + e / 16))
      → ChangesEntry e (new_title creator name cs) empty_chains (area_of pages) (area_of (with_entry e new pages))
  new_entry_made pages e few whole =
      subst (λ t. ChangesEntry e t empty_chains (area_of pages) (area_of (with_entry e new pages))) title_made
      (subst (λ f. ChangesEntry e (title_of (entry_in new)) f (area_of pages) (area_of (with_entry e new pages))) firsts_made
      (entry_made pages e new few length-new (omega (arith, whole))))
