-- What is free on a page of versions by its bytes is free in the area.
use Rattle.std.proofs.Common.{◌≡◌, ◌≢◌, ℕ, true, cond, List, drop, Ok, sym, ◌∙◌, ap, subst, arith}
use Rattle.std.specs.Prelude.{◌==◌, not, Option}
use Rattle.std.proofs.lemmas.Bool.{eqb-true, eqb-false, eq-eqb, ne_eqb}
use Rattle.ctr_types.specs.declared.value.Column.{Column}
use Rattle.ctr_types.specs.declared.value.Kind.{Kind}
use Rattle.ctr_passed.proofs.versions_Keys.{known}
use Rattle.ctr_bytes.specs.Fields.{field}
use Rattle.ctr_bytes.proofs.FieldLaws.{got_byte}
use Rattle.ctr_rec.specs.Damage.{at_most}
use Rattle.ctr_page.specs.declared.rows.VersionEntry.{VersionEntry}
use Rattle.ctr_page.specs.Places.{kept_size, room_for}
use Rattle.ctr_page.specs.Reading.{piece, older_at}
use Rattle.ctr_page.specs.Columns.{kinds_of, kinds_width, kept_start}
use Rattle.ctr_page.specs.Damage.{kept_check, used_kept_check}
use Rattle.ctr_page.specs.Searching.{IsFirst}
use Rattle.ctr_page.proofs.Holding.{kinds_wide, most_ok}
use Rattle.ctr_page.proofs.Searches.{ends_first}
use Rattle.ctr_passed.proofs.area_Bytes.{byte_in_piece}
use Rattle.ctr_passed.proofs.area_Written.{one_of_two}
use Rattle.ctr_passed.specs.area_Areas.{Older, free_older}
use Rattle.ctr_passed.specs.area_Reading.{version_said, older_said, header_on, columns_on, width_on, size_of_kind, area_of}
use Rattle.ctr_pvs.specs.Entries.{checks_version, is_free_version, EndsFree, is_free_older}

-- a version entry that passes its check is used or free
one_or_none : (kinds : List Kind) (counted start : ℕ) (page : List ℕ) → kept_check kinds counted start page ≡ Ok tt → field 1 start page ≢ 1 → field 1 start page ≡ 0
unfolding kept_check
one_or_none kinds counted start page e isnt =
    omega (
      arith,
      isnt,
      most_ok start 1 (field 1 start page) (sym (ap (λ b. cond b (used_kept_check kinds counted start page) (at_most start 1 (field 1 start page))) (ne_eqb (field 1 start page) 1 isnt)) ∙ e),
    )

-- by what it says of being used
free_same : (cs : List Column) (v : VersionEntry) → (v.used ≢ 1 → v.used ≡ 0) → not (older_said cs v).used ≡ (v.used == 0)
free_same cs v fits = known (v.used == 1)
    (λ is. ap (λ b. not (cond b there free_older).used) is ∙ sym (ap (λ n. n == 0) (eqb-true v.used 1 is)))
    (λ isnt. ap (λ b. not (cond b there free_older).used) isnt ∙ sym (ap (λ n. n == 0) (fits (eqb-false v.used 1 isnt))))
  where
    there : Older
    there = record { used = true; key = v.key; version = version_said cs v.key v.version; pointer = v.older }

module _ (pages : ℕ → List ℕ) (p counted : ℕ) (versions : (header_on pages p).kind ≡ 2) where
  abbrev kinds : List Kind
  kinds = kinds_of (columns_on pages p)

  abbrev w : ℕ
  w = kinds_width kinds

  wide : w ≡ width_on pages p
  wide = kinds_wide (drop 1 (columns_on pages p))

  used_is : (m : ℕ) → (older_at w m (pages p)).used ≡ field 1 (kept_start kinds m) (pages p)
  used_is m =
      sym (got_byte 0 (piece (kept_start kinds m) (kept_size w) (pages p))) ∙ byte_in_piece (kept_start kinds m) (kept_size w) (pages p) (omega arith) ∙ got_byte (kept_start kinds m) (pages p)

  same_free : (m : ℕ) → checks_version kinds counted (pages p) m ≡ Ok tt → is_free_older (area_of pages) p m ≡ is_free_version w (pages p) m
  same_free m passes =
      ap (λ b. not (cond b (older_said (columns_on pages p) (older_at (width_on pages p) m (pages p))) free_older).used) (eq-eqb (header_on pages p).kind 2 versions)
      ∙ ap (λ v. not (older_said (columns_on pages p) (older_at v m (pages p))).used) (sym wide)
      ∙ free_same (columns_on pages p) (older_at w m (pages p))
      (λ isnt. used_is m ∙ one_or_none kinds counted (kept_start kinds m) (pages p) passes (λ is. isnt (used_is m ∙ is)))

  rooms : room_for (kept_size w) ≡ (area_of pages).room p
  rooms = ap (λ v. room_for (kept_size v)) wide ∙ sym (ap (λ b. room_for (size_of_kind b (width_on pages p))) (one_of_two (header_on pages p).kind versions))

  pub first_in_area : (found : Option ℕ) → EndsFree kinds counted (pages p) (Ok found) → IsFirst (is_free_older (area_of pages) p) 0 ((area_of pages).room p) found
  first_in_area found ends =
      subst (λ r. IsFirst (is_free_older (area_of pages) p) 0 r found) rooms
      (ends_first (checks_version kinds counted (pages p)) (is_free_version w (pages p)) (is_free_older (area_of pages) p) 0 (room_for (kept_size w)) found (λ m lt passes. same_free m passes) ends)
