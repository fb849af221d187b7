-- What is read of a page whose bytes are there can be made.
use Rattle.std.proofs.Common.{◌≡◌, ⊎_elim, ℕ, zero, suc, ◌+◌, ◌^◌, ◌<◌, ◌≤◌, cond, List, length, None, Some, refl, sym, ap, subst, arith, slice_index}
use Rattle.std.specs.Prelude.{FitsSigned, true}
use Rattle.std.specs.Int.{w64, cast_signed}
use Rattle.std.proofs.Math.Facts.{sfits_to_z}
use Rattle.std.proofs.lemmas.Bool.{eq-eqb, ne_eqb, cases_eq}
use Rattle.ctr_actions.proofs.versions_Keys.{known}
use Rattle.ctr_bytes.specs.Fields.{field}
use Rattle.ctr_bytes.proofs.FieldLaws.{field_fits}
use Rattle.ctr_area.proofs.Bytes.{length-piece}
use Rattle.ctr_page.specs.declared.rows.Version.{Version}
use Rattle.ctr_page.specs.Places.{has_previous, previous_at, pointer_at, kept_pointer_at, slot_size, kept_size}
use Rattle.ctr_page.specs.Reading.{piece, place_in, version_in, if_there, previous_in, slot_in, older_in}
use Rattle.ctr_page.specs.Making.{PlaceFits, IsVersion, IsPrevious, IsSlot, IsEntry}
use Rattle.ctr_dead.proofs.walk_Entries.{field_there}

above_0 : (n : ℕ) → (n ≡ 0 → ⊥) → 0 < n
above_0 zero some = absurd (some refl)
above_0 (suc n) some = omega arith

module _ (page : List ℕ) (below : (k : ℕ) → slice_index page k < 256) (start size : ℕ) (inside : start + size ≤ length page) where
  abbrev tail : List ℕ
  tail = piece start size page

  fit : (n k : ℕ) → k + n ≤ size → field n k tail < 256 ^ n
  fit n k fits = subst (λ x. x < 256 ^ n) (sym (field_there n k start size page fits inside)) (field_fits n (start + k) page below)

  key_fits : 9 ≤ size → FitsSigned w64 (cast_signed w64 (field 8 1 tail))
  key_fits room = sfits_to_z (record { fits = fit 8 1 (omega (arith, room)) })

  version_fits : (w k : ℕ) → k + 9 + w ≤ size → IsVersion w (version_in w k tail)
  version_fits w k room = (
    fit 8 k (omega (arith, room)),
    fit 1 (k + 8) (omega (arith, room)),
    length-piece (k + 9) w tail (subst (λ l. k + 9 + w ≤ l) (sym (length-piece start size page inside)) room),
  )

  place_fits : (k : ℕ) → k + 6 ≤ size → PlaceFits (place_in k tail)
  place_fits k room = (fit 4 k (omega (arith, room)), fit 2 (k + 4) (omega (arith, room)))

  previous_fits : (w : ℕ) → slot_size w ≤ size → IsPrevious w (previous_in w tail)
  previous_fits w room = known (has_previous w)
      (λ has. subst (λ b. IsPrevious w (cond b (if_there v) None)) (sym has) (there has))
      (λ hasnt. subst (λ b. IsPrevious w (cond b (if_there v) None)) (sym hasnt) tt)
    where
      v : Version
      v = version_in w (previous_at w) tail

      there : has_previous w ≡ true → IsPrevious w (if_there v)
      there has = ⊎_elim
          (λ none. subst (λ b. IsPrevious w (cond b None (Some v))) (sym (eq-eqb v.xid 0 none)) tt)
          (λ some. subst (λ b. IsPrevious w (cond b None (Some v))) (sym (ne_eqb v.xid 0 some))
          (has, above_0 v.xid some, version_fits w (previous_at w) (omega (arith, room, ap (λ b. cond b (previous_at w + 9 + w) (previous_at w) + 6) has))))
          (cases_eq v.xid 0)

  pub slot_fits : (w : ℕ) → slot_size w ≤ size → IsSlot w (slot_in w tail)
  slot_fits w room = record {
    used = fit 1 0 (omega (arith, room, head_room));
    key = key_fits (omega (arith, room, head_room));
    head = version_fits w 9 (omega (arith, room, head_room));
    previous = previous_fits w room;
    older = place_fits (pointer_at w) (omega (arith, room));
  }
    where
      head_room : 24 + w ≤ slot_size w
      head_room = known (has_previous w)
          (λ is. omega (arith, ap (λ b. cond b (previous_at w + 9 + w) (previous_at w) + 6) is)) (λ isnt. omega (arith, ap (λ b. cond b (previous_at w + 9 + w) (previous_at w) + 6) isnt))

  pub entry_fits : (w : ℕ) → kept_size w ≤ size → IsEntry w (older_in w tail)
  entry_fits w room = record {
    used = fit 1 0 (omega (arith, room));
    key = key_fits (omega (arith, room));
    version = version_fits w 9 (omega (arith, room));
    older = place_fits (kept_pointer_at w) (omega (arith, room));
  }
