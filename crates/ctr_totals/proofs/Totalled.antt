-- From what was counted of the slots of a table to the totals of a database.
use Rattle.std.proofs.Common.{◌≡◌, ◌≢◌, ◌<◌, ℕ, Bool, refl, sym, ◌∙◌, subst, codes, arith}
use Rattle.std.specs.Prelude.{◌==◌, ◌&&◌, not}
use Rattle.std.proofs.lemmas.Bool.{and_parts, eqb-true}
use Rattle.ctr_load.specs.Statements.{load_columns}
use Rattle.ctr_meta.specs.Tables.{Tables}
use Rattle.ctr_area.specs.Areas.{Area}
use Rattle.ctr_area.specs.Chains.{slot_places}
use Rattle.ctr_area.specs.Images.{image_rows, is_committed_in}
use Rattle.ctr_area.specs.Sound.{IsSoundArea}
use Rattle.ctr_record_laws.specs.Bounds.{IsInBounds}
use Rattle.ctr_totals.specs.declared.counting.Totals.{Totals}
use Rattle.ctr_totals.specs.Totals.{no_totals, AreTotalsOf, AreTotals}
use Rattle.ctr_totals.specs.Counting.{AreCountedOf}
use Rattle.ctr_totals.specs.Finding.{IsLoad}
use Rattle.ctr_totals.proofs.Named.{table_found, no_table}
use Rattle.ctr_totals.proofs.Rows.{table_seen}

not_one : (n : ℕ) → n ≡ 0 → n ≡ 1 → ⊥
not_one n none one = omega (arith, none, one)

-- a table that stands isn't free
pub not_free : (test : ℕ → Bool) (area : Area) (e : ℕ) → IsLoad test (area.title e) → (area.title e).state ≢ 0
not_free test area e is none =
    not_one (area.title e).state none (eqb-true (area.title e).state 1 (and_parts ((area.title e).state == 1) (test (area.title e).creator && not (test (area.title e).dropper)) is.0).0)

module _ (counted : ℕ) (tables : Tables) (area : Area) (sound : IsSoundArea counted tables area) (bounds : IsInBounds area) where
  abbrev test : ℕ → Bool
  test = is_committed_in tables

  pub none_named : ((e : ℕ) → e < 32 → IsLoad test (area.title e) → ⊥) → AreTotals (image_rows test area) no_totals
  none_named none = subst (λ t. AreTotalsOf t no_totals) (sym (no_table test area (codes "load") none)) refl

  pub other_columns : (e : ℕ) → e < 32 → IsLoad test (area.title e) → ((area.title e).columns ≡ load_columns → ⊥) → AreTotals (image_rows test area) no_totals
  other_columns e lt is others = subst (λ t. AreTotalsOf t no_totals) (sym (table_found test area (codes "load") sound.names.standing e lt is)) ((λ same. absurd (others same)), (λ isnt. refl))

  pub counted_table : (e : ℕ) → e < 32 → IsLoad test (area.title e) → (area.title e).columns ≡ load_columns → (t : Totals) → AreCountedOf test area (slot_places area e) t → AreTotals (image_rows test area) t
  counted_table e lt is columns t counts =
      let seen = table_seen test counted tables area e sound bounds in
      let rows = counts.rows ∙ sym seen.rows_are in
      let sum = counts.sum ∙ sym seen.sum_is in
      subst (λ x. AreTotalsOf x t) (sym (table_found test area (codes "load") sound.names.standing e lt is)) (
        (λ same. λ i. record { rows = rows i; sum = sum i }),
        (λ isnt. absurd (isnt columns)),
      )
