-- Rows that are shown are those of the table that they stand for.
use Rattle.std.proofs.Common.{◌≡◌, inl, inr, ℕ, ℤ, Bool, List, Option, None, Some, refl, sym, ◌∙◌, ap}
use Rattle.std.specs.Option.{option_map, option_to_list}
use Rattle.ctr_types.specs.declared.value.Column.{Column}
use Rattle.ctr_types.specs.declared.value.Row.{Row}
use Rattle.ctr_types.specs.declared.statement.KeyIs.{KeyIs}
use Rattle.ctr_model.specs.declared.database.Table.{Table}
use Rattle.ctr_model.specs.Refusals.{row_of}
use Rattle.ctr_model.specs.Reply.{rows_found}
use Rattle.ctr_area.specs.Areas.{Area}
use Rattle.ctr_page.specs.declared.rows.Place.{Place}
use Rattle.ctr_area.specs.Sound.{IsUsedSlot}
use Rattle.ctr_views.specs.chain_Visible.{visible_row}
use Rattle.ctr_views.specs.Scanning.{AreScanned, IsNoSlot}
use Rattle.ctr_reading.specs.Reading.{IsRowSeen, AreShown}

one_found : (o : Option Table) (at : KeyIs) → rows_found (Some at) o ≡ option_to_list (row_of o at.key)
one_found None at = refl
one_found (Some table) at = refl

pub rows_viewed : (o : Option Table) (columns : List Column) (test : ℕ → Bool) (area : Area) (e : ℕ) → ((rows : List (ℤ × Row)) → AreScanned test area e rows → o ≡ Some (record { schema = record { columns = columns }; rows = rows }))
    → ((key : ℤ) (row : Option Row) → IsRowSeen test area e key row → row ≡ row_of o key) → (at : Option KeyIs) (rows : List Row) → AreShown test area e (option_map (λ (k : KeyIs). k.key) at) rows → rows ≡ rows_found at o
rows_viewed o columns test area e scanned seen None rows (entries, are, is) = is ∙ sym (ap (rows_found None) (scanned entries are))
rows_viewed o columns test area e scanned seen (Some at) rows (row, its, is) = is ∙ ap option_to_list (seen at.key row its) ∙ sym (one_found o at)

pub row_viewed : (o : Option Table) (test : ℕ → Bool) (area : Area) (e : ℕ) (key : ℤ) (row : Option Row) → ((at : Place) → IsUsedSlot area e at → row_of o (area.slot at).key ≡ visible_row test area at)
    → (IsNoSlot area e key → row_of o key ≡ None) → IsRowSeen test area e key row → row ≡ row_of o key
row_viewed o test area e key row used none (inl (at, its, is, shown)) = shown ∙ sym (used at its) ∙ ap (row_of o) is
row_viewed o test area e key row used none (inr (without, is)) = is ∙ sym (none without)
