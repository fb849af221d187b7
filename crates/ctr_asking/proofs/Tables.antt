-- The table that a session finds, as the refusals have it.
use Rattle.std.proofs.Common.{◌≡◌, ℕ, ◌==◌, Bool, true, false, cond, List, [], ◌∷◌, Option, Some, None, refl, sym, ◌∙◌, ap, arith}
use Rattle.std.specs.Prelude.{is_some, option_and_then, ◌&&◌}
use Rattle.std.specs.Option.{option_map}
use Rattle.std.proofs.lemmas.Bool.{and_parts, eqb-true, false≢true}
use Rattle.ctr_types.specs.declared.statement.Statement.{Statement}
use Rattle.ctr_types.specs.declared.tape.Refusal.TheVariants as refusal
use Rattle.ctr_types.specs.declared.value.Column.{Column}
use Rattle.ctr_types.specs.declared.value.Schema.{Schema}
use Rattle.ctr_model.specs.declared.database.Table.{Table}
use Rattle.ctr_model.specs.Refusals.{bad_value, presence_refusals, value_refusals}
use Rattle.ctr_versions.proofs.Keys.{some_is}
use Rattle.ctr_area.specs.Areas.{Area, Title}
use Rattle.ctr_area.specs.Images.{is_live, is_standing}
use Rattle.ctr_names.specs.Search.{IsEntryFound, IsNoneFound}
use Rattle.ctr_wishes.specs.actions_Sites.{Site}
use Rattle.ctr_wishes.specs.ctr_reading.catalog_Columns.{columns_said}
use Rattle.ctr_wishes.proofs.catalog_Searched.{seen_stands}
use Rattle.ctr_txn.specs.Held.{TxnHeld}
use Rattle.ctr_asking.specs.Asking.{FindsFor, me_held, sees_for}
use Rattle.ctr_asking.specs.Causes.{presence_refused}
use Rattle.ctr_asking.specs.Values.{bad_in}

abbrev schema_in : Option Table → Option Schema
schema_in table = option_map (λ (t : Table). t.schema) table

-- where the view has the table, the refusals are those of one that is found
pub there_same : (statement : Statement) (e : ℕ) (schema : Schema) (table : Option Table) → schema_in table ≡ Some schema → presence_refused statement (Some e) ≡ presence_refusals statement table
there_same statement e schema None is = absurd (false≢true (ap is_some is))
there_same statement e schema (Some t) is = refl

pub none_same : (statement : Statement) (table : Option Table) → table ≡ None → presence_refused statement None ≡ presence_refusals statement table
none_same statement table is = sym (ap (presence_refusals statement) is)

-- where it has none, no live entry of the name stands
pub none_found : (site : Site) (txn : TxnHeld) (name : List ℕ) → FindsFor site txn name None → IsNoneFound (sees_for site txn) name site.area
none_found site txn name finds f lt named =
    let isnt = (finds.1 f (omega arith) lt).1 in
    sym (ap (λ b. b && is_standing (sees_for site txn) (site.area.title f)) named)
    ∙ sym (seen_stands site.tables txn.session.snapshot name site.area f (me_held txn)) ∙ isnt

-- ---- values

-- an entry of a table has its columns
live_columns : (title : Title) → is_live title ≡ true → columns_said title ≡ Some title.columns
live_columns title live = ap (λ n. cond (n == 0) None (Some title.columns)) (eqb-true title.state 1 live)

pub found_live : (sees : ℕ → Bool) (name : List ℕ) (area : Area) (e : ℕ) → IsEntryFound sees name area e → is_live (area.title e) ≡ true
found_live sees name area e found = (and_parts (is_live (area.title e)) _ found.2).0

values_same : (statement : Statement) (columns : List Column) (table : Option Table) → schema_in table ≡ Some (record { columns = columns }) → value_refusals statement table ≡ option_map refusal.BadValue (bad_value columns statement) ∷ []
values_same statement columns None is = absurd (false≢true (ap is_some is))
values_same statement columns (Some t) is = ap (λ (s : Schema). option_map refusal.BadValue (bad_value s.columns statement) ∷ []) (some_is t.schema (record { columns = columns }) is)

pub values_are : (statement : Statement) (area : Area) (e : ℕ) (table : Option Table) → is_live (area.title e) ≡ true → schema_in table ≡ Some (record { columns = (area.title e).columns })
    → value_refusals statement table ≡ option_map refusal.BadValue (bad_in statement area e) ∷ []
values_are statement area e table live is =
    values_same statement (area.title e).columns table is
    ∙ sym (ap (λ o. option_map refusal.BadValue (option_and_then (λ cs. bad_value cs statement) o) ∷ []) (live_columns (area.title e) live))
