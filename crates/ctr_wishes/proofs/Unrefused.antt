-- What the model says of a statement against whose Lock nothing speaks, and of its Write then and later.
use Rattle.std.proofs.Common.{◌≡◌, ℕ, ℤ, List, ◌++◌, Option, None, Some, refl, sym, ◌∙◌, ap, subst, option_and_then}
use Rattle.std.specs.List.{AllByRecursion}
use Rattle.std.specs.Option.{option_map}
use Rattle.ctr_types.specs.declared.value.Column.{Column}
use Rattle.ctr_types.specs.declared.statement.Statement.{Statement}
use Rattle.ctr_types.specs.declared.tape.Act.TheVariants as act
use Rattle.ctr_types.specs.declared.tape.Refusal.{Refusal}
use Rattle.ctr_types.specs.declared.tape.Refusal.TheVariants as refusal
use Rattle.ctr_types.specs.declared.tape.Reply.TheVariants as reply
use Rattle.ctr_model.specs.declared.database.Table.{Table}
use Rattle.ctr_model.specs.Database.{Database, table_at, after}
use Rattle.ctr_model.specs.declared.state.State.{State}
use Rattle.ctr_model.specs.declared.state.Transaction.{Transaction}
use Rattle.ctr_model.specs.State.{with_transaction, rows_at, view}
use Rattle.ctr_model.specs.Refusals.{table_of, key_locked, bad_value, first_of, value_refusals, key_refusals, table_refusals, refusal_of, write_refusal}
use Rattle.ctr_model.specs.Reply.{refused_or, with_lock, on_table, with_granted}
use Rattle.ctr_legal.proofs.Keep.{all_none}
use Rattle.ctr_legal.proofs.Ready.{absurd_some}
use Rattle.ctr_wishes.specs.Models.{IsModels, reply_of}
use Rattle.ctr_wishes.specs.declared.making.Prepared.{Prepared}
use Rattle.ctr_wishes.specs.declared.making.Prepared.TheVariants.{Refused, Lays}

-- ---- its values suit the table

abbrev IsNone : Option Refusal → Type 0
IsNone r = r ≡ None

unmapped : (o : Option ℕ) → option_map refusal.BadValue o ≡ None → o ≡ None
unmapped None is = refl
unmapped (Some x) is = absurd_some (refusal.BadValue x) (sym is)

pub values_fine : (state : State) (s : ℕ) (me : Transaction) (statement : Statement) (name : List ℕ) (table : Table) → table_of statement ≡ Some name → table_at (view state me) name ≡ Some table → refusal_of state s me act.Lock statement ≡ None
    → bad_value table.schema.columns statement ≡ None
values_fine state s me statement name table named there free =
    let all : first_of (table_refusals state s me act.Lock statement name) ≡ None =
    ap (option_and_then (λ n. first_of (table_refusals state s me act.Lock statement n))) (sym named) ∙ free in
    let each = all_none (table_refusals state s me act.Lock statement name) all in
    unmapped (bad_value table.schema.columns statement)
    (subst (λ o. AllByRecursion IsNone (value_refusals statement o ++ key_refusals state s me name (key_locked act.Lock statement))) there each.1.1.1.1).0

-- ---- what is granted changes nothing that is seen

own_same : (o : Option ℤ) (n : Option (List ℕ)) (t : Transaction) → (on_table (with_lock o) n t).own ≡ t.own
own_same None None t = refl
own_same None (Some name) t = refl
own_same (Some key) None t = refl
own_same (Some key) (Some name) t = refl

snapshot_same : (o : Option ℤ) (n : Option (List ℕ)) (t : Transaction) → (on_table (with_lock o) n t).snapshot ≡ t.snapshot
snapshot_same None None t = refl
snapshot_same None (Some name) t = refl
snapshot_same (Some key) None t = refl
snapshot_same (Some key) (Some name) t = refl

pub granted_sees : (state : State) (s : ℕ) (t : Transaction) (statement : Statement)
    → view (with_transaction s (with_granted act.Lock (Some statement) t) state) (with_granted act.Lock (Some statement) t) ≡ view state t
granted_sees state s t statement =
    let o = key_locked act.Lock statement in
    let n = table_of statement in
    (λ i. after (own_same o n t i) (rows_at state (snapshot_same o n t i)))

-- ---- the reply

pub replied : (db : Database) (columns : List Column) (statement : Statement) (p : Prepared) → IsModels db columns statement p → refused_or (write_refusal db statement) reply.Done ≡ reply_of p
replied db columns statement (Refused why) models = ap (λ o. refused_or o reply.Done) models
replied db columns statement (Lays h) models = ap (λ o. refused_or o reply.Done) models.unrefused
