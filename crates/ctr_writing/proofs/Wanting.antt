-- The model itself refuses no Write for want of room.
use Rattle.std.proofs.Common.{◌≡◌, Bool, true, false, List, Option, Some, None, subst}
use Rattle.ctr_types.specs.declared.value.Column.{Column}
use Rattle.ctr_types.specs.declared.statement.Set.{Set}
use Rattle.ctr_types.specs.declared.statement.Statement.{Statement}
use Rattle.ctr_types.specs.declared.statement.Statement.TheVariants as st
use Rattle.ctr_types.specs.declared.tape.Refusal.{Refusal}
use Rattle.ctr_types.specs.declared.tape.Refusal.TheVariants as refusal
use Rattle.ctr_types.specs.declared.tape.Reply.TheVariants as reply
use Rattle.ctr_types.specs.declared.value.Row.{Row}
use Rattle.std.specs.Prelude.{is_none, is_some}
use Rattle.ctr_model.specs.Database.{Database, table_at}
use Rattle.ctr_model.specs.Refusals.{columns_of, key_of, row_of, update_refusal, updated, when, write_refusal}
use Rattle.ctr_model.specs.Reply.{refused_or}
use Rattle.ctr_redo.specs.States.{State as Stored}
use Rattle.ctr_writing.specs.Wants.{IsRefusedFor}

module _ (s t : Stored) (why : Refusal) where
  -- nothing is refused
  fine : refused_or None reply.Done ≡ reply.Refused why → IsRefusedFor why s t
  fine is = absurd (cc is)

  -- this is, where it is
  one : (r : Refusal) → IsRefusedFor r s t → refused_or (Some r) reply.Done ≡ reply.Refused why → IsRefusedFor why s t
  one r cause is = let same : r ≡ why = cc is in subst (λ q. IsRefusedFor q s t) same cause

  by : (b : Bool) (r : Refusal) → IsRefusedFor r s t → refused_or (when b r) reply.Done ≡ reply.Refused why → IsRefusedFor why s t
  by true r cause is = one r cause is
  by false r cause is = fine is

  row : (cs : List Column) (sets : List Set) (o : Option Row) → refused_or (update_refusal cs sets o) reply.Done ≡ reply.Refused why → IsRefusedFor why s t
  row cs sets None is = one refusal.NotFound tt is
  row cs sets (Some r) is = by (is_none (updated cs sets r)) refusal.OutOfRange tt is

pub models_cause : (db : Database) (s t : Stored) (why : Refusal) (statement : Statement) → refused_or (write_refusal db statement) reply.Done ≡ reply.Refused why → IsRefusedFor why s t
models_cause db s t why st.Begin is = fine s t why is
models_cause db s t why st.Commit is = fine s t why is
models_cause db s t why st.Rollback is = fine s t why is
models_cause db s t why (st.Create table schema) is = fine s t why is
models_cause db s t why (st.DropTable table) is = fine s t why is
models_cause db s t why (st.Insert table values) is = by s t why (is_some (row_of (table_at db table) (key_of values))) refusal.Duplicate tt is
models_cause db s t why (st.Select table at) is = fine s t why is
models_cause db s t why (st.Update table sets at) is = row s t why (columns_of (table_at db table)) sets (row_of (table_at db table) at.key) is
models_cause db s t why (st.Delete table at) is = by s t why (is_none (row_of (table_at db table) at.key)) refusal.NotFound tt is
