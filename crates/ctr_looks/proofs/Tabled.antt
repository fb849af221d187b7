-- A statement that makes or drops a table, and what its Write will do.
use Rattle.std.proofs.Common.{◌≡◌, ℕ, true, false, cond, List, Option, Some, None, refl, sym, ◌∙◌, ap, subst}
use Rattle.std.specs.Prelude.{◌&&◌, is_some, slice_get, option_and_then}
use Rattle.ctr_disk.specs.declared.disk.Disk.{Ghosts}
use Rattle.std.proofs.lemmas.Bool.{false≢true}
use Rattle.ctr_types.specs.declared.statement.Statement.{Statement}
use Rattle.ctr_types.specs.declared.statement.Statement.TheVariants as st
use Rattle.ctr_types.specs.declared.tape.Act.TheVariants as act
use Rattle.ctr_model.specs.declared.state.State.{State}
use Rattle.ctr_types.specs.declared.tape.Refusal.TheVariants as refusal
use Rattle.ctr_model.specs.declared.database.Table.{Table}
use Rattle.ctr_model.specs.declared.state.Transaction.{Transaction}
use Rattle.ctr_model.specs.Database.{table_at}
use Rattle.ctr_model.specs.Refusals.{changes_schema, creates, first_of, key_written, refusal_of, table_of, table_refusals, when}
use Rattle.ctr_model.specs.State.{view}
use Rattle.ctr_model.specs.Tape.{acts_of}
use Rattle.ctr_legal.proofs.Keep.{all_none}
use Rattle.ctr_versions.proofs.Keys.{known, some_is}
use Rattle.ctr_store.specs.Store.{View}
use Rattle.ctr_session_world.specs.kept_Turns.{Start}
use Rattle.ctr_asking.specs.Asking.{IsInCatalog}
use Rattle.ctr_asking.specs.declared.asker.Answer.TheVariants.{Free}
use Rattle.ctr_session_world.specs.Told.{IsNextOf}
use Rattle.ctr_session_world.specs.World.{SessionsHeld}
use Rattle.ctr_looks.specs.declared.tables.TableWrite.{TableWrite}
use Rattle.ctr_looks.specs.declared.tables.TableWrite.TheVariants.{Make, Drop}
use Rattle.ctr_looks.specs.Asked.{IsAsked, IsFoundFor, StandsAt}
use Rattle.ctr_looks.specs.Granting.{IsUnopposed}
use Rattle.ctr_looks.specs.Locking.{IsWriteOf, table_write}
use Rattle.ctr_looks.proofs.Staying.{free_of}

-- it locks first
pub schema_locks_first : (state : State) (s : ℕ) (statement : Statement) → changes_schema statement ≡ true → slice_get (acts_of state s statement) 0 ≡ Some act.Lock
schema_locks_first state s (st.Create table schema) is = refl
schema_locks_first state s (st.DropTable table) is = refl
schema_locks_first state s st.Begin is = absurd (false≢true is)
schema_locks_first state s st.Commit is = absurd (false≢true is)
schema_locks_first state s st.Rollback is = absurd (false≢true is)
schema_locks_first state s (st.Insert table values) is = absurd (false≢true is)
schema_locks_first state s (st.Select table at) is = absurd (false≢true is)
schema_locks_first state s (st.Update table sets at) is = absurd (false≢true is)
schema_locks_first state s (st.Delete table at) is = absurd (false≢true is)

-- and writes no row
pub schema_has_no_key : (statement : Statement) → changes_schema statement ≡ true → key_written statement ≡ None
schema_has_no_key (st.Create table schema) is = refl
schema_has_no_key (st.DropTable table) is = refl
schema_has_no_key st.Begin is = refl
schema_has_no_key st.Commit is = refl
schema_has_no_key st.Rollback is = refl
schema_has_no_key (st.Insert table values) is = absurd (false≢true is)
schema_has_no_key (st.Select table at) is = refl
schema_has_no_key (st.Update table sets at) is = absurd (false≢true is)
schema_has_no_key (st.Delete table at) is = absurd (false≢true is)

-- it has a table
pub schema_is_of_table : (statement : Statement) → changes_schema statement ≡ true → is_some (table_of statement) ≡ true
schema_is_of_table (st.Create table schema) is = refl
schema_is_of_table (st.DropTable table) is = refl
schema_is_of_table st.Begin is = absurd (false≢true is)
schema_is_of_table st.Commit is = absurd (false≢true is)
schema_is_of_table st.Rollback is = absurd (false≢true is)
schema_is_of_table (st.Insert table values) is = absurd (false≢true is)
schema_is_of_table (st.Select table at) is = absurd (false≢true is)
schema_is_of_table (st.Update table sets at) is = absurd (false≢true is)
schema_is_of_table (st.Delete table at) is = absurd (false≢true is)

-- ---- what its Write will do

-- the entry of the table that it drops
abbrev pub found_of : TableWrite → Option ℕ
found_of Make = None
found_of (Drop e) = Some e

-- and its number, 0 for none
abbrev dropped_entry : TableWrite → ℕ
dropped_entry Make = 0
dropped_entry (Drop e) = e

-- it makes one, or drops the one that was found
pub write_is : (statement : Statement) (found : Option ℕ) (write : TableWrite) → table_write statement found ≡ Some write → IsInCatalog (Free found) → IsWriteOf statement write
write_is statement found write is inside = known (creates statement)
    (λ makes. subst (IsWriteOf statement) (some_is Make write (sym (made found makes) ∙ is)) makes)
    (λ drops. dropped found drops is inside)
  where
    made : (o : Option ℕ) → creates statement ≡ true → table_write statement o ≡ Some Make
    made None makes = ap (λ b. cond b (Some Make) None) makes
    made (Some e) makes = ap (λ b. cond b (Some Make) (Some (Drop e))) makes

    dropped : (o : Option ℕ) → creates statement ≡ false → table_write statement o ≡ Some write → IsInCatalog (Free o) → IsWriteOf statement write
    dropped None drops is inside = absurd (false≢true (ap is_some (sym (ap (λ b. cond b (Some Make) None) drops) ∙ is)))
    dropped (Some e) drops is inside = subst (IsWriteOf statement) (some_is (Drop e) write (sym (ap (λ b. cond b (Some Make) (Some (Drop e))) drops) ∙ is)) (drops, inside)

module _ {D : Type 0} (g : Ghosts D) (c : Start) (opened : D) (a b : View D) (h : SessionsHeld) (s : ℕ) (statement : Statement) (next : IsNextOf g c opened a b h s statement 0) (found : Option ℕ) (asked : IsAsked next act.Lock (Free found)) where
  -- it does something
  pub something : table_write statement found ≡ None → ⊥
  something none = by found asked none
    where
      by : (o : Option ℕ) → IsAsked next act.Lock (Free o) → table_write statement o ≡ None → ⊥
      by None is none = false≢true (ap is_some (sym none ∙ ap (λ b. cond b (Some Make) None) is.0))
      by (Some e) is none = known (creates statement)
          (λ yes. false≢true (ap is_some (sym none ∙ ap (λ b. cond b (Some Make) (Some (Drop e))) yes)))
          (λ no. false≢true (ap is_some (sym none ∙ ap (λ b. cond b (Some Make) (Some (Drop e))) no)))

  abbrev pub its_free : IsUnopposed next act.Lock
  its_free = free_of g c opened a b h s statement 0 next act.Lock found asked

  -- and the table that it drops stands where it was found
  pub found_for : (name : List ℕ) → table_of statement ≡ Some name → (write : TableWrite) → table_write statement found ≡ Some write → IsFoundFor its_free name (found_of write)
  found_for name named write is = by found asked write is
    where
      by : (o : Option ℕ) (of : IsAsked next act.Lock (Free o)) (write : TableWrite) → table_write statement o ≡ Some write → IsFoundFor (free_of g c opened a b h s statement 0 next act.Lock o of) name (found_of write)
      by o of Make is = tt
      by None of (Drop f) is = absurd (cc (some_is Make (Drop f) (sym (ap (λ b. cond b (Some Make) None) of.0) ∙ is)))
      by (Some e) of (Drop f) is = known (creates statement)
          (λ yes. absurd (cc (some_is Make (Drop f) (sym (ap (λ b. cond b (Some Make) (Some (Drop e))) yes) ∙ is))))
          (λ no. subst (λ n. StandsAt of.0 name n) (ap dropped_entry (some_is (Drop e) (Drop f) (sym (ap (λ b. cond b (Some Make) (Some (Drop e))) no) ∙ is))) (of.1 name named))

-- where nothing speaks against making a table there is none of the name
pub absent : (state : State) (s : ℕ) (t : Transaction) (statement : Statement) (name : List ℕ) → table_of statement ≡ Some name → creates statement ≡ true → refusal_of state s t act.Lock statement ≡ None → table_at (view state t) name ≡ None
absent state s t statement name named makes none =
    let all : first_of (table_refusals state s t act.Lock statement name) ≡ None = ap (option_and_then (λ n. first_of (table_refusals state s t act.Lock statement n))) (sym named) ∙ none in
    by (table_at (view state t) name) (all_none (table_refusals state s t act.Lock statement name) all).1.0
  where
    by : (o : Option Table) → when (is_some o && creates statement) refusal.TableExists ≡ None → o ≡ None
    by None is = refl
    by (Some table) is = absurd (false≢true (ap is_some (sym is ∙ ap (λ b. when b refusal.TableExists) makes)))
