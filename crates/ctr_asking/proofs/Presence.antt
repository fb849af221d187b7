-- Whether the table is there as a statement wants it.
use Rattle.std.proofs.Common.{◌≡◌, ℕ, true, false, List, [], ◌∷◌, ◌++◌, Option, Some, None, refl, sym, ◌∙◌, ap}
use Rattle.std.specs.Prelude.{is_some, ◌&&◌, not}
use Rattle.std.proofs.lemmas.Bool.{false≢true, true≢false}
use Rattle.ctr_types.specs.declared.statement.Statement.{Statement}
use Rattle.ctr_types.specs.declared.statement.Statement.TheVariants as st
use Rattle.ctr_types.specs.declared.tape.Act.{Act}
use Rattle.ctr_types.specs.declared.tape.Act.TheVariants as act
use Rattle.ctr_types.specs.declared.tape.Refusal.TheVariants as refusal
use Rattle.ctr_model.specs.declared.database.Table.{Table}
use Rattle.ctr_model.specs.declared.state.State.{State}
use Rattle.ctr_model.specs.declared.state.Transaction.{Transaction}
use Rattle.ctr_model.specs.Refusals.{creates, first_of, key_locked, key_refusals, presence_refusals, value_refusals, when}
use Rattle.ctr_versions.proofs.Keys.{known}
use Rattle.ctr_asking.specs.Causes.{presence_refused}

pub none_creates : (statement : Statement) → first_of (presence_refused statement None) ≡ None → creates statement ≡ true
none_creates statement clear = known (creates statement) (λ is. is)
    (λ isnt. absurd (true≢false (ap is_some (sym (ap (λ b. first_of (when (not b) refusal.NoTable ∷ when (false && b) refusal.TableExists ∷ [])) isnt) ∙ clear))))

pub some_uncreated : (statement : Statement) (e : ℕ) → first_of (presence_refused statement (Some e)) ≡ None → creates statement ≡ false
some_uncreated statement e clear = known (creates statement)
    (λ is. absurd (true≢false (ap is_some (sym (ap (λ b. first_of (when (false && not b) refusal.NoTable ∷ when b refusal.TableExists ∷ [])) is) ∙ clear))))
    (λ isnt. isnt)

-- what is to be made isn't there
created_none : (statement : Statement) (table : Option Table) → creates statement ≡ true → first_of (presence_refusals statement table) ≡ None → table ≡ None
created_none statement None is clear = refl
created_none statement (Some t) is clear = absurd (true≢false (ap is_some (sym (ap (λ b. first_of (when (false && not b) refusal.NoTable ∷ when b refusal.TableExists ∷ [])) is) ∙ clear)))

-- and no key of it is locked
created_unkeyed : (a : Act) (statement : Statement) → creates statement ≡ true → key_locked a statement ≡ None
created_unkeyed act.Begin statement is = refl
created_unkeyed act.Read statement is = refl
created_unkeyed act.Write statement is = refl
created_unkeyed act.Ask statement is = refl
created_unkeyed act.Answer statement is = refl
created_unkeyed act.Rollback statement is = refl
created_unkeyed (act.Release name) statement is = refl
created_unkeyed act.Lock st.Begin is = absurd (false≢true is)
created_unkeyed act.Lock st.Commit is = absurd (false≢true is)
created_unkeyed act.Lock st.Rollback is = absurd (false≢true is)
created_unkeyed act.Lock (st.Create table schema) is = refl
created_unkeyed act.Lock (st.DropTable table) is = absurd (false≢true is)
created_unkeyed act.Lock (st.Insert table values) is = absurd (false≢true is)
created_unkeyed act.Lock (st.Select table at) is = absurd (false≢true is)
created_unkeyed act.Lock (st.Update table sets at) is = absurd (false≢true is)
created_unkeyed act.Lock (st.Delete table at) is = absurd (false≢true is)

-- where none is found and nothing speaks against that, nothing else does
pub nothing_else : (state : State) (s : ℕ) (t : Transaction) (a : Act) (statement : Statement) (name : List ℕ) (table : Option Table) → presence_refused statement None ≡ presence_refusals statement table → first_of (presence_refusals statement table) ≡ None
    → None ≡ first_of (value_refusals statement table ++ key_refusals state s t name (key_locked a statement))
nothing_else state s t a statement name table same clear =
    let made = none_creates statement (ap first_of same ∙ clear) in
    let none = created_none statement table made clear in
    let unkeyed = created_unkeyed a statement made in
    (λ i. first_of (value_refusals statement (sym none i) ++ key_refusals state s t name (sym unkeyed i)))
