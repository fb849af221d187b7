-- What a granted Lock and rows that are read bring to a transaction.
use Rattle.std.proofs.Common.{◌≡◌, ℕ, zero, suc, true, List, [], ◌∷◌, ◌++◌, Some, refl, sym, ◌∙◌}
use Rattle.std.specs.Prelude.{slice_get}
use Rattle.std.proofs.lemmas.Bool.{false≢true}
use Rattle.ctr_types.specs.declared.statement.Statement.{Statement}
use Rattle.ctr_types.specs.declared.statement.Statement.TheVariants as st
use Rattle.ctr_types.specs.declared.tape.Act.{Act}
use Rattle.ctr_types.specs.declared.tape.Act.TheVariants as act
use Rattle.ctr_model.specs.declared.state.State.{State}
use Rattle.ctr_model.specs.declared.state.Transaction.{Transaction}
use Rattle.ctr_model.specs.Reply.{granted, with_read}
use Rattle.ctr_model.specs.State.{has_name, same_name}
use Rattle.ctr_model.specs.Tape.{acts_of}
use Rattle.ctr_legal.proofs.Cover.{less_any}
use Rattle.ctr_versions.specs.Laws.{IsGranted}
use Rattle.ctr_versions.proofs.Keys.{known, some_is}
use Rattle.ctr_rollback.specs.paged_Moving.{HoldsAll}

abbrev same_so : (t u : Transaction) → Type 0
same_so t u = IsGranted t u × HoldsAll t u × ((name : List ℕ) → has_name name t.uses ≡ true → has_name name u.uses ≡ true)

more_held : (name other : List ℕ) (held : List (List ℕ)) → has_name name held ≡ true → has_name name (held ++ other ∷ []) ≡ true
more_held name other held is = known (has_name name (held ++ other ∷ [])) (λ some. some) (λ none. absurd (false≢true (sym (less_any (λ n. same_name n name) held other none) ∙ is)))

-- a Lock leaves snapshot, changes and commit number, and each name that is held or used
pub granted_so : (statement : Statement) (t : Transaction) → same_so t (granted act.Lock statement t)
granted_so st.Begin t = (record { snapshot = refl; own = refl; asked = refl }, (λ name is. is), (λ name is. is))
granted_so st.Commit t = (record { snapshot = refl; own = refl; asked = refl }, (λ name is. is), (λ name is. is))
granted_so st.Rollback t = (record { snapshot = refl; own = refl; asked = refl }, (λ name is. is), (λ name is. is))
granted_so (st.Create table schema) t = (record { snapshot = refl; own = refl; asked = refl }, (λ name is. more_held name table t.holds is), (λ name is. is))
granted_so (st.DropTable table) t = (record { snapshot = refl; own = refl; asked = refl }, (λ name is. more_held name table t.holds is), (λ name is. is))
granted_so (st.Insert table values) t = (record { snapshot = refl; own = refl; asked = refl }, (λ name is. is), (λ name is. more_held name table t.uses is))
granted_so (st.Select table at) t = (record { snapshot = refl; own = refl; asked = refl }, (λ name is. more_held name table t.holds is), (λ name is. is))
granted_so (st.Update table sets at) t = (record { snapshot = refl; own = refl; asked = refl }, (λ name is. is), (λ name is. more_held name table t.uses is))
granted_so (st.Delete table at) t = (record { snapshot = refl; own = refl; asked = refl }, (λ name is. is), (λ name is. more_held name table t.uses is))

-- and makes a writer of it
one_act : (a : Act) (n : ℕ) → slice_get (a ∷ []) n ≡ Some act.Lock → a ≡ act.Lock
one_act a zero is = some_is a act.Lock is
one_act a (suc zero) is = absurd (cc is)
one_act a (suc (suc n)) is = absurd (cc is)

two_acts : (n : ℕ) → slice_get (act.Ask ∷ act.Answer ∷ []) n ≡ Some act.Lock → ⊥
two_acts zero is = cc is
two_acts (suc zero) is = cc is
two_acts (suc (suc zero)) is = cc is
two_acts (suc (suc (suc n))) is = cc is

pub granted_writer : (state : State) (s n : ℕ) (statement : Statement) (t : Transaction) → slice_get (acts_of state s statement) n ≡ Some act.Lock → (granted act.Lock statement t).writer ≡ true
granted_writer state s n st.Begin t is = absurd (cc (one_act act.Begin n is))
granted_writer state s n st.Commit t is = absurd (two_acts n is)
granted_writer state s n st.Rollback t is = absurd (cc (one_act act.Rollback n is))
granted_writer state s n (st.Create table schema) t is = refl
granted_writer state s n (st.DropTable table) t is = refl
granted_writer state s n (st.Insert table values) t is = refl
granted_writer state s n (st.Select table at) t is = absurd (cc (one_act act.Read n is))
granted_writer state s n (st.Update table sets at) t is = refl
granted_writer state s n (st.Delete table at) t is = refl

-- rows that are read bring a use alone
pub read_so : (statement : Statement) (t : Transaction) → same_so t (with_read (Some statement) t)
read_so st.Begin t = (record { snapshot = refl; own = refl; asked = refl }, (λ name is. is), (λ name is. is))
read_so st.Commit t = (record { snapshot = refl; own = refl; asked = refl }, (λ name is. is), (λ name is. is))
read_so st.Rollback t = (record { snapshot = refl; own = refl; asked = refl }, (λ name is. is), (λ name is. is))
read_so (st.Create table schema) t = (record { snapshot = refl; own = refl; asked = refl }, (λ name is. is), (λ name is. more_held name table t.uses is))
read_so (st.DropTable table) t = (record { snapshot = refl; own = refl; asked = refl }, (λ name is. is), (λ name is. more_held name table t.uses is))
read_so (st.Insert table values) t = (record { snapshot = refl; own = refl; asked = refl }, (λ name is. is), (λ name is. more_held name table t.uses is))
read_so (st.Select table at) t = (record { snapshot = refl; own = refl; asked = refl }, (λ name is. is), (λ name is. more_held name table t.uses is))
read_so (st.Update table sets at) t = (record { snapshot = refl; own = refl; asked = refl }, (λ name is. is), (λ name is. more_held name table t.uses is))
read_so (st.Delete table at) t = (record { snapshot = refl; own = refl; asked = refl }, (λ name is. is), (λ name is. more_held name table t.uses is))

pub read_writer : (statement : Statement) (t : Transaction) → (with_read (Some statement) t).writer ≡ t.writer
read_writer st.Begin t = refl
read_writer st.Commit t = refl
read_writer st.Rollback t = refl
read_writer (st.Create table schema) t = refl
read_writer (st.DropTable table) t = refl
read_writer (st.Insert table values) t = refl
read_writer (st.Select table at) t = refl
read_writer (st.Update table sets at) t = refl
read_writer (st.Delete table at) t = refl
