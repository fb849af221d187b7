-- Entries that end no transaction leave each one, with the locks that it has.
use Rattle.std.proofs.Common.{◌≡◌, ℕ, ℤ, Bool, true, false, List, [], ◌∷◌, ◌++◌, Option, Some, None, refl, sym, ◌∙◌, ap, subst, eqb-true}
use Rattle.std.specs.Prelude.{◌==◌, ◌||◌}
use Rattle.std.specs.List.{list_any}
use Rattle.std.specs.Ordering.{nat_cmp}
use Rattle.std.specs.FinMap.Entries.{find, put}
use Rattle.std.proofs.lemmas.Bool.{false≢true}
use Rattle.std.proofs.lemmas.List.Folds.{list_any-append}
use Rattle.ctr_types.specs.declared.statement.Line.{Line}
use Rattle.ctr_types.specs.declared.statement.Statement.{Statement}
use Rattle.ctr_types.specs.declared.tape.Act.{Act}
use Rattle.ctr_types.specs.declared.tape.Act.TheVariants as act
use Rattle.ctr_types.specs.declared.tape.Entry.{Entry}
use Rattle.ctr_types.specs.declared.tape.Reply.{Reply}
use Rattle.ctr_types.specs.declared.tape.Reply.TheVariants as reply
use Rattle.ctr_model.specs.declared.state.State.{State}
use Rattle.ctr_model.specs.declared.state.Transaction.{Transaction}
use Rattle.ctr_model.specs.declared.tape.Point.{Point}
use Rattle.ctr_model.specs.Database.{Database}
use Rattle.ctr_model.specs.Refusals.{has_lock, is_lock_of, key_locked, table_of}
use Rattle.ctr_model.specs.Reply.{on_table, with_use, with_granted, with_lock, with_read, with_changes, next_inside, next_outside, next_from, released}
use Rattle.ctr_model.specs.State.{transaction_of, with_transaction, begun, view}
use Rattle.ctr_model.specs.Tape.{statement_of, passed, final}
use Rattle.ctr_model.proofs.Sessions.{find-put-other, find-put-same}
use Rattle.ctr_versions.proofs.Keys.{known, some_is}
use Rattle.ctr_pass.specs.Passing.{HasLocksOf, ends_transaction, some_end}

-- neither of two holds
pub neither : (a b : Bool) → (a || b) ≡ false → (a ≡ false) × (b ≡ false)
neither false b is = (refl, is)
neither true b is = absurd (false≢true (sym is))

-- Who is in a transaction is in one there too, with the same locks or more.
pub record Endures (p q : State) : Type 0 where
  pub keeps : (s : ℕ) (t : Transaction) → transaction_of p s ≡ Some t → (u : Transaction) × (transaction_of q s ≡ Some u) × HasLocksOf t u

endures_itself : (p : State) → Endures p p
endures_itself p = record { keeps = λ s t is. (t, is, λ name key has. has) }

endures_then : (p q r : State) → Endures p q → Endures q r → Endures p r
endures_then p q r first rest = record {
  keeps = λ s t is.
      let u = first.keeps s t is in
      let v = rest.keeps s u.0 u.1 in
      (v.0, v.1, λ name key has. v.2 name key (u.2 name key has));
}

-- one session's transaction is another one, with its locks
endures_with : (p : State) (s : ℕ) (u : Transaction) → ((t : Transaction) → transaction_of p s ≡ Some t → HasLocksOf t u) → Endures p (with_transaction s u p)
endures_with p s u its = record {
  keeps = λ q t is. known (q == s)
      (λ one.
      let same = eqb-true q s one in
      (u, ap (λ n. find nat_cmp n (put nat_cmp s u p.sessions)) same ∙ find-put-same s u p.sessions, its t (sym (ap (transaction_of p) same) ∙ is)))
      (λ two. (t, find-put-other q s u p.sessions two ∙ is, λ name key has. has));
}

-- a lock more leaves the others
locked_more : (name table : List ℕ) (key other : ℤ) (t : Transaction) → has_lock name key t ≡ true → has_lock name key (with_lock (Some other) table t) ≡ true
locked_more name table key other t has =
    let test = is_lock_of name key in
    let one = record { table = table; key = other } ∷ [] in
    list_any-append test t.locks one ∙ ap (λ b. b || list_any test one) has

on_more : (key : Option ℤ) (table : Option (List ℕ)) (t : Transaction) → HasLocksOf t (on_table (with_lock key) table t)
on_more key None t name k has = has
on_more None (Some n) t name k has = has
on_more (Some other) (Some n) t name k has = locked_more name n k other t has

granted_more : (a : Act) (statement : Option Statement) (t : Transaction) → HasLocksOf t (with_granted a statement t)
granted_more a None t name k has = has
granted_more act.Begin (Some statement) t name k has = has
granted_more act.Read (Some statement) t name k has = has
granted_more act.Lock (Some statement) t name k has = on_more (key_locked act.Lock statement) (table_of statement) t name k has
granted_more act.Write (Some statement) t name k has = has
granted_more act.Ask (Some statement) t name k has = has
granted_more act.Answer (Some statement) t name k has = has
granted_more act.Rollback (Some statement) t name k has = has
granted_more (act.Release n) (Some statement) t name k has = has

use_more : (table : Option (List ℕ)) (t : Transaction) → HasLocksOf t (on_table with_use table t)
use_more None t name k has = has
use_more (Some n) t name k has = has

read_more : (statement : Option Statement) (t : Transaction) → HasLocksOf t (with_read statement t)
read_more None t name k has = has
read_more (Some statement) t name k has = use_more (table_of statement) t name k has

changed_more : (db : Database) (statement : Option Statement) (t : Transaction) → HasLocksOf t (with_changes db statement t)
changed_more db None t name k has = has
changed_more db (Some statement) t name k has = has

-- only its own transaction is another one
its_own : (p : State) (s : ℕ) (me u : Transaction) → transaction_of p s ≡ Some me → HasLocksOf me u → (t : Transaction) → transaction_of p s ≡ Some t → HasLocksOf t u
its_own p s me u is has t is_t = subst (λ (x : Transaction). HasLocksOf x u) (some_is me t (sym is ∙ is_t)) has

-- what is asked and answered is no matter of who is in a transaction
same_sessions : (p q r : State) → q.sessions ≡ p.sessions → Endures q r → Endures p r
same_sessions p q r same endures = record { keeps = λ s t is. endures.keeps s t (ap (find nat_cmp s) same ∙ is) }

inside_endures : (p : State) (s : ℕ) (me : Transaction) (a : Act) (statement : Option Statement) (r : Reply) → transaction_of p s ≡ Some me → ends_transaction r ≡ false → Endures p (next_inside p s me a statement r)
inside_endures p s me a statement (reply.Began n) is still = endures_itself p
inside_endures p s me a statement reply.Granted is still = endures_with p s (with_granted a statement me) (its_own p s me (with_granted a statement me) is (granted_more a statement me))
inside_endures p s me a statement (reply.Rows rows) is still = endures_with p s (with_read statement me) (its_own p s me (with_read statement me) is (read_more statement me))
inside_endures p s me a statement reply.Done is still =
    let u = with_changes (view p me) statement me in
    endures_with p s u (its_own p s me u is (changed_more (view p me) statement me))
inside_endures p s me a statement (reply.Asked k) is still =
    let q = record p { asked = p.asked ++ me.own ∷ [] } in
    let u = record me { asked = Some k } in
    same_sessions p q (with_transaction s u q) refl (endures_with q s u (its_own q s me u is (λ name key has. has)))
inside_endures p s me a statement reply.ReadOnly is still = absurd (false≢true (sym still))
inside_endures p s me a statement (reply.Answered k) is still = absurd (false≢true (sym still))
inside_endures p s me a statement reply.RolledBack is still = absurd (false≢true (sym still))
inside_endures p s me a statement reply.Released is still = endures_itself p
inside_endures p s me a statement (reply.Refused why) is still = endures_itself p

released_endures : (p : State) (a : Act) → Endures p (released a p)
released_endures p act.Begin = endures_itself p
released_endures p act.Read = endures_itself p
released_endures p act.Lock = endures_itself p
released_endures p act.Write = endures_itself p
released_endures p act.Ask = endures_itself p
released_endures p act.Answer = endures_itself p
released_endures p act.Rollback = endures_itself p
released_endures p (act.Release name) = record { keeps = λ s t is. (t, is, λ n key has. has) }

outside_endures : (p : State) (s : ℕ) (a : Act) (statement : Option Statement) (r : Reply) → transaction_of p s ≡ None → Endures p (next_outside p s a statement r)
outside_endures p s a statement (reply.Began n) none = endures_with p s (begun n) (λ t is. absurd (let no = sym none ∙ is in cc no))
outside_endures p s a statement reply.Granted none = endures_itself p
outside_endures p s a statement (reply.Rows rows) none = endures_itself p
outside_endures p s a statement reply.Done none = endures_itself p
outside_endures p s a statement (reply.Asked k) none = endures_itself p
outside_endures p s a statement reply.ReadOnly none = endures_itself p
outside_endures p s a statement (reply.Answered k) none = endures_itself p
outside_endures p s a statement reply.RolledBack none = endures_itself p
outside_endures p s a statement reply.Released none = released_endures p a
outside_endures p s a statement (reply.Refused why) none = endures_itself p

next_endures : (p : State) (s : ℕ) (o : Option Transaction) (a : Act) (statement : Option Statement) (r : Reply) → transaction_of p s ≡ o → ends_transaction r ≡ false → Endures p (next_from p s o a statement r)
next_endures p s None a statement r is still = outside_endures p s a statement r is
next_endures p s (Some me) a statement r is still = inside_endures p s me a statement r is still

-- so along entries by which none ends
pub led_endures : (lines : List Line) (p : Point) (es : List Entry) → some_end es ≡ false → Endures p.state (final lines p es).state
led_endures lines p [] still = endures_itself p.state
led_endures lines p (e ∷ es) still =
    let statement = statement_of lines e.session e.statement in
    let both = neither (ends_transaction e.reply) (some_end es) still in
    endures_then p.state (passed lines p e).state (final lines p (e ∷ es)).state
    (next_endures p.state e.session (transaction_of p.state e.session) e.act statement e.reply refl both.0)
    (led_endures lines (passed lines p e) es both.1)

-- so behind entries, along more by which none ends
pub more_endures : (lines : List Line) (p : Point) (es more : List Entry) → some_end more ≡ false → Endures (final lines p es).state (final lines p (es ++ more)).state
more_endures lines p [] more still = led_endures lines p more still
more_endures lines p (e ∷ es) more still = more_endures lines (passed lines p e) es more still

-- who is in no transaction there was in none
pub was_outside : (p q : State) (s : ℕ) → Endures p q → transaction_of q s ≡ None → transaction_of p s ≡ None
was_outside p q s endures none = by (transaction_of p s) refl
  where
    by : (o : Option Transaction) → transaction_of p s ≡ o → transaction_of p s ≡ None
    by None is = is
    by (Some t) is = let u = endures.keeps s t is in absurd (let no = sym none ∙ u.1 in cc no)
