-- A rollback leaves no trace.
use Rattle.std.proofs.Common.{◌≡◌, ℕ, ◌+◌, ◌==◌, Bool, false, cond, not, List, [], ◌∷◌, ◌++◌, take, Option, Some, None, refl, sym, ◌∙◌, ap, subst, append_assoc}
use Rattle.std.proofs.lemmas.List.{append-nil}
use Rattle.std.proofs.lemmas.Cmp.{nat_eq_equiv}
use Rattle.std.proofs.lemmas.Map.Views.{exact_unsigned_eq}
use Rattle.ctr_types.specs.declared.statement.Statement.{Statement}
use Rattle.ctr_types.specs.declared.statement.Line.{Line}
use Rattle.ctr_types.specs.declared.tape.Act.{Act}
use Rattle.ctr_types.specs.declared.tape.Act.TheVariants as act
use Rattle.ctr_types.specs.declared.tape.Reply.{Reply}
use Rattle.ctr_types.specs.declared.tape.Reply.TheVariants as reply
use Rattle.ctr_types.specs.declared.tape.Entry.{Entry}
use Rattle.ctr_model.specs.declared.database.Change.{Change}
use Rattle.ctr_model.specs.declared.state.State.{State}
use Rattle.ctr_model.specs.declared.state.Transaction.{Transaction}
use Rattle.ctr_model.specs.declared.tape.Point.{Point}
use Rattle.ctr_model.specs.Database.{after, after_all}
use Rattle.ctr_model.specs.State.{transaction_of, with_transaction, without_transaction, rows_at, view, begun}
use Rattle.ctr_model.specs.Reply.{with_granted, with_read, with_changes, next_inside, next_outside, released, next_from, next_state}
use Rattle.ctr_model.specs.Tape.{statement_of, passed, final}
use Rattle.ctr_model.specs.Laws.{Grows, is_asked, asked_by, asked_by_others, entries_of_others, OthersOnly, AsksNothing, OnlyAskingChangesRows, UnaskedLeavesNoTrace, RollbacksLeaveNoTrace}
use Rattle.ctr_model.proofs.Sessions.{known, find-without-same, find-put-alike, find-without-alike}
use Rattle.ctr_model.proofs.Snapshots.{next_grows, others_stay}

-- ---- one entry

none_asked : (r : Reply) (me : Option Transaction) → is_asked r ≡ false → asked_by r me ≡ []
none_asked (reply.Began n) me quiet = refl
none_asked reply.Granted me quiet = refl
none_asked (reply.Rows rows) me quiet = refl
none_asked reply.Done me quiet = refl
none_asked (reply.Asked k) me quiet = absurd (cc quiet)
none_asked reply.ReadOnly me quiet = refl
none_asked (reply.Answered k) me quiet = refl
none_asked reply.RolledBack me quiet = refl
none_asked reply.Released me quiet = refl
none_asked (reply.Refused why) me quiet = refl

module _ (lines : List Line) (p : Point) (e : Entry) where
  step_grows : Grows (asked_by e.reply (transaction_of p.state e.session)) p.state (passed lines p e).state
  step_grows = next_grows p.state e.session e.act (statement_of lines e.session e.statement) e.reply

  quiet_grows : is_asked e.reply ≡ false → Grows [] p.state (passed lines p e).state
  quiet_grows quiet = subst (λ (more : List (List Change)). Grows more p.state (passed lines p e).state) (none_asked e.reply (transaction_of p.state e.session) quiet) step_grows

same_rows : (old new : State) → new.base ≡ old.base → new.asked ≡ old.asked → (j : ℕ) → rows_at new j ≡ rows_at old j
same_rows old new base asked j = λ i. after_all (take j (asked i)) (base i)

pub only_asking_changes_rows : OnlyAskingChangesRows
only_asking_changes_rows lines p e quiet =
    let grows = quiet_grows lines p e quiet in
    let asked : (passed lines p e).state.asked ≡ p.state.asked = grows.asked ∙ append-nil p.state.asked in
    record { asked = asked; rows = same_rows p.state (passed lines p e).state grows.base asked }

-- ---- what the others ask

asked_over : (lines : List Line) (p : Point) (es : List Entry) (s : ℕ) → AsksNothing s es → (final lines p es).state.asked ≡ p.state.asked ++ asked_by_others s lines p es
asked_over lines p [] s nothing = sym (append-nil p.state.asked)
asked_over lines p (e ∷ es) s nothing =
    let q = passed lines p e in
    let added = asked_by e.reply (transaction_of p.state e.session) in
    let rest = asked_by_others s lines q es in
    let own : added ≡ cond (s == e.session) [] added = known (s == e.session)
    (λ mine. none_asked e.reply (transaction_of p.state e.session) (nothing.0 (sym (exact_unsigned_eq s e.session mine))) ∙ ap (λ b. cond b [] added) (sym mine))
    (λ other. ap (λ b. cond b [] added) (sym other)) in
    asked_over lines q es s nothing.1 ∙ ap (λ (asked : List (List Change)). asked ++ rest) ((step_grows lines p e).asked ∙ ap (λ (more : List (List Change)). p.state.asked ++ more) own)
    ∙ append_assoc p.state.asked (cond (s == e.session) [] added) rest

-- ---- the same but for one session

-- two states that differ in what a session's entries change alone
record Alike (s : ℕ) (a b : State) : Type 0 where
  base : a.base ≡ b.base
  asked : a.asked ≡ b.asked
  others : (t : ℕ) → (t == s) ≡ false → transaction_of a t ≡ transaction_of b t

module _ (s : ℕ) (a b : State) (same : Alike s a b) where
  alike_with : (t : ℕ) (me you : Transaction) → me ≡ you → Alike s (with_transaction t me a) (with_transaction t you b)
  alike_with t me you e = record {
    base = same.base;
    asked = same.asked;
    others = λ u other. find-put-alike u t me a.sessions b.sessions (same.others u other) ∙ ap (λ m. transaction_of (with_transaction t m b) u) e;
  }

  alike_without : (t : ℕ) → Alike s (without_transaction t a) (without_transaction t b)
  alike_without t = record { base = same.base; asked = same.asked; others = λ u other. find-without-alike u t a.sessions b.sessions (same.others u other) }

  same_view : (me : Transaction) → view a me ≡ view b me
  same_view me = λ i. after me.own (after_all (take me.snapshot (same.asked i)) (same.base i))

module _ (s : ℕ) (a b : State) (same : Alike s a b) (t : ℕ) where
  alike_inside : (me : Transaction) (x : Act) (of : Option Statement) (r : Reply) → Alike s (next_inside a t me x of r) (next_inside b t me x of r)
  alike_inside me x of (reply.Began n) = same
  alike_inside me x of reply.Granted = alike_with s a b same t (with_granted x of me) _ refl
  alike_inside me x of (reply.Rows rows) = alike_with s a b same t (with_read of me) _ refl
  alike_inside me x of reply.Done = alike_with s a b same t _ _ (λ i. with_changes (same_view s a b same me i) of me)
  alike_inside me x of (reply.Asked k) =
      let longer : Alike s (record a { asked = a.asked ++ me.own ∷ [] }) (record b { asked = b.asked ++ me.own ∷ [] }) = record {
        base = same.base;
        asked = ap (λ (asked : List (List Change)). asked ++ me.own ∷ []) same.asked;
        others = same.others;
      } in
      alike_with s (record a { asked = a.asked ++ me.own ∷ [] }) (record b { asked = b.asked ++ me.own ∷ [] }) longer t (record me { asked = Some k }) _ refl
  alike_inside me x of reply.ReadOnly = alike_without s a b same t
  alike_inside me x of (reply.Answered k) =
      let answered : Alike s (record a { answered = a.answered + 1 }) (record b { answered = b.answered + 1 }) = record { base = same.base; asked = same.asked; others = same.others } in
      alike_without s (record a { answered = a.answered + 1 }) (record b { answered = b.answered + 1 }) answered t
  alike_inside me x of reply.RolledBack = alike_without s a b same t
  alike_inside me x of reply.Released = same
  alike_inside me x of (reply.Refused why) = same

  alike_released : (x : Act) → Alike s (released x a) (released x b)
  alike_released act.Begin = same
  alike_released act.Read = same
  alike_released act.Lock = same
  alike_released act.Write = same
  alike_released act.Ask = same
  alike_released act.Answer = same
  alike_released act.Rollback = same
  alike_released (act.Release name) = record { base = same.base; asked = same.asked; others = same.others }

  alike_outside : (x : Act) (of : Option Statement) (r : Reply) → Alike s (next_outside a t x of r) (next_outside b t x of r)
  alike_outside x of (reply.Began n) = alike_with s a b same t (begun n) _ refl
  alike_outside x of reply.Granted = same
  alike_outside x of (reply.Rows rows) = same
  alike_outside x of reply.Done = same
  alike_outside x of (reply.Asked k) = same
  alike_outside x of reply.ReadOnly = same
  alike_outside x of (reply.Answered k) = same
  alike_outside x of reply.RolledBack = same
  alike_outside x of reply.Released = alike_released x
  alike_outside x of (reply.Refused why) = same

  -- an entry of another session
  alike_next : (t == s) ≡ false → (x : Act) (of : Option Statement) (r : Reply) → Alike s (next_state a t x of r) (next_state b t x of r)
  alike_next other x of r =
      let found : transaction_of a t ≡ transaction_of b t = same.others t other in
      subst (λ f. Alike s (next_state a t x of r) (next_from b t f x of r)) found
      (elim (transaction_of a t) as (λ f. Alike s (next_from a t f x of r) (next_from b t f x of r)) [
        | Some me ↦ alike_inside me x of r
        | None ↦ alike_outside x of r
      ])

-- an entry of the session, which one of the two states passes
alike_own : (lines : List Line) (p : Point) (e : Entry) (s : ℕ) (b : State) → e.session ≡ s → is_asked e.reply ≡ false → Alike s p.state b → Alike s (passed lines p e).state b
alike_own lines p e s b mine quiet same =
    let grows = quiet_grows lines p e quiet in
    record {
      base = grows.base ∙ same.base;
      asked = grows.asked ∙ append-nil p.state.asked ∙ same.asked;
      others = λ t other. others_stay p.state t e.session (ap (λ n. t == n) mine ∙ other) e.act (statement_of lines e.session e.statement) e.reply ∙ same.others t other;
    }

-- ---- over a stretch

swap : (s t : ℕ) → (s == t) ≡ false → (t == s) ≡ false
swap s t other = nat_eq_equiv.symm t s ∙ other

alone_over : (lines : List Line) (p q : Point) (es : List Entry) (s : ℕ) → AsksNothing s es → Alike s p.state q.state → Alike s (final lines p es).state (final lines q (entries_of_others s es)).state
alone_over lines p q [] s nothing same = same
alone_over lines p q (e ∷ es) s nothing same =
    let left : Bool → List Entry = λ b. cond (not b) (e ∷ entries_of_others s es) (entries_of_others s es) in
    known (s == e.session)
    (λ mine. let is_mine = sym (exact_unsigned_eq s e.session mine) in
    let rest = alone_over lines (passed lines p e) q es s nothing.1 (alike_own lines p e s q.state is_mine (nothing.0 is_mine) same) in
    subst (λ b. Alike s (final lines (passed lines p e) es).state (final lines q (left b)).state) (sym mine) rest)
    (λ other. let next = alike_next s p.state q.state same e.session (swap s e.session other) e.act (statement_of lines e.session e.statement) e.reply in
    let rest = alone_over lines (passed lines p e) (passed lines q e) es s nothing.1 next in
    subst (λ b. Alike s (final lines (passed lines p e) es).state (final lines q (left b)).state) (sym other) rest)

pub unasked_leaves_no_trace : UnaskedLeavesNoTrace
unasked_leaves_no_trace lines p es s nothing =
    let same = alone_over lines p p es s nothing (record { base = refl; asked = refl; others = λ t other. refl }) in
    record {
      asked = asked_over lines p es s nothing;
      alone = record {
        rows = same_rows (final lines p (entries_of_others s es)).state (final lines p es).state same.base same.asked;
        others = same.others;
      };
    }

-- ---- the end of the transaction

-- behind a rollback the session is in no transaction
ended : (state : State) (s : ℕ) (a : Act) (of : Option Statement) → transaction_of (next_state state s a of reply.RolledBack) s ≡ None
ended state s a of =
    elim (transaction_of state s) as (λ f. transaction_of state s ≡ f → transaction_of (next_from state s f a of reply.RolledBack) s ≡ None) [
      | Some me ↦ λ is. find-without-same s state.sessions
      | None ↦ λ is. is
    ] refl

kept : (lines : List Line) (p : Point) (es : List Entry) (s : ℕ) → OthersOnly s es → transaction_of (final lines p es).state s ≡ transaction_of p.state s
kept lines p [] s others = refl
kept lines p (e ∷ es) s others = kept lines (passed lines p e) es s others.1 ∙ others_stay p.state s e.session others.0 e.act (statement_of lines e.session e.statement) e.reply

ended_over : (lines : List Line) (p : Point) (before : List Entry) (e : Entry) (later : List Entry) (s : ℕ) → e.session ≡ s → e.reply ≡ reply.RolledBack → OthersOnly s later
    → transaction_of (final lines p (before ++ e ∷ later)).state s ≡ None
ended_over lines p [] e later s mine back others =
    let of = statement_of lines e.session e.statement in
    kept lines (passed lines p e) later s others ∙ (λ i. transaction_of (next_state p.state (mine i) e.act of (back i)) s) ∙ ended p.state s e.act of
ended_over lines p (f ∷ before) e later s mine back others = ended_over lines (passed lines p f) before e later s mine back others

pub rollbacks_leave_no_trace : RollbacksLeaveNoTrace
rollbacks_leave_no_trace lines p es s is = (
  unasked_leaves_no_trace lines p es s is.asks_nothing,
  ap (λ es. transaction_of (final lines p es).state s) is.split ∙ ended_over lines p is.before is.rollback is.later s is.session is.reply is.last,
)
