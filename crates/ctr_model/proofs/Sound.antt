-- What holds of a state on each legal tape.
use Rattle.std.proofs.Common.{◌≡◌, inl, inr, ℕ, ℤ, ◌+◌, ◌==◌, ◌≤◌, Bool, true, false, List, [], ◌∷◌, ◌++◌, length, Option, Some, None, refl, sym, ◌∙◌, ap, subst, arith, length-append}
use Rattle.std.specs.Prelude.{unwrap_or, IfSome, option_and_then, if◌then◌else◌}
use Rattle.std.specs.Ordering.{nat_cmp}
use Rattle.std.specs.FinMap.Entries.{put, find}
use Rattle.std.proofs.lemmas.Map.Views.{exact_unsigned_eq}
use Rattle.ctr_types.specs.declared.statement.Statement.{Statement}
use Rattle.ctr_types.specs.declared.statement.Statement.TheVariants as st
use Rattle.ctr_types.specs.declared.statement.Line.{Line}
use Rattle.ctr_types.specs.declared.tape.Act.{Act}
use Rattle.ctr_types.specs.declared.tape.Act.TheVariants as act
use Rattle.ctr_types.specs.declared.tape.Reply.{Reply}
use Rattle.ctr_types.specs.declared.tape.Reply.TheVariants as reply
use Rattle.ctr_types.specs.declared.tape.Refusal.{Refusal}
use Rattle.ctr_types.specs.declared.tape.Entry.{Entry}
use Rattle.ctr_model.specs.declared.state.State.{State}
use Rattle.ctr_model.specs.declared.state.Transaction.{Transaction}
use Rattle.ctr_model.specs.declared.tape.Point.{Point}
use Rattle.ctr_model.specs.Maps.{without}
use Rattle.ctr_model.specs.Database.{Database}
use Rattle.ctr_model.specs.State.{transaction_of, view, begun}
use Rattle.ctr_model.specs.Refusals.{refusal_of, write_refusal, table_of, key_locked}
use Rattle.ctr_model.specs.Reply.{refused_or, reply_inside, reply_outside, reply_from, reply_to, IsWantOfRoom, MayStandFor, with_lock, with_use, on_table, granted, with_granted, with_read, with_changes, next_inside, next_outside, next_from, next_state}
use Rattle.ctr_model.specs.Tape.{statement_of, passed, final, Legal, Comes, IsInTurn, at_start}
use Rattle.ctr_model.specs.Laws.{IsSoundState, LegalStatesAreSound}
use Rattle.ctr_model.proofs.Outside.{reply_outside-cases, next_outside-cases}
use Rattle.ctr_model.proofs.Sessions.{known, find-put-other, find-put-same, find-without-other, find-without-same}

-- ---- what a reply tells of the state and the act

abbrev Tells : State → Act → Reply → Type 0
Tells state a (reply.Began n) = n ≡ state.answered
Tells state a (reply.Asked k) = k ≡ length state.asked + 1
Tells state a (reply.Answered k) = a ≡ act.Answer
Tells state a r = Unit {0}

refused_tells : (state : State) (a : Act) (why : Option Refusal) (r : Reply) → Tells state a r → Tells state a (refused_or why r)
refused_tells state a None r is = is
refused_tells state a (Some why) r is = tt

ask_tells : (state : State) (writer : Bool) → Tells state act.Ask (if writer then reply.Asked (length state.asked + 1) else reply.ReadOnly)
ask_tells state true = refl
ask_tells state false = tt

inside_tells : (state : State) (s : ℕ) (me : Transaction) (a : Act) (statement : Statement) → Tells state a (reply_inside state s me a statement)
inside_tells state s me act.Begin statement = tt
inside_tells state s me act.Read statement = refused_tells state act.Read (refusal_of state s me act.Read statement) _ tt
inside_tells state s me act.Lock statement = refused_tells state act.Lock (refusal_of state s me act.Lock statement) reply.Granted tt
inside_tells state s me act.Write statement = refused_tells state act.Write (write_refusal (view state me) statement) reply.Done tt
inside_tells state s me act.Ask statement = ask_tells state me.writer
inside_tells state s me act.Answer statement = refl
inside_tells state s me act.Rollback statement = tt
inside_tells state s me (act.Release name) statement = tt

outside_tells : (state : State) (a : Act) → Tells state a (reply_outside state a)
outside_tells state = reply_outside-cases (Tells state) state refl (λ a. tt) (λ name. tt)

reply_tells : (state : State) (s : ℕ) (a : Act) (statement : Statement) → Tells state a (reply_to state s a (Some statement))
reply_tells state s a statement = elim (transaction_of state s) as (λ f. Tells state a (reply_from state s f a statement)) [
  | Some me ↦ inside_tells state s me a statement
  | None ↦ outside_tells state a
]

room_tells : (state : State) (a : Act) (statement : Statement) (given : Reply) → IsWantOfRoom statement given → Tells state a given
room_tells state a st.Begin given is = absurd is
room_tells state a st.Commit given is = absurd is
room_tells state a st.Rollback given is = absurd is
room_tells state a (st.Create table schema) given is = subst (Tells state a) (sym is) tt
room_tells state a (st.DropTable table) given is = absurd is
room_tells state a (st.Insert table values) given is = subst (Tells state a) (sym is) tt
room_tells state a (st.Select table at) given is = absurd is
room_tells state a (st.Update table sets at) given is = subst (Tells state a) (sym is) tt
room_tells state a (st.Delete table at) given is = subst (Tells state a) (sym is) tt

free_tells : (state : State) (a : Act) (statement : Statement) (r given : Reply) → MayStandFor statement r given → Tells state a given
free_tells state a statement (reply.Began n) given is = subst (Tells state a) (sym is) tt
free_tells state a statement reply.Granted given is = subst (Tells state a) (sym is) tt
free_tells state a statement (reply.Rows rows) given is = subst (Tells state a) (sym is) tt
free_tells state a statement reply.Done given is = room_tells state a statement given is
free_tells state a statement (reply.Asked k) given is = absurd is
free_tells state a statement reply.ReadOnly given is = absurd is
free_tells state a statement (reply.Answered k) given is = absurd is
free_tells state a statement reply.RolledBack given is = absurd is
free_tells state a statement reply.Released given is = absurd is
free_tells state a statement (reply.Refused why) given is = absurd is

comes_tells : (lines : List Line) (p : Point) (e : Entry) → Comes lines p e → Tells p.state e.act e.reply
comes_tells lines p e comes = elim comes.one_of [
  | inl next ↦ elim next.2.allowed [
    | inl same ↦ subst (Tells p.state e.act) (sym same) (reply_tells p.state e.session e.act next.0)
    | inr stands ↦ free_tells p.state e.act next.0 (reply_to p.state e.session e.act (Some next.0)) e.reply stands
  ]
  | inr release ↦ subst (Tells p.state e.act) (sym release.released) tt
]

-- ---- a transaction that fits its state

abbrev Fits : ℕ → ℕ → Transaction → Type 0
Fits answered asked me = (me.snapshot ≤ answered) × IfSome me.asked (λ k. k ≤ asked)

if_later : (o : Option ℕ) (a b : ℕ) → a ≤ b → IfSome o (λ k. k ≤ a) → IfSome o (λ k. k ≤ b)
if_later None a b le is = tt
if_later (Some k) a b le is = omega (arith, le, is)

fits_later : (me : Transaction) (a b c d : ℕ) → a ≤ b → c ≤ d → Fits a c me → Fits b d me
fits_later me a b c d le le' fits = (omega (arith, le, fits.0), if_later me.asked c d le' fits.1)

module _ (P : Transaction → Type 0) (sessions : List (ℕ × Transaction)) (s : ℕ) (each : (t : ℕ) (you : Transaction) → find nat_cmp t sessions ≡ Some you → P you) where
  each_put : (me : Transaction) → P me → (t : ℕ) (you : Transaction) → find nat_cmp t (put nat_cmp s me sessions) ≡ Some you → P you
  each_put me fits t you is = known (t == s)
      (λ same. let t_is : t ≡ s = exact_unsigned_eq t s same in
      let found : Some me ≡ Some you = sym (find-put-same s me sessions) ∙ ap (λ k. find nat_cmp k (put nat_cmp s me sessions)) (sym t_is) ∙ is in
      subst P (ap (λ o. unwrap_or o me) found) fits)
      (λ other. each t you (sym (find-put-other t s me sessions other) ∙ is))

  each_without : (t : ℕ) (you : Transaction) → find nat_cmp t (without nat_cmp s sessions) ≡ Some you → P you
  each_without t you is = known (t == s)
      (λ same. let t_is : t ≡ s = exact_unsigned_eq t s same in
      let gone : None ≡ Some you = sym (find-without-same s sessions) ∙ ap (λ k. find nat_cmp k (without nat_cmp s sessions)) (sym t_is) ∙ is in
      absurd (cc gone))
      (λ other. each t you (sym (find-without-other t s sessions other) ∙ is))

-- ---- one step

-- the number and the snapshot stay with a lock, a use and a change
module _ (answered asked : ℕ) (me : Transaction) (fits : Fits answered asked me) where
  locked_fits : (key : Option ℤ) (table : Option (List ℕ)) → Fits answered asked (on_table (with_lock key) table me)
  locked_fits key None = fits
  locked_fits None (Some name) = fits
  locked_fits (Some key) (Some name) = fits

  granted_fits : (a : Act) (statement : Statement) → Fits answered asked (granted a statement me)
  granted_fits act.Begin statement = fits
  granted_fits act.Read statement = fits
  granted_fits act.Lock statement = locked_fits (key_locked act.Lock statement) (table_of statement)
  granted_fits act.Write statement = fits
  granted_fits act.Ask statement = fits
  granted_fits act.Answer statement = fits
  granted_fits act.Rollback statement = fits
  granted_fits (act.Release name) statement = fits

  with_granted_fits : (a : Act) (of : Option Statement) → Fits answered asked (with_granted a of me)
  with_granted_fits a None = fits
  with_granted_fits a (Some statement) = granted_fits a statement

  used_fits : (table : Option (List ℕ)) → Fits answered asked (on_table with_use table me)
  used_fits None = fits
  used_fits (Some name) = fits

  with_read_fits : (of : Option Statement) → Fits answered asked (with_read of me)
  with_read_fits None = fits
  with_read_fits (Some statement) = used_fits (table_of statement)

  with_changes_fits : (db : Database) (of : Option Statement) → Fits answered asked (with_changes db of me)
  with_changes_fits db None = fits
  with_changes_fits db (Some statement) = fits

module _ (state : State) (s : ℕ) (a : Act) (sound : IsSoundState state) where
  fits_of : (me : Transaction) → transaction_of state s ≡ Some me → Fits state.answered (length state.asked) me
  fits_of me is = sound.each s me is

  inside_sound : (me : Transaction) → transaction_of state s ≡ Some me → (of : Option Statement) (r : Reply) → Tells state a r → IsInTurn state s a → IsSoundState (next_inside state s me a of r)
  inside_sound me is of (reply.Began n) tells turn = sound
  inside_sound me is of reply.Granted tells turn = record {
    answered = sound.answered;
    each = each_put (Fits state.answered (length state.asked)) state.sessions s sound.each (with_granted a of me) (with_granted_fits state.answered (length state.asked) me (fits_of me is) a of);
  }
  inside_sound me is of (reply.Rows rows) tells turn = record {
    answered = sound.answered;
    each = each_put (Fits state.answered (length state.asked)) state.sessions s sound.each (with_read of me) (with_read_fits state.answered (length state.asked) me (fits_of me is) of);
  }
  inside_sound me is of reply.Done tells turn = record {
    answered = sound.answered;
    each = each_put (Fits state.answered (length state.asked)) state.sessions s sound.each (with_changes (view state me) of me)
        (with_changes_fits state.answered (length state.asked) me (fits_of me is) (view state me) of);
  }
  inside_sound me is of (reply.Asked k) tells turn =
      let longer : length (state.asked ++ me.own ∷ []) ≡ length state.asked + 1 = length-append state.asked (me.own ∷ []) in
      record {
        answered = omega (arith, sound.answered, longer);
        each = each_put (Fits state.answered (length (state.asked ++ me.own ∷ []))) state.sessions s
            (λ t you found. fits_later you state.answered state.answered (length state.asked) (length (state.asked ++ me.own ∷ [])) (omega arith) (omega (arith, longer)) (sound.each t you found)) _
            ((fits_of me is).0, omega (arith, tells, longer));
      }
  inside_sound me is of reply.ReadOnly tells turn = record { answered = sound.answered; each = each_without (Fits state.answered (length state.asked)) state.sessions s sound.each }
  inside_sound me is of (reply.Answered k) tells turn =
      let own : IsInTurn state s act.Answer = subst (IsInTurn state s) tells turn in
      let mine : me.asked ≡ Some (state.answered + 1) = ap (option_and_then (λ (t : Transaction). t.asked)) (sym is) ∙ own in
      let asked : state.answered + 1 ≤ length state.asked = subst (λ o. IfSome o (λ k. k ≤ length state.asked)) mine (fits_of me is).1 in
      record {
        answered = asked;
        each = each_without (Fits (state.answered + 1) (length state.asked)) state.sessions s
            (λ t you found. fits_later you state.answered (state.answered + 1) (length state.asked) (length state.asked) (omega arith) (omega arith) (sound.each t you found));
      }
  inside_sound me is of reply.RolledBack tells turn = record { answered = sound.answered; each = each_without (Fits state.answered (length state.asked)) state.sessions s sound.each }
  inside_sound me is of reply.Released tells turn = sound
  inside_sound me is of (reply.Refused why) tells turn = sound

outside_sound : (state : State) (s : ℕ) (a : Act) (of : Option Statement) (r : Reply) → IsSoundState state → Tells state a r → IsSoundState (next_outside state s a of r)
outside_sound state s a of r sound = next_outside-cases (λ r new. Tells state a r → IsSoundState new) state s
    (λ n tells. record {
      answered = sound.answered;
      each = each_put (Fits state.answered (length state.asked)) state.sessions s sound.each (begun n) (omega (arith, tells), tt);
    })
    (λ r tells. sound) (λ name tells. record { answered = sound.answered; each = sound.each }) a of r

next_sound : (state : State) (s : ℕ) (a : Act) (of : Option Statement) (r : Reply) → IsSoundState state → Tells state a r → IsInTurn state s a → IsSoundState (next_state state s a of r)
next_sound state s a of r sound tells turn = elim (transaction_of state s) as (λ f. transaction_of state s ≡ f → IsSoundState (next_from state s f a of r)) [
  | Some me ↦ λ is. inside_sound state s a sound me is of r tells turn
  | None ↦ λ is. outside_sound state s a of r sound tells
] refl

in_turn : (lines : List Line) (p : Point) (e : Entry) → Comes lines p e → IsInTurn p.state e.session e.act
in_turn lines p e comes = elim comes.one_of [
  | inl next ↦ next.2.in_turn
  | inr release ↦ subst (IsInTurn p.state e.session) (sym release.act) tt
]

-- ---- a tape

sound_on : (lines : List Line) (p : Point) (es : List Entry) → IsSoundState p.state → Legal lines p es → IsSoundState (final lines p es).state
sound_on lines p [] sound legal = sound
sound_on lines p (e ∷ es) sound legal =
    sound_on lines (passed lines p e) es (next_sound p.state e.session e.act (statement_of lines e.session e.statement) e.reply sound (comes_tells lines p e legal.0) (in_turn lines p e legal.0)) legal.1

pub legal_states_are_sound : LegalStatesAreSound
legal_states_are_sound lines moment base stuck es legal =
    sound_on lines (at_start moment base stuck) es (record { answered = omega arith; each = λ s me is. absurd (cc is) }) legal
