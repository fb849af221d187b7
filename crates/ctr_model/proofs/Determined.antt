-- Replies are determined by the acts, but for the three that may stand for others.
use Rattle.std.proofs.Common.{◌≡◌, inl, inr, ℕ, zero, suc, ◌+◌, true, false, List, [], ◌∷◌, Option, Some, None, refl, sym, ◌∙◌, ap, slice_get}
use Rattle.std.specs.Prelude.{unwrap_or}
use Rattle.std.specs.Ordering.{nat_cmp}
use Rattle.std.specs.FinMap.Entries.{put}
use Rattle.ctr_types.specs.declared.statement.Statement.{Statement}
use Rattle.ctr_types.specs.declared.statement.Statement.TheVariants as st
use Rattle.ctr_types.specs.declared.statement.Line.{Line}
use Rattle.ctr_types.specs.declared.tape.Act.TheVariants as act
use Rattle.ctr_types.specs.declared.tape.Reply.{Reply}
use Rattle.ctr_types.specs.declared.tape.Reply.TheVariants as reply
use Rattle.ctr_types.specs.declared.tape.Refusal.TheVariants as refusal
use Rattle.ctr_types.specs.declared.tape.Entry.{Entry}
use Rattle.ctr_model.specs.declared.state.State.{State}
use Rattle.ctr_model.specs.Reply.{reply_to, next_state, IsWantOfRoom, MayStandFor}
use Rattle.ctr_model.specs.Tape.{acts_of, advanced, progress_of, progressed, statement_of, passed, Comes, IsNextAct, IsActOf, Legal}
use Rattle.ctr_model.specs.declared.tape.Progress.{Progress}
use Rattle.ctr_model.specs.declared.tape.Point.{Point}
use Rattle.ctr_model.specs.Laws.{SameActs, is_free, NoneFree, replies_of, RepliesAreDetermined}

-- a free reply is one of the three
room_is_free : (statement : Statement) (given : Reply) → IsWantOfRoom statement given → is_free given ≡ true
room_is_free st.Begin given is = absurd is
room_is_free st.Commit given is = absurd is
room_is_free st.Rollback given is = absurd is
room_is_free (st.Create table schema) given is = ap is_free is
room_is_free (st.DropTable table) given is = absurd is
room_is_free (st.Insert table values) given is = ap is_free is
room_is_free (st.Select table at) given is = absurd is
room_is_free (st.Update table sets at) given is = ap is_free is
room_is_free (st.Delete table at) given is = ap is_free is

-- what may stand in the place of a reply: want of memory, or what may stand for Done
pub by_stand : (statement : Statement) (P : Reply → Type 0) → ((given : Reply) → given ≡ reply.Refused refusal.OutOfMemory → P given) → ((given : Reply) → MayStandFor statement reply.Done given → P given)
    → (r given : Reply) → MayStandFor statement r given → P given
by_stand statement P starved room (reply.Began n) given is = starved given is
by_stand statement P starved room reply.Granted given is = starved given is
by_stand statement P starved room (reply.Rows rows) given is = starved given is
by_stand statement P starved room reply.Done given is = room given is
by_stand statement P starved room (reply.Asked k) given is = absurd is
by_stand statement P starved room reply.ReadOnly given is = absurd is
by_stand statement P starved room (reply.Answered k) given is = absurd is
by_stand statement P starved room reply.RolledBack given is = absurd is
by_stand statement P starved room reply.Released given is = absurd is
by_stand statement P starved room (reply.Refused why) given is = absurd is

free_given : (statement : Statement) (r given : Reply) → MayStandFor statement r given → is_free given ≡ true
free_given statement r given is = by_stand statement (λ given. is_free given ≡ true) (λ given is. ap is_free is) (room_is_free statement) r given is

-- no statement's act is a release
no_release : (state : State) (s : ℕ) (statement : Statement) (n : ℕ) (name : List ℕ) → slice_get (acts_of state s statement) n ≡ Some (act.Release name) → ⊥
no_release state s st.Begin zero name is = cc
no_release state s st.Begin (suc n) name is = cc
no_release state s st.Commit zero name is = cc
no_release state s st.Commit (suc zero) name is = cc
no_release state s st.Commit (suc (suc n)) name is = cc
no_release state s st.Rollback zero name is = cc
no_release state s st.Rollback (suc n) name is = cc
no_release state s (st.Create table schema) zero name is = cc
no_release state s (st.Create table schema) (suc zero) name is = cc
no_release state s (st.Create table schema) (suc (suc n)) name is = cc
no_release state s (st.DropTable table) zero name is = cc
no_release state s (st.DropTable table) (suc zero) name is = cc
no_release state s (st.DropTable table) (suc (suc n)) name is = cc
no_release state s (st.Insert table values) zero name is = cc
no_release state s (st.Insert table values) (suc zero) name is = cc
no_release state s (st.Insert table values) (suc (suc n)) name is = cc
no_release state s (st.Select table at) zero name is = cc
no_release state s (st.Select table at) (suc n) name is = cc
no_release state s (st.Update table sets at) zero name is = cc
no_release state s (st.Update table sets at) (suc zero) name is = cc
no_release state s (st.Update table sets at) (suc (suc n)) name is = cc
no_release state s (st.Delete table at) zero name is = cc
no_release state s (st.Delete table at) (suc zero) name is = cc
no_release state s (st.Delete table at) (suc (suc n)) name is = cc

-- two runs stand at the same place, whatever their moments
record SamePlace (p q : Point) : Type 0 where
  state : p.state ≡ q.state
  progress : p.progress ≡ q.progress

same_progress : (p q : Point) (s t : ℕ) → SamePlace p q → s ≡ t → progress_of p s ≡ progress_of q t
same_progress p q s t same is = λ i. progress_of (record { state = same.state i; progress = same.progress i; moment = p.moment }) (is i)

-- the reply of an act that isn't free is the function's
the_reply : (statement : Statement) (p : Point) (e : Entry) → is_free e.reply ≡ false → IsActOf statement p e → e.reply ≡ reply_to p.state e.session e.act (Some statement)
the_reply statement p e free is = elim is.allowed [
  | inl same ↦ same
  | inr stands ↦ absurd (cc (free, free_given statement (reply_to p.state e.session e.act (Some statement)) e.reply stands))
]

-- two entries that come at one place have the same number and the same reply
record SameAnswer (a b : Entry) : Type 0 where
  number : a.statement ≡ b.statement
  answer : a.reply ≡ b.reply

module _ (lines : List Line) (p q : Point) (a b : Entry) (same : SamePlace p q) (session : a.session ≡ b.session) (acts : a.act ≡ b.act) where
  both_acts : is_free a.reply ≡ false → is_free b.reply ≡ false → IsNextAct lines p a → IsNextAct lines q b → SameAnswer a b
  both_acts free_a free_b x y =
      let number : a.statement ≡ b.statement = x.2.number ∙ ap (λ (n : Progress). n.finished + 1) (same_progress p q a.session b.session same session) ∙ sym y.2.number in
      let found : Some x.0 ≡ Some y.0 = sym x.1 ∙ (λ i. statement_of lines (session i) (number i)) ∙ y.1 in
      let statement : x.0 ≡ y.0 = ap (λ o. unwrap_or o x.0) found in
      record {
        number = number;
        answer = the_reply x.0 p a free_a x.2 ∙ (λ i. reply_to (same.state i) (session i) (acts i) (Some (statement i))) ∙ sym (the_reply y.0 q b free_b y.2);
      }

  same_answer : is_free a.reply ≡ false → is_free b.reply ≡ false → Comes lines p a → Comes lines q b → SameAnswer a b
  same_answer free_a free_b x y = elim x.one_of [
    | inl one ↦ elim y.one_of [
      | inl other ↦ both_acts free_a free_b one other
      | inr other ↦ absurd (no_release p.state a.session one.0 (progress_of p a.session).made other.name (one.2.next_act ∙ ap Some (acts ∙ other.act)))
    ]
    | inr one ↦ elim y.one_of [
      | inl other ↦ absurd (no_release q.state b.session other.0 (progress_of q b.session).made one.name (other.2.next_act ∙ ap Some (sym acts ∙ one.act)))
      | inr other ↦ record { number = one.statement ∙ sym other.statement; answer = one.released ∙ sym other.released }
    ]
  ]

  same_progressed : SameAnswer a b → (of : Option Statement) → progressed of p a ≡ progressed of q b
  same_progressed same_ab None = same.progress
  same_progressed same_ab (Some statement) =
      λ i. put nat_cmp (session i) (advanced (acts_of (same.state i) (session i) statement) (same_ab.answer i) (same_progress p q a.session b.session same session i)) (same.progress i)

  same_place : SameAnswer a b → SamePlace (passed lines p a) (passed lines q b)
  same_place same_ab =
      let of : statement_of lines a.session a.statement ≡ statement_of lines b.session b.statement = λ i. statement_of lines (session i) (same_ab.number i) in
      record {
        state = λ i. next_state (same.state i) (session i) (acts i) (of i) (same_ab.answer i);
        progress = same_progressed same_ab (statement_of lines a.session a.statement) ∙ ap (λ o. progressed o q b) of;
      }

determined : (lines : List Line) (p q : Point) (xs ys : List Entry) → SamePlace p q → Legal lines p xs → Legal lines q ys → SameActs xs ys → NoneFree xs → NoneFree ys → replies_of xs ≡ replies_of ys
determined lines p q [] [] same legal_x legal_y acts free_x free_y = refl
determined lines p q [] (y ∷ ys) same legal_x legal_y acts free_x free_y = absurd acts
determined lines p q (x ∷ xs) [] same legal_x legal_y acts free_x free_y = absurd acts
determined lines p q (x ∷ xs) (y ∷ ys) same legal_x legal_y acts free_x free_y =
    let answer = same_answer lines p q x y same acts.0 acts.1 free_x.0 free_y.0 legal_x.0 legal_y.0 in
    let rest = determined lines (passed lines p x) (passed lines q y) xs ys (same_place lines p q x y same acts.0 acts.1 answer) legal_x.1 legal_y.1 acts.2 free_x.1 free_y.1 in
    λ i. answer.answer i ∷ rest i

pub replies_are_determined : RepliesAreDetermined
replies_are_determined lines p xs ys = determined lines p p xs ys (record { state = refl; progress = refl })
