-- The commit that is answered next: what its answer leaves.
use Rattle.std.proofs.Common.{◌≡◌, ◌+◌, [], ◌∷◌, ◌++◌, ℕ, List, Option, ◌∙◌, ap}
use Rattle.ctr_types.specs.declared.tape.Act.TheVariants as act
use Rattle.ctr_types.specs.declared.tape.Entry.{Entry}
use Rattle.ctr_types.specs.declared.tape.Reply.TheVariants as reply
use Rattle.ctr_model.specs.declared.state.Transaction.{Transaction}
use Rattle.ctr_model.specs.declared.tape.Point.{Point}
use Rattle.ctr_model.specs.Reply.{next_from}
use Rattle.ctr_model.specs.State.{without_transaction}
use Rattle.ctr_model.specs.Tape.{statement_of, final}
use Rattle.ctr_legal.proofs.Reached.{final_push}
use Rattle.ctr_rollback.specs.kept_Walk.{Mind}
use Rattle.ctr_rollback.specs.kept_Turns.{Start, InTransaction, Telling, entry_of, start_point, state_now}

pub answer_leaves : (c : Start) (now s : ℕ) (w : Mind) (seat : InTransaction c w s) (e : Telling c now s) (v : Mind)
    → v.tape ≡ w.tape ++ entry_of s e act.Answer (reply.Answered ((state_now c w).answered + 1)) ∷ []
    → state_now c v ≡ without_transaction s (record (state_now c w) { answered = (state_now c w).answered + 1 })
answer_leaves c now s w seat e v longer =
    ap (λ (l : List Entry). (final c.lines (start_point c) l).state) longer
    ∙ ap (λ (p : Point). p.state) (final_push c.lines (start_point c) w.tape (entry_of s e act.Answer (reply.Answered ((state_now c w).answered + 1))))
    ∙ ap (λ (o : Option Transaction). next_from (state_now c w) s o act.Answer (statement_of c.lines s e.n) (reply.Answered ((state_now c w).answered + 1))) seat.is_t
