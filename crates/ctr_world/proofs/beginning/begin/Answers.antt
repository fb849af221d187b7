use Rattle.std.proofs.Common.{true, sym, ◌∙◌, ap, subst}
use Rattle.ctr_meta.specs.Kept.{TablesKept}
use Rattle.ctr_store.specs.Store.{View}
use Rattle.ctr_pass.specs.txn_Held.{TxnsHeld}
use Rattle.ctr_pass.specs.exec_Order.{IsTapeOrdered}
use Rattle.ctr_pass.specs.exec_Sessions.{AreSeated}
use Rattle.ctr_pass.specs.cursor_Pass.{start}
use Rattle.ctr_pass.specs.declared.pass.Phase.TheVariants.{Calm}
use Rattle.ctr_world.proofs.Nearer.{same_is}
use Rattle.ctr_world.proofs.beginning.begin.Goals as goal

pub returns-clause-begun : goal.returns-clause-begun
returns-clause-begun g c =
    let h = c.in_ok-sessions.sessions in
    let e = c.in_ok-sessions.ensures in
    let law = c.room_for_the_cleaner_leaves_the_sessions.ensures in
    let kept = c.keep_cleaners.ensures.sets in
    record {
      seats = λ counted. subst (λ (t : TxnsHeld). AreSeated (record h { txns = t }) counted) (sym kept) (law.seats h counted true (e.seats counted));
      ordered = λ from now more. subst (λ (t : TxnsHeld). IsTapeOrdered from now (record h { txns = t })) (sym kept) (law.order from now h true (e.ordered from now more));
      unkept = h;
      fresh = e.fresh;
      kept = ap (λ (t : TxnsHeld). record h { txns = t }) kept;
      next = ap (λ (t : TxnsHeld). t.numbers.next) kept ∙ e.is.0 ∙ c.next-next.ensures.next ∙ ap (λ (k : TablesKept). k.tables.next) c.meta-2.ensures.tables ∙ ap (λ t. t.next) c.reserve-room.ensures.tables;
      stuck = e.is.1 ∙ c.as_slice.ensures.value;
      script_is = e.is.2;
      count = same_is _ _ (sym c.len-size.ensures);
      pass = c.new-pass.ensures ∙ ap (λ n. record { at = start; next = n; seen = 0; phase = Calm }) (c.next.ensures ∙ c.in-Ok-names.ensures.leaves.keeps.next ∙ ap (λ (v : View g.row.D.Denot). v.next) c.reserve-room.ensures.same);
    }
