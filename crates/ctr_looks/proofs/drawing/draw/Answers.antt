use Rattle.std.proofs.Common.{◌≡◌, ⊎_elim, inl, inr, ℕ, ◌<◌, Option, Some, None, refl, sym, ◌∙◌, ap, subst}
use Rattle.std.specs.Prelude.{is_some}
use Rattle.std.specs.Option.{option_map}
use Rattle.std.proofs.lemmas.Bool.{false≢true}
use Rattle.ctr_disk.proofs.Moments.{on_ok}
use Rattle.ctr_versions.specs.Engine.{SessionHeld}
use Rattle.ctr_versions.proofs.Keys.{some_is}
use Rattle.ctr_session_world.specs.txn_Held.{TxnHeld, TxnsHeld, IsReading, txn_of}
use Rattle.ctr_looks.specs.Granting.{DrawsNext, HasNumber}
use Rattle.ctr_session_world.proofs.Numbers.{none_or_some}
use Rattle.ctr_session_world.proofs.Ready.{ready_as_was}
use Rattle.ctr_session_world.proofs.Resting.{rests_here}
use Rattle.ctr_session_world.proofs.Disks.{disk_still}
use Rattle.ctr_looks.proofs.drawing.draw.Goals as goal

pub returns-then-is_reading-clause-over : goal.returns-then-is_reading-clause-over
returns-then-is_reading-clause-over g c = λ stand going. c.draw_next.ensures.over stand.items

pub returns-clause-over : goal.returns-clause-over
returns-clause-over g c = λ stand going. (ready_as_was c.args.s c.args.txns.now c.args.store.now stand going, λ unasked. unasked)

pub returns-then-is_reading-clause-number : goal.returns-then-is_reading-clause-number
returns-then-is_reading-clause-number g c = λ told sound going some.
    let a = c.args.store.now in
    let b = c.draw_next.new.store in
    on_ok c.draw_next.result (DrawsNext g.D.Disk c.args.s c.args.txns.now c.draw_next.new.txns a b) (HasNumber g.D.Disk c.args.s c.args.txns.now c.draw_next.new.txns a b) inl (c.draw_next.ensures.draws told sound some)

pub returns-clause-number : goal.returns-clause-number
returns-clause-number g c = λ told sound going some.
    let a = c.args.store.now in
    let s = c.args.s in
    let old = c.args.txns.now in
    let one = c.requires.inside.one in
    inr (record {
      rests = rests_here g.D.Disk a (c.rests.ensures told sound going);
      some = λ t at. by_txn s old (λ reads. false≢true (sym c.if-is_reading.false ∙ c.is_reading.ensures.1 reads)) t (txn_of s old) refl (sym (c.the_run_is_of_the_sessions.ensures.found s old one) ∙ at);
      run = refl;
    })
  where
    by_txn : (s : ℕ) (a : TxnsHeld) → (IsReading s a → ⊥) → (t : SessionHeld) (o : Option TxnHeld) → txn_of s a ≡ o → option_map (λ (q : TxnHeld). q.session) (txn_of s a) ≡ Some t → 0 < t.me
    by_txn s a reads t None is at = absurd (false≢true (ap is_some (sym (ap (option_map (λ (q : TxnHeld). q.session)) is) ∙ at)))
    by_txn s a reads t (Some q) is at =
        let its = some_is q.session t (sym (ap (option_map (λ (q : TxnHeld). q.session)) is) ∙ at) in
        ⊎_elim (λ none. absurd (reads (record { t = q; there = is; none = none }))) (λ some. subst (λ (b : SessionHeld). 0 < b.me) its some) (none_or_some q.session.me)

-- ---- what is left of the disk

pub returns-clause-disk : goal.returns-clause-disk
returns-clause-disk g c = λ going. disk_still g.O.Origin.first g.D.Disk c.args.store.now c.args.store.now _ refl (λ told sound. c.rests.ensures told sound going)

pub returns-then-is_reading-clause-disk : goal.returns-then-is_reading-clause-disk
returns-then-is_reading-clause-disk g c = λ going. c.draw_next.ensures.disk
