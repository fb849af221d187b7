use Rattle.std.specs.Prelude.{IsTrue}
use Rattle.std.proofs.Common.{◌≡◌, ℕ, Bool, List, length, refl, sym, ap, subst, arith}
use Rattle.std.proofs.lemmas.List.{nil_from_length}
use Rattle.ctr_disk.specs.Device.{LeavesOnly, IsSettled}
use Rattle.ctr_redo.specs.States.{state_of}
use Rattle.ctr_redo.specs.Images.{FoldsFront}
use Rattle.ctr_disk.specs.Image.{Image}
use Rattle.ctr_disk.proofs.Moments.{weaker}
use Rattle.ctr_base.specs.Base.{IsSoundImage, HasGate, LeavesBase, stored_of, waiting_of}
use Rattle.ctr_redo.specs.log_Logs.{IsFlushing, with_batch}
use Rattle.ctr_redo.specs.log_Kept.{StartsAt}
use Rattle.ctr_redo.proofs.ImageLaws.{logs_apart}
use Rattle.ctr_base.specs.declared.base.Base.{Base}
use Rattle.ctr_base.specs.BaseLaws.{holds_if, holds_still, rests_leaves, stands_still, stands_flushed, homes_flushed}
use Rattle.ctr_base.proofs.HomeLaws.{since_still}
use Rattle.ctr_base.proofs.FlushLaws.{flush_kept, flush_leaves, flush_moves, flush_quiet, flush_holds, Flushed}
use Rattle.ctr_base.proofs.base.Base.flush.Given.{Over}
use Rattle.ctr_base.proofs.base.Base.flush.Goals.{After-flush}
use Rattle.ctr_base.proofs.base.Base.flush.Goals as goal

-- however the flush ended, a crash leaves a prefix of what waited
leaves : (g : Over) (c : After-flush g) (b : Base g.row.D.Denot g.row.O.Denot) → b.disk ≡ c.flush.new.disk → IsTrue g.D.Disk.tells → IsSoundImage g.O.Origin.first → LeavesBase g.D.Disk c.args.self.now b
leaves g c b disk told sound =
    let d = g.D.Disk in
    let a = c.args.self.now in
    let rests = c.requires told in
    let quiet = rests.quiet sound in
    let settled : IsSettled d a.disk = record { told = told; only = quiet.only } in
    let goes = rests.stands.goes_on in
    let new = c.flush.new.disk in
    let Flushing : Image → Type 0 = IsFlushing goes.0 goes.1 a.log (d.reads a.disk) in
    record {
      front = subst (λ (n : g.row.D.Denot). LeavesOnly d a.disk n (FoldsFront (state_of (stored_of d a)) (waiting_of a))) (sym disk) (flush_leaves d a new quiet (c.flush.ensures.kept_any_moment a.root.file a.root.first settled quiet.writes));
      gate = subst (λ (n : g.row.D.Denot). LeavesOnly d a.disk n (HasGate a.log)) (sym disk) (weaker d a.disk new Flushing (HasGate a.log) (c.flush.ensures.any_moment goes.0 goes.1 settled goes.2) (λ i is. is.long));
    }

-- nothing waits, so all is as it is
pub returns-then-waiting-eq0-clause-goes : goal.returns-then-waiting-eq0-clause-goes
returns-then-waiting-eq0-clause-goes g c told = rests_leaves g.D.Disk g.O.Origin.first g.met.D.Disk.only_now c.args.self.now (c.requires told)

pub returns-then-waiting-eq0-clause-moves : goal.returns-then-waiting-eq0-clause-moves
returns-then-waiting-eq0-clause-moves g c told = (λ sound. stands_still g.D.Disk c.args.self.now, c.requires told)

pub returns-then-waiting-eq0-clause-holds : goal.returns-then-waiting-eq0-clause-holds
returns-then-waiting-eq0-clause-holds g c told = holds_still g.D.Disk g.O.Origin.first c.args.self.now

pub returns-then-waiting-eq0-clause-none : goal.returns-then-waiting-eq0-clause-none
returns-then-waiting-eq0-clause-none g c = nil_from_length c.args.self.now.log.buffered (omega (arith, c.waiting.ensures, c.if-waiting-eq0.true))

-- something waits, and however the flush ended this is kept
pub returns-in_err-flush-clause-keeps : goal.returns-in_err-flush-clause-keeps
returns-in_err-flush-clause-keeps g c =
    flush_kept g.D.Disk c.args.self.now _ c.flush.result refl c.flush.ensures.emptied c.flush.ensures.counts (λ none. omega (arith, c.waiting.ensures, c.if-waiting-eq0.false, ap (λ (l : List (List ℕ)). length l) none))

pub returns-clause-keeps : goal.returns-clause-keeps
returns-clause-keeps g c =
    flush_kept g.D.Disk c.args.self.now _ c.flush.result refl c.flush.ensures.emptied c.flush.ensures.counts (λ none. omega (arith, c.waiting.ensures, c.if-waiting-eq0.false, ap (λ (l : List (List ℕ)). length l) none))

pub returns-in_err-flush-clause-goes : goal.returns-in_err-flush-clause-goes
returns-in_err-flush-clause-goes g c told sound = leaves g (goal.at.returns-in_err-flush-clause-goes g c).After-flush _ refl told sound

pub returns-clause-goes : goal.returns-clause-goes
returns-clause-goes g c told sound = leaves g (goal.at.returns-clause-goes g c).After-flush _ refl told sound

pub returns-clause-moves : goal.returns-clause-moves
returns-clause-moves g c told =
    let d = g.D.Disk in
    let a = c.args.self.now in
    let b : Base g.row.D.Denot g.row.O.Denot = record { disk = c.flush.new.disk; log = c.flush.new.self; root = a.root; durable = c.next-self.result; of = a.of } in
    let rests = c.requires told in
    let e = c.in_ok-flush.ensures in
    let file = c.flush.ensures.emptied.file in
    let goes = rests.stands.goes_on in
    let flushed = e.flushed goes.0 goes.1 told goes.2 in
    let kept = logs_apart a.log.file (d.reads a.disk) (d.reads c.flush.new.disk) rests.stands.file flushed.0 in
    let f : (sound : _) → Flushed d a b = λ sound.
    record { root = refl; file = file; place = c.flush.ensures.emptied.gate; none = e.emptied.none; next = e.emptied.next; durable = c.next-self.ensures; goes_on = e.kept a.root.file a.root.first told (rests.quiet sound).writes } in (
      λ sound. flush_moves d a b (rests.quiet sound) (f sound),
      record {
        stands = stands_flushed d a b rests.stands refl file (subst (λ (n : ℕ). StartsAt c.flush.new.self.older a.root.first n) (sym c.flush.ensures.emptied.start) (subst (λ (o : Bool). StartsAt o a.root.first a.log.start) (sym c.flush.ensures.emptied.older) rests.stands.starts)) kept goes.0 (with_batch goes.1 a.log.buffered) flushed.1;
        since = since_still g.O.Origin.first a.root.pages (d.reads a.disk) (d.reads c.flush.new.disk) kept.pages rests.since;
        quiet = λ sound. flush_quiet d a b (rests.quiet sound) (f sound) (e.durable (rests.quiet sound).only);
      },
    )

pub returns-clause-holds : goal.returns-clause-holds
returns-clause-holds g c told =
    let d = g.D.Disk in
    let a = c.args.self.now in
    let b : Base g.row.D.Denot g.row.O.Denot = record { disk = c.flush.new.disk; log = c.flush.new.self; root = a.root; durable = c.next-self.result; of = a.of } in
    let rests = c.requires told in
    let e = c.in_ok-flush.ensures in
    let goes = rests.stands.goes_on in
    let flushed = e.flushed goes.0 goes.1 told goes.2 in
    let kept = logs_apart a.log.file (d.reads a.disk) (d.reads c.flush.new.disk) rests.stands.file flushed.0 in
    holds_if d g.O.Origin.first a b refl (homes_flushed d a b refl kept)
    (λ sound.
    flush_holds d a b (rests.quiet sound)
    (record {
      root = refl;
      file = c.flush.ensures.emptied.file;
      place = c.flush.ensures.emptied.gate;
      none = e.emptied.none;
      next = e.emptied.next;
      durable = c.next-self.ensures;
      goes_on = e.kept a.root.file a.root.first told (rests.quiet sound).writes;
    }))
