use Rattle.std.specs.Prelude.{IsTrue}
use Rattle.std.proofs.Common.{◌≡◌, [], ◌∷◌, length, List, ℕ, refl, sym, ap, subst, arith}
use Rattle.ctr_disk.specs.Image.{Image}
use Rattle.ctr_redo.specs.log_Kept.{next_file, KeepsPrefix}
use Rattle.ctr_disk.specs.Device.{LeavesOnly, IsSettled}
use Rattle.ctr_base.specs.declared.base.Base.{Base}
use Rattle.ctr_base.specs.Base.{IsSoundImage, LeavesBase}
use Rattle.ctr_base.specs.BaseLaws.{holds_if, homes_flushed}
use Rattle.ctr_base.proofs.HomeLaws.{since_still}
use Rattle.ctr_base.proofs.SwitchLaws.{begin_leaves, begin_fold, begin_quiet, begin_holds, records_begun, stands_begun, begun_homes, Begun}
use Rattle.ctr_base.proofs.base.Base.begin_generation.Given.{Over}
use Rattle.ctr_base.proofs.base.Base.begin_generation.Goals.{After-begin_generation}
use Rattle.ctr_base.proofs.base.Base.begin_generation.Goals as goal

-- however it ended, a crash leaves what was hardened
leaves : (g : Over) (c : After-begin_generation g) (b : Base g.row.D.Denot g.row.O.Denot) → b.disk ≡ c.begin_generation.new.disk → IsTrue g.D.Disk.tells → IsSoundImage g.O.Origin.first → LeavesBase g.D.Disk c.args.self.now b
leaves g c b disk told sound =
    let d = g.D.Disk in
    let a = c.args.self.now in
    let quiet = (c.requires.rests told).quiet sound in
    let settled : IsSettled d a.disk = record { told = told; only = quiet.only } in
    let Front : Image → Type 0 = KeepsPrefix (next_file a.log.file) a.root.file a.root.first (c.args.checkpoint.now ∷ []) (d.reads a.disk) in
    begin_leaves d a b c.args.checkpoint.now quiet c.requires.can.one (c.requires.is told sound)
    (subst (λ (n : g.row.D.Denot). LeavesOnly d a.disk n Front) (sym disk) (c.begin_generation.ensures.any_moment a.root.file a.root.first settled quiet.writes))

pub returns-in_err-begin_generation-clause-any_moment : goal.returns-in_err-begin_generation-clause-any_moment
returns-in_err-begin_generation-clause-any_moment g c told sound = leaves g (goal.at.returns-in_err-begin_generation-clause-any_moment g c).After-begin_generation _ refl told sound

pub returns-clause-any_moment : goal.returns-clause-any_moment
returns-clause-any_moment g c told sound = leaves g (goal.at.returns-clause-any_moment g c).After-begin_generation _ refl told sound

pub returns-clause-switches : goal.returns-clause-switches
returns-clause-switches g c told =
    let d = g.D.Disk in
    let o = g.O.Origin.first in
    let a = c.args.self.now in
    let bytes = c.args.checkpoint.now in
    let b : Base g.row.D.Denot g.row.O.Denot = record { disk = c.begin_generation.new.disk; log = c.begin_generation.new.self; root = a.root; durable = c.next-self.result; of = a.of } in
    let rests = c.requires.rests told in
    let e = c.in_ok-begin_generation.ensures in
    let alone = e.alone told in
    let one = c.requires.can.one in
    let none = c.requires.can.empty in
    let kept = begun_homes d a b bytes refl alone in
    let f : (sound : IsSoundImage o) → Begun d a b bytes = λ sound.
    record { root = refl; none = none; started = e.writer; durable = omega (arith, c.next-self.ensures, ap (λ (l : List (List ℕ)). length l) e.writer.empty); goes_on = e.begun a.root.file a.root.first told (rests.quiet sound).writes } in
    record {
      base = λ sound. begin_fold d a b bytes (rests.quiet sound) one (c.requires.is told sound) (f sound);
      rests = record {
        stands = stands_begun d a b bytes rests.stands one none refl e.keeps.file e.writer alone;
        since = since_still o a.root.pages (d.reads a.disk) (d.reads b.disk) kept.pages rests.since;
        quiet = λ sound. begin_quiet d a b bytes (rests.quiet sound) one (c.requires.is told sound) (f sound) e.durable;
      };
      holds = holds_if d o a b refl (homes_flushed d a b refl kept) (λ sound. begin_holds d a b bytes (rests.quiet sound) one (c.requires.is told sound) (f sound));
    }

pub returns-clause-records : goal.returns-clause-records
returns-clause-records g c told sound =
    let d = g.D.Disk in
    let a = c.args.self.now in
    let b : Base g.row.D.Denot g.row.O.Denot = record { disk = c.begin_generation.new.disk; log = c.begin_generation.new.self; root = a.root; durable = c.next-self.result; of = a.of } in
    let e = c.in_ok-begin_generation.ensures in
    let quiet = (c.requires.rests told).quiet sound in
    records_begun d a b c.args.checkpoint.now quiet c.requires.can.one (c.requires.is told sound)
    (record { root = refl; none = c.requires.can.empty; started = e.writer; durable = omega (arith, c.next-self.ensures, ap (λ (l : List (List ℕ)). length l) e.writer.empty); goes_on = e.begun a.root.file a.root.first told quiet.writes })
