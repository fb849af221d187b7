use Rattle.std.proofs.Common.{◌≡◌, ◌≤◌, length, subst, sym}
use Rattle.ctr_disk.specs.declared.disk.Disk.{Ghosts}
use Rattle.ctr_disk.specs.Image.{Image, content}
use Rattle.ctr_disk.specs.Device.{LeavesOnly, IsDurable, IsSettled, OnlyReads}
use Rattle.ctr_home.specs.declared.block.Block.{Block}
use Rattle.ctr_home.specs.declared.block.Home.{Home}
use Rattle.ctr_home.specs.Blocks.{BlockValue, file_of, first_place, home_place, value_of}
use Rattle.ctr_home.specs.Writing.{IsAbove, chosen_in, IsShut, KeepsHome, MakesHome, KeepsOrMakesHome, IsOldOrNewValue, IsNewValue, with_body}
use Rattle.ctr_disk.proofs.Moments.{weaker, joined, read_then, still_settled, still_only, settled_by}
use Rattle.ctr_home.proofs.HomeLemmas.{chosen_fits}
use Rattle.ctr_home.proofs.WriteLemmas.{keeps_same, keeps_value, later_either, later_makes}
use Rattle.ctr_home.proofs.writing.write_home.Goals as goal

-- from a disk on which the home was chosen by calls that only read
module _ {D : Type 0} (g : Ghosts D) (b : Block) (value : BlockValue) (home : Home) (old mid shut : D) (quiet : OnlyReads g old mid) (is_home : home ≡ chosen_in b (content (file_of b) (g.reads old)))
    (low : first_place b ≤ length (content (file_of b) (g.reads old))) where
  abbrev before : Image
  before = g.reads old

  abbrev P : Image → Type 0
  P = IsOldOrNewValue b value before

  abbrev Fits : Type 0
  Fits = home_place b home ≤ length (content (file_of b) (g.reads mid))

  fits : Fits
  fits =
      let from_old = subst (λ (h : Home). home_place b h ≤ length (content (file_of b) before)) (sym is_home) (chosen_fits b (content (file_of b) before) low) in
      subst (λ (i : Image). home_place b home ≤ length (content (file_of b) i)) (sym quiet.same) from_old

  -- its gate is shut
  module _ (settled : IsSettled g old) (shutting : IsSettled g mid → Fits → LeavesOnly g mid shut (KeepsHome b home (g.reads mid))) where
    at_mid : IsSettled g mid
    at_mid = still_settled g old mid quiet settled

    pub shut_leaves : LeavesOnly g old shut P
    shut_leaves =
        read_then g old mid shut P quiet (λ i is. keeps_value b home before value is_home i (keeps_same b home before i (settled.only i is)))
        (weaker g mid shut (KeepsHome b home (g.reads mid)) P (shutting at_mid fits) (λ i keeps. keeps_value b home before value is_home i (subst (λ (o : Image). KeepsHome b home o i) quiet.same keeps)))

  -- and the home is put
  module _ (was_shut : Fits → KeepsHome b home (g.reads mid) (g.reads shut) × IsShut b home (content (file_of b) (g.reads shut))) (above : IsAbove value.stamp (value_of b before)) where
    from_old : KeepsHome b home before (g.reads shut)
    from_old = subst (λ (o : Image). KeepsHome b home o (g.reads shut)) quiet.same (was_shut fits).0

    pub put_leaves : (new : D) (settled : IsSettled g old) → (IsSettled g mid → Fits → LeavesOnly g mid shut (KeepsHome b home (g.reads mid))) → (IsDurable g mid → IsDurable g shut)
        → (IsSettled g shut → IsShut b home (content (file_of b) (g.reads shut)) → LeavesOnly g shut new (KeepsOrMakesHome b home value (g.reads shut))) → LeavesOnly g old new P
    put_leaves new settled shutting durable putting =
        let at_shut = settled_by g shut settled.told (durable (still_only g old mid quiet settled.only)) in
        joined g old shut new P (shut_leaves settled shutting)
        (weaker g shut new (KeepsOrMakesHome b home value (g.reads shut)) P (putting at_shut (was_shut fits).1) (later_either b home before value is_home (g.reads shut) from_old above))

    pub put_makes : (c : Image) → (IsShut b home (content (file_of b) (g.reads shut)) → MakesHome b home value (g.reads shut) c) → IsNewValue b value before c
    put_makes c makes = later_makes b home before value is_home (g.reads shut) from_old above c (makes (was_shut fits).1)

pub returns-in_err-shut_gate-clause-any_moment : goal.returns-in_err-shut_gate-clause-any_moment
returns-in_err-shut_gate-clause-any_moment g c settled =
    let value = with_body c.args.block c.args.stamp c.args.body.now in
    shut_leaves g.D.Disk c.args.block value c.in_ok-home.home c.args.disk.now c.choose_home.new.disk c.shut_gate.new.disk c.choose_home.ensures.quiet (c.in_ok-home.ensures.told settled.told) (c.requires.place settled.told) settled
    c.shut_gate.ensures.any_moment

pub returns-in_err-put_home-clause-any_moment : goal.returns-in_err-put_home-clause-any_moment
returns-in_err-put_home-clause-any_moment g c settled =
    let value = with_body c.args.block c.args.stamp c.args.body.now in
    put_leaves g.D.Disk c.args.block value c.in_ok-home.home c.args.disk.now c.choose_home.new.disk c.shut_gate.new.disk c.choose_home.ensures.quiet (c.in_ok-home.ensures.told settled.told) (c.requires.place settled.told)
    (c.in_ok-shut_gate.ensures.shut settled.told) (c.requires.above settled.told) c.put_home.new.disk settled c.shut_gate.ensures.any_moment c.in_ok-shut_gate.ensures.durable c.put_home.ensures.any_moment

pub returns-clause-any_moment : goal.returns-clause-any_moment
returns-clause-any_moment g c settled =
    let value = with_body c.args.block c.args.stamp c.args.body.now in
    put_leaves g.D.Disk c.args.block value c.in_ok-home.home c.args.disk.now c.choose_home.new.disk c.shut_gate.new.disk c.choose_home.ensures.quiet (c.in_ok-home.ensures.told settled.told) (c.requires.place settled.told)
    (c.in_ok-shut_gate.ensures.shut settled.told) (c.requires.above settled.told) c.put_home.new.disk settled c.shut_gate.ensures.any_moment c.in_ok-shut_gate.ensures.durable c.put_home.ensures.any_moment

pub returns-clause-written : goal.returns-clause-written
returns-clause-written g c told =
    let value = with_body c.args.block c.args.stamp c.args.body.now in
    put_makes g.D.Disk c.args.block value c.in_ok-home.home c.args.disk.now c.choose_home.new.disk c.shut_gate.new.disk c.choose_home.ensures.quiet (c.in_ok-home.ensures.told told) (c.requires.place told)
    (c.in_ok-shut_gate.ensures.shut told) (c.requires.above told) (g.D.Disk.reads c.put_home.new.disk) (c.in_ok-put_home.ensures.made told)
