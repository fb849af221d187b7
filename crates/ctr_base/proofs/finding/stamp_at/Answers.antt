use Rattle.std.proofs.Common.{◌≡◌, ◌≢◌, ◌<◌, ◌∙◌, ◌+◌, ◌≤◌, ℕ, List, length, Option, None, Some, refl, ap, arith}
use Rattle.std.specs.Prelude.{IsTrue, get_or}
use Rattle.ctr_bytes.specs.Fields.{field}
use Rattle.ctr_types.specs.declared.file.File.TheVariants.{Pages}
use Rattle.ctr_disk.specs.Image.{content, section}
use Rattle.ctr_redo.specs.home_Block_TheVariants.{Page}
use Rattle.ctr_redo.specs.home_Home.{Home}
use Rattle.ctr_redo.specs.home_Blocks.{BlockValue, home_place, held_at, stamp_in}
use Rattle.ctr_redo.proofs.home_HomeLemmas.{stamp_is, held_inside}
use Rattle.ctr_base.proofs.finding.stamp_at.Goals.{After-read}
use Rattle.ctr_base.proofs.finding.stamp_at.Given.{Over}
use Rattle.ctr_base.proofs.finding.stamp_at.Goals as goal

-- a home that the file lacks
lacking : (p : ℕ) (home : Home) (bytes : List ℕ) (o : Option BlockValue) → held_at (Page p) home bytes ≡ o → length bytes < home_place (Page p) home + 4128 → None ≡ stamp_in o
lacking p home bytes None is short = refl
lacking p home bytes (Some v) is short = let inside = held_inside (Page p) home bytes v is in absurd (omega (arith, inside.0, short))

pub returns-then-branch-at-clause-told : goal.returns-then-branch-at-clause-told
returns-then-branch-at-clause-told g c told =
    let bytes = content Pages (g.D.Disk.reads c.args.disk.now) in
    lacking c.args.page c.args.home bytes (held_at (Page c.args.page) c.args.home bytes) refl (omega (arith, c.in_ok-size.ensures.told told, c.at-at.ensures.place, c.if-branch-at.true))

-- the head of one that it has was read
told_by : (g : Over) (c : After-read g) → IsTrue g.D.Disk.tells → c.read.new.into ≡ section c.at-at.result 13 (content Pages (g.D.Disk.reads c.size.new.self)) → (result : Option ℕ) → (get_or c.read.new.into 0 0 ≡ 1 → result ≡ Some (field 8 5 c.read.new.into)) → (get_or c.read.new.into 0 0 ≢ 1 → result ≡ None)
    → result ≡ stamp_in (held_at (Page c.args.page) c.args.home (content Pages (g.D.Disk.reads c.args.disk.now)))
told_by g c told read_is result =
    let image = g.D.Disk.reads c.args.disk.now in
    let bytes = content Pages image in
    let at = home_place (Page c.args.page) c.args.home in
    let whole : at + 4128 ≤ length bytes = omega (arith, c.in_ok-size.ensures.told told, c.at-at.ensures.place, c.if-branch-at.false) in
    let read : c.read.new.into ≡ section at 13 bytes =
    read_is ∙ ap (λ i. section c.at-at.result 13 (content Pages i)) c.size.ensures.same.0 ∙ ap (λ (k : ℕ). section k 13 bytes) c.at-at.ensures.place in
    stamp_is (Page c.args.page) c.args.home bytes whole c.read.new.into read result

pub returns-then-head-ne1-clause-told : goal.returns-then-head-ne1-clause-told
returns-then-head-ne1-clause-told g c told = told_by g (goal.at.returns-then-head-ne1-clause-told g c).After-read told (c.in_ok-read.ensures.told told) None (λ one. absurd (c.if-head-ne1.true one)) (λ shut. refl)

pub returns-clause-told : goal.returns-clause-told
returns-clause-told g c told = told_by g (goal.at.returns-clause-told g c).After-read told (c.in_ok-read.ensures.told told) (Some c.get_u64.result) (λ one. ap Some c.get_u64.ensures.got) (λ shut. absurd (shut c.if-head-ne1.false))
