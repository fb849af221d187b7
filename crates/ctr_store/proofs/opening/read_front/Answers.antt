use Rattle.std.proofs.Common.{◌∙◌, sym, subst}
use Rattle.std.proofs.lemmas.Result.{err_from_is_err_and}
use Rattle.ctr_disk.specs.Image.{Image}
use Rattle.ctr_base.specs.ctr_home.declared.root.Root.{Root}
use Rattle.ctr_base.specs.ctr_home.declared.block.Block.TheVariants.{Root as RootBlock}
use Rattle.ctr_base.specs.ctr_home.Blocks.{value_of}
use Rattle.ctr_base.specs.ctr_home.Reading.{IsFaultOr}
use Rattle.ctr_base.specs.redo_Images.{IsSound}
use Rattle.ctr_base.specs.Opening.{FindsRoot, IsRootDamage}
use Rattle.ctr_base.proofs.RootLaws.{one_root}
use Rattle.ctr_store.specs.Opening.{RefusesLog}
use Rattle.ctr_store.proofs.OpenLaws.{read_refused, root_undamaged, read_undamaged}
use Rattle.ctr_store.proofs.opening.read_front.Goals as goal

pub returns-in_err-found-clause-refused : goal.returns-in_err-found-clause-refused
returns-in_err-found-clause-refused g c told =
    let p = err_from_is_err_and c.from_residual-in_err-found.result c.from_residual-in_err-found.ensures.1 in
    let first = g.O.Origin.first in
    let root = c.in-Some.root in
    let e = c.in_err-found.field-0.0 in
    let here = sym c.requires.named in
    let says = subst (FindsRoot first) c.in-Some.is (subst (λ (i : Image). FindsRoot i c.in_ok-root.field-0) here (c.in_ok-root.ensures.found told)) in
    rw (p.1, p.2) (read_refused first root e says (subst (λ (i : Image). RefusesLog root i e) (c.find_root.ensures.quiet.same ∙ here) (c.in_err-found.ensures.refused told)))

pub returns-in_err-root-clause-undamaged : goal.returns-in_err-root-clause-undamaged
returns-in_err-root-clause-undamaged g c told sound =
    let p = err_from_is_err_and c.from_residual.result c.from_residual.ensures.1 in
    let first = g.O.Origin.first in
    let e = c.in_err-root.field-0.0 in
    rw (p.1, p.2) (root_undamaged first e sound.0 sound.1 (subst (λ (i : Image). IsFaultOr (IsRootDamage i) e) (sym c.requires.named) (c.in_err-root.ensures.found told)))

pub returns-in_err-found-clause-undamaged : goal.returns-in_err-found-clause-undamaged
returns-in_err-found-clause-undamaged g c told sound =
    let p = err_from_is_err_and c.from_residual-in_err-found.result c.from_residual-in_err-found.ensures.1 in
    let first = g.O.Origin.first in
    let root = c.in-Some.root in
    let e = c.in_err-found.field-0.0 in
    let here = sym c.requires.named in
    let says = (subst (FindsRoot first) c.in-Some.is (subst (λ (i : Image). FindsRoot i c.in_ok-root.field-0) here (c.in_ok-root.ensures.found told))).0 in
    let whole = subst (λ (r : Root). IsSound r first) (one_root (value_of RootBlock first) sound.0 root sound.1.says says) sound.1 in
    let at_read = subst (λ (i : Image). IsSound root i) (sym (c.find_root.ensures.quiet.same ∙ here)) whole in
    rw (p.1, p.2) (read_undamaged e (c.in_err-found.ensures.undamaged told at_read))
