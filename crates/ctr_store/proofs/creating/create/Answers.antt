use Rattle.std.proofs.Common.{◌⊎◌, ◌∙◌, inl, inr, Ok, ap, ⊎_elim}
use Rattle.ctr_disk.proofs.Moments.{weaker}
use Rattle.ctr_base.proofs.redo_NewLaws.{folds_new}
use Rattle.ctr_store.specs.Creating.{IsNoneOrNew, IsNoneOrEmptyStore}
use Rattle.ctr_store.proofs.CreateLaws.{empty_of}
use Rattle.ctr_store.proofs.creating.create.Goals as goal

pub returns-in-Ok-Made-clause-any_moment : goal.returns-in-Ok-Made-clause-any_moment
returns-in-Ok-Made-clause-any_moment g c told none =
    let d = g.D.Disk in
    let old = c.args.disk in
    let new = c.make.new.disk in
    weaker d old new (λ i. d.images old i ⊎ IsNoneOrNew i) (λ i. d.images old i ⊎ IsNoneOrEmptyStore i) (c.make.ensures.any_moment told none) (λ i is. ⊎_elim (λ was. inl was) (λ here. inr (empty_of i here)) is)

pub returns-in-Err-clause-any_moment : goal.returns-in-Err-clause-any_moment
returns-in-Err-clause-any_moment g c told none =
    let d = g.D.Disk in
    let old = c.args.disk in
    let new = c.make.new.disk in
    weaker d old new (λ i. d.images old i ⊎ IsNoneOrNew i) (λ i. d.images old i ⊎ IsNoneOrEmptyStore i) (c.make.ensures.any_moment told none) (λ i is. ⊎_elim (λ was. inl was) (λ here. inr (empty_of i here)) is)

pub returns-in-Ok-Made-clause-made : goal.returns-in-Ok-Made-clause-made
returns-in-Ok-Made-clause-made g c told =
    let new = c.make.ensures.made told (c.in-Ok-Made.is ∙ ap Ok c.in-Ok-Made.field-0-is) in
    (new, folds_new (g.D.Disk.reads c.make.new.disk) new)

pub returns-in-Ok-Made-clause-moves : goal.returns-in-Ok-Made-clause-moves
returns-in-Ok-Made-clause-moves g c = (c.make.ensures.counts.later, c.make.ensures.counts.stray)

pub returns-in-Ok-Exists-clause-moves : goal.returns-in-Ok-Exists-clause-moves
returns-in-Ok-Exists-clause-moves g c = (c.make.ensures.counts.later, c.make.ensures.counts.stray)

pub returns-in-Err-clause-moves : goal.returns-in-Err-clause-moves
returns-in-Err-clause-moves g c = (c.make.ensures.counts.later, c.make.ensures.counts.stray)
