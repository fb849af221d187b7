use Rattle.std.proofs.Common.{◌<◌, sym, subst}
use Rattle.ctr_area.specs.Sound.{IsSoundArea}
use Rattle.ctr_area.specs.meta_Effects.{opened_by}
use Rattle.ctr_record_laws.proofs.Begin.{begin_sound}
use Rattle.ctr_record_laws.proofs.sound.a_begin_stays_sound.Goals as goal

pub returns : goal.returns
returns c = λ counted tables area x sound owed. subst (λ y. IsSoundArea counted (opened_by y tables) area) (sym owed.is_next)
    (begin_sound counted tables area sound (subst (λ y. 0 < y) owed.is_next owed.some))
