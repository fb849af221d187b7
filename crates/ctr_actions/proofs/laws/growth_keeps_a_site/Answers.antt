use Rattle.std.proofs.Common.{ℕ}
use Rattle.ctr_actions.specs.Sites.{Site}
use Rattle.ctr_actions.specs.Facts.{Fact, IsOpen, HasPage, HasNoPageBut, HasBlank, HasSlot, HasCopy, HasTable, HoldsFact}
use Rattle.ctr_actions.proofs.laws.growth_keeps_a_site.Goals as goal

pub returns-clause-sound : goal.returns-clause-sound
returns-clause-sound c = λ s more le sound. c.growth_stays_sound.ensures s.counted more s.tables s.area le sound

pub returns-clause-held : goal.returns-clause-held
returns-clause-held c = each
  where
    each : (x : ℕ) (fact : Fact) (s : Site) (more : ℕ) → HoldsFact x fact s → HoldsFact x fact (record s { counted = more })
    each x IsOpen s more holds = holds
    each x (HasPage p) s more holds = holds
    each x (HasNoPageBut ps) s more holds = holds
    each x (HasBlank p h) s more holds = holds
    each x (HasSlot e at of) s more holds = holds
    each x (HasCopy e at v p) s more holds = holds
    each x (HasTable e title) s more holds = holds
