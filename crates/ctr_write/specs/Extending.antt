-- What a turn for a page is to the Write that wants it.
use Rattle.std.specs.Prelude.{◌≡◌, ℕ}
use Rattle.ctr_page.specs.declared.checks.Chain.{Chain}
use Rattle.ctr_redo.specs.States.{State}
use Rattle.ctr_extend.specs.declared.ways.OnWay.{OnWay}
use Rattle.ctr_extend.specs.declared.ways.Extended.{Extended}
use Rattle.ctr_extend.specs.declared.ways.Extended.TheVariants.{On as OnItsWay, Linked, Grown as IsGrown, Full as IsFull}
use Rattle.ctr_extend.specs.Steps.{ExtendsBy}
use Rattle.ctr_write.specs.declared.stages.Stage.TheVariants.{Looking, Extending}
use Rattle.ctr_write.specs.declared.stages.Written.{Written}
use Rattle.ctr_write.specs.declared.stages.Written.TheVariants.{On, Grown, Full}

-- The page is further; it is linked, and the row's slot is looked for again; more pages are
-- counted; or there is none.
abbrev pub written_from : Chain → Extended → Written
written_from chain (OnItsWay way) = On (Extending chain way)
written_from chain Linked = On Looking
written_from chain IsGrown = Grown
written_from chain IsFull = Full

-- A turn of a Write is one for a page of a chain that is so far.
abbrev pub ExtendsFor : ℕ → Chain → OnWay → State → State → Written → Type 0
ExtendsFor x chain way s t w =
    (e : Extended) × (w ≡ written_from chain e) × ExtendsBy x chain way s t e
