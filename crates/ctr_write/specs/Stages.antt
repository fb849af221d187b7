-- How far the Write of a row is: what its transaction counts on between two turns.
use Rattle.std.specs.Prelude.{◌≡◌, ◌⊎◌, ℕ, ◌+◌, ℤ, true, false, [], Some}
use Rattle.ctr_page.specs.declared.checks.Chain.{Chain}
use Rattle.ctr_page.specs.declared.checks.Chain.TheVariants.{Rows, Versions}
use Rattle.ctr_page.specs.declared.rows.Place.{Place}
use Rattle.ctr_page.specs.Places.{bucket_of, has_previous}
use Rattle.ctr_meta.specs.Kept.{TablesKept}
use Rattle.ctr_redo.specs.States.{State}
use Rattle.ctr_extend.specs.page_turns_Rooms.{AddsItems}
use Rattle.ctr_area.specs.Areas.{RowVersion, Slot}
use Rattle.ctr_extend.specs.record_effects_States.{area_in}
use Rattle.ctr_extend.specs.actions_Sites.{site_of}
use Rattle.ctr_extend.specs.actions_Facts.{HasSlot, HasCopy, HasNoPageBut, HoldsFact}
use Rattle.ctr_extend.specs.passed_Laid.{width_in}
use Rattle.ctr_extend.specs.store_Store.{View}
use Rattle.ctr_extend.specs.walk_Tables.{IsChain}
use Rattle.ctr_extend.specs.declared.ways.Extended.TheVariants.{On as OnItsWay, Linked, Grown as IsGrown}
use Rattle.ctr_extend.specs.Ways.{IsOnWay, IsCountedWay, items_wanted}
use Rattle.ctr_extend.specs.Steps.{LeavesRoom, MovesBy}
use Rattle.ctr_write.specs.declared.stages.Stage.{Stage}
use Rattle.ctr_write.specs.declared.stages.Stage.TheVariants.{Looking, Extending, Kept}
use Rattle.ctr_write.specs.declared.stages.Written.{Written}
use Rattle.ctr_write.specs.declared.stages.Written.TheVariants.{On, Done, Grown, Full}

-- A page is wanted for the bucket of the key, or for the versions of the table.
abbrev pub IsChainFor : ℕ → ℤ → Chain → Type 0
IsChainFor e key chain = (chain ≡ Rows e (bucket_of key)) ⊎ (chain ≡ Versions e)

-- which version of a slot of rows so wide is kept off it first
abbrev pub IsToKeep : ℕ → Slot → RowVersion → Type 0
IsToKeep w slot v = (has_previous w ≡ true → slot.previous ≡ Some v)
    × (has_previous w ≡ false → slot.head ≡ v)

-- The slot of the key is as it was when a version of it was kept, and that is the one which has to
-- be.
pub record HasKept (x e : ℕ) (key : ℤ) (q : Place) (s : State) : Type 0 where
  pub at : Place
  pub slot : Slot
  pub version : RowVersion
  pub of_key : slot.key ≡ key
  pub has : HoldsFact x (HasSlot e at slot) (site_of s)
  pub copy : HoldsFact x (HasCopy e at version q) (site_of s)
  pub is : IsToKeep (width_in (area_in s) e) slot version

-- The transaction has no page to link.
abbrev pub HasNoPage : ℕ → State → Type 0
HasNoPage x s = HoldsFact x (HasNoPageBut []) (site_of s)

-- So far is the Write, as its transaction counts on it.
abbrev pub IsAtStage : ℕ → ℕ → ℤ → Stage → State → Type 0
IsAtStage x e key Looking s = HasNoPage x s
IsAtStage x e key (Extending chain way) s = IsChainFor e key chain × IsOnWay x chain way s
IsAtStage x e key (Kept q) s = HasNoPage x s × HasKept x e key q s

-- ---- whatever the disk tells

-- a page on its way is a counted one behind the catalog, and goes to a chain of a table
abbrev pub IsCountedStage : Stage → ℕ → Type 0
IsCountedStage Looking counted = Unit {0}
IsCountedStage (Extending chain way) counted = IsChain chain × IsCountedWay way counted
IsCountedStage (Kept q) counted = Unit {0}

-- how many items of the secondary log the next turn may add
abbrev pub stage_items : Stage → ℕ
stage_items Looking = 1
stage_items (Extending chain way) = items_wanted way
stage_items (Kept q) = 1

-- what is left is so
abbrev pub IsCountedWrite : Written → ℕ → Type 0
IsCountedWrite (On stage) counted = IsCountedStage stage counted
IsCountedWrite Done counted = Unit {0}
IsCountedWrite Grown counted = Unit {0}
IsCountedWrite Full counted = Unit {0}

-- The room of the tables behind a turn that may add so many items: an item is added with a page
-- that is taken, and goes as it is linked. A version is kept, and more pages are counted, only by a
-- turn that may add one. No number is drawn.
abbrev pub LeavesItem : ℕ → Written → TablesKept → TablesKept → Type 0
LeavesItem n (On Looking) k l = LeavesRoom n Linked k l
LeavesItem n (On (Extending chain way)) k l = LeavesRoom n (OnItsWay way) k l
LeavesItem n (On (Kept q)) k l = (n ≡ 1) × AddsItems 0 k l
LeavesItem n Done k l = AddsItems 0 k l
LeavesItem n Grown k l = LeavesRoom n IsGrown k l
LeavesItem n Full k l = l ≡ k

-- How a turn moves a store on: the log's next number is one more behind a turn that logged its
-- record, and else what it was; and behind one that grew more pages are counted.
abbrev pub MovesWrite : {D : Type 0} → Written → View D → View D → Type 0
MovesWrite (On stage) a b = b.next ≡ a.next + 1
MovesWrite Done a b = b.next ≡ a.next + 1
MovesWrite Grown a b = MovesBy IsGrown a b
MovesWrite Full a b = b.next ≡ a.next
