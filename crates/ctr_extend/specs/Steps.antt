-- One turn for a page that a transaction wants for a chain.
use Rattle.std.specs.Prelude.{◌≡◌, ◌≢◌, ℕ, ◌+◌, ◌<◌, ◌≤◌, true, length}
use Rattle.ctr_base.specs.declared.growing.TheConstants.{MOST_PAGES}
use Rattle.ctr_meta.specs.Kept.{TablesKept}
use Rattle.ctr_meta.specs.Tables.{is_in}
use Rattle.ctr_page.specs.declared.checks.Chain.{Chain}
use Rattle.ctr_page.specs.Damage.{chain_entry}
use Rattle.ctr_base.specs.redo_States.{State, counting, grown}
use Rattle.ctr_page_turns.specs.record_effects_States.{area_in}
use Rattle.ctr_page_turns.specs.record_effects_Standing.{IsDatabaseState}
use Rattle.ctr_stops.specs.store_Store.{View}
use Rattle.ctr_undamaged.specs.alloc_Free.{AreTakenBelow}
use Rattle.ctr_page_turns.specs.walk_Tables.{first_of_chain}
use Rattle.ctr_page_turns.specs.actions_Actions.{Allocates, Formats}
use Rattle.ctr_page_turns.specs.Acts.{ActsBy}
use Rattle.ctr_page_turns.specs.Rooms.{AddsItems}
use Rattle.ctr_extend.specs.declared.ways.OnWay.{OnWay}
use Rattle.ctr_extend.specs.declared.ways.OnWay.TheVariants.{Wanted, Taken, Made}
use Rattle.ctr_extend.specs.declared.ways.Extended.{Extended}
use Rattle.ctr_extend.specs.declared.ways.Extended.TheVariants.{On, Linked, Grown, Full}
use Rattle.ctr_extend.specs.Ways.{chain_header, link_action, IsOnWay, IsCountedWay}

-- The pages may be a database's, the transaction is open, the table is there, and so far the page
-- is.
pub record MayExtend (x : ℕ) (chain : Chain) (way : OnWay) (s : State) : Type 0 where
  pub sound : IsDatabaseState s
  pub is_open : is_in x s.tables.opens ≡ true
  pub there : ((area_in s).title (chain_entry chain)).state ≢ 0
  pub on_way : IsOnWay x chain way s

-- The lowest free page is the transaction's.
pub record Takes (x : ℕ) (chain : Chain) (p : ℕ) (s t : State) : Type 0 where
  pub acts : ActsBy x (Allocates p) s t
  pub lowest : AreTakenBelow p (area_in s).taken
  pub on_way : IsOnWay x chain (Taken p) t

-- The page is empty, and leads on to the first one of the chain.
pub record MakesEmpty (x : ℕ) (chain : Chain) (p next : ℕ) (s t : State) : Type 0 where
  pub acts : ActsBy x (Formats p (chain_header chain next)) s t
  pub first : next ≡ first_of_chain (area_in s) chain
  pub on_way : IsOnWay x chain (Made p next) t

-- The page is the first one of the chain, and leads on to the one that was.
pub record PutsInFront (x : ℕ) (chain : Chain) (p next : ℕ) (s t : State) : Type 0 where
  pub acts : ActsBy x (link_action chain p) s t
  pub first : next ≡ first_of_chain (area_in s) chain
  pub on_way : IsOnWay x chain Wanted t

-- No counted page is free, so more are counted. Nothing else in the pages and the tables changes.
pub record CountsOn (x : ℕ) (chain : Chain) (s t : State) : Type 0 where
  pub none : AreTakenBelow s.counted (area_in s).taken
  pub few : s.counted < MOST_PAGES
  pub grows : t ≡ counting (grown s.counted) s
  pub on_way : IsOnWay x chain Wanted t

-- No page is free, and no more can be counted. Nothing has changed.
pub record IsFull (s t : State) : Type 0 where
  pub none : AreTakenBelow MOST_PAGES (area_in s).taken
  pub most : MOST_PAGES ≤ s.counted
  pub same : t ≡ s

-- What a turn does: a page that is wanted is taken, or more are counted, or there is none; one
-- that is taken is made empty; one that is empty is linked, or made empty again where the chain
-- begins with another page by now.
abbrev pub ExtendsBy : ℕ → Chain → OnWay → State → State → Extended → Type 0
ExtendsBy x chain Wanted s t (On (Taken p)) = Takes x chain p s t
ExtendsBy x chain Wanted s t Grown = CountsOn x chain s t
ExtendsBy x chain Wanted s t Full = IsFull s t
ExtendsBy x chain (Taken p) s t (On (Made q next)) = (q ≡ p) × MakesEmpty x chain p next s t
ExtendsBy x chain (Made p was) s t (On (Made q next)) =
    (q ≡ p) × (was ≢ next) × MakesEmpty x chain p next s t
ExtendsBy x chain (Made p next) s t Linked = PutsInFront x chain p next s t
ExtendsBy x chain way s t e = ⊥

-- ---- whatever the disk tells

-- the page is a counted one behind the catalog
abbrev pub IsCountedStep : Extended → ℕ → Type 0
IsCountedStep (On way) counted = IsCountedWay way counted
IsCountedStep Linked counted = Unit {0}
IsCountedStep Grown counted = Unit {0}
IsCountedStep Full counted = Unit {0}

-- The room of the tables behind a turn that may add so many items: an item is added with a page
-- that is taken, and goes as it is linked. More pages are counted only by a turn that may add one.
-- No number is drawn.
abbrev pub LeavesRoom : ℕ → Extended → TablesKept → TablesKept → Type 0
LeavesRoom n (On Wanted) k l = ⊥
LeavesRoom n (On (Taken p)) k l = AddsItems n k l
LeavesRoom n (On (Made p next)) k l = AddsItems 0 k l
LeavesRoom n Linked k l = AddsItems 0 k l × (length l.tables.items + 1 ≡ length k.tables.items)
LeavesRoom n Grown k l = (n ≡ 1) × (l ≡ k)
LeavesRoom n Full k l = l ≡ k

-- How a turn moves a store on: the log's next number is one more behind a turn that logged its
-- record, and else what it was; and behind one that grew more pages are counted.
abbrev pub MovesBy : {D : Type 0} → Extended → View D → View D → Type 0
MovesBy (On way) a b = b.next ≡ a.next + 1
MovesBy Linked a b = b.next ≡ a.next + 1
MovesBy Grown a b = (b.next ≡ a.next) × (a.now.counted < b.now.counted)
MovesBy Full a b = b.next ≡ a.next
