-- A page on its way to the front of a chain of a table: what a transaction counts on of it between
-- two turns.
use Rattle.std.specs.Prelude.{ℕ, ◌<◌, ◌≤◌, List, [], ◌∷◌}
use Rattle.std.specs.List.{AllByRecursion}
use Rattle.ctr_page.specs.declared.checks.Chain.{Chain}
use Rattle.ctr_page.specs.declared.checks.Chain.TheVariants.{Rows, Versions}
use Rattle.ctr_page.specs.declared.header.Header.{Header}
use Rattle.ctr_base.specs.redo_States.{State}
use Rattle.ctr_page_turns.specs.record_laws_Owed.{rows_header, versions_header}
use Rattle.ctr_page_turns.specs.actions_Sites.{site_of}
use Rattle.ctr_page_turns.specs.actions_Actions.{Action, Links, LinksOlder}
use Rattle.ctr_stops.specs.actions_Facts.{Fact, HasPage, HasNoPageBut, HasBlank, HoldsFact}
use Rattle.ctr_page_turns.specs.passed_Logged.{IsBlankPage}
use Rattle.ctr_extend.specs.declared.ways.OnWay.{OnWay}
use Rattle.ctr_extend.specs.declared.ways.OnWay.TheVariants.{Wanted, Taken, Made}

-- the header of a page of a chain that leads on to this page, or to none by 0
abbrev pub chain_header : Chain → ℕ → Header
chain_header (Rows e b) next = rows_header e b next
chain_header (Versions e) next = versions_header e next

-- the action by which a page is put in front of a chain
abbrev pub link_action : Chain → ℕ → Action
link_action (Rows e b) p = Links p e b
link_action (Versions e) p = LinksOlder p e

-- What a transaction counts on: it has no page to link but this one, which is its own; or is its
-- own, and empty with the header of its chain.
abbrev pub way_facts : Chain → OnWay → List Fact
way_facts chain Wanted = HasNoPageBut [] ∷ []
way_facts chain (Taken p) = HasPage p ∷ HasNoPageBut (p ∷ []) ∷ []
way_facts chain (Made p next) = HasBlank p (chain_header chain next) ∷ HasNoPageBut (p ∷ []) ∷ []

-- a page that was made empty has its header, and zeros behind it
abbrev pub IsBlankWay : Chain → OnWay → State → Type 0
IsBlankWay chain Wanted s = Unit {0}
IsBlankWay chain (Taken p) s = Unit {0}
IsBlankWay chain (Made p next) s = IsBlankPage p (chain_header chain next) s

-- So far is a page, as a transaction counts on it.
pub record IsOnWay (x : ℕ) (chain : Chain) (way : OnWay) (s : State) : Type 0 where
  pub holds : AllByRecursion (λ (f : Fact). HoldsFact x f (site_of s)) (way_facts chain way)
  pub blank : IsBlankWay chain way s

-- ---- whatever the disk tells

-- a page on its way is a counted one behind the catalog
abbrev pub IsCountedWay : OnWay → ℕ → Type 0
IsCountedWay Wanted counted = Unit {0}
IsCountedWay (Taken p) counted = (3 ≤ p) × (p < counted)
IsCountedWay (Made p next) counted = (3 ≤ p) × (p < counted)

-- how many items of the secondary log the next turn may add
abbrev pub items_wanted : OnWay → ℕ
items_wanted Wanted = 1
items_wanted (Taken p) = 0
items_wanted (Made p next) = 0
