-- Where a position stands, and which actions take its page from under it.
use Rattle.std.specs.Prelude.{◌≡◌, ℕ, ◌<◌, ◌==◌, Bool, false}
use Rattle.ctr_rec.specs.declared.record.SlogItem.{SlogItem}
use Rattle.ctr_rec.specs.declared.record.SlogItem.TheVariants.{AllocOf, FreeOf, CreateOf, DropOf}
use Rattle.ctr_page.specs.declared.checks.Chain.{Chain}
use Rattle.ctr_page.specs.declared.checks.Chain.TheVariants.{Rows, Versions}
use Rattle.ctr_page.specs.declared.header.Header.{Header}
use Rattle.ctr_page.specs.declared.rows.Place.{Place}
use Rattle.ctr_area.specs.Areas.{Area}
use Rattle.ctr_area.specs.Chains.{pages_bound, pages_from}
use Rattle.ctr_area.specs.Sound.{IsAmong, IsOfRows, IsOfVersions}
use Rattle.ctr_actions.specs.Sites.{Site}
use Rattle.ctr_actions.specs.Actions.{Action, Unlinks, UnlinksOlder}
use Rattle.ctr_walk.specs.Tables.{IsChain, first_of_chain}
use Rattle.ctr_cursor.specs.declared.position.Position.{Position}
use Rattle.ctr_cursor.specs.declared.position.Position.TheVariants.{Entry, Slot, Kept, Aborted}

-- A page stands in a chain.
abbrev pub IsInChain : Chain → ℕ → Area → Type 0
IsInChain chain p area = IsAmong p (pages_from pages_bound area.header (first_of_chain area chain))

-- a header is that of a page of a chain
abbrev pub IsOfChain : Chain → Header → Type 0
IsOfChain (Rows e bucket) h = IsOfRows e bucket h
IsOfChain (Versions e) h = IsOfVersions e h

-- an item of the secondary log is of the page
abbrev pub is_item_of : ℕ → SlogItem → Bool
is_item_of p (AllocOf x q) = q == p
is_item_of p (FreeOf q) = q == p
is_item_of p (CreateOf x e) = false
is_item_of p (DropOf x e) = false

-- a place of a chain: its page stands there, and has room for it
abbrev pub IsPlaceIn : Chain → Place → Area → Type 0
IsPlaceIn chain at area = IsInChain chain at.page area × (at.slot < area.room at.page)

-- A position is one of a site: at one of the 32 entries; at a place of a chain that it names; at an
-- aborted transaction, whether there is still one of that number or not.
abbrev pub IsPosition : Position → Site → Type 0
IsPosition (Entry e) s = e < 32
IsPosition (Slot e bucket at) s = IsChain (Rows e bucket) × IsPlaceIn (Rows e bucket) at s.area
IsPosition (Kept e at) s = IsChain (Versions e) × IsPlaceIn (Versions e) at s.area
IsPosition (Aborted n) s = Unit {0}

-- What a position names is there: one of the 32 entries, one of the 8 buckets, a counted page.
abbrev pub IsCountedPosition : ℕ → Position → Type 0
IsCountedPosition counted (Entry e) = e < 32
IsCountedPosition counted (Slot e bucket at) = IsChain (Rows e bucket) × (at.page < counted)
IsCountedPosition counted (Kept e at) = IsChain (Versions e) × (at.page < counted)
IsCountedPosition counted (Aborted n) = Unit {0}

-- an action takes a page from a chain
abbrev pub TakesFrom : Action → Chain → ℕ → Type 0
TakesFrom (Unlinks q e bucket) chain p = (chain ≡ Rows e bucket) × (q ≡ p)
TakesFrom (UnlinksOlder q e) chain p = (chain ≡ Versions e) × (q ≡ p)
TakesFrom a chain p = ⊥

-- an action takes the page of a position from its chain
abbrev pub TakesPage : Action → Position → Type 0
TakesPage a (Entry e) = ⊥
TakesPage a (Slot e bucket at) = TakesFrom a (Rows e bucket) at.page
TakesPage a (Kept e at) = TakesFrom a (Versions e) at.page
TakesPage a (Aborted n) = ⊥
