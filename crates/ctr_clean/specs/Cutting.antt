-- What a step of the cleaner did behind a version entry.
use Rattle.std.specs.Prelude.{◌≡◌, ◌≢◌, ℕ, ◌<◌, Bool, true, false}
use Rattle.ctr_page.specs.declared.rows.Place.{Place}
use Rattle.ctr_pvs.specs.redo_States.{State}
use Rattle.ctr_area.specs.Areas.{Slot, Area}
use Rattle.ctr_area.specs.Chains.{older_bound, places_along}
use Rattle.ctr_record_effects.specs.States.{area_in}
use Rattle.ctr_record_laws.specs.Owed.{IsFirstPassing, PreviousStays, OwedByCut}
use Rattle.ctr_actions.specs.Actions.{Cuts}
use Rattle.ctr_clean.specs.Choosing.{passes_below}
use Rattle.ctr_clean.specs.Older.{reach, EndsInReach}
use Rattle.ctr_clean.specs.Steps.{Locks, IsUnlocked, CleansOne}
use Rattle.ctr_clean.specs.declared.cutting.CutFound.{CutFound}
use Rattle.ctr_clean.specs.declared.cutting.CutFound.TheVariants.{Behind, Nowhere, Further}
use Rattle.ctr_clean.specs.declared.steps.Step.{Step}
use Rattle.ctr_clean.specs.declared.steps.Step.TheVariants.{Cleaned, Nothing, Beyond}

-- of the version entries of a chain that begins at a place this is the first whose version passes
abbrev pub IsFirstFrom : (ℕ → Bool) → Area → Place → Place → Type 0
IsFirstFrom passes area from q =
    IsFirstPassing passes area.older q (places_along older_bound area.older from)

-- a chain that begins at a place goes on beyond reach, and no version within reach passes
abbrev pub PassesNoneInReach : (ℕ → Bool) → Area → Place → Type 0
PassesNoneInReach passes area from =
    ((q : Place) → IsFirstPassing passes area.older q (places_along reach area.older from) → ⊥)
    × (EndsInReach area from → ⊥)

-- Where a chain is cut: behind its first entry whose version passes, where another one is behind
-- that; nowhere, where no such entry has another behind it; or farther than is looked.
abbrev pub IsCutAlong : (ℕ → Bool) → Area → Place → CutFound → Type 0
IsCutAlong passes area from (Behind q) =
    IsFirstFrom passes area from q × ((area.older q).pointer.page ≢ 0)
IsCutAlong passes area from Nowhere = (q : Place) → IsFirstFrom passes area from q
    → (area.older q).pointer.page ≢ 0 → ⊥
IsCutAlong passes area from Further = PassesNoneInReach passes area from

-- a version entry behind which a chain is cut is on one of so many pages
abbrev pub IsCutBelow : ℕ → CutFound → Type 0
IsCutBelow counted (Behind q) = q.page < counted
IsCutBelow counted found = Unit {0}

-- a version of the slot's own passes, the head or the previous one; or neither does
abbrev pub OwnPasses : (ℕ → Bool) → Slot → Bool → Type 0
OwnPasses passes slot true =
    passes slot.head.0 ≡ false → PreviousStays passes slot.previous → ⊥
OwnPasses passes slot false =
    (passes slot.head.0 ≡ false) × PreviousStays passes slot.previous

-- what is owed for the chain of a slot to be cut behind a version entry
abbrev pub OwesCut : ℕ → ℕ → Place → State → Place → Type 0
OwesCut low e at s q = OwedByCut (passes_below low s.tables) (area_in s) e at q

-- the chain of a slot may not be cut behind any, unless its row is locked
abbrev pub HasNoCut : ℕ → Locks → ℕ → Place → State → Type 0
HasNoCut low locks e at s = IsUnlocked locks e ((area_in s).slot at).key → (q : Place)
    → OwesCut low e at s q → ⊥

-- A slot is used, its row isn't locked, and neither of its own versions passes; or its chain may
-- not be cut behind any version entry.
abbrev pub GoesBehind : ℕ → Locks → ℕ → Place → State → Bool → Type 0
GoesBehind low locks e at s true = (((area_in s).slot at).used ≡ true)
    × IsUnlocked locks e ((area_in s).slot at).key
    × (passes_below low s.tables ((area_in s).slot at).head.0 ≡ false)
    × PreviousStays (passes_below low s.tables) ((area_in s).slot at).previous
GoesBehind low locks e at s false = HasNoCut low locks e at s

-- Whether the chain of a slot may be cut behind a version entry isn't seen: the slot is used, its
-- row isn't locked, and no version passes, the slot's own or one within reach, beyond which the
-- chain goes on.
abbrev pub IsCutUnseen : ℕ → Locks → ℕ → Place → State → Type 0
IsCutUnseen low locks e at s = GoesBehind low locks e at s true
    × PassesNoneInReach (passes_below low s.tables) (area_in s) ((area_in s).slot at).pointer

-- The chain of a slot may be cut behind this one, and its row isn't locked; or behind none; or that
-- isn't seen.
abbrev pub CutsBehind : ℕ → Locks → ℕ → Place → State → CutFound → Type 0
CutsBehind low locks e at s (Behind q) =
    IsUnlocked locks e ((area_in s).slot at).key × OwesCut low e at s q
CutsBehind low locks e at s Nowhere = HasNoCut low locks e at s
CutsBehind low locks e at s Further = IsCutUnseen low locks e at s

-- What a step at a slot of a live table did.
abbrev pub CutsAt : ℕ → Locks → ℕ → Place → State → State → Step → Type 0
CutsAt low locks e at s t Cleaned = (one : CleansOne low locks s t)
    × ((q : Place) × (one.action ≡ Cuts (passes_below low s.tables) e at q))
CutsAt low locks e at s t Nothing = (t ≡ s) × HasNoCut low locks e at s
CutsAt low locks e at s t Beyond = (t ≡ s) × IsCutUnseen low locks e at s
