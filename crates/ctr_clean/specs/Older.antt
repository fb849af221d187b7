-- What a step of the cleaner did at a version entry.
use Rattle.std.specs.Prelude.{◌≡◌, ◌⊎◌, ℕ, ℤ, true, false}
use Rattle.ctr_page.specs.declared.rows.Place.{Place}
use Rattle.ctr_pvs.specs.redo_States.{State}
use Rattle.ctr_area.specs.Areas.{Older, Area}
use Rattle.ctr_area.specs.Chains.{older_bound, places_along, Leads}
use Rattle.ctr_area.specs.Sound.{IsAmong, IsUsedSlot, along}
use Rattle.ctr_record_effects.specs.States.{area_in}
use Rattle.ctr_record_laws.specs.Loose.{IsLoose}
use Rattle.ctr_actions.specs.Actions.{FreesOlder}
use Rattle.ctr_clean.specs.Choosing.{waits_above}
use Rattle.ctr_clean.specs.Steps.{Locks, IsUnlocked, CleansOne}
use Rattle.ctr_clean.specs.declared.older.OlderFacts.{OlderFacts}
use Rattle.ctr_clean.specs.declared.older.OpenKey.{OpenKey}
use Rattle.ctr_clean.specs.declared.older.OpenKey.TheVariants.{Open, Closed, Waits}
use Rattle.ctr_clean.specs.declared.older.ChainFound.{ChainFound}
use Rattle.ctr_clean.specs.declared.older.ChainFound.TheVariants as found
use Rattle.ctr_clean.specs.declared.older.Looseness.{Looseness}
use Rattle.ctr_clean.specs.declared.older.Looseness.TheVariants.{Loose, Kept, Unknown}
use Rattle.ctr_clean.specs.declared.steps.Step.{Step}
use Rattle.ctr_clean.specs.declared.steps.Step.TheVariants as step

-- What the cleaner knows of a version entry: whether it is used, and if so its key; whose its
-- version is, and where it leads.
pub record IsSaid (older : Older) (f : OlderFacts) : Type 0 where
  pub used : older.used ≡ f.used
  pub key : f.used ≡ true → older.key ≡ f.key
  pub xid : older.version.0 ≡ f.xid
  pub next : older.pointer ≡ f.next

-- The key of a version entry that is in use, of a row that isn't locked, and of no commit that
-- somebody may not see yet; or it isn't in use, unless its row is locked; or it is of such a
-- commit.
abbrev pub IsOpenKey : Locks → ℕ → ℕ → State → Place → OpenKey → Type 0
IsOpenKey locks low e s q (Open key) = (((area_in s).older q).used ≡ true)
    × (((area_in s).older q).key ≡ key) × IsUnlocked locks e ((area_in s).older q).key
    × (waits_above low s.tables ((area_in s).older q).version.0 ≡ false)
IsOpenKey locks low e s q Closed = IsUnlocked locks e ((area_in s).older q).key
    → ((area_in s).older q).used ≡ true → ⊥
IsOpenKey locks low e s q Waits = (((area_in s).older q).used ≡ true)
    × IsUnlocked locks e ((area_in s).older q).key
    × (waits_above low s.tables ((area_in s).older q).version.0 ≡ true)

-- how many version entries of a row's chain the cleaner looks at; what is behind these waits until
-- the chain is shorter
unfoldable pub reach : ℕ
reach = 256

-- the chain that begins at a place ends within reach
abbrev pub EndsInReach : Area → Place → Type 0
EndsInReach area from = Leads reach area.older (λ at it. Unit {0}) from

-- A chain that begins at a place has a version entry; or it hasn't; or that isn't seen: it hasn't
-- within reach, and goes on beyond it.
abbrev pub HasAlong : Area → Place → Place → ChainFound → Type 0
HasAlong area from q found.Found = IsAmong q (places_along older_bound area.older from)
HasAlong area from q found.Missing = IsAmong q (places_along older_bound area.older from) → ⊥
HasAlong area from q found.Beyond = (IsAmong q (places_along reach area.older from) → ⊥)
    × (EndsInReach area from → ⊥)

-- The chain of a row of the key has a version entry; or no row of the key has it in its chain; or
-- it isn't seen along that of one.
abbrev pub IsHadBy : ℕ → ℤ → Place → State → ChainFound → Type 0
IsHadBy e key q s found.Missing = (at : Place) → IsUsedSlot (area_in s) e at
    → ((area_in s).slot at).key ≡ key → IsAmong q (along (area_in s) at) → ⊥
IsHadBy e key q s it = (at : Place) × IsUsedSlot (area_in s) e at
    × (((area_in s).slot at).key ≡ key) × HasAlong (area_in s) ((area_in s).slot at).pointer q it

-- the version entry at a place of a table may be freed
abbrev pub IsLooseIn : ℕ → Place → State → Type 0
IsLooseIn e q s = IsLoose (area_in s) e q ((area_in s).older q)

-- the version entry at a place of a table may not be freed, unless its row is locked
abbrev pub HasNoLoose : Locks → ℕ → Place → State → Type 0
HasNoLoose locks e q s = IsUnlocked locks e ((area_in s).older q).key → IsLooseIn e q s → ⊥

-- Whether the version entry at a place may be freed isn't seen: it is in use, and its row isn't
-- locked; but its version is of a commit that somebody may not see yet, or it isn't in the chain of
-- a row of its key within reach, and that goes on beyond it.
abbrev pub IsLooseUnseen : ℕ → Locks → ℕ → Place → State → Type 0
IsLooseUnseen low locks e q s = (((area_in s).older q).used ≡ true)
    × IsUnlocked locks e ((area_in s).older q).key
    × ((waits_above low s.tables ((area_in s).older q).version.0 ≡ true)
    ⊎ IsHadBy e ((area_in s).older q).key q s found.Beyond)

-- what is known of a version entry by what was found along its row's chain
abbrev pub looseness_by : ChainFound → Looseness
looseness_by found.Found = Kept
looseness_by found.Missing = Loose
looseness_by found.Beyond = Unknown

-- The version entry at a place may be freed, and its row isn't locked; or it may not; or that isn't
-- seen.
abbrev pub LooseAt : ℕ → Locks → ℕ → Place → State → Looseness → Type 0
LooseAt low locks e q s Loose = IsUnlocked locks e ((area_in s).older q).key × IsLooseIn e q s
LooseAt low locks e q s Kept = HasNoLoose locks e q s
LooseAt low locks e q s Unknown = IsLooseUnseen low locks e q s

-- What a step at a version entry of a live table did.
abbrev pub FreesAt : ℕ → Locks → ℕ → Place → State → State → Step → Type 0
FreesAt low locks e q s t step.Cleaned =
    (one : CleansOne low locks s t) × (one.action ≡ FreesOlder e q)
FreesAt low locks e q s t step.Nothing = (t ≡ s) × HasNoLoose locks e q s
FreesAt low locks e q s t step.Beyond = (t ≡ s) × IsLooseUnseen low locks e q s
