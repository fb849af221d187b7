-- What a step looks at in a table that is dead: the heads on a page, and the pages that are left.
use Rattle.std.specs.Prelude.{◌≡◌, ◌≢◌, ◌⊎◌, ℕ, ◌<◌, Bool, true, false, ◌||◌, not, Option, Some, None}
use Rattle.ctr_meta.specs.Tables.{Tables}
use Rattle.ctr_page.specs.declared.rows.Place.{Place}
use Rattle.ctr_area.specs.Areas.{Slot, Area}
use Rattle.ctr_area.specs.Images.{is_committed_in}
use Rattle.ctr_pvs.specs.redo_States.{State}
use Rattle.ctr_pvs.specs.record_effects_States.{area_in}
use Rattle.ctr_record_laws.specs.Owed.{first_page, OwedByFreeing}
use Rattle.ctr_emptying.specs.declared.left.Left.{Left}
use Rattle.ctr_emptying.specs.declared.left.Left.TheVariants.{Rows, Versions, NoPage}
use Rattle.ctr_emptying.specs.Emptying.{HasNoRows, is_creator_open}

-- ---- heads

-- whose the head of a slot is, where it is used
abbrev pub HeadSaid : Slot → Option ℕ → Type 0
HeadSaid slot None = slot.used ≡ false
HeadSaid slot (Some x) = (slot.used ≡ true) × (slot.head.0 ≡ x)

-- a slot is free, or its head is committed
abbrev pub is_settled : Tables → Slot → Bool
is_settled tables slot = not slot.used || is_committed_in tables slot.head.0

-- a place of a page
abbrev pub place_at_slot : ℕ → ℕ → Place
place_at_slot p n = record { page = p; slot = n }

-- all slots of a page are so; or one isn't
abbrev pub SettledSaid : Tables → Area → ℕ → Bool → Type 0
SettledSaid tables area p true =
    (n : ℕ) → n < area.room p → is_settled tables (area.slot (place_at_slot p n)) ≡ true
SettledSaid tables area p false =
    (n : ℕ) × (n < area.room p) × (is_settled tables (area.slot (place_at_slot p n)) ≡ false)

-- The first page of a bucket is this one, and all its slots are so; or the bucket has none, or its
-- first page has a slot that isn't.
abbrev pub FrontSaid : Tables → Area → ℕ → ℕ → Option ℕ → Type 0
FrontSaid tables area e b (Some p) =
    (p ≢ 0) × (first_page area e b ≡ p) × SettledSaid tables area p true
FrontSaid tables area e b None = (first_page area e b ≡ 0)
    ⊎ ((first_page area e b ≢ 0) × SettledSaid tables area (first_page area e b) false)

-- ---- pages that are left

-- a bucket has a page; or none has
abbrev pub RowsSaid : Area → ℕ → Bool → Type 0
RowsSaid area e true = HasNoRows area e → ⊥
RowsSaid area e false = HasNoRows area e

-- A bucket has a page; or none has, and this is the first page of versions; or there is no page.
abbrev pub LeftSaid : Area → ℕ → Left → Type 0
LeftSaid area e Rows = HasNoRows area e → ⊥
LeftSaid area e (Versions p) = HasNoRows area e × (p ≢ 0) × ((area.firsts e).versions ≡ p)
LeftSaid area e NoPage = HasNoRows area e × ((area.firsts e).versions ≡ 0)

-- the page of versions that is left, if any, is one of so many
abbrev pub IsLeftBelow : ℕ → Left → Type 0
IsLeftBelow counted (Versions p) = p < counted
IsLeftBelow counted left = Unit {0}

-- an entry may be freed; or it may not, unless who made it is open
abbrev pub FreeingSaid : State → ℕ → Bool → Type 0
FreeingSaid s e true = (is_creator_open s e ≡ false) × OwedByFreeing (area_in s) e
FreeingSaid s e false = is_creator_open s e ≡ false → OwedByFreeing (area_in s) e → ⊥
