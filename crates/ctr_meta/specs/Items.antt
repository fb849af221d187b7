-- Which items of the secondary log a record speaks of.
use Rattle.std.specs.Prelude.{ℕ, Bool, true, false, ◌&&◌, List, [], ◌∷◌, nat_eq, if◌then◌else◌}
use Rattle.ctr_rec.specs.declared.record.SlogItem.{SlogItem}
use Rattle.ctr_rec.specs.declared.record.SlogItem.TheVariants.{AllocOf, FreeOf, CreateOf, DropOf}
use Rattle.ctr_meta.specs.declared.items.Wanted.{Wanted}
use Rattle.ctr_meta.specs.declared.items.Wanted.TheVariants.{Allocation, OfPage, Creation, Dropping}

-- a page that the transaction allocated
abbrev pub is_alloc_by : ℕ → SlogItem → Bool
is_alloc_by x (AllocOf y p) = nat_eq y x
is_alloc_by x (FreeOf p) = false
is_alloc_by x (CreateOf y e) = false
is_alloc_by x (DropOf y e) = false

-- an entry of the catalog that it made or dropped
abbrev pub is_schema_by : ℕ → SlogItem → Bool
is_schema_by x (AllocOf y p) = false
is_schema_by x (FreeOf p) = false
is_schema_by x (CreateOf y e) = nat_eq y x
is_schema_by x (DropOf y e) = nat_eq y x

-- an item of the transaction
abbrev pub is_item_by : ℕ → SlogItem → Bool
is_item_by x i = if is_alloc_by x i then true else is_schema_by x i

-- An item is one that is wanted: the page that a transaction allocated, any item of a page, the
-- making or the dropping of an entry of the catalog.
abbrev pub is_wanted : Wanted → SlogItem → Bool
is_wanted (Allocation x p) (AllocOf y q) = nat_eq y x && nat_eq q p
is_wanted (Allocation x p) (FreeOf q) = false
is_wanted (Allocation x p) (CreateOf y f) = false
is_wanted (Allocation x p) (DropOf y f) = false
is_wanted (OfPage p) (AllocOf y q) = nat_eq q p
is_wanted (OfPage p) (FreeOf q) = nat_eq q p
is_wanted (OfPage p) (CreateOf y f) = false
is_wanted (OfPage p) (DropOf y f) = false
is_wanted (Creation e) (AllocOf y q) = false
is_wanted (Creation e) (FreeOf q) = false
is_wanted (Creation e) (CreateOf y f) = nat_eq f e
is_wanted (Creation e) (DropOf y f) = false
is_wanted (Dropping e) (AllocOf y q) = false
is_wanted (Dropping e) (FreeOf q) = false
is_wanted (Dropping e) (CreateOf y f) = false
is_wanted (Dropping e) (DropOf y f) = nat_eq f e

-- the items without the earliest that is wanted
abbrev pub left_out : Wanted → List SlogItem → List SlogItem
left_out w [] = []
left_out w (i ∷ is) = if is_wanted w i then is else i ∷ left_out w is
