-- A map's insertion is that of a list in order.
use Rattle.std.proofs.Common.{◌≡◌, ℤ, List, [], ◌∷◌, refl, ap}
use Rattle.std.specs.declared.cmp.Ordering.TheVariants.{Less, Equal, Greater}
use Rattle.std.specs.Ordering.{int_cmp, match_ordering}
use Rattle.std.specs.BTreeMap.{insert_entry}
use Rattle.std.specs.FinMap.Entries.{put}
use Rattle.ctr_types.specs.declared.value.Row.{Row}

pub insert_is_put : (key : ℤ) (row : Row) (rows : List (ℤ × Row)) → insert_entry int_cmp rows key row ≡ put int_cmp key row rows
insert_is_put key row [] = refl
insert_is_put key row (e ∷ es) = elim (int_cmp key e.0) as (λ o. match_ordering o ((key, row) ∷ e ∷ es) ((e.0, row) ∷ es) (e ∷ insert_entry int_cmp es key row) ≡ match_ordering o ((key, row) ∷ e ∷ es) ((e.0, row) ∷ es) (e ∷ put int_cmp key row es)) [
  | Less ↦ refl
  | Equal ↦ refl
  | Greater ↦ ap (λ l. e ∷ l) (insert_is_put key row es)
]
