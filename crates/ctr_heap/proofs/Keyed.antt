-- The slot of a key, along the chain of the key's bucket.
use Rattle.std.proofs.Common.{◌≡◌, ℕ, ℤ, Some, None, sym, ◌∙◌, arith}
use Rattle.std.specs.List.{AllByRecursion}
use Rattle.std.specs.Ordering.{int_eq}
use Rattle.std.proofs.lemmas.Bool.{false≢true, and_parts, and_from}
use Rattle.std.proofs.lemmas.Bool.Decides.{Decides-int_eq}
use Rattle.ctr_page.specs.declared.rows.Place.{Place}
use Rattle.ctr_page.specs.Places.{bucket_of}
use Rattle.ctr_page.specs.Searching.{IsFirst}
use Rattle.ctr_passed.specs.area_Areas.{Area}
use Rattle.ctr_passed.specs.area_Chains.{pages_bound, pages_from, bucket_first}
use Rattle.ctr_passed.specs.area_Sound.{IsAmong, IsUsedSlot, AreReadable, AreKeyed}
use Rattle.ctr_passed.proofs.area_Buckets.{each_of, on_chain, in_chain, of_bucket, nothing_from_0, bucket_suffices}
use Rattle.ctr_heap.specs.declared.slots.SlotSought.TheVariants.{Key}
use Rattle.ctr_heap.specs.Slots.{seeks_in}

pub key_found : (area : Area) (e p n : ℕ) (key : ℤ) → IsAmong p (pages_from pages_bound area.header (bucket_first area e key)) → IsFirst (seeks_in area p (Key key)) 0 (area.room p) (Some n)
    → IsUsedSlot area e (record { page = p; slot = n }) × ((area.slot (record { page = p; slot = n })).key ≡ key)
key_found area e p n key in_ found =
    let at : Place = record { page = p; slot = n } in
    let here = in_chain area (bucket_first area e key) p n in_ found.1 in
    let both = and_parts (area.slot at).used (int_eq (area.slot at).key key) found.2 in
    ((of_bucket area at (bucket_of key) (area.firsts e).buckets here (nothing_from_0 area at), both.0), (Decides-int_eq (area.slot at).key key).0 both.1)

pub key_absent : (area : Area) (e : ℕ) (key : ℤ) → AreReadable area → AreKeyed area → AllByRecursion (λ p. IsFirst (seeks_in area p (Key key)) 0 (area.room p) None) (pages_from pages_bound area.header (bucket_first area e key))
    → (at : Place) → IsUsedSlot area e at → (area.slot at).key ≡ key → ⊥
key_absent area e key readable keyed none at used is =
    let there = on_chain area (bucket_first area e key) at (bucket_suffices area e at readable keyed key used is) in
    let missed = each_of (λ p. IsFirst (seeks_in area p (Key key)) 0 (area.room p) None) at.page (pages_from pages_bound area.header (bucket_first area e key)) none there.0 at.slot (omega arith) there.1 in
    false≢true (sym missed ∙ and_from (area.slot at).used (int_eq (area.slot at).key key) used.1 ((Decides-int_eq (area.slot at).key key).1 is))
