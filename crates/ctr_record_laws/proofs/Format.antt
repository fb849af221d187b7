-- A Format: its page is in no chain, so the tables are what they were.
use Rattle.std.proofs.Common.{◌≡◌, inl, ℕ, ◌+◌, ◌<◌, ◌≤◌, zero, suc, true, cond, List, [], ◌++◌, refl, sym, ◌∙◌, ap, subst, arith}
use Rattle.std.proofs.lemmas.Bool.{false≢true, eqb-true, ne_eqb, and_parts}
use Rattle.std.specs.List.{list_any, flat_map, AllByRecursion}
use Rattle.std.specs.Prelude.{◌==◌}
use Rattle.ctr_area.specs.Areas.{Firsts, free_slot, free_older, Area}
use Rattle.ctr_area.specs.Chains.{pages_bound, pages_from, table_pages}
use Rattle.ctr_area.specs.Changes.{with_blank, room_by}
use Rattle.ctr_area.specs.Images.{is_committed_in, entry_numbers}
use Rattle.ctr_area.specs.Sound.{IsAmong, how_many, xids_in, page_of_item, owned_pages, AreOwned, IsSoundArea}
use Rattle.ctr_area.specs.meta_Items.{is_wanted}
use Rattle.ctr_area.specs.meta_Tables.{Tables}
use Rattle.ctr_area.specs.meta_Wanted.TheVariants.{Allocation}
use Rattle.ctr_record_laws.proofs.Members.{among_rest, count_append, count_among}
use Rattle.ctr_record_laws.proofs.Owned.{entry_inside, in_all, owned_once}
use Rattle.ctr_record_laws.specs.Bounds.{IsInBounds}
use Rattle.ctr_area.specs.ctr_page.declared.header.Header.{Header}
use Rattle.ctr_area.specs.rec_SlogItem.{SlogItem}
use Rattle.ctr_area.specs.rec_SlogItem.TheVariants.{AllocOf, FreeOf, CreateOf, DropOf}
use Rattle.ctr_record_laws.proofs.Away.{away_readable, away_pointers, away_behind, away_keys, away_counts, away_pages, away_below, IsSameOn}
use Rattle.ctr_record_laws.proofs.Items.{the_one, taken_out}
use Rattle.ctr_record_laws.proofs.Owning.{flat_among}
use Rattle.ctr_record_laws.specs.Owed.{OwedByFormat}

no_pages_from : (n : ℕ) (header : ℕ → Header) → pages_from n header 0 ≡ []
no_pages_from zero header = refl
no_pages_from (suc n) header = refl

-- a table with a page is one of the catalog
pub page_inside : (area : Area) → IsInBounds area → (f p : ℕ) → IsAmong p (table_pages area f) → f < 32
page_inside area bounds f p in_ = entry_inside area bounds (λ (t : Firsts). flat_map (pages_from pages_bound area.header) t.buckets ++ pages_from pages_bound area.header t.versions) p f (no_pages_from pages_bound area.header) in_

-- where a page is that of an item it is in no chain
pub item_alone : (counted : ℕ) (tables : Tables) (area : Area) (bounds : IsInBounds area) (owned : AreOwned counted (xids_in tables.opens) tables.items area)
    → (p : ℕ) → IsAmong p (flat_map page_of_item tables.items) → (f : ℕ) → IsAmong p (table_pages area f) → ⊥
item_alone counted tables area bounds owned p in_item f in_table =
    let all_tables = flat_map (table_pages area) entry_numbers in
    let of_items = flat_map page_of_item tables.items in
    twice (how_many (λ r. r == p) all_tables) (how_many (λ r. r == p) of_items) (how_many (λ r. r == p) (owned_pages tables.items area))
    (count_among p all_tables (in_all area bounds (table_pages area) p f (page_inside area bounds f p in_table) in_table))
    (count_among p of_items in_item)
    (count_append (λ r. r == p) all_tables of_items)
    (owned_once area bounds counted (xids_in tables.opens) tables.items owned p (among_rest p all_tables of_items in_item))
  where
    twice : (a b c : ℕ) → 1 ≤ a → 1 ≤ b → c ≡ a + b → c ≡ 1 → ⊥
    twice a b c one two is sum = omega (arith, one, two, is, sum)

-- the item that is wanted
pub allocation_is : (x p : ℕ) (i : SlogItem) → is_wanted (Allocation x p) i ≡ true → i ≡ AllocOf x p
allocation_is x p (AllocOf y q) is = let parts = and_parts (y == x) (q == p) is in λ i. AllocOf (eqb-true y x parts.0 i) (eqb-true q p parts.1 i)
allocation_is x p (FreeOf q) is = absurd (false≢true is)
allocation_is x p (CreateOf y e) is = absurd (false≢true is)
allocation_is x p (DropOf y e) is = absurd (false≢true is)

-- its page
pub item_page : (x p : ℕ) (items : List SlogItem) → list_any (is_wanted (Allocation x p)) items ≡ true → IsAmong (AllocOf x p) items × IsAmong p (flat_map page_of_item items)
item_page x p items there =
    let found = taken_out (Allocation x p) items there in
    let is = allocation_is x p found.0 found.1 in
    let in_ = subst (IsAmong found.0) (sym found.2.more_is) (the_one found.0 found.2.front found.2.rest) in
    (subst (λ z. IsAmong z items) is in_, flat_among page_of_item p found.0 items in_ (subst (λ z. IsAmong p (page_of_item z)) (sym is) (inl refl)))

module _ (counted : ℕ) (tables : Tables) (area : Area) (x p : ℕ) (h : Header) (bounds : IsInBounds area) (sound : IsSoundArea counted tables area) (owed : OwedByFormat tables x p) where
  abbrev after : Area
  after = with_blank p h area

  abbrev On : ℕ → Type 0
  On q = q ≡ p → ⊥

  pub same_away : IsSameOn On area after
  same_away = record {
    headers = λ q apart. ap (λ b. cond b h (area.header q)) (ne_eqb q p apart);
    rooms = λ q apart. ap (λ b. cond b (room_by area h) (area.room q)) (ne_eqb q p apart);
    slots = λ at apart. ap (λ b. cond b free_slot (area.slot at)) (ne_eqb at.page p apart);
    older = λ at apart. ap (λ b. cond b free_older (area.older at)) (ne_eqb at.page p apart);
  }

  pub in_tables : (f q : ℕ) → IsAmong q (table_pages area f) → On q
  in_tables f q in_ is = item_alone counted tables area bounds sound.owned p (item_page x p tables.items owed).1 f (subst (λ q. IsAmong q (table_pages area f)) is in_)

  same_firsts : (f : ℕ) → after.firsts f ≡ area.firsts f
  same_firsts f = refl

  pub format_sound : IsSoundArea counted tables after
  format_sound = record {
    readable = away_readable On area after same_away same_firsts in_tables sound.readable;
    behind = away_behind On area after same_away same_firsts in_tables sound.pointers (is_committed_in tables) sound.behind;
    counts = away_counts On area after same_away same_firsts in_tables tables sound.counts;
    owned = record {
      once = λ q behind_ inside_. ap (how_many (λ r. r == q)) (away_pages On area after same_away same_firsts in_tables tables.items) ∙ sound.owned.once q behind_ inside_;
      inside = subst (AllByRecursion (λ q. (3 ≤ q) × (q < counted) × (area.taken q ≡ true))) (sym (away_pages On area after same_away same_firsts in_tables tables.items)) sound.owned.inside;
      uncounted = sound.owned.uncounted;
      allocs = sound.owned.allocs;
      creates = sound.owned.creates;
      drops = sound.owned.drops;
    };
    keys = away_keys On area after same_away same_firsts in_tables sound.keys;
    pointers = away_pointers On area after same_away same_firsts in_tables sound.pointers;
    names = sound.names;
    below = away_below On area after same_away same_firsts in_tables tables.next (xids_in tables.opens ++ xids_in tables.aborted) sound.below sound.below.entries;
  }
