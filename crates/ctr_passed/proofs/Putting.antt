-- What is put at a place of a table's chains lies inside its page, by the columns of the table.
use Rattle.std.proofs.Common.{◌≡◌, ℕ, ◌≤◌, ◌<◌, cond, drop, sym, ◌∙◌, ap, subst, arith}
use Rattle.std.specs.List.{flat_map}
use Rattle.std.proofs.lemmas.Bool.{eq-eqb}
use Rattle.ctr_actions.specs.value_Payload.{width}
use Rattle.ctr_actions.specs.rec_Record.{Record}
use Rattle.ctr_actions.specs.ctr_redo.States.{State}
use Rattle.ctr_actions.specs.page_Place.{Place}
use Rattle.ctr_actions.specs.page_RowSlot.{RowSlot}
use Rattle.ctr_actions.specs.page_VersionEntry.{VersionEntry}
use Rattle.ctr_actions.specs.page_Places.{slot_size, kept_size, start_of, room_for}
use Rattle.ctr_actions.specs.page_Columns.{columns_in}
use Rattle.ctr_actions.proofs.page_Back.{length-slot, length-kept}
use Rattle.ctr_actions.proofs.page_Holding.{kinds_wide}
use Rattle.ctr_actions.proofs.page_Searches.{lies_on_page}
use Rattle.ctr_actions.specs.area_Areas.{Area}
use Rattle.ctr_actions.specs.area_Chains.{pages_bound, pages_from, places_from, slot_places, older_places}
use Rattle.ctr_actions.specs.area_Reading.{entry_bytes, width_on, size_on}
use Rattle.ctr_actions.specs.area_Sound.{IsAmong}
use Rattle.ctr_actions.proofs.area_Buckets.{on_chain}
use Rattle.ctr_actions.proofs.area_Written.{one_of_two}
use Rattle.ctr_actions.specs.record_laws_Bounds.{IsInBounds}
use Rattle.ctr_actions.proofs.record_laws_Away.{place_on_chains}
use Rattle.ctr_actions.proofs.record_laws_Bounds.{pages_bounded}
use Rattle.ctr_actions.proofs.record_laws_Members.{among_front, among_flat}
use Rattle.ctr_actions.specs.ctr_record_effects.Standing.{IsDatabaseState}
use Rattle.ctr_actions.specs.ctr_record_effects.States.{pages_in, area_in}
use Rattle.ctr_passed.specs.Laid.{width_in, slot_size_in, older_size_in}
use Rattle.ctr_passed.specs.Logged.{LaysSlot, LaysOlder, PutsSlot, PutsOlder}
use Rattle.ctr_passed.proofs.Passing.{third, slot_header, of_versions, in_versions}

module _ (s : State) (sound : IsDatabaseState s) where
  abbrev area : Area
  area = area_in s

  bounds : IsInBounds area
  bounds = pages_bounded (pages_in s)

  -- the width of the rows on a page of the entry
  wide : (e p : ℕ) → (area.header p).entry ≡ e → width_on (pages_in s) p ≡ width_in area e
  wide e p is = ap (λ f. width (drop 1 (columns_in (entry_bytes (pages_in s) f)))) is ∙ sym (kinds_wide (drop 1 (columns_in (entry_bytes (pages_in s) e))))

  -- its room is for what stands there
  fits : (size p n : ℕ) → size_on (pages_in s) p ≡ size → n < area.room p → start_of size n ≤ 4096
  fits size p n is lt = let on = lies_on_page size n (subst (λ k. n < room_for k) is lt) in omega (arith, on)

  module _ (e : ℕ) (at : Place) (in_ : IsAmong at (slot_places area e)) where
    slot_sized : size_on (pages_in s) at.page ≡ slot_size_in area e
    slot_sized =
        let its = slot_header s.counted s.tables area bounds sound.sound e at in_ in
        ap (λ b. cond b (slot_size (width_on (pages_in s) at.page)) (kept_size (width_on (pages_in s) at.page))) (eq-eqb (area.header at.page).kind 1 its.0)
        ∙ ap slot_size (wide e at.page its.1)

    pub slot_put : (r : Record) (slot : RowSlot) → PutsSlot r e at slot s → LaysSlot r e at slot s
    slot_put r slot puts =
        let found = among_flat (places_from area) at (area.firsts e).buckets in_ in
        let long = length-slot (width_in area e) slot puts.made.is in
        record {
          made = puts.made;
          behind_catalog = third s.counted s.tables area bounds sound.sound e at.page
              (among_front at.page (flat_map (pages_from pages_bound area.header) (area.firsts e).buckets) (pages_from pages_bound area.header (area.firsts e).versions) (place_on_chains area (area.firsts e).buckets at in_));
          laid = record {
            lays = puts.lays;
            whole = puts.whole;
            inside = fits (slot_size_in area e) at.page at.slot slot_sized (on_chain area found.0 at found.2).1;
            short = subst (λ n. n ≤ slot_size_in area e) (sym long) (omega arith);
          };
        }

  module _ (e : ℕ) (at : Place) (in_ : IsAmong at (older_places area e)) where
    on_it : IsAmong at.page (pages_from pages_bound area.header (area.firsts e).versions)
    on_it = (on_chain area (area.firsts e).versions at in_).0

    older_sized : size_on (pages_in s) at.page ≡ older_size_in area e
    older_sized =
        let its = of_versions s.counted s.tables area bounds sound.sound e at.page on_it in
        ap (λ b. cond b (slot_size (width_on (pages_in s) at.page)) (kept_size (width_on (pages_in s) at.page))) (one_of_two (area.header at.page).kind its.0)
        ∙ ap kept_size (wide e at.page its.1)

    pub older_put : (r : Record) (older : VersionEntry) → PutsOlder r e at older s → LaysOlder r e at older s
    older_put r older puts =
        let long = length-kept (width_in area e) older puts.made.is in
        record {
          made = puts.made;
          behind_catalog = third s.counted s.tables area bounds sound.sound e at.page (in_versions s.counted s.tables area bounds sound.sound e at.page on_it);
          laid = record {
            lays = puts.lays;
            whole = puts.whole;
            inside = fits (older_size_in area e) at.page at.slot older_sized (on_chain area (area.firsts e).versions at in_).1;
            short = subst (λ n. n ≤ older_size_in area e) (sym long) (omega arith);
          };
        }
