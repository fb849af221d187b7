-- A pass that finds nothing leaves the pages bare.
use Rattle.std.proofs.Common.{◌≡◌, ⊎_elim, ℕ, suc, ◌+◌, ◌*◌, ◌/◌, ◌%◌, ◌<◌, ◌≤◌, ◌==◌, cond, Bool, true, false, List, [], ◌∷◌, drop, length, slice_index, Ok, refl, sym, ◌∙◌, ap, subst, arith}
use Rattle.std.specs.Prelude.{◌&&◌, nat_lt}
use Rattle.std.specs.List.{AllByRecursion, flat_map}
use Rattle.std.proofs.lemmas.Bool.{false≢true, lt-ltb, cases_eq, ne_eqb, ltb-true, ltb-false}
use Rattle.std.proofs.lemmas.List.{get_or-take, get_or-drop}
use Rattle.std.proofs.lemmas.Option.{slice_get_within}
use Rattle.ctr_rec.specs.bytes_Fields.{field}
use Rattle.ctr_rec.specs.Damage.{at_most}
use Rattle.ctr_page.proofs.bytes_FieldLaws.{got_byte}
use Rattle.ctr_page.proofs.Holding.{most_ok}
use Rattle.ctr_page.specs.declared.rows.Place.{Place}
use Rattle.ctr_page.specs.Reading.{piece}
use Rattle.ctr_page.specs.Damage.{firsts_check, used_entry_check, entry_check}
use Rattle.ctr_walk.proofs.Entries.{both_ok}
use Rattle.ctr_meta.specs.Tables.{Tables, is_in}
use Rattle.ctr_area.specs.Areas.{Firsts, Title, Area, no_pages}
use Rattle.ctr_area.specs.Chains.{places_from, slot_places, older_places}
use Rattle.ctr_area.specs.Images.{is_committed_in}
use Rattle.ctr_area.specs.Reading.{entry_bytes}
use Rattle.ctr_area.specs.Sound.{IsAmong}
use Rattle.ctr_area.proofs.Buckets.{nothing_from_0}
use Rattle.ctr_walk.specs.redo_States.{State}
use Rattle.ctr_walk.specs.record_effects_States.{pages_in, area_in}
use Rattle.ctr_walk.specs.record_effects_Standing.{IsDatabaseState}
use Rattle.ctr_record_laws.specs.Bounds.{IsInBounds}
use Rattle.ctr_record_laws.specs.Owed.{first_page, OwedByTrim, OwedByCut, OwedByDying, PassCommitted, OwedByUnlink, OwedByOlderUnlink}
use Rattle.ctr_actions.specs.Sites.{site_of}
use Rattle.ctr_actions.specs.Actions.{Action, Begins, Allocates, Formats, Links, LinksOlder, Keeps, Writes, Creates, Drops, Commits, Frees, Uncreates, Undrops, Aborts, Reclaims, Reverts, Trims, Cuts, FreesOlder, MakesDead, Unlinks, UnlinksOlder, FreesEntry, Forgets, Checkpoints, Owes}
use Rattle.ctr_actions.specs.Cleaning.{IsCleaning}
use Rattle.ctr_emptying.specs.clean_Choosing.{passes_below}
use Rattle.ctr_emptying.specs.clean_Lists.{HasNoFree}
use Rattle.ctr_emptying.proofs.clean_Listed.{place_in_map}
use Rattle.ctr_emptying.specs.cursor_Position.{Position}
use Rattle.ctr_emptying.specs.cursor_Position.TheVariants.{Entry, Slot, Kept, Aborted}
use Rattle.ctr_emptying.specs.cursor_Pass.{HoldsEverywhere}
use Rattle.ctr_emptying.specs.Emptying.{HasNoRows}
use Rattle.ctr_cleaner.specs.Finding.{HasNothingAt, HasNothingInSlot, HasNothingInDead}

-- ---- the state of an entry

byte_there : (start : ℕ) (page : List ℕ) → field 1 0 (piece start 256 page) ≡ field 1 (start + 0) page
byte_there start page = let few : 0 < 256 = omega arith in sym (got_byte 0 (piece start 256 page)) ∙ get_or-take 256 (drop start page) 0 0 few ∙ get_or-drop start page 0 0 ∙ got_byte (start + 0) page

entry_few : (counted start : ℕ) (page : List ℕ) → entry_check counted start page ≡ Ok tt → field 1 start page ≤ 2
unfolding entry_check used_entry_check
entry_few counted start page e = ⊎_elim (λ none. least (field 1 start page) none) (λ some. used some) (cases_eq (field 1 start page) 0)
  where
    least : (n : ℕ) → n ≡ 0 → n ≤ 2
    least n is = omega (arith, is)

    used : (field 1 start page ≡ 0 → ⊥) → field 1 start page ≤ 2
    used some =
        let checked : used_entry_check counted start page ≡ Ok tt = ap (λ b. cond b (Ok tt) (used_entry_check counted start page)) (sym (ne_eqb (field 1 start page) 0 some)) ∙ e in
        let second = both_ok (firsts_check 9 counted (start + 179) page) _ checked in
        let third = both_ok (at_most start 2 (field 1 start page)) _ second.1 in
        most_ok start 2 (field 1 start page) third.0

-- an entry is free, live or dead
pub state_few : (s : State) → IsDatabaseState s → IsInBounds (area_in s) → (e : ℕ) → ((area_in s).title e).state ≤ 2
state_few s database bounds e = by (nat_lt e 32) refl
  where
    pages : ℕ → List ℕ
    pages = pages_in s

    by : (b : Bool) → nat_lt e 32 ≡ b → ((area_in s).title e).state ≤ 2
    by true is =
        let bytes : entry_bytes pages e ≡ piece (256 * (e % 16)) 256 (pages (1 + e / 16)) = ap (λ b. cond b (piece (256 * (e % 16)) 256 (pages (1 + e / 16))) []) is in
        subst (λ n. n ≤ 2) (sym (ap (field 1 0) bytes ∙ byte_there (256 * (e % 16)) (pages (1 + e / 16)) ∙ ap (λ j. field 1 j (pages (1 + e / 16))) (let z : 256 * (e % 16) + 0 ≡ 256 * (e % 16) = omega arith in z)))
        (entry_few s.counted (256 * (e % 16)) (pages (1 + e / 16)) (database.passed.entries e (below is)))
      where
        below : nat_lt e 32 ≡ true → e < 32
        below lt = ltb-true e 32 lt
    by false isnt = subst (λ (t : Title). t.state ≤ 2) (sym (bounds.titles e (ltb-false e 32 isnt))) (let z : 0 ≤ 2 = omega arith in z)

-- ---- which entry it is

module _ (area : Area) (bounds : IsInBounds area) where
  -- behind the last entry there are no pages
  behind_all : (e : ℕ) (P : Firsts → Type 0) → P (area.firsts e) → (P no_pages → ⊥) → e < 32
  behind_all e P is none = by (nat_lt e 32) refl
    where
      by : (b : Bool) → nat_lt e 32 ≡ b → e < 32
      by true lt = ltb-true e 32 lt
      by false isnt = absurd (none (subst P (bounds.entries e (ltb-false e 32 isnt)) is))

  slot_inside : (e : ℕ) (at : Place) → IsAmong at (slot_places area e) → e < 32
  slot_inside e at in_ = behind_all e (λ (f : Firsts). IsAmong at (flat_map (places_from area) f.buckets)) in_ (λ none. none)

  older_inside : (e : ℕ) (at : Place) → IsAmong at (older_places area e) → e < 32
  older_inside e at in_ = behind_all e (λ (f : Firsts). IsAmong at (places_from area f.versions)) in_ (λ none. nothing_from_0 area at none)

  bucket_inside : (e b : ℕ) → b < length (area.firsts e).buckets → e < 32
  bucket_inside e b lt = behind_all e (λ (f : Firsts). b < length f.buckets) lt (λ none. omega (arith, none))

  versions_inside : (e p : ℕ) → (area.firsts e).versions ≡ p → 0 < p → e < 32
  versions_inside e p is some = behind_all e (λ (f : Firsts). f.versions ≡ p) is (λ none. omega (arith, none, some))

-- ---- pages of a dead table

all_zero : (ps : List ℕ) → ((b : ℕ) → b < length ps → slice_index ps b ≡ 0) → AllByRecursion (λ p. p ≡ 0) ps
all_zero [] zeros = tt
all_zero (p ∷ ps) zeros = (zeros 0 (omega arith), all_zero ps (λ b lt. zeros (suc b) (omega (arith, lt))))

-- Where no page of rows may leave, and the table has no used slot, no bucket has a page.
no_rows : (s : State) (e : ℕ) → ((area_in s).title e).state ≡ 2 → ((p b : ℕ) → OwedByUnlink s.tables (area_in s) p e b → ⊥) → (p : ℕ) → OwedByOlderUnlink (area_in s) p e → HasNoRows (area_in s) e
no_rows s e dead none p owed = all_zero ((area_in s).firsts e).buckets (λ b lt. ⊎_elim
    (λ is. is)
    (λ some. absurd (none (first_page (area_in s) e b) b (record {
      dead = ap (λ n. n == 1) dead;
      there = lt;
      first = refl;
      some = positive (first_page (area_in s) e b) some;
      heads = λ at used on. absurd (owed.none at used);
    })))
    (cases_eq (first_page (area_in s) e b) 0))
  where
    positive : (n : ℕ) → (n ≡ 0 → ⊥) → 0 < n
    positive n isnt = omega (arith, isnt)

-- ---- whom everybody sees

pub and_parts : (a b : Bool) → (a && b) ≡ true → (a ≡ true) × (b ≡ true)
and_parts true b is = (refl, is)
and_parts false b is = absurd (false≢true is)

-- whoever is committed everybody sees, as each is below the low mark
pub all_seen : (s : State) (low x : ℕ) → s.tables.next ≤ low → is_committed_in s.tables x ≡ true → passes_below low s.tables x ≡ true
all_seen s low x le is =
    let drawn = and_parts (nat_lt x s.tables.next) _ (and_parts (nat_lt 0 x) _ is).1 in
    ap (λ b. b && nat_lt x low) is ∙ lt-ltb x low (less (ltb-true x s.tables.next drawn.0))
  where
    less : x < s.tables.next → x < low
    less lt = omega (arith, lt, le)

pub passes_committed : (low : ℕ) (tables : Tables) → PassCommitted (passes_below low tables) tables
passes_committed low tables x is = (and_parts (is_committed_in tables x) (nat_lt x low) is).0

-- ---- what was found

module _ (s : State) (low : ℕ) (passed : List Position) (database : IsDatabaseState s) (bounds : IsInBounds (area_in s)) (closed : s.tables.opens ≡ [])
    (free : HasNoFree 0 s.tables) (every : HoldsEverywhere (λ x. IsAmong x passed) (site_of s)) (found : (x : Position) → IsAmong x passed → HasNothingAt (λ e key. Unit {0}) low x s) where
  in_slot : (e : ℕ) (at : Place) → IsAmong at (slot_places (area_in s) e) → HasNothingInSlot low e at s
  in_slot e at in_ = let here = every.slots e at (slot_inside (area_in s) bounds e at in_) in_ in found (Slot e here.0 at) here.1 tt

  in_dead : (e : ℕ) → e < 32 → ((area_in s).title e).state ≡ 2 → HasNothingInDead e s
  in_dead e lt dead = (found (Entry e) (every.entries e lt)).1 dead

  pub nothing_left : (a : Action) → IsCleaning (passes_below low s.tables) a (site_of s) → Owes 0 a (site_of s) → ⊥
  nothing_left (Reverts e at way) cleaning owed = (in_slot e at owed.used.0).heads way owed
  nothing_left (Trims test e at way) cleaning owed = (in_slot e at owed.used.0).slots cleaning.1 way (subst (λ t. OwedByTrim t s.tables (area_in s) e at way) cleaning.0 owed)
  nothing_left (Cuts test e at q) cleaning owed = (in_slot e at owed.used.0).chains cleaning.1 q (subst (λ t. OwedByCut t (area_in s) e at q) cleaning.0 owed)
  nothing_left (FreesOlder e q) cleaning owed = found (Kept e q) (every.kept e q (older_inside (area_in s) bounds e q owed.here) owed.here) cleaning tt owed
  nothing_left (MakesDead test e) cleaning owed = (found (Entry e) (every.entries e owed.inside)).0 (subst (λ t. OwedByDying t s.tables (area_in s) e) cleaning owed)
  nothing_left (Reclaims p) cleaning owed = free p owed
  nothing_left (Forgets y) cleaning owed =
      let there = place_in_map s.tables.aborted y owed.gone in
      found (Aborted there.0) (every.aborted there.0 (slice_get_within s.tables.aborted there.0 (y, there.1) there.2)) y there.1 there.2 owed
  nothing_left (Unlinks p e b) cleaning owed = (in_dead e (bucket_inside (area_in s) bounds e b owed.there) cleaning).rows p b owed
  nothing_left (UnlinksOlder p e) cleaning owed =
      let none = in_dead e (versions_inside (area_in s) bounds e p owed.first owed.some) cleaning in
      none.versions (no_rows s e cleaning none.rows p owed) p owed
  nothing_left (FreesEntry e title area) cleaning owed = (in_dead e owed.0.inside owed.0.dead).entry (ap (λ opens. is_in ((area_in s).title e).creator opens) closed) owed.0
  nothing_left Begins cleaning owed = absurd cleaning
  nothing_left (Allocates p) cleaning owed = absurd cleaning
  nothing_left (Formats p h) cleaning owed = absurd cleaning
  nothing_left (Links p e b) cleaning owed = absurd cleaning
  nothing_left (LinksOlder p e) cleaning owed = absurd cleaning
  nothing_left (Keeps e at older) cleaning owed = absurd cleaning
  nothing_left (Writes m) cleaning owed = absurd cleaning
  nothing_left (Creates e name columns area) cleaning owed = absurd cleaning
  nothing_left (Drops e) cleaning owed = absurd cleaning
  nothing_left Commits cleaning owed = absurd cleaning
  nothing_left (Frees p) cleaning owed = absurd cleaning
  nothing_left (Uncreates e) cleaning owed = absurd cleaning
  nothing_left (Undrops e) cleaning owed = absurd cleaning
  nothing_left Aborts cleaning owed = absurd cleaning
  nothing_left (Checkpoints lists) cleaning owed = absurd cleaning
