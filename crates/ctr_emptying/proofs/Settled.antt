-- The slots of a page that are free or have committed heads, and what the first page of a bucket owes so.
use Rattle.std.proofs.Common.{◌≡◌, ◌≢◌, inl, inr, ℕ, ◌+◌, ◌≤◌, ◌<◌, ◌==◌, Bool, true, false, length, refl, sym, ◌∙◌, ap, subst, arith}
use Rattle.std.specs.Prelude.{◌||◌, not, None, Some}
use Rattle.std.proofs.lemmas.Bool.{true≢false, false≢true, eqb-true, eqb-false}
use Rattle.ctr_page.specs.declared.checks.Chain.TheVariants.{Rows}
use Rattle.ctr_page.specs.declared.rows.Place.{Place}
use Rattle.ctr_meta.specs.Tables.{Tables}
use Rattle.ctr_pvs.specs.redo_States.{State}
use Rattle.ctr_area.specs.Areas.{Area}
use Rattle.ctr_area.specs.Chains.{pages_bound, pages_from, places_from}
use Rattle.ctr_area.specs.Images.{is_committed_in}
use Rattle.ctr_area.specs.Sound.{IsAmong, IsUsedSlot}
use Rattle.ctr_area.proofs.Buckets.{on_chain}
use Rattle.ctr_pvs.specs.record_effects_States.{area_in}
use Rattle.ctr_pvs.specs.record_effects_Standing.{IsDatabaseState}
use Rattle.ctr_record_laws.specs.Owed.{first_page, OwedByUnlink}
use Rattle.ctr_record_laws.proofs.Ends.{steps, page_goes_on}
use Rattle.ctr_record_laws.proofs.Members.{among_flat}
use Rattle.ctr_cursor.specs.reading_Gathering.{IsBucketPage}
use Rattle.ctr_cursor.proofs.reading_Places.{page_slot}
use Rattle.ctr_emptying.specs.Looking.{is_settled, place_at_slot, SettledSaid, FrontSaid}

module _ (tables : Tables) (area : Area) (p : ℕ) where
  -- the slots before one of them are settled
  abbrev pub AreSettledTo : ℕ → Type 0
  AreSettledTo n = (k : ℕ) → k < n → is_settled tables (area.slot (place_at_slot p k)) ≡ true

  pub none_yet : AreSettledTo 0
  none_yet k lt = absurd (omega (arith, lt))

  pub one_more : (n m : ℕ) → m ≡ n + 1 → true ≡ is_settled tables (area.slot (place_at_slot p n)) → AreSettledTo n → AreSettledTo m
  one_more n m next here before k lt = by (k == n) refl
    where
      by : (b : Bool) → (k == n) ≡ b → is_settled tables (area.slot (place_at_slot p k)) ≡ true
      by true is = subst (λ j. is_settled tables (area.slot (place_at_slot p j)) ≡ true) (sym (eqb-true k n is)) (sym here)
      by false apart = before k (less (eqb-false k n apart))
        where
          less : (k ≡ n → ⊥) → k < n
          less other = omega (arith, lt, next, other)

  pub all_settled : (n : ℕ) → area.room p ≤ n → AreSettledTo n → SettledSaid tables area p true
  all_settled n all are k lt = are k (below lt)
    where
      below : k < area.room p → k < n
      below few = omega (arith, few, all)

-- the first page of a chain is on it
pub front_on : (area : Area) (p : ℕ) → p ≢ 0 → IsAmong p (pages_from pages_bound area.header p)
front_on area p some = subst (λ k. IsAmong p (pages_from k area.header p)) (sym steps.1) (subst (IsAmong p) (sym (page_goes_on area.header steps.0 p some)) (inl refl))

-- so it is one of a bucket of a database
pub front_page : (s : State) (e b p : ℕ) → IsDatabaseState s → p ≢ 0 → first_page (area_in s) e b ≡ p → IsBucketPage (Rows e b) p s
front_page s e b p database some is = record {
  sound = database;
  rows = tt;
  on = subst (λ f. IsAmong p (pages_from pages_bound (area_in s).header f)) (sym is) (front_on (area_in s) p some);
}

-- ---- a slot

settled_used : (u c : Bool) → u ≡ true → (not u || c) ≡ true → c ≡ true
settled_used true c used is = is
settled_used false c used is = absurd (false≢true used)

unsettled : (u c : Bool) → (not u || c) ≡ false → (u ≡ true) × (c ≡ false)
unsettled true c is = (refl, is)
unsettled false c is = absurd (true≢false is)

-- a used slot of a table, on a page, is one of the page's
slot_on : (area : Area) (e : ℕ) (at : Place) → IsUsedSlot area e at → at.slot < area.room at.page
slot_on area e at used = let found = among_flat (places_from area) at (area.firsts e).buckets used.0 in (on_chain area found.0 at found.2).1

-- ---- what is owed

some_page : (p : ℕ) → p ≢ 0 → 0 < p
some_page p some = omega (arith, some)

-- a settled first page of a bucket of a dead table may leave it
pub settled_owes : (tables : Tables) (area : Area) (e b p : ℕ) → (area.title e).state ≡ 2 → b < length (area.firsts e).buckets → FrontSaid tables area e b (Some p) → OwedByUnlink tables area p e b
settled_owes tables area e b p dead there (some, is, all) = record {
  dead = ap (λ n. n == 1) dead;
  there = there;
  first = is;
  some = some_page p some;
  heads = λ at used on. settled_used (area.slot at).used (is_committed_in tables (area.slot at).head.0) used.1
      (subst (λ (a : Place). is_settled tables (area.slot a) ≡ true) (place_is at on) (all at.slot (subst (λ q. at.slot < area.room q) on (slot_on area e at used))));
}
  where
    place_is : (at : Place) → at.page ≡ p → place_at_slot p at.slot ≡ at
    place_is at on = ap (λ q. place_at_slot q at.slot) (sym on)

-- where a bucket of a database has none, or its first page has a head that isn't committed, no page may leave it
pub none_owes : (s : State) (e b : ℕ) → IsDatabaseState s → FrontSaid s.tables (area_in s) e b None → (p : ℕ) → OwedByUnlink s.tables (area_in s) p e b → ⊥
none_owes s e b database (inl none) p owes = not_0 (sym owes.first ∙ none) owes.some
  where
    not_0 : p ≡ 0 → 0 < p → ⊥
    not_0 is lt = omega (arith, is, lt)
none_owes s e b database (inr (some, said)) p owes =
    let area = area_in s in
    let n = said.0 in
    let q = first_page area e b in
    let slot = unsettled (area.slot (place_at_slot q n)).used (is_committed_in s.tables (area.slot (place_at_slot q n)).head.0) said.2 in
    let among = page_slot (Rows e b) q s n (front_page s e b q database some refl) said.1 in
    true≢false (sym (owes.heads (place_at_slot q n) (among, slot.0) owes.first) ∙ slot.1)

-- a dead table has eight buckets
pub eight_there : (s : State) (e b : ℕ) → ((area_in s).title e).state ≡ 2 → (((area_in s).title e).state ≢ 0 → length ((area_in s).firsts e).buckets ≡ 8) → b < 8 → b < length ((area_in s).firsts e).buckets
eight_there s e b dead eight lt = subst (λ n. b < n) (sym (eight (taken dead))) lt
  where
    taken : ((area_in s).title e).state ≡ 2 → ((area_in s).title e).state ≢ 0
    taken two none = let no = sym two ∙ none in absurd cc
