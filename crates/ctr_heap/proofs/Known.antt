-- What is known of a bucket that is remembered: the search of it ends there.
use Rattle.std.proofs.Common.{◌≡◌, inl, inr, ⊎_elim, ℕ, zero, suc, ◌+◌, ◌/◌, ◌<◌, ◌≤◌, ℤ, Bool, true, false, cond, List, [], ◌∷◌, length, Option, None, Some, Ok, is_some, refl, sym, ◌∙◌, ap, subst, arith}
use Rattle.std.specs.Prelude.{◌==◌}
use Rattle.std.specs.Ordering.{int_eq}
use Rattle.std.proofs.lemmas.Bool.{false≢true, and_parts, and_from, eqb-true, eqb-false, eq-eqb}
use Rattle.std.proofs.lemmas.Bool.Decides.{Decides-int_eq, eqb_tells}
use Rattle.ctr_types.specs.declared.value.Kind.{Kind}
use Rattle.ctr_page.specs.declared.checks.Chain.{Chain}
use Rattle.ctr_page.specs.declared.checks.Chain.TheVariants.{Rows}
use Rattle.ctr_page.specs.declared.rows.Place.{Place}
use Rattle.ctr_page.specs.declared.rows.RowSlot.{RowSlot}
use Rattle.ctr_page.specs.Columns.{kinds_of, columns_in, kinds_width}
use Rattle.ctr_page.specs.Reading.{header_in, slot_at}
use Rattle.ctr_page.specs.Searching.{PassesBy}
use Rattle.ctr_page.specs.Walking.{most_in_chain}
use Rattle.ctr_passed.specs.area_Checked.{kinds_at}
use Rattle.ctr_passed.specs.area_Reading.{area_of}
use Rattle.ctr_walk.specs.Along.{ChainSought, EndsAlong}
use Rattle.ctr_walk.specs.Tables.{chain_sought, first_of_chain}
use Rattle.ctr_walk.specs.directory_Chains.{RowPagePasses, RunsAlong, is_page_of, TellsKey, IsPlaceTold, KnowsChain, Knows, KnowsFull}
use Rattle.ctr_walk.specs.directory_Keys.{slot_key, key_on, slots_of_kinds, SlotsPass}
use Rattle.ctr_walk.proofs.Ends.{at_end}
use Rattle.ctr_walk.proofs.Said.{first_here, first_used, bytes_of_entry}
use Rattle.ctr_heap.specs.declared.slots.SlotSought.TheVariants.{Key, Free}
use Rattle.ctr_heap.specs.declared.slots.SlotSought.{SlotSought}
use Rattle.ctr_heap.specs.Slots.{slot_is, checks_slot, seeks_slot, EndsSlots}
use Rattle.ctr_heap.specs.Finding.{EndsBucket}

one_int : (a b : ℤ) → Some a ≡ Some b → a ≡ b
one_int a b e = cc e

one_place : (a b : Place) → Some a ≡ Some b → a ≡ b
one_place a b e = cc e

-- a slot is the one of a key exactly where it has the key
sought_has : (key : ℤ) (slot : RowSlot) → slot_is (Key key) slot ≡ true → slot_key slot ≡ Some key
sought_has key slot is =
    let both = and_parts (slot.used == 1) (int_eq slot.key key) is in
    ap (λ b. cond b (Some slot.key) None) both.0 ∙ ap (λ k. Some k) ((Decides-int_eq slot.key key).0 both.1)

has_sought : (key : ℤ) (slot : RowSlot) → slot_key slot ≡ Some key → slot_is (Key key) slot ≡ true
has_sought key slot has = by (slot.used == 1) refl
  where
    by : (b : Bool) → (slot.used == 1) ≡ b → slot_is (Key key) slot ≡ true
    by true is = and_from (slot.used == 1) (int_eq slot.key key) is ((Decides-int_eq slot.key key).1 (one_int slot.key key (sym (ap (λ b. cond b (Some slot.key) None) is) ∙ has)))
    by false is = absurd (let e : None ≡ Some key = sym (ap (λ b. cond b (Some slot.key) None) is) ∙ has in cc)

not_sought : (kinds : List Kind) (key : ℤ) (page : List ℕ) (m : ℕ) → (key_on kinds m page ≡ Some key → ⊥) → seeks_slot (kinds_width kinds) (Key key) page m ≡ false
not_sought kinds key page m none = by (seeks_slot (kinds_width kinds) (Key key) page m) refl
  where
    by : (b : Bool) → seeks_slot (kinds_width kinds) (Key key) page m ≡ b → seeks_slot (kinds_width kinds) (Key key) page m ≡ false
    by true is = absurd (none (sought_has key (slot_at (kinds_width kinds) m page) is))
    by false is = is

-- one that is used isn't free
used_not_free : (slot : RowSlot) → is_some (slot_key slot) ≡ true → slot_is Free slot ≡ false
used_not_free slot used = by (slot.used == 1) refl
  where
    by : (b : Bool) → (slot.used == 1) ≡ b → slot_is Free slot ≡ false
    by true is = ap (λ u. u == 0) (eqb-true slot.used 1 is)
    by false is = absurd (false≢true (sym (ap (λ b. is_some (cond b (Some slot.key) None)) is) ∙ used))

first_has : (p q : ℕ) (qs : List ℕ) → q ≡ p → is_page_of p (q ∷ qs) ≡ true
first_has p q qs is = ap (λ b. cond b true (is_page_of p qs)) (eq-eqb q p is)

more_has : (r q : ℕ) (qs : List ℕ) → is_page_of r qs ≡ true → is_page_of r (q ∷ qs) ≡ true
more_has r q qs in_ = ⊎_elim (λ w. ap (λ b. cond b true (is_page_of r qs)) w.0) (λ w. ap (λ b. cond b true (is_page_of r qs)) w.0 ∙ in_) (eqb_tells q r)

module _ (pages : ℕ → List ℕ) (counted e bucket : ℕ) (kinds : List Kind) (sought : SlotSought) where
  abbrev s : ChainSought
  s = record { chain = Rows e bucket; counted = counted; ends = EndsSlots sought kinds counted }

  abbrev Runs : ℕ → List ℕ → Type 0
  Runs p ps = RunsAlong (RowPagePasses (record { chain = Rows e bucket; kinds = kinds; counted = counted })) pages p ps 0

  -- a slot of a page isn't sought
  abbrev Unsought : List ℕ → ℕ → Type 0
  Unsought page m = seeks_slot (kinds_width kinds) sought page m ≡ false

  -- all before a slot pass, and none is sought
  passed_by : (page : List ℕ) (n : ℕ) → n ≤ slots_of_kinds kinds → SlotsPass kinds counted (slots_of_kinds kinds) page → ((m : ℕ) → m < n → Unsought page m)
      → PassesBy (checks_slot kinds counted page) (seeks_slot (kinds_width kinds) sought page) 0 n
  passed_by page n most pass none m from lt = (pass m (omega (arith, lt, most)), none m lt)

  -- no slot of a chain is sought
  along_none : (ps : List ℕ) (n last p : ℕ) → length ps ≤ n → Runs p ps → ((q : ℕ) → is_page_of q ps ≡ true → (m : ℕ) → m < slots_of_kinds kinds → Unsought (pages q) m) → EndsAlong s pages n last p (Ok None)
  along_none [] n last p few runs none = at_end s pages n last p runs
  along_none (q ∷ qs) zero last p few runs none = absurd (omega (arith, few))
  along_none (q ∷ qs) (suc n) last p few runs none =
      inr (runs.1, inr (inr (inr (runs.2.0, passed_by (pages p) (slots_of_kinds kinds) (omega arith) runs.2.1 (none p (first_has p q qs runs.0))), along_none qs n p (header_in (pages p)).next (omega (arith, few)) runs.3 (λ r in_. none r (more_has r q qs in_)))))

module _ (pages : ℕ → List ℕ) (counted e bucket : ℕ) (kinds : List Kind) (key : ℤ) (found : Option Place) where
  abbrev Ends : ℕ → ℕ → ℕ → Option Place → Type 0
  Ends n last p o = EndsAlong (s pages counted e bucket kinds (Key key)) pages n last p (Ok o)

  abbrev RunsOn : ℕ → List ℕ → Type 0
  RunsOn = Runs pages counted e bucket kinds (Key key)

  abbrev Tells : List ℕ → Type 0
  Tells ps = TellsKey kinds pages ps key found

  tells_rest : (q : ℕ) (qs : List ℕ) → Tells (q ∷ qs) → Tells qs
  tells_rest q qs tells at in_ = tells at (more_has at.page q qs in_)

  -- all before a slot pass, and none has the key
  passed_without : (page : List ℕ) (n : ℕ) → n ≤ slots_of_kinds kinds → SlotsPass kinds counted (slots_of_kinds kinds) page → ((m : ℕ) → m < n → key_on kinds m page ≡ Some key → ⊥)
      → PassesBy (checks_slot kinds counted page) (seeks_slot (kinds_width kinds) (Key key) page) 0 n
  passed_without page n most pass none = passed_by pages counted e bucket kinds (Key key) page n most pass (λ m lt. not_sought kinds key page m (none m lt))

  -- no slot has the key
  no_key : found ≡ None → (ps : List ℕ) (n last p : ℕ) → length ps ≤ n → RunsOn p ps → Tells ps → Ends n last p None
  no_key none ps n last p few runs tells =
      along_none pages counted e bucket kinds (Key key) ps n last p few runs
      (λ q in_ m lt. not_sought kinds key (pages q) m (λ has. (let at : Place = record { page = q; slot = m } in let is : None ≡ Some at = sym none ∙ tells at in_ lt has in cc is)))

  -- one has it
  module _ (at : Place) (is : found ≡ Some at) (lt : at.slot < slots_of_kinds kinds) (has : key_on kinds at.slot (pages at.page) ≡ Some key) where
    -- no other has
    the_one : (p m : ℕ) (ps : List ℕ) → Tells ps → is_page_of p ps ≡ true → m < slots_of_kinds kinds → key_on kinds m (pages p) ≡ Some key → (at.page ≡ p) × (at.slot ≡ m)
    the_one p m ps tells in_ low key_is =
        let there : Place = record { page = p; slot = m } in
        let same : at ≡ there = one_place at there (sym is ∙ tells there in_ low key_is) in
        (ap (λ (x : Place). x.page) same, ap (λ (x : Place). x.slot) same)

    along_some : (ps : List ℕ) (n last p : ℕ) → length ps ≤ n → RunsOn p ps → Tells ps → is_page_of at.page ps ≡ true → Ends n last p (Some at)
    along_some [] n last p few runs tells in_ = absurd (false≢true in_)
    along_some (q ∷ qs) zero last p few runs tells in_ = absurd (omega (arith, few))
    along_some (q ∷ qs) (suc n) last p few runs tells in_ = ⊎_elim
        (λ w. here (sym runs.0 ∙ w.1))
        (λ w. beyond w.1 (along_some qs n p (header_in (pages p)).next (omega (arith, few)) runs.3 (tells_rest q qs tells) (sym (ap (λ b. cond b true (is_page_of at.page qs)) w.0) ∙ in_)))
        (eqb_tells q at.page)
      where
        first : is_page_of p (q ∷ qs) ≡ true
        first = first_has p q qs runs.0

        here : p ≡ at.page → Ends (suc n) last p (Some at)
        here same =
            let lower : (m : ℕ) → m < at.slot → key_on kinds m (pages p) ≡ Some key → ⊥ = λ m low key_is. (let one = the_one p m (q ∷ qs) tells first (omega (arith, low, lt)) key_is in omega (arith, low, one.1)) in
            let found_there = has_sought key (slot_at (kinds_width kinds) at.slot (pages p)) (ap (λ x. key_on kinds at.slot (pages x)) same ∙ has) in
            inr (
              runs.1,
              inl (
                at.slot,
                inr (runs.2.0, (omega arith, lt, passed_without (pages p) at.slot (omega (arith, lt)) runs.2.1 lower, runs.2.1 at.slot lt, found_there)),
                ap (λ x. Ok (Some (record { page = x; slot = at.slot }))) (sym same),
              ),
            )

        beyond : (q ≡ at.page → ⊥) → Ends n p (header_in (pages p)).next (Some at) → Ends (suc n) last p (Some at)
        beyond other rest =
            let isnt : (m : ℕ) → m < slots_of_kinds kinds → key_on kinds m (pages p) ≡ Some key → ⊥ = λ m low key_is. other (runs.0 ∙ sym (the_one p m (q ∷ qs) tells first low key_is).0) in
            inr (runs.1, inr (inr (inr (runs.2.0, passed_without (pages p) (slots_of_kinds kinds) (omega arith) runs.2.1 isnt), rest)))

-- the search along the chain ends with what is told
along : (pages : ℕ → List ℕ) (counted e bucket : ℕ) (kinds : List Kind) (key : ℤ) (ps : List ℕ) (p : ℕ) (found : Option Place) → length ps + 3 ≤ counted → RunsOn pages counted e bucket kinds key found p ps → Tells pages counted e bucket kinds key found ps
    → IsPlaceTold kinds pages ps key found → EndsAlong (s pages counted e bucket kinds (Key key)) pages (most_in_chain counted) 0 p (Ok found)
along pages counted e bucket kinds key ps p None few runs tells told = no_key pages counted e bucket kinds key None refl ps (most_in_chain counted) 0 p (omega (arith, few)) runs tells
along pages counted e bucket kinds key ps p (Some at) few runs tells told = along_some pages counted e bucket kinds key (Some at) at refl told.1 told.2 ps (most_in_chain counted) 0 p (omega (arith, few)) runs tells told.0

-- The search of a bucket ends as the one along its chain, where that is known.
chain_ends : (pages : ℕ → List ℕ) (counted e bucket : ℕ) (sought : SlotSought) (found : Option Place) → e < 32 → bucket < 8 → (k : KnowsChain counted pages e bucket)
    → EndsAlong (s pages counted e bucket k.kinds sought) pages (most_in_chain counted) 0 k.first (Ok found) → EndsBucket counted pages e bucket sought (Ok found)
chain_ends pages counted e bucket sought found few low k ends =
    let chain : Chain = Rows e bucket in
    let kinds : kinds_at (area_of pages) e ≡ k.kinds = ap (λ l. kinds_of (columns_in l)) (bytes_of_entry pages e few) ∙ k.said.kinds_are in
    let first : first_of_chain (area_of pages) chain ≡ k.first = first_here pages chain (few, low) ∙ first_used chain (pages (1 + e / 16)) (few, low) k.said.used ∙ k.said.first_is in
    inr (
      k.said.checked,
      subst (λ p. EndsAlong (chain_sought pages counted chain (EndsSlots sought)) pages (most_in_chain counted) 0 p (Ok found)) (sym first)
          (subst (λ ks. EndsAlong (record { chain = chain; counted = counted; ends = EndsSlots sought ks counted }) pages (most_in_chain counted) 0 k.first (Ok found)) (sym kinds) ends),
    )

-- The search of a bucket for a key ends where that is known.
pub known_ends : (pages : ℕ → List ℕ) (counted e bucket : ℕ) (key : ℤ) (found : Option Place) → e < 32 → bucket < 8 → Knows counted pages e bucket key found → EndsBucket counted pages e bucket (Key key) (Ok found)
known_ends pages counted e bucket key found few low k =
    let a = k.all in
    chain_ends pages counted e bucket (Key key) found few low a (along pages counted e bucket a.kinds key a.chain a.first found a.few a.runs k.tells k.told)

-- The search for a free slot ends without one where there is none.
pub full_ends : (pages : ℕ → List ℕ) (counted e bucket : ℕ) → e < 32 → bucket < 8 → KnowsFull counted pages e bucket → EndsBucket counted pages e bucket Free (Ok None)
full_ends pages counted e bucket few low k =
    let a = k.all in
    chain_ends pages counted e bucket Free None few low a
    (along_none pages counted e bucket a.kinds Free a.chain (most_in_chain counted) 0 a.first (omega (arith, a.few)) a.runs (λ q in_ m lt. used_not_free (slot_at (kinds_width a.kinds) m (pages q)) (k.full q in_ m lt)))
