-- From an entry on a pass comes by the slots of its table, in the order of its buckets.
use Rattle.std.proofs.Common.{◌≡◌, ℕ, zero, suc, ◌+◌, ◌-◌, ◌<◌, ◌≤◌, cond, List, [], ◌∷◌, ◌++◌, drop, length, Option, None, Some, refl, sym, ◌∙◌, ap, subst, arith}
use Rattle.std.specs.Prelude.{◌==◌, nat_lt, IfSome}
use Rattle.std.specs.List.{flat_map}
use Rattle.std.proofs.lemmas.Bool.{false≢true, eq-eqb, eqb-true, le-ltb, lt-ltb}
use Rattle.ctr_page.specs.declared.header.Header.{Header}
use Rattle.ctr_page.specs.declared.rows.Place.{Place}
use Rattle.ctr_area.specs.Areas.{Area}
use Rattle.ctr_area.specs.Chains.{pages_bound, pages_from, places_on, places_from, slot_places}
use Rattle.ctr_area.specs.Sound.{EndsIn, AreBuckets, IsOfRows}
use Rattle.ctr_versions.proofs.Keys.{known}
use Rattle.ctr_record_laws.proofs.Ends.{page_ends, behind_chain}
use Rattle.ctr_walk.specs.redo_States.{State}
use Rattle.ctr_actions.specs.Sites.{Site, site_of}
use Rattle.ctr_record_effects.specs.States.{area_in}
use Rattle.ctr_record_effects.specs.Standing.{IsDatabaseState}
use Rattle.ctr_cursor.specs.declared.position.Position.{Position}
use Rattle.ctr_cursor.specs.declared.position.Position.TheVariants.{Entry, Slot, Kept, Aborted}
use Rattle.ctr_cursor.specs.Pass.{first_on, at_or, aborted_from, behind_pages_of, kept_of, slots_from, buckets_from, next_position}
use Rattle.ctr_cursor.specs.Standing.{IsPosition}
use Rattle.ctr_cursor.proofs.Passing.{tail_of, drop_more}
use Rattle.ctr_totals.specs.Along.{GoesAlong}

-- from a position on a pass comes by these slots, and then it is here
abbrev pub GoesTo : Site → ℕ → Option Position → List Place → Option Position → Type 0
GoesTo s e x [] y = x ≡ y
GoesTo s e x (p ∷ ps) y = (b : ℕ) × (x ≡ Some (Slot e b p)) × GoesTo s e (next_position s (Slot e b p)) ps y

goes_on : (s : Site) (e : ℕ) (x y z : Option Position) (ps qs : List Place) → GoesTo s e x ps y → GoesTo s e y qs z → GoesTo s e x (ps ++ qs) z
goes_on s e x y z [] qs one two = subst (λ w. GoesTo s e w qs z) (sym one) two
goes_on s e x y z (p ∷ ps) qs one two = (one.0, one.1, goes_on s e (next_position s (Slot e one.0 p)) y z ps qs one.2 two)

-- ---- behind the buckets comes no slot

no_slot : (s : Site) (e f b : ℕ) (at : Place) → kept_of e s ≡ Some (Slot f b at) → ⊥
no_slot s e f b at is = by_first (first_on (s.area.firsts e).versions) is
  where
    by_aborted : (n : ℕ) → aborted_from n s.tables ≡ Some (Slot f b at) → ⊥
    by_aborted n same = known (nat_lt n (length s.tables.aborted))
        (λ some. let e = sym (ap (λ c. cond c (Some (Aborted n)) None) some) ∙ same in absurd cc)
        (λ none. let e = sym (ap (λ c. cond c (Some (Aborted n)) None) none) ∙ same in absurd cc)

    by_entry : behind_pages_of e s.tables ≡ Some (Slot f b at) → ⊥
    by_entry same = known (nat_lt (e + 1) 32)
        (λ some. let k = sym (ap (λ c. cond c (Some (Entry (e + 1))) (aborted_from 0 s.tables)) some) ∙ same in absurd cc)
        (λ none. by_aborted 0 (sym (ap (λ c. cond c (Some (Entry (e + 1))) (aborted_from 0 s.tables)) none) ∙ same))

    by_first : (o : Option Place) → at_or (λ q. Kept e q) (behind_pages_of e s.tables) o ≡ Some (Slot f b at) → ⊥
    by_first None same = by_entry same
    by_first (Some q) same = absurd cc

pub goes_along : (s : Site) (e : ℕ) (x : Option Position) (ps : List Place) → GoesTo s e x ps (kept_of e s) → GoesAlong s e x ps
goes_along s e x [] goes = λ f b at is. no_slot s e f b at (sym goes ∙ is)
goes_along s e x (p ∷ ps) goes = (goes.0, goes.1, goes_along s e (next_position s (Slot e goes.0 p)) ps goes.2)

module _ (s : State)
    (leads : (x y : Position) → IsPosition x (site_of s) → next_position (site_of s) x ≡ Some y → IsPosition y (site_of s))
  where
    abbrev area : Area
    area = area_in s

    abbrev site : Site
    site = site_of s

    -- what is next is a position
    abbrev IsIf : Option Position → Type 0
    IsIf x = IfSome x (λ y. IsPosition y site)

    led : (x : Position) (o : Option Position) → IsPosition x site → next_position site x ≡ o → IsIf o
    led x None its is = tt
    led x (Some y) its is = leads x y its is

    module _ (e b : ℕ) where
      abbrev behind : Option Position
      behind = buckets_from e (b + 1) site

      abbrev from : ℕ → Option Position
      from p = at_or (λ q. Slot e b q) behind (first_on p)

      abbrev at : ℕ → ℕ → Position
      at p k = Slot e b (record { page = p; slot = k })

      further : (p k : ℕ) → k + 1 < area.room p → next_position site (at p k) ≡ Some (at p (k + 1))
      further p k lt = ap (λ c. at_or (λ q. Slot e b q) behind (cond c (Some (record { page = p; slot = k + 1 })) (first_on (area.header p).next))) (lt-ltb (k + 1) (area.room p) lt)

      off : (p k : ℕ) → area.room p ≤ k + 1 → next_position site (at p k) ≡ from (area.header p).next
      off p k le = ap (λ c. at_or (λ q. Slot e b q) behind (cond c (Some (record { page = p; slot = k + 1 })) (first_on (area.header p).next))) (le-ltb (k + 1) (area.room p) le)

      -- along a page from a slot on, and so many behind it
      page_goes : (p k n : ℕ) → area.room p - (k + 1) ≡ n → k < area.room p → IsPosition (at p k) site
          → GoesTo site e (Some (at p k)) (places_on p k (suc n)) (from (area.header p).next) × IsIf (from (area.header p).next)
      page_goes p k zero left lt its =
          let last = off p k (omega (arith, left)) in
          ((b, refl, last), led (at p k) (from (area.header p).next) its last)
      page_goes p k (suc n) left lt its =
          let next = further p k (omega (arith, left)) in
          let rest = page_goes p (k + 1) n (omega (arith, left)) (omega (arith, left)) (leads (at p k) (at p (k + 1)) its next) in
          ((b, refl, subst (λ x. GoesTo site e x (places_on p (k + 1) (suc n)) (from (area.header p).next)) (sym next) rest.0), rest.1)

      on_page : ℕ → List Place
      on_page q = places_on q 0 (area.room q)

      -- the chain from a page on: these are its pages
      chain_goes : (Is : Header → Type 0) (ps : List ℕ) (p : ℕ) → EndsIn pages_bound area.header Is p → pages_from pages_bound area.header p ≡ ps → IsIf (from p)
          → GoesTo site e (from p) (flat_map (λ q. places_on q 0 (area.room q)) ps) behind × IsIf behind
      chain_goes Is [] p ends is its = known (p == 0)
          (λ none. let over = ap (λ c. at_or (λ q. Slot e b q) behind (cond c None (Some (record { page = p; slot = 0 })))) none in (over, subst IsIf over its))
          (λ isnt. let front = behind_chain area.header p (area.header p).next (λ z. false≢true (sym isnt ∙ eq-eqb p 0 z)) refl Is ends in
          let w = sym is ∙ front.0 in absurd cc)
      chain_goes Is (r ∷ rs) p ends is its = known (p == 0)
          (λ none. let w = sym is ∙ page_ends area.header pages_bound p (eqb-true p 0 none) in absurd cc)
          (λ isnt. let front = behind_chain area.header p (area.header p).next (λ z. false≢true (sym isnt ∙ eq-eqb p 0 z)) refl Is ends in
          let both = sym is ∙ front.0 in
          let same : r ≡ p = cc in
          let others : pages_from pages_bound area.header (area.header p).next ≡ rs = cc in
          let starts : from p ≡ Some (at p 0) = ap (λ c. at_or (λ q. Slot e b q) behind (cond c None (Some (record { page = p; slot = 0 })))) isnt in
          let here : IsPosition (at p 0) site = subst IsIf starts its in
          let room = here.1.1 in
          let n = area.room p - 1 in
          let all : suc n ≡ area.room p = omega (arith, room) in
          let page = page_goes p 0 n (omega arith) room here in
          let rest = chain_goes Is rs (area.header p).next front.1 others page.1 in
          let first = subst (λ m. GoesTo site e (Some (at p 0)) (places_on p 0 m) (from (area.header p).next)) all page.0 in (
            subst (λ q. GoesTo site e (from p) (places_on q 0 (area.room q) ++ flat_map (λ t. places_on t 0 (area.room t)) rs) behind) (sym same)
                (goes_on site e (from p) (from (area.header p).next) behind (places_on p 0 (area.room p)) (flat_map (λ t. places_on t 0 (area.room t)) rs)
                (subst (λ x. GoesTo site e x (places_on p 0 (area.room p)) (from (area.header p).next)) (sym starts) first) rest.0),
            rest.1,
          ))

    buckets_go : (e b : ℕ) (ps : List ℕ) → ps ≡ drop b (area.firsts e).buckets → AreBuckets area e b ps → IsIf (slots_from e b ps site)
        → GoesTo site e (slots_from e b ps site) (flat_map (places_from area) ps) (kept_of e site)
    buckets_go e b [] are buckets its = refl
    buckets_go e b (p ∷ ps) are buckets its =
        let after : ps ≡ drop (b + 1) (area.firsts e).buckets = sym (drop_more b (area.firsts e).buckets ∙ ap tail_of (sym are)) in
        let same : slots_from e b (p ∷ ps) site ≡ from e b p = ap (λ qs. at_or (λ q. Slot e b q) (slots_from e (b + 1) qs site) (first_on p)) after in
        let here = chain_goes e b (IsOfRows e b) (pages_from pages_bound area.header p) p buckets.0 refl (subst IsIf same its) in
        let back = ap (λ qs. slots_from e (b + 1) qs site) after in
        let rest = buckets_go e (b + 1) ps after buckets.1 (subst IsIf (sym back) here.1) in
        goes_on site e (slots_from e b (p ∷ ps) site) (slots_from e (b + 1) ps site) (kept_of e site) (places_from area p) (flat_map (places_from area) ps)
        (subst (λ x. GoesTo site e x (places_from area p) (slots_from e (b + 1) ps site)) (sym same) (subst (λ y. GoesTo site e (from e b p) (places_from area p) y) (sym back) here.0)) rest

    -- from its entry on
    pub entry_goes : (e : ℕ) → IsDatabaseState s → e < 32 → GoesAlong site e (next_position site (Entry e)) (slot_places area e)
    entry_goes e database lt = goes_along site e (next_position site (Entry e)) (slot_places area e)
        (buckets_go e 0 (area.firsts e).buckets refl (database.sound.readable.rows e) (led (Entry e) (next_position site (Entry e)) lt refl))
