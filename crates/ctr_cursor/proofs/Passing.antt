-- A pass goes along each chain to its end, and so over everything.
use Rattle.std.proofs.Common.{◌≡◌, true, false, ⊎_elim, inl, inr, ℕ, zero, suc, ◌+◌, ◌-◌, ◌<◌, ◌≤◌, cond, List, [], ◌∷◌, ◌++◌, drop, length, Option, None, Some, refl, sym, ◌∙◌, ap, subst, arith}
use Rattle.std.specs.Prelude.{◌==◌, nat_lt}
use Rattle.std.specs.List.{flat_map}
use Rattle.std.proofs.lemmas.Bool.{false≢true, eq-eqb, eqb-true, cases_lt, le-ltb, lt-ltb}
use Rattle.ctr_page.specs.declared.header.Header.{Header}
use Rattle.ctr_page.specs.declared.rows.Place.{Place}
use Rattle.ctr_area.specs.Chains.{pages_bound, pages_from, places_on, places_from, slot_places, older_places}
use Rattle.ctr_area.specs.Sound.{IsAmong, EndsIn, AreBuckets, IsOfRows, IsOfVersions, AreReadable}
use Rattle.ctr_area.proofs.ctr_versions.Keys.{known}
use Rattle.ctr_record_laws.proofs.Ends.{page_ends, behind_chain}
use Rattle.ctr_record_laws.proofs.Members.{among_front, among_rest, among_parts}
use Rattle.ctr_actions.specs.Sites.{Site}
use Rattle.ctr_cursor.specs.declared.position.Position.{Position}
use Rattle.ctr_cursor.specs.declared.position.Position.TheVariants.{Entry, Slot, Kept, Aborted}
use Rattle.ctr_cursor.specs.Pass.{first_on, place_behind, at_or, aborted_from, behind_pages_of, kept_of, slots_from, buckets_from, next_position, start, GoesBy, IsWholePass, HoldsEverywhere}

-- ---- one stretch behind another

pub goes_on : (s : Site) (x y z : Option Position) (ps qs : List Position) → GoesBy s x ps y → GoesBy s y qs z → GoesBy s x (ps ++ qs) z
goes_on s x y z [] qs one two = subst (λ w. GoesBy s w qs z) (sym one) two
goes_on s x y z (p ∷ ps) qs one two = (one.0, goes_on s (next_position s p) y z ps qs one.1 two)

-- where a pass goes is determined
pub one_way : (s : Site) (x : Option Position) (ps qs : List Position) → GoesBy s x ps None → GoesBy s x qs None → ps ≡ qs
one_way s x [] [] one two = refl
one_way s x [] (q ∷ qs) one two = let e = sym one ∙ two.0 in absurd cc
one_way s x (p ∷ ps) [] one two = let e = sym two ∙ one.0 in absurd cc
one_way s x (p ∷ ps) (q ∷ qs) one two =
    let some = sym one.0 ∙ two.0 in
    let same : p ≡ q = cc in
    (λ i. same i ∷ one_way s (next_position s q) ps qs (subst (λ r. GoesBy s (next_position s r) ps None) same one.1) two.1 i)

-- ---- a chain of pages

-- of slots of a bucket, or of version entries: how its positions are made, and what comes behind its last page
module _ (s : Site) (make : Place → Position) (behind : Option Position)
    (step : (at : Place) → next_position s (make at) ≡ at_or make behind (place_behind s.area at))
  where
    abbrev from : ℕ → Option Position
    from p = at_or make behind (first_on p)

    -- where there is a page, and where there is none
    starts : (p : ℕ) → (p == 0) ≡ false → from p ≡ Some (make (record { page = p; slot = 0 }))
    starts p is = ap (λ b. at_or make behind (cond b None (Some (record { page = p; slot = 0 })))) is

    is_over : (p : ℕ) → (p == 0) ≡ true → from p ≡ behind
    is_over p is = ap (λ b. at_or make behind (cond b None (Some (record { page = p; slot = 0 })))) is

    -- the positions of a page from a slot on, and so many behind it
    abbrev on : ℕ → ℕ → ℕ → List Position
    on p k zero = make (record { page = p; slot = k }) ∷ []
    on p k (suc n) = make (record { page = p; slot = k }) ∷ on p (k + 1) n

    page_goes : (p k n : ℕ) → s.area.room p - (k + 1) ≡ n → GoesBy s (Some (make (record { page = p; slot = k }))) (on p k n) (from (s.area.header p).next)
    page_goes p k zero left = (refl, step (record { page = p; slot = k }) ∙ ap (λ b. at_or make behind (cond b (Some (record { page = p; slot = k + 1 })) (first_on (s.area.header p).next))) (le-ltb (k + 1) (s.area.room p) (omega arith)))
    page_goes p k (suc n) left = (
      refl,
      subst (λ x. GoesBy s x (on p (k + 1) n) (from (s.area.header p).next))
          (sym (step (record { page = p; slot = k }) ∙ ap (λ b. at_or make behind (cond b (Some (record { page = p; slot = k + 1 })) (first_on (s.area.header p).next))) (lt-ltb (k + 1) (s.area.room p) (omega arith))))
          (page_goes p (k + 1) n (omega arith)),
    )

    page_sees : (p k n m : ℕ) → m ≤ n + 1 → (at : Place) → IsAmong at (places_on p k m) → IsAmong (make at) (on p k n)
    page_sees p k n zero few at in_ = absurd in_
    page_sees p k zero (suc m) few at in_ = ⊎_elim (λ is. inl (ap make is)) (λ there. absurd (none m (omega arith) there)) in_
      where
        none : (j : ℕ) → j ≡ 0 → IsAmong at (places_on p (k + 1) j) → ⊥
        none zero is there = there
        none (suc j) is there = absurd (omega arith)
    page_sees p k (suc n) (suc m) few at in_ = ⊎_elim (λ is. inl (ap make is)) (λ there. inr (page_sees p (k + 1) n m (omega arith) at there)) in_

    -- the chain from a page on: these are its pages
    pub chain_goes : (Is : Header → Type 0) (ps : List ℕ) (p : ℕ) → EndsIn pages_bound s.area.header Is p → pages_from pages_bound s.area.header p ≡ ps
        → (qs : List Position) × GoesBy s (from p) qs behind × ((at : Place) → IsAmong at (flat_map (λ q. places_on q 0 (s.area.room q)) ps) → IsAmong (make at) qs)
    chain_goes Is [] p ends is = known (p == 0)
        (λ none. ([], is_over p none, λ at in_. absurd in_))
        (λ isnt. let front = behind_chain s.area.header p (s.area.header p).next (λ z. false≢true (sym isnt ∙ eq-eqb p 0 z)) refl Is ends in
        let e = sym is ∙ front.0 in absurd cc)
    chain_goes Is (r ∷ rs) p ends is = known (p == 0)
        (λ none. let e = sym is ∙ page_ends s.area.header pages_bound p (eqb-true p 0 none) in absurd cc)
        (λ isnt. let front = behind_chain s.area.header p (s.area.header p).next (λ z. false≢true (sym isnt ∙ eq-eqb p 0 z)) refl Is ends in
        let both = sym is ∙ front.0 in
        let same : r ≡ p = cc in
        let others : pages_from pages_bound s.area.header (s.area.header p).next ≡ rs = cc in
        let rest = chain_goes Is rs (s.area.header p).next front.1 others in
        let here = on p 0 (s.area.room p - 1) in (
          here ++ rest.0,
          subst (λ x. GoesBy s x (here ++ rest.0) behind) (sym (starts p isnt))
              (goes_on s (Some (make (record { page = p; slot = 0 }))) (from (s.area.header p).next) behind here rest.0 (page_goes p 0 (s.area.room p - 1) refl) rest.1),
          λ at in_. ⊎_elim
              (λ one. among_front (make at) here rest.0 (page_sees p 0 (s.area.room p - 1) (s.area.room p) (omega arith) at (subst (λ q. IsAmong at (places_on q 0 (s.area.room q))) same one)))
              (λ other. among_rest (make at) here rest.0 (rest.2 at other))
              (among_parts at (places_on r 0 (s.area.room r)) (flat_map (λ q. places_on q 0 (s.area.room q)) rs) in_),
        ))

-- ---- an entry

abbrev pub tail_of : List ℕ → List ℕ
tail_of [] = []
tail_of (p ∷ ps) = ps

pub drop_more : (b : ℕ) (ps : List ℕ) → drop (b + 1) ps ≡ tail_of (drop b ps)
drop_more zero [] = refl
drop_more (suc b) [] = ap (λ n. drop n []) (more b)
  where
    more : (n : ℕ) → suc n + 1 ≡ suc (n + 1)
    more n = omega arith
drop_more zero (p ∷ ps) = refl
drop_more (suc b) (p ∷ ps) = ap (λ n. drop n (p ∷ ps)) (more b) ∙ drop_more b ps
  where
    more : (n : ℕ) → suc n + 1 ≡ suc (n + 1)
    more n = omega arith

module _ (s : Site) (readable : AreReadable s.area) where
  buckets_go : (e b : ℕ) (ps : List ℕ) → ps ≡ drop b (s.area.firsts e).buckets → AreBuckets s.area e b ps
      → (qs : List Position) × GoesBy s (slots_from e b ps s) qs (kept_of e s)
      × ((at : Place) → IsAmong at (flat_map (places_from s.area) ps) → (k : ℕ) × IsAmong (Slot e k at) qs)
  buckets_go e b [] are buckets = ([], refl, λ at in_. absurd in_)
  buckets_go e b (p ∷ ps) are buckets =
      let after : ps ≡ drop (b + 1) (s.area.firsts e).buckets = sym (drop_more b (s.area.firsts e).buckets ∙ ap tail_of (sym are)) in
      let rest = buckets_go e (b + 1) ps after buckets.1 in
      let here = chain_goes s (λ at. Slot e b at) (slots_from e (b + 1) ps s)
      (λ at. ap (λ qs. at_or (λ q. Slot e b q) (slots_from e (b + 1) qs s) (place_behind s.area at)) (sym after))
      (IsOfRows e b) (pages_from pages_bound s.area.header p) p buckets.0 refl in (
        here.0 ++ rest.0,
        goes_on s (slots_from e b (p ∷ ps) s) (slots_from e (b + 1) ps s) (kept_of e s) here.0 rest.0 here.1 rest.1,
        λ at in_. ⊎_elim
            (λ one. (b, among_front (Slot e b at) here.0 rest.0 (here.2 at one)))
            (λ other. let found = rest.2 at other in (found.0, among_rest (Slot e found.0 at) here.0 rest.0 found.1))
            (among_parts at (places_from s.area p) (flat_map (places_from s.area) ps) in_),
      )

  -- it comes by all of an entry
  pub record HasEntry (e : ℕ) (qs : List Position) : Type 0 where
    pub entry : IsAmong (Entry e) qs
    pub slots : (at : Place) → IsAmong at (slot_places s.area e) → (k : ℕ) × IsAmong (Slot e k at) qs
    pub kept : (at : Place) → IsAmong at (older_places s.area e) → IsAmong (Kept e at) qs

  entry_goes : (e : ℕ) → (qs : List Position) × GoesBy s (Some (Entry e)) qs (behind_pages_of e s.tables) × HasEntry e qs
  entry_goes e =
      let rows = buckets_go e 0 (s.area.firsts e).buckets refl (readable.rows e) in
      let older = chain_goes s (λ at. Kept e at) (behind_pages_of e s.tables) (λ at. refl) (IsOfVersions e) (pages_from pages_bound s.area.header (s.area.firsts e).versions) (s.area.firsts e).versions (readable.versions e) refl in (
        Entry e ∷ (rows.0 ++ older.0),
        (refl, goes_on s (buckets_from e 0 s) (kept_of e s) (behind_pages_of e s.tables) rows.0 older.0 rows.1 older.1),
        record {
          entry = inl refl;
          slots = λ at in_. let found = rows.2 at in_ in (found.0, inr (among_front (Slot e found.0 at) rows.0 older.0 found.1));
          kept = λ at in_. inr (among_rest (Kept e at) rows.0 older.0 (older.2 at in_));
        },
      )

  -- ---- all entries, and the aborted transactions

  has_front : (e : ℕ) (ps qs : List Position) → HasEntry e ps → HasEntry e (ps ++ qs)
  has_front e ps qs has = record {
    entry = among_front (Entry e) ps qs has.entry;
    slots = λ at in_. let found = has.slots at in_ in (found.0, among_front (Slot e found.0 at) ps qs found.1);
    kept = λ at in_. among_front (Kept e at) ps qs (has.kept at in_);
  }

  has_rest : (e : ℕ) (ps qs : List Position) → HasEntry e qs → HasEntry e (ps ++ qs)
  has_rest e ps qs has = record {
    entry = among_rest (Entry e) ps qs has.entry;
    slots = λ at in_. let found = has.slots at in_ in (found.0, among_rest (Slot e found.0 at) ps qs found.1);
    kept = λ at in_. among_rest (Kept e at) ps qs (has.kept at in_);
  }

  entries_go : (n e : ℕ) → e + n ≡ 32 → (qs : List Position) × GoesBy s (cond (nat_lt e 32) (Some (Entry e)) (aborted_from 0 s.tables)) qs (aborted_from 0 s.tables)
      × ((f : ℕ) → e ≤ f → f < 32 → HasEntry f qs)
  entries_go zero e all = ([], ap (λ b. cond b (Some (Entry e)) (aborted_from 0 s.tables)) (le-ltb e 32 (omega arith)), λ f from_ lt. absurd (omega arith))
  entries_go (suc n) e all =
      let here = entry_goes e in
      let rest = entries_go n (e + 1) (omega arith) in (
        here.0 ++ rest.0,
        subst (λ x. GoesBy s x (here.0 ++ rest.0) (aborted_from 0 s.tables)) (sym (ap (λ b. cond b (Some (Entry e)) (aborted_from 0 s.tables)) (lt-ltb e 32 (omega arith))))
            (goes_on s (Some (Entry e)) (behind_pages_of e s.tables) (aborted_from 0 s.tables) here.0 rest.0 here.1 rest.1),
        λ f from_ lt. ⊎_elim
            (λ before. has_front f here.0 rest.0 (subst (λ g. HasEntry g here.0) (omega arith) here.2))
            (λ later. has_rest f here.0 rest.0 (rest.2 f later lt))
            (cases_lt f (e + 1)),
      )

  aborted_go : (m n : ℕ) → length s.tables.aborted - n ≡ m → (qs : List Position) × GoesBy s (aborted_from n s.tables) qs None
      × ((k : ℕ) → n ≤ k → k < length s.tables.aborted → IsAmong (Aborted k) qs)
  aborted_go zero n left = ([], ap (λ b. cond b (Some (Aborted n)) None) (le-ltb n (length s.tables.aborted) (omega arith)), λ k from_ lt. absurd (omega arith))
  aborted_go (suc m) n left =
      let rest = aborted_go m (n + 1) (omega arith) in (
        Aborted n ∷ rest.0,
        (ap (λ b. cond b (Some (Aborted n)) None) (lt-ltb n (length s.tables.aborted) (omega arith)), rest.1),
        λ k from_ lt. ⊎_elim
            (λ before. inl (ap (λ j. Aborted j) (let e : k ≡ n = omega arith in e)))
            (λ later. inr (rest.2 k later lt))
            (cases_lt k (n + 1)),
      )

  -- ---- a whole pass

  pub whole : (qs : List Position) × IsWholePass s qs × HoldsEverywhere (λ x. IsAmong x qs) s
  whole =
      let entries = entries_go 32 0 refl in
      let rest = aborted_go (length s.tables.aborted - 0) 0 refl in
      let all : (e : ℕ) → e < 32 → HasEntry e (entries.0 ++ rest.0) = λ e lt. has_front e entries.0 rest.0 (entries.2 e (omega arith) lt) in (
        entries.0 ++ rest.0,
        goes_on s (Some start) (aborted_from 0 s.tables) None entries.0 rest.0 entries.1 rest.1,
        record {
          entries = λ e lt. (all e lt).entry;
          slots = λ e at lt in_. (all e lt).slots at in_;
          kept = λ e at lt in_. (all e lt).kept at in_;
          aborted = λ n lt. among_rest (Aborted n) entries.0 rest.0 (rest.2 n (omega arith) lt);
        },
      )

  pub passes_all : (qs : List Position) → IsWholePass s qs → HoldsEverywhere (λ x. IsAmong x qs) s
  passes_all qs goes = subst (λ rs. HoldsEverywhere (λ x. IsAmong x rs) s) (one_way s (Some start) whole.0 qs whole.1 goes) whole.2

-- what is handed on holds at each position that a pass goes by
pub handed_on : (s : Site) (Holds : Position → Type 0) → ((x y : Position) → Holds x → next_position s x ≡ Some y → Holds y)
    → (ps : List Position) (x : Position) (z : Option Position) → Holds x → GoesBy s (Some x) ps z → (p : Position) → IsAmong p ps → Holds p
handed_on s Holds hands [] x z here goes p in_ = absurd in_
handed_on s Holds hands (q ∷ []) x z here goes p in_ = let same : x ≡ q = let e = goes.0 in cc in ⊎_elim (λ is. subst Holds (same ∙ sym is) here) (λ no. absurd no) in_
handed_on s Holds hands (q ∷ (r ∷ rs)) x z here goes p in_ =
    let same : x ≡ q = let e = goes.0 in cc in
    let there = subst Holds same here in
    ⊎_elim (λ is. subst Holds (sym is) there)
    (λ more. handed_on s Holds hands (r ∷ rs) r z (hands q r there goes.1.0) (refl, goes.1.1) p more) in_

-- so it holds everywhere
pub holds_all : (s : Site) (Holds : Position → Type 0) → AreReadable s.area → Holds start → ((x y : Position) → Holds x → next_position s x ≡ Some y → Holds y) → HoldsEverywhere Holds s
holds_all s Holds readable here hands =
    let all = whole s readable in
    let each = handed_on s Holds hands all.0 start None here all.1 in
    record {
      entries = λ e lt. each (Entry e) (all.2.entries e lt);
      slots = λ e at lt in_. let found = all.2.slots e at lt in_ in (found.0, each (Slot e found.0 at) found.1);
      kept = λ e at lt in_. each (Kept e at) (all.2.kept e at lt in_);
      aborted = λ n lt. each (Aborted n) (all.2.aborted n lt);
    }
