-- Where each page has one owner, each place stands once among the slots of all tables.
use Rattle.std.proofs.Common.{◌≡◌, ⊎_elim, inl, inr, ℕ, ◌+◌, ◌<◌, ◌≤◌, zero, suc, true, false, cond, List, [], ◌∷◌, ◌++◌, refl, sym, ◌∙◌, ap, subst, arith}
use Rattle.std.proofs.lemmas.Bool.{false≢true, eq-eqb, eqb-true, cases_lt}
use Rattle.std.proofs.lemmas.List.Concat.{flat_map-append}
use Rattle.std.specs.List.{flat_map}
use Rattle.std.specs.Prelude.{◌==◌}
use Rattle.ctr_area.proofs.Buckets.{each_of, on_chain}
use Rattle.ctr_area.specs.Areas.{Firsts, no_pages, Area}
use Rattle.ctr_area.specs.Chains.{pages_bound, pages_from, places_on, places_from, slot_places, table_pages}
use Rattle.ctr_area.specs.Images.{numbers, entry_numbers}
use Rattle.ctr_area.specs.Sound.{IsAmong, how_many, page_of_item, owned_pages, AreOwned}
use Rattle.ctr_record_laws.proofs.Members.{among_front, among_rest, among_parts, among_flat, on_page, StandsOnce, once_apart, once_rest, once_front, once_behind, count_append, count_among, once_counted}
use Rattle.ctr_record_laws.specs.Bounds.{IsInBounds}
use Rattle.ctr_area.specs.ctr_page.declared.rows.Place.{Place}
use Rattle.ctr_area.specs.rec_SlogItem.{SlogItem}
use Rattle.ctr_area.proofs.ctr_versions.Keys.{known}

-- the slots of all tables
abbrev pub all_slots : Area → List Place
all_slots area = flat_map (slot_places area) entry_numbers

flat_twice : {A B C : Type 0} (f : B → List C) (g : A → List B) (xs : List A) → flat_map (λ x. flat_map f (g x)) xs ≡ flat_map f (flat_map g xs)
flat_twice f g [] = refl
flat_twice f g (x ∷ xs) = ap (λ ys. flat_map f (g x) ++ ys) (flat_twice f g xs) ∙ sym (flat_map-append f (g x) (flat_map g xs))

-- a place of a page stands once on it
once_on : (q k n : ℕ) (at : Place) → IsAmong at (places_on q k n) → StandsOnce at (places_on q k n)
once_on q k zero at in_ = in_
once_on q k (suc n) at (inl is) = inl (is, λ more. past q (k + 1) n at more (subst (λ (a : Place). a.slot < k + 1) (sym is) (omega arith)))
  where
    past : (q k n : ℕ) (at : Place) → IsAmong at (places_on q k n) → at.slot < k → ⊥
    past q k zero at in_ lt = in_
    past q k (suc n) at (inl is) lt = omega (arith, lt, ap (λ (a : Place). a.slot) is)
    past q k (suc n) at (inr in_) lt = past q (k + 1) n at in_ (omega (arith, lt))
once_on q k (suc n) at (inr in_) = known (at.slot == k)
    (λ is. absurd (past q (k + 1) n at in_ (low at.slot k (eqb-true at.slot k is))))
    (λ isnt. inr ((λ same_. false≢true (sym isnt ∙ eq-eqb at.slot k (ap (λ (a : Place). a.slot) same_))), once_on q (k + 1) n at in_))
  where
    low : (a k : ℕ) → a ≡ k → a < k + 1
    low a k is = omega (arith, is)

    past : (q k n : ℕ) (at : Place) → IsAmong at (places_on q k n) → at.slot < k → ⊥
    past q k zero at in_ lt = in_
    past q k (suc n) at (inl is) lt = omega (arith, lt, ap (λ (a : Place). a.slot) is)
    past q k (suc n) at (inr in_) lt = past q (k + 1) n at in_ (omega (arith, lt))

module _ (area : Area) (at : Place) where
  abbrev on : ℕ → List Place
  on q = places_on q 0 (area.room q)

  abbrev rows_pages : ℕ → List ℕ
  rows_pages e = flat_map (pages_from pages_bound area.header) (area.firsts e).buckets

  once_pages : (ps : List ℕ) → StandsOnce at.page ps → IsAmong at (on at.page) → StandsOnce at (flat_map on ps)
  once_pages [] once in_ = once
  once_pages (p ∷ ps) (inl here) in_ = once_front at (on p) (flat_map on ps) (subst (λ q. StandsOnce at (on q)) here.0 (once_on at.page 0 (area.room at.page) at in_))
      (λ more. let found = among_flat on at ps more in here.1 (subst (λ q. IsAmong q ps) (sym (on_page found.0 0 (area.room found.0) at found.2)) found.1))
  once_pages (p ∷ ps) (inr later) in_ = once_behind at (on p) (flat_map on ps) (λ here. later.0 (on_page p 0 (area.room p) at here)) (once_pages ps later.1 in_)

  all_pages : (es : List ℕ) → flat_map (slot_places area) es ≡ flat_map on (flat_map rows_pages es)
  all_pages es = each es ∙ flat_twice on rows_pages es
    where
      each : (es : List ℕ) → flat_map (slot_places area) es ≡ flat_map (λ e. flat_map on (rows_pages e)) es
      each [] = refl
      each (e ∷ es) = λ i. flat_twice on (pages_from pages_bound area.header) (area.firsts e).buckets i ++ each es i

  fewer_rows : (es : List ℕ) → how_many (λ q. q == at.page) (flat_map rows_pages es) ≤ how_many (λ q. q == at.page) (flat_map (table_pages area) es)
  fewer_rows [] = omega arith
  fewer_rows (e ∷ es) =
      let versions = pages_from pages_bound area.header (area.firsts e).versions in
      let n : List ℕ → ℕ = λ ps. how_many (λ q. q == at.page) ps in
      sums (n (rows_pages e)) (n (flat_map rows_pages es)) (n (table_pages area e)) (n (flat_map (table_pages area) es)) (n versions) (count_append (λ q. q == at.page) (rows_pages e) (flat_map rows_pages es)) (count_append (λ q. q == at.page) (table_pages area e) (flat_map (table_pages area) es)) (count_append (λ q. q == at.page) (rows_pages e) versions) (fewer_rows es)
    where
      sums : {a d : ℕ} (b c e f g : ℕ) → a ≡ b + c → d ≡ e + f → e ≡ b + g → c ≤ f → a ≤ d
      sums b c e f g one two three le = omega (arith, one, two, three, le)

  -- the page comes at most once in all chains and items
  pub place_once : (others : List ℕ) → how_many (λ q. q == at.page) (flat_map (table_pages area) entry_numbers ++ others) ≤ 1 → IsAmong at (all_slots area) → StandsOnce at (all_slots area)
  place_once others most in_ =
      let found = among_flat on at (flat_map rows_pages entry_numbers) (subst (IsAmong at) (all_pages entry_numbers) in_) in
      let page : found.0 ≡ at.page = sym (on_page found.0 0 (area.room found.0) at found.2) in
      let there : IsAmong at.page (flat_map rows_pages entry_numbers) = subst (λ q. IsAmong q (flat_map rows_pages entry_numbers)) page found.1 in
      subst (StandsOnce at) (sym (all_pages entry_numbers))
      (once_pages (flat_map rows_pages entry_numbers) (once_counted at.page (flat_map rows_pages entry_numbers)
      (one (how_many (λ q. q == at.page) others) (count_among at.page (flat_map rows_pages entry_numbers) there) (fewer_rows entry_numbers) (count_append (λ q. q == at.page) (flat_map (table_pages area) entry_numbers) others) most)) (subst (λ q. IsAmong at (on q)) page found.2))
    where
      one : {a b c : ℕ} (d : ℕ) → 1 ≤ a → a ≤ b → c ≡ b + d → c ≤ 1 → a ≡ 1
      one d x y z w = omega (arith, x, y, z, w)

-- ---- a place is in one table

pub among_numbered : {A : Type 0} (f : ℕ → List A) (x : A) (e k n : ℕ) → k ≤ e → e < k + n → IsAmong x (f e) → IsAmong x (flat_map f (numbers k n))
among_numbered f x e k zero from to in_ = absurd (omega (arith, from, to))
among_numbered f x e k (suc n) from to in_ = known (k == e)
    (λ is. among_front x (f k) (flat_map f (numbers (k + 1) n)) (subst (λ e. IsAmong x (f e)) (sym (eqb-true k e is)) in_))
    (λ isnt. among_rest x (f k) (flat_map f (numbers (k + 1) n)) (among_numbered f x e (k + 1) n (later k e from (λ is. false≢true (sym isnt ∙ eq-eqb k e is))) (omega (arith, to)) in_))
  where
    later : (k e : ℕ) → k ≤ e → (k ≡ e → ⊥) → k + 1 ≤ e
    later k e from apart = omega (arith, from, apart)

one_numbered : (f : ℕ → List Place) (at : Place) (d e k n : ℕ) → StandsOnce at (flat_map f (numbers k n)) → k ≤ d → d < k + n → IsAmong at (f d) → k ≤ e → e < k + n → IsAmong at (f e) → d ≡ e
one_numbered f at d e k zero once from to in_ from_e to_e in_e = absurd once
one_numbered f at d e k (suc n) once from to in_ from_e to_e in_e = known (k == d)
    (λ is. known (k == e) (λ same_. sym (eqb-true k d is) ∙ eqb-true k e same_)
    (λ other. absurd (once_apart at (f k) (flat_map f (numbers (k + 1) n)) once (subst (λ d. IsAmong at (f d)) (sym (eqb-true k d is)) in_)
    (among_numbered f at e (k + 1) n (later e from_e other) (omega (arith, to_e)) in_e))))
    (λ isnt. known (k == e)
    (λ same_. absurd (once_apart at (f k) (flat_map f (numbers (k + 1) n)) once (subst (λ d. IsAmong at (f d)) (sym (eqb-true k e same_)) in_e)
    (among_numbered f at d (k + 1) n (later d from isnt) (omega (arith, to)) in_)))
    (λ other. let past = among_numbered f at d (k + 1) n (later d from isnt) (omega (arith, to)) in_ in
    one_numbered f at d e (k + 1) n (once_rest at (f k) (flat_map f (numbers (k + 1) n)) once past) (later d from isnt) (omega (arith, to)) in_ (later e from_e other) (omega (arith, to_e)) in_e))
  where
    step : (k e : ℕ) → k ≤ e → (k ≡ e → ⊥) → k + 1 ≤ e
    step k e from apart = omega (arith, from, apart)

    later : (e : ℕ) → k ≤ e → (k == e) ≡ false → k + 1 ≤ e
    later e from isnt = step k e from (λ is. false≢true (sym isnt ∙ eq-eqb k e is))

module _ (area : Area) (bounds : IsInBounds area) where
  -- who has a page is an entry of the catalog
  pub entry_inside : {A : Type 0} (f : Firsts → List A) (x : A) (e : ℕ) → f no_pages ≡ [] → IsAmong x (f (area.firsts e)) → e < 32
  entry_inside f x e none in_ = ⊎_elim (λ lt. lt) (λ le. absurd (subst (IsAmong x) (ap f (bounds.entries e le) ∙ none) in_)) (cases_lt e 32)

  pub slot_inside : (e : ℕ) (at : Place) → IsAmong at (slot_places area e) → e < 32
  slot_inside e at in_ = entry_inside (λ (f : Firsts). flat_map (places_from area) f.buckets) at e refl in_

  pub in_all : {A : Type 0} (f : ℕ → List A) (x : A) (e : ℕ) → e < 32 → IsAmong x (f e) → IsAmong x (flat_map f entry_numbers)
  unfolding entry_numbers
  in_all f x e lt in_ = among_numbered f x e 0 32 (omega arith) (omega (arith, lt)) in_

  module _ (counted : ℕ) (live : List ℕ) (items : List SlogItem) (owned : AreOwned counted live items area) where
    -- a page of a table is in one chain
    pub owned_once : (p : ℕ) → IsAmong p (owned_pages items area) → how_many (λ q. q == p) (owned_pages items area) ≡ 1
    owned_once p in_ =
        let its = each_of (λ q. (3 ≤ q) × (q < counted) × (area.taken q ≡ true)) p (owned_pages items area) owned.inside in_ in
        owned.once p its.0 its.1 ∙ ap (λ b. cond b 1 0) its.2

    slot_page : (at : Place) (ps : List ℕ) → IsAmong at (flat_map (places_from area) ps) → IsAmong at.page (flat_map (pages_from pages_bound area.header) ps)
    slot_page at [] in_ = absurd in_
    slot_page at (p ∷ ps) in_ = ⊎_elim
        (λ here. among_front at.page (pages_from pages_bound area.header p) (flat_map (pages_from pages_bound area.header) ps) (on_chain area p at here).0)
        (λ there. among_rest at.page (pages_from pages_bound area.header p) (flat_map (pages_from pages_bound area.header) ps) (slot_page at ps there))
        (among_parts at (places_from area p) (flat_map (places_from area) ps) in_)

    pub slot_owned : (e : ℕ) (at : Place) → IsAmong at (slot_places area e) → IsAmong at.page (owned_pages items area)
    slot_owned e at in_ = among_front at.page (flat_map (table_pages area) entry_numbers) (flat_map page_of_item items)
        (in_all (table_pages area) at.page e (slot_inside e at in_)
        (among_front at.page (flat_map (pages_from pages_bound area.header) (area.firsts e).buckets) (pages_from pages_bound area.header (area.firsts e).versions) (slot_page at (area.firsts e).buckets in_)))

    pub slot_once : (e : ℕ) (at : Place) → IsAmong at (slot_places area e) → StandsOnce at (all_slots area)
    slot_once e at in_ = place_once area at (flat_map page_of_item items) (most (how_many (λ q. q == at.page) (owned_pages items area)) (owned_once at.page (slot_owned e at in_)))
        (in_all (slot_places area) at e (slot_inside e at in_) in_)
      where
        most : (n : ℕ) → n ≡ 1 → n ≤ 1
        most n is = omega (arith, is)

    pub one_table : (d e : ℕ) (at : Place) → IsAmong at (slot_places area d) → IsAmong at (slot_places area e) → d ≡ e
    unfolding entry_numbers
    one_table d e at in_d in_e = one_numbered (slot_places area) at d e 0 32 (slot_once d at in_d) (omega arith) (below d in_d) in_d (omega arith) (below e in_e) in_e
      where
        below : (e : ℕ) → IsAmong at (slot_places area e) → e < 0 + 32
        below e in_ = let lt = slot_inside e at in_ in omega (arith, lt)
