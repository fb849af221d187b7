-- A page that is an item's leaves a step to spare in each chain.
use Rattle.std.proofs.Common.{◌≡◌, ⊎_elim, inl, inr, ℕ, ◌+◌, ◌<◌, ◌≤◌, zero, suc, Bool, true, cond, List, [], ◌∷◌, length, slice_index, refl, sym, ◌∙◌, ap, subst, arith}
use Rattle.std.proofs.lemmas.Bool.{false≢true, eq-eqb, eqb-true, cases_lt}
use Rattle.std.specs.List.{flat_map}
use Rattle.std.specs.Prelude.{◌==◌}
use Rattle.ctr_area.proofs.Buckets.{each_of}
use Rattle.ctr_area.specs.Areas.{Area}
use Rattle.ctr_area.specs.Chains.{pages_bound, pages_from, table_pages}
use Rattle.ctr_area.specs.Images.{numbers, entry_numbers}
use Rattle.ctr_area.specs.Sound.{IsAmong, how_many, page_of_item, owned_pages, IsSoundArea}
use Rattle.ctr_area.specs.meta_Tables.{Tables}
use Rattle.ctr_record_laws.proofs.Members.{count_append, count_among, bit}
use Rattle.ctr_record_laws.proofs.Room.{AreApart, apart_fit}
use Rattle.ctr_record_laws.proofs.Ends.{one_count}
use Rattle.ctr_record_laws.proofs.Firsts.{counted_among}
use Rattle.ctr_area.proofs.ctr_versions.Keys.{known}

pub counts_apart : (xs : List ℕ) → ((q : ℕ) → how_many (λ r. r == q) xs ≤ 1) → AreApart xs
counts_apart [] most = tt
counts_apart (x ∷ xs) most = (
  (λ in_. twice (how_many (λ r. r == x) xs) (count_among x xs in_) (subst (λ b. bit b + how_many (λ r. r == x) xs ≤ 1) (eq-eqb x x refl) (most x))),
  counts_apart xs (λ q. less (bit (x == q)) (how_many (λ r. r == q) xs) (most q)),
)
  where
    twice : (n : ℕ) → 1 ≤ n → 1 + n ≤ 1 → ⊥
    twice n one two = omega (arith, one, two)

    less : (a n : ℕ) → a + n ≤ 1 → n ≤ 1
    less a n le = omega (arith, le)

pub number_among : (q k n : ℕ) → k ≤ q → q < k + n → IsAmong q (numbers k n)
number_among q k zero from to = absurd (omega (arith, from, to))
number_among q k (suc n) from to = known (q == k)
    (λ is. inl (eqb-true q k is))
    (λ isnt. inr (number_among q (k + 1) n (later (λ is. false≢true (sym isnt ∙ eq-eqb q k is))) (omega (arith, to))))
  where
    later : (q ≡ k → ⊥) → k + 1 ≤ q
    later apart = ⊎_elim (λ lt. omega (arith, lt)) (λ le. absurd (apart (omega (arith, le, from)))) (cases_lt k q)

pub length-numbers : (k n : ℕ) → length (numbers k n) ≡ n
length-numbers k zero = refl
length-numbers k (suc n) = ap (λ m. suc m) (length-numbers (k + 1) n)

-- part of a list of lists
pub flat_count : {A : Type 0} (f : ℕ → List A) (test : A → Bool) (e : ℕ) (es : List ℕ) → IsAmong e es → how_many test (f e) ≤ how_many test (flat_map f es)
flat_count f test e [] in_ = absurd in_
flat_count f test e (d ∷ es) (inl is) =
    subst (λ e. how_many test (f e) ≤ how_many test (flat_map f (d ∷ es))) (sym is) (up (how_many test (flat_map f (d ∷ es))) (how_many test (f d)) (how_many test (flat_map f es)) (count_append test (f d) (flat_map f es)))
  where
    up : (a b c : ℕ) → a ≡ b + c → b ≤ a
    up a b c is = omega (arith, is)
flat_count f test e (d ∷ es) (inr in_) =
    up (how_many test (flat_map f (d ∷ es))) (how_many test (f d)) (how_many test (flat_map f es)) (how_many test (f e)) (count_append test (f d) (flat_map f es)) (flat_count f test e es in_)
  where
    up : (a b c d : ℕ) → a ≡ b + c → d ≤ c → d ≤ a
    up a b c d is le = omega (arith, is, le)

pub entry_among : (e : ℕ) → e < 32 → IsAmong e entry_numbers
unfolding entry_numbers
entry_among e lt = number_among e 0 32 (omega arith) (omega (arith, lt))

module _ (counted : ℕ) (tables : Tables) (area : Area) (p : ℕ) (few : counted ≤ pages_bound) (sound : IsSoundArea counted tables area) (item : IsAmong p (flat_map page_of_item tables.items)) where
  abbrev all_tables : List ℕ
  all_tables = flat_map (table_pages area) entry_numbers

  abbrev of_items : List ℕ
  of_items = flat_map page_of_item tables.items

  abbrev pub count : ℕ → List ℕ → ℕ
  count q xs = how_many (λ r. r == q) xs

  sum : (q : ℕ) → count q (owned_pages tables.items area) ≡ count q all_tables + count q of_items
  sum q = count_append (λ r. r == q) all_tables of_items

  owned_fine : (q : ℕ) → 1 ≤ count q (owned_pages tables.items area) → (3 ≤ q) × (q < counted) × (area.taken q ≡ true)
  owned_fine q some = each_of (λ r. (3 ≤ r) × (r < counted) × (area.taken r ≡ true)) q (owned_pages tables.items area) sound.owned.inside (counted_among q (owned_pages tables.items area) some)

  owned_most : (q : ℕ) → count q (owned_pages tables.items area) ≤ 1
  owned_most q = ⊎_elim (λ lt. low (count q (owned_pages tables.items area)) lt)
      (λ le. let its = owned_fine q le in one (count q (owned_pages tables.items area)) (sound.owned.once q its.0 its.1 ∙ ap (λ b. cond b 1 0) its.2))
      (cases_lt (count q (owned_pages tables.items area)) 1)
    where
      low : (n : ℕ) → n < 1 → n ≤ 1
      low n lt = omega (arith, lt)

      one : (n : ℕ) → n ≡ 1 → n ≤ 1
      one n is = omega (arith, is)

  pub item_fine : (3 ≤ p) × (p < counted) × (area.taken p ≡ true)
  item_fine = owned_fine p (part (count p all_tables) (count p of_items) (count p (owned_pages tables.items area)) (sum p) (count_among p of_items item))
    where
      part : (a b c : ℕ) → c ≡ a + b → 1 ≤ b → 1 ≤ c
      part a b c is le = omega (arith, is, le)

  -- some of the tables' pages are fewer than the bound
  pub some_left : (xs : List ℕ) → ((q : ℕ) → count q xs ≤ count q all_tables) → length xs < pages_bound
  some_left xs within = fits (length xs) (length (numbers 0 counted)) counted pages_bound
      (apart_fit (p ∷ xs) (numbers 0 counted) (
        (λ in_. alone (count p xs) (count p all_tables) (count p of_items) (count p (owned_pages tables.items area)) (count_among p xs in_) (within p) (count_among p of_items item) (sum p) (owned_most p)),
        counts_apart xs (λ q. most (count q xs) (count q all_tables) (count q of_items) (count q (owned_pages tables.items area)) (within q) (sum q) (owned_most q)),
      )
      (λ q in_. number_among q 0 counted (omega arith) (below q in_)))
      (length-numbers 0 counted) few
    where
      alone : (a b c d : ℕ) → 1 ≤ a → a ≤ b → 1 ≤ c → d ≡ b + c → d ≤ 1 → ⊥
      alone a b c d one two three is le = omega (arith, one, two, three, is, le)

      most : (a b c d : ℕ) → a ≤ b → d ≡ b + c → d ≤ 1 → a ≤ 1
      most a b c d one is le = omega (arith, one, is, le)

      part : (a b c d : ℕ) → 1 ≤ a → a ≤ b → d ≡ b + c → 1 ≤ d
      part a b c d one two is = omega (arith, one, two, is)

      below : (q : ℕ) → IsAmong q (p ∷ xs) → q < 0 + counted
      below q in_ = plain q counted (⊎_elim (λ is. subst (λ r. r < counted) (sym is) item_fine.1)
          (λ there. (owned_fine q (part (count q xs) (count q all_tables) (count q of_items) (count q (owned_pages tables.items area)) (count_among q xs there) (within q) (sum q))).1) in_)
        where
          plain : (a n : ℕ) → a < n → a < 0 + n
          plain a n lt = omega (arith, lt)

      fits : (a b c d : ℕ) → suc a ≤ b → b ≡ c → c ≤ d → a < d
      fits a b c d one is le = omega (arith, one, is, le)

  -- so is each chain of a table
  pub short_bucket : (e bucket : ℕ) → e < 32 → bucket < length (area.firsts e).buckets → length (pages_from pages_bound area.header (slice_index (area.firsts e).buckets bucket)) < pages_bound
  short_bucket e bucket inside there = some_left (pages_from pages_bound area.header (slice_index (area.firsts e).buckets bucket))
      (λ q. chain (count q (pages_from pages_bound area.header (slice_index (area.firsts e).buckets bucket))) (count q (flat_map (pages_from pages_bound area.header) (area.firsts e).buckets))
      (count q (pages_from pages_bound area.header (area.firsts e).versions)) (count q (table_pages area e)) (count q all_tables)
      (one_count (pages_from pages_bound area.header) (λ r. r == q) (area.firsts e).buckets bucket there)
      (count_append (λ r. r == q) (flat_map (pages_from pages_bound area.header) (area.firsts e).buckets) (pages_from pages_bound area.header (area.firsts e).versions))
      (flat_count (table_pages area) (λ r. r == q) e entry_numbers (entry_among e inside)))
    where
      chain : (a b c d f : ℕ) → a ≤ b → d ≡ b + c → d ≤ f → a ≤ f
      chain a b c d f one is le = omega (arith, one, is, le)

  pub short_versions : (e : ℕ) → e < 32 → length (pages_from pages_bound area.header (area.firsts e).versions) < pages_bound
  short_versions e inside = some_left (pages_from pages_bound area.header (area.firsts e).versions)
      (λ q. chain (count q (pages_from pages_bound area.header (area.firsts e).versions)) (count q (flat_map (pages_from pages_bound area.header) (area.firsts e).buckets)) (count q (table_pages area e)) (count q all_tables)
      (count_append (λ r. r == q) (flat_map (pages_from pages_bound area.header) (area.firsts e).buckets) (pages_from pages_bound area.header (area.firsts e).versions))
      (flat_count (table_pages area) (λ r. r == q) e entry_numbers (entry_among e inside)))
    where
      chain : (a b d f : ℕ) → d ≡ b + a → d ≤ f → a ≤ f
      chain a b d f is le = omega (arith, is, le)
