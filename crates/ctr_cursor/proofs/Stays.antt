-- A page of a chain stays in it.
use Rattle.std.proofs.Common.{◌≡◌, ◌≢◌, ⊎_elim, inr, ℕ, zero, suc, ◌+◌, ◌<◌, ◌≤◌, cond, List, [], drop, ◌∷◌, set, length, slice_index, refl, sym, ◌∙◌, ap, subst, arith}
use Rattle.std.proofs.lemmas.Bool.{false≢true, eq-eqb, eqb-true, ne_eqb}
use Rattle.std.proofs.lemmas.List.{get_or-set_same, get_or-set_other}
use Rattle.std.specs.Prelude.{◌==◌}
use Rattle.std.specs.List.{flat_map, AllByRecursion}
use Rattle.ctr_page.specs.declared.checks.Chain.{Chain}
use Rattle.ctr_page.specs.declared.checks.Chain.TheVariants.{Rows, Versions}
use Rattle.ctr_page.specs.declared.header.Header.{Header}
use Rattle.ctr_page.specs.Damage.{chain_entry}
use Rattle.ctr_area.specs.Areas.{Title, Firsts, Area, no_pages}
use Rattle.ctr_area.specs.Chains.{pages_bound, pages_from, table_pages}
use Rattle.ctr_area.specs.Changes.{with_firsts, with_bucket, with_blank, room_by, empty_chains, ChangesEntry}
use Rattle.ctr_area.specs.Sound.{IsAmong, page_of_item, IsOfRows, IsOfVersions, EndsIn, AreReadable}
use Rattle.ctr_area.proofs.Buckets.{each_of}
use Rattle.ctr_area.proofs.ctr_versions.Keys.{known}
use Rattle.ctr_area.specs.meta_Wanted.TheVariants.{Allocation}
use Rattle.ctr_record_laws.specs.Bounds.{IsInBounds}
use Rattle.ctr_record_laws.specs.Owed.{IsListedItem, OwedByFormat, OwedByLink, OwedByOlderLink}
use Rattle.ctr_record_laws.proofs.Away.{pages_same}
use Rattle.ctr_record_laws.proofs.Ends.{page_ends, front_chain, behind_chain, bucket_chain}
use Rattle.ctr_record_laws.proofs.Few.{item_fine, short_bucket, short_versions}
use Rattle.ctr_record_laws.proofs.Format.{item_page, same_away, in_tables}
use Rattle.ctr_record_laws.proofs.Links.{bucket_inside}
use Rattle.ctr_record_laws.proofs.Members.{among_front, among_rest}
use Rattle.ctr_actions.specs.Sites.{Site, IsSoundSite}
use Rattle.ctr_actions.specs.Actions.{Action, Begins, Allocates, Formats, Links, LinksOlder, Keeps, Writes, Creates, Drops, Commits, Frees, Uncreates, Undrops, Aborts, Reclaims, Reverts, Trims, Cuts, FreesOlder, MakesDead, Unlinks, UnlinksOlder, FreesEntry, Forgets, Checkpoints, Owes, site_after}
use Rattle.ctr_walk.specs.Tables.{first_among, first_of_chain}
use Rattle.ctr_cursor.specs.declared.position.Position.{Position}
use Rattle.ctr_cursor.specs.declared.position.Position.TheVariants.{Entry, Slot, Kept, Aborted}
use Rattle.ctr_cursor.specs.Pass.{first_on, place_behind, at_or, slots_from, next_position}
use Rattle.ctr_cursor.specs.Standing.{IsInChain, IsPosition, TakesFrom, TakesPage}

-- ---- chains

-- a page of a bucket, or of the version chain, is one of the table
of_buckets : (header : ℕ → Header) (n p b : ℕ) (ps : List ℕ) → IsAmong p (pages_from n header (slice_index ps b)) → IsAmong p (flat_map (pages_from n header) ps)
of_buckets header n p b [] in_ = absurd (subst (IsAmong p) (page_ends header n 0 refl) in_)
of_buckets header n p zero (q ∷ ps) in_ = among_front p (pages_from n header q) (flat_map (pages_from n header) ps) in_
of_buckets header n p (suc b) (q ∷ ps) in_ = among_rest p (pages_from n header q) (flat_map (pages_from n header) ps) (of_buckets header n p b ps in_)

pub of_table : (chain : Chain) (p : ℕ) (area : Area) → IsInChain chain p area → IsAmong p (table_pages area (chain_entry chain))
of_table (Rows e b) p area in_ = among_front p (flat_map (pages_from pages_bound area.header) (area.firsts e).buckets) (pages_from pages_bound area.header (area.firsts e).versions)
    (of_buckets area.header pages_bound p b (area.firsts e).buckets in_)
of_table (Versions e) p area in_ = among_rest p (flat_map (pages_from pages_bound area.header) (area.firsts e).buckets) (pages_from pages_bound area.header (area.firsts e).versions) in_

-- a bucket with a page is there
pub is_there : (header : ℕ → Header) (n p b : ℕ) (ps : List ℕ) → IsAmong p (pages_from n header (slice_index ps b)) → b < length ps
is_there header n p b [] in_ = absurd (subst (IsAmong p) (page_ends header n 0 refl) in_)
is_there header n p zero (q ∷ ps) in_ = some (length ps)
  where
    some : (m : ℕ) → 0 < suc m
    some m = omega arith
is_there header n p (suc b) (q ∷ ps) in_ = more b (length ps) (is_there header n p b ps in_)
  where
    more : (a m : ℕ) → a < m → suc a < suc m
    more a m lt = omega (arith, lt)

-- its header names the entry
pub of_entry : (chain : Chain) (p : ℕ) (area : Area) → AreReadable area → IsInChain chain p area → (area.header p).entry ≡ chain_entry chain
of_entry (Rows e b) p area readable in_ =
    let first = slice_index (area.firsts e).buckets b in
    let there = is_there area.header pages_bound p b (area.firsts e).buckets in_ in
    (each_of (λ q. IsOfRows e (0 + b) (area.header q)) p (pages_from pages_bound area.header first) (bucket_chain area e 0 b (area.firsts e).buckets there (readable.rows e)).0 in_).1
of_entry (Versions e) p area readable in_ =
    (each_of (λ q. IsOfVersions e (area.header q)) p (pages_from pages_bound area.header (area.firsts e).versions) (readable.versions e).0 in_).1

-- a table without a page has no chain
abbrev AreNone : List ℕ → Type 0
AreNone ps = AllByRecursion (λ p. p ≡ 0) ps

zero_at : (b : ℕ) (ps : List ℕ) → AreNone ps → slice_index ps b ≡ 0
zero_at b [] none = refl
zero_at zero (p ∷ ps) none = none.0
zero_at (suc b) (p ∷ ps) none = zero_at b ps none.1

pub no_chain : (chain : Chain) (p : ℕ) (area : Area) → AreNone (area.firsts (chain_entry chain)).buckets → (area.firsts (chain_entry chain)).versions ≡ 0 → IsInChain chain p area → ⊥
no_chain (Rows e b) p area rows versions in_ = subst (IsAmong p) (page_ends area.header pages_bound (slice_index (area.firsts e).buckets b) (zero_at b (area.firsts e).buckets rows)) in_
no_chain (Versions e) p area rows versions in_ = subst (IsAmong p) (page_ends area.header pages_bound (area.firsts e).versions versions) in_

-- ---- other first pages of an entry

module _ (area : Area) (f p : ℕ) (t : Firsts) where
  -- those of another one are what they were
  pub elsewhere : (chain : Chain) → chain_entry chain ≢ f → IsInChain chain p area → IsInChain chain p (with_firsts f t area)
  elsewhere chain apart in_ = subst (λ (u : Firsts). IsAmong p (pages_from pages_bound area.header (first_among u chain))) (sym (ap (λ b. cond b t (area.firsts (chain_entry chain))) (ne_eqb (chain_entry chain) f apart))) in_

  pub here : (chain : Chain) → chain_entry chain ≡ f → IsAmong p (pages_from pages_bound area.header (first_among t chain)) → IsInChain chain p (with_firsts f t area)
  here chain is in_ = subst (λ (u : Firsts). IsAmong p (pages_from pages_bound area.header (first_among u chain))) (sym (ap (λ b. cond b t (area.firsts (chain_entry chain))) (eq-eqb (chain_entry chain) f is))) in_

  -- where each page of a chain of the entry's is one of the chain by the new ones
  pub with_them : (chain : Chain) → (chain_entry chain ≡ f → IsAmong p (pages_from pages_bound area.header (first_among (area.firsts f) chain)) → IsAmong p (pages_from pages_bound area.header (first_among t chain)))
      → IsInChain chain p area → IsInChain chain p (with_firsts f t area)
  with_them chain moves in_ = known (chain_entry chain == f)
      (λ is. let same = eqb-true (chain_entry chain) f is in here chain same (moves same (subst (λ e. IsAmong p (pages_from pages_bound area.header (first_among (area.firsts e) chain))) same in_)))
      (λ isnt. elsewhere chain (λ same. false≢true (sym isnt ∙ eq-eqb (chain_entry chain) f same)) in_)

-- one bucket begins elsewhere: a page stays if it does so in that bucket
in_buckets : (header : ℕ → Header) (n p b k first : ℕ) (ps : List ℕ) → k < length ps → (b ≡ k → IsAmong p (pages_from n header (slice_index ps k)) → IsAmong p (pages_from n header first))
    → IsAmong p (pages_from n header (slice_index ps b)) → IsAmong p (pages_from n header (slice_index (set ps k first) b))
in_buckets header n p b k first ps there moves in_ = known (b == k)
    (λ is. let same = eqb-true b k is in
    subst (λ q. IsAmong p (pages_from n header q)) (sym (ap (slice_index (set ps k first)) same ∙ get_or-set_same ps k first 0 there)) (moves same (subst (λ j. IsAmong p (pages_from n header (slice_index ps j))) same in_)))
    (λ isnt. subst (λ q. IsAmong p (pages_from n header q)) (sym (get_or-set_other ps k b first 0 (λ same. false≢true (sym isnt ∙ eq-eqb b k same)))) in_)

-- ---- a page is linked, or leaves its chain

module _ (x q : ℕ) (s : Site) (few : s.counted ≤ pages_bound) (sound : IsSoundSite s) (item : IsListedItem (Allocation x q) s.tables) where
  abbrev header : ℕ → Header
  header = s.area.header

  in_items : IsAmong q (flat_map page_of_item s.tables.items)
  in_items = (item_page x q s.tables.items item).1

  some : q ≡ 0 → ⊥
  some is = zero_ q (item_fine s.counted s.tables s.area q few sound in_items).0 is
    where
      zero_ : (p : ℕ) → 3 ≤ p → p ≡ 0 → ⊥
      zero_ p le is = omega (arith, le, is)

  pub link_stays : (f k p : ℕ) → IsInBounds s.area → OwedByLink s.tables s.area x q f k → (chain : Chain) → IsInChain chain p s.area → IsInChain chain p (with_firsts f (with_bucket k q (s.area.firsts f)) s.area)
  link_stays f k p bounds owed (Rows e b) in_ = with_them s.area f p (with_bucket k q (s.area.firsts f)) (Rows e b)
      (λ same there. in_buckets header pages_bound p b k q (s.area.firsts f).buckets owed.there (λ one old. subst (IsAmong p) (sym front) (inr old)) there) in_
    where
      front : pages_from pages_bound header q ≡ q ∷ pages_from pages_bound header (slice_index (s.area.firsts f).buckets k)
      front = front_chain header q (slice_index (s.area.firsts f).buckets k) some (ap (λ (h : Header). h.next) owed.header)
          (short_bucket s.counted s.tables s.area q few sound in_items f k (bucket_inside s.area bounds f k owed.there) owed.there)
  link_stays f k p bounds owed (Versions e) in_ = with_them s.area f p (with_bucket k q (s.area.firsts f)) (Versions e) (λ same there. there) in_

  pub older_link_stays : (f p : ℕ) → OwedByOlderLink s.tables s.area x q f → (chain : Chain) → IsInChain chain p s.area → IsInChain chain p (with_firsts f (record (s.area.firsts f) { versions = q }) s.area)
  older_link_stays f p owed (Rows e b) in_ = with_them s.area f p (record (s.area.firsts f) { versions = q }) (Rows e b) (λ same there. there) in_
  older_link_stays f p owed (Versions e) in_ = with_them s.area f p (record (s.area.firsts f) { versions = q }) (Versions e) (λ same old. subst (IsAmong p) (sym front) (inr old)) in_
    where
      front : pages_from pages_bound header q ≡ q ∷ pages_from pages_bound header (s.area.firsts f).versions
      front = front_chain header q (s.area.firsts f).versions some (ap (λ (h : Header). h.next) owed.header) (short_versions s.counted s.tables s.area q few sound in_items f owed.there)

module _ (area : Area) (readable : AreReadable area) (q f p : ℕ) where
  abbrev its : ℕ → Header
  its = area.header

  positive : (n : ℕ) → 0 < n → n ≡ 0 → ⊥
  positive n lt is = omega (arith, lt, is)

  pub unlink_stays : (k : ℕ) → slice_index (area.firsts f).buckets k ≡ q → 0 < q → k < length (area.firsts f).buckets → (chain : Chain) → ((chain ≡ Rows f k) × (q ≡ p) → ⊥)
      → IsInChain chain p area → IsInChain chain p (with_firsts f (with_bucket k (its q).next (area.firsts f)) area)
  unlink_stays k first lt there (Rows e b) takes in_ = with_them area f p (with_bucket k (its q).next (area.firsts f)) (Rows e b)
      (λ same old. in_buckets its pages_bound p b k (its q).next (area.firsts f).buckets there (λ one was. ⊎_elim
      (λ is. absurd (takes ((λ i. Rows (same i) (one i)), sym is)))
      (λ rest. rest)
      (subst (IsAmong p) behind (subst (λ r. IsAmong p (pages_from pages_bound its r)) first was))) old) in_
    where
      behind : pages_from pages_bound its q ≡ q ∷ pages_from pages_bound its (its q).next
      behind = (behind_chain its q (its q).next (positive q lt) refl (IsOfRows f (0 + k)) (subst (EndsIn pages_bound its (IsOfRows f (0 + k))) first (bucket_chain area f 0 k (area.firsts f).buckets there (readable.rows f)))).0
  unlink_stays k first lt there (Versions e) takes in_ = with_them area f p (with_bucket k (its q).next (area.firsts f)) (Versions e) (λ same old. old) in_

  pub older_unlink_stays : (area.firsts f).versions ≡ q → 0 < q → (chain : Chain) → ((chain ≡ Versions f) × (q ≡ p) → ⊥)
      → IsInChain chain p area → IsInChain chain p (with_firsts f (record (area.firsts f) { versions = (its q).next }) area)
  older_unlink_stays first lt (Rows e b) takes in_ = with_them area f p (record (area.firsts f) { versions = (its q).next }) (Rows e b) (λ same old. old) in_
  older_unlink_stays first lt (Versions e) takes in_ = with_them area f p (record (area.firsts f) { versions = (its q).next }) (Versions e)
      (λ same was. ⊎_elim
      (λ is. absurd (takes ((λ i. Versions (same i)), sym is)))
      (λ rest. rest)
      (subst (IsAmong p) behind (subst (λ r. IsAmong p (pages_from pages_bound its r)) first was))) in_
    where
      behind : pages_from pages_bound its q ≡ q ∷ pages_from pages_bound its (its q).next
      behind = (behind_chain its q (its q).next (positive q lt) refl (IsOfVersions f) (subst (EndsIn pages_bound its (IsOfVersions f)) first (readable.versions f))).0

-- ---- an entry is written over that has no page

module _ (f : ℕ) (title : Title) (chains : Firsts) (area left : Area) (changes : ChangesEntry f title chains area left)
    (rows : AreNone (area.firsts f).buckets) (versions : (area.firsts f).versions ≡ 0) (chain : Chain) (p : ℕ) (in_ : IsInChain chain p area) where
  other : chain_entry chain ≢ f
  other is = no_chain chain p area (subst (λ e. AreNone (area.firsts e).buckets) (sym is) rows) (ap (λ e. (area.firsts e).versions) is ∙ versions) in_

  pub entry_stays : IsInChain chain p left
  entry_stays = subst (λ (header : ℕ → Header). IsAmong p (pages_from pages_bound header (first_of_chain left chain))) (λ i. λ q. sym (changes.headers q) i)
      (subst (λ (u : Firsts). IsAmong p (pages_from pages_bound area.header (first_among u chain))) (sym (changes.firsts (chain_entry chain) ∙ ap (λ b. cond b chains (area.firsts (chain_entry chain))) (ne_eqb (chain_entry chain) f other))) in_)

  pub entry_room : AreReadable area → left.room p ≡ area.room p
  entry_room readable = changes.rooms p (λ is. other (sym (of_entry chain p area readable in_) ∙ is))

-- a free entry has none
pub free_none : (area : Area) (f : ℕ) → IsInBounds area → (area.title f).state ≡ 0 → AreNone (area.firsts f).buckets × ((area.firsts f).versions ≡ 0)
free_none area f bounds free = subst (λ (u : Firsts). AreNone u.buckets × (u.versions ≡ 0)) (sym (bounds.free f free)) (tt, refl)

-- ---- a page of a chain isn't formatted

pub format_stays : (x q : ℕ) (h : Header) (s : Site) → IsInBounds s.area → IsSoundSite s → OwedByFormat s.tables x q → (chain : Chain) (p : ℕ) → IsInChain chain p s.area → IsInChain chain p (with_blank q h s.area)
format_stays x q h s bounds sound owed chain p in_ = subst (IsAmong p)
    (sym (pages_same (λ r. r ≡ q → ⊥) s.area (with_blank q h s.area) (same_away s.counted s.tables s.area x q h bounds sound owed) pages_bound (first_of_chain s.area chain)
    (λ r there. in_tables s.counted s.tables s.area x q h bounds sound owed (chain_entry chain) r (of_table chain r s.area there)))) in_

pub format_room : (x q : ℕ) (h : Header) (s : Site) → IsInBounds s.area → IsSoundSite s → OwedByFormat s.tables x q → (chain : Chain) (p : ℕ) → IsInChain chain p s.area → (with_blank q h s.area).room p ≡ s.area.room p
format_room x q h s bounds sound owed chain p in_ = ap (λ b. cond b (room_by s.area h) (s.area.room p)) (ne_eqb p q (in_tables s.counted s.tables s.area x q h bounds sound owed (chain_entry chain) p (of_table chain p s.area in_)))

-- ---- whichever action it is

pub page_stays : (x p : ℕ) (a : Action) (chain : Chain) (s : Site) → IsInBounds s.area → s.counted ≤ pages_bound → IsSoundSite s → Owes x a s → (TakesFrom a chain p → ⊥) → IsInChain chain p s.area → IsInChain chain p (site_after x a s).area
page_stays x p Begins chain s bounds few sound owed takes in_ = in_
page_stays x p (Allocates q) chain s bounds few sound owed takes in_ = in_
page_stays x p (Formats q h) chain s bounds few sound owed takes in_ = format_stays x q h s bounds sound owed chain p in_
page_stays x p (Links q f k) chain s bounds few sound owed takes in_ = link_stays x q s few sound owed.item f k p bounds owed chain in_
page_stays x p (LinksOlder q f) chain s bounds few sound owed takes in_ = older_link_stays x q s few sound owed.item f p owed chain in_
page_stays x p (Keeps f at older) chain s bounds few sound owed takes in_ = in_
page_stays x p (Writes m) chain s bounds few sound owed takes in_ = in_
page_stays x p (Creates f name columns left) chain s bounds few sound owed takes in_ =
    let none = free_none s.area f bounds owed.0.free in entry_stays f _ empty_chains s.area left owed.1 none.0 none.1 chain p in_
page_stays x p (Drops f) chain s bounds few sound owed takes in_ = in_
page_stays x p Commits chain s bounds few sound owed takes in_ = in_
page_stays x p (Frees q) chain s bounds few sound owed takes in_ = in_
page_stays x p (Uncreates f) chain s bounds few sound owed takes in_ = in_
page_stays x p (Undrops f) chain s bounds few sound owed takes in_ = in_
page_stays x p Aborts chain s bounds few sound owed takes in_ = in_
page_stays x p (Reclaims q) chain s bounds few sound owed takes in_ = in_
page_stays x p (Reverts f at way) chain s bounds few sound owed takes in_ = in_
page_stays x p (Trims passes f at way) chain s bounds few sound owed takes in_ = in_
page_stays x p (Cuts passes f at q) chain s bounds few sound owed takes in_ = in_
page_stays x p (FreesOlder f q) chain s bounds few sound owed takes in_ = in_
page_stays x p (MakesDead passes f) chain s bounds few sound owed takes in_ = in_
page_stays x p (Unlinks q f k) chain s bounds few sound owed takes in_ = unlink_stays s.area sound.readable q f p k owed.first owed.some owed.there chain takes in_
page_stays x p (UnlinksOlder q f) chain s bounds few sound owed takes in_ = older_unlink_stays s.area sound.readable q f p owed.first owed.some chain takes in_
page_stays x p (FreesEntry f title left) chain s bounds few sound owed takes in_ = entry_stays f title no_pages s.area left owed.2 owed.0.no_rows owed.0.no_versions chain p in_
page_stays x p (Forgets y) chain s bounds few sound owed takes in_ = in_
page_stays x p (Checkpoints lists) chain s bounds few sound owed takes in_ = in_

pub room_stays : (x p : ℕ) (a : Action) (chain : Chain) (s : Site) → IsInBounds s.area → IsSoundSite s → Owes x a s → IsInChain chain p s.area → (site_after x a s).area.room p ≡ s.area.room p
room_stays x p Begins chain s bounds sound owed in_ = refl
room_stays x p (Allocates q) chain s bounds sound owed in_ = refl
room_stays x p (Formats q h) chain s bounds sound owed in_ = format_room x q h s bounds sound owed chain p in_
room_stays x p (Links q f k) chain s bounds sound owed in_ = refl
room_stays x p (LinksOlder q f) chain s bounds sound owed in_ = refl
room_stays x p (Keeps f at older) chain s bounds sound owed in_ = refl
room_stays x p (Writes m) chain s bounds sound owed in_ = refl
room_stays x p (Creates f name columns left) chain s bounds sound owed in_ =
    let none = free_none s.area f bounds owed.0.free in entry_room f _ empty_chains s.area left owed.1 none.0 none.1 chain p in_ sound.readable
room_stays x p (Drops f) chain s bounds sound owed in_ = refl
room_stays x p Commits chain s bounds sound owed in_ = refl
room_stays x p (Frees q) chain s bounds sound owed in_ = refl
room_stays x p (Uncreates f) chain s bounds sound owed in_ = refl
room_stays x p (Undrops f) chain s bounds sound owed in_ = refl
room_stays x p Aborts chain s bounds sound owed in_ = refl
room_stays x p (Reclaims q) chain s bounds sound owed in_ = refl
room_stays x p (Reverts f at way) chain s bounds sound owed in_ = refl
room_stays x p (Trims passes f at way) chain s bounds sound owed in_ = refl
room_stays x p (Cuts passes f at q) chain s bounds sound owed in_ = refl
room_stays x p (FreesOlder f q) chain s bounds sound owed in_ = refl
room_stays x p (MakesDead passes f) chain s bounds sound owed in_ = refl
room_stays x p (Unlinks q f k) chain s bounds sound owed in_ = refl
room_stays x p (UnlinksOlder q f) chain s bounds sound owed in_ = refl
room_stays x p (FreesEntry f title left) chain s bounds sound owed in_ = entry_room f title no_pages s.area left owed.2 owed.0.no_rows owed.0.no_versions chain p in_ sound.readable
room_stays x p (Forgets y) chain s bounds sound owed in_ = refl
room_stays x p (Checkpoints lists) chain s bounds sound owed in_ = refl

pub position_stays : (x : ℕ) (y : Position) (a : Action) (s : Site) → IsInBounds s.area → s.counted ≤ pages_bound → IsSoundSite s → Owes x a s → (TakesPage a y → ⊥) → IsPosition y s → IsPosition y (site_after x a s)
position_stays x (Entry e) a s bounds few sound owed takes is = is
position_stays x (Slot e b at) a s bounds few sound owed takes is = (
  is.0,
  (page_stays x at.page a (Rows e b) s bounds few sound owed takes is.1.0, subst (λ n. at.slot < n) (sym (room_stays x at.page a (Rows e b) s bounds sound owed is.1.0)) is.1.1),
)
position_stays x (Kept e at) a s bounds few sound owed takes is = (
  is.0,
  (page_stays x at.page a (Versions e) s bounds few sound owed takes is.1.0, subst (λ n. at.slot < n) (sym (room_stays x at.page a (Versions e) s bounds sound owed is.1.0)) is.1.1),
)
position_stays x (Aborted n) a s bounds few sound owed takes is = tt

-- ---- the file grows

module _ (s : Site) (more : ℕ) where
  abbrev grown : Site
  grown = record s { counted = more }

  slots_grown : (e b : ℕ) (ps : List ℕ) → slots_from e b ps grown ≡ slots_from e b ps s
  slots_grown e b [] = refl
  slots_grown e b (p ∷ ps) = ap (λ o. at_or (λ at. Slot e b at) o (first_on p)) (slots_grown e (b + 1) ps)

  pub same_behind : (y : Position) → next_position grown y ≡ next_position s y
  same_behind (Entry e) = slots_grown e 0 (s.area.firsts e).buckets
  same_behind (Slot e b at) = ap (λ o. at_or (λ q. Slot e b q) o (place_behind s.area at)) (slots_grown e (b + 1) (drop (b + 1) (s.area.firsts e).buckets))
  same_behind (Kept e at) = refl
  same_behind (Aborted n) = refl

  pub still_position : (y : Position) → IsPosition y s → IsPosition y grown
  still_position (Entry e) is = is
  still_position (Slot e b at) is = is
  still_position (Kept e at) is = is
  still_position (Aborted n) is = is
