-- The order of the secondary log: which item goes, and what stays in front.
use Rattle.std.proofs.Common.{◌≡◌, ◌≢◌, ⊎_elim, inl, inr, ℕ, ◌+◌, ◌≤◌, Bool, true, false, cond, List, [], ◌∷◌, ◌++◌, refl, sym, ◌∙◌, ap, subst, arith}
use Rattle.std.proofs.lemmas.Bool.{false≢true, eqb-true, eq-eqb}
use Rattle.std.proofs.lemmas.List.{append_assoc}
use Rattle.std.specs.List.{flat_map, filter}
use Rattle.std.specs.Prelude.{◌==◌, not}
use Rattle.ctr_record_laws.specs.area_Chains.{table_pages}
use Rattle.ctr_record_laws.specs.area_Images.{entry_numbers}
use Rattle.ctr_record_laws.specs.area_Sound.{IsAmong, how_many, page_of_item, owned_pages, is_creation, is_dropping}
use Rattle.ctr_record_laws.specs.meta_Effects.{one_head_more, one_head_less}
use Rattle.ctr_record_laws.specs.meta_Items.{is_wanted, is_item_by, is_schema_by, left_out}
use Rattle.ctr_record_laws.specs.meta_Wanted.{Wanted}
use Rattle.ctr_record_laws.specs.meta_Wanted.TheVariants.{Allocation, OfPage, Creation, Dropping}
use Rattle.ctr_record_laws.specs.rec_SlogItem.{SlogItem}
use Rattle.ctr_record_laws.specs.rec_SlogItem.TheVariants.{AllocOf, FreeOf, CreateOf, DropOf}
use Rattle.ctr_record_laws.proofs.Format.{item_page, allocation_is}
use Rattle.ctr_record_laws.proofs.Items.{the_one, count_with, pages_with}
use Rattle.ctr_record_laws.proofs.Members.{among_front, among_rest, among_parts, count_append, count_among, bit}
use Rattle.ctr_record_laws.proofs.Owned.{owned_once}
use Rattle.ctr_record_laws.proofs.Owning.{page_wanted, flat_among}
use Rattle.ctr_record_laws.proofs.Undone.{filter_append, filter_among, counted_member}
use Rattle.ctr_record_laws.proofs.Xids.{both_same, more_same, less_same}
use Rattle.ctr_record_laws.specs.Bounds.{IsInBounds}
use Rattle.ctr_record_laws.specs.Owed.{loses_head, HasNoItems, IsLastItem}
use Rattle.ctr_record_laws.proofs.versions_Keys.{known}
use Rattle.ctr_actions.specs.Sites.{Site, IsSoundSite}
use Rattle.ctr_actions.specs.Actions.{Action, Begins, Allocates, Formats, Links, LinksOlder, Keeps, Writes, Creates, Drops, Commits, Frees, Uncreates, Undrops, Aborts, Reclaims, Reverts, Trims, Cuts, FreesOlder, MakesDead, Unlinks, UnlinksOlder, FreesEntry, Forgets, Checkpoints, Owes, site_after, undoing, item_count}
use Rattle.ctr_actions.proofs.Items.{left_back}
use Rattle.ctr_actions.proofs.Latest.{last_among}
use Rattle.ctr_actions.proofs.Owners.{one_item}

-- ---- an item that is undone goes, and no other

-- the first that is wanted
left_one : (w : Wanted) (i : SlogItem) (front rest : List SlogItem) → is_wanted w i ≡ true → ((j : SlogItem) → IsAmong j front → is_wanted w j ≡ true → ⊥) → left_out w (front ++ i ∷ rest) ≡ front ++ rest
left_one w i [] rest wanted none = ap (λ b. cond b rest (i ∷ left_out w rest)) wanted
left_one w i (a ∷ front) rest wanted none = known (is_wanted w a)
    (λ is. absurd (none a (inl refl) is))
    (λ isnt. ap (λ b. cond b (front ++ i ∷ rest) (a ∷ left_out w (front ++ i ∷ rest))) isnt ∙ ap (λ l. a ∷ l) (left_one w i front rest wanted (λ j in_ is. none j (inr in_) is)))

module _ (s : Site) (bounds : IsInBounds s.area) (sound : IsSoundSite s) (i : SlogItem) (front rest : List SlogItem) (items : s.tables.items ≡ front ++ i ∷ rest) where
  -- a page is in one item
  page_once : (p : ℕ) → page_of_item i ≡ p ∷ [] → (j : SlogItem) → IsAmong j front → is_wanted (OfPage p) j ≡ true → ⊥
  page_once p its j in_ wanted =
      let test : ℕ → Bool = λ q. q == p in
      let of_tables = flat_map (table_pages s.area) entry_numbers in
      let pages : List SlogItem → List ℕ = flat_map page_of_item in
      let here : IsAmong p (page_of_item i) = subst (IsAmong p) (sym its) (inl refl) in
      twice (how_many test of_tables) (how_many test (pages s.tables.items)) (how_many test (pages (front ++ rest))) (how_many test (page_of_item i)) (how_many test (owned_pages s.tables.items s.area))
      (count_among p (pages (front ++ rest)) (flat_among page_of_item p j (front ++ rest) (among_front j front rest in_) (subst (IsAmong p) (sym (page_wanted p j wanted).0) (inl refl))))
      (count_among p (page_of_item i) here)
      (ap (λ is. how_many test (pages is)) items ∙ pages_with test i front rest)
      (count_append test of_tables (pages s.tables.items))
      (owned_once s.area bounds s.counted _ s.tables.items sound.owned p (among_rest p of_tables (pages s.tables.items) (flat_among page_of_item p i s.tables.items (subst (IsAmong i) (sym items) (the_one i front rest)) here)))
    where
      twice : (a b c d e : ℕ) → 1 ≤ c → 1 ≤ d → b ≡ c + d → e ≡ a + b → e ≡ 1 → ⊥
      twice a b c d e one two sum all is = omega (arith, one, two, sum, all, is)

  -- so is each creation and each drop
  test_once : (test : SlogItem → Bool) → how_many test s.tables.items ≤ 1 → test i ≡ true → (j : SlogItem) → IsAmong j front → test j ≡ true → ⊥
  test_once test most its j in_ is = twice (how_many test s.tables.items) (how_many test (front ++ rest)) most (counted_member test j (front ++ rest) is (among_front j front rest in_))
      (ap (how_many test) items ∙ count_with test i front rest ∙ ap (λ b. how_many test (front ++ rest) + bit b) its)
    where
      twice : (a c : ℕ) → a ≤ 1 → 1 ≤ c → a ≡ c + 1 → ⊥
      twice a c most one is = omega (arith, most, one, is)

creation_wanted : (e : ℕ) (j : SlogItem) → is_wanted (Creation e) j ≡ is_creation e j
creation_wanted e (AllocOf z q) = refl
creation_wanted e (FreeOf q) = refl
creation_wanted e (CreateOf z f) = refl
creation_wanted e (DropOf z f) = refl

dropping_wanted : (e : ℕ) (j : SlogItem) → is_wanted (Dropping e) j ≡ is_dropping e j
dropping_wanted e (AllocOf z q) = refl
dropping_wanted e (FreeOf q) = refl
dropping_wanted e (CreateOf z f) = refl
dropping_wanted e (DropOf z f) = refl

pub undone_goes : (x : ℕ) (s : Site) (i : SlogItem) (front rest : List SlogItem) → IsInBounds s.area → IsSoundSite s → s.tables.items ≡ front ++ i ∷ rest → (site_after x (undoing i) s).tables.items ≡ front ++ rest
undone_goes x s (AllocOf y p) front rest bounds sound items = ap (left_out (OfPage p)) items
    ∙ left_one (OfPage p) (AllocOf y p) front rest (eq-eqb p p refl) (page_once s bounds sound (AllocOf y p) front rest items p refl)
undone_goes x s (FreeOf p) front rest bounds sound items = ap (left_out (OfPage p)) items
    ∙ left_one (OfPage p) (FreeOf p) front rest (eq-eqb p p refl) (page_once s bounds sound (FreeOf p) front rest items p refl)
undone_goes x s (CreateOf y e) front rest bounds sound items = ap (left_out (Creation e)) items
    ∙ left_one (Creation e) (CreateOf y e) front rest (eq-eqb e e refl)
    (λ j in_ wanted. test_once s bounds sound (CreateOf y e) front rest items (is_creation e) (sound.names.once e).0 (eq-eqb e e refl) j in_ (sym (creation_wanted e j) ∙ wanted))
undone_goes x s (DropOf y e) front rest bounds sound items = ap (left_out (Dropping e)) items
    ∙ left_one (Dropping e) (DropOf y e) front rest (eq-eqb e e refl)
    (λ j in_ wanted. test_once s bounds sound (DropOf y e) front rest items (is_dropping e) (sound.names.once e).1 (eq-eqb e e refl) j in_ (sym (dropping_wanted e j) ∙ wanted))

-- the items before and behind one
split_there : (z : SlogItem) (items : List SlogItem) → IsAmong z items → (front : List SlogItem) × (rest : List SlogItem) × (items ≡ front ++ z ∷ rest)
split_there z [] in_ = absurd in_
split_there z (a ∷ items) (inl is) = ([], items, ap (λ i. i ∷ items) (sym is))
split_there z (a ∷ items) (inr in_) = let further = split_there z items in_ in (a ∷ further.0, further.1, ap (λ l. a ∷ l) further.2)

-- the latest item goes: the transaction has one less
pub one_item_less : (x : ℕ) (s : Site) (i : SlogItem) → IsInBounds s.area → IsSoundSite s → IsLastItem x i s.tables.items → item_count x s.tables ≡ item_count x (site_after x (undoing i) s).tables + 1
one_item_less x s i bounds sound last =
    let found = last_among x i s.tables.items last in
    let there = split_there i s.tables.items found.0 in
    ap (how_many (is_item_by x)) there.2 ∙ count_with (is_item_by x) i there.0 there.1 ∙ ap (λ b. how_many (is_item_by x) (there.0 ++ there.1) + bit b) found.1
    ∙ ap (λ is. how_many (is_item_by x) is + 1) (sym (undone_goes x s i there.0 there.1 bounds sound there.2))

-- ---- what stands in front stays

left_behind : (w : Wanted) (front run : List SlogItem) → ((j : SlogItem) → IsAmong j front → is_wanted w j ≡ true → ⊥) → left_out w (front ++ run) ≡ front ++ left_out w run
left_behind w [] run none = refl
left_behind w (a ∷ front) run none = known (is_wanted w a)
    (λ is. absurd (none a (inl refl) is))
    (λ isnt. ap (λ b. cond b (front ++ run) (a ∷ left_out w (front ++ run))) isnt ∙ ap (λ l. a ∷ l) (left_behind w front run (λ j in_ is. none j (inr in_) is)))

all_pass : (test : SlogItem → Bool) (items : List SlogItem) → ((j : SlogItem) → IsAmong j items → test j ≡ true) → filter test items ≡ items
all_pass test [] all = refl
all_pass test (a ∷ items) all = ap (λ b. cond b (a ∷ filter test items) (filter test items)) (all a (inl refl)) ∙ ap (λ l. a ∷ l) (all_pass test items (λ j in_. all j (inr in_)))

no_schema : (x : ℕ) (j : SlogItem) → is_item_by x j ≡ false → not (is_schema_by x j) ≡ true
no_schema x (AllocOf y p) none = refl
no_schema x (FreeOf p) none = refl
no_schema x (CreateOf y e) none = ap not none
no_schema x (DropOf y e) none = ap not none

module _ (x : ℕ) (s : Site) (bounds : IsInBounds s.area) (sound : IsSoundSite s) (front run : List SlogItem) (items : s.tables.items ≡ front ++ run)
    (none : (i : SlogItem) → IsAmong i front → is_item_by x i ≡ false) where
  -- the log as it was, with others behind the front
  abbrev pub Stays : List SlogItem → Type 0
  Stays now = (later : List SlogItem) × (now ≡ front ++ later) × ((y : ℕ) → x ≢ y → HasNoItems y run → HasNoItems y later)

  as_was : Stays s.tables.items
  as_was = (run, items, λ y apart no. no)

  came : (i : SlogItem) → ((y : ℕ) → x ≢ y → is_item_by y i ≡ false) → Stays (s.tables.items ++ i ∷ [])
  came i others = (
    run ++ i ∷ [],
    ap (λ is. is ++ i ∷ []) items ∙ append_assoc front run (i ∷ []),
    λ y apart no j in_. ⊎_elim (λ was. no j was) (λ new. ⊎_elim (λ is. ap (is_item_by y) is ∙ others y apart) (λ gone. absurd gone) new) (among_parts j run (i ∷ []) in_),
  )

  went : (w : Wanted) → ((j : SlogItem) → IsAmong j front → is_wanted w j ≡ true → ⊥) → Stays (left_out w s.tables.items)
  went w out = (left_out w run, ap (left_out w) items ∙ left_behind w front run out, λ y apart no j in_. no j (left_back w j run in_))

  in_log : (j : SlogItem) → IsAmong j front → IsAmong j s.tables.items
  in_log j in_ = subst (IsAmong j) (sym items) (among_front j front run in_)

  not_own : (i j : SlogItem) → is_item_by x i ≡ true → IsAmong j front → j ≢ i
  not_own i j own in_ is = false≢true (sym (none j in_) ∙ ap (is_item_by x) is ∙ own)

  no_link : (p : ℕ) (j : SlogItem) → IsAmong j front → is_wanted (Allocation x p) j ≡ true → ⊥
  no_link p j in_ wanted = not_own (AllocOf x p) j (own_item p) in_ (allocation_is x p j wanted)
    where
      own_item : (p : ℕ) → is_item_by x (AllocOf x p) ≡ true
      own_item p = ap (λ b. cond b true false) (eq-eqb x x refl)

  no_page : (p : ℕ) (i : SlogItem) → page_of_item i ≡ p ∷ [] → IsAmong i s.tables.items → ((j : SlogItem) → IsAmong j front → j ≢ i) → (j : SlogItem) → IsAmong j front → is_wanted (OfPage p) j ≡ true → ⊥
  no_page p i its there apart j in_ wanted = one_item p j i s bounds sound (page_wanted p j wanted).0 its (apart j in_) (in_log j in_) there

  no_creation : (e : ℕ) → IsAmong (CreateOf x e) s.tables.items → (j : SlogItem) → IsAmong j front → is_wanted (Creation e) j ≡ true → ⊥
  no_creation e there (AllocOf z q) in_ wanted = false≢true wanted
  no_creation e there (FreeOf q) in_ wanted = false≢true wanted
  no_creation e there (CreateOf z f) in_ wanted =
      let same_ = eqb-true f e wanted in
      false≢true (sym (none (CreateOf z f) in_) ∙ eq-eqb z x (sym (sound.names.creates z e (subst (λ k. IsAmong (CreateOf z k) s.tables.items) same_ (in_log (CreateOf z f) in_))).1 ∙ (sound.names.creates x e there).1))
  no_creation e there (DropOf z f) in_ wanted = false≢true wanted

  no_dropping : (e : ℕ) → IsAmong (DropOf x e) s.tables.items → (j : SlogItem) → IsAmong j front → is_wanted (Dropping e) j ≡ true → ⊥
  no_dropping e there (AllocOf z q) in_ wanted = false≢true wanted
  no_dropping e there (FreeOf q) in_ wanted = false≢true wanted
  no_dropping e there (CreateOf z f) in_ wanted = false≢true wanted
  no_dropping e there (DropOf z f) in_ wanted =
      let same_ = eqb-true f e wanted in
      false≢true (sym (none (DropOf z f) in_) ∙ eq-eqb z x (sym (sound.names.drops z e (subst (λ k. IsAmong (DropOf z k) s.tables.items) same_ (in_log (DropOf z f) in_))).1 ∙ (sound.names.drops x e there).1))

  other : (y : ℕ) → x ≢ y → (x == y) ≡ false
  other y apart = known (x == y) (λ is. absurd (apart (eqb-true x y is))) (λ isnt. isnt)

  pub front_stays : (a : Action) → Owes x a s → ((p : ℕ) → a ≡ Reclaims p → IsAmong (FreeOf p) front → ⊥) → Stays (site_after x a s).tables.items
  front_stays Begins owed out = as_was
  front_stays (Allocates q) owed out = came (AllocOf x q) (λ y apart. ap (λ b. cond b true false) (other y apart))
  front_stays (Formats q g) owed out = as_was
  front_stays (Links q f k) owed out = went (Allocation x q) (no_link q)
  front_stays (LinksOlder q f) owed out = went (Allocation x q) (no_link q)
  front_stays (Keeps f b older) owed out = as_was
  front_stays (Writes m) owed out =
      let tables = s.tables in
      let more = one_head_more m.xid tables in
      subst Stays (sym (both_same tables more (one_head_less (loses_head tables (s.area.slot m.at)) more) (more_same m.xid tables) (less_same (loses_head tables (s.area.slot m.at)) more)).items) as_was
  front_stays (Creates f name columns left) owed out = came (CreateOf x f) (λ y apart. other y apart)
  front_stays (Drops f) owed out = came (DropOf x f) (λ y apart. other y apart)
  front_stays Commits owed out =
      let test : SlogItem → Bool = λ i. not (is_schema_by x i) in (
        filter test run,
        ap (filter test) items ∙ filter_append test front run ∙ ap (λ l. l ++ filter test run) (all_pass test front (λ j in_. no_schema x j (none j in_))),
        λ y apart no j in_. no j (filter_among test j run in_).0,
      )
  front_stays (Frees q) owed out =
      went (OfPage q) (no_page q (AllocOf x q) refl (item_page x q s.tables.items owed).0 (λ j in_. not_own (AllocOf x q) j (ap (λ b. cond b true false) (eq-eqb x x refl)) in_))
  front_stays (Uncreates f) owed out = went (Creation f) (no_creation f (last_among x (CreateOf x f) s.tables.items owed).0)
  front_stays (Undrops f) owed out = went (Dropping f) (no_dropping f (last_among x (DropOf x f) s.tables.items owed).0)
  front_stays Aborts owed out = as_was
  front_stays (Reclaims q) owed out = went (OfPage q) (no_page q (FreeOf q) refl owed (λ j in_ is. out q refl (subst (λ i. IsAmong i front) is in_)))
  front_stays (Reverts f b way) owed out = as_was
  front_stays (Trims passes f b way) owed out = as_was
  front_stays (Cuts passes f b r) owed out = as_was
  front_stays (FreesOlder f r) owed out = as_was
  front_stays (MakesDead passes f) owed out = as_was
  front_stays (Unlinks q f k) owed out = came (FreeOf q) (λ y apart. refl)
  front_stays (UnlinksOlder q f) owed out = came (FreeOf q) (λ y apart. refl)
  front_stays (FreesEntry f was left) owed out = as_was
  front_stays (Forgets z) owed out = as_was
  front_stays (Checkpoints lists) owed out = as_was
