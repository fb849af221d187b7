-- A Commit: an open transaction counts as committed from then on, and what it made and dropped stays.
use Rattle.std.proofs.Common.{◌≡◌, ◌⊎◌, ⊎_elim, inl, inr, ℕ, ◌+◌, ◌<◌, ◌≤◌, Bool, true, false, cond, List, [], ◌∷◌, ◌++◌, drop, length, refl, sym, ◌∙◌, ap, subst, arith}
use Rattle.std.proofs.lemmas.Bool.{false≢true, eq-eqb, eqb-true, ne_eqb, and_parts, cases_eq}
use Rattle.std.specs.List.{flat_map, AllByRecursion, filter}
use Rattle.std.specs.Prelude.{◌==◌, ◌||◌, ◌&&◌, not, nat_lt}
use Rattle.ctr_area.proofs.Buckets.{each_of}
use Rattle.ctr_area.specs.Areas.{Title, Area}
use Rattle.ctr_area.specs.Chains.{table_pages}
use Rattle.ctr_area.specs.Images.{is_committed_in, entry_numbers, is_standing, is_live}
use Rattle.ctr_area.specs.Sound.{IsAmong, AreAllOnce, how_many, xids_in, head_count, page_of_item, owned_pages, AreNamed, IsSoundArea, IsOneOf, IsSchemaItem, all_undone, stands_for, is_creation, is_dropping}
use Rattle.ctr_record_laws.proofs.Leaving.{all_without, among_without, still_among, once_less, once_both, same_creator, same_dropper, behind_more, same_name_undone}
use Rattle.ctr_record_laws.specs.Owed.{OwedByCommit}
use Rattle.ctr_area.specs.meta_Items.{is_schema_by, is_item_by}
use Rattle.ctr_area.specs.meta_Effects.{committed}
use Rattle.ctr_area.specs.meta_Tables.{Tables, is_in}
use Rattle.ctr_record_laws.proofs.Heads.{listed_drawn, listed_open, open_listed}
use Rattle.ctr_record_laws.proofs.Members.{among_front, among_rest, among_parts, all_parts, all_both, bit}
use Rattle.ctr_record_laws.proofs.Xids.{among_in, in_among, not_both, once_parts}
use Rattle.ctr_area.specs.rec_SlogItem.{SlogItem}
use Rattle.ctr_area.specs.rec_SlogItem.TheVariants.{AllocOf, FreeOf, CreateOf, DropOf}
use Rattle.ctr_record_laws.proofs.Few.{count}
use Rattle.ctr_record_laws.proofs.Latest.{live_some, live_open}
use Rattle.ctr_record_laws.proofs.Named.{head_same, tail_same}
use Rattle.ctr_record_laws.proofs.Owning.{all_of}
use Rattle.ctr_record_laws.proofs.Undone.{undone_apart, undone_dead, one_of_from, filter_among, among_filter, drop_among}
use Rattle.ctr_area.proofs.ctr_versions.Keys.{known}

-- ---- lists of which some members are left out

module _ (test : SlogItem → Bool) where
  pub fewer_kept : (count : SlogItem → Bool) (items : List SlogItem) → how_many count (filter test items) ≤ how_many count items
  fewer_kept count [] = omega arith
  fewer_kept count (a ∷ items) =
      let rest = fewer_kept count items in
      elim (test a) as (λ b. how_many count (cond b (a ∷ filter test items) (filter test items)) ≤ bit (count a) + how_many count items) [
        | true ↦ both (bit (count a)) (how_many count (filter test items)) (how_many count items) rest
        | false ↦ one (bit (count a)) (how_many count (filter test items)) (how_many count items) rest
      ]
    where
      both : (b m n : ℕ) → m ≤ n → b + m ≤ b + n
      both b m n le = omega (arith, le)

      one : (b m n : ℕ) → m ≤ n → m ≤ b + n
      one b m n le = omega (arith, le)

  -- where those that stay are cut, all can be
  pub kept_cut : (c : SlogItem) (items f r : List SlogItem) → filter test items ≡ f ++ c ∷ r
      → (g : List SlogItem) × (s : List SlogItem) × (items ≡ g ++ c ∷ s) × ((z : SlogItem) → IsAmong z f → IsAmong z g)
  kept_cut c [] f r is = absurd (some f is)
    where
      some : (f : List SlogItem) → [] ≡ f ++ c ∷ r → ⊥
      some [] is = let long = ap length is in omega (arith, long)
      some (b ∷ f) is = let long = ap length is in omega (arith, long)
  kept_cut c (a ∷ items) f r is = known (test a)
      (λ stays. by_front (λ f is. kept_cut c items f r is) f (sym (ap (λ b. cond b (a ∷ filter test items) (filter test items)) stays) ∙ is))
      (λ goes. let rest = kept_cut c items f r (sym (ap (λ b. cond b (a ∷ filter test items) (filter test items)) goes) ∙ is) in
      (a ∷ rest.0, rest.1, ap (λ l. a ∷ l) rest.2, λ z in_. inr (rest.3 z in_)))
    where
      by_front : ((f : List SlogItem) → filter test items ≡ f ++ c ∷ r → (g : List SlogItem) × (s : List SlogItem) × (items ≡ g ++ c ∷ s) × ((z : SlogItem) → IsAmong z f → IsAmong z g))
          → (f : List SlogItem) → a ∷ filter test items ≡ f ++ c ∷ r → (g : List SlogItem) × (s : List SlogItem) × (a ∷ items ≡ g ++ c ∷ s) × ((z : SlogItem) → IsAmong z f → IsAmong z g)
      by_front further [] here = ([], items, ap (λ x. x ∷ items) (head_same a c (filter test items) r here), λ z in_. in_)
      by_front further (j ∷ f) here =
          let rest = further f (tail_same a j (filter test items) (f ++ c ∷ r) here) in
          (j ∷ rest.0, rest.1, (λ k. head_same a j (filter test items) (f ++ c ∷ r) here k ∷ rest.2 k), λ z in_. ⊎_elim (λ is. inl is) (λ there. inr (rest.3 z there)) in_)

  pub kept_twice : (by : SlogItem → Bool) (items : List SlogItem) → ((z : SlogItem) → by z ≡ true → test z ≡ true) → filter by (filter test items) ≡ filter by items
  kept_twice by [] stay = refl
  kept_twice by (a ∷ items) stay =
      let rest = kept_twice by items stay in
      known (test a)
      (λ is. ap (λ b. filter by (cond b (a ∷ filter test items) (filter test items))) is ∙ ap (λ l. cond (by a) (a ∷ l) l) rest)
      (λ isnt. ap (λ b. filter by (cond b (a ∷ filter test items) (filter test items))) isnt ∙ rest
      ∙ sym (ap (λ b. cond b (a ∷ filter by items) (filter by items)) (known (by a) (λ yes_. absurd (false≢true (sym isnt ∙ stay a yes_))) (λ no_. no_))))

  pub kept_pages : (items : List SlogItem) → ((z : SlogItem) → test z ≡ false → page_of_item z ≡ []) → flat_map page_of_item (filter test items) ≡ flat_map page_of_item items
  kept_pages [] none = refl
  kept_pages (a ∷ items) none =
      let rest = kept_pages items none in
      known (test a)
      (λ is. ap (λ b. flat_map page_of_item (cond b (a ∷ filter test items) (filter test items))) is ∙ ap (λ l. page_of_item a ++ l) rest)
      (λ isnt. ap (λ b. flat_map page_of_item (cond b (a ∷ filter test items) (filter test items))) isnt ∙ rest ∙ sym (ap (λ l. l ++ flat_map page_of_item items) (none a isnt)))

module _ (counted : ℕ) (tables : Tables) (area : Area) (x : ℕ) (sound : IsSoundArea counted tables area) (owed : OwedByCommit tables x) where
  abbrev now : Tables
  now = committed x tables

  abbrev old : ℕ → Bool
  old = is_committed_in tables

  abbrev new : ℕ → Bool
  new = is_committed_in now

  abbrev items : List SlogItem
  items = tables.items

  abbrev stays : SlogItem → Bool
  stays i = not (is_schema_by x i)

  abbrev live : List ℕ
  live = xids_in tables.opens

  x_live : IsAmong x live
  x_live = in_among x tables.opens owed.is_open

  x_open : old x ≡ false
  x_open = listed_open tables x (inl owed.is_open)

  same_open : (y : ℕ) → (y ≡ x → ⊥) → is_in y now.opens ≡ is_in y tables.opens
  same_open y apart = known (is_in y tables.opens)
      (λ is. among_in y now.opens (still_among x y tables.opens apart (in_among y tables.opens is)) ∙ sym is)
      (λ isnt. known (is_in y now.opens) (λ is. absurd (false≢true (sym isnt ∙ among_in y tables.opens (among_without x y tables.opens (in_among y now.opens is))))) (λ out. out ∙ sym isnt))

  pub commit_others : (y : ℕ) → (y ≡ x → ⊥) → new y ≡ old y
  commit_others y apart = λ i. nat_lt 0 y && (nat_lt y tables.next && (not (same_open y apart i) && not (is_in y tables.aborted)))

  parts : AreAllOnce live × AreAllOnce (xids_in tables.aborted)
  parts = once_parts live (xids_in tables.aborted) sound.below.once

  more : (y : ℕ) → old y ≡ true → new y ≡ true
  more y is = commit_others y (λ same_. false≢true (sym x_open ∙ ap old (sym same_) ∙ is)) ∙ is

  pub commit_here : new x ≡ true
  commit_here = known (new x) (λ is. is)
      (λ isnt. absurd (⊎_elim
      (λ open_. (once_less x tables.opens parts.0).1 (in_among x now.opens open_))
      (λ gone. not_both live (xids_in tables.aborted) x sound.below.once x_live (in_among x tables.aborted gone))
      (open_listed now x drawn.0 drawn.1 isnt)))
    where
      drawn : (0 < x) × (x < tables.next)
      drawn = listed_drawn tables.next area tables sound.below x (inl owed.is_open)

  -- who is committed now was, or it is this one
  was_or_x : (y : ℕ) → new y ≡ true → (old y || (y == x)) ≡ true
  was_or_x y is = known (y == x)
      (λ same_. ap (λ b. old y || b) same_ ∙ either (old y))
      (λ apart. ap (λ b. b || (y == x)) (sym (commit_others y (λ same_. false≢true (sym apart ∙ eq-eqb y x same_))) ∙ is))
    where
      either : (b : Bool) → (b || true) ≡ true
      either true = refl
      either false = refl

  not_x : (y : ℕ) → new y ≡ false → (old y || (y == x)) ≡ false
  not_x y isnt =
      let apart : y ≡ x → ⊥ = λ same_. false≢true (sym isnt ∙ ap new same_ ∙ commit_here) in
      λ i. (sym (commit_others y apart) ∙ isnt) i || ne_eqb y x apart i

  -- ---- items

  was_in : (z : SlogItem) → IsAmong z now.items → IsAmong z items × (stays z ≡ true)
  was_in z in_ = filter_among stays z items in_

  still_in : (z : SlogItem) → stays z ≡ true → IsAmong z items → IsAmong z now.items
  still_in z is in_ = among_filter stays z items is in_

  was_item : (y e : ℕ) → IsSchemaItem y e now.items → IsSchemaItem y e items
  was_item y e (inl in_) = inl (was_in (CreateOf y e) in_).0
  was_item y e (inr in_) = inr (was_in (DropOf y e) in_).0

  -- ---- who is open

  live_still : (y : ℕ) → (y ≡ x → ⊥) → IsAmong y live → IsAmong y (xids_in now.opens)
  live_still y apart in_ = still_among x y tables.opens apart in_

  live_was : (y : ℕ) → IsAmong y (xids_in now.opens) → IsAmong y live × (y ≡ x → ⊥)
  live_was y in_ = (among_without x y tables.opens in_, λ is. (once_less x tables.opens parts.0).1 (subst (λ y. IsAmong y (xids_in now.opens)) is in_))

  -- ---- what stands now stood for the one that commits

  own_all : IsOneOf area.title (stands_for old x)
  own_all = subst (λ l. IsOneOf (all_undone l area.title) (stands_for old x)) (all_dropped (filter (is_item_by x) items)) (sound.names.undoing x (length (filter (is_item_by x) items)) x_live)
    where
      all_dropped : (is : List SlogItem) → drop (length is) is ≡ []
      all_dropped [] = refl
      all_dropped (a ∷ is) = all_dropped is

  -- by its creator and dropper
  stood_for_x : (u : Title) → new u.creator ≡ true → new u.dropper ≡ false → stands_for old x u ≡ true
  stood_for_x u made kept = λ i. was_or_x u.creator made i && not (not_x u.dropper kept i)

  standing_now : IsOneOf area.title (is_standing new)
  standing_now = one_of_from area.title area.title (stands_for old x) (is_standing new) own_all
      (λ f lt alive counts. (alive, refl, by_parts (area.title f) counts))
    where
      by_parts : (u : Title) → is_standing new u ≡ true → stands_for old x u ≡ true
      by_parts u counts =
          let inner = and_parts (new u.creator) (not (new u.dropper)) (and_parts (is_live u) (new u.creator && not (new u.dropper)) counts).1 in
          stood_for_x u inner.0 (is_false (new u.dropper) inner.1)
        where
          is_false : (b : Bool) → not b ≡ true → b ≡ false
          is_false true is = absurd (false≢true is)
          is_false false is = refl

  -- ---- another open transaction

  module _ (y : ℕ) (y_live : IsAmong y live) (apart : y ≡ x → ⊥) (k : ℕ) where
    abbrev undone_titles : ℕ → Title
    undone_titles = all_undone (drop k (filter (is_item_by y) items)) area.title

    y_open : old y ≡ false
    y_open = live_open counted tables area sound y y_live

    -- the entry is one that the other has made or dropped
    abbrev IsOfX : ℕ → Type 0
    IsOfX e = IsSchemaItem x e items

    touched : (e : ℕ) → e < 32 → is_live (area.title e) ≡ true → ((area.title e).creator ≡ x) ⊎ ((area.title e).dropper ≡ x) → IsOfX e
    touched e lt alive (inl is) = ⊎_elim
        (λ c. absurd (false≢true (sym x_open ∙ ap old (sym is) ∙ c)))
        (λ its. inl (subst (λ z. IsAmong (CreateOf z e) items) is its.1)) (sound.names.creators e lt alive)
    touched e lt alive (inr is) = ⊎_elim
        (λ z. absurd (zero_ (sym is ∙ z)))
        (λ more_. ⊎_elim (λ c. absurd (false≢true (sym x_open ∙ ap old (sym is) ∙ c))) (λ its. inr (subst (λ z. IsAmong (DropOf z e) items) is its.1)) more_) (sound.names.droppers e lt alive)
      where
        zero_ : x ≡ 0 → ⊥
        zero_ z = let some = live_some counted tables area sound x x_live in omega (arith, some, z)

    live_title : (f : ℕ) → is_live (undone_titles f) ≡ true → is_live (area.title f) ≡ true
    live_title f alive = known (is_live (area.title f)) (λ yes_. yes_) (λ dead. absurd (false≢true (sym (undone_dead (drop k (filter (is_item_by y) items)) area.title f dead) ∙ alive)))

    -- entries of a name that the other holds aren't touched
    untouched : (e f : ℕ) → IsOfX e → (area.title f).name ≡ (area.title e).name → undone_titles f ≡ area.title f
    untouched e f its same_ = undone_apart (drop k (filter (is_item_by y) items)) area.title f
        (λ w in_. let by_y = filter_among (is_item_by y) (CreateOf w f) items (drop_among (CreateOf w f) k (filter (is_item_by y) items) in_) in
        apart (sym (eqb-true w y by_y.1) ∙ sound.names.of_one w x f e (inl by_y.0) its same_))
        (λ w in_. let by_y = filter_among (is_item_by y) (DropOf w f) items (drop_among (DropOf w f) k (filter (is_item_by y) items) in_) in
        apart (sym (eqb-true w y by_y.1) ∙ sound.names.of_one w x f e (inr by_y.0) its same_))

    -- so it stands for the other
    stands_there : (e f : ℕ) → IsOfX e → f < 32 → is_live (area.title f) ≡ true → (area.title f).name ≡ (area.title e).name → stands_for new y (area.title f) ≡ true → stands_for old x (area.title f) ≡ true
    stands_there e f its lt alive same_ counts =
        let u = area.title f in
        let both = and_parts (new u.creator || (u.creator == y)) (not (new u.dropper || (u.dropper == y))) counts in
        stood_for_x u (known (new u.creator) (λ is. is) (λ isnt. absurd (not_by_y (sym (ap (λ b. b || (u.creator == y)) isnt) ∙ both.0)))) (first_false (new u.dropper) (u.dropper == y) both.1)
      where
        not_by_y : ((area.title f).creator == y) ≡ true → ⊥
        not_by_y is = ⊎_elim
            (λ c. false≢true (sym y_open ∙ ap old (sym (eqb-true (area.title f).creator y is)) ∙ c))
            (λ open_. apart (sound.names.of_one y x f e (inl (subst (λ z. IsAmong (CreateOf z f) items) (eqb-true (area.title f).creator y is) open_.1)) its same_)) (sound.names.creators f lt alive)

        first_false : (a b : Bool) → not (a || b) ≡ true → a ≡ false
        first_false true b is = absurd (false≢true is)
        first_false false b is = refl

    -- of two of one name, the first of which the other has made or dropped
    by_touched : (e f : ℕ) → IsOfX e → e < 32 → f < 32 → is_live (undone_titles e) ≡ true → is_live (undone_titles f) ≡ true → (undone_titles e).name ≡ (undone_titles f).name
        → stands_for new y (undone_titles e) ≡ true → stands_for new y (undone_titles f) ≡ true → e ≡ f
    by_touched e f its lt_e lt_f alive_e alive_f same_ counts_e counts_f =
        let names_same : (area.title f).name ≡ (area.title e).name = sym (same_name_undone (drop k (filter (is_item_by y) items)) area.title f) ∙ sym same_ ∙ same_name_undone (drop k (filter (is_item_by y) items)) area.title e in
        let was_e = untouched e e its refl in
        let was_f = untouched e f its names_same in
        own_all e f lt_e lt_f (live_title e alive_e) (live_title f alive_f) (sym names_same)
        (stands_there e e its lt_e (live_title e alive_e) refl (subst (λ u. stands_for new y u ≡ true) was_e counts_e))
        (stands_there e f its lt_f (live_title f alive_f) names_same (subst (λ u. stands_for new y u ≡ true) was_f counts_f))

    -- one that the other has neither made nor dropped stands as it did
    as_before : (f : ℕ) → ((area.title f).creator ≡ x → ⊥) → ((area.title f).dropper ≡ x → ⊥) → stands_for new y (undone_titles f) ≡ true → stands_for old y (undone_titles f) ≡ true
    as_before f not_made not_dropped counts =
        let is = drop k (filter (is_item_by y) items) in
        same_by (undone_titles f).creator (undone_titles f).dropper
        (sym (ap new (same_creator is area.title f) ∙ commit_others (area.title f).creator not_made ∙ ap old (sym (same_creator is area.title f))))
        (⊎_elim (λ z. sym (ap new z ∙ sym (ap old z))) (λ was. sym (ap new was ∙ commit_others (area.title f).dropper not_dropped ∙ ap old (sym was))) (same_dropper is area.title f))
        ∙ counts
      where
        same_by : (c d : ℕ) → old c ≡ new c → old d ≡ new d → ((old c || (c == y)) && not (old d || (d == y))) ≡ ((new c || (c == y)) && not (new d || (d == y)))
        same_by c d one two = λ i. (one i || (c == y)) && not (two i || (d == y))

    decide : {A : Type 0} (f : ℕ) → (((area.title f).creator ≡ x) ⊎ ((area.title f).dropper ≡ x) → A) → (((area.title f).creator ≡ x → ⊥) → ((area.title f).dropper ≡ x → ⊥) → A) → A
    decide f hit miss = ⊎_elim (λ is. hit (inl is)) (λ not_made. ⊎_elim (λ is. hit (inr is)) (λ not_dropped. miss not_made not_dropped) (cases_eq (area.title f).dropper x)) (cases_eq (area.title f).creator x)

    pub others_view : IsOneOf undone_titles (stands_for new y)
    others_view e f lt_e lt_f alive_e alive_f same_ counts_e counts_f = decide e
        (λ its. by_touched e f (touched e lt_e (live_title e alive_e) its) lt_e lt_f alive_e alive_f same_ counts_e counts_f)
        (λ not_made_e not_dropped_e. decide f
        (λ its. sym (by_touched f e (touched f lt_f (live_title f alive_f) its) lt_f lt_e alive_f alive_e (sym same_) counts_f counts_e))
        (λ not_made_f not_dropped_f. sound.names.undoing y k y_live e f lt_e lt_f alive_e alive_f same_ (as_before e not_made_e not_dropped_e counts_e) (as_before f not_made_f not_dropped_f counts_f)))

  names : AreNamed new (xids_in now.opens) now.items area.title
  names = record {
    creators = λ e lt is. ⊎_elim (λ c. inl (more (area.title e).creator c))
        (λ open_. known ((area.title e).creator == x)
        (λ mine. inl (ap new (eqb-true (area.title e).creator x mine) ∙ commit_here))
        (λ not_mine. inr (
          live_still (area.title e).creator (λ same_. false≢true (sym not_mine ∙ eq-eqb (area.title e).creator x same_)) open_.0,
          still_in (CreateOf (area.title e).creator e) (ap not not_mine) open_.1,
        ))) (sound.names.creators e lt is);
    droppers = λ e lt is. ⊎_elim (λ z. inl z) (λ more_. inr (⊎_elim (λ c. inl (more (area.title e).dropper c))
        (λ open_. known ((area.title e).dropper == x)
        (λ mine. inl (ap new (eqb-true (area.title e).dropper x mine) ∙ commit_here))
        (λ not_mine. inr (
          live_still (area.title e).dropper (λ same_. false≢true (sym not_mine ∙ eq-eqb (area.title e).dropper x same_)) open_.0,
          still_in (DropOf (area.title e).dropper e) (ap not not_mine) open_.1,
        ))) more_)) (sound.names.droppers e lt is);
    creates = λ y e in_. sound.names.creates y e (was_in (CreateOf y e) in_).0;
    drops = λ y e in_. sound.names.drops y e (was_in (DropOf y e) in_).0;
    once = λ e. let was = sound.names.once e in (
      low (how_many (is_creation e) now.items) (how_many (is_creation e) items) (fewer_kept stays (is_creation e) items) was.0,
      low (how_many (is_dropping e) now.items) (how_many (is_dropping e) items) (fewer_kept stays (is_dropping e) items) was.1,
    );
    in_order = λ front rest y z e is in_. let cut_ = kept_cut stays (CreateOf y e) items front rest is in sound.names.in_order cut_.0 cut_.1 y z e cut_.2 (cut_.3 (DropOf z e) in_);
    of_one = λ y z e f a b same_. sound.names.of_one y z e f (was_item y e a) (was_item z f b) same_;
    undoing = λ y k in_. let was = live_was y in_ in
        subst (λ l. IsOneOf (all_undone (drop k l) area.title) (stands_for new y)) (sym (kept_twice stays (is_item_by y) items (by_another y was.1))) (others_view y was.0 was.1 k);
    standing = standing_now;
  }
    where
      low : (a b : ℕ) → a ≤ b → b ≤ 1 → a ≤ 1
      low a b le most = omega (arith, le, most)

      by_another : (y : ℕ) → (y ≡ x → ⊥) → (z : SlogItem) → is_item_by y z ≡ true → stays z ≡ true
      by_another y apart (AllocOf w p) is = refl
      by_another y apart (FreeOf p) is = refl
      by_another y apart (CreateOf w e) is = ap not (ne_eqb w x (λ same_. apart (sym (eqb-true w y is) ∙ same_)))
      by_another y apart (DropOf w e) is = ap not (ne_eqb w x (λ same_. apart (sym (eqb-true w y is) ∙ same_)))

  -- ---- pages

  same_pages : owned_pages now.items area ≡ owned_pages items area
  same_pages = ap (λ l. flat_map (table_pages area) entry_numbers ++ l) (kept_pages stays items no_page)
    where
      no_page : (z : SlogItem) → stays z ≡ false → page_of_item z ≡ []
      no_page (AllocOf w p) isnt = absurd (false≢true (sym isnt))
      no_page (FreeOf p) isnt = absurd (false≢true (sym isnt))
      no_page (CreateOf w e) isnt = refl
      no_page (DropOf w e) isnt = refl

  mine_gone : (w : ℕ) → not (w == x) ≡ true → w ≡ x → ⊥
  mine_gone w is same_ = false≢true (sym (ap not (eq-eqb w x same_)) ∙ is)

  pub commit_sound : IsSoundArea counted now area
  commit_sound = record {
    readable = sound.readable;
    behind = behind_more old new area more sound.behind;
    counts = let its = all_parts (λ (p : ℕ × ℕ). p.1 ≡ head_count area p.0) tables.opens tables.aborted sound.counts in
        all_both (λ (p : ℕ × ℕ). p.1 ≡ head_count area p.0) now.opens tables.aborted (all_without (λ (p : ℕ × ℕ). p.1 ≡ head_count area p.0) x tables.opens its.0) its.1;
    owned = record {
      once = λ q behind_ inside_. ap (how_many (λ r. r == q)) same_pages ∙ sound.owned.once q behind_ inside_;
      inside = subst (AllByRecursion (λ q. (3 ≤ q) × (q < counted) × (area.taken q ≡ true))) (sym same_pages) sound.owned.inside;
      uncounted = sound.owned.uncounted;
      allocs = λ y p in_. let was = was_in (AllocOf y p) in_ in live_still y (λ is. owed.linked p (subst (λ y. IsAmong (AllocOf y p) items) is was.0)) (sound.owned.allocs y p was.0);
      creates = λ y e in_. let was = was_in (CreateOf y e) in_ in live_still y (mine_gone y was.1) (sound.owned.creates y e was.0);
      drops = λ y e in_. let was = was_in (DropOf y e) in_ in live_still y (mine_gone y was.1) (sound.owned.drops y e was.0);
    };
    keys = sound.keys;
    pointers = sound.pointers;
    names = names;
    below = record {
      slots = sound.below.slots;
      older = sound.below.older;
      entries = sound.below.entries;
      drawn = all_of (λ y. (0 < y) × (y < tables.next)) (xids_in now.opens ++ xids_in tables.aborted)
          (λ y in_. each_of (λ y. (0 < y) × (y < tables.next)) y (live ++ xids_in tables.aborted) sound.below.drawn
          (⊎_elim (λ front. among_front y live (xids_in tables.aborted) (among_without x y tables.opens front)) (λ later. among_rest y live (xids_in tables.aborted) later) (among_parts y (xids_in now.opens) (xids_in tables.aborted) in_)));
      once = once_both (xids_in now.opens) (xids_in tables.aborted) (once_less x tables.opens parts.0).0 parts.1
          (λ y in_ too. not_both live (xids_in tables.aborted) y sound.below.once (among_without x y tables.opens in_) too);
    };
  }
