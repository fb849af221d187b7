-- The items of a transaction stay, whatever another one does.
use Rattle.std.proofs.Common.{◌≡◌, ◌≢◌, inl, inr, ℕ, ◌+◌, ◌*◌, ◌≤◌, Bool, true, false, cond, List, [], ◌∷◌, ◌++◌, refl, sym, ◌∙◌, ap, subst, arith}
use Rattle.std.proofs.lemmas.Bool.{false≢true, eqb-true, ne_eqb}
use Rattle.std.specs.List.{filter}
use Rattle.std.specs.Prelude.{◌==◌, not}
use Rattle.ctr_area.specs.Sound.{IsAmong, how_many}
use Rattle.ctr_area.specs.Chains.{pages_bound}
use Rattle.ctr_area.specs.Reading.{area_of}
use Rattle.ctr_meta.specs.Effects.{one_head_more, one_head_less}
use Rattle.ctr_meta.specs.Items.{is_wanted, is_item_by, is_schema_by, left_out}
use Rattle.ctr_meta.specs.declared.items.Wanted.{Wanted}
use Rattle.ctr_meta.specs.declared.items.Wanted.TheVariants.{Allocation}
use Rattle.ctr_rec.specs.declared.record.SlogItem.{SlogItem}
use Rattle.ctr_rec.specs.declared.record.SlogItem.TheVariants.{AllocOf, FreeOf, CreateOf, DropOf}
use Rattle.ctr_record_laws.proofs.Format.{item_page, allocation_is}
use Rattle.ctr_record_laws.proofs.Items.{count_with}
use Rattle.ctr_record_laws.proofs.Members.{count_append, bit}
use Rattle.ctr_record_laws.proofs.Xids.{both_same, more_same, less_same}
use Rattle.ctr_record_laws.specs.Bounds.{IsInBounds}
use Rattle.ctr_record_laws.specs.Owed.{loses_head}
use Rattle.ctr_page_turns.specs.redo_States.{State, counting}
use Rattle.ctr_page_turns.specs.record_effects_States.{pages_in, area_in}
use Rattle.ctr_page_turns.specs.record_effects_Standing.{IsDatabaseState}
use Rattle.ctr_versions.proofs.Keys.{known}
use Rattle.ctr_page_turns.specs.actions_Sites.{Site, IsSoundSite, site_of}
use Rattle.ctr_page_turns.specs.actions_Actions.{Action, Begins, Allocates, Formats, Links, LinksOlder, Keeps, Writes, Creates, Drops, Commits, Frees, Uncreates, Undrops, Aborts, Reclaims, Reverts, Trims, Cuts, FreesOlder, MakesDead, Unlinks, UnlinksOlder, FreesEntry, Forgets, Checkpoints, Owes, site_after, undoing, item_count}
use Rattle.ctr_page_turns.proofs.actions_Latest.{last_among}
use Rattle.ctr_page_turns.specs.Acts.{ActsBy}
use Rattle.ctr_page_turns.specs.passed_Laid.{LiesAs, LaidPasses}
use Rattle.ctr_page_turns.specs.actions_Records.{Does}
use Rattle.ctr_rollback.specs.declared.rolling.Rolled.TheVariants.{Back}
use Rattle.ctr_rollback.specs.Rolling.{RollsTo}
use Rattle.ctr_rollback.specs.Series.{IsAnothers, LeadsBy, LeadOn, its_turns}

-- just the item that is undone goes
abbrev pub GoesAlone : Type 0
GoesAlone = (x : ℕ) (s : Site) (i : SlogItem) (front rest : List SlogItem) → IsInBounds s.area → IsSoundSite s
    → s.tables.items ≡ front ++ i ∷ rest → (site_after x (undoing i) s).tables.items ≡ front ++ rest

-- a state of a database stays one
abbrev pub StaysSound : Type 0
StaysSound = (x : ℕ) (a : Action) (s t : State) → IsDatabaseState s → Does x a s t
    → LiesAs a (area_in s) (pages_in s) (pages_in t) → LaidPasses a t.counted (area_in t) (pages_in t) → IsDatabaseState t

-- the items before and behind one
split_there : (z : SlogItem) (items : List SlogItem) → IsAmong z items → (front : List SlogItem) × (rest : List SlogItem) × (items ≡ front ++ z ∷ rest)
split_there z [] in_ = absurd in_
split_there z (a ∷ items) (inl is) = ([], items, ap (λ i. i ∷ items) (sym is))
split_there z (a ∷ items) (inr in_) = let further = split_there z items in_ in (a ∷ further.0, further.1, ap (λ l. a ∷ l) further.2)

nothing_behind : (n : ℕ) → n + (0 + 0) ≡ n
nothing_behind n = omega arith

nothing_before : (n : ℕ) → n ≡ 0 + n
nothing_before n = omega arith

nothing_more : (n : ℕ) → n + 0 ≡ n
nothing_more n = omega arith

-- one comes that isn't counted
counts_behind : (test : SlogItem → Bool) (items : List SlogItem) (i : SlogItem) → test i ≡ false → how_many test (items ++ i ∷ []) ≡ how_many test items
counts_behind test items i other = count_append test items (i ∷ []) ∙ ap (λ b. how_many test items + (cond b 1 0 + 0)) other ∙ nothing_behind (how_many test items)

-- with one that isn't counted in front
counts_before : (test : SlogItem → Bool) (i : SlogItem) (n : ℕ) → test i ≡ false → n ≡ cond (test i) 1 0 + n
counts_before test i n other = nothing_before n ∙ ap (λ b. cond b 1 0 + n) (sym other)

-- the first that is wanted goes, where none that is wanted is counted
counts_without : (test : SlogItem → Bool) (w : Wanted) (items : List SlogItem) → ((i : SlogItem) → is_wanted w i ≡ true → test i ≡ false) → how_many test (left_out w items) ≡ how_many test items
counts_without test w [] others = refl
counts_without test w (i ∷ items) others = known (is_wanted w i)
    (λ is. ap (λ b. how_many test (cond b items (i ∷ left_out w items))) is ∙ counts_before test i (how_many test items) (others i is))
    (λ isnt. ap (λ b. how_many test (cond b items (i ∷ left_out w items))) isnt ∙ ap (λ n. cond (test i) 1 0 + n) (counts_without test w items others))

turned : (b : Bool) → not b ≡ false → b ≡ true
turned true is = refl
turned false is = absurd (false≢true (sym is))

-- those that don't pass go, and none of them is counted
counts_passed : (test pass : SlogItem → Bool) (items : List SlogItem) → ((i : SlogItem) → pass i ≡ false → test i ≡ false) → how_many test (filter pass items) ≡ how_many test items
counts_passed test pass [] others = refl
counts_passed test pass (i ∷ items) others = known (pass i)
    (λ is. ap (λ b. how_many test (cond b (i ∷ filter pass items) (filter pass items))) is ∙ ap (λ n. cond (test i) 1 0 + n) (counts_passed test pass items others))
    (λ isnt. ap (λ b. how_many test (cond b (i ∷ filter pass items) (filter pass items))) isnt ∙ counts_passed test pass items others ∙ counts_before test i (how_many test items) (others i isnt))

module _ (alone : GoesAlone) (x y : ℕ) (apart : x ≢ y) (s : Site) (bounds : IsInBounds s.area) (sound : IsSoundSite s) where
  abbrev items : List SlogItem
  items = s.tables.items

  other : (y == x) ≡ false
  other = ne_eqb y x (λ is. apart (sym is))

  others_alloc : (p : ℕ) → is_item_by x (AllocOf y p) ≡ false
  others_alloc p = ap (λ b. cond b true false) other

  -- an item of another's is undone
  undone_stays : (i : SlogItem) → IsAmong i items → is_item_by x i ≡ false → item_count x (site_after y (undoing i) s).tables ≡ item_count x s.tables
  undone_stays i in_ others =
      let there = split_there i items in_ in
      let own = is_item_by x in
      ap (how_many own) (alone y s i there.0 there.1 bounds sound there.2)
      ∙ sym (ap (how_many own) there.2 ∙ count_with own i there.0 there.1 ∙ ap (λ b. how_many own (there.0 ++ there.1) + bit b) others ∙ nothing_more (how_many own (there.0 ++ there.1)))

  not_linked : (p : ℕ) (i : SlogItem) → is_wanted (Allocation y p) i ≡ true → is_item_by x i ≡ false
  not_linked p i wanted = ap (is_item_by x) (allocation_is y p i wanted) ∙ others_alloc p

  not_settled : (i : SlogItem) → not (is_schema_by y i) ≡ false → is_item_by x i ≡ false
  not_settled (AllocOf z p) is = absurd (false≢true (sym is))
  not_settled (FreeOf p) is = refl
  not_settled (CreateOf z e) is = ap (λ n. n == x) (eqb-true z y (turned (z == y) is)) ∙ other
  not_settled (DropOf z e) is = ap (λ n. n == x) (eqb-true z y (turned (z == y) is)) ∙ other

  pub others_stay : (a : Action) → Owes y a s → item_count x (site_after y a s).tables ≡ item_count x s.tables
  others_stay Begins owed = refl
  others_stay (Allocates p) owed = counts_behind (is_item_by x) items (AllocOf y p) (others_alloc p)
  others_stay (Formats p h) owed = refl
  others_stay (Links p e b) owed = counts_without (is_item_by x) (Allocation y p) items (not_linked p)
  others_stay (LinksOlder p e) owed = counts_without (is_item_by x) (Allocation y p) items (not_linked p)
  others_stay (Keeps e at older) owed = refl
  others_stay (Writes m) owed =
      let tables = s.tables in
      let more = one_head_more m.xid tables in
      ap (how_many (is_item_by x)) (both_same tables more (one_head_less (loses_head tables (s.area.slot m.at)) more) (more_same m.xid tables) (less_same (loses_head tables (s.area.slot m.at)) more)).items
  others_stay (Creates e name columns left) owed = counts_behind (is_item_by x) items (CreateOf y e) other
  others_stay (Drops e) owed = counts_behind (is_item_by x) items (DropOf y e) other
  others_stay Commits owed = counts_passed (is_item_by x) (λ i. not (is_schema_by y i)) items not_settled
  others_stay (Frees p) owed = undone_stays (AllocOf y p) (item_page y p items owed).0 (others_alloc p)
  others_stay (Uncreates e) owed = undone_stays (CreateOf y e) (last_among y (CreateOf y e) items owed).0 other
  others_stay (Undrops e) owed = undone_stays (DropOf y e) (last_among y (DropOf y e) items owed).0 other
  others_stay Aborts owed = refl
  others_stay (Reclaims p) owed = undone_stays (FreeOf p) owed refl
  others_stay (Reverts e at way) owed = refl
  others_stay (Trims passes e at way) owed = refl
  others_stay (Cuts passes e at q) owed = refl
  others_stay (FreesOlder e q) owed = refl
  others_stay (MakesDead passes e) owed = refl
  others_stay (Unlinks p e b) owed = counts_behind (is_item_by x) items (FreeOf p) refl
  others_stay (UnlinksOlder p e) owed = counts_behind (is_item_by x) items (FreeOf p) refl
  others_stay (FreesEntry e title left) owed = refl
  others_stay (Forgets z) owed = refl
  others_stay (Checkpoints lists) owed = refl

-- ---- turns one behind another

module _ (alone : GoesAlone) (stays : StaysSound) (bounded : (pages : ℕ → List ℕ) → IsInBounds (area_of pages)) (grown : (more : ℕ) (s : State) → IsDatabaseState s → s.counted ≤ more → more ≤ pages_bound → IsDatabaseState (counting more s)) (x : ℕ) where
  goes_on : (y : ℕ) (a : Action) (s t : State) → IsDatabaseState s → ActsBy y a s t → IsDatabaseState t
  goes_on y a s t sound acts = stays y a s t sound acts.does acts.lies acts.passes

  pub others_act : (y : ℕ) (a : Action) (s t : State) → IsDatabaseState s → x ≢ y → ActsBy y a s t → item_count x t.tables ≡ item_count x s.tables
  others_act y a s t sound apart acts =
      ap (λ (z : Site). item_count x z.tables) acts.does.leaves
      ∙ others_stay alone x y apart (site_of s) (bounded (pages_in s)) sound.sound a acts.does.owed

  anothers : (s t : State) → IsDatabaseState s → IsAnothers x s t → IsDatabaseState t × (item_count x t.tables ≡ item_count x s.tables)
  anothers s t sound (inl one) = (goes_on one.0 one.1 s t sound one.3, others_act one.0 one.1 s t sound one.2 one.3)
  anothers s t sound (inr more) = (subst IsDatabaseState (sym more.3) (grown more.0 s sound more.1 more.2), ap (λ (u : State). item_count x u.tables) more.3)

  led : (its : Bool) (s t : State) → IsDatabaseState s → LeadsBy its x s t → IsDatabaseState t × (item_count x s.tables ≡ item_count x t.tables + cond its 1 0)
  led true s t sound rolls = (goes_on x (undoing rolls.0) s t sound rolls.2, rolls.3)
  led false s t sound another = let both = anothers s t sound another in (both.0, sym both.1 ∙ sym (nothing_more (item_count x t.tables)))

  pub items_left : (turns : List Bool) (s t : State) → IsDatabaseState s → LeadOn x turns s t → item_count x s.tables ≡ item_count x t.tables + its_turns turns
  items_left [] s t sound is = ap (λ (u : State). item_count x u.tables) (sym is) ∙ sym (nothing_more (item_count x t.tables))
  items_left (its ∷ rest) s t sound leads =
      let u = leads.0 in
      let first = led its s u sound leads.1 in
      joined (item_count x s.tables) (item_count x u.tables) (item_count x t.tables) (cond its 1 0) (its_turns rest) first.1 (items_left rest u t first.0 leads.2)
    where
      joined : (a b c d e : ℕ) → a ≡ b + d → b ≡ c + e → a ≡ c + (d + e)
      joined a b c d e one two = omega (arith, one, two)

  pub all_turns : (turns : List Bool) (s t u : State) → IsDatabaseState s → LeadOn x turns s t → RollsTo x t u Back → its_turns turns ≡ item_count x s.tables
  all_turns turns s t u sound leads back = sums (item_count x s.tables) (item_count x t.tables) (its_turns turns) (items_left turns s t sound leads) back.0
    where
      sums : (a b n : ℕ) → a ≡ b + n → b ≡ 0 → n ≡ a
      sums a b n one two = omega (arith, one, two)

  pub all_steps : (turns : List Bool) (s t u : State) → IsDatabaseState s → LeadOn x turns s t → RollsTo x t u Back → its_turns turns * 2 + 1 ≡ 2 * item_count x s.tables + 1
  all_steps turns s t u sound leads back = doubled (its_turns turns) (item_count x s.tables) (all_turns turns s t u sound leads back)
    where
      doubled : (n a : ℕ) → n ≡ a → n * 2 + 1 ≡ 2 * a + 1
      doubled n a is = omega (arith, is)
