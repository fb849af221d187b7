-- What the cleaner does by what it heeds is what it may do beside sessions.
use Rattle.std.proofs.Common.{◌≡◌, inl, inr, ℕ, ◌+◌, ◌<◌, ◌≤◌, ℤ, ◌==◌, Bool, true, false, cond, List, [], ◌∷◌, ◌++◌, drop, length, Option, Some, None, refl, sym, ◌∙◌, ap, subst, arith}
use Rattle.std.specs.List.{flat_map}
use Rattle.std.proofs.Math.Seq.{drop-append_seam}
use Rattle.std.proofs.lemmas.Bool.{false≢true}
use Rattle.ctr_model.specs.declared.state.State.{State}
use Rattle.ctr_model.specs.declared.state.Transaction.{Transaction}
use Rattle.ctr_model.specs.State.{transaction_of}
use Rattle.ctr_area.specs.rec_SlogItem.{SlogItem}
use Rattle.ctr_area.specs.rec_SlogItem.TheVariants.{FreeOf}
use Rattle.ctr_area.specs.Areas.{Title, Area}
use Rattle.ctr_area.specs.Chains.{table_pages}
use Rattle.ctr_area.specs.Images.{entry_numbers}
use Rattle.ctr_area.proofs.Buckets.{each_of}
use Rattle.ctr_area.specs.Sound.{IsAmong, how_many, page_of_item, owned_pages, AreOwned}
use Rattle.ctr_walk.specs.redo_States.{State as Stored}
use Rattle.ctr_walk.specs.record_effects_States.{area_in}
use Rattle.ctr_actions.specs.Sites.{site_of}
use Rattle.ctr_actions.specs.Actions.{Action, Reverts, Trims, Cuts, FreesOlder, FreesEntry}
use Rattle.ctr_actions.proofs.record_laws_Members.{among_front, among_rest, count_append, count_among}
use Rattle.ctr_actions.proofs.record_laws_Owning.{flat_among}
use Rattle.ctr_locks.specs.Held.{LocksOfSession, held_by_session, session_locks}
use Rattle.ctr_locks.specs.Shows.{IsTheSame, ShowsKeyLocks}
use Rattle.ctr_cleaner.specs.cleaning_Sparing.{AreInCatalog, IsUnlockedAs, IsUnlockedIn, IsOfFreeRow}
use Rattle.ctr_cleaner.specs.Turning.{IsOfOpenRow}
use Rattle.ctr_exec.specs.ctr_control.kept_Walk.{Mind}
use Rattle.ctr_exec.specs.ctr_session_world.World.{AreInTables, names_in}
use Rattle.ctr_pass.specs.Beside.{SparesLocked}

-- ---- rows

-- a key that nobody has locked by the program's locks is free by the model
abbrev pub FreeLaw : Type 0
FreeLaw = (name_of : ℕ → List ℕ) (locks : List (ℕ × LocksOfSession)) (state : State) (e : ℕ) (key : ℤ) → ShowsKeyLocks name_of locks state
    → AreInCatalog locks → IsUnlockedAs name_of locks e key → IsUnlockedIn state (name_of e) key

module _ (a : Stored) (locks : List (ℕ × LocksOfSession)) (state : State) (shows : ShowsKeyLocks (names_in a) locks state) where
  -- who has a lock is in a transaction
  holder : (r e : ℕ) (key : ℤ) → session_locks r e key locks ≡ true → (t : Transaction) × (transaction_of state r ≡ Some t)
  holder r e key locked = by (transaction_of state r) refl (shows r)
    where
      by : (o : Option Transaction) → transaction_of state r ≡ o → IsTheSame (names_in a) (held_by_session r locks) o → (t : Transaction) × (transaction_of state r ≡ Some t)
      by None is same = absurd (false≢true (sym (same.locks e key) ∙ locked))
      by (Some t) is same = (t, is)

  pub in_catalog : (w : Mind) → AreInTables a locks state w.facts → AreInCatalog locks
  in_catalog w tables f s key locked = let its = holder s f key locked in (tables s f key its.0 locked its.1).inside

  pub free_row : FreeLaw → AreInCatalog locks → (does : Action) → IsOfOpenRow locks does (site_of a) → IsOfFreeRow state does (site_of a)
  free_row law inside (Reverts e at way) unlocked = law (names_in a) locks state e ((area_in a).slot at).key shows inside unlocked
  free_row law inside (Trims passes e at way) unlocked = law (names_in a) locks state e ((area_in a).slot at).key shows inside unlocked
  free_row law inside (Cuts passes e at q) unlocked = law (names_in a) locks state e ((area_in a).slot at).key shows inside unlocked
  free_row law inside (FreesOlder e q) unlocked = law (names_in a) locks state e ((area_in a).older q).key shows inside unlocked
  free_row law inside does unlocked = tt

-- ---- pages

-- an item of a page in each of two lists: the page is there twice
twice_there : (p : ℕ) (xs ys : List SlogItem) → IsAmong (FreeOf p) xs → IsAmong (FreeOf p) ys → 2 ≤ how_many (λ q. q == p) (flat_map page_of_item (xs ++ ys))
twice_there p [] ys in_ too = absurd in_
twice_there p (i ∷ xs) ys (inl is) too =
    let test : ℕ → Bool = λ q. q == p in
    let rest = flat_map page_of_item (xs ++ ys) in
    let here : IsAmong p (page_of_item i) = subst (λ z. IsAmong p (page_of_item z)) is (inl refl) in
    both (how_many test (page_of_item i)) (how_many test rest) (how_many test (page_of_item i ++ rest)) (count_among p (page_of_item i) here)
    (count_among p rest (flat_among page_of_item p (FreeOf p) (xs ++ ys) (among_rest (FreeOf p) xs ys too) (inl refl))) (count_append test (page_of_item i) rest)
  where
    both : (a b c : ℕ) → 1 ≤ a → 1 ≤ b → c ≡ a + b → 2 ≤ c
    both a b c m n is = omega (arith, m, n, is)
twice_there p (i ∷ xs) ys (inr in_) too =
    let test : ℕ → Bool = λ q. q == p in
    let rest = flat_map page_of_item (xs ++ ys) in
    more (how_many test (page_of_item i)) (how_many test rest) (how_many test (page_of_item i ++ rest)) (twice_there p xs ys in_ too) (count_append test (page_of_item i) rest)
  where
    more : (a b c : ℕ) → 2 ≤ b → c ≡ a + b → 2 ≤ c
    more a b c m is = omega (arith, m, is)

-- A page is in one item: where undo's items stand in front, an item behind them isn't one of undo's.
module _ (counted : ℕ) (live : List ℕ) (items mine run : List SlogItem) (area : Area) (owned : AreOwned counted live items area) (are : items ≡ mine ++ run) where
  pub page_spared : (p : ℕ) → IsAmong (FreeOf p) (drop (length mine) items) → IsAmong (FreeOf p) mine → ⊥
  page_spared p behind front =
      let test : ℕ → Bool = λ q. q == p in
      let of_tables = flat_map (table_pages area) entry_numbers in
      let of_items = flat_map page_of_item items in
      let in_run : IsAmong (FreeOf p) run = subst (IsAmong (FreeOf p)) (ap (drop (length mine)) are ∙ drop-append_seam mine run) behind in
      let there : IsAmong (FreeOf p) items = subst (IsAmong (FreeOf p)) (sym are) (among_front (FreeOf p) mine run front) in
      let fits = inside p (among_rest p of_tables of_items (flat_among page_of_item p (FreeOf p) items there (inl refl))) in
      over (area.taken p) (how_many test of_tables) (how_many test of_items) (how_many test (owned_pages items area))
      (subst (λ l. 2 ≤ how_many test (flat_map page_of_item l)) (sym are) (twice_there p mine run front in_run))
      (count_append test of_tables of_items) (owned.once p fits.0 fits.1)
    where
      inside : (q : ℕ) → IsAmong q (owned_pages items area) → (3 ≤ q) × (q < counted) × (area.taken q ≡ true)
      inside q in_ = each_of (λ q. (3 ≤ q) × (q < counted) × (area.taken q ≡ true)) q (owned_pages items area) owned.inside in_

      over : (b : Bool) (a i n : ℕ) → 2 ≤ i → n ≡ a + i → n ≡ cond b 1 0 → ⊥
      over true a i n two sum is = omega (arith, two, sum, is)
      over false a i n two sum is = omega (arith, two, sum, is)

-- ---- entries

-- an entry is freed only where nobody has a lock
pub spares_locked : (locks : List (ℕ × LocksOfSession)) (does : Action) → ((e : ℕ) (title : Title) (left : Area) → does ≡ FreesEntry e title left → (r f : ℕ) (key : ℤ) → session_locks r f key locks ≡ false)
    → SparesLocked locks does
spares_locked locks (FreesEntry e title left) frees = λ r key. frees e title left refl r e key
spares_locked locks does frees = tt
