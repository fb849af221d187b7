-- However many of the records that wait are lost, the rows are those of a prefix of the commit order:
-- over each call of a store.
use Rattle.std.proofs.Common.{◌≡◌, ◌⊎◌, ⊎_elim, inl, inr, ℕ, zero, suc, ◌+◌, ◌≤◌, List, [], ◌∷◌, ◌++◌, length, take, drop, refl, sym, ◌∙◌, ap, subst, arith, length-append}
use Rattle.std.proofs.lemmas.List.{take-append-le, take_all, append-nil}
use Rattle.ctr_disk.specs.Image.{Image}
use Rattle.ctr_rec.specs.declared.record.Record.{Record}
use Rattle.ctr_model.specs.declared.database.Change.{Change}
use Rattle.ctr_model.specs.Database.{Database, after_all}
use Rattle.ctr_passed.specs.area_Chains.{pages_bound}
use Rattle.ctr_store.specs.redo_States.{State, step, steps, counting, grown}
use Rattle.ctr_store.specs.redo_Images.{FoldsTo, FoldsFront, FoldsGrown}
use Rattle.ctr_passed.specs.record_effects_Standing.{IsDatabaseState}
use Rattle.ctr_store.specs.Store.{View, Logs}
use Rattle.ctr_passed.specs.actions_Sites.{site_of}
use Rattle.ctr_kept.specs.ctr_paged.Shown.{Scene, IsShown}
use Rattle.ctr_kept.proofs.paged_Opened.{image_shows}
use Rattle.ctr_passed.proofs.Sound.{sound_grown}
use Rattle.ctr_stops.specs.Fronts.{HasFirst, HasFronts}
use Rattle.ctr_stops.specs.Stops.{HasFirstCommits}

-- ---- records in order

pub steps_more : (xs ys : List Record) (s : State) → steps (xs ++ ys) s ≡ steps ys (steps xs s)
steps_more [] ys s = refl
steps_more (x ∷ xs) ys s = steps_more xs ys (step x s)

pub steps_counting : (n : ℕ) (rs : List Record) (s : State) → steps rs (counting n s) ≡ counting n (steps rs s)
steps_counting n [] s = refl
steps_counting n (r ∷ rs) s = steps_counting n rs (step r s)

pub steps_counted : (rs : List Record) (s : State) → (steps rs s).counted ≡ s.counted
steps_counted [] s = refl
steps_counted (r ∷ rs) s = steps_counted rs (step r s)

-- what is hardened by now, and a front of what waits, is a front of all
front_of : (k j : ℕ) (ws rs : List Record) (h : State) → (m : ℕ) × (steps (take k (drop j ws ++ rs)) (steps (take j ws) h) ≡ steps (take m (ws ++ rs)) h)
front_of k zero ws rs h = (k, refl)
front_of k (suc j) [] rs h = (k, refl)
front_of k (suc j) (w ∷ ws) rs h = let more = front_of k j ws rs (step w h) in (suc more.0, more.1)

whole_of : (j : ℕ) (ws rs : List Record) (h : State) → steps (drop j ws ++ rs) (steps (take j ws) h) ≡ steps (ws ++ rs) h
whole_of zero ws rs h = refl
whole_of (suc j) [] rs h = refl
whole_of (suc j) (w ∷ ws) rs h = whole_of j ws rs (step w h)

abbrev pub no_records : List Record
no_records = []

pub take_none : (m : ℕ) → take m no_records ≡ no_records
take_none zero = refl
take_none (suc m) = refl

-- a front of a list with one more is a front of it, or all
front_or_all : (m : ℕ) (ws : List Record) (r : Record) → (take m (ws ++ r ∷ []) ≡ take m ws) ⊎ (take m (ws ++ r ∷ []) ≡ ws ++ r ∷ [])
front_or_all zero ws r = inl refl
front_or_all (suc m) [] r = inr (ap (λ l. r ∷ l) (take_none m))
front_or_all (suc m) (w ∷ ws) r = ⊎_elim (λ some. inl (ap (λ l. w ∷ l) some)) (λ all. inr (ap (λ l. w ∷ l) all)) (front_or_all m ws r)

-- ---- prefixes of the commit order

pub first_less : (base : Database) (asked : List (List Change)) (least less : ℕ) (s : State) → less ≤ least → HasFirst base asked least s → HasFirst base asked less s
first_less base asked least less s le h = record { k = h.k; at_least = omega (arith, le, h.at_least); at_most = h.at_most; sound = h.sound; rows = h.rows }

pub first_more : (base : Database) (asked more : List (List Change)) (least : ℕ) (s : State) → HasFirst base asked least s → HasFirst base (asked ++ more) least s
first_more base asked more least s h =
    let long : length (asked ++ more) ≡ length asked + length more = length-append asked more in record {
      k = h.k;
      at_least = h.at_least;
      at_most = omega (arith, h.at_most, long);
      sound = h.sound;
      rows = h.rows ∙ ap (λ l. after_all l base) (sym (take-append-le h.k asked more h.at_most));
    }

-- what is shown has all that asked
pub first_shown : (low : ℕ) (s : State) (scene : Scene) → IsDatabaseState s → IsShown low (site_of s) scene → HasFirst scene.state.base scene.state.asked (length scene.state.asked) s
first_shown low s scene sound shown = record {
  k = length scene.state.asked;
  at_least = omega arith;
  at_most = omega arith;
  sound = sound;
  rows = image_shows low (site_of s) scene.run scene.state shown.paged ∙ ap (λ l. after_all l scene.state.base) (sym (take_all (length scene.state.asked) scene.state.asked (omega arith)));
}

-- more pages are counted
pub first_counting : (base : Database) (asked : List (List Change)) (least n : ℕ) (s : State) → s.counted ≤ n → n ≤ pages_bound → HasFirst base asked least s → HasFirst base asked least (counting n s)
first_counting base asked least n s le few h = record { k = h.k; at_least = h.at_least; at_most = h.at_most; sound = sound_grown n s h.sound le few; rows = h.rows }

module _ {D : Type 0} (base : Database) (asked : List (List Change)) (least : ℕ) (a : View D) (has : HasFronts base asked least a) where
  -- ---- calls that answered Ok

  now_with : (rs : List Record) (b : View D) → Logs rs a b → b.now ≡ steps (a.waiting ++ rs) a.hardened
  now_with rs b logs = logs.now ∙ ap (steps rs) has.now ∙ sym (steps_more a.waiting rs a.hardened)

  still_now : (rs : List Record) (b : View D) → Logs rs a b → b.now ≡ steps b.waiting b.hardened
  still_now rs b logs = now_with rs b logs ∙ sym (whole_of logs.j a.waiting rs a.hardened) ∙ (λ i. steps (sym logs.waiting i) (sym logs.hardened i))

  back_to : (rs : List Record) (b : View D) (logs : Logs rs a b) (k : ℕ) → (m : ℕ) × (steps (take k b.waiting) b.hardened ≡ steps (take m (a.waiting ++ rs)) a.hardened)
  back_to rs b logs k = let one = front_of k logs.j a.waiting rs a.hardened in (one.0, (λ i. steps (take k (logs.waiting i)) (logs.hardened i)) ∙ one.1)

  -- a record is logged, and what is then shown has so many of these that asked
  pub fronts_logged : (r : Record) (more : List (List Change)) (b : View D) → Logs (r ∷ []) a b → HasFirst base (asked ++ more) least b.now → HasFronts base (asked ++ more) least b
  fronts_logged r more b logs first = record {
    fronts = λ k. let one = back_to (r ∷ []) b logs k in
        subst (HasFirst base (asked ++ more) least) (sym one.1) (⊎_elim
        (λ some. subst (HasFirst base (asked ++ more) least) (ap (λ l. steps l a.hardened) (sym some)) (first_more base asked more least (steps (take one.0 a.waiting) a.hardened) (has.fronts one.0)))
        (λ all. subst (HasFirst base (asked ++ more) least) (now_with (r ∷ []) b logs ∙ ap (λ l. steps l a.hardened) (sym all)) first)
        (front_or_all one.0 a.waiting r));
    now = still_now (r ∷ []) b logs;
  }

  -- records are hardened, pages go home, a page is read
  pub fronts_same : (b : View D) → Logs [] a b → HasFronts base asked least b
  fronts_same b logs = record {
    fronts = λ k. let one = back_to [] b logs k in
        subst (HasFirst base asked least) (sym (one.1 ∙ ap (λ l. steps (take one.0 l) a.hardened) (append-nil a.waiting))) (has.fronts one.0);
    now = still_now [] b logs;
  }

  -- all is hardened: nothing that asked can be lost
  pub fronts_answered : (n : ℕ) (b : View D) → Logs [] a b → b.waiting ≡ [] → HasFirst base asked n b.now → HasFronts base asked n b
  fronts_answered n b logs none first = record {
    fronts = λ k. subst (HasFirst base asked n) (still_now [] b logs ∙ ap (λ l. steps l b.hardened) none ∙ ap (λ l. steps l b.hardened) (sym (take_none k)) ∙ ap (λ l. steps (take k l) b.hardened) (sym none)) first;
    now = still_now [] b logs;
  }

  -- the file grows
  pub fronts_grown : (n : ℕ) (b : View D) → a.hardened.counted ≤ n → n ≤ pages_bound → b.waiting ≡ a.waiting → b.hardened ≡ counting n a.hardened → b.now ≡ counting n a.now → HasFronts base asked least b
  fronts_grown n b le few waiting hardened now = record {
    fronts = λ k. subst (HasFirst base asked least) (sym ((λ i. steps (take k (waiting i)) (hardened i)) ∙ steps_counting n (take k a.waiting) a.hardened))
        (first_counting base asked least n (steps (take k a.waiting) a.hardened) (subst (λ c. c ≤ n) (sym (steps_counted (take k a.waiting) a.hardened)) le) few (has.fronts k));
    now = now ∙ ap (counting n) has.now ∙ sym (steps_counting n a.waiting a.hardened) ∙ (λ i. steps (sym waiting i) (sym hardened i));
  }

  -- ---- images, inside a call too, however it ends

  pub image_in_call : (c : Image) → FoldsFront a.hardened a.waiting c → HasFirstCommits base asked least c
  image_in_call c folds = let h = has.fronts folds.0 in record {
    k = h.k;
    at_least = h.at_least;
    at_most = h.at_most;
    stands = record { state = steps (take folds.0 a.waiting) a.hardened; stands = record { folds = folds.1; sound = h.sound }; rows_are = h.rows };
  }

  pub image_in_growth : (c : Image) → a.hardened.counted ≤ grown a.hardened.counted → grown a.hardened.counted ≤ pages_bound → FoldsGrown a.hardened c → HasFirstCommits base asked least c
  image_in_growth c le few folds = ⊎_elim (λ old. of_state a.hardened (has.fronts 0) old)
      (λ new. of_state (counting (grown a.hardened.counted) a.hardened) (first_counting base asked least (grown a.hardened.counted) a.hardened le few (has.fronts 0)) new) folds
    where
      of_state : (s : State) → HasFirst base asked least s → FoldsTo c s → HasFirstCommits base asked least c
      of_state s h folds = record { k = h.k; at_least = h.at_least; at_most = h.at_most; stands = record { state = s; stands = record { folds = folds; sound = h.sound }; rows_are = h.rows } }
