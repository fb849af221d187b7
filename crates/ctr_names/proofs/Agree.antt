-- What leaves all chains as they were: an entry that is freed, and other tests of who is committed.
use Rattle.std.proofs.Common.{Bool, List, Option, ap, arith, cond, false, inl, inr, map, refl, subst, suc, sym, true, zero, ℕ, ⊎_elim, ◌+◌, ◌<◌, ◌==◌, ◌∙◌, ◌≡◌, ◌≤◌, ◌⊎◌}
use Rattle.std.specs.FinMap.Entries.{put}
use Rattle.std.specs.List.{filter}
use Rattle.std.specs.Prelude.{◌&&◌, ◌||◌}
use Rattle.std.proofs.lemmas.Bool.{and_parts, cases_lt, eq-eqb, eqb-true, false≢true}
use Rattle.ctr_record_laws.specs.model_Database.{name_cmp}
use Rattle.ctr_record_laws.specs.model_State.{same_name}
use Rattle.ctr_record_laws.specs.versions_Versions.{Made}
use Rattle.ctr_record_laws.proofs.versions_Keys.{known}
use Rattle.ctr_record_laws.specs.rec_SlogItem.TheVariants.{DropOf}
use Rattle.ctr_record_laws.specs.meta_Effects.{committed, forgotten_by, opened_by, rolled_back}
use Rattle.ctr_record_laws.specs.meta_Tables.{Tables, is_in}
use Rattle.ctr_record_laws.specs.area_Areas.{Area, Title, no_pages}
use Rattle.ctr_record_laws.specs.area_Changes.{ChangesEntry, with_title}
use Rattle.ctr_record_laws.specs.area_Images.{all_numbered, entry_numbers, is_committed_in, is_dropped_later, is_live, is_named_so, is_newer, name_chain, name_versions, names_gathered, newest_first, rows_of_entry, versions_in}
use Rattle.ctr_record_laws.specs.area_Sound.{IsAmong, IsSoundArea, xids_in}
use Rattle.ctr_record_laws.specs.Owed.{OwedByAbort, OwedByCommit, OwedByFreeing}
use Rattle.ctr_record_laws.proofs.Abort.{abort_agrees}
use Rattle.ctr_record_laws.proofs.Begin.{begin_test}
use Rattle.ctr_record_laws.proofs.Cleaned.{committed_some}
use Rattle.ctr_record_laws.proofs.Commit.{commit_here, commit_others}
use Rattle.ctr_record_laws.proofs.Forget.{forget_agrees}
use Rattle.ctr_record_laws.proofs.Latest.{live_open, live_some, title_apart, title_here}
use Rattle.ctr_record_laws.proofs.Xids.{in_among}
use Rattle.ctr_names.specs.Stand.{IsDropNewer}
use Rattle.ctr_names.proofs.Entries.{left_same, name_of, numbered, pairs_named}
use Rattle.ctr_names.proofs.Order.{IsEarlier, IsSameOrder, commit_order, same_sorted}
use Rattle.ctr_names.proofs.Rows.{entry_versions}

-- ---- names of live entries, where one that isn't live changes to one that isn't

module _ (committed : ℕ → Bool) (area : Area) (e : ℕ) (u : Title) (was : is_live (area.title e) ≡ false) (is : is_live u ≡ false) where
  abbrev after : Area
  after = with_title e u area

  chains_same : (name : List ℕ) → name_chain committed after.title name ≡ name_chain committed area.title name
  unfolding entry_numbers
  chains_same name = ap (λ es. name_versions (newest_first committed es)) (left_same e area.title after.title (λ f apart. title_apart area e u f apart) (is_named_so name)
      (ap (λ (v : Title). is_live v && same_name name v.name) (title_here area e u) ∙ ap (λ b. b && same_name name u.name) is) (ap (λ b. b && same_name name (area.title e).name) was) 0 32)

  gathered_names : (chain chain' : List ℕ → List (ℕ × Option Made)) → ((name : List ℕ) → chain' name ≡ chain name) → (k n : ℕ) → names_gathered chain' (numbered after.title k n) ≡ names_gathered chain (numbered area.title k n)
  gathered_names chain chain' same k zero = refl
  gathered_names chain chain' same k (suc n) =
      let rest = gathered_names chain chain' same (k + 1) n in
      known (k == e)
      (λ here. let same_ = eqb-true k e here in
      ap (λ b. cond b (put name_cmp (after.title k).name (chain' (after.title k).name) (names_gathered chain' (numbered after.title (k + 1) n))) (names_gathered chain' (numbered after.title (k + 1) n)))
      (ap (λ f. is_live (after.title f)) same_ ∙ ap is_live (title_here area e u) ∙ is) ∙ rest
      ∙ sym (ap (λ b. cond b (put name_cmp (area.title k).name (chain (area.title k).name) (names_gathered chain (numbered area.title (k + 1) n))) (names_gathered chain (numbered area.title (k + 1) n))) (ap (λ f. is_live (area.title f)) same_ ∙ was)))
      (λ there. let o = title_apart area e u k (λ same_. false≢true (sym there ∙ eq-eqb k e same_)) in
      λ i. cond (is_live (o i)) (put name_cmp (o i).name (same (o i).name i) (rest i)) (rest i))

  pub unlive_same : versions_in committed after ≡ versions_in committed area
  unfolding entry_numbers
  unlive_same = λ i. record {
    names = gathered_names (name_chain committed area.title) (name_chain committed after.title) chains_same 0 32 i;
    slots = map (λ f. (f, rows_of_entry area f)) entry_numbers;
  }

-- an entry of a dead table is freed
pub freed_same : (counted : ℕ) (tables : Tables) (area new : Area) (e : ℕ) (title : Title) (committed : ℕ → Bool) → IsSoundArea counted tables area → OwedByFreeing area e → title.state ≡ 0 → ChangesEntry e title no_pages area new → versions_in committed new ≡ versions_in committed area
freed_same counted tables area new e title committed sound owed free changes =
    entry_versions counted tables area e no_pages sound owed.inside (tt, refl) (owed.no_rows, owed.no_versions) title new changes committed
    ∙ unlive_same committed area e title (ap (λ n. n == 1) owed.dead) (ap (λ n. n == 1) free)

-- ---- others are committed

versions_agree : (old new : ℕ → Bool) (area : Area) → ((name : List ℕ) → name_chain new area.title name ≡ name_chain old area.title name) → versions_in new area ≡ versions_in old area
versions_agree old new area same_ = λ i. record {
  names = names_gathered (λ name. same_ name i) (all_numbered area.title);
  slots = map (λ e. (e, rows_of_entry area e)) entry_numbers;
}

pub chains_agree : (old new : ℕ → Bool) (title : ℕ → Title) (name : List ℕ) → ((e f : ℕ) → e < 32 → f < 32 → is_named_so name (e, title e) ≡ true → is_named_so name (f, title f) ≡ true → is_newer new (title e) (title f) ≡ is_newer old (title e) (title f))
    → name_chain new title name ≡ name_chain old title name
unfolding entry_numbers
chains_agree old new title name same_ = ap name_versions (same_sorted old new (filter (is_named_so name) (numbered title 0 32)) (pairs_named title name (IsSameOrder old new) 0 32 (omega arith) (λ e f before lt_e lt_f is_e is_f. same_ e f lt_e lt_f is_e is_f)))

-- who dropped an entry counts as before
newer_agree : (old new : ℕ → Bool) (a b : Title) → new a.dropper ≡ old a.dropper → new b.dropper ≡ old b.dropper → is_newer new a b ≡ is_newer old a b
newer_agree old new a b same_a same_b = λ i. cond (same_a i) (same_b i && is_dropped_later a b) (same_b i || is_dropped_later a b)

pub droppers_agree : (old new : ℕ → Bool) (area : Area) → ((f : ℕ) → f < 32 → is_live (area.title f) ≡ true → new (area.title f).dropper ≡ old (area.title f).dropper) → versions_in new area ≡ versions_in old area
droppers_agree old new area same_ = versions_agree old new area (λ name. chains_agree old new area.title name
    (λ e f lt_e lt_f is_e is_f. newer_agree old new (area.title e) (area.title f) (same_ e lt_e (alive name e is_e)) (same_ f lt_f (alive name f is_f))))
  where
    alive : (name : List ℕ) (e : ℕ) → is_named_so name (e, area.title e) ≡ true → is_live (area.title e) ≡ true
    alive name e is = (and_parts (is_live (area.title e)) (same_name name (area.title e).name) is).0

-- one that passes, or none does
pub search_below : (test : ℕ → Bool) (n : ℕ) → ((e : ℕ) × (e < n) × (test e ≡ true)) ⊎ ((f : ℕ) → f < n → test f ≡ false)
search_below test zero = inr (λ f lt. absurd (omega (arith, lt)))
search_below test (suc n) = ⊎_elim
    (λ found. inl (found.0, omega (arith, found.1), found.2))
    (λ none. known (test n) (λ is. inl (n, omega arith, is)) (λ isnt. inr (λ f lt. ⊎_elim (λ below. none f below) (λ ge. ap test (last f n lt ge) ∙ isnt) (cases_lt f n))))
    (search_below test n)
  where
    last : (f n : ℕ) → f < suc n → n ≤ f → f ≡ n
    last f n lt ge = omega (arith, lt, ge)

-- ---- a transaction begins, commits, is rolled back or forgotten

pub begin_same : (counted : ℕ) (tables : Tables) (area : Area) → IsSoundArea counted tables area → 0 < tables.next → versions_in (is_committed_in (opened_by tables.next tables)) area ≡ versions_in (is_committed_in tables) area
begin_same counted tables area sound some = ap (λ test. versions_in test area) (begin_test counted tables area sound some)

module _ (counted : ℕ) (tables : Tables) (area : Area) (sound : IsSoundArea counted tables area) (x : ℕ) where
  pub abort_same : OwedByAbort tables x → versions_in (is_committed_in (rolled_back x tables)) area ≡ versions_in (is_committed_in tables) area
  abort_same owed = droppers_agree (is_committed_in tables) (is_committed_in (rolled_back x tables)) area (abort_agrees counted tables area x sound owed).droppers

  pub forget_same : is_in x tables.aborted ≡ true → versions_in (is_committed_in (forgotten_by x tables)) area ≡ versions_in (is_committed_in tables) area
  forget_same is = droppers_agree (is_committed_in tables) (is_committed_in (forgotten_by x tables)) area (forget_agrees counted tables area x sound is).droppers

  module _ (owed : OwedByCommit tables x) (newer : IsDropNewer tables area.title x) where
    abbrev now : Tables
    now = committed x tables

    x_live : IsAmong x (xids_in tables.opens)
    x_live = in_among x tables.opens owed.is_open

    x_open : is_committed_in tables x ≡ false
    x_open = live_open counted tables area sound x x_live

    some : 0 < x
    some = live_some counted tables area sound x x_live

    nonzero : x ≡ 0 → ⊥
    nonzero none = not_zero x some none
      where
        not_zero : (x : ℕ) → 0 < x → x ≡ 0 → ⊥
        not_zero x lt none = omega (arith, lt, none)

    now_here : is_committed_in now x ≡ true
    now_here = commit_here counted tables area x sound owed

    now_others : (y : ℕ) → (y ≡ x → ⊥) → is_committed_in now y ≡ is_committed_in tables y
    now_others = commit_others counted tables area x sound owed

    dropped_item : (e : ℕ) → e < 32 → is_live (area.title e) ≡ true → (area.title e).dropper ≡ x → IsAmong (DropOf x e) tables.items
    dropped_item e lt alive is = ⊎_elim
        (λ none. absurd (nonzero (sym is ∙ none)))
        (λ more. ⊎_elim (λ c. absurd (false≢true (sym x_open ∙ ap (is_committed_in tables) (sym is) ∙ c))) (λ its. subst (λ y. IsAmong (DropOf y e) tables.items) is its.1) more)
        (sound.names.droppers e lt alive)

    -- where it dropped a table of the name, every other drop of the name is its own, or an earlier one
    earlier_drop : (e f : ℕ) → e < 32 → f < 32 → is_live (area.title e) ≡ true → is_live (area.title f) ≡ true → (area.title e).name ≡ (area.title f).name → (area.title e).dropper ≡ x
        → IsEarlier (is_committed_in tables) (is_committed_in now) x nonzero x_open now_here now_others refl (area.title f)
    earlier_drop e f lt_e lt_f live_e live_f names is = ⊎_elim
        (λ none. inl none)
        (λ more. inr (⊎_elim
        (λ c. inr (c, committed_some tables (area.title f).dropper c, newer e f lt_e lt_f live_e live_f names is c))
        (λ its. inl (sound.names.of_one (area.title f).dropper x f e (inr its.1) (inr (dropped_item e lt_e live_e is)) (sym names))) more))
        (sound.names.droppers f lt_f live_f)

    pub commit_same : versions_in (is_committed_in now) area ≡ versions_in (is_committed_in tables) area
    commit_same = versions_agree (is_committed_in tables) (is_committed_in now) area by_name
      where
        by_name : (name : List ℕ) → name_chain (is_committed_in now) area.title name ≡ name_chain (is_committed_in tables) area.title name
        by_name name = ⊎_elim
            (λ found. let one = and_parts (is_named_so name (found.0, area.title found.0)) ((area.title found.0).dropper == x) found.2 in
            let mine = name_of area.title name found.0 one.0 in
            let is = eqb-true (area.title found.0).dropper x one.1 in
            chains_agree (is_committed_in tables) (is_committed_in now) area.title name (λ e f lt_e lt_f is_e is_f.
            let e_named = name_of area.title name e is_e in
            let f_named = name_of area.title name f is_f in
            commit_order (is_committed_in tables) (is_committed_in now) x nonzero x_open now_here now_others refl (area.title e) (area.title f)
            (earlier_drop found.0 e found.1 lt_e mine.0 e_named.0 (mine.1 ∙ sym e_named.1) is) (earlier_drop found.0 f found.1 lt_f mine.0 f_named.0 (mine.1 ∙ sym f_named.1) is)))
            (λ none. chains_agree (is_committed_in tables) (is_committed_in now) area.title name (λ e f lt_e lt_f is_e is_f.
            let apart : (g : ℕ) → g < 32 → is_named_so name (g, area.title g) ≡ true → (area.title g).dropper ≡ x → ⊥ =
            λ g lt is_g is. false≢true (sym (none g lt) ∙ (λ i. is_g i && eq-eqb (area.title g).dropper x is i)) in
            newer_agree (is_committed_in tables) (is_committed_in now) (area.title e) (area.title f) (now_others (area.title e).dropper (apart e lt_e is_e)) (now_others (area.title f).dropper (apart f lt_f is_f))))
            (search_below (λ e. is_named_so name (e, area.title e) && ((area.title e).dropper == x)) 32)
