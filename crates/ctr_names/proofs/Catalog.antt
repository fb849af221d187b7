-- Where one title changes, the chain of its name alone does: and a new one writes it.
use Rattle.std.proofs.Common.{Bool, List, None, Option, Some, [], ap, arith, cond, false, not, refl, subst, suc, sym, true, zero, ℕ, ⊎_elim, ◌+◌, ◌<◌, ◌==◌, ◌∙◌, ◌∷◌, ◌≡◌, ◌≤◌}
use Rattle.std.specs.List.{AllByRecursion, filter}
use Rattle.std.specs.Prelude.{is_some, ◌&&◌}
use Rattle.std.proofs.Math.Bool.{and-false}
use Rattle.std.proofs.lemmas.Bool.{and_parts, cases_eq, eq-eqb, eqb-true, false≢true, ne_eqb}
use Rattle.ctr_record_laws.specs.model_State.{same_name}
use Rattle.ctr_record_laws.specs.versions_Chains.{Numbers, newest}
use Rattle.ctr_record_laws.specs.versions_Changes.{write}
use Rattle.ctr_record_laws.specs.versions_Versions.{Made, NamesSet}
use Rattle.ctr_record_laws.proofs.versions_Keys.{known, same_text}
use Rattle.ctr_record_laws.proofs.versions_Written.{same_itself}
use Rattle.ctr_record_laws.specs.area_Areas.{Area, Title}
use Rattle.ctr_record_laws.specs.area_Changes.{with_title}
use Rattle.ctr_record_laws.specs.area_Images.{Numbered, all_numbered, all_put_first, entry_numbers, is_live, is_named_so, is_newer, made_by_entry, name_chain, name_versions, newest_first, placed, put_first, versions_by_entry, versions_in}
use Rattle.ctr_record_laws.proofs.Latest.{title_apart, title_here}
use Rattle.ctr_names.proofs.Chains.{Version, undropped_versions}
use Rattle.ctr_names.proofs.Entries.{all_passing, all_sorted, left_same, numbered}
use Rattle.ctr_names.proofs.Later.{earlier_none, later_none, newer_later, older_earlier}
use Rattle.ctr_names.proofs.Names.{names_here, sorted-names}

-- the entry is newer than each of the others of its name
abbrev pub IsNewest : (ℕ → Bool) → Title → (ℕ → Title) → List ℕ → ℕ → Type 0
IsNewest committed title titles name e = (f : ℕ) → f < 32 → (f ≡ e → ⊥) → is_named_so name (f, titles f) ≡ true → (is_newer committed title (titles f) ≡ true) × (is_newer committed (titles f) title ≡ false)

-- an entry of the name, but not this one
abbrev pub is_other : ℕ → List ℕ → Numbered → Bool
is_other e name f = not (f.0 == e) && is_named_so name f

other_parts : (e : ℕ) (name : List ℕ) (f : Numbered) → is_other e name f ≡ true → (f.0 ≡ e → ⊥) × (is_named_so name f ≡ true)
other_parts e name f is = let parts = and_parts (not (f.0 == e)) (is_named_so name f) is in (λ same. false≢true (sym (ap not (eq-eqb f.0 e same)) ∙ parts.0), parts.1)

other_is : (e : ℕ) (name : List ℕ) (f : Numbered) → (f.0 ≡ e → ⊥) → is_other e name f ≡ is_named_so name f
other_is e name f apart = ap (λ b. not b && is_named_so name f) (ne_eqb f.0 e apart)

other_isnt : (e : ℕ) (name : List ℕ) (title : Title) → is_other e name (e, title) ≡ false
other_isnt e name title = ap (λ b. not b && is_named_so name (e, title)) (eq-eqb e e refl)

module _ (committed : ℕ → Bool) (name : List ℕ) (e : ℕ) (titles : ℕ → Title) where
  abbrev IsOlder : Title → Numbered → Type 0
  IsOlder title f = (is_newer committed title f.1 ≡ true) × (is_newer committed f.1 title ≡ false)

  placed_front : (title : Title) (fs : List Numbered) → AllByRecursion (IsOlder title) fs → placed committed (e, title) fs ≡ (e, title) ∷ fs
  placed_front title [] all = refl
  placed_front title (f ∷ fs) all = ap (λ b. cond b ((e, title) ∷ f ∷ fs) (f ∷ placed committed (e, title) fs)) all.0.0

  placed_behind : (title : Title) (f : Numbered) (fs : List Numbered) → is_newer committed f.1 title ≡ false → placed committed f ((e, title) ∷ fs) ≡ (e, title) ∷ placed committed f fs
  placed_behind title f fs older = ap (λ b. cond b (f ∷ (e, title) ∷ fs) ((e, title) ∷ placed committed f fs)) older

  older_all : (title : Title) → IsNewest committed title titles name e → (k n : ℕ) → k + n ≤ 32 → AllByRecursion (IsOlder title) (filter (is_other e name) (numbered titles k n))
  older_all title newest k n within = all_passing titles (is_other e name) (IsOlder title) k n within
      (λ f le lt is. let parts = other_parts e name (f, titles f) is in newest f lt parts.0 parts.1)

  -- The newest entry of a name stands in front, whatever its number. The others are read in `titles`, and all
  -- in `now`, which differ at the entry alone.
  module _ (now : ℕ → Title) (same_ : (f : ℕ) → (f ≡ e → ⊥) → now f ≡ titles f) (is_named_now : is_named_so name (e, now e) ≡ true) (newest : IsNewest committed (now e) titles name e) where
    now_is : (k : ℕ) (ns os : List Numbered) → (k ≡ e → ⊥) → cond (is_named_so name (k, now k)) ((k, now k) ∷ ns) ns ≡ cond (is_other e name (k, titles k)) ((k, titles k) ∷ ns) ns
    now_is k ns os apart = (λ i. cond (is_named_so name (k, same_ k apart i)) ((k, same_ k apart i) ∷ ns) ns) ∙ ap (λ b. cond b ((k, titles k) ∷ ns) ns) (sym (other_is e name (k, titles k) apart))

    -- past the entry there are others alone
    past : (k n : ℕ) → e < k → filter (is_named_so name) (numbered now k n) ≡ filter (is_other e name) (numbered titles k n)
    past k zero lt = refl
    past k (suc n) lt =
        let rest = past (k + 1) n (omega (arith, lt)) in
        now_is k (filter (is_named_so name) (numbered now (k + 1) n)) [] (λ is. omega (arith, lt, is)) ∙ ap (λ l. cond (is_other e name (k, titles k)) ((k, titles k) ∷ l) l) rest

    in_front : (k n : ℕ) → k + n ≤ 32 → k ≤ e → e < k + n → newest_first committed (filter (is_named_so name) (numbered now k n)) ≡ (e, now e) ∷ newest_first committed (filter (is_other e name) (numbered titles k n))
    in_front k zero within from to = absurd (omega (arith, from, to))
    in_front k (suc n) within from to = known (k == e)
        (λ is. let here = eqb-true k e is in
        let others = filter (is_other e name) (numbered titles (k + 1) n) in
        ap (newest_first committed) (ap (λ b. cond b ((k, now k) ∷ filter (is_named_so name) (numbered now (k + 1) n)) (filter (is_named_so name) (numbered now (k + 1) n))) (ap (λ f. is_named_so name (f, now f)) here ∙ is_named_now))
        ∙ (λ i. placed committed (here i, now (here i)) (newest_first committed (past (k + 1) n (omega (arith, here)) i)))
        ∙ placed_front (now e) (newest_first committed others) (all_sorted committed (IsOlder (now e)) others (older_all (now e) newest (k + 1) n (omega (arith, within))))
        ∙ ap (λ fs. (e, now e) ∷ newest_first committed fs) (sym (ap (λ b. cond b ((k, titles k) ∷ others) others) (ap (λ f. is_other e name (f, titles k)) here ∙ other_isnt e name (titles k)))))
        (λ isnt. let apart : (k ≡ e → ⊥) = λ same_e. false≢true (sym isnt ∙ eq-eqb k e same_e) in
        let rest = in_front (k + 1) n (omega (arith, within)) (later k from apart) (omega (arith, to)) in
        let others = filter (is_other e name) (numbered titles (k + 1) n) in
        let nows = filter (is_named_so name) (numbered now (k + 1) n) in
        ap (newest_first committed) (now_is k nows others apart) ∙ known (is_other e name (k, titles k))
        (λ has_. ap (λ b. newest_first committed (cond b ((k, titles k) ∷ nows) nows)) has_ ∙ ap (placed committed (k, titles k)) rest
        ∙ placed_behind (now e) (k, titles k) (newest_first committed others) (newest k (omega (arith, within)) apart (other_parts e name (k, titles k) has_).1).1
        ∙ ap (λ fs. (e, now e) ∷ newest_first committed fs) (sym (ap (λ b. cond b ((k, titles k) ∷ others) others) has_)))
        (λ hasnt. ap (λ b. newest_first committed (cond b ((k, titles k) ∷ nows) nows)) hasnt ∙ rest
        ∙ ap (λ fs. (e, now e) ∷ newest_first committed fs) (sym (ap (λ b. cond b ((k, titles k) ∷ others) others) hasnt))))
      where
        later : (k : ℕ) → k ≤ e → (k ≡ e → ⊥) → k + 1 ≤ e
        later k from apart = omega (arith, from, apart)

    -- the versions of the newest entry, before the chain of the others
    pub chain_front : e < 32 → name_chain committed now name ≡ all_put_first (versions_by_entry (e, now e)) (name_versions (newest_first committed (filter (is_other e name) (all_numbered titles))))
    unfolding entry_numbers
    chain_front inside = ap name_versions (in_front 0 32 (omega arith) (omega arith) (omega (arith, inside)))

-- an entry that isn't dropped is newer than those that are
pub create_newest : (committed : ℕ → Bool) (titles : ℕ → Title) (e : ℕ) (title : Title) (name : List ℕ) → committed 0 ≡ false → title.dropper ≡ 0
    → ((f : ℕ) → f < 32 → (f ≡ e → ⊥) → is_named_so name (f, titles f) ≡ true → (titles f).dropper ≡ 0 → ⊥) → IsNewest committed title titles name e
create_newest committed titles e title name nobody none dropped f lt apart is =
    let stays : committed title.dropper ≡ false = ap committed none ∙ nobody in (
      newer_later committed title (titles f) stays (later_none title (titles f) none),
      older_earlier committed (titles f) title stays (earlier_none (titles f) title (dropped f lt apart is) none),
    )

-- ---- a version in front is a write

-- a head that isn't committed is by this transaction
abbrev pub IsOwnOrCommitted : Numbers → ℕ → List Version → Type 0
IsOwnOrCommitted number x [] = Unit {0}
IsOwnOrCommitted number x (h ∷ rest) = (number h.0 ≡ None) → h.0 ≡ x

pub merged_write : (number : Numbers) (x : ℕ) → number x ≡ None → (v : Option Made) (chain : List Version) → IsOwnOrCommitted number x chain → put_first (x, v) chain ≡ write number x v chain
merged_write number x open_ v [] own = refl
merged_write number x open_ v (h ∷ rest) own = by_number (number h.0) refl
  where
    by_number : (o : Option ℕ) → number h.0 ≡ o → put_first (x, v) (h ∷ rest) ≡ write number x v (h ∷ rest)
    by_number None is = ap (λ b. cond b ((x, v) ∷ rest) ((x, v) ∷ h ∷ rest)) (eq-eqb x h.0 (sym (own is))) ∙ sym (ap (λ o. cond (is_some o) ((x, v) ∷ h ∷ rest) ((x, v) ∷ rest)) is)
    by_number (Some c) is =
        ap (λ b. cond b ((x, v) ∷ rest) ((x, v) ∷ h ∷ rest)) (ne_eqb x h.0 (λ same_. false≢true (sym (ap is_some (sym (ap number same_) ∙ open_)) ∙ ap is_some is)))
        ∙ sym (ap (λ o. cond (is_some o) ((x, v) ∷ h ∷ rest) ((x, v) ∷ rest)) is)

-- ---- one title of an area

-- two names that are apart are so both ways
pub other_name : (a b : List ℕ) → same_name a b ≡ false → same_name b a ≡ false
other_name a b apart = known (same_name b a)
    (λ is. absurd (false≢true (sym apart ∙ ap (same_name a) (same_text b a is) ∙ same_itself a)))
    (λ isnt. isnt)

-- a title that keeps its name is of no other
pub apart_names : (titles : ℕ → Title) (name : List ℕ) (e : ℕ) (title : Title) → (titles e).name ≡ name → title.name ≡ name → (other : List ℕ) → same_name name other ≡ false → (is_named_so other (e, titles e) ≡ false) × (is_named_so other (e, title) ≡ false)
apart_names titles name e title was is other apart = (
  ap (λ n. is_live (titles e) && same_name other n) was ∙ ap (λ b. is_live (titles e) && b) (other_name name other apart) ∙ and-false (is_live (titles e)),
  ap (λ n. is_live title && same_name other n) is ∙ ap (λ b. is_live title && b) (other_name name other apart) ∙ and-false (is_live title),
)

module _ (committed : ℕ → Bool) (area : Area) (e : ℕ) (title : Title) (name : List ℕ) where
  abbrev after : Area
  after = with_title e title area

  -- the chain of the other entries of the name
  abbrev pub others_chain : List Version
  others_chain = name_versions (newest_first committed (filter (is_other e name) (all_numbered area.title)))

  -- one entry changes, and with it the chain of its name alone
  pub title_set : (chain : List Version) → name_chain committed after.title name ≡ chain
      → ((other : List ℕ) → same_name name other ≡ false → (is_named_so other (e, area.title e) ≡ false) × (is_named_so other (e, title) ≡ false)) → NamesSet (versions_in committed area) (versions_in committed after) name chain
  unfolding entry_numbers
  title_set chain is apart = record {
    slots = λ id. refl;
    sorted = sorted-names (name_chain committed after.title) (all_numbered after.title);
    here = names_here committed after name ∙ is;
    others = λ other isnt. names_here committed after other
        ∙ ap (λ fs. name_versions (newest_first committed fs)) (left_same e area.title after.title (title_apart area e title) (is_named_so other) (ap (λ t. is_named_so other (e, t)) (title_here area e title) ∙ (apart other isnt).1) (apart other isnt).0 0 32)
        ∙ sym (names_here committed area other);
  }

  -- Create: a free entry becomes the newest
  pub create_chain : (number : Numbers) (x : ℕ) → number x ≡ None → e < 32 → IsOwnOrCommitted number x (name_chain committed area.title name) → title.dropper ≡ 0 → title.creator ≡ x → is_named_so name (e, title) ≡ true → is_named_so name (e, area.title e) ≡ false
      → IsNewest committed title area.title name e → name_chain committed after.title name ≡ write number x (Some (made_by_entry (e, title))) (name_chain committed area.title name)
  unfolding entry_numbers
  create_chain number x open_ inside own none mine is wasnt newest =
      chain_front committed name e area.title after.title (title_apart area e title) (ap (λ t. is_named_so name (e, t)) (title_here area e title) ∙ is) (subst (λ t. IsNewest committed t area.title name e) (sym (title_here area e title)) newest) inside
      ∙ ap (λ t. all_put_first (versions_by_entry (e, t)) others_chain) (title_here area e title)
      ∙ ap (λ vs. all_put_first vs others_chain) (undropped_versions (e, title) none)
      ∙ (λ i. put_first (mine i, Some (made_by_entry (e, title))) (name_versions (newest_first committed (not_other 0 32 i))))
      ∙ merged_write number x open_ (Some (made_by_entry (e, title))) (name_chain committed area.title name) own
    where
      -- the entry as it was is of no name, so the others are all
      not_other : (k n : ℕ) → filter (is_other e name) (numbered area.title k n) ≡ filter (is_named_so name) (numbered area.title k n)
      not_other k zero = refl
      not_other k (suc n) = λ i. cond (test k i) ((k, area.title k) ∷ not_other (k + 1) n i) (not_other (k + 1) n i)
        where
          test : (k : ℕ) → is_other e name (k, area.title k) ≡ is_named_so name (k, area.title k)
          test k = ⊎_elim
              (λ is. ap (λ k. is_other e name (k, area.title k)) is ∙ other_isnt e name (area.title e) ∙ sym (ap (λ k. is_named_so name (k, area.title k)) is ∙ wasnt))
              (other_is e name (k, area.title k)) (cases_eq k e)
