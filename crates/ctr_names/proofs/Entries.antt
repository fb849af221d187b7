-- Lists of entries of the catalog: those of a name, in pairs, and sorted, the newest first.
use Rattle.std.proofs.Common.{Bool, List, None, Option, Some, [], ap, arith, cond, false, inl, inr, map, not, refl, subst, suc, sym, true, zero, ℕ, ⊎_elim, ◌++◌, ◌+◌, ◌<◌, ◌==◌, ◌∙◌, ◌∷◌, ◌≡◌, ◌≤◌, ◌⊎◌}
use Rattle.std.specs.List.{AllByRecursion, filter}
use Rattle.std.specs.Prelude.{◌&&◌}
use Rattle.std.proofs.lemmas.Bool.{and_parts, eq-eqb, eqb-true, false≢true, true≢false}
use Rattle.ctr_record_laws.specs.model_State.{same_name}
use Rattle.ctr_record_laws.proofs.versions_Keys.{known, same_text}
use Rattle.ctr_record_laws.proofs.versions_Written.{same_itself}
use Rattle.ctr_record_laws.specs.area_Areas.{Title}
use Rattle.ctr_record_laws.specs.area_Images.{Numbered, is_live, is_named_so, is_newer, newest_first, numbers, placed}
use Rattle.ctr_names.proofs.Later.{newer_in, older_out}

-- ---- all entries, and those of a name

abbrev pub numbered : (ℕ → Title) → ℕ → ℕ → List Numbered
numbered title k n = map (λ e. (e, title e)) (numbers k n)

-- each with each behind it
abbrev pub InPairs : (Numbered → Numbered → Type 0) → List Numbered → Type 0
InPairs Q [] = Unit {0}
InPairs Q (e ∷ es) = AllByRecursion (Q e) es × InPairs Q es

-- an entry of the name is live, and has it
pub name_of : (title : ℕ → Title) (name : List ℕ) (f : ℕ) → is_named_so name (f, title f) ≡ true → (is_live (title f) ≡ true) × ((title f).name ≡ name)
name_of title name f is = let parts = and_parts (is_live (title f)) (same_name name (title f).name) is in (parts.0, sym (same_text name (title f).name parts.1))

pub named_so : (title : ℕ → Title) (name : List ℕ) (f : ℕ) → is_live (title f) ≡ true → (title f).name ≡ name → is_named_so name (f, title f) ≡ true
named_so title name f alive is = (λ i. alive i && same_name name (is i)) ∙ same_itself name

module _ (title : ℕ → Title) (test : Numbered → Bool) where
  -- what is counted in where it passes
  one_more : (k : ℕ) (rest : List Numbered) (P : List Numbered → Type 0) → (test (k, title k) ≡ true → P ((k, title k) ∷ rest)) → (test (k, title k) ≡ false → P rest) → P (cond (test (k, title k)) ((k, title k) ∷ rest) rest)
  one_more k rest P passes fails = known (test (k, title k))
      (λ is. subst (λ b. P (cond b ((k, title k) ∷ rest) rest)) (sym is) (passes is))
      (λ isnt. subst (λ b. P (cond b ((k, title k) ∷ rest) rest)) (sym isnt) (fails isnt))

  pub all_passing : (P : Numbered → Type 0) (k n : ℕ) → k + n ≤ 32 → ((f : ℕ) → k ≤ f → f < 32 → test (f, title f) ≡ true → P (f, title f)) → AllByRecursion P (filter test (numbered title k n))
  all_passing P k zero within each = tt
  all_passing P k (suc n) within each =
      let rest = all_passing P (k + 1) n (omega (arith, within)) (λ f le lt is. each f (omega (arith, le)) lt is) in
      one_more k (filter test (numbered title (k + 1) n)) (AllByRecursion P) (λ is. (each k (omega arith) (omega (arith, within)) is, rest)) (λ isnt. rest)

  pub pairs_passing : (Q : Numbered → Numbered → Type 0) (k n : ℕ) → k + n ≤ 32
      → ((e f : ℕ) → e < f → e < 32 → f < 32 → test (e, title e) ≡ true → test (f, title f) ≡ true → Q (e, title e) (f, title f)) → InPairs Q (filter test (numbered title k n))
  pairs_passing Q k zero within each = tt
  pairs_passing Q k (suc n) within each =
      let rest = pairs_passing Q (k + 1) n (omega (arith, within)) each in
      one_more k (filter test (numbered title (k + 1) n)) (InPairs Q)
      (λ is. (all_passing (Q (k, title k)) (k + 1) n (omega (arith, within)) (λ f le lt too. each k f (omega (arith, le)) (omega (arith, within)) lt is too), rest))
      (λ isnt. rest)

module _ (title : ℕ → Title) (name : List ℕ) where
  pub all_named : (P : Numbered → Type 0) (k n : ℕ) → k + n ≤ 32 → ((f : ℕ) → k ≤ f → f < 32 → is_named_so name (f, title f) ≡ true → P (f, title f)) → AllByRecursion P (filter (is_named_so name) (numbered title k n))
  all_named = all_passing title (is_named_so name)

  pub pairs_named : (Q : Numbered → Numbered → Type 0) (k n : ℕ) → k + n ≤ 32
      → ((e f : ℕ) → e < f → e < 32 → f < 32 → is_named_so name (e, title e) ≡ true → is_named_so name (f, title f) ≡ true → Q (e, title e) (f, title f)) → InPairs Q (filter (is_named_so name) (numbered title k n))
  pairs_named = pairs_passing title (is_named_so name)

-- what holds of all that pass holds of each
pub each_numbered : (P : Numbered → Type 0) (test : Numbered → Bool) (title : ℕ → Title) (k n f : ℕ) → AllByRecursion P (filter test (numbered title k n)) → k ≤ f → f < k + n → test (f, title f) ≡ true → P (f, title f)
each_numbered P test title k zero f all le lt is = absurd (omega (arith, le, lt))
each_numbered P test title k (suc n) f all le lt is = known (k == f)
    (λ here. let same_ = eqb-true k f here in
    subst (λ g. P (g, title g)) same_ ((subst (λ b. AllByRecursion P (cond b ((k, title k) ∷ filter test (numbered title (k + 1) n)) (filter test (numbered title (k + 1) n)))) (ap (λ g. test (g, title g)) same_ ∙ is) all).0))
    (λ later. let apart : k ≡ f → ⊥ = λ same_. false≢true (sym later ∙ eq-eqb k f same_) in
    each_numbered P test title (k + 1) n f (rest (test (k, title k)) all) (next apart) (omega (arith, lt)) is)
  where
    rest : (b : Bool) → AllByRecursion P (cond b ((k, title k) ∷ filter test (numbered title (k + 1) n)) (filter test (numbered title (k + 1) n))) → AllByRecursion P (filter test (numbered title (k + 1) n))
    rest true all = all.1
    rest false all = all

    next : (k ≡ f → ⊥) → k + 1 ≤ f
    next apart = omega (arith, le, apart)

-- ---- where one title changes

module _ (e : ℕ) (old new : ℕ → Title) (others : (f : ℕ) → (f ≡ e → ⊥) → new f ≡ old f) where
  pub left_same : (test : Numbered → Bool) → test (e, new e) ≡ false → test (e, old e) ≡ false → (k n : ℕ) → filter test (numbered new k n) ≡ filter test (numbered old k n)
  left_same test is was k zero = refl
  left_same test is was k (suc n) =
      let rest = left_same test is was (k + 1) n in
      known (k == e)
      (λ here. let same_ = eqb-true k e here in
      ap (λ b. cond b ((k, new k) ∷ filter test (numbered new (k + 1) n)) (filter test (numbered new (k + 1) n))) (ap (λ f. test (f, new f)) same_ ∙ is) ∙ rest
      ∙ sym (ap (λ b. cond b ((k, old k) ∷ filter test (numbered old (k + 1) n)) (filter test (numbered old (k + 1) n))) (ap (λ f. test (f, old f)) same_ ∙ was)))
      (λ there. let o = others k (λ same_. false≢true (sym there ∙ eq-eqb k e same_)) in λ i. cond (test (k, o i)) ((k, o i) ∷ rest i) (rest i))

  pub picked_same : {B : Type 0} (g : Numbered → B) (test : Numbered → Bool) → ((test (e, new e) ≡ false) × (test (e, old e) ≡ false)) ⊎ ((test (e, new e) ≡ true) × (test (e, old e) ≡ true) × (g (e, new e) ≡ g (e, old e)))
      → (k n : ℕ) → map g (filter test (numbered new k n)) ≡ map g (filter test (numbered old k n))
  picked_same g test (inl both) k n = ap (map g) (left_same test both.0 both.1 k n)
  picked_same g test (inr its) k zero = refl
  picked_same g test (inr its) k (suc n) =
      let rest = picked_same g test (inr its) (k + 1) n in
      known (k == e)
      (λ here. let same_ = eqb-true k e here in
      ap (λ b. map g (cond b ((k, new k) ∷ filter test (numbered new (k + 1) n)) (filter test (numbered new (k + 1) n)))) (ap (λ f. test (f, new f)) same_ ∙ its.0)
      ∙ (λ i. (ap (λ f. g (f, new f)) same_ ∙ its.2 ∙ sym (ap (λ f. g (f, old f)) same_)) i ∷ rest i)
      ∙ sym (ap (λ b. map g (cond b ((k, old k) ∷ filter test (numbered old (k + 1) n)) (filter test (numbered old (k + 1) n)))) (ap (λ f. test (f, old f)) same_ ∙ its.1)))
      (λ there. let o = others k (λ same_. false≢true (sym there ∙ eq-eqb k e same_)) in
      (λ i. map g (cond (test (k, o i)) ((k, o i) ∷ filter test (numbered new (k + 1) n)) (filter test (numbered new (k + 1) n))))
      ∙ elim (test (k, old k)) as (λ b. map g (cond b ((k, old k) ∷ filter test (numbered new (k + 1) n)) (filter test (numbered new (k + 1) n))) ≡ map g (cond b ((k, old k) ∷ filter test (numbered old (k + 1) n)) (filter test (numbered old (k + 1) n)))) [
        | true ↦ ap (λ l. g (k, old k) ∷ l) rest
        | false ↦ rest
      ])

-- ---- filters

pub all_filtered : (P Q : Numbered → Type 0) (test : Numbered → Bool) → ((e : Numbered) → test e ≡ true → P e → Q e) → (es : List Numbered) → AllByRecursion P es → AllByRecursion Q (filter test es)
all_filtered P Q test each [] all = tt
all_filtered P Q test each (e ∷ es) all =
    let rest = all_filtered P Q test each es all.1 in
    elim (test e) as (λ b. test e ≡ b → AllByRecursion Q (cond b (e ∷ filter test es) (filter test es))) [ true ↦ λ is. (each e is all.0, rest) | false ↦ λ is. rest ] refl

pub pairs_filtered : (P Q : Numbered → Numbered → Type 0) (test : Numbered → Bool) → ((e f : Numbered) → test e ≡ true → test f ≡ true → P e f → Q e f) → (es : List Numbered) → InPairs P es → InPairs Q (filter test es)
pairs_filtered P Q test each [] all = tt
pairs_filtered P Q test each (e ∷ es) all =
    let rest = pairs_filtered P Q test each es all.1 in
    elim (test e) as (λ b. test e ≡ b → InPairs Q (cond b (e ∷ filter test es) (filter test es))) [
      | true ↦ λ is. (all_filtered (P e) (Q e) test (λ f too p. each e f is too p) es all.0, rest)
      | false ↦ λ is. rest
    ] refl

pub filter_twice : (p q : Numbered → Bool) (es : List Numbered) → filter p (filter q es) ≡ filter (λ e. q e && p e) es
filter_twice p q [] = refl
filter_twice p q (e ∷ es) =
    let rest = filter_twice p q es in
    elim (q e) as (λ b. filter p (cond b (e ∷ filter q es) (filter q es)) ≡ cond (b && p e) (e ∷ filter (λ e. q e && p e) es) (filter (λ e. q e && p e) es)) [
      | true ↦ ap (λ l. cond (p e) (e ∷ l) l) rest
      | false ↦ rest
    ]

-- ---- sorted, the newest first

module _ (committed : ℕ → Bool) where
  pub all_placed : (P : Numbered → Type 0) (f : Numbered) (fs : List Numbered) → P f → AllByRecursion P fs → AllByRecursion P (placed committed f fs)
  all_placed P f [] is all = (is, tt)
  all_placed P f (g ∷ gs) is all =
      elim (is_newer committed f.1 g.1) as (λ b. AllByRecursion P (cond b (f ∷ g ∷ gs) (g ∷ placed committed f gs))) [ true ↦ (is, all) | false ↦ (all.0, all_placed P f gs is all.1) ]

  pub all_sorted : (P : Numbered → Type 0) (es : List Numbered) → AllByRecursion P es → AllByRecursion P (newest_first committed es)
  all_sorted P [] all = tt
  all_sorted P (f ∷ fs) all = all_placed P f (newest_first committed fs) all.0 (all_sorted P fs all.1)

  -- ---- one of a list, where at most one passes

  one_placed : (p : Numbered → Bool) (e : Numbered) (ms : List Numbered) → (p e ≡ true → filter p ms ≡ []) → filter p (placed committed e ms) ≡ filter p (e ∷ ms)
  one_placed p e [] none = refl
  one_placed p e (m ∷ ms) none =
      elim (is_newer committed e.1 m.1) as (λ b. filter p (cond b (e ∷ m ∷ ms) (m ∷ placed committed e ms)) ≡ filter p (e ∷ m ∷ ms)) [
        | true ↦ refl
        | false ↦ known (p e)
            (λ is. let both = parts m ms (none is) in
            (λ i. cond (both.0 i) (m ∷ filter p (placed committed e ms)) (filter p (placed committed e ms))) ∙ one_placed p e ms (λ again. both.1)
            ∙ ap (λ l. cond (p e) (e ∷ l) l) (both.1 ∙ sym (none is)))
            (λ isnt. let rest = one_placed p e ms (λ is. absurd (false≢true (sym isnt ∙ is))) ∙ ap (λ b. cond b (e ∷ filter p ms) (filter p ms)) isnt in
            ap (λ l. cond (p m) (m ∷ l) l) rest ∙ sym (ap (λ b. cond b (e ∷ filter p (m ∷ ms)) (filter p (m ∷ ms))) isnt))
      ]
    where
      parts : (m : Numbered) (ms : List Numbered) → filter p (m ∷ ms) ≡ [] → (p m ≡ false) × (filter p ms ≡ [])
      parts m ms is = known (p m)
          (λ yes_. absurd (true≢false (ap some (sym (ap (λ b. cond b (m ∷ filter p ms) (filter p ms)) yes_) ∙ is))))
          (λ no_. (no_, sym (ap (λ b. cond b (m ∷ filter p ms) (filter p ms)) no_) ∙ is))
        where
          some : List Numbered → Bool
          some [] = false
          some (x ∷ xs) = true

  none_left : (p : Numbered → Bool) (es : List Numbered) → AllByRecursion (λ e. p e ≡ false) es → filter p es ≡ []
  none_left p [] all = refl
  none_left p (e ∷ es) all = ap (λ b. cond b (e ∷ filter p es) (filter p es)) all.0 ∙ none_left p es all.1

  pub one_sorted : (p : Numbered → Bool) (es : List Numbered) → InPairs (λ e f. p e ≡ true → p f ≡ false) es → filter p (newest_first committed es) ≡ filter p es
  one_sorted p [] pairs = refl
  one_sorted p (e ∷ es) pairs =
      let rest = one_sorted p es pairs.1 in
      one_placed p e (newest_first committed es) (λ is. rest ∙ none_left p es (all_now is es pairs.0)) ∙ ap (λ l. cond (p e) (e ∷ l) l) rest
    where
      all_now : p e ≡ true → (es : List Numbered) → AllByRecursion (λ f. p e ≡ true → p f ≡ false) es → AllByRecursion (λ f. p f ≡ false) es
      all_now is [] all = tt
      all_now is (f ∷ fs) all = (all.0 is, all_now is fs all.1)

  -- ---- those that aren't gone stand before those that are

  abbrev pub is_out : Numbered → Bool
  is_out e = committed e.1.dropper

  abbrev pub is_in_yet : Numbered → Bool
  is_in_yet e = not (committed e.1.dropper)

  in_placed : (e : Numbered) (front back : List Numbered) → is_out e ≡ false → AllByRecursion (λ f. is_out f ≡ true) back → placed committed e (front ++ back) ≡ placed committed e front ++ back
  in_placed e [] [] stays all = refl
  in_placed e [] (b ∷ bs) stays all = ap (λ c. cond c (e ∷ b ∷ bs) (b ∷ placed committed e bs)) (newer_in committed e.1 b.1 stays all.0)
  in_placed e (f ∷ front) back stays all =
      let rest = in_placed e front back stays all in
      elim (is_newer committed e.1 f.1) as (λ b. cond b (e ∷ f ∷ front ++ back) (f ∷ placed committed e (front ++ back)) ≡ cond b (e ∷ f ∷ front) (f ∷ placed committed e front) ++ back) [
        | true ↦ refl
        | false ↦ ap (λ l. f ∷ l) rest
      ]

  out_placed : (e : Numbered) (front back : List Numbered) → is_out e ≡ true → AllByRecursion (λ f. is_out f ≡ false) front → placed committed e (front ++ back) ≡ front ++ placed committed e back
  out_placed e [] back gone all = refl
  out_placed e (f ∷ front) back gone all =
      ap (λ b. cond b (e ∷ f ∷ front ++ back) (f ∷ placed committed e (front ++ back))) (older_out committed e.1 f.1 gone all.0)
      ∙ ap (λ l. f ∷ l) (out_placed e front back gone all.1)

  all_out : (es : List Numbered) → AllByRecursion (λ f. is_out f ≡ true) (newest_first committed (filter is_out es))
  all_out es = all_sorted (λ f. is_out f ≡ true) (filter is_out es) (passing es)
    where
      passing : (es : List Numbered) → AllByRecursion (λ f. is_out f ≡ true) (filter is_out es)
      passing [] = tt
      passing (e ∷ es) = elim (is_out e) as (λ b. is_out e ≡ b → AllByRecursion (λ f. is_out f ≡ true) (cond b (e ∷ filter is_out es) (filter is_out es))) [ true ↦ λ is. (is, passing es) | false ↦ λ is. passing es ] refl

  all_in : (es : List Numbered) → AllByRecursion (λ f. is_out f ≡ false) (newest_first committed (filter is_in_yet es))
  all_in es = all_sorted (λ f. is_out f ≡ false) (filter is_in_yet es) (passing es)
    where
      passing : (es : List Numbered) → AllByRecursion (λ f. is_out f ≡ false) (filter is_in_yet es)
      passing [] = tt
      passing (e ∷ es) = elim (is_out e) as (λ b. is_out e ≡ b → AllByRecursion (λ f. is_out f ≡ false) (cond (not b) (e ∷ filter is_in_yet es) (filter is_in_yet es))) [ true ↦ λ is. passing es | false ↦ λ is. (is, passing es) ] refl

  pub parted : (es : List Numbered) → newest_first committed es ≡ newest_first committed (filter is_in_yet es) ++ newest_first committed (filter is_out es)
  parted [] = refl
  parted (e ∷ es) =
      let rest = parted es in
      let front = newest_first committed (filter is_in_yet es) in
      let back = newest_first committed (filter is_out es) in
      known (is_out e)
      (λ gone. ap (placed committed e) rest ∙ out_placed e front back gone (all_in es)
      ∙ sym ((λ i. newest_first committed (cond (not (gone i)) (e ∷ filter is_in_yet es) (filter is_in_yet es)) ++ newest_first committed (cond (gone i) (e ∷ filter is_out es) (filter is_out es)))))
      (λ stays. ap (placed committed e) rest ∙ in_placed e front back stays (all_out es)
      ∙ sym ((λ i. newest_first committed (cond (not (stays i)) (e ∷ filter is_in_yet es) (filter is_in_yet es)) ++ newest_first committed (cond (stays i) (e ∷ filter is_out es) (filter is_out es)))))

-- what holds of all that are sorted held of all
unplaced : (committed : ℕ → Bool) (P : Numbered → Type 0) (e : Numbered) (ms : List Numbered) → AllByRecursion P (placed committed e ms) → P e × AllByRecursion P ms
unplaced committed P e [] all = all
unplaced committed P e (m ∷ ms) all =
    elim (is_newer committed e.1 m.1) as (λ b. AllByRecursion P (cond b (e ∷ m ∷ ms) (m ∷ placed committed e ms)) → P e × AllByRecursion P (m ∷ ms)) [
      | true ↦ λ all. all
      | false ↦ λ all. let rest = unplaced committed P e ms all.1 in (rest.0, (all.0, rest.1))
    ] all

pub unsorted : (committed : ℕ → Bool) (P : Numbered → Type 0) (es : List Numbered) → AllByRecursion P (newest_first committed es) → AllByRecursion P es
unsorted committed P [] all = tt
unsorted committed P (e ∷ es) all = let rest = unplaced committed P e (newest_first committed es) all in (rest.0, unsorted committed P es rest.1)

-- ---- the first that passes

abbrev pub first_of : (Numbered → Bool) → List Numbered → Option Numbered
first_of test [] = None
first_of test (e ∷ es) = cond (test e) (Some e) (first_of test es)

pub first_cases : (test : Numbered → Bool) (P : Numbered → Type 0) (es : List Numbered) → AllByRecursion P es → ((first_of test es ≡ None) × AllByRecursion (λ g. test g ≡ false) es) ⊎ ((g : Numbered) × (first_of test es ≡ Some g) × P g × (test g ≡ true))
first_cases test P [] all = inl (refl, tt)
first_cases test P (e ∷ es) all = known (test e)
    (λ is. inr (e, ap (λ b. cond b (Some e) (first_of test es)) is, all.0, is))
    (λ isnt. ⊎_elim
    (λ none. inl (ap (λ b. cond b (Some e) (first_of test es)) isnt ∙ none.0, (isnt, none.1)))
    (λ found. inr (found.0, ap (λ b. cond b (Some e) (first_of test es)) isnt ∙ found.1, found.2, found.3))
    (first_cases test P es all.1))

pub none_first : (test : Numbered → Bool) (es : List Numbered) → AllByRecursion (λ g. test g ≡ false) es → first_of test es ≡ None
none_first test [] all = refl
none_first test (e ∷ es) all = ap (λ b. cond b (Some e) (first_of test es)) all.0 ∙ none_first test es all.1

-- it is the first of those that pass
pub first_filter : (test : Numbered → Bool) (es : List Numbered) → first_of test es ≡ first_of test (filter test es)
first_filter test [] = refl
first_filter test (e ∷ es) = known (test e)
    (λ is. ap (λ b. cond b (Some e) (first_of test es)) is ∙ sym (ap (λ b. first_of test (cond b (e ∷ filter test es) (filter test es))) is ∙ ap (λ b. cond b (Some e) (first_of test (filter test es))) is))
    (λ isnt. ap (λ b. cond b (Some e) (first_of test es)) isnt ∙ first_filter test es ∙ sym (ap (λ b. first_of test (cond b (e ∷ filter test es) (filter test es))) isnt))

pub first_of_filter : (test other : Numbered → Bool) (es : List Numbered) → first_of test (filter other es) ≡ first_of (λ e. other e && test e) es
first_of_filter test other [] = refl
first_of_filter test other (e ∷ es) =
    let rest = first_of_filter test other es in
    elim (other e) as (λ b. first_of test (cond b (e ∷ filter other es) (filter other es)) ≡ cond (b && test e) (Some e) (first_of (λ e. other e && test e) es)) [
      | true ↦ ap (λ o. cond (test e) (Some e) o) rest
      | false ↦ rest
    ]
