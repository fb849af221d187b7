-- Sorted lists of entries that differ in what is past a mark alone, and what they show from there on.
use Rattle.std.proofs.Common.{Bool, List, [], ap, arith, cond, false, refl, subst, suc, sym, true, zero, ℕ, ⊎_elim, ◌++◌, ◌+◌, ◌<◌, ◌==◌, ◌∙◌, ◌∷◌, ◌≡◌, ◌≤◌}
use Rattle.std.specs.List.{AllByRecursion, filter}
use Rattle.std.specs.Prelude.{nat_lt, ◌&&◌}
use Rattle.std.proofs.lemmas.Bool.{and_from, and_parts, cases_lt, eq-eqb, eqb-true, false≢true, lt-ltb, ltb-true}
use Rattle.ctr_record_laws.proofs.versions_Keys.{known}
use Rattle.ctr_record_laws.specs.area_Areas.{Title}
use Rattle.ctr_record_laws.specs.area_Images.{Numbered, is_named_so, is_newer, newest_first, placed}
use Rattle.ctr_names.proofs.Entries.{all_placed, numbered}
use Rattle.ctr_names.proofs.Later.{earlier_than, later_than, newer_in, newer_is, older_out}

-- ---- placed among those in front, or those behind

front_placed : (committed : ℕ → Bool) (g : Numbered) (front back : List Numbered) → AllByRecursion (λ s. is_newer committed g.1 s.1 ≡ true) back → placed committed g (front ++ back) ≡ placed committed g front ++ back
front_placed committed g [] [] all = refl
front_placed committed g [] (s ∷ back) all = ap (λ b. cond b (g ∷ s ∷ back) (s ∷ placed committed g back)) all.0
front_placed committed g (f ∷ front) back all =
    let rest = front_placed committed g front back all in
    elim (is_newer committed g.1 f.1) as (λ b. cond b (g ∷ f ∷ front ++ back) (f ∷ placed committed g (front ++ back)) ≡ cond b (g ∷ f ∷ front) (f ∷ placed committed g front) ++ back) [
      | true ↦ refl
      | false ↦ ap (λ l. f ∷ l) rest
    ]

back_placed : (committed : ℕ → Bool) (g : Numbered) (front back : List Numbered) → AllByRecursion (λ f. is_newer committed g.1 f.1 ≡ false) front → placed committed g (front ++ back) ≡ front ++ placed committed g back
back_placed committed g [] back all = refl
back_placed committed g (f ∷ front) back all =
    ap (λ b. cond b (g ∷ f ∷ front ++ back) (f ∷ placed committed g (front ++ back))) all.0 ∙ ap (λ l. f ∷ l) (back_placed committed g front back all.1)

module _ (committed : ℕ → Bool) (nobody : committed 0 ≡ false) (mark : ℕ) where
  -- its drop is committed, and below the mark
  abbrev pub is_past : Numbered → Bool
  is_past f = committed f.1.dropper && nat_lt f.1.dropper mark

  pub drop_some : (d : ℕ) → committed d ≡ true → d ≡ 0 → ⊥
  drop_some d is none = false≢true (sym (ap committed none ∙ nobody) ∙ is)

  -- of two that are gone, the one that isn't past was dropped later
  below : (g s : Numbered) → is_past g ≡ false → committed g.1.dropper ≡ true → is_past s ≡ true → s.1.dropper < g.1.dropper
  below g s recent gone past = ⊎_elim
      (λ lt. absurd (false≢true (sym recent ∙ and_from (committed g.1.dropper) (nat_lt g.1.dropper mark) gone (lt-ltb g.1.dropper mark lt))))
      (λ ge. further s.1.dropper g.1.dropper (ltb-true s.1.dropper mark (and_parts (committed s.1.dropper) (nat_lt s.1.dropper mark) past).1) ge) (cases_lt g.1.dropper mark)
    where
      further : (a b : ℕ) → a < mark → mark ≤ b → a < b
      further a b lt le = omega (arith, lt, le)

  pub past_gone : (s : Numbered) → is_past s ≡ true → committed s.1.dropper ≡ true
  past_gone s past = (and_parts (committed s.1.dropper) (nat_lt s.1.dropper mark) past).0

  recent_newer : (g s : Numbered) → is_past g ≡ false → is_past s ≡ true → is_newer committed g.1 s.1 ≡ true
  recent_newer g s recent past = known (committed g.1.dropper)
      (λ gone. newer_is committed g.1 s.1 true true true gone (past_gone s past) (later_than g.1 s.1 (drop_some s.1.dropper (past_gone s past)) (below g s recent gone past)))
      (λ stays. newer_in committed g.1 s.1 stays (past_gone s past))

  past_older : (g f : Numbered) → is_past g ≡ true → is_past f ≡ false → is_newer committed g.1 f.1 ≡ false
  past_older g f past recent = known (committed f.1.dropper)
      (λ gone. newer_is committed g.1 f.1 true true false (past_gone g past) gone (earlier_than g.1 f.1 (drop_some g.1.dropper (past_gone g past)) (below f g recent gone past)))
      (λ stays. older_out committed g.1 f.1 (past_gone g past) stays)

  abbrev AllPast : List Numbered → Type 0
  AllPast es = AllByRecursion (λ f. is_past f ≡ true) es

  abbrev AllRecent : List Numbered → Type 0
  AllRecent es = AllByRecursion (λ f. is_past f ≡ false) es

  -- the same in front, and behind it what is past
  pub record DifferInPast (less more : List Numbered) : Type 0 where
    pub front : List Numbered
    pub some : List Numbered
    pub all : List Numbered
    pub less_is : less ≡ front ++ some
    pub more_is : more ≡ front ++ all
    pub recent : AllRecent front
    pub some_past : AllPast some
    pub all_past : AllPast all

  newer_all : (g : Numbered) → is_past g ≡ false → (es : List Numbered) → AllPast es → AllByRecursion (λ s. is_newer committed g.1 s.1 ≡ true) es
  newer_all g recent [] all = tt
  newer_all g recent (s ∷ es) all = (recent_newer g s recent all.0, newer_all g recent es all.1)

  older_all : (g : Numbered) → is_past g ≡ true → (es : List Numbered) → AllRecent es → AllByRecursion (λ s. is_newer committed g.1 s.1 ≡ false) es
  older_all g past [] all = tt
  older_all g past (f ∷ es) all = (past_older g f past all.0, older_all g past es all.1)

  place_both : (g : Numbered) (less more : List Numbered) → DifferInPast less more → DifferInPast (placed committed g less) (placed committed g more)
  place_both g less more its = known (is_past g)
      (λ past. record {
        front = its.front;
        some = placed committed g its.some;
        all = placed committed g its.all;
        less_is = ap (placed committed g) its.less_is ∙ back_placed committed g its.front its.some (older_all g past its.front its.recent);
        more_is = ap (placed committed g) its.more_is ∙ back_placed committed g its.front its.all (older_all g past its.front its.recent);
        recent = its.recent;
        some_past = all_placed committed (λ f. is_past f ≡ true) g its.some past its.some_past;
        all_past = all_placed committed (λ f. is_past f ≡ true) g its.all past its.all_past;
      })
      (λ recent. record {
        front = placed committed g its.front;
        some = its.some;
        all = its.all;
        less_is = ap (placed committed g) its.less_is ∙ front_placed committed g its.front its.some (newer_all g recent its.some its.some_past);
        more_is = ap (placed committed g) its.more_is ∙ front_placed committed g its.front its.all (newer_all g recent its.all its.all_past);
        recent = all_placed committed (λ f. is_past f ≡ false) g its.front recent its.recent;
        some_past = its.some_past;
        all_past = its.all_past;
      })

  place_more : (g : Numbered) → is_past g ≡ true → (less more : List Numbered) → DifferInPast less more → DifferInPast less (placed committed g more)
  place_more g past less more its = record {
    front = its.front;
    some = its.some;
    all = placed committed g its.all;
    less_is = its.less_is;
    more_is = ap (placed committed g) its.more_is ∙ back_placed committed g its.front its.all (older_all g past its.front its.recent);
    recent = its.recent;
    some_past = its.some_past;
    all_past = all_placed committed (λ f. is_past f ≡ true) g its.all past its.all_past;
  }

  -- one entry that is past is left out
  pub left_out_past : (name : List ℕ) (e : ℕ) (old new : ℕ → Title) → ((f : ℕ) → (f ≡ e → ⊥) → new f ≡ old f) → is_named_so name (e, new e) ≡ false → is_named_so name (e, old e) ≡ true → is_past (e, old e) ≡ true
      → (k n : ℕ) → DifferInPast (newest_first committed (filter (is_named_so name) (numbered new k n))) (newest_first committed (filter (is_named_so name) (numbered old k n)))
  left_out_past name e old new others is was past k zero = record { front = []; some = []; all = []; less_is = refl; more_is = refl; recent = tt; some_past = tt; all_past = tt }
  left_out_past name e old new others is was past k (suc n) =
      let rest = left_out_past name e old new others is was past (k + 1) n in
      let less = filter (is_named_so name) (numbered new (k + 1) n) in
      let more = filter (is_named_so name) (numbered old (k + 1) n) in
      known (k == e)
      (λ here. let same_ = eqb-true k e here in
      subst (λ l. DifferInPast l (newest_first committed (filter (is_named_so name) (numbered old k (suc n))))) (sym (ap (λ b. newest_first committed (cond b ((k, new k) ∷ less) less)) (ap (λ f. is_named_so name (f, new f)) same_ ∙ is)))
      (subst (λ l. DifferInPast (newest_first committed less) l) (sym (ap (λ b. newest_first committed (cond b ((k, old k) ∷ more) more)) (ap (λ f. is_named_so name (f, old f)) same_ ∙ was)))
      (place_more (k, old k) (ap (λ f. is_past (f, old f)) same_ ∙ past) (newest_first committed less) (newest_first committed more) rest)))
      (λ there. let o = others k (λ same_. false≢true (sym there ∙ eq-eqb k e same_)) in
      subst (λ l. DifferInPast l (newest_first committed (filter (is_named_so name) (numbered old k (suc n))))) (sym (λ i. newest_first committed (cond (is_named_so name (k, o i)) ((k, o i) ∷ less) less)))
      (elim (is_named_so name (k, old k)) as (λ b. DifferInPast (newest_first committed (cond b ((k, old k) ∷ less) less)) (newest_first committed (cond b ((k, old k) ∷ more) more))) [
        | true ↦ place_both (k, old k) (newest_first committed less) (newest_first committed more) rest
        | false ↦ rest
      ]))
