-- Tables of one name over time: at open, over a commit, and over records on titles and transactions.
use Rattle.std.proofs.Common.{None, Option, Some, ap, arith, false, inl, inr, not, refl, subst, sym, true, ℕ, ⊎_elim, ◌+◌, ◌<◌, ◌==◌, ◌∙◌, ◌≡◌, ◌≤◌, ◌⊎◌}
use Rattle.std.specs.Prelude.{is_some, unwrap_or, ◌&&◌}
use Rattle.std.proofs.Math.Bool.{and-false}
use Rattle.std.proofs.lemmas.Bool.{cases_eq, cases_lt, eq-eqb, eqb-true, false≢true, le-leb}
use Rattle.std.proofs.lemmas.Map.{update_apart, update_here}
use Rattle.ctr_record_laws.specs.versions_Chains.{Numbers, by, is_by}
use Rattle.ctr_record_laws.proofs.versions_Asked.{early_by}
use Rattle.ctr_record_laws.proofs.versions_Chains.{with_number}
use Rattle.ctr_record_laws.proofs.versions_Keys.{known}
use Rattle.ctr_record_laws.proofs.versions_Opened.{IsOpened}
use Rattle.ctr_record_laws.specs.meta_Effects.{committed, forgotten_by, rolled_back}
use Rattle.ctr_record_laws.specs.meta_Tables.{Tables, is_in}
use Rattle.ctr_record_laws.specs.area_Areas.{Area, Title}
use Rattle.ctr_record_laws.specs.area_Changes.{with_title}
use Rattle.ctr_record_laws.specs.area_Images.{is_committed_in, is_live, is_standing}
use Rattle.ctr_record_laws.specs.area_Sound.{IsOneOf, IsSchemaItem, IsSoundArea}
use Rattle.ctr_record_laws.specs.Owed.{AgreeOnCommits, OwedByAbort, OwedByCommit}
use Rattle.ctr_record_laws.proofs.Abort.{abort_agrees}
use Rattle.ctr_record_laws.proofs.Commit.{commit_sound}
use Rattle.ctr_record_laws.proofs.Forget.{forget_agrees}
use Rattle.ctr_record_laws.proofs.Heads.{listed_drawn}
use Rattle.ctr_record_laws.proofs.Latest.{title_apart, title_here}
use Rattle.ctr_record_laws.proofs.Xids.{among_in}
use Rattle.ctr_names.specs.Stand.{HasNext, IsDropNewer, NamesStand, StaysWithCommits}

-- ---- at open every number is 0

pub stand_opened : (counted : ℕ) (tables : Tables) (area : Area) (number : Numbers) → IsSoundArea counted tables area → IsOpened number → AgreeOnCommits number tables → NamesStand 0 number area.title
stand_opened counted tables area number sound opened agree = record {
  one = λ j from. subst (λ test. IsOneOf area.title (is_standing test)) (λ i x. sym (by_committed j x) i) sound.names.standing;
  ranked = λ e f i k lt_e lt_f live_e live_f names of_e of_f le. zero_first i k (zero_number (area.title e).dropper i of_e);
}
  where
    by_committed : (j x : ℕ) → by number j x ≡ is_committed_in tables x
    by_committed j x = ⊎_elim
        (λ none. ap (is_by j) none ∙ sym (ap is_some none) ∙ agree x)
        (λ old. ap (is_by j) old ∙ le-leb 0 j (omega arith) ∙ sym (ap is_some old) ∙ agree x) (opened x)

    zero_number : (x k : ℕ) → number x ≡ Some k → k ≡ 0
    zero_number x k is = ⊎_elim (λ none. absurd (false≢true (ap is_some (sym none ∙ is)))) (λ zero_. sym (ap (λ (o : Option ℕ). unwrap_or o 0) (sym zero_ ∙ is))) (opened x)

    zero_first : (i k : ℕ) → i ≡ 0 → i ≤ k
    zero_first i k z = omega (arith, z)

-- ---- entries that stand as they did

-- Each live entry stood where it stands, and has the drop that it had; or it is one that stands nowhere yet.
abbrev pub StandsAsBefore : ℕ → Numbers → Numbers → Title → Title → Type 0
StandsAsBefore low old new was now =
    ((is_live was ≡ true) × (now.name ≡ was.name) × ((j : ℕ) → low ≤ j → is_standing (by new j) now ≡ true → is_standing (by old j) was ≡ true)
    × ((k : ℕ) → new now.dropper ≡ Some k → (old was.dropper ≡ Some k) × (now.dropper ≡ was.dropper)))
    ⊎ (((j : ℕ) → is_standing (by new j) now ≡ false) × (new now.dropper ≡ None))

pub stand_kept : (low : ℕ) (old new : Numbers) (title now : ℕ → Title) → ((f : ℕ) → f < 32 → is_live (now f) ≡ true → StandsAsBefore low old new (title f) (now f)) → NamesStand low old title → NamesStand low new now
stand_kept low old new title now each names = record {
  one = λ j from e f lt_e lt_f live_e live_f same stands_e stands_f. ⊎_elim
      (λ was_e. ⊎_elim
      (λ was_f. names.one j from e f lt_e lt_f was_e.0 was_f.0 (sym was_e.1 ∙ same ∙ was_f.1) (was_e.2 j from stands_e) (was_f.2 j from stands_f))
      (λ never. absurd (false≢true (sym (never.0 j) ∙ stands_f))) (each f lt_f live_f))
      (λ never. absurd (false≢true (sym (never.0 j) ∙ stands_e))) (each e lt_e live_e);
  ranked = λ e f i k lt_e lt_f live_e live_f same of_e of_f le. ⊎_elim
      (λ was_e. ⊎_elim
      (λ was_f. let d_e = was_e.3 i of_e in let d_f = was_f.3 k of_f in
      names.ranked e f i k lt_e lt_f was_e.0 was_f.0 (sym was_e.1 ∙ same ∙ was_f.1) d_e.0 d_f.0 (subst (λ d. d ≤ (title f).dropper) d_e.1 (subst (λ d. (now e).dropper ≤ d) d_f.1 le)))
      (λ never. absurd (false≢true (ap is_some (sym never.1 ∙ of_f)))) (each f lt_f live_f))
      (λ never. absurd (false≢true (ap is_some (sym never.1 ∙ of_e)))) (each e lt_e live_e);
}

-- ---- a commit

module _ (low counted : ℕ) (tables : Tables) (area : Area) (number new : Numbers) (x n : ℕ) (sound : IsSoundArea counted tables area) (owed : OwedByCommit tables x) (newer : IsDropNewer tables area.title x)
    (agree : AgreeOnCommits number tables) (agree_now : AgreeOnCommits new (committed x tables)) (next : HasNext number new x n) where
  numbers : (y : ℕ) → new y ≡ with_number number x (n + 1) y
  numbers y = ⊎_elim
      (λ same. ap new same ∙ next.here ∙ sym (ap (with_number number x (n + 1)) same ∙ update_here number x (Some (n + 1))))
      (λ apart. next.others y apart ∙ sym (update_apart number x (Some (n + 1)) y apart)) (cases_eq y x)

  of_x : (y i : ℕ) → y ≡ x → new y ≡ Some i → i ≡ n + 1
  of_x y i same is = ap (λ (o : Option ℕ). unwrap_or o 0) (sym is ∙ ap new same ∙ next.here)

  of_other : (y i : ℕ) → (y ≡ x → ⊥) → new y ≡ Some i → number y ≡ Some i
  of_other y i apart is = sym (next.others y apart) ∙ is

  -- no number is above the last
  late_by : (j y : ℕ) → n + 1 ≤ j → by new j y ≡ is_committed_in (committed x tables) y
  late_by j y late = of_option (new y) refl ∙ agree_now y
    where
      within : (i : ℕ) → new y ≡ Some i → i ≤ j
      within i is = ⊎_elim (λ same. at_last i (of_x y i same is)) (λ apart. earlier i (next.bounded y i (of_other y i apart is))) (cases_eq y x)
        where
          at_last : (i : ℕ) → i ≡ n + 1 → i ≤ j
          at_last i is = omega (arith, is, late)

          earlier : (i : ℕ) → i ≤ n → i ≤ j
          earlier i le = omega (arith, le, late)

      of_option : (o : Option ℕ) → new y ≡ o → by new j y ≡ is_some (new y)
      of_option None is = ap (is_by j) is ∙ sym (ap is_some is)
      of_option (Some i) is = ap (is_by j) is ∙ le-leb i j (within i is) ∙ sym (ap is_some is)

  pub stand_commit : NamesStand low number area.title → NamesStand low new area.title
  stand_commit names = record {
    one = λ j from. ⊎_elim
        (λ early. subst (λ test. IsOneOf area.title (is_standing test)) (λ i y. sym (ap (is_by j) (numbers y) ∙ early_by number x (n + 1) j next.none early y) i) (names.one j from))
        (λ late. subst (λ test. IsOneOf area.title (is_standing test)) (λ i y. sym (late_by j y late) i) (commit_sound counted tables area x sound owed).names.standing)
        (cases_lt j (n + 1));
    ranked = λ e f i k lt_e lt_f live_e live_f same of_e of_f le. ⊎_elim
        (λ f_x. let k_is = of_x (area.title f).dropper k f_x of_f in ⊎_elim
        (λ e_x. equal i k (of_x (area.title e).dropper i e_x of_e) k_is)
        (λ e_other. below i k (next.bounded (area.title e).dropper i (of_other (area.title e).dropper i e_other of_e)) k_is)
        (cases_eq (area.title e).dropper x))
        (λ f_other. let f_was = of_other (area.title f).dropper k f_other of_f in ⊎_elim
        (λ e_x. absurd (never (area.title f).dropper (area.title e).dropper le e_x
        (newer e f lt_e lt_f live_e live_f same e_x (sym (agree (area.title f).dropper) ∙ ap is_some f_was))))
        (λ e_other. names.ranked e f i k lt_e lt_f live_e live_f same (of_other (area.title e).dropper i e_other of_e) f_was le)
        (cases_eq (area.title e).dropper x))
        (cases_eq (area.title f).dropper x);
  }
    where
      equal : (i k : ℕ) → i ≡ n + 1 → k ≡ n + 1 → i ≤ k
      equal i k a b = omega (arith, a, b)

      below : (i k : ℕ) → i ≤ n → k ≡ n + 1 → i ≤ k
      below i k a b = omega (arith, a, b)

      never : (d c : ℕ) → c ≤ d → c ≡ x → d < x → ⊥
      never d c le is lt = omega (arith, le, is, lt)

-- ---- over records on titles

-- who made or dropped a live entry has the number that it had: a Begin, an Abort, a Forget
pub stand_same : (low : ℕ) (old new : Numbers) (title : ℕ → Title) → ((f : ℕ) → f < 32 → is_live (title f) ≡ true → (new (title f).creator ≡ old (title f).creator) × (new (title f).dropper ≡ old (title f).dropper)) → NamesStand low old title → NamesStand low new title
stand_same low old new title each names = stand_kept low old new title title
    (λ f lt alive. let its = each f lt alive in inl (
      alive,
      refl,
      (λ j from stands. (λ i. is_live (title f) && (is_by j (sym its.0 i) && not (is_by j (sym its.1 i)))) ∙ stands),
      λ k is. (sym its.1 ∙ is, refl),
    )) names

module _ (low : ℕ) (number : Numbers) (area : Area) (e : ℕ) (u : Title) (names : NamesStand low number area.title) where
  one_title : (is_live u ≡ true → StandsAsBefore low number number (area.title e) u) → NamesStand low number (with_title e u area).title
  one_title here = stand_kept low number number area.title (with_title e u area).title
      (λ f lt alive. known (f == e)
      (λ is. let f_e = eqb-true f e is in
      subst (λ g. StandsAsBefore low number number (area.title g) ((with_title e u area).title g)) (sym f_e)
      (subst (StandsAsBefore low number number (area.title e)) (sym (title_here area e u)) (here (ap is_live (sym (title_here area e u)) ∙ ap (λ g. is_live ((with_title e u area).title g)) (sym f_e) ∙ alive))))
      (λ isnt. let same = title_apart area e u f (λ is. false≢true (sym isnt ∙ eq-eqb f e is)) in
      subst (StandsAsBefore low number number (area.title f)) (sym same) (inl (ap is_live (sym same) ∙ alive, refl, (λ j from stands. stands), λ k is. (is, refl))))) names

  -- it is dead, or free: an Uncreate, a Trim of an entry
  pub stand_gone : is_live u ≡ false → NamesStand low number (with_title e u area).title
  stand_gone dead = one_title (λ alive. absurd (false≢true (sym dead ∙ alive)))

  -- it is made by an open transaction: a Create
  pub stand_made : number u.creator ≡ None → u.dropper ≡ 0 → number 0 ≡ None → NamesStand low number (with_title e u area).title
  stand_made open_ none nobody = one_title (λ alive. inr (
    (λ j. (λ i. is_live u && (is_by j (open_ i) && not (by number j u.dropper))) ∙ and-false (is_live u)),
    ap number none ∙ nobody,
  ))

  -- another that isn't committed has dropped it, or nobody: a Drop, an Undrop
  pub stand_drop : is_live (area.title e) ≡ true → u.name ≡ (area.title e).name → u.creator ≡ (area.title e).creator → number u.dropper ≡ None → number (area.title e).dropper ≡ None → NamesStand low number (with_title e u area).title
  stand_drop was name maker now_none was_none = one_title (λ alive. inl (
    was,
    name,
    (λ j from stands. (λ i. was i && (by number j (sym maker i) && not (is_by j (was_none i)))) ∙ sym (λ i. alive i && (by number j u.creator && not (is_by j (now_none i)))) ∙ stands),
    λ k is. absurd (false≢true (ap is_some (sym now_none ∙ is))),
  ))

-- ---- an Abort, a Forget

module _ (counted : ℕ) (tables : Tables) (area : Area) (sound : IsSoundArea counted tables area) where
  -- whoever has an item is open
  pub item_open : (y f : ℕ) → IsSchemaItem y f tables.items → is_in y tables.opens ≡ true
  item_open y f item = among_in y tables.opens (⊎_elim (λ c. sound.owned.creates y f c) (λ d. sound.owned.drops y f d) item)

  pub item_drawn : (y f : ℕ) → IsSchemaItem y f tables.items → (0 < y) × (y < tables.next)
  item_drawn y f item = listed_drawn tables.next area tables sound.below y (inl (item_open y f item))

  pub stand_abort : (low : ℕ) (number new : Numbers) (x : ℕ) → OwedByAbort tables x → StaysWithCommits tables (rolled_back x tables) number new → NamesStand low number area.title → NamesStand low new area.title
  stand_abort low number new x owed numbers = stand_same low number new area.title
      (λ f lt alive. let its = abort_agrees counted tables area x sound owed in (numbers (area.title f).creator (its.creators f lt alive), numbers (area.title f).dropper (its.droppers f lt alive)))

  pub stand_forget : (low : ℕ) (number new : Numbers) (x : ℕ) → is_in x tables.aborted ≡ true → StaysWithCommits tables (forgotten_by x tables) number new → NamesStand low number area.title → NamesStand low new area.title
  stand_forget low number new x is numbers = stand_same low number new area.title
      (λ f lt alive. let its = forget_agrees counted tables area x sound is in (numbers (area.title f).creator (its.creators f lt alive), numbers (area.title f).dropper (its.droppers f lt alive)))
