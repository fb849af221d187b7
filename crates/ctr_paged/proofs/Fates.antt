-- Records on transactions: Begin, Commit, Abort, Forget.
use Rattle.std.proofs.Common.{◌≡◌, ⊎_elim, inl, inr, ℕ, ◌+◌, ◌<◌, ◌≤◌, ◌==◌, Bool, true, false, cond, List, [], ◌∷◌, ◌++◌, length, Option, Some, None, refl, sym, ◌∙◌, ap, subst, arith}
use Rattle.std.specs.Prelude.{is_some, not}
use Rattle.std.specs.Ordering.{nat_cmp}
use Rattle.std.specs.FinMap.Entries.{find, put}
use Rattle.std.proofs.lemmas.Map.{update_here, update_apart}
use Rattle.std.proofs.lemmas.Bool.{false≢true, eq-eqb, eqb-true, leb-true, ne_eqb}
use Rattle.ctr_model.specs.declared.state.State.{State}
use Rattle.ctr_model.specs.declared.state.Transaction.{Transaction}
use Rattle.ctr_model.specs.Maps.{without}
use Rattle.ctr_model.specs.State.{with_transaction}
use Rattle.ctr_model.proofs.Sessions.{find-put-other, find-put-same, find-without-other, find-without-same}
use Rattle.ctr_snap.specs.Seeing.{has}
use Rattle.ctr_versions.proofs.Keys.{known, some_is}
use Rattle.ctr_versions.proofs.Chains.{with_number}
use Rattle.ctr_versions.specs.Chains.{is_by}
use Rattle.ctr_versions.specs.Xids.{Xids, minus, number_of, asked, drawn}
use Rattle.ctr_versions.specs.Engine.{SessionHeld, EngineHeld, ShowsSession, ShowsState}
use Rattle.ctr_versions.specs.Steps.{AreUntouched, engine_drawn}
use Rattle.ctr_versions.proofs.Steps.{ask_step, draw_step}
use Rattle.ctr_versions.proofs.Xids.{drawn_numbers, asked_numbers}
use Rattle.ctr_rec.specs.declared.record.SlogItem.TheVariants.{DropOf}
use Rattle.ctr_actions.specs.meta_Tables.{Tables, is_in, without_xid}
use Rattle.ctr_actions.specs.meta_Effects.{opened_by, committed}
use Rattle.ctr_actions.specs.area_Areas.{Title}
use Rattle.ctr_actions.specs.area_Images.{is_committed_in, is_live, versions_in}
use Rattle.ctr_actions.specs.area_Sound.{IsAmong, AreAllOnce, how_many, xids_in}
use Rattle.ctr_actions.specs.record_laws_Owed.{OwedByCommit}
use Rattle.ctr_names.proofs.record_laws_Begin.{begin_sound, xids_append}
use Rattle.ctr_names.proofs.record_laws_Commit.{commit_sound}
use Rattle.ctr_names.proofs.record_laws_Leaving.{among_without}
use Rattle.ctr_names.proofs.record_laws_Heads.{listed_open}
use Rattle.ctr_actions.proofs.record_laws_Members.{among_parts}
use Rattle.ctr_actions.proofs.record_laws_Xids.{among_in, in_among, once_parts}
use Rattle.ctr_actions.specs.Sites.{Site}
use Rattle.ctr_paged.specs.Paged.{Run, xids_of, engine_at, AreDropsNewer, AreSnapshotsEarlier, ShowsPaged}
use Rattle.ctr_paged.proofs.Carry.{open_some, modelled_put, modelled_both}
use Rattle.ctr_names.proofs.Agree.{commit_same}
use Rattle.ctr_paged.proofs.Rows.{theirs}
use Rattle.ctr_paged.proofs.Tables.{has_in, agree, by_all}
use Rattle.ctr_names.specs.Stand.{HasNext}

-- ---- lists of transactions

pub minus_none : (x : ℕ) (xs : List ℕ) → (IsAmong x xs → ⊥) → minus x xs ≡ xs
minus_none x [] none = refl
minus_none x (y ∷ ys) none = ap (λ b. cond (not b) (y ∷ minus x ys) (minus x ys)) (ne_eqb x y (λ is. none (inl is))) ∙ ap (λ l. y ∷ l) (minus_none x ys (λ in_. none (inr in_)))

pub minus_push : (x : ℕ) (xs : List ℕ) → (IsAmong x xs → ⊥) → minus x (xs ++ x ∷ []) ≡ xs
minus_push x [] none = ap (λ b. cond (not b) (x ∷ []) []) (eq-eqb x x refl)
minus_push x (y ∷ ys) none = ap (λ b. cond (not b) (y ∷ minus x (ys ++ x ∷ [])) (minus x (ys ++ x ∷ []))) (ne_eqb x y (λ is. none (inl is))) ∙ ap (λ l. y ∷ l) (minus_push x ys (λ in_. none (inr in_)))

pub without_minus : (x : ℕ) (ps : List (ℕ × ℕ)) → AreAllOnce (xids_in ps) → xids_in (without_xid x ps) ≡ minus x (xids_in ps)
without_minus x [] once = refl
without_minus x (p ∷ ps) once =
    let rest = without_minus x ps once.1 in
    known (x == p.0)
    (λ is. ap (λ b. xids_in (cond b ps (p ∷ without_xid x ps))) is
    ∙ sym (ap (λ b. cond (not b) (p.0 ∷ minus x (xids_in ps)) (minus x (xids_in ps))) is ∙ minus_none x (xids_in ps) (λ in_. once.0 (subst (λ y. IsAmong y (xids_in ps)) (eqb-true x p.0 is) in_))))
    (λ isnt. ap (λ b. xids_in (cond b ps (p ∷ without_xid x ps))) isnt ∙ ap (λ l. p.0 ∷ l) rest
    ∙ sym (ap (λ b. cond (not b) (p.0 ∷ minus x (xids_in ps)) (minus x (xids_in ps))) isnt))

pub none_count : {A : Type 0} (test : A → Bool) (xs : List A) (a : A) → how_many test xs ≡ 0 → IsAmong a xs → test a ≡ false
none_count test [] a none in_ = absurd in_
none_count test (x ∷ xs) a none (inl is) = known (test a) (λ yes_. absurd (some (how_many test xs) (sym (ap (λ b. cond b 1 0 + how_many test xs) (ap test (sym is) ∙ yes_)) ∙ none))) (λ no_. no_)
  where
    some : (n : ℕ) → 1 + n ≡ 0 → ⊥
    some n is = omega (arith, is)
none_count test (x ∷ xs) a none (inr in_) = none_count test xs a (rest (cond (test x) 1 0) (how_many test xs) none) in_
  where
    rest : (b n : ℕ) → b + n ≡ 0 → n ≡ 0
    rest b n is = omega (arith, is)

pub drops_fewer : (s : ℕ) (tables : Tables) (title : ℕ → Title) (sessions : List (ℕ × SessionHeld)) → AreDropsNewer tables sessions title → AreDropsNewer tables (without nat_cmp s sessions) title
drops_fewer s tables title sessions drops r b at = known (r == s)
    (λ one. absurd (false≢true (ap is_some (sym (ap (λ q. find nat_cmp q (without nat_cmp s sessions)) (eqb-true r s one) ∙ find-without-same s sessions) ∙ at))))
    (λ two. drops r b (sym (find-without-other r s sessions two) ∙ at))

pub earlier_fewer : (s : ℕ) (sessions : List (ℕ × SessionHeld)) → AreSnapshotsEarlier sessions → AreSnapshotsEarlier (without nat_cmp s sessions)
earlier_fewer s sessions earlier r b at = known (r == s)
    (λ one. absurd (false≢true (ap is_some (sym (ap (λ q. find nat_cmp q (without nat_cmp s sessions)) (eqb-true r s one) ∙ find-without-same s sessions) ∙ at))))
    (λ two. earlier r b (sym (find-without-other r s sessions two) ∙ at))

-- ---- Commit

module _ (low : ℕ) (site : Site) (run : Run) (state : State) (paged : ShowsPaged low site run state) where
  abbrev xids : Xids
  xids = xids_of site.tables run.commits

  abbrev engine : EngineHeld
  engine = engine_at site run

  pub opens_once : AreAllOnce (xids_in site.tables.opens)
  opens_once = (once_parts (xids_in site.tables.opens) (xids_in site.tables.aborted) paged.sound.below.once).0

  module _ (s : ℕ) (session : SessionHeld) (t : Transaction) (at : find nat_cmp s run.sessions ≡ Some session) (is_t : find nat_cmp s state.sessions ≡ Some t) (unasked : t.asked ≡ None) (calm : session.undoing ≡ false)
      (untouched : AreUntouched state.sessions s t) (owed : OwedByCommit site.tables session.me) where
    abbrev x : ℕ
    x = session.me

    abbrev now : Tables
    now = committed x site.tables

    abbrev run_asked : Run
    run_asked = record run { commits = run.commits ++ x ∷ [] }

    x_some : 0 < x
    x_some = open_some site.counted site.tables site.area paged.sound x owed.is_open

    x_zero : x ≡ 0 → ⊥
    x_zero z = not_zero x x_some z
      where
        not_zero : (x : ℕ) → 0 < x → x ≡ 0 → ⊥
        not_zero x lt z = omega (arith, lt, z)

    pub x_live : has x xids.live ≡ true
    x_live = has_in x site.tables.opens ∙ owed.is_open

    pub x_open : is_committed_in site.tables x ≡ false
    x_open = listed_open site.tables x (inl owed.is_open)

    pub same_xids : xids_of now run_asked.commits ≡ asked x xids
    same_xids = λ i. record { next = site.tables.next; live = without_minus x site.tables.opens opens_once i; aborted = xids_in site.tables.aborted; commits = run.commits ++ x ∷ [] }

    test_now : (y : ℕ) → is_committed_in now y ≡ is_some (with_number (number_of xids) x (length run.commits + 1) y)
    test_now y = sym (agree now run_asked.commits y) ∙ ap (λ (xs : Xids). is_some (number_of xs y)) same_xids ∙ ap is_some (asked_numbers xids paged.shows.sound x x_live y)

    now_here : is_committed_in now x ≡ true
    now_here = test_now x ∙ ap is_some (update_here (number_of xids) x (Some (length run.commits + 1)))

    now_others : (y : ℕ) → (y ≡ x → ⊥) → is_committed_in now y ≡ is_committed_in site.tables y
    now_others y apart = test_now y ∙ ap is_some (update_apart (number_of xids) x (Some (length run.commits + 1)) y apart) ∙ agree site.tables run.commits y

    dropped_item : (e : ℕ) → e < 32 → is_live (site.area.title e) ≡ true → (site.area.title e).dropper ≡ x → IsAmong (DropOf x e) site.tables.items
    dropped_item e lt alive is = ⊎_elim
        (λ z. absurd (x_zero (sym is ∙ z)))
        (λ more. ⊎_elim (λ c. absurd (false≢true (sym x_open ∙ ap (is_committed_in site.tables) (sym is) ∙ c))) (λ its. subst (λ y. IsAmong (DropOf y e) site.tables.items) is its.1) more)
        (paged.sound.names.droppers e lt alive)

    same_versions : versions_in (is_committed_in now) site.area ≡ versions_in (is_committed_in site.tables) site.area
    same_versions = commit_same site.counted site.tables site.area paged.sound x owed (paged.drops s session at owed.is_open)

    -- the transaction has the next number, and the others have theirs
    pub next_number : HasNext (number_of xids) (number_of (xids_of now run_asked.commits)) x (length run.commits)
    next_number = record {
      none = none_of (number_of xids x) refl;
      here = number_now x ∙ update_here (number_of xids) x (Some (length run.commits + 1));
      others = λ y apart. number_now y ∙ update_apart (number_of xids) x (Some (length run.commits + 1)) y apart;
      bounded = λ y i is. leb-true i (length run.commits) (ap (is_by (length run.commits)) (sym is) ∙ by_all site.tables run.commits (length run.commits) y (omega arith) ∙ sym (agree site.tables run.commits y) ∙ ap is_some is);
    }
      where
        number_now : (y : ℕ) → number_of (xids_of now run_asked.commits) y ≡ with_number (number_of xids) x (length run.commits + 1) y
        number_now y = ap (λ (xs : Xids). number_of xs y) same_xids ∙ asked_numbers xids paged.shows.sound x x_live y

        none_of : (o : Option ℕ) → number_of xids x ≡ o → number_of xids x ≡ None
        none_of None is = is
        none_of (Some k) is = absurd (false≢true (sym x_open ∙ sym (agree site.tables run.commits x) ∙ ap is_some is))

    same_engine : engine_at (record site { tables = now }) run_asked ≡ record engine { xids = asked x engine.xids }
    same_engine = λ i. record { xids = same_xids i; versions = same_versions i; sessions = run.sessions; answered = run.answered }

    open_still : (y : ℕ) → is_in y now.opens ≡ true → (is_in y site.tables.opens ≡ true) × (y ≡ x → ⊥)
    open_still y is = (
      among_in y site.tables.opens (among_without x y site.tables.opens (in_among y now.opens is)),
      λ same_. false≢true (sym (listed_open now x (inl (subst (λ z. is_in z now.opens ≡ true) same_ is))) ∙ now_here),
    )

    pub commit_shows : ShowsPaged low (record site { tables = now }) run_asked (with_transaction s (record t { asked = Some (length state.asked + 1) }) (record state { asked = state.asked ++ t.own ∷ [] }))
    commit_shows = record {
      bounds = paged.bounds;
      few = paged.few;
      sound = commit_sound site.counted site.tables site.area x paged.sound owed;
      some = paged.some;
      shows = subst (λ (e : EngineHeld). ShowsState low e next) (sym same_engine)
          (ask_step low engine state s session t paged.shows at (theirs low site run state paged s session t at is_t) unasked x_some calm untouched);
      drops = λ r b at_r open_ e f lt_e lt_f live_e live_f names mine gone.
          let was = open_still b.me open_ in
          let apart : (site.area.title f).dropper ≡ x → ⊥ = λ is. was.1 (paged.sound.names.of_one b.me x e f
          (inr (others_item b.me e lt_e live_e mine was.0)) (inr (dropped_item f lt_f live_f is)) names) in
          paged.drops r b at_r was.0 e f lt_e lt_f live_e live_f names mine (sym (now_others (site.area.title f).dropper apart) ∙ gone);
      earlier = paged.earlier;
      modelled = modelled_put s (record t { asked = Some (length state.asked + 1) }) run.sessions state.sessions paged.modelled;
      ordered = paged.ordered;
    }
      where
        next : State
        next = with_transaction s (record t { asked = Some (length state.asked + 1) }) (record state { asked = state.asked ++ t.own ∷ [] })

        others_item : (y e : ℕ) → e < 32 → is_live (site.area.title e) ≡ true → (site.area.title e).dropper ≡ y → is_in y site.tables.opens ≡ true → IsAmong (DropOf y e) site.tables.items
        others_item y e lt alive is open_ = ⊎_elim
            (λ z. absurd (zero_not y (open_some site.counted site.tables site.area paged.sound y open_) (sym is ∙ z)))
            (λ more. ⊎_elim (λ c. absurd (false≢true (sym (listed_open site.tables y (inl open_)) ∙ ap (is_committed_in site.tables) (sym is) ∙ c))) (λ its. subst (λ z. IsAmong (DropOf z e) site.tables.items) is its.1) more)
            (paged.sound.names.droppers e lt alive)
          where
            zero_not : (y : ℕ) → 0 < y → y ≡ 0 → ⊥
            zero_not y lt z = omega (arith, lt, z)

  -- ---- Begin: a session's number is drawn, with its first lock

  pub begin_shows : (s : ℕ) (session : SessionHeld) (t u : Transaction) → find nat_cmp s run.sessions ≡ Some session → find nat_cmp s state.sessions ≡ Some t → ShowsSession low state.answered engine.xids engine.versions session u → u.asked ≡ None → u.own ≡ []
      → ShowsPaged low (record site { tables = opened_by site.tables.next site.tables }) (record run { sessions = put nat_cmp s (record session { me = site.tables.next }) run.sessions }) (with_transaction s u state)
  begin_shows s session t u at is_t shown unasked unwritten = record {
    bounds = paged.bounds;
    few = paged.few;
    sound = begin_sound site.counted site.tables site.area paged.sound paged.some;
    some = omega arith;
    shows = subst (λ (e : EngineHeld). ShowsState low e (with_transaction s u state)) (sym same_) (draw_step low engine state s session u paged.shows shown unasked unwritten);
    drops = λ r b at_r open_ e f lt_e lt_f live_e live_f names mine gone. known (r == s)
        (λ one. let b_is : b.me ≡ site.tables.next = ap (λ (a : SessionHeld). a.me) (some_is b session_now (sym at_r ∙ ap (λ q. find nat_cmp q (put nat_cmp s session_now run.sessions)) (eqb-true r s one) ∙ find-put-same s session_now run.sessions)) in
        absurd (undropped e live_e (mine ∙ b_is)))
        (λ two. let was = sym (find-put-other r s session_now run.sessions two) ∙ at_r in
        paged.drops r b was (open_old b.me (paged.shows.below r b was) open_) e f lt_e lt_f live_e live_f names mine (sym (test_same (site.area.title f).dropper) ∙ gone));
    earlier = λ r b at_r lt. known (r == s)
        (λ one. let b_is = some_is b session_now (sym at_r ∙ ap (λ q. find nat_cmp q (put nat_cmp s session_now run.sessions)) (eqb-true r s one) ∙ find-put-same s session_now run.sessions) in
        subst (λ (a : SessionHeld). a.snapshot.next ≤ a.me) (sym b_is) shown.snapshot.drawn)
        (λ two. paged.earlier r b (sym (find-put-other r s session_now run.sessions two) ∙ at_r) lt);
    modelled = modelled_both s session_now u run.sessions state.sessions paged.modelled;
    ordered = paged.ordered;
  }
    where
      session_now : SessionHeld
      session_now = record session { me = site.tables.next }

      new : Tables
      new = opened_by site.tables.next site.tables

      new_xids : xids_of new run.commits ≡ drawn xids
      new_xids = λ i. record { next = site.tables.next + 1; live = xids_append site.tables.opens ((site.tables.next, 0) ∷ []) i; aborted = xids_in site.tables.aborted; commits = run.commits }

      test_same : (y : ℕ) → is_committed_in new y ≡ is_committed_in site.tables y
      test_same y = sym (agree new run.commits y) ∙ ap (λ (xs : Xids). is_some (number_of xs y)) new_xids ∙ ap is_some (drawn_numbers xids y) ∙ agree site.tables run.commits y

      same_ : engine_at (record site { tables = new }) (record run { sessions = put nat_cmp s session_now run.sessions }) ≡ engine_drawn s session engine
      same_ = λ i. record { xids = new_xids i; versions = versions_in (λ y. test_same y i) site.area; sessions = put nat_cmp s session_now run.sessions; answered = run.answered }

      undropped : (e : ℕ) → is_live (site.area.title e) ≡ true → (site.area.title e).dropper ≡ site.tables.next → ⊥
      undropped e alive is = ⊎_elim (λ z. false≢true (sym (ap (λ n. n == 1) z) ∙ alive)) (λ lt. beyond (site.area.title e).dropper site.tables.next is lt.1) (paged.sound.below.entries e)
        where
          beyond : (d n : ℕ) → d ≡ n → d < n → ⊥
          beyond d n is lt = omega (arith, is, lt)

      open_old : (y : ℕ) → y < site.tables.next → is_in y new.opens ≡ true → is_in y site.tables.opens ≡ true
      open_old y lt is = ⊎_elim
          (λ was. among_in y site.tables.opens was)
          (λ here. ⊎_elim (λ same. absurd (beyond y site.tables.next same lt)) (λ none. absurd none) here)
          (among_parts y (xids_in site.tables.opens) (site.tables.next ∷ []) (subst (IsAmong y) (xids_append site.tables.opens ((site.tables.next, 0) ∷ [])) (in_among y new.opens is)))
        where
          beyond : (d n : ℕ) → d ≡ n → d < n → ⊥
          beyond d n is lt = omega (arith, is, lt)
