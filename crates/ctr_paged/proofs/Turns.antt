-- What a session does without a record, what recovery releases, and the growth of the file.
use Rattle.std.proofs.Common.{◌≡◌, ℕ, ◌+◌, ◌<◌, ◌≤◌, ◌==◌, true, false, List, length, Some, sym, ◌∙◌, ap, subst, arith}
use Rattle.std.specs.Prelude.{nat_lt, ◌&&◌}
use Rattle.std.specs.Ordering.{nat_cmp}
use Rattle.std.specs.FinMap.Entries.{find, put}
use Rattle.std.proofs.lemmas.Bool.{false≢true, eqb-true}
use Rattle.ctr_model.specs.declared.state.State.{State}
use Rattle.ctr_model.specs.declared.state.Transaction.{Transaction}
use Rattle.ctr_model.specs.Maps.{without}
use Rattle.ctr_model.specs.State.{with_transaction, without_transaction, begun}
use Rattle.ctr_model.proofs.Sessions.{find-put-other, find-put-same}
use Rattle.ctr_versions.proofs.Keys.{known, some_is}
use Rattle.ctr_versions.specs.Xids.{number_of, taken}
use Rattle.ctr_versions.specs.Engine.{SessionHeld, EngineHeld, ShowsState}
use Rattle.ctr_versions.specs.Laws.{IsGranted, mark_of, IsNoSessions}
use Rattle.ctr_versions.specs.Changes.{IsOld}
use Rattle.ctr_versions.proofs.Marks.{marked, marked_old, marked_shows}
use Rattle.ctr_actions.specs.area_Images.{is_committed_in}
use Rattle.ctr_versions.specs.Undoing.{IsNotAtWork}
use Rattle.ctr_paged.proofs.Tables.{committed_same}
use Rattle.ctr_versions.proofs.Steps.{begin_step, end_step, answer_step, undo_step}
use Rattle.ctr_versions.proofs.Reading.{grants_shown}
use Rattle.ctr_actions.specs.meta_Tables.{is_in}
use Rattle.ctr_actions.specs.area_Chains.{pages_bound}
use Rattle.ctr_actions.proofs.record_laws_Grown.{grown_sound}
use Rattle.ctr_actions.specs.Sites.{Site}
use Rattle.ctr_paged.specs.Paged.{Run, xids_of, engine_at, ShowsPaged}
use Rattle.ctr_names.specs.Stand.{IsDropNewer}
use Rattle.ctr_paged.proofs.Carry.{open_some, modelled_put, modelled_both, modelled_without}
use Rattle.ctr_paged.proofs.Fates.{drops_fewer, earlier_fewer}

-- one session is another, or new
each_put : (P : SessionHeld → Type 0) (s : ℕ) (a : SessionHeld) (sessions : List (ℕ × SessionHeld)) → P a → ((r : ℕ) (b : SessionHeld) → find nat_cmp r sessions ≡ Some b → P b) → (r : ℕ) (b : SessionHeld) → find nat_cmp r (put nat_cmp s a sessions) ≡ Some b → P b
each_put P s a sessions mine others r b at = known (r == s)
    (λ one. subst P (some_is a b (sym (ap (λ q. find nat_cmp q (put nat_cmp s a sessions)) (eqb-true r s one) ∙ find-put-same s a sessions) ∙ at)) mine)
    (λ two. others r b (sym (find-put-other r s a sessions two) ∙ at))

module _ (low : ℕ) (site : Site) (run : Run) (state : State) (paged : ShowsPaged low site run state) where
  abbrev engine : EngineHeld
  engine = engine_at site run

  zero_lt : 0 < 0 → ⊥
  zero_lt lt = omega (arith, lt)

  -- BEGIN
  pub begin_turn : (s : ℕ) → ShowsPaged low site (record run { sessions = put nat_cmp s (record { me = 0; snapshot = taken (xids_of site.tables run.commits) run.answered; undoing = false }) run.sessions }) (with_transaction s (begun state.answered) state)
  begin_turn s = record {
    bounds = paged.bounds;
    few = paged.few;
    sound = paged.sound;
    some = paged.some;
    shows = begin_step low engine state s paged.shows;
    drops = each_put (λ b. is_in b.me site.tables.opens ≡ true → IsDropNewer site.tables site.area.title b.me) s new run.sessions (λ open_. absurd (zero_lt (open_some site.counted site.tables site.area paged.sound 0 open_))) paged.drops;
    earlier = each_put (λ b. 0 < b.me → b.snapshot.next ≤ b.me) s new run.sessions (λ lt. absurd (zero_lt lt)) paged.earlier;
    modelled = modelled_both s new (begun state.answered) run.sessions state.sessions paged.modelled;
    ordered = paged.ordered;
  }
    where
      new : SessionHeld
      new = record { me = 0; snapshot = taken (xids_of site.tables run.commits) run.answered; undoing = false }

  -- a lock, a use or a hold is granted to a transaction that has its number, or reads
  pub grant_turn : (s : ℕ) (t u : Transaction) → find nat_cmp s state.sessions ≡ Some t → IsGranted t u → ShowsPaged low site run (with_transaction s u state)
  grant_turn s t u is_t granted = record {
    bounds = paged.bounds;
    few = paged.few;
    sound = paged.sound;
    some = paged.some;
    shows = grants_shown low engine state s t u paged.shows is_t granted;
    drops = paged.drops;
    earlier = paged.earlier;
    modelled = modelled_put s u run.sessions state.sessions paged.modelled;
    ordered = paged.ordered;
  }

  -- a transaction that wrote nothing ends
  pub end_turn : (s : ℕ) → ShowsPaged low site (record run { sessions = without nat_cmp s run.sessions }) (without_transaction s state)
  end_turn s = record {
    bounds = paged.bounds;
    few = paged.few;
    sound = paged.sound;
    some = paged.some;
    shows = end_step low engine state s paged.shows;
    drops = drops_fewer s site.tables site.area.title run.sessions paged.drops;
    earlier = earlier_fewer s run.sessions paged.earlier;
    modelled = modelled_without s run.sessions state.sessions paged.modelled;
    ordered = paged.ordered;
  }

  -- a commit is answered
  pub answer_turn : (s : ℕ) → state.answered < length state.asked
      → ShowsPaged low site (record run { sessions = without nat_cmp s run.sessions; answered = run.answered + 1 }) (without_transaction s (record state { answered = state.answered + 1 }))
  answer_turn s more = record {
    bounds = paged.bounds;
    few = paged.few;
    sound = paged.sound;
    some = paged.some;
    shows = answer_step low engine state s paged.shows more;
    drops = drops_fewer s site.tables site.area.title run.sessions paged.drops;
    earlier = earlier_fewer s run.sessions paged.earlier;
    modelled = modelled_without s run.sessions state.sessions paged.modelled;
    ordered = paged.ordered;
  }

  -- a rollback of several steps begins
  pub undo_turn : (s : ℕ) (session : SessionHeld) (t : Transaction) → find nat_cmp s run.sessions ≡ Some session → find nat_cmp s state.sessions ≡ Some t
      → ShowsPaged low site (record run { sessions = put nat_cmp s (record session { undoing = true }) run.sessions }) state
  undo_turn s session t at is_t = record {
    bounds = paged.bounds;
    few = paged.few;
    sound = paged.sound;
    some = paged.some;
    shows = undo_step low engine state s session paged.shows at;
    drops = each_put (λ b. is_in b.me site.tables.opens ≡ true → IsDropNewer site.tables site.area.title b.me) s new run.sessions (λ open_. paged.drops s session at open_) paged.drops;
    earlier = each_put (λ b. 0 < b.me → b.snapshot.next ≤ b.me) s new run.sessions (λ lt. paged.earlier s session at lt) paged.earlier;
    modelled = λ r b at_r. known (r == s)
        (λ one. (t, ap (λ q. find nat_cmp q state.sessions) (eqb-true r s one) ∙ is_t))
        (λ two. paged.modelled r b (sym (find-put-other r s new run.sessions two) ∙ at_r));
    ordered = paged.ordered;
  }
    where
      new : SessionHeld
      new = record session { undoing = true }

  -- the names that recovery holds are no part of it
  pub release_turn : (stuck : List (List ℕ)) → ShowsPaged low site run (record state { stuck = stuck })
  release_turn stuck = record {
    bounds = paged.bounds;
    few = paged.few;
    sound = paged.sound;
    some = paged.some;
    shows = record {
      sound = paged.shows.sound;
      counted = paged.shows.counted;
      same_answered = paged.shows.same_answered;
      answered = paged.shows.answered;
      lowest = paged.shows.lowest;
      stands = paged.shows.stands;
      drawn = paged.shows.drawn;
      inside = paged.shows.inside;
      below = paged.shows.below;
      apart = paged.shows.apart;
    };
    drops = paged.drops;
    earlier = paged.earlier;
    modelled = paged.modelled;
    ordered = paged.ordered;
  }

  -- the low number rises
  pub raise_turn : (higher : ℕ) → ShowsState higher engine state → ShowsPaged higher site run state
  raise_turn higher shows = record {
    bounds = paged.bounds;
    few = paged.few;
    sound = paged.sound;
    some = paged.some;
    shows = shows;
    drops = paged.drops;
    earlier = paged.earlier;
    modelled = paged.modelled;
    ordered = paged.ordered;
  }

  -- more pages are counted
  pub grow_turn : (more : ℕ) → site.counted ≤ more → more ≤ pages_bound → ShowsPaged low (record site { counted = more }) run state
  grow_turn more le few = record {
    bounds = paged.bounds;
    few = few;
    sound = grown_sound site.counted more site.tables site.area le paged.sound;
    some = paged.some;
    shows = paged.shows;
    drops = paged.drops;
    earlier = paged.earlier;
    modelled = paged.modelled;
    ordered = paged.ordered;
  }

  -- The low number can be one at which everyone sees what is below the low mark: what a Trim wants.
  pub mark_turn : (higher : ℕ) × ShowsPaged higher site run state × IsOld (number_of (xids_of site.tables run.commits)) higher (λ d. is_committed_in site.tables d && nat_lt d (mark_of engine))
  mark_turn = (
    marked low engine state paged.shows,
    raise_turn (marked low engine state paged.shows) (marked_shows low engine state paged.shows),
    λ d passes. marked_old low engine state paged.shows d (ap (λ b. b && nat_lt d (mark_of engine)) (committed_same site.tables run.commits d) ∙ passes),
  )

  -- ---- whose items may be undone

  -- a session's that is within its rollback
  pub uncalm_own : (s : ℕ) (session : SessionHeld) → find nat_cmp s run.sessions ≡ Some session → 0 < session.me → session.undoing ≡ true → IsNotAtWork session.me engine state
  uncalm_own s session at some undoing work =
      let one : work.s ≡ s = paged.shows.apart work.s s work.session session work.there at (subst (λ y. 0 < y) (sym work.me) some) work.me in
      false≢true (sym work.calm.1 ∙ ap (λ (a : SessionHeld). a.undoing) (some_is work.session session (sym work.there ∙ ap (λ q. find nat_cmp q run.sessions) one ∙ at)) ∙ undoing)

  -- nobody's: recovery's
  pub uncalm_orphan : (x : ℕ) → IsNoSessions run.sessions x → IsNotAtWork x engine state
  uncalm_orphan x nobodys work = nobodys work.s work.session work.there work.me
