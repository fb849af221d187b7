-- What a session sees of versions goes by its own number and by who was committed before its snapshot.
use Rattle.std.proofs.Common.{◌≡◌, ⊎_elim, ℕ, ◌+◌, ◌<◌, arith, Bool, true, false, cond, not, List, [], ◌∷◌, length, Option, Some, None, refl, sym, ◌∙◌, ap}
use Rattle.std.specs.Prelude.{is_some, ◌&&◌, ◌||◌, nat_lt}
use Rattle.std.specs.List.{AllByRecursion}
use Rattle.std.specs.Ordering.{nat_cmp}
use Rattle.std.specs.FinMap.Entries.{find, put}
use Rattle.std.proofs.lemmas.Bool.{ne_eqb, cases_eq}
use Rattle.std.proofs.lemmas.Map.{update_apart}
use Rattle.ctr_model.proofs.Sessions.{find-put-other, find-put-same, find-without-other}
use Rattle.ctr_snap.specs.Seeing.{SnapshotTaken, has, sees, is_own}
use Rattle.ctr_versions.specs.Chains.{value_seen}
use Rattle.ctr_versions.specs.Xids.{Xids, has_committed, place_from, number_of, fate_of, is_before, taken, drawn, asked, aborted}
use Rattle.ctr_versions.specs.Versions.{names_at, rows_of}
use Rattle.ctr_versions.specs.Engine.{SessionHeld, EngineHeld, session_sees, IsBy, IsDrawn}
use Rattle.ctr_versions.specs.Steps.{engine_begun, engine_drawn, engine_asked, engine_ended, engine_answered, engine_rolled_back}
use Rattle.ctr_versions.specs.Laws.{me_found, me_of, sees_found, IsOpenWriter}
use Rattle.ctr_versions.proofs.Xids.{sees_is, drawn_numbers, asked_numbers, aborted_numbers}
use Rattle.ctr_sessions.specs.Views.{OthersSeeAlike, ViewsStay, DrawsSeeAlike}

some_if : (b : Bool) (k : ℕ) → is_some (cond b (Some k) None) ≡ b
some_if true k = refl
some_if false k = refl

-- who has the commit number of before is as committed as before
committed_same : (old new : Xids) (x : ℕ) → number_of new x ≡ number_of old x → has_committed new x ≡ has_committed old x
committed_same old new x same = sym (some_if (has_committed new x) (place_from 1 x new.commits)) ∙ ap is_some same ∙ some_if (has_committed old x) (place_from 1 x old.commits)

-- the snapshot sees it as it did
snapshot_same : (old new : Xids) (s : SnapshotTaken) (x : ℕ) → has_committed new x ≡ has_committed old x → sees s (fate_of new x) x ≡ sees s (fate_of old x) x
snapshot_same old new s x same = sees_is new s x ∙ ap (λ b. b && (nat_lt x s.next && not (has x s.listed))) same ∙ sym (sees_is old s x)

none_either : (a b : Bool) → (a && false) ≡ (b && false)
none_either true true = refl
none_either true false = refl
none_either false true = refl
none_either false false = refl

-- one that isn't before the snapshot isn't seen by it, whatever became of it
snapshot_never : (old new : Xids) (s : SnapshotTaken) (x : ℕ) → is_before s x ≡ false → sees s (fate_of new x) x ≡ sees s (fate_of old x) x
snapshot_never old new s x never = sees_is new s x ∙ ap (λ b. has_committed new x && b) never ∙ none_either (has_committed new x) (has_committed old x) ∙ sym (ap (λ b. has_committed old x && b) never) ∙ sym (sees_is old s x)

-- the session sees it, where its snapshot does as before
session_same : (old new : Xids) (session : SessionHeld) (x : ℕ) → sees session.snapshot (fate_of new x) x ≡ sees session.snapshot (fate_of old x) x → session_sees new session x ≡ session_sees old session x
session_same old new session x same = ap (λ b. is_own (Some session.me) x || b) same

found_same : (old new : Xids) (found : Option SessionHeld) (x : ℕ) → number_of new x ≡ number_of old x → sees_found new found x ≡ sees_found old found x
found_same old new None x same = refl
found_same old new (Some session) x same = session_same old new session x (snapshot_same old new session.snapshot x (committed_same old new x same))

me_is : (s : ℕ) (engine : EngineHeld) (writer : IsOpenWriter s engine) → me_of s engine ≡ writer.session.me
me_is s engine writer = ap me_found writer.there

-- the number of an open writer is open
live_me : (s : ℕ) (engine : EngineHeld) → IsOpenWriter s engine → has (me_of s engine) engine.xids.live ≡ true
live_me s engine writer = ap (λ x. has x engine.xids.live) (me_is s engine writer) ∙ writer.live

begun_alike : (s : ℕ) (engine : EngineHeld) → OthersSeeAlike s engine (engine_begun s engine)
begun_alike s engine low state r u shows apart at x = ap (λ o. sees_found engine.xids o x) (find-put-other r s (record { me = 0; snapshot = taken engine.xids engine.answered; undoing = false }) engine.sessions apart)

drawn_alike : (s : ℕ) (session : SessionHeld) (engine : EngineHeld) → OthersSeeAlike s engine (engine_drawn s session engine)
drawn_alike s session engine low state r u shows apart at x =
    ap (λ o. sees_found (drawn engine.xids) o x) (find-put-other r s (record session { me = engine.xids.next }) engine.sessions apart)
    ∙ found_same engine.xids (drawn engine.xids) (find nat_cmp r engine.sessions) x (drawn_numbers engine.xids x)

asked_alike : (s : ℕ) (engine : EngineHeld) → IsOpenWriter s engine → OthersSeeAlike s engine (engine_asked (me_of s engine) engine)
asked_alike s engine writer low state r u shows apart at x =
    let me = me_of s engine in
    let theirs = shows.inside r u at in
    let never : is_before theirs.0.snapshot me ≡ false = theirs.2.snapshot.still_open me (live_me s engine writer) in
    ap (λ o. sees_found (asked me engine.xids) o x) theirs.1
    ∙ session_same engine.xids (asked me engine.xids) theirs.0 x (⊎_elim
    (λ same. snapshot_never engine.xids (asked me engine.xids) theirs.0.snapshot x (ap (is_before theirs.0.snapshot) same ∙ never))
    (λ other. snapshot_same engine.xids (asked me engine.xids) theirs.0.snapshot x (committed_same engine.xids (asked me engine.xids) x
    (asked_numbers engine.xids shows.sound me (live_me s engine writer) x ∙ update_apart (number_of engine.xids) me (Some (length engine.xids.commits + 1)) x other)))
    (cases_eq x me))
    ∙ sym (ap (λ o. sees_found engine.xids o x) theirs.1)

ended_alike : (s : ℕ) (engine : EngineHeld) → OthersSeeAlike s engine (engine_ended s engine)
ended_alike s engine low state r u shows apart at x = ap (λ o. sees_found engine.xids o x) (find-without-other r s engine.sessions apart)

answered_alike : (s : ℕ) (engine : EngineHeld) → OthersSeeAlike s engine (engine_answered s engine)
answered_alike s engine low state r u shows apart at x = ap (λ o. sees_found engine.xids o x) (find-without-other r s engine.sessions apart)

rolled_back_alike : (s : ℕ) (engine : EngineHeld) → IsOpenWriter s engine → OthersSeeAlike s engine (engine_rolled_back s (me_of s engine) engine)
rolled_back_alike s engine writer low state r u shows apart at x =
    let me = me_of s engine in
    ap (λ o. sees_found (aborted me engine.xids) o x) (find-without-other r s engine.sessions apart)
    ∙ found_same engine.xids (aborted me engine.xids) (find nat_cmp r engine.sessions) x (aborted_numbers engine.xids shows.sound me (live_me s engine writer) x)

renumbered_alike : (s : ℕ) (old new : EngineHeld) → new.sessions ≡ old.sessions → ((x : ℕ) → number_of new.xids x ≡ number_of old.xids x) → OthersSeeAlike s old new
renumbered_alike s old new sessions numbers low state r u shows apart at x = ap (λ es. sees_found new.xids (find nat_cmp r es) x) sessions ∙ found_same old.xids new.xids (find nat_cmp r old.sessions) x (numbers x)

pub steps_alike : ViewsStay
steps_alike = record {
  begun = begun_alike;
  drawn = drawn_alike;
  asked = asked_alike;
  ended = ended_alike;
  answered = answered_alike;
  renumbered = renumbered_alike;
  rolled_back = rolled_back_alike;
}

-- ---- the session's own number

-- no drawn number is 0 or the next
own_apart : (next x : ℕ) → IsDrawn next x → is_own (Some next) x ≡ is_own (Some 0) x
own_apart next x is = ne_eqb x next (λ same. at_next same is.1) ∙ sym (ne_eqb x 0 (λ same. at_none same is.0))
  where
    at_next : x ≡ next → x < next → ⊥
    at_next same lt = omega (arith, same, lt)

    at_none : x ≡ 0 → 0 < x → ⊥
    at_none same lt = omega (arith, same, lt)

module _ (engine : EngineHeld) (session : SessionHeld) (undrawn : session.me ≡ 0) where
  own_alike : (x : ℕ) → IsDrawn engine.xids.next x → session_sees (drawn engine.xids) (record session { me = engine.xids.next }) x ≡ session_sees engine.xids session x
  own_alike x is = λ i. (own_apart engine.xids.next x is ∙ ap (λ me. is_own (Some me) x) (sym undrawn)) i || snapshot_same engine.xids (drawn engine.xids) session.snapshot x (committed_same engine.xids (drawn engine.xids) x (drawn_numbers engine.xids x)) i

  chain_alike : {V : Type 0} (chain : List (ℕ × Option V)) → AllByRecursion (IsBy (IsDrawn engine.xids.next)) chain → value_seen (session_sees (drawn engine.xids) (record session { me = engine.xids.next })) chain ≡ value_seen (session_sees engine.xids session) chain
  chain_alike [] all = refl
  chain_alike (v ∷ vs) all = λ i. cond (own_alike v.0 all.0 i) v.1 (chain_alike vs all.1 i)

pub draws_alike : DrawsSeeAlike
draws_alike low engine state s session shows at undrawn =
    let new : SessionHeld = record session { me = engine.xids.next } in
    let here : find nat_cmp s (put nat_cmp s new engine.sessions) ≡ Some new = find-put-same s new engine.sessions in
    record {
      names = λ name. ap (λ o. value_seen (sees_found (drawn engine.xids) o) (names_at engine.versions name)) here
          ∙ chain_alike engine session undrawn (names_at engine.versions name) (shows.drawn.names name)
          ∙ sym (ap (λ o. value_seen (sees_found engine.xids o) (names_at engine.versions name)) at);
      rows = λ id key. ap (λ o. value_seen (sees_found (drawn engine.xids) o) (rows_of engine.versions id key)) here
          ∙ chain_alike engine session undrawn (rows_of engine.versions id key) (shows.drawn.rows id key)
          ∙ sym (ap (λ o. value_seen (sees_found engine.xids o) (rows_of engine.versions id key)) at);
    }
