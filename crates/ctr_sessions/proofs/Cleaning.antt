-- What the cleaner may take away, by the locks.
use Rattle.std.proofs.Common.{◌≡◌, ℕ, false, cond, List, [], ◌∷◌, length, Option, Some, None, refl, sym, ◌∙◌, ap, subst}
use Rattle.std.specs.Prelude.{is_some, ◌&&◌}
use Rattle.std.specs.Ordering.{nat_cmp}
use Rattle.std.specs.FinMap.Entries.{find}
use Rattle.std.proofs.lemmas.Bool.{false≢true, true≢false, eq-eqb, or_parts}
use Rattle.ctr_model.specs.declared.state.State.{State}
use Rattle.ctr_model.specs.declared.state.Transaction.{Transaction}
use Rattle.ctr_model.specs.State.{has_name, transaction_of}
use Rattle.ctr_model.specs.Refusals.{has_lock, is_busy}
use Rattle.ctr_versions.specs.Chains.{written_by}
use Rattle.ctr_versions.specs.Xids.{number_of}
use Rattle.ctr_versions.specs.Versions.{Made, names_at, rows_of}
use Rattle.ctr_versions.specs.Engine.{SessionHeld, ShowsSession}
use Rattle.ctr_versions.specs.Laws.{IsNobodys}
use Rattle.ctr_sessions.specs.Sessions.{Begun, ShowsBegun}
use Rattle.ctr_sessions.specs.Cleaning.{HasOpenHead, FreeRowsAreNobodys, FreeNamesAreNobodys}
use Rattle.ctr_versions.proofs.Keys.{some_is}
use Rattle.ctr_versions.proofs.Locks.{schema_none}
use Rattle.ctr_legal.proofs.Cover.{not_first}

-- a head that the transaction didn't write isn't its own
not_head : {V : Type 0} (x : ℕ) (h : ℕ × Option V) (rest : List (ℕ × Option V)) → written_by x (h ∷ rest) ≡ None → x ≡ h.0 → ⊥
not_head x h rest none same = true≢false (ap is_some (sym (ap (λ b. cond b (Some h.1) None) (eq-eqb x h.0 same)) ∙ none))

-- a session at work, with its transaction
pub record AtWork (low : ℕ) (db : Begun) (state : State) (s : ℕ) (session : SessionHeld) : Type 0 where
  pub t : Transaction
  pub at : transaction_of state s ≡ Some t
  pub shown : ShowsSession low state.answered db.engine.xids db.engine.versions session t

module _ (low : ℕ) (db : Begun) (state : State) (shows : ShowsBegun low db state) (s : ℕ) (session : SessionHeld) (held : find nat_cmp s db.engine.sessions ≡ Some session) where
  at_work : AtWork low db state s session
  at_work = elim (transaction_of state s) as (λ o. transaction_of state s ≡ o → AtWork low db state s session) [
    | None ↦ λ at. absurd (false≢true (sym (ap is_some at) ∙ shows.only s session held))
    | Some t ↦ λ at. let other = shows.shows.inside s t at in record { t = t; at = at; shown = subst (λ (c : SessionHeld). ShowsSession low state.answered db.engine.xids db.engine.versions c t) (some_is other.0 session (sym other.1 ∙ held)) other.2 }
  ] refl

  -- one whose number isn't committed hasn't asked for its commit
  unasked_by : (work : AtWork low db state s session) → number_of db.engine.xids session.me ≡ None → work.t.asked ≡ None
  unasked_by work open_ = elim (work.t.asked) as (λ o. work.t.asked ≡ o → o ≡ None) [
    | None ↦ λ is. refl
    | Some k ↦ λ is. absurd (false≢true (ap is_some (sym open_ ∙ work.shown.asked k is)))
  ] refl

unheld : (name : List ℕ) (t : Transaction) → is_busy false name t ≡ false → has_name name t.holds ≡ false
unheld name t idle = (or_parts (has_name name t.holds) (false && has_name name t.uses) idle).0

pub free_names : FreeNamesAreNobodys
free_names low db state name shows kept calm idle open_ = nobodys (names_at db.engine.versions name) refl open_
  where
    nobodys : (chain : List (ℕ × Option Made)) → names_at db.engine.versions name ≡ chain → HasOpenHead (number_of db.engine.xids) chain → IsNobodys db.engine chain
    nobodys [] is open_ = tt
    nobodys (h ∷ rest) is open_ = λ s session held same.
        let work = at_work low db state shows s session held in
        let unasked = unasked_by low db state shows s session held work (ap (number_of db.engine.xids) same ∙ open_) in
        let free = unheld name work.t (not_first (is_busy false name) state.sessions s work.t idle work.at) in
        let unwritten = schema_none session.me (names_at db.engine.versions name) ((work.shown.wrote (unasked, calm s session held)).tables name ∙ (kept.covered s work.t work.at).names name free) in
        not_head session.me h rest (ap (written_by session.me) (sym is) ∙ unwritten) same

pub free_rows : FreeRowsAreNobodys
free_rows low db state name made key shows kept calm is_table unlocked idle open_ = nobodys (rows_of db.engine.versions made.id key) refl open_
  where
    nobodys : (chain : _) → rows_of db.engine.versions made.id key ≡ chain → HasOpenHead (number_of db.engine.xids) chain → IsNobodys db.engine chain
    nobodys [] is open_ = tt
    nobodys (h ∷ rest) is open_ = λ s session held same.
        let work = at_work low db state shows s session held in
        let unasked = unasked_by low db state shows s session held work (ap (number_of db.engine.xids) same ∙ open_) in
        let free = unheld name work.t (not_first (is_busy false name) state.sessions s work.t idle work.at) in
        let wrote = work.shown.wrote (unasked, calm s session held) in
        let covered = kept.covered s work.t work.at in
        let unnamed = schema_none session.me (names_at db.engine.versions name) (wrote.tables name ∙ covered.names name free) in
        let unwritten = wrote.rows name made key (length state.asked) (kept.fits s work.t work.at).snapshot unnamed is_table ∙ covered.rows name key (not_first (has_lock name key) state.sessions s work.t unlocked work.at) free in
        not_head session.me h rest (ap (written_by session.me) (sym is) ∙ unwritten) same
