-- A session whose next act asks for no answer hasn't asked for its commit, by the model and by the program.
use Rattle.std.proofs.Common.{◌≡◌, ℕ, zero, suc, ◌-◌, ◌<◌, ◌==◌, true, false, List, [], ◌∷◌, Option, Some, None, refl, sym, ◌∙◌, ap, subst}
use Rattle.std.specs.Prelude.{◌||◌, is_some, slice_get}
use Rattle.std.proofs.lemmas.Bool.{false≢true, eq-eqb}
use Rattle.ctr_disk.specs.declared.disk.Disk.{Ghosts}
use Rattle.ctr_types.specs.declared.statement.Statement.{Statement}
use Rattle.ctr_types.specs.declared.tape.Act.{Act}
use Rattle.ctr_snap.specs.Seeing.{has}
use Rattle.ctr_model.specs.State.{transaction_of}
use Rattle.ctr_model.specs.Tape.{acts_of, statement_of}
use Rattle.ctr_legal.specs.Ready.{IsReady, IsUnasked}
use Rattle.ctr_versions.proofs.Keys.{some_is}
use Rattle.ctr_versions.specs.Engine.{SessionHeld}
use Rattle.ctr_area.specs.Sound.{xids_in}
use Rattle.ctr_actions.specs.Sites.{site_of}
use Rattle.ctr_writing.specs.ctr_session_world.paged_Paged.{Run}
use Rattle.ctr_store.specs.Store.{View}
use Rattle.ctr_writing.proofs.ctr_session_world.kept_Walking.{keeps_reached}
use Rattle.ctr_writing.specs.ctr_session_world.kept_Turns.{Start, state_now}
use Rattle.ctr_writing.specs.ctr_session_world.txn_Asked.{Asked}
use Rattle.ctr_writing.specs.ctr_session_world.txn_Held.{AreTxns, TxnHeld, IsOneOfEight, txn_of}
use Rattle.ctr_writing.specs.ctr_session_world.World.{SessionsHeld}
use Rattle.ctr_writing.specs.ctr_session_world.Told.{IsNextOf}
use Rattle.ctr_writing.proofs.ctr_session_world.Standing.{RunFinds, seat_of}

-- what stands at a place is in the list
there_has : (x j : ℕ) (ys : List ℕ) → slice_get ys j ≡ Some x → has x ys ≡ true
there_has x j [] is = absurd (false≢true (ap is_some is))
there_has x zero (y ∷ ys) is = ap (λ b. b || has x ys) (eq-eqb x y (sym (some_is y x is)))
there_has x (suc j) (y ∷ ys) is = elim (x == y) as (λ b. (b || has x ys) ≡ true) [ true ↦ refl | false ↦ there_has x j ys is ]

module _ {D : Type 0} (g : Ghosts D) (c : Start) (opened : D) (a b : View D) (h : SessionsHeld) (s : ℕ) (statement : Statement) (next : IsNextOf g c opened a b h s statement 0)
    (one : IsOneOfEight s) (finds : RunFinds) (held : AreTxns h.txns) where
  -- by the model it is ready for its first act
  pub ready : (x : Act) → slice_get (acts_of (state_now c next.mind) s statement) 0 ≡ Some x → IsReady (state_now c next.mind) statement x (transaction_of (state_now c next.mind) s)
  ready x first =
      (keeps_reached c.lines c.moment c.base c.stuck c.size (g.moment_of a.disk) (site_of a.now) next.mind next.world.keeps.walks).ready s statement x (record {
        given = ap (statement_of c.lines s) (sym next.number) ∙ next.e.is_it ∙ ap Some next.is;
        next_act = ap (slice_get (acts_of (state_now c next.mind) s statement)) next.made_is ∙ first;
      })

  -- and who hasn't asked by the model hasn't by the program, whose number would be among those that asked
  pub unasked_next : IsUnasked (transaction_of (state_now c next.mind) s) → (t : TxnHeld) → txn_of s h.txns ≡ Some t → t.asked ≡ None
  unasked_next unasked t is = elim t.asked as (λ (o : Option Asked). t.asked ≡ o → o ≡ None) [ None ↦ λ none. refl | Some q ↦ λ asks. absurd (both q asks) ] refl
    where
      both : (q : Asked) → t.asked ≡ Some q → ⊥
      both q asks =
          let its = (held.each (s - 1) t is).asked q asks in
          let seated = seat_of g c opened a b h s statement 0 next finds one t is in
          let seat = seated.0 in
          let shows = next.world.keeps.walks.scene.shown.paged.shows in
          let inside = shows.inside s seat.t seat.is_t in
          let same = some_is inside.0 t.session (sym inside.1 ∙ seat.at ∙ ap Some seated.1) in
          let live = subst (λ (d : SessionHeld). has d.me (xids_in a.now.tables.opens) ≡ true) same
          (inside.2.live (subst IsUnasked seat.is_t unasked) (subst (λ (d : SessionHeld). 0 < d.me) (sym same) its.1)) in
          let commits = ap (λ (r : Run). has t.session.me r.commits) next.world.run_is ∙ there_has t.session.me (q.k - 1) h.txns.numbers.commits its.2 in
          false≢true (sym (shows.sound.apart t.session.me live).0 ∙ commits)
