-- Turns of a ROLLBACK in a World: what the session counts on when an item is undone, and whose locks are in which table.
use Rattle.std.proofs.Common.{◌≡◌, ◌≢◌, ◌⊎◌, ⊎_elim, inl, inr, ℕ, ◌<◌, ◌==◌, true, false, cond, List, Some, None, refl, sym, ◌∙◌, ap, subst}
use Rattle.std.proofs.lemmas.Bool.{false≢true, eqb-true}
use Rattle.ctr_disk.specs.declared.disk.Disk.{Ghosts}
use Rattle.ctr_types.specs.declared.statement.Statement.TheVariants as st
use Rattle.ctr_types.specs.declared.tape.Act.TheVariants as act
use Rattle.ctr_types.specs.declared.tape.Refusal.TheVariants as refusal
use Rattle.ctr_types.specs.declared.tape.Reply.TheVariants as reply
use Rattle.ctr_rec.specs.declared.record.SlogItem.{SlogItem}
use Rattle.ctr_rec.specs.declared.record.SlogItem.TheVariants.{AllocOf, FreeOf, CreateOf, DropOf}
use Rattle.ctr_model.specs.declared.state.State.{State}
use Rattle.ctr_model.specs.declared.state.Transaction.{Transaction}
use Rattle.ctr_model.specs.State.{has_name, transaction_of}
use Rattle.ctr_model.specs.Reply.{reply_from}
use Rattle.ctr_model.specs.Tape.{statement_of, Allowed}
use Rattle.ctr_meta.specs.Tables.{is_in}
use Rattle.ctr_area.specs.Areas.{Title}
use Rattle.ctr_area.specs.Images.{is_committed_in}
use Rattle.ctr_area.specs.Sound.{IsAmong}
use Rattle.ctr_versions.proofs.Keys.{known, some_is}
use Rattle.ctr_versions.specs.Engine.{SessionHeld}
use Rattle.ctr_record_effects.specs.States.{area_in}
use Rattle.ctr_record_laws.proofs.Heads.{listed_open}
use Rattle.ctr_redo.specs.States.{State as Stored}
use Rattle.ctr_actions.specs.Actions.{site_after, undoing}
use Rattle.ctr_actions.specs.Facts.{Fact, HasTable}
use Rattle.ctr_actions.specs.Sites.{Site, site_of}
use Rattle.ctr_writing.proofs.ctr_session_world.paged_Tables.{has_in}
use Rattle.ctr_writing.specs.ctr_session_world.paged_Moving.{held_as}
use Rattle.ctr_writing.specs.ctr_session_world.paged_Paged.{Run}
use Rattle.ctr_store.specs.Store.{View}
use Rattle.ctr_locks.specs.Held.{LocksOfSession}
use Rattle.ctr_locks.specs.Shows.{ShowsKeyLocks}
use Rattle.ctr_writing.proofs.ctr_session_world.kept_Walking.{keeps_reached}
use Rattle.ctr_writing.specs.ctr_session_world.kept_Walk.{Mind, IsAtRollback}
use Rattle.ctr_writing.specs.ctr_session_world.kept_Turns.{Start, InTransaction, MayCome, point_now, state_now, undoing_mind}
use Rattle.ctr_writing.specs.ctr_session_world.stops_World.{KeepsWorld}
use Rattle.ctr_writing.proofs.ctr_session_world.rollback_Worlds.{its_name}
use Rattle.ctr_writing.specs.ctr_session_world.ctr_rollback.Keeping.{IsActiveWriter, AreOthersTables}
use Rattle.ctr_writing.proofs.ctr_session_world.ctr_told.Acting.{is_ready}
use Rattle.ctr_writing.specs.ctr_session_world.txn_Held.{TxnHeld, TxnsHeld, run_of}
use Rattle.ctr_writing.specs.ctr_session_world.txn_Numbered.{NumbersHeld}
use Rattle.ctr_writing.specs.ctr_session_world.World.{SessionsHeld, IsInTable, AreInTables, names_in}
use Rattle.ctr_writing.specs.ctr_session_world.Told.{IsNextOf, IsKeptOn}
use Rattle.ctr_control.proofs.Others.{others_of, others_tables, others_counted, others_apart, counted_others}
use Rattle.ctr_writing.proofs.ctr_session_world.Standing.{comes}

-- ---- titles

-- what undoes an item leaves each entry its name, and none free that wasn't
abbrev pub KeepsTitles : Site → Site → Type 0
KeepsTitles y z = (e : ℕ) → ((z.area.title e).name ≡ (y.area.title e).name) × ((y.area.title e).state ≢ 0 → (z.area.title e).state ≢ 0)

-- another title in the place of one
module _ (P : Title → Type 0) (title : ℕ → Title) (e f : ℕ) (new : Title) where
  at_or_beside : (e ≡ f → P new) → P (title e) → P (cond (e == f) new (title e))
  at_or_beside here beside = known (e == f)
      (λ one. subst (λ b. P (cond b new (title e))) (sym one) (here (eqb-true e f one)))
      (λ two. subst (λ b. P (cond b new (title e))) (sym two) beside)

pub titles_undone : (x : ℕ) (i : SlogItem) (y : Site) → KeepsTitles y (site_after x (undoing i) y)
titles_undone x (AllocOf z p) y e = (refl, λ some. some)
titles_undone x (FreeOf p) y e = (refl, λ some. some)
titles_undone x (CreateOf z f) y e =
    at_or_beside (λ t. (t.name ≡ (y.area.title e).name) × ((y.area.title e).state ≢ 0 → t.state ≢ 0)) y.area.title e f (record (y.area.title f) { state = 2 })
    (λ is. (ap (λ n. (y.area.title n).name) (sym is), λ some none. absurd (cc none)))
    (refl, λ some. some)
titles_undone x (DropOf z f) y e =
    at_or_beside (λ t. (t.name ≡ (y.area.title e).name) × ((y.area.title e).state ≢ 0 → t.state ≢ 0)) y.area.title e f (record (y.area.title f) { dropper = 0 })
    (λ is. (ap (λ n. (y.area.title n).name) (sym is), λ some none. some (ap (λ n. (y.area.title n).state) is ∙ none)))
    (refl, λ some. some)

-- a lock in a table is one in a table of that name still, where who counts on its title finds it
in_table_undone : (s t : Stored) (e : ℕ) (u : Transaction) (facts now : List Fact) → ((area_in t).title e).name ≡ ((area_in s).title e).name → (((area_in s).title e).state ≢ 0 → ((area_in t).title e).state ≢ 0)
    → (IsAmong (HasTable e ((area_in s).title e)) facts → (has_name (names_in s e) u.holds ≡ true) ⊎ IsAmong (HasTable e ((area_in s).title e)) now)
    → (IsAmong (HasTable e ((area_in s).title e)) now → (area_in t).title e ≡ (area_in s).title e) → IsInTable s e u facts → IsInTable t e u now
in_table_undone s t e u facts now name there counts finds is = record {
  inside = is.inside;
  there = there is.there;
  counted = ⊎_elim held (λ counted. ⊎_elim held on (counts counted)) is.counted;
}
  where
    held : has_name (names_in s e) u.holds ≡ true → (has_name (names_in t e) u.holds ≡ true) ⊎ IsAmong (HasTable e ((area_in t).title e)) now
    held holds = inl (ap (λ n. has_name n u.holds) name ∙ holds)

    on : IsAmong (HasTable e ((area_in s).title e)) now → (has_name (names_in t e) u.holds ≡ true) ⊎ IsAmong (HasTable e ((area_in t).title e)) now
    on in_ = inr (subst (λ (l : Title). IsAmong (HasTable e l) now) (sym (finds in_)) in_)

-- ---- the session

module _ {D : Type 0} (g : Ghosts D) (c : Start) (opened : D) (a b : View D) (old : TxnsHeld) (locks : List (ℕ × LocksOfSession)) (s : ℕ)
    (next : IsNextOf g c opened a b (record { txns = old; locks = locks }) s st.Rollback 0) (seat : InTransaction c next.mind s) where
  abbrev h : SessionsHeld
  h = record { txns = old; locks = locks }

  abbrev w : Mind
  w = next.mind

  abbrev state : State
  state = state_now c w

  abbrev me : ℕ
  me = seat.session.me

  -- it is at its ROLLBACK, whose act may come
  pub at_rollback : IsAtRollback c.lines (point_now c w) s
  at_rollback = ap (statement_of c.lines s) (sym next.number) ∙ next.e.is_it ∙ ap Some next.is

  rolls_back : Allowed state s act.Rollback st.Rollback reply.RolledBack
  rolls_back = inl (sym (ap (λ o. reply_from state s o act.Rollback st.Rollback) seat.is_t))

  pub back_comes : MayCome c w next.e act.Rollback reply.RolledBack
  back_comes = comes g c opened a b h s st.Rollback 0 next act.Rollback reply.RolledBack refl tt rolls_back

  unasked : seat.t.asked ≡ None
  unasked = is_ready c (g.moment_of a.disk) s w next.e act.Rollback reply.RolledBack back_comes
      (keeps_reached c.lines c.moment c.base c.stuck c.size (g.moment_of a.disk) (site_of a.now) w next.world.keeps.walks) seat

  module _ (some : 0 < me) where
    pub writer : IsActiveWriter seat
    writer = record { some = some; unasked = unasked }

    -- its transaction is open
    pub is_open : is_in me a.now.tables.opens ≡ true
    is_open =
        let its = next.world.keeps.walks.scene.shown.paged.shows.inside s seat.t seat.is_t in
        let same = some_is its.0 seat.session (sym its.1 ∙ seat.at) in
        subst (λ (b : SessionHeld). is_in b.me a.now.tables.opens ≡ true) same
        (sym (has_in its.0.me a.now.tables.opens) ∙ its.2.live unasked (subst (λ (b : SessionHeld). 0 < b.me) (sym same) some))

    -- a table that it counts on, and made, has a name that it holds
    own_held : (e : ℕ) → e < 32 → ((area_in a.now).title e).creator ≡ me → IsAmong (HasTable e ((area_in a.now).title e)) (w.facts s) → has_name (names_in a.now e) seat.t.holds ≡ true
    own_held e inside is in_ =
        let title = (area_in a.now).title e in
        let under = next.world.keeps.walks.scene.carried.under s seat.t (HasTable e title) seat.is_t in_ in
        ⊎_elim
        (λ committed. absurd (false≢true (sym (listed_open a.now.tables me (inl is_open)) ∙ ap (is_committed_in a.now.tables) (sym is) ∙ committed)))
        (λ made. its_name c (g.moment_of a.disk) s (site_of a.now) w next.world.keeps.walks seat some title.creator e is (inl made.1))
        (next.world.keeps.walks.scene.shown.paged.sound.names.creators e inside under.0)

    -- ---- an item is undone: the session counts on tables that others made

    abbrev more : List Fact
    more = others_of me (w.facts s)

    pub its : AreOthersTables seat (w.facts s) more
    its = record {
      tables = others_tables me (w.facts s);
      among = λ f in_. others_counted me f (w.facts s) in_;
      others = λ e title in_. others_apart me e title (w.facts s) in_;
    }

    abbrev v : Mind
    v = undoing_mind s seat.session more w

    module _ (new : TxnsHeld) (run_now : v.run ≡ run_of new) (titles : KeepsTitles (site_of a.now) (site_of b.now)) (keeps : KeepsWorld g c opened b v) where
      abbrev now : SessionsHeld
      now = record { txns = new; locks = locks }

      same_name_of : names_in b.now ≡ names_in a.now
      same_name_of = λ i e. (titles e).0 i

      facts_its : (r : ℕ) → (r == s) ≡ true → v.facts r ≡ more
      facts_its r one = ap (λ x. cond x more (w.facts r)) one

      facts_others : (r : ℕ) → (r == s) ≡ false → v.facts r ≡ w.facts r
      facts_others r two = ap (λ x. cond x more (w.facts r)) two

      -- who counts on a title finds it
      found : (r e : ℕ) (title : Title) (u : Transaction) → transaction_of state r ≡ Some u → IsAmong (HasTable e title) (v.facts r) → (area_in b.now).title e ≡ title
      found r e title u is_u in_ =
          let held = keeps.walks.scene.shown.paged.shows.inside r u is_u in
          keeps.walks.scene.carried.held r held.0 (HasTable e title) held.1 in_

      counts_on : (r e : ℕ) (u : Transaction) → e < 32 → transaction_of state r ≡ Some u → IsAmong (HasTable e ((area_in a.now).title e)) (w.facts r)
          → (has_name (names_in a.now e) u.holds ≡ true) ⊎ IsAmong (HasTable e ((area_in a.now).title e)) (v.facts r)
      counts_on r e u inside is_u in_ = known (r == s)
          (λ one.
          let q = eqb-true r s one in
          let t_is = some_is seat.t u (sym seat.is_t ∙ ap (transaction_of state) (sym q) ∙ is_u) in
          let here = subst (λ n. IsAmong (HasTable e ((area_in a.now).title e)) (w.facts n)) q in_ in
          known (((area_in a.now).title e).creator == me)
          (λ own. inl (subst (λ (t : Transaction). has_name (names_in a.now e) t.holds ≡ true) t_is (own_held e inside (eqb-true ((area_in a.now).title e).creator me own) here)))
          (λ others. inr (subst (λ l. IsAmong (HasTable e ((area_in a.now).title e)) l) (sym (facts_its r one)) (counted_others me e ((area_in a.now).title e) (w.facts s) others here))))
          (λ two. inr (subst (λ l. IsAmong (HasTable e ((area_in a.now).title e)) l) (sym (facts_others r two)) in_))

      tables_now : AreInTables b.now locks state v.facts
      tables_now r e key u is at =
          let was = next.world.tables r e key u is at in
          in_table_undone a.now b.now e u (w.facts r) (v.facts r) (titles e).0 (titles e).1 (counts_on r e u was.inside at) (found r e ((area_in a.now).title e) u at) was

      pub undone_kept : IsKeptOn next now
      undone_kept = record {
        mind = v;
        world = record {
          keeps = keeps;
          run_is = run_now;
          locks = subst (λ n. ShowsKeyLocks n locks state) (sym same_name_of) next.world.locks;
          tables = tables_now;
          in_order = next.world.in_order;
        };
        tape = refl;
        undo = refl;
        names = λ e there. (titles e).0;
        others = facts_others;
      }

-- the run in which a session is within its rollback, which is held so
pub undoing_run : (w : Run) (old new : TxnsHeld) (s : ℕ) (session : SessionHeld) (t : TxnHeld) → w ≡ run_of old → session ≡ t.session → new.numbers ≡ old.numbers
    → run_of new ≡ record (held_as s (record t.session { undoing = true }) (run_of old)) { commits = new.numbers.commits } → held_as s (record session { undoing = true }) w ≡ run_of new
undoing_run w old new s session t run_is same numbers sets =
    ap (held_as s (record session { undoing = true })) run_is
    ∙ ap (λ (b : SessionHeld). held_as s (record b { undoing = true }) (run_of old)) same
    ∙ ap (λ (n : NumbersHeld). record (held_as s (record t.session { undoing = true }) (run_of old)) { commits = n.commits }) (sym numbers)
    ∙ sym sets

-- who is in no transaction is refused
pub back_refused : {D : Type 0} (g : Ghosts D) (c : Start) (opened : D) (a b : View D) (old : TxnsHeld) (locks : List (ℕ × LocksOfSession)) (s : ℕ) (next : IsNextOf g c opened a b (record { txns = old; locks = locks }) s st.Rollback 0)
    → transaction_of (state_now c next.mind) s ≡ None → Allowed (state_now c next.mind) s act.Rollback st.Rollback (reply.Refused refusal.NoTransaction)
back_refused g c opened a b old locks s next none = inl (sym (ap (λ o. reply_from (state_now c next.mind) s o act.Rollback st.Rollback) none))
