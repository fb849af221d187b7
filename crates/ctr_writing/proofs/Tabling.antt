-- A table that is made or dropped in a World: what its session may do, and what its turn leaves.
use Rattle.std.proofs.Common.{◌≡◌, ◌≢◌, ⊎_elim, inl, inr, ℕ, ◌<◌, ◌==◌, ℤ, Bool, true, false, cond, not, List, [], ◌∷◌, ◌++◌, Option, Some, None, refl, sym, ◌∙◌, ap, subst}
use Rattle.std.specs.Prelude.{filter, slice_get}
use Rattle.std.proofs.lemmas.Bool.{false≢true, eq-eqb, eqb-true}
use Rattle.ctr_disk.specs.declared.disk.Disk.{Ghosts}
use Rattle.ctr_types.specs.declared.statement.Statement.{Statement}
use Rattle.ctr_types.specs.declared.statement.Statement.TheVariants as st
use Rattle.ctr_types.specs.declared.tape.Act.TheVariants as act
use Rattle.ctr_types.specs.declared.tape.Refusal.TheVariants as refusal
use Rattle.ctr_types.specs.declared.tape.Reply.TheVariants as reply
use Rattle.ctr_types.specs.declared.value.Schema.{Schema}
use Rattle.ctr_model.specs.declared.limits.TheConstants.{CATALOG_ENTRIES}
use Rattle.ctr_model.specs.declared.state.State.{State}
use Rattle.ctr_model.specs.declared.state.Transaction.{Transaction}
use Rattle.ctr_model.specs.Refusals.{changes_schema, creates, has_lock, table_of}
use Rattle.ctr_model.specs.Reply.{next_from, reply_from, reply_to, with_changes, MayStandFor}
use Rattle.ctr_model.specs.State.{has_name, transaction_of, view, with_transaction}
use Rattle.ctr_model.specs.Tape.{Allowed, acts_of}
use Rattle.ctr_model.proofs.Sessions.{find-put-other, find-put-same}
use Rattle.ctr_versions.proofs.Keys.{known, some_is}
use Rattle.ctr_legal.specs.Kept.{IsKept}
use Rattle.ctr_area.specs.Areas.{Title}
use Rattle.ctr_area.specs.Changes.{new_title}
use Rattle.ctr_area.specs.Sound.{IsAmong}
use Rattle.ctr_record_effects.specs.States.{area_in}
use Rattle.ctr_looks.specs.actions_Actions.{Drops}
use Rattle.ctr_looks.specs.actions_Facts.{Fact, IsOpen, HasPage, HasNoPageBut, HasBlank, HasSlot, HasCopy, HasTable}
use Rattle.ctr_looks.specs.actions_Sites.{Site, site_of}
use Rattle.ctr_looks.specs.page_turns_Acts.{ActsBy}
use Rattle.ctr_looks.specs.page_turns_Turns.{RestsBehind}
use Rattle.ctr_store.specs.Store.{View}
use Rattle.ctr_names.specs.Search.{IsEntryFound}
use Rattle.ctr_looks.specs.views_Viewing.{Viewer, sees_by}
use Rattle.ctr_looks.proofs.views_Looking.{as_found}
use Rattle.ctr_locks.specs.Held.{LocksOfSession, held_by_session, locks_key, session_locks}
use Rattle.ctr_locks.specs.Shows.{IsTheSame, ShowsKeyLocks}
use Rattle.ctr_looks.specs.kept_Tables.{IsTable, AreTables}
use Rattle.ctr_looks.specs.kept_Turns.{Start, InTransaction, MayCome, carrying, scene_now, state_now, telling}
use Rattle.ctr_looks.specs.kept_Walk.{Mind, with_facts}
use Rattle.ctr_looks.proofs.kept_Walking.{keeps_reached}
use Rattle.ctr_looks.specs.stops_World.{KeepsWorld}
use Rattle.ctr_looks.specs.txn_Held.{IsOneOfEight, TxnsHeld, number_drawn, run_of}
use Rattle.ctr_looks.specs.ctr_ddl.Tables.{IsCatalogFull, IsMadeAt}
use Rattle.ctr_looks.specs.ctr_told.Tables.{IsAtTable, FindsIt, AreOthers}
use Rattle.ctr_looks.specs.ctr_told.Turning.{facts_idle}
use Rattle.ctr_looks.proofs.ctr_told.Counted.{counted_found}
use Rattle.ctr_looks.specs.ctr_session_world.Told.{CountsOnTables, IsNextOf}
use Rattle.ctr_looks.specs.ctr_session_world.World.{SessionsHeld, AreInOrder, AreInTables, IsInTable, NamesStay, names_in}
use Rattle.ctr_looks.proofs.ctr_session_world.Alike.{AreAlike, alike_itself, in_table_still, put_in_order, shows_alike, table_of_more}
use Rattle.ctr_looks.proofs.ctr_session_world.Resting.{refused_told}
use Rattle.ctr_looks.proofs.ctr_session_world.Standing.{RunFinds, told_state}
use Rattle.ctr_looks.proofs.Unrefused.{RollsBackAlone}
use Rattle.ctr_looks.specs.declared.tables.TableWrite.{TableWrite}
use Rattle.ctr_looks.specs.declared.tables.TableWrite.TheVariants.{Drop}
use Rattle.ctr_looks.specs.Locking.{IsCountedTable, IsWriteOf}
use Rattle.ctr_writing.specs.Tables.{IsAtTableWrite, TurnOfTable}
use Rattle.ctr_writing.proofs.Rowing.{Refuses}
use Rattle.ctr_writing.proofs.Seated.{calm, may_come, me_is, seat, some}

-- ---- statements that make or drop a table

schema_writes_second : (state : State) (s : ℕ) (statement : Statement) → changes_schema statement ≡ true → slice_get (acts_of state s statement) 1 ≡ Some act.Write
schema_writes_second state s (st.Create table schema) is = refl
schema_writes_second state s (st.DropTable table) is = refl
schema_writes_second state s st.Begin is = absurd (false≢true is)
schema_writes_second state s st.Commit is = absurd (false≢true is)
schema_writes_second state s st.Rollback is = absurd (false≢true is)
schema_writes_second state s (st.Insert table values) is = absurd (false≢true is)
schema_writes_second state s (st.Select table at) is = absurd (false≢true is)
schema_writes_second state s (st.Update table sets at) is = absurd (false≢true is)
schema_writes_second state s (st.Delete table at) is = absurd (false≢true is)

-- its Write isn't refused by the model
schema_is_done : (state : State) (s : ℕ) (t : Transaction) (statement : Statement) → changes_schema statement ≡ true → reply_from state s (Some t) act.Write statement ≡ reply.Done
schema_is_done state s t (st.Create table schema) is = refl
schema_is_done state s t (st.DropTable table) is = refl
schema_is_done state s t st.Begin is = absurd (false≢true is)
schema_is_done state s t st.Commit is = absurd (false≢true is)
schema_is_done state s t st.Rollback is = absurd (false≢true is)
schema_is_done state s t (st.Insert table values) is = absurd (false≢true is)
schema_is_done state s t (st.Select table at) is = absurd (false≢true is)
schema_is_done state s t (st.Update table sets at) is = absurd (false≢true is)
schema_is_done state s t (st.Delete table at) is = absurd (false≢true is)

-- one that makes none drops one
drop_of : (statement : Statement) (name : List ℕ) → changes_schema statement ≡ true → creates statement ≡ false → table_of statement ≡ Some name → statement ≡ st.DropTable name
drop_of (st.DropTable table) name is makes named = ap st.DropTable (some_is table name named)
drop_of (st.Create table schema) name is makes named = absurd (false≢true (sym makes))
drop_of st.Begin name is makes named = absurd (false≢true is)
drop_of st.Commit name is makes named = absurd (false≢true is)
drop_of st.Rollback name is makes named = absurd (false≢true is)
drop_of (st.Insert table values) name is makes named = absurd (false≢true is)
drop_of (st.Select table at) name is makes named = absurd (false≢true is)
drop_of (st.Update table sets at) name is makes named = absurd (false≢true is)
drop_of (st.Delete table at) name is makes named = absurd (false≢true is)

-- ---- locks, where entries have other names

-- locks show the state by other names, where no entry has another one that has a lock
pub renamed : (names now : ℕ → List ℕ) (h : LocksOfSession) (o : Option Transaction) → ((e : ℕ) (key : ℤ) → locks_key e key h ≡ true → now e ≡ names e) → IsTheSame names h o → IsTheSame now h o
renamed names now h None same is = is
renamed names now h (Some t) same is = record {
  uses = is.uses;
  holds = is.holds;
  locks = λ e key locked. subst (λ n. has_lock n key t ≡ true) (sym (same e key locked)) (is.locks e key locked);
  locked = λ name key has.
      let its = is.locked name key has in
      record { entry = its.entry; named = same its.entry key its.locked ∙ its.named; locked = its.locked };
}

-- ---- the other tables

-- a table of another entry
abbrev is_beside : ℕ → Fact → Bool
is_beside e (HasTable d title) = not (d == e)
is_beside e IsOpen = false
is_beside e (HasPage p) = false
is_beside e (HasNoPageBut ps) = false
is_beside e (HasBlank p h) = false
is_beside e (HasSlot d at slot) = false
is_beside e (HasCopy d at v q) = false

abbrev beside : ℕ → List Fact → List Fact
beside e more = filter (is_beside e) more

beside_table : (e : ℕ) (f : Fact) → is_beside e f ≡ true → IsTable f
beside_table e (HasTable d title) is = tt
beside_table e IsOpen is = absurd (false≢true is)
beside_table e (HasPage p) is = absurd (false≢true is)
beside_table e (HasNoPageBut ps) is = absurd (false≢true is)
beside_table e (HasBlank p h) is = absurd (false≢true is)
beside_table e (HasSlot d at slot) is = absurd (false≢true is)
beside_table e (HasCopy d at v q) is = absurd (false≢true is)

kept_or_not : {A : Type 0} (P : List A → Type 0) (test : A → Bool) (x : A) (xs : List A) → (test x ≡ true → P (x ∷ filter test xs)) → (test x ≡ false → P (filter test xs)) → P (filter test (x ∷ xs))
kept_or_not P test x xs keeps leaves = known (test x)
    (λ is. subst (λ b. P (cond b (x ∷ filter test xs) (filter test xs))) (sym is) (keeps is))
    (λ isnt. subst (λ b. P (cond b (x ∷ filter test xs) (filter test xs))) (sym isnt) (leaves isnt))

beside_tables : (e : ℕ) (more : List Fact) → AreTables (beside e more)
beside_tables e [] = tt
beside_tables e (f ∷ fs) = kept_or_not AreTables (is_beside e) f fs (λ is. (beside_table e f is, beside_tables e fs)) (λ isnt. beside_tables e fs)

beside_among : (e : ℕ) (f : Fact) (more : List Fact) → IsAmong f (beside e more) → IsAmong f more
beside_among e f [] = λ in_. in_
beside_among e f (x ∷ xs) = kept_or_not (λ l. IsAmong f l → IsAmong f (x ∷ xs)) (is_beside e) x xs
    (λ is in_. ⊎_elim inl (λ there. inr (beside_among e f xs there)) in_)
    (λ isnt in_. inr (beside_among e f xs in_))

is_other : (e d : ℕ) (title : Title) (f : Fact) → HasTable d title ≡ f → is_beside e f ≡ true → d ≢ e
is_other e d title f is other same = false≢true (sym (ap not (eq-eqb d e same)) ∙ ap (is_beside e) is ∙ other)

beside_apart : (e d : ℕ) (title : Title) (more : List Fact) → IsAmong (HasTable d title) (beside e more) → d ≢ e
beside_apart e d title [] = λ in_. absurd in_
beside_apart e d title (x ∷ xs) = kept_or_not (λ l. IsAmong (HasTable d title) l → d ≢ e) (is_beside e) x xs
    (λ is in_. ⊎_elim (λ here. is_other e d title x here is) (λ there. beside_apart e d title xs there) in_)
    (λ isnt in_. beside_apart e d title xs in_)

beside_kept : (e d : ℕ) (title : Title) (more : List Fact) → (d == e) ≡ false → IsAmong (HasTable d title) more → IsAmong (HasTable d title) (beside e more)
beside_kept e d title [] two in_ = in_
beside_kept e d title (x ∷ xs) two in_ = kept_or_not (λ l. IsAmong (HasTable d title) l) (is_beside e) x xs
    (λ is. ⊎_elim inl (λ there. inr (beside_kept e d title xs two there)) in_)
    (λ isnt. ⊎_elim (λ here. absurd (false≢true (sym isnt ∙ ap (is_beside e) (sym here) ∙ ap not two))) (λ there. beside_kept e d title xs two there) in_)

-- ---- the session

module _ {D : Type 0} (g : Ghosts D) (c : Start) (opened : D) (a b : View D) (h : SessionsHeld) (s : ℕ) (statement : Statement) (next : IsNextOf g c opened a b h s statement 1) (one : IsOneOfEight s) (finds : RunFinds) (write : TableWrite)
    (at : IsAtTableWrite c s statement next.mind write) (alone : RollsBackAlone) where
  abbrev w : Mind
  w = next.mind

  abbrev state : State
  state = state_now c w

  abbrev t : Transaction
  t = at.may.t

  pub second : slice_get (acts_of state s statement) 1 ≡ Some act.Write
  second = schema_writes_second state s statement at.may.schema

  abbrev its_seat : InTransaction c w s
  its_seat = seat g c opened a b h s statement next one finds t at.may.is_t second

  pub its_number : number_drawn s h.txns ≡ its_seat.session.me
  its_number = me_is g c opened a b h s statement next one finds t at.may.is_t second

  abbrev more : List Fact
  more = at.counts.0

  abbrev pub is_at : IsAtTable g c opened a w
  is_at = record {
    s = s;
    seat = its_seat;
    name = at.may.name;
    keeps = next.world.keeps;
    some = some g c opened a b h s statement next one finds t at.may.is_t second;
    calm = calm g c opened a b h s statement next one finds t at.may.is_t second alone;
    holds = at.may.holds;
    more = more;
    tables = at.counts.1;
    carries = at.counts.2;
  }

  is_done : reply_to state s act.Write (Some statement) ≡ reply.Done
  is_done = ap (λ o. reply_from state s o act.Write statement) at.may.is_t ∙ schema_is_done state s t statement at.may.schema

  pub done_comes : MayCome c w next.e act.Write reply.Done
  done_comes = may_come g c opened a b h s statement next one finds t at.may.is_t second reply.Done (inl (sym is_done))

  -- ---- the table that it drops

  pub is_drop : (e : ℕ) → write ≡ Drop e → statement ≡ st.DropTable at.may.name
  is_drop e is = drop_of statement at.may.name at.may.schema (subst (IsWriteOf statement) is at.may.is).0 at.may.named

  abbrev kept : IsKept state
  kept = (keeps_reached c.lines c.moment c.base c.stuck c.size (g.moment_of a.disk) (site_of a.now) w next.world.keeps.walks).kept

  pub drops_it : (e : ℕ) → write ≡ Drop e → e < 32 → FindsIt is_at e
  drops_it e is inside =
      let of = at.may.drops e is in
      let scene = next.world.keeps.walks.scene in
      let has = scene.carried.held s its_seat.session (HasTable e of.title) its_seat.at of.counts in
      let under = scene.carried.under s t (HasTable e of.title) at.may.is_t of.counts in
      let viewer : Viewer (scene_now c w) = record { s = s; session = its_seat.session; t = t; me = Some its_seat.session.me; at = its_seat.at; is_t = at.may.is_t; calm = is_at.calm; is_me = refl } in
      as_found scene.low (site_of a.now) (scene_now c w) scene.shown viewer at.may.name e
      (subst (λ n. IsEntry viewer n e) of.named (counted_found scene.low (site_of a.now) (scene_now c w) scene.shown kept viewer e of.title inside has under))
    where
      IsEntry : Viewer (scene_now c w) → List ℕ → ℕ → Type 0
      IsEntry viewer n e = IsEntryFound (sees_by (site_of a.now) viewer) n (area_in a.now) e

  -- ---- it is told

  -- the transaction and the state that it leaves
  abbrev u : Transaction
  u = with_changes (view state t) (Some statement) t

  abbrev done : State
  done = with_transaction s u state

  alike : (r : ℕ) → AreAlike (transaction_of state r) (transaction_of done r)
  alike r = known (r == s)
      (λ yes. subst (λ q. AreAlike (transaction_of state q) (transaction_of done q)) (sym (eqb-true r s yes))
      (subst (λ o. AreAlike o (transaction_of done s)) (sym at.may.is_t) (subst (λ o. AreAlike (Some t) o) (sym (find-put-same s u state.sessions)) (record { uses = λ n. refl; holds = refl; locks = refl }))))
      (λ no. subst (AreAlike (transaction_of state r)) (sym (find-put-other r s u state.sessions no)) (alike_itself (transaction_of state r)))

  module _ (mine : List Fact) (tables : AreTables mine) (keeps : KeepsWorld g c opened b (telling next.e act.Write reply.Done w (carrying s (facts_idle ++ mine) w))) where
    abbrev v : Mind
    v = telling next.e act.Write reply.Done w (carrying s (facts_idle ++ mine) w)

    is_state : state_now c v ≡ done
    is_state = told_state g c opened a b h s statement 1 next act.Write reply.Done v refl ∙ ap (λ o. next_from state s o act.Write (Some statement) reply.Done) at.may.is_t

    facts_its : v.facts s ≡ facts_idle ++ mine
    facts_its = ap (λ x. cond x (facts_idle ++ mine) (w.facts s)) (eq-eqb s s refl)

    facts_others : (q : ℕ) → (q == s) ≡ false → v.facts q ≡ w.facts q
    facts_others q other = ap (λ x. cond x (facts_idle ++ mine) (w.facts q)) other

    -- each lock is in a table still, and its entry has the name that it had
    module _ (lands : (r e : ℕ) (key : ℤ) (p : Transaction) → session_locks r e key h.locks ≡ true → transaction_of state r ≡ Some p → IsInTable b.now e p (v.facts r) × (names_in b.now e ≡ names_in a.now e)) (stays : NamesStay a.now b.now) where
      -- who has a lock is in a transaction
      holder : (r e : ℕ) (key : ℤ) → session_locks r e key h.locks ≡ true → (p : Transaction) × (transaction_of state r ≡ Some p)
      holder r e key locked = by (transaction_of state r) refl (next.world.locks r)
        where
          by : (o : Option Transaction) → transaction_of state r ≡ o → IsTheSame (names_in a.now) (held_by_session r h.locks) o → (p : Transaction) × (transaction_of state r ≡ Some p)
          by None is same = absurd (false≢true (sym (same.locks e key) ∙ locked))
          by (Some p) is same = (p, is)

      shows_now : ShowsKeyLocks (names_in b.now) h.locks done
      shows_now r = renamed (names_in a.now) (names_in b.now) (held_by_session r h.locks) (transaction_of done r)
          (λ e key locked. let its = holder r e key locked in (lands r e key its.0 locked its.1).1)
          (shows_alike (names_in a.now) h.locks state done alike next.world.locks r)

      tables_now : AreInTables b.now h.locks done v.facts
      tables_now r e key p locked is_p = known (r == s)
          (λ yes.
          let same = eqb-true r s yes in
          let p_is = some_is u p (sym (find-put-same s u state.sessions) ∙ ap (transaction_of done) (sym same) ∙ is_p) in
          let its = (lands r e key t locked (ap (transaction_of state) same ∙ at.may.is_t)).0 in
          subst (λ q. IsInTable b.now e q (v.facts r)) p_is (record { inside = its.inside; there = its.there; counted = its.counted }))
          (λ no. (lands r e key p locked (sym (find-put-other r s u state.sessions no) ∙ is_p)).0)

      pub table_told : (new : TxnsHeld) → run_of new ≡ run_of h.txns → TurnOfTable next (record h { txns = new }) reply.Done
      table_told new run = (
        record {
          mind = v;
          world = record {
            keeps = keeps;
            run_is = next.world.run_is ∙ sym run;
            locks = subst (λ (q : State). ShowsKeyLocks (names_in b.now) h.locks q) (sym is_state) shows_now;
            tables = subst (λ (q : State). AreInTables b.now h.locks q v.facts) (sym is_state) tables_now;
            in_order = subst AreInOrder (sym is_state) (put_in_order s u state next.world.in_order);
          };
          tape = refl;
          undo = refl;
          names = stays;
          others = facts_others;
          counts = (mine, tables, facts_its);
        },
        (mine, tables, facts_its),
        tt,
      )

  -- a lock stays in a table whose title stays, where it is counted on still
  still_in : (mine : List Fact) (r e : ℕ) (key : ℤ) (p : Transaction) → session_locks r e key h.locks ≡ true → transaction_of state r ≡ Some p → (area_in b.now).title e ≡ (area_in a.now).title e
      → (IsAmong (HasTable e ((area_in a.now).title e)) (w.facts s) → IsAmong (HasTable e ((area_in a.now).title e)) (facts_idle ++ mine))
      → IsInTable b.now e p (with_facts s (facts_idle ++ mine) w.facts r) × (names_in b.now e ≡ names_in a.now e)
  still_in mine r e key p locked is_p same keeps = (
    in_table_still a.now b.now e p p (w.facts r) (with_facts s (facts_idle ++ mine) w.facts r) same (λ n is. is)
        (λ in_. known (r == s)
        (λ yes. subst (λ l. IsAmong (HasTable e ((area_in a.now).title e)) l) (sym (ap (λ x. cond x (facts_idle ++ mine) (w.facts r)) yes))
        (keeps (subst (λ q. IsAmong (HasTable e ((area_in a.now).title e)) (w.facts q)) (eqb-true r s yes) in_)))
        (λ no. subst (λ l. IsAmong (HasTable e ((area_in a.now).title e)) l) (sym (ap (λ x. cond x (facts_idle ++ mine) (w.facts r)) no)) in_))
        (next.world.tables r e key p locked is_p),
    ap (λ (l : Title). l.name) same,
  )

  -- ---- it is made

  pub made_told : (x f : ℕ) (name : List ℕ) (schema : Schema) → IsMadeAt x f name schema.columns a.now b.now → KeepsWorld g c opened b (telling next.e act.Write reply.Done w (carrying s (facts_idle ++ more) w))
      → (new : TxnsHeld) → run_of new ≡ run_of h.txns → TurnOfTable next (record h { txns = new }) reply.Done
  made_told x f name schema made keeps = table_told more at.counts.1 keeps
      (λ r e key p locked is_p.
      let was = next.world.tables r e key p locked is_p in
      let apart : (e == f) ≡ false = known (e == f) (λ yes. absurd (was.there (ap (λ n. ((area_in a.now).title n).state) (eqb-true e f yes) ∙ made.free))) (λ no. no) in
      still_in more r e key p locked is_p (made.acts.does.owed.1.titles e ∙ ap (λ b. cond b (new_title x name schema.columns) ((area_in a.now).title e)) apart)
      (λ in_. subst (λ l. IsAmong (HasTable e ((area_in a.now).title e)) l) at.counts.2 in_))
      (λ e there.
      let apart : (e == f) ≡ false = known (e == f) (λ yes. absurd (there (ap (λ n. ((area_in a.now).title n).state) (eqb-true e f yes) ∙ made.free))) (λ no. no) in
      ap (λ (l : Title). l.name) (made.acts.does.owed.1.titles e ∙ ap (λ b. cond b (new_title x name schema.columns) ((area_in a.now).title e)) apart))

  -- ---- it is dropped

  pub others_of : (f : ℕ) → AreOthers f more (beside f more)
  others_of f = record {
    tables = beside_tables f more;
    among = λ x in_. beside_among f x more in_;
    others = λ d title in_. beside_apart f d title more in_;
  }

  pub dropped_told : (x f : ℕ) → write ≡ Drop f → ActsBy x (Drops f) a.now b.now → KeepsWorld g c opened b (telling next.e act.Write reply.Done w (carrying s (facts_idle ++ beside f more) w))
      → (new : TxnsHeld) → run_of new ≡ run_of h.txns → TurnOfTable next (record h { txns = new }) reply.Done
  dropped_told x f is acts keeps = table_told (beside f more) (beside_tables f more) keeps
      (λ r e key p locked is_p. known (e == f) (here r e key p locked is_p) (elsewhere r e key p locked is_p))
      (λ e there. named e)
    where
      of : IsCountedTable f at.may.name (w.facts s)
      of = at.may.drops f is

      leaves : (e : ℕ) → (area_in b.now).title e ≡ cond (e == f) (record ((area_in a.now).title f) { dropper = x }) ((area_in a.now).title e)
      leaves e = ap (λ (z : Site). z.area.title e) acts.does.leaves

      -- it keeps its name
      named : (e : ℕ) → names_in b.now e ≡ names_in a.now e
      named e = known (e == f)
          (λ yes. ap (λ (l : Title). l.name) (leaves e ∙ ap (λ b. cond b (record ((area_in a.now).title f) { dropper = x }) ((area_in a.now).title e)) yes) ∙ ap (names_in a.now) (sym (eqb-true e f yes)))
          (λ no. ap (λ (l : Title). l.name) (leaves e ∙ ap (λ b. cond b (record ((area_in a.now).title f) { dropper = x }) ((area_in a.now).title e)) no))

      its_title : (area_in a.now).title f ≡ of.title
      its_title = next.world.keeps.walks.scene.carried.held s its_seat.session (HasTable f of.title) its_seat.at of.counts

      -- its name is the session's
      held : (names_in a.now f) ≡ at.may.name
      held = ap (λ (l : Title). l.name) its_title ∙ of.named

      -- so nobody else has a lock in it
      alone_in : (r : ℕ) (p : Transaction) → (s == r) ≡ false → transaction_of state r ≡ Some p → IsInTable a.now f p (w.facts r) → ⊥
      alone_in r p two is_p was =
          let apart = kept.apart s r t p two at.may.is_t is_p in
          let mine = subst (λ n. has_name n t.holds ≡ true) (sym held) at.may.holds in
          ⊎_elim
          (λ holds. apart.holds (names_in a.now f) mine holds)
          (λ counts. ⊎_elim
          (λ uses. apart.uses (names_in a.now f) mine uses)
          (λ holds. apart.holds (names_in a.now f) mine holds)
          (next.world.keeps.walks.scene.carried.under r p (HasTable f ((area_in a.now).title f)) is_p counts).1)
          was.counted

      here : (r e : ℕ) (key : ℤ) (p : Transaction) → session_locks r e key h.locks ≡ true → transaction_of state r ≡ Some p → (e == f) ≡ true
          → IsInTable b.now e p (with_facts s (facts_idle ++ beside f more) w.facts r) × (names_in b.now e ≡ names_in a.now e)
      here r e key p locked is_p is_it =
          let same = eqb-true e f is_it in
          let was = next.world.tables r e key p locked is_p in
          let title = leaves e ∙ ap (λ b. cond b (record ((area_in a.now).title f) { dropper = x }) ((area_in a.now).title e)) is_it in
          let name = named e in
          known (s == r)
          (λ mine.
          let p_is = some_is t p (sym at.may.is_t ∙ ap (transaction_of state) (eqb-true s r mine) ∙ is_p) in (
            record {
              inside = was.inside;
              there = λ none. was.there (ap (λ n. ((area_in a.now).title n).state) same ∙ sym (ap (λ (l : Title). l.state) title) ∙ none);
              counted = inl (subst (λ n. has_name n p.holds ≡ true) (sym (name ∙ ap (names_in a.now) same ∙ held)) (subst (λ (q : Transaction). has_name at.may.name q.holds ≡ true) p_is at.may.holds));
            },
            name,
          ))
          (λ two. absurd (alone_in r p two is_p (subst (λ n. IsInTable a.now n p (w.facts r)) same was)))

      elsewhere : (r e : ℕ) (key : ℤ) (p : Transaction) → session_locks r e key h.locks ≡ true → transaction_of state r ≡ Some p → (e == f) ≡ false
          → IsInTable b.now e p (with_facts s (facts_idle ++ beside f more) w.facts r) × (names_in b.now e ≡ names_in a.now e)
      elsewhere r e key p locked is_p isnt = still_in (beside f more) r e key p locked is_p (leaves e ∙ ap (λ b. cond b (record ((area_in a.now).title f) { dropper = x }) ((area_in a.now).title e)) isnt)
          (λ in_. inr (inr (beside_kept f e ((area_in a.now).title e) more isnt (table_of_more e ((area_in a.now).title e) more (w.facts s) at.counts.2 in_))))

  -- ---- no entry is free

  pub full_told : Refuses g → IsCatalogFull a.now b.now → RestsBehind g a b → (name : List ℕ) (schema : Schema) → statement ≡ st.Create name schema → TurnOfTable next h (reply.Refused (refusal.CatalogFull CATALOG_ENTRIES))
  full_told refuses none rested name schema is =
      let why = refusal.CatalogFull CATALOG_ENTRIES in
      let allowed : Allowed state s act.Write statement (reply.Refused why) = inr (subst (λ r. MayStandFor statement r (reply.Refused why)) (sym is_done) (subst (λ q. MayStandFor q reply.Done (reply.Refused why)) (sym is) refl)) in
      let told = refused_told g c opened a b h s statement 1 next act.Write why rested
      (refuses c opened a b w s (record { keeps = next.world.keeps; seat = its_seat; e = next.e; at_end = next.at_end }) act.Write why
      (may_come g c opened a b h s statement next one finds t at.may.is_t second (reply.Refused why) allowed) rested) in
      (told, subst CountsOnTables (sym told.counts) at.counts, none)
