-- A turn of a row's Write in a World: what its session has, where it begins, and what it leaves.
use Rattle.std.proofs.Common.{◌≡◌, ◌⊎◌, ⊎_elim, inl, inr, ℕ, ℤ, ◌<◌, ◌==◌, ◌^◌, true, cond, List, [], ◌∷◌, ◌++◌, Some, refl, sym, ◌∙◌, ap, subst}
use Rattle.std.specs.Prelude.{is_some, slice_get}
use Rattle.std.proofs.lemmas.Bool.{false≢true, eq-eqb, eqb-true}
use Rattle.ctr_disk.specs.declared.disk.Disk.{Ghosts}
use Rattle.ctr_types.specs.declared.statement.Statement.{Statement}
use Rattle.ctr_types.specs.declared.statement.Statement.TheVariants as st
use Rattle.ctr_types.specs.declared.tape.Act.{Act}
use Rattle.ctr_types.specs.declared.tape.Act.TheVariants as act
use Rattle.ctr_types.specs.declared.tape.Refusal.{Refusal}
use Rattle.ctr_types.specs.declared.tape.Refusal.TheVariants as refusal
use Rattle.ctr_types.specs.declared.tape.Reply.{Reply}
use Rattle.ctr_types.specs.declared.tape.Reply.TheVariants as reply
use Rattle.ctr_model.specs.declared.limits.TheConstants.{MOST_PAGES}
use Rattle.ctr_model.specs.declared.state.State.{State}
use Rattle.ctr_model.specs.declared.state.Transaction.{Transaction}
use Rattle.ctr_model.specs.Refusals.{key_written, table_of}
use Rattle.ctr_model.specs.Reply.{changes_of, next_from, reply_from, reply_to, with_changes, IsWantOfRoom, MayStandFor}
use Rattle.ctr_model.specs.State.{transaction_of, view, with_transaction}
use Rattle.ctr_model.specs.Tape.{Allowed, acts_of}
use Rattle.ctr_model.proofs.Sessions.{find-put-other, find-put-same}
use Rattle.ctr_versions.specs.Keys.{row_written}
use Rattle.ctr_versions.proofs.Keys.{known, some_is}
use Rattle.ctr_area.specs.Areas.{Slot, Title}
use Rattle.ctr_area.specs.Reading.{version_said}
use Rattle.ctr_area.specs.Sound.{IsAmong}
use Rattle.ctr_redo.specs.States.{State as Stored}
use Rattle.ctr_record_effects.specs.States.{area_in}
use Rattle.ctr_record_laws.specs.Owed.{IsSlotOfKey}
use Rattle.ctr_looks.specs.actions_Facts.{Fact, HasSlot, HasTable}
use Rattle.ctr_store.specs.Store.{View}
use Rattle.ctr_locks.specs.Held.{session_locks}
use Rattle.ctr_locks.specs.Shows.{ShowsKeyLocks}
use Rattle.ctr_looks.specs.kept_Turns.{Start, InTransaction, MayCome, carrying, entry_of, state_now, telling}
use Rattle.ctr_looks.specs.kept_Walk.{Mind, with_facts}
use Rattle.ctr_looks.proofs.kept_Tables.{among_first}
use Rattle.ctr_looks.specs.stops_World.{KeepsWorld}
use Rattle.ctr_looks.specs.page_turns_Turns.{RestsBehind}
use Rattle.ctr_looks.specs.txn_Held.{IsOneOfEight, TxnsHeld, number_drawn, run_of}
use Rattle.ctr_page.specs.declared.checks.Chain.{Chain}
use Rattle.ctr_page.specs.declared.rows.Place.{Place}
use Rattle.ctr_page.specs.declared.rows.Version.{Version}
use Rattle.ctr_looks.specs.ctr_extend.declared.ways.OnWay.TheVariants.{Wanted, Taken, Made}
use Rattle.ctr_looks.specs.ctr_extend.declared.ways.Extended.{Extended}
use Rattle.ctr_looks.specs.ctr_extend.declared.ways.Extended.TheVariants.{On as OnItsWay, Linked, Grown as IsGrown, Full as IsFull}
use Rattle.ctr_looks.specs.ctr_extend.Steps.{ExtendsBy}
use Rattle.ctr_looks.specs.ctr_write.Extending.{ExtendsFor, written_from}
use Rattle.ctr_looks.specs.ctr_write.declared.stages.Stage.{Stage}
use Rattle.ctr_looks.specs.ctr_write.declared.stages.Stage.TheVariants.{Looking, Extending, Kept}
use Rattle.ctr_looks.specs.ctr_write.declared.stages.Written.{Written}
use Rattle.ctr_looks.specs.ctr_write.declared.stages.Written.TheVariants as written
use Rattle.ctr_looks.specs.ctr_write.Carrying.{AreOfStage, IsAtWrite, facts_kept, wish_of}
use Rattle.ctr_looks.specs.ctr_write.Laying.{Wish}
use Rattle.ctr_looks.specs.ctr_write.Steps.{EndsLooking, EndsWrite, MayTakeTurn}
use Rattle.ctr_looks.specs.ctr_wishes.HeadMade.{HeadMade}
use Rattle.ctr_looks.specs.ctr_wishes.Heads.{version_by}
use Rattle.ctr_looks.specs.ctr_wishes.Models.{IsModels, reply_of}
use Rattle.ctr_looks.specs.ctr_wishes.declared.making.Prepared.{Prepared}
use Rattle.ctr_looks.specs.ctr_wishes.declared.making.Prepared.TheVariants.{Refused, Lays}
use Rattle.ctr_looks.specs.ctr_told.Turning.{TellsTurnOf}
use Rattle.ctr_looks.specs.ctr_told.Writing.{IsOfStatement}
use Rattle.ctr_looks.specs.ctr_session_world.Told.{CountsOnTables, IsKeptOn, IsNextOf, IsActTold}
use Rattle.ctr_looks.specs.ctr_session_world.World.{SessionsHeld, AreInTables, IsInTable, names_in}
use Rattle.ctr_looks.proofs.ctr_session_world.Alike.{AreAlike, alike_itself, in_table_still, shows_alike}
use Rattle.ctr_looks.proofs.ctr_session_world.Changed.{changed_told}
use Rattle.ctr_looks.proofs.ctr_session_world.Resting.{refused_told}
use Rattle.ctr_looks.proofs.ctr_session_world.Standing.{RunFinds, told_state}
use Rattle.ctr_looks.proofs.Granted.{MayCount, facts_twice}
use Rattle.ctr_looks.specs.Locking.{MayWriteRow}
use Rattle.ctr_writing.specs.declared.rows.Wrote.TheVariants.{On, Told}
use Rattle.ctr_looks.specs.ctr_extend.Steps.{IsFull as HasNoPage}
use Rattle.ctr_writing.specs.Wants.{IsRefusedFor}
use Rattle.ctr_writing.proofs.Wanting.{models_cause}
use Rattle.ctr_writing.specs.Rows.{AreAtStage, CountsAt, IsAtRow, IsBetweenTurns, TurnOfRow, wish_by}
use Rattle.ctr_writing.proofs.Counting.{HasTitles, KeepsTables, StartsAt, idle, idle_among, idle_kept, idle_titles, looking, stages_keep, starts}
use Rattle.ctr_writing.proofs.Seated.{me_is as its_number, may_come as write_comes, seat as seated, some as has_number}
use Rattle.ctr_writing.proofs.Titles.{SameTitles}

-- ---- statements that write a row

pub row_writes_second : (state : State) (s : ℕ) (statement : Statement) (key : ℤ) → key_written statement ≡ Some key → slice_get (acts_of state s statement) 1 ≡ Some act.Write
row_writes_second state s st.Begin key is = absurd (false≢true (ap is_some is))
row_writes_second state s st.Commit key is = absurd (false≢true (ap is_some is))
row_writes_second state s st.Rollback key is = absurd (false≢true (ap is_some is))
row_writes_second state s (st.Create table schema) key is = absurd (false≢true (ap is_some is))
row_writes_second state s (st.DropTable table) key is = absurd (false≢true (ap is_some is))
row_writes_second state s (st.Insert table values) key is = refl
row_writes_second state s (st.Select table at) key is = absurd (false≢true (ap is_some is))
row_writes_second state s (st.Update table sets at) key is = refl
row_writes_second state s (st.Delete table at) key is = refl

-- want of pages may stand in the place of its Done
row_may_want : (statement : Statement) (key : ℤ) → key_written statement ≡ Some key → IsWantOfRoom statement (reply.Refused (refusal.Full MOST_PAGES))
row_may_want st.Begin key is = absurd (false≢true (ap is_some is))
row_may_want st.Commit key is = absurd (false≢true (ap is_some is))
row_may_want st.Rollback key is = absurd (false≢true (ap is_some is))
row_may_want (st.Create table schema) key is = absurd (false≢true (ap is_some is))
row_may_want (st.DropTable table) key is = absurd (false≢true (ap is_some is))
row_may_want (st.Insert table values) key is = refl
row_may_want (st.Select table at) key is = absurd (false≢true (ap is_some is))
row_may_want (st.Update table sets at) key is = refl
row_may_want (st.Delete table at) key is = refl

-- what a session counts on, and then on other facts
carried_twice : (s : ℕ) (first then : List Fact) (w : Mind) → carrying s then (carrying s first w) ≡ carrying s then w
carried_twice s first then w = ap (λ (f : ℕ → List Fact). record w { facts = f }) (facts_twice s then first w.facts)

-- the facts that a session carries from now on
pub carries_so : (s : ℕ) (mine : List Fact) (w : Mind) → (carrying s mine w).facts s ≡ mine
carries_so s mine w = ap (λ x. cond x mine (w.facts s)) (eq-eqb s s refl)

-- what is asked for, by the number that its session has
pub same_wish : (x n e : ℕ) (k key : ℤ) (v : Version) (head : HeadMade) → x ≡ n → k ≡ key → v ≡ version_by x head → ◌≡◌ {A = Wish} (record { x = x; entry = e; key = k; head = v }) (wish_by n e key head)
same_wish x n e k key v head number keys said = (λ i. record { x = x; entry = e; key = keys i; head = said i }) ∙ ap (λ m. wish_by m e key head) number

-- who carries what it carried carries the same
pub carries_itself : (s : ℕ) (w : Mind) → carrying s (w.facts s) w ≡ w
carries_itself s w = ap (λ (f : ℕ → List Fact). record w { facts = f }) (λ i r. same r i)
  where
    same : (r : ℕ) → cond (r == s) (w.facts s) (w.facts r) ≡ w.facts r
    same r = known (r == s)
        (λ yes. ap (λ x. cond x (w.facts s) (w.facts r)) yes ∙ ap w.facts (sym (eqb-true r s yes)))
        (λ no. ap (λ x. cond x (w.facts s) (w.facts r)) no)

-- what laws of ctr_write and ctr_told say, which are premises here
abbrev pub TakesTurn : {D : Type 0} → Ghosts D → Type 0
TakesTurn {D} g = (c : Start) (opened : D) (a : View D) (w : Mind) (writes : IsAtWrite g c opened a w) → MayTakeTurn (wish_of writes) writes.stage a.now

abbrev pub Refuses : {D : Type 0} → Ghosts D → Type 0
Refuses {D} g = (c : Start) (opened : D) (a b : View D) (w : Mind) (s : ℕ) (tells : TellsTurnOf g c opened a b w s) (x : Act) (why : Refusal) → MayCome c w tells.e x (reply.Refused why) → RestsBehind g a b
    → KeepsWorld g c opened b (telling tells.e x (reply.Refused why) w w)

-- a page that is on its way is taken further by a record
unlogged_taken : (x : ℕ) (chain : Chain) (p : ℕ) (s t : Stored) (r : Written) → (r ≡ written.Grown) ⊎ (r ≡ written.Full) → ExtendsFor x chain (Taken p) s t r → ⊥
unlogged_taken x chain p s t r which ends = by ends.0 ends.1 ends.2
  where
    by : (e : Extended) → r ≡ written_from chain e → ExtendsBy x chain (Taken p) s t e → ⊥
    by (OnItsWay way) is extends = ⊎_elim (λ grown. absurd (cc (sym is ∙ grown))) (λ full. absurd (cc (sym is ∙ full))) which
    by Linked is extends = absurd extends
    by IsGrown is extends = absurd extends
    by IsFull is extends = absurd extends

unlogged_made : (x : ℕ) (chain : Chain) (p n : ℕ) (s t : Stored) (r : Written) → (r ≡ written.Grown) ⊎ (r ≡ written.Full) → ExtendsFor x chain (Made p n) s t r → ⊥
unlogged_made x chain p n s t r which ends = by ends.0 ends.1 ends.2
  where
    by : (e : Extended) → r ≡ written_from chain e → ExtendsBy x chain (Made p n) s t e → ⊥
    by (OnItsWay way) is extends = ⊎_elim (λ grown. absurd (cc (sym is ∙ grown))) (λ full. absurd (cc (sym is ∙ full))) which
    by Linked is extends = ⊎_elim (λ grown. absurd (cc (sym is ∙ grown))) (λ full. absurd (cc (sym is ∙ full))) which
    by IsGrown is extends = absurd extends
    by IsFull is extends = absurd extends

-- a session may count on facts that are among those that it counts on
module _ {D : Type 0} (g : Ghosts D) (c : Start) (opened : D) (v : View D) (w : Mind) (s : ℕ) (seat : InTransaction c w s) (keeps : KeepsWorld g c opened v w) (may : MayCount g) where
  counts_less : (mine : List Fact) → ((f : Fact) → IsAmong f mine → IsAmong f (w.facts s)) → HasTitles mine → KeepsWorld g c opened v (carrying s mine w)
  counts_less mine among titles = may c opened v w s seat mine keeps
      (record {
        held = λ f in_. (keeps.walks.scene.carried.held s seat.session f seat.at (among f in_), keeps.walks.scene.carried.under s seat.t f seat.is_t (among f in_));
        tables = λ f n in_ of. titles f n in_ of;
      })
      (λ p h in_. among _ in_)

module _ {D : Type 0} (g : Ghosts D) (c : Start) (opened : D) (a b : View D) (h : SessionsHeld) (s : ℕ) (statement : Statement) (next : IsNextOf g c opened a b h s statement 1) (one : IsOneOfEight s) (finds : RunFinds) (e : ℕ) (prepared : Prepared) (stage : Stage)
    (at : IsAtRow c s statement next.mind e prepared stage) where
  abbrev w : Mind
  w = next.mind

  abbrev state : State
  state = state_now c w

  abbrev t : Transaction
  t = at.may.t

  abbrev title : Title
  title = at.may.title

  abbrev key : ℤ
  key = at.may.key

  -- ---- what its session has

  pub second : slice_get (acts_of state s statement) 1 ≡ Some act.Write
  second = row_writes_second state s statement key at.may.written

  abbrev pub seat : InTransaction c w s
  seat = seated g c opened a b h s statement next one finds t at.may.is_t second

  pub me_is : number_drawn s h.txns ≡ seat.session.me
  me_is = its_number g c opened a b h s statement next one finds t at.may.is_t second

  may_come : (r : Reply) → Allowed state s act.Write statement r → MayCome c w next.e act.Write r
  may_come = write_comes g c opened a b h s statement next one finds t at.may.is_t second

  pub some : 0 < seat.session.me
  some = has_number g c opened a b h s statement next one finds t at.may.is_t second

  model_replies : reply_from state s (Some t) act.Write statement ≡ reply_of prepared → reply_to state s act.Write (Some statement) ≡ reply_of prepared
  model_replies is = ap (λ o. reply_from state s o act.Write statement) at.may.is_t ∙ is

  -- ---- where the turn begins

  pub start : StartsAt title e key stage (w.facts s)
  start = starts title e key (w.facts s) at.may.counts (λ f n in_ of. next.world.keeps.walks.scene.carried.tables s f n in_ of) prepared stage at.so_far

  abbrev mine : List Fact
  mine = start.mine

  abbrev begun : Mind
  begun = carrying s mine w

  abbrev seat_begun : InTransaction c begun s
  seat_begun = record { session = seat.session; t = t; at = seat.at; is_t = seat.is_t }

  module _ (may : MayCount g) where
    pub keeps_begun : KeepsWorld g c opened a begun
    keeps_begun = counts_less g c opened a w s seat next.world.keeps may mine start.among start.titles

    -- ---- a head is laid

    module _ (head : HeadMade) (lays : prepared ≡ Lays head) (small : number_drawn s h.txns < 2 ^ 64) where
      pub models : IsModels (view state t) title.columns statement (Lays head)
      models = subst (IsModels (view state t) title.columns statement) lays at.may.models

      abbrev pub writes : IsAtWrite g c opened a begun
      writes = record {
        s = s;
        seat = seat_begun;
        title = title;
        entry = e;
        key = key;
        head = version_by seat.session.me head;
        stage = stage;
        keeps = keeps_begun;
        some = some;
        by = refl;
        head_is = models.is_head key seat.session.me at.may.written (subst (λ n. n < 2 ^ 64) me_is small);
        lock = at.may.lock;
        more = start.more;
        tables = start.tables;
        carries = subst (AreOfStage title e key stage start.more) (sym (carries_so s mine w)) start.of_stage;
      }

      -- what is wished is what it asks for
      pub wished : (k : ℤ) → key_written statement ≡ Some k → wish_by (number_drawn s h.txns) e k head ≡ wish_of writes
      wished k is = ap (λ n. wish_by n e k head) me_is ∙ ap (λ k. wish_by seat.session.me e k head) (some_is k key (sym is ∙ at.may.written))

      pub may_take : TakesTurn g → (k : ℤ) → key_written statement ≡ Some k → MayTakeTurn (wish_by (number_drawn s h.txns) e k head) stage a.now
      may_take takes k is = subst (λ wish. MayTakeTurn wish stage a.now) (sym (wished k is)) (takes c opened a begun writes)

    -- ---- what the turn leaves

    module _ (titles : SameTitles a.now b.now) where
      same_names : names_in b.now ≡ names_in a.now
      same_names = λ i e. (titles e i).name

      -- it goes on, counting on these facts
      module _ (facts : List Fact) (keeps : KeepsWorld g c opened b (carrying s facts w)) (still : KeepsTables (w.facts s) facts) (now : TxnsHeld) (run : run_of now ≡ run_of h.txns) where
        abbrev v : Mind
        v = carrying s facts w

        facts_of : (r : ℕ) (d : ℕ) (l : Title) → IsAmong (HasTable d l) (w.facts r) → IsAmong (HasTable d l) (v.facts r)
        facts_of r d l in_ = known (r == s)
            (λ yes. subst (λ fs. IsAmong (HasTable d l) fs) (sym (ap (λ x. cond x facts (w.facts r)) yes)) (still d l (subst (λ q. IsAmong (HasTable d l) (w.facts q)) (eqb-true r s yes) in_)))
            (λ no. subst (λ fs. IsAmong (HasTable d l) fs) (sym (ap (λ x. cond x facts (w.facts r)) no)) in_)

        tables_now : AreInTables b.now h.locks state v.facts
        tables_now r d k u locked is_u = in_table_still a.now b.now d u u (w.facts r) (v.facts r) (titles d) (λ n is. is) (facts_of r d ((area_in a.now).title d)) (next.world.tables r d k u locked is_u)

        abbrev kept_on : IsKeptOn next (record h { txns = now })
        kept_on = record {
          mind = v;
          world = record {
            keeps = keeps;
            run_is = next.world.run_is ∙ sym run;
            locks = subst (λ n. ShowsKeyLocks n h.locks state) (sym same_names) next.world.locks;
            tables = tables_now;
            in_order = next.world.in_order;
          };
          tape = refl;
          undo = refl;
          names = λ d there. ap (λ (n : ℕ → List ℕ). n d) same_names;
          others = λ r no. ap (λ x. cond x facts (w.facts r)) no;
        }

        abbrev may_on : MayWriteRow c s statement v e prepared
        may_on = record {
          t = t;
          is_t = at.may.is_t;
          title = title;
          key = key;
          named = at.may.named;
          written = at.may.written;
          lock = at.may.lock;
          counts = subst (λ fs. IsAmong (HasTable e title) fs) (sym (carries_so s facts w)) (still e title at.may.counts);
          models = at.may.models;
        }

        pub goes_on : (then : Stage) → CountsAt title e key prepared then facts → TurnOfRow next (record h { txns = now }) e prepared (On then)
        goes_on then counts = (kept_on, record { may = may_on; so_far = subst (CountsAt title e key prepared then) (sym (carries_so s facts w)) counts })

    -- a head goes on, by a record
    module _ (head : HeadMade) (lays : prepared ≡ Lays head) (titles : SameTitles a.now b.now) (now : TxnsHeld) (run : run_of now ≡ run_of h.txns)
        (then : Stage) (facts : List Fact) (of_stage : AreOfStage title e key then start.more facts) (keeps : KeepsWorld g c opened b (carrying s facts begun)) where
      keeps_so : KeepsWorld g c opened b (carrying s facts w)
      keeps_so = subst (KeepsWorld g c opened b) (carried_twice s mine facts w) keeps

      still : KeepsTables (w.facts s) facts
      still d l in_ = stages_keep title e key start.more stage then mine facts start.of_stage of_stage d l (start.keeps d l in_)

      -- the row is looked for again
      looks_on : facts ≡ looking title e start.more → TurnOfRow next (record h { txns = now }) e prepared (On Looking)
      looks_on are =
          let seat_now : InTransaction c (carrying s facts w) s = record { session = seat.session; t = t; at = seat.at; is_t = seat.is_t } in
          let among : (f : Fact) → IsAmong f (idle title e start.more) → IsAmong f ((carrying s facts w).facts s) = λ f in_.
          subst (λ fs. IsAmong f fs) (sym (carries_so s facts w ∙ are)) (idle_among title e start.more f in_) in
          let less = counts_less g c opened b (carrying s facts w) s seat_now keeps_so may (idle title e start.more) among (idle_titles title e start.more start.tables) in
          goes_on titles (idle title e start.more) (subst (KeepsWorld g c opened b) (carried_twice s facts (idle title e start.more) w) less)
          (λ d l in_. idle_kept title e start.more d l (subst (λ fs. IsAmong (HasTable d l) fs) are (still d l in_))) now run Looking
          (HasTable e title ∷ start.more, (tt, start.tables), refl)

      pub went : (p : Stage) → IsBetweenTurns p → p ≡ then → TurnOfRow next (record h { txns = now }) e prepared (On p)
      went Looking is same = looks_on (subst (λ q. AreOfStage title e key q start.more facts) (sym same) of_stage)
      went (Extending chain Wanted) is same = absurd is
      went (Extending chain (Taken p)) is same = goes_on titles facts keeps_so still now run (Extending chain (Taken p))
          (subst (λ q. CountsAt title e key q (Extending chain (Taken p)) facts) (sym lays) (start.more, start.tables, subst (λ q. AreOfStage title e key q start.more facts) (sym same) of_stage))
      went (Extending chain (Made p n)) is same = goes_on titles facts keeps_so still now run (Extending chain (Made p n))
          (subst (λ q. CountsAt title e key q (Extending chain (Made p n)) facts) (sym lays) (start.more, start.tables, subst (λ q. AreOfStage title e key q start.more facts) (sym same) of_stage))
      went (Kept q) is same = goes_on titles facts keeps_so still now run (Kept q)
          (subst (λ p. CountsAt title e key p (Kept q) facts) (sym lays) (start.more, start.tables, subst (λ p. AreOfStage title e key p start.more facts) (sym same) of_stage))

    -- ---- it is done

    module _ (head : HeadMade) (lays : prepared ≡ Lays head) (small : number_drawn s h.txns < 2 ^ 64) (replies : reply_from state s (Some t) act.Write statement ≡ reply_of prepared) where
      -- the transaction and the state that it leaves
      abbrev u : Transaction
      u = with_changes (view state t) (Some statement) t

      abbrev done : State
      done = with_transaction s u state

      is_done : reply_to state s act.Write (Some statement) ≡ reply.Done
      is_done = model_replies replies ∙ ap reply_of lays

      pub done_comes : MayCome c w next.e act.Write reply.Done
      done_comes = may_come reply.Done (inl (sym is_done))

      pub of_statement : e < 32 → IsOfStatement (writes head lays small) next.e
      of_statement inside = record {
        entry = inside;
        table = subst (λ q. table_of q ≡ Some title.name) (sym next.is) at.may.named;
        key = subst (λ q. key_written q ≡ Some key) (sym next.is) at.may.written;
        change = subst (λ q. changes_of (view state t) q ≡ row_written title.name key (version_said title.columns key (version_by seat.session.me head)).1 ∷ []) (sym next.is)
            ((subst (IsModels (view state t) title.columns statement) lays at.may.models).changes title.name key seat.session.me at.may.named at.may.written);
      }

      alike : (r : ℕ) → AreAlike (transaction_of state r) (transaction_of done r)
      alike r = known (r == s)
          (λ yes. subst (λ q. AreAlike (transaction_of state q) (transaction_of done q)) (sym (eqb-true r s yes))
          (subst (λ o. AreAlike o (transaction_of done s)) (sym at.may.is_t) (subst (λ o. AreAlike (Some t) o) (sym (find-put-same s u state.sessions)) (record { uses = λ n. refl; holds = refl; locks = refl }))))
          (λ no. subst (AreAlike (transaction_of state r)) (sym (find-put-other r s u state.sessions no)) (alike_itself (transaction_of state r)))

      module _ (titles : SameTitles a.now b.now) (keeps : KeepsWorld g c opened b (telling next.e act.Write reply.Done begun (carrying s (looking title e start.more) begun))) where
        abbrev told_mind : Mind
        told_mind = telling next.e act.Write reply.Done begun (carrying s (looking title e start.more) begun)

        abbrev counted : List Fact
        counted = idle title e start.more

        is_state : (v : Mind) → v.tape ≡ w.tape ++ entry_of s next.e act.Write reply.Done ∷ [] → state_now c v ≡ done
        is_state v longer = told_state g c opened a b h s statement 1 next act.Write reply.Done v longer ∙ ap (λ o. next_from state s o act.Write (Some statement) reply.Done) at.may.is_t

        seat_told : InTransaction c told_mind s
        seat_told = record { session = seat.session; t = u; at = seat.at; is_t = ap (λ (q : State). transaction_of q s) (is_state told_mind refl) ∙ find-put-same s u state.sessions }

        abbrev after : Mind
        after = carrying s counted told_mind

        facts_so : after.facts ≡ with_facts s counted w.facts
        facts_so = facts_twice s counted (looking title e start.more) (with_facts s mine w.facts) ∙ facts_twice s counted mine w.facts

        keeps_now : KeepsWorld g c opened b after
        keeps_now = counts_less g c opened b told_mind s seat_told keeps may counted
            (λ f in_. subst (λ fs. IsAmong f fs) (sym (carries_so s (looking title e start.more) begun)) (idle_among title e start.more f in_)) (idle_titles title e start.more start.tables)

        still_done : KeepsTables (w.facts s) counted
        still_done d l in_ = idle_kept title e start.more d l (stages_keep title e key start.more stage Looking mine (looking title e start.more) start.of_stage refl d l (start.keeps d l in_))

        own : (f : ℕ) (k : ℤ) → session_locks s f k h.locks ≡ true → IsInTable a.now f u counted
        own f k is = in_table_still a.now a.now f t u (w.facts s) counted refl (λ n is. is) (still_done f ((area_in a.now).title f)) (next.world.tables s f k t is at.may.is_t)

        pub done_told : TurnOfRow next h e prepared (Told reply.Done)
        done_told =
            let its = changed_told g c opened a b h s statement 1 next act.Write reply.Done u done refl after counted facts_so h.locks (λ q no. refl) titles own
            h.txns next.world.run_is refl refl (is_state after refl) (shows_alike (names_in a.now) h.locks state done alike next.world.locks) (HasTable e title ∷ start.more, (tt, start.tables), refl) keeps_now in
            (its.0, its.0.counts, tt)

  -- ---- it is refused

  module _ (idle_now : CountsOnTables (w.facts s)) where
    refused_so : (why : Refusal) → IsRefusedFor why a.now b.now → IsActTold next h act.Write (reply.Refused why) → TurnOfRow next h e prepared (Told (reply.Refused why))
    refused_so why cause told = (told, subst CountsOnTables (sym told.counts) idle_now, cause)

    module _ (rested : RestsBehind g a b) (told : Refuses g) where
      refuses : (why : Refusal) → IsRefusedFor why a.now b.now → Allowed state s act.Write statement (reply.Refused why) → TurnOfRow next h e prepared (Told (reply.Refused why))
      refuses why cause allowed = refused_so why cause (refused_told g c opened a b h s statement 1 next act.Write why rested
          (told c opened a b w s (record { keeps = next.world.keeps; seat = seat; e = next.e; at_end = next.at_end }) act.Write why (may_come (reply.Refused why) allowed) rested))

      -- as the model refuses it
      pub refused_by : (why : Refusal) → prepared ≡ Refused why → reply_from state s (Some t) act.Write statement ≡ reply_of prepared → TurnOfRow next h e prepared (Told (reply.Refused why))
      refused_by why is replies = refuses why (models_cause (view state t) a.now b.now why statement (replies ∙ ap reply_of is)) (inl (sym (model_replies replies ∙ ap reply_of is)))

      -- or for want of pages
      pub refused_full : (head : HeadMade) → prepared ≡ Lays head → reply_from state s (Some t) act.Write statement ≡ reply_of prepared → HasNoPage a.now b.now
          → TurnOfRow next h e prepared (Told (reply.Refused (refusal.Full MOST_PAGES)))
      refused_full head lays replies none = refuses (refusal.Full MOST_PAGES) none
          (inr (subst (λ r. MayStandFor statement r (reply.Refused (refusal.Full MOST_PAGES))) (sym (model_replies replies ∙ ap reply_of lays)) (row_may_want statement key at.may.written)))

  -- a Write that isn't begun counts on tables
  pub idle_refused : (why : Refusal) → prepared ≡ Refused why → CountsOnTables (w.facts s)
  idle_refused why is = by stage (subst (λ p. CountsAt title e key p stage (w.facts s)) is at.so_far)
    where
      by : (p : Stage) → CountsAt title e key (Refused why) p (w.facts s) → CountsOnTables (w.facts s)
      by Looking counts = counts
      by (Extending chain way) counts = absurd counts
      by (Kept q) counts = absurd counts

  -- so does one by which no record was logged: it has no page on its way, and no version was kept
  module _ (head : HeadMade) (lays : prepared ≡ Lays head) (wish : Wish) (its_key : wish.key ≡ key) (its_entry : wish.entry ≡ e) where
    slot_there : (q : Place) → AreAtStage title e key (Kept q) (w.facts s) → (p : Place) × IsSlotOfKey (area_in a.now) wish.entry wish.key p
    slot_there q are =
        let of = are.2.0 in
        let in_ = subst (λ (l : List Fact). IsAmong (HasSlot e of.at of.slot) l) (sym are.2.1) (among_first (HasSlot e of.at of.slot) (facts_kept title e of q) are.0 (inr (inr (inr (inl refl))))) in
        let slot = next.world.keeps.walks.scene.carried.held s seat.session (HasSlot e of.at of.slot) seat.at in_ in
        (of.at, subst (λ n. IsSlotOfKey (area_in a.now) n wish.key of.at) (sym its_entry) (subst (λ k. IsSlotOfKey (area_in a.now) e k of.at) (sym its_key) (slot.0, ap (λ (o : Slot). o.key) slot.1 ∙ of.of_key)))

    -- once a version was kept the head is laid
    kept_done : (q : Place) (r : Written) → (p : Place) × IsSlotOfKey (area_in a.now) wish.entry wish.key p → EndsLooking wish (Some q) a.now b.now r → r ≡ written.Done
    kept_done q r there ends = ⊎_elim
        (λ none. absurd (none.0 there.0 there.1))
        (λ found. ⊎_elim (λ lays. lays.done) (λ keeps. absurd (false≢true (ap is_some (sym keeps.new)))) found.ends)
        ends

    pub idle_here : (r : Written) → (r ≡ written.Grown) ⊎ (r ≡ written.Full) → EndsWrite wish stage a.now b.now r → (stage ≡ Looking) × CountsOnTables (w.facts s)
    idle_here r which ends = by stage refl (subst (λ p. CountsAt title e key p stage (w.facts s)) lays at.so_far) ends
      where
        by : (p : Stage) → stage ≡ p → CountsAt title e key (Lays head) p (w.facts s) → EndsWrite wish p a.now b.now r → (stage ≡ Looking) × CountsOnTables (w.facts s)
        by Looking is counts ends = (is, counts)
        by (Extending chain Wanted) is counts ends = absurd counts
        by (Extending chain (Taken p)) is counts ends = absurd (unlogged_taken wish.x chain p a.now b.now r which ends)
        by (Extending chain (Made p n)) is counts ends = absurd (unlogged_made wish.x chain p n a.now b.now r which ends)
        by (Kept q) is counts ends = absurd (⊎_elim (λ grown. cc (sym grown ∙ kept_done q r (slot_there q counts) ends)) (λ full. cc (sym full ∙ kept_done q r (slot_there q counts) ends)) which)
