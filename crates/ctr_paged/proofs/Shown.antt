-- Each kind of turn keeps what is shown, with its names.
use Rattle.std.proofs.Common.{◌≡◌, ◌⊎◌, ⊎_elim, inl, inr, ℕ, ◌+◌, ◌<◌, ◌≤◌, ◌==◌, Bool, true, false, List, [], ◌∷◌, ◌++◌, length, Some, None, refl, sym, ◌∙◌, ap, subst, arith}
use Rattle.std.specs.Prelude.{is_some, not, nat_eq, nat_lt, ◌&&◌}
use Rattle.std.specs.Ordering.{nat_cmp}
use Rattle.std.specs.FinMap.Entries.{find, put}
use Rattle.std.proofs.lemmas.Bool.{false≢true, eq-eqb, eqb-true, ne_eqb, cases_lt}
use Rattle.ctr_rec.specs.declared.record.SlogItem.{SlogItem}
use Rattle.ctr_rec.specs.declared.record.SlogItem.TheVariants.{FreeOf, CreateOf, DropOf}
use Rattle.ctr_types.specs.declared.value.Column.{Column}
use Rattle.ctr_model.specs.declared.state.State.{State}
use Rattle.ctr_model.specs.declared.state.Transaction.{Transaction}
use Rattle.ctr_model.specs.Maps.{without}
use Rattle.ctr_model.specs.State.{has_name, with_transaction, without_transaction, begun}
use Rattle.ctr_model.specs.Reply.{without_name}
use Rattle.ctr_model.proofs.Sessions.{find-put-other, find-put-same}
use Rattle.ctr_versions.proofs.Keys.{known, some_is}
use Rattle.ctr_versions.proofs.Xids.{drawn_numbers}
use Rattle.ctr_versions.specs.Chains.{changed_since}
use Rattle.ctr_versions.specs.Keys.{row_written, schema_writes}
use Rattle.ctr_versions.specs.Versions.{name_written, IsTableOf}
use Rattle.ctr_versions.specs.Xids.{Xids, number_of, taken, drawn}
use Rattle.ctr_versions.specs.Steps.{AreUntouched, IsFreeKey}
use Rattle.ctr_versions.specs.Laws.{IsGranted, with_own, IsNoSessions, mark_of}
use Rattle.ctr_versions.specs.Engine.{SessionHeld, ShowsSession}
use Rattle.ctr_names.specs.meta_Wanted.TheVariants.{Creation, Dropping}
use Rattle.ctr_names.specs.meta_Items.{is_schema_by, left_out}
use Rattle.ctr_actions.specs.meta_Tables.{Tables, is_in, heads_in}
use Rattle.ctr_actions.specs.meta_Effects.{opened_by, committed, rolled_back, forgotten_by, with_item, without_item, one_head_more, one_aborted_less}
use Rattle.ctr_actions.specs.area_Areas.{no_pages, Title, Area}
use Rattle.ctr_actions.specs.area_Chains.{pages_bound}
use Rattle.ctr_actions.specs.area_Changes.{with_firsts, with_bucket, with_title, ChangesEntry, new_title, empty_chains}
use Rattle.ctr_actions.specs.area_Images.{is_committed_in, is_live, made_by_entry}
use Rattle.ctr_actions.specs.area_Sound.{IsAmong, IsSchemaItem, xids_in}
use Rattle.ctr_actions.specs.record_laws_Owed.{OwedByAbort, OwedByCommit, Reverting, OwedByRevert, reverted_at, RowMove, loses_head, row_moved, row_counted, OwedByRow, OwedByCreate, OwedByDrop, OwedByUncreate, OwedByUndrop, OwedByDying, OwedByFreeing, Trimming, OwedByTrim, trimmed_at, OwedByCut, cut_at, OwedByUnlink}
use Rattle.ctr_names.proofs.record_laws_Begin.{xids_append}
use Rattle.ctr_names.proofs.record_laws_Heads.{listed_open}
use Rattle.ctr_actions.proofs.record_laws_Members.{among_parts}
use Rattle.ctr_actions.proofs.record_laws_Xids.{HaveSameXids, both_same, more_same, less_same, aborted_less_same}
use Rattle.ctr_actions.specs.page_Place.{Place}
use Rattle.ctr_actions.specs.record_laws_Bounds.{IsInBounds}
use Rattle.ctr_names.proofs.record_laws_Latest.{entry_of_item, create_isnt_drop, xid_of_item, title_here, title_apart}
use Rattle.ctr_names.proofs.record_laws_Undone.{filter_among, among_filter}
use Rattle.ctr_names.proofs.Items.{left_keeps, left_fewer, schema_map}
use Rattle.ctr_actions.proofs.Latest.{last_among}
use Rattle.ctr_paged.specs.Paged.{Run, xids_of, engine_at, ShowsPaged}
use Rattle.ctr_names.specs.Stand.{NamesStand}
use Rattle.ctr_names.specs.Held.{IsNameHeldBy, HoldsNames, HaveSameTables}
use Rattle.ctr_paged.proofs.Carry.{HaveSameNumbers, xids_same, nobody_none}
use Rattle.ctr_paged.proofs.Catalog.{open_number, create_shows, drop_shows, dying_shows, freed_shows, uncreate_shows, undrop_shows}
use Rattle.ctr_paged.proofs.Fates.{begin_shows, commit_shows, next_number}
use Rattle.ctr_versions.specs.Undoing.{IsNotAtWork}
use Rattle.ctr_versions.specs.Changes.{IsOld}
use Rattle.ctr_names.specs.meta_Wanted.{Wanted}
use Rattle.ctr_paged.proofs.Aborts.{abort_shows, orphan_shows, forget_shows}
use Rattle.ctr_paged.proofs.Rows.{theirs, row_shows, revert_shows, trim_shows, cut_shows}
use Rattle.ctr_paged.proofs.Emptied.{unlink_shows}
use Rattle.ctr_names.proofs.Stand.{stand_commit, stand_same, stand_gone, stand_made, stand_drop, item_open, item_drawn, stand_abort, stand_forget}
use Rattle.ctr_paged.proofs.Tables.{agree, number_alike}
use Rattle.ctr_paged.proofs.Turns.{mark_turn, begin_turn, grant_turn, end_turn, answer_turn, undo_turn, release_turn, grow_turn}
use Rattle.ctr_actions.specs.Sites.{Site}
use Rattle.ctr_actions.specs.Actions.{site_after, Writes, Drops, Commits, Aborts, Reverts}
use Rattle.ctr_paged.specs.Shown.{Scene, IsShown}
use Rattle.ctr_paged.specs.Moving.{PassOld}
use Rattle.ctr_names.proofs.Holding.{same_items, free_items, holds_same, holds_session, holds_granted, holds_begun, holds_drawn, holds_undoing, holds_ended, holds_more, holds_less, holds_fewer, holds_freed}

-- a title is another of the same name
pub titled_name : (area : Area) (e : ℕ) (u : Title) → u.name ≡ (area.title e).name → (f : ℕ) → ((with_title e u area).title f).name ≡ (area.title f).name
titled_name area e u same f = known (f == e)
    (λ is. let f_e = eqb-true f e is in ap (λ g. ((with_title e u area).title g).name) f_e ∙ ap (λ (v : Title). v.name) (title_here area e u) ∙ same ∙ ap (λ g. (area.title g).name) (sym f_e))
    (λ isnt. ap (λ (v : Title). v.name) (title_apart area e u f (λ is. false≢true (sym isnt ∙ eq-eqb f e is))))

create_parts : (x e : ℕ) (items : List SlogItem) (y f : ℕ) → IsSchemaItem y f (items ++ CreateOf x e ∷ []) → IsSchemaItem y f items ⊎ ((y ≡ x) × (f ≡ e))
create_parts x e items y f (inl c) = ⊎_elim (λ was. inl (inl was)) (λ here. ⊎_elim (λ same. inr (ap xid_of_item same, ap entry_of_item same)) (λ none. absurd none) here) (among_parts (CreateOf y f) items (CreateOf x e ∷ []) c)
create_parts x e items y f (inr d) = ⊎_elim (λ was. inl (inr was)) (λ here. ⊎_elim (λ same. absurd (create_isnt_drop x y e f (sym same))) (λ none. absurd none) here) (among_parts (DropOf y f) items (CreateOf x e ∷ []) d)

drop_parts : (x e : ℕ) (items : List SlogItem) (y f : ℕ) → IsSchemaItem y f (items ++ DropOf x e ∷ []) → IsSchemaItem y f items ⊎ ((y ≡ x) × (f ≡ e))
drop_parts x e items y f (inl c) = ⊎_elim (λ was. inl (inl was)) (λ here. ⊎_elim (λ same. absurd (create_isnt_drop y x f e same)) (λ none. absurd none) here) (among_parts (CreateOf y f) items (DropOf x e ∷ []) c)
drop_parts x e items y f (inr d) = ⊎_elim (λ was. inl (inr was)) (λ here. ⊎_elim (λ same. inr (ap xid_of_item same, ap entry_of_item same)) (λ none. absurd none) here) (among_parts (DropOf y f) items (DropOf x e ∷ []) d)

module _ (low : ℕ) (site : Site) (scene : Scene) (shown : IsShown low site scene) where
  abbrev run : Run
  run = scene.run

  abbrev state : State
  state = scene.state

  abbrev area : Area
  area = site.area

  abbrev tables : Tables
  tables = site.tables

  abbrev paged : ShowsPaged low site run state
  paged = shown.paged

  -- ---- what a session does without a record

  pub shown_begun : (s : ℕ) → find nat_cmp s state.sessions ≡ None
      → IsShown low site (record scene { run = record run { sessions = put nat_cmp s (record { me = 0; snapshot = taken (xids_of tables run.commits) run.answered; undoing = false }) run.sessions }; state = with_transaction s (begun state.answered) state })
  shown_begun s none = record {
    paged = begin_turn low site run state paged s;
    holds = holds_begun tables.items area.title run.sessions state shown.holds s (record { me = 0; snapshot = taken (xids_of tables run.commits) run.answered; undoing = false }) (begun state.answered)
        (λ y f item. (item_drawn site.counted tables area paged.sound y f item).0) refl none;
    stands = shown.stands;
  }

  pub shown_granted : (s : ℕ) (t u : Transaction) → find nat_cmp s state.sessions ≡ Some t → IsGranted t u → ((name : List ℕ) → has_name name t.holds ≡ true → has_name name u.holds ≡ true) → IsShown low site (record scene { state = with_transaction s u state })
  shown_granted s t u is_t granted more = record {
    paged = grant_turn low site run state paged s t u is_t granted;
    holds = holds_granted tables.items area.title run.sessions state shown.holds s t u is_t more;
    stands = shown.stands;
  }

  -- a reader ends
  pub shown_ended : (s : ℕ) → ((a : SessionHeld) → find nat_cmp s run.sessions ≡ Some a → a.me ≡ 0) → IsShown low site (record scene { run = record run { sessions = without nat_cmp s run.sessions }; state = without_transaction s state })
  shown_ended s reader = record {
    paged = end_turn low site run state paged s;
    holds = holds_ended tables.items area.title run.sessions state shown.holds s (without_transaction s state) refl refl
        (λ a f at item. never a.me (item_drawn site.counted tables area paged.sound a.me f item).0 (reader a at));
    stands = shown.stands;
  }
    where
      never : (y : ℕ) → 0 < y → y ≡ 0 → ⊥
      never y lt z = omega (arith, lt, z)

  -- a commit is answered
  pub shown_answered : (s k : ℕ) (t : Transaction) → find nat_cmp s state.sessions ≡ Some t → t.asked ≡ Some k → state.answered < length state.asked
      → IsShown low site (record scene { run = record run { sessions = without nat_cmp s run.sessions; answered = run.answered + 1 }; state = without_transaction s (record state { answered = state.answered + 1 }) })
  shown_answered s k t is_t asked more = record {
    paged = answer_turn low site run state paged s more;
    holds = holds_ended tables.items area.title run.sessions state shown.holds s (without_transaction s (record state { answered = state.answered + 1 })) refl refl
        (λ a f at item. false≢true (sym (listed_open tables a.me (inl (item_open site.counted tables area paged.sound a.me f item)))
        ∙ sym (agree tables run.commits a.me) ∙ ap is_some ((theirs low site run state paged s a t at is_t).asked k asked)));
    stands = shown.stands;
  }

  -- a rollback of several steps begins
  pub shown_undoing : (s : ℕ) (a : SessionHeld) (t : Transaction) → find nat_cmp s run.sessions ≡ Some a → find nat_cmp s state.sessions ≡ Some t → IsShown low site (record scene { run = record run { sessions = put nat_cmp s (record a { undoing = true }) run.sessions } })
  shown_undoing s a t at is_t = record {
    paged = undo_turn low site run state paged s a t at is_t;
    holds = holds_undoing tables.items area.title run.sessions state shown.holds s a (record a { undoing = true }) at refl;
    stands = shown.stands;
  }

  -- the file grows; the low number rises
  pub shown_grown : (more : ℕ) → site.counted ≤ more → more ≤ pages_bound → IsShown low (record site { counted = more }) scene
  shown_grown more le few = record { paged = grow_turn low site run state paged more le few; holds = shown.holds; stands = shown.stands }

  pub shown_raised : (higher : ℕ) → low ≤ higher → ShowsPaged higher site run state → IsShown higher site scene
  shown_raised higher le now = record {
    paged = now;
    holds = shown.holds;
    stands = record { one = λ j from. shown.stands.one j (further j from); ranked = shown.stands.ranked };
  }
    where
      further : (j : ℕ) → higher ≤ j → low ≤ j
      further j from = omega (arith, le, from)

  -- ---- records that leave titles, and items of tables, alone

  pub shown_still : (now : Area) (new : Tables) → HaveSameNumbers tables new → HaveSameTables tables.items new.items → now.title ≡ area.title → ShowsPaged low (record site { tables = new; area = now }) run state
      → IsShown low (record { counted = site.counted; tables = new; area = now }) scene
  shown_still now new numbers items titles shows = record {
    paged = shows;
    holds = subst (λ t. HoldsNames new.items t run.sessions state) (sym titles) (holds_same tables.items area.title run.sessions state shown.holds new.items area.title items (λ y f item. refl));
    stands = subst (λ t. NamesStand low (number_of (xids_of new run.commits)) t) (sym titles) (subst (λ n. NamesStand low n area.title) (sym (ap number_of (xids_same tables new run.commits numbers))) shown.stands);
  }

  -- a head of an aborted transaction gives way
  pub shown_reverted : (e : ℕ) (at : Place) (way : Reverting) → OwedByRevert tables area e at way → IsInBounds (reverted_at at way area)
      → IsShown low (site_after 0 (Reverts e at way) site) scene
  shown_reverted e at way owed bounds =
      let same_ = aborted_less_same (area.slot at).head.0 tables in
      shown_still (reverted_at at way area) (one_aborted_less (area.slot at).head.0 tables) (record { next = same_.next; opens = same_.opens; aborted = same_.aborted })
      (subst (HaveSameTables tables.items) (sym same_.items) (same_items tables.items)) refl (revert_shows low site run state paged e at way owed bounds)

  -- one in the aborted transaction map that has no head is forgotten
  pub shown_forgotten : (x : ℕ) → is_in x tables.aborted ≡ true → heads_in x tables.aborted ≡ 0 → IsShown low (record site { tables = forgotten_by x tables }) scene
  shown_forgotten x is none = record {
    paged = forget_shows low site run state paged x is none;
    holds = shown.holds;
    stands = stand_forget site.counted tables area paged.sound low (number_of (xids_of tables run.commits)) (number_of (xids_of (forgotten_by x tables) run.commits)) x is (number_alike tables (forgotten_by x tables) run.commits) shown.stands;
  }

  -- ---- a session's records that make an entry

  module _ (s : ℕ) (session : SessionHeld) (t : Transaction) (at : find nat_cmp s run.sessions ≡ Some session) (is_t : find nat_cmp s state.sessions ≡ Some t) (unasked : t.asked ≡ None) where
    -- a number is drawn with the first lock
    pub shown_drawn : (u : Transaction) → session.me ≡ 0 → ShowsSession low state.answered (engine_at site run).xids (engine_at site run).versions session u → u.asked ≡ None → u.own ≡ []
        → IsShown low (record site { tables = opened_by tables.next tables }) (record scene { run = record run { sessions = put nat_cmp s (record session { me = tables.next }) run.sessions }; state = with_transaction s u state })
    shown_drawn u zero_ is_shown u_unasked unwritten = record {
      paged = begin_shows low site run state paged s session t u at is_t is_shown u_unasked unwritten;
      holds = holds_drawn tables.items area.title run.sessions state shown.holds s session (record session { me = tables.next }) u at zero_ (item_drawn site.counted tables area paged.sound);
      stands = stand_same low (number_of xids) (number_of (xids_of (opened_by tables.next tables) run.commits)) area.title (λ f lt alive. (same (area.title f).creator, same (area.title f).dropper)) shown.stands;
    }
      where
        xids : Xids
        xids = xids_of tables run.commits

        new_xids : xids_of (opened_by tables.next tables) run.commits ≡ drawn xids
        new_xids = λ i. record { next = tables.next + 1; live = xids_append tables.opens ((tables.next, 0) ∷ []) i; aborted = xids_in tables.aborted; commits = run.commits }

        same : (y : ℕ) → number_of (xids_of (opened_by tables.next tables) run.commits) y ≡ number_of xids y
        same y = ap (λ (xs : Xids). number_of xs y) new_xids ∙ drawn_numbers xids y

    -- a row is written
    pub shown_row : (m : RowMove) (table : List ℕ) → OwedByRow tables area m → IsInBounds (row_moved m area) → session.me ≡ m.xid
        → IsTableOf (number_of (xids_of tables run.commits)) (engine_at site run).versions session.me t.snapshot table m.entry → IsFreeKey (engine_at site run) state.sessions s m.entry m.key
        → IsShown low (site_after m.xid (Writes m) site) (record scene { state = with_transaction s (with_own (row_written table m.key m.row) t) state })
    shown_row m table owed bounds mine on free = record {
      paged = row_shows low site run state paged m owed bounds s session t table at is_t unasked mine on free;
      holds = holds_same tables.items area.title run.sessions (with_transaction s u state) (holds_granted tables.items area.title run.sessions state shown.holds s t u is_t (λ name has_. has_))
          (row_counted m area tables).items area.title (subst (HaveSameTables tables.items) (sym same_.items) (same_items tables.items)) (λ y f item. refl);
      stands = subst (λ n. NamesStand low n area.title) (sym (ap number_of (xids_same tables (row_counted m area tables) run.commits (record { next = same_.next; opens = same_.opens; aborted = same_.aborted })))) shown.stands;
    }
      where
        u : Transaction
        u = with_own (row_written table m.key m.row) t

        same_ : HaveSameXids tables (row_counted m area tables)
        same_ = both_same tables (one_head_more m.xid tables) (row_counted m area tables) (more_same m.xid tables) (less_same (loses_head tables (area.slot m.at)) (one_head_more m.xid tables))

    -- who holds the name has it in the site
    held_by_me : (name : List ℕ) → has_name name t.holds ≡ true → IsNameHeldBy run.sessions state session.me name
    held_by_me name holds = record { s = s; session = session; t = t; at = at; is_t = is_t; me = refl; holds = holds }

    -- a table is made
    pub shown_created : (new : Area) (e : ℕ) (name : List ℕ) (columns : List Column) → OwedByCreate tables area session.me e name → ChangesEntry e (new_title session.me name columns) empty_chains area new → IsInBounds new
        → has_name name t.holds ≡ true
        → IsShown low (record site { tables = with_item (CreateOf session.me e) tables; area = new }) (record scene { state = with_transaction s (with_own (name_written name (Some (made_by_entry (e, new_title session.me name columns)))) t) state })
    shown_created new e name columns owed changes bounds holds = record {
      paged = create_shows low site run state paged s session t at is_t unasked new e name columns owed changes bounds;
      holds = subst (λ l. HoldsNames (tables.items ++ CreateOf session.me e ∷ []) l run.sessions (with_transaction s u state)) (sym titles)
          (holds_granted (tables.items ++ CreateOf session.me e ∷ []) (with_title e title area).title run.sessions state
          (holds_more tables.items area.title run.sessions state shown.holds (CreateOf session.me e) session.me e (with_title e title area).title (create_parts session.me e tables.items) old_names
          (subst (λ n. IsNameHeldBy run.sessions state session.me n) (ap (λ (v : Title). v.name) (sym (title_here area e title))) (held_by_me name holds)))
          s t u is_t (λ n has_. has_));
      stands = subst (λ l. NamesStand low (number_of (xids_of tables run.commits)) l) (sym titles)
          (stand_made low (number_of (xids_of tables run.commits)) area e title shown.stands (open_number low site run state paged session.me (listed_open tables session.me (inl owed.is_open))) refl (nobody_none tables run.commits));
    }
      where
        title : Title
        title = new_title session.me name columns

        u : Transaction
        u = with_own (name_written name (Some (made_by_entry (e, title)))) t

        titles : new.title ≡ (with_title e title area).title
        titles = λ i f. changes.titles f i

        live_item : (y f : ℕ) → IsSchemaItem y f tables.items → is_live (area.title f) ≡ true
        live_item y f item = ⊎_elim (λ c. (paged.sound.names.creates y f c).0) (λ d. (paged.sound.names.drops y f d).0) item

        old_names : (y f : ℕ) → IsSchemaItem y f tables.items → ((with_title e title area).title f).name ≡ (area.title f).name
        old_names y f item = ap (λ (v : Title). v.name) (title_apart area e title f (λ is. false≢true (sym (ap (λ n. n == 1) owed.free) ∙ ap (λ g. is_live (area.title g)) (sym is) ∙ live_item y f item)))

    -- a table is dropped
    pub shown_dropped : (e : ℕ) → OwedByDrop tables area session.me e → IsInBounds (with_title e (record (area.title e) { dropper = session.me }) area) → session.undoing ≡ false → changed_since t.snapshot (schema_writes (area.title e).name state.asked) ≡ None
        → has_name (area.title e).name t.holds ≡ true
        → IsShown low (site_after session.me (Drops e) site) (record scene { state = with_transaction s (with_own (name_written (area.title e).name None) t) state })
    shown_dropped e owed bounds calm steady holds = record {
      paged = drop_shows low site run state paged s session t at is_t unasked e owed bounds calm steady;
      holds = holds_granted (tables.items ++ DropOf session.me e ∷ []) (with_title e v area).title run.sessions state
          (holds_more tables.items area.title run.sessions state shown.holds (DropOf session.me e) session.me e (with_title e v area).title (drop_parts session.me e tables.items) (λ y f item. titled_name area e v refl f)
          (subst (λ n. IsNameHeldBy run.sessions state session.me n) (sym (titled_name area e v refl e)) (held_by_me (area.title e).name holds)))
          s t u is_t (λ n has_. has_);
      stands = stand_drop low (number_of (xids_of tables run.commits)) area e v shown.stands owed.live refl refl
          (open_number low site run state paged session.me (listed_open tables session.me (inl owed.is_open)))
          (subst (λ d. number_of (xids_of tables run.commits) d ≡ None) (sym owed.undropped) (nobody_none tables run.commits));
    }
      where
        v : Title
        v = record (area.title e) { dropper = session.me }

        u : Transaction
        u = with_own (name_written (area.title e).name None) t

    -- a commit is asked for
    pub shown_asked : session.undoing ≡ false → AreUntouched state.sessions s t → OwedByCommit tables session.me
        → IsShown low (site_after session.me Commits site) (record scene { run = record run { commits = run.commits ++ session.me ∷ [] }; state = with_transaction s (record t { asked = Some (length state.asked + 1) }) (record state { asked = state.asked ++ t.own ∷ [] }) })
    shown_asked calm untouched owed = record {
      paged = commit_shows low site run state paged s session t at is_t unasked calm untouched owed;
      holds = holds_session (committed session.me tables).items area.title run.sessions state fewer s run.sessions next (λ r two. refl) (λ r two. find-put-other r s u state.sessions two)
          (λ y f a w item at_a is_w me has_. record { s = s; session = a; t = u; at = at_a; is_t = find-put-same s u state.sessions; me = me; holds = subst (λ (x : Transaction). has_name (area.title f).name x.holds ≡ true) (some_is w t (sym is_w ∙ is_t)) has_ })
          (λ y f b item its at_b me. its s b at_b me) refl;
      stands = stand_commit low site.counted tables area (number_of (xids_of tables run.commits)) (number_of (xids_of (committed session.me tables) (run.commits ++ session.me ∷ []))) session.me (length run.commits) paged.sound owed
          (paged.drops s session at owed.is_open) (agree tables run.commits) (agree (committed session.me tables) (run.commits ++ session.me ∷ [])) (next_number low site run state paged s session t at is_t unasked calm untouched owed) shown.stands;
    }
      where
        u : Transaction
        u = record t { asked = Some (length state.asked + 1) }

        next : State
        next = with_transaction s u (record state { asked = state.asked ++ t.own ∷ [] })

        fewer : HoldsNames (committed session.me tables).items area.title run.sessions state
        fewer = holds_less tables.items area.title run.sessions state shown.holds (committed session.me tables).items area.title s session at
            (λ y f item. schema_map y f (committed session.me tables).items tables.items (λ c. (filter_among (λ i. not (is_schema_by session.me i)) (CreateOf y f) tables.items c).0) (λ d. (filter_among (λ i. not (is_schema_by session.me i)) (DropOf y f) tables.items d).0) item)
            (λ y f apart item. schema_map y f tables.items (committed session.me tables).items
            (λ c. among_filter (λ i. not (is_schema_by session.me i)) (CreateOf y f) tables.items (ap not (ne_eqb y session.me apart)) c)
            (λ d. among_filter (λ i. not (is_schema_by session.me i)) (DropOf y f) tables.items (ap not (ne_eqb y session.me apart)) d) item)
            (λ y f item. refl)

    -- a rollback ends
    pub shown_aborted : OwedByAbort tables session.me → IsShown low (site_after session.me Aborts site) (record scene { run = record run { sessions = without nat_cmp s run.sessions }; state = without_transaction s state })
    shown_aborted owed = record {
      paged = abort_shows low site run state paged session.me owed s session t at is_t unasked refl;
      holds = holds_ended tables.items area.title run.sessions state shown.holds s (without_transaction s state) refl refl
          (λ a f at_a item. no_item f (subst (λ (b : SessionHeld). IsSchemaItem b.me f tables.items) (some_is a session (sym at_a ∙ at)) item));
      stands = stand_abort site.counted tables area paged.sound low (number_of (xids_of tables run.commits)) (number_of (xids_of (rolled_back session.me tables) run.commits)) session.me owed (number_alike tables (rolled_back session.me tables) run.commits) shown.stands;
    }
      where
        no_item : (f : ℕ) → IsSchemaItem session.me f tables.items → ⊥
        no_item f (inl in_) = false≢true (sym (owed.none (CreateOf session.me f) in_) ∙ eq-eqb session.me session.me refl)
        no_item f (inr in_) = false≢true (sym (owed.none (DropOf session.me f) in_) ∙ eq-eqb session.me session.me refl)

  -- recovery ends a transaction that nobody has
  pub shown_orphan : (x : ℕ) → OwedByAbort tables x → IsNoSessions run.sessions x → IsShown low (site_after x Aborts site) scene
  shown_orphan x owed nobodys = record {
    paged = orphan_shows low site run state paged x owed nobodys;
    holds = shown.holds;
    stands = stand_abort site.counted tables area paged.sound low (number_of (xids_of tables run.commits)) (number_of (xids_of (rolled_back x tables) run.commits)) x owed (number_alike tables (rolled_back x tables) run.commits) shown.stands;
  }

  -- ---- items of tables are undone

  live_create : (y f x e : ℕ) → IsAmong (CreateOf y f) tables.items → IsAmong (CreateOf x e) tables.items → f ≡ e → y ≡ x
  live_create y f x e c d same = sym (paged.sound.names.creates y f c).1 ∙ ap (λ g. (area.title g).creator) same ∙ (paged.sound.names.creates x e d).1

  live_drop : (y f x e : ℕ) → IsAmong (DropOf y f) tables.items → IsAmong (DropOf x e) tables.items → f ≡ e → y ≡ x
  live_drop y f x e c d same = sym (paged.sound.names.drops y f c).1 ∙ ap (λ g. (area.title g).dropper) same ∙ (paged.sound.names.drops x e d).1

  -- only the one item goes
  pub uncreated_still : (x e : ℕ) → OwedByUncreate tables x e → (y f : ℕ) → IsSchemaItem y f tables.items → IsSchemaItem y f (left_out (Creation e) tables.items) ⊎ ((y ≡ x) × (f ≡ e))
  uncreated_still x e owed y f (inl c) = known (nat_eq f e)
      (λ is. let same = eqb-true f e is in inr (live_create y f x e c (last_among x (CreateOf x e) tables.items owed).0 same, same))
      (λ isnt. inl (inl (left_keeps (Creation e) (CreateOf y f) tables.items isnt c)))
  uncreated_still x e owed y f (inr d) = inl (inr (left_keeps (Creation e) (DropOf y f) tables.items refl d))

  pub undropped_still : (x e : ℕ) → OwedByUndrop tables x e → (y f : ℕ) → IsSchemaItem y f tables.items → IsSchemaItem y f (left_out (Dropping e) tables.items) ⊎ ((y ≡ x) × (f ≡ e))
  undropped_still x e owed y f (inl c) = inl (inl (left_keeps (Dropping e) (CreateOf y f) tables.items refl c))
  undropped_still x e owed y f (inr d) = known (nat_eq f e)
      (λ is. let same = eqb-true f e is in inr (live_drop y f x e d (last_among x (DropOf x e) tables.items owed).0 same, same))
      (λ isnt. inl (inr (left_keeps (Dropping e) (DropOf y f) tables.items isnt d)))

  fewer_items : (w : Wanted) (y f : ℕ) → IsSchemaItem y f (left_out w tables.items) → IsSchemaItem y f tables.items
  fewer_items w y f item = schema_map y f (left_out w tables.items) tables.items (λ c. left_fewer w (CreateOf y f) tables.items c) (λ d. left_fewer w (DropOf y f) tables.items d) item

  -- the tables with an item less, and another title of the same name: whose item it was says the rest
  pub record IsUndone (x e : ℕ) (w : Wanted) (u : Title) : Type 0 where
    pub name : u.name ≡ (area.title e).name
    pub bounds : IsInBounds (with_title e u area)
    pub shows : ShowsPaged low (record site { tables = without_item w tables; area = with_title e u area }) run state
    pub stands : NamesStand low (number_of (xids_of tables run.commits)) (with_title e u area).title
    pub still : (y f : ℕ) → IsSchemaItem y f tables.items → IsSchemaItem y f (left_out w tables.items) ⊎ ((y ≡ x) × (f ≡ e))

  abbrev pub undone_site : ℕ → Wanted → Title → Site
  undone_site e w u = record site { tables = without_item w tables; area = with_title e u area }

  pub is_uncreated : (x e : ℕ) → IsNotAtWork x (engine_at site run) state → OwedByUncreate tables x e → e < 32 → IsInBounds (with_title e (record (area.title e) { state = 2 }) area) → IsUndone x e (Creation e) (record (area.title e) { state = 2 })
  is_uncreated x e uncalm owed inside bounds = record {
    name = refl;
    bounds = bounds;
    shows = uncreate_shows low site run state paged x e uncalm owed bounds;
    stands = stand_gone low (number_of (xids_of tables run.commits)) area e (record (area.title e) { state = 2 }) shown.stands refl;
    still = uncreated_still x e owed;
  }

  pub is_undropped : (x e : ℕ) → IsNotAtWork x (engine_at site run) state → OwedByUndrop tables x e → e < 32 → IsInBounds (with_title e (record (area.title e) { dropper = 0 }) area) → IsUndone x e (Dropping e) (record (area.title e) { dropper = 0 })
  is_undropped x e uncalm owed inside bounds =
      let item = (last_among x (DropOf x e) tables.items owed).0 in
      let its = paged.sound.names.drops x e item in record {
        name = refl;
        bounds = bounds;
        shows = undrop_shows low site run state paged x e uncalm owed bounds;
        stands = stand_drop low (number_of (xids_of tables run.commits)) area e (record (area.title e) { dropper = 0 }) shown.stands its.0 refl refl (nobody_none tables run.commits)
            (subst (λ d. number_of (xids_of tables run.commits) d ≡ None) (sym its.1) (open_number low site run state paged x (listed_open tables x (inl (item_open site.counted tables area paged.sound x e (inr item))))));
        still = undropped_still x e owed;
      }

  module _ (x e : ℕ) (w : Wanted) (u : Title) (undone : IsUndone x e w u) where
    names_same : (y f : ℕ) → IsSchemaItem y f tables.items → ((with_title e u area).title f).name ≡ (area.title f).name
    names_same y f item = titled_name area e u undone.name f

    -- within a rollback: its own
    pub shown_undone : (s : ℕ) (a : SessionHeld) → find nat_cmp s run.sessions ≡ Some a → a.me ≡ x → IsShown low (undone_site e w u) scene
    shown_undone s a at mine = record {
      paged = undone.shows;
      holds = holds_less tables.items area.title run.sessions state shown.holds (left_out w tables.items) (with_title e u area).title s a at (fewer_items w)
          (λ y f apart item. ⊎_elim (λ there. there) (λ gone. absurd (apart (gone.0 ∙ sym mine))) (undone.still y f item)) names_same;
      stands = undone.stands;
    }

    -- recovery: the name has other items of nobody's
    pub shown_less : (z g : ℕ) → IsSchemaItem z g (left_out w tables.items) → (area.title g).name ≡ (area.title e).name → IsNoSessions run.sessions z → IsShown low (undone_site e w u) scene
    shown_less z g item is nobodys = record {
      paged = undone.shows;
      holds = holds_fewer tables.items area.title run.sessions state shown.holds (left_out w tables.items) (with_title e u area).title (area.title e).name z g (fewer_items w)
          (λ y f item. ⊎_elim (λ there. inl there) (λ gone. inr (ap (λ h. (area.title h).name) gone.1)) (undone.still y f item)) names_same item is nobodys;
      stands = undone.stands;
    }

    -- recovery: it was the last one of the name, which is released
    pub shown_released : ((y f : ℕ) → IsSchemaItem y f (left_out w tables.items) → (area.title f).name ≡ (area.title e).name → ⊥)
        → IsShown low (undone_site e w u) (record scene { state = record state { stuck = without_name (area.title e).name state.stuck } })
    shown_released last = record {
      paged = release_turn low (undone_site e w u) run state undone.shows (without_name (area.title e).name state.stuck);
      holds = holds_freed tables.items area.title run.sessions state shown.holds (left_out w tables.items) (with_title e u area).title (area.title e).name (fewer_items w)
          (λ y f item. ⊎_elim (λ there. inl there) (λ gone. inr (ap (λ h. (area.title h).name) gone.1)) (undone.still y f item)) names_same last;
      stands = undone.stands;
    }

  -- ---- the cleaner on the catalog

  -- a dropped table is dead, once its drop is seen by all
  pub shown_dead : (passes : ℕ → Bool) (mark e : ℕ) → ((d : ℕ) → passes d ≡ (is_committed_in tables d && nat_lt d mark)) → IsOld (number_of (xids_of tables run.commits)) low passes
      → OwedByDying passes tables area e → IsInBounds (with_title e (record (area.title e) { state = 2 }) area)
      → IsShown low (record site { area = with_title e (record (area.title e) { state = 2 }) area }) scene
  shown_dead passes mark e is old owed bounds = record {
    paged = dying_shows low site run state paged passes mark e is old owed bounds;
    holds = holds_same tables.items area.title run.sessions state shown.holds tables.items (with_title e (record (area.title e) { state = 2 }) area).title (same_items tables.items)
        (λ y f item. titled_name area e (record (area.title e) { state = 2 }) refl f);
    stands = stand_gone low (number_of (xids_of tables run.commits)) area e (record (area.title e) { state = 2 }) shown.stands refl;
  }

  -- a dead entry is freed
  pub shown_freed : (new : Area) (e : ℕ) (title : Title) → OwedByFreeing area e → title.state ≡ 0 → ChangesEntry e title no_pages area new → IsInBounds new → IsShown low (record site { area = new }) scene
  shown_freed new e title owed free changes bounds = record {
    paged = freed_shows low site run state paged new e title owed free changes bounds;
    holds = holds_same tables.items area.title run.sessions state shown.holds tables.items new.title (same_items tables.items)
        (λ y f item. ap (λ (v : Title). v.name) (changes.titles f ∙ title_apart area e title f (λ is. false≢true (sym (ap (λ n. n == 1) owed.dead) ∙ ap (λ g. is_live (area.title g)) (sym is) ∙ live_one y f item))));
    stands = subst (λ l. NamesStand low (number_of (xids_of tables run.commits)) l) (sym titles) (stand_gone low (number_of (xids_of tables run.commits)) area e title shown.stands (ap (λ n. n == 1) free));
  }
    where
      titles : new.title ≡ (with_title e title area).title
      titles = λ i f. changes.titles f i

      live_one : (y f : ℕ) → IsSchemaItem y f tables.items → is_live (area.title f) ≡ true
      live_one y f item = ⊎_elim (λ c. (paged.sound.names.creates y f c).0) (λ d. (paged.sound.names.drops y f d).0) item

  -- ---- the cleaner on rows and pages, and undo on pages: titles, and items of tables, are as they were

  pub shown_trimmed : (passes : ℕ → Bool) → IsOld (number_of (xids_of tables run.commits)) low passes → (e : ℕ) (at : Place) (way : Trimming) → OwedByTrim passes tables area e at way → IsInBounds (trimmed_at at way area) → IsShown low (record site { area = trimmed_at at way area }) scene
  shown_trimmed passes old e at way owed bounds = shown_still (trimmed_at at way area) tables (record { next = refl; opens = refl; aborted = refl }) (same_items tables.items) refl (trim_shows low site run state paged passes old e at way owed bounds)

  pub shown_cut : (passes : ℕ → Bool) → IsOld (number_of (xids_of tables run.commits)) low passes → (e : ℕ) (at q : Place) → OwedByCut passes area e at q → IsInBounds (cut_at q area) → IsShown low (record site { area = cut_at q area }) scene
  shown_cut passes old e at q owed bounds = shown_still (cut_at q area) tables (record { next = refl; opens = refl; aborted = refl }) (same_items tables.items) refl (cut_shows low site run state paged passes old e at q owed bounds)

  pub shown_unlinked : (p e bucket : ℕ) → OwedByUnlink tables area p e bucket → IsInBounds (with_firsts e (with_bucket bucket (area.header p).next (area.firsts e)) area)
      → IsShown low (record site { tables = with_item (FreeOf p) tables; area = with_firsts e (with_bucket bucket (area.header p).next (area.firsts e)) area }) scene
  shown_unlinked p e bucket owed bounds = shown_still (with_firsts e (with_bucket bucket (area.header p).next (area.firsts e)) area) (with_item (FreeOf p) tables) (record { next = refl; opens = refl; aborted = refl }) (free_items p tables.items) refl
      (unlink_shows low site run state paged p e bucket owed bounds)

  -- ---- the low mark

  -- the low number can be one at which everyone sees what is below the low mark: what a Trim wants
  pub shown_marked : (higher : ℕ) × IsShown higher site scene × PassOld higher (λ x. is_committed_in site.tables x && nat_lt x (mark_of (engine_at site run))) site scene
  shown_marked =
      let now = mark_turn low site run state paged in
      ⊎_elim
      (λ lt. (low, shown, λ x passes. let its = now.2 x passes in (its.0, its.1, below its.0 now.0 its.2 lt)))
      (λ le. (now.0, shown_raised now.0 le now.1, now.2)) (cases_lt now.0 low)
    where
      below : (k higher : ℕ) → k ≤ higher → higher < low → k ≤ low
      below k higher le lt = omega (arith, le, lt)
