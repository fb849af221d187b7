-- Records on the catalog: a table is made, dropped, comes back, is dead, and is freed.
use Rattle.std.proofs.Common.{◌≡◌, ◌⊎◌, ⊎_elim, inl, inr, ℕ, ◌<◌, ◌==◌, ℤ, Bool, true, false, cond, List, [], ◌∷◌, Option, Some, None, refl, sym, ◌∙◌, ap, ◌≤◌, zero, suc, not, subst, arith}
use Rattle.std.specs.List.{AllByRecursion}
use Rattle.std.specs.Ordering.{nat_cmp}
use Rattle.std.specs.FinMap.Entries.{find}
use Rattle.std.proofs.lemmas.Bool.{false≢true, ne_eqb, eq-eqb, eqb-true, and_parts, ltb-true, le-leb, cases_lt, true≢false}
use Rattle.ctr_types.specs.declared.value.Column.{Column}
use Rattle.ctr_model.specs.declared.state.State.{State}
use Rattle.ctr_model.specs.declared.state.Transaction.{Transaction}
use Rattle.ctr_model.specs.State.{with_transaction, same_name}
use Rattle.ctr_versions.proofs.Keys.{known, some_is}
use Rattle.ctr_versions.specs.Chains.{Numbers, value_seen, by, written_by, is_by, changed_since, IsChangeTold, AllTold}
use Rattle.ctr_versions.specs.Changes.{write, IsOld}
use Rattle.ctr_versions.specs.Xids.{number_of, fate_of, is_before}
use Rattle.ctr_versions.specs.Versions.{IsUnmadeTable, Made, name_written, names_at, rows_of, NamesSet, schemas}
use Rattle.ctr_versions.specs.Engine.{SessionHeld, EngineHeld, IsCalm, ShowsSession, IsSeenIfOld}
use Rattle.ctr_versions.specs.Laws.{with_own}
use Rattle.ctr_versions.proofs.Cleaning.{name_step}
use Rattle.ctr_versions.proofs.Steps.{not_mine}
use Rattle.ctr_rec.specs.declared.record.SlogItem.TheVariants.{CreateOf, DropOf}
use Rattle.ctr_actions.specs.meta_Tables.{Tables}
use Rattle.ctr_actions.specs.meta_Effects.{with_item, without_item}
use Rattle.ctr_actions.specs.area_Areas.{Title, Area, no_pages}
use Rattle.ctr_actions.specs.area_Changes.{ChangesEntry, new_title, empty_chains, with_title}
use Rattle.ctr_actions.specs.area_Images.{made_by_entry, is_committed_in, is_live, versions_in, name_chain, is_named_so}
use Rattle.ctr_actions.specs.area_Sound.{IsSchemaItem, IsSoundArea, IsAmong, xids_in}
use Rattle.ctr_actions.specs.record_laws_Bounds.{IsInBounds}
use Rattle.ctr_actions.proofs.record_laws_Xids.{in_among}
use Rattle.ctr_actions.specs.record_laws_Owed.{OwedByCreate, OwedByDrop, OwedByUncreate, OwedByUndrop, OwedByDying, OwedByFreeing}
use Rattle.ctr_names.proofs.record_laws_Create.{create_sound}
use Rattle.ctr_actions.proofs.Latest.{last_among}
use Rattle.ctr_actions.specs.Sites.{Site}
use Rattle.ctr_paged.specs.Paged.{Run, xids_of, engine_at, ShowsPaged}
use Rattle.ctr_paged.proofs.Carry.{open_some, AreDropsKept, paged_moved, modelled_put, same_tables, paged_same}
use Rattle.ctr_names.proofs.Making.{open_number as number_of_open, number_open, create_set, create_unmade, drop_set}
use Rattle.ctr_names.proofs.Names.{names_here}
use Rattle.ctr_paged.proofs.Rows.{theirs}
use Rattle.ctr_names.proofs.Chains.{Version, AreAllBy, name_by, entries_in}
use Rattle.ctr_paged.proofs.Tables.{agree}
use Rattle.std.specs.Prelude.{is_some, unwrap_or, ◌&&◌, nat_lt}
use Rattle.ctr_snap.specs.Seeing.{has, is_committed}
use Rattle.ctr_versions.proofs.Written.{same_itself}
use Rattle.ctr_versions.specs.Keys.{schema_writes}
use Rattle.ctr_names.proofs.record_laws_Heads.{listed_open}
use Rattle.ctr_names.proofs.record_laws_Drop.{drop_sound}
use Rattle.ctr_names.proofs.record_laws_Latest.{title_here, title_apart, live_open}
use Rattle.ctr_versions.proofs.Undoing.{of_schemas, head_goes, head_changes, chain_step}
use Rattle.ctr_names.specs.meta_Wanted.{Wanted}
use Rattle.ctr_names.specs.meta_Wanted.TheVariants.{Creation, Dropping}
use Rattle.ctr_names.proofs.record_laws_Uncreate.{uncreate_sound}
use Rattle.ctr_names.proofs.record_laws_Undrop.{undrop_sound}
use Rattle.ctr_names.proofs.Unmaking.{uncreate_takes, undrop_takes}
use Rattle.ctr_names.specs.Shape.{LosesOwn, below_in}
use Rattle.ctr_versions.specs.Undoing.{IsNotAtWork, HasUndoneHead, IsWorking}
use Rattle.ctr_names.proofs.record_laws_Entry.{dying_sound, freeing_sound}
use Rattle.ctr_names.proofs.Agree.{freed_same}
use Rattle.ctr_names.proofs.Dying.{dying_set, dying_same}

written_apart : {V : Type 0} (y : ℕ) (ws : List (ℕ × Option V)) → AllByRecursion (λ (v : ℕ × Option V). y ≡ v.0 → ⊥) ws → written_by y ws ≡ None
written_apart y [] all = refl
written_apart y (w ∷ ws) all = ap (λ b. cond b (Some w.1) None) (ne_eqb y w.0 all.0)

module _ (low : ℕ) (site : Site) (run : Run) (state : State) (paged : ShowsPaged low site run state) where
  abbrev committed : ℕ → Bool
  committed = is_committed_in site.tables

  abbrev engine : EngineHeld
  engine = engine_at site run

  abbrev number : Numbers
  number = number_of (xids_of site.tables run.commits)

  pub open_number : (x : ℕ) → committed x ≡ false → number x ≡ None
  open_number = number_of_open site.counted site.tables site.area paged.sound number (agree site.tables run.commits)

  -- Who made or dropped a table of the name is committed, or the one who has the name.
  pub by_owner : (x : ℕ) (name : List ℕ) → ((y f : ℕ) → IsSchemaItem y f site.tables.items → (site.area.title f).name ≡ name → y ≡ x) → AreAllBy (λ y. (committed y ≡ true) ⊎ (y ≡ x)) (name_chain committed site.area.title name)
  by_owner x name mine = name_by (λ y. (committed y ≡ true) ⊎ (y ≡ x)) committed site.area.title name (λ f lt alive is. (
    ⊎_elim (λ c. inl c) (λ its. inr (mine (site.area.title f).creator f (inl its.1) is)) (paged.sound.names.creators f lt alive),
    ⊎_elim (λ z. inl z) (λ more. inr (⊎_elim (λ c. inl c) (λ its. inr (mine (site.area.title f).dropper f (inr its.1) is)) more)) (paged.sound.names.droppers f lt alive),
  ))

  -- nobody else has written the name
  pub name_free : (x : ℕ) (name : List ℕ) → ((y f : ℕ) → IsSchemaItem y f site.tables.items → (site.area.title f).name ≡ name → y ≡ x) → (y : ℕ) → committed y ≡ false → (y ≡ x → ⊥) → written_by y (names_at engine.versions name) ≡ None
  name_free x name mine y open_ apart = ap (written_by y) (names_here committed site.area name) ∙ written_apart y (name_chain committed site.area.title name) (each (name_chain committed site.area.title name) (by_owner x name mine))
    where
      each : (ws : List Version) → AreAllBy (λ y. (committed y ≡ true) ⊎ (y ≡ x)) ws → AllByRecursion (λ (v : Version). y ≡ v.0 → ⊥) ws
      each [] all = tt
      each (w ∷ ws) all = ((λ same. ⊎_elim (λ c. false≢true (sym open_ ∙ ap committed same ∙ c)) (λ is. apart (same ∙ is)) all.0), each ws all.1)

  module _ (s : ℕ) (session : SessionHeld) (t : Transaction) (at : find nat_cmp s run.sessions ≡ Some session) (is_t : find nat_cmp s state.sessions ≡ Some t) (unasked : t.asked ≡ None) where
    abbrev x : ℕ
    x = session.me

    pub mine_shown : ShowsSession low state.answered engine.xids engine.versions session t
    mine_shown = theirs low site run state paged s session t at is_t

    pub others_free : (name : List ℕ) → (0 < x) → ((y f : ℕ) → IsSchemaItem y f site.tables.items → (site.area.title f).name ≡ name → y ≡ x) → (r : ℕ) (u : Transaction) (b : SessionHeld) → (r == s) ≡ false → find nat_cmp r state.sessions ≡ Some u → find nat_cmp r run.sessions ≡ Some b → IsCalm b u
        → written_by b.me (names_at engine.versions name) ≡ None
    others_free name some mine r u b apart at_r at_b calm = name_free x name mine b.me
        (number_open site.counted site.tables site.area paged.sound number (agree site.tables run.commits) b.me ((theirs low site run state paged r b u at_b at_r).wrote calm).is_open)
        (λ same. not_mine low engine state s session t paged.shows at mine_shown unasked some r b apart at_b same)

    -- ---- Create

    pub create_shows : (new : Area) (e : ℕ) (name : List ℕ) (columns : List Column) → OwedByCreate site.tables site.area x e name → ChangesEntry e (new_title x name columns) empty_chains site.area new → IsInBounds new
        → ShowsPaged low (record site { tables = with_item (CreateOf x e) site.tables; area = new }) run (with_transaction s (with_own (name_written name (Some (made_by_entry (e, new_title x name columns)))) t) state)
    create_shows new e name columns owed changes bounds =
        paged_moved low site run state paged new (with_item (CreateOf x e) site.tables) next bounds (create_sound site.counted site.tables site.area x e name columns paged.sound owed paged.bounds new changes)
        (record { next = refl; opens = refl; aborted = refl }) kept
        (name_step low engine state s session t paged.shows at mine_shown unasked some (versions_in committed new) name (Some made) set empty unseen (others_free name some owed.alone))
        (modelled_put s (with_own (name_written name (Some made)) t) run.sessions state.sessions paged.modelled) refl refl
      where
        title : Title
        title = new_title x name columns

        made : Made
        made = made_by_entry (e, title)

        next : State
        next = with_transaction s (with_own (name_written name (Some made)) t) state

        some : 0 < x
        some = open_some site.counted site.tables site.area paged.sound x owed.is_open

        kept : AreDropsKept site.area.title new.title
        kept f lt alive = known (f == e)
            (λ is. inr (ap (λ (u : Title). u.dropper) (changes.titles f) ∙ ap (λ b. (cond b title (site.area.title f)).dropper) is))
            (λ isnt. let same_ = changes.titles f ∙ ap (λ b. cond b title (site.area.title f)) isnt in
            inl (ap is_live (sym same_) ∙ alive, ap (λ (u : Title). u.name) same_, ap (λ (u : Title). u.dropper) same_))

        set : NamesSet engine.versions (versions_in committed new) name (write number x (Some made) (names_at engine.versions name))
        set = create_set site.counted site.tables site.area paged.sound number (agree site.tables run.commits) x (in_among x site.tables.opens owed.is_open) new e name columns owed changes paged.bounds

        unmade : IsUnmadeTable e engine.versions
        unmade = create_unmade site.tables site.area e paged.bounds owed.inside owed.free

        empty : (m : Made) (key : ℤ) → Some made ≡ Some m → rows_of engine.versions m.id key ≡ []
        empty m key is = ap (λ (m : Made). rows_of engine.versions m.id key) (sym (some_is made m is)) ∙ unmade.rows key

        unseen : (m : Made) (j : ℕ) → Some made ≡ Some m → value_seen (by number j) (names_at engine.versions name) ≡ Some m → ⊥
        unseen m j is seen = unmade.names name m (by number j) seen (ap (λ (m : Made). m.id) (sym (some_is made m is)))

    -- ---- Drop

    -- Where nobody has changed the name since the snapshot, every committed drop of it is earlier.
    pub drops_before : (name : List ℕ) → 0 < x → session.undoing ≡ false → changed_since t.snapshot (schema_writes name state.asked) ≡ None
        → (f : ℕ) → f < 32 → is_live (site.area.title f) ≡ true → (site.area.title f).name ≡ name → committed (site.area.title f).dropper ≡ true → (site.area.title f).dropper < x
    drops_before name some calm steady f lt alive is gone = by (number d) refl
      where
        d : ℕ
        d = (site.area.title f).dropper

        named : is_named_so name (f, site.area.title f) ≡ true
        named = (λ i. alive i && same_name name (is i)) ∙ same_itself name

        -- who dropped in this run is among those that changed the name
        told : (k : ℕ) → number d ≡ Some k → t.snapshot < k → is_some (changed_since t.snapshot (schema_writes name state.asked)) ≡ true
        told = ⊎_elim
            (λ z k is lt. absurd (false≢true (ap is_some (sym (ap number z) ∙ is))))
            (λ its. its)
            (entries_in (IsChangeTold number t.snapshot (schema_writes name state.asked)) committed site.area.title name
            (of_schemas (IsChangeTold number t.snapshot (schema_writes name state.asked)) (name_chain committed site.area.title name)
            (subst (λ ws. AllTold number t.snapshot (schema_writes name state.asked) (schemas ws)) (names_here committed site.area name) ((paged.shows.stands.tables name).told t.snapshot (mine_shown.from calm)))) f lt named).1

        seen_before : is_before session.snapshot d ≡ true → d < x
        seen_before is_b =
            let next = ltb-true d session.snapshot.next (and_parts (nat_lt d session.snapshot.next) (not (has d session.snapshot.listed)) is_b).0 in
            further d session.snapshot.next x next (paged.earlier s session at some)
          where
            further : (d n x : ℕ) → d < n → n ≤ x → d < x
            further d n x a b = omega (arith, a, b)

        by : (o : Option ℕ) → number d ≡ o → d < x
        by None none = absurd (false≢true (ap is_some (sym none) ∙ agree site.tables run.commits d ∙ gone))
        by (Some zero) old = ⊎_elim
            (λ z. absurd (false≢true (sym (ap committed z) ∙ gone)))
            (λ if_old. seen_before (if_old old))
            (entries_in (IsSeenIfOld engine.xids session.snapshot) committed site.area.title name (subst (AreAllBy (IsSeenIfOld engine.xids session.snapshot)) (names_here committed site.area name) (mine_shown.old.names name)) f lt named).1
        by (Some (suc k)) new =
            let within : suc k ≤ t.snapshot = ⊎_elim
            (λ above. absurd (false≢true (ap is_some (sym steady) ∙ told (suc k) new above)))
            (λ le. le) (cases_lt t.snapshot (suc k)) in
            let sees_it = mine_shown.snapshot.sees_by d (λ old. never k (ap (λ (o : Option ℕ). unwrap_or o 0) (sym new ∙ old))) ∙ ap (λ o. is_by t.snapshot o) new ∙ le-leb (suc k) t.snapshot within in
            seen_before (and_parts (is_committed (fate_of engine.xids d)) (is_before session.snapshot d) sees_it).1
          where
            never : (k : ℕ) → suc k ≡ 0 → ⊥
            never k is = omega (arith, is)

    pub drop_shows : (e : ℕ) → OwedByDrop site.tables site.area x e → IsInBounds (with_title e (record (site.area.title e) { dropper = x }) site.area) → session.undoing ≡ false → changed_since t.snapshot (schema_writes (site.area.title e).name state.asked) ≡ None
        → ShowsPaged low (record site { tables = with_item (DropOf x e) site.tables; area = with_title e (record (site.area.title e) { dropper = x }) site.area }) run (with_transaction s (with_own (name_written (site.area.title e).name None) t) state)
    drop_shows e owed bounds calm steady = record {
      bounds = bounds;
      few = paged.few;
      sound = sound_now;
      some = paged.some;
      shows = name_step low engine state s session t paged.shows at mine_shown unasked some (versions_in committed after) name None set (λ m key is. absurd (false≢true (ap is_some is))) (λ m j is seen. false≢true (ap is_some is))
          (others_free name some owed.alone);
      drops = λ r b at_r open_ f g lt_f lt_g live_f live_g names mine gone.
          let g_apart : (g ≡ e → ⊥) = λ is. false≢true (sym (ap committed (ap (λ h. (after.title h).dropper) is ∙ ap (λ (v : Title). v.dropper) here) ∙ x_open) ∙ gone) in
          let g_same = title_apart site.area e u g g_apart in
          known (f == e)
          (λ is. let f_e = eqb-true f e is in
          let b_x : b.me ≡ x = sym mine ∙ ap (λ h. (after.title h).dropper) f_e ∙ ap (λ (v : Title). v.dropper) here in
          subst (λ y. (after.title g).dropper < y) (sym b_x) (subst (λ (v : Title). v.dropper < x) (sym g_same)
          (drops_before name some calm steady g lt_g (ap is_live (sym g_same) ∙ live_g) (ap (λ (v : Title). v.name) (sym g_same) ∙ sym names ∙ ap (λ h. (after.title h).name) f_e ∙ ap (λ (v : Title). v.name) here) (ap (λ (v : Title). committed v.dropper) (sym g_same) ∙ gone))))
          (λ isnt. let f_same = title_apart site.area e u f (λ is. false≢true (sym isnt ∙ eq-eqb f e is)) in
          subst (λ (v : Title). v.dropper < b.me) (sym g_same) (paged.drops r b at_r open_ f g lt_f lt_g (ap is_live (sym f_same) ∙ live_f) (ap is_live (sym g_same) ∙ live_g)
          (ap (λ (v : Title). v.name) (sym f_same) ∙ names ∙ ap (λ (v : Title). v.name) g_same) (ap (λ (v : Title). v.dropper) (sym f_same) ∙ mine) (ap (λ (v : Title). committed v.dropper) (sym g_same) ∙ gone)));
      earlier = paged.earlier;
      modelled = modelled_put s (with_own (name_written name None) t) run.sessions state.sessions paged.modelled;
      ordered = paged.ordered;
    }
      where
        name : List ℕ
        name = (site.area.title e).name

        u : Title
        u = record (site.area.title e) { dropper = x }

        after : Area
        after = with_title e u site.area

        now : Tables
        now = with_item (DropOf x e) site.tables

        sound_now : IsSoundArea site.counted now after
        sound_now = drop_sound site.counted site.tables site.area x e paged.sound owed

        some : 0 < x
        some = open_some site.counted site.tables site.area paged.sound x owed.is_open

        x_open : committed x ≡ false
        x_open = listed_open site.tables x (inl owed.is_open)

        here : after.title e ≡ u
        here = title_here site.area e u

        set : NamesSet engine.versions (versions_in committed after) name (write number x None (names_at engine.versions name))
        set = drop_set site.counted site.tables site.area paged.sound number (agree site.tables run.commits) x (in_among x site.tables.opens owed.is_open) e owed

  module _ (x e : ℕ) (uncalm : IsNotAtWork x engine state) where
    abbrev name : List ℕ
    name = (site.area.title e).name

    module _ (u : Title) (w : Wanted) (x_live : IsAmong x (xids_in site.tables.opens)) (its : LosesOwn x (engine.versions) (versions_in committed (with_title e u site.area)) name)
        (sound_now : IsSoundArea site.counted (without_item w site.tables) (with_title e u site.area)) (bounds : IsInBounds (with_title e u site.area)) (kept : AreDropsKept site.area.title (with_title e u site.area).title) where
      head : HasUndoneHead x its.v its.rest engine state name
      head = record { chain = its.was; is_open = open_number x (live_open site.counted site.tables site.area paged.sound x x_live); idle = uncalm }

      pub undone_shows : ShowsPaged low (record site { tables = without_item w site.tables; area = with_title e u site.area }) run state
      undone_shows = paged_moved low site run state paged (with_title e u site.area) (without_item w site.tables) state bounds sound_now (record { next = refl; opens = refl; aborted = refl }) kept
          (⊎_elim
          (λ goes. head_goes low engine state paged.shows (versions_in committed (with_title e u site.area)) name x its.v its.rest head goes)
          (λ more. head_changes low engine state paged.shows (versions_in committed (with_title e u site.area)) name x its.v its.rest head more.0 more.1) its.now)
          paged.modelled refl refl

    -- ---- Uncreate

    pub uncreate_shows : OwedByUncreate site.tables x e → IsInBounds (with_title e (record (site.area.title e) { state = 2 }) site.area)
        → ShowsPaged low (record site { tables = without_item (Creation e) site.tables; area = with_title e (record (site.area.title e) { state = 2 }) site.area }) run state
    uncreate_shows owed bounds = undone_shows u (Creation e) x_live (uncreate_takes site.counted site.tables site.area paged.sound x e owed paged.bounds) (uncreate_sound site.counted site.tables site.area x e paged.sound owed) bounds kept
      where
        u : Title
        u = record (site.area.title e) { state = 2 }

        item : IsAmong (CreateOf x e) site.tables.items
        item = (last_among x (CreateOf x e) site.tables.items owed).0

        x_live : IsAmong x (xids_in site.tables.opens)
        x_live = paged.sound.owned.creates x e item

        kept : AreDropsKept site.area.title (with_title e u site.area).title
        kept f lt alive = known (f == e)
            (λ is. absurd (true≢false (sym alive ∙ ap (λ b. is_live (cond b u (site.area.title f))) is)))
            (λ isnt. let same_ = title_apart site.area e u f (λ is. false≢true (sym isnt ∙ eq-eqb f e is)) in
            inl (ap is_live (sym same_) ∙ alive, ap (λ (v : Title). v.name) same_, ap (λ (v : Title). v.dropper) same_))

    -- ---- Undrop

    pub undrop_shows : OwedByUndrop site.tables x e → IsInBounds (with_title e (record (site.area.title e) { dropper = 0 }) site.area)
        → ShowsPaged low (record site { tables = without_item (Dropping e) site.tables; area = with_title e (record (site.area.title e) { dropper = 0 }) site.area }) run state
    undrop_shows owed bounds = undone_shows u (Dropping e) x_live (undrop_takes site.counted site.tables site.area paged.sound x e owed paged.bounds) (undrop_sound site.counted site.tables site.area x e paged.sound owed) bounds kept
      where
        u : Title
        u = record (site.area.title e) { dropper = 0 }

        item : IsAmong (DropOf x e) site.tables.items
        item = (last_among x (DropOf x e) site.tables.items owed).0

        x_live : IsAmong x (xids_in site.tables.opens)
        x_live = paged.sound.owned.drops x e item

        kept : AreDropsKept site.area.title (with_title e u site.area).title
        kept f lt alive = known (f == e)
            (λ is. inr (ap (λ b. (cond b u (site.area.title f)).dropper) is))
            (λ isnt. let same_ = title_apart site.area e u f (λ is. false≢true (sym isnt ∙ eq-eqb f e is)) in
            inl (ap is_live (sym same_) ∙ alive, ap (λ (v : Title). v.name) same_, ap (λ (v : Title). v.dropper) same_))

  -- ---- Trim

  -- A table whose drop everyone sees is dead from then on.
  pub dying_shows : (passes : ℕ → Bool) (mark e : ℕ) → ((d : ℕ) → passes d ≡ (committed d && nat_lt d mark)) → IsOld number low passes → OwedByDying passes site.tables site.area e
      → IsInBounds (with_title e (record (site.area.title e) { state = 2 }) site.area)
      → ShowsPaged low (record site { area = with_title e (record (site.area.title e) { state = 2 }) site.area }) run state
  dying_shows passes mark e is passes_old owed bounds =
      paged_moved low site run state paged after site.tables state bounds (dying_sound site.counted site.tables site.area e paged.sound passes owed) (same_tables site.tables) kept
      (chain_step low engine state paged.shows (versions_in committed after) name (names_at (versions_in committed after) name) (dying_set site.tables site.area e owed.live)
      (dying_same site.counted low mark e site.tables site.area number (λ y. IsWorking y engine state) paged.sound paged.some (agree site.tables run.commits) (subst (IsOld number low) same passes_old) (subst (λ test. OwedByDying test site.tables site.area e) same owed)))
      paged.modelled refl refl
    where
      same : passes ≡ below_in site.tables mark
      same = λ i d. is d i

      name : List ℕ
      name = (site.area.title e).name

      u : Title
      u = record (site.area.title e) { state = 2 }

      after : Area
      after = with_title e u site.area

      entry_was : (f : ℕ) → is_live (after.title f) ≡ true → after.title f ≡ site.area.title f
      entry_was f alive = known (f == e)
          (λ is. absurd (true≢false (sym alive ∙ ap (λ b. is_live (cond b u (site.area.title f))) is)))
          (λ isnt. title_apart site.area e u f (λ is. false≢true (sym isnt ∙ eq-eqb f e is)))

      kept : AreDropsKept site.area.title after.title
      kept f lt alive = let was = entry_was f alive in inl (ap is_live (sym was) ∙ alive, ap (λ (v : Title). v.name) was, ap (λ (v : Title). v.dropper) was)

  -- an entry that is dead is freed
  pub freed_shows : (new : Area) (e : ℕ) (title : Title) → OwedByFreeing site.area e → title.state ≡ 0 → ChangesEntry e title no_pages site.area new → IsInBounds new → ShowsPaged low (record site { area = new }) run state
  freed_shows new e title owed free changes bounds = paged_same low site run state paged new site.tables bounds
      (freeing_sound site.counted site.tables site.area e title free paged.sound owed new changes)
      (same_tables site.tables) kept
      (freed_same site.counted site.tables site.area new e title committed paged.sound owed free changes)
    where
      kept : AreDropsKept site.area.title new.title
      kept f lt alive = known (f == e)
          (λ is. absurd (true≢false (sym alive ∙ ap is_live (changes.titles f) ∙ ap (λ b. is_live (cond b title (site.area.title f))) is ∙ ap (λ n. n == 1) free)))
          (λ isnt. let same_ = changes.titles f ∙ ap (λ b. cond b title (site.area.title f)) isnt in
          inl (ap is_live (sym same_) ∙ alive, ap (λ (u : Title). u.name) same_, ap (λ (u : Title). u.dropper) same_))
