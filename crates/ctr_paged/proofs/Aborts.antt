-- Abort, of a session and by recovery's undo, and Forget: one mark, and what has no version left goes.
use Rattle.std.proofs.Common.{◌≡◌, inl, inr, ℕ, ◌<◌, Bool, true, false, cond, List, [], ◌∷◌, ◌++◌, drop, Some, None, refl, sym, ◌∙◌, ap, subst}
use Rattle.std.specs.Prelude.{is_some, ◌&&◌, nat_eq}
use Rattle.std.specs.List.{AllByRecursion, flat_map}
use Rattle.std.specs.Ordering.{nat_cmp}
use Rattle.std.specs.FinMap.Entries.{find}
use Rattle.std.proofs.lemmas.Bool.{false≢true, true≢false, eq-eqb, eqb-true}
use Rattle.ctr_model.specs.declared.state.State.{State}
use Rattle.ctr_model.specs.declared.state.Transaction.{Transaction}
use Rattle.ctr_model.specs.Maps.{without}
use Rattle.ctr_model.specs.State.{without_transaction}
use Rattle.ctr_snap.specs.Seeing.{has}
use Rattle.ctr_versions.proofs.Keys.{known}
use Rattle.ctr_versions.specs.Xids.{Xids, number_of, aborted, forgotten, AreSound}
use Rattle.ctr_versions.specs.Versions.{IsOrdered}
use Rattle.ctr_versions.specs.Engine.{SessionHeld, EngineHeld, IsBy, AreBy, ShowsState}
use Rattle.ctr_versions.specs.Steps.{engine_forgotten}
use Rattle.ctr_versions.proofs.Steps.{rollback_step}
use Rattle.ctr_versions.proofs.Forgetting.{forget_step}
use Rattle.ctr_versions.proofs.Xids.{has_here, aborted_numbers, aborted_sound, forgotten_apart}
use Rattle.ctr_actions.specs.meta_Tables.{Tables, is_in, heads_in}
use Rattle.ctr_actions.specs.meta_Effects.{rolled_back, forgotten_by}
use Rattle.ctr_actions.specs.area_Areas.{Area}
use Rattle.ctr_actions.specs.area_Chains.{slot_places, chain_of}
use Rattle.ctr_actions.specs.area_Images.{is_committed_in, is_live, versions_in, entry_numbers}
use Rattle.ctr_actions.specs.area_Sound.{IsAmong, AreAllOnce, is_headed_by, head_count, xids_in, IsSoundArea, IsSchemaItem}
use Rattle.ctr_rec.specs.declared.record.SlogItem.TheVariants.{CreateOf, DropOf}
use Rattle.ctr_actions.specs.record_laws_Owed.{OwedByAbort}
use Rattle.ctr_names.proofs.record_laws_Begin.{xids_append}
use Rattle.ctr_names.proofs.record_laws_Abort.{abort_sound}
use Rattle.ctr_names.proofs.record_laws_Forget.{forget_sound, dropper_not}
use Rattle.ctr_names.proofs.record_laws_Leaving.{among_without}
use Rattle.ctr_actions.specs.record_laws_Bounds.{IsInBounds}
use Rattle.ctr_names.proofs.record_laws_Heads.{listed_drawn, listed_open}
use Rattle.ctr_actions.proofs.record_laws_Members.{all_each, all_parts}
use Rattle.ctr_actions.proofs.record_laws_Owned.{slot_inside, in_all}
use Rattle.ctr_actions.proofs.record_laws_Xids.{among_in, in_among, not_both, once_parts, tells, looked_up}
use Rattle.ctr_actions.specs.Sites.{Site}
use Rattle.ctr_versions.proofs.Undoing.{orphan_step}
use Rattle.ctr_paged.specs.Paged.{Run, xids_of, engine_at, AreDropsNewer, AreSnapshotsEarlier, AreModelled, ShowsPaged}
use Rattle.ctr_paged.proofs.Carry.{open_some, drops_kept, drops_same, modelled_without}
use Rattle.ctr_paged.proofs.Fates.{minus_push, without_minus, none_count, drops_fewer, earlier_fewer}
use Rattle.ctr_names.proofs.Agree.{abort_same, forget_same}
use Rattle.ctr_names.proofs.Names.{names_here}
use Rattle.ctr_paged.proofs.Rows.{theirs}
use Rattle.ctr_names.proofs.Chains.{AreAllBy, name_by}
use Rattle.ctr_paged.proofs.Tables.{has_in, agree}
use Rattle.ctr_names.proofs.Rows.{row_chain}
use Rattle.ctr_names.proofs.Whole.{maker_is}

-- ---- no version is by one that has no head and no item

module _ (counted : ℕ) (tables : Tables) (area : Area) (x : ℕ) (sound : IsSoundArea counted tables area) (bounds : IsInBounds area) (open_ : is_committed_in tables x ≡ false)
    (headless : head_count area x ≡ 0) (itemless : (f : ℕ) → IsAmong x (xids_in tables.opens) → IsSchemaItem x f tables.items → ⊥) (some : 0 < tables.next) where
  pub unused : (test : ℕ → Bool) → AreBy (λ y. y ≡ x → ⊥) (versions_in test area)
  unused test = record {
    names = λ name. subst (AreAllBy (λ y. y ≡ x → ⊥)) (sym (names_here test area name))
        (name_by (λ y. y ≡ x → ⊥) test area.title name (λ f lt alive is. maker_is counted tables area sound some (λ y. y ≡ x → ⊥) not_committed
        (λ y g in_ item same. itemless g (subst (λ z. IsAmong z (xids_in tables.opens)) same in_) (subst (λ z. IsSchemaItem z g tables.items) same item)) f lt alive));
    rows = λ id key. row_chain (AllByRecursion (IsBy (λ y. y ≡ x → ⊥))) test area id key tt (λ at used. (
      λ same. false≢true (sym (none_count (is_headed_by area.slot x) (flat_map (slot_places area) entry_numbers) at headless (in_all area bounds (slot_places area) at id (slot_inside area bounds id at used.0) used.0))
          ∙ (λ i. used.1 i && eq-eqb (area.slot at).head.0 x same i)),
      all_each (drop 1 (chain_of area.older (area.slot at))) (λ v is. not_committed v.0 is) (sound.behind id at used).1,
    ));
  }
    where
      not_committed : (y : ℕ) → is_committed_in tables y ≡ true → y ≡ x → ⊥
      not_committed y is same = false≢true (sym open_ ∙ ap (is_committed_in tables) (sym same) ∙ is)

module _ (low : ℕ) (site : Site) (run : Run) (state : State) (paged : ShowsPaged low site run state) where
  abbrev xids : Xids
  xids = xids_of site.tables run.commits

  abbrev engine : EngineHeld
  engine = engine_at site run

  live_once : AreAllOnce (xids_in site.tables.opens)
  live_once = (once_parts (xids_in site.tables.opens) (xids_in site.tables.aborted) paged.sound.below.once).0

  -- the heads of a listed transaction
  pub heads_told : (x : ℕ) → is_in x site.tables.opens ≡ true → heads_in x site.tables.opens ≡ head_count site.area x
  heads_told x is = looked_up (head_count site.area) x site.tables.opens is (tells (head_count site.area) site.tables.opens (all_parts (λ (p : ℕ × ℕ). p.1 ≡ head_count site.area p.0) site.tables.opens site.tables.aborted paged.sound.counts).0)

  pub aborted_told : (x : ℕ) → is_in x site.tables.aborted ≡ true → heads_in x site.tables.aborted ≡ head_count site.area x
  aborted_told x is = looked_up (head_count site.area) x site.tables.aborted is (tells (head_count site.area) site.tables.aborted (all_parts (λ (p : ℕ × ℕ). p.1 ≡ head_count site.area p.0) site.tables.opens site.tables.aborted paged.sound.counts).1)

  -- ---- Forget

  pub forget_shows : (x : ℕ) → is_in x site.tables.aborted ≡ true → heads_in x site.tables.aborted ≡ 0 → ShowsPaged low (record site { tables = forgotten_by x site.tables }) run state
  forget_shows x gone headless = record {
    bounds = paged.bounds;
    few = paged.few;
    sound = forget_sound site.counted site.tables site.area x paged.sound gone;
    some = paged.some;
    shows = subst (λ (e : EngineHeld). ShowsState low e state) (sym same_) (forget_step low engine state x paged.shows has_x none);
    drops = drops_kept site.tables now site.area.title site.area.title run.sessions (open_some site.counted now site.area (forget_sound site.counted site.tables site.area x paged.sound gone)) (λ y is. is) (λ f lt alive is. sym (dropper_same f lt alive) ∙ is) (drops_same site.area.title) paged.drops;
    earlier = paged.earlier;
    modelled = paged.modelled;
    ordered = paged.ordered;
  }
    where
      now : Tables
      now = forgotten_by x site.tables

      has_x : has x xids.aborted ≡ true
      has_x = has_in x site.tables.aborted ∙ gone

      x_open : is_committed_in site.tables x ≡ false
      x_open = listed_open site.tables x (inr gone)

      x_some : 0 < x
      x_some = (listed_drawn site.tables.next site.area site.tables paged.sound.below x (inr gone)).0

      never_live : IsAmong x (xids_in site.tables.opens) → ⊥
      never_live in_ = not_both (xids_in site.tables.opens) (xids_in site.tables.aborted) x paged.sound.below.once in_ (in_among x site.tables.aborted gone)

      none : AreBy (λ y. y ≡ x → ⊥) engine.versions
      none = unused site.counted site.tables site.area x paged.sound paged.bounds x_open (sym (aborted_told x gone) ∙ headless) (λ f in_ item. never_live in_) paged.some (is_committed_in site.tables)

      new_xids : xids_of now run.commits ≡ forgotten x xids
      new_xids = λ i. record { next = site.tables.next; live = xids_in site.tables.opens; aborted = without_minus x site.tables.aborted (once_parts (xids_in site.tables.opens) (xids_in site.tables.aborted) paged.sound.below.once).1 i; commits = run.commits }

      test_same : (y : ℕ) → (y ≡ x → ⊥) → is_committed_in now y ≡ is_committed_in site.tables y
      test_same y apart = sym (agree now run.commits y) ∙ ap (λ (xs : Xids). is_some (number_of xs y)) new_xids ∙ ap is_some (forgotten_apart xids paged.shows.sound x has_x y apart) ∙ agree site.tables run.commits y

      dropper_same : (f : ℕ) → f < 32 → is_live (site.area.title f) ≡ true → is_committed_in now (site.area.title f).dropper ≡ is_committed_in site.tables (site.area.title f).dropper
      dropper_same f lt alive = test_same (site.area.title f).dropper (dropper_not site.counted site.tables site.area x paged.sound x_open x_some (λ e in_ item. never_live in_) f lt alive)

      same_ : engine_at (record site { tables = now }) run ≡ engine_forgotten x engine
      same_ = λ i. record { xids = new_xids i; versions = forget_same site.counted site.tables site.area paged.sound x gone i; sessions = run.sessions; answered = run.answered }

  -- ---- Abort

  module _ (x : ℕ) (owed : OwedByAbort site.tables x) where
    abbrev now : Tables
    now = rolled_back x site.tables

    abbrev heads : ℕ
    heads = heads_in x site.tables.opens

    x_open : is_committed_in site.tables x ≡ false
    x_open = listed_open site.tables x (inl owed.is_open)

    x_some : 0 < x
    x_some = open_some site.counted site.tables site.area paged.sound x owed.is_open

    pub x_live : has x xids.live ≡ true
    x_live = has_in x site.tables.opens ∙ owed.is_open

    not_gone : IsAmong x (xids_in site.tables.aborted) → ⊥
    not_gone in_ = not_both (xids_in site.tables.opens) (xids_in site.tables.aborted) x paged.sound.below.once (in_among x site.tables.opens owed.is_open) in_

    no_item : (f : ℕ) → IsSchemaItem x f site.tables.items → ⊥
    no_item f (inl in_) = true≢false (sym (eq-eqb x x refl) ∙ owed.none (CreateOf x f) in_)
    no_item f (inr in_) = true≢false (sym (eq-eqb x x refl) ∙ owed.none (DropOf x f) in_)

    has_now : has x (aborted x xids).aborted ≡ true
    has_now = has_here x (xids_in site.tables.aborted)

    -- with heads it is in the map; without it is forgotten at once
    xids_heads : nat_eq heads 0 ≡ false → xids_of now run.commits ≡ aborted x xids
    xids_heads some = λ i. record {
      next = site.tables.next;
      live = without_minus x site.tables.opens live_once i;
      aborted = (ap (λ b. xids_in (cond b site.tables.aborted (site.tables.aborted ++ (x, heads) ∷ []))) some ∙ xids_append site.tables.aborted ((x, heads) ∷ [])) i;
      commits = run.commits;
    }

    xids_none : nat_eq heads 0 ≡ true → xids_of now run.commits ≡ forgotten x (aborted x xids)
    xids_none none = λ i. record {
      next = site.tables.next;
      live = without_minus x site.tables.opens live_once i;
      aborted = (ap (λ b. xids_in (cond b site.tables.aborted (site.tables.aborted ++ (x, heads) ∷ []))) none ∙ sym (minus_push x (xids_in site.tables.aborted) not_gone)) i;
      commits = run.commits;
    }

    marked_sound : AreSound (aborted x xids)
    marked_sound = aborted_sound xids paged.shows.sound x x_live

    number_same : (y : ℕ) → (y ≡ x → ⊥) → number_of (xids_of now run.commits) y ≡ number_of xids y
    number_same y apart = known (nat_eq heads 0)
        (λ none. ap (λ (xs : Xids). number_of xs y) (xids_none none) ∙ forgotten_apart (aborted x xids) marked_sound x has_now y apart ∙ aborted_numbers xids paged.shows.sound x x_live y)
        (λ some. ap (λ (xs : Xids). number_of xs y) (xids_heads some) ∙ aborted_numbers xids paged.shows.sound x x_live y)

    test_same : (y : ℕ) → (y ≡ x → ⊥) → is_committed_in now y ≡ is_committed_in site.tables y
    test_same y apart = sym (agree now run.commits y) ∙ ap is_some (number_same y apart) ∙ agree site.tables run.commits y

    dropper_same : (f : ℕ) → f < 32 → is_live (site.area.title f) ≡ true → is_committed_in now (site.area.title f).dropper ≡ is_committed_in site.tables (site.area.title f).dropper
    dropper_same f lt alive = test_same (site.area.title f).dropper (dropper_not site.counted site.tables site.area x paged.sound x_open x_some (λ e in_ item. no_item e (inr item)) f lt alive)

    same_versions : versions_in (is_committed_in now) site.area ≡ versions_in (is_committed_in site.tables) site.area
    same_versions = abort_same site.counted site.tables site.area paged.sound x owed

    -- what is marked in the engine of versions is the engine with the new tables
    abort_engine : (sessions : List (ℕ × SessionHeld)) (next : State) → ShowsState low (record engine { xids = aborted x xids; sessions = sessions }) next
        → ShowsState low (engine_at (record site { tables = now }) (record run { sessions = sessions })) next
    abort_engine sessions next shows = known (nat_eq heads 0)
        (λ none. subst (λ (e : EngineHeld). ShowsState low e next) (sym (λ i. record { xids = xids_none none i; versions = same_versions i; sessions = sessions; answered = run.answered }))
        (forget_step low (record engine { xids = aborted x xids; sessions = sessions }) next x shows has_now
        (unused site.counted site.tables site.area x paged.sound paged.bounds x_open (sym (heads_told x owed.is_open) ∙ eqb-true heads 0 none) (λ f in_ item. no_item f item) paged.some (is_committed_in site.tables))))
        (λ some. subst (λ (e : EngineHeld). ShowsState low e next) (sym (λ i. record { xids = xids_heads some i; versions = same_versions i; sessions = sessions; answered = run.answered })) shows)

    abort_paged : (sessions : List (ℕ × SessionHeld)) (next : State) → ShowsState low (record engine { xids = aborted x xids; sessions = sessions }) next
        → AreDropsNewer site.tables sessions site.area.title → AreSnapshotsEarlier sessions → AreModelled sessions next.sessions → next.base ≡ state.base → next.asked ≡ state.asked
        → ShowsPaged low (record site { tables = now }) (record run { sessions = sessions }) next
    abort_paged sessions next shows drops earlier modelled base same_asked = record {
      bounds = paged.bounds;
      few = paged.few;
      sound = abort_sound site.counted site.tables site.area x paged.sound owed;
      some = paged.some;
      shows = abort_engine sessions next shows;
      drops = drops_kept site.tables now site.area.title site.area.title sessions (open_some site.counted now site.area (abort_sound site.counted site.tables site.area x paged.sound owed)) (λ y is. among_in y site.tables.opens (among_without x y site.tables.opens (in_among y now.opens is)))
          (λ f lt alive is. sym (dropper_same f lt alive) ∙ is) (drops_same site.area.title) drops;
      earlier = earlier;
      modelled = modelled;
      ordered = subst IsOrdered (sym base) paged.ordered;
    }

    -- a session's rollback ends
    pub abort_shows : (s : ℕ) (session : SessionHeld) (t : Transaction) → find nat_cmp s run.sessions ≡ Some session → find nat_cmp s state.sessions ≡ Some t → t.asked ≡ None → session.me ≡ x
        → ShowsPaged low (record site { tables = now }) (record run { sessions = without nat_cmp s run.sessions }) (without_transaction s state)
    abort_shows s session t at is_t unasked mine =
        let rest = without nat_cmp s run.sessions in
        abort_paged rest (without_transaction s state)
        (subst (λ y. ShowsState low (record engine { xids = aborted y xids; sessions = rest }) (without_transaction s state)) mine
        (rollback_step low engine state s session t paged.shows at (theirs low site run state paged s session t at is_t) unasked (subst (λ y. 0 < y) (sym mine) x_some)))
        (drops_fewer s site.tables site.area.title run.sessions paged.drops) (earlier_fewer s run.sessions paged.earlier) (modelled_without s run.sessions state.sessions paged.modelled) refl refl

    -- recovery's undo ends one that no session has
    pub orphan_shows : ((s : ℕ) (b : SessionHeld) → find nat_cmp s run.sessions ≡ Some b → b.me ≡ x → ⊥) → ShowsPaged low (record site { tables = now }) run state
    orphan_shows nobodys = abort_paged run.sessions state (orphan_step low engine state x paged.shows x_live nobodys) paged.drops paged.earlier paged.modelled refl refl
