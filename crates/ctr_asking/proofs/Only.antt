-- Where nobody keeps a session from a name, and the table was not changed, whoever has the lock of a key of a table of the name has it in the
-- entry that the session has found.
use Rattle.std.proofs.Common.{◌≡◌, ⊎_elim, inl, ℕ, ◌<◌, ◌==◌, ℤ, true, false, cond, not, List, Option, Some, None, refl, sym, ◌∙◌, ap, subst, arith}
use Rattle.std.specs.Prelude.{nat_lt, ◌&&◌}
use Rattle.std.specs.Ordering.{nat_cmp}
use Rattle.std.specs.FinMap.Entries.{find}
use Rattle.std.proofs.lemmas.Bool.{and_parts, eq-eqb, eqb-true, false≢true, ltb-true, ne_eqb, not-true, not-false, or_left, or_parts, or_right}
use Rattle.ctr_types.specs.declared.statement.Statement.{Statement}
use Rattle.ctr_types.specs.declared.xid.Fate.TheVariants as fate
use Rattle.ctr_snap.specs.Seeing.{SnapshotTaken, is_committed, is_own, sees}
use Rattle.ctr_model.specs.State.{has_name, transaction_of, same_name}
use Rattle.ctr_model.specs.declared.state.Transaction.{Transaction}
use Rattle.ctr_model.specs.Refusals.{busy_by, changes_schema, first_session, is_busy, others}
use Rattle.ctr_versions.specs.Engine.{SessionHeld}
use Rattle.ctr_versions.specs.Versions.{Made}
use Rattle.ctr_versions.proofs.Keys.{known, some_is}
use Rattle.ctr_versions.proofs.Written.{same_itself}
use Rattle.ctr_meta.specs.Seen.{xid_is_changed, xid_is_seen}
use Rattle.ctr_meta.specs.Tables.{Tables, fate_in, is_in}
use Rattle.ctr_area.specs.Areas.{Title}
use Rattle.ctr_area.specs.Images.{is_committed_in, is_live, made_by_entry}
use Rattle.ctr_legal.proofs.Cover.{other_passes}
use Rattle.ctr_record_laws.proofs.Latest.{live_some}
use Rattle.ctr_names.specs.Held.{IsNameHeldBy}
use Rattle.ctr_names.specs.Search.{IsEntryFound}
use Rattle.ctr_names.proofs.Entries.{name_of, named_so}
use Rattle.ctr_wishes.specs.actions_Sites.{Site}
use Rattle.ctr_wishes.specs.ctr_reading.catalog_Finding.{change_made, change_since, changed_in}
use Rattle.ctr_locks.specs.Held.{held_by_session}
use Rattle.ctr_locks.specs.Shows.{IsOnlyEntry, IsTheSame}
use Rattle.ctr_wishes.proofs.views_Reading.{found_made}
use Rattle.ctr_asking.specs.declared.asker.Asker.{Asker}
use Rattle.ctr_asking.specs.Asking.{Asking, me_held, sees_for}
use Rattle.ctr_asking.proofs.Passing.{free_first, scene, viewer, firm, idle}

-- who is committed by the tables stands so
fate_committed : (tables : Tables) (x : ℕ) → is_committed_in tables x ≡ true → (0 < x) × (fate_in x tables ≡ fate.Committed)
fate_committed tables x is =
    let one = and_parts (nat_lt 0 x) (nat_lt x tables.next && (not (is_in x tables.opens) && not (is_in x tables.aborted))) is in
    let two = and_parts (nat_lt x tables.next) (not (is_in x tables.opens) && not (is_in x tables.aborted)) one.1 in
    let three = and_parts (not (is_in x tables.opens)) (not (is_in x tables.aborted)) two.1 in (
      ltb-true 0 x one.0,
      (λ i. cond (not-true (is_in x tables.opens) three.0 i) fate.Open (cond (not-true (is_in x tables.aborted) three.1 i) fate.Aborted (cond (two.0 i) fate.Committed fate.Later))),
    )

above_none : (x : ℕ) → 0 < x → (x == 0) ≡ false
above_none x some = ne_eqb x 0 (λ is. never is some)
  where
    never : x ≡ 0 → 0 < x → ⊥
    never is lt = omega (arith, is, lt)

-- one that is committed, and not told as changed, is seen
untold_seen : (tables : Tables) (snapshot : SnapshotTaken) (me : Option ℕ) (x : ℕ) → is_committed_in tables x ≡ true → xid_is_changed tables snapshot x ≡ false → xid_is_seen tables snapshot me x ≡ true
untold_seen tables snapshot me x committed untold =
    let its = fate_committed tables x committed in
    let some = above_none x its.0 in
    let is = ap is_committed its.1 in
    let seen = not-false (sees snapshot (fate_in x tables) x) (sym (λ i. not (some i) && (is i && not (sees snapshot (fate_in x tables) x))) ∙ untold) in
    (λ i. not (some i) && or_right (is_own me x) (sees snapshot (fate_in x tables) x) seen i)

module _ (asker : Asker) (site : Site) (k : Asking asker site) (statement : Statement) (name : List ℕ) (unbusy : busy_by k.state asker.s statement name ≡ None)
    (untold : (f x : ℕ) → f < 32 → changed_in site.tables k.txn.session.snapshot name site.area f ≡ Some x → ⊥) where
  abbrev title : ℕ → Title
  title f = site.area.title f

  abbrev me : ℕ
  me = k.txn.session.me

  -- another session doesn't hold the name
  unheld : (r : ℕ) (u : Transaction) → (r == asker.s) ≡ false → transaction_of k.state r ≡ Some u → has_name name u.holds ≡ false
  unheld r u apart at =
      (or_parts (has_name name u.holds) (changes_schema statement && has_name name u.uses)
      (other_passes k.state asker.s r u apart at (is_busy (changes_schema statement) name) (idle asker site k statement name unbusy))).0

  module _ (f : ℕ) (lt : f < 32) (live : is_live (title f) ≡ true) (is_name : (title f).name ≡ name) where
    abbrev maker : ℕ
    maker = (title f).creator

    -- who made it isn't told as changed
    unchanged : xid_is_changed site.tables k.txn.session.snapshot maker ≡ false
    unchanged = known (xid_is_changed site.tables k.txn.session.snapshot maker)
        (λ told. absurd (known (xid_is_changed site.tables k.txn.session.snapshot (title f).dropper)
        (λ gone. untold f (title f).dropper lt (here ∙ ap (λ b. cond b (Some (title f).dropper) (cond (xid_is_changed site.tables k.txn.session.snapshot maker) (Some maker) None)) gone))
        (λ stays. untold f maker lt (here ∙ ap (λ b. cond b (Some (title f).dropper) (cond (xid_is_changed site.tables k.txn.session.snapshot maker) (Some maker) None)) stays ∙ ap (λ b. cond b (Some maker) None) told))))
        (λ isnt. isnt)
      where
        here : changed_in site.tables k.txn.session.snapshot name site.area f ≡ change_since site.tables k.txn.session.snapshot (record { creator = maker; dropper = (title f).dropper })
        here =
            let is : (is_live (title f) && same_name (title f).name name) ≡ true = (λ i. live i && (ap (λ m. same_name m name) is_name ∙ same_itself name) i) in
            ap (λ b. change_made (change_since site.tables k.txn.session.snapshot) (cond b (Some (record { creator = maker; dropper = (title f).dropper })) None)) is

    -- one's own is seen
    own_seen : 0 < maker → me ≡ maker → sees_for site k.txn maker ≡ true
    own_seen some same =
        let none : (me == 0) ≡ false = ap (λ x. x == 0) same ∙ above_none maker some in
        let own : is_own (me_held k.txn) maker ≡ true = ap (λ b. is_own (cond b None (Some me)) maker) none ∙ eq-eqb maker me (sym same) in
        (λ i. not (above_none maker some i) && or_left (is_own (me_held k.txn) maker) (sees k.txn.session.snapshot (fate_in maker site.tables) maker) own i)

    held_seen : 0 < maker → IsNameHeldBy (scene asker site k).run.sessions k.state maker (title f).name → sees_for site k.txn maker ≡ true
    held_seen some held = known (held.s == asker.s)
        (λ same.
        let mine : held.session ≡ k.txn.session = some_is held.session k.txn.session (sym held.at ∙ ap (λ s. find nat_cmp s (scene asker site k).run.sessions) (eqb-true held.s asker.s same) ∙ (viewer asker site k).at) in
        own_seen some (sym (ap (λ (b : SessionHeld). b.me) mine) ∙ held.me))
        (λ apart. absurd (false≢true (sym (unheld held.s held.t apart held.is_t) ∙ sym (ap (λ n. has_name n held.t.holds) is_name) ∙ held.holds)))

    maker_seen : sees_for site k.txn maker ≡ true
    maker_seen = ⊎_elim
        (λ committed. untold_seen site.tables k.txn.session.snapshot (me_held k.txn) maker committed unchanged)
        (λ its. ⊎_elim (held_seen (live_some site.counted site.tables site.area k.shown.paged.sound maker its.0))
        (λ left. absurd (false≢true (sym (free_first (has_name name k.state.stuck) (first_session (is_busy (changes_schema statement) name) (others asker.s k.state)) unbusy) ∙ sym (ap (λ n. has_name n k.state.stuck) is_name) ∙ left.1)))
        (k.shown.holds.owned maker f (inl its.1)))
        (k.shown.paged.sound.names.creators f lt live)

    -- so the session finds the table, where nobody has dropped it
    pub undropped_found : (title f).dropper ≡ 0 → IsEntryFound (sees_for site k.txn) name site.area f
    undropped_found undropped = (
      lt,
      named_so site.area.title name f live is_name,
      (λ i. live i && (maker_seen i && not (ap (sees_for site k.txn) undropped i))),
    )

  -- what a session finds is one
  pub one_found : (e f : ℕ) → IsEntryFound (sees_for site k.txn) name site.area e → IsEntryFound (sees_for site k.txn) name site.area f → f ≡ e
  one_found e f found_e found_f =
      let low = k.low in
      let sc = scene asker site k in
      let v = viewer asker site k in
      let its = firm asker site k in
      ap (λ (m : Made). m.id) (some_is (made_by_entry (f, title f)) (made_by_entry (e, title e))
      (sym (found_made low site sc k.shown v its name f found_f) ∙ found_made low site sc k.shown v its name e found_e))

  pub only_entry : (e : ℕ) (key : ℤ) → IsEntryFound (sees_for site k.txn) name site.area e → IsOnlyEntry (λ e. (site.area.title e).name) asker.s e key asker.locks.now
  only_entry e key found r f apart locked same = by_txn (transaction_of k.state r) refl
    where
      is_name : (title f).name ≡ name
      is_name = same ∙ (name_of site.area.title name e found.1).1

      by_txn : (o : Option Transaction) → transaction_of k.state r ≡ o → f ≡ e
      by_txn None is =
          let nothing = subst (IsTheSame (λ e. (site.area.title e).name) (held_by_session r asker.locks.now)) is (k.locks r) in
          absurd (false≢true (sym (nothing.locks f key) ∙ locked))
      by_txn (Some u) is =
          let its = k.tables r f key u locked is (ap (λ n. has_name n u.holds) is_name ∙ unheld r u apart is) in
          one_found e f found (undropped_found f its.0 its.1 is_name its.2)
