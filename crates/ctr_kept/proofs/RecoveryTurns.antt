-- Turns of nobody's: undo's, the cleaner's, and the growth of the file.
use Rattle.std.proofs.Common.{◌<◌, ◌≡◌, ◌≢◌, ⊎_elim, inl, inr, ℕ, ◌+◌, ◌≤◌, true, false, Bool, cond, List, [], ◌∷◌, ◌++◌, Option, Some, None, refl, sym, ◌∙◌, ap, subst, arith}
use Rattle.std.specs.Prelude.{◌||◌, not}
use Rattle.std.specs.Option.{option_map}
use Rattle.std.specs.Ordering.{nat_cmp}
use Rattle.std.specs.FinMap.Entries.{find}
use Rattle.std.proofs.lemmas.Bool.{eq-eqb}
use Rattle.ctr_rec.specs.declared.record.SlogItem.{SlogItem}
use Rattle.ctr_rec.specs.declared.record.SlogItem.TheVariants.{AllocOf, FreeOf, CreateOf, DropOf}
use Rattle.ctr_types.specs.declared.statement.Line.{Line}
use Rattle.ctr_types.specs.declared.tape.Act.TheVariants as act
use Rattle.ctr_types.specs.declared.tape.Entry.{Entry}
use Rattle.ctr_types.specs.declared.tape.Reply.TheVariants as reply
use Rattle.ctr_model.specs.declared.state.Transaction.{Transaction}
use Rattle.ctr_model.specs.declared.tape.Point.{Point}
use Rattle.ctr_model.specs.Database.{Database}
use Rattle.ctr_model.specs.Reply.{without_name, next_from}
use Rattle.ctr_model.specs.State.{same_name, has_name, transaction_of}
use Rattle.ctr_model.specs.Tape.{final, Comes, at_start}
use Rattle.ctr_legal.specs.Kept.{IsKept, IsClear}
use Rattle.ctr_versions.specs.Engine.{SessionHeld}
use Rattle.ctr_versions.specs.Laws.{IsNoSessions}
use Rattle.ctr_meta.specs.declared.items.Wanted.{Wanted}
use Rattle.ctr_meta.specs.declared.items.Wanted.TheVariants.{Allocation, Creation, Dropping}
use Rattle.ctr_paged.specs.area_Areas.{Title}
use Rattle.ctr_paged.specs.area_Chains.{pages_bound}
use Rattle.ctr_paged.specs.area_Sound.{IsAmong, IsSchemaItem, xids_in}
use Rattle.ctr_paged.proofs.record_laws_Heads.{listed_drawn}
use Rattle.ctr_paged.specs.record_laws_Bounds.{IsInBounds}
use Rattle.ctr_paged.proofs.record_laws_Items.{any_there}
use Rattle.ctr_paged.proofs.record_laws_Members.{among_front, among_rest}
use Rattle.ctr_paged.proofs.record_laws_Xids.{once_parts}
use Rattle.ctr_paged.specs.actions_Sites.{Site}
use Rattle.ctr_paged.specs.actions_Actions.{Action, Frees, Reclaims, Uncreates, Undrops, Aborts, Owes, site_after}
use Rattle.ctr_paged.specs.actions_Facts.{Fact, IsOpen, HasPage, HasNoPageBut, HasBlank, HasSlot, HasCopy, HasTable, HoldsFact, IsAway}
use Rattle.ctr_paged.proofs.actions_Items.{wanted_itself}
use Rattle.ctr_paged.specs.Shown.{Scene, IsShown}
use Rattle.ctr_paged.specs.Moving.{UndoesOrphans, IsItemOfName, MovesTo}
use Rattle.ctr_paged.proofs.Moved.{moved}
use Rattle.ctr_paged.proofs.Shown.{shown_grown}
use Rattle.ctr_kept.specs.Carried.{IsUnderLock, AreCarried, IsAwayFrom}
use Rattle.ctr_paged.specs.actions_Actions.{undoing}
use Rattle.ctr_paged.proofs.actions_Order.{undone_goes}
use Rattle.ctr_kept.specs.Undo.{IsUndoLeft, CountsTo, SparesUndo}
use Rattle.ctr_kept.specs.Walk.{Mind, scene_of, HaveBegun, KeepsScene, Keeps}
use Rattle.ctr_kept.proofs.Carried.{AnotherLeaves, carried_all}
use Rattle.ctr_kept.proofs.LeftBy.{drawn_seat, left_by}
use Rattle.ctr_kept.proofs.Rolling.{rolls_same}
use Rattle.ctr_kept.proofs.Undo.{with_latest, left_item, item_is_last, orphan_owes, left_orphan, counts_item, counts_orphan}
use Rattle.ctr_kept.proofs.Walking.{keeps_reached, keeps_on, keeps_entry}

-- a name that is still held was held
has_fewer : (name other : List ℕ) (names : List (List ℕ)) → has_name other (without_name name names) ≡ true → has_name other names ≡ true
has_fewer name other [] is = is
has_fewer name other (n ∷ names) is = more (same_name n name) (has_fewer name other names) is
  where
    or_right : (a b : Bool) → b ≡ true → (a || b) ≡ true
    or_right true b yes_ = refl
    or_right false b yes_ = yes_

    both : (a b c : Bool) → (b ≡ true → c ≡ true) → (a || b) ≡ true → (a || c) ≡ true
    both true b c rest yes_ = refl
    both false b c rest yes_ = rest yes_

    more : (gone : Bool) → (has_name other (without_name name names) ≡ true → has_name other names ≡ true) → has_name other (cond (not gone) (n ∷ without_name name names) (without_name name names)) ≡ true → (same_name n other || has_name other names) ≡ true
    more true rest yes_ = or_right (same_name n other) (has_name other names) (rest yes_)
    more false rest yes_ = both (same_name n other) (has_name other (without_name name names)) (has_name other names) rest yes_

-- a table of which recovery holds the name is no session's
stuck_away : (t : Transaction) (stuck : List (List ℕ)) (site : Site) (e : ℕ) → IsClear stuck t → has_name (site.area.title e).name stuck ≡ true → (x f : ℕ) (title : Title) → HoldsFact x (HasTable f title) site → IsUnderLock t (HasTable f title) site → f ≢ e
stuck_away t stuck site e clear held x f title holds under same =
    let there : has_name title.name stuck ≡ true = subst (λ n. has_name n stuck ≡ true) (ap (λ g. (site.area.title g).name) (sym same) ∙ ap (λ (v : Title). v.name) holds) held in
    ⊎_elim (λ uses. clear.uses title.name there uses) (λ holds_too. clear.holds title.name there holds_too) under.1

pub uncreate_away : (t : Transaction) (stuck : List (List ℕ)) (site : Site) (e : ℕ) → IsClear stuck t → has_name (site.area.title e).name stuck ≡ true → (x : ℕ) (fact : Fact) → HoldsFact x fact site → IsUnderLock t fact site → IsAway (Uncreates e) fact
uncreate_away t stuck site e clear held x (HasTable f title) holds under = stuck_away t stuck site e clear held x f title holds under
uncreate_away t stuck site e clear held x IsOpen holds under = tt
uncreate_away t stuck site e clear held x (HasPage p) holds under = tt
uncreate_away t stuck site e clear held x (HasNoPageBut ps) holds under = tt
uncreate_away t stuck site e clear held x (HasBlank p h) holds under = tt
uncreate_away t stuck site e clear held x (HasSlot f at slot) holds under = tt
uncreate_away t stuck site e clear held x (HasCopy f at v q) holds under = tt

pub undrop_away : (t : Transaction) (stuck : List (List ℕ)) (site : Site) (e : ℕ) → IsClear stuck t → has_name (site.area.title e).name stuck ≡ true → (x : ℕ) (fact : Fact) → HoldsFact x fact site → IsUnderLock t fact site → IsAway (Undrops e) fact
undrop_away t stuck site e clear held x (HasTable f title) holds under = stuck_away t stuck site e clear held x f title holds under
undrop_away t stuck site e clear held x IsOpen holds under = tt
undrop_away t stuck site e clear held x (HasPage p) holds under = tt
undrop_away t stuck site e clear held x (HasNoPageBut ps) holds under = tt
undrop_away t stuck site e clear held x (HasBlank p h) holds under = tt
undrop_away t stuck site e clear held x (HasSlot f at slot) holds under = tt
undrop_away t stuck site e clear held x (HasCopy f at v q) holds under = tt

module _ (leaves : AnotherLeaves) (lines : List Line) (moment : ℕ) (base : Database) (stuck : List (List ℕ)) (size now : ℕ) (site : Site) (w : Mind)
    (keeps : Keeps lines (at_start moment base stuck) size now site w) where
  abbrev point : Point
  point = final lines (at_start moment base stuck) w.tape

  abbrev scene : Scene
  scene = scene_of lines (at_start moment base stuck) w

  abbrev left : IsUndoLeft site.tables w.run.sessions w.undo
  left = keeps.scene.undo.0

  legal : IsKept point.state
  legal = (keeps_reached lines moment base stuck size now site w keeps).kept

  -- sessions are where they were, and what they carry is away
  nobodys_scene : (y : ℕ) (a : Action) (v : Mind) (next : Scene) → Owes y a site → IsInBounds (site_after y a site).area → MovesTo keeps.scene.low y a site scene next → next.run ≡ w.run → next.state.sessions ≡ point.state.sessions → v.since ≡ w.since → v.facts ≡ w.facts
      → IsNoSessions w.run.sessions y → ((s : ℕ) (b : SessionHeld) (t : Transaction) → find nat_cmp s w.run.sessions ≡ Some b → find nat_cmp s point.state.sessions ≡ Some t → IsAwayFrom a b.me t (w.facts s) site)
      → IsUndoLeft (site_after y a site).tables w.run.sessions v.undo × CountsTo size v.undo → KeepsScene size (site_after y a site) v next
  nobodys_scene y a v next owed bounds to runs states since facts nobodys away undo =
      let paged = keeps.scene.shown.paged in record {
        low = keeps.scene.low;
        shown = moved keeps.scene.low site scene keeps.scene.shown y a next owed bounds to;
        begun = subst (λ l. HaveBegun l next) (sym since) (record {
          since_is = λ s. keeps.scene.begun.since_is s ∙ ap (λ l. option_map (λ (t : Transaction). t.snapshot) (find nat_cmp s l)) (sym states);
          drawn = λ s t b is_t at. keeps.scene.begun.drawn s t b (ap (find nat_cmp s) (sym states) ∙ is_t) (ap (λ (r : _). find nat_cmp s r.sessions) (sym runs) ∙ at);
        });
        carried = subst (AreCarried (site_after y a site) next) (sym facts)
            (carried_all leaves site paged.bounds paged.few paged.sound y a owed scene next w.facts keeps.scene.carried (ap (λ (r : _). r.sessions) runs) states
            (λ r c at_c. paged.modelled r c at_c) (λ r t is_t. let one = paged.shows.inside r t is_t in (one.0, one.1)) (λ r c at_c same. nobodys r c at_c same) away);
        undo = subst (λ (r : _). IsUndoLeft (site_after y a site).tables r.sessions v.undo × CountsTo size v.undo) (sym runs) undo;
      }

  abbrev undone : List SlogItem → Mind
  undone front = record w { undo = record w.undo { items = front; turns = w.undo.turns + 1 } }

  -- ---- undo

  -- a transaction that was open at the start, behind all items
  pub orphan_turn : (later x : ℕ) (front back : List ℕ) → now ≤ later → w.undo.items ≡ [] → w.undo.orphans ≡ front ++ x ∷ back → IsInBounds (site_after x Aborts site).area
      → Keeps lines (at_start moment base stuck) size later (site_after x Aborts site) (record w { undo = record w.undo { orphans = front ++ back; turns = w.undo.turns + 1 } })
  orphan_turn later x front back le none is bounds =
      let here : IsAmong x w.undo.orphans = subst (IsAmong x) (sym is) (among_rest x front (x ∷ back) (inl refl)) in
      let v : Mind = record w { undo = record w.undo { orphans = front ++ back; turns = w.undo.turns + 1 } } in
      keeps_on lines moment base stuck size now site w keeps later (site_after x Aborts site) v le refl
      (nobodys_scene x Aborts v scene (orphan_owes site.tables w.run.sessions w.undo left x none here) bounds (inr (left.nobodys x here, refl)) refl refl refl refl (left.nobodys x here) (λ s b t at is_t fact in_ holds under its. tt)
      (left_orphan site.tables w.run.sessions w.undo left x front back none is (once_parts (xids_in site.tables.opens) (xids_in site.tables.aborted) keeps.scene.shown.paged.sound.below.once).0, counts_orphan size w.undo x front back is keeps.scene.undo.1)) keeps.rolls

  -- nobody has the next number
  next_nobodys : IsNoSessions w.run.sessions site.tables.next
  next_nobodys r b at same = beyond b.me (keeps.scene.shown.paged.shows.below r b at) same
    where
      beyond : (d : ℕ) → d < site.tables.next → d ≡ site.tables.next → ⊥
      beyond d lt is = omega (arith, lt, is)

  next_no_orphan : IsAmong site.tables.next w.undo.orphans → ⊥
  next_no_orphan in_ = beyond (listed_drawn site.tables.next site.area site.tables keeps.scene.shown.paged.sound.below site.tables.next (inl (left.are_open site.tables.next in_))).1
    where
      beyond : site.tables.next < site.tables.next → ⊥
      beyond lt = omega (arith, lt)

  in_undo : (front : List SlogItem) (i : SlogItem) → w.undo.items ≡ front ++ i ∷ [] → IsAmong i w.undo.items
  in_undo front i is = subst (IsAmong i) (sym is) (among_rest i front (i ∷ []) (inl refl))

  in_items : (i : SlogItem) → IsAmong i w.undo.items → IsAmong i site.tables.items
  in_items i in_ = subst (IsAmong i) (sym left.items) (among_front i w.undo.items left.run in_)

  -- just the latest item that is left goes
  goes : (x : ℕ) (i : SlogItem) (front : List SlogItem) → w.undo.items ≡ front ++ i ∷ [] → (site_after x (undoing i) site).tables.items ≡ front ++ left.run
  goes x i front is = undone_goes x site i front left.run keeps.scene.shown.paged.bounds keeps.scene.shown.paged.sound (with_latest site.tables w.run.sessions w.undo left front i is)

  -- a page that an orphan took and didn't link
  pub page_turn : (later x p : ℕ) (front : List SlogItem) → now ≤ later → w.undo.items ≡ front ++ AllocOf x p ∷ [] → IsInBounds (site_after x (Frees p) site).area → Keeps lines (at_start moment base stuck) size later (site_after x (Frees p) site) (undone front)
  page_turn later x p front le is bounds =
      let in_ = in_undo front (AllocOf x p) is in
      let there = in_items (AllocOf x p) in_ in
      let here : IsAmong x w.undo.orphans = left.theirs (AllocOf x p) in_ in
      keeps_on lines moment base stuck size now site w keeps later (site_after x (Frees p) site) (undone front) le refl
      (nobodys_scene x (Frees p) (undone front) scene (any_there (Allocation x p) (AllocOf x p) site.tables.items (wanted_itself x p) there) bounds refl refl refl refl refl (left.nobodys x here) (λ s b t at is_t fact in_ holds under its. tt) (
        left_item site.tables w.run.sessions w.undo left front (AllocOf x p) is (site_after x (Frees p) site).tables (goes x (AllocOf x p) front is) refl refl,
        counts_item size w.undo front (AllocOf x p) is keeps.scene.undo.1,
      ))
      keeps.rolls

  -- a page that left its chain before the stop
  pub free_turn : (later p : ℕ) (front : List SlogItem) → now ≤ later → w.undo.items ≡ front ++ FreeOf p ∷ [] → IsInBounds (site_after site.tables.next (Reclaims p) site).area
      → Keeps lines (at_start moment base stuck) size later (site_after site.tables.next (Reclaims p) site) (undone front)
  free_turn later p front le is bounds =
      let there = in_items (FreeOf p) (in_undo front (FreeOf p) is) in
      keeps_on lines moment base stuck size now site w keeps later (site_after site.tables.next (Reclaims p) site) (undone front) le refl
      (nobodys_scene site.tables.next (Reclaims p) (undone front) scene there bounds refl refl refl refl refl next_nobodys (λ s b t at is_t fact in_ holds under its. tt) (
        left_item site.tables w.run.sessions w.undo left front (FreeOf p) is (site_after site.tables.next (Reclaims p) site).tables (goes site.tables.next (FreeOf p) front is) refl refl,
        counts_item size w.undo front (FreeOf p) is keeps.scene.undo.1,
      ))
      keeps.rolls

  -- ---- an item of a table, the latest that is left

  module _ (later x e : ℕ) (le : now ≤ later) (i : SlogItem) (front : List SlogItem) (wanted : Wanted) (a : Action) (is : w.undo.items ≡ front ++ i ∷ []) (gone : (site_after x a site).tables.items ≡ front ++ left.run) (opens : (site_after x a site).tables.opens ≡ site.tables.opens) (undrawn : (site_after x a site).tables.next ≡ site.tables.next)
      (here : IsAmong x w.undo.orphans) (item : IsSchemaItem x e site.tables.items) (owed : Owes x a site) (bounds : IsInBounds (site_after x a site).area)
      (to : (next : Scene) → UndoesOrphans x e wanted site scene next → MovesTo keeps.scene.low x a site scene next)
      (away : (t : Transaction) → IsClear point.state.stuck t → has_name (site.area.title e).name point.state.stuck ≡ true → (z : ℕ) (fact : Fact) → HoldsFact z fact site → IsUnderLock t fact site → IsAway a fact) where
    name_stuck : has_name (site.area.title e).name point.state.stuck ≡ true
    name_stuck = ⊎_elim (λ its. absurd (left.nobodys x here its.s its.session its.at its.me)) (λ its. its.1) (keeps.scene.shown.holds.owned x e item)

    scene_now : (v : Mind) (next : Scene) → UndoesOrphans x e wanted site scene next → next.run ≡ w.run → next.state.sessions ≡ point.state.sessions → v.since ≡ w.since → v.facts ≡ w.facts → v.undo ≡ (undone front).undo → KeepsScene size (site_after x a site) v next
    scene_now v next moves runs states since facts undo = nobodys_scene x a v next owed bounds (to next moves) runs states since facts (left.nobodys x here)
        (λ s b t at is_t fact in_ holds under its. away t (legal.clear s t is_t) name_stuck b.me fact holds under)
        (subst (λ u. IsUndoLeft (site_after x a site).tables w.run.sessions u × CountsTo size u) (sym undo)
        (left_item site.tables w.run.sessions w.undo left front i is (site_after x a site).tables gone opens undrawn, counts_item size w.undo front i is keeps.scene.undo.1))

    -- the name has other items left
    more_items : (z g : ℕ) → IsItemOfName e wanted site z g → IsNoSessions w.run.sessions z → Keeps lines (at_start moment base stuck) size later (site_after x a site) (undone front)
    more_items z g other nobodys = keeps_on lines moment base stuck size now site w keeps later (site_after x a site) (undone front) le refl
        (scene_now (undone front) scene (record { nobodys = left.nobodys x here; leads = inl (z, g, other, nobodys, refl) }) refl refl refl refl refl) keeps.rolls

    -- it was the last one of the name, which is released
    abbrev release_entry : Entry
    release_entry = record { session = 0; statement = 0; act = act.Release (site.area.title e).name; reply = reply.Released; moment = later }

    abbrev released : Mind
    released = record (undone front) { tape = w.tape ++ release_entry ∷ [] }

    last_of_name : transaction_of point.state 0 ≡ None → ((y f : ℕ) → IsItemOfName e wanted site y f → ⊥) → Keeps lines (at_start moment base stuck) size later (site_after x a site) released
    last_of_name nobody last = keeps_entry lines moment base stuck size now site w keeps release_entry (site_after x a site) released comes refl
        (subst (λ (o : Option Transaction). KeepsScene size (site_after x a site) released (record { run = w.run; state = next_from point.state 0 o (act.Release (site.area.title e).name) None reply.Released })) (sym nobody)
        (scene_now released (record { run = w.run; state = record point.state { stuck = without_name (site.area.title e).name point.state.stuck } }) (record { nobodys = left.nobodys x here; leads = inr (last, refl) }) refl refl refl refl refl))
        (rolls_same lines point release_entry comes w.run keeps.rolls (λ is. cc is))
      where
        further : {a b c : ℕ} → a ≤ b → b ≤ c → a ≤ c
        further p q = omega (arith, p, q)

        comes : Comes lines point release_entry
        comes = record {
          later = further keeps.later le;
          one_of = inr (record { name = (site.area.title e).name; act = refl; session = refl; statement = refl; held = name_stuck; released = refl });
        }

  -- a table that an orphan created
  module _ (later x e : ℕ) (front : List SlogItem) (le : now ≤ later) (is : w.undo.items ≡ front ++ CreateOf x e ∷ []) (bounds : IsInBounds (site_after x (Uncreates e) site).area) where
    created_in : IsAmong (CreateOf x e) site.tables.items
    created_in = in_items (CreateOf x e) (in_undo front (CreateOf x e) is)

    their_creation : IsAmong x w.undo.orphans
    their_creation = left.theirs (CreateOf x e) (in_undo front (CreateOf x e) is)

    pub uncreated_turn : (z g : ℕ) → IsItemOfName e (Creation e) site z g → IsNoSessions w.run.sessions z → Keeps lines (at_start moment base stuck) size later (site_after x (Uncreates e) site) (undone front)
    uncreated_turn = more_items later x e le (CreateOf x e) front (Creation e) (Uncreates e) is (goes x (CreateOf x e) front is) refl refl their_creation (inl created_in)
        (item_is_last site.tables w.run.sessions w.undo left front (CreateOf x e) x is (eq-eqb x x refl) their_creation) bounds (λ next moves. inr moves) (λ t clear held. uncreate_away t point.state.stuck site e clear held)

    pub last_created_turn : transaction_of point.state 0 ≡ None → ((y f : ℕ) → IsItemOfName e (Creation e) site y f → ⊥)
        → Keeps lines (at_start moment base stuck) size later (site_after x (Uncreates e) site) (record (undone front) { tape = w.tape ++ record { session = 0; statement = 0; act = act.Release (site.area.title e).name; reply = reply.Released; moment = later } ∷ [] })
    last_created_turn = last_of_name later x e le (CreateOf x e) front (Creation e) (Uncreates e) is (goes x (CreateOf x e) front is) refl refl their_creation (inl created_in)
        (item_is_last site.tables w.run.sessions w.undo left front (CreateOf x e) x is (eq-eqb x x refl) their_creation) bounds (λ next moves. inr moves) (λ t clear held. uncreate_away t point.state.stuck site e clear held)

  -- a table that an orphan dropped
  module _ (later x e : ℕ) (front : List SlogItem) (le : now ≤ later) (is : w.undo.items ≡ front ++ DropOf x e ∷ []) (bounds : IsInBounds (site_after x (Undrops e) site).area) where
    dropped_in : IsAmong (DropOf x e) site.tables.items
    dropped_in = in_items (DropOf x e) (in_undo front (DropOf x e) is)

    their_drop : IsAmong x w.undo.orphans
    their_drop = left.theirs (DropOf x e) (in_undo front (DropOf x e) is)

    pub undropped_turn : (z g : ℕ) → IsItemOfName e (Dropping e) site z g → IsNoSessions w.run.sessions z → Keeps lines (at_start moment base stuck) size later (site_after x (Undrops e) site) (undone front)
    undropped_turn = more_items later x e le (DropOf x e) front (Dropping e) (Undrops e) is (goes x (DropOf x e) front is) refl refl their_drop (inr dropped_in)
        (item_is_last site.tables w.run.sessions w.undo left front (DropOf x e) x is (eq-eqb x x refl) their_drop) bounds (λ next moves. inr moves) (λ t clear held. undrop_away t point.state.stuck site e clear held)

    pub last_dropped_turn : transaction_of point.state 0 ≡ None → ((y f : ℕ) → IsItemOfName e (Dropping e) site y f → ⊥)
        → Keeps lines (at_start moment base stuck) size later (site_after x (Undrops e) site) (record (undone front) { tape = w.tape ++ record { session = 0; statement = 0; act = act.Release (site.area.title e).name; reply = reply.Released; moment = later } ∷ [] })
    last_dropped_turn = last_of_name later x e le (DropOf x e) front (Dropping e) (Undrops e) is (goes x (DropOf x e) front is) refl refl their_drop (inr dropped_in)
        (item_is_last site.tables w.run.sessions w.undo left front (DropOf x e) x is (eq-eqb x x refl) their_drop) bounds (λ next moves. inr moves) (λ t clear held. undrop_away t point.state.stuck site e clear held)

  -- ---- the cleaner, and the flusher

  -- the low number may have risen before
  pub nobodys_turn : (later low : ℕ) (a : Action) → now ≤ later → IsShown low site scene → Owes site.tables.next a site → IsInBounds (site_after site.tables.next a site).area → MovesTo low site.tables.next a site scene scene
      → ((s : ℕ) (b : SessionHeld) (t : Transaction) → find nat_cmp s w.run.sessions ≡ Some b → find nat_cmp s point.state.sessions ≡ Some t → IsAwayFrom a b.me t (w.facts s) site) → SparesUndo a w.undo
      → Keeps lines (at_start moment base stuck) size later (site_after site.tables.next a site) w
  nobodys_turn later low a le shown owed bounds to away spares =
      let paged = shown.paged in
      keeps_on lines moment base stuck size now site w keeps later (site_after site.tables.next a site) w le refl (record {
        low = low;
        shown = moved low site scene shown site.tables.next a scene owed bounds to;
        begun = record { since_is = keeps.scene.begun.since_is; drawn = keeps.scene.begun.drawn };
        carried = carried_all leaves site paged.bounds paged.few paged.sound site.tables.next a owed scene scene w.facts keeps.scene.carried refl refl
            (λ r c at_c. paged.modelled r c at_c) (λ r t is_t. let one = paged.shows.inside r t is_t in (one.0, one.1)) (λ r c at_c same. next_nobodys r c at_c same) away;
        undo = (left_by site paged.bounds paged.sound w.run.sessions w.undo left site.tables.next next_no_orphan a owed spares w.run.sessions left.nobodys (λ y open_ its. its) (drawn_seat low site.tables.next a site scene scene to), keeps.scene.undo.1);
      })
      keeps.rolls

module _ (lines : List Line) (moment : ℕ) (base : Database) (stuck : List (List ℕ)) (size now : ℕ) (site : Site) (w : Mind)
    (keeps : Keeps lines (at_start moment base stuck) size now site w) where
  -- more pages are counted
  pub grown_turn : (later more : ℕ) → now ≤ later → site.counted ≤ more → more ≤ pages_bound → Keeps lines (at_start moment base stuck) size later (record site { counted = more }) w
  grown_turn later more le some few = keeps_on lines moment base stuck size now site w keeps later (record site { counted = more }) w le refl (record {
    low = keeps.scene.low;
    shown = shown_grown keeps.scene.low site (scene_of lines (at_start moment base stuck) w) keeps.scene.shown more some few;
    begun = record { since_is = keeps.scene.begun.since_is; drawn = keeps.scene.begun.drawn };
    carried = record {
      held = λ s b fact at in_. still b.me fact (keeps.scene.carried.held s b fact at in_);
      under = λ s t fact at in_. lies t fact (keeps.scene.carried.under s t fact at in_);
      tables = keeps.scene.carried.tables;
    };
    undo = keeps.scene.undo;
  }) keeps.rolls
    where
      still : (x : ℕ) (fact : Fact) → HoldsFact x fact site → HoldsFact x fact (record site { counted = more })
      still x IsOpen holds = holds
      still x (HasPage p) holds = holds
      still x (HasNoPageBut ps) holds = holds
      still x (HasBlank p h) holds = holds
      still x (HasSlot e at slot) holds = holds
      still x (HasCopy e at v q) holds = holds
      still x (HasTable e title) holds = holds

      lies : (t : Transaction) (fact : Fact) → IsUnderLock t fact site → IsUnderLock t fact (record site { counted = more })
      lies t IsOpen under = under
      lies t (HasPage p) under = under
      lies t (HasNoPageBut ps) under = under
      lies t (HasBlank p h) under = under
      lies t (HasSlot e at slot) under = under
      lies t (HasCopy e at v q) under = under
      lies t (HasTable e title) under = under

  -- time passes: pages are read, go home, or what waits is hardened
  pub later_turn : (later : ℕ) → now ≤ later → Keeps lines (at_start moment base stuck) size later site w
  later_turn later le = record { legal = keeps.legal; later = further keeps.later le; scene = keeps.scene; rolls = keeps.rolls }
    where
      further : {a b c : ℕ} → a ≤ b → b ≤ c → a ≤ c
      further p q = omega (arith, p, q)
