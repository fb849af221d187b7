-- What a turn of undo does to the titles of tables, and that sessions have no lock in a table that it changes.
use Rattle.std.proofs.Common.{◌≡◌, ⊎_elim, inl, inr, ℕ, ◌+◌, ◌<◌, ◌==◌, true, cond, List, [], ◌∷◌, ◌++◌, Option, Some, None, refl, sym, ◌∙◌, ap, subst, arith}
use Rattle.std.specs.Prelude.{is_some}
use Rattle.std.specs.declared.cmp.Ordering.TheVariants.{Less}
use Rattle.std.specs.Ordering.{nat_cmp, is_eq}
use Rattle.std.specs.Cmp.{nat_cmp_is}
use Rattle.std.specs.FinMap.Entries.{find}
use Rattle.std.proofs.lemmas.Bool.{false≢true, eqb-true}
use Rattle.ctr_rec.specs.declared.record.SlogItem.{SlogItem}
use Rattle.ctr_rec.specs.declared.record.SlogItem.TheVariants.{AllocOf, FreeOf, CreateOf, DropOf}
use Rattle.ctr_model.specs.declared.state.State.{State}
use Rattle.ctr_model.specs.declared.state.Transaction.{Transaction}
use Rattle.ctr_model.specs.State.{has_name, transaction_of}
use Rattle.ctr_versions.proofs.Keys.{known}
use Rattle.ctr_legal.specs.Kept.{IsKept}
use Rattle.ctr_area.specs.Areas.{Title}
use Rattle.ctr_area.specs.Sound.{IsAmong, IsSchemaItem}
use Rattle.ctr_record_laws.proofs.Members.{among_front, among_rest}
use Rattle.ctr_redo.specs.States.{State as Stored}
use Rattle.ctr_record_effects.specs.States.{area_in}
use Rattle.ctr_actions.specs.Sites.{Site, site_of}
use Rattle.ctr_actions.specs.Facts.{HasTable}
use Rattle.ctr_locks.specs.Held.{LocksOfSession}
use Rattle.ctr_locks.specs.Shows.{ShowsKeyLocks}
use Rattle.ctr_undo.specs.kept_Undo.{IsUndoLeft}
use Rattle.ctr_undo.specs.kept_Walk.{Mind}
use Rattle.ctr_undo.specs.kept_Turns.{Start, KeepsRun, state_now}
use Rattle.ctr_undo.proofs.kept_Walking.{keeps_reached}
use Rattle.ctr_pass.specs.txn_Held.{TxnHeld, TxnsHeld, held_from, run_of}
use Rattle.ctr_undo.specs.declared.list.UndoItem.{UndoItem}
use Rattle.ctr_undo.specs.declared.list.UndoItem.TheVariants.{Slog, Orphan}
use Rattle.ctr_undo.specs.Left.{UndoLeft, Goes}
use Rattle.ctr_undo.specs.Turns.{DoesNext}
use Rattle.ctr_undo.specs.Keeping.{list_of}
use Rattle.ctr_pass.specs.session_world_World.{AreInTables, IsInTable, names_in}
use Rattle.ctr_pass.proofs.session_world_Alike.{in_table_still}

-- sessions of a program are numbered from 1
none_before : (n : ℕ) (os : List (Option TxnHeld)) → 0 < n → find nat_cmp 0 (held_from n os) ≡ None
none_before n [] lt = refl
none_before n (None ∷ os) lt = none_before (n + 1) os (omega arith)
none_before n (Some t ∷ os) lt = ap (λ o. cond (is_eq o) (Some t.session) (find nat_cmp 0 (held_from (n + 1) os))) (sym (nat_cmp_is 0 n Less lt)) ∙ none_before (n + 1) os (omega arith)

module _ (c : Start) (now : ℕ) (a : Stored) (w : Mind) (keeps : KeepsRun c now (site_of a) w) where
  abbrev state : State
  state = state_now c w

  abbrev left : IsUndoLeft a.tables w.run.sessions w.undo
  left = keeps.scene.undo.0

  -- so recovery is in no transaction
  pub recovery_is_outside : (txns : TxnsHeld) → w.run ≡ run_of txns → transaction_of state 0 ≡ None
  recovery_is_outside txns run = by (transaction_of state 0) refl
    where
      by : (o : Option Transaction) → transaction_of state 0 ≡ o → transaction_of state 0 ≡ None
      by None is = is
      by (Some t) is =
          let one = keeps.scene.shown.paged.shows.inside 0 t is in
          absurd (false≢true (ap is_some (sym (none_before 1 txns.sessions (omega arith)) ∙ ap (λ (r : _). find nat_cmp 0 r.sessions) (sym run) ∙ one.1)))

  -- ---- locks of sessions are apart from what recovery holds

  kept : IsKept state
  kept = (keeps_reached c.lines c.moment c.base c.stuck c.size now (site_of a) w keeps).kept

  -- who has a lock in a table uses or holds its name, which recovery doesn't hold then
  not_stuck : (r e : ℕ) (u : Transaction) → transaction_of state r ≡ Some u → IsInTable a e u (w.facts r) → has_name (names_in a e) state.stuck ≡ true → ⊥
  not_stuck r e u is_u was stuck =
      let clear = kept.clear r u is_u in
      ⊎_elim
      (λ holds. clear.holds (names_in a e) stuck holds)
      (λ counts. ⊎_elim
      (λ uses. clear.uses (names_in a e) stuck uses)
      (λ holds. clear.holds (names_in a e) stuck holds)
      (keeps.scene.carried.under r u (HasTable e ((area_in a).title e)) is_u counts).1)
      was.counted

  -- recovery holds the name of the table of an item that is left
  name_stuck : (x e : ℕ) → IsAmong x w.undo.orphans → IsSchemaItem x e a.tables.items → has_name (names_in a e) state.stuck ≡ true
  name_stuck x e theirs item = ⊎_elim (λ its. absurd (left.nobodys x theirs its.s its.session its.at its.me)) (λ its. its.1) (keeps.scene.shown.holds.owned x e item)

  -- ---- a turn of undo

  module _ (v : UndoLeft) where
    in_list : (i : SlogItem) → w.undo.items ≡ v.items ++ i ∷ [] → IsAmong i w.undo.items
    in_list i is = subst (IsAmong i) (sym is) (among_rest i v.items (i ∷ []) (inl refl))

    in_tables : (i : SlogItem) → w.undo.items ≡ v.items ++ i ∷ [] → IsAmong i a.tables.items
    in_tables i is = subst (IsAmong i) (sym left.items) (among_front i w.undo.items left.run (in_list i is))

    created_stuck : (x e : ℕ) → w.undo.items ≡ v.items ++ CreateOf x e ∷ [] → has_name (names_in a e) state.stuck ≡ true
    created_stuck x e is = name_stuck x e (left.theirs (CreateOf x e) (in_list (CreateOf x e) is)) (inl (in_tables (CreateOf x e) is))

    dropped_stuck : (x e : ℕ) → w.undo.items ≡ v.items ++ DropOf x e ∷ [] → has_name (names_in a e) state.stuck ≡ true
    dropped_stuck x e is = name_stuck x e (left.theirs (DropOf x e) (in_list (DropOf x e) is)) (inr (in_tables (DropOf x e) is))

    -- an entry whose name recovery doesn't hold is another one than that of an item, and has the title that it had
    elsewhere : (e f : ℕ) (t : Title) → (has_name (names_in a e) state.stuck ≡ true → ⊥) → has_name (names_in a f) state.stuck ≡ true → cond (e == f) t ((area_in a).title e) ≡ (area_in a).title e
    elsewhere e f t apart stuck = known (e == f)
        (λ yes. absurd (apart (subst (λ n. has_name (names_in a n) state.stuck ≡ true) (sym (eqb-true e f yes)) stuck)))
        (λ no. ap (λ b. cond b t ((area_in a).title e)) no)

    -- a title changes to one of the same name
    retitled : (e f : ℕ) (t : Title) → t.name ≡ names_in a f → (cond (e == f) t ((area_in a).title e)).name ≡ names_in a e
    retitled e f t same = known (e == f)
        (λ yes. ap (λ b. (cond b t ((area_in a).title e)).name) yes ∙ same ∙ ap (names_in a) (sym (eqb-true e f yes)))
        (λ no. ap (λ b. (cond b t ((area_in a).title e)).name) no)

    module _ (b : Stored) where
      title_still : (item : UndoItem) → Goes item (list_of w) v → DoesNext item a b → (e : ℕ) → (has_name (names_in a e) state.stuck ≡ true → ⊥) → (area_in b).title e ≡ (area_in a).title e
      title_still (Slog (AllocOf x p)) goes acts e apart = ap (λ (z : Site). z.area.title e) acts.does.leaves
      title_still (Slog (FreeOf p)) goes acts e apart = ap (λ (z : Site). z.area.title e) acts.does.leaves
      title_still (Slog (CreateOf x f)) goes acts e apart = ap (λ (z : Site). z.area.title e) acts.does.leaves ∙ elsewhere e f (record ((area_in a).title f) { state = 2 }) apart (created_stuck x f goes.0)
      title_still (Slog (DropOf x f)) goes acts e apart = ap (λ (z : Site). z.area.title e) acts.does.leaves ∙ elsewhere e f (record ((area_in a).title f) { dropper = 0 }) apart (dropped_stuck x f goes.0)
      title_still (Orphan x) goes acts e apart = ap (λ (z : Site). z.area.title e) acts.does.leaves

      name_still : (item : UndoItem) → DoesNext item a b → (e : ℕ) → names_in b e ≡ names_in a e
      name_still (Slog (AllocOf x p)) acts e = ap (λ (z : Site). (z.area.title e).name) acts.does.leaves
      name_still (Slog (FreeOf p)) acts e = ap (λ (z : Site). (z.area.title e).name) acts.does.leaves
      name_still (Slog (CreateOf x f)) acts e = ap (λ (z : Site). (z.area.title e).name) acts.does.leaves ∙ retitled e f (record ((area_in a).title f) { state = 2 }) refl
      name_still (Slog (DropOf x f)) acts e = ap (λ (z : Site). (z.area.title e).name) acts.does.leaves ∙ retitled e f (record ((area_in a).title f) { dropper = 0 }) refl
      name_still (Orphan x) acts e = ap (λ (z : Site). (z.area.title e).name) acts.does.leaves

      -- locks show the state that they did
      pub locks_still : (item : UndoItem) → DoesNext item a b → (locks : List (ℕ × LocksOfSession)) → ShowsKeyLocks (names_in a) locks state → ShowsKeyLocks (names_in b) locks state
      locks_still item acts locks shows = subst (λ (names : ℕ → List ℕ). ShowsKeyLocks names locks state) (sym same) shows
        where
          same : names_in b ≡ names_in a
          same = λ i e. name_still item acts e i

      -- and each is one in its table
      pub tables_still : (item : UndoItem) → Goes item (list_of w) v → DoesNext item a b → (locks : List (ℕ × LocksOfSession)) → AreInTables a locks state w.facts → AreInTables b locks state w.facts
      tables_still item goes acts locks were r e key u locked is_u =
          let was = were r e key u locked is_u in
          in_table_still a b e u u (w.facts r) (w.facts r) (title_still item goes acts e (not_stuck r e u is_u was)) (λ n held. held) (λ counts. counts) was
