-- The name of a table whose item is undone.
use Rattle.std.proofs.Common.{◌≡◌, ◌⊎◌, ⊎_elim, inl, inr, ℕ, true, false, List, [], ◌∷◌, ◌++◌, refl, sym, ◌∙◌, ap, subst}
use Rattle.std.proofs.lemmas.Bool.{false≢true, eq-eqb}
use Rattle.ctr_rec.specs.declared.record.SlogItem.{SlogItem}
use Rattle.ctr_rec.specs.declared.record.SlogItem.TheVariants.{AllocOf, FreeOf, CreateOf, DropOf}
use Rattle.ctr_model.specs.Database.{Database}
use Rattle.ctr_model.specs.State.{has_name, at_rest}
use Rattle.ctr_versions.specs.Laws.{IsNoSessions}
use Rattle.ctr_meta.specs.Items.{left_out, is_item_by}
use Rattle.ctr_meta.specs.declared.items.Wanted.{Wanted}
use Rattle.ctr_meta.specs.declared.items.Wanted.TheVariants.{Creation, Dropping}
use Rattle.ctr_area.specs.Areas.{Title}
use Rattle.ctr_area.specs.Sound.{IsAmong, IsSchemaItem}
use Rattle.ctr_record_laws.proofs.Members.{among_front, among_rest, among_parts}
use Rattle.ctr_record_laws.specs.Bounds.{IsInBounds}
use Rattle.ctr_names.specs.Held.{HoldsNames, names_of_items}
use Rattle.ctr_actions.specs.Sites.{Site, IsSoundSite}
use Rattle.ctr_actions.specs.Actions.{undoing, site_after}
use Rattle.ctr_actions.proofs.Items.{left_back}
use Rattle.ctr_rollback.specs.paged_Moving.{IsItemOfName}
use Rattle.ctr_rollback.specs.kept_Undo.{IsUndoLeft}
use Rattle.ctr_rollback.specs.kept_Walk.{Mind}
use Rattle.ctr_rollback.proofs.kept_Undo.{with_latest}
use Rattle.ctr_rollback.specs.kept_Turns.{Start, KeepsRun}
use Rattle.ctr_undo.specs.declared.list.UndoItem.{UndoItem}
use Rattle.ctr_undo.specs.declared.list.UndoItem.TheVariants.{Slog, Orphan}
use Rattle.ctr_undo.specs.Left.{UndoLeft, Goes}
use Rattle.ctr_undo.specs.Keeping.{list_of, IsOfTable, name_undone, IsNameKept, IsNameReleased}

-- names of items are those of their tables
abbrev pub NamesOf : Type 0
NamesOf = (items : List SlogItem) (title : ℕ → Title) (base : Database) → HoldsNames items title [] (at_rest base (names_of_items title items))

-- just the item that is undone goes
abbrev pub GoesAlone : Type 0
GoesAlone = (x : ℕ) (s : Site) (i : SlogItem) (front rest : List SlogItem) → IsInBounds s.area → IsSoundSite s
    → s.tables.items ≡ front ++ i ∷ rest → (site_after x (undoing i) s).tables.items ≡ front ++ rest

item_front : (y f : ℕ) (xs ys : List SlogItem) → IsSchemaItem y f xs → IsSchemaItem y f (xs ++ ys)
item_front y f xs ys (inl made) = inl (among_front (CreateOf y f) xs ys made)
item_front y f xs ys (inr dropped) = inr (among_front (DropOf y f) xs ys dropped)

item_parts : (y f : ℕ) (xs ys : List SlogItem) → IsSchemaItem y f (xs ++ ys) → IsSchemaItem y f xs ⊎ IsSchemaItem y f ys
item_parts y f xs ys (inl made) = ⊎_elim (λ front. inl (inl front)) (λ back. inr (inl back)) (among_parts (CreateOf y f) xs ys made)
item_parts y f xs ys (inr dropped) = ⊎_elim (λ front. inl (inr front)) (λ back. inr (inr back)) (among_parts (DropOf y f) xs ys dropped)

-- who has no item has none of a table
none_of_table : (x y f : ℕ) (items : List SlogItem) → ((i : SlogItem) → IsAmong i items → is_item_by x i ≡ false) → y ≡ x → IsSchemaItem y f items → ⊥
none_of_table x y f items none same (inl made) = false≢true (sym (none (CreateOf y f) made) ∙ eq-eqb y x same)
none_of_table x y f items none same (inr dropped) = false≢true (sym (none (DropOf y f) dropped) ∙ eq-eqb y x same)

module _ (names : NamesOf) (c : Start) (now : ℕ) (site : Site) (w : Mind) (v : UndoLeft) (keeps : KeepsRun c now site w) where
  abbrev title : ℕ → Title
  title = site.area.title

  abbrev left : IsUndoLeft site.tables w.run.sessions w.undo
  left = keeps.scene.undo.0

  abbrev sound : IsSoundSite site
  sound = keeps.scene.shown.paged.sound

  abbrev holds : HoldsNames v.items title [] (at_rest c.base (names_of_items title v.items))
  holds = names v.items title c.base

  -- an item of a table, the last in undo's list, and what it leaves of the items
  module _ (i : SlogItem) (x e : ℕ) (wanted : Wanted) (is : w.undo.items ≡ v.items ++ i ∷ []) (its : IsSchemaItem x e w.undo.items) (theirs : IsAmong x w.undo.orphans)
      (gone : left_out wanted site.tables.items ≡ v.items ++ left.run) where
    -- who has another one in the list is left open too
    theirs_too : (y f : ℕ) → IsSchemaItem y f v.items → IsAmong y w.undo.orphans
    theirs_too y f (inl made) = left.theirs (CreateOf y f) (subst (IsAmong (CreateOf y f)) (sym is) (among_front (CreateOf y f) v.items (i ∷ []) made))
    theirs_too y f (inr dropped) = left.theirs (DropOf y f) (subst (IsAmong (DropOf y f)) (sym is) (among_front (DropOf y f) v.items (i ∷ []) dropped))

    pub kept_by : has_name (title e).name (names_of_items title v.items) ≡ true → (y : ℕ) × (f : ℕ) × IsItemOfName e wanted site y f × IsNoSessions w.run.sessions y
    kept_by has =
        let other = holds.left (title e).name has in
        (other.0, other.1, (subst (IsSchemaItem other.0 other.1) (sym gone) (item_front other.0 other.1 v.items left.run other.2), other.3), left.nobodys other.0 (theirs_too other.0 other.1 other.2))

    here : IsSchemaItem x e site.tables.items
    here = subst (IsSchemaItem x e) (sym left.items) (item_front x e w.undo.items left.run its)

    item_back : (y f : ℕ) → IsSchemaItem y f (left_out wanted site.tables.items) → IsSchemaItem y f site.tables.items
    item_back y f (inl made) = inl (left_back wanted (CreateOf y f) site.tables.items made)
    item_back y f (inr dropped) = inr (left_back wanted (DropOf y f) site.tables.items dropped)

    pub released_by : has_name (title e).name (names_of_items title v.items) ≡ false → (y f : ℕ) → IsItemOfName e wanted site y f → ⊥
    released_by none y f item = ⊎_elim
        (λ front. ⊎_elim (λ by. let f = by.at in absurd cc) (λ stuck. false≢true (sym none ∙ ap (λ n. has_name n (names_of_items title v.items)) (sym item.1) ∙ stuck.1)) (holds.owned y f front))
        (λ run. none_of_table x y f left.run (left.own x theirs) (sound.names.of_one y x f e (item_back y f item.0) here item.1) run)
        (item_parts y f v.items left.run (subst (IsSchemaItem y f) gone item.0))

  -- by the next of undo's list
  module _ (alone : GoesAlone) where
    last_of_list : (i : SlogItem) → w.undo.items ≡ v.items ++ i ∷ [] → IsAmong i w.undo.items
    last_of_list i is = subst (IsAmong i) (sym is) (among_rest i v.items (i ∷ []) (inl refl))

    gone_alone : (x : ℕ) (i : SlogItem) → w.undo.items ≡ v.items ++ i ∷ [] → (site_after x (undoing i) site).tables.items ≡ v.items ++ left.run
    gone_alone x i is = alone x site i v.items left.run keeps.scene.shown.paged.bounds sound (with_latest site.tables w.run.sessions w.undo left v.items i is)

    pub name_kept : (item : UndoItem) → Goes item (list_of w) v → has_name (name_undone item site) (names_of_items title v.items) ≡ true → IsNameKept item site w
    name_kept (Slog (AllocOf x p)) goes has = tt
    name_kept (Slog (FreeOf p)) goes has = tt
    name_kept (Slog (CreateOf x e)) goes has =
        let in_ = last_of_list (CreateOf x e) goes.0 in
        kept_by (CreateOf x e) x e (Creation e) goes.0 (inl in_) (left.theirs (CreateOf x e) in_) (gone_alone x (CreateOf x e) goes.0) has
    name_kept (Slog (DropOf x e)) goes has =
        let in_ = last_of_list (DropOf x e) goes.0 in
        kept_by (DropOf x e) x e (Dropping e) goes.0 (inr in_) (left.theirs (DropOf x e) in_) (gone_alone x (DropOf x e) goes.0) has
    name_kept (Orphan x) goes has = tt

    pub name_released : (item : UndoItem) → Goes item (list_of w) v → IsOfTable item → has_name (name_undone item site) (names_of_items title v.items) ≡ false → IsNameReleased item site
    name_released (Slog (AllocOf x p)) goes its none = absurd its
    name_released (Slog (FreeOf p)) goes its none = absurd its
    name_released (Slog (CreateOf x e)) goes its none =
        let in_ = last_of_list (CreateOf x e) goes.0 in
        released_by (CreateOf x e) x e (Creation e) goes.0 (inl in_) (left.theirs (CreateOf x e) in_) (gone_alone x (CreateOf x e) goes.0) none
    name_released (Slog (DropOf x e)) goes its none =
        let in_ = last_of_list (DropOf x e) goes.0 in
        released_by (DropOf x e) x e (Dropping e) goes.0 (inr in_) (left.theirs (DropOf x e) in_) (gone_alone x (DropOf x e) goes.0) none
    name_released (Orphan x) goes its none = absurd its
