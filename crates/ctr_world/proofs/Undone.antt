-- A turn of undo in a World, and the name that goes with it.
use Rattle.std.proofs.Common.{◌≡◌, ⊎_elim, ℕ, ◌<◌, true, false, cond, List, [], ◌∷◌, ◌++◌, Option, Some, None, refl, sym, ◌∙◌, ap, subst}
use Rattle.std.proofs.lemmas.List.{append-nil}
use Rattle.ctr_disk.specs.declared.disk.Disk.{Ghosts}
use Rattle.ctr_disk.specs.Image.{Image}
use Rattle.ctr_types.specs.declared.statement.Line.{Line}
use Rattle.ctr_model.specs.State.{has_name, transaction_of}
use Rattle.ctr_rec.specs.declared.record.SlogItem.TheVariants.{AllocOf, FreeOf, CreateOf, DropOf}
use Rattle.ctr_versions.proofs.Keys.{known}
use Rattle.ctr_area.specs.Sound.{IsAmong}
use Rattle.ctr_names.specs.Held.{names_of_items}
use Rattle.ctr_redo.specs.States.{State}
use Rattle.ctr_record_effects.specs.States.{area_in}
use Rattle.ctr_actions.specs.Sites.{Site, site_of}
use Rattle.ctr_actions.specs.Actions.{Action}
use Rattle.ctr_undo.specs.kept_Turns.{Start, KeepsRun, state_now}
use Rattle.ctr_undo.specs.kept_Walk.{Mind}
use Rattle.ctr_undo.specs.stops_World.{KeepsWorld}
use Rattle.ctr_store.specs.Store.{View}
use Rattle.ctr_undo.specs.page_turns_Turns.{LogsAtRest}
use Rattle.ctr_undo.specs.page_turns_Acts.{ActsBy}
use Rattle.ctr_undo.specs.declared.list.UndoItem.{UndoItem}
use Rattle.ctr_undo.specs.declared.list.UndoItem.TheVariants.{Slog, Orphan}
use Rattle.ctr_undo.specs.Left.{UndoLeft, Goes}
use Rattle.ctr_undo.specs.Turns.{MayUndo, Undoes}
use Rattle.ctr_undo.specs.Keeping.{list_of, undone_to, released_to, IsOfTable, name_undone, names_undone, IsNameKept, IsNameReleased}
use Rattle.ctr_undo.proofs.Lists.{some_in}
use Rattle.ctr_pass.specs.exec_sessions_Sessions.{Sessions}
use Rattle.ctr_pass.specs.exec_Sessions.{IsReleased, ShowsSessions}
use Rattle.ctr_world.specs.declared.opening.Opening.{Ghosts as Opening}
use Rattle.ctr_world.specs.Held.{Running}
use Rattle.ctr_world.specs.World.{FullCountsAll, Shows, start_in}
use Rattle.ctr_world.proofs.Filling.{full_released}
use Rattle.ctr_world.specs.Turns.{AreSessionsBehind, LastGoes, NameGoes}

-- ---- lists

pub snoc_back : {A : Type 0} (xs ys : List A) (x y : A) → xs ++ x ∷ [] ≡ ys ++ y ∷ [] → (xs ≡ ys) × (x ≡ y)
snoc_back [] [] x y is = (refl, cc is)
snoc_back [] (b ∷ ys) x y is = absurd (some_in (ys ++ y ∷ []) ys y refl (cc is))
snoc_back (a ∷ xs) [] x y is = absurd (some_in (xs ++ x ∷ []) xs x refl (cc is))
snoc_back (a ∷ xs) (b ∷ ys) x y is = let rest = snoc_back xs ys x y (cc is) in let head : a ≡ b = cc is in ((λ i. head i ∷ rest.0 i), rest.1)

-- one thing is next
pub goes_one : (i j : UndoItem) (u v w : UndoLeft) → Goes i u v → Goes j u w → i ≡ j
goes_one (Slog a) (Slog b) u v w one other = ap Slog (snoc_back v.items w.items a b (sym one.0 ∙ other.0)).1
goes_one (Slog a) (Orphan y) u v w one other = absurd (some_in u.items v.items a one.0 other.0)
goes_one (Orphan x) (Slog b) u v w one other = absurd (some_in u.items w.items b other.0 one.0)
goes_one (Orphan x) (Orphan y) u v w one other = let same : x ≡ y = let is = sym one.2 ∙ other.2 in cc is in ap Orphan same

-- ---- in a World

-- the laws of a turn of undo
pub record Laws {D : Type 0} (g : Ghosts D) : Type 0 where
  pub may : (c : Start) (opened : D) (a : View D) (w : Mind) → KeepsWorld g c opened a w → MayUndo (list_of w) a.now
  pub kept : (c : Start) (opened : D) (a b : View D) (w : Mind) (v : UndoLeft) → KeepsWorld g c opened a w → (does : Undoes (list_of w) v a.now b.now)
      → IsNameKept does.item (site_of a.now) w → LogsAtRest g a b → KeepsWorld g c opened b (undone_to v w)
  pub released : (c : Start) (opened : D) (a b : View D) (w : Mind) (v : UndoLeft) → KeepsWorld g c opened a w → (does : Undoes (list_of w) v a.now b.now)
      → IsNameReleased does.item (site_of a.now) → transaction_of (state_now c w) 0 ≡ None → LogsAtRest g a b
      → KeepsWorld g c opened b (released_to v (name_undone does.item (site_of a.now)) (g.moment_of b.disk) w)
  pub stay : (x : ℕ) (a : Action) (s t : State) (u : UndoLeft) → MayUndo u s → ActsBy x a s t → names_of_items (area_in t).title u.items ≡ names_of_items (area_in s).title u.items
  pub go : (item : UndoItem) (u v : UndoLeft) (site : Site) → Goes item u v → names_of_items site.area.title u.items ≡ names_of_items site.area.title v.items ++ names_undone item site
  pub name_kept : (c : Start) (now : ℕ) (site : Site) (w : Mind) (item : UndoItem) (v : UndoLeft) → KeepsRun c now site w → Goes item (list_of w) v
      → has_name (name_undone item site) (names_of_items site.area.title v.items) ≡ true → IsNameKept item site w
  pub name_released : (c : Start) (now : ℕ) (site : Site) (w : Mind) (item : UndoItem) (v : UndoLeft) → KeepsRun c now site w → Goes item (list_of w) v → IsOfTable item
      → has_name (name_undone item site) (names_of_items site.area.title v.items) ≡ false → IsNameReleased item site
  pub nobody : (c : Start) (now : ℕ) (site : Site) (w : Mind) → KeepsRun c now site w → ((l : Line) → IsAmong l c.lines → 0 < l.session) → transaction_of (state_now c w) 0 ≡ None
  pub beside : (c : Start) (opened : D) (a b : View D) (h : Sessions) (w : Mind) (v : UndoLeft) → ShowsSessions g c opened a h w → (does : Undoes (list_of w) v a.now b.now)
      → KeepsWorld g c opened b (undone_to v w) → ShowsSessions g c opened b h (undone_to v w)
  pub beside_released : (c : Start) (opened : D) (a b : View D) (h now : Sessions) (w : Mind) (v : UndoLeft) (moment : ℕ) → ShowsSessions g c opened a h w → (does : Undoes (list_of w) v a.now b.now)
      → IsReleased (name_undone does.item (site_of a.now)) moment h now
      → KeepsWorld g c opened b (released_to v (name_undone does.item (site_of a.now)) moment w)
      → ShowsSessions g c opened b now (released_to v (name_undone does.item (site_of a.now)) moment w)

module _ {D B : Type 0} (o : Opening B) (first : Image) (g : Ghosts D) (laws : Laws g) (s : State) (old : Running D) (b : View D) (v : UndoLeft) (names : List (List ℕ)) (now : Sessions) (shows : Shows o first g s old)
    (does : Undoes old.undo v old.store.now b.now) (rests : LogsAtRest g old.store b) (lines : (l : Line) → IsAmong l o.lines → 0 < l.session) where
  abbrev new : Running D
  new = record old { store = b; undo = v; names = names; sessions = now }

  abbrev c : Start
  c = start_in o s

  abbrev w : Mind
  w = shows.mind

  abbrev a : View D
  a = old.store

  keeps : KeepsWorld g c shows.opened a w
  keeps = shows.shows.world.keeps

  goes : Goes does.item (list_of w) v
  goes = subst (λ (u : UndoLeft). Goes does.item u v) (sym shows.undo) does.goes

  abbrev its : Undoes (list_of w) v a.now b.now
  its = record { item = does.item; goes = goes; acts = does.acts }

  -- the names of what was left, before and behind
  names_were : names_of_items (area_in a.now).title v.items ++ names_undone does.item (site_of a.now) ≡ old.names
  names_were = sym (laws.go does.item old.undo v (site_of a.now) does.goes) ∙ shows.names

  names_are : names_of_items (area_in b.now).title v.items ++ names_undone does.item (site_of b.now) ≡ old.names
  names_are = sym (laws.go does.item old.undo v (site_of b.now) does.goes)
      ∙ laws.stay _ _ a.now b.now old.undo (subst (λ (u : UndoLeft). MayUndo u a.now) shows.undo (laws.may c shows.opened a w keeps)) does.acts ∙ shows.names

  -- as many pages are counted
  full_now : FullCountsAll w.tape b.now.counted
  full_now = subst (FullCountsAll w.tape) (sym (ap (λ (q : State). q.counted) rests.logs.now)) shows.full

  -- no name is released
  kept_so : IsNameKept does.item (site_of a.now) w → names_of_items (area_in b.now).title v.items ≡ names → now ≡ old.sessions → Shows o first g s new
  kept_so kept names_now same = record {
    opened = shows.opened;
    on = shows.on;
    mind = undone_to v w;
    shows = subst (λ (h : Sessions). ShowsSessions g c shows.opened b h (undone_to v w)) (sym same) (laws.beside c shows.opened a b old.sessions w v shows.shows its (laws.kept c shows.opened a b w v keeps its kept rests));
    undo = refl;
    names = names_now;
    numbered = shows.numbered;
    full = full_now;
  }

  -- one is
  released_so : IsNameReleased does.item (site_of a.now) → names_of_items (area_in b.now).title v.items ≡ names → IsReleased (name_undone does.item (site_of a.now)) (g.moment_of b.disk) old.sessions now → Shows o first g s new
  released_so released names_now is = record {
    opened = shows.opened;
    on = shows.on;
    mind = released_to v (name_undone does.item (site_of a.now)) (g.moment_of b.disk) w;
    shows = laws.beside_released c shows.opened a b old.sessions now w v (g.moment_of b.disk) shows.shows its is
        (laws.released c shows.opened a b w v keeps its released (laws.nobody c _ (site_of a.now) w keeps.walks lines) rests);
    undo = refl;
    names = names_now;
    numbered = shows.numbered;
    full = full_released w.tape (name_undone does.item (site_of a.now)) (g.moment_of b.disk) b.now.counted full_now;
  }

  -- what is of no table takes no name with it
  none_goes : IsNameKept does.item (site_of a.now) w → names_undone does.item (site_of b.now) ≡ [] → names ≡ old.names → now ≡ old.sessions → Shows o first g s new
  none_goes kept none same_names same = kept_so kept
      (sym (append-nil (names_of_items (area_in b.now).title v.items)) ∙ ap (λ l. names_of_items (area_in b.now).title v.items ++ l) (sym none) ∙ names_are ∙ sym same_names) same

  -- what is of a table takes the last
  module _ (of_table : IsOfTable does.item) (undone_a : names_undone does.item (site_of a.now) ≡ name_undone does.item (site_of a.now) ∷ []) (undone_b : names_undone does.item (site_of b.now) ≡ name_undone does.item (site_of b.now) ∷ []) where
    last_goes : (told : Option (List ℕ)) → LastGoes old.names names told → AreSessionsBehind told (g.moment_of b.disk) old.sessions now → Shows o first g s new
    last_goes told goes_so behind = ⊎_elim
        (λ none. absurd (some_in old.names (names_of_items (area_in a.now).title v.items) (name_undone does.item (site_of a.now)) (sym names_were ∙ ap (λ l. names_of_items (area_in a.now).title v.items ++ l) undone_a) none.0))
        (λ some. by some.0 some.1 some.2)
        goes_so
      where
        by : (name : List ℕ) → old.names ≡ names ++ name ∷ [] → told ≡ cond (has_name name names) None (Some name) → Shows o first g s new
        by name split told_is =
            let back_a = snoc_back (names_of_items (area_in a.now).title v.items) names (name_undone does.item (site_of a.now)) name (ap (λ l. names_of_items (area_in a.now).title v.items ++ l) (sym undone_a) ∙ names_were ∙ split) in
            let back_b = snoc_back (names_of_items (area_in b.now).title v.items) names (name_undone does.item (site_of b.now)) name (ap (λ l. names_of_items (area_in b.now).title v.items ++ l) (sym undone_b) ∙ names_are ∙ split) in
            let same_has : has_name (name_undone does.item (site_of a.now)) (names_of_items (area_in a.now).title v.items) ≡ has_name name names = λ i. has_name (back_a.1 i) (back_a.0 i) in
            known (has_name name names)
            (λ yes. kept_so (laws.name_kept c _ (site_of a.now) w does.item v keeps.walks goes (same_has ∙ yes)) back_b.0
            (subst (λ (t : Option (List ℕ)). AreSessionsBehind t (g.moment_of b.disk) old.sessions now) (told_is ∙ ap (λ q. cond q None (Some name)) yes) behind))
            (λ no. released_so (laws.name_released c _ (site_of a.now) w does.item v keeps.walks goes of_table (same_has ∙ no)) back_b.0
            (subst (λ n. IsReleased n (g.moment_of b.disk) old.sessions now) (sym back_a.1)
            (subst (λ (t : Option (List ℕ)). AreSessionsBehind t (g.moment_of b.disk) old.sessions now) (told_is ∙ ap (λ q. cond q None (Some name)) no) behind)))

  -- whatever it was
  pub undone_so : (next : UndoItem) → does.item ≡ next → (told : Option (List ℕ)) → NameGoes next old.names names told → AreSessionsBehind told (g.moment_of b.disk) old.sessions now → Shows o first g s new
  undone_so (Slog (AllocOf x p)) is told goes_so behind =
      none_goes (subst (λ (i : UndoItem). IsNameKept i (site_of a.now) w) (sym is) tt) (ap (λ (i : UndoItem). names_undone i (site_of b.now)) is) goes_so.0 (subst (λ (t : Option (List ℕ)). AreSessionsBehind t (g.moment_of b.disk) old.sessions now) goes_so.1 behind)
  undone_so (Slog (FreeOf p)) is told goes_so behind =
      none_goes (subst (λ (i : UndoItem). IsNameKept i (site_of a.now) w) (sym is) tt) (ap (λ (i : UndoItem). names_undone i (site_of b.now)) is) goes_so.0 (subst (λ (t : Option (List ℕ)). AreSessionsBehind t (g.moment_of b.disk) old.sessions now) goes_so.1 behind)
  undone_so (Slog (CreateOf x e)) is told goes_so behind =
      last_goes (subst IsOfTable (sym is) tt) (subst (λ (i : UndoItem). names_undone i (site_of a.now) ≡ name_undone i (site_of a.now) ∷ []) (sym is) refl) (subst (λ (i : UndoItem). names_undone i (site_of b.now) ≡ name_undone i (site_of b.now) ∷ []) (sym is) refl) told goes_so behind
  undone_so (Slog (DropOf x e)) is told goes_so behind =
      last_goes (subst IsOfTable (sym is) tt) (subst (λ (i : UndoItem). names_undone i (site_of a.now) ≡ name_undone i (site_of a.now) ∷ []) (sym is) refl) (subst (λ (i : UndoItem). names_undone i (site_of b.now) ≡ name_undone i (site_of b.now) ∷ []) (sym is) refl) told goes_so behind
  undone_so (Orphan x) is told goes_so behind =
      none_goes (subst (λ (i : UndoItem). IsNameKept i (site_of a.now) w) (sym is) tt) (ap (λ (i : UndoItem). names_undone i (site_of b.now)) is) goes_so.0 (subst (λ (t : Option (List ℕ)). AreSessionsBehind t (g.moment_of b.disk) old.sessions now) goes_so.1 behind)
