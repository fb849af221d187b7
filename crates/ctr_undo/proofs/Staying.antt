-- The names of tables of which there are items stay, whatever is done.
use Rattle.std.proofs.Common.{◌≡◌, ◌≢◌, inl, inr, ℕ, ◌==◌, true, cond, List, [], ◌∷◌, ◌++◌, refl, sym, ◌∙◌, ap, arith}
use Rattle.std.proofs.lemmas.Bool.{eqb-true, ne_eqb}
use Rattle.ctr_versions.proofs.Keys.{known}
use Rattle.ctr_rec.specs.declared.record.SlogItem.{SlogItem}
use Rattle.ctr_rec.specs.declared.record.SlogItem.TheVariants.{AllocOf, FreeOf, CreateOf, DropOf}
use Rattle.ctr_area.specs.Areas.{Title}
use Rattle.ctr_area.specs.Images.{is_live}
use Rattle.ctr_area.specs.Sound.{IsAmong}
use Rattle.ctr_names.specs.Held.{names_of_items}
use Rattle.ctr_actions.specs.Sites.{Site, IsSoundSite}
use Rattle.ctr_actions.specs.Actions.{Action, Begins, Allocates, Formats, Links, LinksOlder, Keeps, Writes, Creates, Drops, Commits, Frees, Uncreates, Undrops, Aborts, Reclaims, Reverts, Trims, Cuts, FreesOlder, MakesDead, Unlinks, UnlinksOlder, FreesEntry, Forgets, Checkpoints, Owes, site_after}
use Rattle.ctr_undo.specs.declared.list.UndoItem.{UndoItem}
use Rattle.ctr_undo.specs.declared.list.UndoItem.TheVariants.{Slog, Orphan}
use Rattle.ctr_undo.specs.Left.{UndoLeft, Goes}
use Rattle.ctr_undo.specs.Keeping.{names_undone}

-- an entry gets a title of the same name, or it is another one
retitled : (title : ℕ → Title) (e f : ℕ) (u : Title) → u.name ≡ (title e).name → (cond (f == e) u (title f)).name ≡ (title f).name
retitled title e f u same = known (f == e)
    (λ is. ap (λ b. (cond b u (title f)).name) is ∙ same ∙ ap (λ n. (title n).name) (sym (eqb-true f e is)))
    (λ isnt. ap (λ b. (cond b u (title f)).name) isnt)

another : (title : ℕ → Title) (e f : ℕ) (u : Title) → f ≢ e → (cond (f == e) u (title f)).name ≡ (title f).name
another title e f u apart = ap (λ b. (cond b u (title f)).name) (ne_eqb f e apart)

-- a live entry is none that is free, or dead
live_apart : (title : ℕ → Title) (e f n : ℕ) → (title e).state ≡ n → n ≢ 1 → is_live (title f) ≡ true → f ≢ e
live_apart title e f n state other live same = other (sym state ∙ ap (λ k. (title k).state) (sym same) ∙ eqb-true (title f).state 1 live)

module _ (y : ℕ) (s : Site) (f : ℕ) (live : is_live (s.area.title f) ≡ true) where
  pub name_stays : (a : Action) → Owes y a s → ((site_after y a s).area.title f).name ≡ (s.area.title f).name
  name_stays Begins owed = refl
  name_stays (Allocates p) owed = refl
  name_stays (Formats p h) owed = refl
  name_stays (Links p e b) owed = refl
  name_stays (LinksOlder p e) owed = refl
  name_stays (Keeps e at older) owed = refl
  name_stays (Writes m) owed = refl
  name_stays (Creates e name columns left) owed = ap (λ (t : Title). t.name) (owed.1.titles f) ∙ another s.area.title e f _ (live_apart s.area.title e f 0 owed.0.free (λ is. omega (arith, is)) live)
  name_stays (Drops e) owed = retitled s.area.title e f _ refl
  name_stays Commits owed = refl
  name_stays (Frees p) owed = refl
  name_stays (Uncreates e) owed = retitled s.area.title e f _ refl
  name_stays (Undrops e) owed = retitled s.area.title e f _ refl
  name_stays Aborts owed = refl
  name_stays (Reclaims p) owed = refl
  name_stays (Reverts e at way) owed = refl
  name_stays (Trims passes e at way) owed = refl
  name_stays (Cuts passes e at q) owed = refl
  name_stays (FreesOlder e q) owed = refl
  name_stays (MakesDead passes e) owed = retitled s.area.title e f _ refl
  name_stays (Unlinks p e b) owed = refl
  name_stays (UnlinksOlder p e) owed = refl
  name_stays (FreesEntry e title left) owed = ap (λ (t : Title). t.name) (owed.2.titles f) ∙ another s.area.title e f _ (live_apart s.area.title e f 2 owed.0.dead (λ is. omega (arith, is)) live)
  name_stays (Forgets z) owed = refl
  name_stays (Checkpoints lists) owed = refl

-- ---- of items

names_same : (old new : ℕ → Title) (items : List SlogItem) → ((x e : ℕ) → IsAmong (CreateOf x e) items → (new e).name ≡ (old e).name)
    → ((x e : ℕ) → IsAmong (DropOf x e) items → (new e).name ≡ (old e).name) → names_of_items new items ≡ names_of_items old items
names_same old new [] made dropped = refl
names_same old new (AllocOf x p ∷ is) made dropped = names_same old new is (λ y e in_. made y e (inr in_)) (λ y e in_. dropped y e (inr in_))
names_same old new (FreeOf p ∷ is) made dropped = names_same old new is (λ y e in_. made y e (inr in_)) (λ y e in_. dropped y e (inr in_))
names_same old new (CreateOf x e ∷ is) made dropped =
    ap (λ n. n ∷ names_of_items new is) (made x e (inl refl)) ∙ ap (λ l. (old e).name ∷ l) (names_same old new is (λ y f in_. made y f (inr in_)) (λ y f in_. dropped y f (inr in_)))
names_same old new (DropOf x e ∷ is) made dropped =
    ap (λ n. n ∷ names_of_items new is) (dropped x e (inl refl)) ∙ ap (λ l. (old e).name ∷ l) (names_same old new is (λ y f in_. made y f (inr in_)) (λ y f in_. dropped y f (inr in_)))

pub names_stay : (y : ℕ) (a : Action) (s : Site) (items : List SlogItem) → IsSoundSite s → Owes y a s → ((i : SlogItem) → IsAmong i items → IsAmong i s.tables.items)
    → names_of_items (site_after y a s).area.title items ≡ names_of_items s.area.title items
names_stay y a s items sound owed among = names_same s.area.title (site_after y a s).area.title items
    (λ x e in_. name_stays y s e (sound.names.creates x e (among (CreateOf x e) in_)).0 a owed)
    (λ x e in_. name_stays y s e (sound.names.drops x e (among (DropOf x e) in_)).0 a owed)

-- a live entry is taken
taken : (t : Title) → is_live t ≡ true → t.state ≢ 0
taken t live = apart t.state (eqb-true t.state 1 live)
  where
    apart : (n : ℕ) → n ≡ 1 → n ≢ 0
    apart n is none = omega (arith, is, none)

-- so they stay wherever entries that are taken keep their names
pub names_kept : (s : Site) (now : ℕ → Title) (items : List SlogItem) → IsSoundSite s → ((e : ℕ) → (s.area.title e).state ≢ 0 → (now e).name ≡ (s.area.title e).name) → ((i : SlogItem) → IsAmong i items → IsAmong i s.tables.items)
    → names_of_items now items ≡ names_of_items s.area.title items
names_kept s now items sound named among = names_same s.area.title now items
    (λ x e in_. named e (taken (s.area.title e) (sound.names.creates x e (among (CreateOf x e) in_)).0))
    (λ x e in_. named e (taken (s.area.title e) (sound.names.drops x e (among (DropOf x e) in_)).0))

-- the names of items, and of one behind them
names_behind : (title : ℕ → Title) (items : List SlogItem) (i : SlogItem) → names_of_items title (items ++ i ∷ []) ≡ names_of_items title items ++ names_of_items title (i ∷ [])
names_behind title [] i = refl
names_behind title (AllocOf x p ∷ is) i = names_behind title is i
names_behind title (FreeOf p ∷ is) i = names_behind title is i
names_behind title (CreateOf x e ∷ is) i = ap (λ l. (title e).name ∷ l) (names_behind title is i)
names_behind title (DropOf x e ∷ is) i = ap (λ l. (title e).name ∷ l) (names_behind title is i)

nothing_behind : {A : Type 0} (l : List A) → l ≡ l ++ []
nothing_behind [] = refl
nothing_behind (x ∷ l) = ap (λ r. x ∷ r) (nothing_behind l)

pub names_go : (item : UndoItem) (u v : UndoLeft) (s : Site) → Goes item u v → names_of_items s.area.title u.items ≡ names_of_items s.area.title v.items ++ names_undone item s
names_go (Slog (AllocOf x p)) u v s goes = ap (names_of_items s.area.title) goes.0 ∙ names_behind s.area.title v.items (AllocOf x p)
names_go (Slog (FreeOf p)) u v s goes = ap (names_of_items s.area.title) goes.0 ∙ names_behind s.area.title v.items (FreeOf p)
names_go (Slog (CreateOf x e)) u v s goes = ap (names_of_items s.area.title) goes.0 ∙ names_behind s.area.title v.items (CreateOf x e)
names_go (Slog (DropOf x e)) u v s goes = ap (names_of_items s.area.title) goes.0 ∙ names_behind s.area.title v.items (DropOf x e)
names_go (Orphan x) u v s goes = ap (names_of_items s.area.title) (goes.0 ∙ sym goes.1) ∙ nothing_behind (names_of_items s.area.title v.items)
