-- What undoes what is next owes nothing more.
use Rattle.std.proofs.Common.{◌≡◌, inl, ℕ, true, false, cond, [], ◌∷◌, ◌++◌, refl, sym, ap, subst}
use Rattle.std.proofs.lemmas.Bool.{eq-eqb}
use Rattle.ctr_rec.specs.declared.record.SlogItem.{SlogItem}
use Rattle.ctr_rec.specs.declared.record.SlogItem.TheVariants.{AllocOf, FreeOf, CreateOf, DropOf}
use Rattle.ctr_meta.specs.Effects.{effect}
use Rattle.ctr_meta.specs.Kept.{TablesKept, RoomLeft, opens_added, items_added}
use Rattle.ctr_meta.specs.Tables.{Tables}
use Rattle.ctr_area.specs.Sound.{IsAmong}
use Rattle.ctr_record_laws.proofs.Members.{among_front, among_rest}
use Rattle.ctr_record_laws.specs.Owed.{IsLastItem}
use Rattle.ctr_redo.specs.States.{State}
use Rattle.ctr_actions.specs.Sites.{Site, site_of}
use Rattle.ctr_actions.specs.Actions.{Owes, undoing}
use Rattle.ctr_rollback.specs.kept_Undo.{Undo}
use Rattle.ctr_rollback.proofs.kept_Undo.{item_is_last, orphan_owes}
use Rattle.ctr_rollback.proofs.Records.{undo_next, undo_leaves_room}
use Rattle.ctr_undo.specs.declared.list.UndoItem.{UndoItem}
use Rattle.ctr_undo.specs.declared.list.UndoItem.TheVariants.{Slog, Orphan}
use Rattle.ctr_undo.specs.Left.{UndoLeft, Goes}
use Rattle.ctr_undo.specs.Turns.{record_for, undo_action, undo_actor, MayUndo}

-- the latest item of a transaction can be undone
abbrev pub LatestOwes : Type 0
LatestOwes = (x : ℕ) (s : Site) (i : SlogItem) → IsLastItem x i s.tables.items → Owes x (undoing i) s

module _ (u v : UndoLeft) (s : State) (may : MayUndo u s) where
  abbrev left_now : Undo
  left_now = record { items = u.items; orphans = u.orphans; turns = may.turns; first = may.first }

  last_among : (i : SlogItem) → u.items ≡ v.items ++ i ∷ [] → IsAmong i u.items
  last_among i is = subst (IsAmong i) (sym is) (among_rest i v.items (i ∷ []) (inl refl))

  pub owes_next : LatestOwes → (item : UndoItem) → Goes item u v → Owes (undo_actor item s.tables) (undo_action item) (site_of s)
  owes_next latest (Slog (AllocOf x p)) goes = latest x (site_of s) (AllocOf x p) (item_is_last s.tables may.sessions left_now may.left v.items (AllocOf x p) x goes.0 (ap (λ b. cond b true false) (eq-eqb x x refl)) (may.left.theirs (AllocOf x p) (last_among (AllocOf x p) goes.0)))
  owes_next latest (Slog (FreeOf p)) goes = subst (IsAmong (FreeOf p)) (sym may.left.items) (among_front (FreeOf p) u.items may.left.run (last_among (FreeOf p) goes.0))
  owes_next latest (Slog (CreateOf x e)) goes = latest x (site_of s) (CreateOf x e) (item_is_last s.tables may.sessions left_now may.left v.items (CreateOf x e) x goes.0 (eq-eqb x x refl) (may.left.theirs (CreateOf x e) (last_among (CreateOf x e) goes.0)))
  owes_next latest (Slog (DropOf x e)) goes = latest x (site_of s) (DropOf x e) (item_is_last s.tables may.sessions left_now may.left v.items (DropOf x e) x goes.0 (eq-eqb x x refl) (may.left.theirs (DropOf x e) (last_among (DropOf x e) goes.0)))
  owes_next latest (Orphan x) goes = orphan_owes s.tables may.sessions left_now may.left x goes.0 (subst (IsAmong x) (sym goes.2) (inl refl))

-- no record of undo draws a number, nor adds to the tables
pub next_for : (item : UndoItem) (byte : ℕ) (tables : Tables) → (effect (record_for item byte) tables).next ≡ tables.next
next_for (Slog i) byte tables = undo_next i byte tables
next_for (Orphan x) byte tables = refl

pub room_for_next : (item : UndoItem) (byte : ℕ) (k l : TablesKept) → RoomLeft (opens_added (record_for item byte)) (items_added (record_for item byte)) k l → RoomLeft 0 0 k l
room_for_next (Slog i) byte k l left = undo_leaves_room i byte k l left
room_for_next (Orphan x) byte k l left = left
