-- A World in which nothing is left of undo and nothing waits in the log: what a crash leaves has nothing of the start to undo.
use Rattle.std.proofs.Common.{◌≡◌, ⊎_elim, ℕ, ◌<◌, ◌≤◌, List, [], true, false, cond, refl, sym, ◌∙◌, ap, subst, arith}
use Rattle.std.proofs.lemmas.Bool.{ne_eqb}
use Rattle.std.specs.Prelude.{take}
use Rattle.ctr_types.specs.declared.tape.Entry.{Entry}
use Rattle.ctr_disk.specs.declared.disk.Disk.{Ghosts}
use Rattle.ctr_disk.specs.Image.{Image}
use Rattle.ctr_rec.specs.declared.record.Record.{Record}
use Rattle.ctr_rec.specs.declared.record.SlogItem.TheVariants.{AllocOf, FreeOf, CreateOf, DropOf}
use Rattle.ctr_area.specs.Sound.{IsAmong, xids_in}
use Rattle.ctr_record_laws.proofs.Xids.{among_in}
use Rattle.ctr_record_laws.specs.Owed.{HasNoItems}
use Rattle.ctr_redo.specs.Images.{FoldsTo}
use Rattle.ctr_redo.specs.States.{State, steps}
use Rattle.ctr_record_effects.specs.Standing.{IsDatabaseState, StandsForDatabase}
use Rattle.ctr_undo.proofs.stops_Fronts.{take_none}
use Rattle.ctr_undo.specs.stops_World.{KeepsWorld}
use Rattle.ctr_undo.specs.Left.{IsUndoOver as NoneIsLeft}
use Rattle.ctr_world.specs.declared.opening.Opening.{Ghosts as Opening}
use Rattle.ctr_world.specs.Ended.{CountsAllPages, HasNoUndoOf}
use Rattle.ctr_world.specs.Held.{Running}
use Rattle.ctr_world.specs.World.{IsFullEntry, Shows, start_in}

-- who has an item is open
later_items : (first : ℕ) (t : State) → IsDatabaseState t → ((x : ℕ) → IsAmong x (xids_in t.tables.opens) → first ≤ x) → (x : ℕ) → x < first → HasNoItems x t.tables.items
later_items first t sound opens x before = by
  where
    early : (y : ℕ) → IsAmong y (xids_in t.tables.opens) → y ≡ x → ⊥
    early y in_ is = let late = opens y in_ in omega (arith, late, is, before)

    by : HasNoItems x t.tables.items
    by (AllocOf y p) in_ = ap (λ b. cond b true false) (ne_eqb y x (early y (sound.sound.owned.allocs y p in_)))
    by (FreeOf p) in_ = refl
    by (CreateOf y e) in_ = ne_eqb y x (early y (sound.sound.owned.creates y e in_))
    by (DropOf y e) in_ = ne_eqb y x (early y (sound.sound.owned.drops y e in_))

module _ {D B : Type 0} (o : Opening B) (first : Image) (g : Ghosts D) (s : State) (w : Running D) (shows : Shows o first g s w) (over : NoneIsLeft w.undo) (none : w.store.waiting ≡ []) where
  keeps : KeepsWorld g (start_in o s) shows.opened w.store shows.mind
  keeps = shows.shows.world.keeps

  -- what is hardened is all
  front_is : (k : ℕ) → steps (take k w.store.waiting) w.store.hardened ≡ w.store.now
  front_is k = ap (λ (rs : List Record). steps (take k rs) w.store.hardened) none ∙ ap (λ (rs : List Record). steps rs w.store.hardened) (take_none k)
      ∙ ap (λ (rs : List Record). steps rs w.store.hardened) (sym none) ∙ sym keeps.commits.fronts.now

  stands_now : (c : Image) → g.since w.store.disk (g.moment_of w.store.disk) c → StandsForDatabase c w.store.now
  stands_now c left = let folds = keeps.rests.front.each c left in record { folds = subst (FoldsTo c) (front_is folds.0) folds.1; sound = keeps.pages.sound }

  -- who is open isn't left of the start
  opens_now : (x : ℕ) → IsAmong x (xids_in w.store.now.tables.opens) → s.tables.next ≤ x
  opens_now x in_ = ⊎_elim
      (λ left. absurd (subst (IsAmong x) (ap (λ u. u.orphans) shows.undo ∙ over.1) left))
      (λ since. subst (λ n. n ≤ x) shows.numbered since)
      (keeps.walks.scene.undo.0.begun x (among_in x w.store.now.tables.opens in_))

  pub none_left : (c : Image) → g.since w.store.disk (g.moment_of w.store.disk) c → HasNoUndoOf s c
  none_left c left = record {
    state = w.store.now;
    stands = stands_now c left;
    opens = opens_now;
    items = later_items s.tables.next w.store.now keeps.pages.sound opens_now;
  }

  -- and all pages are counted, where a Write was refused as Full
  pub full_left : (e : Entry) → IsAmong e w.sessions.tape.items → IsFullEntry e → (c : Image) → g.since w.store.disk (g.moment_of w.store.disk) c → CountsAllPages c
  full_left e in_ is c left = record { state = w.store.now; stands = stands_now c left; all = shows.full e (subst (IsAmong e) shows.shows.tape in_) is }
