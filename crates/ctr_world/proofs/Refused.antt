-- A World that wasn't opened: what it tells of its image, and what a crash in its opening leaves.
use Rattle.std.proofs.Common.{◌≡◌, ◌⊎◌, ⊎_elim, inl, inr, ℕ, [], take, Result, Ok, Err, ◌∙◌, ap, subst}
use Rattle.std.specs.Prelude.{IsTrue}
use Rattle.ctr_disk.specs.Device.{LeavesOnly}
use Rattle.ctr_disk.specs.Image.{Image}
use Rattle.ctr_disk.specs.declared.disk.Disk.{Ghosts}
use Rattle.ctr_disk.proofs.Moments.{joined, weaker}
use Rattle.ctr_disk.specs.declared.fault.StoreFault.{StoreFault}
use Rattle.ctr_disk.specs.declared.fault.StoreFault.TheVariants as fault
use Rattle.ctr_home.specs.Blocks.{value_of}
use Rattle.ctr_home.specs.declared.block.Block.TheVariants.{Root as RootBlock}
use Rattle.ctr_home.specs.declared.root.Root.{Root}
use Rattle.ctr_home.specs.Roots.{SaysRoot}
use Rattle.ctr_log.specs.declared.opening.OpenError.{OpenError}
use Rattle.ctr_log.specs.declared.opening.OpenError.TheVariants.{NoDatabase, Damaged, Worn, Fault, OutOfMemory}
use Rattle.ctr_redo.specs.Images.{FoldsFront, FoldsTo, stored_in}
use Rattle.ctr_redo.specs.States.{State, state_of, steps}
use Rattle.ctr_record_effects.specs.Standing.{StandsForDatabase}
use Rattle.ctr_base.proofs.RootLaws.{one_root}
use Rattle.ctr_base.specs.Base.{IsSoundImage}
use Rattle.ctr_store.specs.Opening.{IsUndamaged, LeavesFirst, RefusesAs}
use Rattle.ctr_store.specs.Store.{LeavesFront, View}
use Rattle.ctr_store.specs.StoreOpening.{OpensStore}
use Rattle.ctr_undo.proofs.stops_Fronts.{take_none}
use Rattle.ctr_undo.specs.walk_Damage.{ReadsPages}
use Rattle.ctr_world.specs.Begun.{IsOfReading}
use Rattle.ctr_world.specs.Ended.{PassesOpening, RefusesWorld}

-- what a store that isn't opened tells
pub told_as : (image : Image) (e : OpenError) → RefusesAs image e → RefusesWorld image e
told_as image NoDatabase is = is
told_as image (Damaged d) is = inl is
told_as image (Worn n) is = is
told_as image Fault is = tt
told_as image OutOfMemory is = tt

-- and what is told of pages that were read behind it
pub told_behind : (image : Image) (e : OpenError) → PassesOpening image → IsOfReading e → ((s : State) → StandsForDatabase image s → IsUndamaged e) → RefusesWorld image e
told_behind image NoDatabase passes reading undamaged = absurd reading
told_behind image (Damaged d) passes reading undamaged = inr (passes, undamaged)
told_behind image (Worn n) passes reading undamaged = absurd reading
told_behind image Fault passes reading undamaged = tt
told_behind image OutOfMemory passes reading undamaged = tt

-- however pages were read
pub front_of : {D T : Type 0} (first : Image) (g : Ghosts D) (a b : View D) (r : Result T StoreFault) → IsTrue g.tells → IsSoundImage first → ReadsPages first g a b r → LeavesFront g a b
front_of first g a b (Ok x) told sound leaves = leaves.any_moment told sound
front_of first g a b (Err fault.Fault) told sound leaves = leaves.any_moment told sound
front_of first g a b (Err (fault.Damaged d)) told sound leaves = ⊎_elim (λ lost. lost.any_moment told sound) (λ found. found.any_moment told sound) leaves

-- ---- of a database a crash leaves what it was, or what it might have left before

module _ {D : Type 0} (g : Ghosts D) (first : Image) (disk : D) (s : State) (stands : StandsForDatabase first s) where
  is_state : (root : Root) → SaysRoot (value_of RootBlock first) root → state_of (stored_in root first) ≡ s
  is_state root says = ap (λ r. state_of (stored_in r first)) (one_root (value_of RootBlock first) root stands.folds.root says stands.folds.sound.says) ∙ stands.folds.state_is

  abbrev BeforeOrSame : Image → Type 0
  BeforeOrSame c = g.images disk c ⊎ StandsForDatabase c s

  same_stands : (c : Image) (t : State) → t ≡ s → FoldsTo c t → BeforeOrSame c
  same_stands c t is folds = inr (record { folds = subst (FoldsTo c) is folds; sound = stands.sound })

  -- as it is opened
  pub opening_leaves : (left : D) → LeavesOnly g disk left (LeavesFirst first (g.images disk)) → LeavesOnly g disk left BeforeOrSame
  opening_leaves left leaves = weaker g disk left (LeavesFirst first (g.images disk)) BeforeOrSame leaves (λ c is. ⊎_elim
      (λ was. inl was)
      (λ folds. same_stands c (steps (take folds.2.0 []) (state_of (stored_in folds.0 first)))
      (ap (λ ws. steps ws (state_of (stored_in folds.0 first))) (take_none folds.2.0) ∙ is_state folds.0 folds.1) folds.2.1)
      is)

  -- and as its pages are read
  pub reading_leaves : (v b : View D) → OpensStore first v → LeavesOnly g disk v.disk (LeavesFirst first (g.images disk)) → LeavesFront g v b → LeavesOnly g disk b.disk BeforeOrSame
  reading_leaves v b opens leaves front = joined g disk v.disk b.disk BeforeOrSame (opening_leaves v.disk leaves)
      (weaker g v.disk b.disk (FoldsFront v.hardened v.waiting) BeforeOrSame front.front (λ c folds. same_stands c (steps (take folds.0 v.waiting) v.hardened) (front_is folds.0) folds.1))
    where
      front_is : (k : ℕ) → steps (take k v.waiting) v.hardened ≡ s
      front_is k = ap (λ ws. steps (take k ws) v.hardened) opens.none ∙ ap (λ ws. steps ws v.hardened) (take_none k)
          ∙ opens.hardened (stands.folds.root, stands.folds.sound) ∙ is_state opens.root opens.stands.0
