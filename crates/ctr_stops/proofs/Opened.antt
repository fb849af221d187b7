-- A store that is opened stands on its image, and a stop in the opening leaves no other database.
use Rattle.std.proofs.Common.{◌≡◌, ⊎_elim, inl, inr, ℕ, ◌≤◌, [], take, refl, sym, ◌∙◌, ap, subst, arith}
use Rattle.ctr_disk.specs.Device.{LeavesOnly}
use Rattle.ctr_disk.specs.Image.{Image}
use Rattle.ctr_disk.specs.declared.disk.Disk.{Ghosts}
use Rattle.ctr_home.specs.declared.block.Block.TheVariants.{Root as RootBlock}
use Rattle.ctr_home.specs.Blocks.{value_of}
use Rattle.ctr_home.specs.declared.root.Root.{Root}
use Rattle.ctr_home.specs.Roots.{SaysRoot}
use Rattle.ctr_store.specs.redo_States.{State, state_of, steps}
use Rattle.ctr_store.specs.redo_Images.{FoldsTo, stored_in}
use Rattle.ctr_passed.specs.record_effects_Standing.{StandsForDatabase}
use Rattle.ctr_store.specs.base_Base.{IsSoundImage}
use Rattle.ctr_store.proofs.base_RootLaws.{one_root}
use Rattle.ctr_store.specs.Opening.{LeavesFirst}
use Rattle.ctr_store.specs.Store.{View}
use Rattle.ctr_store.specs.StoreOpening.{OpensStore}
use Rattle.ctr_stops.specs.Fronts.{rows_of_state, HasFirst}
use Rattle.ctr_stops.specs.Stops.{HasFirstCommits, KeepsCommits}
use Rattle.ctr_stops.proofs.Fronts.{take_none}

module _ {D : Type 0} (dev : Ghosts D) (earlier : (d : D) (s t : ℕ) (c : Image) → s ≤ t → dev.since d t c → dev.since d s c) (image : Image) (s : State) (disk : D) (v : View D)
    (stands : StandsForDatabase image s) (opens : OpensStore image v) where
  sound : IsSoundImage image
  sound = (stands.folds.root, stands.folds.sound)

  is_state : (root : Root) → SaysRoot (value_of RootBlock image) root → state_of (stored_in root image) ≡ s
  is_state root says = ap (λ r. state_of (stored_in r image)) (one_root (value_of RootBlock image) root stands.folds.root says stands.folds.sound.says) ∙ stands.folds.state_is

  pub now_is : v.now ≡ s
  now_is = opens.now sound ∙ is_state opens.root opens.stands.0

  front_is : (k : ℕ) → steps (take k v.waiting) v.hardened ≡ s
  front_is k = ap (λ ws. steps (take k ws) v.hardened) opens.none ∙ ap (λ ws. steps ws v.hardened) (take_none k) ∙ opens.hardened sound ∙ is_state opens.root opens.stands.0

  first : HasFirst (rows_of_state s) [] 0 s
  first = record { k = 0; at_least = omega arith; at_most = omega arith; sound = stands.sound; rows = refl }

  left_first : (c : Image) → FoldsTo c s → HasFirstCommits (rows_of_state s) [] 0 c
  left_first c folds = record { k = 0; at_least = omega arith; at_most = omega arith; stands = record { state = s; stands = record { folds = folds; sound = stands.sound }; rows_are = refl } }

  pub kept_opened : LeavesOnly dev disk v.disk (LeavesFirst image (dev.images disk)) → KeepsCommits dev (record { opened = disk; base = rows_of_state s; asked = [] }) [] v
  kept_opened leaves = record {
    fronts = record {
      fronts = λ k. subst (HasFirst (rows_of_state s) [] 0) (sym (front_is k)) first;
      now = now_is ∙ sym (ap (λ ws. steps ws v.hardened) opens.none ∙ opens.hardened sound ∙ is_state opens.root opens.stands.0);
    };
    survives = λ t c from le left. ⊎_elim
        (λ was. inr (was, tt))
        (λ folds. inl (left_first c (subst (FoldsTo c) (ap (λ ws. steps ws (state_of (stored_in folds.0 image))) (take_none folds.2.0) ∙ is_state folds.0 folds.1) folds.2.1)))
        (leaves.each c (earlier v.disk (dev.moment_of disk) t c from left));
    later = leaves.later;
  }
