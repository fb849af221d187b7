-- What the steps of making a database leave.
use Rattle.std.proofs.Common.{◌≡◌, inl, inr, ℕ, length, None, Some, sym, ◌∙◌, ap, subst, arith}
use Rattle.ctr_disk.specs.Image.{Image}
use Rattle.ctr_base.specs.ctr_home.declared.block.Block.TheVariants.{Page, Root as RootBlock}
use Rattle.ctr_base.specs.ctr_home.Blocks.{value_of}
use Rattle.ctr_base.specs.ctr_home.Roots.{root_block, root_value}
use Rattle.ctr_base.specs.ctr_home.Writing.{IsAbove, OthersStay, IsOldOrNewValue, IsNewValue}
use Rattle.ctr_base.specs.log_Logs.{HasLog}
use Rattle.ctr_base.specs.log_Fresh.{fresh_log, IsClosed, LogsAreReady, SameRoot}
use Rattle.ctr_base.specs.redo_Images.{new_root, IsNewDatabase}
use Rattle.ctr_base.proofs.redo_NewLaws.{folds_new}
use Rattle.ctr_base.specs.Extent.{KeepsPageBytes, AreCleared}
use Rattle.ctr_base.proofs.ExtentLaws.{cleared_blank, cleared_long}
use Rattle.ctr_store.specs.Creating.{IsNoneOrNew, IsNoneOrEmptyStore}

pub none_logs : (old c : Image) → value_of RootBlock old ≡ None → SameRoot old c → IsNoneOrNew c
none_logs old c none same = inl (ap root_value same.0 ∙ none)

pub none_cleared : (n : ℕ) (mid c : Image) → value_of RootBlock mid ≡ None → KeepsPageBytes n mid c → IsNoneOrNew c
none_cleared n mid c none keeps = inl (ap (λ (i : Image). root_value i.root) keeps.others ∙ none)

pub none_one : (old one : Image) → value_of RootBlock old ≡ None → LogsAreReady old one → value_of RootBlock one ≡ None
none_one old one none ready = ap root_value ready.root ∙ none

module _ (old one two : Image) (none : value_of RootBlock old ≡ None) (ready : LogsAreReady old one) (cleared : AreCleared 0 64 one two) where
  pub none_two : value_of RootBlock two ≡ None
  none_two = ap (λ (i : Image). root_value i.root) cleared.others ∙ none_one old one none ready

  pub root_above : IsAbove 1 (value_of RootBlock two)
  root_above = subst (IsAbove 1) (sym none_two) tt

  made_new : (c : Image) → OthersStay RootBlock two c → value_of RootBlock c ≡ Some (root_block new_root) → IsNewDatabase c
  made_new c others value = record {
    root = value;
    log = subst (HasLog 1 fresh_log) (sym (ap (λ (i : Image). i.log_a) others.files ∙ ap (λ (i : Image). i.log_a) cleared.others)) ready.log;
    other_log = subst IsClosed (sym (ap (λ (i : Image). i.log_b) others.files ∙ ap (λ (i : Image). i.log_b) cleared.others)) ready.other_log;
    blank = λ p inside. others.blocks (Page p) (λ is. absurd (cc is)) ∙ cleared_blank 0 64 p one two (omega arith) cleared (omega arith) inside;
    size = omega (arith, ap (λ (i : Image). length i.pages) others.files, cleared_long 0 64 one two (omega arith) (omega arith) cleared);
  }

  pub new_made : (c : Image) → IsNewValue RootBlock (root_block new_root) two c → IsNewDatabase c
  new_made c new = made_new c new.0 new.1

  pub new_step : (c : Image) → IsOldOrNewValue RootBlock (root_block new_root) two c → IsNoneOrNew c
  new_step c (same, inl was) = inl (was ∙ none_two)
  new_step c (same, inr new) = inr (made_new c same new)

pub empty_of : (c : Image) → IsNoneOrNew c → IsNoneOrEmptyStore c
empty_of c (inl none) = inl none
empty_of c (inr new) = inr (new, folds_new c new)
