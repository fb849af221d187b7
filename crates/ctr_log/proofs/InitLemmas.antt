-- What the steps of making a database leave.
use Rattle.std.proofs.Common.{◌≡◌, ℕ, List, [], ◌∷◌, ◌++◌, drop, refl, sym, ◌∙◌, ap, subst, arith}
use Rattle.ctr_types.specs.declared.file.File.TheVariants.{LogA, LogB}
use Rattle.ctr_home.specs.disk_Image.{Image, write_of, TornImage}
use Rattle.ctr_log.specs.Logs.{batch, Extends, IsBeforeOrAfter, IsAfter}
use Rattle.ctr_log.specs.Fresh.{first_checkpoint, IsClosed, LogsAreReady, AreEmptied, SameRoot}

pub same_root_by_log_a : (at n : ℕ) (old d c : Image) → SameRoot old d → TornImage LogA at n d c → SameRoot old c
same_root_by_log_a at n old d c same torn = (ap (λ i. i.root) torn.others ∙ same.0, ap (λ i. i.pages) torn.others ∙ same.1)

pub same_root_by_log_b : (at n : ℕ) (old d c : Image) → SameRoot old d → TornImage LogB at n d c → SameRoot old c
same_root_by_log_b at n old d c same torn = (ap (λ i. i.root) torn.others ∙ same.0, ap (λ i. i.pages) torn.others ∙ same.1)

pub same_root : (old c : Image) → c ≡ old → SameRoot old c
same_root old c is = (ap (λ i. i.root) is, ap (λ i. i.pages) is)

-- both logs were closed
pub emptied : (old one two : Image) → one ≡ write_of LogA 0 (0 ∷ []) old → two ≡ write_of LogB 0 (0 ∷ []) one → AreEmptied old two
emptied old one two first second = record {
  root = ap (λ i. i.root) second ∙ ap (λ i. i.root) first;
  log = (drop 1 old.log_a, ap (λ i. i.log_a) second ∙ ap (λ i. i.log_a) first);
  other_log = subst IsClosed (sym (ap (λ i. i.log_b) second)) (λ e. omega (arith, e));
  pages = ap (λ i. i.pages) second ∙ ap (λ i. i.pages) first;
}

-- the bytes of the first batch behind its gate
fresh_bytes : List ℕ
fresh_bytes = batch 1 (first_checkpoint ∷ []) ++ 0 ∷ []

-- the first batch goes to a log without batches
pub fresh_extends : (body bytes rest : List ℕ) → body ≡ batch 1 (first_checkpoint ∷ []) ++ 0 ∷ [] → bytes ≡ 0 ∷ rest → Extends 1 [] (first_checkpoint ∷ []) 0 body bytes
fresh_extends body bytes rest is empty = record {
  log_is = record { gate = 0; rest = rest; bytes_are = empty; closed = λ e. omega (arith, e); each = tt };
  place_is = refl;
  body_is = is;
  is_batch = (omega arith, omega arith);
}

pub log_step : (old mid c : Image) → AreEmptied old mid → IsBeforeOrAfter LogA 1 [] (first_checkpoint ∷ []) mid c → SameRoot old c
log_step old mid c empty step = (ap (λ i. i.root) step.0 ∙ empty.root, ap (λ i. i.pages) step.0 ∙ empty.pages)

pub log_ready : (old mid new : Image) → AreEmptied old mid → IsAfter LogA 1 [] (first_checkpoint ∷ []) mid new → LogsAreReady old new
log_ready old mid new empty after = record {
  root = ap (λ i. i.root) after.0 ∙ empty.root;
  log = record { some = omega arith; batches_are = after.1 };
  other_log = subst IsClosed (sym (ap (λ i. i.log_b) after.0)) empty.other_log;
  pages = ap (λ i. i.pages) after.0 ∙ empty.pages;
}
