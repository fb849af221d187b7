use Rattle.std.proofs.Common.{◌≡◌, List, ℕ, Ok, sym, subst}
use Rattle.ctr_bytes.proofs.FieldLaws.{AreBytes, field_fits}
use Rattle.ctr_rec.specs.Checkpoint.{checkpoint_checks}
use Rattle.ctr_rec.proofs.ListLaws.{checkpoint_back}
use Rattle.ctr_rec.proofs.Found.{has_members}
use Rattle.ctr_rec.proofs.checkpoint.checkpoint_in.Goals as goal

pub returns-clause-bytes : goal.returns-clause-bytes
returns-clause-bytes c =
    rw c.get_u64.ensures.got (checkpoint_back c.args.bytes.now c.new.result (λ k. (c.type_inv.bytes k).fits) c.requires.number c.requires.checked c.new.ensures)

pub returns-clause-fits : goal.returns-clause-fits
returns-clause-fits c =
    let fits : AreBytes c.args.bytes.now = λ k. (c.type_inv.bytes k).fits in
    let back = checkpoint_back c.args.bytes.now c.new.result fits c.requires.number c.requires.checked c.new.ensures in
    rw c.get_u64.ensures.got (field_fits 8 1 c.args.bytes.now fits, subst (λ (b : List ℕ). checkpoint_checks b ≡ Ok tt) (sym back) c.requires.checked)

pub returns-clause-members : goal.returns-clause-members
returns-clause-members c =
    rw c.get_u64.ensures.got (has_members c.args.bytes.now c.new.result (λ k. (c.type_inv.bytes k).fits) c.requires.checked c.new.ensures)
