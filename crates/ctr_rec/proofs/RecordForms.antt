-- A record and how it is spelled.
use Rattle.std.proofs.Common.{◌≡◌, ℕ, List, Ok, Err, refl, sym, ap, subst, ◌∙◌, arith}
use Rattle.ctr_bytes.specs.Fields.{field}
use Rattle.ctr_rec.specs.declared.record.Record.{Record}
use Rattle.ctr_rec.specs.declared.record.Record.TheVariants.{Checkpoint, Begin, Commit, Abort, Forget, Alloc, Format, Link, Free, Unlink, Create, Uncreate, Drop, Undrop, Row, Keep, Revert, Trim}
use Rattle.ctr_rec.specs.declared.record.Parts.{Parts}
use Rattle.ctr_rec.specs.declared.record.Form.{Form}
use Rattle.ctr_rec.specs.declared.record.Form.TheVariants.{Lists, Fields}
use Rattle.ctr_rec.specs.declared.decoding.BadRecord.{BadRecord}
use Rattle.ctr_rec.specs.Parts.{form_of, PartsFit}
use Rattle.ctr_rec.specs.Checkpoint.{checkpoint_checks}
use Rattle.ctr_rec.specs.Spelling.{checkpoint_bytes, parts_bytes, form_bytes, record_bytes}
use Rattle.ctr_rec.specs.Records.{FormFits, IsRecord}
use Rattle.ctr_rec.specs.Read.{record_with}
use Rattle.ctr_rec.proofs.Forms.{begins_so, one_parts}
use Rattle.ctr_rec.proofs.ListLaws.{checkpoint_number, one_checkpoint}

-- the record of a form
abbrev pub form_record : Form → Record
form_record (Lists next lists) = Checkpoint next lists
form_record (Fields p) = record_with p

pub form_again : (r : Record) → form_record (form_of r) ≡ r
form_again (Checkpoint next lists) = refl
form_again (Begin x) = refl
form_again (Commit x) = refl
form_again (Abort x) = refl
form_again (Forget x) = refl
form_again (Alloc x p o) = refl
form_again (Format x p o) = refl
form_again (Link x p o) = refl
form_again (Free p o) = refl
form_again (Unlink p o) = refl
form_again (Create x e o) = refl
form_again (Uncreate e o) = refl
form_again (Drop x e o) = refl
form_again (Undrop e o) = refl
form_again (Row x over o) = refl
form_again (Keep x o) = refl
form_again (Revert x o) = refl
form_again (Trim o) = refl

apart : (next : ℕ) (lists : List ℕ) (p : Parts) → FormFits (Fields p) → checkpoint_bytes next lists ≡ parts_bytes p → ⊥
apart next lists p fits e =
    let one = checkpoint_number next lists in
    let n = begins_so p (checkpoint_bytes next lists) fits (sym e) in
    omega (arith, one, n.0)

one_of_forms : (f g : Form) → FormFits f → FormFits g → form_bytes f ≡ form_bytes g → f ≡ g
one_of_forms (Lists n l) (Lists m k) ff fg e =
    let s = one_checkpoint n m l k ff.0 fg.0 e in
    ap (λ (x : ℕ). Lists x l) s.0 ∙ ap (λ (x : List ℕ). Lists m x) s.1
one_of_forms (Lists n l) (Fields p) ff fg e = absurd (apart n l p fg e)
one_of_forms (Fields p) (Lists n l) ff fg e = absurd (apart n l p ff (sym e))
one_of_forms (Fields p) (Fields q) ff fg e = ap (λ (x : Parts). Fields x) (one_parts p q ff fg e)

-- two records have two spellings
pub one_record : (a b : Record) → IsRecord a → IsRecord b → record_bytes a ≡ record_bytes b → a ≡ b
one_record a b fa fb e = sym (form_again a) ∙ ap form_record (one_of_forms (form_of a) (form_of b) fa fb e) ∙ form_again b

-- what begins with a 1 is a Checkpoint, and passes
pub is_checkpoint : (f : Form) (bytes : List ℕ) → FormFits f → form_bytes f ≡ bytes → field 1 0 bytes ≡ 1 → checkpoint_checks bytes ≡ Ok tt
is_checkpoint (Lists n l) bytes fits e one = subst (λ (b : List ℕ). checkpoint_checks b ≡ Ok tt) e fits.1
is_checkpoint (Fields p) bytes fits e one = let n = begins_so p bytes fits e in absurd (omega (arith, one, n.0))

-- and all else has parts
pub is_fields : (f : Form) (bytes : List ℕ) → FormFits f → form_bytes f ≡ bytes → (field 1 0 bytes ≡ 1 → ⊥) → (p : Parts) × PartsFit p × (parts_bytes p ≡ bytes)
is_fields (Lists n l) bytes fits e other = absurd (other (ap (field 1 0) (sym e) ∙ checkpoint_number n l))
is_fields (Fields p) bytes fits e other = (p, fits, e)

pub err_no_parts : (e : BadRecord) (p : Parts) → Err e ≡ Ok p → ⊥
err_no_parts e p q = cc
