-- The bytes of a record tell it.
use Rattle.std.proofs.Common.{◌≡◌, ◌≢◌, ℕ, ◌-◌, ◌==◌, if◌then◌else◌, Bool, true, false, List, length, take, drop, refl, ap, ◌∙◌, ⊎_elim, arith}
use Rattle.std.proofs.lemmas.Bool.Decides.{eqb_tells}
use Rattle.std.proofs.lemmas.List.{take_at}
use Rattle.ctr_bytes.specs.Fields.{field, spelled}
use Rattle.ctr_rec.specs.declared.record.Record.{Record}
use Rattle.ctr_rec.specs.declared.record.Record.TheVariants.{Checkpoint}
use Rattle.ctr_rec.specs.declared.record.Form.{Form}
use Rattle.ctr_rec.specs.declared.record.Form.TheVariants.{Lists, Fields}
use Rattle.ctr_rec.specs.declared.table.Tag.{Tag}
use Rattle.ctr_rec.specs.declared.table.Tag.TheVariants as tag
use Rattle.ctr_rec.specs.Table.{layout}
use Rattle.ctr_rec.specs.Parts.{form_of}
use Rattle.ctr_rec.specs.Spelling.{checkpoint_bytes, parts_bytes, form_bytes, record_bytes}
use Rattle.ctr_rec.specs.Records.{FormFits, IsRecord}
use Rattle.ctr_rec.specs.Read.{tag_numbered, parts_read, record_with, record_in}
use Rattle.ctr_rec.proofs.Forms.{numbers, reads}
use Rattle.ctr_rec.proofs.RecordForms.{form_record, form_again}
use Rattle.ctr_rec.proofs.ListLaws.{length-checkpoint, checkpoint_number, checkpoint_next, checkpoint_rest}

pub tag_again : (t : Tag) → tag_numbered (layout t).number ≡ t
tag_again tag.Begin = refl
tag_again tag.Commit = refl
tag_again tag.Abort = refl
tag_again tag.Forget = refl
tag_again tag.Alloc = refl
tag_again tag.Format = refl
tag_again tag.Link = refl
tag_again tag.Free = refl
tag_again tag.Unlink = refl
tag_again tag.Create = refl
tag_again tag.Uncreate = refl
tag_again tag.Drop = refl
tag_again tag.Undrop = refl
tag_again tag.Row = refl
tag_again tag.Keep = refl
tag_again tag.Revert = refl
tag_again tag.Trim = refl

pick_first : {A : Type 0} (n : ℕ) (x y : A) → n ≡ 1 → (if n == 1 then x else y) ≡ x
pick_first n x y is = ap (λ (k : ℕ). if k == 1 then x else y) is

choose : {A : Type 0} (b : Bool) (x y : A) → b ≡ false → (if b then x else y) ≡ y
choose true x y is = absurd (cc is)
choose false x y is = refl

pick_second : {A : Type 0} (n : ℕ) (x y : A) → n ≢ 1 → (if n == 1 then x else y) ≡ y
pick_second n x y other = ⊎_elim (λ w. absurd (other w.1)) (λ w. choose (n == 1) x y w.0) (eqb_tells n 1)

lists_in : (next : ℕ) (lists : List ℕ) → take (length (checkpoint_bytes next lists) - 10) (drop 9 (checkpoint_bytes next lists)) ≡ lists
lists_in next lists =
    let n : length (checkpoint_bytes next lists) - 10 ≡ length lists = omega (arith, length-checkpoint next lists) in
    ap (λ (k : ℕ). take k (drop 9 (checkpoint_bytes next lists))) n ∙ ap (take (length lists)) (checkpoint_rest next lists) ∙ take_at lists (spelled 1 0) (length lists) refl

form_read : (f : Form) → FormFits f → record_in (form_bytes f) ≡ form_record f
unfolding record_in
form_read (Lists next lists) fits =
    let whole = checkpoint_bytes next lists in
    pick_first (field 1 0 whole) (Checkpoint (field 8 1 whole) (take (length whole - 10) (drop 9 whole))) (record_with (parts_read (tag_numbered (field 1 0 whole)) whole)) (checkpoint_number next lists)
    ∙ ap (λ (n : ℕ). Checkpoint n (take (length whole - 10) (drop 9 whole))) (checkpoint_next next lists fits.0)
    ∙ ap (Checkpoint next) (lists_in next lists)
form_read (Fields p) fits =
    let whole = parts_bytes p in
    let r = reads p fits in
    let number = r.number in
    let low = numbers p.tag in
    let tag : tag_numbered (field 1 0 whole) ≡ p.tag = ap tag_numbered number ∙ tag_again p.tag in
    pick_second (field 1 0 whole) (Checkpoint (field 8 1 whole) (take (length whole - 10) (drop 9 whole))) (record_with (parts_read (tag_numbered (field 1 0 whole)) whole)) (λ is. absurd (omega (arith, is, number, low.0)))
    ∙ ap (λ (t : Tag). record_with (parts_read t whole)) tag
    ∙ ap record_with r.read

pub record_read : (r : Record) → IsRecord r → record_in (record_bytes r) ≡ r
record_read r fits = form_read (form_of r) fits ∙ form_again r
