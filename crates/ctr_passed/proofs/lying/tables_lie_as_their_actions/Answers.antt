use Rattle.std.proofs.Common.{◌≡◌, ◌+◌, ◌*◌, ◌/◌, ◌%◌, [], ◌∷◌, refl, ap, arith, Some}
use Rattle.ctr_bytes.specs.Fields.{spelled}
use Rattle.ctr_bytes.proofs.FieldLaws.{length-spelled}
use Rattle.ctr_actions.specs.page_Columns.{new_entry_bytes}
use Rattle.ctr_actions.proofs.area_Made.{length-new}
use Rattle.ctr_actions.specs.ctr_record_effects.Changing.{create_record, uncreate_record, drop_record, undrop_record, laid_at}
use Rattle.ctr_passed.proofs.Apart.{entry_lies}
use Rattle.ctr_passed.proofs.lying.tables_lie_as_their_actions.Goals as goal

pub returns-clause-creates : goal.returns-clause-creates
returns-clause-creates c = λ s x e name columns left whole few drawn short fits.
    let bytes = new_entry_bytes x name columns in
    let here : 256 * (e % 16) ≡ 256 * (e % 16) + 0 = omega arith in
    entry_lies s (create_record x e name columns) e 0 bytes (ap (λ n. Some (laid_at (1 + e / 16) n bytes)) here) whole few (omega (arith, length-new x name columns drawn short fits))

pub returns-clause-uncreates : goal.returns-clause-uncreates
returns-clause-uncreates c = λ s e whole few. entry_lies s (uncreate_record e) e 0 (2 ∷ []) refl whole few (omega arith)

pub returns-clause-drops : goal.returns-clause-drops
returns-clause-drops c = λ s x e whole few. entry_lies s (drop_record x e) e 9 (spelled 8 x) refl whole few (omega (arith, length-spelled 8 x))

pub returns-clause-undrops : goal.returns-clause-undrops
returns-clause-undrops c = λ s e whole few. entry_lies s (undrop_record e) e 9 (spelled 8 0) refl whole few (omega (arith, length-spelled 8 0))

pub returns-clause-makes_dead : goal.returns-clause-makes_dead
returns-clause-makes_dead c = λ s r passes e at bytes lays whole few inside. entry_lies s r e at bytes lays whole few inside

pub returns-clause-frees : goal.returns-clause-frees
returns-clause-frees c = λ s r e at bytes title left lays whole few inside. entry_lies s r e at bytes lays whole few inside
