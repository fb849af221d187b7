use Rattle.std.proofs.Common.{◌+◌, ◌*◌, ◌/◌, ◌%◌, ℕ, List, refl, sym, ◌∙◌, ap, subst, arith}
use Rattle.ctr_actions.specs.page_Columns.{new_entry_bytes}
use Rattle.ctr_actions.specs.page_Damage.{entry_check}
use Rattle.ctr_actions.specs.page_Reading.{put_over}
use Rattle.ctr_actions.specs.area_Checked.{Passes}
use Rattle.ctr_actions.specs.ctr_record_effects.States.{pages_in}
use Rattle.ctr_actions.specs.ctr_record_effects.Changing.{create_record, uncreate_record, drop_record, undrop_record}
use Rattle.ctr_actions.proofs.record_effects_Laid.{bytes_laid}
use Rattle.ctr_passed.proofs.Apart.{page_there}
use Rattle.ctr_passed.proofs.Entries.{dropper_laid, state_laid}
use Rattle.ctr_passed.proofs.Fresh.{new_entry_passes}
use Rattle.ctr_passed.proofs.checks.tables_pass_their_checks.Goals as goal

pub returns-clause-creates : goal.returns-clause-creates
returns-clause-creates c = λ s x e name columns left whole few drawn named fits.
    let home = 1 + e / 16 in
    let put = put_over (256 * (e % 16)) (new_entry_bytes x name columns) (pages_in s home) in
    subst (λ (bs : List ℕ). Passes (entry_check s.counted (256 * (e % 16)) bs))
    (sym (ap (λ (f : ℕ → List ℕ). f home) (bytes_laid s (create_record x e name columns) home (256 * (e % 16)) (new_entry_bytes x name columns) refl whole) ∙ page_there home put (pages_in s)))
    (new_entry_passes s.counted (256 * (e % 16)) x name columns drawn named fits (pages_in s home) (omega (arith, whole)))

pub returns-clause-uncreates : goal.returns-clause-uncreates
returns-clause-uncreates c = λ s e sound whole few used. state_laid s (uncreate_record e) e sound few whole 2 (omega arith) (λ some. used) refl

pub returns-clause-drops : goal.returns-clause-drops
returns-clause-drops c = λ s x e sound whole few. dropper_laid s (drop_record x e) e sound few whole x refl

pub returns-clause-undrops : goal.returns-clause-undrops
returns-clause-undrops c = λ s e sound whole few. dropper_laid s (undrop_record e) e sound few whole 0 refl

pub returns-clause-makes_dead : goal.returns-clause-makes_dead
returns-clause-makes_dead c = λ s r passes e sound whole few used lays. state_laid s r e sound few whole 2 (omega arith) (λ some. used) lays

pub returns-clause-frees : goal.returns-clause-frees
returns-clause-frees c = λ s r e title left sound whole few lays. state_laid s r e sound few whole 0 (omega arith) (λ some. absurd (some refl)) lays
