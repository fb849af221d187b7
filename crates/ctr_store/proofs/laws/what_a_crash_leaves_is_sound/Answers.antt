use Rattle.std.proofs.Common.{⊎_elim}
use Rattle.ctr_base.proofs.redo_NewLaws.{folds_new}
use Rattle.ctr_store.proofs.laws.what_a_crash_leaves_is_sound.Goals as goal

pub returns-clause-front : goal.returns-clause-front
returns-clause-front c s rs image folds = (folds.1.root, folds.1.sound)

pub returns-clause-grown : goal.returns-clause-grown
returns-clause-grown c s image folds = ⊎_elim (λ w. (w.root, w.sound)) (λ w. (w.root, w.sound)) folds

pub returns-clause-made : goal.returns-clause-made
returns-clause-made c image is = let f = folds_new image is in (f.root, f.sound)
