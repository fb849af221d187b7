use Rattle.std.proofs.Common.{◌/◌, [], ◌∷◌, replicate, refl, sym, subst}
use Rattle.ctr_actions.specs.page_Reading.{put_over}
use Rattle.ctr_actions.specs.page_Making.{header_bytes}
use Rattle.ctr_actions.specs.ctr_record_effects.States.{pages_in}
use Rattle.ctr_actions.specs.ctr_record_effects.Changing.{alloc_record, free_record, format_record}
use Rattle.ctr_actions.proofs.record_effects_Laid.{bytes_laid, clear_laid}
use Rattle.ctr_passed.specs.Laid.{LiesOnMap, LiesOnOnePage}
use Rattle.ctr_passed.proofs.Apart.{on_map, page_elsewhere}
use Rattle.ctr_passed.proofs.lying.pages_lie_as_their_actions.Goals as goal

pub returns-clause-allocates : goal.returns-clause-allocates
returns-clause-allocates c = λ s x p byte whole.
    subst (LiesOnMap (pages_in s)) (sym (bytes_laid s (alloc_record x p byte) 0 (p / 8) (byte ∷ []) refl whole))
    (on_map (put_over (p / 8) (byte ∷ []) (pages_in s 0)) (pages_in s))

pub returns-clause-frees : goal.returns-clause-frees
returns-clause-frees c = λ s p byte whole.
    subst (LiesOnMap (pages_in s)) (sym (bytes_laid s (free_record p byte) 0 (p / 8) (byte ∷ []) refl whole))
    (on_map (put_over (p / 8) (byte ∷ []) (pages_in s 0)) (pages_in s))

pub returns-clause-reclaims : goal.returns-clause-reclaims
returns-clause-reclaims = returns-clause-frees

pub returns-clause-formats : goal.returns-clause-formats
returns-clause-formats c = λ s x p h whole.
    subst (LiesOnOnePage p (pages_in s)) (sym (clear_laid s (format_record x p h) p (header_bytes h) refl whole))
    (page_elsewhere p (put_over 0 (header_bytes h) (replicate 4096 0)) (pages_in s))
