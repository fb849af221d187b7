use Rattle.std.proofs.Common.{◌≡◌, ◌<◌, ◌∙◌, ⊎_elim, ℕ, true, false, cond, eqb, List, Option, Some, None, is_some, vec_len, refl, sym, ap, subst, arith}
use Rattle.std.specs.Option.{option_map}
use Rattle.ctr_rec.specs.declared.record.Overlay.{Overlay}
use Rattle.ctr_pool.specs.declared.frame.Frame.{Frame}
use Rattle.ctr_pool.specs.declared.memory.Memory.{Memory}
use Rattle.ctr_pool.specs.Pages.{PageHeld}
use Rattle.ctr_pool.specs.Frames.{frame_of, page_of, after_change}
use Rattle.ctr_pool.specs.Over.{IsHeld, IsOver}
use Rattle.ctr_pool.specs.contracts.memory.MemoryBacking.TheImpl.{ghosts}
use Rattle.ctr_pool.proofs.FrameLaws.{yes, no, is, isnt, same_or, since_some}
use Rattle.ctr_tests_tables.proofs.pool.touch.Goals as goal

-- what is changed may be saved
dirty_held : (m : Memory) (p : ℕ) (v : PageHeld) (o : Option ℕ) → is_some o ≡ true → p < vec_len m.sheets → IsHeld ghosts m p v o
dirty_held m p v None some inside = absurd cc
dirty_held m p v (Some s) some inside = inside

changed_some : (o : Overlay) (lsn : ℕ) (f : Frame) (g : Option Frame) → option_map (after_change o lsn) g ≡ Some f → is_some f.since ≡ true
changed_some o lsn f None e = absurd cc
changed_some o lsn f (Some g) e = let one : after_change o lsn g ≡ f = cc in ap (λ (x : Frame). is_some x.since) (sym one) ∙ since_some g.since lsn

touched : (m : Memory) (mid new : List Frame) (page lsn : ℕ) (o : Overlay) → IsOver ghosts mid m → page < vec_len m.sheets → ((q : ℕ) → frame_of q new ≡ cond (eqb page q) (option_map (after_change o lsn) (frame_of q mid)) (frame_of q mid)) → IsOver ghosts new m
touched m mid new page lsn o over inside frames = record {
  at_rest = tt;
  held = λ p f there.
      ⊎_elim (λ same. dirty_held m p (page_of f) f.since (changed_some o lsn f (frame_of p mid) (sym (yes (eqb page p) (option_map (after_change o lsn) (frame_of p mid)) (frame_of p mid) (is page p same)) ∙ sym (frames p) ∙ there)) (subst (λ (k : ℕ). k < vec_len m.sheets) same inside))
      (λ apart. over.held p f (sym (no (eqb page p) (option_map (after_change o lsn) (frame_of p mid)) (frame_of p mid) (isnt page p apart)) ∙ sym (frames p) ∙ there))
      (same_or page p);
}

pub returns-clause-over : goal.returns-clause-over
returns-clause-over c =
    let o : Overlay = record { page = c.args.page; clear = false; offset = 0; bytes = c.new.result } in
    touched c.bring.new.backing c.bring.new.self.frames c.change.new.self.frames c.args.page c.args.lsn o (c.in_ok-bring.ensures.stays refl).over (omega (arith, c.requires.held, c.bring.ensures.works.keeps)) c.change.ensures.frames
