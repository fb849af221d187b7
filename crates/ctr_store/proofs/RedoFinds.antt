-- What redo finds of the page of a record: that it passes its checks on the first image, or which of them fails.
use Rattle.std.proofs.Common.{◌≡◌, ⊎_elim, ℕ, ◌<◌, ◌≤◌, true, false, take, Some, Ok, Err, sym, ◌∙◌, ap, subst, arith}
use Rattle.std.specs.Prelude.{⊤}
use Rattle.std.proofs.lemmas.Bool.Decides.{eqb_tells}
use Rattle.ctr_disk.specs.declared.disk.Disk.{Ghosts}
use Rattle.ctr_disk.specs.Image.{Image}
use Rattle.ctr_base.specs.ctr_home.declared.root.Root.{Root}
use Rattle.ctr_disk.specs.declared.fault.StoreFault.{StoreFault}
use Rattle.ctr_disk.specs.declared.fault.StoreFault.TheVariants.{Fault, Damaged}
use Rattle.ctr_base.specs.ctr_home.declared.block.Block.TheVariants.{Page}
use Rattle.ctr_base.specs.ctr_home.Blocks.{BlockValue, value_of}
use Rattle.ctr_base.specs.ctr_home.Reading.{IsFaultOr}
use Rattle.ctr_base.specs.pool_Pages.{PageHeld}
use Rattle.ctr_base.specs.pool_Frames.{has_page, kept_or, page_shown}
use Rattle.ctr_base.specs.redo_States.{next_of}
use Rattle.ctr_base.proofs.redo_PageLaws.{either}
use Rattle.ctr_base.proofs.redo_GrowthLaws.{counted_page}
use Rattle.ctr_base.specs.declared.base.Base.{Base}
use Rattle.ctr_base.specs.Homes.{FailsHome, PassesHome, IsWrittenSince}
use Rattle.ctr_base.specs.Base.{stored_of, home_of, StandsQuiet, KeepsBase}
use Rattle.ctr_store.specs.declared.parts.Parts.{Parts}
use Rattle.ctr_store.specs.PageChecks.{next_in, IsHomeStill, FindsPage}
use Rattle.ctr_store.specs.Redo.{RedoesPages}
use Rattle.ctr_store.proofs.PageCheckLaws.{misnumbered_fails, not_misnumbered, passes_alone, fails_same, passes_same, passes_low, passed_or_still}
use Rattle.ctr_store.proofs.BringLaws.{none_there}
use Rattle.ctr_store.proofs.RedoLaws.{prefix_low}

module _ {D O : Type 0} (first : Image) (g : Ghosts D) (start : Base D O) (n p : ℕ) (s t : Parts D O) (doing : RedoesPages first g start n s) (inside : p < start.root.pages) (keeps : KeepsBase g s.base t.base) where
  abbrev next : ℕ
  next = next_of (stored_of g start)

  next_is : next_in t ≡ next
  next_is = keeps.next ∙ doing.next ∙ doing.starts.next

  some : 1 ≤ next
  some = let low = doing.starts.says.1.first_low in omega (arith, low)

  some_there : 1 ≤ next_in t
  some_there = omega (arith, some, next_is)

  same_root : t.base.root ≡ start.root
  same_root = keeps.root ∙ doing.root

  inside_there : p < t.base.root.pages
  inside_there = subst (λ (r : Root). p < r.pages) (sym same_root) inside

  -- a page that passes has a low LSN in the pool
  shown_low : PassesHome next p first → (page_shown s.pool.frames p (home_of g s.base p)).lsn < next
  shown_low passes =
      let at_home = passes_low next start.root.pages p (g.reads start.disk) some (subst (PassesHome next p) (sym doing.starts.reads) passes) in
      let low = prefix_low first g start n p (home_of g start p) at_home in
      omega (arith, low, ap (λ (h : PageHeld). h.lsn) (doing.current p))

  not_hit : has_page p s.pool.frames ≡ true → next_in t ≤ (page_shown s.pool.frames p (home_of g s.base p)).lsn → ⊥
  not_hit there high = let low = shown_low (doing.seen p there) in absurd (omega (arith, low, high, next_is))

  module _ (none : has_page p s.pool.frames ≡ false) (still : IsHomeStill g p s t) where
    home_shown : home_of g t.base p ≡ page_shown s.pool.frames p (home_of g s.base p)
    home_shown = still ∙ sym (ap (kept_or (home_of g s.base p)) (none_there p s.pool.frames none))

    -- a page that was written since the start was in a frame, and passed
    written_passes : IsWrittenSince p (value_of (Page p) first) (value_of (Page p) (g.reads t.base.disk)) → PassesHome next p first
    written_passes w =
        ⊎_elim (λ passes. passes)
        (λ same.
        let later = w.later in
        let now = ap (λ (h : PageHeld). h.lsn) (sym (counted_page t.base.root.pages p (g.reads t.base.disk) (Some w.value) inside_there w.is) ∙ home_shown ∙ doing.current p ∙ same) in
        let was = ap (λ (h : PageHeld). h.lsn) (counted_page start.root.pages p (g.reads start.disk) (value_of (Page p) first) inside (ap (λ (i : Image). value_of (Page p) i) doing.starts.reads)) in
        absurd (omega (arith, later, now, was)))
        (passed_or_still next first p (stored_of g start).first (take n (stored_of g start).records) (home_of g start p) doing.checked)

    written_fine : IsWrittenSince p (value_of (Page p) first) (value_of (Page p) (g.reads t.base.disk)) → PassesHome (next_in t) p (g.reads t.base.disk)
    written_fine w v is =
        let both : Some w.value ≡ Some v = sym w.is ∙ is in
        let one : w.value ≡ v = cc both in
        let low = shown_low (written_passes w) in
        let now = ap (λ (h : PageHeld). h.lsn) (sym (counted_page t.base.root.pages p (g.reads t.base.disk) (Some v) inside_there is) ∙ home_shown) in
        (sym (ap (λ (x : BlockValue). x.number) one) ∙ w.number, omega (arith, low, now, next_is))

  -- it was brought in: so it passes
  pub finds_passes : FindsPage {T = ⊤} first g p s t (Ok tt) → StandsQuiet first g t.base → PassesHome next p first
  finds_passes found rests =
      ⊎_elim (λ there. doing.seen p there)
      (λ none.
      let read = found.miss none inside_there some_there in
      ⊎_elim (λ same. subst (λ (k : ℕ). PassesHome k p first) next_is (passes_same (next_in t) p first (g.reads t.base.disk) same.value read.0))
      (λ w. written_passes none read.1 w)
      (rests.since.homes start.root doing.starts.says p inside))
      (either (has_page p s.pool.frames))

  -- it wasn't: this check fails
  pub finds_fails : (e : StoreFault) → FindsPage {T = ⊤} first g p s t (Err e) → IsFaultOr (FailsHome next p first) e
  finds_fails Fault found = tt
  finds_fails (Damaged d) found =
      let e = Damaged d in
      ⊎_elim (λ there. absurd (not_hit there (found.hit there)))
      (λ none.
      let read = found.miss none inside_there some_there in
      subst (λ (k : ℕ). FailsHome k p first e) next_is
      (⊎_elim
      (λ wrong.
      ⊎_elim (λ same. fails_same (next_in t) p first (g.reads t.base.disk) e same (misnumbered_fails (next_in t) p (g.reads t.base.disk) e wrong))
      (λ w. absurd (not_misnumbered p (g.reads t.base.disk) w.value e w.is w.number wrong))
      (read.0.since.homes start.root doing.starts.says p inside))
      (λ both.
      ⊎_elim (λ same. fails_same (next_in t) p first (g.reads t.base.disk) e same both.0)
      (λ w. absurd (passes_alone (next_in t) p (g.reads t.base.disk) e (written_fine none both.1 w) both.0))
      (read.0.since.homes start.root doing.starts.says p inside))
      read.1))
      (either (has_page p s.pool.frames))

  -- and each page that has a frame now
  pub finds_seen : FindsPage {T = ⊤} first g p s t (Ok tt) → StandsQuiet first g t.base → (q : ℕ) → has_page q t.pool.frames ≡ true → PassesHome next q first
  finds_seen found rests q there =
      ⊎_elim (λ w. subst (λ (m : ℕ). PassesHome next m first) (sym w.1) (finds_passes found rests))
      (λ w. ⊎_elim (λ was. doing.seen q was) (λ none. let out = found.others q w.1 none in absurd (cc (out, there))) (either (has_page q s.pool.frames)))
      (eqb_tells q p)
