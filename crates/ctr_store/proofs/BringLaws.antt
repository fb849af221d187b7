-- What the bringing of a page into a frame finds.
use Rattle.std.proofs.Common.{◌≡◌, ◌⊎◌, inl, inr, ⊎_elim, ℕ, ◌+◌, ◌-◌, ◌<◌, ◌≤◌, ◌==◌, if◌then◌else◌, Bool, true, false, List, Option, Some, None, Ok, Err, refl, sym, ◌∙◌, ap, subst, arith}
use Rattle.std.specs.Prelude.{is_some, IsTrue, ⊤}
use Rattle.std.proofs.lemmas.Bool.{cases_lt}
use Rattle.ctr_types.specs.Damage.{damage_of}
use Rattle.ctr_types.specs.declared.file.File.TheVariants.{Pages}
use Rattle.ctr_disk.specs.declared.disk.Disk.{Ghosts}
use Rattle.ctr_disk.specs.Image.{Image}
use Rattle.ctr_disk.specs.declared.fault.StoreFault.{StoreFault}
use Rattle.ctr_disk.specs.declared.fault.StoreFault.TheVariants.{Fault, Damaged}
use Rattle.ctr_base.specs.ctr_home.declared.block.Block.TheVariants.{Page}
use Rattle.ctr_base.specs.ctr_home.Blocks.{BlockValue, value_of, value_place}
use Rattle.ctr_base.specs.ctr_home.Reading.{IsFaultOr, IsMisnumbered}
use Rattle.ctr_base.specs.pool_Frame.{Frame}
use Rattle.ctr_base.specs.pool_Pages.{PageHeld}
use Rattle.ctr_base.specs.pool_Below.{IsFound}
use Rattle.ctr_base.specs.pool_Frames.{frame_of, has_page, page_of, kept_or, change_of, since_in}
use Rattle.ctr_base.specs.pool_Over.{Pooled, IsHeld, StaysOver, BringsIn, unchanged}
use Rattle.ctr_base.specs.redo_Images.{home_in}
use Rattle.ctr_base.proofs.redo_GrowthLaws.{counted_page}
use Rattle.ctr_base.specs.Homes.{FailsHome}
use Rattle.ctr_base.specs.Base.{home_of, StandsQuiet, FindsNumber, backing_of}
use Rattle.ctr_store.specs.declared.parts.Parts.{Parts}
use Rattle.ctr_store.specs.Parts.{IsLowFrame, AreLow}
use Rattle.ctr_store.specs.PageChecks.{next_in, IsHomeStill, IsHighFrame, FindsPage}
use Rattle.ctr_store.proofs.RecordLaws.{frame_there}
use Rattle.ctr_store.proofs.PageCheckLaws.{stamp_fails}

pub none_there : (p : ℕ) (fs : List Frame) → has_page p fs ≡ false → frame_of p fs ≡ None
none_there p fs is = by (frame_of p fs) is
  where
    by : (o : Option Frame) → is_some o ≡ false → o ≡ None
    by None is = refl
    by (Some f) is = absurd (cc is)

-- a page that was loaded has no change
pub loaded_clean : (p : ℕ) (old new : Pooled) → BringsIn p old new → has_page p old.frames ≡ false → since_in p new.frames ≡ None
loaded_clean p old new brings none =
    let saves = brings.miss none in
    let was : since_in p old.frames ≡ None = ap change_of (none_there p old.frames none) in
    ⊎_elim (λ some. saves.kept some p ∙ was)
    (λ few.
    let oldest = saves.oldest (omega (arith, few)) in
    oldest.3 p ∙ by_either (oldest.0 == p) (since_in p old.frames) was)
    (cases_lt 0 (unchanged old))
  where
    by_either : (b : Bool) (o : Option ℕ) → o ≡ None → (if b then None else o) ≡ None
    by_either true o is = refl
    by_either false o is = is

module _ {D O : Type 0} (first : Image) (g : Ghosts D) (p : ℕ) where
  -- a damage of a frame that isn't low is none where all pages are
  pub high_refused : (s : Parts D O) (e : StoreFault) → IsFaultOr (IsHighFrame g p s) e → AreLow g s → e ≡ Fault
  high_refused s Fault high low = refl
  high_refused s (Damaged d) high low =
      let f = high.frame in
      let was = low p in
      let high_is = high.high in
      absurd (omega (arith, was, high_is, ap (λ (h : PageHeld). h.lsn) (ap (kept_or (home_of g s.base p)) high.there)))

  -- the page was refused by the pool
  pub finds_refused : (s t : Parts D O) (e : StoreFault) → (has_page p s.pool.frames ≡ true → ⊥) → (has_page p s.pool.frames ≡ false → IsFound {T = ⊤} (FindsNumber first g t.base p) (Err e)) → FindsPage {T = ⊤} first g p s t (Err e)
  finds_refused s t e hit miss = record {
    hit = λ is. absurd (hit is);
    miss = λ none inside some. by e (miss none);
    others = tt;
  }
    where
      by : (x : StoreFault) → IsFound {T = ⊤} (FindsNumber first g t.base p) (Err x)
          → IsFaultOr (λ (y : StoreFault). StandsQuiet first g t.base × (IsMisnumbered (Page p) (g.reads t.base.disk) y ⊎ (FailsHome (next_in t) p (g.reads t.base.disk) y × IsHomeStill g p s t))) x
      by Fault found = tt
      by (Damaged d) found = (found.0, inl found.1)

  module _ (s m : Parts D O) (brings : BringsIn p s.pool m.pool) (stays : StaysOver (backing_of first g) s.pool.frames s.base m.pool.frames m.base) where
    -- a page that was loaded is at home as it was
    module _ (none : has_page p s.pool.frames ≡ false) where
      frame : (f : Frame) × (frame_of p m.pool.frames ≡ Some f)
      frame = frame_there p m.pool.frames brings.adds.0

      clean : frame.0.since ≡ None
      clean = sym (ap change_of frame.1) ∙ loaded_clean p s.pool m.pool brings none

      held : page_of frame.0 ≡ home_of g m.base p
      held = subst (λ (x : Option ℕ). IsHeld (backing_of first g) m.base p (page_of frame.0) x) clean (stays.over.held p frame.0 frame.1)

      still : IsHomeStill g p s m
      still = sym held ∙ sym (ap (kept_or (home_of g m.base p)) frame.1) ∙ stays.shows p ∙ ap (kept_or (home_of g s.base p)) (none_there p s.pool.frames none)

      -- its value, where it has one
      stamp_is : (v : BlockValue) → p < m.base.root.pages → value_of (Page p) (g.reads m.base.disk) ≡ Some v → v.stamp ≡ frame.0.lsn
      stamp_is v inside is = ap (λ (h : PageHeld). h.lsn) (sym (counted_page m.base.root.pages p (g.reads m.base.disk) (Some v) inside is) ∙ sym held)

    -- it is there, and not high
    pub finds_fine : (has_page p s.pool.frames ≡ false → IsFound {T = ⊤} (FindsNumber first g m.base p) (Ok tt)) → IsLowFrame p m → FindsPage {T = ⊤} first g p s m (Ok tt)
    finds_fine found low = record {
      hit = λ is. tt;
      miss = λ none inside some. (
        (λ v is.
            let f = frame none in
            let below = low f.0 f.1 in
            (found none inside v is, omega (arith, below, stamp_is none v inside is))),
        still none,
      );
      others = brings.adds.1;
    }

    -- its LSN is too high
    pub finds_high : IsTrue g.tells → (t : Parts D O) (d : D) (e : StoreFault) → g.reads d ≡ g.reads m.base.disk → StandsQuiet first g (record m.base { disk = d }) → (has_page p s.pool.frames ≡ false → IsFound {T = ⊤} (FindsNumber first g m.base p) (Ok tt)) → IsFaultOr (IsHighFrame g p m) e
        → FindsPage {T = ⊤} first g p s (record t { base = record m.base { disk = d } }) (Err e)
    finds_high tells t d Fault same rests found high = record { hit = λ is. tt; miss = λ none inside some. tt; others = tt }
    finds_high tells t d (Damaged damage) same rests found high = record {
      hit = λ is. let above = high.high in omega (arith, above, ap (λ (h : PageHeld). h.lsn) (sym (ap (kept_or (home_of g m.base p)) high.there) ∙ stays.shows p));
      miss = λ none inside some. (rests, inr (fails none inside some (value_of (Page p) (g.reads m.base.disk)) refl, ap (λ (i : Image). home_in m.base.root.pages i p) same ∙ still none));
      others = tt;
    }
      where
        one : (a b : Frame) → Some a ≡ Some b → a ≡ b
        one a b e = cc e

        fails : has_page p s.pool.frames ≡ false → p < m.base.root.pages → 1 ≤ next_in m → (o : Option BlockValue) → value_of (Page p) (g.reads m.base.disk) ≡ o → FailsHome (next_in m) p (g.reads d) (Damaged damage)
        fails none inside some None is =
            let f = frame none in
            let above = high.high in
            let same_frame = one high.frame f.0 (sym high.there ∙ f.1) in
            let lsn = ap (λ (h : PageHeld). h.lsn) (held none ∙ counted_page m.base.root.pages p (g.reads m.base.disk) None inside is) in
            absurd (omega (arith, above, some, lsn, ap (λ (x : Frame). x.lsn) same_frame))
        fails none inside some (Some v) is =
            let f = frame none in
            let above = high.high in
            let same_frame = ap (λ (x : Frame). x.lsn) (one high.frame f.0 (sym high.there ∙ f.1)) in
            let stamp = stamp_is none v inside is in
            let right = found none inside v is in
            let home = value_place (Page p) (g.reads d) in
            let there : value_place (Page p) (g.reads m.base.disk) ≡ home = ap (λ (i : Image). value_place (Page p) i) (sym same) in
            let told : Err (Damaged (damage_of Pages (home + 5) (next_in m - 1) v.stamp)) ≡ Err (Damaged damage) =
            sym (ap (λ (x : StoreFault). Err x) (high.is tells) ∙ ap (λ (h : ℕ). Err (Damaged (damage_of Pages (h + 5) (next_in m - 1) high.frame.lsn))) there ∙ ap (λ (n : ℕ). Err (Damaged (damage_of Pages (home + 5) (next_in m - 1) n))) (same_frame ∙ sym stamp)) in
            (v, ap (λ (i : Image). value_of (Page p) i) same ∙ is, stamp_fails (next_in m) p home v right some (omega (arith, above, stamp, same_frame)) ∙ told)
