-- Pages that pass their checks at home, or don't.
use Rattle.std.proofs.Common.{◌≡◌, ◌⊎◌, inl, inr, ⊎_elim, ℕ, zero, suc, ◌+◌, ◌-◌, ◌<◌, ◌≤◌, if◌then◌else◌, Bool, true, List, [], ◌∷◌, ◌++◌, take, Option, Some, None, Ok, Err, slice_get, refl, sym, ◌∙◌, ap, subst, arith}
use Rattle.std.specs.Prelude.{min}
use Rattle.std.proofs.lemmas.Bool.{cases_lt}
use Rattle.std.proofs.lemmas.Bool.Decides.{eqb_tells}
use Rattle.ctr_types.specs.Damage.{damage_of}
use Rattle.ctr_types.specs.declared.file.File.TheVariants.{Pages}
use Rattle.ctr_disk.specs.Image.{Image}
use Rattle.ctr_disk.specs.declared.fault.StoreFault.{StoreFault}
use Rattle.ctr_disk.specs.declared.fault.StoreFault.TheVariants.{Fault, Damaged}
use Rattle.ctr_base.specs.ctr_home.declared.block.Block.TheVariants.{Page}
use Rattle.ctr_base.specs.ctr_home.declared.checks.Check.{Check}
use Rattle.ctr_base.specs.ctr_home.Blocks.{BlockValue, value_place, value_of, page_with}
use Rattle.ctr_base.specs.ctr_home.Checks.{check_of, judged}
use Rattle.ctr_base.specs.ctr_home.Reading.{number_check, IsMisnumbered, IsFaultOr}
use Rattle.ctr_base.proofs.log_KeptLaws.{picks}
use Rattle.ctr_rec.specs.declared.record.Overlay.{Overlay}
use Rattle.ctr_rec.specs.declared.record.Record.{Record}
use Rattle.ctr_base.specs.pool_Pages.{PageHeld}
use Rattle.ctr_base.specs.redo_Overlaid.{overlay_of, lies_on, touches, with_record, overlaid}
use Rattle.ctr_base.specs.redo_Images.{home_in}
use Rattle.ctr_base.proofs.redo_PageLaws.{either, stays_out}
use Rattle.ctr_base.proofs.redo_GrowthLaws.{counted_page, blank_home}
use Rattle.ctr_base.specs.Homes.{home_checks, FailsHome, PassesHome, HasSameHome}
use Rattle.ctr_store.specs.PageChecks.{PagePasses, PageFails, PagesPass, FirstPageFails}

-- a check that fails alone is the first of a list that fails
first_fails : (c : Check) (cs : List Check) (e : StoreFault) → judged Pages (c ∷ []) ≡ Err e → judged Pages (c ∷ cs) ≡ Err e
first_fails c cs e alone =
    let d = Damaged (damage_of Pages c.at c.want c.got) in
    ⊎_elim (λ w. let passed : judged Pages (c ∷ []) ≡ Ok tt = ap (λ (b : Bool). if b then Ok tt else Err d) w.0 in absurd (cc (passed, alone)))
    (λ w. ap (λ (b : Bool). if b then judged Pages cs else Err d) w.0 ∙ sym (ap (λ (b : Bool). if b then Ok tt else Err d) w.0) ∙ alone)
    (eqb_tells c.want c.got)

-- ---- of one page

-- a page whose home has another number fails
pub misnumbered_fails : (next p : ℕ) (image : Image) (e : StoreFault) → IsMisnumbered (Page p) image e → FailsHome next p image e
misnumbered_fails next p image e (v, is, fails) =
    let home = value_place (Page p) image in
    (v, is, first_fails (number_check (Page p) home v) (check_of (home + 5) (min v.stamp (next - 1)) v.stamp ∷ []) e fails)

-- one whose home has its number has no such damage
pub not_misnumbered : (p : ℕ) (image : Image) (v : BlockValue) (e : StoreFault) → value_of (Page p) image ≡ Some v → v.number ≡ p → IsMisnumbered (Page p) image e → ⊥
not_misnumbered p image v e is right (w, is_w, fails) =
    let both : Some v ≡ Some w = sym is ∙ is_w in
    let one : v ≡ w = cc both in
    let passed : judged Pages (number_check (Page p) (value_place (Page p) image) w ∷ []) ≡ Ok tt =
    picks p w.number (Ok tt) (Err (Damaged (damage_of Pages (value_place (Page p) image + 1) p w.number))) (sym right ∙ ap (λ (x : BlockValue). x.number) one) in
    cc (passed, fails)

behind_number : (next p home : ℕ) (v : BlockValue) → v.number ≡ p → judged Pages (home_checks next p home v) ≡ judged Pages (check_of (home + 5) (min v.stamp (next - 1)) v.stamp ∷ [])
behind_number next p home v right = picks p v.number (judged Pages (check_of (home + 5) (min v.stamp (next - 1)) v.stamp ∷ [])) (Err (Damaged (damage_of Pages (home + 1) p v.number))) (sym right)

-- a stamp that isn't below the next LSN fails behind the number
pub stamp_fails : (next p home : ℕ) (v : BlockValue) → v.number ≡ p → 1 ≤ next → next ≤ v.stamp → judged Pages (home_checks next p home v) ≡ Err (Damaged (damage_of Pages (home + 5) (next - 1) v.stamp))
stamp_fails next p home v right some high =
    let want : min v.stamp (next - 1) ≡ next - 1 = omega (arith, high) in
    behind_number next p home v right
    ∙ ⊎_elim (λ w. let same = w.1 in absurd (omega (arith, same, want, some, high)))
    (λ w. ap (λ (b : Bool). if b then Ok tt else Err (Damaged (damage_of Pages (home + 5) (min v.stamp (next - 1)) v.stamp))) w.0 ∙ ap (λ (n : ℕ). Err (Damaged (damage_of Pages (home + 5) n v.stamp))) want)
    (eqb_tells (min v.stamp (next - 1)) v.stamp)

-- what passes doesn't fail
pub passes_alone : (next p : ℕ) (image : Image) (e : StoreFault) → PassesHome next p image → FailsHome next p image e → ⊥
passes_alone next p image e passes (v, is, fails) =
    let both = passes v is in
    let low = both.1 in
    let home = value_place (Page p) image in
    let passed : judged Pages (home_checks next p home v) ≡ Ok tt =
    behind_number next p home v both.0 ∙ picks (min v.stamp (next - 1)) v.stamp (Ok tt) (Err (Damaged (damage_of Pages (home + 5) (min v.stamp (next - 1)) v.stamp))) (let e : min v.stamp (next - 1) ≡ v.stamp = omega (arith, low) in e) in
    cc (passed, fails)

-- the same of a page whose value is the same, in the same home
pub fails_same : (next p : ℕ) (a b : Image) (e : StoreFault) → HasSameHome p a b → FailsHome next p b e → FailsHome next p a e
fails_same next p a b e same (v, is, fails) = (v, sym same.value ∙ is, ap (λ (home : ℕ). judged Pages (home_checks next p home v)) (sym same.place) ∙ fails)

pub passes_same : (next p : ℕ) (a b : Image) → value_of (Page p) b ≡ value_of (Page p) a → PassesHome next p b → PassesHome next p a
passes_same next p a b same passes v is = passes v (same ∙ is)

-- a page that passes has no record that the log lacks
pub passes_low : (next counted p : ℕ) (image : Image) → 1 ≤ next → PassesHome next p image → (home_in counted image p).lsn < next
passes_low next counted p image some passes =
    ⊎_elim (λ inside. let low = by (value_of (Page p) image) passes in omega (arith, low, ap (λ (h : PageHeld). h.lsn) (counted_page counted p image (value_of (Page p) image) inside refl)))
    (λ outside. omega (arith, some, ap (λ (h : PageHeld). h.lsn) (blank_home counted p image outside)))
    (cases_lt p counted)
  where
    by : (o : Option BlockValue) → ((v : BlockValue) → o ≡ Some v → (v.number ≡ p) × (v.stamp < next)) → (page_with o).lsn < next
    by None each = omega (arith, some)
    by (Some v) each = (each v refl).1

-- ---- of the pages of records

module _ (next : ℕ) (image : Image) where
  pub pass_more : (rs : List Record) (r : Record) → PagesPass next image rs → PagePasses next image (overlay_of r) → PagesPass next image (rs ++ r ∷ [])
  pass_more [] r all one = (one, tt)
  pass_more (x ∷ rs) r all one = (all.0, pass_more rs r all.1 one)

  -- the first that fails, behind those that pass
  pub fails_at : (rs : List Record) (i : ℕ) (r : Record) (e : StoreFault) → slice_get rs i ≡ Some r → PagesPass next image (take i rs) → PageFails next image (overlay_of r) e → FirstPageFails next image rs e
  fails_at [] i r e is pass fails = absurd (cc is)
  fails_at (x ∷ rs) zero r e is pass fails = let same : x ≡ r = cc is in inl (subst (λ (y : Record). PageFails next image (overlay_of y) e) (sym same) fails)
  fails_at (x ∷ rs) (suc i) r e is pass fails = inr (pass.0, fails_at rs i r e is pass.1 fails)

  -- what is told of it
  pub first_told : (rs : List Record) (i : ℕ) (r : Record) (e : StoreFault) → slice_get rs i ≡ Some r → PagesPass next image (take i rs) → IsFaultOr (PageFails next image (overlay_of r)) e → IsFaultOr (FirstPageFails next image rs) e
  first_told rs i r Fault is pass fails = tt
  first_told rs i r (Damaged d) is pass fails = fails_at rs i r (Damaged d) is pass fails

  passed_on : (p : ℕ) (o : Option Overlay) → lies_on o p ≡ true → PagePasses next image o → PassesHome next p image
  passed_on p None is passes = absurd (cc is)
  passed_on p (Some o) is passes = ⊎_elim (λ w. subst (λ (n : ℕ). PassesHome next n image) w.1 passes) (λ w. absurd (cc (w.0, is))) (eqb_tells o.page p)

  -- a page that records are on passes, where theirs do; one that they aren't on is as it was
  pub passed_or_still : (p lsn : ℕ) (rs : List Record) (h : PageHeld) → PagesPass next image rs → PassesHome next p image ⊎ (overlaid p lsn rs h ≡ h)
  passed_or_still p lsn [] h pass = inr refl
  passed_or_still p lsn (r ∷ rs) h pass =
      ⊎_elim (λ on. inl (passed_on p (overlay_of r) on pass.0))
      (λ off.
      let same : with_record p lsn r h ≡ h = stays_out p lsn r h (λ on. absurd (cc (off, on))) in
      ⊎_elim (λ passes. inl passes) (λ still. inr (still ∙ same)) (passed_or_still p (lsn + 1) rs (with_record p lsn r h) pass.1))
      (either (touches r p))
