-- Pages at home since the first image of an opening.
use Rattle.std.proofs.Common.{◌≡◌, inl, inr, ⊎_elim, ℕ, ◌*◌, ◌<◌, ◌≤◌, Bool, if◌then◌else◌, List, Result, Ok, Err, Some, refl, sym, ◌∙◌, ap, subst, arith}
use Rattle.std.specs.Prelude.{IfErr, OnOk}
use Rattle.std.proofs.lemmas.Bool.{lt-ltb}
use Rattle.std.proofs.lemmas.Bool.Decides.{eqb_tells}
use Rattle.ctr_types.specs.declared.file.File.TheVariants.{Pages}
use Rattle.ctr_disk.specs.declared.disk.Disk.{Ghosts}
use Rattle.ctr_redo.specs.home_Root.{Root}
use Rattle.ctr_disk.specs.declared.fault.StoreFault.{StoreFault}
use Rattle.ctr_disk.specs.declared.fault.StoreFault.TheVariants.{Fault, Damaged}
use Rattle.ctr_disk.specs.Image.{Image, content}
use Rattle.ctr_redo.specs.home_Block_TheVariants.{Page, Root as RootBlock}
use Rattle.ctr_redo.specs.home_Blocks.{BlockValue, held_at, value_of, value_place, page_with, blank_page}
use Rattle.ctr_redo.specs.home_Reading.{IsMisnumbered, IsFaultOr}
use Rattle.ctr_redo.specs.home_Roots.{SaysRoot}
use Rattle.ctr_redo.specs.home_Writing.{OthersStay, with_body}
use Rattle.ctr_redo.specs.ctr_pool.Below.{IsFound}
use Rattle.ctr_redo.specs.Images.{home_in}
use Rattle.ctr_base.specs.declared.base.Base.{Base}
use Rattle.ctr_base.specs.Homes.{HasSameHome, IsWrittenSince, IsSince, HomesSince}
use Rattle.ctr_base.specs.Base.{StandsQuiet, FindsNumber}
use Rattle.ctr_base.specs.Extent.{KeepsPageBytes}
use Rattle.ctr_base.proofs.RootLaws.{one_root}
use Rattle.ctr_base.proofs.ClearLaws.{held_same, stays_home}

-- behind what leaves a page in its home
since_on : (p : ℕ) (first old new : Image) → HasSameHome p old new → IsSince p first old → IsSince p first new
since_on p first old new same since = ⊎_elim (λ w. inl (record { value = same.value ∙ w.value; place = same.place ∙ w.place }))
    (λ w. inr (subst (IsWrittenSince p (value_of (Page p) first)) (sym same.value) w))
    since

-- where the file of pages is as it was
pub since_still : (first : Image) (counted : ℕ) (old new : Image) → content Pages new ≡ content Pages old → HomesSince first counted old → HomesSince first counted new
since_still first counted old new same since = record {
  more = since.more;
  homes = λ r says p inside. since_on p first old new (stays_home p old new (λ h. ap (held_at (Page p) h) same)) (since.homes r says p inside);
}

-- of the first image itself
pub since_first : (first : Image) (root : Root) (image : Image) → SaysRoot (value_of RootBlock first) root → image ≡ first → HomesSince first root.pages image
since_first first root image says same = record {
  more = λ r told. omega (arith, ap (λ (x : Root). x.pages) (one_root (value_of RootBlock first) r root told says));
  homes = λ r told p inside. inl (record { value = ap (λ (i : Image). value_of (Page p) i) same; place = ap (λ (i : Image). value_place (Page p) i) same });
}

-- the stamp of a counted page's value
raw_lower : (counted p : ℕ) (image : Image) (lsn : ℕ) → p < counted → (home_in counted image p).lsn < lsn → (page_with (value_of (Page p) image)).lsn < lsn
raw_lower counted p image lsn inside low = subst (λ (b : Bool). (if b then page_with (value_of (Page p) image) else blank_page).lsn < lsn) (lt-ltb p counted inside) low

-- behind the writing of a page
pub since_written : (first : Image) (counted p stamp : ℕ) (body : List ℕ) (old new : Image) → p < counted → (home_in counted old p).lsn < stamp → OthersStay (Page p) old new → value_of (Page p) new ≡ Some (with_body (Page p) stamp body)
    → HomesSince first counted old → HomesSince first counted new
since_written first counted p stamp body old new inside above others is since = record {
  more = since.more;
  homes = λ r says q low. ⊎_elim (λ w. subst (λ (n : ℕ). IsSince n first new) (sym w.1) (here r says (subst (λ (n : ℕ). n < r.pages) w.1 low)))
      (λ w. since_on q first old new (stays_home q old new (others.homes (Page q) (λ e. w.1 (number_of q e)))) (since.homes r says q low))
      (eqb_tells q p);
}
  where
    number_of : (q : ℕ) → Page q ≡ Page p → q ≡ p
    number_of q e = cc e

    here : (r : Root) → SaysRoot (value_of RootBlock first) r → p < r.pages → IsSince p first new
    here r says low =
        let lower = raw_lower counted p old stamp inside above in
        inr (record {
          value = with_body (Page p) stamp body;
          is = is;
          number = refl;
          later = ⊎_elim (λ same. subst (λ o. (page_with o).lsn < stamp) same.value lower)
              (λ w. let one = w.later in let two : w.value.stamp < stamp = subst (λ o. (page_with o).lsn < stamp) w.is lower in omega (arith, one, two))
              (since.homes r says p low);
        })

-- behind a growth
pub since_grown : (first : Image) (from to : ℕ) (old mid new : Image) → from ≤ to → KeepsPageBytes (8256 * from) old mid → OthersStay RootBlock mid new → HomesSince first from old → HomesSince first to new
since_grown first from to old mid new order keeps others since = record {
  more = λ r says. let low = since.more r says in omega (arith, low, order);
  homes = λ r says p inside.
      let low = since.more r says in
      let kept = stays_home p old mid (held_same (8256 * from) p old mid keeps (omega (arith, low, inside))) in
      let beside = stays_home p mid new (others.homes (Page p) (λ e. absurd (cc e))) in
      since_on p first mid new beside (since_on p first old mid kept (since.homes r says p inside));
}

-- what the reading of a page found
pub found_number : {D O : Type 0} (first : Image) (g : Ghosts D) (b : Base D O) (p : ℕ) (image : Image) → g.reads b.disk ≡ image → StandsQuiet first g b → (r : Result ℕ StoreFault)
    → (p < b.root.pages → OnOk r ((v : BlockValue) → value_of (Page p) image ≡ Some v → v.number ≡ p)) → IfErr r (IsFaultOr (IsMisnumbered (Page p) image)) → IsFound (FindsNumber first g b p) r
found_number first g b p image same rests (Ok n) numbered refused = λ inside v is. numbered inside v (ap (λ (i : Image). value_of (Page p) i) (sym same) ∙ is)
found_number first g b p image same rests (Err Fault) numbered refused = tt
found_number first g b p image same rests (Err (Damaged d)) numbered refused =
    (rests, subst (λ (i : Image). IsMisnumbered (Page p) i (Damaged d)) (sym same) refused)
