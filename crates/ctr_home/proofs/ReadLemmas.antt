-- What was found of a block, and what it says.
use Rattle.std.proofs.Common.{◌≡◌, ◌+◌, ℕ, List, [], ◌∷◌, refl, sym, ◌∙◌, ap, subst, Option, Some, None, Ok, Err}
use Rattle.ctr_home.specs.declared.root.Root.{Root}
use Rattle.ctr_disk.specs.declared.fault.StoreFault.{StoreFault}
use Rattle.ctr_disk.specs.declared.fault.StoreFault.TheVariants.{Fault, Damaged}
use Rattle.ctr_disk.specs.Image.{Image, content}
use Rattle.ctr_home.specs.declared.block.Block.{Block}
use Rattle.ctr_home.specs.declared.block.Block.TheVariants.{Root as RootBlock}
use Rattle.ctr_home.specs.declared.block.Home.{Home}
use Rattle.ctr_home.specs.Blocks.{BlockValue, file_of, block_number, home_place, held_at, stamp_in, value_of, value_place}
use Rattle.ctr_home.specs.Checks.{check_of, judged}
use Rattle.ctr_home.specs.Reading.{FindsHome, IsMisnumbered, ReadsBlock}
use Rattle.ctr_home.specs.Roots.{ReadsRoot, SaysOrRefuses}

module _ (b : Block) (image : Image) (found : Option (Home × ℕ)) (home : Home) (stamp : ℕ) (is : found ≡ Some (home, stamp)) (finds : FindsHome b (content (file_of b) image) found) where
  there : FindsHome b (content (file_of b) image) (Some (home, stamp))
  there = subst (FindsHome b (content (file_of b) image)) is finds

  -- what the home of the value holds
  pub held : (v : BlockValue) × (held_at b home (content (file_of b) image) ≡ Some v) × (v.stamp ≡ stamp)
  held = by_cases (held_at b home (content (file_of b) image)) there.2
    where
      by_cases : (o : Option BlockValue) → stamp_in o ≡ Some stamp → (v : BlockValue) × (o ≡ Some v) × (v.stamp ≡ stamp)
      by_cases None e = absurd (cc e)
      by_cases (Some v) e = (v, refl, let or_stamp : Option ℕ → ℕ = λ o. elim o [ None ↦ stamp | Some n ↦ n ] in ap or_stamp e)

  pub value_is : (v : BlockValue) → held_at b home (content (file_of b) image) ≡ Some v → value_of b image ≡ Some v
  value_is v e = there.0 ∙ e

  pub place_is : home_place b home ≡ value_place b image
  place_is = there.1

  -- the number that was read isn't the block's
  pub misnumbered : (number : ℕ) (e : StoreFault) → ((v : BlockValue) → held_at b home (content (file_of b) image) ≡ Some v → number ≡ v.number)
      → Err e ≡ judged (file_of b) (check_of (home_place b home + 1) (block_number b) number ∷ []) → IsMisnumbered b image e
  misnumbered number e read row = (
    held.0,
    value_is held.0 held.1,
    sym (row ∙ ap (λ (n : ℕ). judged (file_of b) (check_of (home_place b home + 1) (block_number b) n ∷ [])) (read held.0 held.1)
        ∙ ap (λ (k : ℕ). judged (file_of b) (check_of (k + 1) (block_number b) held.0.number ∷ [])) place_is),
  )

pub reads_none : (b : Block) (image : Image) (into : List ℕ) (e : StoreFault) → IsMisnumbered b image e → ReadsBlock b image into (Err e)
reads_none b image into Fault is = tt
reads_none b image into (Damaged d) is = is

-- the root that was found
module _ (image : Image) (found : Option (Home × ℕ)) (home : Home) (stamp : ℕ) (is : found ≡ Some (home, stamp)) (finds : FindsHome RootBlock image.root found)
    (number : ℕ) (number_is : (v : BlockValue) → held_at RootBlock home image.root ≡ Some v → number ≡ v.number) (body : List ℕ) (body_is : (v : BlockValue) → held_at RootBlock home image.root ≡ Some v → body ≡ v.body) where
  its : (v : BlockValue) × (held_at RootBlock home image.root ≡ Some v) × (v.stamp ≡ stamp)
  its = held RootBlock image found home stamp is finds

  -- what was read is what the home holds
  abbrev read : BlockValue
  read = record { number = number; stamp = stamp; body = body }

  value_read : value_of RootBlock image ≡ Some read
  value_read =
      let same : its.0 ≡ read = (λ i. record { number = sym (number_is its.0 its.1) i; stamp = its.2 i; body = sym (body_is its.0 its.1) i }) in
      value_is RootBlock image found home stamp is finds its.0 its.1 ∙ ap Some same

  -- so its answer is the block's
  module _ (at : ℕ) (at_is : at ≡ home_place RootBlock home) where
    pub root_found : (r : Root) → SaysOrRefuses at read (Ok r) → ReadsRoot image (Ok (Some r))
    root_found r says = (value_read ∙ ap Some says.0, says.1)

    pub root_refused : (e : StoreFault) → SaysOrRefuses at read (Err e) → ReadsRoot image (Err e)
    root_refused Fault refuses = tt
    root_refused (Damaged d) refuses =
        let place = at_is ∙ place_is RootBlock image found home stamp is finds in
        (read, value_read, subst (λ (k : ℕ). SaysOrRefuses k read (Err (Damaged d))) place refuses)
