-- What a torn write may leave, by pieces.
use Rattle.std.proofs.Common.{◌≡◌, ℕ, zero, suc, ◌+◌, ◌-◌, ◌≤◌, min, max, List, [], ◌∷◌, ◌++◌, length, take, drop, replicate, refl, sym, ◌∙◌, ap, subst, arith, length-append, length-take, length-drop, take-append-drop}
use Rattle.std.proofs.lemmas.List.{take_all, take_min, take-append-le, length-replicate}
use Rattle.std.proofs.Math.Seq.{take-nil}
use Rattle.std.proofs.lemmas.Slice.{drop-append-drop}
use Rattle.ctr_disk.specs.Image.{Image, written, write_of, Torn, TornImage}
use Rattle.ctr_types.specs.declared.file.File.{File}
use Rattle.ctr_types.specs.declared.file.File.TheVariants.{Root, LogA, LogB, Pages}

-- nothing of it may have happened
torn_none : (at n : ℕ) (o : List ℕ) → Torn at n o o
torn_none at n o =
    record {
      before = (drop at o, sym (take-append-drop at o));
      after = refl;
      no_shorter = omega arith;
      no_longer = omega arith;
    }

-- A torn write of nothing leaves the image as it was.
pub torn_nothing : (file : File) (at n : ℕ) (d : Image) → TornImage file at n d d
torn_nothing Root at n d = record { torn = torn_none at n d.root; others = refl }
torn_nothing LogA at n d = record { torn = torn_none at n d.log_a; others = refl }
torn_nothing LogB at n d = record { torn = torn_none at n d.log_b; others = refl }
torn_nothing Pages at n d = record { torn = torn_none at n d.pages; others = refl }

drop_of_take : (n e : ℕ) (l : List ℕ) → drop n (take e l) ≡ take (e - n) (drop n l)
drop_of_take zero e l = let same : e - 0 ≡ e = omega arith in ap (λ (k : ℕ). take k l) (sym same)
drop_of_take (suc n) zero l =
    let none : 0 - suc n ≡ 0 = omega arith in ap (λ (k : ℕ). take k (drop (suc n) l)) (sym none)
drop_of_take (suc n) (suc e) [] = sym (take-nil {A = ℕ} (suc e - suc n))
drop_of_take (suc n) (suc e) (x ∷ l) =
    let less : suc e - suc n ≡ e - n = omega arith in
    drop_of_take n e l ∙ ap (λ (k : ℕ). take k (drop n l)) (sym less)

-- a shorter prefix of a prefix
take_of_take : (m e : ℕ) (l : List ℕ) → m ≤ e → take m (take e l) ≡ take m l
take_of_take zero e l le = refl
take_of_take (suc m) zero l le = absurd (omega (arith, le))
take_of_take (suc m) (suc e) [] le = refl
take_of_take (suc m) (suc e) (x ∷ l) le =
    ap (λ (t : List ℕ). x ∷ t) (take_of_take m e l (omega (arith, le)))

length-padded : (p : ℕ) (o : List ℕ) → length (take p (o ++ replicate p 0)) ≡ p
length-padded p o =
    omega (
      arith,
      length-take p (o ++ replicate p 0),
      length-append o (replicate p 0),
      length-replicate {A = ℕ} p 0,
    )

-- how long the file is after a write
pub length-written : (p : ℕ) (xs o : List ℕ)
    → length (written p xs o) ≡ max (length o) (p + length xs)
length-written p xs o =
    let front = take p (o ++ replicate p 0) in
    omega (
      arith,
      length-padded p o,
      length-append front xs,
      length-append (front ++ xs) (drop (p + length xs) o),
      length-drop (p + length xs) o,
    )

-- what stands below the place stays
front_of : (m p : ℕ) (xs o : List ℕ) → m ≤ p → m ≤ length o → take m (written p xs o) ≡ take m o
front_of m p xs o low inside =
    let front = take p (o ++ replicate p 0) in
    let long : m ≤ length front = omega (arith, low, length-padded p o) in
    let longer : m ≤ length (front ++ xs) = omega (arith, long, length-append front xs) in
    take-append-le m (front ++ xs) (drop (p + length xs) o) longer ∙ take-append-le m front xs long
    ∙ take_of_take m p (o ++ replicate p 0) low ∙ take-append-le m o (replicate p 0) inside

-- A file of which a part is written and whose end is cut off, within what a write may change.
module _ (at n p e : ℕ) (xs o : List ℕ) where
  -- what is left is torn
  pub torn_piece : min at (length o) ≤ p → p + length xs ≤ at + n → length o ≤ e
      → Torn at n o (take e (written p xs o))
  torn_piece low high end =
      let w = written p xs o in
      let m = min at (length o) in
      let front = take p (o ++ replicate p 0) in
      let size : length (front ++ xs) ≡ p + length xs =
      omega (arith, length-append front xs, length-padded p o) in
      let same : take m (take e w) ≡ take at o =
      take_of_take m e w (omega (arith, end)) ∙ front_of m p xs o low (omega arith)
      ∙ take_min at o in
      let tail : drop (at + n) w ≡ drop (at + n) o =
      drop-append-drop (p + length xs) o (front ++ xs) (at + n) high size in
      let whole = length-written p xs o in
      let cut = length-take e w in
      record {
        before = (
          drop m (take e w),
          sym (take-append-drop m (take e w))
              ∙ ap (λ (l : List ℕ). l ++ drop m (take e w)) same,
        );
        after = drop_of_take (at + n) e w ∙ ap (λ (l : List ℕ). take (e - (at + n)) l) tail
            ∙ take_all (e - (at + n)) (drop (at + n) o)
            (omega (arith, end, length-drop (at + n) o));
        no_shorter = omega (arith, whole, cut, end);
        no_longer = omega (arith, whole, cut, high);
      }

torn_all : (at : ℕ) (bytes o : List ℕ) → Torn at (length bytes) o (written at bytes o)
torn_all at bytes o =
    let e = length (written at bytes o) in
    subst (λ w. Torn at (length bytes) o w) (take_all e (written at bytes o) (omega arith))
    (torn_piece at (length bytes) at e bytes o (omega arith) (omega arith)
    (omega (arith, length-written at bytes o)))

-- all of it may have happened
pub torn_whole : (file : File) (at : ℕ) (bytes : List ℕ) (d : Image)
    → TornImage file at (length bytes) d (write_of file at bytes d)
torn_whole Root at bytes d = record { torn = torn_all at bytes d.root; others = refl }
torn_whole LogA at bytes d = record { torn = torn_all at bytes d.log_a; others = refl }
torn_whole LogB at bytes d = record { torn = torn_all at bytes d.log_b; others = refl }
torn_whole Pages at bytes d = record { torn = torn_all at bytes d.pages; others = refl }
