-- What clearing pages leaves of the file of pages, and that cleared pages are blank.
use Rattle.std.proofs.Common.{◌≡◌, ℕ, ◌+◌, ◌*◌, ◌-◌, ◌<◌, ◌≤◌, List, ◌++◌, length, take, drop, replicate, None, refl, sym, ◌∙◌, ap, arith, length-append, append_assoc, take-append-drop}
use Rattle.std.proofs.Math.Seq.{drop-append-add, take-append-add}
use Rattle.std.proofs.lemmas.List.{append-nil, take_at, drop-drop, take-append-le, drop-append-le, length-take-le, length-replicate, drop-replicate, take-replicate, replicate-append-replicate}
use Rattle.ctr_types.specs.declared.file.File.TheVariants.{Pages}
use Rattle.ctr_disk.specs.Image.{Image, write_of, TornImage}
use Rattle.ctr_disk.proofs.Torn.{same_but}
use Rattle.ctr_redo.specs.home_Block_TheVariants.{Page}
use Rattle.ctr_redo.specs.home_Blocks.{zero_bytes, opens_to, greater, value_of}
use Rattle.ctr_redo.proofs.home_HomeLemmas.{opened_shut}
use Rattle.ctr_base.specs.Extent.{KeepsPageBytes, AreCleared}

pub keeps_start : (n : ℕ) (old c : Image) → c ≡ old → KeepsPageBytes n old c
keeps_start n old c is = record {
  others = is ∙ ap (λ (b : List ℕ). record old { pages = b }) (sym (ap (λ (i : Image). i.pages) is));
  front = ap (λ (i : Image). take n i.pages) is;
  no_shorter = omega (arith, ap (λ (i : Image). length i.pages) is);
}

-- a front of a longer front
front_of : (n at : ℕ) (l rest : List ℕ) → n ≤ at → n ≤ length l → take n (take at l ++ rest) ≡ take n l
front_of n at l rest low inside =
    let both = take-append-drop n l in
    let long = length-take-le n l inside in
    let cut : take at l ≡ take n l ++ take (at - n) (drop n l) =
    ap (λ (x : List ℕ). take at x) (sym both) ∙ ap (λ (m : ℕ). take m (take n l ++ drop n l)) (let e : at ≡ length (take n l) + (at - n) = omega (arith, low, long) in e)
    ∙ take-append-add (take n l) (drop n l) (at - n) in
    ap (λ (x : List ℕ). take n (x ++ rest)) cut ∙ ap (take n) (append_assoc (take n l) (take (at - n) (drop n l)) rest) ∙ take_at (take n l) (take (at - n) (drop n l) ++ rest) n long

pub keeps_torn : (n at k : ℕ) (old mid new : Image) → n ≤ length old.pages → n ≤ at → KeepsPageBytes n old mid → TornImage Pages at k mid new → KeepsPageBytes n old new
keeps_torn n at k old mid new inside low keeps torn =
    let longer = keeps.no_shorter in
    let grown = torn.torn.no_shorter in
    let front = torn.torn.before in
    record {
      others = same_but Pages old mid new keeps.others torn.others;
      front = ap (take n) front.1 ∙ front_of n at mid.pages front.0 low (omega (arith, inside, longer)) ∙ keeps.front;
      no_shorter = omega (arith, longer, grown);
    }

pub cleared_start : (p : ℕ) (old : Image) → AreCleared p p old old
unfolding zero_bytes
cleared_start p old = record {
  others = refl;
  pages =
      sym (take-append-drop (8256 * p) old.pages)
      ∙ ap (λ (l : List ℕ). l ++ drop (8256 * p) old.pages) (sym (append-nil (take (8256 * p) old.pages)))
      ∙ ap (λ (k : ℕ). take (8256 * p) old.pages ++ replicate k 0 ++ drop (8256 * p) old.pages) (let e : 0 ≡ 8256 * (p - p) = omega arith in e);
}

pub cleared_more : (from p : ℕ) (old mid new : Image) → from ≤ p → 8256 * from ≤ length old.pages → AreCleared from p old mid → new ≡ write_of Pages (8256 * p) (zero_bytes 8256) mid → AreCleared from (p + 1) old new
unfolding zero_bytes
cleared_more from p old mid new order inside was is =
    let at = 8256 * p in
    let k = 8256 * (p - from) in
    let kept = take (8256 * from) old.pages in
    let front = kept ++ replicate k 0 in
    let rest = drop at old.pages in
    let zeros : List ℕ = replicate 8256 0 in
    let long : length front ≡ at = omega (arith, length-append kept (replicate k 0), length-take-le (8256 * from) old.pages inside, length-replicate {A = ℕ} k 0, order) in
    let wide : length zeros ≡ 8256 = length-replicate {A = ℕ} 8256 0 in
    let head : take at (mid.pages ++ replicate at 0) ≡ front =
    ap (λ (l : List ℕ). take at (l ++ replicate at 0)) was.pages ∙ ap (take at) (append_assoc front rest (replicate at 0)) ∙ take_at front (rest ++ replicate at 0) at long in
    let tail : drop (at + length zeros) mid.pages ≡ drop (8256 * (p + 1)) old.pages =
    ap (drop (at + length zeros)) was.pages
    ∙ ap (λ (n : ℕ). drop n (front ++ rest)) (let e : at + length zeros ≡ length front + 8256 = omega (arith, long, wide) in e)
    ∙ drop-append-add front rest 8256
    ∙ drop-drop 8256 at old.pages
    ∙ ap (λ (n : ℕ). drop n old.pages) (let e : at + 8256 ≡ 8256 * (p + 1) = omega arith in e) in
    let wider : front ++ zeros ≡ kept ++ replicate (8256 * (p + 1 - from)) 0 =
    append_assoc kept (replicate k 0) zeros ∙ ap (λ (l : List ℕ). kept ++ l) (replicate-append-replicate k 8256 0)
    ∙ ap (λ (m : ℕ). kept ++ replicate m 0) (let e : k + 8256 ≡ 8256 * (p + 1 - from) = omega (arith, order) in e) in
    let pages = ap (λ (i : Image). i.pages) is in
    record {
      others = same_but Pages old mid new was.others (is ∙ ap (λ (b : List ℕ). record mid { pages = b }) (sym pages));
      pages = pages ∙ ap (λ (l : List ℕ). l ++ zeros ++ drop (at + length zeros) mid.pages) head ∙ ap (λ (l : List ℕ). front ++ zeros ++ l) tail ∙ ap (λ (l : List ℕ). l ++ drop (8256 * (p + 1)) old.pages) wider;
    }

-- the pages that are cleared lie in the file
pub cleared_long : (from to : ℕ) (old new : Image) → from ≤ to → 8256 * from ≤ length old.pages → AreCleared from to old new → 8256 * to ≤ length new.pages
unfolding zero_bytes
cleared_long from to old new order inside was =
    let k = 8256 * (to - from) in
    let kept = take (8256 * from) old.pages in
    omega (
      arith,
      ap length was.pages,
      length-append (kept ++ replicate k 0) (drop (8256 * to) old.pages),
      length-append kept (replicate k 0),
      length-take-le (8256 * from) old.pages inside,
      length-replicate {A = ℕ} k 0,
      order,
    )

-- a home among zeros is one of zeros
home_blank : (place k : ℕ) (kept rest : List ℕ) → length kept ≤ place → place + 4128 ≤ length kept + k → take 4128 (drop place (kept ++ replicate k 0 ++ rest)) ≡ replicate 4128 0
home_blank place k kept rest behind inside =
    let m = place - length kept in
    let zeros : List ℕ = replicate k 0 in
    let wide : length zeros ≡ k = length-replicate {A = ℕ} k 0 in
    let left : length (replicate {A = ℕ} (k - m) 0) ≡ k - m = length-replicate {A = ℕ} (k - m) 0 in
    ap (λ (l : List ℕ). take 4128 (drop place l)) (append_assoc kept zeros rest)
    ∙ ap (λ (n : ℕ). take 4128 (drop n (kept ++ (zeros ++ rest)))) (let e : place ≡ length kept + m = omega (arith, behind) in e)
    ∙ ap (take 4128) (drop-append-add kept (zeros ++ rest) m ∙ drop-append-le m zeros rest (omega (arith, wide, behind, inside)) ∙ ap (λ (l : List ℕ). l ++ rest) (drop-replicate m k 0))
    ∙ take-append-le 4128 (replicate (k - m) 0) rest (omega (arith, left, behind, inside))
    ∙ take-replicate 4128 (k - m) 0 (omega (arith, behind, inside))

zeros_shut : (q : ℕ) → opens_to (Page q) (replicate 4128 0) ≡ None
zeros_shut q = ap (opens_to (Page q)) (sym (replicate-append-replicate 1 4127 0)) ∙ opened_shut (Page q) 0 (replicate 4127 0) (λ e. omega (arith, e))

-- a cleared page is blank
pub cleared_blank : (from to q : ℕ) (old new : Image) → 8256 * from ≤ length old.pages → AreCleared from to old new → from ≤ q → q < to → value_of (Page q) new ≡ None
unfolding zero_bytes
cleared_blank from to q old new inside was behind below =
    let k = 8256 * (to - from) in
    let kept = take (8256 * from) old.pages in
    let rest = drop (8256 * to) old.pages in
    let long = length-take-le (8256 * from) old.pages inside in
    let shut : (place : ℕ) → 8256 * q ≤ place → place + 4128 ≤ 8256 * q + 8256 → opens_to (Page q) (take 4128 (drop place new.pages)) ≡ None =
    λ place low high.
    ap (λ (l : List ℕ). opens_to (Page q) (take 4128 (drop place l))) was.pages ∙ ap (opens_to (Page q)) (home_blank place k kept rest (omega (arith, long, low, behind)) (omega (arith, long, high, behind, below))) ∙ zeros_shut q in
    ap (λ o. greater o (opens_to (Page q) (take 4128 (drop (8256 * q + 4128) new.pages)))) (shut (8256 * q) (omega arith) (omega arith)) ∙ shut (8256 * q + 4128) (omega arith) (omega arith)
