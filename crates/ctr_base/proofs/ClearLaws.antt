-- Pages that are cleared behind the counted ones change no state, and can be counted then.
use Rattle.std.proofs.Common.{◌≡◌, ⊎_elim, ℕ, ◌+◌, ◌*◌, ◌-◌, ◌≤◌, List, ◌++◌, length, take, drop, replicate, refl, sym, ◌∙◌, ap, subst, arith, length-append, length-drop, append_assoc}
use Rattle.std.proofs.lemmas.Bool.{cases_lt}
use Rattle.std.proofs.lemmas.List.{take_at, take-take, drop-take, length-take-le, length-replicate}
use Rattle.ctr_types.specs.declared.file.File.TheVariants.{Pages}
use Rattle.ctr_disk.specs.Image.{Image, content}
use Rattle.ctr_redo.specs.home_Root.{Root}
use Rattle.ctr_redo.specs.home_Block_TheVariants.{Page}
use Rattle.ctr_redo.specs.home_Home.{Home}
use Rattle.ctr_redo.specs.home_Home.TheVariants.{First, Second}
use Rattle.ctr_redo.specs.home_Blocks.{zero_bytes, opens_to, greater, held_at, home_place, stamp_in, value_home, value_of}
use Rattle.ctr_redo.specs.home_Roots.{IsRoot, SaysRoot, root_value}
use Rattle.ctr_redo.specs.log_Kept.{kept_log, HoldsLog}
use Rattle.ctr_redo.specs.ctr_pool.Pages.{PageHeld}
use Rattle.ctr_redo.specs.ctr_meta.Tables.{no_tables}
use Rattle.ctr_redo.specs.Fitting.{EachFits, TablesGoOn}
use Rattle.ctr_redo.specs.States.{state_of}
use Rattle.ctr_redo.specs.Images.{home_in, stored_in, IsSound, CanCount}
use Rattle.ctr_redo.proofs.ImageLaws.{KeepsLogs, pages_apart, kept_same, holds_same, begins_same, next_same, state_with}
use Rattle.ctr_redo.proofs.GrowthLaws.{counted_page, blank_home}
use Rattle.ctr_base.specs.Homes.{HasSameHome}
use Rattle.ctr_base.specs.Extent.{KeepsPageBytes, AreCleared}
use Rattle.ctr_base.proofs.ExtentLaws.{cleared_blank, cleared_long}

-- a home within a front that is the same
same_home : (n place : ℕ) (a b : List ℕ) → take n a ≡ take n b → place + 4128 ≤ n → take 4128 (drop place a) ≡ take 4128 (drop place b)
same_home n place a b same inside =
    sym (drop-take place 4128 a)
    ∙ ap (drop place) (sym (take-take (place + 4128) n a inside) ∙ ap (take (place + 4128)) same ∙ take-take (place + 4128) n b inside)
    ∙ drop-take place 4128 b

-- the homes of a page before those that are cleared hold what they held
pub held_same : (n q : ℕ) (old new : Image) → KeepsPageBytes n old new → 8256 * q + 8256 ≤ n → (h : Home) → held_at (Page q) h (content Pages new) ≡ held_at (Page q) h (content Pages old)
held_same n q old new keeps inside First = ap (opens_to (Page q)) (same_home n (8256 * q) new.pages old.pages keeps.front (omega (arith, inside)))
held_same n q old new keeps inside Second = ap (opens_to (Page q)) (same_home n (8256 * q + 4128) new.pages old.pages keeps.front (omega (arith, inside)))

-- so it has its value, in the same home
pub stays_home : (p : ℕ) (old new : Image) → ((h : Home) → held_at (Page p) h (content Pages new) ≡ held_at (Page p) h (content Pages old)) → HasSameHome p old new
stays_home p old new homes =
    let first = held_at (Page p) First (content Pages old) in
    let second = held_at (Page p) Second (content Pages new) in
    record {
      value = ap (λ o. greater o second) (homes First) ∙ ap (greater first) (homes Second);
      place = ap (λ o. home_place (Page p) (value_home (stamp_in o) (stamp_in second))) (homes First)
          ∙ ap (λ o. home_place (Page p) (value_home (stamp_in first) (stamp_in o))) (homes Second);
    }

pub value_same : (n q : ℕ) (old new : Image) → KeepsPageBytes n old new → 8256 * q + 8256 ≤ n → value_of (Page q) new ≡ value_of (Page q) old
value_same n q old new keeps inside = (stays_home q old new (held_same n q old new keeps inside)).value

-- the counted pages at home are as they were
pub home_cleared : (counted : ℕ) (old new : Image) → KeepsPageBytes (8256 * counted) old new → (q : ℕ) → home_in counted new q ≡ home_in counted old q
home_cleared counted old new keeps q =
    ⊎_elim
    (λ inside. counted_page counted q new (value_of (Page q) old) inside (value_same (8256 * counted) q old new keeps (omega (arith, inside))) ∙ sym (counted_page counted q old (value_of (Page q) old) inside refl))
    (λ outside. blank_home counted q new outside ∙ sym (blank_home counted q old outside))
    (cases_lt q counted)

module _ (root : Root) (old new : Image) (sound : IsSound root old) (keeps : KeepsPageBytes (8256 * root.pages) old new) where
  logs : KeepsLogs old new
  logs = pages_apart old new keeps.others

  home_same : (q : ℕ) → home_in root.pages new q ≡ home_in root.pages old q
  home_same q = home_cleared root.pages old new keeps q

  pub sound_cleared : IsSound root new
  sound_cleared = record {
    says = subst (λ (o : _). SaysRoot o root) (sym (ap (λ (i : Image). root_value i.root) keeps.others)) sound.says;
    log = subst (λ (l : List (List ℕ)). HoldsLog root.file root.first l new) (sym (kept_same root.file root.first old new logs)) (holds_same root.file root.first (kept_log root.file root.first old) old new logs sound.log);
    fits = subst (EachFits root.pages no_tables) (sym (kept_same root.file root.first old new logs)) sound.fits;
    begins = begins_same root.file root.first old new logs sound.begins;
    continues = subst TablesGoOn (sym (kept_same root.file root.first old new logs)) sound.continues;
    below = λ q. let low = sound.below q in omega (arith, low, next_same root old new logs, ap (λ (h : PageHeld). h.lsn) (home_same q));
    numbered = λ q v inside has. sound.numbered q v inside (sym (value_same (8256 * root.pages) q old new keeps (omega (arith, inside))) ∙ has);
    size = let size = sound.size in let longer = keeps.no_shorter in omega (arith, size, longer);
  }

  pub state_cleared : state_of (stored_in root new) ≡ state_of (stored_in root old)
  state_cleared = state_with root (home_in root.pages old) old new logs home_same

-- what is cleared stands behind the rest
pub cleared_keeps : (from to : ℕ) (old new : Image) → from ≤ to → 8256 * from ≤ length old.pages → AreCleared from to old new → KeepsPageBytes (8256 * from) old new
unfolding zero_bytes
cleared_keeps from to old new order inside was =
    let kept = take (8256 * from) old.pages in
    let k = 8256 * (to - from) in
    let zeros : List ℕ = replicate k 0 in
    let rest = drop (8256 * to) old.pages in
    let long = length-take-le (8256 * from) old.pages inside in
    record {
      others = was.others;
      front = ap (take (8256 * from)) (was.pages ∙ append_assoc kept zeros rest) ∙ take_at kept (zeros ++ rest) (8256 * from) long;
      no_shorter = omega (arith, ap length was.pages, length-append (kept ++ zeros) rest, length-append kept zeros, long, length-replicate {A = ℕ} k 0, length-drop (8256 * to) old.pages, order);
    }

pub can_count : (root more : Root) (old new : Image) → IsSound root old → IsRoot more → more.file ≡ root.file → more.first ≡ root.first → root.pages ≤ more.pages → AreCleared root.pages more.pages old new → CanCount root more new
can_count root more old new sound is_root file first grows was = record {
  is_root = is_root;
  file = file;
  first = first;
  grows = grows;
  blank = λ p low high. cleared_blank root.pages more.pages p old new sound.size was low high;
  size = cleared_long root.pages more.pages old new grows sound.size was;
}
