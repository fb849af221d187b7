-- What a growth leaves, at each moment and behind it.
use Rattle.std.proofs.Common.{◌≡◌, ◌⊎◌, inl, inr, ⊎_elim, ℕ, ◌+◌, ◌-◌, ◌*◌, ◌<◌, ◌≤◌, List, ◌++◌, length, take, None, refl, sym, ◌∙◌, ap, subst, arith}
use Rattle.std.specs.Prelude.{min}
use Rattle.ctr_disk.specs.declared.disk.Disk.{Ghosts}
use Rattle.ctr_disk.specs.Image.{Image}
use Rattle.ctr_redo.specs.home_Root.{Root}
use Rattle.ctr_disk.specs.Device.{LeavesOnly, IsDurable}
use Rattle.ctr_disk.proofs.Moments.{weaker}
use Rattle.ctr_redo.specs.home_Block_TheVariants.{Page, Root as RootBlock}
use Rattle.ctr_redo.specs.home_Blocks.{value_of}
use Rattle.ctr_redo.specs.home_Roots.{IsRoot}
use Rattle.ctr_redo.specs.home_Writing.{OthersStay}
use Rattle.ctr_redo.specs.log_Kept.{kept_log}
use Rattle.ctr_redo.specs.rec_Record.{Record}
use Rattle.ctr_redo.specs.ctr_meta.Tables.{no_tables}
use Rattle.ctr_redo.specs.ctr_meta.Effects.{tables_of}
use Rattle.ctr_redo.specs.ctr_pool.Pages.{PageHeld}
use Rattle.ctr_redo.specs.ctr_pool.Below.{HoldsStill}
use Rattle.ctr_redo.specs.Overlaid.{overlaid}
use Rattle.ctr_redo.specs.States.{State, page_limit, state_of, counting, grown}
use Rattle.ctr_redo.specs.Images.{records_in, home_in, stored_in, IsSound, FoldsTo, FoldsGrown}
use Rattle.ctr_redo.proofs.StateLaws.{pages_same}
use Rattle.ctr_redo.proofs.FitLaws.{each_more}
use Rattle.ctr_redo.proofs.ImageLaws.{KeepsLogs, pages_apart, root_apart, kept_same, next_same, follows_same}
use Rattle.ctr_redo.proofs.GrowthLaws.{home_counted, folds_counted, sound_behind, page_blank}
use Rattle.ctr_base.specs.declared.base.Base.{Base}
use Rattle.ctr_base.specs.Base.{stored_of, waiting_of, now_of, home_of, MaySave, MayPut, IsQuiet, StandsWell, StandsQuiet}
use Rattle.ctr_base.specs.Homes.{HomesSince}
use Rattle.ctr_base.specs.Extent.{KeepsPageBytes}
use Rattle.ctr_base.specs.Growth.{IsGrowing, HasGrown, grown_root, GrowsBase, GrowsOver, AreBlank}
use Rattle.ctr_base.specs.LogLaws.{goes_on_same, log_content, writes_same}
use Rattle.ctr_base.proofs.ExtentLaws.{cleared_blank, cleared_long}
use Rattle.ctr_base.proofs.HomeLaws.{since_grown}
use Rattle.ctr_base.proofs.ClearLaws.{home_cleared, sound_cleared, state_cleared, cleared_keeps, can_count}

pub grown_more : (n : ℕ) → n < 30000 → n + 1 ≤ grown n
grown_more n few = omega (arith, few)

pub grown_most : (n : ℕ) → grown n ≤ 30000
grown_most n = omega arith

pub grown_is_root : (root : Root) → IsRoot root → root.pages < 30000 → IsRoot (grown_root root)
grown_is_root root is few =
    let more = grown_more root.pages few in
    let least = is.pages_low in
    let stamp = is.stamp in
    record {
      format = is.format;
      file = is.file;
      first_low = is.first_low;
      first_high = is.first_high;
      pages_low = omega (arith, least, more);
      pages_high = grown_most root.pages;
      stamp = omega (arith, stamp, more);
    }

-- the root that is written is that one
pub is_grown_root : (root : Root) (stamp pages : ℕ) → IsRoot root → stamp ≡ min (root.stamp + 1) 18446744073709551615 → pages ≡ grown root.pages → record root { stamp = stamp; pages = pages } ≡ grown_root root
is_grown_root root stamp pages is stamp_is pages_is =
    let most = is.pages_high in
    let first = is.first_high in
    let low = is.stamp in
    let next : stamp ≡ root.stamp + 1 = omega (arith, stamp_is, most, first, low) in
    ap (λ (n : ℕ). record root { stamp = n; pages = pages }) next ∙ ap (λ (n : ℕ). record root { stamp = root.stamp + 1; pages = n }) pages_is

-- while a growth goes on
folds_growing : (root : Root) (old c : Image) → IsSound root old → root.pages < 30000 → IsGrowing root.pages (grown_root root) old c → FoldsGrown (state_of (stored_in root old)) c
folds_growing root old c sound few (inl keeps) = inl (record { root = root; sound = sound_cleared root old c sound keeps; state_is = state_cleared root old c sound keeps })
folds_growing root old c sound few (inr (mid, cleared, which)) =
    let more = grown_root root in
    let order = grown_more root.pages few in
    let keeps = cleared_keeps root.pages more.pages old mid (omega (arith, order)) sound.size cleared in
    let mid_sound = sound_cleared root old mid sound keeps in
    let can = can_count root more old mid sound (grown_is_root root sound.says.1 few) refl refl (omega (arith, order)) cleared in
    subst (λ (s : State). FoldsTo c s ⊎ FoldsTo c (counting more.pages s)) (state_cleared root old mid sound keeps) (folds_counted root more mid c mid_sound can which)

-- the state where more pages are counted, and the pages and records are the same
state_counted : (n m first : ℕ) (homes homes' : ℕ → PageHeld) (rs rs' : List Record) → rs' ≡ rs → ((q : ℕ) → homes' q ≡ homes q)
    → state_of (record { counted = n; homes = homes'; first = first; records = rs' }) ≡ counting n (state_of (record { counted = m; homes = homes; first = first; records = rs }))
state_counted n m first homes homes' rs rs' same each =
    ap (λ (l : List Record). state_of (record { counted = n; homes = homes'; first = first; records = l })) same
    ∙ ap (λ (ps : List (List ℕ)). record { counted = n; pages = ps; tables = tables_of rs }) (pages_same homes' homes first first rs rs (λ q. ap (overlaid q first rs) (each q)) 0 page_limit)

module _ {D O : Type 0} (g : Ghosts D) where
  pub growing_leaves : (a : Base D O) (d : D) → IsQuiet g a → a.root.pages < 30000 → LeavesOnly g a.disk d (IsGrowing a.root.pages (grown_root a.root) (g.reads a.disk)) → LeavesOnly g a.disk d (FoldsGrown (state_of (stored_of g a)))
  growing_leaves a d quiet few crash =
      weaker g a.disk d (IsGrowing a.root.pages (grown_root a.root) (g.reads a.disk)) (FoldsGrown (state_of (stored_of g a))) crash (λ c is. folds_growing a.root (g.reads a.disk) c quiet.sound few is)

  pub growth_blank : (a : Base D O) → IsQuiet g a → AreBlank a.root.pages (grown a.root.pages) (state_of (now_of g a))
  growth_blank a quiet p low high inside = page_blank a.root a.log.buffered (g.reads a.disk) p quiet.follows.fits low inside

  module _ (a : Base D O) (d : D) (stands : StandsWell g a) (few : a.root.pages < 30000) (has : HasGrown a.root.pages (grown_root a.root) (g.reads a.disk) (g.reads d)) where
    abbrev more : Root
    more = grown_root a.root

    abbrev b : Base D O
    b = record a { disk = d; root = more }

    abbrev old : Image
    old = g.reads a.disk

    abbrev new : Image
    new = g.reads d

    abbrev mid : Image
    mid = has.0

    order : a.root.pages ≤ more.pages
    order = let m = grown_more a.root.pages few in omega (arith, m)

    keeps : KeepsPageBytes (8256 * a.root.pages) old mid
    keeps = cleared_keeps a.root.pages more.pages old mid order stands.size has.1

    others : OthersStay RootBlock mid new
    others = has.2.0

    logs : KeepsLogs old new
    logs =
        let one = pages_apart old mid has.1.others in
        let two = root_apart mid new others.files in
        record { log_a = two.log_a ∙ one.log_a; log_b = two.log_b ∙ one.log_b }

    blank : (p : ℕ) → a.root.pages ≤ p → p < more.pages → value_of (Page p) mid ≡ None
    blank p low high = cleared_blank a.root.pages more.pages p old mid stands.size has.1 low high

    homes : (q : ℕ) → home_in more.pages new q ≡ home_in a.root.pages old q
    homes q = home_counted a.root.pages more.pages mid new order blank others q ∙ home_cleared a.root.pages old mid keeps q

    log_same : kept_log a.root.file a.root.first new ≡ kept_log a.root.file a.root.first old
    log_same = kept_same a.root.file a.root.first old new logs

    records_same : (stored_of g b).records ≡ (stored_of g a).records
    records_same = ap records_in log_same

    pub grows_base : GrowsBase g a b
    grows_base = record {
      root = refl;
      log = refl;
      homes = homes;
      records = records_same;
      hardened = state_counted more.pages a.root.pages a.root.first (home_in a.root.pages old) (home_in more.pages new) (stored_of g a).records (stored_of g b).records records_same homes;
      now = state_counted more.pages a.root.pages a.root.first (home_in a.root.pages old) (home_in more.pages new) (now_of g a).records (now_of g b).records (ap (λ (l : List Record). l ++ waiting_of a) records_same) homes;
    }

    pub grows_stands : StandsWell g b
    grows_stands =
        let goes = stands.goes_on in
        record {
          says = (has.2.1, grown_is_root a.root stands.says.1 few);
          file = stands.file;
          goes_on = (goes.0, goes.1, goes_on_same a.log old new (log_content a.log.file old new stands.file logs) goes.2);
          size = subst (λ (bytes : List ℕ). 8256 * more.pages ≤ length bytes) (sym (ap (λ (i : Image). i.pages) others.files)) (cleared_long a.root.pages more.pages old mid order stands.size has.1);
          starts = stands.starts;
        }

    pub grows_quiet : IsQuiet g a → IsDurable g d → IsQuiet g b
    grows_quiet quiet only =
        let mid_sound = sound_cleared a.root old mid quiet.sound keeps in
        let can = can_count a.root more old mid quiet.sound (grown_is_root a.root stands.says.1 few) refl refl order has.1 in
        let next = next_same a.root old new logs in
        let follows = follows_same a.root a.log.file a.log.buffered old new logs quiet.follows in
        record {
          only = only;
          sound = sound_behind a.root more mid new mid_sound can others has.2.1;
          writes = writes_same a.root a.log old new logs quiet.writes;
          follows = record {
            file_is = follows.file_is;
            fits = each_more a.root.pages more.pages no_tables (kept_log a.root.file a.root.first new ++ a.log.buffered) order follows.fits;
            changes = follows.changes;
          };
          durable = quiet.durable ∙ sym next;
          first = quiet.first ∙ sym next;
        }

    pub grows_since : (first : Image) → HomesSince first a.root.pages old → HomesSince first more.pages new
    grows_since first since = since_grown first a.root.pages more.pages old mid new order keeps others since

    saves_grown : (q since : ℕ) (v : PageHeld) → MaySave g a q since v → MaySave g b q since v
    saves_grown q since v may =
        let all : (now_of g b).records ≡ (now_of g a).records = ap (λ (l : List Record). l ++ waiting_of a) records_same in
        let first = a.root.first in record {
          counted = let was = may.counted in omega (arith, was, order);
          above = subst (λ (h : PageHeld). h.lsn < v.lsn) (sym (homes q)) may.above;
          low = let was = may.low in omega (arith, was, ap (λ (l : List Record). length l) all);
          is = ⊎_elim
              (λ full. inl (full ∙ sym (ap (λ l. overlaid q first l (home_of g b q)) all ∙ ap (overlaid q first (now_of g a).records) (homes q))))
              (λ same. inr (ap (λ l. overlaid q first l v) records_same ∙ same ∙ sym (ap (λ l. overlaid q first l (home_of g b q)) records_same ∙ ap (overlaid q first (stored_of g a).records) (homes q))))
              may.is;
          early = let was = may.early in omega (arith, was, ap (λ (l : List Record). length l) all);
          behind = ap (λ l. overlaid q first (take (since - first) l) (home_of g b q)) all ∙ ap (overlaid q first (take (since - first) (now_of g a).records)) (homes q) ∙ may.behind ∙ sym (homes q);
        }

    pub grows_holds : (first : Image) → HoldsStill (home_of g) (MayPut first g) a b
    grows_holds first = record {
      same = homes;
      still = λ q since v may. record {
        counted = let was = may.counted in omega (arith, was, order);
        above = subst (λ (h : PageHeld). h.lsn < v.lsn) (sym (homes q)) may.above;
        sound = λ s. saves_grown q since v (may.sound s);
      };
    }

    pub grows_over : (first : Image) → StandsQuiet first g a → IsDurable g d → GrowsOver first g a b
    grows_over first rests only = record {
      base = grows_base;
      rests = record { stands = grows_stands; since = grows_since first rests.since; quiet = λ sound. grows_quiet (rests.quiet sound) only };
      holds = grows_holds first;
    }
