-- How the log and the homes go on under a pool.
use Rattle.std.proofs.Common.{◌≡◌, ◌≢◌, inl, inr, ⊎_elim, ℕ, ◌+◌, ◌-◌, ◌*◌, ◌<◌, ◌≤◌, List, ◌++◌, length, take, drop, refl, sym, ◌∙◌, ap, subst, arith, length-drop, Some}
use Rattle.std.proofs.lemmas.List.{drop-drop}
use Rattle.ctr_types.specs.declared.file.File.{File}
use Rattle.ctr_types.specs.declared.file.File.TheVariants.{Pages}
use Rattle.ctr_disk.specs.declared.disk.Disk.{Ghosts}
use Rattle.ctr_redo.specs.home_Root.{Root}
use Rattle.ctr_disk.specs.Device.{LeavesOnly, OnlyReads, IsDurable}
use Rattle.ctr_disk.specs.Image.{Image, content}
use Rattle.ctr_disk.proofs.Moments.{starts, joined, weaker, still_only}
use Rattle.ctr_redo.specs.home_Block_TheVariants.{Page, Root as RootBlock}
use Rattle.ctr_redo.specs.home_Roots.{SaysRoot}
use Rattle.ctr_redo.specs.home_Blocks.{value_of}
use Rattle.ctr_redo.specs.home_Writing.{IsOldOrNewValue, OthersStay}
use Rattle.ctr_redo.specs.log_Logs.{Log, Batches, GoesOn}
use Rattle.ctr_redo.specs.log_Kept.{kept_log, StartsAt, WritesBehind}
use Rattle.ctr_redo.specs.rec_Record.{Record}
use Rattle.ctr_redo.specs.ctr_pool.Pages.{PageHeld}
use Rattle.ctr_redo.specs.ctr_pool.Below.{PutsPage, HoldsStill}
use Rattle.ctr_redo.specs.Overlaid.{overlaid}
use Rattle.ctr_redo.specs.States.{State, Stored, state_of, steps, with_more, home_put, next_of}
use Rattle.ctr_redo.specs.Images.{records_in, home_in, stored_in, IsSound, FoldsFront, IsLogFile, MayStand}
use Rattle.ctr_redo.specs.Fitting.{MayFollow}
use Rattle.ctr_redo.proofs.PageLaws.{again, durable_alone}
use Rattle.ctr_redo.proofs.StateLaws.{state_swapped, page_swapped, steps-append, put_there, put_elsewhere}
use Rattle.ctr_redo.proofs.ImageLaws.{KeepsHomes, KeepsLogs, pages_apart, kept_same, folds_written, sound_written, state_written, state_with_more, home_written, next_same, follows_same}
use Rattle.ctr_base.specs.declared.base.Base.{Base}
use Rattle.ctr_base.specs.Homes.{HomesSince}
use Rattle.ctr_base.specs.Base.{stored_of, waiting_of, now_of, home_of, MaySave, MayPut, IsQuiet, IsSoundImage, StandsWell, StandsQuiet, HasGate, LeavesBase, LeavesIf, MovesBase, IsHome}
use Rattle.ctr_base.specs.LogLaws.{take_split, three, front_of_rest, by_is_log, goes_on_same, gate_in, writes_same, log_content, home_same, value}

module _ {D O : Type 0} (g : Ghosts D) where
  none_folds : (b : Base D O) (c : Image) → IsQuiet g b → c ≡ g.reads b.disk
      → FoldsFront (state_of (stored_of g b)) (waiting_of b) c
  none_folds b c quiet is = (
    0,
    record {
      root = b.root;
      sound = subst (IsSound b.root) (sym is) quiet.sound;
      state_is = ap (λ (i : Image). state_of (stored_in b.root i)) is;
    },
  )

  -- ---- nothing happens

  -- what a crash leaves of a base folds to what was hardened with a prefix of what waits
  abbrev Front : Base D O → Image → Type 0
  Front b = FoldsFront (state_of (stored_of g b)) (waiting_of b)

  -- the gate lies in the file, where nothing is pending
  pub gate_there : (b : Base D O) (c : Image) → IsQuiet g b → c ≡ g.reads b.disk → HasGate b.log c
  gate_there b c quiet is =
      let there = gate_in b.root.file b.root.first b.log (g.reads b.disk) quiet.writes in
      subst (HasGate b.log) (sym is) there

  pub quiet_leaves : ((d : D) (c : Image) → g.since d (g.moment_of d) c → g.images d c)
      → (b : Base D O) → IsQuiet g b → LeavesBase g b b
  quiet_leaves only_now b quiet = record {
    front = starts g b.disk (Front b) (g.images b.disk) (only_now b.disk)
        (λ c is. none_folds b c quiet (quiet.only c is));
    gate = starts g b.disk (HasGate b.log) (g.images b.disk) (only_now b.disk)
        (λ c is. gate_there b c quiet (quiet.only c is));
  }

  -- all that is stored is as it was
  pub same_moves : (a b : Base D O) → b.root ≡ a.root → stored_of g b ≡ stored_of g a
      → b.log ≡ a.log → MovesBase g a b
  same_moves a b root stored log =
      let waits = ap (λ (l : Log). l.buffered) log in
      let both : now_of g b ≡ now_of g a =
      ap (λ (l : List (List ℕ)). with_more (records_in l) (stored_of g b)) waits
      ∙ ap (with_more (waiting_of a)) stored in
      record {
        j = 0;
        at_most = omega arith;
        waiting = ap records_in waits;
        hardened = ap state_of stored;
        now = ap state_of both;
        root = root;
        file = ap (λ (l : Log). l.file) log;
        place = omega (arith, ap (λ (l : Log). l.place) log);
        all = ap (λ (s : Stored). s.records) both;
        pages = λ q. ap (λ (s : Stored). overlaid q s.first s.records (s.homes q)) both;
      }

  pub stands_still : (b : Base D O) → MovesBase g b b
  stands_still b = same_moves b b refl refl refl

  pub holds_still : (first : Image) (b : Base D O) → HoldsStill (home_of g) (MayPut first g) b b
  holds_still first b = record { same = λ q. refl; still = λ q since v may. may }

  -- ---- one change behind another

  pub leaves_joined : (a b c : Base D O) → MovesBase g a b → LeavesBase g a b → LeavesBase g b c
      → LeavesBase g a c
  leaves_joined a b c m ab bc =
      let ws = waiting_of a in
      let s = state_of (stored_of g a) in
      let P : Image → Type 0 = FoldsFront s ws in
      let Q : Image → Type 0 = FoldsFront (state_of (stored_of g b)) (waiting_of b) in
      let within : (i : Image) → Q i → P i = λ i q.
      front_of_rest m.j ws s i
      (subst (λ (l : List Record). FoldsFront (steps (take m.j ws) s) l i) m.waiting
      (subst (λ (t : State). FoldsFront t (waiting_of b) i) m.hardened q)) in
      let further : (i : Image) → HasGate b.log i → HasGate a.log i = λ i long.
      omega (arith, long, m.place, ap (λ (f : File). length (content f i)) m.file) in
      let gate = weaker g b.disk c.disk (HasGate b.log) (HasGate a.log) bc.gate further in
      let front = weaker g b.disk c.disk Q P bc.front within in
      record {
        front = joined g a.disk b.disk c.disk P ab.front front;
        gate = joined g a.disk b.disk c.disk (HasGate a.log) ab.gate gate;
      }

  pub moves_joined : (a b c : Base D O) → MovesBase g a b → MovesBase g b c → MovesBase g a c
  moves_joined a b c m n =
      let ws = waiting_of a in
      let s = state_of (stored_of g a) in
      record {
        j = m.j + n.j;
        at_most =
            let one = m.at_most in
            let two = n.at_most in
            omega (
              arith,
              one,
              two,
              ap (λ (l : List Record). length l) m.waiting,
              length-drop m.j ws,
            );
        waiting = n.waiting ∙ ap (λ (l : List Record). drop n.j l) m.waiting ∙ drop-drop n.j m.j ws;
        hardened =
            n.hardened
            ∙ ap (λ (l : List Record). steps (take n.j l) (state_of (stored_of g b))) m.waiting
            ∙ ap (steps (take n.j (drop m.j ws))) m.hardened
            ∙ sym (steps-append (take m.j ws) (take n.j (drop m.j ws)) s)
            ∙ ap (λ (l : List Record). steps l s) (take_split m.j n.j ws);
        now = n.now ∙ m.now;
        root = n.root ∙ m.root;
        file = n.file ∙ m.file;
        place = omega (arith, m.place, n.place);
        all = n.all ∙ m.all;
        pages = λ q. n.pages q ∙ m.pages q;
      }

  -- ---- a read

  pub read_leaves : (a : Base D O) (d : D) → IsQuiet g a → OnlyReads g a.disk d
      → LeavesBase g a (record a { disk = d })
  read_leaves a d quiet reads = record {
    front = weaker g a.disk d (g.images a.disk) (Front a) reads.any_moment
        (λ c is. none_folds a c quiet (quiet.only c is));
    gate = weaker g a.disk d (g.images a.disk) (HasGate a.log) reads.any_moment
        (λ c is. gate_there a c quiet (quiet.only c is));
  }

  pub read_moves : (a : Base D O) (d : D) → OnlyReads g a.disk d
      → MovesBase g a (record a { disk = d })
  read_moves a d reads =
      same_moves a (record a { disk = d }) refl (ap (stored_in a.root) reads.same) refl

  pub read_quiet : (a : Base D O) (d : D) → IsQuiet g a → OnlyReads g a.disk d
      → IsQuiet g (record a { disk = d })
  read_quiet a d quiet reads =
      let same = reads.same in record {
        only = still_only g a.disk d reads quiet.only;
        sound = subst (IsSound a.root) (sym same) quiet.sound;
        writes = subst (WritesBehind a.root.file a.root.first a.log) (sym same) quiet.writes;
        follows = subst (MayFollow a.root a.log.file a.log.buffered) (sym same) quiet.follows;
        durable = quiet.durable ∙ ap (λ (i : Image). next_of (stored_in a.root i)) (sym same);
        first = quiet.first ∙ ap (λ (i : Image). next_of (stored_in a.root i)) (sym same);
      }

  -- what might be saved might be still, where all that is stored and waits is as it was
  pub saves_same : (a b : Base D O) (p since : ℕ) (v : PageHeld) → b.root ≡ a.root
      → stored_of g b ≡ stored_of g a → b.log.buffered ≡ a.log.buffered → MaySave g a p since v
      → MaySave g b p since v
  saves_same a b p since v root stored waits may =
      let both : now_of g b ≡ now_of g a =
      ap (λ (l : List (List ℕ)). with_more (records_in l) (stored_of g b)) waits
      ∙ ap (with_more (waiting_of a)) stored in
      record {
        counted = subst (λ (s : Stored). p < s.counted) (sym stored) may.counted;
        above = subst (λ (s : Stored). (s.homes p).lsn < v.lsn) (sym stored) may.above;
        low = subst (λ (s : Stored). v.lsn < next_of s) (sym both) may.low;
        is =
            ⊎_elim (λ all. inl
            (subst (λ (s : Stored). v ≡ overlaid p s.first s.records (s.homes p)) (sym both) all))
            (λ same. inr (subst
            (λ (s : Stored). overlaid p s.first s.records v
            ≡ overlaid p s.first s.records (s.homes p)) (sym stored) same))
            may.is;
        early = subst (λ (s : Stored). since < next_of s) (sym both) may.early;
        behind =
            subst (λ (s : Stored). overlaid p s.first (take (since - s.first) s.records)
            (s.homes p) ≡ s.homes p) (sym both) may.behind;
      }

  pub read_holds : (a : Base D O) (d : D) → OnlyReads g a.disk d
      → HoldsStill (home_of g) (MaySave g) a (record a { disk = d })
  read_holds a d reads =
      let stored = ap (stored_in a.root) reads.same in record {
        same = λ q. ap (λ (s : Stored). s.homes q) stored;
        still =
            λ q since v may. saves_same a (record a { disk = d }) q since v refl stored refl may;
      }

  -- ---- a page's writing

  pub may_stand : (a : Base D O) (p since : ℕ) (v : PageHeld) → IsQuiet g a
      → MaySave g a p since v → v.lsn < a.durable → MayStand a.root (g.reads a.disk) p (value p v)
  may_stand a p since v quiet may low =
      let s = stored_of g a in
      let ws = waiting_of a in
      let durable = quiet.durable in
      record {
        counted = may.counted;
        number = refl;
        below = omega (arith, low, durable);
        same = ⊎_elim
            (λ (all : v ≡ overlaid p s.first (s.records ++ ws) (s.homes p)).
            let there : (overlaid p s.first (s.records ++ ws)
            (s.homes p)).lsn < s.first + length s.records = subst
            (λ (x : PageHeld). x.lsn < s.first + length s.records) all
            (omega (arith, low, durable)) in
            ap (overlaid p s.first s.records)
            (all ∙ durable_alone p s.first s.records ws (s.homes p) there)
            ∙ again p s.first s.records (s.homes p))
            (λ same. same)
            may.is;
      }

  pub home_leaves : (a : Base D O) (d : D) (p since : ℕ) (v : PageHeld) → IsQuiet g a
      → MaySave g a p since v → v.lsn < a.durable
      → LeavesOnly g a.disk d (IsOldOrNewValue (Page p) (value p v) (g.reads a.disk))
      → LeavesBase g a (record a { disk = d })
  home_leaves a d p since v quiet may low crash =
      let Written : Image → Type 0 = IsOldOrNewValue (Page p) (value p v) (g.reads a.disk) in
      let old = g.reads a.disk in
      let file = by_is_log a.log.older a.root.file a.root.first a.log old quiet.writes.by in
      let same : (c : Image) → Written c → content a.log.file c ≡ content a.log.file old =
      λ c which.
      log_content a.log.file old c file (pages_apart old c which.0.files) in
      let stand = may_stand a p since v quiet may low in
      record {
        front = weaker g a.disk d Written (Front a) crash
            (λ c which. (0, folds_written a.root p (value p v) old c quiet.sound stand which));
        gate = weaker g a.disk d Written (HasGate a.log) crash
            (λ c which. omega (arith, gate_there a old quiet refl, ap length (same c which)));
      }

  -- whatever the log held, a page's writing leaves it and the other pages
  module _ (a : Base D O) (d : D) (p : ℕ) (v : PageHeld) (counted : p < a.root.pages)
      (others : OthersStay (Page p) (g.reads a.disk) (g.reads d))
      (is : value_of (Page p) (g.reads d) ≡ Some (value p v)) where
    same_logs : KeepsLogs (g.reads a.disk) (g.reads d)
    same_logs = pages_apart (g.reads a.disk) (g.reads d) others.files

    homes_are : (q : ℕ) → home_of g (record a { disk = d }) q ≡ home_put p v (home_of g a) q
    homes_are =
        home_written a.root.pages p (value p v) (g.reads a.disk) (g.reads d) counted others is

    log_same : kept_log a.root.file a.root.first (g.reads d)
        ≡ kept_log a.root.file a.root.first (g.reads a.disk)
    log_same = kept_same a.root.file a.root.first (g.reads a.disk) (g.reads d) same_logs

    pub is_home : IsHome g p v a (record a { disk = d })
    is_home = record {
      there = homes_are p ∙ put_there p v (home_of g a);
      others = λ q other. homes_are q ∙ put_elsewhere p q v (home_of g a) other;
      records = ap records_in log_same;
      log = refl;
      root = refl;
    }

    pub stands_written : StandsWell g a → StandsWell g (record a { disk = d })
    stands_written stands =
        let goes = stands.goes_on in
        let more = others.no_shorter in
        let size = stands.size in
        record {
          says =
              subst (λ o. SaysRoot o a.root)
              (sym (others.blocks RootBlock (λ same. absurd (cc same)))) stands.says;
          file = stands.file;
          goes_on = (
            goes.0,
            goes.1,
            goes_on_same a.log (g.reads a.disk) (g.reads d)
                (log_content a.log.file (g.reads a.disk) (g.reads d) stands.file same_logs) goes.2,
          );
          size = omega (arith, more, size);
          starts = stands.starts;
        }

  module _ (a : Base D O) (d : D) (p since : ℕ) (v : PageHeld) (quiet : IsQuiet g a)
      (may : MaySave g a p since v) (low : v.lsn < a.durable)
      (others : OthersStay (Page p) (g.reads a.disk) (g.reads d))
      (is : value_of (Page p) (g.reads d) ≡ Some (value p v)) where
    abbrev b : Base D O
    b = record a { disk = d }

    logs : KeepsLogs (g.reads a.disk) (g.reads d)
    logs = same_logs a d p v may.counted others is

    stands : MayStand a.root (g.reads a.disk) p (value p v)
    stands = may_stand a p since v quiet may low

    pub home_moves : MovesBase g a b
    home_moves =
        let s = stored_of g a in
        let ws = waiting_of a in
        let log = log_same a d p v may.counted others is in
        let homes = homes_are a d p v may.counted others is in
        record {
          j = 0;
          at_most = omega arith;
          waiting = refl;
          hardened =
              state_written a.root p (value p v) (g.reads a.disk) (g.reads d) stands others is;
          now =
              state_with_more a.root ws (home_put p v (home_of g a)) (g.reads a.disk) (g.reads d)
              logs homes ∙ state_swapped p v ws s stands.same;
          root = refl;
          file = refl;
          place = omega arith;
          all = ap (λ (l : List (List ℕ)). records_in l ++ ws) log;
          pages =
              λ q. ap (λ (l : List (List ℕ)). overlaid q a.root.first (records_in l ++ ws)
              (home_of g b q)) log ∙ ap (overlaid q a.root.first (s.records ++ ws)) (homes q)
              ∙ page_swapped p a.root.first s.records ws v (home_of g a) stands.same q;
        }

    pub home_quiet : IsDurable g d → IsQuiet g b
    home_quiet only =
        let next = next_same a.root (g.reads a.disk) (g.reads d) logs in
        record {
          only = only;
          sound =
              sound_written a.root p (value p v) (g.reads a.disk) (g.reads d)
              quiet.sound stands others is;
          writes = writes_same a.root a.log (g.reads a.disk) (g.reads d) logs quiet.writes;
          follows =
              follows_same a.root a.log.file a.log.buffered (g.reads a.disk) (g.reads d)
              logs quiet.follows;
          durable = quiet.durable ∙ sym next;
          first = quiet.first ∙ sym next;
        }

  -- what a page's writing puts below the pool, where it was held and might be saved as before
  pub puts_home : (first : Image) (a m b : Base D O) (p : ℕ) (v : PageHeld)
      → HoldsStill (home_of g) (MayPut first g) a m → IsHome g p v m b
      → PutsPage (home_of g) (MayPut first g) p v a b
  puts_home first a m b p v holds home = record {
    there = home.there;
    others = λ q other. home.others q other ∙ holds.same q;
    still = λ q since w other may. still q since w other (holds.still q since w may);
  }
    where
      from : b.root.first ≡ m.root.first
      from = ap (λ (r : Root). r.first) home.root

      records : (now_of g b).records ≡ (now_of g m).records
      records =
          ap (λ (l : List Record). l ++ waiting_of b) home.records
          ∙ ap (λ (l : Log). (stored_of g m).records ++ records_in l.buffered) home.log

      saves : (q since : ℕ) (w : PageHeld) → q ≢ p → MaySave g m q since w → MaySave g b q since w
      saves q since w other may =
          let held = home.others q other in
          record {
            counted = subst (λ (r : Root). q < r.pages) (sym home.root) may.counted;
            above = subst (λ (h : PageHeld). h.lsn < w.lsn) (sym held) may.above;
            low =
                let was = may.low in
                omega (arith, was, from, ap (λ (l : List Record). length l) records);
            is =
                ⊎_elim (λ all. inl
                (all ∙ sym (three (λ n l h. overlaid q n l h) from records held)))
                (λ same. inr (three (λ n l h. overlaid q n l h) from home.records refl ∙ same
                ∙ sym (three (λ n l h. overlaid q n l h) from home.records held)))
                may.is;
            early =
                let was = may.early in
                omega (arith, was, from, ap (λ (l : List Record). length l) records);
            behind =
                three (λ n l h. overlaid q n (take (since - n) l) h) from records held
                ∙ may.behind ∙ sym held;
          }

      still : (q since : ℕ) (w : PageHeld) → q ≢ p → MayPut first g m q since w
          → MayPut first g b q since w
      still q since w other may = record {
        counted = subst (λ (r : Root). q < r.pages) (sym home.root) may.counted;
        above = subst (λ (h : PageHeld). h.lsn < w.lsn) (sym (home.others q other)) may.above;
        sound = λ s. saves q since w other (may.sound s);
      }

  -- ---- what holds of every disk

  -- all is held, where the homes are as they were
  pub holds_if : (first : Image) (a b : Base D O) → b.root.pages ≡ a.root.pages
      → ((q : ℕ) → home_of g b q ≡ home_of g a q)
      → (IsSoundImage first → HoldsStill (home_of g) (MaySave g) a b)
      → HoldsStill (home_of g) (MayPut first g) a b
  holds_if first a b root same sound = record {
    same = same;
    still = λ q since v may.
        record {
          counted = subst (λ (n : ℕ). q < n) (sym root) may.counted;
          above = subst (λ (h : PageHeld). h.lsn < v.lsn) (sym (same q)) may.above;
          sound = λ s. (sound s).still q since v (may.sound s);
        };
  }

  pub rests_leaves : (first : Image)
      → ((d : D) (c : Image) → g.since d (g.moment_of d) c → g.images d c) → (b : Base D O)
      → StandsQuiet first g b → LeavesIf first g b b
  rests_leaves first only_now b rests sound = quiet_leaves only_now b (rests.quiet sound)

  -- what a read leaves
  pub stands_read : (a : Base D O) (d : D) → g.reads d ≡ g.reads a.disk → StandsWell g a
      → StandsWell g (record a { disk = d })
  stands_read a d same stands = record {
    says = subst (λ (i : Image). SaysRoot (value_of RootBlock i) a.root) (sym same) stands.says;
    file = stands.file;
    goes_on =
        subst (λ (i : Image). (oldest : ℕ) × (bs : Batches) × GoesOn oldest bs a.log i)
        (sym same) stands.goes_on;
    size =
        subst (λ (i : Image). 8256 * a.root.pages ≤ length (content Pages i)) (sym same)
        stands.size;
    starts = stands.starts;
  }

  pub read_rests : (first : Image) (a : Base D O) (d : D) → OnlyReads g a.disk d
      → StandsQuiet first g a → StandsQuiet first g (record a { disk = d })
  read_rests first a d reads rests = record {
    stands = stands_read a d reads.same rests.stands;
    since = subst (HomesSince first a.root.pages) (sym reads.same) rests.since;
    quiet = λ sound. read_quiet a d (rests.quiet sound) reads;
  }

  -- what a flush leaves, that changes one file of the log
  pub stands_flushed : (a b : Base D O) → StandsWell g a → b.root ≡ a.root
      → b.log.file ≡ a.log.file → StartsAt b.log.older a.root.first b.log.start
      → KeepsHomes (g.reads a.disk) (g.reads b.disk) → (oldest : ℕ) (bs : Batches)
      → GoesOn oldest bs b.log (g.reads b.disk)
      → StandsWell g b
  stands_flushed a b stands root file starts kept oldest bs goes =
      let size = stands.size in
      record {
        says = subst (λ (r : Root). SaysRoot (value_of RootBlock (g.reads b.disk)) r) (sym root)
            (subst (λ (bytes : List ℕ). SaysRoot
            (value_of RootBlock (record (g.reads a.disk) { root = bytes })) a.root)
            (sym kept.root) stands.says);
        file = subst IsLogFile (sym file) stands.file;
        goes_on = (oldest, bs, goes);
        size =
            omega (
              arith,
              size,
              ap (λ (r : Root). r.pages) root,
              ap (λ (l : List ℕ). length l) kept.pages,
            );
        starts = subst (λ (r : Root). StartsAt b.log.older r.first b.log.start) (sym root) starts;
      }

  pub homes_flushed : (a b : Base D O) → b.root ≡ a.root
      → KeepsHomes (g.reads a.disk) (g.reads b.disk) → (q : ℕ) → home_of g b q ≡ home_of g a q
  homes_flushed a b root kept q =
      ap (λ (r : Root). home_in r.pages (g.reads b.disk) q) root
      ∙ home_same a.root.pages q (g.reads a.disk) (g.reads b.disk) kept.pages
