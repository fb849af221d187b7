-- Where the home of a page begins, and what the reading of that leaves.
use Rattle.std.proofs.Common.{◌≡◌, ◌≢◌, ℕ, ◌<◌, Bool, if◌then◌else◌, Option, Some, None, refl, sym, ◌∙◌, ap, subst, arith}
use Rattle.std.specs.Prelude.{is_some}
use Rattle.std.proofs.lemmas.Bool.{lt-ltb}
use Rattle.ctr_disk.specs.declared.disk.Disk.{Ghosts}
use Rattle.ctr_disk.specs.Image.{Image}
use Rattle.ctr_disk.specs.Device.{OnlyReads}
use Rattle.ctr_base.specs.ctr_home.declared.block.Block.TheVariants.{Page}
use Rattle.ctr_base.specs.ctr_home.declared.block.Home.TheVariants.{First}
use Rattle.ctr_base.specs.ctr_home.Blocks.{home_place, value_of, value_place}
use Rattle.ctr_base.specs.pool_Frame.{Frame}
use Rattle.ctr_base.specs.pool_Pages.{PageHeld}
use Rattle.ctr_base.specs.pool_Below.{HoldsStill}
use Rattle.ctr_base.specs.pool_Frames.{frame_of, page_of, change_of}
use Rattle.ctr_base.specs.pool_Over.{IsHeld, IsOver}
use Rattle.ctr_base.specs.redo_Images.{home_in}
use Rattle.ctr_base.proofs.redo_GrowthLaws.{counted_page}
use Rattle.ctr_base.specs.Homes.{FindsValue}
use Rattle.ctr_base.specs.Base.{home_of, MayPut, StandsQuiet, LeavesIf, MovesIf, backing_of}
use Rattle.ctr_base.specs.BaseLaws.{leaves_joined, moves_joined, read_leaves, read_moves, read_holds, read_rests, holds_if}
use Rattle.ctr_store.specs.declared.parts.Parts.{Parts}
use Rattle.ctr_store.specs.Parts.{IsFold, pages_held, first_unsaved, home_by, home_at}
use Rattle.ctr_store.proofs.BufferLaws.{since_held}
use Rattle.ctr_store.proofs.PartsLaws.{fold_moved, over_held, shows_held}

module _ {D O : Type 0} (first : Image) (g : Ghosts D) (p : ℕ) (s : Parts D O) (f : Frame) (there : frame_of p s.pool.frames ≡ Some f) (over : IsOver (backing_of first g) s.pool.frames s.base) (inside : p < s.base.root.pages) (found : ℕ × ℕ) (finds : FindsValue p (g.reads s.base.disk) found) where
  home_lsn : (home_of g s.base p).lsn ≡ found.1
  home_lsn = ap (λ (h : PageHeld). h.lsn) (counted_page s.base.root.pages p (g.reads s.base.disk) (value_of (Page p) (g.reads s.base.disk)) inside refl) ∙ sym finds.1

  by_since : (o : Option ℕ) → IsHeld (backing_of first g) s.base p (page_of f) o → (f.lsn ≢ found.1 → home_place (Page p) First ≡ home_by (is_some o) s.base.root.pages p (g.reads s.base.disk))
      × (f.lsn ≡ found.1 → found.0 ≡ home_by (is_some o) s.base.root.pages p (g.reads s.base.disk))
  by_since None held = (
    (λ other. absurd (other (ap (λ (h : PageHeld). h.lsn) held ∙ home_lsn))),
    (λ same. finds.0 ∙ sym (ap (λ (b : Bool). if b then value_place (Page p) (g.reads s.base.disk) else home_place (Page p) First) (lt-ltb p s.base.root.pages inside))),
  )
  by_since (Some since) may = ((λ other. refl), (λ same. let above = may.above in absurd (omega (arith, above, home_lsn, same))))

  seen : is_some f.since ≡ is_some (first_unsaved p (pages_held s.pool.frames))
  seen = sym (ap is_some (since_held p s.pool.frames ∙ ap change_of there))

  both : (f.lsn ≢ found.1 → home_place (Page p) First ≡ home_at g p s) × (f.lsn ≡ found.1 → found.0 ≡ home_at g p s)
  both = subst (λ (b : Bool). (f.lsn ≢ found.1 → home_place (Page p) First ≡ home_by b s.base.root.pages p (g.reads s.base.disk)) × (f.lsn ≡ found.1 → found.0 ≡ home_by b s.base.root.pages p (g.reads s.base.disk)))
      seen (by_since f.since (over.held p f there))

  -- a page whose LSN isn't that of its home was changed
  pub changed_first : f.lsn ≢ found.1 → home_place (Page p) First ≡ home_at g p s
  changed_first = both.0

  -- another is its home
  pub unchanged_home : f.lsn ≡ found.1 → found.0 ≡ home_at g p s
  unchanged_home = both.1

-- ---- behind a read

module _ {D O : Type 0} (first : Image) (g : Ghosts D) (m : Parts D O) (d : D) (reads : OnlyReads g m.base.disk d) where
  abbrev t : Parts D O
  t = record m { base = record m.base { disk = d } }

  holds : HoldsStill (home_of g) (MayPut first g) m.base t.base
  holds = holds_if g first m.base t.base refl (λ q. ap (λ (i : Image). home_in m.base.root.pages i q) reads.same) (λ sound. read_holds g m.base d reads)

  pub read_fold : IsFold first g m → IsFold first g t
  read_fold fold =
      let rests = read_rests g first m.base d reads fold.over.at_rest in
      fold_moved first g m t fold (λ sound. read_moves g m.base d reads) refl (shows_held first g m.pool.frames m.base t.base holds) (over_held first g m.pool.frames m.base t.base holds rests fold.over)

  pub read_home_at : (p : ℕ) → home_at g p m ≡ home_at g p t
  read_home_at p = ap (home_by (is_some (first_unsaved p (pages_held m.pool.frames))) m.base.root.pages p) (sym reads.same)

  module _ (s : Parts D O) (moves : MovesIf first g s.base m.base) where
    pub behind_moves : MovesIf first g s.base t.base
    behind_moves sound = moves_joined g s.base m.base t.base (moves sound) (read_moves g m.base d reads)

    pub behind_goes : LeavesIf first g s.base m.base → StandsQuiet first g m.base → LeavesIf first g s.base t.base
    behind_goes goes rests sound = leaves_joined g s.base m.base t.base (moves sound) (goes sound) (read_leaves g m.base d (rests.quiet sound) reads)
