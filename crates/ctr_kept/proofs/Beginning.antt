-- A walk begins.
use Rattle.std.proofs.Common.{inl, [], ℕ, ◌<◌, ◌≤◌, List, refl, ap, arith}
use Rattle.std.specs.Prelude.{is_some}
use Rattle.std.proofs.lemmas.Bool.{false≢true}
use Rattle.ctr_types.specs.declared.statement.Line.{Line}
use Rattle.ctr_model.specs.Tape.{at_start}
use Rattle.ctr_paged.specs.area_Chains.{pages_bound}
use Rattle.ctr_paged.specs.area_Images.{is_committed_in, image_rows, undo_size}
use Rattle.ctr_paged.specs.record_laws_Bounds.{IsInBounds}
use Rattle.ctr_paged.specs.ctr_names.Held.{names_of_items}
use Rattle.ctr_paged.proofs.record_laws_Heads.{listed_drawn}
use Rattle.ctr_paged.proofs.record_laws_Xids.{among_in}
use Rattle.ctr_paged.specs.actions_Actions.{Begins, site_after}
use Rattle.ctr_paged.specs.actions_Facts.{HasNoPageBut, HoldsFact}
use Rattle.ctr_paged.specs.actions_Sites.{Site, IsSoundSite}
use Rattle.ctr_paged.proofs.Opening.{shown_opened}
use Rattle.ctr_kept.specs.Walk.{mind_at, Keeps}
use Rattle.ctr_kept.proofs.Undo.{left_at_open, counts_at_open}

pub walk_begins : (lines : List Line) (moment : ℕ) (site : Site) → IsInBounds site.area → site.counted ≤ pages_bound → IsSoundSite site → 0 < site.tables.next
    → Keeps lines (at_start moment (image_rows (is_committed_in site.tables) site.area) (names_of_items site.area.title site.tables.items)) (undo_size site.tables) moment site (mind_at site)
walk_begins lines moment site bounds few sound some = record {
  legal = tt;
  later = omega arith;
  scene = record {
    low = 0;
    shown = shown_opened site bounds few sound some;
    begun = record { since_is = λ s. refl; drawn = λ s t b is_t at. absurd (false≢true (ap is_some at)) };
    carried = record { held = λ s b fact at in_. absurd in_; under = λ s t fact at in_. absurd in_; tables = λ s fact e in_ is. absurd in_ };
    undo = (left_at_open site.counted site.tables site.area sound, counts_at_open site.tables);
  };
  rolls = λ s b at undoing. absurd (false≢true (ap is_some at));
}

-- no item is of a number that isn't drawn yet
pub no_page_yet : (site : Site) → IsSoundSite site → HoldsFact site.tables.next (HasNoPageBut []) (site_after site.tables.next Begins site)
no_page_yet site sound p in_ = absurd (beyond (listed_drawn site.tables.next site.area site.tables sound.below site.tables.next (inl (among_in site.tables.next site.tables.opens (sound.owned.allocs site.tables.next p in_)))).1)
  where
    beyond : site.tables.next < site.tables.next → ⊥
    beyond lt = omega (arith, lt)
