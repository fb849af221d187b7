-- A run begins on a sound site, and what is shown opens after a stop.
use Rattle.std.proofs.Common.{ℕ, ◌<◌, ◌≤◌, [], refl, subst}
use Rattle.ctr_model.specs.Database.{Database, after_all}
use Rattle.ctr_model.specs.State.{at_rest}
use Rattle.ctr_actions.specs.area_Chains.{pages_bound}
use Rattle.ctr_actions.specs.area_Images.{is_committed_in, image_rows}
use Rattle.ctr_actions.specs.record_laws_Bounds.{IsInBounds}
use Rattle.ctr_names.specs.Held.{names_of_items}
use Rattle.ctr_names.proofs.Held.{open_holds}
use Rattle.ctr_actions.specs.Sites.{Site, IsSoundSite}
use Rattle.ctr_versions.specs.Xids.{number_of}
use Rattle.ctr_versions.proofs.Opened.{opened_numbers}
use Rattle.ctr_paged.specs.Paged.{xids_of, at_open}
use Rattle.ctr_paged.specs.Shown.{Scene, IsShown}
use Rattle.ctr_paged.proofs.Tables.{agree}
use Rattle.ctr_paged.proofs.Opened.{opened, image_shows}
use Rattle.ctr_names.proofs.Stand.{stand_opened}

-- nobody is in a transaction, and recovery holds the names of the items
abbrev pub scene_at : Site → Database → Scene
scene_at site base = record { run = at_open; state = at_rest base (names_of_items site.area.title site.tables.items) }

pub shown_opened : (site : Site) → IsInBounds site.area → site.counted ≤ pages_bound → IsSoundSite site → 0 < site.tables.next
    → IsShown 0 site (scene_at site (image_rows (is_committed_in site.tables) site.area))
shown_opened site bounds few sound some = record {
  paged = opened site (names_of_items site.area.title site.tables.items) bounds few sound some;
  holds = open_holds site.tables.items site.area.title (image_rows (is_committed_in site.tables) site.area);
  stands = stand_opened site.counted site.tables site.area (number_of (xids_of site.tables [])) sound (opened_numbers (xids_of site.tables []) refl) (agree site.tables []);
}

pub shown_reopened : (low : ℕ) (site : Site) (a : Scene) → IsShown low site a → IsShown 0 site (scene_at site (after_all a.state.asked a.state.base))
shown_reopened low site a shown = subst (λ base. IsShown 0 site (scene_at site base)) (image_shows low site a.run a.state shown.paged)
    (shown_opened site shown.paged.bounds shown.paged.few shown.paged.sound shown.paged.some)
