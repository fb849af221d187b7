-- What stands in a store shows a state of the model, with its names.
use Rattle.std.specs.Prelude.{ℕ}
use Rattle.ctr_model.specs.declared.state.State.{State}
use Rattle.ctr_versions.specs.Xids.{number_of}
use Rattle.ctr_names.specs.Held.{HoldsNames}
use Rattle.ctr_names.specs.Stand.{NamesStand}
use Rattle.ctr_actions.specs.Sites.{Site}
use Rattle.ctr_paged.specs.Paged.{Run, xids_of, ShowsPaged}

-- A run, and the state of the model that it has reached.
pub record Scene : Type 0 where
  pub run : Run
  pub state : State

-- The site shows the state of the scene from the low number on; an item of a table lies under a
-- hold of its name, or recovery holds the name; and at each number at most one table of a name
-- stands.
pub record IsShown (low : ℕ) (site : Site) (scene : Scene) : Type 0 where
  pub paged : ShowsPaged low site scene.run scene.state
  pub holds : HoldsNames site.tables.items site.area.title scene.run.sessions scene.state
  pub stands : NamesStand low (number_of (xids_of site.tables scene.run.commits)) site.area.title
