-- The laws of sessions hold of the engine on pages: it is one of versions, with the sessions over them.
use Rattle.std.proofs.Common.{◌≡◌, ℕ, List, Some, ap}
use Rattle.std.specs.Prelude.{is_some}
use Rattle.std.specs.Option.{option_map}
use Rattle.std.specs.Ordering.{nat_cmp}
use Rattle.std.specs.FinMap.Entries.{find}
use Rattle.ctr_model.specs.declared.state.State.{State}
use Rattle.ctr_model.specs.declared.state.Transaction.{Transaction}
use Rattle.ctr_model.specs.State.{transaction_of}
use Rattle.ctr_versions.specs.Engine.{SessionHeld}
use Rattle.ctr_sessions.specs.Sessions.{IsDrawnFor, ShowsBegun}
use Rattle.ctr_actions.specs.area_Images.{is_committed_in}
use Rattle.ctr_actions.specs.Sites.{Site}
use Rattle.ctr_paged.specs.Paged.{Run, engine_at, ShowsPaged}
use Rattle.ctr_names.proofs.Names.{own_tables}

pub begun_shows : (low : ℕ) (site : Site) (run : Run) (state : State) (since : List (ℕ × ℕ)) → ShowsPaged low site run state
    → ((s : ℕ) → find nat_cmp s since ≡ option_map (λ (t : Transaction). t.snapshot) (transaction_of state s))
    → ((s : ℕ) (t : Transaction) (session : SessionHeld) → transaction_of state s ≡ Some t → find nat_cmp s run.sessions ≡ Some session → IsDrawnFor session t)
    → ShowsBegun low (record { engine = engine_at site run; since = since }) state
begun_shows low site run state since paged begun drawn = record {
  shows = paged.shows;
  since = begun;
  drawn = drawn;
  only = λ s session at. ap is_some ((paged.modelled s session at).1);
  tables = own_tables (is_committed_in site.tables) site.area;
  ordered = paged.ordered;
}
