-- What a turn of a rollback asks of its session in a World.
use Rattle.std.specs.Prelude.{◌≡◌, ◌≢◌, ℕ, ◌<◌, List, None}
use Rattle.ctr_area.specs.Areas.{Title}
use Rattle.ctr_area.specs.Sound.{IsAmong}
use Rattle.ctr_stops.specs.actions_Facts.{Fact, HasTable}
use Rattle.ctr_stops.specs.kept_Tables.{AreTables}
use Rattle.ctr_stops.specs.kept_Walk.{Mind}
use Rattle.ctr_stops.specs.kept_Turns.{Start, InTransaction}

-- The session has a number, and its transaction hasn't asked for its commit.
pub record IsActiveWriter {c : Start} {w : Mind} {s : ℕ} (seat : InTransaction c w s) : Type 0 where
  pub some : 0 < seat.session.me
  pub unasked : seat.t.asked ≡ None

-- Facts are of tables among those that a session counts on, and it made none of them.
pub record AreOthersTables {c : Start} {w : Mind} {s : ℕ} (seat : InTransaction c w s)
    (facts more : List Fact) : Type 0 where
  pub tables : AreTables more
  pub among : (f : Fact) → IsAmong f more → IsAmong f facts
  pub others : (e : ℕ) (title : Title) → IsAmong (HasTable e title) more
      → title.creator ≢ seat.session.me
