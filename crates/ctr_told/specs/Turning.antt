-- A turn of a session in a World, and what the session counts on between two of its statements.
use Rattle.std.specs.Prelude.{◌≡◌, ◌⊎◌, ℕ, ◌+◌, ◌<◌, List, [], ◌∷◌, ◌++◌, None}
use Rattle.std.specs.Ordering.{nat_cmp}
use Rattle.ctr_disk.specs.declared.disk.Disk.{Ghosts}
use Rattle.ctr_model.specs.Maps.{without}
use Rattle.ctr_model.specs.State.{transaction_of}
use Rattle.ctr_rollback.specs.actions_Facts.{Fact, IsOpen, HasNoPageBut}
use Rattle.ctr_rollback.specs.store_Store.{View}
use Rattle.ctr_rollback.specs.kept_Tables.{AreTables}
use Rattle.ctr_rollback.specs.kept_Walk.{Mind}
use Rattle.ctr_rollback.specs.kept_Turns.{Start, InTransaction, Telling, state_now}
use Rattle.ctr_rollback.specs.stops_World.{KeepsWorld}

-- Between two statements a session that has a number counts on its transaction, and on that it has
-- no page to link.
abbrev pub facts_idle : List Fact
facts_idle = IsOpen ∷ HasNoPageBut [] ∷ []

-- What it counts on then: that, and tables in which it has locks; or nothing, where it has no
-- number yet.
abbrev pub IdleCountsOn : ℕ → List Fact → List Fact → Type 0
IdleCountsOn me more facts = ((0 < me) × AreTables more × (facts ≡ facts_idle ++ more))
    ⊎ ((me ≡ 0) × (facts ≡ []))

-- A turn of a session in a transaction, in a World: it tells an act of the session's statement, at
-- the moment at which it ends.
pub record TellsTurnOf {D : Type 0} (g : Ghosts D) (c : Start) (opened : D) (a b : View D)
    (w : Mind)
    (s : ℕ) : Type 0 where
  pub keeps : KeepsWorld g c opened a w
  pub seat : InTransaction c w s
  pub e : Telling c (g.moment_of a.disk) s
  pub at_end : e.later ≡ g.moment_of b.disk

-- A turn of a session that is in no transaction.
pub record TellsTurnOutside {D : Type 0} (g : Ghosts D) (c : Start) (opened : D) (a b : View D)
    (w : Mind) (s : ℕ) : Type 0 where
  pub keeps : KeepsWorld g c opened a w
  pub none : transaction_of (state_now c w) s ≡ None
  pub e : Telling c (g.moment_of a.disk) s
  pub at_end : e.later ≡ g.moment_of b.disk

-- The session and its snapshot are gone, and one commit more is answered.
abbrev pub answered_mind : ℕ → Mind → Mind
answered_mind s w = record w {
  run = record w.run {
    sessions = without nat_cmp s w.run.sessions;
    answered = w.run.answered + 1;
  };
  since = without nat_cmp s w.since;
}
