-- What a World keeps of the bytes of its pages.
use Rattle.std.specs.Prelude.{◌≡◌, ◌⊎◌, ℕ, ◌==◌, false, List, Some}
use Rattle.std.specs.Ordering.{nat_cmp}
use Rattle.std.specs.FinMap.Entries.{find}
use Rattle.ctr_versions.specs.Engine.{SessionHeld}
use Rattle.ctr_passed.specs.page_Header.{Header}
use Rattle.ctr_passed.specs.area_Sound.{IsAmong}
use Rattle.ctr_store.specs.redo_States.{State}
use Rattle.ctr_passed.specs.record_effects_Standing.{IsDatabaseState}
use Rattle.ctr_passed.specs.actions_Actions.{Action}
use Rattle.ctr_passed.specs.actions_Facts.{Fact, HasBlank, IsBeside}
use Rattle.ctr_passed.specs.Logged.{IsBlankPage}
use Rattle.ctr_kept.specs.Walk.{Mind}

-- The state may be a database's; and each page on which a session counts as empty with a header has
-- that header, and zeros behind it.
pub record HoldsPages (w : Mind) (s : State) : Type 0 where
  pub sound : IsDatabaseState s
  pub blank : (r : ℕ) (b : SessionHeld) (p : ℕ) (h : Header)
      → find nat_cmp r w.run.sessions ≡ Some b → IsAmong (HasBlank p h) (w.facts r)
      → IsBlankPage p h s

-- No session counts on a page as empty on which it didn't count before.
abbrev pub CountsOnNoMore : Mind → Mind → Type 0
CountsOnNoMore w v = (r : ℕ) (b : SessionHeld) (p : ℕ) (h : Header)
    → find nat_cmp r v.run.sessions ≡ Some b → IsAmong (HasBlank p h) (v.facts r)
    → (d : SessionHeld) × (find nat_cmp r w.run.sessions ≡ Some d)
    × IsAmong (HasBlank p h) (w.facts r)

-- All sessions but one are held as they were.
abbrev pub OthersAreHeld : ℕ → Mind → Mind → Type 0
OthersAreHeld s w v = (r : ℕ) → (r == s) ≡ false
    → find nat_cmp r v.run.sessions ≡ find nat_cmp r w.run.sessions

-- A page on which who acts counts as empty from now on is blank now; or it did so before, and its
-- action is beside that page.
abbrev pub AreBlankOrWere : Action → List Fact → List Fact → State → Type 0
AreBlankOrWere a was mine now = (p : ℕ) (h : Header) → IsAmong (HasBlank p h) mine
    → IsBlankPage p h now ⊎ (IsAmong (HasBlank p h) was × IsBeside a (HasBlank p h))
