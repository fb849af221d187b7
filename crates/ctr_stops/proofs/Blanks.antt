-- What is kept of the bytes of pages.
use Rattle.std.proofs.Common.{◌≡◌, ◌≢◌, ◌⊎◌, ⊎_elim, inl, inr, ℕ, ◌<◌, ◌≤◌, ◌==◌, false, cond, List, Some, None, sym, ◌∙◌, ap, subst}
use Rattle.std.specs.Prelude.{is_some}
use Rattle.std.specs.Ordering.{nat_cmp}
use Rattle.std.specs.FinMap.Entries.{find}
use Rattle.std.proofs.lemmas.Bool.{false≢true, eq-eqb}
use Rattle.ctr_versions.proofs.Keys.{known}
use Rattle.ctr_versions.specs.Engine.{SessionHeld}
use Rattle.ctr_versions.specs.Laws.{IsNoSessions}
use Rattle.ctr_passed.specs.page_Header.{Header}
use Rattle.ctr_passed.specs.area_Chains.{pages_bound}
use Rattle.ctr_passed.specs.area_Sound.{IsAmong}
use Rattle.ctr_store.specs.redo_States.{State, counting}
use Rattle.ctr_passed.specs.record_effects_States.{pages_in, area_in}
use Rattle.ctr_passed.specs.record_effects_Standing.{IsDatabaseState}
use Rattle.ctr_passed.specs.actions_Sites.{site_of}
use Rattle.ctr_passed.specs.actions_Actions.{Action}
use Rattle.ctr_passed.specs.actions_Records.{Does}
use Rattle.ctr_passed.specs.actions_Facts.{Fact, HasPage, HasBlank, HoldsFact, IsBeside}
use Rattle.ctr_passed.specs.Laid.{LiesAs}
use Rattle.ctr_passed.specs.Logged.{IsBlankPage}
use Rattle.ctr_kept.specs.Walk.{Mind, with_facts}
use Rattle.ctr_kept.specs.Turns.{Start, KeepsRun, AnswersEach, InTransaction}
use Rattle.ctr_stops.specs.Pages.{HoldsPages, CountsOnNoMore, OthersAreHeld, AreBlankOrWere}

-- a page of one's own stays blank
abbrev pub StaysBlank : Type 0
StaysBlank = (x y p : ℕ) (h : Header) (a : Action) (s t : State) → IsDatabaseState s → Does y a s t → LiesAs a (area_in s) (pages_in s) (pages_in t)
    → HoldsFact x (HasPage p) (site_of s) → IsBeside a (HasBlank p h) ⊎ (x ≢ y) → IsBlankPage p h s → IsBlankPage p h t

module _ (stays : StaysBlank) (c : Start) (now x : ℕ) (old new : State) (w : Mind) (a : Action) (keeps : KeepsRun c now (site_of old) w) (pages : HoldsPages w old)
    (sound : IsDatabaseState new) (does : Does x a old new) (lies : LiesAs a (area_in old) (pages_in old) (pages_in new)) where
  -- a page on which a session counted is blank still
  still : (r : ℕ) (b : SessionHeld) (p : ℕ) (h : Header) → find nat_cmp r w.run.sessions ≡ Some b → IsAmong (HasBlank p h) (w.facts r) → IsBeside a (HasBlank p h) ⊎ (b.me ≢ x) → IsBlankPage p h new
  still r b p h at in_ who = stays b.me x p h a old new pages.sound does lies (keeps.scene.carried.held r b (HasBlank p h) at in_).0 who (pages.blank r b p h at in_)

  pub own_pages : (s : ℕ) (v : Mind) (seat : InTransaction c w s) (mine : List Fact) → seat.session.me ≡ x → 0 < x → OthersAreHeld s w v → v.facts ≡ with_facts s mine w.facts → AreBlankOrWere a (w.facts s) mine new → HoldsPages v new
  own_pages s v seat mine me some others facts blank = record {
    sound = sound;
    blank = λ r b p h at in_. let its = subst (IsAmong (HasBlank p h)) (ap (λ f. f r) facts) in_ in known (r == s)
        (λ one. ⊎_elim (λ now_blank. now_blank) (λ was. still s seat.session p h seat.at was.0 (inl was.1)) (blank p h (subst (IsAmong (HasBlank p h)) (ap (λ z. cond z mine (w.facts r)) one) its)))
        (λ two. let there = sym (others r two) ∙ at in still r b p h there (subst (IsAmong (HasBlank p h)) (ap (λ z. cond z mine (w.facts r)) two) its) (inr (alone r b two there)));
  }
    where
      alone : (r : ℕ) (b : SessionHeld) → (r == s) ≡ false → find nat_cmp r w.run.sessions ≡ Some b → b.me ≢ x
      alone r b two at same = false≢true (sym two ∙ eq-eqb r s (sym (keeps.scene.shown.paged.shows.apart s r seat.session b seat.at at (subst (λ n. 0 < n) (sym me) some) (me ∙ sym same))))

  pub nobodys_pages : (v : Mind) → IsNoSessions w.run.sessions x → CountsOnNoMore w v → HoldsPages v new
  nobodys_pages v nobodys no_more = record {
    sound = sound;
    blank = λ r b p h at in_. let was = no_more r b p h at in_ in still r was.0 p h was.1 was.2 (inr (nobodys r was.0 was.1));
  }

pub silent_pages : (s : State) (w v : Mind) → HoldsPages w s → CountsOnNoMore w v → HoldsPages v s
silent_pages s w v pages no_more = record { sound = pages.sound; blank = λ r b p h at in_. let was = no_more r b p h at in_ in pages.blank r was.0 p h was.1 was.2 }

pub grown_pages : (more : ℕ) (s : State) (w : Mind) → HoldsPages w s → IsDatabaseState (counting more s) → HoldsPages w (counting more s)
grown_pages more s w pages sound = record { sound = sound; blank = pages.blank }

-- answers take nothing more on
pub answers_count : (c : Start) (later : ℕ) (s : State) (w : Mind) (n : ℕ) (all : AnswersEach c later (site_of s) w n) → CountsOnNoMore w all.mind
answers_count c later s w n all r b p h at in_ = ⊎_elim
    (λ same. (b, sym same.1 ∙ at, subst (λ f. IsAmong (HasBlank p h) (f r)) all.facts in_))
    (λ gone. let there = all.keeps.scene.shown.paged.modelled r b at in absurd (false≢true (ap is_some (sym gone.4 ∙ there.1))))
    (all.each r)
