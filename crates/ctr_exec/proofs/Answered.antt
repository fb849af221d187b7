-- An act that is told to a session is answered by Asked where it asks for a commit alone.
use Rattle.std.proofs.Common.{◌≡◌, ⊎_elim, ℕ, [], ◌∷◌, ◌++◌, Some, sym, ◌∙◌, ap, subst, arith}
use Rattle.ctr_disk.specs.declared.disk.Disk.{Ghosts}
use Rattle.ctr_types.specs.declared.statement.Statement.{Statement}
use Rattle.ctr_types.specs.declared.tape.Act.{Act}
use Rattle.ctr_types.specs.declared.tape.Act.TheVariants as act
use Rattle.ctr_types.specs.declared.tape.Entry.{Entry}
use Rattle.ctr_types.specs.declared.tape.Reply.{Reply}
use Rattle.ctr_types.specs.declared.tape.Reply.TheVariants as reply
use Rattle.ctr_model.specs.Tape.{Allowed, IsNextAct, IsRelease, Legal}
use Rattle.ctr_versions.proofs.Keys.{some_is}
use Rattle.ctr_store.specs.Store.{View}
use Rattle.ctr_control.specs.kept_Turns.{Start, entry_of, point_now, start_point, state_now}
use Rattle.ctr_control.specs.txn_Held.{IsOneOfEight}
use Rattle.ctr_control.specs.ctr_session_world.World.{SessionsHeld}
use Rattle.ctr_control.specs.ctr_session_world.Told.{IsNextOf, IsActTold}
use Rattle.ctr_exec.proofs.Points.{last_comes}
use Rattle.ctr_exec.proofs.Replies.{asks_alone}

module _ {D : Type 0} (g : Ghosts D) (c : Start) (opened : D) (a b : View D) (h : SessionsHeld) (s : ℕ) (one : IsOneOfEight s) (statement : Statement) (made : ℕ) (next : IsNextOf g c opened a b h s statement made)
    (now : SessionsHeld) (x : Act) (r : Reply) (told : IsActTold next now x r) where
  abbrev e : Entry
  e = entry_of s next.e x r

  legal : Legal c.lines (start_point c) (next.mind.tape ++ e ∷ [])
  legal = subst (Legal c.lines (start_point c)) told.tape told.world.keeps.walks.legal

  -- the reply is one that the tape allows
  pub allowed : Allowed (state_now c next.mind) s x statement r
  allowed = ⊎_elim acts released (last_comes c.lines (start_point c) next.mind.tape e legal).one_of
    where
      none : s ≡ 0 → ⊥
      none zero_ = let low = one.from in omega (arith, low, zero_)

      acts : IsNextAct c.lines (point_now c next.mind) e → Allowed (state_now c next.mind) s x statement r
      acts is = subst (λ z. Allowed (state_now c next.mind) s x z r) (some_is is.0 statement (sym is.1 ∙ next.e.is_it ∙ ap Some next.is)) is.2.allowed

      released : IsRelease (point_now c next.mind) e → Allowed (state_now c next.mind) s x statement r
      released is = absurd (none is.session)

  pub not_asked : (x ≡ act.Ask → ⊥) → (k : ℕ) → r ≡ reply.Asked k → ⊥
  not_asked isnt k is = isnt (asks_alone (state_now c next.mind) s x statement k (subst (λ y. Allowed (state_now c next.mind) s x statement y) is allowed))
