-- Entries that turns add, one behind another.
use Rattle.std.proofs.Common.{◌≡◌, ◌≢◌, ℕ, List, [], ◌∷◌, ◌++◌, append_assoc, refl, sym, ◌∙◌, ap, subst}
use Rattle.std.specs.List.{AllByRecursion}
use Rattle.std.proofs.lemmas.List.{append-nil}
use Rattle.ctr_types.specs.declared.tape.Actor.{Actor}
use Rattle.ctr_types.specs.declared.tape.Entry.{Entry}
use Rattle.ctr_types.specs.declared.tape.Turn.{Turn}
use Rattle.ctr_types.specs.declared.tape.Turn.TheVariants as turn
use Rattle.ctr_disk.specs.declared.disk.Disk.{Ghosts}
use Rattle.ctr_store.specs.Store.{View}
use Rattle.ctr_pass.specs.exec_sessions_Sessions.{Sessions}
use Rattle.ctr_world.specs.Held.{Held, Running}
use Rattle.ctr_world.specs.Turns.{AddsEntries, EndsTurn, GoesByTurns}

-- what holds of each of two lists holds of both
pub all_append : (P : Entry → Type 0) (xs ys : List Entry) → AllByRecursion P xs → AllByRecursion P ys → AllByRecursion P (xs ++ ys)
all_append P [] ys first then = then
all_append P (x ∷ xs) ys first then = (first.0, all_append P xs ys first.1 then)

-- such entries, and others behind them
abbrev pub Both : (List Entry → Type 0) → (List Entry → Type 0) → List Entry → Type 0
Both P Q es = (own : List Entry) × (then : List Entry) × (es ≡ own ++ then) × P own × Q then

pub adds_both : {D : Type 0} (P Q : List Entry → Type 0) (moment : ℕ) (old mid new : Running D) → AddsEntries P moment old mid → AddsEntries Q moment mid new → AddsEntries (Both P Q) moment old new
adds_both P Q moment old mid new first then = record {
  entries = first.entries ++ then.entries;
  tape = then.tape ∙ ap (λ l. l ++ then.entries) first.tape ∙ append_assoc old.sessions.tape.items first.entries then.entries;
  are_such = (first.entries, then.entries, refl, first.are_such, then.are_such);
  moments = all_append (λ (e : Entry). e.moment ≡ moment) first.entries then.entries first.moments then.moments;
  script = then.script ∙ first.script;
}

-- and answers behind a turn, whose store is left as it is
pub adds_behind : {D : Type 0} (g : Ghosts D) (P Q : List Entry → Type 0) (old mid new : Running D) → new.store ≡ mid.store → AddsEntries P (g.moment_of mid.store.disk) old mid → AddsEntries Q (g.moment_of mid.store.disk) mid new
    → AddsEntries (Both P Q) (g.moment_of new.store.disk) old new
adds_behind g P Q old mid new same first then =
    subst (λ (v : View _). AddsEntries (Both P Q) (g.moment_of v.disk) old new) (sym same) (adds_both P Q (g.moment_of mid.store.disk) old mid new first then)

-- answers alone
pub adds_answers : {D : Type 0} (g : Ghosts D) (Q : List Entry → Type 0) (old mid new : Running D) → new.store ≡ mid.store → mid.sessions.tape.items ≡ old.sessions.tape.items → mid.sessions.script ≡ old.sessions.script → AddsEntries Q (g.moment_of mid.store.disk) mid new
    → AddsEntries Q (g.moment_of new.store.disk) old new
adds_answers g Q old mid new same still script then = record {
  entries = then.entries;
  tape = then.tape ∙ ap (λ (es : List Entry). es ++ then.entries) still;
  are_such = then.are_such;
  moments = subst (λ (v : View _). AllByRecursion (λ (e : Entry). e.moment ≡ g.moment_of v.disk) then.entries) (sym same) then.moments;
  script = then.script ∙ script;
}

-- ---- a tape that grows, or stays

-- entries more behind those that are there, or none
abbrev pub GrowsTape : {D : Type 0} → Running D → Running D → Type 0
GrowsTape old new =
    (more : List Entry) × (new.sessions.tape.items ≡ old.sessions.tape.items ++ more)

module _ {D : Type 0} where
  pub adds_still : (a b : Running D) → b.sessions.tape.items ≡ a.sessions.tape.items → GrowsTape a b
  adds_still a b same = ([], same ∙ sym (append-nil a.sessions.tape.items))

  pub adds_on : (a b c : Running D) → GrowsTape a b → GrowsTape b c → GrowsTape a c
  adds_on a b c one two = (one.0 ++ two.0, two.1 ∙ ap (λ (es : List Entry). es ++ two.0) one.1 ∙ append_assoc a.sessions.tape.items one.0 two.0)

  -- a turn that doesn't go adds none
  pub turn_adds_none : (g : Ghosts D) (t : Turn) (a : Actor) (w v : Held D) → EndsTurn g t a w v → t ≢ turn.Went → v.running.sessions.tape.items ≡ w.running.sessions.tape.items
  turn_adds_none g turn.Went a w v says other = absurd (other refl)
  turn_adds_none g turn.Idle a w v says other = ap (λ (h : Sessions). h.tape.items) says.3.sessions
  turn_adds_none g turn.Short a w v says other = ap (λ (h : Sessions). h.tape.items) says.3.sessions
  turn_adds_none g turn.Over a w v says other = ap (λ (x : Held D). x.running.sessions.tape.items) says.2
  turn_adds_none g turn.Stopped a w v says other = says.1

  -- turns one after another add entries behind those that are there
  pub turns_add : (g : Ghosts D) (between : List (Held D)) (w v : Held D) → GoesByTurns g between w v → GrowsTape w.running v.running
  turns_add g [] w v same = adds_still w.running v.running (ap (λ (x : Held D). x.running.sessions.tape.items) same)
  turns_add g (last ∷ before) w v goes = adds_on w.running last.running v.running (turns_add g before w last goes.0) (goes.1.ends.2.entries, goes.1.ends.2.tape)
