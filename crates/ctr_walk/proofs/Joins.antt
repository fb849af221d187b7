-- What two calls on a store leave together, of which the first reads a page.
use Rattle.std.proofs.Common.{◌≡◌, inl, inr, ⊎_elim, ℕ, zero, suc, ◌+◌, List, [], ◌∷◌, ◌++◌, length, take, drop, Result, Ok, Err, sym, ◌∙◌, ap, subst, arith}
use Rattle.std.proofs.Math.Seq.{take-nil}
use Rattle.std.proofs.lemmas.List.{append-nil, drop-drop}
use Rattle.ctr_types.specs.Faults.{HasFault}
use Rattle.ctr_disk.specs.declared.disk.Disk.{Ghosts}
use Rattle.ctr_types.specs.declared.file.File.{File}
use Rattle.ctr_disk.specs.Image.{Image, content}
use Rattle.ctr_disk.specs.declared.fault.StoreFault.{StoreFault}
use Rattle.ctr_disk.specs.declared.fault.StoreFault.TheVariants.{Fault}
use Rattle.ctr_disk.proofs.Moments.{joined, weaker, on_ok}
use Rattle.ctr_record_effects.specs.rec_Record.{Record}
use Rattle.ctr_record_effects.specs.ctr_redo.States.{State, steps}
use Rattle.ctr_record_effects.specs.ctr_redo.Images.{FoldsFront}
use Rattle.ctr_record_effects.proofs.redo_StateLaws.{steps-append}
use Rattle.ctr_store.specs.Store.{MovesOn, ReachesEnd, View, LeavesFront, Logs, KeepsRoom, LeavesPage}

-- a prefix, and a prefix of the rest
prefix_joined : {A : Type 0} (j k : ℕ) (l : List A) → take j l ++ take k (drop j l) ≡ take (j + k) l
prefix_joined zero k l = let n : k ≡ 0 + k = omega arith in ap (λ (m : ℕ). take m l) n
prefix_joined {A} (suc j) k [] = let n : suc (j + k) ≡ suc j + k = omega arith in ap (λ (m : List A). m) (take-nil k) ∙ sym (take-nil (suc j + k))
prefix_joined {A} (suc j) k (x ∷ l) = let n : suc (j + k) ≡ suc j + k = omega arith in ap (λ (t : List A). x ∷ t) (prefix_joined j k l) ∙ ap (λ (m : ℕ). take m (x ∷ l)) n

steps_joined : (j k : ℕ) (ws : List Record) (s : State) → steps (take k (drop j ws)) (steps (take j ws) s) ≡ steps (take (j + k) ws) s
steps_joined j k ws s = sym (steps-append (take j ws) (take k (drop j ws)) s) ∙ ap (λ (l : List Record). steps l s) (prefix_joined j k ws)

-- what folds with a prefix of the rest folds with one of all
front_widens : (j : ℕ) (ws : List Record) (s : State) (c : Image) → FoldsFront (steps (take j ws) s) (drop j ws) c → FoldsFront s ws c
front_widens j ws s c (k, folds) = (
  j + k,
  record { root = folds.root; sound = folds.sound; state_is = folds.state_is ∙ steps_joined j k ws s },
)

-- a call that answers with this fault
abbrev pub fails_with : (T : Type 0) → StoreFault → Result T StoreFault
fails_with T e = Err e

module _ {D : Type 0} (first : Image) (g : Ghosts D) where
  -- what a page that was read leaves doesn't depend on what is answered of it
  pub answers_ok : {S T : Type 0} (x : S) (y : T) (a b : View D) → LeavesPage {T = S} first g a b (Ok x) → LeavesPage {T = T} first g a b (Ok y)
  answers_ok x y a b one = record {
    any_moment = one.any_moment;
    logs = one.logs;
    keeps = one.keeps;
    time = one.time;
    going = one.going;
    stopped = tt;
    refused = λ told sound. tt;
    faults = record { later = one.faults.later; failed = λ is. absurd cc; fine = λ isnt. one.faults.fine (λ is. absurd cc) };
  }

  -- nor what a fault leaves
  pub answers_err : {S T : Type 0} (e : StoreFault) (a b : View D) → LeavesPage {T = S} first g a b (Err e) → LeavesPage {T = T} first g a b (Err e)
  answers_err {S} {T} e a b one = record {
    any_moment = one.any_moment;
    logs = λ told sound. tt;
    keeps = one.keeps;
    time = one.time;
    going = tt;
    stopped = one.stopped;
    refused = λ told sound. same (one.refused told sound);
    faults = record { later = one.faults.later; failed = λ is. one.faults.failed (same is); fine = λ isnt. one.faults.fine (λ is. isnt (same is)) };
  }
    where
      same : {A B : Type 0} {f : StoreFault} → fails_with A e ≡ fails_with A f → fails_with B e ≡ fails_with B f
      same {A} {B} is = ap (fails_with B) (cc is)

module _ {D : Type 0} (g : Ghosts D) (a b c : View D) where
  rest_waits : (logs : Logs [] a b) → b.waiting ≡ drop logs.j a.waiting
  rest_waits logs = logs.waiting ∙ append-nil (drop logs.j a.waiting)

  pub fronts_join : Logs [] a b → MovesOn g a b → LeavesFront g a b → LeavesFront g b c → LeavesFront g a c
  fronts_join logs time ab bc =
      let further : (i : Image) → ReachesEnd b i → ReachesEnd a i = λ i long. omega (arith, long, time.gate, ap (λ (f : File). length (content f i)) time.file) in
      let P : Image → Type 0 = FoldsFront a.hardened a.waiting in
      let Q : Image → Type 0 = FoldsFront b.hardened b.waiting in
      let within : (i : Image) → Q i → P i = λ i q.
      front_widens logs.j a.waiting a.hardened i (subst (λ (l : List Record). FoldsFront (steps (take logs.j a.waiting) a.hardened) l i) (rest_waits logs) (subst (λ (t : State). FoldsFront t b.waiting i) logs.hardened q)) in
      record {
        front = joined g a.disk b.disk c.disk P ab.front (weaker g b.disk c.disk Q P bc.front within);
        long = joined g a.disk b.disk c.disk (ReachesEnd a) ab.long (weaker g b.disk c.disk (ReachesEnd b) (ReachesEnd a) bc.long further);
      }

  pub logs_join : (rs : List Record) → Logs [] a b → Logs rs b c → Logs rs a c
  logs_join rs m n = record {
    j = m.j + n.j;
    waiting = n.waiting ∙ ap (λ (l : List Record). drop n.j l ++ rs) (rest_waits m) ∙ ap (λ (l : List Record). l ++ rs) (drop-drop n.j m.j a.waiting);
    hardened = n.hardened ∙ ap (λ (l : List Record). steps (take n.j l) b.hardened) (rest_waits m)
        ∙ ap (steps (take n.j (drop m.j a.waiting))) m.hardened ∙ steps_joined m.j n.j a.waiting a.hardened;
    now = n.now ∙ ap (steps rs) m.now;
  }

  pub times_join : MovesOn g a b → MovesOn g b c → MovesOn g a c
  times_join m n = record {
    later = omega (arith, m.later, n.later);
    file = n.file ∙ m.file;
    start = n.start ∙ m.start;
    older = n.older ∙ m.older;
    gate = omega (arith, m.gate, n.gate);
    stray = ⊎_elim (λ two. ⊎_elim (λ one. inl (two ∙ one)) (λ far. inr (omega (arith, far, n.gate))) m.stray) inr n.stray;
  }

  pub rooms_join : KeepsRoom a b → KeepsRoom b c → KeepsRoom a c
  rooms_join m n =
      let one = m.room in
      let two = n.room in
      record { next = n.next ∙ m.next; room = omega (arith, one, two); gate = n.gate ∙ m.gate; meta = n.meta ∙ m.meta; counted = n.counted ∙ m.counted }

  pub pages_join : (first : Image) (S T : Type 0) (x : S) (result : Result T StoreFault) → LeavesPage {T = S} first g a b (Ok x) → LeavesPage {T = T} first g b c result → LeavesPage {T = T} first g a c result
  pages_join first S T x result one two = record {
    any_moment = λ told sound. fronts_join (one.logs told sound) one.time (one.any_moment told sound) (two.any_moment told sound);
    logs = λ told sound. on_ok result (Logs [] b c) (Logs [] a c) (logs_join [] (one.logs told sound)) (two.logs told sound);
    keeps = rooms_join one.keeps two.keeps;
    time = times_join one.time two.time;
    going = two.going;
    stopped = two.stopped;
    refused = two.refused;
    faults = subst (λ n. HasFault {T = T} Fault n (g.faults_of c.disk) result) (one.faults.fine (λ is. cc is)) two.faults;
  }
