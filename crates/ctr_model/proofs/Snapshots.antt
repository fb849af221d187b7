-- What a session sees stays while others act.
use Rattle.std.proofs.Common.{◌≡◌, ℕ, ◌==◌, ◌≤◌, false, List, [], ◌∷◌, length, take, Option, Some, None, refl, sym, ◌∙◌, ap, arith, length-append}
use Rattle.std.proofs.lemmas.List.{append-nil, take-append-le}
use Rattle.ctr_types.specs.declared.statement.Statement.{Statement}
use Rattle.ctr_types.specs.declared.statement.Line.{Line}
use Rattle.ctr_types.specs.declared.tape.Act.{Act}
use Rattle.ctr_types.specs.declared.tape.Reply.{Reply}
use Rattle.ctr_types.specs.declared.tape.Reply.TheVariants as reply
use Rattle.ctr_types.specs.declared.tape.Entry.{Entry}
use Rattle.ctr_model.specs.declared.database.Change.{Change}
use Rattle.ctr_model.specs.declared.state.State.{State}
use Rattle.ctr_model.specs.declared.state.Transaction.{Transaction}
use Rattle.ctr_model.specs.declared.tape.Point.{Point}
use Rattle.ctr_model.specs.Database.{after, after_all}
use Rattle.ctr_model.specs.State.{transaction_of, rows_at}
use Rattle.ctr_model.specs.Reply.{next_inside, next_outside, released, next_from, next_state}
use Rattle.ctr_model.specs.Tape.{statement_of, passed, final}
use Rattle.ctr_model.specs.Laws.{asked_by, Grows, OthersOnly, SeesTheSame, SnapshotsStay}
use Rattle.ctr_model.proofs.Outside.{released-cases, next_outside-cases}
use Rattle.ctr_model.proofs.Sessions.{find-put-other, find-without-other}

-- ---- one step of another session

module _ (state : State) (s t : ℕ) (other : (s == t) ≡ false) where
  inside_stays : (me : Transaction) (a : Act) (of : Option Statement) (r : Reply) → transaction_of (next_inside state t me a of r) s ≡ transaction_of state s
  inside_stays me a of (reply.Began n) = refl
  inside_stays me a of reply.Granted = find-put-other s t _ state.sessions other
  inside_stays me a of (reply.Rows rows) = find-put-other s t _ state.sessions other
  inside_stays me a of reply.Done = find-put-other s t _ state.sessions other
  inside_stays me a of (reply.Asked k) = find-put-other s t _ state.sessions other
  inside_stays me a of reply.ReadOnly = find-without-other s t state.sessions other
  inside_stays me a of (reply.Answered k) = find-without-other s t state.sessions other
  inside_stays me a of reply.RolledBack = find-without-other s t state.sessions other
  inside_stays me a of reply.Released = refl
  inside_stays me a of (reply.Refused why) = refl

  outside_stays : (a : Act) (of : Option Statement) (r : Reply) → transaction_of (next_outside state t a of r) s ≡ transaction_of state s
  outside_stays = next_outside-cases (λ r new. transaction_of new s ≡ transaction_of state s) state t (λ n. find-put-other s t _ state.sessions other) (λ r. refl) (λ name. refl)

  pub others_stay : (a : Act) (of : Option Statement) (r : Reply) → transaction_of (next_state state t a of r) s ≡ transaction_of state s
  others_stay a of r = elim (transaction_of state t) as (λ f. transaction_of (next_from state t f a of r) s ≡ transaction_of state s) [
    | Some me ↦ inside_stays me a of r
    | None ↦ outside_stays a of r
  ]

-- ---- what was asked stays

same_asked : (old new : State) → new.base ≡ old.base → new.asked ≡ old.asked → Grows [] old new
same_asked old new base asked = record { base = base; asked = asked ∙ sym (append-nil old.asked) }

inside_grows : (state : State) (t : ℕ) (me : Transaction) (a : Act) (of : Option Statement) (r : Reply) → Grows (asked_by r (Some me)) state (next_inside state t me a of r)
inside_grows state t me a of (reply.Began n) = same_asked _ _ refl refl
inside_grows state t me a of reply.Granted = same_asked _ _ refl refl
inside_grows state t me a of (reply.Rows rows) = same_asked _ _ refl refl
inside_grows state t me a of reply.Done = same_asked _ _ refl refl
inside_grows state t me a of (reply.Asked k) = record { base = refl; asked = refl }
inside_grows state t me a of reply.ReadOnly = same_asked _ _ refl refl
inside_grows state t me a of (reply.Answered k) = same_asked _ _ refl refl
inside_grows state t me a of reply.RolledBack = same_asked _ _ refl refl
inside_grows state t me a of reply.Released = same_asked _ _ refl refl
inside_grows state t me a of (reply.Refused why) = same_asked _ _ refl refl

released_grows : (state : State) (a : Act) → Grows [] state (released a state)
released_grows state = released-cases (Grows [] state) state (same_asked _ _ refl refl) (λ name. same_asked _ _ refl refl)

outside_grows : (state : State) (t : ℕ) (a : Act) (of : Option Statement) (r : Reply) → Grows (asked_by r None) state (next_outside state t a of r)
outside_grows state t a of (reply.Began n) = same_asked _ _ refl refl
outside_grows state t a of reply.Granted = same_asked _ _ refl refl
outside_grows state t a of (reply.Rows rows) = same_asked _ _ refl refl
outside_grows state t a of reply.Done = same_asked _ _ refl refl
outside_grows state t a of (reply.Asked k) = same_asked _ _ refl refl
outside_grows state t a of reply.ReadOnly = same_asked _ _ refl refl
outside_grows state t a of (reply.Answered k) = same_asked _ _ refl refl
outside_grows state t a of reply.RolledBack = same_asked _ _ refl refl
outside_grows state t a of reply.Released = released_grows state a
outside_grows state t a of (reply.Refused why) = same_asked _ _ refl refl

pub next_grows : (state : State) (t : ℕ) (a : Act) (of : Option Statement) (r : Reply) → Grows (asked_by r (transaction_of state t)) state (next_state state t a of r)
next_grows state t a of r = elim (transaction_of state t) as (λ f. Grows (asked_by r f) state (next_from state t f a of r)) [
  | Some me ↦ inside_grows state t me a of r
  | None ↦ outside_grows state t a of r
]

-- rows at a number that was asked stay
rows_stay : (more : List (List Change)) (old new : State) (j : ℕ) → Grows more old new → j ≤ length old.asked → rows_at new j ≡ rows_at old j
rows_stay more old new j grows le =
    (λ i. after_all (take j (grows.asked i)) (grows.base i)) ∙ ap (λ (ts : List (List Change)). after_all ts old.base) (take-append-le j old.asked more le)

-- ---- over a stretch

stays : (lines : List Line) (p : Point) (es : List Entry) (s : ℕ) (me : Transaction) → transaction_of p.state s ≡ Some me → me.snapshot ≤ length p.state.asked → OthersOnly s es → SeesTheSame s me p.state (final lines p es).state
stays lines p [] s me is le others = record { transaction = is; snapshot = refl; sees = refl }
stays lines p (e ∷ es) s me is le others =
    let q = passed lines p e in
    let of = statement_of lines e.session e.statement in
    let more = asked_by e.reply (transaction_of p.state e.session) in
    let grows = next_grows p.state e.session e.act of e.reply in
    let longer : length p.state.asked ≤ length q.state.asked = omega (arith, ap length grows.asked, length-append p.state.asked more) in
    let here : transaction_of q.state s ≡ Some me = others_stay p.state s e.session others.0 e.act of e.reply ∙ is in
    let rest = stays lines q es s me here (omega (arith, le, longer)) others.1 in
    let same : rows_at (final lines q es).state me.snapshot ≡ rows_at p.state me.snapshot = rest.snapshot ∙ rows_stay more p.state q.state me.snapshot grows le in
    record { transaction = rest.transaction; snapshot = same; sees = ap (after me.own) same }

pub snapshots_stay : SnapshotsStay
snapshots_stay lines p es s me sound is others = stays lines p es s me is (omega (arith, sound.answered, (sound.each s me is).0)) others
