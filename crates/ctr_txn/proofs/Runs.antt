-- The laws of runs, by the place of a session.
use Rattle.std.proofs.Common.{◌≡◌, ℕ, ◌+◌, ◌-◌, ◌≤◌, ◌<◌, Option, Some, None, refl, sym, ◌∙◌, ap, arith, length}
use Rattle.std.specs.Prelude.{IfSome}
use Rattle.std.specs.Option.{option_map}
use Rattle.std.specs.Ordering.{nat_cmp}
use Rattle.std.specs.FinMap.Entries.{find, put}
use Rattle.ctr_model.specs.Maps.{without}
use Rattle.ctr_paged.specs.Moving.{held_as}
use Rattle.ctr_txn.specs.declared.txn.Asked.{Asked}
use Rattle.ctr_txn.specs.Held.{TxnHeld, TxnsHeld, txn_of, held_from, run_of, IsOneOfEight}
use Rattle.ctr_txn.specs.Steps.{SetsTxn, AnswersNext}
use Rattle.ctr_meta.specs.Kept.{TablesKept}
use Rattle.ctr_txn.specs.Rooms.{item_kept, HasItemRoom, StaysRoom}
use Rattle.ctr_txn.proofs.Running.{find_held, put_held, without_held, same_held}
use Rattle.ctr_txn.proofs.Rooming.{stays_room, room_lasts, stays_alike}

place : (s : ℕ) → IsOneOfEight s → 1 + (s - 1) ≡ s
place s is = let from = is.from in omega (arith, from)

pub inside : (s : ℕ) (a : TxnsHeld) → IsOneOfEight s → length a.sessions ≡ 8 → s - 1 < length a.sessions
inside s a is eight = let from = is.from in let to = is.to in omega (arith, from, to, eight)

pub found_is : (s : ℕ) (a : TxnsHeld) → IsOneOfEight s → find nat_cmp s (run_of a).sessions ≡ option_map (λ (t : TxnHeld). t.session) (txn_of s a)
found_is s a is = ap (λ n. find nat_cmp n (held_from 1 a.sessions)) (sym (place s is)) ∙ find_held 1 (s - 1) a.sessions

pub sets_run : (s : ℕ) (t : TxnHeld) (old new : TxnsHeld) → IsOneOfEight s → length old.sessions ≡ 8 → SetsTxn s (Some t) old new → run_of new ≡ record (held_as s t.session (run_of old)) { commits = new.numbers.commits }
sets_run s t old new is eight sets = λ i. record {
  commits = new.numbers.commits;
  sessions = (ap (held_from 1) sets.sessions ∙ put_held 1 (s - 1) old.sessions t (inside s old is eight) ∙ ap (λ n. put nat_cmp n t.session (held_from 1 old.sessions)) (place s is)) i;
  answered = sets.answered i;
}

pub same_run : (s : ℕ) (t u : TxnHeld) (old new : TxnsHeld) → txn_of s old ≡ Some t → u.session ≡ t.session → SetsTxn s (Some u) old new → run_of new ≡ record (run_of old) { commits = new.numbers.commits }
same_run s t u old new at same sets = λ i. record {
  commits = new.numbers.commits;
  sessions = (ap (held_from 1) sets.sessions ∙ same_held 1 (s - 1) old.sessions t u at same) i;
  answered = sets.answered i;
}

pub ends_run : (s : ℕ) (old new : TxnsHeld) → IsOneOfEight s → SetsTxn s None old new → run_of new ≡ record (run_of old) { commits = new.numbers.commits; sessions = without nat_cmp s (run_of old).sessions }
ends_run s old new is sets = λ i. record {
  commits = new.numbers.commits;
  sessions = (ap (held_from 1) sets.sessions ∙ without_held 1 (s - 1) old.sessions ∙ ap (λ n. without nat_cmp n (held_from 1 old.sessions)) (place s is)) i;
  answered = sets.answered i;
}

pub answers_run : (s : ℕ) (q : Asked) (old new : TxnsHeld) → AnswersNext s q old new → run_of new ≡ record (run_of old) { sessions = without nat_cmp s (run_of old).sessions; answered = old.answered + 1 }
answers_run s q old new answers = ap run_of answers.new_is ∙ (λ i. record {
  commits = old.numbers.commits;
  sessions = (without_held 1 (s - 1) old.sessions ∙ ap (λ n. without nat_cmp n (held_from 1 old.sessions)) (place s answers.one)) i;
  answered = old.answered + 1;
})

-- the room of all behind a change of one session that keeps no more
pub room_behind : (s : ℕ) (v : Option TxnHeld) (old new : TxnsHeld) → IsOneOfEight s → length old.sessions ≡ 8 → SetsTxn s v old new → item_kept v ≤ item_kept (txn_of s old)
    → (k l : TablesKept) → k.items_room ≤ l.items_room + 0 → HasItemRoom old k → HasItemRoom new l
room_behind s v old new is eight sets = room_lasts old new (s - 1) v (inside s old is eight) sets.sessions sets.cleaner

-- the room of all behind an answer, or where there is none
pub answered_room : (old new : TxnsHeld) → length old.sessions ≡ 8 → (result : Option (ℕ × Asked)) → (result ≡ None → new ≡ old) → IfSome result (λ r. AnswersNext r.0 r.1 old new) → StaysRoom old new
answered_room old new eight None same next k l left = stays_alike old new (same refl) k l left
answered_room old new eight (Some r) same next k l left =
    room_lasts old new (r.0 - 1) None (inside r.0 old next.one eight) (ap (λ (a : TxnsHeld). a.sessions) next.new_is) (ap (λ (a : TxnsHeld). a.cleaner) next.new_is) (omega arith) k l left.1

pub room_of_all : (s : ℕ) (t : TxnHeld) (old new : TxnsHeld) → IsOneOfEight s → length old.sessions ≡ 8 → SetsTxn s (Some t) old new → item_kept (Some t) ≤ item_kept (txn_of s old) → StaysRoom old new
room_of_all s t old new is eight sets fewer = stays_room old new (s - 1) (Some t) (inside s old is eight) sets.sessions sets.cleaner fewer

pub room_without : (s : ℕ) (old new : TxnsHeld) → IsOneOfEight s → length old.sessions ≡ 8 → SetsTxn s None old new → StaysRoom old new
room_without s old new is eight sets = stays_room old new (s - 1) None (inside s old is eight) sets.sessions sets.cleaner (none_kept (item_kept (txn_of s old)))
  where
    none_kept : (n : ℕ) → 0 ≤ n
    none_kept n = omega arith
