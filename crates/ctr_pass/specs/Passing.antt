-- What the cleaner knows of what happened since it looked last.
use Rattle.std.specs.Prelude.{◌≡◌, ℕ, ℤ, ◌==◌, ◌&&◌, not, Bool, true, false, List, drop, length, Option, Some, None, if◌then◌else◌}
use Rattle.std.specs.List.{list_any}
use Rattle.ctr_types.specs.declared.tape.Entry.{Entry}
use Rattle.ctr_types.specs.declared.tape.Reply.{Reply}
use Rattle.ctr_types.specs.declared.tape.Reply.TheVariants as reply
use Rattle.ctr_model.specs.declared.state.Transaction.{Transaction}
use Rattle.ctr_model.specs.Refusals.{has_lock}
use Rattle.ctr_cleaner.specs.declared.done.CleanTurn.{CleanTurn}
use Rattle.ctr_cleaner.specs.declared.done.CleanTurn.TheVariants as did
use Rattle.ctr_cleaner.specs.cursor_Position.{Position}
use Rattle.ctr_cleaner.specs.cursor_Pass.{start}
use Rattle.ctr_pass.specs.declared.pass.Pass.{Pass}
use Rattle.ctr_pass.specs.declared.pass.Phase.{Phase}
use Rattle.ctr_pass.specs.declared.pass.Phase.TheVariants.{Disturbed, Calm, Idle}

-- a reply ends its session's transaction
abbrev pub ends_transaction : Reply → Bool
ends_transaction (reply.Began n) = false
ends_transaction reply.Granted = false
ends_transaction (reply.Rows rows) = false
ends_transaction reply.Done = false
ends_transaction (reply.Asked k) = false
ends_transaction reply.ReadOnly = true
ends_transaction (reply.Answered k) = true
ends_transaction reply.RolledBack = true
ends_transaction reply.Released = false
ends_transaction (reply.Refused why) = false

-- a transaction ends by one of these entries
abbrev pub some_end : List Entry → Bool
some_end es = list_any (λ (e : Entry). ends_transaction e.reply) es

-- the other transaction has each lock of the one
abbrev pub HasLocksOf : Transaction → Transaction → Type 0
HasLocksOf t u = (name : List ℕ) (key : ℤ) → has_lock name key t ≡ true
    → has_lock name key u ≡ true

-- Nothing happened since the cleaner looked last: no record was logged, and no transaction has
-- ended.
abbrev pub is_calm : Pass → ℕ → List Entry → Bool
is_calm p next es = (p.next == next) && not (some_end (drop p.seen es))

-- a pass once the cleaner has looked: something that happened disturbs it
abbrev pub noted : Pass → ℕ → List Entry → Pass
noted p next es = record p {
  next = next;
  seen = length es;
  phase = if is_calm p next es then p.phase else Disturbed;
}

-- ---- behind a turn

-- how a pass is at its end, where a page might leave its chain or not: one in which nothing
-- happened is idle, and behind another one a pass begins
abbrev pub phase_over : Bool → Phase → Phase
phase_over may Disturbed = Calm
phase_over may Calm = if may then Idle else Calm
phase_over may Idle = Idle

-- A pass that found nothing at its position goes on to the one behind it, if any, else to its
-- start. Where no page might leave its chain nothing is known of what was passed.
abbrev pub pass_on : Bool → Option Position → Pass → Pass
pass_on may (Some y) p = record p { at = y; phase = if may then p.phase else Disturbed }
pass_on may None p = record p { at = start; phase = phase_over may p.phase }

-- A pass behind a turn: a record disturbs it, and so does a position at which it wasn't seen
-- whether there is anything to do.
abbrev pub pass_behind : Pass → Position → CleanTurn → Bool → ℕ → Pass
pass_behind p from did.Cleaned may next = record p { at = from; next = next; phase = Disturbed }
pass_behind p from did.Unlinked may next = record p { at = from; next = next; phase = Disturbed }
pass_behind p from did.Reclaimed may next = record p { at = from; next = next; phase = Disturbed }
pass_behind p from (did.Moved y) may next = pass_on may (Some y) p
pass_behind p from did.Over may next = pass_on may None p
pass_behind p from (did.Left y) may next = pass_on may y (record p { phase = Disturbed })

-- whether room is kept for an item of the cleaner's: not while a page that left its chain waits
abbrev pub keeps_room : Bool → CleanTurn → Bool
keeps_room may did.Cleaned = may
keeps_room may did.Unlinked = false
keeps_room may did.Reclaimed = true
keeps_room may (did.Moved y) = may
keeps_room may did.Over = may
keeps_room may (did.Left y) = may
