use Rattle.std.proofs.Common.{◌≡◌, ◌+◌, ◌==◌, ◌||◌, ◌&&◌, ◌-◌, ◌^◌, ◌∙◌, if◌then◌else◌, ℕ, false, refl, ap, inr, length, arith}
use Rattle.ctr_mem_disk.specs.declared.record.Call.TheVariants.{Read}
use Rattle.std.specs.Prelude.{Result, Ok, Err, is_ok, nat_le}
use Rattle.ctr_disk.specs.declared.disk.Failed.{Failed}
use Rattle.std.specs.List.{list_any}
use Rattle.ctr_types.specs.Faults.{raised}
use Rattle.ctr_mem_disk.specs.Counting.{outcome_of}
use Rattle.ctr_mem_disk.specs.declared.record.Recorded.{Recorded}
use Rattle.ctr_mem_disk.proofs.Kept.{goes_kept, replayed_kept, timely_kept, within_kept, elapses_kept, stray_kept}
use Rattle.ctr_disk.specs.Crash.{Within, Elapses}
use Rattle.ctr_mem_disk.specs.Replay.{possible_after, possible_since}
use Rattle.ctr_mem_disk.proofs.memory.MemDiskDisk.read.Goals.{After-finish}
use Rattle.ctr_mem_disk.proofs.memory.MemDiskDisk.read.Goals as goal

pub invariant_of-self : goal.invariant_of-self
invariant_of-self c =
    let d = c.args.self.now in
    let r : Recorded = record { call = Read c.args.file c.args.at (length c.args.into.now); outcome = c.start-outcome.result; moment = c.start-outcome.new.self.moment } in
    record {
      replayed = replayed_kept c.keep-kept.result r d.calls.items c.keep-kept.new.calls.items d.first d.present tt c.keep-kept.ensures d.replayed;
      timely = timely_kept c.keep-kept.result r d.calls.items c.keep-kept.new.calls.items c.finish.new.self.moment c.keep-kept.ensures (omega (arith, d.timely)) (omega arith);
    }

pub returns-in-Err-clause-stray : goal.returns-in-Err-clause-stray
returns-in-Err-clause-stray c =
    stray_kept tt _ c.keep-kept.result c.is_past_last-strays.result _ _ c.start-outcome.result c.args.self.now.counts.strays c.finish.new.self.strays _
    c.is_past_last-strays.ensures c.start-outcome.ensures.outcome (c.finish.ensures.others.2 ∙ c.start-outcome.ensures.strays) (omega arith) tt

-- as it is recorded
abbrev recorded : After-finish → Recorded
recorded c = record { call = Read c.args.file c.args.at (length c.args.into.now); outcome = c.start-outcome.result; moment = c.start-outcome.new.self.moment }

crash : (c : After-finish) → Within (possible_after c.args.self.now.first c.keep-kept.new.calls.items) (possible_after c.args.self.now.first c.args.self.now.calls.items)
crash c =
    let d = c.args.self.now in
    within_kept c.keep-kept.result (recorded c) d.calls.items c.keep-kept.new.calls.items d.first d.present tt c.keep-kept.ensures d.replayed

time : (c : After-finish) → Elapses c.args.self.now.counts.moment c.finish.new.self.moment (possible_since c.args.self.now.first c.args.self.now.calls.items) (possible_since c.args.self.now.first c.keep-kept.new.calls.items)
    (possible_after c.args.self.now.first c.keep-kept.new.calls.items)
time c =
    let d = c.args.self.now in
    elapses_kept c.keep-kept.result (recorded c) d.calls.items c.keep-kept.new.calls.items d.first d.counts.moment c.finish.new.self.moment (inr tt) (omega arith) c.keep-kept.ensures

-- how the call was to end, by the disk's own list and counts
ends_as : (c : After-finish) → c.start-outcome.result ≡ outcome_of (nat_le (2 ^ 63) (c.args.at + length c.args.into.now) || (false && nat_le (2 ^ 64 - 1) c.args.self.now.counts.moment)) (list_any (λ n. n == raised c.args.self.now.counts.calls) c.args.self.now.fails)
ends_as c =
    let d = c.args.self.now in
    c.start-outcome.ensures.outcome ∙ ap (λ l. outcome_of (c.is_past_last-strays.result || (false && nat_le (2 ^ 64 - 1) d.counts.moment)) (list_any (λ n. n == raised d.counts.calls) l)) c.as_slice.ensures
    ∙ ap (λ b. outcome_of (b || (false && nat_le (2 ^ 64 - 1) d.counts.moment)) (list_any (λ n. n == raised d.counts.calls) d.fails)) c.is_past_last-strays.ensures

starved_is : (c : After-finish) → c.finish.new.self.starved ≡ (if is_ok c.keep-kept.result then c.args.self.now.counts.starved else raised c.args.self.now.counts.starved)
starved_is c = c.finish.ensures.starved ∙ ap (λ (n : ℕ). if is_ok c.keep-kept.result then n else raised n) c.start-outcome.ensures.others.1

pub returns-in-Err-clause-crash : goal.returns-in-Err-clause-crash
returns-in-Err-clause-crash c = crash (goal.at.returns-in-Err-clause-crash c).After-finish

pub returns-clause-crash : goal.returns-clause-crash
returns-clause-crash c = crash (goal.at.returns-clause-crash c).After-finish

pub returns-in-Err-clause-time : goal.returns-in-Err-clause-time
returns-in-Err-clause-time c = time (goal.at.returns-in-Err-clause-time c).After-finish

pub returns-clause-time : goal.returns-clause-time
returns-clause-time c = time (goal.at.returns-clause-time c).After-finish

pub returns-in-Err-clause-makes : goal.returns-in-Err-clause-makes
returns-in-Err-clause-makes c =
    let answer : Result (Unit {0}) Failed = Err c.in-Err.failed in
    let made = (goal.at.returns-in-Err-clause-makes c).After-finish in
    record {
      counted = c.finish.ensures.others.0 ∙ c.start-outcome.ensures.calls;
      first = refl;
      listed = refl;
      goes = goes_kept tt answer c.keep-kept.result (recorded made).call c.start-outcome.result _ c.start-outcome.new.self.moment _ c.args.self.now.calls.items c.keep-kept.new.calls.items c.args.self.now.counts.starved c.finish.new.self.starved
          c.keep-kept.ensures (ends_as made) c.start-outcome.ensures.moment (starved_is made) tt (c.in-Err.ensures.answered);
    }

pub returns-clause-makes : goal.returns-clause-makes
returns-clause-makes c =
    let answer : Result (Unit {0}) Failed = Ok tt in
    let made = (goal.at.returns-clause-makes c).After-finish in
    record {
      counted = c.finish.ensures.others.0 ∙ c.start-outcome.ensures.calls;
      first = refl;
      listed = refl;
      goes = goes_kept tt answer c.keep-kept.result (recorded made).call c.start-outcome.result _ c.start-outcome.new.self.moment _ c.args.self.now.calls.items c.keep-kept.new.calls.items c.args.self.now.counts.starved c.finish.new.self.starved
          c.keep-kept.ensures (ends_as made) c.start-outcome.ensures.moment (starved_is made) (c.in-Ok.ensures.value) (λ kept is. refl);
    }
