use Rattle.std.proofs.Common.{◌==◌, ◌||◌, ◌&&◌, ◌-◌, ◌^◌, ◌∙◌, if◌then◌else◌, ℕ, true, false, refl, ap, arith}
use Rattle.ctr_mem_disk.specs.declared.record.Call.TheVariants.{Sync}
use Rattle.std.specs.Prelude.{is_ok, nat_le}
use Rattle.std.specs.List.{list_any}
use Rattle.ctr_types.specs.Faults.{raised}
use Rattle.ctr_mem_disk.specs.Counting.{outcome_of}
use Rattle.ctr_mem_disk.specs.declared.record.Recorded.{Recorded}
use Rattle.ctr_mem_disk.proofs.Kept.{goes_kept, replayed_kept, timely_kept, within_kept, elapses_kept, tick_cases, durable_sync}
use Rattle.ctr_mem_disk.proofs.memory.MemDiskDisk.sync.Goals as goal

pub invariant_of-self : goal.invariant_of-self
invariant_of-self c =
    let d = c.args.self.now in
    let r : Recorded = record { call = Sync; outcome = c.start-outcome.result; moment = c.start-outcome.new.self.moment } in
    record {
      replayed = replayed_kept c.keep-kept.result r d.calls.items c.keep-kept.new.calls.items d.first d.present tt c.keep-kept.ensures d.replayed;
      timely = timely_kept c.keep-kept.result r d.calls.items c.keep-kept.new.calls.items c.finish.new.self.moment c.keep-kept.ensures (omega (arith, d.timely)) (omega arith);
    }

pub returns-clause-crash : goal.returns-clause-crash
returns-clause-crash c =
    let d = c.args.self.now in
    let r : Recorded = record { call = Sync; outcome = c.start-outcome.result; moment = c.start-outcome.new.self.moment } in
    within_kept c.keep-kept.result r d.calls.items c.keep-kept.new.calls.items d.first d.present tt c.keep-kept.ensures d.replayed

pub returns-clause-time : goal.returns-clause-time
returns-clause-time c =
    let d = c.args.self.now in
    let r : Recorded = record { call = Sync; outcome = c.start-outcome.result; moment = c.start-outcome.new.self.moment } in
    elapses_kept c.keep-kept.result r d.calls.items c.keep-kept.new.calls.items d.first d.counts.moment c.finish.new.self.moment (tick_cases Sync (false) _ c.start-outcome.result d.counts.moment c.start-outcome.new.self.moment c.start-outcome.ensures.outcome c.start-outcome.ensures.moment) (omega arith) c.keep-kept.ensures

pub returns-clause-durable : goal.returns-clause-durable
returns-clause-durable c =
    let d = c.args.self.now in
    durable_sync tt c.finish.result c.keep-kept.result c.start-outcome.result c.start-outcome.new.self.moment d.calls.items c.keep-kept.new.calls.items d.first d.present c.finish.ensures.value c.keep-kept.ensures d.replayed

pub returns-clause-makes : goal.returns-clause-makes
returns-clause-makes c =
    let d = c.args.self.now in
    record {
      counted = c.finish.ensures.others.0 ∙ c.start-outcome.ensures.calls;
      first = refl;
      listed = refl;
      goes = goes_kept tt _ c.keep-kept.result (Sync) c.start-outcome.result _ c.start-outcome.new.self.moment _ d.calls.items c.keep-kept.new.calls.items d.counts.starved c.finish.new.self.starved
          c.keep-kept.ensures (c.start-outcome.ensures.outcome ∙ ap (λ l. outcome_of (false || (true && nat_le (2 ^ 64 - 1) d.counts.moment)) (list_any (λ n. n == raised d.counts.calls) l)) c.as_slice.ensures) c.start-outcome.ensures.moment (c.finish.ensures.starved ∙ ap (λ (n : ℕ). if is_ok c.keep-kept.result then n else raised n) c.start-outcome.ensures.others.1) (c.finish.ensures.value) (c.finish.ensures.answered);
    }
