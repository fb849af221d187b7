use Rattle.std.proofs.Common.{◌==◌, ◌||◌, ◌&&◌, ◌-◌, ◌^◌, ◌∙◌, if◌then◌else◌, ℕ, true, refl, ap, arith}
use Rattle.ctr_mem_disk.specs.declared.record.Call.TheVariants.{Write}
use Rattle.std.specs.Prelude.{is_ok, nat_le}
use Rattle.std.specs.List.{list_any}
use Rattle.ctr_types.specs.Faults.{raised}
use Rattle.ctr_mem_disk.specs.Counting.{outcome_of}
use Rattle.ctr_mem_disk.specs.declared.record.Recorded.{Recorded}
use Rattle.ctr_mem_disk.proofs.Kept.{goes_kept, replayed_write, timely_kept, within_write, torn_write, elapses_kept, tick_cases, stray_kept}
use Rattle.ctr_mem_disk.proofs.memory.MemDiskDisk.write.Goals as goal

pub invariant_of-self : goal.invariant_of-self
invariant_of-self c =
    let d = c.args.self.now in
    let k = c.carry_out-kept in
    let r : Recorded = record { call = Write c.args.file c.args.at c.args.bytes.now; outcome = c.start-outcome.result; moment = c.start-outcome.new.self.moment } in
    record {
      replayed = replayed_write k.result r d.calls.items k.new.calls.items d.first d.present k.new.image k.ensures.calls k.ensures.image d.replayed;
      timely = timely_kept k.result r d.calls.items k.new.calls.items c.finish.new.self.moment k.ensures.calls (omega (arith, d.timely)) (omega arith);
    }

pub returns-clause-torn : goal.returns-clause-torn
returns-clause-torn c =
    torn_write c.carry_out-kept.result c.args.file c.args.at c.args.bytes.now c.start-outcome.result c.args.self.now.present c.carry_out-kept.new.image c.carry_out-kept.ensures.image

pub returns-clause-crash : goal.returns-clause-crash
returns-clause-crash c =
    let d = c.args.self.now in
    let k = c.carry_out-kept in
    within_write k.result c.args.file c.args.at c.args.bytes.now c.start-outcome.result c.start-outcome.new.self.moment d.calls.items k.new.calls.items d.first k.ensures.calls

pub returns-clause-time : goal.returns-clause-time
returns-clause-time c =
    let d = c.args.self.now in
    let k = c.carry_out-kept in
    let r : Recorded = record { call = Write c.args.file c.args.at c.args.bytes.now; outcome = c.start-outcome.result; moment = c.start-outcome.new.self.moment } in
    elapses_kept k.result r d.calls.items k.new.calls.items d.first d.counts.moment c.finish.new.self.moment
    (tick_cases r.call (c.is_past_last-strays.result) _ c.start-outcome.result d.counts.moment c.start-outcome.new.self.moment c.start-outcome.ensures.outcome c.start-outcome.ensures.moment) (omega arith) k.ensures.calls

pub returns-clause-stray : goal.returns-clause-stray
returns-clause-stray c =
    stray_kept tt c.finish.result c.carry_out-kept.result c.is_past_last-strays.result _ _ c.start-outcome.result c.args.self.now.counts.strays c.finish.new.self.strays _
    c.is_past_last-strays.ensures c.start-outcome.ensures.outcome (c.finish.ensures.others.2 ∙ c.start-outcome.ensures.strays) (omega arith) c.finish.ensures.value

pub returns-clause-makes : goal.returns-clause-makes
returns-clause-makes c =
    let d = c.args.self.now in
    record {
      counted = c.finish.ensures.others.0 ∙ c.start-outcome.ensures.calls;
      first = refl;
      listed = refl;
      goes = goes_kept tt _ c.carry_out-kept.result (Write c.args.file c.args.at c.args.bytes.now) c.start-outcome.result _ c.start-outcome.new.self.moment _ d.calls.items c.carry_out-kept.new.calls.items d.counts.starved c.finish.new.self.starved
          c.carry_out-kept.ensures.calls (c.start-outcome.ensures.outcome ∙ ap (λ l. outcome_of (c.is_past_last-strays.result || (true && nat_le (2 ^ 64 - 1) d.counts.moment)) (list_any (λ n. n == raised d.counts.calls) l)) c.as_slice.ensures ∙ ap (λ b. outcome_of (b || (true && nat_le (2 ^ 64 - 1) d.counts.moment)) (list_any (λ n. n == raised d.counts.calls) d.fails)) c.is_past_last-strays.ensures) c.start-outcome.ensures.moment (c.finish.ensures.starved ∙ ap (λ (n : ℕ). if is_ok c.carry_out-kept.result then n else raised n) c.start-outcome.ensures.others.1) (c.finish.ensures.value) (c.finish.ensures.answered);
    }
