use Rattle.std.proofs.Common.{◌∙◌, sym, ap}
use Rattle.ctr_meta.specs.Kept.{TablesKept}
use Rattle.ctr_suite_cases.proofs.run.play_over.Goals as goal

pub play_sessions-requires : goal.play_sessions-requires
play_sessions-requires c = record {
  over = record {
    stand = record {
      next = c.in_ok-sessions.ensures.is.0 ∙ c.next-next.ensures.next ∙ ap (λ (k : TablesKept). k.tables.next) c.meta.ensures.tables;
      items = c.in_ok-sessions.ensures.fresh.room c.stuck_names.new.store.meta;
    };
    going = c.in_ok-stuck.ensures.going;
    seats = c.in_ok-sessions.ensures.seats c.stuck_names.new.store.now.counted;
  };
}
