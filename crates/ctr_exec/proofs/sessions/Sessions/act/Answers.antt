use Rattle.std.proofs.Common.{◌≡◌, ◌++◌, ◌∙◌, Ok, sym, ap, subst}
use Rattle.std.specs.Prelude.{slice_get}
use Rattle.ctr_disk.specs.declared.fault.StoreFault.TheVariants.{Fault}
use Rattle.ctr_types.specs.declared.statement.Line.{Line}
use Rattle.ctr_types.specs.declared.statement.Statement.{Statement}
use Rattle.ctr_types.specs.declared.statement.Statement.TheVariants as st
use Rattle.ctr_versions.proofs.Keys.{some_is}
use Rattle.ctr_control.specs.kept_Turns.{state_now}
use Rattle.ctr_control.specs.txn_Held.{IsWriting, TxnsHeld, number_drawn, txn_of}
use Rattle.ctr_control.specs.ctr_session_world.Ready.{StandOver}
use Rattle.ctr_control.specs.ctr_session_world.Told.{IsNextOf}
use Rattle.ctr_control.specs.ctr_session_world.World.{SessionsHeld}
use Rattle.ctr_control.proofs.ctr_session_world.Disks.{disk_done, disk_failed}
use Rattle.ctr_control.specs.ctr_writing.Tables.{HasFittingColumns}
use Rattle.ctr_exec.specs.declared.runners.Stage.{Stage}
use Rattle.ctr_exec.specs.declared.sessions.Sessions.{Sessions}
use Rattle.ctr_exec.specs.Acting.{IsMidway, LeavesAct, LeavesAsking, MayAct, RollsAct, TurnOfAct}
use Rattle.ctr_exec.specs.Runners.{made_at, runner_at}
use Rattle.ctr_exec.specs.Sessions.{entries_by, sessions_held_by}
use Rattle.ctr_exec.proofs.Noting.{all_at, capacity_now, held_now, len_now, runners_now, script_now, stuck_now, tape_now, txns_now}
use Rattle.ctr_exec.proofs.Going.{sound_in}
use Rattle.ctr_exec.proofs.Ordered.{adds_acted}
use Rattle.ctr_exec.proofs.Seats.{runner_here, seats_told, small_here}
use Rattle.ctr_exec.proofs.Turned.{at_stage, next, turned}
use Rattle.ctr_exec.proofs.Fewer.{act_falls}
use Rattle.ctr_exec.proofs.sessions.Sessions.act.Goals as goal

pub next_number-number-requires-clause-small : goal.next_number-number-requires-clause-small
next_number-number-requires-clause-small g c = small_here c.args.self.now c.args.store.now.now.counted c.requires.go.0.seats c.args.s c.requires.go.0.one c.requires.more.more

pub take-place-requires-clause-of : goal.take-place-requires-clause-of
take-place-requires-clause-of g c = runner_here c.args.self.now c.args.store.now.now.counted c.requires.go.0.seats c.args.s c.requires.go.0.one

pub act-acted-requires-clause-at : goal.act-acted-requires-clause-at
act-acted-requires-clause-at g c =
    let h = c.args.self.now in
    let s = c.args.s in
    let seats = c.requires.go.0.seats in
    let line = c.take-place.ensures.line in
    let same = c.take-place.ensures.same in
    let said = c.statement_at-statement.ensures line.line (ap (λ ls. slice_get ls c.take-place.result.0) (c.as_slice.ensures ∙ ap (λ (z : Sessions). z.script.lines) same) ∙ line.there) in
    let may = seats.may s line.line.statement c.requires.go.0.one line.named c.requires.more.unasked in
    let fit = all_at (λ (l : Line). HasFittingColumns l.statement) h.script.lines c.take-place.result.0 line.line seats.fit line.there in (
      subst (λ (t : TxnsHeld). MayAct c.take-place.result.1 s c.statement_at-statement.result.now t c.args.store.now.now.counted) (sym (ap (λ (z : Sessions). z.txns) same))
          (subst (λ (q : Stage). MayAct q s c.statement_at-statement.result.now h.txns c.args.store.now.now.counted) (sym c.take-place.ensures.stage)
          (subst (λ (z : Statement). MayAct (runner_at s h.runners.items).stage s z h.txns c.args.store.now.now.counted) (sym said) may)),
      subst HasFittingColumns (sym said) fit,
    )

pub returns-in-Err-clause-told : goal.returns-in-Err-clause-told
returns-in-Err-clause-told g c = λ run opened w tells sound before.
    let h = c.args.self.now in
    let s = c.args.s in
    let line = c.take-place.ensures.line in
    let same = c.take-place.ensures.same in
    let said = c.statement_at-statement.ensures line.line (ap (λ ls. slice_get ls c.take-place.result.0) (c.as_slice.ensures ∙ ap (λ (z : Sessions). z.script.lines) same) ∙ line.there) in
    let a = c.args.store.now in
    let b = c.act-acted.new.store in
    let now : SessionsHeld = record { txns = c.act-acted.new.txns; locks = c.act-acted.new.locks } in
    let told = subst (λ (q : Stage). (next : IsNextOf g.D.Disk run opened a b (sessions_held_by h) s line.line.statement (made_at q)) → h.stuck ≡ (state_now run next.mind).stuck → IsMidway run s line.line.statement next.mind q → c.in-Err.fault ≡ Fault) c.take-place.ensures.stage
    (subst (λ (z : Statement). (next : IsNextOf g.D.Disk run opened a b (sessions_held_by h) s z (made_at c.take-place.result.1)) → h.stuck ≡ (state_now run next.mind).stuck → IsMidway run s z next.mind c.take-place.result.1 → c.in-Err.fault ≡ Fault) said
    (subst (λ (z : Sessions). (next : IsNextOf g.D.Disk run opened a b (sessions_held_by z) s c.statement_at-statement.result.now (made_at c.take-place.result.1)) → z.stuck ≡ (state_now run next.mind).stuck → IsMidway run s c.statement_at-statement.result.now next.mind c.take-place.result.1 → c.in-Err.fault ≡ Fault) same
    (λ next stuck at. c.in-Err.ensures.told run opened tells sound next stuck at))) in
    told (next g.D.Disk run opened a b h h w before s c.requires.go.0.one line.line.statement line.named c.act-acted.ensures.disk.later) before.stuck (at_stage g.D.Disk run opened a b h h w before s c.requires.go.0.one line.line.statement line.named c.act-acted.ensures.disk.later)

pub returns-in-Ok-clause-leaves : goal.returns-in-Ok-clause-leaves
returns-in-Ok-clause-leaves g c =
    let h = c.args.self.now in
    let mid = c.take-place.new.self in
    let now = c.told.new.self in
    let s = c.args.s in
    let go = c.requires.go.0 in
    let m = c.args.store.now.now.counted in
    let n = c.act-acted.new.store.now.counted in
    let l = c.in-Ok.acted in
    let line = c.take-place.ensures.line in
    let same = c.take-place.ensures.same in
    let told = c.told.ensures in
    let said = c.statement_at-statement.ensures line.line (ap (λ ls. slice_get ls c.take-place.result.0) (c.as_slice.ensures ∙ ap (λ (z : Sessions). z.script.lines) same) ∙ line.there) in
    let txns = c.act-acted.new.txns in
    let locks = c.act-acted.new.locks in
    let over = c.in-Ok.ensures.over in
    let txns_is = txns_now h mid now m go.seats s go.one txns locks l c.moment.result same c.take-place.ensures.runners told.is told.tape told.len told.capacity told.runners in
    let leaves = subst (λ (t : TxnsHeld). LeavesAct (runner_at s h.runners.items).stage s line.line.statement t n l) (sym txns_is)
    (subst (λ (q : Stage). LeavesAct q s line.line.statement txns n l) c.take-place.ensures.stage
    (subst (λ (z : Statement). LeavesAct c.take-place.result.1 s z txns n l) said c.in-Ok.ensures.ready)) in
    record {
      stand = subst (λ (t : TxnsHeld). StandOver t c.act-acted.new.store) (sym txns_is) over.0.stand;
      going = over.0.going;
      seats = seats_told h now m n go.seats s go.one c.requires.more line.line.statement line.named l c.moment.result leaves
          (script_now h mid now m go.seats s go.one txns locks l c.moment.result same c.take-place.ensures.runners told.is told.tape told.len told.capacity told.runners)
          (stuck_now h mid now m go.seats s go.one txns locks l c.moment.result same c.take-place.ensures.runners told.is told.tape told.len told.capacity told.runners)
          (runners_now h mid now m go.seats s go.one txns locks l c.moment.result same c.take-place.ensures.runners told.is told.tape told.len told.capacity told.runners)
          (len_now h mid now m go.seats s go.one txns locks l c.moment.result same c.take-place.ensures.runners told.is told.tape told.len told.capacity told.runners)
          (capacity_now h mid now m go.seats s go.one txns locks l c.moment.result same c.take-place.ensures.runners told.is told.tape told.len told.capacity told.runners)
          (λ q some two. ap (λ (t : TxnsHeld). txn_of q t) txns_is ∙ over.0.others q some two ∙ ap (λ (z : Sessions). txn_of q z.txns) same) over.0.counted
          (subst (λ (t : TxnsHeld). LeavesAsking s h.txns t l) (sym txns_is) (subst (λ (z : Sessions). LeavesAsking s z.txns txns l) same over.1));
      one = over.0.one;
      counted = over.0.counted;
    }

pub returns-in-Ok-clause-told : goal.returns-in-Ok-clause-told
returns-in-Ok-clause-told g c = λ run opened w tells sound before.
    let h = c.args.self.now in
    let mid = c.take-place.new.self in
    let now = c.told.new.self in
    let s = c.args.s in
    let go = c.requires.go.0 in
    let m = c.args.store.now.now.counted in
    let n = c.act-acted.new.store.now.counted in
    let l = c.in-Ok.acted in
    let a = c.args.store.now in
    let b = c.act-acted.new.store in
    let line = c.take-place.ensures.line in
    let same = c.take-place.ensures.same in
    let told = c.told.ensures in
    let said = c.statement_at-statement.ensures line.line (ap (λ ls. slice_get ls c.take-place.result.0) (c.as_slice.ensures ∙ ap (λ (z : Sessions). z.script.lines) same) ∙ line.there) in
    let txns = c.act-acted.new.txns in
    let locks = c.act-acted.new.locks in
    let held : SessionsHeld = record { txns = txns; locks = locks } in
    let txns_is = txns_now h mid now m go.seats s go.one txns locks l c.moment.result same c.take-place.ensures.runners told.is told.tape told.len told.capacity told.runners in
    let leaves = subst (λ (t : TxnsHeld). LeavesAct (runner_at s h.runners.items).stage s line.line.statement t n l) (sym txns_is)
    (subst (λ (q : Stage). LeavesAct q s line.line.statement txns n l) c.take-place.ensures.stage
    (subst (λ (z : Statement). LeavesAct c.take-place.result.1 s z txns n l) said c.in-Ok.ensures.ready)) in
    let turn = subst (λ (q : Stage). (next : IsNextOf g.D.Disk run opened a b (sessions_held_by h) s line.line.statement (made_at q)) → h.stuck ≡ (state_now run next.mind).stuck → IsMidway run s line.line.statement next.mind q → TurnOfAct next held (Ok l)) c.take-place.ensures.stage
    (subst (λ (z : Statement). (next : IsNextOf g.D.Disk run opened a b (sessions_held_by h) s z (made_at c.take-place.result.1)) → h.stuck ≡ (state_now run next.mind).stuck → IsMidway run s z next.mind c.take-place.result.1 → TurnOfAct next held (Ok l)) said
    (subst (λ (z : Sessions). (next : IsNextOf g.D.Disk run opened a b (sessions_held_by z) s c.statement_at-statement.result.now (made_at c.take-place.result.1)) → z.stuck ≡ (state_now run next.mind).stuck → IsMidway run s c.statement_at-statement.result.now next.mind c.take-place.result.1 → TurnOfAct next held (Ok l)) same
    (λ next stuck at. c.in-Ok.ensures.told run opened tells sound next stuck at))) in
    let follows = next g.D.Disk run opened a b h now w before s go.one line.line.statement line.named c.act-acted.ensures.disk.later in
    let rolls = subst (λ (q : Stage). IsNextOf g.D.Disk run opened a b (sessions_held_by h) s line.line.statement (made_at q) → line.line.statement ≡ st.Rollback → IsWriting s h.txns → RollsAct (number_drawn s h.txns) a b l) c.take-place.ensures.stage
    (subst (λ (z : Statement). IsNextOf g.D.Disk run opened a b (sessions_held_by h) s z (made_at c.take-place.result.1) → z ≡ st.Rollback → IsWriting s h.txns → RollsAct (number_drawn s h.txns) a b l) said
    (subst (λ (z : Sessions). IsNextOf g.D.Disk run opened a b (sessions_held_by z) s c.statement_at-statement.result.now (made_at c.take-place.result.1) → c.statement_at-statement.result.now ≡ st.Rollback → IsWriting s z.txns → RollsAct (number_drawn s z.txns) a b l) same
    (λ next is writing. c.in-Ok.ensures.rolls run opened tells sound next is writing))) in
    let its = subst (λ (z : SessionsHeld). TurnOfAct follows z (Ok l)) (sym (held_now h mid now m go.seats s go.one txns locks l c.moment.result same c.take-place.ensures.runners told.is told.tape told.len told.capacity told.runners))
    (turn follows before.stuck (at_stage g.D.Disk run opened a b h now w before s go.one line.line.statement line.named c.act-acted.ensures.disk.later)) in
    turned g.D.Disk run opened a b h now w before s go.one line.line.statement line.named c.act-acted.ensures.disk.later m n go.seats
    (script_now h mid now m go.seats s go.one txns locks l c.moment.result same c.take-place.ensures.runners told.is told.tape told.len told.capacity told.runners)
    (stuck_now h mid now m go.seats s go.one txns locks l c.moment.result same c.take-place.ensures.runners told.is told.tape told.len told.capacity told.runners)
    (sound_in g.D.Disk run opened a h w c.legal_states_are_sound.ensures before) c.what_a_write_counts_on_stays.ensures c.snapshots_stay.ensures l now.txns leaves c.in-Ok.ensures.over.2
    (λ at_it. rolls follows (some_is line.line.statement st.Rollback (sym line.named ∙ at_it.at)) at_it.writing) its
    (runners_now h mid now m go.seats s go.one txns locks l c.moment.result same c.take-place.ensures.runners told.is told.tape told.len told.capacity told.runners)
    (tape_now h mid now m go.seats s go.one txns locks l c.moment.result same c.take-place.ensures.runners told.is told.tape told.len told.capacity told.runners ∙ ap (λ t. h.tape.items ++ entries_by s (runner_at s h.runners.items) t l) c.moment.ensures)

pub returns-in-Err-clause-adds : goal.returns-in-Err-clause-adds
returns-in-Err-clause-adds g c = let same = c.take-place.ensures.same in (ap (λ (z : Sessions). z.tape) same, ap (λ (z : Sessions). z.script) same)

pub returns-in-Ok-clause-adds : goal.returns-in-Ok-clause-adds
returns-in-Ok-clause-adds g c =
    let h = c.args.self.now in
    let mid = c.take-place.new.self in
    let now = c.told.new.self in
    let s = c.args.s in
    let go = c.requires.go.0 in
    let m = c.args.store.now.now.counted in
    let n = c.act-acted.new.store.now.counted in
    let l = c.in-Ok.acted in
    let a = c.args.store.now in
    let b = c.act-acted.new.store in
    let line = c.take-place.ensures.line in
    let same = c.take-place.ensures.same in
    let told = c.told.ensures in
    let said = c.statement_at-statement.ensures line.line (ap (λ ls. slice_get ls c.take-place.result.0) (c.as_slice.ensures ∙ ap (λ (z : Sessions). z.script.lines) same) ∙ line.there) in
    let txns = c.act-acted.new.txns in
    let locks = c.act-acted.new.locks in
    let leaves = subst (λ (q : Stage). LeavesAct q s line.line.statement txns n l) c.take-place.ensures.stage
    (subst (λ (z : Statement). LeavesAct c.take-place.result.1 s z txns n l) said c.in-Ok.ensures.ready) in
    adds_acted h now m go.seats s go.one
    (script_now h mid now m go.seats s go.one txns locks l c.moment.result same c.take-place.ensures.runners told.is told.tape told.len told.capacity told.runners)
    (stuck_now h mid now m go.seats s go.one txns locks l c.moment.result same c.take-place.ensures.runners told.is told.tape told.len told.capacity told.runners)
    (g.D.Disk.moment_of a.disk) (g.D.Disk.moment_of b.disk) c.act-acted.ensures.disk.later line.line.statement line.named txns n l leaves
    (runners_now h mid now m go.seats s go.one txns locks l c.moment.result same c.take-place.ensures.runners told.is told.tape told.len told.capacity told.runners)
    (tape_now h mid now m go.seats s go.one txns locks l c.moment.result same c.take-place.ensures.runners told.is told.tape told.len told.capacity told.runners ∙ ap (λ t. h.tape.items ++ entries_by s (runner_at s h.runners.items) t l) c.moment.ensures)

pub returns-in-Ok-clause-fewer : goal.returns-in-Ok-clause-fewer
returns-in-Ok-clause-fewer g c =
    let h = c.args.self.now in
    let mid = c.take-place.new.self in
    let now = c.told.new.self in
    let s = c.args.s in
    let go = c.requires.go.0 in
    let m = c.args.store.now.now.counted in
    let n = c.act-acted.new.store.now.counted in
    let l = c.in-Ok.acted in
    let line = c.take-place.ensures.line in
    let same = c.take-place.ensures.same in
    let told = c.told.ensures in
    let said = c.statement_at-statement.ensures line.line (ap (λ ls. slice_get ls c.take-place.result.0) (c.as_slice.ensures ∙ ap (λ (z : Sessions). z.script.lines) same) ∙ line.there) in
    let txns = c.act-acted.new.txns in
    let locks = c.act-acted.new.locks in
    let leaves = subst (λ (q : Stage). LeavesAct q s line.line.statement txns n l) c.take-place.ensures.stage
    (subst (λ (z : Statement). LeavesAct c.take-place.result.1 s z txns n l) said c.in-Ok.ensures.ready) in
    act_falls h now c.args.store.now c.act-acted.new.store m go.seats s go.one c.requires.more line.line.statement txns n
    (script_now h mid now m go.seats s go.one txns locks l c.moment.result same c.take-place.ensures.runners told.is told.tape told.len told.capacity told.runners)
    go.number c.counts_pages.ensures.1 l leaves c.in-Ok.ensures.over.2
    (runners_now h mid now m go.seats s go.one txns locks l c.moment.result same c.take-place.ensures.runners told.is told.tape told.len told.capacity told.runners)

pub returns-in-Ok-clause-disk : goal.returns-in-Ok-clause-disk
returns-in-Ok-clause-disk g c = disk_done g.O.Origin.first g.D.Disk _ _ c.in-Ok.acted _ c.in-Ok.ensures.disk

pub returns-in-Err-clause-disk : goal.returns-in-Err-clause-disk
returns-in-Err-clause-disk g c = disk_failed g.O.Origin.first g.D.Disk _ _ c.in-Err.fault c.in-Err.ensures.disk
