use Rattle.std.proofs.Common.{◌≡◌, ◌≢◌, ◌∙◌, ◌+◌, ◌++◌, [], ◌∷◌, ℕ, List, length, drop, get_or, ap, subst, sym, refl, arith, Ok}
use Rattle.std.specs.Prelude.{IsTrue, Some}
use Rattle.std.proofs.lemmas.Result.{err_from_is_err_and}
use Rattle.ctr_home.specs.disk_Image.{content}
use Rattle.ctr_home.specs.disk_StoreFault.TheVariants.{Fault}
use Rattle.ctr_log.specs.declared.reading.ReadError.TheVariants.{Store}
use Rattle.ctr_home.proofs.disk_Moments.{reads_joined}
use Rattle.ctr_log.specs.Reading.{HasSome, HasFrames, RefusesOrFails}
use Rattle.ctr_log.specs.declared.batches.Batch.{Batch}
use Rattle.ctr_log.specs.Batch.{FindsBatch, OpensBatch, IsRead, IsWholeBatch}
use Rattle.ctr_log.specs.Visits.{frame_visits, RefusesOne}
use Rattle.ctr_home.specs.Checks.{check_of, judged}
use Rattle.ctr_log.specs.LogChecks.{log_checks, gate_checks, file_damage, sound_batch_visits, sound_visits, IsThisDamage}
use Rattle.ctr_log.proofs.ReadLemmas.{first_gate}
use Rattle.ctr_log.proofs.KeptReading.{log_read}
use Rattle.ctr_log.proofs.DamageLaws.{judged-front, this_more}
use Rattle.ctr_log.specs.declared.visitor.VisitError.TheVariants.{Read}
use Rattle.ctr_log.proofs.VisitLemmas.{given_none, given_same, given_both, given_stops, stops_more, refused_more, refused_behind, part_given, ok_isnt}
use Rattle.ctr_log.proofs.BatchLemmas.{so_far_start, so_far_more, so_far_all, so_far_end, so_far_only, so_far_passes, so_far_tells, so_far_rest, so_far_opens, gate_none, fails_more, no_batch, few_more, low_more, place_low, next_low}
use Rattle.ctr_log.proofs.batches.visit_file.Given.{Over}
use Rattle.ctr_log.proofs.batches.visit_file.Goals.{In_ok-batch, In_err-batch}
use Rattle.ctr_log.proofs.batches.visit_file.Goals as goal

-- what a read of the loop's file finds, it finds in the file as the call found it
as_at_first : (g : Over) (c : In_ok-batch g) (P : List ℕ → Type 0) → P (content c.args.file (g.D.Disk.reads c.loop-gate.disk)) → P (content c.args.file (g.D.Disk.reads c.args.disk.now))
as_at_first g c P = subst P (ap (content c.args.file) c.loop-gate.invariant.quiet.same)

-- the size that the loop knows is that of the file as it is read
sized : (g : Over) (c : In_ok-batch g) → IsTrue g.D.Disk.tells → c.in_ok-size.size ≡ length (content c.args.file (g.D.Disk.reads c.loop-gate.disk))
sized g c told = c.loop-gate.invariant.size told ∙ sym (ap (λ i. length (content c.args.file i)) c.loop-gate.invariant.quiet.same)

-- a batch, or none, as it stands in the file
finds : (g : Over) (c : In_ok-batch g) → IsTrue g.D.Disk.tells → FindsBatch c.loop-gate.next (drop c.loop-gate.gate (content c.args.file (g.D.Disk.reads c.args.disk.now))) c.in_ok-batch.field-0
finds g c told =
    as_at_first g c (λ l. FindsBatch c.loop-gate.next (drop c.loop-gate.gate l) c.in_ok-batch.field-0) (c.in_ok-batch.ensures.found told (sized g c told))

-- and no check of it failed
passes : (g : Over) (c : In_ok-batch g) → IsTrue g.D.Disk.tells → judged c.args.file (gate_checks c.loop-gate.next c.loop-gate.gate (drop c.loop-gate.gate (content c.args.file (g.D.Disk.reads c.args.disk.now)))) ≡ Ok tt
passes g c told =
    as_at_first g c (λ l. judged c.args.file (gate_checks c.loop-gate.next c.loop-gate.gate (drop c.loop-gate.gate l)) ≡ Ok tt) (c.in_ok-batch.ensures.damage told (sized g c told))

-- no gate is open where no batch was found
shut : (g : Over) (c : In_ok-batch g) → IsTrue g.D.Disk.tells → ((b : Batch) → c.in_ok-batch.field-0 ≡ Some b → ⊥) → get_or (drop c.loop-gate.gate (content c.args.file (g.D.Disk.reads c.args.disk.now))) 0 0 ≢ 1
shut g c told none =
    no_batch c.loop-gate.next (drop c.loop-gate.gate (content c.args.file (g.D.Disk.reads c.args.disk.now))) c.in_ok-batch.field-0 none (finds g c told)

-- the check of a batch that failed is one of the file as the call found it
fails : (g : Over) (c : In_err-batch g) → IsTrue g.D.Disk.tells → IsThisDamage (judged c.args.file (gate_checks c.loop-gate.next c.loop-gate.gate (drop c.loop-gate.gate (content c.args.file (g.D.Disk.reads c.args.disk.now))))) c.in_err-batch.field-0.0
fails g c told =
    let same = ap (content c.args.file) c.loop-gate.invariant.quiet.same in
    subst (λ (l : List ℕ). IsThisDamage (judged c.args.file (gate_checks c.loop-gate.next c.loop-gate.gate (drop c.loop-gate.gate l))) c.in_err-batch.field-0.0) same (c.in_err-batch.ensures.damage told (c.loop-gate.invariant.size told ∙ sym (ap length same)))

pub returns-in_err-size-clause-visits : goal.returns-in_err-size-clause-visits
returns-in_err-size-clause-visits g c told =
    let p = err_from_is_err_and c.from_residual.result c.from_residual.ensures.1 in
    let bytes = content c.args.file (g.D.Disk.reads c.args.disk.now) in
    let seen = g.V.Visitor.has_seen in
    let gate = check_of 0 1 (get_or bytes 0 0) in
    let sound = sound_visits c.args.file c.args.first bytes in
    rw (p.1, p.2)
    (stops_more seen g.V.Visitor.refuses c.args.visitor.now c.args.visitor.now [] sound sound refl (judged c.args.file (gate ∷ [])) (gate_none c.args.file c.args.first bytes) (Read c.in_err-size.field-0.0) (c.in_err-size.ensures.damage told)
    (given_stops seen g.V.Visitor.refuses c.args.visitor.now c.args.visitor.now [] (given_none seen c.args.visitor.now) c.in_err-size.field-0.0))

pub returns-in_err-batch-clause-visits : goal.returns-in_err-batch-clause-visits
returns-in_err-batch-clause-visits g c told =
    let q = err_from_is_err_and c.from_residual-in_err-batch.result c.from_residual-in_err-batch.ensures.1 in
    let v = g.V.Visitor in
    let read = content c.args.file (g.D.Disk.reads c.args.disk.now) in
    let s = (c.loop-gate.invariant.told told).1 in
    let front = (c.loop-gate.invariant.told told).0 in
    rw (q.1, q.2)
    (stops_more v.has_seen v.refuses c.args.visitor.now c.loop-gate.visitor front (sound_batch_visits c.args.file c.loop-gate.next c.loop-gate.gate s.more (drop c.loop-gate.gate read)) (sound_visits c.args.file c.args.first read) s.visits_are
    (judged c.args.file (gate_checks c.loop-gate.next c.loop-gate.gate (drop c.loop-gate.gate read))) (so_far_rest c.args.file c.args.first read c.loop-gate.gate c.loop-gate.next front s) (Read c.in_err-batch.field-0.0)
    (fails g (goal.at.returns-in_err-batch-clause-visits g c).In_err-batch told) (given_stops v.has_seen v.refuses c.args.visitor.now c.loop-gate.visitor front (c.loop-gate.invariant.told told).2 c.in_err-batch.field-0.0))

pub returns-in_default-clause-visits : goal.returns-in_default-clause-visits
returns-in_default-clause-visits g c told =
    let known = c.loop-gate.invariant.told told in
    given_same g.V.Visitor.has_seen c.args.visitor.now c.loop-gate.visitor (so_far_all c.args.file c.args.first (content c.args.file (g.D.Disk.reads c.args.disk.now)) c.loop-gate.gate c.loop-gate.next known.0 known.1
    (shut g (goal.at.returns-in_default-clause-visits g c).In_ok-batch told (λ b is. c.in_default.not-Some b is))) known.2

pub returns-in_default-clause-found : goal.returns-in_default-clause-found
returns-in_default-clause-found g c told =
    let known = (c.loop-gate.invariant.told told).1 in
    so_far_end c.args.file c.args.first (content c.args.file (g.D.Disk.reads c.args.disk.now)) c.loop-gate.gate c.loop-gate.next (c.loop-gate.invariant.told told).0 known
    (shut g (goal.at.returns-in_default-clause-found g c).In_ok-batch told (λ b is. c.in_default.not-Some b is)) (c.loop-gate.invariant.opened told)

pub returns-in_default-clause-only : goal.returns-in_default-clause-only
returns-in_default-clause-only g c bs told log =
    let known = (c.loop-gate.invariant.told told).1 in
    let all = content c.args.file (g.D.Disk.reads c.args.disk.now) in (
      so_far_only c.args.file c.args.first all c.loop-gate.gate c.loop-gate.next (c.loop-gate.invariant.told told).0 known
          (shut g (goal.at.returns-in_default-clause-only g c).In_ok-batch told (λ b is. c.in_default.not-Some b is)) bs log,
      log_read c.args.first bs all log (omega (arith, c.loop-gate.invariant.size told)) c.requires.low,
    )

pub returns-in-Err-clause-only : goal.returns-in-Err-clause-only
returns-in-Err-clause-only g c bs told log =
    (tt, log_read c.args.first bs (content c.args.file (g.D.Disk.reads c.args.disk.now)) log (omega (arith, c.loop-gate.invariant.size told)) c.requires.low)

pub returns-in_err-size-clause-only : goal.returns-in_err-size-clause-only
returns-in_err-size-clause-only g c bs told log = let p = err_from_is_err_and c.from_residual.result c.from_residual.ensures.1 in rw (p.1, p.2) (tt, tt)

pub returns-in_err-batch-clause-only : goal.returns-in_err-batch-clause-only
returns-in_err-batch-clause-only g c bs told log = let p = err_from_is_err_and c.from_residual-in_err-batch.result c.from_residual-in_err-batch.ensures.1 in rw (p.1, p.2) (tt, tt)

pub returns-in_err-size-clause-damage : goal.returns-in_err-size-clause-damage
returns-in_err-size-clause-damage g c told =
    let is = err_from_is_err_and c.from_residual.result c.from_residual.ensures.1 in
    let read = content c.args.file (g.D.Disk.reads c.args.disk.now) in
    let first = check_of 0 1 (get_or read 0 0) ∷ [] in
    let why = c.in_err-size.field-0.0 in
    rw (is.1, is.2)
    (record {
      refused = fails_more c.args.file (get_or read 0 0 ≡ 1) (HasSome c.args.first read) (λ h. first_gate c.args.first h.0 read h.1) why (c.in_err-size.ensures.refused told);
      damage = this_more (judged c.args.file first) (file_damage c.args.file c.args.first read) (λ e is. judged-front c.args.file first (log_checks c.args.first 0 (length read) read) e is) why (c.in_err-size.ensures.damage told);
    })

pub returns-in_err-batch-clause-damage : goal.returns-in_err-batch-clause-damage
returns-in_err-batch-clause-damage g c told =
    let is = err_from_is_err_and c.from_residual-in_err-batch.result c.from_residual-in_err-batch.ensures.1 in
    let read = content c.args.file (g.D.Disk.reads c.args.disk.now) in
    let same = ap (content c.args.file) c.loop-gate.invariant.quiet.same in
    let sized = c.loop-gate.invariant.size told ∙ sym (ap length same) in
    let why = c.in_err-batch.field-0.0 in
    let known = c.loop-gate.invariant.told told in
    rw (is.1, is.2)
    (record {
      refused = fails_more c.args.file (OpensBatch c.loop-gate.next (drop c.loop-gate.gate read)) (HasSome c.args.first read) (so_far_opens c.args.file c.args.first read c.loop-gate.gate c.loop-gate.next known.0 known.1) why
          (subst (λ (l : List ℕ). RefusesOrFails c.args.file (OpensBatch c.loop-gate.next (drop c.loop-gate.gate l)) why) same (c.in_err-batch.ensures.refused told sized));
      damage = so_far_tells c.args.file c.args.first read c.loop-gate.gate c.loop-gate.next known.0 known.1 why (fails g (goal.at.returns-in_err-batch-clause-damage g c).In_err-batch told);
    })

pub returns-in_default-clause-damage : goal.returns-in_default-clause-damage
returns-in_default-clause-damage g c told =
    let known = (c.loop-gate.invariant.told told).1 in
    record {
      refused = tt;
      damage = so_far_passes c.args.file c.args.first (content c.args.file (g.D.Disk.reads c.args.disk.now)) c.loop-gate.gate c.loop-gate.next (c.loop-gate.invariant.told told).0 known
          (shut g (goal.at.returns-in_default-clause-damage g c).In_ok-batch told (λ b is. c.in_default.not-Some b is));
    }

pub returns-in-Err-clause-visits : goal.returns-in-Err-clause-visits
returns-in-Err-clause-visits g c told =
    let at = (goal.at.returns-in-Err-clause-visits g c).In_ok-batch in
    let read = content c.args.file (g.D.Disk.reads c.args.disk.now) in
    let gate = c.loop-gate.gate in
    let next = c.loop-gate.next in
    let t = c.loop-gate.invariant.told told in
    let b = c.in-Some.batch in
    let whole : IsRead next (drop gate read) b = subst (FindsBatch next (drop gate read)) c.in-Some.is (finds g at told) in
    let more = so_far_more c.args.file c.args.first read gate next t.0 t.1 b whole (omega (arith, c.loop-gate.invariant.size told)) (omega arith) (passes g at told) (gate + (21 + length b.frames.items)) (next + b.count) refl refl in
    let v = g.V.Visitor in
    let here_are = frame_visits c.args.file next (gate + 21) b.count b.frames.items in
    let one : RefusesOne v.has_seen v.refuses c.loop-gate.visitor here_are c.in-Err.error = subst (λ (l : List ℕ). RefusesOne v.has_seen v.refuses c.loop-gate.visitor (frame_visits c.args.file next (gate + 21) b.count l) c.in-Err.error) c.deref.ensures.value c.in-Err.ensures in
    refused_more v.has_seen v.refuses c.args.visitor.now (t.0 ++ here_are) _ (sound_visits c.args.file c.args.first read) c.in-Err.error more.visits_are
    (refused_behind v.has_seen v.refuses c.args.visitor.now c.loop-gate.visitor t.0 here_are (t.0 ++ here_are) c.in-Err.error t.2 refl one)

pub returns-in-Err-clause-always : goal.returns-in-Err-clause-always
returns-in-Err-clause-always g c =
    let some = c.loop-gate.invariant.some in
    let here = frame_visits c.args.file c.loop-gate.next (c.loop-gate.gate + 21) c.in-Some.batch.count c.deref.result.now in (
      some.0 ++ here,
      refused_behind g.V.Visitor.has_seen g.V.Visitor.refuses c.args.visitor.now c.loop-gate.visitor some.0 here (some.0 ++ here) c.in-Err.error some.1 refl c.in-Err.ensures,
    )

pub returns-clause-visits : goal.returns-clause-visits
returns-clause-visits g c told =
    let bytes = content c.args.file (g.D.Disk.reads c.args.disk.now) in
    let t = c.loop-gate.invariant.told told in
    part_given g.V.Visitor.has_seen c.args.visitor.now c.loop-gate.visitor {all = sound_visits c.args.file c.args.first bytes} t.0 _ t.2 t.1.visits_are

pub loop-gate-preserved : goal.loop-gate-preserved
loop-gate-preserved g c =
    let at = (goal.at.loop-gate-preserved g c).In_ok-batch in
    let seen = g.V.Visitor.has_seen in
    let before = c.loop-gate.invariant in
    let gate = c.loop-gate.gate in
    let next = c.loop-gate.next in
    let b = c.in-Some.batch in
    let small = subst IsWholeBatch c.in-Some.is c.in_ok-batch.ensures.small in
    let long : c.len.result ≡ length b.frames.items = c.len.ensures ∙ sym c.deref.ensures.len ∙ ap length c.deref.ensures.value in
    record {
      quiet = reads_joined g.D.Disk c.args.disk.now c.loop-gate.disk c.read_batch.new.disk before.quiet c.read_batch.ensures.quiet;
      faults = c.in_ok-batch.ensures.counts.faults.fine (ok_isnt c.in_ok-batch.field-0 (Store Fault)) ∙ before.faults;
      strays = c.in_ok-batch.ensures.counts.stray ∙ before.strays;
      few = few_more c.args.first gate next c.len.result b.count b.frames.items long small.1 before.few;
      low = low_more gate c.len.result (length b.frames.items) long small.0 c.loop-gate-test.true;
      some = let here = frame_visits c.args.file next (gate + 21) b.count c.deref.result.now in (
        before.some.0 ++ here,
        given_both seen c.args.visitor.now c.loop-gate.visitor c.give.new.visitor before.some.0 here before.some.1 c.in_default-give.ensures,
      );
      size = before.size;
      opened = before.opened;
      told = λ told.
          let read = content c.args.file (g.D.Disk.reads c.args.disk.now) in
          let t = before.told told in
          let whole : IsRead next (drop gate read) b = subst (FindsBatch next (drop gate read)) c.in-Some.is (finds g at told) in
          let more = frame_visits c.args.file next (gate + 21) b.count b.frames.items in (
            t.0 ++ more,
            so_far_more c.args.file c.args.first read gate next t.0 t.1 b whole (omega (arith, before.size told)) (omega arith) (passes g at told) (gate + (21 + c.len.result)) (next + b.count) (ap (λ (n : ℕ). gate + (21 + n)) long) refl,
            given_both seen c.args.visitor.now c.loop-gate.visitor c.give.new.visitor t.0 more t.2 (given_same seen c.loop-gate.visitor c.give.new.visitor (ap (λ (l : List ℕ). frame_visits c.args.file next (gate + 21) b.count l) (sym c.deref.ensures.value)) c.in_default-give.ensures),
          );
    }

pub loop-gate-init : goal.loop-gate-init
loop-gate-init g c =
    let bytes = content c.args.file (g.D.Disk.reads c.args.disk.now) in
    record {
      quiet = c.open_len.ensures.quiet;
      faults = c.in_ok-size.ensures.counts.faults.fine (ok_isnt c.in_ok-size.size (Store Fault));
      strays = c.in_ok-size.ensures.counts.stray;
      few = omega arith;
      low = omega arith;
      some = ([], given_none g.V.Visitor.has_seen c.args.visitor.now);
      size = λ told. (c.in_ok-size.ensures.told told).0;
      opened = λ told. (c.in_ok-size.ensures.told told).1;
      told = λ told. ([], so_far_start c.args.file c.args.first bytes (c.in_ok-size.ensures.told told).1, given_none g.V.Visitor.has_seen c.args.visitor.now);
    }

pub give-requires-clause-counted : goal.give-requires-clause-counted
give-requires-clause-counted g c =
    let b = c.in-Some.batch in
    let small = subst IsWholeBatch c.in-Some.is c.in_ok-batch.ensures.small in
    subst (λ (l : List ℕ). HasFrames l b.count) (sym c.deref.ensures.value) small.1

pub give-requires-clause-place : goal.give-requires-clause-place
give-requires-clause-place g c =
    let small = subst IsWholeBatch c.in-Some.is c.in_ok-batch.ensures.small in
    place_low c.loop-gate.gate (length c.deref.result.now) (length c.in-Some.batch.frames.items) (ap length c.deref.ensures.value) small.0 c.loop-gate-test.true

pub give-requires-clause-number : goal.give-requires-clause-number
give-requires-clause-number g c =
    let small = subst IsWholeBatch c.in-Some.is c.in_ok-batch.ensures.small in
    next_low c.args.first c.loop-gate.gate c.loop-gate.next c.in-Some.batch.count c.in-Some.batch.frames.items c.requires.low c.loop-gate-test.true small.0 small.1 c.loop-gate.invariant.few

pub overflow_add-next : goal.overflow_add-next
overflow_add-next g c =
    let small = subst IsWholeBatch c.in-Some.is c.in_ok-batch.ensures.small in
    record { fits = next_low c.args.first c.loop-gate.gate c.loop-gate.next c.in-Some.batch.count c.in-Some.batch.frames.items c.requires.low c.loop-gate-test.true small.0 small.1 c.loop-gate.invariant.few }
