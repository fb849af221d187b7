use Rattle.std.proofs.Common.{◌≡◌, ◌∙◌, true, false, arith}
use Rattle.std.proofs.lemmas.Result.{err_from_is_err_and}
use Rattle.ctr_log.proofs.KeptReading.{was_read, opens_one, opens_two, writes_one, writes_two, older_refused_by, newer_refused_by, stops_older, part_older, visited_one, stops_newer, visited_two, older_told, passed_one, newer_told, damage_two}
use Rattle.ctr_log.proofs.VisitLemmas.{part_all, early_behind}
use Rattle.ctr_log.proofs.kept.read_kept.Goals as goal

-- ---- the named file

pub returns-in_err-older-clause-refused : goal.returns-in_err-older-clause-refused
returns-in_err-older-clause-refused g c told =
    let p = err_from_is_err_and c.from_residual.result c.from_residual.ensures.1 in
    rw (p.1, p.2) (older_refused_by c.args.root.now.file c.args.root.now.first (g.D.Disk.reads c.args.disk.now) c.named_file-named.result c.named_file-named.ensures c.in_err-older.field-0.0 (c.in_err-older.ensures.damage told).refused)

pub returns-in_err-older-clause-visits : goal.returns-in_err-older-clause-visits
returns-in_err-older-clause-visits g c told =
    let p = err_from_is_err_and c.from_residual.result c.from_residual.ensures.1 in
    let seen = g.V.Visitor.has_seen in
    rw (p.1, p.2) (stops_older seen c.args.root.now.file c.args.root.now.first (g.D.Disk.reads c.args.disk.now) c.named_file-named.result c.named_file-named.ensures c.args.visitor.now c.visit_file.new.visitor g.V.Visitor.refuses c.in_err-older.field-0.0 (c.in_err-older.ensures.damage told).damage (c.in_err-older.ensures.visits told))

pub returns-in_err-begins_at-clause-visits : goal.returns-in_err-begins_at-clause-visits
returns-in_err-begins_at-clause-visits g c told =
    let p = err_from_is_err_and c.from_residual-in_err-begins_at.result c.from_residual-in_err-begins_at.ensures.1 in
    let seen = g.V.Visitor.has_seen in
    rw (p.1, p.2) (part_older seen c.args.root.now.file c.args.root.now.first (g.D.Disk.reads c.args.disk.now) c.named_file-named.result c.named_file-named.ensures c.args.visitor.now c.visit_file.new.visitor (c.in_ok-older.ensures.visits told))

-- ---- it alone is kept

pub returns-in_err-log-clause-visits : goal.returns-in_err-log-clause-visits
returns-in_err-log-clause-visits g c told =
    let p = err_from_is_err_and c.from_residual-in_err-log.result c.from_residual-in_err-log.ensures.1 in
    let seen = g.V.Visitor.has_seen in
    rw (p.1, p.2) (part_older seen c.args.root.now.file c.args.root.now.first (g.D.Disk.reads c.args.disk.now) c.named_file-named.result c.named_file-named.ensures c.args.visitor.now c.visit_file.new.visitor (c.in_ok-older.ensures.visits told))

pub returns-then-not-branch-clause-found : goal.returns-then-not-branch-clause-found
returns-then-not-branch-clause-found g c told =
    let shut : c.in_ok-begins_at.field-0 ≡ false = grind arith in
    opens_one (was_read c.requires.names c.named_file-named.ensures c.next_file-other.ensures c.in_ok-older.ensures.quiet.same (c.in_ok-older.ensures.found told).1 (λ bs log. (c.in_ok-older.ensures.only bs told log).0) c.in_ok-older.ensures.always.1.place_low) (omega (arith, c.requires.names.names.first, c.in_ok-older.ensures.always.1.few)) (c.in_ok-begins_at.ensures.told told) shut c.in_ok-log.ensures

pub returns-then-not-branch-clause-goes_on : goal.returns-then-not-branch-clause-goes_on
returns-then-not-branch-clause-goes_on g c rs told holds =
    let alone : c.in_ok-begins_at.field-0 ≡ false = grind arith in
    writes_one (was_read c.requires.names c.named_file-named.ensures c.next_file-other.ensures c.in_ok-older.ensures.quiet.same (c.in_ok-older.ensures.found told).1 (λ bs log. (c.in_ok-older.ensures.only bs told log).0) c.in_ok-older.ensures.always.1.place_low) (omega (arith, c.requires.names.names.first, c.in_ok-older.ensures.always.1.few)) (c.in_ok-begins_at.ensures.told told) alone c.in_ok-log.ensures rs holds

pub returns-then-not-branch-clause-visits : goal.returns-then-not-branch-clause-visits
returns-then-not-branch-clause-visits g c told =
    let alone : c.in_ok-begins_at.field-0 ≡ false = grind arith in
    let seen = g.V.Visitor.has_seen in
    visited_one (was_read c.requires.names c.named_file-named.ensures c.next_file-other.ensures c.in_ok-older.ensures.quiet.same (c.in_ok-older.ensures.found told).1 (λ bs log. (c.in_ok-older.ensures.only bs told log).0) c.in_ok-older.ensures.always.1.place_low) (omega (arith, c.requires.names.names.first, c.in_ok-older.ensures.always.1.few)) (c.in_ok-begins_at.ensures.told told) alone c.in_ok-log.ensures seen c.args.visitor.now c.visit_file.new.visitor (c.in_ok-older.ensures.damage told).damage (c.in_ok-older.ensures.visits told)

-- ---- and the newer generation behind it

pub returns-in_err-newer-clause-refused : goal.returns-in_err-newer-clause-refused
returns-in_err-newer-clause-refused g c told =
    let p = err_from_is_err_and c.from_residual-in_err-newer.result c.from_residual-in_err-newer.ensures.1 in
    let open_ : c.in_ok-begins_at.field-0 ≡ true = grind arith in
    rw (p.1, p.2) (newer_refused_by (was_read c.requires.names c.named_file-named.ensures c.next_file-other.ensures c.in_ok-older.ensures.quiet.same (c.in_ok-older.ensures.found told).1 (λ bs log. (c.in_ok-older.ensures.only bs told log).0) c.in_ok-older.ensures.always.1.place_low) (omega (arith, c.requires.names.names.first, c.in_ok-older.ensures.always.1.few)) (c.in_ok-begins_at.ensures.told told) open_ c.in_ok-begins_at.ensures.quiet.same c.in_err-newer.field-0.0 (c.in_err-newer.ensures.damage told).refused)

pub returns-in_err-newer-clause-visits : goal.returns-in_err-newer-clause-visits
returns-in_err-newer-clause-visits g c told =
    let p = err_from_is_err_and c.from_residual-in_err-newer.result c.from_residual-in_err-newer.ensures.1 in
    let open_ : c.in_ok-begins_at.field-0 ≡ true = grind arith in
    let seen = g.V.Visitor.has_seen in
    rw (p.1, p.2) (stops_newer (was_read c.requires.names c.named_file-named.ensures c.next_file-other.ensures c.in_ok-older.ensures.quiet.same (c.in_ok-older.ensures.found told).1 (λ bs log. (c.in_ok-older.ensures.only bs told log).0) c.in_ok-older.ensures.always.1.place_low) (omega (arith, c.requires.names.names.first, c.in_ok-older.ensures.always.1.few)) (c.in_ok-begins_at.ensures.told told) open_ c.in_ok-begins_at.ensures.quiet.same seen c.args.visitor.now c.visit_file.new.visitor c.visit_file-2.new.visitor (c.in_ok-older.ensures.damage told).damage (c.in_ok-older.ensures.visits told) g.V.Visitor.refuses c.in_err-newer.field-0.0 (c.in_err-newer.ensures.visits told))

pub returns-in_err-log-2-clause-visits : goal.returns-in_err-log-2-clause-visits
returns-in_err-log-2-clause-visits g c told =
    let p = err_from_is_err_and c.from_residual-in_err-log-2.result c.from_residual-in_err-log-2.ensures.1 in
    let there : c.in_ok-begins_at.field-0 ≡ true = grind arith in
    let seen = g.V.Visitor.has_seen in
    rw (p.1, p.2) (part_all seen c.args.visitor.now c.visit_file-2.new.visitor (visited_two (was_read c.requires.names c.named_file-named.ensures c.next_file-other.ensures c.in_ok-older.ensures.quiet.same (c.in_ok-older.ensures.found told).1 (λ bs log. (c.in_ok-older.ensures.only bs told log).0) c.in_ok-older.ensures.always.1.place_low) (omega (arith, c.requires.names.names.first, c.in_ok-older.ensures.always.1.few)) (c.in_ok-begins_at.ensures.told told) there c.in_ok-begins_at.ensures.quiet.same seen c.args.visitor.now c.visit_file.new.visitor c.visit_file-2.new.visitor (c.in_ok-older.ensures.damage told).damage (c.in_ok-older.ensures.visits told) (c.in_ok-newer.ensures.visits told)))

pub returns-clause-found : goal.returns-clause-found
returns-clause-found g c told =
    let there : c.in_ok-begins_at.field-0 ≡ true = grind arith in
    opens_two (was_read c.requires.names c.named_file-named.ensures c.next_file-other.ensures c.in_ok-older.ensures.quiet.same (c.in_ok-older.ensures.found told).1 (λ bs log. (c.in_ok-older.ensures.only bs told log).0) c.in_ok-older.ensures.always.1.place_low) (omega (arith, c.requires.names.names.first, c.in_ok-older.ensures.always.1.few)) (c.in_ok-begins_at.ensures.told told) there c.in_ok-begins_at.ensures.quiet.same (c.in_ok-newer.ensures.found told).1 c.in_ok-newer.ensures.always.1.place_low
    (omega (arith, c.requires.names.names.first, c.in_ok-older.ensures.always.1.few, c.in_ok-newer.ensures.always.1.few)) c.in_ok-log-2.ensures

pub returns-clause-goes_on : goal.returns-clause-goes_on
returns-clause-goes_on g c rs told holds =
    let there : c.in_ok-begins_at.field-0 ≡ true = grind arith in
    writes_two (was_read c.requires.names c.named_file-named.ensures c.next_file-other.ensures c.in_ok-older.ensures.quiet.same (c.in_ok-older.ensures.found told).1 (λ bs log. (c.in_ok-older.ensures.only bs told log).0) c.in_ok-older.ensures.always.1.place_low) (omega (arith, c.requires.names.names.first, c.in_ok-older.ensures.always.1.few)) (c.in_ok-begins_at.ensures.told told) there c.in_ok-begins_at.ensures.quiet.same (c.in_ok-newer.ensures.found told).1 c.in_ok-newer.ensures.always.1.place_low
    (omega (arith, c.requires.names.names.first, c.in_ok-older.ensures.always.1.few, c.in_ok-newer.ensures.always.1.few)) c.in_ok-log-2.ensures rs holds

pub returns-clause-visits : goal.returns-clause-visits
returns-clause-visits g c told =
    let there : c.in_ok-begins_at.field-0 ≡ true = grind arith in
    let seen = g.V.Visitor.has_seen in
    visited_two (was_read c.requires.names c.named_file-named.ensures c.next_file-other.ensures c.in_ok-older.ensures.quiet.same (c.in_ok-older.ensures.found told).1 (λ bs log. (c.in_ok-older.ensures.only bs told log).0) c.in_ok-older.ensures.always.1.place_low) (omega (arith, c.requires.names.names.first, c.in_ok-older.ensures.always.1.few)) (c.in_ok-begins_at.ensures.told told) there c.in_ok-begins_at.ensures.quiet.same seen c.args.visitor.now c.visit_file.new.visitor c.visit_file-2.new.visitor (c.in_ok-older.ensures.damage told).damage (c.in_ok-older.ensures.visits told) (c.in_ok-newer.ensures.visits told)

-- ---- the first check that fails

pub returns-in_err-older-clause-damage : goal.returns-in_err-older-clause-damage
returns-in_err-older-clause-damage g c told =
    let p = err_from_is_err_and c.from_residual.result c.from_residual.ensures.1 in
    rw (p.1, p.2) (older_told c.args.root.now.file c.args.root.now.first (g.D.Disk.reads c.args.disk.now) c.named_file-named.result c.named_file-named.ensures c.in_err-older.field-0.0 (c.in_err-older.ensures.damage told).damage)

pub returns-then-not-branch-clause-damage : goal.returns-then-not-branch-clause-damage
returns-then-not-branch-clause-damage g c told =
    let alone : c.in_ok-begins_at.field-0 ≡ false = grind arith in
    passed_one (was_read c.requires.names c.named_file-named.ensures c.next_file-other.ensures c.in_ok-older.ensures.quiet.same (c.in_ok-older.ensures.found told).1 (λ bs log. (c.in_ok-older.ensures.only bs told log).0) c.in_ok-older.ensures.always.1.place_low) (omega (arith, c.requires.names.names.first, c.in_ok-older.ensures.always.1.few)) (c.in_ok-begins_at.ensures.told told) alone (c.in_ok-older.ensures.damage told).damage

pub returns-in_err-newer-clause-damage : goal.returns-in_err-newer-clause-damage
returns-in_err-newer-clause-damage g c told =
    let p = err_from_is_err_and c.from_residual-in_err-newer.result c.from_residual-in_err-newer.ensures.1 in
    let open_ : c.in_ok-begins_at.field-0 ≡ true = grind arith in
    rw (p.1, p.2) (newer_told (was_read c.requires.names c.named_file-named.ensures c.next_file-other.ensures c.in_ok-older.ensures.quiet.same (c.in_ok-older.ensures.found told).1 (λ bs log. (c.in_ok-older.ensures.only bs told log).0) c.in_ok-older.ensures.always.1.place_low) (omega (arith, c.requires.names.names.first, c.in_ok-older.ensures.always.1.few)) (c.in_ok-begins_at.ensures.told told) open_ c.in_ok-begins_at.ensures.quiet.same (c.in_ok-older.ensures.damage told).damage c.in_err-newer.field-0.0 (c.in_err-newer.ensures.damage told).damage)

pub returns-clause-damage : goal.returns-clause-damage
returns-clause-damage g c told =
    let there : c.in_ok-begins_at.field-0 ≡ true = grind arith in
    damage_two (was_read c.requires.names c.named_file-named.ensures c.next_file-other.ensures c.in_ok-older.ensures.quiet.same (c.in_ok-older.ensures.found told).1 (λ bs log. (c.in_ok-older.ensures.only bs told log).0) c.in_ok-older.ensures.always.1.place_low) (omega (arith, c.requires.names.names.first, c.in_ok-older.ensures.always.1.few)) (c.in_ok-begins_at.ensures.told told) there c.in_ok-begins_at.ensures.quiet.same (c.in_ok-older.ensures.damage told).damage ∙ (c.in_ok-newer.ensures.damage told).damage

-- ---- whatever the disk tells

pub returns-in_err-newer-clause-early : goal.returns-in_err-newer-clause-early
returns-in_err-newer-clause-early g c =
    let p = err_from_is_err_and c.from_residual-in_err-newer.result c.from_residual-in_err-newer.ensures.1 in
    rw (p.1, p.2) (early_behind g.V.Visitor.has_seen g.V.Visitor.refuses c.args.visitor.now c.visit_file.new.visitor c.in_ok-older.ensures.always.0 c.in_err-newer.field-0.0 c.in_err-newer.ensures.always)
