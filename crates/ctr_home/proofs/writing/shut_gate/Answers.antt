use Rattle.std.proofs.Common.{◌≡◌, ◌∙◌, ◌∷◌, [], ◌<◌, ℕ, length, get_or, ap, subst}
use Rattle.ctr_disk.specs.types_File.{File}
use Rattle.ctr_disk.specs.Image.{Image, content, TornImage, write_of}
use Rattle.ctr_home.specs.Blocks.{file_of, home_place}
use Rattle.ctr_home.specs.Writing.{KeepsHome, IsShut}
use Rattle.ctr_disk.proofs.Moments.{on_ok, torn_from, read_then, still_only}
use Rattle.ctr_home.proofs.WriteLemmas.{shut_by_torn, shut_by_write, keeps_same, gate_open}
use Rattle.ctr_home.proofs.writing.shut_gate.Goals as goal

pub returns-clause-any_moment : goal.returns-clause-any_moment
returns-clause-any_moment g c settled fits =
    let d = g.D.Disk in
    let b = c.args.block in
    let home = c.args.home in
    let old = d.reads c.args.disk.now in
    let mid = c.is_shut.new.disk in
    let quiet = c.is_shut.ensures.quiet in
    let bytes = content (file_of b) old in
    let open_ = gate_open c.in_ok-is_shut.field-0 (get_or bytes (home_place b home) 0) (home_place b home < length bytes) c.if-branch.false (c.in_ok-is_shut.ensures.told settled.told).1 in
    read_then d c.args.disk.now mid c.write_through.new.disk (KeepsHome b home old) quiet (λ i is. keeps_same b home old i (settled.only i is))
    (torn_from d mid c.write_through.new.disk c.file.result c.at.result 1 (KeepsHome b home old)
    (still_only d c.args.disk.now mid quiet settled.only) c.write_through.ensures.any_moment (λ i t.
    let there : TornImage (file_of b) (home_place b home) 1 old i =
    subst (λ (f : File). TornImage f (home_place b home) 1 old i) c.file.ensures (subst (λ (k : ℕ). TornImage c.file.result k 1 old i) c.at.ensures.place (subst (λ (o : Image). TornImage c.file.result c.at.result 1 o i) quiet.same t)) in
    shut_by_torn b home old fits open_ i there))

pub returns-clause-shut : goal.returns-clause-shut
returns-clause-shut g c told fits =
    let d = g.D.Disk in
    let b = c.args.block in
    let home = c.args.home in
    let old = d.reads c.args.disk.now in
    let new = d.reads c.write_through.new.disk in
    let quiet = c.is_shut.ensures.quiet in
    let bytes = content (file_of b) old in
    let open_ = gate_open c.in_ok-is_shut.field-0 (get_or bytes (home_place b home) 0) (home_place b home < length bytes) c.if-branch.false (c.in_ok-is_shut.ensures.told told).1 in
    on_ok c.write_through.result _ (KeepsHome b home old new × IsShut b home (content (file_of b) new)) (λ (is : new ≡ write_of c.file.result c.at.result (0 ∷ []) (d.reads c.is_shut.new.disk)).
    shut_by_write b home old fits open_ new (
    is ∙ ap (λ (o : Image). write_of c.file.result c.at.result (0 ∷ []) o) quiet.same ∙ ap (λ (k : ℕ). write_of c.file.result k (0 ∷ []) old) c.at.ensures.place
    ∙ ap (λ (f : File). write_of f (home_place b home) (0 ∷ []) old) c.file.ensures)) (c.write_through.ensures.told told)
