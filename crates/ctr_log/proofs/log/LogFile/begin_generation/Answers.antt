use Rattle.std.proofs.Common.{◌≡◌, ◌∙◌, [], ◌∷◌, ℕ, List, length, drop, ap, subst, sym, refl, arith, Err, length-take}
use Rattle.std.proofs.lemmas.List.{drop_all}
use Rattle.std.proofs.lemmas.Result.{err_from_is_err_and}
use Rattle.ctr_home.specs.disk_Image.{content}
use Rattle.ctr_home.specs.disk_Device.{LeavesOnly, IsSettled}
use Rattle.ctr_types.specs.Faults.{CountsFault}
use Rattle.ctr_log.specs.Logs.{Log, frames, unframed}
use Rattle.ctr_log.specs.LogFile.{log_of}
use Rattle.ctr_log.specs.Kept.{next_file, WritesBehind, KeepsPrefix}
use Rattle.ctr_log.proofs.StartLemmas.{none_waits, only_head, file_is, starts_at, starts_with, goes_on_alone, number, shut_leaves, begun_leaves, begun}
use Rattle.ctr_home.proofs.disk_Moments.{settled_by}
use Rattle.ctr_log.proofs.log.LogFile.begin_generation.Given.{Over}
use Rattle.ctr_log.proofs.log.LogFile.begin_generation.Goals.{After-write_batch-written}
use Rattle.ctr_log.proofs.log.LogFile.begin_generation.Goals as goal

pub returns-in_err-shut_first-clause-any_moment : goal.returns-in_err-shut_first-clause-any_moment
returns-in_err-shut_first-clause-any_moment g c named oldest settled writes =
    let a = c.self.inside in
    let d = g.D.Disk in
    let old = c.args.disk.now in
    let log = c.args.self.now in
    let here = file_is a c.self.invariant log c.self.view_is c.args.first.now c.requires a.buffer.ok.0 named oldest (d.reads old) writes c.next_file-file.result c.next_file-file.ensures in
    shut_leaves a c.self.invariant log c.self.view_is c.args.first.now c.requires a.buffer.ok.0 named oldest (d.reads old) writes d old c.shut_first.new.disk c.shut_first.new.disk refl c.next_file-file.result here (c.shut_first.ensures.any_moment settled)

-- at the end of the write, whether it failed or not
any_moment : (g : Over) (c : After-write_batch-written g) (named oldest : ℕ) → IsSettled g.D.Disk c.args.disk.now → WritesBehind named oldest c.args.self.now (g.D.Disk.reads c.args.disk.now)
    → LeavesOnly g.D.Disk c.args.disk.now c.write_batch-written.new.disk (KeepsPrefix (next_file c.args.self.now.file) named oldest (c.args.first.now ∷ []) (g.D.Disk.reads c.args.disk.now))
any_moment g c named oldest settled writes =
    let a = c.self.inside in
    let d = g.D.Disk in
    let old = c.args.disk.now in
    let mid = c.shut_first.new.disk in
    let log = c.args.self.now in
    let first = c.args.first.now in
    let file = c.next_file-file.result in
    let here = file_is a c.self.invariant log c.self.view_is first c.requires a.buffer.ok.0 named oldest (d.reads old) writes file c.next_file-file.ensures in
    let n = number a c.self.invariant log c.self.view_is first c.requires a.buffer.ok.0 named oldest (d.reads old) writes in
    let shut = c.in_ok-shut_first.ensures.shut n settled.told in
    let ext = starts_with a c.self.invariant log c.self.view_is first c.requires a.buffer.ok.0 named oldest (d.reads old) writes (content file (d.reads mid)) c.put_frame.new.buffer.items c.deref.result.now shut.1 c.put_frame.ensures.items (c.deref.ensures.value ∙ c.seal.ensures.items) in
    begun_leaves a c.self.invariant log c.self.view_is first c.requires a.buffer.ok.0 named oldest (d.reads old) writes d old mid c.write_batch-written.new.disk refl file here shut.0 (c.shut_first.ensures.any_moment settled)
    (c.write_batch-written.ensures.any_moment n [] (first ∷ []) (settled_by d mid settled.told (c.in_ok-shut_first.ensures.durable settled.only)) ext)

pub returns-in_err-written-clause-any_moment : goal.returns-in_err-written-clause-any_moment
returns-in_err-written-clause-any_moment g c = any_moment g (goal.at.returns-in_err-written-clause-any_moment g c).After-write_batch-written

pub returns-clause-any_moment : goal.returns-clause-any_moment
returns-clause-any_moment g c = any_moment g (goal.at.returns-clause-any_moment g c).After-write_batch-written

pub invariant_of-self : goal.invariant_of-self
invariant_of-self g c =
    let a = c.self.inside in
    let keeps = c.self.invariant in
    let new = c.truncate.new.self in
    let count = none_waits a keeps c.args.self.now c.self.view_is c.args.first.now c.requires a.buffer.ok.0 in
    let none : drop 20 new.items ≡ [] = drop_all 20 new.items (omega (arith, ap length c.truncate.ensures.items, length-take 20 c.seal.new.buffer.items)) in
    let old_len = a.buffer.ok.0 in
    let new_len = new.ok.0 in
    let sealed_len = c.seal.new.buffer.ok.0 in
    record {
      head = omega (arith, keeps.head, c.put_frame.ensures.long, c.seal.ensures.long, c.truncate.ensures.len);
      spare = omega (arith, keeps.spare, keeps.head, c.put_frame.ensures.long, c.seal.ensures.long, c.truncate.ensures.len, c.truncate.ensures.capacity, c.seal.ensures.capacity, c.put_frame.ensures.capacity);
      short = omega (arith, keeps.head, c.put_frame.ensures.long, c.seal.ensures.long, c.truncate.ensures.len);
      frames_are = none ∙ sym (ap (λ (n : ℕ). frames (unframed n (drop 20 new.items))) count);
      place = keeps.place;
      next = keeps.next;
    }

pub returns-in_err-written-clause-counts : goal.returns-in_err-written-clause-counts
returns-in_err-written-clause-counts g c =
    let p = err_from_is_err_and c.from_residual-in_err-written.result c.from_residual-in_err-written.ensures.1 in
    let a = c.self.inside in
    let long = only_head a c.self.invariant c.args.self.now c.self.view_is c.args.first.now c.requires a.buffer.ok.0 in
    let before = c.shut_first.ensures.counts in
    let wrote = c.in_err-written.ensures in
    record {
      later = omega (arith, before.later, wrote.later);
      faults = record {
        later = omega (arith, before.faults.later, wrote.cause.later);
        failed = λ is. subst (λ (n : ℕ). CountsFault n (g.D.Disk.faults_of c.write_batch-written.new.disk)) c.in_ok-shut_first.ensures.counts.faults.fine wrote.cause.failed;
        fine = λ differs. absurd (differs (p.1 ∙ ap Err p.2));
      };
      stray = wrote.stray (omega (arith, long, a.buffer.ok.0, c.deref.ensures.len, c.seal.ensures.long, c.put_frame.ensures.long, c.requires.small)) ∙ before.stray;
    }

pub returns-clause-alone : goal.returns-clause-alone
returns-clause-alone g c told =
    let a = c.self.inside in
    let d = g.D.Disk in
    let old = c.args.disk.now in
    let mid = c.shut_first.new.disk in
    let log = c.args.self.now in
    let first = c.args.first.now in
    let file = c.next_file-file.result in
    let shut = c.in_ok-shut_first.ensures.shut a.first told in
    let ext = starts_at a c.self.invariant log c.self.view_is first c.requires a.buffer.ok.0 a.first refl (content file (d.reads mid)) c.put_frame.new.buffer.items c.deref.result.now shut.1 c.put_frame.ensures.items (c.deref.ensures.value ∙ c.seal.ensures.items) in
    let long = only_head a c.self.invariant log c.self.view_is first c.requires a.buffer.ok.0 in
    goes_on_alone a c.self.invariant log c.self.view_is first c.requires a.buffer.ok.0 file (d.reads old) (d.reads mid) (d.reads c.write_batch-written.new.disk) _ shut.0.0 (c.in_ok-written.ensures.added a.first [] (first ∷ []) told ext) refl refl refl (omega (arith, long)) c.next_file-file.ensures

pub returns-clause-begun : goal.returns-clause-begun
returns-clause-begun g c named oldest told writes =
    let a = c.self.inside in
    let d = g.D.Disk in
    let old = c.args.disk.now in
    let mid = c.shut_first.new.disk in
    let log = c.args.self.now in
    let first = c.args.first.now in
    let file = c.next_file-file.result in
    let here = file_is a c.self.invariant log c.self.view_is first c.requires a.buffer.ok.0 named oldest (d.reads old) writes file c.next_file-file.ensures in
    let n = number a c.self.invariant log c.self.view_is first c.requires a.buffer.ok.0 named oldest (d.reads old) writes in
    let shut = c.in_ok-shut_first.ensures.shut n told in
    let ext = starts_with a c.self.invariant log c.self.view_is first c.requires a.buffer.ok.0 named oldest (d.reads old) writes (content file (d.reads mid)) c.put_frame.new.buffer.items c.deref.result.now shut.1 c.put_frame.ensures.items (c.deref.ensures.value ∙ c.seal.ensures.items) in
    let long = only_head a c.self.invariant log c.self.view_is first c.requires a.buffer.ok.0 in
    begun a c.self.invariant log c.self.view_is first c.requires a.buffer.ok.0 named oldest (d.reads old) writes d old mid mid refl file here shut.0 (d.reads c.write_batch-written.new.disk) _
    (c.in_ok-written.ensures.added n [] (first ∷ []) told ext) refl refl refl refl (omega (arith, long))

pub invariant_of-self-2 : goal.invariant_of-self-2
invariant_of-self-2 g c =
    let a = c.self.inside in
    let keeps = c.self.invariant in
    let new = c.truncate.new.self in
    let count = none_waits a keeps c.args.self.now c.self.view_is c.args.first.now c.requires a.buffer.ok.0 in
    let none : drop 20 new.items ≡ [] = drop_all 20 new.items (omega (arith, ap length c.truncate.ensures.items, length-take 20 c.seal.new.buffer.items)) in
    let old_len = a.buffer.ok.0 in
    let new_len = new.ok.0 in
    let sealed_len = c.seal.new.buffer.ok.0 in
    let number = c.requires.number in
    let fits = c.in_ok-written.ensures.fits in
    record {
      head = omega (arith, keeps.head, c.put_frame.ensures.long, c.seal.ensures.long, c.truncate.ensures.len);
      spare = omega (arith, keeps.spare, keeps.head, c.put_frame.ensures.long, c.seal.ensures.long, c.truncate.ensures.len, c.truncate.ensures.capacity, c.seal.ensures.capacity, c.put_frame.ensures.capacity);
      short = omega (arith, keeps.head, c.put_frame.ensures.long, c.seal.ensures.long, c.truncate.ensures.len);
      frames_are = none ∙ sym (ap (λ (n : ℕ). frames (unframed n (drop 20 new.items))) count);
      place = omega (arith, fits, c.deref.ensures.len, c.len-len.ensures);
      next = omega (arith, number, count, ap (λ (v : Log). v.first) c.self.view_is);
    }

pub returns-clause-writer : goal.returns-clause-writer
returns-clause-writer g c =
    let a = c.self.inside in
    let new = c.truncate.new.self in
    let count = none_waits a c.self.invariant c.args.self.now c.self.view_is c.args.first.now c.requires a.buffer.ok.0 in
    let first = ap (λ (v : Log). v.first) c.self.view_is in
    let empty = ap (λ (l : List (List ℕ)). length l) c.requires.empty in
    record {
      older = refl;
      start = omega (arith, first, empty);
      next = omega (arith, first, empty);
      empty = ap (λ (n : ℕ). unframed n (drop 20 new.items)) count;
    }

pub returns-clause-keeps : goal.returns-clause-keeps
returns-clause-keeps g c =
    let a = c.self.inside in
    let long = only_head a c.self.invariant c.args.self.now c.self.view_is c.args.first.now c.requires a.buffer.ok.0 in
    let old_len = a.buffer.ok.0 in
    record {
      room = omega (arith, ap (λ (v : Log). v.room) c.self.view_is, c.self.invariant.spare, c.put_frame.ensures.long, c.seal.ensures.long, c.truncate.ensures.len, c.truncate.ensures.capacity, c.seal.ensures.capacity, c.put_frame.ensures.capacity, long);
      file = c.next_file-file.ensures ∙ ap (λ (v : Log). next_file v.file) c.self.view_is;
      place = omega (arith, long, c.len-len.ensures, c.seal.ensures.long, c.put_frame.ensures.long);
      still = tt;
    }

pub returns-in_err-written-clause-keeps : goal.returns-in_err-written-clause-keeps
returns-in_err-written-clause-keeps g c =
    let a = c.self.inside in
    let new = c.truncate.new.self in
    let p = err_from_is_err_and c.from_residual-in_err-written.result c.from_residual-in_err-written.ensures.1 in
    let long = only_head a c.self.invariant c.args.self.now c.self.view_is c.args.first.now c.requires a.buffer.ok.0 in
    let old_len = a.buffer.ok.0 in
    let count = none_waits a c.self.invariant c.args.self.now c.self.view_is c.args.first.now c.requires a.buffer.ok.0 in
    let now : Log = log_of (record a { buffer = new }) in
    let none : now.buffered ≡ (log_of a).buffered = ap (λ (n : ℕ). unframed n (drop 20 new.items)) count ∙ sym (ap (λ (n : ℕ). unframed n (drop 20 a.buffer.items)) count) in
    let same : now ≡ record (log_of a) { room = now.room } = ap (λ (l : List (List ℕ)). record (log_of a) { buffered = l; room = now.room }) none in
    rw (p.1)
    (record {
      room = omega (arith, ap (λ (v : Log). v.room) c.self.view_is, c.self.invariant.spare, c.put_frame.ensures.long, c.seal.ensures.long, c.truncate.ensures.len, c.truncate.ensures.capacity, c.seal.ensures.capacity, c.put_frame.ensures.capacity, long);
      file = tt;
      place = tt;
      still = subst (λ (v : Log). now ≡ record v { room = now.room }) c.self.view_is same;
    })
