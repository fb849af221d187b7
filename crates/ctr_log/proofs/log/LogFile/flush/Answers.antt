use Rattle.std.proofs.Common.{◌≡◌, inl, inr, ◌∙◌, ◌+◌, ◌-◌, ◌^◌, ◌≤◌, ◌<◌, [], ◌∷◌, ℕ, List, length, take, drop, vec_len, vec_capacity, ap, subst, sym, refl, arith, length-drop, length-take}
use Rattle.std.proofs.lemmas.List.{drop_all}
use Rattle.std.proofs.lemmas.Result.{err_from_is_err_and}
use Rattle.ctr_home.specs.disk_Image.{content, OtherFilesStay}
use Rattle.ctr_home.specs.disk_Device.{LeavesOnly, IsSettled}
use Rattle.ctr_log.specs.Logs.{Batches, Log, frames, unframed, buffer_size, log_end, end_behind, GoesOn, Extends, IsFlushing, with_batch}
use Rattle.ctr_log.specs.Kept.{WritesBehind, KeepsPrefix}
use Rattle.ctr_log.specs.LogFile.{log_of}
use Rattle.ctr_log.proofs.LogLemmas.{length-unframed}
use Rattle.ctr_log.proofs.FlushLemmas.{reopened, extends, goes_on, leaves, wrote_behind, none_leaves, all_leaves, all_goes_on}
use Rattle.ctr_home.proofs.disk_Moments.{starts}
use Rattle.ctr_log.proofs.log.LogFile.flush.Given.{Over}
use Rattle.ctr_log.proofs.log.LogFile.flush.Goals.{After-write_batch-written}
use Rattle.ctr_log.proofs.log.LogFile.flush.Goals as goal

-- the gate behind records, of which there are some
end_some : (place : ℕ) (rs : List (List ℕ)) → 0 < length rs → end_behind place rs ≡ place + 21 + length (frames rs)
end_some place [] some = absurd (omega (arith, some))
end_some place (r ∷ rs) some = refl

pub invariant_of-self : goal.invariant_of-self
invariant_of-self g c =
    let a = c.self.inside in
    let new = c.truncate.new.self in
    let held = drop 20 a.buffer.items in
    let keeps = c.self.invariant in
    let old_len = a.buffer.ok.0 in
    let long : c.len-len.result ≡ 20 + length held = omega (arith, length-drop 20 a.buffer.items) in
    let frames_in : drop 20 new.items ≡ held =
    ap (λ (l : List ℕ). drop 20 l) (c.truncate.ensures.items ∙ ap (λ (l : List ℕ). take c.len-len.result l) c.seal.ensures.items) ∙ reopened a.first a.count c.len-len.result held long in
    record {
      head = omega arith;
      spare = omega arith;
      short = omega arith;
      frames_are = frames_in ∙ keeps.frames_are ∙ ap (λ (l : List ℕ). frames (unframed a.count l)) (sym frames_in);
      place = keeps.place;
      next = keeps.next;
    }

pub invariant_of-self-2 : goal.invariant_of-self-2
invariant_of-self-2 g c =
    let a = c.self.inside in
    let keeps = c.self.invariant in
    let last = c.truncate-2.new.self in
    let mid = c.truncate.new.self in
    let fits = c.in_ok-written.ensures.fits in
    let body_len = c.deref.ensures.len in
    let none : drop 20 last.items ≡ [] = drop_all 20 last.items (omega (arith, ap length c.truncate-2.ensures.items, length-take 20 mid.items)) in
    record {
      head = omega arith;
      spare = omega arith;
      short = omega arith;
      frames_are = none;
      place = omega arith;
      next = omega arith;
    }

pub returns-clause-flushed : goal.returns-clause-flushed
returns-clause-flushed g c first bs told goes =
    let d = g.D.Disk in
    let a = c.self.inside in
    let old = d.reads c.args.disk.now in
    let new = d.reads c.write_batch-written.new.disk in
    let held = drop 20 a.buffer.items in
    let rs = unframed a.count held in
    let keeps = c.self.invariant in
    let body = c.deref.ensures.value ∙ c.seal.ensures.items in
    let goes_a = subst (λ (v : Log). GoesOn first bs v old) (sym c.self.view_is) goes in
    let ext = extends a keeps (omega arith) (omega arith) a.buffer.ok.0 first bs old goes_a in
    let after = c.in_ok-written.ensures.added first bs rs told (subst (λ (b : List ℕ). Extends first bs rs a.place b (content a.file old)) (sym body) ext) in
    let log : Log = log_of (record { file = a.file; older = a.older; start = a.start; place = a.place + (1 + c.len-len.result); first = a.first + a.count; count = 0; buffer = c.truncate-2.new.self }) in
    let Q : Log → Type 0 = λ v. OtherFilesStay v.file old new × GoesOn first (with_batch bs v.buffered) log new in
    subst Q c.self.view_is (goes_on a keeps (omega arith) (omega arith) a.buffer.ok.0 first bs old new log goes_a after refl refl (omega (arith, c.len-len.ensures)) refl)

pub returns-clause-emptied : goal.returns-clause-emptied
returns-clause-emptied g c =
    let a = c.self.inside in
    let keeps = c.self.invariant in
    let last = c.truncate-2.new.self in
    let count_is : a.first + a.count ≡ (log_of a).first + length (log_of a).buffered = ap (λ (n : ℕ). a.first + n) (sym (length-unframed a.count (drop 20 a.buffer.items))) in
    let ended = end_some a.place (log_of a).buffered (omega (arith, length-unframed a.count (drop 20 a.buffer.items))) in
    let long : length (frames (log_of a).buffered) + 20 ≡ vec_len a.buffer = omega (arith, keeps.head, ap length keeps.frames_are, length-drop 20 a.buffer.items, a.buffer.ok.0) in
    record {
      file = ap (λ (v : Log). v.file) c.self.view_is;
      older = ap (λ (v : Log). v.older) c.self.view_is;
      start = ap (λ (v : Log). v.start) c.self.view_is;
      none = refl;
      next = subst (λ (v : Log). a.first + a.count ≡ v.first + length v.buffered) c.self.view_is count_is;
      room = omega (arith, ap (λ (v : Log). v.room) c.self.view_is);
      size = subst (λ (v : Log). buffer_size v ≤ vec_capacity last - vec_len last - 1 - (vec_capacity last - 2 ^ 34) + 0) c.self.view_is (omega (arith, long, keeps.short, keeps.spare));
      waits = inr refl;
      still = tt;
      gate = omega (arith, ap (λ (v : Log). v.place) c.self.view_is, c.len-len.ensures);
      ends = subst (λ (v : Log). a.place + (1 + c.len-len.result) ≡ log_end v) c.self.view_is (omega (arith, c.len-len.ensures, long, ended));
      number = subst (λ (v : Log). a.first + a.count + 0 ≡ v.first + length v.buffered) c.self.view_is (omega (arith, count_is));
      later = omega (arith, ap (λ (v : Log). v.first) c.self.view_is);
    }

pub returns-in_err-written-clause-emptied : goal.returns-in_err-written-clause-emptied
returns-in_err-written-clause-emptied g c =
    let a = c.self.inside in
    let mid = c.truncate.new.self in
    let now = drop 20 mid.items in
    let held = drop 20 a.buffer.items in
    let wide : c.len-len.result ≡ 20 + length held = omega (arith, c.self.invariant.head, length-drop 20 a.buffer.items, a.buffer.ok.0) in
    let back : now ≡ held =
    ap (λ (l : List ℕ). drop 20 l) (c.truncate.ensures.items ∙ ap (λ (l : List ℕ). take c.len-len.result l) c.seal.ensures.items) ∙ reopened a.first a.count c.len-len.result held wide in
    let count_is : a.first + a.count ≡ (log_of a).first + length (log_of a).buffered = ap (λ (n : ℕ). a.first + n) (sym (length-unframed a.count (drop 20 a.buffer.items))) in
    let same = ap (λ (l : List ℕ). unframed a.count l) back ∙ ap (λ (v : Log). v.buffered) c.self.view_is in
    let p = err_from_is_err_and c.from_residual.result c.from_residual.ensures.1 in
    rw (p.1)
    (record {
      file = ap (λ (v : Log). v.file) c.self.view_is;
      older = ap (λ (v : Log). v.older) c.self.view_is;
      start = ap (λ (v : Log). v.start) c.self.view_is;
      none = tt;
      next = tt;
      room = omega (arith, ap (λ (v : Log). v.room) c.self.view_is);
      size = subst (λ (v : Log). buffer_size v ≤ vec_capacity mid - vec_len mid - 1 - (vec_capacity mid - 2 ^ 34) + length (frames (unframed a.count now))) c.self.view_is (omega (arith, ap (λ (l : List ℕ). length (frames (unframed a.count l))) back));
      waits = inl same;
      still = same;
      gate = omega (arith, ap (λ (v : Log). v.place) c.self.view_is);
      ends = ap (λ (l : List ℕ). end_behind a.place (unframed a.count l)) back ∙ ap log_end c.self.view_is;
      number = subst (λ (v : Log). a.first + length (unframed a.count now) ≡ v.first + length v.buffered) c.self.view_is (omega (arith, count_is, length-unframed a.count now));
      later = omega (arith, ap (λ (v : Log). v.first) c.self.view_is);
    })

pub returns-then-self-eq0-clause-kept_any_moment : goal.returns-then-self-eq0-clause-kept_any_moment
returns-then-self-eq0-clause-kept_any_moment g c named oldest settled writes =
    let d = g.D.Disk in
    let a = c.self.inside in
    let old = c.args.disk.now in
    let still = starts d old (λ i. i ≡ d.reads old) (d.images old) (g.met.D.Disk.only_now old) settled.only in
    none_leaves a c.self.invariant a.buffer.ok.0 (omega arith) c.args.self.now c.self.view_is named oldest (d.reads old) writes d old old refl still (omega arith)

pub returns-clause-kept : goal.returns-clause-kept
returns-clause-kept g c named oldest told writes =
    let a = c.self.inside in
    let old = g.D.Disk.reads c.args.disk.now in
    all_goes_on a c.self.invariant a.buffer.ok.0 (omega arith) c.args.self.now c.self.view_is named oldest old writes _ (g.D.Disk.reads c.write_batch-written.new.disk) (ap (λ (v : Log). v.file) c.self.view_is) (ap (λ (v : Log). v.older) c.self.view_is) (λ first bs goes.
    returns-clause-flushed g c first bs told goes)

-- at the end of the write, whether it failed or not
any_moment : (g : Over) (c : After-write_batch-written g) (first : ℕ) (bs : Batches) → IsSettled g.D.Disk c.args.disk.now → GoesOn first bs c.args.self.now (g.D.Disk.reads c.args.disk.now)
    → LeavesOnly g.D.Disk c.args.disk.now c.write_batch-written.new.disk (IsFlushing first bs c.args.self.now (g.D.Disk.reads c.args.disk.now))
any_moment g c first bs settled goes =
    let d = g.D.Disk in
    let a = c.self.inside in
    leaves a c.self.invariant (omega arith) (omega arith) a.buffer.ok.0 first bs d c.args.disk.now c.write_batch-written.new.disk (d.reads c.args.disk.now) c.args.self.now c.self.view_is goes c.deref.result.now
    (c.deref.ensures.value ∙ c.seal.ensures.items) (c.write_batch-written.ensures.any_moment first bs (unframed a.count (drop 20 a.buffer.items)) settled)

pub returns-in_err-written-clause-any_moment : goal.returns-in_err-written-clause-any_moment
returns-in_err-written-clause-any_moment g c = any_moment g (goal.at.returns-in_err-written-clause-any_moment g c).After-write_batch-written

pub returns-clause-any_moment : goal.returns-clause-any_moment
returns-clause-any_moment g c = any_moment g (goal.at.returns-clause-any_moment g c).After-write_batch-written

-- the same of the log in one generation or two
kept_any_moment : (g : Over) (c : After-write_batch-written g) (named oldest : ℕ) → IsSettled g.D.Disk c.args.disk.now → WritesBehind named oldest c.args.self.now (g.D.Disk.reads c.args.disk.now)
    → LeavesOnly g.D.Disk c.args.disk.now c.write_batch-written.new.disk (KeepsPrefix c.args.self.now.file named oldest c.args.self.now.buffered (g.D.Disk.reads c.args.disk.now))
kept_any_moment g c named oldest settled writes =
    let d = g.D.Disk in
    let a = c.self.inside in
    let old = c.args.disk.now in
    all_leaves a c.self.invariant a.buffer.ok.0 (omega arith) c.args.self.now c.self.view_is named oldest (d.reads old) writes d old c.write_batch-written.new.disk (λ first bs goes.
    wrote_behind a c.self.invariant (omega arith) (omega arith) a.buffer.ok.0 first bs d old c.write_batch-written.new.disk (d.reads old) c.args.self.now c.self.view_is goes c.deref.result.now (c.deref.ensures.value ∙ c.seal.ensures.items)
    (c.write_batch-written.ensures.any_moment first bs (unframed a.count (drop 20 a.buffer.items)) settled))

pub returns-in_err-written-clause-kept_any_moment : goal.returns-in_err-written-clause-kept_any_moment
returns-in_err-written-clause-kept_any_moment g c = kept_any_moment g (goal.at.returns-in_err-written-clause-kept_any_moment g c).After-write_batch-written

pub returns-clause-kept_any_moment : goal.returns-clause-kept_any_moment
returns-clause-kept_any_moment g c = kept_any_moment g (goal.at.returns-clause-kept_any_moment g c).After-write_batch-written
