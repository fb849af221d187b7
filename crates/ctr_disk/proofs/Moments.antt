-- By which a caller carries what a crash may leave over its device calls, a line for each call.
use Rattle.std.proofs.Common.{ℕ, inl, inr, ⊎_elim, ◌∙◌, subst, sym, arith}
use Rattle.std.specs.Prelude.{IsTrue, Result, Ok, Err, OnOk}
use Rattle.ctr_types.specs.declared.file.File.{File}
use Rattle.ctr_disk.specs.Image.{Image, TornImage}
use Rattle.ctr_disk.specs.Crash.{Elapses, Within, Tears}
use Rattle.ctr_disk.specs.Device.{LeavesOnly, IsDurable, IsSettled, OnlyReads}
use Rattle.ctr_disk.specs.declared.disk.Disk.{Ghosts}

module _ {D : Type 0} (g : Ghosts D) where
  -- before the first call: the images now are the only ones since now
  pub starts : (old : D) (P images : Image → Type 0) → ((c : Image) → g.since old (g.moment_of old) c → images c) → Within images P → LeavesOnly g old old P
  starts old P images only_now within = record {
    later = omega arith;
    each = λ c left. within c (only_now c left);
    before = λ t c le left. inl left;
  }

  -- one call more
  pub goes_on : (old mid new : D) (P images : Image → Type 0) → LeavesOnly g old mid P → Elapses (g.moment_of mid) (g.moment_of new) (g.since mid) (g.since new) images → Within images P
      → LeavesOnly g old new P
  goes_on old mid new P images so_far time within = record {
    later = omega (arith, so_far.later, time.later);
    each = λ c left. ⊎_elim (so_far.each c) (within c) (time.nothing_else (g.moment_of old) c so_far.later left);
    before = λ t c le left. ⊎_elim (so_far.before t c le) (λ is. inr (within c is)) (time.nothing_else t c (omega (arith, le, so_far.later)) left);
  }

  -- two runs, one after the other
  pub joined : (old mid new : D) (P : Image → Type 0) → LeavesOnly g old mid P → LeavesOnly g mid new P → LeavesOnly g old new P
  joined old mid new P first second = record {
    later = omega (arith, first.later, second.later);
    each = λ c left. ⊎_elim (first.each c) (λ is. is) (second.before (g.moment_of old) c first.later left);
    before = λ t c le left. ⊎_elim (first.before t c le) (λ is. inr is) (second.before t c (omega (arith, le, first.later)) left);
  }

  -- what is left has also what follows from P
  pub weaker : (old new : D) (P Q : Image → Type 0) → LeavesOnly g old new P → Within P Q → LeavesOnly g old new Q
  weaker old new P Q so within = record {
    later = so.later;
    each = λ c left. within c (so.each c left);
    before = λ t c le left. ⊎_elim (λ was. inl was) (λ is. inr (within c is)) (so.before t c le left);
  }

  -- one call, before which and after which a crash leaves what has P
  pub one_call : (old new : D) (P now : Image → Type 0) → ((c : Image) → g.since old (g.moment_of old) c → P c)
      → Elapses (g.moment_of old) (g.moment_of new) (g.since old) (g.since new) now → Within now P → LeavesOnly g old new P
  one_call old new P now at_start time here = goes_on old old new P now (starts old P P at_start (λ c is. is)) time here

  pub reads_joined : (old mid new : D) → OnlyReads g old mid → OnlyReads g mid new → OnlyReads g old new
  reads_joined old mid new first second = record {
    same = second.same ∙ first.same;
    now = λ c is. first.now c (second.now c is);
    any_moment = joined old mid new (g.images old) first.any_moment (weaker mid new (g.images mid) (g.images old) second.any_moment first.now);
  }

  -- a write behind calls that only read
  pub read_then : (old mid new : D) (P : Image → Type 0) → OnlyReads g old mid → Within (g.images old) P → LeavesOnly g mid new P → LeavesOnly g old new P
  read_then old mid new P quiet within after = joined old mid new P (weaker old mid (g.images old) P quiet.any_moment within) after

  pub still_only : (old new : D) → OnlyReads g old new → IsDurable g old → IsDurable g new
  still_only old new quiet only c is = only c (quiet.now c is) ∙ sym quiet.same

  pub still_settled : (old new : D) → OnlyReads g old new → IsSettled g old → IsSettled g new
  still_settled old new quiet settled = record { told = settled.told; only = still_only old new quiet settled.only }

  -- a write from a settled disk, by what it makes of what a read gives
  pub torn_from : (old new : D) (file : File) (at n : ℕ) (P : Image → Type 0) → IsDurable g old
      → LeavesOnly g old new (Tears file at n (g.images old)) → ((c : Image) → TornImage file at n (g.reads old) c → P c) → LeavesOnly g old new P
  torn_from old new file at n P only wrote gives =
      weaker old new (Tears file at n (g.images old)) P wrote (λ c t. gives c (subst (λ o. TornImage file at n o c) (only t.0 t.1) t.2))

  pub settled_by : (disk : D) → IsTrue g.tells → IsDurable g disk → IsSettled g disk
  settled_by disk told only = record { told = told; only = only }

-- where the call was answered Ok
pub on_ok : {T E : Type 0} (r : Result T E) (P Q : Type 0) → (P → Q) → OnOk r P → OnOk r Q
on_ok (Ok x) P Q f p = f p
on_ok (Err e) P Q f p = tt
