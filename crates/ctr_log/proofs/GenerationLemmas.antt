-- A flush and the start of a generation behind it, as one call.
use Rattle.std.proofs.Common.{◌≡◌, ◌⊎◌, inl, inr, ⊎_elim, ℕ, zero, suc, ◌+◌, min, Bool, true, false, List, [], ◌∷◌, ◌++◌, length, take, refl, sym, ◌∙◌, ap, subst, arith, append_assoc}
use Rattle.std.proofs.lemmas.List.{take-append-le, take_min}
use Rattle.std.proofs.Math.Seq.{take-append-add}
use Rattle.ctr_types.specs.declared.file.File.{File}
use Rattle.ctr_types.specs.declared.file.File.TheVariants.{Root, LogA, LogB, Pages}
use Rattle.ctr_home.specs.disk_Image.{Image, OtherFilesStay}
use Rattle.ctr_home.specs.disk_Disk.{Ghosts}
use Rattle.ctr_home.specs.disk_Device.{LeavesOnly}
use Rattle.ctr_home.proofs.disk_Moments.{joined, weaker}
use Rattle.ctr_log.specs.Logs.{Log}
use Rattle.ctr_log.specs.Fresh.{SameRoot}
use Rattle.ctr_log.specs.Reading.{log_file}
use Rattle.ctr_log.specs.Kept.{other_file, next_file, kept_log, HoldsLog, WritesBy, WritesBehind, KeepsPrefix, GoesOnWith, HoldsPrefix, GoesOnBehind}

-- but for a file of the log the root and the pages stay
same_root : (f : File) → (f ≡ LogA) ⊎ (f ≡ LogB) → (old new : Image) → OtherFilesStay f old new → SameRoot old new
same_root LogA is old new stays = (ap (λ (i : Image). i.root) stays, ap (λ (i : Image). i.pages) stays)
same_root LogB is old new stays = (ap (λ (i : Image). i.root) stays, ap (λ (i : Image). i.pages) stays)
same_root Root is old new stays = absurd (⊎_elim (λ (a : Root ≡ LogA). cc a) (λ (b : Root ≡ LogB). cc b) is)
same_root Pages is old new stays = absurd (⊎_elim (λ (a : Pages ≡ LogA). cc a) (λ (b : Pages ≡ LogB). cc b) is)

named_one : (n : ℕ) → (log_file n ≡ LogA) ⊎ (log_file n ≡ LogB)
named_one zero = inl refl
named_one (suc n) = inr refl

other_one : (n : ℕ) → (other_file n ≡ LogA) ⊎ (other_file n ≡ LogB)
other_one zero = inr refl
other_one (suc n) = inl refl

next_one : (f : File) → (next_file f ≡ LogA) ⊎ (next_file f ≡ LogB)
next_one Root = inl refl
next_one LogA = inr refl
next_one LogB = inl refl
next_one Pages = inl refl

-- a writer behind a log has a file of the log
writer_one : (o : Bool) (named oldest : ℕ) (log : Log) (image : Image) → WritesBy o named oldest log image → (log.file ≡ LogA) ⊎ (log.file ≡ LogB)
writer_one false named oldest log image w = subst (λ (f : File). (f ≡ LogA) ⊎ (f ≡ LogB)) (sym w.file_is) (named_one named)
writer_one true named oldest log image w = subst (λ (f : File). (f ≡ LogA) ⊎ (f ≡ LogB)) (sym w.file_is) (other_one named)

module _ (named oldest : ℕ) (log : Log) (old : Image) (writes : WritesBehind named oldest log old) (r : List ℕ) where
  abbrev all : List (List ℕ)
  all = log.buffered ++ r ∷ []

  abbrev Held : Image → Type 0
  Held = HoldsPrefix named oldest all old

  file_one : (log.file ≡ LogA) ⊎ (log.file ≡ LogB)
  file_one = writer_one log.older named oldest log old writes.by

  -- while what waits is flushed
  flushing : (c : Image) → KeepsPrefix log.file named oldest log.buffered old c → Held c
  flushing c front =
      let k = min front.count (length log.buffered) in
      let fewer : take k all ≡ take front.count log.buffered = take-append-le k log.buffered (r ∷ []) (omega arith) ∙ take_min front.count log.buffered in
      record {
        same = same_root log.file file_one old c front.others;
        count = k;
        holds = subst (λ (l : List (List ℕ)). HoldsLog named oldest (kept_log named oldest old ++ l) c) (sym fewer) front.holds;
      }

  module _ (mid : Image) (next : Log) (goes : GoesOnWith named oldest log.buffered next old mid) (stays : next.file ≡ log.file) where
    mid_same : SameRoot old mid
    mid_same = same_root next.file (subst (λ (f : File). (f ≡ LogA) ⊎ (f ≡ LogB)) (sym stays) file_one) old mid goes.others

    after : (c : Image) → SameRoot mid c → SameRoot old c
    after c same = (same.0 ∙ mid_same.0, same.1 ∙ mid_same.1)

    -- while the generation begins behind them
    beginning : (c : Image) → KeepsPrefix (next_file next.file) named oldest (r ∷ []) mid c → Held c
    beginning c front =
        let k = length log.buffered + front.count in
        let more : kept_log named oldest mid ++ take front.count (r ∷ []) ≡ kept_log named oldest old ++ take k all =
        ap (λ (l : List (List ℕ)). l ++ take front.count (r ∷ [])) goes.log_is ∙ append_assoc (kept_log named oldest old) log.buffered (take front.count (r ∷ []))
        ∙ ap (λ (l : List (List ℕ)). kept_log named oldest old ++ l) (sym (take-append-add log.buffered (r ∷ []) front.count)) in
        record {
          same = after c (same_root (next_file next.file) (next_one next.file) mid c front.others);
          count = k;
          holds = subst (λ (l : List (List ℕ)). HoldsLog named oldest l c) more front.holds;
        }

    -- and where the writer goes on
    pub behind : (c : Image) (last : Log) → GoesOnWith named oldest (r ∷ []) last mid c → GoesOnBehind named oldest all last old c
    behind c last begun = record {
      same = after c (same_root last.file (writer_one last.older named oldest last c begun.writes.by) mid c begun.others);
      log_is = begun.log_is ∙ ap (λ (l : List (List ℕ)). l ++ r ∷ []) goes.log_is ∙ append_assoc (kept_log named oldest old) log.buffered (r ∷ []);
      writes = begun.writes;
    }

  module _ {D : Type 0} (g : Ghosts D) (a b : D) where
    -- what a crash leaves of the flush
    pub flush_leaves : LeavesOnly g a b (KeepsPrefix log.file named oldest log.buffered old) → LeavesOnly g a b Held
    flush_leaves leaves = weaker g a b (KeepsPrefix log.file named oldest log.buffered old) Held leaves flushing

    -- and of both
    pub both_leave : (d : D) (mid : Image) (next : Log) → GoesOnWith named oldest log.buffered next old mid → next.file ≡ log.file → LeavesOnly g a b Held → LeavesOnly g b d (KeepsPrefix (next_file next.file) named oldest (r ∷ []) mid)
        → LeavesOnly g a d Held
    both_leave d mid next goes stays first second = joined g a b d Held first (weaker g b d (KeepsPrefix (next_file next.file) named oldest (r ∷ []) mid) Held second (beginning mid next goes stays))
