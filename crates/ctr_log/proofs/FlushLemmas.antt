-- What the fields of a log's writer say of the batch that it flushes.
use Rattle.std.proofs.Common.{◌≡◌, inl, inr, ℕ, ◌+◌, ◌-◌, ◌^◌, ◌<◌, List, [], ◌∷◌, ◌++◌, length, take, drop, vec_len, refl, sym, ◌∙◌, ap, subst, arith, length-append, length-drop}
use Rattle.std.proofs.lemmas.List.{append-nil, take_at, drop_at, take_all}
use Rattle.ctr_types.specs.declared.file.File.{File}
use Rattle.ctr_home.specs.disk_Disk.{Ghosts}
use Rattle.ctr_home.specs.disk_Image.{Image, content, OtherFilesStay}
use Rattle.ctr_home.specs.disk_Device.{LeavesOnly}
use Rattle.ctr_home.proofs.disk_Moments.{weaker}
use Rattle.ctr_log.specs.declared.log.LogFile.TheInside.{Inside}
use Rattle.ctr_home.specs.bytes_Fields.{spelled}
use Rattle.ctr_log.specs.Logs.{Log, headed, sealed, frames, batches, records, GoesOn, Extends, IsBeforeOrAfter, IsAfter, HasPrefix, IsFlushing, with_batch, unframed, HasBatches}
use Rattle.ctr_log.specs.LogFile.{log_of, IsWriter}
use Rattle.ctr_log.specs.Kept.{WritesBehind, KeepsPrefix, GoesOnWith}
use Rattle.ctr_log.proofs.KeptLaws.{kept_leaves, kept_goes_on, front_same}
use Rattle.ctr_home.proofs.bytes_FieldLaws.{length-spelled}
use Rattle.ctr_log.proofs.LogLemmas.{length-push, length-unframed, length-batches-push, records-push}

pub length-headed : (first count : ℕ) (bytes : List ℕ) → length (headed first count bytes) ≡ 20 + length bytes
length-headed first count bytes = omega (
  arith,
  length-append (spelled 8 (length bytes) ++ spelled 8 first ++ spelled 4 count) bytes,
  length-append (spelled 8 (length bytes) ++ spelled 8 first) (spelled 4 count),
  length-append (spelled 8 (length bytes)) (spelled 8 first),
  length-spelled 8 (length bytes),
  length-spelled 8 first,
  length-spelled 4 count,
)

-- the frames in a buffer that was sealed and opened again
pub reopened : (first count len : ℕ) (bytes : List ℕ) → len ≡ 20 + length bytes → drop 20 (take len (sealed first count bytes)) ≡ bytes
reopened first count len bytes is =
    let head = spelled 8 (length bytes) ++ spelled 8 first ++ spelled 4 count in
    let long : length head ≡ 20 = omega (
      arith,
      length-append (spelled 8 (length bytes) ++ spelled 8 first) (spelled 4 count),
      length-append (spelled 8 (length bytes)) (spelled 8 first),
      length-spelled 8 (length bytes),
      length-spelled 8 first,
      length-spelled 4 count,
    ) in
    ap (λ (l : List ℕ). drop 20 l) (take_at (headed first count bytes) (0 ∷ []) len (omega (arith, length-headed first count bytes))) ∙ drop_at head bytes 20 long

pub with_some : (bs : List (List (List ℕ))) (rs : List (List ℕ)) → 0 < length rs → with_batch bs rs ≡ bs ++ rs ∷ []
with_some bs [] some = absurd (omega arith)
with_some bs (r ∷ rs) some = refl

-- the log before the batch or with it has a front of the batch's records
prefix : (file : File) (first : ℕ) (bs : List (List (List ℕ))) (rs : List (List ℕ)) (old c : Image) → 0 < length bs → IsBeforeOrAfter file first bs rs old c → HasPrefix file first (records bs) rs old c
prefix file first bs rs old c some (same, inl log) = (same, (0, (bs, sym (append-nil (records bs)), record { some = some; batches_are = log })))
prefix file first bs rs old c some (same, inr log) =
    (same, (length rs, (bs ++ rs ∷ [], records-push bs rs ∙ ap (λ (l : List (List ℕ)). records bs ++ l) (sym (take_all (length rs) rs (omega arith))), record { some = omega (arith, length-push bs rs); batches_are = log })))

-- and its closed gate, or that of the old batches, lies in the file
gate_within : (file : File) (first : ℕ) (bs : List (List (List ℕ))) (rs : List (List ℕ)) (place : ℕ) (old c : Image) → place ≡ length (batches first bs) → IsBeforeOrAfter file first bs rs old c → place < length (content file c)
gate_within file first bs rs place old c at (same, inl log) = omega (arith, ap length log.bytes_are, length-append (batches first bs) (log.gate ∷ log.rest))
gate_within file first bs rs place old c at (same, inr log) =
    omega (arith, ap length log.bytes_are, length-append (batches first (bs ++ rs ∷ [])) (log.gate ∷ log.rest), length-batches-push first bs rs)

module _ (a : Inside) (keeps : IsWriter a) (some : 0 < a.count) (few : a.count < 2 ^ 32) (long : vec_len a.buffer ≡ length a.buffer.items) (first : ℕ) (bs : List (List (List ℕ))) where
  abbrev held : List ℕ
  held = drop 20 a.buffer.items

  abbrev rs : List (List ℕ)
  rs = unframed a.count held

  count_is : length rs ≡ a.count
  count_is = length-unframed a.count held

  -- what is sealed stands for the batch
  pub extends : (image : Image) → GoesOn first bs (log_of a) image → Extends first bs rs a.place (sealed a.first a.count held) (content a.file image)
  extends image goes = record {
    log_is = goes.log_is.batches_are;
    place_is = goes.place;
    body_is = ap (λ (n : ℕ). sealed n a.count held) goes.first_is ∙ ap (λ (n : ℕ). sealed (first + length (records bs)) n held) (sym count_is)
        ∙ ap (λ (l : List ℕ). sealed (first + length (records bs)) (length rs) l) keeps.frames_are;
    is_batch = (omega (arith, count_is), omega (arith, count_is));
  }

  -- what a crash leaves while it is written behind the log
  module _ {D : Type 0} (g : Ghosts D) (old new : D) (image : Image) (log : Log) (log_is : log_of a ≡ log) (goes : GoesOn first bs log image) (body : List ℕ) (body_is : body ≡ sealed a.first a.count held)
      (wrote : Extends first bs rs a.place body (content a.file image) → LeavesOnly g old new (IsBeforeOrAfter a.file first bs rs image)) where
    goes_a : GoesOn first bs (log_of a) image
    goes_a = subst (λ (v : Log). GoesOn first bs v image) (sym log_is) goes

    pub wrote_behind : LeavesOnly g old new (IsBeforeOrAfter log.file first bs log.buffered image)
    wrote_behind =
        let crash = wrote (subst (λ (b : List ℕ). Extends first bs rs a.place b (content a.file image)) (sym body_is) (extends image goes_a)) in
        subst (λ (v : Log). LeavesOnly g old new (IsBeforeOrAfter v.file first bs v.buffered image)) log_is crash

    pub leaves : LeavesOnly g old new (IsFlushing first bs log image)
    leaves =
        let crash = wrote (subst (λ (b : List ℕ). Extends first bs rs a.place b (content a.file image)) (sym body_is) (extends image goes_a)) in
        subst (λ (v : Log). LeavesOnly g old new (IsFlushing first bs v image)) log_is (weaker g old new (IsBeforeOrAfter a.file first bs rs image) (IsFlushing first bs (log_of a) image) crash (λ c is.
        record { records_are = prefix a.file first bs rs image c goes_a.log_is.some is; long = gate_within a.file first bs rs a.place image c goes_a.place is }))

  -- and behind it the writer goes on
  pub goes_on : (image new : Image) (log : Log) → GoesOn first bs (log_of a) image → IsAfter a.file first bs rs image new → log.file ≡ a.file → log.start ≡ a.start → log.place ≡ a.place + (1 + vec_len a.buffer) → log.first ≡ a.first + a.count
      → OtherFilesStay a.file image new × GoesOn first (with_batch bs rs) log new
  goes_on image new log goes after file start place number =
      let head = keeps.head in
      let held_len : length (frames rs) ≡ vec_len a.buffer - 20 = omega (arith, ap length keeps.frames_are, length-drop 20 a.buffer.items) in
      let place_was = goes.place in
      let first_was = goes.first_is in
      let P : List (List (List ℕ)) → Type 0 = λ all. GoesOn first all log new in (
        after.0,
        subst P (sym (with_some bs rs (omega (arith, count_is)))) (record {
          log_is = record { some = omega (arith, length-push bs rs); batches_are = subst (λ (f : File). HasBatches first (bs ++ rs ∷ []) (content f new)) (sym file) after.1 };
          start = start ∙ goes.start;
          place = omega (arith, place, place_was, held_len, length-batches-push first bs rs);
          first_is = omega (arith, number, first_was, count_is, ap length (records-push bs rs), length-append (records bs) rs);
        }),
      )

-- the same of the log of an image, in one generation or in two
module _ (a : Inside) (keeps : IsWriter a) (long : vec_len a.buffer ≡ length a.buffer.items) (small : vec_len a.buffer < 2 ^ 64) (log : Log) (log_is : log_of a ≡ log) (named oldest : ℕ) (image : Image) (writes : WritesBehind named oldest log image) where
  waiting : length log.buffered ≡ a.count
  waiting = sym (ap (λ (v : Log). length v.buffered) log_is) ∙ length-unframed a.count (drop 20 a.buffer.items)

  short : length (frames log.buffered) < 2 ^ 64
  short = omega (arith, ap (λ (v : Log). length (frames v.buffered)) log_is, ap length keeps.frames_are, length-drop 20 a.buffer.items, long, small)

  low : log.first + length log.buffered < 2 ^ 64
  low = omega (arith, keeps.next, waiting, ap (λ (v : Log). v.first) log_is)

  module _ {D : Type 0} (g : Ghosts D) (old new : D) where
    -- where no call was made
    pub none_leaves : g.reads old ≡ image → LeavesOnly g old new (λ c. c ≡ image) → a.count ≡ 0 → LeavesOnly g old new (KeepsPrefix log.file named oldest log.buffered image)
    none_leaves is same none = weaker g old new (λ c. c ≡ image) (KeepsPrefix log.file named oldest log.buffered image) same (λ c e. subst (KeepsPrefix log.file named oldest log.buffered image) (sym e) (front_same named oldest log image log.buffered log.older writes.by))

    -- where a batch was written
    pub all_leaves : ((first : ℕ) (bs : List (List (List ℕ))) → GoesOn first bs log image → LeavesOnly g old new (IsBeforeOrAfter log.file first bs log.buffered image)) → LeavesOnly g old new (KeepsPrefix log.file named oldest log.buffered image)
    all_leaves wrote = kept_leaves g old new named oldest log image log.buffered short low log.older writes.by wrote

  pub all_goes_on : (next : Log) (c : Image) → next.file ≡ log.file → next.older ≡ log.older
      → ((first : ℕ) (bs : List (List (List ℕ))) → GoesOn first bs log image → OtherFilesStay log.file image c × GoesOn first (with_batch bs log.buffered) next c) → GoesOnWith named oldest log.buffered next image c
  all_goes_on next c file older wrote = kept_goes_on named oldest log next image c log.buffered short low writes.numbered file wrote log.older older writes.by
