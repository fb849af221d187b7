-- What stands in bytes that are read.
use Rattle.std.proofs.Common.{◌*◌, ◌≡◌, ◌≢◌, ℕ, ◌+◌, ◌-◌, ◌^◌, ◌≤◌, ◌<◌, List, [], ◌∷◌, ◌++◌, length, take, drop, get_or, refl, sym, ◌∙◌, ap, arith, length-append, length-take, length-drop, take-append-drop, append_assoc}
use Rattle.std.proofs.lemmas.List.{append-nil, take_at, take-take, drop_at, drop_more, drop-drop, drop-take, length-take-le}
use Rattle.ctr_home.specs.bytes_Fields.{spelled, field}
use Rattle.ctr_log.specs.Logs.{frame, frames, batch, batches, records, IsBatch, AreBatches, HasLog}
use Rattle.ctr_log.specs.Reading.{ReadsFrames, BeginsWithBatch, ReadsBatch, ReadsLog}
use Rattle.ctr_home.proofs.bytes_FieldLaws.{AreBytes, side, spelled_field, field-drop, field-append}
use Rattle.ctr_log.proofs.LogLemmas.{length-frame, length-batch, frame_field, frame_record, frame_rest, batch_length, batch_first, batch_count, batch_frames, batches-push, records-push, each-push, frames-push}

-- a frame at the front of bytes
pub frame_at : (bytes : List ℕ) → AreBytes bytes → 8 + field 8 0 bytes ≤ length bytes → bytes ≡ frame (take (field 8 0 bytes) (drop 8 bytes)) ++ drop (8 + field 8 0 bytes) bytes
frame_at bytes below fits =
    let n = field 8 0 bytes in
    let r = take n (drop 8 bytes) in
    let long : length r ≡ n = length-take-le n (drop 8 bytes) (omega (arith, length-drop 8 bytes)) in
    let head : spelled 8 (length r) ≡ take 8 bytes = ap (spelled 8) long ∙ spelled_field 8 0 bytes (omega arith) below in
    sym (
    ap (λ (l : List ℕ). l ++ r ++ drop (8 + n) bytes) head ∙ ap (λ (l : List ℕ). l ++ drop (8 + n) bytes) (side 0 8 n bytes)
    ∙ take-append-drop (8 + n) bytes)

-- a frame is read from bytes that begin with one
module _ (r more bytes : List ℕ) (is : bytes ≡ frame r ++ more) (few : length bytes < 2 ^ 64) where
  long : length bytes ≡ 8 + length r + length more
  long = ap length is ∙ length-append (frame r) more ∙ (let e = length-frame r in omega arith)

  small : length r < 2 ^ 64
  small = omega (arith, long)

  pub frame_length : field 8 0 bytes ≡ length r
  frame_length = ap (field 8 0) is ∙ frame_field r more small

  pub frame_fits : 8 + field 8 0 bytes ≤ length bytes
  frame_fits = omega (arith, long, frame_length)

  pub frame_behind : drop (8 + field 8 0 bytes) bytes ≡ more
  frame_behind = ap (λ (l : List ℕ). drop (8 + field 8 0 l) l) is ∙ frame_rest r more small

  pub frame_is : take (field 8 0 bytes) (drop 8 bytes) ≡ r
  frame_is = ap (λ (l : List ℕ). take (field 8 0 l) (drop 8 l)) is ∙ frame_record r more small

-- two ways to split a frame off are one
pub frame_same : (q a r b : List ℕ) → frame q ++ a ≡ frame r ++ b → length (frame q ++ a) < 2 ^ 64 → (q ≡ r) × (a ≡ b)
frame_same q a r b is few = (
  sym (frame_is q a (frame q ++ a) refl few) ∙ frame_is r b (frame q ++ a) is few,
  sym (frame_behind q a (frame q ++ a) refl few) ∙ frame_behind r b (frame q ++ a) is few,
)

-- the same frames are of the same records
pub frames_same : (a b : List (List ℕ)) → frames a ≡ frames b → length (frames a) < 2 ^ 64 → a ≡ b
frames_same [] [] is few = refl
frames_same [] (r ∷ b) is few = absurd (omega (arith, ap length is, length-append (frame r) (frames b), length-frame r))
frames_same (q ∷ a) [] is few = absurd (omega (arith, ap length is, length-append (frame q) (frames a), length-frame q))
frames_same (q ∷ a) (r ∷ b) is few =
    let one = frame_same q (frames a) r (frames b) is few in
    let rest = frames_same a b one.1 (omega (arith, length-append (frame q) (frames a))) in
    ap (λ (l : List ℕ). l ∷ a) one.0 ∙ ap (λ (l : List (List ℕ)). r ∷ l) rest

-- bytes that are frames and not empty begin with one, and frames stand behind it
pub first_frame : (rs : List (List ℕ)) (bytes : List ℕ) → bytes ≡ frames rs → 0 < length bytes → (r : List ℕ) × (more : List (List ℕ)) × (bytes ≡ frame r ++ frames more)
first_frame [] bytes is some = absurd (omega (arith, ap length is))
first_frame (r ∷ rs) bytes is some = (r, rs, is)

-- one frame more was read
pub frames_more : (done : List (List ℕ)) (bytes rest r behind : List ℕ) → bytes ≡ frames done ++ rest → rest ≡ frame r ++ behind → bytes ≡ frames (done ++ r ∷ []) ++ behind
frames_more done bytes rest r behind is split =
    is ∙ ap (λ (l : List ℕ). frames done ++ l) split ∙ sym (append_assoc (frames done) (frame r) behind) ∙ ap (λ (l : List ℕ). l ++ behind) (sym (frames-push done r))

-- the fields of an open batch at the front of bytes
module _ (next : ℕ) (rs : List (List ℕ)) (behind bytes : List ℕ) (is : bytes ≡ 1 ∷ (batch next rs ++ behind)) (few : length bytes < 2 ^ 64) (low : next < 2 ^ 64) (batch_is : IsBatch rs) where
  bytes_long : length bytes ≡ 21 + length (frames rs) + length behind
  bytes_long = omega (arith, ap length is, length-append (batch next rs) behind, length-batch next rs)

  frames_few : length (frames rs) < 2 ^ 64
  frames_few = omega (arith, bytes_long)

  here : drop 1 bytes ≡ batch next rs ++ behind
  here = ap (λ (l : List ℕ). drop 1 l) is

  pub front_length : field 8 1 bytes ≡ length (frames rs)
  front_length = sym (field-drop 8 0 1 bytes) ∙ ap (field 8 0) here ∙ batch_length next rs behind frames_few low batch_is.1

  pub front_first : field 8 9 bytes ≡ next
  front_first = sym (field-drop 8 8 1 bytes) ∙ ap (field 8 8) here ∙ batch_first next rs behind frames_few low batch_is.1

  pub front_count : field 4 17 bytes ≡ length rs
  front_count = sym (field-drop 4 16 1 bytes) ∙ ap (field 4 16) here ∙ batch_count next rs behind frames_few low batch_is.1

  rest_is : drop 21 bytes ≡ frames rs ++ behind
  rest_is = sym (drop-drop 20 1 bytes) ∙ ap (λ (l : List ℕ). drop 20 l) here ∙ batch_frames next rs behind frames_few low batch_is.1

  pub front_frames : take (field 8 1 bytes) (drop 21 bytes) ≡ frames rs
  front_frames = ap (λ (l : List ℕ). take (field 8 1 bytes) l) rest_is ∙ take_at (frames rs) behind (field 8 1 bytes) (sym front_length)

  pub front_behind : drop (21 + field 8 1 bytes) bytes ≡ behind
  front_behind =
      sym (drop-drop (field 8 1 bytes) 21 bytes) ∙ ap (λ (l : List ℕ). drop (field 8 1 bytes) l) rest_is ∙ drop_at (frames rs) behind (field 8 1 bytes) (sym front_length)

  pub front_long : length bytes ≡ 21 + field 8 1 bytes + length behind
  front_long = omega (arith, bytes_long, front_length)

-- the fields in the first 21 of the bytes spell their numbers
abbrev pub HeadSpelled : List ℕ → Type 0
HeadSpelled bytes = (n at : ℕ) → at + n ≤ 21 → 21 ≤ length bytes → spelled n (field n at bytes) ≡ take n (drop at bytes)

pub spelled_all : (bytes : List ℕ) → AreBytes bytes → HeadSpelled bytes
spelled_all bytes below n at fits long = spelled_field n at bytes (omega (arith, fits, long)) below

-- where these were read
pub spelled_head : (rest head : List ℕ) → (21 ≤ length rest → head ≡ take 21 rest) → AreBytes head → HeadSpelled rest
spelled_head rest head is below n at fits long =
    let head_is = is long in
    let head_long : length head ≡ 21 = ap length head_is ∙ length-take-le 21 rest long in
    let whole : rest ≡ head ++ drop 21 rest = sym (ap (λ (l : List ℕ). l ++ drop 21 rest) head_is ∙ take-append-drop 21 rest) in
    let same : field n at rest ≡ field n at head = ap (field n at) whole ∙ field-append n at head (drop 21 rest) (omega (arith, fits, head_long)) in
    let front : take n (drop at head) ≡ take n (drop at rest) =
    sym (drop-take at n head) ∙ ap (λ (l : List ℕ). drop at (take (at + n) l)) head_is ∙ ap (drop at) (take-take (at + n) 21 rest fits) ∙ drop-take at n rest in
    ap (spelled n) same ∙ spelled_field n at head (omega (arith, fits, head_long)) below ∙ front

-- bytes whose fields are those of a batch begin with it
pub batch_at : (next : ℕ) (rs : List (List ℕ)) (bytes : List ℕ) → HeadSpelled bytes → get_or bytes 0 0 ≡ 1 → 21 + field 8 1 bytes ≤ length bytes → field 8 9 bytes ≡ next → take (field 8 1 bytes) (drop 21 bytes) ≡ frames rs
    → field 4 17 bytes ≡ length rs → bytes ≡ 1 ∷ (batch next rs ++ drop (21 + field 8 1 bytes) bytes)
batch_at next rs bytes spells one fits first_is frames_are count_is =
    let n = field 8 1 bytes in
    let t = drop 1 bytes in
    let len : n ≡ length (frames rs) = sym (length-take-le n (drop 21 bytes) (omega (arith, length-drop 21 bytes))) ∙ ap length frames_are in
    let a : take 8 t ≡ spelled 8 (length (frames rs)) = sym (spells 8 1 (omega arith) (omega arith)) ∙ ap (spelled 8) len in
    let b : take 8 (drop 9 bytes) ≡ spelled 8 next = sym (spells 8 9 (omega arith) (omega arith)) ∙ ap (spelled 8) first_is in
    let c : take 4 (drop 17 bytes) ≡ spelled 4 (length rs) = sym (spells 4 17 (omega arith) (omega arith)) ∙ ap (spelled 4) count_is in
    let head : take (20 + n) t ≡ batch next rs =
    sym (side 1 20 n bytes) ∙ ap (λ (l : List ℕ). l ++ take n (drop 21 bytes)) (sym (side 1 16 4 bytes)) ∙ ap (λ (l : List ℕ). l ++ take 4 (drop 17 bytes) ++ take n (drop 21 bytes)) (sym (side 1 8 8 bytes))
    ∙ ap (λ (l : List ℕ). l ++ take 8 (drop 9 bytes) ++ take 4 (drop 17 bytes) ++ take n (drop 21 bytes)) a
    ∙ ap (λ (l : List ℕ). spelled 8 (length (frames rs)) ++ l ++ take 4 (drop 17 bytes) ++ take n (drop 21 bytes)) b
    ∙ ap (λ (l : List ℕ). spelled 8 (length (frames rs)) ++ spelled 8 next ++ l ++ take n (drop 21 bytes)) c
    ∙ ap (λ (l : List ℕ). spelled 8 (length (frames rs)) ++ spelled 8 next ++ spelled 4 (length rs) ++ l) frames_are in
    let behind : drop (20 + n) t ≡ drop (21 + n) bytes = drop-drop (20 + n) 1 bytes ∙ ap (λ (k : ℕ). drop k bytes) (let e : 1 + (20 + n) ≡ 21 + n = omega arith in e) in
    let whole : t ≡ batch next rs ++ drop (21 + n) bytes = sym (take-append-drop (20 + n) t) ∙ ap (λ (l : List ℕ). l ++ drop (20 + n) t) head ∙ ap (λ (l : List ℕ). batch next rs ++ l) behind in
    drop_more bytes 0 0 (omega arith) ∙ ap (λ (b : ℕ). b ∷ t) one ∙ ap (λ (l : List ℕ). 1 ∷ l) whole

-- two ways to split a batch off are one
pub batch_same : (next : ℕ) (rs qs : List (List ℕ)) (x y bytes : List ℕ) → bytes ≡ 1 ∷ (batch next rs ++ x) → bytes ≡ 1 ∷ (batch next qs ++ y) → length bytes < 2 ^ 64 → next < 2 ^ 64 → IsBatch rs → IsBatch qs → (rs ≡ qs) × (x ≡ y)
batch_same next rs qs x y bytes a b few low r q =
    let same = sym (front_frames next rs x bytes a few low r) ∙ front_frames next qs y bytes b few low q in (
      frames_same rs qs same (frames_few next rs x bytes a few low r),
      sym (front_behind next rs x bytes a few low r) ∙ front_behind next qs y bytes b few low q,
    )

-- the first 21 bytes have the fields of the rest
pub head_field : (n at : ℕ) (rest head : List ℕ) → at + n ≤ 21 → 21 ≤ length rest → (21 ≤ length rest → head ≡ take 21 rest) → field n at head ≡ field n at rest
head_field n at rest head fits long is =
    ap (field n at) (is long) ∙ sym (field-append n at (take 21 rest) (drop 21 rest) (omega (arith, length-take-le 21 rest long))) ∙ ap (field n at) (take-append-drop 21 rest)

-- what the checks of a batch find where one begins
module _ (next : ℕ) (rest head : List ℕ) (is : 21 ≤ length rest → head ≡ take 21 rest) (few : length rest < 2 ^ 64) (low : next < 2 ^ 64) (b : BeginsWithBatch next rest) where
  rest_long : 22 + field 8 1 rest ≤ length rest
  rest_long = let some = b.gate in omega (arith, front_long next b.rs b.behind rest b.bytes_are few low b.is_batch)

  same_head : (n at : ℕ) → at + n ≤ 21 → field n at head ≡ field n at rest
  same_head n at fits = head_field n at rest head fits (omega (arith, rest_long)) is

  pub begins_room : field 8 1 head ≤ length rest - 22
  begins_room = omega (arith, rest_long, same_head 8 1 (omega arith))

  pub begins_first : field 8 9 head ≡ next
  begins_first = same_head 8 9 (omega arith) ∙ front_first next b.rs b.behind rest b.bytes_are few low b.is_batch

  pub begins_count : field 4 17 head ≡ length b.rs
  begins_count = same_head 4 17 (omega arith) ∙ front_count next b.rs b.behind rest b.bytes_are few low b.is_batch

  module _ (part : List ℕ) (part_is : part ≡ take (field 8 1 head) (drop 21 rest)) where
    pub begins_frames : part ≡ frames b.rs
    begins_frames =
        part_is ∙ ap (λ (n : ℕ). take n (drop 21 rest)) (same_head 8 1 (omega arith)) ∙ front_frames next b.rs b.behind rest b.bytes_are few low b.is_batch

    -- the frames are those of the batch
    pub begins_records : (rs : List (List ℕ)) → part ≡ frames rs → length part < 2 ^ 64 → length rs ≡ length b.rs
    begins_records rs read small = ap length (frames_same rs b.rs (sym read ∙ begins_frames) (omega (arith, ap length read)))

-- the checks of a batch hold, so it was read
module _ (next len count : ℕ) (rest head part behind : List ℕ) (old new : List (List ℕ)) (frames_read : ReadsFrames part old new count) where
  pub batch_read : (21 ≤ length rest → head ≡ take 21 rest) → HeadSpelled rest → get_or rest 0 0 ≡ 1 → len ≡ field 8 1 head → len ≤ length rest - 22 → field 8 9 head ≡ next → field 4 17 head ≡ count → field 4 17 head < 2 ^ 32 → 1 ≤ count
      → part ≡ take len (drop 21 rest) → behind ≡ drop len (drop 21 rest) → ReadsBatch next rest old new behind count
  batch_read is spells one len_is room first_is count_is small some part_is behind_is =
      let rs = frames_read.rs in
      let rs_count = frames_read.count in
      let rs_long : 8 ≤ length (frames rs) = some_frames rs (omega arith) in
      let long : 29 ≤ length rest =
      omega (arith, rs_long, ap length frames_read.bytes_are, ap length part_is, length-take len (drop 21 rest), length-drop 21 rest) in
      let field_len : field 8 1 rest ≡ len = sym (head_field 8 1 rest head (omega arith) (omega arith) is) ∙ sym len_is in
      let field_first : field 8 9 rest ≡ next = sym (head_field 8 9 rest head (omega arith) (omega arith) is) ∙ first_is in
      let field_count : field 4 17 rest ≡ length rs = sym (head_field 4 17 rest head (omega arith) (omega arith) is) ∙ count_is ∙ rs_count in
      let frames_are : take (field 8 1 rest) (drop 21 rest) ≡ frames rs = ap (λ (n : ℕ). take n (drop 21 rest)) field_len ∙ sym part_is ∙ frames_read.bytes_are in
      let whole = batch_at next rs rest spells one (omega arith) field_first frames_are field_count in
      let behind_same : drop (21 + field 8 1 rest) rest ≡ behind = ap (λ (n : ℕ). drop (21 + n) rest) field_len ∙ sym (drop-drop len 21 rest) ∙ sym behind_is in
      record {
        rs = rs;
        bytes_are = whole ∙ ap (λ (l : List ℕ). 1 ∷ (batch next rs ++ l)) behind_same;
        is_batch = (omega arith, omega arith);
        gate = omega (arith, ap length behind_is, length-drop len (drop 21 rest), length-drop 21 rest);
        added = frames_read.added;
        count = rs_count;
      }
    where
      some_frames : (rs : List (List ℕ)) → 0 < length rs → 8 ≤ length (frames rs)
      some_frames [] none = absurd (omega arith)
      some_frames (r ∷ rs) some_r = omega (arith, length-append (frame r) (frames rs), length-frame r)

-- what is left of a log behind the batches that were read
pub record LeftOf (next : ℕ) (rest : List ℕ) (all done : List (List ℕ)) : Type 0 where
  pub bs : List (List (List ℕ))
  pub gate : ℕ
  pub tail : List ℕ
  pub rest_is : rest ≡ batches next bs ++ gate ∷ tail
  pub closed : gate ≢ 1
  pub each : AreBatches bs
  pub records_are : all ≡ done ++ records bs

pub left_at_start : (first : ℕ) (bs : List (List (List ℕ))) (bytes : List ℕ) → HasLog first bs bytes → LeftOf first bytes (records bs) []
left_at_start first bs bytes log = record { bs = bs; gate = log.batches_are.gate; tail = log.batches_are.rest; rest_is = log.batches_are.bytes_are; closed = log.batches_are.closed; each = log.batches_are.each; records_are = refl }

-- behind an open gate a batch is left
pub left_batch : (next : ℕ) (rest : List ℕ) (all done : List (List ℕ)) → LeftOf next rest all done → get_or rest 0 0 ≡ 1 → BeginsWithBatch next rest
left_batch next rest all done left one = by_batches left.bs left.rest_is left.each
  where
    by_batches : (bs : List (List (List ℕ))) → rest ≡ batches next bs ++ left.gate ∷ left.tail → AreBatches bs → BeginsWithBatch next rest
    by_batches [] is each = absurd (left.closed (sym (ap (λ (l : List ℕ). get_or l 0 0) is) ∙ one))
    by_batches (rs ∷ bs) is each = record {
      rs = rs;
      behind = batches (next + length rs) bs ++ left.gate ∷ left.tail;
      bytes_are = is ∙ ap (λ (l : List ℕ). 1 ∷ l) (append_assoc (batch next rs) (batches (next + length rs) bs) (left.gate ∷ left.tail));
      is_batch = each.0;
      gate = omega (arith, length-append (batches (next + length rs) bs) (left.gate ∷ left.tail));
    }

pub left_more : (next : ℕ) (rest behind : List ℕ) (all done : List (List ℕ)) (rs : List (List ℕ)) → LeftOf next rest all done → rest ≡ 1 ∷ (batch next rs ++ behind) → IsBatch rs → length rest < 2 ^ 64 → next < 2 ^ 64
    → LeftOf (next + length rs) behind all (done ++ rs)
left_more next rest behind all done rs left read is_batch few low = by_batches left.bs left.rest_is left.each left.records_are
  where
    by_batches : (bs : List (List (List ℕ))) → rest ≡ batches next bs ++ left.gate ∷ left.tail → AreBatches bs → all ≡ done ++ records bs → LeftOf (next + length rs) behind all (done ++ rs)
    by_batches [] is each records_are = let one : get_or rest 0 0 ≡ 1 = ap (λ (l : List ℕ). get_or l 0 0) read in absurd (left.closed (sym (ap (λ (l : List ℕ). get_or l 0 0) is) ∙ one))
    by_batches (qs ∷ bs) is each records_are =
        let after = batches (next + length qs) bs ++ left.gate ∷ left.tail in
        let split = is ∙ ap (λ (l : List ℕ). 1 ∷ l) (append_assoc (batch next qs) (batches (next + length qs) bs) (left.gate ∷ left.tail)) in
        let same = batch_same next qs rs after behind rest split read few low each.0 is_batch in
        record {
          bs = bs;
          gate = left.gate;
          tail = left.tail;
          rest_is = sym same.1 ∙ ap (λ (l : List (List ℕ)). batches (next + length l) bs ++ left.gate ∷ left.tail) same.0;
          closed = left.closed;
          each = each.1;
          records_are = records_are ∙ sym (append_assoc done qs (records bs)) ∙ ap (λ (l : List (List ℕ)). done ++ l ++ records bs) same.0;
        }

-- behind a closed gate nothing is left
pub left_none : (next : ℕ) (rest : List ℕ) (all done : List (List ℕ)) → LeftOf next rest all done → get_or rest 0 0 ≢ 1 → all ≡ done
left_none next rest all done left shut = by_batches left.bs left.rest_is left.records_are
  where
    by_batches : (bs : List (List (List ℕ))) → rest ≡ batches next bs ++ left.gate ∷ left.tail → all ≡ done ++ records bs → all ≡ done
    by_batches [] is records_are = records_are ∙ append-nil done
    by_batches (rs ∷ bs) is records_are = absurd (shut (ap (λ (l : List ℕ). get_or l 0 0) is))

-- the batches that were read, with what is left behind them
pub record Done (first : ℕ) (bytes rest : List ℕ) (rs : List (List ℕ)) (next : ℕ) : Type 0 where
  pub bs : List (List (List ℕ))
  pub bytes_are : bytes ≡ batches first bs ++ rest
  pub each : AreBatches bs
  pub records_are : rs ≡ records bs
  pub next_is : next ≡ first + length (records bs)

pub done_none : (first : ℕ) (bytes : List ℕ) → Done first bytes bytes [] first
done_none first bytes = record { bs = []; bytes_are = refl; each = tt; records_are = refl; next_is = omega arith }

pub done_more : (first : ℕ) (bytes rest behind : List ℕ) (rs new qs : List (List ℕ)) (next : ℕ) → Done first bytes rest rs next → rest ≡ 1 ∷ (batch next qs ++ behind) → IsBatch qs → new ≡ rs ++ qs → Done first bytes behind new (next + length qs)
done_more first bytes rest behind rs new qs next done read is_batch added = record {
  bs = done.bs ++ qs ∷ [];
  bytes_are = done.bytes_are ∙ ap (λ (l : List ℕ). batches first done.bs ++ l) (read ∙ ap (λ (n : ℕ). 1 ∷ (batch n qs ++ behind)) done.next_is) ∙ sym (batches-push first done.bs qs behind);
  each = each-push done.bs qs done.each is_batch;
  records_are = added ∙ ap (λ (l : List (List ℕ)). l ++ qs) done.records_are ∙ sym (records-push done.bs qs);
  next_is = let e = done.next_is in omega (arith, e, ap length (records-push done.bs qs), length-append (records done.bs) qs);
}

-- a closed gate behind the batches ends the log
pub done_all : (first : ℕ) (bytes rest : List ℕ) (rs : List (List ℕ)) (next place : ℕ) → Done first bytes rest rs next → 0 < length rest → get_or rest 0 0 ≢ 1 → get_or bytes 0 0 ≡ 1 → place ≡ length bytes - length rest
    → ReadsLog first bytes rs place next
done_all first bytes rest rs next place done some shut open_ place_is = record {
  bs = done.bs;
  log_is = record {
    some = by_batches done.bs done.bytes_are;
    batches_are = record {
      gate = get_or rest 0 0;
      rest = drop 1 rest;
      bytes_are = done.bytes_are ∙ ap (λ (l : List ℕ). batches first done.bs ++ l) (drop_more rest 0 0 some);
      closed = shut;
      each = done.each;
    };
  };
  records_are = done.records_are;
  place_is = omega (arith, place_is, ap length done.bytes_are, length-append (batches first done.bs) rest);
  next_is = done.next_is;
}
  where
    by_batches : (bs : List (List (List ℕ))) → bytes ≡ batches first bs ++ rest → 0 < length bs
    by_batches [] is = absurd (shut (sym (ap (λ (l : List ℕ). get_or l 0 0) is) ∙ open_))
    by_batches (x ∷ bs) is = omega arith

pub length-frames-le : (rs : List (List ℕ)) → 8 * length rs ≤ length (frames rs)
length-frames-le [] = omega arith
length-frames-le (r ∷ rs) = let rest = length-frames-le rs in omega (arith, length-append (frame r) (frames rs), length-frame r)

pub length-records-le : (first : ℕ) (bs : List (List (List ℕ))) → 8 * length (records bs) ≤ length (batches first bs)
length-records-le first [] = omega arith
length-records-le first (rs ∷ bs) =
    let rest = length-records-le (first + length rs) bs in
    omega (arith, length-append rs (records bs), length-append (batch first rs) (batches (first + length rs) bs), length-batch first rs, length-frames-le rs)

-- the first gate of a log is open
pub first_gate : (first : ℕ) (bs : List (List (List ℕ))) (bytes : List ℕ) → HasLog first bs bytes → get_or bytes 0 0 ≡ 1
first_gate first bs bytes log = by_batches bs log.batches_are.bytes_are log.some
  where
    by_batches : (all : List (List (List ℕ))) → bytes ≡ batches first all ++ log.batches_are.gate ∷ log.batches_are.rest → 0 < length all → get_or bytes 0 0 ≡ 1
    by_batches [] is some = absurd (omega arith)
    by_batches (rs ∷ all) is some = ap (λ (l : List ℕ). get_or l 0 0) is
