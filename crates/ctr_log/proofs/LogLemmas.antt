-- Batches, frames and records as lists.
use Rattle.std.proofs.Common.{◌≡◌, inl, inr, ℕ, zero, suc, ◌+◌, ◌*◌, ◌^◌, ◌≤◌, ◌<◌, List, [], ◌∷◌, ◌++◌, length, take, drop, refl, sym, ◌∙◌, ap, subst, arith, length-append, length-drop, append_assoc}
use Rattle.std.proofs.lemmas.Bool.{cases_eq}
use Rattle.std.proofs.lemmas.List.{append-nil, take_at, drop_at, drop-drop, drop-append-le}
use Rattle.ctr_types.specs.declared.file.File.{File}
use Rattle.ctr_home.specs.disk_Image.{Image, content, write_of, written, Torn, TornImage, OtherFilesStay}
use Rattle.ctr_home.specs.bytes_Fields.{spelled, field}
use Rattle.ctr_log.specs.Logs.{frame, frames, batch, batches, records, IsBatch, AreBatches, unframed, Extends, IsBeforeOrAfter, IsAfter, HasBatches}
use Rattle.ctr_bytes.proofs.FieldLaws.{length-spelled, field_at}
use Rattle.ctr_home.specs.disk_TornLaws.{torn_whole}
use Rattle.ctr_disk.proofs.Torn.{torn_behind, torn_byte, written_behind, written_byte, same_but, content_written}

pub length-frame : (r : List ℕ) → length (frame r) ≡ 8 + length r
length-frame r = omega (arith, length-append (spelled 8 (length r)) r, length-spelled 8 (length r))

pub length-batch : (first : ℕ) (rs : List (List ℕ)) → length (batch first rs) ≡ 20 + length (frames rs)
length-batch first rs = omega (
  arith,
  length-append (spelled 8 (length (frames rs)) ++ spelled 8 first ++ spelled 4 (length rs)) (frames rs),
  length-append (spelled 8 (length (frames rs)) ++ spelled 8 first) (spelled 4 (length rs)),
  length-append (spelled 8 (length (frames rs))) (spelled 8 first),
  length-spelled 8 (length (frames rs)),
  length-spelled 8 first,
  length-spelled 4 (length rs),
)

pub frames-push : (rs : List (List ℕ)) (r : List ℕ) → frames (rs ++ r ∷ []) ≡ frames rs ++ frame r
frames-push [] r = append-nil (frame r)
frames-push (x ∷ rs) r = ap (λ (l : List ℕ). frame x ++ l) (frames-push rs r) ∙ sym (append_assoc (frame x) (frames rs) (frame r))

pub records-push : (bs : List (List (List ℕ))) (rs : List (List ℕ)) → records (bs ++ rs ∷ []) ≡ records bs ++ rs
records-push [] rs = append-nil rs
records-push (x ∷ bs) rs = ap (λ (l : List (List ℕ)). x ++ l) (records-push bs rs) ∙ sym (append_assoc x (records bs) rs)

pub each-push : (bs : List (List (List ℕ))) (rs : List (List ℕ)) → AreBatches bs → IsBatch rs → AreBatches (bs ++ rs ∷ [])
each-push [] rs each is = (is, tt)
each-push (x ∷ bs) rs each is = (each.0, each-push bs rs each.1 is)

-- one batch more behind others
pub batches-push : (first : ℕ) (bs : List (List (List ℕ))) (rs : List (List ℕ)) (tail : List ℕ)
    → batches first (bs ++ rs ∷ []) ++ tail ≡ batches first bs ++ 1 ∷ (batch (first + length (records bs)) rs ++ tail)
batches-push first [] rs tail =
    ap (λ (l : List ℕ). 1 ∷ l) (ap (λ (l : List ℕ). l ++ tail) (append-nil (batch first rs)) ∙ ap (λ (n : ℕ). batch n rs ++ tail) (let e : first ≡ first + 0 = omega arith in e))
batches-push first (x ∷ bs) rs tail =
    let next = first + length x in
    let number : next + length (records bs) ≡ first + length (x ++ records bs) = omega (arith, length-append x (records bs)) in
    ap (λ (l : List ℕ). 1 ∷ l) (
    append_assoc (batch first x) (batches next (bs ++ rs ∷ [])) tail
    ∙ ap (λ (l : List ℕ). batch first x ++ l) (batches-push next bs rs tail ∙ ap (λ (n : ℕ). batches next bs ++ 1 ∷ (batch n rs ++ tail)) number)
    ∙ sym (append_assoc (batch first x) (batches next bs) (1 ∷ (batch (first + length (x ++ records bs)) rs ++ tail))))

pub length-batches-push : (first : ℕ) (bs : List (List (List ℕ))) (rs : List (List ℕ)) → length (batches first (bs ++ rs ∷ [])) ≡ length (batches first bs) + (21 + length (frames rs))
length-batches-push first bs rs =
    let n = first + length (records bs) in
    omega (arith, ap length (sym (append-nil (batches first (bs ++ rs ∷ []))) ∙ batches-push first bs rs []), length-append (batches first bs) (1 ∷ (batch n rs ++ [])), length-append (batch n rs) [], length-batch n rs)

pub length-push : {A : Type 0} (xs : List A) (x : A) → length (xs ++ x ∷ []) ≡ length xs + 1
length-push xs x = length-append xs (x ∷ [])

-- the parts of a frame
module _ (r more : List ℕ) (fits : length r < 2 ^ 64) where
  abbrev framed : List ℕ
  framed = frame r ++ more

  regroup : framed ≡ spelled 8 (length r) ++ (r ++ more)
  regroup = append_assoc (spelled 8 (length r)) r more

  pub frame_field : field 8 0 framed ≡ length r
  frame_field = ap (field 8 0) regroup ∙ field_at 8 (length r) 0 [] (r ++ more) refl fits

  behind_length : drop 8 framed ≡ r ++ more
  behind_length = ap (λ (l : List ℕ). drop 8 l) regroup ∙ drop_at (spelled 8 (length r)) (r ++ more) 8 (length-spelled 8 (length r))

  pub frame_record : take (field 8 0 framed) (drop 8 framed) ≡ r
  frame_record = ap (λ (n : ℕ). take n (drop 8 framed)) frame_field ∙ ap (λ (l : List ℕ). take (length r) l) behind_length ∙ take_at r more (length r) refl

  pub frame_rest : drop (8 + field 8 0 framed) framed ≡ more
  frame_rest =
      ap (λ (n : ℕ). drop (8 + n) framed) frame_field ∙ sym (drop-drop (length r) 8 framed) ∙ ap (λ (l : List ℕ). drop (length r) l) behind_length ∙ drop_at r more (length r) refl

-- reading frames gives the records that they were made of
pub unframed-frames : (rs : List (List ℕ)) → length (frames rs) < 2 ^ 64 → unframed (length rs) (frames rs) ≡ rs
unframed-frames [] fits = refl
unframed-frames (r ∷ rs) fits =
    let long = length-append (frame r) (frames rs) in
    let one = length-frame r in
    let small : length r < 2 ^ 64 = omega arith in
    ap (λ (l : List ℕ). l ∷ unframed (length rs) (drop (8 + field 8 0 (frame r ++ frames rs)) (frame r ++ frames rs))) (frame_record r (frames rs) small)
    ∙ ap (λ (l : List ℕ). r ∷ unframed (length rs) l) (frame_rest r (frames rs) small) ∙ ap (λ (l : List (List ℕ)). r ∷ l) (unframed-frames rs (omega arith))

pub length-unframed : (n : ℕ) (bytes : List ℕ) → length (unframed n bytes) ≡ n
length-unframed zero bytes = refl
length-unframed (suc n) bytes = let rest = length-unframed n (drop (8 + field 8 0 bytes) bytes) in omega (arith, rest)

-- a frame has 8 bytes at least
pub frames-least : (rs : List (List ℕ)) → 8 * length rs ≤ length (frames rs)
frames-least [] = omega arith
frames-least (r ∷ rs) = let rest = frames-least rs in omega (arith, rest, length-append (frame r) (frames rs), length-frame r)

-- so many records have 8 bytes each in a buffer with a head of 20 bytes
pub count_small : (n : ℕ) (bytes : List ℕ) → drop 20 bytes ≡ frames (unframed n (drop 20 bytes)) → 8 * n ≤ length bytes
count_small n bytes is = omega (arith, frames-least (unframed n (drop 20 bytes)), length-unframed n (drop 20 bytes), ap length is, length-drop 20 bytes)

-- the same frames, as many, are of the same records
pub same_records : (a b : List (List ℕ)) → frames a ≡ frames b → length a ≡ length b → length (frames a) < 2 ^ 64 → a ≡ b
same_records a b same count fits =
    sym (unframed-frames a fits) ∙ ap (λ (n : ℕ). unframed n (frames a)) count ∙ ap (unframed (length b)) same
    ∙ unframed-frames b (omega (arith, ap length same))

-- one frame more in a buffer with a head of 20 bytes
module _ (count : ℕ) (old new b : List ℕ) (head : 20 ≤ length old) (is : new ≡ old ++ frame b) (was : drop 20 old ≡ frames (unframed count (drop 20 old))) (fits : length new < 2 ^ 64) where
  abbrev before : List (List ℕ)
  before = unframed count (drop 20 old)

  pub more_bytes : drop 20 new ≡ frames (before ++ b ∷ [])
  more_bytes =
      ap (λ (l : List ℕ). drop 20 l) is ∙ drop-append-le 20 old (frame b) head ∙ ap (λ (l : List ℕ). l ++ frame b) was ∙ sym (frames-push before b)

  pub more_records : unframed (count + 1) (drop 20 new) ≡ before ++ b ∷ []
  more_records =
      let long : length (before ++ b ∷ []) ≡ count + 1 = omega (arith, length-push before b, length-unframed count (drop 20 old)) in
      let small : length (frames (before ++ b ∷ [])) < 2 ^ 64 = omega (arith, ap length more_bytes, length-drop 20 new) in
      ap (λ (n : ℕ). unframed n (drop 20 new)) (sym long) ∙ ap (unframed (length (before ++ b ∷ []))) more_bytes ∙ unframed-frames (before ++ b ∷ []) small

  pub more_frames : drop 20 new ≡ frames (unframed (count + 1) (drop 20 new))
  more_frames = more_bytes ∙ ap frames (sym more_records)

-- the fields of a batch behind its gate
module _ (first : ℕ) (rs : List (List ℕ)) (more : List ℕ) (fits : length (frames rs) < 2 ^ 64) (low : first < 2 ^ 64) (few : length rs < 2 ^ 32) where
  abbrev l8 : List ℕ
  l8 = spelled 8 (length (frames rs))

  abbrev f8 : List ℕ
  f8 = spelled 8 first

  abbrev c4 : List ℕ
  c4 = spelled 4 (length rs)

  abbrev here : List ℕ
  here = batch first rs ++ more

  pub batch_length : field 8 0 here ≡ length (frames rs)
  batch_length =
      let is : here ≡ l8 ++ (f8 ++ (c4 ++ (frames rs ++ more))) = simp append_assoc in
      ap (field 8 0) is ∙ field_at 8 (length (frames rs)) 0 [] (f8 ++ (c4 ++ (frames rs ++ more))) refl fits

  pub batch_first : field 8 8 here ≡ first
  batch_first =
      let is : here ≡ l8 ++ f8 ++ (c4 ++ (frames rs ++ more)) = simp append_assoc in
      ap (field 8 8) is ∙ field_at 8 first 8 l8 (c4 ++ (frames rs ++ more)) (length-spelled 8 (length (frames rs))) low

  head_long : length (l8 ++ f8) ≡ 16
  head_long = omega (arith, length-append l8 f8, length-spelled 8 (length (frames rs)), length-spelled 8 first)

  pub batch_count : field 4 16 here ≡ length rs
  batch_count =
      let is : here ≡ l8 ++ f8 ++ c4 ++ (frames rs ++ more) = simp append_assoc in
      ap (field 4 16) is ∙ field_at 4 (length rs) 16 (l8 ++ f8) (frames rs ++ more) head_long few

  pub batch_frames : drop 20 here ≡ frames rs ++ more
  batch_frames =
      let is : here ≡ l8 ++ f8 ++ c4 ++ (frames rs ++ more) = simp append_assoc in
      ap (λ (l : List ℕ). drop 20 l) is
      ∙ drop_at (l8 ++ f8 ++ c4) (frames rs ++ more) 20 (omega (arith, head_long, length-append (l8 ++ f8) c4, length-spelled 4 (length rs)))

-- a batch more in a log
module _ (file : File) (first : ℕ) (bs : List (List (List ℕ))) (rs : List (List ℕ)) (place : ℕ) (body : List ℕ) (old : Image) (ext : Extends first bs rs place body (content file old)) where
  abbrev front : List ℕ
  front = batches first bs

  abbrev gate : ℕ
  gate = ext.log_is.gate

  abbrev rest : List ℕ
  rest = ext.log_is.rest

  -- the body behind the closed gate, torn
  pub behind_torn : (c : Image) (n : ℕ) → TornImage file (place + 1) n old c → IsBeforeOrAfter file first bs rs old c
  behind_torn c n torn =
      let t = subst (λ (o : List ℕ). Torn (place + 1) n o (content file c)) ext.log_is.bytes_are torn.torn in
      let split = torn_behind front rest gate (place + 1) (content file c) n (omega (arith, ext.place_is)) t in
      (torn.others, inl (record { gate = gate; rest = split.0; bytes_are = split.1; closed = ext.log_is.closed; each = ext.log_is.each }))

  module _ (mid : Image) (is_mid : mid ≡ write_of file (place + 1) body old) where
    abbrev number : ℕ
    number = first + length (records bs)

    abbrev tail : List ℕ
    tail = drop (length body) rest

    mid_others : OtherFilesStay file old mid
    mid_others = subst (OtherFilesStay file old) (sym is_mid) (torn_whole file (place + 1) body old).others

    -- and written
    mid_is : content file mid ≡ front ++ gate ∷ (batch number rs ++ 0 ∷ tail)
    mid_is =
        ap (content file) is_mid ∙ content_written file (place + 1) body old ∙ ap (λ (l : List ℕ). written (place + 1) body l) ext.log_is.bytes_are
        ∙ written_behind front rest gate (place + 1) body (omega (arith, ext.place_is))
        ∙ ap (λ (l : List ℕ). front ++ gate ∷ (l ++ tail)) ext.body_is ∙ ap (λ (l : List ℕ). front ++ gate ∷ l) (append_assoc (batch number rs) (0 ∷ []) tail)

    one_more : (c : List ℕ) → c ≡ front ++ 1 ∷ (batch number rs ++ 0 ∷ tail) → HasBatches first (bs ++ rs ∷ []) c
    one_more c is = record {
      gate = 0;
      rest = tail;
      bytes_are = is ∙ sym (batches-push first bs rs (0 ∷ tail));
      closed = λ e. omega (arith, e);
      each = each-push bs rs ext.log_is.each ext.is_batch;
    }

    -- the gate, torn
    pub gate_torn : (c : Image) → TornImage file place 1 mid c → IsBeforeOrAfter file first bs rs old c
    gate_torn c torn =
        let t = subst (λ (o : List ℕ). Torn place 1 o (content file c)) mid_is torn.torn in
        let split = torn_byte front (batch number rs ++ 0 ∷ tail) gate place (content file c) ext.place_is t in (
          same_but file old mid c mid_others torn.others,
          elim (cases_eq split.0 1) [
            | inl open_ ↦ inr (one_more (content file c) (split.1 ∙ ap (λ (b : ℕ). front ++ b ∷ (batch number rs ++ 0 ∷ tail)) open_))
            | inr shut ↦ inl (record { gate = split.0; rest = batch number rs ++ 0 ∷ tail; bytes_are = split.1; closed = shut; each = ext.log_is.each })
          ],
        )

    -- and written
    pub gate_written : (new : Image) → new ≡ write_of file place (1 ∷ []) mid → IsAfter file first bs rs old new
    gate_written new is =
        let others = subst (OtherFilesStay file mid) (sym is) (torn_whole file place (1 ∷ []) mid).others in
        let log : content file new ≡ front ++ 1 ∷ (batch number rs ++ 0 ∷ tail) =
        ap (content file) is ∙ content_written file place (1 ∷ []) mid ∙ ap (λ (l : List ℕ). written place (1 ∷ []) l) mid_is
        ∙ written_byte front (batch number rs ++ 0 ∷ tail) gate place 1 ext.place_is in
        (same_but file old mid new mid_others others, one_more (content file new) log)
