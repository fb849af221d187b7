-- Where the next record of a log stands once it is flushed.
use Rattle.std.proofs.Common.{◌≡◌, ℕ, ◌+◌, List, [], ◌∷◌, ◌++◌, length, take, drop, refl, sym, ◌∙◌, ap, arith, length-append, append_assoc}
use Rattle.std.proofs.lemmas.List.{take_at, drop_at}
use Rattle.ctr_home.specs.bytes_Fields.{spelled}
use Rattle.ctr_home.proofs.bytes_FieldLaws.{length-spelled}
use Rattle.ctr_log.specs.Logs.{Batches, frame, frames, batches, records, with_batch, HasLog}
use Rattle.ctr_log.proofs.LogLemmas.{frames-push, batches-push, length-push}
use Rattle.ctr_log.proofs.FlushLemmas.{with_some}

-- frames with one more, and what stands behind them
frames_more : (ws : List (List ℕ)) (r tail : List ℕ) → frames (ws ++ r ∷ []) ++ tail ≡ frames ws ++ (spelled 8 (length r) ++ (r ++ tail))
frames_more ws r tail =
    ap (λ (l : List ℕ). l ++ tail) (frames-push ws r) ∙ append_assoc (frames ws) (frame r) tail
    ∙ ap (λ (l : List ℕ). frames ws ++ l) (append_assoc (spelled 8 (length r)) r tail)

-- the first fields of a batch with these records
abbrev head_of : ℕ → List (List ℕ) → List ℕ
head_of n rs = spelled 8 (length (frames rs)) ++ spelled 8 n ++ spelled 4 (length rs)

-- all that stands before the record
abbrev before : ℕ → Batches → List (List ℕ) → List ℕ → List ℕ
before first bs ws r = batches first bs ++ (1 ∷ head_of (first + length (records bs)) (ws ++ r ∷ [])) ++ frames ws ++ spelled 8 (length r)

length-before : (first : ℕ) (bs : Batches) (ws : List (List ℕ)) (r : List ℕ) → length (before first bs ws r) ≡ length (batches first bs) + 29 + length (frames ws)
length-before first bs ws r =
    let n = first + length (records bs) in
    let rs = ws ++ r ∷ [] in
    let head = head_of n rs in
    omega (
      arith,
      length-append (batches first bs ++ (1 ∷ head) ++ frames ws) (spelled 8 (length r)),
      length-append (batches first bs ++ (1 ∷ head)) (frames ws),
      length-append (batches first bs) (1 ∷ head),
      length-append (spelled 8 (length (frames rs)) ++ spelled 8 n) (spelled 4 (length rs)),
      length-append (spelled 8 (length (frames rs))) (spelled 8 n),
      length-spelled 8 (length (frames rs)),
      length-spelled 8 n,
      length-spelled 4 (length rs),
      length-spelled 8 (length r),
    )

split : (first : ℕ) (bs : Batches) (ws : List (List ℕ)) (r tail : List ℕ) → batches first (bs ++ (ws ++ r ∷ []) ∷ []) ++ tail ≡ before first bs ws r ++ (r ++ tail)
split first bs ws r tail =
    let n = first + length (records bs) in
    let rs = ws ++ r ∷ [] in
    let head = head_of n rs in
    let more = spelled 8 (length r) ++ (r ++ tail) in
    batches-push first bs rs tail
    ∙ ap (λ (l : List ℕ). batches first bs ++ 1 ∷ l) (append_assoc head (frames rs) tail ∙ ap (λ (l : List ℕ). head ++ l) (frames_more ws r tail))
    ∙ sym (append_assoc (batches first bs) (1 ∷ head) (frames ws ++ more))
    ∙ sym (append_assoc (batches first bs ++ (1 ∷ head)) (frames ws) more)
    ∙ sym (append_assoc (batches first bs ++ (1 ∷ head) ++ frames ws) (spelled 8 (length r)) (r ++ tail))

-- a record behind those that wait stands there, in a file that has one batch more with all of them
pub stands_next : (first : ℕ) (bs : Batches) (ws : List (List ℕ)) (r bytes : List ℕ) → HasLog first (with_batch bs (ws ++ r ∷ [])) bytes
    → take (length r) (drop (length (batches first bs) + 29 + length (frames ws)) bytes) ≡ r
stands_next first bs ws r bytes log =
    let has = log.batches_are in
    let tail = has.gate ∷ has.rest in
    let rs = ws ++ r ∷ [] in
    let all = has.bytes_are ∙ ap (λ (b : Batches). batches first b ++ tail) (with_some bs rs (omega (arith, length-push ws r))) ∙ split first bs ws r tail in
    ap (λ (l : List ℕ). take (length r) (drop (length (batches first bs) + 29 + length (frames ws)) l)) all
    ∙ ap (λ (l : List ℕ). take (length r) l) (drop_at (before first bs ws r) (r ++ tail) (length (batches first bs) + 29 + length (frames ws)) (length-before first bs ws r))
    ∙ take_at r tail (length r) refl
