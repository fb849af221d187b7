-- The log of an image as a function says what the relations say.
use Rattle.std.proofs.Common.{◌≡◌, ◌≢◌, inl, inr, ⊎_elim, ℕ, zero, suc, ◌+◌, ◌^◌, ◌<◌, ◌≤◌, ◌==◌, Bool, true, false, if◌then◌else◌, List, [], ◌∷◌, ◌++◌, length, take, drop, get_or, refl, sym, ◌∙◌, ap, subst, arith, length-append, append_assoc}
use Rattle.std.proofs.lemmas.List.{append-nil, take_all, take_at, drop_at, drop-drop}
use Rattle.std.proofs.lemmas.Bool.Decides.{eqb_tells, nat_tests}
use Rattle.ctr_types.specs.declared.file.File.{File}
use Rattle.ctr_home.specs.disk_Image.{Image, content, OtherFilesStay}
use Rattle.ctr_home.specs.disk_Disk.{Ghosts}
use Rattle.ctr_home.specs.disk_Device.{LeavesOnly}
use Rattle.ctr_home.specs.disk_TornLaws.{torn_nothing}
use Rattle.ctr_disk.proofs.Moments.{weaker}
use Rattle.ctr_disk.proofs.Torn.{same_but}
use Rattle.ctr_home.specs.bytes_Fields.{field}
use Rattle.ctr_bytes.proofs.FieldLaws.{field-drop}
use Rattle.ctr_log.specs.Logs.{Batches, frames, batch, batches, records, AreBatches, HasBatches, HasLog, Log, GoesOn, unframed, IsBeforeOrAfter, IsAfter, with_batch}
use Rattle.ctr_log.specs.Reading.{log_file}
use Rattle.ctr_log.specs.Kept.{logged, log_in, kept_in, kept_log, other_file, IsDropped, AreShort, HoldsOne, HoldsTwo, HoldsLog, WritesBy, KeepsPrefix, GoesOnWith, StaysDropped}
use Rattle.ctr_log.proofs.LogLemmas.{length-push, records-push, unframed-frames, batch_length, batch_first, batch_count, batch_frames}

pub picks : {A : Type 0} (a b : ℕ) (x y : A) → a ≡ b → (if a == b then x else y) ≡ x
picks a b x y is = ⊎_elim (λ w. ap (λ (t : Bool). if t then x else y) w.0) (λ w. absurd (w.1 is)) (eqb_tells a b)

pub passes : {A : Type 0} (a b : ℕ) (x y : A) → a ≢ b → (if a == b then x else y) ≡ y
passes a b x y isnt = ⊎_elim (λ w. absurd (isnt w.1)) (λ w. ap (λ (t : Bool). if t then x else y) w.0) (eqb_tells a b)

-- a field behind an open gate
behind_gate : (n at : ℕ) (gate : ℕ) (bytes : List ℕ) → field n (at + 1) (gate ∷ bytes) ≡ field n at bytes
behind_gate n at gate bytes = ap (λ (k : ℕ). field n k (gate ∷ bytes)) (omega arith) ∙ sym (field-drop n at 1 (gate ∷ bytes))

-- the records up to a closed gate are those of the batches
pub logged_is : (n first : ℕ) (bs : Batches) (gate : ℕ) (rest : List ℕ) → gate ≢ 1 → AreBatches bs → AreShort bs → first + length (records bs) < 2 ^ 64 → length bs < n
    → logged n (batches first bs ++ gate ∷ rest) ≡ records bs
logged_is zero first bs gate rest shut are short low few = absurd (omega (arith, few))
logged_is (suc n) first [] gate rest shut are short low few = passes gate 1 (unframed (field 4 17 (gate ∷ rest)) (take (field 8 1 (gate ∷ rest)) (drop 21 (gate ∷ rest))) ++ logged n (drop (21 + field 8 1 (gate ∷ rest)) (gate ∷ rest))) [] shut
logged_is (suc n) first (rs ∷ bs) gate rest shut are short low few =
    let next = first + length rs in
    let tail = batches next bs ++ gate ∷ rest in
    let bytes = 1 ∷ (batch first rs ++ tail) in
    let whole : batches first (rs ∷ bs) ++ gate ∷ rest ≡ bytes = ap (λ (l : List ℕ). 1 ∷ l) (append_assoc (batch first rs) (batches next bs) (gate ∷ rest)) in
    let sum = length-append rs (records bs) in
    let long : length (frames rs) < 2 ^ 64 = short.0 in
    let below : first < 2 ^ 64 = omega (arith, low) in
    let batch_fits = are.0 in
    let len : field 8 1 bytes ≡ length (frames rs) = behind_gate 8 0 1 (batch first rs ++ tail) ∙ batch_length first rs tail long below batch_fits.1 in
    let count : field 4 17 bytes ≡ length rs = behind_gate 4 16 1 (batch first rs ++ tail) ∙ batch_count first rs tail long below batch_fits.1 in
    let behind : drop 21 bytes ≡ frames rs ++ tail = batch_frames first rs tail long below batch_fits.1 in
    let first_part : unframed (field 4 17 bytes) (take (field 8 1 bytes) (drop 21 bytes)) ≡ rs =
    ap (λ (k : ℕ). unframed k (take (field 8 1 bytes) (drop 21 bytes))) count ∙ ap (λ (k : ℕ). unframed (length rs) (take k (drop 21 bytes))) len
    ∙ ap (λ (l : List ℕ). unframed (length rs) (take (length (frames rs)) l)) behind ∙ ap (unframed (length rs)) (take_at (frames rs) tail (length (frames rs)) refl) ∙ unframed-frames rs long in
    let rest_part : drop (21 + field 8 1 bytes) bytes ≡ tail =
    ap (λ (k : ℕ). drop (21 + k) bytes) len ∙ sym (drop-drop (length (frames rs)) 21 bytes) ∙ ap (drop (length (frames rs))) behind ∙ drop_at (frames rs) tail (length (frames rs)) refl in
    ap (logged (suc n)) whole ∙ ap (λ (l : List (List ℕ)). l ++ logged n (drop (21 + field 8 1 bytes) bytes)) first_part ∙ ap (λ (l : List ℕ). rs ++ logged n l) rest_part
    ∙ ap (λ (l : List (List ℕ)). rs ++ l) (logged_is n next bs gate rest shut are.1 short.1 (omega (arith, low, sum)) (omega (arith, few)))

few_batches : (first : ℕ) (bs : Batches) → length bs ≤ length (batches first bs)
few_batches first [] = omega arith
few_batches first (rs ∷ bs) = let n = few_batches (first + length rs) bs in omega (arith, n, length-append (batch first rs) (batches (first + length rs) bs))

-- the records of a file are those of its batches
pub log_in_is : (first : ℕ) (bs : Batches) (bytes : List ℕ) → HasBatches first bs bytes → AreShort bs → first + length (records bs) < 2 ^ 64 → log_in bytes ≡ records bs
log_in_is first bs bytes has short low =
    let few = few_batches first bs in
    let size : length bytes ≡ length (batches first bs) + (length has.rest + 1) = omega (arith, ap length has.bytes_are, length-append (batches first bs) (has.gate ∷ has.rest)) in
    ap (logged (length bytes)) has.bytes_are ∙ logged_is (length bytes) first bs has.gate has.rest has.closed has.each short low (omega (arith, few, size))

-- a log begins at its first number
pub begins : (first : ℕ) (bs : Batches) (bytes : List ℕ) → HasLog first bs bytes → AreShort bs → first < 2 ^ 64 → (get_or bytes 0 0 ≡ 1) × (field 8 9 bytes ≡ first)
begins first bs bytes log short low = by_batches bs log.some log.batches_are.each log.batches_are.bytes_are short
  where
    by_batches : (bs : Batches) → 0 < length bs → AreBatches bs → bytes ≡ batches first bs ++ log.batches_are.gate ∷ log.batches_are.rest → AreShort bs → (get_or bytes 0 0 ≡ 1) × (field 8 9 bytes ≡ first)
    by_batches [] some each is fits = absurd (omega (arith, some))
    by_batches (rs ∷ bs) some each is fits =
        let next = first + length rs in
        let tail = batches next bs ++ log.batches_are.gate ∷ log.batches_are.rest in
        let split : bytes ≡ 1 ∷ (batch first rs ++ tail) = is ∙ ap (λ (l : List ℕ). 1 ∷ l) (append_assoc (batch first rs) (batches next bs) (log.batches_are.gate ∷ log.batches_are.rest)) in
        let long : length (frames rs) < 2 ^ 64 = fits.0 in
        let one = each.0 in (
          ap (λ (l : List ℕ). get_or l 0 0) split,
          ap (field 8 9) split ∙ behind_gate 8 8 1 (batch first rs ++ tail) ∙ batch_first first rs tail long low one.1,
        )

-- a generation that goes on is taken in
goes_in : (next : ℕ) (named other : List ℕ) (first : ℕ) → first + length (log_in named) ≡ next → get_or other 0 0 ≡ 1 → field 8 9 other ≡ next → kept_in first named other ≡ log_in named ++ log_in other
goes_in next named other first is open_ number = grind (arith, nat_tests)

-- and one that was dropped isn't
stays_out : (named other : List ℕ) (first : ℕ) → IsDropped first other → kept_in first named other ≡ log_in named
stays_out named other first (inl shut) = grind (arith, nat_tests)
stays_out named other first (inr below) = grind (arith, nat_tests)

module _ (file first : ℕ) (image : Image) where
  pub kept_one : (bs : Batches) → HoldsOne file first bs image → kept_log file first image ≡ records bs
  kept_one bs holds =
      stays_out (content (log_file file) image) (content (other_file file) image) first holds.dropped
      ∙ log_in_is first bs (content (log_file file) image) holds.named.batches_are holds.short holds.low

  pub kept_two : (bs cs : Batches) → HoldsTwo file first bs cs image → kept_log file first image ≡ records bs ++ records cs
  kept_two bs cs holds =
      let next = first + length (records bs) in
      let named = content (log_file file) image in
      let other = content (other_file file) image in
      let low = holds.low in
      let older : log_in named ≡ records bs = log_in_is first bs named holds.named.batches_are holds.short (omega (arith, low)) in
      let newer : log_in other ≡ records cs = log_in_is next cs other holds.newer.batches_are holds.newer_short low in
      let head = begins next cs other holds.newer holds.newer_short (omega (arith, low)) in
      goes_in next named other first (omega (arith, ap length older)) head.0 head.1 ∙ ap (λ (l : List (List ℕ)). l ++ log_in other) older ∙ ap (λ (l : List (List ℕ)). records bs ++ l) newer

  -- an image holds no other log than the one that the function says
  pub holds_is : (rs : List (List ℕ)) → HoldsLog file first rs image → kept_log file first image ≡ rs
  holds_is rs (inl one) = kept_one one.0 one.2 ∙ one.1
  holds_is rs (inr two) = kept_two two.0 two.1 two.3 ∙ two.2

-- ---- one file is written, the other stays

other_stays : (n : ℕ) (old new : Image) → OtherFilesStay (log_file n) old new → content (other_file n) new ≡ content (other_file n) old
other_stays zero old new same = ap (λ (i : Image). i.log_b) same
other_stays (suc n) old new same = ap (λ (i : Image). i.log_a) same

named_stays : (n : ℕ) (old new : Image) → OtherFilesStay (other_file n) old new → content (log_file n) new ≡ content (log_file n) old
named_stays zero old new same = ap (λ (i : Image). i.log_a) same
named_stays (suc n) old new same = ap (λ (i : Image). i.log_b) same

short-push : (bs : Batches) (rs : List (List ℕ)) → AreShort bs → length (frames rs) < 2 ^ 64 → AreShort (bs ++ rs ∷ [])
short-push [] rs each short = (short, tt)
short-push (x ∷ bs) rs each short = (each.0, short-push bs rs each.1 short)

pushed : (bs : Batches) (rs : List (List ℕ)) → length (records (bs ++ rs ∷ [])) ≡ length (records bs) + length rs
pushed bs rs = ap length (records-push bs rs) ∙ length-append (records bs) rs

-- one batch more behind the one generation
module _ (file first : ℕ) (bs : Batches) (rs : List (List ℕ)) (old : Image) (holds : HoldsOne file first bs old) (short : length (frames rs) < 2 ^ 64) (low : first + length (records bs) + length rs < 2 ^ 64) where
  log_one : (all : Batches) (c : Image) → 0 < length all → HasBatches first all (content (log_file file) c) → HasLog first all (content (log_file file) c)
  log_one all c some has = record { some = some; batches_are = has }

  dropped_one : (c : Image) → OtherFilesStay (log_file file) old c → IsDropped first (content (other_file file) c)
  dropped_one c same = subst (IsDropped first) (sym (other_stays file old c same)) holds.dropped

  pub one_after : (c : Image) → IsAfter (log_file file) first bs rs old c → HoldsOne file first (bs ++ rs ∷ []) c
  one_after c after = record {
    named = log_one (bs ++ rs ∷ []) c (omega (arith, length-push bs rs)) after.1;
    short = short-push bs rs holds.short short;
    low = omega (arith, low, pushed bs rs);
    dropped = dropped_one c after.0;
  }

  pub one_log : kept_log file first old ++ rs ≡ records (bs ++ rs ∷ [])
  one_log = ap (λ (l : List (List ℕ)). l ++ rs) (kept_one file first old bs holds) ∙ sym (records-push bs rs)

  pub one_front : (c : Image) → IsBeforeOrAfter (log_file file) first bs rs old c → KeepsPrefix (log_file file) file first rs old c
  one_front c (same, inl before) = record {
    others = same;
    count = 0;
    holds = inl (bs, sym (append-nil (kept_log file first old) ∙ kept_one file first old bs holds), record { named = log_one bs c holds.named.some before; short = holds.short; low = holds.low; dropped = dropped_one c same });
  }
  one_front c (same, inr after) = record {
    others = same;
    count = length rs;
    holds = inl (bs ++ rs ∷ [], sym (ap (λ (l : List (List ℕ)). kept_log file first old ++ l) (take_all (length rs) rs (omega arith)) ∙ one_log), one_after c (same, after));
  }

-- one batch more behind the newer of two
module _ (file first : ℕ) (bs cs : Batches) (rs : List (List ℕ)) (old : Image) (holds : HoldsTwo file first bs cs old) (short : length (frames rs) < 2 ^ 64)
    (low : first + length (records bs) + length (records cs) + length rs < 2 ^ 64) where
  abbrev next : ℕ
  next = first + length (records bs)

  named_two : (c : Image) → OtherFilesStay (other_file file) old c → HasLog first bs (content (log_file file) c)
  named_two c same = subst (HasLog first bs) (sym (named_stays file old c same)) holds.named

  pub two_after : (c : Image) → IsAfter (other_file file) next cs rs old c → HoldsTwo file first bs (cs ++ rs ∷ []) c
  two_after c after = record {
    named = named_two c after.0;
    short = holds.short;
    newer = record { some = omega (arith, length-push cs rs); batches_are = after.1 };
    newer_short = short-push cs rs holds.newer_short short;
    low = omega (arith, low, pushed cs rs);
  }

  pub two_log : kept_log file first old ++ rs ≡ records bs ++ records (cs ++ rs ∷ [])
  two_log =
      ap (λ (l : List (List ℕ)). l ++ rs) (kept_two file first old bs cs holds) ∙ append_assoc (records bs) (records cs) rs
      ∙ ap (λ (l : List (List ℕ)). records bs ++ l) (sym (records-push cs rs))

  pub two_front : (c : Image) → IsBeforeOrAfter (other_file file) next cs rs old c → KeepsPrefix (other_file file) file first rs old c
  two_front c (same, inl before) = record {
    others = same;
    count = 0;
    holds = inr (
      bs,
      cs,
      sym (append-nil (kept_log file first old) ∙ kept_two file first old bs cs holds),
      record {
        named = named_two c same;
        short = holds.short;
        newer = record { some = holds.newer.some; batches_are = before };
        newer_short = holds.newer_short;
        low = holds.low;
      },
    );
  }
  two_front c (same, inr after) = record {
    others = same;
    count = length rs;
    holds = inr (bs, cs ++ rs ∷ [], sym (ap (λ (l : List (List ℕ)). kept_log file first old ++ l) (take_all (length rs) rs (omega arith)) ∙ two_log), two_after c (same, after));
  }

-- ---- a generation begins in the other file

module _ (file first : ℕ) (bs : Batches) (r : List ℕ) (old : Image) (numbered : 1 ≤ first) (holds : HoldsOne file first bs old) (short : length (frames (r ∷ [])) < 2 ^ 64) (low : first + length (records bs) + 1 < 2 ^ 64) where
  -- its first gate is shut
  pub shut_holds : (c : Image) → StaysDropped (other_file file) old c → HoldsOne file first bs c
  shut_holds c stays = record {
    named = subst (HasLog first bs) (sym (named_stays file old c stays.0)) holds.named;
    short = holds.short;
    low = holds.low;
    dropped = stays.1 first numbered holds.dropped;
  }

  pub shut_front : (c : Image) → StaysDropped (other_file file) old c → KeepsPrefix (other_file file) file first (r ∷ []) old c
  shut_front c stays = record {
    others = stays.0;
    count = 0;
    holds = inl (bs, sym (append-nil (kept_log file first old) ∙ kept_one file first old bs holds), shut_holds c stays);
  }

  -- and its first batch is written there
  module _ (mid : Image) (stays : StaysDropped (other_file file) old mid) where
    abbrev number : ℕ
    number = first + length (records bs)

    pub begun_holds : (c : Image) → IsAfter (other_file file) number [] (r ∷ []) mid c → HoldsTwo file first bs ((r ∷ []) ∷ []) c
    begun_holds c after = record {
      named = subst (HasLog first bs) (sym (named_stays file mid c after.0)) (shut_holds mid stays).named;
      short = holds.short;
      newer = record { some = omega arith; batches_are = after.1 };
      newer_short = (short, tt);
      low = omega (arith, low);
    }

    pub begun_log : kept_log file first old ++ r ∷ [] ≡ records bs ++ records ((r ∷ []) ∷ [])
    begun_log = ap (λ (l : List (List ℕ)). l ++ r ∷ []) (kept_one file first old bs holds)

    pub begun_front : (c : Image) → IsBeforeOrAfter (other_file file) number [] (r ∷ []) mid c → KeepsPrefix (other_file file) file first (r ∷ []) old c
    begun_front c (same, inl before) = record {
      others = same_but (other_file file) old mid c stays.0 same;
      count = 0;
      holds = inl (
        bs,
        sym (append-nil (kept_log file first old) ∙ kept_one file first old bs holds),
        record {
          named = subst (HasLog first bs) (sym (named_stays file mid c same)) (shut_holds mid stays).named;
          short = holds.short;
          low = holds.low;
          dropped = inl (λ one. before.closed (sym (ap (λ (l : List ℕ). get_or l 0 0) before.bytes_are) ∙ one));
        },
      );
    }
    begun_front c (same, inr after) = record {
      others = same_but (other_file file) old mid c stays.0 same;
      count = 1;
      holds = inr (bs, (r ∷ []) ∷ [], sym begun_log, begun_holds c (same, after));
    }

-- ---- a flush, by whether an older generation is kept

module _ {D : Type 0} (g : Ghosts D) (old new : D) (named oldest : ℕ) (log : Log) (image : Image) (rs : List (List ℕ)) (short : length (frames rs) < 2 ^ 64) (low : log.first + length rs < 2 ^ 64) where
  abbrev Front : Image → Type 0
  Front = KeepsPrefix log.file named oldest rs image

  pub kept_leaves : (o : Bool) → WritesBy o named oldest log image → ((first : ℕ) (bs : Batches) → GoesOn first bs log image → LeavesOnly g old new (IsBeforeOrAfter log.file first bs rs image)) → LeavesOnly g old new Front
  kept_leaves false w wrote =
      let first_is = w.goes_on.first_is in
      weaker g old new (IsBeforeOrAfter log.file oldest w.bs rs image) Front (wrote oldest w.bs w.goes_on) (λ c step.
      subst (λ (f : File). KeepsPrefix f named oldest rs image c) (sym w.file_is)
      (one_front named oldest w.bs rs image w.holds short (omega (arith, low, first_is)) c (subst (λ (f : File). IsBeforeOrAfter f oldest w.bs rs image c) w.file_is step)))
  kept_leaves true w wrote =
      let first_is = w.goes_on.first_is in
      let next = oldest + length (records w.bs) in
      weaker g old new (IsBeforeOrAfter log.file next w.cs rs image) Front (wrote next w.cs w.goes_on) (λ c step.
      subst (λ (f : File). KeepsPrefix f named oldest rs image c) (sym w.file_is)
      (two_front named oldest w.bs w.cs rs image w.holds short (omega (arith, low, first_is)) c (subst (λ (f : File). IsBeforeOrAfter f next w.cs rs image c) w.file_is step)))

-- an image holds the log that the writer goes on behind
pub front_same : (named oldest : ℕ) (log : Log) (image : Image) (rs : List (List ℕ)) (o : Bool) → WritesBy o named oldest log image → KeepsPrefix log.file named oldest rs image image
front_same named oldest log image rs false w = record {
  others = (torn_nothing log.file 0 0 image).others;
  count = 0;
  holds = inl (w.bs, sym (append-nil (kept_log named oldest image) ∙ kept_one named oldest image w.bs w.holds), w.holds);
}
front_same named oldest log image rs true w = record {
  others = (torn_nothing log.file 0 0 image).others;
  count = 0;
  holds = inr (w.bs, w.cs, sym (append-nil (kept_log named oldest image) ∙ kept_two named oldest image w.bs w.cs w.holds), w.holds);
}

-- the records with one batch more, where there are any
with_records : (bs : Batches) (rs : List (List ℕ)) → records (with_batch bs rs) ≡ records bs ++ rs
with_records bs [] = sym (append-nil (records bs))
with_records bs (r ∷ rs) = records-push bs (r ∷ rs)

with_short : (bs : Batches) (rs : List (List ℕ)) → AreShort bs → length (frames rs) < 2 ^ 64 → AreShort (with_batch bs rs)
with_short bs [] each short = each
with_short bs (r ∷ rs) each short = short-push bs (r ∷ rs) each short

-- and where the writer goes on
module _ (named oldest : ℕ) (log next : Log) (image c : Image) (rs : List (List ℕ)) (short : length (frames rs) < 2 ^ 64) (low : log.first + length rs < 2 ^ 64) (numbered : 1 ≤ oldest) (file_is : next.file ≡ log.file)
    (wrote : (first : ℕ) (bs : Batches) → GoesOn first bs log image → OtherFilesStay log.file image c × GoesOn first (with_batch bs rs) next c) where
  pub kept_goes_on : (o : Bool) → next.older ≡ o → WritesBy o named oldest log image → GoesOnWith named oldest rs next image c
  kept_goes_on false older w =
      let step = wrote oldest w.bs w.goes_on in
      let all = with_batch w.bs rs in
      let here : next.file ≡ log_file named = file_is ∙ w.file_is in
      let same = subst (λ (f : File). OtherFilesStay f image c) w.file_is step.0 in
      let count = ap length (with_records w.bs rs) ∙ length-append (records w.bs) rs in
      let first_is = w.goes_on.first_is in
      let holds : HoldsOne named oldest all c = record {
        named = subst (λ (f : File). HasLog oldest all (content f c)) here step.1.log_is;
        short = with_short w.bs rs w.holds.short short;
        low = omega (arith, low, first_is, count);
        dropped = subst (IsDropped oldest) (sym (other_stays named image c same)) w.holds.dropped;
      } in
      record {
        others = subst (λ (f : File). OtherFilesStay f image c) (sym file_is) step.0;
        log_is = kept_one named oldest c all holds ∙ with_records w.bs rs ∙ ap (λ (l : List (List ℕ)). l ++ rs) (sym (kept_one named oldest image w.bs w.holds));
        writes = record { numbered = numbered; by = subst (λ (o : Bool). WritesBy o named oldest next c) (sym older) (record { bs = all; file_is = here; goes_on = step.1; holds = holds }) };
      }
  kept_goes_on true older w =
      let number = oldest + length (records w.bs) in
      let step = wrote number w.cs w.goes_on in
      let all = with_batch w.cs rs in
      let here : next.file ≡ other_file named = file_is ∙ w.file_is in
      let same = subst (λ (f : File). OtherFilesStay f image c) w.file_is step.0 in
      let count = ap length (with_records w.cs rs) ∙ length-append (records w.cs) rs in
      let first_is = w.goes_on.first_is in
      let holds : HoldsTwo named oldest w.bs all c = record {
        named = subst (HasLog oldest w.bs) (sym (named_stays named image c same)) w.holds.named;
        short = w.holds.short;
        newer = subst (λ (f : File). HasLog number all (content f c)) here step.1.log_is;
        newer_short = with_short w.cs rs w.holds.newer_short short;
        low = omega (arith, low, first_is, count);
      } in
      record {
        others = subst (λ (f : File). OtherFilesStay f image c) (sym file_is) step.0;
        log_is = kept_two named oldest c w.bs all holds ∙ ap (λ (l : List (List ℕ)). records w.bs ++ l) (with_records w.cs rs) ∙ sym (append_assoc (records w.bs) (records w.cs) rs)
            ∙ ap (λ (l : List (List ℕ)). l ++ rs) (sym (kept_two named oldest image w.bs w.cs w.holds));
        writes = record { numbered = numbered; by = subst (λ (o : Bool). WritesBy o named oldest next c) (sym older) (record { bs = w.bs; cs = all; file_is = here; goes_on = step.1; holds = holds }) };
      }
