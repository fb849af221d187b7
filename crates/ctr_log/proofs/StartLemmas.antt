-- How a generation begins in the other file.
use Rattle.std.proofs.Common.{◌≡◌, inl, inr, ℕ, zero, suc, ◌+◌, ◌^◌, ◌<◌, ◌≤◌, Bool, true, List, [], ◌∷◌, ◌++◌, length, drop, get_or, vec_len, refl, sym, ◌∙◌, ap, subst, arith, length-append, length-drop}
use Rattle.std.proofs.lemmas.List.{append-nil, drop_at}
use Rattle.ctr_types.specs.declared.file.File.{File}
use Rattle.ctr_home.specs.disk_Image.{Image, content, Torn, TornImage, OtherFilesStay}
use Rattle.ctr_home.specs.disk_Disk.{Ghosts}
use Rattle.ctr_home.specs.disk_Device.{LeavesOnly}
use Rattle.ctr_home.proofs.disk_Torn.{torn_byte, same_but}
use Rattle.ctr_home.proofs.disk_Moments.{joined, weaker}
use Rattle.ctr_home.specs.bytes_Fields.{field}
use Rattle.ctr_home.proofs.bytes_FieldLaws.{field-drop}
use Rattle.ctr_log.specs.declared.log.LogFile.TheInside.{Inside}
use Rattle.ctr_log.specs.Logs.{Log, frame, frames, batch, records, sealed, unframed, HasBatches, HasLog, GoesOn, Extends, IsBeforeOrAfter, IsAfter}
use Rattle.ctr_log.specs.LogFile.{log_of, IsWriter}
use Rattle.ctr_log.specs.Reading.{log_file}
use Rattle.ctr_log.specs.Kept.{other_file, next_file, IsDropped, WritesOne, WritesBy, WritesBehind, KeepsPrefix, GoesOnWith, StaysDropped, CanBegin, BeginsFile}
use Rattle.ctr_log.proofs.LogLemmas.{length-unframed, length-frame, length-batch}
use Rattle.ctr_log.proofs.KeptLaws.{shut_front, begun_front, begun_holds, begun_log, kept_two}

-- no number stands past the end
field_none : (n at : ℕ) (bytes : List ℕ) → drop at bytes ≡ [] → n ≡ 8 → field n at bytes ≡ 0
unfolding field
field_none n at bytes none is = ap (λ (l : List ℕ). field n 0 l) none ∙ ap (λ (k : ℕ). field k 0 []) is

-- a byte at the start of a file, where that is open or the file is empty: what was dropped stays so
module _ (file : File) (old c : Image) where
  dropped_torn : (bytes now : List ℕ) → (0 < length bytes → get_or bytes 0 0 ≡ 1) → Torn 0 1 bytes now → (first : ℕ) → 1 ≤ first → IsDropped first bytes → IsDropped first now
  dropped_torn [] [] open_ torn first one dropped = inl (λ e. omega (arith, e))
  dropped_torn [] (x ∷ []) open_ torn first one dropped = inr (omega (arith, one, field_none 8 9 (x ∷ []) refl refl))
  dropped_torn [] (x ∷ y ∷ now) open_ torn first one dropped = let short = torn.no_longer in absurd (omega (arith, short))
  dropped_torn (g ∷ rest) now open_ torn first one (inl shut) = absurd (shut (open_ (omega arith)))
  dropped_torn (g ∷ rest) now open_ torn first one (inr below) =
      let byte = torn_byte [] rest g 0 now refl torn in
      let same : (x : ℕ) → field 8 9 (x ∷ rest) ≡ field 8 8 rest = λ x. sym (field-drop 8 8 1 (x ∷ rest)) in
      inr (omega (arith, below, same g, same byte.0, ap (field 8 9) byte.1))

  pub stays_by_torn : (0 < length (content file old) → get_or (content file old) 0 0 ≡ 1) → TornImage file 0 1 old c → StaysDropped file old c
  stays_by_torn open_ torn = (torn.others, dropped_torn (content file old) (content file c) open_ torn.torn)

pub stays_same : (file : File) (old c : Image) → OtherFilesStay file old old → c ≡ old → StaysDropped file old c
stays_same file old c same is = subst (StaysDropped file old) (sym is) (same, λ first one dropped. dropped)

pub next_other : (n : ℕ) → next_file (log_file n) ≡ other_file n
next_other zero = refl
next_other (suc n) = refl

-- a writer that can start a generation
module _ (a : Inside) (keeps : IsWriter a) (log : Log) (view : log_of a ≡ log) (r : List ℕ) (can : CanBegin (length r) log) (long : vec_len a.buffer ≡ length a.buffer.items) where
  pub none_waits : a.count ≡ 0
  none_waits = omega (arith, length-unframed a.count (drop 20 a.buffer.items), ap length (ap (λ (v : Log). v.buffered) view ∙ can.empty))

  pub only_head : length a.buffer.items ≡ 20
  only_head =
      let empty : drop 20 a.buffer.items ≡ [] = keeps.frames_are ∙ ap (λ (n : ℕ). frames (unframed n (drop 20 a.buffer.items))) none_waits in
      omega (arith, keeps.head, long, ap length empty, length-drop 20 a.buffer.items)

  -- the body that begins a file with this number
  pub starts_at : (n : ℕ) → a.first ≡ n → (bytes items body : List ℕ) → HasBatches n [] bytes → items ≡ a.buffer.items ++ frame r → body ≡ sealed a.first 1 (drop 20 items) → Extends n [] (r ∷ []) 0 body bytes
  starts_at n number_is bytes items body shut put is = record {
    log_is = shut;
    place_is = refl;
    body_is = is ∙ ap (λ (l : List ℕ). sealed a.first 1 l) (ap (drop 20) put ∙ drop_at a.buffer.items (frame r) 20 only_head ∙ sym (append-nil (frame r)))
        ∙ ap (λ (m : ℕ). sealed m 1 (frames (r ∷ []))) (number_is ∙ sym (add_none n));
    is_batch = (omega arith, omega arith);
  }
    where
      add_none : (n : ℕ) → n + 0 ≡ n
      add_none n = omega arith

  -- where a writer goes on in that file, whatever the others have
  pub goes_on_alone : (file : File) (old mid c : Image) (next : Log) → OtherFilesStay file old mid → IsAfter file a.first [] (r ∷ []) mid c → next.file ≡ file → next.start ≡ a.first → next.first ≡ a.first + 1 → next.place ≡ 29 + length r
      → file ≡ next_file a.file → BeginsFile r log next old c
  goes_on_alone file old mid c next stays after here start first place is =
      let n = a.first in
      let to = is ∙ ap (λ (v : Log). next_file v.file) view in
      let number : n ≡ log.first = ap (λ (v : Log). v.first) view in
      record {
        others = subst (λ (f : File). OtherFilesStay f old c) to (same_but file old mid c stays after.0);
        goes_on = subst (λ (m : ℕ). GoesOn m ((r ∷ []) ∷ []) next c) number (record {
          log_is = record { some = omega arith; batches_are = subst (λ (f : File). HasBatches n ((r ∷ []) ∷ []) (content f c)) (sym here) after.1 };
          start = start;
          place = omega (arith, place, length-append (batch n (r ∷ [])) [], length-batch n (r ∷ []), length-append (frame r) [], length-frame r);
          first_is = omega (arith, first);
        });
      }

  module _ (named oldest : ℕ) (image : Image) (writes : WritesBehind named oldest log image) where
    pub one : WritesOne named oldest log image
    one = subst (λ (o : Bool). WritesBy o named oldest log image) can.one writes.by

    pub file_is : (f : File) → f ≡ next_file a.file → f ≡ other_file named
    file_is f is = is ∙ ap (λ (v : Log). next_file v.file) view ∙ ap next_file one.file_is ∙ next_other named

    pub named_is : next_file log.file ≡ other_file named
    named_is = ap next_file one.file_is ∙ next_other named

    abbrev pub number : ℕ
    number = oldest + length (records one.bs)

    number_is : a.first ≡ number
    number_is = ap (λ (v : Log). v.first) view ∙ one.goes_on.first_is

    low : number + 1 < 2 ^ 64
    low = omega (arith, one.goes_on.first_is, can.number)

    short : length (frames (r ∷ [])) < 2 ^ 64
    short = omega (arith, can.small, length-append (frame r) [], length-frame r)

    -- its body
    pub starts_with : (bytes items body : List ℕ) → HasBatches number [] bytes → items ≡ a.buffer.items ++ frame r → body ≡ sealed a.first 1 (drop 20 items) → Extends number [] (r ∷ []) 0 body bytes
    starts_with bytes items body shut put is = starts_at number number_is bytes items body shut put is

    -- what a crash leaves
    module _ {D : Type 0} (g : Ghosts D) (old mid new : D) (image_is : g.reads old ≡ image) (file : File) (is : file ≡ other_file named) where
      abbrev Front : Image → Type 0
      Front = KeepsPrefix (next_file log.file) named oldest (r ∷ []) image

      front_of : (c : Image) → KeepsPrefix (other_file named) named oldest (r ∷ []) image c → Front c
      front_of c front = subst (λ (f : File). KeepsPrefix f named oldest (r ∷ []) image c) (sym named_is) front

      pub shut_leaves : LeavesOnly g old mid (StaysDropped file (g.reads old)) → LeavesOnly g old mid Front
      shut_leaves leaves =
          weaker g old mid (StaysDropped file (g.reads old)) Front leaves (λ c stays.
          front_of c (shut_front named oldest one.bs r image writes.numbered one.holds short low c (subst (λ (i : Image). StaysDropped (other_file named) i c) image_is (subst (λ (f : File). StaysDropped f (g.reads old) c) is stays))))

      module _ (stays : StaysDropped file (g.reads old) (g.reads mid)) where
        stays_there : StaysDropped (other_file named) image (g.reads mid)
        stays_there = subst (λ (i : Image). StaysDropped (other_file named) i (g.reads mid)) image_is (subst (λ (f : File). StaysDropped f (g.reads old) (g.reads mid)) is stays)

        pub begun_leaves : LeavesOnly g old mid (StaysDropped file (g.reads old)) → LeavesOnly g mid new (IsBeforeOrAfter file number [] (r ∷ []) (g.reads mid)) → LeavesOnly g old new Front
        begun_leaves first second =
            joined g old mid new Front (shut_leaves first) (weaker g mid new (IsBeforeOrAfter file number [] (r ∷ []) (g.reads mid)) Front second (λ c step.
            front_of c (begun_front named oldest one.bs r image writes.numbered one.holds short low (g.reads mid) stays_there c (subst (λ (f : File). IsBeforeOrAfter f number [] (r ∷ []) (g.reads mid) c) is step))))

        -- and where the writer goes on
        pub begun : (c : Image) (next : Log) → IsAfter file number [] (r ∷ []) (g.reads mid) c → next.older ≡ true → next.file ≡ file → next.start ≡ a.first → next.first ≡ a.first + 1 → next.place ≡ 29 + length r
            → GoesOnWith named oldest (r ∷ []) next image c
        begun c next after older here start first place =
            let after_there = subst (λ (f : File). IsAfter f number [] (r ∷ []) (g.reads mid) c) is after in
            let holds = begun_holds named oldest one.bs r image writes.numbered one.holds short low (g.reads mid) stays_there c after_there in
            record {
              others = subst (λ (f : File). OtherFilesStay f image c) (sym (here ∙ is)) (same_but (other_file named) image (g.reads mid) c stays_there.0 after_there.0);
              log_is = kept_two named oldest c one.bs ((r ∷ []) ∷ []) holds ∙ sym (begun_log named oldest one.bs r image writes.numbered one.holds short low (g.reads mid) stays_there);
              writes = record {
                numbered = writes.numbered;
                by = subst (λ (o : Bool). WritesBy o named oldest next c) (sym older) (record {
                  bs = one.bs;
                  cs = (r ∷ []) ∷ [];
                  file_is = here ∙ is;
                  goes_on = record {
                    log_is = subst (λ (f : File). HasLog number ((r ∷ []) ∷ []) (content f c)) (sym (here ∙ is)) holds.newer;
                    start = start ∙ number_is;
                    place = omega (arith, place, length-append (batch number (r ∷ [])) [], length-batch number (r ∷ []), length-append (frame r) [], length-frame r);
                    first_is = omega (arith, first, number_is);
                  };
                  holds = holds;
                });
              };
            }
