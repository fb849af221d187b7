-- A file of the log that was read up to a gate.
use Rattle.std.proofs.Common.{◌≡◌, ◌≢◌, ◌⊎◌, inl, inr, ℕ, zero, suc, ◌+◌, ◌-◌, ◌*◌, ◌^◌, ◌≤◌, ◌<◌, List, [], ◌∷◌, ◌++◌, length, take, drop, get_or, refl, sym, ◌∙◌, ap, subst, arith, length-drop, append_assoc, Option, Some, None, Ok, Err}
use Rattle.std.specs.Prelude.{Result, ⊤}
use Rattle.std.proofs.lemmas.Bool.{cases_eq}
use Rattle.std.proofs.lemmas.List.{append-nil, drop-drop, get_or-drop}
use Rattle.ctr_types.specs.declared.file.File.{File}
use Rattle.ctr_home.specs.disk_StoreFault.{StoreFault}
use Rattle.ctr_home.specs.disk_StoreFault.TheVariants.{Fault, Damaged}
use Rattle.ctr_home.specs.disk_Image.{section}
use Rattle.ctr_home.proofs.disk_Sections.{section_within}
use Rattle.ctr_home.specs.bytes_Fields.{field}
use Rattle.ctr_home.proofs.bytes_FieldLaws.{AreBytes}
use Rattle.ctr_log.specs.Damage.{IsDamageOf}
use Rattle.ctr_log.specs.Logs.{Batches, frames, records, HasLog}
use Rattle.ctr_log.specs.Reading.{ReadsLog, RefusesOrFails, AreFrames, HasFrames, ReadsFrames, HasSome}
use Rattle.ctr_home.specs.Checks.{check_of, judged}
use Rattle.ctr_home.proofs.CheckLemmas.{judged_same, pass_all}
use Rattle.ctr_log.specs.LogChecks.{frame_bytes, batch_checks, gate_checks, log_checks, file_damage, if_passed, sound_batch_visits, sound_visits, IsThisDamage}
use Rattle.ctr_log.specs.Batch.{FindsBatch, HeadFits, CountFits, IsRead, OpensBatch, EndsLog}
use Rattle.ctr_log.specs.Visits.{frame_visits}
use Rattle.ctr_log.specs.declared.batches.Batch.{Batch}
use Rattle.ctr_log.specs.declared.visitor.Visit.{Visit}
use Rattle.ctr_log.specs.declared.reading.ReadError.{ReadError}
use Rattle.ctr_log.specs.declared.reading.ReadError.TheVariants.{Store, OutOfMemory}
use Rattle.ctr_log.proofs.KeptLaws.{picks, passes}
use Rattle.ctr_log.proofs.DamageLaws.{length_read, judged-append, judged-front, none_told, this_more}
use Rattle.ctr_log.proofs.ReadLemmas.{Done, LeftOf, done_none, done_more, done_all, left_at_start, left_batch, left_more, left_none, front_length, front_count, front_frames, front_behind, front_long, spelled_head, begins_room, begins_first, begins_count, begins_frames, begins_records, batch_read, length-frames-le}

-- the first gate is open, so there is one
pub some_bytes : (bytes : List ℕ) → get_or bytes 0 0 ≡ 1 → 0 < length bytes
some_bytes [] open_ = absurd (omega (arith, open_))
some_bytes (b ∷ bytes) open_ = omega arith

-- the visits of a batch that was read, and those behind it
module _ (file : File) (next gate k : ℕ) (rest : List ℕ) (b : Batch) (r : IsRead next rest b) (short : length rest < 2 ^ 64) (low : next < 2 ^ 64) where
  pub read_length : field 8 1 rest ≡ length b.frames.items
  read_length = front_length next r.rs r.behind rest r.bytes_are short low r.is_batch ∙ sym (ap length r.frames_are)

  read_count : field 4 17 rest ≡ b.count
  read_count = front_count next r.rs r.behind rest r.bytes_are short low r.is_batch ∙ sym r.count_is

  read_frames : take (field 8 1 rest) (drop 21 rest) ≡ b.frames.items
  read_frames = front_frames next r.rs r.behind rest r.bytes_are short low r.is_batch ∙ sym r.frames_are

  pub read_behind : drop (21 + field 8 1 rest) rest ≡ r.behind
  read_behind = front_behind next r.rs r.behind rest r.bytes_are short low r.is_batch

  pub read_long : length rest ≡ 21 + field 8 1 rest + length r.behind
  read_long = front_long next r.rs r.behind rest r.bytes_are short low r.is_batch

  pub batch_step : judged file (batch_checks next gate rest) ≡ Ok tt → sound_batch_visits file next gate (suc k) rest ≡ frame_visits file next (gate + 21) b.count b.frames.items ++ sound_batch_visits file (next + b.count) (gate + (21 + length b.frames.items)) k r.behind
  batch_step passed =
      let n = field 8 1 rest in
      let whole = frame_visits file next (gate + 21) (field 4 17 rest) (take n (drop 21 rest)) ++ sound_batch_visits file (next + field 4 17 rest) (gate + (21 + n)) k (drop (21 + n) rest) in
      picks (get_or rest 0 0) 1 (if_passed (judged file (batch_checks next gate rest)) whole) [] (ap (λ (l : List ℕ). get_or l 0 0) r.bytes_are)
      ∙ ap (λ (d : Result ⊤ StoreFault). if_passed d whole) passed
      ∙ ap (λ (m : ℕ). frame_visits file next (gate + 21) m (take n (drop 21 rest)) ++ sound_batch_visits file (next + m) (gate + (21 + n)) k (drop (21 + n) rest)) read_count
      ∙ ap (λ (l : List ℕ). frame_visits file next (gate + 21) b.count l ++ sound_batch_visits file (next + b.count) (gate + (21 + n)) k (drop (21 + n) rest)) read_frames
      ∙ ap (λ (l : List ℕ). frame_visits file next (gate + 21) b.count b.frames.items ++ sound_batch_visits file (next + b.count) (gate + (21 + n)) k l) read_behind
      ∙ ap (λ (m : ℕ). frame_visits file next (gate + 21) b.count b.frames.items ++ sound_batch_visits file (next + b.count) (gate + (21 + m)) k r.behind) read_length

-- behind a closed gate nothing stands
pub sound_none : (file : File) (next gate n : ℕ) (rest : List ℕ) → get_or rest 0 0 ≢ 1 → sound_batch_visits file next gate n rest ≡ []
sound_none file next gate zero rest shut = refl
sound_none file next gate (suc n) rest shut =
    passes (get_or rest 0 0) 1 (if_passed (judged file (batch_checks next gate rest)) (frame_visits file next (gate + 21) (field 4 17 rest) (frame_bytes rest) ++ sound_batch_visits file (next + field 4 17 rest) (gate + (21 + field 8 1 rest)) n (drop (21 + field 8 1 rest) rest))) [] shut

-- nor at a batch that is damaged
module _ (file : File) (next gate n : ℕ) (rest : List ℕ) where
  abbrev there : List Visit
  there = frame_visits file next (gate + 21) (field 4 17 rest) (frame_bytes rest) ++ sound_batch_visits file (next + field 4 17 rest) (gate + (21 + field 8 1 rest)) n (drop (21 + field 8 1 rest) rest)

  damaged_by : (d : StoreFault) → judged file (gate_checks next gate rest) ≡ Err d → (get_or rest 0 0 ≡ 1) ⊎ (get_or rest 0 0 ≢ 1) → sound_batch_visits file next gate (suc n) rest ≡ []
  damaged_by d fails (inl open_) =
      picks (get_or rest 0 0) 1 (if_passed (judged file (batch_checks next gate rest)) there) [] open_
      ∙ ap (λ (x : Result ⊤ StoreFault). if_passed x there) (ap (judged file) (sym (picks (get_or rest 0 0) 1 (batch_checks next gate rest) [] open_)) ∙ fails)
  damaged_by d fails (inr shut) = sound_none file next gate (suc n) rest shut

sound_damaged : (file : File) (next gate n : ℕ) (rest : List ℕ) (d : StoreFault) → judged file (gate_checks next gate rest) ≡ Err d → sound_batch_visits file next gate n rest ≡ []
sound_damaged file next gate zero rest d fails = refl
sound_damaged file next gate (suc n) rest d fails = damaged_by file next gate n rest d fails (cases_eq (get_or rest 0 0) 1)

-- Up to this gate the bytes are batches without damage, of which these visits were given; what is left
-- of a log is behind it.
pub record SoFar (file : File) (first : ℕ) (bytes : List ℕ) (gate next : ℕ) (given : List Visit) : Type 0 where
  pub rs : List (List ℕ)
  pub done : Done first bytes (drop gate bytes) rs next
  pub left : (cs : Batches) → HasLog first cs bytes → LeftOf next (drop gate bytes) (records cs) rs
  pub inside : gate < length bytes
  pub more : ℕ
  pub enough : length bytes ≤ gate + more
  pub visits_are : sound_visits file first bytes ≡ given ++ sound_batch_visits file next gate more (drop gate bytes)
  pub damage_is : file_damage file first bytes ≡ judged file (log_checks next gate more (drop gate bytes))

pub so_far_start : (file : File) (first : ℕ) (bytes : List ℕ) → get_or bytes 0 0 ≡ 1 → SoFar file first bytes 0 first []
so_far_start file first bytes open_ = record {
  rs = [];
  done = done_none first bytes;
  left = λ cs log. left_at_start first cs bytes log;
  inside = some_bytes bytes open_;
  more = length bytes;
  enough = omega arith;
  visits_are = refl;
  damage_is = judged_same file (check_of 0 1 (get_or bytes 0 0)) (log_checks first 0 (length bytes) bytes) (sym open_);
}

-- a batch more was read and given
module _ (file : File) (first : ℕ) (bytes : List ℕ) (gate next : ℕ) (given : List Visit) (s : SoFar file first bytes gate next given) where
  abbrev rest : List ℕ
  rest = drop gate bytes

  short_rest : length bytes < 2 ^ 64 → length rest < 2 ^ 64
  short_rest few = omega (arith, few, length-drop gate bytes)

  module _ (b : Batch) (r : IsRead next rest b) (few : length bytes < 2 ^ 64) (low : next < 2 ^ 64) (passed : judged file (gate_checks next gate rest) ≡ Ok tt) where
    abbrev given_more : List Visit
    given_more = given ++ frame_visits file next (gate + 21) b.count b.frames.items

    abbrev gate_more : ℕ
    gate_more = gate + (21 + length b.frames.items)

    behind_is : drop gate_more bytes ≡ r.behind
    behind_is =
        ap (λ (n : ℕ). drop (gate + (21 + n)) bytes) (sym (read_length file next gate 0 rest b r (short_rest few) low))
        ∙ sym (drop-drop (21 + field 8 1 rest) gate bytes) ∙ read_behind file next gate 0 rest b r (short_rest few) low

    is_open : get_or rest 0 0 ≡ 1
    is_open = ap (λ (l : List ℕ). get_or l 0 0) r.bytes_are

    batch_passes : judged file (batch_checks next gate rest) ≡ Ok tt
    batch_passes = ap (judged file) (sym (picks (get_or rest 0 0) 1 (batch_checks next gate rest) [] is_open)) ∙ passed

    left_more_visits : (k : ℕ) → sound_visits file first bytes ≡ given ++ sound_batch_visits file next gate (suc k) rest → sound_visits file first bytes ≡ given_more ++ sound_batch_visits file (next + b.count) gate_more k (drop gate_more bytes)
    left_more_visits k is =
        is ∙ ap (λ (l : List Visit). given ++ l) (batch_step file next gate k rest b r (short_rest few) low batch_passes)
        ∙ sym (append_assoc given (frame_visits file next (gate + 21) b.count b.frames.items) (sound_batch_visits file (next + b.count) gate_more k r.behind))
        ∙ ap (λ (l : List ℕ). given_more ++ sound_batch_visits file (next + b.count) gate_more k l) (sym behind_is)

    -- its checks are passed over
    checks_more : (k : ℕ) → judged file (log_checks next gate (suc k) rest) ≡ judged file (log_checks (next + b.count) gate_more k (drop gate_more bytes))
    checks_more k =
        let n = field 8 1 rest in
        let later = log_checks (next + field 4 17 rest) (gate + (21 + n)) k (drop (21 + n) rest) in
        ap (judged file) (picks (get_or rest 0 0) 1 (batch_checks next gate rest ++ later) [] is_open) ∙ judged-append file (batch_checks next gate rest) later batch_passes
        ∙ ap (λ (m : ℕ). judged file (log_checks (next + m) (gate + (21 + n)) k (drop (21 + n) rest))) (read_count file next gate 0 rest b r (short_rest few) low)
        ∙ ap (λ (l : List ℕ). judged file (log_checks (next + b.count) (gate + (21 + n)) k l)) (read_behind file next gate 0 rest b r (short_rest few) low)
        ∙ ap (λ (m : ℕ). judged file (log_checks (next + b.count) (gate + (21 + m)) k r.behind)) (read_length file next gate 0 rest b r (short_rest few) low)
        ∙ ap (λ (l : List ℕ). judged file (log_checks (next + b.count) gate_more k l)) (sym behind_is)

    step : (more : ℕ) → length bytes ≤ gate + more → sound_visits file first bytes ≡ given ++ sound_batch_visits file next gate more rest → file_damage file first bytes ≡ judged file (log_checks next gate more rest) → SoFar file first bytes gate_more (next + b.count) given_more
    step zero enough is damage = absurd (omega (arith, enough, s.inside))
    step (suc k) enough is damage = record {
      rs = s.rs ++ r.rs;
      done = subst (λ (l : List ℕ). Done first bytes l (s.rs ++ r.rs) (next + b.count)) (sym behind_is) (
          subst (λ (n : ℕ). Done first bytes r.behind (s.rs ++ r.rs) (next + n)) (sym r.count_is) (
          done_more first bytes rest r.behind s.rs (s.rs ++ r.rs) r.rs next s.done r.bytes_are r.is_batch refl));
      left = λ cs log. subst (λ (l : List ℕ). LeftOf (next + b.count) l (records cs) (s.rs ++ r.rs)) (sym behind_is) (
          subst (λ (n : ℕ). LeftOf (next + n) r.behind (records cs) (s.rs ++ r.rs)) (sym r.count_is) (
          left_more next rest r.behind (records cs) s.rs r.rs (s.left cs log) r.bytes_are r.is_batch (short_rest few) low));
      inside = omega (arith, s.inside, r.gate, read_length file next gate 0 rest b r (short_rest few) low, read_long file next gate 0 rest b r (short_rest few) low, length-drop gate bytes);
      more = k;
      enough = omega (arith, enough);
      visits_are = left_more_visits k is;
      damage_is = damage ∙ checks_more k;
    }

    pub so_far_more : (gate2 next2 : ℕ) → gate2 ≡ gate_more → next2 ≡ next + b.count → SoFar file first bytes gate2 next2 given_more
    so_far_more gate2 next2 gate_is next_is =
        subst (λ (n : ℕ). SoFar file first bytes n next2 given_more) (sym gate_is) (
        subst (λ (n : ℕ). SoFar file first bytes gate_more n given_more) (sym next_is) (step s.more s.enough s.visits_are s.damage_is))

  -- behind a closed gate nothing is left
  module _ (shut : get_or rest 0 0 ≢ 1) where
    pub so_far_all : sound_visits file first bytes ≡ given
    so_far_all = s.visits_are ∙ ap (λ (l : List Visit). given ++ l) (sound_none file next gate s.more rest shut) ∙ append-nil given

    so_far_reads : get_or bytes 0 0 ≡ 1 → ReadsLog first bytes s.rs gate next
    so_far_reads open_ = done_all first bytes rest s.rs next gate s.done (omega (arith, s.inside, length-drop gate bytes)) shut open_ (omega (arith, s.inside, length-drop gate bytes))

    pub so_far_end : get_or bytes 0 0 ≡ 1 → EndsLog first bytes gate next
    so_far_end open_ = (s.rs, so_far_reads open_)

    pub so_far_only : (cs : Batches) → HasLog first cs bytes → next ≡ first + length (records cs)
    so_far_only cs log =
        omega (arith, ap length (left_none next rest (records cs) s.rs (s.left cs log) shut), ap length s.done.records_are, s.done.next_is)

    -- and no check failed
    pub so_far_passes : file_damage file first bytes ≡ Ok tt
    so_far_passes = s.damage_is ∙ ap (judged file) (none_left s.more)
      where
        none_left : (n : ℕ) → log_checks next gate n rest ≡ []
        none_left zero = refl
        none_left (suc n) =
            passes (get_or rest 0 0) 1 (batch_checks next gate rest ++ log_checks (next + field 4 17 rest) (gate + (21 + field 8 1 rest)) n (drop (21 + field 8 1 rest) rest)) [] shut

  -- a check that fails at the gate is the first of all
  so_far_fails : (e : StoreFault) → judged file (gate_checks next gate rest) ≡ Err e → file_damage file first bytes ≡ Err e
  so_far_fails e is = s.damage_is ∙ by_gate s.more s.enough (cases_eq (get_or rest 0 0) 1)
    where
      by_gate : (n : ℕ) → length bytes ≤ gate + n → (get_or rest 0 0 ≡ 1) ⊎ (get_or rest 0 0 ≢ 1) → judged file (log_checks next gate n rest) ≡ Err e
      by_gate zero enough gate_is = absurd (omega (arith, enough, s.inside))
      by_gate (suc n) enough (inl open_) =
          let later = log_checks (next + field 4 17 rest) (gate + (21 + field 8 1 rest)) n (drop (21 + field 8 1 rest) rest) in
          ap (judged file) (picks (get_or rest 0 0) 1 (batch_checks next gate rest ++ later) [] open_)
          ∙ judged-front file (batch_checks next gate rest) later e (ap (judged file) (sym (picks (get_or rest 0 0) 1 (batch_checks next gate rest) [] open_)) ∙ is)
      by_gate (suc n) enough (inr shut) = let none = ap (judged file) (passes (get_or rest 0 0) 1 (batch_checks next gate rest) [] shut) in absurd (cc (none, is))

  pub so_far_tells : (e : ReadError) → IsThisDamage (judged file (gate_checks next gate rest)) e → IsThisDamage (file_damage file first bytes) e
  so_far_tells e told = this_more (judged file (gate_checks next gate rest)) (file_damage file first bytes) so_far_fails e told

  -- where one fails there, nothing is left
  pub so_far_rest : (d : StoreFault) → judged file (gate_checks next gate rest) ≡ Err d → sound_batch_visits file next gate s.more rest ≡ []
  so_far_rest d fails = sound_damaged file next gate s.more rest d fails

  -- where a log stands, a batch stands behind an open gate
  pub so_far_opens : HasSome first bytes → OpensBatch next rest
  so_far_opens has open_ = left_batch next rest (records has.0) s.rs (s.left has.0 has.1) open_

-- where the first gate isn't open, nothing is read
pub gate_none : (file : File) (first : ℕ) (bytes : List ℕ) (d : StoreFault) → judged file (check_of 0 1 (get_or bytes 0 0) ∷ []) ≡ Err d → sound_visits file first bytes ≡ []
gate_none file first bytes d fails =
    sound_none file first 0 (length bytes) bytes (λ open_. absurd (none_told file (check_of 0 1 (get_or bytes 0 0) ∷ []) d fails (pass_all file (check_of 0 1 (get_or bytes 0 0) ∷ []) (sym open_, tt))))

-- what isn't there isn't part of more
pub fails_more : (file : File) (P Q : Type 0) → (Q → P) → (e : ReadError) → RefusesOrFails file P e → RefusesOrFails file Q e
fails_more file P Q part OutOfMemory refused = tt
fails_more file P Q part (Store Fault) refused = tt
fails_more file P Q part (Store (Damaged d)) refused = (refused.0, λ q. refused.1 (part q))

pub refuses_store : (file : File) (P : Type 0) (e : StoreFault) → IsDamageOf file e → (P → ⊥) → RefusesOrFails file P (Store e)
refuses_store file P Fault is lacks = tt
refuses_store file P (Damaged d) is lacks = (is, lacks)

pub refuses_undamaged : (file : File) (P : Type 0) (e : ReadError) → (e ≡ Store Fault) ⊎ (e ≡ OutOfMemory) → RefusesOrFails file P e
refuses_undamaged file P e (inl fault) = subst (RefusesOrFails file P) (sym fault) tt
refuses_undamaged file P e (inr want) = subst (RefusesOrFails file P) (sym want) tt

-- a part that was read, past the end too
part_read : (from n : ℕ) (bytes : List ℕ) → n ≤ length (drop from bytes) - 22 → section (from + 21) n bytes ≡ take n (drop 21 (drop from bytes))
part_read from zero bytes fits = refl
part_read from (suc n) bytes fits =
    section_within (from + 21) (suc n) bytes (omega (arith, fits, length-drop from bytes)) ∙ ap (λ (l : List ℕ). take (suc n) l) (sym (drop-drop 21 from bytes))

-- the head of a batch was read at a gate
module _ (size gate next : ℕ) (bytes head : List ℕ) (head_is : head ≡ section gate 21 bytes) (size_is : size ≡ length bytes) (few : length bytes < 2 ^ 64) (low : next < 2 ^ 64) where
  abbrev behind_gate : List ℕ
  behind_gate = drop gate bytes

  head_at : 21 ≤ length behind_gate → head ≡ take 21 behind_gate
  head_at long = head_is ∙ section_within gate 21 bytes (omega (arith, long, length-drop gate bytes))

  pub gate_read : get_or head 0 0 ≡ get_or behind_gate 0 0
  gate_read =
      ap (λ (l : List ℕ). get_or l 0 0) head_is
      ∙ sym (get_or-drop gate bytes 0 0 ∙ ap (λ (k : ℕ). get_or bytes k 0) (let e : gate + 0 ≡ gate = omega arith in e))

  few_behind : length behind_gate < 2 ^ 64
  few_behind = omega (arith, few, length-drop gate bytes)

  module _ (open_ : get_or head 0 0 ≡ 1) where
    opened : get_or behind_gate 0 0 ≡ 1
    opened = sym gate_read ∙ open_

    -- where it doesn't fit, no batch stands there
    pub head_lacks : (HeadFits head (size - gate) next → ⊥) → OpensBatch next behind_gate → ⊥
    head_lacks lacks opens =
        let b = opens opened in
        lacks (record {
          room = omega (arith, begins_room next behind_gate head head_at few_behind low b, length-drop gate bytes, size_is);
          number = begins_first next behind_gate head head_at few_behind low b;
        })

    module _ (len : ℕ) (part : List ℕ) (len_is : len ≡ field 8 1 head) (fits : HeadFits head (size - gate) next) (part_is : part ≡ section (gate + 21) len bytes) where
      len_fits : len ≤ length behind_gate - 22
      len_fits = omega (arith, len_is, fits.room, size_is, length-drop gate bytes)

      part_len : part ≡ take len (drop 21 behind_gate)
      part_len = part_is ∙ part_read gate len bytes len_fits

      part_at : part ≡ take (field 8 1 head) (drop 21 behind_gate)
      part_at = part_len ∙ ap (λ (n : ℕ). take n (drop 21 behind_gate)) len_is

      -- the frames of the batch that stands there
      pub part_whole : part ≡ frame_bytes behind_gate
      part_whole = part_len ∙ ap (λ (n : ℕ). take n (drop 21 behind_gate)) (len_is ∙ length_read size gate next bytes head head_is size_is)

      pub frames_lack : (AreFrames part → ⊥) → OpensBatch next behind_gate → ⊥
      frames_lack lacks opens =
          let b = opens opened in
          lacks (b.rs, begins_frames next behind_gate head head_at few_behind low b part part_at)

      module _ (count : ℕ) (has : HasFrames part count) (part_few : length part < 2 ^ 64) where
        pub count_lacks : (CountFits head count → ⊥) → OpensBatch next behind_gate → ⊥
        count_lacks lacks opens =
            let b = opens opened in
            let same = begins_records next behind_gate head head_at few_behind low b part part_at has.0 has.1 part_few in
            lacks (record {
              same = begins_count next behind_gate head head_at few_behind low b ∙ sym same ∙ sym has.2;
              some = let some = b.is_batch.0 in omega (arith, some, same, has.2);
            })

        pub batch_found : AreBytes head → field 4 17 head < 2 ^ 32 → CountFits head count → (b : Batch) → b.frames.items ≡ part → b.count ≡ count → IsRead next behind_gate b
        batch_found below small counts b frames_are count_is =
            let frames_read : ReadsFrames part [] has.0 count = record { rs = has.0; bytes_are = has.1; added = refl; count = has.2 } in
            let reads =
            batch_read next len count behind_gate head part (drop len (drop 21 behind_gate)) [] has.0 frames_read head_at (spelled_head behind_gate head head_at below) opened len_is len_fits fits.number counts.same small counts.some part_len refl in
            record {
              rs = reads.rs;
              behind = drop len (drop 21 behind_gate);
              bytes_are = reads.bytes_are;
              is_batch = reads.is_batch;
              gate = reads.gate;
              frames_are = frames_are ∙ has.1 ∙ ap frames reads.added;
              count_is = count_is ∙ reads.count;
            }

-- none was read
pub no_batch : (next : ℕ) (tail : List ℕ) (o : Option Batch) → ((b : Batch) → o ≡ Some b → ⊥) → FindsBatch next tail o → get_or tail 0 0 ≢ 1
no_batch next tail None none finds = finds
no_batch next tail (Some b) none finds = absurd (none b refl)

-- each record takes 8 bytes at least
pub few_more : (first gate next n count : ℕ) (frames_ : List ℕ) → n ≡ length frames_ → HasFrames frames_ count → 8 * next ≤ 8 * first + gate → 8 * (next + count) ≤ 8 * first + (gate + (21 + n))
few_more first gate next n count frames_ is has few = omega (arith, is, few, has.2, ap length has.1, length-frames-le has.0)

pub low_more : (gate n long : ℕ) → n ≡ long → long < 2 ^ 61 → gate < 2 ^ 61 → gate + (21 + n) < 2 ^ 63
low_more gate n long is small low = omega (arith, is, small, low)

pub place_low : (gate n long : ℕ) → n ≡ long → long < 2 ^ 61 → gate < 2 ^ 61 → gate + 21 + n < 2 ^ 63
place_low gate n long is small low = omega (arith, is, small, low)

pub range_low : (at n m long : ℕ) → n ≡ m → m ≡ long → at < 2 ^ 62 → long < 2 ^ 61 → at + n < 2 ^ 63
range_low at n m long is made low small = omega (arith, is, made, low, small)

pub frames_low : (n len : ℕ) → n ≡ len → len < 2 ^ 61 → n < 2 ^ 61
frames_low n len is small = omega (arith, is, small)

pub next_low : (first gate next count : ℕ) (frames_ : List ℕ) → first ≤ 2 ^ 63 + 2 ^ 60 → gate < 2 ^ 61 → length frames_ < 2 ^ 61 → HasFrames frames_ count → 8 * next ≤ 8 * first + gate → next + count < 2 ^ 64
next_low first gate next count frames_ start low small has few = omega (arith, start, low, small, few, has.2, ap length has.1, length-frames-le has.0)
