-- The checks of a file of the log: what it means that they pass, and which of them fails first.
use Rattle.std.proofs.Common.{◌≡◌, ◌≢◌, ◌⊎◌, inl, inr, ℕ, zero, suc, ◌+◌, ◌-◌, ◌^◌, ◌≤◌, ◌<◌, min, max, List, [], ◌∷◌, ◌++◌, length, drop, get_or, refl, sym, ◌∙◌, ap, subst, arith, length-drop, Ok, Err}
use Rattle.std.proofs.lemmas.Bool.{cases_eq}
use Rattle.std.proofs.lemmas.List.{get_or-drop}
use Rattle.std.specs.Prelude.{Result, ⊤}
use Rattle.ctr_types.specs.Damage.{damage_of}
use Rattle.ctr_types.specs.declared.file.File.{File}
use Rattle.ctr_home.specs.disk_Image.{section}
use Rattle.ctr_home.specs.disk_StoreFault.{StoreFault}
use Rattle.ctr_home.specs.disk_StoreFault.TheVariants.{Fault, Damaged}
use Rattle.ctr_home.specs.bytes_Fields.{field}
use Rattle.ctr_home.proofs.bytes_FieldLaws.{field-drop}
use Rattle.ctr_home.specs.declared.checks.Check.{Check}
use Rattle.ctr_home.specs.Checks.{check_of, judged}
use Rattle.ctr_home.proofs.CheckLemmas.{judged_same, judged_fails, all_pass, pass_all}
use Rattle.ctr_log.specs.Damage.{IsDamageOf}
use Rattle.ctr_log.specs.Logs.{frame}
use Rattle.ctr_log.specs.Batch.{HeadFits, CountFits}
use Rattle.ctr_log.specs.LogChecks.{frame_check, behind_frame, frame_checks, frames_in, head_checks, count_checks, frame_bytes, batch_checks, gate_checks, IsThisDamage}
use Rattle.ctr_log.specs.declared.reading.ReadError.{ReadError}
use Rattle.ctr_log.specs.declared.reading.ReadError.TheVariants.{Store, OutOfMemory}
use Rattle.ctr_log.proofs.KeptLaws.{picks, passes}
use Rattle.ctr_log.proofs.ReadLemmas.{frame_length, frame_behind}

-- ---- checks one behind another

-- those that pass are passed over
pub judged-append : (file : File) (xs ys : List Check) → judged file xs ≡ Ok tt → judged file (xs ++ ys) ≡ judged file ys
judged-append file [] ys is = refl
judged-append file (c ∷ xs) ys is = elim (cases_eq c.want c.got) [
  | inl same ↦ judged_same file c (xs ++ ys) same ∙ judged-append file xs ys (sym (judged_same file c xs same) ∙ is)
  | inr differ ↦ let fails = judged_fails file c xs differ in absurd (cc (is, fails))
]

-- what fails first in a front fails first in all
pub judged-front : (file : File) (xs ys : List Check) (e : StoreFault) → judged file xs ≡ Err e → judged file (xs ++ ys) ≡ Err e
judged-front file [] ys e is = absurd (cc is)
judged-front file (c ∷ xs) ys e is = elim (cases_eq c.want c.got) [
  | inl same ↦ judged_same file c (xs ++ ys) same ∙ judged-front file xs ys e (sym (judged_same file c xs same) ∙ is)
  | inr differ ↦ judged_fails file c (xs ++ ys) differ ∙ sym (judged_fails file c xs differ) ∙ is
]

-- what is told is damage of the file
pub judged_damage : (file : File) (cs : List Check) (e : StoreFault) → judged file cs ≡ Err e → IsDamageOf file e
judged_damage file [] e is = absurd (cc is)
judged_damage file (c ∷ cs) e is = elim (cases_eq c.want c.got) [
  | inl same ↦ judged_damage file cs e (sym (judged_same file c cs same) ∙ is)
  | inr differ ↦ let fails = judged_fails file c cs differ in let told : Damaged (damage_of file c.at c.want c.got) ≡ e = cc (fails, is) in subst (IsDamageOf file) told (refl, differ)
]

-- where each passes, no damage is told
pub none_told : (file : File) (cs : List Check) (e : StoreFault) → judged file cs ≡ Err e → judged file cs ≡ Ok tt → ⊥
none_told file cs e fails pass = absurd (cc (fails, pass))

-- ---- what is told

pub this_damage : (d : Result ⊤ StoreFault) (e : StoreFault) → d ≡ Err e → IsThisDamage d (Store e)
this_damage d Fault is = tt
this_damage damage (Damaged d) is = is

pub this_undamaged : (d : Result ⊤ StoreFault) (e : ReadError) → (e ≡ Store Fault) ⊎ (e ≡ OutOfMemory) → IsThisDamage d e
this_undamaged d e (inl is) = subst (IsThisDamage d) (sym is) tt
this_undamaged d e (inr is) = subst (IsThisDamage d) (sym is) tt

-- what a part of the checks tells all of them tell
pub this_more : (d whole : Result ⊤ StoreFault) → ((e : StoreFault) → d ≡ Err e → whole ≡ Err e) → (e : ReadError) → IsThisDamage d e → IsThisDamage whole e
this_more d whole part OutOfMemory told = tt
this_more d whole part (Store Fault) told = tt
this_more damage whole part (Store (Damaged d)) told = part (Damaged d) told

-- ---- a batch's first fields

module _ (file : File) (next gate left : ℕ) (head : List ℕ) where
  pub head_fits : judged file (head_checks next gate left head) ≡ Ok tt → HeadFits head left next
  head_fits is =
      let all = all_pass file (head_checks next gate left head) is in
      let room = all.0 in
      record { room = omega (arith, room); number = sym all.1.0 }

  pub head_unfit : (e : StoreFault) → judged file (head_checks next gate left head) ≡ Err e → HeadFits head left next → ⊥
  head_unfit e is fits =
      let room = fits.room in
      none_told file (head_checks next gate left head) e is (pass_all file (head_checks next gate left head) (omega (arith, room), (sym fits.number, tt)))

module _ (file : File) (found gate : ℕ) (head : List ℕ) where
  pub count_fits : judged file (count_checks found gate head) ≡ Ok tt → CountFits head found
  count_fits is =
      let all = all_pass file (count_checks found gate head) is in
      let some = all.1.0 in
      record { same = sym all.0; some = omega (arith, some) }

  pub count_unfit : (e : StoreFault) → judged file (count_checks found gate head) ≡ Err e → CountFits head found → ⊥
  count_unfit e is fits =
      let some = fits.some in
      none_told file (count_checks found gate head) e is (pass_all file (count_checks found gate head) (sym fits.same, (omega (arith, some), tt)))

-- ---- frames

-- one check alone
pub one_passes : (file : File) (at want got : ℕ) → judged file (check_of at want got ∷ []) ≡ Ok tt → want ≡ got
one_passes file at want got is = (all_pass file (check_of at want got ∷ []) is).0

pub one_fails : (file : File) (at want got : ℕ) (e : StoreFault) → judged file (check_of at want got ∷ []) ≡ Err e → want ≢ got
one_fails file at want got e is same = none_told file (check_of at want got ∷ []) e is (pass_all file (check_of at want got ∷ []) (same, tt))

frame_step : (k at : ℕ) (rest : List ℕ) → 0 < length rest → frame_checks (suc k) at rest ≡ frame_check at rest ++ frame_checks k (at + (8 + field 8 0 rest)) (behind_frame rest)
frame_step k at [] some = absurd (omega (arith, some))
frame_step k at (b ∷ bs) some = refl

count_step : (k : ℕ) (rest : List ℕ) → 0 < length rest → frames_in (suc k) rest ≡ 1 + frames_in k (behind_frame rest)
count_step k [] some = absurd (omega (arith, some))
count_step k (b ∷ bs) some = refl

checks_none : (file : File) (k at : ℕ) (rest : List ℕ) → length rest ≤ 0 → judged file (frame_checks k at rest) ≡ Ok tt
checks_none file zero at rest none = refl
checks_none file (suc k) at [] none = refl
checks_none file (suc k) at (b ∷ bs) none = absurd (omega (arith, none))

count_none : (k : ℕ) (rest : List ℕ) → length rest ≤ 0 → frames_in k rest ≡ 0
count_none zero rest none = refl
count_none (suc k) [] none = refl
count_none (suc k) (b ∷ bs) none = absurd (omega (arith, none))

-- The frames before the rest passed their checks, and are so many; the rest's are left.
pub record FramesLeft (file : File) (at : ℕ) (bytes rest : List ℕ) (count : ℕ) : Type 0 where
  pub k : ℕ
  pub enough : length rest ≤ k
  pub short : length rest ≤ length bytes
  pub checks : judged file (frame_checks (length bytes) at bytes) ≡ judged file (frame_checks k (at + (length bytes - length rest)) rest)
  pub counts : frames_in (length bytes) bytes ≡ count + frames_in k rest

pub left_all : (file : File) (at : ℕ) (bytes : List ℕ) → FramesLeft file at bytes bytes 0
left_all file at bytes = record {
  k = length bytes;
  enough = omega arith;
  short = omega arith;
  checks = ap (λ (n : ℕ). judged file (frame_checks (length bytes) n bytes)) (let e : at ≡ at + (length bytes - length bytes) = omega arith in e);
  counts = omega arith;
}

module _ (file : File) (at : ℕ) (bytes rest : List ℕ) (count : ℕ) (l : FramesLeft file at bytes rest count) where
  abbrev here : ℕ
  here = at + (length bytes - length rest)

  pub left_passes : length rest ≤ 0 → judged file (frame_checks (length bytes) at bytes) ≡ Ok tt
  left_passes none = l.checks ∙ checks_none file l.k here rest none

  pub left_counts : length rest ≤ 0 → count ≡ frames_in (length bytes) bytes
  left_counts none = omega (arith, l.counts, count_none l.k rest none)

  module _ (some : 0 < length rest) where
    less : l.k ≡ suc (l.k - 1)
    less = omega (arith, l.enough, some)

    opened : judged file (frame_checks (length bytes) at bytes) ≡ judged file (frame_check here rest ++ frame_checks (l.k - 1) (here + (8 + field 8 0 rest)) (behind_frame rest))
    opened = l.checks ∙ ap (λ (n : ℕ). judged file (frame_checks n here rest)) less ∙ ap (judged file) (frame_step (l.k - 1) here rest some)

    pub left_fails : (e : StoreFault) → judged file (frame_check here rest) ≡ Err e → judged file (frame_checks (length bytes) at bytes) ≡ Err e
    left_fails e is = opened ∙ judged-front file (frame_check here rest) (frame_checks (l.k - 1) (here + (8 + field 8 0 rest)) (behind_frame rest)) e is

    pub left_less : (r behind : List ℕ) → rest ≡ frame r ++ behind → length rest < 2 ^ 64 → length rest ≡ 8 + length r + length behind → judged file (frame_check here rest) ≡ Ok tt → FramesLeft file at bytes behind (count + 1)
    left_less r behind split few long is =
        let len = frame_length r behind rest split few in
        let tail : behind_frame rest ≡ behind = frame_behind r behind rest split few in
        let place : here + (8 + field 8 0 rest) ≡ at + (length bytes - length behind) = omega (arith, len, long, l.short) in
        record {
          k = l.k - 1;
          enough = omega (arith, l.enough, long);
          short = omega (arith, l.short, long);
          checks = opened ∙ judged-append file (frame_check here rest) (frame_checks (l.k - 1) (here + (8 + field 8 0 rest)) (behind_frame rest)) is
              ∙ ap (λ (n : ℕ). judged file (frame_checks (l.k - 1) n (behind_frame rest))) place
              ∙ ap (λ (t : List ℕ). judged file (frame_checks (l.k - 1) (at + (length bytes - length behind)) t)) tail;
          counts = l.counts ∙ ap (λ (n : ℕ). count + frames_in n rest) less ∙ ap (λ (n : ℕ). count + n) (count_step (l.k - 1) rest some)
              ∙ ap (λ (t : List ℕ). count + (1 + frames_in (l.k - 1) t)) tail ∙ (let e : count + (1 + frames_in (l.k - 1) behind) ≡ count + 1 + frames_in (l.k - 1) behind = omega arith in e);
        }

-- ---- a batch at a gate

-- what a read gives, of a part
pub section-drop : (from at n : ℕ) (bytes : List ℕ) → section at n (drop from bytes) ≡ section (from + at) n bytes
section-drop from at zero bytes = refl
section-drop from at (suc n) bytes =
    ap (λ (x : ℕ). x ∷ section (at + 1) n (drop from bytes)) (get_or-drop from bytes at 0)
    ∙ ap (λ (l : List ℕ). get_or bytes (from + at) 0 ∷ l) (section-drop from (at + 1) n bytes ∙ ap (λ (k : ℕ). section k n bytes) (omega arith))

-- numbers where a read gives them, past the end too
eight_read : (l : List ℕ) → field 8 0 (section 0 20 l) ≡ field 8 0 l
unfolding field
eight_read l = refl

second_read : (l : List ℕ) → field 8 0 (section 0 12 l) ≡ field 8 0 l
unfolding field
second_read l = refl

four_read : (l : List ℕ) → field 4 0 (section 0 4 l) ≡ field 4 0 l
unfolding field
four_read l = refl

module _ (rest : List ℕ) where
  length_at : field 8 1 (section 0 21 rest) ≡ field 8 1 rest
  length_at = sym (field-drop 8 0 1 (section 0 21 rest)) ∙ ap (field 8 0) (sym (section-drop 1 0 20 rest)) ∙ eight_read (drop 1 rest) ∙ field-drop 8 0 1 rest

  first_at : field 8 9 (section 0 21 rest) ≡ field 8 9 rest
  first_at = sym (field-drop 8 0 9 (section 0 21 rest)) ∙ ap (field 8 0) (sym (section-drop 9 0 12 rest)) ∙ second_read (drop 9 rest) ∙ field-drop 8 0 9 rest

  count_at : field 4 17 (section 0 21 rest) ≡ field 4 17 rest
  count_at = sym (field-drop 4 0 17 (section 0 21 rest)) ∙ ap (field 4 0) (sym (section-drop 17 0 4 rest)) ∙ four_read (drop 17 rest) ∙ field-drop 4 0 17 rest

module _ (size gate next : ℕ) (bytes head : List ℕ) (head_is : head ≡ section gate 21 bytes) (size_is : size ≡ length bytes) where
  abbrev behind : List ℕ
  behind = drop gate bytes

  head_at : head ≡ section 0 21 behind
  head_at = head_is ∙ ap (λ (n : ℕ). section n 21 bytes) (let e : gate ≡ gate + 0 = omega arith in e) ∙ sym (section-drop gate 0 21 bytes)

  gate_at : get_or head 0 0 ≡ get_or behind 0 0
  gate_at = ap (λ (l : List ℕ). get_or l 0 0) head_at

  pub length_read : field 8 1 head ≡ field 8 1 behind
  length_read = ap (field 8 1) head_at ∙ length_at behind

  heads : head_checks next gate (size - gate) head ≡ head_checks next gate (length behind) behind
  heads =
      ap (λ (n : ℕ). head_checks next gate n head) (let e : size - gate ≡ length behind = omega (arith, size_is, length-drop gate bytes) in e)
      ∙ ap (λ (n : ℕ). check_of (gate + 1) (min (length behind - 22) n) n ∷ check_of (gate + 9) next (field 8 9 head) ∷ []) length_read
      ∙ ap (λ (n : ℕ). check_of (gate + 1) (min (length behind - 22) (field 8 1 behind)) (field 8 1 behind) ∷ check_of (gate + 9) next n ∷ []) (ap (field 8 9) head_at ∙ first_at behind)

  counts_are : (found : ℕ) → count_checks found gate head ≡ count_checks found gate behind
  counts_are found = ap (λ (n : ℕ). check_of (gate + 17) found n ∷ check_of (gate + 17) (max 1 found) found ∷ []) (ap (field 4 17) head_at ∙ count_at behind)

  pub shut_passes : (file : File) → get_or head 0 0 ≢ 1 → judged file (gate_checks next gate behind) ≡ Ok tt
  shut_passes file shut = ap (judged file) (passes (get_or behind 0 0) 1 (batch_checks next gate behind) [] (λ e. shut (gate_at ∙ e)))

  module _ (file : File) (open_ : get_or head 0 0 ≡ 1) where
    checks_open : gate_checks next gate behind ≡ batch_checks next gate behind
    checks_open = picks (get_or behind 0 0) 1 (batch_checks next gate behind) [] (sym gate_at ∙ open_)

    abbrev part : List ℕ
    part = frame_bytes behind

    abbrev found : ℕ
    found = frames_in (length part) part

    abbrev parts : List Check
    parts = frame_checks (length part) (gate + 21) part ++ count_checks found gate behind

    pub head_told : (e : StoreFault) → judged file (head_checks next gate (size - gate) head) ≡ Err e → judged file (gate_checks next gate behind) ≡ Err e
    head_told e is = ap (judged file) checks_open ∙ judged-front file (head_checks next gate (length behind) behind) parts e (ap (judged file) (sym heads) ∙ is)

    module _ (passed : judged file (head_checks next gate (size - gate) head) ≡ Ok tt) (read : List ℕ) (read_is : read ≡ part) where
      past_head : judged file (gate_checks next gate behind) ≡ judged file parts
      past_head = ap (judged file) checks_open ∙ judged-append file (head_checks next gate (length behind) behind) parts (ap (judged file) (sym heads) ∙ passed)

      frames_are : judged file (frame_checks (length read) (gate + 21) read) ≡ judged file (frame_checks (length part) (gate + 21) part)
      frames_are = ap (λ (l : List ℕ). judged file (frame_checks (length l) (gate + 21) l)) read_is

      pub frames_told : (e : StoreFault) → judged file (frame_checks (length read) (gate + 21) read) ≡ Err e → judged file (gate_checks next gate behind) ≡ Err e
      frames_told e is = past_head ∙ judged-front file (frame_checks (length part) (gate + 21) part) (count_checks found gate behind) e (sym frames_are ∙ is)

      pub count_told : judged file (frame_checks (length read) (gate + 21) read) ≡ Ok tt → (count : ℕ) → count ≡ frames_in (length read) read → judged file (gate_checks next gate behind) ≡ judged file (count_checks count gate head)
      count_told frames_pass count count_is =
          past_head ∙ judged-append file (frame_checks (length part) (gate + 21) part) (count_checks found gate behind) (sym frames_are ∙ frames_pass)
          ∙ ap (judged file) (sym (counts_are found)) ∙ ap (λ (n : ℕ). judged file (count_checks n gate head)) (sym (count_is ∙ ap (λ (l : List ℕ). frames_in (length l) l) read_is))
