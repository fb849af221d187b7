-- How a call that is added to the record goes on what the disk in memory tells.
use Rattle.std.proofs.Common.{◌≡◌, ◌⊎◌, inl, inr, ⊎_elim, ℕ, ◌+◌, ◌-◌, ◌^◌, ◌≤◌, ◌<◌, max, Bool, true, false, ◌||◌, ◌&&◌, if◌then◌else◌, List, [], ◌∷◌, ◌++◌, length, take, get_or, refl, sym, ◌∙◌, ap, subst, arith}
use Rattle.std.proofs.lemmas.List.{take_more}
use Rattle.std.proofs.lemmas.Bool.{le-leb, leb-true}
use Rattle.std.proofs.lemmas.Bool.Decides.{leb_tells}
use Rattle.std.proofs.Math.Dec.{leb}
use Rattle.std.specs.Prelude.{Result, Ok, Err, is_ok, IsOk, IsErr, IfOk, OnOk, MatchResult, nat_le}
use Rattle.ctr_disk.specs.Image.{Image, write_of, TornImage}
use Rattle.ctr_disk.specs.Crash.{Only, Within, Tears, Elapses, HasStray}
use Rattle.ctr_types.specs.Faults.{raised}
use Rattle.ctr_mem_disk.specs.Counting.{outcome_of}
use Rattle.ctr_mem_disk.specs.Memory.{IsCallAnswered, IsStarved}
use Rattle.ctr_mem_disk.specs.Replay.{reads_by, reads_by_call, images_by, images_by_call, LeavesBy, LeavesByCall, reads_after, images_after, images_since, possible_after, possible_since, latest, IsCallRecorded}
use Rattle.ctr_mem_disk.specs.ReplayLaws.{among_of}
use Rattle.ctr_disk.specs.TornLaws.{torn_whole, torn_nothing}
use Rattle.ctr_types.specs.declared.file.File.{File}
use Rattle.ctr_mem_disk.specs.declared.record.Call.{Call}
use Rattle.ctr_mem_disk.specs.declared.record.Call.TheVariants.{Size, Read, Write, Sync}
use Rattle.ctr_mem_disk.specs.declared.record.Outcome.{Outcome}
use Rattle.ctr_mem_disk.specs.declared.record.Outcome.TheVariants.{Done, Failed, Refused}
use Rattle.ctr_mem_disk.specs.declared.record.Recorded.{Recorded}

pub reads-push : (i : Image) (calls : List Recorded) (r : Recorded) → reads_after i (calls ++ r ∷ []) ≡ reads_by r (reads_after i calls)
reads-push i [] r = refl
reads-push i (s ∷ calls) r = reads-push (reads_by s i) calls r

pub images-push : (i : Image) (P : Image → Type 0) (calls : List Recorded) (r : Recorded) (c : Image) → images_after i P (calls ++ r ∷ []) c → images_by r (reads_after i calls) (images_after i P calls) c
images-push i P [] r c is = is
images-push i P (s ∷ calls) r c is = images-push (reads_by s i) (images_by s i P) calls r c is

pub push-images : (i : Image) (P : Image → Type 0) (calls : List Recorded) (r : Recorded) (c : Image) → images_by r (reads_after i calls) (images_after i P calls) c → images_after i P (calls ++ r ∷ []) c
push-images i P [] r c is = is
push-images i P (s ∷ calls) r c is = push-images (reads_by s i) (images_by s i P) calls r c is

latest-push : (calls : List Recorded) (r : Recorded) → latest (calls ++ r ∷ []) ≡ max (latest calls) r.moment
latest-push [] r = omega arith
latest-push (s ∷ calls) r = omega (arith, latest-push calls r)

-- a call that may change no file
abbrev pub IsQuiet : Call → Type 0
IsQuiet (Size file) = Unit {0}
IsQuiet (Read file at n) = Unit {0}
IsQuiet (Write file at bytes) = ⊥
IsQuiet Sync = Unit {0}

-- a call after which each image that was possible still is
abbrev pub KeepsImages : Call → Outcome → Type 0
KeepsImages (Size file) outcome = Unit {0}
KeepsImages (Read file at n) outcome = Unit {0}
KeepsImages (Write file at bytes) Done = ⊥
KeepsImages (Write file at bytes) Failed = ⊥
KeepsImages (Write file at bytes) Refused = Unit {0}
KeepsImages Sync Done = ⊥
KeepsImages Sync Failed = Unit {0}
KeepsImages Sync Refused = Unit {0}

quiet_reads : (call : Call) (outcome : Outcome) (i : Image) → IsQuiet call → reads_by_call call outcome i ≡ i
quiet_reads (Size file) outcome i quiet = refl
quiet_reads (Read file at n) outcome i quiet = refl
quiet_reads (Write file at bytes) outcome i quiet = absurd quiet
quiet_reads Sync outcome i quiet = refl

quiet_images : (call : Call) (outcome : Outcome) (i : Image) (P : Image → Type 0) (c : Image) → IsQuiet call → P i → images_by_call call outcome i P c → P c
quiet_images (Size file) outcome i P c quiet among is = is
quiet_images (Read file at n) outcome i P c quiet among is = is
quiet_images (Write file at bytes) outcome i P c quiet among is = absurd quiet
quiet_images Sync Done i P c quiet among is = subst P (sym is) among
quiet_images Sync Failed i P c quiet among is = is
quiet_images Sync Refused i P c quiet among is = is

kept_images : (call : Call) (outcome : Outcome) (i : Image) (P : Image → Type 0) (c : Image) → KeepsImages call outcome → P c → images_by_call call outcome i P c
kept_images (Size file) outcome i P c keeps is = is
kept_images (Read file at n) outcome i P c keeps is = is
kept_images (Write file at bytes) Done i P c keeps is = absurd keeps
kept_images (Write file at bytes) Failed i P c keeps is = absurd keeps
kept_images (Write file at bytes) Refused i P c keeps is = is
kept_images Sync Done i P c keeps is = absurd keeps
kept_images Sync Failed i P c keeps is = is
kept_images Sync Refused i P c keeps is = is

keeps_refused : (call : Call) (outcome : Outcome) → outcome ≡ Refused → KeepsImages call outcome
keeps_refused (Size file) outcome is = tt
keeps_refused (Read file at n) outcome is = tt
keeps_refused (Write file at bytes) Done is = absurd (cc is)
keeps_refused (Write file at bytes) Failed is = absurd (cc is)
keeps_refused (Write file at bytes) Refused is = tt
keeps_refused Sync Done is = absurd (cc is)
keeps_refused Sync Failed is = tt
keeps_refused Sync Refused is = tt

-- over one call more, the images before it or those after it
since-push : (i : Image) (P : Image → Type 0) (calls : List Recorded) (r : Recorded) (t : ℕ) (c : Image) → images_since i P (calls ++ r ∷ []) t c
    → images_since i P calls t c ⊎ images_after i P (calls ++ r ∷ []) c
since-push i P [] r t c left = ⊎_elim (λ w. inl w.1) (λ is. inr is) left
since-push i P (s ∷ calls) r t c left =
    ⊎_elim (λ w. inl (inl w)) (λ rest. ⊎_elim (λ was. inl (inr was)) (λ is. inr is) (since-push (reads_by s i) (images_by s i P) calls r t c rest)) left

push-since : (i : Image) (P : Image → Type 0) (calls : List Recorded) (r : Recorded) (t : ℕ) (c : Image) → (t < r.moment) ⊎ KeepsImages r.call r.outcome → images_since i P calls t c
    → images_since i P (calls ++ r ∷ []) t c
push-since i P [] r t c how is = ⊎_elim (λ (below : t < r.moment). inl (below, is)) (λ keeps. inr (kept_images r.call r.outcome i P c keeps is)) how
push-since i P (s ∷ calls) r t c how left =
    ⊎_elim (λ w. inl w) (λ rest. inr (push-since (reads_by s i) (images_by s i P) calls r t c how rest)) left

le_or_more : (k n : ℕ) → (k ≤ n) ⊎ (n < k)
le_or_more k n = ⊎_elim (λ (low : (leb k n ≡ true) × (k ≤ n)). inl low.1) (λ (high : (leb k n ≡ false) × (n < k)). inr high.1) (leb_tells k n)

refused_at_last : (strays listed : Bool) (before : ℕ) → 2 ^ 64 - 1 ≤ before → outcome_of (strays || (true && nat_le (2 ^ 64 - 1) before)) listed ≡ Refused
refused_at_last true listed before high = refl
refused_at_last false listed before high = ap (λ b. outcome_of b listed) (le-leb (2 ^ 64 - 1) before high)

refused_fails : {A F T E : Type 0} (value : A) (result : Result A F) (kept : Result T E) (outcome : Outcome) → outcome ≡ Refused
    → IfOk result (λ v. (v ≡ value) × (outcome ≡ Done) × IsOk kept) → IsErr result
refused_fails value (Ok v) kept outcome is done = absurd (cc (is, done.1))
refused_fails value (Err e) kept outcome is done = refl

write_tears : (outcome : Outcome) (file : File) (at : ℕ) (bytes : List ℕ) (i : Image) (P : Image → Type 0) (c : Image)
    → images_by_call (Write file at bytes) outcome i P c → Tears file at (length bytes) P c
write_tears Done file at bytes i P c is = is
write_tears Failed file at bytes i P c is = is
write_tears Refused file at bytes i P c is = (c, is, torn_nothing file at (length bytes) c)

write_torn : (outcome : Outcome) (file : File) (at : ℕ) (bytes : List ℕ) (i : Image) → TornImage file at (length bytes) i (reads_by_call (Write file at bytes) outcome i)
write_torn Done file at bytes i = torn_whole file at bytes i
write_torn Failed file at bytes i = torn_nothing file at (length bytes) i
write_torn Refused file at bytes i = torn_nothing file at (length bytes) i

sync_leaves : (outcome : Outcome) (i : Image) (P : Image → Type 0) (c : Image) → outcome ≡ Done → images_by_call Sync outcome i P c → c ≡ i
sync_leaves Done i P c is left = left
sync_leaves Failed i P c is left = absurd (cc is)
sync_leaves Refused i P c is left = absurd (cc is)

was_done : {A F T E : Type 0} (value : A) (result : Result A F) (kept : Result T E) (outcome : Outcome)
    → IfOk result (λ v. (v ≡ value) × (outcome ≡ Done) × IsOk kept) → IsOk result → outcome ≡ Done
was_done value (Ok v) kept outcome done fine = done.1
was_done value (Err e) kept outcome done fine = absurd (cc fine)

was_lost : {A F E : Type 0} (T : Type 0) (value : A) (result : Result A F) (e : E) (outcome : Outcome)
    → IfOk result (λ v. (v ≡ value) × (outcome ≡ Done) × is_ok {T = T} (Err e) ≡ true) → IsErr result
was_lost T value (Ok v) e outcome done = absurd (cc done.2)
was_lost T value (Err f) e outcome done = refl

module _ {T E : Type 0} where
  -- the last moment of the record
  pub timely_kept : (kept : Result T E) (r : Recorded) (old new : List Recorded) (m : ℕ) → IsCallRecorded kept r old new → latest old ≤ m → r.moment ≤ m → latest new ≤ m
  timely_kept (Ok x) r old new m is low here = omega (arith, ap latest is, latest-push old r, low, here)
  timely_kept (Err e) r old new m is low here = omega (arith, ap latest is, low)

  -- a call that changes no file
  pub replayed_kept : (kept : Result T E) (r : Recorded) (old new : List Recorded) (first present : Image) → IsQuiet r.call → IsCallRecorded kept r old new → present ≡ reads_after first old → present ≡ reads_after first new
  replayed_kept (Ok x) r old new first present quiet is was =
      was ∙ sym (quiet_reads r.call r.outcome (reads_after first old) quiet) ∙ sym (reads-push first old r) ∙ sym (ap (reads_after first) is)
  replayed_kept (Err e) r old new first present quiet is was = was ∙ sym (ap (reads_after first) is)

  pub within_kept : (kept : Result T E) (r : Recorded) (old new : List Recorded) (first present : Image) → IsQuiet r.call → IsCallRecorded kept r old new → present ≡ reads_after first old
      → Within (possible_after first new) (possible_after first old)
  within_kept (Ok x) r old new first present quiet is was c left =
      quiet_images r.call r.outcome (reads_after first old) (possible_after first old) c quiet (subst (possible_after first old) was (among_of first old present was))
      (images-push first (λ d. d ≡ first) old r c (subst (λ l. possible_after first l c) is left))
  within_kept (Err e) r old new first present quiet is was c left = subst (λ l. possible_after first l c) is left

  pub elapses_kept : (kept : Result T E) (r : Recorded) (old new : List Recorded) (first : Image) (m n : ℕ) → (m < r.moment) ⊎ KeepsImages r.call r.outcome → m ≤ n → IsCallRecorded kept r old new
      → Elapses m n (possible_since first old) (possible_since first new) (possible_after first new)
  elapses_kept (Ok x) r old new first m n how later is = record {
    later = later;
    nothing_else = λ t c le left. ⊎_elim
        (λ was. inl was)
        (λ here. inr (subst (λ l. possible_after first l c) (sym is) here))
        (since-push first (λ d. d ≡ first) old r t c (subst (λ l. possible_since first l t c) is left));
    keeps = λ t c le left. subst (λ l. possible_since first l t c) (sym is) (push-since first (λ d. d ≡ first) old r t c
        (⊎_elim (λ (below : m < r.moment). inl (omega (arith, le, below))) (λ keeps. inr keeps) how) left);
  }
  elapses_kept (Err e) r old new first m n how later is = record {
    later = later;
    nothing_else = λ t c le left. inl (subst (λ l. possible_since first l t c) is left);
    keeps = λ t c le left. subst (λ l. possible_since first l t c) (sym is) left;
  }

  -- a write: what a read gives, whole or torn, and what a crash may leave
  pub replayed_write : (kept : Result T E) (r : Recorded) (old new : List Recorded) (first present after : Image) → IsCallRecorded kept r old new
      → MatchResult kept (λ _. after ≡ reads_by r present) (λ _. after ≡ present) → present ≡ reads_after first old → after ≡ reads_after first new
  replayed_write (Ok x) r old new first present after is made was = made ∙ ap (reads_by r) was ∙ sym (reads-push first old r) ∙ sym (ap (reads_after first) is)
  replayed_write (Err e) r old new first present after is made was = made ∙ was ∙ sym (ap (reads_after first) is)

  pub within_write : (kept : Result T E) (file : File) (at : ℕ) (bytes : List ℕ) (outcome : Outcome) (moment : ℕ) (old new : List Recorded) (first : Image)
      → IsCallRecorded kept (record { call = Write file at bytes; outcome = outcome; moment = moment }) old new
      → Within (possible_after first new) (Tears file at (length bytes) (possible_after first old))
  within_write (Ok x) file at bytes outcome moment old new first is c left =
      write_tears outcome file at bytes (reads_after first old) (possible_after first old) c
      (images-push first (λ d. d ≡ first) old (record { call = Write file at bytes; outcome = outcome; moment = moment }) c (subst (λ l. possible_after first l c) is left))
  within_write (Err e) file at bytes outcome moment old new first is c left =
      (c, subst (λ l. possible_after first l c) is left, torn_nothing file at (length bytes) c)

  pub torn_write : (kept : Result T E) (file : File) (at : ℕ) (bytes : List ℕ) (outcome : Outcome) (present after : Image)
      → MatchResult kept (λ _. after ≡ reads_by_call (Write file at bytes) outcome present) (λ _. after ≡ present) → TornImage file at (length bytes) present after
  torn_write (Ok x) file at bytes outcome present after made =
      subst (TornImage file at (length bytes) present) (sym made) (write_torn outcome file at bytes present)
  torn_write (Err e) file at bytes outcome present after made =
      subst (TornImage file at (length bytes) present) (sym made) (torn_nothing file at (length bytes) present)

  module _ {A F : Type 0} (value : A) where
    pub told_write : (result : Result A F) (kept : Result T E) (file : File) (at : ℕ) (bytes : List ℕ) (outcome : Outcome) (present after : Image)
        → IfOk result (λ v. (v ≡ value) × (outcome ≡ Done) × IsOk kept)
        → MatchResult kept (λ _. after ≡ reads_by_call (Write file at bytes) outcome present) (λ _. after ≡ present) → OnOk result (after ≡ write_of file at bytes present)
    told_write (Err e) kept file at bytes outcome present after done made = tt
    told_write (Ok v) (Err e) file at bytes outcome present after done made = absurd (cc done.2)
    told_write (Ok v) (Ok x) file at bytes outcome present after done made =
        made ∙ ap (λ o. reads_by_call (Write file at bytes) o present) done.1

    -- a sync that was carried out
    pub durable_sync : (result : Result A F) (kept : Result T E) (outcome : Outcome) (moment : ℕ) (old new : List Recorded) (first present : Image)
        → IfOk result (λ v. (v ≡ value) × (outcome ≡ Done) × IsOk kept)
        → IsCallRecorded kept (record { call = Sync; outcome = outcome; moment = moment }) old new → present ≡ reads_after first old → OnOk result (Only present (possible_after first new))
    durable_sync (Err e) kept outcome moment old new first present done is was = tt
    durable_sync (Ok v) (Err e) outcome moment old new first present done is was = absurd (cc done.2)
    durable_sync (Ok v) (Ok x) outcome moment old new first present done is was = λ (c : Image) (left : possible_after first new c).
        sync_leaves outcome (reads_after first old) (possible_after first old) c done.1
        (images-push first (λ d. d ≡ first) old (record { call = Sync; outcome = outcome; moment = moment }) c (subst (λ l. possible_after first l c) is left))
        ∙ sym was

    -- a call whose range may end past the last place
    pub stray_kept : (result : Result A F) (kept : Result T E) (strays refused listed : Bool) (outcome : Outcome) (before now place : ℕ)
        → strays ≡ nat_le (2 ^ 63) place → outcome ≡ outcome_of (strays || refused) listed → now ≡ (if strays then raised before else before) → before ≤ now
        → IfOk result (λ v. (v ≡ value) × (outcome ≡ Done) × IsOk kept) → HasStray before now place result
    stray_kept result kept true refused listed outcome before now place at is up later done = record {
      later = later;
      below = λ low. absurd (omega (arith, low, leb-true (2 ^ 63) place (sym at)));
      failed = λ high. refused_fails value result kept outcome is done;
      rose = λ high. omega (arith, up);
    }
    stray_kept result kept false refused listed outcome before now place at is up later done = record {
      later = later;
      below = λ low. up;
      failed = λ high. absurd (cc (at, le-leb (2 ^ 63) place high));
      rose = λ high. absurd (cc (at, le-leb (2 ^ 63) place high));
    }

    -- the call is recorded, or memory was refused
    pub goes_kept : (result : Result A F) (kept : Result T E) (call : Call) (outcome ends : Outcome) (moment at : ℕ) (old new : List Recorded) (before now : ℕ)
        → IsCallRecorded kept (record { call = call; outcome = outcome; moment = moment }) old new → outcome ≡ ends → moment ≡ at → now ≡ (if is_ok kept then before else raised before)
        → IfOk result (λ v. (v ≡ value) × (outcome ≡ Done) × IsOk kept) → (IsOk kept → outcome ≡ Done → IsOk result)
        → IsCallAnswered (record { call = call; outcome = ends; moment = at }) old new before now result ⊎ IsStarved old new before now result
    goes_kept result (Ok x) call outcome ends moment at old new before now is ended when_ up done answers = inl (
      is ∙ ap (λ (o : Outcome). old ++ (record { call = call; outcome = o; moment = moment }) ∷ []) ended ∙ ap (λ (m : ℕ). old ++ (record { call = call; outcome = ends; moment = m }) ∷ []) when_,
      up,
      (λ fine. sym ended ∙ was_done {E = E} value result (Ok x) outcome done fine, λ is_done. answers refl (ended ∙ is_done)),
    )
    goes_kept result (Err e) call outcome ends moment at old new before now is ended when_ up done answers = inr (is, up, was_lost T value result e outcome done)

-- for a call that ticks
pub tick_cases : (call : Call) (strays listed : Bool) (outcome : Outcome) (before now : ℕ) → outcome ≡ outcome_of (strays || (true && nat_le (2 ^ 64 - 1) before)) listed → now ≡ raised before
    → (before < now) ⊎ KeepsImages call outcome
tick_cases call strays listed outcome before now is up =
    ⊎_elim
    (λ high. inr (keeps_refused call outcome (is ∙ refused_at_last strays listed before high)))
    (λ low. inl (omega (arith, up, low)))
    (le_or_more (2 ^ 64 - 1) before)

leaves_images : (call : Call) (outcome : Outcome) (i : Image) (P : Image → Type 0) (d c : Image) → P d → LeavesByCall call outcome i d c → images_by_call call outcome i P c
leaves_images (Write file at bytes) Done i P d c is leaves = (d, is, leaves)
leaves_images (Write file at bytes) Failed i P d c is leaves = (d, is, leaves)
leaves_images (Write file at bytes) Refused i P d c is leaves = subst P (sym leaves) is
leaves_images (Size file) outcome i P d c is leaves = subst P (sym leaves) is
leaves_images (Read file at n) outcome i P d c is leaves = subst P (sym leaves) is
leaves_images Sync Done i P d c is leaves = leaves
leaves_images Sync Failed i P d c is leaves = subst P (sym leaves) is
leaves_images Sync Refused i P d c is leaves = subst P (sym leaves) is

-- one call more of a replay
pub replay-reads : (first : Image) (l : List Recorded) (k : ℕ) (r : Recorded) (i j : Image) → k < length l → r ≡ get_or l k r → i ≡ reads_after first (take k l) → j ≡ reads_by r i
    → j ≡ reads_after first (take (k + 1) l)
replay-reads first l k r i j low at was goes =
    let more : take (k + 1) l ≡ take k l ++ r ∷ [] = take_more l k r low ∙ ap (λ (x : Recorded). take k l ++ x ∷ []) (sym at) in
    goes ∙ ap (reads_by r) was ∙ sym (reads-push first (take k l) r) ∙ sym (ap (reads_after first) more)

pub replay-left : (first : Image) (l : List Recorded) (k : ℕ) (r : Recorded) (i d c : Image) → k < length l → r ≡ get_or l k r → i ≡ reads_after first (take k l)
    → possible_after first (take k l) d → LeavesBy r i d c → possible_after first (take (k + 1) l) c
replay-left first l k r i d c low at was is leaves =
    let more : take (k + 1) l ≡ take k l ++ r ∷ [] = take_more l k r low ∙ ap (λ (x : Recorded). take k l ++ x ∷ []) (sym at) in
    let left : LeavesBy r (reads_after first (take k l)) d c = subst (λ x. LeavesBy r x d c) was leaves in
    subst (λ t. possible_after first t c) (sym more)
    (push-images first (λ e. e ≡ first) (take k l) r c (leaves_images r.call r.outcome (reads_after first (take k l)) (possible_after first (take k l)) d c is left))
