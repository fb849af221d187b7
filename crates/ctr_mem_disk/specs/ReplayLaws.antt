-- Laws of a replay, by which the disk in memory keeps the trait's.
use Rattle.std.proofs.Common.{◌≡◌, inl, inr, ⊎_elim, ℕ, ◌≤◌, List, [], ◌∷◌, subst, sym, refl, arith, length}
use Rattle.ctr_disk.specs.Image.{Image}
use Rattle.ctr_mem_disk.specs.Replay.{reads_by, reads_by_call, images_by, images_by_call, reads_after, images_after, images_since, possible_after, possible_since, latest}
use Rattle.ctr_disk.specs.TornLaws.{torn_whole, torn_nothing}
use Rattle.ctr_mem_disk.specs.declared.record.Call.{Call}
use Rattle.ctr_mem_disk.specs.declared.record.Call.TheVariants.{Size, Read, Write, Sync}
use Rattle.ctr_mem_disk.specs.declared.record.Outcome.{Outcome}
use Rattle.ctr_mem_disk.specs.declared.record.Outcome.TheVariants.{Done, Failed, Refused}
use Rattle.ctr_mem_disk.specs.declared.record.Recorded.{Recorded}

-- the images at the end count since any moment
counts_at_end : (i : Image) (P : Image → Type 0) (calls : List Recorded) (t : ℕ) (c : Image)
    → images_after i P calls c → images_since i P calls t c
counts_at_end i P [] t c is = is
counts_at_end i P (r ∷ calls) t c is =
    inr (counts_at_end (reads_by r i) (images_by r i P) calls t c is)

-- since the latest moment there are no others
only_at_end : (i : Image) (P : Image → Type 0) (calls : List Recorded) (m : ℕ) (c : Image)
    → latest calls ≤ m → images_since i P calls m c → images_after i P calls c
only_at_end i P [] m c le left = left
only_at_end i P (r ∷ calls) m c le left =
    ⊎_elim (λ w. absurd (omega (arith, le, w.0)))
    (only_at_end (reads_by r i) (images_by r i P) calls m c (omega (arith, le))) left

from_earlier : (i : Image) (P : Image → Type 0) (calls : List Recorded) (s t : ℕ) (c : Image)
    → s ≤ t → images_since i P calls t c → images_since i P calls s c
from_earlier i P [] s t c le left = left
from_earlier i P (r ∷ calls) s t c le left =
    ⊎_elim (λ w. inl (omega (arith, le, w.0), w.1))
    (λ rest. inr (from_earlier (reads_by r i) (images_by r i P) calls s t c le rest)) left

-- a call keeps what a read gives among the images
reads_among_by : (call : Call) (outcome : Outcome) (i : Image) (P : Image → Type 0) → P i
    → images_by_call call outcome i P (reads_by_call call outcome i)
reads_among_by (Write file at bytes) Done i P is = (i, is, torn_whole file at bytes i)
reads_among_by (Write file at bytes) Failed i P is = (i, is, torn_nothing file at (length bytes) i)
reads_among_by (Write file at bytes) Refused i P is = is
reads_among_by (Size file) outcome i P is = is
reads_among_by (Read file at n) outcome i P is = is
reads_among_by Sync Done i P is = refl
reads_among_by Sync Failed i P is = is
reads_among_by Sync Refused i P is = is

reads_among : (i : Image) (P : Image → Type 0) (calls : List Recorded) → P i
    → images_after i P calls (reads_after i calls)
reads_among i P [] is = is
reads_among i P (r ∷ calls) is =
    reads_among (reads_by r i) (images_by r i P) calls (reads_among_by r.call r.outcome i P is)

-- ---- the laws of the trait, of a disk that held this image at first and has recorded these calls
module _ (first : Image) (calls : List Recorded) where
  -- the images at this moment count since any moment
  pub counts_now_of : (t : ℕ) (c : Image) → possible_after first calls c
      → possible_since first calls t c
  counts_now_of t c is = counts_at_end first (λ d. d ≡ first) calls t c is

  -- since the latest moment there are no others
  pub only_now_of : (m : ℕ) (c : Image) → latest calls ≤ m → possible_since first calls m c
      → possible_after first calls c
  only_now_of m c le left = only_at_end first (λ d. d ≡ first) calls m c le left

  -- what was possible since a moment was so since an earlier one
  pub earlier_of : (s t : ℕ) (c : Image) → s ≤ t → possible_since first calls t c
      → possible_since first calls s c
  earlier_of s t c le left = from_earlier first (λ d. d ≡ first) calls s t c le left

  -- what a read gives is one of the images
  pub among_of : (now : Image) → now ≡ reads_after first calls → possible_after first calls now
  among_of now is =
      subst (possible_after first calls) (sym is) (reads_among first (λ d. d ≡ first) calls refl)
