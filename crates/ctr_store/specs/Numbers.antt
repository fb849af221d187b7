-- How large the numbers are that tables count with.
use Rattle.std.specs.Prelude.{ℕ, ◌+◌, ◌^◌, ◌<◌, ◌≤◌}
use Rattle.std.specs.List.{AllByRecursion}
use Rattle.ctr_base.specs.meta_Tables.{Tables}

-- no open transaction has more heads than this
abbrev pub HeadsWithin : ℕ → Tables → Type 0
HeadsWithin most t = AllByRecursion (λ (p : ℕ × ℕ). p.1 ≤ most) t.opens

-- the next transaction is at most the one number, and no open transaction has more heads than the
-- other
abbrev pub NumbersWithin : ℕ → ℕ → Tables → Type 0
NumbersWithin next heads t = (t.next ≤ next) × HeadsWithin heads t

-- where this is the next LSN the next transaction is at most 2^62 beyond it, and the heads 2^63
abbrev pub NumbersAt : ℕ → Tables → Type 0
NumbersAt lsn t = NumbersWithin (2 ^ 62 + lsn) (2 ^ 63 + lsn) t

-- So it is, and the next LSN is below 2^63.
abbrev pub NumbersLow : ℕ → Tables → Type 0
NumbersLow lsn t = NumbersAt lsn t × (lsn < 2 ^ 63)
