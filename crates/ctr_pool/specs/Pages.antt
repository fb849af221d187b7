-- A page: what is held of it, and what an overlay makes of it.
use Rattle.std.specs.Prelude.{ℕ, ◌+◌, List, ◌++◌, length, take, drop, replicate, if◌then◌else◌}
use Rattle.ctr_rec.specs.declared.record.Overlay.{Overlay}

-- The LSN of the last record in it, and its 4,096 bytes.
pub record PageHeld : Type 0 where
  pub lsn : ℕ
  pub body : List ℕ

-- the bytes of a page with an overlay over them, which may clear it first
abbrev pub overlaid_by : Overlay → List ℕ → List ℕ
overlaid_by o body =
    let under = if o.clear then replicate 4096 0 else body in
    take o.offset under ++ o.bytes ++ drop (o.offset + length o.bytes) under
