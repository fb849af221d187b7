-- What a source and a sink in memory show.
use Rattle.std.specs.Prelude.{◌≡◌, ◌==◌, ◌⊎◌, ℕ, Bool, List, [], drop, Result, is_err, IsErr}
use Rattle.std.specs.List.{list_any}
use Rattle.ctr_types.specs.Faults.{raised}
use Rattle.ctr_io.specs.declared.calls.Calls.{Calls}
use Rattle.ctr_io.specs.declared.memory.MemSource.{MemSource}
use Rattle.ctr_io.specs.declared.memory.MemSink.{MemSink}

-- ---- calls

-- no call was made yet, of which these fail and one moves so many bytes at most
abbrev pub fresh_calls : List ℕ → ℕ → Calls
fresh_calls fails most = record { most = most; fails = fails; made = 0; faults = 0 }

-- the next call is in the list of those that fail
abbrev pub is_listed : Calls → Bool
is_listed c = list_any (λ n. n == raised c.made) c.fails

-- a call is counted, and what is listed and how much one moves stays
pub record CallCounts (old new : Calls) : Type 0 where
  pub counted : new.made ≡ raised old.made
  pub most_stays : new.most ≡ old.most
  pub fails_stay : new.fails ≡ old.fails

-- ---- a source

-- the bytes that a source has left
abbrev pub bytes_left : MemSource → List ℕ
bytes_left s = drop s.at s.bytes

-- the calls that it has counted
abbrev pub takes : MemSource → Calls
takes s = s.calls

-- a new source has these bytes left
pub record SourceStarts (bytes fails : List ℕ) (most : ℕ) (s : MemSource) : Type 0 where
  pub left : bytes_left s ≡ bytes
  pub fresh : takes s ≡ fresh_calls fails most

-- ---- a sink

-- the bytes that were put on a sink
abbrev pub bytes_put : MemSink → List ℕ
bytes_put s = s.bytes.items

-- the calls that it has counted
abbrev pub puts : MemSink → Calls
puts s = s.calls

-- how many calls failed since memory was refused
abbrev pub starved_puts : MemSink → ℕ
starved_puts s = s.starved

-- a new sink has taken nothing
pub record SinkStarts (fails : List ℕ) (most : ℕ) (s : MemSink) : Type 0 where
  pub put : bytes_put s ≡ []
  pub fresh : puts s ≡ fresh_calls fails most
  pub starved_are : starved_puts s ≡ 0

-- a call fails exactly where it is listed, or memory was refused and that is counted
abbrev pub PutFails : {T E : Type 0} → MemSink → MemSink → Result T E → Type 0
PutFails old new result =
    ((starved_puts new ≡ starved_puts old) × (is_err result ≡ is_listed (puts old)))
    ⊎ ((starved_puts new ≡ raised (starved_puts old)) × IsErr result)
