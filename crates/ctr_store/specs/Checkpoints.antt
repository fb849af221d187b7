-- The Checkpoint that begins a generation of the log, by the tables.
use Rattle.std.specs.Prelude.{◌≡◌, ℕ, ◌+◌, ◌*◌, ◌^◌, List, [], ◌∷◌, length, Result, Ok, Err, ⊤}
use Rattle.ctr_rec.specs.bytes_Following.{◌>>=◌}
use Rattle.ctr_rec.specs.declared.decoding.BadRecord.{BadRecord}
use Rattle.ctr_rec.specs.Damage.{at_most}
use Rattle.ctr_rec.specs.Spelling.{checkpoint_bytes}
use Rattle.ctr_rec.specs.declared.record.Record.TheVariants.{Checkpoint}
use Rattle.ctr_base.specs.meta_Tables.{Tables}
use Rattle.ctr_base.specs.meta_Effects.{listed}
use Rattle.ctr_base.specs.meta_Kept.{IsLogged}
use Rattle.ctr_store.specs.declared.checkpoint.Unmade.{Unmade}
use Rattle.ctr_store.specs.declared.checkpoint.Unmade.TheVariants.{OutOfMemory, Unfit}

-- transactions have at most 2^62 heads each; those of the first stand at this place of a Checkpoint
abbrev pub heads_need : ℕ → List (ℕ × ℕ) → Result ⊤ BadRecord
heads_need at [] = Ok tt
heads_need at (p ∷ ps) = at_most at (2 ^ 62) p.1 >>= λ _. heads_need (at + 16) ps

-- What the Checkpoint of tables needs of them: the heads of each transaction, open and aborted, are
-- at most 2^62. The first that are more are a row of damage.
abbrev pub checkpoint_need : Tables → Result ⊤ BadRecord
checkpoint_need t = heads_need 25 t.opens >>= λ _. heads_need (33 + 16 * length t.opens) t.aborted

-- Bytes are the Checkpoint of tables: it lists the next transaction, each that is open, each that
-- is in the aborted transaction map, and the items of the secondary log.
pub record SpellsTables (t : Tables) (bytes : List ℕ) : Type 0 where
  pub lists : List ℕ
  pub bytes_are : bytes ≡ checkpoint_bytes t.next lists
  pub logged : IsLogged (Checkpoint t.next lists)
  pub listed_are : listed t.next lists ≡ t
  pub long : length bytes ≡ 34 + 16 * (length t.opens + length t.aborted) + 13 * length t.items

-- Why a Checkpoint of tables wasn't made: memory was refused, or they don't meet its need.
abbrev pub IsUnmade : Tables → Unmade → Type 0
IsUnmade t OutOfMemory = Unit {0}
IsUnmade t (Unfit bad) = checkpoint_need t ≡ Err bad
