-- What a session sees of a transaction, by how the tables say that it stands now.
use Rattle.std.specs.Prelude.{ℕ, ◌==◌, Bool, not, ◌&&◌, Option}
use Rattle.ctr_snap.specs.Seeing.{SnapshotTaken, is_committed, sees, sees_or_own}
use Rattle.ctr_meta.specs.Tables.{Tables, fate_in}

-- A session sees what a transaction did, by how the tables say that it stands now. The number 0 is
-- nobody's.
abbrev pub xid_is_seen : Tables → SnapshotTaken → Option ℕ → ℕ → Bool
xid_is_seen tables s me x = not (x == 0) && sees_or_own s me (fate_in x tables) x

-- a transaction is committed that the snapshot doesn't see
abbrev pub xid_is_changed : Tables → SnapshotTaken → ℕ → Bool
xid_is_changed tables s x =
    not (x == 0) && (is_committed (fate_in x tables) && not (sees s (fate_in x tables) x))
