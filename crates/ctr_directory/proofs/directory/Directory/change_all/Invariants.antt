use Rattle.std.proofs.Common.{◌≡◌, ℕ, List, length}
use Rattle.std.specs.List.{All, AllWithin}
use Rattle.ctr_directory.specs.Chains.{IsRemembered, ChangesPage}
use Rattle.ctr_directory.proofs.directory.Directory.change_all.Given as goal

abbrev pub invariant-loop-i : goal.invariant-loop-i
invariant-loop-i l =
    (length l.self.buckets.items ≡ l.i-end)
    × ((a b : ℕ → List ℕ) → ChangesPage l.number l.span l.before l.page a b → All (IsRemembered l.counted a) l.fn.self.buckets.items
    → AllWithin (IsRemembered l.counted b) l.self.buckets.items 0 l.i × AllWithin (IsRemembered l.counted a) l.self.buckets.items l.i l.i-end)
