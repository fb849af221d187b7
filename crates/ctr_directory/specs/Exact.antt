-- When all that is remembered is exact.
use Rattle.std.specs.Prelude.{ℕ, List}
use Rattle.std.specs.List.{All}
use Rattle.ctr_directory.specs.declared.directory.Directory.{Directory}
use Rattle.ctr_directory.specs.Chains.{IsRemembered}

-- Each bucket is remembered as the pages are, where so many are counted.
abbrev pub IsExact : ℕ → (ℕ → List ℕ) → Directory → Type 0
IsExact counted pages d = All (IsRemembered counted pages) d.buckets.items
