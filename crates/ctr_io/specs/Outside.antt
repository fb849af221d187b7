-- What a source gives and what a sink takes.
use Rattle.std.specs.Prelude.{◌≡◌, ℕ, List, ◌++◌, take}

-- the first n bytes of the buffer were the next of the source
abbrev pub TakesNext : ℕ → List ℕ → List ℕ → List ℕ → Type 0
TakesNext n buffer old new = old ≡ take n buffer ++ new

-- the first n bytes were put behind those that were there
abbrev pub PutsNext : ℕ → List ℕ → List ℕ → List ℕ → Type 0
PutsNext n bytes old new = new ≡ old ++ take n bytes
