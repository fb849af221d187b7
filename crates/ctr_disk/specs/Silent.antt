-- For a disk, a source or a sink that tells nothing.
use Rattle.std.specs.Prelude.{◌≡◌, true, false}

-- what would hold of content that is told
pub never_told : {A : Type 0} → false ≡ true → A
never_told told = absurd (cc told)
