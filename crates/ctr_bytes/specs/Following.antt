-- Reading one thing behind another.
use Rattle.std.specs.Prelude.{Result, Ok, Err}

infixl 10 ◌>>=◌
-- what follows from the first; a fault ends the reading
abbrev pub ◌>>=◌ : {A B E : Type 0} → Result A E → (A → Result B E) → Result B E
(Ok x) >>= f = f x
(Err e) >>= f = Err e
