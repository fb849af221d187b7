-- What the fields of the numbers stand for.
use Rattle.std.specs.Prelude.{◌≡◌, ℕ, ◌+◌, ◌-◌, ◌<◌, ◌^◌, length, vec_len, vec_capacity}
use Rattle.ctr_txn.specs.declared.numbers.Numbers.TheInside.{Inside}
use Rattle.ctr_txn.specs.Numbered.{NumbersHeld, number_asked, kept_number}

-- the numbers, by the fields of the code
abbrev pub numbers_here : Inside → NumbersHeld
numbers_here a = record {
  first = a.first;
  next = a.first + length a.numbers.items;
  commits = a.commits.items;
  draws = vec_capacity a.numbers - vec_len a.numbers;
  asks = vec_capacity a.commits - vec_len a.commits;
}

-- Each transaction's commit number is kept at its own place, and the next number is one.
pub record AreAtTheirPlaces (a : Inside) : Type 0 where
  pub numbers : (x : ℕ) → kept_number a.first a.numbers.items x ≡ number_asked x a.commits.items
  pub small : a.first + length a.numbers.items < 2 ^ 64
