-- What holds of the transactions by which the versions are.
use Rattle.std.proofs.Common.{ℕ, ℤ, List, [], ◌∷◌, Option, None, sym, subst}
use Rattle.std.specs.List.{AllByRecursion}
use Rattle.std.specs.Ordering.{int_cmp}
use Rattle.ctr_model.specs.types_Row.{Row}
use Rattle.ctr_model.specs.State.{same_name, at_rest}
use Rattle.ctr_model.specs.Database.{name_cmp}
use Rattle.ctr_versions.specs.Listing.{chain_at}
use Rattle.ctr_versions.specs.Versions.{Made, Versions, names_at, rows_of, RowsSet, NamesSet}
use Rattle.ctr_versions.specs.Engine.{IsBy, AreBy}
use Rattle.ctr_versions.proofs.Keys.{known, same_text}
use Rattle.ctr_versions.proofs.Written.{slot}

every_by : {V : Type 0} (P : ℕ → Type 0) → ((x : ℕ) → P x) → (chain : List (ℕ × Option V)) → AllByRecursion (IsBy P) chain
every_by P all [] = tt
every_by P all (v ∷ vs) = (all v.0, every_by P all vs)

-- of every transaction
pub by_every : (P : ℕ → Type 0) → ((x : ℕ) → P x) → (versions : Versions) → AreBy P versions
by_every P all versions = record { names = λ name. every_by P all (names_at versions name); rows = λ id key. every_by P all (rows_of versions id key) }

pub all_mapped_by : {V : Type 0} (P Q : ℕ → Type 0) → ((x : ℕ) → P x → Q x) → (chain : List (ℕ × Option V)) → AllByRecursion (IsBy P) chain → AllByRecursion (IsBy Q) chain
all_mapped_by P Q f [] all = tt
all_mapped_by P Q f (v ∷ vs) all = (f v.0 all.0, all_mapped_by P Q f vs all.1)

pub by_mapped : (P Q : ℕ → Type 0) → ((x : ℕ) → P x → Q x) → (versions : Versions) → AreBy P versions → AreBy Q versions
by_mapped P Q f versions are = record { names = λ name. all_mapped_by P Q f (names_at versions name) (are.names name); rows = λ id key. all_mapped_by P Q f (rows_of versions id key) (are.rows id key) }

both_by : {V : Type 0} (P Q : ℕ → Type 0) (chain : List (ℕ × Option V)) → AllByRecursion (IsBy P) chain → AllByRecursion (IsBy Q) chain → AllByRecursion (IsBy (λ x. P x × Q x)) chain
both_by P Q [] p q = tt
both_by P Q (v ∷ vs) p q = ((p.0, q.0), both_by P Q vs p.1 q.1)

pub by_both : (P Q : ℕ → Type 0) (versions : Versions) → AreBy P versions → AreBy Q versions → AreBy (λ x. P x × Q x) versions
by_both P Q versions p q = record { names = λ name. both_by P Q (names_at versions name) (p.names name) (q.names name); rows = λ id key. both_by P Q (rows_of versions id key) (p.rows id key) (q.rows id key) }

-- the chain of a row gave way to another
pub rows_by : (P : ℕ → Type 0) (old new : Versions) (id : ℕ) (key : ℤ) (chain : List (ℕ × Option Row)) → RowsSet old new id key chain → AllByRecursion (IsBy P) chain → AreBy P old → AreBy P new
rows_by P old new id key chain set here are = record {
  names = λ name. subst (λ ns. AllByRecursion (IsBy P) (chain_at name_cmp name ns)) (sym set.names) (are.names name);
  rows = λ i k. slot 0 (λ x. None) (at_rest [] []) old new id key chain set (λ c. AllByRecursion (IsBy P) c) i k (λ one two. here) (λ other. are.rows i k);
}

-- that of a name did
pub names_by : (P : ℕ → Type 0) (old new : Versions) (name : List ℕ) (chain : List (ℕ × Option Made)) → NamesSet old new name chain → AllByRecursion (IsBy P) chain → AreBy P old → AreBy P new
names_by P old new name chain set here are = record {
  names = λ other. known (same_name name other)
      (λ is. let same = same_text name other is in subst (λ m. AllByRecursion (IsBy P) (names_at new m)) same (subst (λ c. AllByRecursion (IsBy P) c) (sym set.here) here))
      (λ is. subst (λ c. AllByRecursion (IsBy P) c) (sym (set.others other is)) (are.names other));
  rows = λ id key. subst (λ s. AllByRecursion (IsBy P) (chain_at int_cmp key s)) (sym (set.slots id)) (are.rows id key);
}
