-- Which version of a row is sought, by its transaction, and the first of a chain.
use Rattle.std.specs.Prelude.{ℕ, Bool, List, [], ◌∷◌, Option, None, Some, if◌then◌else◌}
use Rattle.std.specs.Option.{option_map}
use Rattle.ctr_names.specs.meta_Tables.{Tables}
use Rattle.ctr_names.specs.area_Areas.{RowVersion}
use Rattle.ctr_names.specs.area_Images.{is_committed_in}
use Rattle.ctr_names.specs.meta_Seen.{xid_is_seen}
use Rattle.ctr_chain.specs.declared.seeking.Sought.{Sought}
use Rattle.ctr_chain.specs.declared.seeking.Sought.TheVariants.{Seen, Committed}

-- the version of a transaction is sought
abbrev pub sought_by : Tables → Sought → ℕ → Bool
sought_by tables (Seen snapshot me) x = xid_is_seen tables snapshot.now me x
sought_by tables Committed x = is_committed_in tables x

-- the first version whose transaction passes, or none
abbrev pub first_version : (ℕ → Bool) → List RowVersion → Option RowVersion
first_version test [] = None
first_version test (v ∷ vs) = if test v.0 then Some v else first_version test vs

-- The transaction of the first version of a chain that passes a test.
abbrev pub first_xid : (ℕ → Bool) → List RowVersion → Option ℕ
first_xid test vs = option_map (λ v. v.0) (first_version test vs)
