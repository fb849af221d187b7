-- What was looked at on a page that is lent.
use Rattle.std.proofs.Common.{◌≡◌, ℕ, ◌<◌, ◌≤◌, List, Result, Ok, Err, ap, subst}
use Rattle.std.specs.Prelude.{⊤}
use Rattle.ctr_bytes.specs.Following.{◌>>=◌}
use Rattle.ctr_rec.specs.declared.decoding.BadRecord.{BadRecord}
use Rattle.ctr_rec.proofs.Reading.{bind_ok}
use Rattle.ctr_page.specs.declared.checks.Chain.TheVariants.{Versions}
use Rattle.ctr_page.specs.declared.rows.Place.{Place}
use Rattle.ctr_page.specs.Damage.{header_check}
use Rattle.ctr_pvs.specs.walk_TableOf.{TableOf}
use Rattle.ctr_pvs.specs.Table.{there_check}
use Rattle.ctr_pvs.specs.walk_Tables.{kinds_said}
use Rattle.ctr_pvs.specs.Reading.{kept_on_check}
use Rattle.ctr_pvs.proofs.Told.{within, by_there}
use Rattle.ctr_chain.specs.declared.looking.KeptLook.{KeptLook}
use Rattle.ctr_chain.specs.Looking.{LooksAtEntry}

-- of a page that isn't counted nothing is read
pub looks_on : (counted : ℕ) (t : TableOf) (at : Place) (page other : List ℕ) (r : Result KeptLook BadRecord) → 0 < counted → counted ≤ 30000 → (at.page < 30000 → page ≡ other)
    → LooksAtEntry counted t at page r → LooksAtEntry counted t at other r
looks_on counted t at page other r some few same looks = by r looks
  where
    header : List ℕ → Result ⊤ BadRecord
    header l = header_check (Versions t.entry) counted l

    rest : List ℕ → ⊤ → Result ⊤ BadRecord
    rest l x = kept_on_check counted t.entry (kinds_said t) at.slot l

    by : (q : Result KeptLook BadRecord) → LooksAtEntry counted t at page q → LooksAtEntry counted t at other q
    by (Ok l) looks =
        let there = bind_ok (there_check (header page) counted at.page) (rest page) tt looks.0 in
        subst (λ p. LooksAtEntry counted t at p (Ok l)) (same (within (header page) counted at.page some few there.1)) looks
    by (Err bad) looks =
        by_there (λ c. c ≡ Err bad) (header page) (header other) (rest page) (rest other) counted at.page some few
        (λ low. ap (λ l. there_check (header l) counted at.page >>= rest l) (same low)) looks
