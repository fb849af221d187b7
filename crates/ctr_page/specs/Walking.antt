-- What is wrong with a chain of pages, as it is read from its first page on.
use Rattle.std.specs.Prelude.{ℕ, zero, suc, ◌-◌, ◌==◌, List, ⊤, Result, Ok, Err, if◌then◌else◌}
use Rattle.ctr_rec.specs.declared.decoding.BadRecord.{BadRecord}
use Rattle.ctr_page.specs.declared.checks.Chain.{Chain}
use Rattle.ctr_page.specs.declared.walk.BadChain.{BadChain}
use Rattle.ctr_page.specs.declared.walk.BadChain.TheVariants.{OnPage, TooLong}
use Rattle.ctr_page.specs.Reading.{header_in}
use Rattle.ctr_page.specs.Damage.{header_check}

-- The most pages that a chain can have: those that are counted, but for page 0 and the catalog.
abbrev pub most_in_chain : ℕ → ℕ
most_in_chain counted = counted - 3

-- the damage of a page; behind a page that passes, that of the rest
abbrev pub header_then : ℕ → Result ⊤ BadRecord → Result ⊤ BadChain → Result ⊤ BadChain
header_then p (Ok x) rest = rest
header_then p (Err bad) rest = Err (OnPage p bad)

-- A chain from a page on, of which so many pages may be left, behind another: the header of each
-- page is checked as it is read, in order; and a page too many is damage of the last one that was
-- read.
abbrev pub chain_check : Chain → ℕ → (ℕ → List ℕ) → ℕ → ℕ → ℕ → Result ⊤ BadChain
chain_check chain counted pages zero last p =
    if p == 0 then Ok tt else Err (TooLong last (most_in_chain counted))
chain_check chain counted pages (suc n) last p =
    if p == 0 then Ok tt else
    header_then p (header_check chain counted (pages p))
    (chain_check chain counted pages n p (header_in (pages p)).next)
