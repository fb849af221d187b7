-- The columns of an entry that are read are those of its title.
use Rattle.std.proofs.Common.{◌≡◌, ◌≢◌, ℕ, zero, suc, ◌+◌, ◌*◌, ◌/◌, ◌%◌, ◌<◌, cond, List, [], length, Bool, Result, Ok, Err, refl, sym, ◌∙◌, ap, subst}
use Rattle.std.specs.Prelude.{IfOk, IfErr, ⊤}
use Rattle.std.proofs.lemmas.Bool.{lt-ltb}
use Rattle.ctr_load.specs.Statements.{load_columns}
use Rattle.ctr_disk.specs.declared.fault.StoreFault.{StoreFault}
use Rattle.ctr_disk.specs.declared.fault.StoreFault.TheVariants.{Fault, Damaged}
use Rattle.ctr_rec.specs.declared.decoding.BadRecord.{BadRecord}
use Rattle.ctr_page.specs.declared.walk.BadChain.{BadChain}
use Rattle.ctr_page.specs.declared.walk.BadChain.TheVariants.{OnPage, TooLong}
use Rattle.ctr_page.specs.Columns.{columns_from, entry_in, entry_at}
use Rattle.ctr_page.specs.Reading.{piece}
use Rattle.ctr_page.specs.Damage.{entry_check}
use Rattle.ctr_area.specs.Areas.{Title}
use Rattle.ctr_area.specs.Reading.{title_of, area_of}
use Rattle.ctr_walk.specs.Damage.{EndsOnPage, EndsTold}
use Rattle.ctr_totals.specs.Finding.{TellsColumns}
use Rattle.ctr_totals.specs.Columns.{ColumnsTold}

length-from : (n at : ℕ) (bytes : List ℕ) → length (columns_from n at bytes) ≡ n
length-from zero at bytes = refl
length-from (suc n) at bytes = ap (λ k. suc k) (length-from n (at + 18) bytes)

-- there are three
pub three_columns : (n : ℕ) (bytes : List ℕ) → columns_from n 35 bytes ≡ load_columns → n ≡ 3
three_columns n bytes is = sym (length-from n 35 bytes) ∙ ap (λ (cs : List _). length cs) is

-- the title of an entry stands on its page of the catalog
title_here : (pages : ℕ → List ℕ) (e : ℕ) → e < 32 → title_of (entry_at (e % 16) (pages (1 + e / 16))) ≡ (area_of pages).title e
title_here pages e few = sym (ap (λ b. title_of (entry_in (cond b (piece (256 * (e % 16)) 256 (pages (1 + e / 16))) []))) (lt-ltb e 32 few))

-- what is told of an entry's columns is so of its title
pub told_columns : (damage : BadChain → StoreFault) (counted e : ℕ) (pages : ℕ → List ℕ) (result : Result Bool StoreFault) → e < 32
    → EndsTold damage (EndsOnPage (1 + e / 16) (ColumnsTold counted (e % 16) (pages (1 + e / 16)))) result → ((area_of pages).title e).state ≢ 0
    → IfOk result (TellsColumns ((area_of pages).title e).columns)
told_columns damage counted e pages (Ok told) few ends some =
    let here = title_here pages e few in
    subst (λ (t : Title). TellsColumns t.columns told) here (ends.1 (subst (λ (t : Title). t.state ≢ 0) (sym here) some))
told_columns damage counted e pages (Err f) few ends some = tt

abbrev passing : Result ⊤ BadRecord
passing = Ok tt

fails : (bad : BadRecord) → passing ≡ Err bad → ⊥
fails bad is = absurd cc

-- an entry that passes its check is read without damage
pub undamaged_columns : (damage : BadChain → StoreFault) (counted n p : ℕ) (page : List ℕ) (told : Result Bool StoreFault) → entry_check counted (256 * n) page ≡ Ok tt
    → EndsTold damage (EndsOnPage p (ColumnsTold counted n page)) told → IfErr told (λ e. e ≡ Fault)
undamaged_columns damage counted n p page (Ok x) passes ends = tt
undamaged_columns damage counted n p page (Err Fault) passes ends = refl
undamaged_columns damage counted n p page (Err (Damaged d)) passes (OnPage q bad, ends, is) = absurd (fails bad (sym passes ∙ ends.1))
undamaged_columns damage counted n p page (Err (Damaged d)) passes (TooLong last most, ends, is) = absurd ends
