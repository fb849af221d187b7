-- A title that is read is that of the area, and an entry that passes its check is read.
use Rattle.std.proofs.Common.{◌≡◌, ℕ, ◌+◌, ◌*◌, ◌/◌, ◌%◌, ◌<◌, cond, List, [], Result, Ok, Err, refl, sym, ◌∙◌, ap, subst}
use Rattle.std.specs.Prelude.{⊤, IfOk, IfErr}
use Rattle.std.proofs.lemmas.Bool.{lt-ltb}
use Rattle.ctr_disk.specs.declared.fault.StoreFault.{StoreFault}
use Rattle.ctr_disk.specs.declared.fault.StoreFault.TheVariants.{Fault, Damaged}
use Rattle.ctr_rec.specs.declared.decoding.BadRecord.{BadRecord}
use Rattle.ctr_page.specs.declared.walk.BadChain.{BadChain}
use Rattle.ctr_page.specs.declared.walk.BadChain.TheVariants.{OnPage, TooLong}
use Rattle.ctr_page.specs.Reading.{piece}
use Rattle.ctr_page.specs.Columns.{entry_in, entry_at}
use Rattle.ctr_page.specs.Damage.{entry_check}
use Rattle.ctr_area.specs.Areas.{Title}
use Rattle.ctr_area.specs.Reading.{title_of, area_of}
use Rattle.ctr_walk.specs.Damage.{EndsOnPage, EndsTold}
use Rattle.ctr_titles.specs.declared.reading.TitleRead.{TitleRead}
use Rattle.ctr_titles.specs.Titles.{IsTitle, TitleSaid}

-- the title of an entry stands on its page of the catalog
title_here : (pages : ℕ → List ℕ) (e : ℕ) → e < 32 → title_of (entry_at (e % 16) (pages (1 + e / 16))) ≡ (area_of pages).title e
title_here pages e few = sym (ap (λ b. title_of (entry_in (cond b (piece (256 * (e % 16)) 256 (pages (1 + e / 16))) []))) (lt-ltb e 32 few))

-- so it is told
pub told_title : (damage : BadChain → StoreFault) (counted e : ℕ) (pages : ℕ → List ℕ) (result : Result TitleRead StoreFault) → e < 32 → EndsTold damage (EndsOnPage (1 + e / 16) (TitleSaid counted (e % 16) (pages (1 + e / 16)))) result
    → IfOk result (IsTitle ((area_of pages).title e))
told_title damage counted e pages (Ok r) few ends = subst (λ (t : Title). IsTitle t r) (title_here pages e few) ends.1
told_title damage counted e pages (Err why) few ends = tt

abbrev passing : Result ⊤ BadRecord
passing = Ok tt

fails : (bad : BadRecord) → passing ≡ Err bad → ⊥
fails bad is = absurd cc

-- an entry that passes its check is read without damage
pub undamaged : (damage : BadChain → StoreFault) (counted n p : ℕ) (page : List ℕ) (told : Result TitleRead StoreFault) → entry_check counted (256 * n) page ≡ Ok tt
    → EndsTold damage (EndsOnPage p (TitleSaid counted n page)) told → IfErr told (λ e. e ≡ Fault)
undamaged damage counted n p page (Ok x) passes ends = tt
undamaged damage counted n p page (Err Fault) passes ends = refl
undamaged damage counted n p page (Err (Damaged d)) passes (OnPage q bad, ends, is) = absurd (fails bad (sym passes ∙ ends.1))
undamaged damage counted n p page (Err (Damaged d)) passes (TooLong last most, ends, is) = absurd ends
