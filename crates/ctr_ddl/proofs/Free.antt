-- Free entries of the catalog, and why none is made.
use Rattle.std.proofs.Common.{◌≡◌, ◌≢◌, inl, inr, ℕ, ◌==◌, true, false, Some, Err, refl, sym, ◌∙◌}
use Rattle.std.proofs.lemmas.Bool.{eqb-true, eq-eqb, false≢true}
use Rattle.ctr_disk.specs.declared.fault.StoreFault.{StoreFault}
use Rattle.ctr_disk.specs.declared.fault.StoreFault.TheVariants.{Fault, Damaged}
use Rattle.ctr_rec.specs.declared.record.Record.{Record}
use Rattle.ctr_page.specs.declared.walk.BadChain.{BadChain}
use Rattle.ctr_page_turns.specs.record_effects_States.{pages_in}
use Rattle.ctr_page_turns.specs.store_Store.{View}
use Rattle.ctr_page_turns.specs.walk_OneRecord.{WhyNotLogged}
use Rattle.ctr_undamaged.specs.catalog_CatalogRefusal.TheVariants.{Store}
use Rattle.ctr_undamaged.specs.catalog_Free.{EndsCatalog}
use Rattle.ctr_undamaged.specs.catalog_Writing.{HasLowestFree, EndsMaking}
use Rattle.ctr_undamaged.specs.Undamaged.{MeetsNoDamage}

-- an entry that the test finds is free
pub is_free : (state : ℕ) → (state == 0) ≡ true → state ≡ 0
is_free state is = eqb-true state 0 is

-- one that it doesn't find isn't
pub isnt_free : (state : ℕ) → (state == 0) ≡ false → state ≢ 0
isnt_free state isnt none = false≢true (sym isnt ∙ eq-eqb state 0 none)

-- where the search meets no damage, and the record is refused by the disk alone, so is the making
module _ {D : Type 0} (told : BadChain → StoreFault) (made : ℕ → Record) (a b : View D) where
  pub refused_making : (cause : StoreFault) → MeetsNoDamage (EndsCatalog a.now.counted (pages_in a.now))
      → ((e : ℕ) → HasLowestFree (pages_in a.now) (Some e) → WhyNotLogged (made e) a b cause → cause ≡ Fault)
      → EndsMaking told made a b (Err (Store cause)) → cause ≡ Fault
  refused_making Fault none logged ends = refl
  refused_making (Damaged d) none logged (inl ends) = absurd (none.told told d ends)
  refused_making (Damaged d) none logged (inr why) = logged why.0 why.1 why.2
