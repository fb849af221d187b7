-- What a look at several entries of a page says of them, by their titles in the area.
use Rattle.std.proofs.Common.{◌≡◌, ℕ, ◌+◌, ◌*◌, ◌/◌, ◌%◌, ◌<◌, false, List, Option, Some, None, Result, Ok, Err, refl, sym, ◌∙◌, ap, subst, arith}
use Rattle.std.specs.Prelude.{⊤, is_some}
use Rattle.std.proofs.lemmas.Bool.{false≢true}
use Rattle.ctr_snap.specs.Seeing.{SnapshotTaken}
use Rattle.ctr_rec.specs.declared.decoding.BadRecord.{BadRecord}
use Rattle.ctr_names.specs.meta_Tables.{Tables}
use Rattle.ctr_names.specs.page_table_TheConstants.{ENTRY_SIZE}
use Rattle.ctr_names.specs.page_Damage.{entry_check}
use Rattle.ctr_names.specs.page_Searching.{PassesBy}
use Rattle.ctr_names.specs.page_BadChain.TheVariants.{OnPage}
use Rattle.ctr_alloc.specs.area_Reading.{area_of}
use Rattle.ctr_catalog.specs.declared.finding.MadeBy.{MadeBy}
use Rattle.ctr_catalog.specs.declared.finding.MadeAt.{MadeAt}
use Rattle.ctr_catalog.specs.Finding.{NamedSaid, LooksTo, checks_on, named_on, EndsNamed, change_since, change_made, changed_in, checks_at, EndsChange}
use Rattle.ctr_catalog.proofs.Found.{changed_here}

no_change : (change : MadeBy → Option ℕ) (found : Option MadeBy) → is_some found ≡ false → is_some (change_made change found) ≡ false
no_change change None isnt = refl
no_change change (Some made) isnt = absurd (false≢true (sym isnt))

module _ (pages : ℕ → List ℕ) (counted : ℕ) (tables : Tables) (s : SnapshotTaken) (name : List ℕ) (from : ℕ) (few : from < 32) where
  abbrev page : List ℕ
  page = pages (1 + from / 16)

  abbrev checks : ℕ → Result ⊤ BadRecord
  checks e = checks_at counted pages e

  abbrev changed : ℕ → Option ℕ
  changed e = changed_in tables s name (area_of pages) e

  check_here : (e : ℕ) → e / 16 ≡ from / 16 → checks e ≡ checks_on counted page e
  check_here e on = ap (λ q. entry_check counted (ENTRY_SIZE * (e % 16)) (pages (1 + q))) on

  -- who changed an entry that passes
  change_here : (e : ℕ) (found : Option MadeBy) → e / 16 ≡ from / 16 → checks_on counted page e ≡ Ok tt → found ≡ named_on name page e
      → changed e ≡ change_made (change_since tables s) found
  change_here e found on passes is =
      changed_here pages counted tables s name e (omega (arith, on, few)) found
      (subst (λ q. NamedSaid counted name (e % 16) (pages (1 + q)) (Ok found)) (sym on) (passes, is))

  before_here : (last : ℕ) → last / 16 ≡ from / 16 → PassesBy (checks_on counted page) (λ e. is_some (named_on name page e)) from last
      → PassesBy checks (λ e. is_some (changed e)) from last
  before_here last on before = λ m from_on lt.
      let here : m / 16 ≡ from / 16 = omega (arith, on, from_on, lt) in
      let it = before m from_on lt in
      (check_here m here ∙ it.0, ap is_some (change_here m (named_on name page m) here it.0 refl) ∙ no_change (change_since tables s) (named_on name page m) it.1)

  -- where no entry is damaged
  pub looks_here : (at : MadeAt) → EndsNamed counted name from page (Ok at) → LooksTo checks changed from at.entry (change_made (change_since tables s) at.made)
  looks_here at looks = record {
    from_on = looks.from_on;
    page = looks.page;
    before = before_here at.entry looks.page looks.before;
    passes = check_here at.entry looks.page ∙ looks.passes;
    is_said = sym (change_here at.entry at.made looks.page looks.passes looks.is_said);
  }

  -- and where one is
  pub fails_here : (bad : BadRecord) → EndsNamed counted name from page (Err bad) → EndsChange checks changed from (Err (OnPage (1 + from / 16) bad))
  fails_here bad (e, fails) = (
    e,
    (let on = fails.page in omega (arith, on, few)),
    record {
      from_on = fails.from_on;
      page = fails.page;
      before = before_here e fails.page fails.before;
      fails = check_here e fails.page ∙ fails.fails;
    },
    ap (λ q. 1 + q) (sym fails.page),
  )
