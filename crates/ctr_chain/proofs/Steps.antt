-- What a version entry that is looked at says, and one step of the search by it.
use Rattle.std.proofs.Common.{◌≡◌, ℕ, zero, suc, cond, Bool, true, false, List, drop, Option, None, Some, Result, Ok, Err, refl, sym, ◌∙◌, ap}
use Rattle.std.specs.Prelude.{◌==◌, ⊤}
use Rattle.std.proofs.lemmas.Bool.{eq-eqb, ne_eqb}
use Rattle.ctr_versions.proofs.Keys.{known}
use Rattle.ctr_types.specs.declared.value.Column.{Column}
use Rattle.ctr_bytes.specs.Following.{◌>>=◌}
use Rattle.ctr_rec.specs.declared.decoding.BadRecord.{BadRecord}
use Rattle.ctr_page.specs.declared.walk.BadChain.{BadChain}
use Rattle.ctr_page.specs.declared.walk.BadChain.TheVariants.{OnPage, TooLong}
use Rattle.ctr_page.specs.declared.rows.Place.{Place}
use Rattle.ctr_page.specs.declared.rows.VersionEntry.{VersionEntry}
use Rattle.ctr_page.specs.Reading.{older_at}
use Rattle.ctr_page.specs.Columns.{kinds_of, kinds_width, columns_in}
use Rattle.ctr_page.proofs.Holding.{kinds_wide}
use Rattle.ctr_names.specs.area_Areas.{Older, free_older}
use Rattle.ctr_pvs.specs.area_Reading.{version_said, older_said, entry_bytes, header_on, columns_on, width_on, area_of}
use Rattle.ctr_pvs.specs.area_Checked.{kinds_at}
use Rattle.ctr_pvs.specs.walk_TableOf.{TableOf}
use Rattle.ctr_pvs.specs.Table.{told_of}
use Rattle.ctr_pvs.specs.walk_Tables.{kinds_said}
use Rattle.ctr_pvs.specs.Reading.{versions_there, kept_on_check, kept_at_check}
use Rattle.ctr_pvs.proofs.Told.{older_read}
use Rattle.ctr_chain.specs.declared.looking.KeptLook.{KeptLook}
use Rattle.ctr_chain.specs.declared.seeking.Found.{Found}
use Rattle.ctr_chain.specs.declared.seeking.VersionAt.TheVariants.{Kept}
use Rattle.ctr_chain.specs.Looking.{look_of_entry, entry_check_at, LooksAtEntry}
use Rattle.ctr_chain.specs.Seeking.{EntriesOf, most_entries, sought_along}

-- what a look at a version entry of an area gives
abbrev looked : Older → KeptLook
looked o = record { xid = o.version.0; older = o.pointer }

look_same : (cs : List Column) (e : VersionEntry) → look_of_entry e ≡ looked (older_said cs e)
look_same cs e = known (e.used == 1) (by true) (by false)
  where
    there : Older
    there = record { used = true; key = e.key; version = version_said cs e.key e.version; pointer = e.older }

    by : (b : Bool) → (e.used == 1) ≡ b → look_of_entry e ≡ looked (older_said cs e)
    by b is =
        ap (λ c. cond c (looked there) (looked free_older)) is
        ∙ one b
        ∙ sym (ap (λ c. looked (cond c there free_older)) is)
      where
        one : (c : Bool) → cond c (looked there) (looked free_older) ≡ looked (cond c there free_older)
        one true = refl
        one false = refl

module _ (sought : ℕ → Bool) (counted : ℕ) (pages : ℕ → List ℕ) (t : TableOf) (kinds : kinds_said t ≡ kinds_at (area_of pages) t.entry) where
  abbrev r : EntriesOf
  r = record { counted = counted; pages = pages; entry = t.entry }

  abbrev older : Place → Older
  older = (area_of pages).older

  same_check : (at : Place) → entry_check_at counted t at (pages at.page) ≡ kept_at_check counted pages t.entry at
  same_check at = ap (λ ks. versions_there counted t.entry at.page (pages at.page) >>= λ _. kept_on_check counted t.entry ks at.slot (pages at.page)) kinds

  -- its columns are the table's
  pub kinds_read : (at : Place) → kept_at_check counted pages t.entry at ≡ Ok tt → kinds_said t ≡ kinds_of (columns_on pages at.page)
  kinds_read at kept = kinds ∙ ap (λ e. kinds_of (columns_in (entry_bytes pages e))) (sym (older_read counted pages t.entry at kept).1)

  -- the version entry of the area is the one that stands there, by its table's columns
  pub reads : (at : Place) → kept_at_check counted pages t.entry at ≡ Ok tt → older at ≡ older_said (columns_on pages at.page) (older_at (kinds_width (kinds_said t)) at.slot (pages at.page))
  reads at kept =
      let cs = columns_on pages at.page in
      let wide : kinds_width (kinds_said t) ≡ width_on pages at.page = ap kinds_width (kinds_read at kept) ∙ kinds_wide (drop 1 cs) in
      ap (λ b. cond b (older_said cs (older_at (width_on pages at.page) at.slot (pages at.page))) free_older) (eq-eqb (header_on pages at.page).kind 2 (older_read counted pages t.entry at kept).0)
      ∙ ap (λ v. older_said cs (older_at v at.slot (pages at.page))) (sym wide)

  entry_says : (at : Place) (l : KeptLook) → LooksAtEntry counted t at (pages at.page) (Ok l) → (kept_at_check counted pages t.entry at ≡ Ok tt) × (l ≡ looked (older at))
  entry_says at l looks =
      let kept = sym (same_check at) ∙ looks.0 in
      (kept, looks.1 ∙ look_same (columns_on pages at.page) (older_at (kinds_width (kinds_said t)) at.slot (pages at.page)) ∙ ap looked (sym (reads at kept)))

  -- what the version entry at a place is to the search, where it passes
  abbrev here : ℕ → Place → Result (Option Found) BadChain
  here m at =
      cond (sought (older at).version.0) (Ok (Some (record { xid = (older at).version.0; at = Kept at }))) (sought_along sought r m at.page (older at).pointer)

  one_step : (n m last : ℕ) (at : Place) → n ≡ suc m → (at.page ≡ 0 → ⊥) → sought_along sought r n last at ≡ (told_of at.page (kept_at_check counted pages t.entry at) >>= λ _. here m at)
  one_step n m last at goes some =
      ap (λ k. sought_along sought r k last at) goes
      ∙ ap (λ b. cond b (Ok None) (told_of at.page (kept_at_check counted pages t.entry at) >>= λ _. here m at)) (ne_eqb at.page 0 some)

  passes_here : (n m last : ℕ) (at : Place) (l : KeptLook) → n ≡ suc m → (at.page ≡ 0 → ⊥) → LooksAtEntry counted t at (pages at.page) (Ok l) → sought_along sought r n last at ≡ here m at
  passes_here n m last at l goes some looks =
      one_step n m last at goes some
      ∙ ap (λ (c : Result ⊤ BadRecord). told_of at.page c >>= λ _. here m at) (entry_says at l looks).0

  pub bad_here : (n m last : ℕ) (at : Place) (bad : BadRecord) → n ≡ suc m → (at.page ≡ 0 → ⊥) → LooksAtEntry counted t at (pages at.page) (Err bad) → sought_along sought r n last at ≡ Err (OnPage at.page bad)
  bad_here n m last at bad goes some looks =
      one_step n m last at goes some
      ∙ ap (λ (c : Result ⊤ BadRecord). told_of at.page c >>= λ _. here m at) (sym (same_check at) ∙ looks)

  pub found_here : (n m last : ℕ) (at : Place) (l : KeptLook) → n ≡ suc m → (at.page ≡ 0 → ⊥) → LooksAtEntry counted t at (pages at.page) (Ok l) → sought l.xid ≡ true
      → sought_along sought r n last at ≡ Ok (Some (record { xid = l.xid; at = Kept at }))
  found_here n m last at l goes some looks is =
      let same : (older at).version.0 ≡ l.xid = ap (λ (k : KeptLook). k.xid) (sym (entry_says at l looks).1) in
      passes_here n m last at l goes some looks
      ∙ ap (λ b. cond b (Ok (Some (record { xid = (older at).version.0; at = Kept at }))) (sought_along sought r m at.page (older at).pointer)) (ap sought same ∙ is)
      ∙ ap (λ x. Ok (Some (record { xid = x; at = Kept at }))) same

  pub next_here : (n m last : ℕ) (at : Place) (l : KeptLook) → n ≡ suc m → (at.page ≡ 0 → ⊥) → LooksAtEntry counted t at (pages at.page) (Ok l) → sought l.xid ≡ false
      → sought_along sought r n last at ≡ sought_along sought r m at.page l.older
  next_here n m last at l goes some looks isnt =
      let says = (entry_says at l looks).1 in
      let same : (older at).version.0 ≡ l.xid = ap (λ (k : KeptLook). k.xid) (sym says) in
      passes_here n m last at l goes some looks
      ∙ ap (λ b. cond b (Ok (Some (record { xid = (older at).version.0; at = Kept at }))) (sought_along sought r m at.page (older at).pointer)) (ap sought same ∙ isnt)
      ∙ ap (λ (k : KeptLook). sought_along sought r m at.page k.older) (sym says)

-- the end of a chain
pub at_end : (sought : ℕ → Bool) (r : EntriesOf) (n last : ℕ) (at : Place) → at.page ≡ 0 → sought_along sought r n last at ≡ Ok None
at_end sought r zero last at none = ap (λ b. cond b (Ok None) (Err (TooLong last (most_entries r)))) (eq-eqb at.page 0 none)
at_end sought r (suc n) last at none =
    ap (λ b. cond b (Ok None) (told_of at.page (kept_at_check r.counted r.pages r.entry at) >>= λ _. rest)) (eq-eqb at.page 0 none)
  where
    rest : Result (Option Found) BadChain
    rest =
        let old = (area_of r.pages).older at in
        cond (sought old.version.0) (Ok (Some (record { xid = old.version.0; at = Kept at }))) (sought_along sought r n at.page old.pointer)
