-- What is said of an entry of the catalog, by its title in the area.
use Rattle.std.proofs.Common.{◌≡◌, ℕ, ◌+◌, ◌*◌, ◌/◌, ◌%◌, ◌<◌, cond, List, [], Option, Ok, sym, ◌∙◌, ap}
use Rattle.std.proofs.lemmas.Bool.{lt-ltb}
use Rattle.ctr_snap.specs.Seeing.{SnapshotTaken}
use Rattle.ctr_names.specs.meta_Tables.{Tables}
use Rattle.ctr_names.specs.page_Reading.{piece}
use Rattle.ctr_names.specs.page_Columns.{entry_in, entry_at}
use Rattle.ctr_alloc.specs.area_Reading.{title_of, area_of}
use Rattle.ctr_catalog.specs.declared.finding.MadeBy.{MadeBy}
use Rattle.ctr_catalog.specs.Finding.{made_by, NamedSaid, stands_seen, change_since, is_made_so, change_made, entry_seen, changed_in}

module _ (pages : ℕ → List ℕ) (counted : ℕ) (tables : Tables) (s : SnapshotTaken) (name : List ℕ) (e : ℕ) (few : e < 32) (found : Option MadeBy)
    (said : NamedSaid counted name (e % 16) (pages (1 + e / 16)) (Ok found)) where
  title_here : (area_of pages).title e ≡ title_of (entry_at (e % 16) (pages (1 + e / 16)))
  title_here = ap (λ b. title_of (entry_in (cond b (piece (256 * (e % 16)) 256 (pages (1 + e / 16))) []))) (lt-ltb e 32 few)

  made_here : made_by name ((area_of pages).title e) ≡ found
  made_here = ap (made_by name) title_here ∙ sym said.1

  pub seen_here : (me : Option ℕ) → entry_seen tables s me name (area_of pages) e ≡ is_made_so (stands_seen tables s me) found
  seen_here me = ap (is_made_so (stands_seen tables s me)) made_here

  pub changed_here : changed_in tables s name (area_of pages) e ≡ change_made (change_since tables s) found
  changed_here = ap (change_made (change_since tables s)) made_here
