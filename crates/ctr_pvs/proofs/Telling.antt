-- What a search along the chain of version pages has found, in the area.
use Rattle.std.proofs.Common.{◌≢◌, ℕ, ◌≤◌, List, Option, None, Some, Ok, sym, subst, arith}
use Rattle.ctr_page.specs.declared.checks.Chain.TheVariants.{Versions}
use Rattle.ctr_page.specs.declared.header.Header.{Header}
use Rattle.ctr_page.specs.declared.rows.Place.{Place}
use Rattle.ctr_page.specs.Columns.{kinds_of, columns_in}
use Rattle.ctr_page.specs.Searching.{IsFirst}
use Rattle.ctr_page.specs.Walking.{most_in_chain}
use Rattle.ctr_passed.specs.area_Areas.{Area}
use Rattle.ctr_passed.specs.area_Reading.{entry_bytes, area_of}
use Rattle.ctr_passed.specs.area_Chains.{pages_bound}
use Rattle.ctr_passed.specs.area_Sound.{IsOfVersions, AreReadable}
use Rattle.ctr_walk.specs.Along.{ChainSought, EndsAlong}
use Rattle.ctr_walk.specs.Tables.{chain_sought}
use Rattle.ctr_walk.proofs.Telling.{not_used, not_free, place_found, no_place}
use Rattle.ctr_pvs.specs.Entries.{EndsFree, is_free_older}
use Rattle.ctr_pvs.specs.Along.{FindsFreeEntry}
use Rattle.ctr_pvs.proofs.Sought.{first_in_area}

has_kind : (e : ℕ) (h : Header) → IsOfVersions e h → h.kind ≢ 0
has_kind e h versions none = omega (arith, versions.0, none)

module _ (pages : ℕ → List ℕ) (e counted : ℕ) (readable : AreReadable (area_of pages)) (few : counted ≤ pages_bound) where
  abbrev area : Area
  area = area_of pages

  abbrev s : ChainSought
  s = chain_sought pages counted (Versions e) EndsFree

  here : (p : ℕ) (o : Option ℕ) → IsOfVersions e (area.header p) → s.ends (pages p) (Ok o) → IsFirst (is_free_older area p) 0 (area.room p) o
  here p o versions ends = first_in_area pages p counted versions.0 o (subst (λ f. EndsFree (kinds_of (columns_in (entry_bytes pages f))) counted (pages p) (Ok o)) (sym versions.1) ends)

  pub entry_told : (o : Option Place) → EndsAlong s pages (most_in_chain counted) 0 (area.firsts e).versions (Ok o) → FindsFreeEntry area e o
  entry_told (Some at) ends =
      let told = place_found pages s (IsOfVersions e) (is_free_older area) (has_kind e) here few 0 (area.firsts e).versions (readable.versions e).0 at ends in
      (told.0, not_used (area.older at).used told.1)
  entry_told None ends = λ at in_. not_free (area.older at).used (no_place pages s (IsOfVersions e) (is_free_older area) (has_kind e) here few 0 (area.firsts e).versions (readable.versions e).0 ends at in_)
