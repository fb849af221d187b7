-- The row of a version, by the area and by the kinds of its columns.
use Rattle.std.proofs.Common.{◌≡◌, ℕ, ℤ, cond, Bool, true, false, List, [], ◌∷◌, Option, None, Some, refl, sym, ◌∙◌, ap}
use Rattle.std.specs.Prelude.{◌==◌}
use Rattle.std.specs.Option.{option_map}
use Rattle.ctr_types.specs.declared.value.Column.{Column}
use Rattle.ctr_types.specs.declared.value.Row.{Row}
use Rattle.ctr_versions.specs.Chains.{value_seen}
use Rattle.ctr_page.specs.declared.rows.Place.{Place}
use Rattle.ctr_page.specs.declared.rows.Version.{Version}
use Rattle.ctr_page.specs.declared.rows.RowSlot.{RowSlot}
use Rattle.ctr_page.specs.declared.rows.VersionEntry.{VersionEntry}
use Rattle.ctr_page.specs.Columns.{kinds_of}
use Rattle.ctr_names.specs.area_Areas.{RowVersion, Slot, Older, Area, free_slot, free_older}
use Rattle.ctr_pvs.specs.area_Reading.{version_said, slot_said, older_said}
use Rattle.ctr_names.specs.area_Chains.{chain_of}
use Rattle.ctr_chain.specs.declared.seeking.Found.{Found}
use Rattle.ctr_chain.specs.Rows.{row_of_version, row_if_any, head_row, previous_row, kept_row}
use Rattle.ctr_chain.specs.Seeing.{first_version}
use Rattle.ctr_chain.specs.Seeking.{version_found, FindsFirst}
use Rattle.ctr_chain.specs.Visible.{visible_row}

-- ---- what is seen

-- the row of a version that may be there
abbrev pub row_if : Option RowVersion → Option Row
row_if None = None
row_if (Some v) = v.1

-- what is seen of a chain is the row of its first version that passes
first_seen : (test : ℕ → Bool) (vs : List RowVersion) → value_seen test vs ≡ row_if (first_version test vs)
first_seen test [] = refl
first_seen test (v ∷ vs) = by (first_seen test vs) (test v.0) refl
  where
    by : value_seen test vs ≡ row_if (first_version test vs) → (b : Bool) → test v.0 ≡ b → value_seen test (v ∷ vs) ≡ row_if (first_version test (v ∷ vs))
    by more true is = ap (λ c. cond c v.1 (value_seen test vs)) is ∙ sym (ap (λ c. row_if (cond c (Some v) (first_version test vs))) is)
    by more false is = ap (λ c. cond c v.1 (value_seen test vs)) is ∙ more ∙ sym (ap (λ c. row_if (cond c (Some v) (first_version test vs))) is)

pub nothing_seen : (test : ℕ → Bool) (area : Area) (at : Place) → FindsFirst test area at None → visible_row test area at ≡ None
nothing_seen test area at none = first_seen test (chain_of area.older (area.slot at)) ∙ ap row_if none

pub version_seen : (test : ℕ → Bool) (area : Area) (at : Place) (f : Found) → FindsFirst test area at (Some f) → visible_row test area at ≡ row_if (version_found area at f.at)
version_seen test area at f finds = first_seen test (chain_of area.older (area.slot at)) ∙ ap row_if finds.0

-- ---- by the kinds of the columns

version_same : (cs : List Column) (key : ℤ) (v : Version) → (version_said cs key v).1 ≡ row_of_version (kinds_of cs) key v
version_same cs key v = refl

any_same : (cs : List Column) (key : ℤ) (v : Option Version) → row_if (option_map (version_said cs key) v) ≡ row_if_any (kinds_of cs) key v
any_same cs key None = refl
any_same cs key (Some v) = version_same cs key v

module _ (cs : List Column) (s : RowSlot) where
  abbrev there : Slot
  there = record { used = true; key = s.key; head = version_said cs s.key s.head; previous = option_map (version_said cs s.key) s.previous; pointer = s.older }

  pub head_same : row_if (Some (slot_said cs s).head) ≡ head_row (kinds_of cs) s
  head_same = by (s.used == 1)
    where
      by : (b : Bool) → row_if (Some (cond b there free_slot).head) ≡ cond b (row_of_version (kinds_of cs) s.key s.head) None
      by true = version_same cs s.key s.head
      by false = refl

  pub previous_same : row_if (slot_said cs s).previous ≡ previous_row (kinds_of cs) s
  previous_same = by (s.used == 1)
    where
      by : (b : Bool) → row_if (cond b there free_slot).previous ≡ cond b (row_if_any (kinds_of cs) s.key s.previous) None
      by true = any_same cs s.key s.previous
      by false = refl

pub kept_same : (cs : List Column) (e : VersionEntry) → row_if (Some (older_said cs e).version) ≡ kept_row (kinds_of cs) e
kept_same cs e = by (e.used == 1)
  where
    there : Older
    there = record { used = true; key = e.key; version = version_said cs e.key e.version; pointer = e.older }

    by : (b : Bool) → row_if (Some (cond b there free_older).version) ≡ cond b (row_of_version (kinds_of cs) e.key e.version) None
    by true = version_same cs e.key e.version
    by false = refl
