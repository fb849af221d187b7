-- Who reads of pages: a session in a transaction, and what it finds there.
use Rattle.std.specs.Prelude.{◌≡◌, ℕ, Bool, List, Option, Some, ⊤, Result, Ok}
use Rattle.std.specs.Option.{option_and_then}
use Rattle.std.specs.Ordering.{nat_cmp}
use Rattle.std.specs.FinMap.Entries.{find}
use Rattle.ctr_rec.specs.declared.decoding.BadRecord.{BadRecord}
use Rattle.ctr_model.specs.declared.state.Transaction.{Transaction}
use Rattle.ctr_versions.specs.Chains.{above}
use Rattle.ctr_versions.specs.Engine.{SessionHeld, IsCalm}
use Rattle.ctr_versions.specs.Xids.{number_of}
use Rattle.ctr_meta.specs.Seen.{xid_is_seen}
use Rattle.ctr_paged.specs.page_Place.{Place}
use Rattle.ctr_paged.specs.area_Chains.{chain_of}
use Rattle.ctr_paged.specs.area_Images.{is_committed_in}
use Rattle.ctr_paged.specs.ctr_names.Search.{IsNumberOf}
use Rattle.ctr_paged.specs.actions_Sites.{Site}
use Rattle.ctr_paged.specs.Paged.{xids_of}
use Rattle.ctr_paged.specs.Shown.{Scene}
use Rattle.ctr_catalog.specs.Finding.{entry_seen, EndsEntries}
use Rattle.ctr_chain.specs.Seeing.{first_xid}

-- A session of the scene is in this transaction, hasn't asked for its commit, and isn't within its
-- rollback. It reads with the number that it has drawn, or none.
pub record Viewer (scene : Scene) : Type 0 where
  pub s : ℕ
  pub session : SessionHeld
  pub t : Transaction
  pub me : Option ℕ
  pub at : find nat_cmp s scene.run.sessions ≡ Some session
  pub is_t : find nat_cmp s scene.state.sessions ≡ Some t
  pub calm : IsCalm session t
  pub is_me : IsNumberOf session me

-- what it sees of a transaction, by the tables' own test
abbrev pub sees_by : {scene : Scene} → Site → Viewer scene → ℕ → Bool
sees_by site v = xid_is_seen site.tables v.session.snapshot v.me

-- the search of the catalog for a name ends with this, whatever checks the entries
abbrev pub Finds : {scene : Scene} → Site → Viewer scene → List ℕ → Option ℕ → Type 0
Finds site v name found = (check : ℕ → Result ⊤ BadRecord)
    × EndsEntries check (entry_seen site.tables v.session.snapshot v.me name site.area) (Ok found)

-- whose the newest committed version in a slot is, or none
abbrev pub newest_in : Site → Place → Option ℕ
newest_in site at =
    first_xid (is_committed_in site.tables) (chain_of site.area.older (site.area.slot at))

-- the commit number of a transaction, where there is one and it is above that of the snapshot
abbrev pub number_since : {scene : Scene} → Site → Viewer scene → Option ℕ → Option ℕ
number_since {scene} site v found = above v.t.snapshot
    (option_and_then (number_of (xids_of site.tables scene.run.commits)) found)
