-- The table that is found is the one of the snapshot, and its rows tell who changed them since.
use Rattle.std.proofs.Common.{⊎_elim, ◌≡◌, ℕ, ◌+◌, ℤ, Bool, true, false, cond, List, [], ◌∷◌, Option, Some, None, refl, sym, ◌∙◌, ap}
use Rattle.std.specs.Prelude.{drop, is_some, unwrap_or}
use Rattle.std.specs.List.{AllByRecursion, list_any}
use Rattle.std.specs.Option.{option_map, option_or}
use Rattle.std.proofs.lemmas.Bool.{false≢true, or_cases, or_parts}
use Rattle.ctr_types.specs.declared.value.Row.{Row}
use Rattle.ctr_types.specs.declared.value.Schema.{Schema}
use Rattle.ctr_model.specs.declared.database.Change.{Change}
use Rattle.ctr_model.specs.declared.database.Change.TheVariants as change
use Rattle.ctr_model.specs.Refusals.{answered_since, is_create_of, is_touching, last_with, row_changed_by, schema_changed_by}
use Rattle.ctr_model.specs.State.{same_name}
use Rattle.ctr_versions.specs.Chains.{IsUnwritten, Numbers, above, by, changed_since, newest, newest_since, value_seen, written_by}
use Rattle.ctr_versions.specs.Engine.{ShowsSession}
use Rattle.ctr_versions.specs.Keys.{left_by, row_writes, schema_change, schema_writes}
use Rattle.ctr_versions.specs.Versions.{ByX, IsTableSince, Made, Wrote, names_at, rows_of}
use Rattle.ctr_versions.specs.Xids.{number_of}
use Rattle.ctr_versions.proofs.Chains.{own_seen}
use Rattle.ctr_versions.proofs.Conflicts.{row_conflict, steady}
use Rattle.ctr_versions.proofs.Engine.{session_alike}
use Rattle.ctr_versions.proofs.Keys.{known}
use Rattle.ctr_versions.proofs.Undoing.{newest_schemas, written_schemas}
use Rattle.ctr_versions.proofs.Versions.{behind_schemas}
use Rattle.ctr_paged.specs.legal_Kept.{IsFirm}
use Rattle.ctr_paged.specs.ctr_names.Search.{IsEntryFound}
use Rattle.ctr_paged.specs.actions_Sites.{Site}
use Rattle.ctr_paged.specs.Shown.{Scene, IsShown}
use Rattle.ctr_views.specs.Viewing.{Viewer, sees_by}
use Rattle.ctr_views.proofs.Answered.{schema_unchanged}
use Rattle.ctr_views.proofs.Looking.{session_shown}
use Rattle.ctr_views.proofs.Reading.{xids, versions, made, found_made}

-- ---- lists of changes

-- a table that stands by its own changes was made by one
one_created : (name : List ℕ) (own : List Change) (s : Schema) → list_any (is_create_of name) own ≡ false → left_by (schema_change name) own ≡ Some (Some s) → ⊥
one_created name [] s none is = false≢true (ap is_some is)
one_created name (c ∷ cs) s none is =
    let parts = or_parts (is_create_of name c) (list_any (is_create_of name) cs) none in
    elim (left_by (schema_change name) cs) as (λ o. left_by (schema_change name) cs ≡ o → option_or o (schema_change name c) ≡ Some (Some s) → ⊥) [
      | Some w ↦ λ later here. one_created name cs s parts.1 (later ∙ here)
      | None ↦ λ later here. by_change c parts.0 here
    ] refl is
  where
    by_create : (b : Bool) (schema : Schema) → b ≡ false → cond b (Some (Some schema)) None ≡ Some (Some s) → ⊥
    by_create b schema isnt here = false≢true (sym (ap (λ b. is_some (cond b (Some (Some schema)) None)) isnt) ∙ ap is_some here)

    by_drop : (b : Bool) → cond b (Some None) None ≡ Some (Some s) → ⊥
    by_drop true here = false≢true (ap (λ (o : Option (Option Schema)). is_some (unwrap_or o None)) here)
    by_drop false here = false≢true (ap is_some here)

    by_change : (c : Change) → is_create_of name c ≡ false → schema_change name c ≡ Some (Some s) → ⊥
    by_change (change.Put table key row) isnt here = false≢true (ap is_some here)
    by_change (change.Remove table key) isnt here = false≢true (ap is_some here)
    by_change (change.Create table schema) isnt here = by_create (same_name table name) schema isnt here
    by_change (change.Drop table) isnt here = by_drop (same_name table name) here

-- one that made a table of the name has left something of it
left_some : (name : List ℕ) (own : List Change) → list_any (is_create_of name) own ≡ true → left_by (schema_change name) own ≡ None → ⊥
left_some name [] some is = false≢true some
left_some name (c ∷ cs) some is = elim (left_by (schema_change name) cs) as (λ o. left_by (schema_change name) cs ≡ o → option_or o (schema_change name c) ≡ None → ⊥) [
  | Some w ↦ λ later here. false≢true (sym (ap is_some here))
  | None ↦ λ later here. ⊎_elim (λ this. by_change c this here) (λ rest. left_some name cs rest later) (or_cases (is_create_of name c) (list_any (is_create_of name) cs) some)
] refl is
  where
    by_change : (c : Change) → is_create_of name c ≡ true → schema_change name c ≡ None → ⊥
    by_change (change.Put table key row) is here = false≢true is
    by_change (change.Remove table key) is here = false≢true is
    by_change (change.Create table schema) is here = false≢true (sym (ap is_some here) ∙ ap (λ b. is_some (cond b (Some (Some schema)) None)) is)
    by_change (change.Drop table) is here = false≢true is

-- versions of one that isn't committed alone have no newest
own_newest : (number : Numbers) (me : ℕ) (chain : List (ℕ × Option Row)) → number me ≡ None → AllByRecursion (ByX me) chain → newest number chain ≡ None
own_newest number me [] none all = refl
own_newest number me (v ∷ vs) none all = ap (λ o. option_or o (newest number vs)) (ap number all.0 ∙ none) ∙ own_newest number me vs none all.1

-- ---- the table that is found

module _ (low : ℕ) (site : Site) (scene : Scene) (shown : IsShown low site scene) (v : Viewer scene) (firm : IsFirm scene.state.asked v.t) (name : List ℕ) (e : ℕ) (found : IsEntryFound (sees_by site v) name site.area e)
    (quiet : changed_since v.t.snapshot (schema_writes name scene.state.asked) ≡ None) where
  abbrev number : Numbers
  number = number_of (xids low site scene shown v firm name e found)

  abbrev chain : List (ℕ × Option Made)
  chain = names_at (versions low site scene shown v firm name e found) name

  abbrev table : Made
  table = made low site scene shown v firm name e found

  abbrev n : ℕ
  n = v.t.snapshot

  abbrev me : ℕ
  me = v.session.me

  its : ShowsSession low scene.state.answered (xids low site scene shown v firm name e found) (versions low site scene shown v firm name e found) v.session v.t
  its = session_shown low site scene shown v

  wrote : Wrote number (versions low site scene shown v firm name e found) me n v.t.own
  wrote = its.wrote v.calm

  -- what its own test finds it sees by its own versions, and else by its snapshot's number
  own_or_by : (w : Option (Option Made)) → written_by me chain ≡ w → unwrap_or w (value_seen (by number n) chain) ≡ Some table
  own_or_by w is =
      sym (own_seen number n me chain w wrote.is_open (behind_schemas number chain (shown.paged.shows.stands.tables name).behind) is)
      ∙ sym (session_alike (xids low site scene shown v firm name e found) v.session n its.snapshot chain (its.old.names name))
      ∙ found_made low site scene shown v firm name e found

  unchanged : newest_since number n chain ≡ None
  unchanged = ap (above n) (sym (newest_schemas number chain)) ∙ (shown.paged.shows.stands.tables name).changes n (its.from v.calm.1) ∙ quiet

  since : written_by me chain ≡ None → IsTableSince low number (versions low site scene shown v firm name e found) name table n
  since none = (its.from v.calm.1, λ j le. steady number n j chain unchanged le ∙ own_or_by None none)

  unwritten : list_any (is_create_of name) v.t.own ≡ false → (w : Option (Option Made)) → written_by me chain ≡ w → written_by me chain ≡ None
  unwritten uncreated None is = is
  unwritten uncreated (Some None) is = absurd (false≢true (ap is_some (own_or_by (Some None) is)))
  unwritten uncreated (Some (Some m)) is = absurd (one_created name v.t.own m.schema uncreated
      (sym (wrote.tables name) ∙ written_schemas me chain ∙ ap (λ o. option_map (λ (o : Option Made). option_map (λ (m : Made). m.schema) o) o) is))

  -- where the session didn't make the table itself, it is the one of its snapshot
  pub found_since : list_any (is_create_of name) v.t.own ≡ false → IsTableSince low number (versions low site scene shown v firm name e found) name table n
  found_since uncreated = since (unwritten uncreated (written_by me chain) refl)

  abbrev rows : ℤ → List (ℕ × Option Row)
  rows key = rows_of (versions low site scene shown v firm name e found) e key

  pub rows_told : list_any (is_create_of name) v.t.own ≡ false → (key : ℤ) → newest_since number n (rows key) ≡ changed_since n (row_writes name key scene.state.asked)
  rows_told uncreated key = (shown.paged.shows.stands.rows name table key).changes n (found_since uncreated)

  schema_same : schema_changed_by scene.state v.t name ≡ None
  schema_same = schema_unchanged scene.state v.t name quiet

  -- in a table that the session made itself, all rows are its own
  created_none : list_any (is_create_of name) v.t.own ≡ true → (key : ℤ) → newest_since number n (rows key) ≡ None
  created_none created key = by_own (written_by me chain) refl
    where
      by_own : (w : Option (Option Made)) → written_by me chain ≡ w → newest_since number n (rows key) ≡ None
      by_own (Some (Some m)) is =
          let same : m ≡ table = ap (λ (o : Option Made). unwrap_or o m) (own_or_by (Some (Some m)) is) in
          ap (above n) (own_newest number me (rows key) wrote.is_open (wrote.created name table key (is ∙ ap (λ m. Some (Some m)) same)).0)
      by_own (Some None) is = absurd (false≢true (ap is_some (own_or_by (Some None) is)))
      by_own None is = absurd (left_some name v.t.own created (sym (wrote.tables name) ∙ written_schemas me chain ∙ ap (λ o. option_map (λ (o : Option Made). option_map (λ (m : Made). m.schema) o) o) is))

  -- by the model's refusal, where nobody who asked and isn't answered has written the key
  pub rows_refused : (key : ℤ) → AllByRecursion IsUnwritten (drop scene.state.answered (row_writes name key scene.state.asked)) → newest_since number n (rows key) ≡ row_changed_by scene.state v.t name key
  rows_refused key settled = known (list_any (is_create_of name) v.t.own)
      (λ created. created_none created key ∙ sym (ap (λ b. cond b None (last_with (is_touching name (Some key)) (n + 1) (answered_since scene.state v.t))) created))
      (λ uncreated. row_conflict low number scene.state (versions low site scene shown v firm name e found) shown.paged.shows.stands v.t (its.from v.calm.1) its.to shown.paged.shows.answered name table key uncreated schema_same (found_since uncreated) settled)
