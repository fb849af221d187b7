-- What undo and the cleaner do record by record keeps the invariant.
use Rattle.std.proofs.Common.{◌≡◌, ℕ, ◌≤◌, ◌==◌, ℤ, Bool, true, false, cond, List, [], ◌∷◌, Option, Some, None, refl, sym, ◌∙◌, ap, subst, arith}
use Rattle.std.specs.Prelude.{is_some, ◌||◌, T}
use Rattle.std.specs.Option.{option_or, option_map}
use Rattle.std.specs.List.{AllByRecursion}
use Rattle.std.specs.Ordering.{int_cmp}
use Rattle.std.specs.FinMap.Entries.{is_sorted}
use Rattle.std.proofs.lemmas.Bool.{false≢true, eq-eqb, eqb-true, ne_eqb}
use Rattle.ctr_snap.specs.types_Schema.{Schema}
use Rattle.ctr_model.specs.declared.database.Change.{Change}
use Rattle.ctr_model.specs.declared.state.State.{State}
use Rattle.ctr_model.specs.Database.{table_at}
use Rattle.ctr_model.specs.State.{same_name}
use Rattle.ctr_model.specs.Refusals.{row_of}
use Rattle.ctr_snap.specs.Seeing.{has}
use Rattle.ctr_versions.specs.Chains.{Numbers, value_seen, is_by, by, newest, above, written_by, AllCommitted, Behind, IsChangeTold, ShowsKey}
use Rattle.ctr_versions.specs.Changes.{revert, cut, without_tombstone, IsOld}
use Rattle.ctr_versions.specs.Keys.{schema_change, left_by, schema_writes, row_writes, schema_named}
use Rattle.ctr_versions.specs.Listing.{chain_at}
use Rattle.ctr_versions.specs.Xids.{number_of, aborted}
use Rattle.ctr_versions.specs.Versions.{Made, Versions, names_at, rows_of, schemas, IsFrom, IsTableAt, IsTableSince, VersionsStand, Wrote, AreOwn, NamesSet}
use Rattle.ctr_versions.specs.Engine.{EngineHeld, IsBy, AreBy, IsDrawn, IsSeenIfOld, ShowsState}
use Rattle.ctr_versions.specs.Laws.{IsNoSessions}
use Rattle.ctr_versions.specs.Undoing.{IsWorking, writers, ShowsTheSame, HasUndoneHead}
use Rattle.ctr_versions.proofs.Keys.{known, same_text}
use Rattle.ctr_versions.proofs.Chains.{skip_seen, skip_newest, committed_behind, committed_none, narrowed}
use Rattle.ctr_versions.proofs.Changes.{cut_seen, cut_newest, cut_behind, cut_written, cut_all, freed_seen, freed_since, freed_behind, freed_written, freed_all, revert_others, revert_all}
use Rattle.ctr_versions.proofs.Versions.{behind_schemas, seen-map}
use Rattle.ctr_versions.proofs.Xids.{has-minus-other, aborted_numbers, aborted_snapshots, aborted_sound}
use Rattle.ctr_versions.proofs.By.{names_by}
use Rattle.ctr_versions.proofs.Steps.{set_versions, set_xids, same_session, renumbered_session}

-- ---- the chain of the schemas

pub newest_schemas : (number : Numbers) (chain : List (ℕ × Option Made)) → newest number (schemas chain) ≡ newest number chain
newest_schemas number [] = refl
newest_schemas number (v ∷ vs) = ap (option_or (number v.0)) (newest_schemas number vs)

pub written_schemas : (y : ℕ) (chain : List (ℕ × Option Made)) → written_by y (schemas chain) ≡ option_map (λ (o : Option Made). option_map (λ (m : Made). m.schema) o) (written_by y chain)
written_schemas y [] = refl
written_schemas y (h ∷ rest) = elim (y == h.0) as (λ b. cond b (Some (option_map (λ (m : Made). m.schema) h.1)) None ≡ option_map (λ (o : Option Made). option_map (λ (m : Made). m.schema) o) (cond b (Some h.1) None)) [ true ↦ refl | false ↦ refl ]

committed_of : (number : Numbers) (chain : List (ℕ × Option Made)) → AllCommitted number chain → AllCommitted number (schemas chain)
committed_of number [] all = tt
committed_of number (v ∷ vs) all = (all.0, committed_of number vs all.1)

behind_of : (number : Numbers) (chain : List (ℕ × Option Made)) → Behind number chain → Behind number (schemas chain)
behind_of number [] all = tt
behind_of number (v ∷ vs) all = committed_of number vs all

by_schemas : (P : ℕ → Type 0) (chain : List (ℕ × Option Made)) → AllByRecursion (IsBy P) chain → AllByRecursion (IsBy P) (schemas chain)
by_schemas P [] all = tt
by_schemas P (v ∷ vs) all = (all.0, by_schemas P vs all.1)

pub of_schemas : (P : ℕ → Type 0) (chain : List (ℕ × Option Made)) → AllByRecursion (IsBy P) (schemas chain) → AllByRecursion (IsBy P) chain
of_schemas P [] all = tt
of_schemas P (v ∷ vs) all = (all.0, of_schemas P vs all.1)

-- ---- the transactions by which versions are

-- each of a chain is one of these, where all of its writers are
pub among_writers : {V : Type 0} (xs : List ℕ) (chain : List (ℕ × Option V)) → ((x : ℕ) → has x (writers chain) ≡ true → has x xs ≡ true) → AllByRecursion (λ (v : ℕ × Option V). has v.0 xs ≡ true) chain
among_writers xs [] all = tt
among_writers xs (v ∷ vs) all = (all v.0 (ap (λ b. b || has v.0 (writers vs)) (eq-eqb v.0 v.0 refl)), among_writers xs vs (λ x is. all x (or_later (x == v.0) (has x (writers vs)) is)))
  where
    or_later : (a b : Bool) → b ≡ true → (a || b) ≡ true
    or_later true b is = refl
    or_later false b is = is

by_one : {V : Type 0} (P : ℕ → Type 0) (x : ℕ) (chain : List (ℕ × Option V)) → has x (writers chain) ≡ true → AllByRecursion (IsBy P) chain → P x
by_one P x [] is all = absurd (false≢true is)
by_one P x (v ∷ vs) is all = known (x == v.0)
    (λ same. subst P (sym (eqb-true x v.0 same)) all.0)
    (λ isnt. by_one P x vs (sym (ap (λ b. b || has x (writers vs)) isnt) ∙ is) all.1)

pub by_writers : {V : Type 0} (P : ℕ → Type 0) (old new : List (ℕ × Option V)) → AllByRecursion (λ (v : ℕ × Option V). has v.0 (writers old) ≡ true) new → AllByRecursion (IsBy P) old → AllByRecursion (IsBy P) new
by_writers P old [] among all = tt
by_writers P old (v ∷ vs) among all = (by_one P v.0 old among.0 all, by_writers P old vs among.1 all)

same_key : (low : ℕ) (number : Numbers) (at_work : ℕ → Type 0) (old new : List (ℕ × Option Made)) → ShowsTheSame low number at_work old new → (base : Option Schema) (writes : List (Option (Option Schema)))
    → ShowsKey (IsFrom low) (IsFrom low) number base writes (schemas old) → ShowsKey (IsFrom low) (IsFrom low) number base writes (schemas new)
same_key low number at_work old new same base writes key = record {
  rows = λ j le. seen-map (λ (m : Made). m.schema) (by number j) new ∙ ap (option_map (λ (m : Made). m.schema)) (same.seen j le) ∙ sym (seen-map (λ (m : Made). m.schema) (by number j) old) ∙ key.rows j le;
  changes = λ n le. ap (above n) (newest_schemas number new) ∙ same.since n le ∙ sym (ap (above n) (newest_schemas number old)) ∙ key.changes n le;
  told = λ n le. by_schemas (IsChangeTold number n writes) new (by_writers (IsChangeTold number n writes) old new same.writers (of_schemas (IsChangeTold number n writes) old (key.told n le)));
  behind = behind_of number new same.behind;
}

-- ---- the chain of a name gives way to one that shows the same

module _ (low : ℕ) (number : Numbers) (state : State) (old new : Versions) (name : List ℕ) (chain : List (ℕ × Option Made)) (set : NamesSet old new name chain) where
  set_name : (P : List ℕ → List (ℕ × Option Made) → Type 0) (other : List ℕ) → P name chain → (same_name name other ≡ false → P other (names_at old other)) → P other (names_at new other)
  set_name P other hit miss = known (same_name name other)
      (λ is. let same = same_text name other is in subst (λ m. P m (names_at new m)) same (subst (P name) (sym set.here) hit))
      (λ is. subst (P other) (sym (set.others other is)) (miss is))

  same_rows : (id : ℕ) (key : ℤ) → rows_of new id key ≡ rows_of old id key
  same_rows id key = ap (chain_at int_cmp key) (set.slots id)

  module _ (at_work : ℕ → Type 0) (same : ShowsTheSame low number at_work (names_at old name) chain) where
    same_seen : (other : List ℕ) (j : ℕ) → low ≤ j → value_seen (by number j) (names_at new other) ≡ value_seen (by number j) (names_at old other)
    same_seen other j le = set_name (λ m c. value_seen (by number j) c ≡ value_seen (by number j) (names_at old m)) other (same.seen j le) (λ is. refl)

    same_stand : VersionsStand low number state.base state.asked old → VersionsStand low number state.base state.asked new
    same_stand stands = record {
      sorted = set.sorted;
      slots_sorted = λ id. subst (λ s. T (is_sorted int_cmp s)) (sym (set.slots id)) (stands.slots_sorted id);
      tables = λ other. set_name (λ m c. ShowsKey (IsFrom low) (IsFrom low) number (schema_named state.base m) (schema_writes m state.asked) (schemas c)) other (same_key low number at_work (names_at old name) chain same (schema_named state.base name) (schema_writes name state.asked) (stands.tables name)) (λ is. stands.tables other);
      rows = λ other made key. subst (λ c. ShowsKey (IsTableAt low number new other made) (IsTableSince low number new other made) number (row_of (table_at state.base other) key) (row_writes other key state.asked) c) (sym (same_rows made.id key))
          (narrowed (IsTableAt low number old other made) (IsTableSince low number old other made) number (row_of (table_at state.base other) key) (row_writes other key state.asked) (IsTableAt low number new other made) (IsTableSince low number new other made) (rows_of old made.id key)
          (λ j at. (at.0, sym (same_seen other j at.0) ∙ at.1)) (λ n since. (since.0, λ j le. sym (same_seen other j (further n j since.0 le)) ∙ since.1 j le)) (stands.rows other made key));
    }
      where
        further : (n j : ℕ) → low ≤ n → n ≤ j → low ≤ j
        further n j a b = omega (arith, a, b)

    -- what one at work has written stays
    same_wrote : (me n : ℕ) (own : List Change) → at_work me → low ≤ n → Wrote number old me n own → Wrote number new me n own
    same_wrote me n own working le wrote = record {
      is_open = wrote.is_open;
      tables = λ other. set_name (λ m c. written_by me (schemas c) ≡ left_by (schema_change m) own) other
          (written_schemas me chain ∙ ap (λ w. option_map (λ (o : Option Made). option_map (λ (m : Made). m.schema) o) w) heads ∙ sym (written_schemas me (names_at old name)) ∙ wrote.tables name) (λ is. wrote.tables other);
      rows = λ other made key j further is at. ap (written_by me) (same_rows made.id key) ∙ wrote.rows other made key j further (head other None is) (sym (same_seen other j (omega (arith, le, further))) ∙ at);
      created = λ other made key is. subst (AreOwn me own other key) (sym (same_rows made.id key)) (wrote.created other made key (head other (Some (Some made)) is));
      fresh = λ other made j is at. wrote.fresh other made j (head other (Some (Some made)) is)
          (set_name (λ m c. written_by me (names_at old m) ≡ Some (Some made) → value_seen (by number j) c ≡ Some made → value_seen (by number j) (names_at old m) ≡ Some made) other (same.fresh me j made working wrote.is_open) (λ apart mine e. e) (head other (Some (Some made)) is) at);
    }
      where
        heads : written_by me chain ≡ written_by me (names_at old name)
        heads = same.heads me working wrote.is_open

        head : (other : List ℕ) (w : Option (Option Made)) → written_by me (names_at new other) ≡ w → written_by me (names_at old other) ≡ w
        head other w = set_name (λ m c. written_by me c ≡ w → written_by me (names_at old m) ≡ w) other (λ e. sym heads ∙ e) (λ is e. e)

-- ---- what the three that the cleaner puts in its place show

revert_seen : {V : Type 0} (number : Numbers) (j : ℕ) (chain : List (ℕ × Option V)) → value_seen (by number j) (revert number chain) ≡ value_seen (by number j) chain
revert_seen number j [] = refl
revert_seen number j (h ∷ rest) =
    elim (number h.0) as (λ o. number h.0 ≡ o → value_seen (by number j) (cond (is_some o) (h ∷ rest) rest) ≡ cond (is_by j o) h.1 (value_seen (by number j) rest)) [
      | Some k ↦ λ is. ap (λ o. cond (is_by j o) h.1 (value_seen (by number j) rest)) is
      | None ↦ λ is. refl
    ] refl

revert_newest : {V : Type 0} (number : Numbers) (chain : List (ℕ × Option V)) → newest number (revert number chain) ≡ newest number chain
revert_newest number [] = refl
revert_newest number (h ∷ rest) =
    elim (number h.0) as (λ o. number h.0 ≡ o → newest number (cond (is_some o) (h ∷ rest) rest) ≡ option_or o (newest number rest)) [
      | Some k ↦ λ is. ap (λ o. option_or o (newest number rest)) is
      | None ↦ λ is. refl
    ] refl

revert_behind : {V : Type 0} (number : Numbers) (chain : List (ℕ × Option V)) → Behind number chain → Behind number (revert number chain)
revert_behind number [] all = tt
revert_behind number (h ∷ rest) all = elim (is_some (number h.0)) as (λ b. Behind number (cond b (h ∷ rest) rest)) [ true ↦ all | false ↦ committed_behind number rest all ]

cut_fewer : {V : Type 0} (sees passes : ℕ → Bool) (chain : List (ℕ × Option V)) (v : V) → value_seen sees (cut passes chain) ≡ Some v → value_seen sees chain ≡ Some v
cut_fewer sees passes [] v is = is
cut_fewer sees passes (h ∷ rest) v is =
    elim (passes h.0) as (λ b. value_seen sees (cond b (h ∷ []) (h ∷ cut passes rest)) ≡ Some v → cond (sees h.0) h.1 (value_seen sees rest) ≡ Some v) [
      | true ↦ elim (sees h.0) as (λ b. cond b h.1 None ≡ Some v → cond b h.1 (value_seen sees rest) ≡ Some v) [ true ↦ λ e. e | false ↦ λ e. absurd (false≢true (ap is_some e)) ]
      | false ↦ elim (sees h.0) as (λ b. cond b h.1 (value_seen sees (cut passes rest)) ≡ Some v → cond b h.1 (value_seen sees rest) ≡ Some v) [ true ↦ λ e. e | false ↦ cut_fewer sees passes rest v ]
    ] is

freed_fewer : {V : Type 0} (sees passes : ℕ → Bool) (chain : List (ℕ × Option V)) (v : V) → value_seen sees (without_tombstone passes chain) ≡ Some v → value_seen sees chain ≡ Some v
freed_fewer sees passes [] v is = is
freed_fewer sees passes ((x, Some w) ∷ vs) v is = is
freed_fewer sees passes ((x, None) ∷ vs) v is = elim (passes x) as (λ b. value_seen sees (cond b [] ((x, None) ∷ vs)) ≡ Some v → value_seen sees ((x, None) ∷ vs) ≡ Some v) [ true ↦ λ e. absurd (false≢true (ap is_some e)) | false ↦ λ e. e ] is

-- ---- the invariant

module _ (low : ℕ) (engine : EngineHeld) (state : State) (shows : ShowsState low engine state) (new : Versions) (name : List ℕ) where
  abbrev number : Numbers
  number = number_of engine.xids

  abbrev names : List (ℕ × Option Made)
  names = names_at engine.versions name

  abbrev Working : ℕ → Type 0
  Working x = IsWorking x engine state

  names_behind : Behind number names
  names_behind = behind_schemas number names (shows.stands.tables name).behind

  pub chain_step : (chain : List (ℕ × Option Made)) → NamesSet engine.versions new name chain → ShowsTheSame low number Working names chain → ShowsState low (record engine { versions = new }) state
  chain_step chain set same =
      let kept : (P : ℕ → Type 0) → AreBy P engine.versions → AreBy P new = λ P are. names_by P engine.versions new name chain set (by_writers P names chain same.writers (are.names name)) are in
      set_versions low engine state shows new state.sessions (same_stand low number state engine.versions new name chain set Working same shows.stands) (kept (IsDrawn engine.xids.next) shows.drawn)
      (λ s t at. let old = shows.inside s t at in (
        old.0,
        old.1,
        same_session low state.answered engine.xids engine.versions new old.0 t (kept (IsSeenIfOld engine.xids old.0.snapshot) old.2.old)
            (λ calm wrote. same_wrote low number state engine.versions new name chain set Working same old.0.me t.snapshot t.own (record { s = s; t = t; session = old.0; is_t = at; there = old.1; calm = calm; me = refl }) (old.2.from calm.1) wrote) old.2,
      ))

  -- ---- a head that is undone

  module _ (x : ℕ) (v : Option Made) (rest : List (ℕ × Option Made)) (head : HasUndoneHead x v rest engine state name) where
    rest_committed : AllCommitted number rest
    rest_committed = subst (Behind number) head.chain names_behind

    seen_rest : (j : ℕ) → value_seen (by number j) names ≡ value_seen (by number j) rest
    seen_rest j = ap (value_seen (by number j)) head.chain ∙ skip_seen number j x v rest head.is_open

    newest_rest : newest number names ≡ newest number rest
    newest_rest = ap (newest number) head.chain ∙ skip_newest number x v rest head.is_open

    unwritten_head : (y : ℕ) → Working y → (w : Option Made) → written_by y ((x, w) ∷ rest) ≡ None
    unwritten_head y working w = ap (λ b. cond b (Some w) None) (ne_eqb y x (λ same. head.idle (subst Working same working)))

    unwritten_names : (y : ℕ) → Working y → written_by y names ≡ None
    unwritten_names y working = ap (written_by y) head.chain ∙ unwritten_head y working v

    pub head_goes : NamesSet engine.versions new name rest → ShowsState low (record engine { versions = new }) state
    head_goes set = chain_step rest set (record {
      seen = λ j le. sym (seen_rest j);
      since = λ n le. ap (above n) (sym newest_rest);
      behind = committed_behind number rest rest_committed;
      writers = (subst (λ c. AllByRecursion (λ (w : ℕ × Option Made). has w.0 (writers names) ≡ true) c) head.chain (among_writers (writers names) names (λ y is. is))).1;
      heads = λ y working none. committed_none number y rest none rest_committed ∙ sym (unwritten_names y working);
      fresh = λ y j made working none mine seen. seen_rest j ∙ seen;
    })

    pub head_changes : (w : Option Made) → NamesSet engine.versions new name ((x, w) ∷ rest) → ShowsState low (record engine { versions = new }) state
    head_changes w set = chain_step ((x, w) ∷ rest) set (record {
      seen = λ j le. skip_seen number j x w rest head.is_open ∙ sym (seen_rest j);
      since = λ n le. ap (above n) (skip_newest number x w rest head.is_open ∙ sym newest_rest);
      behind = rest_committed;
      writers = subst (λ c. AllByRecursion (λ (w : ℕ × Option Made). has w.0 (writers names) ≡ true) c) head.chain (among_writers (writers names) names (λ y is. is));
      heads = λ y working none. unwritten_head y working w ∙ sym (unwritten_names y working);
      fresh = λ y j made working none mine seen. seen_rest j ∙ sym (skip_seen number j x w rest head.is_open) ∙ seen;
    })

  -- ---- the cleaner on names

  pub name_cut_step : (passes : ℕ → Bool) → IsOld number low passes → NamesSet engine.versions new name (cut passes names) → ShowsState low (record engine { versions = new }) state
  name_cut_step passes is_old set = chain_step (cut passes names) set (record {
    seen = λ j le. cut_seen number low passes is_old j le names;
    since = λ n le. ap (above n) (cut_newest number low passes is_old names);
    behind = cut_behind number low passes is_old names names_behind;
    writers = cut_all (λ (v : ℕ × Option Made). has v.0 (writers names) ≡ true) passes names (among_writers (writers names) names (λ y is. is));
    heads = λ x working none. cut_written number low passes is_old x names;
    fresh = λ x j made working none mine seen. cut_fewer (by number j) passes names made seen;
  })

  pub name_free_step : (passes : ℕ → Bool) → IsOld number low passes → NamesSet engine.versions new name (without_tombstone passes names) → ShowsState low (record engine { versions = new }) state
  name_free_step passes is_old set = chain_step (without_tombstone passes names) set (record {
    seen = λ j le. freed_seen number low passes is_old j le names;
    since = λ n le. freed_since number low passes is_old n le names;
    behind = freed_behind number low passes is_old names names_behind;
    writers = freed_all (λ (v : ℕ × Option Made). has v.0 (writers names) ≡ true) passes names (among_writers (writers names) names (λ y is. is));
    heads = λ x working none. freed_written number low passes is_old x none names;
    fresh = λ x j made working none mine seen. freed_fewer (by number j) passes names made seen;
  })

  -- a head of a transaction that isn't committed and is no session's, as recovery undoes it
  pub name_revert_step : ((x : ℕ) → Working x → written_by x names ≡ None) → NamesSet engine.versions new name (revert number names) → ShowsState low (record engine { versions = new }) state
  name_revert_step free set = chain_step (revert number names) set (record {
    seen = λ j le. revert_seen number j names;
    since = λ n le. ap (above n) (revert_newest number names);
    behind = revert_behind number names names_behind;
    writers = revert_all (λ (v : ℕ × Option Made). has v.0 (writers names) ≡ true) number names (among_writers (writers names) names (λ y is. is));
    heads = λ x working none. revert_others number x names none names_behind (free x working) ∙ sym (free x working);
    fresh = λ x j made working none mine seen. sym (revert_seen number j names) ∙ seen;
  })

-- ---- one that no session has is marked

pub orphan_step : (low : ℕ) (engine : EngineHeld) (state : State) (x : ℕ) → ShowsState low engine state → has x engine.xids.live ≡ true → IsNoSessions engine.sessions x → ShowsState low (record engine { xids = aborted x engine.xids }) state
orphan_step low engine state x shows is_live nobodys =
    let xids = engine.xids in
    let numbers = aborted_numbers xids shows.sound x is_live in
    set_xids low engine state shows (aborted x xids) engine.sessions state.sessions (aborted_sound xids shows.sound x is_live) refl numbers (omega arith)
    (λ s t at. let old = shows.inside s t at in (
      old.0,
      old.1,
      renumbered_session low state.answered xids (aborted x xids) engine.versions old.0 t numbers (aborted_snapshots xids shows.sound x is_live old.0.snapshot t.snapshot old.2.snapshot)
          (λ is. has-minus-other x old.0.me xids.live (nobodys s old.0 old.1) ∙ is) old.2,
    ))
    shows.below shows.apart
