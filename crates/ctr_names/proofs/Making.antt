-- Create and Drop: the transaction writes the chain of the name.
use Rattle.std.proofs.Common.{Bool, List, None, Option, Some, [], ap, cond, false, inl, inr, refl, subst, sym, true, ℕ, ⊎_elim, ◌<◌, ◌==◌, ◌∙◌, ◌∷◌, ◌≡◌, ◌⊎◌}
use Rattle.std.specs.List.{flat_map}
use Rattle.std.specs.Ordering.{int_cmp}
use Rattle.std.specs.Prelude.{is_some, ◌&&◌}
use Rattle.std.proofs.lemmas.Bool.{false≢true}
use Rattle.ctr_types.specs.declared.value.Column.{Column}
use Rattle.ctr_record_laws.specs.model_State.{same_name}
use Rattle.ctr_record_laws.specs.versions_Chains.{Numbers, value_seen}
use Rattle.ctr_record_laws.specs.versions_Changes.{write}
use Rattle.ctr_record_laws.specs.versions_Listing.{chain_at}
use Rattle.ctr_record_laws.specs.versions_Versions.{IsUnmadeTable, Made, NamesSet, Versions, names_at}
use Rattle.ctr_record_laws.proofs.versions_Written.{same_itself}
use Rattle.ctr_record_laws.specs.rec_SlogItem.TheVariants.{DropOf}
use Rattle.ctr_record_laws.specs.meta_Effects.{with_item}
use Rattle.ctr_record_laws.specs.meta_Tables.{Tables}
use Rattle.ctr_record_laws.specs.area_Areas.{Area, Firsts, Title}
use Rattle.ctr_record_laws.specs.area_Chains.{places_from}
use Rattle.ctr_record_laws.specs.area_Changes.{ChangesEntry, empty_chains, new_title, with_title}
use Rattle.ctr_record_laws.specs.area_Images.{is_committed_in, is_named_so, made_by_entry, name_chain, rows_gathered, versions_in}
use Rattle.ctr_record_laws.specs.area_Sound.{IsAmong, IsSchemaItem, IsSoundArea, xids_in}
use Rattle.ctr_record_laws.specs.Bounds.{IsInBounds}
use Rattle.ctr_record_laws.specs.Owed.{AgreeOnCommits, OwedByCreate, OwedByDrop}
use Rattle.ctr_record_laws.proofs.Drop.{drop_sound}
use Rattle.ctr_record_laws.proofs.Fresh.{AreNoPages, empty_are_none}
use Rattle.ctr_record_laws.proofs.Latest.{by_title, live_open, title_apart, title_here}
use Rattle.ctr_record_laws.proofs.Members.{among_rest}
use Rattle.ctr_record_laws.proofs.Slots.{slots_here}
use Rattle.ctr_names.proofs.Catalog.{IsOwnOrCommitted, apart_names, create_chain, create_newest, other_name, title_set}
use Rattle.ctr_names.proofs.Chains.{AreAllBy, Version, name_by, seen_entry}
use Rattle.ctr_names.proofs.Entries.{name_of, named_so}
use Rattle.ctr_names.proofs.Front.{one_stands, stands_undropped, x_zero}
use Rattle.ctr_names.proofs.Names.{names_here}
use Rattle.ctr_names.proofs.Owner.{settled_committed, shape}
use Rattle.ctr_names.proofs.Rows.{entry_versions}
use Rattle.ctr_names.proofs.Shape.{AreCommitted, dropped_shape, settled_of, settled_redropped}

-- a free entry is of no name
free_unnamed : (area : Area) (e : ℕ) → (area.title e).state ≡ 0 → (other : List ℕ) → is_named_so other (e, area.title e) ≡ false
free_unnamed area e free other = ap (λ n. (n == 1) && same_name other (area.title e).name) free

-- and no table of its number was made
pub create_unmade : (tables : Tables) (area : Area) (e : ℕ) → IsInBounds area → e < 32 → (area.title e).state ≡ 0 → IsUnmadeTable e (versions_in (is_committed_in tables) area)
create_unmade tables area e bounds inside free = record {
  rows = λ key. ap (λ slots. chain_at int_cmp key slots) (slots_here (is_committed_in tables) area e inside
      ∙ ap (rows_gathered area.older area.slot) (ap (λ (t : Firsts). flat_map (places_from area) t.buckets) (bounds.free e free)));
  names = λ other m test seen. seen_entry (λ n. n.id ≡ e → ⊥) (is_committed_in tables) test area.title other m
      (λ f lt named same. false≢true (sym (free_unnamed area e free other) ∙ ap (λ g. is_named_so other (g, area.title g)) (sym same) ∙ named))
      (ap (value_seen test) (sym (names_here (is_committed_in tables) area other)) ∙ seen);
}

module _ (counted : ℕ) (tables : Tables) (area : Area) (sound : IsSoundArea counted tables area) (number : Numbers) (agree : AgreeOnCommits number tables) where
  abbrev committed : ℕ → Bool
  committed = is_committed_in tables

  abbrev versions : Versions
  versions = versions_in committed area

  pub open_number : (y : ℕ) → committed y ≡ false → number y ≡ None
  open_number y open_ = elim (number y) as (λ o. number y ≡ o → number y ≡ None) [
    | None ↦ λ is. is
    | Some k ↦ λ is. absurd (false≢true (sym open_ ∙ sym (agree y) ∙ ap is_some is))
  ] refl

  pub number_open : (y : ℕ) → number y ≡ None → committed y ≡ false
  number_open y none = sym (agree y) ∙ ap is_some none

  module _ (x : ℕ) (open_now : IsAmong x (xids_in tables.opens)) where
    x_open : committed x ≡ false
    x_open = live_open counted tables area sound x open_now

    x_none : number x ≡ None
    x_none = open_number x x_open

    -- ---- Create

    module _ (new : Area) (e : ℕ) (name : List ℕ) (columns : List Column) (owed : OwedByCreate tables area x e name) (changes : ChangesEntry e (new_title x name columns) empty_chains area new) (bounds : IsInBounds area) where
      abbrev title : Title
      title = new_title x name columns

      abbrev made : Made
      made = made_by_entry (e, title)

      not_named : (other : List ℕ) → is_named_so other (e, area.title e) ≡ false
      not_named = free_unnamed area e owed.free

      -- the transaction sees no table of the name, so each was dropped, by it or before
      dropped : (f : ℕ) → f < 32 → is_named_so name (f, area.title f) ≡ true → (area.title f).dropper ≡ 0 → ⊥
      dropped f lt named none =
          let its = name_of area.title name f named in
          false≢true (sym (owed.unseen f lt its.0 its.1) ∙ stands_undropped counted tables area sound x open_now name owed.alone f lt its.0 its.1 none)

      -- who made or dropped a table of the name is committed, or the one who has the name
      by_owner : AreAllBy (λ y. (committed y ≡ true) ⊎ (y ≡ x)) (name_chain committed area.title name)
      by_owner = name_by (λ y. (committed y ≡ true) ⊎ (y ≡ x)) committed area.title name (λ f lt alive is. (
        ⊎_elim (λ c. inl c) (λ its. inr (owed.alone (area.title f).creator f (inl its.1) is)) (sound.names.creators f lt alive),
        ⊎_elim (λ z. inl z) (λ more. inr (⊎_elim (λ c. inl c) (λ its. inr (owed.alone (area.title f).dropper f (inr its.1) is)) more)) (sound.names.droppers f lt alive),
      ))

      own : (ws : List Version) → AreAllBy (λ y. (committed y ≡ true) ⊎ (y ≡ x)) ws → IsOwnOrCommitted number x ws
      own [] all = tt
      own (w ∷ ws) all = λ none. ⊎_elim (λ c. absurd (false≢true (sym (number_open w.0 none) ∙ c))) (λ is. is) all.0

      chain_now : name_chain committed (with_title e title area).title name ≡ write number x (Some made) (name_chain committed area.title name)
      chain_now = create_chain committed area e title name number x x_none owed.inside (own (name_chain committed area.title name) by_owner) refl refl (same_itself name) (not_named name)
          (create_newest committed area.title e title name refl refl (λ f lt apart is none. dropped f lt is none))

      pub create_set : NamesSet versions (versions_in committed new) name (write number x (Some made) (names_at versions name))
      create_set = subst (λ vs. NamesSet versions vs name (write number x (Some made) (names_at versions name)))
          (sym (entry_versions counted tables area e empty_chains sound owed.inside empty_are_none (subst AreNoPages (sym (bounds.free e owed.free)) (tt, refl)) title new changes committed))
          (title_set committed area e title name (write number x (Some made) (names_at versions name)) (chain_now ∙ ap (write number x (Some made)) (sym (names_here committed area name)))
          (λ other apart. (not_named other, other_name name other apart)))

    -- ---- Drop

    module _ (e : ℕ) (owed : OwedByDrop tables area x e) where
      abbrev name : List ℕ
      name = (area.title e).name

      abbrev u : Title
      u = record (area.title e) { dropper = x }

      abbrev after : Area
      after = with_title e u area

      abbrev now : Tables
      now = with_item (DropOf x e) tables

      sound_now : IsSoundArea counted now after
      sound_now = drop_sound counted tables area x e sound owed

      zero_not : x ≡ 0 → ⊥
      zero_not = x_zero counted tables area sound x open_now name owed.alone

      here : after.title e ≡ u
      here = title_here area e u

      named : is_named_so name (e, area.title e) ≡ true
      named = named_so area.title name e owed.live refl

      named_now : is_named_so name (e, after.title e) ≡ true
      named_now = ap (λ (v : Title). is_named_so name (e, v)) here ∙ named

      name_same : (f : ℕ) → (after.title f).name ≡ (area.title f).name
      name_same = by_title area e u (λ f v. v.name ≡ (area.title f).name) refl (λ f apart. refl)

      item_now : IsAmong (DropOf x e) now.items
      item_now = among_rest (DropOf x e) tables.items (DropOf x e ∷ []) (inl refl)

      mine_now : (y f : ℕ) → IsSchemaItem y f now.items → (after.title f).name ≡ name → y ≡ x
      mine_now y f its is = sound_now.names.of_one y x f e its (inr item_now) (is ∙ sym (name_same e))

      abbrev settled_rest : List Version
      settled_rest = settled_of committed refl area.title name

      same_rest : settled_of committed refl after.title name ≡ settled_rest
      same_rest = settled_redropped committed refl name e area.title after.title (title_apart area e u) x here x_open (ap committed owed.undropped)

      -- no other table of the name is left undropped: of those that stand for the transaction this was the one
      all_dropped : (f : ℕ) → f < 32 → is_named_so name (f, after.title f) ≡ true → committed (after.title f).dropper ≡ false → (after.title f).dropper ≡ x
      all_dropped = by_title area e u (λ f v. f < 32 → is_named_so name (f, v) ≡ true → committed v.dropper ≡ false → v.dropper ≡ x) (λ lt is stays. refl)
          (λ f apart lt is stays.
          let its = name_of area.title name f is in
          ⊎_elim
          (λ none. absurd (apart (one_stands counted tables area sound x open_now name owed.alone f e lt owed.inside its.0 owed.live its.1 refl none owed.undropped)))
          (λ more. ⊎_elim (λ c. absurd (false≢true (sym stays ∙ c))) (λ drop. owed.alone (area.title f).dropper f (inr drop.1) its.1) more)
          (sound.names.droppers f lt its.0))

      not_quiet : ((f : ℕ) → f < 32 → is_named_so name (f, after.title f) ≡ true → committed (after.title f).dropper ≡ false → (committed (after.title f).creator ≡ true) × ((after.title f).dropper ≡ 0)) → ⊥
      not_quiet quiet = zero_not (sym (ap (λ (v : Title). v.dropper) here) ∙ (quiet e owed.inside named_now (ap (λ (v : Title). committed v.dropper) here ∙ x_open)).1)

      chain_dropped : name_chain committed after.title name ≡ (x, None) ∷ settled_rest
      chain_dropped = dropped_shape x (name_chain committed after.title name) (settled_of committed refl after.title name) settled_rest
          ((f : ℕ) → f < 32 → is_named_so name (f, after.title f) ≡ true → committed (after.title f).dropper ≡ false → (committed (after.title f).creator ≡ true) × ((after.title f).dropper ≡ 0))
          ((f : ℕ) → f < 32 → is_named_so name (f, after.title f) ≡ true → committed (after.title f).dropper ≡ false → (after.title f).dropper ≡ x)
          (shape counted now after sound_now name x x_open zero_not mine_now) not_quiet all_dropped same_rest

      write_settled : (ws : List Version) → AreCommitted committed refl ws → write number x None ws ≡ (x, None) ∷ ws
      write_settled [] all = refl
      write_settled (w ∷ ws) all = ap (λ b. cond b ((x, None) ∷ w ∷ ws) ((x, None) ∷ ws)) (agree w.0 ∙ all.0)

      written_shape : (ws rest : List Version) → AreCommitted committed refl rest → (Quiet All : Type 0) → ((ws ≡ rest) × Quiet) ⊎ ((v : Option Made) × (ws ≡ (x, v) ∷ rest) × (All → v ≡ None)) → write number x None ws ≡ (x, None) ∷ rest
      written_shape ws rest all Quiet All (inl quiet) = ap (write number x None) quiet.0 ∙ write_settled rest all
      written_shape ws rest all Quiet All (inr more) = ap (write number x None) more.1 ∙ ap (λ o. cond (is_some o) ((x, None) ∷ (x, more.0) ∷ rest) ((x, None) ∷ rest)) x_none

      chain_written : write number x None (names_at versions name) ≡ (x, None) ∷ settled_rest
      chain_written = ap (write number x None) (names_here committed area name) ∙ written_shape (name_chain committed area.title name) settled_rest (settled_committed counted tables area sound name x x_open zero_not owed.alone)
          ((f : ℕ) → f < 32 → is_named_so name (f, area.title f) ≡ true → committed (area.title f).dropper ≡ false → (committed (area.title f).creator ≡ true) × ((area.title f).dropper ≡ 0))
          ((f : ℕ) → f < 32 → is_named_so name (f, area.title f) ≡ true → committed (area.title f).dropper ≡ false → (area.title f).dropper ≡ x)
          (shape counted tables area sound name x x_open zero_not owed.alone)

      pub drop_set : NamesSet versions (versions_in committed after) name (write number x None (names_at versions name))
      drop_set = title_set committed area e u name (write number x None (names_at versions name)) (chain_dropped ∙ sym chain_written) (apart_names area.title name e u refl refl)
