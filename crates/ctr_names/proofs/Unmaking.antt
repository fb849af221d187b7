-- Uncreate and Undrop: the transaction loses its version in front of the name's chain, or has another one there.
use Rattle.std.proofs.Common.{Bool, List, Option, [], ap, false, inl, inr, not, refl, subst, sym, true, ℕ, ⊎_elim, ◌++◌, ◌∙◌, ◌∷◌, ◌≡◌, ◌⊎◌}
use Rattle.std.specs.List.{filter}
use Rattle.std.specs.Prelude.{◌&&◌}
use Rattle.std.proofs.Math.Bool.{and-false}
use Rattle.std.proofs.lemmas.Bool.{false≢true}
use Rattle.ctr_record_laws.specs.model_State.{same_name}
use Rattle.ctr_record_laws.specs.versions_Versions.{Made, NamesSet, names_at}
use Rattle.ctr_record_laws.specs.rec_SlogItem.{SlogItem}
use Rattle.ctr_record_laws.specs.rec_SlogItem.TheVariants.{CreateOf, DropOf}
use Rattle.ctr_record_laws.specs.meta_Effects.{without_item}
use Rattle.ctr_record_laws.specs.meta_Items.{is_item_by}
use Rattle.ctr_record_laws.specs.meta_Tables.{Tables}
use Rattle.ctr_record_laws.specs.meta_Wanted.{Wanted}
use Rattle.ctr_record_laws.specs.meta_Wanted.TheVariants.{Creation, Dropping}
use Rattle.ctr_record_laws.specs.area_Areas.{Area, Title}
use Rattle.ctr_record_laws.specs.area_Changes.{with_title}
use Rattle.ctr_record_laws.specs.area_Images.{is_committed_in, is_live, is_named_so, name_chain, versions_in}
use Rattle.ctr_record_laws.specs.area_Sound.{IsAmong, IsSchemaItem, IsSoundArea, xids_in}
use Rattle.ctr_record_laws.specs.Bounds.{IsInBounds}
use Rattle.ctr_record_laws.specs.Owed.{IsNameFreeFor, OwedByUncreate, OwedByUndrop}
use Rattle.ctr_record_laws.proofs.Latest.{by_title, live_open, title_apart, title_here}
use Rattle.ctr_record_laws.proofs.Members.{among_rest}
use Rattle.ctr_record_laws.proofs.Uncreate.{uncreate_sound}
use Rattle.ctr_record_laws.proofs.Undone.{filter_among}
use Rattle.ctr_record_laws.proofs.Undrop.{undrop_sound}
use Rattle.ctr_names.specs.Shape.{LosesOwn}
use Rattle.ctr_names.proofs.Catalog.{apart_names, title_set}
use Rattle.ctr_names.proofs.Chains.{Version}
use Rattle.ctr_names.proofs.Entries.{named_so}
use Rattle.ctr_names.proofs.Front.{x_zero}
use Rattle.ctr_names.proofs.Items.{left_fewer, schema_map}
use Rattle.ctr_names.proofs.Names.{names_here}
use Rattle.ctr_names.proofs.Owner.{shape}
use Rattle.ctr_names.proofs.Ranked.{within_catalog}
use Rattle.ctr_names.proofs.Shape.{settled_of, settled_redropped, settled_unchanged}

-- a transaction's last item is one of all
last_among : (x : ℕ) (i : SlogItem) (items earlier : List SlogItem) → filter (is_item_by x) items ≡ earlier ++ i ∷ [] → IsAmong i items
last_among x i items earlier is = (filter_among (is_item_by x) i items (subst (IsAmong i) (sym is) (among_rest i earlier (i ∷ []) (inl refl)))).0

module _ (counted : ℕ) (tables : Tables) (area : Area) (sound : IsSoundArea counted tables area) (x e : ℕ) where
  abbrev committed : ℕ → Bool
  committed = is_committed_in tables

  abbrev name : List ℕ
  name = (area.title e).name

  module _ (item : IsSchemaItem x e tables.items) where
    x_live : IsAmong x (xids_in tables.opens)
    x_live = ⊎_elim (sound.owned.creates x e) (sound.owned.drops x e) item

    x_open : committed x ≡ false
    x_open = live_open counted tables area sound x x_live

    mine : IsNameFreeFor x tables.items area.title name
    mine y f its is = sound.names.of_one y x f e its item is

    zero_not : x ≡ 0 → ⊥
    zero_not = x_zero counted tables area sound x x_live name mine

    abbrev settled_rest : List Version
    settled_rest = settled_of committed refl area.title name

    module _ (bounds : IsInBounds area) (live : is_live (area.title e) ≡ true) (stays : committed (area.title e).dropper ≡ false)
        (busy : committed (area.title e).creator ≡ true → (area.title e).dropper ≡ 0 → ⊥) where
      was : (v : Option Made) × (names_at (versions_in committed area) name ≡ (x, v) ∷ settled_rest)
      was = ⊎_elim
          (λ quiet. absurd (by (quiet.1 e (within_catalog area bounds e live) (named_so area.title name e live refl) stays)))
          (λ more. (more.0, names_here committed area name ∙ more.1))
          (shape counted tables area sound name x x_open zero_not mine)
        where
          by : (committed (area.title e).creator ≡ true) × ((area.title e).dropper ≡ 0) → ⊥
          by both = busy both.0 both.1

      module _ (u : Title) (u_name : u.name ≡ (area.title e).name) (w : Wanted) (sound_now : IsSoundArea counted (without_item w tables) (with_title e u area))
          (same_rest : settled_of committed refl (with_title e u area).title name ≡ settled_rest) where
        abbrev after : Area
        after = with_title e u area

        name_same : (f : ℕ) → (after.title f).name ≡ (area.title f).name
        name_same = by_title area e u (λ f v. v.name ≡ (area.title f).name) u_name (λ f apart. refl)

        mine_now : IsNameFreeFor x (without_item w tables).items after.title name
        mine_now y f its is =
            mine y f (schema_map y f (without_item w tables).items tables.items (left_fewer w (CreateOf y f) tables.items) (left_fewer w (DropOf y f) tables.items) its) (sym (name_same f) ∙ is)

        set : (chain : List Version) → name_chain committed after.title name ≡ chain → NamesSet (versions_in committed area) (versions_in committed after) name chain
        set chain is = title_set committed area e u name chain is (apart_names area.title name e u refl u_name)

        undone : LosesOwn x (versions_in committed area) (versions_in committed after) name
        undone = record {
          v = was.0;
          rest = settled_rest;
          was = was.1;
          now = ⊎_elim
              (λ quiet. inl (set settled_rest (quiet.0 ∙ same_rest)))
              (λ more. inr (more.0, set ((x, more.0) ∷ settled_rest) (more.1 ∙ ap (λ l. (x, more.0) ∷ l) same_rest)))
              (shape counted (without_item w tables) after sound_now name x x_open zero_not mine_now);
        }

  -- ---- Uncreate

  pub uncreate_takes : OwedByUncreate tables x e → IsInBounds area → LosesOwn x (versions_in committed area) (versions_in committed (with_title e (record (area.title e) { state = 2 }) area)) name
  uncreate_takes owed bounds = undone (inl item) bounds its.0 stays (λ is none. false≢true (sym opened ∙ is)) u refl (Creation e) (uncreate_sound counted tables area x e sound owed) same_rest
    where
      u : Title
      u = record (area.title e) { state = 2 }

      item : IsAmong (CreateOf x e) tables.items
      item = last_among x (CreateOf x e) tables.items owed.0 owed.1

      its : (is_live (area.title e) ≡ true) × ((area.title e).creator ≡ x) × (((area.title e).dropper ≡ 0) ⊎ ((area.title e).dropper ≡ x))
      its = sound.names.creates x e item

      opened : committed (area.title e).creator ≡ false
      opened = ap committed its.1 ∙ x_open (inl item)

      stays : committed (area.title e).dropper ≡ false
      stays = ⊎_elim (λ z. ap committed z) (λ is. ap committed is ∙ x_open (inl item)) its.2

      dead : is_named_so name (e, (with_title e u area).title e) ≡ false
      dead = ap (λ (v : Title). is_live v && same_name name v.name) (title_here area e u)

      same_rest : settled_of committed refl (with_title e u area).title name ≡ settled_of committed refl area.title name
      same_rest = settled_unchanged committed refl name e area.title (with_title e u area).title (title_apart area e u)
          (ap (λ b. b && committed ((with_title e u area).title e).dropper) dead)
          (ap (λ b. is_named_so name (e, area.title e) && b) stays ∙ and-false (is_named_so name (e, area.title e)))
          (inl (
            ap (λ b. (b && not (committed ((with_title e u area).title e).dropper)) && committed ((with_title e u area).title e).creator) dead,
            ap (λ b. (is_named_so name (e, area.title e) && not (committed (area.title e).dropper)) && b) opened ∙ and-false (is_named_so name (e, area.title e) && not (committed (area.title e).dropper)),
          ))

  -- ---- Undrop

  pub undrop_takes : OwedByUndrop tables x e → IsInBounds area → LosesOwn x (versions_in committed area) (versions_in committed (with_title e (record (area.title e) { dropper = 0 }) area)) name
  undrop_takes owed bounds = undone (inr item) bounds its.0 stays (λ is none. zero_not (inr item) (sym its.1 ∙ none)) u refl (Dropping e) (undrop_sound counted tables area x e sound owed)
      (settled_redropped committed refl name e area.title (with_title e u area).title (title_apart area e u) 0 (title_here area e u) refl stays)
    where
      u : Title
      u = record (area.title e) { dropper = 0 }

      item : IsAmong (DropOf x e) tables.items
      item = last_among x (DropOf x e) tables.items owed.0 owed.1

      its : (is_live (area.title e) ≡ true) × ((area.title e).dropper ≡ x)
      its = sound.names.drops x e item

      stays : committed (area.title e).dropper ≡ false
      stays = ap committed its.1 ∙ x_open (inr item)
