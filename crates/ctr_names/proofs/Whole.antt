-- All chains of a sound area: by whom their versions are, and that only heads are open.
use Rattle.std.proofs.Common.{Bool, List, [], arith, drop, false, inl, inr, not, refl, subst, sym, true, ℕ, ℤ, ⊎_elim, ◌<◌, ◌∙◌, ◌∷◌, ◌≡◌, ◌⊎◌}
use Rattle.std.specs.List.{AllByRecursion}
use Rattle.std.specs.Prelude.{nat_lt, ◌&&◌}
use Rattle.std.proofs.Math.Bool.{and-false}
use Rattle.std.proofs.lemmas.Bool.{and_parts, le-ltb, ltb-true}
use Rattle.ctr_record_laws.specs.versions_Chains.{AllCommitted, Behind, IsCommitted, Numbers}
use Rattle.ctr_record_laws.specs.versions_Engine.{AreBy, IsBy, IsDrawn}
use Rattle.ctr_record_laws.specs.versions_Versions.{names_at, rows_of, schema_version, schemas}
use Rattle.ctr_record_laws.specs.meta_Tables.{Tables, is_in}
use Rattle.ctr_record_laws.specs.area_Areas.{Area}
use Rattle.ctr_record_laws.specs.area_Chains.{chain_of}
use Rattle.ctr_record_laws.specs.area_Images.{is_committed_in, is_live, name_chain, versions_in}
use Rattle.ctr_record_laws.specs.area_Sound.{IsAmong, IsSchemaItem, IsSoundArea, xids_in}
use Rattle.ctr_record_laws.specs.Owed.{AgreeOnCommits}
use Rattle.ctr_record_laws.proofs.Heads.{listed_drawn}
use Rattle.ctr_record_laws.proofs.Latest.{live_open, live_some}
use Rattle.ctr_record_laws.proofs.Members.{all_each, all_map}
use Rattle.ctr_record_laws.proofs.Xids.{among_in}
use Rattle.ctr_names.proofs.Chains.{AreAllBy, Version, name_by}
use Rattle.ctr_names.proofs.Names.{names_here}
use Rattle.ctr_names.proofs.Owner.{owner, settled_committed, settled_here, shape}
use Rattle.ctr_names.proofs.Rows.{row_chain}
use Rattle.ctr_names.proofs.Shape.{AreCommitted}

module _ (counted : ℕ) (tables : Tables) (area : Area) (sound : IsSoundArea counted tables area) (some : 0 < tables.next) where
  abbrev committed : ℕ → Bool
  committed = is_committed_in tables

  committed_drawn : (x : ℕ) → committed x ≡ true → (0 < x) × (x < tables.next)
  committed_drawn x is =
      let one = and_parts (nat_lt 0 x) (nat_lt x tables.next && rest) is in
      let two = and_parts (nat_lt x tables.next) rest one.1 in
      (ltb-true 0 x one.0, ltb-true x tables.next two.0)
    where
      rest : Bool
      rest = not (is_in x tables.opens) && not (is_in x tables.aborted)

  live_drawn : (x : ℕ) → IsAmong x (xids_in tables.opens) → (0 < x) × (x < tables.next)
  live_drawn x in_ = listed_drawn tables.next area tables sound.below x (inl (among_in x tables.opens in_))

  -- whoever made or dropped a live entry is such, where those that are committed are, and those that have items
  pub maker_is : (P : ℕ → Type 0) → ((x : ℕ) → committed x ≡ true → P x) → ((x f : ℕ) → IsAmong x (xids_in tables.opens) → IsSchemaItem x f tables.items → P x)
      → (f : ℕ) → f < 32 → is_live (area.title f) ≡ true → P (area.title f).creator × (((area.title f).dropper ≡ 0) ⊎ P (area.title f).dropper)
  maker_is P old has_ f lt alive = (
    ⊎_elim (λ c. old (area.title f).creator c) (λ its. has_ (area.title f).creator f its.0 (inl its.1)) (sound.names.creators f lt alive),
    ⊎_elim (λ z. inl z) (λ more. inr (⊎_elim (λ c. old (area.title f).dropper c) (λ its. has_ (area.title f).dropper f its.0 (inr its.1)) more)) (sound.names.droppers f lt alive),
  )

  -- every version is by one that was drawn
  pub all_drawn : (test : ℕ → Bool) → AreBy (IsDrawn tables.next) (versions_in test area)
  all_drawn test = record {
    names = λ name. subst (AreAllBy (IsDrawn tables.next)) (sym (names_here test area name))
        (name_by (IsDrawn tables.next) test area.title name (λ f lt alive is. maker_is (IsDrawn tables.next) committed_drawn (λ x g in_ item. live_drawn x in_) f lt alive));
    rows = λ id key. row_chain (AllByRecursion (IsBy (IsDrawn tables.next))) test area id key tt (λ at used. (
      ((sound.behind id at used).0, (sound.below.slots id at used).0),
      all_each (drop 1 (chain_of area.older (area.slot at))) (λ v is. committed_drawn v.0 is) (sound.behind id at used).1,
    ));
  }

  module _ (number : Numbers) (agree : AgreeOnCommits number tables) where
    pub rows_behind : (test : ℕ → Bool) (id : ℕ) (key : ℤ) → Behind number (rows_of (versions_in test area) id key)
    rows_behind test id key = row_chain (Behind number) test area id key tt
        (λ at used. all_each (drop 1 (chain_of area.older (area.slot at))) (λ v is. agree v.0 ∙ is) (sound.behind id at used).1)

    pub all_behind : (ws : List Version) → AreCommitted committed refl ws → AllCommitted number ws
    all_behind [] all = tt
    all_behind (w ∷ ws) all = (agree w.0 ∙ all.0, all_behind ws all.1)

    less_behind : (ws : List Version) → AllCommitted number ws → Behind number ws
    less_behind [] all = tt
    less_behind (w ∷ ws) all = all.1

    next_open : committed tables.next ≡ false
    next_open = (λ i. nat_lt 0 tables.next && (le-ltb tables.next tables.next (omega arith) i && (not (is_in tables.next tables.opens) && not (is_in tables.next tables.aborted)))) ∙ and-false (nat_lt 0 tables.next)

    pub chain_behind : (name : List ℕ) → Behind number (name_chain committed area.title name)
    chain_behind name = ⊎_elim
        (λ found. let x = found.0 in
        let in_ = item_live x found.1 found.2 in
        by x (live_open counted tables area sound x in_) (not_zero x (live_some counted tables area sound x in_)) (λ y f item is. sound.names.of_one y x f found.1 item found.2 (is ∙ sym found.3)))
        (λ none. by tables.next next_open (not_zero tables.next some) (λ y f item is. absurd (none y f item is)))
        (owner counted tables area sound name)
      where
        item_live : (x f : ℕ) → IsSchemaItem x f tables.items → IsAmong x (xids_in tables.opens)
        item_live x f (inl in_) = sound.owned.creates x f in_
        item_live x f (inr in_) = sound.owned.drops x f in_

        not_zero : (x : ℕ) → 0 < x → x ≡ 0 → ⊥
        not_zero x lt z = omega (arith, lt, z)

        by : (x : ℕ) (open_ : committed x ≡ false) (nonzero : x ≡ 0 → ⊥) (mine : (y f : ℕ) → IsSchemaItem y f tables.items → (area.title f).name ≡ name → y ≡ x) → Behind number (name_chain committed area.title name)
        by x open_ nonzero mine =
            let here = all_behind (settled_here counted tables area sound name x open_ nonzero mine) (settled_committed counted tables area sound name x open_ nonzero mine) in
            ⊎_elim
            (λ quiet. subst (Behind number) (sym quiet.0) (less_behind (settled_here counted tables area sound name x open_ nonzero mine) here))
            (λ more. subst (Behind number) (sym more.1) here)
            (shape counted tables area sound name x open_ nonzero mine)

    schemas_behind : (ws : List Version) → Behind number ws → Behind number (schemas ws)
    schemas_behind [] all = tt
    schemas_behind (w ∷ ws) all = all_map schema_version (IsCommitted number) (IsCommitted number) (λ v is. is) ws all

    pub names_behind : (name : List ℕ) → Behind number (schemas (names_at (versions_in committed area) name))
    names_behind name = subst (λ ws. Behind number (schemas ws)) (sym (names_here committed area name)) (schemas_behind (name_chain committed area.title name) (chain_behind name))
