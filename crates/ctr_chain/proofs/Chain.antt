-- What the search through the versions of a row finds is the first of its chain.
use Rattle.std.proofs.Common.{◌≡◌, ℕ, zero, suc, ◌≤◌, cond, Bool, true, false, List, [], ◌∷◌, ◌++◌, map, Option, None, Some, Result, Ok, Err, refl, sym, ◌∙◌, ap, arith}
use Rattle.std.specs.Prelude.{◌==◌}
use Rattle.std.specs.Option.{option_map}
use Rattle.std.proofs.lemmas.Bool.{eqb-true, eq-eqb}
use Rattle.ctr_versions.proofs.Keys.{known}
use Rattle.ctr_page.specs.declared.walk.BadChain.{BadChain}
use Rattle.ctr_page.specs.declared.walk.BadChain.TheVariants.{TooLong}
use Rattle.ctr_page.specs.declared.rows.Place.{Place}
use Rattle.ctr_names.specs.area_Areas.{RowVersion, Slot, Older, Area}
use Rattle.ctr_pvs.specs.area_Reading.{area_of}
use Rattle.ctr_names.specs.area_Chains.{older_bound, places_along, if_any, chain_of}
use Rattle.ctr_bytes.specs.Following.{◌>>=◌}
use Rattle.ctr_pvs.specs.Table.{told_of}
use Rattle.ctr_pvs.specs.area_Checked.{kinds_at}
use Rattle.ctr_page.specs.Columns.{kinds_width}
use Rattle.ctr_pvs.specs.Reading.{kept_at_check, row_check_at}
use Rattle.ctr_pvs.proofs.Told.{chain_ok}
use Rattle.ctr_chain.specs.declared.seeking.Found.{Found}
use Rattle.ctr_chain.specs.declared.seeking.VersionAt.TheVariants.{Head, Previous, Kept}
use Rattle.ctr_chain.specs.Seeing.{first_version, first_xid}
use Rattle.ctr_chain.specs.Seeking.{EntriesOf, most_entries, sought_along, xid_if_any, sought_in, entries_on, sought_at, version_found, xid_found, FindsFirst}
use Rattle.ctr_chain.proofs.Most.{few_entries}

-- an end without damage
abbrev ended : Option Found → Result (Option Found) BadChain
ended o = Ok o

same_end : (a b : Option Found) → ended a ≡ ended b → a ≡ b
same_end a b is = cc is

-- What is told of a version, and of one that is found: the same of a version entry.
module _ {A : Type 0} (pick : RowVersion → A) (tell : Found → A) (sought : ℕ → Bool) (r : EntriesOf) (same_kept : (q : Place) → pick ((area_of r.pages).older q).version ≡ tell (record { xid = ((area_of r.pages).older q).version.0; at = Kept q })) where
  -- what is told of the first version that is sought
  abbrev first : List RowVersion → Option A
  first vs = option_map pick (first_version sought vs)

  -- and of an end of the search
  abbrev told : Option Found → Option A
  told found = option_map tell found

  abbrev older : Place → Older
  older = (area_of r.pages).older

  abbrev versions : ℕ → Place → List RowVersion
  versions m at = map (λ p. (older p).version) (places_along m older at)

  none_along : (m : ℕ) (at : Place) → at.page ≡ 0 → versions m at ≡ []
  none_along zero at none = refl
  none_along (suc m) at none = ap (λ b. map (λ p. (older p).version) (cond b [] (at ∷ places_along m older (older at).pointer))) (eq-eqb at.page 0 none)

  -- one version more
  one_step : (n m last : ℕ) (at : Place) (found : Option Found) → sought_along sought r (suc n) last at ≡ Ok found → (sought_along sought r n at.page (older at).pointer ≡ Ok found → first (versions m (older at).pointer) ≡ told found)
      → first (versions (suc m) at) ≡ told found
  one_step n m last at found is more = known (at.page == 0)
      (λ none. ap first (none_along (suc m) at (eqb-true at.page 0 none)) ∙ ap told (same_end None found (sym (ap (λ b. cond b (Ok None) goes) none) ∙ is)))
      (λ some.
      let on = chain_ok (told_of at.page (kept_at_check r.counted r.pages r.entry at)) (λ _. here) found (sym (ap (λ b. cond b (Ok None) goes) some) ∙ is) in
      ap (λ b. first (map (λ p. (older p).version) (cond b [] (at ∷ places_along m older (older at).pointer)))) some ∙ by_head (sought (older at).version.0) refl on.2)
    where
      this : Found
      this = record { xid = (older at).version.0; at = Kept at }

      here : Result (Option Found) BadChain
      here = cond (sought (older at).version.0) (Ok (Some this)) (sought_along sought r n at.page (older at).pointer)

      goes : Result (Option Found) BadChain
      goes = told_of at.page (kept_at_check r.counted r.pages r.entry at) >>= λ _. here

      by_head : (b : Bool) → sought (older at).version.0 ≡ b → here ≡ Ok found
          → option_map pick (cond (sought (older at).version.0) (Some (older at).version) (first_version sought (versions m (older at).pointer))) ≡ told found
      by_head true t e =
          ap (λ b. option_map pick (cond b (Some (older at).version) (first_version sought (versions m (older at).pointer)))) t
          ∙ ap (λ x. Some x) (same_kept at)
          ∙ ap told (same_end (Some this) found (sym (ap (λ b. cond b (Ok (Some this)) (sought_along sought r n at.page (older at).pointer)) t) ∙ e))
      by_head false t e =
          ap (λ b. option_map pick (cond b (Some (older at).version) (first_version sought (versions m (older at).pointer)))) t
          ∙ more (sym (ap (λ b. cond b (Ok (Some this)) (sought_along sought r n at.page (older at).pointer)) t) ∙ e)

  along_finds : (n m last : ℕ) (at : Place) (found : Option Found) → n ≤ m → sought_along sought r n last at ≡ Ok found → first (versions m at) ≡ told found
  along_finds zero m last at found le is = known (at.page == 0)
      (λ none.
      ap first (none_along m at (eqb-true at.page 0 none))
      ∙ ap told (same_end None found (sym (ap (λ b. cond b (Ok None) (Err (TooLong last (most_entries r)))) none) ∙ is)))
      (λ some. absurd (let e = sym (ap (λ b. cond b (Ok None) (Err (TooLong last (most_entries r)))) some) ∙ is in cc))
  along_finds (suc n) zero last at found le is = absurd (omega (arith, le))
  along_finds (suc n) (suc m) last at found le is = one_step n m last at found is (λ next. along_finds n m at.page (older at).pointer found (omega (arith, le)) next)

  -- the search by a slot, of which the first two versions are in it
  module _ (nobody : sought 0 ≡ false) (few : r.counted ≤ 30000) (p : ℕ) (slot : Slot) (found : Option Found)
      (same_head : pick slot.head ≡ tell (record { xid = slot.head.0; at = Head }))
      (same_previous : (v : RowVersion) → slot.previous ≡ Some v → pick v ≡ tell (record { xid = v.0; at = Previous })) where
    abbrev behind : Result (Option Found) BadChain
    behind = sought_along sought r (most_entries r) p slot.pointer

    abbrev kept : List RowVersion
    kept = versions older_bound slot.pointer

    in_kept : behind ≡ Ok found → first kept ≡ told found
    in_kept = along_finds (most_entries r) older_bound p slot.pointer found (few_entries r.counted (kinds_width (kinds_at (area_of r.pages) r.entry)) few)

    abbrev by_previous : Option RowVersion → Result (Option Found) BadChain
    by_previous prev = cond (sought (xid_if_any prev)) (Ok (Some (record { xid = xid_if_any prev; at = Previous }))) behind

    in_previous : (prev : Option RowVersion) (b : Bool) → slot.previous ≡ prev → sought (xid_if_any prev) ≡ b → by_previous prev ≡ Ok found → first (if_any prev ++ kept) ≡ told found
    in_previous None b is t e = in_kept (sym (ap (λ c. cond c (Ok (Some (record { xid = 0; at = Previous }))) behind) nobody) ∙ e)
    in_previous (Some v) true is t e =
        ap (λ c. option_map pick (cond c (Some v) (first_version sought kept))) t
        ∙ ap (λ x. Some x) (same_previous v is)
        ∙ ap told (same_end (Some (record { xid = v.0; at = Previous })) found (sym (ap (λ c. cond c (Ok (Some (record { xid = v.0; at = Previous }))) behind) t) ∙ e))
    in_previous (Some v) false is t e =
        ap (λ c. option_map pick (cond c (Some v) (first_version sought kept))) t ∙ in_kept (sym (ap (λ c. cond c (Ok (Some (record { xid = v.0; at = Previous }))) behind) t) ∙ e)

    in_row : (b : Bool) → sought slot.head.0 ≡ b → sought_in sought r p slot ≡ Ok found → first (chain_of older slot) ≡ told found
    in_row true t e =
        ap (λ c. option_map pick (cond c (Some slot.head) (first_version sought (if_any slot.previous ++ kept)))) t
        ∙ ap (λ x. Some x) same_head
        ∙ ap told (same_end (Some (record { xid = slot.head.0; at = Head })) found (sym (ap (λ c. cond c (Ok (Some (record { xid = slot.head.0; at = Head }))) (by_previous slot.previous)) t) ∙ e))
    in_row false t e =
        ap (λ c. option_map pick (cond c (Some slot.head) (first_version sought (if_any slot.previous ++ kept)))) t
        ∙ in_previous slot.previous (sought (xid_if_any slot.previous)) refl refl (sym (ap (λ c. cond c (Ok (Some (record { xid = slot.head.0; at = Head }))) (by_previous slot.previous)) t) ∙ e)

-- The search through a row ends without damage: it found the first version of the row's chain that is sought, where it stands.
module _ (sought : ℕ → Bool) (counted : ℕ) (pages : ℕ → List ℕ) (at : Place) (found : Option Found) (nobody : sought 0 ≡ false) (few : counted ≤ 30000) (is : sought_at sought counted pages at ≡ Ok found) where
  abbrev r : EntriesOf
  r = entries_on counted pages at.page

  abbrev area : Area
  area = area_of pages

  abbrev slot : Slot
  slot = area.slot at

  -- a version with its transaction
  abbrev Told : Type 0
  Told = ℕ × Option RowVersion

  abbrev pick : RowVersion → Told
  pick v = (v.0, Some v)

  abbrev tell : Found → Told
  tell f = (f.xid, version_found area at f.at)

  same : option_map pick (first_version sought (chain_of area.older slot)) ≡ option_map tell found
  same =
      in_row pick tell sought r (λ q. refl) nobody few at.page slot found refl (λ v prev. ap (λ (x : Option RowVersion). (v.0, x)) (sym prev)) (sought slot.head.0) refl
      (chain_ok (row_check_at counted pages at) (λ _. sought_in sought r at.page slot) found is).2

  abbrev FindsAs : Option RowVersion → Option Found → Type 0
  FindsAs first None = first ≡ None
  FindsAs first (Some f) = (first ≡ version_found area at f.at) × (option_map (λ (v : RowVersion). v.0) first ≡ Some f.xid)

  finds_as : (first : Option RowVersion) (o : Option Found) → option_map pick first ≡ option_map tell o → FindsAs first o
  finds_as None None e = refl
  finds_as None (Some f) e = absurd cc
  finds_as (Some v) None e = absurd cc
  finds_as (Some v) (Some f) e = let both : pick v ≡ tell f = one (pick v) (tell f) e in (ap (λ (x : Told). x.1) both, ap (λ (x : Told). Some x.0) both)
    where
      some : Told → Option Told
      some x = Some x

      one : (a b : Told) → some a ≡ some b → a ≡ b
      one a b e = cc e

  finds_by : (o : Option Found) → FindsAs (first_version sought (chain_of area.older slot)) o → FindsFirst sought area at o
  finds_by None finds = finds
  finds_by (Some f) finds = finds

  pub row_found : FindsFirst sought area at found
  row_found = finds_by found (finds_as (first_version sought (chain_of area.older slot)) found same)

-- as its transaction is told
pub xid_is_found : (sought : ℕ → Bool) (area : Area) (at : Place) (found : Option Found) → FindsFirst sought area at found → xid_found found ≡ first_xid sought (chain_of area.older (area.slot at))
xid_is_found sought a at None finds = ap (option_map (λ (v : RowVersion). v.0)) (sym finds)
xid_is_found sought a at (Some f) finds = sym finds.1
