-- An entry that stands for a transaction is in front of its name's chain.
use Rattle.std.proofs.Common.{Bool, List, Some, ap, arith, drop, inl, inr, length, not, refl, subst, sym, true, ℕ, ⊎_elim, ◌<◌, ◌==◌, ◌∙◌, ◌≡◌}
use Rattle.std.specs.List.{filter}
use Rattle.std.specs.Prelude.{◌&&◌, ◌||◌}
use Rattle.std.proofs.Math.Seq.{drop-length}
use Rattle.std.proofs.lemmas.Bool.{and_parts, eq-eqb, false≢true, ne_eqb, not-true, or_left, or_parts, or_right}
use Rattle.ctr_record_laws.specs.rec_SlogItem.{SlogItem}
use Rattle.ctr_record_laws.specs.meta_Items.{is_item_by}
use Rattle.ctr_record_laws.specs.meta_Tables.{Tables}
use Rattle.ctr_record_laws.specs.area_Areas.{Area}
use Rattle.ctr_record_laws.specs.area_Images.{all_put_first, is_committed_in, is_live, made_by_entry, name_chain, put_first}
use Rattle.ctr_record_laws.specs.area_Sound.{IsAmong, IsOneOf, IsSoundArea, all_undone, stands_for, xids_in}
use Rattle.ctr_record_laws.specs.Owed.{IsNameFreeFor}
use Rattle.ctr_record_laws.proofs.Latest.{live_some}
use Rattle.ctr_names.proofs.Catalog.{IsNewest, chain_front, create_newest, others_chain}
use Rattle.ctr_names.proofs.Chains.{Version, undropped_versions}
use Rattle.ctr_names.proofs.Entries.{name_of, named_so}

module _ (counted : ℕ) (tables : Tables) (area : Area) (sound : IsSoundArea counted tables area) (x : ℕ) (open_now : IsAmong x (xids_in tables.opens)) (name : List ℕ) (alone : IsNameFreeFor x tables.items area.title name) where
  abbrev committed : ℕ → Bool
  committed = is_committed_in tables

  pub x_zero : x ≡ 0 → ⊥
  x_zero none = not_zero x (live_some counted tables area sound x open_now) none
    where
      not_zero : (x : ℕ) → 0 < x → x ≡ 0 → ⊥
      not_zero x lt none = omega (arith, lt, none)

  -- a table of the name that nobody dropped stands for it
  pub stands_undropped : (g : ℕ) → g < 32 → is_live (area.title g) ≡ true → (area.title g).name ≡ name → (area.title g).dropper ≡ 0 → stands_for committed x (area.title g) ≡ true
  stands_undropped g lt_g live_g n none = λ i. maker i && not (committed (none i) || ne_eqb (area.title g).dropper x (λ is. x_zero (sym is ∙ none)) i)
    where
      maker : (committed (area.title g).creator || ((area.title g).creator == x)) ≡ true
      maker = ⊎_elim (or_left (committed (area.title g).creator) ((area.title g).creator == x))
          (λ its. or_right (committed (area.title g).creator) ((area.title g).creator == x) (eq-eqb (area.title g).creator x (alone (area.title g).creator g (inl its.1) n)))
          (sound.names.creators g lt_g live_g)

  -- of the tables of the name that nobody dropped there is one
  pub one_stands : (f g : ℕ) → f < 32 → g < 32 → is_live (area.title f) ≡ true → is_live (area.title g) ≡ true → (area.title f).name ≡ name → (area.title g).name ≡ name → (area.title f).dropper ≡ 0 → (area.title g).dropper ≡ 0 → f ≡ g
  one_stands f g lt_f lt_g live_f live_g n_f n_g none_f none_g = subst (λ t. IsOneOf t (stands_for committed x)) whole (sound.names.undoing x (length own) open_now) f g lt_f lt_g live_f live_g (n_f ∙ sym n_g)
      (stands_undropped f lt_f live_f n_f none_f) (stands_undropped g lt_g live_g n_g none_g)
    where
      own : List SlogItem
      own = filter (is_item_by x) tables.items

      whole : all_undone (drop (length own) own) area.title ≡ area.title
      whole = ap (λ is. all_undone is area.title) (drop-length own)

  module _ (f : ℕ) (lt : f < 32) (alive : is_live (area.title f) ≡ true) (is_name : (area.title f).name ≡ name) (stands : stands_for committed x (area.title f) ≡ true) where
    parts : ((committed (area.title f).creator || ((area.title f).creator == x)) ≡ true) × (not (committed (area.title f).dropper || ((area.title f).dropper == x)) ≡ true)
    parts = and_parts (committed (area.title f).creator || ((area.title f).creator == x)) (not (committed (area.title f).dropper || ((area.title f).dropper == x))) stands

    -- nobody has dropped it
    pub undropped_for : (area.title f).dropper ≡ 0
    undropped_for = ⊎_elim (λ z. z)
        (λ more. let not_ = or_parts (committed (area.title f).dropper) ((area.title f).dropper == x) (not-true (committed (area.title f).dropper || ((area.title f).dropper == x)) parts.1) in
        ⊎_elim (λ c. absurd (false≢true (sym not_.0 ∙ c)))
        (λ its. absurd (false≢true (sym not_.1 ∙ eq-eqb (area.title f).dropper x (alone (area.title f).dropper f (inr its.1) is_name)))) more)
        (sound.names.droppers f lt alive)

    newest_one : IsNewest committed (area.title f) area.title name f
    newest_one = create_newest committed area.title f (area.title f) name refl undropped_for
        (λ g lt_g apart is none. let its = name_of area.title name g is in apart (one_stands g f lt_g lt its.0 alive its.1 is_name none undropped_for))

    -- its version is in front
    abbrev pub others_behind : List Version
    others_behind = others_chain committed area f (area.title f) name

    pub in_front : name_chain committed area.title name ≡ put_first ((area.title f).creator, Some (made_by_entry (f, area.title f))) others_behind
    in_front = chain_front committed name f area.title area.title (λ g apart. refl) (named_so area.title name f alive is_name) newest_one lt
        ∙ ap (λ vs. all_put_first vs others_behind) (undropped_versions (f, area.title f) undropped_for)
