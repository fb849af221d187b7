-- A Trim of an entry of the catalog: a dropped one dies, and a dead one without a page is free.
use Rattle.std.proofs.Common.{◌≡◌, ◌⊎◌, ⊎_elim, inl, inr, ℕ, ◌<◌, ◌≤◌, Bool, true, false, cond, List, drop, refl, sym, ◌∙◌, ap, subst}
use Rattle.std.proofs.lemmas.Bool.{false≢true, eq-eqb}
use Rattle.std.specs.List.{filter}
use Rattle.std.specs.Prelude.{◌==◌}
use Rattle.ctr_area.proofs.Buckets.{each_of}
use Rattle.ctr_area.specs.Areas.{Title, no_pages, Area}
use Rattle.ctr_area.specs.Changes.{with_title, with_firsts, ChangesEntry}
use Rattle.ctr_area.specs.Images.{is_committed_in, is_standing, is_live}
use Rattle.ctr_area.specs.Sound.{IsAmong, how_many, xids_in, owned_pages, AreNamed, IsSoundArea, IsSchemaItem, all_undone, stands_for}
use Rattle.ctr_area.specs.meta_Items.{is_item_by}
use Rattle.ctr_area.specs.meta_Tables.{Tables}
use Rattle.ctr_area.specs.rec_SlogItem.{SlogItem}
use Rattle.ctr_area.specs.rec_SlogItem.TheVariants.{CreateOf, DropOf}
use Rattle.ctr_record_laws.proofs.Fresh.{AreNoPages, mid_sound, fresh_pages, fresh_sound}
use Rattle.ctr_record_laws.proofs.Latest.{title_apart, titled_sound, live_below, live_open}
use Rattle.ctr_record_laws.proofs.Owning.{all_of}
use Rattle.ctr_record_laws.proofs.Undone.{undone_at, undone_dead, one_of_from}
use Rattle.ctr_record_laws.specs.Owed.{OwedByDying, OwedByFreeing}
use Rattle.ctr_area.proofs.ctr_versions.Keys.{known}

-- ---- an entry that isn't live from now on, and has no item

module _ (counted : ℕ) (tables : Tables) (area : Area) (e : ℕ) (u : Title) (sound : IsSoundArea counted tables area) (dead : is_live u ≡ false)
    (no_create : (y : ℕ) → IsAmong (CreateOf y e) tables.items → ⊥) (no_drop : (y : ℕ) → IsAmong (DropOf y e) tables.items → ⊥) where
  abbrev items : List SlogItem
  items = tables.items

  abbrev live : List ℕ
  live = xids_in tables.opens

  abbrev committed : ℕ → Bool
  committed = is_committed_in tables

  abbrev after : Area
  after = with_title e u area

  live_was : (f : ℕ) → is_live (after.title f) ≡ true → (f ≡ e → ⊥) × (after.title f ≡ area.title f)
  live_was f alive = known (f == e)
      (λ is. absurd (false≢true (sym (ap (λ b. is_live (cond b u (area.title f))) is ∙ dead) ∙ alive)))
      (λ isnt. let apart : f ≡ e → ⊥ = λ is. false≢true (sym isnt ∙ eq-eqb f e is) in (apart, title_apart area e u f apart))

  item_apart : (y f : ℕ) → IsSchemaItem y f items → f ≡ e → ⊥
  item_apart y f (inl in_) is = no_create y (subst (λ f. IsAmong (CreateOf y f) items) is in_)
  item_apart y f (inr in_) is = no_drop y (subst (λ f. IsAmong (DropOf y f) items) is in_)

  pub gone_names : AreNamed committed live items after.title
  gone_names = record {
    creators = λ f lt alive. let was = live_was f alive in
        subst (λ (v : Title). (committed v.creator ≡ true) ⊎ (IsAmong v.creator live × IsAmong (CreateOf v.creator f) items)) (sym was.1) (sound.names.creators f lt (subst (λ v. is_live v ≡ true) was.1 alive));
    droppers = λ f lt alive. let was = live_was f alive in
        subst (λ (v : Title). (v.dropper ≡ 0) ⊎ ((committed v.dropper ≡ true) ⊎ (IsAmong v.dropper live × IsAmong (DropOf v.dropper f) items))) (sym was.1) (sound.names.droppers f lt (subst (λ v. is_live v ≡ true) was.1 alive));
    creates = λ y f in_. subst (λ (v : Title). (is_live v ≡ true) × (v.creator ≡ y) × ((v.dropper ≡ 0) ⊎ (v.dropper ≡ y))) (sym (title_apart area e u f (item_apart y f (inl in_)))) (sound.names.creates y f in_);
    drops = λ y f in_. subst (λ (v : Title). (is_live v ≡ true) × (v.dropper ≡ y)) (sym (title_apart area e u f (item_apart y f (inr in_)))) (sound.names.drops y f in_);
    once = sound.names.once;
    in_order = sound.names.in_order;
    of_one = λ y z f g a b same_. sound.names.of_one y z f g a b
        (ap (λ (v : Title). v.name) (sym (title_apart area e u f (item_apart y f a))) ∙ same_ ∙ ap (λ (v : Title). v.name) (title_apart area e u g (item_apart z g b)));
    undoing = λ y k in_. let is = drop k (filter (is_item_by y) items) in
        one_of_from (all_undone is area.title) (all_undone is after.title) (stands_for committed y) (stands_for committed y) (sound.names.undoing y k in_)
        (λ f lt alive counts. known (f == e)
        (λ here. absurd (false≢true (sym (undone_dead is after.title f (ap (λ b. is_live (cond b u (area.title f))) here ∙ dead)) ∙ alive)))
        (λ apart. let same_at = undone_at is after.title area.title f (title_apart area e u f (λ same_f. false≢true (sym apart ∙ eq-eqb f e same_f))) in
        (subst (λ v. is_live v ≡ true) same_at alive, ap (λ (v : Title). v.name) same_at, subst (λ v. stands_for committed y v ≡ true) same_at counts)));
    standing = one_of_from area.title after.title (is_standing committed) (is_standing committed) sound.names.standing
        (λ f lt alive counts. let was = live_was f alive in (subst (λ v. is_live v ≡ true) was.1 alive, ap (λ (v : Title). v.name) was.1, subst (λ v. is_standing committed v ≡ true) was.1 counts));
  }

-- ---- a dropped entry dies

module _ (counted : ℕ) (tables : Tables) (area : Area) (e : ℕ) (sound : IsSoundArea counted tables area) (passes : ℕ → Bool) (owed : OwedByDying passes tables area e) where
  abbrev d : ℕ
  d = (area.title e).dropper

  dropped : is_committed_in tables d ≡ true
  dropped = owed.old d owed.dropped

  -- nobody open has an item of it
  dropper_open : (y : ℕ) → IsAmong y (xids_in tables.opens) → d ≡ y → ⊥
  dropper_open y in_ is = false≢true (sym (live_open counted tables area sound y in_) ∙ ap (is_committed_in tables) (sym is) ∙ dropped)

  no_creation : (y : ℕ) → IsAmong (CreateOf y e) tables.items → ⊥
  no_creation y in_ = ⊎_elim
      (λ z. false≢true (ap (is_committed_in tables) (sym z) ∙ dropped))
      (λ is. dropper_open y (sound.owned.creates y e in_) is) (sound.names.creates y e in_).2

  no_dropping : (y : ℕ) → IsAmong (DropOf y e) tables.items → ⊥
  no_dropping y in_ = dropper_open y (sound.owned.drops y e in_) (sound.names.drops y e in_).1

  pub dying_sound : IsSoundArea counted tables (with_title e (record (area.title e) { state = 2 }) area)
  dying_sound =
      let dead : Title = record (area.title e) { state = 2 } in
      titled_sound area e dead counted tables tables refl refl refl sound (live_below tables.next (area.title e) owed.live (sound.below.entries e))
      (record { once = sound.owned.once; inside = sound.owned.inside; uncounted = sound.owned.uncounted; allocs = sound.owned.allocs; creates = sound.owned.creates; drops = sound.owned.drops })
      (gone_names counted tables area e dead sound refl no_creation no_dropping)

-- ---- a dead entry is free

module _ (counted : ℕ) (tables : Tables) (area : Area) (e : ℕ) (u : Title) (free : u.state ≡ 0) (sound : IsSoundArea counted tables area) (owed : OwedByFreeing area e) (new : Area) (changes : ChangesEntry e u no_pages area new) where
  is_dead : is_live (area.title e) ≡ false
  is_dead = ap (λ n. n == 1) owed.dead

  not_live : is_live u ≡ false
  not_live = ap (λ n. n == 1) free

  none_created : (y : ℕ) → IsAmong (CreateOf y e) tables.items → ⊥
  none_created y in_ = false≢true (sym is_dead ∙ (sound.names.creates y e in_).0)

  none_dropped : (y : ℕ) → IsAmong (DropOf y e) tables.items → ⊥
  none_dropped y in_ = false≢true (sym is_dead ∙ (sound.names.drops y e in_).0)

  none : AreNoPages (area.firsts e)
  none = (owed.no_rows, owed.no_versions)

  nothing : AreNoPages no_pages
  nothing = (tt, refl)

  abbrev between : Area
  between = with_firsts e no_pages area

  between_sound : IsSoundArea counted tables between
  between_sound = mid_sound counted tables area e no_pages sound owed.inside nothing none

  pages : owned_pages tables.items new ≡ owned_pages tables.items between
  pages = fresh_pages counted tables area e no_pages sound owed.inside nothing none u new changes tables.items

  pub freeing_sound : IsSoundArea counted tables new
  freeing_sound = fresh_sound counted tables area e no_pages sound owed.inside nothing none u new changes tables.items
      (record {
        once = λ q behind_ inside_. ap (how_many (λ r. r == q)) pages ∙ between_sound.owned.once q behind_ inside_ ∙ ap (λ b. cond b 1 0) (sym (changes.taken q));
        inside = all_of (λ q. (3 ≤ q) × (q < counted) × (new.taken q ≡ true)) (owned_pages tables.items new)
            (λ q in_. let its = each_of (λ q. (3 ≤ q) × (q < counted) × (between.taken q ≡ true)) q (owned_pages tables.items between) between_sound.owned.inside (subst (IsAmong q) pages in_) in
            (its.0, its.1, changes.taken q ∙ its.2));
        uncounted = λ q le. changes.taken q ∙ between_sound.owned.uncounted q le;
        allocs = sound.owned.allocs;
        creates = sound.owned.creates;
        drops = sound.owned.drops;
      })
      (gone_names counted tables area e u sound not_live none_created none_dropped) (inl free)
