-- A Forget: an aborted transaction without a head counts as committed from then on.
use Rattle.std.proofs.Common.{◌≡◌, ⊎_elim, inr, ℕ, ◌<◌, true, false, List, ◌++◌, refl, sym, ◌∙◌, ap, subst, arith}
use Rattle.std.proofs.lemmas.Bool.{false≢true}
use Rattle.std.specs.Prelude.{◌&&◌, not, nat_lt}
use Rattle.ctr_area.proofs.Buckets.{each_of}
use Rattle.ctr_area.specs.Areas.{Area}
use Rattle.ctr_area.specs.Images.{is_committed_in, is_live}
use Rattle.ctr_area.specs.Sound.{IsAmong, AreAllOnce, xids_in, head_count, IsSoundArea}
use Rattle.ctr_record_laws.proofs.Leaving.{all_without, among_without, still_among, once_less, once_both, names_agree, behind_more, AgreeOnNames}
use Rattle.ctr_area.specs.meta_Effects.{forgotten_by}
use Rattle.ctr_area.specs.meta_Tables.{Tables, is_in}
use Rattle.ctr_record_laws.proofs.Heads.{listed_drawn, listed_open}
use Rattle.ctr_record_laws.proofs.Members.{among_front, among_rest, among_parts, all_parts, all_both}
use Rattle.ctr_record_laws.proofs.Xids.{among_in, in_among, not_both, once_parts}
use Rattle.ctr_area.specs.rec_SlogItem.TheVariants.{CreateOf, DropOf}
use Rattle.ctr_record_laws.proofs.Owning.{all_of}
use Rattle.ctr_area.proofs.ctr_versions.Keys.{known}

-- who made or dropped a live entry is committed, open, or nobody
pub creator_not : (counted : ℕ) (tables : Tables) (area : Area) (x : ℕ) → IsSoundArea counted tables area → is_committed_in tables x ≡ false
    → ((e : ℕ) → IsAmong x (xids_in tables.opens) → IsAmong (CreateOf x e) tables.items → ⊥) → (e : ℕ) → e < 32 → is_live (area.title e) ≡ true → (area.title e).creator ≡ x → ⊥
creator_not counted tables area x sound open_ none e lt alive is = ⊎_elim
    (λ c. false≢true (sym open_ ∙ ap (is_committed_in tables) (sym is) ∙ c))
    (λ its. none e (subst (λ y. IsAmong y (xids_in tables.opens)) is its.0) (subst (λ y. IsAmong (CreateOf y e) tables.items) is its.1)) (sound.names.creators e lt alive)

pub dropper_not : (counted : ℕ) (tables : Tables) (area : Area) (x : ℕ) → IsSoundArea counted tables area → is_committed_in tables x ≡ false → 0 < x
    → ((e : ℕ) → IsAmong x (xids_in tables.opens) → IsAmong (DropOf x e) tables.items → ⊥) → (e : ℕ) → e < 32 → is_live (area.title e) ≡ true → (area.title e).dropper ≡ x → ⊥
dropper_not counted tables area x sound open_ some none e lt alive is = ⊎_elim
    (λ z. zero_ (sym is ∙ z))
    (λ more. ⊎_elim (λ c. false≢true (sym open_ ∙ ap (is_committed_in tables) (sym is) ∙ c))
    (λ its. none e (subst (λ y. IsAmong y (xids_in tables.opens)) is its.0) (subst (λ y. IsAmong (DropOf y e) tables.items) is its.1)) more) (sound.names.droppers e lt alive)
  where
    zero_ : x ≡ 0 → ⊥
    zero_ z = omega (arith, some, z)

module _ (counted : ℕ) (tables : Tables) (area : Area) (x : ℕ) (sound : IsSoundArea counted tables area) (gone : is_in x tables.aborted ≡ true) where
  abbrev now : Tables
  now = forgotten_by x tables

  abbrev live : List ℕ
  live = xids_in tables.opens

  x_gone : IsAmong x (xids_in tables.aborted)
  x_gone = in_among x tables.aborted gone

  x_open : is_committed_in tables x ≡ false
  x_open = listed_open tables x (inr gone)

  x_drawn : (0 < x) × (x < tables.next)
  x_drawn = listed_drawn tables.next area tables sound.below x (inr gone)

  never_live : IsAmong x live → ⊥
  never_live in_ = not_both live (xids_in tables.aborted) x sound.below.once in_ x_gone

  -- others stand as they did
  same_gone : (y : ℕ) → (y ≡ x → ⊥) → is_in y now.aborted ≡ is_in y tables.aborted
  same_gone y apart = known (is_in y tables.aborted)
      (λ is. among_in y now.aborted (still_among x y tables.aborted apart (in_among y tables.aborted is)) ∙ sym is)
      (λ isnt. known (is_in y now.aborted) (λ is. absurd (false≢true (sym isnt ∙ among_in y tables.aborted (among_without x y tables.aborted (in_among y now.aborted is))))) (λ out. out ∙ sym isnt))

  others : (y : ℕ) → (y ≡ x → ⊥) → is_committed_in now y ≡ is_committed_in tables y
  others y apart = λ i. nat_lt 0 y && (nat_lt y tables.next && (not (is_in y tables.opens) && not (same_gone y apart i)))

  more : (y : ℕ) → is_committed_in tables y ≡ true → is_committed_in now y ≡ true
  more y is = others y (λ same_. false≢true (sym x_open ∙ ap (is_committed_in tables) (sym same_) ∙ is)) ∙ is

  -- names are as they were, by who counts as committed
  pub forget_agrees : AgreeOnNames (is_committed_in tables) (is_committed_in now) live live tables.items area.title
  forget_agrees = record {
    more = more;
    nobody = refl;
    creators = λ f lt alive. others (area.title f).creator (creator_not counted tables area x sound x_open (λ e in_ item. never_live in_) f lt alive);
    droppers = λ f lt alive. others (area.title f).dropper (dropper_not counted tables area x sound x_open x_drawn.0 (λ e in_ item. never_live in_) f lt alive);
    back = λ y in_. in_;
    still = λ y e item in_. in_;
  }

  parts : AreAllOnce live × AreAllOnce (xids_in tables.aborted)
  parts = once_parts live (xids_in tables.aborted) sound.below.once

  pub forget_sound : IsSoundArea counted now area
  forget_sound = record {
    readable = sound.readable;
    behind = behind_more (is_committed_in tables) (is_committed_in now) area more sound.behind;
    counts = let its = all_parts (λ (p : ℕ × ℕ). p.1 ≡ head_count area p.0) tables.opens tables.aborted sound.counts in
        all_both (λ (p : ℕ × ℕ). p.1 ≡ head_count area p.0) tables.opens now.aborted its.0 (all_without (λ (p : ℕ × ℕ). p.1 ≡ head_count area p.0) x tables.aborted its.1);
    owned = sound.owned;
    keys = sound.keys;
    pointers = sound.pointers;
    names = names_agree (is_committed_in tables) (is_committed_in now) live live tables.items area.title forget_agrees sound.names;
    below = record {
      slots = sound.below.slots;
      older = sound.below.older;
      entries = sound.below.entries;
      drawn = all_of (λ y. (0 < y) × (y < tables.next)) (live ++ xids_in now.aborted)
          (λ y in_. each_of (λ y. (0 < y) × (y < tables.next)) y (live ++ xids_in tables.aborted) sound.below.drawn
          (⊎_elim (λ front. among_front y live (xids_in tables.aborted) front) (λ later. among_rest y live (xids_in tables.aborted) (among_without x y tables.aborted later)) (among_parts y live (xids_in now.aborted) in_)));
      once = once_both live (xids_in now.aborted) parts.0 (once_less x tables.aborted parts.1).0 (λ y in_ too. not_both live (xids_in tables.aborted) y sound.below.once in_ (among_without x y tables.aborted too));
    };
  }
