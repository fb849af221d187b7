-- An Abort: an open transaction without items is aborted, or counts as committed where it has no head.
use Rattle.std.proofs.Common.{◌≡◌, ◌⊎◌, ⊎_elim, inl, inr, ℕ, ◌<◌, true, false, cond, List, [], ◌∷◌, ◌++◌, refl, sym, ◌∙◌, ap, subst}
use Rattle.std.proofs.lemmas.Bool.{false≢true, eq-eqb}
use Rattle.std.specs.List.{AllByRecursion}
use Rattle.std.specs.Prelude.{◌==◌, ◌&&◌, not, nat_lt}
use Rattle.ctr_area.proofs.Buckets.{each_of}
use Rattle.ctr_area.specs.Areas.{Area}
use Rattle.ctr_area.specs.Images.{is_committed_in}
use Rattle.ctr_area.specs.Sound.{IsAmong, AreAllOnce, xids_in, head_count, IsSoundArea}
use Rattle.ctr_record_laws.proofs.Begin.{xids_append}
use Rattle.ctr_record_laws.proofs.Forget.{creator_not, dropper_not}
use Rattle.ctr_record_laws.proofs.Leaving.{all_without, among_without, still_among, once_less, once_both, names_agree, behind_more, AgreeOnNames}
use Rattle.ctr_record_laws.specs.Owed.{OwedByAbort}
use Rattle.ctr_area.specs.meta_Effects.{rolled_back}
use Rattle.ctr_area.specs.meta_Tables.{Tables, is_in, heads_in}
use Rattle.ctr_record_laws.proofs.Heads.{listed_drawn, listed_open}
use Rattle.ctr_record_laws.proofs.Members.{among_front, among_rest, among_parts, all_parts, all_both}
use Rattle.ctr_record_laws.proofs.Xids.{among_in, in_among, not_both, once_parts, tells, looked_up}
use Rattle.ctr_area.specs.rec_SlogItem.TheVariants.{AllocOf, CreateOf, DropOf}
use Rattle.ctr_record_laws.proofs.Owning.{all_of}
use Rattle.ctr_area.proofs.ctr_versions.Keys.{known}

module _ (counted : ℕ) (tables : Tables) (area : Area) (x : ℕ) (sound : IsSoundArea counted tables area) (owed : OwedByAbort tables x) where
  abbrev heads : ℕ
  heads = heads_in x tables.opens

  abbrev now : Tables
  now = rolled_back x tables

  abbrev live : List ℕ
  live = xids_in tables.opens

  abbrev gone : List ℕ
  gone = xids_in tables.aborted

  x_live : IsAmong x live
  x_live = in_among x tables.opens owed.is_open

  x_open : is_committed_in tables x ≡ false
  x_open = listed_open tables x (inl owed.is_open)

  x_drawn : (0 < x) × (x < tables.next)
  x_drawn = listed_drawn tables.next area tables sound.below x (inl owed.is_open)

  -- the aborted ones are what they were, or one more
  aborted_now : (now.aborted ≡ tables.aborted) ⊎ (now.aborted ≡ tables.aborted ++ (x, heads) ∷ [])
  aborted_now = known (heads == 0)
      (λ is. inl (ap (λ b. cond b tables.aborted (tables.aborted ++ (x, heads) ∷ [])) is))
      (λ isnt. inr (ap (λ b. cond b tables.aborted (tables.aborted ++ (x, heads) ∷ [])) isnt))

  gone_was : (y : ℕ) → IsAmong y (xids_in now.aborted) → IsAmong y gone ⊎ (y ≡ x)
  gone_was y in_ = ⊎_elim
      (λ same_. inl (subst (λ l. IsAmong y (xids_in l)) same_ in_))
      (λ longer. ⊎_elim (λ was. inl was) (λ new. ⊎_elim (λ is. inr is) (λ none. absurd none) new)
      (among_parts y gone (x ∷ []) (subst (IsAmong y) (ap xids_in longer ∙ xids_append tables.aborted ((x, heads) ∷ [])) in_)))
      aborted_now

  gone_still : (y : ℕ) → IsAmong y gone → IsAmong y (xids_in now.aborted)
  gone_still y in_ = ⊎_elim
      (λ same_. subst (λ l. IsAmong y (xids_in l)) (sym same_) in_)
      (λ longer. subst (IsAmong y) (sym (ap xids_in longer ∙ xids_append tables.aborted ((x, heads) ∷ []))) (among_front y gone (x ∷ []) in_))
      aborted_now

  -- others stand as they did
  same_open : (y : ℕ) → (y ≡ x → ⊥) → is_in y now.opens ≡ is_in y tables.opens
  same_open y apart = known (is_in y tables.opens)
      (λ is. among_in y now.opens (still_among x y tables.opens apart (in_among y tables.opens is)) ∙ sym is)
      (λ isnt. known (is_in y now.opens) (λ is. absurd (false≢true (sym isnt ∙ among_in y tables.opens (among_without x y tables.opens (in_among y now.opens is))))) (λ out. out ∙ sym isnt))

  same_gone : (y : ℕ) → (y ≡ x → ⊥) → is_in y now.aborted ≡ is_in y tables.aborted
  same_gone y apart = known (is_in y tables.aborted)
      (λ is. among_in y now.aborted (gone_still y (in_among y tables.aborted is)) ∙ sym is)
      (λ isnt. known (is_in y now.aborted) (λ is. absurd (⊎_elim (λ was. false≢true (sym isnt ∙ among_in y tables.aborted was)) apart (gone_was y (in_among y now.aborted is)))) (λ out. out ∙ sym isnt))

  others : (y : ℕ) → (y ≡ x → ⊥) → is_committed_in now y ≡ is_committed_in tables y
  others y apart = λ i. nat_lt 0 y && (nat_lt y tables.next && (not (same_open y apart i) && not (same_gone y apart i)))

  more : (y : ℕ) → is_committed_in tables y ≡ true → is_committed_in now y ≡ true
  more y is = others y (λ same_. false≢true (sym x_open ∙ ap (is_committed_in tables) (sym same_) ∙ is)) ∙ is

  -- it has no item
  no_create : (e : ℕ) → IsAmong (CreateOf x e) tables.items → ⊥
  no_create e in_ = false≢true (sym (owed.none (CreateOf x e) in_) ∙ eq-eqb x x refl)

  no_drop : (e : ℕ) → IsAmong (DropOf x e) tables.items → ⊥
  no_drop e in_ = false≢true (sym (owed.none (DropOf x e) in_) ∙ eq-eqb x x refl)

  no_alloc : (p : ℕ) → IsAmong (AllocOf x p) tables.items → ⊥
  no_alloc p in_ = false≢true (sym (owed.none (AllocOf x p) in_) ∙ ap (λ b. cond b true false) (eq-eqb x x refl))

  stays : (y : ℕ) → (y ≡ x → ⊥) → IsAmong y live → IsAmong y (xids_in now.opens)
  stays y apart in_ = still_among x y tables.opens apart in_

  -- names are as they were, by who counts as committed
  pub abort_agrees : AgreeOnNames (is_committed_in tables) (is_committed_in now) live (xids_in now.opens) tables.items area.title
  abort_agrees = record {
    more = more;
    nobody = refl;
    creators = λ f lt alive. others (area.title f).creator (creator_not counted tables area x sound x_open (λ e in_ item. no_create e item) f lt alive);
    droppers = λ f lt alive. others (area.title f).dropper (dropper_not counted tables area x sound x_open x_drawn.0 (λ e in_ item. no_drop e item) f lt alive);
    back = λ y in_. among_without x y tables.opens in_;
    still = λ y e item in_. stays y (λ is. ⊎_elim (λ c. no_create e (subst (λ y. IsAmong (CreateOf y e) tables.items) is c)) (λ d. no_drop e (subst (λ y. IsAmong (DropOf y e) tables.items) is d)) item) in_;
  }

  abbrev Told : ℕ × ℕ → Type 0
  Told p = p.1 ≡ head_count area p.0

  its_parts : AllByRecursion Told tables.opens × AllByRecursion Told tables.aborted
  its_parts = all_parts Told tables.opens tables.aborted sound.counts

  its_heads : heads ≡ head_count area x
  its_heads = looked_up (head_count area) x tables.opens owed.is_open (tells (head_count area) tables.opens its_parts.0)

  parts : AreAllOnce live × AreAllOnce gone
  parts = once_parts live gone sound.below.once

  gone_once : AreAllOnce (xids_in now.aborted)
  gone_once = ⊎_elim
      (λ same_. subst (λ l. AreAllOnce (xids_in l)) (sym same_) parts.1)
      (λ longer. subst AreAllOnce (sym (ap xids_in longer ∙ xids_append tables.aborted ((x, heads) ∷ [])))
      (once_both gone (x ∷ []) parts.1 ((λ none. none), tt) (λ y in_ too. ⊎_elim (λ is. not_both live gone x sound.below.once x_live (subst (λ y. IsAmong y gone) is in_)) (λ none. none) too)))
      aborted_now

  pub abort_sound : IsSoundArea counted now area
  abort_sound = record {
    readable = sound.readable;
    behind = behind_more (is_committed_in tables) (is_committed_in now) area more sound.behind;
    counts = all_both Told now.opens now.aborted (all_without Told x tables.opens its_parts.0)
        (⊎_elim (λ same_. subst (AllByRecursion Told) (sym same_) its_parts.1)
        (λ longer. subst (AllByRecursion Told) (sym longer) (all_both Told tables.aborted ((x, heads) ∷ []) its_parts.1 (its_heads, tt))) aborted_now);
    owned = record {
      once = sound.owned.once;
      inside = sound.owned.inside;
      uncounted = sound.owned.uncounted;
      allocs = λ y p in_. stays y (λ is. no_alloc p (subst (λ y. IsAmong (AllocOf y p) tables.items) is in_)) (sound.owned.allocs y p in_);
      creates = λ y e in_. stays y (λ is. no_create e (subst (λ y. IsAmong (CreateOf y e) tables.items) is in_)) (sound.owned.creates y e in_);
      drops = λ y e in_. stays y (λ is. no_drop e (subst (λ y. IsAmong (DropOf y e) tables.items) is in_)) (sound.owned.drops y e in_);
    };
    keys = sound.keys;
    pointers = sound.pointers;
    names = names_agree (is_committed_in tables) (is_committed_in now) live (xids_in now.opens) tables.items area.title abort_agrees sound.names;
    below = record {
      slots = sound.below.slots;
      older = sound.below.older;
      entries = sound.below.entries;
      drawn = all_of (λ y. (0 < y) × (y < tables.next)) (xids_in now.opens ++ xids_in now.aborted)
          (λ y in_. ⊎_elim
          (λ front. drawn_in y (among_front y live gone (among_without x y tables.opens front)))
          (λ later. ⊎_elim (λ was. drawn_in y (among_rest y live gone was)) (λ is. subst (λ y. (0 < y) × (y < tables.next)) (sym is) x_drawn) (gone_was y later))
          (among_parts y (xids_in now.opens) (xids_in now.aborted) in_));
      once = once_both (xids_in now.opens) (xids_in now.aborted) (once_less x tables.opens parts.0).0 gone_once
          (λ y in_ too. ⊎_elim (λ was. not_both live gone y sound.below.once (among_without x y tables.opens in_) was)
          (λ is. (once_less x tables.opens parts.0).1 (subst (λ y. IsAmong y (xids_in now.opens)) is in_)) (gone_was y too));
    };
  }
    where
      drawn_in : (y : ℕ) → IsAmong y (live ++ gone) → (0 < y) × (y < tables.next)
      drawn_in y in_ = each_of (λ y. (0 < y) × (y < tables.next)) y (live ++ gone) sound.below.drawn in_
