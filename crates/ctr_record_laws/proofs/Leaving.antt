-- A transaction leaves a list, and may count as committed from then on.
use Rattle.std.proofs.Common.{◌≡◌, ◌⊎◌, ⊎_elim, inl, inr, ℕ, ◌<◌, Bool, true, false, cond, List, [], ◌∷◌, ◌++◌, drop, refl, sym, ◌∙◌, ap, subst}
use Rattle.std.proofs.lemmas.Bool.{false≢true, eq-eqb, eqb-true}
use Rattle.std.specs.List.{AllByRecursion, filter}
use Rattle.std.specs.Prelude.{◌==◌, ◌||◌, ◌&&◌, not}
use Rattle.ctr_area.specs.Areas.{Title, RowVersion, Area}
use Rattle.ctr_area.specs.Chains.{chain_of}
use Rattle.ctr_area.specs.Images.{is_standing, is_live}
use Rattle.ctr_area.specs.Sound.{IsAmong, AreAllOnce, xids_in, AreBehind, AreNamed, IsSchemaItem, all_undone, stands_for}
use Rattle.ctr_area.specs.meta_Items.{is_item_by}
use Rattle.ctr_area.specs.meta_Tables.{without_xid}
use Rattle.ctr_record_laws.proofs.Members.{among_parts, all_each}
use Rattle.ctr_area.specs.rec_SlogItem.{SlogItem}
use Rattle.ctr_area.specs.rec_SlogItem.TheVariants.{AllocOf, FreeOf, CreateOf, DropOf}
use Rattle.ctr_record_laws.proofs.Undone.{undone_dead, one_of_from}
use Rattle.ctr_area.proofs.ctr_versions.Keys.{known}

-- ---- a list without one of its members

pub without_here : (x : ℕ) (p : ℕ × ℕ) (ps : List (ℕ × ℕ)) → (x == p.0) ≡ true → without_xid x (p ∷ ps) ≡ ps
without_here x p ps is = ap (λ b. cond b ps (p ∷ without_xid x ps)) is

pub without_apart : (x : ℕ) (p : ℕ × ℕ) (ps : List (ℕ × ℕ)) → (x == p.0) ≡ false → without_xid x (p ∷ ps) ≡ p ∷ without_xid x ps
without_apart x p ps isnt = ap (λ b. cond b ps (p ∷ without_xid x ps)) isnt

-- what holds of all holds of those that stay
pub all_without : (P : ℕ × ℕ → Type 0) (x : ℕ) (ps : List (ℕ × ℕ)) → AllByRecursion P ps → AllByRecursion P (without_xid x ps)
all_without P x [] all = tt
all_without P x (p ∷ ps) all = known (x == p.0)
    (λ is. subst (AllByRecursion P) (sym (without_here x p ps is)) all.1)
    (λ isnt. subst (AllByRecursion P) (sym (without_apart x p ps isnt)) (all.0, all_without P x ps all.1))

pub among_without : (x y : ℕ) (ps : List (ℕ × ℕ)) → IsAmong y (xids_in (without_xid x ps)) → IsAmong y (xids_in ps)
among_without x y [] in_ = in_
among_without x y (p ∷ ps) in_ = known (x == p.0)
    (λ is. inr (subst (λ l. IsAmong y (xids_in l)) (without_here x p ps is) in_))
    (λ isnt. ⊎_elim (λ here. inl here) (λ there. inr (among_without x y ps there)) (subst (λ l. IsAmong y (xids_in l)) (without_apart x p ps isnt) in_))

pub still_among : (x y : ℕ) (ps : List (ℕ × ℕ)) → (y ≡ x → ⊥) → IsAmong y (xids_in ps) → IsAmong y (xids_in (without_xid x ps))
still_among x y [] apart in_ = in_
still_among x y (p ∷ ps) apart in_ = known (x == p.0)
    (λ is. subst (λ l. IsAmong y (xids_in l)) (sym (without_here x p ps is)) (⊎_elim (λ here. absurd (apart (here ∙ sym (eqb-true x p.0 is)))) (λ there. there) in_))
    (λ isnt. subst (λ l. IsAmong y (xids_in l)) (sym (without_apart x p ps isnt)) (⊎_elim (λ here. inl here) (λ there. inr (still_among x y ps apart there)) in_))

pub once_less : (x : ℕ) (ps : List (ℕ × ℕ)) → AreAllOnce (xids_in ps) → AreAllOnce (xids_in (without_xid x ps)) × (IsAmong x (xids_in (without_xid x ps)) → ⊥)
once_less x [] once = (tt, λ none. none)
once_less x (p ∷ ps) once = known (x == p.0)
    (λ is. (
      subst (λ l. AreAllOnce (xids_in l)) (sym (without_here x p ps is)) once.1,
      λ in_. once.0 (subst (λ y. IsAmong y (xids_in ps)) (eqb-true x p.0 is) (subst (λ l. IsAmong x (xids_in l)) (without_here x p ps is) in_)),
    ))
    (λ isnt. let rest = once_less x ps once.1 in (
      subst (λ l. AreAllOnce (xids_in l)) (sym (without_apart x p ps isnt)) ((λ in_. once.0 (among_without x p.0 ps in_)), rest.0),
      λ in_. ⊎_elim (λ here. false≢true (sym isnt ∙ eq-eqb x p.0 here)) (λ there. rest.1 there) (subst (λ l. IsAmong x (xids_in l)) (without_apart x p ps isnt) in_),
    ))

-- two lists, each once, and none in both
pub once_both : (xs ys : List ℕ) → AreAllOnce xs → AreAllOnce ys → ((y : ℕ) → IsAmong y xs → IsAmong y ys → ⊥) → AreAllOnce (xs ++ ys)
once_both [] ys one two apart = two
once_both (x ∷ xs) ys one two apart =
    ((λ in_. ⊎_elim one.0 (λ behind_. apart x (inl refl) behind_) (among_parts x xs ys in_)), once_both xs ys one.1 two (λ y in_ too. apart y (inr in_) too))

-- ---- titles and what is undone of them

changed_part : {A : Type 0} (part : Title → A) (change : Title → Title) → ((u : Title) → part (change u) ≡ part u) → (t : ℕ → Title) (f e : ℕ) → part (cond (f == e) (change (t e)) (t f)) ≡ part (t f)
changed_part part change same_ t f e = known (f == e)
    (λ here. ap (λ b. part (cond b (change (t e)) (t f))) here ∙ same_ (t e) ∙ ap (λ f. part (t f)) (sym (eqb-true f e here)))
    (λ apart. ap (λ b. part (cond b (change (t e)) (t f))) apart)

-- a part of a title that no item touches is what it was
same_part : {A : Type 0} (part : Title → A) → ((u : Title) → part (record u { state = 2 }) ≡ part u) → ((u : Title) → part (record u { dropper = 0 }) ≡ part u)
    → (is : List SlogItem) (t : ℕ → Title) (f : ℕ) → part (all_undone is t f) ≡ part (t f)
same_part part dead undropped [] t f = refl
same_part part dead undropped (AllocOf x p ∷ is) t f = same_part part dead undropped is t f
same_part part dead undropped (FreeOf p ∷ is) t f = same_part part dead undropped is t f
same_part part dead undropped (CreateOf x e ∷ is) t f = changed_part part (λ (u : Title). record u { state = 2 }) dead (all_undone is t) f e ∙ same_part part dead undropped is t f
same_part part dead undropped (DropOf x e ∷ is) t f = changed_part part (λ (u : Title). record u { dropper = 0 }) undropped (all_undone is t) f e ∙ same_part part dead undropped is t f

pub same_creator : (is : List SlogItem) (t : ℕ → Title) (f : ℕ) → (all_undone is t f).creator ≡ (t f).creator
same_creator is t f = same_part (λ (u : Title). u.creator) (λ u. refl) (λ u. refl) is t f

pub same_name_undone : (is : List SlogItem) (t : ℕ → Title) (f : ℕ) → (all_undone is t f).name ≡ (t f).name
same_name_undone is t f = same_part (λ (u : Title). u.name) (λ u. refl) (λ u. refl) is t f

pub same_dropper : (is : List SlogItem) (t : ℕ → Title) (f : ℕ) → ((all_undone is t f).dropper ≡ 0) ⊎ ((all_undone is t f).dropper ≡ (t f).dropper)
same_dropper [] t f = inr refl
same_dropper (AllocOf x p ∷ is) t f = same_dropper is t f
same_dropper (FreeOf p ∷ is) t f = same_dropper is t f
same_dropper (CreateOf x e ∷ is) t f = known (f == e)
    (λ here. let same_ = ap (λ b. (cond b (record (all_undone is t e) { state = 2 }) (all_undone is t f)).dropper) here ∙ ap (λ f. (all_undone is t f).dropper) (sym (eqb-true f e here)) in
    ⊎_elim (λ z. inl (same_ ∙ z)) (λ was. inr (same_ ∙ was)) (same_dropper is t f))
    (λ apart. let same_ = ap (λ b. (cond b (record (all_undone is t e) { state = 2 }) (all_undone is t f)).dropper) apart in
    ⊎_elim (λ z. inl (same_ ∙ z)) (λ was. inr (same_ ∙ was)) (same_dropper is t f))
same_dropper (DropOf x e ∷ is) t f = known (f == e)
    (λ here. inl (ap (λ b. (cond b (record (all_undone is t e) { dropper = 0 }) (all_undone is t f)).dropper) here))
    (λ apart. let same_ = ap (λ b. (cond b (record (all_undone is t e) { dropper = 0 }) (all_undone is t f)).dropper) apart in
    ⊎_elim (λ z. inl (same_ ∙ z)) (λ was. inr (same_ ∙ was)) (same_dropper is t f))

-- ---- another test of who is committed, and fewer open

-- what another test needs, and other open transactions, so that the catalog is said to be the same
pub record AgreeOnNames (old new : ℕ → Bool) (live live_now : List ℕ) (items : List SlogItem) (title : ℕ → Title) : Type 0 where
  pub more : (y : ℕ) → old y ≡ true → new y ≡ true
  pub nobody : old 0 ≡ new 0
  pub creators : (f : ℕ) → f < 32 → is_live (title f) ≡ true → new (title f).creator ≡ old (title f).creator
  pub droppers : (f : ℕ) → f < 32 → is_live (title f) ≡ true → new (title f).dropper ≡ old (title f).dropper
  pub back : (y : ℕ) → IsAmong y live_now → IsAmong y live
  pub still : (y e : ℕ) → IsSchemaItem y e items → IsAmong y live → IsAmong y live_now

pub names_agree : (old new : ℕ → Bool) (live live_now : List ℕ) (items : List SlogItem) (title : ℕ → Title) → AgreeOnNames old new live live_now items title → AreNamed old live items title → AreNamed new live_now items title
names_agree old new live live_now items title agree names = record {
  creators = λ e lt is. ⊎_elim (λ c. inl (agree.more (title e).creator c)) (λ open_. inr (agree.still (title e).creator e (inl open_.1) open_.0, open_.1)) (names.creators e lt is);
  droppers = λ e lt is. ⊎_elim (λ z. inl z) (λ more. inr (⊎_elim (λ c. inl (agree.more (title e).dropper c)) (λ open_. inr (agree.still (title e).dropper e (inr open_.1) open_.0, open_.1)) more)) (names.droppers e lt is);
  creates = names.creates;
  drops = names.drops;
  once = names.once;
  in_order = names.in_order;
  of_one = names.of_one;
  undoing = λ y k in_. let is = drop k (filter (is_item_by y) items) in
      one_of_from (all_undone is title) (all_undone is title) (stands_for old y) (stands_for new y) (names.undoing y k (agree.back y in_))
      (λ f lt alive counts. (alive, refl, same_view y is f lt (was_live is f alive) ∙ counts));
  standing = one_of_from title title (is_standing old) (is_standing new) names.standing
      (λ f lt alive counts. (alive, refl, (λ i. is_live (title f) && (sym (agree.creators f lt alive) i && not (sym (agree.droppers f lt alive) i))) ∙ counts));
}
  where
    was_live : (is : List SlogItem) (f : ℕ) → is_live (all_undone is title f) ≡ true → is_live (title f) ≡ true
    was_live is f alive = known (is_live (title f)) (λ yes_. yes_) (λ dead. absurd (false≢true (sym (undone_dead is title f dead) ∙ alive)))

    same_by : (c d y : ℕ) → old c ≡ new c → old d ≡ new d → ((old c || (c == y)) && not (old d || (d == y))) ≡ ((new c || (c == y)) && not (new d || (d == y)))
    same_by c d y one two = λ i. (one i || (c == y)) && not (two i || (d == y))

    same_view : (y : ℕ) (is : List SlogItem) (f : ℕ) → f < 32 → is_live (title f) ≡ true → stands_for old y (all_undone is title f) ≡ stands_for new y (all_undone is title f)
    same_view y is f lt alive = same_by (all_undone is title f).creator (all_undone is title f).dropper y
        (ap old (same_creator is title f) ∙ sym (agree.creators f lt alive) ∙ ap new (sym (same_creator is title f)))
        (⊎_elim (λ z. ap old z ∙ agree.nobody ∙ ap new (sym z)) (λ was. ap old was ∙ sym (agree.droppers f lt alive) ∙ ap new (sym was)) (same_dropper is title f))

pub behind_more : (old new : ℕ → Bool) (area : Area) → ((y : ℕ) → old y ≡ true → new y ≡ true) → AreBehind old area → AreBehind new area
behind_more old new area more behind e at used =
    let was = behind e at used in
    (was.0, all_each {P = λ (w : RowVersion). old w.0 ≡ true} {Q = λ (w : RowVersion). new w.0 ≡ true} (drop 1 (chain_of area.older (area.slot at))) (λ w is. more w.0 is) was.1)
