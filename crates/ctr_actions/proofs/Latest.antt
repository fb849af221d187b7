-- The latest item of a transaction: its undoing owes nothing, and takes it away.
use Rattle.std.proofs.Common.{◌≡◌, inl, ℕ, suc, ◌+◌, true, false, cond, List, [], ◌∷◌, ◌++◌, length, arith, refl, sym, ◌∙◌, ap, subst}
use Rattle.std.proofs.lemmas.Bool.{false≢true, eqb-true, eq-eqb}
use Rattle.std.specs.List.{list_any}
use Rattle.std.specs.Prelude.{nat_eq}
use Rattle.ctr_record_laws.specs.area_Sound.{IsAmong}
use Rattle.ctr_record_laws.specs.meta_Items.{is_wanted, is_item_by, left_out}
use Rattle.ctr_record_laws.specs.meta_Wanted.{Wanted}
use Rattle.ctr_record_laws.specs.meta_Wanted.TheVariants.{Allocation, OfPage, Creation, Dropping}
use Rattle.ctr_record_laws.proofs.Members.{among_rest}
use Rattle.ctr_record_laws.specs.rec_SlogItem.{SlogItem}
use Rattle.ctr_record_laws.specs.rec_SlogItem.TheVariants.{AllocOf, FreeOf, CreateOf, DropOf}
use Rattle.ctr_record_laws.proofs.Items.{taken_out, any_there}
use Rattle.ctr_record_laws.proofs.Undone.{filter_among}
use Rattle.ctr_record_laws.specs.Owed.{IsLastItem}
use Rattle.ctr_record_laws.proofs.versions_Keys.{known}
use Rattle.ctr_actions.specs.Sites.{Site}
use Rattle.ctr_actions.specs.Actions.{Owes, site_after, undoing}
use Rattle.ctr_actions.proofs.Items.{wanted_itself}

-- ---- what is among those of a transaction is among all, and is its own

pub last_among : (x : ℕ) (i : SlogItem) (items : List SlogItem) → IsLastItem x i items → IsAmong i items × (is_item_by x i ≡ true)
last_among x i items (earlier, is) = filter_among (is_item_by x) i items (subst (IsAmong i) (sym is) (among_rest i earlier (i ∷ []) (inl refl)))

own_alloc : (x y p : ℕ) → is_item_by x (AllocOf y p) ≡ true → y ≡ x
own_alloc x y p own = known (nat_eq y x) (λ is. eqb-true y x is) (λ isnt. absurd (false≢true (sym (ap (λ b. cond b true false) isnt) ∙ own)))

own_create : (x y e : ℕ) → is_item_by x (CreateOf y e) ≡ true → y ≡ x
own_create x y e own = eqb-true y x own

own_drop : (x y e : ℕ) → is_item_by x (DropOf y e) ≡ true → y ≡ x
own_drop x y e own = eqb-true y x own

-- ---- its undoing

module _ (x : ℕ) (s : Site) where
  abbrev items : List SlogItem
  items = s.tables.items

  pub undoing_owed : (i : SlogItem) → IsLastItem x i items → Owes x (undoing i) s
  undoing_owed (AllocOf y p) last =
      let found = last_among x (AllocOf y p) items last in
      subst (λ z. list_any (is_wanted (Allocation z p)) items ≡ true) (own_alloc x y p found.1) (any_there (Allocation y p) (AllocOf y p) items (wanted_itself y p) found.0)
  undoing_owed (FreeOf p) last = absurd (false≢true (last_among x (FreeOf p) items last).1)
  undoing_owed (CreateOf y e) last = subst (λ z. IsLastItem x (CreateOf z e) items) (own_create x y e (last_among x (CreateOf y e) items last).1) last
  undoing_owed (DropOf y e) last = subst (λ z. IsLastItem x (DropOf z e) items) (own_drop x y e (last_among x (DropOf y e) items last).1) last

-- ---- an item is undone: the secondary log has one less

one_longer : (i : SlogItem) (front rest : List SlogItem) → length (front ++ i ∷ rest) ≡ length (front ++ rest) + 1
one_longer i [] rest = omega arith
one_longer i (a ∷ front) rest = turned (length (front ++ i ∷ rest)) (length (front ++ rest)) (one_longer i front rest)
  where
    turned : (m n : ℕ) → m ≡ n + 1 → suc m ≡ suc n + 1
    turned m n is = omega (arith, is)

log_less : (w : Wanted) (i : SlogItem) (items : List SlogItem) → is_wanted w i ≡ true → IsAmong i items → length items ≡ length (left_out w items) + 1
log_less w i items wanted in_ =
    let one = (taken_out w items (any_there w i items wanted in_)).2 in
    ap length one.more_is ∙ one_longer _ one.front one.rest ∙ ap (λ is. length is + 1) (sym one.less_is)

pub log_shorter : (x : ℕ) (s : Site) (i : SlogItem) → IsAmong i s.tables.items → length s.tables.items ≡ length (site_after x (undoing i) s).tables.items + 1
log_shorter x s (AllocOf y p) in_ = log_less (OfPage p) (AllocOf y p) s.tables.items (eq-eqb p p refl) in_
log_shorter x s (FreeOf p) in_ = log_less (OfPage p) (FreeOf p) s.tables.items (eq-eqb p p refl) in_
log_shorter x s (CreateOf y e) in_ = log_less (Creation e) (CreateOf y e) s.tables.items (eq-eqb e e refl) in_
log_shorter x s (DropOf y e) in_ = log_less (Dropping e) (DropOf y e) s.tables.items (eq-eqb e e refl) in_
