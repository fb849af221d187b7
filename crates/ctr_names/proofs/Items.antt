-- Items of tables among those of the secondary log.
use Rattle.std.proofs.Common.{List, [], ap, cond, false, inl, inr, subst, sym, true, ℕ, ⊎_elim, ◌∙◌, ◌∷◌, ◌≡◌, ◌⊎◌}
use Rattle.ctr_record_laws.proofs.versions_Keys.{known}
use Rattle.ctr_record_laws.specs.rec_SlogItem.{SlogItem}
use Rattle.ctr_record_laws.specs.rec_SlogItem.TheVariants.{CreateOf, DropOf}
use Rattle.ctr_record_laws.specs.meta_Items.{is_wanted, left_out}
use Rattle.ctr_record_laws.specs.meta_Wanted.{Wanted}
use Rattle.ctr_record_laws.specs.area_Sound.{IsAmong, IsSchemaItem}
use Rattle.ctr_record_laws.proofs.Latest.{create_isnt_drop, entry_of_item, xid_of_item}
use Rattle.ctr_record_laws.proofs.Named.{IsOfPage}

pub further : (i : SlogItem) (items : List SlogItem) (x f : ℕ) → IsSchemaItem x f items → IsSchemaItem x f (i ∷ items)
further i items x f (inl in_) = inl (inr in_)
further i items x f (inr in_) = inr (inr in_)

pub schema_map : (y f : ℕ) (xs ys : List SlogItem) → (IsAmong (CreateOf y f) xs → IsAmong (CreateOf y f) ys) → (IsAmong (DropOf y f) xs → IsAmong (DropOf y f) ys) → IsSchemaItem y f xs → IsSchemaItem y f ys
schema_map y f xs ys a b item = ⊎_elim (λ c. inl (a c)) (λ d. inr (b d)) item

-- ---- the first of a list

-- an item of a page is none
pub behind_page : (i : SlogItem) (items : List SlogItem) (y f : ℕ) → IsOfPage i → IsSchemaItem y f (i ∷ items) → IsSchemaItem y f items
behind_page i items y f page = schema_map y f (i ∷ items) items
    (λ c. ⊎_elim (λ is. absurd (page.no_create y f is)) (λ there. there) c)
    (λ d. ⊎_elim (λ is. absurd (page.no_drop y f is)) (λ there. there) d)

pub create_or : (x e : ℕ) (items : List SlogItem) (y f : ℕ) → IsSchemaItem y f (CreateOf x e ∷ items) → ((y ≡ x) × (f ≡ e)) ⊎ IsSchemaItem y f items
create_or x e items y f item = ⊎_elim
    (λ c. ⊎_elim (λ is. inl (ap xid_of_item is, ap entry_of_item is)) (λ there. inr (inl there)) c)
    (λ d. ⊎_elim (λ is. absurd (create_isnt_drop x y e f (sym is))) (λ there. inr (inr there)) d) item

pub drop_or : (x e : ℕ) (items : List SlogItem) (y f : ℕ) → IsSchemaItem y f (DropOf x e ∷ items) → ((y ≡ x) × (f ≡ e)) ⊎ IsSchemaItem y f items
drop_or x e items y f item = ⊎_elim
    (λ c. ⊎_elim (λ is. absurd (create_isnt_drop y x f e is)) (λ there. inr (inl there)) c)
    (λ d. ⊎_elim (λ is. inl (ap xid_of_item is, ap entry_of_item is)) (λ there. inr (inr there)) d) item

-- the earliest that is wanted goes: the others were there, and one that isn't wanted stays
pub left_fewer : (w : Wanted) (z : SlogItem) (items : List SlogItem) → IsAmong z (left_out w items) → IsAmong z items
left_fewer w z [] in_ = in_
left_fewer w z (i ∷ items) in_ =
    elim (is_wanted w i) as (λ b. IsAmong z (cond b items (i ∷ left_out w items)) → IsAmong z (i ∷ items)) [
      | true ↦ λ in_. inr in_
      | false ↦ λ in_. ⊎_elim (λ is. inl is) (λ there. inr (left_fewer w z items there)) in_
    ] in_

pub left_keeps : (w : Wanted) (z : SlogItem) (items : List SlogItem) → is_wanted w z ≡ false → IsAmong z items → IsAmong z (left_out w items)
left_keeps w z [] isnt in_ = in_
left_keeps w z (a ∷ items) isnt (inl is) =
    subst (IsAmong z) (sym (ap (λ b. cond b items (a ∷ left_out w items)) (ap (is_wanted w) (sym is) ∙ isnt))) (inl is)
left_keeps w z (a ∷ items) isnt (inr in_) = known (is_wanted w a)
    (λ wanted. subst (IsAmong z) (sym (ap (λ b. cond b items (a ∷ left_out w items)) wanted)) in_)
    (λ other. subst (IsAmong z) (sym (ap (λ b. cond b items (a ∷ left_out w items)) other)) (inr (left_keeps w z items isnt in_)))
