-- What is sought in the catalog, in the words of the laws of names.
use Rattle.std.proofs.Common.{◌≡◌, ℕ, Bool, true, false, cond, not, List, Option, Some, None, refl, sym, ◌∙◌, ap}
use Rattle.std.specs.Prelude.{is_some, ◌&&◌, ◌||◌}
use Rattle.std.proofs.lemmas.Bool.{false≢true}
use Rattle.ctr_model.specs.State.{same_name}
use Rattle.ctr_snap.specs.Seeing.{SnapshotTaken}
use Rattle.ctr_names.proofs.versions_Keys.{known, same_text}
use Rattle.ctr_names.proofs.versions_Written.{same_itself}
use Rattle.ctr_names.specs.meta_Seen.{xid_is_seen, xid_is_changed}
use Rattle.ctr_names.specs.meta_Tables.{Tables}
use Rattle.ctr_names.specs.area_Areas.{Area, Title}
use Rattle.ctr_names.specs.area_Images.{is_live, is_named_so, is_standing}
use Rattle.ctr_names.specs.Search.{is_changed_for}
use Rattle.ctr_catalog.specs.declared.finding.MadeBy.{MadeBy}
use Rattle.ctr_catalog.specs.Finding.{stands_seen, change_since, is_made_so, change_made, entry_seen, changed_in}

-- whichever of two names is asked of the other
same_turned : (a b : List ℕ) → same_name a b ≡ same_name b a
same_turned a b = known (same_name a b)
    (λ is. is ∙ sym (ap (same_name b) (same_text a b is) ∙ same_itself b))
    (λ isnt. known (same_name b a)
    (λ is. absurd (false≢true (sym isnt ∙ ap (same_name a) (same_text b a is) ∙ same_itself a)))
    (λ neither. isnt ∙ sym neither))

module _ (tables : Tables) (s : SnapshotTaken) (name : List ℕ) (area : Area) (e : ℕ) where
  abbrev u : Title
  u = area.title e

  abbrev made : MadeBy
  made = record { creator = u.creator; dropper = u.dropper }

  pub seen_stands : (me : Option ℕ) → entry_seen tables s me name area e ≡ (is_named_so name (e, u) && is_standing (xid_is_seen tables s me) u)
  seen_stands me = ap (λ b. is_made_so (stands_seen tables s me) (cond (is_live u && b) (Some made) None)) (same_turned u.name name)
      ∙ either (is_live u) (same_name name u.name)
    where
      either : (live named : Bool) → is_made_so (stands_seen tables s me) (cond (live && named) (Some made) None) ≡ ((live && named) && (live && stands_seen tables s me made))
      either true true = refl
      either true false = refl
      either false named = refl

  pub changed_made : is_some (changed_in tables s name area e) ≡ (is_named_so name (e, u) && is_changed_for tables s u)
  changed_made = ap (λ b. is_some (change_made (change_since tables s) (cond (is_live u && b) (Some made) None))) (same_turned u.name name)
      ∙ elim (is_live u && same_name name u.name) as (λ b. is_some (change_made (change_since tables s) (cond b (Some made) None)) ≡ (b && is_changed_for tables s u)) [
        | true ↦ either (xid_is_changed tables s u.dropper) (xid_is_changed tables s u.creator)
        | false ↦ refl
      ]
    where
      either : (dropped created : Bool) → is_some (cond dropped (Some u.dropper) (cond created (Some u.creator) None)) ≡ (dropped || created)
      either true created = refl
      either false true = refl
      either false false = refl

-- by two tests that say the same
pub stands_alike : (test other : ℕ → Bool) → ((x : ℕ) → test x ≡ other x) → (u : Title) → is_standing test u ≡ is_standing other u
stands_alike test other same u = λ i. is_live u && (same u.creator i && not (same u.dropper i))
