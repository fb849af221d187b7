-- Who is open is a session's, or undo has it left.
use Rattle.std.proofs.Common.{◌≡◌, ◌⊎◌, ⊎_elim, inl, ℕ, true, List, [], ◌∷◌, None, refl, sym, ◌∙◌, ap, subst}
use Rattle.std.specs.Prelude.{is_some}
use Rattle.std.specs.Ordering.{nat_cmp}
use Rattle.std.specs.FinMap.Entries.{find}
use Rattle.std.proofs.lemmas.Bool.{false≢true}
use Rattle.ctr_model.specs.declared.state.Transaction.{Transaction}
use Rattle.ctr_meta.specs.Tables.{is_in}
use Rattle.ctr_paged.specs.area_Sound.{IsAmong}
use Rattle.ctr_paged.specs.actions_Sites.{Site}
use Rattle.ctr_paged.specs.Paged.{Run, AreModelled}
use Rattle.ctr_paged.proofs.record_laws_Xids.{among_in}
use Rattle.ctr_kept.specs.Undo.{Undo, IsSessions}

nobody_in : (ps : List (ℕ × ℕ)) → ((x : ℕ) → is_in x ps ≡ true → ⊥) → ps ≡ []
nobody_in [] none = refl
nobody_in (p ∷ ps) none = absurd (none p.0 (among_in p.0 (p ∷ ps) (inl refl)))

pub none_open : (site : Site) (run : Run) (u : Undo) → ((x : ℕ) → is_in x site.tables.opens ≡ true → IsAmong x u.orphans ⊎ IsSessions run.sessions x) → u.orphans ≡ []
    → (transactions : List (ℕ × Transaction)) → AreModelled run.sessions transactions → ((s : ℕ) → find nat_cmp s transactions ≡ None) → site.tables.opens ≡ []
none_open site run u seated ended transactions modelled none = nobody_in site.tables.opens (λ x open_. ⊎_elim
    (λ theirs. absurd (subst (IsAmong x) ended theirs))
    (λ its. absurd (false≢true (ap is_some (sym (none its.s) ∙ (modelled its.s its.session its.at).1))))
    (seated x open_))
