-- The name that goes with what is undone, whatever the disk tells.
use Rattle.std.proofs.Common.{◌≡◌, ◌⊎◌, inl, inr, ⊎_elim, ℕ, true, false, cond, List, [], ◌∷◌, ◌++◌, Some, None, sym, ◌∙◌, ap, subst}
use Rattle.std.specs.List.{AllByRecursion}
use Rattle.ctr_model.specs.State.{has_name}
use Rattle.ctr_rec.specs.declared.record.SlogItem.TheVariants.{AllocOf, FreeOf, CreateOf, DropOf}
use Rattle.ctr_versions.proofs.Keys.{known, some_is}
use Rattle.ctr_undo.specs.declared.list.UndoItem.{UndoItem}
use Rattle.ctr_undo.specs.declared.list.UndoItem.TheVariants.{Slog, Orphan}
use Rattle.ctr_pass.specs.exec_sessions_Sessions.{Sessions}
use Rattle.ctr_pass.specs.exec_Sessions.{IsReleased}
use Rattle.ctr_world.specs.Held.{Running}
use Rattle.ctr_world.specs.World.{HoldsLeft}
use Rattle.ctr_world.specs.Turns.{LastGoes, NameGoes}
use Rattle.ctr_world.proofs.Stuck.{last_held, named_without, held_without, named_with, held_with}

-- what goes is the last, and no other item has its name
pub record IsGone (names left : List (List ℕ)) (name : List ℕ) : Type 0 where
  pub split : names ≡ left ++ name ∷ []
  pub none : has_name name left ≡ false

last_some : (names left : List (List ℕ)) (name : List ℕ) → LastGoes names left (Some name) → IsGone names left name
last_some names left name goes = ⊎_elim (λ none. let is = none.2 in absurd cc) (λ some. by some.0 some.1 some.2) goes
  where
    by : (n : List ℕ) → names ≡ left ++ n ∷ [] → Some name ≡ cond (has_name n left) None (Some n) → IsGone names left name
    by n split told = known (has_name n left)
        (λ yes. let is = told ∙ ap (λ b. cond b None (Some n)) yes in absurd cc)
        (λ no. let same = some_is n name (sym (told ∙ ap (λ b. cond b None (Some n)) no)) in
        record { split = split ∙ ap (λ m. left ++ m ∷ []) same; none = subst (λ m. has_name m left ≡ false) same no })

pub gone_some : (undone : UndoItem) (names left : List (List ℕ)) (name : List ℕ) → NameGoes undone names left (Some name) → IsGone names left name
gone_some (Slog (AllocOf x p)) names left name goes = let is = goes.1 in absurd cc
gone_some (Slog (FreeOf p)) names left name goes = let is = goes.1 in absurd cc
gone_some (Slog (CreateOf x e)) names left name goes = last_some names left name goes
gone_some (Slog (DropOf x e)) names left name goes = last_some names left name goes
gone_some (Orphan x) names left name goes = let is = goes.1 in absurd cc

-- or the same are left, or the last goes and another item has its name
abbrev pub IsLeft : List (List ℕ) → List (List ℕ) → Type 0
IsLeft names left = (left ≡ names) ⊎ ((name : List ℕ) × (names ≡ left ++ name ∷ []) × (has_name name left ≡ true))

last_none : (names left : List (List ℕ)) → LastGoes names left None → IsLeft names left
last_none names left goes = ⊎_elim (λ none. inl (none.1 ∙ sym none.0)) (λ some. by some.0 some.1 some.2) goes
  where
    by : (n : List ℕ) → names ≡ left ++ n ∷ [] → None ≡ cond (has_name n left) None (Some n) → IsLeft names left
    by n split told = known (has_name n left)
        (λ yes. inr (n, split, yes))
        (λ no. let is = told ∙ ap (λ b. cond b None (Some n)) no in absurd cc)

pub gone_none : (undone : UndoItem) (names left : List (List ℕ)) → NameGoes undone names left None → IsLeft names left
gone_none (Slog (AllocOf x p)) names left goes = inl goes.0
gone_none (Slog (FreeOf p)) names left goes = inl goes.0
gone_none (Slog (CreateOf x e)) names left goes = last_none names left goes
gone_none (Slog (DropOf x e)) names left goes = last_none names left goes
gone_none (Orphan x) names left goes = inl goes.0

-- ---- recovery holds what is left

module _ {D : Type 0} (old : Running D) (holds : HoldsLeft old) (left : List (List ℕ)) where
  named_in : (names : List (List ℕ)) → old.names ≡ names → AllByRecursion (λ (name : List ℕ). has_name name old.sessions.stuck ≡ true) names
  named_in names is = subst (AllByRecursion (λ (name : List ℕ). has_name name old.sessions.stuck ≡ true)) is holds.named

  only_in : (names : List (List ℕ)) → old.names ≡ names → (name : List ℕ) → has_name name old.sessions.stuck ≡ true → has_name name names ≡ true
  only_in names is name held = ap (has_name name) (sym is) ∙ holds.only name held

  pub there : (name : List ℕ) → IsGone old.names left name → has_name name old.sessions.stuck ≡ true
  there name gone = last_held name old.sessions.stuck left (named_in (left ++ name ∷ []) gone.split) (only_in (left ++ name ∷ []) gone.split)

  pub holds_released : (name : List ℕ) (moment : ℕ) (now : Sessions) → IsGone old.names left name → IsReleased name moment old.sessions now → HoldsLeft (record old { names = left; sessions = now })
  holds_released name moment now gone is = record {
    named = subst (λ (l : List (List ℕ)). AllByRecursion (λ (n : List ℕ). has_name n l ≡ true) left) (sym is.stuck)
        (named_without name old.sessions.stuck left (named_in (left ++ name ∷ []) gone.split) (only_in (left ++ name ∷ []) gone.split) gone.none);
    only = λ n held. held_without name old.sessions.stuck left (named_in (left ++ name ∷ []) gone.split) (only_in (left ++ name ∷ []) gone.split) n (ap (has_name n) (sym is.stuck) ∙ held);
  }

  pub holds_kept : IsLeft old.names left → HoldsLeft (record old { names = left })
  holds_kept kept = ⊎_elim
      (λ same. record {
        named = named_in left (sym same);
        only = only_in left (sym same);
      })
      (λ some. record {
        named = named_with some.0 old.sessions.stuck left (named_in (left ++ some.0 ∷ []) some.1) (only_in (left ++ some.0 ∷ []) some.1);
        only = held_with some.0 old.sessions.stuck left (named_in (left ++ some.0 ∷ []) some.1) (only_in (left ++ some.0 ∷ []) some.1) some.2;
      })
      kept
