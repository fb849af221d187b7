use Rattle.std.proofs.Common.{◌≡◌, ◌≢◌, List, [], ◌∷◌, refl, sym}
use Rattle.std.proofs.lemmas.List.{append-nil}
use Rattle.ctr_txn.proofs.txns.Txns.+answer_all.Goals as goal

-- a list has nothing, or something
by_list : {A : Type 0} {P : Type 0} (l : List A) → (l ≡ [] → P) → (l ≢ [] → P) → P
by_list [] nothing some = nothing refl
by_list (x ∷ xs) nothing some = some (λ is. absurd cc)

-- none was answered: all are, or a record waits
pub returns-in_default-clause-told : goal.returns-in_default-clause-told
returns-in_default-clause-told g t c = (
  [],
  sym (append-nil (g.A.Answering.told c.args.to.now)),
  by_list c.args.store.now.waiting (λ none. (c.in_default.ensures.none none refl).1) (λ some. (c.in_default.ensures.waits some).1),
)
