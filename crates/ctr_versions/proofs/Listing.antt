-- From chains to lists of rows.
use Rattle.std.proofs.Common.{◌≡◌, ℕ, Bool, true, false, cond, List, [], ◌∷◌, Option, Some, None, refl, sym, ◌∙◌, ap, subst}
use Rattle.std.specs.Prelude.{unwrap_or, T, ◌&&◌}
use Rattle.std.specs.Option.{option_map_or}
use Rattle.std.specs.declared.cmp.Ordering.{Ordering}
use Rattle.std.specs.declared.cmp.Ordering.TheVariants.{Less, Equal, Greater}
use Rattle.std.specs.Ordering.{is_lt, is_eq, eq_by_cmp}
use Rattle.std.specs.Cmp.{IsTotalOrder}
use Rattle.std.specs.FinMap.Entries.{find, put, find-put, below_all, is_sorted, same_entries}
use Rattle.std.proofs.lemmas.Map.Lookups.{CmpEqualImpliesEq}
use Rattle.ctr_versions.specs.Chains.{value_seen}
use Rattle.ctr_versions.specs.Listing.{chain_at, entries_seen}

both : (a b : Bool) → T a → T b → T (a && b)
both true b p q = q
both false b p q = p

first : (a b : Bool) → T (a && b) → T a
first true b p = tt
first false b p = p

second : (a b : Bool) → T (a && b) → T b
second true b p = p
second false b p = absurd p

module _ {K V : Type 0} (cmp : K → K → Ordering) where
  below-shown : (sees : ℕ → Bool) (x : K) (es : List (K × List (ℕ × Option V))) → T (below_all cmp x es) → T (below_all cmp x (entries_seen sees es))
  below-shown sees x [] h = tt
  below-shown sees x (e ∷ es) h =
      let rest = below-shown sees x es (second _ _ h) in
      elim (value_seen sees e.1) as (λ o. T (below_all cmp x (option_map_or (λ v. (e.0, v) ∷ entries_seen sees es) o (entries_seen sees es)))) [ Some v ↦ both _ _ (first _ _ h) rest | None ↦ rest ]

  pub is_sorted-shown : (sees : ℕ → Bool) (es : List (K × List (ℕ × Option V))) → T (is_sorted cmp es) → T (is_sorted cmp (entries_seen sees es))
  is_sorted-shown sees [] h = tt
  is_sorted-shown sees (e ∷ es) h =
      let rest = is_sorted-shown sees es (second _ _ h) in
      elim (value_seen sees e.1) as (λ o. T (is_sorted cmp (option_map_or (λ v. (e.0, v) ∷ entries_seen sees es) o (entries_seen sees es)))) [
        | Some v ↦ both _ _ (below-shown sees e.0 es (first _ _ h)) rest
        | None ↦ rest
      ]

less : (o : Ordering) → T (is_lt o) → o ≡ Less
less Less p = refl
less Equal p = absurd p
less Greater p = absurd p

equal : (o : Ordering) → is_eq o ≡ true → o ≡ Equal
equal Less p = absurd (subst T (sym p) tt)
equal Equal p = refl
equal Greater p = absurd (subst T (sym p) tt)

module _ {K V : Type 0} (cmp : K → K → Ordering) (total : IsTotalOrder cmp) where
  find_below : (q x : K) (es : List (K × V)) → cmp q x ≡ Equal → T (below_all cmp x es) → find cmp q es ≡ None
  find_below q x [] tie h = refl
  find_below q x (e ∷ es) tie h = ap (λ o. cond (is_eq o) (Some e.1) (find cmp q es)) (total.congr q x e.0 tie ∙ less _ (first _ _ h)) ∙ find_below q x es tie (second _ _ h)

  -- what a key shows is what its chain shows
  pub find-shown : (sees : ℕ → Bool) (q : K) (es : List (K × List (ℕ × Option V))) → T (is_sorted cmp es) → find cmp q (entries_seen sees es) ≡ value_seen sees (chain_at cmp q es)
  find-shown sees q [] h = refl
  find-shown sees q (e ∷ es) h =
      let rest = find-shown sees q es (second _ _ h) in
      let below = below-shown cmp sees e.0 es (first _ _ h) in
      elim (is_eq (cmp q e.0)) as (λ b. is_eq (cmp q e.0) ≡ b → find cmp q (option_map_or (λ v. (e.0, v) ∷ entries_seen sees es) (value_seen sees e.1) (entries_seen sees es)) ≡ value_seen sees (unwrap_or (cond b (Some e.1) (find cmp q es)) [])) [
        | true ↦ λ is. elim (value_seen sees e.1) as (λ o. find cmp q (option_map_or (λ v. (e.0, v) ∷ entries_seen sees es) o (entries_seen sees es)) ≡ o) [
          | Some v ↦ ap (λ b. cond b (Some v) (find cmp q (entries_seen sees es))) is
          | None ↦ find_below q e.0 (entries_seen sees es) (equal _ is) below
        ]
        | false ↦ λ is. elim (value_seen sees e.1) as (λ o. find cmp q (option_map_or (λ v. (e.0, v) ∷ entries_seen sees es) o (entries_seen sees es)) ≡ value_seen sees (chain_at cmp q es)) [
          | Some v ↦ ap (λ b. cond b (Some v) (find cmp q (entries_seen sees es))) is ∙ rest
          | None ↦ rest
        ]
      ] refl

  -- where every key shows the value of a list in order, what is shown is that list
  pub same_shown : CmpEqualImpliesEq cmp → (sees : ℕ → Bool) (slots : List (K × List (ℕ × Option V))) (entries : List (K × V)) → T (is_sorted cmp slots) → T (is_sorted cmp entries)
      → ((q : K) → value_seen sees (chain_at cmp q slots) ≡ find cmp q entries) → entries_seen sees slots ≡ entries
  same_shown exact sees slots entries g h each = same_entries cmp total exact (entries_seen sees slots) entries (is_sorted-shown cmp sees slots g) h (λ q. find-shown sees q slots g ∙ each q)

  -- the chain of a key is replaced
  pub chain_at-put : (q k : K) (c : List (ℕ × Option V)) (slots : List (K × List (ℕ × Option V))) → chain_at cmp q (put cmp k c slots) ≡ cond (eq_by_cmp cmp q k) c (chain_at cmp q slots)
  chain_at-put q k c slots = ap (λ (o : Option (List (ℕ × Option V))). unwrap_or o []) (find-put cmp total q k c slots)
      ∙ elim (eq_by_cmp cmp q k) as (λ b. unwrap_or (cond b (Some c) (find cmp q slots)) [] ≡ cond b c (chain_at cmp q slots)) [ true ↦ refl | false ↦ refl ]
