-- The laws of what the engine does to one chain.
use Rattle.std.proofs.Common.{◌≡◌, ℕ, ◌≤◌, ◌==◌, Bool, true, false, cond, List, [], ◌∷◌, Option, Some, None, refl, sym, ◌∙◌, ap, arith}
use Rattle.std.specs.Prelude.{is_some}
use Rattle.std.specs.Option.{option_or}
use Rattle.std.specs.List.{AllByRecursion}
use Rattle.std.proofs.lemmas.Bool.{true≢false, eq-eqb, ne_eqb, false_from_ne_true}
use Rattle.ctr_versions.specs.Chains.{Numbers, value_seen, by, newest, above, newest_since, written_by, AllCommitted, Behind, IsChangeTold, ShowsKey}
use Rattle.ctr_versions.specs.Changes.{write, revert, cut, without_tombstone, IsOld}
use Rattle.ctr_versions.specs.Versions.{ByX}
use Rattle.ctr_versions.proofs.Chains.{push_shows, pop_shows, committed_none, seen_by, not_above}

is_none : {X : Type 0} (o : Option X) → is_some o ≡ false → o ≡ None
is_none None e = refl
is_none (Some x) e = absurd (true≢false e)

module _ {V : Type 0} (at since : ℕ → Type 0) (number : Numbers) (base : Option V) (writes : List (Option (Option V))) where
  pub revert_shows : (chain : List (ℕ × Option V)) → ShowsKey at since number base writes chain → ShowsKey at since number base writes (revert number chain)
  revert_shows [] shows = shows
  revert_shows (h ∷ rest) shows =
      elim (is_some (number h.0)) as (λ b. is_some (number h.0) ≡ b → ShowsKey at since number base writes (cond b (h ∷ rest) rest)) [
        | true ↦ λ is. shows
        | false ↦ λ is. pop_shows at since number base writes rest h.0 h.1 (is_none (number h.0) is) shows
      ] refl

  pub write_shows : (chain : List (ℕ × Option V)) (x : ℕ) (v : Option V) → number x ≡ None → ShowsKey at since number base writes chain → ShowsKey at since number base writes (write number x v chain)
  write_shows [] x v none shows = push_shows at since number base writes [] x v none tt shows
  write_shows (h ∷ rest) x v none shows =
      elim (is_some (number h.0)) as (λ b. is_some (number h.0) ≡ b → ShowsKey at since number base writes (cond b ((x, v) ∷ h ∷ rest) ((x, v) ∷ rest))) [
        | true ↦ λ is. push_shows at since number base writes (h ∷ rest) x v none (is, shows.behind) shows
        | false ↦ λ is. push_shows at since number base writes rest x v none shows.behind (pop_shows at since number base writes rest h.0 h.1 (is_none (number h.0) is) shows)
      ] refl

-- ---- what stands in a chain was there before

module _ {V : Type 0} (P : ℕ × Option V → Type 0) where
  pub write_all : (number : Numbers) (x : ℕ) (v : Option V) (chain : List (ℕ × Option V)) → P (x, v) → AllByRecursion P chain → AllByRecursion P (write number x v chain)
  write_all number x v [] here all = (here, tt)
  write_all number x v (h ∷ rest) here all = elim (is_some (number h.0)) as (λ b. AllByRecursion P (cond b ((x, v) ∷ h ∷ rest) ((x, v) ∷ rest))) [ true ↦ (here, all) | false ↦ (here, all.1) ]

  pub revert_all : (number : Numbers) (chain : List (ℕ × Option V)) → AllByRecursion P chain → AllByRecursion P (revert number chain)
  revert_all number [] all = tt
  revert_all number (h ∷ rest) all = elim (is_some (number h.0)) as (λ b. AllByRecursion P (cond b (h ∷ rest) rest)) [ true ↦ all | false ↦ all.1 ]

  pub cut_all : (old : ℕ → Bool) (chain : List (ℕ × Option V)) → AllByRecursion P chain → AllByRecursion P (cut old chain)
  cut_all old [] all = tt
  cut_all old (v ∷ vs) all = elim (old v.0) as (λ b. AllByRecursion P (cond b (v ∷ []) (v ∷ cut old vs))) [ true ↦ (all.0, tt) | false ↦ (all.0, cut_all old vs all.1) ]

  pub freed_all : (old : ℕ → Bool) (chain : List (ℕ × Option V)) → AllByRecursion P chain → AllByRecursion P (without_tombstone old chain)
  freed_all old [] all = tt
  freed_all old ((x, Some v) ∷ vs) all = all
  freed_all old ((x, None) ∷ vs) all = elim (old x) as (λ b. AllByRecursion P (cond b [] ((x, None) ∷ vs))) [ true ↦ tt | false ↦ all ]

-- ---- cleaning

pub seen_old : (number : Numbers) (low : ℕ) (old : ℕ → Bool) → IsOld number low old → (x j : ℕ) → old x ≡ true → low ≤ j → by number j x ≡ true
seen_old number low old is_old x j passes le = let k = is_old x passes in seen_by number j x k.0 k.1 (omega (arith, k.2, le))

module _ {V : Type 0} (number : Numbers) (low : ℕ) (old : ℕ → Bool) (is_old : IsOld number low old) where
  pub cut_seen : (j : ℕ) → low ≤ j → (chain : List (ℕ × Option V)) → value_seen (by number j) (cut old chain) ≡ value_seen (by number j) chain
  cut_seen j le [] = refl
  cut_seen j le (v ∷ vs) =
      elim (old v.0) as (λ b. old v.0 ≡ b → value_seen (by number j) (cond b (v ∷ []) (v ∷ cut old vs)) ≡ cond (by number j v.0) v.1 (value_seen (by number j) vs)) [
        | true ↦ λ is. ap (λ b. cond b v.1 None) (seen_old number low old is_old v.0 j is le) ∙ sym (ap (λ b. cond b v.1 (value_seen (by number j) vs)) (seen_old number low old is_old v.0 j is le))
        | false ↦ λ is. ap (λ o. cond (by number j v.0) v.1 o) (cut_seen j le vs)
      ] refl

  pub cut_newest : (chain : List (ℕ × Option V)) → newest number (cut old chain) ≡ newest number chain
  cut_newest [] = refl
  cut_newest (v ∷ vs) =
      elim (old v.0) as (λ b. old v.0 ≡ b → newest number (cond b (v ∷ []) (v ∷ cut old vs)) ≡ option_or (number v.0) (newest number vs)) [
        | true ↦ λ is. let k = is_old v.0 is in ap (λ o. option_or o None) k.1 ∙ sym (ap (λ o. option_or o (newest number vs)) k.1)
        | false ↦ λ is. ap (λ o. option_or (number v.0) o) (cut_newest vs)
      ] refl

  cut_committed : (chain : List (ℕ × Option V)) → AllCommitted number chain → AllCommitted number (cut old chain)
  cut_committed [] all = tt
  cut_committed (v ∷ vs) all = elim (old v.0) as (λ b. AllCommitted number (cond b (v ∷ []) (v ∷ cut old vs))) [ true ↦ (all.0, tt) | false ↦ (all.0, cut_committed vs all.1) ]

  pub cut_behind : (chain : List (ℕ × Option V)) → Behind number chain → Behind number (cut old chain)
  cut_behind [] all = tt
  cut_behind (v ∷ vs) all = elim (old v.0) as (λ b. Behind number (cond b (v ∷ []) (v ∷ cut old vs))) [ true ↦ tt | false ↦ cut_committed vs all ]

  pub freed_seen : (j : ℕ) → low ≤ j → (chain : List (ℕ × Option V)) → value_seen (by number j) (without_tombstone old chain) ≡ value_seen (by number j) chain
  freed_seen j le [] = refl
  freed_seen j le ((x, Some w) ∷ vs) = refl
  freed_seen j le ((x, None) ∷ vs) =
      elim (old x) as (λ b. old x ≡ b → value_seen (by number j) (cond b [] ((x, None) ∷ vs)) ≡ value_seen (by number j) ((x, None) ∷ vs)) [
        | true ↦ λ is. sym (ap (λ b. cond b None (value_seen (by number j) vs)) (seen_old number low old is_old x j is le))
        | false ↦ λ is. refl
      ] refl

  pub freed_since : (n : ℕ) → low ≤ n → (chain : List (ℕ × Option V)) → newest_since number n (without_tombstone old chain) ≡ newest_since number n chain
  freed_since n le [] = refl
  freed_since n le ((x, Some w) ∷ vs) = refl
  freed_since n le ((x, None) ∷ vs) =
      elim (old x) as (λ b. old x ≡ b → newest_since number n (cond b [] ((x, None) ∷ vs)) ≡ newest_since number n ((x, None) ∷ vs)) [
        | true ↦ λ is. let k = is_old x is in sym (ap (λ o. above n (option_or o (newest number vs))) k.1 ∙ not_above k.0 n (below k.0 k.2))
        | false ↦ λ is. refl
      ] refl
    where
      below : (k : ℕ) → k ≤ low → k ≤ n
      below k under = omega (arith, under, le)

  pub freed_behind : (chain : List (ℕ × Option V)) → Behind number chain → Behind number (without_tombstone old chain)
  freed_behind [] all = tt
  freed_behind ((x, Some w) ∷ vs) all = all
  freed_behind ((x, None) ∷ vs) all = elim (old x) as (λ b. Behind number (cond b [] ((x, None) ∷ vs))) [ true ↦ tt | false ↦ all ]

  module _ (at since : ℕ → Type 0) (base : Option V) (writes : List (Option (Option V))) (at_low : (j : ℕ) → at j → low ≤ j) (since_low : (n : ℕ) → since n → low ≤ n) where
    pub cut_shows : (chain : List (ℕ × Option V)) → ShowsKey at since number base writes chain → ShowsKey at since number base writes (cut old chain)
    cut_shows chain shows = record {
      rows = λ j here. cut_seen j (at_low j here) chain ∙ shows.rows j here;
      changes = λ n here. ap (above n) (cut_newest chain) ∙ shows.changes n here;
      told = λ n here. cut_all (λ v. IsChangeTold number n writes v.0) old chain (shows.told n here);
      behind = cut_behind chain shows.behind;
    }

    pub freed_shows : (chain : List (ℕ × Option V)) → ShowsKey at since number base writes chain → ShowsKey at since number base writes (without_tombstone old chain)
    freed_shows chain shows = record {
      rows = λ j here. freed_seen j (at_low j here) chain ∙ shows.rows j here;
      changes = λ n here. freed_since n (since_low n here) chain ∙ shows.changes n here;
      told = λ n here. freed_all (λ v. IsChangeTold number n writes v.0) old chain (shows.told n here);
      behind = freed_behind chain shows.behind;
    }

  -- what an open transaction has written stays
  pub cut_written : (y : ℕ) (chain : List (ℕ × Option V)) → written_by y (cut old chain) ≡ written_by y chain
  cut_written y [] = refl
  cut_written y (v ∷ vs) = elim (old v.0) as (λ b. written_by y (cond b (v ∷ []) (v ∷ cut old vs)) ≡ written_by y (v ∷ vs)) [ true ↦ refl | false ↦ refl ]

  pub freed_written : (y : ℕ) → number y ≡ None → (chain : List (ℕ × Option V)) → written_by y (without_tombstone old chain) ≡ written_by y chain
  freed_written y none [] = refl
  freed_written y none ((x, Some v) ∷ vs) = refl
  freed_written y none ((x, None) ∷ vs) =
      elim (old x) as (λ b. old x ≡ b → written_by y (cond b [] ((x, None) ∷ vs)) ≡ written_by y ((x, None) ∷ vs)) [
        | true ↦ λ is. let k = is_old x is in sym (ap (λ b. cond b (Some None) None) (ne_eqb y x (λ same. true≢false (sym (ap is_some k.1) ∙ ap is_some (ap number (sym same) ∙ none)))))
        | false ↦ λ is. refl
      ] refl

-- ---- what is written

-- by the writer, and by another that hasn't written the key
pub write_own : {V : Type 0} (number : Numbers) (x : ℕ) (v : Option V) (chain : List (ℕ × Option V)) → written_by x (write number x v chain) ≡ Some v
write_own number x v [] = ap (λ b. cond b (Some v) None) (eq-eqb x x refl)
write_own number x v (h ∷ rest) =
    elim (is_some (number h.0)) as (λ b. written_by x (cond b ((x, v) ∷ h ∷ rest) ((x, v) ∷ rest)) ≡ Some v) [ true ↦ ap (λ b. cond b (Some v) None) (eq-eqb x x refl) | false ↦ ap (λ b. cond b (Some v) None) (eq-eqb x x refl) ]

pub write_others : {V : Type 0} (number : Numbers) (x y : ℕ) (v : Option V) (chain : List (ℕ × Option V)) → (y ≡ x → ⊥) → written_by y (write number x v chain) ≡ None
write_others number x y v [] apart = ap (λ b. cond b (Some v) None) (ne_eqb y x apart)
write_others number x y v (h ∷ rest) apart =
    elim (is_some (number h.0)) as (λ b. written_by y (cond b ((x, v) ∷ h ∷ rest) ((x, v) ∷ rest)) ≡ None) [ true ↦ ap (λ b. cond b (Some v) None) (ne_eqb y x apart) | false ↦ ap (λ b. cond b (Some v) None) (ne_eqb y x apart) ]

-- another's version that gives way
pub revert_others : {V : Type 0} (number : Numbers) (y : ℕ) (chain : List (ℕ × Option V)) → number y ≡ None → Behind number chain → written_by y chain ≡ None → written_by y (revert number chain) ≡ None
revert_others number y [] none behind is = refl
revert_others number y (h ∷ rest) none behind is =
    elim (is_some (number h.0)) as (λ b. written_by y (cond b (h ∷ rest) rest) ≡ None) [ true ↦ is | false ↦ committed_none number y rest none behind ]

-- a chain of its own versions alone
pub write_alone : {V : Type 0} (number : Numbers) (x : ℕ) (v : Option V) (chain : List (ℕ × Option V)) → AllByRecursion (ByX x) chain → AllByRecursion (ByX x) (write number x v chain)
write_alone number x v [] all = (refl, tt)
write_alone number x v (h ∷ rest) all = elim (is_some (number h.0)) as (λ b. AllByRecursion (ByX x) (cond b ((x, v) ∷ h ∷ rest) ((x, v) ∷ rest))) [ true ↦ (refl, all) | false ↦ (refl, all.1) ]

pub write_seen : {V : Type 0} (number : Numbers) (x : ℕ) (v : Option V) (chain : List (ℕ × Option V)) → value_seen (λ y. y == x) (write number x v chain) ≡ v
write_seen number x v [] = ap (λ b. cond b v None) (eq-eqb x x refl)
write_seen number x v (h ∷ rest) =
    elim (is_some (number h.0)) as (λ b. value_seen (λ y. y == x) (cond b ((x, v) ∷ h ∷ rest) ((x, v) ∷ rest)) ≡ v) [
      | true ↦ ap (λ b. cond b v (value_seen (λ y. y == x) (h ∷ rest))) (eq-eqb x x refl)
      | false ↦ ap (λ b. cond b v (value_seen (λ y. y == x) rest)) (eq-eqb x x refl)
    ]

-- ---- a chain of open versions alone is not cleaned

unpassed : (number : Numbers) (low : ℕ) (old : ℕ → Bool) → IsOld number low old → (x y : ℕ) → number y ≡ None → x ≡ y → old x ≡ false
unpassed number low old is_old x y none same = false_from_ne_true (old x) (λ passes. let k = is_old x passes in true≢false (sym (ap is_some k.1) ∙ ap is_some (ap number same ∙ none)))

pub cut_alone : {V : Type 0} (number : Numbers) (low : ℕ) (old : ℕ → Bool) → IsOld number low old → (y : ℕ) → number y ≡ None → (chain : List (ℕ × Option V)) → AllByRecursion (ByX y) chain → cut old chain ≡ chain
cut_alone number low old is_old y none [] all = refl
cut_alone number low old is_old y none (v ∷ vs) all =
    ap (λ b. cond b (v ∷ []) (v ∷ cut old vs)) (unpassed number low old is_old v.0 y none all.0) ∙ ap (λ rest. v ∷ rest) (cut_alone number low old is_old y none vs all.1)

pub freed_alone : {V : Type 0} (number : Numbers) (low : ℕ) (old : ℕ → Bool) → IsOld number low old → (y : ℕ) → number y ≡ None → (chain : List (ℕ × Option V)) → AllByRecursion (ByX y) chain → without_tombstone old chain ≡ chain
freed_alone number low old is_old y none [] all = refl
freed_alone number low old is_old y none ((x, Some v) ∷ vs) all = refl
freed_alone number low old is_old y none ((x, None) ∷ vs) all = ap (λ b. cond b [] ((x, None) ∷ vs)) (unpassed number low old is_old x y none all.0)
