-- The chain of a name is a version of the one transaction that has the name, before a chain of committed
-- versions that no open transaction touches: lists of entries alone.
use Rattle.std.proofs.Common.{Bool, List, None, Option, Some, [], ap, cond, false, inl, inr, map, not, refl, subst, sym, true, ℕ, ⊎_elim, ◌∙◌, ◌∷◌, ◌≡◌, ◌⊎◌}
use Rattle.std.specs.List.{AllByRecursion, filter}
use Rattle.std.specs.Prelude.{◌&&◌}
use Rattle.std.proofs.Math.Bool.{and-false}
use Rattle.std.proofs.lemmas.Bool.{eq-eqb, false≢true, ne_eqb}
use Rattle.ctr_record_laws.specs.versions_Versions.{Made}
use Rattle.ctr_record_laws.proofs.versions_Keys.{known}
use Rattle.ctr_record_laws.specs.area_Areas.{Title}
use Rattle.ctr_record_laws.specs.area_Images.{Numbered, all_put_first, is_named_so, is_newer, made_by_entry, name_versions, newest_first, placed, put_first, versions_by_entry}
use Rattle.ctr_names.proofs.Chains.{Version, all_put, before, by_before, dropped_versions, own_versions, undropped_versions}
use Rattle.ctr_names.proofs.Entries.{InPairs, all_sorted, filter_twice, is_in_yet, is_out, left_same, numbered, picked_same}
use Rattle.ctr_names.proofs.Items.{further}
use Rattle.ctr_names.proofs.Later.{earlier_none, earlier_other, later_none, later_own, newer_later, older_earlier}

-- the table of an entry, as if nobody had dropped it
abbrev pub undropped : Numbered → Numbered
undropped e = (e.0, record e.1 { dropper = 0 })

module _ (committed : ℕ → Bool) (nobody : committed 0 ≡ false) where
  abbrev pub AreCommitted : List Version → Type 0
  AreCommitted ws = AllByRecursion (λ (v : Version). committed v.0 ≡ true) ws

  -- both who made it and who dropped it, if anybody, are committed
  abbrev pub IsSettled : Numbered → Type 0
  IsSettled e = (committed e.1.creator ≡ true) × ((e.1.dropper ≡ 0) ⊎ (committed e.1.dropper ≡ true))

  abbrev IsC : Version → Type 0
  IsC v = committed v.0 ≡ true

  pub settled_before : (es : List Numbered) (ws : List Version) → AllByRecursion IsSettled es → AreCommitted ws → AreCommitted (before es ws)
  settled_before es ws all rest = by_before (λ y. committed y ≡ true) es ws all rest

  -- what is committed of entries that aren't gone: the tables as if nobody had dropped them
  abbrev pub is_made : Numbered → Bool
  is_made e = committed e.1.creator

  abbrev pub settled : List Numbered → List Version → List Version
  settled es ws = before (map undropped (filter is_made es)) ws

  pub settled_all : (es : List Numbered) (ws : List Version) → AreCommitted ws → AreCommitted (settled es ws)
  settled_all es ws rest = settled_before (map undropped (filter is_made es)) ws (each es) rest
    where
      each : (es : List Numbered) → AllByRecursion IsSettled (map undropped (filter is_made es))
      each [] = tt
      each (e ∷ es) = elim (is_made e) as (λ b. is_made e ≡ b → AllByRecursion IsSettled (map undropped (cond b (e ∷ filter is_made es) (filter is_made es)))) [
        | true ↦ λ is. ((is, inl refl), each es)
        | false ↦ λ is. each es
      ] refl

  module _ (x : ℕ) (open_ : committed x ≡ false) (some : x ≡ 0 → ⊥) where
    -- who made it is this transaction or committed; who dropped it, if anybody, this one
    abbrev pub IsOwn : Numbered → Type 0
    IsOwn e = ((e.1.creator ≡ x) ⊎ (committed e.1.creator ≡ true)) × ((e.1.dropper ≡ 0) ⊎ (e.1.dropper ≡ x))

    -- Of two, both are its own tables, or one is, and it dropped the other.
    abbrev pub AreOwnPair : Numbered → Numbered → Type 0
    AreOwnPair e f = ((e.1.creator ≡ x) × (f.1.creator ≡ x))
        ⊎ (((e.1.creator ≡ x) × (committed f.1.creator ≡ true) × (f.1.dropper ≡ x))
        ⊎ ((committed e.1.creator ≡ true) × (e.1.dropper ≡ x) × (f.1.creator ≡ x)))

    -- its own tables, and behind them at most one that was there
    abbrev pub OwnFirst : List Numbered → Type 0
    OwnFirst [] = Unit {0}
    OwnFirst (e ∷ es) = ((e.1.creator ≡ x) × OwnFirst es) ⊎ ((committed e.1.creator ≡ true) × (es ≡ []))

    never_both : (c : ℕ) → c ≡ x → committed c ≡ true → ⊥
    never_both c is yes_ = false≢true (sym open_ ∙ ap committed (sym is) ∙ yes_)

    stays : (e : Numbered) → (e.1.dropper ≡ 0) ⊎ (e.1.dropper ≡ x) → committed e.1.dropper ≡ false
    stays e (inl z) = ap committed z ∙ nobody
    stays e (inr is) = ap committed is ∙ open_

    own_newer : (e f : Numbered) → IsOwn e → e.1.creator ≡ x → f.1.dropper ≡ x → is_newer committed e.1 f.1 ≡ true
    own_newer e f own mine dropped = newer_later committed e.1 f.1 (stays e own.1)
        (⊎_elim (later_none e.1 f.1) (λ is. later_own e.1 f.1 (λ none. some (sym dropped ∙ none)) (is ∙ sym dropped) (mine ∙ sym is)) own.1)

    was_older : (e f : Numbered) → committed e.1.creator ≡ true → e.1.dropper ≡ x → IsOwn f → is_newer committed e.1 f.1 ≡ false
    was_older e f made dropped own = older_earlier committed e.1 f.1 (stays f own.1)
        (⊎_elim (earlier_none e.1 f.1 gone) (λ is. earlier_other e.1 f.1 gone (dropped ∙ sym is) (λ same. never_both e.1.creator (same ∙ dropped) made)) own.1)
      where
        gone : e.1.dropper ≡ 0 → ⊥
        gone none = some (sym dropped ∙ none)

    own_rest : (m : Numbered) (ms : List Numbered) → OwnFirst (m ∷ ms) → m.1.creator ≡ x → OwnFirst ms
    own_rest m ms (inl its) mine = its.1
    own_rest m ms (inr its) mine = absurd (never_both m.1.creator mine its.0)

    own_placed : (e : Numbered) (ms : List Numbered) → OwnFirst ms → IsOwn e → AllByRecursion IsOwn ms → AllByRecursion (AreOwnPair e) ms → OwnFirst (placed committed e ms)
    own_placed e [] own fit fits pairs = ⊎_elim (λ mine. inl (mine, tt)) (λ made. inr (made, refl)) fit.0
    own_placed e (m ∷ ms) own fit fits pairs = by (λ rest. own_placed e ms rest fit fits.1 pairs.1) pairs.0
      where
        by : (OwnFirst ms → OwnFirst (placed committed e ms)) → AreOwnPair e m → OwnFirst (cond (is_newer committed e.1 m.1) (e ∷ m ∷ ms) (m ∷ placed committed e ms))
        by further (inl both) = elim (is_newer committed e.1 m.1) as (λ b. OwnFirst (cond b (e ∷ m ∷ ms) (m ∷ placed committed e ms))) [
          | true ↦ inl (both.0, own)
          | false ↦ inl (both.1, further (own_rest m ms own both.1))
        ]
        by further (inr (inl its)) = subst (λ b. OwnFirst (cond b (e ∷ m ∷ ms) (m ∷ placed committed e ms))) (sym (own_newer e m fit its.0 its.2)) (inl (its.0, own))
        by further (inr (inr its)) = subst (λ b. OwnFirst (cond b (e ∷ m ∷ ms) (m ∷ placed committed e ms))) (sym (was_older e m its.0 its.1 fits.0)) (inl (its.2, further (own_rest m ms own its.2)))

    pub own_sorted : (es : List Numbered) → AllByRecursion IsOwn es → InPairs AreOwnPair es → OwnFirst (newest_first committed es)
    own_sorted [] fits pairs = tt
    own_sorted (e ∷ es) fits pairs = own_placed e (newest_first committed es) (own_sorted es fits.1 pairs.1) fits.0 (all_sorted committed IsOwn es fits.1) (all_sorted committed (AreOwnPair e) es pairs.0)

    -- ---- what such a list shows

    put_other : (v : Option Made) (ws : List Version) → AreCommitted ws → put_first (x, v) ws ≡ (x, v) ∷ ws
    put_other v [] all = refl
    put_other v (w ∷ ws) all = ap (λ b. cond b ((x, v) ∷ ws) ((x, v) ∷ w ∷ ws)) (ne_eqb x w.0 (λ is. never_both w.0 (sym is) all.0))

    put_own : (v w : Option Made) (ws : List Version) → put_first (x, v) ((x, w) ∷ ws) ≡ (x, v) ∷ ws
    put_own v w ws = ap (λ b. cond b ((x, v) ∷ ws) ((x, v) ∷ (x, w) ∷ ws)) (eq-eqb x x refl)

    -- it is there as it was before
    abbrev pub IsQuiet : Numbered → Type 0
    IsQuiet e = (committed e.1.creator ≡ true) × (e.1.dropper ≡ 0)

    -- nothing of the transaction, or one version of it in front; a drop, where none of them is left undropped
    abbrev pub IsShaped : List Numbered → List Version → Type 0
    IsShaped es ws = ((before es ws ≡ settled es ws) × AllByRecursion IsQuiet es)
        ⊎ ((v : Option Made) × (before es ws ≡ (x, v) ∷ settled es ws) × (AllByRecursion (λ (e : Numbered). e.1.dropper ≡ x) es → v ≡ None))

    own_dropped : (e : Numbered) → e.1.creator ≡ x → e.1.dropper ≡ x → versions_by_entry e ≡ (x, None) ∷ []
    own_dropped e mine is = own_versions e (λ none. some (sym is ∙ none)) (is ∙ sym mine) ∙ ap (λ d. (d, None) ∷ []) is

    was_dropped : (e : Numbered) → committed e.1.creator ≡ true → e.1.dropper ≡ x → versions_by_entry e ≡ (x, None) ∷ (e.1.creator, Some (made_by_entry e)) ∷ []
    was_dropped e made is = dropped_versions e (λ none. some (sym is ∙ none)) (λ same. never_both e.1.creator (sym same ∙ is) made) ∙ ap (λ d. (d, None) ∷ (e.1.creator, Some (made_by_entry e)) ∷ []) is

    own_front : (e : Numbered) → e.1.creator ≡ x → (e.1.dropper ≡ 0) ⊎ (e.1.dropper ≡ x) → (v : Option Made) × (versions_by_entry e ≡ (x, v) ∷ []) × (e.1.dropper ≡ x → v ≡ None)
    own_front e mine (inl z) = (Some (made_by_entry e), undropped_versions e z ∙ ap (λ c. (c, Some (made_by_entry e)) ∷ []) mine, λ is. absurd (some (sym is ∙ z)))
    own_front e mine (inr is) = (None, own_dropped e mine is, λ again. refl)

    pub shaped : (es : List Numbered) (ws : List Version) → AreCommitted ws → AllByRecursion IsOwn es → OwnFirst es → IsShaped es ws
    shaped [] ws all fits own = inl (refl, tt)
    shaped (e ∷ es) ws all fits (inl its) =
        let front = own_front e its.0 fits.0.1 in
        let skip : settled (e ∷ es) ws ≡ settled es ws = ap (λ b. before (map undropped (cond b (e ∷ filter is_made es) (filter is_made es))) ws) (ap committed its.0 ∙ open_) in
        let head : before (e ∷ es) ws ≡ put_first (x, front.0) (before es ws) = ap (λ vs. all_put_first vs (before es ws)) front.1 in
        ⊎_elim
        (λ quiet. inr (front.0, head ∙ ap (put_first (x, front.0)) quiet.0 ∙ put_other front.0 (settled es ws) (settled_all es ws all) ∙ ap (λ l. (x, front.0) ∷ l) (sym skip), λ dropped. front.2 dropped.0))
        (λ more. inr (front.0, head ∙ ap (put_first (x, front.0)) more.1 ∙ put_own front.0 more.0 (settled es ws) ∙ ap (λ l. (x, front.0) ∷ l) (sym skip), λ dropped. front.2 dropped.0))
        (shaped es ws all fits.1 its.1)
    shaped (e ∷ es) ws all fits (inr its) = subst (λ rest. IsShaped (e ∷ rest) ws) (sym its.1) (by fits.0.1)
      where
        there : settled (e ∷ []) ws ≡ put_first (e.1.creator, Some (made_by_entry e)) ws
        there = ap (λ b. before (map undropped (cond b (e ∷ []) [])) ws) its.0

        by : (e.1.dropper ≡ 0) ⊎ (e.1.dropper ≡ x) → IsShaped (e ∷ []) ws
        by (inl z) = inl (ap (λ vs. all_put_first vs ws) (undropped_versions e z) ∙ sym there, ((its.0, z), tt))
        by (inr is) = inr (
          None,
          ap (λ vs. all_put_first vs ws) (was_dropped e its.0 is) ∙ put_other None (put_first (e.1.creator, Some (made_by_entry e)) ws) (all_put IsC (e.1.creator, Some (made_by_entry e)) ws its.0 all) ∙ ap (λ l. (x, None) ∷ l) (sym there),
          λ dropped. refl,
        )

-- what such a chain is where the transaction has dropped all that there was
pub dropped_shape : (x : ℕ) (ws rest same : List Version) (Quiet All : Type 0) → ((ws ≡ rest) × Quiet) ⊎ ((v : Option Made) × (ws ≡ (x, v) ∷ rest) × (All → v ≡ None)) → (Quiet → ⊥) → All → rest ≡ same → ws ≡ (x, None) ∷ same
dropped_shape x ws rest same Quiet All (inl quiet) busy all is = absurd (busy quiet.1)
dropped_shape x ws rest same Quiet All (inr more) busy all is = more.1 ∙ (λ i. (x, more.2 all i) ∷ is i)

-- ---- the chain without what an open transaction has of it

abbrev pub settled_of : (committed : ℕ → Bool) → committed 0 ≡ false → (ℕ → Title) → List ℕ → List Version
settled_of committed nobody title name = settled committed nobody (filter (is_in_yet committed) (filter (is_named_so name) (numbered title 0 32)))
    (name_versions (newest_first committed (filter (is_out committed) (filter (is_named_so name) (numbered title 0 32)))))

-- it is a table of the name that isn't gone, and committed
abbrev pub is_kept_made : (ℕ → Bool) → List ℕ → Numbered → Bool
is_kept_made committed name f = (is_named_so name f && is_in_yet committed f) && committed f.1.creator

module _ (committed : ℕ → Bool) (nobody : committed 0 ≡ false) (name : List ℕ) (e : ℕ) (old new : ℕ → Title) (others : (f : ℕ) → (f ≡ e → ⊥) → new f ≡ old f) where
  pub settled_unchanged : (is_named_so name (e, new e) && committed (new e).dropper) ≡ false → (is_named_so name (e, old e) && committed (old e).dropper) ≡ false
      → ((is_kept_made committed name (e, new e) ≡ false) × (is_kept_made committed name (e, old e) ≡ false)) ⊎ ((is_kept_made committed name (e, new e) ≡ true) × (is_kept_made committed name (e, old e) ≡ true) × (undropped (e, new e) ≡ undropped (e, old e)))
      → settled_of committed nobody new name ≡ settled_of committed nobody old name
  settled_unchanged out_now out_was here = λ i. before (made i) (name_versions (newest_first committed (gone i)))
    where
      one_test : (t : ℕ → Title) → filter (is_made committed nobody) (filter (is_in_yet committed) (filter (is_named_so name) (numbered t 0 32))) ≡ filter (is_kept_made committed name) (numbered t 0 32)
      one_test t = ap (filter (is_made committed nobody)) (filter_twice (is_in_yet committed) (is_named_so name) (numbered t 0 32)) ∙ filter_twice (is_made committed nobody) (λ f. is_named_so name f && is_in_yet committed f) (numbered t 0 32)

      made : map undropped (filter (is_made committed nobody) (filter (is_in_yet committed) (filter (is_named_so name) (numbered new 0 32)))) ≡ map undropped (filter (is_made committed nobody) (filter (is_in_yet committed) (filter (is_named_so name) (numbered old 0 32))))
      made = ap (map undropped) (one_test new) ∙ picked_same e old new others undropped (is_kept_made committed name) here 0 32 ∙ sym (ap (map undropped) (one_test old))

      gone : filter (is_out committed) (filter (is_named_so name) (numbered new 0 32)) ≡ filter (is_out committed) (filter (is_named_so name) (numbered old 0 32))
      gone = filter_twice (is_out committed) (is_named_so name) (numbered new 0 32) ∙ left_same e old new others (λ f. is_named_so name f && is_out committed f) out_now out_was 0 32
          ∙ sym (filter_twice (is_out committed) (is_named_so name) (numbered old 0 32))

  -- one open transaction has dropped it, another, or nobody
  pub settled_redropped : (d : ℕ) → new e ≡ record (old e) { dropper = d } → committed d ≡ false → committed (old e).dropper ≡ false → settled_of committed nobody new name ≡ settled_of committed nobody old name
  settled_redropped d here open_now open_was = settled_unchanged
      (ap (λ (v : Title). is_named_so name (e, v) && committed v.dropper) here ∙ ap (λ b. is_named_so name (e, old e) && b) open_now ∙ and-false (is_named_so name (e, old e)))
      (ap (λ b. is_named_so name (e, old e) && b) open_was ∙ and-false (is_named_so name (e, old e)))
      (known (is_kept_made committed name (e, old e))
      (λ is. inr (same_test ∙ is, is, ap (λ (v : Title). undropped (e, v)) here))
      (λ isnt. inl (same_test ∙ isnt, isnt)))
    where
      same_test : is_kept_made committed name (e, new e) ≡ is_kept_made committed name (e, old e)
      same_test = ap (λ (v : Title). is_kept_made committed name (e, v)) here ∙ (λ i. (is_named_so name (e, old e) && not (open_now i)) && committed (old e).creator)
          ∙ sym (λ i. (is_named_so name (e, old e) && not (open_was i)) && committed (old e).creator)
