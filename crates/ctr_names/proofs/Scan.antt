-- What a chain shows to a test of who is seen is the one entry of the name that stands for it.
use Rattle.std.proofs.Common.{Bool, List, None, Some, [], ap, arith, cond, false, not, refl, subst, sym, true, ℕ, ⊎_elim, ◌<◌, ◌∙◌, ◌∷◌, ◌≡◌, ◌≤◌}
use Rattle.std.specs.List.{AllByRecursion, filter}
use Rattle.std.specs.Option.{option_map}
use Rattle.std.specs.Prelude.{◌&&◌}
use Rattle.std.proofs.lemmas.Bool.{and_from, and_parts, false≢true}
use Rattle.ctr_snap.specs.Seeing.{sees}
use Rattle.ctr_record_laws.specs.versions_Chains.{value_seen}
use Rattle.ctr_record_laws.proofs.versions_Keys.{known}
use Rattle.ctr_record_laws.specs.area_Areas.{Title}
use Rattle.ctr_record_laws.specs.area_Images.{Numbered, all_numbered, entry_numbers, is_live, is_named_so, is_newer, is_standing, made_by_entry, name_chain, name_versions, newest_first, placed}
use Rattle.ctr_record_laws.specs.area_Sound.{IsOneOf}
use Rattle.ctr_names.proofs.Chains.{Version, chain_listed, shows_more}
use Rattle.ctr_names.proofs.Entries.{InPairs, all_named, all_placed, all_sorted, each_numbered, first_cases, first_filter, first_of, first_of_filter, name_of, none_first, numbered, one_sorted, pairs_named}
use Rattle.ctr_names.proofs.Later.{newer_gone, older_gone}

-- ---- entries in the order in which they were dropped

-- who made the entry is seen, and who dropped it isn't
abbrev pub is_seen : (ℕ → Bool) → Numbered → Bool
is_seen sees e = sees e.1.creator && not (sees e.1.dropper)

-- who sees a drop sees the earlier ones
abbrev pub AreInOrder : (ℕ → Bool) → List Numbered → Type 0
AreInOrder sees [] = Unit {0}
AreInOrder sees (e ∷ es) = (sees e.1.dropper ≡ true → AllByRecursion (λ (f : Numbered). sees f.1.dropper ≡ true) es) × AreInOrder sees es

none_seen : (sees : ℕ → Bool) (es : List Numbered) → AllByRecursion (λ (f : Numbered). sees f.1.dropper ≡ true) es → first_of (is_seen sees) es ≡ None
none_seen sees [] all = refl
none_seen sees (e ∷ es) all =
    (λ i. cond (sees e.1.creator && not (all.0 i)) (Some e) (none_seen sees es all.1 i))
    ∙ elim (sees e.1.creator) as (λ b. cond (b && false) (Some e) None ≡ None) [ true ↦ refl | false ↦ refl ]

pub scan_shows : (sees : ℕ → Bool) → sees 0 ≡ false → (es : List Numbered) → AreInOrder sees es → value_seen sees (name_versions es) ≡ option_map made_by_entry (first_of (is_seen sees) es)
scan_shows sees nobody [] order = refl
scan_shows sees nobody (e ∷ es) order =
    shows_more sees nobody e es ∙ known (sees e.1.dropper)
    (λ gone. ap (λ b. cond b None (cond (sees e.1.creator) (Some (made_by_entry e)) (value_seen sees (name_versions es)))) gone
    ∙ sym (ap (option_map made_by_entry) (none_seen sees (e ∷ es) (gone, order.0 gone))))
    (λ stays. (λ i. cond (stays i) None (cond (sees e.1.creator) (Some (made_by_entry e)) (scan_shows sees nobody es order.1 i)))
    ∙ elim (sees e.1.creator) as (λ b. cond b (Some (made_by_entry e)) (option_map made_by_entry (first_of (is_seen sees) es)) ≡ option_map made_by_entry (cond (b && true) (Some e) (first_of (is_seen sees) es))) [ true ↦ refl | false ↦ refl ]
    ∙ ap (λ b. option_map made_by_entry (cond (sees e.1.creator && not b) (Some e) (first_of (is_seen sees) es))) (sym stays))

module _ (committed sees : ℕ → Bool) (gone : (d : ℕ) → sees d ≡ true → committed d ≡ true) (nobody : committed 0 ≡ false) where
  -- of two drops that are committed, who sees the later one sees the earlier one
  abbrev pub IsRanked : Numbered → Numbered → Type 0
  IsRanked e f = e.1.dropper ≤ f.1.dropper → sees f.1.dropper ≡ true → committed e.1.dropper ≡ true → sees e.1.dropper ≡ true

  abbrev pub AreRanked : Numbered → Numbered → Type 0
  AreRanked e f = IsRanked e f × IsRanked f e

  abbrev Sees : Numbered → Type 0
  Sees f = sees f.1.dropper ≡ true

  order_placed : (e : Numbered) (ms : List Numbered) → AreInOrder sees ms → AllByRecursion (AreRanked e) ms → AreInOrder sees (placed committed e ms)
  order_placed e [] order ranks = ((λ seen. tt), tt)
  order_placed e (m ∷ ms) order ranks = by (is_newer committed e.1 m.1) refl (λ more. order_placed e ms order.1 ranks.1)
    where
      by : (b : Bool) → is_newer committed e.1 m.1 ≡ b → (Unit {0} → AreInOrder sees (placed committed e ms)) → AreInOrder sees (cond (is_newer committed e.1 m.1) (e ∷ m ∷ ms) (m ∷ placed committed e ms))
      by true is further = subst (λ b. AreInOrder sees (cond b (e ∷ m ∷ ms) (m ∷ placed committed e ms))) (sym is)
          ((λ seen. let its = newer_gone committed e.1 m.1 nobody is (gone e.1.dropper seen) in let seen_m = ranks.0.1 its.1 seen its.0 in (seen_m, order.0 seen_m)), order)
      by false isnt further = subst (λ b. AreInOrder sees (cond b (e ∷ m ∷ ms) (m ∷ placed committed e ms))) (sym isnt)
          ((λ seen. let its = older_gone committed e.1 m.1 nobody isnt (gone m.1.dropper seen) in all_placed committed Sees e ms (ranks.0.0 its.1 seen its.0) (order.0 seen)), further tt)

  pub in_order : (es : List Numbered) → InPairs AreRanked es → AreInOrder sees (newest_first committed es)
  in_order [] pairs = tt
  in_order (e ∷ es) pairs = order_placed e (newest_first committed es) (in_order es pairs.1) (all_sorted committed (AreRanked e) es pairs.0)

-- ---- a name's chain

module _ (committed sees : ℕ → Bool) (gone : (d : ℕ) → sees d ≡ true → committed d ≡ true) (nobody : committed 0 ≡ false) (title : ℕ → Title) (name : List ℕ)
    (ranked : (e f : ℕ) → e < 32 → f < 32 → is_named_so name (e, title e) ≡ true → is_named_so name (f, title f) ≡ true → IsRanked committed sees gone nobody (e, title e) (f, title f)) (once : IsOneOf title (is_standing sees)) where
  abbrev list : List Numbered
  list = filter (is_named_so name) (numbered title 0 32)

  abbrev chain : List Version
  chain = name_chain committed title name

  unseen : sees 0 ≡ false
  unseen = known (sees 0) (λ is. absurd (false≢true (sym nobody ∙ gone 0 is))) (λ isnt. isnt)

  stands_so : (f : ℕ) → is_named_so name (f, title f) ≡ true → is_seen sees (f, title f) ≡ true → is_standing sees (title f) ≡ true
  stands_so f named seen = and_from (is_live (title f)) (is_seen sees (f, title f)) (name_of title name f named).0 seen

  one_seen : (e f : ℕ) → e < 32 → f < 32 → is_named_so name (e, title e) ≡ true → is_named_so name (f, title f) ≡ true → is_seen sees (e, title e) ≡ true → is_seen sees (f, title f) ≡ true → e ≡ f
  one_seen e f lt_e lt_f is_e is_f seen_e seen_f = once e f lt_e lt_f (name_of title name e is_e).0 (name_of title name f is_f).0 ((name_of title name e is_e).1 ∙ sym (name_of title name f is_f).1) (stands_so e is_e seen_e) (stands_so f is_f seen_f)

  one_of_two : InPairs (λ e f. is_seen sees e ≡ true → is_seen sees f ≡ false) list
  one_of_two = pairs_named title name (λ e f. is_seen sees e ≡ true → is_seen sees f ≡ false) 0 32 (omega arith)
      (λ e f before_ lt_e lt_f is_e is_f seen_e. known (is_seen sees (f, title f)) (λ seen_f. absurd (apart e f before_ (one_seen e f lt_e lt_f is_e is_f seen_e seen_f))) (λ isnt. isnt))
    where
      apart : (e f : ℕ) → e < f → e ≡ f → ⊥
      apart e f lt same = omega (arith, lt, same)

  -- it shows the first entry of the name that is seen, in whatever order they are looked at
  scanned : value_seen sees chain ≡ option_map made_by_entry (first_of (is_seen sees) list)
  scanned = ap (value_seen sees) (chain_listed committed title name)
      ∙ scan_shows sees unseen (newest_first committed list) (in_order committed sees gone nobody list (pairs_named title name (AreRanked committed sees gone nobody) 0 32 (omega arith)
      (λ e f before_ lt_e lt_f is_e is_f. (ranked e f lt_e lt_f is_e is_f, ranked f e lt_f lt_e is_f is_e))))
      ∙ ap (option_map made_by_entry) (first_filter (is_seen sees) (newest_first committed list) ∙ ap (first_of (is_seen sees)) (one_sorted committed (is_seen sees) list one_of_two) ∙ sym (first_filter (is_seen sees) list))

  pub scanned_all : value_seen sees chain ≡ option_map made_by_entry (first_of (λ e. is_named_so name e && is_seen sees e) (all_numbered title))
  unfolding entry_numbers
  scanned_all = scanned ∙ ap (option_map made_by_entry) (first_of_filter (is_seen sees) (is_named_so name) (all_numbered title))

  -- An entry of the name that stands is what the chain shows.
  pub standing_shows : (f : ℕ) → f < 32 → is_named_so name (f, title f) ≡ true → is_standing sees (title f) ≡ true → value_seen sees chain ≡ Some (made_by_entry (f, title f))
  standing_shows f lt is stands = scanned ∙ ⊎_elim
      (λ none. absurd (false≢true (sym (each_numbered (λ g. is_seen sees g ≡ false) (is_named_so name) title 0 32 f none.1 (omega arith) lt is) ∙ seen_f)))
      (λ found. ap (option_map made_by_entry) found.1 ∙ ap (λ g. Some (made_by_entry g)) (found.2 found.3))
      (first_cases (is_seen sees) (λ g. is_seen sees g ≡ true → g ≡ (f, title f)) list
      (all_named title name (λ g. is_seen sees g ≡ true → g ≡ (f, title f)) 0 32 (omega arith) (λ g le lt_g is_g seen. ap (λ h. (h, title h)) (one_seen g f lt_g lt is_g is seen seen_f))))
    where
      seen_f : is_seen sees (f, title f) ≡ true
      seen_f = (and_parts (is_live (title f)) (is_seen sees (f, title f)) stands).1

  -- Where none stands, it shows none.
  pub none_standing_shows : ((f : ℕ) → f < 32 → is_named_so name (f, title f) ≡ true → is_standing sees (title f) ≡ false) → value_seen sees chain ≡ None
  none_standing_shows none = scanned ∙ ap (option_map made_by_entry) (none_first (is_seen sees) list
      (all_named title name (λ g. is_seen sees g ≡ false) 0 32 (omega arith) (λ g le lt_g is_g. sym (ap (λ b. b && is_seen sees (g, title g)) (name_of title name g is_g).0) ∙ none g lt_g is_g)))
