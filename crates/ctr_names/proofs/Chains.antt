-- The versions of entries, put before others: what they show, and by whom they are.
use Rattle.std.proofs.Common.{Bool, List, None, Option, Some, [], ap, arith, cond, false, inl, inr, refl, subst, sym, true, ℕ, ⊎_elim, ◌++◌, ◌<◌, ◌==◌, ◌∙◌, ◌∷◌, ◌≡◌, ◌⊎◌}
use Rattle.std.specs.List.{AllByRecursion, filter}
use Rattle.std.specs.Option.{option_or}
use Rattle.std.specs.Prelude.{is_some}
use Rattle.std.proofs.lemmas.Bool.{cases_eq, eq-eqb, eqb-true, false≢true, ne_eqb}
use Rattle.ctr_snap.specs.Seeing.{sees}
use Rattle.ctr_record_laws.specs.versions_Chains.{Numbers, newest, value_seen, written_by}
use Rattle.ctr_record_laws.specs.versions_Versions.{Made}
use Rattle.ctr_record_laws.proofs.versions_Keys.{known, some_is}
use Rattle.ctr_record_laws.specs.area_Areas.{Title}
use Rattle.ctr_record_laws.specs.area_Images.{Numbered, all_put_first, entry_numbers, is_live, is_named_so, made_by_entry, name_chain, name_versions, newest_first, put_first, versions_by_entry}
use Rattle.ctr_names.proofs.Entries.{all_named, all_sorted, each_numbered, name_of, numbered, unsorted}

abbrev pub Version : Type 0
Version = ℕ × Option Made

abbrev pub AreAllBy : (ℕ → Type 0) → List Version → Type 0
AreAllBy P ws = AllByRecursion (λ (v : Version). P v.0) ws

-- ---- a version in front of others

pub all_put : (P : Version → Type 0) (v : Version) (ws : List Version) → P v → AllByRecursion P ws → AllByRecursion P (put_first v ws)
all_put P v [] is all = (is, tt)
all_put P v (w ∷ ws) is all = elim (v.0 == w.0) as (λ b. AllByRecursion P (cond b (v ∷ ws) (v ∷ w ∷ ws))) [ true ↦ (is, all.1) | false ↦ (is, all) ]

pub unput : (P : ℕ → Type 0) (v : Version) (ws : List Version) → AreAllBy P (put_first v ws) → P v.0 × AreAllBy P ws
unput P v [] all = (all.0, tt)
unput P v (w ∷ ws) all = known (v.0 == w.0)
    (λ is. let its = subst (λ b. AreAllBy P (cond b (v ∷ ws) (v ∷ w ∷ ws))) is all in (its.0, (subst P (eqb-true v.0 w.0 is) its.0, its.1)))
    (λ isnt. let its = subst (λ b. AreAllBy P (cond b (v ∷ ws) (v ∷ w ∷ ws))) isnt all in (its.0, its.1))

pub seen-merged : {V : Type 0} (sees : ℕ → Bool) (v : ℕ × Option V) (ws : List (ℕ × Option V)) → value_seen sees (put_first v ws) ≡ value_seen sees (v ∷ ws)
seen-merged sees v [] = refl
seen-merged sees v (w ∷ ws) = known (v.0 == w.0)
    (λ is. ap (λ b. value_seen sees (cond b (v ∷ ws) (v ∷ w ∷ ws))) is
    ∙ known (sees v.0)
    (λ yes_. ap (λ b. cond b v.1 (value_seen sees ws)) yes_ ∙ sym (ap (λ b. cond b v.1 (value_seen sees (w ∷ ws))) yes_))
    (λ no_. ap (λ b. cond (sees v.0) v.1 (cond b w.1 (value_seen sees ws))) (sym no_ ∙ ap sees (eqb-true v.0 w.0 is))))
    (λ isnt. ap (λ b. value_seen sees (cond b (v ∷ ws) (v ∷ w ∷ ws))) isnt)

pub newest_put : (number : Numbers) (v : Version) (ws : List Version) → newest number (put_first v ws) ≡ option_or (number v.0) (newest number ws)
newest_put number v [] = refl
newest_put number v (w ∷ ws) = known (v.0 == w.0)
    (λ is. ap (λ b. newest number (cond b (v ∷ ws) (v ∷ w ∷ ws))) is ∙ same (number v.0) (number w.0) (newest number ws) (ap number (eqb-true v.0 w.0 is)))
    (λ isnt. ap (λ b. newest number (cond b (v ∷ ws) (v ∷ w ∷ ws))) isnt)
  where
    same : (a b c : Option ℕ) → a ≡ b → option_or a c ≡ option_or a (option_or b c)
    same (Some k) b c is = refl
    same None None c is = refl
    same None (Some k) c is = absurd (false≢true (ap is_some is))

pub written_put : (me : ℕ) (v : Version) (ws : List Version) → written_by me (put_first v ws) ≡ cond (me == v.0) (Some v.1) None
written_put me v [] = refl
written_put me v (w ∷ ws) = elim (v.0 == w.0) as (λ b. written_by me (cond b (v ∷ ws) (v ∷ w ∷ ws)) ≡ cond (me == v.0) (Some v.1) None) [ true ↦ refl | false ↦ refl ]

-- ---- the versions of an entry

-- one that nobody dropped, and one that was: by who made it, or by another
pub undropped_versions : (e : Numbered) → e.1.dropper ≡ 0 → versions_by_entry e ≡ (e.1.creator, Some (made_by_entry e)) ∷ []
undropped_versions e none = ap (λ b. cond b ((e.1.creator, Some (made_by_entry e)) ∷ []) (cond (e.1.dropper == e.1.creator) ((e.1.dropper, None) ∷ []) ((e.1.dropper, None) ∷ (e.1.creator, Some (made_by_entry e)) ∷ []))) (eq-eqb e.1.dropper 0 none)

pub own_versions : (e : Numbered) → (e.1.dropper ≡ 0 → ⊥) → e.1.dropper ≡ e.1.creator → versions_by_entry e ≡ (e.1.dropper, None) ∷ []
own_versions e some own = λ i. cond (ne_eqb e.1.dropper 0 some i) ((e.1.creator, Some (made_by_entry e)) ∷ []) (cond (eq-eqb e.1.dropper e.1.creator own i) ((e.1.dropper, None) ∷ []) ((e.1.dropper, None) ∷ (e.1.creator, Some (made_by_entry e)) ∷ []))

pub dropped_versions : (e : Numbered) → (e.1.dropper ≡ 0 → ⊥) → (e.1.dropper ≡ e.1.creator → ⊥) → versions_by_entry e ≡ (e.1.dropper, None) ∷ (e.1.creator, Some (made_by_entry e)) ∷ []
dropped_versions e some apart = λ i. cond (ne_eqb e.1.dropper 0 some i) ((e.1.creator, Some (made_by_entry e)) ∷ []) (cond (ne_eqb e.1.dropper e.1.creator apart i) ((e.1.dropper, None) ∷ []) ((e.1.dropper, None) ∷ (e.1.creator, Some (made_by_entry e)) ∷ []))

-- each of the three
pub by_kind : (P : List Version → Type 0) (e : Numbered) → (e.1.dropper ≡ 0 → P ((e.1.creator, Some (made_by_entry e)) ∷ [])) → ((e.1.dropper ≡ 0 → ⊥) → e.1.dropper ≡ e.1.creator → P ((e.1.dropper, None) ∷ []))
    → ((e.1.dropper ≡ 0 → ⊥) → (e.1.dropper ≡ e.1.creator → ⊥) → P ((e.1.dropper, None) ∷ (e.1.creator, Some (made_by_entry e)) ∷ [])) → P (versions_by_entry e)
by_kind P e one own two = ⊎_elim
    (λ none. subst P (sym (undropped_versions e none)) (one none))
    (λ some. ⊎_elim
    (λ is. subst P (sym (own_versions e some is)) (own some is))
    (λ apart. subst P (sym (dropped_versions e some apart)) (two some apart))
    (cases_eq e.1.dropper e.1.creator)) (cases_eq e.1.dropper 0)

abbrev pub before : List Numbered → List Version → List Version
before [] ws = ws
before (e ∷ es) ws = all_put_first (versions_by_entry e) (before es ws)

pub before_more : (front back : List Numbered) → name_versions (front ++ back) ≡ before front (name_versions back)
before_more [] back = refl
before_more (e ∷ front) back = ap (all_put_first (versions_by_entry e)) (before_more front back)

pub versions_before : (es : List Numbered) → name_versions es ≡ before es []
versions_before [] = refl
versions_before (e ∷ es) = ap (all_put_first (versions_by_entry e)) (versions_before es)

pub chain_listed : (test : ℕ → Bool) (title : ℕ → Title) (name : List ℕ) → name_chain test title name ≡ name_versions (newest_first test (filter (is_named_so name) (numbered title 0 32)))
unfolding entry_numbers
chain_listed test title name = refl

-- ---- by whom they are

-- both who made it and who dropped it, if anybody, are such
abbrev pub IsByBoth : (ℕ → Type 0) → Numbered → Type 0
IsByBoth P e = P e.1.creator × ((e.1.dropper ≡ 0) ⊎ P e.1.dropper)

-- the versions of entries are by who made and dropped them
pub by_before : (P : ℕ → Type 0) (es : List Numbered) (ws : List Version) → AllByRecursion (IsByBoth P) es → AreAllBy P ws → AreAllBy P (before es ws)
by_before P [] ws all rest = rest
by_before P (e ∷ es) ws all rest =
    let more = by_before P es ws all.1 rest in
    let gone : (e.1.dropper ≡ 0 → ⊥) → P e.1.dropper = λ some. ⊎_elim (λ none. absurd (some none)) (λ is. is) all.0.1 in
    let one = all_put (λ v. P v.0) (e.1.creator, Some (made_by_entry e)) (before es ws) all.0.0 more in
    by_kind (λ vs. AreAllBy P (all_put_first vs (before es ws))) e
    (λ none. one)
    (λ some own. all_put (λ v. P v.0) (e.1.dropper, None) (before es ws) (gone some) more)
    (λ some apart. all_put (λ v. P v.0) (e.1.dropper, None) (put_first (e.1.creator, Some (made_by_entry e)) (before es ws)) (gone some) one)

-- and back
pub both_in : (P : ℕ → Type 0) (es : List Numbered) (ws : List Version) → AreAllBy P (before es ws) → AllByRecursion (IsByBoth P) es
both_in P [] ws all = tt
both_in P (e ∷ es) ws all =
    let its = by_kind (λ vs. AreAllBy P (all_put_first vs (before es ws)) → IsByBoth P e × AreAllBy P (before es ws)) e
    (λ none all. let one = unput P (e.1.creator, Some (made_by_entry e)) (before es ws) all in ((one.0, inl none), one.1))
    (λ some own all. let one = unput P (e.1.dropper, None) (before es ws) all in ((subst P own one.0, inr one.0), one.1))
    (λ some apart all. let one = unput P (e.1.dropper, None) (put_first (e.1.creator, Some (made_by_entry e)) (before es ws)) all in
    let two = unput P (e.1.creator, Some (made_by_entry e)) (before es ws) one.1 in ((two.0, inr one.0), two.1)) all in
    (its.0, both_in P es ws its.1)

-- of a name's chain: each version is by who made or dropped a live entry
pub name_by : (P : ℕ → Type 0) (test : ℕ → Bool) (title : ℕ → Title) (name : List ℕ)
    → ((f : ℕ) → f < 32 → is_live (title f) ≡ true → (title f).name ≡ name → P (title f).creator × (((title f).dropper ≡ 0) ⊎ P (title f).dropper)) → AreAllBy P (name_chain test title name)
unfolding entry_numbers
name_by P test title name each =
    let es = newest_first test (filter (is_named_so name) (numbered title 0 32)) in
    subst (AreAllBy P) (sym (versions_before es))
    (by_before P es [] (all_sorted test (IsByBoth P) (filter (is_named_so name) (numbered title 0 32))
    (all_named title name (IsByBoth P) 0 32 (omega arith) (λ f le lt is. let its = name_of title name f is in each f lt its.0 its.1))) tt)

pub entries_in : (P : ℕ → Type 0) (test : ℕ → Bool) (title : ℕ → Title) (name : List ℕ) → AreAllBy P (name_chain test title name) → (f : ℕ) → f < 32 → is_named_so name (f, title f) ≡ true → P (title f).creator × (((title f).dropper ≡ 0) ⊎ P (title f).dropper)
unfolding entry_numbers
entries_in P test title name all f lt named =
    each_numbered (IsByBoth P) (is_named_so name) title 0 32 f
    (unsorted test (IsByBoth P) (filter (is_named_so name) (numbered title 0 32))
    (both_in P (newest_first test (filter (is_named_so name) (numbered title 0 32))) []
    (subst (AreAllBy P) (versions_before (newest_first test (filter (is_named_so name) (numbered title 0 32)))) all))) (omega arith) lt named

-- ---- the tables in them

-- what holds of the versions of an entry, and of others, holds of all
pub all_before : (P : Version → Type 0) (es : List Numbered) (ws : List Version) → AllByRecursion (λ e. P (e.1.creator, Some (made_by_entry e)) × P (e.1.dropper, None)) es → AllByRecursion P ws → AllByRecursion P (before es ws)
all_before P [] ws all rest = rest
all_before P (e ∷ es) ws all rest =
    let more = all_before P es ws all.1 rest in
    let one = all_put P (e.1.creator, Some (made_by_entry e)) (before es ws) all.0.0 more in
    by_kind (λ vs. AllByRecursion P (all_put_first vs (before es ws))) e
    (λ none. one)
    (λ some own. all_put P (e.1.dropper, None) (before es ws) all.0.1 more)
    (λ some apart. all_put P (e.1.dropper, None) (put_first (e.1.creator, Some (made_by_entry e)) (before es ws)) all.0.1 one)

pub chain_all : (P : Version → Type 0) (test : ℕ → Bool) (title : ℕ → Title) (name : List ℕ) → ((f : ℕ) → f < 32 → is_named_so name (f, title f) ≡ true → P ((title f).creator, Some (made_by_entry (f, title f))) × P ((title f).dropper, None)) → AllByRecursion P (name_chain test title name)
unfolding entry_numbers
chain_all P test title name each =
    let Both : Numbered → Type 0 = λ e. P (e.1.creator, Some (made_by_entry e)) × P (e.1.dropper, None) in
    let es = newest_first test (filter (is_named_so name) (numbered title 0 32)) in
    subst (AllByRecursion P) (sym (versions_before es))
    (all_before P es [] (all_sorted test Both (filter (is_named_so name) (numbered title 0 32)) (all_named title name Both 0 32 (omega arith) (λ f le lt is. each f lt is))) tt)

-- a version's table, if it has one, is such
abbrev pub IsTable : (Made → Type 0) → Version → Type 0
IsTable P v = (m : Made) → v.1 ≡ Some m → P m

seen_table : (P : Made → Type 0) (sees : ℕ → Bool) (ws : List Version) (m : Made) → AllByRecursion (IsTable P) ws → value_seen sees ws ≡ Some m → P m
seen_table P sees [] m all is = absurd (false≢true (ap is_some is))
seen_table P sees (w ∷ ws) m all is =
    elim (sees w.0) as (λ b. cond b w.1 (value_seen sees ws) ≡ Some m → P m) [ true ↦ λ is. all.0 m is | false ↦ λ is. seen_table P sees ws m all.1 is ] is

-- what is seen of a name is the table of a live entry
pub seen_entry : (P : Made → Type 0) (test sees : ℕ → Bool) (title : ℕ → Title) (name : List ℕ) (m : Made) → ((f : ℕ) → f < 32 → is_named_so name (f, title f) ≡ true → P (made_by_entry (f, title f))) → value_seen sees (name_chain test title name) ≡ Some m → P m
seen_entry P test sees title name m each is = seen_table P sees (name_chain test title name) m
    (chain_all (IsTable P) test title name (λ f lt named. ((λ m here. subst P (some_is (made_by_entry (f, title f)) m here) (each f lt named)), λ m none. absurd (false≢true (ap is_some none))))) is

-- a table's version is by who made it
abbrev pub IsMakers : (Made → ℕ) → Version → Type 0
IsMakers maker v = (m : Made) → v.1 ≡ Some m → v.0 ≡ maker m

pub chain_makers : (test : ℕ → Bool) (title : ℕ → Title) (name : List ℕ) → AllByRecursion (IsMakers (λ m. (title m.id).creator)) (name_chain test title name)
chain_makers test title name = chain_all (IsMakers (λ m. (title m.id).creator)) test title name
    (λ f lt named. ((λ m is. ap (λ (m : Made). (title m.id).creator) (some_is (made_by_entry (f, title f)) m is)), λ m none. absurd (false≢true (ap is_some none))))

pub seen_maker : (maker : Made → ℕ) (sees : ℕ → Bool) (ws : List Version) (m : Made) → AllByRecursion (IsMakers maker) ws → value_seen sees ws ≡ Some m → sees (maker m) ≡ true
seen_maker maker sees [] m all is = absurd (false≢true (ap is_some is))
seen_maker maker sees (w ∷ ws) m all is =
    elim (sees w.0) as (λ b. sees w.0 ≡ b → cond b w.1 (value_seen sees ws) ≡ Some m → sees (maker m) ≡ true) [
      | true ↦ λ yes_ is. ap sees (sym (all.0 m is)) ∙ yes_
      | false ↦ λ no_ is. seen_maker maker sees ws m all.1 is
    ] refl is

pub written_maker : (maker : Made → ℕ) (me : ℕ) (ws : List Version) (m : Made) → AllByRecursion (IsMakers maker) ws → written_by me ws ≡ Some (Some m) → me ≡ maker m
written_maker maker me [] m all is = absurd (false≢true (ap is_some is))
written_maker maker me (w ∷ ws) m all is =
    elim (me == w.0) as (λ b. (me == w.0) ≡ b → cond b (Some w.1) None ≡ Some (Some m) → me ≡ maker m) [
      | true ↦ λ yes_ is. eqb-true me w.0 yes_ ∙ all.0 m (some_is w.1 (Some m) is)
      | false ↦ λ no_ is. absurd (false≢true (ap is_some is))
    ] refl is

-- ---- what an entry in front shows

module _ (committed : ℕ → Bool) (nobody : committed 0 ≡ false) where
  abbrev shows : List Numbered → Option Made
  shows es = value_seen committed (name_versions es)

  -- an entry in front: gone, standing, or not committed
  abbrev pub shown_by : Numbered → Option Made → Option Made
  shown_by e rest = cond (committed e.1.dropper) None (cond (committed e.1.creator) (Some (made_by_entry e)) rest)

  pub shows_more : (e : Numbered) (es : List Numbered) → shows (e ∷ es) ≡ shown_by e (shows es)
  shows_more e es =
      let ws = name_versions es in
      by_kind (λ vs. value_seen committed (all_put_first vs ws) ≡ shown_by e (shows es)) e
      (λ none. seen-merged committed (e.1.creator, Some (made_by_entry e)) ws ∙ sym (ap (λ b. cond b None (cond (committed e.1.creator) (Some (made_by_entry e)) (shows es))) (ap committed none ∙ nobody)))
      (λ some own. seen-merged committed (e.1.dropper, None) ws ∙ known (committed e.1.dropper)
      (λ gone. ap (λ b. cond b None (shows es)) gone ∙ sym (ap (λ b. cond b None (cond (committed e.1.creator) (Some (made_by_entry e)) (shows es))) gone))
      (λ stays. ap (λ b. cond b None (shows es)) stays ∙ sym (λ i. cond (stays i) None (cond ((ap committed (sym own) ∙ stays) i) (Some (made_by_entry e)) (shows es)))))
      (λ some apart. seen-merged committed (e.1.dropper, None) (put_first (e.1.creator, Some (made_by_entry e)) ws) ∙ ap (cond (committed e.1.dropper) None) (seen-merged committed (e.1.creator, Some (made_by_entry e)) ws))
