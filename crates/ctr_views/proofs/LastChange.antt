-- Of those who are told to have changed a name, the newest has the number of the last change.
use Rattle.std.proofs.Common.{◌≡◌, ◌⊎◌, ⊎_elim, inl, inr, zero, suc, ℕ, ◌<◌, ◌≤◌, Bool, true, false, cond, List, [], ◌∷◌, Option, Some, None, refl, sym, ◌∙◌, ap, subst, arith}
use Rattle.std.specs.Prelude.{◌&&◌, is_some, nat_lt, unwrap_or}
use Rattle.std.specs.List.{AllByRecursion, filter}
use Rattle.std.specs.Option.{option_or}
use Rattle.std.proofs.lemmas.Bool.{and_parts, false≢true, lt-ltb, ltb-true}
use Rattle.ctr_model.specs.State.{same_name}
use Rattle.ctr_versions.specs.Chains.{AllTold, IsChangeTold, Numbers, above, changed_since, newest, newest_since}
use Rattle.ctr_versions.specs.Engine.{IsSeenIfOld, ShowsSession}
use Rattle.ctr_versions.specs.Keys.{schema_writes}
use Rattle.ctr_versions.specs.Versions.{schemas}
use Rattle.ctr_versions.specs.Xids.{number_of}
use Rattle.ctr_versions.proofs.Keys.{known}
use Rattle.ctr_versions.proofs.Undoing.{newest_schemas}
use Rattle.ctr_versions.proofs.Written.{same_itself}
use Rattle.ctr_meta.specs.Seen.{xid_is_changed}
use Rattle.ctr_paged.specs.area_Areas.{Title}
use Rattle.ctr_paged.specs.area_Images.{Numbered, all_put_first, is_committed_in, is_live, is_named_so, made_by_entry, name_chain, name_versions, newest_first, put_first, versions_by_entry, versions_in}
use Rattle.ctr_paged.proofs.names_Chains.{AreAllBy, Version, by_kind, chain_listed, entries_in, newest_put}
use Rattle.ctr_paged.proofs.names_Entries.{all_named, all_sorted, name_of, numbered}
use Rattle.ctr_catalog.proofs.names_Fates.{changed_same}
use Rattle.ctr_paged.proofs.names_Names.{names_here}
use Rattle.ctr_paged.proofs.names_Ranked.{told_entry}
use Rattle.ctr_paged.specs.ctr_names.Search.{is_changed_for}
use Rattle.ctr_paged.specs.actions_Sites.{Site}
use Rattle.ctr_catalog.specs.Finding.{change_made, change_since, changed_in}
use Rattle.ctr_catalog.proofs.Searched.{changed_made}
use Rattle.ctr_paged.specs.Paged.{xids_of}
use Rattle.ctr_paged.specs.Shown.{Scene, IsShown}
use Rattle.ctr_views.specs.Viewing.{Viewer}
use Rattle.ctr_views.proofs.Looking.{of_tables, session_shown}

-- ---- numbers

either_is : {A : Type 0} (a b : Option A) (k : A) → option_or a b ≡ Some k → (a ≡ Some k) ⊎ ((a ≡ None) × (b ≡ Some k))
either_is (Some j) b k is = inl is
either_is None b k is = inr (refl, is)

above_parts : (n k : ℕ) (o : Option ℕ) → above n o ≡ Some k → (o ≡ Some k) × (n < k)
above_parts n k None is = absurd (false≢true (ap is_some is))
above_parts n k (Some j) is = by (nat_lt n j) refl (sym refl ∙ is)
  where
    by : (b : Bool) → nat_lt n j ≡ b → cond (nat_lt n j) (Some j) None ≡ Some k → (Some j ≡ Some k) × (n < k)
    by true lt here =
        let same : j ≡ k = ap (λ (o : Option ℕ). unwrap_or o j) (sym (ap (λ b. cond b (Some j) None) lt) ∙ here) in
        (ap (λ m. Some m) same, subst (λ m. n < m) same (ltb-true n j lt))
    by false ge here = absurd (false≢true (ap is_some (sym (ap (λ b. cond b (Some j) None) ge) ∙ here)))

above_some : (n j : ℕ) → n < j → above n (Some j) ≡ Some j
above_some n j lt = ap (λ b. cond b (Some j) None) (lt-ltb n j lt)

some_above : (n : ℕ) (o : Option ℕ) → is_some (above n o) ≡ true → (j : ℕ) × (o ≡ Some j) × (n < j)
some_above n None is = absurd (false≢true is)
some_above n (Some j) is = known (nat_lt n j)
    (λ lt. (j, refl, ltb-true n j lt))
    (λ ge. absurd (false≢true (sym (ap (λ b. is_some (cond b (Some j) None)) ge) ∙ is)))

-- ---- the entry of the newest version

module _ (number : Numbers) (nobody : number 0 ≡ None) where
  -- an entry's newest number: of who dropped it, or else of who made it
  abbrev IsNewest : ℕ → Title → Type 0
  IsNewest k u = (number u.dropper ≡ Some k) ⊎ ((number u.dropper ≡ None) × (number u.creator ≡ Some k))

  of_entry : (e : Numbered) (ws : List Version) (k : ℕ) → newest number (all_put_first (versions_by_entry e) ws) ≡ Some k → IsNewest k e.1 ⊎ (newest number ws ≡ Some k)
  of_entry e ws k = by_kind (λ vs. newest number (all_put_first vs ws) ≡ Some k → IsNewest k e.1 ⊎ (newest number ws ≡ Some k)) e
      (λ none is. ⊎_elim (λ made. inl (inr (ap number none ∙ nobody, made))) (λ rest. inr rest.1)
      (either_is (number e.1.creator) (newest number ws) k (sym (newest_put number (e.1.creator, Some (made_by_entry e)) ws) ∙ is)))
      (λ some own is. ⊎_elim (λ gone. inl (inl gone)) (λ rest. inr rest.1)
      (either_is (number e.1.dropper) (newest number ws) k (sym (newest_put number (e.1.dropper, None) ws) ∙ is)))
      (λ some apart is. ⊎_elim (λ gone. inl (inl gone))
      (λ rest. ⊎_elim (λ made. inl (inr (rest.0, made))) (λ last. inr last.1)
      (either_is (number e.1.creator) (newest number ws) k (sym (newest_put number (e.1.creator, Some (made_by_entry e)) ws) ∙ rest.1)))
      (either_is (number e.1.dropper) (newest number (put_first (e.1.creator, Some (made_by_entry e)) ws)) k (sym (newest_put number (e.1.dropper, None) (put_first (e.1.creator, Some (made_by_entry e)) ws)) ∙ is)))

  of_entries : (P : Numbered → Type 0) (es : List Numbered) (k : ℕ) → AllByRecursion P es → newest number (name_versions es) ≡ Some k → (e : Numbered) × P e × IsNewest k e.1
  of_entries P [] k all is = absurd (false≢true (ap is_some is))
  of_entries P (e ∷ es) k all is = ⊎_elim (λ here. (e, all.0, here)) (λ rest. of_entries P es k all.1 rest) (of_entry e (name_versions es) k is)

  module _ (committed : ℕ → Bool) (title : ℕ → Title) (name : List ℕ) where
    abbrev IsHere : Numbered → Type 0
    IsHere e = (e.0 < 32) × (is_named_so name (e.0, title e.0) ≡ true) × (e.1 ≡ title e.0)

    newest_entry : (k : ℕ) → newest number (name_chain committed title name) ≡ Some k → (f : ℕ) × (f < 32) × (is_named_so name (f, title f) ≡ true) × IsNewest k (title f)
    newest_entry k is =
        let listed = filter (is_named_so name) (numbered title 0 32) in
        let its = of_entries IsHere (newest_first committed listed) k
        (all_sorted committed IsHere listed (all_named title name IsHere 0 32 (omega arith) (λ f le lt named. (lt, named, refl))))
        (ap (newest number) (sym (chain_listed committed title name)) ∙ is) in
        (its.0.0, its.1.0, its.1.1, subst (IsNewest k) its.1.2 its.2)

-- ---- in a scene

module _ (low : ℕ) (site : Site) (scene : Scene) (shown : IsShown low site scene) (v : Viewer scene) (name : List ℕ) where
  abbrev number : Numbers
  number = number_of (xids_of site.tables scene.run.commits)

  abbrev n : ℕ
  n = v.t.snapshot

  abbrev committed : ℕ → Bool
  committed = is_committed_in site.tables

  abbrev chain : List Version
  chain = name_chain committed site.area.title name

  abbrev IfOld : ℕ → Type 0
  IfOld = IsSeenIfOld (xids_of site.tables scene.run.commits) v.session.snapshot

  its : ShowsSession low scene.state.answered (xids_of site.tables scene.run.commits) (versions_in committed site.area) v.session v.t
  its = session_shown low site scene shown v

  abbrev told : ℕ → Bool
  told y = xid_is_changed site.tables v.session.snapshot y

  told_as : (y : ℕ) → IfOld y → told y ≡ is_some (above n (number y))
  told_as y old = changed_same site.counted site.tables site.area shown.paged.sound (xids_of site.tables scene.run.commits) (of_tables low site scene shown) v.session.snapshot n its.snapshot y old

  old_entry : (f : ℕ) → f < 32 → is_named_so name (f, site.area.title f) ≡ true → IfOld (site.area.title f).creator × (((site.area.title f).dropper ≡ 0) ⊎ IfOld (site.area.title f).dropper)
  old_entry = entries_in IfOld committed site.area.title name (subst (AreAllBy IfOld) (names_here committed site.area name) (its.old.names name))

  -- the last change, by the chain
  last_by : (m : ℕ) → low ≤ m → above m (newest number chain) ≡ changed_since m (schema_writes name scene.state.asked)
  last_by m le =
      sym (ap (λ ws. newest_since number m (schemas ws)) (names_here committed site.area name) ∙ ap (above m) (newest_schemas number chain))
      ∙ (shown.paged.shows.stands.tables name).changes m le

  told_since : (m : ℕ) → low ≤ m → AllTold number m (schema_writes name scene.state.asked) (schemas chain)
  told_since m le = subst (λ ws. AllTold number m (schema_writes name scene.state.asked) (schemas ws)) (names_here committed site.area name) ((shown.paged.shows.stands.tables name).told m le)

  abbrev u : ℕ → Title
  u f = site.area.title f

  -- who dropped it, or else who made it, where this is told
  abbrev said : ℕ → Option ℕ
  said f = cond (told (u f).dropper) (Some (u f).dropper) (cond (told (u f).creator) (Some (u f).creator) None)

  -- what is answered of an entry of the name
  answered : (f : ℕ) → is_named_so name (f, site.area.title f) ≡ true → changed_in site.tables v.session.snapshot name site.area f ≡ said f
  answered f named =
      let parts = name_of site.area.title name f named in
      let here : (is_live (site.area.title f) && same_name (site.area.title f).name name) ≡ true = (λ i. parts.0 i && (ap (λ m. same_name m name) parts.1 ∙ same_itself name) i) in
      ap (λ b. change_made (change_since site.tables v.session.snapshot) (cond b (Some (record { creator = (u f).creator; dropper = (u f).dropper })) None)) here

  abbrev IsTheLast : ℕ → Type 0
  IsTheLast k = (f : ℕ) × (f < 32) × (x : ℕ) × (changed_in site.tables v.session.snapshot name site.area f ≡ Some x) × (above n (number x) ≡ Some k)

  late : (y k : ℕ) → IfOld y → number y ≡ Some k → n < k → told y ≡ true
  late y k old is lt = told_as y old ∙ ap (λ o. is_some (above n o)) is ∙ ap is_some (above_some n k lt)

  by_entry : (k f : ℕ) → n < k → f < 32 → is_named_so name (f, site.area.title f) ≡ true → IsNewest number refl k (site.area.title f) → IsTheLast k
  by_entry k f later lt named newest_ = ⊎_elim
      (λ gone.
      let old = ⊎_elim (λ none. absurd (false≢true (ap is_some (sym (ap number none) ∙ gone)))) (λ old. old) (old_entry f lt named).1 in
      (f, lt, (u f).dropper, answered f named ∙ ap (λ b. cond b (Some (u f).dropper) (cond (told (u f).creator) (Some (u f).creator) None)) (late (u f).dropper k old gone later), ap (above n) gone ∙ above_some n k later))
      (λ parts.
      let untold : told (u f).dropper ≡ false = ⊎_elim (λ none. ap told none) (λ old. told_as (u f).dropper old ∙ ap (λ o. is_some (above n o)) parts.0) (old_entry f lt named).1 in (
        f,
        lt,
        (u f).creator,
        answered f named ∙ ap (λ b. cond b (Some (u f).dropper) (cond (told (u f).creator) (Some (u f).creator) None)) untold
            ∙ ap (λ b. cond b (Some (u f).creator) None) (late (u f).creator k (old_entry f lt named).0 parts.1 later),
        ap (above n) parts.1 ∙ above_some n k later,
      ))
      newest_

  -- The last change is by one who is told.
  pub newest_is_told : (k : ℕ) → changed_since n (schema_writes name scene.state.asked) ≡ Some k → IsTheLast k
  newest_is_told k is =
      let parts = above_parts n k (newest number chain) (last_by n (its.from v.calm.1) ∙ is) in
      let entry = newest_entry number refl committed site.area.title name k parts.0 in
      by_entry k entry.0 parts.1 entry.1 entry.2 entry.3

  -- who is told has a number, which is at most that of the last change
  abbrev IsAtMost : ℕ → Type 0
  IsAtMost x = (is_some (changed_since n (schema_writes name scene.state.asked)) ≡ true) × (j : ℕ) × (above n (number x) ≡ Some j) × ((k : ℕ) → changed_since n (schema_writes name scene.state.asked) ≡ Some k → j ≤ k)

  within : (x j k : ℕ) → n < j → number x ≡ Some j → ((m : ℕ) → low ≤ m → IsChangeTold number m (schema_writes name scene.state.asked) x) → changed_since n (schema_writes name scene.state.asked) ≡ Some k → j ≤ k
  within x zero k lt is one last = absurd (omega (arith, lt))
  within x (suc m) k lt is one last =
      let from = its.from v.calm.1 in
      let newest_is = (above_parts n k (newest number chain) (last_by n from ∙ last)).0 in
      let some = ap is_some (last_by m (omega (arith, lt, from))) ∙ one m (omega (arith, lt, from)) (suc m) is (omega arith) in
      let found = some_above m (Some k) (ap (λ o. is_some (above m o)) (sym newest_is) ∙ some) in
      let same = ap (λ (o : Option ℕ). unwrap_or o k) found.1 in
      let below = found.2 in
      omega (arith, below, same)

  at_most : (x : ℕ) → told x ≡ true → (x ≡ 0) ⊎ IfOld x → ((m : ℕ) → low ≤ m → (x ≡ 0) ⊎ IsChangeTold number m (schema_writes name scene.state.asked) x) → IsAtMost x
  at_most x is old one =
      let some = ⊎_elim (λ none. absurd (false≢true (ap told (sym none) ∙ is))) (λ old. some_above n (number x) (sym (told_as x old) ∙ is)) old in
      let each : (m : ℕ) → low ≤ m → IsChangeTold number m (schema_writes name scene.state.asked) x = λ m le. ⊎_elim (λ none. absurd (false≢true (ap told (sym none) ∙ is))) (λ one. one) (one m le) in
      (each n (its.from v.calm.1) some.0 some.1 some.2, some.0, ap (above n) some.1 ∙ above_some n some.0 some.2, λ k last. within x some.0 k some.2 some.1 each last)

  pub told_at_most : (f x : ℕ) → f < 32 → changed_in site.tables v.session.snapshot name site.area f ≡ Some x → IsAtMost x
  told_at_most f x lt is =
      let named = (and_parts (is_named_so name (f, site.area.title f)) (is_changed_for site.tables v.session.snapshot (u f)) (sym (changed_made site.tables v.session.snapshot name site.area f) ∙ ap is_some is)).0 in
      let here = sym (answered f named) ∙ is in
      known (told (u f).dropper)
      (λ gone. subst IsAtMost (one_some (u f).dropper (sym (ap (λ b. cond b (Some (u f).dropper) (cond (told (u f).creator) (Some (u f).creator) None)) gone) ∙ here))
      (at_most (u f).dropper gone (old_entry f lt named).1 (λ m le. (told_entry number m (schema_writes name scene.state.asked) committed site.area.title name (told_since m le) f lt named).1)))
      (λ stays. known (told (u f).creator)
      (λ made. subst IsAtMost (one_some (u f).creator (sym (ap (λ b. cond b (Some (u f).creator) None) made) ∙ sym (ap (λ b. cond b (Some (u f).dropper) (cond (told (u f).creator) (Some (u f).creator) None)) stays) ∙ here))
      (at_most (u f).creator made (inr (old_entry f lt named).0) (λ m le. inr (told_entry number m (schema_writes name scene.state.asked) committed site.area.title name (told_since m le) f lt named).0)))
      (λ neither. absurd (false≢true (ap is_some (sym (ap (λ b. cond b (Some (u f).creator) None) neither) ∙ sym (ap (λ b. cond b (Some (u f).dropper) (cond (told (u f).creator) (Some (u f).creator) None)) stays) ∙ here)))))
    where
      one_some : (a : ℕ) → Some a ≡ Some x → a ≡ x
      one_some a e = ap (λ (o : Option ℕ). unwrap_or o a) e

  -- Where nobody is told of any entry, there is no change.
  pub none_is_told : ((f : ℕ) → f < 32 → changed_in site.tables v.session.snapshot name site.area f ≡ None) → changed_since n (schema_writes name scene.state.asked) ≡ None
  none_is_told none = by_last (changed_since n (schema_writes name scene.state.asked)) refl
    where
      by_last : (o : Option ℕ) → changed_since n (schema_writes name scene.state.asked) ≡ o → changed_since n (schema_writes name scene.state.asked) ≡ None
      by_last None is = is
      by_last (Some k) is = let one = newest_is_told k is in absurd (false≢true (ap is_some (sym (none one.0 one.1) ∙ one.3)))
