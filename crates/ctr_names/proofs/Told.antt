-- What the tables tell of who changed a name since a snapshot is what the model says.
use Rattle.std.proofs.Common.{◌≡◌, ⊎_elim, ◌⊎◌, ℕ, ◌<◌, Bool, true, false, cond, List, [], ◌∷◌, Option, Some, None, inl, inr, refl, sym, ◌∙◌, ap, subst}
use Rattle.std.specs.Option.{option_or}
use Rattle.std.specs.Prelude.{is_some, nat_lt}
use Rattle.std.proofs.lemmas.Bool.{false≢true, ltb-true, or_cases, or_parts}
use Rattle.ctr_record_laws.specs.model_declared_state_State.{State}
use Rattle.ctr_record_laws.specs.versions_Chains.{AllTold, IsChangeTold, Numbers, above, changed_since, newest, newest_since}
use Rattle.ctr_record_laws.specs.versions_Engine.{IsSeenIfOld}
use Rattle.ctr_record_laws.specs.versions_Keys.{schema_writes}
use Rattle.ctr_record_laws.specs.versions_Versions.{schemas}
use Rattle.ctr_record_laws.specs.versions_Xids.{Xids, number_of}
use Rattle.ctr_record_laws.proofs.versions_Undoing.{newest_schemas}
use Rattle.ctr_record_laws.specs.meta_Seen.{xid_is_changed}
use Rattle.ctr_record_laws.specs.meta_Tables.{Tables}
use Rattle.ctr_record_laws.specs.area_Areas.{Area}
use Rattle.ctr_record_laws.specs.area_Images.{is_committed_in, is_live, is_named_so, name_chain}
use Rattle.ctr_record_laws.specs.area_Sound.{IsSoundArea}
use Rattle.ctr_names.specs.Search.{IsLooking, Looker, ShowsNames, is_changed_for}
use Rattle.ctr_names.proofs.Chains.{AreAllBy, Version, entries_in, name_by}
use Rattle.ctr_names.proofs.Entries.{named_so}
use Rattle.ctr_names.proofs.Fates.{changed_same}
use Rattle.ctr_names.proofs.Names.{names_here}
use Rattle.ctr_names.proofs.Ranked.{told_entry}

-- there is none
no_some : {A : Type 0} (o : Option A) → is_some o ≡ false → o ≡ None
no_some None isnt = refl
no_some (Some k) isnt = absurd (false≢true (sym isnt))

-- a chain none of whose versions is later has no later one in front
late_none : (number : Numbers) (n : ℕ) (chain : List Version) → AreAllBy (λ y. is_some (above n (number y)) ≡ false) chain → newest_since number n chain ≡ None
late_none number n [] all = refl
late_none number n (v ∷ vs) all =
    elim (number v.0) as (λ o. is_some (above n o) ≡ false → above n (option_or o (newest number vs)) ≡ None) [
      | None ↦ λ isnt. late_none number n vs all.1
      | Some k ↦ λ isnt. no_some (above n (Some k)) isnt
    ] all.0

module _ (counted low : ℕ) (tables : Tables) (area : Area) (xids : Xids) (state : State) (look : Looker) (sound : IsSoundArea counted tables area) (names : ShowsNames low tables area xids state) (looks : IsLooking low tables area xids state look) where
  abbrev committed : ℕ → Bool
  committed = is_committed_in tables

  abbrev number : Numbers
  number = number_of xids

  abbrev n : ℕ
  n = look.t.snapshot

  abbrev chain : List Version
  chain = name_chain committed area.title look.name

  abbrev IfOld : ℕ → Type 0
  IfOld = IsSeenIfOld xids look.session.snapshot

  abbrev IsOne : ℕ → Type 0
  IsOne = IsChangeTold number n (schema_writes look.name state.asked)

  old_entry : (f : ℕ) → f < 32 → is_named_so look.name (f, area.title f) ≡ true → IfOld (area.title f).creator × (((area.title f).dropper ≡ 0) ⊎ IfOld (area.title f).dropper)
  old_entry = entries_in IfOld committed area.title look.name (subst (AreAllBy IfOld) (names_here committed area look.name) (looks.shown.old.names look.name))

  told : AllTold number n (schema_writes look.name state.asked) (schemas chain)
  told = subst (λ ws. AllTold number n (schema_writes look.name state.asked) (schemas ws)) (names_here committed area look.name) ((names.chains.tables look.name).told n (looks.shown.from looks.calm.1))

  by_number : (y : ℕ) → IfOld y → xid_is_changed tables look.session.snapshot y ≡ is_some (above n (number y))
  by_number = changed_same counted tables area sound xids names.xids_are look.session.snapshot n looks.shown.snapshot

  -- who has a later number is told
  is_told : (y : ℕ) → IsOne y → is_some (above n (number y)) ≡ true → is_some (changed_since n (schema_writes look.name state.asked)) ≡ true
  is_told y one late =
      elim (number y) as (λ o. number y ≡ o → is_some (above n o) ≡ true → is_some (changed_since n (schema_writes look.name state.asked)) ≡ true) [
        | None ↦ λ none is. absurd (false≢true is)
        | Some k ↦ λ some is. one k some (ltb-true n k (is_above (nat_lt n k) k is))
      ] refl late
    where
      is_above : (b : Bool) (k : ℕ) → is_some (cond b (Some k) None) ≡ true → b ≡ true
      is_above true k is = refl
      is_above false k is = absurd (false≢true is)

  pub changed_told : (f : ℕ) → f < 32 → is_named_so look.name (f, area.title f) ≡ true → is_changed_for tables look.session.snapshot (area.title f) ≡ true → is_some (changed_since n (schema_writes look.name state.asked)) ≡ true
  changed_told f lt named is =
      let its = told_entry number n (schema_writes look.name state.asked) committed area.title look.name told f lt named in
      let old = old_entry f lt named in
      let u = area.title f in
      ⊎_elim
      (λ drop. ⊎_elim (nobody u.dropper drop) (λ old. ⊎_elim (nobody u.dropper drop) (λ one. is_told u.dropper one (sym (by_number u.dropper old) ∙ drop)) its.1) old.1)
      (λ make. is_told u.creator its.0 (sym (by_number u.creator old.0) ∙ make))
      (or_cases (xid_is_changed tables look.session.snapshot u.dropper) (xid_is_changed tables look.session.snapshot u.creator) is)
    where
      nobody : {P : Type 0} (y : ℕ) → xid_is_changed tables look.session.snapshot y ≡ true → y ≡ 0 → P
      nobody y is none = absurd (false≢true (ap (xid_is_changed tables look.session.snapshot) (sym none) ∙ is))

  pub steady_untold : ((f : ℕ) → f < 32 → is_named_so look.name (f, area.title f) ≡ true → is_changed_for tables look.session.snapshot (area.title f) ≡ false) → changed_since n (schema_writes look.name state.asked) ≡ None
  steady_untold steady =
      sym ((names.chains.tables look.name).changes n (looks.shown.from looks.calm.1))
      ∙ ap (λ ws. newest_since number n (schemas ws)) (names_here committed area look.name)
      ∙ ap (above n) (newest_schemas number chain)
      ∙ late_none number n chain (name_by (λ y. is_some (above n (number y)) ≡ false) committed area.title look.name each)
    where
      each : (f : ℕ) → f < 32 → is_live (area.title f) ≡ true → (area.title f).name ≡ look.name → (is_some (above n (number (area.title f).creator)) ≡ false) × (((area.title f).dropper ≡ 0) ⊎ (is_some (above n (number (area.title f).dropper)) ≡ false))
      each f lt live is_name =
          let u = area.title f in
          let named = named_so area.title look.name f live is_name in
          let old = old_entry f lt named in
          let both = or_parts (xid_is_changed tables look.session.snapshot u.dropper) (xid_is_changed tables look.session.snapshot u.creator) (steady f lt named) in
          (sym (by_number u.creator old.0) ∙ both.1, ⊎_elim (λ z. inl z) (λ old. inr (sym (by_number u.dropper old) ∙ both.0)) old.1)
