-- What a session finds in the catalog is what the chain of the name shows it, with its own changes.
use Rattle.std.proofs.Common.{Bool, List, None, Option, Some, [], ap, arith, cond, false, inl, inr, not, refl, subst, suc, sym, true, zero, ℕ, ⊎_elim, ◌<◌, ◌==◌, ◌∙◌, ◌∷◌, ◌≡◌, ◌⊎◌}
use Rattle.std.specs.List.{AllByRecursion}
use Rattle.std.specs.Option.{option_map}
use Rattle.std.specs.Prelude.{is_some, unwrap_or, ◌&&◌, ◌||◌}
use Rattle.std.proofs.lemmas.Bool.{and_parts, cases_eq, cases_lt, eq-eqb, false≢true, le-leb, ne_eqb, not-true, or_left}
use Rattle.ctr_record_laws.specs.model_State.{view}
use Rattle.ctr_record_laws.specs.model_declared_state_State.{State}
use Rattle.ctr_snap.specs.Seeing.{sees}
use Rattle.ctr_record_laws.specs.versions_Chains.{AllTold, IsChangeTold, Numbers, by, changed_since, is_by, value_seen}
use Rattle.ctr_record_laws.specs.versions_Engine.{IsSeenIfOld, session_sees}
use Rattle.ctr_record_laws.specs.versions_Keys.{schema_named, schema_writes}
use Rattle.ctr_record_laws.specs.versions_Versions.{Made, names_at, rows_of, schemas}
use Rattle.ctr_record_laws.specs.versions_Xids.{Xids, fate_of, number_of}
use Rattle.ctr_record_laws.proofs.versions_Chains.{seen_alike}
use Rattle.ctr_record_laws.proofs.versions_Engine.{session_alike}
use Rattle.ctr_record_laws.proofs.versions_Keys.{known}
use Rattle.ctr_record_laws.proofs.versions_Reading.{schema_read}
use Rattle.ctr_record_laws.proofs.versions_Versions.{view_shown}
use Rattle.ctr_record_laws.proofs.versions_Xids.{number_committed, sees_is}
use Rattle.ctr_record_laws.specs.meta_Tables.{Tables}
use Rattle.ctr_record_laws.specs.area_Areas.{Area, Title}
use Rattle.ctr_record_laws.specs.area_Images.{is_committed_in, is_live, is_named_so, is_standing, made_by_entry, name_chain, versions_in}
use Rattle.ctr_record_laws.specs.area_Sound.{IsAmong, IsSchemaItem, IsSoundArea, stands_for, xids_in}
use Rattle.ctr_record_laws.specs.Bounds.{IsInBounds}
use Rattle.ctr_record_laws.specs.Owed.{AgreeOnCommits, IsNameFreeFor}
use Rattle.ctr_record_laws.proofs.Latest.{live_some}
use Rattle.ctr_names.specs.Search.{IsLooking, Looker, ShowsNames, finds}
use Rattle.ctr_names.proofs.Chains.{AreAllBy, Version, entries_in, name_by, seen-merged}
use Rattle.ctr_names.proofs.Entries.{name_of, named_so}
use Rattle.ctr_names.proofs.Fates.{agrees}
use Rattle.ctr_names.proofs.Front.{in_front, others_behind, stands_undropped, undropped_for, x_zero}
use Rattle.ctr_names.proofs.Names.{names_here}
use Rattle.ctr_names.proofs.Owner.{owner, shape}
use Rattle.ctr_names.proofs.Ranked.{found_shows, nobody_seen, none_shows, told_entry, within_catalog}
use Rattle.ctr_names.proofs.Shape.{dropped_shape, settled_of}

module _ (counted low : ℕ) (tables : Tables) (area : Area) (xids : Xids) (state : State) (look : Looker) (sound : IsSoundArea counted tables area) (bounds : IsInBounds area) (names : ShowsNames low tables area xids state) (looks : IsLooking low tables area xids state look) where
  abbrev committed : ℕ → Bool
  committed = is_committed_in tables

  abbrev number : Numbers
  number = number_of xids

  agree : AgreeOnCommits number tables
  agree = agrees tables xids names.xids_are

  abbrev me : ℕ
  me = look.session.me

  abbrev name : List ℕ
  name = look.name

  abbrev n : ℕ
  n = look.t.snapshot

  abbrev chain : List Version
  chain = name_chain committed area.title name

  -- what the session sees of a transaction
  abbrev seen : ℕ → Bool
  seen = session_sees xids look.session

  abbrev IfOld : ℕ → Type 0
  IfOld = IsSeenIfOld xids look.session.snapshot

  me_none : number me ≡ None
  me_none = (looks.shown.wrote looks.calm).is_open

  me_open : committed me ≡ false
  me_open = sym (agree me) ∙ ap is_some me_none

  not_me : (y : ℕ) → committed y ≡ true → y ≡ me → ⊥
  not_me y c same = false≢true (sym me_open ∙ ap committed (sym same) ∙ c)

  seen_own : (y : ℕ) → y ≡ me → seen y ≡ true
  seen_own y is = or_left (y == me) (sees look.session.snapshot (fate_of xids y) y) (eq-eqb y me is)

  -- another one is seen by its number, or was committed before the run
  seen_other : (y : ℕ) → (y ≡ me → ⊥) → IfOld y → seen y ≡ by number n y
  seen_other y apart if_old = ap (λ b. b || sees look.session.snapshot (fate_of xids y) y) (ne_eqb y me apart) ∙ of_number (number y) refl
    where
      never : (k : ℕ) → suc k ≡ 0 → ⊥
      never k is = omega (arith, is)

      of_number : (o : Option ℕ) → number y ≡ o → sees look.session.snapshot (fate_of xids y) y ≡ by number n y
      of_number None none = looks.shown.snapshot.sees_by y (λ old. false≢true (ap is_some (sym none ∙ old)))
      of_number (Some zero) old = sees_is xids look.session.snapshot y ∙ (λ i. number_committed xids y zero old i && if_old old i) ∙ sym (ap (is_by n) old ∙ le-leb 0 n (omega arith))
      of_number (Some (suc k)) new = looks.shown.snapshot.sees_by y (λ old. never k (ap (λ (o : Option ℕ). unwrap_or o 0) (sym new ∙ old)))

  old_chain : AreAllBy IfOld chain
  old_chain = subst (AreAllBy IfOld) (names_here committed area name) (looks.shown.old.names name)

  old_entry : (f : ℕ) → f < 32 → is_named_so name (f, area.title f) ≡ true → IfOld (area.title f).creator × (((area.title f).dropper ≡ 0) ⊎ IfOld (area.title f).dropper)
  old_entry = entries_in IfOld committed area.title name old_chain

  -- where an entry is found: who made it is seen, and who dropped it, if anybody, isn't
  found_parts : (u : Title) → is_standing (finds xids look.session) u ≡ true → (is_live u ≡ true) × (seen u.creator ≡ true) × ((u.dropper ≡ 0) ⊎ (seen u.dropper ≡ false))
  found_parts u is =
      let one = and_parts (is_live u) (finds xids look.session u.creator && not (finds xids look.session u.dropper)) is in
      let two = and_parts (finds xids look.session u.creator) (not (finds xids look.session u.dropper)) one.1 in (
        one.0,
        (and_parts (not (u.creator == 0)) (seen u.creator) two.0).1,
        ⊎_elim (λ none. inl none) (λ some. inr (sym (ap (λ b. not b && seen u.dropper) (ne_eqb u.dropper 0 some)) ∙ not-true (finds xids look.session u.dropper) two.1)) (cases_eq u.dropper 0),
      )

  -- a live one that isn't found, but whose maker is seen, was dropped by one that is
  missed_parts : (u : Title) → is_live u ≡ true → is_standing (finds xids look.session) u ≡ false → (u.creator ≡ 0 → ⊥) → seen u.creator ≡ true → (u.dropper ≡ 0 → ⊥) × (seen u.dropper ≡ true)
  missed_parts u alive isnt some seen_maker =
      let maker : finds xids look.session u.creator ≡ true = (λ i. not (ne_eqb u.creator 0 some i) && seen_maker i) in
      let dropper : finds xids look.session u.dropper ≡ true = known (finds xids look.session u.dropper) (λ is. is) (λ unseen. absurd (false≢true (sym isnt ∙ (λ i. alive i && (maker i && not (unseen i)))))) in
      let its = and_parts (not (u.dropper == 0)) (seen u.dropper) dropper in
      ((λ none. false≢true (sym (ap not (eq-eqb u.dropper 0 none)) ∙ its.0)), its.1)

  -- who made a live entry isn't nobody
  maker_some : (f : ℕ) → f < 32 → is_live (area.title f) ≡ true → (area.title f).creator ≡ 0 → ⊥
  maker_some f lt alive none = ⊎_elim
      (λ c. false≢true (ap committed (sym none) ∙ c))
      (λ its. not_zero (area.title f).creator (live_some counted tables area sound (area.title f).creator its.0) none) (sound.names.creators f lt alive)
    where
      not_zero : (y : ℕ) → 0 < y → y ≡ 0 → ⊥
      not_zero y lt none = omega (arith, lt, none)

  -- ---- where the session has neither made nor dropped a table of the name, it sees what its snapshot's number shows

  module _ (none : (g : ℕ) → IsSchemaItem me g tables.items → (area.title g).name ≡ name → ⊥) where
    apart_entry : (g : ℕ) → g < 32 → is_live (area.title g) ≡ true → (area.title g).name ≡ name → ((area.title g).creator ≡ me → ⊥) × (((area.title g).dropper ≡ 0) ⊎ ((area.title g).dropper ≡ me → ⊥))
    apart_entry g lt live is = (
      ⊎_elim (not_me (area.title g).creator) (λ its same. none g (subst (λ y. IsSchemaItem y g tables.items) same (inl its.1)) is) (sound.names.creators g lt live),
      ⊎_elim (λ z. inl z) (λ more. inr (⊎_elim (not_me (area.title g).dropper) (λ its same. none g (subst (λ y. IsSchemaItem y g tables.items) same (inr its.1)) is) more)) (sound.names.droppers g lt live),
    )

    alike : (ws : List Version) → AreAllBy (λ y. y ≡ me → ⊥) ws → AreAllBy IfOld ws → AllByRecursion (λ (v : Version). seen v.0 ≡ by number n v.0) ws
    alike [] apart old = tt
    alike (w ∷ ws) apart old = (seen_other w.0 apart.0 old.0, alike ws apart.1 old.1)

    seen_at : value_seen seen chain ≡ value_seen (by number n) chain
    seen_at = seen_alike (by number n) seen chain (alike chain (name_by (λ y. y ≡ me → ⊥) committed area.title name apart_entry) old_chain)

    maker_same : (f : ℕ) → f < 32 → is_named_so name (f, area.title f) ≡ true → seen (area.title f).creator ≡ by number n (area.title f).creator
    maker_same f lt named = let its = name_of area.title name f named in seen_other (area.title f).creator (apart_entry f lt its.0 its.1).0 (old_entry f lt named).0

    dropper_same : (f : ℕ) → f < 32 → is_named_so name (f, area.title f) ≡ true → ((area.title f).dropper ≡ 0) ⊎ (seen (area.title f).dropper ≡ by number n (area.title f).dropper)
    dropper_same f lt named =
        let its = name_of area.title name f named in
        ⊎_elim (λ z. inl z) (λ apart. ⊎_elim (λ z. inl z) (λ old. inr (seen_other (area.title f).dropper apart old)) (old_entry f lt named).1) (apart_entry f lt its.0 its.1).1

    nobody_by : by number n 0 ≡ false
    nobody_by = nobody_seen number tables agree n

    others_found : (f : ℕ) → f < 32 → is_named_so name (f, area.title f) ≡ true → is_standing (finds xids look.session) (area.title f) ≡ true → value_seen seen chain ≡ Some (made_by_entry (f, area.title f))
    others_found f lt named found = seen_at ∙ found_shows low tables area number agree names.one n (looks.shown.from looks.calm.1) name f lt named stands
      where
        its : (is_live (area.title f) ≡ true) × (seen (area.title f).creator ≡ true) × (((area.title f).dropper ≡ 0) ⊎ (seen (area.title f).dropper ≡ false))
        its = found_parts (area.title f) found

        unseen : by number n (area.title f).dropper ≡ false
        unseen = ⊎_elim (λ z. ap (by number n) z ∙ nobody_by) (λ isnt. ⊎_elim (λ z. ap (by number n) z ∙ nobody_by) (λ same. sym same ∙ isnt) (dropper_same f lt named)) its.2

        stands : is_standing (by number n) (area.title f) ≡ true
        stands = λ i. its.0 i && ((sym (maker_same f lt named) ∙ its.1) i && not (unseen i))

    others_none : ((f : ℕ) → f < 32 → is_named_so name (f, area.title f) ≡ true → is_standing (finds xids look.session) (area.title f) ≡ false) → value_seen seen chain ≡ None
    others_none missed = seen_at ∙ none_shows low tables area number agree names.one n (looks.shown.from looks.calm.1) name
        (λ f lt named. known (is_standing (by number n) (area.title f)) (λ stands. absurd (never f lt named stands)) (λ isnt. isnt))
      where
        never : (f : ℕ) → f < 32 → is_named_so name (f, area.title f) ≡ true → is_standing (by number n) (area.title f) ≡ true → ⊥
        never f lt named stands =
            let alive = (name_of area.title name f named).0 in
            let parts = and_parts (by number n (area.title f).creator) (not (by number n (area.title f).dropper)) (and_parts (is_live (area.title f)) (by number n (area.title f).creator && not (by number n (area.title f).dropper)) stands).1 in
            let gone = missed_parts (area.title f) alive (missed f lt named) (maker_some f lt alive) (maker_same f lt named ∙ parts.0) in
            ⊎_elim gone.0 (λ same. false≢true (sym (not-true (by number n (area.title f).dropper) parts.1) ∙ sym same ∙ gone.1)) (dropper_same f lt named)

  -- ---- where nobody else has the name, and nobody has changed it since the snapshot

  module _ (mine : IsNameFreeFor me tables.items area.title name) (quiet : changed_since n (schema_writes name state.asked) ≡ None) where
    told : AllTold number n (schema_writes name state.asked) (schemas chain)
    told = subst (λ ws. AllTold number n (schema_writes name state.asked) (schemas ws)) (names_here committed area name) ((names.chains.tables name).told n (looks.shown.from looks.calm.1))

    -- who is told of the name is within the snapshot
    within : (y : ℕ) → IsChangeTold number n (schema_writes name state.asked) y → committed y ≡ true → by number n y ≡ true
    within y is c = elim (number y) as (λ o. number y ≡ o → by number n y ≡ true) [
      | None ↦ λ none. absurd (false≢true (ap is_some (sym none) ∙ agree y ∙ c))
      | Some k ↦ λ some. ap (is_by n) some ∙ le-leb k n (⊎_elim (λ above_. absurd (false≢true (ap is_some (sym quiet) ∙ is k some above_))) (λ le. le) (cases_lt n k))
    ] refl

    seen_committed : (y : ℕ) → IfOld y → IsChangeTold number n (schema_writes name state.asked) y → committed y ≡ true → seen y ≡ true
    seen_committed y old is c = seen_other y (not_me y c) old ∙ within y is c

    seen_maker : (f : ℕ) → f < 32 → is_named_so name (f, area.title f) ≡ true → seen (area.title f).creator ≡ true
    seen_maker f lt named =
        let its = name_of area.title name f named in
        ⊎_elim
        (seen_committed (area.title f).creator (old_entry f lt named).0 (told_entry number n (schema_writes name state.asked) committed area.title name told f lt named).0)
        (λ made. seen_own (area.title f).creator (mine (area.title f).creator f (inl made.1) its.1))
        (sound.names.creators f lt its.0)

    seen_dropper : (f : ℕ) → f < 32 → is_named_so name (f, area.title f) ≡ true → ((area.title f).dropper ≡ 0) ⊎ (seen (area.title f).dropper ≡ true)
    seen_dropper f lt named =
        let its = name_of area.title name f named in
        ⊎_elim (λ z. inl z)
        (λ more. ⊎_elim
        (λ c. ⊎_elim (λ z. inl z) (λ old. ⊎_elim (λ z. inl z) (λ is. inr (seen_committed (area.title f).dropper old is c)) (told_entry number n (schema_writes name state.asked) committed area.title name told f lt named).1) (old_entry f lt named).1)
        (λ drop. inr (seen_own (area.title f).dropper (mine (area.title f).dropper f (inr drop.1) its.1))) more)
        (sound.names.droppers f lt its.0)

    -- Nobody has dropped an entry that is found, and one that nobody has dropped is found.
    pub found_undropped : (f : ℕ) → f < 32 → is_named_so name (f, area.title f) ≡ true → is_standing (finds xids look.session) (area.title f) ≡ true → (area.title f).dropper ≡ 0
    found_undropped f lt named found = ⊎_elim (λ z. z)
        (λ unseen. ⊎_elim (λ z. z) (λ is. absurd (false≢true (sym unseen ∙ is))) (seen_dropper f lt named))
        (found_parts (area.title f) found).2

    pub undropped_found : (f : ℕ) → f < 32 → is_named_so name (f, area.title f) ≡ true → (area.title f).dropper ≡ 0 → is_standing (finds xids look.session) (area.title f) ≡ true
    undropped_found f lt named none =
        let alive = (name_of area.title name f named).0 in
        λ i. alive i && ((not (ne_eqb (area.title f).creator 0 (maker_some f lt alive) i) && seen_maker f lt named i) && not (not (eq-eqb (area.title f).dropper 0 none i) && seen (area.title f).dropper))

  -- ---- where the session has made or dropped a table of the name itself

  module _ (g : ℕ) (item : IsSchemaItem me g tables.items) (is_g : (area.title g).name ≡ name) where
    open_now : IsAmong me (xids_in tables.opens)
    open_now = ⊎_elim (λ c. sound.owned.creates me g c) (λ d. sound.owned.drops me g d) item

    own : IsNameFreeFor me tables.items area.title name
    own y h its is = sound.names.of_one y me h g its item (is ∙ sym is_g)

    me_zero : me ≡ 0 → ⊥
    me_zero = x_zero counted tables area sound me open_now name own

    quiet_since : changed_since n (schema_writes name state.asked) ≡ None
    quiet_since = looks.firm g item is_g

    own_found : (f : ℕ) → f < 32 → is_named_so name (f, area.title f) ≡ true → is_standing (finds xids look.session) (area.title f) ≡ true → value_seen seen chain ≡ Some (made_by_entry (f, area.title f))
    own_found f lt named found =
        let its = name_of area.title name f named in
        let stands = stands_undropped counted tables area sound me open_now name own f lt its.0 its.1 (found_undropped own quiet_since f lt named found) in
        let behind = others_behind counted tables area sound me open_now name own f lt its.0 its.1 stands in
        ap (value_seen seen) (in_front counted tables area sound me open_now name own f lt its.0 its.1 stands)
        ∙ seen-merged seen ((area.title f).creator, Some (made_by_entry (f, area.title f))) behind
        ∙ ap (λ b. cond b (Some (made_by_entry (f, area.title f))) (value_seen seen behind)) (found_parts (area.title f) found).1

    -- all that there were are dropped
    own_none : ((f : ℕ) → f < 32 → is_named_so name (f, area.title f) ≡ true → is_standing (finds xids look.session) (area.title f) ≡ false) → value_seen seen chain ≡ None
    own_none missed = ap (value_seen seen) chain_is ∙ ap (λ b. cond b None (value_seen seen settled_rest)) (seen_own me refl)
      where
        settled_rest : List Version
        settled_rest = settled_of committed refl area.title name

        all_dropped : (f : ℕ) → f < 32 → is_named_so name (f, area.title f) ≡ true → committed (area.title f).dropper ≡ false → (area.title f).dropper ≡ me
        all_dropped f lt named stays =
            let its = name_of area.title name f named in
            ⊎_elim (λ z. absurd (false≢true (sym (missed f lt named) ∙ undropped_found own quiet_since f lt named z)))
            (λ more. ⊎_elim (λ c. absurd (false≢true (sym stays ∙ c))) (λ drop. own (area.title f).dropper f (inr drop.1) its.1) more)
            (sound.names.droppers f lt its.0)

        not_quiet : ((f : ℕ) → f < 32 → is_named_so name (f, area.title f) ≡ true → committed (area.title f).dropper ≡ false → (committed (area.title f).creator ≡ true) × ((area.title f).dropper ≡ 0)) → ⊥
        not_quiet still = ⊎_elim
            (λ c. let its = sound.names.creates me g c in
            let stays : committed (area.title g).dropper ≡ false = ⊎_elim (λ z. ap committed z) (λ is. ap committed is ∙ me_open) its.2 in
            not_me (area.title g).creator (still g (within_catalog area bounds g its.0) (named_so area.title name g its.0 is_g) stays).0 its.1)
            (λ d. let its = sound.names.drops me g d in
            me_zero (sym its.1 ∙ (still g (within_catalog area bounds g its.0) (named_so area.title name g its.0 is_g) (ap committed its.1 ∙ me_open)).1)) item

        chain_is : chain ≡ (me, None) ∷ settled_rest
        chain_is = dropped_shape me chain settled_rest settled_rest
            ((f : ℕ) → f < 32 → is_named_so name (f, area.title f) ≡ true → committed (area.title f).dropper ≡ false → (committed (area.title f).creator ≡ true) × ((area.title f).dropper ≡ 0))
            ((f : ℕ) → f < 32 → is_named_so name (f, area.title f) ≡ true → committed (area.title f).dropper ≡ false → (area.title f).dropper ≡ me)
            (shape counted tables area sound name me me_open me_zero own) not_quiet all_dropped refl

  -- ---- both

  whose : (P : Type 0) → ((g : ℕ) → IsSchemaItem me g tables.items → (area.title g).name ≡ name → P) → (((g : ℕ) → IsSchemaItem me g tables.items → (area.title g).name ≡ name → ⊥) → P) → P
  whose P itself others = ⊎_elim
      (λ found. ⊎_elim
      (λ is. itself found.1 (subst (λ y. IsSchemaItem y found.1 tables.items) is found.2) found.3)
      (λ isnt. others (λ g item is_g. isnt (sound.names.of_one found.0 me found.1 g found.2 item (found.3 ∙ sym is_g)))) (cases_eq found.0 me))
      (λ none. others (λ g item is_g. none me g item is_g))
      (owner counted tables area sound name)

  -- A live entry of the name, whose maker the session sees and who dropped it not, is the table that the chain shows it.
  pub sought_shows : (f : ℕ) → f < 32 → is_named_so name (f, area.title f) ≡ true → is_standing (finds xids look.session) (area.title f) ≡ true → value_seen seen (names_at (versions_in committed area) name) ≡ Some (made_by_entry (f, area.title f))
  sought_shows f lt named found = ap (value_seen seen) (names_here committed area name)
      ∙ whose (value_seen seen chain ≡ Some (made_by_entry (f, area.title f))) (λ g item is_g. own_found g item is_g f lt named found) (λ none. others_found none f lt named found)

  -- Where the search finds none, the chain shows none.
  pub sought_none : ((f : ℕ) → f < 32 → is_named_so name (f, area.title f) ≡ true → is_standing (finds xids look.session) (area.title f) ≡ false) → value_seen seen (names_at (versions_in committed area) name) ≡ None
  sought_none missed = ap (value_seen seen) (names_here committed area name)
      ∙ whose (value_seen seen chain ≡ None) (λ g item is_g. own_none g item is_g missed) (λ none. others_none none missed)

  -- ---- in the model's view

  viewed : option_map (λ (m : Made). m.schema) (value_seen seen (names_at (versions_in committed area) name)) ≡ schema_named (view state look.t) name
  viewed = schema_read seen (versions_in committed area) name names.chains.sorted
      ∙ ap (λ db. schema_named db name) (view_shown low number state (versions_in committed area) names.ordered names.chains me n look.t.own (looks.shown.from looks.calm.1) (looks.shown.wrote looks.calm) seen
      (λ other. session_alike xids look.session n looks.shown.snapshot (names_at (versions_in committed area) other) (looks.shown.old.names other))
      (λ id key. session_alike xids look.session n looks.shown.snapshot (rows_of (versions_in committed area) id key) (looks.shown.old.rows id key)))

  -- The view has the table that is found, and none where none is.
  pub found_viewed : (f : ℕ) → f < 32 → is_named_so name (f, area.title f) ≡ true → is_standing (finds xids look.session) (area.title f) ≡ true → schema_named (view state look.t) name ≡ Some (made_by_entry (f, area.title f)).schema
  found_viewed f lt named found = sym viewed ∙ ap (option_map (λ (m : Made). m.schema)) (sought_shows f lt named found)

  pub missed_viewed : ((f : ℕ) → f < 32 → is_named_so name (f, area.title f) ≡ true → is_standing (finds xids look.session) (area.title f) ≡ false) → schema_named (view state look.t) name ≡ None
  missed_viewed missed = sym viewed ∙ ap (option_map (λ (m : Made). m.schema)) (sought_none missed)

  -- Where nobody else has the name, nobody has changed it since the snapshot, and the view has no table of it, no entry
  -- stands for the session's transaction: what a Create owes.
  pub unseen : IsAmong me (xids_in tables.opens) → IsNameFreeFor me tables.items area.title name → changed_since n (schema_writes name state.asked) ≡ None → schema_named (view state look.t) name ≡ None
      → (f : ℕ) → f < 32 → is_live (area.title f) ≡ true → (area.title f).name ≡ name → stands_for committed me (area.title f) ≡ false
  unseen open_ mine quiet none f lt alive is_name = known (stands_for committed me (area.title f))
      (λ stands. let named = named_so area.title name f alive is_name in
      absurd (false≢true (ap is_some (sym none ∙ found_viewed f lt named (undropped_found mine quiet f lt named (undropped_for counted tables area sound me open_ name mine f lt alive is_name stands))))))
      (λ isnt. isnt)
