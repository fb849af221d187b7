-- A table whose drop everyone sees is dead from then on: its name's chain shows the same.
use Rattle.std.proofs.Common.{Bool, List, None, Option, Some, [], ap, arith, cond, false, refl, subst, sym, true, ℕ, ⊎_elim, ◌++◌, ◌<◌, ◌∙◌, ◌∷◌, ◌≡◌, ◌≤◌, ◌⊎◌}
use Rattle.std.specs.List.{AllByRecursion, filter}
use Rattle.std.specs.Option.{option_or}
use Rattle.std.specs.Prelude.{is_some, ◌&&◌}
use Rattle.std.proofs.lemmas.Bool.{cases_eq, false≢true, ne_eqb, true≢false}
use Rattle.ctr_record_laws.specs.model_State.{same_name}
use Rattle.ctr_snap.specs.Seeing.{has, sees}
use Rattle.ctr_record_laws.specs.versions_Chains.{Numbers, above, by, is_by, newest, newest_since, value_seen, written_by}
use Rattle.ctr_record_laws.specs.versions_Changes.{IsOld}
use Rattle.ctr_record_laws.specs.versions_Undoing.{ShowsTheSame, writers}
use Rattle.ctr_record_laws.specs.versions_Versions.{Made, NamesSet, names_at}
use Rattle.ctr_record_laws.proofs.versions_Chains.{not_above}
use Rattle.ctr_record_laws.proofs.versions_Changes.{seen_old}
use Rattle.ctr_record_laws.proofs.versions_Undoing.{among_writers}
use Rattle.ctr_record_laws.specs.meta_Tables.{Tables}
use Rattle.ctr_record_laws.specs.area_Areas.{Area, Title}
use Rattle.ctr_record_laws.specs.area_Changes.{with_title}
use Rattle.ctr_record_laws.specs.area_Images.{Numbered, all_put_first, is_committed_in, is_live, is_named_so, made_by_entry, name_chain, name_versions, newest_first, put_first, versions_by_entry, versions_in}
use Rattle.ctr_record_laws.specs.area_Sound.{IsSoundArea}
use Rattle.ctr_record_laws.specs.Owed.{AgreeOnCommits, OwedByDying}
use Rattle.ctr_record_laws.proofs.Entry.{dying_sound}
use Rattle.ctr_record_laws.proofs.Latest.{by_title, title_apart, title_here}
use Rattle.ctr_names.specs.Shape.{below_in}
use Rattle.ctr_names.proofs.Catalog.{apart_names, title_set}
use Rattle.ctr_names.proofs.Chains.{Version, by_kind, chain_listed, chain_makers, dropped_versions, entries_in, name_by, newest_put, own_versions, seen_maker, shown_by, shows_more, written_maker, written_put}
use Rattle.ctr_names.proofs.Entries.{named_so, numbered}
use Rattle.ctr_names.proofs.Names.{names_here}
use Rattle.ctr_names.proofs.Past.{DifferInPast, drop_some, is_past, left_out_past, past_gone}
use Rattle.ctr_names.proofs.Ranked.{nobody_seen}
use Rattle.ctr_names.proofs.Whole.{chain_behind}

-- ---- what stands in front shows the same, whatever stands behind

module _ (number : Numbers) where
  above_or : (n : ℕ) (a b c : Option ℕ) → above n b ≡ above n c → above n (option_or a b) ≡ above n (option_or a c)
  above_or n (Some k) b c is = refl
  above_or n None b c is = is

  newest_all : (n : ℕ) (vs ws us : List Version) → above n (newest number ws) ≡ above n (newest number us) → above n (newest number (all_put_first vs ws)) ≡ above n (newest number (all_put_first vs us))
  newest_all n [] ws us is = is
  newest_all n (v ∷ vs) ws us is =
      ap (above n) (newest_put number v (all_put_first vs ws)) ∙ above_or n (number v.0) (newest number (all_put_first vs ws)) (newest number (all_put_first vs us)) (newest_all n vs ws us is)
      ∙ sym (ap (above n) (newest_put number v (all_put_first vs us)))

  newest_front : (n : ℕ) (front some all : List Numbered) → above n (newest number (name_versions some)) ≡ above n (newest number (name_versions all)) → above n (newest number (name_versions (front ++ some))) ≡ above n (newest number (name_versions (front ++ all)))
  newest_front n [] some all is = is
  newest_front n (f ∷ front) some all is = newest_all n (versions_by_entry f) (name_versions (front ++ some)) (name_versions (front ++ all)) (newest_front n front some all is)

seen_front : (sees : ℕ → Bool) → sees 0 ≡ false → (front some all : List Numbered) → value_seen sees (name_versions some) ≡ value_seen sees (name_versions all) → value_seen sees (name_versions (front ++ some)) ≡ value_seen sees (name_versions (front ++ all))
seen_front sees nobody [] some all is = is
seen_front sees nobody (f ∷ front) some all is =
    shows_more sees nobody f (front ++ some) ∙ ap (shown_by sees nobody f) (seen_front sees nobody front some all is) ∙ sym (shows_more sees nobody f (front ++ all))

-- an entry has a version in front
written_front : (me : ℕ) (f : Numbered) (ws us : List Version) → written_by me (all_put_first (versions_by_entry f) ws) ≡ written_by me (all_put_first (versions_by_entry f) us)
written_front me f ws us = by_kind (λ vs. written_by me (all_put_first vs ws) ≡ written_by me (all_put_first vs us)) f
    (λ none. same (f.1.creator, Some (made_by_entry f)) ws us)
    (λ some own. same (f.1.dropper, None) ws us)
    (λ some apart. same (f.1.dropper, None) (put_first (f.1.creator, Some (made_by_entry f)) ws) (put_first (f.1.creator, Some (made_by_entry f)) us))
  where
    same : (v : Version) (ws us : List Version) → written_by me (put_first v ws) ≡ written_by me (put_first v us)
    same v ws us = written_put me v ws ∙ sym (written_put me v us)

-- the chain of its name alone changes
pub dying_set : (tables : Tables) (area : Area) (e : ℕ) → is_live (area.title e) ≡ true → NamesSet (versions_in (is_committed_in tables) area) (versions_in (is_committed_in tables) (with_title e (record (area.title e) { state = 2 }) area)) (area.title e).name
    (names_at (versions_in (is_committed_in tables) (with_title e (record (area.title e) { state = 2 }) area)) (area.title e).name)
dying_set tables area e alive =
    let u : Title = record (area.title e) { state = 2 } in
    let name = (area.title e).name in
    subst (NamesSet (versions_in (is_committed_in tables) area) (versions_in (is_committed_in tables) (with_title e u area)) name) (sym (names_here (is_committed_in tables) (with_title e u area) name))
    (title_set (is_committed_in tables) area e u name (name_chain (is_committed_in tables) (with_title e u area).title name) refl (apart_names area.title name e u refl refl))

-- ---- the law

module _ (counted low mark e : ℕ) (tables : Tables) (area : Area) (number : Numbers) (at_work : ℕ → Type 0) (sound : IsSoundArea counted tables area) (some : 0 < tables.next) (agree : AgreeOnCommits number tables)
    (old : IsOld number low (below_in tables mark)) (owed : OwedByDying (below_in tables mark) tables area e) where
  abbrev committed : ℕ → Bool
  committed = is_committed_in tables

  abbrev name : List ℕ
  name = (area.title e).name

  abbrev u : Title
  u = record (area.title e) { state = 2 }

  abbrev after : Area
  after = with_title e u area

  abbrev chain : List Version
  chain = name_chain committed after.title name

  abbrev chain_was : List Version
  chain_was = name_chain committed area.title name

  abbrev maker : Made → ℕ
  maker m = (area.title m.id).creator

  sound_now : IsSoundArea counted tables after
  sound_now = dying_sound counted tables area e sound (below_in tables mark) owed

  maker_same : (m : Made) → (after.title m.id).creator ≡ (area.title m.id).creator
  maker_same m = by_title area e u (λ f v. v.creator ≡ (area.title f).creator) refl (λ f apart. refl) m.id

  entry_was : (f : ℕ) → is_live (after.title f) ≡ true → after.title f ≡ area.title f
  entry_was f alive = ⊎_elim
      (λ is. absurd (true≢false (sym alive ∙ ap (λ g. is_live (after.title g)) is ∙ ap is_live (title_here area e u))))
      (title_apart area e u f) (cases_eq f e)

  named_was : (f : ℕ) → is_live (after.title f) ≡ true → (after.title f).name ≡ name → is_named_so name (f, area.title f) ≡ true
  named_was f alive is = ap (λ (v : Title). is_named_so name (f, v)) (sym (entry_was f alive)) ∙ named_so after.title name f alive is

  dead : is_named_so name (e, after.title e) ≡ false
  dead = ap (λ (v : Title). is_live v && same_name name v.name) (title_here area e u)

  differ : DifferInPast committed refl mark (newest_first committed (filter (is_named_so name) (numbered after.title 0 32))) (newest_first committed (filter (is_named_so name) (numbered area.title 0 32)))
  differ = left_out_past committed refl mark name e area.title after.title (title_apart area e u) dead (named_so area.title name e owed.live refl) owed.dropped 0 32

  chain_is : chain ≡ name_versions (differ.front ++ differ.some)
  chain_is = chain_listed committed after.title name ∙ ap name_versions differ.less_is

  was_is : chain_was ≡ name_versions (differ.front ++ differ.all)
  was_is = chain_listed committed area.title name ∙ ap name_versions differ.more_is

  abbrev ArePast : List Numbered → Type 0
  ArePast es = AllByRecursion (λ f. is_past committed refl mark f ≡ true) es

  past_none : (j : ℕ) → low ≤ j → (es : List Numbered) → ArePast es → value_seen (by number j) (name_versions es) ≡ None
  past_none j le [] all = refl
  past_none j le (f ∷ es) all = shows_more (by number j) nobody f es ∙ ap (λ b. cond b None (cond (by number j f.1.creator) (Some (made_by_entry f)) (value_seen (by number j) (name_versions es)))) (seen_old number low (below_in tables mark) old f.1.dropper j all.0 le)
    where
      nobody : by number j 0 ≡ false
      nobody = nobody_seen number tables agree j

  same_value : (j : ℕ) → low ≤ j → value_seen (by number j) chain ≡ value_seen (by number j) chain_was
  same_value j le = ap (value_seen (by number j)) chain_is
      ∙ seen_front (by number j) (nobody_seen number tables agree j) differ.front differ.some differ.all (past_none j le differ.some differ.some_past ∙ sym (past_none j le differ.all differ.all_past))
      ∙ sym (ap (value_seen (by number j)) was_is)

  -- a past entry's first version is its drop
  drop_first : (f : Numbered) → is_past committed refl mark f ≡ true → (rest : List Version) × (versions_by_entry f ≡ (f.1.dropper, None) ∷ rest)
  drop_first f past =
      let some = drop_some committed refl mark f.1.dropper (past_gone committed refl mark f past) in
      ⊎_elim (λ own. ([], own_versions f some own)) (λ apart. ((f.1.creator, Some (made_by_entry f)) ∷ [], dropped_versions f some apart)) (cases_eq f.1.dropper f.1.creator)

  past_newest : (n : ℕ) → low ≤ n → (es : List Numbered) → ArePast es → above n (newest number (name_versions es)) ≡ None
  past_newest n le [] all = refl
  past_newest n le (f ∷ es) all =
      let its = drop_first f all.0 in
      let known_number = old f.1.dropper all.0 in
      ap (λ vs. above n (newest number (all_put_first vs (name_versions es)))) its.1 ∙ ap (above n) (newest_put number (f.1.dropper, None) (all_put_first its.0 (name_versions es)))
      ∙ ap (λ o. above n (option_or o (newest number (all_put_first its.0 (name_versions es))))) known_number.1 ∙ not_above known_number.0 n (further known_number.0 known_number.2)
    where
      further : (k : ℕ) → k ≤ low → k ≤ n
      further k lt = omega (arith, lt, le)

  same_newest : (n : ℕ) → low ≤ n → newest_since number n chain ≡ newest_since number n chain_was
  same_newest n le = ap (newest_since number n) chain_is
      ∙ newest_front number n differ.front differ.some differ.all (past_newest n le differ.some differ.some_past ∙ sym (past_newest n le differ.all differ.all_past))
      ∙ sym (ap (newest_since number n) was_is)

  past_written : (me : ℕ) → number me ≡ None → (es : List Numbered) → ArePast es → written_by me (name_versions es) ≡ None
  past_written me none [] all = refl
  past_written me none (f ∷ es) all =
      let its = drop_first f all.0 in
      ap (λ vs. written_by me (all_put_first vs (name_versions es))) its.1 ∙ written_put me (f.1.dropper, None) (all_put_first its.0 (name_versions es))
      ∙ ap (λ b. cond b (Some None) None) (ne_eqb me f.1.dropper (λ is. false≢true (ap is_some (sym none ∙ ap number is ∙ (old f.1.dropper all.0).1))))

  same_head : (me : ℕ) → number me ≡ None → written_by me chain ≡ written_by me chain_was
  same_head me none = ap (written_by me) chain_is ∙ by_front differ.front ∙ sym (ap (written_by me) was_is)
    where
      by_front : (front : List Numbered) → written_by me (name_versions (front ++ differ.some)) ≡ written_by me (name_versions (front ++ differ.all))
      by_front [] = past_written me none differ.some differ.some_past ∙ sym (past_written me none differ.all differ.all_past)
      by_front (f ∷ front) = written_front me f (name_versions (front ++ differ.some)) (name_versions (front ++ differ.all))

  pub dying_same : ShowsTheSame low number at_work (names_at (versions_in committed area) name) (names_at (versions_in committed after) name)
  dying_same = subst (λ ws. ShowsTheSame low number at_work ws (names_at (versions_in committed after) name)) (sym (names_here committed area name))
      (subst (ShowsTheSame low number at_work chain_was) (sym (names_here committed after name)) (record {
        seen = same_value;
        since = same_newest;
        behind = chain_behind counted tables after sound_now some number agree name;
        writers = name_by (λ y. has y (writers chain_was) ≡ true) committed after.title name (λ f lt alive is. let was = entry_was f alive in
            subst (λ (v : Title). (has v.creator (writers chain_was) ≡ true) × ((v.dropper ≡ 0) ⊎ (has v.dropper (writers chain_was) ≡ true))) (sym was)
            (entries_in (λ y. has y (writers chain_was) ≡ true) committed area.title name (among_writers (writers chain_was) chain_was (λ y is. is)) f lt (named_was f alive is)));
        heads = λ me working none. same_head me none;
        fresh = λ me j m working none mine seen. absurd (false≢true (sym (ap (is_by j) none) ∙ ap (by number j) (written_maker maker me chain_was m (chain_makers committed area.title name) mine)
            ∙ ap (by number j) (sym (maker_same m)) ∙ seen_maker (λ m. (after.title m.id).creator) (by number j) chain m (chain_makers committed after.title name) seen));
      }))
