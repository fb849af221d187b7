use Rattle.std.proofs.Common.{◌≡◌, ◌≢◌, ℕ, ◌+◌, ◌/◌, ◌^◌, ◌<◌, ◌≤◌, inl, [], ◌∷◌, Ok, Err, refl, sym, ◌∙◌, ap, subst, arith}
use Rattle.std.specs.Prelude.{IsTrue, OnOk, ⊤}
use Rattle.ctr_bytes.specs.Fields.{spelled}
use Rattle.ctr_walk.specs.base_Base.{IsSoundImage}
use Rattle.ctr_rec.specs.declared.record.Record.{Record}
use Rattle.ctr_walk.specs.redo_States.{State, step}
use Rattle.ctr_page.specs.declared.checks.Chain.{Chain}
use Rattle.ctr_page.specs.declared.checks.Chain.TheVariants.{Rows, Versions}
use Rattle.ctr_page.specs.declared.header.Header.{Header}
use Rattle.ctr_page.specs.Damage.{header_check, chain_entry}
use Rattle.ctr_page.specs.Reading.{header_in}
use Rattle.ctr_area.specs.Changes.{with_firsts, with_bucket}
use Rattle.ctr_walk.specs.store_Store.{Logs}
use Rattle.ctr_pvs.proofs.Told.{header_here}
use Rattle.ctr_walk.specs.Tables.{IsChain}
use Rattle.ctr_walk.specs.OneRecord.{LogsOne}
use Rattle.ctr_walk.specs.Damage.{damage_told, EndsOnPage, EndsTold}
use Rattle.ctr_walk.proofs.Damages.{told_ends, told_ok, reads_err}
use Rattle.ctr_walk.proofs.Limits.{next_counted}
use Rattle.ctr_walk.proofs.Records.{both_ok, one_behind}
use Rattle.ctr_record_effects.specs.States.{pages_in, area_in, IsWholePage}
use Rattle.ctr_record_effects.specs.Changing.{laid_in_entry}
use Rattle.ctr_record_effects.specs.Standing.{IsDatabaseState}
use Rattle.ctr_alloc.specs.actions_Sites.{site_of}
use Rattle.ctr_alloc.specs.actions_Actions.{Unlinks, UnlinksOlder, Owes, site_after}
use Rattle.ctr_trim.specs.passed_Logged.{IsLaidAs}
use Rattle.ctr_dead.specs.Unlinking.{front_at, leaving_record, leaves_chain, OwedByLeaving, NextPageSaid}
use Rattle.ctr_dead.proofs.Three.{three_ok}
use Rattle.ctr_dead.proofs.Firsts.{first_to_leave, undamaged, leaves_it}
use Rattle.ctr_dead.proofs.unlinking.unlink.Given.{Over}
use Rattle.ctr_dead.proofs.unlinking.unlink.Goals.{After-lay_front}
use Rattle.ctr_dead.proofs.unlinking.unlink.Goals as goal

pub lay_front-requires-clause-small : goal.lay_front-requires-clause-small
lay_front-requires-clause-small g c =
    let most = c.counts_pages.ensures.1 in
    let p = c.requires.counted.0 in
    let small = told_ok (IsTrue g.D.Disk.tells × IsSoundImage g.O.Origin.first) (damage_told g.D.Disk c.tell.new.store) (λ (n : ℕ). n < c.args.store.now.now.counted) c.next_of-found.result (Ok c.in-Ok.next) c.in-Ok.ensures.told c.next_of-found.ensures.small in
    (omega (arith, most, p), omega (arith, most, small))

pub returns-in-Err-clause-one : goal.returns-in-Err-clause-one
returns-in-Err-clause-one g c = inl (reads_err g.O.Origin.first g.D.Disk ℕ ⊤ c.in-Err.fault c.args.store.now c.tell.new.store (c.in-Err.ensures.leaves c.args.store.now c.next_of-found.ensures.leaves))

-- what is told of the page that was to leave
ends_told : (g : Over) (c : goal.In-Err g) → IsTrue g.D.Disk.tells → IsSoundImage g.O.Origin.first
    → EndsTold {T = ℕ} (damage_told g.D.Disk c.tell.new.store) (EndsOnPage c.args.p (NextPageSaid c.args.store.now.now.counted c.args.chain (pages_in c.args.store.now.now c.args.p))) (Err c.in-Err.fault)
ends_told g c told sound =
    let found = c.next_of-found in
    told_ends (damage_told g.D.Disk c.tell.new.store) (EndsOnPage c.args.p (NextPageSaid c.args.store.now.now.counted c.args.chain (pages_in c.args.store.now.now c.args.p))) found.result (Err c.in-Err.fault)
    c.in-Err.ensures.told (told, sound) (found.ensures.leaves.refused told sound) (found.ensures.said told sound)

pub returns-in-Err-clause-ends : goal.returns-in-Err-clause-ends
returns-in-Err-clause-ends g c = λ told sound. inl (ends_told g c told sound)

pub returns-in-Err-clause-refused : goal.returns-in-Err-clause-refused
returns-in-Err-clause-refused g c = λ told sound database owed.
    let s = c.args.store.now.now in
    undamaged (damage_told g.D.Disk c.tell.new.store) c.args.p s.counted c.args.chain (pages_in s c.args.p) c.in-Err.fault (first_to_leave s database c.args.p c.args.chain owed).passes (ends_told g c told sound)

-- the page was read, and its record was given to the log
module _ (g : Over) (c : After-lay_front g) where
  abbrev p : ℕ
  p = c.args.p

  abbrev s : State
  s = c.args.store.now.now

  abbrev t : State
  t = c.lay_front.new.store.now

  abbrev r : Record
  r = leaving_record p c.in-Ok.next c.args.chain

  one : LogsOne {T = ⊤} g.O.Origin.first g.D.Disk r c.args.store.now c.lay_front.new.store c.lay_front.result
  one =
      one_behind g.O.Origin.first g.D.Disk r c.args.store.now c.tell.new.store c.lay_front.new.store c.in-Ok.next (c.in-Ok.ensures.leaves c.args.store.now c.next_of-found.ensures.leaves)
      c.lay_front.result c.lay_front.ensures.one

  module _ (told : IsTrue g.D.Disk.tells) (sound : IsSoundImage g.O.Origin.first) where
    said : (header_check c.args.chain s.counted (pages_in s p) ≡ Ok tt) × (c.in-Ok.next ≡ (header_in (pages_in s p)).next)
    said =
        let found = c.next_of-found in
        told_ends (damage_told g.D.Disk c.tell.new.store) (EndsOnPage p (NextPageSaid s.counted c.args.chain (pages_in s p))) found.result (Ok c.in-Ok.next) c.in-Ok.ensures.told (told, sound)
        (found.ensures.leaves.refused told sound) (found.ensures.said told sound)

    whole : OnOk c.lay_front.result (IsWholePage (1 + chain_entry c.args.chain / 16) s)
    whole = subst (λ (u : State). OnOk c.lay_front.result (IsWholePage (1 + chain_entry c.args.chain / 16) u)) ((c.in-Ok.ensures.leaves c.args.store.now c.next_of-found.ensures.leaves).logs told sound).now (c.lay_front.ensures.whole told sound)

    site : (x : ℕ) → IsDatabaseState s → ((area_in s).title (chain_entry c.args.chain)).state ≢ 0 → 3 ≤ p → OnOk c.lay_front.result (site_of t ≡ site_after x (leaves_chain p c.args.chain) (site_of s))
    site x database used behind =
        both_ok c.lay_front.result (Logs (r ∷ []) c.args.store.now c.lay_front.new.store) (IsWholePage (1 + chain_entry c.args.chain / 16) s) (site_of t ≡ site_after x (leaves_chain p c.args.chain) (site_of s))
        (λ logs page. ap site_of logs.now ∙ by c.args.chain c.requires.counted.1 page used) (one.logs told sound) whole
      where
        header : ((area_in s).header p).next ≡ c.in-Ok.next
        header = ap (λ (h : Header). h.next) (header_here (pages_in s) p behind) ∙ sym said.1

        small : c.in-Ok.next < 256 ^ 4
        small =
            let most = c.counts_pages.ensures.1 in
            let there = c.requires.counted.0 in
            let low = next_counted c.args.chain s.counted (pages_in s p) said.0 (omega (arith, there)) in
            subst (λ n. n < 256 ^ 4) (sym said.1) (omega (arith, most, low))

        by : (chain : Chain) → IsChain chain → IsWholePage (1 + chain_entry chain / 16) s → ((area_in s).title (chain_entry chain)).state ≢ 0
            → site_of (step (leaving_record p c.in-Ok.next chain) s) ≡ site_after x (leaves_chain p chain) (site_of s)
        by (Rows e b) (few, low) page used =
            c.a_logged_record_is_its_action.ensures.leaves x (Unlinks p e b) s (laid_in_entry e (front_at (Rows e b)) (spelled 4 c.in-Ok.next)) refl
            (c.an_unlink_changes_its_chain.ensures.bucket s p c.in-Ok.next e b page few low small used (c.a_table_can_be_linked_to.ensures.parts s e database few page used).1
            ∙ ap (λ (n : ℕ). with_firsts e (with_bucket b n ((area_in s).firsts e)) (area_in s)) (sym header))
        by (Versions e) few page used =
            c.a_logged_record_is_its_action.ensures.leaves x (UnlinksOlder p e) s (laid_in_entry e (front_at (Versions e)) (spelled 4 c.in-Ok.next)) refl
            (c.an_unlink_changes_its_chain.ensures.versions s p c.in-Ok.next e page few small used (c.a_table_can_be_linked_to.ensures.parts s e database few page used).1
            ∙ ap (λ (n : ℕ). with_firsts e (record ((area_in s).firsts e) { versions = n }) (area_in s)) (sym header))

pub returns-in-Ok-clause-one : goal.returns-in-Ok-clause-one
returns-in-Ok-clause-one g c = leaves_it g.O.Origin.first g.D.Disk c.args.p c.in-Ok.next c.args.chain c.args.store.now c.lay_front.new.store c.lay_front.result (one g c) (λ told sound. (said g c told sound).1)

pub returns-in-Ok-clause-leaves : goal.returns-in-Ok-clause-leaves
returns-in-Ok-clause-leaves g c = λ x told sound database used behind. site g c told sound x database used behind

-- the record is laid as the action
laid : (g : Over) (c : After-lay_front g) (told : IsTrue g.D.Disk.tells) (sound : IsSoundImage g.O.Origin.first) → IsDatabaseState (s g c) → (chain : Chain) → OwedByLeaving (s g c).tables (area_in (s g c)) (p g c) chain
    → 3 ≤ p g c → IsWholePage (1 + chain_entry chain / 16) (s g c) → IsLaidAs (leaves_chain (p g c) chain) (leaving_record (p g c) c.in-Ok.next chain) (s g c)
laid g c told sound database (Rows e b) owed behind page =
    let next = ap (λ (h : Header). h.next) (header_here (pages_in (s g c)) (p g c) behind) ∙ sym (said g c told sound).1 in
    subst (λ (n : ℕ). IsLaidAs (Unlinks (p g c) e b) (leaving_record (p g c) n (Rows e b)) (s g c)) next (c.owed_records_are_laid_as_their_actions.ensures.unlinks (s g c) (p g c) e b database owed page)
laid g c told sound database (Versions e) owed behind page =
    let next = ap (λ (h : Header). h.next) (header_here (pages_in (s g c)) (p g c) behind) ∙ sym (said g c told sound).1 in
    subst (λ (n : ℕ). IsLaidAs (UnlinksOlder (p g c) e) (leaving_record (p g c) n (Versions e)) (s g c)) next (c.owed_records_are_laid_as_their_actions.ensures.unlinks_older (s g c) (p g c) e database owed page)

-- what is owed
owes : (x p : ℕ) (u : State) (chain : Chain) → OwedByLeaving u.tables (area_in u) p chain → Owes x (leaves_chain p chain) (site_of u)
owes x p u (Rows e b) owed = owed
owes x p u (Versions e) owed = owed

pub returns-in-Ok-clause-acts : goal.returns-in-Ok-clause-acts
returns-in-Ok-clause-acts g c = λ x told sound database owed.
    let chain = c.args.chain in
    let its = first_to_leave (s g c) database c.args.p chain owed in
    three_ok c.lay_front.result
    (λ logs page is.
    c.a_record_acts.ensures x (leaves_chain c.args.p chain) (r g c) c.args.store.now c.lay_front.new.store logs (owes x c.args.p (s g c) chain owed) is (laid g c told sound database chain owed its.behind page))
    ((one g c).logs told sound) (whole g c told sound) (site g c told sound x database its.used its.behind)
