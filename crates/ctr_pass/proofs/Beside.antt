-- The cleaner leaves each lock of a session in its table.
use Rattle.std.proofs.Common.{◌≡◌, ◌≢◌, ⊎_elim, inl, ℕ, ℤ, ◌==◌, true, cond, Option, Some, None, refl, sym, ◌∙◌, ap, subst}
use Rattle.std.specs.Prelude.{Bool}
use Rattle.std.proofs.lemmas.Bool.{false≢true, eqb-true}
use Rattle.ctr_disk.specs.declared.disk.Disk.{Ghosts}
use Rattle.ctr_model.specs.declared.state.State.{State}
use Rattle.ctr_model.specs.declared.state.Transaction.{Transaction}
use Rattle.ctr_model.specs.State.{has_name, transaction_of}
use Rattle.ctr_versions.proofs.Keys.{known}
use Rattle.ctr_area.specs.Areas.{Title, Area}
use Rattle.ctr_area.specs.Sound.{IsAmong}
use Rattle.ctr_walk.specs.record_effects_States.{area_in}
use Rattle.ctr_actions.specs.Sites.{Site, site_of}
use Rattle.ctr_actions.specs.Actions.{Action, Reclaims, Reverts, Trims, Cuts, FreesOlder, MakesDead, Unlinks, UnlinksOlder, FreesEntry, Forgets, Owes, site_after}
use Rattle.ctr_actions.specs.Cleaning.{IsCleaning}
use Rattle.ctr_actions.specs.Facts.{HasTable}
use Rattle.ctr_locks.specs.Held.{held_by_session, session_locks}
use Rattle.ctr_locks.specs.Shows.{IsTheSame, ShowsKeyLocks}
use Rattle.ctr_walk.specs.store_Store.{View}
use Rattle.ctr_cleaner.specs.page_turns_Acts.{ActsBy}
use Rattle.ctr_exec.specs.ctr_control.kept_Walk.{Mind}
use Rattle.ctr_exec.specs.ctr_control.kept_Turns.{Start, state_now}
use Rattle.ctr_exec.specs.ctr_control.stops_World.{KeepsWorld}
use Rattle.ctr_exec.specs.ctr_session_world.World.{IsInTable, names_in}
use Rattle.ctr_exec.specs.declared.sessions.Sessions.{Sessions}
use Rattle.ctr_exec.specs.Sessions.{ShowsSessions}
use Rattle.ctr_exec.proofs.ctr_session_world.Alike.{in_table_still}
use Rattle.ctr_exec.proofs.ctr_writing.Tabling.{renamed}
use Rattle.ctr_pass.specs.Beside.{SparesLocked}

-- A title is taken, and has the name that it had.
abbrev IsStill : Title → Title → Type 0
IsStill was now = (was.state ≢ 0 → now.state ≢ 0) × (now.name ≡ was.name)

still_same : (was now : Title) → now ≡ was → IsStill was now
still_same was now same = (λ some none. some (ap (λ (t : Title). t.state) (sym same) ∙ none), ap (λ (t : Title). t.name) same)

-- one entry's title is another, and is still so
still_with : (area : Area) (e f : ℕ) (t : Title) → IsStill (area.title f) t → IsStill (area.title e) (cond (e == f) t (area.title e))
still_with area e f t still = known (e == f)
    (λ yes. subst (λ b. IsStill (area.title e) (cond b t (area.title e))) (sym yes) (subst (λ n. IsStill (area.title n) t) (sym (eqb-true e f yes)) still))
    (λ other. subst (λ b. IsStill (area.title e) (cond b t (area.title e))) (sym other) (still_same (area.title e) (area.title e) refl))

module _ {D : Type 0} (g : Ghosts D) (c : Start) (opened : D) (a b : View D) (h : Sessions) (w : Mind) (before : ShowsSessions g c opened a h w) (keeps : KeepsWorld g c opened b w) where
  abbrev state : State
  state = state_now c w

  -- who counts on a title finds it
  found : (r e : ℕ) (title : Title) (u : Transaction) → transaction_of state r ≡ Some u → IsAmong (HasTable e title) (w.facts r) → (area_in b.now).title e ≡ title
  found r e title u is_u in_ =
      let held = keeps.walks.scene.shown.paged.shows.inside r u is_u in
      keeps.walks.scene.carried.held r held.0 (HasTable e title) held.1 in_

  module _ (x : ℕ) (passes : ℕ → Bool) where
    -- an entry whose name is held is still taken, under its name
    held_still : (does : Action) → IsCleaning passes does (site_of a.now) → Owes x does (site_of a.now) → site_of b.now ≡ site_after x does (site_of a.now) → SparesLocked h.locks does
        → (r e : ℕ) (key : ℤ) → session_locks r e key h.locks ≡ true → IsStill ((area_in a.now).title e) ((area_in b.now).title e)
    held_still (Reclaims p) cleans owed leaves spares r e key locked = still_same _ _ (ap (λ (z : Site). z.area.title e) leaves)
    held_still (Reverts f at way) cleans owed leaves spares r e key locked = still_same _ _ (ap (λ (z : Site). z.area.title e) leaves)
    held_still (Trims test f at way) cleans owed leaves spares r e key locked = still_same _ _ (ap (λ (z : Site). z.area.title e) leaves)
    held_still (Cuts test f at q) cleans owed leaves spares r e key locked = still_same _ _ (ap (λ (z : Site). z.area.title e) leaves)
    held_still (FreesOlder f q) cleans owed leaves spares r e key locked = still_same _ _ (ap (λ (z : Site). z.area.title e) leaves)
    held_still (MakesDead test f) cleans owed leaves spares r e key locked =
        subst (IsStill ((area_in a.now).title e)) (sym (ap (λ (z : Site). z.area.title e) leaves))
        (still_with (area_in a.now) e f (record ((area_in a.now).title f) { state = 2 }) (λ some none. absurd cc, refl))
    held_still (Unlinks p f bucket) cleans owed leaves spares r e key locked = still_same _ _ (ap (λ (z : Site). z.area.title e) leaves)
    held_still (UnlinksOlder p f) cleans owed leaves spares r e key locked = still_same _ _ (ap (λ (z : Site). z.area.title e) leaves)
    held_still (FreesEntry f title left) cleans owed leaves spares r e key locked =
        known (e == f)
        (λ yes. absurd (false≢true (sym (spares r key) ∙ subst (λ n. session_locks r n key h.locks ≡ true) (eqb-true e f yes) locked)))
        (λ other. still_same _ _ (ap (λ (z : Site). z.area.title e) leaves ∙ owed.2.titles e ∙ ap (λ t. cond t title ((area_in a.now).title e)) other))
    held_still (Forgets y) cleans owed leaves spares r e key locked = still_same _ _ (ap (λ (z : Site). z.area.title e) leaves)
    held_still does cleans owed leaves spares r e key locked = absurd cleans

    module _ (does : Action) (cleans : IsCleaning passes does (site_of a.now)) (acts : ActsBy x does a.now b.now) (spares : SparesLocked h.locks does) where
      -- each lock is in its table still, and the entry has the name that it had
      lands : (r e : ℕ) (key : ℤ) (u : Transaction) → session_locks r e key h.locks ≡ true → transaction_of state r ≡ Some u → IsInTable b.now e u (w.facts r) × (names_in b.now e ≡ names_in a.now e)
      lands r e key u locked is_u =
          let was = before.world.tables r e key u locked is_u in
          ⊎_elim
          (λ holds.
          let still = held_still does cleans acts.does.owed acts.does.leaves spares r e key locked in
          (record { inside = was.inside; there = still.0 was.there; counted = inl (subst (λ n. has_name n u.holds ≡ true) (sym still.1) holds) }, still.1))
          (λ counts.
          let same = found r e ((area_in a.now).title e) u is_u counts in
          (in_table_still a.now b.now e u u (w.facts r) (w.facts r) same (λ n held. held) (λ in_. in_) was, ap (λ (t : Title). t.name) same))
          was.counted

      -- who has a lock is in a transaction
      holder : (r e : ℕ) (key : ℤ) → session_locks r e key h.locks ≡ true → (p : Transaction) × (transaction_of state r ≡ Some p)
      holder r e key locked = by (transaction_of state r) refl (before.world.locks r)
        where
          by : (o : Option Transaction) → transaction_of state r ≡ o → IsTheSame (names_in a.now) (held_by_session r h.locks) o → (p : Transaction) × (transaction_of state r ≡ Some p)
          by None is same = absurd (false≢true (sym (same.locks e key) ∙ locked))
          by (Some p) is same = (p, is)

      locks_now : ShowsKeyLocks (names_in b.now) h.locks state
      locks_now r = renamed (names_in a.now) (names_in b.now) (held_by_session r h.locks) (transaction_of state r)
          (λ e key locked. let its = holder r e key locked in (lands r e key its.0 locked its.1).1)
          (before.world.locks r)

      pub shows_cleaned : ShowsSessions g c opened b h w
      shows_cleaned = record {
        world = record {
          keeps = keeps;
          run_is = before.world.run_is;
          locks = locks_now;
          tables = λ r e key u locked is_u. (lands r e key u locked is_u).0;
          in_order = before.world.in_order;
        };
        lines = before.lines;
        tape = before.tape;
        stuck = before.stuck;
        each = before.each;
      }
