-- A World over a turn of undo.
use Rattle.std.proofs.Common.{◌≡◌, inl, ℕ, ◌+◌, ◌<◌, ◌≤◌, List, [], ◌∷◌, ◌++◌, refl, sym, ◌∙◌, subst, arith}
use Rattle.std.specs.Prelude.{None}
use Rattle.ctr_rec.specs.declared.record.SlogItem.{SlogItem}
use Rattle.ctr_rec.specs.declared.record.SlogItem.TheVariants.{AllocOf, FreeOf, CreateOf, DropOf}
use Rattle.ctr_model.specs.State.{transaction_of}
use Rattle.ctr_versions.specs.Laws.{IsNoSessions}
use Rattle.ctr_meta.specs.declared.items.Wanted.TheVariants.{Creation, Dropping}
use Rattle.ctr_area.specs.Sound.{IsAmong}
use Rattle.ctr_record_laws.proofs.Members.{among_rest}
use Rattle.ctr_record_laws.specs.Bounds.{IsInBounds}
use Rattle.ctr_actions.specs.Sites.{Site}
use Rattle.ctr_actions.specs.Actions.{Frees, Reclaims, Uncreates, Undrops, Aborts, site_after}
use Rattle.ctr_rollback.specs.paged_Moving.{IsItemOfName}
use Rattle.ctr_rollback.specs.kept_Undo.{IsUndoLeft}
use Rattle.ctr_rollback.specs.kept_Walk.{Mind}
use Rattle.ctr_rollback.specs.kept_Turns.{Start, KeepsRun, state_now, undone_mind, release_entry}
use Rattle.ctr_undo.specs.declared.list.UndoItem.{UndoItem}
use Rattle.ctr_undo.specs.declared.list.UndoItem.TheVariants.{Slog, Orphan}
use Rattle.ctr_undo.specs.Left.{UndoLeft, Goes}
use Rattle.ctr_undo.specs.Turns.{undo_action, undo_actor}
use Rattle.ctr_undo.specs.Keeping.{list_of, undone_to, name_undone, IsNameKept, IsNameReleased, released_to}

-- the laws of a walk over undo's turns
pub record UndoWalks : Type 0 where
  pub taken : (c : Start) (now later x p : ℕ) (site : Site) (w : Mind) (front : List SlogItem) → KeepsRun c now site w → now ≤ later → w.undo.items ≡ front ++ AllocOf x p ∷ []
      → IsInBounds (site_after x (Frees p) site).area → KeepsRun c later (site_after x (Frees p) site) (undone_mind front w)
  pub gone : (c : Start) (now later p : ℕ) (site : Site) (w : Mind) (front : List SlogItem) → KeepsRun c now site w → now ≤ later → w.undo.items ≡ front ++ FreeOf p ∷ []
      → IsInBounds (site_after site.tables.next (Reclaims p) site).area → KeepsRun c later (site_after site.tables.next (Reclaims p) site) (undone_mind front w)
  pub created : (c : Start) (now later x e : ℕ) (site : Site) (w : Mind) (front : List SlogItem) → KeepsRun c now site w → now ≤ later → w.undo.items ≡ front ++ CreateOf x e ∷ []
      → IsInBounds (site_after x (Uncreates e) site).area → (z g : ℕ) → IsItemOfName e (Creation e) site z g → IsNoSessions w.run.sessions z
      → KeepsRun c later (site_after x (Uncreates e) site) (undone_mind front w)
  pub last_created : (c : Start) (now later x e : ℕ) (site : Site) (w : Mind) (front : List SlogItem) → KeepsRun c now site w → now ≤ later → w.undo.items ≡ front ++ CreateOf x e ∷ []
      → IsInBounds (site_after x (Uncreates e) site).area → transaction_of (state_now c w) 0 ≡ None → ((y f : ℕ) → IsItemOfName e (Creation e) site y f → ⊥)
      → KeepsRun c later (site_after x (Uncreates e) site) (record (undone_mind front w) { tape = w.tape ++ release_entry (site.area.title e).name later ∷ [] })
  pub dropped : (c : Start) (now later x e : ℕ) (site : Site) (w : Mind) (front : List SlogItem) → KeepsRun c now site w → now ≤ later → w.undo.items ≡ front ++ DropOf x e ∷ []
      → IsInBounds (site_after x (Undrops e) site).area → (z g : ℕ) → IsItemOfName e (Dropping e) site z g → IsNoSessions w.run.sessions z
      → KeepsRun c later (site_after x (Undrops e) site) (undone_mind front w)
  pub last_dropped : (c : Start) (now later x e : ℕ) (site : Site) (w : Mind) (front : List SlogItem) → KeepsRun c now site w → now ≤ later → w.undo.items ≡ front ++ DropOf x e ∷ []
      → IsInBounds (site_after x (Undrops e) site).area → transaction_of (state_now c w) 0 ≡ None → ((y f : ℕ) → IsItemOfName e (Dropping e) site y f → ⊥)
      → KeepsRun c later (site_after x (Undrops e) site) (record (undone_mind front w) { tape = w.tape ++ release_entry (site.area.title e).name later ∷ [] })
  pub ended : (c : Start) (now later x : ℕ) (site : Site) (w : Mind) (front back : List ℕ) → KeepsRun c now site w → now ≤ later → w.undo.items ≡ [] → w.undo.orphans ≡ front ++ x ∷ back
      → IsInBounds (site_after x Aborts site).area → KeepsRun c later (site_after x Aborts site) (record w { undo = record w.undo { orphans = front ++ back; turns = w.undo.turns + 1 } })

module _ (c : Start) (now later : ℕ) (site : Site) (w : Mind) (v : UndoLeft) (keeps : KeepsRun c now site w) where
  abbrev left : IsUndoLeft site.tables w.run.sessions w.undo
  left = keeps.scene.undo.0

  -- orphans as they are in the list that is left
  abbrev with_orphans : List ℕ → Mind
  with_orphans orphans = record w { undo = record w.undo { items = v.items; orphans = orphans; turns = w.undo.turns + 1 } }

  abbrev at_site : UndoItem → Site
  at_site item = site_after (undo_actor item site.tables) (undo_action item) site

  same_orphans : (z : Site) → v.orphans ≡ w.undo.orphans → KeepsRun c later z (undone_mind v.items w) → KeepsRun c later z (undone_to v w)
  same_orphans z same walks = subst (λ (orphans : List ℕ). KeepsRun c later z (with_orphans orphans)) (sym same) walks

  pub walks_on : UndoWalks → now ≤ later → (item : UndoItem) → Goes item (list_of w) v → IsInBounds (at_site item).area → IsNameKept item site w → KeepsRun c later (at_site item) (undone_to v w)
  walks_on laws le (Slog (AllocOf x p)) goes bounds kept = same_orphans (at_site (Slog (AllocOf x p))) goes.1 (laws.taken c now later x p site w v.items keeps le goes.0 bounds)
  walks_on laws le (Slog (FreeOf p)) goes bounds kept = same_orphans (at_site (Slog (FreeOf p))) goes.1 (laws.gone c now later p site w v.items keeps le goes.0 bounds)
  walks_on laws le (Slog (CreateOf x e)) goes bounds kept = same_orphans (at_site (Slog (CreateOf x e))) goes.1 (laws.created c now later x e site w v.items keeps le goes.0 bounds kept.0 kept.1 kept.2 kept.3)
  walks_on laws le (Slog (DropOf x e)) goes bounds kept = same_orphans (at_site (Slog (DropOf x e))) goes.1 (laws.dropped c now later x e site w v.items keeps le goes.0 bounds kept.0 kept.1 kept.2 kept.3)
  walks_on laws le (Orphan x) goes bounds kept =
      subst (λ (items : List SlogItem). KeepsRun c later (at_site (Orphan x)) (record w { undo = record w.undo { items = items; orphans = v.orphans; turns = w.undo.turns + 1 } })) (goes.0 ∙ sym goes.1)
      (laws.ended c now later x site w [] v.orphans keeps le goes.0 goes.2 bounds)

  released_orphans : (z : Site) (name : List ℕ) → v.orphans ≡ w.undo.orphans → KeepsRun c later z (record (undone_mind v.items w) { tape = w.tape ++ release_entry name later ∷ [] }) → KeepsRun c later z (released_to v name later w)
  released_orphans z name same walks = subst (λ (orphans : List ℕ). KeepsRun c later z (record (with_orphans orphans) { tape = w.tape ++ release_entry name later ∷ [] })) (sym same) walks

  pub walks_released : UndoWalks → now ≤ later → (item : UndoItem) → Goes item (list_of w) v → IsInBounds (at_site item).area → transaction_of (state_now c w) 0 ≡ None → IsNameReleased item site
      → KeepsRun c later (at_site item) (released_to v (name_undone item site) later w)
  walks_released laws le (Slog (AllocOf x p)) goes bounds none last = absurd last
  walks_released laws le (Slog (FreeOf p)) goes bounds none last = absurd last
  walks_released laws le (Slog (CreateOf x e)) goes bounds none last = released_orphans (at_site (Slog (CreateOf x e))) (site.area.title e).name goes.1 (laws.last_created c now later x e site w v.items keeps le goes.0 bounds none last)
  walks_released laws le (Slog (DropOf x e)) goes bounds none last = released_orphans (at_site (Slog (DropOf x e))) (site.area.title e).name goes.1 (laws.last_dropped c now later x e site w v.items keeps le goes.0 bounds none last)
  walks_released laws le (Orphan x) goes bounds none last = absurd last

  last_in_list : (i : SlogItem) → w.undo.items ≡ v.items ++ i ∷ [] → IsAmong i w.undo.items
  last_in_list i is = subst (IsAmong i) (sym is) (among_rest i v.items (i ∷ []) (inl refl))

  -- no session acts
  pub actor_nobodys : (item : UndoItem) → Goes item (list_of w) v → IsNoSessions w.run.sessions (undo_actor item site.tables)
  actor_nobodys (Slog (AllocOf x p)) goes = left.nobodys x (left.theirs (AllocOf x p) (last_in_list (AllocOf x p) goes.0))
  actor_nobodys (Slog (FreeOf p)) goes = λ r b at same. beyond b.me (keeps.scene.shown.paged.shows.below r b at) same
    where
      beyond : (d : ℕ) → d < site.tables.next → d ≡ site.tables.next → ⊥
      beyond d lt is = omega (arith, lt, is)
  actor_nobodys (Slog (CreateOf x e)) goes = left.nobodys x (left.theirs (CreateOf x e) (last_in_list (CreateOf x e) goes.0))
  actor_nobodys (Slog (DropOf x e)) goes = left.nobodys x (left.theirs (DropOf x e) (last_in_list (DropOf x e) goes.0))
  actor_nobodys (Orphan x) goes = left.nobodys x (subst (IsAmong x) (sym goes.2) (inl refl))
