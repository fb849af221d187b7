-- Where nobody is open, what isn't seen waits for what is owed.
use Rattle.std.proofs.Common.{◌≡◌, ⊎_elim, inl, inr, ℕ, zero, suc, ◌≤◌, Bool, true, false, [], refl, sym, ◌∙◌, ap, subst}
use Rattle.std.specs.Prelude.{◌&&◌, nat_lt, not}
use Rattle.std.proofs.lemmas.Bool.{false≢true}
use Rattle.ctr_page.specs.declared.rows.Place.{Place}
use Rattle.ctr_meta.specs.Tables.{is_in}
use Rattle.ctr_area.specs.Areas.{Older}
use Rattle.ctr_area.specs.Chains.{Leads}
use Rattle.ctr_area.specs.Images.{is_committed_in, is_live}
use Rattle.ctr_area.specs.Sound.{IsUsedSlot}
use Rattle.ctr_walk.specs.redo_States.{State}
use Rattle.ctr_walk.specs.record_effects_States.{area_in}
use Rattle.ctr_walk.specs.record_effects_Standing.{IsDatabaseState}
use Rattle.ctr_record_laws.proofs.Heads.{open_listed}
use Rattle.ctr_record_laws.proofs.RevertLaw.{revert_ways}
use Rattle.ctr_record_laws.proofs.versions_Keys.{known}
use Rattle.ctr_record_laws.specs.Owed.{CutHead}
use Rattle.ctr_actions.specs.Sites.{site_of}
use Rattle.ctr_actions.specs.Actions.{Action, Reverts, Trims, Owes}
use Rattle.ctr_actions.specs.Cleaning.{IsCleaning}
use Rattle.ctr_emptying.specs.clean_Choosing.{passes_below, waits_above}
use Rattle.ctr_emptying.specs.clean_Older.{reach}
use Rattle.ctr_emptying.specs.clean_Steps.{Locks}
use Rattle.ctr_emptying.specs.cursor_Position.{Position}
use Rattle.ctr_emptying.specs.cursor_Position.TheVariants.{Entry, Slot, Kept, Aborted}
use Rattle.ctr_emptying.specs.cursor_Standing.{IsPosition}
use Rattle.ctr_emptying.proofs.cursor_Leads.{slot_place}
use Rattle.ctr_cleaner.specs.Finding.{IsUnseenAt}
use Rattle.ctr_cleaner.proofs.Bare.{and_parts, all_seen, passes_committed}

ends_within : (n : ℕ) (older : Place → Older) (at : Place) → at.page ≡ 0 → Leads n older (λ p it. Unit {0}) at
ends_within zero older at none = none
ends_within (suc n) older at none = inl none

module _ (s : State) (low : ℕ) (database : IsDatabaseState s) (closed : s.tables.opens ≡ []) (drawn : s.tables.next ≤ low) where
  -- an action of the cleaner's is owed
  abbrev IsDue : Type 0
  IsDue = (a : Action) × IsCleaning (passes_below low s.tables) a (site_of s) × Owes 0 a (site_of s)

  not_open : (x : ℕ) → is_in x s.tables.opens ≡ true → ⊥
  not_open x open_ = false≢true (subst (λ ps. is_in x ps ≡ true) closed open_)

  -- a head is one that everybody sees, or it is to go
  head_seen : (e : ℕ) (at : Place) → IsUsedSlot (area_in s) e at → (passes_below low s.tables ((area_in s).slot at).head.0 ≡ true → IsDue) → IsDue
  head_seen e at used seen = known (is_committed_in s.tables ((area_in s).slot at).head.0)
      (λ is. seen (all_seen s low ((area_in s).slot at).head.0 drawn is))
      (λ isnt. ⊎_elim
      (λ open_. absurd (not_open ((area_in s).slot at).head.0 open_))
      (λ gone. let way = revert_ways ((area_in s).slot at) in (Reverts e at way.0, tt, record { used = used; gone = gone; fits = way.1 }))
      (open_listed s.tables ((area_in s).slot at).head.0 (database.sound.behind e at used).0 (database.sound.below.slots e at used).0 isnt))

  -- where a version is kept off a row of a live table, that is to be trimmed, or loses its head
  chain_due : (e : ℕ) (at : Place) → is_live ((area_in s).title e) ≡ true → IsUsedSlot (area_in s) e at → (((area_in s).slot at).pointer.page ≡ 0 → ⊥) → IsDue
  chain_due e at live used some = head_seen e at used
      (λ seen. (Trims (passes_below low s.tables) e at CutHead, (refl, live), record { used = used; old = passes_committed low s.tables; fits = seen; some = inr some }))

  none_waits : (x : ℕ) → waits_above low s.tables x ≡ false
  none_waits x = known (is_committed_in s.tables x)
      (λ is. ap (λ b. is_committed_in s.tables x && not b) (and_parts (is_committed_in s.tables x) (nat_lt x low) (all_seen s low x drawn is)).1 ∙ ap (λ b. b && false) is)
      (λ isnt. ap (λ b. b && not (nat_lt x low)) isnt)

  pub unseen_due : (locks : Locks) (x : Position) → IsPosition x (site_of s) → IsUnseenAt locks low x s → IsDue
  unseen_due locks (Entry e) its unseen = absurd unseen
  unseen_due locks (Slot e b at) its unseen = head_seen e at (slot_place (area_in s) e b at its.1, unseen.1.0.0) (λ seen. absurd (false≢true (sym unseen.1.0.2 ∙ seen)))
  unseen_due locks (Kept e q) its unseen = ⊎_elim
      (λ waits. absurd (false≢true (sym (none_waits ((area_in s).older q).version.0) ∙ waits)))
      (λ had. chain_due e had.0 unseen.0 had.1 (λ none. had.3.1 (ends_within reach (area_in s).older ((area_in s).slot had.0).pointer none)))
      unseen.1.2
  unseen_due locks (Aborted n) its unseen = absurd unseen
