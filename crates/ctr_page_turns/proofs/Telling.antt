-- What a turn was, as the log's next number tells it.
use Rattle.std.proofs.Common.{◌≡◌, ℕ, ◌+◌, ◌<◌, ◌≤◌, Ok, ◌∙◌, ap, arith}
use Rattle.std.specs.Prelude.{IsTrue}
use Rattle.ctr_disk.specs.declared.disk.Disk.{Ghosts}
use Rattle.ctr_disk.specs.Image.{Image}
use Rattle.ctr_walk.specs.base_Base.{IsSoundImage}
use Rattle.ctr_walk.proofs.base_GrowLaws.{grown_more}
use Rattle.ctr_passed.specs.redo_States.{State, grown}
use Rattle.ctr_walk.specs.store_Store.{View, LeavesFront}
use Rattle.ctr_page_turns.specs.Turns.{LogsSome, CountsBehind, Turns, Reads, LogsARecord, Grows, LogsAtRest, RestsBehind}

-- no number is one more than itself
not_next : (old new : ℕ) → new ≡ old → new ≡ old + 1 → ⊥
not_next old new same next = omega (arith, same, next)

-- a growth counts more pages than before
not_same : (old between new : ℕ) → between < 30000 → between ≡ old → new ≡ grown between → new ≡ old → ⊥
not_same old between new few read more same = by (grown between) (grown_more between few) more
  where
    by : (n : ℕ) → between + 1 ≤ n → new ≡ n → ⊥
    by n above is = omega (arith, above, is, read, same)

module _ {D T : Type 0} (first : Image) (g : Ghosts D) (a b : View D) (x : T) where
  -- a growth takes no number
  growth_next : CountsBehind {T = T} first g a b (Ok x) → b.next ≡ a.next
  growth_next some = ap (λ (v : View D). v.next) some.more.counts.same ∙ some.read.keeps.next

  pub told_one : IsTrue g.tells → IsSoundImage first → LogsSome {T = T} first g a b (Ok x) → LeavesFront g b b → LogsAtRest g a b
  told_one told sound one rests = record { rec = one.0; logs = one.1.logs told sound; front = one.1.any_moment told sound; rests = rests; later = one.1.time.later }

  pub told_logged : IsTrue g.tells → IsSoundImage first → Turns {T = T} first g a b (Ok x) → b.next ≡ a.next + 1 → LeavesFront g b b → LogsAtRest g a b
  told_logged told sound (Reads page) next rests = absurd (not_next a.next b.next page.keeps.next next)
  told_logged told sound (LogsARecord one) next rests = told_one told sound one rests
  told_logged told sound (Grows some) next rests = absurd (not_next a.next b.next (growth_next some) next)

  pub told_read : IsTrue g.tells → IsSoundImage first → Turns {T = T} first g a b (Ok x) → b.next ≡ a.next → b.now ≡ a.now → LeavesFront g b b → RestsBehind g a b
  told_read told sound (Reads page) next same rests = record { logs = page.logs told sound; front = page.any_moment told sound; rests = rests; later = page.time.later }
  told_read told sound (LogsARecord one) next same rests = absurd (not_next a.next b.next next one.1.takes.next)
  told_read told sound (Grows some) next same rests =
      absurd (not_same a.now.counted some.between.now.counted b.now.counted some.more.few some.read.keeps.counted some.more.counts.counted (ap (λ (s : State). s.counted) same))

  pub told_grown : Turns {T = T} first g a b (Ok x) → b.next ≡ a.next → (b.now.counted ≡ a.now.counted → ⊥) → CountsBehind {T = T} first g a b (Ok x)
  told_grown (Reads page) next more = absurd (more page.keeps.counted)
  told_grown (LogsARecord one) next more = absurd (not_next a.next b.next next one.1.takes.next)
  told_grown (Grows some) next more = some
