-- What a stop leaves of a turn that has ended, by what its call left.
use Rattle.std.proofs.Common.{◌<◌, ◌≤◌, ℕ, ◌∙◌, ap, subst, arith}
use Rattle.ctr_disk.specs.declared.disk.Disk.{Ghosts}
use Rattle.ctr_redo.specs.States.{State, grown}
use Rattle.ctr_area.specs.Chains.{pages_bound}
use Rattle.ctr_told.specs.store_Store.{View, LeavesFront, LeavesGrowing}
use Rattle.ctr_told.specs.kept_Turns.{Start}
use Rattle.ctr_told.specs.kept_Walk.{Mind}
use Rattle.ctr_told.specs.page_turns_Turns.{RestsBehind}
use Rattle.ctr_told.specs.stops_Stops.{KeepsCommits, LeavesPrefixAt, LeftSince}
use Rattle.ctr_told.specs.stops_World.{KeepsWorld, course_of}
use Rattle.ctr_told.proofs.stops_Fronts.{steps_counted}
use Rattle.ctr_session_world.specs.Ready.{LeavesFrontOrGrows, Front, Grows}

-- where fewer than all pages are counted, a growth counts no less, and no more than there may be
grows_on : (n : ℕ) → n < 30000 → n ≤ grown n
grows_on n few = omega (arith, few)

within : (n : ℕ) → grown n ≤ pages_bound
within n = unfold pages_bound in omega arith

module _ {D : Type 0} (g : Ghosts D) (c : Start) (opened : D) (a b : View D) (w : Mind) where
  abbrev LeavesIt : Type 0
  LeavesIt = LeftSince g (g.moment_of opened) b.disk (LeavesPrefixAt (g.images opened) c.base (course_of c opened w).asked w.tape)

  -- by the laws of a call, of a growth, and of pages that were read
  pub left_by : KeepsWorld g c opened a w → ((m : View D) → KeepsCommits g (course_of c opened w) w.tape m → LeavesFront g m b → LeavesIt)
      → ((m : View D) → KeepsCommits g (course_of c opened w) w.tape m → m.hardened.counted ≤ grown m.hardened.counted → grown m.hardened.counted ≤ pages_bound → LeavesGrowing g m b → LeavesIt)
      → ((m : View D) → RestsBehind g a m → KeepsWorld g c opened m w) → LeavesFrontOrGrows g a b → LeavesIt
  left_by world call growth read (Front front) = call a world.commits front
  left_by world call growth read (Grows m rests few growing) =
      let there = read m rests in
      let same = ap (λ (s : State). s.counted) there.commits.fronts.now ∙ steps_counted m.waiting m.hardened in
      growth m there.commits (subst (λ n. n ≤ grown n) same (grows_on m.now.counted few)) (within m.hardened.counted) growing
