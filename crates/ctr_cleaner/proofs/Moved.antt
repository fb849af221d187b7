-- Where a turn had nothing to do it goes on to the position behind, if any.
use Rattle.std.proofs.Common.{◌≡◌, ℕ, Bool, Option, None, Some, Ok, refl, sym, ◌∙◌, subst}
use Rattle.std.specs.Prelude.{IfSome}
use Rattle.ctr_disk.specs.Image.{Image}
use Rattle.ctr_disk.specs.declared.disk.Disk.{Ghosts}
use Rattle.ctr_meta.specs.Kept.{TablesKept}
use Rattle.ctr_walk.specs.redo_States.{State}
use Rattle.ctr_actions.specs.Sites.{site_of}
use Rattle.ctr_walk.specs.store_Store.{View, LeavesPage}
use Rattle.ctr_emptying.specs.page_turns_Rooms.{AddsItems}
use Rattle.ctr_emptying.specs.cursor_Position.{Position}
use Rattle.ctr_emptying.specs.cursor_Pass.{next_position}
use Rattle.ctr_emptying.specs.cursor_Standing.{IsCountedPosition}
use Rattle.ctr_cleaner.specs.declared.done.CleanTurn.{CleanTurn}
use Rattle.ctr_cleaner.specs.declared.done.CleanTurn.TheVariants.{Moved, Over, Left}
use Rattle.ctr_cleaner.specs.declared.done.Dealt.TheVariants.{Unseen}
use Rattle.ctr_cleaner.specs.declared.done.MayEmpty.{MayEmpty}
use Rattle.ctr_cleaner.specs.Turning.{Heeded, PassesPosition, LeavesPosition, TurnsAt, next_cleaned, LeavesRoomBy, IsTurnWithin, LeavesCounts}
use Rattle.ctr_cleaner.specs.Parts.{Tries, DidAt, IsPassed}

-- what a turn answers then
abbrev pub told_next : Option Position → CleanTurn
told_next None = Over
told_next (Some y) = Moved y

takes_none : (y : Option Position) (n : ℕ) → n ≡ next_cleaned (told_next y) n
takes_none None n = refl
takes_none (Some y) n = refl

adds_none : (y : Option Position) (k l : TablesKept) → AddsItems 0 k l → LeavesRoomBy (told_next y) k l
adds_none None k l adds = adds
adds_none (Some y) k l adds = adds

is_inside : (may : Bool) (n : ℕ) (y : Option Position) → IfSome y (IsCountedPosition n) → IsTurnWithin may n (told_next y)
is_inside may n None inside = tt
is_inside may n (Some y) inside = inside

passes_to : (h : Heeded) (x : Position) (s t : State) (y : Option Position) → PassesPosition h x y s t → TurnsAt h x s t (told_next y)
passes_to h x s t None passes = passes
passes_to h x s t (Some y) passes = passes

-- its counts are those of before
pub moved_counts : {D : Type 0} (first : Image) (g : Ghosts D) (may : MayEmpty) (old mid new : View D) (y z : Option Position) → y ≡ z → Tries may.unlink first g old mid (Ok None)
    → LeavesPage {T = Option Position} first g mid new (Ok y) → IfSome y (IsCountedPosition mid.now.counted) → LeavesCounts may old new (told_next z)
moved_counts first g may old mid new y z is part leaves inside = record {
  numbers = leaves.keeps.next ∙ part.numbers ∙ takes_none z old.next;
  room = adds_none z old.meta new.meta (subst (λ (m : TablesKept). AddsItems 0 old.meta m) (sym leaves.keeps.meta) part.left);
  counted = leaves.keeps.counted ∙ part.counted;
  within = is_inside may.unlink new.now.counted z (subst (λ n. IfSome z (IsCountedPosition n)) (sym leaves.keeps.counted) (subst (λ (o : Option Position). IfSome o (IsCountedPosition mid.now.counted)) is inside));
}

-- and there was nothing to do at its position
pub moved_by : (h : Heeded) (x : Position) (s m t : State) (y z : Option Position) → y ≡ z → DidAt h x (IsPassed h x s) s m None → t ≡ m → y ≡ next_position (site_of m) x → TurnsAt h x s t (told_next z)
moved_by h x s m t y z is did same next = passes_to h x s t z (record {
  same = same ∙ did.0;
  free = did.1.0;
  nothing = did.1.1;
  behind = sym (subst (λ (u : State). y ≡ next_position (site_of u) x) did.0 next) ∙ is;
})

-- where that wasn't seen, its counts are those of before too
pub left_counts : {D : Type 0} (first : Image) (g : Ghosts D) (may : MayEmpty) (old mid new : View D) (y : Option Position) → Tries may.unlink first g old mid (Ok (Some Unseen))
    → LeavesPage {T = Option Position} first g mid new (Ok y) → IfSome y (IsCountedPosition mid.now.counted) → LeavesCounts may old new (Left y)
left_counts first g may old mid new y part leaves inside = record {
  numbers = leaves.keeps.next ∙ part.numbers;
  room = subst (λ (m : TablesKept). AddsItems 0 old.meta m) (sym leaves.keeps.meta) part.left;
  counted = leaves.keeps.counted ∙ part.counted;
  within = subst (λ n. IfSome y (IsCountedPosition n)) (sym leaves.keeps.counted) inside;
}

-- and so it is at its position
pub left_by : (h : Heeded) (x : Position) (s m t : State) (y : Option Position) → DidAt h x (IsPassed h x s) s m (Some Unseen) → t ≡ m → y ≡ next_position (site_of m) x → LeavesPosition h x y s t
left_by h x s m t y did same next = record {
  same = same ∙ did.0;
  unseen = did.1;
  behind = sym (subst (λ (u : State). y ≡ next_position (site_of u) x) did.0 next);
}
