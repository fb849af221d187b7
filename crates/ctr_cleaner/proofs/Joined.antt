-- How parts of a turn come one behind another.
use Rattle.std.proofs.Common.{◌≡◌, ℕ, ◌+◌, ◌<◌, ◌≤◌, Bool, None, Some, true, false, Result, Ok, Err, refl, sym, ◌∙◌, subst, arith}
use Rattle.std.specs.Prelude.{IsTrue, IfOk, OnOk}
use Rattle.ctr_disk.specs.declared.disk.Disk.{Ghosts}
use Rattle.ctr_disk.specs.Image.{Image}
use Rattle.ctr_disk.specs.declared.fault.StoreFault.{StoreFault}
use Rattle.ctr_walk.specs.base_Base.{IsSoundImage}
use Rattle.ctr_walk.specs.store_Store.{View, KeepsRoom, LeavesFront, LeavesPage}
use Rattle.ctr_walk.specs.Damage.{ReadsPages}
use Rattle.ctr_walk.specs.OneRecord.{HasRoomForOne}
use Rattle.ctr_walk.proofs.Damages.{reads_err}
use Rattle.ctr_walk.proofs.Joins.{answers_ok}
use Rattle.ctr_walk.proofs.base_GrowLaws.{grown_more}
use Rattle.ctr_walk.specs.redo_States.{grown}
use Rattle.ctr_meta.specs.Kept.{TablesKept}
use Rattle.ctr_emptying.specs.page_turns_Rooms.{AddsItems}
use Rattle.ctr_emptying.specs.page_turns_Turns.{Turns, Reads, LogsARecord, Grows}
use Rattle.ctr_emptying.proofs.page_turns_Going.{turn_ok, turn_fails}
use Rattle.ctr_emptying.specs.clean_Step.{Step}
use Rattle.ctr_emptying.specs.clean_Step.TheVariants as step
use Rattle.ctr_emptying.specs.clean_Lists.{TakesItem}
use Rattle.ctr_emptying.specs.clean_Steps.{next_stepped}
use Rattle.ctr_emptying.proofs.clean_Resting.{rests_read}
use Rattle.ctr_emptying.specs.declared.emptied.Emptied.{Emptied}
use Rattle.ctr_emptying.specs.declared.emptied.Emptied.TheVariants as emptied
use Rattle.ctr_emptying.specs.Emptying.{next_emptied}
use Rattle.ctr_cleaner.specs.declared.done.Dealt.TheVariants.{Logged as Logs, Unseen}
use Rattle.ctr_cleaner.specs.declared.done.Logged.TheVariants.{Cleaned, Unlinked, Reclaimed}
use Rattle.ctr_cleaner.specs.Turning.{HasRoomFor}
use Rattle.ctr_cleaner.specs.Parts.{Done, next_done, PartLeavesRoom, IsLetGo, Tries, done_step, done_reclaim, done_freed, done_unlinked}

-- ---- numbers

not_next : (old new : ℕ) → new ≡ old → new ≡ old + 1 → ⊥
not_next old new same next = omega (arith, same, next)

-- a growth counts more pages than before
not_same : (old between new : ℕ) → between < 30000 → between ≡ old → new ≡ grown between → new ≡ old → ⊥
not_same old between new few read more same = by (grown between) (grown_more between few) more
  where
    by : (n : ℕ) → between + 1 ≤ n → new ≡ n → ⊥
    by n above is = omega (arith, above, is, read, same)

same_room : (k : TablesKept) → AddsItems 0 k k
same_room k = ((omega arith, omega arith, omega arith), refl)

-- ---- parts

module _ {D : Type 0} (first : Image) (g : Ghosts D) where
  -- a turn that takes no number, and counts as many pages, has read pages
  turn_reads : {T : Type 0} (x : T) (a b : View D) → Turns {T = T} first g a b (Ok x) → b.next ≡ a.next → b.now.counted ≡ a.now.counted → LeavesPage {T = T} first g a b (Ok x)
  turn_reads x a b (Reads page) next same = page
  turn_reads x a b (LogsARecord one) next same = absurd (not_next a.next b.next next one.1.takes.next)
  turn_reads x a b (Grows some) next same = absurd (not_same a.now.counted some.between.now.counted b.now.counted some.more.few some.read.keeps.counted some.more.counts.counted same)

  pub nothing_read : (may : Bool) (a b : View D) → Tries may first g a b (Ok None) → LeavesPage {T = Done} first g a b (Ok None)
  nothing_read may a b part = turn_reads None a b part.turns part.numbers part.counted

  pub unseen_read : (may : Bool) (a b : View D) → Tries may first g a b (Ok (Some Unseen)) → LeavesPage {T = Done} first g a b (Ok (Some Unseen))
  unseen_read may a b part = turn_reads (Some Unseen) a b part.turns part.numbers part.counted

  pub part_behind : {S : Type 0} (may : Bool) (x : S) (a b c : View D) (result : Result Done StoreFault) → LeavesPage {T = S} first g a b (Ok x)
      → (Turns first g b c result → Turns first g a c result) → Tries may first g b c result → Tries may first g a c result
  part_behind may x a b c result page turn part = record {
    turns = turn part.turns;
    numbers = subst (λ n. IfOk result (λ (d : Done). c.next ≡ next_done d n)) page.keeps.next part.numbers;
    left = subst (λ (k : TablesKept). IfOk result (λ (d : Done). PartLeavesRoom d k c.meta)) page.keeps.meta part.left;
    counted = subst (λ n. OnOk result (c.now.counted ≡ n)) page.keeps.counted part.counted;
    lets = part.lets;
  }

  pub part_reads : {S : Type 0} (may : Bool) (x : S) (a b : View D) → LeavesPage {T = S} first g a b (Ok x) → Tries may first g a b (Ok None)
  part_reads may x a b page = record {
    turns = Reads (answers_ok first g x None a b page);
    numbers = page.keeps.next;
    left = subst (λ (m : TablesKept). AddsItems 0 a.meta m) (sym page.keeps.meta) (same_room a.meta);
    counted = page.keeps.counted;
    lets = tt;
  }

  pub part_unread : {S : Type 0} (may : Bool) (a b : View D) (e : StoreFault) (page : Result S StoreFault) → ReadsPages first g a b page → page ≡ Err e → Tries may first g a b (Err e)
  part_unread {S} may a b e page read is = record {
    turns = Reads (reads_err first g S Done e a b (subst (λ (r : Result S StoreFault). ReadsPages first g a b r) is read));
    numbers = tt;
    left = tt;
    counted = tt;
    lets = tt;
  }

  pub part_rests : (may : Bool) (a : View D) → (IsTrue g.tells → IsSoundImage first → LeavesFront g a a) → a.stopped ≡ false → Tries may first g a a (Ok None)
  part_rests may a rests going = part_reads {S = Done} may None a a (rests_read first g a None rests going)

  -- a page leaves its chain nowhere, so also where it may
  pub part_may : (may : Bool) (a b : View D) (result : Result Done StoreFault) → Tries false first g a b result → Tries may first g a b result
  part_may may a b result part = record { turns = part.turns; numbers = part.numbers; left = part.left; counted = part.counted; lets = lets result part.lets }
    where
      lets : (r : Result Done StoreFault) → IfOk r (IsLetGo false) → IfOk r (IsLetGo may)
      lets (Ok (Some (Logs Cleaned))) is = tt
      lets (Ok (Some (Logs Reclaimed))) is = tt
      lets (Ok (Some Unseen)) is = tt
      lets (Ok None) is = tt
      lets (Ok (Some (Logs Unlinked))) is = absurd cc
      lets (Err e) is = tt

  -- a part as it was told in other words
  pub part_told : (may : Bool) (a b : View D) (r told so : Result Done StoreFault) → told ≡ r → told ≡ so → Tries may first g a b r → Tries may first g a b so
  part_told may a b r told so is same part = subst (λ (q : Result Done StoreFault). Tries may first g a b q) (sym is ∙ same) part

  -- there is room as before
  pub room_on : {S : Type 0} (some : Bool) (x : S) (a b : View D) → LeavesPage {T = S} first g a b (Ok x) → (KeepsRoom a b → b.stopped ≡ false → HasRoomForOne 0 0 a → HasRoomForOne 0 0 b)
      → HasRoomFor some a → HasRoomFor some b
  room_on some x a b page still room = record {
    one = still page.keeps page.going room.one;
    item = λ may. subst (λ (k : TablesKept). 1 ≤ k.items_room) (sym page.keeps.meta) (room.item may);
  }

  -- ---- steps

  pub step_part : (a b : View D) (result : Result Step StoreFault) → Turns first g a b result → IfOk result (λ (t : Step). b.next ≡ next_stepped t a.next)
      → OnOk result (AddsItems 0 a.meta b.meta) → OnOk result (b.now.counted ≡ a.now.counted) → Tries false first g a b (done_step result)
  step_part a b (Ok step.Cleaned) turns numbers left counted = record { turns = turn_ok first g a b step.Cleaned (Some (Logs Cleaned)) turns; numbers = numbers; left = left; counted = counted; lets = tt }
  step_part a b (Ok step.Nothing) turns numbers left counted = record { turns = turn_ok first g a b step.Nothing None turns; numbers = numbers; left = left; counted = counted; lets = tt }
  step_part a b (Ok step.Beyond) turns numbers left counted = record { turns = turn_ok first g a b step.Beyond (Some Unseen) turns; numbers = numbers; left = left; counted = counted; lets = tt }
  step_part a b (Err e) turns numbers left counted = record { turns = turn_fails first g a b e (Err e) (Err e) turns refl refl; numbers = tt; left = tt; counted = tt; lets = tt }

  pub reclaim_part : (a b : View D) (result : Result Step StoreFault) → Turns first g a b result → IfOk result (λ (t : Step). b.next ≡ next_stepped t a.next)
      → OnOk result (AddsItems 0 a.meta b.meta) → OnOk result (b.now.counted ≡ a.now.counted) → IfOk result (TakesItem a.meta b.meta) → Tries false first g a b (done_reclaim result)
  reclaim_part a b (Ok step.Cleaned) turns numbers left counted takes = record { turns = turn_ok first g a b step.Cleaned (Some (Logs Reclaimed)) turns; numbers = numbers; left = (left, takes); counted = counted; lets = tt }
  reclaim_part a b (Ok step.Nothing) turns numbers left counted takes = record { turns = turn_ok first g a b step.Nothing None turns; numbers = numbers; left = left; counted = counted; lets = tt }
  reclaim_part a b (Ok step.Beyond) turns numbers left counted takes = absurd takes
  reclaim_part a b (Err e) turns numbers left counted takes = record { turns = turn_fails first g a b e (Err e) (Err e) turns refl refl; numbers = tt; left = tt; counted = tt; lets = tt }

  pub freed_part : (a b : View D) (result : Result Emptied StoreFault) → Turns first g a b result → IfOk result (λ (t : Emptied). b.next ≡ next_emptied t a.next)
      → OnOk result (AddsItems 0 a.meta b.meta) → OnOk result (b.now.counted ≡ a.now.counted) → Tries false first g a b (done_freed result)
  freed_part a b (Ok emptied.OneRecord) turns numbers left counted = record { turns = turn_ok first g a b emptied.OneRecord (Some (Logs Cleaned)) turns; numbers = numbers; left = left; counted = counted; lets = tt }
  freed_part a b (Ok emptied.Nothing) turns numbers left counted = record { turns = turn_ok first g a b emptied.Nothing None turns; numbers = numbers; left = left; counted = counted; lets = tt }
  freed_part a b (Err e) turns numbers left counted = record { turns = turn_fails first g a b e (Err e) (Err e) turns refl refl; numbers = tt; left = tt; counted = tt; lets = tt }

  pub unlinked_part : (a b : View D) (result : Result Emptied StoreFault) → Turns first g a b result → IfOk result (λ (t : Emptied). b.next ≡ next_emptied t a.next)
      → OnOk result (AddsItems 1 a.meta b.meta) → OnOk result (b.now.counted ≡ a.now.counted) → Tries true first g a b (done_unlinked result)
  unlinked_part a b (Ok emptied.OneRecord) turns numbers left counted = record { turns = turn_ok first g a b emptied.OneRecord (Some (Logs Unlinked)) turns; numbers = numbers; left = left; counted = counted; lets = refl }
  unlinked_part a b (Ok emptied.Nothing) turns numbers left counted = part_reads true emptied.Nothing a b (turn_reads emptied.Nothing a b turns numbers counted)
  unlinked_part a b (Err e) turns numbers left counted = record { turns = turn_fails first g a b e (Err e) (Err e) turns refl refl; numbers = tt; left = tt; counted = tt; lets = tt }
