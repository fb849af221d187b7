use Rattle.std.proofs.Common.{◌≡◌, Option, None, Some, Ok, Err, refl, sym, ◌∙◌, ap, subst}
use Rattle.ctr_disk.specs.declared.fault.StoreFault.TheVariants.{Fault}
use Rattle.ctr_walk.specs.redo_States.{State}
use Rattle.ctr_walk.specs.record_effects_Standing.{IsDatabaseState}
use Rattle.ctr_actions.specs.Sites.{site_of}
use Rattle.ctr_walk.proofs.Damages.{reads_err}
use Rattle.ctr_walk.proofs.Joins.{answers_ok}
use Rattle.ctr_emptying.specs.page_turns_Turns.{Reads}
use Rattle.ctr_emptying.specs.cursor_Position.{Position}
use Rattle.ctr_emptying.specs.cursor_Standing.{IsPosition}
use Rattle.ctr_cleaner.specs.declared.done.CleanTurn.{CleanTurn}
use Rattle.ctr_cleaner.specs.declared.done.CleanTurn.TheVariants.{Moved, Over, Left}
use Rattle.ctr_cleaner.specs.declared.done.Dealt.TheVariants.{Logged as Logs, Unseen}
use Rattle.ctr_cleaner.specs.Turning.{heeding, TurnsAt, next_cleaned, LeavesRoomBy, IsTurnWithin}
use Rattle.ctr_cleaner.specs.Parts.{DidAt, IsPassed}
use Rattle.ctr_cleaner.proofs.Joined.{part_told, unseen_read}
use Rattle.ctr_cleaner.proofs.Moved.{moved_counts, moved_by, left_counts, left_by}
use Rattle.ctr_cleaner.proofs.Found.{ok_told, told_numbers, told_left, told_within, told_did}
use Rattle.ctr_cleaner.proofs.turning.turn.Goals as goal

pub returns-in-Err-clause-turns : goal.returns-in-Err-clause-turns
returns-in-Err-clause-turns g c =
    c.a_turn_goes_on.ensures.failed g.O.Origin.first c.args.store.now c.clean_first.new.store c.in-Err.fault c.clean_first.result (Err c.in-Err.fault) c.clean_first.ensures.tries.turns c.in-Err.is refl

pub returns-in-Ok-Some-Logged : goal.returns-in-Ok-Some-Logged
returns-in-Ok-Some-Logged g c =
    let first = g.O.Origin.first in
    let old = c.args.store.now in
    let mid = c.clean_first.new.store in
    let s = old.now in
    let x = c.args.at in
    let h = heeding c.args.low c.args.locks.now c.args.spared c.args.may in
    let r = c.clean_first.result in
    let logged = c.in-Ok-Some-Logged.logged in
    let is = c.in-Ok-Some-Logged.is ∙ ap Ok (c.in-Ok-Some-Logged.field-0-is ∙ ap Some c.in-Ok-Some-Logged.field-0-0-is) in
    let part = part_told first g.D.Disk c.args.may.unlink old mid r r (Ok (Some (Logs logged))) refl is c.clean_first.ensures.tries in
    let so = sym c.told.ensures in
    record {
      turns = c.a_turn_goes_on.ensures.answered first old mid (Some (Logs logged)) c.told.result part.turns;
      counts = record {
        numbers = subst (λ (t : CleanTurn). mid.next ≡ next_cleaned t old.next) so (told_numbers old.next mid.next logged part.numbers);
        room = subst (λ (t : CleanTurn). LeavesRoomBy t old.meta mid.meta) so (told_left old.meta mid.meta logged part.left);
        counted = part.counted;
        within = subst (λ (t : CleanTurn). IsTurnWithin c.args.may.unlink mid.now.counted t) so (told_within c.args.may.unlink mid.now.counted logged part.lets);
      };
      cleans = λ told sound database its. subst (λ (t : CleanTurn). TurnsAt h x s mid.now t) so
          (told_did h x (IsPassed h x s) s mid.now logged (ok_told (DidAt h x (IsPassed h x s) s mid.now) r r (Some (Logs logged)) refl is (c.clean_first.ensures.cleans told sound database its)));
      refused = λ told sound database its. tt;
    }

-- it wasn't seen whether there is anything to do

pub returns-in-Err-advance-clause-turns : goal.returns-in-Err-advance-clause-turns
returns-in-Err-advance-clause-turns g c =
    let first = g.O.Origin.first in
    let old = c.args.store.now in
    let mid = c.clean_first.new.store in
    let r = c.clean_first.result in
    let is = c.in-Ok-Some-Unseen.is ∙ ap Ok (c.in-Ok-Some-Unseen.field-0-is ∙ ap Some c.in-Ok-Some-Unseen.field-0-0-is) in
    let part = part_told first g.D.Disk c.args.may.unlink old mid r r (Ok (Some Unseen)) refl is c.clean_first.ensures.tries in
    let page = unseen_read first g.D.Disk c.args.may.unlink old mid part in
    let e = c.in-Err-advance.fault in
    c.a_turn_goes_on.ensures.behind first old mid c.advance.new.store (Some Unseen) (Err e) page (Reads (reads_err first g.D.Disk (Option Position) CleanTurn e mid c.advance.new.store c.in-Err-advance.ensures.leaves))

pub returns-in-Err-advance-clause-refused : goal.returns-in-Err-advance-clause-refused
returns-in-Err-advance-clause-refused g c = λ told sound database its.
    let old = c.args.store.now in
    let mid = c.clean_first.new.store in
    let s = old.now in
    let x = c.args.at in
    let h = heeding c.args.low c.args.locks.now c.args.spared c.args.may in
    let r = c.clean_first.result in
    let is = c.in-Ok-Some-Unseen.is ∙ ap Ok (c.in-Ok-Some-Unseen.field-0-is ∙ ap Some c.in-Ok-Some-Unseen.field-0-0-is) in
    let did = ok_told (DidAt h x (IsPassed h x s) s mid.now) r r (Some Unseen) refl is (c.clean_first.ensures.cleans told sound database its) in
    subst (λ (u : State). IsDatabaseState u → IsPosition x (site_of u) → c.in-Err-advance.fault ≡ Fault) did.0 (c.in-Err-advance.ensures.refused told sound) database its

pub returns-in-Ok : goal.returns-in-Ok
returns-in-Ok g c =
    let first = g.O.Origin.first in
    let old = c.args.store.now in
    let mid = c.clean_first.new.store in
    let new = c.advance.new.store in
    let s = old.now in
    let x = c.args.at in
    let h = heeding c.args.low c.args.locks.now c.args.spared c.args.may in
    let r = c.clean_first.result in
    let is = c.in-Ok-Some-Unseen.is ∙ ap Ok (c.in-Ok-Some-Unseen.field-0-is ∙ ap Some c.in-Ok-Some-Unseen.field-0-0-is) in
    let part = part_told first g.D.Disk c.args.may.unlink old mid r r (Ok (Some Unseen)) refl is c.clean_first.ensures.tries in
    let moved = c.in-Ok in
    let leaves = moved.ensures.leaves in
    record {
      turns = c.a_turn_goes_on.ensures.behind first old mid new (Some Unseen) (Ok (Left moved.to)) (unseen_read first g.D.Disk c.args.may.unlink old mid part)
          (Reads (answers_ok first g.D.Disk moved.to (Left moved.to) mid new leaves));
      counts = left_counts first g.D.Disk c.args.may old mid new moved.to part leaves moved.ensures.inside;
      cleans = λ told sound database its. left_by h x s mid.now new.now moved.to
          (ok_told (DidAt h x (IsPassed h x s) s mid.now) r r (Some Unseen) refl is (c.clean_first.ensures.cleans told sound database its)) (leaves.logs told sound).now (moved.ensures.next told sound);
      refused = λ told sound database its. tt;
    }

-- there was nothing to do

pub returns-in-Err-advance-2-clause-turns : goal.returns-in-Err-advance-2-clause-turns
returns-in-Err-advance-2-clause-turns g c =
    let first = g.O.Origin.first in
    let old = c.args.store.now in
    let mid = c.clean_first.new.store in
    let r = c.clean_first.result in
    let is = c.in-Ok-None.is ∙ ap Ok c.in-Ok-None.field-0-is in
    let part = part_told first g.D.Disk c.args.may.unlink old mid r r (Ok None) refl is c.clean_first.ensures.tries in
    let page = c.a_part_goes_on.ensures.read c.args.may.unlink first old mid part in
    let e = c.in-Err-advance-2.fault in
    c.a_turn_goes_on.ensures.behind first old mid c.advance-in-Ok-None.new.store None (Err e) page (Reads (reads_err first g.D.Disk (Option Position) CleanTurn e mid c.advance-in-Ok-None.new.store c.in-Err-advance-2.ensures.leaves))

pub returns-in-Err-advance-2-clause-refused : goal.returns-in-Err-advance-2-clause-refused
returns-in-Err-advance-2-clause-refused g c = λ told sound database its.
    let old = c.args.store.now in
    let mid = c.clean_first.new.store in
    let s = old.now in
    let x = c.args.at in
    let h = heeding c.args.low c.args.locks.now c.args.spared c.args.may in
    let r = c.clean_first.result in
    let is = c.in-Ok-None.is ∙ ap Ok c.in-Ok-None.field-0-is in
    let did = ok_told (DidAt h x (IsPassed h x s) s mid.now) r r None refl is (c.clean_first.ensures.cleans told sound database its) in
    subst (λ (u : State). IsDatabaseState u → IsPosition x (site_of u) → c.in-Err-advance-2.fault ≡ Fault) did.0 (c.in-Err-advance-2.ensures.refused told sound) database its

pub returns-in-Ok-None-advance : goal.returns-in-Ok-None-advance
returns-in-Ok-None-advance g c =
    let first = g.O.Origin.first in
    let old = c.args.store.now in
    let mid = c.clean_first.new.store in
    let new = c.advance-in-Ok-None.new.store in
    let s = old.now in
    let x = c.args.at in
    let h = heeding c.args.low c.args.locks.now c.args.spared c.args.may in
    let r = c.clean_first.result in
    let is = c.in-Ok-None.is ∙ ap Ok c.in-Ok-None.field-0-is in
    let part = part_told first g.D.Disk c.args.may.unlink old mid r r (Ok None) refl is c.clean_first.ensures.tries in
    let moved = c.in-Ok-None-advance in
    let leaves = moved.ensures.leaves in
    record {
      turns = c.a_turn_goes_on.ensures.behind first old mid new None (Ok Over) (c.a_part_goes_on.ensures.read c.args.may.unlink first old mid part)
          (Reads (answers_ok first g.D.Disk moved.field-0 Over mid new leaves));
      counts = moved_counts first g.D.Disk c.args.may old mid new moved.field-0 None moved.field-0-is part leaves moved.ensures.inside;
      cleans = λ told sound database its. moved_by h x s mid.now new.now moved.field-0 None moved.field-0-is
          (ok_told (DidAt h x (IsPassed h x s) s mid.now) r r None refl is (c.clean_first.ensures.cleans told sound database its)) (leaves.logs told sound).now (moved.ensures.next told sound);
      refused = λ told sound database its. tt;
    }

pub returns-in-Ok-Some : goal.returns-in-Ok-Some
returns-in-Ok-Some g c =
    let first = g.O.Origin.first in
    let old = c.args.store.now in
    let mid = c.clean_first.new.store in
    let new = c.advance-in-Ok-None.new.store in
    let s = old.now in
    let x = c.args.at in
    let h = heeding c.args.low c.args.locks.now c.args.spared c.args.may in
    let r = c.clean_first.result in
    let is = c.in-Ok-None.is ∙ ap Ok c.in-Ok-None.field-0-is in
    let part = part_told first g.D.Disk c.args.may.unlink old mid r r (Ok None) refl is c.clean_first.ensures.tries in
    let moved = c.in-Ok-Some in
    let leaves = moved.ensures.leaves in
    record {
      turns = c.a_turn_goes_on.ensures.behind first old mid new None (Ok (Moved moved.to)) (c.a_part_goes_on.ensures.read c.args.may.unlink first old mid part)
          (Reads (answers_ok first g.D.Disk moved.field-0 (Moved moved.to) mid new leaves));
      counts = moved_counts first g.D.Disk c.args.may old mid new moved.field-0 (Some moved.to) moved.field-0-is part leaves moved.ensures.inside;
      cleans = λ told sound database its. moved_by h x s mid.now new.now moved.field-0 (Some moved.to) moved.field-0-is
          (ok_told (DidAt h x (IsPassed h x s) s mid.now) r r None refl is (c.clean_first.ensures.cleans told sound database its)) (leaves.logs told sound).now (moved.ensures.next told sound);
      refused = λ told sound database its. tt;
    }
