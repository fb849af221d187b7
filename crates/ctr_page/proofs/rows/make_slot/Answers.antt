use Rattle.std.proofs.Common.{drop}
use Rattle.ctr_page.specs.Making.{slot_bytes}
use Rattle.ctr_page.proofs.Puts.{put_front}
use Rattle.ctr_page.proofs.Back.{slot_back}
use Rattle.ctr_page.proofs.rows.make_slot.Goals as goal

pub returns-clause-bytes : goal.returns-clause-bytes
returns-clause-bytes c = put_front c.put_slot.result (slot_bytes c.args.w c.args.slot.now) c.args.into.now c.put_slot.new.into c.put_slot.ensures.put

pub returns-clause-read : goal.returns-clause-read
returns-clause-read c =
    slot_back c.args.w c.args.slot.now c.put_slot.new.into c.requires.fits (
      drop c.put_slot.result c.args.into.now,
      put_front c.put_slot.result (slot_bytes c.args.w c.args.slot.now) c.args.into.now c.put_slot.new.into c.put_slot.ensures.put,
    )
