use Rattle.std.proofs.Common.{drop}
use Rattle.ctr_page.specs.Making.{kept_bytes}
use Rattle.ctr_page.proofs.Puts.{put_front}
use Rattle.ctr_page.proofs.Back.{kept_back}
use Rattle.ctr_page.proofs.rows.make_version.Goals as goal

pub returns-clause-bytes : goal.returns-clause-bytes
returns-clause-bytes c = put_front c.put_kept.result (kept_bytes c.args.entry.now) c.args.into.now c.put_kept.new.into c.put_kept.ensures.put

pub returns-clause-read : goal.returns-clause-read
returns-clause-read c =
    kept_back c.args.w c.args.entry.now c.put_kept.new.into c.requires.fits (
      drop c.put_kept.result c.args.into.now,
      put_front c.put_kept.result (kept_bytes c.args.entry.now) c.args.into.now c.put_kept.new.into c.put_kept.ensures.put,
    )
