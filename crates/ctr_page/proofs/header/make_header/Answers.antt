use Rattle.std.proofs.Common.{drop}
use Rattle.ctr_page.specs.Making.{header_bytes}
use Rattle.ctr_page.proofs.Puts.{put_front}
use Rattle.ctr_page.proofs.Back.{header_back}
use Rattle.ctr_page.proofs.header.make_header.Goals as goal

pub returns-clause-bytes : goal.returns-clause-bytes
returns-clause-bytes c = put_front c.put_header.result (header_bytes c.args.header.now) c.args.into.now c.put_header.new.into c.put_header.ensures.put

pub returns-clause-read : goal.returns-clause-read
returns-clause-read c =
    header_back c.args.header.now c.put_header.new.into c.requires.fits (
      drop c.put_header.result c.args.into.now,
      put_front c.put_header.result (header_bytes c.args.header.now) c.args.into.now c.put_header.new.into c.put_header.ensures.put,
    )
