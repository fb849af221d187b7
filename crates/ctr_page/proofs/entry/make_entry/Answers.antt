use Rattle.ctr_page.proofs.Entries.{made_back}
use Rattle.ctr_page.proofs.entry.make_entry.Goals as goal

pub returns-clause-bytes : goal.returns-clause-bytes
returns-clause-bytes c =
    (made_back c.args.creator c.put_entry.result c.args.name.now c.args.schema.now.columns c.as_slice.result.now c.args.into.now c.put_entry.new.into c.ranges.creator.fits c.put_entry.ensures.short c.requires.fits c.as_slice.ensures c.put_entry.ensures.put).0

pub returns-clause-title : goal.returns-clause-title
returns-clause-title c =
    let made = (made_back c.args.creator c.put_entry.result c.args.name.now c.args.schema.now.columns c.as_slice.result.now c.args.into.now c.put_entry.new.into c.ranges.creator.fits c.put_entry.ensures.short c.requires.fits c.as_slice.ensures c.put_entry.ensures.put).1 in
    record { live = made.state; creator = made.creator_is; undropped = made.dropper }

pub returns-clause-name : goal.returns-clause-name
returns-clause-name c =
    (made_back c.args.creator c.put_entry.result c.args.name.now c.args.schema.now.columns c.as_slice.result.now c.args.into.now c.put_entry.new.into c.ranges.creator.fits c.put_entry.ensures.short c.requires.fits c.as_slice.ensures c.put_entry.ensures.put).1.name_is

pub returns-clause-columns : goal.returns-clause-columns
returns-clause-columns c =
    (made_back c.args.creator c.put_entry.result c.args.name.now c.args.schema.now.columns c.as_slice.result.now c.args.into.now c.put_entry.new.into c.ranges.creator.fits c.put_entry.ensures.short c.requires.fits c.as_slice.ensures c.put_entry.ensures.put).1.columns
