use Rattle.std.proofs.Common.{refl}
use Rattle.ctr_store.specs.declared.parts.Parts.{Parts}
use Rattle.ctr_store.proofs.PartsLaws.{fold_moved}
use Rattle.ctr_store.proofs.parts.Parts.write_one_dirty.Goals as goal

pub returns-clause-fold : goal.returns-clause-fold
returns-clause-fold g c told =
    let s = c.args.self.now in
    let t : Parts g.row.D.Denot g.row.O.Denot = record s { base = c.write_one.new.backing; pool = c.write_one.new.self } in
    let fold = c.requires told in
    let stays = c.in_ok-wrote.ensures.stays told in
    fold_moved g.O.Origin.first g.D.Disk s t fold (c.in_ok-wrote.ensures.works.moves told fold.over.at_rest) refl stays.shows stays.over
