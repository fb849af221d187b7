use Rattle.std.proofs.Common.{refl}
use Rattle.ctr_store.specs.declared.parts.Parts.{Parts}
use Rattle.ctr_store.proofs.PartsLaws.{fold_moved, over_held, shows_held}
use Rattle.ctr_store.proofs.parts.Parts.harden.Goals as goal

pub returns-clause-fold : goal.returns-clause-fold
returns-clause-fold g c told =
    let d = g.D.Disk in
    let o = g.O.Origin.first in
    let s = c.args.self.now in
    let b = c.flush.new.self in
    let t : Parts g.row.D.Denot g.row.O.Denot = record s { base = b } in
    let fold = c.requires told in
    let e = c.in_ok-flush.ensures in
    let holds = e.holds told in
    let moves = e.moves told in
    fold_moved o d s t fold moves.0 refl (shows_held o d s.pool.frames s.base b holds) (over_held o d s.pool.frames s.base b holds moves.1 fold.over)
