use Rattle.std.proofs.Common.{◌≡◌, ◌∙◌, Bool, false, sym, ap, subst}
use Rattle.std.specs.Prelude.{IfOk}
use Rattle.ctr_store.specs.Store.{View, LeavesPage, WritesHome}
use Rattle.ctr_store.specs.StoreInside.{view_of}
use Rattle.ctr_store.proofs.BufferLaws.{buffer_kept, count_kept}
use Rattle.ctr_store.proofs.NumberLaws.{numbers_kept}
use Rattle.ctr_store.proofs.StoreLaws.{of_ok, home_seen, wrote_seen, page_left, recalls_moved}
use Rattle.ctr_store.proofs.store.Store.write_one_dirty.Goals as goal

pub returns-clause-wrote : goal.returns-clause-wrote
returns-clause-wrote g c =
    let result = c.write_one_dirty-wrote.result in
    let t = c.write_one_dirty-wrote.new.self in
    subst (λ (v : View g.row.D.Denot). IfOk result (λ wrote. wrote ≡ v.dirty)) c.self.view_is (wrote_seen g.D.Disk c.self.inside.parts t result c.write_one_dirty-wrote.ensures.oldest)

pub returns-clause-leaves : goal.returns-clause-leaves
returns-clause-leaves g c =
    let d = g.D.Disk in
    let o = g.O.Origin.first in
    let t = c.write_one_dirty-wrote.new.self in
    let e = c.write_one_dirty-wrote.ensures in
    let going : c.self.inside.stopped ≡ false = ap (λ (v : View g.row.D.Denot). v.stopped) c.self.view_is ∙ c.requires in
    subst (λ (k : Bool). LeavesPage o d c.args.self.now (view_of d t k) c.write_one_dirty-wrote.result) (sym c.is_err-self-inside.ensures.value)
    (page_left d o c.self.inside.parts t c.self.inside.stopped c.args.self.now c.self.view_is c.self.invariant.buffer e.goes e.keeps.0 e.keeps.1 c.write_one_dirty-wrote.result going e.moves e.refused e.faults)

pub invariant_of-self : goal.invariant_of-self
invariant_of-self g c =
    let e = c.write_one_dirty-wrote.ensures in
    let went : c.self.inside.stopped ≡ false = ap (λ (v : View g.row.D.Denot). v.stopped) c.self.view_is ∙ c.requires in
    record {
      fold = λ told going. of_ok c.write_one_dirty-wrote.result (sym c.is_err-self-inside.ensures.value ∙ going) (e.fold told);
      recalls = λ told sound going.
          let moves = of_ok c.write_one_dirty-wrote.result (sym c.is_err-self-inside.ensures.value ∙ going) (e.moves told) in
          recalls_moved g.D.Disk g.O.Origin.first c.self.inside.parts c.write_one_dirty-wrote.new.self c.self.inside.directory moves sound (c.self.invariant.recalls told sound went);
      buffer = buffer_kept g.D.Disk c.self.inside.parts.base c.write_one_dirty-wrote.new.self.base e.keeps.0 c.self.invariant.buffer;
      counted = count_kept g.D.Disk c.self.inside.parts.base c.write_one_dirty-wrote.new.self.base e.keeps.0 c.self.invariant.counted;
      numbers = numbers_kept g.D.Disk c.self.inside.parts c.write_one_dirty-wrote.new.self e.keeps.0 e.keeps.1 c.self.invariant.numbers;
    }

pub returns-clause-home : goal.returns-clause-home
returns-clause-home g c =
    let d = g.D.Disk in
    let t = c.write_one_dirty-wrote.new.self in
    let stopped = c.is_err-self-inside.result in
    let result = c.write_one_dirty-wrote.result in
    subst (λ (v : View g.row.D.Denot). IfOk result (WritesHome v (view_of d t stopped))) c.self.view_is (home_seen d c.self.inside.parts t c.self.inside.stopped stopped result c.write_one_dirty-wrote.ensures.oldest)
