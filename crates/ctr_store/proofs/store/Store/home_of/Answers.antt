use Rattle.std.proofs.Common.{◌≡◌, ◌∙◌, Bool, false, sym, ap, subst}
use Rattle.std.proofs.lemmas.Result.{on_ok_weaker}
use Rattle.ctr_store.specs.Store.{View, LeavesPage}
use Rattle.ctr_store.specs.StoreInside.{view_of}
use Rattle.ctr_store.proofs.BufferLaws.{buffer_kept, count_kept}
use Rattle.ctr_store.proofs.NumberLaws.{numbers_kept}
use Rattle.ctr_store.proofs.StoreLaws.{of_ok, page_left, recalls_moved}
use Rattle.ctr_store.proofs.store.Store.home_of.Goals as goal

pub invariant_of-self : goal.invariant_of-self
invariant_of-self g c = record {
  fold = λ told going. of_ok c.place_of-home.result (sym c.is_err-self-inside.ensures.value ∙ going) (on_ok_weaker c.place_of-home.result (λ x. x.0) (c.place_of-home.ensures.fold told));
  recalls = λ told sound going.
      let went : c.self.inside.stopped ≡ false = ap (λ (v : View g.row.D.Denot). v.stopped) c.self.view_is ∙ c.requires in
      let moves = of_ok c.place_of-home.result (sym c.is_err-self-inside.ensures.value ∙ going) (on_ok_weaker c.place_of-home.result (λ x. x.1) (c.place_of-home.ensures.fold told)) in
      recalls_moved g.D.Disk g.O.Origin.first c.self.inside.parts c.place_of-home.new.self c.self.inside.directory moves sound (c.self.invariant.recalls told sound went);
  buffer = buffer_kept g.D.Disk c.self.inside.parts.base c.place_of-home.new.self.base c.place_of-home.ensures.keeps.0 c.self.invariant.buffer;
  counted = count_kept g.D.Disk c.self.inside.parts.base c.place_of-home.new.self.base c.place_of-home.ensures.keeps.0 c.self.invariant.counted;
  numbers = numbers_kept g.D.Disk c.self.inside.parts c.place_of-home.new.self c.place_of-home.ensures.keeps.0 c.place_of-home.ensures.keeps.1 c.self.invariant.numbers;
}

pub returns-clause-leaves : goal.returns-clause-leaves
returns-clause-leaves g c =
    let d = g.D.Disk in
    let o = g.O.Origin.first in
    let t = c.place_of-home.new.self in
    let e = c.place_of-home.ensures in
    let going : c.self.inside.stopped ≡ false = ap (λ (v : View g.row.D.Denot). v.stopped) c.self.view_is ∙ c.requires in
    subst (λ (k : Bool). LeavesPage o d c.args.self.now (view_of d t k) c.place_of-home.result) (sym c.is_err-self-inside.ensures.value)
    (page_left d o c.self.inside.parts t c.self.inside.stopped c.args.self.now c.self.view_is c.self.invariant.buffer e.goes e.keeps.0 e.keeps.1 c.place_of-home.result going (λ told. on_ok_weaker c.place_of-home.result (λ x. x.1) (e.fold told)) e.refused e.faults)
