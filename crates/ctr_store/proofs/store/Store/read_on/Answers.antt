use Rattle.std.proofs.Common.{◌≡◌, ◌∙◌, false, sym, ap, subst, Ok}
use Rattle.ctr_base.specs.Base.{now_of}
use Rattle.ctr_base.specs.redo_States.{state_of, page_at}
use Rattle.ctr_store.specs.Store.{View, LeavesPage}
use Rattle.ctr_store.proofs.BufferLaws.{buffer_kept, count_kept}
use Rattle.ctr_store.proofs.NumberLaws.{numbers_kept}
use Rattle.ctr_store.proofs.PartsLaws.{fold_low, fold_moved}
use Rattle.ctr_store.proofs.Recalling.{low_page}
use Rattle.ctr_store.proofs.StoreLaws.{page_fails, page_lends, page_unread, recalls_moved}
use Rattle.ctr_store.proofs.store.Store.read_on.Goals as goal

pub returns-in_default : goal.returns-in_default
returns-in_default g c =
    let a = c.self.inside in
    let going : a.stopped ≡ false = ap (λ (v : View g.row.D.Denot). v.stopped) c.self.view_is ∙ c.requires.going in
    let still = page_unread g.D.Disk g.O.Origin.first g.met.D.Disk.only_now a.parts a.stopped c.args.self.now c.self.view_is c.self.invariant.buffer going (λ told. c.self.invariant.fold told going) false in
    record { leaves = subst (λ (v : View g.row.D.Denot). LeavesPage g.O.Origin.first g.D.Disk c.args.self.now v (Ok false)) (sym c.self.view_is) still }

pub invariant_of-self : goal.invariant_of-self
invariant_of-self g c =
    let inv = c.self.invariant in
    let base = c.self.inside.parts.base in
    record {
      fold = inv.fold;
      recalls = λ told sound going. c.used.ensures base.root.pages (λ p. page_at p (state_of (now_of g.D.Disk base)).pages) (inv.recalls told sound going);
      buffer = inv.buffer;
      counted = inv.counted;
      numbers = inv.numbers;
    }

pub returns-in-Err : goal.returns-in-Err
returns-in-Err g c =
    let d = g.D.Disk in
    let o = g.O.Origin.first in
    let a = c.self.inside in
    let e = c.bring.ensures in
    let going : a.stopped ≡ false = ap (λ (v : View g.row.D.Denot). v.stopped) c.self.view_is ∙ c.requires.going in
    record {
      leaves = page_fails d o a.parts c.bring.new.self a.stopped c.args.self.now c.self.view_is c.self.invariant.buffer e.goes e.keeps.0 e.keeps.1 c.in-Err.fault
          (λ told. c.in-Err.ensures.refused told (fold_low o d a.parts (c.self.invariant.fold told going))) c.in-Err.ensures.faults;
    }

pub invariant_of-self-2 : goal.invariant_of-self-2
invariant_of-self-2 g c =
    let d = g.D.Disk in
    let o = g.O.Origin.first in
    let s = c.self.inside.parts in
    let t = c.bring.new.self in
    let e = c.in-Ok.ensures in
    let keeps = c.bring.ensures.keeps in
    let inv = c.self.invariant in
    let counted = count_kept d s.base t.base keeps.0 inv.counted in
    record {
      fold = λ told going.
          let stays = e.stays told in
          fold_moved o d s t (inv.fold told going) stays.moves (ap (λ k. k.tables) keeps.1) stays.shows stays.over;
      recalls = λ told sound going.
          let stays = e.stays told in
          let fold = fold_moved o d s t (inv.fold told going) stays.moves (ap (λ k. k.tables) keeps.1) stays.shows stays.over in
          let exact = recalls_moved d o s t c.self.inside.directory stays.moves sound (inv.recalls told sound going) in
          c.read.ensures (λ p. page_at p (state_of (now_of d t.base)).pages)
          (λ low. sym (c.bytes-bytes.ensures.shown told sound fold e.there.0 (low_page c.in-Some.page t.base.root.pages low counted.1))) exact;
      buffer = buffer_kept d s.base t.base keeps.0 inv.buffer;
      counted = counted;
      numbers = numbers_kept d s t keeps.0 keeps.1 inv.numbers;
    }

pub returns : goal.returns
returns g c =
    let d = g.D.Disk in
    let o = g.O.Origin.first in
    let a = c.self.inside in
    let e = c.bring.ensures in
    let going : a.stopped ≡ false = ap (λ (v : View g.row.D.Denot). v.stopped) c.self.view_is ∙ c.requires.going in
    record {
      leaves = page_lends d o a.parts c.bring.new.self a.stopped c.args.self.now c.self.view_is c.self.invariant.buffer e.goes e.keeps.0 e.keeps.1 c.knows.result c.in-Ok.field-0 going (λ told. (c.in-Ok.ensures.stays told).moves) c.in-Ok.ensures.faults;
    }
