use Rattle.std.proofs.Common.{◌≡◌, ◌∙◌, false, refl, ap}
use Rattle.ctr_base.specs.redo_States.{State, page_at}
use Rattle.ctr_store.specs.Store.{View}
use Rattle.ctr_store.proofs.PartsLaws.{fold_low, fold_moved}
use Rattle.ctr_store.proofs.BufferLaws.{buffer_kept, count_kept}
use Rattle.ctr_store.proofs.NumberLaws.{numbers_kept}
use Rattle.ctr_store.proofs.StoreLaws.{page_fails, page_lends, recalls_moved}
use Rattle.ctr_store.proofs.store.Store.page.Goals as goal

pub returns-in-Err : goal.returns-in-Err
returns-in-Err g c =
    let d = g.D.Disk in
    let o = g.O.Origin.first in
    let s = c.self.inside.parts in
    let b = c.self.inside.stopped in
    let e = c.bring.ensures in
    let going : b ≡ false = ap (λ (v : View g.row.D.Denot). v.stopped) c.self.view_is ∙ c.requires in (
      (
        refl,
        (λ _. tt),
        page_fails d o s c.bring.new.self b c.args.self.now c.self.view_is c.self.invariant.buffer e.goes e.keeps.0 e.keeps.1 c.in-Err.fault (λ told. c.in-Err.ensures.refused told (fold_low o d s (c.self.invariant.fold told going))) c.in-Err.ensures.faults,
      ),
      record { shown = λ told sound inside. tt; whole = tt; after = tt },
    )

pub returns : goal.returns
returns g c =
    let d = g.D.Disk in
    let o = g.O.Origin.first in
    let s = c.self.inside.parts in
    let b = c.self.inside.stopped in
    let t = c.bring.new.self in
    let e = c.in-Ok.ensures in
    let p = c.args.page in
    let going : b ≡ false = ap (λ (v : View g.row.D.Denot). v.stopped) c.self.view_is ∙ c.requires in (
      (
        refl,
        (λ _. tt),
        page_lends d o s t b c.args.self.now c.self.view_is c.self.invariant.buffer c.bring.ensures.goes c.bring.ensures.keeps.0 c.bring.ensures.keeps.1 c.bytes.result c.in-Ok.field-0 going (λ told. (e.stays told).moves) e.faults,
      ),
      record {
        shown = λ told sound inside.
            let stays = e.stays told in
            let tables = ap (λ k. k.tables) c.bring.ensures.keeps.1 in
            let fold = fold_moved o d s t (c.self.invariant.fold told going) stays.moves tables stays.shows stays.over in
            c.bytes.ensures.shown told sound fold e.there.0 inside ∙ ap (λ (x : State). page_at p x.pages) (stays.moves sound).now ∙ ap (λ (v : View g.row.D.Denot). page_at p v.now.pages) c.self.view_is;
        whole = c.bytes.ensures.whole e.there.0;
        after = tt;
      },
    )

pub invariant_of-self-2 : goal.invariant_of-self-2
invariant_of-self-2 g c =
    let d = g.D.Disk in
    let o = g.O.Origin.first in
    let s = c.self.inside.parts in
    let t = c.bring.new.self in
    let e = c.in-Ok.ensures in
    let keeps = c.bring.ensures.keeps in
    let inv = c.self.invariant in
    record {
      fold = λ told going.
          let stays = e.stays told in
          fold_moved o d s t (inv.fold told going) stays.moves (ap (λ k. k.tables) keeps.1) stays.shows stays.over;
      recalls = λ told sound going. recalls_moved d o s t c.self.inside.directory (e.stays told).moves sound (inv.recalls told sound going);
      buffer = buffer_kept d s.base t.base keeps.0 inv.buffer;
      counted = count_kept d s.base t.base keeps.0 inv.counted;
      numbers = numbers_kept d s t keeps.0 keeps.1 inv.numbers;
    }
