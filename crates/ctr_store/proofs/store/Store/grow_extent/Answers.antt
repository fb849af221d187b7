use Rattle.std.proofs.Common.{◌≡◌, ◌∙◌, ◌+◌, false, length, sym, ap, subst}
use Rattle.ctr_base.specs.Base.{now_of}
use Rattle.ctr_base.specs.redo_States.{State, state_of, page_at, counting, grown}
use Rattle.ctr_base.specs.declared.base.Base.{Base}
use Rattle.ctr_base.specs.meta_Kept.{TablesKept}
use Rattle.ctr_store.specs.Numbers.{NumbersLow}
use Rattle.ctr_store.specs.Parts.{HasBuffer}
use Rattle.ctr_store.specs.Store.{View, GrowsByExtent}
use Rattle.ctr_store.specs.StoreInside.{view_of}
use Rattle.ctr_store.proofs.BufferLaws.{count_grown, never_less}
use Rattle.ctr_store.proofs.Recalling.{exact_same}
use Rattle.ctr_store.proofs.StoreLaws.{of_ok, on_ok_both, grows_seen}
use Rattle.ctr_store.proofs.store.Store.grow_extent.Goals as goal

pub invariant_of-self : goal.invariant_of-self
invariant_of-self g c =
    let e = c.grow-counted.ensures in
    record {
      fold = λ told going. (of_ok c.grow-counted.result (sym c.is_err-self-inside.ensures.value ∙ going) (e.grows told)).1;
      recalls = λ told sound going.
          let grows = (of_ok c.grow-counted.result (sym c.is_err-self-inside.ensures.value ∙ going) (e.grows told)).0 in
          let s = c.self.inside.parts in
          let x : State = state_of (now_of g.D.Disk s.base) in
          let n = s.base.root.pages in
          let went : c.self.inside.stopped ≡ false = ap (λ (v : View g.row.D.Denot). v.stopped) c.self.view_is ∙ c.requires.going in
          let more = c.growth_keeps_all.ensures n (grown n) (λ p. page_at p x.pages) c.self.inside.directory (never_less n c.self.invariant.counted.1) (c.self.invariant.recalls told sound went) in
          exact_same (counting (grown n) x) (state_of (now_of g.D.Disk c.grow-counted.new.self.base)) c.self.inside.directory grows.now more;
      buffer = subst (λ (b : Base g.row.D.Denot g.row.O.Denot). HasBuffer b.log) (sym e.counted.0.0) c.self.invariant.buffer;
      counted = count_grown c.self.inside.parts.base c.grow-counted.new.self.base c.grow-counted.result c.self.invariant.counted e.counted.0;
      numbers = subst (λ (k : TablesKept). NumbersLow (c.grow-counted.new.self.base.log.first + length c.grow-counted.new.self.base.log.buffered) k.tables) (sym e.counted.2)
          (subst (λ (b : Base g.row.D.Denot g.row.O.Denot). NumbersLow (b.log.first + length b.log.buffered) c.self.inside.parts.meta.tables) (sym e.counted.0.0) c.self.invariant.numbers);
    }

pub returns-clause-grows : goal.returns-clause-grows
returns-clause-grows g c told sound =
    let d = g.D.Disk in
    let s = c.self.inside.parts in
    let t = c.grow-counted.new.self in
    let old = c.self.inside.stopped in
    let new = c.is_err-self-inside.result in
    let e = c.grow-counted.ensures in
    let has = subst (λ (b : Base g.row.D.Denot g.row.O.Denot). HasBuffer b.log) (sym e.counted.0.0) c.self.invariant.buffer in
    on_ok_both c.grow-counted.result
    (λ both yes. let grows = both.0 in let fold = both.1 in subst (λ (v : View g.row.D.Denot). GrowsByExtent d v (view_of d t new)) c.self.view_is (grows_seen d g.O.Origin.first g.met.D.Disk.only_now s t old new has fold sound grows (e.blank told sound)))
    (e.grows told) (e.grows told)
