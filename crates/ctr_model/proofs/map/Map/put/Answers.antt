use Rattle.std.proofs.Common.{slice_index_or, sym, ◌∙◌, ap}
use Rattle.std.proofs.Math.ListN.{set}
use Rattle.std.specs.List.{insert}
use Rattle.std.specs.FinMap.Entries.{put}
use Rattle.ctr_model.proofs.Entries.{put_new, put_over}
use Rattle.ctr_model.proofs.map.Map.put.Goals as goal

pub returns-then-place-clause-ok : goal.returns-then-place-clause-ok
returns-then-place-clause-ok g c =
    let es = c.deref.result.now in
    let place = c.place_of-place.ensures in
    let d = c.index_mut.result.now in
    let here = put_over g.K.Ord.cmp c.args.key c.args.value es c.place_of-place.result.at d place.at (place.taken.0 c.if-place.true) in
    ap (λ e. set c.self.inside.entries.items c.place_of-place.result.at (e.0, c.args.value)) c.index_mut.ensures.value
    ∙ ap (λ l. set l c.place_of-place.result.at ((slice_index_or l c.place_of-place.result.at d).0, c.args.value)) (sym c.deref.ensures.value)
    ∙ sym here ∙ ap (put g.K.Ord.cmp c.args.key c.args.value) (c.deref.ensures.value ∙ c.self.view_is)

pub returns-clause-ok : goal.returns-clause-ok
returns-clause-ok g c =
    let es = c.deref.result.now in
    let place = c.place_of-place.ensures in
    let new = put_new g.K.Ord.cmp c.args.key c.args.value es c.place_of-place.result.at place.at (λ is. absurd (cc (c.if-place.false, place.taken.1 is))) in
    c.in_ok-insert.ensures.items ∙ ap (λ l. insert l c.place_of-place.result.at (c.args.key, c.args.value)) (sym c.deref.ensures.value)
    ∙ sym new ∙ ap (put g.K.Ord.cmp c.args.key c.args.value) (c.deref.ensures.value ∙ c.self.view_is)
