use Rattle.std.proofs.Common.{◌≡◌, ◌≤◌, ◌<◌, ◌∙◌, ℕ, List, true, length, Some, sym, ap, subst, arith}
use Rattle.std.specs.Prelude.{is_some}
use Rattle.ctr_base.specs.Base.{now_of}
use Rattle.ctr_base.specs.pool_Frame.{Frame}
use Rattle.ctr_base.specs.pool_Frames.{has_page, frame_of, after_change}
use Rattle.ctr_base.specs.redo_States.{State, state_of, step, page_at}
use Rattle.ctr_directory.specs.Keys.{SaysSameOutside}
use Rattle.ctr_store.proofs.RecordLaws.{off_page, inside_of, overlay_inside, frame_there}
use Rattle.ctr_store.proofs.Recalling.{low_page, exact_same, page_changes}
use Rattle.ctr_store.proofs.parts.Parts.log_remembered.Goals as goal

pub span_of-span-requires : goal.span_of-span-requires
span_of-span-requires g c = overlay_inside c.args.rec.now c.args.overlay.now c.requires.can.logged.record_is c.requires.on

pub returns-clause-exact : goal.returns-clause-exact
returns-clause-exact g c = λ told sound fold recalls.
    let d = g.D.Disk in
    let s = c.args.self.now in
    let t = c.log_on-lsn.new.self in
    let r = c.args.rec.now in
    let o = c.args.overlay.now in
    let e = c.log_on-lsn.ensures in
    let adds = e.adds told fold sound in
    let x : State = state_of (now_of d s.base) in
    let inside = low_page o.page s.base.root.pages (inside_of s.base.root.pages r o c.requires.on c.requires.can.counted) c.requires.can.pages.1 in
    let frame = frame_there o.page s.pool.frames c.requires.there.0 in
    let laid = e.laid frame.0 frame.1 in
    let still : has_page o.page t.pool.frames ≡ true = ap is_some laid in
    let before = c.copy_from_slice.new.self in
    let after = c.bytes-after.result.now in
    let copied = c.copy_from_slice.ensures.after in
    let held : before ≡ frame.0.body = copied ∙ c.bytes.ensures.held frame.0 frame.1 in
    let whole : length frame.0.body ≡ 4096 = ap (λ (l : List ℕ). length l) (sym (c.bytes.ensures.held frame.0 frame.1)) ∙ c.bytes.ensures.whole c.requires.there.0 in
    let outside = subst (λ (l : List ℕ). SaysSameOutside c.span_of-span.result l after) (sym held)
    (subst (SaysSameOutside c.span_of-span.result frame.0.body) (sym (c.bytes-after.ensures.held (after_change o c.log_on-lsn.result frame.0) laid)) (c.span_of-span.ensures frame.0.body whole)) in
    let was = sym (copied ∙ c.bytes.ensures.shown told sound fold c.requires.there.0 inside) in
    let is = ap (λ (y : State). page_at o.page y.pages) (sym adds.now) ∙ sym (c.bytes-after.ensures.shown told sound (e.fold told fold) still inside) in
    let changes = page_changes x r o.page c.span_of-span.result before after (off_page r o c.requires.on) was is outside in
    exact_same (step r x) (state_of (now_of d t.base)) c.changed.new.self adds.now (c.changed.ensures (λ p. page_at p x.pages) (λ p. page_at p (step r x).pages) changes recalls)

pub changed-requires-clause-whole : goal.changed-requires-clause-whole
changed-requires-clause-whole g c =
    let frame = frame_there c.args.overlay.now.page c.args.self.now.pool.frames c.requires.there.0 in (
      ap (λ (l : List ℕ). length l) c.copy_from_slice.ensures.after ∙ c.bytes.ensures.whole c.requires.there.0,
      c.bytes-after.ensures.whole (ap is_some (c.log_on-lsn.ensures.laid frame.0 frame.1)),
    )
