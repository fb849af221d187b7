use Rattle.std.proofs.Common.{◌≡◌, ℕ, false, List, Some, is_some, sym, ap, subst, ◌∙◌, OnOk}
use Rattle.ctr_pool.specs.Pages.{PageHeld}
use Rattle.ctr_pool.specs.Below.{PutsPage}
use Rattle.ctr_pool.specs.Frames.{frame_of, has_page, page_of}
use Rattle.ctr_pool.specs.Kept.{FrameList}
use Rattle.ctr_pool.proofs.FrameLaws.{stands}
use Rattle.ctr_pool.proofs.PlacedLaws.{apart}
use Rattle.ctr_pool.proofs.frames.Frames.save.Goals as goal

pub save-requires-clause-takes : goal.save-requires-clause-takes
save-requires-clause-takes g c told =
    let d = g.B.Backing in
    let fs = c.self.inside.items.items in
    let to : fs ≡ c.args.self.now.frames = ap (λ (v : FrameList). v.frames) c.self.view_is in
    let x = c.index-frame.result.now in
    let at_is = stands fs c.args.self.now.frames c.in-Some.at c.args.page x (sym to) (apart c.self.inside.places.entries fs c.self.invariant.0) c.in-Some.ensures.there c.index-frame.ensures in
    let all = c.requires.takes told x (ap (frame_of c.args.page) (sym to) ∙ at_is.frame) in
    let v : page_of x ≡ record { lsn = x.lsn; body = c.as_slice.result.now } = ap (λ (b : List ℕ). record { lsn = x.lsn; body = b }) (sym c.as_slice.ensures.bytes) in
    (all.0, all.1, subst (λ (h : PageHeld). d.may_be_saved c.args.backing.now c.args.page all.1 h) v all.2)

pub unreachable-requires : goal.unreachable-requires
unreachable-requires g c =
    let out : has_page c.args.page c.args.self.now.frames ≡ false = ap is_some c.in-None.ensures.none in
    let there = c.requires.there in
    absurd cc

pub returns-clause-saved : goal.returns-clause-saved
returns-clause-saved g c told f is =
    let d = g.B.Backing in
    let fs = c.self.inside.items.items in
    let to : fs ≡ c.args.self.now.frames = ap (λ (v : FrameList). v.frames) c.self.view_is in
    let x = c.index-frame.result.now in
    let at_is = stands fs c.args.self.now.frames c.in-Some.at c.args.page x (sym to) (apart c.self.inside.places.entries fs c.self.invariant.0) c.in-Some.ensures.there c.index-frame.ensures in
    let both : Some x ≡ Some f = sym at_is.frame ∙ ap (frame_of c.args.page) to ∙ is in
    let one : x ≡ f = cc in
    let v : record { lsn = x.lsn; body = c.as_slice.result.now } ≡ page_of f = ap (λ (b : List ℕ). record { lsn = x.lsn; body = b }) c.as_slice.ensures.bytes ∙ ap page_of one in
    subst (λ (h : PageHeld). OnOk c.save.result (PutsPage d.held d.may_be_saved c.args.page h c.args.backing.now c.save.new.self)) v (c.save.ensures.saved told)
