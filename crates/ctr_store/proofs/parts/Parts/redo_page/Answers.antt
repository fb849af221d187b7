use Rattle.std.proofs.Common.{◌≡◌, ◌∙◌, ◌==◌, ◌≤◌, ◌<◌, ◌+◌, if◌then◌else◌, ℕ, Ok, refl, sym, ap, subst, arith}
use Rattle.std.specs.Prelude.{IsTrue, ⊤}
use Rattle.std.specs.Option.{option_map}
use Rattle.ctr_base.specs.pool_Frames.{frame_of, after_change, page_shown, kept_or}
use Rattle.ctr_base.specs.redo_States.{next_of}
use Rattle.ctr_base.specs.Base.{stored_of, home_of}
use Rattle.ctr_store.specs.PageChecks.{PagePasses, PageFails, FindsPage}
use Rattle.ctr_store.specs.Parts.{BringsOver}
use Rattle.ctr_store.specs.Redo.{RedoesPages}
use Rattle.ctr_disk.specs.declared.disk.Disk.{Ghosts}
use Rattle.ctr_disk.specs.Image.{Image}
use Rattle.ctr_rec.specs.declared.record.Record.{Record}
use Rattle.ctr_base.specs.declared.base.Base.{Base}
use Rattle.ctr_base.specs.Homes.{PassesHome}
use Rattle.ctr_base.specs.ctr_home.Reading.{IsFaultOr}
use Rattle.std.proofs.lemmas.Result.{err_from_is_err_and}
use Rattle.ctr_store.specs.declared.parts.Parts.{Parts}
use Rattle.ctr_store.proofs.RecordLaws.{on_page, off_page, frame_there, inside_of, page_of_touch}
use Rattle.ctr_store.proofs.RedoFinds.{finds_passes, finds_fails, finds_seen}
use Rattle.ctr_store.proofs.RedoLaws.{redo_moved, redo_off, redo_on}
use Rattle.ctr_store.proofs.parts.Parts.redo_page.Given.{Over}
use Rattle.ctr_store.proofs.parts.Parts.redo_page.Goals.{After-bring}
use Rattle.ctr_store.proofs.parts.Parts.redo_page.Goals as goal

-- the page was brought in: the pool shows what it did, and its checks pass
module _ (g : Over) (c : After-bring g) (start : Base g.row.D.Denot g.row.O.Denot) (n : ℕ) (r : Record) (told : IsTrue g.D.Disk.tells) (doing : RedoesPages g.O.Origin.first g.D.Disk start n c.args.self.now) (inside : c.args.overlay.now.page < start.root.pages)
    (stays : BringsOver g.O.Origin.first g.D.Disk c.args.self.now c.bring.new.self) (found : FindsPage {T = ⊤} g.O.Origin.first g.D.Disk c.args.overlay.now.page c.args.self.now c.bring.new.self (Ok tt)) where
  abbrev d : Ghosts g.row.D.Denot
  d = g.D.Disk

  abbrev i : Image
  i = g.O.Origin.first

  brought : RedoesPages i d start n c.bring.new.self
  brought = redo_moved i d start n c.args.self.now c.bring.new.self doing stays.moves c.bring.ensures.keeps.0 stays.shows stays.over (finds_seen i d start n c.args.overlay.now.page c.args.self.now c.bring.new.self doing inside c.bring.ensures.keeps.0 found stays.over.at_rest)

  passes : PassesHome (next_of (stored_of d start)) c.args.overlay.now.page i
  passes = finds_passes i d start n c.args.overlay.now.page c.args.self.now c.bring.new.self doing inside c.bring.ensures.keeps.0 found stays.over.at_rest

pub returns-then-lsn-clause-redone : goal.returns-then-lsn-clause-redone
returns-then-lsn-clause-redone g c start n r told doing next is at =
    let d = g.D.Disk in
    let i = g.O.Origin.first in
    let t = c.bring.new.self in
    let e = c.in_ok-bring.ensures in
    let o = c.args.overlay.now in
    let inside = inside_of start.root.pages r o is next.counted in
    let behind = (goal.at.returns-then-lsn-clause-redone g c).After-bring in
    let mid = brought g behind start n r told doing inside (e.stays told) (e.finds told) in
    let fine = subst (PagePasses (next_of (stored_of d start)) i) (sym is) (passes g behind start n r told doing inside (e.stays told) (e.finds told)) in
    let frame = frame_there o.page t.pool.frames e.there.0 in
    let low = c.lsn.ensures frame.0 frame.1 in
    redo_off i d start n r next t mid fine
    (λ q on.
    let same = page_of_touch r o q is on in
    subst (λ (m : ℕ). start.root.first + n ≤ (page_shown t.pool.frames m (home_of d t.base m)).lsn) (sym same)
    (subst (λ x. start.root.first + n ≤ (kept_or (home_of d t.base o.page) x).lsn) (sym frame.1) (omega (arith, low, at))))

pub returns-clause-redone : goal.returns-clause-redone
returns-clause-redone g c start n r told doing next is at =
    let d = g.D.Disk in
    let i = g.O.Origin.first in
    let m = c.bring.new.self in
    let t : Parts g.row.D.Denot g.row.O.Denot = record m { pool = c.change.new.self } in
    let e = c.in_ok-bring.ensures in
    let o = c.args.overlay.now in
    let inside = inside_of start.root.pages r o is next.counted in
    let behind = (goal.at.returns-clause-redone g c).After-bring in
    let mid = brought g behind start n r told doing inside (e.stays told) (e.finds told) in
    let fine = subst (PagePasses (next_of (stored_of d start)) i) (sym is) (passes g behind start n r told doing inside (e.stays told) (e.finds told)) in
    let fs = m.pool.frames in
    let frame = frame_there o.page fs e.there.0 in
    let low = c.lsn.ensures frame.0 frame.1 in
    let gs = c.change.new.self.frames in
    let changed : (q : ℕ) → frame_of q gs ≡ (if o.page == q then option_map (after_change o (start.root.first + n)) (frame_of q fs) else frame_of q fs) = λ q.
    c.change.ensures.frames q ∙ ap (λ (k : ℕ). if o.page == q then option_map (after_change o k) (frame_of q fs) else frame_of q fs) at in
    redo_on i d start n r next m mid o frame.0 gs is (off_page r o is) (on_page o) frame.1 (omega (arith, low, at)) fine changed t refl refl

pub returns-in_err-bring-clause-fails : goal.returns-in_err-bring-clause-fails
returns-in_err-bring-clause-fails g c start n r told doing next is =
    let d = g.D.Disk in
    let i = g.O.Origin.first in
    let p = err_from_is_err_and c.from_residual.result c.from_residual.ensures.1 in
    let o = c.args.overlay.now in
    let e = c.in_err-bring.field-0.0 in
    let inside = inside_of start.root.pages r o is next.counted in
    rw (p.1, p.2)
    (subst (λ x. IsFaultOr (PageFails (next_of (stored_of d start)) i x) e) (sym is)
    (finds_fails i d start n o.page c.args.self.now c.bring.new.self doing inside c.bring.ensures.keeps.0 e (c.in_err-bring.ensures.finds told)))
