use Rattle.std.proofs.Common.{◌≡◌, ℕ, Option, Some, sym, ◌∙◌, ap}
use Rattle.std.specs.Prelude.{slice_get, is_some, unwrap_or}
use Rattle.ctr_actions.proofs.versions_Keys.{some_is}
use Rattle.ctr_clean.proofs.Listed.{heads_here}
use Rattle.ctr_clean.proofs.lists.without_head.Goals as goal

pub returns-then-heads-eq0 : goal.returns-then-heads-eq0
returns-then-heads-eq0 c =
    let x = c.in-Some.x in
    let there : slice_get c.args.meta.now.tables.aborted c.args.place ≡ Some (x, 0) = sym c.aborted_at.ensures ∙ c.in-Some.is ∙ ap (λ n. Some (x, n)) c.if-heads-eq0.true in
    let heads = heads_here c.args.meta.now.tables.aborted c.args.place x 0 c.next-next.ensures.xids.aborted_once there in
    (there, record { gone = ap is_some heads; none = ap (λ (o : Option ℕ). unwrap_or o 0) heads })

pub returns-else-heads-eq0 : goal.returns-else-heads-eq0
returns-else-heads-eq0 c = λ x heads there owed.
    let same : (c.in-Some.x, c.in-Some.heads) ≡ (x, heads) = some_is (c.in-Some.x, c.in-Some.heads) (x, heads) (sym c.in-Some.is ∙ c.aborted_at.ensures ∙ there) in
    c.if-heads-eq0.false
    (ap (λ (p : ℕ × ℕ). p.1) same
    ∙ sym (ap (λ (o : Option ℕ). unwrap_or o 0) (heads_here c.args.meta.now.tables.aborted c.args.place x heads c.next-next.ensures.xids.aborted_once there))
    ∙ owed.none)
