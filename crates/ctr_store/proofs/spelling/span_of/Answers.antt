use Rattle.std.proofs.Common.{◌+◌, List, length, refl, sym, ap}
use Rattle.ctr_store.proofs.Recalling.{clears, lays}
use Rattle.ctr_store.proofs.spelling.span_of.Goals as goal

pub returns-then-overlay : goal.returns-then-overlay
returns-then-overlay c = λ body whole. clears (record { from = 0; to = 4096 }) body _ refl refl

pub returns : goal.returns
returns c = λ body whole.
    let o = c.args.overlay.now in
    lays o (record { from = o.offset; to = o.offset + length c.as_slice.result.now }) body c.if-overlay.false refl (ap (λ (l : List _). o.offset + length l) c.as_slice.ensures) c.requires whole
