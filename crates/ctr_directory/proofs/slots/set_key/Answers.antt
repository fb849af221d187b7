use Rattle.std.proofs.Common.{None, ◌∙◌}
use Rattle.std.proofs.lemmas.Result.{on_ok_weaker}
use Rattle.ctr_directory.specs.Keys.{with_key}
use Rattle.ctr_directory.proofs.Leading.{leads_same, unchanged, twice, got}
use Rattle.ctr_directory.proofs.slots.set_key.Goals as goal

pub returns : goal.returns
returns c keys leads has =
    let m = c.fill_key.new.places in
    let at = c.args.at in
    on_ok_weaker c.fill_key.result (λ l. leads_same (with_key at c.args.after (with_key at None keys)) (with_key at c.args.after keys) m (twice keys at None c.args.after) l)
    (c.fill_key.ensures (with_key at None keys) (c.clear_key.ensures keys leads has) (got keys at None))

pub returns-then-is_same : goal.returns-then-is_same
returns-then-is_same c keys leads has = leads_same keys (with_key c.args.at c.args.after keys) c.args.places.now (unchanged keys c.args.at c.args.after (has ∙ c.is_same.ensures c.if-is_same.true)) leads
