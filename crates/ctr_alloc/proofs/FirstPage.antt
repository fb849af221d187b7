-- There is a page 0.
use Rattle.std.proofs.Common.{◌<◌, arith}
use Rattle.ctr_actions.specs.ctr_redo.States.{page_limit}

pub first_page_there : 0 < page_limit
unfolding page_limit
first_page_there = omega arith
