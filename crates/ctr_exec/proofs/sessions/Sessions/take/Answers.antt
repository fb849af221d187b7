use Rattle.std.proofs.Common.{◌-◌, ◌<◌, ◌∙◌, sym, length, arith}
use Rattle.ctr_exec.specs.Runners.{vacant}
use Rattle.ctr_exec.proofs.Places.{same_default, taken_line}
use Rattle.ctr_exec.proofs.sessions.Sessions.take.Goals as goal

pub returns-clause-inside : goal.returns-clause-inside
returns-clause-inside c =
    let low = c.requires.one.0 in
    let high = c.requires.one.1 in
    let within : c.args.s - 1 < length c.args.self.now.runners.items = omega (arith, low, high) in
    let found = same_default c.args.self.now.runners.items (c.args.s - 1) vacant c.index_mut-runner.result.now within ∙ sym c.index_mut-runner.ensures.value in
    (taken_line c.args.self.now.script.lines c.args.s _ c.index_mut-runner.result.now c.requires.of c.requires.more found c.as_slice.result.now c.as_slice.ensures).0

pub returns-clause-line : goal.returns-clause-line
returns-clause-line c =
    let low = c.requires.one.0 in
    let high = c.requires.one.1 in
    let within : c.args.s - 1 < length c.args.self.now.runners.items = omega (arith, low, high) in
    let found = same_default c.args.self.now.runners.items (c.args.s - 1) vacant c.index_mut-runner.result.now within ∙ sym c.index_mut-runner.ensures.value in
    (taken_line c.args.self.now.script.lines c.args.s _ c.index_mut-runner.result.now c.requires.of c.requires.more found c.as_slice.result.now c.as_slice.ensures).1
