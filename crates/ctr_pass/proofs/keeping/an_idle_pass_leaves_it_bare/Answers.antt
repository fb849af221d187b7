use Rattle.std.proofs.Common.{None, subst, arith}
use Rattle.ctr_cleaner.specs.clean_Lists.{HasNoFree}
use Rattle.ctr_pass.specs.declared.pass.Phase.TheVariants.{Idle}
use Rattle.ctr_pass.specs.Keeping.{HasFoundNone, IsInPhase}
use Rattle.ctr_pass.proofs.Noted.{undisturbed}
use Rattle.ctr_pass.proofs.keeping.an_idle_pass_leaves_it_bare.Goals as goal

pub returns : goal.returns
returns c = λ p v keeps idle rest none database.
    let was = undisturbed p v.next v.tape Idle (λ no. cc no) idle in
    let its : HasFoundNone v.state None × HasNoFree v.undos v.state.tables = subst (λ f. IsInPhase f v.undos p.at v.state) was.1 (keeps.phase was.0 rest) in
    c.a_pass_that_finds_nothing_leaves_it_bare.ensures v.state v.state.tables.next its.0.passed database rest.opens (omega arith) (subst (λ n. HasNoFree n v.state.tables) none its.1) its.0.goes its.0.found
