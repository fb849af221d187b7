use Rattle.std.proofs.Common.{◌<◌, ℕ, Option, sym, subst}
use Rattle.std.specs.Prelude.{IfOk, IfSome}
use Rattle.ctr_alloc.proofs.walk_Searches.{ends_there, ok_on}
use Rattle.ctr_catalog.specs.Free.{EndsFreeEntry}
use Rattle.ctr_catalog.proofs.Lowest.{in_limit, few_found}
use Rattle.ctr_catalog.proofs.store.free_on.Goals as goal

pub returns-clause-ends : goal.returns-clause-ends
returns-clause-ends g c = λ told sound.
    ends_there c.args.page (EndsFreeEntry c.args.counted) c.find_free.result c.found_on.result _ _ c.found_on.ensures (c.in_ok-bytes.ensures.shown told sound (in_limit c.args.page c.requires.there)) c.find_free.ensures

pub returns-clause-few : goal.returns-clause-few
returns-clause-few g c =
    let few : Option ℕ → Type 0 = λ found. IfSome found (λ n. n < 16) in
    subst (λ r. IfOk r few) (sym c.found_on.ensures) (ok_on c.args.page few c.find_free.result (few_found c.args.counted _ c.find_free.result c.find_free.ensures))
