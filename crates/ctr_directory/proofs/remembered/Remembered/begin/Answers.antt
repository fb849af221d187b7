use Rattle.std.proofs.Common.{[], length, take, refl, sym, ◌∙◌, ap, subst, arith}
use Rattle.std.specs.Prelude.{nat_eq}
use Rattle.std.specs.List.{list_any}
use Rattle.std.proofs.lemmas.Bool.{false≢true}
use Rattle.ctr_directory.specs.Chains.{BucketSaid}
use Rattle.ctr_directory.proofs.Keeping.{none_there}
use Rattle.ctr_directory.proofs.remembered.Remembered.begin.Goals as goal

pub returns : goal.returns
returns c = λ pages is known.
    let kinds = take c.in-Some.said.count c.in-Some.said.kinds in
    let t = c.forget.new.self in
    record {
      said = subst (λ page. BucketSaid c.args.counted c.args.entry c.args.bucket page kinds c.in-Some.said.first) (sym is) c.in-Some.ensures.said;
      chain = [];
      runs = refl;
      few = omega (arith, c.requires.some);
      long = sym (ap length c.forget.ensures.empty.0);
      there = λ p. ap (λ ks. list_any (nat_eq p) ks) c.forget.ensures.empty.0;
      leads = none_there t.pages t.places kinds pages c.forget.ensures.empty.0 c.forget.ensures.empty.1;
      spares = λ p in_ out. absurd (false≢true (sym (ap (λ ks. list_any (nat_eq p) ks) c.forget.ensures.empty.0) ∙ in_));
    }
