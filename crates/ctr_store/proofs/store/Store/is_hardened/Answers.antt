use Rattle.std.proofs.Common.{◌≡◌, [], sym, ◌∙◌, subst}
use Rattle.std.proofs.lemmas.Bool.{eqb-true, eq-eqb}
use Rattle.ctr_store.specs.Store.{View}
use Rattle.ctr_store.proofs.Hardened.{none_waits, no_byte}
use Rattle.ctr_store.proofs.store.Store.is_hardened.Goals as goal

pub returns-clause-yes : goal.returns-clause-yes
returns-clause-yes g c is = subst (λ (v : View g.row.D.Denot). v.waiting ≡ []) c.self.view_is
    (none_waits c.self.inside.parts.base.log (sym c.bytes_waiting.ensures ∙ eqb-true c.bytes_waiting.result 0 is))

pub returns-clause-no : goal.returns-clause-no
returns-clause-no g c none = eq-eqb c.bytes_waiting.result 0
    (c.bytes_waiting.ensures ∙ no_byte c.self.inside.parts.base.log c.self.invariant.buffer (subst (λ (v : View g.row.D.Denot). v.waiting ≡ []) (sym c.self.view_is) none))
