use Rattle.std.proofs.Common.{sym, ◌∙◌, ap, arith}
use Rattle.std.specs.Prelude.{◌&&◌}
use Rattle.std.proofs.lemmas.Bool.{and_parts}
use Rattle.ctr_names.specs.meta_Seen.{xid_is_seen}
use Rattle.ctr_names.specs.area_Images.{is_named_so, is_standing}
use Rattle.ctr_names.specs.Search.{finds}
use Rattle.ctr_names.proofs.Fates.{found_same}
use Rattle.ctr_catalog.proofs.Searched.{seen_stands, stands_alike}
use Rattle.ctr_catalog.proofs.showing.what_find_answers_is_found.Goals as goal

pub returns-clause-found : goal.returns-clause-found
returns-clause-found c = λ counted tables area xids look me check f sound are is ends.
    let u = area.title f in
    let both = and_parts (is_named_so look.name (f, u)) (is_standing (xid_is_seen tables look.session.snapshot me) u) (sym (seen_stands tables look.session.snapshot look.name area f me) ∙ ends.4) in
    (ends.1, both.0, sym (stands_alike (xid_is_seen tables look.session.snapshot me) (finds xids look.session) (found_same counted tables area sound xids are look.session me is) u) ∙ both.1)

pub returns-clause-none : goal.returns-clause-none
returns-clause-none c = λ counted tables area xids look me check sound are is passes f lt named.
    let u = area.title f in
    sym (stands_alike (xid_is_seen tables look.session.snapshot me) (finds xids look.session) (found_same counted tables area sound xids are look.session me is) u)
    ∙ sym (ap (λ b. b && is_standing (xid_is_seen tables look.session.snapshot me) u) named)
    ∙ sym (seen_stands tables look.session.snapshot look.name area f me) ∙ (passes f (omega arith) lt).1
