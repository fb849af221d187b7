use Rattle.std.proofs.Common.{sym, ◌∙◌, ap}
use Rattle.std.specs.Prelude.{◌&&◌, is_some}
use Rattle.std.proofs.lemmas.Bool.{and_parts}
use Rattle.ctr_names.specs.area_Images.{is_named_so}
use Rattle.ctr_names.specs.Search.{is_changed_for}
use Rattle.ctr_names.proofs.Told.{changed_told, steady_untold}
use Rattle.ctr_catalog.proofs.Searched.{changed_made}
use Rattle.ctr_catalog.proofs.showing.what_changed_answers_is_told.Goals as goal

pub returns-clause-changed : goal.returns-clause-changed
returns-clause-changed c = λ counted low tables area xids state look f x sound names looks lt is.
    let s = look.session.snapshot in
    let both = and_parts (is_named_so look.name (f, area.title f)) (is_changed_for tables s (area.title f)) (sym (changed_made tables s look.name area f) ∙ ap is_some is) in
    changed_told counted low tables area xids state look sound names looks f lt both.0 both.1

pub returns-clause-steady : goal.returns-clause-steady
returns-clause-steady c = λ counted low tables area xids state look sound names looks none.
    let s = look.session.snapshot in
    steady_untold counted low tables area xids state look sound names looks
    (λ f lt named. sym (ap (λ b. b && is_changed_for tables s (area.title f)) named) ∙ sym (changed_made tables s look.name area f) ∙ ap is_some (none f lt))
