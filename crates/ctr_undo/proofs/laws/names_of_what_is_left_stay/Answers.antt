use Rattle.std.proofs.Common.{◌∙◌, sym, ap, subst}
use Rattle.ctr_area.specs.Sound.{IsAmong}
use Rattle.ctr_record_laws.proofs.Members.{among_front}
use Rattle.ctr_names.specs.Held.{names_of_items}
use Rattle.ctr_record_effects.specs.States.{area_in}
use Rattle.ctr_actions.specs.Sites.{Site, site_of}
use Rattle.ctr_undo.proofs.Staying.{names_stay, names_kept, names_go}
use Rattle.ctr_undo.proofs.laws.names_of_what_is_left_stay.Goals as goal

pub returns-clause-stay : goal.returns-clause-stay
returns-clause-stay c = λ x a s t u may acts.
    ap (λ (z : Site). names_of_items z.area.title u.items) acts.does.leaves
    ∙ names_stay x a (site_of s) u.items may.sound.sound acts.does.owed (λ i in_. subst (IsAmong i) (sym may.left.items) (among_front i u.items may.left.run in_))

pub returns-clause-named : goal.returns-clause-named
returns-clause-named c = λ s t u may named.
    names_kept (site_of s) (area_in t).title u.items may.sound.sound named (λ i in_. subst (IsAmong i) (sym may.left.items) (among_front i u.items may.left.run in_))

pub returns-clause-go : goal.returns-clause-go
returns-clause-go c = λ item u v site goes. names_go item u v site goes
