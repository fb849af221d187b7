use Rattle.std.proofs.Common.{ℕ, List, length, sym, ◌∙◌, ap}
use Rattle.std.proofs.lemmas.Bool.{false≢true}
use Rattle.ctr_extend.specs.page_turns_Turns.{Reads}
use Rattle.ctr_extend.specs.record_effects_States.{area_in}
use Rattle.ctr_extend.specs.passed_Laid.{width_in}
use Rattle.ctr_write.proofs.Narrow.{table_narrow}
use Rattle.ctr_write.proofs.Refusing.{entry_has_place}
use Rattle.ctr_write.proofs.keeping.keep_off.Goals as goal

pub returns-then-not-entry_lies-clause-turns : goal.returns-then-not-entry_lies-clause-turns
returns-then-not-entry_lies-clause-turns g c = λ a one. Reads (c.misfit.ensures.leaves a one)

pub returns-clause-turns : goal.returns-clause-turns
returns-clause-turns g c = λ a one. c.a_turn_goes_on.ensures.behind g.O.Origin.first a c.args.store.now c.lay.new.store tt c.lay.result one c.lay.ensures.turns

pub returns-then-not-entry_lies-clause-refused : goal.returns-then-not-entry_lies-clause-refused
returns-then-not-entry_lies-clause-refused g c = λ e at v told sound may copy.
    let s = c.args.store.now.now in
    let q = c.args.place in
    let fits = c.a_place_of_a_table_fits.ensures.versions s e q may.sound may.free.0 in
    let wide = ap (λ (l : List ℕ). length l) c.as_slice-width.ensures ∙ copy.made.is.version.2 in
    let lies = entry_has_place q (length c.as_slice-width.result.now) (width_in (area_in s) e) wide (table_narrow s e at may.sound copy.used.0) fits.5 in
    absurd (false≢true (sym c.if-not-entry_lies.true ∙ c.entry_lies.ensures.1 lies))
