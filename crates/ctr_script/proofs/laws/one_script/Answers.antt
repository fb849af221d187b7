use Rattle.ctr_script.proofs.OneScript.{LineFacts, scripts_one, refusals_one, script_not_refused}
use Rattle.ctr_script.proofs.AllScripts.{script_or_refused}
use Rattle.ctr_script.proofs.laws.one_script.Goals as goal

pub returns : goal.returns
returns c =
    let facts : LineFacts = record {
      one_lexing = c.one_lexing.ensures;
      said = c.one_reading.ensures.line.said;
      place = c.one_reading.ensures.line.place;
      never_both = c.one_reading.ensures.line.never_both;
      one_of_both = c.one_reading.ensures.line.one_of_both;
    } in
    record { said = scripts_one facts; place = refusals_one facts; never_both = script_not_refused facts; one_of_both = script_or_refused facts }
