use Rattle.std.proofs.Common.{inl, inr, refl, sym, ◌∙◌, subst}
use Rattle.ctr_versions.proofs.Keys.{some_is}
use Rattle.ctr_looks.specs.kept_Turns.{state_now}
use Rattle.ctr_looks.specs.stops_World.{KeepsWorld}
use Rattle.ctr_looks.specs.ctr_write.declared.stages.Stage.TheVariants.{Looking}
use Rattle.ctr_looks.specs.ctr_write.declared.stages.Written.TheVariants as written
use Rattle.ctr_looks.specs.ctr_write.Laying.{Wish}
use Rattle.ctr_looks.specs.ctr_write.Steps.{EndsWrite}
use Rattle.ctr_looks.specs.txn_Held.{number_drawn}
use Rattle.ctr_looks.specs.ctr_wishes.declared.making.Prepared.TheVariants.{Refused, Lays}
use Rattle.ctr_writing.specs.Rows.{wish_by}
use Rattle.ctr_writing.proofs.Rowing.{carries_itself, done_comes, done_told, goes_on, idle_here, idle_refused, of_statement, refused_by, refused_full, wished, writes, went}
use Rattle.ctr_writing.proofs.Titles.{titles_stay}
use Rattle.ctr_writing.proofs.laws.a_turn_of_a_row_is_told.Goals as goal

pub returns-clause-on : goal.returns-clause-on
returns-clause-on g c = λ run opened a b h s statement next e key head stage then one small keyed at ends between rested now run_now.
    let D = g.D.Disk in
    let finds = c.the_run_is_of_the_sessions.ensures.found in
    let may = c.a_session_may_count_on_what_holds.ensures in
    let its = writes D run opened a b h s statement next one finds e (Lays head) stage at may head refl small in
    let wish = wished D run opened a b h s statement next one finds e (Lays head) stage at may head refl small key keyed in
    let on = c.a_write_that_goes_on_is_kept.ensures run opened a b _ its then (subst (λ (l : Wish). EndsWrite l stage a.now b.now (written.On then)) wish ends) rested in
    went D run opened a b h s statement next one finds e (Lays head) stage at may head refl
    (titles_stay a.now b.now (wish_by (number_drawn s h.txns) e key head) stage (written.On then) ends) now run_now then on.0 on.1 on.2 then between refl

pub returns-clause-done : goal.returns-clause-done
returns-clause-done g c = λ run opened a b h s statement next e key head stage one small keyed at inside ends rested.
    let D = g.D.Disk in
    let finds = c.the_run_is_of_the_sessions.ensures.found in
    let may = c.a_session_may_count_on_what_holds.ensures in
    let its = writes D run opened a b h s statement next one finds e (Lays head) stage at may head refl small in
    let wish = wished D run opened a b h s statement next one finds e (Lays head) stage at may head refl small key keyed in
    let replies = c.what_is_prepared_stays_the_models.ensures.reply (state_now run next.mind) s at.may.t at.may.title.columns statement (Lays head) at.may.models in
    let comes = done_comes D run opened a b h s statement next one finds e (Lays head) stage at may head refl small replies in
    let of = of_statement D run opened a b h s statement next one finds e (Lays head) stage at may head refl small replies inside in
    let keeps = c.a_row_that_is_written_is_told.ensures run opened a b _ its next.e of comes next.at_end (subst (λ (l : Wish). EndsWrite l stage a.now b.now written.Done) wish ends) rested in
    done_told D run opened a b h s statement next one finds e (Lays head) stage at may head refl small replies
    (titles_stay a.now b.now (wish_by (number_drawn s h.txns) e key head) stage written.Done ends) keeps

pub returns-clause-grown : goal.returns-clause-grown
returns-clause-grown g c = λ run opened a b h s statement next e key head stage one keyed at ends keeps.
    let D = g.D.Disk in
    let finds = c.the_run_is_of_the_sessions.ensures.found in
    let wish = wish_by (number_drawn s h.txns) e key head in
    let here = idle_here D run opened a b h s statement next one finds e (Lays head) stage at head refl wish (some_is key at.may.key (sym keyed ∙ at.may.written)) refl written.Grown (inl refl) ends in
    goes_on D run opened a b h s statement next one finds e (Lays head) stage at c.a_session_may_count_on_what_holds.ensures (titles_stay a.now b.now wish stage written.Grown ends) (next.mind.facts s)
    (subst (KeepsWorld D run opened b) (sym (carries_itself s next.mind)) keeps)
    (λ d l in_. in_) h.txns refl Looking here.1

pub returns-clause-full : goal.returns-clause-full
returns-clause-full g c = λ run opened a b h s statement next e key head stage one keyed at ends rested.
    let D = g.D.Disk in
    let finds = c.the_run_is_of_the_sessions.ensures.found in
    let wish = wish_by (number_drawn s h.txns) e key head in
    let here = idle_here D run opened a b h s statement next one finds e (Lays head) stage at head refl wish (some_is key at.may.key (sym keyed ∙ at.may.written)) refl written.Full (inr refl) ends in
    let replies = c.what_is_prepared_stays_the_models.ensures.reply (state_now run next.mind) s at.may.t at.may.title.columns statement (Lays head) at.may.models in
    refused_full D run opened a b h s statement next one finds e (Lays head) stage at here.1 rested c.a_refusal_is_told.ensures.inside head refl replies
    (c.a_write_without_a_record.ensures.full wish stage a.now b.now ends)

pub returns-clause-refused : goal.returns-clause-refused
returns-clause-refused g c = λ run opened a b h s statement next e why stage one at rested.
    let D = g.D.Disk in
    let finds = c.the_run_is_of_the_sessions.ensures.found in
    let replies = c.what_is_prepared_stays_the_models.ensures.reply (state_now run next.mind) s at.may.t at.may.title.columns statement (Refused why) at.may.models in
    refused_by D run opened a b h s statement next one finds e (Refused why) stage at (idle_refused D run opened a b h s statement next one finds e (Refused why) stage at why refl) rested c.a_refusal_is_told.ensures.inside why refl replies
