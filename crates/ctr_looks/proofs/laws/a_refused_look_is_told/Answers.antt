use Rattle.std.proofs.Common.{◌≡◌, Option, Some, None, refl}
use Rattle.ctr_types.specs.declared.tape.Reply.TheVariants as reply
use Rattle.ctr_model.specs.declared.state.Transaction.{Transaction}
use Rattle.ctr_model.specs.State.{transaction_of}
use Rattle.ctr_session_world.specs.kept_Turns.{state_now, telling}
use Rattle.ctr_session_world.specs.stops_World.{KeepsWorld}
use Rattle.ctr_session_world.proofs.Resting.{refused_told}
use Rattle.ctr_session_world.proofs.Standing.{comes}
use Rattle.ctr_looks.proofs.Unrefused.{in_turn}
use Rattle.ctr_looks.proofs.laws.a_refused_look_is_told.Goals as goal

pub returns : goal.returns
returns g c = λ run opened a b h s statement next x look first why allowed rested.
    let state = state_now run next.mind in
    let come = comes g.D.Disk run opened a b h s statement 0 next x (reply.Refused why) (first state s) (in_turn state s x look) allowed in
    refused_told g.D.Disk run opened a b h s statement 0 next x why rested
    (elim (transaction_of state s) as (λ (o : Option Transaction). transaction_of state s ≡ o → KeepsWorld g.D.Disk run opened b (telling next.e x (reply.Refused why) next.mind next.mind)) [
      | Some t ↦ λ is.
          let its = next.world.keeps.walks.scene.shown.paged.shows.inside s t is in
          c.a_refusal_is_told.ensures.inside run opened a b next.mind s (record { keeps = next.world.keeps; seat = record { session = its.0; t = t; at = its.1; is_t = is }; e = next.e; at_end = next.at_end }) x why come rested
      | None ↦ λ is. c.a_refusal_is_told.ensures.outside run opened a b next.mind s (record { keeps = next.world.keeps; none = is; e = next.e; at_end = next.at_end }) x why come rested
    ] refl)
