use Rattle.std.proofs.Common.{◌++◌, ◌∙◌, ap, option_and_then}
use Rattle.std.specs.Option.{option_copied}
use Rattle.ctr_model.specs.Database.{table_at}
use Rattle.ctr_model.specs.Refusals.{key_locked, first_of, presence_refusals, name_refusals, value_refusals, key_refusals, table_refusals}
use Rattle.ctr_machine.proofs.Causes.{either, first_of_four}
use Rattle.ctr_machine.proofs.reply.refusal_of.Goals as goal

pub returns : goal.returns
returns c =
    let state = c.args.state.now in
    let s = c.args.session in
    let me = c.args.me.now in
    let statement = c.args.statement.now in
    let name = c.in_ok-name.name.now in
    let table = option_copied c.get-table.result in
    let key = key_locked c.args.act.now statement in
    let causes = λ (t : _). first_of (presence_refusals statement t ++ name_refusals state s me statement name ++ value_refusals statement t ++ key_refusals state s me name key) in
    c.first.ensures
    ∙ ap (either c.table_refusal.result) (c.first-held.ensures ∙ ap (either c.name_refusal.result) c.first-late.ensures)
    ∙ first_of_four (presence_refusals statement table) (name_refusals state s me statement name) (value_refusals statement table) (key_refusals state s me name key) c.table_refusal.ensures c.name_refusal.ensures c.value_refusal.ensures (c.key_refusal.ensures ∙ ap (λ k. first_of (key_refusals state s me name k)) c.key_locked.ensures)
    ∙ ap causes (c.get-table.ensures ∙ ap (λ db. table_at db name) c.requires)
    ∙ ap (option_and_then (λ n. first_of (table_refusals state s me c.args.act.now statement n))) (c.in_ok-name.ensures)
