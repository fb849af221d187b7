use Rattle.std.proofs.Common.{◌≡◌, ◌∙◌, ap, ap₂, codes, true}
use Rattle.std.specs.Prelude.{◌||◌}
use Rattle.std.proofs.lemmas.Result.{IfOk-weaker}
use Rattle.clap.specs.Words.{App, Rule, Shape, app_of, new_rule, rule_of, with_rule, with_subcommand}
use Rattle.clap.specs.Simple.{app_of_fields}
use Rattle.ctr_words.specs.Words.{over_folder, with_pace, no_command}
use Rattle.ctr_words.proofs.words.simple.Goals as goal

abbrev folder : Rule
folder = record (new_rule (codes "DIR")) { required = true }

abbrev required : Rule → Rule
required r = record r { required = true }

abbrev top : App → Shape
top a = a.top

pub returns : goal.returns
returns c =
    let folder_1 : rule_of c.required.result ≡ folder = ap rule_of c.required.ensures ∙ ap required c.new-2.ensures.rule in
    let folder_2 : rule_of c.required-2.result ≡ folder = ap rule_of c.required-2.ensures ∙ ap required c.new-4.ensures.rule in
    let folder_3 : rule_of c.required-3.result ≡ folder = ap rule_of c.required-3.ensures ∙ ap required c.new-6.ensures.rule in
    let own_1 = ap (λ a. a.global) c.required.ensures ∙ c.new-2.ensures.optional.1 in
    let own_2 = ap (λ a. a.global) c.required-2.ensures ∙ c.new-4.ensures.optional.1 in
    let own_3 = ap (λ a. a.global) c.required-3.ensures ∙ c.new-6.ensures.optional.1 in
    let init : app_of c.in_ok-init.init ≡ over_folder (codes "init") = c.in_ok-init.ensures.shape own_1 ∙ ap₂ with_rule c.new.ensures.app folder_1 in
    let over : app_of c.in_ok-over.over ≡ over_folder (codes "run") = c.in_ok-over.ensures.shape own_2 ∙ ap₂ with_rule c.new-3.ensures.app folder_2 in
    let run : app_of c.in_ok-run.run' ≡ with_pace (over_folder (codes "run")) = c.in_ok-run.ensures.0 ∙ ap with_pace over in
    let report : app_of c.in_ok-report.report ≡ over_folder (codes "report") = c.in_ok-report.ensures.shape own_3 ∙ ap₂ with_rule c.new-5.ensures.app folder_3 in
    let local_1 = c.in_ok-init.ensures.globals ∙ ap₂ (λ x y. x || y) c.new.ensures.local own_1 in
    let local_over = c.in_ok-over.ensures.globals ∙ ap₂ (λ x y. x || y) c.new-3.ensures.local own_2 in
    let local_2 = c.in_ok-run.ensures.1 local_over in
    let local_3 = c.in_ok-report.ensures.globals ∙ ap₂ (λ x y. x || y) c.new-5.ensures.local own_3 in
    let none : app_of c.subcommand_required.result ≡ no_command = ap app_of_fields c.subcommand_required.ensures ∙ ap (λ f. app_of_fields (record f { subcommand_required = true })) c.no_binary_name.ensures
    ∙ ap (λ (a : App). record a { top = record a.top { no_binary_name = true; subcommand_required = true } }) c.new-7.ensures.app in
    let first = c.in_ok-subcommand.ensures.shape local_1 ∙ ap₂ with_subcommand none (ap top init) in
    let second = c.in_ok-subcommand-2.ensures.shape local_2 ∙ ap₂ with_subcommand first (ap top run) in
    let third = c.in_ok-subcommand-3.ensures.shape c.in_ok-load.ensures.1 ∙ ap₂ with_subcommand second (ap top c.in_ok-load.ensures.0) in
    IfOk-weaker c.subcommand-4.result _ _ (λ made adds. adds.shape local_3 ∙ ap₂ with_subcommand third (ap top report)) c.subcommand-4.ensures
