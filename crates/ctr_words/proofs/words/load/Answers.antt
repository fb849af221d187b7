use Rattle.std.proofs.Common.{◌≡◌, ◌∙◌, ap, ap₂, codes, true}
use Rattle.std.specs.Prelude.{◌||◌}
use Rattle.clap.specs.Words.{Rule, app_of, new_rule, rule_of, with_rule}
use Rattle.ctr_words.specs.Words.{over_folder, with_pace}
use Rattle.std.proofs.lemmas.Result.{IfOk-weaker}
use Rattle.ctr_words.proofs.words.load.Goals as goal

abbrev folder : Rule
folder = record (new_rule (codes "DIR")) { required = true }

abbrev required : Rule → Rule
required r = record r { required = true }

pub returns : goal.returns
returns c =
    let dir : rule_of c.required.result ≡ folder = ap rule_of c.required.ensures ∙ ap required c.new-2.ensures.rule in
    let own = ap (λ a. a.global) c.required.ensures ∙ c.new-2.ensures.optional.1 in
    let over : app_of c.in_ok-over.over ≡ over_folder (codes "load") = c.in_ok-over.ensures.shape own ∙ ap₂ with_rule c.new.ensures.app dir in
    let one = c.in_ok-of_sessions.ensures.shape c.sessions_option.ensures.1 ∙ ap₂ with_rule over c.sessions_option.ensures.0 in
    let two = c.in_ok-of_rounds.ensures.shape c.count_option.ensures.1 ∙ ap₂ with_rule one c.count_option.ensures.0 in
    let three = c.in_ok-drawn.ensures.shape c.seed_option.ensures.1 ∙ ap₂ with_rule two c.seed_option.ensures.0 in
    let local = c.in_ok-over.ensures.globals ∙ ap₂ (λ x y. x || y) c.new.ensures.local own in
    let local_one = c.in_ok-of_sessions.ensures.globals ∙ ap₂ (λ x y. x || y) local c.sessions_option.ensures.1 in
    let local_two = c.in_ok-of_rounds.ensures.globals ∙ ap₂ (λ x y. x || y) local_one c.count_option.ensures.1 in
    let local_three = c.in_ok-drawn.ensures.globals ∙ ap₂ (λ x y. x || y) local_two c.seed_option.ensures.1 in
    IfOk-weaker c.with_pace.result _ _ (λ made adds. (adds.0 ∙ ap with_pace three, adds.1 local_three)) c.with_pace.ensures
