use Rattle.std.proofs.Common.{◌≡◌, ◌∙◌, ⊎_elim, ap, map, true, refl, subst, sym}
use Rattle.std.specs.String.{string_bytes}
use Rattle.clap.proofs.OnLiterals.{clap_on_literals}
use Rattle.clap.specs.Words.{HasKind, fault_of, is_simple, is_simple_and_free, kind_of, subcommand_of}
use Rattle.ctr_words.specs.Words.{has_folder, simple_command}
use Rattle.ctr_words.proofs.WordLemmas.{all_read, taken, refused}
use Rattle.ctr_words.specs.Read.{IsRunRead}
use Rattle.std.specs.Prelude.{IfSome}
use Rattle.ctr_words.proofs.words.parse.Goals as goal

is_free : is_simple_and_free simple_command ≡ true
unfolding clap_on_literals
is_free = refl

is_plain : is_simple simple_command ≡ true
unfolding clap_on_literals
is_plain = refl

pub returns-in-Ok : goal.returns-in-Ok
returns-in-Ok c =
    let words = map string_bytes c.args.words.now in
    let app = c.in_ok-command.ensures in
    let folder : has_folder words ≡ true = sym c.is_over_folder.ensures ∙ c.if-not-is_over_folder.false in
    let fine = sym (ap (λ a. fault_of a words) app) ∙ c.in-Ok.ensures.kinds (ap is_simple_and_free app ∙ is_free) in
    let rows = (c.in-Ok.ensures.matches (ap is_simple app ∙ is_plain)).1 ∙ ap (λ a. subcommand_of a words) app in
    c.met.ensures (subst (λ o. IfSome o IsRunRead) (sym rows) (all_read words fine)) ∙ taken words c.in-Ok.matches folder fine rows

pub returns : goal.returns
returns c =
    let words = map string_bytes c.args.words.now in
    let app = c.in_ok-command.ensures in
    let folder : has_folder words ≡ true = sym c.is_over_folder.ensures ∙ c.if-not-is_over_folder.false in
    let fails = subst (λ a. HasKind (fault_of a words) c.in-Err.error) app (c.in-Err.ensures.kinds (ap is_simple_and_free app ∙ is_free)) in
    ⊎_elim (λ memory. absurd (c.in_default.not-OutOfMemory (c.kind.ensures ∙ memory))) (λ among. refused words (kind_of c.in-Err.error) folder among) fails
