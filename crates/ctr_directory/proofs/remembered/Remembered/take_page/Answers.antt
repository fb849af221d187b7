use Rattle.std.proofs.Common.{◌≡◌, false, [], Result, Ok, Err, refl, sym, ◌∙◌, ap, subst}
use Rattle.std.specs.Prelude.{nat_eq, is_err, ⊤}
use Rattle.ctr_page.specs.declared.checks.Chain.{Chain}
use Rattle.ctr_page.specs.Damage.{header_check}
use Rattle.indexmap.specs.IndexSet.{contains}
use Rattle.ctr_directory.specs.Keys.{key_on, slots_of_kinds, AllUsed, KeysLead, over_slots}
use Rattle.ctr_directory.specs.Chains.{kinds_kept, keys_in}
use Rattle.ctr_directory.specs.declared.bucket.TheConstants.{WHOLE}
use Rattle.ctr_directory.proofs.Agreeing.{none_outside}
use Rattle.ctr_directory.proofs.Leading.{leads_same}
use Rattle.ctr_directory.proofs.Keeping.{not_there, no_key, page_added}
use Rattle.ctr_directory.proofs.Sparing.{spares_added}
use Rattle.ctr_directory.proofs.remembered.Remembered.take_page.Goals as goal

not_bad : {E : Type 0} (r : Result ⊤ E) → is_err r ≡ false → r ≡ Ok tt
not_bad (Ok x) is = refl
not_bad (Err e) is = absurd (cc is)

pub returns-in-Ok-note-clause-leads : goal.returns-in-Ok-note-clause-leads
returns-in-Ok-note-clause-leads c = λ pages is leads.
    let old = c.args.self.now in
    let kinds = kinds_kept old in
    let number = c.args.number in
    let new = c.insert.new.self in
    let K = keys_in old.pages kinds pages in
    let isnt : contains nat_eq old.pages number ≡ false = not_there (contains nat_eq old.pages number) (sym c.in-Ok-true.field-0-test ∙ c.in-Ok-true.ensures.added) in
    let stay = none_outside kinds c.args.counted WHOLE [] c.args.page.now refl refl in
    let put = c.in-Ok.ensures.leads stay K leads (λ n lt. no_key old.pages kinds pages number n isnt) in
    leads_same (over_slots number (slots_of_kinds kinds) (λ k. key_on kinds k (pages number)) K) (keys_in new kinds pages) c.renew.new.places
    (page_added old.pages kinds pages new number c.in-Ok-true.ensures.updates.0 isnt)
    (subst (λ page. KeysLead (over_slots number (slots_of_kinds kinds) (λ k. key_on kinds k page) K) c.renew.new.places) (sym is) put)

pub returns-in-Ok-note-clause-passes : goal.returns-in-Ok-note-clause-passes
returns-in-Ok-note-clause-passes c =
    let head = sym (c.check_header.ensures ∙ ap (λ (k : Chain). header_check k c.args.counted c.args.page.now) c.chain.ensures) ∙ not_bad c.check_header.result (sym c.is_err.ensures.value ∙ c.if-is_err.false) in
    (head, c.in-Ok.ensures.checked (none_outside (kinds_kept c.args.self.now) c.args.counted WHOLE [] c.args.page.now refl refl))

pub returns-in-Ok-note-clause-spares : goal.returns-in-Ok-note-clause-spares
returns-in-Ok-note-clause-spares c = λ pages is tell.
    let old = c.args.self.now in
    let kinds = kinds_kept old in
    spares_added old.pages old.spare c.note.new.spare kinds c.args.number c.in-Ok-note.ensures.others c.insert.new.self pages c.in-Ok-true.ensures.updates.0 (λ out. subst (λ page. AllUsed kinds page) (sym is) (c.in-Ok-note.ensures.full out)) tell
