use Rattle.std.proofs.Common.{◌/◌, ◌%◌, List, Bool, ℕ, length, slice_index, sym, ap, ◌∙◌, subst}
use Rattle.ctr_actions.specs.area_Changes.{IsBitSet}
use Rattle.ctr_alloc.proofs.FirstPage.{first_page_there}
use Rattle.ctr_alloc.proofs.allocating.byte_with.Goals as goal

pub returns-then-taken-clause-byte : goal.returns-then-taken-clause-byte
returns-then-taken-clause-byte g c = λ told sound.
    let k = c.args.p % 8 in
    let at = c.args.p / 8 in
    subst (λ (l : List ℕ). IsBitSet k c.args.taken (slice_index l at) c.with_taken.result) (c.in_ok-page.ensures.shown told sound first_page_there)
    (subst (λ (t : Bool). IsBitSet k t (slice_index c.in_ok-page.page.now at) c.with_taken.result) (sym c.if-taken.true) c.with_taken.ensures.byte)

pub returns-then-taken-clause-whole : goal.returns-then-taken-clause-whole
returns-then-taken-clause-whole g c = λ told sound.
    ap (λ (l : List ℕ). length l) (sym (c.in_ok-page.ensures.shown told sound first_page_there)) ∙ c.in_ok-page.ensures.whole

pub returns-clause-byte : goal.returns-clause-byte
returns-clause-byte g c = λ told sound.
    let k = c.args.p % 8 in
    let at = c.args.p / 8 in
    subst (λ (l : List ℕ). IsBitSet k c.args.taken (slice_index l at) c.with_free.result) (c.in_ok-page.ensures.shown told sound first_page_there)
    (subst (λ (t : Bool). IsBitSet k t (slice_index c.in_ok-page.page.now at) c.with_free.result) (sym c.if-taken.false) c.with_free.ensures.byte)

pub returns-clause-whole : goal.returns-clause-whole
returns-clause-whole g c = λ told sound.
    ap (λ (l : List ℕ). length l) (sym (c.in_ok-page.ensures.shown told sound first_page_there)) ∙ c.in_ok-page.ensures.whole
