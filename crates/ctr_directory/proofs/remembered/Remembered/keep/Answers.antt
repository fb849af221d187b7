use Rattle.std.proofs.Common.{◌≡◌, ◌+◌, ◌/◌, false, sym, ◌∙◌, ap, subst}
use Rattle.std.specs.Prelude.{nat_eq}
use Rattle.indexmap.specs.IndexSet.{contains}
use Rattle.ctr_directory.specs.declared.remembered.Remembered.{Remembered}
use Rattle.ctr_directory.specs.Chains.{kinds_kept, BucketSaid, IsRememberedBucket}
use Rattle.ctr_directory.proofs.Buckets.{page_apart}
use Rattle.ctr_directory.proofs.remembered.Remembered.keep.Goals as goal

pub returns : goal.returns
returns c = λ a b changes yes old.
    let s = c.args.self.now in
    let r = c.reread_at.new.self in
    let e = c.reread_at.ensures in
    let isnt : contains nat_eq s.pages c.args.number ≡ false = ap (λ (x : Remembered). contains nat_eq x.pages c.args.number) (sym e.same) ∙ sym c.contains.ensures ∙ c.if-contains.false in
    page_apart c.args.counted c.args.number c.args.span c.args.before.now c.args.page.now a b changes s old r (e.said c.args.span c.args.before.now a b changes c.if-not-reread_at.false old.said) e.same isnt

pub returns-then-contains : goal.returns-then-contains
returns-then-contains c = λ a b changes yes old.
    let s = c.args.self.now in
    let r = c.reread_at.new.self in
    let e = c.reread_at.ensures in
    let said = e.said c.args.span c.args.before.now a b changes c.if-not-reread_at.false old.said in
    c.renew_page.ensures a b s.first changes yes
    (subst (λ (x : Remembered). BucketSaid c.args.counted x.entry x.bucket (b (1 + x.entry / 16)) (kinds_kept x) r.first) (sym e.same) said)
    (subst (λ (x : Remembered). IsRememberedBucket c.args.counted a (record x { first = s.first })) (sym e.same) old)
