use Rattle.std.proofs.Common.{◌≡◌, ◌∙◌, ◌+◌, ◌*◌, ℕ, length, sym, ap, subst, arith}
use Rattle.std.specs.List.{AllByRecursion}
use Rattle.ctr_rec.specs.Members.{XidFits, ItemFits, MembersFit}
use Rattle.ctr_store.specs.Checkpoints.{heads_need}
use Rattle.ctr_store.proofs.CheckpointLaws.{members_fit, members_same, spelled_same}
use Rattle.ctr_store.proofs.checkpoint.spell_checkpoint.Goals.{After-items-2}
use Rattle.ctr_store.proofs.checkpoint.spell_checkpoint.Goals as goal

-- the tables' members are those of a Checkpoint
fit : (c : After-items-2) → MembersFit c.args.meta.now.tables.next c.args.meta.now.tables.opens c.args.meta.now.tables.aborted c.args.meta.now.tables.items
fit c =
    let t = c.args.meta.now.tables in
    let opens : c.deref.result.now ≡ t.opens = c.deref.ensures.value ∙ c.in_ok-opens.ensures in
    let aborted : c.deref-2.result.now ≡ t.aborted = c.deref-2.ensures.value ∙ c.in_ok-aborted.ensures in
    let count : c.len-2.result ≡ length t.opens = omega (arith, c.len-2.ensures, c.in_ok-opens.opens.ok.0, ap length c.in_ok-opens.ensures) in
    let few_opens = ap (heads_need 25) (sym opens) ∙ sym c.in_ok-check_heads.ensures in
    let few_aborted = ap (λ (n : ℕ). heads_need (33 + 16 * n) t.aborted) (sym count) ∙ ap (heads_need (33 + 16 * c.len-2.result)) (sym aborted) ∙ sym c.in_ok-check_heads-2.ensures in
    let items_len = c.count_items-count.ensures.count in
    let items_of = c.items.ensures.items in
    members_fit t c.next.ensures.xids c.requires few_opens few_aborted
    (omega (arith, c.in_ok-opens.opens.ok.0, c.in_ok-opens.opens.ok.1, c.in_ok-opens.opens.small, ap length c.in_ok-opens.ensures))
    (omega (arith, c.in_ok-aborted.aborted.ok.0, c.in_ok-aborted.aborted.ok.1, c.in_ok-aborted.aborted.small, ap length c.in_ok-aborted.ensures))
    (omega (arith, items_len, ap length items_of))
    (subst (AllByRecursion ItemFits) items_of c.items.ensures.fit)

pub encode_checkpoint-requires : goal.encode_checkpoint-requires
encode_checkpoint-requires c =
    members_same (sym c.next.ensures.next) (sym (c.deref-3.ensures.value ∙ c.in_ok-opens.ensures)) (sym (c.deref-4.ensures.value ∙ c.in_ok-aborted.ensures)) (sym c.items-2.ensures.items) (fit c)

pub returns-clause-made : goal.returns-clause-made
returns-clause-made c =
    let t = c.args.meta.now.tables in
    let e = c.in_ok-bytes.ensures in
    let opens = c.deref-3.ensures.value ∙ c.in_ok-opens.ensures in
    let aborted = c.deref-4.ensures.value ∙ c.in_ok-aborted.ensures in
    let items = c.items-2.ensures.items in
    spelled_same t c.next.ensures.next opens aborted items (fit (goal.at.returns-clause-made c).After-items-2) (subst (AllByRecursion XidFits) c.items.ensures.items c.count_items-count.ensures.fit) e.record e.bytes
