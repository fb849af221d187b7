use Rattle.std.proofs.Common.{◌≡◌, ◌<◌, ◌+◌, ℕ, List, Ok, ⊎_elim, arith, sym, ◌∙◌, ap, subst}
use Rattle.std.proofs.lemmas.Bool.{cases_lt}
use Rattle.ctr_rec.specs.types_Kind.{Kind}
use Rattle.ctr_page.specs.declared.rows.Place.{Place}
use Rattle.ctr_page.specs.Columns.{kinds_width, slot_start}
use Rattle.ctr_page.specs.Places.{slot_size, room_for}
use Rattle.ctr_page.specs.Damage.{slot_check}
use Rattle.ctr_page.proofs.Searches.{lies_on_page}
use Rattle.ctr_directory.specs.Keys.{key_on, slots_of_kinds, KeysLead, with_key, over_slots, SlotsPass}
use Rattle.ctr_directory.proofs.Leading.{leads_same, unchanged, none_yet, next_one, one_slot_more}
use Rattle.ctr_directory.proofs.slots.renew.Goals as goal

one_more : (kinds : List Kind) (counted n : ℕ) (page : List ℕ) → SlotsPass kinds counted n page → slot_check kinds counted (slot_start kinds n) page ≡ Ok tt → SlotsPass kinds counted (n + 1) page
one_more kinds counted n page before passes = λ m lt. ⊎_elim
    (λ less. before m less)
    (λ le. let same : n ≡ m = omega (arith, lt, le) in subst (λ k. slot_check kinds counted (slot_start kinds k) page ≡ Ok tt) same passes)
    (cases_lt m n)

sized : (kinds : List Kind) (size w : ℕ) → size ≡ slot_size w → w ≡ kinds_width kinds → size ≡ slot_size (kinds_width kinds)
sized kinds size w is wide = is ∙ ap slot_size wide

pub loop-slot-init : goal.loop-slot-init
loop-slot-init c = (
  (λ stay n lt. absurd (omega (arith, lt))),
  λ stay keys leads was. leads_same keys (over_slots c.args.number 0 (λ n. key_on c.args.kinds.now n c.args.page.now) keys) c.args.places.now (none_yet c.args.number (λ n. key_on c.args.kinds.now n c.args.page.now) keys) leads,
)

pub lies_outside-requires : goal.lies_outside-requires
lies_outside-requires c =
    let size = c.slot_size-size.result in
    let slot = c.loop-slot.slot in
    record { inside = lies_on_page size slot (subst (λ (k : ℕ). slot < k) (c.slots_on-count.ensures ∙ sym (ap room_for (sized c.args.kinds.now size c.kinds_width.result c.slot_size-size.ensures.value c.kinds_width.ensures.value))) c.loop-slot-test.true) }

-- A slot that lies outside has passed, and has the key that it had.
pub loop-slot-preserved-then-lies_outside : goal.loop-slot-preserved-then-lies_outside
loop-slot-preserved-then-lies_outside c =
    let kinds = c.args.kinds.now in
    let page = c.args.page.now in
    let new = λ (n : ℕ). key_on kinds n page in
    let slot = c.loop-slot.slot in
    let number = c.args.number in
    let outside = c.lies_outside.ensures kinds (sized kinds c.slot_size-size.result c.kinds_width.result c.slot_size-size.ensures.value c.kinds_width.ensures.value) c.if-lies_outside.true in
    let below : slot < slots_of_kinds kinds = subst (λ k. slot < k) c.slots_on-count.ensures c.loop-slot-test.true in (
      (λ stay. one_more kinds c.args.counted slot page (c.loop-slot.invariant.0 stay) (stay slot below outside).0),
      λ stay keys leads was.
          let K = over_slots number slot new keys in
          let at : Place = record { page = number; slot = slot } in
          let has = next_one number slot new keys ∙ was slot below ∙ sym (stay slot below outside).1 in
          leads_same K (over_slots number (slot + 1) new keys) c.loop-slot.places (λ p n. one_slot_more number slot new keys p n ∙ unchanged K at (new slot) has p n) (c.loop-slot.invariant.1 stay keys leads was),
    )

pub loop-slot-preserved : goal.loop-slot-preserved
loop-slot-preserved c =
    let new = λ (n : ℕ). key_on c.args.kinds.now n c.args.page.now in
    let slot = c.loop-slot.slot in
    let number = c.args.number in
    let e = c.in_ok-renew_slot.ensures in
    let below : slot < slots_of_kinds c.args.kinds.now = subst (λ k. slot < k) c.slots_on-count.ensures c.loop-slot-test.true in (
      (λ stay. one_more c.args.kinds.now c.args.counted slot c.args.page.now (c.loop-slot.invariant.0 stay) e.checked),
      λ stay keys leads was.
          let K = over_slots number slot new keys in
          let at : Place = record { page = number; slot = slot } in
          let here = next_one number slot new keys ∙ was slot below in
          leads_same (with_key at (new slot) K) (over_slots number (slot + 1) new keys) c.renew_slot.new.places (one_slot_more number slot new keys) (e.leads K (c.loop-slot.invariant.1 stay keys leads was) here),
    )

pub returns-clause-leads : goal.returns-clause-leads
returns-clause-leads c = λ stay keys leads was.
    let new = λ (n : ℕ). key_on c.args.kinds.now n c.args.page.now in
    let all : c.loop-slot.slot ≡ c.slots_on-count.result = omega arith in
    subst (λ k. KeysLead (over_slots c.args.number k new keys) c.loop-slot.places) (all ∙ c.slots_on-count.ensures) (c.loop-slot.invariant.1 stay keys leads was)

pub returns-clause-checked : goal.returns-clause-checked
returns-clause-checked c = λ stay.
    let all : c.loop-slot.slot ≡ c.slots_on-count.result = omega arith in
    subst (λ k. SlotsPass c.args.kinds.now c.args.counted k c.args.page.now) (all ∙ c.slots_on-count.ensures) (c.loop-slot.invariant.0 stay)
