use Rattle.std.proofs.Common.{◌≡◌, ◌<◌, ℕ, ℤ, Option}
use Rattle.ctr_directory.specs.Keys.{key_on, key_before, slots_of_kinds, KeysLead, over_slots, SlotsPass, SlotsStay}
use Rattle.ctr_directory.proofs.slots.renew.Given as goal

abbrev pub invariant-loop-slot : goal.invariant-loop-slot
invariant-loop-slot l =
    (SlotsStay l.kinds l.counted l.span l.before l.page → SlotsPass l.kinds l.counted l.slot l.page)
    × (SlotsStay l.kinds l.counted l.span l.before l.page → (keys : ℕ → ℕ → Option ℤ) → KeysLead keys l.fn.places → ((n : ℕ) → n < slots_of_kinds l.kinds → keys l.number n ≡ key_before l.kinds n l.before)
    → KeysLead (over_slots l.number l.slot (λ n. key_on l.kinds n l.page) keys) l.places)
