-- Turns that are left behind answers, and behind a turn of undo.
use Rattle.std.proofs.Common.{◌≡◌, ◌⊎◌, ⊎_elim, ℕ, ◌+◌, ◌-◌, ◌*◌, ◌^◌, ◌≤◌, ◌<◌, List, ◌∙◌, ap, arith}
use Rattle.ctr_types.specs.declared.tape.Actor.TheVariants as who
use Rattle.ctr_store.specs.Store.{View, turns_for_room}
use Rattle.ctr_undo.specs.Left.{UndoLeft, left_in}
use Rattle.ctr_pass.specs.exec_Runner.{Runner}
use Rattle.ctr_pass.specs.exec_sessions_Sessions.{Sessions}
use Rattle.ctr_pass.specs.exec_Runners.{all_left}
use Rattle.ctr_pass.specs.exec_Sessions.{turns_left}
use Rattle.ctr_pass.proofs.exec_Fewer.{acts_fall, few_rooms}
use Rattle.ctr_world.specs.Held.{Running}
use Rattle.ctr_world.specs.Turns.{AreAnswered, ComesNearer}

pub same_is : (n m : ℕ) → n ≡ m → n ≤ m
same_is n m is = omega (arith, is)

pub less_is : (n m : ℕ) → n < m → n ≤ m
less_is n m is = omega (arith, is)

pub below : (n m k : ℕ) → n ≤ m → m < k → n < k
below n m k first then = omega (arith, first, then)

same_turns : {D : Type 0} (h now : Sessions) (v : View D) → now.runners.items ≡ h.runners.items → turns_left now v ≡ turns_left h v
unfolding turns_left
same_turns h now v same = ap (λ (rs : List Runner). ((all_left rs * 2 ^ 64 + (2 ^ 63 - v.next)) * 2 ^ 15 + (30000 - v.now.counted)) * 4 + turns_for_room v) same

pub answers_nearer : {D : Type 0} (h now : Sessions) (v : View D) → (now.runners.items ≡ h.runners.items) ⊎ (all_left now.runners.items < all_left h.runners.items) → turns_left now v ≤ turns_left h v
answers_nearer h now v fewer = ⊎_elim
    (λ same. same_is (turns_left now v) (turns_left h v) (same_turns h now v same))
    (λ less. less_is (turns_left now v) (turns_left h v) (acts_fall h now v v less))
    fewer

-- ---- undo

less_items : (l k r q : ℕ) → l + 1 ≡ k → r ≤ 3 → l * 4 + r < k * 4 + q
less_items l k r q one few = omega (arith, one, few)

pub undone_nearer : {D : Type 0} (old mid new : Running D) → left_in mid.undo + 1 ≡ left_in old.undo → new.undo ≡ mid.undo → turns_left mid.sessions mid.store < turns_left old.sessions old.store → turns_left new.sessions new.store ≤ turns_left mid.sessions mid.store → AreAnswered new → ComesNearer who.Undo old new
undone_nearer old mid new one same fewer then answered = (
  less_items (left_in new.undo) (left_in old.undo) (turns_for_room new.store) (turns_for_room old.store) (ap (λ (u : UndoLeft). left_in u + 1) same ∙ one) (few_rooms new.store),
  below (turns_left new.sessions new.store) (turns_left mid.sessions mid.store) (turns_left old.sessions old.store) then fewer,
  answered,
)
