use Rattle.std.proofs.Common.{ℕ, ◌≤◌, cond, ◌∙◌, sym, ap, subst, arith}
use Rattle.ctr_versions.proofs.Keys.{known}
use Rattle.ctr_writing.proofs.room.there_is_room_for_a_turn.Goals as goal

none : (n : ℕ) → 0 ≤ n
none n = omega arith

pub returns : goal.returns
returns g c = λ s txns stage v has items one. record {
  going = one.going;
  opens_fit = one.opens_fit;
  items_fit = known has.t.item
      (λ yes. subst (λ n. n ≤ v.meta.items_room) (sym (ap (λ x. cond x 1 0) yes) ∙ has.room) (c.room_that_is_kept_is_there.ensures.session s has.t txns v.meta has.there yes items))
      (λ no. subst (λ n. n ≤ v.meta.items_room) (sym (ap (λ x. cond x 1 0) no) ∙ has.room) (none v.meta.items_room));
  room = one.room;
  number = one.number;
}
