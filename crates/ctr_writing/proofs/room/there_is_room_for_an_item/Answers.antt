use Rattle.ctr_writing.proofs.room.there_is_room_for_an_item.Goals as goal

pub returns : goal.returns
returns g c = λ s txns v has items one. record {
  going = one.going;
  opens_fit = one.opens_fit;
  items_fit = c.room_that_is_kept_is_there.ensures.session s has.t txns v.meta has.there has.kept items;
  room = one.room;
  number = one.number;
}
