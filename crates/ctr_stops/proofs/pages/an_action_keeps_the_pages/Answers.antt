use Rattle.ctr_stops.proofs.Blanks.{own_pages, nobodys_pages}
use Rattle.std.proofs.Common.{refl}
use Rattle.ctr_stops.proofs.pages.an_action_keeps_the_pages.Goals as goal

pub returns-clause-own : goal.returns-clause-own
returns-clause-own c = λ run now s old new w v seat a mine keeps pages some does lies laid others facts blank.
    own_pages c.an_own_page_stays_blank.ensures run now seat.session.me old new w a keeps pages (c.a_sound_state_stays_sound.ensures.action seat.session.me a old new pages.sound does lies laid) does lies s v seat mine refl some others facts blank

pub returns-clause-nobodys : goal.returns-clause-nobodys
returns-clause-nobodys c = λ run now x old new w v a keeps pages nobodys does lies laid no_more.
    nobodys_pages c.an_own_page_stays_blank.ensures run now x old new w a keeps pages (c.a_sound_state_stays_sound.ensures.action x a old new pages.sound does lies laid) does lies v nobodys no_more
