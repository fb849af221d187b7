use Rattle.ctr_stops.proofs.Blanks.{silent_pages, grown_pages}
use Rattle.ctr_stops.proofs.pages.growth_keeps_the_pages.Goals as goal

pub returns-clause-silent : goal.returns-clause-silent
returns-clause-silent c = silent_pages

pub returns-clause-growth : goal.returns-clause-growth
returns-clause-growth c = λ more s w pages above few. grown_pages more s w pages (c.a_sound_state_stays_sound.ensures.growth more s pages.sound above few)
