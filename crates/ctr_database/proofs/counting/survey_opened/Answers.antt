use Rattle.std.proofs.Common.{◌⊎◌, Err, sym, ◌∙◌, ap, subst}
use Rattle.ctr_disk.specs.Device.{LeavesOnly}
use Rattle.ctr_record_effects.specs.Standing.{IsDatabaseState, StandsForDatabase}
use Rattle.ctr_store.specs.Opening.{IsUndamaged}
use Rattle.ctr_survey.specs.reading_Reading.{as_told}
use Rattle.ctr_survey.specs.Surveying.{survey_of}
use Rattle.ctr_run.specs.ctr_world.Ended.{RefusesWorld}
use Rattle.ctr_run.proofs.ctr_world.Refused.{front_of, opening_leaves, reading_leaves, told_as}
use Rattle.ctr_database.proofs.Counted.{told_reading, reading_undamaged, sound_of}
use Rattle.ctr_database.proofs.counting.survey_opened.Goals as goal

-- ---- the store wasn't opened

pub returns-in-Err-clause-any_moment : goal.returns-in-Err-clause-any_moment
returns-in-Err-clause-any_moment g c = λ s told stands.
    let first = g.O.Origin.first in
    opening_leaves g.D.Disk first c.args.disk s stands c.in-Err.error.1 (c.in-Err.ensures.any_moment told (sound_of first s stands))

pub returns-in-Err-clause-refused : goal.returns-in-Err-clause-refused
returns-in-Err-clause-refused g c = λ told. told_as g.O.Origin.first c.in-Err.error.0 (c.in-Err.ensures.answer told)

-- ---- its pages were counted

pub returns-in-Ok-survey_store-clause-counts : goal.returns-in-Ok-survey_store-clause-counts
returns-in-Ok-survey_store-clause-counts g c = λ s told stands.
    let first = g.O.Origin.first in
    let now = c.an_opened_store_keeps_commits.ensures.now first s c.in-Ok.store stands (c.in-Ok.ensures.answer told) in
    c.in-Ok-survey_store.ensures.counts told (sound_of first s stands) (subst IsDatabaseState (sym now) stands.sound) ∙ ap survey_of now

pub returns-in-Ok-survey_store-clause-any_moment : goal.returns-in-Ok-survey_store-clause-any_moment
returns-in-Ok-survey_store-clause-any_moment g c = λ s told stands.
    let first = g.O.Origin.first in
    let d = g.D.Disk in
    let sound = sound_of first s stands in
    let opened = c.in-Ok.ensures in
    subst (λ x. LeavesOnly d c.args.disk x (λ i. d.images c.args.disk i ⊎ StandsForDatabase i s)) (sym c.into_disk.ensures)
    (reading_leaves d first c.args.disk s stands c.in-Ok.store c.survey.new.store (opened.answer told) (opened.any_moment told sound) (c.in-Ok-survey_store.ensures.leaves.any_moment told sound))

pub returns-in-Ok-survey_store-clause-passes : goal.returns-in-Ok-survey_store-clause-passes
returns-in-Ok-survey_store-clause-passes g c = λ told.
    let opens = c.in-Ok.ensures.answer told in
    record { root = opens.root; stands = opens.stands; log = opens.passes; pages = opens.pages; fresh = opens.fresh }

-- ---- they weren't

pub returns-in-Err-survey_store-clause-any_moment : goal.returns-in-Err-survey_store-clause-any_moment
returns-in-Err-survey_store-clause-any_moment g c = λ s told stands.
    let first = g.O.Origin.first in
    let d = g.D.Disk in
    let sound = sound_of first s stands in
    let opened = c.in-Ok.ensures in
    let v = c.in-Ok.store in
    let b = c.survey.new.store in
    subst (λ x. LeavesOnly d c.args.disk x (λ i. d.images c.args.disk i ⊎ StandsForDatabase i s)) (sym c.into_disk-in-Err-survey_store.ensures)
    (reading_leaves d first c.args.disk s stands v b (opened.answer told) (opened.any_moment told sound) (front_of first d v b (as_told (Err c.in-Err-survey_store.refusal)) told sound c.in-Err-survey_store.ensures.leaves))

pub returns-in-Err-survey_store-clause-undamaged : goal.returns-in-Err-survey_store-clause-undamaged
returns-in-Err-survey_store-clause-undamaged g c = λ s told stands.
    let first = g.O.Origin.first in
    let now = c.an_opened_store_keeps_commits.ensures.now first s c.in-Ok.store stands (c.in-Ok.ensures.answer told) in
    subst IsUndamaged (sym c.refused.ensures)
    (reading_undamaged c.in-Err-survey_store.refusal (c.in-Err-survey_store.ensures.refused told (sound_of first s stands) (subst IsDatabaseState (sym now) stands.sound)))

pub returns-in-Err-survey_store-clause-refused : goal.returns-in-Err-survey_store-clause-refused
returns-in-Err-survey_store-clause-refused g c = λ told.
    let first = g.O.Origin.first in
    let opens = c.in-Ok.ensures.answer told in
    subst (RefusesWorld first) (sym c.refused.ensures)
    (told_reading first c.in-Err-survey_store.refusal (record { root = opens.root; stands = opens.stands; log = opens.passes; pages = opens.pages; fresh = opens.fresh })
    (λ s stands. c.in-Err-survey_store.ensures.refused told (sound_of first s stands)
    (subst IsDatabaseState (sym (c.an_opened_store_keeps_commits.ensures.now first s c.in-Ok.store stands opens)) stands.sound)))
