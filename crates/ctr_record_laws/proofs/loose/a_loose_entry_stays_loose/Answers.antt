use Rattle.ctr_record_laws.proofs.Steady.{keep_stays, row_stays, revert_stays, trim_stays, cut_stays, freed_stays}
use Rattle.ctr_record_laws.proofs.loose.a_loose_entry_stays_loose.Goals as goal

pub returns-clause-keep : goal.returns-clause-keep
returns-clause-keep c = λ counted tables area e f q p it older sound owed loose. keep_stays area e q it loose counted tables f p older sound owed

pub returns-clause-row : goal.returns-clause-row
returns-clause-row c = λ tables area e q it m owed unlinks loose. row_stays area e q it loose tables m owed unlinks

pub returns-clause-revert : goal.returns-clause-revert
returns-clause-revert c = λ counted tables area e f q b it way sound owed loose. revert_stays area e q it loose counted tables f b way sound owed

pub returns-clause-trim : goal.returns-clause-trim
returns-clause-trim c = λ area e q b it way loose. trim_stays area e q it loose b way

pub returns-clause-cut : goal.returns-clause-cut
returns-clause-cut c = λ passes area e f q b p it owed loose. cut_stays area e q it loose passes f b p owed

pub returns-clause-freed : goal.returns-clause-freed
returns-clause-freed c = λ area e q p it none apart loose. freed_stays area e q it loose p none apart
