use Rattle.ctr_record_laws.proofs.Entry.{dying_sound, freeing_sound}
use Rattle.ctr_record_laws.proofs.sound.a_trimmed_entry_stays_sound.Goals as goal

pub returns-clause-dead : goal.returns-clause-dead
returns-clause-dead c = λ passes counted tables area e sound owed. dying_sound counted tables area e sound passes owed

pub returns-clause-free : goal.returns-clause-free
returns-clause-free c = λ counted tables old new e title sound owed free changes. freeing_sound counted tables old e title free sound owed new changes
