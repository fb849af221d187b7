use Rattle.ctr_legal.proofs.Keep.{untouched}
use Rattle.ctr_sessions.proofs.Writes.{is_table, is_free, is_free_name}
use Rattle.ctr_sessions.proofs.laws.locks_keep_others_off.Goals as goal

pub returns-clause-keys : goal.returns-clause-keys
returns-clause-keys c low state s me seat name key made is_seat is under positive = (is_table low state s me seat is_seat name key made is under positive, is_free low state s me seat is_seat name key made is under positive)

pub returns-clause-names : goal.returns-clause-names
returns-clause-names c low state s me seat name is_seat held = is_free_name low state s me seat is_seat name held

pub returns-clause-tables : goal.returns-clause-tables
returns-clause-tables c state s me kept at unasked = untouched state s kept me at unasked
