use Rattle.ctr_kept.proofs.Carried.{dying_away}
use Rattle.ctr_kept.proofs.recovery.a_dying_table_is_away.Goals as goal

pub returns : goal.returns
returns c = λ y e passes site scene facts owed s b t at is_t fact in_ holds under its.
    dying_away site y e passes owed b.me t fact (λ f undropped. c.tables_in_use_stay_live.ensures y passes site f e owed undropped) holds under
