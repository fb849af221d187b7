-- What the fields of the transactions stand for.
use Rattle.ctr_txn.specs.declared.txns.Txns.TheInside.{Inside}
use Rattle.ctr_txn.specs.Held.{TxnsHeld, AreTxns}

-- by the fields of the code
abbrev pub txns_here : Inside → TxnsHeld
txns_here a = record {
  numbers = a.numbers;
  sessions = a.sessions.items;
  answered = a.answered;
  cleaner = a.cleaner;
}

-- what always holds of the transactions
abbrev pub HaveTxns : Inside → Type 0
HaveTxns a = AreTxns (txns_here a)
