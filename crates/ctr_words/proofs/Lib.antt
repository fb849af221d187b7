mod FaultFree
mod WordLemmas
mod Examples
