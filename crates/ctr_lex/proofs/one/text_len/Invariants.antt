use Rattle.std.proofs.Common.{◌≡◌, ◌≤◌, drop, false, IfSome, None}
use Rattle.ctr_lex.proofs.Texts.{behind, text_rest}
use Rattle.ctr_lex.proofs.one.text_len.Given as goal

abbrev pub invariant-loop-i : goal.invariant-loop-i
invariant-loop-i l = IfSome l.end (λ n. n ≤ l.i) × (text_rest l.closed (behind l.bytes l.end) (drop l.i l.bytes) ≡ text_rest false None l.bytes)
