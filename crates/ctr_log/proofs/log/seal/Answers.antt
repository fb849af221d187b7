use Rattle.std.proofs.Common.{◌≡◌, ◌∙◌, ◌∷◌, [], ◌++◌, ℕ, List, length, drop, ap}
use Rattle.std.proofs.lemmas.List.{take_at}
use Rattle.ctr_log.specs.Logs.{headed}
use Rattle.ctr_log.proofs.log.seal.Goals as goal

pub returns-clause-items : goal.returns-clause-items
returns-clause-items c =
    let new = c.fill_head.new.body in
    let old = c.args.buffer.now in
    let long : length new ≡ old.len = c.fill_head.auto.body ∙ c.as_mut_slice.ensures.len in
    c.put_bytes.ensures.items ∙ ap (λ (l : List ℕ). l ++ 0 ∷ []) (take_at new (drop (length new) old.items) old.len long ∙ c.fill_head.ensures ∙ ap (λ (l : List ℕ). headed c.args.first c.args.count (drop 20 l)) c.as_mut_slice.ensures.value)
