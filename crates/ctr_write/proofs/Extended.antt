-- What a turn for a page leaves, told of the Write that wants it.
use Rattle.std.proofs.Common.{◌≡◌, ℕ, ◌+◌, ◌<◌, Result, Ok, Err, sym, ◌∙◌, ap, subst}
use Rattle.std.specs.Prelude.{IfOk}
use Rattle.ctr_disk.specs.declared.fault.StoreFault.{StoreFault}
use Rattle.ctr_meta.specs.Kept.{TablesKept}
use Rattle.ctr_page.specs.declared.checks.Chain.{Chain}
use Rattle.ctr_extend.specs.store_Store.{View, KeepsRoom}
use Rattle.ctr_extend.specs.walk_Tables.{IsChain}
use Rattle.ctr_extend.specs.declared.ways.Extended.{Extended}
use Rattle.ctr_extend.specs.declared.ways.Extended.TheVariants.{On, Linked, Grown, Full}
use Rattle.ctr_extend.specs.Steps.{IsCountedStep, LeavesRoom, MovesBy}
use Rattle.ctr_write.specs.declared.stages.Written.{Written}
use Rattle.ctr_write.specs.declared.stages.Written.TheVariants as written
use Rattle.ctr_write.specs.Stages.{IsCountedWrite, LeavesItem, MovesWrite}
use Rattle.ctr_write.specs.Extending.{written_from}

inside_by : (chain : Chain) (e : Extended) (counted : ℕ) → IsChain chain → IsCountedStep e counted → IsCountedWrite (written_from chain e) counted
inside_by chain (On way) counted there step = (there, step)
inside_by chain Linked counted there step = tt
inside_by chain Grown counted there step = tt
inside_by chain Full counted there step = tt

left_by : (n : ℕ) (chain : Chain) (e : Extended) (k l : TablesKept) → LeavesRoom n e k l → LeavesItem n (written_from chain e) k l
left_by n chain (On way) k l left = left
left_by n chain Linked k l left = left
left_by n chain Grown k l left = left
left_by n chain Full k l left = left

moves_by : {D : Type 0} (chain : Chain) (e : Extended) (a b : View D) → MovesBy e a b → MovesWrite (written_from chain e) a b
moves_by chain (On way) a b moves = moves
moves_by chain Linked a b moves = moves
moves_by chain Grown a b moves = moves
moves_by chain Full a b moves = moves

module _ (chain : Chain) (e : Extended) (w : Written) (is : w ≡ written_from chain e) where
  pub inside_for : (counted : ℕ) → IsChain chain → IsCountedStep e counted → IsCountedWrite w counted
  inside_for counted there step = subst (λ (v : Written). IsCountedWrite v counted) (sym is) (inside_by chain e counted there step)

  pub left_for : (n : ℕ) (k l : TablesKept) → LeavesRoom n e k l → LeavesItem n w k l
  left_for n k l left = subst (λ (v : Written). LeavesItem n v k l) (sym is) (left_by n chain e k l left)

  pub moves_for : {D : Type 0} (a b : View D) → MovesBy e a b → MovesWrite w a b
  moves_for a b moves = subst (λ (v : Written). MovesWrite v a b) (sym is) (moves_by chain e a b moves)

-- a turn behind pages that were read moves on from where these were begun
pub moves_behind : {D : Type 0} (a m b : View D) (result : Result Written StoreFault) → KeepsRoom a m → IfOk result (λ w. MovesWrite w m b) → IfOk result (λ w. MovesWrite w a b)
moves_behind a m b (Ok (written.On stage)) keeps moves = moves ∙ ap (λ n. n + 1) keeps.next
moves_behind a m b (Ok written.Done) keeps moves = moves ∙ ap (λ n. n + 1) keeps.next
moves_behind a m b (Ok written.Grown) keeps moves = (moves.0 ∙ keeps.next, subst (λ n. n < b.now.counted) keeps.counted moves.1)
moves_behind a m b (Ok written.Full) keeps moves = moves ∙ keeps.next
moves_behind a m b (Err e) keeps moves = tt
