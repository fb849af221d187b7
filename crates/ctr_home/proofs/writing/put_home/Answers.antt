use Rattle.std.proofs.Common.{◌≡◌, ◌∙◌, ◌∷◌, [], ◌+◌, ℕ, List, length, ap, subst, sym, inl}
use Rattle.ctr_disk.specs.types_File.{File}
use Rattle.ctr_disk.specs.declared.disk.Disk.{Ghosts}
use Rattle.ctr_disk.specs.Image.{Image, content, TornImage, write_of}
use Rattle.ctr_disk.specs.Crash.{Tears}
use Rattle.ctr_disk.specs.Device.{LeavesOnly, IsDurable}
use Rattle.ctr_home.specs.declared.block.Block.{Block}
use Rattle.ctr_home.specs.declared.block.Home.{Home}
use Rattle.ctr_home.specs.Blocks.{BlockValue, file_of, home_len, home_place, value_behind, behind_gate}
use Rattle.ctr_home.specs.Writing.{MakesHome, KeepsOrMakesHome, IsShut}
use Rattle.ctr_disk.proofs.Moments.{joined, on_ok, torn_from}
use Rattle.ctr_home.proofs.WriteLemmas.{body_by_torn, gate_by_torn, gate_by_write}
use Rattle.ctr_home.proofs.writing.put_home.Goals as goal

-- what is written behind the gate, from a settled disk
module _ {D : Type 0} (g : Ghosts D) (b : Block) (home : Home) (value : BlockValue) (old mid : D) (behind : List ℕ) where
  body_first : IsDurable g old → IsShut b home (content (file_of b) (g.reads old)) → length behind + 1 ≡ home_len b → (f : File) (k : ℕ) → f ≡ file_of b → k ≡ home_place b home
      → LeavesOnly g old mid (Tears f (k + 1) (length behind) (g.images old)) → LeavesOnly g old mid (KeepsOrMakesHome b home value (g.reads old))
  body_first only shut whole f k f_is k_is wrote =
      torn_from g old mid f (k + 1) (length behind) (KeepsOrMakesHome b home value (g.reads old)) only wrote (λ i t.
      let there : TornImage (file_of b) (home_place b home + 1) (length behind) (g.reads old) i =
      subst (λ (j : ℕ). TornImage (file_of b) (j + 1) (length behind) (g.reads old) i) k_is (subst (λ (h : File). TornImage h (k + 1) (length behind) (g.reads old) i) f_is t) in
      inl (body_by_torn b home (g.reads old) shut behind whole i there))

pub returns-in_err-write_through-clause-any_moment : goal.returns-in_err-write_through-clause-any_moment
returns-in_err-write_through-clause-any_moment g c settled shut =
    let b = c.args.block in
    body_first g.D.Disk b c.args.home _ c.args.disk.now c.write_through.new.disk c.spell.new.behind settled.only shut c.spell.ensures.long c.file.result c.at.result c.file.ensures c.at.ensures.place
    c.write_through.ensures.any_moment

-- what stands in the middle: all but the gate was written
in_middle : (b : Block) (home : Home) (old mid : Image) (behind : List ℕ) (f : File) (k : ℕ) → f ≡ file_of b → k ≡ home_place b home → mid ≡ write_of f (k + 1) behind old → mid ≡ write_of (file_of b) (home_place b home + 1) behind old
in_middle b home old mid behind f k f_is k_is is = is ∙ ap (λ (j : ℕ). write_of f (j + 1) behind old) k_is ∙ ap (λ (h : File). write_of h (home_place b home + 1) behind old) f_is

pub returns-clause-any_moment : goal.returns-clause-any_moment
returns-clause-any_moment g c settled shut =
    let d = g.D.Disk in
    let b = c.args.block in
    let home = c.args.home in
    let old = d.reads c.args.disk.now in
    let mid = c.write_through.new.disk in
    let behind = c.spell.new.behind in
    let P : BlockValue → Image → Type 0 = λ v. KeepsOrMakesHome b home v old in
    let is_mid = in_middle b home old (d.reads mid) behind c.file.result c.at.result c.file.ensures c.at.ensures.place (c.in_ok-write_through.ensures.told settled.told) in
    let first =
    body_first d b home (value_behind b behind) c.args.disk.now mid behind settled.only shut c.spell.ensures.long c.file.result c.at.result c.file.ensures c.at.ensures.place c.write_through.ensures.any_moment in
    let second =
    torn_from d mid c.write_through-2.new.disk c.file-2.result c.at-2.result 1 (P (value_behind b behind)) c.in_ok-write_through.ensures.durable c.write_through-2.ensures.any_moment (λ i t.
    gate_by_torn b home old shut behind c.spell.ensures.long (d.reads mid) is_mid (c.spell.ensures.whole ∙ ap (behind_gate b) (sym c.spell.ensures.value)) i
    (subst (λ (f : File). TornImage f (home_place b home) 1 (d.reads mid) i) c.file-2.ensures (subst (λ (k : ℕ). TornImage c.file-2.result k 1 (d.reads mid) i) c.at-2.ensures.place t))) in
    subst (λ (v : BlockValue). LeavesOnly d c.args.disk.now c.write_through-2.new.disk (P v)) c.spell.ensures.value
    (joined d c.args.disk.now mid c.write_through-2.new.disk (P (value_behind b behind)) first second)

pub returns-clause-made : goal.returns-clause-made
returns-clause-made g c told shut =
    let d = g.D.Disk in
    let b = c.args.block in
    let home = c.args.home in
    let old = d.reads c.args.disk.now in
    let mid = d.reads c.write_through.new.disk in
    let new = d.reads c.write_through-2.new.disk in
    let behind = c.spell.new.behind in
    let is_mid = in_middle b home old mid behind c.file.result c.at.result c.file.ensures c.at.ensures.place (c.in_ok-write_through.ensures.told told) in
    on_ok c.write_through-2.result _ _ (λ (is : new ≡ write_of c.file-2.result c.at-2.result (1 ∷ []) mid).
    subst (λ (v : BlockValue). MakesHome b home v old new) c.spell.ensures.value (gate_by_write b home old shut behind c.spell.ensures.long mid is_mid (c.spell.ensures.whole ∙ ap (behind_gate b) (sym c.spell.ensures.value)) new (
    is ∙ ap (λ (k : ℕ). write_of c.file-2.result k (1 ∷ []) mid) c.at-2.ensures.place ∙ ap (λ (f : File). write_of f (home_place b home) (1 ∷ []) mid) c.file-2.ensures))) (c.write_through-2.ensures.told told)
