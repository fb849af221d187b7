use Rattle.std.proofs.Common.{◌≡◌, ◌∙◌, if◌then◌else◌, Bool, List, ℕ, replicate, sym, ap}
use Rattle.std.proofs.lemmas.Bool.{le-ltb}
use Rattle.ctr_redo.specs.home_Block_TheVariants.{Page}
use Rattle.ctr_redo.specs.home_Blocks.{zero_bytes, blank_page, page_with, value_of}
use Rattle.ctr_base.proofs.reading.read_numbered.Goals as goal

pub returns-then-page-counted-clause-told : goal.returns-then-page-counted-clause-told
unfolding zero_bytes
returns-then-page-counted-clause-told g c told =
    let zeros : c.fill.new.self ≡ replicate 4096 0 = c.fill.ensures.after (λ y e. e) ∙ ap (λ (n : ℕ). replicate n 0) c.requires in
    ap (λ (b : Bool). if b then page_with (value_of (Page c.args.page) (g.D.Disk.reads c.args.disk.now)) else blank_page) (le-ltb c.args.page c.args.counted c.if-page-counted.true)
    ∙ ap (λ (l : List ℕ). record { lsn = 0; bytes = l }) (sym zeros)
