-- What a making leaves.
use Rattle.std.proofs.Common.{◌≡◌, ◌≢◌, ◌⊎◌, refl, sym, subst}
use Rattle.std.specs.Prelude.{IsTrue, IsSome, None, ⊤, Result, Ok, Err}
use Rattle.ctr_types.specs.Faults.{HasFault}
use Rattle.ctr_disk.specs.declared.disk.Disk.{Ghosts}
use Rattle.ctr_disk.specs.Device.{LeavesOnly, OnlyReads}
use Rattle.ctr_disk.specs.Image.{Image}
use Rattle.ctr_home.specs.declared.block.Block.TheVariants.{Root as RootBlock}
use Rattle.ctr_home.specs.Blocks.{value_of}
use Rattle.ctr_database.specs.Database.{IsNewlyMade, IsNoneOrNewlyMade}
use Rattle.ctr_store.specs.declared.creating.CreateError.{CreateError}
use Rattle.ctr_store.specs.declared.creating.CreateError.TheVariants as create
use Rattle.ctr_top.specs.declared.ending.Ending.TheVariants as ending
use Rattle.ctr_top.specs.declared.outcome.Outcome.{Outcome}
use Rattle.ctr_top.specs.Endings.{made_as}
use Rattle.ctr_top.specs.Top.{IsUnrun, MakeWhy, Makes}

-- the disk that was left is that of the work
pub makes_over : {D : Type 0} (g : Ghosts D) (old : D) (o : Outcome D) (none : IsUnrun o.left) (disk : D) (same : o.left.disk ≡ disk)
    → (IsTrue g.tells → value_of RootBlock (g.reads old) ≡ None → LeavesOnly g old disk (λ c. g.images old c ⊎ IsNoneOrNewlyMade c))
    → (IsTrue g.tells → o.ending ≡ ending.Finished → (c : Image) → g.since disk (g.moment_of disk) c → IsNewlyMade c)
    → (IsTrue g.tells → IsSome (value_of RootBlock (g.reads old)) → OnlyReads g old disk)
    → MakeWhy g old disk o.ending → g.strays_of disk ≡ g.strays_of old → Makes g old o
makes_over g old o none disk same any_moment made untouched causes stray =
    subst (λ d. Makes g old (record { ending = o.ending; left = record { tape = o.left.tape; undone = o.left.undone; totals = o.left.totals; disk = d } })) (sym same)
    (record { any_moment = any_moment; made = made; untouched = untouched; causes = causes; none = none; stray = stray })

-- nothing was made, so nothing was finished
pub failed_fine : (error : CreateError) → made_as (Err error) ≢ ending.Finished
failed_fine create.Exists is = absurd (cc is)
failed_fine create.Fault is = absurd (cc is)

abbrev failed_with : CreateError → Result ⊤ CreateError
failed_with error = Err error

-- why nothing was made
pub failed_why : {D : Type 0} (g : Ghosts D) (old new : D) (error : CreateError) → (IsTrue g.tells → error ≡ create.Exists → IsSome (value_of RootBlock (g.reads old)))
    → HasFault create.Fault (g.faults_of old) (g.faults_of new) (failed_with error) → MakeWhy g old new (made_as (Err error))
failed_why g old new create.Exists exists faults = (λ told. exists told refl, faults.fine (λ is. absurd (cc is)))
failed_why g old new create.Fault exists faults = faults.failed refl

-- a making is never refused memory
pub made_memory : (made : Result ⊤ CreateError) → made_as made ≢ ending.OutOfMemory
made_memory (Ok made) is = absurd (cc is)
made_memory (Err create.Exists) is = absurd (cc is)
made_memory (Err create.Fault) is = absurd (cc is)
