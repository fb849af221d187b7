-- What some command lines ask for, by the definition: the checker computes each.
use Rattle.std.proofs.Common.{◌≡◌, List, [], ◌∷◌, true, false, Option, Some, None, codes, refl}
use Rattle.clap.specs.Words.{Text}
use Rattle.clap.proofs.OnLiterals.{clap_on_literals}
use Rattle.ctr_words.specs.declared.words.Subcommand.{Subcommand}
use Rattle.ctr_words.specs.declared.words.Subcommand.TheVariants as asked
use Rattle.ctr_words.specs.Words.{command_asked}

-- behind `run shop`
abbrev run_with : List Text → Option Subcommand
run_with rest = command_asked (codes "run" ∷ codes "shop" ∷ rest)

commands : (command_asked (codes "init" ∷ codes "shop" ∷ []) ≡ Some asked.Init) × (command_asked (codes "report" ∷ codes "shop" ∷ []) ≡ Some asked.Report)
    × (run_with [] ≡ Some (asked.Run 64 false 1048576))
unfolding clap_on_literals
commands = (refl, refl, refl)

frames : (run_with (codes "--frames" ∷ codes "8" ∷ []) ≡ Some (asked.Run 8 false 1048576)) × (run_with (codes "--frames=4096" ∷ []) ≡ Some (asked.Run 4096 false 1048576))
    × (run_with (codes "--frames" ∷ codes "+0100" ∷ []) ≡ Some (asked.Run 100 false 1048576))
unfolding clap_on_literals
frames = (refl, refl, refl)

-- none, one that is too small, too large, no number, negative, or given twice
no_frames : (run_with (codes "--frames" ∷ []) ≡ None) × (run_with (codes "--frames" ∷ codes "7" ∷ []) ≡ None) × (run_with (codes "--frames=4097" ∷ []) ≡ None)
    × (run_with (codes "--frames" ∷ codes "8k" ∷ []) ≡ None) × (run_with (codes "--frames=-8" ∷ []) ≡ None)
    × (run_with (codes "--frames=8" ∷ codes "--frames=8" ∷ []) ≡ None)
unfolding clap_on_literals
no_frames = (refl, refl, refl, refl, refl, refl)

keys : (run_with (codes "--keys" ∷ codes "0" ∷ []) ≡ Some (asked.Run 64 false 0)) × (run_with (codes "--keys=1048576" ∷ []) ≡ Some (asked.Run 64 false 1048576))
    × (run_with (codes "--keys" ∷ codes "+0100" ∷ codes "--frames=8" ∷ codes "--threads" ∷ []) ≡ Some (asked.Run 8 true 100))
unfolding clap_on_literals
keys = (refl, refl, refl)

-- none, too many, no number, negative, given twice, and of a command that has none
no_keys : (run_with (codes "--keys" ∷ []) ≡ None) × (run_with (codes "--keys=1048577" ∷ []) ≡ None) × (run_with (codes "--keys" ∷ codes "x" ∷ []) ≡ None)
    × (run_with (codes "--keys" ∷ codes "-1" ∷ []) ≡ None) × (run_with (codes "--keys=-1" ∷ []) ≡ None) × (run_with (codes "--keys=8" ∷ codes "--keys=8" ∷ []) ≡ None)
    × (command_asked (codes "report" ∷ codes "shop" ∷ codes "--keys=8" ∷ []) ≡ None) × (command_asked (codes "init" ∷ codes "shop" ∷ codes "--keys=8" ∷ []) ≡ None)
unfolding clap_on_literals
no_keys = (refl, refl, refl, refl, refl, refl, refl, refl)

-- threads, behind the frames or before them; with a value, twice, and of a command that has none
threads : (run_with (codes "--threads" ∷ []) ≡ Some (asked.Run 64 true 1048576)) × (run_with (codes "--frames=8" ∷ codes "--threads" ∷ []) ≡ Some (asked.Run 8 true 1048576))
    × (run_with (codes "--threads=true" ∷ []) ≡ None) × (run_with (codes "--threads" ∷ codes "--threads" ∷ []) ≡ None)
    × (command_asked (codes "report" ∷ codes "shop" ∷ codes "--threads" ∷ []) ≡ None)
unfolding clap_on_literals
threads = (refl, refl, refl, refl, refl)

-- another command's, before the folder, and what is no command
no_command : (command_asked (codes "init" ∷ codes "shop" ∷ codes "--frames=8" ∷ []) ≡ None) × (command_asked (codes "run" ∷ codes "--frames=8" ∷ codes "shop" ∷ []) ≡ None)
    × (run_with (codes "shop" ∷ []) ≡ None) × (command_asked (codes "help" ∷ codes "run" ∷ []) ≡ None) × (command_asked (codes "run" ∷ []) ≡ None)
    × (command_asked [] ≡ None)
unfolding clap_on_literals
no_command = (refl, refl, refl, refl, refl, refl)

-- a load of the folder `shop`
abbrev load_with : List Text → Option Subcommand
load_with rest = command_asked (codes "load" ∷ codes "shop" ∷ rest)

loads : (load_with (codes "--sessions" ∷ codes "1" ∷ codes "--count" ∷ codes "0" ∷ codes "--seed" ∷ codes "0" ∷ []) ≡ Some (asked.Load 64 false 1048576 1 0 0))
    × (load_with (codes "--seed=18446744073709551615" ∷ codes "--frames=8" ∷ codes "--count=1000000" ∷ codes "--sessions=8" ∷ []) ≡ Some (asked.Load 8 false 1048576 8 1000000 18446744073709551615))
unfolding clap_on_literals
loads = (refl, refl)

loads_beside : load_with (codes "--sessions=2" ∷ codes "--threads" ∷ codes "--count=9" ∷ codes "--seed=1" ∷ []) ≡ Some (asked.Load 64 true 1048576 2 9 1)
unfolding clap_on_literals
loads_beside = refl

loads_keys : (load_with (codes "--sessions=2" ∷ codes "--keys=0" ∷ codes "--count=9" ∷ codes "--seed=1" ∷ []) ≡ Some (asked.Load 64 false 0 2 9 1))
    × (load_with (codes "--sessions=2" ∷ codes "--count=9" ∷ codes "--seed=1" ∷ codes "--keys=1048577" ∷ []) ≡ None)
    × (load_with (codes "--sessions=2" ∷ codes "--count=9" ∷ codes "--seed=1" ∷ codes "--keys=0" ∷ codes "--keys=0" ∷ []) ≡ None)
unfolding clap_on_literals
loads_keys = (refl, refl, refl)

-- an option that isn't there; a number that is too small, too large, negative, or no number; one that is another command's
no_loads : (load_with (codes "--sessions=1" ∷ codes "--count=0" ∷ []) ≡ None) × (load_with (codes "--sessions=1" ∷ codes "--seed=0" ∷ []) ≡ None)
    × (load_with (codes "--count=0" ∷ codes "--seed=0" ∷ []) ≡ None) × (load_with (codes "--sessions=0" ∷ codes "--count=0" ∷ codes "--seed=0" ∷ []) ≡ None)
    × (load_with (codes "--sessions=9" ∷ codes "--count=0" ∷ codes "--seed=0" ∷ []) ≡ None) × (load_with (codes "--sessions=1" ∷ codes "--count=1000001" ∷ codes "--seed=0" ∷ []) ≡ None)
    × (load_with (codes "--sessions=1" ∷ codes "--count=0" ∷ codes "--seed=18446744073709551616" ∷ []) ≡ None)
    × (load_with (codes "--sessions=1" ∷ codes "--count=0" ∷ codes "--seed=-1" ∷ []) ≡ None) × (load_with (codes "--sessions=1" ∷ codes "--count=x" ∷ codes "--seed=0" ∷ []) ≡ None)
    × (load_with (codes "--sessions=1" ∷ codes "--count=0" ∷ codes "--seed=0" ∷ codes "--frames=7" ∷ []) ≡ None) × (run_with (codes "--seed=0" ∷ []) ≡ None)
unfolding clap_on_literals
no_loads = (refl, refl, refl, refl, refl, refl, refl, refl, refl, refl, refl)
