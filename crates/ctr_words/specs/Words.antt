-- What the words behind the program's name ask for.
use Rattle.std.specs.Prelude.{◌≡◌, ◌≤◌, ◌⊎◌, ◌==◌, ◌∷◌, ⊤, ℕ, pos, Bool, true, false, not, List, []}
use Rattle.std.specs.Prelude.{Option, Some, None, codes, if◌then◌else◌, option_and_then, option_map, unwrap_or}
use Rattle.std.specs.Option.{option_map_or}
use Rattle.std.specs.Str.{bytes_eq}
use Rattle.std.specs.Str.Parse.{digits_value, without_leading_plus}
use Rattle.clap.specs.Words.{App, Kinds, Row, Rule, Text, fault_of, new_app, new_rule, one_of}
use Rattle.clap.specs.Words.{subcommand_of, with_rule, with_subcommand}
use Rattle.clap.specs.declared.builder.action.ArgAction.TheVariants.{Set, SetTrue}
use Rattle.clap.specs.ValueTests.{is_unsigned_in}
use Rattle.clap.specs.declared.builder.value_parser.ValueParser.TheVariants.{Signed, Unsigned}
use Rattle.ctr_words.specs.declared.words.Subcommand.{Subcommand}
use Rattle.ctr_words.specs.declared.words.Subcommand.TheVariants as asked
use Rattle.ctr_words.specs.declared.words.WordsError.{WordsError}
use Rattle.ctr_words.specs.declared.words.WordsError.TheVariants as error

-- a command with one word behind its name, the folder
abbrev pub over_folder : Text → App
over_folder name = with_rule (new_app name) (record (new_rule (codes "DIR")) { required = true })

-- an option of two dashes and a name, with a value
abbrev pub value_rule : Text → Rule
value_rule name = record (new_rule name) {
  long = Some name;
  action = Some Set;
}

-- the option `--frames`, with a number of 8 to 4,096
abbrev pub frames_rule : Rule
frames_rule = record (value_rule (codes "frames")) { parser = Some (Signed (pos 8) (pos 4096)) }

-- the option `--threads`, without a value
abbrev pub threads_rule : Rule
threads_rule = record (new_rule (codes "threads")) {
  long = Some (codes "threads");
  action = Some SetTrue;
}

-- an option that has to be there, with a number from one to another
abbrev pub number_rule : Text → ℕ → ℕ → Rule
number_rule name least most = record (value_rule name) {
  required = true;
  parser = Some (Unsigned least most);
}

-- the option `--keys`, with a number of 0 to 1,048,576
abbrev pub keys_rule : Rule
keys_rule = record (value_rule (codes "keys")) { parser = Some (Unsigned 0 1048576) }

-- the options `--threads`, `--frames` and `--keys`, of a run and of a load
abbrev pub with_pace : App → App
with_pace a = with_rule (with_rule (with_rule a threads_rule) frames_rule) keys_rule

-- `load DIR --sessions S --count C --seed X [--threads] [--frames N] [--keys K]`
abbrev pub load_command : App
load_command = with_pace (with_rule (with_rule (with_rule (over_folder (codes "load"))
    (number_rule (codes "sessions") 1 8)) (number_rule (codes "count") 0 1000000))
    (number_rule (codes "seed") 0 18446744073709551615))

-- no command and no program's name: one of the commands below has to follow
abbrev pub no_command : App
no_command = record (new_app (codes "ctr")) {
  top = record (new_app (codes "ctr")).top { no_binary_name = true; subcommand_required = true };
}

-- the command and one more below it
abbrev pub or_command : App → App → App
or_command a below = with_subcommand a below.top

-- The simple command: `init DIR`, `run DIR [--threads] [--frames N] [--keys K]`, the load and
-- `report DIR`.
abbrev pub simple_command : App
simple_command = or_command (or_command (or_command (or_command no_command
    (over_folder (codes "init"))) (with_pace (over_folder (codes "run"))))
    load_command) (over_folder (codes "report"))

-- a word that doesn't begin with -
abbrev pub is_folder : Text → Bool
is_folder [] = true
is_folder (byte ∷ bytes) = not (byte == 45)

-- the second word is there, and is one
abbrev pub has_folder : List Text → Bool
has_folder [] = false
has_folder (command ∷ []) = false
has_folder (command ∷ folder ∷ rest) = is_folder folder

-- the number that decimal digits write; a plus may stand before them
abbrev pub number_of_digits : Text → ℕ
number_of_digits text = digits_value 10 (without_leading_plus text)

-- the frames that the rows of a run ask for: 64 where they have none
abbrev pub frames_asked : List Row → ℕ
frames_asked rows = option_map_or number_of_digits (one_of (codes "frames") rows) 64

-- the rows ask for threads
abbrev pub asks_threads : List Row → Bool
asks_threads rows =
    option_map_or (λ t. bytes_eq t (codes "true")) (one_of (codes "threads") rows) false

-- the number that the rows have for an option, from one to another; none where they have none
abbrev pub number_of_option : Text → ℕ → ℕ → List Row → Option ℕ
number_of_option name least most rows =
    option_and_then (λ t. if is_unsigned_in least most t then Some (number_of_digits t) else None)
    (one_of name rows)

-- the number that the rows have for an option, from one to another; a given one where they have
-- none
abbrev pub number_or : Text → ℕ → ℕ → ℕ → List Row → ℕ
number_or name least most otherwise rows =
    unwrap_or (number_of_option name least most rows) otherwise

-- the keys of rows that the rows of a run or a load ask to remember at most: 1,048,576 where they
-- have none
abbrev pub keys_asked : List Row → ℕ
keys_asked = number_or (codes "keys") 0 1048576 1048576

-- The load that the rows ask for, where they have its three numbers; 64 frames where they have
-- none.
abbrev pub load_asked : List Row → Option Subcommand
load_asked rows = option_and_then (λ sessions. option_and_then (λ count. option_map (λ seed.
    asked.Load (number_or (codes "frames") 8 4096 64 rows) (asks_threads rows) (keys_asked rows)
    sessions count seed)
    (number_of_option (codes "seed") 0 18446744073709551615 rows))
    (number_of_option (codes "count") 0 1000000 rows))
    (number_of_option (codes "sessions") 1 8 rows)

-- the command of a name, with its rows
abbrev pub command_named : Text × List Row → Option Subcommand
command_named met = if bytes_eq met.0 (codes "init") then Some asked.Init
    else if bytes_eq met.0 (codes "run") then Some
    (asked.Run (frames_asked met.1) (asks_threads met.1) (keys_asked met.1))
    else if bytes_eq met.0 (codes "load") then load_asked met.1
    else if bytes_eq met.0 (codes "report") then Some asked.Report else None

-- the command that was met, unless there is a fault of one of these kinds
abbrev pub unless_fault : Kinds → Option (Text × List Row) → Option Subcommand
unless_fault [] met = option_and_then command_named met
unless_fault (kind ∷ kinds) met = None

-- The command that the words ask for. They ask for none where the second isn't a folder's, or where
-- `clap` refuses them for another cause than memory.
abbrev pub command_asked : List Text → Option Subcommand
command_asked words = if has_folder words
    then unless_fault (fault_of simple_command words) (subcommand_of simple_command words)
    else None

-- Why no command comes of words: they ask for none, or memory was refused.
abbrev pub AsksForNothing : Option Subcommand → WordsError → Type 0
AsksForNothing asked e = ((e ≡ error.Usage) × (asked ≡ None)) ⊎ (e ≡ error.OutOfMemory)

-- Frames are 8 to 4,096, and keys no more than 1,048,576; a load has 1 to 8 sessions, and no more
-- than 1,000,000 rounds.
abbrev pub AreInRange : Subcommand → Type 0
AreInRange (asked.Run frames threads keys) = (8 ≤ frames) × (frames ≤ 4096) × (keys ≤ 1048576)
AreInRange (asked.Load frames threads keys sessions count seed) = (8 ≤ frames) × (frames ≤ 4096)
    × (keys ≤ 1048576) × (1 ≤ sessions) × (sessions ≤ 8) × (count ≤ 1000000)
AreInRange asked.Init = ⊤
AreInRange asked.Report = ⊤
