-- What a command promises: what a crash leaves, the tape, the text, and the cause of each ending.
use Rattle.std.specs.Prelude.{◌≡◌, ◌≢◌, ◌⊎◌, ◌≤◌, ◌<◌, ℕ, ◌+◌, ◌-◌, ◌^◌, Bool, true, false, IsTrue, IsSome, List, [], ◌++◌, length, Option, None, Some}
use Rattle.ctr_types.specs.Faults.{CountsFault}
use Rattle.ctr_types.specs.declared.statement.Line.{Line}
use Rattle.ctr_disk.specs.Image.{Image}
use Rattle.ctr_disk.specs.declared.disk.Disk.{Ghosts}
use Rattle.ctr_disk.specs.declared.fault.Stop.{Stop}
use Rattle.ctr_disk.specs.Device.{LeavesOnly, OnlyReads}
use Rattle.ctr_io.specs.declared.edges.Source.{Ghosts as Source}
use Rattle.ctr_io.specs.declared.edges.Sink.{Ghosts as Sink}
use Rattle.ctr_home.specs.declared.block.Block.TheVariants.{Root as RootBlock}
use Rattle.ctr_home.specs.Blocks.{value_of}
use Rattle.ctr_log.specs.declared.opening.OpenError.{OpenError}
use Rattle.ctr_types.specs.declared.tape.Entry.{Entry}
use Rattle.ctr_model.specs.declared.tape.Command.{Command}
use Rattle.ctr_model.specs.declared.tape.Command.TheVariants as command
use Rattle.ctr_model.specs.declared.tape.Report.{Report}
use Rattle.ctr_model.specs.declared.tape.Survey.{Survey}
use Rattle.ctr_model.specs.Grammar.{most_bytes}
use Rattle.ctr_model.specs.Language.{SpellsLine}
use Rattle.ctr_model.specs.Lines.{IsWritten}
use Rattle.ctr_model.specs.Tape.{IsSerial}
use Rattle.ctr_model.specs.Texts.{answers, refusals, transcript, last_line}
use Rattle.ctr_print.specs.Prints.{PutsOn}
use Rattle.ctr_load.specs.Generated.{generated}
use Rattle.ctr_redo.specs.States.{State}
use Rattle.ctr_record_effects.specs.Standing.{StandsForDatabase}
use Rattle.ctr_script.specs.Written.{IsShortRefusal}
use Rattle.ctr_database.specs.ctr_survey.Surveying.{survey_of}
use Rattle.ctr_database.specs.Database.{IsNewlyMade, IsNoneOrNewlyMade}
use Rattle.ctr_database.specs.ctr_run.declared.ran.Left.{Left}
use Rattle.ctr_database.specs.ctr_run.declared.ran.RunEnd.{RunEnd}
use Rattle.ctr_database.specs.ctr_run.declared.ran.RunEnd.TheVariants.{Stopped, Unopened}
use Rattle.ctr_database.specs.ctr_run.Running.{EndsAsAsked, EndsRunFor, RunsInOrder, RunsNone, RunsOver, opened_on}
use Rattle.ctr_database.specs.ctr_run.ctr_world.Ended.{PassesOpening}
use Rattle.ctr_database.specs.ctr_run.ctr_world.World.{rows_asked}
use Rattle.ctr_database.specs.ctr_run.ctr_world.totals_Totals.{AreTotals, no_totals}
use Rattle.ctr_words.specs.declared.words.Subcommand.{Subcommand}
use Rattle.ctr_words.specs.declared.words.Subcommand.TheVariants as subcommand
use Rattle.ctr_top.specs.declared.outcome.Outcome.{Outcome}
use Rattle.ctr_top.specs.declared.commands.Ended.{Ended}
use Rattle.ctr_top.specs.declared.ending.Ending.{Ending}
use Rattle.ctr_top.specs.declared.ending.Ending.TheVariants as ending
use Rattle.ctr_top.specs.Endings.{status_of, cause_of, ran_as, work}

-- ---- the work, and what it leaves

-- what the work of a command left
abbrev pub work_of : {D : Type 0} → Ended D → Outcome D
work_of e = record { ending = work e.ending; left = e.left }

-- the work came to its end
abbrev pub IsFinished : {D : Type 0} → Outcome D → Type 0
IsFinished o = o.ending ≡ ending.Finished

-- The lines are the script that the source held; where it held none, the tape is empty.
pub record IsScriptOf {D S : Type 0} (s : Source S) (source : S) (lines : List Line)
    (o : Outcome D) : Type 0 where
  -- also where the source doesn't tell, they are the script of some bytes
  pub of_bytes : (bytes : List ℕ) × IsWritten SpellsLine bytes lines
  pub script : IsTrue s.tells
      → IsWritten SpellsLine (s.left source) lines ⊎ (o.left.tape.entries ≡ [])
  pub at_end : IsTrue s.tells → IsFinished o → IsWritten SpellsLine (s.left source) lines

-- nothing was run: there is no entry, and undo took no turn
abbrev pub IsUnrun : {D : Type 0} → Left D → Type 0
IsUnrun l = (l.tape.entries ≡ []) × (l.undone ≡ 0)

-- A script was run. Whatever the disk tells, the tape stands in the order of its lines, its moments
-- lie in the call, and it is whole where the run is finished. Over a database it is legal, a crash
-- at any moment leaves a prefix of the commit order with every commit answered by then, or, before
-- the first entry, what it might have left as the call began, and a run that is finished is
-- complete.
pub record RanScript {D S : Type 0} (g : Ghosts D) (old : D) (s : Source S) (source : S)
    (o : Outcome D) : Type 0 where
  pub lines : List Line
  pub script : IsScriptOf s source lines o
  pub order : RunsInOrder g old lines (IsFinished o) o.left
  pub over : (base : State) → IsTrue g.tells → StandsForDatabase (g.reads old) base
      → RunsOver g old base lines (IsFinished o) o.left

-- the script may have been read: the ending is none of one that wasn't for its bytes or its source
abbrev pub IsScriptRead : Ending → Type 0
IsScriptRead ending.Finished = Unit {0}
IsScriptRead (ending.Refused line at) = ⊥
IsScriptRead ending.TooLong = ⊥
IsScriptRead ending.Usage = Unit {0}
IsScriptRead ending.NoDatabase = Unit {0}
IsScriptRead (ending.Damaged d) = Unit {0}
IsScriptRead ending.DiskFault = Unit {0}
IsScriptRead ending.ReadFault = ⊥
IsScriptRead ending.WriteFault = Unit {0}
IsScriptRead ending.OutOfMemory = Unit {0}
IsScriptRead ending.Exists = Unit {0}
IsScriptRead (ending.Worn number) = Unit {0}

-- the clock doesn't go back, no count of faults falls, and at most 16,777,217 bytes are taken
pub record GoesForward {D S : Type 0} (g : Ghosts D) (s : Source S) (old new : D)
    (source source_new : S) : Type 0 where
  pub later : g.moment_of old ≤ g.moment_of new
  pub disk_faults : g.faults_of old ≤ g.faults_of new
  pub source_faults : s.faults_of source ≤ s.faults_of source_new
  pub taken : IsTrue s.tells → length (s.left source) ≤ length (s.left source_new) + 16777217

-- ---- the cause of each ending

-- The ending is that of this end of a run, which has its cause: that the database was opened, why
-- it wasn't, and then nothing was run, and a crash leaves a database as it was; or why its World
-- was stopped. Over a database only some ends come where nothing fails.
pub record EndsBy {D : Type 0} (g : Ghosts D) (old : D) (o : Outcome D) : Type 0 where
  pub end : RunEnd
  pub is : o.ending ≡ ran_as end
  pub why : EndsRunFor g old o.left.disk end
  pub none : (error : OpenError) → end ≡ Unopened error → RunsNone g old o.left
  pub asked : (base : State) → IsTrue g.tells → StandsForDatabase (g.reads old) base
      → EndsAsAsked g old o.left.disk end

-- What each ending says of the source: a script that was read, one that is none or is too long, or
-- a fault.
abbrev pub SourceWhy : {S : Type 0} → Source S → S → S → Ending → Type 0
SourceWhy s old new ending.Finished = Unit {0}
SourceWhy s old new (ending.Refused line at) = IsTrue s.tells → IsShortRefusal (s.left old) line at
SourceWhy s old new ending.TooLong = IsTrue s.tells → most_bytes < length (s.left old)
SourceWhy s old new ending.Usage = Unit {0}
SourceWhy s old new ending.NoDatabase = Unit {0}
SourceWhy s old new (ending.Damaged d) = Unit {0}
SourceWhy s old new ending.DiskFault = Unit {0}
SourceWhy s old new ending.ReadFault = CountsFault (s.faults_of old) (s.faults_of new)
SourceWhy s old new ending.WriteFault = Unit {0}
SourceWhy s old new ending.OutOfMemory = Unit {0}
SourceWhy s old new ending.Exists = Unit {0}
SourceWhy s old new (ending.Worn number) = Unit {0}

-- what may come in place of any ending of reading
abbrev pub IsHindered : Ending → Type 0
IsHindered e = (e ≡ ending.ReadFault) ⊎ (e ≡ ending.OutOfMemory)

-- the bytes are a script, or the ending may come without one
abbrev pub WantsScript : List ℕ → Ending → Type 0
WantsScript bytes e = (IsScriptRead e → ⊥)
    ⊎ ((e ≡ ending.OutOfMemory) ⊎ ((lines : List Line) × IsWritten SpellsLine bytes lines))

-- The script is read before the disk is touched, so the bytes decide first: what is refused is
-- refused at its place, and what is too long is so, unless the source fails or memory is refused.
pub record IsByScript (bytes : List ℕ) (e : Ending) : Type 0 where
  pub wants : WantsScript bytes e
  pub refused : (line at : ℕ) → IsShortRefusal bytes line at
      → (e ≡ ending.Refused line at) ⊎ IsHindered e
  pub too_long : most_bytes < length bytes → (e ≡ ending.TooLong) ⊎ IsHindered e

-- The cause of each ending of a run. A call that failed ends the run and is told: at any other
-- ending none has failed. Where the script wasn't read, nothing was run, and the disk wasn't
-- touched.
pub record RunCauses {D S : Type 0} (g : Ghosts D) (old : D) (s : Source S)
    (source source_new : S) (o : Outcome D) : Type 0 where
  pub by_disk : IsScriptRead o.ending → EndsBy g old o
  pub unread : (IsScriptRead o.ending → ⊥) → IsUnrun o.left × (o.left.disk ≡ old)
  pub by_source : SourceWhy s source source_new o.ending
  pub by_script : IsTrue s.tells → IsByScript (s.left source) o.ending
  pub disk_calm : o.ending ≢ ending.DiskFault → g.faults_of o.left.disk ≡ g.faults_of old
  pub source_calm : o.ending ≢ ending.ReadFault → s.faults_of source_new ≡ s.faults_of source

-- Where nothing fails a run is finished, or memory was refused before its first entry, or it tells
-- the last number of a record, 2^63 - 1, or a greater one.
abbrev pub EndsUnfailed : {D : Type 0} → Ending → Left D → Type 0
EndsUnfailed e l = (e ≡ ending.Finished)
    ⊎ (((e ≡ ending.OutOfMemory) × (l.tape.entries ≡ []))
    ⊎ ((lsn : ℕ) × (e ≡ ending.Worn lsn) × (2 ^ 63 - 1 ≤ lsn)))

-- ---- load

-- The lines were run, in serial order unless on threads, or memory was refused before the disk was
-- touched. What stands of a script's run stands here: order, what a crash leaves, causes, and,
-- where nothing fails, the end. Over a database a load that is finished tells the rows of the table
-- `load` and their sum, as they are behind all that asked for a commit; else it tells none.
pub record Loads {D : Type 0} (g : Ghosts D) (old : D) (lines : List Line) (threads : Bool)
    (o : Outcome D) : Type 0 where
  pub order : RunsInOrder g old lines (IsFinished o) o.left
  pub over : (base : State) → IsTrue g.tells → StandsForDatabase (g.reads old) base
      → RunsOver g old base lines (IsFinished o) o.left
  pub serial : threads ≡ false → IsSerial lines o.left.tape.entries
  pub causes : EndsBy g old o
  pub calm : o.ending ≢ ending.DiskFault → g.faults_of o.left.disk ≡ g.faults_of old
  pub complete : (base : State) → IsTrue g.tells → StandsForDatabase (g.reads old) base
      → PassesOpening (g.reads old) → (CountsFault (g.faults_of old) (g.faults_of o.left.disk) → ⊥)
      → EndsUnfailed o.ending o.left
  pub counted : (base : State) → IsTrue g.tells → StandsForDatabase (g.reads old) base
      → IsFinished o
      → AreTotals (rows_asked (opened_on g old lines) base o.left.tape.entries) o.left.totals
  pub uncounted : (IsFinished o → ⊥) → o.left.totals ≡ no_totals

-- ---- init

-- the cause of each ending of a making, which has no others
abbrev pub MakeWhy : {D : Type 0} → Ghosts D → D → D → Ending → Type 0
MakeWhy g old new ending.Finished = (IsTrue g.tells → value_of RootBlock (g.reads old) ≡ None)
    × (g.faults_of new ≡ g.faults_of old)
MakeWhy g old new (ending.Refused line at) = ⊥
MakeWhy g old new ending.TooLong = ⊥
MakeWhy g old new ending.Usage = ⊥
MakeWhy g old new ending.NoDatabase = ⊥
MakeWhy g old new (ending.Damaged d) = ⊥
MakeWhy g old new ending.DiskFault = CountsFault (g.faults_of old) (g.faults_of new)
MakeWhy g old new ending.ReadFault = ⊥
MakeWhy g old new ending.WriteFault = ⊥
MakeWhy g old new ending.OutOfMemory = new ≡ old
MakeWhy g old new ending.Exists = (IsTrue g.tells → IsSome (value_of RootBlock (g.reads old)))
    × (g.faults_of new ≡ g.faults_of old)
MakeWhy g old new (ending.Worn number) = ⊥

-- Where no root home is open, a making leaves none or the empty database, at each moment, and at
-- its end that database, which can be opened; and where one is open it only reads.
pub record Makes {D : Type 0} (g : Ghosts D) (old : D) (o : Outcome D) : Type 0 where
  pub any_moment : IsTrue g.tells → value_of RootBlock (g.reads old) ≡ None
      → LeavesOnly g old o.left.disk (λ c. g.images old c ⊎ IsNoneOrNewlyMade c)
  pub made : IsTrue g.tells → IsFinished o → (c : Image)
      → g.since o.left.disk (g.moment_of o.left.disk) c → IsNewlyMade c
  pub untouched : IsTrue g.tells → IsSome (value_of RootBlock (g.reads old))
      → OnlyReads g old o.left.disk
  pub causes : MakeWhy g old o.left.disk o.ending
  pub none : IsUnrun o.left
  pub stray : g.strays_of o.left.disk ≡ g.strays_of old

-- ---- report

-- A report has no entries. Of a database a crash at each moment leaves that in the state in which
-- it was, or what it might have left as the call began. It is finished, or not opened.
pub record ReportLeaves {D : Type 0} (g : Ghosts D) (old : D) (o : Outcome D) : Type 0 where
  pub none : IsUnrun o.left
  pub left : (base : State) → IsTrue g.tells → StandsForDatabase (g.reads old) base
      → LeavesOnly g old o.left.disk (λ c. g.images old c ⊎ StandsForDatabase c base)
  pub causes : EndsBy g old o
  pub unbegun : (stop : Stop) → causes.end ≡ Stopped stop → ⊥

-- what it tells are the counts of the database that the disk held at the start
pub record Reports {D : Type 0} (g : Ghosts D) (old : D) (e : Ended D) : Type 0 where
  pub leaves : ReportLeaves g old (work_of e)
  pub counts : (base : State) → IsTrue g.tells → StandsForDatabase (g.reads old) base
      → IsFinished (work_of e) → e.survey ≡ survey_of base

-- ---- the words

-- Usage comes exactly for words that ask for no command, unless memory is refused. Nothing else is
-- touched then, and the source only by a run.
pub record MindsWords {D S : Type 0} (s : Source S) (asked : Option Subcommand) (old : D)
    (e : Ended D) (source source_new : S) : Type 0 where
  pub usage : e.ending ≡ ending.Usage → asked ≡ None
  pub none : asked ≡ None → (e.ending ≡ ending.Usage) ⊎ (e.ending ≡ ending.OutOfMemory)
  pub untouched : asked ≡ None → (e.left.disk ≡ old) × IsUnrun e.left
  pub only_run_reads : ((frames : ℕ) (threads : Bool) (keys : ℕ)
      → asked ≡ Some (subcommand.Run frames threads keys) → ⊥)
      → source_new ≡ source

-- ---- the text

-- The command whose last line is printed, with the counts that a report tells. Words that ask for
-- none end with a line that is the same for each.
abbrev pub command_told : Option Subcommand → Survey → Command
command_told (Some subcommand.Init) counts = command.Init
command_told (Some (subcommand.Run frames threads keys)) counts = command.Run
command_told (Some (subcommand.Load frames threads keys sessions count seed)) counts =
    command.Load sessions (length (generated sessions count seed))
command_told (Some subcommand.Report) counts = command.Survey counts
command_told None counts = command.Run

-- what a command shows of its tape: the transcript, and a load nothing
abbrev pub shown_tape : Command → List Entry → List ℕ
shown_tape (command.Load sessions statements) es = []
shown_tape command.Init es = transcript es
shown_tape command.Run es = transcript es
shown_tape (command.Survey counts) es = transcript es

-- what is shown of the tape, and the last line of the work's ending
abbrev pub printed_text : {D : Type 0} → Command → Ended D → List ℕ
printed_text command e =
    let ended = work e.ending in
    let es = e.left.tape.entries in
    shown_tape command es ++ last_line command (status_of ended) (cause_of ended) es e.report

-- the text was put, or where the sink failed a prefix of it; a write fault is the end of work whose
-- text wasn't put
pub record PutsText {K : Type 0} (g : Sink K) (old : K) (text : List ℕ) (new : K) (e : Ending)
    : Type 0 where
  pub done : Bool
  pub put : PutsOn g old text new done
  pub fine : e ≡ ending.Finished → done ≡ true
  pub failed : e ≡ ending.WriteFault → done ≡ false

-- commits answered and acts refused, as the tape has them, the turns that undo took, and the totals
abbrev pub report_of : {D : Type 0} → Left D → Report
report_of l = record {
  commits = answers l.tape.entries;
  refused = refusals l.tape.entries;
  undo_turns = l.undone;
  rows = l.totals.rows;
  sum = l.totals.sum;
}

-- ---- faults

-- how many calls of the disk, the source and the sink have failed
pub record Faults : Type 0 where
  pub disk : ℕ
  pub source : ℕ
  pub sink : ℕ

-- The counts of faults of disk, source and sink.
abbrev pub faults_of : {D S K : Type 0} → Ghosts D → Source S → Sink K → D → S → K → Faults
faults_of g s k disk source sink =
    record { disk = g.faults_of disk; source = s.faults_of source; sink = k.faults_of sink }

-- no call failed: no count of faults rose, nor stood at its last value
pub record NoneFailed (before now : Faults) : Type 0 where
  pub no_disk : CountsFault before.disk now.disk → ⊥
  pub no_source : CountsFault before.source now.source → ⊥
  pub no_sink : CountsFault before.sink now.sink → ⊥
