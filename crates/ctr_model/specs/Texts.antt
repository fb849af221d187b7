-- What is printed: the transcript of a tape, and the last line.
use Rattle.std.specs.Prelude.{ℕ, ◌+◌, ◌==◌, List, [], ◌∷◌, ◌++◌, length, codes, if◌then◌else◌}
use Rattle.std.specs.List.{flat_map}
use Rattle.std.specs.Fmt.{decimal, signed_decimal}
use Rattle.ctr_types.specs.declared.value.Value.{Value}
use Rattle.ctr_types.specs.declared.value.Value.TheVariants as value
use Rattle.ctr_types.specs.declared.value.Row.{Row}
use Rattle.ctr_types.specs.declared.tape.Act.{Act}
use Rattle.ctr_types.specs.declared.tape.Act.TheVariants as act
use Rattle.ctr_types.specs.declared.tape.Reply.{Reply}
use Rattle.ctr_types.specs.declared.tape.Reply.TheVariants as reply
use Rattle.ctr_types.specs.declared.tape.Refusal.{Refusal}
use Rattle.ctr_types.specs.declared.tape.Refusal.TheVariants as refusal
use Rattle.ctr_types.specs.declared.tape.Entry.{Entry}
use Rattle.ctr_types.specs.declared.file.File.{File}
use Rattle.ctr_types.specs.declared.file.File.TheVariants as file
use Rattle.ctr_model.specs.declared.tape.Cause.{Cause}
use Rattle.ctr_model.specs.declared.tape.Cause.TheVariants as cause
use Rattle.ctr_model.specs.declared.tape.Report.{Report}
use Rattle.ctr_model.specs.declared.tape.Command.{Command}
use Rattle.ctr_model.specs.declared.tape.Command.TheVariants as command
use Rattle.ctr_model.specs.declared.tape.Survey.{Survey}
use Rattle.ctr_model.specs.Tape.{is_answer, is_refused}

-- the text and a line end
abbrev pub ended : List ℕ → List ℕ
ended text = text ++ 10 ∷ []

-- ---- values and rows

-- a quote in a text is doubled
abbrev pub doubled : ℕ → List ℕ
doubled c = if c == 39 then 39 ∷ 39 ∷ [] else c ∷ []

-- A text between quotes, with each quote inside it doubled.
abbrev pub quoted : List ℕ → List ℕ
quoted text = 39 ∷ flat_map doubled text ++ 39 ∷ []

-- a number in decimal with its sign, or a text between quotes
abbrev pub value_text : Value → List ℕ
value_text (value.Int n) = signed_decimal n
value_text (value.Chars text) = quoted text

-- values with a comma and a blank between
abbrev pub values_text : List Value → List ℕ
values_text [] = []
values_text (v ∷ []) = value_text v
values_text (v ∷ w ∷ vs) = value_text v ++ codes ", " ++ values_text (w ∷ vs)

-- the values of a row in parentheses
abbrev pub row_text : Row → List ℕ
row_text row = codes "(" ++ values_text row.values ++ codes ")"

-- ---- the transcript

-- who holds or uses a table: recovery, which is 0, or a session
abbrev pub holder_text : ℕ → List ℕ
holder_text by = if by == 0 then codes "recovery" else decimal by

-- a refusal's name, and its number where it has one
abbrev pub refusal_text : Refusal → List ℕ
refusal_text refusal.NoTransaction = codes "NoTransaction"
refusal_text refusal.InTransaction = codes "InTransaction"
refusal_text refusal.NoTable = codes "NoTable"
refusal_text refusal.TableExists = codes "TableExists"
refusal_text (refusal.TableBusy by) = codes "TableBusy by " ++ holder_text by
refusal_text (refusal.SchemaChanged commit) = codes "SchemaChanged by commit " ++ decimal commit
refusal_text (refusal.BadValue at) = codes "BadValue " ++ decimal at
refusal_text (refusal.RowLocked by) = codes "RowLocked by " ++ decimal by
refusal_text (refusal.RowChanged commit) = codes "RowChanged by commit " ++ decimal commit
refusal_text refusal.OutOfMemory = codes "OutOfMemory"
refusal_text refusal.Duplicate = codes "Duplicate"
refusal_text refusal.NotFound = codes "NotFound"
refusal_text refusal.OutOfRange = codes "OutOfRange"
refusal_text (refusal.CatalogFull limit) = codes "CatalogFull " ++ decimal limit
refusal_text (refusal.Full limit) = codes "Full " ++ decimal limit

-- a row on a line of its own, after two blanks
abbrev pub row_line : Row → List ℕ
row_line row = ended (codes "  " ++ row_text row)

-- The head of a line: which session's which statement was answered.
abbrev pub entry_head : Entry → List ℕ
entry_head e = decimal e.session ++ codes "." ++ decimal e.statement ++ codes ": "

-- an entry's line with this text
abbrev pub entry_line : Entry → List ℕ → List ℕ
entry_line e text = ended (entry_head e ++ text)

-- The line that tells which name recovery released.
abbrev pub release_line : Act → List ℕ
release_line (act.Release name) = ended (codes "recovery: released " ++ name)
release_line a = []

-- The lines of an entry with this reply. A lock that is granted and a commit that is asked for
-- print nothing.
abbrev pub reply_text : Entry → Reply → List ℕ
reply_text e (reply.Began n) = entry_line e (codes "begin at " ++ decimal n)
reply_text e reply.Granted = []
reply_text e (reply.Rows rows) =
    entry_line e (codes "rows " ++ decimal (length rows.rows)) ++ flat_map row_line rows.rows
reply_text e reply.Done = entry_line e (codes "done")
reply_text e (reply.Asked k) = []
reply_text e reply.ReadOnly = entry_line e (codes "commit none")
reply_text e (reply.Answered k) = entry_line e (codes "commit " ++ decimal k)
reply_text e reply.RolledBack = entry_line e (codes "rolled back")
reply_text e reply.Released = release_line e.act
reply_text e (reply.Refused why) = entry_line e (codes "refused " ++ refusal_text why)

-- the lines of an entry
abbrev pub entry_text : Entry → List ℕ
entry_text e = reply_text e e.reply

-- the entries in the order of the tape
abbrev pub transcript : List Entry → List ℕ
transcript es = flat_map entry_text es

-- ---- the last line

-- how many commits were answered
abbrev pub answers : List Entry → ℕ
answers [] = 0
answers (e ∷ es) = (if is_answer e.reply then 1 else 0) + answers es

-- how many acts were refused
abbrev pub refusals : List Entry → ℕ
refusals [] = 0
refusals (e ∷ es) = (if is_refused e.reply then 1 else 0) + refusals es

-- the last line of a run
abbrev pub end_line : List Entry → Report → List ℕ
end_line es report = ended (
    codes "end: commits " ++ decimal (answers es) ++ codes ", refused " ++ decimal (refusals es)
    ++ codes ", undo " ++ decimal report.undo_turns)

-- the last line of a generated load of so many sessions and statements
abbrev pub load_line : ℕ → ℕ → List Entry → Report → List ℕ
load_line sessions statements es report = ended (
    codes "load: sessions " ++ decimal sessions ++ codes ", statements " ++ decimal statements
    ++ codes ", commits " ++ decimal (answers es) ++ codes ", refused " ++ decimal (refusals es)
    ++ codes ", rows " ++ decimal report.rows ++ codes ", sum " ++ signed_decimal report.sum)

-- the line of what the files held
abbrev pub report_line : Survey → List ℕ
report_line s = ended (
    codes "report: tables " ++ decimal s.tables ++ codes ", rows " ++ decimal s.rows
    ++ codes ", open " ++ decimal s.orphans
    ++ codes ", aborted " ++ decimal s.aborted ++ codes ", items " ++ decimal s.items)

-- of a command that came to its end
abbrev pub success_line : Command → List Entry → Report → List ℕ
success_line command.Init es report = ended (codes "init: done")
success_line command.Run es report = end_line es report
success_line (command.Load sessions statements) es report = load_line sessions statements es report
success_line (command.Survey start) es report = report_line start

-- The name of a file, as it is printed.
abbrev pub file_text : File → List ℕ
file_text file.Root = codes "Root"
file_text file.LogA = codes "LogA"
file_text file.LogB = codes "LogB"
file_text file.Pages = codes "Pages"

-- the place at which a script is refused, or that it is too long
abbrev pub script_line : Cause → List ℕ
script_line (cause.Script line at) =
    ended (codes "ctr: script refused at line " ++ decimal line ++ codes ", byte " ++ decimal at)
script_line c = ended (codes "ctr: script too long")

-- where a check failed, what it wants and what is there
abbrev pub damage_line : Cause → List ℕ
damage_line (cause.Damaged d) = ended (
    codes "ctr: damaged " ++ file_text d.file ++ codes " at " ++ decimal d.at
    ++ codes ": want " ++ decimal d.want ++ codes ", got " ++ decimal d.got)
damage_line c = []

-- the number that is too near its end
abbrev pub worn_line : Cause → List ℕ
worn_line (cause.Worn number) = ended (codes "ctr: worn at " ++ decimal number)
worn_line c = []

-- the last line of each status; a sink that failed gets none
abbrev pub last_line : Command → ℕ → Cause → List Entry → Report → List ℕ
last_line of status cause es report =
    if status == 0 then success_line of es report else
    if status == 1 then script_line cause else
    if status == 2 then ended (codes "ctr: usage") else
    if status == 3 then ended (codes "ctr: no database") else
    if status == 4 then damage_line cause else
    if status == 5 then ended (codes "ctr: disk fault") else
    if status == 6 then ended (codes "ctr: read fault") else
    if status == 8 then ended (codes "ctr: out of memory") else
    if status == 9 then ended (codes "ctr: database exists") else
    if status == 10 then worn_line cause else
    []
