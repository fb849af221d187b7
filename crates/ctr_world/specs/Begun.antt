-- What a World on pages has beside its store, before the first turn.
use Rattle.std.specs.Prelude.{◌≡◌, ℕ, ◌≤◌, ⊤, true, Result, Ok, Err, OnOk}
use Rattle.ctr_types.specs.declared.statement.Script.{Script}
use Rattle.ctr_disk.specs.declared.disk.Disk.{Ghosts}
use Rattle.ctr_disk.specs.Image.{Image}
use Rattle.ctr_disk.specs.declared.fault.StoreFault.{StoreFault}
use Rattle.ctr_disk.specs.declared.fault.StoreFault.TheVariants as fault
use Rattle.ctr_log.specs.declared.opening.OpenError.{OpenError}
use Rattle.ctr_log.specs.declared.opening.OpenError.TheVariants as open_error
use Rattle.ctr_area.specs.Images.{undo_size}
use Rattle.ctr_area.specs.Sound.{xids_in}
use Rattle.ctr_meta.specs.Kept.{TablesKept}
use Rattle.ctr_names.specs.Held.{names_of_items}
use Rattle.ctr_redo.specs.States.{State}
use Rattle.ctr_record_effects.specs.States.{area_in}
use Rattle.ctr_store.specs.Store.{View}
use Rattle.ctr_undo.specs.Left.{left_in}
use Rattle.ctr_undo.specs.walk_Damage.{ReadsPages}
use Rattle.ctr_undo.specs.declared.naming.NamesRefusal.{NamesRefusal}
use Rattle.ctr_undo.specs.declared.naming.NamesRefusal.TheVariants as refusal
use Rattle.ctr_pass.specs.exec_sessions_Sessions.{Sessions}
use Rattle.ctr_pass.specs.exec_Order.{IsTapeOrdered}
use Rattle.ctr_pass.specs.exec_Sessions.{AreFresh, AreSeated}
use Rattle.ctr_pass.specs.cursor_Pass.{start}
use Rattle.ctr_pass.specs.declared.pass.Phase.TheVariants.{Calm}
use Rattle.ctr_pass.specs.Sparing.{keeping_room}
use Rattle.ctr_world.specs.declared.beginning.Begun.{Begun}

-- The sessions are those of a script that have begun nothing, over the store, but that room is kept
-- for an item of the cleaner's; recovery holds the names of what is left of undo, and that is all
-- that there is; and the cleaner's pass is the first.
pub record IsBegun {D : Type 0} (v : View D) (script : Script) (b : Begun) : Type 0 where
  pub seats : (counted : ℕ) → AreSeated b.sessions counted
  pub ordered : (start now : ℕ) → start ≤ now → IsTapeOrdered start now b.sessions
  pub unkept : Sessions
  pub fresh : AreFresh unkept
  pub kept : b.sessions ≡ keeping_room true unkept
  pub next : b.sessions.txns.numbers.next ≡ v.meta.tables.next
  pub stuck : b.sessions.stuck ≡ b.names.items
  pub script_is : b.sessions.script ≡ script
  pub count : left_in b.undo ≤ b.size
  pub pass : b.pass ≡ record { at = start; next = v.next; seen = 0; phase = Calm }

-- Of a state that may be a database's: undo is all of its tables', with the names of these.
pub record UndoesAll (s : State) (b : Begun) : Type 0 where
  pub items : b.undo.items ≡ s.tables.items
  pub orphans : b.undo.orphans ≡ xids_in s.tables.opens
  pub names : b.names.items ≡ names_of_items (area_in s).title s.tables.items
  pub size : b.size ≡ undo_size s.tables

-- why an opening is refused whose names aren't given
abbrev pub refused_by : NamesRefusal → OpenError
refused_by (refusal.Store fault.Fault) = open_error.Fault
refused_by (refusal.Store (fault.Damaged d)) = open_error.Damaged d
refused_by refusal.OutOfMemory = open_error.OutOfMemory

-- what a reading of pages is refused by: it finds neither that there is no database nor a worn
-- number
abbrev pub IsOfReading : OpenError → Type 0
IsOfReading open_error.NoDatabase = ⊥
IsOfReading (open_error.Damaged d) = Unit {0}
IsOfReading (open_error.Worn n) = ⊥
IsOfReading open_error.Fault = Unit {0}
IsOfReading open_error.OutOfMemory = Unit {0}

-- how the reading of pages ended that began it: want of memory is no fault of theirs
abbrev pub read_by : {T : Type 0} → Result T OpenError → Result ⊤ StoreFault
read_by (Ok x) = Ok tt
read_by (Err open_error.NoDatabase) = Ok tt
read_by (Err (open_error.Damaged d)) = Err (fault.Damaged d)
read_by (Err (open_error.Worn n)) = Ok tt
read_by (Err open_error.Fault) = Err fault.Fault
read_by (Err open_error.OutOfMemory) = Ok tt

-- Room for one item of the secondary log was taken, and then pages were read.
pub record LeavesRoomy {D T : Type 0} (first : Image) (g : Ghosts D) (a b : View D)
    (result : Result T OpenError) : Type 0 where
  pub meta : TablesKept
  pub tables : meta.tables ≡ a.meta.tables
  pub room : OnOk result (1 ≤ meta.items_room)
  pub reads : ReadsPages first g (record a { meta = meta }) b (read_by result)
