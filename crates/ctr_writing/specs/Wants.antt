-- Why a Write is refused for want of room, by the pages before it and behind it.
use Rattle.ctr_types.specs.declared.tape.Refusal.{Refusal}
use Rattle.ctr_types.specs.declared.tape.Refusal.TheVariants as refusal
use Rattle.ctr_types.specs.declared.tape.Reply.{Reply}
use Rattle.ctr_types.specs.declared.tape.Reply.TheVariants as reply
use Rattle.ctr_redo.specs.States.{State}
use Rattle.ctr_looks.specs.ctr_ddl.Tables.{IsCatalogFull}
use Rattle.ctr_looks.specs.ctr_extend.Steps.{IsFull}

-- A row is refused as Full where 30,000 pages are counted and none of them is free, a table as
-- CatalogFull where no entry of the catalog is, and then nothing changes. Of other refusals nothing
-- is said: their causes are the model's.
abbrev pub IsRefusedFor : Refusal → State → State → Type 0
IsRefusedFor refusal.NoTransaction s t = Unit {0}
IsRefusedFor refusal.InTransaction s t = Unit {0}
IsRefusedFor refusal.NoTable s t = Unit {0}
IsRefusedFor refusal.TableExists s t = Unit {0}
IsRefusedFor (refusal.TableBusy by) s t = Unit {0}
IsRefusedFor (refusal.SchemaChanged commit) s t = Unit {0}
IsRefusedFor (refusal.BadValue at) s t = Unit {0}
IsRefusedFor (refusal.RowLocked by) s t = Unit {0}
IsRefusedFor (refusal.RowChanged commit) s t = Unit {0}
IsRefusedFor refusal.OutOfMemory s t = Unit {0}
IsRefusedFor refusal.Duplicate s t = Unit {0}
IsRefusedFor refusal.NotFound s t = Unit {0}
IsRefusedFor refusal.OutOfRange s t = Unit {0}
IsRefusedFor (refusal.CatalogFull limit) s t = IsCatalogFull s t
IsRefusedFor (refusal.Full limit) s t = IsFull s t

-- so it is of a reply that refuses
abbrev pub HasRoomCause : Reply → State → State → Type 0
HasRoomCause (reply.Began n) s t = Unit {0}
HasRoomCause reply.Granted s t = Unit {0}
HasRoomCause (reply.Rows rows) s t = Unit {0}
HasRoomCause reply.Done s t = Unit {0}
HasRoomCause (reply.Asked k) s t = Unit {0}
HasRoomCause reply.ReadOnly s t = Unit {0}
HasRoomCause (reply.Answered k) s t = Unit {0}
HasRoomCause reply.RolledBack s t = Unit {0}
HasRoomCause reply.Released s t = Unit {0}
HasRoomCause (reply.Refused why) s t = IsRefusedFor why s t
