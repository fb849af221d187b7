-- A slot that was copied off its page: each payload stands at the front of bytes of its own.
use Rattle.std.specs.Prelude.{◌≤◌, take, IfSome}
use Rattle.std.specs.Option.{option_map}
use Rattle.ctr_page.specs.declared.rows.Version.{Version}
use Rattle.ctr_page.specs.declared.rows.RowSlot.{RowSlot}
use Rattle.ctr_write.specs.declared.copying.VersionCopy.{VersionCopy}
use Rattle.ctr_write.specs.declared.copying.SlotCopy.{SlotCopy}

-- the version that was copied
abbrev pub version_copied : VersionCopy → Version
version_copied c = record {
  xid = c.xid;
  tombstone = c.tombstone;
  payload = take c.width c.bytes;
}

-- the slot that was copied
abbrev pub slot_copied : SlotCopy → RowSlot
slot_copied c = record {
  used = c.used;
  key = c.key;
  head = version_copied c.head;
  previous = option_map version_copied c.previous;
  older = c.older;
}

-- no payload has more bytes than it may have
abbrev pub VersionFits : VersionCopy → Type 0
VersionFits c = c.width ≤ 2048

-- A copy has its payloads whole.
abbrev pub CopyFits : SlotCopy → Type 0
CopyFits c = VersionFits c.head × IfSome c.previous VersionFits
