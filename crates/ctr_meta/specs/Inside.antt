-- What the fields of a Meta stand for.
use Rattle.std.specs.Prelude.{◌-◌, ◌≤◌, min, length, vec_len, vec_capacity}
use Rattle.std.specs.List.{AllByRecursion}
use Rattle.ctr_rec.specs.Members.{ItemFits}
use Rattle.ctr_meta.specs.declared.meta.Meta.TheInside.{Inside}
use Rattle.ctr_meta.specs.Tables.{Tables}
use Rattle.ctr_meta.specs.Kept.{TablesKept, XidsFit}

-- The tables of transactions, by the fields of the code.
abbrev pub tables_in : Inside → Tables
tables_in a = record {
  next = a.next;
  opens = a.opens.entries;
  aborted = a.aborted.entries;
  items = a.items.items;
}

-- The tables with their room. For each transaction that is open there is room in the aborted
-- transaction map besides.
abbrev pub kept_here : Inside → TablesKept
kept_here a = record {
  tables = tables_in a;
  opens_room = min a.opens.spare (a.aborted.spare - length a.opens.entries);
  items_room = vec_capacity a.items - vec_len a.items;
}

-- The transactions are as they may be, and each that is open can be aborted without memory; each
-- item is of a page or of an entry of the catalog that there may be.
pub record TablesStand (a : Inside) : Type 0 where
  pub xids : XidsFit (tables_in a)
  pub ends : length a.opens.entries ≤ a.aborted.spare
  pub items : AllByRecursion ItemFits a.items.items
