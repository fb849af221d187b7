-- A store that was opened, once room for an item of the cleaner's is taken.
use Rattle.std.proofs.Common.{◌≡◌, ℕ, ◌+◌, ◌≤◌, true, ◌∙◌, sym, ap, arith}
use Rattle.std.specs.Prelude.{if◌then◌else◌}
use Rattle.std.specs.List.{sum_by}
use Rattle.ctr_types.specs.declared.statement.Script.{Script}
use Rattle.ctr_disk.specs.declared.disk.Disk.{Ghosts}
use Rattle.ctr_disk.specs.Image.{Image}
use Rattle.ctr_meta.specs.Kept.{TablesKept}
use Rattle.ctr_meta.specs.Tables.{Tables}
use Rattle.ctr_store.specs.Store.{LeavesFront, View}
use Rattle.ctr_store.specs.StoreOpening.{OpensStore}
use Rattle.ctr_pass.specs.txn_Rooms.{HasItemRoom, item_kept}
use Rattle.ctr_pass.specs.exec_sessions_Sessions.{Sessions}
use Rattle.ctr_pass.specs.exec_Sessions.{AreFresh}
use Rattle.ctr_pass.specs.Sparing.{with_cleaner}
use Rattle.ctr_world.specs.declared.beginning.Begun.{Begun}
use Rattle.ctr_world.specs.Begun.{IsBegun}

-- room for one item is enough where nobody has any
one_kept : (mine one room : ℕ) → mine + one ≤ 0 → 1 ≤ room → mine + 1 ≤ room
one_kept mine one room none some = omega (arith, none, some)

pub room_for_one : (h : Sessions) → AreFresh h → (k : TablesKept) → 1 ≤ k.items_room → HasItemRoom (with_cleaner true h.txns) k
room_for_one h fresh k some = one_kept (sum_by item_kept h.txns.sessions) (if h.txns.cleaner then 1 else 0) k.items_room (fresh.room (record k { items_room = 0 })) some

module _ {D : Type 0} (v : View D) (m : TablesKept) (tables : m.tables ≡ v.meta.tables) where
  abbrev pub roomy : View D
  roomy = record v { meta = m }

  pub begun_roomy : (script : Script) (b : Begun) → IsBegun v script b → IsBegun roomy script b
  begun_roomy script b is = record {
    seats = is.seats;
    ordered = is.ordered;
    unkept = is.unkept;
    fresh = is.fresh;
    kept = is.kept;
    next = is.next ∙ ap (λ (t : Tables). t.next) (sym tables);
    stuck = is.stuck;
    script_is = is.script_is;
    count = is.count;
    pass = is.pass;
  }

  pub opens_roomy : (image : Image) → OpensStore image v → OpensStore image roomy
  opens_roomy image opens = record {
    root = opens.root;
    stands = opens.stands;
    fresh = opens.fresh;
    none = opens.none;
    next = opens.next;
    tables = tables ∙ opens.tables;
    hardened = opens.hardened;
    now = opens.now;
    passes = opens.passes;
    pages = opens.pages;
  }

  pub front_roomy : (g : Ghosts D) → LeavesFront g v v → LeavesFront g roomy roomy
  front_roomy g front = record { front = front.front; long = front.long }
