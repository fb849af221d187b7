-- A page on its way in a World on pages: what its session carries from turn to turn.
use Rattle.std.specs.Prelude.{◌≡◌, ℕ, ◌<◌, List, ◌∷◌, ◌++◌}
use Rattle.ctr_disk.specs.declared.disk.Disk.{Ghosts}
use Rattle.ctr_page.specs.declared.checks.Chain.{Chain}
use Rattle.ctr_page.specs.Damage.{chain_entry}
use Rattle.ctr_area.specs.Areas.{Title}
use Rattle.ctr_stops.specs.actions_Facts.{Fact, IsOpen, HasTable}
use Rattle.ctr_stops.specs.store_Store.{View}
use Rattle.ctr_stops.specs.kept_Tables.{AreTables}
use Rattle.ctr_stops.specs.kept_Walk.{Mind}
use Rattle.ctr_stops.specs.kept_Turns.{Start, InTransaction}
use Rattle.ctr_stops.specs.World.{KeepsWorld}
use Rattle.ctr_extend.specs.declared.ways.OnWay.{OnWay}
use Rattle.ctr_extend.specs.declared.ways.OnWay.TheVariants.{Wanted}
use Rattle.ctr_extend.specs.declared.ways.Extended.{Extended}
use Rattle.ctr_extend.specs.declared.ways.Extended.TheVariants.{On, Linked, Grown, Full}
use Rattle.ctr_extend.specs.Ways.{way_facts}

-- A session that wants a page for a chain of a table carries that its transaction is open, the
-- table, and how far the page is.
abbrev pub facts_on_way : Title → Chain → OnWay → List Fact
facts_on_way title chain way = IsOpen ∷ HasTable (chain_entry chain) title ∷ way_facts chain way

-- how far the page is behind a turn
abbrev pub way_behind : Extended → OnWay
way_behind (On way) = way
way_behind Linked = Wanted
way_behind Grown = Wanted
way_behind Full = Wanted

-- the turn logged a record
abbrev pub HasLogged : Extended → Type 0
HasLogged (On way) = Unit {0}
HasLogged Linked = Unit {0}
HasLogged Grown = ⊥
HasLogged Full = ⊥

-- A World in which a session that has a number wants a page, and so far it is. Beside that it
-- counts on the tables in which it has locks.
pub record WantsPage {D : Type 0} (g : Ghosts D) (c : Start) (opened : D) (a : View D) (w : Mind)
    : Type 0 where
  pub s : ℕ
  pub seat : InTransaction c w s
  pub title : Title
  pub chain : Chain
  pub way : OnWay
  pub keeps : KeepsWorld g c opened a w
  pub some : 0 < seat.session.me
  pub more : List Fact
  pub tables : AreTables more
  pub carries : w.facts s ≡ facts_on_way title chain way ++ more
