-- The Write of a row in a World on pages: what its session carries from turn to turn.
use Rattle.std.specs.Prelude.{◌≡◌, ℕ, ℤ, ◌<◌, true, List, [], ◌∷◌, ◌++◌}
use Rattle.ctr_disk.specs.declared.disk.Disk.{Ghosts}
use Rattle.ctr_model.specs.Refusals.{has_lock}
use Rattle.ctr_page.specs.declared.rows.Place.{Place}
use Rattle.ctr_page.specs.declared.rows.Version.{Version}
use Rattle.ctr_page.specs.Columns.{kinds_of, kinds_width}
use Rattle.ctr_area.specs.Areas.{Title, RowVersion, Slot}
use Rattle.ctr_extend.specs.actions_Facts.{Fact, IsOpen, HasTable, HasNoPageBut, HasSlot, HasCopy}
use Rattle.ctr_extend.specs.store_Store.{View}
use Rattle.ctr_extend.specs.heap_Ways.{IsHeadOf}
use Rattle.ctr_extend.specs.kept_Tables.{AreTables}
use Rattle.ctr_extend.specs.kept_Walk.{Mind}
use Rattle.ctr_extend.specs.kept_Turns.{Start, InTransaction}
use Rattle.ctr_extend.specs.stops_World.{KeepsWorld}
use Rattle.ctr_extend.specs.Keeping.{facts_on_way}
use Rattle.ctr_write.specs.declared.stages.Stage.{Stage}
use Rattle.ctr_write.specs.declared.stages.Stage.TheVariants.{Looking, Extending, Kept}
use Rattle.ctr_write.specs.Stages.{IsChainFor, IsToKeep}
use Rattle.ctr_write.specs.Laying.{Wish}

-- A slot of the key, and the version of it that has to be kept first, in a table with these
-- columns.
pub record KeptOf (title : Title) (key : ℤ) : Type 0 where
  pub at : Place
  pub slot : Slot
  pub version : RowVersion
  pub of_key : slot.key ≡ key
  pub is : IsToKeep (kinds_width (kinds_of title.columns)) slot version

-- Between two turns the session carries that its transaction is open, the table, and that it has no
-- page to link; once a version was kept, the slot and the copy too.
abbrev pub facts_looking : Title → ℕ → List Fact
facts_looking title e = IsOpen ∷ HasTable e title ∷ HasNoPageBut [] ∷ []

-- with a copy of a version of the slot at the last place
abbrev pub facts_kept : {key : ℤ} (title : Title) → ℕ → KeptOf title key → Place → List Fact
facts_kept title e of q =
    IsOpen ∷ HasTable e title ∷ HasNoPageBut [] ∷ HasSlot e of.at of.slot
    ∷ HasCopy e of.at of.version q ∷ []

-- the facts are those of a stage, with these more
abbrev pub AreOfStage : Title → ℕ → ℤ → Stage → List Fact → List Fact → Type 0
AreOfStage title e key Looking more facts = facts ≡ facts_looking title e ++ more
AreOfStage title e key (Extending chain way) more facts =
    IsChainFor e key chain × (facts ≡ facts_on_way title chain way ++ more)
AreOfStage title e key (Kept q) more facts =
    (of : KeptOf title key) × (facts ≡ facts_kept title e of q ++ more)

-- A World in which a session that has a number and the lock of a row writes it, and so far it is.
-- Beside that it counts on the tables in which it has locks.
pub record IsAtWrite {D : Type 0} (g : Ghosts D) (c : Start) (opened : D) (a : View D) (w : Mind)
    : Type 0 where
  pub s : ℕ
  pub seat : InTransaction c w s
  pub title : Title
  pub entry : ℕ
  pub key : ℤ
  pub head : Version
  pub stage : Stage
  pub keeps : KeepsWorld g c opened a w
  pub some : 0 < seat.session.me
  pub by : head.xid ≡ seat.session.me
  pub head_is : IsHeadOf title.columns key head
  pub lock : has_lock title.name key seat.t ≡ true
  pub more : List Fact
  pub tables : AreTables more
  pub carries : AreOfStage title entry key stage more (w.facts s)

-- What a session's Write asks for.
abbrev pub wish_of : {D : Type 0} {g : Ghosts D} {c : Start} {opened : D} {a : View D} {w : Mind}
    → IsAtWrite g c opened a w → Wish
wish_of is = record { x = is.seat.session.me; entry = is.entry; key = is.key; head = is.head }
