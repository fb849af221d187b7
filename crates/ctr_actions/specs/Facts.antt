-- What a session counts on from one of its turns to the next, whoever acts between.
use Rattle.std.specs.Prelude.{◌≡◌, ◌≢◌, ℕ, ℤ, true, List}
use Rattle.ctr_record_laws.specs.rec_SlogItem.TheVariants.{AllocOf}
use Rattle.ctr_record_laws.specs.meta_Tables.{is_in}
use Rattle.ctr_record_laws.specs.page_Header.{Header}
use Rattle.ctr_record_laws.specs.page_Place.{Place}
use Rattle.ctr_record_laws.specs.area_Areas.{Title, RowVersion, Slot}
use Rattle.ctr_record_laws.specs.area_Sound.{IsAmong, IsUsedSlot}
use Rattle.ctr_record_laws.specs.Owed.{OwedByFormat, IsEmptyPage}
use Rattle.ctr_record_laws.specs.Loose.{IsSpareFor}
use Rattle.ctr_actions.specs.Sites.{Site}
use Rattle.ctr_actions.specs.Actions.{Action, Allocates, Formats, Links, LinksOlder, Commits, Frees, Aborts, Writes, Creates, Drops, Uncreates, Undrops, Reverts, Trims, FreesOlder, MakesDead, Unlinks, FreesEntry}

-- Its transaction is open; a page is its own to link; it has no page to link but these; a page is
-- its own, and is empty with a header; a slot of a table is as it was read; a version of what
-- stands there was kept; the title of a table is this.
pub data Fact : Type 0 where
  IsOpen : Fact
  HasPage : ℕ → Fact
  HasNoPageBut : List ℕ → Fact
  HasBlank : ℕ → Header → Fact
  HasSlot : ℕ → Place → Slot → Fact
  HasCopy : ℕ → Place → RowVersion → Place → Fact
  HasTable : ℕ → Title → Fact

-- The fact holds of a transaction.
abbrev pub HoldsFact : ℕ → Fact → Site → Type 0
HoldsFact x IsOpen s = is_in x s.tables.opens ≡ true
HoldsFact x (HasPage p) s = OwedByFormat s.tables x p
HoldsFact x (HasNoPageBut ps) s = (p : ℕ) → IsAmong (AllocOf x p) s.tables.items → IsAmong p ps
HoldsFact x (HasBlank p h) s =
    OwedByFormat s.tables x p × IsEmptyPage s.area p × (s.area.header p ≡ h)
HoldsFact x (HasSlot e at slot) s = IsUsedSlot s.area e at × (s.area.slot at ≡ slot)
HoldsFact x (HasCopy e at version q) s = IsUsedSlot s.area e at × IsSpareFor s.area e at version q
HoldsFact x (HasTable e title) s = s.area.title e ≡ title

-- An action is away from a fact: a row is written, reverted or trimmed in another slot, and another
-- copy is freed; a bucket of another table loses a page; another entry of the catalog is created or
-- freed, dropped or made dead, or that is undone. Of another's action that follows from locks, and
-- from the uses of tables.
abbrev pub IsAway : Action → Fact → Type 0
IsAway (Writes m) (HasSlot e at slot) = at ≢ m.at
IsAway (Writes m) (HasCopy e at version q) = at ≢ m.at
IsAway (Reverts f b way) (HasSlot e at slot) = at ≢ b
IsAway (Reverts f b way) (HasCopy e at version q) = at ≢ b
IsAway (Trims passes f b way) (HasSlot e at slot) = at ≢ b
IsAway (Trims passes f b way) (HasCopy e at version q) = at ≢ b
IsAway (FreesOlder f r) (HasCopy e at version q) = q ≢ r
IsAway (Unlinks p f b) (HasSlot e at slot) = e ≢ f
IsAway (Unlinks p f b) (HasCopy e at version q) = e ≢ f
IsAway (Creates f name columns left) (HasBlank p h) = h.entry ≢ f
IsAway (FreesEntry f title left) (HasBlank p h) = h.entry ≢ f
IsAway (Creates f name columns left) (HasTable e title) = e ≢ f
IsAway (FreesEntry f was left) (HasTable e title) = e ≢ f
IsAway (Drops f) (HasTable e title) = e ≢ f
IsAway (Uncreates f) (HasTable e title) = e ≢ f
IsAway (Undrops f) (HasTable e title) = e ≢ f
IsAway (MakesDead passes f) (HasTable e title) = e ≢ f
IsAway a fact = Unit {0}

-- One's own action is beside a fact: it doesn't end the transaction, and is of another page.
abbrev pub IsBeside : Action → Fact → Type 0
IsBeside Commits IsOpen = ⊥
IsBeside Aborts IsOpen = ⊥
IsBeside (Links q e b) (HasPage p) = p ≢ q
IsBeside (LinksOlder q e) (HasPage p) = p ≢ q
IsBeside (Frees q) (HasPage p) = p ≢ q
IsBeside (Allocates q) (HasNoPageBut ps) = IsAmong q ps
IsBeside (Formats q g) (HasBlank p h) = p ≢ q
IsBeside (Links q e b) (HasBlank p h) = p ≢ q
IsBeside (LinksOlder q e) (HasBlank p h) = p ≢ q
IsBeside (Frees q) (HasBlank p h) = p ≢ q
IsBeside a fact = Unit {0}

-- The row of a key is another one, in this table or in another.
abbrev pub IsOtherRow : ℕ → ℤ → ℕ → ℤ → Type 0
IsOtherRow e key f other = f ≡ e → other ≡ key → ⊥

-- The action is of an entry without a live table: it is created or freed, or its bucket loses a
-- page.
abbrev pub IsOfNoTable : Action → ℕ → Type 0
IsOfNoTable (Creates f name columns left) e = e ≡ f
IsOfNoTable (FreesEntry f title left) e = e ≡ f
IsOfNoTable (Unlinks p f b) e = e ≡ f
IsOfNoTable a e = ⊥

-- The action lets a page of one's own go: it is linked, or free again.
abbrev pub LetsGo : Action → ℕ → Type 0
LetsGo (Links q e b) p = p ≡ q
LetsGo (LinksOlder q e) p = p ≡ q
LetsGo (Frees q) p = p ≡ q
LetsGo a p = ⊥
