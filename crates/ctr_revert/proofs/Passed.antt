-- What the checks of a slot and of the version entry behind it say, where they pass.
use Rattle.std.proofs.Common.{◌≡◌, ℕ, ◌+◌, ◌<◌, ◌≤◌, List, Option, Result, Ok, Err, ◌∙◌, ap, subst, arith}
use Rattle.std.specs.Prelude.{⊤}
use Rattle.ctr_types.specs.declared.value.Kind.{Kind}
use Rattle.ctr_bytes.specs.Fields.{field}
use Rattle.ctr_bytes.specs.Following.{◌>>=◌}
use Rattle.ctr_rec.specs.declared.decoding.BadRecord.{BadRecord}
use Rattle.ctr_rec.proofs.Reading.{bind_ok}
use Rattle.ctr_page.specs.declared.rows.RowSlot.{RowSlot}
use Rattle.ctr_page.specs.declared.rows.VersionEntry.{VersionEntry}
use Rattle.ctr_page.specs.Making.{IsSlot, IsEntry}
use Rattle.ctr_page.specs.declared.checks.Chain.TheVariants.{Rows, Versions}
use Rattle.ctr_page.specs.declared.rows.Place.{Place}
use Rattle.ctr_page.specs.Places.{slot_size, start_of}
use Rattle.ctr_page.specs.Columns.{kinds_width, slot_start}
use Rattle.ctr_page.specs.Damage.{header_check, slot_check}
use Rattle.ctr_pvs.specs.walk_TableOf.{TableOf}
use Rattle.ctr_pvs.specs.walk_Tables.{kinds_said}
use Rattle.ctr_pvs.specs.Reading.{lies_check, versions_there, kept_on_check, VersionSaid, row_on_check, RowSaid}
use Rattle.ctr_pvs.proofs.Told.{lies_inside, slot_small, within, by_there}
use Rattle.ctr_revert.specs.declared.slots.FromSlot.{FromSlot}
use Rattle.ctr_revert.specs.Reverting.{if_used, MadeFrom, SlotSaidFrom, MadeByEntry, EntrySaidFrom}

pub lies_of_row : (counted e : ℕ) (kinds : List Kind) (number : ℕ) (page : List ℕ) → row_on_check counted e kinds number page ≡ Ok tt → lies_check (slot_size (kinds_width kinds)) number ≡ Ok tt
lies_of_row counted e kinds number page is =
    let last : ⊤ → Result ⊤ BadRecord = λ _. slot_check kinds counted (slot_start kinds number) page in
    let rest : ⊤ → Result ⊤ BadRecord = λ _. lies_check (slot_size (kinds_width kinds)) number >>= last in
    let header = bind_ok (header_check (Rows e (field 1 2 page)) counted page) rest tt is in
    (bind_ok (lies_check (slot_size (kinds_width kinds)) number) last tt header.2).1

-- a slot that lies on its page
pub row_inside : (w number : ℕ) → w ≤ 1792 → lies_check (slot_size w) number ≡ Ok tt → start_of (slot_size w) number + slot_size w ≤ 4096
row_inside w number narrow lies = let small = slot_small w narrow in lies_inside (slot_size w) number (some w) (omega (arith, small)) lies
  where
    some : (w : ℕ) → 0 < slot_size w
    some w = omega arith

-- what a slot says, as it was read
pub slot_said_by : (counted : ℕ) (t : TableOf) (at : Place) (page : List ℕ) (slot : RowSlot) (w : ℕ) (f : FromSlot) → RowSaid counted t at.slot page (Ok slot) → IsSlot (kinds_width (kinds_said t)) slot
    → w ≡ kinds_width (kinds_said t) → MadeFrom w slot f → SlotSaidFrom counted t at page (Ok f)
slot_said_by counted t at page slot w f said fits wide made =
    let n = kinds_width (kinds_said t) in
    (said.0, subst (IsSlot n) said.1 fits, subst (λ (s : RowSlot). MadeFrom n s f) said.1 (subst (λ m. MadeFrom m slot f) wide made))

-- what the version entry behind it says
pub entry_said_by : (counted : ℕ) (t : TableOf) (f : FromSlot) (page : List ℕ) (e : VersionEntry) (w : ℕ) (made : Option (List ℕ)) → versions_there counted t.entry f.older.page page ≡ Ok tt
    → VersionSaid counted t f.older.slot page (Ok e) → IsEntry (kinds_width (kinds_said t)) e → w ≡ kinds_width (kinds_said t) → MadeByEntry w f.used f.key (if_used e) made → EntrySaidFrom counted t f page (Ok made)
entry_said_by counted t f page e w made there said fits wide by =
    let n = kinds_width (kinds_said t) in
    (there, said.0, subst (IsEntry n) said.1 fits, subst (λ (x : VersionEntry). MadeByEntry n f.used f.key (if_used x) made) said.1 (subst (λ m. MadeByEntry m f.used f.key (if_used e) made) wide by))

pub entry_bad_by : (counted : ℕ) (t : TableOf) (f : FromSlot) (page : List ℕ) (bad : BadRecord) → versions_there counted t.entry f.older.page page ≡ Ok tt → VersionSaid counted t f.older.slot page (Err bad) → EntrySaidFrom counted t f page (Err bad)
entry_bad_by counted t f page bad there said =
    let rest : ⊤ → Result ⊤ BadRecord = λ _. kept_on_check counted t.entry (kinds_said t) f.older.slot page in
    ap (λ (r : Result ⊤ BadRecord). r >>= rest) there ∙ said

-- of a page that isn't counted nothing is read
pub entry_on : (counted : ℕ) (t : TableOf) (f : FromSlot) (page other : List ℕ) (r : Result (Option (List ℕ)) BadRecord) → 0 < counted → counted ≤ 30000 → (f.older.page < 30000 → page ≡ other)
    → EntrySaidFrom counted t f page r → EntrySaidFrom counted t f other r
entry_on counted t f page other r some few same said = by r said
  where
    header : List ℕ → Result ⊤ BadRecord
    header l = header_check (Versions t.entry) counted l

    rest : List ℕ → ⊤ → Result ⊤ BadRecord
    rest l x = kept_on_check counted t.entry (kinds_said t) f.older.slot l

    by : (q : Result (Option (List ℕ)) BadRecord) → EntrySaidFrom counted t f page q → EntrySaidFrom counted t f other q
    by (Ok made) said = subst (λ l. EntrySaidFrom counted t f l (Ok made)) (same (within (header page) counted f.older.page some few said.0)) said
    by (Err bad) said =
        by_there (λ c. c ≡ Err bad) (header page) (header other) (rest page) (rest other) counted f.older.page some few
        (λ low. ap (λ l. versions_there counted t.entry f.older.page l >>= rest l) (same low)) said
