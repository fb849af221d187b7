-- The records of a rollback, as the actions that they are.
use Rattle.std.proofs.Common.{◌≡◌, ◌≢◌, ⊎_elim, ℕ, ◌+◌, ◌/◌, ◌==◌, Bool, true, false, cond, [], ◌∷◌, List, Result, Ok, Err, refl, sym, ◌∙◌, ap, arith}
use Rattle.std.specs.Prelude.{filter, OnOk, IfErr, is_ok}
use Rattle.std.proofs.lemmas.Bool.{false≢true}
use Rattle.ctr_bytes.specs.Fields.{spelled}
use Rattle.ctr_disk.specs.declared.disk.Disk.{Ghosts}
use Rattle.ctr_disk.specs.Image.{Image}
use Rattle.ctr_disk.specs.declared.fault.StoreFault.{StoreFault}
use Rattle.ctr_disk.specs.declared.fault.StoreFault.TheVariants.{Fault}
use Rattle.ctr_rec.specs.declared.record.SlogItem.{SlogItem}
use Rattle.ctr_rec.specs.declared.record.SlogItem.TheVariants.{AllocOf, FreeOf, CreateOf, DropOf}
use Rattle.ctr_rec.specs.declared.record.Overlay.{Overlay}
use Rattle.ctr_rec.specs.declared.record.Record.{Record}
use Rattle.ctr_meta.specs.Needs.{needs}
use Rattle.ctr_meta.specs.Kept.{TablesKept, RoomLeft, opens_added, items_added}
use Rattle.ctr_meta.specs.Effects.{effect}
use Rattle.ctr_meta.specs.Tables.{Tables}
use Rattle.ctr_page.specs.declared.table.TheConstants.{DROPPER_AT}
use Rattle.ctr_area.specs.Sound.{how_many}
use Rattle.ctr_versions.proofs.Keys.{known}
use Rattle.ctr_page_turns.specs.redo_States.{State}
use Rattle.ctr_page_turns.specs.record_effects_States.{area_in, IsWholePage}
use Rattle.ctr_page_turns.specs.record_effects_Standing.{IsDatabaseState}
use Rattle.ctr_catalog.specs.record_effects_Changing.{laid_at, laid_in_entry, free_record, uncreate_record, undrop_record}
use Rattle.ctr_record_laws.specs.Bounds.{IsInBounds}
use Rattle.ctr_record_laws.specs.Owed.{OwedByUncreate, OwedByUndrop}
use Rattle.ctr_page_turns.specs.actions_Sites.{Site, IsSoundSite, site_of}
use Rattle.ctr_page_turns.specs.actions_Actions.{Action, Frees, Reclaims, Uncreates, Undrops, Owes, undoing}
use Rattle.ctr_page_turns.specs.actions_Records.{record_of}
use Rattle.ctr_page_turns.proofs.actions_Latest.{last_among}
use Rattle.ctr_page_turns.specs.passed_Logged.{RecordLies, IsLaidAs}
use Rattle.ctr_stops.specs.store_Store.{View, unmet_need}
use Rattle.ctr_page_turns.specs.walk_OneRecord.{WhyNotLogged, LogsOne}
use Rattle.ctr_catalog.specs.Writing.{undo_record, undo_page, HasMade}

-- a table that was made has an entry
pub made_of : (x : ℕ) (s : State) → IsDatabaseState s → (i : SlogItem) → Owes x (undoing i) (site_of s) → HasMade i (area_in s)
made_of x s sound (AllocOf y p) owed = tt
made_of x s sound (FreeOf p) owed = tt
made_of x s sound (CreateOf y e) owed = alive (sound.sound.names.creates x e (last_among x (CreateOf x e) s.tables.items owed).0).0
  where
    alive : ((((area_in s).title e).state == 1) ≡ true) → ((area_in s).title e).state ≢ 0
    alive is none = false≢true (sym (ap (λ n. n == 1) none) ∙ is)
made_of x s sound (DropOf y e) owed = tt

-- The record of an item is laid as what undoes it.
pub undo_laid : (frees : (s : State) (p byte : ℕ) → IsWholePage 0 s → RecordLies (Frees p) (free_record p byte) s)
    → (reclaims : (s : State) (p byte : ℕ) → IsWholePage 0 s → RecordLies (Reclaims p) (free_record p byte) s)
    → (uncreates : (s : State) (x e : ℕ) → IsDatabaseState s → OwedByUncreate s.tables x e → IsWholePage (1 + e / 16) s → IsLaidAs (Uncreates e) (uncreate_record e) s)
    → (undrops : (s : State) (x e : ℕ) → IsDatabaseState s → OwedByUndrop s.tables x e → IsWholePage (1 + e / 16) s → IsLaidAs (Undrops e) (undrop_record e) s)
    → (x : ℕ) (s : State) → IsDatabaseState s → (i : SlogItem) (byte : ℕ) → Owes x (undoing i) (site_of s) → IsWholePage (undo_page i) s → IsLaidAs (undoing i) (undo_record i byte) s
undo_laid frees reclaims uncreates undrops x s sound (AllocOf y p) byte owed whole = (frees s p byte whole, tt)
undo_laid frees reclaims uncreates undrops x s sound (FreeOf p) byte owed whole = (reclaims s p byte whole, tt)
undo_laid frees reclaims uncreates undrops x s sound (CreateOf y e) byte owed whole = uncreates s x e sound owed whole
undo_laid frees reclaims uncreates undrops x s sound (DropOf y e) byte owed whole = undrops s x e sound owed whole

-- It fits the tables.
pub undo_fits : (fits : (x : ℕ) (a : Action) (s : Site) (o : Overlay) → IsInBounds s.area → IsSoundSite s → Owes x a s → needs (record_of x a s o) s.tables ≡ Ok tt)
    → (x : ℕ) (s : Site) → IsInBounds s.area → IsSoundSite s → (i : SlogItem) (byte : ℕ) → Owes x (undoing i) s → needs (undo_record i byte) s.tables ≡ Ok tt
undo_fits fits x s bounds sound (AllocOf y p) byte owed = fits x (Frees p) s (laid_at 0 (p / 8) (byte ∷ [])) bounds sound owed
undo_fits fits x s bounds sound (FreeOf p) byte owed = fits x (Reclaims p) s (laid_at 0 (p / 8) (byte ∷ [])) bounds sound owed
undo_fits fits x s bounds sound (CreateOf y e) byte owed = fits x (Uncreates e) s (laid_in_entry e 0 (2 ∷ [])) bounds sound owed
undo_fits fits x s bounds sound (DropOf y e) byte owed = fits x (Undrops e) s (laid_in_entry e DROPPER_AT (spelled 8 0)) bounds sound owed

-- No record of it draws a number.
pub undo_next : (i : SlogItem) (byte : ℕ) (tables : Tables) → (effect (undo_record i byte) tables).next ≡ tables.next
undo_next (AllocOf y p) byte tables = refl
undo_next (FreeOf p) byte tables = refl
undo_next (CreateOf y e) byte tables = refl
undo_next (DropOf y e) byte tables = refl

-- nor adds one to the items
pub undo_leaves_room : (i : SlogItem) (byte : ℕ) (k l : TablesKept) → RoomLeft (opens_added (undo_record i byte)) (items_added (undo_record i byte)) k l → RoomLeft 0 0 k l
undo_leaves_room (AllocOf y p) byte k l left = left
undo_leaves_room (FreeOf p) byte k l left = left
undo_leaves_room (CreateOf y e) byte k l left = left
undo_leaves_room (DropOf y e) byte k l left = left

-- ---- answers

-- a record that fits is refused where the disk failed
pub refused_by_disk : {D T : Type 0} (r : Record) (a b : View D) (result : Result T StoreFault) → unmet_need r a ≡ Ok tt → IfErr result (WhyNotLogged r a b) → IfErr result (λ e. e ≡ Fault)
refused_by_disk r a b (Ok x) fits why = tt
refused_by_disk r a b (Err e) fits why = ⊎_elim
    (λ unfit. absurd (false≢true (ap is_ok (sym unfit.unmet ∙ fits))))
    (λ failed. failed.0)
    why

-- what is so behind an answer that three things lead to
pub three_ok : {T E : Type 0} (result : Result T E) {P Q R S : Type 0} → (P → Q → R → S) → OnOk result P → OnOk result Q → OnOk result R → OnOk result S
three_ok (Ok x) join p q r = join p q r
three_ok (Err e) join p q r = tt

nothing_before : (n : ℕ) → 0 + n ≡ n
nothing_before n = omega arith

-- who has no item among those that pass has none
pub none_counted : {A : Type 0} (test : A → Bool) (xs : List A) → filter test xs ≡ [] → how_many test xs ≡ 0
none_counted test [] none = refl
none_counted test (x ∷ xs) none = known (test x)
    (λ is. absurd (false≢true (sym (ap (λ b. is_empty (cond b (x ∷ filter test xs) (filter test xs))) is) ∙ ap is_empty none)))
    (λ isnt. ap (λ b. cond b 1 0 + how_many test xs) isnt ∙ nothing_before (how_many test xs) ∙ none_counted test xs (sym (ap (λ b. cond b (x ∷ filter test xs) (filter test xs)) isnt) ∙ none))
  where
    is_empty : {B : Type 0} → List B → Bool
    is_empty [] = true
    is_empty (y ∷ ys) = false

-- ---- one record, whatever its answer is called

-- a call that answers with this fault
abbrev fails_with : (T : Type 0) → StoreFault → Result T StoreFault
fails_with T e = Err e

same_error : {A B : Type 0} {e f : StoreFault} → fails_with A e ≡ fails_with A f → fails_with B e ≡ fails_with B f
same_error {A} {B} is = ap (fails_with B) (cc is)

module _ {D : Type 0} (first : Image) (g : Ghosts D) (r : Record) (a b : View D) where
  pub one_done : {S T : Type 0} (x : S) (y : T) → LogsOne {T = S} first g r a b (Ok x) → LogsOne {T = T} first g r a b (Ok y)
  one_done x y one = record {
    any_moment = one.any_moment;
    logs = one.logs;
    takes = one.takes;
    time = one.time;
    fits = one.fits;
    going = one.going;
    refused = λ told sound. tt;
    faults = record { later = one.faults.later; failed = λ is. absurd cc; fine = λ isnt. one.faults.fine (λ is. absurd cc) };
  }

  pub one_failed : {S T : Type 0} (e : StoreFault) → LogsOne {T = S} first g r a b (Err e) → LogsOne {T = T} first g r a b (Err e)
  one_failed {S} {T} e one = record {
    any_moment = one.any_moment;
    logs = λ told sound. tt;
    takes = tt;
    time = one.time;
    fits = tt;
    going = tt;
    refused = one.refused;
    faults = record { later = one.faults.later; failed = λ is. one.faults.failed (same_error {A = T} {B = S} is); fine = λ isnt. one.faults.fine (λ is. isnt (same_error {A = S} {B = T} is)) };
  }
