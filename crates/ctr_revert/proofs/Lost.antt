-- The bytes of a slot without its head, by what its own bytes say.
use Rattle.std.proofs.Common.{◌≡◌, ◌≢◌, ℕ, cond, Bool, true, false, pos, List, take, Option, None, Some, Result, Ok, Err, refl, sym, ◌∙◌, ap, subst, arith}
use Rattle.std.specs.Prelude.{◌==◌, ⊤}
use Rattle.std.proofs.lemmas.Bool.{ne_eqb, eq-eqb}
use Rattle.std.proofs.lemmas.List.{length-replicate}
use Rattle.ctr_bytes.specs.Following.{◌>>=◌}
use Rattle.ctr_rec.specs.declared.decoding.BadRecord.{BadRecord}
use Rattle.ctr_types.specs.declared.value.Kind.{Kind}
use Rattle.ctr_page.specs.declared.walk.BadChain.{BadChain}
use Rattle.ctr_page.specs.declared.walk.BadChain.TheVariants.{OnPage}
use Rattle.ctr_page.specs.declared.rows.Version.{Version}
use Rattle.ctr_page.specs.declared.rows.RowSlot.{RowSlot}
use Rattle.ctr_page.specs.declared.rows.VersionEntry.{VersionEntry}
use Rattle.ctr_page.specs.Places.{slot_size}
use Rattle.ctr_page.specs.Reading.{older_at}
use Rattle.ctr_page.specs.Columns.{kinds_width}
use Rattle.ctr_page.specs.Making.{slot_bytes, IsSlot, IsEntry, IsPrevious}
use Rattle.ctr_pvs.specs.area_Reading.{area_of}
use Rattle.ctr_pvs.specs.area_Checked.{kinds_at}
use Rattle.ctr_pvs.specs.walk_TableOf.{TableOf}
use Rattle.ctr_pvs.specs.Table.{told_of}
use Rattle.ctr_pvs.specs.walk_Tables.{kinds_said}
use Rattle.ctr_pvs.specs.Reading.{versions_there, kept_on_check, kept_at_check}
use Rattle.ctr_revert.specs.declared.slots.FromSlot.{FromSlot}
use Rattle.ctr_revert.specs.Reverting.{if_used, entry_at_place, blank_slot, slot_by_entry, slot_without_head, MadePrevious, MadeFrom, behind_check, MadeByEntry, EntrySaidFrom, IsMadeOr, LosesHead, EndsBehind}

-- what isn't there
pub none_of : {A : Type 0} (o : Option A) → ((x : A) → o ≡ Some x → ⊥) → o ≡ None
none_of None not = refl
none_of (Some x) not = absurd (not x refl)

-- a slot that isn't used, by its payload
abbrev pub blank_by : List ℕ → RowSlot
blank_by payload = record { used = 0; key = pos 0; head = record { xid = 0; tombstone = 0; payload = payload }; previous = None; older = record { page = 0; slot = 0 } }

-- a free slot can be made
pub blank_fits : (w : ℕ) → IsSlot w (blank_slot w)
blank_fits w = record { used = omega arith; key = omega arith; head = (omega arith, omega arith, length-replicate w 0); previous = tt; older = (omega arith, omega arith) }

-- and a slot by a version entry that can
pub by_entry_fits : (w : ℕ) (e : VersionEntry) (b : Bool) (s : RowSlot) → IsEntry w e → IsSlot w s → IsSlot w (slot_by_entry w s (cond b (Some e) None))
by_entry_fits w e true s entry slot = record { used = slot.used; key = slot.key; head = entry.version; previous = tt; older = entry.older }
by_entry_fits w e false s entry slot = blank_fits w

module _ (w : ℕ) (pages : ℕ → List ℕ) (f : FromSlot) where
  -- the slot has a previous version
  pub by_previous : (bytes : List ℕ) → f.made ≡ Some bytes → LosesHead w pages f (take (slot_size w) bytes)
  by_previous bytes is = record {
    bytes_are = λ s from. there s s.previous (subst (MadePrevious w s s.previous) is from.made);
    fits = λ s from slot. fit s slot s.previous slot.previous (subst (MadePrevious w s s.previous) is from.made);
  }
    where
      there : (s : RowSlot) (v : Option Version) → MadePrevious w s v (Some bytes) → take (slot_size w) bytes ≡ slot_bytes w (slot_without_head w s (entry_at_place w pages s.older) v)
      there s None made = absurd made
      there s (Some v) made = made

      fit : (s : RowSlot) → IsSlot w s → (v : Option Version) → IsPrevious w v → MadePrevious w s v (Some bytes) → IsSlot w (slot_without_head w s (entry_at_place w pages s.older) v)
      fit s slot None is made = absurd made
      fit s slot (Some v) is made = record { used = slot.used; key = slot.key; head = is.2; previous = tt; older = slot.older }

  -- it has none: it is by the version entry behind it, if there is one
  pub without_previous : (bytes : List ℕ) (next : Option VersionEntry) → f.made ≡ None → entry_at_place w pages f.older ≡ next
      → ((s : RowSlot) → s.used ≡ f.used → s.key ≡ f.key → bytes ≡ slot_bytes w (slot_by_entry w s next)) → ((s : RowSlot) → IsSlot w s → IsSlot w (slot_by_entry w s next)) → LosesHead w pages f bytes
  without_previous bytes next is entry made made_fits = record {
    bytes_are = λ s from. there s from s.previous (subst (MadePrevious w s s.previous) is from.made);
    fits = λ s from slot. fit s from slot s.previous (subst (MadePrevious w s s.previous) is from.made);
  }
    where
      here : (s : RowSlot) → MadeFrom w s f → next ≡ entry_at_place w pages s.older
      here s from = sym entry ∙ ap (entry_at_place w pages) from.older

      there : (s : RowSlot) → MadeFrom w s f → (v : Option Version) → MadePrevious w s v None → bytes ≡ slot_bytes w (slot_without_head w s (entry_at_place w pages s.older) v)
      there s from None none = made s (sym from.used) (sym from.key) ∙ ap (λ o. slot_bytes w (slot_by_entry w s o)) (here s from)
      there s from (Some v) none = absurd none

      fit : (s : RowSlot) → MadeFrom w s f → IsSlot w s → (v : Option Version) → MadePrevious w s v None → IsSlot w (slot_without_head w s (entry_at_place w pages s.older) v)
      fit s from slot None none = subst (λ o. IsSlot w (slot_by_entry w s o)) (here s from) (made_fits s slot)
      fit s from slot (Some v) none = absurd none

  -- nothing is kept behind it
  pub by_nothing : (bytes : List ℕ) → f.made ≡ None → f.older.page ≡ 0 → bytes ≡ slot_bytes w (blank_slot w) → LosesHead w pages f bytes
  by_nothing bytes is none blank =
      without_previous bytes None is (ap (λ b. cond b None (if_used (older_at w f.older.slot (pages f.older.page)))) (eq-eqb f.older.page 0 none)) (λ s u k. blank) (λ s slot. blank_fits w)

  -- a version entry was read behind it
  pub by_reading : (made : Option (List ℕ)) (bytes : List ℕ) → f.made ≡ None → f.older.page ≢ 0 → IsEntry w (older_at w f.older.slot (pages f.older.page))
      → MadeByEntry w f.used f.key (if_used (older_at w f.older.slot (pages f.older.page))) made → IsMadeOr w made bytes → LosesHead w pages f (take (slot_size w) bytes)
  by_reading made bytes is some fits by or =
      let entry = older_at w f.older.slot (pages f.older.page) in
      without_previous (take (slot_size w) bytes) (if_used entry) is (ap (λ b. cond b None (if_used entry)) (ne_eqb f.older.page 0 some)) (bytes_are (if_used entry) made by or)
      (λ s slot. by_entry_fits w entry (entry.used == 1) s fits slot)
    where
      bytes_are : (next : Option VersionEntry) (m : Option (List ℕ)) → MadeByEntry w f.used f.key next m → IsMadeOr w m bytes → (s : RowSlot) → s.used ≡ f.used → s.key ≡ f.key
          → take (slot_size w) bytes ≡ slot_bytes w (slot_by_entry w s next)
      bytes_are next None none blank s used key = blank ∙ ap (λ o. slot_bytes w (slot_by_entry w s o)) (sym none)
      bytes_are next (Some m) there same s used key = ap (take (slot_size w)) same ∙ there s used key

-- Where the slot has no previous version, and a pointer.
module _ (counted : ℕ) (pages : ℕ → List ℕ) (t : TableOf) (f : FromSlot) (is : f.made ≡ None) (some : f.older.page ≢ 0) where
  abbrev check : List Kind → ⊤ → Result ⊤ BadRecord
  check ks x = kept_on_check counted t.entry ks f.older.slot (pages f.older.page)

  -- the end is what the check of the version entry behind it says
  ends_behind : (r : Result ⊤ BadChain) → (kinds_said t ≡ kinds_at (area_of pages) t.entry → told_of f.older.page (kept_at_check counted pages t.entry f.older) ≡ r) → EndsBehind counted pages t f r
  ends_behind r says = λ kinds s from.
      ends s from kinds s.previous (subst (MadePrevious (kinds_width (kinds_said t)) s s.previous) is from.made)
    where
      ends : (s : RowSlot) → MadeFrom (kinds_width (kinds_said t)) s f → kinds_said t ≡ kinds_at (area_of pages) t.entry → (v : Option Version) → MadePrevious (kinds_width (kinds_said t)) s v None
          → r ≡ behind_check counted pages t.entry v s.older
      ends s from kinds None none =
          sym (ap (behind_check counted pages t.entry None) (sym from.older)
          ∙ ap (λ b. cond b (Ok tt) (told_of f.older.page (kept_at_check counted pages t.entry f.older))) (ne_eqb f.older.page 0 some) ∙ says kinds)
      ends s from kinds (Some v) none = absurd none

  -- it is read without damage
  pub ends_kept : (made : Option (List ℕ)) → EntrySaidFrom counted t f (pages f.older.page) (Ok made) → EndsBehind counted pages t f (Ok tt)
  ends_kept made said = ends_behind (Ok tt) (λ kinds.
      ap (λ (r : Result ⊤ BadRecord). told_of f.older.page (r >>= check (kinds_at (area_of pages) t.entry))) said.0
      ∙ ap (λ ks. told_of f.older.page (check ks tt)) (sym kinds) ∙ ap (told_of f.older.page) said.1)

  -- or its damage is told
  pub ends_damaged : (bad : BadRecord) → EntrySaidFrom counted t f (pages f.older.page) (Err bad) → EndsBehind counted pages t f (Err (OnPage f.older.page bad))
  ends_damaged bad said = ends_behind (Err (OnPage f.older.page bad)) (λ kinds.
      ap (λ ks. told_of f.older.page (versions_there counted t.entry f.older.page (pages f.older.page) >>= check ks)) (sym kinds) ∙ ap (told_of f.older.page) said)
