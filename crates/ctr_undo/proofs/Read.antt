-- The names of tables as they are read from the catalog.
use Rattle.std.proofs.Common.{◌≡◌, ◌≢◌, ◌⊎◌, inl, inr, ℕ, ◌+◌, ◌*◌, ◌/◌, ◌%◌, ◌<◌, ◌≤◌, true, cond, List, [], ◌∷◌, ◌++◌, length, get_or, drop, suc, Option, None, Some, Result, Ok, Err, append_assoc, refl, sym, ◌∙◌, ap, subst, arith}
use Rattle.std.specs.Prelude.{⊤, IfOk, IfErr}
use Rattle.std.proofs.lemmas.Bool.{lt-ltb, eqb-true, ne_eqb}
use Rattle.std.specs.List.{AllByRecursion}
use Rattle.std.proofs.Math.Seq.{drop-cons, drop-length}
use Rattle.std.proofs.lemmas.List.{append-nil}
use Rattle.ctr_bytes.specs.Fields.{field}
use Rattle.ctr_types.specs.declared.memory.OutOfMemory.{OutOfMemory}
use Rattle.ctr_disk.specs.declared.disk.Disk.{Ghosts}
use Rattle.ctr_disk.specs.Image.{Image}
use Rattle.ctr_disk.specs.declared.fault.StoreFault.{StoreFault}
use Rattle.ctr_disk.specs.declared.fault.StoreFault.TheVariants.{Fault, Damaged}
use Rattle.ctr_rec.specs.declared.decoding.BadRecord.{BadRecord}
use Rattle.ctr_rec.specs.declared.record.SlogItem.{SlogItem}
use Rattle.ctr_rec.specs.declared.record.SlogItem.TheVariants.{AllocOf, FreeOf, CreateOf, DropOf}
use Rattle.ctr_rec.specs.Damage.{at_most}
use Rattle.ctr_rec.specs.Members.{ItemFits}
use Rattle.ctr_page.specs.declared.walk.BadChain.{BadChain}
use Rattle.ctr_page.specs.declared.walk.BadChain.TheVariants.{OnPage, TooLong}
use Rattle.ctr_page.specs.Reading.{piece}
use Rattle.ctr_page.specs.Columns.{entry_in, entry_at}
use Rattle.ctr_page.specs.Damage.{from_1_check, firsts_check, used_entry_check, entry_check}
use Rattle.ctr_page.proofs.Passing.{from_1_holds}
use Rattle.ctr_area.specs.Areas.{Title, Area}
use Rattle.ctr_area.specs.Images.{is_live}
use Rattle.ctr_area.specs.Reading.{title_of, area_of}
use Rattle.ctr_area.specs.Sound.{IsAmong}
use Rattle.ctr_names.specs.Held.{names_of_items}
use Rattle.ctr_redo.specs.States.{State}
use Rattle.ctr_record_effects.specs.States.{area_in}
use Rattle.ctr_record_effects.specs.Standing.{IsDatabaseState}
use Rattle.ctr_store.specs.Store.{View, LeavesPage}
use Rattle.ctr_walk.specs.declared.fault.SearchFault.{SearchFault}
use Rattle.ctr_walk.specs.Damage.{searched, EndsOnPage, EndsTold, ReadsPages}
use Rattle.ctr_walk.proofs.Entries.{both_ok, field_there}
use Rattle.ctr_walk.proofs.Joins.{answers_ok, pages_join}
use Rattle.ctr_walk.proofs.Damages.{reads_err, reads_behind}
use Rattle.ctr_walk.proofs.Searches.{ok_by}
use Rattle.ctr_undo.specs.declared.naming.NamesRefusal.{NamesRefusal}
use Rattle.ctr_undo.specs.declared.naming.NamesRefusal.TheVariants as refusal
use Rattle.ctr_undo.specs.Naming.{name_said, GivesName, NameSaid, name_read, name_listed, answered, named_by}

-- ---- an entry

-- the name of one that passes its check has 1 to 16 bytes
pub entry_named : (counted n : ℕ) (page : List ℕ) → 256 * n + 256 ≤ length page → entry_check counted (256 * n) page ≡ Ok tt → (entry_at n page).state ≢ 0
    → (1 ≤ field 1 17 (entry_at n page).bytes) × (field 1 17 (entry_at n page).bytes ≤ 16)
unfolding entry_check used_entry_check
entry_named counted n page inside e used =
    let start = 256 * n in
    let state : field 1 start page ≡ (entry_at n page).state = ap (λ k. field 1 k page) (let z : start ≡ start + 0 = omega arith in z) ∙ sym (field_there 1 0 start 256 page (omega arith) inside) in
    let checked : used_entry_check counted start page ≡ Ok tt =
    ap (λ b. cond b (Ok tt) (used_entry_check counted start page)) (sym (ne_eqb (field 1 start page) 0 (λ none. used (sym state ∙ none)))) ∙ e in
    let second = both_ok (firsts_check 9 counted (start + 179) page) _ checked in
    let third = both_ok (at_most start 2 (field 1 start page)) _ second.1 in
    let fourth = both_ok (from_1_check 16 (start + 17) page) _ third.1 in
    let name = from_1_holds 16 (start + 17) page (sym fourth.0) in
    let same : field 1 17 (piece start 256 page) ≡ field 1 (start + 17) page = field_there 1 17 start 256 page (omega arith) inside in
    (subst (λ x. 1 ≤ x) (sym same) name.0, subst (λ x. x ≤ 16) (sym same) name.1)

-- the title of an entry is read where it stands
title_here : (pages : ℕ → List ℕ) (e : ℕ) → e < 32 → name_said (title_of (entry_at (e % 16) (pages (1 + e / 16)))) ≡ name_said ((area_of pages).title e)
title_here pages e few = sym (ap (λ b. name_said (title_of (entry_in (cond b (piece (256 * (e % 16)) 256 (pages (1 + e / 16))) [])))) (lt-ltb e 32 few))

-- so its name is given
pub given_there : (counted e : ℕ) (pages : ℕ → List ℕ) (result : Result (Result (Option (List ℕ)) OutOfMemory) SearchFault) → e < 32
    → IfOk (searched result) (EndsOnPage (1 + e / 16) (NameSaid counted (e % 16) (pages (1 + e / 16)))) → IfOk result (GivesName (name_said ((area_of pages).title e)))
given_there counted e pages result few ends =
    ok_by (1 + e / 16) (NameSaid counted (e % 16) (pages (1 + e / 16))) (GivesName (name_said ((area_of pages).title e))) result
    (λ given said. subst (λ name. GivesName name given) (title_here pages e few) said.1) ends

-- ---- what is answered

pub gives_answered : (name : Option (List ℕ)) (told : Result (Result (Option (List ℕ)) OutOfMemory) StoreFault) → IfOk told (GivesName name) → IfOk (answered told) (λ found. found ≡ name)
gives_answered name (Ok (Ok x)) gives = gives
gives_answered name (Ok (Err e)) gives = tt
gives_answered name (Err e) gives = tt

-- the disk failed, or there was no memory
abbrev pub IsUndamaged : NamesRefusal → Type 0
IsUndamaged e = (e ≡ refusal.OutOfMemory) ⊎ (e ≡ refusal.Store Fault)

abbrev passing : Result ⊤ BadRecord
passing = Ok tt

fails : (bad : BadRecord) → passing ≡ Err bad → ⊥
fails bad is = absurd cc

-- an entry that passes its check is read without damage
pub undamaged_answered : (damage : BadChain → StoreFault) (counted n p : ℕ) (page : List ℕ) (told : Result (Result (Option (List ℕ)) OutOfMemory) StoreFault) → entry_check counted (256 * n) page ≡ Ok tt
    → EndsTold damage (EndsOnPage p (NameSaid counted n page)) told → IfErr (answered told) IsUndamaged
undamaged_answered damage counted n p page (Ok (Ok x)) passes ends = tt
undamaged_answered damage counted n p page (Ok (Err e)) passes ends = inl refl
undamaged_answered damage counted n p page (Err Fault) passes ends = inr refl
undamaged_answered damage counted n p page (Err (Damaged d)) passes (OnPage q bad, ends, is) = absurd (fails bad (sym passes ∙ ends.1))
undamaged_answered damage counted n p page (Err (Damaged d)) passes (TooLong last most, ends, is) = absurd ends

module _ {D : Type 0} (first : Image) (g : Ghosts D) where
  -- what a reading leaves doesn't depend on its answer
  pub leaves_answered : {T : Type 0} (told : Result (Result T OutOfMemory) StoreFault) (a b : View D) → ReadsPages first g a b told → ReadsPages first g a b (named_by (answered told))
  leaves_answered (Ok (Ok x)) a b read = answers_ok first g (Ok x) tt a b read
  leaves_answered (Ok (Err e)) a b read = answers_ok first g (Err e) tt a b read
  leaves_answered (Err e) a b read = reads_err first g _ ⊤ e a b read

  -- nor behind pages that were read
  pub refused_behind : (S T : Type 0) (e : NamesRefusal) (a b c : View D) → LeavesPage {T = ⊤} first g a b (Ok tt) → ReadsPages first g b c (named_by {T = S} (Err e)) → ReadsPages first g a c (named_by {T = T} (Err e))
  refused_behind S T (refusal.Store e) a b c one two = reads_behind first g ⊤ tt a b c e one two
  refused_behind S T refusal.OutOfMemory a b c one two = pages_join g a b c first ⊤ ⊤ tt (Ok tt) one two

-- ---- all names

-- those of the tables of items, in their order
abbrev pub all_read : Area → List SlogItem → List (List ℕ)
all_read area [] = []
all_read area (i ∷ is) = name_listed (name_read area i) ++ all_read area is

-- a live table's name is read
live_said : (t : Title) → is_live t ≡ true → name_said t ≡ Some t.name
live_said t live = ap (λ b. cond b None (Some t.name)) (ne_eqb t.state 0 (apart t.state (eqb-true t.state 1 live)))
  where
    apart : (n : ℕ) → n ≡ 1 → n ≢ 0
    apart n is none = omega (arith, is, none)

-- where items are of live tables, these are their names
live_read : (area : Area) (items : List SlogItem) → ((x e : ℕ) → IsAmong (CreateOf x e) items → is_live (area.title e) ≡ true) → ((x e : ℕ) → IsAmong (DropOf x e) items → is_live (area.title e) ≡ true)
    → all_read area items ≡ names_of_items area.title items
live_read area [] made dropped = refl
live_read area (AllocOf x p ∷ is) made dropped = live_read area is (λ y e in_. made y e (inr in_)) (λ y e in_. dropped y e (inr in_))
live_read area (FreeOf p ∷ is) made dropped = live_read area is (λ y e in_. made y e (inr in_)) (λ y e in_. dropped y e (inr in_))
live_read area (CreateOf x e ∷ is) made dropped =
    ap (λ name. name_listed name ++ all_read area is) (live_said (area.title e) (made x e (inl refl)))
    ∙ ap (λ names. (area.title e).name ∷ names) (live_read area is (λ y f in_. made y f (inr in_)) (λ y f in_. dropped y f (inr in_)))
live_read area (DropOf x e ∷ is) made dropped =
    ap (λ name. name_listed name ++ all_read area is) (live_said (area.title e) (dropped x e (inl refl)))
    ∙ ap (λ names. (area.title e).name ∷ names) (live_read area is (λ y f in_. made y f (inr in_)) (λ y f in_. dropped y f (inr in_)))

-- one item more
pub read_on : (s t : State) (items : List SlogItem) (k : ℕ) (d : SlogItem) (old new : List (List ℕ)) → t ≡ s → k < length items → new ≡ old ++ name_listed (name_read (area_in t) (get_or items k d))
    → old ++ all_read (area_in s) (drop k items) ≡ all_read (area_in s) items → new ++ all_read (area_in s) (drop (k + 1) items) ≡ all_read (area_in s) items
read_on s t items k d old new same less added told =
    let rest = all_read (area_in s) (drop (k + 1) items) in
    let here : drop k items ≡ get_or items k d ∷ drop (k + 1) items = drop-cons items k d less ∙ ap (λ n. get_or items k d ∷ drop n items) (let z : suc k ≡ k + 1 = omega arith in z) in
    ap (λ names. names ++ rest) (added ∙ ap (λ (u : State). old ++ name_listed (name_read (area_in u) (get_or items k d))) same)
    ∙ append_assoc old (name_listed (name_read (area_in s) (get_or items k d))) rest
    ∙ sym (ap (λ l. old ++ all_read (area_in s) l) here) ∙ told

pub fit_on : (items : List SlogItem) (k : ℕ) → k < length items → AllByRecursion ItemFits (drop k items) → AllByRecursion ItemFits (drop (k + 1) items)
fit_on items k less fit =
    let d : SlogItem = FreeOf 0 in
    let here : drop k items ≡ get_or items k d ∷ drop (k + 1) items = drop-cons items k d less ∙ ap (λ n. get_or items k d ∷ drop n items) (let z : suc k ≡ k + 1 = omega arith in z) in
    let both = subst (AllByRecursion ItemFits) here fit in
    both.1

-- all of them
pub read_all : (s : State) (items : List SlogItem) (k : ℕ) (names : List (List ℕ)) → k ≡ length items → names ++ all_read (area_in s) (drop k items) ≡ all_read (area_in s) items → IsDatabaseState s → s.tables.items ≡ items
    → names ≡ names_of_items (area_in s).title items
read_all s items k names over told db same =
    sym (ap (λ n. names ++ all_read (area_in s) (drop n items)) over ∙ ap (λ l. names ++ all_read (area_in s) l) (drop-length items) ∙ append-nil names) ∙ told
    ∙ live_read (area_in s) items
    (λ x e in_. (db.sound.names.creates x e (subst (IsAmong (CreateOf x e)) (sym same) in_)).0)
    (λ x e in_. (db.sound.names.drops x e (subst (IsAmong (DropOf x e)) (sym same) in_)).0)
