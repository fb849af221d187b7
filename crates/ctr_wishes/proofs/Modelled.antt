-- What a statement comes to is what the model says of its Write.
use Rattle.std.proofs.Common.{◌≡◌, ℕ, ◌<◌, ◌^◌, ℤ, List, [], ◌∷◌, drop, Option, None, Some, refl, sym, ◌∙◌, ap, subst, arith, option_and_then}
use Rattle.std.specs.Prelude.{is_some, is_none, FitsSigned}
use Rattle.std.specs.Int.{w64}
use Rattle.std.specs.Option.{option_map}
use Rattle.ctr_types.specs.declared.value.Column.{Column}
use Rattle.ctr_types.specs.declared.value.Row.{Row}
use Rattle.ctr_types.specs.declared.value.Value.{Value}
use Rattle.ctr_types.specs.declared.statement.Set.{Set}
use Rattle.ctr_types.specs.declared.statement.Statement.{Statement}
use Rattle.ctr_types.specs.declared.statement.Statement.TheVariants as st
use Rattle.ctr_types.specs.declared.tape.Refusal.{Refusal}
use Rattle.ctr_types.specs.declared.tape.Refusal.TheVariants as refusal
use Rattle.ctr_model.specs.declared.database.Change.TheVariants as change
use Rattle.ctr_model.specs.Database.{Database, table_at}
use Rattle.ctr_model.specs.Refusals.{table_of, key_of, key_written, bad_from, bad_value, row_of, columns_of, assigned, updated, update_refusal, write_refusal, when}
use Rattle.ctr_model.specs.Reply.{put_of, changes_of}
use Rattle.ctr_versions.specs.Keys.{row_written}
use Rattle.ctr_versions.proofs.Keys.{some_is}
use Rattle.ctr_legal.proofs.Telling.{updated_row}
use Rattle.ctr_legal.proofs.Ready.{absurd_some}
use Rattle.ctr_sessions.specs.Answers.{write_refused, row_left}
use Rattle.ctr_value.specs.Payload.{IsKeyed, payload_of}
use Rattle.ctr_value.proofs.PayloadLaws.{row_written as row_encoded}
use Rattle.ctr_value.proofs.ValueLaws.{row_said as row_decoded}
use Rattle.ctr_area.specs.Reading.{version_said}
use Rattle.ctr_reading.specs.heap_Ways.{IsHeadOf}
use Rattle.ctr_reading.proofs.heap_Made.{row_made, zeros_made}
use Rattle.ctr_wishes.specs.HeadMade.{HeadMade}
use Rattle.ctr_wishes.specs.Heads.{version_by, head_of, unsuited, HasPayload, IsRefusedOr, IsWished}
use Rattle.ctr_wishes.specs.Models.{LaysChange, IsModels}
use Rattle.ctr_wishes.specs.declared.making.Prepared.{Prepared}
use Rattle.ctr_wishes.specs.declared.making.Prepared.TheVariants.{Refused, Lays}
use Rattle.ctr_wishes.proofs.Good.{IsGood, IfGood}
use Rattle.ctr_wishes.proofs.Updating.{assigned_suits, sets_good}

-- ---- heads

-- a number of 64 bits has 8 bytes
small : (x : ℕ) → x < 2 ^ 64 → x < 256 ^ 8
small x lt = omega (arith, lt)

-- the head of what is left is a version of it, of whatever key
head_is : (cs : List Column) (key : ℤ) (x : ℕ) (left : Option Row) → IsKeyed cs → FitsSigned w64 key → IfGood cs key left → HasPayload cs left → x < 2 ^ 64 → IsHeadOf cs key (version_by x (head_of cs left))
head_is cs key x None keyed wide good has lt = zeros_made cs key (version_by x (head_of cs None)) keyed wide refl (small x lt) (omega arith)
head_is cs key x (Some row) keyed wide good has lt =
    subst (λ k. IsHeadOf cs k (version_by x (head_of cs (Some row)))) (good row refl).1
    (row_made cs row.values (version_by x (head_of cs (Some row))) has refl (small x lt) (omega arith))

abbrev some_row : List Value → Option Row
some_row vs = Some (record { values = vs })

-- and says that
head_says : (cs : List Column) (key : ℤ) (x : ℕ) (left : Option Row) → IfGood cs key left → HasPayload cs left → (version_said cs key (version_by x (head_of cs left))).1 ≡ left
head_says cs key x None good has = refl
head_says cs key x (Some row) good has =
    subst (λ k. (version_said cs k (version_by x (head_of cs (Some row)))).1 ≡ Some row) (good row refl).1
    (ap some_row (sym (row_decoded cs (key_of row.values) (payload_of (drop 1 cs) (drop 1 row.values)) row.values (row_encoded cs row.values has))))

-- a row whose values suit is refused for none of them
suited : (cs : List Column) (key : ℤ) (left : Option Row) → IfGood cs key left → unsuited cs left ≡ None
suited cs key None good = refl
suited cs key (Some row) good = ap (option_map refusal.BadValue) (good row refl).0

-- ---- what is left suits, where what was there does

updated_good : (cs : List Column) (key : ℤ) (sets : List Set) (old : Row) → IsGood cs key old → (new : Option (List Value)) → assigned cs old.values sets old.values ≡ new
    → ((vs : List Value) → new ≡ Some vs → (bad_from 1 cs vs ≡ None) × (key_of vs ≡ key_of old.values)) → IfGood cs key (updated cs sets old)
updated_good cs key sets old good None is goes row left = absurd_some row (sym (ap (option_map (λ (vs : List Value). record { values = vs })) is) ∙ left)
updated_good cs key sets old good (Some vs) is goes row left =
    let same : record { values = vs } ≡ row = some_is (record { values = vs }) row (sym (ap (option_map (λ (vs : List Value). record { values = vs })) is) ∙ left) in
    let its = goes vs refl in
    subst (IsGood cs key) same (its.0, its.1 ∙ good.1)

left_good : (cs : List Column) (statement : Statement) (key : ℤ) (row : Option Row) → key_written statement ≡ Some key → bad_value cs statement ≡ None → IfGood cs key row → IfGood cs key (row_left cs statement row)
left_good cs st.Begin key row keyed fine good new is = absurd_some new is
left_good cs st.Commit key row keyed fine good new is = absurd_some new is
left_good cs st.Rollback key row keyed fine good new is = absurd_some new is
left_good cs (st.Create table schema) key row keyed fine good new is = absurd_some new is
left_good cs (st.DropTable table) key row keyed fine good new is = absurd_some new is
left_good cs (st.Select table at) key row keyed fine good new is = absurd_some new is
left_good cs (st.Delete table at) key row keyed fine good new is = absurd_some new is
left_good cs (st.Insert table values) key row keyed fine good new is =
    subst (IsGood cs key) (some_is (record { values = values }) new is) (fine, some_is (key_of values) key keyed)
left_good cs (st.Update table sets at) key None keyed fine good new is = absurd_some new is
left_good cs (st.Update table sets at) key (Some old) keyed fine good new is =
    let its = good old refl in
    updated_good cs key sets old its (assigned cs old.values sets old.values) refl
    (λ vs made. let done = assigned_suits cs old.values [] sets old.values vs (sets_good cs table sets at fine) its.0 made in (done.suit, done.key)) new is

-- ---- the model's Write, by the columns and the row that is there

refused_same : (db : Database) (statement : Statement) (name : List ℕ) (key : ℤ) → table_of statement ≡ Some name → key_written statement ≡ Some key
    → write_refusal db statement ≡ write_refused (columns_of (table_at db name)) statement (row_of (table_at db name) key)
refused_same db st.Begin name key named keyed = refl
refused_same db st.Commit name key named keyed = refl
refused_same db st.Rollback name key named keyed = refl
refused_same db (st.Create table schema) name key named keyed = refl
refused_same db (st.DropTable table) name key named keyed = refl
refused_same db (st.Select table at) name key named keyed = refl
refused_same db (st.Insert table values) name key named keyed = λ i. when (is_some (row_of (table_at db (some_is table name named i)) (some_is (key_of values) key keyed i))) refusal.Duplicate
refused_same db (st.Update table sets at) name key named keyed = λ i. update_refusal (columns_of (table_at db (some_is table name named i))) sets (row_of (table_at db (some_is table name named i)) (some_is at.key key keyed i))
refused_same db (st.Delete table at) name key named keyed = λ i. when (is_none (row_of (table_at db (some_is table name named i)) (some_is at.key key keyed i))) refusal.NotFound

change_same : (db : Database) (statement : Statement) (name : List ℕ) (key : ℤ) → table_of statement ≡ Some name → key_written statement ≡ Some key
    → write_refused (columns_of (table_at db name)) statement (row_of (table_at db name) key) ≡ None
    → changes_of db statement ≡ row_written name key (row_left (columns_of (table_at db name)) statement (row_of (table_at db name) key)) ∷ []
change_same db st.Begin name key named keyed none = absurd_some name named
change_same db st.Commit name key named keyed none = absurd_some name named
change_same db st.Rollback name key named keyed none = absurd_some name named
change_same db (st.Create table schema) name key named keyed none = absurd_some key keyed
change_same db (st.DropTable table) name key named keyed none = absurd_some key keyed
change_same db (st.Select table at) name key named keyed none = absurd_some key keyed
change_same db (st.Insert table values) name key named keyed none = λ i. change.Put (some_is table name named i) (some_is (key_of values) key keyed i) (record { values = values }) ∷ []
change_same db (st.Delete table at) name key named keyed none = λ i. change.Remove (some_is table name named i) (some_is at.key key keyed i) ∷ []
change_same db (st.Update table sets at) name key named keyed none =
    let is_table = some_is table name named in
    let is_key = some_is at.key key keyed in
    let t = table_at db name in
    let new = updated_row (columns_of t) sets (row_of t key) none in
    (λ i. put_of (is_table i) (is_key i) (option_and_then (updated (columns_of (table_at db (is_table i))) sets) (row_of (table_at db (is_table i)) (is_key i))))
    ∙ ap (put_of name key) new.1 ∙ sym (ap (λ o. row_written name key o ∷ []) new.1)

-- ---- both

module _ (db : Database) (name : List ℕ) (cs : List Column) (statement : Statement) (key : ℤ) (row : Option Row) (keyed : IsKeyed cs) (wide : FitsSigned w64 key)
    (named : table_of statement ≡ Some name) (written : key_written statement ≡ Some key) (columns : columns_of (table_at db name) ≡ cs) (there : row_of (table_at db name) key ≡ row) where
  abbrev left : Option Row
  left = row_left cs statement row

  refused_is : write_refusal db statement ≡ write_refused cs statement row
  refused_is = refused_same db statement name key named written ∙ (λ i. write_refused (columns i) statement (there i))

  changes_is : write_refused cs statement row ≡ None → changes_of db statement ≡ row_written name key left ∷ []
  changes_is none =
      change_same db statement name key named written (sym (refused_same db statement name key named written) ∙ refused_is ∙ none)
      ∙ (λ i. row_written name key (row_left (columns i) statement (there i)) ∷ [])

  lays : (h : HeadMade) → IfGood cs key left → write_refused cs statement row ≡ None → HasPayload cs left → h ≡ head_of cs left → LaysChange db cs statement h
  lays h good free has is = subst (LaysChange db cs statement) (sym is) (record {
    unrefused = refused_is ∙ free;
    is_head = λ k x at lt. subst (λ z. IsHeadOf cs z (version_by x (head_of cs left))) (some_is key k (sym written ∙ at)) (head_is cs key x left keyed wide good has lt);
    changes = λ n k x of at.
        let same_name = some_is name n (sym named ∙ of) in
        let same_key = some_is key k (sym written ∙ at) in
        changes_is free ∙ ap (λ o. row_written name key o ∷ []) (sym (head_says cs key x left good has))
        ∙ (λ i. row_written (same_name i) (same_key i) (version_said cs (same_key i) (version_by x (head_of cs left))).1 ∷ []);
  })

  by_refusal : (why : Option Refusal) (p : Prepared) → write_refused cs statement row ≡ why → IfGood cs key left → IsRefusedOr why cs left p → IsModels db cs statement p
  by_refusal (Some why) p is good wished = subst (IsModels db cs statement) (sym wished) (refused_is ∙ is)
  by_refusal None (Refused why) is good wished = absurd_some why (sym (suited cs key left good) ∙ wished)
  by_refusal None (Lays h) is good (fine, has, same) = lays h good is has same

  pub modelled : (p : Prepared) → bad_value cs statement ≡ None → IfGood cs key row → IsWished cs statement row p → IsModels db cs statement p
  modelled p fine good wished = by_refusal (write_refused cs statement row) p refl (left_good cs statement key row written fine good) wished
