-- An answer goes on behind causes that don't apply.
use Rattle.std.proofs.Common.{◌≡◌, ℕ, ◌<◌, List, ◌++◌, Option, Some, None, Result, Ok, Err, refl, sym, ◌∙◌, subst}
use Rattle.std.specs.Prelude.{IfOk, IfSome, ⊤}
use Rattle.ctr_types.specs.declared.statement.Statement.{Statement}
use Rattle.ctr_types.specs.declared.tape.Refusal.{Refusal}
use Rattle.ctr_snap.specs.Seeing.{SnapshotTaken}
use Rattle.ctr_disk.specs.declared.fault.StoreFault.{StoreFault}
use Rattle.ctr_model.specs.Refusals.{first_of}
use Rattle.ctr_rec.specs.declared.decoding.BadRecord.{BadRecord}
use Rattle.ctr_names.specs.Search.{IsEntryFound, IsNoneFound}
use Rattle.ctr_wishes.specs.actions_Sites.{Site}
use Rattle.ctr_wishes.specs.ctr_reading.catalog_Finding.{entry_seen, EndsEntries}
use Rattle.ctr_txn.specs.Held.{TxnHeld}
use Rattle.ctr_asking.specs.declared.asker.Answer.{Answer}
use Rattle.ctr_asking.specs.declared.asker.Answer.TheVariants.{Refused, Free}
use Rattle.ctr_asking.specs.Causes.{presence_refused}
use Rattle.ctr_asking.specs.Asking.{refusal_told, AnswersEntry, IsInCatalog, FindsFor, FindsTable, me_held, sees_for}
use Rattle.ctr_asking.proofs.Firsts.{passed_first}
use Rattle.ctr_asking.proofs.Presence.{none_creates, some_uncreated}

-- behind causes that don't apply
pub by_first : (result : Result Answer StoreFault) (xs ys : List (Option Refusal)) → None ≡ first_of xs → IfOk result (λ a. refusal_told a ≡ first_of ys) → IfOk result (λ a. refusal_told a ≡ first_of (xs ++ ys))
by_first (Ok a) xs ys none is = is ∙ passed_first xs ys none
by_first (Err e) xs ys none is = tt

-- an entry that is told is one that was found
pub inside_of : (found : Option ℕ) → IfSome found (λ e. e < 32) → (result : Result Answer StoreFault) → IfOk result (AnswersEntry found) → IfOk result IsInCatalog
inside_of found few (Err e) of_ = tt
inside_of found few (Ok (Refused why)) of_ = tt
inside_of found few (Ok (Free told)) of_ = by_told told (subst (λ o. IfSome o (λ e. e < 32)) (sym of_) few)
  where
    by_told : (o : Option ℕ) → IfSome o (λ e. e < 32) → IsInCatalog (Free o)
    by_told None few = tt
    by_told (Some e) few = few

module _ (site : Site) (txn : TxnHeld) (statement : Statement) (name : List ℕ) where
  table_of_found : (found : Option ℕ) → None ≡ first_of (presence_refused statement found) → ((e : ℕ) → found ≡ Some e → IsEntryFound (sees_for site txn) name site.area e) → (found ≡ None → IsNoneFound (sees_for site txn) name site.area)
      → FindsTable site txn statement name (Free found)
  table_of_found None clear one none = (none_creates statement (sym clear), none refl)
  table_of_found (Some e) clear one none = (some_uncreated statement e (sym clear), one e refl)

  -- and it is that of the table
  pub finds_table : (found : Option ℕ) → None ≡ first_of (presence_refused statement found) → ((e : ℕ) → found ≡ Some e → IsEntryFound (sees_for site txn) name site.area e) → (found ≡ None → IsNoneFound (sees_for site txn) name site.area)
      → (result : Result Answer StoreFault) → IfOk result (AnswersEntry found) → IfOk result (FindsTable site txn statement name)
  finds_table found clear one none (Err e) of_ = tt
  finds_table found clear one none (Ok (Refused why)) of_ = tt
  finds_table found clear one none (Ok (Free told)) of_ = subst (λ o. FindsTable site txn statement name (Free o)) (sym of_) (table_of_found found clear one none)

-- The search is the session's own, by its snapshot and its number.
pub found_for : (txn : TxnHeld) (site : Site) (name : List ℕ) (snapshot : SnapshotTaken) (me : Option ℕ) (found : Option ℕ) → snapshot ≡ txn.session.snapshot → me ≡ me_held txn
    → (check : ℕ → Result ⊤ BadRecord) × EndsEntries check (entry_seen site.tables snapshot me name site.area) (Ok found) → FindsFor site txn name found
found_for txn site name snapshot me found same number finds = (
  finds.0,
  subst (λ (m : Option ℕ). EndsEntries finds.0 (entry_seen site.tables txn.session.snapshot m name site.area) (Ok found)) number
      (subst (λ (t : SnapshotTaken). EndsEntries finds.0 (entry_seen site.tables t me name site.area) (Ok found)) same finds.1),
)
