-- The turn of a Write behind which it is at no stage, as it lays the head or a page is wanted in vain; and what its session counts on
-- then.
use Rattle.std.proofs.Common.{◌≡◌, ⊎_elim, inl, inr, ℕ, ℤ, List, [], ◌++◌, Option, Some, None, refl, sym, subst}
use Rattle.std.specs.List.{AllByRecursion}
use Rattle.ctr_model.specs.declared.state.Transaction.{Transaction}
use Rattle.ctr_page.specs.declared.checks.Chain.{Chain}
use Rattle.ctr_page.specs.declared.checks.Chain.TheVariants.{Rows, Versions}
use Rattle.ctr_page.specs.Places.{bucket_of}
use Rattle.ctr_page.specs.declared.header.Header.{Header}
use Rattle.ctr_page.specs.declared.rows.Place.{Place}
use Rattle.ctr_area.specs.Areas.{Title}
use Rattle.ctr_area.specs.Sound.{IsAmong}
use Rattle.ctr_area.proofs.Buckets.{each_of}
use Rattle.ctr_redo.specs.States.{State}
use Rattle.ctr_rollback.specs.record_laws_Owed.{Writing, FirstVersion}
use Rattle.ctr_views.specs.actions_Sites.{Site}
use Rattle.ctr_rollback.specs.actions_Facts.{Fact, IsOpen, HasTable, HasBlank, HasNoPageBut, HoldsFact}
use Rattle.ctr_rollback.specs.kept_Carried.{IsUnderLock, IsOfEntry}
use Rattle.ctr_rollback.specs.kept_Turns.{Carries}
use Rattle.ctr_write.specs.ctr_extend.declared.ways.OnWay.{OnWay}
use Rattle.ctr_write.specs.ctr_extend.declared.ways.OnWay.TheVariants.{Wanted, Taken, Made}
use Rattle.ctr_write.specs.ctr_extend.declared.ways.Extended.{Extended}
use Rattle.ctr_write.specs.ctr_extend.declared.ways.Extended.TheVariants.{On as OnItsWay, Linked, Grown as IsGrown, Full as IsFull}
use Rattle.ctr_write.specs.declared.stages.Stage.{Stage}
use Rattle.ctr_write.specs.declared.stages.Stage.TheVariants.{Looking, Extending, Kept}
use Rattle.ctr_write.specs.declared.stages.Written.{Written}
use Rattle.ctr_write.specs.declared.stages.Written.TheVariants.{On, Done, Grown, Full}
use Rattle.ctr_rollback.proofs.kept_Tables.{among_last}
use Rattle.ctr_write.specs.ctr_extend.Keeping.{facts_on_way}
use Rattle.ctr_write.specs.ctr_extend.Steps.{ExtendsBy}
use Rattle.ctr_write.specs.Carrying.{facts_looking, facts_kept, AreOfStage}
use Rattle.ctr_write.specs.Extending.{ExtendsFor, written_from}
use Rattle.ctr_write.specs.Laying.{Wish, LaysHead}
use Rattle.ctr_write.specs.Steps.{EndsPlacing, EndsKeeping, EndsOver, EndsLooking, EndsWrite}
use Rattle.ctr_write.specs.Keeping.{Off, off}

-- a turn for a page doesn't end a Write
never_done : (x : ℕ) (chain : Chain) (way : OnWay) (s t : State) → ExtendsFor x chain way s t Done → ⊥
never_done x chain way s t ends = by ends.0 ends.1
  where
    by : (e : Extended) → Done ≡ written_from chain e → ⊥
    by (OnItsWay way) is = absurd cc
    by Linked is = absurd cc
    by IsGrown is = absurd cc
    by IsFull is = absurd cc

-- a turn behind which a Write is at no stage
abbrev pub IsAtNone : Written → Type 0
IsAtNone (On stage) = ⊥
IsAtNone Done = Unit {0}
IsAtNone Grown = Unit {0}
IsAtNone Full = Unit {0}

-- of turns for a page it is that in which one is wanted
at_first : (x : ℕ) (chain : Chain) (way : OnWay) (s t : State) (w : Written) → IsAtNone w → ExtendsFor x chain way s t w → way ≡ Wanted
at_first x chain way s t w none ends = by way ends.0 (subst IsAtNone ends.1 none) ends.2
  where
    by : (way : OnWay) (e : Extended) → IsAtNone (written_from chain e) → ExtendsBy x chain way s t e → way ≡ Wanted
    by Wanted e none is = refl
    by (Taken p) (OnItsWay on) none is = absurd none
    by (Taken p) Linked none is = absurd none
    by (Taken p) IsGrown none is = absurd is
    by (Taken p) IsFull none is = absurd is
    by (Made p next) (OnItsWay on) none is = absurd none
    by (Made p next) Linked none is = absurd none
    by (Made p next) IsGrown none is = absurd is
    by (Made p next) IsFull none is = absurd is

-- where the head is laid, and in which way
abbrev pub IsLaid : Wish → State → State → Type 0
IsLaid wish s t = (at : Place) × (way : Writing) × LaysHead wish at way s t

module _ (wish : Wish) (s t : State) where
  placed : EndsPlacing wish s t Done → IsLaid wish s t
  placed ends = ⊎_elim (λ lays. (lays.at, FirstVersion, lays.lays)) (λ wants. absurd (never_done wish.x (Rows wish.entry (bucket_of wish.key)) Wanted s t wants.extends)) ends

  not_kept : (o : Off) → EndsKeeping o s t Done → ⊥
  not_kept o ends = ⊎_elim (λ keeps. absurd (cc keeps.is)) (λ wants. never_done o.x (Versions o.e) Wanted s t wants.extends) ends

  over : (at : Place) (kept : Option Place) → EndsOver wish at kept s t Done → IsLaid wish s t
  over at kept ends = ⊎_elim (λ lays. (at, lays.way, lays.lays)) (λ keeps. absurd (not_kept (off wish.x wish.entry at keeps.version) keeps.ends)) ends

  looked : (kept : Option Place) → EndsLooking wish kept s t Done → IsLaid wish s t
  looked kept ends = ⊎_elim (λ none. placed none.1) (λ one. over one.at kept one.ends) ends

  pub laid : (stage : Stage) → EndsWrite wish stage s t Done → IsLaid wish s t
  laid Looking ends = looked None ends
  laid (Extending chain way) ends = absurd (never_done wish.x chain way s t ends)
  laid (Kept q) ends = looked (Some q) ends

  -- the tables more are counted on at each stage
  pub more_among : (title : Title) (e : ℕ) (key : ℤ) (stage : Stage) (more facts : List Fact) → AreOfStage title e key stage more facts → (f : Fact) → IsAmong f more → IsAmong f facts
  more_among title e key Looking more facts are f in_ = subst (λ (l : List Fact). IsAmong f l) (sym are) (among_last f (facts_looking title e) more in_)
  more_among title e key (Extending chain way) more facts are f in_ = subst (λ (l : List Fact). IsAmong f l) (sym are.1) (among_last f (facts_on_way title chain way) more in_)
  more_among title e key (Kept q) more facts are f in_ = subst (λ (l : List Fact). IsAmong f l) (sym are.1) (among_last f (facts_kept title e are.0 q) more in_)

  -- behind which a Write is at no stage, before that turn the session had no page to link
  pub without_page : (w : Written) → IsAtNone w → (title : Title) (e : ℕ) (key : ℤ) (stage : Stage) (more facts : List Fact) → AreOfStage title e key stage more facts → EndsWrite wish stage s t w → IsAmong (HasNoPageBut []) facts
  without_page w none title e key Looking more facts are ends = subst (λ (l : List Fact). IsAmong (HasNoPageBut []) l) (sym are) (inr (inr (inl refl)))
  without_page w none title e key (Extending chain way) more facts are ends =
      let wanted : IsAmong (HasNoPageBut []) (facts_on_way title chain way ++ more) =
      subst (λ (y : OnWay). IsAmong (HasNoPageBut []) (facts_on_way title chain y ++ more)) (sym (at_first wish.x chain way s t w none ends)) (inr (inr (inl refl))) in
      subst (λ (l : List Fact). IsAmong (HasNoPageBut []) l) (sym are.1) wanted
  without_page w none title e key (Kept q) more facts are ends = subst (λ (l : List Fact). IsAmong (HasNoPageBut []) l) (sym are.1) (inr (inr (inl refl)))

module _ (x : ℕ) (t : Transaction) (title : Title) (e : ℕ) (z : Site) where
  abbrev mine : List Fact
  mine = facts_looking title e

  -- behind a Write the session counts on its transaction and on the table
  pub carried_done : HoldsFact x IsOpen z → HoldsFact x (HasTable e title) z → IsUnderLock t (HasTable e title) z → HoldsFact x (HasNoPageBut []) z → Carries x t mine z
  carried_done active has under none =
      let all : AllByRecursion (λ (f : Fact). HoldsFact x f z × IsUnderLock t f z) mine = ((active, tt), ((has, under), ((none, tt), tt))) in
      let titled : AllByRecursion (λ (f : Fact). (n : ℕ) → IsOfEntry f n → ⊥) mine = ((λ f is. is), ((λ f is. is), ((λ f is. is), tt))) in
      record {
        held = λ fact there. each_of (λ (f : Fact). HoldsFact x f z × IsUnderLock t f z) fact mine all there;
        tables = λ fact f there is. absurd (each_of (λ (f : Fact). (n : ℕ) → IsOfEntry f n → ⊥) fact mine titled there f is);
      }

  pub none_blank : (p : ℕ) (h : Header) → IsAmong (HasBlank p h) mine → ⊥
  none_blank p h (inl is) = absurd cc
  none_blank p h (inr (inl is)) = absurd cc
  none_blank p h (inr (inr (inl is))) = absurd cc
  none_blank p h (inr (inr (inr none))) = absurd none
