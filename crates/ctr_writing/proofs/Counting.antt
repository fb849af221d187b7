-- What a session counts on at each stage of a Write, and what it counts on instead of it.
use Rattle.std.proofs.Common.{◌≡◌, ◌⊎◌, ⊎_elim, inl, inr, ℕ, ℤ, List, ◌∷◌, ◌++◌, refl, sym, subst}
use Rattle.ctr_page.specs.declared.checks.Chain.{Chain}
use Rattle.ctr_area.specs.Areas.{Title}
use Rattle.ctr_area.specs.Sound.{IsAmong}
use Rattle.ctr_area.proofs.Buckets.{each_of}
use Rattle.ctr_looks.specs.actions_Facts.{Fact, IsOpen, HasPage, HasNoPageBut, HasBlank, HasSlot, HasCopy, HasTable}
use Rattle.ctr_looks.specs.kept_Carried.{IsOfEntry}
use Rattle.ctr_looks.specs.kept_Tables.{IsTable, AreTables}
use Rattle.ctr_looks.proofs.kept_Tables.{among_last, by_parts}
use Rattle.ctr_looks.specs.ctr_extend.declared.ways.OnWay.{OnWay}
use Rattle.ctr_looks.specs.ctr_extend.declared.ways.OnWay.TheVariants.{Wanted, Taken, Made}
use Rattle.ctr_looks.specs.ctr_extend.Keeping.{facts_on_way}
use Rattle.ctr_looks.specs.ctr_write.declared.stages.Stage.{Stage}
use Rattle.ctr_looks.specs.ctr_write.declared.stages.Stage.TheVariants.{Looking, Extending, Kept}
use Rattle.ctr_looks.specs.ctr_write.Carrying.{AreOfStage, facts_looking, facts_kept}
use Rattle.ctr_looks.specs.ctr_write.Stages.{IsChainFor}
use Rattle.ctr_looks.proofs.ctr_write.Carried.{opens_table}
use Rattle.ctr_looks.specs.ctr_told.Turning.{facts_idle}
use Rattle.ctr_looks.proofs.ctr_told.Going.{chain_of_table}
use Rattle.ctr_looks.proofs.ctr_told.Idle.{idle_open, idle_none, idle_more}
use Rattle.ctr_looks.specs.ctr_wishes.declared.making.Prepared.{Prepared}
use Rattle.ctr_looks.specs.ctr_wishes.declared.making.Prepared.TheVariants.{Refused, Lays}
use Rattle.ctr_looks.specs.ctr_session_world.Told.{CountsOnTables}
use Rattle.ctr_looks.proofs.ctr_session_world.Alike.{table_of_more}
use Rattle.ctr_writing.specs.Rows.{AreAtStage, CountsAt}

-- of a table's fact its title is carried
abbrev pub HasTitles : List Fact → Type 0
HasTitles mine = (f : Fact) (n : ℕ) → IsAmong f mine → IsOfEntry f n → (l : Title) × IsAmong (HasTable n l) mine

-- each table that is counted on is counted on still
abbrev pub KeepsTables : List Fact → List Fact → Type 0
KeepsTables was now = (d : ℕ) (l : Title) → IsAmong (HasTable d l) was → IsAmong (HasTable d l) now

-- a title is of no entry by itself
not_of_entry : (f : Fact) → IsTable f → (n : ℕ) → IsOfEntry f n → ⊥
not_of_entry (HasTable e title) is n of = of
not_of_entry IsOpen is n of = of
not_of_entry (HasPage p) is n of = of
not_of_entry (HasNoPageBut ps) is n of = of
not_of_entry (HasBlank p h) is n of = absurd is
not_of_entry (HasSlot e at slot) is n of = absurd is
not_of_entry (HasCopy e at v q) is n of = absurd is

-- ---- between two statements, and where the row is looked for

module _ (title : Title) (e : ℕ) (more : List Fact) where
  abbrev pub looking : List Fact
  looking = facts_looking title e ++ more

  -- the same, as it is counted on between two statements
  abbrev pub idle : List Fact
  idle = facts_idle ++ HasTable e title ∷ more

  pub looking_titles : AreTables more → HasTitles looking
  looking_titles tables f n in_ of = absurd (by_parts f (facts_looking title e) more in_
      (λ first. each_of (λ (f : Fact). (n : ℕ) → IsOfEntry f n → ⊥) f (facts_looking title e) ((λ n is. is), ((λ n is. is), ((λ n is. is), tt))) first n of)
      (λ last. not_of_entry f (each_of IsTable f more tables last) n of))

  pub idle_titles : AreTables more → HasTitles idle
  idle_titles tables f n in_ of = absurd (by_parts f facts_idle (HasTable e title ∷ more) in_
      (λ first. each_of (λ (f : Fact). (n : ℕ) → IsOfEntry f n → ⊥) f facts_idle ((λ n is. is), ((λ n is. is), tt)) first n of)
      (λ last. not_of_entry f (each_of IsTable f (HasTable e title ∷ more) (tt, tables) last) n of))

  pub idle_among : (f : Fact) → IsAmong f idle → IsAmong f looking
  idle_among f (inl is) = inl is
  idle_among f (inr (inl is)) = inr (inr (inl is))
  idle_among f (inr (inr (inl is))) = inr (inl is)
  idle_among f (inr (inr (inr there))) = inr (inr (inr there))

  pub idle_kept : KeepsTables looking idle
  idle_kept d l (inl is) = absurd cc
  idle_kept d l (inr (inl is)) = inr (inr (inl is))
  idle_kept d l (inr (inr (inl is))) = absurd cc
  idle_kept d l (inr (inr (inr there))) = inr (inr (inr there))

  pub looking_among : (facts : List Fact) → facts ≡ facts_idle ++ more → IsAmong (HasTable e title) facts → (f : Fact) → IsAmong f looking → IsAmong f facts
  looking_among facts are there f (inl is) = subst (λ f. IsAmong f facts) (sym is) (idle_open more facts are)
  looking_among facts are there f (inr (inl is)) = subst (λ f. IsAmong f facts) (sym is) there
  looking_among facts are there f (inr (inr (inl is))) = subst (λ f. IsAmong f facts) (sym is) (idle_none more facts are)
  looking_among facts are there f (inr (inr (inr last))) = idle_more more facts are f last

-- ---- tables at each stage

-- which tables are counted on at a stage: that of the row, and those more
abbrev IsItsOrMore : Title → ℕ → List Fact → ℕ → Title → Type 0
IsItsOrMore title e more d l = (HasTable d l ≡ HasTable e title) ⊎ IsAmong (HasTable d l) more

module _ (title : Title) (e : ℕ) (key : ℤ) (more : List Fact) where
  on_way : (chain : Chain) (way : OnWay) → IsChainFor e key chain → (d : ℕ) (l : Title) → IsAmong (HasTable d l) (facts_on_way title chain way ++ more) → IsItsOrMore title e more d l
  on_way chain way for d l (inl is) = absurd cc
  on_way chain way for d l (inr (inl is)) = inl (subst (λ n. HasTable d l ≡ HasTable n title) (chain_of_table e key chain for) is)
  on_way chain Wanted for d l (inr (inr (inl is))) = absurd cc
  on_way chain Wanted for d l (inr (inr (inr there))) = inr there
  on_way chain (Taken p) for d l (inr (inr (inl is))) = absurd cc
  on_way chain (Taken p) for d l (inr (inr (inr (inl is)))) = absurd cc
  on_way chain (Taken p) for d l (inr (inr (inr (inr there)))) = inr there
  on_way chain (Made p next) for d l (inr (inr (inl is))) = absurd cc
  on_way chain (Made p next) for d l (inr (inr (inr (inl is)))) = absurd cc
  on_way chain (Made p next) for d l (inr (inr (inr (inr there)))) = inr there

  tables_at : (stage : Stage) (facts : List Fact) → AreOfStage title e key stage more facts → (d : ℕ) (l : Title) → IsAmong (HasTable d l) facts → IsItsOrMore title e more d l
  tables_at Looking facts are d l in_ = by (subst (λ (fs : List Fact). IsAmong (HasTable d l) fs) are in_)
    where
      by : IsAmong (HasTable d l) (facts_looking title e ++ more) → IsItsOrMore title e more d l
      by (inl is) = absurd cc
      by (inr (inl is)) = inl is
      by (inr (inr (inl is))) = absurd cc
      by (inr (inr (inr there))) = inr there
  tables_at (Extending chain way) facts are d l in_ = on_way chain way are.0 d l (subst (λ (fs : List Fact). IsAmong (HasTable d l) fs) are.1 in_)
  tables_at (Kept q) facts are d l in_ = by (subst (λ (fs : List Fact). IsAmong (HasTable d l) fs) are.1 in_)
    where
      by : IsAmong (HasTable d l) (facts_kept title e are.0 q ++ more) → IsItsOrMore title e more d l
      by (inl is) = absurd cc
      by (inr (inl is)) = inl is
      by (inr (inr (inl is))) = absurd cc
      by (inr (inr (inr (inl is)))) = absurd cc
      by (inr (inr (inr (inr (inl is))))) = absurd cc
      by (inr (inr (inr (inr (inr there))))) = inr there

  more_at : (stage : Stage) (facts : List Fact) → AreOfStage title e key stage more facts → (f : Fact) → IsAmong f more → IsAmong f facts
  more_at Looking facts are f in_ = subst (λ (l : List Fact). IsAmong f l) (sym are) (among_last f (facts_looking title e) more in_)
  more_at (Extending chain way) facts are f in_ = subst (λ (l : List Fact). IsAmong f l) (sym are.1) (among_last f (facts_on_way title chain way) more in_)
  more_at (Kept q) facts are f in_ = subst (λ (l : List Fact). IsAmong f l) (sym are.1) (among_last f (facts_kept title e are.0 q) more in_)

  -- they are the same at any two stages
  pub stages_keep : (p q : Stage) (was now : List Fact) → AreOfStage title e key p more was → AreOfStage title e key q more now → KeepsTables was now
  stages_keep p q was now are be d l in_ = ⊎_elim
      (λ its. subst (λ f. IsAmong f now) (sym its) (opens_table title e key q more now be).1)
      (λ there. more_at q now be (HasTable d l) there)
      (tables_at p was are d l in_)

-- ---- where a turn begins

-- The facts of a stage are among those that are counted on, or are these.
pub record StartsAt (title : Title) (e : ℕ) (key : ℤ) (stage : Stage) (facts : List Fact) : Type 0 where
  pub more : List Fact
  pub tables : AreTables more
  pub mine : List Fact
  pub of_stage : AreOfStage title e key stage more mine
  pub among : (f : Fact) → IsAmong f mine → IsAmong f facts
  pub titles : HasTitles mine
  pub keeps : KeepsTables facts mine

module _ (title : Title) (e : ℕ) (key : ℤ) (facts : List Fact) (there : IsAmong (HasTable e title) facts) (titles : HasTitles facts) where
  at_first : CountsOnTables facts → StartsAt title e key Looking facts
  at_first counts =
      let more = counts.0 in
      record {
        more = more;
        tables = counts.1;
        mine = looking title e more;
        of_stage = refl;
        among = looking_among title e more facts counts.2 there;
        titles = looking_titles title e more counts.1;
        keeps = λ d l in_. among_last (HasTable d l) (facts_looking title e) more (table_of_more d l more facts counts.2 in_);
      }

  so_far : (stage : Stage) → AreAtStage title e key stage facts → StartsAt title e key stage facts
  so_far stage at = record {
    more = at.0;
    tables = at.1;
    mine = facts;
    of_stage = at.2;
    among = λ f in_. in_;
    titles = titles;
    keeps = λ d l in_. in_;
  }

  pub starts : (p : Prepared) (stage : Stage) → CountsAt title e key p stage facts → StartsAt title e key stage facts
  starts p Looking counts = at_first counts
  starts (Refused why) (Extending chain way) counts = absurd counts
  starts (Lays h) (Extending chain Wanted) counts = absurd counts
  starts (Lays h) (Extending chain (Taken p)) counts = so_far (Extending chain (Taken p)) counts
  starts (Lays h) (Extending chain (Made p next)) counts = so_far (Extending chain (Made p next)) counts
  starts (Refused why) (Kept q) counts = absurd counts
  starts (Lays h) (Kept q) counts = so_far (Kept q) counts
