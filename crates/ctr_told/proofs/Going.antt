-- A turn of a Write that goes on: a page is on its way, or a version is kept first.
use Rattle.std.proofs.Common.{◌≡◌, ⊎_elim, inl, inr, ℕ, ℤ, List, ◌++◌, Option, None, Some, refl, sym, ◌∙◌, ap, subst}
use Rattle.std.specs.Prelude.{is_some}
use Rattle.std.proofs.lemmas.Bool.{false≢true}
use Rattle.ctr_disk.specs.declared.disk.Disk.{Ghosts}
use Rattle.ctr_page.specs.declared.checks.Chain.{Chain}
use Rattle.ctr_page.specs.declared.checks.Chain.TheVariants.{Rows, Versions}
use Rattle.ctr_page.specs.declared.rows.Place.{Place}
use Rattle.ctr_page.specs.Columns.{kinds_of, kinds_width}
use Rattle.ctr_page.specs.Damage.{chain_entry}
use Rattle.ctr_page.specs.Places.{bucket_of}
use Rattle.ctr_area.specs.Areas.{Title}
use Rattle.ctr_rollback.specs.record_effects_States.{area_in}
use Rattle.ctr_rollback.specs.record_laws_Owed.{IsSlotOfKey}
use Rattle.ctr_rollback.specs.actions_Facts.{Fact}
use Rattle.ctr_rollback.specs.store_Store.{View}
use Rattle.ctr_rollback.specs.kept_Walk.{Mind}
use Rattle.ctr_rollback.specs.kept_Turns.{Start, carrying}
use Rattle.ctr_rollback.specs.stops_World.{KeepsWorld}
use Rattle.ctr_write.specs.ctr_extend.declared.ways.OnWay.{OnWay}
use Rattle.ctr_write.specs.ctr_extend.declared.ways.OnWay.TheVariants.{Wanted}
use Rattle.ctr_write.specs.ctr_extend.declared.ways.Extended.{Extended}
use Rattle.ctr_write.specs.ctr_extend.declared.ways.Extended.TheVariants.{On as OnItsWay, Linked, Grown as IsGrown, Full as IsFull}
use Rattle.ctr_write.specs.ctr_extend.Keeping.{WantsPage, facts_on_way, way_behind, HasLogged}
use Rattle.ctr_write.specs.ctr_extend.Steps.{ExtendsBy}
use Rattle.ctr_write.specs.declared.stages.Stage.{Stage}
use Rattle.ctr_write.specs.declared.stages.Stage.TheVariants.{Looking, Extending, Kept}
use Rattle.ctr_write.specs.declared.stages.Written.{Written}
use Rattle.ctr_write.specs.declared.stages.Written.TheVariants.{On, Done, Grown, Full}
use Rattle.ctr_write.specs.Stages.{IsChainFor, IsToKeep}
use Rattle.ctr_write.specs.Carrying.{IsAtWrite, KeptOf, AreOfStage, facts_looking, facts_kept, wish_of}
use Rattle.ctr_write.specs.Extending.{ExtendsFor, written_from}
use Rattle.ctr_write.specs.Keeping.{off, KeepsOff}
use Rattle.ctr_write.specs.Steps.{EndsLooking, EndsWrite, KeepsOne}

-- how far a Write is that goes on
abbrev stage_in : Stage → Written → Stage
stage_in other (On stage) = stage
stage_in other Done = other
stage_in other Grown = other
stage_in other Full = other

same_stage : (p q : Stage) → On p ≡ On q → p ≡ q
same_stage p q is = ap (stage_in p) is

module _ {D : Type 0} (g : Ghosts D) (c : Start) (opened : D) (a b : View D) (w : Mind) (writes : IsAtWrite g c opened a w) where
  abbrev me : ℕ
  me = writes.seat.session.me

  -- so far it is, and the World is kept in which the session counts on that
  abbrev Goes : Stage → Type 0
  Goes stage = (facts : List Fact) × AreOfStage writes.title writes.entry writes.key stage writes.more facts × KeepsWorld g c opened b (carrying writes.s facts w)

  -- what is kept over a turn for a page, and over one that keeps a version
  abbrev pub PagesKept : Type 0
  PagesKept = (wants : WantsPage g c opened a w) (e : Extended) → HasLogged e → ExtendsBy wants.seat.session.me wants.chain wants.way a.now b.now e
      → KeepsWorld g c opened b (carrying wants.s (facts_on_way wants.title wants.chain (way_behind e) ++ wants.more) w)

  abbrev pub VersionsKept : Type 0
  VersionsKept = (of : KeptOf writes.title writes.key) (q : Place) → writes.stage ≡ Looking → of.slot ≡ (area_in a.now).slot of.at → KeepsOff (off me writes.entry of.at of.version) q a.now b.now
      → KeepsWorld g c opened b (carrying writes.s (facts_kept writes.title writes.entry of q ++ writes.more) w)

  module _ (pages : PagesKept) where
    by_page : (chain : Chain) (way : OnWay) → IsChainFor writes.entry writes.key chain → chain_entry chain ≡ writes.entry → w.facts writes.s ≡ facts_on_way writes.title chain way ++ writes.more
        → (stage : Stage) → ExtendsFor me chain way a.now b.now (On stage) → Goes stage
    by_page chain way for of_table are stage ends = by ends.0 ends.1 ends.2
      where
        wants : WantsPage g c opened a w
        wants = record { s = writes.s; seat = writes.seat; title = writes.title; chain = chain; way = way; keeps = writes.keeps; some = writes.some; more = writes.more; tables = writes.tables; carries = are }

        by : (e : Extended) → On stage ≡ written_from chain e → ExtendsBy me chain way a.now b.now e → Goes stage
        by (OnItsWay on) is extends = (
          facts_on_way writes.title chain on ++ writes.more,
          subst (λ (p : Stage). AreOfStage writes.title writes.entry writes.key p writes.more (facts_on_way writes.title chain on ++ writes.more)) (sym (same_stage stage (Extending chain on) is)) (for, refl),
          pages wants (OnItsWay on) tt extends,
        )
        by Linked is extends = (
          facts_on_way writes.title chain Wanted ++ writes.more,
          subst (λ (p : Stage). AreOfStage writes.title writes.entry writes.key p writes.more (facts_on_way writes.title chain Wanted ++ writes.more)) (sym (same_stage stage Looking is))
              (ap (λ (n : ℕ). facts_looking writes.title n ++ writes.more) of_table),
          pages wants Linked tt extends,
        )
        by IsGrown is extends = absurd (cc is)
        by IsFull is extends = absurd (cc is)

    -- a page that is wanted
    wanted : (chain : Chain) → IsChainFor writes.entry writes.key chain → chain_entry chain ≡ writes.entry → w.facts writes.s ≡ facts_looking writes.title writes.entry ++ writes.more
        → (stage : Stage) → ExtendsFor me chain Wanted a.now b.now (On stage) → Goes stage
    wanted chain for of_table are stage ends = by_page chain Wanted for of_table (are ∙ ap (λ (n : ℕ). facts_looking writes.title n ++ writes.more) (sym of_table)) stage ends

    module _ (versions : VersionsKept) (has : (area_in a.now).title writes.entry ≡ writes.title) where
      -- a version is kept first
      keeps_one : (at : Place) → ((area_in a.now).slot at).key ≡ writes.key → writes.stage ≡ Looking → w.facts writes.s ≡ facts_looking writes.title writes.entry ++ writes.more
          → (kept : Option Place) (stage : Stage) → KeepsOne (wish_of writes) at kept a.now b.now (On stage) → Goes stage
      keeps_one at of_key looking are kept stage one = ⊎_elim
          (λ first. (
            facts_kept writes.title writes.entry of first.q ++ writes.more,
            subst (λ (p : Stage). AreOfStage writes.title writes.entry writes.key p writes.more (facts_kept writes.title writes.entry of first.q ++ writes.more)) (sym (same_stage stage (Kept first.q) first.is)) (of, refl),
            versions of first.q looking refl first.keeps,
          ))
          (λ wants. wanted (Versions writes.entry) (inr refl) refl are stage wants.extends)
          one.ends
        where
          of : KeptOf writes.title writes.key
          of = record {
            at = at;
            slot = (area_in a.now).slot at;
            version = one.version;
            of_key = of_key;
            is = subst (λ (t : Title). IsToKeep (kinds_width (kinds_of t.columns)) ((area_in a.now).slot at) one.version) has one.is;
          }

      looked : writes.stage ≡ Looking → w.facts writes.s ≡ facts_looking writes.title writes.entry ++ writes.more → (kept : Option Place) (stage : Stage) → EndsLooking (wish_of writes) kept a.now b.now (On stage) → Goes stage
      looked looking are kept stage ends = ⊎_elim
          (λ none. ⊎_elim (λ lays. absurd (cc lays.done)) (λ wants. wanted (Rows writes.entry (bucket_of writes.key)) (inl refl) refl are stage wants.extends) none.1)
          (λ one. ⊎_elim (λ lays. absurd (cc lays.done)) (λ keeps. keeps_one one.at one.of_key.1 looking are kept stage keeps) one.ends)
          ends

      -- once a version was kept the head is laid
      never_kept : (q : Place) (of : KeptOf writes.title writes.key) → IsSlotOfKey (area_in a.now) writes.entry writes.key of.at → (stage : Stage) → EndsLooking (wish_of writes) (Some q) a.now b.now (On stage) → Goes stage
      never_kept q of there stage ends = absurd (⊎_elim
          (λ none. none.0 of.at there)
          (λ one. ⊎_elim (λ lays. absurd (cc lays.done)) (λ keeps. false≢true (ap is_some (sym keeps.new))) one.ends)
          ends)

      pub goes_on : (slots : (of : KeptOf writes.title writes.key) (q : Place) → w.facts writes.s ≡ facts_kept writes.title writes.entry of q ++ writes.more → IsSlotOfKey (area_in a.now) writes.entry writes.key of.at)
          → (chains : (chain : Chain) → IsChainFor writes.entry writes.key chain → chain_entry chain ≡ writes.entry) → (p stage : Stage) → writes.stage ≡ p → AreOfStage writes.title writes.entry writes.key p writes.more (w.facts writes.s)
          → EndsWrite (wish_of writes) p a.now b.now (On stage) → Goes stage
      goes_on slots chains Looking stage is are ends = looked is are None stage ends
      goes_on slots chains (Extending chain way) stage is are ends = by_page chain way are.0 (chains chain are.0) are.1 stage ends
      goes_on slots chains (Kept q) stage is are ends = never_kept q are.0 (slots are.0 q are.1) stage ends

-- the chain is one of the table
pub chain_of_table : (e : ℕ) (key : ℤ) (chain : Chain) → IsChainFor e key chain → chain_entry chain ≡ e
chain_of_table e key chain (inl is) = ap chain_entry is
chain_of_table e key chain (inr is) = ap chain_entry is
