-- What a session carries of a Write, and what that gives.
use Rattle.std.proofs.Common.{◌≡◌, inl, inr, ℕ, ℤ, true, List, [], refl, sym, ap, subst}
use Rattle.std.specs.List.{AllByRecursion}
use Rattle.ctr_meta.specs.Tables.{is_in}
use Rattle.ctr_model.specs.declared.state.Transaction.{Transaction}
use Rattle.ctr_model.specs.Refusals.{has_lock}
use Rattle.ctr_page.specs.declared.checks.Chain.{Chain}
use Rattle.ctr_page.specs.declared.rows.Place.{Place}
use Rattle.ctr_page.specs.declared.header.Header.{Header}
use Rattle.ctr_page.specs.Damage.{chain_entry}
use Rattle.ctr_page.specs.Columns.{kinds_of, kinds_width}
use Rattle.ctr_area.specs.Areas.{Title, Slot}
use Rattle.ctr_area.specs.Sound.{IsAmong}
use Rattle.ctr_area.proofs.Buckets.{each_of}
use Rattle.ctr_redo.specs.States.{State}
use Rattle.ctr_extend.specs.record_effects_States.{area_in}
use Rattle.ctr_extend.specs.actions_Sites.{Site, site_of}
use Rattle.ctr_extend.specs.actions_Facts.{Fact, IsOpen, HasTable, HasBlank, HasNoPageBut, HasSlot, HasCopy, HoldsFact}
use Rattle.ctr_extend.specs.passed_Logged.{IsBlankPage}
use Rattle.ctr_extend.specs.kept_Carried.{IsUnderLock, IsOfEntry}
use Rattle.ctr_extend.specs.kept_Turns.{Carries}
use Rattle.ctr_extend.proofs.kept_Tables.{among_first}
use Rattle.ctr_extend.specs.Ways.{way_facts}
use Rattle.ctr_extend.proofs.Carrying.{way_held, blank_way}
use Rattle.ctr_write.specs.declared.stages.Stage.{Stage}
use Rattle.ctr_write.specs.declared.stages.Stage.TheVariants.{Looking, Extending, Kept}
use Rattle.ctr_write.specs.Stages.{IsChainFor, IsToKeep, IsAtStage}
use Rattle.ctr_write.specs.Carrying.{KeptOf, facts_kept, AreOfStage}

-- the chain that a Write wants a page for is of its table
of_table : (e : ℕ) (key : ℤ) (chain : Chain) → IsChainFor e key chain → e ≡ chain_entry chain
of_table e key chain (inl is) = sym (ap chain_entry is)
of_table e key chain (inr is) = sym (ap chain_entry is)

module _ (x : ℕ) (title : Title) (e : ℕ) (key : ℤ) (s : State) (more facts : List Fact) (has : (area_in s).title e ≡ title)
    (held : (f : Fact) → IsAmong f facts → HoldsFact x f (site_of s)) (blank : (p : ℕ) (h : Header) → IsAmong (HasBlank p h) facts → IsBlankPage p h s) where
  -- the facts of a stage give that the Write is so far
  pub at_stage : (stage : Stage) → AreOfStage title e key stage more facts → IsAtStage x e key stage s
  at_stage Looking are = held (HasNoPageBut []) (subst (λ (l : List Fact). IsAmong (HasNoPageBut []) l) (sym are) (inr (inr (inl refl))))
  at_stage (Extending chain way) are = (
    are.0,
    record {
      holds = way_held x chain way (site_of s) (λ f in_. held f (subst (λ (l : List Fact). IsAmong f l) (sym are.1) (inr (inr (among_first f (way_facts chain way) more in_)))));
      blank = blank_way chain way s (λ p h in_. blank p h (subst (λ (l : List Fact). IsAmong (HasBlank p h) l) (sym are.1) (inr (inr (among_first (HasBlank p h) (way_facts chain way) more in_)))));
    },
  )
  at_stage (Kept q) are =
      let of = are.0 in
      let there : (f : Fact) → IsAmong f (facts_kept title e of q) → IsAmong f facts = λ f in_. subst (λ (l : List Fact). IsAmong f l) (sym are.1) (among_first f (facts_kept title e of q) more in_) in (
        held (HasNoPageBut []) (there (HasNoPageBut []) (inr (inr (inl refl)))),
        record {
          at = of.at;
          slot = of.slot;
          version = of.version;
          of_key = of.of_key;
          has = held (HasSlot e of.at of.slot) (there (HasSlot e of.at of.slot) (inr (inr (inr (inl refl)))));
          copy = held (HasCopy e of.at of.version q) (there (HasCopy e of.at of.version q) (inr (inr (inr (inr (inl refl))))));
          is = subst (λ (t : Title). IsToKeep (kinds_width (kinds_of t.columns)) of.slot of.version) (sym has) of.is;
        },
      )

-- of a table the title is carried
abbrev HasTitle : List Fact → Fact → Type 0
HasTitle mine f = (e : ℕ) → IsOfEntry f e → (title : Title) × IsAmong (HasTable e title) mine

module _ (x : ℕ) (t : Transaction) (title : Title) (e : ℕ) (key : ℤ) (of : KeptOf title key) (q : Place) (z : Site) where
  -- what is carried behind a Keep
  pub carried_kept : is_in x z.tables.opens ≡ true → z.area.title e ≡ title → IsUnderLock t (HasTable e title) z → has_lock title.name key t ≡ true
      → HoldsFact x (HasNoPageBut []) z → HoldsFact x (HasSlot e of.at of.slot) z → HoldsFact x (HasCopy e of.at of.version q) z
      → Carries x t (facts_kept title e of q) z
  carried_kept active has under lock none slot copy =
      let named = subst (λ (l : Title). has_lock l.name of.slot.key t ≡ true) (sym has) (subst (λ (k : ℤ). has_lock title.name k t ≡ true) (sym of.of_key) lock) in
      let keyed = subst (λ (o : Slot). has_lock (z.area.title e).name o.key t ≡ true) (sym slot.1) named in
      let all : AllByRecursion (λ (f : Fact). HoldsFact x f z × IsUnderLock t f z) (facts_kept title e of q) =
      ((active, tt), ((has, under), ((none, tt), ((slot, named), ((copy, keyed), tt))))) in
      let in_ : (f : ℕ) → f ≡ e → IsAmong (HasTable f title) (facts_kept title e of q) = λ f is. inr (inl (ap (λ (n : ℕ). HasTable n title) is)) in
      let titled : AllByRecursion (HasTitle (facts_kept title e of q)) (facts_kept title e of q) =
      ((λ f is. absurd is), ((λ f is. absurd is), ((λ f is. absurd is), ((λ f is. (title, in_ f (sym is))), ((λ f is. (title, in_ f (sym is))), tt))))) in
      record {
        held = λ fact there. each_of (λ (f : Fact). HoldsFact x f z × IsUnderLock t f z) fact (facts_kept title e of q) all there;
        tables = λ fact f there is. each_of (HasTitle (facts_kept title e of q)) fact (facts_kept title e of q) titled there f is;
      }

-- each stage carries that the transaction is open, and the table
pub opens_table : (title : Title) (e : ℕ) (key : ℤ) (stage : Stage) (more facts : List Fact) → AreOfStage title e key stage more facts → IsAmong IsOpen facts × IsAmong (HasTable e title) facts
opens_table title e key Looking more facts are = subst (λ (l : List Fact). IsAmong IsOpen l × IsAmong (HasTable e title) l) (sym are) (inl refl, inr (inl refl))
opens_table title e key (Extending chain way) more facts are =
    subst (λ (l : List Fact). IsAmong IsOpen l × IsAmong (HasTable e title) l) (sym are.1) (inl refl, inr (inl (ap (λ (n : ℕ). HasTable n title) (of_table e key chain are.0))))
opens_table title e key (Kept q) more facts are = subst (λ (l : List Fact). IsAmong IsOpen l × IsAmong (HasTable e title) l) (sym are.1) (inl refl, inr (inl refl))

-- no page is counted on as empty once a version was kept
pub none_blank : (title : Title) (e : ℕ) (key : ℤ) (of : KeptOf title key) (q : Place) (p : ℕ) (h : Header) → IsAmong (HasBlank p h) (facts_kept title e of q) → ⊥
none_blank title e key of q p h (inl is) = absurd cc
none_blank title e key of q p h (inr (inl is)) = absurd cc
none_blank title e key of q p h (inr (inr (inl is))) = absurd cc
none_blank title e key of q p h (inr (inr (inr (inl is)))) = absurd cc
none_blank title e key of q p h (inr (inr (inr (inr (inl is))))) = absurd cc
none_blank title e key of q p h (inr (inr (inr (inr (inr none))))) = absurd none
