-- What a session carries of a page on its way, over the action of a turn.
use Rattle.std.proofs.Common.{◌≡◌, ◌≢◌, inl, inr, ℕ, ◌==◌, true, List, refl, sym, ◌∙◌, ap, subst, arith}
use Rattle.std.proofs.lemmas.Bool.{eqb-true}
use Rattle.std.specs.List.{AllByRecursion}
use Rattle.ctr_meta.specs.Tables.{is_in}
use Rattle.ctr_model.specs.declared.state.Transaction.{Transaction}
use Rattle.ctr_page.specs.declared.checks.Chain.{Chain}
use Rattle.ctr_page.specs.declared.checks.Chain.TheVariants.{Rows, Versions}
use Rattle.ctr_page.specs.declared.header.Header.{Header}
use Rattle.ctr_page.specs.Damage.{chain_entry}
use Rattle.ctr_area.specs.Areas.{Title}
use Rattle.ctr_area.specs.Sound.{IsAmong}
use Rattle.ctr_area.proofs.Buckets.{each_of}
use Rattle.ctr_undamaged.proofs.record_laws_Owning.{all_of}
use Rattle.ctr_base.specs.redo_States.{State}
use Rattle.ctr_page_turns.specs.record_effects_States.{area_in}
use Rattle.ctr_page_turns.specs.actions_Sites.{Site, site_of}
use Rattle.ctr_page_turns.specs.actions_Actions.{Action, Allocates, Formats, site_after}
use Rattle.ctr_stops.specs.actions_Facts.{Fact, HasTable, HasBlank, HoldsFact}
use Rattle.ctr_page_turns.specs.passed_Logged.{IsBlankPage}
use Rattle.ctr_stops.specs.paged_Shown.{Scene}
use Rattle.ctr_stops.specs.paged_Moving.{MovesTo}
use Rattle.ctr_stops.specs.kept_Carried.{Covers, IsUnderLock, IsOfEntry}
use Rattle.ctr_stops.specs.kept_Turns.{Carries}
use Rattle.ctr_page_turns.specs.Acts.{ActsBy}
use Rattle.ctr_extend.specs.declared.ways.OnWay.{OnWay}
use Rattle.ctr_extend.specs.declared.ways.OnWay.TheVariants.{Wanted, Taken, Made}
use Rattle.ctr_extend.specs.declared.ways.Extended.{Extended}
use Rattle.ctr_extend.specs.declared.ways.Extended.TheVariants.{On, Linked, Grown, Full}
use Rattle.ctr_extend.specs.Ways.{chain_header, link_action, way_facts, IsOnWay, IsBlankWay}
use Rattle.ctr_extend.specs.Steps.{ExtendsBy}
use Rattle.ctr_extend.specs.Keeping.{facts_on_way, way_behind, HasLogged}

-- a fact of a blank page tells what stands on it
abbrev pub BlankBy : State → Fact → Type 0
BlankBy s (HasBlank p h) = IsBlankPage p h s
BlankBy s f = Unit {0}

-- An action that no lock covers: to the model it is nothing, and titles and open transactions stay.
pub record IsPlain (x : ℕ) (t : Transaction) (a : Action) (s : Site) : Type 0 where
  pub covers : Covers t a s
  pub moves : (low : ℕ) (scene : Scene) → MovesTo low x a s scene scene
  pub opens : (site_after x a s).tables.opens ≡ s.tables.opens
  pub titles : (e : ℕ) → (site_after x a s).area.title e ≡ s.area.title e

-- what a turn with a record was, and how far the page is then
pub record Turned (x : ℕ) (t : Transaction) (chain : Chain) (way : OnWay) (s u : State) : Type 0 where
  pub act : Action
  pub acts : ActsBy x act s u
  pub plain : IsPlain x t act (site_of s)
  pub on_way : IsOnWay x chain way u

module _ (x : ℕ) (t : Transaction) where
  links : (chain : Chain) (p : ℕ) (s : Site) → IsPlain x t (link_action chain p) s
  links (Rows e b) p s = record { covers = tt; moves = λ low scene. refl; opens = refl; titles = λ f. refl }
  links (Versions e) p s = record { covers = tt; moves = λ low scene. refl; opens = refl; titles = λ f. refl }

  pub turned : (chain : Chain) (way : OnWay) (e : Extended) (s u : State) → HasLogged e → ExtendsBy x chain way s u e → Turned x t chain (way_behind e) s u
  turned chain Wanted (On Wanted) s u logged is = absurd is
  turned chain Wanted (On (Taken p)) s u logged is = record {
    act = Allocates p;
    acts = is.acts;
    plain = record { covers = tt; moves = λ low scene. refl; opens = refl; titles = λ f. refl };
    on_way = is.on_way;
  }
  turned chain Wanted (On (Made q next)) s u logged is = absurd is
  turned chain Wanted Linked s u logged is = absurd is
  turned chain way Grown s u logged is = absurd logged
  turned chain way Full s u logged is = absurd logged
  turned chain (Taken p) (On Wanted) s u logged is = absurd is
  turned chain (Taken p) (On (Taken q)) s u logged is = absurd is
  turned chain (Taken p) (On (Made q next)) s u logged is = record {
    act = Formats p (chain_header chain next);
    acts = is.1.acts;
    plain = record { covers = tt; moves = λ low scene. refl; opens = refl; titles = λ f. refl };
    on_way = subst (λ (n : ℕ). IsOnWay x chain (Made n next) u) (sym is.0) is.1.on_way;
  }
  turned chain (Taken p) Linked s u logged is = absurd is
  turned chain (Made p was) (On Wanted) s u logged is = absurd is
  turned chain (Made p was) (On (Taken q)) s u logged is = absurd is
  turned chain (Made p was) (On (Made q next)) s u logged is = record {
    act = Formats p (chain_header chain next);
    acts = is.2.acts;
    plain = record { covers = tt; moves = λ low scene. refl; opens = refl; titles = λ f. refl };
    on_way = subst (λ (n : ℕ). IsOnWay x chain (Made n next) u) (sym is.0) is.2.on_way;
  }
  turned chain (Made p next) Linked s u logged is = record {
    act = link_action chain p;
    acts = is.acts;
    plain = links chain p (site_of s);
    on_way = is.on_way;
  }

-- the header of a page names the table of its chain
of_entry : (chain : Chain) (next : ℕ) → (chain_header chain next).entry ≡ chain_entry chain
of_entry (Rows e b) next = refl
of_entry (Versions e) next = refl

module _ (x : ℕ) (t : Transaction) (title : Title) (chain : Chain) where
  abbrev mine : OnWay → List Fact
  mine way = facts_on_way title chain way

  -- each fact holds, under a lock
  all_held : (way : OnWay) (z : Site) → is_in x z.tables.opens ≡ true → z.area.title (chain_entry chain) ≡ title → IsUnderLock t (HasTable (chain_entry chain) title) z
      → AllByRecursion (λ (f : Fact). HoldsFact x f z) (way_facts chain way) → AllByRecursion (λ (f : Fact). HoldsFact x f z × IsUnderLock t f z) (mine way)
  all_held Wanted z active has under way = ((active, tt), ((has, under), ((way.0, tt), tt)))
  all_held (Taken p) z active has under way = ((active, tt), ((has, under), ((way.0, tt), ((way.1.0, tt), tt))))
  all_held (Made p next) z active has under way = ((active, tt), ((has, under), ((way.0, tt), ((way.1.0, tt), tt))))

  -- what is counted on of a table is counted on with its title
  abbrev HasTitle : OnWay → Fact → Type 0
  HasTitle way f = (e : ℕ) → IsOfEntry f e → (title : Title) × IsAmong (HasTable e title) (mine way)

  all_titled : (way : OnWay) → AllByRecursion (HasTitle way) (mine way)
  all_titled Wanted = ((λ e is. absurd is), ((λ e is. absurd is), ((λ e is. absurd is), tt)))
  all_titled (Taken p) = ((λ e is. absurd is), ((λ e is. absurd is), ((λ e is. absurd is), ((λ e is. absurd is), tt))))
  all_titled (Made p next) = (
    (λ e is. absurd is),
    (
      (λ e is. absurd is),
      (
        (λ e is. (title, inr (inl (ap (λ (n : ℕ). HasTable n title) (sym is ∙ of_entry chain next))))),
        ((λ e is. absurd is), tt),
      ),
    ),
  )

  -- a page that is made is blank
  all_blank : (way : OnWay) (u : State) → IsBlankWay chain way u → AllByRecursion (BlankBy u) (mine way)
  all_blank Wanted u blank = (tt, (tt, (tt, tt)))
  all_blank (Taken p) u blank = (tt, (tt, (tt, (tt, tt))))
  all_blank (Made p next) u blank = (tt, (tt, (blank, (tt, tt))))

  pub blank_by : (way : OnWay) (u : State) (p : ℕ) (h : Header) → IsBlankWay chain way u → IsAmong (HasBlank p h) (mine way) → IsBlankPage p h u
  blank_by way u p h blank in_ = each_of (BlankBy u) (HasBlank p h) (mine way) (all_blank way u blank) in_

  pub carried : (way : OnWay) (s u : State) (turn : Turned x t chain way s u) → is_in x s.tables.opens ≡ true → (area_in s).title (chain_entry chain) ≡ title
      → IsUnderLock t (HasTable (chain_entry chain) title) (site_of s) → Carries x t (mine way) (site_after x turn.act (site_of s))
  carried way s u turn active has under =
      let z = site_after x turn.act (site_of s) in
      let held = all_held way z (subst (λ o. is_in x o ≡ true) (sym turn.plain.opens) active) (turn.plain.titles (chain_entry chain) ∙ has) under
      (subst (λ (y : Site). AllByRecursion (λ (f : Fact). HoldsFact x f y) (way_facts chain way)) turn.acts.does.leaves turn.on_way.holds) in
      record {
        held = λ fact in_. each_of (λ (f : Fact). HoldsFact x f z × IsUnderLock t f z) fact (mine way) held in_;
        tables = λ fact e in_ is. each_of (HasTitle way) fact (mine way) (all_titled way) in_ e is;
      }

-- what all facts of a page on its way say, each by itself
pub way_held : (x : ℕ) (chain : Chain) (way : OnWay) (z : Site) → ((f : Fact) → IsAmong f (way_facts chain way) → HoldsFact x f z) → AllByRecursion (λ (f : Fact). HoldsFact x f z) (way_facts chain way)
way_held x chain way z each = all_of (λ (f : Fact). HoldsFact x f z) (way_facts chain way) each

-- a live table isn't a free entry
pub live_state : (n : ℕ) → (n == 1) ≡ true → n ≢ 0
live_state n is none = let one = eqb-true n 1 is in omega (arith, one, none)

-- a page that was made is blank, by what is kept of pages that are counted on as empty
pub blank_way : (chain : Chain) (way : OnWay) (s : State) → ((p : ℕ) (h : Header) → IsAmong (HasBlank p h) (way_facts chain way) → IsBlankPage p h s) → IsBlankWay chain way s
blank_way chain Wanted s each = tt
blank_way chain (Taken p) s each = tt
blank_way chain (Made p next) s each = each p (chain_header chain next) (inl refl)
