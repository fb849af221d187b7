-- A turn of a Write leaves each entry of the catalog its title.
use Rattle.std.proofs.Common.{◌≡◌, ⊎_elim, ℕ, Option, None, Some, refl, ap, ◌∙◌}
use Rattle.ctr_page.specs.declared.checks.Chain.{Chain}
use Rattle.ctr_page.specs.declared.checks.Chain.TheVariants.{Rows, Versions}
use Rattle.ctr_page.specs.declared.rows.Place.{Place}
use Rattle.ctr_page.specs.Places.{bucket_of}
use Rattle.ctr_record_effects.specs.States.{area_in}
use Rattle.ctr_redo.specs.States.{State}
use Rattle.ctr_looks.specs.actions_Actions.{Action, site_after}
use Rattle.ctr_looks.specs.actions_Sites.{Site, site_of}
use Rattle.ctr_looks.specs.page_turns_Acts.{ActsBy}
use Rattle.ctr_looks.specs.ctr_extend.declared.ways.OnWay.{OnWay}
use Rattle.ctr_looks.specs.ctr_extend.declared.ways.OnWay.TheVariants.{Wanted, Taken, Made}
use Rattle.ctr_looks.specs.ctr_extend.declared.ways.Extended.{Extended}
use Rattle.ctr_looks.specs.ctr_extend.declared.ways.Extended.TheVariants.{On as OnItsWay, Linked, Grown as IsGrown, Full as IsFull}
use Rattle.ctr_looks.specs.ctr_extend.Steps.{ExtendsBy}
use Rattle.ctr_looks.specs.ctr_write.declared.stages.Stage.{Stage}
use Rattle.ctr_looks.specs.ctr_write.declared.stages.Stage.TheVariants.{Looking, Extending, Kept}
use Rattle.ctr_looks.specs.ctr_write.declared.stages.Written.{Written}
use Rattle.ctr_looks.specs.ctr_write.Extending.{ExtendsFor}
use Rattle.ctr_looks.specs.ctr_write.Keeping.{Off, off}
use Rattle.ctr_looks.specs.ctr_write.Laying.{Wish}
use Rattle.ctr_looks.specs.ctr_write.Steps.{EndsPlacing, EndsKeeping, EndsOver, EndsLooking, EndsWrite}

-- each entry has the title that it had
abbrev pub SameTitles : State → State → Type 0
SameTitles s t = (e : ℕ) → (area_in t).title e ≡ (area_in s).title e

-- an action that leaves the titles of a site
of_action : (x : ℕ) (a : Action) (s t : State) → ActsBy x a s t → ((e : ℕ) → (site_after x a (site_of s)).area.title e ≡ (area_in s).title e) → SameTitles s t
of_action x a s t acts same e = ap (λ (z : Site). z.area.title e) acts.does.leaves ∙ same e

module _ (s t : State) where
  of_page : (x : ℕ) (chain : Chain) (way : OnWay) (e : Extended) → ExtendsBy x chain way s t e → SameTitles s t
  of_page x chain Wanted (OnItsWay (Taken p)) is = of_action x _ s t is.acts (λ e. refl)
  of_page x chain Wanted IsGrown is = λ e. ap (λ (u : State). (area_in u).title e) is.grows
  of_page x chain Wanted IsFull is = λ e. ap (λ (u : State). (area_in u).title e) is.same
  of_page x chain Wanted (OnItsWay Wanted) is = absurd is
  of_page x chain Wanted (OnItsWay (Made p next)) is = absurd is
  of_page x chain Wanted Linked is = absurd is
  of_page x chain (Taken p) (OnItsWay (Made q next)) is = of_action x _ s t is.1.acts (λ e. refl)
  of_page x chain (Taken p) (OnItsWay Wanted) is = absurd is
  of_page x chain (Taken p) (OnItsWay (Taken q)) is = absurd is
  of_page x chain (Taken p) Linked is = absurd is
  of_page x chain (Taken p) IsGrown is = absurd is
  of_page x chain (Taken p) IsFull is = absurd is
  of_page x chain (Made p was) (OnItsWay (Made q next)) is = of_action x _ s t is.2.acts (λ e. refl)
  of_page x (Rows f b) (Made p next) Linked is = of_action x _ s t is.acts (λ e. refl)
  of_page x (Versions f) (Made p next) Linked is = of_action x _ s t is.acts (λ e. refl)
  of_page x chain (Made p was) (OnItsWay Wanted) is = absurd is
  of_page x chain (Made p was) (OnItsWay (Taken q)) is = absurd is
  of_page x chain (Made p was) IsGrown is = absurd is
  of_page x chain (Made p was) IsFull is = absurd is

  for_page : (x : ℕ) (chain : Chain) (way : OnWay) (w : Written) → ExtendsFor x chain way s t w → SameTitles s t
  for_page x chain way w ends = of_page x chain way ends.0 ends.2

  of_placing : (wish : Wish) (w : Written) → EndsPlacing wish s t w → SameTitles s t
  of_placing wish w ends = ⊎_elim
      (λ lays. of_action wish.x _ s t lays.lays (λ e. refl))
      (λ wants. for_page wish.x (Rows wish.entry (bucket_of wish.key)) Wanted w wants.extends)
      ends

  of_keeping : (o : Off) (w : Written) → EndsKeeping o s t w → SameTitles s t
  of_keeping o w ends = ⊎_elim
      (λ keeps. of_action o.x _ s t keeps.keeps.acts (λ e. refl))
      (λ wants. for_page o.x (Versions o.e) Wanted w wants.extends)
      ends

  of_over : (wish : Wish) (at : Place) (kept : Option Place) (w : Written) → EndsOver wish at kept s t w → SameTitles s t
  of_over wish at kept w ends = ⊎_elim
      (λ lays. of_action wish.x _ s t lays.lays (λ e. refl))
      (λ keeps. of_keeping (off wish.x wish.entry at keeps.version) w keeps.ends)
      ends

  of_looking : (wish : Wish) (kept : Option Place) (w : Written) → EndsLooking wish kept s t w → SameTitles s t
  of_looking wish kept w ends = ⊎_elim (λ none. of_placing wish w none.1) (λ one. of_over wish one.at kept w one.ends) ends

  pub titles_stay : (wish : Wish) (stage : Stage) (w : Written) → EndsWrite wish stage s t w → SameTitles s t
  titles_stay wish Looking w ends = of_looking wish None w ends
  titles_stay wish (Extending chain way) w ends = for_page wish.x chain way w ends
  titles_stay wish (Kept q) w ends = of_looking wish (Some q) w ends
