-- A turn of a Write that logged no record: more pages are counted for it, or there is none to be had.
use Rattle.std.proofs.Common.{◌≡◌, ⊎_elim, ℕ, ◌<◌, Option, Some, None, subst}
use Rattle.ctr_base.specs.declared.growing.TheConstants.{MOST_PAGES}
use Rattle.ctr_page.specs.declared.checks.Chain.{Chain}
use Rattle.ctr_page.specs.declared.checks.Chain.TheVariants.{Rows, Versions}
use Rattle.ctr_page.specs.Places.{bucket_of}
use Rattle.ctr_page.specs.declared.rows.Place.{Place}
use Rattle.ctr_redo.specs.States.{State, counting, grown}
use Rattle.ctr_write.specs.ctr_extend.declared.ways.OnWay.{OnWay}
use Rattle.ctr_write.specs.ctr_extend.declared.ways.OnWay.TheVariants.{Wanted, Taken, Made}
use Rattle.ctr_write.specs.ctr_extend.declared.ways.Extended.{Extended}
use Rattle.ctr_write.specs.ctr_extend.declared.ways.Extended.TheVariants.{On as OnItsWay, Linked, Grown as IsGrown, Full as IsFull}
use Rattle.ctr_write.specs.ctr_extend.Steps.{ExtendsBy, IsFull as HasNoPage}
use Rattle.ctr_write.specs.declared.stages.Stage.{Stage}
use Rattle.ctr_write.specs.declared.stages.Stage.TheVariants.{Looking, Extending, Kept}
use Rattle.ctr_write.specs.declared.stages.Written.{Written}
use Rattle.ctr_write.specs.declared.stages.Written.TheVariants.{On, Done, Grown, Full}
use Rattle.ctr_write.specs.Extending.{ExtendsFor, written_from}
use Rattle.ctr_write.specs.Laying.{Wish}
use Rattle.ctr_write.specs.Steps.{EndsPlacing, EndsOver, EndsLooking, EndsWrite}

-- an answer of a turn that logged no record
abbrev pub IsUnlogged : Written → Type 0
IsUnlogged (On stage) = ⊥
IsUnlogged Done = ⊥
IsUnlogged Grown = Unit {0}
IsUnlogged Full = Unit {0}

-- a turn for a page
pub record IsForPage (x : ℕ) (s t : State) (w : Written) : Type 0 where
  pub chain : Chain
  pub way : OnWay
  pub extends : ExtendsFor x chain way s t w

module _ (wish : Wish) (s t : State) (w : Written) (none : IsUnlogged w) where
  placed : EndsPlacing wish s t w → IsForPage wish.x s t w
  placed ends = ⊎_elim (λ lays. absurd (subst IsUnlogged lays.done none)) (λ wants. record { chain = Rows wish.entry (bucket_of wish.key); way = Wanted; extends = wants.extends }) ends

  over : (at : Place) (kept : Option Place) → EndsOver wish at kept s t w → IsForPage wish.x s t w
  over at kept ends = ⊎_elim
      (λ lays. absurd (subst IsUnlogged lays.done none))
      (λ keeps. ⊎_elim (λ first. absurd (subst IsUnlogged first.is none)) (λ wants. record { chain = Versions wish.entry; way = Wanted; extends = wants.extends }) keeps.ends)
      ends

  looked : (kept : Option Place) → EndsLooking wish kept s t w → IsForPage wish.x s t w
  looked kept ends = ⊎_elim (λ none. placed none.1) (λ one. over one.at kept one.ends) ends

  for_page : (stage : Stage) → EndsWrite wish stage s t w → IsForPage wish.x s t w
  for_page Looking ends = looked None ends
  for_page (Extending chain way) ends = record { chain = chain; way = way; extends = ends }
  for_page (Kept q) ends = looked (Some q) ends

module _ (x : ℕ) (chain : Chain) (s t : State) where
  grows_by : (way : OnWay) (e : Extended) → Grown ≡ written_from chain e → ExtendsBy x chain way s t e → (t ≡ counting (grown s.counted) s) × (s.counted < MOST_PAGES)
  grows_by way (OnItsWay on) is by = absurd (cc is)
  grows_by way Linked is by = absurd (cc is)
  grows_by Wanted IsGrown is by = (by.grows, by.few)
  grows_by (Taken p) IsGrown is by = absurd by
  grows_by (Made p next) IsGrown is by = absurd by
  grows_by way IsFull is by = absurd (cc is)

  stays_by : (way : OnWay) (e : Extended) → Full ≡ written_from chain e → ExtendsBy x chain way s t e → HasNoPage s t
  stays_by way (OnItsWay on) is by = absurd (cc is)
  stays_by way Linked is by = absurd (cc is)
  stays_by way IsGrown is by = absurd (cc is)
  stays_by Wanted IsFull is by = by
  stays_by (Taken p) IsFull is by = absurd by
  stays_by (Made p next) IsFull is by = absurd by

module _ (wish : Wish) (stage : Stage) (s t : State) where
  pub grows : EndsWrite wish stage s t Grown → (t ≡ counting (grown s.counted) s) × (s.counted < MOST_PAGES)
  grows ends = let page = for_page wish s t Grown tt stage ends in grows_by wish.x page.chain s t page.way page.extends.0 page.extends.1 page.extends.2

  pub stays : EndsWrite wish stage s t Full → HasNoPage s t
  stays ends = let page = for_page wish s t Full tt stage ends in stays_by wish.x page.chain s t page.way page.extends.0 page.extends.1 page.extends.2
