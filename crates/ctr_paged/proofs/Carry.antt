-- What a record leaves as it was is carried.
use Rattle.std.proofs.Common.{◌≡◌, ◌⊎◌, ⊎_elim, inl, ℕ, ◌<◌, ◌==◌, true, List, None, refl, sym, ◌∙◌, ap, subst, arith}
use Rattle.std.specs.Prelude.{is_some, nat_lt, ◌&&◌, not}
use Rattle.std.specs.Ordering.{nat_cmp}
use Rattle.std.specs.FinMap.Entries.{find, put}
use Rattle.std.proofs.lemmas.Bool.{false≢true, eqb-true}
use Rattle.ctr_model.specs.declared.state.State.{State}
use Rattle.ctr_model.specs.declared.state.Transaction.{Transaction}
use Rattle.ctr_model.specs.Maps.{without}
use Rattle.ctr_model.proofs.Sessions.{find-put-other, find-put-same, find-without-other, find-without-same}
use Rattle.ctr_versions.proofs.Keys.{known}
use Rattle.ctr_versions.specs.Xids.{number_of}
use Rattle.ctr_versions.specs.Versions.{IsOrdered}
use Rattle.ctr_versions.specs.Engine.{SessionHeld, EngineHeld, ShowsState}
use Rattle.ctr_actions.specs.meta_Tables.{Tables, is_in}
use Rattle.ctr_actions.specs.area_Areas.{Title, Area}
use Rattle.ctr_actions.specs.area_Images.{is_committed_in, is_live, versions_in}
use Rattle.ctr_actions.specs.area_Sound.{xids_in, IsSoundArea}
use Rattle.ctr_actions.specs.record_laws_Bounds.{IsInBounds}
use Rattle.ctr_names.proofs.record_laws_Heads.{listed_drawn}
use Rattle.ctr_actions.proofs.record_laws_Xids.{same_in}
use Rattle.ctr_actions.specs.Sites.{Site}
use Rattle.ctr_paged.specs.Paged.{Run, xids_of, engine_at, AreDropsNewer, AreModelled, ShowsPaged}

-- the tables have the same transactions
pub record HaveSameNumbers (old new : Tables) : Type 0 where
  pub next : new.next ≡ old.next
  pub opens : xids_in new.opens ≡ xids_in old.opens
  pub aborted : xids_in new.aborted ≡ xids_in old.aborted

pub same_tables : (tables : Tables) → HaveSameNumbers tables tables
same_tables tables = record { next = refl; opens = refl; aborted = refl }

pub numbers_committed : (old new : Tables) → HaveSameNumbers old new → is_committed_in new ≡ is_committed_in old
numbers_committed old new same_ = λ i x. nat_lt 0 x && (nat_lt x (same_.next i) && (not (same_in x new.opens old.opens same_.opens i) && not (same_in x new.aborted old.aborted same_.aborted i)))

-- an open transaction was drawn
pub open_some : (counted : ℕ) (tables : Tables) (area : Area) → IsSoundArea counted tables area → (y : ℕ) → is_in y tables.opens ≡ true → 0 < y
open_some counted tables area sound y is = (listed_drawn tables.next area tables sound.below y (inl is)).0

-- Live entries have the name and the dropper that they had, or no dropper.
abbrev pub AreDropsKept : (ℕ → Title) → (ℕ → Title) → Type 0
AreDropsKept old new = (f : ℕ) → f < 32 → is_live (new f) ≡ true
    → ((is_live (old f) ≡ true) × ((new f).name ≡ (old f).name) × ((new f).dropper ≡ (old f).dropper)) ⊎ ((new f).dropper ≡ 0)

pub drops_same : (title : ℕ → Title) → AreDropsKept title title
drops_same title f lt alive = inl (alive, refl, refl)

pub drops_kept : (old new : Tables) (title now : ℕ → Title) (sessions : List (ℕ × SessionHeld)) → ((y : ℕ) → is_in y new.opens ≡ true → 0 < y) → ((y : ℕ) → is_in y new.opens ≡ true → is_in y old.opens ≡ true)
    → ((f : ℕ) → f < 32 → is_live (title f) ≡ true → is_committed_in new (title f).dropper ≡ true → is_committed_in old (title f).dropper ≡ true) → AreDropsKept title now
    → AreDropsNewer old sessions title → AreDropsNewer new sessions now
drops_kept old new title now sessions some opens fewer kept drops s b at open_ e f lt_e lt_f live_e live_f names mine gone =
    ⊎_elim
    (λ was_e. ⊎_elim
    (λ was_f. subst (λ d. d < b.me) (sym was_f.2) (drops s b at (opens b.me open_) e f lt_e lt_f was_e.0 was_f.0 (sym was_e.1 ∙ names ∙ was_f.1) (sym was_e.2 ∙ mine)
    (fewer f lt_f was_f.0 (subst (λ d. is_committed_in new d ≡ true) was_f.2 gone))))
    (λ z. absurd (false≢true (sym (ap (is_committed_in new) z) ∙ gone))) (kept f lt_f live_f))
    (λ z. absurd (zero_not b.me (some b.me open_) (sym mine ∙ z))) (kept e lt_e live_e)
  where
    zero_not : (y : ℕ) → 0 < y → y ≡ 0 → ⊥
    zero_not y lt z = omega (arith, lt, z)

-- nobody has no number
pub nobody_none : (tables : Tables) (commits : List ℕ) → number_of (xids_of tables commits) 0 ≡ None
nobody_none tables commits = refl

-- ---- sessions that are in a transaction of the model

pub modelled_put : (s : ℕ) (u : Transaction) (sessions : List (ℕ × SessionHeld)) (transactions : List (ℕ × Transaction)) → AreModelled sessions transactions → AreModelled sessions (put nat_cmp s u transactions)
modelled_put s u sessions transactions modelled r b at = known (r == s)
    (λ one. (u, ap (λ q. find nat_cmp q (put nat_cmp s u transactions)) (eqb-true r s one) ∙ find-put-same s u transactions))
    (λ two. let was = modelled r b at in (was.0, find-put-other r s u transactions two ∙ was.1))

pub modelled_both : (s : ℕ) (a : SessionHeld) (u : Transaction) (sessions : List (ℕ × SessionHeld)) (transactions : List (ℕ × Transaction)) → AreModelled sessions transactions → AreModelled (put nat_cmp s a sessions) (put nat_cmp s u transactions)
modelled_both s a u sessions transactions modelled r b at = known (r == s)
    (λ one. (u, ap (λ q. find nat_cmp q (put nat_cmp s u transactions)) (eqb-true r s one) ∙ find-put-same s u transactions))
    (λ two. let was = modelled r b (sym (find-put-other r s a sessions two) ∙ at) in (was.0, find-put-other r s u transactions two ∙ was.1))

pub modelled_without : (s : ℕ) (sessions : List (ℕ × SessionHeld)) (transactions : List (ℕ × Transaction)) → AreModelled sessions transactions → AreModelled (without nat_cmp s sessions) (without nat_cmp s transactions)
modelled_without s sessions transactions modelled r b at = known (r == s)
    (λ one. absurd (false≢true (ap is_some (sym (ap (λ q. find nat_cmp q (without nat_cmp s sessions)) (eqb-true r s one) ∙ find-without-same s sessions) ∙ at))))
    (λ two. let was = modelled r b (sym (find-without-other r s sessions two) ∙ at) in (was.0, find-without-other r s transactions two ∙ was.1))

-- ---- the engine after a record

pub xids_same : (old new : Tables) (commits : List ℕ) → HaveSameNumbers old new → xids_of new commits ≡ xids_of old commits
xids_same old new commits same_ = λ i. record { next = same_.next i; live = same_.opens i; aborted = same_.aborted i; commits = commits }

-- the engine with other versions alone
pub versions_alone : (site next : Site) (run : Run) → HaveSameNumbers site.tables next.tables → engine_at next run ≡ record (engine_at site run) { versions = versions_in (is_committed_in site.tables) next.area }
versions_alone site next run same_ = λ i. record {
  xids = record { next = same_.next i; live = same_.opens i; aborted = same_.aborted i; commits = run.commits };
  versions = versions_in (numbers_committed site.tables next.tables same_ i) next.area;
  sessions = run.sessions;
  answered = run.answered;
}

module _ (low : ℕ) (site : Site) (run : Run) (state : State) (paged : ShowsPaged low site run state) where
  -- other areas and tables, with the same transactions, and a state with the same base
  pub paged_moved : (now : Area) (new : Tables) (next : State) → IsInBounds now → IsSoundArea site.counted new now → HaveSameNumbers site.tables new → AreDropsKept site.area.title now.title
      → ShowsState low (record (engine_at site run) { versions = versions_in (is_committed_in site.tables) now }) next → AreModelled run.sessions next.sessions → next.base ≡ state.base → next.asked ≡ state.asked → ShowsPaged low (record site { tables = new; area = now }) run next
  paged_moved now new next bounds sound same_ kept shows modelled base same_asked = record {
    bounds = bounds;
    few = paged.few;
    sound = sound;
    some = subst (λ n. 0 < n) (sym same_.next) paged.some;
    shows = subst (λ (e : EngineHeld). ShowsState low e next) (sym (versions_alone site (record site { tables = new; area = now }) run same_)) shows;
    drops = drops_kept site.tables new site.area.title now.title run.sessions (open_some site.counted new now sound) (λ y is. sym (same_in y new.opens site.tables.opens same_.opens) ∙ is)
        (λ f lt alive is. sym (ap (λ test. test (site.area.title f).dropper) (numbers_committed site.tables new same_)) ∙ is) kept paged.drops;
    earlier = paged.earlier;
    modelled = modelled;
    ordered = subst IsOrdered (sym base) paged.ordered;
  }

  -- what shows the same chains shows the same state
  pub paged_same : (now : Area) (new : Tables) → IsInBounds now → IsSoundArea site.counted new now → HaveSameNumbers site.tables new → AreDropsKept site.area.title now.title
      → versions_in (is_committed_in site.tables) now ≡ versions_in (is_committed_in site.tables) site.area → ShowsPaged low (record site { tables = new; area = now }) run state
  paged_same now new bounds sound same_ kept versions = paged_moved now new state bounds sound same_ kept
      (subst (λ vs. ShowsState low (record (engine_at site run) { versions = vs }) state) (sym versions) paged.shows) paged.modelled refl refl
