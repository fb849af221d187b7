-- An area stays sound where more pages are counted.
use Rattle.std.proofs.Common.{◌≡◌, ⊎_elim, ℕ, ◌<◌, ◌≤◌, true, false, cond, List, sym, ◌∙◌, ap, arith}
use Rattle.std.proofs.lemmas.Bool.{eqb-true, cases_lt}
use Rattle.std.specs.Prelude.{◌==◌}
use Rattle.ctr_area.proofs.Buckets.{each_of}
use Rattle.ctr_area.specs.Areas.{Area}
use Rattle.ctr_area.specs.Sound.{IsAmong, owned_pages, IsSoundArea}
use Rattle.ctr_area.specs.meta_Tables.{Tables}
use Rattle.ctr_record_laws.proofs.Links.{none_pass}
use Rattle.ctr_record_laws.proofs.Owning.{all_of}
use Rattle.ctr_area.proofs.ctr_versions.Keys.{known}

module _ (counted more : ℕ) (tables : Tables) (area : Area) (le : counted ≤ more) (sound : IsSoundArea counted tables area) where
  abbrev pages : List ℕ
  pages = owned_pages tables.items area

  abbrev Fits : ℕ → Type 0
  Fits p = (3 ≤ p) × (p < counted) × (area.taken p ≡ true)

  -- no page that wasn't counted is owned
  no_page : (p : ℕ) → counted ≤ p → (q : ℕ) → IsAmong q pages → (q == p) ≡ false
  no_page p ge q in_ = known (q == p) (λ is. absurd (beyond q (each_of Fits q pages sound.owned.inside in_).1 (eqb-true q p is))) (λ isnt. isnt)
    where
      beyond : (q : ℕ) → q < counted → q ≡ p → ⊥
      beyond q lt is = omega (arith, lt, is, ge)

  further : (p : ℕ) → p < counted → p < more
  further p lt = omega (arith, lt, le)

  pub grown_sound : IsSoundArea more tables area
  grown_sound = record {
    readable = sound.readable;
    behind = sound.behind;
    counts = sound.counts;
    owned = record {
      once = λ p third lt. ⊎_elim
          (λ was. sound.owned.once p third was)
          (λ ge. none_pass (λ q. q == p) pages (no_page p ge) ∙ sym (ap (λ b. cond b 1 0) (sound.owned.uncounted p ge))) (cases_lt p counted);
      inside = all_of (λ p. (3 ≤ p) × (p < more) × (area.taken p ≡ true)) pages (λ p in_. let its = each_of Fits p pages sound.owned.inside in_ in (its.0, further p its.1, its.2));
      uncounted = λ p ge. sound.owned.uncounted p (omega (arith, ge, le));
      allocs = sound.owned.allocs;
      creates = sound.owned.creates;
      drops = sound.owned.drops;
    };
    keys = sound.keys;
    pointers = sound.pointers;
    names = sound.names;
    below = sound.below;
  }
