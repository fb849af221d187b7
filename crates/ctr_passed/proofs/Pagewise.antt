-- Pages that pass, page by page: what `ArePassed` says of the lists of a table's places, said of each page of its
-- chains.
use Rattle.std.proofs.Common.{◌≡◌, inl, inr, ℕ, zero, suc, ◌+◌, ◌<◌, List, [], ◌∷◌, length, slice_index, sym, subst, arith}
use Rattle.ctr_actions.specs.page_Chain.TheVariants.{Rows, Versions}
use Rattle.ctr_actions.specs.page_Damage.{header_check}
use Rattle.ctr_actions.specs.area_Areas.{Area}
use Rattle.ctr_actions.specs.area_Reading.{area_of}
use Rattle.ctr_actions.specs.area_Chains.{pages_bound, pages_from, places_from, slot_places, older_places}
use Rattle.ctr_actions.specs.area_Checked.{Passes, BucketsPass, ChainPasses, SlotPasses, OlderPasses, ArePassed}
use Rattle.ctr_actions.specs.area_Sound.{IsAmong}
use Rattle.ctr_actions.proofs.area_Buckets.{each_of, on_chain, in_chain}
use Rattle.ctr_actions.proofs.record_laws_Ends.{one_among}
use Rattle.ctr_actions.proofs.record_laws_Members.{among_flat}
use Rattle.ctr_actions.proofs.record_laws_Owning.{all_of}
use Rattle.ctr_passed.specs.Laid.{EntryPasses, RowsPagePasses, OlderPagePasses}

-- the first page of a bucket
abbrev pub bucket_at : Area → ℕ → ℕ → ℕ
bucket_at area e b = slice_index (area.firsts e).buckets b

pub record PassedIn (counted : ℕ) (pages : ℕ → List ℕ) (area : Area) : Type 0 where
  pub entries : (e : ℕ) → e < 32 → EntryPasses counted pages e
  pub rows : (e b p : ℕ) → b < length (area.firsts e).buckets → IsAmong p (pages_from pages_bound area.header (bucket_at area e b)) → RowsPagePasses counted area pages e b p
  pub versions : (e p : ℕ) → IsAmong p (pages_from pages_bound area.header (area.firsts e).versions) → OlderPagePasses counted area pages e p

-- where in a list one stands
pub index_of : (x : ℕ) (xs : List ℕ) → IsAmong x xs → (b : ℕ) × (b < length xs) × (slice_index xs b ≡ x)
index_of x [] in_ = absurd in_
index_of x (y ∷ ys) (inl is) = (0, omega arith, sym is)
index_of x (y ∷ ys) (inr in_) = let at = index_of x ys in_ in (suc at.0, omega (arith, at.1), at.2)

-- ---- chains of buckets

bucket_headers : (counted : ℕ) (pages : ℕ → List ℕ) (e k b : ℕ) (ps : List ℕ) → b < length ps → BucketsPass counted pages e k ps → ChainPasses counted pages (Rows e (k + b)) (slice_index ps b)
bucket_headers counted pages e k b [] lt all = absurd (omega (arith, lt))
bucket_headers counted pages e k zero (p ∷ ps) lt all = subst (λ m. ChainPasses counted pages (Rows e m) p) (let z : k ≡ k + 0 = omega arith in z) all.0
bucket_headers counted pages e k (suc b) (p ∷ ps) lt all =
    subst (λ m. ChainPasses counted pages (Rows e m) (slice_index ps b)) (let z : k + 1 + b ≡ k + suc b = omega arith in z) (bucket_headers counted pages e (k + 1) b ps (omega (arith, lt)) all.1)

headers_of : (counted : ℕ) (pages : ℕ → List ℕ) (e k : ℕ) (ps : List ℕ) → ((b : ℕ) → b < length ps → ChainPasses counted pages (Rows e (k + b)) (slice_index ps b)) → BucketsPass counted pages e k ps
headers_of counted pages e k [] each = tt
headers_of counted pages e k (p ∷ ps) each = (
  subst (λ m. ChainPasses counted pages (Rows e m) p) (let z : k + 0 ≡ k = omega arith in z) (each 0 (omega arith)),
  headers_of counted pages e (k + 1) ps (λ b lt. subst (λ m. ChainPasses counted pages (Rows e m) (slice_index ps b)) (let z : k + suc b ≡ k + 1 + b = omega arith in z) (each (suc b) (omega (arith, lt)))),
)

module _ (counted : ℕ) (pages : ℕ → List ℕ) where
  abbrev area : Area
  area = area_of pages

  from_0 : (b : ℕ) → 0 + b ≡ b
  from_0 b = omega arith

  -- page by page
  pub page_by_page : ArePassed counted pages → PassedIn counted pages area
  page_by_page passed = record {
    entries = passed.entries;
    rows = λ e b p lt in_. record {
      header = each_of (λ q. Passes (header_check (Rows e b) counted (pages q))) p (pages_from pages_bound area.header (bucket_at area e b)) (subst (λ m. ChainPasses counted pages (Rows e m) (bucket_at area e b)) (from_0 b) (bucket_headers counted pages e 0 b (area.firsts e).buckets lt (passed.rows e))) in_;
      slots = λ n fits. each_of (SlotPasses counted pages e) (record { page = p; slot = n }) (slot_places area e) (passed.slots e)
          (one_among (places_from area) (record { page = p; slot = n }) (area.firsts e).buckets b lt (in_chain area (bucket_at area e b) p n in_ fits));
    };
    versions = λ e p in_. record {
      header = each_of (λ q. Passes (header_check (Versions e) counted (pages q))) p (pages_from pages_bound area.header (area.firsts e).versions) (passed.versions e) in_;
      older = λ n fits. each_of (OlderPasses counted pages e) (record { page = p; slot = n }) (older_places area e) (passed.older e) (in_chain area (area.firsts e).versions p n in_ fits);
    };
  }

  -- and back
  pub place_by_place : PassedIn counted pages area → ArePassed counted pages
  place_by_place passed = record {
    entries = passed.entries;
    rows = λ e. headers_of counted pages e 0 (area.firsts e).buckets
        (λ b lt. subst (λ m. ChainPasses counted pages (Rows e m) (bucket_at area e b)) (sym (from_0 b)) (all_of (λ q. Passes (header_check (Rows e b) counted (pages q))) (pages_from pages_bound area.header (bucket_at area e b)) (λ q in_. (passed.rows e b q lt in_).header)));
    versions = λ e. all_of (λ q. Passes (header_check (Versions e) counted (pages q))) (pages_from pages_bound area.header (area.firsts e).versions) (λ q in_. (passed.versions e q in_).header);
    slots = λ e. all_of (SlotPasses counted pages e) (slot_places area e) (λ at in_.
        let found = among_flat (places_from area) at (area.firsts e).buckets in_ in
        let b = index_of found.0 (area.firsts e).buckets found.1 in
        let here = on_chain area found.0 at found.2 in
        (passed.rows e b.0 at.page b.1 (subst (λ f. IsAmong at.page (pages_from pages_bound area.header f)) (sym b.2) here.0)).slots at.slot here.1);
    older = λ e. all_of (OlderPasses counted pages e) (older_places area e) (λ at in_.
        let here = on_chain area (area.firsts e).versions at in_ in (passed.versions e at.page here.0).older at.slot here.1);
  }
