-- A pass goes on bucket by bucket; what is read on the way, and how many are aborted.
use Rattle.std.proofs.Common.{◌≡◌, ℕ, suc, ◌+◌, ◌-◌, ◌<◌, ◌≤◌, cond, List, [], ◌∷◌, drop, length, slice_index, None, Some, refl, sym, ◌∙◌, ap, subst, arith}
use Rattle.std.proofs.lemmas.List.{get_or-drop}
use Rattle.std.proofs.lemmas.Bool.{false≢true, le-ltb}
use Rattle.ctr_meta.specs.Kept.{EachOnce, XidsFit}
use Rattle.ctr_meta.specs.Tables.{Tables}
use Rattle.ctr_area.specs.Images.{numbers}
use Rattle.ctr_area.specs.Sound.{xids_in}
use Rattle.ctr_record_laws.proofs.Few.{number_among, length-numbers}
use Rattle.ctr_record_laws.proofs.Room.{AreApart, apart_fit}
use Rattle.ctr_record_laws.proofs.Xids.{among_in}
use Rattle.ctr_actions.specs.Sites.{Site}
use Rattle.ctr_cursor.specs.declared.position.Position.TheVariants.{Slot, Aborted}
use Rattle.ctr_cursor.specs.Pass.{first_on, at_or, aborted_from, slots_from, buckets_from}
use Rattle.ctr_cursor.proofs.Passing.{tail_of, drop_more}

-- ---- buckets

one_bucket : (s : Site) (e b : ℕ) (ps : List ℕ) → slots_from e b ps s ≡ at_or (λ at. Slot e b at) (slots_from e (b + 1) (tail_of ps) s) (first_on (slice_index ps 0))
one_bucket s e b [] = refl
one_bucket s e b (p ∷ ps) = refl

-- a bucket, and those behind it
pub bucket_step : (s : Site) (e b : ℕ) → buckets_from e b s ≡ at_or (λ at. Slot e b at) (buckets_from e (b + 1) s) (first_on (slice_index (s.area.firsts e).buckets b))
bucket_step s e b =
    let ps = (s.area.firsts e).buckets in
    one_bucket s e b (drop b ps)
    ∙ (λ i. at_or (λ at. Slot e b at) (slots_from e (b + 1) (sym (drop_more b ps) i) s) (first_on (here ps i)))
  where
    here : (ps : List ℕ) → slice_index (drop b ps) 0 ≡ slice_index ps b
    here ps = get_or-drop b ps 0 0 ∙ ap (slice_index ps) (let e : b + 0 ≡ b = omega arith in e)

-- ---- how many are aborted

apart : (ps : List (ℕ × ℕ)) → EachOnce ps → AreApart (xids_in ps)
apart [] once = tt
apart (p ∷ ps) once = ((λ in_. false≢true (sym once.0 ∙ among_in p.0 ps in_)), apart ps once.1)

length-xids : (ps : List (ℕ × ℕ)) → length (xids_in ps) ≡ length ps
length-xids [] = refl
length-xids (p ∷ ps) = ap (λ n. suc n) (length-xids ps)

-- fewer than transactions were drawn
pub few_aborted : (t : Tables) → XidsFit t → length t.aborted < t.next
few_aborted t fits = below (length t.aborted) t.next fits.some
    (subst (λ n. n ≤ t.next - 1) (length-xids t.aborted) (subst (λ n. length (xids_in t.aborted) ≤ n) (length-numbers 1 (t.next - 1))
    (apart_fit (xids_in t.aborted) (numbers 1 (t.next - 1)) (apart t.aborted fits.aborted_once) (λ x in_.
    let its = fits.aborted x (among_in x t.aborted in_) in number_among x 1 (t.next - 1) its.0 (omega (arith, its.0, its.1))))))
  where
    below : (n m : ℕ) → 1 ≤ m → n ≤ m - 1 → n < m
    below n m some le = omega (arith, some, le)

pub none_behind : (t : Tables) (n : ℕ) → XidsFit t → t.next ≤ n + 1 → None ≡ aborted_from (n + 1) t
none_behind t n fits le = sym (ap (λ b. cond b (Some (Aborted (n + 1))) None) (le-ltb (n + 1) (length t.aborted) (omega (arith, few_aborted t fits))))
