-- Pages of zeros: no entry of the catalog is used, no page is in a chain, and no transaction has left
-- anything.
use Rattle.std.proofs.Common.{◌≡◌, ⊎_elim, inl, ℕ, zero, suc, ◌+◌, ◌*◌, ◌/◌, ◌%◌, ◌^◌, ◌<◌, ◌≤◌, Bool, true, false, cond, List, [], ◌∷◌, ◌++◌, length, map, drop, replicate, slice_index, length-append, refl, sym, ◌∙◌, ap, subst, arith}
use Rattle.std.specs.Prelude.{◌==◌, ◌&&◌, not, nat_lt}
use Rattle.std.specs.FinMap.Entries.{put}
use Rattle.std.specs.List.{flat_map, AllByRecursion}
use Rattle.std.proofs.Math.Nat.{zero-div}
use Rattle.std.proofs.lemmas.Bool.{false≢true}
use Rattle.std.proofs.lemmas.List.{get_or-take, get_or-drop}
use Rattle.ctr_versions.proofs.Keys.{known}
use Rattle.ctr_page.specs.ctr_rec.declared.record.SlogItem.{SlogItem}
use Rattle.ctr_page.specs.ctr_rec.declared.record.SlogItem.TheVariants.{CreateOf}
use Rattle.ctr_versions.specs.ctr_model.Database.{name_cmp}
use Rattle.ctr_page.proofs.bytes_FieldLaws.{got_byte}
use Rattle.ctr_meta.specs.Tables.{no_tables}
use Rattle.ctr_page.specs.declared.header.Header.{Header}
use Rattle.ctr_page.specs.declared.rows.Place.{Place}
use Rattle.ctr_page.specs.Reading.{piece}
use Rattle.ctr_area.proofs.Bytes.{zero_at}
use Rattle.ctr_area.specs.Areas.{Firsts, no_pages, Area}
use Rattle.ctr_page.specs.Columns.{first_in, versions_first_in}
use Rattle.ctr_area.specs.Reading.{entry_bytes, bucket_numbers, area_of}
use Rattle.ctr_area.specs.Chains.{pages_bound, pages_from, places_from, places_on, slot_places, older_places, table_pages}
use Rattle.ctr_area.specs.Images.{new_pages, is_live, entry_numbers, table_in, tables_standing, image_rows}
use Rattle.ctr_area.specs.Sound.{IsAmong, IsUsedSlot, how_many, EndsIn, AreBuckets, IsOfVersions, owned_pages, IsSoundArea, IsBare}

-- ---- bytes

zero_in : (e : ℕ) → slice_index (entry_bytes new_pages e) 0 ≡ 0
zero_in e = known (nat_lt e 32)
    (λ lt. ap (λ b. slice_index (cond b (piece (256 * (e % 16)) 256 (replicate 4096 0)) []) 0) lt
    ∙ get_or-take 256 (drop (256 * (e % 16)) (replicate 4096 0)) 0 0 (omega arith) ∙ get_or-drop (256 * (e % 16)) (replicate 4096 0) 0 0 ∙ zero_at 4096 (256 * (e % 16) + 0))
    (λ ge. ap (λ b. slice_index (cond b (piece (256 * (e % 16)) 256 (replicate 4096 0)) []) 0) ge)

abbrev fresh : Area
fresh = area_of new_pages

state_zero : (e : ℕ) → (fresh.title e).state ≡ 0
state_zero e = sym (got_byte 0 (entry_bytes new_pages e)) ∙ zero_in e

firsts_none : (e : ℕ) → fresh.firsts e ≡ no_pages
firsts_none e = ap (λ (n : ℕ). cond (n == 0) no_pages (used (entry_bytes new_pages e))) (state_zero e)
  where
    used : List ℕ → Firsts
    used bytes = record { buckets = map (λ b. first_in b bytes) bucket_numbers; versions = versions_first_in bytes }

not_taken : (p : ℕ) → fresh.taken p ≡ false
not_taken p = ap (λ (b : ℕ). b / 2 ^ (p % 8) % 2 == 1) (zero_at 4096 (p / 8)) ∙ none (2 ^ (p % 8))
  where
    none : (n : ℕ) → (0 / n % 2 == 1) ≡ false
    none n = ap (λ (b : ℕ). b % 2 == 1) (zero-div n)

-- ---- chains

no_pages_from : (n : ℕ) (header : ℕ → Header) → pages_from n header 0 ≡ []
no_pages_from zero header = refl
no_pages_from (suc n) header = refl

no_places_from : (area : Area) → places_from area 0 ≡ []
no_places_from area = ap (flat_map (λ q. places_on q 0 (area.room q))) (no_pages_from pages_bound area.header)

no_slots : (e : ℕ) → slot_places fresh e ≡ []
no_slots e = ap (λ (f : Firsts). flat_map (places_from fresh) f.buckets) (firsts_none e)

no_older : (e : ℕ) → older_places fresh e ≡ []
no_older e = ap (λ (f : Firsts). places_from fresh f.versions) (firsts_none e) ∙ no_places_from fresh

no_table_pages : (e : ℕ) → table_pages fresh e ≡ []
no_table_pages e =
    ap (λ (f : Firsts). flat_map (pages_from pages_bound fresh.header) f.buckets ++ pages_from pages_bound fresh.header f.versions) (firsts_none e) ∙ no_pages_from pages_bound fresh.header

no_pages_of : (es : List ℕ) → flat_map (table_pages fresh) es ≡ []
no_pages_of [] = refl
no_pages_of (e ∷ es) = (λ i. no_table_pages e i ++ no_pages_of es i)

none_owned : owned_pages [] fresh ≡ []
none_owned = ap (λ (ps : List ℕ). ps ++ []) (no_pages_of entry_numbers)

unused : (e : ℕ) (at : Place) → IsUsedSlot fresh e at → ⊥
unused e at used = subst (IsAmong at) (no_slots e) used.0

not_older : (e : ℕ) (at : Place) → IsAmong at (older_places fresh e) → ⊥
not_older e at among = subst (IsAmong at) (no_older e) among

not_live : (e : ℕ) → is_live (fresh.title e) ≡ true → ⊥
not_live e live = false≢true (sym (ap (λ (n : ℕ). n == 1) (state_zero e)) ∙ live)

ends_none : (header : ℕ → Header) (Is : Header → Type 0) → EndsIn pages_bound header Is 0
ends_none header Is = (
  subst (AllByRecursion (λ q. Is (header q))) (sym (no_pages_from pages_bound header)) tt,
  no_pages_from (pages_bound + 1) header ∙ sym (no_pages_from pages_bound header),
)

-- ---- sound

pub fresh_sound : (counted : ℕ) → IsSoundArea counted no_tables (area_of new_pages)
fresh_sound counted = record {
  readable = record {
    rows = λ e. subst (λ (f : Firsts). AreBuckets fresh e 0 f.buckets) (sym (firsts_none e)) tt;
    versions = λ e. subst (λ (f : Firsts). EndsIn pages_bound fresh.header (IsOfVersions e) f.versions) (sym (firsts_none e)) (ends_none fresh.header (IsOfVersions e));
  };
  behind = λ e at used. absurd (unused e at used);
  counts = tt;
  owned = record {
    once = λ p third few. ap (how_many (λ q. q == p)) none_owned ∙ sym (ap (λ b. cond b 1 0) (not_taken p));
    inside = subst (AllByRecursion (λ p. (3 ≤ p) × (p < counted) × (fresh.taken p ≡ true))) (sym none_owned) tt;
    uncounted = λ p many. not_taken p;
    allocs = λ x p h. absurd h;
    creates = λ x e h. absurd h;
    drops = λ x e h. absurd h;
  };
  keys = record {
    once = λ e a b used other same. absurd (unused e a used);
    bucket = λ e at used. absurd (unused e at used);
  };
  pointers = record {
    lead = λ e at used. absurd (unused e at used);
    apart = λ e f a b q used other h k. absurd (unused e a used);
  };
  names = record {
    creators = λ e lt live. absurd (not_live e live);
    droppers = λ e lt live. absurd (not_live e live);
    creates = λ x e h. absurd h;
    drops = λ x e h. absurd h;
    once = λ e. (omega arith, omega arith);
    in_order = λ front rest x y e is h. nothing front rest x e is;
    of_one = λ x y e f h k same. absurd (⊎_elim (λ a. a) (λ b. b) h);
    undoing = λ x k h. absurd h;
    standing = λ e f lt less live. absurd (not_live e live);
  };
  below = record {
    slots = λ e at used. absurd (unused e at used);
    older = λ e at among used. absurd (not_older e at among);
    entries = λ e. inl (state_zero e);
    drawn = tt;
    once = tt;
  };
}
  where
    nothing : (front rest : List SlogItem) (x e : ℕ) → [] ≡ front ++ CreateOf x e ∷ rest → ⊥
    nothing front rest x e is = omega (arith, ap length is, length-append front (CreateOf x e ∷ rest))

pub fresh_bare : IsBare no_tables (area_of new_pages)
fresh_bare = record {
  slots = λ e at live used. absurd (unused e at used);
  older = λ e at among. absurd (not_older e at among);
  aborted = refl;
  entries = λ e two. omega (arith, two, state_zero e);
}

none_stand : (committed : ℕ → Bool) (es : List ℕ) → tables_standing committed fresh es ≡ []
none_stand committed [] = refl
none_stand committed (e ∷ es) = known (is_live (fresh.title e))
    (λ live. absurd (not_live e live))
    (λ dead. ap (λ b. cond (b && (committed (fresh.title e).creator && not (committed (fresh.title e).dropper))) (put name_cmp (fresh.title e).name (table_in committed fresh e) (tables_standing committed fresh es)) (tables_standing committed fresh es)) dead
    ∙ none_stand committed es)

pub fresh_rows : (committed : ℕ → Bool) → image_rows committed (area_of new_pages) ≡ []
fresh_rows committed = none_stand committed entry_numbers
