-- Records that were seen in their places.
use Rattle.std.proofs.Common.{◌≡◌, ⊎_elim, ℕ, zero, suc, ◌+◌, ◌-◌, ◌<◌, ◌≤◌, Bool, false, List, [], ◌∷◌, ◌++◌, length, take, Option, Some, None, Ok, Err, slice_get, nat_lt, if◌then◌else◌, refl, sym, ◌∙◌, ap, subst, arith, length-append}
use Rattle.std.proofs.lemmas.List.{take-append-le, take_all, map-append}
use Rattle.std.proofs.lemmas.Option.{slice_get_within}
use Rattle.std.proofs.lemmas.Bool.{cases_lt, ltb-true}
use Rattle.ctr_disk.specs.declared.disk.Disk.{Ghosts}
use Rattle.ctr_base.specs.log_Kept.{kept_log}
use Rattle.ctr_base.specs.log_Visit.{Visit}
use Rattle.ctr_base.specs.log_Visits.{visit_bytes, AreNumbered}
use Rattle.ctr_base.proofs.log_VisitLaws.{bytes-append}
use Rattle.ctr_rec.specs.declared.record.Overlay.{Overlay}
use Rattle.ctr_rec.specs.declared.record.Record.{Record}
use Rattle.ctr_rec.specs.Read.{record_in}
use Rattle.ctr_rec.proofs.ReadBack.{record_read}
use Rattle.ctr_rec.specs.Damage.{wrong}
use Rattle.ctr_base.specs.meta_Effects.{effect, tables_of}
use Rattle.ctr_base.specs.meta_Tables.{Tables}
use Rattle.ctr_base.specs.redo_Overlaid.{overlay_of}
use Rattle.ctr_base.specs.redo_Images.{records_in}
use Rattle.ctr_base.proofs.redo_PageLaws.{either}
use Rattle.ctr_base.proofs.redo_StateLaws.{tables-push}
use Rattle.ctr_base.specs.declared.base.Base.{Base}
use Rattle.ctr_store.specs.Redo.{IsNextRecord}
use Rattle.ctr_base.specs.redo_Fitting.{LiesInside}
use Rattle.ctr_store.specs.RecordChecks.{overlay_page_check, PassesAs, AllPass, tables_seen}

-- the record of a visit stands where the visit does
pub get_record : (vs : List Visit) (i : ℕ) (v : Visit) → slice_get vs i ≡ Some v → slice_get (records_in (visit_bytes vs)) i ≡ Some (record_in v.bytes)
get_record [] i v is = absurd (cc is)
get_record (x ∷ vs) zero v is = let same : x ≡ v = cc is in ap (λ (y : Visit). Some (record_in y.bytes)) same
get_record (x ∷ vs) (suc i) v is = get_record vs i v is

-- and has its number
pub get_number : (vs : List Visit) (first i : ℕ) (v : Visit) → AreNumbered first vs → slice_get vs i ≡ Some v → v.lsn ≡ first + i
get_number [] first i v numbers is = absurd (cc is)
get_number (x ∷ vs) first zero v numbers is = let same : x ≡ v = cc is in let n = numbers.0 in omega (arith, n, ap (λ (y : Visit). y.lsn) same)
get_number (x ∷ vs) first (suc i) v numbers is = let n = get_number vs (first + 1) i v numbers.1 is in omega (arith, n)

pub length_seen : (vs : List Visit) → length (records_in (visit_bytes vs)) ≡ length vs
length_seen [] = refl
length_seen (x ∷ vs) = ap suc (length_seen vs)

-- an overlay that passes lies on a counted page
pub counted_in : (pages len : ℕ) (o : Option Overlay) → overlay_page_check pages len o ≡ Ok tt → LiesInside pages o
counted_in pages len None is = tt
counted_in pages len (Some o) is = ⊎_elim (λ w. ltb-true o.page pages w) (λ w. absurd (none w)) (either (nat_lt o.page pages))
  where
    none : nat_lt o.page pages ≡ false → ⊥
    none w =
        let refused : overlay_page_check pages len (Some o) ≡ Err (wrong (len - length o.bytes - 9) (pages - 1) o.page) =
        ap (λ (b : Bool). if b then Ok tt else Err (wrong (len - length o.bytes - 9) (pages - 1) o.page)) w in
        absurd (cc (refused, is))

-- the tables with a record more
pub tables_more : (vs : List Visit) (v : Visit) (r : Record) → record_in v.bytes ≡ r → tables_seen (vs ++ v ∷ []) ≡ effect r (tables_seen vs)
tables_more vs v r is =
    ap (λ (l : List (List ℕ)). tables_of (records_in l)) (bytes-append vs (v ∷ [])) ∙ ap tables_of (map-append record_in (visit_bytes vs) (v.bytes ∷ []))
    ∙ ap (λ (x : Record). tables_of (records_in (visit_bytes vs) ++ x ∷ [])) is ∙ tables-push (records_in (visit_bytes vs)) r

-- a record that passed is the one that its bytes tell
pub passed_is : {pages at : ℕ} {t : Tables} {bytes : List ℕ} (r : Record) → PassesAs pages at t bytes r → record_in bytes ≡ r
passed_is r passes = ap record_in (sym passes.bytes_are) ∙ record_read r passes.logged.record_is

get_front : (vs : List Visit) (w : Visit) (i : ℕ) → i < length vs → slice_get (vs ++ w ∷ []) i ≡ slice_get vs i
get_front [] w i inside = absurd (omega (arith, inside))
get_front (x ∷ vs) w zero inside = refl
get_front (x ∷ vs) w (suc i) inside = get_front vs w i (omega (arith, inside))

get_last : (vs : List Visit) (w : Visit) → slice_get (vs ++ w ∷ []) (length vs) ≡ Some w
get_last [] w = refl
get_last (x ∷ vs) w = get_last vs w

-- a visit more passes behind those that passed
pub passed_more : (pages : ℕ) (vs : List Visit) (w : Visit) → AllPass pages vs → (r : Record) → PassesAs pages w.at (tables_seen vs) w.bytes r → AllPass pages (vs ++ w ∷ [])
passed_more pages vs w passed r passes i v is = ⊎_elim front last (cases_lt i (length vs))
  where
    front : i < length vs → (s : Record) × PassesAs pages v.at (tables_seen (take i (vs ++ w ∷ []))) v.bytes s
    front inside = subst (λ (l : List Visit). (s : Record) × PassesAs pages v.at (tables_seen l) v.bytes s) (sym (take-append-le i vs (w ∷ []) (omega (arith, inside)))) (passed i v (sym (get_front vs w i inside) ∙ is))

    last : length vs ≤ i → (s : Record) × PassesAs pages v.at (tables_seen (take i (vs ++ w ∷ []))) v.bytes s
    last behind =
        let within = slice_get_within (vs ++ w ∷ []) i v is in
        let at : i ≡ length vs = omega (arith, behind, within, length-append vs (w ∷ [])) in
        let some : Some w ≡ Some v = sym (get_last vs w) ∙ ap (slice_get (vs ++ w ∷ [])) (sym at) ∙ is in
        let same : w ≡ v = cc some in
        let whole : take i (vs ++ w ∷ []) ≡ vs = take-append-le i vs (w ∷ []) (omega (arith, at)) ∙ take_all i vs (omega (arith, at)) in
        (r, subst (λ (l : List Visit). PassesAs pages v.at (tables_seen l) v.bytes r) (sym whole) (subst (λ (x : Visit). PassesAs pages x.at (tables_seen vs) x.bytes r) same passes))

-- the record behind the first ones of the log
pub next_seen : {D O : Type 0} (g : Ghosts D) (start : Base D O) (vs : List Visit) (i : ℕ) (v : Visit) → slice_get vs i ≡ Some v → visit_bytes vs ≡ kept_log start.root.file start.root.first (g.reads start.disk)
    → (pages : ℕ) → pages ≡ start.root.pages → (t : Tables) (r : Record) → PassesAs pages v.at t v.bytes r → IsNextRecord g start i r
next_seen g start vs i v is records pages same t r passes = record {
  there = ap (λ (l : List (List ℕ)). slice_get (records_in l) i) (sym records) ∙ get_record vs i v is ∙ ap Some (passed_is r passes);
  counted = subst (λ (n : ℕ). LiesInside n (overlay_of r)) same (counted_in pages (length v.bytes) (overlay_of r) passes.counted);
}

-- the tables are those of all records
pub tables_all : (vs : List Visit) (rs : List Record) (n : ℕ) → records_in (visit_bytes vs) ≡ rs → n ≡ length rs → tables_seen vs ≡ tables_of (take n rs)
tables_all vs rs n records whole = ap tables_of (records ∙ sym (take_all n rs (omega (arith, whole))))
