-- A page with its header and zeros passes its checks, by whatever columns it is read.
use Rattle.std.proofs.Common.{◌≡◌, ℕ, ◌+◌, ◌-◌, ◌^◌, ◌≤◌, ◌<◌, cond, List, ◌++◌, length, drop, replicate, Ok, Err, refl, sym, ◌∙◌, ap, subst, arith}
use Rattle.std.specs.Prelude.{◌==◌}
use Rattle.std.proofs.lemmas.Bool.{eq-eqb}
use Rattle.ctr_types.specs.declared.value.Kind.{Kind}
use Rattle.ctr_bytes.specs.Fields.{spelled, field}
use Rattle.ctr_bytes.proofs.FieldLaws.{length-spelled, got_byte}
use Rattle.ctr_actions.specs.rec_Damage.{wrong, expect, at_most}
use Rattle.ctr_actions.specs.page_Chain.{Chain}
use Rattle.ctr_actions.specs.page_Chain.TheVariants.{Rows, Versions}
use Rattle.ctr_actions.specs.page_Header.{Header}
use Rattle.ctr_actions.specs.page_Reading.{put_over, header_in}
use Rattle.ctr_actions.specs.page_Making.{header_bytes, IsHeader}
use Rattle.ctr_actions.specs.page_Columns.{slot_start, kept_start}
use Rattle.ctr_actions.specs.page_Damage.{chain_kind, chain_entry, chain_bucket, counted_check, header_check, used_slot_check, used_kept_check, slot_check, kept_check}
use Rattle.ctr_actions.proofs.page_Back.{header_back, length-more}
use Rattle.ctr_actions.specs.area_Areas.{Area}
use Rattle.ctr_actions.specs.area_Checked.{Passes, kinds_at}
use Rattle.ctr_actions.proofs.area_Bytes.{zero_at, byte_after}
use Rattle.ctr_actions.specs.record_laws_Owed.{rows_header, versions_header}
use Rattle.ctr_passed.specs.Laid.{RowsPagePasses, OlderPagePasses}
use Rattle.ctr_passed.proofs.Entries.{both_pass, most_passes}

-- a number is the one that is wanted
expected : (at want got : ℕ) → want ≡ got → expect at want got ≡ Ok tt
expected at want got is = ap (λ b. cond b (Ok tt) (Err (wrong at want got))) (eq-eqb want got is)

-- what isn't used
pub unused_slot_passes : (kinds : List Kind) (counted start : ℕ) (page : List ℕ) → field 1 start page ≡ 0 → slot_check kinds counted start page ≡ Ok tt
unfolding slot_check
unused_slot_passes kinds counted start page none =
    ap (λ n. cond (n == 1) (used_slot_check kinds counted start page) (at_most start 1 n)) none ∙ most_passes start 1 0 (omega arith)

pub unused_older_passes : (kinds : List Kind) (counted start : ℕ) (page : List ℕ) → field 1 start page ≡ 0 → kept_check kinds counted start page ≡ Ok tt
unfolding kept_check
unused_older_passes kinds counted start page none =
    ap (λ n. cond (n == 1) (used_kept_check kinds counted start page) (at_most start 1 n)) none ∙ most_passes start 1 0 (omega arith)

module _ (h : Header) (fits : IsHeader h) where
  abbrev blank : List ℕ
  blank = put_over 0 (header_bytes h) (replicate 4096 0)

  read : header_in blank ≡ h
  read = header_back h blank fits (drop (0 + length (header_bytes h)) (replicate 4096 0), refl)

  length-header : length (header_bytes h) ≡ 16
  length-header =
      let a = spelled 1 h.kind in
      let b = a ++ spelled 1 h.entry in
      let c = b ++ spelled 1 h.bucket in
      let d = c ++ spelled 1 0 in
      omega (arith, length-spelled 1 h.kind, length-more 1 h.entry a, length-more 1 h.bucket b, length-more 1 0 c, length-more 4 h.next d, length-more 8 0 (d ++ spelled 4 h.next))

  pub zero_behind : (start : ℕ) → 16 ≤ start → field 1 start blank ≡ 0
  zero_behind start behind =
      sym (got_byte start blank) ∙ byte_after start 0 (header_bytes h) (replicate 4096 0) (omega (arith, length-header, behind)) (omega arith) ∙ zero_at 4096 start

  pub header_passes : (chain : Chain) (counted : ℕ) → chain_kind chain ≡ h.kind → chain_entry chain ≡ h.entry → chain_bucket chain ≡ h.bucket → h.next ≤ counted - 1 → header_check chain counted blank ≡ Ok tt
  unfolding header_check counted_check
  header_passes chain counted kind entry bucket next =
      both_pass (expect 0 (chain_kind chain) (field 1 0 blank)) _ (expected 0 (chain_kind chain) (field 1 0 blank) (kind ∙ sym (ap (λ (x : Header). x.kind) read)))
      (both_pass (expect 1 (chain_entry chain) (field 1 1 blank)) _ (expected 1 (chain_entry chain) (field 1 1 blank) (entry ∙ sym (ap (λ (x : Header). x.entry) read)))
      (both_pass (expect 2 (chain_bucket chain) (field 1 2 blank)) (at_most 4 (counted - 1) (field 4 4 blank)) (expected 2 (chain_bucket chain) (field 1 2 blank) (bucket ∙ sym (ap (λ (x : Header). x.bucket) read)))
      (most_passes 4 (counted - 1) (field 4 4 blank) (subst (λ n. n ≤ counted - 1) (sym (ap (λ (x : Header). x.next) read)) next))))

-- ---- of a chain

pub blank_rows : (counted : ℕ) (area : Area) (pages : ℕ → List ℕ) (e b p next : ℕ) → e < 256 → b < 256 → next < 256 ^ 4 → next ≤ counted - 1
    → pages p ≡ put_over 0 (header_bytes (rows_header e b next)) (replicate 4096 0) → RowsPagePasses counted area pages e b p
blank_rows counted area pages e b p next entry bucket small le is =
    let h = rows_header e b next in
    let fits : IsHeader h = (omega arith, entry, bucket, small) in
    record {
      header = subst (λ (bs : List ℕ). Passes (header_check (Rows e b) counted bs)) (sym is) (header_passes h fits (Rows e b) counted refl refl refl le);
      slots = λ n lt. subst (λ (bs : List ℕ). Passes (slot_check (kinds_at area e) counted (slot_start (kinds_at area e) n) bs)) (sym is)
          (unused_slot_passes (kinds_at area e) counted (slot_start (kinds_at area e) n) (blank h fits) (zero_behind h fits (slot_start (kinds_at area e) n) (omega arith)));
    }

pub blank_versions : (counted : ℕ) (area : Area) (pages : ℕ → List ℕ) (e p next : ℕ) → e < 256 → next < 256 ^ 4 → next ≤ counted - 1
    → pages p ≡ put_over 0 (header_bytes (versions_header e next)) (replicate 4096 0) → OlderPagePasses counted area pages e p
blank_versions counted area pages e p next entry small le is =
    let h = versions_header e next in
    let fits : IsHeader h = (omega arith, entry, omega arith, small) in
    record {
      header = subst (λ (bs : List ℕ). Passes (header_check (Versions e) counted bs)) (sym is) (header_passes h fits (Versions e) counted refl refl refl le);
      older = λ n lt. subst (λ (bs : List ℕ). Passes (kept_check (kinds_at area e) counted (kept_start (kinds_at area e) n) bs)) (sym is)
          (unused_older_passes (kinds_at area e) counted (kept_start (kinds_at area e) n) (blank h fits) (zero_behind h fits (kept_start (kinds_at area e) n) (omega arith)));
    }
