-- Where no record waits.
use Rattle.std.proofs.Common.{◌≡◌, ℕ, ◌+◌, List, [], ◌∷◌, map, length, refl, sym, ◌∙◌, ap, arith}
use Rattle.std.proofs.lemmas.List.{length-append}
use Rattle.ctr_rec.specs.bytes_Fields.{spelled}
use Rattle.ctr_rec.proofs.bytes_FieldLaws.{length-spelled}
use Rattle.ctr_rec.specs.declared.record.Record.{Record}
use Rattle.ctr_rec.specs.Spelling.{record_bytes}
use Rattle.ctr_base.specs.log_Logs.{Log, frame, frames}
use Rattle.ctr_base.specs.redo_Images.{records_in}
use Rattle.ctr_store.specs.Parts.{HasBuffer}

-- frames of no byte are none
frames_none : (bs : List (List ℕ)) → length (frames bs) ≡ 0 → bs ≡ []
frames_none [] none = refl
frames_none (b ∷ bs) none = absurd (some (length (spelled 8 (length b))) (length b) (length (frames bs)) eight
    (sym (ap (λ n. n + length (frames bs)) (length-append (spelled 8 (length b)) b)) ∙ sym (length-append (frame b) (frames bs)) ∙ none))
  where
    eight : length (spelled 8 (length b)) ≡ 8
    eight = length-spelled 8 (length b)

    some : (x y z : ℕ) → x ≡ 8 → x + y + z ≡ 0 → ⊥
    some x y z is none = omega (arith, is, none)

pub none_waits : (log : Log) → length (frames log.buffered) ≡ 0 → records_in log.buffered ≡ []
none_waits log none = ap records_in (frames_none log.buffered none)

pub no_byte : (log : Log) → HasBuffer log → records_in log.buffered ≡ [] → length (frames log.buffered) ≡ 0
no_byte log has none = ap (λ (bs : List (List ℕ)). length (frames bs)) (sym has.spelled ∙ ap (λ (rs : List Record). map record_bytes rs) none)
