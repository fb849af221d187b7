-- What passes the checks is spelled so.
use Rattle.std.proofs.Common.{◌≡◌, ◌≢◌, ℕ, zero, suc, ◌+◌, ◌<◌, ◌≤◌, Bool, true, false, cond, eqb, ltb, List, ◌++◌, length, take, drop, None, Some, Result, Ok, Err, refl, sym, ap, subst, ◌∙◌, length-drop, take-append-drop, arith, inl, inr}
use Rattle.std.proofs.lemmas.Bool.{cases_Bool, ltb-true, ltb-false, lt-ltb, eqb-true, eqb-false, eq-eqb, ne_eqb}
use Rattle.std.proofs.lemmas.List.{take_all}
use Rattle.ctr_bytes.specs.Fields.{spelled, field}
use Rattle.ctr_bytes.proofs.FieldLaws.{AreBytes, field_fits}
use Rattle.ctr_rec.specs.declared.decoding.BadRecord.{BadRecord}
use Rattle.ctr_rec.specs.declared.table.Field.{Field}
use Rattle.ctr_rec.specs.declared.table.Layout.{Layout}
use Rattle.ctr_rec.specs.declared.table.Tag.{Tag}
use Rattle.ctr_rec.specs.declared.table.Tag.TheVariants as tag
use Rattle.ctr_rec.specs.declared.record.Overlay.{Overlay}
use Rattle.ctr_rec.specs.declared.record.Parts.{Parts}
use Rattle.ctr_rec.specs.Table.{bytes_of_field, most, layout, flag_at}
use Rattle.ctr_rec.specs.Parts.{flag_of, OverlayFits, PartsFit}
use Rattle.ctr_rec.specs.Spelling.{field_bytes, place_bytes, with_overlay, parts_bytes}
use Rattle.ctr_bytes.specs.Following.{◌>>=◌}
use Rattle.ctr_rec.specs.Damage.{wrong, expect, flag_check, inside_check, overlay_check, length_wanted, overlay_in, at_most, bound_check, checks}
use Rattle.ctr_rec.specs.Read.{parts_read}
use Rattle.ctr_rec.proofs.Laws.{grow}

-- the value of a step that did not fail
pub bind_ok : {A B : Type 0} (r : Result A BadRecord) (f : A → Result B BadRecord) (y : B) → (r >>= f) ≡ Ok y → (x : A) × (r ≡ Ok x) × (f x ≡ Ok y)
bind_ok (Ok x) f y e = (x, refl, e)
bind_ok (Err d) f y e = absurd cc

-- a test that did not fail
pub guard_ok : {A : Type 0} (b : Bool) (d : BadRecord) (r : Result A BadRecord) (y : A) → cond b (Err d) r ≡ Ok y → (b ≡ false) × (r ≡ Ok y)
guard_ok true d r y e = absurd cc
guard_ok false d r y e = (refl, e)

pub expect_ok : (at want got : ℕ) → expect at want got ≡ Ok tt → want ≡ got
expect_ok at want got e =
    elim (cases_Bool (eqb want got)) [
      | inl t ↦ eqb-true _ _ t
      | inr f ↦ absurd (let g : Err (wrong at want got) ≡ Ok tt = ap (λ (b : Bool). cond b (Ok tt) (Err (wrong at want got))) (sym f) ∙ e in cc)
    ]

-- what the checks say where they pass
pub record Passed (l : Layout) (bytes : List ℕ) : Type 0 where
  pub flag : flag_check l bytes ≡ Ok tt
  pub overlay : overlay_check l bytes ≡ Ok tt
  pub whole : length_wanted l bytes ≡ length bytes
  pub first : bound_check l.first 1 bytes ≡ Ok tt
  pub second : bound_check l.second (1 + bytes_of_field l.first) bytes ≡ Ok tt

pub passed : (l : Layout) (bytes : List ℕ) → checks l bytes ≡ Ok tt → Passed l bytes
unfolding checks
passed l bytes e =
    let b1 = bind_ok (flag_check l bytes) (λ _. overlay_check l bytes >>= λ _. expect 0 (length_wanted l bytes) (length bytes) >>= λ _. bound_check l.first 1 bytes >>= λ _. bound_check l.second (1 + bytes_of_field l.first) bytes) tt e in
    let b2 = bind_ok (overlay_check l bytes) (λ _. expect 0 (length_wanted l bytes) (length bytes) >>= λ _. bound_check l.first 1 bytes >>= λ _. bound_check l.second (1 + bytes_of_field l.first) bytes) tt b1.2 in
    let b3 = bind_ok (expect 0 (length_wanted l bytes) (length bytes)) (λ _. bound_check l.first 1 bytes >>= λ _. bound_check l.second (1 + bytes_of_field l.first) bytes) tt b2.2 in
    let b4 = bind_ok (bound_check l.first 1 bytes) (λ _. bound_check l.second (1 + bytes_of_field l.first) bytes) tt b3.2 in
    record { flag = b1.1; overlay = b2.1; whole = expect_ok 0 (length_wanted l bytes) (length bytes) b3.1; first = b4.1; second = b4.2 }

-- the flag stands before the end of what is wanted
pub wanted-flag : (l : Layout) (bytes : List ℕ) → flag_at l < length_wanted l bytes
unfolding length_wanted
wanted-flag l bytes = wanted (eqb l.flag 0) (ltb (length bytes) (flag_at l + 9))
  where
    wanted : (a b : Bool) → flag_at l < cond a (flag_at l + 1) (cond b (flag_at l + 10) (flag_at l + 9 + field 2 (flag_at l + 7) bytes))
    wanted true b = omega arith
    wanted false true = omega arith
    wanted false false = omega arith

pub bound_ok : (f : Field) (at : ℕ) (bytes : List ℕ) → bound_check f at bytes ≡ Ok tt → field (bytes_of_field f) at bytes ≤ most f
unfolding bound_check at_most
bound_ok f at bytes e = ltb-false _ _ (guard_ok (ltb (most f) (field (bytes_of_field f) at bytes)) (wrong at (most f) (field (bytes_of_field f) at bytes)) (Ok tt) tt e).0

pub flag_ok : (l : Layout) (bytes : List ℕ) → flag_at l < length bytes → flag_check l bytes ≡ Ok tt → l.flag ≡ field 1 (flag_at l) bytes
unfolding flag_check
flag_ok l bytes lt e =
    expect_ok (flag_at l) l.flag (field 1 (flag_at l) bytes) (ap (λ (b : Bool). cond b (expect (flag_at l) l.flag (field 1 (flag_at l) bytes)) (Ok tt)) (sym (lt-ltb _ _ lt)) ∙ e)

-- an overlay that passes: its length is that of the rest, at least 1, inside the page
pub record Lies (l : Layout) (bytes : List ℕ) : Type 0 where
  pub long : flag_at l + 9 ≤ length bytes
  pub rest : flag_at l + 9 + field 2 (flag_at l + 7) bytes ≡ length bytes
  pub some : 1 ≤ field 2 (flag_at l + 7) bytes
  pub inside : field 2 (flag_at l + 5) bytes + field 2 (flag_at l + 7) bytes ≤ 4096

inside_ok : (at offset len : ℕ) → inside_check at offset len ≡ Ok tt → (offset + len ≤ 4096) × (1 ≤ len)
unfolding inside_check
inside_ok at offset len e =
    let g = guard_ok (ltb 4096 (offset + len)) (wrong at 4096 (offset + len)) (cond (eqb len 0) (Err (wrong at 1 0)) (Ok tt)) tt e in
    let h = guard_ok (eqb len 0) (wrong at 1 0) (Ok tt) tt g.1 in
    (ltb-false _ _ g.0, let ne : len ≢ 0 = eqb-false _ _ h.0 in omega (arith, ne))

pub lies : (l : Layout) (bytes : List ℕ) → l.flag ≢ 0 → overlay_check l bytes ≡ Ok tt → length_wanted l bytes ≡ length bytes → Lies l bytes
unfolding overlay_check length_wanted
lies l bytes ne checked whole =
    let some : eqb l.flag 0 ≡ false = ne_eqb l.flag 0 ne in
    let inner = ap (λ (b : Bool). cond b (Ok tt) (cond (ltb (length bytes) (flag_at l + 9)) (Ok tt) (inside_check (flag_at l) (field 2 (flag_at l + 5) bytes) (field 2 (flag_at l + 7) bytes)))) (sym some) ∙ checked in
    let wanted = ap (λ (b : Bool). cond b (flag_at l + 1) (cond (ltb (length bytes) (flag_at l + 9)) (flag_at l + 10) (flag_at l + 9 + field 2 (flag_at l + 7) bytes))) (sym some) ∙ whole in
    elim (cases_Bool (ltb (length bytes) (flag_at l + 9))) [
      | inl t ↦ absurd (
          let lt = ltb-true _ _ t in
          let ten : flag_at l + 10 ≡ length bytes = ap (λ (b : Bool). cond b (flag_at l + 10) (flag_at l + 9 + field 2 (flag_at l + 7) bytes)) (sym t) ∙ wanted in
          omega (arith, lt, ten))
      | inr f ↦
          let g = inside_ok (flag_at l) (field 2 (flag_at l + 5) bytes) (field 2 (flag_at l + 7) bytes) (ap (λ (b : Bool). cond b (Ok tt) (inside_check (flag_at l) (field 2 (flag_at l + 5) bytes) (field 2 (flag_at l + 7) bytes))) (sym f) ∙ inner) in
          record { long = ltb-false _ _ f; rest = ap (λ (b : Bool). cond b (flag_at l + 10) (flag_at l + 9 + field 2 (flag_at l + 7) bytes)) (sym f) ∙ wanted; some = g.1; inside = g.0 }
    ]

-- where there is no overlay the flag is the last byte
pub plain_ok : (l : Layout) (bytes : List ℕ) → l.flag ≡ 0 → length_wanted l bytes ≡ length bytes → flag_at l + 1 ≡ length bytes
unfolding length_wanted
plain_ok l bytes none whole =
    ap (λ (b : Bool). cond b (flag_at l + 1) (cond (ltb (length bytes) (flag_at l + 9)) (flag_at l + 10) (flag_at l + 9 + field 2 (flag_at l + 7) bytes))) (sym (eq-eqb _ _ none)) ∙ whole

-- ---- the parts in bytes

flags : (t : Tag) → (layout t).flag ≤ 2
flags tag.Begin = omega arith
flags tag.Commit = omega arith
flags tag.Abort = omega arith
flags tag.Forget = omega arith
flags tag.Alloc = omega arith
flags tag.Format = omega arith
flags tag.Link = omega arith
flags tag.Free = omega arith
flags tag.Unlink = omega arith
flags tag.Create = omega arith
flags tag.Uncreate = omega arith
flags tag.Drop = omega arith
flags tag.Undrop = omega arith
flags tag.Row = omega arith
flags tag.Keep = omega arith
flags tag.Revert = omega arith
flags tag.Trim = omega arith

-- the overlay that is laid
abbrev pub laid_in : Layout → List ℕ → Overlay
laid_in l bytes = record {
  page = field 4 (flag_at l + 1) bytes;
  clear = eqb l.flag 2;
  offset = field 2 (flag_at l + 5) bytes;
  bytes = drop (flag_at l + 9) bytes;
}

pub in_none : (l : Layout) (bytes : List ℕ) → l.flag ≡ 0 → overlay_in l bytes ≡ None
unfolding overlay_in
in_none l bytes none = ap (λ (b : Bool). cond b None (Some (laid_in l bytes))) (eq-eqb _ _ none)

pub in_some : (l : Layout) (bytes : List ℕ) → eqb l.flag 0 ≡ false → overlay_in l bytes ≡ Some (laid_in l bytes)
unfolding overlay_in
in_some l bytes some = ap (λ (b : Bool). cond b None (Some (laid_in l bytes))) some

fields_back : (l : Layout) (bytes : List ℕ) → l.number ≡ field 1 0 bytes → flag_at l < length bytes → AreBytes bytes
    → field_bytes l (field (bytes_of_field l.first) 1 bytes) (field (bytes_of_field l.second) (1 + bytes_of_field l.first) bytes) ≡ take (flag_at l) bytes
fields_back l bytes number lt fits =
    let w1 = bytes_of_field l.first in
    let w2 = bytes_of_field l.second in
    ap (λ (n : ℕ). spelled 1 n ++ spelled w1 (field w1 1 bytes) ++ spelled w2 (field w2 (1 + w1) bytes)) number
    ∙ ap (λ (x : List ℕ). x ++ spelled w1 (field w1 1 bytes) ++ spelled w2 (field w2 (1 + w1) bytes)) (grow 1 0 1 bytes refl (omega (arith, lt)) fits)
    ∙ ap (λ (x : List ℕ). x ++ spelled w2 (field w2 (1 + w1) bytes)) (grow w1 1 (1 + w1) bytes refl (omega (arith, lt)) fits)
    ∙ grow w2 (1 + w1) (flag_at l) bytes refl (omega (arith, lt)) fits

overlay_back : (l : Layout) (bytes : List ℕ) → l.flag ≡ field 1 (flag_at l) bytes → Lies l bytes → AreBytes bytes
    → with_overlay (take (flag_at l) bytes) l.flag (Some (laid_in l bytes)) ≡ bytes
overlay_back l bytes flag lie fits =
    let f = flag_at l in
    let o = laid_in l bytes in
    let len : length o.bytes ≡ field 2 (f + 7) bytes = omega (arith, length-drop (f + 9) bytes, lie.rest, lie.long) in
    ap (λ (n : ℕ). place_bytes (take f bytes) n o ++ o.bytes) flag
    ∙ ap (λ (n : ℕ). (take f bytes ++ spelled 1 (field 1 f bytes) ++ spelled 4 o.page ++ spelled 2 o.offset ++ spelled 2 n) ++ o.bytes) len
    ∙ ap (λ (x : List ℕ). (x ++ spelled 4 o.page ++ spelled 2 o.offset ++ spelled 2 (field 2 (f + 7) bytes)) ++ o.bytes) (grow 1 f (f + 1) bytes refl (omega (arith, lie.long)) fits)
    ∙ ap (λ (x : List ℕ). (x ++ spelled 2 o.offset ++ spelled 2 (field 2 (f + 7) bytes)) ++ o.bytes) (grow 4 (f + 1) (f + 5) bytes (omega arith) (omega (arith, lie.long)) fits)
    ∙ ap (λ (x : List ℕ). (x ++ spelled 2 (field 2 (f + 7) bytes)) ++ o.bytes) (grow 2 (f + 5) (f + 7) bytes (omega arith) (omega (arith, lie.long)) fits)
    ∙ ap (λ (x : List ℕ). x ++ o.bytes) (grow 2 (f + 7) (f + 9) bytes (omega arith) (omega (arith, lie.long)) fits)
    ∙ take-append-drop (f + 9) bytes

plain_back : (l : Layout) (bytes : List ℕ) → l.flag ≡ field 1 (flag_at l) bytes → flag_at l + 1 ≡ length bytes → AreBytes bytes
    → with_overlay (take (flag_at l) bytes) l.flag None ≡ bytes
plain_back l bytes flag whole fits =
    ap (λ (n : ℕ). take (flag_at l) bytes ++ spelled 1 n) flag
    ∙ grow 1 (flag_at l) (flag_at l + 1) bytes refl (omega (arith, whole)) fits
    ∙ take_all (flag_at l + 1) bytes (omega (arith, whole))

flag_again : (n : ℕ) → n ≢ 0 → n ≤ 2 → n ≡ flag_of (eqb n 2)
flag_again zero ne le = absurd (ne refl)
flag_again (suc zero) ne le = refl
flag_again (suc (suc zero)) ne le = refl
flag_again (suc (suc (suc n))) ne le = absurd (omega (arith, le))

-- the parts in bytes that pass are of a record, and the bytes are theirs
pub read_back : (t : Tag) (bytes : List ℕ) → (layout t).number ≡ field 1 0 bytes → checks (layout t) bytes ≡ Ok tt → AreBytes bytes
    → PartsFit (parts_read t bytes) × (parts_bytes (parts_read t bytes) ≡ bytes)
read_back t bytes number checked fits =
    let l = layout t in
    let p = passed l bytes checked in
    let lt : flag_at l < length bytes = omega (arith, wanted-flag l bytes, p.whole) in
    let flag = flag_ok l bytes lt p.flag in
    let front = ap (λ (x : List ℕ). with_overlay x l.flag (overlay_in l bytes)) (fields_back l bytes number lt fits) in
    let first = bound_ok l.first 1 bytes p.first in
    let second = bound_ok l.second (1 + bytes_of_field l.first) bytes p.second in
    elim (cases_Bool (eqb l.flag 0)) [
      | inl y ↦
          let none : l.flag ≡ 0 = eqb-true _ _ y in
          let is = in_none l bytes none in (
            record { first = first; second = second; overlay = subst (OverlayFits l.flag) (sym is) none },
            front ∙ ap (with_overlay (take (flag_at l) bytes) l.flag) is ∙ plain_back l bytes flag (plain_ok l bytes none p.whole) fits,
          )
      | inr f ↦
          let ne : l.flag ≢ 0 = eqb-false _ _ f in
          let lie = lies l bytes ne p.overlay p.whole in
          let is = in_some l bytes f in
          let len : length (drop (flag_at l + 9) bytes) ≡ field 2 (flag_at l + 7) bytes = omega (arith, length-drop (flag_at l + 9) bytes, lie.rest, lie.long) in (
            record { first = first; second = second; overlay = subst (OverlayFits l.flag) (sym is) (flag_again l.flag ne (flags t), field_fits 4 (flag_at l + 1) bytes fits, omega (arith, len, lie.some), omega (arith, len, lie.inside)) },
            front ∙ ap (with_overlay (take (flag_at l) bytes) l.flag) is ∙ overlay_back l bytes flag lie fits,
          )
    ]
