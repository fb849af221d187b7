-- A Checkpoint's bytes: what is spelled is found again, and what passes is spelled so.
use Rattle.std.proofs.Common.{◌≡◌, ◌≢◌, ℕ, zero, suc, ◌+◌, ◌-◌, ◌*◌, ◌^◌, ◌<◌, ◌≤◌, Bool, true, false, cond, eqb, ltb, List, [], ◌++◌, length, take, drop, Result, Ok, Err, refl, sym, ap, subst, ◌∙◌, append_assoc, length-append, arith, inl, inr}
use Rattle.std.specs.Prelude.{⊤}
use Rattle.std.proofs.lemmas.Bool.{cases_lt, ltb-true, lt-ltb, eq-eqb, ne_eqb}
use Rattle.std.proofs.lemmas.List.{drop_at, take_at, take_all}
use Rattle.ctr_bytes.specs.Fields.{spelled, field}
use Rattle.ctr_bytes.proofs.FieldLaws.{AreBytes, length-spelled, side}
use Rattle.ctr_rec.specs.declared.decoding.BadRecord.{BadRecord}
use Rattle.ctr_rec.specs.Spelling.{checkpoint_bytes}
use Rattle.ctr_bytes.specs.Following.{◌>>=◌}
use Rattle.ctr_rec.specs.Damage.{wrong, expect, at_most}
use Rattle.ctr_rec.specs.Checkpoint.{opens_in, aborted_in, items_at, items_in, end_at, xid_at, each, end_check, kind_check, kinds_in, item_most, item_check, next_check, heads_check, is_among, is_new, xid_check, list_checks, checkpoint_checks}
use Rattle.ctr_rec.proofs.Laws.{begins_whole, begins_less, field_last, grow}
use Rattle.ctr_rec.proofs.Reading.{bind_ok, expect_ok}
use Rattle.ctr_rec.proofs.Forms.{Fair, fair_bind, fair_expect, fair_if, fair_both}

-- ---- what is spelled

head : ℕ → List ℕ
head next = spelled 1 1 ++ spelled 8 next

length-head : (next : ℕ) → length (head next) ≡ 9
unfolding head
length-head next = omega (arith, length-append (spelled 1 1) (spelled 8 next), length-spelled 1 1, length-spelled 8 next)

pub length-checkpoint : (next : ℕ) (lists : List ℕ) → length (checkpoint_bytes next lists) ≡ 10 + length lists
unfolding head
length-checkpoint next lists = omega (arith, length-append (head next ++ lists) (spelled 1 0), length-append (head next) lists, length-head next, length-spelled 1 0)

pub checkpoint_number : (next : ℕ) (lists : List ℕ) → field 1 0 (checkpoint_bytes next lists) ≡ 1
checkpoint_number next lists =
    let whole = checkpoint_bytes next lists in
    let x = spelled 1 1 in
    field_last 1 1 0 [] whole refl (omega arith) (begins_less x (spelled 8 next) whole (begins_less (x ++ spelled 8 next) lists whole (begins_less (x ++ spelled 8 next ++ lists) (spelled 1 0) whole (begins_whole whole))))

pub checkpoint_next : (next : ℕ) (lists : List ℕ) → next < 2 ^ 64 → field 8 1 (checkpoint_bytes next lists) ≡ next
checkpoint_next next lists fits =
    let whole = checkpoint_bytes next lists in
    let x = spelled 1 1 in
    field_last 8 next 1 x whole (sym (length-spelled 1 1)) fits (begins_less (x ++ spelled 8 next) lists whole (begins_less (x ++ spelled 8 next ++ lists) (spelled 1 0) whole (begins_whole whole)))

pub checkpoint_rest : (next : ℕ) (lists : List ℕ) → drop 9 (checkpoint_bytes next lists) ≡ lists ++ spelled 1 0
unfolding head
checkpoint_rest next lists =
    ap (drop 9) (append_assoc (head next) lists (spelled 1 0)) ∙ drop_at (head next) (lists ++ spelled 1 0) 9 (length-head next)

-- two Checkpoints have two spellings
pub one_checkpoint : (n m : ℕ) (l k : List ℕ) → n < 2 ^ 64 → m < 2 ^ 64 → checkpoint_bytes n l ≡ checkpoint_bytes m k → (n ≡ m) × (l ≡ k)
one_checkpoint n m l k fn fm e =
    let same : length l ≡ length k = omega (arith, length-checkpoint n l, length-checkpoint m k, ap length e) in
    let rests : l ++ spelled 1 0 ≡ k ++ spelled 1 0 = sym (checkpoint_rest n l) ∙ ap (drop 9) e ∙ checkpoint_rest m k in (
      sym (checkpoint_next n l fn) ∙ ap (field 8 1) e ∙ checkpoint_next m k fm,
      sym (take_at l (spelled 1 0) (length l) refl) ∙ ap (take (length l)) rests ∙ take_at k (spelled 1 0) (length l) (sym same),
    )

-- ---- what passes

pub record Passes (bytes : List ℕ) : Type 0 where
  pub long : 34 ≤ length bytes
  pub whole : end_at bytes + 1 ≡ length bytes
  pub flag : field 1 (end_at bytes) bytes ≡ 0

end_ok : (bytes : List ℕ) → end_at bytes < length bytes → end_check bytes ≡ Ok tt → 0 ≡ field 1 (end_at bytes) bytes
unfolding end_check
end_ok bytes lt e =
    expect_ok (end_at bytes) 0 (field 1 (end_at bytes) bytes) (ap (λ (b : Bool). cond b (expect (end_at bytes) 0 (field 1 (end_at bytes) bytes)) (Ok tt)) (sym (lt-ltb _ _ lt)) ∙ e)

pub end_far : (bytes : List ℕ) → 33 ≤ end_at bytes
unfolding end_at items_at
end_far bytes = omega arith

-- the parts of the checks
pub record Checks (bytes : List ℕ) : Type 0 where
  pub end : end_check bytes ≡ Ok tt
  pub kinds : each (kind_check (items_at bytes + 8) bytes) 0 (kinds_in bytes) ≡ Ok tt
  pub whole : end_at bytes + 1 ≡ length bytes
  pub lists : list_checks bytes ≡ Ok tt

pub checks : (bytes : List ℕ) → checkpoint_checks bytes ≡ Ok tt → Checks bytes
unfolding checkpoint_checks
checks bytes e =
    let kinds = each (kind_check (items_at bytes + 8) bytes) 0 (kinds_in bytes) in
    let b1 = bind_ok (end_check bytes) (λ _. kinds >>= λ _. expect 0 (end_at bytes + 1) (length bytes) >>= λ _. list_checks bytes) tt e in
    let b2 = bind_ok kinds (λ _. expect 0 (end_at bytes + 1) (length bytes) >>= λ _. list_checks bytes) tt b1.2 in
    let b3 = bind_ok (expect 0 (end_at bytes + 1) (length bytes)) (λ _. list_checks bytes) tt b2.2 in
    record { end = b1.1; kinds = b2.1; whole = expect_ok 0 (end_at bytes + 1) (length bytes) b3.1; lists = b3.2 }

pub passes : (bytes : List ℕ) → checkpoint_checks bytes ≡ Ok tt → Passes bytes
passes bytes e =
    let parts = checks bytes e in
    record { long = omega (arith, parts.whole, end_far bytes); whole = parts.whole; flag = sym (end_ok bytes (omega (arith, parts.whole)) parts.end) }

-- the bytes of a Checkpoint that passes are spelled so
pub checkpoint_back : (bytes lists : List ℕ) → AreBytes bytes → field 1 0 bytes ≡ 1 → checkpoint_checks bytes ≡ Ok tt → lists ≡ take (length bytes - 1 - 9) (drop 9 bytes) → checkpoint_bytes (field 8 1 bytes) lists ≡ bytes
checkpoint_back bytes lists fits number checked is =
    let p = passes bytes checked in
    let end = length bytes - 1 in
    let at : end_at bytes ≡ end = omega (arith, p.whole) in
    let zero : 0 ≡ field 1 end bytes = sym p.flag ∙ ap (λ (k : ℕ). field 1 k bytes) at in
    ap (λ (n : ℕ). spelled 1 n ++ spelled 8 (field 8 1 bytes) ++ lists ++ spelled 1 0) (sym number)
    ∙ ap (λ (x : List ℕ). x ++ spelled 8 (field 8 1 bytes) ++ lists ++ spelled 1 0) (grow 1 0 1 bytes (omega arith) (omega (arith, p.long)) fits)
    ∙ ap (λ (x : List ℕ). x ++ lists ++ spelled 1 0) (grow 8 1 9 bytes (omega arith) (omega (arith, p.long)) fits)
    ∙ ap (λ (x : List ℕ). take 9 bytes ++ x ++ spelled 1 0) is
    ∙ ap (λ (x : List ℕ). x ++ spelled 1 0) (side 0 9 (end - 9) bytes)
    ∙ ap (λ (k : ℕ). take k bytes ++ spelled 1 0) (let e : 9 + (end - 9) ≡ end = omega (arith, p.long) in e)
    ∙ ap (λ (n : ℕ). take end bytes ++ spelled 1 n) zero
    ∙ grow 1 end (length bytes) bytes (omega (arith, p.long)) (omega arith) fits
    ∙ take_all (length bytes) bytes (omega arith)

-- ---- what fails differs

fair_most : (at bound got : ℕ) → Fair (at_most at bound got)
unfolding at_most
fair_most at bound got = fair_if (ltb bound got) (wrong at bound got) (Ok tt) (λ t same. omega (arith, ltb-true _ _ t, same)) 0

fair_each : (f : ℕ → Result ⊤ BadRecord) (i n : ℕ) → ((k : ℕ) → Fair (f k)) → Fair (each f i n)
fair_each f i zero fair = 0
fair_each f i (suc n) fair = fair_bind (f i) (λ _. each f (i + 1) n) (fair i) (λ _. fair_each f (i + 1) n fair)

fair_end : (bytes : List ℕ) → Fair (end_check bytes)
unfolding end_check
fair_end bytes = fair_both (ltb (end_at bytes) (length bytes)) (expect (end_at bytes) 0 (field 1 (end_at bytes) bytes)) (Ok tt) (fair_expect (end_at bytes) 0 (field 1 (end_at bytes) bytes)) 0

fair_kind : (base : ℕ) (bytes : List ℕ) (i : ℕ) → Fair (kind_check base bytes i)
unfolding kind_check
fair_kind base bytes i =
    fair_if (eqb (field 1 (base + 13 * i) bytes) 0) (wrong (base + 13 * i) 4 0) (at_most (base + 13 * i) 4 (field 1 (base + 13 * i) bytes)) (λ t same. omega (arith, same)) (fair_most (base + 13 * i) 4 (field 1 (base + 13 * i) bytes))

fair_item : (base : ℕ) (bytes : List ℕ) (i : ℕ) → Fair (item_check base bytes i)
unfolding item_check
fair_item base bytes i =
    let at = base + 13 * i in
    let free = expect (at + 1) 0 (field 8 (at + 1) bytes) in
    let number = at_most (at + 9) (item_most (field 1 at bytes)) (field 4 (at + 9) bytes) in
    fair_bind (cond (eqb (field 1 at bytes) 2) free (Ok tt)) (λ _. number)
    (fair_both (eqb (field 1 at bytes) 2) free (Ok tt) (fair_expect (at + 1) 0 (field 8 (at + 1) bytes)) 0)
    (λ _. fair_most (at + 9) (item_most (field 1 at bytes)) (field 4 (at + 9) bytes))

fair_next : (next : ℕ) → Fair (next_check next)
unfolding next_check
fair_next next = fair_if (eqb next 0) (wrong 1 1 0) (at_most 1 (2 ^ 63 + 2 ^ 62) next) (λ t same. omega (arith, same)) (fair_most 1 (2 ^ 63 + 2 ^ 62) next)

fair_head : (opens : ℕ) (bytes : List ℕ) (i : ℕ) → Fair (heads_check opens bytes i)
unfolding heads_check
fair_head opens bytes i = fair_most (xid_at opens i + 8) (2 ^ 62) (field 8 (xid_at opens i + 8) bytes)

abbrev passed_or : Bool → BadRecord → Result ⊤ BadRecord
passed_or b d = cond b (Ok tt) (Err d)

fair_unless : (b : Bool) (d : BadRecord) → d.want ≢ d.got → Fair (passed_or b d)
fair_unless true d h = 0
fair_unless false d h = h

fair_xid : (opens : ℕ) (bytes : List ℕ) (i : ℕ) → Fair (xid_check opens bytes i)
unfolding xid_check
fair_xid opens bytes i = fair_unless (is_new opens bytes i (field 8 (xid_at opens i) bytes)) (wrong (xid_at opens i) 1 0) (λ same. omega (arith, same))

fair_lists : (bytes : List ℕ) → Fair (list_checks bytes)
unfolding list_checks
fair_lists bytes =
    let items = each (item_check (items_at bytes + 8) bytes) 0 (items_in bytes) in
    let next = next_check (field 8 1 bytes) in
    let heads = each (heads_check (opens_in bytes) bytes) 0 (opens_in bytes + aborted_in bytes) in
    let xids = each (xid_check (opens_in bytes) bytes) 0 (opens_in bytes + aborted_in bytes) in
    fair_bind items (λ _. next >>= λ _. heads >>= λ _. xids) (fair_each (item_check (items_at bytes + 8) bytes) 0 (items_in bytes) (fair_item (items_at bytes + 8) bytes)) (λ _.
    fair_bind next (λ _. heads >>= λ _. xids) (fair_next (field 8 1 bytes)) (λ _.
    fair_bind heads (λ _. xids) (fair_each (heads_check (opens_in bytes) bytes) 0 (opens_in bytes + aborted_in bytes) (fair_head (opens_in bytes) bytes)) (λ _.
    fair_each (xid_check (opens_in bytes) bytes) 0 (opens_in bytes + aborted_in bytes) (fair_xid (opens_in bytes) bytes))))

fair_checkpoint : (bytes : List ℕ) → Fair (checkpoint_checks bytes)
unfolding checkpoint_checks
fair_checkpoint bytes =
    let kinds = each (kind_check (items_at bytes + 8) bytes) 0 (kinds_in bytes) in
    let whole = expect 0 (end_at bytes + 1) (length bytes) in
    fair_bind (end_check bytes) (λ _. kinds >>= λ _. whole >>= λ _. list_checks bytes) (fair_end bytes) (λ _.
    fair_bind kinds (λ _. whole >>= λ _. list_checks bytes) (fair_each (kind_check (items_at bytes + 8) bytes) 0 (kinds_in bytes) (fair_kind (items_at bytes + 8) bytes)) (λ _.
    fair_bind whole (λ _. list_checks bytes) (fair_expect 0 (end_at bytes + 1) (length bytes)) (λ _. fair_lists bytes)))

pub checkpoint_differs : (bytes : List ℕ) (e : BadRecord) → checkpoint_checks bytes ≡ Err e → e.want ≢ e.got
checkpoint_differs bytes e is = subst Fair is (fair_checkpoint bytes)

-- ---- loops

abbrev pub Goes : (ℕ → Result ⊤ BadRecord) → ℕ → ℕ → Type 0
Goes f i n = each f i (n - i) ≡ each f 0 n

pub goes_on : (f : ℕ → Result ⊤ BadRecord) (i n : ℕ) → i < n → f i ≡ Ok tt → Goes f i n → Goes f (i + 1) n
goes_on f i n lt passed so_far =
    let k : n - i ≡ suc (n - (i + 1)) = omega arith in
    let one : each f i (n - i) ≡ each f (i + 1) (n - (i + 1)) = rw (k, passed) refl in
    sym one ∙ so_far

pub ends : (f : ℕ → Result ⊤ BadRecord) (i n : ℕ) (e : BadRecord) → i < n → f i ≡ Err e → Goes f i n → Err e ≡ each f 0 n
ends f i n e lt failed so_far =
    let k : n - i ≡ suc (n - (i + 1)) = omega arith in
    let one : each f i (n - i) ≡ Err e = rw (k, failed) refl in
    sym one ∙ so_far

pub all_done : (f : ℕ → Result ⊤ BadRecord) (i n : ℕ) → n ≤ i → Goes f i n → Ok tt ≡ each f 0 n
all_done f i n le so_far =
    let k : n - i ≡ 0 = omega arith in
    let none : each f i (n - i) ≡ Ok tt = rw k refl in
    sym none ∙ so_far

-- ---- whether one came before

among_later : (opens : ℕ) (bytes : List ℕ) (x i n : ℕ) → i < n → field 8 (xid_at opens i) bytes ≡ x → is_among opens bytes x n ≡ true
among_later opens bytes x i zero lt e = absurd (omega (arith, lt))
among_later opens bytes x i (suc n) lt e =
    elim (cases_lt i n) [
      | inl before ↦ kept (eqb (field 8 (xid_at opens n) bytes) x) (is_among opens bytes x n) (among_later opens bytes x i n before e)
      | inr at ↦
          let same : i ≡ n = omega (arith, lt, at) in
          let found : field 8 (xid_at opens n) bytes ≡ x = ap (λ (k : ℕ). field 8 (xid_at opens k) bytes) (sym same) ∙ e in
          ap (λ (b : Bool). cond b true (is_among opens bytes x n)) (eq-eqb _ _ found)
    ]
  where
    kept : (b r : Bool) → r ≡ true → cond b true r ≡ true
    kept true r e = refl
    kept false r e = e

pub among_found : (opens : ℕ) (bytes : List ℕ) (x i n : ℕ) → i < n → field 8 (xid_at opens i) bytes ≡ x → true ≡ is_among opens bytes x n
among_found opens bytes x i n lt e = sym (among_later opens bytes x i n lt e)

pub among_more : (opens : ℕ) (bytes : List ℕ) (x i : ℕ) → field 8 (xid_at opens i) bytes ≢ x → is_among opens bytes x i ≡ false → is_among opens bytes x (i + 1) ≡ false
among_more opens bytes x i ne none =
    ap (is_among opens bytes x) (let e : i + 1 ≡ suc i = omega arith in e)
    ∙ ap (λ (b : Bool). cond b true (is_among opens bytes x i)) (ne_eqb _ _ ne) ∙ none
