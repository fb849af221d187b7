-- The lists that pass a Checkpoint's checks have members.
use Rattle.std.proofs.Common.{◌≡◌, ◌≢◌, ℕ, zero, suc, ◌+◌, ◌-◌, ◌*◌, ◌/◌, ◌^◌, ◌<◌, ◌≤◌, min, Bool, true, false, cond, eqb, ltb, List, [], ◌∷◌, ◌++◌, length, take, drop, Result, Ok, Err, refl, sym, ap, subst, ◌∙◌, append_assoc, arith}
use Rattle.std.specs.Prelude.{⊤}
use Rattle.std.specs.List.{flat_map, AllByRecursion}
use Rattle.std.proofs.lemmas.Bool.{ltb-true, ltb-false, le-ltb, eqb-false, eq-eqb}
use Rattle.std.proofs.lemmas.List.{append-nil, drop_at, length-take-le}
use Rattle.ctr_bytes.specs.Fields.{spelled, field}
use Rattle.ctr_bytes.proofs.FieldLaws.{AreBytes, field_fits, side}
use Rattle.ctr_rec.specs.declared.decoding.BadRecord.{BadRecord}
use Rattle.ctr_bytes.specs.Following.{◌>>=◌}
use Rattle.ctr_rec.specs.Damage.{wrong, expect, at_most}
use Rattle.ctr_rec.specs.Checkpoint.{count_at, opens_in, aborted_in, items_at, items_in, end_at, xid_at, each, end_check, kind_check, kinds_in, item_most, item_check, next_check, heads_check, is_among, is_new, xid_check, list_checks, checkpoint_checks}
use Rattle.ctr_rec.specs.Members.{pair_bytes, item_kind, item_xid, item_number, slog_item_bytes, lists_bytes, among, AreNew, HeadsFit, ItemFits, HasMembers, pairs_from, slog_item, items_from}
use Rattle.ctr_rec.proofs.Laws.{grow, in_one_row}
use Rattle.ctr_rec.proofs.ListLaws.{checks}
use Rattle.ctr_rec.proofs.Reading.{bind_ok, guard_ok, expect_ok}
use Rattle.ctr_rec.proofs.MemberLaws.{Seen, seen_more, xid_before, xid_behind}

-- ---- pairs

length-from : (at n : ℕ) (bytes : List ℕ) → length (pairs_from at n bytes) ≡ n
unfolding pairs_from
length-from at zero bytes = refl
length-from at (suc n) bytes = ap suc (length-from (at + 16) n bytes)

pairs_back : (at n : ℕ) (bytes : List ℕ) → at + 16 * n ≤ length bytes → AreBytes bytes → take at bytes ++ flat_map pair_bytes (pairs_from at n bytes) ≡ take (at + 16 * n) bytes
unfolding pairs_from
pairs_back at zero bytes le fits = append-nil (take at bytes) ∙ ap (λ (k : ℕ). take k bytes) (let e : at ≡ at + 16 * 0 = omega arith in e)
pairs_back at (suc n) bytes le fits =
    let x = spelled 8 (field 8 at bytes) in
    let h = spelled 8 (field 8 (at + 8) bytes) in
    let rest = flat_map pair_bytes (pairs_from (at + 16) n bytes) in
    sym (append_assoc (take at bytes) (x ++ h) rest)
    ∙ ap (λ (l : List ℕ). l ++ rest) (sym (append_assoc (take at bytes) x h))
    ∙ ap (λ (l : List ℕ). (l ++ h) ++ rest) (grow 8 at (at + 8) bytes refl (omega (arith, le)) fits)
    ∙ ap (λ (l : List ℕ). l ++ rest) (grow 8 (at + 8) (at + 16) bytes (omega arith) (omega (arith, le)) fits)
    ∙ pairs_back (at + 16) n bytes (omega (arith, le)) fits
    ∙ ap (λ (k : ℕ). take k bytes) (let e : at + 16 + 16 * n ≡ at + 16 * suc n = omega arith in e)

-- ---- checks that pass, one by one

each_first : (f : ℕ → Result ⊤ BadRecord) (i a b : ℕ) → each f i (a + b) ≡ Ok tt → each f i a ≡ Ok tt
each_first f i zero b e = refl
each_first f i (suc a) b e =
    let s = bind_ok (f i) (λ _. each f (i + 1) (a + b)) tt (ap (each f i) (let k : suc (a + b) ≡ suc a + b = omega arith in k) ∙ e) in
    rw s.1 (each_first f (i + 1) a b s.2)

each_second : (f : ℕ → Result ⊤ BadRecord) (i a b : ℕ) → each f i (a + b) ≡ Ok tt → each f (i + a) b ≡ Ok tt
each_second f i zero b e = ap (λ (k : ℕ). each f k b) (let k : i + 0 ≡ i = omega arith in k) ∙ ap (each f i) (let k : b ≡ 0 + b = omega arith in k) ∙ e
each_second f i (suc a) b e =
    let s = bind_ok (f i) (λ _. each f (i + 1) (a + b)) tt (ap (each f i) (let k : suc (a + b) ≡ suc a + b = omega arith in k) ∙ e) in
    ap (λ (k : ℕ). each f k b) (let k : i + suc a ≡ i + 1 + a = omega arith in k) ∙ each_second f (i + 1) a b s.2

most_says : (at bound got : ℕ) → at_most at bound got ≡ Ok tt → got ≤ bound
unfolding at_most
most_says at bound got e = ltb-false _ _ (guard_ok (ltb bound got) (wrong at bound got) (Ok tt) tt e).0

heads_say : (opens at : ℕ) (bytes : List ℕ) (place : ℕ → ℕ) (start stop : ℕ) → ((i : ℕ) → start ≤ i → i < stop → xid_at opens i ≡ place i) → ((i : ℕ) → place (i + 1) ≡ place i + 16)
    → (n i : ℕ) → start ≤ i → i + n ≤ stop → place i ≡ at → each (heads_check opens bytes) i n ≡ Ok tt → AllByRecursion HeadsFit (pairs_from at n bytes)
unfolding pairs_from heads_check
heads_say opens at bytes place start stop is next zero i from le here e = tt
heads_say opens at bytes place start stop is next (suc n) i from le here e =
    let s = bind_ok (heads_check opens bytes i) (λ _. each (heads_check opens bytes) (i + 1) n) tt e in
    let fit = most_says (xid_at opens i + 8) (2 ^ 62) (field 8 (xid_at opens i + 8) bytes) s.1 in
    let same : xid_at opens i ≡ at = is i from (omega (arith, le)) ∙ here in (
      subst (λ (k : ℕ). field 8 (k + 8) bytes ≤ 2 ^ 62) same fit,
      heads_say opens (at + 16) bytes place start stop is next n (i + 1) (omega (arith, from)) (omega (arith, le)) (omega (arith, next i, here)) s.2,
    )

abbrev passed_or : Bool → BadRecord → Result ⊤ BadRecord
passed_or b d = cond b (Ok tt) (Err d)

xid_says : (opens i : ℕ) (bytes : List ℕ) → xid_check opens bytes i ≡ Ok tt → is_new opens bytes i (field 8 (xid_at opens i) bytes) ≡ true
unfolding xid_check
xid_says opens i bytes e = passed (is_new opens bytes i (field 8 (xid_at opens i) bytes)) (wrong (xid_at opens i) 1 0) e
  where
    passed : (b : Bool) (d : BadRecord) → passed_or b d ≡ Ok tt → b ≡ true
    passed true d e = refl
    passed false d e = absurd cc

new_says : (opens i x : ℕ) (bytes : List ℕ) → is_new opens bytes i x ≡ true → (1 ≤ x) × (x < field 8 1 bytes) × (is_among opens bytes x i ≡ false)
new_says opens i x bytes e = parts (eqb x 0) (ltb x (field 8 1 bytes)) (is_among opens bytes x i) refl refl refl e
  where
    parts : (a b c : Bool) → eqb x 0 ≡ a → ltb x (field 8 1 bytes) ≡ b → is_among opens bytes x i ≡ c → cond a false (cond b (cond c false true) false) ≡ true → (1 ≤ x) × (x < field 8 1 bytes) × (is_among opens bytes x i ≡ false)
    parts true b c p q r e = absurd cc
    parts false false c p q r e = absurd cc
    parts false true true p q r e = absurd cc
    parts false true false p q r e = (let ne : x ≢ 0 = eqb-false _ _ p in omega (arith, ne), ltb-true _ _ q, r)

-- what the transactions of one list are, and what they leave for the next
record Then (opens next i : ℕ) (bytes seen : List ℕ) (ps : List (ℕ × ℕ)) : Type 0 where
  pub last : List ℕ
  pub before : Seen opens bytes i last
  pub joins : (more : List (ℕ × ℕ)) → AreNew next last more → AreNew next seen (ps ++ more)

xids_say : (opens next : ℕ) (bytes : List ℕ) (place : ℕ → ℕ) (start stop : ℕ) → field 8 1 bytes ≡ next → ((i : ℕ) → start ≤ i → i < stop → xid_at opens i ≡ place i) → ((i : ℕ) → place (i + 1) ≡ place i + 16)
    → (n i at : ℕ) (seen : List ℕ) → start ≤ i → i + n ≤ stop → place i ≡ at → Seen opens bytes i seen → each (xid_check opens bytes) i n ≡ Ok tt → Then opens next (i + n) bytes seen (pairs_from at n bytes)
unfolding pairs_from
xids_say opens next bytes place start stop nx is on zero i at seen from le here before e =
    record { last = seen; before = subst (λ (k : ℕ). Seen opens bytes k seen) (let k : i ≡ i + 0 = omega arith in k) before; joins = λ more new. new }
xids_say opens next bytes place start stop nx is on (suc n) i at seen from le here before e =
    let s = bind_ok (xid_check opens bytes i) (λ _. each (xid_check opens bytes) (i + 1) n) tt e in
    let same : xid_at opens i ≡ at = is i from (omega (arith, le)) ∙ here in
    let x = field 8 at bytes in
    let read : field 8 (xid_at opens i) bytes ≡ x = ap (λ (k : ℕ). field 8 k bytes) same in
    let said = new_says opens i x bytes (ap (is_new opens bytes i) (sym read) ∙ xid_says opens i bytes s.1) in
    let rest = xids_say opens next bytes place start stop nx is on n (i + 1) (at + 16) (x ∷ seen) (omega (arith, from)) (omega (arith, le)) (omega (arith, on i, here)) (seen_more opens i x bytes seen read before) s.2 in
    let none : among x seen ≡ false = sym (before x) ∙ said.2 in
    let below : x < next = omega (arith, said.1, nx) in
    record {
      last = rest.last;
      before = subst (λ (k : ℕ). Seen opens bytes k rest.last) (let k : i + 1 + n ≡ i + suc n = omega arith in k) rest.before;
      joins = λ more new. (said.0, below, none, rest.joins more new);
    }

-- ---- items

length-items_from : (at n : ℕ) (bytes : List ℕ) → length (items_from at n bytes) ≡ n
unfolding items_from
length-items_from at zero bytes = refl
length-items_from at (suc n) bytes = ap suc (length-items_from (at + 13) n bytes)

-- an item by its parts
record Is (k x n : ℕ) : Type 0 where
  pub kind : item_kind (slog_item k x n) ≡ k
  pub xid : item_xid (slog_item k x n) ≡ x
  pub number : item_number (slog_item k x n) ≡ n

item_is : (k x n : ℕ) → 1 ≤ k → k ≤ 4 → (k ≡ 2 → x ≡ 0) → Is k x n
unfolding slog_item
item_is zero x n some few free = absurd (omega (arith, some))
item_is (suc zero) x n some few free = record { kind = refl; xid = refl; number = refl }
item_is (suc (suc zero)) x n some few free = record { kind = refl; xid = sym (free refl); number = refl }
item_is (suc (suc (suc zero))) x n some few free = record { kind = refl; xid = refl; number = refl }
item_is (suc (suc (suc (suc zero)))) x n some few free = record { kind = refl; xid = refl; number = refl }
item_is (suc (suc (suc (suc (suc k))))) x n some few free = absurd (omega (arith, few))

kind_says : (base i : ℕ) (bytes : List ℕ) → kind_check base bytes i ≡ Ok tt → (1 ≤ field 1 (base + 13 * i) bytes) × (field 1 (base + 13 * i) bytes ≤ 4)
unfolding kind_check
kind_says base i bytes e =
    let at = base + 13 * i in
    let g = guard_ok (eqb (field 1 at bytes) 0) (wrong at 4 0) (at_most at 4 (field 1 at bytes)) tt e in
    let ne : field 1 at bytes ≢ 0 = eqb-false _ _ g.0 in
    (omega (arith, ne), most_says at 4 (field 1 at bytes) g.1)

item_says : (base i : ℕ) (bytes : List ℕ) → item_check base bytes i ≡ Ok tt → (field 1 (base + 13 * i) bytes ≡ 2 → field 8 (base + 13 * i + 1) bytes ≡ 0) × (field 4 (base + 13 * i + 9) bytes ≤ item_most (field 1 (base + 13 * i) bytes))
unfolding item_check
item_says base i bytes e =
    let at = base + 13 * i in
    let free = expect (at + 1) 0 (field 8 (at + 1) bytes) in
    let s = bind_ok (cond (eqb (field 1 at bytes) 2) free (Ok tt)) (λ _. at_most (at + 9) (item_most (field 1 at bytes)) (field 4 (at + 9) bytes)) tt e in (
      λ two. sym (expect_ok (at + 1) 0 (field 8 (at + 1) bytes) (ap (λ (b : Bool). cond b free (Ok tt)) (sym (eq-eqb _ _ two)) ∙ s.1)),
      most_says (at + 9) (item_most (field 1 at bytes)) (field 4 (at + 9) bytes) s.2,
    )

-- the items are spelled so, and fit
items_say : (base : ℕ) (bytes : List ℕ) → AreBytes bytes → (n i at : ℕ) → at ≡ base + 13 * i → at + 13 * n ≤ length bytes → each (kind_check base bytes) i n ≡ Ok tt → each (item_check base bytes) i n ≡ Ok tt
    → (take at bytes ++ flat_map slog_item_bytes (items_from at n bytes) ≡ take (at + 13 * n) bytes) × AllByRecursion ItemFits (items_from at n bytes)
unfolding items_from
items_say base bytes fits zero i at here le ks is =
    (append-nil (take at bytes) ∙ ap (λ (k : ℕ). take k bytes) (let e : at ≡ at + 13 * 0 = omega arith in e), tt)
items_say base bytes fits (suc n) i at here le ks is =
    let sk = bind_ok (kind_check base bytes i) (λ _. each (kind_check base bytes) (i + 1) n) tt ks in
    let si = bind_ok (item_check base bytes i) (λ _. each (item_check base bytes) (i + 1) n) tt is in
    let k0 = kind_says base i bytes sk.1 in
    let i0 = item_says base i bytes si.1 in
    let k = field 1 at bytes in
    let x = field 8 (at + 1) bytes in
    let m = field 4 (at + 9) bytes in
    let kind : (1 ≤ k) × (k ≤ 4) = subst (λ (a : ℕ). (1 ≤ field 1 a bytes) × (field 1 a bytes ≤ 4)) (sym here) k0 in
    let item : (k ≡ 2 → x ≡ 0) × (m ≤ item_most k) = subst (λ (a : ℕ). (field 1 a bytes ≡ 2 → field 8 (a + 1) bytes ≡ 0) × (field 4 (a + 9) bytes ≤ item_most (field 1 a bytes))) (sym here) i0 in
    let one = item_is k x m kind.0 kind.1 item.0 in
    let rest = items_say base bytes fits n (i + 1) (at + 13) (omega (arith, here)) (omega (arith, le)) sk.2 si.2 in
    let more = flat_map slog_item_bytes (items_from (at + 13) n bytes) in
    let head : slog_item_bytes (slog_item k x m) ≡ spelled 1 k ++ spelled 8 x ++ spelled 4 m =
    ap (λ (a : ℕ). spelled 1 a ++ spelled 8 (item_xid (slog_item k x m)) ++ spelled 4 (item_number (slog_item k x m))) one.kind
    ∙ ap (λ (a : ℕ). spelled 1 k ++ spelled 8 a ++ spelled 4 (item_number (slog_item k x m))) one.xid
    ∙ ap (λ (a : ℕ). spelled 1 k ++ spelled 8 x ++ spelled 4 a) one.number in
    let fit : ItemFits (slog_item k x m) = rw (one.kind, one.number) item.1 in (
      ap (λ (l : List ℕ). take at bytes ++ (l ++ more)) head
          ∙ sym (append_assoc (take at bytes) (spelled 1 k ++ spelled 8 x ++ spelled 4 m) more)
          ∙ ap (λ (l : List ℕ). l ++ more) (sym (append_assoc (take at bytes) (spelled 1 k ++ spelled 8 x) (spelled 4 m)))
          ∙ ap (λ (l : List ℕ). (l ++ spelled 4 m) ++ more) (sym (append_assoc (take at bytes) (spelled 1 k) (spelled 8 x)))
          ∙ ap (λ (l : List ℕ). (l ++ spelled 8 x ++ spelled 4 m) ++ more) (grow 1 at (at + 1) bytes refl (omega (arith, le)) fits)
          ∙ ap (λ (l : List ℕ). (l ++ spelled 4 m) ++ more) (grow 8 (at + 1) (at + 9) bytes (omega arith) (omega (arith, le)) fits)
          ∙ ap (λ (l : List ℕ). l ++ more) (grow 4 (at + 9) (at + 13) bytes (omega arith) (omega (arith, le)) fits)
          ∙ rest.0
          ∙ ap (λ (a : ℕ). take a bytes) (let e : at + 13 + 13 * n ≡ at + 13 * suc n = omega arith in e),
      (fit, rest.1),
    )

-- ---- all of it

count_there : (at : ℕ) (bytes : List ℕ) → at + 8 ≤ length bytes → count_at at bytes ≡ field 8 at bytes
unfolding count_at
count_there at bytes le = ap (λ (b : Bool). cond b 0 (field 8 at bytes)) (le-ltb _ _ le)

-- where the lists stand, in one place
record Stand (bytes : List ℕ) : Type 0 where
  pub whole : 34 + 16 * (opens_in bytes + aborted_in bytes) + 13 * items_in bytes ≡ length bytes
  pub opens : opens_in bytes ≡ field 8 9 bytes
  pub aborted : aborted_in bytes ≡ field 8 (17 + 16 * opens_in bytes) bytes
  pub items : items_in bytes ≡ field 8 (25 + 16 * (opens_in bytes + aborted_in bytes)) bytes
  pub base : items_at bytes ≡ 25 + 16 * (opens_in bytes + aborted_in bytes)

stand : (bytes : List ℕ) → end_at bytes + 1 ≡ length bytes → Stand bytes
unfolding end_at items_at opens_in aborted_in items_in
stand bytes e = record {
  whole = omega (arith, e);
  opens = count_there 9 bytes (omega (arith, e));
  aborted = count_there (17 + 16 * opens_in bytes) bytes (omega (arith, e));
  items = count_there (25 + 16 * (opens_in bytes + aborted_in bytes)) bytes (omega (arith, e));
  base = refl;
}

next_says : (next : ℕ) → next_check next ≡ Ok tt → (1 ≤ next) × (next ≤ 2 ^ 63 + 2 ^ 62)
unfolding next_check
next_says next e =
    let g = guard_ok (eqb next 0) (wrong 1 1 0) (at_most 1 (2 ^ 63 + 2 ^ 62) next) tt e in
    let ne : next ≢ 0 = eqb-false _ _ g.0 in
    (omega (arith, ne), most_says 1 (2 ^ 63 + 2 ^ 62) next g.1)

-- the four checks of the lists
record Four (bytes : List ℕ) : Type 0 where
  pub items : each (item_check (items_at bytes + 8) bytes) 0 (items_in bytes) ≡ Ok tt
  pub next : next_check (field 8 1 bytes) ≡ Ok tt
  pub heads : each (heads_check (opens_in bytes) bytes) 0 (opens_in bytes + aborted_in bytes) ≡ Ok tt
  pub xids : each (xid_check (opens_in bytes) bytes) 0 (opens_in bytes + aborted_in bytes) ≡ Ok tt

four : (bytes : List ℕ) → list_checks bytes ≡ Ok tt → Four bytes
unfolding list_checks
four bytes e =
    let items = each (item_check (items_at bytes + 8) bytes) 0 (items_in bytes) in
    let heads = each (heads_check (opens_in bytes) bytes) 0 (opens_in bytes + aborted_in bytes) in
    let xids = each (xid_check (opens_in bytes) bytes) 0 (opens_in bytes + aborted_in bytes) in
    let s1 = bind_ok items (λ _. next_check (field 8 1 bytes) >>= λ _. heads >>= λ _. xids) tt e in
    let s2 = bind_ok (next_check (field 8 1 bytes)) (λ _. heads >>= λ _. xids) tt s1.2 in
    let s3 = bind_ok heads (λ _. xids) tt s2.2 in
    record { items = s1.1; next = s2.1; heads = s3.1; xids = s3.2 }

all_kinds : (bytes : List ℕ) → Stand bytes → kinds_in bytes ≡ items_in bytes
unfolding kinds_in
all_kinds bytes s = let e : min (items_in bytes) ((length bytes + 12 - (items_at bytes + 8)) / 13) ≡ items_in bytes = omega (arith, s.whole, s.base) in e

-- six pieces, each of which leads the bytes before it further
joined : (h c1 m1 c2 m2 c3 m3 t1 t2 t3 t4 t5 t6 : List ℕ) → h ++ c1 ≡ t1 → t1 ++ m1 ≡ t2 → t2 ++ c2 ≡ t3 → t3 ++ m2 ≡ t4 → t4 ++ c3 ≡ t5 → t5 ++ m3 ≡ t6 → h ++ (((c1 ++ m1) ++ (c2 ++ m2)) ++ (c3 ++ m3)) ≡ t6
joined h c1 m1 c2 m2 c3 m3 t1 t2 t3 t4 t5 t6 e1 e2 e3 e4 e5 e6 =
    in_one_row h c1 m1 c2 m2 c3 m3
    ∙ ap (λ (l : List ℕ). l ++ m1 ++ c2 ++ m2 ++ c3 ++ m3) e1
    ∙ ap (λ (l : List ℕ). l ++ c2 ++ m2 ++ c3 ++ m3) e2
    ∙ ap (λ (l : List ℕ). l ++ m2 ++ c3 ++ m3) e3
    ∙ ap (λ (l : List ℕ). l ++ c3 ++ m3) e4
    ∙ ap (λ (l : List ℕ). l ++ m3) e5
    ∙ e6

-- the lists that pass are those of members
pub has_members : (bytes lists : List ℕ) → AreBytes bytes → checkpoint_checks bytes ≡ Ok tt → lists ≡ take (length bytes - 1 - 9) (drop 9 bytes) → HasMembers (field 8 1 bytes) lists
has_members bytes lists fits checked is =
    let t = checks bytes checked in
    let f = four bytes t.lists in
    let s = stand bytes t.whole in
    let a = opens_in bytes in
    let b = aborted_in bytes in
    let c = items_in bytes in
    let next = field 8 1 bytes in
    let base = 33 + 16 * (a + b) in
    let opens = pairs_from 17 a bytes in
    let aborted = pairs_from (25 + 16 * a) b bytes in
    let items = items_from base c bytes in
    let at : items_at bytes + 8 ≡ base = omega (arith, s.base) in
    let ks : each (kind_check base bytes) 0 c ≡ Ok tt = sym (ap (λ (k : ℕ). each (kind_check (items_at bytes + 8) bytes) 0 k) (all_kinds bytes s) ∙ ap (λ (x : ℕ). each (kind_check x bytes) 0 c) at) ∙ t.kinds in
    let ics : each (item_check base bytes) 0 c ≡ Ok tt = sym (ap (λ (x : ℕ). each (item_check x bytes) 0 c) at) ∙ f.items in
    let said = items_say base bytes fits c 0 base (omega arith) (omega (arith, s.whole)) ks ics in
    let n = next_says next f.next in
    let heads1 = heads_say a 17 bytes (λ i. 17 + 16 * i) 0 a (λ i from lt. xid_before a i lt) (λ i. omega arith) a 0 (omega arith) (omega arith) (omega arith) (each_first (heads_check a bytes) 0 a b f.heads) in
    let to_a : 0 + a ≡ a = omega arith in
    let heads2 = heads_say a (25 + 16 * a) bytes (λ i. 25 + 16 * i) a (a + b) (λ i from lt. xid_behind a i from) (λ i. omega arith) b a (omega arith) (omega arith) refl (ap (λ (k : ℕ). each (heads_check a bytes) k b) (sym to_a) ∙ each_second (heads_check a bytes) 0 a b f.heads) in
    let xids1 = xids_say a next bytes (λ i. 17 + 16 * i) 0 a refl (λ i from lt. xid_before a i lt) (λ i. omega arith) a 0 17 [] (omega arith) (omega arith) (omega arith) (λ y. refl) (each_first (xid_check a bytes) 0 a b f.xids) in
    let before : Seen a bytes a xids1.last = subst (λ (k : ℕ). Seen a bytes k xids1.last) to_a xids1.before in
    let xids2 = xids_say a next bytes (λ i. 25 + 16 * i) a (a + b) refl (λ i from lt. xid_behind a i from) (λ i. omega arith) b a (25 + 16 * a) xids1.last (omega arith) (omega arith) refl before (ap (λ (k : ℕ). each (xid_check a bytes) k b) (sym to_a) ∙ each_second (xid_check a bytes) 0 a b f.xids) in
    let new : AreNew next [] (opens ++ aborted) = xids1.joins aborted (subst (AreNew next xids1.last) (append-nil aborted) (xids2.joins [] tt)) in
    let na : length opens ≡ a = length-from 17 a bytes in
    let nb : length aborted ≡ b = length-from (25 + 16 * a) b bytes in
    let nc : length items ≡ c = length-items_from base c bytes in
    let fa = field_fits 8 9 bytes fits in
    let fb = field_fits 8 (17 + 16 * a) bytes fits in
    let fc = field_fits 8 (25 + 16 * (a + b)) bytes fits in
    let h = take 9 bytes in
    let end = length bytes - 1 - 9 in
    let sides : h ++ take end (drop 9 bytes) ≡ take (base + 13 * c) bytes = side 0 9 end bytes ∙ ap (λ (k : ℕ). take k bytes) (let e : 9 + end ≡ base + 13 * c = omega (arith, s.whole) in e) in
    let row : h ++ lists_bytes opens aborted items ≡ take (base + 13 * c) bytes =
    joined h (spelled 8 (length opens)) (flat_map pair_bytes opens) (spelled 8 (length aborted)) (flat_map pair_bytes aborted) (spelled 8 (length items)) (flat_map slog_item_bytes items)
    (take 17 bytes) (take (17 + 16 * a) bytes) (take (25 + 16 * a) bytes) (take (25 + 16 * (a + b)) bytes) (take base bytes) (take (base + 13 * c) bytes)
    (ap (λ (k : ℕ). h ++ spelled 8 k) (na ∙ s.opens) ∙ grow 8 9 17 bytes (omega arith) (omega (arith, s.whole)) fits)
    (pairs_back 17 a bytes (omega (arith, s.whole)) fits)
    (ap (λ (k : ℕ). take (17 + 16 * a) bytes ++ spelled 8 k) (nb ∙ s.aborted) ∙ grow 8 (17 + 16 * a) (25 + 16 * a) bytes (omega arith) (omega (arith, s.whole)) fits)
    (pairs_back (25 + 16 * a) b bytes (omega (arith, s.whole)) fits ∙ ap (λ (k : ℕ). take k bytes) (let e : 25 + 16 * a + 16 * b ≡ 25 + 16 * (a + b) = omega arith in e))
    (ap (λ (k : ℕ). take (25 + 16 * (a + b)) bytes ++ spelled 8 k) (nc ∙ s.items) ∙ grow 8 (25 + 16 * (a + b)) base bytes (omega arith) (omega (arith, s.whole)) fits)
    said.0 in
    let both : h ++ lists_bytes opens aborted items ≡ h ++ take end (drop 9 bytes) = row ∙ sym sides in
    let nine : length h ≡ 9 = length-take-le 9 bytes (omega (arith, s.whole)) in
    let lists_are : lists_bytes opens aborted items ≡ take end (drop 9 bytes) = sym (drop_at h (lists_bytes opens aborted items) 9 nine) ∙ ap (drop 9) both ∙ drop_at h (take end (drop 9 bytes)) 9 nine in (
      opens,
      aborted,
      items,
      record { some = n.0; next_fits = n.1; opens_fit = (omega (arith, na, s.opens, fa), heads1); aborted_fit = (omega (arith, nb, s.aborted, fb), heads2); once = new; items_fit = (omega (arith, nc, s.items, fc), said.1) },
      is ∙ sym lists_are,
    )
