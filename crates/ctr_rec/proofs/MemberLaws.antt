-- The Checkpoint of members passes its checks.
use Rattle.std.proofs.Common.{◌≡◌, ℕ, zero, suc, ◌+◌, ◌-◌, ◌*◌, ◌/◌, ◌^◌, ◌<◌, ◌≤◌, min, Bool, true, false, cond, eqb, ltb, List, [], ◌∷◌, ◌++◌, length, Result, Ok, Err, refl, sym, ap, subst, ◌∙◌, append_assoc, length-append, arith}
use Rattle.std.specs.Prelude.{⊤}
use Rattle.std.specs.List.{flat_map, AllByRecursion}
use Rattle.std.proofs.lemmas.Bool.{lt-ltb, le-ltb, ne_eqb}
use Rattle.ctr_bytes.specs.Fields.{spelled, field}
use Rattle.ctr_bytes.proofs.FieldLaws.{length-spelled}
use Rattle.ctr_rec.specs.declared.decoding.BadRecord.{BadRecord}
use Rattle.ctr_rec.specs.declared.record.SlogItem.{SlogItem}
use Rattle.ctr_rec.specs.declared.record.SlogItem.TheVariants.{AllocOf, FreeOf, CreateOf, DropOf}
use Rattle.ctr_rec.specs.Spelling.{checkpoint_bytes}
use Rattle.ctr_rec.specs.Damage.{wrong, expect, at_most}
use Rattle.ctr_rec.specs.Checkpoint.{count_at, opens_in, aborted_in, items_at, items_in, end_at, xid_at, each, end_check, kind_check, kinds_in, item_most, item_check, next_check, heads_check, is_among, is_new, xid_check, list_checks, checkpoint_checks}
use Rattle.ctr_rec.specs.Members.{pair_bytes, item_kind, item_xid, item_number, slog_item_bytes, lists_bytes, among, AreNew, HeadsFit, ItemFits, MembersFit}
use Rattle.ctr_rec.proofs.Laws.{Begins, begins_whole, begins_less, field_last, in_one_row}
use Rattle.std.proofs.lemmas.List.{append-nil}
use Rattle.ctr_rec.proofs.ListLaws.{checkpoint_next}
use Rattle.ctr_rec.proofs.Reading.{bind_ok}
use Rattle.ctr_rec.proofs.Forms.{expect_same, either_ok}

-- ---- members, one behind another

length-pair : (p : ℕ × ℕ) → length (pair_bytes p) ≡ 16
length-pair p = omega (arith, length-append (spelled 8 p.0) (spelled 8 p.1), length-spelled 8 p.0, length-spelled 8 p.1)

length-item : (i : SlogItem) → length (slog_item_bytes i) ≡ 13
length-item i =
    let a = spelled 1 (item_kind i) in
    let b = spelled 8 (item_xid i) in
    let c = spelled 4 (item_number i) in
    omega (arith, length-append (a ++ b) c, length-append a b, length-spelled 1 (item_kind i), length-spelled 8 (item_xid i), length-spelled 4 (item_number i))

pub length-pairs : (ps : List (ℕ × ℕ)) → length (flat_map pair_bytes ps) ≡ 16 * length ps
length-pairs [] = refl
length-pairs (p ∷ ps) = omega (arith, length-append (pair_bytes p) (flat_map pair_bytes ps), length-pair p, length-pairs ps)

pub length-items : (is : List SlogItem) → length (flat_map slog_item_bytes is) ≡ 13 * length is
length-items [] = refl
length-items (i ∷ is) = omega (arith, length-append (slog_item_bytes i) (flat_map slog_item_bytes is), length-item i, length-items is)

-- where the members of a list stand
begins_next : {A : Type 0} (one : A → List ℕ) (x : A) (xs : List A) (front whole : List ℕ) → Begins (front ++ flat_map one (x ∷ xs)) whole → Begins ((front ++ one x) ++ flat_map one xs) whole
begins_next one x xs front whole b = (b.0, b.1 ∙ ap (λ (l : List ℕ). l ++ b.0) (sym (append_assoc front (one x) (flat_map one xs))))

each_two : (f : ℕ → Result ⊤ BadRecord) (i a b : ℕ) → each f i a ≡ Ok tt → each f (i + a) b ≡ Ok tt → each f i (a + b) ≡ Ok tt
each_two f i zero b p q = ap (each f i) (let e : 0 + b ≡ b = omega arith in e) ∙ ap (λ (k : ℕ). each f k b) (let e : i ≡ i + 0 = omega arith in e) ∙ q
each_two f i (suc a) b p q =
    let s = bind_ok (f i) (λ _. each f (i + 1) a) tt p in
    let rest = each_two f (i + 1) a b s.2 (ap (λ (k : ℕ). each f k b) (let e : i + 1 + a ≡ i + suc a = omega arith in e) ∙ q) in
    ap (each f i) (let e : suc a + b ≡ suc (a + b) = omega arith in e) ∙ rw s.1 rest

pass_all : {A : Type 0} (one : A → List ℕ) (w stop : ℕ) (at : ℕ → ℕ) (whole : List ℕ) (Fits : A → Type 0) (f : ℕ → Result ⊤ BadRecord)
    → ((x : A) → length (one x) ≡ w) → ((i : ℕ) → at (i + 1) ≡ at i + w)
    → ((i : ℕ) (x : A) (front : List ℕ) → i < stop → length front ≡ at i → Begins (front ++ one x) whole → Fits x → f i ≡ Ok tt)
    → (xs : List A) (i : ℕ) (front : List ℕ) → i + length xs ≤ stop → length front ≡ at i → Begins (front ++ flat_map one xs) whole → AllByRecursion Fits xs → each f i (length xs) ≡ Ok tt
pass_all one w stop at whole Fits f size next step [] i front le is b all = refl
pass_all one w stop at whole Fits f size next step (x ∷ xs) i front le is b all =
    let again = begins_next one x xs front whole b in
    let here = step i x front (omega (arith, le)) is (begins_less (front ++ one x) (flat_map one xs) whole again) all.0 in
    let rest = pass_all one w stop at whole Fits f size next step xs (i + 1) (front ++ one x) (omega (arith, le)) (omega (arith, is, next i, size x, length-append front (one x))) again all.1 in
    rw here rest

-- ---- one member passes

most_ok : (at bound got : ℕ) → got ≤ bound → at_most at bound got ≡ Ok tt
unfolding at_most
most_ok at bound got le = ap (λ (b : Bool). cond b (Err (wrong at bound got)) (Ok tt)) (le-ltb _ _ le)

kind_small : (i : SlogItem) → (1 ≤ item_kind i) × (item_kind i ≤ 4)
kind_small (AllocOf x p) = (omega arith, omega arith)
kind_small (FreeOf p) = (omega arith, omega arith)
kind_small (CreateOf x e) = (omega arith, omega arith)
kind_small (DropOf x e) = (omega arith, omega arith)

pub kind_read : (i : SlogItem) (at : ℕ) (front whole : List ℕ) → length front ≡ at → Begins (front ++ slog_item_bytes i) whole → field 1 at whole ≡ item_kind i
kind_read i at front whole is b =
    let a = spelled 1 (item_kind i) in
    let b8 = spelled 8 (item_xid i) in
    let b4 = spelled 4 (item_number i) in
    let two : Begins ((front ++ (a ++ b8)) ++ b4) whole = (b.0, b.1 ∙ ap (λ (l : List ℕ). l ++ b.0) (sym (append_assoc front (a ++ b8) b4))) in
    let one = begins_less (front ++ (a ++ b8)) b4 whole two in
    let first : Begins ((front ++ a) ++ b8) whole = (one.0, one.1 ∙ ap (λ (l : List ℕ). l ++ one.0) (sym (append_assoc front a b8))) in
    let k = kind_small i in
    field_last 1 (item_kind i) at front whole (sym is) (omega (arith, k.1)) (begins_less (front ++ a) b8 whole first)

free_read : (p at : ℕ) (front whole : List ℕ) → length front ≡ at → Begins (front ++ slog_item_bytes (FreeOf p)) whole → field 8 (at + 1) whole ≡ 0
free_read p at front whole is b =
    let a = spelled 1 2 in
    let b8 = spelled 8 0 in
    let b4 = spelled 4 p in
    let two : Begins ((front ++ (a ++ b8)) ++ b4) whole = (b.0, b.1 ∙ ap (λ (l : List ℕ). l ++ b.0) (sym (append_assoc front (a ++ b8) b4))) in
    let one = begins_less (front ++ (a ++ b8)) b4 whole two in
    let first : Begins ((front ++ a) ++ b8) whole = (one.0, one.1 ∙ ap (λ (l : List ℕ). l ++ one.0) (sym (append_assoc front a b8))) in
    field_last 8 0 (at + 1) (front ++ a) whole (omega (arith, is, length-append front a, length-spelled 1 2)) (omega arith) first

number_small : (k : ℕ) → item_most k < 256 ^ 4
number_small k = small (ltb 2 k)
  where
    small : (b : Bool) → cond b 31 29999 < 256 ^ 4
    small true = omega arith
    small false = omega arith

pub number_read : (i : SlogItem) (at : ℕ) (front whole : List ℕ) → ItemFits i → length front ≡ at → Begins (front ++ slog_item_bytes i) whole → field 4 (at + 9) whole ≡ item_number i
number_read i at front whole fits is b =
    let a = spelled 1 (item_kind i) in
    let b8 = spelled 8 (item_xid i) in
    let b4 = spelled 4 (item_number i) in
    let two : Begins ((front ++ (a ++ b8)) ++ b4) whole = (b.0, b.1 ∙ ap (λ (l : List ℕ). l ++ b.0) (sym (append_assoc front (a ++ b8) b4))) in
    field_last 4 (item_number i) (at + 9) (front ++ (a ++ b8)) whole (omega (arith, is, length-append front (a ++ b8), length-append a b8, length-spelled 1 (item_kind i), length-spelled 8 (item_xid i))) (omega (arith, fits, number_small (item_kind i))) two

kind_ok : (base i : ℕ) (whole : List ℕ) (x : SlogItem) (front : List ℕ) → length front ≡ base + 13 * i → Begins (front ++ slog_item_bytes x) whole → kind_check base whole i ≡ Ok tt
unfolding kind_check
kind_ok base i whole x front is b =
    let at = base + 13 * i in
    let read = kind_read x at front whole is b in
    let k = kind_small x in
    ap (λ (c : Bool). cond c (Err (wrong at 4 0)) (at_most at 4 (field 1 at whole))) (ne_eqb (field 1 at whole) 0 (λ e. omega (arith, e, read, k.0)))
    ∙ most_ok at 4 (field 1 at whole) (omega (arith, read, k.1))

free_ok : (x : SlogItem) (at : ℕ) (front whole : List ℕ) → length front ≡ at → Begins (front ++ slog_item_bytes x) whole → cond (eqb (item_kind x) 2) (expect (at + 1) 0 (field 8 (at + 1) whole)) (Ok tt) ≡ Ok tt
free_ok (AllocOf x p) at front whole is b = refl
free_ok (FreeOf p) at front whole is b = expect_same (at + 1) 0 (field 8 (at + 1) whole) (sym (free_read p at front whole is b))
free_ok (CreateOf x e) at front whole is b = refl
free_ok (DropOf x e) at front whole is b = refl

item_ok : (base i : ℕ) (whole : List ℕ) (x : SlogItem) (front : List ℕ) → ItemFits x → length front ≡ base + 13 * i → Begins (front ++ slog_item_bytes x) whole → item_check base whole i ≡ Ok tt
unfolding item_check
item_ok base i whole x front fits is b =
    let at = base + 13 * i in
    let kind = kind_read x at front whole is b in
    let number = number_read x at front whole fits is b in
    let free : cond (eqb (field 1 at whole) 2) (expect (at + 1) 0 (field 8 (at + 1) whole)) (Ok tt) ≡ Ok tt =
    ap (λ (k : ℕ). cond (eqb k 2) (expect (at + 1) 0 (field 8 (at + 1) whole)) (Ok tt)) kind ∙ free_ok x at front whole is b in
    let most : field 4 (at + 9) whole ≤ item_most (field 1 at whole) = rw (kind, number) fits in
    rw free (most_ok (at + 9) (item_most (field 1 at whole)) (field 4 (at + 9) whole) most)

pub pair_read : (p : ℕ × ℕ) (at : ℕ) (front whole : List ℕ) → p.0 < 2 ^ 64 → length front ≡ at → Begins (front ++ pair_bytes p) whole → field 8 at whole ≡ p.0
pair_read p at front whole fits is b =
    let a = spelled 8 p.0 in
    let first : Begins ((front ++ a) ++ spelled 8 p.1) whole = (b.0, b.1 ∙ ap (λ (l : List ℕ). l ++ b.0) (sym (append_assoc front a (spelled 8 p.1)))) in
    field_last 8 p.0 at front whole (sym is) fits (begins_less (front ++ a) (spelled 8 p.1) whole first)

pub heads_read : (p : ℕ × ℕ) (at : ℕ) (front whole : List ℕ) → HeadsFit p → length front ≡ at → Begins (front ++ pair_bytes p) whole → field 8 (at + 8) whole ≡ p.1
heads_read p at front whole fits is b =
    let a = spelled 8 p.0 in
    let first : Begins ((front ++ a) ++ spelled 8 p.1) whole = (b.0, b.1 ∙ ap (λ (l : List ℕ). l ++ b.0) (sym (append_assoc front a (spelled 8 p.1)))) in
    field_last 8 p.1 (at + 8) (front ++ a) whole (omega (arith, is, length-append front a, length-spelled 8 p.0)) (omega (arith, fits)) first

heads_ok : (opens i at : ℕ) (whole : List ℕ) (p : ℕ × ℕ) (front : List ℕ) → xid_at opens i ≡ at → HeadsFit p → length front ≡ at → Begins (front ++ pair_bytes p) whole → heads_check opens whole i ≡ Ok tt
unfolding heads_check
heads_ok opens i at whole p front here fits is b =
    let read : field 8 (xid_at opens i + 8) whole ≡ p.1 = ap (λ (k : ℕ). field 8 (k + 8) whole) here ∙ heads_read p at front whole fits is b in
    most_ok (xid_at opens i + 8) (2 ^ 62) (field 8 (xid_at opens i + 8) whole) (omega (arith, read, fits))

pub xid_before : (opens i : ℕ) → i < opens → xid_at opens i ≡ 17 + 16 * i
xid_before opens i lt = ap (λ (b : Bool). cond b (17 + 16 * i) (25 + 16 * i)) (lt-ltb _ _ lt)

pub xid_behind : (opens i : ℕ) → opens ≤ i → xid_at opens i ≡ 25 + 16 * i
xid_behind opens i le = ap (λ (b : Bool). cond b (17 + 16 * i) (25 + 16 * i)) (le-ltb _ _ le)

-- ---- each transaction is new

xid_ok : (opens i x next : ℕ) (whole : List ℕ) → field 8 (xid_at opens i) whole ≡ x → field 8 1 whole ≡ next → 1 ≤ x → x < next → is_among opens whole x i ≡ false → xid_check opens whole i ≡ Ok tt
unfolding xid_check
xid_ok opens i x next whole read is some below none =
    let bad = Err (wrong (xid_at opens i) 1 0) in
    ap (λ (v : ℕ). cond (is_new opens whole i v) (Ok tt) bad) read
    ∙ ap (λ (b : Bool). cond (cond b false (cond (ltb x (field 8 1 whole)) (cond (is_among opens whole x i) false true) false)) (Ok tt) bad) (ne_eqb x 0 (λ e. omega (arith, e, some)))
    ∙ ap (λ (b : Bool). cond (cond b (cond (is_among opens whole x i) false true) false) (Ok tt) bad) (lt-ltb x (field 8 1 whole) (omega (arith, is, below)))
    ∙ ap (λ (b : Bool). cond (cond b false true) (Ok tt) bad) none

-- those before are these
abbrev pub Seen : ℕ → List ℕ → ℕ → List ℕ → Type 0
Seen opens whole i seen = (y : ℕ) → is_among opens whole y i ≡ among y seen

pub seen_more : (opens i x : ℕ) (whole seen : List ℕ) → field 8 (xid_at opens i) whole ≡ x → Seen opens whole i seen → Seen opens whole (i + 1) (x ∷ seen)
seen_more opens i x whole seen read before y =
    ap (is_among opens whole y) (let e : i + 1 ≡ suc i = omega arith in e)
    ∙ ap (λ (v : ℕ). cond (eqb v y) true (is_among opens whole y i)) read
    ∙ ap (λ (b : Bool). cond (eqb x y) true b) (before y)

-- what is left behind a list
record Left (opens next i : ℕ) (whole : List ℕ) (more : List (ℕ × ℕ)) : Type 0 where
  pub last : List ℕ
  pub before : Seen opens whole i last
  pub new : AreNew next last more

pass_new : (opens next stop : ℕ) (at : ℕ → ℕ) (whole : List ℕ) (more : List (ℕ × ℕ)) → field 8 1 whole ≡ next → next < 2 ^ 64
    → ((i : ℕ) → at (i + 1) ≡ at i + 16) → (start : ℕ) → ((i : ℕ) → start ≤ i → i < stop → xid_at opens i ≡ at i)
    → (ps : List (ℕ × ℕ)) (i : ℕ) (front seen : List ℕ) → start ≤ i → i + length ps ≤ stop → length front ≡ at i → Begins (front ++ flat_map pair_bytes ps) whole → Seen opens whole i seen → AreNew next seen (ps ++ more)
    → (each (xid_check opens whole) i (length ps) ≡ Ok tt) × Left opens next (i + length ps) whole more
pass_new opens next stop at whole more is small on start place [] i front seen from le len b before new =
    (refl, subst (λ (k : ℕ). Left opens next k whole more) (let e : i ≡ i + 0 = omega arith in e) (record { last = seen; before = before; new = new }))
pass_new opens next stop at whole more is small on start place (p ∷ ps) i front seen from le len b before new =
    let again = begins_next pair_bytes p ps front whole b in
    let here = begins_less (front ++ pair_bytes p) (flat_map pair_bytes ps) whole again in
    let read : field 8 (xid_at opens i) whole ≡ p.0 = ap (λ (k : ℕ). field 8 k whole) (place i from (omega (arith, le))) ∙ pair_read p (at i) front whole (omega (arith, new.1, small)) len here in
    let ok = xid_ok opens i p.0 next whole read is new.0 new.1 (before p.0 ∙ new.2) in
    let rest = pass_new opens next stop at whole more is small on start place ps (i + 1) (front ++ pair_bytes p) (p.0 ∷ seen) (omega (arith, from)) (omega (arith, le)) (omega (arith, len, on i, length-pair p, length-append front (pair_bytes p))) again (seen_more opens i p.0 whole seen read before) new.3 in
    (rw ok rest.0, subst (λ (k : ℕ). Left opens next k whole more) (let e : i + 1 + length ps ≡ i + suc (length ps) = omega arith in e) rest.1)

-- ---- the whole

count_is : (at n : ℕ) (front whole : List ℕ) → length front ≡ at → n < 2 ^ 64 → Begins (front ++ spelled 8 n) whole → count_at at whole ≡ n
unfolding count_at
count_is at n front whole is fits b =
    let long : at + 8 ≤ length whole = omega (arith, is, ap length b.1, length-append (front ++ spelled 8 n) b.0, length-append front (spelled 8 n), length-spelled 8 n) in
    ap (λ (c : Bool). cond c 0 (field 8 at whole)) (le-ltb _ _ long) ∙ field_last 8 n at front whole (sym is) fits b

-- the parts of a Checkpoint, each with those before it
upto_head : ℕ → List ℕ
upto_head next = spelled 1 1 ++ spelled 8 next

upto_opens : ℕ → List (ℕ × ℕ) → List ℕ
upto_opens next opens = upto_head next ++ spelled 8 (length opens)

upto_aborted : ℕ → List (ℕ × ℕ) → List (ℕ × ℕ) → List ℕ
upto_aborted next opens aborted = upto_opens next opens ++ flat_map pair_bytes opens ++ spelled 8 (length aborted)

upto_items : ℕ → List (ℕ × ℕ) → List (ℕ × ℕ) → List SlogItem → List ℕ
upto_items next opens aborted items = upto_aborted next opens aborted ++ flat_map pair_bytes aborted ++ spelled 8 (length items)

whole_is : (next : ℕ) (opens aborted : List (ℕ × ℕ)) (items : List SlogItem) → checkpoint_bytes next (lists_bytes opens aborted items) ≡ (upto_items next opens aborted items ++ flat_map slog_item_bytes items) ++ spelled 1 0
unfolding upto_head upto_opens upto_aborted upto_items
whole_is next opens aborted items =
    ap (λ (l : List ℕ). l ++ spelled 1 0)
    (in_one_row (upto_head next) (spelled 8 (length opens)) (flat_map pair_bytes opens) (spelled 8 (length aborted)) (flat_map pair_bytes aborted) (spelled 8 (length items)) (flat_map slog_item_bytes items))

-- where each stands
record Stands (next : ℕ) (opens aborted : List (ℕ × ℕ)) (items : List SlogItem) (whole : List ℕ) : Type 0 where
  pub len_head : length (upto_head next) ≡ 9
  pub len_opens : length (upto_opens next opens) ≡ 17
  pub len_aborted : length (upto_aborted next opens aborted) ≡ 25 + 16 * length opens
  pub len_items : length (upto_items next opens aborted items) ≡ 33 + 16 * (length opens + length aborted)
  pub len_whole : length whole ≡ 34 + 16 * (length opens + length aborted) + 13 * length items
  pub head : Begins (upto_head next) whole
  pub opens_count : Begins (upto_opens next opens) whole
  pub opens_all : Begins (upto_opens next opens ++ flat_map pair_bytes opens) whole
  pub aborted_count : Begins (upto_aborted next opens aborted) whole
  pub aborted_all : Begins (upto_aborted next opens aborted ++ flat_map pair_bytes aborted) whole
  pub items_count : Begins (upto_items next opens aborted items) whole
  pub items_all : Begins (upto_items next opens aborted items ++ flat_map slog_item_bytes items) whole
  pub flag : Begins ((upto_items next opens aborted items ++ flat_map slog_item_bytes items) ++ spelled 1 0) whole

stands : (next : ℕ) (opens aborted : List (ℕ × ℕ)) (items : List SlogItem) → Stands next opens aborted items (checkpoint_bytes next (lists_bytes opens aborted items))
unfolding upto_head upto_opens upto_aborted upto_items
stands next opens aborted items =
    let whole = checkpoint_bytes next (lists_bytes opens aborted items) in
    let head = upto_head next in
    let to_opens = upto_opens next opens in
    let to_aborted = upto_aborted next opens aborted in
    let to_items = upto_items next opens aborted items in
    let pairs = flat_map pair_bytes opens in
    let others = flat_map pair_bytes aborted in
    let rest = flat_map slog_item_bytes items in
    let l0 : length head ≡ 9 = omega (arith, length-append (spelled 1 1) (spelled 8 next), length-spelled 1 1, length-spelled 8 next) in
    let l1 : length to_opens ≡ 17 = omega (arith, l0, length-append head (spelled 8 (length opens)), length-spelled 8 (length opens)) in
    let l2 : length to_aborted ≡ 25 + 16 * length opens = omega (arith, l1, length-append to_opens pairs, length-append (to_opens ++ pairs) (spelled 8 (length aborted)), length-pairs opens, length-spelled 8 (length aborted)) in
    let l3 : length to_items ≡ 33 + 16 * (length opens + length aborted) = omega (arith, l2, length-append to_aborted others, length-append (to_aborted ++ others) (spelled 8 (length items)), length-pairs aborted, length-spelled 8 (length items)) in
    let e = whole_is next opens aborted items in
    let l4 : length whole ≡ 34 + 16 * (length opens + length aborted) + 13 * length items = omega (arith, l3, ap length e, length-append to_items rest, length-append (to_items ++ rest) (spelled 1 0), length-items items, length-spelled 1 0) in
    let b7 : Begins ((to_items ++ rest) ++ spelled 1 0) whole = subst (λ (l : List ℕ). Begins l whole) e (begins_whole whole) in
    let b6 = begins_less (to_items ++ rest) (spelled 1 0) whole b7 in
    let b5 = begins_less to_items rest whole b6 in
    let b4 = begins_less (to_aborted ++ others) (spelled 8 (length items)) whole b5 in
    let b3 = begins_less to_aborted others whole b4 in
    let b2 = begins_less (to_opens ++ pairs) (spelled 8 (length aborted)) whole b3 in
    let b1 = begins_less to_opens pairs whole b2 in
    record { len_head = l0; len_opens = l1; len_aborted = l2; len_items = l3; len_whole = l4; head = begins_less head (spelled 8 (length opens)) whole b1; opens_count = b1; opens_all = b2; aborted_count = b3; aborted_all = b4; items_count = b5; items_all = b6; flag = b7 }

-- the counts that are read
record Counts (opens aborted items : ℕ) (whole : List ℕ) : Type 0 where
  pub opens_read : opens_in whole ≡ opens
  pub aborted_read : aborted_in whole ≡ aborted
  pub items_place : items_at whole ≡ 25 + 16 * (opens + aborted)
  pub items_read : items_in whole ≡ items
  pub end_place : end_at whole ≡ 33 + 16 * (opens + aborted) + 13 * items

counts : (next : ℕ) (opens aborted : List (ℕ × ℕ)) (items : List SlogItem) (whole : List ℕ) → Stands next opens aborted items whole → length opens < 2 ^ 64 → length aborted < 2 ^ 64 → length items < 2 ^ 64 → Counts (length opens) (length aborted) (length items) whole
unfolding opens_in aborted_in items_at items_in end_at upto_opens upto_aborted upto_items
counts next opens aborted items whole s fo fa fi =
    let a : opens_in whole ≡ length opens = count_is 9 (length opens) (upto_head next) whole s.len_head fo s.opens_count in
    let at2 : 17 + 16 * opens_in whole ≡ 17 + 16 * length opens = omega (arith, a) in
    let before2 = upto_opens next opens ++ flat_map pair_bytes opens in
    let n2 : length before2 ≡ 17 + 16 * length opens = omega (arith, s.len_opens, length-append (upto_opens next opens) (flat_map pair_bytes opens), length-pairs opens) in
    let b : aborted_in whole ≡ length aborted = ap (λ (k : ℕ). count_at k whole) at2 ∙ count_is (17 + 16 * length opens) (length aborted) before2 whole n2 fa s.aborted_count in
    let at3 : items_at whole ≡ 25 + 16 * (length opens + length aborted) = omega (arith, a, b) in
    let before3 = upto_aborted next opens aborted ++ flat_map pair_bytes aborted in
    let n3 : length before3 ≡ 25 + 16 * (length opens + length aborted) = omega (arith, s.len_aborted, length-append (upto_aborted next opens aborted) (flat_map pair_bytes aborted), length-pairs aborted) in
    let c : items_in whole ≡ length items = ap (λ (k : ℕ). count_at k whole) at3 ∙ count_is (25 + 16 * (length opens + length aborted)) (length items) before3 whole n3 fi s.items_count in
    record { opens_read = a; aborted_read = b; items_place = at3; items_read = c; end_place = omega (arith, at3, c) }

end_passes : (next : ℕ) (opens aborted : List (ℕ × ℕ)) (items : List SlogItem) (whole : List ℕ) → Stands next opens aborted items whole → Counts (length opens) (length aborted) (length items) whole → end_check whole ≡ Ok tt
unfolding end_check
end_passes next opens aborted items whole s n =
    let before = upto_items next opens aborted items ++ flat_map slog_item_bytes items in
    let at : end_at whole ≡ length before = omega (arith, n.end_place, s.len_items, length-append (upto_items next opens aborted items) (flat_map slog_item_bytes items), length-items items) in
    let zero : field 1 (end_at whole) whole ≡ 0 = field_last 1 0 (end_at whole) before whole at (omega arith) s.flag in
    either_ok (ltb (end_at whole) (length whole)) (expect (end_at whole) 0 (field 1 (end_at whole) whole)) (expect_same (end_at whole) 0 (field 1 (end_at whole) whole) (sym zero))

kinds_pass : (next : ℕ) (opens aborted : List (ℕ × ℕ)) (items : List SlogItem) (whole : List ℕ) → Stands next opens aborted items whole → Counts (length opens) (length aborted) (length items) whole → AllByRecursion ItemFits items → each (kind_check (items_at whole + 8) whole) 0 (kinds_in whole) ≡ Ok tt
unfolding kinds_in
kinds_pass next opens aborted items whole s n fit =
    let base = 33 + 16 * (length opens + length aborted) in
    let at : items_at whole + 8 ≡ base = omega (arith, n.items_place) in
    let many : min (items_in whole) ((length whole + 12 - (items_at whole + 8)) / 13) ≡ length items = omega (arith, n.items_place, n.items_read, s.len_whole) in
    ap (λ (k : ℕ). each (kind_check (items_at whole + 8) whole) 0 k) many
    ∙ ap (λ (b : ℕ). each (kind_check b whole) 0 (length items)) at
    ∙ pass_all slog_item_bytes 13 (length items) (λ i. base + 13 * i) whole ItemFits (kind_check base whole) length-item (λ i. omega arith) (λ i x front lt len b f. kind_ok base i whole x front len b) items 0 (upto_items next opens aborted items) (omega arith) (omega (arith, s.len_items)) s.items_all fit

items_pass : (next : ℕ) (opens aborted : List (ℕ × ℕ)) (items : List SlogItem) (whole : List ℕ) → Stands next opens aborted items whole → Counts (length opens) (length aborted) (length items) whole → AllByRecursion ItemFits items → each (item_check (items_at whole + 8) whole) 0 (items_in whole) ≡ Ok tt
items_pass next opens aborted items whole s n fit =
    let base = 33 + 16 * (length opens + length aborted) in
    let at : items_at whole + 8 ≡ base = omega (arith, n.items_place) in
    ap (λ (k : ℕ). each (item_check (items_at whole + 8) whole) 0 k) n.items_read
    ∙ ap (λ (b : ℕ). each (item_check b whole) 0 (length items)) at
    ∙ pass_all slog_item_bytes 13 (length items) (λ i. base + 13 * i) whole ItemFits (item_check base whole) length-item (λ i. omega arith) (λ i x front lt len b f. item_ok base i whole x front f len b) items 0 (upto_items next opens aborted items) (omega arith) (omega (arith, s.len_items)) s.items_all fit

heads_pass : (next : ℕ) (opens aborted : List (ℕ × ℕ)) (items : List SlogItem) (whole : List ℕ) → Stands next opens aborted items whole → Counts (length opens) (length aborted) (length items) whole → AllByRecursion HeadsFit opens → AllByRecursion HeadsFit aborted
    → each (heads_check (opens_in whole) whole) 0 (opens_in whole + aborted_in whole) ≡ Ok tt
heads_pass next opens aborted items whole s n fo fa =
    let a = length opens in
    let b = length aborted in
    ap (λ (k : ℕ). each (heads_check (opens_in whole) whole) 0 (opens_in whole + k)) n.aborted_read
    ∙ ap (λ (k : ℕ). each (heads_check k whole) 0 (k + b)) n.opens_read
    ∙ each_two (heads_check a whole) 0 a b
    (pass_all pair_bytes 16 a (λ i. 17 + 16 * i) whole HeadsFit (heads_check a whole) length-pair (λ i. omega arith) (λ i x front lt len bg f. heads_ok a i (17 + 16 * i) whole x front (xid_before a i lt) f len bg) opens 0 (upto_opens next opens) (omega arith) (omega (arith, s.len_opens)) s.opens_all fo)
    (ap (λ (k : ℕ). each (heads_check a whole) k b) (let e : 0 + a ≡ a = omega arith in e)
    ∙ heads_behind a b whole aborted (upto_aborted next opens aborted) refl s.len_aborted s.aborted_all fa)
  where
    heads_behind : (a b : ℕ) (whole : List ℕ) (aborted : List (ℕ × ℕ)) (front : List ℕ) → length aborted ≡ b → length front ≡ 25 + 16 * a → Begins (front ++ flat_map pair_bytes aborted) whole → AllByRecursion HeadsFit aborted → each (heads_check a whole) a b ≡ Ok tt
    heads_behind a b whole aborted front many len bg fa =
        ap (each (heads_check a whole) a) (sym many)
        ∙ pass_from a whole aborted a front (omega arith) len bg fa
      where
        pass_from : (a : ℕ) (whole : List ℕ) (ps : List (ℕ × ℕ)) (i : ℕ) (front : List ℕ) → a ≤ i → length front ≡ 25 + 16 * i → Begins (front ++ flat_map pair_bytes ps) whole → AllByRecursion HeadsFit ps → each (heads_check a whole) i (length ps) ≡ Ok tt
        pass_from a whole [] i front from len bg fa = refl
        pass_from a whole (p ∷ ps) i front from len bg fa =
            let again = begins_next pair_bytes p ps front whole bg in
            let here = heads_ok a i (25 + 16 * i) whole p front (xid_behind a i from) fa.0 len (begins_less (front ++ pair_bytes p) (flat_map pair_bytes ps) whole again) in
            let rest = pass_from a whole ps (i + 1) (front ++ pair_bytes p) (omega (arith, from)) (omega (arith, len, length-pair p, length-append front (pair_bytes p))) again fa.1 in
            rw here rest

xids_pass : (next : ℕ) (opens aborted : List (ℕ × ℕ)) (items : List SlogItem) (whole : List ℕ) → Stands next opens aborted items whole → Counts (length opens) (length aborted) (length items) whole → field 8 1 whole ≡ next → next < 2 ^ 64 → AreNew next [] (opens ++ aborted)
    → each (xid_check (opens_in whole) whole) 0 (opens_in whole + aborted_in whole) ≡ Ok tt
xids_pass next opens aborted items whole s n is small new =
    let a = length opens in
    let b = length aborted in
    let first = pass_new a next a (λ i. 17 + 16 * i) whole aborted is small (λ i. omega arith) 0 (λ i from lt. xid_before a i lt) opens 0 (upto_opens next opens) [] (omega arith) (omega arith) (omega (arith, s.len_opens)) s.opens_all (λ y. refl) new in
    let left = subst (λ (k : ℕ). Left a next k whole aborted) (let e : 0 + a ≡ a = omega arith in e) first.1 in
    let new2 : AreNew next left.last (aborted ++ []) = subst (AreNew next left.last) (sym (append-nil aborted)) left.new in
    let second = pass_new a next (a + b) (λ i. 25 + 16 * i) whole [] is small (λ i. omega arith) a (λ i from lt. xid_behind a i from) aborted a (upto_aborted next opens aborted) left.last (omega arith) (omega arith) (omega (arith, s.len_aborted)) s.aborted_all left.before new2 in
    ap (λ (k : ℕ). each (xid_check (opens_in whole) whole) 0 (opens_in whole + k)) n.aborted_read
    ∙ ap (λ (k : ℕ). each (xid_check k whole) 0 (k + b)) n.opens_read
    ∙ each_two (xid_check a whole) 0 a b first.0 (ap (λ (k : ℕ). each (xid_check a whole) k b) (let e : 0 + a ≡ a = omega arith in e) ∙ second.0)

next_ok : (next : ℕ) → 1 ≤ next → next ≤ 2 ^ 63 + 2 ^ 62 → next_check next ≡ Ok tt
unfolding next_check
next_ok next some le =
    ap (λ (b : Bool). cond b (Err (wrong 1 1 0)) (at_most 1 (2 ^ 63 + 2 ^ 62) next)) (ne_eqb next 0 (λ e. omega (arith, e, some))) ∙ most_ok 1 (2 ^ 63 + 2 ^ 62) next le

lists_all : (whole : List ℕ) → each (item_check (items_at whole + 8) whole) 0 (items_in whole) ≡ Ok tt → next_check (field 8 1 whole) ≡ Ok tt → each (heads_check (opens_in whole) whole) 0 (opens_in whole + aborted_in whole) ≡ Ok tt
    → each (xid_check (opens_in whole) whole) 0 (opens_in whole + aborted_in whole) ≡ Ok tt → list_checks whole ≡ Ok tt
unfolding list_checks
lists_all whole items next heads xids = rw (items, next, heads) xids

checkpoint_all : (whole : List ℕ) → end_check whole ≡ Ok tt → each (kind_check (items_at whole + 8) whole) 0 (kinds_in whole) ≡ Ok tt → end_at whole + 1 ≡ length whole → list_checks whole ≡ Ok tt → checkpoint_checks whole ≡ Ok tt
unfolding checkpoint_checks
checkpoint_all whole end kinds len lists = rw (end, kinds, expect_same 0 (end_at whole + 1) (length whole) len) lists

-- members make a Checkpoint that passes
pub members_pass : (next : ℕ) (opens aborted : List (ℕ × ℕ)) (items : List SlogItem) → MembersFit next opens aborted items → (next < 2 ^ 64) × (checkpoint_checks (checkpoint_bytes next (lists_bytes opens aborted items)) ≡ Ok tt)
members_pass next opens aborted items fit =
    let whole = checkpoint_bytes next (lists_bytes opens aborted items) in
    let small : next < 2 ^ 64 = omega (arith, fit.next_fits) in
    let s = stands next opens aborted items in
    let n = counts next opens aborted items whole s fit.opens_fit.0 fit.aborted_fit.0 fit.items_fit.0 in
    let is = checkpoint_next next (lists_bytes opens aborted items) small in (
      small,
      checkpoint_all whole (end_passes next opens aborted items whole s n) (kinds_pass next opens aborted items whole s n fit.items_fit.1) (omega (arith, n.end_place, s.len_whole))
          (lists_all whole (items_pass next opens aborted items whole s n fit.items_fit.1) (ap next_check is ∙ next_ok next fit.some fit.next_fits) (heads_pass next opens aborted items whole s n fit.opens_fit.1 fit.aborted_fit.1) (xids_pass next opens aborted items whole s n is small fit.once)),
    )
