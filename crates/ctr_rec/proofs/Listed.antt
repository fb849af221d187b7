-- Which members stand in lists of members: these.
use Rattle.std.proofs.Common.{◌≡◌, ℕ, ◌+◌, ◌*◌, ◌^◌, ◌<◌, ◌≤◌, List, [], ◌∷◌, ◌++◌, length, refl, sym, ap, subst, ◌∙◌, append_assoc, length-append, arith}
use Rattle.std.specs.List.{flat_map, AllByRecursion}
use Rattle.ctr_bytes.specs.Fields.{spelled, field}
use Rattle.ctr_bytes.proofs.FieldLaws.{length-spelled}
use Rattle.ctr_rec.specs.declared.record.SlogItem.{SlogItem}
use Rattle.ctr_rec.specs.declared.record.SlogItem.TheVariants.{AllocOf, FreeOf, CreateOf, DropOf}
use Rattle.ctr_rec.specs.Members.{pair_bytes, item_kind, item_xid, item_number, slog_item_bytes, lists_bytes, AreNew, HeadsFit, ItemFits, MembersFit, pairs_from, slog_item, items_from, behind_pairs, opens_listed, aborted_listed, slog_at, items_listed, XidFits}
use Rattle.ctr_rec.proofs.Laws.{Begins, begins_whole, begins_less, field_last}
use Rattle.ctr_rec.proofs.MemberLaws.{pair_read, heads_read, kind_read, number_read, length-pairs, length-items}

-- ---- transactions

PairFits : ℕ × ℕ → Type 0
PairFits p = (p.0 < 2 ^ 64) × HeadsFit p

-- one is before the others
next_one : (front one rest whole : List ℕ) → Begins (front ++ (one ++ rest)) whole → Begins ((front ++ one) ++ rest) whole
next_one front one rest whole b = (b.0, b.1 ∙ ap (λ (l : List ℕ). l ++ b.0) (sym (append_assoc front one rest)))

length-pair : (front : List ℕ) (p : ℕ × ℕ) → length (front ++ pair_bytes p) ≡ length front + 16
length-pair front p = omega (arith, length-append front (pair_bytes p), length-append (spelled 8 p.0) (spelled 8 p.1), length-spelled 8 p.0, length-spelled 8 p.1)

pairs_read : (ps : List (ℕ × ℕ)) (at : ℕ) (front whole : List ℕ) → AllByRecursion PairFits ps → length front ≡ at → Begins (front ++ flat_map pair_bytes ps) whole → pairs_from at (length ps) whole ≡ ps
unfolding pairs_from PairFits
pairs_read [] at front whole fits is b = refl
pairs_read (p ∷ ps) at front whole fits is b =
    let on = next_one front (pair_bytes p) (flat_map pair_bytes ps) whole b in
    let here = begins_less (front ++ pair_bytes p) (flat_map pair_bytes ps) whole on in
    let x = pair_read p at front whole fits.0.0 is here in
    let h = heads_read p at front whole fits.0.1 is here in
    let rest = pairs_read ps (at + 16) (front ++ pair_bytes p) whole fits.1 (omega (arith, is, length-pair front p)) on in
    ap (λ (k : ℕ). (k, field 8 (at + 8) whole) ∷ pairs_from (at + 16) (length ps) whole) x
    ∙ ap (λ (k : ℕ). (p.0, k) ∷ pairs_from (at + 16) (length ps) whole) h
    ∙ ap (λ (l : List (ℕ × ℕ)). p ∷ l) rest

first_fit : (next : ℕ) (seen : List ℕ) (ps qs : List (ℕ × ℕ)) → next ≤ 2 ^ 63 + 2 ^ 62 → AreNew next seen (ps ++ qs) → AllByRecursion HeadsFit ps → AllByRecursion PairFits ps
unfolding PairFits
first_fit next seen [] qs le new heads = tt
first_fit next seen (p ∷ ps) qs le new heads = ((omega (arith, new.1, le), heads.0), first_fit next (p.0 ∷ seen) ps qs le new.3 heads.1)

last_fit : (next : ℕ) (seen : List ℕ) (ps qs : List (ℕ × ℕ)) → next ≤ 2 ^ 63 + 2 ^ 62 → AreNew next seen (ps ++ qs) → AllByRecursion HeadsFit qs → AllByRecursion PairFits qs
unfolding PairFits
last_fit next seen [] [] le new heads = tt
last_fit next seen [] (q ∷ qs) le new heads = ((omega (arith, new.1, le), heads.0), last_fit next (q.0 ∷ seen) [] qs le new.3 heads.1)
last_fit next seen (p ∷ ps) qs le new heads = last_fit next (p.0 ∷ seen) ps qs le new.3 heads

-- ---- items

length-item : (front : List ℕ) (i : SlogItem) → length (front ++ slog_item_bytes i) ≡ length front + 13
length-item front i =
    omega (arith, length-append front (slog_item_bytes i), length-append (spelled 1 (item_kind i) ++ spelled 8 (item_xid i)) (spelled 4 (item_number i)), length-append (spelled 1 (item_kind i)) (spelled 8 (item_xid i)), length-spelled 1 (item_kind i), length-spelled 8 (item_xid i), length-spelled 4 (item_number i))

xid_read : (i : SlogItem) (at : ℕ) (front whole : List ℕ) → XidFits i → length front ≡ at → Begins (front ++ slog_item_bytes i) whole → field 8 (at + 1) whole ≡ item_xid i
xid_read i at front whole fits is b =
    let a = spelled 1 (item_kind i) in
    let b8 = spelled 8 (item_xid i) in
    let b4 = spelled 4 (item_number i) in
    let two : Begins ((front ++ (a ++ b8)) ++ b4) whole = next_one front (a ++ b8) b4 whole b in
    let one = begins_less (front ++ (a ++ b8)) b4 whole two in
    field_last 8 (item_xid i) (at + 1) (front ++ a) whole (omega (arith, is, length-append front a, length-spelled 1 (item_kind i))) fits (next_one front a b8 whole one)

-- an item by its parts is the item
again : (i : SlogItem) → slog_item (item_kind i) (item_xid i) (item_number i) ≡ i
unfolding slog_item
again (AllocOf x p) = refl
again (FreeOf p) = refl
again (CreateOf x e) = refl
again (DropOf x e) = refl

-- whatever its transaction, it is in its bounds
again_fits : (i : SlogItem) (x : ℕ) → ItemFits i → ItemFits (slog_item (item_kind i) x (item_number i))
unfolding slog_item
again_fits (AllocOf y p) x fits = fits
again_fits (FreeOf p) x fits = fits
again_fits (CreateOf y e) x fits = fits
again_fits (DropOf y e) x fits = fits

items_fit : (is : List SlogItem) (at : ℕ) (front whole : List ℕ) → AllByRecursion ItemFits is → length front ≡ at → Begins (front ++ flat_map slog_item_bytes is) whole → AllByRecursion ItemFits (items_from at (length is) whole)
unfolding items_from
items_fit [] at front whole fits is b = tt
items_fit (i ∷ is) at front whole fits long b =
    let on = next_one front (slog_item_bytes i) (flat_map slog_item_bytes is) whole b in
    let here = begins_less (front ++ slog_item_bytes i) (flat_map slog_item_bytes is) whole on in
    let k = kind_read i at front whole long here in
    let n = number_read i at front whole fits.0 long here in
    let x = field 8 (at + 1) whole in (
      subst (λ (a : ℕ). ItemFits (slog_item a x (field 4 (at + 9) whole))) (sym k) (subst (λ (a : ℕ). ItemFits (slog_item (item_kind i) x a)) (sym n) (again_fits i x fits.0)),
      items_fit is (at + 13) (front ++ slog_item_bytes i) whole fits.1 (omega (arith, long, length-item front i)) on,
    )

items_read : (is : List SlogItem) (at : ℕ) (front whole : List ℕ) → AllByRecursion ItemFits is → AllByRecursion XidFits is → length front ≡ at → Begins (front ++ flat_map slog_item_bytes is) whole → items_from at (length is) whole ≡ is
unfolding items_from
items_read [] at front whole fits xids long b = refl
items_read (i ∷ is) at front whole fits xids long b =
    let on = next_one front (slog_item_bytes i) (flat_map slog_item_bytes is) whole b in
    let here = begins_less (front ++ slog_item_bytes i) (flat_map slog_item_bytes is) whole on in
    let k = kind_read i at front whole long here in
    let x = xid_read i at front whole xids.0 long here in
    let n = number_read i at front whole fits.0 long here in
    let rest = items_read is (at + 13) (front ++ slog_item_bytes i) whole fits.1 xids.1 (omega (arith, long, length-item front i)) on in
    ap (λ (a : ℕ). slog_item a (field 8 (at + 1) whole) (field 4 (at + 9) whole) ∷ items_from (at + 13) (length is) whole) k
    ∙ ap (λ (a : ℕ). slog_item (item_kind i) a (field 4 (at + 9) whole) ∷ items_from (at + 13) (length is) whole) x
    ∙ ap (λ (a : ℕ). slog_item (item_kind i) (item_xid i) a ∷ items_from (at + 13) (length is) whole) n
    ∙ ap (λ (j : SlogItem). j ∷ items_from (at + 13) (length is) whole) (again i)
    ∙ ap (λ (l : List SlogItem). i ∷ l) rest

-- ---- all three lists

-- what is read of lists, and where each stands
pub record Listed (opens aborted : List (ℕ × ℕ)) (items : List SlogItem) (whole : List ℕ) : Type 0 where
  pub opens_are : opens_listed whole ≡ opens
  pub aborted_are : aborted_listed whole ≡ aborted
  pub items_fit_still : AllByRecursion ItemFits (items_listed whole)
  pub items_are : AllByRecursion XidFits items → items_listed whole ≡ items
  pub opens_count : field 8 0 whole ≡ length opens
  pub aborted_count : field 8 (behind_pairs 0 whole) whole ≡ length aborted
  pub items_count : field 8 (slog_at whole) whole ≡ length items
  pub long : length whole ≡ 24 + 16 * (length opens + length aborted) + 13 * length items

count_read : (at n : ℕ) (front whole : List ℕ) → n < 2 ^ 64 → length front ≡ at → Begins (front ++ spelled 8 n) whole → field 8 at whole ≡ n
count_read at n front whole fits is b = field_last 8 n at front whole (sym is) fits b

pub listed_members : (next : ℕ) (opens aborted : List (ℕ × ℕ)) (items : List SlogItem) → MembersFit next opens aborted items → Listed opens aborted items (lists_bytes opens aborted items)
listed_members next opens aborted items fit =
    let whole = lists_bytes opens aborted items in
    let c1 = spelled 8 (length opens) in
    let m1 = flat_map pair_bytes opens in
    let c2 = spelled 8 (length aborted) in
    let m2 = flat_map pair_bytes aborted in
    let c3 = spelled 8 (length items) in
    let m3 = flat_map slog_item_bytes items in
    let is : whole ≡ ((((c1 ++ m1) ++ c2) ++ m2) ++ c3) ++ m3 = ap (λ (l : List ℕ). l ++ (c3 ++ m3)) (sym (append_assoc (c1 ++ m1) c2 m2)) ∙ sym (append_assoc (((c1 ++ m1) ++ c2) ++ m2) c3 m3) in
    let b6 : Begins (((((c1 ++ m1) ++ c2) ++ m2) ++ c3) ++ m3) whole = subst (λ (l : List ℕ). Begins l whole) is (begins_whole whole) in
    let b5 = begins_less ((((c1 ++ m1) ++ c2) ++ m2) ++ c3) m3 whole b6 in
    let b4 = begins_less (((c1 ++ m1) ++ c2) ++ m2) c3 whole b5 in
    let b3 = begins_less ((c1 ++ m1) ++ c2) m2 whole b4 in
    let b2 = begins_less (c1 ++ m1) c2 whole b3 in
    let b1 = begins_less c1 m1 whole b2 in
    let l1 : length c1 ≡ 8 = length-spelled 8 (length opens) in
    let l2 : length (c1 ++ m1) ≡ 8 + 16 * length opens = omega (arith, l1, length-append c1 m1, length-pairs opens) in
    let l3 : length ((c1 ++ m1) ++ c2) ≡ 16 + 16 * length opens = omega (arith, l2, length-append (c1 ++ m1) c2, length-spelled 8 (length aborted)) in
    let l4 : length (((c1 ++ m1) ++ c2) ++ m2) ≡ 16 + 16 * (length opens + length aborted) = omega (arith, l3, length-append ((c1 ++ m1) ++ c2) m2, length-pairs aborted) in
    let l5 : length ((((c1 ++ m1) ++ c2) ++ m2) ++ c3) ≡ 24 + 16 * (length opens + length aborted) = omega (arith, l4, length-append (((c1 ++ m1) ++ c2) ++ m2) c3, length-spelled 8 (length items)) in
    let l6 : length whole ≡ 24 + 16 * (length opens + length aborted) + 13 * length items = omega (arith, ap length is, l5, length-append ((((c1 ++ m1) ++ c2) ++ m2) ++ c3) m3, length-items items) in
    let n1 : field 8 0 whole ≡ length opens = count_read 0 (length opens) [] whole fit.opens_fit.0 refl b1 in
    let p2 : behind_pairs 0 whole ≡ 8 + 16 * length opens = omega (arith, n1) in
    let n2 : field 8 (behind_pairs 0 whole) whole ≡ length aborted = ap (λ (k : ℕ). field 8 k whole) p2 ∙ count_read (8 + 16 * length opens) (length aborted) (c1 ++ m1) whole fit.aborted_fit.0 l2 b3 in
    let p3 : slog_at whole ≡ 16 + 16 * (length opens + length aborted) = omega (arith, p2, n2) in
    let n3 : field 8 (slog_at whole) whole ≡ length items = ap (λ (k : ℕ). field 8 k whole) p3 ∙ count_read (16 + 16 * (length opens + length aborted)) (length items) (((c1 ++ m1) ++ c2) ++ m2) whole fit.items_fit.0 l4 b5 in
    let at_items : items_listed whole ≡ items_from (24 + 16 * (length opens + length aborted)) (length items) whole =
    ap (λ (k : ℕ). items_from (slog_at whole + 8) k whole) n3 ∙ ap (λ (k : ℕ). items_from k (length items) whole) (let e : slog_at whole + 8 ≡ 24 + 16 * (length opens + length aborted) = omega (arith, p3) in e) in
    record {
      opens_are = ap (λ (k : ℕ). pairs_from (0 + 8) k whole) n1 ∙ ap (λ (k : ℕ). pairs_from k (length opens) whole) (let e : 0 + 8 ≡ 8 = omega arith in e)
          ∙ pairs_read opens 8 c1 whole (first_fit next [] opens aborted fit.next_fits fit.once fit.opens_fit.1) l1 b2;
      aborted_are = ap (λ (k : ℕ). pairs_from (behind_pairs 0 whole + 8) k whole) n2 ∙ ap (λ (k : ℕ). pairs_from k (length aborted) whole) (let e : behind_pairs 0 whole + 8 ≡ 16 + 16 * length opens = omega (arith, p2) in e)
          ∙ pairs_read aborted (16 + 16 * length opens) ((c1 ++ m1) ++ c2) whole (last_fit next [] opens aborted fit.next_fits fit.once fit.aborted_fit.1) l3 b4;
      items_fit_still = subst (AllByRecursion ItemFits) (sym at_items) (items_fit items (24 + 16 * (length opens + length aborted)) ((((c1 ++ m1) ++ c2) ++ m2) ++ c3) whole fit.items_fit.1 l5 b6);
      items_are = λ xids. at_items ∙ items_read items (24 + 16 * (length opens + length aborted)) ((((c1 ++ m1) ++ c2) ++ m2) ++ c3) whole fit.items_fit.1 xids l5 b6;
      opens_count = n1;
      aborted_count = n2;
      items_count = n3;
      long = l6;
    }
