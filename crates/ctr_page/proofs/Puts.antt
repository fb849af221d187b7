-- What is put at a place, and behind it.
use Rattle.std.proofs.Common.{◌≡◌, ℕ, ◌+◌, ◌-◌, ◌≤◌, List, [], ◌++◌, length, take, drop, ℤ, to_z, of_z, w64, subst, refl, sym, ◌∙◌, ap, append_assoc, length-append, length-drop, arith}
use Rattle.std.specs.Prelude.{FitsSigned}
use Rattle.std.specs.Int.{cast_unsigned}
use Rattle.std.proofs.lemmas.Int.{to_z-of_z}
use Rattle.std.proofs.lemmas.List.{append-nil, take_at, drop_at, drop-drop, length-take-le}
use Rattle.ctr_rec.specs.bytes_Fields.{spelled, with_field}
use Rattle.ctr_rec.proofs.bytes_FieldLaws.{length-spelled, length-with_field}
use Rattle.ctr_rec.proofs.Laws.{put_more}
use Rattle.ctr_page.specs.Places.{start_of}
use Rattle.ctr_page.specs.Reading.{piece}
use Rattle.ctr_page.specs.Making.{PutsBytes}

-- a number
pub field_put : (n at x : ℕ) (a b : List ℕ) → at + n ≤ length a → b ≡ with_field n at x a → PutsBytes at (spelled n x) a b (at + n)
field_put n at x a b fits put = record {
  long = ap length put ∙ length-with_field n at x a fits;
  ends = omega (arith, length-spelled n x);
  adds = λ front old is filled. (put_more n x at (at + n) front old a b refl is filled put).1;
}

-- one thing behind another
pub puts_more : (at next end : ℕ) (x y a b c : List ℕ) → PutsBytes at x a b next → PutsBytes next y b c end → PutsBytes at (x ++ y) a c end
puts_more at next end x y a b c p q = record {
  long = q.long ∙ p.long;
  ends = omega (arith, p.ends, q.ends, length-append x y);
  adds = λ front old is filled.
      let here : next ≡ length (front ++ x) = omega (arith, p.ends, is, length-append front x) in
      q.adds (front ++ x) old here (p.adds front old is filled) ∙ ap (λ (l : List ℕ). l ++ drop end old) (append_assoc front x y);
}

-- bytes over those that were there
pub bytes_put : (at end : ℕ) (x a : List ℕ) → end ≡ at + length x → end ≤ length a → PutsBytes at x a (take at a ++ x ++ drop end a) end
bytes_put at end x a ends fits = record {
  long = omega (arith, ends, length-append (take at a ++ x) (drop end a), length-append (take at a) x, length-take-le at a (omega (arith, ends)), length-drop end a);
  ends = ends;
  adds = λ front old is filled.
      let before : take at a ≡ front = ap (λ (l : List ℕ). take at l) filled ∙ take_at front (drop at old) at (sym is) in
      let after : drop end a ≡ drop end old =
      ap (λ (k : ℕ). drop k a) ends ∙ sym (drop-drop (length x) at a)
      ∙ ap (λ (l : List ℕ). drop (length x) l) (ap (λ (l : List ℕ). drop at l) filled ∙ drop_at front (drop at old) at (sym is))
      ∙ drop-drop (length x) at old ∙ ap (λ (k : ℕ). drop k old) (sym ends) in
      ap (λ (l : List ℕ). l ++ x ++ drop end a) before ∙ ap (λ (l : List ℕ). front ++ x ++ l) after;
}

-- nothing
pub none_put : (at : ℕ) (a : List ℕ) → PutsBytes at [] a a at
none_put at a = record {
  long = refl;
  ends = omega arith;
  adds = λ front old is filled. filled ∙ ap (λ (l : List ℕ). l ++ drop at old) (sym (append-nil front));
}

-- at the front it is those bytes, and the rest as it was
pub put_front : (end : ℕ) (x a b : List ℕ) → PutsBytes 0 x a b end → b ≡ x ++ drop end a
put_front end x a b p = p.adds [] a refl refl

-- a key as the machine has it
pub key_put : (at end : ℕ) (key : ℤ) (a b : List ℕ) → FitsSigned w64 key → PutsBytes at (spelled 8 (cast_unsigned w64 (to_z w64 (of_z w64 key)))) a b end → PutsBytes at (spelled 8 (cast_unsigned w64 key)) a b end
key_put at end key a b fits p = subst (λ z. PutsBytes at (spelled 8 (cast_unsigned w64 z)) a b end) (to_z-of_z w64 key fits) p

-- up to the same end
pub ends_at : (at end wanted : ℕ) (x a b : List ℕ) → end ≡ wanted → PutsBytes at x a b end → PutsBytes at x a b wanted
ends_at at end wanted x a b same p = subst (λ e. PutsBytes at x a b e) same p

-- ---- pieces

-- the slice of what has a number and a size on a page
pub sliced : (number start size wanted : ℕ) (page : List ℕ) → start ≡ start_of size number → size ≡ wanted → take (start + size - start) (drop start page) ≡ piece (start_of wanted number) wanted page
sliced number start size wanted page is same =
    ap (λ (k : ℕ). take k (drop start page)) (let e : start + size - start ≡ size = omega arith in e)
    ∙ ap (λ (s : ℕ). piece s size page) is ∙ ap (λ (s : ℕ). piece (start_of s number) s page) same
