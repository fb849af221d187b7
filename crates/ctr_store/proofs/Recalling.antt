-- What is remembered of the places of keys, as pages change.
use Rattle.std.proofs.Common.{◌≡◌, ◌≢◌, inl, inr, ⊎_elim, ◌⊎◌, ℕ, zero, suc, ◌+◌, ◌-◌, ◌<◌, ◌≤◌, if◌then◌else◌, Bool, true, false, List, [], ◌∷◌, ◌++◌, length, take, drop, replicate, refl, sym, ◌∙◌, ap, subst, arith, append_assoc, length-append}
use Rattle.std.proofs.lemmas.List.{take-append-drop, length-take-le, drop_at}
use Rattle.ctr_rec.specs.bytes_Fields.{field}
use Rattle.ctr_rec.specs.declared.record.Overlay.{Overlay}
use Rattle.ctr_rec.proofs.bytes_FieldLaws.{field-append, field-drop}
use Rattle.ctr_base.specs.pool_Pages.{overlaid_by}
use Rattle.ctr_rec.specs.declared.record.Record.{Record}
use Rattle.ctr_base.specs.redo_Overlaid.{touches, changed_by}
use Rattle.ctr_base.specs.redo_States.{page_limit, State, pages_after, step, page_at}
use Rattle.ctr_directory.specs.declared.directory.Directory.{Directory}
use Rattle.ctr_directory.specs.declared.slots.Span.{Span}
use Rattle.ctr_directory.specs.Keys.{SaysSameOutside}
use Rattle.ctr_directory.specs.Chains.{ChangesPage}
use Rattle.ctr_directory.specs.Exact.{IsExact}
use Rattle.ctr_store.specs.Parts.{IsExactOver}

-- behind a record that is on no page all are as they were
same_pages : (r : Record) → ((p : ℕ) → touches r p ≡ false) → (p : ℕ) (bs : List (List ℕ)) → pages_after p r bs ≡ bs
same_pages r off p [] = refl
same_pages r off p (b ∷ bs) = λ i. (if off p i then changed_by r b else b) ∷ same_pages r off (p + 1) bs i

-- a page is as it was behind a record that isn't on it
page_stays : (k q : ℕ) (r : Record) (ps : List (List ℕ)) → touches r (k + q) ≡ false → page_at q (pages_after k r ps) ≡ page_at q ps
page_stays k q r [] off = refl
page_stays k zero r (b ∷ bs) off =
    let same : k + 0 ≡ k = omega arith in
    ap (λ (c : _). if c then changed_by r b else b) (ap (touches r) (sym same) ∙ off)
page_stays k (suc q) r (b ∷ bs) off =
    let same : k + suc q ≡ k + 1 + q = omega arith in
    page_stays (k + 1) q r bs (ap (touches r) (sym same) ∙ off)

-- a page that may be counted is one of the state's
pub low_page : (p n : ℕ) → p < n → n ≤ 30000 → p < page_limit
unfolding page_limit
low_page p n lt le = omega (arith, lt, le)

-- the state is the same
pub exact_same : (x y : State) (d : Directory) → y ≡ x → IsExactOver x d → IsExactOver y d
exact_same x y d same exact = subst (λ (s : State). IsExactOver s d) (sym same) exact

-- a record more, which is on no page
pub exact_off : (x : State) (r : Record) (d : Directory) → ((p : ℕ) → touches r p ≡ false) → IsExactOver x d → IsExactOver (step r x) d
exact_off x r d off exact = subst (λ (ps : List (List ℕ)). IsExact x.counted (λ p. page_at p ps) d) (sym (same_pages r off 0 x.pages)) exact

-- behind one that is on a page, this one alone has other bytes
pub page_changes : (x : State) (r : Record) (number : ℕ) (span : Span) (before after : List ℕ) → ((q : ℕ) → q ≢ number → touches r q ≡ false) → page_at number x.pages ≡ before → page_at number (step r x).pages ≡ after
    → SaysSameOutside span before after → ChangesPage number span before after (λ p. page_at p x.pages) (λ p. page_at p (step r x).pages)
page_changes x r number span before after others was is outside = record {
  was = was;
  is = is;
  outside = outside;
  others = λ q other.
      let same : 0 + q ≡ q = omega arith in
      page_stays 0 q r x.pages (ap (touches r) same ∙ others q other);
}

-- ---- the bytes that an overlay changes

-- a field of no bytes
field_none : (n k : ℕ) (a b : List ℕ) → n ≡ 0 → field n k a ≡ field n k b
unfolding field
field_none n k a b none = subst (λ m. field m k a ≡ field m k b) (sym none) refl

module _ (at : ℕ) (bytes body : List ℕ) (fits : at + length bytes ≤ length body) where
  abbrev laid : List ℕ
  laid = take at body ++ bytes ++ drop (at + length bytes) body

  short : length (take at body) ≡ at
  short = length-take-le at body (omega (arith, fits))

  before_laid : (n k : ℕ) → k + n ≤ at → field n k laid ≡ field n k body
  before_laid n k le =
      ap (field n k) (append_assoc (take at body) bytes (drop (at + length bytes) body))
      ∙ field-append n k (take at body) (bytes ++ drop (at + length bytes) body) (omega (arith, le, short))
      ∙ sym (field-append n k (take at body) (drop at body) (omega (arith, le, short)))
      ∙ ap (field n k) (take-append-drop at body)

  behind_laid : (n k : ℕ) → at + length bytes ≤ k → field n k laid ≡ field n k body
  behind_laid n k le =
      let to = at + length bytes in
      let there : to + (k - to) ≡ k = omega (arith, le) in
      let long : length (take at body ++ bytes) ≡ to = length-append (take at body) bytes ∙ ap (λ m. m + length bytes) short in
      ap (λ m. field n m laid) (sym there)
      ∙ sym (field-drop n (k - to) to laid)
      ∙ ap (field n (k - to)) (drop_at (take at body ++ bytes) (drop to body) to long)
      ∙ field-drop n (k - to) to body
      ∙ ap (λ m. field n m body) there

-- an overlay that clears its page changes all, and another one its own bytes
pub clears : (span : Span) (before after : List ℕ) → span.from ≡ 0 → span.to ≡ 4096 → SaysSameOutside span before after
clears span before after from to n k on_page outside = field_none n k after before (⊎_elim (λ front. omega (arith, front, from)) (λ behind. omega (arith, behind, to, on_page)) outside)

pub lays : (o : Overlay) (span : Span) (body : List ℕ) → o.clear ≡ false → span.from ≡ o.offset → span.to ≡ o.offset + length o.bytes → o.offset + length o.bytes ≤ 4096 → length body ≡ 4096 → SaysSameOutside span body (overlaid_by o body)
lays o span body kept from to inside whole n k on_page outside =
    let same : overlaid_by o body ≡ laid o.offset o.bytes body (omega (arith, inside, whole)) = ap (λ b. let under = if b then replicate 4096 0 else body in take o.offset under ++ o.bytes ++ drop (o.offset + length o.bytes) under) kept in
    ap (field n k) same
    ∙ ⊎_elim
    (λ front. before_laid o.offset o.bytes body (omega (arith, inside, whole)) n k (omega (arith, front, from)))
    (λ behind. behind_laid o.offset o.bytes body (omega (arith, inside, whole)) n k (omega (arith, behind, to)))
    outside
