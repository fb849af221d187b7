-- The lists of open and aborted transactions, where heads of one of them are changed.
use Rattle.std.proofs.Common.{◌≡◌, ⊎_elim, inl, inr, ℕ, ◌+◌, ◌-◌, Bool, true, false, cond, List, [], ◌∷◌, ◌++◌, Option, Some, None, refl, sym, ◌∙◌, ap, subst, arith}
use Rattle.std.proofs.lemmas.Bool.{false≢true, eq-eqb, eqb-true, ne_eqb}
use Rattle.std.proofs.lemmas.Map.{keys-set_value}
use Rattle.std.specs.List.{AllByRecursion}
use Rattle.std.specs.Prelude.{◌==◌, ◌&&◌, not, unwrap_or, is_some, nat_lt, nat_eq}
use Rattle.ctr_area.specs.Areas.{Area}
use Rattle.ctr_area.specs.Images.{is_committed_in}
use Rattle.ctr_area.specs.Sound.{IsAmong, AreAllOnce, xids_in, AreReadable, AreBehind, AreCounted, AreOwned, AreKeyed, ArePointed, AreNamed, NumbersBelow, IsSoundArea}
use Rattle.ctr_area.proofs.meta_XidLaws.{in_head, in_rest, in_first, heads_set, heads_other}
use Rattle.ctr_area.specs.meta_Effects.{one_head_more, one_head_less, one_aborted_less}
use Rattle.ctr_area.specs.meta_Tables.{Tables, is_in, heads_in, heads_at, with_heads}
use Rattle.ctr_record_laws.proofs.Members.{among_front, among_rest, bit}
use Rattle.ctr_area.proofs.ctr_versions.Keys.{known}

-- ---- who is in a list

abbrev has_xid : ℕ → List ℕ → Bool
has_xid y [] = false
has_xid y (x ∷ xs) = cond (y == x) true (has_xid y xs)

in_xids : (y : ℕ) (ps : List (ℕ × ℕ)) → is_in y ps ≡ has_xid y (xids_in ps)
in_xids y [] = refl
in_xids y (p ∷ ps) =
    let rest = in_xids y ps in
    elim (y == p.0) as (λ b. is_some (cond b (Some p.1) (heads_at y ps)) ≡ cond b true (has_xid y (xids_in ps))) [ true ↦ refl | false ↦ rest ]

pub same_in : (y : ℕ) (ps qs : List (ℕ × ℕ)) → xids_in ps ≡ xids_in qs → is_in y ps ≡ is_in y qs
same_in y ps qs same_ = in_xids y ps ∙ ap (has_xid y) same_ ∙ sym (in_xids y qs)

pub among_in : (y : ℕ) (ps : List (ℕ × ℕ)) → IsAmong y (xids_in ps) → is_in y ps ≡ true
among_in y [] in_ = absurd in_
among_in y (p ∷ ps) (inl is) = in_head y p ps is
among_in y (p ∷ ps) (inr in_) = in_rest y p ps (among_in y ps in_)

pub in_among : (y : ℕ) (ps : List (ℕ × ℕ)) → is_in y ps ≡ true → IsAmong y (xids_in ps)
in_among y [] is = absurd (false≢true is)
in_among y (p ∷ ps) is = ⊎_elim (λ here. inl here) (λ there. inr (in_among y ps there)) (in_first y p ps is)

-- each of two lists once is in one of them
pub not_both : (xs ys : List ℕ) (y : ℕ) → AreAllOnce (xs ++ ys) → IsAmong y xs → IsAmong y ys → ⊥
not_both [] ys y once in_ too = in_
not_both (x ∷ xs) ys y once (inl is) too = once.0 (among_rest x xs ys (subst (λ y. IsAmong y ys) is too))
not_both (x ∷ xs) ys y once (inr in_) too = not_both xs ys y once.1 in_ too

pub once_parts : (xs ys : List ℕ) → AreAllOnce (xs ++ ys) → AreAllOnce xs × AreAllOnce ys
once_parts [] ys once = (tt, once)
once_parts (x ∷ xs) ys once =
    let rest = once_parts xs ys once.1 in
    (((λ in_. once.0 (among_front x xs ys in_)), rest.0), rest.1)

-- ---- what is told of each by its number

-- the heads of each are so many
abbrev pub Tells : (ℕ → ℕ) → List (ℕ × ℕ) → Type 0
Tells f ps = (y n : ℕ) → heads_at y ps ≡ Some n → n ≡ f y

none_some : (n : ℕ) → None ≡ Some n → ⊥
none_some n is = false≢true (ap (λ (o : Option ℕ). is_some o) is)

some_same : (m n : ℕ) → Some m ≡ Some n → m ≡ n
some_same m n is = ap (λ (o : Option ℕ). unwrap_or o 0) is

pub tells : (f : ℕ → ℕ) (ps : List (ℕ × ℕ)) → AllByRecursion (λ (p : ℕ × ℕ). p.1 ≡ f p.0) ps → Tells f ps
tells f [] all y n is = absurd (none_some n is)
tells f (p ∷ ps) all y n is = known (y == p.0)
    (λ here. some_same n p.1 (sym is ∙ ap (λ b. cond b (Some p.1) (heads_at y ps)) here) ∙ all.0 ∙ ap f (sym (eqb-true y p.0 here)))
    (λ other. tells f ps all.1 y n (sym (ap (λ b. cond b (Some p.1) (heads_at y ps)) other) ∙ is))

pub told : (f : ℕ → ℕ) (ps : List (ℕ × ℕ)) → AreAllOnce (xids_in ps) → Tells f ps → AllByRecursion (λ (p : ℕ × ℕ). p.1 ≡ f p.0) ps
told f [] once tell = tt
told f (p ∷ ps) once tell = (
  tell p.0 p.1 (ap (λ b. cond b (Some p.1) (heads_at p.0 ps)) (eq-eqb p.0 p.0 refl)),
  told f ps once.1 (λ y n is. tell y n (ap (λ b. cond b (Some p.1) (heads_at y ps))
      (ne_eqb y p.0 (λ same_. once.0 (in_among p.0 ps (subst (λ x. is_in x ps ≡ true) same_ (ap (λ (o : Option ℕ). is_some o) is))))) ∙ is)),
)

-- the heads that are looked up are those that are told
pub looked_up : (f : ℕ → ℕ) (x : ℕ) (ps : List (ℕ × ℕ)) → is_in x ps ≡ true → Tells f ps → heads_in x ps ≡ f x
looked_up f x ps there tell = by (heads_at x ps) refl there
  where
    by : (o : Option ℕ) → heads_at x ps ≡ o → is_some o ≡ true → heads_in x ps ≡ f x
    by None is some = absurd (false≢true some)
    by (Some n) is some = ap (λ (o : Option ℕ). unwrap_or o 0) is ∙ tell x n is

module _ (f g : ℕ → ℕ) (x : ℕ) (ps : List (ℕ × ℕ)) (there : is_in x ps ≡ true) (tell : Tells f ps) where
  -- other heads of one
  set_tells : (h : ℕ) → h ≡ g x → ((y : ℕ) → is_in y ps ≡ true → (x ≡ y → ⊥) → f y ≡ g y) → Tells g (with_heads x h ps)
  set_tells h here others y n is = known (x == y)
      (λ same_. let x_is = eqb-true x y same_ in
      some_same n h (sym is ∙ ap (λ y. heads_at y (with_heads x h ps)) (sym x_is) ∙ heads_set x h ps there) ∙ here ∙ ap g x_is)
      (λ other. let apart : x ≡ y → ⊥ = λ is. false≢true (sym other ∙ eq-eqb x y is) in
      let was : heads_at y ps ≡ Some n = sym (heads_other x h y ps apart) ∙ is in
      tell y n was ∙ others y (ap (λ (o : Option ℕ). is_some o) was) apart)

  -- one more
  pub raised : ((y : ℕ) → is_in y ps ≡ true → g y ≡ f y + bit (y == x)) → Tells g (with_heads x (heads_in x ps + 1) ps)
  raised more = set_tells (heads_in x ps + 1)
      (ap (λ n. n + 1) (looked_up f x ps there tell) ∙ sym (more x there ∙ ap (λ b. f x + bit b) (eq-eqb x x refl)))
      (λ y in_ apart. sym (more y in_ ∙ ap (λ b. f y + bit b) (ne_eqb y x (λ is. apart (sym is))) ∙ plain (f y)))
    where
      plain : (n : ℕ) → n + 0 ≡ n
      plain n = omega arith

  -- one less
  pub lowered : ((y : ℕ) → is_in y ps ≡ true → g y + bit (y == x) ≡ f y) → Tells g (with_heads x (heads_in x ps - 1) ps)
  lowered less = set_tells (heads_in x ps - 1)
      (ap (λ n. n - 1) (looked_up f x ps there tell ∙ sym (less x there) ∙ ap (λ b. g x + bit b) (eq-eqb x x refl)) ∙ back (g x))
      (λ y in_ apart. sym (less y in_) ∙ ap (λ b. g y + bit b) (ne_eqb y x (λ is. apart (sym is))) ∙ plain (g y))
    where
      plain : (n : ℕ) → n + 0 ≡ n
      plain n = omega arith

      back : (n : ℕ) → n + 1 - 1 ≡ n
      back n = omega arith

-- as many of each
pub retold : (f g : ℕ → ℕ) (ps : List (ℕ × ℕ)) → ((y : ℕ) → is_in y ps ≡ true → f y ≡ g y) → Tells f ps → Tells g ps
retold f g ps same_ tell y n is = tell y n is ∙ same_ y (ap (λ (o : Option ℕ). is_some o) is)

-- ---- tables with the same transactions

-- they differ in heads alone
pub record HaveSameXids (old new : Tables) : Type 0 where
  pub next : new.next ≡ old.next
  pub opens : xids_in new.opens ≡ xids_in old.opens
  pub aborted : xids_in new.aborted ≡ xids_in old.aborted
  pub items : new.items ≡ old.items

pub xids_set : (x h : ℕ) (ps : List (ℕ × ℕ)) → xids_in (with_heads x h ps) ≡ xids_in ps
xids_set x h ps = keys-set_value (nat_eq x) ps h

pub more_same : (x : ℕ) (tables : Tables) → HaveSameXids tables (one_head_more x tables)
more_same x tables = record { next = refl; opens = xids_set x (heads_in x tables.opens + 1) tables.opens; aborted = refl; items = refl }

pub aborted_less_same : (x : ℕ) (tables : Tables) → HaveSameXids tables (one_aborted_less x tables)
aborted_less_same x tables = record { next = refl; opens = refl; aborted = xids_set x (heads_in x tables.aborted - 1) tables.aborted; items = refl }

pub less_same : (x : ℕ) (tables : Tables) → HaveSameXids tables (one_head_less x tables)
less_same x tables =
    let opens_less : Tables = record tables { opens = with_heads x (heads_in x tables.opens - 1) tables.opens } in
    let same_opens : HaveSameXids tables opens_less = record { next = refl; opens = xids_set x (heads_in x tables.opens - 1) tables.opens; aborted = refl; items = refl } in
    let same_aborted : HaveSameXids tables (one_aborted_less x tables) = aborted_less_same x tables in
    elim (x == 0) as (λ b. HaveSameXids tables (cond b tables (cond (is_in x tables.opens) opens_less (one_aborted_less x tables)))) [
      | true ↦ record { next = refl; opens = refl; aborted = refl; items = refl }
      | false ↦ elim (is_in x tables.opens) as (λ b. HaveSameXids tables (cond b opens_less (one_aborted_less x tables))) [ true ↦ same_opens | false ↦ same_aborted ]
    ]

pub both_same : (a b c : Tables) → HaveSameXids a b → HaveSameXids b c → HaveSameXids a c
both_same a b c one two = record { next = two.next ∙ one.next; opens = two.opens ∙ one.opens; aborted = two.aborted ∙ one.aborted; items = two.items ∙ one.items }

pub same_committed : (old new : Tables) → HaveSameXids old new → is_committed_in new ≡ is_committed_in old
same_committed old new same_ = λ i x. nat_lt 0 x && (nat_lt x (same_.next i) && (not (same_in x new.opens old.opens same_.opens i) && not (same_in x new.aborted old.aborted same_.aborted i)))

-- soundness by the parts, of which the tables with other heads speak alike
pub carried : (counted : ℕ) (old new : Tables) (area : Area) → HaveSameXids old new → AreReadable area → AreBehind (is_committed_in old) area → AreCounted new area
    → AreOwned counted (xids_in old.opens) old.items area → AreKeyed area → ArePointed area → AreNamed (is_committed_in old) (xids_in old.opens) old.items area.title
    → NumbersBelow old.next (xids_in old.opens ++ xids_in old.aborted) area → IsSoundArea counted new area
carried counted old new area same_ readable behind counts owned keys pointers names below =
    let committed = sym (same_committed old new same_) in
    record {
      readable = readable;
      behind = subst (λ test. AreBehind test area) committed behind;
      counts = counts;
      owned = subst (λ items. AreOwned counted (xids_in new.opens) items area) (sym same_.items) (subst (λ live. AreOwned counted live old.items area) (sym same_.opens) owned);
      keys = keys;
      pointers = pointers;
      names = subst (λ items. AreNamed (is_committed_in new) (xids_in new.opens) items area.title) (sym same_.items)
          (subst (λ live. AreNamed (is_committed_in new) live old.items area.title) (sym same_.opens) (subst (λ test. AreNamed test (xids_in old.opens) old.items area.title) committed names));
      below = subst (λ next. NumbersBelow next (xids_in new.opens ++ xids_in new.aborted) area) (sym same_.next)
          (subst (λ xids. NumbersBelow old.next xids area) (λ i. sym same_.opens i ++ sym same_.aborted i) below);
    }
