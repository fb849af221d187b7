-- Lists of what is left, whose next one goes.
use Rattle.std.proofs.Common.{◌≡◌, ℕ, zero, suc, ◌+◌, ◌-◌, ◌≤◌, List, [], ◌∷◌, ◌++◌, length, take, reverse, refl, sym, ◌∙◌, ap, subst, arith}
use Rattle.std.specs.List.{AllByRecursion}
use Rattle.std.proofs.lemmas.List.{length-append, take_at, reverse-append, reverse-reverse}
use Rattle.ctr_undo.specs.declared.list.UndoItem.{UndoItem}
use Rattle.ctr_undo.specs.declared.list.UndoItem.TheVariants.{Slog, Orphan}
use Rattle.ctr_undo.specs.Left.{UndoLeft, left_in, IsUndoOver, Goes}
use Rattle.ctr_undo.specs.Series.{LeadsOn}
use Rattle.ctr_undo.specs.Turns.{steps_for}

-- ---- lists

pub nil_of : {A : Type 0} (l : List A) → length l ≡ 0 → l ≡ []
nil_of [] none = refl
nil_of (x ∷ l) none = absurd (omega (arith, none))

-- what all of a list have the last one has
pub last_has : {A : Type 0} (P : A → Type 0) (l front : List A) (x : A) → l ≡ front ++ x ∷ [] → AllByRecursion P l → P x
last_has P l front x is all = behind front (subst (AllByRecursion P) is all)
  where
    behind : (front : List _) → AllByRecursion P (front ++ x ∷ []) → P x
    behind [] all = all.0
    behind (y ∷ front) all = behind front all.1

pub some_in : {A : Type 0} (l front : List A) (x : A) → l ≡ front ++ x ∷ [] → l ≡ [] → ⊥
some_in l front x is none = absurd (lower (length front) (sym (length-append front (x ∷ [])) ∙ ap length (sym is ∙ none)))
  where
    lower : (n : ℕ) → n + 1 ≡ 0 → ⊥
    lower n is = omega (arith, is)

-- without the last one
pub all_but_last : {A : Type 0} (l front : List A) (x : A) → l ≡ front ++ x ∷ [] → take (length l - 1) l ≡ front
all_but_last l front x is = subst (λ m. take (length m - 1) m ≡ front) (sym is) (take_at front (x ∷ []) (length (front ++ x ∷ []) - 1) (omega (arith, length-append front (x ∷ []))))

-- the last one is the first of the reversed list
pub first_of_reversed : {A : Type 0} (l front : List A) (x : A) → l ≡ front ++ x ∷ [] → reverse l ≡ x ∷ reverse front
first_of_reversed l front x is = ap reverse is ∙ reverse-append front (x ∷ [])

pub reversed_behind : {A : Type 0} (l rest : List A) (x : A) → reverse l ≡ x ∷ rest → reverse (take (length l - 1) l) ≡ rest
reversed_behind l rest x is =
    let back = sym (reverse-reverse l) ∙ ap reverse is ∙ reverse-append (x ∷ []) rest in
    ap reverse (all_but_last l (reverse rest) x back) ∙ reverse-reverse rest

-- ---- what is left

pub same_left : (u v : UndoLeft) → u.items ≡ v.items → u.orphans ≡ v.orphans → u ≡ v
same_left u v items orphans = λ i. record { items = items i; orphans = orphans i }

pub one_less : (item : UndoItem) (u v : UndoLeft) → Goes item u v → left_in u ≡ left_in v + 1
one_less (Slog i) u v goes = sums (length u.items) (length v.items) (length u.orphans) (length v.orphans) (ap length goes.0 ∙ length-append v.items (i ∷ [])) (ap length goes.1)
  where
    sums : (a b c d : ℕ) → a ≡ b + 1 → d ≡ c → a + c ≡ b + d + 1
    sums a b c d one two = omega (arith, one, two)
one_less (Orphan x) u v goes = sums (length u.items) (length v.items) (length u.orphans) (length v.orphans) (ap length goes.0) (ap length goes.1) (ap length goes.2)
  where
    sums : (a b c d : ℕ) → a ≡ 0 → b ≡ 0 → c ≡ suc d → a + c ≡ b + d + 1
    sums a b c d none nothing one = omega (arith, none, nothing, one)

pub turns_left : (n : ℕ) (u v : UndoLeft) → LeadsOn n u v → left_in u ≡ left_in v + n
turns_left zero u v is = ap left_in (sym is) ∙ nothing (left_in v)
  where
    nothing : (n : ℕ) → n ≡ n + 0
    nothing n = omega arith
turns_left (suc n) u v leads = sums (left_in u) (left_in leads.1) (left_in v) n (one_less leads.0 u leads.1 leads.2) (turns_left n leads.1 v leads.3)
  where
    sums : (a b c n : ℕ) → a ≡ b + 1 → b ≡ c + n → a ≡ c + suc n
    sums a b c n one two = omega (arith, one, two)

pub all_turns : (n : ℕ) (u v : UndoLeft) → LeadsOn n u v → IsUndoOver v → n ≡ left_in u
all_turns n u v leads over = sums n (left_in u) (length v.items) (length v.orphans) (turns_left n u v leads) (ap length over.0) (ap length over.1)
  where
    sums : (n a b c : ℕ) → a ≡ b + c + n → b ≡ 0 → c ≡ 0 → n ≡ a
    sums n a b c one two three = omega (arith, one, two, three)

-- who has a next one isn't over
pub not_over : (item : UndoItem) (u v : UndoLeft) → Goes item u v → IsUndoOver u → ⊥
not_over (Slog i) u v goes over = some_in u.items v.items i goes.0 over.0
not_over (Orphan x) u v goes over = absurd (let e = sym goes.2 ∙ over.1 in cc)

-- an item takes two steps, a mark one
pub steps_few : (item : UndoItem) (old new : ℕ) → new ≡ old + steps_for item → new ≤ old + 2
steps_few (Slog i) old new is = omega (arith, is)
steps_few (Orphan x) old new is = omega (arith, is)
