-- Tables that a session counts on and didn't make.
use Rattle.std.proofs.Common.{◌≡◌, ⊎_elim, inl, inr, ℕ, ◌==◌, Bool, true, false, cond, not, List, [], ◌∷◌, sym, ◌∙◌, ap, subst}
use Rattle.std.specs.Prelude.{filter}
use Rattle.std.proofs.lemmas.Bool.{false≢true, eq-eqb}
use Rattle.ctr_area.specs.Areas.{Title}
use Rattle.ctr_area.specs.Sound.{IsAmong}
use Rattle.ctr_versions.proofs.Keys.{known}
use Rattle.ctr_actions.specs.Facts.{Fact, IsOpen, HasPage, HasNoPageBut, HasBlank, HasSlot, HasCopy, HasTable}
use Rattle.ctr_writing.specs.ctr_session_world.kept_Tables.{IsTable, AreTables}

-- a table that this transaction didn't make
abbrev is_others : ℕ → Fact → Bool
is_others me (HasTable e title) = not (title.creator == me)
is_others me IsOpen = false
is_others me (HasPage p) = false
is_others me (HasNoPageBut ps) = false
is_others me (HasBlank p h) = false
is_others me (HasSlot e at slot) = false
is_others me (HasCopy e at v q) = false

abbrev pub others_of : ℕ → List Fact → List Fact
others_of me facts = filter (is_others me) facts

is_table : (me : ℕ) (f : Fact) → is_others me f ≡ true → IsTable f
is_table me (HasTable e title) is = tt
is_table me IsOpen is = absurd (false≢true is)
is_table me (HasPage p) is = absurd (false≢true is)
is_table me (HasNoPageBut ps) is = absurd (false≢true is)
is_table me (HasBlank p h) is = absurd (false≢true is)
is_table me (HasSlot e at slot) is = absurd (false≢true is)
is_table me (HasCopy e at v q) is = absurd (false≢true is)

-- an element of a list, kept or left out by the test
kept_or_not : {A : Type 0} (P : List A → Type 0) (test : A → Bool) (x : A) (xs : List A) → (test x ≡ true → P (x ∷ filter test xs)) → (test x ≡ false → P (filter test xs)) → P (filter test (x ∷ xs))
kept_or_not P test x xs keeps leaves = known (test x)
    (λ is. subst (λ b. P (cond b (x ∷ filter test xs) (filter test xs))) (sym is) (keeps is))
    (λ isnt. subst (λ b. P (cond b (x ∷ filter test xs) (filter test xs))) (sym isnt) (leaves isnt))

pub others_tables : (me : ℕ) (facts : List Fact) → AreTables (others_of me facts)
others_tables me [] = tt
others_tables me (f ∷ fs) = kept_or_not (λ l. AreTables l) (is_others me) f fs (λ is. (is_table me f is, others_tables me fs)) (λ isnt. others_tables me fs)

others_among : {A : Type 0} (test : A → Bool) (f : A) (xs : List A) → IsAmong f (filter test xs) → IsAmong f xs × (test f ≡ true)
others_among test f [] in_ = absurd in_
others_among test f (x ∷ xs) in_ = kept_or_not (λ l. IsAmong f l → IsAmong f (x ∷ xs) × (test f ≡ true)) test x xs
    (λ is in_. ⊎_elim (λ here. (inl here, ap test here ∙ is)) (λ there. let its = others_among test f xs there in (inr its.0, its.1)) in_)
    (λ isnt in_. let its = others_among test f xs in_ in (inr its.0, its.1)) in_

among_others : {A : Type 0} (test : A → Bool) (f : A) (xs : List A) → test f ≡ true → IsAmong f xs → IsAmong f (filter test xs)
among_others test f [] is in_ = absurd in_
among_others test f (x ∷ xs) is in_ = kept_or_not (λ l. IsAmong f l) test x xs
    (λ kept. ⊎_elim (λ here. inl here) (λ there. inr (among_others test f xs is there)) in_)
    (λ isnt. ⊎_elim (λ here. absurd (false≢true (sym isnt ∙ sym (ap test here) ∙ is))) (λ there. among_others test f xs is there) in_)

pub others_counted : (me : ℕ) (f : Fact) (facts : List Fact) → IsAmong f (others_of me facts) → IsAmong f facts
others_counted me f facts in_ = (others_among (is_others me) f facts in_).0

pub others_apart : (me e : ℕ) (title : Title) (facts : List Fact) → IsAmong (HasTable e title) (others_of me facts) → title.creator ≡ me → ⊥
others_apart me e title facts in_ is = false≢true (sym (ap not (eq-eqb title.creator me is)) ∙ (others_among (is_others me) (HasTable e title) facts in_).1)

pub counted_others : (me e : ℕ) (title : Title) (facts : List Fact) → (title.creator == me) ≡ false → IsAmong (HasTable e title) facts → IsAmong (HasTable e title) (others_of me facts)
counted_others me e title facts two in_ = among_others (is_others me) (HasTable e title) facts (ap not two) in_
