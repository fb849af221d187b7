-- What a tree of what may follow reads, where it stops, and that it goes on everywhere.
use Rattle.std.proofs.Common.{◌≡◌, ◌⊎◌, ℕ, Bool, true, false, List, [], ◌∷◌, ◌++◌, Option, Some, None, refl, sym, ap, ◌∙◌, inl, inr}
use Rattle.std.specs.Prelude.{◌||◌, if◌then◌else◌}
use Rattle.ctr_lex.specs.declared.token.Token.{Token}
use Rattle.ctr_lex.specs.Tokens.{texts_of}
use Rattle.ctr_parse.specs.Trees.{Tree, ends_with, allows, behind, Outcome, read, wrong, missing, at_last, outcome, is_there, follow, choose, one_then, or_then, done}

-- what these tokens are read as
abbrev pub runs : {A : Type 0} → Tree A → List (List ℕ) → Option A
runs tree [] = ends_with tree
runs tree (t ∷ ts) = if allows tree t then runs (behind tree t) ts else None

-- the reading may go on to an end, wherever it stands
pub data Living {A : Type 0} : Tree A → Type 0 where
  lives : {tree : Tree A} (more : List (List ℕ)) (a : A) → runs tree more ≡ Some a
      → ((t : List ℕ) → allows tree t ≡ true → Living (behind tree t)) → Living tree

-- some tokens, and what the tree reads with them
abbrev pub Ending : {A : Type 0} → Tree A → Type 0
Ending {A} tree = (more : List (List ℕ)) × (a : A) × (runs tree more ≡ Some a)

pub ending : {A : Type 0} (tree : Tree A) → Living tree → Ending tree
ending tree (lives more a e next) = (more, a, e)

pub living_behind : {A : Type 0} (tree : Tree A) → Living tree → (t : List ℕ) → allows tree t ≡ true → Living (behind tree t)
living_behind tree (lives more a e next) = next

-- ---- how reading ends

last_is : {A : Type 0} (end : Option A) (a : A) → at_last end ≡ read a → end ≡ Some a
last_is None a e = cc
last_is (Some b) a e = cc

last_missing : {A : Type 0} (end : Option A) → at_last end ≡ missing → end ≡ None
last_missing None e = refl
last_missing (Some b) e = cc

last_not_wrong : {A : Type 0} (end : Option A) (i : ℕ) → at_last end ≡ wrong i → ⊥
last_not_wrong None i e = cc
last_not_wrong (Some b) i e = cc

-- a token more
runs_on : {A : Type 0} (tree : Tree A) (t : List ℕ) (ts : List (List ℕ)) → allows tree t ≡ true → runs tree (t ∷ ts) ≡ runs (behind tree t) ts
runs_on tree t ts h = rw h refl

runs_out : {A : Type 0} (tree : Tree A) (t : List ℕ) (ts : List (List ℕ)) → allows tree t ≡ false → runs tree (t ∷ ts) ≡ None
runs_out tree t ts h = rw h refl

read_not_wrong : {A : Type 0} (a : A) (i : ℕ) → ◌≡◌ {A = Outcome A} (read a) (wrong i) → ⊥
read_not_wrong a i e = cc

missing_not_wrong : {A : Type 0} (i : ℕ) → ◌≡◌ {A = Outcome A} missing (wrong i) → ⊥
missing_not_wrong i e = cc

wrong_same : {A : Type 0} (i j : ℕ) → ◌≡◌ {A = Outcome A} (wrong i) (wrong j) → i ≡ j
wrong_same i j e = cc

pub there_or_not : {X : Type 0} (o : Option X) → ((x : X) × (o ≡ Some x)) ⊎ (o ≡ None)
there_or_not None = inr refl
there_or_not (Some x) = inl (x, refl)

goes_on : {A : Type 0} (b : Bool) (o : Outcome A) (i : ℕ) (end : Outcome A) → (if b then o else wrong i) ≡ end → ((b ≡ true) × (o ≡ end)) ⊎ ((b ≡ false) × (end ≡ wrong i))
goes_on true o i end e = inl (refl, e)
goes_on false o i end e = inr (refl, sym e)

pub read_is : {A : Type 0} (tree : Tree A) (ts : List Token) (a : A) → outcome tree ts ≡ read a → runs tree (texts_of ts) ≡ Some a
read_is tree [] a e = last_is (ends_with tree) a e
read_is tree (t ∷ ts) a e =
    elim (goes_on (allows tree t.text.now) (outcome (behind tree t.text.now) ts) t.at (read a) e) [
      | inl w ↦ runs_on tree t.text.now (texts_of ts) w.0 ∙ read_is (behind tree t.text.now) ts a w.1
      | inr w ↦ absurd (read_not_wrong a t.at w.1)
    ]

-- more tokens are missing: nothing was read, and with some more something is
pub missing_is : {A : Type 0} (tree : Tree A) (ts : List Token) → Living tree → outcome tree ts ≡ missing
    → (runs tree (texts_of ts) ≡ None) × ((more : List (List ℕ)) × (a : A) × (runs tree (texts_of ts ++ more) ≡ Some a))
missing_is tree [] living e = (last_missing (ends_with tree) e, ending tree living)
missing_is tree (t ∷ ts) living e =
    elim (goes_on (allows tree t.text.now) (outcome (behind tree t.text.now) ts) t.at missing e) [
      | inl w ↦
          let rest = missing_is (behind tree t.text.now) ts (living_behind tree living t.text.now w.0) w.1 in
          (runs_on tree t.text.now (texts_of ts) w.0 ∙ rest.0, (rest.1.0, rest.1.1, runs_on tree t.text.now (texts_of ts ++ rest.1.0) w.0 ∙ rest.1.2))
      | inr w ↦ absurd (missing_not_wrong t.at w.1)
    ]

-- a token is wrong: with some more something is read up to it, and with it nothing is
pub record IsWrong {A : Type 0} (tree : Tree A) (ts : List Token) (i : ℕ) : Type 0 where
  pub front : List Token
  pub token : Token
  pub after : List Token
  pub split : ts ≡ front ++ token ∷ after
  pub at : i ≡ token.at
  pub more : List (List ℕ)
  pub item : A
  pub begins : runs tree (texts_of front ++ more) ≡ Some item
  pub stops : (rest : List (List ℕ)) → runs tree (texts_of front ++ token.text.now ∷ rest) ≡ None

pub wrong_is : {A : Type 0} (tree : Tree A) (ts : List Token) (i : ℕ) → Living tree → outcome tree ts ≡ wrong i → IsWrong tree ts i
wrong_is tree [] i living e = absurd (last_not_wrong (ends_with tree) i e)
wrong_is tree (t ∷ ts) i living e =
    elim (goes_on (allows tree t.text.now) (outcome (behind tree t.text.now) ts) t.at (wrong i) e) [
      | inl w ↦
          let rest = wrong_is (behind tree t.text.now) ts i (living_behind tree living t.text.now w.0) w.1 in
          record {
            front = t ∷ rest.front;
            token = rest.token;
            after = rest.after;
            split = ap (λ us. t ∷ us) rest.split;
            at = rest.at;
            more = rest.more;
            item = rest.item;
            begins = runs_on tree t.text.now (texts_of rest.front ++ rest.more) w.0 ∙ rest.begins;
            stops = λ us. runs_on tree t.text.now (texts_of rest.front ++ rest.token.text.now ∷ us) w.0 ∙ rest.stops us;
          }
      | inr w ↦
          let end = ending tree living in
          record {
            front = [];
            token = t;
            after = ts;
            split = refl;
            at = wrong_same i t.at w.1;
            more = end.0;
            item = end.1;
            begins = end.2;
            stops = λ us. runs_out tree t.text.now us w.0;
          }
    ]

-- ---- one token

pub one_again : {X A : Type 0} (m : List ℕ → Option X) (k : X → Tree A) (t : List ℕ) (us : List (List ℕ)) (x : X) → m t ≡ Some x → runs (one_then m k) (t ∷ us) ≡ runs (k x) us
one_again m k t us x e = rw e refl

-- the token that was read, and what was read behind it
pub record First {X A : Type 0} (m : List ℕ → Option X) (k : X → Tree A) (ts : List (List ℕ)) (a : A) : Type 0 where
  pub token : List ℕ
  pub rest : List (List ℕ)
  pub item : X
  pub split : ts ≡ token ∷ rest
  pub means : m token ≡ Some item
  pub reads : runs (k item) rest ≡ Some a

met : {X A : Type 0} (k : X → Tree A) (o : Option X) (us : List (List ℕ)) (a : A) → (if is_there o then runs (follow k o) us else None) ≡ Some a → (x : X) × (o ≡ Some x) × (runs (k x) us ≡ Some a)
met k None us a e = cc
met k (Some x) us a e = (x, refl, e)

pub one_is : {X A : Type 0} (m : List ℕ → Option X) (k : X → Tree A) (ts : List (List ℕ)) (a : A) → runs (one_then m k) ts ≡ Some a → First m k ts a
one_is m k [] a e = cc
one_is m k (t ∷ us) a e =
    let w = met k (m t) us a e in
    record { token = t; rest = us; item = w.0; split = refl; means = w.1; reads = w.2 }

lives_behind : {X A : Type 0} (k : X → Tree A) (o : Option X) → is_there o ≡ true → ((x : X) → o ≡ Some x → Living (k x)) → Living (follow k o)
lives_behind k None h each = cc
lives_behind k (Some x) h each = each x refl

pub one_lives : {X A : Type 0} (m : List ℕ → Option X) (k : X → Tree A) (t : List ℕ) (x : X) → m t ≡ Some x → ((u : List ℕ) (y : X) → m u ≡ Some y → Living (k y)) → Living (one_then m k)
one_lives m k t x e each =
    let end = ending (k x) (each t x e) in
    lives (t ∷ end.0) end.1 (one_again m k t end.0 x e ∙ end.2) (λ u h. lives_behind k (m u) h (each u))

pub done_lives : {A : Type 0} (a : A) → Living (done a)
done_lives a = lives [] a refl (λ t h. cc)

-- nothing more was read
pub done_is : {A : Type 0} (a b : A) (ts : List (List ℕ)) → runs (done a) ts ≡ Some b → (ts ≡ []) × (a ≡ b)
done_is a b [] e = (refl, cc)
done_is a b (t ∷ ts) e = cc

-- ---- a token that needn't be there

pub or_again : {X A : Type 0} (m : List ℕ → Option X) (k : X → Tree A) (other : Tree A) (t : List ℕ) (us : List (List ℕ)) (x : X) → m t ≡ Some x → runs (or_then m k other) (t ∷ us) ≡ runs (k x) us
or_again m k other t us x e = rw e refl

pub or_not : {X A : Type 0} (m : List ℕ → Option X) (k : X → Tree A) (other : Tree A) (t : List ℕ) (us : List (List ℕ)) → m t ≡ None → runs (or_then m k other) (t ∷ us) ≡ runs other (t ∷ us)
or_not m k other t us e = rw e refl

or_met : {X A : Type 0} (k : X → Tree A) (o : Option X) (b : Bool) (next : Tree A) (us : List (List ℕ)) (a : A) → (if is_there o || b then runs (choose k o next) us else None) ≡ Some a
    → ((x : X) × (o ≡ Some x) × (runs (k x) us ≡ Some a)) ⊎ ((if b then runs next us else None) ≡ Some a)
or_met k None b next us a e = inr e
or_met k (Some x) b next us a e = inl (x, refl, e)

pub or_is : {X A : Type 0} (m : List ℕ → Option X) (k : X → Tree A) (other : Tree A) (ts : List (List ℕ)) (a : A) → runs (or_then m k other) ts ≡ Some a → First m k ts a ⊎ (runs other ts ≡ Some a)
or_is m k other [] a e = inr e
or_is m k other (t ∷ us) a e =
    elim (or_met k (m t) (allows other t) (behind other t) us a e) [
      | inl w ↦ inl (record { token = t; rest = us; item = w.0; split = refl; means = w.1; reads = w.2 })
      | inr w ↦ inr w
    ]

or_lives_behind : {X A : Type 0} (k : X → Tree A) (o : Option X) (b : Bool) (next : Tree A) → (is_there o || b) ≡ true → ((x : X) → o ≡ Some x → Living (k x)) → (b ≡ true → Living next) → Living (choose k o next)
or_lives_behind k None b next h each other = other h
or_lives_behind k (Some x) b next h each other = each x refl

or_ends : {X A : Type 0} (m : List ℕ → Option X) (k : X → Tree A) (other : Tree A) (more : List (List ℕ)) (a : A) → runs other more ≡ Some a → ((u : List ℕ) (y : X) → m u ≡ Some y → Living (k y)) → Ending (or_then m k other)
or_ends m k other [] a e each = ([], a, e)
or_ends m k other (t ∷ us) a e each =
    elim (there_or_not (m t)) [
      | inl w ↦ let end = ending (k w.0) (each t w.0 w.1) in (t ∷ end.0, end.1, or_again m k other t end.0 w.0 w.1 ∙ end.2)
      | inr w ↦ (t ∷ us, a, or_not m k other t us w ∙ e)
    ]

pub or_lives : {X A : Type 0} (m : List ℕ → Option X) (k : X → Tree A) (other : Tree A) → Living other → ((u : List ℕ) (y : X) → m u ≡ Some y → Living (k y)) → Living (or_then m k other)
or_lives m k other living each =
    let end = ending other living in
    let whole = or_ends m k other end.0 end.1 end.2 each in
    lives whole.0 whole.1 whole.2 (λ u h. or_lives_behind k (m u) (allows other u) (behind other u) h (each u) (living_behind other living u))
