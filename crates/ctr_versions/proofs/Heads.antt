-- Counts of heads, after the chain of one place gave way to another.
use Rattle.std.proofs.Common.{◌≡◌, ℕ, suc, ◌+◌, ◌-◌, ◌<◌, ◌==◌, ℤ, Bool, true, false, cond, List, [], ◌∷◌, length, Option, Some, None, refl, sym, ◌∙◌, ap, subst, arith}
use Rattle.std.specs.Prelude.{is_some, nat_lt, ◌||◌}
use Rattle.std.specs.List.{AllByRecursion}
use Rattle.std.specs.Ordering.{int_cmp, int_eq}
use Rattle.std.specs.Cmp.{signed_Decides}
use Rattle.std.proofs.lemmas.Bool.{false≢true, eq-eqb, eqb-true, ne_eqb, and_parts, and_from, or_parts, or_from, ltb-true, lt-ltb}
use Rattle.ctr_model.specs.types_Row.{Row}
use Rattle.ctr_model.specs.Database.{name_cmp}
use Rattle.ctr_model.specs.State.{same_name, at_rest}
use Rattle.ctr_versions.specs.Chains.{Numbers, AllCommitted, Behind}
use Rattle.ctr_versions.specs.Changes.{write, revert, cut, without_tombstone}
use Rattle.ctr_versions.specs.Listing.{chain_at}
use Rattle.ctr_versions.specs.Versions.{Made, Versions, names_at, rows_of, RowsSet, NamesSet}
use Rattle.ctr_versions.specs.Engine.{IsBy, AreBy}
use Rattle.ctr_versions.specs.Heads.{has_head, open_head, has_place, AreOnce, HeadsAt, same_slot, row_at_place, HeadsAre, count_end, IsCountOf, is_of, moved_by, count_moved, OnlyHeadsAreOpen}
use Rattle.ctr_versions.proofs.Keys.{known, same_text}
use Rattle.ctr_versions.proofs.Written.{slot, same_itself, int_itself}

-- 1 where it holds
abbrev pub bit : Bool → ℕ
bit true = 1
bit false = 0

-- ---- places

module _ {K : Type 0} (same : K → K → Bool) (decides : (p k : K) → same p k ≡ true → p ≡ k) (itself : (k : K) → same k k ≡ true) where
  without_place : K → List K → List K
  without_place p [] = []
  without_place p (q ∷ qs) = cond (same q p) (without_place p qs) (q ∷ without_place p qs)

  out_same : (p : K) (ps : List K) → has_place same p (without_place p ps) ≡ false
  unfolding without_place
  out_same p [] = refl
  out_same p (q ∷ qs) = elim (same q p) as (λ b. same q p ≡ b → has_place same p (cond b (without_place p qs) (q ∷ without_place p qs)) ≡ false) [
    | true ↦ λ is. out_same p qs
    | false ↦ λ is. or_from (same q p) (has_place same p (without_place p qs)) is (out_same p qs)
  ] refl

  out_other : (p k : K) (ps : List K) → same p k ≡ false → has_place same k (without_place p ps) ≡ has_place same k ps
  unfolding without_place
  out_other p k [] apart = refl
  out_other p k (q ∷ qs) apart = elim (same q p) as (λ b. same q p ≡ b → has_place same k (cond b (without_place p qs) (q ∷ without_place p qs)) ≡ (same q k || has_place same k qs)) [
    | true ↦ λ is. out_other p k qs apart ∙ sym (ap (λ b. b || has_place same k qs) (ap (λ z. same z k) (decides q p is) ∙ apart))
    | false ↦ λ is. ap (λ r. same q k || r) (out_other p k qs apart)
  ] refl

  out_once : (p : K) (ps : List K) → AreOnce same ps → AreOnce same (without_place p ps)
  unfolding without_place
  out_once p [] once = tt
  out_once p (q ∷ qs) once = elim (same q p) as (λ b. same q p ≡ b → AreOnce same (cond b (without_place p qs) (q ∷ without_place p qs))) [
    | true ↦ λ is. out_once p qs once.1
    | false ↦ λ is. (
      known (same p q) (λ hit. absurd (false≢true (sym is ∙ ap (same q) (decides p q hit) ∙ itself q))) (λ miss. out_other p q qs miss ∙ once.0),
      out_once p qs once.1,
    )
  ] refl

  out_none : (p : K) (ps : List K) → has_place same p ps ≡ false → without_place p ps ≡ ps
  unfolding without_place
  out_none p [] none = refl
  out_none p (q ∷ qs) none =
      let parts = or_parts (same q p) (has_place same p qs) none in
      ap (λ b. cond b (without_place p qs) (q ∷ without_place p qs)) parts.0 ∙ ap (λ rest. q ∷ rest) (out_none p qs parts.1)

  out_length : (p : K) (ps : List K) → AreOnce same ps → has_place same p ps ≡ true → length (without_place p ps) + 1 ≡ length ps
  unfolding without_place
  out_length p [] once here = absurd (false≢true here)
  out_length p (q ∷ qs) once here = elim (same q p) as (λ b. same q p ≡ b → (b || has_place same p qs) ≡ true → length (cond b (without_place p qs) (q ∷ without_place p qs)) + 1 ≡ length (q ∷ qs)) [
    | true ↦ λ is at. ap (λ l. length l + 1) (out_none p qs (ap (λ z. has_place same z qs) (sym (decides q p is)) ∙ once.0)) ∙ omega arith
    | false ↦ λ is at. omega (arith, out_length p qs once.1 at)
  ] refl here

  -- the chain at one place is another
  module _ {V : Type 0} (at at' : K → List (ℕ × Option V)) (p : K) (others : (k : K) → same p k ≡ false → at' k ≡ at k) (x : ℕ) where
    kept_heads : (places : List K) → HeadsAt same at x places → has_head x (at p) ≡ has_head x (at' p) → HeadsAt same at' x places
    kept_heads places heads is = record {
      once = heads.once;
      each = λ k. heads.each k ∙ known (same p k)
          (λ hit. ap (λ z. has_head x (at z)) (sym (decides p k hit)) ∙ is ∙ ap (λ z. has_head x (at' z)) (decides p k hit))
          (λ miss. ap (has_head x) (sym (others k miss)));
    }

    pub moved_heads : (places : List K) → HeadsAt same at x places → (b b' : Bool) → has_head x (at p) ≡ b → has_head x (at' p) ≡ b' → (left : List K) × HeadsAt same at' x left × (length left + bit b ≡ length places + bit b')
    moved_heads places heads true true is is' = (places, kept_heads places heads (is ∙ sym is'), refl)
    moved_heads places heads false false is is' = (places, kept_heads places heads (is ∙ sym is'), refl)
    moved_heads places heads true false is is' = (
      without_place p places,
      record {
        once = out_once p places heads.once;
        each = λ k. known (same p k)
            (λ hit. ap (λ z. has_place same z (without_place p places)) (sym (decides p k hit)) ∙ out_same p places ∙ sym is' ∙ ap (λ z. has_head x (at' z)) (decides p k hit))
            (λ miss. out_other p k places miss ∙ heads.each k ∙ ap (has_head x) (sym (others k miss)));
      },
      out_length p places heads.once (heads.each p ∙ is) ∙ omega arith,
    )
    moved_heads places heads false true is is' = (
      p ∷ places,
      record {
        once = (heads.each p ∙ is, heads.once);
        each = λ k. known (same p k)
            (λ hit. ap (λ b. b || has_place same k places) hit ∙ sym is' ∙ ap (λ z. has_head x (at' z)) (decides p k hit))
            (λ miss. ap (λ b. b || has_place same k places) miss ∙ heads.each k ∙ ap (has_head x) (sym (others k miss)));
      },
      omega arith,
    )

-- ---- rows and names

slot_decides : (p q : ℕ × ℤ) → same_slot p q ≡ true → p ≡ q
slot_decides p q is =
    let parts = and_parts (q.0 == p.0) (int_eq q.1 p.1) is in
    λ i. (sym (eqb-true q.0 p.0 parts.0) i, sym ((signed_Decides q.1 p.1).0 parts.1) i)

slot_itself : (p : ℕ × ℤ) → same_slot p p ≡ true
slot_itself p = and_from (p.0 == p.0) (int_eq p.1 p.1) (eq-eqb p.0 p.0 refl) (int_itself p.1)

heads_alike : {K V : Type 0} (same : K → K → Bool) (at at' : K → List (ℕ × Option V)) (x : ℕ) (places : List K) → ((k : K) → at' k ≡ at k) → HeadsAt same at x places → HeadsAt same at' x places
heads_alike same at at' x places alike heads = record { once = heads.once; each = λ k. heads.each k ∙ ap (has_head x) (sym (alike k)) }

-- so many are by it now, where it was counted before
Moves : ℕ → ℕ → Bool → Bool → Versions → Type 0
Moves x n b b' new = (m : ℕ) × HeadsAre x m new × (m + bit b ≡ n + bit b')

rows_moved : (old new : Versions) (id : ℕ) (key : ℤ) (chain : List (ℕ × Option Row)) → RowsSet old new id key chain → (x n : ℕ) → HeadsAre x n old → (b b' : Bool) → has_head x (rows_of old id key) ≡ b → has_head x chain ≡ b' → Moves x n b b' new
unfolding Moves
rows_moved old new id key chain set x n heads b b' is is' =
    let moved = moved_heads same_slot slot_decides slot_itself (row_at_place old) (row_at_place new) (id, key) (λ k miss. set.others k.0 k.1 miss) x heads.rows heads.rows_are b b' is (ap (has_head x) set.here ∙ is') in (
      length moved.0 + length heads.names,
      record {
        rows = moved.0;
        names = heads.names;
        rows_are = moved.1;
        names_are = heads_alike same_name (names_at old) (names_at new) x heads.names (λ name. ap (chain_at name_cmp name) set.names) heads.names_are;
        sum = refl;
      },
      omega (arith, moved.2, heads.sum),
    )

names_moved : (old new : Versions) (name : List ℕ) (chain : List (ℕ × Option Made)) → NamesSet old new name chain → (x n : ℕ) → HeadsAre x n old → (b b' : Bool) → has_head x (names_at old name) ≡ b → has_head x chain ≡ b' → Moves x n b b' new
unfolding Moves
names_moved old new name chain set x n heads b b' is is' =
    let moved = moved_heads same_name same_text same_itself (names_at old) (names_at new) name set.others x heads.names heads.names_are b b' is (ap (has_head x) set.here ∙ is') in (
      length heads.rows + length moved.0,
      record {
        rows = heads.rows;
        names = moved.0;
        rows_are = heads_alike same_slot (row_at_place old) (row_at_place new) x heads.rows (λ p. ap (chain_at int_cmp p.1) (set.slots p.0)) heads.rows_are;
        names_are = moved.1;
        sum = refl;
      },
      omega (arith, moved.2, heads.sum),
    )

-- ---- counts

-- an open one has the head exactly where the open head is its own
head_is : {V : Type 0} (number : Numbers) (x : ℕ) → number x ≡ None → (chain : List (ℕ × Option V)) → has_head x chain ≡ is_of x (open_head number chain)
head_is number x none [] = refl
head_is number x none (v ∷ vs) = elim (number v.0) as (λ o. number v.0 ≡ o → (x == v.0) ≡ is_of x (cond (is_some o) None (Some v.0))) [
  | Some k ↦ λ is. ne_eqb x v.0 (λ same. false≢true (ap is_some (sym none ∙ ap number same ∙ is)))
  | None ↦ λ is. refl
] refl

counted : (x n : ℕ) (b b' : Bool) (new : Versions) → (n < count_end → Moves x n b b' new) → IsCountOf x (moved_by b b' n) new
unfolding Moves
counted x n true true new moves lt = let m = moves lt in subst (λ k. HeadsAre x k new) (omega (arith, m.2)) m.1
counted x n false false new moves lt = let m = moves lt in subst (λ k. HeadsAre x k new) (omega (arith, m.2)) m.1
counted x n true false new moves few = elim (nat_lt n count_end) as (λ b. nat_lt n count_end ≡ b → cond b (n - 1) n < count_end → HeadsAre x (cond b (n - 1) n) new) [
  | true ↦ λ is lt. let m = moves (ltb-true n count_end is) in subst (λ k. HeadsAre x k new) (omega (arith, m.2)) m.1
  | false ↦ λ is lt. absurd (false≢true (sym is ∙ lt-ltb n count_end lt))
] refl few
counted x n false true new moves few = elim (nat_lt n count_end) as (λ b. nat_lt n count_end ≡ b → cond b (n + 1) n < count_end → HeadsAre x (cond b (n + 1) n) new) [
  | true ↦ λ is lt. let m = moves (ltb-true n count_end is) in subst (λ k. HeadsAre x k new) (omega (arith, m.2)) m.1
  | false ↦ λ is lt. absurd (false≢true (sym is ∙ lt-ltb n count_end lt))
] refl few

-- the open head of a row, or of a name, gave way to another
pub row_counted : (number : Numbers) (old new : Versions) (id : ℕ) (key : ℤ) (chain : List (ℕ × Option Row)) → RowsSet old new id key chain → (x n : ℕ) → number x ≡ None → IsCountOf x n old → IsCountOf x (count_moved (open_head number (rows_of old id key)) (open_head number chain) x n) new
row_counted number old new id key chain set x n none count = counted x n (is_of x (open_head number (rows_of old id key))) (is_of x (open_head number chain)) new
    (λ lt. rows_moved old new id key chain set x n (count lt) (is_of x (open_head number (rows_of old id key))) (is_of x (open_head number chain)) (head_is number x none (rows_of old id key)) (head_is number x none chain))

pub name_counted : (number : Numbers) (old new : Versions) (name : List ℕ) (chain : List (ℕ × Option Made)) → NamesSet old new name chain → (x n : ℕ) → number x ≡ None → IsCountOf x n old → IsCountOf x (count_moved (open_head number (names_at old name)) (open_head number chain) x n) new
name_counted number old new name chain set x n none count = counted x n (is_of x (open_head number (names_at old name))) (is_of x (open_head number chain)) new
    (λ lt. names_moved old new name chain set x n (count lt) (is_of x (open_head number (names_at old name))) (is_of x (open_head number chain)) (head_is number x none (names_at old name)) (head_is number x none chain))

-- nothing gave way
pub same_count : (from : Option ℕ) (x n : ℕ) → count_moved from from x n ≡ n
same_count from x n = elim (is_of x from) as (λ b. moved_by b b n ≡ n) [ true ↦ refl | false ↦ refl ]

-- nobody has the head of nothing
pub empty_counted : (x : ℕ) → HeadsAre x 0 (record { names = []; slots = [] })
empty_counted x = record { rows = []; names = []; rows_are = record { once = tt; each = λ k. refl }; names_are = record { once = tt; each = λ k. refl }; sum = refl }

-- ---- what is open, through the changes

committed_head : {V : Type 0} (number : Numbers) (chain : List (ℕ × Option V)) → AllCommitted number chain → open_head number chain ≡ None
committed_head number [] all = refl
committed_head number (v ∷ vs) all = ap (λ b. cond b None (Some v.0)) all.0

committed_behind : {V : Type 0} (number : Numbers) (chain : List (ℕ × Option V)) → AllCommitted number chain → Behind number chain
committed_behind number [] all = tt
committed_behind number (v ∷ vs) all = all.1

pub write_head : {V : Type 0} (number : Numbers) (x : ℕ) (v : Option V) (chain : List (ℕ × Option V)) → number x ≡ None → open_head number (write number x v chain) ≡ Some x
write_head number x v [] none = ap (λ o. cond (is_some o) None (Some x)) none
write_head number x v (h ∷ rest) none = elim (is_some (number h.0)) as (λ b. open_head number (cond b ((x, v) ∷ h ∷ rest) ((x, v) ∷ rest)) ≡ Some x) [ true ↦ ap (λ o. cond (is_some o) None (Some x)) none | false ↦ ap (λ o. cond (is_some o) None (Some x)) none ]

pub write_behind : {V : Type 0} (number : Numbers) (x : ℕ) (v : Option V) (chain : List (ℕ × Option V)) → Behind number chain → Behind number (write number x v chain)
write_behind number x v [] behind = tt
write_behind number x v (h ∷ rest) behind = elim (is_some (number h.0)) as (λ b. is_some (number h.0) ≡ b → Behind number (cond b ((x, v) ∷ h ∷ rest) ((x, v) ∷ rest))) [ true ↦ λ is. (is, behind) | false ↦ λ is. behind ] refl

pub revert_head : {V : Type 0} (number : Numbers) (chain : List (ℕ × Option V)) → Behind number chain → open_head number (revert number chain) ≡ None
revert_head number [] behind = refl
revert_head number (h ∷ rest) behind = elim (is_some (number h.0)) as (λ b. is_some (number h.0) ≡ b → open_head number (cond b (h ∷ rest) rest) ≡ None) [
  | true ↦ λ is. ap (λ b. cond b None (Some h.0)) is
  | false ↦ λ is. committed_head number rest behind
] refl

pub revert_behind : {V : Type 0} (number : Numbers) (chain : List (ℕ × Option V)) → Behind number chain → Behind number (revert number chain)
revert_behind number [] behind = tt
revert_behind number (h ∷ rest) behind = elim (is_some (number h.0)) as (λ b. Behind number (cond b (h ∷ rest) rest)) [ true ↦ behind | false ↦ committed_behind number rest behind ]

pub cut_head : {V : Type 0} (number : Numbers) (passes : ℕ → Bool) (chain : List (ℕ × Option V)) → open_head number (cut passes chain) ≡ open_head number chain
cut_head number passes [] = refl
cut_head number passes (v ∷ vs) = elim (passes v.0) as (λ b. open_head number (cond b (v ∷ []) (v ∷ cut passes vs)) ≡ open_head number (v ∷ vs)) [ true ↦ refl | false ↦ refl ]

cut_committed : {V : Type 0} (number : Numbers) (passes : ℕ → Bool) (chain : List (ℕ × Option V)) → AllCommitted number chain → AllCommitted number (cut passes chain)
cut_committed number passes [] all = tt
cut_committed number passes (v ∷ vs) all = elim (passes v.0) as (λ b. AllCommitted number (cond b (v ∷ []) (v ∷ cut passes vs))) [ true ↦ (all.0, tt) | false ↦ (all.0, cut_committed number passes vs all.1) ]

pub cut_behind : {V : Type 0} (number : Numbers) (passes : ℕ → Bool) (chain : List (ℕ × Option V)) → Behind number chain → Behind number (cut passes chain)
cut_behind number passes [] behind = tt
cut_behind number passes (v ∷ vs) behind = elim (passes v.0) as (λ b. Behind number (cond b (v ∷ []) (v ∷ cut passes vs))) [ true ↦ tt | false ↦ cut_committed number passes vs behind ]

pub freed_head : {V : Type 0} (number : Numbers) (passes : ℕ → Bool) → ((x : ℕ) → passes x ≡ true → is_some (number x) ≡ true) → (chain : List (ℕ × Option V)) → open_head number (without_tombstone passes chain) ≡ open_head number chain
freed_head number passes old [] = refl
freed_head number passes old ((x, Some v) ∷ vs) = refl
freed_head number passes old ((x, None) ∷ vs) = elim (passes x) as (λ b. passes x ≡ b → open_head number (cond b [] ((x, None) ∷ vs)) ≡ cond (is_some (number x)) None (Some x)) [
  | true ↦ λ is. sym (ap (λ b. cond b None (Some x)) (old x is))
  | false ↦ λ is. refl
] refl

pub freed_behind : {V : Type 0} (number : Numbers) (passes : ℕ → Bool) (chain : List (ℕ × Option V)) → Behind number chain → Behind number (without_tombstone passes chain)
freed_behind number passes [] behind = tt
freed_behind number passes ((x, Some v) ∷ vs) behind = behind
freed_behind number passes ((x, None) ∷ vs) behind = elim (passes x) as (λ b. Behind number (cond b [] ((x, None) ∷ vs))) [ true ↦ tt | false ↦ behind ]

pub open_rows : (number : Numbers) (old new : Versions) (id : ℕ) (key : ℤ) (chain : List (ℕ × Option Row)) → RowsSet old new id key chain → Behind number chain → OnlyHeadsAreOpen number old → OnlyHeadsAreOpen number new
open_rows number old new id key chain set behind only = record {
  names = λ name. subst (λ ns. Behind number (chain_at name_cmp name ns)) (sym set.names) (only.names name);
  rows = λ i k. slot 0 number (at_rest [] []) old new id key chain set (λ c. Behind number c) i k (λ one two. behind) (λ other. only.rows i k);
}

pub open_names : (number : Numbers) (old new : Versions) (name : List ℕ) (chain : List (ℕ × Option Made)) → NamesSet old new name chain → Behind number chain → OnlyHeadsAreOpen number old → OnlyHeadsAreOpen number new
open_names number old new name chain set behind only = record {
  names = λ other. known (same_name name other)
      (λ is. subst (λ m. Behind number (names_at new m)) (same_text name other is) (subst (λ c. Behind number c) (sym set.here) behind))
      (λ is. subst (λ c. Behind number c) (sym (set.others other is)) (only.names other));
  rows = λ id key. subst (λ s. Behind number (chain_at int_cmp key s)) (sym (set.slots id)) (only.rows id key);
}

still_committed : {V : Type 0} (number other : Numbers) → ((x : ℕ) → is_some (number x) ≡ true → is_some (other x) ≡ true) → (chain : List (ℕ × Option V)) → AllCommitted number chain → AllCommitted other chain
still_committed number other still [] all = tt
still_committed number other still (v ∷ vs) all = (still v.0 all.0, still_committed number other still vs all.1)

still_behind : {V : Type 0} (number other : Numbers) → ((x : ℕ) → is_some (number x) ≡ true → is_some (other x) ≡ true) → (chain : List (ℕ × Option V)) → Behind number chain → Behind other chain
still_behind number other still [] behind = tt
still_behind number other still (v ∷ vs) behind = still_committed number other still vs behind

-- those that are committed stay so
pub open_still : (number other : Numbers) → ((x : ℕ) → is_some (number x) ≡ true → is_some (other x) ≡ true) → (versions : Versions) → OnlyHeadsAreOpen number versions → OnlyHeadsAreOpen other versions
open_still number other still versions only = record { names = λ name. still_behind number other still (names_at versions name) (only.names name); rows = λ id key. still_behind number other still (rows_of versions id key) (only.rows id key) }

-- ---- without a head no version is by it

committed_others : {V : Type 0} (number : Numbers) (x : ℕ) → number x ≡ None → (chain : List (ℕ × Option V)) → AllCommitted number chain → AllByRecursion (IsBy (λ y. y ≡ x → ⊥)) chain
committed_others number x none [] all = tt
committed_others number x none (v ∷ vs) all = ((λ same. false≢true (ap is_some (sym none ∙ ap number (sym same)) ∙ all.0)), committed_others number x none vs all.1)

headless : {V : Type 0} (number : Numbers) (x : ℕ) → number x ≡ None → (chain : List (ℕ × Option V)) → Behind number chain → has_head x chain ≡ false → AllByRecursion (IsBy (λ y. y ≡ x → ⊥)) chain
headless number x none [] behind no_head = tt
headless number x none (v ∷ vs) behind no_head = ((λ same. false≢true (sym no_head ∙ eq-eqb x v.0 (sym same))), committed_others number x none vs behind)

no_places : {K V : Type 0} (same : K → K → Bool) (at : K → List (ℕ × Option V)) (x : ℕ) (places : List K) → length places ≡ 0 → HeadsAt same at x places → (k : K) → has_head x (at k) ≡ false
no_places same at x [] none heads k = sym (heads.each k)
no_places same at x (p ∷ ps) none heads k = absurd (some_place (length ps) none)
  where
    some_place : (n : ℕ) → suc n ≡ 0 → ⊥
    some_place n same = omega (arith, same)

pub headless_by : (number : Numbers) (x : ℕ) (versions : Versions) → number x ≡ None → OnlyHeadsAreOpen number versions → HeadsAre x 0 versions → AreBy (λ y. y ≡ x → ⊥) versions
headless_by number x versions none only heads = record {
  names = λ name. headless number x none (names_at versions name) (only.names name) (no_places same_name (names_at versions) x heads.names (omega (arith, heads.sum)) heads.names_are name);
  rows = λ id key. headless number x none (rows_of versions id key) (only.rows id key) (no_places same_slot (row_at_place versions) x heads.rows (omega (arith, heads.sum)) heads.rows_are (id, key));
}
