-- The Checkpoint of tables: their members are those of a Checkpoint, and its bytes are a record that leaves the tables as
-- they are.
use Rattle.std.proofs.Common.{◌≡◌, ◌⊎◌, inl, inr, ⊎_elim, ℕ, ◌+◌, ◌*◌, ◌^◌, ◌<◌, ◌≤◌, Bool, true, false, List, [], ◌∷◌, ◌++◌, length, Result, Ok, Err, refl, sym, ◌∙◌, ap, subst, arith}
use Rattle.std.specs.Prelude.{⊤}
use Rattle.std.specs.List.{AllByRecursion}
use Rattle.std.proofs.lemmas.Bool.Decides.{nat_tests}
use Rattle.ctr_rec.specs.bytes_Following.{◌>>=◌}
use Rattle.ctr_rec.specs.bytes_Fields.{field}
use Rattle.ctr_base.proofs.log_KeptLaws.{passes}
use Rattle.ctr_rec.specs.declared.decoding.BadRecord.{BadRecord}
use Rattle.ctr_rec.specs.declared.record.Record.{Record}
use Rattle.ctr_rec.specs.declared.record.Record.TheVariants.{Checkpoint}
use Rattle.ctr_rec.specs.declared.record.SlogItem.{SlogItem}
use Rattle.ctr_rec.specs.Damage.{at_most}
use Rattle.ctr_rec.specs.Read.{record_in}
use Rattle.ctr_rec.specs.Spelling.{checkpoint_bytes, record_bytes}
use Rattle.ctr_rec.specs.Records.{IsRecord}
use Rattle.ctr_rec.specs.Members.{among, AreNew, HeadsFit, ItemFits, XidFits, MembersFit, lists_bytes}
use Rattle.ctr_rec.proofs.ListLaws.{checkpoint_number, length-checkpoint}
use Rattle.ctr_rec.proofs.Listed.{listed_members}
use Rattle.ctr_rec.proofs.ReadBack.{record_read}
use Rattle.ctr_base.specs.meta_Tables.{Tables, is_in}
use Rattle.ctr_base.specs.meta_Effects.{effect}
use Rattle.ctr_base.specs.meta_Kept.{EachOnce, XidsFit, IsLogged}
use Rattle.ctr_base.proofs.meta_XidLaws.{in_first, in_head, in_rest}
use Rattle.ctr_base.proofs.meta_NeedLaws.{list_needs_met}
use Rattle.ctr_base.specs.meta_Needs.{needs}
use Rattle.ctr_base.specs.redo_Overlaid.{overlay_of}
use Rattle.ctr_base.specs.redo_Fitting.{LiesInside, FitsBehind}
use Rattle.ctr_store.specs.Checkpoints.{heads_need, SpellsTables}

-- two checks that pass, one behind the other
both_ok : (r next : Result ⊤ BadRecord) → (r >>= λ _. next) ≡ Ok tt → (r ≡ Ok tt) × (next ≡ Ok tt)
both_ok (Ok x) next is = (refl, is)
both_ok (Err e) next is = absurd (cc is)

few_of : (at most got : ℕ) → at_most at most got ≡ Ok tt → got ≤ most
unfolding at_most
few_of at most got is = grind (arith, nat_tests)

heads_fit : (at : ℕ) (ps : List (ℕ × ℕ)) → heads_need at ps ≡ Ok tt → AllByRecursion HeadsFit ps
heads_fit at [] is = tt
heads_fit at (p ∷ ps) is =
    let both = both_ok (at_most at (2 ^ 62) p.1) (heads_need (at + 16) ps) is in
    (few_of at (2 ^ 62) p.1 both.0, heads_fit (at + 16) ps both.1)

-- ---- each transaction once

not_true : (b : Bool) → (b ≡ true → ⊥) → b ≡ false
not_true true never = absurd (never refl)
not_true false never = refl

in_append : (x : ℕ) (ps qs : List (ℕ × ℕ)) → is_in x (ps ++ qs) ≡ true → (is_in x ps ≡ true) ⊎ (is_in x qs ≡ true)
in_append x [] qs is = inr is
in_append x (p ∷ ps) qs is = ⊎_elim (λ same. inl (in_head x p ps same)) (λ rest. ⊎_elim (λ a. inl (in_rest x p ps a)) (λ b. inr b) (in_append x ps qs rest)) (in_first x p (ps ++ qs) is)

out_append : (x : ℕ) (ps qs : List (ℕ × ℕ)) → is_in x ps ≡ false → is_in x qs ≡ false → is_in x (ps ++ qs) ≡ false
out_append x ps qs a b = not_true (is_in x (ps ++ qs)) (λ is. ⊎_elim (λ t. cc (a, t)) (λ t. cc (b, t)) (in_append x ps qs is))

once_append : (ps qs : List (ℕ × ℕ)) → EachOnce ps → EachOnce qs → ((x : ℕ) → is_in x ps ≡ true → is_in x qs ≡ false) → EachOnce (ps ++ qs)
once_append [] qs a b apart = b
once_append (p ∷ ps) qs a b apart = (out_append p.0 ps qs a.0 (apart p.0 (in_head p.0 p ps refl)), once_append ps qs a.1 b (λ x there. apart x (in_rest x p ps there)))

are_new : (next : ℕ) (seen : List ℕ) (ps : List (ℕ × ℕ)) → ((x : ℕ) → is_in x ps ≡ true → (1 ≤ x) × (x < next) × (among x seen ≡ false)) → EachOnce ps → AreNew next seen ps
are_new next seen [] known once = tt
are_new next seen (p ∷ ps) known once =
    let here = known p.0 (in_head p.0 p ps refl) in (
      here.0,
      here.1,
      here.2,
      are_new next (p.0 ∷ seen) ps (λ x there.
          let was = known x (in_rest x p ps there) in
          let other : p.0 ≡ x → ⊥ = λ same. cc (once.0, ap (λ (y : ℕ). is_in y ps) same ∙ there) in
          (was.0, was.1, passes p.0 x true (among x seen) other ∙ was.2)) once.1,
    )

-- the members of tables are those of a Checkpoint
pub members_fit : (t : Tables) → XidsFit t → t.next ≤ 2 ^ 63 + 2 ^ 62 → heads_need 25 t.opens ≡ Ok tt → heads_need (33 + 16 * length t.opens) t.aborted ≡ Ok tt → length t.opens < 2 ^ 64 → length t.aborted < 2 ^ 64 → length t.items < 2 ^ 64
    → AllByRecursion ItemFits t.items → MembersFit t.next t.opens t.aborted t.items
members_fit t fit next opens aborted few_opens few_aborted few_items items = record {
  some = fit.some;
  next_fits = next;
  opens_fit = (few_opens, heads_fit 25 t.opens opens);
  aborted_fit = (few_aborted, heads_fit (33 + 16 * length t.opens) t.aborted aborted);
  once = are_new t.next [] (t.opens ++ t.aborted)
      (λ x is. ⊎_elim (λ a. let has = fit.opens x a in (has.0, has.1, refl)) (λ b. let has = fit.aborted x b in (has.0, has.1, refl)) (in_append x t.opens t.aborted is))
      (once_append t.opens t.aborted fit.opens_once fit.aborted_once (λ x a. (fit.opens x a).2));
  items_fit = (few_items, items);
}

abbrev made_of : ℕ → List (ℕ × ℕ) → List (ℕ × ℕ) → List SlogItem → Tables
made_of next a b i = record { next = next; opens = a; aborted = b; items = i }

tables_by : (next : ℕ) {a a' b b' : List (ℕ × ℕ)} {i i' : List SlogItem} → a ≡ a' → b ≡ b' → i ≡ i' → made_of next a b i ≡ made_of next a' b' i'
tables_by next {a} {a'} {b} {b'} {i} {i'} p q r =
    ap (λ x. made_of next x b i) p ∙ ap (λ y. made_of next a' y i) q ∙ ap (made_of next a' b') r

-- and so its bytes spell them
pub spells : (t : Tables) (bytes : List ℕ) → MembersFit t.next t.opens t.aborted t.items → AllByRecursion XidFits t.items → IsRecord (Checkpoint t.next (lists_bytes t.opens t.aborted t.items)) → bytes ≡ checkpoint_bytes t.next (lists_bytes t.opens t.aborted t.items) → SpellsTables t bytes
spells t bytes fit xids is bytes_are =
    let read = listed_members t.next t.opens t.aborted t.items fit in
    record {
      lists = lists_bytes t.opens t.aborted t.items;
      bytes_are = bytes_are;
      logged = record { record_is = is; members = (t.opens, t.aborted, t.items, fit, refl) };
      listed_are = tables_by t.next read.opens_are read.aborted_are (read.items_are xids);
      long = omega (arith, ap length bytes_are, length-checkpoint t.next (lists_bytes t.opens t.aborted t.items), read.long);
    }

-- the same of what is equal to their members
pub members_same : {n n' : ℕ} {a a' b b' : List (ℕ × ℕ)} {i i' : List SlogItem} → n ≡ n' → a ≡ a' → b ≡ b' → i ≡ i' → MembersFit n a b i → MembersFit n' a' b' i'
members_same {n} {n'} {a} {a'} {b} {b'} {i} {i'} p q r s fit =
    subst (λ x. MembersFit n' a' b' x) s (subst (λ x. MembersFit n' a' x i) r (subst (λ x. MembersFit n' x b i) q (subst (λ x. MembersFit x a b i) p fit)))

spelling_by : (m : ℕ) {n : ℕ} {a a' b b' : List (ℕ × ℕ)} {i i' : List SlogItem} (bytes : List ℕ) → m ≡ n → a ≡ a' → b ≡ b' → i ≡ i' → bytes ≡ checkpoint_bytes m (lists_bytes a b i) → bytes ≡ checkpoint_bytes n (lists_bytes a' b' i')
spelling_by m {n} {a} {a'} {b} {b'} {i} {i'} bytes p q r s is =
    is ∙ ap (λ x. checkpoint_bytes m (lists_bytes x b i)) q ∙ ap (λ x. checkpoint_bytes m (lists_bytes a' x i)) r ∙ ap (λ x. checkpoint_bytes m (lists_bytes a' b' x)) s ∙ ap (λ x. checkpoint_bytes x (lists_bytes a' b' i')) p

record_by : (m : ℕ) {n : ℕ} {a a' b b' : List (ℕ × ℕ)} {i i' : List SlogItem} → m ≡ n → a ≡ a' → b ≡ b' → i ≡ i' → IsRecord (Checkpoint m (lists_bytes a b i)) → IsRecord (Checkpoint n (lists_bytes a' b' i'))
record_by m {n} {a} {a'} {b} {b'} {i} {i'} p q r s is =
    subst (λ x. IsRecord (Checkpoint x (lists_bytes a' b' i'))) p
    (subst (λ x. IsRecord (Checkpoint m (lists_bytes a' b' x))) s (subst (λ x. IsRecord (Checkpoint m (lists_bytes a' x i))) r (subst (λ x. IsRecord (Checkpoint m (lists_bytes x b i))) q is)))

pub spelled_same : (t : Tables) {m : ℕ} {a b : List (ℕ × ℕ)} {i : List SlogItem} {bytes : List ℕ} → m ≡ t.next → a ≡ t.opens → b ≡ t.aborted → i ≡ t.items → MembersFit t.next t.opens t.aborted t.items → AllByRecursion XidFits t.items
    → IsRecord (Checkpoint m (lists_bytes a b i)) → bytes ≡ checkpoint_bytes m (lists_bytes a b i) → SpellsTables t bytes
spelled_same t {m} {a} {b} {i} {bytes} p q r s fit xids is bytes_are = spells t bytes fit xids (record_by m p q r s is) (spelling_by m bytes p q r s bytes_are)

-- ---- it begins a generation

-- a Checkpoint of tables fits behind records that left them, and leaves them so
pub spelled_fits : (counted : ℕ) (t : Tables) (bytes : List ℕ) → SpellsTables t bytes → FitsBehind counted t bytes × (field 1 0 bytes ≡ 1) × (effect (record_in bytes) t ≡ t)
spelled_fits counted t bytes s =
    let r = Checkpoint t.next s.lists in
    let tells : record_in bytes ≡ r = ap record_in s.bytes_are ∙ record_read r s.logged.record_is in (
      record {
        logged = subst IsLogged (sym tells) s.logged;
        bytes_are = ap record_bytes tells ∙ sym s.bytes_are;
        inside = subst (λ (x : Record). LiesInside counted (overlay_of x)) (sym tells) tt;
        needed = ap (λ (x : Record). needs x t) tells ∙ list_needs_met t.next s.lists s.logged.record_is.0 s.logged.record_is.1;
      },
      ap (field 1 0) s.bytes_are ∙ checkpoint_number t.next s.lists,
      ap (λ (x : Record). effect x t) tells ∙ s.listed_are,
    )
