-- The members of a Checkpoint's lists are as transactions may be.
use Rattle.std.proofs.Common.{◌≡◌, ◌≢◌, ⊎_elim, ℕ, zero, suc, ◌+◌, ◌*◌, ◌<◌, ◌≤◌, Bool, true, false, cond, List, [], ◌∷◌, ◌++◌, length, refl, sym, ap, subst, ◌∙◌, arith}
use Rattle.std.specs.List.{AllByRecursion}
use Rattle.std.proofs.lemmas.Bool.Decides.{eqb_tells}
use Rattle.ctr_rec.specs.bytes_Fields.{field}
use Rattle.ctr_rec.specs.declared.record.SlogItem.{SlogItem}
use Rattle.ctr_rec.specs.Members.{among, AreNew, HasMembers, MembersFit, ItemFits, pairs_from, items_from, behind_pairs, slog_at, opens_listed, aborted_listed, items_listed}
use Rattle.ctr_rec.proofs.Listed.{Listed, listed_members}
use Rattle.ctr_meta.specs.Tables.{is_in}
use Rattle.ctr_meta.specs.Kept.{EachOnce, XidsFit}
use Rattle.ctr_meta.specs.Effects.{listed}
use Rattle.ctr_meta.proofs.XidLaws.{in_first, in_rest}

-- one that isn't among more isn't among fewer
fewer : (x y : ℕ) (seen : List ℕ) → among x (y ∷ seen) ≡ false → (y ≢ x) × (among x seen ≡ false)
fewer x y seen e =
    ⊎_elim (λ w. absurd (let t = ap (λ (b : Bool). cond b true (among x seen)) (sym w.0) ∙ e in cc))
    (λ w. (w.1, ap (λ (b : Bool). cond b true (among x seen)) (sym w.0) ∙ e))
    (eqb_tells y x)

new_in : (next x : ℕ) (seen : List ℕ) (ps : List (ℕ × ℕ)) → AreNew next seen ps → is_in x ps ≡ true → (1 ≤ x) × (x < next) × (among x seen ≡ false)
new_in next x seen [] new there = absurd cc
new_in next x seen (p ∷ ps) new there =
    ⊎_elim (λ same. subst (λ (k : ℕ). (1 ≤ k) × (k < next) × (among k seen ≡ false)) (sym same) (new.0, new.1, new.2))
    (λ rest. let n = new_in next x (p.0 ∷ seen) ps new.3 rest in (n.0, n.1, (fewer x p.0 seen n.2).1))
    (in_first x p ps there)

no_or : (b : Bool) (A : Type 0) → (b ≡ true → ⊥) → b ≡ false
no_or true A h = absurd (h refl)
no_or false A h = refl

new_once : (next : ℕ) (seen : List ℕ) (ps : List (ℕ × ℕ)) → AreNew next seen ps → EachOnce ps
new_once next seen [] new = tt
new_once next seen (p ∷ ps) new =
    (no_or (is_in p.0 ps) ℕ (λ there. let n = new_in next p.0 (p.0 ∷ seen) ps new.3 there in (fewer p.0 p.0 seen n.2).0 refl), new_once next (p.0 ∷ seen) ps new.3)

new_left : (next : ℕ) (seen : List ℕ) (ps qs : List (ℕ × ℕ)) → AreNew next seen (ps ++ qs) → AreNew next seen ps
new_left next seen [] qs new = tt
new_left next seen (p ∷ ps) qs new = (new.0, new.1, new.2, new_left next (p.0 ∷ seen) ps qs new.3)

-- what is behind is new after some
record Behind (next : ℕ) (qs : List (ℕ × ℕ)) : Type 0 where
  pub seen : List ℕ
  pub new : AreNew next seen qs

new_right : (next : ℕ) (seen : List ℕ) (ps qs : List (ℕ × ℕ)) → AreNew next seen (ps ++ qs) → Behind next qs
new_right next seen [] qs new = record { seen = seen; new = new }
new_right next seen (p ∷ ps) qs new = new_right next (p.0 ∷ seen) ps qs new.3

in_behind : (x : ℕ) (ps qs : List (ℕ × ℕ)) → is_in x qs ≡ true → is_in x (ps ++ qs) ≡ true
in_behind x [] qs there = there
in_behind x (p ∷ ps) qs there = in_rest x p (ps ++ qs) (in_behind x ps qs there)

apart : (next x : ℕ) (seen : List ℕ) (ps qs : List (ℕ × ℕ)) → AreNew next seen (ps ++ qs) → is_in x ps ≡ true → is_in x qs ≡ false
apart next x seen [] qs new there = absurd cc
apart next x seen (p ∷ ps) qs new there =
    ⊎_elim (λ same. no_or (is_in x qs) ℕ (λ behind. let n = new_in next x (p.0 ∷ seen) (ps ++ qs) new.3 (in_behind x ps qs behind) in (fewer x p.0 seen n.2).0 (sym same)))
    (λ rest. apart next x (p.0 ∷ seen) ps qs new.3 rest)
    (in_first x p ps there)

-- what the reading of lists needs
pub record Reads (next : ℕ) (lists : List ℕ) : Type 0 where
  pub opens : pairs_from 8 (field 8 0 lists) lists ≡ opens_listed lists
  pub aborted_place : behind_pairs 0 lists ≡ 8 + 16 * field 8 0 lists
  pub opens_len : length (opens_listed lists) ≡ field 8 0 lists
  pub aborted_len : length (aborted_listed lists) ≡ field 8 (behind_pairs 0 lists) lists
  pub items_len : length (items_listed lists) ≡ field 8 (slog_at lists) lists
  pub long : length lists ≡ 24 + 16 * (field 8 0 lists + field 8 (behind_pairs 0 lists) lists) + 13 * field 8 (slog_at lists) lists
  pub items_fit : AllByRecursion ItemFits (items_listed lists)
  pub xids : XidsFit (listed next lists)

length-items_from : (at n : ℕ) (bytes : List ℕ) → length (items_from at n bytes) ≡ n
unfolding items_from
length-items_from at zero bytes = refl
length-items_from at (suc n) bytes = ap suc (length-items_from (at + 13) n bytes)

reads_members : (next : ℕ) (o a : List (ℕ × ℕ)) (i : List SlogItem) (lists : List ℕ) → MembersFit next o a i → Listed o a i lists → Reads next lists
reads_members next o a i lists fit l =
    let behind = new_right next [] o a fit.once in
    let oo = sym l.opens_are in
    let aa = sym l.aborted_are in
    record {
      opens = ap (λ (k : ℕ). pairs_from k (field 8 0 lists) lists) (let e : 8 ≡ 0 + 8 = omega arith in e);
      aborted_place = omega arith;
      opens_len = ap length l.opens_are ∙ sym l.opens_count;
      aborted_len = ap length l.aborted_are ∙ sym l.aborted_count;
      items_len = length-items_from (slog_at lists + 8) (field 8 (slog_at lists) lists) lists;
      long = omega (arith, l.long, l.opens_count, l.aborted_count, l.items_count);
      items_fit = l.items_fit_still;
      xids = record {
        some = fit.some;
        opens = λ x e. let there : is_in x o ≡ true = ap (is_in x) (sym l.opens_are) ∙ e in let n = new_in next x [] o (new_left next [] o a fit.once) there in (n.0, n.1, ap (is_in x) l.aborted_are ∙ apart next x [] o a fit.once there);
        aborted = λ x e. let n = new_in next x behind.seen a behind.new (ap (is_in x) (sym l.aborted_are) ∙ e) in (n.0, n.1);
        opens_once = subst EachOnce oo (new_once next [] o (new_left next [] o a fit.once));
        aborted_once = subst EachOnce aa (new_once next behind.seen a behind.new);
      };
    }

pub reads : (next : ℕ) (lists : List ℕ) → HasMembers next lists → Reads next lists
reads next lists m = reads_members next m.0 m.1 m.2 lists m.3 (subst (Listed m.0 m.1 m.2) (sym m.4) (listed_members next m.0 m.1 m.2 m.3))
