-- Transactions stay as they may be over each record.
use Rattle.std.proofs.Common.{◌≡◌, ⊎_elim, ℕ, ◌+◌, ◌-◌, Bool, true, false, cond, eqb, List, [], ◌∷◌, ◌++◌, Ok, refl, sym, ap, subst, arith}
use Rattle.std.proofs.lemmas.Bool.Decides.{eqb_tells}
use Rattle.ctr_rec.specs.declared.record.Record.{Record}
use Rattle.ctr_rec.specs.declared.record.Record.TheVariants.{Checkpoint, Begin, Commit, Abort, Forget, Alloc, Format, Link, Free, Unlink, Create, Uncreate, Drop, Undrop, Row, Keep, Revert, Trim}
use Rattle.ctr_rec.proofs.Reading.{bind_ok, expect_ok}
use Rattle.ctr_meta.specs.Tables.{Tables, is_in, heads_in, without_xid, with_heads}
use Rattle.ctr_meta.specs.Effects.{rolled_back, one_head_more, one_head_less, one_aborted_less}
use Rattle.ctr_meta.specs.Needs.{open_need, there}
use Rattle.ctr_meta.specs.Kept.{XidsFit, XidsLast}
use Rattle.ctr_meta.proofs.Fits.{other_items, begun_fits, ended_fits, rolled_fits, forgotten_fits, set_open_fits, set_aborted_fits}
use Rattle.ctr_meta.proofs.ListedFits.{reads}

there_says : (b : Bool) → there b ≡ Ok tt → b ≡ true
there_says true e = refl
there_says false e = absurd (let no : 1 ≡ 0 = expect_ok 0 1 0 e in omega (arith, no))

rolled : (x : ℕ) (t : Tables) → is_in x t.opens ≡ true → XidsFit t → XidsFit (rolled_back x t)
rolled x t there fit =
    ⊎_elim (λ w. subst (λ (l : List (ℕ × ℕ)). XidsFit (record { next = t.next; opens = without_xid x t.opens; aborted = l; items = t.items })) (sym (ap (λ (b : Bool). cond b t.aborted (t.aborted ++ (x, heads_in x t.opens) ∷ [])) w.0)) (ended_fits t.next t.opens t.aborted t.items t.items fit x))
    (λ w. subst (λ (l : List (ℕ × ℕ)). XidsFit (record { next = t.next; opens = without_xid x t.opens; aborted = l; items = t.items })) (sym (ap (λ (b : Bool). cond b t.aborted (t.aborted ++ (x, heads_in x t.opens) ∷ [])) w.0)) (rolled_fits t.next t.opens t.aborted t.items t.items fit x (heads_in x t.opens) there))
    (eqb_tells (heads_in x t.opens) 0)

more : (x : ℕ) (t : Tables) → XidsFit t → XidsFit (one_head_more x t)
more x t fit = set_open_fits t.next t.opens t.aborted t.items t.items fit x (heads_in x t.opens + 1)

less_aborted : (x : ℕ) (t : Tables) → XidsFit t → XidsFit (one_aborted_less x t)
less_aborted x t fit = set_aborted_fits t.next t.opens t.aborted t.items t.items fit x _

less : (x : ℕ) (t : Tables) → XidsFit t → XidsFit (one_head_less x t)
less x t fit = by (eqb x 0) (is_in x t.opens)
  where
    by : (a b : Bool) → XidsFit (cond a t (cond b (record t { opens = with_heads x (heads_in x t.opens - 1) t.opens }) (one_aborted_less x t)))
    by true b = fit
    by false true = set_open_fits t.next t.opens t.aborted t.items t.items fit x _
    by false false = less_aborted x t fit

pub all_last : (r : Record) (t : Tables) → XidsLast r t
all_last (Checkpoint next lists) t whole fit met = (reads next lists whole.members).xids
all_last (Begin x) t whole fit met =
    subst (λ (k : ℕ). XidsFit (record { next = t.next + 1; opens = t.opens ++ (k, 0) ∷ []; aborted = t.aborted; items = t.items })) (expect_ok 0 t.next x met) (begun_fits t.next t.opens t.aborted t.items t.items fit 0)
all_last (Commit x) t whole fit met = ended_fits t.next t.opens t.aborted t.items _ fit x
all_last (Abort x) t whole fit met = rolled x t (there_says (is_in x t.opens) (bind_ok (open_need x t) _ tt met).1) fit
all_last (Forget x) t whole fit met = forgotten_fits t.next t.opens t.aborted t.items t.items fit x
all_last (Alloc x p o) t whole fit met = other_items t.next t.opens t.aborted t.items _ fit
all_last (Format x p o) t whole fit met = fit
all_last (Link x p o) t whole fit met = other_items t.next t.opens t.aborted t.items _ fit
all_last (Free p o) t whole fit met = other_items t.next t.opens t.aborted t.items _ fit
all_last (Unlink p o) t whole fit met = other_items t.next t.opens t.aborted t.items _ fit
all_last (Create x e o) t whole fit met = other_items t.next t.opens t.aborted t.items _ fit
all_last (Uncreate e o) t whole fit met = other_items t.next t.opens t.aborted t.items _ fit
all_last (Drop x e o) t whole fit met = other_items t.next t.opens t.aborted t.items _ fit
all_last (Undrop e o) t whole fit met = other_items t.next t.opens t.aborted t.items _ fit
all_last (Row x over o) t whole fit met = less over (one_head_more x t) (more x t fit)
all_last (Keep x o) t whole fit met = fit
all_last (Revert x o) t whole fit met = less_aborted x t fit
all_last (Trim o) t whole fit met = fit
