-- What records need.
use Rattle.std.proofs.Common.{◌≡◌, ◌≢◌, ⊎_elim, ℕ, ◌+◌, ◌<◌, ◌^◌, Bool, true, false, cond, eqb, ltb, List, Option, Ok, refl, ap, subst, ◌∙◌, arith}
use Rattle.std.specs.Prelude.{unwrap_or}
use Rattle.std.proofs.lemmas.Bool.{lt-ltb}
use Rattle.std.proofs.lemmas.Bool.Decides.{eqb_tells}
use Rattle.ctr_rec.specs.bytes_Following.{◌>>=◌}
use Rattle.ctr_rec.specs.Spelling.{checkpoint_bytes}
use Rattle.ctr_rec.specs.Checkpoint.{each, items_in, items_at, end_at, kinds_in, end_check, kind_check, item_check, list_checks, checkpoint_checks}
use Rattle.ctr_rec.specs.Damage.{expect}
use Rattle.std.specs.Prelude.{length}
use Rattle.ctr_rec.specs.bytes_Fields.{field}
use Rattle.ctr_rec.proofs.Reading.{bind_ok}
use Rattle.ctr_rec.proofs.ListLaws.{checkpoint_next}
use Rattle.ctr_meta.specs.Tables.{Tables, is_in, heads_in, heads_of, with_heads}
use Rattle.ctr_meta.specs.Effects.{one_head_more}
use Rattle.ctr_meta.specs.Needs.{list_needs, head_there}
use Rattle.ctr_meta.proofs.XidLaws.{in_set, heads_set, heads_other}

-- the last of the checks that pass are what a Checkpoint needs
lists_met : (bytes : List ℕ) → list_checks bytes ≡ Ok tt → list_needs (field 8 1 bytes) bytes ≡ Ok tt
unfolding list_checks
lists_met bytes e =
    let items = each (item_check (items_at bytes + 8) bytes) 0 (items_in bytes) in
    (bind_ok items (λ _. list_needs (field 8 1 bytes) bytes) tt e).2

pub list_needs_met : (next : ℕ) (lists : List ℕ) → next < 2 ^ 64 → checkpoint_checks (checkpoint_bytes next lists) ≡ Ok tt → list_needs next (checkpoint_bytes next lists) ≡ Ok tt
unfolding checkpoint_checks
list_needs_met next lists fits e =
    let bytes = checkpoint_bytes next lists in
    let kinds = each (kind_check (items_at bytes + 8) bytes) 0 (kinds_in bytes) in
    let b1 = bind_ok (end_check bytes) (λ _. kinds >>= λ _. expect 0 (end_at bytes + 1) (length bytes) >>= λ _. list_checks bytes) tt e in
    let b2 = bind_ok kinds (λ _. expect 0 (end_at bytes + 1) (length bytes) >>= λ _. list_checks bytes) tt b1.2 in
    let b3 = bind_ok (expect 0 (end_at bytes + 1) (length bytes)) (λ _. list_checks bytes) tt b2.2 in
    subst (λ (n : ℕ). list_needs n bytes ≡ Ok tt) (checkpoint_next next lists fits) (lists_met bytes b3.2)

-- ---- the head that a row takes

pub head_of_none : (x : ℕ) (t : Tables) → head_there 0 (one_head_more x t) ≡ true
head_of_none x t = refl

-- its own: it has one more
pub head_of_own : (x : ℕ) (t : Tables) → is_in x t.opens ≡ true → x ≢ 0 → head_there x (one_head_more x t) ≡ true
head_of_own x t there ne =
    let h = heads_in x t.opens + 1 in
    let none : eqb x 0 ≡ false = ⊎_elim (λ w. absurd (ne w.1)) (λ w. w.0) (eqb_tells x 0) in
    let is : is_in x (with_heads x h t.opens) ≡ true = in_set x h x t.opens ∙ there in
    let own : heads_of x (one_head_more x t) ≡ h =
    ap (λ (b : Bool). cond b (heads_in x (with_heads x h t.opens)) (heads_in x t.aborted)) is ∙ ap (λ (o : Option ℕ). unwrap_or o 0) (heads_set x h t.opens there) in
    ap (λ (b : Bool). cond b true (ltb 0 (heads_of x (one_head_more x t)))) none ∙ ap (λ (k : ℕ). ltb 0 k) own ∙ pos (heads_in x t.opens)
  where
    pos : (k : ℕ) → ltb 0 (k + 1) ≡ true
    pos k = lt-ltb 0 (k + 1) (omega arith)

-- another's: as before
pub head_of_other : (x y : ℕ) (t : Tables) → x ≢ y → y ≢ 0 → head_there y (one_head_more x t) ≡ ltb 0 (heads_of y t)
head_of_other x y t other ne =
    let h = heads_in x t.opens + 1 in
    let none : eqb y 0 ≡ false = ⊎_elim (λ w. absurd (ne w.1)) (λ w. w.0) (eqb_tells y 0) in
    let same : heads_of y (one_head_more x t) ≡ heads_of y t =
    ap (λ (b : Bool). cond b (heads_in y (with_heads x h t.opens)) (heads_in y t.aborted)) (in_set x h y t.opens)
    ∙ ap (λ (o : Option ℕ). cond (is_in y t.opens) (unwrap_or o 0) (heads_in y t.aborted)) (heads_other x h y t.opens other) in
    ap (λ (b : Bool). cond b true (ltb 0 (heads_of y (one_head_more x t)))) none ∙ ap (λ (k : ℕ). ltb 0 k) same
