-- What a new database folds to.
use Rattle.std.proofs.Common.{◌≡◌, ◌≢◌, inl, ⊎_elim, ℕ, zero, suc, ◌+◌, ◌<◌, ◌^◌, false, List, [], ◌∷◌, ◌++◌, length, replicate, Some, None, Ok, refl, sym, ◌∙◌, ap, subst, arith}
use Rattle.std.specs.Prelude.{slice_index}
use Rattle.std.proofs.lemmas.Bool.{cases_lt}
use Rattle.ctr_pool.specs.ctr_disk.Image.{Image}
use Rattle.ctr_log.specs.home_Blocks.{BlockValue, zero_bytes}
use Rattle.ctr_meta.specs.ctr_bytes.Fields.{spelled, field}
use Rattle.ctr_meta.specs.rec_Checkpoint.{checkpoint_checks}
use Rattle.ctr_meta.specs.rec_Members.{pairs_from, items_from, lists_bytes, MembersFit}
use Rattle.ctr_meta.specs.rec_Spelling.{checkpoint_bytes, record_bytes}
use Rattle.ctr_meta.proofs.rec_MemberLaws.{members_pass}
use Rattle.ctr_log.specs.Fresh.{first_checkpoint, fresh_log, IsClosed}
use Rattle.ctr_log.specs.Kept.{log_in, kept_log, has_newer, HoldsLog}
use Rattle.ctr_log.proofs.KeptLaws.{holds_is}
use Rattle.ctr_meta.specs.rec_Record.{Record}
use Rattle.ctr_meta.specs.rec_Record.TheVariants.{Checkpoint}
use Rattle.ctr_meta.specs.rec_Read.{record_in}
use Rattle.ctr_meta.specs.Tables.{no_tables}
use Rattle.ctr_meta.specs.Kept.{IsLogged}
use Rattle.ctr_meta.specs.Needs.{needs}
use Rattle.ctr_meta.proofs.NeedLaws.{list_needs_met}
use Rattle.ctr_meta.specs.Effects.{tables_of}
use Rattle.ctr_pool.specs.Pages.{PageHeld}
use Rattle.ctr_redo.specs.Overlaid.{overlay_of, overlaid}
use Rattle.ctr_redo.specs.Fitting.{LiesInside, EachFits, BeginsOnce, TablesGoOn}
use Rattle.ctr_redo.proofs.FitLaws.{newer_out, choose_no}
use Rattle.ctr_redo.specs.States.{page_limit, pages_of, state_of}
use Rattle.ctr_redo.specs.Images.{records_in, home_in, IsSound, FoldsTo, new_root, new_state, IsNewDatabase}
use Rattle.ctr_redo.proofs.GrowthLaws.{counted_page, blank_home}

-- the record with which its log begins
abbrev nothing : Record
nothing = Checkpoint 1 (spelled 8 0 ++ spelled 8 0 ++ spelled 8 0)

first_record : record_in first_checkpoint ≡ nothing
unfolding record_in spelled field
first_record = refl

first_tables : tables_of (nothing ∷ []) ≡ no_tables
unfolding spelled field pairs_from items_from
first_tables = refl

empty_lists : spelled 8 0 ++ spelled 8 0 ++ spelled 8 0 ≡ lists_bytes [] [] []
unfolding spelled
empty_lists = refl

no_members : MembersFit 1 [] [] []
no_members = record { some = omega arith; next_fits = omega arith; opens_fit = (omega arith, tt); aborted_fit = (omega arith, tt); once = tt; items_fit = (omega arith, tt) }

nothing_passes : (1 < 2 ^ 64) × (checkpoint_checks (checkpoint_bytes 1 (spelled 8 0 ++ spelled 8 0 ++ spelled 8 0)) ≡ Ok tt)
nothing_passes =
    let pass = members_pass 1 [] [] [] no_members in
    (omega arith, subst (λ (l : List ℕ). checkpoint_checks (checkpoint_bytes 1 l) ≡ Ok tt) (sym empty_lists) pass.1)

first_logged : IsLogged nothing
first_logged = record { record_is = nothing_passes; members = ([], [], [], no_members, empty_lists) }

first_bytes : record_bytes nothing ≡ first_checkpoint
unfolding spelled
first_bytes = refl

first_fits : EachFits 64 no_tables (first_checkpoint ∷ [])
first_fits = (
  record {
    logged = subst IsLogged (sym first_record) first_logged;
    bytes_are = ap record_bytes first_record ∙ first_bytes;
    inside = subst (λ (r : Record). LiesInside 64 (overlay_of r)) (sym first_record) tt;
    needed = subst (λ (r : Record). needs r no_tables ≡ Ok tt) (sym first_record) (list_needs_met 1 (spelled 8 0 ++ spelled 8 0 ++ spelled 8 0) (omega arith) nothing_passes.1);
  },
  tt,
)

first_alone : BeginsOnce (first_checkpoint ∷ [])
unfolding spelled field
first_alone = (refl, tt)

-- the first gate of a closed file isn't open
shut : (l : List ℕ) → IsClosed l → slice_index l 0 ≢ 1
shut [] closed = λ e. omega (arith, e)
shut (x ∷ l) closed = closed

abbrev blank : PageHeld
blank = record { lsn = 0; body = zero_bytes 4096 }

-- pages that are blank at home are blank with the first record
untouched : (p : ℕ) (h : PageHeld) → overlaid p 1 (nothing ∷ []) h ≡ h
untouched p h = refl

pages_blank : (homes : ℕ → PageHeld) → ((p : ℕ) → homes p ≡ blank) → (p n : ℕ) → pages_of homes 1 (nothing ∷ []) p n ≡ replicate n (zero_bytes 4096)
pages_blank homes each p zero = refl
pages_blank homes each p (suc n) =
    ap (λ (h : PageHeld). h.body ∷ pages_of homes 1 (nothing ∷ []) (p + 1) n) (untouched p (homes p) ∙ each p)
    ∙ ap (λ (bs : List (List ℕ)). zero_bytes 4096 ∷ bs) (pages_blank homes each (p + 1) n)

module _ (image : Image) (is : IsNewDatabase image) where
  held : HoldsLog 0 1 (first_checkpoint ∷ []) image
  unfolding spelled
  held = inl (fresh_log, refl, record { named = is.log; short = (omega arith, tt); low = omega arith; dropped = inl (shut image.log_b is.other_log) })

  log_is : kept_log 0 1 image ≡ first_checkpoint ∷ []
  log_is = holds_is 0 1 image (first_checkpoint ∷ []) held

  none_newer : has_newer 1 image.log_a image.log_b ≡ false
  none_newer = newer_out 1 image.log_a image.log_b (inl (shut image.log_b is.other_log))

  named_is : log_in image.log_a ≡ first_checkpoint ∷ []
  named_is = sym (choose_no (has_newer 1 image.log_a image.log_b) (log_in image.log_a ++ log_in image.log_b) (log_in image.log_a) none_newer) ∙ log_is

  records_are : records_in (kept_log 0 1 image) ≡ nothing ∷ []
  records_are = ap records_in log_is ∙ ap (λ (r : Record). r ∷ []) first_record

  home_blank : (p : ℕ) → home_in 64 image p ≡ blank
  home_blank p =
      ⊎_elim (λ inside. counted_page 64 p image None inside (is.blank p inside)) (λ outside. blank_home 64 p image outside) (cases_lt p 64)

  sound : IsSound new_root image
  sound = record {
    says = (is.root, record { format = refl; file = omega arith; first_low = omega arith; first_high = omega arith; pages_low = omega arith; pages_high = omega arith; stamp = omega arith });
    log = subst (λ (l : List (List ℕ)). HoldsLog 0 1 l image) (sym log_is) held;
    fits = subst (EachFits 64 no_tables) (sym log_is) first_fits;
    begins = record { named = subst BeginsOnce (sym named_is) first_alone; newer = λ is. absurd (cc (is, none_newer)) };
    continues = subst TablesGoOn (sym log_is) tt;
    below = λ p. omega (arith, ap (λ (h : PageHeld). h.lsn) (home_blank p), ap (λ (rs : List Record). length rs) records_are);
    numbered = λ p v inside has. absurd (none_some v (sym (is.blank p inside) ∙ has));
    size = is.size;
  }
    where
      none_some : (v : BlockValue) → None ≡ Some v → ⊥
      none_some v e = cc e

  pub folds_new : FoldsTo image new_state
  folds_new = record {
    root = new_root;
    sound = sound;
    state_is =
        ap (λ (rs : List Record). state_of (record { counted = 64; homes = home_in 64 image; first = 1; records = rs })) records_are
        ∙ ap (λ (ps : List (List ℕ)). record { counted = 64; pages = ps; tables = tables_of (nothing ∷ []) }) (pages_blank (home_in 64 image) home_blank 0 page_limit)
        ∙ ap (λ t. record { counted = 64; pages = replicate page_limit (zero_bytes 4096); tables = t }) first_tables;
  }
