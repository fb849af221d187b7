-- The files of a new database pass all checks of an opening.
use Rattle.std.proofs.Common.{◌≡◌, ◌≢◌, inl, ℕ, zero, suc, ◌+◌, ◌-◌, ◌≤◌, if◌then◌else◌, List, [], ◌∷◌, ◌++◌, length, Some, None, Ok, Err, refl, sym, ◌∙◌, ap, subst, arith}
use Rattle.std.specs.Prelude.{slice_index, min, drop, ⊤, Result}
use Rattle.ctr_types.specs.Damage.{damage_of}
use Rattle.ctr_types.specs.declared.file.File.{File}
use Rattle.ctr_types.specs.declared.file.File.TheVariants.{LogA}
use Rattle.ctr_disk.specs.Image.{Image}
use Rattle.ctr_disk.specs.declared.fault.StoreFault.{StoreFault}
use Rattle.ctr_disk.specs.declared.fault.StoreFault.TheVariants.{Damaged}
use Rattle.ctr_home.specs.declared.block.Block.TheVariants.{Root as RootBlock}
use Rattle.ctr_home.specs.declared.checks.Check.{Check}
use Rattle.ctr_home.specs.declared.root.Root.{Root}
use Rattle.ctr_home.specs.Blocks.{value_of}
use Rattle.ctr_home.specs.Checks.{check_of, judged}
use Rattle.ctr_home.specs.Roots.{SaysRoot}
use Rattle.ctr_log.specs.Fresh.{first_checkpoint, fresh_log, IsClosed}
use Rattle.ctr_log.specs.Kept.{log_in, kept_log, other_file, has_newer, HoldsLog}
use Rattle.ctr_log.specs.LogChecks.{batch_checks, log_checks, file_damage, damage_or, kept_damage}
use Rattle.ctr_log.specs.Logs.{batch, batches, HasLog}
use Rattle.ctr_log.proofs.KeptLaws.{holds_is, picks, passes}
use Rattle.ctr_area.specs.ctr_bytes.Fields.{spelled, field}
use Rattle.ctr_area.specs.ctr_page.ctr_rec.Members.{pairs_from, items_from}
use Rattle.ctr_area.specs.ctr_page.ctr_rec.Read.{record_in}
use Rattle.ctr_redo.specs.ctr_meta.Effects.{tables_of}
use Rattle.ctr_redo.specs.Images.{records_in, FoldsTo, IsNewDatabase, IsSound, new_root, new_state}
use Rattle.ctr_redo.proofs.FitLaws.{choose_no, newer_out}
use Rattle.ctr_base.specs.Opening.{FindsRoot}
use Rattle.ctr_base.proofs.RootLaws.{one_root}
use Rattle.ctr_store.specs.Opening.{LogPasses, OverlaidPass, worn_by, worn_in}
use Rattle.ctr_store.specs.PageChecks.{PagesPass}
use Rattle.ctr_store.proofs.SoundLaws.{sound_passes}

-- ---- the checks of its log

one_check : (file : File) (at want got : ℕ) (cs : List Check) → want ≡ got → judged file (check_of at want got ∷ cs) ≡ judged file cs
one_check file at want got cs same = picks want got (judged file cs) (Err (Damaged (damage_of file at want got))) same

-- behind a closed gate none is left
shut_checks : (next at n gate : ℕ) (rest : List ℕ) → gate ≢ 1 → log_checks next at n (gate ∷ rest) ≡ []
shut_checks next at zero gate rest shut = refl
shut_checks next at (suc n) gate rest shut =
    let bytes = gate ∷ rest in
    passes gate 1 (batch_checks next at bytes ++ log_checks (next + field 4 17 bytes) (at + (21 + field 8 1 bytes)) n (drop (21 + field 8 1 bytes) bytes)) [] shut

module _ (gate : ℕ) (rest : List ℕ) (shut : gate ≢ 1) where
  abbrev behind_first : List ℕ
  behind_first = batch 1 (first_checkpoint ∷ []) ++ gate ∷ rest

  -- of its one batch all but the first are of numbers alone
  batch_passes : file_damage LogA 1 (1 ∷ behind_first) ≡ judged LogA (log_checks 2 63 (length behind_first) (gate ∷ rest))
  unfolding spelled field
  batch_passes =
      let left = length (1 ∷ behind_first) in
      let more = log_checks 2 63 (length behind_first) (gate ∷ rest) in
      one_check LogA 1 (min (left - 22) 42) 42 more (let e : min (left - 22) 42 ≡ 42 = omega arith in e)

  file_passes : file_damage LogA 1 (batches 1 fresh_log ++ gate ∷ rest) ≡ Ok tt
  unfolding spelled
  file_passes = batch_passes ∙ ap (judged LogA) (shut_checks 2 63 (length behind_first) gate rest shut)

log_passes : (bytes : List ℕ) → HasLog 1 fresh_log bytes → file_damage LogA 1 bytes ≡ Ok tt
log_passes bytes log = let b = log.batches_are in ap (file_damage LogA 1) b.bytes_are ∙ file_passes b.gate b.rest b.closed

-- ---- its one record

one_record : (next : ℕ) (image : Image) → PagesPass next image (records_in (first_checkpoint ∷ []))
unfolding record_in spelled field
one_record next image = (tt, tt)

one_fresh : worn_by 2 (tables_of (records_in (first_checkpoint ∷ []))).next ≡ None
unfolding record_in spelled field pairs_from items_from
one_fresh = refl

-- the first gate of a closed file isn't open
closed_gate : (l : List ℕ) → IsClosed l → slice_index l 0 ≢ 1
closed_gate [] closed = λ e. omega (arith, e)
closed_gate (x ∷ l) closed = closed

-- ---- its files

module _ (image : Image) (is : IsNewDatabase image) (folds : FoldsTo image new_state) where
  held : HoldsLog 0 1 (first_checkpoint ∷ []) image
  unfolding spelled
  held = inl (fresh_log, refl, record { named = is.log; short = (omega arith, tt); low = omega arith; dropped = inl (closed_gate image.log_b is.other_log) })

  kept_is : kept_log 0 1 image ≡ first_checkpoint ∷ []
  kept_is = holds_is 0 1 image (first_checkpoint ∷ []) held

  says : SaysRoot (value_of RootBlock image) new_root
  says = (is.root, record { format = refl; file = omega arith; first_low = omega arith; first_high = omega arith; pages_low = omega arith; pages_high = omega arith; stamp = omega arith })

  sound : IsSound new_root image
  sound = subst (λ (r : Root). IsSound r image) (one_root (value_of RootBlock image) folds.root new_root folds.sound.says says) folds.sound

  pub new_finds_root : FindsRoot image (Some new_root)
  new_finds_root = (says, sound.size)

  damage_none : kept_damage 0 1 image ≡ Ok tt
  damage_none =
      let newer = file_damage (other_file 0) (1 + length (log_in image.log_a)) image.log_b in
      ap (λ (d : Result ⊤ StoreFault). damage_or d (if has_newer 1 image.log_a image.log_b then newer else Ok tt)) (log_passes image.log_a is.log)
      ∙ choose_no (has_newer 1 image.log_a image.log_b) newer (Ok tt) (newer_out 1 image.log_a image.log_b (inl (closed_gate image.log_b is.other_log)))

  pub new_log_passes : LogPasses new_root image
  new_log_passes = (damage_none, sound_passes new_root image sound)

  pub new_pages_pass : OverlaidPass new_root image
  new_pages_pass = subst (λ (l : List (List ℕ)). PagesPass (1 + length (records_in l)) image (records_in l)) (sym kept_is) (one_record 2 image)

  pub new_is_fresh : worn_in new_root image ≡ None
  new_is_fresh = ap (λ (l : List (List ℕ)). worn_by (1 + length l) (tables_of (records_in l)).next) kept_is ∙ one_fresh
