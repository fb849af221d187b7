-- What each call of the backing keeps, however it ends, joined over calls.
use Rattle.std.proofs.Common.{◌≡◌, ◌⊎◌, inl, inr, ⊎_elim, ℕ, [], ◌+◌, ◌^◌, ◌≤◌, refl, ◌∙◌, arith}
use Rattle.ctr_disk.specs.declared.disk.Disk.{Ghosts}
use Rattle.ctr_redo.specs.log_Logs.{Log, WaitsOrNone, log_end}
use Rattle.ctr_base.specs.declared.base.Base.{Base}
use Rattle.ctr_base.specs.Base.{GoesOnTo, KeepsBase}

module _ {D : Type 0} (g : Ghosts D) where
  -- the strays of one disk and of a later one
  abbrev Strays : D → D → ℕ → Type 0
  Strays a b end = (g.strays_of b ≡ g.strays_of a) ⊎ (2 ^ 62 + 2 ^ 61 ≤ end)

  both_strays : (a b c : D) (end : ℕ) → Strays a b end → Strays b c end → Strays a c end
  both_strays a b c end (inl one) (inl two) = inl (two ∙ one)
  both_strays a b c end (inl one) (inr far) = inr far
  both_strays a b c end (inr far) any = inr far

  -- time goes on from one disk to a second and on to a third
  pub goes_on_to : (a b c : D) (end : ℕ) → GoesOnTo g a b end → GoesOnTo g b c end
      → GoesOnTo g a c end
  goes_on_to a b c end ab bc = record {
    later = omega (arith, ab.later, bc.later);
    stray = both_strays a b c end ab.stray bc.stray;
  }

  -- so it does where the log ends further on
  pub goes_by : (a b : D) (end further : ℕ) → end ≤ further → GoesOnTo g a b end
      → GoesOnTo g a b further
  goes_by a b end further more goes = record {
    later = goes.later;
    stray = ⊎_elim inl (λ far. inr (omega (arith, far, more))) goes.stray;
  }

-- a base is kept by itself
pub base_kept : {D O : Type 0} (g : Ghosts D) (b : Base D O) → KeepsBase g b b
base_kept g b = record {
  root = refl;
  file = refl;
  older = refl;
  start = refl;
  ends = refl;
  goes = record { later = omega arith; stray = inl refl };
  size = omega arith;
  next = refl;
  waits = inl refl;
  stray = λ none. refl;
}

-- a base is kept where time goes on over its disk alone, with no stray
pub read_kept : {D O : Type 0} (g : Ghosts D) (b : Base D O) (d : D)
    → g.moment_of b.disk ≤ g.moment_of d → g.strays_of d ≡ g.strays_of b.disk
    → KeepsBase g b (record b { disk = d })
read_kept g b d later same = record {
  root = refl;
  file = refl;
  older = refl;
  start = refl;
  ends = refl;
  goes = record { later = later; stray = inl same };
  size = omega arith;
  next = refl;
  waits = inl refl;
  stray = λ none. same;
}

-- what is kept by one call and by the next is kept by both
pub base_kept_on : {D O : Type 0} (g : Ghosts D) (a b c : Base D O) → KeepsBase g a b
    → KeepsBase g b c → KeepsBase g a c
base_kept_on g a b c ab bc =
    let m = ab.size in
    let n = bc.size in
    let end = log_end a.log in
    let further = goes_by g b.disk c.disk (log_end b.log) end (omega (arith, ab.ends)) bc.goes in
    record {
      root = bc.root ∙ ab.root;
      file = bc.file ∙ ab.file;
      older = bc.older ∙ ab.older;
      start = bc.start ∙ ab.start;
      ends = bc.ends ∙ ab.ends;
      goes = goes_on_to g a.disk b.disk c.disk end ab.goes further;
      size = omega (arith, m, n);
      next = bc.next ∙ ab.next;
      waits = still_waits a.log b.log c.log ab.waits bc.waits;
      stray = λ none. bc.stray (none_behind a.log b.log none ab.waits) ∙ ab.stray none;
    }
  where
    still_waits : (x y z : Log) → WaitsOrNone x y → WaitsOrNone y z → WaitsOrNone x z
    still_waits x y z (inl xy) (inl yz) = inl (yz ∙ xy)
    still_waits x y z (inr none) (inl yz) = inr (yz ∙ none)
    still_waits x y z first (inr none) = inr none

    none_behind : (x y : Log) → x.buffered ≡ [] → WaitsOrNone x y → y.buffered ≡ []
    none_behind x y none (inl same) = same ∙ none
    none_behind x y none (inr gone) = gone
