-- Who is open behind an action was so before it, or is the one that has begun by it; and the next number doesn't fall.
use Rattle.std.proofs.Common.{◌≡◌, ◌⊎◌, ⊎_elim, inl, inr, ℕ, ◌≤◌, true, [], ◌∷◌, refl, sym, ◌∙◌, subst, arith}
use Rattle.ctr_meta.specs.Effects.{one_head_more, one_head_less}
use Rattle.ctr_meta.specs.Tables.{is_in}
use Rattle.ctr_paged.specs.area_Sound.{IsAmong, xids_in}
use Rattle.ctr_paged.proofs.record_laws_Begin.{xids_append}
use Rattle.ctr_paged.proofs.record_laws_Leaving.{among_without}
use Rattle.ctr_paged.proofs.record_laws_Members.{among_parts}
use Rattle.ctr_paged.proofs.record_laws_Xids.{HaveSameXids, among_in, in_among, same_in, both_same, more_same, less_same}
use Rattle.ctr_paged.specs.record_laws_Owed.{RowMove, loses_head}
use Rattle.ctr_paged.specs.actions_Sites.{Site}
use Rattle.ctr_paged.specs.actions_Actions.{Action, Begins, Allocates, Formats, Links, LinksOlder, Keeps, Writes, Creates, Drops, Commits, Frees, Uncreates, Undrops, Aborts, Reclaims, Reverts, Trims, Cuts, FreesOlder, MakesDead, Unlinks, UnlinksOlder, FreesEntry, Forgets, Checkpoints, Owes, site_after}

no_less : {a b : ℕ} → b ≡ a → a ≤ b
no_less is = omega (arith, is)

-- a row changes heads alone
row_same : (m : RowMove) (y : ℕ) (s : Site) → HaveSameXids s.tables (site_after y (Writes m) s).tables
row_same m y s =
    let more = one_head_more m.xid s.tables in
    both_same s.tables more (one_head_less (loses_head s.tables (s.area.slot m.at)) more) (more_same m.xid s.tables) (less_same (loses_head s.tables (s.area.slot m.at)) more)

pub opened_by : (x y : ℕ) (a : Action) (s : Site) → is_in x (site_after y a s).tables.opens ≡ true → is_in x s.tables.opens ≡ true ⊎ ((x ≡ y) × (a ≡ Begins))
opened_by x y Begins s open_ = ⊎_elim
    (λ before. inl (among_in x s.tables.opens before))
    (λ it. ⊎_elim (λ same. inr (same, refl)) (λ none. absurd none) it)
    (among_parts x (xids_in s.tables.opens) (y ∷ []) (subst (IsAmong x) (xids_append s.tables.opens ((y, 0) ∷ [])) (in_among x (site_after y Begins s).tables.opens open_)))
opened_by x y (Allocates q) s open_ = inl open_
opened_by x y (Formats q g) s open_ = inl open_
opened_by x y (Links q f k) s open_ = inl open_
opened_by x y (LinksOlder q f) s open_ = inl open_
opened_by x y (Keeps f b older) s open_ = inl open_
opened_by x y (Writes m) s open_ = inl (sym (same_in x (site_after y (Writes m) s).tables.opens s.tables.opens (row_same m y s).opens) ∙ open_)
opened_by x y (Creates f name columns left) s open_ = inl open_
opened_by x y (Drops f) s open_ = inl open_
opened_by x y Commits s open_ = inl (among_in x s.tables.opens (among_without y x s.tables.opens (in_among x (site_after y Commits s).tables.opens open_)))
opened_by x y (Frees q) s open_ = inl open_
opened_by x y (Uncreates f) s open_ = inl open_
opened_by x y (Undrops f) s open_ = inl open_
opened_by x y Aborts s open_ = inl (among_in x s.tables.opens (among_without y x s.tables.opens (in_among x (site_after y Aborts s).tables.opens open_)))
opened_by x y (Reclaims q) s open_ = inl open_
opened_by x y (Reverts f b way) s open_ = inl open_
opened_by x y (Trims passes f b way) s open_ = inl open_
opened_by x y (Cuts passes f b r) s open_ = inl open_
opened_by x y (FreesOlder f r) s open_ = inl open_
opened_by x y (MakesDead passes f) s open_ = inl open_
opened_by x y (Unlinks q f k) s open_ = inl open_
opened_by x y (UnlinksOlder q f) s open_ = inl open_
opened_by x y (FreesEntry f was left) s open_ = inl open_
opened_by x y (Forgets z) s open_ = inl open_
opened_by x y (Checkpoints lists) s open_ = inl open_

-- a number that is drawn is the next one
pub open_since : (x y : ℕ) (a : Action) (s : Site) → Owes y a s → is_in x (site_after y a s).tables.opens ≡ true → is_in x s.tables.opens ≡ true ⊎ (s.tables.next ≤ x)
open_since x y a s owed open_ = ⊎_elim (λ before. inl before)
    (λ it. let begins : Owes y Begins s = subst (λ (z : Action). Owes y z s) it.1 owed in inr (no_less (it.0 ∙ begins.is_next)))
    (opened_by x y a s open_)

pub next_grows : (y : ℕ) (a : Action) (s : Site) → s.tables.next ≤ (site_after y a s).tables.next
next_grows y Begins s = omega arith
next_grows y (Allocates q) s = omega arith
next_grows y (Formats q g) s = omega arith
next_grows y (Links q f k) s = omega arith
next_grows y (LinksOlder q f) s = omega arith
next_grows y (Keeps f b older) s = omega arith
next_grows y (Writes m) s = no_less (row_same m y s).next
next_grows y (Creates f name columns left) s = omega arith
next_grows y (Drops f) s = omega arith
next_grows y Commits s = omega arith
next_grows y (Frees q) s = omega arith
next_grows y (Uncreates f) s = omega arith
next_grows y (Undrops f) s = omega arith
next_grows y Aborts s = omega arith
next_grows y (Reclaims q) s = omega arith
next_grows y (Reverts f b way) s = omega arith
next_grows y (Trims passes f b way) s = omega arith
next_grows y (Cuts passes f b r) s = omega arith
next_grows y (FreesOlder f r) s = omega arith
next_grows y (MakesDead passes f) s = omega arith
next_grows y (Unlinks q f k) s = omega arith
next_grows y (UnlinksOlder q f) s = omega arith
next_grows y (FreesEntry f was left) s = omega arith
next_grows y (Forgets z) s = omega arith
next_grows y (Checkpoints lists) s = omega arith
