-- The title of another entry, and a slot of another table where a bucket loses a page.
use Rattle.std.proofs.Common.{◌≡◌, ◌≢◌, ℕ, cond, refl, sym, ◌∙◌, ap, subst}
use Rattle.std.proofs.lemmas.Bool.{ne_eqb}
use Rattle.std.specs.List.{flat_map}
use Rattle.ctr_record_laws.specs.area_Areas.{Title, Firsts, RowVersion, Slot}
use Rattle.ctr_record_laws.specs.area_Chains.{places_from}
use Rattle.ctr_record_laws.specs.area_Changes.{with_firsts, new_title}
use Rattle.ctr_record_laws.specs.area_Sound.{IsAmong, IsUsedSlot}
use Rattle.ctr_record_laws.specs.page_Place.{Place}
use Rattle.ctr_record_laws.specs.Loose.{IsSameSlot}
use Rattle.ctr_actions.specs.Sites.{Site}
use Rattle.ctr_actions.specs.Actions.{Action, Begins, Allocates, Formats, Links, LinksOlder, Keeps, Writes, Creates, Drops, Commits, Frees, Uncreates, Undrops, Aborts, Reclaims, Reverts, Trims, Cuts, FreesOlder, MakesDead, Unlinks, UnlinksOlder, FreesEntry, Forgets, Checkpoints, Owes, site_after}
use Rattle.ctr_actions.specs.Facts.{HasSlot, HasCopy, HasTable, IsAway}

pub title_stays : (y : ℕ) (a : Action) (e : ℕ) (title : Title) (s : Site) → Owes y a s → IsAway a (HasTable e title) → (site_after y a s).area.title e ≡ s.area.title e
title_stays y Begins e title s owed away = refl
title_stays y (Allocates q) e title s owed away = refl
title_stays y (Formats q g) e title s owed away = refl
title_stays y (Links q f k) e title s owed away = refl
title_stays y (LinksOlder q f) e title s owed away = refl
title_stays y (Keeps f b older) e title s owed away = refl
title_stays y (Writes m) e title s owed away = refl
title_stays y (Creates f name columns left) e title s owed away = owed.1.titles e ∙ ap (λ b. cond b (new_title y name columns) (s.area.title e)) (ne_eqb e f away)
title_stays y (Drops f) e title s owed away = ap (λ b. cond b (record (s.area.title f) { dropper = y }) (s.area.title e)) (ne_eqb e f away)
title_stays y Commits e title s owed away = refl
title_stays y (Frees q) e title s owed away = refl
title_stays y (Uncreates f) e title s owed away = ap (λ b. cond b (record (s.area.title f) { state = 2 }) (s.area.title e)) (ne_eqb e f away)
title_stays y (Undrops f) e title s owed away = ap (λ b. cond b (record (s.area.title f) { dropper = 0 }) (s.area.title e)) (ne_eqb e f away)
title_stays y Aborts e title s owed away = refl
title_stays y (Reclaims q) e title s owed away = refl
title_stays y (Reverts f b way) e title s owed away = refl
title_stays y (Trims passes f b way) e title s owed away = refl
title_stays y (Cuts passes f b r) e title s owed away = refl
title_stays y (FreesOlder f r) e title s owed away = refl
title_stays y (MakesDead passes f) e title s owed away = ap (λ b. cond b (record (s.area.title f) { state = 2 }) (s.area.title e)) (ne_eqb e f away)
title_stays y (Unlinks q f k) e title s owed away = refl
title_stays y (UnlinksOlder q f) e title s owed away = refl
title_stays y (FreesEntry f was left) e title s owed away = owed.2.titles e ∙ ap (λ b. cond b was (s.area.title e)) (ne_eqb e f away)
title_stays y (Forgets z) e title s owed away = refl
title_stays y (Checkpoints lists) e title s owed away = refl

-- what is away from a copy is away from its slot
pub away_slot : (a : Action) (e : ℕ) (at : Place) (v : RowVersion) (p : Place) (of : Slot) → IsAway a (HasCopy e at v p) → IsAway a (HasSlot e at of)
away_slot Begins e at v p of away = tt
away_slot (Allocates q) e at v p of away = tt
away_slot (Formats q g) e at v p of away = tt
away_slot (Links q f k) e at v p of away = tt
away_slot (LinksOlder q f) e at v p of away = tt
away_slot (Keeps f b older) e at v p of away = tt
away_slot (Writes m) e at v p of away = away
away_slot (Creates f name columns left) e at v p of away = tt
away_slot (Drops f) e at v p of away = tt
away_slot Commits e at v p of away = tt
away_slot (Frees q) e at v p of away = tt
away_slot (Uncreates f) e at v p of away = tt
away_slot (Undrops f) e at v p of away = tt
away_slot Aborts e at v p of away = tt
away_slot (Reclaims q) e at v p of away = tt
away_slot (Reverts f b way) e at v p of away = away
away_slot (Trims passes f b way) e at v p of away = away
away_slot (Cuts passes f b r) e at v p of away = tt
away_slot (FreesOlder f r) e at v p of away = tt
away_slot (MakesDead passes f) e at v p of away = tt
away_slot (Unlinks q f k) e at v p of away = away
away_slot (UnlinksOlder q f) e at v p of away = tt
away_slot (FreesEntry f was left) e at v p of away = tt
away_slot (Forgets z) e at v p of away = tt
away_slot (Checkpoints lists) e at v p of away = tt

pub unlinked : (s : Site) (e : ℕ) (at : Place) (f : ℕ) (t : Firsts) → e ≢ f → IsUsedSlot s.area e at → IsSameSlot s.area (with_firsts f t s.area) e at
unlinked s e at f t apart used = record {
  used = (subst (λ (u : Firsts). IsAmong at (flat_map (places_from s.area) u.buckets)) (sym (ap (λ b. cond b t (s.area.firsts e)) (ne_eqb e f apart))) used.0, used.1);
  same = refl;
}
