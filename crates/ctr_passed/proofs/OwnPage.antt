-- A page of one's own stays as it is over another's action.
use Rattle.std.proofs.Common.{◌≡◌, ℕ, ◌≤◌, List, sym, arith}
use Rattle.ctr_actions.specs.page_Header.{Header}
use Rattle.ctr_actions.specs.area_Chains.{older_bound}
use Rattle.ctr_actions.specs.area_Sound.{along}
use Rattle.ctr_actions.specs.record_laws_Bounds.{IsInBounds}
use Rattle.ctr_actions.specs.record_laws_Owed.{OwedByFormat}
use Rattle.ctr_actions.specs.Sites.{Site, IsSoundSite}
use Rattle.ctr_actions.specs.Actions.{Action, Begins, Allocates, Formats, Links, LinksOlder, Keeps, Writes, Creates, Drops, Commits, Frees, Uncreates, Undrops, Aborts, Reclaims, Reverts, Trims, Cuts, FreesOlder, MakesDead, Unlinks, UnlinksOlder, FreesEntry, Forgets, Checkpoints, Owes}
use Rattle.ctr_actions.specs.Facts.{HasBlank, IsBeside}
use Rattle.ctr_actions.proofs.Owners.{slot_elsewhere, older_elsewhere}
use Rattle.ctr_passed.specs.Laid.{LiesAs}
use Rattle.ctr_passed.proofs.Pagewise.{PassedIn}
use Rattle.ctr_passed.proofs.Kept.{along_older, first_in, row_here, item_third}

module _ (x y p : ℕ) (h : Header) (s : Site) (bounds : IsInBounds s.area) (sound : IsSoundSite s) (old new : ℕ → List ℕ) (passed : PassedIn s.counted old s.area) (mine : OwedByFormat s.tables x p) where
  third : 3 ≤ p
  third = item_third s bounds sound old new passed x p mine

  behind : 1 ≤ p
  behind = let ge = third in omega (arith, ge)

  pub own_page : (a : Action) → Owes y a s → IsBeside a (HasBlank p h) → LiesAs a s.area old new → new p ≡ old p
  own_page Begins owed beside lies = lies p behind
  own_page (Allocates q) owed beside lies = lies p behind
  own_page (Formats q g) owed beside lies = lies p beside
  own_page (Links q f k) owed beside lies = lies.pages p third
  own_page (LinksOlder q f) owed beside lies = lies.pages p third
  own_page (Keeps f b older) owed beside lies = lies.pages p (λ is. older_elsewhere x p s bounds sound mine f b owed.1.here (sym is))
  own_page (Writes m) owed beside lies = lies.pages p (λ is. slot_elsewhere x p s bounds sound mine m.entry m.at (row_here s.tables s.area m owed.1) (sym is))
  own_page (Creates f name columns left) owed beside lies = lies.pages p third
  own_page (Drops f) owed beside lies = lies.pages p third
  own_page Commits owed beside lies = lies p behind
  own_page (Frees q) owed beside lies = lies p behind
  own_page (Uncreates f) owed beside lies = lies.pages p third
  own_page (Undrops f) owed beside lies = lies.pages p third
  own_page Aborts owed beside lies = lies p behind
  own_page (Reclaims q) owed beside lies = lies p behind
  own_page (Reverts f b way) owed beside lies = lies.pages p (λ is. slot_elsewhere x p s bounds sound mine f b owed.used.0 (sym is))
  own_page (Trims passes f b way) owed beside lies = lies.pages p (λ is. slot_elsewhere x p s bounds sound mine f b owed.used.0 (sym is))
  own_page (Cuts passes f b r) owed beside lies = lies.pages p (λ is. older_elsewhere x p s bounds sound mine f r
      (along_older s.area f (s.area.slot b).key older_bound (s.area.slot b).pointer r (sound.pointers.lead f b owed.used) (first_in passes s.area.older r (along s.area b) owed.first)) (sym is))
  own_page (FreesOlder f r) owed beside lies = lies.pages p (λ is. older_elsewhere x p s bounds sound mine f r owed.here (sym is))
  own_page (MakesDead passes f) owed beside lies = lies.pages p third
  own_page (Unlinks q f k) owed beside lies = lies.pages p third
  own_page (UnlinksOlder q f) owed beside lies = lies.pages p third
  own_page (FreesEntry f was left) owed beside lies = lies.pages p third
  own_page (Forgets z) owed beside lies = lies p behind
  own_page (Checkpoints lists) owed beside lies = lies p behind
