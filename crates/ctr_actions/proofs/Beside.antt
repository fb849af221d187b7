-- Another's action is beside a page of one's own.
use Rattle.std.proofs.Common.{◌≢◌, ℕ}
use Rattle.ctr_record_laws.specs.page_Header.{Header}
use Rattle.ctr_record_laws.specs.Bounds.{IsInBounds}
use Rattle.ctr_record_laws.specs.Owed.{OwedByFormat}
use Rattle.ctr_actions.specs.Sites.{Site, IsSoundSite}
use Rattle.ctr_actions.specs.Actions.{Action, Begins, Allocates, Formats, Links, LinksOlder, Keeps, Writes, Creates, Drops, Commits, Frees, Uncreates, Undrops, Aborts, Reclaims, Reverts, Trims, Cuts, FreesOlder, MakesDead, Unlinks, UnlinksOlder, FreesEntry, Forgets, Checkpoints, Owes}
use Rattle.ctr_actions.specs.Facts.{HasPage, HasBlank, IsBeside}
use Rattle.ctr_actions.proofs.Owners.{pages_apart}

module _ (x y p : ℕ) (s : Site) (bounds : IsInBounds s.area) (sound : IsSoundSite s) (apart : x ≢ y) (mine : OwedByFormat s.tables x p) where
  of : (q : ℕ) → OwedByFormat s.tables y q → p ≢ q
  of q theirs = pages_apart x y p q s bounds sound apart mine theirs

  pub beside_page : (a : Action) → Owes y a s → IsBeside a (HasPage p)
  beside_page Begins owed = tt
  beside_page (Allocates q) owed = tt
  beside_page (Formats q g) owed = tt
  beside_page (Links q f k) owed = of q owed.item
  beside_page (LinksOlder q f) owed = of q owed.item
  beside_page (Keeps f b older) owed = tt
  beside_page (Writes m) owed = tt
  beside_page (Creates f name columns left) owed = tt
  beside_page (Drops f) owed = tt
  beside_page Commits owed = tt
  beside_page (Frees q) owed = of q owed
  beside_page (Uncreates f) owed = tt
  beside_page (Undrops f) owed = tt
  beside_page Aborts owed = tt
  beside_page (Reclaims q) owed = tt
  beside_page (Reverts f b way) owed = tt
  beside_page (Trims passes f b way) owed = tt
  beside_page (Cuts passes f b r) owed = tt
  beside_page (FreesOlder f r) owed = tt
  beside_page (MakesDead passes f) owed = tt
  beside_page (Unlinks q f k) owed = tt
  beside_page (UnlinksOlder q f) owed = tt
  beside_page (FreesEntry f was left) owed = tt
  beside_page (Forgets z) owed = tt
  beside_page (Checkpoints lists) owed = tt

  pub beside_blank : (a : Action) (h : Header) → Owes y a s → IsBeside a (HasBlank p h)
  beside_blank Begins h owed = tt
  beside_blank (Allocates q) h owed = tt
  beside_blank (Formats q g) h owed = of q owed
  beside_blank (Links q f k) h owed = of q owed.item
  beside_blank (LinksOlder q f) h owed = of q owed.item
  beside_blank (Keeps f b older) h owed = tt
  beside_blank (Writes m) h owed = tt
  beside_blank (Creates f name columns left) h owed = tt
  beside_blank (Drops f) h owed = tt
  beside_blank Commits h owed = tt
  beside_blank (Frees q) h owed = of q owed
  beside_blank (Uncreates f) h owed = tt
  beside_blank (Undrops f) h owed = tt
  beside_blank Aborts h owed = tt
  beside_blank (Reclaims q) h owed = tt
  beside_blank (Reverts f b way) h owed = tt
  beside_blank (Trims passes f b way) h owed = tt
  beside_blank (Cuts passes f b r) h owed = tt
  beside_blank (FreesOlder f r) h owed = tt
  beside_blank (MakesDead passes f) h owed = tt
  beside_blank (Unlinks q f k) h owed = tt
  beside_blank (UnlinksOlder q f) h owed = tt
  beside_blank (FreesEntry f was left) h owed = tt
  beside_blank (Forgets z) h owed = tt
  beside_blank (Checkpoints lists) h owed = tt

pub blank_page : (a : Action) (p : ℕ) (h : Header) → IsBeside a (HasBlank p h) → IsBeside a (HasPage p)
blank_page Begins p h beside = tt
blank_page (Allocates q) p h beside = tt
blank_page (Formats q g) p h beside = tt
blank_page (Links q f k) p h beside = beside
blank_page (LinksOlder q f) p h beside = beside
blank_page (Keeps f b older) p h beside = tt
blank_page (Writes m) p h beside = tt
blank_page (Creates f name columns left) p h beside = tt
blank_page (Drops f) p h beside = tt
blank_page Commits p h beside = tt
blank_page (Frees q) p h beside = beside
blank_page (Uncreates f) p h beside = tt
blank_page (Undrops f) p h beside = tt
blank_page Aborts p h beside = tt
blank_page (Reclaims q) p h beside = tt
blank_page (Reverts f b way) p h beside = tt
blank_page (Trims passes f b way) p h beside = tt
blank_page (Cuts passes f b r) p h beside = tt
blank_page (FreesOlder f r) p h beside = tt
blank_page (MakesDead passes f) p h beside = tt
blank_page (Unlinks q f k) p h beside = tt
blank_page (UnlinksOlder q f) p h beside = tt
blank_page (FreesEntry f was left) p h beside = tt
blank_page (Forgets z) p h beside = tt
blank_page (Checkpoints lists) p h beside = tt
