-- An open transaction stays open over the actions of others, and over its own but those that end it.
use Rattle.std.proofs.Common.{◌≡◌, ◌≢◌, ◌⊎◌, ⊎_elim, ℕ, true, [], ◌∷◌, sym, ◌∙◌, subst}
use Rattle.ctr_record_laws.specs.area_Sound.{IsAmong, xids_in}
use Rattle.ctr_record_laws.proofs.Begin.{xids_append}
use Rattle.ctr_record_laws.proofs.Leaving.{still_among}
use Rattle.ctr_record_laws.specs.meta_Effects.{one_head_more, one_head_less}
use Rattle.ctr_record_laws.specs.meta_Tables.{is_in}
use Rattle.ctr_record_laws.proofs.Members.{among_front}
use Rattle.ctr_record_laws.proofs.Xids.{among_in, in_among, same_in, both_same, more_same, less_same}
use Rattle.ctr_record_laws.specs.Owed.{loses_head}
use Rattle.ctr_actions.specs.Sites.{Site}
use Rattle.ctr_actions.specs.Actions.{Action, Begins, Allocates, Formats, Links, LinksOlder, Keeps, Writes, Creates, Drops, Commits, Frees, Uncreates, Undrops, Aborts, Reclaims, Reverts, Trims, Cuts, FreesOlder, MakesDead, Unlinks, UnlinksOlder, FreesEntry, Forgets, Checkpoints, site_after}
use Rattle.ctr_actions.specs.Facts.{IsOpen, IsBeside}

pub open_stays : (x y : ℕ) (a : Action) (s : Site) → IsBeside a IsOpen ⊎ (x ≢ y) → is_in x s.tables.opens ≡ true → is_in x (site_after y a s).tables.opens ≡ true
open_stays x y Begins s either open_ =
    among_in x (site_after y Begins s).tables.opens (subst (IsAmong x) (sym (xids_append s.tables.opens ((y, 0) ∷ []))) (among_front x (xids_in s.tables.opens) (y ∷ []) (in_among x s.tables.opens open_)))
open_stays x y (Allocates q) s either open_ = open_
open_stays x y (Formats q g) s either open_ = open_
open_stays x y (Links q f k) s either open_ = open_
open_stays x y (LinksOlder q f) s either open_ = open_
open_stays x y (Keeps f b older) s either open_ = open_
open_stays x y (Writes m) s either open_ =
    let tables = s.tables in
    let more = one_head_more m.xid tables in
    let less = one_head_less (loses_head tables (s.area.slot m.at)) more in
    same_in x less.opens tables.opens (both_same tables more less (more_same m.xid tables) (less_same (loses_head tables (s.area.slot m.at)) more)).opens ∙ open_
open_stays x y (Creates f name columns left) s either open_ = open_
open_stays x y (Drops f) s either open_ = open_
open_stays x y Commits s either open_ = ⊎_elim (λ never. absurd never) (λ apart. among_in x (site_after y Commits s).tables.opens (still_among y x s.tables.opens apart (in_among x s.tables.opens open_))) either
open_stays x y (Frees q) s either open_ = open_
open_stays x y (Uncreates f) s either open_ = open_
open_stays x y (Undrops f) s either open_ = open_
open_stays x y Aborts s either open_ = ⊎_elim (λ never. absurd never) (λ apart. among_in x (site_after y Aborts s).tables.opens (still_among y x s.tables.opens apart (in_among x s.tables.opens open_))) either
open_stays x y (Reclaims q) s either open_ = open_
open_stays x y (Reverts f b way) s either open_ = open_
open_stays x y (Trims passes f b way) s either open_ = open_
open_stays x y (Cuts passes f b r) s either open_ = open_
open_stays x y (FreesOlder f r) s either open_ = open_
open_stays x y (MakesDead passes f) s either open_ = open_
open_stays x y (Unlinks q f k) s either open_ = open_
open_stays x y (UnlinksOlder q f) s either open_ = open_
open_stays x y (FreesEntry f was left) s either open_ = open_
open_stays x y (Forgets z) s either open_ = open_
open_stays x y (Checkpoints lists) s either open_ = open_
