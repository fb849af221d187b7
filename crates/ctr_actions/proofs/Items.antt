-- A page that a transaction has allocated stays its own over actions beside it.
use Rattle.std.proofs.Common.{◌≡◌, ◌≢◌, ⊎_elim, inl, inr, ◌⊎◌, ℕ, true, false, cond, List, [], ◌∷◌, refl, sym, ◌∙◌, ap, subst}
use Rattle.std.proofs.lemmas.Bool.{false≢true, eq-eqb, ne_eqb}
use Rattle.std.specs.List.{list_any}
use Rattle.std.specs.Prelude.{◌&&◌, not, nat_eq}
use Rattle.ctr_record_laws.specs.area_Sound.{IsAmong}
use Rattle.ctr_record_laws.specs.meta_Effects.{one_head_more, one_head_less, with_item, without_item}
use Rattle.ctr_record_laws.specs.meta_Items.{is_wanted, is_schema_by, left_out}
use Rattle.ctr_record_laws.specs.meta_Wanted.{Wanted}
use Rattle.ctr_record_laws.specs.meta_Wanted.TheVariants.{Allocation, OfPage, Creation, Dropping}
use Rattle.ctr_record_laws.specs.rec_SlogItem.{SlogItem}
use Rattle.ctr_record_laws.specs.rec_SlogItem.TheVariants.{AllocOf, FreeOf, CreateOf, DropOf}
use Rattle.ctr_record_laws.proofs.Format.{item_page}
use Rattle.ctr_record_laws.proofs.Items.{any_there}
use Rattle.ctr_record_laws.proofs.Members.{among_front, among_parts}
use Rattle.ctr_record_laws.proofs.Undone.{filter_among, among_filter}
use Rattle.ctr_record_laws.proofs.Xids.{both_same, more_same, less_same}
use Rattle.ctr_record_laws.specs.Bounds.{IsInBounds}
use Rattle.ctr_record_laws.specs.Owed.{loses_head, OwedByFormat}
use Rattle.ctr_record_laws.proofs.versions_Keys.{known}
use Rattle.ctr_actions.specs.Sites.{Site, IsSoundSite}
use Rattle.ctr_actions.specs.Actions.{Action, Begins, Allocates, Formats, Links, LinksOlder, Keeps, Writes, Creates, Drops, Commits, Frees, Uncreates, Undrops, Aborts, Reclaims, Reverts, Trims, Cuts, FreesOlder, MakesDead, Unlinks, UnlinksOlder, FreesEntry, Forgets, Checkpoints, Owes, site_after}
use Rattle.ctr_actions.specs.Facts.{HasPage, HasNoPageBut, IsBeside}
use Rattle.ctr_actions.proofs.Owners.{allocator, is_taken_by_one, page_named, left_apart}

-- an item that isn't wanted stays where the earliest that is goes
left_keeps : (w : Wanted) (z : SlogItem) (items : List SlogItem) → is_wanted w z ≡ false → IsAmong z items → IsAmong z (left_out w items)
left_keeps w z [] isnt in_ = in_
left_keeps w z (a ∷ items) isnt (inl is) =
    subst (IsAmong z) (sym (ap (λ b. cond b items (a ∷ left_out w items)) (ap (is_wanted w) (sym is) ∙ isnt))) (inl is)
left_keeps w z (a ∷ items) isnt (inr in_) = known (is_wanted w a)
    (λ wanted. subst (IsAmong z) (sym (ap (λ b. cond b items (a ∷ left_out w items)) wanted)) in_)
    (λ other. subst (IsAmong z) (sym (ap (λ b. cond b items (a ∷ left_out w items)) other)) (inr (left_keeps w z items isnt in_)))

-- and none comes
pub left_back : (w : Wanted) (z : SlogItem) (items : List SlogItem) → IsAmong z (left_out w items) → IsAmong z items
left_back w z [] in_ = in_
left_back w z (a ∷ items) in_ = known (is_wanted w a)
    (λ wanted. inr (subst (IsAmong z) (ap (λ b. cond b items (a ∷ left_out w items)) wanted) in_))
    (λ other. ⊎_elim (λ is. inl is) (λ there. inr (left_back w z items there)) (subst (IsAmong z) (ap (λ b. cond b items (a ∷ left_out w items)) other) in_))

pub wanted_itself : (x p : ℕ) → is_wanted (Allocation x p) (AllocOf x p) ≡ true
wanted_itself x p = λ i. eq-eqb x x refl i && eq-eqb p p refl i

module _ (x p : ℕ) (s : Site) (bounds : IsInBounds s.area) (sound : IsSoundSite s) (mine : OwedByFormat s.tables x p) where
  abbrev it : SlogItem
  it = AllocOf x p

  there : IsAmong it s.tables.items
  there = (item_page x p s.tables.items mine).0

  by : (items : List SlogItem) → IsAmong it items → list_any (is_wanted (Allocation x p)) items ≡ true
  by items in_ = any_there (Allocation x p) it items (wanted_itself x p) in_

  -- an item comes, or one goes that isn't it
  further : (i : SlogItem) → OwedByFormat (with_item i s.tables) x p
  further i = by _ (among_front it s.tables.items (i ∷ []) there)

  less : (w : Wanted) → is_wanted w it ≡ false → OwedByFormat (without_item w s.tables) x p
  less w isnt = by _ (left_keeps w it s.tables.items isnt there)

  other : (y q : ℕ) → p ≢ q → is_wanted (Allocation y q) it ≡ false
  other y q apart = ap (λ b. nat_eq x y && b) (ne_eqb p q apart) ∙ elim (nat_eq x y) as (λ b. (b && false) ≡ false) [ true ↦ refl | false ↦ refl ]

  pub page_stays : (y : ℕ) (a : Action) → Owes y a s → IsBeside a (HasPage p) → OwedByFormat (site_after y a s).tables x p
  page_stays y Begins owed beside = mine
  page_stays y (Allocates q) owed beside = further (AllocOf y q)
  page_stays y (Formats q g) owed beside = mine
  page_stays y (Links q f k) owed beside = less (Allocation y q) (other y q beside)
  page_stays y (LinksOlder q f) owed beside = less (Allocation y q) (other y q beside)
  page_stays y (Keeps f b older) owed beside = mine
  page_stays y (Writes m) owed beside =
      let tables = s.tables in
      let more = one_head_more m.xid tables in
      by _ (subst (IsAmong it) (sym (both_same tables more (one_head_less (loses_head tables (s.area.slot m.at)) more) (more_same m.xid tables) (less_same (loses_head tables (s.area.slot m.at)) more)).items) there)
  page_stays y (Creates f name columns left) owed beside = further (CreateOf y f)
  page_stays y (Drops f) owed beside = further (DropOf y f)
  page_stays y Commits owed beside = by _ (among_filter (λ i. not (is_schema_by y i)) it s.tables.items refl there)
  page_stays y (Frees q) owed beside = less (OfPage q) (ne_eqb p q beside)
  page_stays y (Uncreates f) owed beside = less (Creation f) refl
  page_stays y (Undrops f) owed beside = less (Dropping f) refl
  page_stays y Aborts owed beside = mine
  page_stays y (Reclaims q) owed beside = less (OfPage q) (ne_eqb p q (left_apart x p q s bounds sound mine owed))
  page_stays y (Reverts f b way) owed beside = mine
  page_stays y (Trims passes f b way) owed beside = mine
  page_stays y (Cuts passes f b r) owed beside = mine
  page_stays y (FreesOlder f r) owed beside = mine
  page_stays y (MakesDead passes f) owed beside = mine
  page_stays y (Unlinks q f k) owed beside = further (FreeOf q)
  page_stays y (UnlinksOlder q f) owed beside = further (FreeOf q)
  page_stays y (FreesEntry f was left) owed beside = mine
  page_stays y (Forgets z) owed beside = mine
  page_stays y (Checkpoints lists) owed beside = mine

-- ---- it has no others

module _ (x y : ℕ) (s : Site) (ps : List ℕ) (only : (r : ℕ) → IsAmong (AllocOf x r) s.tables.items → IsAmong r ps) where
  came : (r : ℕ) (i : SlogItem) → is_taken_by_one i ≡ false → IsAmong (AllocOf x r) (with_item i s.tables).items → IsAmong r ps
  came r i isnt in_ = ⊎_elim (λ was. only r was) (λ new. ⊎_elim (λ is. absurd (false≢true (sym isnt ∙ ap is_taken_by_one (sym is)))) (λ none. absurd none) new) (among_parts (AllocOf x r) s.tables.items (i ∷ []) in_)

  went : (r : ℕ) (w : Wanted) → IsAmong (AllocOf x r) (without_item w s.tables).items → IsAmong r ps
  went r w in_ = only r (left_back w (AllocOf x r) s.tables.items in_)

  pub only_stays : (a : Action) → IsBeside a (HasNoPageBut ps) ⊎ (x ≢ y) → (n : ℕ) → IsAmong (AllocOf x n) (site_after y a s).tables.items → IsAmong n ps
  only_stays Begins either n in_ = only n in_
  only_stays (Allocates q) either n in_ = ⊎_elim (λ was. only n was)
      (λ new. ⊎_elim (λ is. ⊎_elim (λ beside. subst (λ k. IsAmong k ps) (sym (ap page_named is)) beside) (λ apart. absurd (apart (ap allocator is))) either) (λ none. absurd none) new)
      (among_parts (AllocOf x n) s.tables.items (AllocOf y q ∷ []) in_)
  only_stays (Formats q g) either n in_ = only n in_
  only_stays (Links q f k) either n in_ = went n (Allocation y q) in_
  only_stays (LinksOlder q f) either n in_ = went n (Allocation y q) in_
  only_stays (Keeps f b older) either n in_ = only n in_
  only_stays (Writes m) either n in_ =
      let tables = s.tables in
      let more = one_head_more m.xid tables in
      only n (subst (IsAmong (AllocOf x n)) (both_same tables more (one_head_less (loses_head tables (s.area.slot m.at)) more) (more_same m.xid tables) (less_same (loses_head tables (s.area.slot m.at)) more)).items in_)
  only_stays (Creates f name columns left) either n in_ = came n (CreateOf y f) refl in_
  only_stays (Drops f) either n in_ = came n (DropOf y f) refl in_
  only_stays Commits either n in_ = only n (filter_among (λ i. not (is_schema_by y i)) (AllocOf x n) s.tables.items in_).0
  only_stays (Frees q) either n in_ = went n (OfPage q) in_
  only_stays (Uncreates f) either n in_ = went n (Creation f) in_
  only_stays (Undrops f) either n in_ = went n (Dropping f) in_
  only_stays Aborts either n in_ = only n in_
  only_stays (Reclaims q) either n in_ = went n (OfPage q) in_
  only_stays (Reverts f b way) either n in_ = only n in_
  only_stays (Trims passes f b way) either n in_ = only n in_
  only_stays (Cuts passes f b r) either n in_ = only n in_
  only_stays (FreesOlder f r) either n in_ = only n in_
  only_stays (MakesDead passes f) either n in_ = only n in_
  only_stays (Unlinks q f k) either n in_ = came n (FreeOf q) refl in_
  only_stays (UnlinksOlder q f) either n in_ = came n (FreeOf q) refl in_
  only_stays (FreesEntry f was left) either n in_ = only n in_
  only_stays (Forgets z) either n in_ = only n in_
  only_stays (Checkpoints lists) either n in_ = only n in_
