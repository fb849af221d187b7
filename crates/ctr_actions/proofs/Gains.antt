-- What an action gives to who acts, and what held facts pay.
use Rattle.std.proofs.Common.{◌≡◌, ⊎_elim, inl, inr, ℕ, ◌≤◌, true, cond, List, [], ◌∷◌, refl, sym, ap, subst, arith}
use Rattle.std.proofs.lemmas.Bool.{eq-eqb}
use Rattle.std.specs.List.{list_any}
use Rattle.ctr_record_laws.specs.area_Areas.{free_slot, free_older}
use Rattle.ctr_record_laws.specs.area_Sound.{IsAmong, page_of_item, how_many}
use Rattle.ctr_record_laws.specs.meta_Items.{is_wanted, is_item_by, left_out}
use Rattle.ctr_record_laws.specs.meta_Wanted.{Wanted}
use Rattle.ctr_record_laws.specs.meta_Wanted.TheVariants.{Allocation, OfPage}
use Rattle.ctr_record_laws.specs.page_Header.{Header}
use Rattle.ctr_record_laws.specs.rec_SlogItem.{SlogItem}
use Rattle.ctr_record_laws.specs.rec_SlogItem.TheVariants.{AllocOf}
use Rattle.ctr_record_laws.proofs.Begin.{xids_append}
use Rattle.ctr_record_laws.proofs.Format.{allocation_is}
use Rattle.ctr_record_laws.proofs.Members.{among_rest}
use Rattle.ctr_record_laws.proofs.Owning.{page_wanted}
use Rattle.ctr_record_laws.proofs.Shown.{can_give_back}
use Rattle.ctr_record_laws.proofs.Undone.{counted_member}
use Rattle.ctr_record_laws.proofs.Xids.{among_in}
use Rattle.ctr_record_laws.specs.Bounds.{IsInBounds}
use Rattle.ctr_record_laws.specs.Owed.{OwedByFormat, HasNoItems}
use Rattle.ctr_record_laws.proofs.versions_Keys.{known}
use Rattle.ctr_record_laws.specs.area_Sound.{xids_in}
use Rattle.ctr_actions.specs.Sites.{Site, IsSoundSite}
use Rattle.ctr_actions.specs.Actions.{Action, Begins, Allocates, Formats, Links, LinksOlder, Keeps, Writes, Creates, Drops, Commits, Frees, Uncreates, Undrops, Aborts, Reclaims, Reverts, Trims, Cuts, FreesOlder, MakesDead, Unlinks, UnlinksOlder, FreesEntry, Forgets, Checkpoints, Owes, site_after, item_count}
use Rattle.ctr_actions.specs.Facts.{IsOpen, HasBlank, HasNoPageBut, HoldsFact, LetsGo}
use Rattle.ctr_actions.proofs.Items.{only_stays}
use Rattle.ctr_actions.proofs.Owners.{taken_alone}

pub begun_open : (x : ℕ) (s : Site) → HoldsFact x IsOpen (site_after x Begins s)
begun_open x s = among_in x (site_after x Begins s).tables.opens (subst (IsAmong x) (sym (xids_append s.tables.opens ((x, 0) ∷ []))) (among_rest x (xids_in s.tables.opens) (x ∷ []) (inl refl)))

pub blank_made : (x p : ℕ) (h : Header) (s : Site) → OwedByFormat s.tables x p → HoldsFact x (HasBlank p h) (site_after x (Formats p h) s)
blank_made x p h s owed = (
  owed,
  (λ at here. (ap (λ b. (cond b free_slot (s.area.slot at)).used) (eq-eqb at.page p here), ap (λ b. (cond b free_older (s.area.older at)).used) (eq-eqb at.page p here))),
  ap (λ b. cond b h (s.area.header p)) (eq-eqb p p refl),
)

pub more_pages : (x p : ℕ) (ps : List ℕ) (s : Site) → HoldsFact x (HasNoPageBut ps) s → HoldsFact x (HasNoPageBut (p ∷ ps)) (site_after x (Allocates p) s)
more_pages x p ps s only = only_stays x x s (p ∷ ps) (λ q in_. inr (only q in_)) (Allocates p) (inl (inl refl))

module _ (x p : ℕ) (ps : List ℕ) (s : Site) (bounds : IsInBounds s.area) (sound : IsSoundSite s) (only : HoldsFact x (HasNoPageBut (p ∷ ps)) s) where
  abbrev items : List SlogItem
  items = s.tables.items

  -- the page isn't among those that are left
  gone_by : (w : Wanted) → ((i : SlogItem) → is_wanted w i ≡ true → page_of_item i ≡ p ∷ []) → list_any (is_wanted w) items ≡ true
      → ((q : ℕ) → IsAmong (AllocOf x q) (left_out w items) → IsAmong q (p ∷ ps)) → (q : ℕ) → IsAmong (AllocOf x q) (left_out w items) → IsAmong q ps
  gone_by w of_page there was q in_ = ⊎_elim
      (λ is. absurd (taken_alone w p s bounds sound of_page there (AllocOf x p) refl (subst (λ r. IsAmong (AllocOf x r) (left_out w items)) is in_)))
      (λ still. still) (was q in_)

  of_allocation : (i : SlogItem) → is_wanted (Allocation x p) i ≡ true → page_of_item i ≡ p ∷ []
  of_allocation i wanted = ap page_of_item (allocation_is x p i wanted)

  pub page_gone : (a : Action) → Owes x a s → LetsGo a p → HoldsFact x (HasNoPageBut ps) (site_after x a s)
  page_gone Begins owed gone = absurd gone
  page_gone (Allocates q) owed gone = absurd gone
  page_gone (Formats q g) owed gone = absurd gone
  page_gone (Links q f k) owed gone = gone_by (Allocation x q) (λ i wanted. of_allocation i (subst (λ r. is_wanted (Allocation x r) i ≡ true) (sym gone) wanted)) owed.item (only_stays x x s (p ∷ ps) only (Links q f k) (inl tt))
  page_gone (LinksOlder q f) owed gone = gone_by (Allocation x q) (λ i wanted. of_allocation i (subst (λ r. is_wanted (Allocation x r) i ≡ true) (sym gone) wanted)) owed.item (only_stays x x s (p ∷ ps) only (LinksOlder q f) (inl tt))
  page_gone (Keeps f b older) owed gone = absurd gone
  page_gone (Writes m) owed gone = absurd gone
  page_gone (Creates f name columns left) owed gone = absurd gone
  page_gone (Drops f) owed gone = absurd gone
  page_gone Commits owed gone = absurd gone
  page_gone (Frees q) owed gone = gone_by (OfPage q) (λ i wanted. (page_wanted p i (subst (λ r. is_wanted (OfPage r) i ≡ true) (sym gone) wanted)).0) (can_give_back s.tables x q owed) (only_stays x x s (p ∷ ps) only (Frees q) (inl tt))
  page_gone (Uncreates f) owed gone = absurd gone
  page_gone (Undrops f) owed gone = absurd gone
  page_gone Aborts owed gone = absurd gone
  page_gone (Reclaims q) owed gone = absurd gone
  page_gone (Reverts f b way) owed gone = absurd gone
  page_gone (Trims passes f b way) owed gone = absurd gone
  page_gone (Cuts passes f b r) owed gone = absurd gone
  page_gone (FreesOlder f r) owed gone = absurd gone
  page_gone (MakesDead passes f) owed gone = absurd gone
  page_gone (Unlinks q f k) owed gone = absurd gone
  page_gone (UnlinksOlder q f) owed gone = absurd gone
  page_gone (FreesEntry f was left) owed gone = absurd gone
  page_gone (Forgets z) owed gone = absurd gone
  page_gone (Checkpoints lists) owed gone = absurd gone

pub none_left : (x : ℕ) (s : Site) → item_count x s.tables ≡ 0 → HasNoItems x s.tables.items
none_left x s none i in_ = known (is_item_by x i) (λ own. absurd (some (how_many (is_item_by x) s.tables.items) (counted_member (is_item_by x) i s.tables.items own in_) none)) (λ isnt. isnt)
  where
    some : (n : ℕ) → 1 ≤ n → n ≡ 0 → ⊥
    some n le is = omega (arith, le, is)
