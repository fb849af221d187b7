-- Undo's list over turns, and how many turns it takes.
use Rattle.std.proofs.Common.{⊎_elim, ◌≡◌, inl, inr, ℕ, suc, ◌+◌, ◌≤◌, true, cond, List, [], ◌∷◌, ◌++◌, length, refl, sym, ◌∙◌, ap, subst, arith, length-append}
use Rattle.std.specs.Prelude.{is_some}
use Rattle.std.specs.List.{filter}
use Rattle.std.proofs.lemmas.Bool.{false≢true}
use Rattle.std.proofs.lemmas.List.{append-nil}
use Rattle.ctr_rec.specs.declared.record.SlogItem.{SlogItem}
use Rattle.ctr_rec.specs.declared.record.SlogItem.TheVariants.{AllocOf, FreeOf, CreateOf, DropOf}
use Rattle.ctr_versions.specs.Engine.{SessionHeld}
use Rattle.ctr_meta.specs.Items.{is_item_by}
use Rattle.ctr_meta.specs.Tables.{Tables, is_in, without_xid}
use Rattle.ctr_meta.specs.Effects.{rolled_back}
use Rattle.ctr_paged.specs.area_Areas.{Area}
use Rattle.ctr_paged.specs.area_Sound.{IsAmong, AreAllOnce, xids_in, IsSoundArea}
use Rattle.ctr_paged.specs.record_laws_Owed.{HasNoItems, OwedByAbort, IsLastItem}
use Rattle.ctr_paged.proofs.record_laws_Leaving.{still_among, among_without, once_less}
use Rattle.ctr_paged.proofs.record_laws_Members.{among_parts, among_rest, among_front}
use Rattle.ctr_paged.proofs.record_laws_Xids.{among_in, in_among, once_parts}
use Rattle.ctr_paged.proofs.record_laws_Undone.{filter_append}
use Rattle.ctr_versions.specs.Laws.{IsNoSessions}
use Rattle.ctr_paged.specs.area_Images.{undo_size}
use Rattle.ctr_kept.specs.Undo.{Undo, left_of, undo_at, IsSessions, IsTheirs, IsUndoLeft, CountsTo}

-- ---- turns

len_xids : (ps : List (ℕ × ℕ)) → length (xids_in ps) ≡ length ps
len_xids [] = refl
len_xids (p ∷ ps) = ap suc (len_xids ps)

pub counts_at_open : (tables : Tables) → CountsTo (undo_size tables) (undo_at tables)
counts_at_open tables = let same = len_xids tables.opens in omega (arith, same)

pub counts_item : (size : ℕ) (u : Undo) (front : List SlogItem) (i : SlogItem) → u.items ≡ front ++ i ∷ [] → CountsTo size u → CountsTo size (record u { items = front; turns = u.turns + 1 })
counts_item size u front i is counts = let long = ap length is ∙ length-append front (i ∷ []) in omega (arith, long, counts)

pub counts_orphan : (size : ℕ) (u : Undo) (x : ℕ) (front back : List ℕ) → u.orphans ≡ front ++ x ∷ back → CountsTo size u → CountsTo size (record u { orphans = front ++ back; turns = u.turns + 1 })
counts_orphan size u x front back is counts = let long = ap length is ∙ length-append front (x ∷ back) in let less = length-append front back in omega (arith, long, less, counts)

-- clause (iv): as many turns as the size of the start's undo, where none is left; before that at most so many
pub all_done : (size : ℕ) (u : Undo) → CountsTo size u → left_of u ≡ 0 → u.turns ≡ size
all_done size u counts none = omega (arith, counts, none)

pub some_done : (size : ℕ) (u : Undo) → CountsTo size u → u.turns ≤ size
some_done size u counts = omega (arith, counts)

again : (front run : List SlogItem) (i : SlogItem) → (front ++ i ∷ []) ++ run ≡ front ++ i ∷ run
again [] run i = refl
again (z ∷ front) run i = ap (λ l. z ∷ l) (again front run i)

module _ (counted : ℕ) (tables : Tables) (area : Area) (sound : IsSoundArea counted tables area) where
  -- as a run begins
  pub left_at_open : IsUndoLeft tables [] (undo_at tables)
  left_at_open = record {
    run = [];
    items = sym (append-nil tables.items);
    theirs = their;
    own = λ x in_ i none. absurd none;
    are_open = λ x in_. among_in x tables.opens in_;
    nobodys = λ x in_ s b at. absurd (false≢true (ap is_some at));
    once = (once_parts (xids_in tables.opens) (xids_in tables.aborted) sound.below.once).0;
    begun = λ x open_. inl (in_among x tables.opens open_);
    seated = λ x open_. inl (in_among x tables.opens open_);
    numbered = omega arith;
  }
    where
      their : (i : SlogItem) → IsAmong i tables.items → IsTheirs (xids_in tables.opens) i
      their (AllocOf y p) in_ = sound.owned.allocs y p in_
      their (FreeOf p) in_ = tt
      their (CreateOf y e) in_ = sound.owned.creates y e in_
      their (DropOf y e) in_ = sound.owned.drops y e in_

-- ---- one of several goes

put_among : (front back : List ℕ) (x y : ℕ) → IsAmong y (front ++ back) → IsAmong y (front ++ x ∷ back)
put_among front back x y in_ = ⊎_elim (λ before. among_front y front (x ∷ back) before) (λ behind. among_rest y front (x ∷ back) (inr behind)) (among_parts y front back in_)

other_among : (front back : List ℕ) (x y : ℕ) → (y ≡ x → ⊥) → IsAmong y (front ++ x ∷ back) → IsAmong y (front ++ back)
other_among front back x y apart in_ = ⊎_elim
    (λ before. among_front y front back before)
    (λ behind. ⊎_elim (λ same. absurd (apart same)) (λ later. among_rest y front back later) behind)
    (among_parts y front (x ∷ back) in_)

once_without : (front back : List ℕ) (x : ℕ) → AreAllOnce (front ++ x ∷ back) → AreAllOnce (front ++ back) × (IsAmong x (front ++ back) → ⊥)
once_without [] back x once = (once.1, once.0)
once_without (z ∷ front) back x once =
    let rest = once_without front back x once.1 in (
      ((λ in_. once.0 (put_among front back x z in_)), rest.0),
      ⊎_elim (λ here. once.0 (subst (λ q. IsAmong q (front ++ x ∷ back)) here (among_rest x front (x ∷ back) (inl refl)))) rest.1,
    )

-- ---- over turns

module _ (tables : Tables) (sessions : List (ℕ × SessionHeld)) (u : Undo) (left : IsUndoLeft tables sessions u) where
  -- sessions move: who is left is nobody's still, and who is open and a session's is so still
  pub left_moved : (next : List (ℕ × SessionHeld)) → ((x : ℕ) → IsAmong x u.orphans → IsNoSessions next x) → ((x : ℕ) → is_in x tables.opens ≡ true → IsSessions sessions x → IsSessions next x) → IsUndoLeft tables next u
  left_moved next nobodys seats = record {
    run = left.run;
    items = left.items;
    theirs = left.theirs;
    own = left.own;
    are_open = left.are_open;
    nobodys = nobodys;
    once = left.once;
    begun = left.begun;
    seated = λ x open_. ⊎_elim (λ theirs. inl theirs) (λ its. inr (seats x open_ its)) (left.seated x open_);
    numbered = left.numbered;
  }

  -- the list's item: the latest of its transaction, and the only one
  pub with_latest : (front : List SlogItem) (i : SlogItem) → u.items ≡ front ++ i ∷ [] → tables.items ≡ front ++ i ∷ left.run
  with_latest front i is = left.items ∙ ap (λ l. l ++ left.run) is ∙ again front left.run i

  pub left_item : (front : List SlogItem) (i : SlogItem) → u.items ≡ front ++ i ∷ [] → (new : Tables) → new.items ≡ front ++ left.run → new.opens ≡ tables.opens → new.next ≡ tables.next
      → IsUndoLeft new sessions (record u { items = front; turns = u.turns + 1 })
  left_item front i is new items opens next = record {
    run = left.run;
    items = items;
    theirs = λ z in_. left.theirs z (subst (IsAmong z) (sym is) (among_front z front (i ∷ []) in_));
    own = left.own;
    are_open = λ x in_. ap (is_in x) opens ∙ left.are_open x in_;
    nobodys = left.nobodys;
    once = left.once;
    begun = λ x open_. left.begun x (sym (ap (is_in x) opens) ∙ open_);
    seated = λ x open_. left.seated x (sym (ap (is_in x) opens) ∙ open_);
    numbered = subst (λ n. u.first ≤ n) (sym next) left.numbered;
  }

  pub item_is_last : (front : List SlogItem) (i : SlogItem) (x : ℕ) → u.items ≡ front ++ i ∷ [] → is_item_by x i ≡ true → IsAmong x u.orphans → IsLastItem x i tables.items
  item_is_last front i x is own theirs = (
    filter (is_item_by x) front,
    ap (filter (is_item_by x)) (with_latest front i is) ∙ filter_append (is_item_by x) front (i ∷ left.run)
        ∙ ap (λ l. filter (is_item_by x) front ++ l) (ap (λ b. cond b (i ∷ filter (is_item_by x) left.run) (filter (is_item_by x) left.run)) own ∙ ap (λ l. i ∷ l) (none_pass left.run (left.own x theirs))),
  )
    where
      none_pass : (items : List SlogItem) → HasNoItems x items → filter (is_item_by x) items ≡ []
      none_pass [] none = refl
      none_pass (z ∷ items) none = ap (λ b. cond b (z ∷ filter (is_item_by x) items) (filter (is_item_by x) items)) (none z (inl refl)) ∙ none_pass items (λ y in_. none y (inr in_))

  -- behind the items an orphan: nothing is left to undo of it
  pub orphan_owes : (x : ℕ) → u.items ≡ [] → IsAmong x u.orphans → OwedByAbort tables x
  orphan_owes x none theirs = record { is_open = left.are_open x theirs; none = λ i in_. left.own x theirs i (subst (IsAmong i) (left.items ∙ ap (λ l. l ++ left.run) none) in_) }

  pub left_orphan : (x : ℕ) (front back : List ℕ) → u.items ≡ [] → u.orphans ≡ front ++ x ∷ back → AreAllOnce (xids_in tables.opens)
      → IsUndoLeft (rolled_back x tables) sessions (record u { orphans = front ++ back; turns = u.turns + 1 })
  left_orphan x front back none is opens_once =
      let once = once_without front back x (subst AreAllOnce is left.once) in
      let more : (y : ℕ) → IsAmong y (front ++ back) → IsAmong y u.orphans = λ y in_. subst (IsAmong y) (sym is) (put_among front back x y in_) in record {
        run = left.run;
        items = left.items;
        theirs = λ i in_. absurd (subst (IsAmong i) none in_);
        own = λ y in_. left.own y (more y in_);
        are_open = λ y in_. among_in y (without_xid x tables.opens) (still_among x y tables.opens (λ same. once.1 (subst (λ q. IsAmong q (front ++ back)) same in_)) (in_among y tables.opens (left.are_open y (more y in_))));
        nobodys = λ y in_. left.nobodys y (more y in_);
        once = once.0;
        begun = λ y open_. ⊎_elim (λ in_. inl (other_among front back x y (apart y open_) (subst (IsAmong y) is in_))) (λ since. inr since) (left.begun y (was_open y open_));
        seated = λ y open_. ⊎_elim (λ in_. inl (other_among front back x y (apart y open_) (subst (IsAmong y) is in_))) (λ its. inr its) (left.seated y (was_open y open_));
        numbered = left.numbered;
      }
    where
      -- who is open still isn't the one that went, and was open
      apart : (y : ℕ) → is_in y (without_xid x tables.opens) ≡ true → y ≡ x → ⊥
      apart y open_ same = (once_less x tables.opens opens_once).1 (subst (λ z. IsAmong z (xids_in (without_xid x tables.opens))) same (in_among y (without_xid x tables.opens) open_))

      was_open : (y : ℕ) → is_in y (without_xid x tables.opens) ≡ true → is_in y tables.opens ≡ true
      was_open y open_ = among_in y tables.opens (among_without x y tables.opens (in_among y (without_xid x tables.opens) open_))
