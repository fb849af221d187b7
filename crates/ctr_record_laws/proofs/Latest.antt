-- An item of an entry of the catalog comes, or the latest one of its transaction goes.
use Rattle.std.proofs.Common.{◌≡◌, ◌⊎◌, ⊎_elim, inl, inr, ℕ, ◌+◌, ◌<◌, ◌≤◌, Bool, true, false, cond, List, [], ◌∷◌, ◌++◌, drop, refl, sym, ◌∙◌, ap, subst, arith}
use Rattle.std.proofs.lemmas.Bool.{false≢true, eq-eqb, eqb-true, ne_eqb}
use Rattle.std.proofs.lemmas.List.{append-nil}
use Rattle.std.specs.List.{filter}
use Rattle.std.specs.Prelude.{◌==◌, ◌||◌, not}
use Rattle.ctr_area.proofs.Buckets.{each_of}
use Rattle.ctr_area.specs.Areas.{Title, Area}
use Rattle.ctr_area.specs.Changes.{with_title}
use Rattle.ctr_area.specs.Images.{is_committed_in, is_live}
use Rattle.ctr_area.specs.Sound.{IsAmong, how_many, xids_in, page_of_item, owned_pages, AreOwned, AreNamed, IsSoundArea, IsSchemaItem, all_undone, undone}
use Rattle.ctr_area.specs.meta_Items.{is_item_by}
use Rattle.ctr_area.specs.meta_Tables.{Tables, is_in}
use Rattle.ctr_record_laws.proofs.Heads.{listed_drawn, listed_open}
use Rattle.ctr_record_laws.proofs.Members.{among_rest}
use Rattle.ctr_record_laws.proofs.Xids.{among_in}
use Rattle.ctr_area.specs.rec_SlogItem.{SlogItem}
use Rattle.ctr_area.specs.rec_SlogItem.TheVariants.{AllocOf, FreeOf, CreateOf, DropOf}
use Rattle.ctr_record_laws.proofs.Items.{up_one, down_one, IsWithOne}
use Rattle.ctr_record_laws.proofs.Named.{kind_of_item}
use Rattle.ctr_record_laws.proofs.Owning.{all_of, others_sound, owned_with, owned_either, owned_more}
use Rattle.ctr_record_laws.proofs.Undone.{undone_last, filter_apart, filter_there, filter_append, filter_among, among_filter, drop_last, last_or_again}
use Rattle.ctr_area.proofs.ctr_versions.Keys.{known}

-- what an item says of itself
abbrev pub entry_of_item : SlogItem → ℕ
entry_of_item (AllocOf x p) = 0
entry_of_item (FreeOf p) = 0
entry_of_item (CreateOf x e) = e
entry_of_item (DropOf x e) = e

abbrev pub xid_of_item : SlogItem → ℕ
xid_of_item (AllocOf x p) = x
xid_of_item (FreeOf p) = 0
xid_of_item (CreateOf x e) = x
xid_of_item (DropOf x e) = x

pub create_isnt_drop : (x y e f : ℕ) → CreateOf x e ≡ DropOf y f → ⊥
create_isnt_drop x y e f is = let no_number = ap kind_of_item is in omega (arith, no_number)

pub alloc_isnt_create : (x y p f : ℕ) → AllocOf x p ≡ CreateOf y f → ⊥
alloc_isnt_create x y p f is = let no_number = ap kind_of_item is in omega (arith, no_number)

pub alloc_isnt_drop : (x y p f : ℕ) → AllocOf x p ≡ DropOf y f → ⊥
alloc_isnt_drop x y p f is = let no_number = ap kind_of_item is in omega (arith, no_number)

-- ---- the latest item of a transaction goes

module _ (x : ℕ) (i : SlogItem) (less more earlier : List SlogItem) (one : IsWithOne i less more) (by_x : is_item_by x i ≡ true) (single : IsAmong i less → ⊥)
    (last : filter (is_item_by x) more ≡ earlier ++ i ∷ []) where
  abbrev by : ℕ → SlogItem → Bool
  by y = is_item_by y

  split : filter (by x) more ≡ filter (by x) one.front ++ i ∷ filter (by x) one.rest
  split = ap (filter (by x)) one.more_is ∙ filter_there (by x) i one.front one.rest by_x

  ends : (filter (by x) one.rest ≡ []) × (filter (by x) one.front ≡ earlier)
  ends = ⊎_elim (λ end_. end_)
      (λ again. absurd (single (subst (IsAmong i) (sym one.less_is) (among_rest i one.front one.rest (filter_among (by x) i one.rest again).0))))
      (last_or_again i (filter (by x) one.front) (filter (by x) one.rest) earlier (sym split ∙ last))

  -- no later item is its
  pub none_later : (z : SlogItem) → IsAmong z one.rest → by x z ≡ true → ⊥
  none_later z in_ is = subst (IsAmong z) ends.0 (among_filter (by x) z one.rest is in_)

  now : filter (by x) less ≡ earlier
  now = ap (filter (by x)) one.less_is ∙ filter_append (by x) one.front one.rest ∙ (λ k. ends.1 k ++ ends.0 k) ∙ append-nil earlier

  -- its own items, after the latest is undone
  pub own_undone : (title : ℕ → Title) (k : ℕ) → (m : ℕ) × (all_undone (drop k (filter (by x) less)) (undone i title) ≡ all_undone (drop m (filter (by x) more)) title)
  own_undone title k =
      let further = drop_last k earlier i in (
        further.0,
        ap (λ l. all_undone (drop k l) (undone i title)) now ∙ sym (undone_last (drop k earlier) i title)
            ∙ ap (λ l. all_undone l title) (sym further.1) ∙ ap (λ l. all_undone (drop further.0 l) title) (sym last),
      )

  pub others_same : (y : ℕ) → is_item_by y i ≡ false → filter (by y) more ≡ filter (by y) less
  others_same y isnt = ap (filter (by y)) one.more_is ∙ filter_apart (by y) i one.front one.rest isnt ∙ ap (filter (by y)) (sym one.less_is)

-- ---- who owns pages is the same

pub owned_less : (counted : ℕ) (live : List ℕ) (i : SlogItem) (less more : List SlogItem) (area new : Area) → IsWithOne i less more → page_of_item i ≡ []
    → ((q : ℕ) → new.taken q ≡ area.taken q) → ((items : List SlogItem) → owned_pages items new ≡ owned_pages items area) → AreOwned counted live more area → AreOwned counted live less new
owned_less counted live i less more area new one none taken pages owned = record {
  once = λ q behind_ inside_. ap (how_many (λ r. r == q)) (pages less)
      ∙ same_count (how_many (λ r. r == q) (owned_pages less area)) (how_many (λ r. r == q) (owned_pages more area)) (owned_with (λ r. r == q) area i less more one ∙ ap (λ l. how_many (λ r. r == q) (owned_pages less area) + how_many (λ r. r == q) l) none)
      ∙ owned.once q behind_ inside_ ∙ ap (λ b. cond b 1 0) (sym (taken q));
  inside = all_of (λ q. (3 ≤ q) × (q < counted) × (new.taken q ≡ true)) (owned_pages less new)
      (λ q in_. let its = each_of (λ q. (3 ≤ q) × (q < counted) × (area.taken q ≡ true)) q (owned_pages more area) owned.inside (owned_more area i less more one q (subst (IsAmong q) (pages less) in_)) in
      (its.0, its.1, taken q ∙ its.2));
  uncounted = λ q le. taken q ∙ owned.uncounted q le;
  allocs = λ y q in_. owned.allocs y q (up_one i less more one (AllocOf y q) in_);
  creates = λ y e in_. owned.creates y e (up_one i less more one (CreateOf y e) in_);
  drops = λ y e in_. owned.drops y e (up_one i less more one (DropOf y e) in_);
}
  where
    same_count : (a b : ℕ) → b ≡ a + 0 → a ≡ b
    same_count a b is = omega (arith, is)

pub owned_and_one : (counted : ℕ) (live : List ℕ) (i : SlogItem) (less more : List SlogItem) (area new : Area) → IsWithOne i less more → page_of_item i ≡ [] → IsAmong (xid_of_item i) live
    → ((q : ℕ) → new.taken q ≡ area.taken q) → ((items : List SlogItem) → owned_pages items new ≡ owned_pages items area) → AreOwned counted live less area → AreOwned counted live more new
owned_and_one counted live i less more area new one none open_ taken pages owned = record {
  once = λ q behind_ inside_. ap (how_many (λ r. r == q)) (pages more)
      ∙ same_count (how_many (λ r. r == q) (owned_pages less area)) (how_many (λ r. r == q) (owned_pages more area)) (owned_with (λ r. r == q) area i less more one ∙ ap (λ l. how_many (λ r. r == q) (owned_pages less area) + how_many (λ r. r == q) l) none)
      ∙ owned.once q behind_ inside_ ∙ ap (λ b. cond b 1 0) (sym (taken q));
  inside = all_of (λ q. (3 ≤ q) × (q < counted) × (new.taken q ≡ true)) (owned_pages more new)
      (λ q in_. let its = each_of (λ q. (3 ≤ q) × (q < counted) × (area.taken q ≡ true)) q (owned_pages less area) owned.inside
      (⊎_elim (λ was. was) (λ new_one. absurd (subst (IsAmong q) none new_one)) (owned_either area i less more one q (subst (IsAmong q) (pages more) in_))) in
      (its.0, its.1, taken q ∙ its.2));
  uncounted = λ q le. taken q ∙ owned.uncounted q le;
  allocs = λ y q in_. ⊎_elim (λ is. its_live (AllocOf y q) is) (owned.allocs y q) (down_one i less more one (AllocOf y q) in_);
  creates = λ y e in_. ⊎_elim (λ is. its_live (CreateOf y e) is) (owned.creates y e) (down_one i less more one (CreateOf y e) in_);
  drops = λ y e in_. ⊎_elim (λ is. its_live (DropOf y e) is) (owned.drops y e) (down_one i less more one (DropOf y e) in_);
}
  where
    same_count : (a b : ℕ) → b ≡ a + 0 → b ≡ a
    same_count a b is = omega (arith, is)

    its_live : (z : SlogItem) → z ≡ i → IsAmong (xid_of_item z) live
    its_live z is = subst (λ y. IsAmong y live) (sym (ap xid_of_item is)) open_

-- ---- one title is another

module _ (area : Area) (e : ℕ) (u : Title) where
  abbrev pub titled : Area
  titled = with_title e u area

  pub by_title : (P : ℕ → Title → Type 0) → P e u → ((f : ℕ) → (f ≡ e → ⊥) → P f (area.title f)) → (f : ℕ) → P f (titled.title f)
  by_title P here others f = known (f == e)
      (λ is. subst (P f) (sym (ap (λ b. cond b u (area.title f)) is)) (subst (λ f. P f u) (sym (eqb-true f e is)) here))
      (λ isnt. subst (P f) (sym (ap (λ b. cond b u (area.title f)) isnt)) (others f (λ is. false≢true (sym isnt ∙ eq-eqb f e is))))

  pub title_here : titled.title e ≡ u
  title_here = ap (λ b. cond b u (area.title e)) (eq-eqb e e refl)

  pub title_apart : (f : ℕ) → (f ≡ e → ⊥) → titled.title f ≡ area.title f
  title_apart f apart = ap (λ b. cond b u (area.title f)) (ne_eqb f e apart)

  -- all parts of soundness that don't read titles, or little of them
  pub titled_sound : (counted : ℕ) (tables new : Tables) → new.next ≡ tables.next → new.opens ≡ tables.opens → new.aborted ≡ tables.aborted → IsSoundArea counted tables area
      → (u.creator < tables.next) × (u.dropper < tables.next) → AreOwned counted (xids_in tables.opens) new.items titled
      → AreNamed (is_committed_in tables) (xids_in tables.opens) new.items titled.title → IsSoundArea counted new titled
  titled_sound counted tables new next opens aborted sound below owned names =
      subst (λ (t : Tables). IsSoundArea counted t titled) (λ i. record { next = sym next i; opens = sym opens i; aborted = sym aborted i; items = new.items })
      (others_sound counted tables area titled.title area.taken new.items sound owned names
      (by_title (λ f v. (v.state ≡ 0) ⊎ ((v.creator < tables.next) × (v.dropper < tables.next))) (inr below) (λ f apart. sound.below.entries f)))

abbrev with_dropper : Area → ℕ → ℕ → ℕ → Title
with_dropper area e d = (with_title e (record (area.title e) { dropper = d }) area).title

-- an entry that has another dropper has what else it had
pub dropper_alone : (area : Area) (e d f : ℕ) → (is_live (with_dropper area e d f) ≡ is_live (area.title f)) × ((with_dropper area e d f).name ≡ (area.title f).name) × ((with_dropper area e d f).creator ≡ (area.title f).creator)
dropper_alone area e d f = by_title area e (record (area.title e) { dropper = d })
    (λ g u. (is_live u ≡ is_live (area.title g)) × (u.name ≡ (area.title g).name) × (u.creator ≡ (area.title g).creator)) (refl, refl, refl) (λ g apart. (refl, refl, refl)) f

-- the numbers of an entry that is live
pub live_below : (next : ℕ) (u : Title) → is_live u ≡ true → (u.state ≡ 0) ⊎ ((u.creator < next) × (u.dropper < next)) → (u.creator < next) × (u.dropper < next)
live_below next u live (inl free) = absurd (false≢true (sym (ap (λ n. n == 1) free) ∙ live))
live_below next u live (inr below) = below

-- ---- transactions

module _ (counted : ℕ) (tables : Tables) (area : Area) (sound : IsSoundArea counted tables area) where
  pub live_in : (y : ℕ) → IsAmong y (xids_in tables.opens) → is_in y tables.opens ≡ true
  live_in y in_ = among_in y tables.opens in_

  pub live_some : (y : ℕ) → IsAmong y (xids_in tables.opens) → 0 < y
  live_some y in_ = (listed_drawn tables.next area tables sound.below y (inl (live_in y in_))).0

  pub live_open : (y : ℕ) → IsAmong y (xids_in tables.opens) → is_committed_in tables y ≡ false
  live_open y in_ = listed_open tables y (inl (live_in y in_))

-- where every item of an entry is one transaction's, no item of another is of the entry
pub others_apart : (x e : ℕ) (items : List SlogItem) → ((y : ℕ) → IsSchemaItem y e items → x ≡ y) → (y : ℕ) → (x ≡ y → ⊥) → (z : SlogItem) → IsAmong z items → is_item_by y z ≡ true
    → ((w : ℕ) → z ≡ CreateOf w e → ⊥) × ((w : ℕ) → z ≡ DropOf w e → ⊥)
others_apart x e items its y apart z in_ by_y = (
  (λ w is. apart (its w (inl (subst (λ z. IsAmong z items) is in_)) ∙ eqb-true w y (sym (ap (is_item_by y) is) ∙ by_y))),
  (λ w is. apart (its w (inr (subst (λ z. IsAmong z items) is in_)) ∙ eqb-true w y (sym (ap (is_item_by y) is) ∙ by_y))),
)

-- a transaction and another
pub other_xid : (x y : ℕ) → (x ≡ y → ⊥) → (x == y) ≡ false
other_xid x y apart = ne_eqb x y apart

-- what is told of who dropped, by a test
pub unseen_drop : (committed : ℕ → Bool) (y d : ℕ) → committed d ≡ false → (d ≡ y → ⊥) → not (committed d || (d == y)) ≡ true
unseen_drop committed y d open_ apart = λ i. not (open_ i || ne_eqb d y apart i)
