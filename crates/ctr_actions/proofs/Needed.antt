-- The needs of records, where what their actions owe holds.
use Rattle.std.proofs.Common.{◌≡◌, ⊎_elim, inl, inr, ℕ, ◌+◌, ◌<◌, Bool, true, false, cond, List, [], ◌∷◌, Result, Ok, Err, refl, sym, ◌∙◌, ap, subst, arith}
use Rattle.std.proofs.lemmas.Bool.{eq-eqb, eqb-true, lt-ltb}
use Rattle.std.specs.List.{flat_map, count_by}
use Rattle.std.specs.Prelude.{⊤, ◌==◌, ◌&&◌, not, nat_eq, nat_lt, filter, length}
use Rattle.std.proofs.lemmas.List.Sums.{length-filter}
use Rattle.ctr_record_laws.specs.area_Areas.{Slot}
use Rattle.ctr_record_laws.specs.area_Chains.{slot_places}
use Rattle.ctr_record_laws.specs.area_Images.{is_committed_in, entry_numbers}
use Rattle.ctr_record_laws.specs.area_Sound.{IsAmong, how_many, IsUsedSlot, is_headed_by, head_count}
use Rattle.ctr_bytes.specs.Following.{◌>>=◌}
use Rattle.ctr_record_laws.specs.meta_Effects.{one_head_more}
use Rattle.ctr_record_laws.specs.meta_Items.{is_alloc_by, is_item_by}
use Rattle.ctr_record_laws.specs.meta_Needs.{there, head_there, is_bare, row_needs, revert_need, commit_needs, abort_needs, forget_need}
use Rattle.ctr_record_laws.specs.meta_Tables.{Tables, is_in, heads_in, heads_of}
use Rattle.ctr_record_laws.specs.page_Place.{Place}
use Rattle.ctr_record_laws.proofs.Fitting.{fitting}
use Rattle.ctr_record_laws.proofs.Heads.{counts_tell, open_listed, never_both}
use Rattle.ctr_record_laws.proofs.Members.{bit}
use Rattle.ctr_record_laws.proofs.Owned.{in_all, slot_inside}
use Rattle.ctr_record_laws.proofs.Xids.{same_in, looked_up, raised, more_same}
use Rattle.ctr_record_laws.specs.Bounds.{IsInBounds}
use Rattle.ctr_record_laws.specs.Owed.{RowMove, OwedByRow, loses_head, Reverting, OwedByRevert, OwedByCommit, OwedByAbort, OwedByForget}
use Rattle.ctr_record_laws.specs.rec_Damage.{expect, wrong}
use Rattle.ctr_record_laws.specs.rec_BadRecord.{BadRecord}
use Rattle.ctr_record_laws.specs.rec_SlogItem.{SlogItem}
use Rattle.ctr_record_laws.specs.rec_SlogItem.TheVariants.{AllocOf, FreeOf, CreateOf, DropOf}
use Rattle.ctr_record_laws.proofs.versions_Keys.{known}
use Rattle.ctr_actions.specs.Sites.{Site, IsSoundSite}

-- what is wanted is there
pub expected : (at want got : ℕ) → want ≡ got → expect at want got ≡ Ok tt
expected at want got is = ap (λ b. cond b (Ok tt) (Err (wrong at want got))) (eq-eqb want got is)

pub is_there : (b : Bool) → b ≡ true → there b ≡ Ok tt
is_there b is = ap there is

both : (a b : Result ⊤ BadRecord) → a ≡ Ok tt → b ≡ Ok tt → (a >>= λ _. b) ≡ Ok tt
both a b one two = ap (λ (r : Result ⊤ BadRecord). r >>= λ _. b) one ∙ two

none_counted : (test : SlogItem → Bool) (items : List SlogItem) → ((i : SlogItem) → IsAmong i items → test i ≡ false) → count_by test items ≡ 0
none_counted test items none = sym (length-filter test items) ∙ ap length (none_left items none)
  where
    none_left : (items : List SlogItem) → ((i : SlogItem) → IsAmong i items → test i ≡ false) → filter test items ≡ []
    none_left [] none = refl
    none_left (i ∷ items) none = ap (λ b. cond b (i ∷ filter test items) (filter test items)) (none i (inl refl)) ∙ none_left items (λ j in_. none j (inr in_))

-- ---- a Commit, an Abort, a Forget

pub commit_fits : (x : ℕ) (tables : Tables) → OwedByCommit tables x → commit_needs x tables ≡ Ok tt
commit_fits x tables owed = both (there (is_in x tables.opens)) (expect 0 0 (count_by (is_alloc_by x) tables.items)) (is_there (is_in x tables.opens) owed.is_open)
    (expected 0 0 (count_by (is_alloc_by x) tables.items) (sym (none_counted (is_alloc_by x) tables.items none)))
  where
    none : (i : SlogItem) → IsAmong i tables.items → is_alloc_by x i ≡ false
    none (AllocOf y p) in_ = known (nat_eq y x) (λ is. absurd (owed.linked p (subst (λ z. IsAmong (AllocOf z p) tables.items) (eqb-true y x is) in_))) (λ isnt. isnt)
    none (FreeOf p) in_ = refl
    none (CreateOf y e) in_ = refl
    none (DropOf y e) in_ = refl

pub abort_fits : (x : ℕ) (tables : Tables) → OwedByAbort tables x → abort_needs x tables ≡ Ok tt
abort_fits x tables owed = both (there (is_in x tables.opens)) (expect 0 0 (count_by (is_item_by x) tables.items)) (is_there (is_in x tables.opens) owed.is_open)
    (expected 0 0 (count_by (is_item_by x) tables.items) (sym (none_counted (is_item_by x) tables.items owed.none)))

pub forget_fits : (x : ℕ) (tables : Tables) → OwedByForget tables x → forget_need x tables ≡ Ok tt
forget_fits x tables owed = is_there (is_bare x tables) (ap (λ b. cond b (nat_eq (heads_in x tables.aborted) 0) false) owed.gone ∙ eq-eqb (heads_in x tables.aborted) 0 owed.none)

-- ---- heads

some_pass : {A : Type 0} (test : A → Bool) (x : A) (xs : List A) → IsAmong x xs → test x ≡ true → 0 < how_many test xs
some_pass test x [] in_ is = absurd in_
some_pass test x (y ∷ ys) (inl here) is = first (how_many test ys) (cond (test y) 1 0) (ap (λ b. cond b 1 0) (ap test (sym here) ∙ is))
  where
    first : (n m : ℕ) → m ≡ 1 → 0 < m + n
    first n m is = omega (arith, is)
some_pass test x (y ∷ ys) (inr in_) is = more (cond (test y) 1 0) (how_many test ys) (some_pass test x ys in_ is)
  where
    more : (m n : ℕ) → 0 < n → 0 < m + n
    more m n lt = omega (arith, lt)

module _ (s : Site) (bounds : IsInBounds s.area) (sound : IsSoundSite s) where
  -- the head of a used slot is counted
  head_counted : (e : ℕ) (at : Place) → IsUsedSlot s.area e at → 0 < head_count s.area (s.area.slot at).head.0
  head_counted e at used =
      let head = (s.area.slot at).head.0 in
      some_pass (is_headed_by s.area.slot head) at (flat_map (slot_places s.area) entry_numbers)
      (in_all s.area bounds (slot_places s.area) at e (slot_inside s.area bounds e at used.0) used.0)
      (λ i. used.1 i && eq-eqb head head refl i)

  pub revert_fits : (e : ℕ) (at : Place) (way : Reverting) → OwedByRevert s.tables s.area e at way → revert_need (s.area.slot at).head.0 s.tables ≡ Ok tt
  revert_fits e at way owed =
      let head = (s.area.slot at).head.0 in
      is_there (nat_lt 0 (heads_in head s.tables.aborted))
      (lt-ltb 0 (heads_in head s.tables.aborted)
      (subst (λ n. 0 < n) (sym (looked_up (head_count s.area) head s.tables.aborted owed.gone (counts_tell s.tables s.area sound.counts).1)) (head_counted e at owed.used)))

  module _ (m : RowMove) (owed : OwedByRow s.tables s.area m) where
    abbrev was : Slot
    was = s.area.slot m.at

    abbrev over : ℕ
    over = loses_head s.tables was

    abbrev more : Tables
    more = one_head_more m.xid s.tables

    nobody : over ≡ 0 → head_there over more ≡ true
    nobody is = ap (λ b. cond b true (nat_lt 0 (heads_of over more))) (eq-eqb over 0 is)

    somebody : 0 < heads_of over more → head_there over more ≡ true
    somebody some =
        let lt = lt-ltb 0 (heads_of over more) some in
        elim (nat_eq over 0) as (λ b. cond b true (nat_lt 0 (heads_of over more)) ≡ true) [ true ↦ refl | false ↦ lt ]

    -- whose head it is has another one less to lose, or as many
    of_open : 0 < head_count s.area over → is_in over s.tables.opens ≡ true → 0 < heads_of over more
    of_open some open_ =
        let between : ℕ → ℕ = λ y. head_count s.area y + bit (y == m.xid) in
        let still : is_in over more.opens ≡ true = same_in over more.opens s.tables.opens (more_same m.xid s.tables).opens ∙ open_ in
        let tell = raised (head_count s.area) between m.xid s.tables.opens owed.is_open (counts_tell s.tables s.area sound.counts).0 (λ y in_. refl) in
        subst (λ n. 0 < n) (sym (ap (λ b. cond b (heads_in over more.opens) (heads_in over more.aborted)) still ∙ looked_up between over more.opens still tell))
        (plus (head_count s.area over) (bit (over == m.xid)) some)
      where
        plus : (a b : ℕ) → 0 < a → 0 < a + b
        plus a b lt = omega (arith, lt)

    of_aborted : 0 < head_count s.area over → is_in over s.tables.aborted ≡ true → 0 < heads_of over more
    of_aborted some gone =
        let shut : is_in over more.opens ≡ false = known (is_in over more.opens)
        (λ open_. absurd (never_both s.tables.next s.area s.tables sound.below over (same_in over s.tables.opens more.opens (sym (more_same m.xid s.tables).opens) ∙ open_) gone)) (λ isnt. isnt) in
        subst (λ n. 0 < n) (sym (ap (λ b. cond b (heads_in over more.opens) (heads_in over more.aborted)) shut ∙ looked_up (head_count s.area) over s.tables.aborted gone (counts_tell s.tables s.area sound.counts).1)) some

    of_slot : IsUsedSlot s.area m.entry m.at → head_there over more ≡ true
    of_slot used = known (is_committed_in s.tables was.head.0)
        (λ is. nobody (λ i. cond (used.1 i && not (is i)) was.head.0 0))
        (λ isnt.
        let own : over ≡ was.head.0 = λ i. cond (used.1 i && not (isnt i)) was.head.0 0 in
        let some : 0 < head_count s.area over = subst (λ y. 0 < head_count s.area y) (sym own) (head_counted m.entry m.at used) in
        somebody (⊎_elim
        (λ open_. of_open some (subst (λ y. is_in y s.tables.opens ≡ true) (sym own) open_))
        (λ gone. of_aborted some (subst (λ y. is_in y s.tables.aborted ≡ true) (sym own) gone))
        (open_listed s.tables was.head.0 (sound.behind m.entry m.at used).0 (sound.below.slots m.entry m.at used).0 isnt)))

    pub row_fits : row_needs m.xid over s.tables ≡ Ok tt
    row_fits = both (there (is_in m.xid s.tables.opens)) (there (head_there over more)) (is_there (is_in m.xid s.tables.opens) owed.is_open)
        (is_there (head_there over more)
        (⊎_elim (λ of_key. of_slot of_key.0) (λ room. nobody (λ i. cond (room.free i && not (is_committed_in s.tables was.head.0)) was.head.0 0))
        (fitting (is_committed_in s.tables) s.area m.entry m.key m.at m.writing owed.fits)))
