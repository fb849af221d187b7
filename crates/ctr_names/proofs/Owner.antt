-- The chains of names in a sound area.
use Rattle.std.proofs.Common.{Bool, List, None, Option, [], ap, append_assoc, arith, cond, drop, false, inl, inr, length, map, not, refl, subst, sym, true, ℕ, ⊎_elim, ◌++◌, ◌<◌, ◌==◌, ◌∙◌, ◌∷◌, ◌≡◌, ◌⊎◌}
use Rattle.std.specs.List.{AllByRecursion, filter}
use Rattle.std.specs.Prelude.{◌&&◌, ◌||◌}
use Rattle.std.proofs.Math.Bool.{or-true}
use Rattle.std.proofs.Math.Seq.{drop-append_seam, drop-length}
use Rattle.std.proofs.lemmas.Bool.{and_from, eq-eqb, eqb-true, false≢true, ne_eqb, not-true}
use Rattle.ctr_record_laws.specs.model_State.{same_name}
use Rattle.ctr_record_laws.specs.versions_Versions.{Made}
use Rattle.ctr_record_laws.proofs.versions_Keys.{known, same_text}
use Rattle.ctr_record_laws.proofs.versions_Written.{same_itself}
use Rattle.ctr_record_laws.specs.rec_SlogItem.{SlogItem}
use Rattle.ctr_record_laws.specs.rec_SlogItem.TheVariants.{AllocOf, CreateOf, DropOf, FreeOf}
use Rattle.ctr_record_laws.specs.meta_Items.{is_item_by}
use Rattle.ctr_record_laws.specs.meta_Tables.{Tables}
use Rattle.ctr_record_laws.specs.area_Areas.{Area, Title}
use Rattle.ctr_record_laws.specs.area_Images.{Numbered, entry_numbers, is_committed_in, is_live, is_named_so, name_chain, name_versions, newest_first}
use Rattle.ctr_record_laws.specs.area_Sound.{IsAmong, IsSchemaItem, IsSoundArea, all_undone, stands_for, xids_in}
use Rattle.ctr_record_laws.proofs.Commit.{kept_cut}
use Rattle.ctr_record_laws.proofs.Latest.{live_open, live_some}
use Rattle.ctr_record_laws.proofs.Leaving.{same_creator, same_name_undone}
use Rattle.ctr_record_laws.proofs.Members.{among_rest}
use Rattle.ctr_record_laws.proofs.Named.{alloc_of_page, free_of_page}
use Rattle.ctr_record_laws.proofs.Undone.{among_filter, filter_among, undone_apart}
use Rattle.ctr_names.proofs.Chains.{Version, before, before_more, versions_before}
use Rattle.ctr_names.proofs.Entries.{InPairs, all_filtered, all_named, all_sorted, each_numbered, filter_twice, is_in_yet, is_out, name_of, numbered, one_sorted, pairs_filtered, pairs_named, parted, unsorted}
use Rattle.ctr_names.proofs.Items.{behind_page, create_or, drop_or, further}
use Rattle.ctr_names.proofs.Shape.{AreCommitted, AreOwnPair, IsOwn, IsQuiet, IsSettled, is_made, own_sorted, settled, settled_all, settled_before, shaped, undropped}

-- ---- items that are undone

live_undone : (is : List SlogItem) (t : ℕ → Title) (f : ℕ) → ((x : ℕ) → IsAmong (CreateOf x f) is → ⊥) → is_live (all_undone is t f) ≡ is_live (t f)
live_undone [] t f none = refl
live_undone (AllocOf x p ∷ is) t f none = live_undone is t f (λ y in_. none y (inr in_))
live_undone (FreeOf p ∷ is) t f none = live_undone is t f (λ y in_. none y (inr in_))
live_undone (CreateOf x e ∷ is) t f none =
    ap (λ b. is_live (cond b (record (all_undone is t e) { state = 2 }) (all_undone is t f))) (ne_eqb f e (λ is_. none x (inl (λ i. CreateOf x (is_ i))))) ∙ live_undone is t f (λ y in_. none y (inr in_))
live_undone (DropOf x e ∷ is) t f none =
    let rest = live_undone is t f (λ y in_. none y (inr in_)) in
    known (f == e)
    (λ here. ap (λ b. is_live (cond b (record (all_undone is t e) { dropper = 0 }) (all_undone is t f))) here ∙ ap (λ h. is_live (all_undone is t h)) (sym (eqb-true f e here)) ∙ rest)
    (λ there. ap (λ b. is_live (cond b (record (all_undone is t e) { dropper = 0 }) (all_undone is t f))) there ∙ rest)

cut_at_one : {A : Type 0} (z : A) (xs : List A) → IsAmong z xs → (f : List A) × (r : List A) × (xs ≡ f ++ z ∷ r)
cut_at_one z [] in_ = absurd in_
cut_at_one z (x ∷ xs) (inl is) = ([], xs, λ i. sym is i ∷ xs)
cut_at_one z (x ∷ xs) (inr in_) = let rest = cut_at_one z xs in_ in (x ∷ rest.0, rest.1, ap (λ l. x ∷ l) rest.2)

module _ (counted : ℕ) (tables : Tables) (area : Area) (sound : IsSoundArea counted tables area) where
  abbrev committed : ℕ → Bool
  committed = is_committed_in tables

  abbrev live : List ℕ
  live = xids_in tables.opens

  abbrev items : List SlogItem
  items = tables.items

  abbrev title : ℕ → Title
  title = area.title

  open_not : (y : ℕ) → IsAmong y live → committed y ≡ true → ⊥
  open_not y in_ yes_ = false≢true (sym (live_open counted tables area sound y in_) ∙ yes_)

  -- who dropped it is committed, so who made it is
  pub gone_made : (f : ℕ) → f < 32 → is_live (title f) ≡ true → committed (title f).dropper ≡ true → committed (title f).creator ≡ true
  gone_made f lt alive gone = ⊎_elim (λ is. is)
      (λ its. absurd (⊎_elim (λ z. false≢true (sym (ap committed z) ∙ gone)) (λ is. open_not (title f).creator its.0 (sym (ap committed is) ∙ gone)) (sound.names.creates (title f).creator f its.1).2))
      (sound.names.creators f lt alive)

  module _ (name : List ℕ) (x : ℕ) (open_ : committed x ≡ false) (some : x ≡ 0 → ⊥) (mine : (y f : ℕ) → IsSchemaItem y f items → (title f).name ≡ name → y ≡ x) where
    abbrev IsMaker : ℕ → Type 0
    IsMaker f = ((title f).creator ≡ x) × IsAmong (CreateOf x f) items × IsAmong x live

    maker : (f : ℕ) → f < 32 → is_named_so name (f, title f) ≡ true → (committed (title f).creator ≡ true) ⊎ IsMaker f
    maker f lt is =
        let named = name_of title name f is in
        ⊎_elim (λ c. inl c)
        (λ its. let same_ = mine (title f).creator f (inl its.1) named.1 in
        inr (same_, subst (λ y. IsAmong (CreateOf y f) items) same_ its.1, subst (λ y. IsAmong y live) same_ its.0))
        (sound.names.creators f lt named.0)

    abbrev IsDropper : ℕ → Type 0
    IsDropper f = ((title f).dropper ≡ x) × IsAmong (DropOf x f) items × IsAmong x live

    dropper : (f : ℕ) → f < 32 → is_named_so name (f, title f) ≡ true → ((title f).dropper ≡ 0) ⊎ ((committed (title f).dropper ≡ true) ⊎ IsDropper f)
    dropper f lt is =
        let named = name_of title name f is in
        ⊎_elim (λ z. inl z) (λ more. inr (⊎_elim (λ c. inl c)
        (λ its. let same_ = mine (title f).dropper f (inr its.1) named.1 in
        inr (same_, subst (λ y. IsAmong (DropOf y f) items) same_ its.1, subst (λ y. IsAmong y live) same_ its.0)) more))
        (sound.names.droppers f lt named.0)

    -- of one that isn't gone
    in_yet : (f : ℕ) → f < 32 → is_named_so name (f, title f) ≡ true → committed (title f).dropper ≡ false → ((title f).dropper ≡ 0) ⊎ IsDropper f
    in_yet f lt is stays = ⊎_elim (λ z. inl z) (λ more. ⊎_elim (λ c. absurd (false≢true (sym stays ∙ c))) (λ its. inr its) more) (dropper f lt is)

    own_one : (f : ℕ) → f < 32 → is_named_so name (f, title f) ≡ true → committed (title f).dropper ≡ false → IsOwn committed refl x open_ some (f, title f)
    own_one f lt is stays = (⊎_elim (λ c. inr c) (λ its. inl its.0) (maker f lt is), ⊎_elim (λ z. inl z) (λ its. inr its.0) (in_yet f lt is stays))

    stands : (u : Title) → (committed u.creator || (u.creator == x)) ≡ true → u.dropper ≡ 0 → stands_for committed x u ≡ true
    stands u made none = λ i. made i && not (committed (none i) || ne_eqb u.dropper x (λ z. some (sym z ∙ none)) i)

    by_x : (u : Title) → u.creator ≡ x → (committed u.creator || (u.creator == x)) ≡ true
    by_x u is = ap (λ b. committed u.creator || b) (eq-eqb u.creator x is) ∙ or-true (committed u.creator)

    by_others : (u : Title) → committed u.creator ≡ true → (committed u.creator || (u.creator == x)) ≡ true
    by_others u is = ap (λ b. b || (u.creator == x)) is

    -- Where it made a table of the name, none of another stands that it hasn't dropped.
    no_other : (e f : ℕ) → e < 32 → f < 32 → is_named_so name (e, title e) ≡ true → is_named_so name (f, title f) ≡ true → IsMaker e → ((title e).dropper ≡ 0) ⊎ IsDropper e
        → committed (title f).creator ≡ true → (title f).dropper ≡ 0 → ⊥
    no_other e f lt_e lt_f is_e is_f its dropped made none = by dropped
      where
        named_e : (is_live (title e) ≡ true) × ((title e).name ≡ name)
        named_e = name_of title name e is_e

        named_f : (is_live (title f) ≡ true) × ((title f).name ≡ name)
        named_f = name_of title name f is_f

        apart : e ≡ f → ⊥
        apart same_ = open_not x its.2 (sym (ap committed (ap (λ g. (title g).creator) (sym same_) ∙ its.0)) ∙ made)

        own : List SlogItem
        own = filter (is_item_by x) items

        -- nothing of f is undone
        f_stays : (is : List SlogItem) → ((z : SlogItem) → IsAmong z is → IsAmong z items) → all_undone is title f ≡ title f
        f_stays is part = undone_apart is title f
            (λ y in_. let z = part (CreateOf y f) in_ in open_not y (sound.owned.creates y f z) (sym (ap committed (sound.names.creates y f z).1) ∙ made))
            (λ y in_. let z = part (DropOf y f) in_ in zero_not y (live_some counted tables area sound y (sound.owned.drops y f z)) (sym (sound.names.drops y f z).1 ∙ none))
          where
            zero_not : (y : ℕ) → 0 < y → y ≡ 0 → ⊥
            zero_not y lt z = omega (arith, lt, z)

        both_stand : (k : ℕ) (u : ℕ → Title) → all_undone (drop k own) title ≡ u → is_live (u e) ≡ true → (u e).name ≡ name → (u e).creator ≡ x → (u e).dropper ≡ 0 → u f ≡ title f → ⊥
        both_stand k u is alive named maker_ undropped f_same =
            apart (subst (λ t. (stands_for committed x (t e) ≡ true → stands_for committed x (t f) ≡ true → is_live (t e) ≡ true → is_live (t f) ≡ true → (t e).name ≡ (t f).name → e ≡ f)) is
            (λ a b c d n. sound.names.undoing x k its.2 e f lt_e lt_f c d n a b)
            (stands (u e) (by_x (u e) maker_) undropped) (stands (u f) (by_others (u f) (ap (λ (v : Title). committed v.creator) f_same ∙ made)) (ap (λ (v : Title). v.dropper) f_same ∙ none))
            alive (ap is_live f_same ∙ named_f.0) (named ∙ sym (ap (λ (v : Title). v.name) f_same ∙ named_f.1)))

        by : ((title e).dropper ≡ 0) ⊎ IsDropper e → ⊥
        by (inl z) = both_stand (length own) title (ap (λ is. all_undone is title) (drop-length own)) named_e.0 named_e.1 its.0 z refl
        by (inr drops) =
            let at = cut_at_one (DropOf x e) own (among_filter (is_item_by x) (DropOf x e) items (eq-eqb x x refl) drops.1) in
            let rest = at.1 in
            let undone_is : List SlogItem = DropOf x e ∷ rest in
            let part : (z : SlogItem) → IsAmong z undone_is → IsAmong z items = λ z in_. (filter_among (is_item_by x) z items (subst (IsAmong z) (sym at.2) (among_rest z at.0 undone_is in_))).0 in
            let none_made : (y : ℕ) → IsAmong (CreateOf y e) rest → ⊥ = λ y in_.
            let later = cut_at_one (CreateOf y e) rest in_ in
            let whole : own ≡ (at.0 ++ DropOf x e ∷ later.0) ++ CreateOf y e ∷ later.1 = at.2 ∙ ap (λ l. at.0 ++ DropOf x e ∷ l) later.2 ∙ sym (append_assoc at.0 (DropOf x e ∷ later.0) (CreateOf y e ∷ later.1)) in
            let cut = kept_cut (is_item_by x) (CreateOf y e) items (at.0 ++ DropOf x e ∷ later.0) later.1 whole in
            sound.names.in_order cut.0 cut.1 y x e cut.2 (cut.3 (DropOf x e) (among_rest (DropOf x e) at.0 (DropOf x e ∷ later.0) (inl refl))) in
            let t = all_undone rest title in
            let now : all_undone undone_is title e ≡ record (t e) { dropper = 0 } = ap (λ b. cond b (record (t e) { dropper = 0 }) (t e)) (eq-eqb e e refl) in
            both_stand (length at.0) (all_undone undone_is title) (ap (λ is. all_undone is title) (ap (λ l. drop (length at.0) l) at.2 ∙ drop-append_seam at.0 undone_is))
            (ap is_live now ∙ live_undone rest title e none_made ∙ named_e.0)
            (ap (λ (v : Title). v.name) now ∙ same_name_undone rest title e ∙ named_e.1)
            (ap (λ (v : Title). v.creator) now ∙ same_creator rest title e ∙ its.0)
            (ap (λ (v : Title). v.dropper) now)
            (f_stays undone_is part)

    own_pair : (e f : ℕ) → e < f → e < 32 → f < 32 → is_named_so name (e, title e) ≡ true → is_named_so name (f, title f) ≡ true → committed (title e).dropper ≡ false → committed (title f).dropper ≡ false
        → AreOwnPair committed refl x open_ some (e, title e) (f, title f)
    own_pair e f before_ lt_e lt_f is_e is_f stays_e stays_f = ⊎_elim
        (λ made_e. ⊎_elim
        (λ made_f. absurd (apart (sound.names.standing e f lt_e lt_f (name_of title name e is_e).0 (name_of title name f is_f).0 ((name_of title name e is_e).1 ∙ sym (name_of title name f is_f).1)
        (and_from (is_live (title e)) (committed (title e).creator && not (committed (title e).dropper)) (name_of title name e is_e).0 (and_from (committed (title e).creator) (not (committed (title e).dropper)) made_e (ap not stays_e)))
        (and_from (is_live (title f)) (committed (title f).creator && not (committed (title f).dropper)) (name_of title name f is_f).0 (and_from (committed (title f).creator) (not (committed (title f).dropper)) made_f (ap not stays_f))))))
        (λ mine_f. ⊎_elim (λ z. absurd (no_other f e lt_f lt_e is_f is_e mine_f (in_yet f lt_f is_f stays_f) made_e z)) (λ drops. inr (inr (made_e, drops.0, mine_f.0))) (in_yet e lt_e is_e stays_e))
        (maker f lt_f is_f))
        (λ mine_e. ⊎_elim
        (λ made_f. ⊎_elim (λ z. absurd (no_other e f lt_e lt_f is_e is_f mine_e (in_yet e lt_e is_e stays_e) made_f z)) (λ drops. inr (inl (mine_e.0, made_f, drops.0))) (in_yet f lt_f is_f stays_f))
        (λ mine_f. inl (mine_e.0, mine_f.0))
        (maker f lt_f is_f))
        (maker e lt_e is_e)
      where
        apart : e ≡ f → ⊥
        apart same_ = omega (arith, before_, same_)

    -- ---- the chain of the name

    abbrev named_list : List Numbered
    named_list = filter (is_named_so name) (numbered title 0 32)

    abbrev ins : List Numbered
    ins = filter (is_in_yet committed) named_list

    abbrev outs : List Numbered
    outs = filter (is_out committed) named_list

    abbrev older : List Version
    older = name_versions (newest_first committed outs)

    older_committed : AreCommitted committed refl older
    older_committed = subst (AreCommitted committed refl) (sym (versions_before (newest_first committed outs)))
        (settled_before committed refl (newest_first committed outs) []
        (all_sorted committed (IsSettled committed refl) outs (all_filtered (λ e. committed e.1.dropper ≡ true → IsSettled committed refl e) (IsSettled committed refl) (is_out committed) (λ e is p. p is) named_list
        (all_named title name (λ e. committed e.1.dropper ≡ true → IsSettled committed refl e) 0 32 (omega arith) (λ f le lt is gone. (gone_made f lt (name_of title name f is).0 gone, inr gone))))) tt)

    abbrev IsOwnX : Numbered → Type 0
    IsOwnX = IsOwn committed refl x open_ some

    ins_own : AllByRecursion IsOwnX ins
    ins_own = all_filtered (λ e. committed e.1.dropper ≡ false → IsOwnX e) IsOwnX (is_in_yet committed) (λ e is p. p (not-true (committed e.1.dropper) is)) named_list
        (all_named title name (λ e. committed e.1.dropper ≡ false → IsOwnX e) 0 32 (omega arith) (λ f le lt is stays. own_one f lt is stays))

    abbrev ArePairX : Numbered → Numbered → Type 0
    ArePairX = AreOwnPair committed refl x open_ some

    ins_pairs : InPairs ArePairX ins
    ins_pairs = pairs_filtered (λ e f. committed e.1.dropper ≡ false → committed f.1.dropper ≡ false → ArePairX e f) ArePairX (is_in_yet committed) (λ e f is too p. p (not-true (committed e.1.dropper) is) (not-true (committed f.1.dropper) too)) named_list
        (pairs_named title name (λ e f. committed e.1.dropper ≡ false → committed f.1.dropper ≡ false → ArePairX e f) 0 32 (omega arith) own_pair)

    one_made : InPairs (λ e f. committed e.1.creator ≡ true → committed f.1.creator ≡ false) ins
    one_made = all_pairs ins ins_pairs
      where
        one : (e f : Numbered) → ArePairX e f → committed e.1.creator ≡ true → committed f.1.creator ≡ false
        one e f (inl both) made = absurd (false≢true (sym (ap committed both.0 ∙ open_) ∙ made))
        one e f (inr (inl its)) made = absurd (false≢true (sym (ap committed its.0 ∙ open_) ∙ made))
        one e f (inr (inr its)) made = ap committed its.2 ∙ open_

        each : (e : Numbered) (es : List Numbered) → AllByRecursion (ArePairX e) es → AllByRecursion (λ f. committed e.1.creator ≡ true → committed f.1.creator ≡ false) es
        each e [] all = tt
        each e (f ∷ es) all = (one e f all.0, each e es all.1)

        all_pairs : (es : List Numbered) → InPairs ArePairX es → InPairs (λ e f. committed e.1.creator ≡ true → committed f.1.creator ≡ false) es
        all_pairs [] pairs = tt
        all_pairs (e ∷ es) pairs = (each e es pairs.0, all_pairs es pairs.1)

    chain_parted : name_chain committed title name ≡ before (newest_first committed ins) older
    unfolding entry_numbers
    chain_parted = ap name_versions (parted committed named_list) ∙ before_more (newest_first committed ins) (newest_first committed outs)

    same_settled : settled committed refl (newest_first committed ins) older ≡ settled committed refl ins older
    same_settled = ap (λ es. before (map undropped es) older) (one_sorted committed (is_made committed refl) ins one_made)

    -- the chain without what the transaction has of it
    abbrev pub settled_here : List Version
    settled_here = settled committed refl ins older

    pub settled_committed : AreCommitted committed refl settled_here
    settled_committed = settled_all committed refl ins older older_committed

    -- Nothing of the transaction is in the chain, or one version that is in front. Where none of its tables of the
    -- name is left undropped, it is a drop.
    pub shape : ((name_chain committed title name ≡ settled_here) × ((f : ℕ) → f < 32 → is_named_so name (f, title f) ≡ true → committed (title f).dropper ≡ false → (committed (title f).creator ≡ true) × ((title f).dropper ≡ 0)))
        ⊎ ((v : Option Made) × (name_chain committed title name ≡ (x, v) ∷ settled_here)
        × (((f : ℕ) → f < 32 → is_named_so name (f, title f) ≡ true → committed (title f).dropper ≡ false → (title f).dropper ≡ x) → v ≡ None))
    shape = ⊎_elim
        (λ quiet. inl (
          chain_parted ∙ quiet.0 ∙ same_settled,
          λ f lt is stays. each_numbered (IsQuiet committed refl x open_ some) (λ e. is_named_so name e && is_in_yet committed e) title 0 32 f
              (subst (AllByRecursion (IsQuiet committed refl x open_ some)) (filter_twice (is_in_yet committed) (is_named_so name) (numbered title 0 32)) (unsorted committed (IsQuiet committed refl x open_ some) ins quiet.1))
              (omega arith) lt (and_from (is_named_so name (f, title f)) (not (committed (title f).dropper)) is (ap not stays)),
        ))
        (λ more. inr (
          more.0,
          chain_parted ∙ more.1 ∙ ap (λ l. (x, more.0) ∷ l) same_settled,
          λ each. more.2 (all_sorted committed (λ (e : Numbered). e.1.dropper ≡ x) ins
              (all_filtered (λ e. committed e.1.dropper ≡ false → e.1.dropper ≡ x) (λ (e : Numbered). e.1.dropper ≡ x) (is_in_yet committed) (λ e is p. p (not-true (committed e.1.dropper) is)) named_list
              (all_named title name (λ e. committed e.1.dropper ≡ false → e.1.dropper ≡ x) 0 32 (omega arith) (λ f le lt is stays. each f lt is stays)))),
        ))
        (shaped committed refl x open_ some (newest_first committed ins) older older_committed (all_sorted committed IsOwnX ins ins_own) (own_sorted committed refl x open_ some ins ins_own ins_pairs))

  -- ---- who has a name

  -- whoever has items of tables of the name
  pub owner : (name : List ℕ) → ((x : ℕ) × (f : ℕ) × IsSchemaItem x f items × ((title f).name ≡ name)) ⊎ ((y f : ℕ) → IsSchemaItem y f items → (title f).name ≡ name → ⊥)
  owner name = search items
    where
      Owns : List SlogItem → Type 0
      Owns is = (x : ℕ) × (f : ℕ) × IsSchemaItem x f is × ((title f).name ≡ name)

      Unowned : List SlogItem → Type 0
      Unowned is = (y f : ℕ) → IsSchemaItem y f is → (title f).name ≡ name → ⊥

      -- an item of one entry
      at_entry : (i : SlogItem) (is : List SlogItem) (y e : ℕ) → IsSchemaItem y e (i ∷ is) → ((z f : ℕ) → IsSchemaItem z f (i ∷ is) → ((z ≡ y) × (f ≡ e)) ⊎ IsSchemaItem z f is) → Unowned is → Owns (i ∷ is) ⊎ Unowned (i ∷ is)
      at_entry i is y e item parts none = known (same_name (title e).name name)
          (λ same. inl (y, e, item, same_text (title e).name name same))
          (λ apart. inr (λ z f in_ n. ⊎_elim (λ its. false≢true (sym apart ∙ ap (same_name (title e).name) (sym (ap (λ g. (title g).name) (sym its.1) ∙ n)) ∙ same_itself (title e).name)) (λ there. none z f there n) (parts z f in_)))

      by : (i : SlogItem) (is : List SlogItem) → Unowned is → Owns (i ∷ is) ⊎ Unowned (i ∷ is)
      by (AllocOf y p) is none = inr (λ z f item n. none z f (behind_page (AllocOf y p) is z f (alloc_of_page y p) item) n)
      by (FreeOf p) is none = inr (λ z f item n. none z f (behind_page (FreeOf p) is z f (free_of_page p) item) n)
      by (CreateOf y e) is none = at_entry (CreateOf y e) is y e (inl (inl refl)) (create_or y e is) none
      by (DropOf y e) is none = at_entry (DropOf y e) is y e (inr (inl refl)) (drop_or y e is) none

      search : (is : List SlogItem) → Owns is ⊎ Unowned is
      search [] = inr (λ y f in_ n. ⊎_elim (λ none. none) (λ none. none) in_)
      search (i ∷ is) = ⊎_elim (λ found. inl (found.0, found.1, further i is found.0 found.1 found.2, found.3)) (by i is) (search is)
