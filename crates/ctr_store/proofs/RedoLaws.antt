-- A record more in the redo of a log.
use Rattle.std.proofs.Common.{◌≡◌, ◌≢◌, inr, ⊎_elim, ℕ, zero, suc, ◌+◌, ◌-◌, ◌<◌, ◌≤◌, ◌==◌, if◌then◌else◌, true, false, List, [], ◌∷◌, ◌++◌, length, take, drop, Option, Some, None, slice_get, refl, sym, ◌∙◌, ap, subst, arith, length-append, take-append-drop}
use Rattle.std.proofs.Math.Seq.{drop-nil}
use Rattle.std.proofs.lemmas.List.{append-nil, take_all}
use Rattle.std.proofs.lemmas.Option.{slice_get_within}
use Rattle.std.proofs.lemmas.Bool.Decides.{eqb_tells}
use Rattle.std.specs.Option.{option_map}
use Rattle.ctr_disk.specs.declared.disk.Disk.{Ghosts}
use Rattle.ctr_disk.specs.Image.{Image}
use Rattle.ctr_base.specs.ctr_home.declared.root.Root.{Root}
use Rattle.ctr_rec.specs.declared.record.Record.{Record}
use Rattle.ctr_rec.specs.declared.record.Overlay.{Overlay}
use Rattle.ctr_base.specs.meta_Effects.{effect, tables_of}
use Rattle.ctr_base.specs.meta_Kept.{TablesKept}
use Rattle.ctr_base.specs.pool_Frame.{Frame}
use Rattle.ctr_base.specs.pool_Pages.{PageHeld, overlaid_by}
use Rattle.ctr_base.specs.pool_Frames.{frame_of, has_page, page_of, kept_or, page_shown, after_change, since_then}
use Rattle.ctr_base.specs.pool_Over.{IsHeld, IsOver, ShowsSamePages}
use Rattle.ctr_base.proofs.pool_FrameLaws.{yes, no}
use Rattle.ctr_base.specs.redo_Overlaid.{overlay_of, lies_on, laid_over, touches, with_record, overlaid}
use Rattle.ctr_base.specs.redo_Images.{records_in}
use Rattle.ctr_base.specs.redo_States.{Stored, next_of}
use Rattle.ctr_base.proofs.redo_PageLaws.{stays_out, goes_in, overlaid-append, same_page, again, below_next, no_lower}
use Rattle.ctr_base.proofs.redo_StateLaws.{tables-push}
use Rattle.ctr_base.specs.declared.base.Base.{Base}
use Rattle.ctr_base.specs.Base.{stored_of, waiting_of, now_of, home_of, MaySave, IsSoundImage, StandsQuiet, MovesBase, MovesIf, KeepsBase, backing_of}
use Rattle.ctr_base.specs.BaseLaws.{moves_joined, stands_still}
use Rattle.ctr_store.specs.declared.parts.Parts.{Parts}
use Rattle.ctr_store.specs.Parts.{IsFold, AreLow}
use Rattle.ctr_base.specs.Homes.{PassesHome}
use Rattle.ctr_store.specs.PageChecks.{PagePasses, PagesPass}
use Rattle.ctr_store.specs.Redo.{StartsRedo, RedoesPages, IsNextRecord}
use Rattle.ctr_store.proofs.RecordLaws.{inside_of}
use Rattle.ctr_store.proofs.PartsLaws.{held_high}
use Rattle.ctr_store.proofs.PageCheckLaws.{pass_more}
use Rattle.std.specs.Prelude.{is_some}

take_next : (l : List Record) (j : ℕ) (r : Record) → slice_get l j ≡ Some r → take (j + 1) l ≡ take j l ++ r ∷ []
take_next [] j r is = absurd (cc is)
take_next (x ∷ l) zero r is = let same : x ≡ r = cc is in ap (λ (y : Record). y ∷ []) same
take_next (x ∷ l) (suc j) r is = let n : suc j + 1 ≡ suc (j + 1) = omega arith in ap (λ (m : ℕ). take m (x ∷ l)) n ∙ ap (λ (t : List Record). x ∷ t) (take_next l j r is)

length_of : (n : ℕ) (l : List Record) → n < length l → length (take n l) ≡ n
length_of zero l inside = refl
length_of (suc n) [] inside = absurd (omega (arith, inside))
length_of (suc n) (x ∷ l) inside = let k = length_of n l (omega (arith, inside)) in omega (arith, k)

module _ {D O : Type 0} (first : Image) (g : Ghosts D) where
  -- ---- a call below on the way

  pub redo_moved : (start : Base D O) (n : ℕ) (s t : Parts D O) → RedoesPages first g start n s → MovesIf first g s.base t.base → KeepsBase g s.base t.base → ShowsSamePages (backing_of first g) s.pool.frames s.base t.pool.frames t.base
      → IsOver (backing_of first g) t.pool.frames t.base → ((p : ℕ) → has_page p t.pool.frames ≡ true → PassesHome (next_of (stored_of g start)) p first) → RedoesPages first g start n t
  redo_moved start n s t doing m keeps shows over seen = record {
    over = over;
    root = keeps.root ∙ doing.root;
    moves = λ sound. moves_joined g start s.base t.base (doing.moves sound) (m sound);
    sound = doing.sound;
    none = doing.none;
    next = keeps.next ∙ doing.next;
    current = λ p. shows p ∙ doing.current p;
    starts = doing.starts;
    checked = doing.checked;
    seen = seen;
  }

  -- other tables
  pub with_meta : (start : Base D O) (n : ℕ) (s : Parts D O) (m : TablesKept) → RedoesPages first g start n s → RedoesPages first g start n (record s { meta = m })
  with_meta start n s m doing = record {
    over = doing.over;
    root = doing.root;
    moves = doing.moves;
    sound = doing.sound;
    none = doing.none;
    next = doing.next;
    current = doing.current;
    starts = doing.starts;
    checked = doing.checked;
    seen = doing.seen;
  }

  -- a page at home that has no record that the log lacks has none with the first records
  pub prefix_low : (start : Base D O) (n p : ℕ) (h : PageHeld) → h.lsn < next_of (stored_of g start)
      → (overlaid p (stored_of g start).first (take n (stored_of g start).records) h).lsn < next_of (stored_of g start)
  prefix_low start n p h low =
      let i = stored_of g start in
      let rs = take n i.records in
      let es = drop n i.records in
      let below = below_next p i.first i.records h low in
      let more = no_lower p (i.first + length rs) es (overlaid p i.first rs h) in
      let split : overlaid p i.first i.records h ≡ overlaid p (i.first + length rs) es (overlaid p i.first rs h) =
      ap (λ (l : List Record). overlaid p i.first l h) (sym (take-append-drop n i.records)) ∙ overlaid-append p i.first rs es h in
      omega (arith, below, more, ap (λ (v : PageHeld). v.lsn) split)

  -- no page has a record that the log lacks
  pub redo_low : (start : Base D O) (n : ℕ) (s : Parts D O) → RedoesPages first g start n s → IsSoundImage first → AreLow g s
  redo_low start n s doing sound p =
      let quiet = doing.sound sound in
      let low = prefix_low start n p (home_of g start p) (quiet.sound.below p) in
      let next = quiet.first in
      let behind = doing.next in
      omega (arith, low, next, behind, ap (λ (v : PageHeld). v.lsn) (doing.current p))

  module _ (start : Base D O) (n : ℕ) (r : Record) (next : IsNextRecord g start n r) where
    abbrev i : Stored
    i = stored_of g start

    abbrev lsn : ℕ
    lsn = start.root.first + n

    inside : n < length i.records
    inside = slice_get_within i.records n r next.there

    page_next : (q : ℕ) (h : PageHeld) → overlaid q i.first (take (n + 1) i.records) h ≡ with_record q lsn r (overlaid q i.first (take n i.records) h)
    page_next q h =
        ap (λ (l : List Record). overlaid q i.first l h) (take_next i.records n r next.there) ∙ overlaid-append q i.first (take n i.records) (r ∷ []) h
        ∙ ap (λ (m : ℕ). with_record q (i.first + m) r (overlaid q i.first (take n i.records) h)) (length_of n i.records inside)

    page_off : (q : ℕ) (h : PageHeld) → (touches r q ≡ true → lsn ≤ (overlaid q i.first (take n i.records) h).lsn) → overlaid q i.first (take n i.records) h ≡ overlaid q i.first (take (n + 1) i.records) h
    page_off q h out = sym (page_next q h ∙ stays_out q lsn r (overlaid q i.first (take n i.records) h) out)

    pub tables_next : effect r (tables_of (take n i.records)) ≡ tables_of (take (n + 1) i.records)
    tables_next = sym (ap tables_of (take_next i.records n r next.there) ∙ tables-push (take n i.records) r)

    checked_more : PagesPass (next_of i) first (take n i.records) → PagePasses (next_of i) first (overlay_of r) → PagesPass (next_of i) first (take (n + 1) i.records)
    checked_more checked passes = subst (PagesPass (next_of i) first) (sym (take_next i.records n r next.there)) (pass_more (next_of i) first (take n i.records) r checked passes)

    -- a record that changes no page, or was in its page before
    pub redo_off : (s : Parts D O) → RedoesPages first g start n s → PagePasses (next_of i) first (overlay_of r) → ((q : ℕ) → touches r q ≡ true → lsn ≤ (page_shown s.pool.frames q (home_of g s.base q)).lsn) → RedoesPages first g start (n + 1) s
    redo_off s doing passes out = record {
      over = doing.over;
      root = doing.root;
      moves = doing.moves;
      sound = doing.sound;
      none = doing.none;
      next = doing.next;
      current = λ q. doing.current q ∙ page_off q (home_of g start q) (λ on. subst (λ (h : PageHeld). lsn ≤ h.lsn) (doing.current q) (out q on));
      starts = doing.starts;
      checked = checked_more doing.checked passes;
      seen = doing.seen;
    }

    -- a record that goes into the frame of its page
    module _ (s : Parts D O) (doing : RedoesPages first g start n s) (o : Overlay) (f : Frame) (gs : List Frame) (is_over : overlay_of r ≡ Some o) (others : (q : ℕ) → q ≢ o.page → touches r q ≡ false) (on : (o.page == o.page) ≡ true)
        (there : frame_of o.page s.pool.frames ≡ Some f) (lower : f.lsn < lsn) (passes : PagePasses (next_of i) first (overlay_of r)) (changed : (q : ℕ) → frame_of q gs ≡ (if o.page == q then option_map (after_change o lsn) (frame_of q s.pool.frames) else frame_of q s.pool.frames)) where
      abbrev p : ℕ
      p = o.page

      abbrev fs : List Frame
      fs = s.pool.frames

      abbrev b : Base D O
      b = s.base

      abbrev was : PageHeld
      was = overlaid p i.first (take n i.records) (home_of g start p)

      touched : touches r p ≡ true
      touched = ap (λ x. lies_on x p) is_over ∙ on

      abbrev v : PageHeld
      v = page_of (after_change o lsn f)

      counted : p < b.root.pages
      counted = subst (λ (x : Root). p < x.pages) (sym doing.root) (inside_of start.root.pages r o is_over next.counted)

      above : (home_of g b p).lsn < v.lsn
      above = let high = held_high first g b p (page_of f) f.since (doing.over.held p f there) in omega (arith, high, lower)

      was_is : page_of f ≡ was
      was_is = ap (kept_or (home_of g b p)) (sym there) ∙ doing.current p

      v_is : v ≡ overlaid p i.first (take (n + 1) i.records) (home_of g start p)
      v_is =
          ap (λ (h : PageHeld). record { lsn = lsn; body = overlaid_by o h.body }) was_is
          ∙ ap (λ x. record { lsn = lsn; body = laid_over x was.body }) (sym is_over)
          ∙ sym (goes_in p lsn r was touched (subst (λ (h : PageHeld). h.lsn < lsn) was_is lower)) ∙ sym (page_next p (home_of g start p))

      module _ (sound : IsSoundImage first) where
        abbrev m : MovesBase g start b
        m = doing.moves sound

        waits_none : waiting_of b ≡ []
        waits_none = m.waiting ∙ ap (λ (l : List (List ℕ)). drop m.j (records_in l)) doing.none ∙ drop-nil m.j

        records_are : (stored_of g b).records ≡ i.records
        records_are =
            sym (append-nil (stored_of g b).records) ∙ ap (λ (l : List Record). (stored_of g b).records ++ l) (sym waits_none) ∙ m.all
            ∙ ap (λ (l : List (List ℕ)). i.records ++ records_in l) doing.none ∙ append-nil i.records

        same_first : b.root.first ≡ start.root.first
        same_first = ap (λ (x : Root). x.first) doing.root

        -- all records make the same page of it
        v_fits : overlaid p b.root.first (stored_of g b).records v ≡ overlaid p b.root.first (stored_of g b).records (home_of g b p)
        v_fits =
            let h = home_of g start p in
            let ds = take (n + 1) i.records in
            let es = drop (n + 1) i.records in
            let whole : ds ++ es ≡ i.records = take-append-drop (n + 1) i.records in
            let one : overlaid p i.first i.records v ≡ overlaid p i.first i.records h =
            ap (λ (l : List Record). overlaid p i.first l v) (sym whole) ∙ ap (overlaid p i.first (ds ++ es)) v_is ∙ same_page p i.first ds es h ∙ ap (λ (l : List Record). overlaid p i.first l h) whole in
            let now : overlaid p b.root.first (stored_of g b).records (home_of g b p) ≡ overlaid p i.first i.records h =
            ap (λ (l : List Record). overlaid p b.root.first l (home_of g b p)) (sym (append-nil (stored_of g b).records) ∙ ap (λ (l : List Record). (stored_of g b).records ++ l) (sym waits_none))
            ∙ m.pages p ∙ ap (λ (l : List Record). overlaid p i.first l h) (ap (λ (l : List (List ℕ)). i.records ++ records_in l) doing.none ∙ append-nil i.records) in
            ap (λ (k : ℕ). overlaid p k (stored_of g b).records v) same_first ∙ ap (λ (l : List Record). overlaid p i.first l v) records_are ∙ one ∙ sym now

        -- what is at home has all records below that of the first change since
        abbrev IsSince : ℕ → Type 0
        IsSince since = (since < next_of (now_of g b)) × (overlaid p b.root.first (take (since - b.root.first) (now_of g b).records) (home_of g b p) ≡ home_of g b p)

        now_is : (now_of g b).records ≡ i.records
        now_is = ap (λ (l : List Record). (stored_of g b).records ++ l) waits_none ∙ append-nil (stored_of g b).records ∙ records_are

        -- where the page had no change, it has the first n
        since_now : page_of f ≡ home_of g b p → IsSince lsn
        since_now clean =
            let k : lsn - b.root.first ≡ n = omega (arith, same_first) in
            let rs = take n i.records in
            let home_is : home_of g b p ≡ was = sym clean ∙ was_is in
            let has : overlaid p i.first rs was ≡ was = again p i.first rs (home_of g start p) in (
              omega (arith, inside, same_first, ap (λ (l : List Record). length l) now_is),
              ap (λ (m : ℕ). overlaid p b.root.first (take m (now_of g b).records) (home_of g b p)) k
                  ∙ ap (λ (l : List Record). overlaid p b.root.first (take n l) (home_of g b p)) now_is
                  ∙ ap (λ (m : ℕ). overlaid p m rs (home_of g b p)) same_first
                  ∙ ap (overlaid p i.first rs) home_is ∙ has ∙ sym home_is,
            )

        may_save : (since : ℕ) → IsSince since → MaySave g b p since v
        may_save since has = record {
          counted = counted;
          above = above;
          low = omega (arith, inside, same_first, ap (λ (l : List Record). length l) records_are, length-append (stored_of g b).records (waiting_of b));
          is = inr v_fits;
          early = has.0;
          behind = has.1;
        }

      held_now : (x : Option ℕ) → IsHeld (backing_of first g) b p (page_of f) x → IsHeld (backing_of first g) b p v (since_then x lsn)
      held_now None clean = record { counted = counted; above = above; sound = λ sound. may_save sound lsn (since_now sound clean) }
      held_now (Some x) may = record { counted = counted; above = above; sound = λ sound. let was_may = may.sound sound in may_save sound x (was_may.early, was_may.behind) }

      one : {A : Type 0} (x y : A) → Some x ≡ Some y → x ≡ y
      one x y e = cc e

      here : frame_of p gs ≡ Some (after_change o lsn f)
      here = changed p ∙ yes (p == p) (option_map (after_change o lsn) (frame_of p fs)) (frame_of p fs) on ∙ ap (option_map (after_change o lsn)) there

      elsewhere : (q : ℕ) → q ≢ p → frame_of q gs ≡ frame_of q fs
      elsewhere q other = changed q ∙ ⊎_elim (λ w. absurd (other (sym w.1))) (λ w. no (p == q) (option_map (after_change o lsn) (frame_of q fs)) (frame_of q fs) w.0) (eqb_tells p q)

      on_frames : IsOver (backing_of first g) gs b
      on_frames = record { at_rest = doing.over.at_rest; held = λ q h is. ⊎_elim (λ w. at_page q h is w.1) (λ w. doing.over.held q h (sym (elsewhere q w.1) ∙ is)) (eqb_tells q p) }
        where
          at_page : (q : ℕ) (h : Frame) → frame_of q gs ≡ Some h → q ≡ p → IsHeld (backing_of first g) b q (page_of h) h.since
          at_page q h is same =
              let h_is : after_change o lsn f ≡ h = one (after_change o lsn f) h (sym here ∙ ap (λ (m : ℕ). frame_of m gs) (sym same) ∙ is) in
              subst (λ (x : Frame). IsHeld (backing_of first g) b q (page_of x) x.since) h_is
              (subst (λ (m : ℕ). IsHeld (backing_of first g) b m v (since_then f.since lsn)) (sym same) (held_now f.since (doing.over.held p f there)))

      pub redo_on : (t : Parts D O) → t.base ≡ s.base → t.pool.frames ≡ gs → RedoesPages first g start (n + 1) t
      redo_on t base frames = record {
        over = subst (λ (k : Base D O). IsOver (backing_of first g) t.pool.frames k) (sym base) (subst (λ (l : List Frame). IsOver (backing_of first g) l s.base) (sym frames) on_frames);
        root = ap (λ (k : Base D O). k.root) base ∙ doing.root;
        moves = subst (λ (k : Base D O). MovesIf first g start k) (sym base) doing.moves;
        sound = doing.sound;
        none = doing.none;
        next = ap (λ (k : Base D O). k.log.first + length k.log.buffered) base ∙ doing.next;
        starts = doing.starts;
        checked = checked_more doing.checked passes;
        seen = λ q has. ⊎_elim
            (λ w. subst (λ (m : ℕ). PassesHome (next_of i) m first) (sym w.1) (subst (PagePasses (next_of i) first) is_over passes))
            (λ w. doing.seen q (sym (ap is_some (elsewhere q w.1)) ∙ sym (ap (λ (l : List Frame). has_page q l) frames) ∙ has))
            (eqb_tells q p);
        current = λ q.
            ap (λ (k : Base D O). page_shown t.pool.frames q (home_of g k q)) base ∙ ap (λ (l : List Frame). page_shown l q (home_of g b q)) frames
            ∙ ⊎_elim
            (λ w.
            let P : ℕ → Type 0 = λ k. page_shown gs k (home_of g b k) ≡ overlaid k i.first (take (n + 1) i.records) (home_of g start k) in
            subst P (sym w.1) (ap (kept_or (home_of g b p)) here ∙ v_is))
            (λ w.
            ap (kept_or (home_of g b q)) (elsewhere q w.1) ∙ doing.current q
            ∙ page_off q (home_of g start q) (λ is_q. let off = others q w.1 in absurd (cc (off, is_q))))
            (eqb_tells q p);
      }

  -- before the first record
  pub redo_starts : (s : Parts D O) → StandsQuiet first g s.base → StartsRedo first g s.base → s.pool.frames ≡ [] → s.base.log.buffered ≡ [] → RedoesPages first g s.base 0 s
  redo_starts s rests starts empty none = record {
    over = record { at_rest = rests; held = λ p f is. let none : None ≡ Some f = sym (ap (frame_of p) empty) ∙ is in absurd (cc none) };
    root = refl;
    moves = λ sound. stands_still g s.base;
    sound = rests.quiet;
    none = none;
    next = omega (arith, ap (λ (l : List (List ℕ)). length l) none);
    current = λ p. ap (λ (l : List Frame). page_shown l p (home_of g s.base p)) empty;
    starts = starts;
    checked = tt;
    seen = λ p has. let none : false ≡ true = sym (ap (λ (l : List Frame). has_page p l) empty) ∙ has in absurd (cc none);
  }

  -- behind the last
  pub redo_ends : (start : Base D O) (n : ℕ) (s : Parts D O) → RedoesPages first g start n s → (IsSoundImage first → n ≡ length (stored_of g start).records)
      → (IsSoundImage first → s.meta.tables ≡ tables_of (take n (stored_of g start).records)) → IsFold first g s
  redo_ends start n s doing all tables =
      let i = stored_of g start in
      let whole : IsSoundImage first → take n i.records ≡ i.records ++ waiting_of start = λ sound.
      take_all n i.records (omega (arith, all sound)) ∙ sym (append-nil i.records) ∙ ap (λ (l : List (List ℕ)). i.records ++ records_in l) (sym doing.none) in
      record {
        over = doing.over;
        tables = λ sound. tables sound ∙ ap tables_of (whole sound ∙ sym (doing.moves sound).all);
        current = λ sound p. doing.current p ∙ ap (λ (l : List Record). overlaid p start.root.first l (home_of g start p)) (whole sound) ∙ sym ((doing.moves sound).pages p);
      }
