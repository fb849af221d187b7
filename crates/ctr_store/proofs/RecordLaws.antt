-- How long a record is, and where its overlay lies; which pages are changed.
use Rattle.std.proofs.Common.{◌≡◌, ◌≢◌, ⊎_elim, ℕ, ◌+◌, ◌<◌, ◌≤◌, ◌==◌, Bool, true, false, if◌then◌else◌, List, [], ◌∷◌, length, Option, Some, None, refl, sym, ◌∙◌, ap, subst, arith}
use Rattle.std.specs.Prelude.{is_some, ◌||◌}
use Rattle.std.specs.List.{list_any}
use Rattle.std.proofs.lemmas.Bool.Decides.{eqb_tells}
use Rattle.ctr_rec.specs.declared.record.Overlay.{Overlay}
use Rattle.ctr_rec.specs.declared.record.Record.{Record}
use Rattle.ctr_rec.specs.declared.record.Form.{Form}
use Rattle.ctr_rec.specs.declared.record.Form.TheVariants.{Lists, Fields}
use Rattle.ctr_rec.specs.declared.table.Tag.{Tag}
use Rattle.ctr_rec.specs.declared.table.Tag.TheVariants as tag
use Rattle.ctr_rec.specs.Table.{layout, flag_at}
use Rattle.ctr_rec.specs.Parts.{form_of, OverlayFits}
use Rattle.ctr_rec.specs.Spelling.{record_bytes, form_bytes, parts_bytes, overlay_len}
use Rattle.ctr_rec.specs.Records.{FormFits, IsRecord}
use Rattle.ctr_rec.specs.Read.{record_in}
use Rattle.ctr_rec.proofs.ReadBack.{record_read}
use Rattle.ctr_rec.specs.bytes_Fields.{field}
use Rattle.ctr_rec.proofs.Forms.{begins_so}
use Rattle.ctr_rec.proofs.Laws.{length-parts}
use Rattle.ctr_base.specs.pool_Frame.{Frame}
use Rattle.ctr_base.specs.pool_Frames.{frame_of, has_page, change_of, since_in, IsOldest, AreClean}
use Rattle.ctr_store.specs.Parts.{has_change, some_dirty}
use Rattle.ctr_base.specs.redo_Overlaid.{form_overlay, overlay_of, lies_on, touches}
use Rattle.ctr_base.specs.redo_Fitting.{LiesInside}
use Rattle.ctr_store.specs.Changes.{HasFields, IsChange}

flag_low : (t : Tag) → flag_at (layout t) ≤ 17
flag_low tag.Begin = omega arith
flag_low tag.Commit = omega arith
flag_low tag.Abort = omega arith
flag_low tag.Forget = omega arith
flag_low tag.Alloc = omega arith
flag_low tag.Format = omega arith
flag_low tag.Link = omega arith
flag_low tag.Free = omega arith
flag_low tag.Unlink = omega arith
flag_low tag.Create = omega arith
flag_low tag.Uncreate = omega arith
flag_low tag.Drop = omega arith
flag_low tag.Undrop = omega arith
flag_low tag.Row = omega arith
flag_low tag.Keep = omega arith
flag_low tag.Revert = omega arith
flag_low tag.Trim = omega arith

overlay_low : (flag : ℕ) (o : Option Overlay) → OverlayFits flag o → overlay_len o ≤ 4105
overlay_low flag None fits = omega arith
overlay_low flag (Some o) fits = let inside = fits.3 in omega (arith, inside)

-- a record that is no Checkpoint is a short one
form_short : (f : Form) → FormFits f → HasFields f → length (form_bytes f) ≤ 4122
form_short (Lists next lists) fits has = absurd has
form_short (Fields p) fits has = let flag = flag_low p.tag in let over = overlay_low (layout p.tag).flag p.overlay fits.overlay in omega (arith, length-parts p, flag, over)

pub record_short : (r : Record) → IsRecord r → IsChange r → length (record_bytes r) ≤ 4122
record_short r fits change = form_short (form_of r) fits change

-- its overlay lies inside a page
form_inside : (f : Form) (o : Overlay) → FormFits f → form_overlay f ≡ Some o → o.offset + length o.bytes ≤ 4096
form_inside (Lists next lists) o fits is = absurd (cc is)
form_inside (Fields p) o fits is = let has = subst (OverlayFits (layout p.tag).flag) is fits.overlay in has.3

pub overlay_inside : (r : Record) (o : Overlay) → IsRecord r → overlay_of r ≡ Some o → o.offset + length o.bytes ≤ 4096
overlay_inside r o fits is = form_inside (form_of r) o fits is

-- the page that it is on, and the others
pub on_page : (o : Overlay) → (o.page == o.page) ≡ true
on_page o = ⊎_elim (λ w. w.0) (λ w. absurd (w.1 refl)) (eqb_tells o.page o.page)

pub off_page : (r : Record) (o : Overlay) → overlay_of r ≡ Some o → (q : ℕ) → q ≢ o.page → touches r q ≡ false
off_page r o is q other = ap (λ x. lies_on x q) is ∙ ⊎_elim (λ w. absurd (other (sym w.1))) (λ w. w.0) (eqb_tells o.page q)

pub off_all : (r : Record) → overlay_of r ≡ None → (q : ℕ) → touches r q ≡ false
off_all r is q = ap (λ x. lies_on x q) is

-- a page that is there has a frame
some_there : (x : Option Frame) → is_some x ≡ true → (f : Frame) × (x ≡ Some f)
some_there None is = absurd (cc is)
some_there (Some f) is = (f, refl)

pub frame_there : (p : ℕ) (fs : _) → has_page p fs ≡ true → (f : Frame) × (frame_of p fs ≡ Some f)
frame_there p fs is = some_there (frame_of p fs) is

pub inside_of : (counted : ℕ) (r : Record) (o : Overlay) → overlay_of r ≡ Some o → LiesInside counted (overlay_of r) → o.page < counted
inside_of counted r o is inside = subst (LiesInside counted) is inside

pub page_of_touch : (r : Record) (o : Overlay) (q : ℕ) → overlay_of r ≡ Some o → touches r q ≡ true → q ≡ o.page
page_of_touch r o q is on =
    let on_it : (o.page == q) ≡ true = sym (ap (λ x. lies_on x q) is) ∙ on in
    ⊎_elim (λ w. sym w.1) (λ w. absurd (cc (w.0, on_it))) (eqb_tells o.page q)

-- one spelling is of one record
pub same_record : (a b : Record) → IsRecord a → IsRecord b → record_bytes a ≡ record_bytes b → a ≡ b
same_record a b is_a is_b same = sym (record_read a is_a) ∙ ap record_in same ∙ record_read b is_b

-- ---- pages that are changed

none_any : {A : Type 0} (P : A → Bool) → ((x : A) → P x ≡ false) → (l : List A) → list_any P l ≡ false
none_any P none [] = refl
none_any P none (x ∷ l) = ap (λ b. b || list_any P l) (none x) ∙ none_any P none l

-- one that passes is among them
found_any : (P : Frame → Bool) (q : ℕ) (f : Frame) (fs : List Frame) → frame_of q fs ≡ Some f → P f ≡ true → list_any P fs ≡ true
found_any P q f [] is passes = absurd (cc is)
found_any P q f (g ∷ fs) is passes =
    ⊎_elim
    (λ w. ap (λ x. P x || list_any P fs) (one g f (sym (ap (λ b. if b then Some g else frame_of q fs) w.0) ∙ is)) ∙ ap (λ b. b || list_any P fs) passes)
    (λ w. some_or (P g) (found_any P q f fs (sym (ap (λ b. if b then Some g else frame_of q fs) w.0) ∙ is) passes))
    (eqb_tells g.page q)
  where
    one : (a b : Frame) → Some a ≡ Some b → a ≡ b
    one a b e = cc e

    some_or : (b : Bool) → list_any P fs ≡ true → (b || list_any P fs) ≡ true
    some_or true is = refl
    some_or false is = is

-- a frame that was found has the page
page_found : (q : ℕ) (f : Frame) (fs : List Frame) → frame_of q fs ≡ Some f → f.page ≡ q
page_found q f [] is = absurd (cc is)
page_found q f (g ∷ fs) is =
    ⊎_elim
    (λ w. ap (λ (x : Frame). x.page) (sym (one g f (sym (ap (λ b. if b then Some g else frame_of q fs) w.0) ∙ is))) ∙ w.1)
    (λ w. page_found q f fs (sym (ap (λ b. if b then Some g else frame_of q fs) w.0) ∙ is))
    (eqb_tells g.page q)
  where
    one : (a b : Frame) → Some a ≡ Some b → a ≡ b
    one a b e = cc e

pub none_dirty : (fs : List Frame) → AreClean fs → some_dirty fs ≡ false
none_dirty fs clean = none_any (has_change fs) (λ f. ap is_some (clean f.page)) fs

pub one_dirty : (fs : List Frame) (p s : ℕ) → IsOldest p s fs → some_dirty fs ≡ true
one_dirty fs p s oldest = by (frame_of p fs) refl
  where
    by : (o : Option Frame) → frame_of p fs ≡ o → some_dirty fs ≡ true
    by None is = absurd (cc (sym oldest.some ∙ ap change_of is))
    by (Some f) is = found_any (has_change fs) p f fs is (ap (λ q. is_some (since_in q fs)) (page_found p f fs is) ∙ ap is_some oldest.some)

-- how a call that saves the oldest answers
pub wrote_is : (fs : List Frame) (wrote : Bool) → (wrote ≡ false → AreClean fs) → (wrote ≡ true → (p : ℕ) × (s : ℕ) × IsOldest p s fs) → wrote ≡ some_dirty fs
wrote_is fs true none some = let o = some refl in sym (one_dirty fs o.0 o.1 o.2)
wrote_is fs false none some = sym (none_dirty fs (none refl))

-- the number of a record that is no Checkpoint isn't a Checkpoint's
pub change_number : (r : Record) → IsRecord r → IsChange r → field 1 0 (record_bytes r) ≢ 1
change_number r fits change = by_form (form_of r) fits change
  where
    by_form : (f : Form) → FormFits f → HasFields f → field 1 0 (form_bytes f) ≢ 1
    by_form (Lists next lists) fits change is = absurd change
    by_form (Fields p) fits change is = let n = begins_so p (parts_bytes p) fits refl in omega (arith, is, n.0)
