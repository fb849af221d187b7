-- What the records of a log make of a page.
use Rattle.std.specs.Prelude.{ℕ, ◌+◌, ◌==◌, ◌&&◌, nat_lt, if◌then◌else◌, Bool, false, List, [], ◌∷◌, Option, None, Some}
use Rattle.ctr_pool.specs.rec_Overlay.{Overlay}
use Rattle.ctr_meta.specs.rec_Record.{Record}
use Rattle.ctr_meta.specs.rec_Form.{Form}
use Rattle.ctr_meta.specs.rec_Form.TheVariants.{Lists, Fields}
use Rattle.ctr_meta.specs.rec_Parts.{form_of}
use Rattle.ctr_pool.specs.Pages.{PageHeld, overlaid_by}

-- the overlay of a form, where it has one
abbrev pub form_overlay : Form → Option Overlay
form_overlay (Lists next lists) = None
form_overlay (Fields p) = p.overlay

-- an overlay is of this page
abbrev pub lies_on : Option Overlay → ℕ → Bool
lies_on None p = false
lies_on (Some o) p = o.page == p

-- the bytes of a page with an overlay over them
abbrev pub laid_over : Option Overlay → List ℕ → List ℕ
laid_over None body = body
laid_over (Some o) body = overlaid_by o body

-- the overlay of a record, where it has one
abbrev pub overlay_of : Record → Option Overlay
overlay_of r = form_overlay (form_of r)

-- a record is on a page
abbrev pub touches : Record → ℕ → Bool
touches r p = lies_on (overlay_of r) p

-- what it makes of its page's bytes
abbrev pub changed_by : Record → List ℕ → List ℕ
changed_by r body = laid_over (overlay_of r) body

-- a page with the record of this LSN, where that is on the page and the LSN is above the page's
abbrev pub with_record : ℕ → ℕ → Record → PageHeld → PageHeld
with_record p lsn r h =
    if touches r p && nat_lt h.lsn lsn then record { lsn = lsn; body = changed_by r h.body } else h

-- a page with records, one after another, the first of which has this LSN
abbrev pub overlaid : ℕ → ℕ → List Record → PageHeld → PageHeld
overlaid p lsn [] h = h
overlaid p lsn (r ∷ rs) h = overlaid p (lsn + 1) rs (with_record p lsn r h)

-- The bytes of a page of an image: those of its home, overlaid in order by each record with a
-- greater LSN than the home's stamp. The first record has this LSN.
abbrev pub by_home : ℕ → ℕ → ℕ → List Record → List ℕ → List ℕ
by_home p stamp lsn [] body = body
by_home p stamp lsn (r ∷ rs) body =
    by_home p stamp (lsn + 1) rs
    (if touches r p && nat_lt stamp lsn then changed_by r body else body)
