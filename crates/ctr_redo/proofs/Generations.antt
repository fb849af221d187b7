-- Two generations of the log: a checkpoint changes nothing, and the older one can be dropped where its records are home.
use Rattle.std.proofs.Common.{◌≡◌, ⊎_elim, ℕ, ◌+◌, ◌-◌, ◌≤◌, List, [], ◌∷◌, ◌++◌, length, take, drop, refl, sym, ◌∙◌, ap, arith}
use Rattle.std.proofs.Math.Seq.{take-append-add}
use Rattle.std.proofs.lemmas.List.Sums.{fold-append}
use Rattle.ctr_pool.specs.Pages.{PageHeld}
use Rattle.ctr_meta.specs.Tables.{Tables, no_tables}
use Rattle.ctr_meta.specs.Effects.{effect, listed, tables_of}
use Rattle.ctr_meta.specs.ctr_bytes.Fields.{field}
use Rattle.ctr_log.proofs.KeptLaws.{picks}
use Rattle.ctr_meta.specs.rec_Record.{Record}
use Rattle.ctr_meta.specs.rec_Read.{record_in, record_with, parts_read, tag_numbered}
use Rattle.ctr_meta.specs.rec_Record.TheVariants.{Checkpoint}
use Rattle.ctr_redo.specs.Overlaid.{overlaid, with_record}
use Rattle.ctr_redo.specs.States.{page_limit, State, Stored, pages_of, state_of, pages_after, step, without_older, AreHome}
use Rattle.ctr_redo.proofs.PageLaws.{overlaid-append, no_lower, none_new, stays_out, in_or_out, GoesIn, StaysOut}
use Rattle.ctr_redo.proofs.StateLaws.{pages_same}

-- The older generation's records are home, and the newer one begins with a checkpoint: without the
-- older one the state is the same.
pub state_dropped : (xs ys : List Record) (next : ℕ) (lists : List ℕ) (i : Stored) → i.records ≡ xs ++ Checkpoint next lists ∷ ys → AreHome i.first xs i.homes
    → state_of (without_older xs (Checkpoint next lists ∷ ys) i) ≡ state_of i
state_dropped xs ys next lists i is home =
    let zs = Checkpoint next lists ∷ ys in
    let tables : tables_of (xs ++ zs) ≡ tables_of zs = fold-append (λ (t : Tables) (x : Record). effect x t) no_tables xs zs in
    let each : (p : ℕ) → overlaid p i.first (xs ++ zs) (i.homes p) ≡ overlaid p (i.first + length xs) zs (i.homes p) = λ p.
    overlaid-append p i.first xs zs (i.homes p) ∙ ap (overlaid p (i.first + length xs) zs) (home p) in
    sym (
    ap (λ (l : List Record). state_of (record i { records = l })) is
    ∙ ap (λ (ps : List (List ℕ)). record { counted = i.counted; pages = ps; tables = tables_of (xs ++ zs) }) (pages_same i.homes i.homes i.first (i.first + length xs) (xs ++ zs) zs each 0 page_limit)
    ∙ ap (λ (t : Tables). record { counted = i.counted; pages = pages_of i.homes (i.first + length xs) zs 0 page_limit; tables = t }) tables
    )

-- where a page's homes have all records, they have each front of them
pub front_home : (p lsn : ℕ) (xs ys : List Record) (h : PageHeld) → overlaid p lsn (xs ++ ys) h ≡ h → overlaid p lsn xs h ≡ h
front_home p lsn xs ys h all =
    let high = no_lower p (lsn + length xs) ys (overlaid p lsn xs h) in
    let whole : (overlaid p (lsn + length xs) ys (overlaid p lsn xs h)).lsn ≡ h.lsn = ap (λ (x : PageHeld). x.lsn) (sym (overlaid-append p lsn xs ys h) ∙ all) in
    none_new p lsn xs h (omega (arith, high, whole))

unchanged_pages : (p next : ℕ) (lists : List ℕ) (bs : List (List ℕ)) → pages_after p (Checkpoint next lists) bs ≡ bs
unchanged_pages p next lists [] = refl
unchanged_pages p next lists (b ∷ bs) = ap (λ (l : List (List ℕ)). b ∷ l) (unchanged_pages (p + 1) next lists bs)

-- A checkpoint of the tables as they are changes no state.
pub state_checkpoint : (next : ℕ) (lists : List ℕ) (s : State) → listed next lists ≡ s.tables → step (Checkpoint next lists) s ≡ s
state_checkpoint next lists s same =
    ap (λ (ps : List (List ℕ)). record { counted = s.counted; pages = ps; tables = listed next lists }) (unchanged_pages 0 next lists s.pages)
    ∙ ap (λ (t : Tables). record { counted = s.counted; pages = s.pages; tables = t }) same

-- what a home has, each later value of the page has
pub higher_has : (p lsn : ℕ) (xs : List Record) (k h : PageHeld) → overlaid p lsn xs k ≡ k → k.lsn ≤ h.lsn → overlaid p lsn xs h ≡ h
higher_has p lsn [] k h has high = refl
higher_has p lsn (r ∷ rs) k h has high =
    ⊎_elim
    (λ (i : GoesIn p lsn r k).
    let above = i.above in
    let rises = no_lower p (lsn + 1) rs (with_record p lsn r k) in
    absurd (omega (arith, above, rises, ap (λ (x : PageHeld). x.lsn) i.is, ap (λ (x : PageHeld). x.lsn) has)))
    (λ (o : StaysOut p lsn r k).
    let out : with_record p lsn r h ≡ h = stays_out p lsn r h (λ is_on. let low = o.out is_on in omega (arith, low, high)) in
    ap (overlaid p (lsn + 1) rs) out ∙ higher_has p (lsn + 1) rs k h (ap (overlaid p (lsn + 1) rs) (sym o.is) ∙ has) high)
    (in_or_out p lsn r k)

-- A page whose homes have all records below an LSN, at or above the newer generation's first, has the
-- older generation.
pub home_since : (p first : ℕ) (xs ys : List Record) (since : ℕ) (h : PageHeld) → first + length xs ≤ since → overlaid p first (take (since - first) (xs ++ ys)) h ≡ h → overlaid p first xs h ≡ h
home_since p first xs ys since h late has =
    let m = since - first - length xs in
    let n : since - first ≡ length xs + m = omega (arith, late) in
    let split : take (since - first) (xs ++ ys) ≡ xs ++ take m ys = ap (λ (j : ℕ). take j (xs ++ ys)) n ∙ take-append-add xs ys m in
    front_home p first xs (take m ys) h (ap (λ (l : List Record). overlaid p first l h) (sym split) ∙ has)

-- without the older generation, a page is the same
pub page_dropped : (p first : ℕ) (xs rs : List Record) (k : PageHeld) → overlaid p first xs k ≡ k → overlaid p first (xs ++ rs) k ≡ overlaid p (first + length xs) rs k
page_dropped p first xs rs k has = overlaid-append p first xs rs k ∙ ap (overlaid p (first + length xs) rs) has

-- what has a Checkpoint's number is one
pub is_checkpoint : (b : List ℕ) → field 1 0 b ≡ 1 → (next : ℕ) × (lists : List ℕ) × (record_in b ≡ Checkpoint next lists)
unfolding record_in
is_checkpoint b is = (
  field 8 1 b,
  take (length b - 10) (drop 9 b),
  picks (field 1 0 b) 1 (Checkpoint (field 8 1 b) (take (length b - 10) (drop 9 b))) (record_with (parts_read (tag_numbered (field 1 0 b)) b)) is,
)
