use Rattle.std.proofs.Common.{◌≡◌, ◌+◌, ◌*◌, ◌/◌, ◌%◌, ◌≤◌, cond, [], length, sym, ◌∙◌, ap, subst, arith}
use Rattle.std.specs.Prelude.{map}
use Rattle.std.proofs.lemmas.Bool.{ne_eqb, lt-ltb}
use Rattle.ctr_page.specs.Reading.{piece}
use Rattle.ctr_page.specs.Readable.{PartsHaveRoom}
use Rattle.ctr_page.specs.Columns.{entry_in, entry_at, first_in, versions_first_in}
use Rattle.ctr_page.proofs.Holding.{entry_parts}
use Rattle.ctr_heap.specs.area_Areas.{no_pages}
use Rattle.ctr_heap.specs.area_Reading.{title_of, entry_bytes, bucket_numbers, area_of}
use Rattle.ctr_heap.specs.record_effects_States.{pages_in}
use Rattle.ctr_undamaged.proofs.places.a_table_can_be_linked_to.Goals as goal

pub returns-clause-parts : goal.returns-clause-parts
returns-clause-parts c = λ s e sound lt whole used.
    let page = pages_in s (1 + e / 16) in
    let here : entry_bytes (pages_in s) e ≡ piece (256 * (e % 16)) 256 page = ap (λ b. cond b (piece (256 * (e % 16)) 256 page) []) (lt-ltb e 32 lt) in
    let state : ((area_of (pages_in s)).title e).state ≡ (entry_at (e % 16) page).state = ap (λ l. (title_of (entry_in l)).state) here in
    let inside : 256 * (e % 16) + 256 ≤ length page = omega (arith, whole) in
    (used, subst PartsHaveRoom (sym here) (entry_parts s.counted (e % 16) page inside (sound.passed.entries e lt) (λ none. used (state ∙ none))))

pub returns-clause-eight : goal.returns-clause-eight
returns-clause-eight c = λ s e used.
    let entry = entry_in (entry_bytes (pages_in s) e) in
    ap (λ b. length (cond b no_pages (record {
      buckets = map (λ k. first_in k entry.bytes) bucket_numbers;
      versions = versions_first_in entry.bytes;
    })).buckets) (ne_eqb entry.state 0 used)
