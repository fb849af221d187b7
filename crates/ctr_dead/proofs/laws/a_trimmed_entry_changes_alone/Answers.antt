use Rattle.std.proofs.Common.{◌≡◌, ◌+◌, ◌*◌, ◌/◌, ◌%◌, ◌≤◌, cond, [], ◌∷◌, length, drop, refl, sym, ◌∙◌, ap, arith}
use Rattle.std.proofs.lemmas.Bool.{eq-eqb}
use Rattle.ctr_bytes.specs.Fields.{field}
use Rattle.ctr_bytes.proofs.FieldLaws.{got_byte}
use Rattle.ctr_page.specs.Reading.{put_over}
use Rattle.ctr_page.specs.Columns.{first_in, versions_first_in}
use Rattle.ctr_area.specs.Areas.{Firsts, no_pages}
use Rattle.ctr_area.specs.Reading.{entry_bytes, area_of}
use Rattle.ctr_area.proofs.Bytes.{byte_here}
use Rattle.ctr_area.proofs.InEntry.{drop_put, field_behind, same_name_in, same_columns_in, length-old, changes_to, state_written}
use Rattle.ctr_record_effects.specs.States.{pages_in, area_in}
use Rattle.ctr_record_effects.proofs.Laid.{bytes_laid}
use Rattle.ctr_dead.specs.Titles.{freed_title}
use Rattle.ctr_dead.proofs.laws.a_trimmed_entry_changes_alone.Goals as goal

pub returns-clause-dead : goal.returns-clause-dead
returns-clause-dead c = λ s r e whole few used lays.
    ap area_of (bytes_laid s r (1 + e / 16) (256 * (e % 16) + 0) (2 ∷ []) lays whole)
    ∙ state_written (pages_in s) e few (omega (arith, whole)) 2 (λ is. omega (arith, is)) used

pub returns-clause-freed : goal.returns-clause-freed
returns-clause-freed c = λ s r e whole few lays.
    let pages = pages_in s in
    let long : 256 * (e % 16) + 256 ≤ length (pages (1 + e / 16)) = omega (arith, whole) in
    let old = entry_bytes pages e in
    let new = put_over 0 (0 ∷ []) old in
    let size = length-old pages e few long in
    let behind : drop 1 new ≡ drop 1 old = drop_put 1 0 (0 ∷ []) old (omega arith) (omega arith) in
    let state : field 1 0 new ≡ 0 = sym (got_byte 0 new) ∙ byte_here 0 0 old (omega arith) in
    let chains : Firsts = record { buckets = first_in 0 new ∷ first_in 1 new ∷ first_in 2 new ∷ first_in 3 new ∷ first_in 4 new ∷ first_in 5 new ∷ first_in 6 new ∷ first_in 7 new ∷ []; versions = versions_first_in new } in
    ap area_of (bytes_laid s r (1 + e / 16) (256 * (e % 16) + 0) (0 ∷ []) lays whole)
    ∙ changes_to pages e few long 0 (0 ∷ []) (freed_title (area_in s) e) no_pages (omega arith) (same_columns_in 1 new old behind (omega arith))
    (λ i. record {
      state = state i;
      creator = field_behind 1 new old behind 8 1 (omega arith) i;
      dropper = field_behind 1 new old behind 8 9 (omega arith) i;
      name = same_name_in 1 new old behind (omega arith) i;
      columns = same_columns_in 1 new old behind (omega arith) i;
    })
    (ap (λ b. cond b no_pages chains) (eq-eqb (field 1 0 new) 0 state))

pub returns-clause-entry : goal.returns-clause-entry
returns-clause-entry c = λ s e.
    record { titles = λ f. refl; firsts = λ f. refl; taken = λ p. refl; headers = λ p. refl; rooms = λ p isnt. refl; slots = λ at isnt. refl; older = λ at isnt. refl }
