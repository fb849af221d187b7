-- A writer behind two generations is one behind the newer alone, where the root names that.
use Rattle.std.proofs.Common.{◌≡◌, inr, ℕ, zero, suc, ◌+◌, ◌<◌, ◌≤◌, Bool, false, [], ◌∷◌, length, refl, sym, ◌∙◌, subst, arith, length-append}
use Rattle.ctr_types.specs.declared.file.File.{File}
use Rattle.ctr_home.specs.disk_Image.{Image, content}
use Rattle.ctr_home.specs.bytes_Fields.{field}
use Rattle.ctr_log.specs.Logs.{Batches, records, AreBatches, HasLog, Log}
use Rattle.ctr_log.specs.Reading.{log_file}
use Rattle.ctr_log.specs.Kept.{other_file, other_byte, IsDropped, WritesTwo, WritesBy, WritesBehind, Forgets}
use Rattle.ctr_log.proofs.KeptLaws.{begins}

pub named_other : (n : ℕ) → log_file (other_byte n) ≡ other_file n
named_other zero = refl
named_other (suc n) = refl

pub other_named : (n : ℕ) → other_file (other_byte n) ≡ log_file n
other_named zero = refl
other_named (suc n) = refl

-- batches have a record
pub some_records : (bs : Batches) → 0 < length bs → AreBatches bs → 0 < length (records bs)
some_records [] some each = absurd (omega (arith, some))
some_records (rs ∷ bs) some each = let one = each.0.0 in omega (arith, one, length-append rs (records bs))

module _ (log : Log) (file first : ℕ) (image : Image) (one : 1 ≤ first) (w : WritesTwo file first log image) where
  abbrev next : ℕ
  next = first + length (records w.bs)

  below : field 8 9 (content (log_file file) image) < next
  below =
      let head = begins first w.bs (content (log_file file) image) w.holds.named w.holds.short (omega (arith, w.holds.low)) in
      omega (arith, head.1, some_records w.bs w.holds.named.some w.holds.named.batches_are.each)

  pub alone : WritesBehind (other_byte file) next (record log { older = false }) image
  alone = record {
    numbered = omega (arith, one);
    by = record {
      bs = w.cs;
      file_is = w.file_is ∙ sym (named_other file);
      goes_on = record { log_is = w.goes_on.log_is; start = w.goes_on.start; place = w.goes_on.place; first_is = w.goes_on.first_is };
      holds = record {
        named = subst (λ (f : File). HasLog next w.cs (content f image)) (sym (named_other file)) w.holds.newer;
        short = w.holds.newer_short;
        low = w.holds.low;
        dropped = subst (λ (f : File). IsDropped next (content f image)) (sym (other_named file)) (inr below);
      };
    };
  }

  pub by_number : WritesBehind (other_byte file) (field 8 9 (content (other_file file) image)) (record log { older = false }) image
  by_number =
      let head = begins next w.cs (content (other_file file) image) w.holds.newer w.holds.newer_short (omega (arith, w.holds.low)) in
      subst (λ (n : ℕ). WritesBehind (other_byte file) n (record log { older = false }) image) (sym head.1) alone

pub forgets : (log : Log) → Forgets log (record log { older = false })
forgets log file first image two writes = by_number log file first image writes.numbered (subst (λ (o : Bool). WritesBy o file first log image) two writes.by)
