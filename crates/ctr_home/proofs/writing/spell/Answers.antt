use Rattle.std.proofs.Common.{◌≡◌, ◌∙◌, ◌++◌, ◌+◌, ◌-◌, ◌^◌, ◌<◌, [], ℕ, List, length, take, drop, ap, sym, refl, arith, append_assoc, length-append}
use Rattle.std.proofs.lemmas.List.{take_at, drop_at, drop-drop, drop-replicate}
use Rattle.ctr_bytes.specs.Fields.{spelled, field, with_field}
use Rattle.ctr_bytes.proofs.FieldLaws.{put_next, length-spelled, field_at}
use Rattle.ctr_home.specs.declared.block.Block.{Block}
use Rattle.ctr_home.specs.Blocks.{block_number, body_len, home_len, value_behind, behind_gate, zero_bytes}
use Rattle.ctr_home.specs.Writing.{with_body}
use Rattle.ctr_home.proofs.writing.spell.Goals as goal

-- zeros behind zeros
zeros_left : (k n : ℕ) → drop k (zero_bytes n) ≡ zero_bytes (n - k)
unfolding zero_bytes
zeros_left k n = drop-replicate k n 0

-- number, stamp and body, one behind another
module _ (b : Block) (stamp : ℕ) (body tail old two : List ℕ) (number_low : block_number b < 256 ^ 4) (stamp_low : stamp < 256 ^ 8) (long : length body ≡ body_len b) where
  abbrev head : List ℕ
  head = spelled 4 (block_number b) ++ spelled 8 stamp

  head_long : length head ≡ 12
  head_long = omega (arith, length-append (spelled 4 (block_number b)) (spelled 8 stamp), length-spelled 4 (block_number b), length-spelled 8 stamp)

  -- the zeros behind the body
  spelled_whole : (n k : ℕ) → k ≡ length body → old ≡ zero_bytes n → n + 1 ≡ home_len b → two ≡ with_field 8 4 stamp (with_field 4 0 (block_number b) old) → head ++ (body ++ drop k (drop 12 two)) ≡ behind_gate b (with_body b stamp body)
  spelled_whole n k k_is zeros fits is =
      let both : two ≡ head ++ drop 12 old = is ∙ put_next 8 stamp 4 (spelled 4 (block_number b)) old _ (sym (length-spelled 4 (block_number b))) (put_next 4 (block_number b) 0 [] old old refl refl) in
      let rest : drop k (drop 12 two) ≡ zero_bytes (home_len b - (13 + body_len b)) =
      ap (λ (l : List ℕ). drop k (drop 12 l)) both ∙ ap (drop k) (drop_at head (drop 12 old) 12 head_long)
      ∙ drop-drop k 12 old ∙ ap (drop (12 + k)) zeros ∙ zeros_left (12 + k) n ∙ ap zero_bytes (omega (arith, fits, long, k_is)) in
      ap (λ (l : List ℕ). head ++ (body ++ l)) rest ∙ sym (append_assoc head body (zero_bytes (home_len b - (13 + body_len b))))

  head_put : two ≡ with_field 8 4 stamp (with_field 4 0 (block_number b) old) → take 12 two ≡ head
  head_put is =
      let both : two ≡ head ++ drop 12 old = is ∙ put_next 8 stamp 4 (spelled 4 (block_number b)) old _ (sym (length-spelled 4 (block_number b))) (put_next 4 (block_number b) 0 [] old old refl refl) in
      ap (take 12) both ∙ take_at head (drop 12 old) 12 head_long

  spelled_value : value_behind b (head ++ (body ++ tail)) ≡ with_body b stamp body
  spelled_value =
      let all = head ++ (body ++ tail) in
      let number : field 4 0 all ≡ block_number b =
      ap (field 4 0) (append_assoc (spelled 4 (block_number b)) (spelled 8 stamp) (body ++ tail)) ∙ field_at 4 (block_number b) 0 [] (spelled 8 stamp ++ (body ++ tail)) refl number_low in
      let stamped : field 8 4 all ≡ stamp = field_at 8 stamp 4 (spelled 4 (block_number b)) (body ++ tail) (length-spelled 4 (block_number b)) stamp_low in
      let bodied : take (body_len b) (drop 12 all) ≡ body = ap (take (body_len b)) (drop_at head (body ++ tail) 12 head_long) ∙ take_at body tail (body_len b) long in
      (λ i. record { number = number i; stamp = stamped i; body = bodied i })

pub returns-clause-value : goal.returns-clause-value
returns-clause-value c =
    let b = c.args.block in
    let two = c.put_u64.ensures.put ∙ ap (with_field 8 4 c.args.stamp) (c.put_u32.ensures.put ∙ ap (λ (n : ℕ). with_field 4 0 n c.clear.new.into) c.number.ensures) in
    let low : block_number b < 256 ^ 4 = omega (arith, c.number.ensures, c.number.type_inv) in
    let head = head_put b c.args.stamp c.args.body.now [] c.clear.new.into c.put_u64.new.bytes low (omega arith) c.requires.body two in
    rw head (rw c.copy_from_slice.ensures.after (spelled_value b c.args.stamp c.args.body.now _ c.clear.new.into c.put_u64.new.bytes low (omega arith) c.requires.body))

pub returns-clause-whole : goal.returns-clause-whole
returns-clause-whole c =
    let b = c.args.block in
    let two = c.put_u64.ensures.put ∙ ap (with_field 8 4 c.args.stamp) (c.put_u32.ensures.put ∙ ap (λ (n : ℕ). with_field 4 0 n c.clear.new.into) c.number.ensures) in
    let low : block_number b < 256 ^ 4 = omega (arith, c.number.ensures, c.number.type_inv) in
    let head = head_put b c.args.stamp c.args.body.now [] c.clear.new.into c.put_u64.new.bytes low (omega arith) c.requires.body two in
    rw head (rw c.copy_from_slice.ensures.after (spelled_whole b c.args.stamp c.args.body.now [] c.clear.new.into c.put_u64.new.bytes low (omega arith) c.requires.body (length c.args.behind.now) (12 + length c.args.body.now - 12) (omega arith) c.clear.ensures c.requires.behind two))
