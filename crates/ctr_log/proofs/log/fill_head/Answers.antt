use Rattle.std.proofs.Common.{◌≡◌, ◌∙◌, ◌-◌, [], ◌++◌, ℕ, List, length, drop, ap, sym, refl, arith, length-append, length-drop}
use Rattle.ctr_home.specs.bytes_Fields.{spelled, with_field}
use Rattle.ctr_home.proofs.bytes_FieldLaws.{put_next, length-spelled}
use Rattle.ctr_log.proofs.log.fill_head.Goals as goal

-- the three fields, put one behind another
filled : (len first count : ℕ) (old : List ℕ) → with_field 4 16 count (with_field 8 8 first (with_field 8 0 len old)) ≡ spelled 8 len ++ spelled 8 first ++ spelled 4 count ++ drop 20 old
filled len first count old =
    let one = length-spelled 8 len in
    let two : length (spelled 8 len ++ spelled 8 first) ≡ 16 = omega (arith, length-append (spelled 8 len) (spelled 8 first), length-spelled 8 len, length-spelled 8 first) in
    put_next 4 count 16 (spelled 8 len ++ spelled 8 first) old _ (sym two) (put_next 8 first 8 (spelled 8 len) old _ (sym one) (put_next 8 len 0 [] old old refl refl))

pub returns : goal.returns
returns c =
    let old = c.args.body.now in
    let one = c.put_u64-2.ensures.put ∙ ap (with_field 8 8 c.args.first) c.put_u64.ensures.put in
    let all = c.put_u32.ensures.put ∙ ap (with_field 4 16 c.args.count) one in
    let len : length old - 20 ≡ length (drop 20 old) = sym (length-drop 20 old) in
    all ∙ filled (length old - 20) c.args.first c.args.count old ∙ ap (λ (n : ℕ). spelled 8 n ++ spelled 8 c.args.first ++ spelled 4 c.args.count ++ drop 20 old) len
