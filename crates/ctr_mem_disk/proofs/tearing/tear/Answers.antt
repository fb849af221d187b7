use Rattle.std.proofs.Common.{◌≡◌, ◌+◌, ◌≤◌, ◌∙◌, List, ℕ, length, take, ap, subst, sym, arith}
use Rattle.std.proofs.lemmas.List.{take_all}
use Rattle.std.specs.Prelude.{OnOk, Result, Ok, Err, min}
use Rattle.ctr_disk.specs.Image.{section, written, Torn}
use Rattle.ctr_disk.specs.TornLaws.{torn_piece}
use Rattle.ctr_disk.proofs.Sections.{section_within}
use Rattle.ctr_mem_disk.proofs.tearing.tear.Goals as goal

on_ok : {T E P Q : Type 0} (r : Result T E) → (P → Q) → OnOk r P → OnOk r Q
on_ok (Ok x) f p = f p
on_ok (Err e) f p = p

-- the bytes that are left, to an end within them
left : (at n place end : ℕ) (xs old written_ new : List ℕ) → written_ ≡ written place xs old → min at (length old) ≤ place → place + length xs ≤ at + n → length old ≤ end
    → new ≡ take end written_ → Torn at n old new
left at n place end xs old written_ new was low high after is =
    subst (λ l. Torn at n old l) (sym (is ∙ ap (λ (l : List ℕ). take end l) was)) (torn_piece at n place end xs old low high after)

pub returns-then-piece-len : goal.returns-then-piece-len
returns-then-piece-len c =
    let p = c.in_ok-piece.piece in
    let l = c.write.new.self in
    let within : 0 + p.end ≤ length l = omega arith in
    on_ok c.set_len.result
    (λ (set : c.set_len.new.self ≡ section 0 p.end l).
    left c.args.at (length c.args.with.now) p.at p.end p.bytes.items c.args.bytes.now l c.set_len.new.self (c.in_ok-write.ensures.ok ∙ ap (λ (xs : List ℕ). written p.at xs c.args.bytes.now) c.deref.ensures.value)
    (omega (arith, c.in_ok-piece.ensures.low)) c.in_ok-piece.ensures.high (omega (arith, c.in_ok-piece.ensures.end)) (set ∙ section_within 0 p.end l within))
    c.set_len.ensures.ok

pub returns : goal.returns
returns c =
    let p = c.in_ok-piece.piece in
    let l = c.write.new.self in
    let whole : length l ≤ p.end = omega arith in
    left c.args.at (length c.args.with.now) p.at p.end p.bytes.items c.args.bytes.now l l (c.in_ok-write.ensures.ok ∙ ap (λ (xs : List ℕ). written p.at xs c.args.bytes.now) c.deref.ensures.value)
    (omega (arith, c.in_ok-piece.ensures.low)) c.in_ok-piece.ensures.high (omega (arith, c.in_ok-piece.ensures.end)) (sym (take_all p.end l whole))
