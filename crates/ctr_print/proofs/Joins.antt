-- Two texts printed are one, and what a printer's own calls leave.
use Rattle.std.proofs.Common.{◌≡◌, Bool, true, false, List, ℕ, [], ◌++◌, take, drop, refl, sym, ◌∙◌, ap, subst, append_assoc}
use Rattle.std.proofs.lemmas.List.{append-nil, take-append-drop}
use Rattle.ctr_io.specs.types_Faults.{CountsFault}
use Rattle.ctr_io.specs.declared.edges.Sink.{Ghosts}
use Rattle.ctr_print.specs.declared.printer.Printer.{Printer}
use Rattle.ctr_print.specs.Prints.{IsPart, HasPrinted, PrintsMore, Sends, PutsOn}

-- the same text, spelled otherwise
pub put_as : {K : Type 0} {g : Ghosts K} {old new : Printer K} {x y : List ℕ} → x ≡ y → PrintsMore g x old new → PrintsMore g y old new
put_as {K} {g} {old} {new} is p = subst (λ (t : List ℕ). PrintsMore g t old new) is p

pub both : {K : Type 0} {g : Ghosts K} {old mid new : Printer K} {x y : List ℕ} → PrintsMore g x old mid → PrintsMore g y mid new → PrintsMore g (x ++ y) old new
both {K} {g} {old} {mid} {new} {x} {y} p q = record {
  same_reference = q.same_reference ∙ p.same_reference;
  adds = λ start before at. subst (λ (t : List ℕ). HasPrinted g start t new) (append_assoc before x y) (q.adds start (before ++ x) (p.adds start before at));
}

-- nothing is printed
pub nothing_put : {K : Type 0} {g : Ghosts K} {p : Printer K} → PrintsMore g [] p p
nothing_put {K} {g} {p} = record {
  same_reference = refl;
  adds = λ start before at. subst (λ (t : List ℕ). HasPrinted g start t p) (sym (append-nil before)) at;
}

-- ---- a printer's own calls

known : {A : Type 0} (b : Bool) → (b ≡ true → A) → (b ≡ false → A) → A
known true at_true at_false = at_true refl
known false at_true at_false = at_false refl

-- what waits is sent, and more behind it
pub sent : {K : Type 0} {g : Ghosts K} {old new : Printer K} {more bytes : List ℕ} → Sends g old.sink.now old.fine bytes new.sink.now new.fine → bytes ≡ old.waiting.items ++ more
    → new.waiting.items ≡ [] → new.sink.ghost_name ≡ old.sink.ghost_name → PrintsMore g more old new
sent {K} {g} {old} {new} {more} {bytes} s is none same = record {
  same_reference = same;
  adds = λ start text at. known old.fine
      (λ fine. let p = s.puts fine in record {
        told = λ t. let part = at.told t in
            let all : text ++ more ≡ part.sent ++ bytes = ap (λ (l : List ℕ). l ++ more) (part.text_is ∙ ap (λ (l : List ℕ). part.sent ++ l) (part.waits fine)) ∙ append_assoc part.sent old.waiting.items more ∙ ap (λ (l : List ℕ). part.sent ++ l) (sym is) in
            known new.fine
            (λ done. record {
              sent = part.sent ++ bytes;
              rest = [];
              text_is = all ∙ sym (append-nil (part.sent ++ bytes));
              taken = p.whole t done ∙ ap (λ (l : List ℕ). l ++ bytes) part.taken ∙ append_assoc (g.taken start) part.sent bytes;
              waits = λ _. sym none;
            })
            (λ failed. let front = p.prefix t in record {
              sent = part.sent ++ front.0;
              rest = front.1;
              text_is = all ∙ ap (λ (l : List ℕ). part.sent ++ l) front.2 ∙ sym (append_assoc part.sent front.0 front.1);
              taken = front.3 ∙ ap (λ (l : List ℕ). l ++ front.0) part.taken ∙ append_assoc (g.taken start) part.sent front.0;
              waits = λ done. absurd (cc (done, failed));
            });
        calm = λ done. p.calm done ∙ at.calm fine;
        cause = λ failed. subst (λ n. CountsFault n (g.faults_of new.sink.now)) (at.calm fine) (p.cause failed);
      })
      (λ broke. let stays = s.stays broke in record {
        told = λ t. let part = at.told t in record {
          sent = part.sent;
          rest = part.rest ++ more;
          text_is = ap (λ (l : List ℕ). l ++ more) part.text_is ∙ append_assoc part.sent part.rest more;
          taken = ap g.taken stays.1 ∙ part.taken;
          waits = λ done. absurd (cc (done, stays.0));
        };
        calm = λ done. absurd (cc (done, stays.0));
        cause = λ _. subst (λ s. CountsFault (g.faults_of start) (g.faults_of s)) (sym stays.1) (at.cause broke);
      });
}

-- what waits is sent, and that was all
pub finished : {K : Type 0} {g : Ghosts K} {start now : K} {text : List ℕ} {p : Printer K} {done : Bool} → Sends g p.sink.now p.fine p.waiting.items now done → HasPrinted g start text p
    → PutsOn g start text now done
finished {K} {g} {start} {now} {text} {p} {done} s at =
    let end : Printer K = record p { sink = record p.sink { now = now }; waiting = record { items = [] }; fine = done } in
    let adds : PrintsMore g [] p end = sent s (sym (append-nil p.waiting.items)) refl refl in
    let ended : HasPrinted g start text end = subst (λ (t : List ℕ). HasPrinted g start t end) (append-nil text) (adds.adds start text at) in
    record {
      whole = λ told fine. let part = ended.told told in
          part.taken ∙ ap (λ (l : List ℕ). g.taken start ++ l) (sym (part.text_is ∙ ap (λ (l : List ℕ). part.sent ++ l) (part.waits fine) ∙ append-nil part.sent));
      prefix = λ told. let part = ended.told told in (part.sent, part.rest, part.text_is, part.taken);
      calm = ended.calm;
      cause = ended.cause;
    }

-- the bytes are taken apart, the front is kept behind what waits, that is put, and the rest is printed
pub in_two : {K : Type 0} {g : Ghosts K} {old kept put new : Printer K} (n : ℕ) {front rest bytes : List ℕ} → front ≡ take n bytes → rest ≡ drop n bytes
    → PrintsMore g front old kept → PrintsMore g [] kept put → PrintsMore g rest put new → PrintsMore g bytes old new
in_two {K} {g} {old} {kept} {put} {new} n {front} {rest} {bytes} front_is rest_is keeps puts adds =
    put_as (ap (λ (l : List ℕ). l ++ rest) front_is ∙ ap (λ (l : List ℕ). take n bytes ++ l) rest_is ∙ take-append-drop n bytes) (both keeps (both puts adds))
