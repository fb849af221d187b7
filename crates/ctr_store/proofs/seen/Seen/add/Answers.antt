use Rattle.std.proofs.Common.{◌≡◌, ◌∙◌, ◌+◌, ◌^◌, ◌≤◌, List, [], ◌∷◌, length, length-append, sym, ap, subst, arith}
use Rattle.ctr_base.specs.log_Visit.{Visit}
use Rattle.ctr_base.specs.meta_Effects.{effect}
use Rattle.ctr_base.specs.meta_Needs.{needs}
use Rattle.ctr_store.specs.RecordChecks.{SeenLog, PassesAs, AllPass, tables_seen}
use Rattle.ctr_store.specs.Numbers.{NumbersWithin}
use Rattle.ctr_store.proofs.NumberLaws.{within_seen, numbers_fit}
use Rattle.ctr_store.proofs.SeenLaws.{passed_more, passed_is, tables_more}
use Rattle.ctr_store.proofs.seen.Seen.add.Goals as goal

pub invariant_of-self-in_err-push : goal.invariant_of-self-in_err-push
invariant_of-self-in_err-push g c =
    let inv = c.self.invariant in
    let same = c.in_err-push.ensures.err in
    record {
      passed = subst (AllPass c.self.inside.pages) (sym same) inv.passed;
      tables = c.reserve.ensures.same ∙ inv.tables ∙ ap tables_seen (sym same);
      counts = inv.counts;
      few = subst (λ (l : List Visit). length l ≤ 2 ^ 60) (sym same) inv.few;
      numbers = subst (λ (l : List Visit). NumbersWithin (2 ^ 63 + 2 ^ 62 + length l) (2 ^ 62 + length l) c.reserve.new.self.tables) (sym same)
          (subst (NumbersWithin (2 ^ 63 + 2 ^ 62 + length c.self.inside.visits) (2 ^ 62 + length c.self.inside.visits)) (sym c.reserve.ensures.same) inv.numbers);
    }

pub apply-requires-clause-may : goal.apply-requires-clause-may
apply-requires-clause-may g c =
    let r = c.args.rec.now in
    let n = length c.self.inside.visits in
    let t = c.reserve.new.self.tables in
    let opens = c.in_ok-reserve.ensures.opens in
    let items = c.in_ok-reserve.ensures.items in
    let few = c.self.invariant.few in
    record {
      fits = ap (needs r) (c.reserve.ensures.same ∙ ap (λ (s : SeenLog). s.tables) c.self.view_is) ∙ c.requires.fits;
      opens_fit = omega (arith, opens, c.room_for-room.ensures.opens);
      items_fit = omega (arith, items, c.room_for-room.ensures.items);
      numbers_fit = numbers_fit r (2 ^ 63 + 2 ^ 62 + n) (2 ^ 62 + n) t (omega (arith, few)) (omega (arith, few)) (subst (NumbersWithin (2 ^ 63 + 2 ^ 62 + n) (2 ^ 62 + n)) (sym c.reserve.ensures.same) c.self.invariant.numbers);
    }

pub invariant_of-self-2 : goal.invariant_of-self-2
invariant_of-self-2 g c =
    let inv = c.self.invariant in
    let w = c.args.visit in
    let r = c.args.rec.now in
    let vs = c.self.inside.visits in
    let more = c.in_ok-push.ensures.ok in
    let here : PassesAs c.self.inside.pages w.at c.self.inside.meta.tables w.bytes r = subst (λ (s : SeenLog). PassesAs s.pages w.at s.tables w.bytes r) (sym c.self.view_is) c.requires in
    let passes : PassesAs c.self.inside.pages w.at (tables_seen vs) w.bytes r = subst (λ t. PassesAs c.self.inside.pages w.at t w.bytes r) inv.tables here in
    let n = length vs in
    let count : length c.push.new.self ≡ n + 1 = ap (λ (l : List Visit). length l) more ∙ length-append vs (w ∷ []) in
    let low = c.if-len-ge-MOST_RECORDS.false in
    let was = subst (NumbersWithin (2 ^ 63 + 2 ^ 62 + n) (2 ^ 62 + n)) (sym c.reserve.ensures.same) inv.numbers in
    record {
      passed = subst (AllPass c.self.inside.pages) (sym more) (passed_more c.self.inside.pages vs w inv.passed r passes);
      tables = c.apply.ensures.tables ∙ ap (effect r) (c.reserve.ensures.same ∙ inv.tables) ∙ sym (tables_more vs w r (passed_is r passes)) ∙ ap tables_seen (sym more);
      counts = inv.counts;
      few = omega (arith, low, c.len.ensures, count);
      numbers = subst (λ k. NumbersWithin (2 ^ 63 + 2 ^ 62 + k) (2 ^ 62 + k) c.apply.new.self.tables) (sym count)
          (subst (NumbersWithin (2 ^ 63 + 2 ^ 62 + (n + 1)) (2 ^ 62 + (n + 1))) (sym c.apply.ensures.tables) (within_seen r n c.reserve.new.self.tables c.requires.logged was));
    }
