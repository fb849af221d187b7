use Rattle.std.proofs.Common.{◌≡◌, ◌+◌, ◌*◌, ℕ, List, sym, ap, ◌∙◌, arith, rules}
use Rattle.ctr_rec.specs.bytes_Fields.{field}
use Rattle.ctr_rec.specs.Members.{pairs_from, items_from, behind_pairs, slog_at}
use Rattle.ctr_meta.proofs.ListedFits.{Reads, reads}
use Rattle.ctr_meta.proofs.listing.counts_in.Goals as goal

second : (next : ℕ) (lists : List ℕ) (o a : ℕ) → Reads next lists → o ≡ field 8 0 lists → a ≡ field 8 (8 + 16 * o) lists → a ≡ field 8 (behind_pairs 0 lists) lists
second next lists o a r first got = got ∙ ap (λ (k : ℕ). field 8 k lists) (let e : 8 + 16 * o ≡ behind_pairs 0 lists = omega (arith, first, r.aborted_place) in e)

third : (next : ℕ) (lists : List ℕ) (o a i : ℕ) → Reads next lists → o ≡ field 8 0 lists → a ≡ field 8 (behind_pairs 0 lists) lists → i ≡ field 8 (8 + 16 * o + 8 + 16 * a) lists → i ≡ field 8 (slog_at lists) lists
third next lists o a i r first second got =
    got ∙ ap (λ (k : ℕ). field 8 k lists) (let e : 8 + 16 * o + 8 + 16 * a ≡ slog_at lists = omega (arith, first, second, r.aborted_place) in e)

pub get_u64-opens-requires : goal.get_u64-opens-requires
get_u64-opens-requires c = let r = reads c.args.next c.args.lists.now c.requires in omega (arith, r.long)

pub overflow_mul-aborted_at : goal.overflow_mul-aborted_at
overflow_mul-aborted_at c = let r = reads c.args.next c.args.lists.now c.requires in omega (arith, r.long, c.get_u64-opens.ensures.got)

pub overflow_add-aborted_at : goal.overflow_add-aborted_at
overflow_add-aborted_at c = let r = reads c.args.next c.args.lists.now c.requires in omega (arith, r.long, c.get_u64-opens.ensures.got)

pub get_u64-aborted-requires : goal.get_u64-aborted-requires
get_u64-aborted-requires c = let r = reads c.args.next c.args.lists.now c.requires in omega (arith, r.long, c.get_u64-opens.ensures.got)

pub overflow_add-items_at : goal.overflow_add-items_at
overflow_add-items_at c = let r = reads c.args.next c.args.lists.now c.requires in omega (arith, r.long, c.get_u64-opens.ensures.got)

pub overflow_mul-items_at : goal.overflow_mul-items_at
overflow_mul-items_at c =
    let r = reads c.args.next c.args.lists.now c.requires in
    let two = second c.args.next c.args.lists.now c.get_u64-opens.result c.get_u64-aborted.result r c.get_u64-opens.ensures.got c.get_u64-aborted.ensures.got in
    omega (arith, r.long, two, c.get_u64-opens.ensures.got)

pub overflow_add-items_at-2 : goal.overflow_add-items_at-2
overflow_add-items_at-2 c =
    let r = reads c.args.next c.args.lists.now c.requires in
    let two = second c.args.next c.args.lists.now c.get_u64-opens.result c.get_u64-aborted.result r c.get_u64-opens.ensures.got c.get_u64-aborted.ensures.got in
    omega (arith, r.long, two, c.get_u64-opens.ensures.got)

pub get_u64-items-requires : goal.get_u64-items-requires
get_u64-items-requires c =
    let r = reads c.args.next c.args.lists.now c.requires in
    let two = second c.args.next c.args.lists.now c.get_u64-opens.result c.get_u64-aborted.result r c.get_u64-opens.ensures.got c.get_u64-aborted.ensures.got in
    omega (arith, r.long, two, c.get_u64-opens.ensures.got)

pub returns : goal.returns
returns c =
    let lists = c.args.lists.now in
    let o = c.get_u64-opens.result in
    let a = c.get_u64-aborted.result in
    let i = c.get_u64-items.result in
    let r = reads c.args.next lists c.requires in
    let one : o ≡ field 8 0 lists = c.get_u64-opens.ensures.got in
    let two = second c.args.next lists o a r one c.get_u64-aborted.ensures.got in
    let three = third c.args.next lists o a i r one two c.get_u64-items.ensures.got in
    record {
      counts = record {
        opens = ap (λ (k : ℕ). pairs_from 8 k lists) one ∙ r.opens;
        aborted = ap (λ (k : ℕ). pairs_from (16 + 16 * o) k lists) two ∙ ap (λ (k : ℕ). pairs_from k (field 8 (behind_pairs 0 lists) lists) lists) (let e : 16 + 16 * o ≡ behind_pairs 0 lists + 8 = omega (arith, one, r.aborted_place) in e);
        items = ap (λ (k : ℕ). items_from (24 + 16 * (o + a)) k lists) three ∙ ap (λ (k : ℕ). items_from k (field 8 (slog_at lists) lists) lists) (let e : 24 + 16 * (o + a) ≡ slog_at lists + 8 = omega (arith, one, two, r.aborted_place) in e);
        opens_len = r.opens_len ∙ sym one;
        aborted_len = r.aborted_len ∙ sym two;
        items_len = r.items_len ∙ sym three;
      };
      long = omega (arith, r.long, one, two, three);
      small = search rules;
      fit = r.items_fit;
      xids = r.xids;
    }
