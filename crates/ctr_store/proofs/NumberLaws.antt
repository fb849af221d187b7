-- A record leads the numbers that tables count with on by one at most.
use Rattle.std.proofs.Common.{◌≡◌, ◌⊎◌, ⊎_elim, ℕ, ◌+◌, ◌-◌, ◌^◌, ◌<◌, ◌≤◌, Bool, true, false, cond, eqb, List, [], ◌∷◌, ◌++◌, length, Some, Result, Ok, Err, inl, inr, sym, ◌∙◌, ap, subst, arith}
use Rattle.std.specs.Prelude.{unwrap_or}
use Rattle.std.specs.List.{AllByRecursion}
use Rattle.ctr_rec.specs.declared.record.Record.{Record}
use Rattle.ctr_rec.specs.declared.record.Record.TheVariants.{Checkpoint, Begin, Commit, Abort, Forget, Alloc, Format, Link, Free, Unlink, Create, Uncreate, Drop, Undrop, Row, Keep, Revert, Trim}
use Rattle.ctr_rec.specs.Members.{HasMembers, opens_listed}
use Rattle.ctr_rec.proofs.Listed.{listed_members}
use Rattle.ctr_base.specs.meta_Tables.{Tables, no_tables, is_in, heads_at, heads_in, without_xid, with_heads}
use Rattle.ctr_base.specs.meta_Effects.{effect, listed, one_head_more, one_head_less, one_aborted_less}
use Rattle.ctr_base.specs.meta_Kept.{IsLogged, NumbersFit}
use Rattle.ctr_store.specs.Changes.{IsChange}
use Rattle.ctr_store.specs.Numbers.{HeadsWithin, NumbersWithin, NumbersAt, NumbersLow}
use Rattle.std.specs.Prelude.{IfOk, OnErr}
use Rattle.ctr_disk.specs.declared.disk.Disk.{Ghosts}
use Rattle.ctr_disk.specs.declared.fault.StoreFault.{StoreFault}
use Rattle.ctr_base.specs.meta_Kept.{TablesKept}
use Rattle.ctr_base.specs.Base.{KeepsBase}
use Rattle.ctr_store.specs.declared.parts.Parts.{Parts}
use Rattle.ctr_store.specs.Parts.{LogsRoom}

-- none of a list has more heads than this
abbrev AllFew : ℕ → List (ℕ × ℕ) → Type 0
AllFew most ps = AllByRecursion (λ (p : ℕ × ℕ). p.1 ≤ most) ps

few_more : (m n : ℕ) (ps : List (ℕ × ℕ)) → m ≤ n → AllFew m ps → AllFew n ps
few_more m n [] more all = tt
few_more m n (p ∷ ps) more all = let here = all.0 in (omega (arith, more, here), few_more m n ps more all.1)

few_behind : (m : ℕ) (ps : List (ℕ × ℕ)) (q : ℕ × ℕ) → q.1 ≤ m → AllFew m ps → AllFew m (ps ++ q ∷ [])
few_behind m [] q few all = (few, tt)
few_behind m (p ∷ ps) q few all = (all.0, few_behind m ps q few all.1)

few_without : (m x : ℕ) (ps : List (ℕ × ℕ)) → AllFew m ps → AllFew m (without_xid x ps)
few_without m x [] all = tt
few_without m x (p ∷ ps) all = by (eqb x p.0) (few_without m x ps all.1)
  where
    by : (b : Bool) → AllFew m (without_xid x ps) → AllFew m (cond b ps (p ∷ without_xid x ps))
    by true rest = all.1
    by false rest = (all.0, rest)

few_with : (m x h : ℕ) (ps : List (ℕ × ℕ)) → h ≤ m → AllFew m ps → AllFew m (with_heads x h ps)
few_with m x h [] few all = tt
few_with m x h (p ∷ ps) few all = by (eqb x p.0) (few_with m x h ps few all.1)
  where
    by : (b : Bool) → AllFew m (with_heads x h ps) → AllFew m (cond b ((p.0, h) ∷ ps) (p ∷ with_heads x h ps))
    by true rest = (few, all.1)
    by false rest = (all.0, rest)

few_at : (m x : ℕ) (ps : List (ℕ × ℕ)) → AllFew m ps → heads_in x ps ≤ m
few_at m x [] all = omega arith
few_at m x (p ∷ ps) all = by (eqb x p.0) (few_at m x ps all.1)
  where
    by : (b : Bool) → heads_in x ps ≤ m → unwrap_or (cond b (Some p.1) (heads_at x ps)) 0 ≤ m
    by true rest = all.0
    by false rest = rest

-- larger bounds are bounds
pub within_more : (a b c d : ℕ) (t : Tables) → a ≤ c → b ≤ d → NumbersWithin a b t → NumbersWithin c d t
within_more a b c d t next heads within = let low = within.0 in (omega (arith, next, low), few_more b d t.opens heads within.1)

head_more : (a b x : ℕ) (t : Tables) → NumbersWithin a b t → NumbersWithin (a + 1) (b + 1) (one_head_more x t)
head_more a b x t within =
    let more = within_more a b (a + 1) (b + 1) t (omega arith) (omega arith) within in
    let heads = few_at b x t.opens within.1 in
    (more.0, few_with (b + 1) x (heads_in x t.opens + 1) t.opens (omega (arith, heads)) more.1)

head_less : (a b x : ℕ) (t : Tables) → NumbersWithin a b t → NumbersWithin a b (one_head_less x t)
head_less a b x t within = by (eqb x 0) (is_in x t.opens)
  where
    lower : NumbersWithin a b (record t { opens = with_heads x (heads_in x t.opens - 1) t.opens })
    lower = let heads = few_at b x t.opens within.1 in (within.0, few_with b x (heads_in x t.opens - 1) t.opens (omega (arith, heads)) within.1)

    by : (y z : Bool) → NumbersWithin a b (cond y t (cond z (record t { opens = with_heads x (heads_in x t.opens - 1) t.opens }) (one_aborted_less x t)))
    by true z = within
    by false true = lower
    by false false = within

-- those that a Checkpoint lists
listed_within : (next : ℕ) (lists : List ℕ) → HasMembers next lists → NumbersWithin (2 ^ 63 + 2 ^ 62) (2 ^ 62) (listed next lists)
listed_within next lists (opens, aborted, items, fit, is) =
    let read = listed_members next opens aborted items fit in
    let are : opens_listed lists ≡ opens = ap opens_listed is ∙ read.opens_are in
    (fit.next_fits, subst (AllFew (2 ^ 62)) (sym are) fit.opens_fit.1)

-- a record leads both on by one, or it is a Checkpoint, whose lists have bounds of their own
pub within_behind : (r : Record) (a b : ℕ) (t : Tables) → IsLogged r → IsChange r ⊎ ((2 ^ 63 + 2 ^ 62 ≤ a) × (2 ^ 62 ≤ b)) → NumbersWithin a b t → NumbersWithin (a + 1) (b + 1) (effect r t)
within_behind (Checkpoint next lists) a b t logged room within =
    ⊎_elim (λ no. absurd no)
    (λ big. let low = big.0 in let few = big.1 in within_more (2 ^ 63 + 2 ^ 62) (2 ^ 62) (a + 1) (b + 1) (listed next lists) (omega (arith, low)) (omega (arith, few)) (listed_within next lists logged.members))
    room
within_behind (Begin x) a b t logged room within =
    let more = within_more a b (a + 1) (b + 1) t (omega arith) (omega arith) within in
    let low = within.0 in
    (omega (arith, low), few_behind (b + 1) t.opens (x, 0) (omega arith) more.1)
within_behind (Commit x) a b t logged room within =
    let more = within_more a b (a + 1) (b + 1) t (omega arith) (omega arith) within in
    (more.0, few_without (b + 1) x t.opens more.1)
within_behind (Abort x) a b t logged room within =
    let more = within_more a b (a + 1) (b + 1) t (omega arith) (omega arith) within in
    (more.0, few_without (b + 1) x t.opens more.1)
within_behind (Forget x) a b t logged room within = within_more a b (a + 1) (b + 1) t (omega arith) (omega arith) within
within_behind (Alloc x p o) a b t logged room within = within_more a b (a + 1) (b + 1) t (omega arith) (omega arith) within
within_behind (Format x p o) a b t logged room within = within_more a b (a + 1) (b + 1) t (omega arith) (omega arith) within
within_behind (Link x p o) a b t logged room within = within_more a b (a + 1) (b + 1) t (omega arith) (omega arith) within
within_behind (Free p o) a b t logged room within = within_more a b (a + 1) (b + 1) t (omega arith) (omega arith) within
within_behind (Unlink p o) a b t logged room within = within_more a b (a + 1) (b + 1) t (omega arith) (omega arith) within
within_behind (Create x e o) a b t logged room within = within_more a b (a + 1) (b + 1) t (omega arith) (omega arith) within
within_behind (Uncreate e o) a b t logged room within = within_more a b (a + 1) (b + 1) t (omega arith) (omega arith) within
within_behind (Drop x e o) a b t logged room within = within_more a b (a + 1) (b + 1) t (omega arith) (omega arith) within
within_behind (Undrop e o) a b t logged room within = within_more a b (a + 1) (b + 1) t (omega arith) (omega arith) within
within_behind (Row x over o) a b t logged room within = head_less (a + 1) (b + 1) over (one_head_more x t) (head_more a b x t within)
within_behind (Keep x o) a b t logged room within = within_more a b (a + 1) (b + 1) t (omega arith) (omega arith) within
within_behind (Revert x o) a b t logged room within = within_more a b (a + 1) (b + 1) t (omega arith) (omega arith) within
within_behind (Trim o) a b t logged room within = within_more a b (a + 1) (b + 1) t (omega arith) (omega arith) within

-- within these no number comes to its end by a record
pub numbers_fit : (r : Record) (a b : ℕ) (t : Tables) → a < 2 ^ 64 - 1 → b < 2 ^ 64 - 1 → NumbersWithin a b t → NumbersFit r t
numbers_fit (Checkpoint next lists) a b t low few within = tt
numbers_fit (Begin x) a b t low few within = let next = within.0 in omega (arith, low, next)
numbers_fit (Commit x) a b t low few within = tt
numbers_fit (Abort x) a b t low few within = tt
numbers_fit (Forget x) a b t low few within = tt
numbers_fit (Alloc x p o) a b t low few within = tt
numbers_fit (Format x p o) a b t low few within = tt
numbers_fit (Link x p o) a b t low few within = tt
numbers_fit (Free p o) a b t low few within = tt
numbers_fit (Unlink p o) a b t low few within = tt
numbers_fit (Create x e o) a b t low few within = tt
numbers_fit (Uncreate e o) a b t low few within = tt
numbers_fit (Drop x e o) a b t low few within = tt
numbers_fit (Undrop e o) a b t low few within = tt
numbers_fit (Row x over o) a b t low few within = let heads = few_at b x t.opens within.1 in omega (arith, few, heads)
numbers_fit (Keep x o) a b t low few within = tt
numbers_fit (Revert x o) a b t low few within = tt
numbers_fit (Trim o) a b t low few within = tt

-- before any record
pub none_within : (n : ℕ) → NumbersWithin (2 ^ 63 + 2 ^ 62 + n) (2 ^ 62 + n) no_tables
none_within n = (omega arith, tt)

-- behind a record that was seen
pub within_seen : (r : Record) (n : ℕ) (t : Tables) → IsLogged r → NumbersWithin (2 ^ 63 + 2 ^ 62 + n) (2 ^ 62 + n) t → NumbersWithin (2 ^ 63 + 2 ^ 62 + (n + 1)) (2 ^ 62 + (n + 1)) (effect r t)
within_seen r n t logged within =
    within_more (2 ^ 63 + 2 ^ 62 + n + 1) (2 ^ 62 + n + 1) (2 ^ 63 + 2 ^ 62 + (n + 1)) (2 ^ 62 + (n + 1)) (effect r t) (omega arith) (omega arith)
    (within_behind r (2 ^ 63 + 2 ^ 62 + n) (2 ^ 62 + n) t logged (inr (omega arith, omega arith)) within)

-- what was seen is within what an opening answers
pub heads_seen : (n : ℕ) (t : Tables) → n ≤ 2 ^ 60 → NumbersWithin (2 ^ 63 + 2 ^ 62 + n) (2 ^ 62 + n) t → HeadsWithin (2 ^ 63) t
heads_seen n t few within = few_more (2 ^ 62 + n) (2 ^ 63) t.opens (omega (arith, few)) within.1

-- of what was opened
pub numbers_opened : (lsn : ℕ) (t : Tables) → lsn < 2 ^ 62 → t.next < 2 ^ 62 → HeadsWithin (2 ^ 63) t → NumbersLow lsn t
numbers_opened lsn t below low heads = ((omega (arith, low), few_more (2 ^ 63) (2 ^ 63 + lsn) t.opens (omega arith) heads), omega (arith, below))

-- behind a record more
pub numbers_more : (lsn : ℕ) (t : Tables) → NumbersAt lsn t → NumbersAt (lsn + 1) t
numbers_more lsn t within = within_more (2 ^ 62 + lsn) (2 ^ 63 + lsn) (2 ^ 62 + (lsn + 1)) (2 ^ 63 + (lsn + 1)) t (omega arith) (omega arith) within

-- the next LSN by the parts of a store
abbrev next_in : {D O : Type 0} → Parts D O → ℕ
next_in s = s.base.log.first + length s.base.log.buffered

-- a call that logs nothing
pub numbers_kept : {D O : Type 0} (g : Ghosts D) (s t : Parts D O) → KeepsBase g s.base t.base → t.meta ≡ s.meta → NumbersLow (next_in s) s.meta.tables → NumbersLow (next_in t) t.meta.tables
numbers_kept g s t keeps meta within =
    subst (λ (k : TablesKept). NumbersLow (next_in t) k.tables) (sym meta) (subst (λ (n : ℕ). NumbersLow n s.meta.tables) (sym keeps.next) within)

-- one that logs a record, or is refused
pub numbers_behind : {D O : Type 0} (g : Ghosts D) (r : Record) (s t : Parts D O) (result : Result ℕ StoreFault) → IsLogged r → IsChange r → next_in s < 2 ^ 63 - 1 → NumbersLow (next_in s) s.meta.tables
    → IfOk result (λ lsn. (lsn ≡ next_in s) × LogsRoom g r s t) → OnErr result (KeepsBase g s.base t.base × (t.meta ≡ s.meta)) → NumbersLow (next_in t) t.meta.tables
numbers_behind g r s t (Ok lsn) logged change low within logs keeps =
    let xids = 2 ^ 62 + next_in s in
    let heads = 2 ^ 63 + next_in s in
    let next = logs.1.next in
    subst (λ (u : Tables). NumbersLow (next_in t) u) (sym logs.1.tables) (
      within_more (xids + 1) (heads + 1) (2 ^ 62 + next_in t) (2 ^ 63 + next_in t) (effect r s.meta.tables) (omega (arith, next)) (omega (arith, next))
          (within_behind r xids heads s.meta.tables logged (inl change) within.0),
      omega (arith, low, next),
    )
numbers_behind g r s t (Err e) logged change low within logs keeps = numbers_kept g s t keeps.0 keeps.1 within
