-- What a step did is what a part of a turn did, and what was found so.
use Rattle.std.proofs.Common.{◌≡◌, ◌⊎◌, ⊎_elim, inl, inr, ℕ, ◌+◌, ◌≤◌, ◌<◌, ℤ, Bool, cond, Option, None, Some, true, false, map, drop, length, Result, Ok, Err, refl, sym, ◌∙◌, ap, subst, arith}
use Rattle.std.proofs.lemmas.Bool.{false≢true, cases_eq}
use Rattle.std.specs.Prelude.{IfOk, IfErr, ◌≢◌, ◌==◌, is_some, not}
use Rattle.ctr_disk.specs.declared.fault.StoreFault.{StoreFault}
use Rattle.ctr_rec.specs.declared.record.SlogItem.TheVariants.{FreeOf}
use Rattle.ctr_page.specs.declared.checks.Chain.TheVariants.{Rows, Versions}
use Rattle.ctr_page.specs.declared.rows.Place.{Place}
use Rattle.ctr_page.specs.Columns.{entry_in, first_in, versions_first_in}
use Rattle.ctr_area.specs.Areas.{Title, Area, no_pages}
use Rattle.ctr_area.specs.Reading.{entry_bytes, bucket_numbers}
use Rattle.ctr_area.specs.Images.{is_live}
use Rattle.ctr_area.specs.Sound.{IsAmong}
use Rattle.ctr_walk.specs.redo_States.{State}
use Rattle.ctr_walk.specs.record_effects_States.{pages_in, area_in}
use Rattle.ctr_record_laws.specs.Owed.{Reverting, Trimming, OwedByUnlink, OwedByOlderUnlink}
use Rattle.ctr_record_laws.proofs.Bounds.{pages_bounded}
use Rattle.ctr_actions.specs.Sites.{site_of}
use Rattle.ctr_actions.specs.Actions.{Action, Begins, Allocates, Formats, Links, LinksOlder, Keeps, Writes, Creates, Drops, Commits, Frees, Uncreates, Undrops, Aborts, Reclaims, Reverts, Trims, Cuts, FreesOlder, MakesDead, Unlinks, UnlinksOlder, FreesEntry, Forgets, Checkpoints}
use Rattle.ctr_actions.specs.Cleaning.{IsCleaning}
use Rattle.ctr_emptying.specs.page_turns_Acts.{ActsBy}
use Rattle.ctr_locks.specs.Held.{session_locks, IsHolder}
use Rattle.ctr_emptying.specs.clean_SlotFacts.{SlotFacts}
use Rattle.ctr_emptying.specs.clean_OlderFacts.{OlderFacts}
use Rattle.ctr_emptying.specs.clean_Choosing.{passes_below, TellsSlot}
use Rattle.ctr_emptying.specs.clean_Cutting.{CutsAt, HasNoCut}
use Rattle.ctr_emptying.specs.clean_Lists.{ForgetsAt, ReclaimsOne, HasNoForget, HasNoFree}
use Rattle.ctr_emptying.specs.clean_Older.{IsSaid, FreesAt}
use Rattle.ctr_emptying.specs.clean_Steps.{Locks, IsUnlocked, HasNoRevert, HasNoTrim, RevertsAt, CleansSlot, CleansOne, IsDoneAt}
use Rattle.ctr_emptying.specs.clean_Tables.{MakesDeadAt, OwesDying}
use Rattle.ctr_emptying.specs.clean_Step.{Step}
use Rattle.ctr_emptying.specs.clean_Step.TheVariants as step
use Rattle.ctr_emptying.specs.Emptying.{UnlinksRowsAt, UnlinksVersionsAt, FreesEntryAt, HasNoRows}
use Rattle.ctr_emptying.specs.declared.emptied.Emptied.{Emptied}
use Rattle.ctr_emptying.specs.declared.emptied.Emptied.TheVariants as emptied
use Rattle.ctr_emptying.specs.cursor_Position.{Position}
use Rattle.ctr_emptying.specs.cursor_Position.TheVariants.{Entry, Slot, Kept, Aborted}
use Rattle.ctr_emptying.specs.cursor_Standing.{IsPosition, TakesPage}
use Rattle.ctr_emptying.proofs.cursor_Stays.{free_none, no_chain}
use Rattle.ctr_meta.specs.Kept.{TablesKept}
use Rattle.ctr_cleaner.specs.declared.done.MayEmpty.{MayEmpty}
use Rattle.ctr_cleaner.specs.declared.done.CleanTurn.{CleanTurn}
use Rattle.ctr_cleaner.specs.declared.done.CleanTurn.TheVariants as turn
use Rattle.ctr_cleaner.specs.declared.done.Dealt.TheVariants.{Logged as Logs}
use Rattle.ctr_cleaner.specs.declared.done.Logged.{Logged}
use Rattle.ctr_cleaner.specs.declared.done.Logged.TheVariants.{Cleaned, Unlinked, Reclaimed}
use Rattle.ctr_cleaner.specs.Finding.{IsFreeRow, HasNothingAt, HasNothingInSlot}
use Rattle.ctr_cleaner.specs.Turning.{Heeded, heeding, IsToldByTurn, IsOfOpenRow, CleansFreely, TurnsAt, next_cleaned, LeavesRoomBy, IsTurnWithin}
use Rattle.ctr_cleaner.specs.Parts.{Done, next_done, PartLeavesRoom, IsLetGo, turn_logged, DidAt, HasNoRowsToGo, HasNoEntryToFree, KeyLockSaid, OpenSaid, OpenOlderSaid, done_step, done_reclaim, done_freed, done_unlinked}

-- everything may be done in a table that is dead
abbrev pub everything : MayEmpty
everything = record { unlink = true; free = true }

-- an error of a step is one of the part
pub step_err : (P : StoreFault → Type 0) (r : Result Step StoreFault) → IfErr r P → IfErr (done_step r) P
step_err P (Ok step.Cleaned) is = tt
step_err P (Ok step.Nothing) is = tt
step_err P (Ok step.Beyond) is = tt
step_err P (Err e) is = is

pub reclaim_err : (P : StoreFault → Type 0) (r : Result Step StoreFault) → IfErr r P → IfErr (done_reclaim r) P
reclaim_err P (Ok step.Cleaned) is = tt
reclaim_err P (Ok step.Nothing) is = tt
reclaim_err P (Ok step.Beyond) is = tt
reclaim_err P (Err e) is = is

pub freed_err : (P : StoreFault → Type 0) (r : Result Emptied StoreFault) → IfErr r P → IfErr (done_freed r) P
freed_err P (Ok emptied.OneRecord) is = tt
freed_err P (Ok emptied.Nothing) is = tt
freed_err P (Err e) is = is

pub unlinked_err : (P : StoreFault → Type 0) (r : Result Emptied StoreFault) → IfErr r P → IfErr (done_unlinked r) P
unlinked_err P (Ok emptied.OneRecord) is = tt
unlinked_err P (Ok emptied.Nothing) is = tt
unlinked_err P (Err e) is = is

-- what was found may be said in other words
pub did_so : (h : Heeded) (x : Position) (F G : Type 0) (s t : State) → (F → G) → (d : Done) → DidAt h x F s t d → DidAt h x G s t d
did_so h x F G s t so (Some dealt) did = did
did_so h x F G s t so None did = (did.0, so did.1)

pub done_so : (h : Heeded) (x : Position) (F G : Type 0) (s t : State) → (F → G) → (r : Result Done StoreFault) → IfOk r (DidAt h x F s t) → IfOk r (DidAt h x G s t)
done_so h x F G s t so (Ok d) did = did_so h x F G s t so d did
done_so h x F G s t so (Err e) did = tt

-- what was done holds of the answer as it was told
pub ok_told : (P : Done → Type 0) (r told : Result Done StoreFault) (d : Done) → told ≡ r → told ≡ Ok d → IfOk r P → P d
ok_told P r told d is same holds = subst (λ (q : Result Done StoreFault). IfOk q P) (sym is ∙ same) holds

pub err_told : (P : StoreFault → Type 0) (r told : Result Done StoreFault) (e : StoreFault) → told ≡ r → told ≡ Err e → IfErr r P → P e
err_told P r told e is same holds = subst (λ (q : Result Done StoreFault). IfErr q P) (sym is ∙ same) holds

-- a step is one of the cleaner's, whose row isn't locked by the name of its table either
freely : (low : ℕ) (locks : Locks) (spared : ℕ) (may : MayEmpty) (x : Position) (turn : CleanTurn) (s t : State) (one : CleansOne low locks s t) (a : Action) → IsToldByTurn turn a → one.action ≡ a → IsOfOpenRow locks a (site_of s)
    → ((p : ℕ) → a ≡ Reclaims p → IsAmong (FreeOf p) (drop spared s.tables.items)) → ((e : ℕ) (title : Title) (left : Area) → a ≡ FreesEntry e title left → may.free ≡ true)
    → (TakesPage a x → ⊥) → CleansFreely (heeding low locks spared may) x turn s t
freely low locks spared may x turn s t one a told is free spares frees stays = record {
  action = a;
  told = told;
  cleaning = subst (λ (b : Action). IsCleaning (passes_below low s.tables) b (site_of s)) is one.cleaning;
  free = free;
  spares = spares;
  frees = frees;
  stays = stays;
  acts = subst (λ (b : Action). ActsBy s.tables.next b s t) is one.acts;
}

-- ---- in the lists of the tables

pub forgets : (low : ℕ) (locks : Locks) (spared n : ℕ) (may : MayEmpty) (s t : State) (r : Result Step StoreFault) → IfOk r (ForgetsAt low locks n s t)
    → IfOk (done_step r) (DidAt (heeding low locks spared may) (Aborted n) (HasNoForget n s.tables) s t)
forgets low locks spared n may s t (Ok step.Cleaned) (one, (x, there, is)) = freely low locks spared may (Aborted n) turn.Cleaned s t one (Forgets x) tt is tt (λ p same. absurd cc) (λ f title left same. absurd cc) (λ takes. takes)
forgets low locks spared n may s t (Ok step.Nothing) did = did
forgets low locks spared n may s t (Ok step.Beyond) did = absurd did
forgets low locks spared n may s t (Err e) did = tt

-- a page that is given back was taken from its chain before
stays : (p : ℕ) (y : Position) → TakesPage (Reclaims p) y → ⊥
stays p (Entry e) takes = takes
stays p (Slot e b at) takes = takes
stays p (Kept e at) takes = takes
stays p (Aborted n) takes = takes

page_same : (m n : ℕ) → Reclaims m ≡ Reclaims n → m ≡ n
page_same m n same = cc

pub reclaims : (low : ℕ) (locks : Locks) (spared : ℕ) (may : MayEmpty) (x : Position) (s t : State) (r : Result Step StoreFault) → IfOk r (ReclaimsOne low locks spared s t)
    → IfOk (done_reclaim r) (DidAt (heeding low locks spared may) x (HasNoFree spared s.tables) s t)
reclaims low locks spared may x s t (Ok step.Cleaned) (one, (p, is, among)) =
    freely low locks spared may x turn.Reclaimed s t one (Reclaims p) tt is tt (λ q same. subst (λ n. IsAmong (FreeOf n) (drop spared s.tables.items)) (page_same p q same) among) (λ f title left same. absurd cc) (stays p x)
reclaims low locks spared may x s t (Ok step.Nothing) did = did
reclaims low locks spared may x s t (Ok step.Beyond) did = absurd did
reclaims low locks spared may x s t (Err e) did = tt

-- ---- at an entry of the catalog

pub dies : (low : ℕ) (locks : Locks) (spared e : ℕ) (may : MayEmpty) (s t : State) (r : Result Step StoreFault) → IfOk r (MakesDeadAt low locks e s t)
    → IfOk (done_step r) (DidAt (heeding low locks spared may) (Entry e) (OwesDying low e s → ⊥) s t)
dies low locks spared e may s t (Ok step.Cleaned) (one, is) = freely low locks spared may (Entry e) turn.Cleaned s t one (MakesDead (passes_below low s.tables) e) tt is tt (λ p same. absurd cc) (λ f title left same. absurd cc) (λ takes. takes)
dies low locks spared e may s t (Ok step.Nothing) did = did
dies low locks spared e may s t (Ok step.Beyond) did = absurd did
dies low locks spared e may s t (Err e2) did = tt

pub unlinks_rows : (h : Heeded) (e b : ℕ) (s t : State) (r : Result Emptied StoreFault) → ((area_in s).title e).state ≡ 2 → IfOk r (UnlinksRowsAt e b s t)
    → IfOk (done_unlinked r) (DidAt h (Entry e) ((p : ℕ) → OwedByUnlink s.tables (area_in s) p e b → ⊥) s t)
unlinks_rows h e b s t (Ok emptied.OneRecord) dead (p, acts) = record { action = Unlinks p e b; told = tt; cleaning = dead; free = tt; spares = λ q same. absurd cc; frees = λ f title left same. absurd cc; stays = λ takes. takes; acts = acts }
unlinks_rows h e b s t (Ok emptied.Nothing) dead did = did
unlinks_rows h e b s t (Err e2) dead did = tt

pub unlinks_versions : (h : Heeded) (e : ℕ) (s t : State) (r : Result Emptied StoreFault) → ((area_in s).title e).state ≡ 2 → IfOk r (UnlinksVersionsAt e s t)
    → IfOk (done_unlinked r) (DidAt h (Entry e) (HasNoRows (area_in s) e → (p : ℕ) → OwedByOlderUnlink (area_in s) p e → ⊥) s t)
unlinks_versions h e s t (Ok emptied.OneRecord) dead (p, none, acts) = record { action = UnlinksOlder p e; told = tt; cleaning = dead; free = tt; spares = λ q same. absurd cc; frees = λ f title left same. absurd cc; stays = λ takes. takes; acts = acts }
unlinks_versions h e s t (Ok emptied.Nothing) dead did = did
unlinks_versions h e s t (Err e2) dead did = tt

pub frees_entry : (h : Heeded) (e : ℕ) (s t : State) (r : Result Emptied StoreFault) → h.may.free ≡ true → IfOk r (FreesEntryAt e s t)
    → IfOk (done_freed r) (DidAt h (Entry e) (HasNoEntryToFree e s) s t)
frees_entry h e s t (Ok emptied.OneRecord) lets (closed, acts) = record { action = _; told = tt; cleaning = tt; free = tt; spares = λ q same. absurd cc; frees = λ f title left same. lets; stays = λ takes. takes; acts = acts }
frees_entry h e s t (Ok emptied.Nothing) lets did = did
frees_entry h e s t (Err e2) lets did = tt

-- ---- bucket by bucket

-- of the buckets before one no page may leave
abbrev pub HasNoneTo : ℕ → ℕ → State → Type 0
HasNoneTo e n s = (p b : ℕ) → b < n → OwedByUnlink s.tables (area_in s) p e b → ⊥

pub none_yet : (e : ℕ) (s : State) → HasNoneTo e 0 s
none_yet e s p b lt owed = absurd (omega (arith, lt))

pub none_more : (e n m : ℕ) (s : State) → m ≡ n + 1 → ((p : ℕ) → OwedByUnlink s.tables (area_in s) p e n → ⊥) → HasNoneTo e n s → HasNoneTo e m s
none_more e n m s next here before p b lt owed = ⊎_elim
    (λ is. here p (subst (OwedByUnlink s.tables (area_in s) p e) is owed))
    (λ other. before p b (less other) owed)
    (cases_eq b n)
  where
    less : (b ≡ n → ⊥) → b < n
    less other = omega (arith, lt, next, other)

-- a table that is dead has eight buckets
pub eight : (s : State) (e : ℕ) → ((area_in s).title e).state ≡ 2 → length ((area_in s).firsts e).buckets ≡ 8
eight s e dead =
    let entry = entry_in (entry_bytes (pages_in s) e) in
    ap (λ (n : ℕ). length (cond (n == 0) no_pages (record { buckets = map (λ b. first_in b entry.bytes) bucket_numbers; versions = versions_first_in entry.bytes })).buckets) dead

pub none_all : (e n : ℕ) (s : State) → 8 ≤ n → length ((area_in s).firsts e).buckets ≡ 8 → HasNoneTo e n s → HasNoRowsToGo e s
none_all e n s all eight none p b owed = none p b (below owed.there) owed
  where
    below : b < length ((area_in s).firsts e).buckets → b < n
    below lt = omega (arith, lt, eight, all)

-- ---- an entry with a page isn't free

pub slot_taken : (s : State) (e b : ℕ) (at : Place) → IsPosition (Slot e b at) (site_of s) → ((area_in s).title e).state ≢ 0
slot_taken s e b at its none = let free = free_none (area_in s) e (pages_bounded (pages_in s)) none in no_chain (Rows e b) at.page (area_in s) free.0 free.1 its.1.0

pub kept_taken : (s : State) (e : ℕ) (at : Place) → IsPosition (Kept e at) (site_of s) → ((area_in s).title e).state ≢ 0
kept_taken s e at its none = let free = free_none (area_in s) e (pages_bounded (pages_in s)) none in no_chain (Versions e) at.page (area_in s) free.0 free.1 its.1.0

-- ---- which rows are open

-- where a session has the lock in the entry itself, the row isn't free
pub locked_here : (locks : Locks) (s : State) (e : ℕ) (key : ℤ) (holder : Option ℕ) → e < 32 → IsHolder holder e key locks → is_some holder ≡ true → IsFreeRow locks s e key → ⊥
locked_here locks s e key None lt is some free = absurd (false≢true some)
locked_here locks s e key (Some x) lt is some free = false≢true (sym (free e x lt (inl refl)) ∙ is.someone x refl)

pub is_used : (used : Bool) → not used ≡ false → used ≡ true
is_used true is = refl
is_used false is = absurd (false≢true (sym is))

module _ (locks : Locks) (e : ℕ) (s : State) where
  pub slot_said : (at : Place) (f : SlotFacts) (r : Result Bool StoreFault) → TellsSlot ((area_in s).slot at) f → f.used ≡ true → IfOk r (KeyLockSaid locks e f.key s) → IfOk r (OpenSaid locks e at s)
  slot_said at f (Ok true) tells used said = subst (λ key. KeyLockSaid locks e key s true) (sym (tells.key used)) said
  slot_said at f (Ok false) tells used said = λ is. subst (λ key. IsFreeRow locks s e key → ⊥) (sym (tells.key used)) said
  slot_said at f (Err e2) tells used said = tt

  pub older_said : (q : Place) (f : OlderFacts) (r : Result Bool StoreFault) → IsSaid ((area_in s).older q) f → f.used ≡ true → IfOk r (KeyLockSaid locks e f.key s) → IfOk r (OpenOlderSaid locks e q s)
  older_said q f (Ok true) tells used said = subst (λ key. KeyLockSaid locks e key s true) (sym (tells.key used)) said
  older_said q f (Ok false) tells used said = λ is. subst (λ key. IsFreeRow locks s e key → ⊥) (sym (tells.key used)) said
  older_said q f (Err e2) tells used said = tt

-- ---- at a slot

-- an action of a slot takes its head, or trims it
done_at : (e : ℕ) (at : Place) (a : Action) → IsDoneAt e at a → ((way : Reverting) × (a ≡ Reverts e at way)) ⊎ ((test : ℕ → Bool) × (way : Trimming) × (a ≡ Trims test e at way))
done_at e at (Reverts f b way) is = inl (way, ap (λ n. Reverts n b way) is.0 ∙ ap (λ (p : Place). Reverts e p way) is.1)
done_at e at (Trims test f b way) is = inr (test, way, ap (λ n. Trims test n b way) is.0 ∙ ap (λ (p : Place). Trims test e p way) is.1)
done_at e at (Cuts test f b q) is = absurd is
done_at e at (FreesOlder f q) is = absurd is
done_at e at (MakesDead test f) is = absurd is
done_at e at (Reclaims p) is = absurd is
done_at e at (Forgets y) is = absurd is
done_at e at (Unlinks p f b) is = absurd is
done_at e at (UnlinksOlder p f) is = absurd is
done_at e at (FreesEntry f title area) is = absurd is
done_at e at Begins is = absurd is
done_at e at (Allocates p) is = absurd is
done_at e at (Formats p h) is = absurd is
done_at e at (Links p f b) is = absurd is
done_at e at (LinksOlder p f) is = absurd is
done_at e at (Keeps f b older) is = absurd is
done_at e at (Writes m) is = absurd is
done_at e at (Creates f name columns area) is = absurd is
done_at e at (Drops f) is = absurd is
done_at e at Commits is = absurd is
done_at e at (Frees p) is = absurd is
done_at e at (Uncreates f) is = absurd is
done_at e at (Undrops f) is = absurd is
done_at e at Aborts is = absurd is
done_at e at (Checkpoints lists) is = absurd is

module _ (low : ℕ) (locks : Locks) (spared : ℕ) (may : MayEmpty) (e b : ℕ) (at : Place) (s t : State) (unlocked : KeyLockSaid locks e ((area_in s).slot at).key s true) where
  pub cleans_slot : (r : Result Step StoreFault) → IfOk r (CleansSlot low locks e at s t)
      → IfOk (done_step r) (DidAt (heeding low locks spared may) (Slot e b at) (HasNoRevert locks e at s × HasNoTrim low locks e at s) s t)
  cleans_slot (Ok step.Cleaned) (one, is) = ⊎_elim
      (λ reverts. freely low locks spared may (Slot e b at) turn.Cleaned s t one (Reverts e at reverts.0) tt reverts.1 unlocked.1 (λ p same. absurd cc) (λ f title left same. absurd cc) (λ takes. takes))
      (λ trims. freely low locks spared may (Slot e b at) turn.Cleaned s t one (Trims trims.0 e at trims.1) tt trims.2 unlocked.1 (λ p same. absurd cc) (λ f title left same. absurd cc) (λ takes. takes))
      (done_at e at one.action is)
  cleans_slot (Ok step.Nothing) did = (did.0, (did.1, did.2))
  cleans_slot (Ok step.Beyond) did = absurd did
  cleans_slot (Err e2) did = tt

  pub cuts_slot : is_live ((area_in s).title e) ≡ true → (r : Result Step StoreFault) → IfOk r (CutsAt low locks e at s t) → IfOk (done_step r) (DidAt (heeding low locks spared may) (Slot e b at) (HasNoCut low locks e at s) s t)
  cuts_slot live (Ok step.Cleaned) (one, (q, is)) = freely low locks spared may (Slot e b at) turn.Cleaned s t one (Cuts (passes_below low s.tables) e at q) tt is unlocked.1 (λ p same. absurd cc) (λ f title left same. absurd cc) (λ takes. takes)
  cuts_slot live (Ok step.Nothing) did = did
  cuts_slot live (Ok step.Beyond) did = (did.0, (live, did.1))
  cuts_slot live (Err e2) did = tt

  pub reverts_slot : (r : Result Step StoreFault) → IfOk r (RevertsAt low locks e at s t) → IfOk (done_step r) (DidAt (heeding low locks spared may) (Slot e b at) (HasNoRevert locks e at s) s t)
  reverts_slot (Ok step.Cleaned) (one, (way, is)) = freely low locks spared may (Slot e b at) turn.Cleaned s t one (Reverts e at way) tt is unlocked.1 (λ p same. absurd cc) (λ f title left same. absurd cc) (λ takes. takes)
  reverts_slot (Ok step.Nothing) did = did
  reverts_slot (Ok step.Beyond) did = absurd did
  reverts_slot (Err e2) did = tt

module _ (low : ℕ) (locks : Locks) (e : ℕ) (at : Place) (s : State) where
  pub nothing_live : IsUnlocked locks e ((area_in s).slot at).key → HasNoRevert locks e at s × HasNoTrim low locks e at s → HasNoCut low locks e at s → HasNothingInSlot low e at s
  nothing_live unlocked none uncut = record { heads = none.0 unlocked; slots = λ live. none.1 unlocked; chains = λ live. uncut unlocked }

  pub nothing_dead : is_live ((area_in s).title e) ≡ false → IsUnlocked locks e ((area_in s).slot at).key → HasNoRevert locks e at s → HasNothingInSlot low e at s
  nothing_dead isnt unlocked none = record { heads = none unlocked; slots = λ live. absurd (false≢true (sym isnt ∙ live)); chains = λ live. absurd (false≢true (sym isnt ∙ live)) }

  pub nothing_closed : (((area_in s).slot at).used ≡ true → IsFreeRow locks s e ((area_in s).slot at).key → ⊥) → IsFreeRow locks s e ((area_in s).slot at).key → HasNothingInSlot low e at s
  nothing_closed closed free = record { heads = λ way owed. closed owed.used.1 free; slots = λ live way owed. closed owed.used.1 free; chains = λ live q owed. closed owed.used.1 free }

-- ---- at a version entry

pub frees_older : (low : ℕ) (locks : Locks) (spared e : ℕ) (may : MayEmpty) (q : Place) (s t : State) → is_live ((area_in s).title e) ≡ true → KeyLockSaid locks e ((area_in s).older q).key s true → (r : Result Step StoreFault)
    → IfOk r (FreesAt low locks e q s t) → IfOk (done_step r) (DidAt (heeding low locks spared may) (Kept e q) (HasNothingAt (IsFreeRow locks s) low (Kept e q) s) s t)
frees_older low locks spared e may q s t live unlocked (Ok step.Cleaned) (one, is) = freely low locks spared may (Kept e q) turn.Cleaned s t one (FreesOlder e q) tt is unlocked.1 (λ p same. absurd cc) (λ f title left same. absurd cc) (λ takes. takes)
frees_older low locks spared e may q s t live unlocked (Ok step.Nothing) (same, none) = (same, λ lives free loose. none unlocked.0 loose)
frees_older low locks spared e may q s t live unlocked (Ok step.Beyond) (same, unseen) = (same, (live, unseen))
frees_older low locks spared e may q s t live unlocked (Err e2) did = tt

-- ---- a turn that logged a record

pub told_numbers : (old new : ℕ) (logged : Logged) → new ≡ next_done (Some (Logs logged)) old → new ≡ next_cleaned (turn_logged logged) old
told_numbers old new Cleaned is = is
told_numbers old new Unlinked is = is
told_numbers old new Reclaimed is = is

pub told_left : (k l : TablesKept) (logged : Logged) → PartLeavesRoom (Some (Logs logged)) k l → LeavesRoomBy (turn_logged logged) k l
told_left k l Cleaned is = is
told_left k l Unlinked is = is
told_left k l Reclaimed is = is

pub told_within : (may : Bool) (counted : ℕ) (logged : Logged) → IsLetGo may (Some (Logs logged)) → IsTurnWithin may counted (turn_logged logged)
told_within may counted Cleaned is = is
told_within may counted Unlinked is = is
told_within may counted Reclaimed is = is

pub told_did : (h : Heeded) (x : Position) (F : Type 0) (s t : State) (logged : Logged) → DidAt h x F s t (Some (Logs logged)) → TurnsAt h x s t (turn_logged logged)
told_did h x F s t Cleaned is = is
told_did h x F s t Unlinked is = is
told_did h x F s t Reclaimed is = is

-- ---- what is found stays

pub found_less : (free other : ℕ → ℤ → Type 0) (low : ℕ) (x : Position) (s : State) → ((e : ℕ) (key : ℤ) → other e key → free e key) → HasNothingAt free low x s → HasNothingAt other low x s
found_less free other low (Entry e) s less found = found
found_less free other low (Slot e b at) s less found = λ is. found (less e ((area_in s).slot at).key is)
found_less free other low (Kept e q) s less found = λ live is. found live (less e ((area_in s).older q).key is)
found_less free other low (Aborted n) s less found = found

-- where nothing is locked every row is free
pub found_alone : (locks : Locks) (low : ℕ) (x : Position) (s : State) → ((r f : ℕ) (key : ℤ) → session_locks r f key locks ≡ false) → HasNothingAt (IsFreeRow locks s) low x s → HasNothingAt (λ e key. Unit {0}) low x s
found_alone locks low x s none found = found_less (IsFreeRow locks s) (λ e key. Unit {0}) low x s (λ e key unlocked f r lt named. none r f key) found

pub found_grown : (free : ℕ → ℤ → Type 0) (low more : ℕ) (x : Position) (s : State) → HasNothingAt free low x s → HasNothingAt free low x (record s { counted = more })
found_grown free low more (Entry e) s found = (found.0, λ dead. let none = found.1 dead in record { rows = none.rows; versions = none.versions; entry = none.entry })
found_grown free low more (Slot e b at) s found = λ is. let none = found is in record { heads = none.heads; slots = none.slots; chains = none.chains }
found_grown free low more (Kept e q) s found = found
found_grown free low more (Aborted n) s found = found
