-- A generation of the log begins, and an older one goes, under pages and tables that are the fold of the log.
use Rattle.std.specs.Prelude.{IsTrue, OnOk}
use Rattle.std.proofs.Common.{◌≡◌, ◌↔◌, ℕ, ◌+◌, ◌-◌, ◌^◌, ◌<◌, ◌≤◌, Bool, false, Result, Ok, Err, List, [], ◌∷◌, ◌++◌, length, map, take, drop, Option, None, Some, refl, sym, ◌∙◌, ap, subst, arith, take-append-drop}
use Rattle.std.proofs.lemmas.List.{append-nil, take-take}
use Rattle.ctr_disk.specs.declared.disk.Disk.{Ghosts}
use Rattle.ctr_disk.specs.Image.{Image}
use Rattle.ctr_base.specs.ctr_home.declared.root.Root.{Root}
use Rattle.ctr_base.specs.ctr_home.declared.block.Block.TheVariants.{Root as RootBlock}
use Rattle.ctr_base.specs.ctr_home.Blocks.{value_of}
use Rattle.ctr_base.specs.ctr_home.Roots.{SaysRoot}
use Rattle.ctr_base.specs.log_Logs.{Log, frames}
use Rattle.ctr_base.specs.log_Kept.{IsStarted}
use Rattle.ctr_rec.specs.declared.record.Record.{Record}
use Rattle.ctr_rec.specs.declared.record.Record.TheVariants.{Checkpoint}
use Rattle.ctr_rec.specs.Read.{record_in}
use Rattle.ctr_rec.specs.Spelling.{record_bytes}
use Rattle.ctr_rec.proofs.ReadBack.{record_read}
use Rattle.ctr_base.specs.meta_Tables.{Tables}
use Rattle.ctr_base.specs.meta_Effects.{tables_of}
use Rattle.ctr_base.specs.pool_Frame.{Frame}
use Rattle.ctr_base.specs.pool_Pages.{PageHeld}
use Rattle.ctr_base.specs.pool_Frames.{frame_of, change_of, page_of, kept_or}
use Rattle.ctr_base.specs.pool_Below.{HoldsStill}
use Rattle.ctr_base.specs.pool_Over.{IsHeld}
use Rattle.ctr_base.specs.redo_Overlaid.{overlaid}
use Rattle.ctr_base.specs.redo_Images.{records_in, stored_in}
use Rattle.ctr_base.proofs.redo_Generations.{front_home}
use Rattle.ctr_base.specs.declared.base.Base.{Base}
use Rattle.ctr_base.specs.Base.{stored_of, now_of, home_of, MayPut, IsQuiet, IsSoundImage, StandsQuiet, backing_of}
use Rattle.ctr_base.specs.BaseLaws.{saves_same, holds_if}
use Rattle.ctr_base.specs.Generations.{IsCheckpoint, KeepsFold, NamesNewer, OlderIsHome}
use Rattle.ctr_disk.specs.declared.fault.StoreFault.{StoreFault}
use Rattle.ctr_store.specs.declared.parts.Parts.{Parts}
use Rattle.ctr_base.specs.meta_Kept.{TablesKept}
use Rattle.ctr_store.specs.Numbers.{NumbersLow}
use Rattle.ctr_store.specs.Parts.{IsFold, HasBuffer}
use Rattle.ctr_store.specs.Store.{View, LeavesFront}
use Rattle.ctr_store.specs.StoreInside.{view_of}
use Rattle.ctr_store.specs.Checkpoints.{SpellsTables}
use Rattle.ctr_store.specs.Generations.{CanDrop, CanEnd, ShowsSame, AddsCheckpoint, NamesCurrent}
use Rattle.ctr_store.proofs.CheckpointLaws.{spelled_fits}
use Rattle.ctr_store.proofs.BufferLaws.{empty_buffer, since_held}
use Rattle.ctr_store.proofs.NumberLaws.{numbers_more}
use Rattle.ctr_store.proofs.StoreLaws.{rests_seen}
use Rattle.ctr_store.proofs.PartsLaws.{over_held, shows_held, writes_more, goes_more}

-- a home that has records has the first of them
front_part : (p lsn n : ℕ) (l : List Record) (h : PageHeld) → overlaid p lsn l h ≡ h → overlaid p lsn (take n l) h ≡ h
front_part p lsn n l h has = front_home p lsn (take n l) (drop n l) h (ap (λ (x : List Record). overlaid p lsn x h) (take-append-drop n l) ∙ has)

module _ {D O : Type 0} (first : Image) (g : Ghosts D) where
  -- below the pool all folds to the same
  pub fold_switched : (s : Parts D O) (b : Base D O) → IsFold first g s → (IsSoundImage first → KeepsFold g s.base b) → HoldsStill (home_of g) (MayPut first g) s.base b → StandsQuiet first g b → IsFold first g (record s { base = b })
  fold_switched s b fold keeps holds rests = record {
    over = over_held first g s.pool.frames s.base b holds rests fold.over;
    tables = λ sound. fold.tables sound ∙ sym (keeps sound).tables;
    current = λ sound p. shows_held first g s.pool.frames s.base b holds p ∙ fold.current sound p ∙ sym ((keeps sound).pages p);
  }

  -- ---- room for a record

  module _ (a : Base D O) (n : ℕ) where
    abbrev roomy : Base D O
    roomy = record a { log = record a.log { room = n } }

    quiet_room : IsQuiet g a → IsQuiet g roomy
    quiet_room quiet = record {
      only = quiet.only;
      sound = quiet.sound;
      writes = record { numbered = quiet.writes.numbered; by = writes_more a.log.older a.root.file a.root.first a.log (g.reads a.disk) a.log.buffered n quiet.writes.by };
      follows = quiet.follows;
      durable = quiet.durable;
      first = quiet.first;
    }

    rests_room : StandsQuiet first g a → StandsQuiet first g roomy
    rests_room rests = record {
      stands = record { says = rests.stands.says; file = rests.stands.file; goes_on = goes_more (g.reads a.disk) a.log a.log.buffered n rests.stands.goes_on; size = rests.stands.size; starts = rests.stands.starts };
      since = rests.since;
      quiet = λ sound. quiet_room (rests.quiet sound);
    }

    holds_room : HoldsStill (home_of g) (MayPut first g) a roomy
    holds_room = holds_if g first a roomy refl (λ q. refl) (λ sound. record { same = λ q. refl; still = λ q since v may. saves_same g a roomy q since v refl refl refl may })

    keeps_room : KeepsFold g a roomy
    keeps_room = record { homes = λ q. refl; hardened = refl; now = refl; tables = refl; pages = λ q. refl }

  pub fold_room : (s : Parts D O) (n : ℕ) → IsFold first g s → IsFold first g (record s { base = record s.base { log = record s.base.log { room = n } } })
  fold_room s n fold = fold_switched s (roomy s.base n) fold (λ sound. keeps_room s.base n) (holds_room s.base n) (rests_room s.base n fold.over.at_rest)

  -- ---- a generation begins

  -- the Checkpoint of the tables can begin one
  pub is_checkpoint_of : (s : Parts D O) (bytes : List ℕ) → IsFold first g s → IsSoundImage first → s.base.log.buffered ≡ [] → SpellsTables s.meta.tables bytes → IsCheckpoint g s.base bytes
  is_checkpoint_of s bytes fold sound none spelled =
      let rs = (stored_of g s.base).records in
      let all : (now_of g s.base).records ≡ rs = ap (λ (l : List (List ℕ)). rs ++ records_in l) none ∙ append-nil rs in
      let tables : s.meta.tables ≡ tables_of rs = fold.tables sound ∙ ap tables_of all in
      let fits = spelled_fits s.base.root.pages (tables_of rs) bytes (subst (λ (t : Tables). SpellsTables t bytes) tables spelled) in
      record { fits = fits.0; number = fits.1; keeps = fits.2 }

  -- ---- the older one goes

  module _ (s : Parts D O) (fold : IsFold first g s) (sound : IsSoundImage first) (can : CanDrop s) (p : ℕ) where
    abbrev a : Base D O
    a = s.base

    abbrev h : PageHeld
    h = home_of g a p

    abbrev rs : List Record
    rs = (now_of g a).records

    abbrev n : ℕ
    n = a.log.start - a.root.first

    abbrev Home : Type 0
    Home = overlaid p a.root.first (take n rs) h ≡ h

    -- a page without changes has all records at home
    clean_home : h ≡ overlaid p a.root.first rs h → Home
    clean_home all = front_part p a.root.first n rs h (sym all)

    -- one that was changed since has those below
    late_home : (since : ℕ) → a.log.start ≤ since → overlaid p a.root.first (take (since - a.root.first) rs) h ≡ h → Home
    late_home since late has =
        let m = since - a.root.first in
        ap (λ (l : List Record). overlaid p a.root.first l h) (sym (take-take n m rs (omega (arith, late)))) ∙ front_part p a.root.first n (take m rs) h has

    by_since : (f : Frame) → frame_of p s.pool.frames ≡ Some f → (x : Option ℕ) → f.since ≡ x → IsHeld (backing_of first g) a p (page_of f) x → Home
    by_since f is None since held = clean_home (sym held ∙ sym (ap (kept_or h) is) ∙ fold.current sound p)
    by_since f is (Some x) since may = late_home x (can.1 p x (ap change_of is ∙ since)) (may.sound sound).behind

    by_frame : (o : Option Frame) → frame_of p s.pool.frames ≡ o → Home
    by_frame None is = clean_home (sym (ap (kept_or h) is) ∙ fold.current sound p)
    by_frame (Some f) is = by_since f is f.since refl (fold.over.held p f is)

    older_at : Home
    older_at = by_frame (frame_of p s.pool.frames) refl

  pub older_home : (s : Parts D O) → IsFold first g s → IsSoundImage first → CanDrop s → OlderIsHome g s.base
  older_home s fold sound can p = older_at s fold sound can p

-- ---- what callers see

-- what holds of an answer that is Ok
pub ok_of : {T E P : Type 0} (r : Result T E) (x : T) → r ≡ Ok x → OnOk r P → P
ok_of {T} {E} {P} r x is holds = subst (λ (q : Result T E). OnOk q P) is holds

pub buffer_room : (old l : Log) → l ≡ record old { room = l.room } → old.room ≤ l.room → HasBuffer old → HasBuffer l
buffer_room old l same more has =
    let size = has.size in
    subst HasBuffer (sym same) (record { size = omega (arith, size, more); most = has.most; spelled = has.spelled })

pub numbers_room : (old l : Log) (t : Tables) → l ≡ record old { room = l.room } → NumbersLow (old.first + length old.buffered) t → NumbersLow (l.first + length l.buffered) t
numbers_room old l t same numbers = subst (λ (x : Log). NumbersLow (x.first + length x.buffered) t) (sym same) numbers

-- where no record waits none does in the buffer
pub nothing_waits : (log : Log) → HasBuffer log → records_in log.buffered ≡ [] → log.buffered ≡ []
nothing_waits log has none = sym has.spelled ∙ ap (λ (l : List Record). map record_bytes l) none

pub buffer_older : (old : Log) → HasBuffer old → HasBuffer (record old { older = false })
buffer_older old has = record { size = has.size; most = has.most; spelled = has.spelled }

-- what an older one leaves that goes, or doesn't
pub buffer_named : {D O T : Type 0} (a b : Base D O) (r : Result T StoreFault) → NamesNewer a b r → HasBuffer a.log → HasBuffer b.log
buffer_named a b (Ok x) names has = subst HasBuffer (sym names.log) (buffer_older a.log has)
buffer_named {D} {O} a b (Err e) names has = subst (λ (x : Base D O). HasBuffer x.log) (sym names.still) has

pub numbers_named : {D O T : Type 0} (s t : Parts D O) (r : Result T StoreFault) → NamesNewer s.base t.base r → t.meta ≡ s.meta → NumbersLow (s.base.log.first + length s.base.log.buffered) s.meta.tables → NumbersLow (t.base.log.first + length t.base.log.buffered) t.meta.tables
numbers_named s t (Ok x) names meta low = subst (λ (k : TablesKept). NumbersLow (t.base.log.first + length t.base.log.buffered) k.tables) (sym meta) (subst (λ (l : Log). NumbersLow (l.first + length l.buffered) s.meta.tables) (sym names.log) low)
numbers_named {D} {O} s t (Err e) names meta low = subst (λ (k : TablesKept). NumbersLow (t.base.log.first + length t.base.log.buffered) k.tables) (sym meta) (subst (λ (x : Base D O). NumbersLow (x.log.first + length x.log.buffered) s.meta.tables) (sym names.still) low)

pub buffer_begun : (old new : Log) → HasBuffer old → old.buffered ≡ [] → IsStarted old new → old.room ≤ new.room → HasBuffer new
buffer_begun old new has none started more =
    let size = has.size in
    empty_buffer new (started.empty, omega (arith, size, more, ap (λ (l : List (List ℕ)). length (frames l)) none))

module _ {D O : Type 0} (first : Image) (g : Ghosts D) where
  -- between two calls
  pub still_leaves : ((d : D) (c : Image) → g.since d (g.moment_of d) c → g.images d c) → (s : Parts D O) (b : Bool) (v : View D) → view_of g s b ≡ v → HasBuffer s.base.log → IsFold first g s → IsSoundImage first → LeavesFront g v v
  still_leaves only_now s b v is has fold sound = subst (λ (w : View D). LeavesFront g w w) is (rests_seen g first only_now s b has fold sound)

  pub still_shows : ((d : D) (c : Image) → g.since d (g.moment_of d) c → g.images d c) → (s : Parts D O) (b : Bool) (v : View D) → view_of g s b ≡ v → HasBuffer s.base.log → IsFold first g s → IsSoundImage first → ShowsSame g v v
  still_shows only_now s b v is has fold sound = record { hardened = refl; now = refl; durable = still_leaves only_now s b v is has fold sound }

  -- behind a change below that folds to the same
  pub same_shown : ((d : D) (c : Image) → g.since d (g.moment_of d) c → g.images d c) → (s t : Parts D O) (b k : Bool) → HasBuffer t.base.log → KeepsFold g s.base t.base → IsFold first g t → IsSoundImage first → ShowsSame g (view_of g s b) (view_of g t k)
  same_shown only_now s t b k has keeps fold sound = record { hardened = keeps.hardened; now = keeps.now; durable = rests_seen g first only_now t k has fold sound }

  -- the root that is said where nothing is pending
  said : (t : Parts D O) → IsFold first g t → IsSoundImage first → SaysRoot (value_of RootBlock (g.reads t.base.disk)) t.base.root
  said t fold sound = (fold.over.at_rest.quiet sound).sound.says

  -- ---- room

  -- callers don't see a writer's room
  pub view_room : (s : Parts D O) (l : Log) (b : Bool) → l ≡ record s.base.log { room = l.room } → view_of g (record s { base = record s.base { log = l } }) b ≡ view_of g s b
  view_room s l b same = ap (λ (x : Log). view_of g (record s { base = record s.base { log = x } }) b) same

  pub fold_reserved : (s : Parts D O) (l : Log) → l ≡ record s.base.log { room = l.room } → IsFold first g s → IsFold first g (record s { base = record s.base { log = l } })
  fold_reserved s l same fold = subst (λ (x : Log). IsFold first g (record s { base = record s.base { log = x } })) (sym same) (fold_room first g s l.room fold)

  -- ---- a generation began

  pub numbers_begun : (s t : Parts D O) → s.base.log.buffered ≡ [] → IsStarted s.base.log t.base.log → t.meta ≡ s.meta → s.base.log.first + length s.base.log.buffered < 2 ^ 63 - 1 → NumbersLow (s.base.log.first + length s.base.log.buffered) s.meta.tables
      → NumbersLow (t.base.log.first + length t.base.log.buffered) t.meta.tables
  numbers_begun s t none started meta low numbers =
      let lsn = s.base.log.first + length s.base.log.buffered in
      let next : lsn + 1 ≡ t.base.log.first + length t.base.log.buffered = omega (arith, started.next, ap (λ (l : List (List ℕ)). length l) none, ap (λ (l : List (List ℕ)). length l) started.empty) in
      subst (λ (k : TablesKept). NumbersLow (t.base.log.first + length t.base.log.buffered) k.tables) (sym meta)
      (subst (λ (n : ℕ). NumbersLow n s.meta.tables) next (numbers_more lsn s.meta.tables numbers.0, omega (arith, low)))

  pub adds_seen : (s t : Parts D O) (b k : Bool) (bytes : List ℕ) → IsFold first g t → IsSoundImage first → t.base.root ≡ s.base.root → (stored_of g t.base).records ≡ (stored_of g s.base).records ++ record_in bytes ∷ [] → SpellsTables s.meta.tables bytes
      → AddsCheckpoint g (view_of g s b) (view_of g t k)
  adds_seen s t b k bytes fold sound root added spelled =
      let r = Checkpoint s.meta.tables.next spelled.lists in
      let tells : record_in bytes ≡ r = ap record_in spelled.bytes_are ∙ record_read r spelled.logged.record_is in
      record {
        root = t.base.root;
        says = said t fold sound;
        next = s.meta.tables.next;
        lists = spelled.lists;
        added = added ∙ ap (λ (x : Record). (stored_of g s.base).records ++ x ∷ []) tells ∙ ap (λ (q : Root). (stored_in q (g.reads s.base.disk)).records ++ r ∷ []) (sym root);
        lists_are = spelled.listed_are;
      }

  -- ---- the older one went

  pub can_seen : (s : Parts D O) (b : Bool) → CanDrop s → CanEnd (view_of g s b)
  can_seen s b can = (can.0, λ p since is. can.1 p since (sym (since_held p s.pool.frames) ∙ is))

  pub can_told : (s : Parts D O) (b : Bool) → CanEnd (view_of g s b) → CanDrop s
  can_told s b can = (can.0, λ p since is. can.1 p since (since_held p s.pool.frames ∙ is))

  pub can_iff : (s : Parts D O) (b : Bool) (v : View D) → view_of g s b ≡ v → (r k : Bool) → r ≡ k → IsTrue r ↔ CanDrop s → IsTrue k ↔ CanEnd v
  can_iff s b v is r k same tells =
      subst (λ (x : Bool). IsTrue x ↔ CanEnd v) same (subst (λ (w : View D). IsTrue r ↔ CanEnd w) is (λ yes. can_seen s b (tells.0 yes), λ can. tells.1 (can_told s b can)))

  pub names_seen : (s t : Parts D O) (b k : Bool) → IsFold first g s → IsFold first g t → IsSoundImage first → t.base.root.first ≡ s.base.log.start → t.base.log ≡ record s.base.log { older = false }
      → (stored_of g t.base).records ≡ drop (s.base.log.start - s.base.root.first) (stored_of g s.base).records → NamesCurrent g (view_of g s b) (view_of g t k)
  names_seen s t b k was fold sound start log left =
      let same : t.base.log.start ≡ s.base.log.start = ap (λ (l : Log). l.start) log in
      record {
        root = t.base.root;
        says = said t fold sound;
        first = start ∙ sym same;
        old = s.base.root;
        said = said s was sound;
        left = left ∙ ap (λ (n : ℕ). drop (n - s.base.root.first) (stored_of g s.base).records) (sym same);
      }
