-- How a log goes on where its files are as they were; prefixes of what waits, and pages at home.
use Rattle.std.proofs.Common.{◌≡◌, ℕ, zero, suc, ◌+◌, nat_lt, if◌then◌else◌, Bool, true, false, List, [], ◌∷◌, ◌++◌, length, take, drop, sym, ◌∙◌, ap, subst, arith, length-append}
use Rattle.std.proofs.Math.Seq.{take-nil}
use Rattle.std.proofs.lemmas.List.{append-nil}
use Rattle.ctr_types.specs.declared.file.File.{File}
use Rattle.ctr_types.specs.declared.file.File.TheVariants.{Root as RootFile, LogA, LogB, Pages}
use Rattle.ctr_redo.specs.home_Root.{Root}
use Rattle.ctr_disk.specs.Image.{Image, content}
use Rattle.ctr_redo.specs.home_Block_TheVariants.{Page}
use Rattle.ctr_redo.specs.home_Blocks.{BlockValue, value_in, page_with, blank_page}
use Rattle.ctr_redo.specs.home_Writing.{with_body}
use Rattle.ctr_redo.specs.log_Logs.{Log, Batches, HasLog, GoesOn, batches, records}
use Rattle.ctr_redo.specs.log_Reading.{log_file}
use Rattle.ctr_redo.specs.log_Kept.{kept_log, other_file, IsDropped, HoldsLog, WritesBy, WritesBehind}
use Rattle.ctr_redo.specs.log_KeptLaws.{front_same}
use Rattle.ctr_redo.specs.rec_Record.{Record}
use Rattle.ctr_redo.specs.ctr_pool.Pages.{PageHeld}
use Rattle.ctr_redo.specs.States.{State, steps}
use Rattle.ctr_redo.specs.Images.{home_in, FoldsFront, IsLogFile}
use Rattle.ctr_redo.proofs.StateLaws.{steps-append}
use Rattle.ctr_redo.proofs.ImageLaws.{KeepsLogs, named_same, other_same}
use Rattle.ctr_base.specs.Base.{HasGate}

-- The first of a list with the first of its rest are as many of the list as both take.
pub take_split : {A : Type 0} (j k : ℕ) (l : List A)
    → take j l ++ take k (drop j l) ≡ take (j + k) l
take_split zero k l = let n : k ≡ 0 + k = omega arith in ap (λ (m : ℕ). take m l) n
take_split {A} (suc j) k [] =
    let n : suc (j + k) ≡ suc j + k = omega arith in
    ap (λ (m : List A). m) (take-nil k) ∙ sym (take-nil (suc j + k))
take_split {A} (suc j) k (x ∷ l) =
    let n : suc (j + k) ≡ suc j + k = omega arith in
    ap (λ (t : List A). x ∷ t) (take_split j k l) ∙ ap (λ (m : ℕ). take m (x ∷ l)) n

-- a function gives the same where its three values are the same
pub three : {A B C E : Type 0} (f : A → B → C → E) {a a' : A} {b b' : B} {c c' : C} → a ≡ a'
    → b ≡ b' → c ≡ c' → f a b c ≡ f a' b' c'
three f {a} {a'} {b} {b'} {c} {c'} one two thr =
    ap (λ x. f x b c) one ∙ ap (λ y. f a' y c) two ∙ ap (f a' b') thr

-- a prefix of the rest behind a prefix
pub front_of_rest : (j : ℕ) (ws : List Record) (s : State) (c : Image)
    → FoldsFront (steps (take j ws) s) (drop j ws) c → FoldsFront s ws c
front_of_rest j ws s c (k, folds) = (
  j + k,
  record {
    root = folds.root;
    sound = folds.sound;
    state_is =
        folds.state_is ∙ sym (steps-append (take j ws) (take k (drop j ws)) s)
        ∙ ap (λ (l : List Record). steps l s) (take_split j k ws);
  },
)

-- the writer's file is one of the log
file_is_log : (n : ℕ) → IsLogFile (log_file n)
file_is_log zero = tt
file_is_log (suc n) = tt

other_is_log : (n : ℕ) → IsLogFile (other_file n)
other_is_log zero = tt
other_is_log (suc n) = tt

-- the file that a writer goes on in is one of the log
pub by_is_log : (older : Bool) (file first : ℕ) (log : Log) (image : Image)
    → WritesBy older file first log image → IsLogFile log.file
by_is_log false file first log image w = subst IsLogFile (sym w.file_is) (file_is_log file)
by_is_log true file first log image w = subst IsLogFile (sym w.file_is) (other_is_log file)

-- what the writer goes on behind is held
pub writes_holds : (file first : ℕ) (log : Log) (image : Image)
    → WritesBehind file first log image → HoldsLog file first (kept_log file first image) image
writes_holds file first log image w =
    let same = front_same file first log image [] log.older w.by in
    subst (λ (l : List (List ℕ)). HoldsLog file first l image)
    (ap (λ (l : List (List ℕ)). kept_log file first image ++ l) (take-nil same.count)
    ∙ append-nil (kept_log file first image)) same.holds

-- the writer goes on where the files of the log are as they were
pub goes_on_same : {first : ℕ} {bs : Batches} (log : Log) (old new : Image)
    → content log.file new ≡ content log.file old → GoesOn first bs log old
    → GoesOn first bs log new
goes_on_same {first} {bs} log old new same goes = record {
  log_is = subst (HasLog first bs) (sym same) goes.log_is;
  start = goes.start;
  place = goes.place;
  first_is = goes.first_is;
}

by_same : (older : Bool) (file first : ℕ) (log : Log) (old new : Image) → KeepsLogs old new
    → WritesBy older file first log old → WritesBy older file first log new
by_same false file first log old new same w =
    let here : content log.file new ≡ content log.file old =
    subst (λ (f : File). content f new ≡ content f old) (sym w.file_is)
    (named_same file old new same) in
    record {
      bs = w.bs;
      file_is = w.file_is;
      goes_on = goes_on_same log old new here w.goes_on;
      holds = record {
        named = subst (HasLog first w.bs) (sym (named_same file old new same)) w.holds.named;
        short = w.holds.short;
        low = w.holds.low;
        dropped = subst (IsDropped first) (sym (other_same file old new same)) w.holds.dropped;
      };
    }
by_same true file first log old new same w =
    let next = first + length (records w.bs) in
    let here : content log.file new ≡ content log.file old =
    subst (λ (f : File). content f new ≡ content f old) (sym w.file_is)
    (other_same file old new same) in
    record {
      bs = w.bs;
      cs = w.cs;
      file_is = w.file_is;
      goes_on = goes_on_same log old new here w.goes_on;
      holds = record {
        named = subst (HasLog first w.bs) (sym (named_same file old new same)) w.holds.named;
        short = w.holds.short;
        newer = subst (HasLog next w.cs) (sym (other_same file old new same)) w.holds.newer;
        newer_short = w.holds.newer_short;
        low = w.holds.low;
      };
    }

-- the closed gate behind a log lies in its file
gate_behind : (first : ℕ) (bs : Batches) (log : Log) (image : Image) → GoesOn first bs log image
    → HasGate log image
gate_behind first bs log image goes =
    let log_is = goes.log_is.batches_are in
    let behind = log_is.gate ∷ log_is.rest in
    omega (arith, goes.place, ap length log_is.bytes_are, length-append (batches first bs) behind)

-- so it does behind one generation and behind two
pub gate_in : (file first : ℕ) (log : Log) (image : Image) → WritesBehind file first log image
    → HasGate log image
gate_in file first log image w = by log.older w.by
  where
    by : (older : Bool) → WritesBy older file first log image → HasGate log image
    by false one = gate_behind first one.bs log image one.goes_on
    by true two = gate_behind (first + length (records two.bs)) two.cs log image two.goes_on

-- The log goes on behind what is held where the files of the log are as they were.
pub writes_same : (root : Root) (log : Log) (old new : Image) → KeepsLogs old new
    → WritesBehind root.file root.first log old → WritesBehind root.file root.first log new
writes_same root log old new same w =
    record {
      numbered = w.numbered;
      by = by_same log.older root.file root.first log old new same w.by;
    }

-- a file of the log is as it was, where both are
pub log_content : (f : File) (old new : Image) → IsLogFile f → KeepsLogs old new
    → content f new ≡ content f old
log_content RootFile old new is same = absurd is
log_content LogA old new is same = same.log_a
log_content LogB old new is same = same.log_b
log_content Pages old new is same = absurd is

-- a page at home is as it was, where the file of pages is
pub home_same : (counted q : ℕ) (old new : Image) → content Pages new ≡ content Pages old
    → home_in counted new q ≡ home_in counted old q
home_same counted q old new same =
    ap
    (λ (bytes : List ℕ).
    record {
      lsn = (if nat_lt q counted then page_with (value_in (Page q) bytes)
          else blank_page).lsn;
      body = (if nat_lt q counted then page_with (value_in (Page q) bytes)
          else blank_page).bytes;
    })
    same

-- a page as the value of its block
abbrev pub value : ℕ → PageHeld → BlockValue
value p v = with_body (Page p) v.lsn v.body
