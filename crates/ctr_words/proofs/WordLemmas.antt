-- What a command line asks for.
use Rattle.std.proofs.Common.{◌≡◌, ◌∙◌, ◌==◌, ℕ, List, [], ◌∷◌, Bool, true, false, Option, Some, None, cond, drop, find, refl, sym, ap, ap₂, subst, arith, codes}
use Rattle.std.specs.Prelude.{IfSome, ◌≤◌, ◌&&◌, nat_le, if◌then◌else◌, option_and_then, option_map, pos, slice_get, unwrap_or}
use Rattle.std.specs.Option.{option_map_or}
use Rattle.std.specs.Str.{bytes_eq}
use Rattle.std.specs.Str.Parse.{ParsesBool, ParsesUnsigned, ExplainsUnsignedError, HasUnsignedDigitsIfOk, starts_with_minus}
use Rattle.std.proofs.lemmas.Bool.{false≢true, le-leb, leb-true}
use Rattle.std.proofs.lemmas.Int.{ints}
use Rattle.std.proofs.lemmas.Slice.Eq.{bytes_eq-Decides}
use Rattle.clap.specs.Words.{Text, Kinds, Row, IsAmong, IsSignedIn, ReadsOne, fault_of, one_of, read_as, subcommand_of, subcommand_rows_of, without_minus}
use Rattle.clap.specs.Faults.{values_fault}
use Rattle.clap.specs.Kinds.{or_else}
use Rattle.clap.specs.Walk.{row_text}
use Rattle.clap.specs.ValueTests.{accepts, is_unsigned_in}
use Rattle.clap.specs.declared.error.kind.ErrorKind.{ErrorKind}
use Rattle.clap.specs.declared.error.kind.ErrorKind.TheVariants.{ValueValidation}
use Rattle.clap.specs.declared.builder.value_parser.Reading.TheVariants.{WithoutMinus}
use Rattle.clap.specs.declared.builder.value_parser.ValueParser.TheVariants.{Signed, Unsigned}
use Rattle.clap.specs.declared.parser.matches.ArgMatches.{ArgMatches}
use Rattle.clap.proofs.ValueTestLemmas.{Accepts-accepts, accepts-Accepts}
use Rattle.ctr_words.specs.declared.words.Subcommand.{Subcommand}
use Rattle.ctr_words.specs.declared.words.Subcommand.TheVariants as asked
use Rattle.ctr_words.specs.Words.{asks_threads, command_asked, frames_asked, has_folder, keys_asked, load_asked, number_of_option, number_of_digits, number_or, command_named, simple_command, unless_fault, AreInRange}
use Rattle.ctr_words.specs.Read.{is_number, IsRunRead}
use Rattle.ctr_words.proofs.FaultFree.{Fine, frames_filled, run_fine}

abbrev wanted : Option (Text × List Row) → Bool → Kinds → Option Subcommand
wanted met folder kinds = if folder then unless_fault kinds met else None

wanted_none : (met : Option (Text × List Row)) (kind : ErrorKind) (kinds : Kinds) → IsAmong kind kinds → None ≡ wanted met true kinds
wanted_none met kind [] among = absurd among
wanted_none met kind (k ∷ kinds) among = refl

-- what is taken is the command of the subcommand that was met
pub taken : (words : List Text) (m : ArgMatches) → has_folder words ≡ true → fault_of simple_command words ≡ [] → subcommand_rows_of m ≡ subcommand_of simple_command words
    → option_and_then command_named (subcommand_rows_of m) ≡ command_asked words
taken words m folder fine rows =
    ap (option_and_then command_named) rows ∙ sym (ap₂ (wanted (subcommand_of simple_command words)) folder fine)

-- what is refused by one of the kinds is none
pub refused : (words : List Text) (kind : ErrorKind) → has_folder words ≡ true → IsAmong kind (fault_of simple_command words) → None ≡ command_asked words
refused words kind folder among =
    wanted_none (subcommand_of simple_command words) kind (fault_of simple_command words) among
    ∙ sym (ap (λ b. wanted (subcommand_of simple_command words) b (fault_of simple_command words)) folder)

-- a text that is a number of 8 to 4,096 reads as that number
one_read : (text : Text) (r : Option ℕ) → ReadsOne (λ bs x. ParsesUnsigned 16 10 bs x × ExplainsUnsignedError 10 bs x × HasUnsignedDigitsIfOk bs x) text r
    → is_unsigned_in 8 4096 text ≡ true → r ≡ Some (number_of_digits text)
one_read text (Some n) read number = ap Some read.0.1
one_read text None read number =
    let accepted = accepts-Accepts false (Unsigned 8 4096) text number in
    absurd (read.1.0 (accepted.0, omega arith))

-- what is read of the frames is what the rows ask for
pub frames_read : (text : Option Text) (rows : List Row) (r : Option ℕ) → text ≡ one_of (codes "frames") rows → (text ≡ None → r ≡ None)
    → ((t : Text) → text ≡ Some t → ReadsOne (λ bs x. ParsesUnsigned 16 10 bs x × ExplainsUnsignedError 10 bs x × HasUnsignedDigitsIfOk bs x) t r)
    → is_number rows ≡ true → unwrap_or r 64 ≡ frames_asked rows
frames_read None rows r same none some number =
    ap (λ o. unwrap_or o 64) (none refl) ∙ ap (λ o. option_map_or number_of_digits o 64) same
frames_read (Some t) rows r same none some number =
    let told : is_unsigned_in 8 4096 t ≡ true = ap (λ o. option_map_or (is_unsigned_in 8 4096) o true) same ∙ number in
    ap (λ o. unwrap_or o 64) (one_read t r (some t refl) told) ∙ ap (λ o. option_map_or number_of_digits o 64) same

-- what is read of a flag is what the rows ask for
pub threads_read : (E : Type 0) (text : Option Text) (rows : List Row) (r : Option Bool) → text ≡ one_of (codes "threads") rows → (text ≡ None → r ≡ None)
    → ((t : Text) → text ≡ Some t → ReadsOne {E = E} ParsesBool t r) → unwrap_or r false ≡ asks_threads rows
threads_read E None rows r same none some =
    ap (λ o. unwrap_or o false) (none refl) ∙ ap (λ o. option_map_or (λ t. bytes_eq t (codes "true")) o false) same
threads_read E (Some t) rows r same none some =
    by_read r (some t refl) ∙ ap (λ o. option_map_or (λ t. bytes_eq t (codes "true")) o false) same
  where
    by_read : (r : Option Bool) → ReadsOne {E = E} ParsesBool t r → unwrap_or r false ≡ bytes_eq t (codes "true")
    by_read (Some true) read = ap (λ (u : Text). bytes_eq u (codes "true")) (sym read)
    by_read (Some false) read = ap (λ (u : Text). bytes_eq u (codes "true")) (sym read)
    by_read None read = pick (bytes_eq t (codes "true")) refl
      where
        pick : (b : Bool) → bytes_eq t (codes "true") ≡ b → false ≡ b
        pick true is = absurd (read.1.0 ((bytes_eq-Decides t (codes "true")).0 is))
        pick false is = refl

-- ---- the frames of a run without a fault

without_minus-cond : (text : Text) → without_minus text ≡ cond (starts_with_minus text) (drop 1 text) text
without_minus-cond [] = refl
without_minus-cond (x ∷ xs) = pick (x == 45)
  where
    pick : (b : Bool) → unwrap_or (cond b (Some xs) None) (x ∷ xs) ≡ cond b xs (x ∷ xs)
    pick true = refl
    pick false = refl

-- a value that passed the reader is a number of 8 to 4,096, and is read as it was written
passed_number : (text : Text) → accepts false (Signed (pos 8) (pos 4096)) text ≡ true → is_unsigned_in 8 4096 (without_minus text) ≡ true
passed_number text passes = subst (λ (t : Text). is_unsigned_in 8 4096 t ≡ true) (sym (without_minus-cond text)) (go (starts_with_minus text) refl)
  where
    accepted : IsSignedIn (pos 8) (pos 4096) text
    accepted = accepts-Accepts false (Signed (pos 8) (pos 4096)) text passes

    go : (b : Bool) → starts_with_minus text ≡ b → is_unsigned_in 8 4096 (cond b (drop 1 text) text) ≡ true
    go true minus =
        let least = rw minus at accepted.2 in
        absurd (omega (arith, ints))
    go false minus =
        let numeral = rw minus at accepted.0 in
        let least = rw minus at accepted.2 in
        let most = rw minus at accepted.3 in
        Accepts-accepts false (Unsigned 8 4096) text (numeral, omega (arith, ints), omega (arith, ints), omega (arith, ints))

first_passed : (v : Text) (vs : List Text) → values_fault frames_filled (v ∷ vs) ≡ [] → accepts false (Signed (pos 8) (pos 4096)) v ≡ true
first_passed v vs fine = pick (accepts false (Signed (pos 8) (pos 4096)) v) refl fine
  where
    pick : (b : Bool) → accepts false (Signed (pos 8) (pos 4096)) v ≡ b → or_else (if b then [] else ValueValidation ∷ []) (values_fault frames_filled vs) ≡ []
        → accepts false (Signed (pos 8) (pos 4096)) v ≡ true
    pick true is e = is
    pick false is e = cc

row_number : (r : Row) → values_fault frames_filled r.values ≡ [] → r.reading ≡ WithoutMinus → option_map_or (is_unsigned_in 8 4096) (row_text r) true ≡ true
row_number r fine how = go r.values fine
  where
    go : (values : List Text) → values_fault frames_filled values ≡ [] → option_map_or (is_unsigned_in 8 4096) (option_map (read_as r.reading) (slice_get values 0)) true ≡ true
    go [] e = refl
    go (v ∷ vs) e = rw how (passed_number v (first_passed v vs e))

fine_number : (rows : List Row) → Fine rows → is_number rows ≡ true
fine_number [] fine = refl
fine_number (r ∷ rs) fine = pick (bytes_eq r.id (codes "frames")) refl (fine_number rs fine.1)
  where
    pick : (b : Bool) → bytes_eq r.id (codes "frames") ≡ b → is_number rs ≡ true
        → option_map_or (is_unsigned_in 8 4096) (option_and_then row_text (cond b (Some r) (find (λ q. bytes_eq q.id (codes "frames")) rs))) true ≡ true
    pick true is later =
        let own = fine.0 is in
        row_number r own.0 own.1
    pick false is later = later

-- so it is read
pub all_read : (words : List Text) → fault_of simple_command words ≡ [] → IfSome (subcommand_of simple_command words) IsRunRead
all_read words fault = go (subcommand_of simple_command words) refl
  where
    go : (o : Option (Text × List Row)) → subcommand_of simple_command words ≡ o → IfSome o IsRunRead
    go None is = tt
    go (Some met) is = λ run. fine_number met.1 (run_fine words fault met is run)

-- ---- 8 to 4,096

number_fits : (name : Text) (least most n : ℕ) (rows : List Row) → number_of_option name least most rows ≡ Some n → (least ≤ n) × (n ≤ most)
number_fits name least most n rows is = by_text (one_of name rows) is
  where
    by_text : (o : Option Text) → option_and_then (λ t. if is_unsigned_in least most t then Some (number_of_digits t) else None) o ≡ Some n → (least ≤ n) × (n ≤ most)
    by_text None e = absurd cc
    by_text (Some t) e = pick (is_unsigned_in least most t) refl e
      where
        pick : (b : Bool) → is_unsigned_in least most t ≡ b → (if b then Some (number_of_digits t) else None) ≡ Some n → (least ≤ n) × (n ≤ most)
        pick true told same =
            let accepted = accepts-Accepts false (Unsigned least most) t told in
            let here : number_of_digits t ≡ n = cc in
            (subst (λ m. least ≤ m) here accepted.2, subst (λ m. m ≤ most) here accepted.3)
        pick false told same = absurd cc

number_or-fits : (name : Text) (least most otherwise : ℕ) (rows : List Row) → least ≤ otherwise → otherwise ≤ most
    → (least ≤ number_or name least most otherwise rows) × (number_or name least most otherwise rows ≤ most)
number_or-fits name least most otherwise rows low high = go (number_of_option name least most rows) refl
  where
    go : (o : Option ℕ) → number_of_option name least most rows ≡ o → (least ≤ unwrap_or o otherwise) × (unwrap_or o otherwise ≤ most)
    go None is = (low, high)
    go (Some n) is = number_fits name least most n rows is

keys_fit : (rows : List Row) → keys_asked rows ≤ 1048576
keys_fit rows = (number_or-fits (codes "keys") 0 1048576 1048576 rows (omega arith) (omega arith)).1

frames_fit : (rows : List Row) → (8 ≤ number_or (codes "frames") 8 4096 64 rows) × (number_or (codes "frames") 8 4096 64 rows ≤ 4096)
frames_fit rows = number_or-fits (codes "frames") 8 4096 64 rows (omega arith) (omega arith)

asked_fits : (rows : List Row) → is_number rows ≡ true → (threads : Bool) → AreInRange (asked.Run (frames_asked rows) threads (keys_asked rows))
asked_fits rows number threads = go (one_of (codes "frames") rows) number
  where
    go : (o : Option Text) → option_map_or (is_unsigned_in 8 4096) o true ≡ true → AreInRange (asked.Run (option_map_or number_of_digits o 64) threads (keys_asked rows))
    go None e = (omega arith, omega arith, keys_fit rows)
    go (Some text) e =
        let accepted = accepts-Accepts false (Unsigned 8 4096) text e in
        (accepted.2, accepted.3, keys_fit rows)

load_fits : (rows : List Row) (s : Subcommand) → load_asked rows ≡ Some s → AreInRange s
load_fits rows s is =
    go (number_of_option (codes "sessions") 1 8 rows) (number_of_option (codes "count") 0 1000000 rows) (number_of_option (codes "seed") 0 18446744073709551615 rows)
    (λ n e. number_fits (codes "sessions") 1 8 n rows e) (λ n e. number_fits (codes "count") 0 1000000 n rows e) is
  where
    frames : ℕ
    frames = number_or (codes "frames") 8 4096 64 rows

    go : (sessions count seed : Option ℕ) → ((n : ℕ) → sessions ≡ Some n → (1 ≤ n) × (n ≤ 8)) → ((n : ℕ) → count ≡ Some n → (0 ≤ n) × (n ≤ 1000000))
        → option_and_then (λ a. option_and_then (λ b. option_map (λ c. asked.Load frames (asks_threads rows) (keys_asked rows) a b c) seed) count) sessions ≡ Some s → AreInRange s
    go None count seed g h e = absurd cc
    go (Some a) None seed g h e = absurd cc
    go (Some a) (Some b) None g h e = absurd cc
    go (Some a) (Some b) (Some c) g h e =
        let here : asked.Load frames (asks_threads rows) (keys_asked rows) a b c ≡ s = cc in
        subst AreInRange here ((frames_fit rows).0, (frames_fit rows).1, keys_fit rows, (g a refl).0, (g a refl).1, (h b refl).1)

named_fits : (met : Text × List Row) (s : Subcommand) → IsRunRead met → command_named met ≡ Some s → AreInRange s
named_fits met s read is = go (bytes_eq met.0 (codes "init")) (bytes_eq met.0 (codes "run")) (bytes_eq met.0 (codes "load")) (bytes_eq met.0 (codes "report")) refl is
  where
    go : (init run load report : Bool) → bytes_eq met.0 (codes "run") ≡ run
        → (if init then Some asked.Init else if run then Some (asked.Run (frames_asked met.1) (asks_threads met.1) (keys_asked met.1)) else if load then load_asked met.1 else if report then Some asked.Report else None) ≡ Some s → AreInRange s
    go true run load report met_run same =
        let here : asked.Init ≡ s = cc in
        subst AreInRange here tt
    go false true load report met_run same =
        let here : asked.Run (frames_asked met.1) (asks_threads met.1) (keys_asked met.1) ≡ s = cc in
        subst AreInRange here (asked_fits met.1 (read met_run) (asks_threads met.1))
    go false false true report met_run same = load_fits met.1 s same
    go false false false true met_run same =
        let here : asked.Report ≡ s = cc in
        subst AreInRange here tt
    go false false false false met_run same = cc

-- ---- the numbers of a load

-- a number that is read, and lies in a range, is what the rows ask for
pub number_read : (least most : ℕ) (text : Option Text) (rows : List Row) (name : Text) (r : Option ℕ) → text ≡ one_of name rows → (text ≡ None → r ≡ None)
    → ((t : Text) → text ≡ Some t → ReadsOne (λ bs x. ParsesUnsigned 64 10 bs x × ExplainsUnsignedError 10 bs x × HasUnsignedDigitsIfOk bs x) t r)
    → option_and_then (λ n. if nat_le least n && nat_le n most then Some n else None) r ≡ number_of_option name least most rows
number_read least most None rows name r same none some =
    ap (option_and_then (λ n. if nat_le least n && nat_le n most then Some n else None)) (none refl) ∙ ap (option_and_then (λ t. if is_unsigned_in least most t then Some (number_of_digits t) else None)) same
number_read least most (Some t) rows name r same none some =
    by_read r (some t refl) ∙ ap (option_and_then (λ t. if is_unsigned_in least most t then Some (number_of_digits t) else None)) same
  where
    by_read : (r : Option ℕ) → ReadsOne (λ bs x. ParsesUnsigned 64 10 bs x × ExplainsUnsignedError 10 bs x × HasUnsignedDigitsIfOk bs x) t r
        → option_and_then (λ n. if nat_le least n && nat_le n most then Some n else None) r ≡ (if is_unsigned_in least most t then Some (number_of_digits t) else None)
    by_read (Some n) read = pick (nat_le least n) (nat_le n most) (is_unsigned_in least most t) refl refl refl
      where
        value : n ≡ number_of_digits t
        value = read.0.1

        pick : (low high passes : Bool) → nat_le least n ≡ low → nat_le n most ≡ high → is_unsigned_in least most t ≡ passes
            → (if low && high then Some n else None) ≡ (if passes then Some (number_of_digits t) else None)
        pick true true true l h p = ap Some value
        pick true true false l h p =
            let accepted = Accepts-accepts false (Unsigned least most) t (read.0.0.0, read.0.0.1, subst (λ m. least ≤ m) value (leb-true least n l), subst (λ m. m ≤ most) value (leb-true n most h)) in
            absurd (false≢true (sym p ∙ accepted))
        pick true false true l h p =
            let accepted = accepts-Accepts false (Unsigned least most) t p in
            absurd (false≢true (sym h ∙ le-leb n most (subst (λ m. m ≤ most) (sym value) accepted.3)))
        pick false high true l h p =
            let accepted = accepts-Accepts false (Unsigned least most) t p in
            absurd (false≢true (sym l ∙ le-leb least n (subst (λ m. least ≤ m) (sym value) accepted.2)))
        pick true false false l h p = refl
        pick false high false l h p = refl
    by_read None read = pick (is_unsigned_in least most t) refl
      where
        pick : (passes : Bool) → is_unsigned_in least most t ≡ passes → None ≡ (if passes then Some (number_of_digits t) else None)
        pick true p =
            let accepted = accepts-Accepts false (Unsigned least most) t p in
            absurd (read.1.0 (accepted.0, accepted.1))
        pick false p = refl

-- what words ask for is in range
pub fits : (words : List Text) (s : Subcommand) → command_asked words ≡ Some s → AreInRange s
fits words s is = go (has_folder words) (fault_of simple_command words) (subcommand_of simple_command words) refl (all_read words) is
  where
    go : (folder : Bool) (kinds : Kinds) (met : Option (Text × List Row)) → fault_of simple_command words ≡ kinds
        → (fault_of simple_command words ≡ [] → IfSome met IsRunRead) → wanted met folder kinds ≡ Some s → AreInRange s
    go true [] (Some met) fault read same = named_fits met s (read fault) same
    go true [] None fault read same = cc
    go true (k ∷ kinds) met fault read same = cc
    go false kinds met fault read same = cc
