-- Where `clap` finds no fault in the words of a run, a value of `frames` has passed its reader: kept from word to word.
use Rattle.std.proofs.Common.{◌≡◌, ◌∙◌, ◌++◌, ℕ, zero, suc, length, List, [], ◌∷◌, Bool, true, false, Option, Some, None, cond, find, fold, is_some, refl, sym, ap, subst, codes, ◌&&◌}
use Rattle.std.specs.Prelude.{⊤, if◌then◌else◌, option_map, slice_get, drop, encode_utf8}
use Rattle.std.specs.Option.{option_map_or}
use Rattle.std.specs.Str.{bytes_eq, chars}
use Rattle.std.proofs.lemmas.Slice.Eq.{bytes_eq-Decides}
use Rattle.clap.specs.Facts.{parser_of_value}
use Rattle.clap.specs.Kinds.{Kinds, or_else, range_kinds, value_kinds}
use Rattle.clap.specs.Faults.{action_fault, bundle_fault, bundle_step_fault, check_fault, defaults_fault, entered_fault, fault_of, flag_word_fault, flags_fault, level_fault, long_fault, option_fault, other_fault, positional_fault, react_fault, repeat_fault, settle_fault, short_fault, step_fault, stray_fault, turn_fault, use_fault, values_fault, walk_fault, word_fault}
use Rattle.clap.specs.Lexer.{long_of, short_of}
use Rattle.clap.specs.Simple.{Shape, argument_words, built, entered, filled, help_rule, label_of, names_of, rows_at, subcommand_of, with_index}
use Rattle.clap.specs.Walk.{Held, Names, Outcome, Row, Rule, Step, Text, Waiting, Walk, after_flag, after_step, answers_to, arg_by_id, arg_by_index, arg_by_long, arg_by_short, at_row, attached_value, bundle, bundle_met, bundle_step, default_rows, done, finished, flag_met, has_row, idle, is_pending, long_met, long_or_other, more_values, next, nothing_held, option, option_met, option_word, plain, plain_word, positional, reacted, reading_by, refused, rows_after, settled, settled_rows, short_met, short_or_plain, subcommand, subcommand_met, subcommand_or_other, to_positional, takes_several, takes_values, trailing, used, used_by_id, value, values_or_missing, waits, walk, walk_from, walked, walked_from, with_default, with_values, without, word_met}
use Rattle.clap.specs.declared.builder.action.ArgAction.TheVariants.{Set}
use Rattle.clap.specs.declared.builder.value_parser.Reading.{Reading}
use Rattle.clap.specs.declared.error.kind.ErrorKind.TheVariants as kind
use Rattle.clap.specs.declared.parser.matches.ValueSource.{ValueSource}
use Rattle.clap.specs.declared.parser.matches.ValueSource.TheVariants.{CommandLine, DefaultValue}
use Rattle.clap.specs.Words.{new_rule}
use Rattle.clap.proofs.FaultLemmas.{past}
use Rattle.ctr_words.specs.Words.{frames_rule, threads_rule, keys_rule, simple_command}

-- a step that has no fault where the first has none
none : (a b : Kinds) → or_else a b ≡ [] → (a ≡ []) × (b ≡ [])
none [] b h = (refl, h)
none (k ∷ ks) b h = cc

-- ---- rows

-- the arguments of a run as `clap` completes them
abbrev pub frames_filled : Rule
frames_filled = filled frames_rule

abbrev threads_filled : Rule
threads_filled = filled threads_rule

abbrev keys_filled : Rule
keys_filled = filled keys_rule

abbrev folder_filled : Rule
folder_filled = with_index 1 (filled (record (new_rule (codes "DIR")) { required = true }))

abbrev help_filled : Rule
help_filled = filled help_rule

-- a row of `frames` has values that passed its reader
abbrev pub FineRow : Row → Type 0
FineRow r = bytes_eq r.id (codes "frames") ≡ true → (values_fault frames_filled r.values ≡ []) × (r.reading ≡ reading_by frames_filled)

abbrev pub Fine : List Row → Type 0
Fine [] = ⊤
Fine (r ∷ rs) = FineRow r × Fine rs

fine_more : (xs ys : List Row) → Fine xs → Fine ys → Fine (xs ++ ys)
fine_more [] ys fine more = more
fine_more (x ∷ xs) ys fine more = (fine.0, fine_more xs ys fine.1 more)

fine_at : (id : Text) (change : Row → List Row) (missing rows : List Row) → ((r : Row) → bytes_eq r.id id ≡ true → FineRow r → Fine (change r)) → Fine missing → Fine rows
    → Fine (at_row id change missing rows)
fine_at id change missing [] changes absent fine = absent
fine_at id change missing (r ∷ rs) changes absent fine = pick (bytes_eq r.id id) refl (fine_at id change missing rs changes absent fine.1)
  where
    pick : (b : Bool) → bytes_eq r.id id ≡ b → Fine (at_row id change missing rs) → Fine (if b then change r ++ rs else r ∷ at_row id change missing rs)
    pick true is later = fine_more (change r) rs (changes r is fine.0) fine.1
    pick false is later = (fine.0, later)

fine_without : (id : Text) (rows : List Row) → Fine rows → Fine (without id rows)
fine_without id rows fine = fine_at id (λ _. []) [] rows (λ r is kept. tt) tt fine

values_more : (xs ys : List Text) → values_fault frames_filled xs ≡ [] → values_fault frames_filled ys ≡ [] → values_fault frames_filled (xs ++ ys) ≡ []
values_more [] ys h more = more
values_more (v ∷ vs) ys h more =
    let parts = none (value_kinds false (parser_of_value frames_filled.parser) v) (values_fault frames_filled vs) h in
    past _ _ parts.0 ∙ values_more vs ys parts.1 more

fine_values : (id : Text) (how : Reading) (s : ValueSource) (values : List Text) (rows : List Row)
    → (bytes_eq id (codes "frames") ≡ true → (values_fault frames_filled values ≡ []) × (how ≡ reading_by frames_filled)) → Fine rows → Fine (with_values id how s values rows)
fine_values id how s values rows passed fine = fine_at id (more_values s values) (record {
  id = id;
  values = values;
  count = None;
  source = Some s;
  reading = how;
} ∷ []) rows (λ r same kept. (more r same kept, tt)) (passed, tt) fine
  where
    more : (r : Row) → bytes_eq r.id id ≡ true → FineRow r → bytes_eq r.id (codes "frames") ≡ true
        → (values_fault frames_filled (r.values ++ values) ≡ []) × (r.reading ≡ reading_by frames_filled)
    more r same kept is =
        let own = kept is in
        let given = passed (subst (λ (t : Text). bytes_eq t (codes "frames") ≡ true) ((bytes_eq-Decides r.id id).0 same) is) in
        (values_more r.values values own.0 given.0, own.1)

-- ---- uses

-- a use of the argument without a fault keeps them
abbrev Keeps : Rule → Type 0
Keeps a = (again : Bool) (values : List Text) (rows : List Row) → use_fault again a values rows ≡ [] → Fine rows → Fine (used a values rows)

another : {X : Type 0} → false ≡ true → X
another e = cc

-- the values of an argument of another name keep them
other_values : (a : Rule) → bytes_eq a.id (codes "frames") ≡ false → (values : List Text) (rows : List Row) → Fine rows
    → Fine (with_values a.id (reading_by a) CommandLine (values_or_missing a values) (without a.id rows))
other_values a other values rows fine =
    fine_values a.id (reading_by a) CommandLine (values_or_missing a values) (without a.id rows) (λ is. another (sym other ∙ is)) (fine_without a.id rows fine)

folder_keeps : Keeps folder_filled
folder_keeps again values rows h fine = other_values folder_filled refl values rows fine

threads_keeps : Keeps threads_filled
threads_keeps again values rows h fine = other_values threads_filled refl values rows fine

keys_keeps : Keeps keys_filled
keys_keeps again values rows h fine = other_values keys_filled refl values rows fine

frames_keeps : Keeps frames_filled
frames_keeps again values rows h fine =
    let given = values_or_missing frames_filled values in
    let acted = (none (range_kinds 1 1 (length values)) (action_fault Set again frames_filled given rows) h).1 in
    let passed = (none (repeat_fault again (codes "frames") rows) (values_fault frames_filled given) acted).1 in
    fine_values (codes "frames") (reading_by frames_filled) CommandLine given (without (codes "frames") rows)
    (λ is. (passed, refl)) (fine_without (codes "frames") rows fine)

help_keeps : Keeps help_filled
help_keeps again values rows h fine = fine

-- its default values keep them
abbrev Defaults : Rule → Type 0
Defaults a = (rows : List Row) → Fine rows → Fine (with_default rows a)

without_defaults : (a : Rule) → a.defaults ≡ [] → Defaults a
without_defaults a empty rows fine = pick (has_row a.id rows)
  where
    pick : (b : Bool) → Fine (if b then rows else default_rows a.id (reading_by a) a.defaults rows)
    pick true = fine
    pick false = rw empty fine

threads_default : Defaults threads_filled
threads_default rows fine = pick (has_row (codes "threads") rows)
  where
    pick : (b : Bool) → Fine (if b then rows else default_rows (codes "threads") (reading_by threads_filled) threads_filled.defaults rows)
    pick true = fine
    pick false = fine_values (codes "threads") (reading_by threads_filled) DefaultValue threads_filled.defaults rows (λ is. let bad : false ≡ true = is in cc) fine

abbrev EachKeeps : List Rule → Type 0
EachKeeps [] = ⊤
EachKeeps (a ∷ rest) = Keeps a × Defaults a × EachKeeps rest

abbrev KeepsIfAny : Option Rule → Type 0
KeepsIfAny None = ⊤
KeepsIfAny (Some a) = Keeps a

found : (test : Rule → Bool) (xs : List Rule) → EachKeeps xs → KeepsIfAny (find test xs)
found test [] keep = tt
found test (x ∷ xs) keep = pick (test x) (found test xs keep.2)
  where
    pick : (b : Bool) → KeepsIfAny (find test xs) → KeepsIfAny (cond b (Some x) (find test xs))
    pick true later = keep.0
    pick false later = later

-- ---- words

module _ (c : List Rule) (keep : EachKeeps c) (again : Bool) where
  settles : (h : Held) → settle_fault c again h ≡ [] → Fine h.rows → Fine (settled c h).rows
  settles h fault fine = go h.pending fault
    where
      by_id : (o : Option Rule) → KeepsIfAny o → (values : List Text) → option_map_or (λ a. use_fault again a values h.rows) o [] ≡ [] → Fine (used_by_id o values h.rows)
      by_id None k values e = fine
      by_id (Some a) k values e = k again values h.rows e fine

      go : (p : Option (Text × List Text)) → option_map_or (λ q. option_map_or (λ a. use_fault again a q.1 h.rows) (arg_by_id c q.0) []) p [] ≡ []
          → Fine (settled_rows c p h.rows)
      go None e = fine
      go (Some p) e = by_id (arg_by_id c p.0) (found (λ a. bytes_eq a.id p.0) c keep) p.1 e

  reacts : (a : Rule) → Keeps a → (values : List Text) (h : Held) → react_fault c again a values h ≡ [] → Fine h.rows → Fine (reacted c a values h).rows
  reacts a k values h e fine =
      let parts = none (settle_fault c again h) (use_fault again a values (settled c h).rows) e in
      k again values (settled c h).rows parts.1 (settles h parts.0 fine)

  options : (a : Rule) → Keeps a → (v : Option Text) (h : Held) → option_fault c again a v h ≡ [] → Fine h.rows → Fine (option_met c a v h).0.rows
  options a k (Some v) h e fine = reacts a k (v ∷ []) h e fine
  options a k None h e fine = settles h e fine

  longs : (o : Option Rule) → KeepsIfAny o → (v : Option Text) (h : Held) → long_fault c again o v h ≡ [] → Fine h.rows → Fine (long_met c o v h).0.rows
  longs None k v h e fine = fine
  longs (Some a) k v h e fine = go (takes_values a) v e
    where
      go : (b : Bool) (v : Option Text) → (if b then option_fault c again a v h else (if is_some v then kind.TooManyValues ∷ [] else react_fault c again a [] h)) ≡ []
          → Fine (if b then option_met c a v h else flag_met c a v h).0.rows
      go true v e = options a k v h e fine
      go false (Some v) e = fine
      go false None e = reacts a k [] h e fine

  shorts : (o : Option Rule) → KeepsIfAny o → (rest : Text) (h : Held) (fault : Held → Kinds) (met : Held → Held × Outcome)
      → ((g : Held) → fault g ≡ [] → Fine g.rows → Fine (met g).0.rows) → short_fault c again o rest h fault ≡ [] → Fine h.rows → Fine (short_met c o rest h met).0.rows
  shorts None k rest h fault met later e fine = fine
  shorts (Some a) k rest h fault met later e fine = go (takes_values a) e
    where
      go : (b : Bool) → (if b then option_fault c again a (attached_value rest) h else or_else (react_fault c again a [] h) (fault (reacted c a [] h))) ≡ []
          → Fine (if b then option_met c a (attached_value rest) h else met (reacted c a [] h)).0.rows
      go true e = options a k (attached_value rest) h e fine
      go false e =
          let parts = none (react_fault c again a [] h) (fault (reacted c a [] h)) e in
          later (reacted c a [] h) parts.1 (reacts a k [] h parts.0 fine)

  letters : (x : Option ℕ) (flags : Text) (skip : ℕ) (so_far : Outcome) (h : Held) (fault : Text → ℕ → Held → Kinds) (met : Text → ℕ → Outcome → Held → Held × Outcome)
      → ((rest : Text) (skip : ℕ) (so_far : Outcome) (g : Held) → fault rest skip g ≡ [] → Fine g.rows → Fine (met rest skip so_far g).0.rows)
      → bundle_step_fault c again x flags skip h fault ≡ [] → Fine h.rows → Fine (bundle_step c x flags skip so_far h met).0.rows
  letters None flags skip so_far h fault met later e fine = fine
  letters (Some x) flags zero so_far h fault met later e fine =
      let rest = drop (length (encode_utf8 x)) flags in
      shorts (arg_by_short c x) (found _ c keep) rest h (fault rest 0) (met rest 0 done) (λ g passed kept. later rest 0 done g passed kept) e fine
  letters (Some x) flags (suc skip) so_far h fault met later e fine = later (drop (length (encode_utf8 x)) flags) skip so_far h e fine

  bundles : (k : ℕ) (flags : Text) (skip : ℕ) (so_far : Outcome) (h : Held) → flags_fault c again k flags skip h ≡ [] → Fine h.rows
      → Fine (bundle_met c k flags skip so_far h).0.rows
  unfolding bundle_met flags_fault
  bundles zero flags skip so_far h e fine = fine
  bundles (suc k) flags skip so_far h e fine = letters (slice_get (chars flags) 0) flags skip so_far h (flags_fault c again k) (bundle_met c k) (bundles k) e fine

  plainly : (waiting : Waiting) (word : Text) (h : Held) → Fine h.rows → Fine (plain_word c waiting word h).0.rows
  plainly (option id) word h fine = go (arg_by_id c id)
    where
      go : (o : Option Rule) → Fine (option_word o id word h).0.rows
      go None = fine
      go (Some a) = fine
  plainly idle word h fine = fine
  plainly positional word h fine = fine

  after : (waiting : Waiting) (word : Text) (h : Held) (o : Outcome) → Fine h.rows → Fine (after_flag c waiting word h o).0.rows
  after waiting word h done fine = fine
  after waiting word h (waits id) fine = fine
  after waiting word h plain fine = plainly waiting word h fine
  after waiting word h refused fine = plainly waiting word h fine

  flagged : (waiting : Waiting) (word : Text) (h : Held) → flag_word_fault c again (long_of word) word h ≡ [] → Fine h.rows
      → Fine (long_or_other c waiting word (long_of word) h).0.rows
  flagged waiting word h fault fine = go (long_of word) fault
    where
      short : (o : Option Text) → option_map_or (λ flags. bundle_fault c again flags h) o [] ≡ [] → Fine (short_or_plain c waiting word o h).0.rows
      short None e = plainly waiting word h fine
      short (Some flags) e =
          after waiting word (bundle c flags h).0 (bundle c flags h).1 (bundles (length flags) flags h.skip plain (record h { skip = 0 }) e fine)

      go : (o : Option (Text × Option Text)) → flag_word_fault c again o word h ≡ [] → Fine (long_or_other c waiting word o h).0.rows
      go (Some p) e =
          let met = long_met c (arg_by_long c p.0) p.1 h in
          after waiting word met.0 met.1 (longs (arg_by_long c p.0) (found _ c keep) p.1 h e fine)
      go None e = short (short_of word) e

-- ---- the walk

module _ (s : Shape) (keep : EachKeeps s.rules) where
  words_met : (names : Names) (is_trailing : Bool) (waiting : Waiting) (position : ℕ) (word : Text) (h : Held) → word_fault s names is_trailing waiting word h ≡ [] → Fine h.rows
      → Fine (word_met s.rules names is_trailing waiting position word h).0.rows
  words_met names true waiting position word h fault fine = fine
  words_met names false waiting position word h fault fine = go (subcommand_met names waiting word) fault
    where
      dashes : (b : Bool) → (if b then [] else flag_word_fault s.rules s.args_override_self (long_of word) word h) ≡ []
          → Fine (if b then (h, trailing position) else long_or_other s.rules waiting word (long_of word) h).0.rows
      dashes true e = fine
      dashes false e = flagged s.rules keep s.args_override_self waiting word h e fine

      go : (o : Option Text) → other_fault s o word h ≡ [] → Fine (subcommand_or_other s.rules o waiting position word h).0.rows
      go (Some name) e = fine
      go None e = dashes (bytes_eq word (45 ∷ 45 ∷ [])) e

  placed : (w : Walk) (word : Text) (h : Held) (step : Step) → step_fault s w.position h step ≡ [] → Fine h.rows → Fine (after_step s.rules word w h step).held.rows
  placed w word h (next waiting) fault fine = fine
  placed w word h (trailing position) fault fine = fine
  placed w word h (subcommand name) fault fine = fine
  placed w word h value fault fine = go (arg_by_index s.rules w.position) fault
    where
      pick : (b : Bool) → (if b then [] else settle_fault s.rules s.args_override_self h) ≡ [] → Fine (if b then h else settled s.rules h).rows
      pick true e = fine
      pick false e = settles s.rules keep s.args_override_self h e fine

      go : (o : Option Rule) → option_map_or (λ a. positional_fault s.rules s.args_override_self a h) o (stray_fault s) ≡ []
          → Fine (to_positional s.rules o word w h).held.rows
      go None e = fine
      go (Some a) e = pick (is_pending a h.pending && takes_several a) e

  turns : (names : Names) (w : Walk) (word : Text) → turn_fault s names w word ≡ [] → Fine w.held.rows → Fine (walked s.rules names w word).held.rows
  unfolding walked
  turns names w word fault fine = go w.stopped fault
    where
      go : (o : Option (Text × List Text)) → (if is_some o then [] else or_else (word_fault s names w.is_trailing w.waiting word w.held)
          (step_fault s w.position (word_met s.rules names w.is_trailing w.waiting w.position word w.held).0
          (word_met s.rules names w.is_trailing w.waiting w.position word w.held).1)) ≡ []
          → Fine (walked_from s.rules names o w word).held.rows
      go (Some p) e = fine
      go None e =
          let met = word_met s.rules names w.is_trailing w.waiting w.position word w.held in
          let parts = none (word_fault s names w.is_trailing w.waiting word w.held) (step_fault s w.position met.0 met.1) e in
          placed w word met.0 met.1 parts.1 (words_met names w.is_trailing w.waiting w.position word w.held parts.0 fine)

  walks : (names : Names) (w : Walk) (words : List Text) → walk_fault s names w words ≡ [] → Fine w.held.rows → Fine (fold (walked s.rules names) w words).held.rows
  unfolding walk_fault
  walks names w [] fault fine = fine
  walks names w (word ∷ rest) fault fine =
      let parts = none (turn_fault s names w word) (walk_fault s names (walked s.rules names w word) rest) fault in
      walks names (walked s.rules names w word) rest parts.1 (turns names w word parts.0 fine)

  ends : (words : List Text) → level_fault s [] nothing_held words false [] ≡ [] → Fine (rows_after s.rules [] words)
  ends words fault =
      let end = (walk s.rules [] nothing_held words).held in
      let checks = or_else (defaults_fault (settled s.rules end).rows s.rules) (check_fault s (finished s.rules end) false) in
      let parts = none (walk_fault s [] (walk_from nothing_held) words) (or_else (settle_fault s.rules s.args_override_self end) checks) fault in
      let last = none (settle_fault s.rules s.args_override_self end) checks parts.1 in
      defaulted s.rules keep (settled s.rules end).rows
      (settles s.rules keep s.args_override_self end last.0 (walks [] (walk_from nothing_held) words parts.0 tt))
    where
      defaulted : (xs : List Rule) → EachKeeps xs → (rows : List Row) → Fine rows → Fine (fold with_default rows xs)
      defaulted [] k rows fine = fine
      defaulted (x ∷ xs) k rows fine = defaulted xs k.2 (with_default rows x) (k.1 rows fine)

-- ---- the run

abbrev run_rules : List Rule
run_rules = folder_filled ∷ threads_filled ∷ frames_filled ∷ keys_filled ∷ help_filled ∷ []

run_keeps : EachKeeps run_rules
run_keeps = (folder_keeps, without_defaults folder_filled refl, (threads_keeps, threads_default, (frames_keeps, without_defaults frames_filled refl, (keys_keeps, without_defaults keys_filled refl, (help_keeps, without_defaults help_filled refl, tt)))))

-- where it is the run's, each of its arguments keeps them
abbrev IsRunIfNamed : Shape → Type 0
IsRunIfNamed s = bytes_eq s.name (codes "run") ≡ true → EachKeeps s.rules

abbrev EachIsRun : List Shape → Type 0
EachIsRun [] = ⊤
EachIsRun (s ∷ rest) = IsRunIfNamed s × EachIsRun rest

abbrev IsRunIfAny : Option Shape → Type 0
IsRunIfAny None = ⊤
IsRunIfAny (Some s) = IsRunIfNamed s

named_so : (test : Shape → Bool) (xs : List Shape) → EachIsRun xs → IsRunIfAny (find test xs)
named_so test [] each = tt
named_so test (x ∷ xs) each = pick (test x) (named_so test xs each.1)
  where
    pick : (b : Bool) → IsRunIfAny (find test xs) → IsRunIfAny (cond b (Some x) (find test xs))
    pick true later = each.0
    pick false later = later

all_named : EachIsRun (built simple_command).subs
all_named = (another, ((λ e. run_keeps), (another, (another, (another, tt)))))

enters : (stop : Option (Text × List Text)) → entered_fault (built simple_command) stop ≡ [] → (met : Text × List Row) → entered (built simple_command) stop ≡ Some met
    → bytes_eq met.0 (codes "run") ≡ true → Fine met.1
enters None fault met is run = cc
enters (Some p) fault met is run = go (find (λ s. answers_to p.0 (label_of s)) (built simple_command).subs) (named_so (λ s. answers_to p.0 (label_of s)) (built simple_command).subs all_named) fault is
  where
    go : (o : Option Shape) → IsRunIfAny o → option_map_or (λ s. level_fault s [] nothing_held p.1 false []) o [] ≡ []
        → option_map (λ s. rows_at s p.1) o ≡ Some met → Fine met.1
    go None named e same = cc
    go (Some s) named e same =
        let here : rows_at s p.1 ≡ met = cc in
        let name : s.name ≡ met.0 = ap (λ (m : Text × List Row). m.0) here in
        let rows : rows_after s.rules [] p.1 ≡ met.1 = ap (λ (m : Text × List Row). m.1) here in
        subst Fine rows (ends s (named (subst (λ (t : Text). bytes_eq t (codes "run") ≡ true) (sym name) run)) p.1 e)

-- the rows of a run without a fault
pub run_fine : (words : List Text) → fault_of simple_command words ≡ [] → (met : Text × List Row) → subcommand_of simple_command words ≡ Some met
    → bytes_eq met.0 (codes "run") ≡ true → Fine met.1
run_fine words fault met is run =
    let a = built simple_command in
    let given = argument_words simple_command words in
    let end = (walk a.top.rules (names_of a) nothing_held given) in
    let below = entered_fault a end.stopped in
    let rest = or_else (settle_fault a.top.rules a.top.args_override_self end.held) (or_else (defaults_fault (settled a.top.rules end.held).rows a.top.rules)
    (check_fault a.top (finished a.top.rules end.held) (is_some (entered a end.stopped)))) in
    let parts = none (walk_fault a.top (names_of a) (walk_from nothing_held) given) (or_else below rest) fault in
    enters end.stopped (none below rest parts.1).0 met is run
