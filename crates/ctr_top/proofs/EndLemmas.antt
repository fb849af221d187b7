-- How a command ends: what is printed, and what its words have to do with it.
use Rattle.std.proofs.Common.{◌≡◌, ◌≢◌, ◌⊎◌, ◌∙◌, inl, inr, ⊎_elim, Bool, List, [], Option, Some, refl, sym, ap, subst}
use Rattle.std.specs.Prelude.{◌++◌, ℕ}
use Rattle.ctr_types.specs.declared.tape.Entry.{Entry}
use Rattle.ctr_io.specs.declared.edges.Source.{Ghosts as Source}
use Rattle.ctr_io.specs.declared.edges.Sink.{Ghosts as Sink}
use Rattle.ctr_model.specs.declared.tape.Cause.{Cause}
use Rattle.ctr_model.specs.declared.tape.Command.{Command}
use Rattle.ctr_model.specs.declared.tape.Command.TheVariants as command
use Rattle.ctr_model.specs.declared.tape.Report.{Report}
use Rattle.ctr_model.specs.Texts.{last_line}
use Rattle.ctr_words.specs.declared.words.Subcommand.{Subcommand}
use Rattle.ctr_words.specs.declared.words.Subcommand.TheVariants as subcommand
use Rattle.ctr_words.specs.declared.words.WordsError.{WordsError}
use Rattle.ctr_words.specs.Words.{AsksForNothing}
use Rattle.ctr_top.specs.declared.ending.Ending.{Ending}
use Rattle.ctr_top.specs.declared.ending.Ending.TheVariants as ending
use Rattle.ctr_top.specs.declared.outcome.Outcome.{Outcome}
use Rattle.ctr_top.specs.declared.commands.Ended.{Ended}
use Rattle.ctr_top.specs.Endings.{status_of, cause_of, asked_as, work}
use Rattle.ctr_top.specs.Top.{IsUnrun, MindsWords, PutsText, printed_text, report_of, shown_tape, work_of}
use Rattle.ctr_top.proofs.CompleteLemmas.{work_is}

-- work that ends otherwise than finished is the ending
pub work_back : (e why : Ending) → work e ≡ why → why ≢ ending.Finished → e ≡ why
work_back e why is other = sym (work_is e (λ fault. other (sym is ∙ ap work fault))) ∙ is

-- words that ask for nothing are none, or memory was refused
pub not_begun : (asked : Option Subcommand) (why : WordsError) → AsksForNothing asked why → (asked_as why ≡ ending.Usage) ⊎ (asked_as why ≡ ending.OutOfMemory)
not_begun asked why (inl none) = inl (ap asked_as none.0)
not_begun asked why (inr memory) = inr (ap asked_as memory)

-- a command that isn't begun was refused memory
pub memory_only : (asked : Option Subcommand) (why : WordsError) → AsksForNothing asked why → (s : Subcommand) → asked ≡ Some s → asked_as why ≡ ending.OutOfMemory
memory_only asked why (inl none) s is = absurd (cc (none.1, is))
memory_only asked why (inr memory) s is = ap asked_as memory

-- the last line of work that wasn't begun is the same for each command
line_any : (e : Ending) → (e ≡ ending.Usage) ⊎ (e ≡ ending.OutOfMemory) → (a b : Command) (cause : Cause) (es : List Entry) (r : Report) → last_line a (status_of e) cause es r ≡ last_line b (status_of e) cause es r
line_any e (inl usage) a b cause es r = subst (λ w. last_line a (status_of w) cause es r ≡ last_line b (status_of w) cause es r) (sym usage) refl
line_any e (inr memory) a b cause es r = subst (λ w. last_line a (status_of w) cause es r ≡ last_line b (status_of w) cause es r) (sym memory) refl

-- of no entry nothing is shown
shown_none : (command : Command) → shown_tape command [] ≡ []
shown_none (command.Load sessions statements) = refl
shown_none command.Init = refl
shown_none command.Run = refl
shown_none (command.Survey counts) = refl

-- the text of work that wasn't begun is the same for each command
text_any : (e : Ending) → (e ≡ ending.Usage) ⊎ (e ≡ ending.OutOfMemory) → (a b : Command) (cause : Cause) (es : List Entry) (r : Report) → es ≡ []
    → shown_tape a es ++ last_line a (status_of e) cause es r ≡ shown_tape b es ++ last_line b (status_of e) cause es r
text_any e none a b cause es r empty =
    let shown : shown_tape a es ≡ shown_tape b es = subst (λ l. shown_tape a l ≡ shown_tape b l) (sym empty) (shown_none a ∙ sym (shown_none b)) in
    let line = line_any e none a b cause es r in
    λ i. shown i ++ line i

abbrev text_of : {D : Type 0} → Command → Outcome D → List ℕ
text_of command o = shown_tape command o.left.tape.entries ++ last_line command (status_of o.ending) (cause_of o.ending) o.left.tape.entries (report_of o.left)

module _ {D K : Type 0} (k : Sink K) (old new : K) (e : Ended D) (o : Outcome D) (outcome : work_of e ≡ o) (report : e.report ≡ report_of o.left) where
  same_text : (command : Command) → text_of command o ≡ printed_text command e
  same_text command = sym (λ i. shown_tape command (outcome i).left.tape.entries ++ last_line command (status_of (outcome i).ending) (cause_of (outcome i).ending) (outcome i).left.tape.entries (report i))

  -- the text of a command that was begun
  pub prints : (command told : Command) → command ≡ told → PutsText k old (text_of command o) new e.ending → PutsText k old (printed_text told e) new e.ending
  prints command told is puts = subst (λ t. PutsText k old t new e.ending) (same_text command ∙ ap (λ c. printed_text c e) is) puts

  -- the text of one that wasn't
  pub prints_any : (o.ending ≡ ending.Usage) ⊎ (o.ending ≡ ending.OutOfMemory) → o.left.tape.entries ≡ [] → (command told : Command) → PutsText k old (text_of command o) new e.ending → PutsText k old (printed_text told e) new e.ending
  prints_any none empty command told puts =
      subst (λ t. PutsText k old t new e.ending) (text_any o.ending none command told (cause_of o.ending) o.left.tape.entries (report_of o.left) empty ∙ same_text told) puts

  -- the text of a load, whose statements were counted unless memory was refused for them
  pub prints_load : (sessions a b : ℕ) → (a ≡ b) ⊎ (o.ending ≡ ending.OutOfMemory) → (told : Command) → command.Load sessions b ≡ told → PutsText k old (text_of (command.Load sessions a) o) new e.ending → PutsText k old (printed_text told e) new e.ending
  prints_load sessions a b (inl same) told is puts = prints (command.Load sessions a) told (ap (λ n. command.Load sessions n) same ∙ is) puts
  prints_load sessions a b (inr memory) told is puts = prints (command.Load sessions b) told is
      (subst (λ t. PutsText k old t new e.ending) (ap (λ (l : List ℕ). [] ++ l) (line_any o.ending (inr memory) (command.Load sessions a) (command.Load sessions b) (cause_of o.ending) o.left.tape.entries (report_of o.left))) puts)

module _ {D S : Type 0} (s : Source S) (asked : Option Subcommand) (old : D) (e : Ended D) where
  -- a command that wasn't begun
  pub minds_none : (source : S) (why : WordsError) → AsksForNothing asked why → work e.ending ≡ asked_as why → e.left.disk ≡ old → IsUnrun e.left → MindsWords s asked old e source source
  minds_none source why none is disk unrun = record {
    usage = λ usage. ⊎_elim (λ n. n.1) (λ memory. absurd (cc (sym (ap work usage) ∙ is ∙ ap asked_as memory))) none;
    none = λ _. ⊎_elim (λ usage. inl (work_back e.ending ending.Usage (is ∙ usage) (λ fine. absurd (cc fine)))) (λ memory. inr (work_back e.ending ending.OutOfMemory (is ∙ memory) (λ fine. absurd (cc fine)))) (not_begun asked why none);
    untouched = λ _. (disk, unrun);
    only_run_reads = λ _. refl;
  }

  -- a command that was
  pub minds_some : (it : Subcommand) → asked ≡ Some it → (e.ending ≡ ending.Usage → ⊥) → (source new : S) → (((frames : ℕ) (threads : Bool) (keys : ℕ) → asked ≡ Some (subcommand.Run frames threads keys) → ⊥) → new ≡ source) → MindsWords s asked old e source new
  minds_some it is begun source new reads = record {
    usage = λ usage. absurd (begun usage);
    none = λ none. absurd (cc (none, is));
    untouched = λ none. absurd (cc (none, is));
    only_run_reads = reads;
  }
