-- What printing a text leaves on a sink.
use Rattle.std.specs.Prelude.{◌≡◌, ℕ, Bool, true, false, IsTrue, Result, MatchResult, List, ◌++◌}
use Rattle.ctr_io.specs.types_Faults.{CountsFault}
use Rattle.ctr_io.specs.declared.edges.Sink.{Ghosts}
use Rattle.ctr_print.specs.declared.printer.Printer.{Printer}

-- a prefix of the text was put, and nothing else
abbrev pub IsPrefixPut : List ℕ → List ℕ → List ℕ → Type 0
IsPrefixPut old text new = (front : List ℕ) × (rest : List ℕ) × (text ≡ front ++ rest)
    × (new ≡ old ++ front)

-- all of the text was put, or where that failed a prefix of it
abbrev pub Printed : {E : Type 0} → List ℕ → List ℕ → List ℕ → Result (Unit {0}) E → Type 0
Printed old text new result =
    MatchResult result (λ _. new ≡ old ++ text) (λ _. IsPrefixPut old text new)

-- A part of the text was put, and where all is well the rest waits.
pub record IsPart (old text new waiting : List ℕ) (fine : Bool) : Type 0 where
  pub sent : List ℕ
  pub rest : List ℕ
  pub text_is : text ≡ sent ++ rest
  pub taken : new ≡ old ++ sent
  pub waits : fine ≡ true → rest ≡ waiting

-- The printer was begun on this sink, and this text is what it has printed since. Where it is no
-- longer well a put has failed, and was counted.
pub record HasPrinted {K : Type 0} (g : Ghosts K) (start : K) (text : List ℕ)
    (p : Printer K) : Type 0 where
  pub told : IsTrue g.tells
      → IsPart (g.taken start) text (g.taken p.sink.now) p.waiting.items p.fine
  pub calm : p.fine ≡ true → g.faults_of p.sink.now ≡ g.faults_of start
  pub cause : p.fine ≡ false → CountsFault (g.faults_of start) (g.faults_of p.sink.now)

-- the text is printed behind what was, on the same sink
pub record PrintsMore {K : Type 0} (g : Ghosts K) (text : List ℕ)
    (old new : Printer K) : Type 0 where
  pub same_reference : new.sink.ghost_name ≡ old.sink.ghost_name
  pub adds : (start : K) (before : List ℕ) → HasPrinted g start before old
      → HasPrinted g start (before ++ text) new

-- What a sink has taken before and after a text was printed on it: all of it where that is done,
-- else a prefix, and a put has failed and was counted.
pub record PutsOn {K : Type 0} (g : Ghosts K) (old : K) (text : List ℕ) (new : K) (done : Bool)
    : Type 0 where
  pub whole : IsTrue g.tells → done ≡ true → g.taken new ≡ g.taken old ++ text
  pub prefix : IsTrue g.tells → IsPrefixPut (g.taken old) text (g.taken new)
  pub calm : done ≡ true → g.faults_of new ≡ g.faults_of old
  pub cause : done ≡ false → CountsFault (g.faults_of old) (g.faults_of new)

-- Bytes are sent to a sink unless all was no longer well before: then nothing is put.
pub record Sends {K : Type 0} (g : Ghosts K) (old : K) (fine : Bool) (bytes : List ℕ) (new : K)
    (done : Bool)
    : Type 0 where
  pub puts : fine ≡ true → PutsOn g old bytes new done
  pub stays : fine ≡ false → (done ≡ false) × (new ≡ old)
