-- What a visitor has been given, over one part of the log and another.
use Rattle.std.proofs.Common.{◌≡◌, ℕ, suc, ◌+◌, ◌-◌, ◌^◌, ◌≤◌, ◌<◌, List, [], ◌∷◌, ◌++◌, length, drop, refl, sym, ◌∙◌, ap, subst, arith, length-append, append_assoc, Ok, Err}
use Rattle.std.proofs.lemmas.List.{append-nil}
use Rattle.ctr_types.specs.declared.file.File.{File}
use Rattle.ctr_home.specs.bytes_Fields.{field}
use Rattle.ctr_log.specs.Logs.{frame, frames}
use Rattle.ctr_log.specs.Reading.{BeginsWithFrame, HasFrames}
use Rattle.std.specs.Prelude.{Result, ⊤}
use Rattle.ctr_home.specs.disk_StoreFault.{StoreFault}
use Rattle.ctr_home.specs.disk_StoreFault.TheVariants.{Fault, Damaged}
use Rattle.ctr_log.specs.declared.reading.ReadError.{ReadError}
use Rattle.ctr_log.specs.declared.reading.ReadError.TheVariants.{Store, OutOfMemory}
use Rattle.ctr_log.specs.LogChecks.{IsThisDamage}
use Rattle.ctr_log.specs.Visits.{visit_of, frame_visits, IsGiven, GivesSome, GivesPart, RefusesOne, StopsAt, OnRead, EndsEarly}
use Rattle.ctr_log.specs.declared.visitor.Visit.{Visit}
use Rattle.ctr_log.specs.declared.visitor.VisitError.{VisitError}
use Rattle.ctr_log.specs.declared.visitor.VisitError.TheVariants.{Read, Refused}
use Rattle.ctr_log.proofs.LogLemmas.{length-frame}
use Rattle.ctr_log.proofs.ReadLemmas.{frame_length, frame_behind, frame_is, frame_same}

-- an answer that isn't an error
pub ok_isnt : {T E : Type 0} (x : T) (e : E) → Ok x ≡ Err e → ⊥
ok_isnt x e is = absurd (cc is)

module _ {V : Type 0} (has_seen : V → List Visit → Type 0) where
  -- one part was given, and then another
  pub given_both : (old mid new : V) (xs ys : List Visit) → IsGiven has_seen old mid xs → IsGiven has_seen mid new ys → IsGiven has_seen old new (xs ++ ys)
  given_both old mid new xs ys first second before seen =
      subst (λ (l : List Visit). has_seen new l) (append_assoc before xs ys) (second (before ++ xs) (first before seen))

  -- nothing was
  pub given_none : (old : V) → IsGiven has_seen old old []
  given_none old before seen = subst (λ (l : List Visit). has_seen old l) (sym (append-nil before)) seen

  -- the same records
  pub given_same : (old new : V) {xs ys : List Visit} → ys ≡ xs → IsGiven has_seen old new xs → IsGiven has_seen old new ys
  given_same old new is gives = subst (IsGiven has_seen old new) (sym is) gives

  -- where no record was refused
  pub part_given : (old new : V) {all : List Visit} (front more : List Visit) → IsGiven has_seen old new front → all ≡ front ++ more → GivesPart has_seen old new all
  part_given old new front more gives is = record { given = front; rest = more; all_are = is; gives = gives }

  pub part_all : (old new : V) {all : List Visit} → IsGiven has_seen old new all → GivesPart has_seen old new all
  part_all old new {all} gives = part_given old new all [] gives (sym (append-nil all))

  -- a part of what there is, and a part behind what was given
  part_more : (old new : V) (all more whole : List Visit) → whole ≡ all ++ more → GivesPart has_seen old new all → GivesPart has_seen old new whole
  part_more old new all more whole is part =
      part_given old new part.given (part.rest ++ more) part.gives (is ∙ ap (λ (l : List Visit). l ++ more) part.all_are ∙ append_assoc part.given part.rest more)

  part_behind : (old mid new : V) (front all whole : List Visit) → IsGiven has_seen old mid front → whole ≡ front ++ all → GivesPart has_seen mid new all → GivesPart has_seen old new whole
  part_behind old mid new front all whole gives is part =
      part_given old new (front ++ part.given) part.rest (given_both old mid new front part.given gives part.gives) (is ∙ ap (λ (l : List Visit). front ++ l) part.all_are ∙ sym (append_assoc front part.given part.rest))

  module _ {E : Type 0} (refuses : List Visit → Visit → E → Type 0) where
    -- one was refused, of a part of what there is
    pub refused_more : (old : V) (all more whole : List Visit) (e : E) → whole ≡ all ++ more → RefusesOne has_seen refuses old all e → RefusesOne has_seen refuses old whole e
    refused_more old all more whole e is one = record {
      given = one.given;
      refused = one.refused;
      rest = one.rest ++ more;
      all_are = is ∙ ap (λ (l : List Visit). l ++ more) one.all_are ∙ append_assoc one.given (one.refused ∷ one.rest) more;
      because = one.because;
    }

    -- or behind a part that was given
    pub refused_behind : (old mid : V) (front all whole : List Visit) (e : E) → IsGiven has_seen old mid front → whole ≡ front ++ all → RefusesOne has_seen refuses mid all e → RefusesOne has_seen refuses old whole e
    refused_behind old mid front all whole e gives is one = record {
      given = front ++ one.given;
      refused = one.refused;
      rest = one.rest;
      all_are = is ∙ ap (λ (l : List Visit). front ++ l) one.all_are ∙ sym (append_assoc front one.given (one.refused ∷ one.rest));
      because = λ before seen.
          subst (λ (l : List Visit). refuses l one.refused e) (append_assoc before front one.given) (one.because (before ++ front) (gives before seen));
    }

    -- all that is sound was given, and then reading ended
    pub given_stops : (old new : V) (all : List Visit) → IsGiven has_seen old new all → (e : ReadError) → StopsAt {E = E} has_seen refuses old new all (Read e)
    given_stops old new all gives OutOfMemory = part_all old new gives
    given_stops old new all gives (Store Fault) = part_all old new gives
    given_stops old new all gives (Store (Damaged d)) = gives

    -- reading stopped in a part of what is sound, behind which damage leaves nothing
    pub stops_more : (old new : V) (all more whole : List Visit) → whole ≡ all ++ more → (damage : Result ⊤ StoreFault) → ((d : StoreFault) → damage ≡ Err d → more ≡ []) → (e : VisitError E)
        → OnRead (IsThisDamage damage) e → StopsAt has_seen refuses old new all e → StopsAt has_seen refuses old new whole e
    stops_more old new all more whole is damage none (Read OutOfMemory) told stops = part_more old new all more whole is stops
    stops_more old new all more whole is damage none (Read (Store Fault)) told stops = part_more old new all more whole is stops
    stops_more old new all more whole is damage none (Read (Store (Damaged d))) told stops =
        given_same old new (is ∙ ap (λ (l : List Visit). all ++ l) (none (Damaged d) told) ∙ append-nil all) stops
    stops_more old new all more whole is damage none (Refused e) told stops = refused_more old all more whole e is stops

    -- or behind a part that was given
    pub stops_behind : (old mid new : V) (front all whole : List Visit) → IsGiven has_seen old mid front → whole ≡ front ++ all → (e : VisitError E) → StopsAt has_seen refuses mid new all e → StopsAt has_seen refuses old new whole e
    stops_behind old mid new front all whole gives is (Read OutOfMemory) stops = part_behind old mid new front all whole gives is stops
    stops_behind old mid new front all whole gives is (Read (Store Fault)) stops = part_behind old mid new front all whole gives is stops
    stops_behind old mid new front all whole gives is (Read (Store (Damaged d))) stops = given_same old new is (given_both old mid new front all gives stops)
    stops_behind old mid new front all whole gives is (Refused e) stops = refused_behind old mid front all whole e gives is stops

    -- the end of reading, behind what was given
    pub early_behind : (old mid : V) → GivesSome has_seen old mid → (e : VisitError E) → EndsEarly has_seen refuses mid e → EndsEarly has_seen refuses old e
    early_behind old mid some (Read e) ends = ends
    early_behind old mid some (Refused e) ends = (some.0 ++ ends.0, refused_behind old mid some.0 ends.0 (some.0 ++ ends.0) e some.1 refl ends.1)

-- the frames of a batch of which some records were given
pub record GivenSoFar {V : Type 0} (has_seen : V → List Visit → Type 0) (file : File) (first at count : ℕ) (frames_ rest : List ℕ) (lsn : ℕ) (old now : V) : Type 0 where
  pub given : List Visit
  pub left : ℕ
  pub left_is : lsn + left ≡ first + count
  pub rest_are : HasFrames rest left
  pub short : length rest ≤ length frames_
  pub seen : IsGiven has_seen old now given
  pub visits_are : frame_visits file first at count frames_ ≡ given ++ frame_visits file lsn (at + (length frames_ - length rest)) left rest

pub given_start : {V : Type 0} (has_seen : V → List Visit → Type 0) (file : File) (first at count : ℕ) (frames_ : List ℕ) (old : V) → HasFrames frames_ count → GivenSoFar has_seen file first at count frames_ frames_ first old old
given_start has_seen file first at count frames_ old has = record {
  given = [];
  left = count;
  left_is = refl;
  rest_are = has;
  short = omega arith;
  seen = given_none has_seen old;
  visits_are = ap (λ (n : ℕ). frame_visits file first n count frames_) (let e : at ≡ at + (length frames_ - length frames_) = omega arith in e);
}

-- where records are left, a frame stands first
pub begins_frame : (rest : List ℕ) (left : ℕ) → HasFrames rest left → 0 < left → BeginsWithFrame rest
begins_frame rest left has some = by_records has.0 has.1 has.2
  where
    by_records : (rs : List (List ℕ)) → rest ≡ frames rs → left ≡ length rs → BeginsWithFrame rest
    by_records [] is count = absurd (omega (arith, some, count))
    by_records (r ∷ rs) is count = (r, frames rs, is)

module _ {V : Type 0} (has_seen : V → List Visit → Type 0) (file : File) (first at count : ℕ) (frames_ rest : List ℕ) (lsn : ℕ) (old now : V) (s : GivenSoFar has_seen file first at count frames_ rest lsn old now) (below : lsn < first + count) (few : length frames_ < 2 ^ 63) where
  pub frame_left : BeginsWithFrame rest
  frame_left = begins_frame rest s.left s.rest_are (omega (arith, s.left_is, below))

  module _ (r behind : List ℕ) (split : rest ≡ frame r ++ behind) where
    abbrev here : ℕ
    here = at + (length frames_ - length rest)

    rest_long : length rest ≡ 8 + length r + length behind
    rest_long = omega (arith, ap length split, length-append (frame r) behind, length-frame r)

    rest_few : length rest < 2 ^ 64
    rest_few = omega (arith, s.short, few)

    -- the first record's visit, and those of the others
    first_visit : (k : ℕ) → frame_visits file lsn here (suc k) rest ≡ visit_of lsn file (here + 8) r ∷ frame_visits file (lsn + 1) (at + (length frames_ - length behind)) k behind
    first_visit k =
        ap (λ (l : List ℕ). visit_of lsn file (here + 8) l ∷ frame_visits file (lsn + 1) (here + (8 + field 8 0 rest)) k (drop (8 + field 8 0 rest) rest)) (frame_is r behind rest split rest_few)
        ∙ ap (λ (l : List ℕ). visit_of lsn file (here + 8) r ∷ frame_visits file (lsn + 1) (here + (8 + field 8 0 rest)) k l) (frame_behind r behind rest split rest_few)
        ∙ ap (λ (n : ℕ). visit_of lsn file (here + 8) r ∷ frame_visits file (lsn + 1) n k behind) (omega (arith, frame_length r behind rest split rest_few, rest_long, s.short))

    -- fewer frames are left behind it
    frames_behind : (k : ℕ) → s.left ≡ suc k → HasFrames behind k
    frames_behind k is = by_records s.rest_are.0 s.rest_are.1 s.rest_are.2
      where
        by_records : (rs : List (List ℕ)) → rest ≡ frames rs → s.left ≡ length rs → HasFrames behind k
        by_records [] has count = absurd (omega (arith, is, count))
        by_records (q ∷ rs) has count =
            let same = frame_same r behind q (frames rs) (sym split ∙ has) (omega (arith, rest_few, ap length split)) in
            (rs, same.1, omega (arith, is, count))

    by_left : (k : ℕ) → s.left ≡ suc k → frame_visits file first at count frames_ ≡ (s.given ++ visit_of lsn file (here + 8) r ∷ []) ++ frame_visits file (lsn + 1) (at + (length frames_ - length behind)) k behind
    by_left k is =
        s.visits_are ∙ ap (λ (n : ℕ). s.given ++ frame_visits file lsn here n rest) is ∙ ap (λ (l : List Visit). s.given ++ l) (first_visit k)
        ∙ sym (append_assoc s.given (visit_of lsn file (here + 8) r ∷ []) (frame_visits file (lsn + 1) (at + (length frames_ - length behind)) k behind))

    left_less : s.left ≡ suc (s.left - 1)
    left_less = omega (arith, s.left_is, below)

    -- it was given
    pub given_more : (new : V) → IsGiven has_seen now new (visit_of lsn file (here + 8) r ∷ []) → GivenSoFar has_seen file first at count frames_ behind (lsn + 1) old new
    given_more new gives = record {
      given = s.given ++ visit_of lsn file (here + 8) r ∷ [];
      left = s.left - 1;
      left_is = omega (arith, s.left_is, below);
      rest_are = frames_behind (s.left - 1) left_less;
      short = omega (arith, rest_long, s.short);
      seen = given_both has_seen old now new s.given (visit_of lsn file (here + 8) r ∷ []) s.seen gives;
      visits_are = by_left (s.left - 1) left_less;
    }

    -- or refused
    pub given_refused : {E : Type 0} (refuses : List Visit → Visit → E → Type 0) (e : E) → ((before : List Visit) → has_seen now before → refuses before (visit_of lsn file (here + 8) r) e) → RefusesOne has_seen refuses old (frame_visits file first at count frames_) e
    given_refused refuses e because = record {
      given = s.given;
      refused = visit_of lsn file (here + 8) r;
      rest = frame_visits file (lsn + 1) (at + (length frames_ - length behind)) (s.left - 1) behind;
      all_are = by_left (s.left - 1) left_less ∙ append_assoc s.given (visit_of lsn file (here + 8) r ∷ []) (frame_visits file (lsn + 1) (at + (length frames_ - length behind)) (s.left - 1) behind);
      because = λ before seen. because (before ++ s.given) (s.seen before seen);
    }

-- all were given
pub given_all : {V : Type 0} (has_seen : V → List Visit → Type 0) (file : File) (first at count : ℕ) (frames_ rest : List ℕ) (lsn : ℕ) (old now : V) → GivenSoFar has_seen file first at count frames_ rest lsn old now → first + count ≤ lsn
    → IsGiven has_seen old now (frame_visits file first at count frames_)
given_all has_seen file first at count frames_ rest lsn old now s end =
    let none : s.left ≡ 0 = omega (arith, s.left_is, end) in
    let all : frame_visits file first at count frames_ ≡ s.given = s.visits_are ∙ ap (λ (n : ℕ). s.given ++ frame_visits file lsn (at + (length frames_ - length rest)) n rest) none ∙ append-nil s.given in
    given_same has_seen old now all s.seen
