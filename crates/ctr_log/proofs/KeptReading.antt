-- What reading two generations finds is the log of the image.
use Rattle.std.proofs.Common.{◌≡◌, ◌⊎◌, inl, inr, ℕ, ◌+◌, ◌^◌, ◌<◌, ◌≤◌, ◌==◌, Bool, true, false, if◌then◌else◌, List, [], ◌∷◌, ◌++◌, length, drop, get_or, refl, sym, ◌∙◌, ap, subst, arith, length-append, Ok, Err}
use Rattle.std.specs.Prelude.{Result, ⊤}
use Rattle.std.proofs.lemmas.Bool.{false≢true}
use Rattle.std.proofs.lemmas.Bool.Decides.{nat_tests}
use Rattle.std.proofs.lemmas.List.{append-nil}
use Rattle.ctr_types.specs.declared.file.File.{File}
use Rattle.ctr_home.specs.disk_Image.{Image, content, section}
use Rattle.ctr_home.specs.declared.root.Root.{Root}
use Rattle.ctr_home.specs.disk_StoreFault.TheVariants.{Fault, Damaged}
use Rattle.ctr_home.specs.bytes_Fields.{field}
use Rattle.ctr_home.proofs.bytes_FieldLaws.{field-drop}
use Rattle.ctr_log.specs.declared.reading.ReadError.{ReadError}
use Rattle.ctr_log.specs.declared.reading.ReadError.TheVariants.{Store, OutOfMemory}
use Rattle.ctr_log.specs.Logs.{Batches, batch, batches, records, HasLog, Log, GoesOn}
use Rattle.ctr_log.specs.Reading.{log_file, ReadsLog, HasSome, IsEmptyAt, RefusesOrFails}
use Rattle.ctr_log.specs.Kept.{NamesKept, log_in, begins_at, kept_log, other_file, next_file, IsDropped, AreShort, RefusesKept, HoldsTwo, HoldsLog, StandsLog, OpensKept, StartsAt, WritesBy, WritesBehind, writer_file, has_newer}
use Rattle.ctr_home.specs.disk_StoreFault.{StoreFault}
use Rattle.ctr_log.specs.LogChecks.{file_damage, damage_or, kept_damage, if_passed, sound_visits, sound_kept_visits, IsThisDamage}
use Rattle.ctr_log.specs.Visits.{IsGiven, GivesPart, StopsAt, OnRead}
use Rattle.ctr_log.specs.declared.visitor.Visit.{Visit}
use Rattle.ctr_log.specs.declared.visitor.VisitError.{VisitError}
use Rattle.ctr_log.specs.declared.visitor.VisitError.TheVariants.{Read, Refused}
use Rattle.ctr_log.proofs.LogLemmas.{length-batch}
use Rattle.ctr_log.proofs.ForgetLaws.{some_records}
use Rattle.ctr_log.proofs.KeptLaws.{log_in_is, begins}
use Rattle.ctr_log.proofs.StartLemmas.{next_other}
use Rattle.ctr_log.proofs.DamageLaws.{section-drop, this_more}
use Rattle.ctr_log.proofs.ReadLemmas.{length-records-le}
use Rattle.ctr_log.proofs.VisitLemmas.{given_same, given_both, stops_more, stops_behind, part_given}

-- a number where a read gives it, past the end too
number_read : (bytes : List ℕ) → field 8 0 (section 0 8 bytes) ≡ field 8 0 bytes
unfolding field
number_read bytes = refl

pub first_read : (bytes : List ℕ) → field 8 9 (section 0 17 bytes) ≡ field 8 9 bytes
first_read bytes =
    sym (field-drop 8 0 9 (section 0 17 bytes)) ∙ ap (λ (l : List ℕ). field 8 0 l) (sym (section-drop 9 0 8 bytes)) ∙ number_read (drop 9 bytes) ∙ field-drop 8 0 9 bytes

pub shorts : (first : ℕ) (bs : Batches) → length (batches first bs) < 2 ^ 64 → AreShort bs
shorts first [] low = tt
shorts first (rs ∷ bs) low =
    let total = length-append (batch first rs) (batches (first + length rs) bs) in
    (omega (arith, low, total, length-batch first rs), shorts (first + length rs) bs (omega (arith, low, total)))

-- the records of a log that stands in a file that a disk can hold
pub log_read : (first : ℕ) (bs : Batches) (bytes : List ℕ) → HasLog first bs bytes → length bytes < 2 ^ 64 → first ≤ 2 ^ 63 + 2 ^ 60 → log_in bytes ≡ records bs
log_read first bs bytes log few low =
    let has = log.batches_are in
    let long = length-append (batches first bs) (has.gate ∷ has.rest) in
    let each = length-records-le first bs in
    log_in_is first bs bytes has (shorts first bs (omega (arith, few, ap length has.bytes_are, long))) (omega (arith, few, low, ap length has.bytes_are, long, each))

-- a generation that begins at a number not below the oldest isn't dropped
not_dropped : (first next : ℕ) (bytes : List ℕ) → first ≤ next → begins_at next bytes ≡ true → IsDropped first bytes → ⊥
not_dropped first next bytes le there (inl shut) = grind (arith, nat_tests)
not_dropped first next bytes le there (inr below) = grind (arith, nat_tests)

begins_there : (next : ℕ) (bytes : List ℕ) → get_or bytes 0 0 ≡ 1 → field 8 9 bytes ≡ next → begins_at next bytes ≡ true
begins_there next bytes open_ number = grind (arith, nat_tests)

pub begins_test : (next : ℕ) (bytes : List ℕ) → get_or bytes 0 0 ≡ 1 → begins_at next bytes ≡ (field 8 9 bytes == next)
begins_test next bytes open_ = grind (arith, nat_tests)

-- a log that an image holds stands in it
holds_stands : (file first : ℕ) (image : Image) (rs : List (List ℕ)) → HoldsLog file first rs image → StandsLog file first image
holds_stands file first image rs (inl one) = record {
  bs = one.0;
  named = one.2.named;
  newer = λ there. absurd (not_dropped first (first + length (records one.0)) (content (other_file file) image) (omega arith) there one.2.dropped);
}
holds_stands file first image rs (inr two) = record { bs = two.0; named = two.3.named; newer = λ there. (two.1, two.3.newer) }

-- damage of one of the files is damage of the log
pub kept_refused : {file first : ℕ} {image : Image} {g : File} {P : Type 0} → (g ≡ log_file file) ⊎ (g ≡ other_file file) → (StandsLog file first image → P) → (e : ReadError) → RefusesOrFails g P e → RefusesKept file first image e
kept_refused is part OutOfMemory refused = tt
kept_refused is part (Store Fault) refused = tt
kept_refused {file} {first} {image} is part (Store (Damaged d)) refused = record {
  differs = refused.0.1;
  file_is = subst (λ (k : File). (k ≡ log_file file) ⊎ (k ≡ other_file file)) (sym refused.0.0) is;
  stands = λ stands. refused.1 (part stands);
  holds = λ rs holds. refused.1 (part (holds_stands file first image rs holds));
}

-- damage of the named one
pub older_refused : (file first : ℕ) (image : Image) (g : File) → g ≡ log_file file → (e : ReadError) → RefusesOrFails g (HasSome first (content g image)) e → RefusesKept file first image e
older_refused file first image g is e refused = kept_refused (inl is) (λ (stands : StandsLog file first image). (stands.bs, subst (λ (k : File). HasLog first stands.bs (content k image)) (sym is) stands.named)) e refused

-- what is sound of the log begins with what is sound of the named file; where that is damaged, it is all
module _ {V : Type 0} (has_seen : V → List Visit → Type 0) (file first : ℕ) (image : Image) (f : File) (is : f ≡ log_file file) where
  abbrev newer_part : List Visit
  newer_part =
      let named = content (log_file file) image in
      let other = content (other_file file) image in
      if_passed (file_damage (log_file file) first named) (if has_newer first named other then sound_visits (other_file file) (first + length (log_in named)) other else [])

  named_first : sound_kept_visits file first image ≡ sound_visits f first (content f image) ++ newer_part
  named_first = ap (λ (g : File). sound_visits g first (content g image) ++ newer_part) (sym is)

  none_newer : (d : StoreFault) → file_damage f first (content f image) ≡ Err d → newer_part ≡ []
  none_newer d fails =
      let named = content (log_file file) image in
      let other = content (other_file file) image in
      ap (λ (x : Result ⊤ StoreFault). if_passed x (if has_newer first named other then sound_visits (other_file file) (first + length (log_in named)) other else [])) (ap (λ (g : File). file_damage g first (content g image)) (sym is) ∙ fails)

  module _ (old new : V) where
    pub stops_older : {E : Type 0} (refuses : List Visit → Visit → E → Type 0) (e : VisitError E) → OnRead (IsThisDamage (file_damage f first (content f image))) e → StopsAt has_seen refuses old new (sound_visits f first (content f image)) e
        → StopsAt has_seen refuses old new (sound_kept_visits file first image) e
    stops_older refuses e told stops =
        stops_more has_seen refuses old new (sound_visits f first (content f image)) newer_part (sound_kept_visits file first image) named_first (file_damage f first (content f image)) none_newer e told stops

    pub part_older : IsGiven has_seen old new (sound_visits f first (content f image)) → GivesPart has_seen old new (sound_kept_visits file first image)
    part_older gives = part_given has_seen old new (sound_visits f first (content f image)) newer_part gives named_first

pub older_refused_by : {E : Type 0} (file first : ℕ) (image : Image) (g : File) → g ≡ log_file file → (e : VisitError E) → OnRead (RefusesOrFails g (HasSome first (content g image))) e → OnRead (RefusesKept file first image) e
older_refused_by file first image g is (Read e) refused = older_refused file first image g is e refused
older_refused_by file first image g is (Refused r) refused = tt

-- damage of the named one is told first
pub older_told : {E : Type 0} (file first : ℕ) (image : Image) (g : File) → g ≡ log_file file → (e : VisitError E) → OnRead (IsThisDamage (file_damage g first (content g image))) e → OnRead (IsThisDamage (kept_damage file first image)) e
older_told file first image g is (Refused r) told = tt
older_told file first image g is (Read e) told =
    let named = content (log_file file) image in
    let other = content (other_file file) image in
    let newer : Result ⊤ StoreFault = if has_newer first named other then file_damage (other_file file) (first + length (log_in named)) other else Ok tt in
    this_more (file_damage g first (content g image)) (kept_damage file first image) (λ d here.
    ap (λ (x : Result ⊤ StoreFault). damage_or x newer) (ap (λ (k : File). file_damage k first (content k image)) (sym is) ∙ here)) e told

-- the named file was read, whose image is that later too
pub record WasRead (r : Root) (image mid : Image) (f h : File) (rs : List (List ℕ)) (place next : ℕ) : Type 0 where
  pub names : NamesKept r
  pub named_is : f ≡ log_file r.file
  pub other_is : h ≡ next_file f
  pub same : mid ≡ image
  pub found : ReadsLog r.first (content f image) rs place next
  pub only : (bs : Batches) → HasLog r.first bs (content f image) → next ≡ r.first + length (records bs)
  pub low_place : place < 2 ^ 63

pub was_read : {r : Root} {image mid : Image} {f h : File} {rs : List (List ℕ)} {place next : ℕ} → NamesKept r → f ≡ log_file r.file → h ≡ next_file f → mid ≡ image → ReadsLog r.first (content f image) rs place next
    → ((bs : Batches) → HasLog r.first bs (content f image) → next ≡ r.first + length (records bs)) → place < 2 ^ 63 → WasRead r image mid f h rs place next
was_read names named other same found only low = record { names = names; named_is = named; other_is = other; same = same; found = found; only = only; low_place = low }

-- and the other file's first batch was looked at
module _ {r : Root} {image mid : Image} {f h : File} {rs : List (List ℕ)} {place next : ℕ} (w : WasRead r image mid f h rs place next) (low : next < 2 ^ 64) {b : Bool} (test : b ≡ begins_at next (content h mid)) where
  abbrev named : List ℕ
  named = content (log_file r.file) image

  abbrev other : List ℕ
  other = content (other_file r.file) image

  read : ReadsLog r.first named rs place next
  read = subst (λ (k : File). ReadsLog r.first (content k image) rs place next) w.named_is w.found

  only : (bs : Batches) → HasLog r.first bs named → next ≡ r.first + length (records bs)
  only bs log = w.only bs (subst (λ (k : File). HasLog r.first bs (content k image)) (sym w.named_is) log)

  behind_is : h ≡ other_file r.file
  behind_is = w.other_is ∙ ap next_file w.named_is ∙ next_other r.file

  behind_bytes : (i : Image) → i ≡ image → content h i ≡ other
  behind_bytes i is = ap (content h) is ∙ ap (λ (k : File). content k image) behind_is

  tells : begins_at next other ≡ b
  tells = sym (test ∙ ap (begins_at next) (behind_bytes mid w.same))

  number_is : r.first + length (records read.bs) ≡ next
  number_is = sym read.next_is

  read_short : AreShort read.bs
  read_short = shorts r.first read.bs (omega (arith, read.place_is, w.low_place))

  named_read : log_in named ≡ rs
  named_read = log_in_is r.first read.bs named read.log_is.batches_are read_short (omega (arith, number_is, low)) ∙ sym read.records_are

  next_read : r.first + length (log_in named) ≡ next
  next_read = omega (arith, ap length named_read, ap length read.records_are, read.next_is)

  looked : begins_at (r.first + length (log_in named)) other ≡ b
  looked = ap (λ (n : ℕ). begins_at n other) next_read ∙ tells

  kept_by : kept_log r.file r.first image ≡ (if b then rs ++ log_in other else rs)
  kept_by =
      ap (λ (t : Bool). if t then log_in named ++ log_in other else log_in named) looked
      ∙ ap (λ (l : List (List ℕ)). if b then l ++ log_in other else l) named_read

  -- what is sound is that of the named file, and that of the other where it was found to go on
  sound_by : file_damage f r.first (content f image) ≡ Ok tt → sound_kept_visits r.file r.first image ≡ sound_visits f r.first (content f image) ++ (if b then sound_visits (other_file r.file) next other else [])
  sound_by passed =
      ap (λ (t : Bool). sound_visits (log_file r.file) r.first named ++ if_passed (file_damage (log_file r.file) r.first named) (if t then sound_visits (other_file r.file) (r.first + length (log_in named)) other else [])) looked
      ∙ ap (λ (n : ℕ). sound_visits (log_file r.file) r.first named ++ if_passed (file_damage (log_file r.file) r.first named) (if b then sound_visits (other_file r.file) n other else [])) next_read
      ∙ ap (λ (k : File). sound_visits k r.first (content k image) ++ if_passed (file_damage k r.first (content k image)) (if b then sound_visits (other_file r.file) next other else [])) (sym w.named_is)
      ∙ ap (λ (d : Result ⊤ StoreFault). sound_visits f r.first (content f image) ++ if_passed d (if b then sound_visits (other_file r.file) next other else [])) passed

  -- the damage is that of the named file, and then of the other where it was found to go on
  damage_by : kept_damage r.file r.first image ≡ damage_or (file_damage f r.first (content f image)) (if b then file_damage (other_file r.file) next other else Ok tt)
  damage_by =
      ap (λ (t : Bool). damage_or (file_damage (log_file r.file) r.first named) (if t then file_damage (other_file r.file) (r.first + length (log_in named)) other else Ok tt)) looked
      ∙ ap (λ (n : ℕ). damage_or (file_damage (log_file r.file) r.first named) (if b then file_damage (other_file r.file) n other else Ok tt)) next_read
      ∙ ap (λ (k : File). damage_or (file_damage k r.first (content k image)) (if b then file_damage (other_file r.file) next other else Ok tt)) (sym w.named_is)

  behind_passed : file_damage f r.first (content f image) ≡ Ok tt → kept_damage r.file r.first image ≡ (if b then file_damage (other_file r.file) next other else Ok tt)
  behind_passed passed = damage_by ∙ ap (λ (x : Result ⊤ StoreFault). damage_or x (if b then file_damage (other_file r.file) next other else Ok tt)) passed

  pub passed_one : b ≡ false → file_damage f r.first (content f image) ≡ Ok tt → kept_damage r.file r.first image ≡ Ok tt
  passed_one alone passed = behind_passed passed ∙ ap (λ (t : Bool). if t then file_damage (other_file r.file) next other else Ok tt) alone

  -- a log that stands has the batches that were read
  same_next : (bs : Batches) → HasLog r.first bs named → r.first + length (records bs) ≡ next
  same_next bs log = sym (only bs log)

  begins_two : (bs cs : Batches) → HoldsTwo r.file r.first bs cs image → begins_at next other ≡ true
  begins_two bs cs holds =
      let is = same_next bs holds.named in
      let head = begins next cs other (subst (λ (n : ℕ). HasLog n cs other) is holds.newer) holds.newer_short (omega (arith, low)) in
      begins_there next other head.0 head.1

  -- the one generation was read
  module _ (alone : b ≡ false) {log : Log} (at : IsEmptyAt f false r.first place next log) where
    goes_one : GoesOn r.first read.bs log image
    goes_one = record {
      log_is = subst (λ (k : File). HasLog r.first read.bs (content k image)) (sym (at.file_is ∙ w.named_is)) read.log_is;
      start = at.start_is;
      place = at.place_is ∙ read.place_is;
      first_is = at.next_is ∙ read.next_is;
    }

    kept_one : kept_log r.file r.first image ≡ rs
    kept_one = kept_by ∙ ap (λ (t : Bool). if t then rs ++ log_in other else rs) alone

    pub opens_one : OpensKept r.file r.first image log
    opens_one = record {
      stands = record {
        bs = read.bs;
        named = read.log_is;
        newer = λ there. absurd (false≢true (sym (ap (λ (n : ℕ). begins_at n other) number_is ∙ tells ∙ alone) ∙ there));
      };
      older_is = at.older_is ∙ sym (looked ∙ alone);
      file_is = at.file_is ∙ w.named_is ∙ ap (λ (o : Bool). writer_file o r.file) (sym at.older_is);
      next_is = omega (arith, at.next_is, number_is, ap length read.records_are, ap length kept_one);
      goes_on = (r.first, read.bs, goes_one);
      starts = subst (λ (o : Bool). StartsAt o r.first log.start) (sym at.older_is) at.start_is;
    }

    pub visited_one : {V : Type 0} (has_seen : V → List Visit → Type 0) (old new : V) → file_damage f r.first (content f image) ≡ Ok tt → IsGiven has_seen old new (sound_visits f r.first (content f image)) → IsGiven has_seen old new (sound_kept_visits r.file r.first image)
    visited_one has_seen old new passed gives =
        let here = sound_visits f r.first (content f image) in
        given_same has_seen old new (sound_by passed ∙ ap (λ (t : Bool). here ++ (if t then sound_visits (other_file r.file) next other else [])) alone ∙ append-nil here) gives

    pub writes_one : (all : List (List ℕ)) → HoldsLog r.file r.first all image → WritesBehind r.file r.first log image
    writes_one all (inr two) = absurd (false≢true (sym (tells ∙ alone) ∙ begins_two two.0 two.1 two.3))
    writes_one all (inl one) = record {
      numbered = w.names.numbered;
      by = subst (λ (o : Bool). WritesBy o r.file r.first log image) (sym at.older_is) (record {
        bs = read.bs;
        file_is = at.file_is ∙ w.named_is;
        goes_on = goes_one;
        holds = record { named = read.log_is; short = read_short; low = omega (arith, number_is, low); dropped = one.2.dropped };
      });
    }

  -- the newer one goes on from it
  module _ (there : b ≡ true) {late : Image} (late_is : late ≡ mid) where
    bytes_are : content h late ≡ other
    bytes_are = behind_bytes late (late_is ∙ w.same)

    newer_stands : StandsLog r.file r.first image → HasSome next (content h late)
    newer_stands stands =
        let is = same_next stands.bs stands.named in
        subst (λ (l : List ℕ). HasSome next l) (sym bytes_are) (subst (λ (n : ℕ). HasSome n other) is (stands.newer (ap (λ (n : ℕ). begins_at n other) is ∙ tells ∙ there)))

    pub newer_refused : (e : ReadError) → RefusesOrFails h (HasSome next (content h late)) e → RefusesKept r.file r.first image e
    newer_refused e refused = kept_refused (inr behind_is) newer_stands e refused

    pub newer_refused_by : {E : Type 0} (e : VisitError E) → OnRead (RefusesOrFails h (HasSome next (content h late))) e → OnRead (RefusesKept r.file r.first image) e
    newer_refused_by (Read e) refused = newer_refused e refused
    newer_refused_by (Refused own) refused = tt

    pub damage_two : file_damage f r.first (content f image) ≡ Ok tt → kept_damage r.file r.first image ≡ file_damage h next (content h late)
    damage_two passed =
        behind_passed passed ∙ ap (λ (t : Bool). if t then file_damage (other_file r.file) next other else Ok tt) there
        ∙ ap (λ (k : File). file_damage k next other) (sym behind_is) ∙ ap (λ (l : List ℕ). file_damage h next l) (sym bytes_are)

    pub newer_told : {E : Type 0} → file_damage f r.first (content f image) ≡ Ok tt → (e : VisitError E) → OnRead (IsThisDamage (file_damage h next (content h late))) e → OnRead (IsThisDamage (kept_damage r.file r.first image)) e
    newer_told passed (Refused own) told = tt
    newer_told passed (Read e) told = this_more (file_damage h next (content h late)) (kept_damage r.file r.first image) (λ d here. damage_two passed ∙ here) e told

    visits_two : file_damage f r.first (content f image) ≡ Ok tt → sound_kept_visits r.file r.first image ≡ sound_visits f r.first (content f image) ++ sound_visits h next (content h late)
    visits_two passed =
        sound_by passed ∙ ap (λ (t : Bool). sound_visits f r.first (content f image) ++ (if t then sound_visits (other_file r.file) next other else [])) there
        ∙ ap (λ (k : File). sound_visits f r.first (content f image) ++ sound_visits k next other) (sym behind_is)
        ∙ ap (λ (l : List ℕ). sound_visits f r.first (content f image) ++ sound_visits h next l) (sym bytes_are)

    module _ {V : Type 0} (has_seen : V → List Visit → Type 0) (old between new : V) (passed : file_damage f r.first (content f image) ≡ Ok tt) (seen : IsGiven has_seen old between (sound_visits f r.first (content f image))) where
      pub stops_newer : {E : Type 0} (refuses : List Visit → Visit → E → Type 0) (e : VisitError E) → StopsAt has_seen refuses between new (sound_visits h next (content h late)) e → StopsAt has_seen refuses old new (sound_kept_visits r.file r.first image) e
      stops_newer refuses e stops = stops_behind has_seen refuses old between new (sound_visits f r.first (content f image)) (sound_visits h next (content h late)) (sound_kept_visits r.file r.first image) seen (visits_two passed) e stops

      pub visited_two : IsGiven has_seen between new (sound_visits h next (content h late)) → IsGiven has_seen old new (sound_kept_visits r.file r.first image)
      visited_two gives = given_same has_seen old new (visits_two passed) (given_both has_seen old between new (sound_visits f r.first (content f image)) (sound_visits h next (content h late)) seen gives)

    -- and was read
    module _ {qs : List (List ℕ)} {place2 next2 : ℕ} (found : ReadsLog next (content h late) qs place2 next2) (low_place2 : place2 < 2 ^ 63) (low2 : next2 < 2 ^ 64) {log : Log} (at : IsEmptyAt h true next place2 next2 log) where
      newer : ReadsLog next other qs place2 next2
      newer = subst (λ (l : List ℕ). ReadsLog next l qs place2 next2) bytes_are found

      newer_short : AreShort newer.bs
      newer_short = shorts next newer.bs (omega (arith, newer.place_is, low_place2))

      other_read : log_in other ≡ qs
      other_read = log_in_is next newer.bs other newer.log_is.batches_are newer_short (omega (arith, newer.next_is, low2)) ∙ sym newer.records_are

      goes_two : GoesOn next newer.bs log image
      goes_two = record {
        log_is = subst (λ (k : File). HasLog next newer.bs (content k image)) (sym (at.file_is ∙ behind_is)) newer.log_is;
        start = at.start_is;
        place = at.place_is ∙ newer.place_is;
        first_is = at.next_is ∙ newer.next_is;
      }

      kept_two : kept_log r.file r.first image ≡ rs ++ qs
      kept_two = kept_by ∙ ap (λ (t : Bool). if t then rs ++ log_in other else rs) there ∙ ap (λ (l : List (List ℕ)). rs ++ l) other_read

      pub opens_two : OpensKept r.file r.first image log
      opens_two = record {
        stands = record {
          bs = read.bs;
          named = read.log_is;
          newer = λ _. subst (λ (n : ℕ). HasSome n other) (sym number_is) (newer.bs, newer.log_is);
        };
        older_is = at.older_is ∙ sym (looked ∙ there);
        file_is = at.file_is ∙ behind_is ∙ ap (λ (o : Bool). writer_file o r.file) (sym at.older_is);
        next_is = omega (arith, at.next_is, newer.next_is, number_is, ap length read.records_are, ap length newer.records_are, ap length kept_two, length-append rs qs);
        goes_on = (next, newer.bs, goes_two);
        starts = subst (λ (o : Bool). StartsAt o r.first log.start) (sym at.older_is) (omega (arith, at.start_is, number_is, some_records read.bs read.log_is.some read.log_is.batches_are.each));
      }

      pub writes_two : (all : List (List ℕ)) → HoldsLog r.file r.first all image → WritesBehind r.file r.first log image
      writes_two all (inl one) = absurd (not_dropped r.first next other (omega (arith, number_is)) (tells ∙ there) one.2.dropped)
      writes_two all (inr two) = record {
        numbered = w.names.numbered;
        by = subst (λ (o : Bool). WritesBy o r.file r.first log image) (sym at.older_is) (record {
          bs = read.bs;
          cs = newer.bs;
          file_is = at.file_is ∙ behind_is;
          goes_on = subst (λ (n : ℕ). GoesOn n newer.bs log image) (sym number_is) goes_two;
          holds = record {
            named = read.log_is;
            short = read_short;
            newer = subst (λ (n : ℕ). HasLog n newer.bs other) (sym number_is) newer.log_is;
            newer_short = newer_short;
            low = omega (arith, newer.next_is, number_is, low2);
          };
        });
      }
