-- What a stop leaves, over entries more and over a call.
use Rattle.std.proofs.Common.{◌≡◌, inl, inr, ⊎_elim, ℕ, ◌+◌, ◌<◌, ◌≤◌, List, [], ◌∷◌, ◌++◌, length, take, sym, ◌∙◌, ap, subst, arith, length-append}
use Rattle.std.specs.List.{AllByRecursion}
use Rattle.std.proofs.lemmas.List.{take-append-le}
use Rattle.ctr_types.specs.declared.tape.Entry.{Entry}
use Rattle.ctr_disk.specs.Image.{Image}
use Rattle.ctr_disk.specs.declared.disk.Disk.{Ghosts}
use Rattle.ctr_disk.specs.Device.{LeavesOnly}
use Rattle.ctr_model.specs.declared.database.Change.{Change}
use Rattle.ctr_model.specs.Database.{Database, after_all}
use Rattle.ctr_model.specs.Tape.{answered_by}
use Rattle.ctr_model.specs.Texts.{answers}
use Rattle.ctr_kept.proofs.legal_Answered.{order, answered_before, answered_at_most}
use Rattle.ctr_stops.specs.Stops.{StandsForRows, HasFirstCommits, NoEntryBy, LeavesPrefixAt, LeftSince}

none_more : (t m : ℕ) (es more : List Entry) → NoEntryBy t es → t < m → AllByRecursion (λ (e : Entry). e.moment ≡ m) more → NoEntryBy t (es ++ more)
none_more t m [] [] none lt all = tt
none_more t m [] (e ∷ more) none lt all = let at = all.0 in omega (arith, lt, at)
none_more t m (d ∷ es) more none lt all = none

-- ---- commits

pub has_less : (base : Database) (asked : List (List Change)) (least less : ℕ) (c : Image) → less ≤ least → HasFirstCommits base asked least c → HasFirstCommits base asked less c
has_less base asked least less c le h = record { k = h.k; at_least = omega (arith, le, h.at_least); at_most = h.at_most; stands = h.stands }

pub has_more : (base : Database) (asked more all : List (List Change)) (least : ℕ) (c : Image) → all ≡ asked ++ more → HasFirstCommits base asked least c → HasFirstCommits base all least c
has_more base asked more all least c is h =
    let same : take h.k asked ≡ take h.k all = sym (take-append-le h.k asked more h.at_most) ∙ ap (take h.k) (sym is) in
    let long : length all ≡ length asked + length more = ap length is ∙ length-append asked more in
    record { k = h.k; at_least = h.at_least; at_most = omega (arith, h.at_most, long); stands = subst (λ (l : List (List Change)). StandsForRows c (after_all l base)) same h.stands }

module _ {D : Type 0} (dev : Ghosts D) (earlier : (d : D) (s t : ℕ) (c : Image) → s ≤ t → dev.since d t c → dev.since d s c)
    (start : ℕ) (before : Image → Type 0) (base : Database) where
  -- entries more, of this moment
  pub survives_more : (asked more all : List (List Change)) (es entries : List Entry) (d : D) → LeftSince dev start d (LeavesPrefixAt before base asked es)
      → AllByRecursion (λ (e : Entry). e.moment ≡ dev.moment_of d) entries → all ≡ asked ++ more
      → ((c : Image) → dev.since d (dev.moment_of d) c → HasFirstCommits base all (answers (es ++ entries)) c) → LeftSince dev start d (LeavesPrefixAt before base all (es ++ entries))
  survives_more asked more all es entries d so_far at is now t c start_le le left =
      ⊎_elim
      (λ is_now. inl (has_less base all (answers (es ++ entries)) (answered_by t (es ++ entries)) c (answered_at_most t (es ++ entries)) (now c (earlier d (dev.moment_of d) t c is_now left))))
      (λ was. ⊎_elim
      (λ h. inl (subst (λ (n : ℕ). HasFirstCommits base all n c) (sym (answered_before t (dev.moment_of d) es entries was at)) (has_more base asked more all (answered_by t es) c is h)))
      (λ h. inr (h.0, none_more t (dev.moment_of d) es entries h.1 was at))
      (so_far t c start_le le left))
      (order (dev.moment_of d) t)

  -- a call that leaves enough commits
  pub survives_call : (asked : List (List Change)) (es : List Entry) (old new : D) (P : Image → Type 0) → start ≤ dev.moment_of old → LeftSince dev start old (LeavesPrefixAt before base asked es)
      → LeavesOnly dev old new P
      → ((c : Image) → P c → HasFirstCommits base asked (answers es) c) → LeftSince dev start new (LeavesPrefixAt before base asked es)
  survives_call asked es old new P later so_far leaves enough t c start_le le left =
      let has : P c → HasFirstCommits base asked (answered_by t es) c = λ p. has_less base asked (answers es) (answered_by t es) c (answered_at_most t es) (enough c p) in
      ⊎_elim
      (λ was. ⊎_elim (λ h. so_far t c start_le was h) (λ p. inl (has p)) (leaves.before t c was left))
      (λ after. inl (has (leaves.each c (earlier new (dev.moment_of old) t c (omega (arith, after)) left))))
      (order t (dev.moment_of old))

  -- entries more that answer none: the last call's images are enough
  pub survives_noted : (asked more all : List (List Change)) (es entries : List Entry) (d : D) → LeftSince dev start d (LeavesPrefixAt before base asked es)
      → AllByRecursion (λ (e : Entry). e.moment ≡ dev.moment_of d) entries → all ≡ asked ++ more → answers (es ++ entries) ≡ answers es
      → ((c : Image) → dev.since d (dev.moment_of d) c → HasFirstCommits base asked (answers es) c) → LeftSince dev start d (LeavesPrefixAt before base all (es ++ entries))
  survives_noted asked more all es entries d so_far at is none now = survives_more asked more all es entries d so_far at is
      (λ c left. subst (λ n. HasFirstCommits base all n c) (sym none) (has_more base asked more all (answers es) c is (now c left)))
