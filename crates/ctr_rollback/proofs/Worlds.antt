-- A World over the turns of a rollback.
use Rattle.std.proofs.Common.{◌≡◌, ⊎_elim, inl, inr, ℕ, ◌+◌, ◌<◌, ◌==◌, Bool, true, false, cond, List, [], ◌∷◌, ◌++◌, refl, sym, ◌∙◌, ap, subst, arith}
use Rattle.std.proofs.lemmas.Bool.{false≢true, eqb-true}
use Rattle.std.specs.Ordering.{nat_cmp}
use Rattle.std.specs.FinMap.Entries.{find}
use Rattle.ctr_types.specs.declared.tape.Entry.{Entry}
use Rattle.ctr_model.specs.declared.state.Transaction.{Transaction}
use Rattle.ctr_model.specs.State.{has_name}
use Rattle.ctr_model.specs.Tape.{is_answer}
use Rattle.ctr_model.specs.Texts.{answers}
use Rattle.ctr_model.proofs.Sessions.{find-put-same}
use Rattle.ctr_versions.proofs.Keys.{some_is}
use Rattle.ctr_versions.specs.Engine.{SessionHeld}
use Rattle.ctr_rec.specs.declared.record.SlogItem.{SlogItem}
use Rattle.ctr_rec.specs.declared.record.SlogItem.TheVariants.{AllocOf, FreeOf, CreateOf, DropOf}
use Rattle.ctr_record_laws.specs.Owed.{IsLastItem}
use Rattle.ctr_catalog.specs.names_Held.{IsNameHeldBy}
use Rattle.ctr_area.specs.Areas.{Title}
use Rattle.ctr_area.specs.Sound.{IsAmong, IsSchemaItem}
use Rattle.ctr_stops.specs.actions_Facts.{Fact, IsOpen, HasPage, HasNoPageBut, HasBlank, HasSlot, HasCopy, HasTable, HoldsFact, IsAway, IsBeside}
use Rattle.ctr_page_turns.specs.actions_Sites.{Site}
use Rattle.ctr_page_turns.specs.actions_Actions.{undoing}
use Rattle.ctr_page_turns.proofs.actions_Latest.{last_among}
use Rattle.ctr_txn.specs.paged_Shown.{Scene}
use Rattle.ctr_txn.specs.paged_Moving.{IsActing, MovesTo}
use Rattle.ctr_stops.specs.kept_Carried.{Covers, IsUnderLock}
use Rattle.ctr_stops.specs.kept_Tables.{IsTable}
use Rattle.ctr_stops.proofs.kept_Tables.{carries_more, uses_more}
use Rattle.ctr_rollback.specs.Keeping.{AreOthersTables}
use Rattle.ctr_stops.specs.kept_Walk.{Mind}
use Rattle.ctr_stops.specs.kept_Turns.{Start, KeepsRun, InTransaction, Carries, carrying, undoing_mind, scene_now}

-- who carries nothing carries it by any locks
pub carries_none : (x : ℕ) (t : Transaction) (site : Site) → Carries x t [] site
carries_none x t site = record { held = λ fact in_. absurd in_; tables = λ fact e in_ is. absurd in_ }

-- the session within its rollback
abbrev pub undoing_seat : (c : Start) (w : Mind) (s : ℕ) (seat : InTransaction c w s) (more : List Fact) → InTransaction c (undoing_mind s seat.session more w) s
undoing_seat c w s seat more = record {
  session = record seat.session { undoing = true };
  t = seat.t;
  at = find-put-same s (record seat.session { undoing = true }) w.run.sessions;
  is_t = seat.is_t;
}

-- it carries the same once more
pub same_twice : (s : ℕ) (b : SessionHeld) (more : List Fact) (w : Mind) → carrying s more (undoing_mind s b more w) ≡ undoing_mind s b more w
same_twice s b more w = λ i. record (undoing_mind s b more w) { facts = λ r. twice (r == s) (w.facts r) i }
  where
    twice : (b : Bool) (xs : List Fact) → cond b more (cond b more xs) ≡ cond b more xs
    twice true xs = refl
    twice false xs = refl

-- the name of a table that it made or dropped is held by it
module _ (c : Start) (now s : ℕ) (site : Site) (w : Mind) (keeps : KeepsRun c now site w) (seat : InTransaction c w s) (some : 0 < seat.session.me) where
  pub its_name : (y e : ℕ) → y ≡ seat.session.me → IsSchemaItem y e site.tables.items → has_name (site.area.title e).name seat.t.holds ≡ true
  its_name y e is its = ⊎_elim held (λ nobodys. absurd (nobodys.0 s seat.session seat.at (sym is))) (keeps.scene.shown.holds.owned y e its)
    where
      held : IsNameHeldBy w.run.sessions (scene_now c w).state y (site.area.title e).name → has_name (site.area.title e).name seat.t.holds ≡ true
      held by =
          let same = keeps.scene.shown.paged.shows.apart s by.s seat.session by.session seat.at by.at some (sym is ∙ sym by.me) in
          let t_is = some_is by.t seat.t (sym by.is_t ∙ ap (λ r. find nat_cmp r (scene_now c w).state.sessions) (sym same) ∙ seat.is_t) in
          subst (λ (t : Transaction). has_name (site.area.title e).name t.holds ≡ true) t_is by.holds

  pub undoing_covered : (i : SlogItem) → IsLastItem seat.session.me i site.tables.items → Covers seat.t (undoing i) site
  undoing_covered (AllocOf y p) last = tt
  undoing_covered (FreeOf p) last = absurd (false≢true (last_among seat.session.me (FreeOf p) site.tables.items last).1)
  undoing_covered (CreateOf y e) last = let found = last_among seat.session.me (CreateOf y e) site.tables.items last in its_name y e (eqb-true y seat.session.me found.1) (inl found.0)
  undoing_covered (DropOf y e) last = let found = last_among seat.session.me (DropOf y e) site.tables.items last in its_name y e (eqb-true y seat.session.me found.1) (inr found.0)

-- tables that others made, and that are counted on, are none of those that the transaction made or dropped
module _ (c : Start) (now s : ℕ) (site : Site) (w : Mind) (keeps : KeepsRun c now site w) (seat : InTransaction c w s) (some : 0 < seat.session.me) (more : List Fact) (its : AreOthersTables seat (w.facts s) more) where
  pub its_held : (f : Fact) → IsAmong f more → HoldsFact seat.session.me f site
  its_held f in_ = keeps.scene.carried.held s seat.session f seat.at (its.among f in_)

  pub its_under : (f : Fact) → IsAmong f more → IsUnderLock seat.t f site
  its_under f in_ = keeps.scene.carried.under s seat.t f seat.is_t (its.among f in_)

  above_zero : (n : ℕ) → 0 < n → n ≡ 0 → ⊥
  above_zero n lt is = omega (arith, lt, is)

  apart_item : (i : SlogItem) → IsLastItem seat.session.me i site.tables.items → (e : ℕ) (title : Title) → IsAmong (HasTable e title) more → IsAway (undoing i) (HasTable e title)
  apart_item (AllocOf y p) last e title in_ = tt
  apart_item (FreeOf p) last e title in_ = tt
  apart_item (CreateOf y f) last e title in_ = λ is.
      let found = last_among seat.session.me (CreateOf y f) site.tables.items last in
      let made = keeps.scene.shown.paged.sound.names.creates y f found.0 in
      its.others e title in_ (ap (λ (t : Title). t.creator) (sym (its_held (HasTable e title) in_)) ∙ ap (λ n. (site.area.title n).creator) is ∙ made.1 ∙ eqb-true y seat.session.me found.1)
  apart_item (DropOf y f) last e title in_ = λ is.
      let found = last_among seat.session.me (DropOf y f) site.tables.items last in
      let dropped = keeps.scene.shown.paged.sound.names.drops y f found.0 in
      above_zero seat.session.me some (sym (eqb-true y seat.session.me found.1) ∙ sym dropped.1 ∙ ap (λ n. (site.area.title n).dropper) (sym is) ∙ ap (λ (t : Title). t.dropper) (its_held (HasTable e title) in_) ∙ (its_under (HasTable e title) in_).2)

  pub apart_fact : (i : SlogItem) → IsLastItem seat.session.me i site.tables.items → (f : Fact) → IsTable f → IsAmong f more → IsAway (undoing i) f × IsBeside (undoing i) f
  apart_fact i last (HasTable e title) is in_ = (apart_item i last e title in_, beside i)
    where
      beside : (i : SlogItem) → IsBeside (undoing i) (HasTable e title)
      beside (AllocOf y p) = tt
      beside (FreeOf p) = tt
      beside (CreateOf y f) = tt
      beside (DropOf y f) = tt
  apart_fact i last IsOpen is in_ = absurd is
  apart_fact i last (HasPage p) is in_ = absurd is
  apart_fact i last (HasNoPageBut ps) is in_ = absurd is
  apart_fact i last (HasBlank p h) is in_ = absurd is
  apart_fact i last (HasSlot e at slot) is in_ = absurd is
  apart_fact i last (HasCopy e at v q) is in_ = absurd is

  -- so they are carried, wherever their titles stay
  pub its_carried : (z : Site) → ((f : Fact) → IsAmong f more → HoldsFact seat.session.me f z) → Carries seat.session.me seat.t more z
  its_carried z held = carries_more seat.session.me more its.tables seat.t seat.t site z [] its_under (uses_more seat.t seat.t (λ name is. is) (λ name is. is)) held (carries_none seat.session.me seat.t z)

-- what undoes an item is to the model nothing
pub undoing_moves : (low x : ℕ) (site : Site) (scene : Scene) (by : IsActing scene x) → by.session.undoing ≡ true → (i : SlogItem) → MovesTo low x (undoing i) site scene scene
undoing_moves low x site scene by is (AllocOf y p) = refl
undoing_moves low x site scene by is (FreeOf p) = refl
undoing_moves low x site scene by is (CreateOf y e) = inl (record { by = by; undoing = is; leads = refl })
undoing_moves low x site scene by is (DropOf y e) = inl (record { by = by; undoing = is; leads = refl })

-- an entry that is no answer
pub no_answer : (es : List Entry) (e : Entry) → is_answer e.reply ≡ false → answers (es ++ e ∷ []) ≡ answers es
no_answer [] e isnt = ap (λ b. cond b 1 0 + 0) isnt
no_answer (f ∷ es) e isnt = ap (λ n. cond (is_answer f.reply) 1 0 + n) (no_answer es e isnt)
