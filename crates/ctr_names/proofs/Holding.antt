-- Who keeps a name from others, over each kind of turn.
use Rattle.std.proofs.Common.{List, None, Some, [], ap, arith, false, inl, inr, refl, subst, sym, true, ℕ, ⊎_elim, ◌++◌, ◌<◌, ◌==◌, ◌∙◌, ◌∷◌, ◌≡◌, ◌⊎◌}
use Rattle.std.specs.FinMap.Entries.{find, put}
use Rattle.std.specs.Ordering.{nat_cmp}
use Rattle.std.specs.Prelude.{is_some}
use Rattle.std.proofs.lemmas.Bool.{eqb-true, false≢true}
use Rattle.ctr_record_laws.specs.model_Maps.{without}
use Rattle.ctr_record_laws.specs.model_Reply.{without_name}
use Rattle.ctr_record_laws.specs.model_State.{has_name, same_name, with_transaction}
use Rattle.ctr_record_laws.specs.model_declared_state_State.{State}
use Rattle.ctr_record_laws.specs.model_Transaction.{Transaction}
use Rattle.ctr_record_laws.proofs.model_Sessions.{find-put-other, find-put-same, find-without-other, find-without-same}
use Rattle.ctr_record_laws.specs.versions_Engine.{SessionHeld}
use Rattle.ctr_record_laws.specs.versions_Laws.{IsNoSessions}
use Rattle.ctr_record_laws.proofs.versions_Keys.{known, same_text, some_is}
use Rattle.ctr_record_laws.proofs.versions_Written.{same_itself}
use Rattle.ctr_record_laws.specs.rec_SlogItem.{SlogItem}
use Rattle.ctr_record_laws.specs.rec_SlogItem.TheVariants.{AllocOf, CreateOf, DropOf, FreeOf}
use Rattle.ctr_record_laws.specs.meta_Items.{is_wanted, left_out}
use Rattle.ctr_record_laws.specs.meta_Wanted.{Wanted}
use Rattle.ctr_record_laws.specs.meta_Wanted.TheVariants.{Allocation, OfPage}
use Rattle.ctr_record_laws.specs.area_Areas.{Title}
use Rattle.ctr_record_laws.specs.area_Sound.{IsSchemaItem}
use Rattle.ctr_record_laws.proofs.Members.{among_front, among_parts}
use Rattle.ctr_record_laws.proofs.Named.{IsOfPage, alloc_of_page, free_of_page}
use Rattle.ctr_names.specs.Held.{HaveSameTables, HoldsNames, IsNameHeldBy}
use Rattle.ctr_names.proofs.Held.{holds_moved, holds_released}
use Rattle.ctr_names.proofs.Items.{left_fewer, left_keeps, schema_map}

pub same_items : (items : List SlogItem) → HaveSameTables items items
same_items items = record { back = λ y f i. i; still = λ y f i. i }

pub page_items : (i : SlogItem) (items : List SlogItem) → IsOfPage i → HaveSameTables items (items ++ i ∷ [])
page_items i items page = record {
  back = λ y f item. schema_map y f (items ++ i ∷ []) items
      (λ c. ⊎_elim (λ was. was) (λ here. ⊎_elim (λ is. absurd (page.no_create y f is)) (λ none. absurd none) here) (among_parts (CreateOf y f) items (i ∷ []) c))
      (λ d. ⊎_elim (λ was. was) (λ here. ⊎_elim (λ is. absurd (page.no_drop y f is)) (λ none. absurd none) here) (among_parts (DropOf y f) items (i ∷ []) d)) item;
  still = λ y f item. schema_map y f items (items ++ i ∷ []) (λ c. among_front (CreateOf y f) items (i ∷ []) c) (λ d. among_front (DropOf y f) items (i ∷ []) d) item;
}

pub alloc_items : (x p : ℕ) (items : List SlogItem) → HaveSameTables items (items ++ AllocOf x p ∷ [])
alloc_items x p items = page_items (AllocOf x p) items (alloc_of_page x p)

pub free_items : (p : ℕ) (items : List SlogItem) → HaveSameTables items (items ++ FreeOf p ∷ [])
free_items p items = page_items (FreeOf p) items (free_of_page p)

-- the earliest item that is wanted goes, which is of no table
pub out_items : (w : Wanted) (items : List SlogItem) → ((y f : ℕ) → is_wanted w (CreateOf y f) ≡ false) → ((y f : ℕ) → is_wanted w (DropOf y f) ≡ false) → HaveSameTables items (left_out w items)
out_items w items no_create no_drop = record {
  back = λ y f item. schema_map y f (left_out w items) items (left_fewer w (CreateOf y f) items) (left_fewer w (DropOf y f) items) item;
  still = λ y f item. schema_map y f items (left_out w items) (left_keeps w (CreateOf y f) items (no_create y f)) (left_keeps w (DropOf y f) items (no_drop y f)) item;
}

pub linked_items : (x p : ℕ) (items : List SlogItem) → HaveSameTables items (left_out (Allocation x p) items)
linked_items x p items = out_items (Allocation x p) items (λ y f. refl) (λ y f. refl)

pub freed_items : (p : ℕ) (items : List SlogItem) → HaveSameTables items (left_out (OfPage p) items)
freed_items p items = out_items (OfPage p) items (λ y f. refl) (λ y f. refl)

-- ---- one session moves

-- who holds a name does so still, where that is another session, or this one does
pub held_moved : (s y : ℕ) (name : List ℕ) (sessions next : List (ℕ × SessionHeld)) (state after : State)
    → ((r : ℕ) → (r == s) ≡ false → find nat_cmp r next ≡ find nat_cmp r sessions) → ((r : ℕ) → (r == s) ≡ false → find nat_cmp r after.sessions ≡ find nat_cmp r state.sessions)
    → ((a : SessionHeld) (t : Transaction) → find nat_cmp s sessions ≡ Some a → find nat_cmp s state.sessions ≡ Some t → a.me ≡ y → has_name name t.holds ≡ true → IsNameHeldBy next after y name)
    → IsNameHeldBy sessions state y name → IsNameHeldBy next after y name
held_moved s y name sessions next state after others transactions here its = known (its.s == s)
    (λ one. let same = eqb-true its.s s one in
    here its.session its.t (ap (λ q. find nat_cmp q sessions) (sym same) ∙ its.at) (ap (λ q. find nat_cmp q state.sessions) (sym same) ∙ its.is_t) its.me its.holds)
    (λ two. record { s = its.s; session = its.session; t = its.t; at = others its.s two ∙ its.at; is_t = transactions its.s two ∙ its.is_t; me = its.me; holds = its.holds })

pub nobodys_moved : (s y : ℕ) (sessions next : List (ℕ × SessionHeld)) → ((r : ℕ) → (r == s) ≡ false → find nat_cmp r next ≡ find nat_cmp r sessions)
    → ((b : SessionHeld) → find nat_cmp s next ≡ Some b → b.me ≡ y → ⊥) → IsNoSessions sessions y → IsNoSessions next y
nobodys_moved s y sessions next others here none r b at same = known (r == s)
    (λ one. here b (ap (λ q. find nat_cmp q next) (sym (eqb-true r s one)) ∙ at) same)
    (λ two. none r b (sym (others r two) ∙ at) same)

-- what holds of who is replaced
put_is : {X : Type 0} (s : ℕ) (a b : X) (m : List (ℕ × X)) → find nat_cmp s (put nat_cmp s a m) ≡ Some b → b ≡ a
put_is s a b m at = sym (some_is a b (sym (find-put-same s a m) ∙ at))

gone_is : {X : Type 0} (s : ℕ) (b : X) (m : List (ℕ × X)) → find nat_cmp s (without nat_cmp s m) ≡ Some b → ⊥
gone_is s b m at = false≢true (ap is_some (sym (find-without-same s m) ∙ at))

module _ (items : List SlogItem) (title : ℕ → Title) (sessions : List (ℕ × SessionHeld)) (state : State) (holds : HoldsNames items title sessions state) where
  -- items of other kinds alone, and titles of the same names
  pub holds_same : (new : List SlogItem) (now : ℕ → Title) → HaveSameTables items new → ((y f : ℕ) → IsSchemaItem y f items → (now f).name ≡ (title f).name) → HoldsNames new now sessions state
  holds_same new now same names = holds_moved items new title now sessions sessions state state
      (λ y f item. inl (same.back y f item, names y f (same.back y f item))) (λ y f item its. its) (λ y f item its. its)
      (λ y f item its. (same.still y f item, names y f item)) refl holds

  -- a session moves, with the items as they were
  pub holds_session : (s : ℕ) (next : List (ℕ × SessionHeld)) (after : State)
      → ((r : ℕ) → (r == s) ≡ false → find nat_cmp r next ≡ find nat_cmp r sessions) → ((r : ℕ) → (r == s) ≡ false → find nat_cmp r after.sessions ≡ find nat_cmp r state.sessions)
      → ((y f : ℕ) (a : SessionHeld) (t : Transaction) → IsSchemaItem y f items → find nat_cmp s sessions ≡ Some a → find nat_cmp s state.sessions ≡ Some t → a.me ≡ y → has_name (title f).name t.holds ≡ true → IsNameHeldBy next after y (title f).name)
      → ((y f : ℕ) (b : SessionHeld) → IsSchemaItem y f items → IsNoSessions sessions y → find nat_cmp s next ≡ Some b → b.me ≡ y → ⊥)
      → after.stuck ≡ state.stuck → HoldsNames items title next after
  holds_session s next after others transactions here none stuck = holds_moved items items title title sessions next state after
      (λ y f item. inl (item, refl))
      (λ y f item its. held_moved s y (title f).name sessions next state after others transactions (λ a t at is_t me has_. here y f a t item at is_t me has_) its)
      (λ y f item its. nobodys_moved s y sessions next others (λ b at me. none y f b item its at me) its)
      (λ y f item its. (item, refl)) stuck holds

  -- a transaction holds all that it held
  pub holds_granted : (s : ℕ) (t u : Transaction) → find nat_cmp s state.sessions ≡ Some t → ((name : List ℕ) → has_name name t.holds ≡ true → has_name name u.holds ≡ true) → HoldsNames items title sessions (with_transaction s u state)
  holds_granted s t u is_t more = holds_session s sessions (with_transaction s u state) (λ r two. refl) (λ r two. find-put-other r s u state.sessions two)
      (λ y f a v item at is_v me has_. record { s = s; session = a; t = u; at = at; is_t = find-put-same s u state.sessions; me = me; holds = more (title f).name (subst (λ (w : Transaction). has_name (title f).name w.holds ≡ true) (some_is v t (sym is_v ∙ is_t)) has_) })
      (λ y f b item its at me. its s b at me) refl

  -- BEGIN: the session wasn't there, and has no number yet
  pub holds_begun : (s : ℕ) (b : SessionHeld) (u : Transaction) → ((y f : ℕ) → IsSchemaItem y f items → 0 < y) → b.me ≡ 0 → find nat_cmp s state.sessions ≡ None → HoldsNames items title (put nat_cmp s b sessions) (with_transaction s u state)
  holds_begun s b u some zero_ none = holds_session s (put nat_cmp s b sessions) (with_transaction s u state) (λ r two. find-put-other r s b sessions two) (λ r two. find-put-other r s u state.sessions two)
      (λ y f a t item at is_t me has_. absurd (false≢true (ap is_some (sym none ∙ is_t))))
      (λ y f c item its at me. never y (some y f item) (sym me ∙ ap (λ (d : SessionHeld). d.me) (put_is s b c sessions at) ∙ zero_)) refl
    where
      never : (y : ℕ) → 0 < y → y ≡ 0 → ⊥
      never y lt z = omega (arith, lt, z)

  -- a number is drawn, which no item has
  pub holds_drawn : (s : ℕ) (a b : SessionHeld) (u : Transaction) → find nat_cmp s sessions ≡ Some a → a.me ≡ 0 → ((y f : ℕ) → IsSchemaItem y f items → (0 < y) × (y < b.me)) → HoldsNames items title (put nat_cmp s b sessions) (with_transaction s u state)
  holds_drawn s a b u at zero_ some = holds_session s (put nat_cmp s b sessions) (with_transaction s u state) (λ r two. find-put-other r s b sessions two) (λ r two. find-put-other r s u state.sessions two)
      (λ y f c t item at_c is_t me has_. absurd (never y (some y f item).0 (sym me ∙ ap (λ (d : SessionHeld). d.me) (some_is c a (sym at_c ∙ at)) ∙ zero_)))
      (λ y f c item its at_c me. beyond y b.me (some y f item).1 (sym me ∙ ap (λ (d : SessionHeld). d.me) (put_is s b c sessions at_c))) refl
    where
      never : (y : ℕ) → 0 < y → y ≡ 0 → ⊥
      never y lt z = omega (arith, lt, z)

      beyond : (y n : ℕ) → y < n → y ≡ n → ⊥
      beyond y n lt is = omega (arith, lt, is)

  -- a rollback of several steps begins
  pub holds_undoing : (s : ℕ) (a b : SessionHeld) → find nat_cmp s sessions ≡ Some a → b.me ≡ a.me → HoldsNames items title (put nat_cmp s b sessions) state
  holds_undoing s a b at same = holds_session s (put nat_cmp s b sessions) state (λ r two. find-put-other r s b sessions two) (λ r two. refl)
      (λ y f c t item at_c is_t me has_. record { s = s; session = b; t = t; at = find-put-same s b sessions; is_t = is_t; me = same ∙ ap (λ (d : SessionHeld). d.me) (sym (some_is c a (sym at_c ∙ at))) ∙ me; holds = has_ })
      (λ y f c item its at_c me. its s a at (sym same ∙ ap (λ (d : SessionHeld). d.me) (sym (put_is s b c sessions at_c)) ∙ me)) refl

  -- a session ends that has no item of a table
  pub holds_ended : (s : ℕ) (after : State) → after.sessions ≡ without nat_cmp s state.sessions → after.stuck ≡ state.stuck
      → ((a : SessionHeld) (f : ℕ) → find nat_cmp s sessions ≡ Some a → IsSchemaItem a.me f items → ⊥) → HoldsNames items title (without nat_cmp s sessions) after
  holds_ended s after ended stuck none = holds_session s (without nat_cmp s sessions) after (λ r two. find-without-other r s sessions two)
      (λ r two. ap (find nat_cmp r) ended ∙ find-without-other r s state.sessions two)
      (λ y f a t item at is_t me has_. absurd (none a f at (subst (λ z. IsSchemaItem z f items) (sym me) item)))
      (λ y f b item its at me. gone_is s b sessions at) stuck

  -- ---- items of tables

  -- a session that holds the name makes or drops a table of it
  pub holds_more : (i : SlogItem) (x e : ℕ) (now : ℕ → Title) → ((y f : ℕ) → IsSchemaItem y f (items ++ i ∷ []) → IsSchemaItem y f items ⊎ ((y ≡ x) × (f ≡ e))) → ((y f : ℕ) → IsSchemaItem y f items → (now f).name ≡ (title f).name)
      → IsNameHeldBy sessions state x (now e).name → HoldsNames (items ++ i ∷ []) now sessions state
  holds_more i x e now parts names mine = holds_moved items (items ++ i ∷ []) title now sessions sessions state state
      (λ y f item. ⊎_elim (λ was. inl (was, names y f was)) (λ here. inr (subst (λ z. IsNameHeldBy sessions state z (now f).name) (sym here.0) (subst (λ g. IsNameHeldBy sessions state x (now g).name) (sym here.1) mine))) (parts y f item))
      (λ y f item its. its) (λ y f item its. its)
      (λ y f item its. (schema_map y f items (items ++ i ∷ []) (λ c. among_front (CreateOf y f) items (i ∷ []) c) (λ d. among_front (DropOf y f) items (i ∷ []) d) item, names y f item)) refl holds

  -- a session's items of tables go, some or all
  pub holds_less : (new : List SlogItem) (now : ℕ → Title) (s : ℕ) (a : SessionHeld) → find nat_cmp s sessions ≡ Some a → ((y f : ℕ) → IsSchemaItem y f new → IsSchemaItem y f items)
      → ((y f : ℕ) → (y ≡ a.me → ⊥) → IsSchemaItem y f items → IsSchemaItem y f new) → ((y f : ℕ) → IsSchemaItem y f items → (now f).name ≡ (title f).name) → HoldsNames new now sessions state
  holds_less new now s a at back still names = holds_moved items new title now sessions sessions state state
      (λ y f item. inl (back y f item, names y f (back y f item))) (λ y f item its. its) (λ y f item its. its)
      (λ y f item its. (still y f (λ is. its s a at (sym is)) item, names y f item)) refl holds

  -- recovery undoes an item of a name that has others
  pub holds_fewer : (new : List SlogItem) (now : ℕ → Title) (name : List ℕ) (z g : ℕ) → ((y f : ℕ) → IsSchemaItem y f new → IsSchemaItem y f items)
      → ((y f : ℕ) → IsSchemaItem y f items → IsSchemaItem y f new ⊎ ((title f).name ≡ name)) → ((y f : ℕ) → IsSchemaItem y f items → (now f).name ≡ (title f).name)
      → IsSchemaItem z g new → (title g).name ≡ name → IsNoSessions sessions z → HoldsNames new now sessions state
  holds_fewer new now name z g back still names item is nobodys = record {
    owned = λ y f item. ⊎_elim
        (λ its. inl (subst (IsNameHeldBy sessions state y) (sym (names y f (back y f item))) its))
        (λ its. inr (its.0, ap (λ n. has_name n state.stuck) (names y f (back y f item)) ∙ its.1))
        (holds.owned y f (back y f item));
    left = λ other has_. let one = holds.left other has_ in
        ⊎_elim
        (λ there. (one.0, one.1, there, names one.0 one.1 one.2 ∙ one.3, one.4))
        (λ gone. (z, g, item, names z g (back z g item) ∙ is ∙ sym gone ∙ one.3, nobodys))
        (still one.0 one.1 one.2);
  }

  -- recovery undoes the last one of a name, and lets it go
  pub holds_freed : (new : List SlogItem) (now : ℕ → Title) (name : List ℕ) → ((y f : ℕ) → IsSchemaItem y f new → IsSchemaItem y f items)
      → ((y f : ℕ) → IsSchemaItem y f items → IsSchemaItem y f new ⊎ ((title f).name ≡ name)) → ((y f : ℕ) → IsSchemaItem y f items → (now f).name ≡ (title f).name)
      → ((y f : ℕ) → IsSchemaItem y f new → (title f).name ≡ name → ⊥) → HoldsNames new now sessions (record state { stuck = without_name name state.stuck })
  holds_freed new now name back still names last = holds_released items new title now sessions sessions state (record state { stuck = without_name name state.stuck })
      (λ y f item. inl (back y f item, names y f (back y f item)))
      (λ y f item its. record { s = its.s; session = its.session; t = its.t; at = its.at; is_t = its.is_t; me = its.me; holds = its.holds })
      (λ y f item its. its) name
      (λ y f item its apart. (⊎_elim (λ there. there) (λ is. absurd (false≢true (sym apart ∙ ap (same_name name) is ∙ same_itself name))) (still y f item), names y f item))
      (λ y f item its. known (same_name name (title f).name) (λ is. absurd (last y f item (sym (same_text name (title f).name is)))) (λ isnt. isnt)) refl holds
