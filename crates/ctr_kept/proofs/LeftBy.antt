-- Undo's list stays over each action of a session, and of the cleaner.
use Rattle.std.proofs.Common.{⊎_elim, cond, ap, true, ◌≡◌, inl, inr, ℕ, ◌≤◌, true, false, cond, List, refl, sym, ◌∙◌, ap, subst, arith}
use Rattle.std.specs.Ordering.{nat_cmp}
use Rattle.std.specs.FinMap.Entries.{find}
use Rattle.std.proofs.lemmas.Bool.{ne_eqb}
use Rattle.ctr_rec.specs.declared.record.SlogItem.{SlogItem}
use Rattle.ctr_rec.specs.declared.record.SlogItem.TheVariants.{AllocOf, FreeOf, CreateOf, DropOf}
use Rattle.ctr_model.proofs.Sessions.{find-put-same}
use Rattle.ctr_versions.specs.Engine.{SessionHeld}
use Rattle.ctr_versions.specs.Laws.{IsNoSessions}
use Rattle.ctr_meta.specs.Items.{is_item_by}
use Rattle.ctr_meta.specs.Tables.{is_in}
use Rattle.ctr_paged.specs.area_Sound.{IsAmong}
use Rattle.ctr_paged.specs.actions_Sites.{Site, IsSoundSite}
use Rattle.ctr_paged.specs.actions_Actions.{Action, Begins, Owes, site_after}
use Rattle.ctr_paged.specs.Shown.{Scene}
use Rattle.ctr_paged.specs.Moving.{DrawsNumber, MovesTo}
use Rattle.ctr_paged.proofs.actions_Opens.{open_stays}
use Rattle.ctr_paged.proofs.actions_Order.{front_stays}
use Rattle.ctr_paged.specs.record_laws_Bounds.{IsInBounds}
use Rattle.ctr_kept.proofs.Opening.{open_since, opened_by, next_grows}
use Rattle.ctr_kept.specs.Undo.{SparesUndo, Undo, IsSessions, IsTheirs, IsUndoLeft}

-- who has begun by an action is a session's
pub drawn_seat : (low y : ℕ) (a : Action) (site : Site) (scene next : Scene) → MovesTo low y a site scene next → a ≡ Begins → IsSessions next.run.sessions y
drawn_seat low y a site scene next to is =
    let draws : DrawsNumber y scene next = subst (λ (z : Action). MovesTo low y z site scene next) is to in
    let now : SessionHeld = record draws.by.session { me = y } in record {
      s = draws.by.s;
      session = now;
      at = ap (λ (z : Scene). find nat_cmp draws.by.s z.run.sessions) draws.leads ∙ find-put-same draws.by.s now scene.run.sessions;
      me = refl;
    }

module _ (site : Site) (bounds : IsInBounds site.area) (sound : IsSoundSite site) (sessions : List (ℕ × SessionHeld)) (u : Undo) (left : IsUndoLeft site.tables sessions u)
    (x : ℕ) (apart : IsAmong x u.orphans → ⊥) where
  not_own : (i : SlogItem) → IsTheirs u.orphans i → is_item_by x i ≡ false
  not_own (AllocOf y p) in_ = ap (λ b. cond b true false) (ne_eqb y x (λ is. apart (subst (λ q. IsAmong q u.orphans) is in_)))
  not_own (FreeOf p) in_ = refl
  not_own (CreateOf y e) in_ = ne_eqb y x (λ is. apart (subst (λ q. IsAmong q u.orphans) is in_))
  not_own (DropOf y e) in_ = ne_eqb y x (λ is. apart (subst (λ q. IsAmong q u.orphans) is in_))

  no_less : {a b c : ℕ} → a ≤ b → b ≤ c → a ≤ c
  no_less p q = omega (arith, p, q)

  -- sessions may move with it: who is open and a session's is so still, and so is who has begun
  pub left_by : (a : Action) → Owes x a site → SparesUndo a u → (next : List (ℕ × SessionHeld)) → ((y : ℕ) → IsAmong y u.orphans → IsNoSessions next y)
      → ((y : ℕ) → is_in y (site_after x a site).tables.opens ≡ true → IsSessions sessions y → IsSessions next y) → (a ≡ Begins → IsSessions next x) → IsUndoLeft (site_after x a site).tables next u
  left_by a owed spares next nobodys seats begins =
      let stays = front_stays x site bounds sound u.items left.run left.items (λ i in_. not_own i (left.theirs i in_)) a owed spares in record {
        run = stays.0;
        items = stays.1;
        theirs = left.theirs;
        own = λ y in_. stays.2 y (λ is. apart (subst (λ q. IsAmong q u.orphans) (sym is) in_)) (left.own y in_);
        are_open = λ y in_. open_stays y x a site (inr (λ is. apart (subst (λ q. IsAmong q u.orphans) is in_))) (left.are_open y in_);
        nobodys = nobodys;
        once = left.once;
        begun = λ y open_. ⊎_elim (left.begun y) (λ since. inr (no_less left.numbered since)) (open_since y x a site owed open_);
        seated = λ y open_. ⊎_elim (λ was. ⊎_elim (λ theirs. inl theirs) (λ its. inr (seats y open_ its)) (left.seated y was)) (λ new. inr (subst (IsSessions next) (sym new.0) (begins new.1))) (opened_by y x a site open_);
        numbered = no_less left.numbered (next_grows x a site);
      }
