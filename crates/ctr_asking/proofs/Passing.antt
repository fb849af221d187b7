-- A session that asks in a scene is one that reads its pages, and what it stands on where nothing that tells of the name refuses it.
use Rattle.std.proofs.Common.{◌≡◌, ℕ, ◌==◌, Bool, true, false, cond, List, Option, Some, None, refl, sym, ◌∙◌, ap, subst}
use Rattle.std.specs.Prelude.{drop, is_some}
use Rattle.std.specs.List.{AllByRecursion}
use Rattle.std.specs.Option.{option_map}
use Rattle.std.proofs.lemmas.Bool.{eqb-true, true≢false}
use Rattle.ctr_types.specs.declared.statement.Statement.{Statement}
use Rattle.ctr_types.specs.declared.tape.Refusal.TheVariants as refusal
use Rattle.ctr_model.specs.State.{has_name}
use Rattle.ctr_model.specs.Refusals.{first_of, first_session, others, is_busy, busy_by, changes_schema, name_refusals, schema_changed_by}
use Rattle.ctr_versions.specs.Chains.{IsUnwritten}
use Rattle.ctr_versions.specs.Keys.{schema_writes}
use Rattle.ctr_versions.proofs.Keys.{known}
use Rattle.ctr_legal.specs.Kept.{IsFirm}
use Rattle.ctr_legal.proofs.Keep.{all_none, idle_first, quiet_name}
use Rattle.ctr_sessions.proofs.Alike.{unmapped}
use Rattle.ctr_names.specs.Search.{IsNumberOf}
use Rattle.ctr_wishes.specs.actions_Sites.{Site}
use Rattle.ctr_txn.specs.paged_Shown.{Scene}
use Rattle.ctr_wishes.specs.ctr_views.Viewing.{Viewer}
use Rattle.ctr_txn.specs.Held.{TxnHeld, scene_with}
use Rattle.ctr_txn.proofs.Runs.{found_is}
use Rattle.ctr_asking.specs.declared.asker.Asker.{Asker}
use Rattle.ctr_asking.specs.Asking.{Asking, me_held}

-- who is kept off by nobody isn't kept off by recovery
pub free_first : (stuck : Bool) (o : Option ℕ) → cond stuck (Some 0) o ≡ None → stuck ≡ false
free_first true o is = absurd (true≢false (ap is_some is))
free_first false o is = refl

-- what a transaction has drawn is its number
pub number_held : (t : TxnHeld) → IsNumberOf t.session (me_held t)
number_held t = known (t.session.me == 0)
    (λ none. subst (IsNumberOf t.session) (sym (ap (λ b. cond b None (Some t.session.me)) none)) (eqb-true t.session.me 0 none))
    (λ some. subst (IsNumberOf t.session) (sym (ap (λ b. cond b None (Some t.session.me)) some)) refl)

module _ (asker : Asker) (site : Site) (k : Asking asker site) where
  abbrev pub scene : Scene
  scene = scene_with asker.txns.now k.state

  pub is_me : IsNumberOf k.txn.session (me_held k.txn)
  is_me = number_held k.txn

  -- the session as a reader of pages
  abbrev pub viewer : Viewer scene
  viewer = record {
    s = asker.s;
    session = k.txn.session;
    t = k.t;
    me = me_held k.txn;
    at = found_is asker.s asker.txns.now k.one ∙ ap (option_map (λ (t : TxnHeld). t.session)) k.in_it;
    is_t = k.is_t;
    calm = k.calm;
    is_me = is_me;
  }

  pub firm : IsFirm k.state.asked k.t
  firm = k.kept.firm asker.s k.t k.is_t k.calm.0

  module _ (statement : Statement) (name : List ℕ) where
    abbrev pub IsIdle : Type 0
    IsIdle = first_session (is_busy (changes_schema statement) name) (others asker.s k.state) ≡ None

    pub idle : busy_by k.state asker.s statement name ≡ None → IsIdle
    idle unbusy = idle_first (has_name name k.state.stuck) (first_session (is_busy (changes_schema statement) name) (others asker.s k.state)) unbusy

    -- nobody who asked and isn't answered has made or dropped a table of the name
    pub quiet : busy_by k.state asker.s statement name ≡ None → AllByRecursion IsUnwritten (drop k.state.answered (schema_writes name k.state.asked))
    quiet unbusy = quiet_name k.state asker.s k.kept k.t k.is_t k.calm.0 (changes_schema statement) name (idle unbusy)

    module _ (free : first_of (name_refusals k.state asker.s k.t statement name) ≡ None) where
      pub unbusy : busy_by k.state asker.s statement name ≡ None
      unbusy = unmapped (λ (n : ℕ). refusal.TableBusy n) (busy_by k.state asker.s statement name) (all_none (name_refusals k.state asker.s k.t statement name) free).0

      pub unchanged : schema_changed_by k.state k.t name ≡ None
      unchanged = unmapped (λ (n : ℕ). refusal.SchemaChanged n) (schema_changed_by k.state k.t name) (all_none (name_refusals k.state asker.s k.t statement name) free).1.0
