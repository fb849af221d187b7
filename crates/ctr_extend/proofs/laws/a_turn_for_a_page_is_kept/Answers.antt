use Rattle.std.proofs.Common.{inl, inr, List, [], ◌++◌, refl, sym, ◌∙◌, ap, subst}
use Rattle.std.proofs.lemmas.List.{append-nil}
use Rattle.ctr_model.specs.Texts.{answers}
use Rattle.ctr_area.specs.Areas.{Title}
use Rattle.ctr_area.specs.Sound.{IsAmong}
use Rattle.ctr_page.specs.Damage.{chain_entry}
use Rattle.ctr_page_turns.specs.actions_Sites.{Site, site_of}
use Rattle.ctr_stops.specs.actions_Facts.{Fact, IsOpen, HasTable, HasBlank}
use Rattle.ctr_page_turns.specs.actions_Actions.{site_after}
use Rattle.ctr_stops.specs.kept_Turns.{KeepsRun, carrying}
use Rattle.ctr_stops.proofs.kept_Tables.{among_first, among_last, by_parts, no_blank, titles_held, carries_more, uses_more}
use Rattle.ctr_extend.specs.Keeping.{facts_on_way, way_behind}
use Rattle.ctr_extend.proofs.Carrying.{turned, carried, blank_by, blank_way, way_held, live_state}
use Rattle.ctr_extend.proofs.laws.a_turn_for_a_page_is_kept.Goals as goal

pub returns-clause-may : goal.returns-clause-may
returns-clause-may g c = λ run opened a w wants.
    let seat = wants.seat in
    let s = wants.s in
    let site = site_of a.now in
    let scene = wants.keeps.walks.scene in
    let there : (f : Fact) → IsAmong f (facts_on_way wants.title wants.chain wants.way) → IsAmong f (w.facts s) = λ f in_. subst (λ (l : List Fact). IsAmong f l) (sym wants.carries) (among_first f (facts_on_way wants.title wants.chain wants.way) wants.more in_) in
    let held = λ (f : Fact) (in_ : IsAmong f (facts_on_way wants.title wants.chain wants.way)). scene.carried.held s seat.session f seat.at (there f in_) in
    let table = HasTable (chain_entry wants.chain) wants.title in
    let has = held table (inr (inl refl)) in
    let under = scene.carried.under s seat.t table seat.is_t (there table (inr (inl refl))) in
    record {
      sound = wants.keeps.pages.sound;
      is_open = held IsOpen (inl refl);
      there = λ none. live_state wants.title.state under.0 (ap (λ (t : Title). t.state) (sym has) ∙ none);
      on_way = record {
        holds = way_held seat.session.me wants.chain wants.way site (λ f in_. held f (inr (inr in_)));
        blank = blank_way wants.chain wants.way a.now (λ p h in_. wants.keeps.pages.blank s seat.session p h seat.at (there (HasBlank p h) (inr (inr in_))));
      };
    }

pub returns-clause-kept : goal.returns-clause-kept
returns-clause-kept g c = λ run opened a b w wants e logged rested extends.
    let seat = wants.seat in
    let s = wants.s in
    let me = seat.session.me in
    let site = site_of a.now in
    let now = g.D.Disk.moment_of a.disk in
    let later = g.D.Disk.moment_of b.disk in
    let world = wants.keeps in
    let chain = wants.chain in
    let title = wants.title in
    let turn = turned me seat.t chain wants.way e a.now b.now logged extends in
    let acts = turn.acts in
    let its = facts_on_way title chain (way_behind e) in
    let mine = its ++ wants.more in
    let z = site_after me turn.act site in
    let v = carrying s mine w in
    let scene = world.walks.scene in
    let there : (f : Fact) → IsAmong f (facts_on_way title chain wants.way) → IsAmong f (w.facts s) = λ f in_. subst (λ (l : List Fact). IsAmong f l) (sym wants.carries) (among_first f (facts_on_way title chain wants.way) wants.more in_) in
    let others : (f : Fact) → IsAmong f wants.more → IsAmong f (w.facts s) = λ f in_. subst (λ (l : List Fact). IsAmong f l) (sym wants.carries) (among_last f (facts_on_way title chain wants.way) wants.more in_) in
    let table = HasTable (chain_entry chain) title in
    let active = scene.carried.held s seat.session IsOpen seat.at (there IsOpen (inl refl)) in
    let has = scene.carried.held s seat.session table seat.at (there table (inr (inl refl))) in
    let under = scene.carried.under s seat.t table seat.is_t (there table (inr (inl refl))) in
    let walked = c.a_turn_without_an_entry_is_kept.ensures run now later s site w seat turn.act mine world.walks rested.later wants.some acts.does.owed turn.plain.covers
    (c.what_is_done_stays.ensures.bounds me turn.act a.now b.now acts.does)
    (turn.plain.moves scene.low _)
    (carries_more me wants.more wants.tables seat.t seat.t site z its (λ f in_. scene.carried.under s seat.t f seat.is_t (others f in_)) (uses_more seat.t seat.t (λ name is. is) (λ name is. is))
    (titles_held me wants.more wants.tables site z (λ f in_. scene.carried.held s seat.session f seat.at (others f in_)) turn.plain.titles)
    (carried me seat.t title chain (way_behind e) a.now b.now turn active has under)) in
    let walks = subst (λ (z : Site). KeepsRun run later z v) (sym acts.does.leaves) walked in
    let pages = c.an_action_keeps_the_pages.ensures.own run now s a.now b.now w v seat turn.act mine world.walks world.pages wants.some acts.does acts.lies acts.passes
    (λ r two. refl) refl (λ p h in_. inl (by_parts (HasBlank p h) its wants.more in_ (blank_by me seat.t title chain (way_behind e) b.now p h turn.on_way.blank) (λ there. absurd (no_blank wants.more wants.tables p h there)))) in
    c.a_turn_of_a_world_is_kept.ensures.logged run opened a b w v [] rested.rec world (sym (append-nil w.tape)) walks (record { at = tt; none = ap answers (append-nil w.tape) }) pages rested.front rested.rests rested.logs
