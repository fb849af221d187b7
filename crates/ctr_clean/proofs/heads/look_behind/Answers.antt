use Rattle.std.proofs.Common.{◌≡◌, ◌<◌, Result, Ok, Err, sym, subst}
use Rattle.std.specs.Prelude.{⊤, OnOk}
use Rattle.ctr_disk.specs.declared.fault.StoreFault.{StoreFault}
use Rattle.ctr_page.specs.declared.rows.Place.{Place}
use Rattle.ctr_pvs.specs.redo_States.{State, page_limit}
use Rattle.ctr_area.specs.Reading.{columns_on}
use Rattle.ctr_record_effects.specs.States.{pages_in, area_in}
use Rattle.ctr_pvs.proofs.walk_Damages.{reads}
use Rattle.ctr_pvs.proofs.walk_Joins.{pages_join}
use Rattle.ctr_pvs.proofs.walk_Limits.{below_limit}
use Rattle.ctr_dead.proofs.trim_Reading.{reads_fault}
use Rattle.ctr_clean.specs.Heads.{IsPageOfBytes, LeadsFrom, IsReadBehind}
use Rattle.ctr_clean.proofs.heads.look_behind.Goals as goal

read_both : (result : Result ⊤ StoreFault) (s t : State) (at older : Place) → t ≡ s → LeadsFrom (columns_on (pages_in s) at.page) ((area_in s).slot at) older → OnOk result (IsPageOfBytes at.page t)
    → (older.page < page_limit → OnOk result (IsPageOfBytes older.page t)) → OnOk result (IsReadBehind s at)
read_both (Ok x) s t at older same leads here behind = record {
  here = subst (IsPageOfBytes at.page) same here;
  columns = λ used. (leads used).1;
  behind = λ used. subst (λ (q : Place). q.page < page_limit → IsPageOfBytes q.page s) (sym (leads used).0) (λ small. subst (IsPageOfBytes older.page) same (behind small));
}
read_both (Err e) s t at older same leads here behind = tt

pub returns-in-Err-clause-leaves : goal.returns-in-Err-clause-leaves
returns-in-Err-clause-leaves g c = reads_fault g.O.Origin.first g.D.Disk c.args.store.now c.behind_at.new.store Place ⊤ c.in-Err.fault c.behind_at.result c.in-Err.is c.behind_at.ensures.leaves

pub returns-in-Ok-clause-read : goal.returns-in-Ok-clause-read
returns-in-Ok-clause-read g c = λ told sound.
    let s = c.args.store.now.now in
    let at = c.args.place in
    read_both c.look_both.result s c.behind_at.new.store.now at c.in-Ok.older (c.in-Ok.ensures.leaves.logs told sound).now (c.in-Ok.ensures.leads told sound)
    (c.look_both.ensures.first told sound (below_limit at.page s.counted c.requires.counted c.counts_pages.ensures.1))
    (c.look_both.ensures.second told sound)

pub returns-in-Ok-clause-leaves : goal.returns-in-Ok-clause-leaves
returns-in-Ok-clause-leaves g c =
    reads g.O.Origin.first g.D.Disk c.look_both.result c.args.store.now c.look_both.new.store
    (pages_join g.D.Disk c.args.store.now c.behind_at.new.store c.look_both.new.store g.O.Origin.first _ _ c.in-Ok.older c.look_both.result c.in-Ok.ensures.leaves c.look_both.ensures.leaves)
