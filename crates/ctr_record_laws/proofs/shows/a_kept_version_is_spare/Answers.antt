use Rattle.std.proofs.Common.{refl, subst}
use Rattle.ctr_area.specs.Sound.{IsAmong}
use Rattle.ctr_record_laws.specs.Owed.{older_copy}
use Rattle.ctr_record_laws.proofs.Kept.{older_here, kept_along, not_along}
use Rattle.ctr_record_laws.proofs.shows.a_kept_version_is_spare.Goals as goal

pub returns : goal.returns
returns c = λ counted tables area e at slot version sound owed. record {
  here = owed.here;
  copy = older_here area at (older_copy slot version) at refl;
  unlinked = λ f b used in_. not_along area at (older_copy slot version) owed.free sound.pointers f b used
      (subst (IsAmong at) (kept_along area at (older_copy slot version) owed.free sound.pointers f b used) in_);
}
