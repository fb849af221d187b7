use Rattle.std.proofs.Common.{sym}
use Rattle.ctr_actions.specs.Sites.{site_of}
use Rattle.ctr_actions.proofs.states.a_logged_record_is_its_action.Goals as goal

pub returns-clause-leaves : goal.returns-clause-leaves
returns-clause-leaves c = λ x a s o tables is. λ i. record {
  counted = sym (c.an_action_stays_sound.ensures.counted x a (site_of s)) i;
  tables = tables i;
  area = is i;
}

pub returns-clause-does : goal.returns-clause-does
returns-clause-does c = λ x a s o owed is. record {
  owed = owed;
  leaves = returns-clause-leaves c x a s o (c.an_action_meets_its_needs.ensures.leaves x a (site_of s) o owed) is;
}
