-- How many members the lists of a Checkpoint have.
use Rattle.std.specs.Prelude.{◌≡◌, ◌+◌, ◌*◌, ℕ, List, length}
use Rattle.ctr_rec.specs.Members.{pairs_from, items_from, opens_listed, aborted_listed, items_listed}
use Rattle.ctr_meta.specs.declared.listing.Counts.{Counts}

-- The counts are those of the three lists, whose members stand one behind another from the places
-- that the counts before them give.
pub record CountsMembers (lists : List ℕ) (counts : Counts) : Type 0 where
  pub opens : pairs_from 8 counts.opens lists ≡ opens_listed lists
  pub aborted : pairs_from (16 + 16 * counts.opens) counts.aborted lists ≡ aborted_listed lists
  pub items : items_from (24 + 16 * (counts.opens + counts.aborted)) counts.items lists
      ≡ items_listed lists
  pub opens_len : length (opens_listed lists) ≡ counts.opens
  pub aborted_len : length (aborted_listed lists) ≡ counts.aborted
  pub items_len : length (items_listed lists) ≡ counts.items
