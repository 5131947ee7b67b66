use Rattle.console_sets.proofs.Counting.{count_mono, count_strict, count-not, shared}
use Rattle.console_sets.proofs.Digits.{ones-count}
use Rattle.console_sets.proofs.Lowest.{lowest_is, lowest_zero}
use Rattle.console_sets.proofs.theorems.laws_of_counts.Goals as goal

pub returns : goal.returns
returns c = record {
  subset_counts_no_more = count_mono;
  superset_counts_more = count_strict;
  complement_counts_the_rest = count-not;
  more_than_all_share_one = shared;
  ones_are_members = ones-count;
  lowest_is_least = lowest_is;
  no_lowest_no_member = lowest_zero;
}
