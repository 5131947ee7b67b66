use Rattle.console_sets.proofs.Digits.{member_none, member_above, member-all, member_union, member-without, member-joined, member-inside, inside_from, member_ext}
use Rattle.console_sets.proofs.SetOf.{member-set_of}
use Rattle.console_sets.proofs.theorems.laws_of_members.Goals as goal

pub returns : goal.returns
returns c = record {
  empty_has_none = member_none;
  none_beyond = member_above;
  all_has_those_below = member-all;
  union_has_either = member_union;
  without_has_the_rest = member-without;
  joined_has_one_more = member-joined;
  set_of_has_those_that_pass = member-set_of;
  inside_has_no_others = member-inside;
  inside_if_no_others = inside_from;
  same_members_same_set = member_ext;
}
