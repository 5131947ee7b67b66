-- What holds of all sets of consoles, at any number n of them: which members a set has, and how many. Arguments on consoles rest on it.
use Rattle.std.specs.Prelude.{◌≡◌, ℕ, suc, ◌+◌, ◌^◌, ◌<◌, ◌≤◌, Bool, true, false, not, ◌&&◌, ◌||◌, ◌==◌, count_ones, nat_lt}
use Rattle.console_sets.specs.Sets.{count, lowest, member, set_of, all, inside, union, without, joined}

-- which members each set has, and that sets with the same members are one
pub record Membership : Type 0 where
  pub empty_has_none : (c : ℕ) → member 0 c ≡ false
  pub none_beyond : (n s c : ℕ) → s < 2 ^ n → n ≤ c → member s c ≡ false
  pub all_has_those_below : (n c : ℕ) → member (all n) c ≡ nat_lt c n
  pub union_has_either : (a b c : ℕ) → member (union a b) c ≡ (member a c || member b c)
  pub without_has_the_rest : (a b c : ℕ) → member (without a b) c ≡ (member a c && not (member b c))
  pub joined_has_one_more : (s d c : ℕ) → member (joined s d) c ≡ (member s c || c == d)
  pub set_of_has_those_that_pass : (p : ℕ → Bool) (n c : ℕ) → member (set_of p n) c ≡ (nat_lt c n && p c)
  pub inside_has_no_others : (a b c : ℕ) → inside a b ≡ true → member a c ≡ true → member b c ≡ true
  pub inside_if_no_others : (a b : ℕ) → ((c : ℕ) → member a c ≡ true → member b c ≡ true) → inside a b ≡ true
  pub same_members_same_set : (n a b : ℕ) → a < 2 ^ n → b < 2 ^ n → ((c : ℕ) → c < n → member a c ≡ member b c) → a ≡ b

-- how many members sets have, and which is the lowest
pub record Counting : Type 0 where
  pub subset_counts_no_more : (p q : ℕ → Bool) (n : ℕ) → ((c : ℕ) → c < n → p c ≡ true → q c ≡ true) → count p n ≤ count q n
  pub superset_counts_more : (p q : ℕ → Bool) (n : ℕ) → ((c : ℕ) → c < n → p c ≡ true → q c ≡ true)
      → (d : ℕ) → d < n → p d ≡ false → q d ≡ true → count p n < count q n
  pub complement_counts_the_rest : (p : ℕ → Bool) (n : ℕ) → count p n + count (λ c. not (p c)) n ≡ n
  pub more_than_all_share_one : (p q : ℕ → Bool) (n : ℕ) → n < count p n + count q n → (c : ℕ) × (c < n) × (p c ≡ true) × (q c ≡ true)
  pub ones_are_members : (n s : ℕ) → s < 2 ^ n → count_ones s ≡ count (member s) n
  pub lowest_is_least : (p : ℕ → Bool) (n c : ℕ) → lowest p n ≡ suc c → (c < n) × (p c ≡ true) × ((d : ℕ) → d < c → p d ≡ false)
  pub no_lowest_no_member : (p : ℕ → Bool) (n : ℕ) → lowest p n ≡ 0 → (c : ℕ) → c < n → p c ≡ false
