-- The sets of those that name each console tell how many in a row name it, and the rule leaves what stands beyond the last console.
use Rattle.std.proofs.Common.{◌≡◌, ℕ, suc, ◌^◌, ◌<◌, ◌≤◌, ◌&&◌, eqb, List, length, ap, ◌∙◌, arith}
use Rattle.std.proofs.lemmas.List.{get_or_past}
use Rattle.console_sets.specs.Bound.{max_consoles}
use Rattle.console_sets.specs.Sets.{member}
use Rattle.console_sets.proofs.Counting.{count_same}
use Rattle.console_sets.proofs.Digits.{member_above}
use Rattle.rounds.specs.Items.{at}
use Rattle.back_end.specs.Votes.{Backers}
use Rattle.back_end.proofs.Ballots.{votes_are}
use Rattle.leader.specs.Rule.{opening, who, console_after}
use Rattle.leader.specs.Namers.{Tells}
use Rattle.leader.specs.declared.console.Console.{Console}
use Rattle.leader.proofs.Cases.{others}

pub tells : (n : ℕ) (leaders namers : List ℕ) (consoles : List Console) → n ≤ max_consoles → ((c : ℕ) → c < max_consoles → at leaders c ≡ (who consoles c).leader)
    → Backers n leaders namers → Tells n (who consoles) namers
tells n leaders namers consoles few leads are row d l =
    votes_are n row leaders namers few are d l
    ∙ count_same (λ e. member row e && eqb (at leaders e) (suc d)) (λ e. member row e && eqb (who consoles e).leader (suc d)) n
    (λ e k. ap (λ (x : ℕ). member row e && eqb x (suc d)) (leads e (omega arith)))

pub past : (n k complete : ℕ) (rows : List ℕ) (consoles : List Console) → n ≤ max_consoles → complete < 2 ^ n → length consoles ≡ max_consoles
    → (c : ℕ) → max_consoles ≤ c → console_after n k complete rows (who consoles) c ≡ opening 0
past n k complete rows consoles few within full c l =
    others n k complete rows (who consoles) c (member_above n complete c within (omega arith)) ∙ get_or_past consoles c (opening 0) (omega arith)
