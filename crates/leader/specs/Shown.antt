-- What the cases of Origin and Shows say of a row.
use Rattle.std.specs.Prelude.{ℕ, ◌-◌, if◌then◌else◌, ◌==◌}
use Rattle.leader.specs.Rule.{State, informed, committed, majority, led, foremost, commits, prepares}
use Rattle.leader.specs.declared.console.Console.{Console}
use Rattle.leader.specs.declared.shows.Origin.{Origin}
use Rattle.leader.specs.declared.shows.Origin.TheVariants.{Leader, Latest}
use Rattle.leader.specs.declared.shows.Shows.{Shows}
use Rattle.leader.specs.declared.shows.Shows.TheVariants.{Verdict, Commits, Neither}

-- from whom rule 3 or 4 takes the estimate
abbrev pub origin : ℕ → ℕ → State → Origin
origin n row s = (if led n row s == 0 then Latest (s (foremost n row s - 1)) else Leader (s (led n row s - 1)))

-- whether there is a verdict, and else whether more than n/2 have committed
abbrev pub shown : ℕ → ℕ → State → Shows
shown n row s =
    (if informed n row s == 0
    then (if majority n (committed n row s) then Commits (origin n row s) else Neither (origin n row s))
    else Verdict (s (informed n row s - 1)).verdict)

-- what a console becomes that takes its estimate from there in round k
abbrev pub takes : ℕ → ℕ → Origin → Console
takes k next (Leader from) = commits k next from
takes k next (Latest from) = prepares next from
