-- A tally once one more expansion is counted, and once a round has begun.
use Rattle.std.specs.Prelude.{ℕ, ◌+◌}
use Rattle.search_tally.specs.declared.Tally.{Tally}

-- one expansion more
abbrev pub one_more : Tally → Tally
one_more t = record { expansions = t.expansions + 1; rounds = t.rounds; width = t.width }

-- one round more, of the width w
abbrev pub begun_at : ℕ → Tally → Tally
begun_at w t = record { expansions = t.expansions; rounds = t.rounds + 1; width = w }
