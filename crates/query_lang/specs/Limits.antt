-- Believed. The limits of texts, beside those of queries.
use Rattle.std.specs.Prelude.{ℕ}

-- the most open parentheses
abbrev pub most_open : ℕ
most_open = 64

-- how many rows a query keeps where it does not say
abbrev pub usual_take : ℕ
usual_take = 100
