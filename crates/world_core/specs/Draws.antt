-- Internal. The numbers that a run is drawn from: a linear congruential generator (Knuth, The Art of Computer Programming, volume 2, section 3.2.1).
use Rattle.std.specs.Prelude.{ℕ, zero, suc, ◌+◌, ◌*◌, ◌/◌, ◌%◌, ◌^◌}

-- the number after another
unfoldable pub next_number : ℕ → ℕ
next_number number = (number * 6364136223846793005 + 1442695040888963407) % 2 ^ 64

-- the number after n steps
abbrev pub after : ℕ → ℕ → ℕ
after zero number = number
after (suc n) number = after n (next_number number)

-- what a number draws below a bound: its high bits
abbrev pub drawn : ℕ → ℕ → ℕ
drawn bound number = (number / 2 ^ 33) % bound

-- the n-th draw from a number on, counted from 1
abbrev pub draw : ℕ → ℕ → ℕ → ℕ
draw n bound number = drawn bound (after n number)
