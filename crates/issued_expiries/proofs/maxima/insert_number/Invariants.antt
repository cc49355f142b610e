use Rattle.std.proofs.Common.{◌≡◌, ℕ, ◌+◌, ◌*◌, ◌<◌, ◌≤◌, length, get_or}
use Rattle.issued_expiries.specs.Maxima.{IsMaxima}
use Rattle.issued_expiries.proofs.maxima.insert_number.Given as goal

abbrev pub invariant-loop-index : goal.invariant-loop-index
invariant-loop-index l = record {
  maxima : IsMaxima l.tree;
  from : l.start ≤ l.index;
  upto : l.index ≤ l.end;
  moved : (i : ℕ) → l.index ≤ i → i < l.end → get_or l.tree (i + 1) 0 ≡ get_or l.initial.tree i 0;
  before : (i : ℕ) → length l.tree ≤ 2 * i → i ≤ l.index → get_or l.tree i 0 ≡ get_or l.initial.tree i 0;
  behind : (i : ℕ) → l.end < i → get_or l.tree i 0 ≡ get_or l.initial.tree i 0;
}

abbrev pub decreases-loop-index : goal.decreases-loop-index
decreases-loop-index l = l.index
