use Rattle.std.proofs.Common.{◌≡◌}
use Rattle.std.specs.Vec.{vec_capacity}
use Rattle.issued_expiries.proofs.KeepLemmas.{IsKeptUpto}
use Rattle.issued_expiries.proofs.sorted_copies.keep_later.Given as goal

abbrev pub invariant-loop-i : goal.invariant-loop-i
invariant-loop-i l = record {
  upto : IsKeptUpto l.clock l.commits l.untils l.i l.kept.items l.tree l.start;
  capacity : vec_capacity l.kept ≡ vec_capacity l.initial.kept;
}
