-- The bytes before the offset are the same.
use Rattle.std.proofs.Common.{◌≡◌, ◌+◌, drop, nat_eq}
use Rattle.std.specs.List.{common_prefix_len}
use Rattle.query_lang.proofs.key_reader.common_len.Given as goal

abbrev pub invariant-bytes : goal.invariant-bytes
invariant-bytes l = common_prefix_len nat_eq l.a l.b ≡ l.offset + common_prefix_len nat_eq (drop l.offset l.a) (drop l.offset l.b)
