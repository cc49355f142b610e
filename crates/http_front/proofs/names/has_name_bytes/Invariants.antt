-- each of the bytes that are left decides as all the bytes do
use Rattle.std.proofs.Common.{◌≡◌}
use Rattle.std.specs.List.{list_all}
use Rattle.percent_encoding.specs.Iter.{decoded_bytes}
use Rattle.percent_encoding.specs.Percent.{percent_decode}
use Rattle.q_base.specs.Name.{is_name_byte}
use Rattle.http_front.proofs.names.has_name_bytes.Given as goal

abbrev pub invariant-loop-byte : goal.invariant-loop-byte
invariant-loop-byte l = list_all is_name_byte (decoded_bytes l.byte-iterator) ≡ list_all is_name_byte (percent_decode l.text)
