-- The bytes before the offset end no part.
use Rattle.std.proofs.Common.{◌≡◌, ◌+◌, drop}
use Rattle.query_lang.specs.KeyTexts.{part_len}
use Rattle.query_lang.specs.declared.key_parts.Quoting.TheVariants.{Outside}
use Rattle.query_lang.proofs.key_parts.part_len.Given as goal

abbrev pub invariant-bytes : goal.invariant-bytes
invariant-bytes l = part_len Outside l.text ≡ l.offset + part_len l.quoting (drop l.offset l.text)
