-- Each turn reads one byte.
use Rattle.std.proofs.Common.{ap, ◌∙◌, rules, arith}
use Rattle.query_lang.specs.Quoted.{escape}
use Rattle.query_lang.proofs.QuotedLemmas.{slice_to_end, turn_inside, turn_escape, turn_plain}
use Rattle.query_lang.proofs.quoted.find_end.Goals as goal
use Rattle.query_lang.proofs.quoted.find_end.Goals.{then-inside-gt0, else-inside-gt0+else-byte-eq34+then-byte-eq92+in-Byte, else-inside-gt0+else-byte-eq34+else-byte-eq92+else-byte-lt32}

pub bytes-preserved : goal.bytes-preserved
bytes-preserved c =
    elim c.if-inside-gt0.branch [
      | then-inside-gt0 w ↦ turn_inside _ c.args.text.now _ _ _ (search rules) c.bytes.invariant w.if-inside-gt0.true w.inside-is
      | else-inside-gt0+else-byte-eq34+then-byte-eq92+in-Byte w ↦ turn_escape _ c.args.text.now _ _ _ (search rules) c.bytes.invariant w.in-Byte.byte (omega arith) (search rules)
          (rw w.inside-is (w.in-Byte.ensures ∙ ap escape (slice_to_end _ c.args.text.now _ (search rules) c.as_bytes-bytes.ensures.value)))
      | else-inside-gt0+else-byte-eq34+else-byte-eq92+else-byte-lt32 w ↦
          turn_plain _ c.args.text.now _ _ _ (search rules) c.bytes.invariant (omega arith) w.inside-is (search rules) (search rules) (search rules)
    ]
