-- Each turn passes over a byte of an escape, or appends the byte that one decodes to.
use Rattle.std.proofs.Common.{ap, ◌∙◌, rules, arith}
use Rattle.query_lang.proofs.UnescapeLemmas.{read_inside, utf8_inside, read_turn, utf8_turn}
use Rattle.query_lang.proofs.quoted.unescape.Goals as goal
use Rattle.query_lang.proofs.quoted.unescape.Goals.{then-inside-gt0, else-inside-gt0+in_ok-push}

pub bytes-preserved : goal.bytes-preserved
bytes-preserved c =
    let xs = c.args.body.now in
    elim c.if-inside-gt0.branch [
      | then-inside-gt0 w ↦ record {
        read = rw w.out-is (read_inside _ _ xs _ _ _ (search rules) w.if-inside-gt0.true w.inside-is c.bytes.invariant.read);
        utf8 = rw w.out-is (utf8_inside _ xs _ _ _ (search rules) w.if-inside-gt0.true w.inside-is c.bytes.invariant.utf8);
      }
      | else-inside-gt0+in_ok-push w ↦ record {
        read = read_turn _ _ _ xs _ _ _ _ _ (search rules) (omega arith) c.as_bytes-bytes.ensures.value w.unescaped_byte-byte.ensures (ap (λ v. v.items) w.out-is ∙ w.in_ok-push.ensures.items) w.inside-is c.bytes.invariant.read;
        utf8 = utf8_turn _ _ xs _ _ _ _ _ (search rules) (omega arith) c.as_bytes-bytes.ensures.value w.unescaped_byte-byte.ensures (ap (λ v. v.items) w.out-is ∙ w.in_ok-push.ensures.items) w.inside-is c.bytes.invariant.utf8;
      }
    ]
