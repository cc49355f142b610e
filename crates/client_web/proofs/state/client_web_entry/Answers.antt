use Rattle.std.proofs.Common.{length, sym, ap, ◌∙◌, arith}
use Rattle.std.proofs.lemmas.List.{length-take-le}
use Rattle.client_web.proofs.state.client_web_entry.Goals as goal

-- both have 25 bytes
pub copy_from_slice-requires : goal.copy_from_slice-requires
copy_from_slice-requires c =
    length-take-le 25 c.args.buffer.now (omega (arith, c.if-buffer-lt-ENTRY_BYTES.false)) ∙ sym (ap length c.entry_text-entry.ensures)
