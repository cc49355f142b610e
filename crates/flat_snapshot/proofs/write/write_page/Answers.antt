use Rattle.std.proofs.Common.{◌++◌, ◌+◌, List, ℕ, length, drop, ap, sym, ◌∙◌}
use Rattle.flat_snapshot.specs.PageText.{head_text}
use Rattle.flat_snapshot.proofs.ByteLemmas.{bytes_of-flat_bits, all_small}
use Rattle.flat_snapshot.proofs.WriteLemmas.{length-head_text, written_behind}
use Rattle.flat_snapshot.proofs.write.write_page.Goals as goal

-- the bits are after the head
pub returns-clause-written : goal.returns-clause-written
returns-clause-written c =
    let head = head_text c.args.log2_bits c.args.hashes c.args.front c.args.commits c.args.moment in
    written_behind head c.args.buffer.now c.args.bits.now _ _ (length c.args.bits.now) (length-head_text _ _ _ _ _) c.write_fields.ensures c.copy_from_slice.ensures.after
    ∙ ap (λ (xs : List ℕ). head ++ xs ++ drop (30 + length c.args.bits.now) c.args.buffer.now) (sym (bytes_of-flat_bits c.args.bits.now (all_small c.args.bits.now c.type_inv.bits)))
