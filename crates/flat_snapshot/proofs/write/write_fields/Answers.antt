use Rattle.std.proofs.Common.{List, ℕ, length, drop, ◌++◌, ap, sym, ◌∙◌}
use Rattle.std.proofs.lemmas.List.{length-take-le}
use Rattle.flat_snapshot.proofs.WriteLemmas.{length-head_text}
use Rattle.flat_snapshot.proofs.write.write_fields.Goals as goal

-- both have 30 bytes
pub copy_from_slice-requires : goal.copy_from_slice-requires
copy_from_slice-requires c =
    length-take-le 30 c.args.buffer.now c.requires ∙ sym (ap length c.head_of-head.ensures ∙ length-head_text _ _ _ _ _)

-- the head overwrites the first bytes
pub returns : goal.returns
returns c = ap (λ (xs : List ℕ). xs ++ drop 30 c.args.buffer.now) (c.copy_from_slice.ensures.after ∙ c.head_of-head.ensures)
