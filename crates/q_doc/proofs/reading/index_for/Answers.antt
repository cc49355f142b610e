use Rattle.std.proofs.Common.{nat_cmp, sym, ap, ◌∙◌, arith}
use Rattle.std.specs.Cmp.Lexicographic.{slice_cmp}
use Rattle.q_doc.proofs.ReadingLemmas.{index_found}
use Rattle.q_doc.proofs.reading.index_for.Goals as goal

-- the key is greater than this member, and less than those that it passed
pub returns-in-Greater-clause-index : goal.returns-in-Greater-clause-index
returns-in-Greater-clause-index c =
    let above = ap (slice_cmp nat_cmp c.args.name.now) (sym c.as_slice.ensures.value) ∙ sym c.cmp.ensures ∙ c.in-Greater.is in
    index_found c.args.name.now c.args.members.now _ _ c.requires (omega arith) (omega arith) above c.loop-passed.invariant
