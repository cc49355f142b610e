use Rattle.std.proofs.Common.{◌+◌, ◌/◌, ◌%◌, ◌^◌, List, ℕ, set, get_or, bit_or, sym, ap, ◌∙◌, arith}
use Rattle.flat_snapshot.specs.PageText.{head_text}
use Rattle.query_normal.proofs.BitLemmas.{shifted_one}
use Rattle.flat_snapshot.proofs.WriteLemmas.{length-head_text, set_in_page, eights}
use Rattle.flat_snapshot.proofs.write.set_bit.Goals as goal

-- the shifted one is a power of 2
pub returns-clause-byte : goal.returns-clause-byte
returns-clause-byte c =
    ap (λ m. set c.args.page.now (30 + c.args.position / 8) (bit_or (get_or c.args.page.now (30 + c.args.position / 8) 0) m))
    (shifted_one (c.args.position % 8) (omega arith))

-- one byte after the head was written
pub returns-clause-page : goal.returns-clause-page
returns-clause-page c = λ p rest page within was.
    let whole = page.bits ∙ sym (eights p.log2_bits (omega (arith, page.least_bits))) in
    ap (λ m. set c.args.page.now (30 + c.args.position / 8) (bit_or (get_or c.args.page.now (30 + c.args.position / 8) 0) m))
    (shifted_one (c.args.position % 8) (omega arith))
    ∙ ap (λ (xs : List ℕ). set xs (30 + c.args.position / 8) (bit_or (get_or xs (30 + c.args.position / 8) 0) (2 ^ (c.args.position % 8)))) was
    ∙ set_in_page (head_text p.log2_bits p.hashes p.front p.commits p.moment) rest p.bits (2 ^ p.log2_bits / 8) c.args.position (length-head_text _ _ _ _ _) whole
    (omega (arith, within, page.bits))
