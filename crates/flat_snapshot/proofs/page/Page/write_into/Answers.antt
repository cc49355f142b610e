use Rattle.std.proofs.Common.{◌+◌, length, sym, ap, ◌∙◌, arith}
use Rattle.query_normal.specs.Pages.{Page}
use Rattle.query_normal.proofs.BitLemmas.{length-flat_bits}
use Rattle.flat_snapshot.specs.PageText.{page_text}
use Rattle.flat_snapshot.proofs.WriteLemmas.{length-page_text}
use Rattle.flat_snapshot.proofs.page.Page.write_into.Goals as goal

-- the text has 30 bytes and those of the bits
pub write_page-requires : goal.write_page-requires
write_page-requires c =
    let size = ap (λ (page : Page). length (page_text page)) (sym c.self.view_is) ∙ length-page_text _ _ (length-flat_bits c.self.inside.bits.items) in
    let bits = ap length c.deref.ensures.value in
    omega (arith, size, bits, c.requires)

pub returns-clause-length : goal.returns-clause-length
returns-clause-length c =
    let size = ap (λ (page : Page). length (page_text page)) (sym c.self.view_is) ∙ length-page_text _ _ (length-flat_bits c.self.inside.bits.items) in
    let bits = ap length c.deref.ensures.value in
    c.write_page.ensures.length ∙ ap (λ n. 30 + n) bits ∙ sym size
