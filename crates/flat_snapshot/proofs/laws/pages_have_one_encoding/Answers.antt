use Rattle.std.proofs.Common.{sym, subst, ap, ◌∙◌}
use Rattle.flat_snapshot.specs.PageText.{IsPage, page_text}
use Rattle.flat_snapshot.specs.Reading.{read_page}
use Rattle.flat_snapshot.proofs.ReadLemmas.{taken-from_read}
use Rattle.flat_snapshot.proofs.EncodingLemmas.{text_again, page_again, read_is_page}
use Rattle.flat_snapshot.proofs.laws.pages_have_one_encoding.Goals as goal

-- the text of what was read is what was read from, and a page's text is read as the page
pub returns : goal.returns
returns c = λ bytes page small. (
  (λ read.
      let taken = taken-from_read bytes page read in
      (subst IsPage taken.1 (read_is_page bytes small taken.0), sym (text_again bytes small taken.0) ∙ ap page_text taken.1)),
  (λ spelled. ap read_page spelled.1 ∙ page_again page spelled.0),
)
