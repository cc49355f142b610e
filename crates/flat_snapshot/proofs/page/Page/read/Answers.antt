use Rattle.std.proofs.Common.{Ok, sym, subst, ap, ◌∙◌, inr}
use Rattle.flat_snapshot.specs.PageText.{IsPage}
use Rattle.flat_snapshot.proofs.ReadLemmas.{read_again}
use Rattle.flat_snapshot.proofs.page.Page.read.Goals as goal

-- the parts are those of a page
pub invariant_of-result : goal.invariant_of-result
invariant_of-result c = subst IsPage (sym (read_again c.args.bytes.now _ _ _ _ _ _ _ c.in_ok-head.ensures.page c.in-Ok.ensures.items c.of.ensures)) c.in_ok-head.ensures.page

-- which is the page that the bytes are
pub returns-in-Ok-clause-told : goal.returns-in-Ok-clause-told
returns-in-Ok-clause-told c = inr (ap Ok (read_again c.args.bytes.now _ _ _ _ _ _ _ c.in_ok-head.ensures.page c.in-Ok.ensures.items c.of.ensures) ∙ c.in_ok-head.ensures.read)
