use Rattle.std.proofs.Common.{◌≡◌, Bool, refl, ap, ◌∙◌}
use Rattle.query_normal.specs.Pages.{Page}
use Rattle.flat_snapshot.specs.declared.sight.Sight.{Sight}
use Rattle.flat_snapshot.specs.PageText.{page_with}
use Rattle.flat_snapshot.proofs.MarkLemmas.{marked_held, marked_again}
use Rattle.flat_snapshot.proofs.sight.sight_at.Goals as goal

-- the bits of the bytes are the page's
pub returns-clause-marked : goal.returns-clause-marked
returns-clause-marked c =
    let page : Page = page_with c.args.head.log2_bits c.args.head.hashes c.args.head.front c.args.head.commits c.args.head.moment c.args.bits.now in
    let make : Bool → Sight = λ b. record { front = c.args.head.front; moment = c.args.head.moment; is_held = b } in
    ap make (c.has_mark_set.ensures ∙ marked_held page c.args.bits.now c.args.mark refl c.requires.bits)

-- and a text's mark is the text
pub returns-clause-same : goal.returns-clause-same
returns-clause-same c = λ text is.
    let page : Page = page_with c.args.head.log2_bits c.args.head.hashes c.args.head.front c.args.head.commits c.args.head.moment c.args.bits.now in
    returns-clause-marked c ∙ marked_again page c.args.mark text is
