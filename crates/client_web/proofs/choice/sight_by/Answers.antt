use Rattle.std.proofs.Common.{ℕ, List, Option, Some, Result, Ok, drop, sym, subst, ap, ◌∙◌}
use Rattle.flat_snapshot.specs.declared.sight.Sight.{Sight}
use Rattle.flat_snapshot.specs.declared.read.PageRefusal.{PageRefusal}
use Rattle.flat_snapshot.specs.PageText.{IsPage}
use Rattle.flat_snapshot.specs.Sight.{head_page, sight_of}
use Rattle.flat_snapshot.proofs.ReadLemmas.{rest_is}
use Rattle.client_web.proofs.StateLemmas.{sight_held}
use Rattle.client_web.proofs.choice.sight_by.Goals as goal

-- the bytes behind the head are the page's bits
pub sight_at-requires : goal.sight_at-requires
sight_at-requires c =
    subst (λ (bytes : List ℕ). IsPage (head_page c.in_ok-head.head bytes)) (sym (rest_is 30 c.args.page.now)) c.in_ok-head.ensures.page

-- a text of this mark is looked up in them
pub returns : goal.returns
returns c = λ text is.
    let make : Sight → Result (Option Sight) PageRefusal = λ s. Ok (Some s) in
    ap make (c.sight_at.ensures.same text is ∙ ap (λ (bytes : List ℕ). sight_of (head_page c.in_ok-head.head bytes) text) (rest_is 30 c.args.page.now))
    ∙ sight_held c.args.page.now text (head_page c.in_ok-head.head (drop 30 c.args.page.now)) c.in_ok-head.ensures.read
