use Rattle.std.proofs.Common.{◌∙◌, leb, length, ap, refl, rules}
use Rattle.query_core.specs.Window.{matches}
use Rattle.match_sets.specs.Contents.{most_rows}
use Rattle.match_sets.proofs.StartLemmas.{started, started_whole}
use Rattle.match_sets.proofs.Journals.{started_stands}
use Rattle.match_sets.proofs.set.MatchSet.start.Goals as goal

-- one row more than are kept shows whether these are all
pub returns-clause-first : goal.returns-clause-first
returns-clause-first c =
    (started _ (matches c.args.query.now c.args.docs.now) c.in_ok-rows.rows.items c.limit_of-most.result (c.limit_of-most.ensures ∙ ap most_rows c.in_ok-own.ensures.cases) c.in_ok-rows.ensures c.truncate.ensures.items (search rules)).1

pub returns-clause-whole : goal.returns-clause-whole
returns-clause-whole c =
    started_whole (matches c.args.query.now c.args.docs.now) c.in_ok-rows.rows.items c.limit_of-most.result _ c.in_ok-rows.ensures (search rules)
    ∙ ap (λ m. leb (length (matches c.args.query.now c.args.docs.now)) m) c.limit_of-most.ensures

-- the order of the documents does not matter
pub returns-clause-stands : goal.returns-clause-stands
returns-clause-stands c = λ journal within have.
    started_stands _ c.args.query.now c.args.docs.now journal c.args.at refl c.in_ok-own.ensures.cases within (c.matches_stay_in_any_order_of_documents.ensures c.args.query.now journal c.args.at c.args.docs.now have) (returns-clause-first c)
