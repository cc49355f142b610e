-- the answer is that of the key's kind
use Rattle.std.proofs.Common.{sym, ap, ◌∙◌, subst}
use Rattle.std.proofs.lemmas.Result.{IfOk-weaker, on_err_weaker}
use Rattle.hub_core.specs.ActiveQueries.{is_query}
use Rattle.hub_core.specs.HubState.{HubView, IsAt}
use Rattle.hub_core.proofs.HubLemmas.{same-before, still-at}
use Rattle.hub_core.proofs.hub.Hub.read.Goals as goal

pub returns-in-Record-clause-last : goal.returns-in-Record-clause-last
returns-in-Record-clause-last c = IfOk-weaker c.read_record.result _ _ (λ a answers. answers.last) c.read_record.ensures.answers

pub returns-in-Record-clause-told : goal.returns-in-Record-clause-told
returns-in-Record-clause-told c = IfOk-weaker c.read_record.result _ _ (λ a answers. answers.told) c.read_record.ensures.answers

pub returns-in-Record-clause-after : goal.returns-in-Record-clause-after
returns-in-Record-clause-after c = IfOk-weaker c.read_record.result _ _ (λ a answers. answers.stands) c.read_record.ensures.answers

pub returns-in-Query-clause-last : goal.returns-in-Query-clause-last
returns-in-Query-clause-last c = IfOk-weaker c.read_query.result _ _ (λ a answers. answers.last) c.read_query.ensures.answers

pub returns-in-Query-clause-told : goal.returns-in-Query-clause-told
returns-in-Query-clause-told c = IfOk-weaker c.read_query.result _ _ (λ a answers. answers.told) c.read_query.ensures.answers

pub returns-in-Query-clause-after : goal.returns-in-Query-clause-after
returns-in-Query-clause-after c = IfOk-weaker c.read_query.result _ _ (λ a answers. answers.stands) c.read_query.ensures.answers

-- where memory ran out, a record's read left all as it was, and a query's read all but its set
pub returns-in-Record-clause-memory : goal.returns-in-Record-clause-memory
returns-in-Record-clause-memory c = on_err_weaker c.read_record.result (λ same. same-before c.args.self.now c.read_record.new.self same) c.read_record.ensures.memory

pub returns-in-Record-clause-still : goal.returns-in-Record-clause-still
returns-in-Record-clause-still c = on_err_weaker c.read_record.result (λ same. λ s at. subst (λ (h : HubView). IsAt h s) (sym same) at) c.read_record.ensures.memory

pub returns-in-Query-clause-still : goal.returns-in-Query-clause-still
returns-in-Query-clause-still c = on_err_weaker c.read_query.result (λ before. λ s at. still-at c.args.self.now c.read_query.new.self s before at) c.read_query.ensures.memory

pub read_query-requires : goal.read_query-requires
read_query-requires c = ap is_query (sym c.shape.ensures ∙ c.in-Query.is)
