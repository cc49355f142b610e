-- the entry is that of the tags
use Rattle.std.proofs.Common.{[], ◌∷◌, sym, ap₂, ◌∙◌}
use Rattle.std.proofs.lemmas.Result.{IfOk-weaker, on_ok_weaker}
use Rattle.query_normal.specs.declared.key.KeyShape.{KeyShape}
use Rattle.hub_model.specs.declared.entry.Tags.{Tags}
use Rattle.world_core.specs.Store.{answer_with, entry_with, store_of, with_entries}
use Rattle.world_core.proofs.StoreLemmas.{same_store}
use Rattle.world_core.proofs.store.read_from.Goals as goal

pub returns-in_err-tags-clause-grown : goal.returns-in_err-tags-clause-grown
returns-in_err-tags-clause-grown c = same_store (store_of c.args.desk.now c.args.moment)

pub returns-in_err-key-clause-grown : goal.returns-in_err-key-clause-grown
returns-in_err-key-clause-grown c = same_store (store_of c.args.desk.now c.args.moment)

pub returns-clause-told : goal.returns-clause-told
returns-clause-told c =
    IfOk-weaker c.read_at.result _ _
    (λ a e. e ∙ ap₂ (λ (k : KeyShape) (ts : Tags). answer_with (store_of c.args.desk.now c.args.moment) k ts) (sym c.in_ok-key.ensures.cases) c.in_ok-tags.ensures) c.read_at.ensures.told

pub returns-clause-ok : goal.returns-clause-ok
returns-clause-ok c =
    on_ok_weaker c.read_at.result
    (λ e. e ∙ ap₂ (λ (k : KeyShape) (ts : Tags). with_entries (store_of c.args.desk.now c.args.moment) (entry_with (store_of c.args.desk.now c.args.moment) k ts ∷ [])) (sym c.in_ok-key.ensures.cases) c.in_ok-tags.ensures) c.read_at.ensures.ok
