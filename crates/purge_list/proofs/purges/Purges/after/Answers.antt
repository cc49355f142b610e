use Rattle.std.proofs.Common.{List, map, ap, ◌-◌, ◌∙◌}
use Rattle.std.proofs.lemmas.Result.{IfOk-weaker}
use Rattle.query_normal.specs.declared.key.KeyShape.{KeyShape}
use Rattle.query_normal.specs.Keys.{key_text}
use Rattle.purge_list.specs.Purged.{texts_from}
use Rattle.purge_list.proofs.PurgeLemmas.{texts_of_some}
use Rattle.purge_list.proofs.purges.Purges.after.Goals as goal

-- the texts of the keys that were found
pub returns-clause-texts : goal.returns-clause-texts
returns-clause-texts c =
    rw (← c.self.view_is)
    (IfOk-weaker c.keys_from.result _ _
    (λ keys is.
    ap (map key_text) is
    ∙ texts_of_some (c.args.from - 1) c.args.room c.deref.result.now
    ∙ ap (λ (ks : List KeyShape). texts_from c.args.from c.args.room (map key_text ks)) c.deref.ensures.value)
    c.keys_from.ensures)
