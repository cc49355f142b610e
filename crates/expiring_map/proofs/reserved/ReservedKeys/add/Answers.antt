use Rattle.std.proofs.Common.{◌||◌, option_to_list, List, ap, ◌∙◌}
use Rattle.std.specs.List.{list_any}
use Rattle.query_normal.specs.declared.key.KeyShape.{KeyShape as AKey}
use Rattle.query_normal.specs.Keys.{same_key}
use Rattle.expiring_map.proofs.KeyLemmas.{inserted}
use Rattle.expiring_map.proofs.reserved.ReservedKeys.add.Goals as goal
use Rattle.expiring_map.proofs.reserved.ReservedKeys.add.Goals.{in-Ok, in-Err}

-- the key was inserted behind the first one
pub returns-clause-ok : goal.returns-clause-ok
returns-clause-ok c = elim c.match-insert.branch [
  | in-Ok w ↦ rw w.result-is (λ other.
      inserted c.args.key other (option_to_list c.self.inside.first) c.self.inside.others.keys c.insert.new.self.keys w.in-Ok.ensures.keys
      ∙ ap (λ (keys : List AKey). same_key other c.args.key || list_any (same_key other) keys) c.self.view_is)
  | in-Err w ↦ rw w.result-is tt
]
