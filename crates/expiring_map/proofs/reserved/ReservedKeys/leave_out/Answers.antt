use Rattle.std.proofs.Common.{not, ◌&&◌, [], option_to_list, List, sym, ap, ◌∙◌}
use Rattle.std.specs.List.{list_any}
use Rattle.query_normal.specs.declared.key.KeyShape.{KeyShape as AKey}
use Rattle.query_normal.specs.Keys.{same_key}
use Rattle.expiring_map.proofs.KeyLemmas.{absent-left, both-left, first-left}
use Rattle.expiring_map.proofs.reserved.ReservedKeys.leave_out.Goals as goal

-- the first key is the key
pub returns-then-is_key-clause-left : goal.returns-then-is_key-clause-left
returns-then-is_key-clause-left c other =
    both-left c.args.key.now other (option_to_list c.self.inside.first) [] c.self.inside.others.keys c.leave_out.new.keys.keys
    (first-left c.args.key.now other c.self.inside.first (sym c.is_key.ensures ∙ c.if-is_key.true))
    (c.leave_out.ensures.left other)
    ∙ ap (λ (keys : List AKey). not (same_key c.args.key.now other) && list_any (same_key other) keys) c.self.view_is

-- one of the others is the key
pub returns-then-holds-clause-left : goal.returns-then-holds-clause-left
returns-then-holds-clause-left c other =
    both-left c.args.key.now other (option_to_list c.self.inside.first) (option_to_list c.self.inside.first) c.self.inside.others.keys c.take_key.new.keys.keys
    (absent-left c.args.key.now other (option_to_list c.self.inside.first) (sym c.is_key.ensures ∙ c.if-is_key.false))
    (c.take_key.ensures.left other)
    ∙ ap (λ (keys : List AKey). not (same_key c.args.key.now other) && list_any (same_key other) keys) c.self.view_is

-- none is
pub returns-else-holds-clause-left : goal.returns-else-holds-clause-left
returns-else-holds-clause-left c other =
    ap (λ (keys : List AKey). list_any (same_key other) keys) (sym c.self.view_is)
    ∙ both-left c.args.key.now other (option_to_list c.self.inside.first) (option_to_list c.self.inside.first) c.self.inside.others.keys c.self.inside.others.keys
    (absent-left c.args.key.now other (option_to_list c.self.inside.first) (sym c.is_key.ensures ∙ c.if-is_key.false))
    (absent-left c.args.key.now other c.self.inside.others.keys (sym c.holds.ensures ∙ c.if-holds.false))
    ∙ ap (λ (keys : List AKey). not (same_key c.args.key.now other) && list_any (same_key other) keys) c.self.view_is
