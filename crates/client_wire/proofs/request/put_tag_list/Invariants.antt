use Rattle.std.proofs.Common.{◌≡◌, ◌++◌, take, codes}
use Rattle.std.specs.List.{flat_map}
use Rattle.client_wire.specs.Requests.{tag_text}
use Rattle.client_wire.proofs.request.put_tag_list.Given as goal

abbrev pub invariant-loop-commit : goal.invariant-loop-commit
invariant-loop-commit l = l.out.items ≡ l.initial.out.items ++ flat_map (λ y. codes ", " ++ tag_text y) (take l.commit-index l.rest)
