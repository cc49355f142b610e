-- by what was added, or was not
use Rattle.std.proofs.Common.{◌++◌, ◌∷◌, [], sym, ◌∙◌}
use Rattle.std.proofs.lemmas.Bool.{cond-true, cond-false}
use Rattle.match_index.specs.Places.{is_held}
use Rattle.match_index.proofs.PlaceLemmas.{placed-after, on-ok}
use Rattle.match_index.proofs.keeping.add.Goals as goal

pub returns-then-contains-clause-ok : goal.returns-then-contains-clause-ok
returns-then-contains-clause-ok c =
    sym (cond-true (is_held c.args.held.now.keys c.args.key.now) c.args.held.now.keys (c.args.held.now.keys ++ c.args.key.now ∷ []) (sym c.contains.ensures ∙ c.if-contains.true))

pub add_new-requires : goal.add_new-requires
add_new-requires c = record { absent = sym c.contains.ensures ∙ c.if-contains.false }

pub returns-clause-ok : goal.returns-clause-ok
returns-clause-ok c =
    on-ok c.add_new.result
    (λ more. more ∙ sym (cond-false (is_held c.args.held.now.keys c.args.key.now) c.args.held.now.keys (c.args.held.now.keys ++ c.args.key.now ∷ []) (sym c.contains.ensures ∙ c.if-contains.false)))
    c.add_new.ensures.held

pub returns-clause-placed : goal.returns-clause-placed
returns-clause-placed c =
    placed-after c.add_new.result c.args.held.now.keys c.add_new.new.held.keys c.args.collections.now c.add_new.new.collections c.args.key.now c.requires.placed c.requires.query
    c.add_new.ensures.held (rw (c.in-Some.ensures.name, c.in-Some.ensures.probe) at c.add_new.ensures.put) c.add_new.ensures.err c.add_new.ensures.stays
