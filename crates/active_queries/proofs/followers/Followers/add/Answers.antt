use Rattle.std.proofs.Common.{◌++◌, ◌∷◌, [], List, ap, ◌∙◌, subst, sym, arith}
use Rattle.std.specs.Map.{lookup}
use Rattle.query_normal.specs.declared.key.KeyShape.{KeyShape}
use Rattle.query_normal.specs.Keys.{same_key}
use Rattle.indexmap.proofs.CallerLemmas.{insert_entry-new}
use Rattle.active_queries.specs.Following.{Following}
use Rattle.active_queries.specs.Queries.{AreListed, all_lifted}
use Rattle.active_queries.proofs.LiftLemmas.{lifted-added, absent-lifted}
use Rattle.active_queries.proofs.ListedLemmas.{listed-added}
use Rattle.active_queries.proofs.followers.Followers.add.Goals as goal

-- a new key goes last
pub returns : goal.returns
returns c =
    let seen = c.lower.new.seen in
    let from = c.lower.new.from in
    let held = c.lower.new.held.entries in
    let absent = absent-lifted seen from (same_key c.args.key) held (ap (lookup (same_key c.args.key)) c.lower.ensures.same ∙ (rw (← c.self.view_is) at c.requires.absent)) in
    let added = c.in-Ok.ensures.entries ∙ insert_entry-new same_key c.lower.new.held c.args.key c.args.query absent in
    rw (← c.self.view_is)
    (ap (all_lifted seen from) added
    ∙ lifted-added seen from c.args.key c.args.query held (omega (arith, c.lower.ensures.seen, c.seen.ensures)) (omega (arith, c.lower.ensures.from, c.from.ensures))
    ∙ ap (λ (es : List (KeyShape × Following)). es ++ (c.args.key, c.args.query) ∷ []) c.lower.ensures.same)

-- its query lists no commit
pub invariant_of-self : goal.invariant_of-self
invariant_of-self c =
    let seen = c.lower.new.seen in
    let from = c.lower.new.from in
    let held = c.lower.new.held.entries in
    let absent = absent-lifted seen from (same_key c.args.key) held (ap (lookup (same_key c.args.key)) c.lower.ensures.same ∙ (rw (← c.self.view_is) at c.requires.absent)) in
    let added = c.in-Ok.ensures.entries ∙ insert_entry-new same_key c.lower.new.held c.args.key c.args.query absent in
    record {
      listed = subst (λ (es : List (KeyShape × Following)). AreListed es c.self.inside.listed.keys) (sym added) (listed-added held c.args.key c.args.query c.self.inside.listed.keys c.requires.unchanged (c.lower.ensures.listed c.self.inside.listed.keys c.self.invariant.listed));
    }
