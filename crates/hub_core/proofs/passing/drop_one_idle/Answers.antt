-- the key is idle no more, and has no query
use Rattle.std.proofs.Common.{List, ◌≡◌, ◌&&◌, not, false, ap, sym, ◌∙◌, subst}
use Rattle.std.specs.List.{list_any}
use Rattle.std.proofs.lemmas.Bool.{and_parts}
use Rattle.query_normal.specs.Keys.{same_key}
use Rattle.query_normal.specs.declared.key.KeyShape.{KeyShape}
use Rattle.issued_expiries.specs.Copies.{Copy}
use Rattle.hub_core.specs.CopiesView.{CopiesView, is_idle}
use Rattle.hub_core.specs.ActiveQueries.{KeepsQueries}
use Rattle.hub_core.proofs.KeepLemmas.{keeps-dropped}
use Rattle.hub_core.proofs.LifeLemmas.{drops-none, one-dropped}
use Rattle.hub_core.proofs.passing.drop_one_idle.Goals as goal

pub returns-in-Some-clause-kept : goal.returns-in-Some-clause-kept
returns-in-Some-clause-kept c = λ journal front keeps.
    subst (λ (cs : List Copy). KeepsQueries journal front cs c.next_idle.new.self.idle c.remove.new.self.entries) (sym (ap (λ (h : CopiesView). h.copies) c.in-Some.ensures.rest))
    (keeps-dropped journal front c.args.copies.now.copies c.args.copies.now.idle c.args.queries.now.entries keeps c.in-Some.key c.next_idle.new.self.idle c.remove.new.self.entries
    c.in-Some.ensures.inactive c.in-Some.ensures.given c.remove.ensures.gone c.remove.ensures.others c.remove.ensures.among)

pub returns-in-Some-clause-dropped : goal.returns-in-Some-clause-dropped
returns-in-Some-clause-dropped c =
    one-dropped c.in-Some.key (is_idle c.args.copies.now) (is_idle c.next_idle.new.self) c.args.life.now c.drop_key.new.self c.in-Some.ensures.some c.in-Some.ensures.given c.drop_key.ensures

pub returns-in-Some-clause-idle : goal.returns-in-Some-clause-idle
returns-in-Some-clause-idle c = λ other there. (and_parts (not (same_key c.in-Some.key other)) (is_idle c.args.copies.now other) (sym (c.in-Some.ensures.given other) ∙ there)).1

pub returns-in-None-clause-dropped : goal.returns-in-None-clause-dropped
returns-in-None-clause-dropped c =
    drops-none (λ key. is_idle c.args.copies.now key && not (is_idle c.next_idle.new.self key)) c.args.life.now
    (λ key. ap (λ (xs : List KeyShape). list_any (same_key key) xs && not (is_idle c.next_idle.new.self key)) c.in-None.ensures.none)

pub returns-in-None-clause-idle : goal.returns-in-None-clause-idle
returns-in-None-clause-idle c = λ other there. absurd (let e : is_idle c.next_idle.new.self other ≡ false = ap (λ (xs : List KeyShape). list_any (same_key other) xs) c.in-None.ensures.left in cc)
