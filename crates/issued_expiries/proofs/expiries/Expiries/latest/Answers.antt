use Rattle.std.proofs.Common.{Option, sym, ap, ◌∙◌}
use Rattle.issued_expiries.specs.KeyCopies.{KeptCopies}
use Rattle.issued_expiries.specs.Entries.{greatest_in}
use Rattle.issued_expiries.specs.Copies.{is_between, latest_of}
use Rattle.issued_expiries.specs.Entries.{copies_in}
use Rattle.issued_expiries.specs.Expiries.{Issued}
use Rattle.issued_expiries.proofs.HeldLemmas.{kept_in, kept_shown}
use Rattle.issued_expiries.proofs.ViewLemmas.{if_above, above_zero, latest_kept}
use Rattle.issued_expiries.proofs.expiries.Expiries.latest.Goals as goal

pub returns-in-Some : goal.returns-in-Some
returns-in-Some c =
    c.later_than.ensures
    ∙ ap (if_above c.self.inside.clock) c.greatest.ensures
    ∙ ap (λ (o : Option KeptCopies). if_above c.self.inside.clock (greatest_in (is_between c.args.from c.args.below) o)) (ap kept_in c.in-Some.ensures ∙ sym (kept_shown c.self.inside.held.entries c.args.key.now))
    ∙ sym (latest_kept c.self.inside.clock c.args.key.now (is_between c.args.from c.args.below) (copies_in c.self.inside.held.entries) c.self.invariant.sound.distinct)
    ∙ ap (λ (i : Issued). latest_of i.held c.args.key.now c.args.from c.args.below) c.self.view_is

pub returns-in-None : goal.returns-in-None
returns-in-None c =
    sym (above_zero c.self.inside.clock)
    ∙ ap (λ (o : Option KeptCopies). if_above c.self.inside.clock (greatest_in (is_between c.args.from c.args.below) o)) (ap kept_in c.in-None.ensures ∙ sym (kept_shown c.self.inside.held.entries c.args.key.now))
    ∙ sym (latest_kept c.self.inside.clock c.args.key.now (is_between c.args.from c.args.below) (copies_in c.self.inside.held.entries) c.self.invariant.sound.distinct)
    ∙ ap (λ (i : Issued). latest_of i.held c.args.key.now c.args.from c.args.below) c.self.view_is
