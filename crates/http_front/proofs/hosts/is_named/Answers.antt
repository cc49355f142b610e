use Rattle.std.proofs.Common.{sym, ◌∙◌, ap}
use Rattle.std.specs.Option.{option_copied}
use Rattle.http_front.specs.Hosts.{is_host}
use Rattle.http_front.proofs.CutLemmas.{parted}
use Rattle.http_front.proofs.HostLemmas.{named_first, named_last, named_next}
use Rattle.http_front.proofs.hosts.is_named.Goals as goal

pub returns-then-is_host : goal.returns-then-is_host
returns-then-is_host c =
    let same = ap (is_host c.args.host.now) (sym c.cut_at.ensures.ahead) ∙ sym c.is_host.ensures ∙ c.if-is_host.true in
    sym (named_first c.args.host.now c.loop-behind.rest.now same) ∙ c.loop-behind.invariant

pub returns-in_default : goal.returns-in_default
returns-in_default c =
    let other = ap (is_host c.args.host.now) (sym c.cut_at.ensures.ahead) ∙ sym c.is_host.ensures ∙ c.if-is_host.false in
    let last = sym c.cut_at.ensures.behind ∙ ap option_copied c.in_default.is in
    sym (named_last c.args.host.now c.loop-behind.rest.now last other) ∙ c.loop-behind.invariant

pub loop-behind-preserved : goal.loop-behind-preserved
loop-behind-preserved c =
    let other = ap (is_host c.args.host.now) (sym c.cut_at.ensures.ahead) ∙ sym c.is_host.ensures ∙ c.if-is_host.false in
    let next = sym c.cut_at.ensures.behind ∙ ap option_copied c.in-Some.is in
    sym (named_next c.args.host.now c.loop-behind.rest.now c.in-Some.others.now next other) ∙ c.loop-behind.invariant

pub loop-behind-smaller : goal.loop-behind-smaller
loop-behind-smaller c =
    let next = sym c.cut_at.ensures.behind ∙ ap option_copied c.in-Some.is in
    (parted 32 c.loop-behind.rest.now c.in-Some.others.now next).less
