-- the part of a name's length is that name, and a port may follow, or it is another
use Rattle.std.proofs.Common.{◌-◌, length, drop, sym, ap, ◌∙◌, refl, arith, length-drop}
use Rattle.std.proofs.lemmas.List.{take_all}
use Rattle.http_front.specs.Hosts.{is_port}
use Rattle.http_front.proofs.HostLemmas.{host_by}
use Rattle.http_front.proofs.hosts.is_host.Goals as goal

pub returns-then-is_same_word : goal.returns-then-is_same_word
returns-then-is_same_word c =
    let host = c.args.host.now in
    let count = c.min-count.result in
    let behind = take_all (length host - count) (drop count host) (omega (arith, length-drop count host)) in
    host_by host c.args.name.now count _ _ c.min-count.ensures (sym c.if-is_same_word.true ∙ c.is_same_word.ensures)
    (c.is_port.ensures ∙ ap is_port behind)

pub returns-else-is_same_word : goal.returns-else-is_same_word
returns-else-is_same_word c =
    c.if-is_same_word.false
    ∙ host_by c.args.host.now c.args.name.now c.min-count.result _ _ c.min-count.ensures (sym c.if-is_same_word.false ∙ c.is_same_word.ensures) refl
