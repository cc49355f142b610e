use Rattle.std.proofs.Common.{sym, ◌∙◌}
use Rattle.std.proofs.lemmas.List.{take_rest}
use Rattle.http_message.proofs.LookLemmas.{seen_bare_cr, seen_text, seen_large, seen_open}
use Rattle.http_message.proofs.find.look.Goals as goal

pub returns-then-begins_bare_cr : goal.returns-then-begins_bare_cr
returns-then-begins_bare_cr c =
    let empty_lines = rw c.window-window.ensures at c.pass_empty_lines-scan.ensures.empty_lines in
    let bare = rw (take_rest, c.window-window.ensures) at (sym c.begins_bare_cr.ensures ∙ c.if-begins_bare_cr.true) in
    seen_bare_cr c.args.bytes.now c.pass_empty_lines-scan.result.empty_lines empty_lines bare

pub returns-in-At : goal.returns-in-At
returns-in-At c =
    let empty_lines = rw c.window-window.ensures at c.pass_empty_lines-scan.ensures.empty_lines in
    let other = rw (take_rest, c.window-window.ensures) at (sym c.begins_bare_cr.ensures ∙ c.if-begins_bare_cr.false) in
    seen_text c.args.bytes.now c.pass_empty_lines-scan.result.empty_lines c.in-At.size empty_lines other
    (rw (take_rest, c.window-window.ensures) at c.in-At.ensures)

pub returns-in-Behind : goal.returns-in-Behind
returns-in-Behind c =
    let empty_lines = rw c.window-window.ensures at c.pass_empty_lines-scan.ensures.empty_lines in
    let other = rw (take_rest, c.window-window.ensures) at (sym c.begins_bare_cr.ensures ∙ c.if-begins_bare_cr.false) in
    let none = rw (take_rest, c.window-window.ensures) at c.in-Behind.ensures.0 in
    seen_large c.args.bytes.now c.pass_empty_lines-scan.result empty_lines other none c.if-bytes-ge-HEAD_LIMIT.true

pub returns-in-Behind-2 : goal.returns-in-Behind-2
returns-in-Behind-2 c =
    let empty_lines = rw c.window-window.ensures at c.pass_empty_lines-scan.ensures.empty_lines in
    let other = rw (take_rest, c.window-window.ensures) at (sym c.begins_bare_cr.ensures ∙ c.if-begins_bare_cr.false) in
    let none = rw (take_rest, c.window-window.ensures) at c.in-Behind.ensures.0 in
    let scanned = rw c.window-window.ensures at c.pass_empty_lines-scan.ensures.scanned in (
      seen_open c.args.bytes.now c.pass_empty_lines-scan.result empty_lines other none c.if-bytes-ge-HEAD_LIMIT.false,
      record { skips = scanned.skips; passes = rw (take_rest, c.window-window.ensures) at c.in-Behind.ensures.1 },
    )
