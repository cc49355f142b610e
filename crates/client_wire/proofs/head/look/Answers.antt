use Rattle.std.proofs.Common.{sym, ◌∙◌, inl, inr}
use Rattle.std.proofs.lemmas.List.{take_rest}
use Rattle.client_wire.proofs.HeadLemmas.{bare_cr_seen, text_seen, large_seen, open_seen}
use Rattle.client_wire.proofs.head.look.Goals as goal

pub returns-then-begins_bare_cr : goal.returns-then-begins_bare_cr
returns-then-begins_bare_cr c =
    inl (bare_cr_seen c.args.held.now c.pass_empty_lines-scan.result.empty_lines c.requires.within
    c.pass_empty_lines-scan.ensures.empty_lines (rw take_rest at (sym c.begins_bare_cr.ensures ∙ c.if-begins_bare_cr.true)))

pub returns-in-At : goal.returns-in-At
returns-in-At c =
    text_seen c.args.held.now c.pass_empty_lines-scan.result.empty_lines c.requires.within
    c.pass_empty_lines-scan.ensures.empty_lines c.in-At.size
    (rw take_rest at (sym c.begins_bare_cr.ensures ∙ c.if-begins_bare_cr.false)) (rw take_rest at c.in-At.ensures)

pub returns-in-Behind : goal.returns-in-Behind
returns-in-Behind c =
    inr (large_seen c.args.held.now c.pass_empty_lines-scan.result.empty_lines c.requires.within
    c.pass_empty_lines-scan.ensures.empty_lines
    (rw take_rest at (sym c.begins_bare_cr.ensures ∙ c.if-begins_bare_cr.false))
    (rw take_rest at c.in-Behind.ensures.0) c.if-held-ge-HEAD_LIMIT.true)

pub returns-in-Behind-2 : goal.returns-in-Behind-2
returns-in-Behind-2 c =
    let other = rw take_rest at (sym c.begins_bare_cr.ensures ∙ c.if-begins_bare_cr.false) in
    let none = rw take_rest at c.in-Behind.ensures.0 in
    record {
      unread = open_seen c.args.held.now c.pass_empty_lines-scan.result.empty_lines c.requires.within
          c.pass_empty_lines-scan.ensures.empty_lines other none c.if-held-ge-HEAD_LIMIT.false;
      scanned = record {
        skips = c.pass_empty_lines-scan.ensures.scanned.skips;
        passes = rw take_rest at c.in-Behind.ensures.1;
      };
      empty_lines_is = c.pass_empty_lines-scan.ensures.empty_lines;
      no_bare_cr = other;
      no_end = none;
    }
