use Rattle.std.proofs.Common.{◌≡◌, [], Some, rules}
use Rattle.std.specs.Str.{IsUtf8}
use Rattle.json.specs.Json.{value}
use Rattle.json.specs.Lex.{tokens}
use Rattle.q_doc.proofs.ReadingLemmas.{holds_whole}
use Rattle.q_doc.proofs.reading.object_in.Goals as goal

-- the reader has no token left
pub returns-in-Object-clause-ok : goal.returns-in-Object-clause-ok
returns-in-Object-clause-ok c =
    let bytes = c.args.bytes.now in
    let done = c.in_ok-node.ensures.ok in
    let utf8 : IsUtf8 bytes = search rules in
    let same : c.in-Ok-new.reader ≡ tokens bytes = search rules in
    let none : c.read_node.new.reader ≡ [] = search rules in
    let read : value 127 (tokens bytes) ≡ Some (done.0, []) = rw (same, none) at done.1 in
    holds_whole bytes done.0 c.in_ok-node.node utf8 read done.2
