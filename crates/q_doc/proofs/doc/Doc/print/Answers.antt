use Rattle.std.proofs.Common.{◌≡◌, ◌≤◌, [], ◌++◌, length, Ok, ap, sym, ◌∙◌, subst, arith}
use Rattle.std.specs.Str.{IsUtf8}
use Rattle.json.specs.Lex.{tokens}
use Rattle.json.specs.Print.{print}
use Rattle.serde_json.proofs.Texts.{print-outline}
use Rattle.q_doc.specs.Document.{IsPlainDocument}
use Rattle.q_doc.specs.Limits.{longest_document}
use Rattle.q_doc.specs.Printed.{data_of, printed, tokens_of}
use Rattle.q_doc.proofs.ReadsBack.{reads_back}
use Rattle.q_doc.proofs.doc.Doc.print.Goals as goal

-- the tokens that were written are those of the document
pub returns-clause-text : goal.returns-clause-text
returns-clause-text c =
    let same = ap (λ r. r.node) c.deref-root.ensures in
    let nothing : c.write_node.new.out.before ≡ [] = c.in_ok-write_node.ensures.before ∙ c.new-out.ensures.before ∙ c.in_ok-with_capacity.ensures.items in
    let written : c.write_node.new.out.tokens ≡ tokens_of c.deref-root.result.now.node = c.in_ok-write_node.ensures.ok ∙ ap (λ ts. ts ++ tokens_of c.deref-root.result.now.node) c.new-out.ensures.tokens in
    c.of.ensures ∙ c.trim_capacity.ensures ∙ c.into_inner-bytes.ensures.items ∙ ap (λ b. b ++ print c.write_node.new.out.tokens) nothing ∙ ap print written
    ∙ print-outline (data_of c.deref-root.result.now.node) ∙ ap printed (same ∙ c.self.view_is)

-- a reader finds these tokens in the text, which is UTF-8 and no longer than the text that was read
pub returns-clause-reads_back : goal.returns-clause-reads_back
returns-clause-reads_back c =
    let same = ap (λ r. r.node) c.deref-root.ensures in
    let nothing : c.write_node.new.out.before ≡ [] = c.in_ok-write_node.ensures.before ∙ c.new-out.ensures.before ∙ c.in_ok-with_capacity.ensures.items in
    let written : c.write_node.new.out.tokens ≡ tokens_of c.deref-root.result.now.node = c.in_ok-write_node.ensures.ok ∙ ap (λ ts. ts ++ tokens_of c.deref-root.result.now.node) c.new-out.ensures.tokens in
    let text : c.of.result ≡ print c.write_node.new.out.tokens = c.of.ensures ∙ c.trim_capacity.ensures ∙ c.into_inner-bytes.ensures.items ∙ ap (λ b. b ++ print c.write_node.new.out.tokens) nothing in
    let utf8 : IsUtf8 c.of.result = subst IsUtf8 (sym text) c.into_inner-bytes.ensures.utf8 in
    let stored = c.self.invariant in
    let short : length c.of.result ≤ longest_document = omega (arith, ap length (returns-clause-text c), ap (λ t. length (printed t)) c.self.view_is, stored.fits, stored.short) in
    reads_back c.deref-root.result.now.node c.of.result (subst IsPlainDocument (sym same) stored.document) utf8 (ap tokens text ∙ c.into_inner-bytes.ensures.reads_back ∙ written) short ∙ ap Ok (same ∙ c.self.view_is)
