use Rattle.std.proofs.Common.{◌≡◌, ℕ, List, Option, None, Bool, true, false, inr, refl, ◌∙◌, sym, true≢false}
use Rattle.std.specs.Str.{IsUtf8, is_utf8}
use Rattle.std.proofs.lemmas.Str.{IsUtf8-from_is_utf8, is_utf8-from_IsUtf8}
use Rattle.serde_json.specs.Read.{read}
use Rattle.serde_json.specs.Data.{Data}
use Rattle.q_doc.specs.Found.{found}
use Rattle.q_doc.proofs.convert.value_of.Goals as goal

found-IsUtf8 : (bytes : List ℕ) (d : Option Data) → IsUtf8 bytes → read bytes ≡ d → found bytes ≡ d
found-IsUtf8 bytes d utf8 e = rw (is_utf8-from_IsUtf8 bytes utf8) e

found-None : (bytes : List ℕ) (b : Bool) → is_utf8 bytes ≡ b → (IsUtf8 bytes → read bytes ≡ None) → found bytes ≡ None
found-None bytes true e none = rw e (none (IsUtf8-from_is_utf8 bytes e))
found-None bytes false e none = rw e

-- bytes that were read are UTF-8
pub returns-in-Ok-clause-ok : goal.returns-in-Ok-clause-ok
returns-in-Ok-clause-ok c = found-IsUtf8 c.args.text.now _ c.in-Ok.ensures.ok.0 c.in-Ok.ensures.ok.1

-- bytes that were refused are not UTF-8, or hold no value
pub returns-else-is_memory-clause-err : goal.returns-else-is_memory-clause-err
returns-else-is_memory-clause-err c =
    inr (refl, found-None c.args.text.now _ refl (c.in-Err.ensures.err (λ memory. true≢false (sym (c.is_memory.ensures.1 memory) ∙ c.if-is_memory.false))))
