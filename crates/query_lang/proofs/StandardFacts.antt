-- Worked offsets of refusals, said of the definitions, so that a slip in one does not check.
use Rattle.std.proofs.Common.{◌≡◌, codes, Err, refl}
use Rattle.query_lang.specs.FilterReading.{segment_at, on_operand, on_path, on_value, on_token, ended, read_filter}
use Rattle.query_lang.specs.Lexing.{lexeme}
use Rattle.query_lang.specs.OrderReading as order
use Rattle.query_lang.specs.Reading.{tokens}
use Rattle.query_lang.specs.declared.refusal.QueryRefusal.TheVariants.{Syntax, BadNumber}

-- a text that ends too early is refused at its length: before a value, or inside a text in quotes
ends : (read_filter (codes "a =") ≡ Err (Syntax 102 3)) × (read_filter (codes "a = \"") ≡ Err (Syntax 102 5)) × (read_filter (codes "b.") ≡ Err (Syntax 102 2))
unfolding read_filter tokens lexeme on_token on_operand segment_at on_path on_value ended
ends = (refl, refl, refl)

-- a token that is not allowed is refused where it begins, and so is a number that is none
begins :
    (read_filter (codes "fase") ≡ Err (Syntax 102 4)) × (read_filter (codes "a, >=1") ≡ Err (Syntax 102 1)) × (read_filter (codes "a 01") ≡ Err (Syntax 102 2))
    × (read_filter (codes "a = -0") ≡ Err (BadNumber 102 4))
unfolding read_filter tokens lexeme on_token on_operand segment_at on_path on_value ended
begins = (refl, refl, refl, refl)

-- the same of orders
orders : (order.read_order (codes "a.c dec,a") ≡ Err (Syntax 111 4)) × (order.read_order (codes "a,") ≡ Err (Syntax 111 2)) × (order.read_order (codes "a.") ≡ Err (Syntax 111 2))
unfolding order.read_order tokens lexeme order.on_token order.on_item order.on_segment order.on_path order.ended
orders = (refl, refl, refl)
