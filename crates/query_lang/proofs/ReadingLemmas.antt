-- Where a text that cannot continue is refused.
use Rattle.std.proofs.Common.{◌≡◌, ℕ, zero, suc, ◌-◌, ◌<◌, Bool, List, length, Err, refl, sym, ap, ◌∙◌, arith, if◌then◌else◌}
use Rattle.query_lang.specs.declared.refusal.QueryRefusal.TheVariants.{Syntax}
use Rattle.query_lang.specs.declared.token.Beginning.{Beginning}
use Rattle.query_lang.specs.declared.token.Beginning.TheVariants as beginning
use Rattle.query_lang.specs.Lexing.{lexeme}
use Rattle.query_lang.specs.Reading.{Rules, run, tokens_in, by_lexeme, is_allowed}
use Rattle.query_lang.specs.Tokens.{Lexeme, unfinished, bad_text}

-- what comes next decides
pub run_next : {S A : Type 0} (rules : Rules S A) (total : ℕ) (s : S) (m : ℕ) (rest : List ℕ) (x : Lexeme) → length rest < m → x ≡ lexeme rest
    → (n : ℕ) × (m ≡ suc n) × (run rules total s (tokens_in m rest) ≡ run rules total s (by_lexeme (tokens_in n) x))
run_next rules total s zero rest x below is = absurd (omega arith)
run_next rules total s (suc n) rest x below is = (n, refl, ap (λ l. run rules total s (by_lexeme (tokens_in n) l)) (sym is))

-- a text that ends inside a token
pub run_unfinished : {S A : Type 0} (rules : Rules S A) (total : ℕ) (s : S) (m : ℕ) (rest : List ℕ) (what : Beginning) (left : ℕ) (allowed : Bool)
    → length rest < m → unfinished what left ≡ lexeme rest → allowed ≡ is_allowed rules s what
    → run rules total s (tokens_in m rest) ≡ Err (Syntax rules.field (total - (if allowed then 0 else left)))
run_unfinished rules total s m rest what left allowed below is may =
    (run_next rules total s m rest (unfinished what left) below is).2 ∙ ap (λ b. Err (Syntax rules.field (total - (if b then 0 else left)))) (sym may)

-- a text in quotes that cannot continue
pub run_bad_text : {S A : Type 0} (rules : Rules S A) (total : ℕ) (s : S) (m : ℕ) (rest : List ℕ) (left there : ℕ) (allowed : Bool)
    → length rest < m → bad_text left there ≡ lexeme rest → allowed ≡ is_allowed rules s beginning.Text
    → run rules total s (tokens_in m rest) ≡ Err (Syntax rules.field (total - (if allowed then there else left)))
run_bad_text rules total s m rest left there allowed below is may =
    (run_next rules total s m rest (bad_text left there) below is).2 ∙ ap (λ b. Err (Syntax rules.field (total - (if b then there else left)))) (sym may)
