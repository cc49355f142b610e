-- The members of a list that is separated by commas.
use Rattle.std.proofs.Common.{◌≡◌, ℕ, zero, suc, ◌+◌, ◌<◌, List, [], ◌∷◌, ◌||◌, cond, length, take, drop, refl, ◌∙◌, ap, arith, add-one}
use Rattle.std.proofs.lemmas.Bool.{eq-eqb, ne_eqb, eqb-true}
use Rattle.std.proofs.Math.Bool.{or-false}
use Rattle.std.specs.Prelude.{slice_index}
use Rattle.std.specs.Str.{str_eq_ignore_ascii_case}
use Rattle.httparse.specs.Grammar.{trim_ows}
use Rattle.memchr.specs.Find.{NoneBefore, Nowhere, Passes, is_byte}
use Rattle.http_message.specs.Fields.{before_first, pieces_between, has_option}

-- the first piece ends at the first separator
pieces_first : (separator : ℕ) (bytes : List ℕ) (i : ℕ) → i < length bytes → slice_index bytes i ≡ separator
    → ((k : ℕ) → k < i → slice_index bytes k ≡ separator → ⊥)
    → pieces_between separator bytes ≡ take i bytes ∷ pieces_between separator (drop (suc i) bytes)
pieces_first separator [] i below is before = absurd (omega arith)
pieces_first separator (b ∷ bs) zero below is before =
    ap (λ t. cond t ([] ∷ pieces_between separator bs) (before_first b (pieces_between separator bs))) (eq-eqb b separator is)
pieces_first separator (b ∷ bs) (suc i) below is before =
    ap (λ t. cond t ([] ∷ pieces_between separator bs) (before_first b (pieces_between separator bs))) (ne_eqb b separator (before 0 (omega arith)))
    ∙ ap (before_first b) (pieces_first separator bs i (omega arith) is (λ k low. before (suc k) (omega arith)))

-- without a separator there is one piece
pieces_whole : (separator : ℕ) (bytes : List ℕ) → ((k : ℕ) → k < length bytes → slice_index bytes k ≡ separator → ⊥)
    → pieces_between separator bytes ≡ bytes ∷ []
pieces_whole separator [] none = refl
pieces_whole separator (b ∷ bs) none =
    ap (λ t. cond t ([] ∷ pieces_between separator bs) (before_first b (pieces_between separator bs))) (ne_eqb b separator (none 0 (omega arith)))
    ∙ ap (before_first b) (pieces_whole separator bs (λ k low. none (suc k) (omega arith)))

-- the pieces of a list up to its first comma, and behind it
pub list_pieces : (bytes rest : List ℕ) (i : ℕ) → NoneBefore (Passes (is_byte 44) bytes) 0 (length bytes) i
    → Passes (is_byte 44) bytes i → rest ≡ drop (i + 1) bytes
    → pieces_between 44 bytes ≡ take i bytes ∷ pieces_between 44 rest
list_pieces bytes rest i first here behind =
    let comma : slice_index bytes i ≡ 44 = eqb-true (slice_index bytes i) 44 here in
    let before : (k : ℕ) → k < i → slice_index bytes k ≡ 44 → ⊥ =
    λ k low is. first.before k (omega arith) low (eq-eqb (slice_index bytes k) 44 is) in
    rw (behind, add-one) (pieces_first 44 bytes i first.high comma before)

-- a list without a comma
pub list_whole : (bytes : List ℕ) → Nowhere (Passes (is_byte 44) bytes) 0 (length bytes)
    → pieces_between 44 bytes ≡ bytes ∷ []
list_whole bytes none =
    pieces_whole 44 bytes (λ k low is. none k (omega arith) low (eq-eqb (slice_index bytes k) 44 is))

-- the first option, and the others
pub option_first : (option bytes member others : List ℕ) → pieces_between 44 bytes ≡ member ∷ pieces_between 44 others
    → has_option option bytes ≡ (str_eq_ignore_ascii_case (trim_ows member) option || has_option option others)
unfolding has_option
option_first option bytes member others parted = rw parted refl

-- one option alone
pub option_only : (option bytes : List ℕ) → pieces_between 44 bytes ≡ bytes ∷ []
    → has_option option bytes ≡ str_eq_ignore_ascii_case (trim_ows bytes) option
unfolding has_option
option_only option bytes parted = rw parted (or-false _)
