-- Numbers at the beginning of bytes.
use Rattle.std.proofs.Common.{◌≡◌, ℕ, zero, suc, ◌<◌, List, [], ◌∷◌, ◌++◌, length, get_or, take, drop, ap, sym, ◌∙◌, arith}
use Rattle.std.specs.Int.{w32, w64, to_be_bytes, from_be_bytes}
use Rattle.std.proofs.lemmas.List.{take-append-drop}
use Rattle.std.proofs.lemmas.Nat.{be_bytes_4, be_bytes_8}

-- the first bytes are bytes
take_low : (n : ℕ) (bytes : List ℕ) → ((i : ℕ) → get_or bytes i 0 < 256) → (i : ℕ) → get_or (take n bytes) i 0 < 256
take_low zero bytes low zero = omega arith
take_low zero bytes low (suc i) = omega arith
take_low (suc n) [] low zero = omega arith
take_low (suc n) [] low (suc i) = omega arith
take_low (suc n) (byte ∷ bytes) low zero = low 0
take_low (suc n) (byte ∷ bytes) low (suc i) = take_low n bytes (λ k. low (suc k)) i

pub number_8 : (bytes first rest : List ℕ) (n : ℕ) → ((i : ℕ) → get_or bytes i 0 < 256) → first ≡ take 8 bytes → rest ≡ drop 8 bytes → length first ≡ 8 → n ≡ from_be_bytes w64 first → bytes ≡ to_be_bytes w64 n ++ rest
number_8 bytes first rest n low f r size number =
    let firsts : to_be_bytes w64 n ≡ first = be_bytes_8 first n size (λ i. rw f (take_low 8 bytes low i)) number in
    sym (take-append-drop 8 bytes) ∙ ap (λ (l : List ℕ). l ++ drop 8 bytes) (sym f ∙ sym firsts) ∙ ap (λ (l : List ℕ). to_be_bytes w64 n ++ l) (sym r)

pub number_4 : (bytes first rest : List ℕ) (n : ℕ) → ((i : ℕ) → get_or bytes i 0 < 256) → first ≡ take 4 bytes → rest ≡ drop 4 bytes → length first ≡ 4 → n ≡ from_be_bytes w32 first → bytes ≡ to_be_bytes w32 n ++ rest
number_4 bytes first rest n low f r size number =
    let firsts : to_be_bytes w32 n ≡ first = be_bytes_4 first n size (λ i. rw f (take_low 4 bytes low i)) number in
    sym (take-append-drop 4 bytes) ∙ ap (λ (l : List ℕ). l ++ drop 4 bytes) (sym f ∙ sym firsts) ∙ ap (λ (l : List ℕ). to_be_bytes w32 n ++ l) (sym r)

-- four numbers behind four bytes
pub four_numbers : (bytes a b c d front : List ℕ) (m n o p : ℕ) → take 4 bytes ≡ front → drop 4 bytes ≡ to_be_bytes w64 m ++ a → a ≡ to_be_bytes w64 n ++ b → b ≡ to_be_bytes w64 o ++ c → c ≡ to_be_bytes w64 p ++ d
    → bytes ≡ front ++ (to_be_bytes w64 m ++ (to_be_bytes w64 n ++ (to_be_bytes w64 o ++ (to_be_bytes w64 p ++ d))))
four_numbers bytes a b c d front m n o p f e1 e2 e3 e4 =
    sym (take-append-drop 4 bytes) ∙ ap (λ (l : List ℕ). l ++ drop 4 bytes) f
    ∙ ap (λ (l : List ℕ). front ++ l) (e1 ∙ ap (λ (l : List ℕ). to_be_bytes w64 m ++ l) (e2 ∙ ap (λ (l : List ℕ). to_be_bytes w64 n ++ l) (e3 ∙ ap (λ (l : List ℕ). to_be_bytes w64 o ++ l) e4)))
