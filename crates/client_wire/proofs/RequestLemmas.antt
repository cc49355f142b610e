-- Texts that are put one behind the other.
use Rattle.std.proofs.Common.{◌≡◌, ℕ, List, ◌++◌, ◌∙◌, ap, append_assoc}

pub put_two : (old a b : List ℕ) {x y : List ℕ} → x ≡ old ++ a → y ≡ x ++ b → y ≡ old ++ (a ++ b)
put_two old a b one two = two ∙ (ap (λ (xs : List ℕ). xs ++ b) one ∙ append_assoc old a b)

pub put_three : (old a b c : List ℕ) {x y z : List ℕ} → x ≡ old ++ a → y ≡ x ++ b → z ≡ y ++ c → z ≡ old ++ (a ++ b ++ c)
put_three old a b c one two three = put_two old (a ++ b) c (put_two old a b one two) three

pub put_four : (old a b c d : List ℕ) {x y z u : List ℕ} → x ≡ old ++ a → y ≡ x ++ b → z ≡ y ++ c → u ≡ z ++ d
    → u ≡ old ++ (a ++ b ++ c ++ d)
put_four old a b c d one two three four = put_two old (a ++ b ++ c) d (put_three old a b c one two three) four

pub put_five : (old a b c d e : List ℕ) {x y z u v : List ℕ} → x ≡ old ++ a → y ≡ x ++ b → z ≡ y ++ c → u ≡ z ++ d → v ≡ u ++ e
    → v ≡ old ++ (a ++ b ++ c ++ d ++ e)
put_five old a b c d e one two three four five = put_two old (a ++ b ++ c ++ d) e (put_four old a b c d one two three four) five
