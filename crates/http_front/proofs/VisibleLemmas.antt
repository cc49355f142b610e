-- Values of fields that a head may have.
use Rattle.std.proofs.Common.{◌≡◌, ℕ, zero, suc, ◌/◌, ◌%◌, ◌<◌, Bool, true, false, not, List, [], ◌∷◌, ◌++◌, length, reverse, nat_lt, refl, ap, ◌∙◌, arith, inl, inr}
use Rattle.std.proofs.lemmas.Bool.{cases_Bool, and_from}
use Rattle.std.proofs.lemmas.Bool.Decides.{nat_tests}
use Rattle.std.proofs.lemmas.List.{length-reverse, reverse-append}
use Rattle.std.proofs.lemmas.List.Elements.{All-head, All-weaker}
use Rattle.std.proofs.lemmas.List.Folds.{list_all-append}
use Rattle.std.proofs.lemmas.List.Sums.{AllPass-from_list_all, list_all-from_AllPass}
use Rattle.std.specs.Char.{is_ascii_digit}
use Rattle.std.specs.Fmt.{digits, digits_onto, digit_glyph}
use Rattle.std.specs.List.{list_all}
use Rattle.std.specs.Prelude.{decimal, ◌==◌}
use Rattle.httparse.specs.Grammar.{AllPass, is_ows, is_value_byte}
use Rattle.httparse.proofs.TrimLemmas.{AllPass-reverse}
use Rattle.http_front.specs.Origins.{is_visible}
use Rattle.http1.specs.Head.{is_trimmed_value, starts_visible}

-- Each byte is visible.
pub record AreVisible (text : List ℕ) : Type 0 where
  pub all : list_all is_visible text ≡ true

pub visible-append : {xs ys : List ℕ} → AreVisible xs → AreVisible ys → AreVisible (xs ++ ys)
visible-append {xs} {ys} p q = record { all = list_all-append is_visible xs ys ∙ and_from _ _ p.all q.all }

is_shown : (b : ℕ) → is_visible b ≡ true → (not (is_ows b) ≡ true) × (is_value_byte b ≡ true)
is_shown b e = grind (arith, nat_tests)

starts_shown : (text : List ℕ) → AllPass is_visible text → starts_visible text ≡ true
starts_shown [] all = refl
starts_shown (b ∷ bs) all = (is_shown b (All-head (λ x. is_visible x ≡ true) b bs all)).0

-- such a text is a value
pub visible_value : (text : List ℕ) → AreVisible text → is_trimmed_value text ≡ true
visible_value text visible =
    let all = AllPass-from_list_all is_visible text visible.all in
    let values = All-weaker (λ b. is_visible b ≡ true) (λ b. is_value_byte b ≡ true) (λ b e. (is_shown b e).1) text all in
    and_from _ _ (starts_shown text all)
    (and_from _ _ (starts_shown (reverse text) (AllPass-reverse is_visible text all)) (list_all-from_AllPass is_value_byte text values))

-- Each byte may be in a value.
pub record AreValues (text : List ℕ) : Type 0 where
  pub all : list_all is_value_byte text ≡ true

-- A text begins with a byte that is no white space.
pub record Begins (text : List ℕ) : Type 0 where
  pub some : 0 < length text
  pub visible : starts_visible text ≡ true

-- so its bytes may be in one
pub visible_values : {text : List ℕ} → AreVisible text → AreValues text
visible_values {text} visible = record {
  all = list_all-from_AllPass is_value_byte text
      (All-weaker (λ b. is_visible b ≡ true) (λ b. is_value_byte b ≡ true) (λ b e. (is_shown b e).1) text (AllPass-from_list_all is_visible text visible.all));
}

-- and its last byte is no white space
pub visible_end : {text : List ℕ} → AreVisible text → 0 < length text → Begins (reverse text)
visible_end {text} visible some = record {
  some = rw (length-reverse text) some;
  visible = starts_shown (reverse text) (AllPass-reverse is_visible text (AllPass-from_list_all is_visible text visible.all));
}

glyph_shown : (d : ℕ) → d < 10 → is_visible (digit_glyph false d) ≡ true
glyph_shown d low =
    let small : nat_lt d 10 ≡ true = grind (arith, nat_tests) in
    rw small (grind (arith, nat_tests))

glyph_digit : (d : ℕ) → d < 10 → is_ascii_digit (digit_glyph false d) ≡ true
glyph_digit d low =
    let small : nat_lt d 10 ≡ true = grind (arith, nat_tests) in
    rw small (grind (arith, nat_tests))

digits_pass : (p : ℕ → Bool) → ((d : ℕ) → d < 10 → p (digit_glyph false d) ≡ true) → (k n : ℕ) (acc : List ℕ)
    → list_all p acc ≡ true → list_all p (digits_onto k 10 false n acc) ≡ true
digits_pass p each zero n acc e = e
digits_pass p each (suc k) n acc e =
    let first : list_all p (digit_glyph false (n % 10) ∷ acc) ≡ true = and_from _ _ (each (n % 10) (omega arith)) e in
    elim (cases_Bool (n / 10 == 0)) [
      | inl last ↦ rw last first
      | inr more ↦ rw more (digits_pass p each k (n / 10) (digit_glyph false (n % 10) ∷ acc) first)
    ]

-- a number in decimals
pub decimal_visible : (n : ℕ) → AreVisible (decimal n)
unfolding digits
decimal_visible n = record { all = digits_pass is_visible glyph_shown 64 n [] refl }

pub decimal_digits : (n : ℕ) → list_all is_ascii_digit (decimal n) ≡ true
unfolding digits
decimal_digits n = digits_pass is_ascii_digit glyph_digit 64 n [] refl

pub values-append : {xs ys : List ℕ} → AreValues xs → AreValues ys → AreValues (xs ++ ys)
values-append {xs} {ys} p q = record { all = list_all-append is_value_byte xs ys ∙ and_from _ _ p.all q.all }

begins_on : (xs ys : List ℕ) → 0 < length xs → starts_visible xs ≡ true → Begins (xs ++ ys)
begins_on [] ys some e = absurd (omega arith)
begins_on (x ∷ xs) ys some e = record { some = omega arith; visible = e }

pub begins-append : {xs : List ℕ} (ys : List ℕ) → Begins xs → Begins (xs ++ ys)
begins-append {xs} ys p = begins_on xs ys p.some p.visible

-- a text that begins so and ends in a visible text is a value
pub begun_value : (prefix end : List ℕ) → Begins (prefix ++ end) → AreValues (prefix ++ end) → Begins (reverse end)
    → is_trimmed_value (prefix ++ end) ≡ true
begun_value prefix end begins values ends =
    let back : starts_visible (reverse (prefix ++ end)) ≡ true =
    ap starts_visible (reverse-append prefix end) ∙ (begins_on (reverse end) (reverse prefix) ends.some ends.visible).visible in
    and_from _ _ begins.visible (and_from _ _ back values.all)
