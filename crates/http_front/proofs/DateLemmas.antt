-- The text of a date is a value of a field.
use Rattle.std.proofs.Common.{◌≡◌, ℕ, zero, suc, ◌-◌, ◌/◌, ◌%◌, ◌<◌, ◌≤◌, true, List, [], ◌∷◌, ◌++◌, refl, sym, ap, ◌∙◌, arith, codes, inl, inr}
use Rattle.std.proofs.lemmas.Bool.Decides.{nat_tests}
use Rattle.std.proofs.lemmas.Bool.{cases_Bool}
use Rattle.std.specs.Prelude.{slice_index_or, ◌==◌, ◌||◌}
use Rattle.http1.specs.Head.{is_trimmed_value}
use Rattle.httpdate.specs.Calendar.{days_in_month, is_leap_year}
use Rattle.httpdate.specs.Date.{date_text}
use Rattle.httpdate.specs.Text.{imf_fixdate, two_digits, four_digits, time_of_day}
use Rattle.httpdate.specs.declared.date.HttpDate.{HttpDate}
use Rattle.httpdate.specs.declared.parts.Parts.{Parts}
use Rattle.httpdate.proofs.Theorems.{unix_secs_injective}
use Rattle.http_front.specs.Date.{IsDateOf}
use Rattle.http_front.proofs.VisibleLemmas.{AreValues, values-append, Begins, begins-append, begun_value}

abbrev days : List (List ℕ)
days = codes "Mon" ∷ codes "Tue" ∷ codes "Wed" ∷ codes "Thu" ∷ codes "Fri" ∷ codes "Sat" ∷ codes "Sun" ∷ []

abbrev months : List (List ℕ)
months =
    codes "Jan" ∷ codes "Feb" ∷ codes "Mar" ∷ codes "Apr" ∷ codes "May" ∷ codes "Jun"
    ∷ codes "Jul" ∷ codes "Aug" ∷ codes "Sep" ∷ codes "Oct" ∷ codes "Nov" ∷ codes "Dec" ∷ []

day_begins : (i : ℕ) → Begins (slice_index_or days i [] ++ codes ", ")
day_begins zero = record { some = omega arith; visible = refl }
day_begins (suc zero) = record { some = omega arith; visible = refl }
day_begins (suc (suc zero)) = record { some = omega arith; visible = refl }
day_begins (suc (suc (suc zero))) = record { some = omega arith; visible = refl }
day_begins (suc (suc (suc (suc zero)))) = record { some = omega arith; visible = refl }
day_begins (suc (suc (suc (suc (suc zero))))) = record { some = omega arith; visible = refl }
day_begins (suc (suc (suc (suc (suc (suc zero)))))) = record { some = omega arith; visible = refl }
day_begins (suc (suc (suc (suc (suc (suc (suc i))))))) = record { some = omega arith; visible = refl }

day_values : (i : ℕ) → AreValues (slice_index_or days i [])
day_values zero = record { all = refl }
day_values (suc zero) = record { all = refl }
day_values (suc (suc zero)) = record { all = refl }
day_values (suc (suc (suc zero))) = record { all = refl }
day_values (suc (suc (suc (suc zero)))) = record { all = refl }
day_values (suc (suc (suc (suc (suc zero))))) = record { all = refl }
day_values (suc (suc (suc (suc (suc (suc zero)))))) = record { all = refl }
day_values (suc (suc (suc (suc (suc (suc (suc i))))))) = record { all = refl }

month_values : (i : ℕ) → AreValues (slice_index_or months i [])
month_values zero = record { all = refl }
month_values (suc zero) = record { all = refl }
month_values (suc (suc zero)) = record { all = refl }
month_values (suc (suc (suc zero))) = record { all = refl }
month_values (suc (suc (suc (suc zero)))) = record { all = refl }
month_values (suc (suc (suc (suc (suc zero))))) = record { all = refl }
month_values (suc (suc (suc (suc (suc (suc zero)))))) = record { all = refl }
month_values (suc (suc (suc (suc (suc (suc (suc zero))))))) = record { all = refl }
month_values (suc (suc (suc (suc (suc (suc (suc (suc zero)))))))) = record { all = refl }
month_values (suc (suc (suc (suc (suc (suc (suc (suc (suc zero))))))))) = record { all = refl }
month_values (suc (suc (suc (suc (suc (suc (suc (suc (suc (suc zero)))))))))) = record { all = refl }
month_values (suc (suc (suc (suc (suc (suc (suc (suc (suc (suc (suc zero))))))))))) = record { all = refl }
month_values (suc (suc (suc (suc (suc (suc (suc (suc (suc (suc (suc (suc i)))))))))))) = record { all = refl }

digits_values : (n : ℕ) → n < 100 → AreValues (two_digits n)
digits_values n low = record { all = grind (arith, nat_tests) }

few_days : (y m : ℕ) → days_in_month y m ≤ 31
few_days y m =
    elim (cases_Bool (m == 2)) [
      | inl two ↦ rw two (elim (cases_Bool (is_leap_year y)) [ inl e ↦ rw e (omega arith) | inr e ↦ rw e (omega arith) ])
      | inr other ↦ rw other (elim (cases_Bool ((m == 4) || (m == 6) || (m == 9) || (m == 11))) [ inl e ↦ rw e (omega arith) | inr e ↦ rw e (omega arith) ])
    ]

date_values : (d : HttpDate) → AreValues (date_text d)
date_values d =
    let p = d.parts in
    let day : p.day < 100 = omega (arith, few_days p.year p.mon, d.civil.2.1) in
    let high : p.year / 100 < 100 = let top = d.civil.0.1 in omega arith in
    let low : p.year % 100 < 100 = omega arith in
    let hour : p.hour < 100 = let t = d.time.0 in omega arith in
    let min : p.min < 100 = let t = d.time.1 in omega arith in
    let sec : p.sec < 100 = let t = d.time.2 in omega arith in
    let gap : AreValues (codes " ") = record { all = refl } in
    let colon : AreValues (codes ":") = record { all = refl } in
    let comma : AreValues (codes ", ") = record { all = refl } in
    let zone : AreValues (codes " GMT") = record { all = refl } in
    let year : AreValues (four_digits p.year) = values-append (digits_values (p.year / 100) high) (digits_values (p.year % 100) low) in
    let time : AreValues (time_of_day p) = values-append (values-append (values-append (values-append (digits_values p.hour hour) colon) (digits_values p.min min)) colon) (digits_values p.sec sec) in
    values-append (values-append (values-append (values-append (values-append (values-append (values-append (values-append (values-append
    (day_values (p.wday - 1)) comma) (digits_values p.day day)) gap) (month_values (p.mon - 1))) gap) year) gap) time) zone

date_begins : (d : HttpDate) → Begins (date_text d)
date_begins d =
    begins-append _ (begins-append _ (begins-append _ (begins-append _ (begins-append _ (begins-append _ (begins-append _
    (begins-append _ (day_begins (d.parts.wday - 1)))))))))

-- the text of a date is a value
pub date_value : (seconds : ℕ) (text : List ℕ) → IsDateOf seconds text → is_trimmed_value text ≡ true
date_value seconds text of =
    let whole = begun_value _ (codes " GMT") (date_begins of.date) (date_values of.date) (record { some = omega arith; visible = refl }) in
    ap is_trimmed_value of.text_is ∙ whole

-- a moment has one text
pub one_date : (seconds : ℕ) (text other : List ℕ) → IsDateOf seconds text → IsDateOf seconds other → text ≡ other
one_date seconds text other p q =
    let same = unix_secs_injective p.date q.date (p.at ∙ sym q.at) in
    p.text_is ∙ ap (λ (parts : Parts). imf_fixdate parts) same ∙ sym q.text_is
