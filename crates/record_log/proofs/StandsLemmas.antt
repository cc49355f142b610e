-- What the images of a log to which frames are added stand for.
use Rattle.std.proofs.Common.{◌≡◌, ◌≢◌, ℕ, suc, List, [], ◌∷◌, ◌++◌, length, get_or, drop, refl, ap, sym, ◌∙◌, inl, inr, append_assoc, arith, length-append}
use Rattle.std.proofs.lemmas.Bool.{cases_eq}
use Rattle.std.proofs.lemmas.Grind.{flat_map-append}
use Rattle.record_log.specs.Frames.{Frame, mark, open_gate, closed_gate, opened, all_opened, front_of, batch_of}
use Rattle.record_log.specs.Images.{StandsFor, IsBeforeOrAfter}

-- a log with more frames
pub front_append : (fs more : List Frame) → front_of (fs ++ more) ≡ front_of fs ++ all_opened more
front_append fs more = ap (λ (x : List ℕ). mark ++ x) (flat_map-append opened fs more) ∙ sym (append_assoc mark (all_opened fs) (all_opened more))

-- a batch behind an open gate, and what follows
pub opens_batch : (more : List Frame) (text rest : List ℕ) → open_gate ∷ text ≡ batch_of more → open_gate ∷ (text ++ rest) ≡ all_opened more ++ closed_gate ∷ rest
opens_batch more text rest e = ap (λ (x : List ℕ). x ++ rest) e ∙ append_assoc (all_opened more) (closed_gate ∷ []) rest

-- a log whose gate was opened has the batch
pub opens_log : (fs more : List Frame) (text rest : List ℕ) → open_gate ∷ text ≡ batch_of more
    → front_of fs ++ open_gate ∷ (text ++ rest) ≡ front_of (fs ++ more) ++ closed_gate ∷ rest
opens_log fs more text rest e =
    ap (λ (x : List ℕ). front_of fs ++ x) (opens_batch more text rest e)
    ∙ sym (append_assoc (front_of fs) (all_opened more) (closed_gate ∷ rest))
    ∙ ap (λ (x : List ℕ). x ++ closed_gate ∷ rest) (sym (front_append fs more))

-- a batch that begins with an open gate has a frame
pub has_frame : (more : List Frame) (text : List ℕ) → open_gate ∷ text ≡ batch_of more → more ≢ []
has_frame [] text e = λ _. absurd (let k : 1 ≡ 0 = ap (λ (x : List ℕ). get_or x 0 0) e in omega (arith, k))
has_frame (f ∷ more) text e = λ same. (let k : suc (length more) ≡ 0 = ap (λ (x : List Frame). length x) same in absurd (omega (arith, k)))

-- an image with a closed gate behind the frames
pub stands_closed : (fs : List Frame) (image behind : List ℕ) → image ≡ front_of fs ++ closed_gate ∷ behind → StandsFor image fs []
stands_closed fs image behind e =
    record { gate = closed_gate; behind = behind; is = e; shut = omega arith; waits = inl (refl, refl) }

-- an image with any gate behind the frames, and behind it a batch
pub stands_any : (fs more : List Frame) (text rest image : List ℕ) (gate : ℕ) → open_gate ∷ text ≡ batch_of more
    → image ≡ front_of fs ++ gate ∷ (text ++ rest) → IsBeforeOrAfter fs more image
stands_any fs more text rest image gate b e =
    elim (cases_eq gate closed_gate) [
      | inl closed ↦ inl (stands_closed fs image (text ++ rest) (e ∙ ap (λ (g : ℕ). front_of fs ++ g ∷ (text ++ rest)) closed))
      | inr torn ↦ elim (cases_eq gate open_gate) [
        | inl opens ↦ inr (inr (stands_closed (fs ++ more) image rest (e ∙ ap (λ (g : ℕ). front_of fs ++ g ∷ (text ++ rest)) opens ∙ opens_log fs more text rest b)))
        | inr shut ↦ inr (inl (record {
          gate = gate;
          behind = text ++ rest;
          is = e;
          shut = shut;
          waits = inr (record { torn = torn; rest = rest; frames = opens_batch more text rest b; some = has_frame more text b });
        }))
      ]
    ]

-- a batch with a frame begins with an open gate
pub first_open : (batch : List ℕ) (more : List Frame) → batch ≡ batch_of more → (length batch ≡ 1 → ⊥) → open_gate ∷ drop 1 batch ≡ batch_of more
first_open batch [] e some = absurd (some (ap (λ (x : List ℕ). length x) e))
first_open batch (f ∷ more) e some = ap (λ (x : List ℕ). open_gate ∷ drop 1 x) e

-- a batch of one byte has no frame
pub none_from_one : (batch : List ℕ) (more : List Frame) → batch ≡ batch_of more → length batch ≡ 1 → more ≡ []
none_from_one batch [] e one = refl
none_from_one batch (f ∷ more) e one =
    absurd (let k : length (opened f ++ all_opened more ++ closed_gate ∷ []) ≡ 1 = sym (ap (λ (x : List ℕ). length x) e) ∙ one in
    omega (arith, k, length-append (opened f ++ all_opened more) (closed_gate ∷ []), length-append (opened f) (all_opened more)))
