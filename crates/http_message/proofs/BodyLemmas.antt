-- A buffer that is filled with what is held and then from a source.
use Rattle.std.proofs.Common.{◌≡◌, ◌⊎◌, ℕ, ◌+◌, ◌-◌, ◌<◌, ◌≤◌, List, [], ◌∷◌, ◌++◌, length, take, drop, sym, ◌∙◌, ap, subst, refl, inl, inr, arith, min}
use Rattle.std.specs.Prelude.{Result, Ok, Err}
use Rattle.std.proofs.Math.Seq.{take-append-add}
use Rattle.std.proofs.lemmas.List.{append-nil, take-append-drop, take-append-le, take_all, take_at, drop_all, length-append, length-take-le, length-drop}
use Rattle.q_outside.specs.Ends.{End, TookBytes}
use Rattle.q_outside.proofs.Chain.{took_both}
use Rattle.http_message.specs.Input.{IsIdle, IsFull, Reads}
use Rattle.http_message.specs.declared.incomplete.Incomplete.{Incomplete}

-- `at` bytes of a buffer were taken, and none where it has none
pub record IsFilling (first middle : End) (into : List ℕ) (at total : ℕ) : Type 0 where
  pub took : TookBytes first middle (take at into)
  pub within : at ≤ length into
  pub idle : total ≡ 0 → middle ≡ first

-- more bytes of the buffer were taken, after those before
pub filling_more : (first middle last : End) (into piece rest : List ℕ) (at count total : ℕ)
    → IsFilling first middle into at total → 0 < total → TookBytes middle last (take count piece) → count ≤ length piece
    → IsFilling first last (take at into ++ (piece ++ rest)) (at + count) total
filling_more first middle last into piece rest at count total before some came fits =
    let size : length (take at into) ≡ at = length-take-le at into before.within in
    let is : take (at + count) (take at into ++ (piece ++ rest)) ≡ take at into ++ take count piece =
    ap (λ n. take (n + count) (take at into ++ (piece ++ rest))) (sym size)
    ∙ take-append-add (take at into) (piece ++ rest) count
    ∙ ap (λ xs. take at into ++ xs) (take-append-le count piece rest fits) in
    let P : List ℕ → Type 0 = λ xs. TookBytes first last xs in
    record {
      took = subst P (sym is) (took_both first middle last (take at into) (take count piece) before.took came);
      within = omega (arith, size, fits, length-append (take at into) (piece ++ rest), length-append piece rest);
      idle = λ none. absurd (omega (arith, none, some));
    }

-- A buffer begins with what was held, as much as there was, and then has what the source is asked for.
pub record Asks (held into rest : List ℕ) (size : ℕ) : Type 0 where
  pub within : size ≤ length held
  pub all : 0 < length rest → length held ≤ size
  pub is : into ≡ take size held ++ rest

-- where something is asked for, all that was held is in the buffer, and does not fill it
pub asks_some : (held into rest : List ℕ) (size : ℕ) → Asks held into rest size → 0 < length rest
    → (size ≡ length held) × (length held + length rest ≡ length into)
asks_some held into rest size asks some =
    let same : size ≡ length held = omega (arith, asks.within, asks.all some) in
    let long : length into ≡ length (take size held) + length rest = ap length asks.is ∙ length-append (take size held) rest in
    (same, omega (arith, same, long, length-take-le size held asks.within))

-- the buffer was filled
pub exact_full : (source source' : End) (held into rest : List ℕ) (size : ℕ) → Asks held into rest size
    → TookBytes source source' rest → (length rest ≡ 0 → source' ≡ source)
    → (IsIdle source source' rest ⊎ (length held < length into)) × (held ++ rest ≡ into ++ drop size held)
exact_full source source' held into [] size asks took idle = (
  inl (record { same = idle (omega arith); none = refl }),
  append-nil held ∙ sym (take-append-drop size held)
      ∙ ap (λ xs. xs ++ drop size held) (sym (asks.is ∙ append-nil (take size held))),
)
exact_full source source' held into (x ∷ xs) size asks took idle =
    let some = asks_some held into (x ∷ xs) size asks (omega arith) in (
      inr (omega (arith, some.1)),
      ap (λ ys. ys ++ x ∷ xs) (sym (take_all size held (omega (arith, some.0)))) ∙ sym asks.is
          ∙ sym (append-nil into) ∙ ap (λ ys. into ++ ys) (sym (drop_all size held (omega (arith, some.0)))),
    )

-- or not: by the answer
pub exact_by : {T : Type 0} (source source' : End) (held into rest : List ℕ) (size : ℕ) (result : Result T Incomplete)
    → Asks held into rest size → IsFull source source' rest result → (length rest ≡ 0 → source' ≡ source)
    → Reads source source' held (drop size held) (λ bytes. length bytes < length into) (λ (_ : T) used. used ≡ into) result
exact_by source source' held into rest size (Ok filled) asks full idle =
    let came = exact_full source source' held into rest size asks full idle in
    record { got = rest; took = full; waits = came.0; came = record { used = into; splits = came.1; says = refl } }
exact_by source source' held into rest size (Err incomplete) asks full idle =
    let some = asks_some held into rest size asks (omega (arith, full.fewer)) in
    record {
      got = full.got;
      took = full.took;
      waits = inr (omega (arith, some.1, full.fewer));
      came = (omega (arith, some.1, full.fewer, length-append held full.got), full.is);
    }

-- a buffer of which the start was written, and then all that follows
pub room_is : (beginning behind rest : List ℕ) (size : ℕ) → length beginning ≡ size
    → take size (beginning ++ behind) ++ (rest ++ drop (length (beginning ++ behind) - size) (drop size (beginning ++ behind)))
    ≡ beginning ++ rest
room_is beginning behind rest size is =
    let none : drop (length (beginning ++ behind) - size) (drop size (beginning ++ behind)) ≡ [] =
    drop_all (length (beginning ++ behind) - size) (drop size (beginning ++ behind))
    (omega (arith, length-drop size (beginning ++ behind))) in
    ap (λ xs. xs ++ (rest ++ drop (length (beginning ++ behind) - size) (drop size (beginning ++ behind)))) (take_at beginning behind size is)
    ∙ ap (λ xs. beginning ++ (rest ++ xs)) none ∙ ap (λ xs. beginning ++ xs) (append-nil rest)

pub exact_is : {T : Type 0} (source source' : End) (held held' old beginning rest : List ℕ) (size : ℕ) (result : Result T Incomplete)
    → size ≡ min (length held) (length old) → beginning ≡ take size held → held' ≡ drop size held
    → length rest ≡ length old - size → IsFull source source' rest result → (length rest ≡ 0 → source' ≡ source)
    → Reads source source' held held'
    (λ bytes. length bytes < length (take size (beginning ++ drop size old)
    ++ (rest ++ drop (length (beginning ++ drop size old) - size) (drop size (beginning ++ drop size old)))))
    (λ (_ : T) used. used ≡ take size (beginning ++ drop size old)
    ++ (rest ++ drop (length (beginning ++ drop size old) - size) (drop size (beginning ++ drop size old))))
    result
exact_is {T} source source' held held' old beginning rest size result least copied skipped behind full idle =
    let within : size ≤ length held = omega (arith, least) in
    let wide : length beginning ≡ size = ap length copied ∙ length-take-le size held within in
    let asks : Asks held (take size (beginning ++ drop size old)
    ++ (rest ++ drop (length (beginning ++ drop size old) - size) (drop size (beginning ++ drop size old)))) rest size = record {
      within = within;
      all = λ some. omega (arith, least, behind, some);
      is = room_is beginning (drop size old) rest size wide ∙ ap (λ xs. xs ++ rest) copied;
    } in
    let into = take size (beginning ++ drop size old)
    ++ (rest ++ drop (length (beginning ++ drop size old) - size) (drop size (beginning ++ drop size old))) in
    let P : List ℕ → Type 0 = λ xs. Reads source source' held xs (λ bytes. length bytes < length into) (λ (_ : T) used. used ≡ into) result in
    subst P (sym skipped) (exact_by source source' held into rest size result asks full idle)
