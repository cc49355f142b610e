-- What the bytes at a gate are, by what was read of them.
use Rattle.std.proofs.Common.{◌≡◌, ℕ, ◌<◌, ◌≤◌, ◌^◌, List, [], ◌∷◌, ◌++◌, length, get_or, take, drop, refl, ap, sym, ◌∙◌, append_assoc, arith, length-take, length-drop}
use Rattle.std.specs.Int.{w32, w64, to_be_bytes, from_be_bytes}
use Rattle.std.proofs.lemmas.List.{take_all, take_at, take-append-drop, get_or-take}
use Rattle.std.proofs.lemmas.Nat.{from_be_bytes-to_be_bytes_4, from_be_bytes-to_be_bytes_8}
use Rattle.record_log.specs.Frames.{Frame, Fits, open_gate, head_text, opened}

-- no byte was read
pub nothing_read : (rest head : List ℕ) (count : ℕ) → count ≡ length (take (length head) rest) → 0 < length head → count ≡ 0 → rest ≡ []
nothing_read [] head count e h z = refl
nothing_read (x ∷ rest) head count e h z = absurd (omega (arith, length-take (length head) (x ∷ rest), e, z, h))

-- the first byte was read
pub first_read : (rest head : List ℕ) (count : ℕ) → count ≡ length (take (length head) rest) → take count head ≡ take (length head) rest → 0 < count → rest ≡ get_or head 0 0 ∷ drop 1 rest
first_read [] head count e t h = absurd (omega (arith, length-take {A = ℕ} (length head) [], e, h))
first_read (x ∷ rest) head count e t h =
    let some : 0 < length head = omega (arith, length-take (length head) (x ∷ rest), e, h) in
    let first : x ≡ get_or head 0 0 =
    sym (get_or-take (length head) (x ∷ rest) 0 0 some) ∙ ap (λ (l : List ℕ). get_or l 0 0) (sym t) ∙ get_or-take count head 0 0 h in
    ap (λ (b : ℕ). b ∷ rest) first

-- all of the buffer was read
pub full_read : (rest head : List ℕ) (count : ℕ) → take count head ≡ take (length head) rest → length head ≤ count → rest ≡ head ++ drop (length head) rest
full_read rest head count t h =
    sym (take-append-drop (length head) rest) ∙ ap (λ (x : List ℕ). x ++ drop (length head) rest) (sym t ∙ take_all count head h)

-- only a part of the buffer was read
pub short_read : (rest head : List ℕ) (count : ℕ) → count ≡ length (take (length head) rest) → count < length head → length rest < length head
short_read rest head count e h = omega (arith, length-take (length head) rest, e, h)

-- fourteen bytes in their parts
pub split_head : (h : List ℕ) → length h ≡ 14 → h ≡ get_or h 0 0 ∷ get_or h 1 0 ∷ (take 8 (drop 2 h) ++ take 4 (drop 10 h))
split_head [] e = absurd (omega (arith, e))
split_head (a ∷ []) e = absurd (omega (arith, e))
split_head (a ∷ b ∷ r) e =
    let rest : length (drop 8 r) ≤ 4 = omega (arith, length-drop 8 r, e) in
    ap (λ (x : List ℕ). a ∷ b ∷ x) (sym (take-append-drop 8 r) ∙ ap (λ (x : List ℕ). take 8 r ++ x) (sym (take_all 4 (drop 8 r) rest)))

-- Two heads that bytes begin with are one.
pub record SameHead (kind clock size other_kind other_clock other_size : ℕ) (rest other_rest : List ℕ) : Type 0 where
  pub kinds : kind ≡ other_kind
  pub clocks : clock ≡ other_clock
  pub sizes : size ≡ other_size
  pub rests : rest ≡ other_rest

pub same_head : (kind clock size other_kind other_clock other_size : ℕ) (rest other_rest : List ℕ) → clock < 2 ^ 64 → size < 2 ^ 32 → other_clock < 2 ^ 64 → other_size < 2 ^ 32
    → head_text open_gate kind clock size ++ rest ≡ head_text open_gate other_kind other_clock other_size ++ other_rest → SameHead kind clock size other_kind other_clock other_size rest other_rest
same_head kind clock size other_kind other_clock other_size rest other_rest c s other_c other_s e =
    let clocks : to_be_bytes w64 clock ≡ to_be_bytes w64 other_clock = ap (λ (l : List ℕ). take 8 (drop 2 l)) e in
    let sizes : to_be_bytes w32 size ≡ to_be_bytes w32 other_size = ap (λ (l : List ℕ). take 4 (drop 10 l)) e in
    record {
      kinds = ap (λ (l : List ℕ). get_or l 1 0) e;
      clocks = sym (from_be_bytes-to_be_bytes_8 clock c) ∙ ap (from_be_bytes w64) clocks ∙ from_be_bytes-to_be_bytes_8 other_clock other_c;
      sizes = sym (from_be_bytes-to_be_bytes_4 size s) ∙ ap (from_be_bytes w32) sizes ∙ from_be_bytes-to_be_bytes_4 other_size other_s;
      rests = ap (λ (l : List ℕ). drop 14 l) e;
    }

-- a frame that bytes begin with has the head that they begin with
pub frame_head : (f : Frame) (more rest behind : List ℕ) (kind clock size : ℕ) → Fits f → clock < 2 ^ 64 → size < 2 ^ 32
    → rest ≡ opened f ++ more → rest ≡ head_text open_gate kind clock size ++ behind → SameHead f.kind f.clock (length f.body) kind clock size (f.body ++ more) behind
frame_head f more rest behind kind clock size fits c s e h =
    same_head f.kind f.clock (length f.body) kind clock size (f.body ++ more) behind fits.clock fits.size c s
    (sym (append_assoc (head_text open_gate f.kind f.clock (length f.body)) f.body more) ∙ sym e ∙ h)

-- and it is the frame of that head and the body behind it
pub frame_is : (f : Frame) (more rest body behind : List ℕ) (kind clock : ℕ) → Fits f → clock < 2 ^ 64 → length body < 2 ^ 32
    → rest ≡ opened f ++ more → rest ≡ head_text open_gate kind clock (length body) ++ (body ++ behind) → f ≡ record { kind = kind; clock = clock; body = body }
frame_is f more rest body behind kind clock fits c s e h =
    let same = frame_head f more rest (body ++ behind) kind clock (length body) fits c s e h in
    let bodies : f.body ≡ body = sym (take_at f.body more (length body) same.sizes) ∙ ap (λ (l : List ℕ). take (length body) l) same.rests ∙ take_at body behind (length body) refl in
    ap (λ (k : ℕ). record { kind = k; clock = f.clock; body = f.body }) same.kinds
    ∙ ap (λ (k : ℕ). record { kind = kind; clock = k; body = f.body }) same.clocks
    ∙ ap (λ (b : List ℕ). record { kind = kind; clock = clock; body = b }) bodies
