-- A text is of at most one base.
use Rattle.std.proofs.Common.{◌≡◌, ℕ, ◌+◌, ◌<◌, ◌≤◌, ◌^◌, List, [], ◌∷◌, ◌++◌, length, get_or, take, drop, Option, Some, None, refl, ap, ap₂, sym, ◌∙◌, append_assoc, arith}
use Rattle.std.specs.Int.{w32, w64, to_be_bytes, from_be_bytes}
use Rattle.std.proofs.lemmas.List.{take_at, append_cancel_left}
use Rattle.std.proofs.lemmas.Nat.{from_be_bytes-to_be_bytes_4, from_be_bytes-to_be_bytes_8}
use Rattle.commit_book.specs.declared.change.Change.{Change}
use Rattle.record_log.specs.Puts.{CanPut}
use Rattle.record_log.specs.Records.{body_of, change_in}
use Rattle.record_log.proofs.RecordLemmas.{change_again, body_short}
use Rattle.store_base.specs.declared.base.BaseHead.{BaseHead}
use Rattle.store_base.specs.declared.base.BaseRow.{BaseRow}
use Rattle.store_base.specs.declared.base.RecordName.{RecordName}
use Rattle.store_base.specs.Bases.{Base}
use Rattle.store_base.specs.Sound.{CanStand, Stand, IsTail, IsBase}
use Rattle.store_base.specs.Texts.{tail_text, start_text, row_text, rows_text, text_size, text_of}

-- numbers with the same bytes are one
pub same_8 : (m n : ℕ) → m < 2 ^ 64 → n < 2 ^ 64 → to_be_bytes w64 m ≡ to_be_bytes w64 n → m ≡ n
same_8 m n low other e = sym (from_be_bytes-to_be_bytes_8 m low) ∙ ap (from_be_bytes w64) e ∙ from_be_bytes-to_be_bytes_8 n other

pub same_4 : (m n : ℕ) → m < 2 ^ 32 → n < 2 ^ 32 → to_be_bytes w32 m ≡ to_be_bytes w32 n → m ≡ n
same_4 m n low other e = sym (from_be_bytes-to_be_bytes_4 m low) ∙ ap (from_be_bytes w32) e ∙ from_be_bytes-to_be_bytes_4 n other

-- texts of one length in front of others
pub same_front : (a b x y : List ℕ) → length a ≡ length b → a ++ x ≡ b ++ y → (a ≡ b) × (x ≡ y)
same_front a b x y size e =
    let front : a ≡ b = sym (take_at a x (length a) refl) ∙ ap (take (length a)) e ∙ take_at b y (length a) (sym size) in
    (front, append_cancel_left b x y (ap (λ (l : List ℕ). l ++ x) (sym front) ∙ e))

-- ---- rows

-- changes with one body are one
pub same_change : (c d : Change) → CanPut c → CanPut d → body_of c ≡ body_of d → c ≡ d
same_change c d can other e =
    let both : Some c ≡ Some d = sym (change_again c can) ∙ ap change_in e ∙ change_again d other in
    cc

same_row : (row other : BaseRow) (last other_last horizon other_horizon : ℕ) (rest more : List ℕ) → horizon < 2 ^ 64 → other_horizon < 2 ^ 64 → CanStand last horizon row → CanStand other_last other_horizon other
    → row_text row ++ rest ≡ row_text other ++ more → (row ≡ other) × (rest ≡ more)
same_row row other last other_last horizon other_horizon rest more low other_low s t e =
    let commits : row.commit ≡ other.commit = same_8 row.commit other.commit (omega (arith, s.within, low)) (omega (arith, t.within, other_low)) (ap (take 8) e) in
    let clocks : row.clock ≡ other.clock = same_8 row.clock other.clock (omega (arith, s.clock)) (omega (arith, t.clock)) (ap (λ (l : List ℕ). take 8 (drop 8 l)) e) in
    let sizes : length (body_of row.change) ≡ length (body_of other.change)
    = same_4 (length (body_of row.change)) (length (body_of other.change)) (omega (arith, body_short row.change s.change)) (omega (arith, body_short other.change t.change)) (ap (λ (l : List ℕ). take 4 (drop 16 l)) e) in
    let bodies : body_of row.change ++ rest ≡ body_of other.change ++ more = ap (drop 20) e in
    let parts = same_front (body_of row.change) (body_of other.change) rest more sizes bodies in
    let changes : row.change ≡ other.change = same_change row.change other.change s.change t.change parts.0 in (
      ap (λ (n : ℕ). record { commit = n; clock = row.clock; change = row.change }) commits
          ∙ ap (λ (n : ℕ). record { commit = other.commit; clock = n; change = row.change }) clocks
          ∙ ap (λ (c : Change). record { commit = other.commit; clock = other.clock; change = c }) changes,
      parts.1,
    )

same_rows : (rows others : List BaseRow) (last other_last horizon other_horizon : ℕ) (rest more : List ℕ) → horizon < 2 ^ 64 → other_horizon < 2 ^ 64 → Stand last horizon rows → Stand other_last other_horizon others
    → length rows ≡ length others → rows_text rows ++ rest ≡ rows_text others ++ more → (rows ≡ others) × (rest ≡ more)
same_rows [] [] last other_last horizon other_horizon rest more low other_low s t size e = (refl, e)
same_rows [] (other ∷ others) last other_last horizon other_horizon rest more low other_low s t size e = absurd (omega (arith, size))
same_rows (row ∷ rows) [] last other_last horizon other_horizon rest more low other_low s t size e = absurd (omega (arith, size))
same_rows (row ∷ rows) (other ∷ others) last other_last horizon other_horizon rest more low other_low s t size e =
    let whole : row_text row ++ (rows_text rows ++ rest) ≡ row_text other ++ (rows_text others ++ more)
    = sym (append_assoc (row_text row) (rows_text rows) rest) ∙ e ∙ append_assoc (row_text other) (rows_text others) more in
    let first = same_row row other last other_last horizon other_horizon (rows_text rows ++ rest) (rows_text others ++ more) low other_low s.0 t.0 whole in
    let later = same_rows rows others row.commit other.commit horizon other_horizon rest more low other_low s.1 t.1 (omega (arith, size)) first.1 in
    (ap₂ (λ (r : BaseRow) (rs : List BaseRow). r ∷ rs) first.0 later.0, later.1)

-- rows that rise are not more than the horizon
pub few_rows : (last horizon : ℕ) (rows : List BaseRow) → last ≤ horizon → Stand last horizon rows → last + length rows ≤ horizon
few_rows last horizon [] low s = omega (arith, low)
few_rows last horizon (row ∷ rows) low s = (let rest = few_rows row.commit horizon rows s.0.within s.1 in let rises = s.0.rises in omega (arith, rest, rises))

-- ---- the head

same_tail : (tail other : Option RecordName) (rest more : List ℕ) → IsTail tail → IsTail other → tail_text tail ++ rest ≡ tail_text other ++ more → (tail ≡ other) × (rest ≡ more)
same_tail None None rest more s t e = (refl, ap (drop 2) e)
same_tail None (Some name) rest more s t e = (let some = t.0.some in let size : 0 ≡ length name.collection = ap (λ (l : List ℕ). get_or l 0 0) e in absurd (omega (arith, some, size)))
same_tail (Some name) None rest more s t e = (let some = s.0.some in let size : length name.collection ≡ 0 = ap (λ (l : List ℕ). get_or l 0 0) e in absurd (omega (arith, some, size)))
same_tail (Some name) (Some other) rest more s t e =
    let collection_size : length name.collection ≡ length other.collection = ap (λ (l : List ℕ). get_or l 0 0) e in
    let behind : name.collection ++ ((length name.id ∷ name.id) ++ rest) ≡ other.collection ++ ((length other.id ∷ other.id) ++ more)
    = sym (append_assoc name.collection (length name.id ∷ name.id) rest) ∙ ap (drop 1) e ∙ append_assoc other.collection (length other.id ∷ other.id) more in
    let collections = same_front name.collection other.collection ((length name.id ∷ name.id) ++ rest) ((length other.id ∷ other.id) ++ more) collection_size behind in
    let id_size : length name.id ≡ length other.id = ap (λ (l : List ℕ). get_or l 0 0) collections.1 in
    let ids = same_front name.id other.id rest more id_size (ap (drop 1) collections.1) in
    (ap₂ (λ (c i : List ℕ). Some (record { collection = c; id = i })) collections.0 ids.0, ids.1)

-- bases with the same parts are one
parts_same : (head other : BaseHead) (rows others : List BaseRow) → head.horizon ≡ other.horizon → head.clock ≡ other.clock → head.moment ≡ other.moment → head.tail ≡ other.tail → rows ≡ others
    → ◌≡◌ {A = Base} (record { head = head; rows = rows }) (record { head = other; rows = others })
parts_same head other rows others h c m t r =
    let heads : head ≡ other =
    ap (λ (n : ℕ). record { horizon = n; clock = head.clock; moment = head.moment; tail = head.tail }) h
    ∙ ap (λ (n : ℕ). record { horizon = other.horizon; clock = n; moment = head.moment; tail = head.tail }) c
    ∙ ap (λ (n : ℕ). record { horizon = other.horizon; clock = other.clock; moment = n; tail = head.tail }) m
    ∙ ap (λ (tail : Option RecordName). record { horizon = other.horizon; clock = other.clock; moment = other.moment; tail = tail }) t in
    ap₂ (λ (x : BaseHead) (rs : List BaseRow). record { head = x; rows = rs }) heads r

-- the parts of a base with bytes behind it
parts_of : (size count horizon clock moment : ℕ) (tail : Option RecordName) (rows rest : List ℕ)
    → start_text size horizon clock moment ++ (tail_text tail ++ to_be_bytes w64 count) ++ rows ++ rest ≡ start_text size horizon clock moment ++ (tail_text tail ++ (to_be_bytes w64 count ++ (rows ++ rest)))
parts_of size count horizon clock moment tail rows rest =
    append_assoc (start_text size horizon clock moment ++ (tail_text tail ++ to_be_bytes w64 count)) rows rest
    ∙ append_assoc (start_text size horizon clock moment) (tail_text tail ++ to_be_bytes w64 count) (rows ++ rest)
    ∙ ap (λ (l : List ℕ). start_text size horizon clock moment ++ l) (append_assoc (tail_text tail) (to_be_bytes w64 count) (rows ++ rest))

pub one_base : (base other : Base) (rest more : List ℕ) → IsBase base → IsBase other → text_of base ++ rest ≡ text_of other ++ more → (base ≡ other) × (rest ≡ more)
one_base base other rest more s t e =
    let head = s.head in
    let other_head = t.head in
    let low : base.head.horizon < 2 ^ 64 = (let bound = head.horizon in omega (arith, bound)) in
    let other_low : other.head.horizon < 2 ^ 64 = (let bound = other_head.horizon in omega (arith, bound)) in
    let count_low : length base.rows < 2 ^ 64 = omega (arith, low, few_rows 0 base.head.horizon base.rows (omega arith) s.rows) in
    let other_count_low : length other.rows < 2 ^ 64 = omega (arith, other_low, few_rows 0 other.head.horizon other.rows (omega arith) t.rows) in
    let whole : start_text (text_size base) base.head.horizon base.head.clock base.head.moment ++ (tail_text base.head.tail ++ (to_be_bytes w64 (length base.rows) ++ (rows_text base.rows ++ rest)))
    ≡ start_text (text_size other) other.head.horizon other.head.clock other.head.moment ++ (tail_text other.head.tail ++ (to_be_bytes w64 (length other.rows) ++ (rows_text other.rows ++ more)))
    = sym (parts_of (text_size base) (length base.rows) base.head.horizon base.head.clock base.head.moment base.head.tail (rows_text base.rows) rest) ∙ e
    ∙ parts_of (text_size other) (length other.rows) other.head.horizon other.head.clock other.head.moment other.head.tail (rows_text other.rows) more in
    let horizons = same_8 base.head.horizon other.head.horizon low other_low (ap (λ (l : List ℕ). take 8 (drop 12 l)) whole) in
    let clocks = same_8 base.head.clock other.head.clock (let bound = head.clock in omega (arith, bound)) (let bound = other_head.clock in omega (arith, bound)) (ap (λ (l : List ℕ). take 8 (drop 20 l)) whole) in
    let moments = same_8 base.head.moment other.head.moment (let bound = head.moment in omega (arith, bound)) (let bound = other_head.moment in omega (arith, bound)) (ap (λ (l : List ℕ). take 8 (drop 28 l)) whole) in
    let tails = same_tail base.head.tail other.head.tail (to_be_bytes w64 (length base.rows) ++ (rows_text base.rows ++ rest)) (to_be_bytes w64 (length other.rows) ++ (rows_text other.rows ++ more)) head.tail other_head.tail (ap (drop 36) whole) in
    let counts = same_8 (length base.rows) (length other.rows) count_low other_count_low (ap (take 8) tails.1) in
    let rows = same_rows base.rows other.rows 0 0 base.head.horizon other.head.horizon rest more low other_low s.rows t.rows counts (ap (drop 8) tails.1) in
    (parts_same base.head other.head base.rows other.rows horizons clocks moments tails.0 rows.0, rows.1)
