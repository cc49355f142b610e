-- Two calls, one after the other, seen as one.
use Rattle.std.proofs.Common.{◌≡◌, ℕ, ◌+◌, List, [], ◌∷◌, ◌++◌, length, take, Option, Some, None, refl, append_assoc, append-nil, sym, subst, arith, length-append}
use Rattle.std.proofs.Math.Seq.{take-append-add}
use Rattle.q_outside.specs.Ends.{End, Takes, Gives, TookBytes, GaveBytes, GavePart, Ticks}

-- a call that took nothing leaves what was left
pub Takes-nothing : {A : Type 0} (left : Option (List A)) → Takes left left []
Takes-nothing None = tt
Takes-nothing (Some left) = (left, refl, refl)

-- what two calls took is taken in one
pub Takes-append : {A : Type 0} (first middle last : Option (List A)) (xs ys : List A) → Takes first middle xs → Takes middle last ys → Takes first last (xs ++ ys)
Takes-append None middle last xs ys t u = tt
Takes-append (Some left) None last xs ys t u = let e = t.1 in cc
Takes-append {A} (Some left) (Some rest) last xs ys t u =
    let same : rest ≡ t.0 = let e = t.1 in cc in
    let first : left ≡ xs ++ t.0 = t.2 in
    let second : rest ≡ ys ++ u.0 = u.2 in
    let joined : (xs ++ ys) ++ u.0 ≡ xs ++ (ys ++ u.0) = append_assoc xs ys u.0 in
    (u.0, u.1, cc)

-- a call that gave nothing leaves what was held
pub Gives-nothing : {A : Type 0} (held : Option (List A)) → Gives held held []
Gives-nothing None = tt
Gives-nothing (Some held) = let e : held ++ [] ≡ held = append-nil held in cc

-- what two calls gave is given in one
pub Gives-append : {A : Type 0} (first middle last : Option (List A)) (xs ys : List A) → Gives first middle xs → Gives middle last ys → Gives first last (xs ++ ys)
Gives-append None middle last xs ys t u = tt
Gives-append (Some held) None last xs ys t u = cc
Gives-append {A} (Some held) (Some more) last xs ys t u =
    let joined : (held ++ xs) ++ ys ≡ held ++ (xs ++ ys) = append_assoc held xs ys in
    cc

-- a source from which nothing was taken
pub took_nothing : (source : End) → TookBytes source source []
took_nothing source = record { taken = Takes-nothing source.bytes; count = omega arith }

-- what two calls took is taken in one
pub took_both : (first middle last : End) (xs ys : List ℕ) → TookBytes first middle xs → TookBytes middle last ys → TookBytes first last (xs ++ ys)
took_both first middle last xs ys t u =
    record { taken = Takes-append first.bytes middle.bytes last.bytes xs ys t.taken u.taken; count = omega (arith, t.count, u.count) }

-- a sink that was given nothing
pub gave_nothing : (sink : End) → GaveBytes sink sink []
gave_nothing sink = record { given = Gives-nothing sink.bytes; count = omega arith }

-- what two calls gave is given in one
pub gave_both : (first middle last : End) (xs ys : List ℕ) → GaveBytes first middle xs → GaveBytes middle last ys → GaveBytes first last (xs ++ ys)
gave_both first middle last xs ys g h =
    record { given = Gives-append first.bytes middle.bytes last.bytes xs ys g.given h.given; count = omega (arith, g.count, h.count) }

-- a first piece whole, and then the beginning of a second
pub part_behind : (before mid after : End) (first second : List ℕ) → GaveBytes before mid first → GavePart mid after second → GavePart before after (first ++ second)
part_behind before mid after first second g p =
    let size : length (first ++ second) ≡ length first + length second = length-append first second in
    let text : take (length first + p.size) (first ++ second) ≡ first ++ take p.size second = take-append-add first second p.size in
    let both : Gives before.bytes after.bytes (first ++ take p.size second) = Gives-append before.bytes mid.bytes after.bytes first (take p.size second) g.given p.given in
    record {
      size = length first + p.size;
      part = omega (arith, size, p.part);
      given = subst (λ (t : List ℕ). Gives before.bytes after.bytes t) (sym text) both;
      rises = omega (arith, g.count, p.rises);
    }

-- one moment more
pub Ticks-append : {C : Type 0} (tick : C → ℕ → C → Type 0) (first middle last : C) (xs ys : List ℕ) → Ticks tick first xs middle → Ticks tick middle ys last → Ticks tick first (xs ++ ys) last
Ticks-append tick first middle last [] ys t u = subst (λ c. Ticks tick c ys last) (sym t) u
Ticks-append tick first middle last (x ∷ xs) ys t u = (t.0, t.1, Ticks-append tick t.0 middle last xs ys t.2 u)
